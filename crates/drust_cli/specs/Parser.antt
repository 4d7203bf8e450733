-- The parser that `clap` is asked to be: options with a value under these names, and nothing else.
use Rattle.std.specs.Prelude.{List, Some, codes, true, map}
use Rattle.clap.specs.Words.{App, Rule, Text, new_app, new_rule}

-- an option with a value
abbrev pub option_rule : Text → Rule
option_rule name = record (new_rule name) { long = Some name }

abbrev pub with_rules : List Rule → App
with_rules rules = let a = new_app (codes "drust") in record a {
  top = record a.top {
    rules = rules;
    no_binary_name = true;
    disable_help_flag = true;
    disable_version_flag = true;
    disable_help_subcommand = true;
  };
}

abbrev pub parser_of : List Text → App
parser_of names = with_rules (map option_rule names)
