use Rattle.std.proofs.Common.{◌≡◌, map, take}
use Rattle.clap.specs.Words.{app_of}
use Rattle.drust_cli.specs.Parser.{parser_of}
use Rattle.drust_cli.proofs.parser.parser.Given as goal

-- the options of the names so far are there
abbrev pub invariant-loop-name : goal.invariant-loop-name
invariant-loop-name l = app_of l.parser ≡ parser_of (map (λ n. n.now) (take l.name-index l.names))
