use Rattle.std.proofs.Common.{◌≡◌, ◌-◌, ◌≤◌, take, length}
use Rattle.fr_syntax.specs.Meanings.{meanings}
use Rattle.fr_grammar.proofs.program.copy_names.Given as goal

abbrev pub invariant-each : goal.invariant-each
invariant-each l = record {
  names : l.tree.names ≡ take l.no l.tokens.names;
  within : l.no ≤ length l.tokens.names;
  meanings : meanings l.tree ≡ meanings l.initial.tree;
}

abbrev pub decreases-each : goal.decreases-each
decreases-each l = length l.tokens.names - l.no
