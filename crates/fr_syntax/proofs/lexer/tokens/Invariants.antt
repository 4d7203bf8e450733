use Rattle.std.proofs.Common.{◌≡◌, ◌≢◌, ◌+◌, ◌≤◌, [], length}
use Rattle.std.specs.Prelude.{All}
use Rattle.fr_syntax.specs.declared.token.Token.{Token}
use Rattle.fr_syntax.specs.declared.kind.TokenKind.TheVariants.{End}
use Rattle.fr_syntax.specs.Tokens.{Leads}
use Rattle.fr_syntax.proofs.lexer.tokens.Given as goal

abbrev pub invariant-each : goal.invariant-each
invariant-each l = record {
  leads : Leads [] 0 l.bytes l.tokens.items l.tokens.names l.place l.rest;
  same : l.known ≡ l.tokens.names;
  all : l.place + length l.rest ≡ length l.bytes;
  few : length l.tokens.names ≤ l.place;
  short : length l.tokens.items ≤ l.place;
  inner : All (λ (t : Token). t.kind ≢ End) l.tokens.items;
}

abbrev pub decreases-each : goal.decreases-each
decreases-each l = length l.rest
