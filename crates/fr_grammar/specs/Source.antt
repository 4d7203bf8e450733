-- What a source is (this project's rule).
use Rattle.std.specs.Prelude.{ℕ, List}
use Rattle.fr_terms.specs.Terms.{Text, Term}
use Rattle.fr_terms.specs.Limits.{IsWithinLimits}
use Rattle.fr_syntax.specs.declared.token.Token.{Token}
use Rattle.fr_syntax.specs.Tokens.{AreTokens}
use Rattle.fr_grammar.specs.Grammar.{IsProgram}

-- the tokens spell this program, which keeps the limits
pub record Spelled (names : List Text) (ts : List Token) (t : Term) : Type 0 where
  pub grammar : IsProgram names ts t
  pub limits : IsWithinLimits t

-- the bytes are the text of this program
pub record IsSource (bytes : List ℕ) (t : Term) : Type 0 where
  pub names : List Text
  pub ts : List Token
  pub tokens : AreTokens bytes ts names
  pub program : Spelled names ts t
