-- What contracts see of a list of tokens (this project's rule).
use Rattle.std.specs.Prelude.{◌≡◌, ◌≢◌, ℕ, ◌<◌, ◌≤◌, pos, ◌≤ℤ◌, List, [], ◌∷◌, length, ⊤}
use Rattle.fr_terms.specs.Terms.{Text}
use Rattle.fr_syntax.specs.Bounds.{most_numbered, most_tokens}
use Rattle.fr_syntax.specs.declared.kind.TokenKind.{TokenKind}
use Rattle.fr_syntax.specs.declared.kind.TokenKind.TheVariants.{Name, Number, End}
use Rattle.fr_syntax.specs.declared.token.Token.{Token}

pub record TokenList : Type 0 where
  pub items : List Token
  -- the texts of the names, by number
  pub names : List Text
  -- how many more tokens fit without memory
  pub spare : ℕ

-- where there are so many names, the name of a `Name` is there; a number has no sign, since a minus is a token of its own
abbrev pub IsReadable : ℕ → TokenKind → Type 0
IsReadable count (Name n) = n < count
IsReadable count (Number value) = pos 0 ≤ℤ value
IsReadable count kind = ⊤

abbrev pub AreReadable : ℕ → List Token → Type 0
AreReadable count [] = ⊤
AreReadable count (t ∷ ts) = IsReadable count t.kind × AreReadable count ts

-- of a list of tokens with so many names: each token can be read, and there are few enough of both
pub record IsTokenList (count : ℕ) (tokens : List Token) : Type 0 where
  pub readable : AreReadable count tokens
  pub few_names : count ≤ most_numbered
  pub few_tokens : length tokens ≤ most_tokens

-- a token that can be read and is not the end
abbrev pub IsInner : ℕ → TokenKind → Type 0
IsInner count End = ⊥
IsInner count kind = IsReadable count kind

-- the last token, and no other, is the end
abbrev pub EndsOnce : List Token → Type 0
EndsOnce [] = ⊥
EndsOnce (t ∷ []) = t.kind ≡ End
EndsOnce (t ∷ u ∷ ts) = (t.kind ≢ End) × EndsOnce (u ∷ ts)
