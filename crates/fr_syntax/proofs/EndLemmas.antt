-- Tokens before the end, and the end.
use Rattle.std.proofs.Common.{◌≡◌, ◌≢◌, ℕ, List, [], ◌∷◌, ◌++◌, subst, sym}
use Rattle.std.specs.Prelude.{All}
use Rattle.std.proofs.lemmas.List.Elements.{All-head, All-tail, All-push}
use Rattle.fr_syntax.specs.declared.kind.TokenKind.{TokenKind}
use Rattle.fr_syntax.specs.declared.kind.TokenKind.TheVariants.{End}
use Rattle.fr_syntax.specs.declared.token.Token.{Token}
use Rattle.fr_syntax.specs.TokenList.{IsReadable, IsInner, EndsOnce}

-- a token before the end can be read
pub inner_readable : (n : ℕ) (kind : TokenKind) → IsInner n kind → IsReadable n kind
inner_readable n End h = absurd h
inner_readable n kind h = h

-- and it is not the end
pub inner_open : (n : ℕ) (kind : TokenKind) → IsInner n kind → kind ≢ End
inner_open n End h = absurd h
inner_open n kind h = λ e. cc

abbrev pub IsOpen : Token → Type 0
IsOpen t = t.kind ≢ End

-- the end behind tokens that are not the end stands once
pub ends_once : (front : List Token) (t : Token) → All IsOpen front → t.kind ≡ End → EndsOnce (front ++ t ∷ [])
ends_once [] t h e = e
ends_once (u ∷ []) t h e = (All-head IsOpen u [] h, e)
ends_once (u ∷ v ∷ ts) t h e = (All-head IsOpen u (v ∷ ts) h, ends_once (v ∷ ts) t (All-tail IsOpen u (v ∷ ts) h) e)

pub ends_pushed : (front all : List Token) (t : Token) → All IsOpen front → t.kind ≡ End → all ≡ front ++ t ∷ [] → EndsOnce all
ends_pushed front all t h e is = subst EndsOnce (sym is) (ends_once front t h e)

-- one token more before the end
pub open_pushed : (n : ℕ) (front all : List Token) (t : Token) → All IsOpen front → IsInner n t.kind → all ≡ front ++ t ∷ [] → All IsOpen all
open_pushed n front all t h i is = subst (All IsOpen) (sym is) (All-push IsOpen front t h (inner_open n t.kind i))
