-- Tokens that can be read.
use Rattle.std.proofs.Common.{◌≡◌, ℕ, zero, suc, ◌<◌, ◌≤◌, List, [], ◌∷◌, ◌++◌, length, length-append, arith, subst, sym, Bor}
use Rattle.std.specs.Prelude.{Option, Some, None, Result, Ok, Err, OnOk, OnErr, IfSome, option_copied, slice_get}
use Rattle.fr_syntax.specs.Bounds.{most_numbered, most_tokens}
use Rattle.fr_syntax.specs.declared.kind.TokenKind.{TokenKind}
use Rattle.fr_syntax.specs.declared.kind.TokenKind.TheVariants.{Name, Number}
use Rattle.fr_syntax.specs.declared.token.Token.{Token}
use Rattle.fr_syntax.specs.TokenList.{IsReadable, AreReadable, IsTokenList}

-- one token more
readable_pushed : (n : ℕ) (ts : List Token) (t : Token) → AreReadable n ts → IsReadable n t.kind → AreReadable n (ts ++ t ∷ [])
readable_pushed n [] t h is = (is, tt)
readable_pushed n (u ∷ ts) t h is = (h.0, readable_pushed n ts t h.1 is)

-- also where it is refused
pub list_pushed : {E : Type 0} (r : Result (Unit {0}) E) (n : ℕ) (ts us : List Token) (t : Token) → IsTokenList n ts → IsReadable n t.kind → length ts < most_tokens → OnOk r (us ≡ ts ++ t ∷ []) → OnErr r (us ≡ ts) → IsTokenList n us
list_pushed (Ok x) n ts us t h is few pushed same = subst (IsTokenList n) (sym pushed) (record {
  readable = readable_pushed n ts t h.readable is;
  few_names = h.few_names;
  few_tokens = omega (arith, length-append ts (t ∷ []));
})
list_pushed (Err e) n ts us t h is few pushed same = subst (IsTokenList n) (sym same) h

-- more names
kind_more : (n m : ℕ) (k : TokenKind) → n ≤ m → IsReadable n k → IsReadable m k
kind_more n m (Name x) more h = omega arith
kind_more n m (Number value) more h = h
kind_more n m k more h = tt

readable_more : (n m : ℕ) (ts : List Token) → n ≤ m → AreReadable n ts → AreReadable m ts
readable_more n m [] more h = tt
readable_more n m (t ∷ ts) more h = (kind_more n m t.kind more h.0, readable_more n m ts more h.1)

pub list_named : (n m : ℕ) (ts : List Token) → n ≤ m → m ≤ most_numbered → IsTokenList n ts → IsTokenList m ts
list_named n m ts more few h = record { readable = readable_more n m ts more h.readable; few_names = few; few_tokens = h.few_tokens }

-- a token among them
readable_at : (n : ℕ) (ts : List Token) (k : ℕ) (t : Token) → AreReadable n ts → slice_get ts k ≡ Some t → IsReadable n t.kind
readable_at n [] k t h e = cc
readable_at n (u ∷ ts) zero t h e = let same : u ≡ t = cc in subst (λ (t : Token). IsReadable n t.kind) same h.0
readable_at n (u ∷ ts) (suc k) t h e = readable_at n ts k t h.1 e

-- also where there may be none
pub seen_readable : (n : ℕ) (ts : List Token) (k : ℕ) (seen : Option (Bor Token)) → AreReadable n ts → option_copied seen ≡ slice_get ts k → IfSome seen (λ t. IsReadable n t.now.kind)
seen_readable n ts k None h e = tt
seen_readable n ts k (Some t) h e = readable_at n ts k t.now h (sym e)
