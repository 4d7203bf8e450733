-- Fewer tokens are readable too.
use Rattle.std.proofs.Common.{ℕ, zero, suc, List, [], ◌∷◌, take, drop}
use Rattle.fr_syntax.specs.declared.token.Token.{Token}
use Rattle.fr_syntax.specs.TokenList.{AreReadable}

-- the tokens behind some
readable_drop : (n k : ℕ) (ts : List Token) → AreReadable n ts → AreReadable n (drop k ts)
readable_drop n zero ts h = h
readable_drop n (suc k) [] h = h
readable_drop n (suc k) (t ∷ ts) h = readable_drop n k ts h.1

-- the first tokens
readable_take : (n k : ℕ) (ts : List Token) → AreReadable n ts → AreReadable n (take k ts)
readable_take n zero ts h = tt
readable_take n (suc k) [] h = h
readable_take n (suc k) (t ∷ ts) h = (h.0, readable_take n k ts h.1)

-- some tokens in the middle, as code has them
pub readable_part : (n m k : ℕ) (ts : List Token) → AreReadable n ts → AreReadable n (take m (drop k ts))
readable_part n m k ts h = readable_take n m (drop k ts) (readable_drop n k ts h)
