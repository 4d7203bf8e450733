-- Items of which each keeps the rules of a text and the limits.
use Rattle.std.proofs.Common.{ℕ, zero, suc, ◌≤◌, true, List, [], ◌∷◌, ◌++◌, max, arith}
use Rattle.std.proofs.Math.Nat.{max-le, le-max_left, le-max_right}
use Rattle.fr_terms.specs.Terms.{Term}
use Rattle.fr_terms.specs.Limits.{levels, levels_of, HasShortPlaces, HaveShortPlaces}
use Rattle.fr_parse.specs.Canonical.{IsSpellable, AreSpellable}
use Rattle.gen_load.specs.Programs.{items, times}

-- items that stand where they may, with short places, of so many levels at most
pub record AreFine (n : ℕ) (ts : List Term) : Type 0 where
  pub spellable : AreSpellable (items ts)
  pub short : HaveShortPlaces (items ts)
  pub levels : levels_of (items ts) ≤ n

pub none_fine : (n : ℕ) → AreFine n []
none_fine n = record { spellable = tt; short = tt; levels = omega arith }

pub one_fine : (n : ℕ) (t : Term) (ts : List Term) → IsSpellable true t → HasShortPlaces t → levels t ≤ n → AreFine n ts → AreFine n (t ∷ ts)
one_fine n t ts s p l h = record { spellable = (s, h.spellable); short = (p, h.short); levels = max-le l h.levels }

pub both_fine : (n : ℕ) (ts us : List Term) → AreFine n ts → AreFine n us → AreFine n (ts ++ us)
both_fine n [] us h g = g
both_fine n (t ∷ ts) us h g =
    let left = below (levels t) (levels_of (items ts)) n h.levels in
    let rest : AreFine n ts = record { spellable = h.spellable.1; short = h.short.1; levels = left.1 } in
    one_fine n t (ts ++ us) h.spellable.0 h.short.0 left.0 (both_fine n ts us rest g)
  where
    below : (a b n : ℕ) → max a b ≤ n → (a ≤ n) × (b ≤ n)
    below a b n l = (omega (arith, l, le-max_left a b), omega (arith, l, le-max_right a b))

pub times_fine : (n k : ℕ) (ts : List Term) → AreFine n ts → AreFine n (times k ts)
times_fine n zero ts h = none_fine n
times_fine n (suc k) ts h = both_fine n ts (times k ts) h (times_fine n k ts h)
