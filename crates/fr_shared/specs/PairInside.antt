-- The fields of the pairs.
use Rattle.std.specs.Prelude.{◌≡◌, ℕ, ◌==◌, false, ⊤, List, [], ◌∷◌, Option, Some, None}
use Rattle.indexmap.specs.IndexMap.{spare}
use Rattle.fr_plain.specs.MachineThreads.{Pair}
use Rattle.fr_shared.specs.declared.pairs.Two.{Two}
use Rattle.fr_shared.specs.declared.pairs.Pairs.TheInside.{Inside}
use Rattle.fr_shared.specs.PairRoom.{PairRoom}

-- the pair of a parent
abbrev pub pair_from : ℕ → Two → Pair
pair_from t x = record { parent = t; first = x.first; second = x.second }

abbrev pub two_from : ℕ → Option Two → Option Pair
two_from t None = None
two_from t (Some x) = Some (pair_from t x)

-- pairs that were started later come first
abbrev pub pairs_onto : List Pair → List (ℕ × Two) → List Pair
pairs_onto ps [] = ps
pairs_onto ps (e ∷ es) = pairs_onto (pair_from e.0 e.1 ∷ ps) es

abbrev pub pairs_view : Inside → PairRoom
pairs_view p = record { pairs = pairs_onto [] p.twos.entries; spare = spare p.twos }

-- the parent waits for none of these
abbrev pub IsFree : List (ℕ × Two) → ℕ → Type 0
IsFree [] t = ⊤
IsFree (e ∷ es) t = (e.0 == t ≡ false) × IsFree es t

-- no parent waits for two pairs
abbrev pub AreApart : List (ℕ × Two) → Type 0
AreApart [] = ⊤
AreApart (e ∷ es) = IsFree es e.0 × AreApart es
