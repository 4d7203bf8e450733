-- Sets of places as lists.
use Rattle.std.specs.Prelude.{◌≡◌, ℕ, ◌<◌, ⊤, true, List, [], ◌∷◌, length}
use Rattle.std.specs.List.{prefix_len}
use Rattle.fr_base.specs.declared.place.Lval.{Lval}
use Rattle.fr_typing.specs.Kinds.{lval_lt}

-- each place stands before the next one
abbrev pub IsRising : List Lval → Type 0
IsRising [] = ⊤
IsRising (u ∷ []) = ⊤
IsRising (u ∷ v ∷ vs) = (lval_lt u v ≡ true) × IsRising (v ∷ vs)

-- a set of places (Featherweight Rust names one place; sets are this project's, for branches): not empty, and rising
pub record IsPlaceSet (us : List Lval) : Type 0 where
  pub some : 0 < length us
  pub rising : IsRising us

-- how many places at the front stand before it
abbrev pub rank : Lval → List Lval → ℕ
rank u vs = prefix_len (λ v. lval_lt v u) vs
