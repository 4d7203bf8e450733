-- Which references have a join, in one environment.
use Rattle.std.specs.Prelude.{◌≡◌, ℕ, [], ◌∷◌, Some, None}
use Rattle.fr_base.specs.declared.place.Lval.{Lval}
use Rattle.fr_typing.specs.Kinds.{int, box, own, shared, mutable, Kind, whole, join_kind}
use Rattle.fr_typing.specs.Places.{Slot, Env, found, no_target, alike, type_at, heap_type}

-- a slot, and a slot under one star
abbrev at : ℕ → Lval
at x = record { slot = x; depth = 0 }

abbrev star_at : ℕ → Lval
star_at x = record { slot = x; depth = 1 }

abbrev slot : Kind → Slot
slot k = record { name = None; part = whole k }

-- slots 0 and 1 hold an integer, 2 a box; 3, 4 and 5 refer to these, 6 and 7 to 3 and 5; 8 refers to 3 or 4, which have one shape,
-- 9 to 3 or 5 and 10 to 6 or 7, which have two
abbrev slots : Env
slots =
    slot (shared (at 6 ∷ at 7 ∷ []))
    ∷ slot (mutable (at 3 ∷ at 5 ∷ []))
    ∷ slot (mutable (at 3 ∷ at 4 ∷ []))
    ∷ slot (shared (at 5 ∷ []))
    ∷ slot (shared (at 3 ∷ []))
    ∷ slot (shared (at 2 ∷ []))
    ∷ slot (shared (at 1 ∷ []))
    ∷ slot (shared (at 0 ∷ []))
    ∷ slot (own (box int))
    ∷ slot (own int)
    ∷ slot (own int)
    ∷ []

pub record JoinsCompute : Type 0 where
  pub shared_alike : join_kind (alike slots) (shared (at 0 ∷ [])) (shared (at 1 ∷ [])) ≡ Some (shared (at 0 ∷ at 1 ∷ []))
  pub shared_apart : join_kind (alike slots) (shared (at 0 ∷ [])) (shared (at 2 ∷ [])) ≡ None
  pub mutable_alike : join_kind (alike slots) (mutable (at 3 ∷ [])) (mutable (at 4 ∷ [])) ≡ Some (mutable (at 3 ∷ at 4 ∷ []))
  pub mutable_apart : join_kind (alike slots) (mutable (at 3 ∷ [])) (mutable (at 5 ∷ [])) ≡ None
  pub inside_box : join_kind (alike slots) (shared (at 1 ∷ [])) (shared (star_at 2 ∷ [])) ≡ Some (shared (at 1 ∷ star_at 2 ∷ []))
  pub to_alike : type_at slots (star_at 8) ≡ found (whole (shared (at 0 ∷ at 1 ∷ [])))
  pub to_apart : type_at slots (star_at 9) ≡ no_target
  pub to_apart_below : type_at slots (star_at 10) ≡ no_target
  pub of_two_types : heap_type slots (at 0 ∷ at 2 ∷ []) ≡ None
