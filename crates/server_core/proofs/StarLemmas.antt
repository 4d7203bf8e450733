-- How many stars an instruction's place has.
use Rattle.std.proofs.Common.{◌≡◌, ℕ, zero, suc, ◌-◌, Bool, true, false, length, Option, None, Some, refl, ap}
use Rattle.fr_base.specs.declared.place.Lval.{Lval}
use Rattle.thread_state.specs.View.{ThreadState}
use Rattle.thread_state.specs.declared.value.Value.{Value}
use Rattle.thread_state.specs.declared.value.Value.TheVariants as value
use Rattle.server_model.specs.Places.{Spot, in_slot}
use Rattle.server_model.specs.Prepare.{ending, read_or_taken}
use Rattle.server_model.specs.Work.{last_of}
use Rattle.server_ready.specs.Stars.{ended_stars, own_value, stars}

-- a mutable reference that ends where it stands
pub ending_stars : (s : Spot) (t : ThreadState) → stars (ending s (own_value s t)) t ≡ ended_stars (own_value s t)
ending_stars s t = by (own_value s t) refl
  where
    by : (o : Option Value) → own_value s t ≡ o → stars (ending s o) t ≡ ended_stars o
    by None e = refl
    by (Some value.Gone) e = refl
    by (Some (value.Own v)) e = refl
    by (Some (value.SharedSlot i)) e = refl
    by (Some (value.MutSlot i)) e = refl
    by (Some (value.Shared r)) e = refl
    by (Some (value.Mut r)) e = ap ended_stars e
    by (Some (value.Held m)) e = refl

-- the last slot
pub last_stars : (t : ThreadState) → stars (ending (in_slot (length t.slots - 1)) (last_of t.slots)) t ≡ ended_stars (last_of t.slots)
last_stars t = ending_stars (in_slot (length t.slots - 1)) t

-- a read, and a move out
pub read_stars : (w : Lval) (take : Bool) (t : ThreadState) → stars (Some (read_or_taken w w.depth take)) t ≡ w.depth
read_stars w take t = by w.depth take
  where
    by : (d : ℕ) (b : Bool) → stars (Some (read_or_taken w d b)) t ≡ w.depth
    by zero b = refl
    by (suc d) true = refl
    by (suc d) false = refl
