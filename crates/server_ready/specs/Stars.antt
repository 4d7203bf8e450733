-- How many stars are followed to make a place ready (this project's own).
use Rattle.std.specs.Prelude.{ℕ, ◌+◌, Option, Some, None, slice_get}
use Rattle.thread_state.specs.View.{ThreadState}
use Rattle.thread_state.specs.declared.value.Value.{Value}
use Rattle.thread_state.specs.declared.value.Value.TheVariants as value
use Rattle.server_model.specs.Places.{Spot, in_slot, on_top}
use Rattle.server_model.specs.Prepare.{Access, ReadTo, ReadPointer, WriteTo, LendTo, EndRef}
use Rattle.server_model.specs.Work.{last_of}

-- the value of the thread at a spot; a cell has no reference
abbrev pub own_value : Spot → ThreadState → Option Value
own_value (in_slot i) t = slice_get t.slots i
own_value on_top t = last_of t.temps
own_value s t = None

-- those of a mutable reference that ends: one for itself, and those of its holder's place
abbrev pub ended_stars : Option Value → ℕ
ended_stars (Some (value.Mut r)) = r.holder.depth + 1
ended_stars v = 0

-- how many are followed at most
abbrev pub stars : Option Access → ThreadState → ℕ
stars None t = 0
stars (Some (ReadTo w)) t = w.depth
stars (Some (ReadPointer w)) t = w.depth
stars (Some (WriteTo w)) t = w.depth
stars (Some (LendTo w)) t = w.depth
stars (Some (EndRef s)) t = ended_stars (own_value s t)
