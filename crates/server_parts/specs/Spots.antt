-- The spots of the code as the definitions have them.
use Rattle.std.specs.Prelude.{Bool, true, false, List, []}
use Rattle.thread_state.specs.declared.value.Value.{Value}
use Rattle.server_model.specs.Places.{Spot, in_slot, on_top, in_cell, in_copy, nowhere}
use Rattle.server_parts.specs.declared.spot.Spot.{Spot as Here}
use Rattle.server_parts.specs.declared.spot.Spot.TheVariants as here

-- where a value stands that a thread follows
abbrev pub spot : Here → Spot
spot (here.Slot i) = in_slot i
spot here.Top = on_top
spot (here.Cell w through) = in_cell w through
spot (here.Copy w) = in_copy w
spot here.Nowhere = nowhere

-- a temporary value is there, where one stands at the spot
abbrev pub has_top : Spot → List Value → Bool
has_top on_top [] = false
has_top s vs = true
