-- Where the hops of a write lead that are ready already: following them again changes nothing of the server or the thread.
use Rattle.std.specs.Prelude.{ℕ, zero, suc, Option, Some, None}
use Rattle.place_walk.specs.declared.hop.Hop.{Hop}
use Rattle.place_walk.specs.declared.hop.Hop.TheVariants as hop
use Rattle.place_walk.specs.Hops.{write_hop}
use Rattle.server_model.specs.Work.{Hand, then_some}
use Rattle.server_model.specs.Places.{Spot, in_slot, in_cell, value_at, slot_in}

-- one such hop, from that spot
abbrev pub pass_spot : Spot → Option Hop → Option Spot
pass_spot s (Some (hop.Slot i)) = Some (in_slot i)
pass_spot s (Some (hop.NeedTint w)) = Some (in_cell w None)
pass_spot s (Some (hop.AtCell w)) = Some (in_cell w (slot_in s))
pass_spot s o = None

-- so many of them
abbrev pub passes : ℕ → Hand → Spot → Option Spot
passes zero h s = Some s
passes (suc d) h s = then_some (then_some (value_at h s) (λ v. pass_spot s (write_hop h.work.rest.number v))) (passes d h)
