-- All ways in which places are followed, together.
use Rattle.std.proofs.Common.{◌≡◌, ℕ, zero, suc, ◌-◌, Bool, true, false, length, Option, Some, None, refl}
use Rattle.std.specs.Prelude.{slice_get}
use Rattle.law_results_reads.specs.Below.fr_base.Lists.{last_of}
use Rattle.law_results_reads.specs.Below.fr_base.declared.place.Lval.{Lval}
use Rattle.law_results_reads.specs.Below.fr_base.declared.instruction.Instr.{Instr}
use Rattle.law_results_reads.specs.Below.fr_base.declared.instruction.Instr.TheVariants as instr
use Rattle.law_results_reads.specs.Below.thread_state.declared.value.Value.{Value}
use Rattle.law_results_reads.specs.Below.thread_state.declared.value.Value.TheVariants as value
use Rattle.law_results_reads.specs.Below.server_model.Places.{Spot, in_slot, on_top}
use Rattle.law_results_reads.specs.Below.server_model.Prepare.{Access, ending, assigned, read_or_taken, access_of}
use Rattle.law_results_reads.specs.Below.law_counts_sums.Kinds.{step_assign, step_read, step_discard, step_drop_slot, instr_kind}
use Rattle.law_results_reads.specs.Below.law_counts_sums.Laws.{HasResult}
use Rattle.law_results_reads.specs.Below.server_model.declared.event.What.TheVariants.{Step}
use Rattle.law_results_reads.specs.Results.{FollowsNone, no_place, reads_variable, ReadsPlace, reads, Anyhow, StepsHaveResults}
use Rattle.law_results_reads.proofs.Variables.{quiet_steps}
use Rattle.law_results_reads.proofs.Readers.{copies_have_results}
use Rattle.law_results_events.proofs.writes.Follows.{WritesPlace, writes, EndsReference, ends_there}
use Rattle.law_results_events.proofs.writes.WriteSteps.{moves_have_results, assignments_have_results}
use Rattle.law_results_events.proofs.writes.EndSteps.{ending_discards, ending_drops, ending_assignments}

-- the ways of a read
data ReadWay : Option Access → Type 0 where
  by_none : {a : Option Access} → FollowsNone a → ReadWay a
  by_read : {a : Option Access} → ReadsPlace a → ReadWay a
  by_write : {a : Option Access} → WritesPlace a → ReadWay a

read_way : (w : Lval) (d : ℕ) (take : Bool) → w.depth ≡ d → ReadWay (Some (read_or_taken w d take))
read_way w zero true e = by_none (reads_variable e)
read_way w (suc d) true e = by_write writes
read_way w zero false e = by_read reads
read_way w (suc d) false e = by_read reads

pub each_read : StepsHaveResults step_read Anyhow
each_read k n t s y i coherent few server on at code is f = by i code is
  where
    go : (i : Instr) → slice_get k.code y.pc ≡ Some i → instr_kind i ≡ step_read → ReadWay (access_of i y) → HasResult k n (Step t)
    go i c e (by_none g) = quiet_steps step_read tt (λ q. cc) k n t s y i coherent few server on at c e g
    go i c e (by_read g) = copies_have_results k n t s y i coherent few server on at c e g
    go i c e (by_write g) = moves_have_results k n t s y i coherent few server on at c e g

    by : (i : Instr) → slice_get k.code y.pc ≡ Some i → instr_kind i ≡ step_read → HasResult k n (Step t)
    by (instr.Read w take) c e = go (instr.Read w take) c e (read_way w w.depth take refl)
    by _ c e = absurd (cc e)

-- of what may end
data EndWay : Option Access → Type 0 where
  with_none : {a : Option Access} → FollowsNone a → EndWay a
  with_end : {a : Option Access} → EndsReference a → EndWay a
  with_write : {a : Option Access} → WritesPlace a → EndWay a

end_way : (a : Spot) (v : Option Value) → EndWay (ending a v)
end_way a (Some (value.Mut r)) = with_end ends_there
end_way a None = with_none no_place
end_way a (Some value.Gone) = with_none no_place
end_way a (Some (value.Own u)) = with_none no_place
end_way a (Some (value.SharedSlot j)) = with_none no_place
end_way a (Some (value.MutSlot j)) = with_none no_place
end_way a (Some (value.Shared r)) = with_none no_place
end_way a (Some (value.Held m)) = with_none no_place

pub each_assignment : StepsHaveResults step_assign Anyhow
each_assignment k n t s y i coherent few server on at code is f = by i code is
  where
    go : (i : Instr) → slice_get k.code y.pc ≡ Some i → instr_kind i ≡ step_assign → EndWay (access_of i y) → HasResult k n (Step t)
    go i c e (with_none g) = quiet_steps step_assign tt (λ q. cc) k n t s y i coherent few server on at c e g
    go i c e (with_end g) = ending_assignments k n t s y i coherent few server on at c e g
    go i c e (with_write g) = assignments_have_results k n t s y i coherent few server on at c e g

    way : (w : Lval) (d : ℕ) → EndWay (assigned w d y)
    way w zero = end_way (in_slot w.slot) (slice_get y.slots w.slot)
    way w (suc d) = with_write writes

    by : (i : Instr) → slice_get k.code y.pc ≡ Some i → instr_kind i ≡ step_assign → HasResult k n (Step t)
    by (instr.Assign w o) c e = go (instr.Assign w o) c e (way w w.depth)
    by _ c e = absurd (cc e)

no_write : (a : Spot) (v : Option Value) → WritesPlace (ending a v) → ⊥
no_write a (Some (value.Mut r)) g = elim g [ ]
no_write a None g = elim g [ ]
no_write a (Some value.Gone) g = elim g [ ]
no_write a (Some (value.Own u)) g = elim g [ ]
no_write a (Some (value.SharedSlot j)) g = elim g [ ]
no_write a (Some (value.MutSlot j)) g = elim g [ ]
no_write a (Some (value.Shared r)) g = elim g [ ]
no_write a (Some (value.Held m)) g = elim g [ ]

pub each_discard : StepsHaveResults step_discard Anyhow
each_discard k n t s y i coherent few server on at code is f = by i code is
  where
    go : (i : Instr) → slice_get k.code y.pc ≡ Some i → instr_kind i ≡ step_discard → (WritesPlace (access_of i y) → ⊥) → EndWay (access_of i y) → HasResult k n (Step t)
    go i c e none (with_none g) = quiet_steps step_discard tt (λ q. cc) k n t s y i coherent few server on at c e g
    go i c e none (with_end g) = ending_discards k n t s y i coherent few server on at c e g
    go i c e none (with_write g) = absurd (none g)

    by : (i : Instr) → slice_get k.code y.pc ≡ Some i → instr_kind i ≡ step_discard → HasResult k n (Step t)
    by instr.Discard c e = go instr.Discard c e (no_write on_top (last_of y.temps)) (end_way on_top (last_of y.temps))
    by _ c e = absurd (cc e)

pub each_drop : StepsHaveResults step_drop_slot Anyhow
each_drop k n t s y i coherent few server on at code is f = by i code is
  where
    go : (i : Instr) → slice_get k.code y.pc ≡ Some i → instr_kind i ≡ step_drop_slot → (WritesPlace (access_of i y) → ⊥) → EndWay (access_of i y) → HasResult k n (Step t)
    go i c e none (with_none g) = quiet_steps step_drop_slot tt (λ q. cc) k n t s y i coherent few server on at c e g
    go i c e none (with_end g) = ending_drops k n t s y i coherent few server on at c e g
    go i c e none (with_write g) = absurd (none g)

    by : (i : Instr) → slice_get k.code y.pc ≡ Some i → instr_kind i ≡ step_drop_slot → HasResult k n (Step t)
    by instr.DropSlot c e = go instr.DropSlot c e (no_write (in_slot (length y.slots - 1)) (last_of y.slots)) (end_way (in_slot (length y.slots - 1)) (last_of y.slots))
    by _ c e = absurd (cc e)
