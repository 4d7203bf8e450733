-- Where the holders in a thread's slots and temporary values came from in the plain step of its instruction.
use Rattle.std.specs.Prelude.{◌≡◌, ◌≢◌, ◌⊎◌, ℕ, suc, true, List, length, Some}
use Rattle.law_types_events.specs.Below.fr_base.declared.place.Lval.{Lval}
use Rattle.law_types_events.specs.Below.fr_base.declared.instruction.Instr.{Instr}
use Rattle.law_types_events.specs.Below.fr_base.declared.instruction.Instr.TheVariants as instr
use Rattle.law_types_events.specs.Below.law_plain_values.acts.Keeps.{OnReferences, rests, binds, takes, lends, puts}
use Rattle.law_types_events.specs.Below.thread_state.declared.value.Value.{Value}
use Rattle.law_types_events.proofs.holders.Holding.{held, top_held}

-- what an instruction does with mutable references
abbrev pub on_of : Instr → OnReferences
on_of (instr.Let o) = binds
on_of (instr.Read w true) = takes w
on_of (instr.BorrowMut w) = lends w
on_of (instr.Assign w o) = puts w
on_of i = rests

-- the holder at a slot stood there, and no value was put there; or it was that of the temporary value on top, which goes to the slot
abbrev pub SlotCame : OnReferences → List Value → List Value → ℕ → Lval → Type 0
SlotCame binds vs ts j w = (held vs j ≡ Some w) ⊎ ((j ≡ length vs) × (top_held ts ≡ Some w))
SlotCame (puts p) vs ts j w = ((held vs j ≡ Some w) × (p.depth ≡ 0 → j ≢ p.slot)) ⊎ ((j ≡ p.slot) × (p.depth ≡ 0) × (top_held ts ≡ Some w))
SlotCame rests vs ts j w = held vs j ≡ Some w
SlotCame (takes p) vs ts j w = held vs j ≡ Some w
SlotCame (lends p) vs ts j w = held vs j ≡ Some w

-- the holder at a temporary value was there; or that value is new on top: it was the variable's that is moved, or it is the place that is lent with one star less
abbrev pub TempCame : OnReferences → List Value → List Value → ℕ → Lval → Type 0
TempCame (takes p) vs ts j w = (held ts j ≡ Some w) ⊎ ((j ≡ length ts) × (p.depth ≡ 0 → held vs p.slot ≡ Some w))
TempCame (lends p) vs ts j w = (held ts j ≡ Some w) ⊎ ((j ≡ length ts) × ((n : ℕ) × (p.depth ≡ suc n) × (w ≡ (record p { depth = n }))))
TempCame binds vs ts j w = held ts j ≡ Some w
TempCame (puts p) vs ts j w = held ts j ≡ Some w
TempCame rests vs ts j w = held ts j ≡ Some w

-- so it is with all slots and temporary values
pub record Came (on : OnReferences) (vs ts us ss : List Value) : Type 0 where
  pub slots : (j : ℕ) (w : Lval) → held us j ≡ Some w → SlotCame on vs ts j w
  pub temps : (j : ℕ) (w : Lval) → held ss j ≡ Some w → TempCame on vs ts j w
