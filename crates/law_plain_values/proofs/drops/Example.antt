-- Typed states in which a drop is asked for.
use Rattle.std.proofs.Common.{[], ◌∷◌, refl, arith}
use Rattle.fr_typing.specs.Kinds.{int, unit, own, whole}
use Rattle.fr_plain.specs.MachineThreads.{alive}
use Rattle.fr_plain.specs.PlainState.{plain_state}
use Rattle.law_plain_values.specs.acts.ActRows.{quiet, pops_unit, pops_int, r_assign, r_discard, r_drop, ends_as}
use Rattle.law_plain_values.specs.acts.Keeps.{is_main}
use Rattle.law_plain_values.specs.acts.Example.{first, main, begun, alone_at, one, variable, bound}
use Rattle.law_plain_values.proofs.acts.Hand.{At}
use Rattle.law_plain_values.proofs.acts.Operands.{load}
use Rattle.law_plain_values.proofs.acts.Threads.{still_here}
use Rattle.fr_sound.specs.Entries.{going}
use Rattle.law_plain_values.proofs.acts.Example.{print_is_ready, let_is_ready, no_end, no_move, follows}
use Rattle.law_plain_values.proofs.acts.Lets.{let_keeps}
use Rattle.law_plain_values.specs.acts.Positions.{PositionTypes}
use Rattle.fr_sound.specs.States.{Typing}
use Rattle.fr_plain.specs.MachineActs.{do_let}
use Rattle.fr_plain.specs.declared.value.Value.TheVariants.{Own}
use Rattle.law_plain_values.specs.drops.Example.{DropIsReady, DiscardIsReady, EndIsReady, SlotIsReady, AssignIsReady}
use Rattle.law_plain_values.specs.drops.DropActs.{main_ends}
use Rattle.law_plain_values.proofs.drops.Discards.{carried}

pub discard_is_ready : DiscardIsReady
discard_is_ready = (print_is_ready.0, record { state = print_is_ready.1.state; found = refl; goes_on = is_main; at = refl; leaves = quiet []; after = going [] [] unit; row = r_discard (pops_int _ refl); comes = λ v. refl })

main_at_first : At print_is_ready.0 (plain_state begun) 0 (record { place = first; slots = [] }) [] [] unit
main_at_first = record { state = print_is_ready.1.state; runs = refl; entry = refl }

pub drop_is_ready : DropIsReady
drop_is_ready =
    let c = carried (load print_is_ready.0 (plain_state begun) 0 (record { place = first; slots = [] }) [] unit main_at_first refl (pops_int _ refl)) begun (still_here begun main first alive is_main refl refl) (λ o. refl) main refl in
    (c.0, whole (own int), c.0.gives.result 1, refl, c.1.carries.state)

pub end_is_ready : EndIsReady
end_is_ready = (print_is_ready.0, record { state = print_is_ready.1.state; found = refl; by = main_ends; at = refl; ends = ends_as (pops_unit refl) })

bound_typed : (y : Typing) × PositionTypes y (plain_state (alone_at (bound int) (Own one ∷ []) [] []))
bound_typed = follows (record { state = alone_at (bound int) (Own one ∷ []) [] []; labels = [] }) refl (let_keeps no_end no_move let_is_ready.0 begun main first alive (do_let (Own one)) (λ v. bound int) (Own one, refl) let_is_ready.1)

pub slot_is_ready : SlotIsReady
slot_is_ready = (bound_typed.0, record { state = bound_typed.1; found = refl; goes_on = is_main; at = refl; leaves = quiet []; after = going [] [] unit; row = r_drop refl refl refl; comes = λ v. refl })

pub assign_is_ready : AssignIsReady
assign_is_ready = (
  bound_typed.0,
  record {
    state = bound_typed.1;
    found = refl;
    goes_on = is_main;
    at = refl;
    leaves = quiet [];
    after = going (variable int ∷ []) [] unit;
    row = r_assign (pops_int _ refl) (record { named = refl; short = omega arith; is = refl }) (record { free = refl; path = refl }) refl refl refl;
    comes = λ v. refl;
  },
)
