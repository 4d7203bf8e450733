-- Typed states in which an act that changes slots, or makes an object, is granted: each follows from the one before by a law.
use Rattle.std.proofs.Common.{[], ◌∷◌, refl, arith}
use Rattle.std.specs.Prelude.{pos}
use Rattle.fr_base.specs.declared.label.Label.TheVariants as label
use Rattle.fr_typing.specs.Kinds.{unit, int, box, own, gone}
use Rattle.fr_typing.specs.Places.{put_at}
use Rattle.fr_plain.specs.declared.value.Value.{Value}
use Rattle.fr_plain.specs.declared.value.Value.TheVariants.{Own}
use Rattle.fr_plain.specs.MachineActs.{do_let, do_box}
use Rattle.fr_plain.specs.MachineThreads.{alive}
use Rattle.fr_plain.specs.PlainState.{plain_state}
use Rattle.fr_sound.specs.Entries.{going}
use Rattle.fr_sound.specs.States.{Typing}
use Rattle.law_plain_values.specs.acts.Positions.{PositionTypes}
use Rattle.law_plain_values.specs.acts.ActRows.{quiet, loud, pops_int, pops_temp, r_let, r_move, r_box}
use Rattle.law_plain_values.specs.acts.Keeps.{is_main, Ready}
use Rattle.law_plain_values.specs.acts.Example.{first, main, begun}
use Rattle.law_plain_values.proofs.acts.Example.{print_is_ready, no_end, no_move, follows}
use Rattle.law_plain_values.specs.acts.Example.{at_hand, bound, variable, the_variable, main_at, alone_at, one}
use Rattle.law_plain_values.specs.slots.Example.{object, the_box, one_object, BoxIsReady, MoveIsReady}
use Rattle.law_plain_values.proofs.slots.Boxes.{box_keeps}
use Rattle.law_plain_values.proofs.acts.Lets.{let_keeps}

pub box_is_ready : BoxIsReady
box_is_ready = (print_is_ready.0, record { state = print_is_ready.1.state; found = refl; goes_on = is_main; at = refl; leaves = loud []; after = going [] (own (box int) ∷ []) unit; row = r_box (pops_int (pos 1) refl); comes = λ v. refl })

boxed : (y : Typing) × PositionTypes y (plain_state (alone_at (at_hand (box int) the_box) [] one_object []))
boxed = follows (record { state = alone_at (at_hand (box int) the_box) [] one_object []; labels = label.Make object one ∷ [] }) refl (box_keeps no_end no_move box_is_ready.0 begun main first alive (do_box (Own one)) (at_hand (box int)) (Own one, refl) box_is_ready.1)

let_is_ready : Ready boxed.0 (alone_at (at_hand (box int) the_box) [] one_object []) (main_at (at_hand (box int) the_box) []) (at_hand (box int) the_box) alive (do_let the_box) (λ (v : Value). bound (box int))
let_is_ready = record { state = boxed.1; found = refl; goes_on = is_main; at = refl; leaves = quiet []; after = going (variable (box int) ∷ []) [] unit; row = r_let (0 ∷ []) (pops_temp refl) refl; comes = λ v. refl }

bound_typed : (y : Typing) × PositionTypes y (plain_state (alone_at (bound (box int)) (the_box ∷ []) one_object []))
bound_typed = follows (record { state = alone_at (bound (box int)) (the_box ∷ []) one_object []; labels = [] }) refl (let_keeps no_end no_move boxed.0 (alone_at (at_hand (box int) the_box) [] one_object []) (main_at (at_hand (box int) the_box) []) (at_hand (box int) the_box) alive (do_let the_box) (λ v. bound (box int)) (the_box, refl) let_is_ready)

pub move_is_ready : MoveIsReady
move_is_ready = (bound_typed.0, record { state = bound_typed.1; found = refl; goes_on = is_main; at = refl; leaves = loud []; after = going (put_at (variable (box int) ∷ []) the_variable (gone (own (box int)))) (own (box int) ∷ []) unit; row = r_move refl (record { named = refl; short = omega arith; is = refl }) refl refl refl; comes = λ v. refl })
