-- Typed states in which an act that changes slots, or makes an object, is granted: main boxes a number, binds the box, and moves it.
use Rattle.std.specs.Prelude.{true, [], ◌∷◌}
use Rattle.fr_base.specs.declared.label.Plain.TheVariants as plain
use Rattle.fr_base.specs.declared.name.ObjNo.{ObjNo}
use Rattle.fr_typing.specs.Kinds.{int, box, own, gone}
use Rattle.fr_typing.specs.Places.{put_at}
use Rattle.fr_plain.specs.declared.value.Value.{Value}
use Rattle.fr_plain.specs.declared.value.Value.TheVariants.{Own}
use Rattle.fr_plain.specs.Heap.{Heap, with_object}
use Rattle.fr_plain.specs.MachineActs.{do_read, do_box}
use Rattle.fr_plain.specs.MachineThreads.{alive}
use Rattle.fr_sound.specs.States.{Typing}
use Rattle.law_plain_values.specs.acts.Keeps.{Ready}
use Rattle.law_plain_values.specs.acts.Example.{position, first, main, begun, main_at, alone_at, one, variable, the_variable, at_hand, bound}

-- its value is a box of 1
abbrev pub object : ObjNo
object = record { thread = 0; count = 0 }

abbrev pub the_box : Value
the_box = Own (plain.Box object)

abbrev pub one_object : Heap
one_object = with_object [] 0 one

-- at the start 1 may be boxed
abbrev pub BoxIsReady : Type 0
BoxIsReady = (y : Typing) × Ready y begun main first alive (do_box (Own one)) (at_hand (box int))

-- then the box may be bound, and then moved
abbrev pub MoveIsReady : Type 0
MoveIsReady = (y : Typing) × Ready y (alone_at (bound (box int)) (the_box ∷ []) one_object []) (main_at (bound (box int)) (the_box ∷ [])) (bound (box int)) alive (do_read the_variable true) (λ (v : Value). position (put_at (variable (box int) ∷ []) the_variable (gone (own (box int)))) (own (box int) ∷ []) (v ∷ []))
