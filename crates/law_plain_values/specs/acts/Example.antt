-- Typed states in which an act is granted: at main's start a number may be printed, or bound.
use Rattle.std.specs.Prelude.{pos, List, [], ◌∷◌, Some}
use Rattle.fr_base.specs.declared.label.Plain.{Plain}
use Rattle.fr_base.specs.declared.label.Plain.TheVariants as plain
use Rattle.fr_base.specs.declared.place.Lval.{Lval}
use Rattle.fr_typing.specs.Kinds.{Owned, unit, int, Kind, own, whole}
use Rattle.fr_typing.specs.Places.{Slot, Env}
use Rattle.fr_plain.specs.declared.value.Value.{Value}
use Rattle.fr_plain.specs.declared.value.Value.TheVariants.{Own}
use Rattle.fr_plain.specs.MachineActs.{do_let, do_print}
use Rattle.fr_plain.specs.Heap.{Heap}
use Rattle.fr_plain.specs.MachineThreads.{alive, Thread, Mutex, Whole}
use Rattle.fr_sound.specs.Entries.{going}
use Rattle.fr_sound.specs.States.{Typing}
use Rattle.law_plain_values.specs.acts.Positions.{Position}
use Rattle.law_plain_values.specs.acts.Keeps.{Ready}

-- main's first position, without a slot and without a temporary value
abbrev pub first : Position
first = record { entry = going [] [] unit; temps = [] }

abbrev pub main : Thread Position
main = record { number = 0; life = alive first; slots = [] }

abbrev pub begun : Whole Position
begun = record { threads = main ∷ []; heap = []; mutexes = []; pairs = []; output = [] }

-- there a number may be printed
abbrev pub PrintIsReady : Type 0
PrintIsReady = (y : Typing) × Ready y begun main first alive (do_print (Own (plain.Int (pos 1)))) (λ (v : Value). first)

-- main alone, at that position and with these slots
abbrev pub position : Env → List Kind → List Value → Position
position e ts vs = record { entry = going e ts unit; temps = vs }

abbrev pub main_at : Position → List Value → Thread Position
main_at p slots = record { number = 0; life = alive p; slots = slots }

abbrev pub alone_at : Position → List Value → Heap → List Mutex → Whole Position
alone_at p slots heap mutexes = record { threads = main_at p slots ∷ []; heap = heap; mutexes = mutexes; pairs = []; output = [] }

-- the number 1
abbrev pub one : Plain
one = plain.Int (pos 1)

-- a variable of that type, and the place that is it
abbrev pub variable : Owned → Slot
variable o = record { name = Some (0 ∷ []); part = whole (own o) }

abbrev pub the_variable : Lval
the_variable = record { slot = 0; depth = 0 }

-- a value of that type is at hand, or is bound
abbrev pub at_hand : Owned → Value → Position
at_hand o v = position [] (own o ∷ []) (v ∷ [])

abbrev pub bound : Owned → Position
bound o = position (variable o ∷ []) [] []

-- and 1 may be bound
abbrev pub LetIsReady : Type 0
LetIsReady = (y : Typing) × Ready y begun main first alive (do_let (Own one)) (λ (v : Value). bound int)
