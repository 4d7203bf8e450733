-- Typed states in which a drop is asked for: at main's start a number may be discarded, and a number is carried beside it.
use Rattle.std.specs.Prelude.{◌≡◌, pos, [], ◌∷◌, None}
use Rattle.fr_base.specs.declared.label.Plain.{Plain}
use Rattle.fr_base.specs.declared.label.Plain.TheVariants as plain
use Rattle.fr_typing.specs.Kinds.{Owned, int, Piece}
use Rattle.fr_plain.specs.declared.value.Value.{Value}
use Rattle.fr_plain.specs.declared.value.Value.TheVariants.{Own}
use Rattle.fr_plain.specs.MachineActs.{do_assign, do_discard, do_drop, do_end, unit as unit_value}
use Rattle.fr_plain.specs.MachineThreads.{alive, thread_at}
use Rattle.fr_plain.specs.PlainState.{plain_state}
use Rattle.fr_sound.specs.States.{Typing}
use Rattle.law_plain_values.specs.acts.Positions.{PositionTypes}
use Rattle.law_plain_values.specs.acts.Keeps.{Ready}
use Rattle.law_plain_values.specs.acts.Example.{first, main, begun, main_at, alone_at, one, the_variable, bound}
use Rattle.law_plain_values.specs.drops.Drops.{with_carrier}
use Rattle.law_plain_values.specs.drops.DropActs.{AtLast}

-- the value that is dropped
abbrev pub dropped_one : Plain
dropped_one = plain.Int (pos 1)

abbrev pub DropIsReady : Type 0
DropIsReady = (y : Typing) × (p : Piece) × (g : Owned) × (thread_at begun.threads 1 ≡ None) × PositionTypes y (plain_state (with_carrier begun 1 p g dropped_one))

abbrev pub DiscardIsReady : Type 0
DiscardIsReady = (y : Typing) × Ready y begun main first alive (do_discard (Own one)) (λ (v : Value). first)

-- main may end with unit
abbrev pub EndIsReady : Type 0
EndIsReady = (y : Typing) × AtLast y begun main first alive do_end unit_value

-- where it has bound a number, the slot may go
abbrev pub SlotIsReady : Type 0
SlotIsReady = (y : Typing) × Ready y (alone_at (bound int) (Own one ∷ []) [] []) (main_at (bound int) (Own one ∷ [])) (bound int) alive do_drop (λ (v : Value). first)

abbrev pub two : Plain
two = plain.Int (pos 2)

-- and 2 may be assigned to it
abbrev pub AssignIsReady : Type 0
AssignIsReady = (y : Typing) × Ready y (alone_at (bound int) (Own one ∷ []) [] []) (main_at (bound int) (Own one ∷ [])) (bound int) alive (do_assign the_variable (Own two)) (λ (v : Value). bound int)
