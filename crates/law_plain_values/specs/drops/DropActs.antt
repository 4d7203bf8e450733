-- The acts that drop a value.
use Rattle.std.specs.Prelude.{◌≡◌, Option, Some}
use Rattle.fr_base.specs.declared.place.Lval.{Lval}
use Rattle.fr_base.specs.declared.step.Fresh.TheVariants as fresh
use Rattle.fr_plain.specs.declared.value.Value.{Value}
use Rattle.fr_plain.specs.MachineActs.{Act, do_assign, do_discard, do_drop, do_end, do_leave}
use Rattle.fr_plain.specs.MachineThreads.{Now, Move, Life, alive, over, loose, Thread, Whole, thread_at}
use Rattle.fr_plain.specs.PlainState.{plain_state}
use Rattle.fr_sound.specs.States.{Typing}
use Rattle.law_plain_values.specs.acts.Positions.{Position, PositionTypes, moves_by}
use Rattle.law_plain_values.specs.acts.ActRows.{EndsAs}
use Rattle.law_plain_values.specs.acts.Keeps.{StepsTyped}

-- a value at hand is dropped
abbrev pub IsDiscard : Act Position → Type 0
IsDiscard a = (v : Value) × (a ≡ do_discard v)

-- the newest slot goes
abbrev pub IsDrop : Act Position → Type 0
IsDrop a = a ≡ do_drop

-- an assignment, which drops what stood there
abbrev pub IsAssign : Act Position → Type 0
IsAssign a = (w : Lval) × (v : Value) × (a ≡ do_assign w v)

-- main ends, or a thread that was let go: nobody has its result, which is dropped
pub data EndsBy : (Position → Life Position) → (Value → Act Position) → Type 0 where
  main_ends : EndsBy alive do_end
  loose_ends : EndsBy loose do_leave

-- in a typed state such a thread is at its end, with its result as the operand
pub record AtLast (y : Typing) (s : Whole Position) (t : Thread Position) (p : Position) (wrap : Position → Life Position) (act : Value → Act Position) (v : Value) : Type 0 where
  pub state : PositionTypes y (plain_state s)
  pub found : thread_at s.threads t.number ≡ Some t
  pub by : EndsBy wrap act
  pub at : t.life ≡ wrap p
  pub ends : EndsAs p.entry p.temps v

-- then it can end without a new name, and the state is typed again
abbrev pub EndKeeps : Type 0
EndKeeps = (now : Position → Now) (move : Position → Option (Move Position Position)) (y : Typing) (s : Whole Position) (t : Thread Position) (p : Position) (wrap : Position → Life Position) (act : Value → Act Position) (v : Value)
    → AtLast y s t p wrap act v → StepsTyped y (moves_by now move) s t fresh.None (record { act = act v; plug = λ z. over })
