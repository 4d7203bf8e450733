-- The acts that start, end and join threads.
use Rattle.std.specs.Prelude.{◌≡◌}
use Rattle.fr_base.specs.declared.step.Fresh.TheVariants as fresh
use Rattle.fr_plain.specs.declared.value.Value.{Value}
use Rattle.fr_plain.specs.MachineActs.{Capture, Act, do_spawn, do_finish, do_join, do_par, do_par_end}
use Rattle.fr_plain.specs.MachineThreads.{Now, Move, owing, ended, Thread, Whole, thread_at}
use Rattle.std.specs.Prelude.{List, Option, Some}
use Rattle.fr_plain.specs.PlainState.{plain_state}
use Rattle.fr_sound.specs.States.{Typing}
use Rattle.law_plain_values.specs.acts.Positions.{Position, PositionTypes, moves_by}
use Rattle.law_plain_values.specs.acts.ActRows.{EndsAs}
use Rattle.law_plain_values.specs.acts.Keeps.{StepsTyped}

-- the start of a thread
abbrev pub IsSpawn : Act Position → Type 0
IsSpawn a = (cs : List Capture) × (body : Position) × (a ≡ do_spawn cs body)

-- a join
abbrev pub IsJoin : Act Position → Type 0
IsJoin a = (v : Value) × (a ≡ do_join v)

-- the start of a pair
abbrev pub IsPar : Act Position → Type 0
IsPar a = (cs : List Capture) × (body : Position) × (ds : List Capture) × (other : Position) × (a ≡ do_par cs body ds other)

-- the end of a pair, at which its parent goes on
abbrev pub IsParEnd : Act Position → Type 0
IsParEnd a = a ≡ do_par_end

-- in a typed state a thread whose task somebody has is at its end, with its result as the operand
pub record AtEnd (y : Typing) (s : Whole Position) (t : Thread Position) (p : Position) (v : Value) : Type 0 where
  pub state : PositionTypes y (plain_state s)
  pub found : thread_at s.threads t.number ≡ Some t
  pub at : t.life ≡ owing p
  pub ends : EndsAs p.entry p.temps v

-- then it can end without a new name, its result is kept, and the state is typed again
abbrev pub FinishKeeps : Type 0
FinishKeeps = (now : Position → Now) (move : Position → Option (Move Position Position)) (y : Typing) (s : Whole Position) (t : Thread Position) (p : Position) (v : Value)
    → AtEnd y s t p v → StepsTyped y (moves_by now move) s t fresh.None (record { act = do_finish v; plug = ended })
