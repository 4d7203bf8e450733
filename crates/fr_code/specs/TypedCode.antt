-- Typed states of the code: those that stand for a typed state of the plain machine (this project's rule).
use Rattle.std.specs.Prelude.{◌≡◌, ℕ, List, [], Option, Some, None}
use Rattle.fr_sound.specs.Below.fr_base.declared.step.Fresh.{Fresh}
use Rattle.fr_sound.specs.Below.fr_base.declared.instruction.Instr.{Instr}
use Rattle.fr_sound.specs.Below.fr_terms.Terms.{block_t, Items}
use Rattle.fr_sound.specs.Below.fr_typing.Kinds.{Owned, Kind, own}
use Rattle.fr_sound.specs.Below.fr_typing.Places.{Env}
use Rattle.fr_sound.specs.Below.fr_typing.Typing.{Types}
use Rattle.fr_sound.specs.Below.fr_plain.declared.value.Value.{Value}
use Rattle.fr_sound.specs.Below.fr_plain.MachineActs.{Capture, Act, carry, do_spawn}
use Rattle.fr_sound.specs.Below.fr_plain.MachineThreads.{alive, owing, loose, thread_at}
use Rattle.fr_sound.specs.Below.fr_plain.Run.{Run, settle}
use Rattle.fr_sound.specs.Below.fr_plain.Whole.{Whole, refused}
use Rattle.fr_sound.specs.Below.fr_plain.Resolve.{program}
use Rattle.fr_sound.specs.Below.fr_typing.Threaded.{IsThreaded}
use Rattle.fr_sound.specs.RunTypes.{threads, RunCaptures, RunTypes, held, Operand, NextTypes}
use Rattle.fr_sound.specs.Together.{seen_all, IsRunning, AreTyped}
use Rattle.fr_code.specs.Steps.{Place, CodeAct, CodeMove, code_move, code_moves}
use Rattle.fr_sound.specs.Below.fr_plain.Alike.{value_of}
use Rattle.fr_code.specs.Machine.{CodeLife, CodeThread, CodeWhole, CodeStepped, code_step, code_start}
use Rattle.fr_code.specs.StandsFor.{IsCodeOf}
use Rattle.fr_code.specs.Laws.{StandsAt, StandsWhole}

-- the state stands for a typed one
pub record AreTypedCode (code : List Instr) (c : CodeWhole) : Type 0 where
  pub plain : Whole
  pub typed : AreTyped plain
  pub stands : StandsWhole code plain c

-- from an environment, where the temporary value is given with its type, an act is what a row of the typing grants; the code
-- of a new thread stands for a typed term
pub data IsTypedAct (code : List Instr) : Env → Option Kind → Option Value → CodeAct → Type 0 where
  typed_act : {e e2 : Env} {o o2 : Option Kind} {h : Option Value} (a : Act ⊥) → NextTypes threads e o h (carry a) o2 e2 → IsTypedAct code e o h (carry a)
  typed_start : {e e2 n : Env} {cs : List Capture} {r : Run} {x : Owned} {body : Place} → RunCaptures e [] cs e2 n → RunTypes threads n None r (own x) [] → StandsAt code (settle r) body → IsTypedAct code e None None (do_spawn cs body)

-- the thread is there in its code
abbrev pub IsAt : CodeLife → Place → Type 0
IsAt (alive p) q = p ≡ q
IsAt (owing p) q = p ≡ q
IsAt (loose p) q = p ≡ q
IsAt _ q = ⊥

-- the thread's slots and its temporary value are typed, and so is the act
pub record IsTypedMove (code : List Instr) (s : Whole) (y : AreTyped s) (t : ℕ) (slots : List Value) (a : CodeAct) : Type 0 where
  pub run : Run
  pub kind : Kind
  pub running : IsRunning y.gives y.high y.types (seen_all y.gives s) t slots run kind
  pub act : IsTypedAct code running.env running.temp (held run) a

-- a value at the end of a thread, of that type
pub data IsTypedEnd : Env → Option Kind → Option Value → Kind → Value → Type 0 where
  typed_end : {o : Option Kind} {h : Option Value} {v : Value} {k : Kind} → Operand o h v k → IsTypedEnd [] o h k v

-- the thread's slots and its temporary value are typed, none is left, and the value is of the type that the thread gives
pub record EndsTyped (s : Whole) (y : AreTyped s) (t : ℕ) (slots : List Value) (v : Value) : Type 0 where
  pub run : Run
  pub kind : Kind
  pub running : IsRunning y.gives y.high y.types (seen_all y.gives s) t slots run kind
  pub value : IsTypedEnd running.env running.temp (held run) kind v

-- a typed state after an instruction of that thread
pub record CodeStepsOn (code : List Instr) (c : CodeWhole) (t : ℕ) (names : Fresh) : Type 0 where
  pub next : CodeStepped
  pub is : code_step code c t names ≡ Some next
  pub typed : AreTypedCode code next.state

-- THE LAWS

-- the next act of each thread of a typed state is typed
abbrev pub ActsAreTyped : Type 0
ActsAreTyped = (code : List Instr) (c : CodeWhole) (w : AreTypedCode code c) (t : ℕ) (y : CodeThread) → thread_at c.threads t ≡ Some y → (p : Place) → IsAt y.life p → (m : CodeMove) → code_move code p.pc p.temps ≡ Some m
    → IsTypedMove code w.plain w.typed t y.slots m.act

-- and so is the value of each that is at its end
abbrev pub EndsAreTyped : Type 0
EndsAreTyped = (code : List Instr) (c : CodeWhole) (w : AreTypedCode code c) (t : ℕ) (y : CodeThread) → thread_at c.threads t ≡ Some y → (p : Place) → IsAt y.life p → (v : Value) → value_of ((code_moves code).now p) ≡ Some v
    → EndsTyped w.plain w.typed t y.slots v

-- a step that is not refused can be done, and leaves a typed state
abbrev pub CodeNeverStuck : Type 0
CodeNeverStuck = (code : List Instr) (c : CodeWhole) (w : AreTypedCode code c) (t : ℕ) (names : Fresh) → refused w.plain t names ≡ None → CodeStepsOn code c t names

-- the code of a typed program of such forms starts typed
abbrev pub CodeStartsTyped : Type 0
CodeStartsTyped = (code : List Instr) (at : ℕ) (items : Items) (k : Kind) (e : Env) → IsThreaded (block_t at items) → Types [] (block_t at items) k e → IsCodeOf code (program (block_t at items)) → AreTypedCode code code_start
