-- A STEP OF TYPED CODE (Featherweight Rust's preservation and progress, with this project's threads, mutexes and views), whatever instruction it is, and
-- of typed programs.
use Rattle.std.specs.Prelude.{◌≡◌, IsSome, ℕ, true, List, [], Some, None}
use Rattle.fr_base.specs.declared.step.Fresh.{Fresh}
use Rattle.fr_base.specs.declared.step.Wait.{Wait}
use Rattle.fr_base.specs.declared.instruction.Instr.{Instr}
use Rattle.fr_terms.specs.Limits.{HasShortPlaces}
use Rattle.fr_terms.specs.Terms.{block_t, Items}
use Rattle.fr_typing.specs.Kinds.{Kind}
use Rattle.fr_typing.specs.Places.{Env}
use Rattle.fr_typing.specs.Typing.{Types}
use Rattle.fr_plain.specs.MachineThreads.{Moves, Thread, Whole, life_move, thread_at, is_over}
use Rattle.fr_plain.specs.Machine.{Stepped, Turn, waits_for, takes_name, refused_names, step, plain}
use Rattle.fr_plain.specs.PlainState.{SameState, plain_state}
use Rattle.fr_plain.specs.LockRuns.{counted}
use Rattle.fr_plain.specs.PairRuns.{twice_shared}
use Rattle.fr_plain.specs.Resolve.{program}
use Rattle.fr_plain.specs.Run.{Run, terms}
use Rattle.fr_sound.specs.States.{Typing}
use Rattle.fr_code.specs.Steps.{code_moves}
use Rattle.fr_code.specs.Machine.{CodeState, CodeThread, CodeWhole, CodeStepped, code_step, code_run, code_start}
use Rattle.fr_code.specs.CodeTypes.{Table}
use Rattle.fr_code.specs.CodeTable.{IsTable}
use Rattle.fr_code.specs.TableStates.{CodeStateTypes}
use Rattle.law_plain_values.specs.acts.Keeps.{KeepsNames}
use Rattle.law_plain_threads.specs.steps.Machines.{ReferencesKept}

-- each plain step of a code with a table leads from a typed state to a typed one, in which names that were given have the types that they had,
-- and mutable references their exact types
abbrev pub StepsKeepTypes : Type 0
StepsKeepTypes = (code : List Instr) (table : Table) → IsTable code table → (y : Typing) (c : CodeWhole) → CodeStateTypes table y (plain_state c) → (t : ℕ) (names : Fresh) (x : CodeStepped) → code_step code c t names ≡ Some x
    → (z : Typing) × CodeStateTypes table z (plain_state x.state) × KeepsNames (plain_state c) y.gives z.gives × ReferencesKept (code_moves code) c t y.exact z.exact

-- nothing but the plain state counts: a step of a state that shows this one leads to what shows a typed state
abbrev pub ShownStepsKeepTypes : Type 0
ShownStepsKeepTypes = (code : List Instr) (table : Table) → IsTable code table → (y : Typing) (a b : CodeState) → CodeStateTypes table y a → (c : CodeWhole) → SameState (plain_state c) a → (t : ℕ) (names : Fresh) (x : CodeStepped) → code_step code c t names ≡ Some x → SameState (plain_state x.state) b
    → (z : Typing) × CodeStateTypes table z b × KeepsNames a y.gives z.gives × ReferencesKept (code_moves code) c t y.exact z.exact

-- the start of a code with a table is typed
abbrev pub StartsTyped : Type 0
StartsTyped = (code : List Instr) (table : Table) → IsTable code table → (y : Typing) × CodeStateTypes table y (plain_state code_start)

-- so is each state to which its plain run comes, under whatever order
abbrev pub RunsKeepTypes : Type 0
RunsKeepTypes = (code : List Instr) (table : Table) → IsTable code table → (order : List Turn) (x : CodeStepped) → code_run code code_start order ≡ Some x → (y : Typing) × CodeStateTypes table y (plain_state x.state)

-- the thread has ended, or waits at a join, a lock or the end of a pair, or it steps under every new name of the kind that it takes
pub data IsNotStuck {P : Type 0} (ms : Moves P) (s : Whole P) (t : ℕ) (x : Thread P) : Type 0 where
  has_ended : is_over x.life ≡ true → IsNotStuck ms s t x
  waits : (w : Wait) → waits_for ms s x ≡ Some w → IsNotStuck ms s t x
  steps : ((names : Fresh) → refused_names s (takes_name (life_move ms x.life)) names ≡ None → IsSome (step ms s t names)) → IsNotStuck ms s t x

-- no thread of a typed state is stuck
abbrev pub NeverStuck : Type 0
NeverStuck = (code : List Instr) (table : Table) → IsTable code table → (y : Typing) (c : CodeWhole) → CodeStateTypes table y (plain_state c) → (t : ℕ) (x : CodeThread) → thread_at c.threads t ≡ Some x → IsNotStuck (code_moves code) c t x

-- no thread of the running term is stuck, wherever its plain run comes to under whatever order
abbrev pub RunsUnstuck : Run → Type 0
RunsUnstuck r = (order : List Turn) (s : Stepped Run) → plain terms r order ≡ Some s → (t : ℕ) (x : Thread Run) → thread_at s.state.threads t ≡ Some x → IsNotStuck terms s.state t x

-- so it is with each typed program, whatever its forms, whose places have at most eight stars
abbrev pub ProgramsNeverStuck : Type 0
ProgramsNeverStuck = (at : ℕ) (items : Items) (k : Kind) (e : Env) → HasShortPlaces (block_t at items) → Types [] (block_t at items) k e → RunsUnstuck (program (block_t at items))

-- such programs: a count under a lock in two threads, and two pairs of threads that see one box
pub record ExamplesNeverStuck : Type 0 where
  pub counted : RunsUnstuck (program counted)
  pub shared : RunsUnstuck (program twice_shared)
