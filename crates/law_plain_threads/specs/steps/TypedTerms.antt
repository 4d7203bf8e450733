-- TYPED STATES OF RUNNING TERMS, whatever their forms (Featherweight Rust's preservation and progress, with this project's threads, mutexes and views):
-- those for which a typed state of a code stands.
use Rattle.std.specs.Prelude.{◌≡◌, ℕ, List, [], Some, None}
use Rattle.fr_base.specs.declared.step.Fresh.{Fresh}
use Rattle.fr_base.specs.declared.instruction.Instr.{Instr}
use Rattle.fr_terms.specs.Limits.{HasShortPlaces}
use Rattle.fr_terms.specs.Terms.{block_t, Items}
use Rattle.fr_typing.specs.Kinds.{Kind}
use Rattle.fr_typing.specs.Places.{Env}
use Rattle.fr_typing.specs.Typing.{Types}
use Rattle.fr_plain.specs.Run.{terms}
use Rattle.fr_plain.specs.Whole.{Whole, Thread, Stepped, Turn, thread_at, step, refused, start, plain}
use Rattle.fr_plain.specs.PlainState.{plain_state}
use Rattle.fr_plain.specs.Resolve.{program}
use Rattle.fr_sound.specs.States.{Typing}
use Rattle.fr_code.specs.Machine.{CodeWhole}
use Rattle.fr_code.specs.Laws.{StandsWhole}
use Rattle.fr_code.specs.CodeTypes.{Table}
use Rattle.fr_code.specs.CodeTable.{IsTable}
use Rattle.fr_code.specs.TableStates.{CodeStateTypes}
use Rattle.law_plain_threads.specs.steps.Steps.{IsNotStuck}

-- a state of a code with a table stands for it, and has the types of the table
pub record AreTypedTerms (s : Whole) : Type 0 where
  pub code : List Instr
  pub table : Table
  pub is : IsTable code table
  pub state : CodeWhole
  pub stands : StandsWhole code s state
  pub typing : Typing
  pub typed : CodeStateTypes table typing (plain_state state)

-- the step can be done, and leaves a typed state
pub record TermsStepOn (s : Whole) (t : ℕ) (names : Fresh) : Type 0 where
  pub next : Stepped
  pub is : step s t names ≡ Some next
  pub typed : AreTypedTerms next.state

-- a typed program starts typed, where its places have at most eight stars
abbrev pub ProgramsStartTyped : Type 0
ProgramsStartTyped = (at : ℕ) (items : Items) (k : Kind) (e : Env) → HasShortPlaces (block_t at items) → Types [] (block_t at items) k e → AreTypedTerms (start (program (block_t at items)))

-- in a typed state each step that isn't refused can be done, and leaves a typed state
abbrev pub TypedTermsStepOn : Type 0
TypedTermsStepOn = (s : Whole) → AreTypedTerms s → (t : ℕ) (names : Fresh) → refused s t names ≡ None → TermsStepOn s t names

-- so does each step that is there
abbrev pub TypedTermsStayTyped : Type 0
TypedTermsStayTyped = (s : Whole) → AreTypedTerms s → (t : ℕ) (names : Fresh) (x : Stepped) → step s t names ≡ Some x → AreTypedTerms x.state

-- no thread of a typed state is stuck
abbrev pub TypedTermsUnstuck : Type 0
TypedTermsUnstuck = (s : Whole) → AreTypedTerms s → (t : ℕ) (x : Thread) → thread_at s.threads t ≡ Some x → IsNotStuck terms s t x

-- wherever the plain run of a typed program comes to, under whatever order, the state is typed
abbrev pub RunsStayTyped : Type 0
RunsStayTyped = (at : ℕ) (items : Items) (k : Kind) (e : Env) → HasShortPlaces (block_t at items) → Types [] (block_t at items) k e → (order : List Turn) (x : Stepped) → plain (program (block_t at items)) order ≡ Some x → AreTypedTerms x.state
