-- Steps that aren't enabled, and what is left where the last share of a mutex goes.
use Rattle.std.specs.Prelude.{◌≡◌, ℕ, pos, true, List, [], ◌∷◌, ◌++◌, Option, Some, None, is_some}
use Rattle.fr_base.specs.declared.name.MutexNo.{MutexNo}
use Rattle.fr_base.specs.declared.name.ObjNo.{ObjNo}
use Rattle.fr_base.specs.declared.label.Label.{Label}
use Rattle.fr_base.specs.declared.label.Label.TheVariants as label
use Rattle.fr_base.specs.declared.label.Plain.TheVariants as plain
use Rattle.fr_base.specs.declared.step.Fresh.{Fresh}
use Rattle.fr_base.specs.declared.step.Fresh.TheVariants as fresh
use Rattle.fr_base.specs.declared.step.Wait.{Wait}
use Rattle.fr_base.specs.declared.step.Wait.TheVariants as wait
use Rattle.fr_base.specs.declared.instruction.Operand.TheVariants as operand
use Rattle.fr_base.specs.declared.instruction.Instr.{Instr}
use Rattle.fr_base.specs.declared.instruction.Instr.TheVariants as instr
use Rattle.fr_plain.specs.Heap.{live}
use Rattle.fr_plain.specs.MachineThreads.{Shared, mutex_there}
use Rattle.fr_plain.specs.Machine.{Turn, main_steps}
use Rattle.server_model.specs.Programs.{place, number, empty, read_elsewhere, read_by_pairs, locked_twice}
use Rattle.fr_code.specs.Machine.{CodeStepped}
use Rattle.code_meaning.specs.Runs.{run, waits}

abbrev m : ℕ → MutexNo
m n = record { home = 0; count = n }

abbrev by : ℕ → Fresh → List Turn
by t names = (t, names) ∷ []

abbrev Refused : List Instr → List Turn → Type 0
Refused code ts = run code ts ≡ None

abbrev Enabled : List Instr → List Turn → Type 0
Enabled code ts = is_some (run code ts) ≡ true

abbrev waits_after : List Instr → Option CodeStepped → List (ℕ × Wait)
waits_after code None = []
waits_after code (Some d) = waits code d.state

-- the mutex is made, and stands in slot 0
abbrev mutex_made : List Turn
mutex_made = by 0 (fresh.Mutex (m 1)) ++ main_steps 1

abbrev pair_started : List Turn
pair_started = main_steps 4 ++ by 0 (fresh.Threads 1 2)

-- a branch reads, prints, drops its capture and ends
abbrev branch_ends : ℕ → List Turn
branch_ends t = by t fresh.None ++ by t fresh.None ++ by t fresh.None ++ by t fresh.None

-- mutex 1; mutex 2
abbrev made_twice : List Instr
made_twice = instr.Mutex (number 1) ∷ instr.Discard ∷ instr.Mutex (number 2) ∷ []

-- no lock, but two slots
abbrev not_locked : List Instr
not_locked = instr.Let (number 1) ∷ instr.Let (number 2) ∷ instr.Unlock ∷ []

pub record StepsRefused : Type 0 where
  -- the content is out, though its own thread has it
  pub lock_out : Refused locked_twice (mutex_made ++ main_steps 2)
  pub lock_in : Enabled locked_twice (mutex_made ++ main_steps 1)
  pub lock_named : Refused locked_twice (mutex_made ++ by 0 (fresh.Mutex (m 2)))
  pub not_held : Refused not_locked (main_steps 3)
  -- none of the pair has ended, or one of it
  pub pair_early : Refused read_by_pairs (pair_started ++ main_steps 1)
  pub pair_half : Refused read_by_pairs (pair_started ++ branch_ends 2 ++ main_steps 1)
  pub pair_both : Enabled read_by_pairs (pair_started ++ branch_ends 2 ++ branch_ends 1 ++ main_steps 1)
  pub pair_waits : waits_after read_by_pairs (run read_by_pairs (pair_started ++ branch_ends 2)) ≡ (0, wait.Par 1 2) ∷ []
  -- a pair takes two names, which are two and new
  pub one_name : Refused read_by_pairs (main_steps 4 ++ by 0 (fresh.Thread 1))
  pub same_name : Refused read_by_pairs (main_steps 4 ++ by 0 (fresh.Threads 1 1))
  pub first_given : Refused read_by_pairs (main_steps 4 ++ by 0 (fresh.Threads 0 1))
  pub second_given : Refused read_by_pairs (main_steps 4 ++ by 0 (fresh.Threads 1 0))
  -- a spawn takes one thread name, which is new
  pub mutex_name : Refused read_elsewhere (main_steps 2 ++ by 0 (fresh.Mutex (m 1)))
  pub name_given : Refused read_elsewhere (main_steps 2 ++ by 0 (fresh.Thread 0))
  pub two_names : Refused read_elsewhere (main_steps 2 ++ by 0 (fresh.Threads 1 2))
  -- a new mutex takes one mutex name, which is new, also where that mutex is gone
  pub no_name : Refused made_twice (main_steps 1)
  pub thread_name : Refused made_twice (by 0 (fresh.Thread 1))
  pub name_gone : Refused made_twice (by 0 (fresh.Mutex (m 1)) ++ main_steps 1 ++ by 0 (fresh.Mutex (m 1)))
  pub name_new : Enabled made_twice (by 0 (fresh.Mutex (m 1)) ++ main_steps 1 ++ by 0 (fresh.Mutex (m 2)))
  -- no other step takes a name, and a thread that isn't there does none
  pub named : Refused empty (by 0 (fresh.Thread 1))
  pub nobody : Refused empty (by 1 fresh.None)
  pub over : Refused empty (main_steps 2)

-- THE LAST SHARE

-- { let mut m = mutex box 1; lock m as c { m = mutex box 2; *c = 3 } }, which no typed program is
abbrev left_inside : List Instr
left_inside =
    instr.Box (number 1) ∷ instr.Mutex operand.Pop ∷ instr.Let operand.Pop ∷ instr.Lock (place 0 0) ∷ instr.Box (number 2) ∷ instr.Mutex operand.Pop ∷ instr.Assign (place 0 0) operand.Pop
    ∷ instr.Assign (place 2 1) (number 3) ∷ instr.Unlock ∷ instr.DropSlot ∷ instr.End operand.Unit ∷ []

-- so many steps after the second mutex is made
abbrev left_turns : ℕ → List Turn
left_turns n = main_steps 1 ++ by 0 (fresh.Mutex (m 1)) ++ main_steps 3 ++ by 0 (fresh.Mutex (m 2)) ++ main_steps n

-- how many objects live, what the first and the second mutex are, and the labels
pub record Left : Type 0 where
  pub objects : ℕ
  pub first : Option Shared
  pub second : Option Shared
  pub labels : List Label

abbrev left : Option CodeStepped → Option Left
left None = None
left (Some d) = Some (record { objects = live d.state.heap; first = mutex_there d.state.mutexes (m 1); second = mutex_there d.state.mutexes (m 2); labels = d.labels })

abbrev a : ObjNo
a = record { thread = 0; count = 0 }

abbrev b : ObjNo
b = record { thread = 0; count = 1 }

abbrev until_store : List Label
until_store = label.Make a (plain.Int (pos 1)) ∷ label.Lock (m 1) ∷ label.Make b (plain.Int (pos 2)) ∷ label.Store a (plain.Int (pos 3)) ∷ []

pub record LastShares : Type 0 where
  -- the mutex is gone, and what it had is the holder's
  pub share_gone : left (run left_inside (left_turns 2)) ≡ Some (record { objects = 2; first = None; second = Some (record { content = Some (plain.Box b); shares = 1 }); labels = until_store })
  -- what comes back to no share is dropped, without a label
  pub content_back : left (run left_inside (left_turns 3)) ≡ Some (record { objects = 1; first = None; second = Some (record { content = Some (plain.Box b); shares = 1 }); labels = until_store ++ label.Unlock (m 1) ∷ [] })
  -- a content that is in goes with the last share, without a label
  pub content_gone : left (run left_inside (left_turns 4)) ≡ Some (record { objects = 0; first = None; second = None; labels = until_store ++ label.Unlock (m 1) ∷ [] })
