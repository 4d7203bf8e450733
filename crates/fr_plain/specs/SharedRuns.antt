-- Runs with mutexes and pairs of threads, also such as no typed program makes: by threads that stand at a number of a list of acts.
use Rattle.std.specs.Prelude.{◌≡◌, ℕ, suc, pos, List, [], ◌∷◌, ◌++◌, slice_get, Option, Some, None}
use Rattle.fr_base.specs.declared.name.MutexNo.{MutexNo}
use Rattle.fr_base.specs.declared.name.ObjNo.{ObjNo}
use Rattle.fr_base.specs.declared.place.Lval.{Lval}
use Rattle.fr_base.specs.declared.label.Plain.{Plain}
use Rattle.fr_base.specs.declared.label.Plain.TheVariants as plain
use Rattle.fr_base.specs.declared.label.Label.{Label}
use Rattle.fr_base.specs.declared.label.Label.TheVariants as label
use Rattle.fr_base.specs.declared.step.Fresh.{Fresh}
use Rattle.fr_base.specs.declared.step.Fresh.TheVariants as fresh
use Rattle.fr_base.specs.declared.step.Wait.TheVariants as wait
use Rattle.fr_plain.specs.declared.value.Value.{Value}
use Rattle.fr_plain.specs.declared.value.Value.TheVariants.{Own}
use Rattle.fr_plain.specs.Heap.{live}
use Rattle.fr_plain.specs.MachineActs.{Act, do_let, do_assign, do_box, do_print, do_drop, do_mutex, do_dup, do_lock, do_unlock, do_par, do_par_end, unit}
use Rattle.fr_plain.specs.MachineThreads.{Now, going, constant, Move, Moves, Shared, Mutex}
use Rattle.fr_plain.specs.PlainState.{plain_state}
use Rattle.fr_plain.specs.Machine.{Stepped, Refusal, waits, name_kind, name_used, Turn, main_steps, refused, run, start}

-- THREADS OF LISTED ACTS

-- None is the end of a thread
abbrev Acts : Type 0
Acts = List (Option (Act ℕ))

abbrev now_at : Option (Option (Act ℕ)) → Now
now_at (Some (Some a)) = going
now_at _ = constant unit

abbrev move_at : ℕ → Option (Option (Act ℕ)) → Option (Move ℕ ℕ)
move_at p (Some (Some a)) = Some (record { act = a; plug = λ v. suc p })
move_at p _ = None

abbrev listed : Acts → Moves ℕ
listed acts = record { now = λ p. now_at (slice_get acts p); move = λ p. move_at p (slice_get acts p); settle = λ p. p }

abbrev after : Acts → List Turn → Option (Stepped ℕ)
after acts turns = run (listed acts) (start (listed acts) 0) turns

abbrev m : MutexNo
m = record { home = 0; count = 1 }

abbrev int : ℕ → Plain
int n = plain.Int (pos n)

abbrev mutex : Value
mutex = Own (plain.Mutex m)

abbrev slot : ℕ → Lval
slot n = record { slot = n; depth = 0 }

abbrev a : ObjNo
a = record { thread = 0; count = 0 }

-- the step that takes these names
abbrev by : Fresh → List Turn
by names = (0, names) ∷ []

-- WHAT IS SHOWN

abbrev mutexes : Option (Stepped ℕ) → List (Option Shared)
mutexes None = []
mutexes (Some d) = shares d.state.mutexes
  where
    shares : List Mutex → List (Option Shared)
    shares [] = []
    shares (x ∷ xs) = x.there ∷ shares xs

abbrev objects : Option (Stepped ℕ) → List ℕ
objects None = []
objects (Some d) = live d.state.heap ∷ []

abbrev labels : Option (Stepped ℕ) → List (List Label)
labels None = []
labels (Some d) = d.labels ∷ []

-- which two threads a thread waits for
abbrev pairs : Option (Stepped ℕ) → ℕ → Option (ℕ × ℕ)
pairs None t = None
pairs (Some d) t = (plain_state d.state).pair t

-- why a step is refused after these
abbrev Refuses : Acts → List Turn → ℕ → Fresh → Refusal → Type 0
Refuses acts turns t names why = by_state (after acts turns)
  where
    by_state : Option (Stepped ℕ) → Type 0
    by_state None = ⊥
    by_state (Some d) = refused (listed acts) d.state t names ≡ Some why

abbrev shared : Option Plain → ℕ → Option Shared
shared content n = Some (record { content = content; shares = n })

-- RUNS

-- a mutex of a box, its value twice, and both dropped
abbrev counted : Acts
counted = Some (do_box (Own (int 1))) ∷ Some (do_mutex (Own (plain.Box a))) ∷ Some (do_let mutex) ∷ Some (do_dup (slot 0)) ∷ Some (do_let mutex) ∷ Some do_drop ∷ Some do_drop ∷ None ∷ []

abbrev counted_turns : ℕ → List Turn
counted_turns n = main_steps 1 ++ by (fresh.Mutex m) ++ main_steps n

-- its content is taken out, written, and put back
abbrev written : Acts
written = Some (do_mutex (Own (int 1))) ∷ Some (do_let mutex) ∷ Some (do_lock (slot 0)) ∷ Some (do_assign (slot 2) (Own (int 2))) ∷ Some do_unlock ∷ Some (do_lock (slot 0)) ∷ Some (do_lock (slot 0)) ∷ []

abbrev written_turns : ℕ → List Turn
written_turns n = by (fresh.Mutex m) ++ main_steps n

-- the only share goes while the content, a box, is out
abbrev gone_inside : Acts
gone_inside = Some (do_box (Own (int 1))) ∷ Some (do_mutex (Own (plain.Box a))) ∷ Some (do_let mutex) ∷ Some (do_lock (slot 0)) ∷ Some (do_assign (slot 0) unit) ∷ Some do_unlock ∷ None ∷ []

-- two threads, each of which prints
abbrev paired : Acts
paired = Some (do_par [] 3 [] 5) ∷ Some do_par_end ∷ None ∷ Some (do_print (Own (int 1))) ∷ None ∷ Some (do_print (Own (int 2))) ∷ None ∷ []

abbrev both_turns : List Turn
both_turns = by (fresh.Threads 1 2) ++ (2, fresh.None) ∷ (2, fresh.None) ∷ (1, fresh.None) ∷ (1, fresh.None) ∷ []

pub record SharedRuns : Type 0 where
  pub first_share : mutexes (after counted (counted_turns 1)) ≡ shared (Some (plain.Box a)) 1 ∷ []
  pub second_share : mutexes (after counted (counted_turns 3)) ≡ shared (Some (plain.Box a)) 2 ∷ []
  pub one_dropped : mutexes (after counted (counted_turns 4)) ≡ shared (Some (plain.Box a)) 1 ∷ []
  pub both_dropped : mutexes (after counted (counted_turns 5)) ≡ None ∷ []
  pub content_gone : objects (after counted (counted_turns 5)) ≡ 0 ∷ []
  -- the drops have no label
  pub counted_labels : labels (after counted (counted_turns 6)) ≡ (label.Make a (int 1) ∷ label.End 0 ∷ []) ∷ []
  pub name_again : Refuses counted (counted_turns 0) 0 (fresh.Mutex m) name_kind
  pub made_again : Refuses (Some (do_mutex unit) ∷ Some (do_mutex unit) ∷ []) (by (fresh.Mutex m)) 0 (fresh.Mutex m) name_used
  pub name_of_gone : Refuses (Some (do_mutex unit) ∷ Some (do_let mutex) ∷ Some do_drop ∷ Some (do_mutex unit) ∷ []) (by (fresh.Mutex m) ++ main_steps 2) 0 (fresh.Mutex m) name_used
  pub locked : mutexes (after written (written_turns 2)) ≡ shared None 1 ∷ []
  pub unlocked : mutexes (after written (written_turns 4)) ≡ shared (Some (int 2)) 1 ∷ []
  pub lock_labels : labels (after written (written_turns 4)) ≡ (label.Lock m ∷ label.Unlock m ∷ []) ∷ []
  -- also one's own lock
  pub lock_waits : Refuses written (written_turns 5) 0 fresh.None (waits (wait.Lock m))
  pub share_gone : mutexes (after gone_inside (counted_turns 3)) ≡ None ∷ []
  pub still_out : objects (after gone_inside (counted_turns 3)) ≡ 1 ∷ []
  pub dropped_inside : objects (after gone_inside (counted_turns 4)) ≡ 0 ∷ []
  -- it is shown which two threads a parent waits for, until both have ended
  pub pair_shown : pairs (after paired (by (fresh.Threads 1 2))) 0 ≡ Some (1, 2)
  pub pair_over : pairs (after paired (both_turns ++ main_steps 1)) 0 ≡ None
  pub pair_waits : Refuses paired (by (fresh.Threads 1 2) ++ (2, fresh.None) ∷ (2, fresh.None) ∷ []) 0 fresh.None (waits (wait.Par 1 2))
  pub pair_ends : labels (after paired (both_turns ++ main_steps 2)) ≡ (label.Start 1 ∷ label.Start 2 ∷ label.Print (pos 2) ∷ label.End 2 ∷ label.Print (pos 1) ∷ label.End 1 ∷ label.End 0 ∷ []) ∷ []
  pub one_name : Refuses paired [] 0 (fresh.Threads 1 1) name_used
  pub name_given : Refuses paired [] 0 (fresh.Threads 1 0) name_used
  pub one_thread : Refuses paired [] 0 (fresh.Thread 1) name_kind
