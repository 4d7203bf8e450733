-- Whole runs with mutexes, each written above its term, and steps that wait for a lock.
use Rattle.std.specs.Prelude.{◌≡◌, ℤ, pos, List, [], ◌∷◌, ◌++◌, Option, Some, None}
use Rattle.fr_base.specs.declared.label.Label.{Label}
use Rattle.fr_base.specs.declared.label.Label.TheVariants as label
use Rattle.fr_base.specs.declared.name.MutexNo.{MutexNo}
use Rattle.fr_base.specs.declared.place.Op.TheVariants as op
use Rattle.fr_base.specs.declared.step.Fresh.TheVariants as fresh
use Rattle.fr_base.specs.declared.step.Wait.TheVariants as wait
use Rattle.fr_base.specs.declared.step.Ending3.{Ending3}
use Rattle.fr_base.specs.declared.step.Ending3.TheVariants as ending
use Rattle.fr_terms.specs.Terms.{Text, Term, let_t, assign_t, box_t, print_t, arith_t, mutex_t, dup_t, lock_t}
use Rattle.fr_plain.specs.Heap.{Made}
use Rattle.fr_plain.specs.Run.{Life, over}
use Rattle.fr_plain.specs.Whole.{Turn, Stepped, waits, plain, ending_of}
use Rattle.fr_plain.specs.Resolve.{program}
use Rattle.fr_plain.specs.Examples.{block, spot, read, number, x, y}
use Rattle.fr_plain.specs.ThreadRuns.{h, spawn, join, steps, starts, object, int, with_lives, made, Refuses}

-- the names
abbrev pub m : Text
m = 109 ∷ []

abbrev pub n : Text
n = 110 ∷ []

abbrev pub c : Text
c = 99 ∷ []

abbrev pub d : Text
d = 100 ∷ []

abbrev pub mutex : Term → Term
mutex t = mutex_t 0 t

abbrev pub lock : Text → Text → List Term → Term
lock name content ts = lock_t 0 (spot name 0) content (block ts)

-- the name that the mutex is given, and the step that gives it
abbrev first : MutexNo
first = record { home = 0; count = 1 }

abbrev makes : List Turn
makes = (0, fresh.Mutex first) ∷ []

-- the run has ended, with so many threads, these objects made and dropped, these prints and labels; no share of the mutex is left
abbrev Ends : Term → List Turn → List Life → List Made → List ℤ → List Label → Type 0
Ends t order lives heap output labels =
    plain (program t) order ≡ Some (record { state = record { threads = with_lives 0 lives; heap = heap; mutexes = record { number = first; there = None } ∷ []; pairs = []; output = output }; labels = labels })

-- whether the state after these steps goes on
abbrev ending_after : Option Stepped → Option Ending3
ending_after None = None
ending_after (Some s) = Some (ending_of s.state)

abbrev StandsAs : Term → List Turn → Ending3 → Type 0
StandsAs t order e = ending_after (plain (program t) order) ≡ Some e

-- { let mut m = mutex 0; let mut n = dup m; let mut h = spawn (n) { lock n as c { c = (c + 1) } }; join h; lock m as c { print c } }
abbrev pub counted : Term
counted =
    block (let_t 0 m (mutex (number 0)) ∷ let_t 0 n (dup_t 0 (spot m 0)) ∷ let_t 0 h (spawn (n ∷ []) (lock n c (assign_t 0 (spot c 0) (arith_t 0 op.Add (read c 0) (number 1)) ∷ []) ∷ [])) ∷ join h ∷ lock m c (print_t 0 (read c 0) ∷ []) ∷ [])

-- up to the start of the other thread
abbrev counted_start : List Turn
counted_start = makes ++ steps 0 3 ++ starts 0 1 ++ steps 0 1

-- { let mut m = mutex box 1; let mut y = lock m as c { let mut x = c; c = box 2; x }; print *y }
abbrev pub exchanged : Term
exchanged = block (let_t 0 m (mutex (box_t 0 (number 1))) ∷ let_t 0 y (lock m c (let_t 0 x (read c 0) ∷ assign_t 0 (spot c 0) (box_t 0 (number 2)) ∷ read x 0 ∷ [])) ∷ print_t 0 (read y 1) ∷ [])

-- { let mut m = mutex 1; let mut y = lock m as c { 5 }; print y }
abbrev pub constant_inside : Term
constant_inside = block (let_t 0 m (mutex (number 1)) ∷ let_t 0 y (lock m c (number 5 ∷ [])) ∷ print_t 0 (read y 0) ∷ [])

-- { let mut m = mutex 1; let mut n = dup m; let mut h = spawn (n) { lock n as c { print c } }; lock m as c { print c } }
abbrev pub contended : Term
contended = block (let_t 0 m (mutex (number 1)) ∷ let_t 0 n (dup_t 0 (spot m 0)) ∷ let_t 0 h (spawn (n ∷ []) (lock n c (print_t 0 (read c 0) ∷ []) ∷ [])) ∷ lock m c (print_t 0 (read c 0) ∷ []) ∷ [])

-- up to the lock of the main thread
abbrev contended_start : List Turn
contended_start = makes ++ steps 0 3 ++ starts 0 1 ++ steps 0 2

abbrev contended_labels : List Label
contended_labels = label.Lock first ∷ label.Print (pos 1) ∷ label.Unlock first ∷ []

-- { let mut m = mutex 1; lock m as c { lock m as d { print d } } }
abbrev pub locked_twice : Term
locked_twice = block (let_t 0 m (mutex (number 1)) ∷ lock m c (lock m d (print_t 0 (read d 0) ∷ []) ∷ []) ∷ [])

pub record LocksRun : Type 0 where
  -- the other thread writes before the main thread reads
  pub counts : Ends counted (counted_start ++ steps 1 7 ++ steps 0 11) (over ∷ over ∷ []) (made 0 [] ∷ []) (pos 1 ∷ []) (label.Start 1 ∷ label.Lock first ∷ label.Unlock first ∷ label.End 1 ∷ label.Lock first ∷ label.Print (pos 1) ∷ label.Unlock first ∷ label.End 0 ∷ [])
  -- the value of a lock's body stays, temporary or constant, and what was put into the mutex goes with its last share
  pub exchanged :
      Ends exchanged (steps 0 1 ++ makes ++ steps 0 15) (over ∷ []) (made 0 (None ∷ None ∷ []) ∷ []) (pos 1 ∷ [])
      (label.Make (object 0 0) (int 1) ∷ label.Lock first ∷ label.Make (object 0 1) (int 2) ∷ label.Unlock first ∷ label.Load (object 0 0) (int 1) ∷ label.Print (pos 1) ∷ label.Drop (object 0 0) ∷ label.End 0 ∷ [])
  pub constant_inside : Ends constant_inside (makes ++ steps 0 9) (over ∷ []) (made 0 [] ∷ []) (pos 5 ∷ []) (label.Lock first ∷ label.Unlock first ∷ label.Print (pos 5) ∷ label.End 0 ∷ [])
  -- a lock waits for the content, also where its own thread has it
  pub waits_inside : Refuses locked_twice (makes ++ steps 0 2) 0 fresh.None (waits (wait.Lock first))
  pub deadlocked : StandsAs locked_twice (makes ++ steps 0 2) ending.Deadlocked
  pub going_before : StandsAs locked_twice (makes ++ steps 0 1) ending.Going
  pub waits_outside : Refuses contended contended_start 1 fresh.None (waits (wait.Lock first))
  pub going_beside : StandsAs contended contended_start ending.Going
  -- and goes on once that is in again
  pub goes_on : Ends contended (contended_start ++ steps 0 3 ++ steps 1 6 ++ steps 0 4) (over ∷ over ∷ []) (made 0 [] ∷ []) (pos 1 ∷ pos 1 ∷ []) (label.Start 1 ∷ contended_labels ++ contended_labels ++ label.End 1 ∷ label.End 0 ∷ [])
