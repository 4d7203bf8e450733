-- Whole runs with threads, each written above its term, and refusals of steps in them.
use Rattle.std.specs.Prelude.{◌≡◌, ℕ, zero, suc, ℤ, pos, List, [], ◌∷◌, ◌++◌, Option, Some, None}
use Rattle.fr_base.specs.declared.label.Plain.{Plain}
use Rattle.fr_base.specs.declared.label.Plain.TheVariants as value
use Rattle.fr_base.specs.declared.label.Label.{Label}
use Rattle.fr_base.specs.declared.label.Label.TheVariants as label
use Rattle.fr_base.specs.declared.name.ObjNo.{ObjNo}
use Rattle.fr_base.specs.declared.place.Op.TheVariants as op
use Rattle.fr_base.specs.declared.step.Fresh.{Fresh}
use Rattle.fr_base.specs.declared.step.Fresh.TheVariants as fresh
use Rattle.fr_base.specs.declared.step.Wait.TheVariants as wait
use Rattle.fr_base.specs.declared.step.Ending3.TheVariants as ending
use Rattle.fr_plain.specs.declared.value.Value.TheVariants.{Own}
use Rattle.fr_terms.specs.Terms.{Text, Captured, Term, let_t, assign_t, box_t, print_t, arith_t, spawn_t, join_t}
use Rattle.fr_plain.specs.Heap.{Made}
use Rattle.fr_plain.specs.Run.{temp, unit_c, join_r, Life, alive, over, owing, loose, ended}
use Rattle.fr_plain.specs.Whole.{Turn, Thread, Whole, Stepped, Refusal, waits, no_thread, has_ended, name_kind, name_used, refused, plain, ending_of}
use Rattle.fr_plain.specs.Resolve.{program}
use Rattle.fr_plain.specs.Examples.{block, spot, read, number, x}

-- the names
abbrev pub h : Text
h = 104 ∷ []

abbrev g : Text
g = 103 ∷ []

abbrev pub captured : List Text → List Captured
captured [] = []
captured (n ∷ ns) = record { at = 0; name = n } ∷ captured ns

abbrev pub spawn : List Text → List Term → Term
spawn names ts = spawn_t 0 (captured names) (block ts)

abbrev pub join : Text → Term
join name = join_t 0 (read name 0)

-- so many steps of a thread, and the one that starts another thread
abbrev pub steps : ℕ → ℕ → List Turn
steps t zero = []
steps t (suc k) = (t, fresh.None) ∷ steps t k

abbrev pub starts : ℕ → ℕ → List Turn
starts t new = (t, fresh.Thread new) ∷ []

-- the objects that a thread makes
abbrev pub object : ℕ → ℕ → ObjNo
object t n = record { thread = t; count = n }

abbrev pub int : ℕ → Plain
int n = value.Int (pos n)

abbrev pub with_lives : ℕ → List Life → List Thread
with_lives n [] = []
with_lives n (l ∷ ls) = record { number = n; life = l; slots = [] } ∷ with_lives (suc n) ls

abbrev pub made : ℕ → List (Option Plain) → Made
made t cells = record { thread = t; cells = cells }

-- the run has ended, with so many threads, these objects made and dropped, these prints and labels
abbrev pub Ends : Term → List Turn → List Life → List Made → List ℤ → List Label → Type 0
Ends t order lives heap output labels = plain (program t) order ≡ Some (record { state = record { threads = with_lives 0 lives; heap = heap; mutexes = []; pairs = []; output = output }; labels = labels })

-- why a step after these is refused
abbrev pub refused_in : ℕ → Fresh → Option Stepped → Option Refusal
refused_in t names None = None
refused_in t names (Some s) = refused s.state t names

abbrev pub Refuses : Term → List Turn → ℕ → Fresh → Refusal → Type 0
Refuses t order thread names r = refused_in thread names (plain (program t) order) ≡ Some r

-- { let mut h = spawn () { 3 }; print join h }
abbrev pub joined : Term
joined = block (let_t 0 h (spawn [] (number 3 ∷ [])) ∷ print_t 0 (join h) ∷ [])

abbrev joined_labels : List Label
joined_labels = label.Start 1 ∷ label.End 1 ∷ label.Print (pos 3) ∷ label.End 0 ∷ []

-- { let mut x = box 1; let mut h = spawn (x) { *x }; print join h }
abbrev pub moved_in : Term
moved_in = block (let_t 0 x (box_t 0 (number 1)) ∷ let_t 0 h (spawn (x ∷ []) (read x 1 ∷ [])) ∷ print_t 0 (join h) ∷ [])

-- { let mut x = 1; let mut h = spawn (x) { x = 2; x }; print (x + join h) }
abbrev pub copied_in : Term
copied_in = block (let_t 0 x (number 1) ∷ let_t 0 h (spawn (x ∷ []) (assign_t 0 (spot x 0) (number 2) ∷ read x 0 ∷ [])) ∷ print_t 0 (arith_t 0 op.Add (read x 0) (join h)) ∷ [])

-- { spawn () { box 3 }; print 1 }
abbrev pub let_go : Term
let_go = block (spawn [] (box_t 0 (number 3) ∷ []) ∷ print_t 0 (number 1) ∷ [])

abbrev let_go_labels : List Label
let_go_labels = label.Start 1 ∷ label.Make (object 1 0) (int 3) ∷ label.End 1 ∷ label.Print (pos 1) ∷ label.End 0 ∷ []

-- { let mut h = spawn () { spawn () { box 3 } } }
abbrev pub task_of_task : Term
task_of_task = block (let_t 0 h (spawn [] (spawn [] (box_t 0 (number 3) ∷ []) ∷ [])) ∷ [])

-- { let mut h = spawn () { 3 }; let mut g = spawn () { 4 } }
abbrev pub two : Term
two = block (let_t 0 h (spawn [] (number 3 ∷ [])) ∷ let_t 0 g (spawn [] (number 4 ∷ [])) ∷ [])

-- the main thread at the join of another one (no run leads to the states below)
abbrev in_circle : Life → Whole
in_circle other = record { threads = with_lives 0 (alive (join_r (temp (Own (value.Task 1)))) ∷ other ∷ []); heap = []; mutexes = []; pairs = []; output = [] }

pub record ThreadsRun : Type 0 where
  -- whether the new thread ends before the main thread goes on or after it, a join waits for it
  pub joined_soon : Ends joined (starts 0 1 ++ steps 1 1 ++ steps 0 6) (over ∷ over ∷ []) (made 0 [] ∷ []) (pos 3 ∷ []) joined_labels
  pub joined_late : Ends joined (starts 0 1 ++ steps 0 2 ++ steps 1 1 ++ steps 0 4) (over ∷ over ∷ []) (made 0 [] ∷ []) (pos 3 ∷ []) joined_labels
  pub join_waits : Refuses joined (starts 0 1 ++ steps 0 2) 0 fresh.None (waits (wait.Join 1))
  pub cannot_join : plain (program joined) (starts 0 1 ++ steps 0 3) ≡ None
  -- a captured box is the new thread's, and a captured number is copied
  pub moved_in : Ends moved_in (steps 0 2 ++ starts 0 1 ++ steps 0 1 ++ steps 1 3 ++ steps 0 6) (over ∷ over ∷ []) (made 0 (None ∷ []) ∷ []) (pos 1 ∷ []) (label.Make (object 0 0) (int 1) ∷ label.Start 1 ∷ label.Load (object 0 0) (int 1) ∷ label.Drop (object 0 0) ∷ label.End 1 ∷ label.Print (pos 1) ∷ label.End 0 ∷ [])
  pub copied_in : Ends copied_in (steps 0 1 ++ starts 0 1 ++ steps 0 1 ++ steps 1 4 ++ steps 0 8) (over ∷ over ∷ []) (made 0 [] ∷ []) (pos 3 ∷ []) joined_labels
  -- a task that is dropped before its thread ends, and after that
  pub let_go_soon : Ends let_go (starts 0 1 ++ steps 0 1 ++ steps 1 2 ++ steps 0 2) (over ∷ over ∷ []) (made 0 [] ∷ made 1 (None ∷ []) ∷ []) (pos 1 ∷ []) let_go_labels
  pub let_go_late : Ends let_go (starts 0 1 ++ steps 1 2 ++ steps 0 3) (over ∷ over ∷ []) (made 0 [] ∷ made 1 (None ∷ []) ∷ []) (pos 1 ∷ []) let_go_labels
  -- with a result the task in it is dropped
  pub task_of_task : Ends task_of_task (starts 0 1 ++ steps 0 1 ++ starts 1 2 ++ steps 1 1 ++ steps 2 2 ++ steps 0 2) (over ∷ over ∷ over ∷ []) (made 0 [] ∷ made 2 (None ∷ []) ∷ []) [] (label.Start 1 ∷ label.Start 2 ∷ label.End 1 ∷ label.Make (object 2 0) (int 3) ∷ label.End 2 ∷ label.End 0 ∷ [])
  -- refusals
  pub no_such : Refuses two (starts 0 1) 5 fresh.None no_thread
  pub ended_there : Refuses two (starts 0 1 ++ steps 1 1) 1 fresh.None has_ended
  pub wants_name : Refuses two [] 0 fresh.None name_kind
  pub wants_none : Refuses two (starts 0 1) 0 (fresh.Thread 2) name_kind
  pub main_is_given : Refuses two [] 0 (fresh.Thread 0) name_used
  pub is_given : Refuses two (starts 0 1 ++ steps 0 1) 0 (fresh.Thread 1) name_used
  -- how states stand
  pub deadlocked : ending_of (in_circle (owing (join_r (temp (Own (value.Task 0)))))) ≡ ending.Deadlocked
  pub deadlocked_beside : ending_of (in_circle over) ≡ ending.Deadlocked
  pub not_deadlocked : ending_of (in_circle (owing unit_c)) ≡ ending.Going
  pub not_waiting : ending_of (in_circle (ended (Own value.Unit))) ≡ ending.Going
  pub not_finished : ending_of (record { threads = with_lives 0 (over ∷ loose unit_c ∷ []); heap = []; mutexes = []; pairs = []; output = [] }) ≡ ending.Going
  pub finished : ending_of (record { threads = with_lives 0 (over ∷ ended (Own value.Unit) ∷ []); heap = []; mutexes = []; pairs = []; output = [] }) ≡ ending.Finished
