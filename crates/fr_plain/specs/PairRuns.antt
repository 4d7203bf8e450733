-- Whole runs with pairs of threads, each written above its term, and steps that wait for a pair.
use Rattle.std.specs.Prelude.{ℕ, pos, List, [], ◌∷◌, ◌++◌, None}
use Rattle.fr_base.specs.declared.label.Label.{Label}
use Rattle.fr_base.specs.declared.label.Label.TheVariants as label
use Rattle.fr_base.specs.declared.place.Op.TheVariants as op
use Rattle.fr_base.specs.declared.step.Fresh.TheVariants as fresh
use Rattle.fr_base.specs.declared.step.Wait.TheVariants as wait
use Rattle.fr_terms.specs.Terms.{Text, Term, let_t, assign_t, borrow_t, box_t, print_t, arith_t, par_t}
use Rattle.fr_plain.specs.Run.{over}
use Rattle.fr_plain.specs.Whole.{Turn, waits, name_kind, name_used}
use Rattle.fr_plain.specs.Examples.{block, spot, read, number, x, y, r}
use Rattle.fr_plain.specs.ThreadRuns.{captured, steps, object, int, made, Ends, Refuses}

-- the names
abbrev a : Text
a = 97 ∷ []

abbrev b : Text
b = 98 ∷ []

abbrev s : Text
s = 115 ∷ []

abbrev par : List Text → List Term → List Text → List Term → Term
par names ts others us = par_t 0 (captured names) (block ts) (captured others) (block us)

-- the step that starts two threads
abbrev both : ℕ → ℕ → List Turn
both first second = (0, fresh.Threads first second) ∷ []

-- { let mut x = box 1; { let mut r = &*x; par (r) { print *r } (r) { print *r } }; *x = 2; { let mut s = &*x; par (s) { print *s } (s) { print *s } } }
abbrev pub twice_shared : Term
twice_shared =
    block (let_t 0 x (box_t 0 (number 1)) ∷ seen r ∷ assign_t 0 (spot x 1) (number 2) ∷ seen s ∷ [])
  where
    seen : Text → Term
    seen name = block (let_t 0 name (borrow_t 0 (spot x 1)) ∷ par (name ∷ []) (print_t 0 (read name 1) ∷ []) (name ∷ []) (print_t 0 (read name 1) ∷ []) ∷ [])

-- the labels of a pair that prints that number
abbrev seen_labels : ℕ → ℕ → ℕ → List Label
seen_labels first second n =
    label.Start first ∷ label.Start second ∷ label.Load (object 0 0) (int n) ∷ label.Print (pos n) ∷ label.End first ∷ label.Load (object 0 0) (int n) ∷ label.Print (pos n) ∷ label.End second ∷ []

-- { let mut x = box 1; let mut y = box 2; let mut a = &*x; let mut b = &*y; par (a, b) { print *a; print *b; print (*a + *b) } () { } }
abbrev pub two_cells : Term
two_cells =
    block (let_t 0 x (box_t 0 (number 1)) ∷ let_t 0 y (box_t 0 (number 2)) ∷ let_t 0 a (borrow_t 0 (spot x 1)) ∷ let_t 0 b (borrow_t 0 (spot y 1))
    ∷ par (a ∷ b ∷ []) (print_t 0 (read a 1) ∷ print_t 0 (read b 1) ∷ print_t 0 (arith_t 0 op.Add (read a 1) (read b 1)) ∷ []) [] [] ∷ [])

abbrev two_loads : List Label
two_loads = label.Load (object 0 0) (int 1) ∷ label.Load (object 0 1) (int 2) ∷ []

-- { let mut x = box 1; let mut y = box 2; par (x) { print *x } (y) { *y = 3; print *y } }
abbrev pub handed_over : Term
handed_over = block (let_t 0 x (box_t 0 (number 1)) ∷ let_t 0 y (box_t 0 (number 2)) ∷ par (x ∷ []) (print_t 0 (read x 1) ∷ []) (y ∷ []) (assign_t 0 (spot y 1) (number 3) ∷ print_t 0 (read y 1) ∷ []) ∷ [])

pub record PairsRun : Type 0 where
  -- both threads see the object, and it is written once they have ended
  pub shared_twice :
      Ends twice_shared (steps 0 4 ++ both 1 2 ++ steps 1 4 ++ steps 2 4 ++ steps 0 5 ++ both 3 4 ++ steps 3 4 ++ steps 4 4 ++ steps 0 4) (over ∷ over ∷ over ∷ over ∷ over ∷ []) (made 0 (None ∷ []) ∷ []) (pos 1 ∷ pos 1 ∷ pos 2 ∷ pos 2 ∷ [])
      (label.Make (object 0 0) (int 1) ∷ seen_labels 1 2 1 ++ label.Store (object 0 0) (int 2) ∷ seen_labels 3 4 2 ++ label.Drop (object 0 0) ∷ label.End 0 ∷ [])
  -- a thread without captures, whose body is empty, ends in one step
  pub two_cells :
      Ends two_cells (steps 0 8 ++ both 1 2 ++ steps 2 1 ++ steps 1 11 ++ steps 0 6) (over ∷ over ∷ over ∷ []) (made 0 (None ∷ None ∷ []) ∷ []) (pos 1 ∷ pos 2 ∷ pos 3 ∷ [])
      (label.Make (object 0 0) (int 1) ∷ label.Make (object 0 1) (int 2) ∷ label.Start 1 ∷ label.Start 2 ∷ label.End 2 ∷ label.Load (object 0 0) (int 1) ∷ label.Print (pos 1) ∷ label.Load (object 0 1) (int 2) ∷ label.Print (pos 2) ∷ two_loads ++ label.Print (pos 3) ∷ label.End 1 ∷ label.Drop (object 0 1) ∷ label.Drop (object 0 0) ∷ label.End 0 ∷ [])
  -- each thread has what it captured, and drops it
  pub handed_over :
      Ends handed_over (steps 0 4 ++ both 1 2 ++ steps 2 5 ++ steps 1 4 ++ steps 0 4) (over ∷ over ∷ over ∷ []) (made 0 (None ∷ None ∷ []) ∷ []) (pos 3 ∷ pos 1 ∷ [])
      (label.Make (object 0 0) (int 1) ∷ label.Make (object 0 1) (int 2) ∷ label.Start 1 ∷ label.Start 2 ∷ label.Store (object 0 1) (int 3) ∷ label.Load (object 0 1) (int 3) ∷ label.Print (pos 3) ∷ label.Drop (object 0 1) ∷ label.End 2 ∷ label.Load (object 0 0) (int 1) ∷ label.Print (pos 1) ∷ label.Drop (object 0 0) ∷ label.End 1 ∷ label.End 0 ∷ [])
  -- the parent waits until both have ended
  pub waits_for_both : Refuses twice_shared (steps 0 4 ++ both 1 2) 0 fresh.None (waits (wait.Par 1 2))
  pub waits_for_one : Refuses twice_shared (steps 0 4 ++ both 1 2 ++ steps 2 4) 0 fresh.None (waits (wait.Par 1 2))
  -- a pair takes two names that are new
  pub wants_two : Refuses twice_shared (steps 0 4) 0 (fresh.Thread 1) name_kind
  pub wants_others : Refuses twice_shared (steps 0 4) 0 (fresh.Threads 1 1) name_used
