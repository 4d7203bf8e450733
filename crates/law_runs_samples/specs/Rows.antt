-- SMALL PROGRAMS AND HOW EACH OF THEM ENDS, each written above its term (this project's rules). Where a token stands doesn't matter to a run.
use Rattle.std.specs.Prelude.{◌≡◌, ℕ, ℤ, pos, true, List, [], ◌∷◌, Some, None}
use Rattle.law_plain_table.specs.Below.fr_base.declared.place.Op.TheVariants as op
use Rattle.law_plain_table.specs.Below.fr_base.declared.step.Ending3.TheVariants.{Finished, Deadlocked}
use Rattle.law_plain_table.specs.Below.fr_terms.Terms.{Text, Term, let_t, assign_t, borrow_t, borrow_mut_t, box_t, print_t, arith_t, par_t}
use Rattle.law_plain_table.specs.Below.fr_plain.Resolve.{program}
use Rattle.law_plain_table.specs.Below.fr_plain.Examples.{block, spot, read, number, x, y, r}
use Rattle.law_plain_table.specs.Below.fr_plain.ThreadRuns.{h, captured, spawn, join}
use Rattle.law_plain_table.specs.Below.fr_plain.LockRuns.{m, c, mutex, lock}
use Rattle.law_plain_table.specs.CodeOf.{code_of}
use Rattle.law_plain_names.specs.Explored.{End, all_end}

-- a program, how many plain steps each of its runs has, and how each of them ends
pub record Row : Type 0 where
  pub term : Term
  pub steps : ℕ
  pub end : End

abbrev pub finished : List ℤ → End
finished ns = record { ending = Finished; prints = ns; lock = None }

abbrev pub int : ℕ → ℤ
int n = pos n

-- the names
abbrev a : Text
a = 97 ∷ []

abbrev b : Text
b = 98 ∷ []

abbrev s : Text
s = 115 ∷ []

-- let mut x = box n, printing a place, assigning a number, and references
abbrev boxed : Text → ℕ → Term
boxed name n = let_t 0 name (box_t 0 (number n))

abbrev printed : Text → ℕ → Term
printed name stars = print_t 0 (read name stars)

abbrev set : Text → ℕ → ℕ → Term
set name stars n = assign_t 0 (spot name stars) (number n)

abbrev shown : Text → Text → Term
shown name of = let_t 0 name (borrow_t 0 (spot of 1))

abbrev lent : Text → Text → ℕ → Term
lent name of stars = let_t 0 name (borrow_mut_t 0 (spot of stars))

abbrev par : List Text → List Term → List Text → List Term → Term
par names ts others us = par_t 0 (captured names) (block ts) (captured others) (block us)

-- PROGRAMS OF ONE THREAD

-- { let mut x = box 1; *x = 2; print *x }
abbrev pub written_box : Row
written_box = record { term = block (boxed x 1 ∷ set x 1 2 ∷ printed x 1 ∷ []); steps = 7; end = finished (int 2 ∷ []) }

-- { }
abbrev pub empty : Row
empty = record { term = block []; steps = 1; end = finished [] }

-- { let mut x = 1; { let mut r = &mut x; *r = 2 }; print x }
abbrev pub lent_slot : Row
lent_slot = record { term = block (let_t 0 x (number 1) ∷ block (lent r x 0 ∷ set r 1 2 ∷ []) ∷ printed x 0 ∷ []); steps = 9; end = finished (int 2 ∷ []) }

-- { let mut x = box 0; *x = 1; *x = 2; *x = 3; *x = 4; *x = 5; print *x }
abbrev pub often_written : Row
often_written = record { term = block (boxed x 0 ∷ set x 1 1 ∷ set x 1 2 ∷ set x 1 3 ∷ set x 1 4 ∷ set x 1 5 ∷ printed x 1 ∷ []); steps = 11; end = finished (int 5 ∷ []) }

-- { let mut x = box 1; { let mut r = &mut *x; *r = 2; print *r; *r = 3; print *r }; print *x }
abbrev pub lent_box : Row
lent_box =
    record { term = block (boxed x 1 ∷ block (lent r x 1 ∷ set r 1 2 ∷ printed r 1 ∷ set r 1 3 ∷ printed r 1 ∷ []) ∷ printed x 1 ∷ []); steps = 15; end = finished (int 2 ∷ int 3 ∷ int 3 ∷ []) }

-- PROGRAMS OF SEVERAL THREADS

-- { let mut x = box 5; let mut h = spawn (x) { print *x; print *x }; join h }
abbrev pub read_elsewhere : Row
read_elsewhere = record { term = block (boxed x 5 ∷ let_t 0 h (spawn (x ∷ []) (printed x 1 ∷ printed x 1 ∷ [])) ∷ join h ∷ []); steps = 15; end = finished (int 5 ∷ int 5 ∷ []) }

-- { let mut x = box 5; let mut h = spawn (x) { *x = 6; x }; let mut y = join h; print *y }
abbrev pub written_elsewhere : Row
written_elsewhere =
    record { term = block (boxed x 5 ∷ let_t 0 h (spawn (x ∷ []) (set x 1 6 ∷ read x 0 ∷ [])) ∷ let_t 0 y (join h) ∷ printed y 1 ∷ []); steps = 17; end = finished (int 6 ∷ []) }

-- { let mut x = box 1; { let mut r = &*x; par (r) { print *r } (r) { print *r } }; *x = 2; { let mut s = &*x; par (s) { print *s } (s) { print *s } } }
abbrev pub read_by_pairs : Row
read_by_pairs = record { term = block (boxed x 1 ∷ seen r ∷ set x 1 2 ∷ seen s ∷ []); steps = 31; end = finished (int 1 ∷ int 1 ∷ int 2 ∷ int 2 ∷ []) }
  where
    seen : Text → Term
    seen name = block (shown name x ∷ par (name ∷ []) (printed name 1 ∷ []) (name ∷ []) (printed name 1 ∷ []) ∷ [])

-- { let mut x = box 1; let mut y = box 2; let mut a = &*x; let mut b = &*y; par (a, b) { print *a; print *b; print (*a + *b) } () { } }
abbrev pub read_two : Row
read_two = record {
  term = block (boxed x 1 ∷ boxed y 2 ∷ shown a x ∷ shown b y ∷ par (a ∷ b ∷ []) (printed a 1 ∷ printed b 1 ∷ print_t 0 (arith_t 0 op.Add (read a 1) (read b 1)) ∷ []) [] [] ∷ []);
  steps = 27;
  end = finished (int 1 ∷ int 2 ∷ int 3 ∷ []);
}

-- { let mut m = mutex box 7; let mut h = spawn (m) { lock m as c { *c = 8 } }; join h }
abbrev pub locked_elsewhere : Row
locked_elsewhere =
    record { term = block (let_t 0 m (mutex (box_t 0 (number 7))) ∷ let_t 0 h (spawn (m ∷ []) (lock m c (set c 1 8 ∷ []) ∷ [])) ∷ join h ∷ []); steps = 15; end = finished [] }

-- A PROGRAM THAT WAITS FOR ITSELF

-- { let mut m = mutex 1; lock m as a { lock m as b { print b } } }, which waits in its second lock
abbrev pub locked_twice : Row
locked_twice =
    record { term = block (let_t 0 m (mutex (number 1)) ∷ lock m a (lock m b (printed b 0 ∷ []) ∷ []) ∷ []); steps = 3; end = record { ending = Deadlocked; prints = []; lock = Some 0 } }

-- EXPLORED

-- each order of plain steps of the row's code has so many steps and ends so: a computation
abbrev pub IsExplored : Row → Type 0
IsExplored row = all_end (code_of (program row.term)) row.steps row.end ≡ true
