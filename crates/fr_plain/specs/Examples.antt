-- Whole runs of the main thread, each written above its term, with its prints and labels.
use Rattle.std.specs.Prelude.{◌≡◌, ℕ, ℤ, pos, neg_ℤ, List, [], ◌∷◌, Option, Some, None}
use Rattle.fr_base.specs.declared.label.Plain.{Plain}
use Rattle.fr_base.specs.declared.label.Plain.TheVariants as plain
use Rattle.fr_base.specs.declared.label.Label.{Label}
use Rattle.fr_base.specs.declared.label.Label.TheVariants as label
use Rattle.fr_base.specs.declared.name.ObjNo.{ObjNo}
use Rattle.fr_base.specs.declared.place.Op.TheVariants as op
use Rattle.fr_terms.specs.Terms.{Text, Spot, Term, block_t, let_t, assign_t, read_t, borrow_t, borrow_mut_t, number_t, box_t, print_t, arith_t, Items, none, item}
use Rattle.fr_plain.specs.Run.{over}
use Rattle.fr_plain.specs.Whole.{plain as plain_run, main_steps}
use Rattle.fr_plain.specs.Resolve.{program}

abbrev pub items : List Term → Items
items [] = none
items (t ∷ ts) = item t (items ts)

-- where a token stands doesn't matter to a run
abbrev pub block : List Term → Term
block ts = block_t 0 (items ts)

abbrev pub spot : Text → ℕ → Spot
spot name stars = record { at = 0; name = name; stars = stars }

abbrev pub read : Text → ℕ → Term
read name stars = read_t 0 (spot name stars)

abbrev pub number : ℕ → Term
number n = number_t 0 (pos n)

-- the names
abbrev pub x : Text
x = 120 ∷ []

abbrev pub y : Text
y = 121 ∷ []

abbrev pub r : Text
r = 114 ∷ []

-- the objects that the main thread makes
abbrev object : ℕ → ObjNo
object n = record { thread = 0; count = n }

abbrev int : ℕ → Plain
int n = plain.Int (pos n)

-- the run has ended after so many steps, with these objects made and dropped, these prints and labels
abbrev Ends : Term → ℕ → List (Option Plain) → List ℤ → List Label → Type 0
Ends t steps cells output labels =
    plain_run (program t) (main_steps steps) ≡ Some (record {
      state = record { threads = record { number = 0; life = over; slots = [] } ∷ []; heap = record { thread = 0; cells = cells } ∷ []; mutexes = []; pairs = []; output = output };
      labels = labels;
    })

-- { let mut x = box 1; *x = 2; print *x }
abbrev pub boxed : Term
boxed = block (let_t 0 x (box_t 0 (number 1)) ∷ assign_t 0 (spot x 1) (number 2) ∷ print_t 0 (read x 1) ∷ [])

-- { let mut x = 1; { let mut r = &mut x; *r = 2 }; print x }
abbrev pub lent_inside : Term
lent_inside = block (let_t 0 x (number 1) ∷ block (let_t 0 r (borrow_mut_t 0 (spot x 0)) ∷ assign_t 0 (spot r 1) (number 2) ∷ []) ∷ print_t 0 (read x 0) ∷ [])

-- { print (9223372036854775807 + 1) }
abbrev pub wraps : Term
wraps = block (print_t 0 (arith_t 0 op.Add (number 9223372036854775807) (number 1)) ∷ [])

-- { let mut x = box 1; let mut r = &*x; print (*r + *r) }
abbrev pub twice_read : Term
twice_read = block (let_t 0 x (box_t 0 (number 1)) ∷ let_t 0 r (borrow_t 0 (spot x 1)) ∷ print_t 0 (arith_t 0 op.Add (read r 1) (read r 1)) ∷ [])

-- { let mut x = box box 1; let mut r = &**x; print *r }
abbrev pub deep : Term
deep = block (let_t 0 x (box_t 0 (box_t 0 (number 1))) ∷ let_t 0 r (borrow_t 0 (spot x 2)) ∷ print_t 0 (read r 1) ∷ [])

-- { let mut x = box 1; { let mut r = &mut x; *r = box 2 }; print *x }
abbrev pub written_over : Term
written_over = block (let_t 0 x (box_t 0 (number 1)) ∷ block (let_t 0 r (borrow_mut_t 0 (spot x 0)) ∷ assign_t 0 (spot r 1) (box_t 0 (number 2)) ∷ []) ∷ print_t 0 (read x 1) ∷ [])

-- { let mut x = box 1; { let mut r = &mut x; **r = 2 }; print *x }
abbrev pub written_in : Term
written_in = block (let_t 0 x (box_t 0 (number 1)) ∷ block (let_t 0 r (borrow_mut_t 0 (spot x 0)) ∷ assign_t 0 (spot r 2) (number 2) ∷ []) ∷ print_t 0 (read x 1) ∷ [])

-- { let mut x = box box 1; let mut r = &mut *x; let mut y = &mut **r; *y = 2; print *y }
abbrev pub again_lent : Term
again_lent =
    block (let_t 0 x (box_t 0 (box_t 0 (number 1))) ∷ let_t 0 r (borrow_mut_t 0 (spot x 1)) ∷ let_t 0 y (borrow_mut_t 0 (spot r 2)) ∷ assign_t 0 (spot y 1) (number 2) ∷ print_t 0 (read y 1) ∷ [])

-- { let mut x = box 1; let mut y = x; print *y }
abbrev pub moved_on : Term
moved_on = block (let_t 0 x (box_t 0 (number 1)) ∷ let_t 0 y (read x 0) ∷ print_t 0 (read y 1) ∷ [])

-- { let mut x = 1; let mut y = 2; let mut r = &x; r = &y; &x; print (*r - x) }
abbrev pub turned : Term
turned = block (let_t 0 x (number 1) ∷ let_t 0 y (number 2) ∷ let_t 0 r (borrow_t 0 (spot x 0)) ∷ assign_t 0 (spot r 0) (borrow_t 0 (spot y 0)) ∷ borrow_t 0 (spot x 0) ∷ print_t 0 (arith_t 0 op.Sub (read r 1) (read x 0)) ∷ [])

-- { let mut x = 1; print (x - { x = 5; x }) }
abbrev pub left_first : Term
left_first = block (let_t 0 x (number 1) ∷ print_t 0 (arith_t 0 op.Sub (read x 0) (block (assign_t 0 (spot x 0) (number 5) ∷ read x 0 ∷ []))) ∷ [])

pub record RunsCompute : Type 0 where
  pub boxed : Ends boxed 7 (None ∷ []) (pos 2 ∷ []) (label.Make (object 0) (int 1) ∷ label.Store (object 0) (int 2) ∷ label.Load (object 0) (int 2) ∷ label.Print (pos 2) ∷ label.Drop (object 0) ∷ label.End 0 ∷ [])
  pub lent_inside : Ends lent_inside 9 [] (pos 2 ∷ []) (label.Print (pos 2) ∷ label.End 0 ∷ [])
  pub wraps : Ends wraps 3 [] (neg_ℤ (pos 9223372036854775808) ∷ []) (label.Print (neg_ℤ (pos 9223372036854775808)) ∷ label.End 0 ∷ [])
  pub twice_read : Ends twice_read 11 (None ∷ []) (pos 2 ∷ []) (label.Make (object 0) (int 1) ∷ label.Load (object 0) (int 1) ∷ label.Load (object 0) (int 1) ∷ label.Print (pos 2) ∷ label.Drop (object 0) ∷ label.End 0 ∷ [])
  pub deep : Ends deep 10 (None ∷ None ∷ []) (pos 1 ∷ []) (label.Make (object 0) (int 1) ∷ label.Make (object 1) (plain.Box (object 0)) ∷ label.Load (object 1) (plain.Box (object 0)) ∷ label.Load (object 0) (int 1) ∷ label.Print (pos 1) ∷ label.Drop (object 1) ∷ label.End 0 ∷ [])
  pub written_over : Ends written_over 11 (None ∷ None ∷ []) (pos 2 ∷ []) (label.Make (object 0) (int 1) ∷ label.Make (object 1) (int 2) ∷ label.Drop (object 0) ∷ label.Load (object 1) (int 2) ∷ label.Print (pos 2) ∷ label.Drop (object 1) ∷ label.End 0 ∷ [])
  pub written_in : Ends written_in 10 (None ∷ []) (pos 2 ∷ []) (label.Make (object 0) (int 1) ∷ label.Store (object 0) (int 2) ∷ label.Load (object 0) (int 2) ∷ label.Print (pos 2) ∷ label.Drop (object 0) ∷ label.End 0 ∷ [])
  pub again_lent : Ends again_lent 14 (None ∷ None ∷ []) (pos 2 ∷ []) (label.Make (object 0) (int 1) ∷ label.Make (object 1) (plain.Box (object 0)) ∷ label.Load (object 1) (plain.Box (object 0)) ∷ label.Store (object 0) (int 2) ∷ label.Load (object 0) (int 2) ∷ label.Print (pos 2) ∷ label.Drop (object 1) ∷ label.End 0 ∷ [])
  pub moved_on : Ends moved_on 9 (None ∷ []) (pos 1 ∷ []) (label.Make (object 0) (int 1) ∷ label.Load (object 0) (int 1) ∷ label.Print (pos 1) ∷ label.Drop (object 0) ∷ label.End 0 ∷ [])
  pub turned : Ends turned 16 [] (pos 1 ∷ []) (label.Print (pos 1) ∷ label.End 0 ∷ [])
  pub left_first : Ends left_first 8 [] (neg_ℤ (pos 4) ∷ []) (label.Print (neg_ℤ (pos 4)) ∷ label.End 0 ∷ [])
