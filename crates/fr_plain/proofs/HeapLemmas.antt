-- The heap after a change, object by object.
use Rattle.std.proofs.Common.{◌≡◌, ◌≢◌, ℕ, zero, suc, ◌+◌, ◌<◌, ◌≤◌, List, [], ◌∷◌, ◌++◌, length, get_or, Option, Some, None, refl, sym, ap, ◌∙◌, arith}
use Rattle.std.specs.Prelude.{◌==◌, if◌then◌else◌, slice_get, slice_set}
use Rattle.std.proofs.Math.Seq.{get_or-append_seam}
use Rattle.std.proofs.lemmas.List.{get_or-set_same, get_or-set_other, length-set}
use Rattle.fr_base.specs.declared.label.Plain.{Plain}
use Rattle.fr_base.specs.declared.label.Plain.TheVariants as plain
use Rattle.fr_base.specs.declared.name.ObjNo.{ObjNo}
use Rattle.fr_typing.proofs.PlaceLemmas.{eq_cases}
use Rattle.fr_plain.specs.Heap.{Heap, made_by, flat, cell_at, with_cells, with_cell, next_object, with_object, count_cells, live, then_drop, drop_links, dropped, then_link, last_link}

-- what a thread has made after its cells are set
pub made_same : (h : Heap) (t : ℕ) (cells : List (Option Plain)) → made_by (with_cells h t cells) t ≡ cells
made_same [] t cells = eq_cases (λ b. (if b then cells else []) ≡ cells) t t (λ _. refl) (λ ne. absurd (ne refl))
made_same (m ∷ ms) t cells =
    eq_cases (λ b. made_by (if b then record m { cells = cells } ∷ ms else m ∷ with_cells ms t cells) t ≡ cells) m.thread t
    (λ e. eq_cases (λ b. (if b then cells else made_by ms t) ≡ cells) m.thread t (λ _. refl) (λ ne. absurd (ne e)))
    (λ ne. eq_cases (λ b. (if b then m.cells else made_by (with_cells ms t cells) t) ≡ cells) m.thread t (λ e. absurd (ne e)) (λ _. made_same ms t cells))

-- and what another thread has made
pub made_other : (h : Heap) (t u : ℕ) (cells : List (Option Plain)) → u ≢ t → made_by (with_cells h t cells) u ≡ made_by h u
made_other [] t u cells ne = eq_cases (λ b. (if b then cells else []) ≡ []) t u (λ e. absurd (ne (sym e))) (λ _. refl)
made_other (m ∷ ms) t u cells ne =
    eq_cases (λ b. made_by (if b then record m { cells = cells } ∷ ms else m ∷ with_cells ms t cells) u ≡ (if m.thread == u then m.cells else made_by ms u)) m.thread t
    (λ e. eq_cases (λ b. (if b then cells else made_by ms u) ≡ (if b then m.cells else made_by ms u)) m.thread u (λ f. absurd (ne (sym f ∙ e))) (λ _. refl))
    (λ off. eq_cases (λ b. (if b then m.cells else made_by (with_cells ms t cells) u) ≡ (if b then m.cells else made_by ms u)) m.thread u (λ _. refl) (λ _. made_other ms t u cells ne))

-- a cell of a list
pub flat_is : (xs : List (Option Plain)) (i : ℕ) → flat (slice_get xs i) ≡ get_or xs i None
flat_is [] i = refl
flat_is (x ∷ xs) zero = by x
  where
    by : (y : Option Plain) → flat (Some y) ≡ y
    by y = refl
flat_is (x ∷ xs) (suc i) = flat_is xs i

pub flat_past : (xs : List (Option Plain)) (i : ℕ) → length xs ≤ i → flat (slice_get xs i) ≡ None
flat_past [] i le = refl
flat_past (x ∷ xs) zero le = absurd (omega arith)
flat_past (x ∷ xs) (suc i) le = flat_past xs i (omega arith)

-- a cell that lives has a number below the number of objects made
pub cell_there : (xs : List (Option Plain)) (i : ℕ) (v : Plain) → flat (slice_get xs i) ≡ Some v → i < length xs
cell_there [] i v h = cc
cell_there (x ∷ xs) zero v h = omega arith
cell_there (x ∷ xs) (suc i) v h = let l = cell_there xs i v h in omega arith

-- the next object is new
pub next_new : (h : Heap) (t : ℕ) → cell_at h (next_object h t) ≡ None
next_new h t = flat_past (made_by h t) (length (made_by h t)) (omega arith)

-- a live cell is made
pub live_made : (h : Heap) (o : ObjNo) (v : Plain) → cell_at h o ≡ Some v → o.count < length (made_by h o.thread)
live_made h o v e = cell_there (made_by h o.thread) o.count v e

-- OBJECTS

abbrev object_of : ℕ → ℕ → ObjNo
object_of t c = record { thread = t; count = c }

-- an object is told by its thread and number
pub object_is : (x o : ObjNo) → x.thread ≡ o.thread → x.count ≡ o.count → x ≡ o
object_is x o e f = ap (λ t. object_of t x.count) e ∙ ap (object_of o.thread) f

-- a cell after a change there
pub cell_same : (h : Heap) (o : ObjNo) (c : Option Plain) → o.count < length (made_by h o.thread) → cell_at (with_cell h o c) o ≡ c
cell_same h o c lt = ap (λ ys. flat (slice_get ys o.count)) (made_same h o.thread (slice_set (made_by h o.thread) o.count c)) ∙ flat_is (slice_set (made_by h o.thread) o.count c) o.count ∙ get_or-set_same (made_by h o.thread) o.count c None lt

-- and after a change elsewhere
pub cell_other : (h : Heap) (o x : ObjNo) (c : Option Plain) → x ≢ o → cell_at (with_cell h o c) x ≡ cell_at h x
cell_other h o x c ne =
    eq_cases (λ b. cell_at (with_cell h o c) x ≡ cell_at h x) x.thread o.thread
    (λ e. eq_cases (λ b. cell_at (with_cell h o c) x ≡ cell_at h x) x.count o.count
    (λ f. let whole : x ≡ o = object_is x o e f in absurd (ne whole))
    (λ off. ap (λ u. flat (slice_get (made_by (with_cell h o c) u) x.count)) e ∙ ap (λ ys. flat (slice_get ys x.count)) (made_same h o.thread (slice_set (made_by h o.thread) o.count c))
    ∙ flat_is (slice_set (made_by h o.thread) o.count c) x.count ∙ get_or-set_other (made_by h o.thread) o.count x.count c None off ∙ sym (flat_is (made_by h o.thread) x.count) ∙ ap (λ u. flat (slice_get (made_by h u) x.count)) (sym e)))
    (λ off. ap (λ ys. flat (slice_get ys x.count)) (made_other h o.thread x.thread (slice_set (made_by h o.thread) o.count c) off))

-- a list of cells with one more
flat_push : (xs : List (Option Plain)) (v : Plain) (i : ℕ) → i ≢ length xs → flat (slice_get (xs ++ Some v ∷ []) i) ≡ flat (slice_get xs i)
flat_push [] v zero ne = absurd (ne refl)
flat_push [] v (suc i) ne = flat_past [] i (omega arith)
flat_push (x ∷ xs) v zero ne = refl
flat_push (x ∷ xs) v (suc i) ne = flat_push xs v i (λ e. ne (ap suc e))

-- a new object's cell
pub new_same : (h : Heap) (t : ℕ) (v : Plain) → cell_at (with_object h t v) (next_object h t) ≡ Some v
new_same h t v =
    ap (λ ys. flat (slice_get ys (length (made_by h t)))) (made_same h t (made_by h t ++ Some v ∷ [])) ∙ flat_is (made_by h t ++ Some v ∷ []) (length (made_by h t)) ∙ get_or-append_seam (made_by h t) (Some v) [] None

-- and the others
pub new_other : (h : Heap) (t : ℕ) (x : ObjNo) (v : Plain) → x ≢ next_object h t → cell_at (with_object h t v) x ≡ cell_at h x
new_other h t x v ne =
    eq_cases (λ b. cell_at (with_object h t v) x ≡ cell_at h x) x.thread t
    (λ e. ap (λ u. flat (slice_get (made_by (with_object h t v) u) x.count)) e ∙ ap (λ ys. flat (slice_get ys x.count)) (made_same h t (made_by h t ++ Some v ∷ []))
    ∙ flat_push (made_by h t) v x.count (λ f. ne (object_is x (next_object h t) e f)) ∙ ap (λ u. flat (slice_get (made_by h u) x.count)) (sym e))
    (λ off. ap (λ ys. flat (slice_get ys x.count)) (made_other h t x.thread (made_by h t ++ Some v ∷ []) off))

-- HOW MANY HAVE BEEN MADE

-- a change of a cell changes no length
pub made_kept : (h : Heap) (o : ObjNo) (c : Option Plain) (u : ℕ) → length (made_by (with_cell h o c) u) ≡ length (made_by h u)
made_kept h o c u =
    eq_cases (λ b. length (made_by (with_cell h o c) u) ≡ length (made_by h u)) u o.thread
    (λ e. ap (λ w. length (made_by (with_cell h o c) w)) e ∙ ap length (made_same h o.thread (slice_set (made_by h o.thread) o.count c)) ∙ length-set (made_by h o.thread) o.count c ∙ ap (λ w. length (made_by h w)) (sym e))
    (λ ne. ap length (made_other h o.thread u (slice_set (made_by h o.thread) o.count c) ne))

-- HOW MANY LIVE

-- one object less
count_set : (xs : List (Option Plain)) (i : ℕ) (v : Plain) → flat (slice_get xs i) ≡ Some v → count_cells (slice_set xs i None) + 1 ≡ count_cells xs
count_set [] i v h = cc
count_set (None ∷ xs) zero v h = cc
count_set (Some w ∷ xs) zero v h = omega arith
count_set (None ∷ xs) (suc i) v h = count_set xs i v h
count_set (Some w ∷ xs) (suc i) v h = let rest = count_set xs i v h in omega (arith, rest)

-- the live objects after a change of a thread
live_cells : (h : Heap) (t : ℕ) (ys : List (Option Plain)) → live (with_cells h t ys) + count_cells (made_by h t) ≡ live h + count_cells ys
live_cells [] t ys = omega arith
live_cells (m ∷ ms) t ys =
    eq_cases (λ b. live (if b then record m { cells = ys } ∷ ms else m ∷ with_cells ms t ys) + count_cells (if b then m.cells else made_by ms t) ≡ live (m ∷ ms) + count_cells ys) m.thread t
    (λ e. omega arith) (λ ne. let rest = live_cells ms t ys in omega (arith, rest))

-- each object that goes lived
pub live_falls : (h : Heap) (o : ObjNo) (v : Plain) → cell_at h o ≡ Some v → live (with_cell h o None) + 1 ≡ live h
live_falls h o v e =
    let a = live_cells h o.thread (slice_set (made_by h o.thread) o.count None) in
    let b = count_set (made_by h o.thread) o.count v e in
    omega (arith, a, b)

-- DROPPING

-- dropping a box is dropping its object, and then what was in it
pub dropped_box : (h : Heap) (o : ObjNo) (v : Plain) → cell_at h o ≡ Some v → dropped h (plain.Box o) ≡ dropped (with_cell h o None) v
dropped_box h o v e =
    let n : live h ≡ suc (live (with_cell h o None)) = omega (arith, live_falls h o v e) in
    ap (λ k. drop_links k h (plain.Box o)) n ∙ ap (λ c. then_drop c h (drop_links (live (with_cell h o None)) (with_cell h o None))) e

-- a box of no object drops nothing
pub dropped_none : (h : Heap) (o : ObjNo) → cell_at h o ≡ None → dropped h (plain.Box o) ≡ h
dropped_none h o e = by (live h)
  where
    by : (n : ℕ) → drop_links n h (plain.Box o) ≡ h
    by zero = refl
    by (suc n) = ap (λ c. then_drop c h (drop_links n (with_cell h o None))) e

-- at the end of a box stands what stands at the end of what was in it
pub link_box : (h : Heap) (o : ObjNo) (v : Plain) → cell_at h o ≡ Some v → last_link (live h) h (plain.Box o) ≡ last_link (live (with_cell h o None)) (with_cell h o None) v
link_box h o v e =
    let n : live h ≡ suc (live (with_cell h o None)) = omega (arith, live_falls h o v e) in
    ap (λ k. last_link k h (plain.Box o)) n ∙ ap (λ c. then_link c (last_link (live (with_cell h o None)) (with_cell h o None))) e
