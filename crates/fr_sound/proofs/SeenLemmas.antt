-- What the seen store becomes under each change of the state.
use Rattle.std.proofs.Common.{◌≡◌, ◌≢◌, ℕ, zero, suc, ◌+◌, ◌<◌, ◌≤◌, Bool, true, false, List, [], ◌∷◌, ◌++◌, length, Option, Some, None, refl, sym, ap, ◌∙◌, arith, length-append}
use Rattle.std.specs.Prelude.{◌==◌, if◌then◌else◌}
use Rattle.fr_plain.specs.Below.fr_base.declared.label.Plain.{Plain}
use Rattle.fr_plain.specs.Below.fr_base.declared.label.Plain.TheVariants as plain
use Rattle.fr_plain.specs.Below.fr_base.declared.name.ObjNo.{ObjNo}
use Rattle.fr_plain.proofs.Below.fr_typing.PlaceLemmas.{eq_cases}
use Rattle.fr_store.specs.Keys.{same_object}
use Rattle.fr_store.specs.Store.{Val, gone_v, task_v, or_gone}
use Rattle.fr_store.specs.Below.{tree_of}
use Rattle.fr_store.specs.ListState.{slot_value, put_slot, put_object, without_object, drop_objects, drop_last, drop_rest}
use Rattle.fr_store.proofs.Keys.{object_cases}
use Rattle.fr_plain.specs.declared.value.Value.{Value}
use Rattle.fr_plain.specs.Heap.{Heap, made_by, cell_at, with_cell, next_object, with_object, then_drop, drop_links, then_link, last_link, live}
use Rattle.fr_plain.specs.State.{slot_at, with_slot}
use Rattle.fr_plain.proofs.HeapLemmas.{made_same, made_other, live_made, live_falls, cell_same, cell_other, new_same, new_other}
use Rattle.fr_sound.specs.Seen.{Gives, owned_val, val_of, vals, seen_cell, heap_of}

-- SLOTS

-- as many slots are seen as there are
pub length_vals : (g : Gives) (t : ℕ) (vs : List Value) → length (vals g t vs) ≡ length vs
length_vals g t [] = refl
length_vals g t (v ∷ vs) = ap suc (length_vals g t vs)

-- a slot that is found, by the test of its number
some_slot : (g : Gives) (b : Bool) (t : ℕ) (v : Value) (x : Option Value) (w : Value) (rest : Val) → (x ≡ Some w → rest ≡ val_of g t w) → (if b then Some v else x) ≡ Some w → (if b then val_of g t v else rest) ≡ val_of g t w
some_slot g true t v x w rest go h = let same : v ≡ w = cc in ap (val_of g t) same
some_slot g false t v x w rest go h = go h

-- a slot that is there is seen with its value
pub slot_seen : (g : Gives) (t : ℕ) (vs : List Value) (i : ℕ) (w : Value) → slot_at vs i ≡ Some w → slot_value (vals g t vs) i ≡ val_of g t w
slot_seen g t [] i w h = cc
slot_seen g t (v ∷ vs) i w h =
    ap (λ n. if i == n then val_of g t v else slot_value (vals g t vs) i) (length_vals g t vs) ∙ some_slot g (i == length vs) t v (slot_at vs i) w (slot_value (vals g t vs) i) (slot_seen g t vs i w) h

-- a slot below the number of slots is there
pub slot_there : (vs : List Value) (i : ℕ) → i < length vs → (w : Value) × (slot_at vs i ≡ Some w)
slot_there [] i lt = absurd (omega arith)
slot_there (v ∷ vs) i lt =
    eq_cases (λ b. (w : Value) × ((if b then Some v else slot_at vs i) ≡ Some w)) i (length vs) (λ e. (v, refl)) (λ ne. slot_there vs i (omega arith))

-- the slots seen after a write
pub vals_with : (g : Gives) (t : ℕ) (vs : List Value) (i : ℕ) (w : Value) → vals g t (with_slot vs i w) ≡ put_slot (vals g t vs) i (val_of g t w)
vals_with g t [] i w = refl
vals_with g t (v ∷ vs) i w =
    eq_cases (λ b. vals g t (if b then w ∷ vs else v ∷ with_slot vs i w) ≡ (if b then val_of g t w ∷ vals g t vs else val_of g t v ∷ put_slot (vals g t vs) i (val_of g t w))) i (length vs) (λ e. refl) (λ ne. ap (λ x. val_of g t v ∷ x) (vals_with g t vs i w))
    ∙ ap (λ n. if i == n then val_of g t w ∷ vals g t vs else val_of g t v ∷ put_slot (vals g t vs) i (val_of g t w)) (sym (length_vals g t vs))

-- a write adds no slot
pub length_with_slot : (vs : List Value) (i : ℕ) (w : Value) → length (with_slot vs i w) ≡ length vs
length_with_slot [] i w = refl
length_with_slot (v ∷ vs) i w = eq_cases (λ b. length (if b then w ∷ vs else v ∷ with_slot vs i w) ≡ suc (length vs)) i (length vs) (λ e. refl) (λ ne. ap suc (length_with_slot vs i w))

-- THE HEAP

-- an object's cell after a change
cell_with : (h : Heap) (o x : ObjNo) (c : Option Plain) → o.count < length (made_by h o.thread) → cell_at (with_cell h o c) x ≡ (if same_object x o then c else cell_at h x)
cell_with h o x c lt = object_cases (λ b. cell_at (with_cell h o c) x ≡ (if b then c else cell_at h x)) x o (λ e. ap (cell_at (with_cell h o c)) e ∙ cell_same h o c lt) (λ ne. cell_other h o x c ne)

-- a cell is seen by the same test
seen_if : (g : Gives) (b : Bool) (c d : Option Plain) → seen_cell g (if b then c else d) ≡ (if b then seen_cell g c else seen_cell g d)
seen_if g true c d = refl
seen_if g false c d = refl

-- a cell gets another value
pub heap_put : (g : Gives) (h : Heap) (o x : ObjNo) (v : Plain) → o.count < length (made_by h o.thread) → heap_of g (with_cell h o (Some v)) x ≡ put_object (heap_of g h) o (owned_val g v) x
heap_put g h o x v lt = ap (seen_cell g) (cell_with h o x (Some v) lt) ∙ seen_if g (same_object x o) (Some v) (cell_at h x)

-- an object goes
pub heap_without : (g : Gives) (h : Heap) (o x : ObjNo) → o.count < length (made_by h o.thread) → heap_of g (with_cell h o None) x ≡ without_object (heap_of g h) o x
heap_without g h o x lt = ap (seen_cell g) (cell_with h o x None lt) ∙ seen_if g (same_object x o) None (cell_at h x)

-- a new object
cell_made : (h : Heap) (t : ℕ) (x : ObjNo) (v : Plain) → cell_at (with_object h t v) x ≡ (if same_object x (next_object h t) then Some v else cell_at h x)
cell_made h t x v = object_cases (λ b. cell_at (with_object h t v) x ≡ (if b then Some v else cell_at h x)) x (next_object h t) (λ e. ap (cell_at (with_object h t v)) e ∙ new_same h t v) (λ ne. new_other h t x v ne)

-- the heap seen after an object is made
pub heap_made : (g : Gives) (h : Heap) (t : ℕ) (x : ObjNo) (v : Plain) → heap_of g (with_object h t v) x ≡ put_object (heap_of g h) (next_object h t) (owned_val g v) x
heap_made g h t x v = ap (seen_cell g) (cell_made h t x v) ∙ seen_if g (same_object x (next_object h t)) (Some v) (cell_at h x)

-- HOW MANY HAVE BEEN MADE

-- no thread has made fewer
pub made_grows : (h : Heap) (t : ℕ) (v : Plain) (u : ℕ) → length (made_by h u) ≤ length (made_by (with_object h t v) u)
made_grows h t v u =
    eq_cases (λ b. length (made_by h u) ≤ length (made_by (with_object h t v) u)) u t
    (λ e. let a = ap (λ w. length (made_by (with_object h t v) w)) e ∙ ap length (made_same h t (made_by h t ++ Some v ∷ [])) in
    let b = ap (λ w. length (made_by h w)) e in
    omega (arith, a, b, length-append (made_by h t) (Some v ∷ [])))
    (λ ne. let a = ap length (made_other h t u (made_by h t ++ Some v ∷ []) ne) in omega (arith, a))

-- the next object was made
pub made_next : (h : Heap) (t : ℕ) (v : Plain) → length (made_by h t) < length (made_by (with_object h t v) t)
made_next h t v = let a = ap length (made_same h t (made_by h t ++ Some v ∷ [])) in omega (arith, a, length-append (made_by h t) (Some v ∷ []))

-- DROPPING

-- heaps that hold the same
abbrev pub SameHeap : (ObjNo → Option Val) → (ObjNo → Option Val) → Type 0
SameHeap f h = (x : ObjNo) → f x ≡ h x

-- the same object less
without_same : (f h : ObjNo → Option Val) (o : ObjNo) → SameHeap f h → SameHeap (without_object f o) (without_object h o)
without_same f h o same x = ap (λ v. if same_object x o then None else v) (same x)

-- an object less that was not there
without_none : (f : ObjNo → Option Val) (o : ObjNo) → f o ≡ None → SameHeap (without_object f o) f
without_none f o h x = object_cases (λ b. (if b then None else f x) ≡ f x) x o (λ e. sym (ap f e ∙ h)) (λ ne. refl)

-- dropping gone drops nothing
drop_nothing : (n : ℕ) (f : ObjNo → Option Val) → drop_objects n gone_v f ≡ f
drop_nothing zero f = refl
drop_nothing (suc n) f = refl

-- the same of one object less, with any number that is as large as the live objects
abbrev GoesOn : Gives → ℕ → Heap → ObjNo → (ObjNo → Option Val) → Type 0
GoesOn g n h o f =
    (k : ℕ) (w : Plain) → SameHeap (without_object f o) (heap_of g (with_cell h o None)) → drop_rest n (owned_val g w) (without_object f o) ≡ gone_v → live (with_cell h o None) ≤ k
    → SameHeap (drop_objects n (owned_val g w) (without_object f o)) (heap_of g (drop_links k (with_cell h o None) w))

-- how the plain machine drops a value is how the store does, where the store's number is enough and the machine's as large as the live objects
pub drops_agree : (g : Gives) (n m : ℕ) (h : Heap) (v : Plain) (f : ObjNo → Option Val) → SameHeap f (heap_of g h) → drop_rest n (owned_val g v) f ≡ gone_v → live h ≤ m → SameHeap (drop_objects n (owned_val g v) f) (heap_of g (drop_links m h v))
drops_agree g n m h plain.Nothing f same ends le = nothing n m
  where
    nothing : (n m : ℕ) → SameHeap (drop_objects n gone_v f) (heap_of g (drop_links m h plain.Nothing))
    nothing zero zero = same
    nothing zero (suc m) = same
    nothing (suc n) zero = same
    nothing (suc n) (suc m) = same
drops_agree g zero m h plain.Unit f same ends le = cc
drops_agree g (suc n) zero h plain.Unit f same ends le = same
drops_agree g (suc n) (suc m) h plain.Unit f same ends le = same
drops_agree g zero m h (plain.Int z) f same ends le = cc
drops_agree g (suc n) zero h (plain.Int z) f same ends le = same
drops_agree g (suc n) (suc m) h (plain.Int z) f same ends le = same
drops_agree g zero m h (plain.Mutex z) f same ends le = cc
drops_agree g (suc n) zero h (plain.Mutex z) f same ends le = same
drops_agree g (suc n) (suc m) h (plain.Mutex z) f same ends le = same
drops_agree g zero m h (plain.Task z) f same ends le = cc
drops_agree g (suc n) zero h (plain.Task z) f same ends le = same
drops_agree g (suc n) (suc m) h (plain.Task z) f same ends le = same
drops_agree g zero m h (plain.Box o) f same ends le = cc
drops_agree g (suc n) m h (plain.Box o) f same ends le = by (λ k w left r l. drops_agree g n k (with_cell h o None) w (without_object f o) left r l) (cell_at h o) refl m le
  where
    -- the object isn't there
    none : cell_at h o ≡ None → SameHeap (drop_objects n (or_gone (f o)) (without_object f o)) (heap_of g h)
    none e x =
        let fo : f o ≡ None = same o ∙ ap (seen_cell g) e in
        ap (λ v. drop_objects n (or_gone v) (without_object f o) x) fo ∙ ap (λ left. left x) (drop_nothing n (without_object f o)) ∙ without_none f o fo x ∙ same x

    there : GoesOn g n h o f → (w : Plain) (m : ℕ) → cell_at h o ≡ Some w → live h ≤ suc m → SameHeap (drop_objects n (or_gone (f o)) (without_object f o)) (heap_of g (drop_links m (with_cell h o None) w))
    there go w m e le x =
        let fo : f o ≡ Some (owned_val g w) = same o ∙ ap (seen_cell g) e in
        let l = live_falls h o w e in
        let kept : SameHeap (without_object f o) (heap_of g (with_cell h o None)) = λ y. without_same f (heap_of g h) o same y ∙ sym (heap_without g h o y (live_made h o w e)) in
        let rest : drop_rest n (owned_val g w) (without_object f o) ≡ gone_v = sym (ap (λ v. drop_rest n (or_gone v) (without_object f o)) fo) ∙ ends in
        ap (λ v. drop_objects n (or_gone v) (without_object f o) x) fo ∙ go m w kept rest (omega (arith, l)) x

    by : GoesOn g n h o f → (c : Option Plain) → cell_at h o ≡ c → (m : ℕ) → live h ≤ m → SameHeap (drop_objects n (or_gone (f o)) (without_object f o)) (heap_of g (drop_links m h (plain.Box o)))
    by go None e zero le = none e
    by go None e (suc m) le = λ x. none e x ∙ ap (λ c. heap_of g (then_drop c h (drop_links m (with_cell h o None))) x) (sym e)
    by go (Some w) e zero le = let l = live_falls h o w e in absurd (omega (arith, l))
    by go (Some w) e (suc m) le = λ x. there go w m e le x ∙ ap (λ c. heap_of g (then_drop c h (drop_links m (with_cell h o None))) x) (sym e)

-- the task that the plain machine drops last is the one that the store drops last
pub lasts_agree : (g : Gives) (n m : ℕ) (h : Heap) (v : Plain) (f : ObjNo → Option Val) (u : ℕ) → SameHeap f (heap_of g h) → drop_rest n (owned_val g v) f ≡ gone_v → live h ≤ m → last_link m h v ≡ plain.Task u → drop_last n (owned_val g v) f ≡ task_v u (tree_of (g.result u))
lasts_agree g n zero h plain.Nothing f u same ends le e = cc
lasts_agree g n (suc m) h plain.Nothing f u same ends le e = cc
lasts_agree g n zero h plain.Unit f u same ends le e = cc
lasts_agree g n (suc m) h plain.Unit f u same ends le e = cc
lasts_agree g n zero h (plain.Int z) f u same ends le e = cc
lasts_agree g n (suc m) h (plain.Int z) f u same ends le e = cc
lasts_agree g n zero h (plain.Mutex z) f u same ends le e = cc
lasts_agree g n (suc m) h (plain.Mutex z) f u same ends le e = cc
lasts_agree g zero m h (plain.Task z) f u same ends le e = cc
lasts_agree g (suc n) zero h (plain.Task z) f u same ends le e = let i : z ≡ u = cc in ap (λ t. task_v t (tree_of (g.result t))) i
lasts_agree g (suc n) (suc m) h (plain.Task z) f u same ends le e = let i : z ≡ u = cc in ap (λ t. task_v t (tree_of (g.result t))) i
lasts_agree g zero m h (plain.Box o) f u same ends le e = cc
lasts_agree g (suc n) zero h (plain.Box o) f u same ends le e = cc
lasts_agree g (suc n) (suc m) h (plain.Box o) f u same ends le e = by (cell_at h o) refl e (λ w k r l. lasts_agree g n m (with_cell h o None) w (without_object f o) u k r l)
  where
    by : (c : Option Plain) → cell_at h o ≡ c → then_link c (last_link m (with_cell h o None)) ≡ plain.Task u
        → ((w : Plain) → SameHeap (without_object f o) (heap_of g (with_cell h o None)) → drop_rest n (owned_val g w) (without_object f o) ≡ gone_v → live (with_cell h o None) ≤ m → last_link m (with_cell h o None) w ≡ plain.Task u → drop_last n (owned_val g w) (without_object f o) ≡ task_v u (tree_of (g.result u)))
        → drop_last n (or_gone (f o)) (without_object f o) ≡ task_v u (tree_of (g.result u))
    by None c k go = cc
    by (Some w) c k go =
        let fo : f o ≡ Some (owned_val g w) = same o ∙ ap (seen_cell g) c in
        let l = live_falls h o w c in
        let kept : SameHeap (without_object f o) (heap_of g (with_cell h o None)) = λ y. without_same f (heap_of g h) o same y ∙ sym (heap_without g h o y (live_made h o w c)) in
        let rest : drop_rest n (owned_val g w) (without_object f o) ≡ gone_v = sym (ap (λ v. drop_rest n (or_gone v) (without_object f o)) fo) ∙ ends in
        ap (λ v. drop_last n (or_gone v) (without_object f o)) fo ∙ go w kept rest (omega (arith, l)) k
