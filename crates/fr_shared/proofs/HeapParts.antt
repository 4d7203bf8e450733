-- The heap by places of threads.
use Rattle.std.proofs.Common.{◌≡◌, ℕ, zero, suc, ◌<◌, List, [], ◌∷◌, ◌++◌, length, get_or, Option, Some, None, refl, sym, ap, ◌∙◌, arith}
use Rattle.std.specs.Prelude.{option_map, slice_get, slice_set, map, if◌then◌else◌}
use Rattle.fr_base.specs.declared.label.Plain.{Plain}
use Rattle.fr_base.specs.declared.name.ObjNo.{ObjNo}
use Rattle.fr_plain.specs.Heap.{Heap, made_by, flat, cell_at, with_cells}
use Rattle.fr_shared.specs.Places.{place_of}
use Rattle.fr_shared.specs.HeapRoom.{heap_by}
use Rattle.fr_typing.proofs.PlaceLemmas.{eq_cases}
use Rattle.fr_shared.proofs.PlaceLemmas.{later_place}

-- what a thread without a place has made
pub none_made : (ns : List ℕ) (cs : List (List (Option Plain))) (t : ℕ) → place_of ns t ≡ None → made_by (heap_by ns cs) t ≡ []
none_made [] cs t h = refl
none_made (n ∷ ns) [] t h = refl
none_made (n ∷ ns) (c ∷ cs) t h =
    eq_cases (λ b. (if b then Some 0 else option_map (λ k. suc k) (place_of ns t)) ≡ None → (if b then c else made_by (heap_by ns cs) t) ≡ []) n t
    (λ same g. absurd cc) (λ other g. none_made ns cs t (by (place_of ns t) g)) h
  where
    by : (o : Option ℕ) → option_map (λ k. suc k) o ≡ None → o ≡ None
    by None g = refl
    by (Some k) g = cc

-- what a thread has made stands at its place
pub place_made : (ns : List ℕ) (cs : List (List (Option Plain))) (t i : ℕ) → place_of ns t ≡ Some i → i < length cs → made_by (heap_by ns cs) t ≡ get_or cs i []
place_made [] cs t i h lt = absurd cc
place_made (n ∷ ns) [] t i h lt = absurd (omega arith)
place_made (n ∷ ns) (c ∷ cs) t i h lt =
    eq_cases (λ b. (if b then Some 0 else option_map (λ k. suc k) (place_of ns t)) ≡ Some i → (if b then c else made_by (heap_by ns cs) t) ≡ get_or (c ∷ cs) i []) n t
    (λ same g. let z : 0 ≡ i = cc in ap (λ k. get_or (c ∷ cs) k []) z)
    (λ other g.
    let l = later_place (place_of ns t) i g in
    place_made ns cs t l.0 l.1 (omega (arith, l.2)) ∙ ap (λ k. get_or (c ∷ cs) k []) (sym l.2)) h

-- and is changed there
pub place_set : (ns : List ℕ) (cs : List (List (Option Plain))) (t i : ℕ) (new : List (Option Plain)) → place_of ns t ≡ Some i → i < length cs → with_cells (heap_by ns cs) t new ≡ heap_by ns (slice_set cs i new)
place_set [] cs t i new h lt = absurd cc
place_set (n ∷ ns) [] t i new h lt = absurd (omega arith)
place_set (n ∷ ns) (c ∷ cs) t i new h lt =
    eq_cases (λ b. (if b then Some 0 else option_map (λ k. suc k) (place_of ns t)) ≡ Some i → (if b then record { thread = n; cells = new } ∷ heap_by ns cs else record { thread = n; cells = c } ∷ with_cells (heap_by ns cs) t new) ≡ heap_by (n ∷ ns) (slice_set (c ∷ cs) i new)) n t
    (λ same g. let z : 0 ≡ i = cc in ap (λ k. heap_by (n ∷ ns) (slice_set (c ∷ cs) k new)) z)
    (λ other g.
    let l = later_place (place_of ns t) i g in
    ap (λ (h : Heap). record { thread = n; cells = c } ∷ h) (place_set ns cs t l.0 new l.1 (omega (arith, l.2))) ∙ ap (λ k. heap_by (n ∷ ns) (slice_set (c ∷ cs) k new)) (sym l.2)) h

-- the first object of a thread makes a list more
pub place_added : (ns : List ℕ) (cs : List (List (Option Plain))) (t : ℕ) (new : List (Option Plain)) → place_of ns t ≡ None → length cs ≡ length ns → with_cells (heap_by ns cs) t new ≡ heap_by (ns ++ t ∷ []) (cs ++ new ∷ [])
place_added [] [] t new h e = refl
place_added [] (c ∷ cs) t new h e = absurd (omega arith)
place_added (n ∷ ns) [] t new h e = absurd (omega arith)
place_added (n ∷ ns) (c ∷ cs) t new h e =
    eq_cases (λ b. (if b then Some 0 else option_map (λ k. suc k) (place_of ns t)) ≡ None → (if b then record { thread = n; cells = new } ∷ heap_by ns cs else record { thread = n; cells = c } ∷ with_cells (heap_by ns cs) t new) ≡ heap_by ((n ∷ ns) ++ t ∷ []) ((c ∷ cs) ++ new ∷ [])) n t
    (λ same g. absurd cc) (λ other g. ap (λ (h : Heap). record { thread = n; cells = c } ∷ h) (place_added ns cs t new (by (place_of ns t) g) (omega (arith, e)))) h
  where
    by : (o : Option ℕ) → option_map (λ k. suc k) o ≡ None → o ≡ None
    by None g = refl
    by (Some k) g = cc

-- LISTS OF CELLS IN VECTORS

module _ {V : Type 0} (f : V → List (Option Plain)) where
  length_map : (vs : List V) → length (map f vs) ≡ length vs
  length_map [] = refl
  length_map (v ∷ vs) = ap suc (length_map vs)

  get_map : (vs : List V) (i : ℕ) (v : V) → i < length vs → get_or (map f vs) i [] ≡ f (get_or vs i v)
  get_map [] i v lt = absurd (omega arith)
  get_map (u ∷ vs) zero v lt = refl
  get_map (u ∷ vs) (suc i) v lt = get_map vs i v (omega arith)

  set_map : (vs : List V) (i : ℕ) (v : V) → slice_set (map f vs) i (f v) ≡ map f (slice_set vs i v)
  set_map [] i v = refl
  set_map (u ∷ vs) zero v = refl
  set_map (u ∷ vs) (suc i) v = ap (λ l. f u ∷ l) (set_map vs i v)

  push_map : (vs : List V) (v : V) → map f vs ++ f v ∷ [] ≡ map f (vs ++ v ∷ [])
  push_map [] v = refl
  push_map (u ∷ vs) v = ap (λ l. f u ∷ l) (push_map vs v)

  -- what the thread of a place has made
  pub made_there : (ns : List ℕ) (vs : List V) (t i : ℕ) (v : V) → place_of ns t ≡ Some i → length vs ≡ length ns → i < length ns → v ≡ get_or vs i v → made_by (heap_by ns (map f vs)) t ≡ f v
  made_there ns vs t i v h e lt is = place_made ns (map f vs) t i h (omega (arith, length_map vs, e)) ∙ get_map vs i v (omega (arith, e)) ∙ ap f (sym is)

  -- other cells at the thread's place
  pub cells_set : (ns : List ℕ) (vs : List V) (t i : ℕ) (v : V) (new : List (Option Plain)) → place_of ns t ≡ Some i → length vs ≡ length ns → i < length ns → f v ≡ new → with_cells (heap_by ns (map f vs)) t new ≡ heap_by ns (map f (slice_set vs i v))
  cells_set ns vs t i v new h e lt is =
      place_set ns (map f vs) t i new h (omega (arith, length_map vs, e)) ∙ ap (λ xs. heap_by ns (slice_set (map f vs) i xs)) (sym is) ∙ ap (heap_by ns) (set_map vs i v)

  -- the first cells of a thread
  pub cells_added : (ns : List ℕ) (vs : List V) (t : ℕ) (v : V) (new : List (Option Plain)) → place_of ns t ≡ None → length vs ≡ length ns → f v ≡ new → with_cells (heap_by ns (map f vs)) t new ≡ heap_by (ns ++ t ∷ []) (map f (vs ++ v ∷ []))
  cells_added ns vs t v new h e is =
      place_added ns (map f vs) t new h (omega (arith, length_map vs, e)) ∙ ap (λ xs. heap_by (ns ++ t ∷ []) (map f vs ++ xs ∷ [])) (sym is) ∙ ap (heap_by (ns ++ t ∷ [])) (push_map vs v)

  -- the same cells in a vector with more room
  pub same_cells : (vs : List V) (i : ℕ) (v w : V) → v ≡ get_or vs i v → f w ≡ f v → map f (slice_set vs i w) ≡ map f vs
  same_cells [] i v w is e = refl
  same_cells (u ∷ vs) zero v w is e = ap (λ l. l ∷ map f vs) (e ∙ ap f is)
  same_cells (u ∷ vs) (suc i) v w is e = ap (λ l. f u ∷ l) (same_cells vs i v w is e)

-- no object of a thread without a place lives
pub cell_nowhere : (ns : List ℕ) (cs : List (List (Option Plain))) (o : ObjNo) → place_of ns o.thread ≡ None → cell_at (heap_by ns cs) o ≡ None
cell_nowhere ns cs o h = ap (λ xs. flat (slice_get xs o.count)) (none_made ns cs o.thread h)

-- room at a thread's place
pub room_there : {V : Type 0} (g : V → ℕ) (vs : List V) (i : ℕ) (v : V) → i < length vs → v ≡ get_or vs i v → get_or (map g vs) i 1 ≡ g v
room_there g [] i v lt is = absurd (omega arith)
room_there g (u ∷ vs) zero v lt is = ap g (sym is)
room_there g (u ∷ vs) (suc i) v lt is = room_there g vs i v (omega arith) is

-- room where it was made
pub room_set : {V : Type 0} (g : V → ℕ) (vs : List V) (i : ℕ) (w : V) → i < length vs → get_or (map g (slice_set vs i w)) i 1 ≡ g w
room_set g [] i w lt = absurd (omega arith)
room_set g (u ∷ vs) zero w lt = refl
room_set g (u ∷ vs) (suc i) w lt = room_set g vs i w (omega arith)

-- a list with another item is as long
pub length_set : {V : Type 0} (vs : List V) (i : ℕ) (w : V) → length (slice_set vs i w) ≡ length vs
length_set [] i w = refl
length_set (u ∷ vs) zero w = refl
length_set (u ∷ vs) (suc i) w = ap suc (length_set vs i w)
