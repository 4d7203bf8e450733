-- Two clusters that are the same but for one thread, which stands where it stood: what stands where, and which pointers there are.
use Rattle.std.proofs.Common.{◌≡◌, ◌⊎◌, inl, inr, ⊎_elim, ℕ, ◌+◌, ◌==◌, false, List, [], ◌∷◌, ◌++◌, Some, None, refl, sym, ap, subst, ◌∙◌, arith}
use Rattle.std.specs.Prelude.{slice_get}
use Rattle.std.proofs.lemmas.List.{append_assoc}
use Rattle.law_words_kept.specs.Below.fr_base.declared.instruction.Instr.{Instr}
use Rattle.law_words_kept.specs.Below.fr_base.declared.name.ObjNo.{ObjNo}
use Rattle.law_words_kept.specs.Below.heap_partition.declared.value.Cell.{Cell}
use Rattle.law_words_kept.specs.Below.thread_state.View.{ThreadState}
use Rattle.law_words_kept.specs.Below.server_model.Servers.{Cluster}
use Rattle.law_words_kept.specs.Below.coherent_memory.Names.{Among, tot, one}
use Rattle.law_words_kept.specs.Below.coherent_memory.Things.{at_slot, at_temp, in_cell, Thing, lies, flies, stands, gift_things, walk_things, slot_things, temp_things, things_at, thread_things, things_of}
use Rattle.law_words_kept.specs.Below.coherent_memory.Follow.{Standing, threads_in, thread_at, cells_in, cell_of, slot_of, temp_of, value_of, value_in}
use Rattle.law_words_kept.specs.Below.coherent_memory.Sight.{Pointer, pointers_of, pointers_in, sight}
use Rattle.law_words_kept.specs.Below.coherent_memory.Placing.{standing_of, standing_in}
use Rattle.law_words_kept.specs.Below.coherent_memory.Weights.{cells, owners, is_thread}
use Rattle.law_words_kept.proofs.Below.coherent_memory.Bags.{among_split}
use Rattle.law_words_kept.proofs.Below.coherent_memory.Sums.{tot-append}
use Rattle.law_words_kept.proofs.Below.coherent_types.Branches.{found}
use Rattle.law_words_kept.proofs.Below.law_words_paths.paths.Origins.{threads_joined, among_first, among_second}
use Rattle.law_words_kept.proofs.Below.law_words_paths.paths.Contained.{rest_none}
use Rattle.law_words_kept.specs.Below.law_words_paths.words.Reworded.{HasPlaces}
use Rattle.law_words_kept.specs.Below.law_words_paths.words.Unmoved.{with_taking, taking_of, takings}
use Rattle.law_words_kept.proofs.Below.law_words_paths.words.Put.{Split}
use Rattle.law_words_kept.proofs.Below.law_words_paths.words.Slots.{cells_joined, thread_replaced, among_replaced, thread_cells, lying_in}
use Rattle.law_words_kept.proofs.Below.law_words_paths.words.Standing.{of_thing, pointers_among, standing_among}

-- POINTERS OF LISTS

pub pointers_split : (p : Pointer) (a b : List Thing) → Among p (pointers_in (a ++ b)) → Among p (pointers_in a) ⊎ Among p (pointers_in b)
pointers_split p a b h =
    let q = of_thing p (a ++ b) h in
    ⊎_elim (λ (l : Among q.thing a). inl (pointers_among p q.thing a l q.pointer)) (λ (r : Among q.thing b). inr (pointers_among p q.thing b r q.pointer)) (among_split q.thing a b q.among)

pub pointers_first : (p : Pointer) (a b : List Thing) → Among p (pointers_in a) → Among p (pointers_in (a ++ b))
pointers_first p a b h = let q = of_thing p a h in pointers_among p q.thing (a ++ b) (among_first q.thing a b q.among) q.pointer

pub pointers_second : (p : Pointer) (a b : List Thing) → Among p (pointers_in b) → Among p (pointers_in (a ++ b))
pointers_second p a b h = let q = of_thing p b h in pointers_among p q.thing (a ++ b) (among_second q.thing a b q.among) q.pointer

record OfStanding (p : Pointer) (b : List Thing) : Type 0 where
  thing : Thing
  among : Among thing b
  pointer : Among p (standing_of thing)

of_standing : (p : Pointer) (b : List Thing) → Among p (standing_in b) → OfStanding p b
of_standing p [] h = absurd h
of_standing p (x ∷ b) h =
    ⊎_elim (λ (l : Among p (standing_of x)). record { thing = x; among = inl refl; pointer = l }) (λ (r : Among p (standing_in b)). let q = of_standing p b r in record { thing = q.thing; among = inr q.among; pointer = q.pointer })
    (among_split p (standing_of x) (standing_in b) h)

pub standing_split : (p : Pointer) (a b : List Thing) → Among p (standing_in (a ++ b)) → Among p (standing_in a) ⊎ Among p (standing_in b)
standing_split p a b h =
    let q = of_standing p (a ++ b) h in
    ⊎_elim (λ (l : Among q.thing a). inl (standing_among p q.thing a l q.pointer)) (λ (r : Among q.thing b). inr (standing_among p q.thing b r q.pointer)) (among_split q.thing a b q.among)

pub standing_first : (p : Pointer) (a b : List Thing) → Among p (standing_in a) → Among p (standing_in (a ++ b))
standing_first p a b h = let q = of_standing p a h in standing_among p q.thing (a ++ b) (among_first q.thing a b q.among) q.pointer

pub standing_second : (p : Pointer) (a b : List Thing) → Among p (standing_in b) → Among p (standing_in (a ++ b))
standing_second p a b h = let q = of_standing p b h in standing_among p q.thing (a ++ b) (among_second q.thing a b q.among) q.pointer

-- where no object is under way, all pointers stand
as_standing : (p : Pointer) (x : Thing) → cells_in (x ∷ []) ≡ [] → Among p (pointers_of x) → Among p (standing_of x)
as_standing p (flies w c) e h = absurd cc
as_standing p _ e h = h

first_cells : (x : Thing) (b : List Thing) → cells_in (x ∷ b) ≡ [] → (cells_in (x ∷ []) ≡ []) × (cells_in b ≡ [])
first_cells (lies s a c) b e = absurd cc
first_cells (flies w c) b e = absurd cc
first_cells _ b e = (refl, e)

pub to_standing : (p : Pointer) (b : List Thing) → cells_in b ≡ [] → Among p (pointers_in b) → Among p (standing_in b)
to_standing p [] e h = absurd h
to_standing p (x ∷ b) e h =
    let q = first_cells x b e in
    ⊎_elim (λ (l : Among p (pointers_of x)). among_first p (standing_of x) (standing_in b) (as_standing p x q.0 l)) (λ (r : Among p (pointers_in b)). among_second p (standing_of x) (standing_in b) (to_standing p b q.1 r)) (among_split p (pointers_of x) (pointers_in b) h)

-- what a thread has beside itself
abbrev pub tail_of : ℕ → ThreadState → List Thing
tail_of n x = gift_things x.number x.gift ++ things_at (walk_things n) 0 x.walk ++ things_at (slot_things n x.number) 0 x.slots ++ things_at (temp_things n x.number) 0 x.temps

pub takings_skip : (code : List Instr) (l r : List Standing) (x : Standing) → taking_of code x ≡ None → takings code (l ++ (x ∷ r)) ≡ takings code (l ++ r)
takings_skip code [] r x e = ap (λ o. with_taking o (takings code r)) e
takings_skip code (z ∷ l) r x e = ap (with_taking (taking_of code z)) (takings_skip code l r x e)

module _ (a b : Cluster) (n : ℕ) (x y : ThreadState) (named : y.number ≡ x.number) (s : Split (things_of a) (things_of b) (thread_things n false x) (thread_things n false y)) (c : HasPlaces a) (d : HasPlaces b) where
  abbrev sx : Standing
  sx = record { server = n; packed = false; thread = x }

  abbrev sy : Standing
  sy = record { server = n; packed = false; thread = y }

  -- THREADS AND CELLS

  parts : (l m r : List Thing) (z : Standing) → threads_in m ≡ z ∷ [] → threads_in (l ++ m ++ r) ≡ threads_in l ++ (z ∷ threads_in r)
  parts l m r z e = threads_joined (l ++ m) r ∙ ap (λ q. q ++ threads_in r) (threads_joined l m) ∙ ap (λ q. threads_in l ++ q ++ threads_in r) e ∙ append_assoc (threads_in l) (z ∷ []) (threads_in r)

  pub threads_a : threads_in (things_of a) ≡ threads_in s.left ++ (sx ∷ threads_in s.right)
  threads_a = ap threads_in s.before ∙ parts s.left (thread_things n false x) s.right sx (ap (λ q. sx ∷ q) (rest_none n x))

  pub threads_b : threads_in (things_of b) ≡ threads_in s.left ++ (sy ∷ threads_in s.right)
  threads_b = ap threads_in s.after ∙ parts s.left (thread_things n false y) s.right sy (ap (λ q. sy ∷ q) (rest_none n y))

  cells_parts : (l m r : List Thing) → cells_in m ≡ [] → cells_in (l ++ m ++ r) ≡ cells_in l ++ cells_in r
  cells_parts l m r e = cells_joined (l ++ m) r ∙ ap (λ q. q ++ cells_in r) (cells_joined l m ∙ ap (λ q. cells_in l ++ q) e ∙ nil_right (cells_in l))
    where
      nil_right : (k : List Cell) → k ++ [] ≡ k
      nil_right [] = refl
      nil_right (z ∷ k) = ap (λ q. z ∷ q) (nil_right k)

  pub cells_same : cells_in (things_of b) ≡ cells_in (things_of a)
  cells_same = ap cells_in s.after ∙ cells_parts s.left (thread_things n false y) s.right (thread_cells n y) ∙ sym (cells_parts s.left (thread_things n false x) s.right (thread_cells n x)) ∙ sym (ap cells_in s.before)

  pub at_a : thread_at (sight a).ground.threads x.number ≡ Some sx
  at_a = found sx (things_of a) (c.numbers_differ x.number) (subst (λ q. Among sx q) (sym threads_a) (among_replaced (threads_in s.left) (threads_in s.right) sx))

  pub at_b : thread_at (sight b).ground.threads x.number ≡ Some sy
  at_b = ap (thread_at (sight b).ground.threads) (sym named) ∙ found sy (things_of b) (d.numbers_differ y.number) (subst (λ q. Among sy q) (sym threads_b) (among_replaced (threads_in s.left) (threads_in s.right) sy))

  replaced : (m : ℕ) → (thread_at (sight b).ground.threads m ≡ thread_at (sight a).ground.threads m) ⊎ ((x.number ≡ m) × (thread_at (sight a).ground.threads m ≡ Some sx) × (thread_at (sight b).ground.threads m ≡ Some sy))
  replaced m =
      ⊎_elim
      (λ (e : thread_at (threads_in s.left ++ (sy ∷ threads_in s.right)) m ≡ thread_at (threads_in s.left ++ (sx ∷ threads_in s.right)) m). inl (ap (λ q. thread_at q m) threads_b ∙ e ∙ sym (ap (λ q. thread_at q m) threads_a)))
      (λ (e : (x.number ≡ m) × (thread_at (threads_in s.left ++ (sx ∷ threads_in s.right)) m ≡ Some sx) × (thread_at (threads_in s.left ++ (sy ∷ threads_in s.right)) m ≡ Some sy)). inr (e.0, ap (λ q. thread_at q m) threads_a ∙ e.1, ap (λ q. thread_at q m) threads_b ∙ e.2))
      (thread_replaced (threads_in s.left) (threads_in s.right) sx sy m named)

  -- what stands in slots, as temporary values and in cells
  pub in_slots : (m i : ℕ) → (value_in (sight b).ground (at_slot m i) ≡ value_in (sight a).ground (at_slot m i)) ⊎ ((x.number ≡ m) × (value_in (sight a).ground (at_slot m i) ≡ slice_get x.slots i) × (value_in (sight b).ground (at_slot m i) ≡ slice_get y.slots i))
  in_slots m i =
      ⊎_elim (λ (e : thread_at (sight b).ground.threads m ≡ thread_at (sight a).ground.threads m). inl (ap (λ o. slot_of o i) e))
      (λ (e : (x.number ≡ m) × (thread_at (sight a).ground.threads m ≡ Some sx) × (thread_at (sight b).ground.threads m ≡ Some sy)). inr (e.0, ap (λ o. slot_of o i) e.1, ap (λ o. slot_of o i) e.2)) (replaced m)

  pub in_temps : (m i : ℕ) → (value_in (sight b).ground (at_temp m i) ≡ value_in (sight a).ground (at_temp m i)) ⊎ ((x.number ≡ m) × (value_in (sight a).ground (at_temp m i) ≡ slice_get x.temps i) × (value_in (sight b).ground (at_temp m i) ≡ slice_get y.temps i))
  in_temps m i =
      ⊎_elim (λ (e : thread_at (sight b).ground.threads m ≡ thread_at (sight a).ground.threads m). inl (ap (λ o. temp_of o i) e))
      (λ (e : (x.number ≡ m) × (thread_at (sight a).ground.threads m ≡ Some sx) × (thread_at (sight b).ground.threads m ≡ Some sy)). inr (e.0, ap (λ o. temp_of o i) e.1, ap (λ o. temp_of o i) e.2)) (replaced m)

  pub in_cells : (o : ObjNo) → value_in (sight b).ground (in_cell o) ≡ value_in (sight a).ground (in_cell o)
  in_cells o = ap (λ k. value_of (cell_of k o)) cells_same

  -- what threads have taken, where this one hasn't
  pub takings_same : (code : List Instr) → taking_of code sx ≡ None → taking_of code sy ≡ None → takings code (sight b).ground.threads ≡ takings code (sight a).ground.threads
  takings_same code e f =
      ap (takings code) threads_b ∙ takings_skip code (threads_in s.left) (threads_in s.right) sy f ∙ sym (takings_skip code (threads_in s.left) (threads_in s.right) sx e) ∙ sym (ap (takings code) threads_a)

  -- objects lie where they lay
  pub lies_back : (r g : ℕ) (z : Cell) → Among (lies r g z) (things_of b) → Among (lies r g z) (things_of a)
  lies_back r g z h =
      subst (λ q. Among (lies r g z) q) (sym s.before)
      (⊎_elim
      (λ (q : Among (lies r g z) (s.left ++ thread_things n false y)).
      among_first (lies r g z) (s.left ++ thread_things n false x) s.right
      (⊎_elim (λ (w : Among (lies r g z) s.left). among_first (lies r g z) s.left (thread_things n false x) w)
      (λ (w : Among (lies r g z) (thread_things n false y)). let v : Among z [] = subst (λ k. Among z k) (thread_cells n y) (lying_in r g z (thread_things n false y) w) in absurd v) (among_split (lies r g z) s.left (thread_things n false y) q)))
      (λ (q : Among (lies r g z) s.right). among_second (lies r g z) (s.left ++ thread_things n false x) s.right q)
      (among_split (lies r g z) (s.left ++ thread_things n false y) s.right (subst (λ q. Among (lies r g z) q) s.after h)))

  -- a pointer of one is of the rest, or of the thread
  pub pointer_back : (p : Pointer) → Among p (pointers_in (things_of b)) → Among p (pointers_in (things_of a)) ⊎ Among p (standing_in (tail_of n y))
  pointer_back p h =
      ⊎_elim
      (λ (q : Among p (pointers_in (s.left ++ thread_things n false y))).
      ⊎_elim (λ (w : Among p (pointers_in s.left)). inl (there (pointers_first p (s.left ++ thread_things n false x) s.right (pointers_first p s.left (thread_things n false x) w))))
      (λ (w : Among p (pointers_in (thread_things n false y))). inr (to_standing p (tail_of n y) (thread_cells n y) w)) (pointers_split p s.left (thread_things n false y) q))
      (λ (q : Among p (pointers_in s.right)). inl (there (pointers_second p (s.left ++ thread_things n false x) s.right q)))
      (pointers_split p (s.left ++ thread_things n false y) s.right (subst (λ q. Among p (pointers_in q)) s.after h))
    where
      there : Among p (pointers_in (s.left ++ thread_things n false x ++ s.right)) → Among p (pointers_in (things_of a))
      there w = subst (λ q. Among p (pointers_in q)) (sym s.before) w

  pub standing_back : (p : Pointer) → Among p (standing_in (things_of b)) → Among p (standing_in (things_of a)) ⊎ Among p (standing_in (tail_of n y))
  standing_back p h =
      ⊎_elim
      (λ (q : Among p (standing_in (s.left ++ thread_things n false y))).
      ⊎_elim (λ (w : Among p (standing_in s.left)). inl (there (standing_first p (s.left ++ thread_things n false x) s.right (standing_first p s.left (thread_things n false x) w))))
      (λ (w : Among p (standing_in (thread_things n false y))). inr w) (standing_split p s.left (thread_things n false y) q))
      (λ (q : Among p (standing_in s.right)). inl (there (standing_second p (s.left ++ thread_things n false x) s.right q)))
      (standing_split p (s.left ++ thread_things n false y) s.right (subst (λ q. Among p (standing_in q)) s.after h))
    where
      there : Among p (standing_in (s.left ++ thread_things n false x ++ s.right)) → Among p (standing_in (things_of a))
      there w = subst (λ q. Among p (standing_in q)) (sym s.before) w

  -- and of the thread is of the cluster
  pub of_thread : (p : Pointer) → Among p (standing_in (tail_of n x)) → Among p (standing_in (things_of a))
  of_thread p h = subst (λ q. Among p (standing_in q)) (sym s.before) (standing_first p (s.left ++ thread_things n false x) s.right (standing_second p s.left (thread_things n false x) h))

-- THE SUMS

module _ (a b : Cluster) (n : ℕ) (x y : ThreadState) (named : y.number ≡ x.number) (s : Split (things_of a) (things_of b) (thread_things n false x) (thread_things n false y)) (owns : (o : ObjNo) → tot (owners o) (tail_of n y) ≡ tot (owners o) (tail_of n x)) where
  same_sum : (f : Thing → ℕ) → tot f (thread_things n false y) ≡ tot f (thread_things n false x) → tot f (things_of b) ≡ tot f (things_of a)
  same_sum f e =
      let p : tot f (things_of a) ≡ tot f s.left + tot f (thread_things n false x) + tot f s.right = ap (tot f) s.before ∙ tot-append f (s.left ++ thread_things n false x) s.right ∙ ap (λ q. q + tot f s.right) (tot-append f s.left (thread_things n false x)) in
      let q : tot f (things_of b) ≡ tot f s.left + tot f (thread_things n false y) + tot f s.right = ap (tot f) s.after ∙ tot-append f (s.left ++ thread_things n false y) s.right ∙ ap (λ q. q + tot f s.right) (tot-append f s.left (thread_things n false y)) in
      omega (arith, p, q, e)

  no_cells : (o : ObjNo) (l : List Thing) → cells_in l ≡ [] → tot (cells o) l ≡ 0
  no_cells o [] e = refl
  no_cells o (lies r g z ∷ l) e = absurd cc
  no_cells o (flies w z ∷ l) e = absurd cc
  no_cells o (_ ∷ l) e = let w = no_cells o l e in omega (arith, w)

  no_threads : (t : ℕ) (l : List Thing) → threads_in l ≡ [] → tot (is_thread t) l ≡ 0
  no_threads t [] e = refl
  no_threads t (stands r g z ∷ l) e = absurd cc
  no_threads t (_ ∷ l) e = let w = no_threads t l e in omega (arith, w)

  pub places_on : HasPlaces a → HasPlaces b
  places_on c = record {
    numbers_differ = λ t.
        (let p = no_threads t (tail_of n x) (rest_none n x) in
        let q = no_threads t (tail_of n y) (rest_none n y) in
        let e : is_thread t (stands n false y) ≡ is_thread t (stands n false x) = ap (λ m. one (m == t)) named in
        let w = same_sum (is_thread t) (omega (arith, p, q, e)) in
        omega (arith, w, c.numbers_differ t));
    home_of_each = λ o. (let w = same_sum (cells o) (no_cells o (thread_things n false y) (thread_cells n y) ∙ sym (no_cells o (thread_things n false x) (thread_cells n x))) in omega (arith, w, c.home_of_each o));
    owner_of_each = λ o.
        (let v = same_sum (cells o) (no_cells o (thread_things n false y) (thread_cells n y) ∙ sym (no_cells o (thread_things n false x) (thread_cells n x))) in
        let w = same_sum (owners o) (let e = owns o in omega (arith, e)) in
        w ∙ c.owner_of_each o ∙ sym v);
  }
