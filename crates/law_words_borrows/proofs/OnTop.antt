-- A mutable reference on top of the thread in hand: one more, and nothing else that words see.
use Rattle.std.proofs.Common.{◌≡◌, ◌⊎◌, ⊎_elim, inl, inr, ℕ, ◌+◌, true, false, List, [], ◌∷◌, ◌++◌, Option, Some, None, refl, sym, ap, subst, ◌∙◌}
use Rattle.std.specs.Prelude.{slice_get, length}
use Rattle.law_heap_steps.specs.Below.fr_base.declared.instruction.Instr.{Instr}
use Rattle.law_heap_steps.specs.Below.mut_borrow.declared.mutable.MutRef.{MutRef}
use Rattle.law_heap_steps.specs.Below.thread_state.View.{ThreadState}
use Rattle.law_heap_steps.specs.Below.thread_state.declared.value.Value.{Value}
use Rattle.law_heap_steps.specs.Below.thread_state.declared.value.Value.TheVariants as value
use Rattle.law_heap_steps.specs.Below.server_model.Servers.{Server, Cluster, server_at}
use Rattle.law_heap_steps.specs.Below.server_model.Work.{Hand, push_temp, thread_in}
use Rattle.law_heap_steps.specs.Below.server_model.Commit.{go_on}
use Rattle.law_heap_steps.specs.Below.coherent_memory.Names.{Among}
use Rattle.law_heap_steps.specs.Below.coherent_memory.Things.{Location, at_slot, at_temp, in_cell, borrows, gift_things, walk_things, slot_things, temp_things, things_at, thread_things, things_of}
use Rattle.law_heap_steps.specs.Below.coherent_memory.Follow.{Standing, threads_in, temp_of, value_in, locate}
use Rattle.law_heap_steps.specs.Below.coherent_memory.Sight.{Pointer, pointers_in, sight}
use Rattle.law_heap_steps.specs.Below.coherent_memory.Placing.{is_first, standing_in}
use Rattle.law_words_values.specs.Below.coherent_types.ClusterTypes.{IsCoherent}
use Rattle.law_words_kept.specs.Below.law_words_paths.words.Reworded.{HasPlaces}
use Rattle.law_words_kept.specs.Below.law_words_paths.words.Unmoved.{pointing, owning, seen_at, Taking, with_taking, taking_of, takings}
use Rattle.law_words_kept.proofs.Below.law_words_paths.words.Put.{Split, put_split}
use Rattle.law_words_kept.proofs.Below.law_words_paths.words.Standing.{pointer_at, stands_in}
use Rattle.law_words_values.proofs.Below.law_words_kept.stays.Alike.{Alike, itself, chain, beside, joined, standing_turn}
use Rattle.law_words_values.proofs.Below.law_words_kept.stays.Steps.{TakesNoneHere}
use Rattle.law_words_values.proofs.Below.law_words_kept.prepared.Hands.{Ok, put, places, stands}
use Rattle.law_words_values.proofs.Below.law_words_paths.paths.Contained.{among_thread}
use Rattle.law_words_values.proofs.carried.Far.{taking_listed}
use Rattle.law_words_values.proofs.carried.Places.{end_is, end_none, end_other, end_things}
use Rattle.law_words_values.proofs.carried.Replaced.{standing_split, standing_first, tail_of, takings_skip, threads_a, threads_b, at_a, at_b, in_slots, in_temps, in_cells, takings_same, lies_back, pointer_back, standing_back, of_thread}
use Rattle.law_words_borrows.proofs.LentOne.{MadeHere, MadeOfTaken, LentOne}

-- TAKINGS OF LISTS

-- what was taken is what that thread has or another one
takings_in : (code : List Instr) (l r : List Standing) (x : Standing) (v : Taking) → taking_of code x ≡ Some v → (y : Taking) → Among y (takings code (l ++ (x ∷ r))) → (v ≡ y) ⊎ Among y (takings code (l ++ r))
takings_in code [] r x v is y h = by (subst (λ o. Among y (with_taking o (takings code r))) is h)
  where
    by : Among y (v ∷ takings code r) → (v ≡ y) ⊎ Among y (takings code r)
    by (inl e) = inl e
    by (inr i) = inr i
takings_in code (u ∷ l) r x v is y h = by (taking_of code u) h (takings_in code l r x v is y)
  where
    by : (o : Option Taking) → Among y (with_taking o (takings code (l ++ (x ∷ r)))) → (Among y (takings code (l ++ (x ∷ r))) → (v ≡ y) ⊎ Among y (takings code (l ++ r))) → (v ≡ y) ⊎ Among y (with_taking o (takings code (l ++ r)))
    by None i go = go i
    by (Some q) (inl e) go = inr (inl e)
    by (Some q) (inr i) go = ⊎_elim (λ (e : v ≡ y). inl e) (λ (e : Among y (takings code (l ++ r))). inr (inr e)) (go i)

-- what others have is taken with it too
takings_more : (code : List Instr) (l r : List Standing) (x : Standing) (y : Taking) → Among y (takings code (l ++ r)) → Among y (takings code (l ++ (x ∷ r)))
takings_more code [] r x y h = by (taking_of code x)
  where
    by : (o : Option Taking) → Among y (with_taking o (takings code r))
    by None = h
    by (Some q) = inr h
takings_more code (u ∷ l) r x y h = by (taking_of code u) h (takings_more code l r x y)
  where
    by : (o : Option Taking) → Among y (with_taking o (takings code (l ++ r))) → (Among y (takings code (l ++ r)) → Among y (takings code (l ++ (x ∷ r)))) → Among y (with_taking o (takings code (l ++ (x ∷ r))))
    by None i go = go i
    by (Some q) (inl e) go = inl e
    by (Some q) (inr i) go = inr (go i)

-- it stands at its location
nowhere : (l : Location) (r : MutRef) (p : Pointer) → Among p (standing_in (borrows l r ∷ [])) → p.at ≡ None → ⊥
nowhere l r p (inl g) e = let z : Some l ≡ None = ap (λ (x : Pointer). x.at) g ∙ e in absurd cc
nowhere l r p (inr g) e = absurd g

module _ (k : Cluster) (coherent : IsCoherent k) (s : Server) (here : server_at k.servers s.rest.number ≡ Some s) (t : ℕ) (y : ThreadState) (at : thread_in s.threads t ≡ Some y) (h : Hand) (r : MutRef)
    (q : Ok k coherent s here t y at h) (after : Ok k coherent s here t y at (go_on (push_temp (value.Mut r) h))) where
  abbrev n : ℕ
  n = s.rest.number

  abbrev top : Hand
  top = go_on (push_temp (value.Mut r) h)

  abbrev a : Cluster
  a = put k coherent s here t y at h

  abbrev b : Cluster
  b = put k coherent s here t y at top

  abbrev x : ThreadState
  x = h.thread

  abbrev z : ThreadState
  z = top.thread

  -- the first cluster has places
  c : HasPlaces a
  c = places k coherent s here t y at h q

  -- and so has the second one
  d : HasPlaces b
  d = places k coherent s here t y at top after

  -- the two differ in that thread alone
  split : Split (things_of a) (things_of b) (thread_things n false x) (thread_things n false z)
  split = put_split k n s.threads (s.events + 1) h top (stands k coherent s here t y at h q) refl refl

  -- the other way round
  back : Split (things_of b) (things_of a) (thread_things n false z) (thread_things n false x)
  back = record { left = split.left; right = split.right; before = split.after; after = split.before }

  abbrev j : ℕ
  j = length x.temps

  -- WHAT STANDS WHERE

  -- at each other location words see the same
  elsewhere : (l : Location) → (l ≡ at_temp x.number j → ⊥) → seen_at l (value_in (sight b).ground l) ≡ seen_at l (value_in (sight a).ground l)
  elsewhere (at_slot m i) other =
      ⊎_elim (λ (e : value_in (sight b).ground (at_slot m i) ≡ value_in (sight a).ground (at_slot m i)). ap pointing e)
      (λ (e : (x.number ≡ m) × (value_in (sight a).ground (at_slot m i) ≡ slice_get x.slots i) × (value_in (sight b).ground (at_slot m i) ≡ slice_get z.slots i)). ap pointing (e.2 ∙ sym e.1)) (in_slots a b n x z refl split c d m i)
  elsewhere (at_temp m i) other =
      ⊎_elim (λ (e : value_in (sight b).ground (at_temp m i) ≡ value_in (sight a).ground (at_temp m i)). ap owning e)
      (λ (e : (x.number ≡ m) × (value_in (sight a).ground (at_temp m i) ≡ slice_get x.temps i) × (value_in (sight b).ground (at_temp m i) ≡ slice_get z.temps i)).
      ap owning (e.2 ∙ end_other x.temps (value.Mut r) i (λ w. other (ap (λ u. at_temp u i) (sym e.0) ∙ ap (at_temp x.number) w)) ∙ sym e.1)) (in_temps a b n x z refl split c d m i)
  elsewhere (in_cell o) other = ap pointing (in_cells a b n x z refl split c d o)

  -- there the reference stands
  now : value_in (sight b).ground (at_temp x.number j) ≡ Some (value.Mut r)
  now = ap (λ o. temp_of o j) (at_b a b n x z refl split c d) ∙ end_is x.temps (value.Mut r)

  -- and nothing stood there
  empty : (v : Value) → value_in (sight a).ground (at_temp x.number j) ≡ Some v → ⊥
  empty v e = let w : None ≡ Some v = sym (ap (λ o. temp_of o j) (at_a a b n x z refl split c d) ∙ end_none x.temps) ∙ e in absurd cc

  -- what threads have taken, where this one hasn't
  pub same_takings : TakesNoneHere k.code h.thread → takings k.code (sight b).ground.threads ≡ takings k.code (sight a).ground.threads
  same_takings none = takings_same a b n x z refl split c d k.code none refl

  -- and where it has
  abbrev sx : Standing
  sx = record { server = n; packed = false; thread = x }

  abbrev sz : Standing
  sz = record { server = n; packed = false; thread = z }

  -- of what threads have taken nothing is this one's afterwards
  takings_b : takings k.code (sight b).ground.threads ≡ takings k.code (threads_in split.left ++ threads_in split.right)
  takings_b = ap (takings k.code) (threads_b a b n x z refl split c d) ∙ takings_skip k.code (threads_in split.left) (threads_in split.right) sz refl

  -- what is taken was
  pub takings_were : (y : Taking) → Among y (takings k.code (sight b).ground.threads) → Among y (takings k.code (sight a).ground.threads)
  takings_were y i =
      subst (λ ts. Among y (takings k.code ts)) (sym (threads_a a b n x z refl split c d))
      (takings_more k.code (threads_in split.left) (threads_in split.right) sx y (subst (λ ts. Among y ts) takings_b i))

  -- what was taken is, but for what this thread had taken
  pub takings_but : (v : Taking) → taking_of k.code sx ≡ Some v → (y : Taking) → Among y (takings k.code (sight a).ground.threads) → (v ≡ y) ⊎ Among y (takings k.code (sight b).ground.threads)
  takings_but v is y i =
      ⊎_elim (λ (e : v ≡ y). inl e) (λ (e : Among y (takings k.code (threads_in split.left ++ threads_in split.right))). inr (subst (λ ts. Among y ts) (sym takings_b) e))
      (takings_in k.code (threads_in split.left) (threads_in split.right) sx v is y (subst (λ ts. Among y (takings k.code ts)) (threads_a a b n x z refl split c d) i))

  -- which it had
  pub taking_there : (v : Taking) → taking_of k.code sx ≡ Some v → Among v (takings k.code (sight a).ground.threads)
  taking_there v is = taking_listed k.code sx v (sight a).ground.threads (among_thread (sight a).ground.threads x.number sx (at_a a b n x z refl split c d)).0 is

  -- POINTERS AT NO LOCATION

  -- the temporary values have the reference more
  things : (i : ℕ) × Alike k.code (things_at (temp_things n x.number) 0 (x.temps ++ value.Mut r ∷ [])) (things_at (temp_things n x.number) 0 x.temps ++ temp_things n x.number i (value.Mut r))
  things = end_things (temp_things n x.number) 0 x.temps (value.Mut r)

  -- and so have all things of the thread
  tails : Alike k.code (tail_of n z) (tail_of n x ++ borrows (at_temp x.number things.0) r ∷ [])
  tails =
      let head = gift_things x.number x.gift ++ things_at (walk_things n) 0 x.walk ++ things_at (slot_things n x.number) 0 x.slots in
      chain (beside (itself head) things.1) (joined head (things_at (temp_things n x.number) 0 x.temps) (borrows (at_temp x.number things.0) r ∷ []))

  -- pointers at no location are those that were there
  of_tail : (p : Pointer) → p.at ≡ None → Among p (standing_in (tail_of n z)) → Among p (standing_in (tail_of n x))
  of_tail p e w =
      ⊎_elim (λ (l : Among p (standing_in (tail_of n x))). l) (λ (g : Among p (standing_in (borrows (at_temp x.number things.0) r ∷ []))). absurd (nowhere (at_temp x.number things.0) r p g e))
      (standing_split p (tail_of n x) (borrows (at_temp x.number things.0) r ∷ []) (standing_turn k.code (tail_of n z) (tail_of n x ++ borrows (at_temp x.number things.0) r ∷ []) p tails.on e w))

  -- and the other way round
  to_tail : (p : Pointer) → p.at ≡ None → Among p (standing_in (tail_of n x)) → Among p (standing_in (tail_of n z))
  to_tail p e w =
      standing_turn k.code (tail_of n x ++ borrows (at_temp x.number things.0) r ∷ []) (tail_of n z) p tails.back e (standing_first p (tail_of n x) (borrows (at_temp x.number things.0) r ∷ []) w)

  -- the same among all things
  loose : (p : Pointer) → p.at ≡ None → Among p (pointers_in (things_of b)) → Among p (pointers_in (things_of a))
  loose p e i =
      ⊎_elim (λ (w : Among p (pointers_in (things_of a))). w) (λ (w : Among p (standing_in (tail_of n z))). stands_in p (things_of a) (of_thread a b n x z refl split c d p (of_tail p e w))) (pointer_back a b n x z refl split c d p i)

  -- and the other way round
  remain : (p : Pointer) → p.at ≡ None → Among p (pointers_in (things_of a)) → Among p (pointers_in (things_of b))
  remain p e i =
      ⊎_elim (λ (w : Among p (pointers_in (things_of b))). w) (λ (w : Among p (standing_in (tail_of n x))). stands_in p (things_of b) (of_thread b a n z x refl back d c p (to_tail p e w))) (pointer_back b a n z x refl back d c p i)

  -- the same of those that count beside dirty references
  standing : (p : Pointer) → p.at ≡ None → Among p (standing_in (things_of b)) → Among p (standing_in (things_of a))
  standing p e i = ⊎_elim (λ (w : Among p (standing_in (things_of a))). w) (λ (w : Among p (standing_in (tail_of n z))). of_thread a b n x z refl split c d p (of_tail p e w)) (standing_back a b n x z refl split c d p i)

  -- made from the pointer at that location
  pub lent_on_top : (l : Location) (v : Value) → locate (sight a).ground x.number r.holder.slot r.holder.depth ≡ Some l → value_in (sight a).ground l ≡ Some v → Among (record { at = Some l; word = r.first; object = r.object }) (pointer_at l v) → is_first r (Some v) ≡ true
      → ((m : Taking) → Among m (takings k.code (sight b).ground.threads) → Among m (takings k.code (sight a).ground.threads)) → MadeHere a b l r v ⊎ MadeOfTaken a b l r → LentOne a b x.number j l r
  lent_on_top l v held there pointer first takes made = record {
    stands = elsewhere;
    now = now;
    empty = empty;
    held = held;
    takes = takes;
    loose = loose;
    remain = remain;
    standing = standing;
    lay = λ u v e i. record { cell = e; among = lies_back a b n x z refl split c d u v e i; object = refl };
    from = v;
    there = there;
    pointer = pointer;
    first = first;
    made = made;
  }
