-- A value of one thread goes from one place to another: as a slot, as a temporary value, or as the thread's gift, where no place leads.
use Rattle.std.proofs.Common.{◌≡◌, ◌⊎◌, inl, inr, ⊎_elim, ℕ, zero, suc, Bool, true, false, List, [], ◌++◌, Option, Some, None, refl, sym, ap, subst, ◌∙◌}
use Rattle.std.specs.Prelude.{slice_get}
use Rattle.law_words_kept.specs.Below.fr_base.declared.instruction.Instr.{Instr}
use Rattle.law_words_kept.specs.Below.fr_base.declared.name.ObjNo.{ObjNo}
use Rattle.law_words_kept.specs.Below.fr_base.declared.place.Lval.{Lval}
use Rattle.law_words_kept.specs.Below.heap_partition.declared.value.Owned.{Owned}
use Rattle.law_words_kept.specs.Below.heap_partition.declared.value.Owned.TheVariants as owned
use Rattle.law_words_kept.specs.Below.mut_borrow.declared.mutable.MutRef.{MutRef}
use Rattle.law_words_kept.specs.Below.thread_state.View.{ThreadState}
use Rattle.law_words_kept.specs.Below.thread_state.declared.value.Value.{Value}
use Rattle.law_words_kept.specs.Below.thread_state.declared.value.Value.TheVariants as value
use Rattle.law_words_kept.specs.Below.server_model.Servers.{Cluster}
use Rattle.law_words_kept.specs.Below.coherent_memory.Names.{Among, tot, other}
use Rattle.law_words_kept.specs.Below.coherent_memory.Things.{Location, at_slot, at_temp, in_cell, thread_things, things_of}
use Rattle.law_words_kept.specs.Below.coherent_memory.Weights.{owners}
use Rattle.law_words_kept.specs.Below.coherent_memory.Follow.{Ground, slot_of, temp_of, value_in, value_behind, leads, locate, place_at}
use Rattle.law_words_kept.specs.Below.coherent_memory.Stale.{Reference, references, holder_of, one_star_less}
use Rattle.law_words_kept.specs.Below.coherent_memory.Sight.{Pointer, pointer_in, pointers_in, sight}
use Rattle.law_words_kept.specs.Below.coherent_memory.Placing.{is_first, other_first, standing_in}
use Rattle.law_words_kept.specs.Below.coherent_memory.Coherent.{Holds, first_at_holder}
use Rattle.law_words_kept.proofs.Below.coherent_memory.Bags.{among_split}
use Rattle.law_words_kept.proofs.Below.coherent_memory.Words.{none_at}
use Rattle.law_words_kept.proofs.Below.law_words_paths.paths.Origins.{among_first}
use Rattle.law_words_kept.proofs.Below.law_words_paths.paths.Sole.{some_is}
use Rattle.law_words_kept.proofs.Below.law_words_paths.paths.Contained.{reference_there}
use Rattle.law_words_kept.specs.Below.law_words_paths.words.Reworded.{HasPlaces}
use Rattle.law_words_kept.specs.Below.law_words_paths.words.Unmoved.{pointing, owning, seen_at, Taking, taking_by, takings}
use Rattle.law_words_kept.proofs.Below.law_words_paths.words.Put.{Split}
use Rattle.law_words_kept.proofs.Below.law_words_paths.words.Standing.{pointer_at, tells, told_standing, stands_in}
use Rattle.law_words_kept.proofs.Below.law_words_paths.words.Takings.{leads_pointing, first_pointing}
use Rattle.law_words_kept.proofs.stays.Alike.{Alike, standing_turn}
use Rattle.law_words_kept.proofs.stays.Servers.{held}
use Rattle.law_words_values.specs.carried.Carried.{Carried}
use Rattle.law_words_values.proofs.carried.Replaced.{tail_of, standing_split, standing_first, standing_second, at_a, at_b, in_slots, in_temps, in_cells, takings_same, lies_back, pointer_back, standing_back, of_thread}

-- PLACES OF ONE THREAD

pub data Here : Type 0 where
  slot : ℕ → Here
  temp : ℕ → Here
  nowhere : Here

abbrev pub located : ℕ → Here → Option Location
located t (slot i) = Some (at_slot t i)
located t (temp i) = Some (at_temp t i)
located t nowhere = None

abbrev pub here : ThreadState → Here → Option Value
here x (slot i) = slice_get x.slots i
here x (temp i) = slice_get x.temps i
here x nowhere = None

-- what words see beside locations: the same, or the value goes to where no place is, or comes from there
pub data Beside (code : List Instr) (n : ℕ) (x y : ThreadState) : Here → Here → Type 0 where
  between : {from to : Here} → (from ≡ nowhere → ⊥) → (to ≡ nowhere → ⊥) → owning (here y to) ≡ owning (here x from) → Alike code (tail_of n x) (tail_of n y) → Beside code n x y from to
  leaves : {from : Here} (u : Owned) → here x from ≡ Some (value.Own u) → Alike code (held u ++ tail_of n x) (tail_of n y) → Beside code n x y from nowhere
  comes : {to : Here} (u : Owned) → here y to ≡ Some (value.Own u) → Alike code (tail_of n x) (held u ++ tail_of n y) → Beside code n x y nowhere to

-- a value of the first thread goes there in the second one
pub record Passes (code : List Instr) (n : ℕ) (x y : ThreadState) (from to : Here) : Type 0 where
  pub number : y.number ≡ x.number
  pub untaken : taking_by x.number x.phase (slice_get code x.pc) ≡ None
  pub untaken_after : taking_by y.number y.phase (slice_get code y.pc) ≡ None
  pub slots : (i : ℕ) → (slot i ≡ from → ⊥) → (slot i ≡ to → ⊥) → pointing (slice_get y.slots i) ≡ pointing (slice_get x.slots i)
  pub temps : (i : ℕ) → (temp i ≡ from → ⊥) → (temp i ≡ to → ⊥) → owning (slice_get y.temps i) ≡ owning (slice_get x.temps i)
  pub left : owning (here y from) ≡ None
  pub free : owning (here x to) ≡ None
  pub beside : Beside code n x y from to
  pub owns : (o : ObjNo) → tot (owners o) (tail_of n y) ≡ tot (owners o) (tail_of n x)

-- A LOOSE POINTER

pub move_in : (m n : Option Location) (u : Owned) (p : Pointer) → Among p (pointer_in m u) → Among (record p { at = n }) (pointer_in n u)
move_in m n (owned.Box b) p (inl e) = inl (ap (λ (q : Pointer). record q { at = n }) e)
move_in m n (owned.Box b) p (inr h) = absurd h
move_in m n owned.Nothing p h = absurd h
move_in m n owned.Unit p h = absurd h
move_in m n (owned.Int i) p h = absurd h
move_in m n (owned.Mutex i) p h = absurd h
move_in m n (owned.Task i) p h = absurd h

held_pointer : (u : Owned) (p : Pointer) → Among p (standing_in (held u)) → Among p (pointer_in None u)
held_pointer u p h = ⊎_elim (λ (l : Among p (pointer_in None u)). l) (λ (r : Among p []). absurd r) (among_split p (pointer_in None u) [] h)

pointer_held : (u : Owned) (p : Pointer) → Among p (pointer_in None u) → Among p (standing_in (held u))
pointer_held u p h = among_first p (pointer_in None u) [] h

no_owned_reference : (u : Owned) (r : MutRef) → Some (value.Own u) ≡ Some (value.Mut r) → ⊥
no_owned_reference u r e = absurd cc

-- no place leads to a temporary value
leads_no_temp : (t u i : ℕ) (v : Option Value) → leads t v ≡ Some (at_temp u i) → ⊥
leads_no_temp t u i None e = absurd cc
leads_no_temp t u i (Some value.Gone) e = absurd cc
leads_no_temp t u i (Some (value.Own (owned.Box q))) e = absurd cc
leads_no_temp t u i (Some (value.Own owned.Nothing)) e = absurd cc
leads_no_temp t u i (Some (value.Own owned.Unit)) e = absurd cc
leads_no_temp t u i (Some (value.Own (owned.Int m))) e = absurd cc
leads_no_temp t u i (Some (value.Own (owned.Mutex m))) e = absurd cc
leads_no_temp t u i (Some (value.Own (owned.Task m))) e = absurd cc
leads_no_temp t u i (Some (value.SharedSlot m)) e = absurd cc
leads_no_temp t u i (Some (value.MutSlot m)) e = absurd cc
leads_no_temp t u i (Some (value.Shared m)) e = absurd cc
leads_no_temp t u i (Some (value.Mut m)) e = absurd cc
leads_no_temp t u i (Some (value.Held m)) e = absurd cc

pub no_temp : (h : Ground) (t k m u i : ℕ) → locate h t k m ≡ Some (at_temp u i) → ⊥
no_temp h t k zero u i e = absurd cc
no_temp h t k (suc m) u i e = leads_no_temp t u i (value_behind h (locate h t k m)) e

-- where holders are, and what threads have taken from: as it was, and not where the value was or comes to
pub record Quiet (a b : Cluster) (f g : Option Location) : Type 0 where
  pub holders : (l m : Location) (r : MutRef) → value_in (sight a).ground l ≡ Some (value.Mut r) → holder_of (sight a).ground l r.holder ≡ Some m → holder_of (sight b).ground l r.holder ≡ Some m
  pub unmade : (l m : Location) (r : MutRef) → value_in (sight a).ground l ≡ Some (value.Mut r) → holder_of (sight a).ground l r.holder ≡ Some m → (Some m ≡ f → ⊥) × (Some m ≡ g → ⊥)
  pub taken : (t : Taking) → Among t (takings a.code (sight a).ground.threads) → (place_at (sight b).ground t.thread t.place ≡ place_at (sight a).ground t.thread t.place)
      × (one_star_less (sight b).ground t.thread t.place.slot t.place.depth ≡ one_star_less (sight a).ground t.thread t.place.slot t.place.depth)
  pub untaken : (t : Taking) (m : Location) → Among t (takings a.code (sight a).ground.threads) → one_star_less (sight a).ground t.thread t.place.slot t.place.depth ≡ Some m → (Some m ≡ f → ⊥) × (Some m ≡ g → ⊥)

module _ (a b : Cluster) (n : ℕ) (x y : ThreadState) (from to : Here) (p : Passes a.code n x y from to) (s : Split (things_of a) (things_of b) (thread_things n false x) (thread_things n false y)) (code : b.code ≡ a.code) (c : HasPlaces a) (d : HasPlaces b) where
  abbrev ga : Ground
  ga = (sight a).ground

  abbrev gb : Ground
  gb = (sight b).ground

  abbrev f : Option Location
  f = located x.number from

  abbrev g : Option Location
  g = located x.number to

  -- WHAT STANDS WHERE

  pub here_a : (h : Here) (l : Location) → located x.number h ≡ Some l → value_in ga l ≡ here x h
  here_a (slot i) l e = ap (value_in ga) (some_is (sym e)) ∙ ap (λ o. slot_of o i) (at_a a b n x y p.number s c d)
  here_a (temp i) l e = ap (value_in ga) (some_is (sym e)) ∙ ap (λ o. temp_of o i) (at_a a b n x y p.number s c d)
  here_a nowhere l e = absurd cc

  here_b : (h : Here) (l : Location) → located x.number h ≡ Some l → value_in gb l ≡ here y h
  here_b (slot i) l e = ap (value_in gb) (some_is (sym e)) ∙ ap (λ o. slot_of o i) (at_b a b n x y p.number s c d)
  here_b (temp i) l e = ap (value_in gb) (some_is (sym e)) ∙ ap (λ o. temp_of o i) (at_b a b n x y p.number s c d)
  here_b nowhere l e = absurd cc

  pub elsewhere : (l : Location) → (Some l ≡ f → ⊥) → (Some l ≡ g → ⊥) → seen_at l (value_in gb l) ≡ seen_at l (value_in ga l)
  elsewhere (at_slot m i) h k =
      ⊎_elim (λ (e : value_in gb (at_slot m i) ≡ value_in ga (at_slot m i)). ap pointing e)
      (λ (e : (x.number ≡ m) × (value_in ga (at_slot m i) ≡ slice_get x.slots i) × (value_in gb (at_slot m i) ≡ slice_get y.slots i)).
      let at : Some (at_slot m i) ≡ located x.number (slot i) = ap (λ q. Some (at_slot q i)) (sym e.0) in
      ap pointing e.2 ∙ p.slots i (λ w. h (at ∙ ap (located x.number) w)) (λ w. k (at ∙ ap (located x.number) w)) ∙ sym (ap pointing e.1)) (in_slots a b n x y p.number s c d m i)
  elsewhere (at_temp m i) h k =
      ⊎_elim (λ (e : value_in gb (at_temp m i) ≡ value_in ga (at_temp m i)). ap owning e)
      (λ (e : (x.number ≡ m) × (value_in ga (at_temp m i) ≡ slice_get x.temps i) × (value_in gb (at_temp m i) ≡ slice_get y.temps i)).
      let at : Some (at_temp m i) ≡ located x.number (temp i) = ap (λ q. Some (at_temp q i)) (sym e.0) in
      ap owning e.2 ∙ p.temps i (λ w. h (at ∙ ap (located x.number) w)) (λ w. k (at ∙ ap (located x.number) w)) ∙ sym (ap owning e.1)) (in_temps a b n x y p.number s c d m i)
  elsewhere (in_cell o) h k = ap pointing (in_cells a b n x y p.number s c d o)

  -- LOOSE POINTERS

  -- whatever goes to nowhere was at its place
  from_held : (u : Owned) (h : Here) → here x h ≡ Some (value.Own u) → (q : Pointer) → Among q (standing_in (held u)) → Among (record q { at = located x.number h }) (standing_in (things_of a))
  from_held u h e q m = at (located x.number h) refl
    where
      at : (o : Option Location) → located x.number h ≡ o → Among (record q { at = located x.number h }) (standing_in (things_of a))
      at None w = absurd (no_value h w e)
        where
          no_value : (j : Here) → located x.number j ≡ None → here x j ≡ Some (value.Own u) → ⊥
          no_value (slot i) r v = absurd cc
          no_value (temp i) r v = absurd cc
          no_value nowhere r v = absurd cc
      at (Some l) w =
          subst (λ (v : Option Location). Among (record q { at = v }) (standing_in (things_of a))) (sym w)
          (told_standing a l (value.Own u) (record q { at = Some l }) (here_a h l w ∙ e) (move_in None (Some l) u q (held_pointer u q m)))

  to_held : (u : Owned) (h : Here) → here y h ≡ Some (value.Own u) → (q : Pointer) → Among q (standing_in (held u)) → Among (record q { at = located x.number h }) (standing_in (things_of b))
  to_held u h e q m = at (located x.number h) refl
    where
      at : (o : Option Location) → located x.number h ≡ o → Among (record q { at = located x.number h }) (standing_in (things_of b))
      at None w = absurd (no_value h w e)
        where
          no_value : (j : Here) → located x.number j ≡ None → here y j ≡ Some (value.Own u) → ⊥
          no_value (slot i) r v = absurd cc
          no_value (temp i) r v = absurd cc
          no_value nowhere r v = absurd cc
      at (Some l) w =
          subst (λ (v : Option Location). Among (record q { at = v }) (standing_in (things_of b))) (sym w)
          (told_standing b l (value.Own u) (record q { at = Some l }) (here_b h l w ∙ e) (move_in None (Some l) u q (held_pointer u q m)))

  abbrev Back : Pointer → Type 0
  Back q = Among q (standing_in (things_of a)) ⊎ ((g ≡ None) × Among (record q { at = f }) (standing_in (things_of a)))

  abbrev On : Pointer → Type 0
  On q = Among q (standing_in (things_of b)) ⊎ ((f ≡ None) × Among (record q { at = g }) (standing_in (things_of b)))

  in_thread_a : (q : Pointer) → Among q (standing_in (tail_of n x)) → Among q (standing_in (things_of a))
  in_thread_a q m = of_thread a b n x y p.number s c d q m

  in_thread_b : (q : Pointer) → Among q (standing_in (tail_of n y)) → Among q (standing_in (things_of b))
  in_thread_b q m =
      subst (λ w. Among q (standing_in w)) (sym s.after)
      (standing_first q (s.left ++ thread_things n false y) s.right (standing_second q s.left (thread_things n false y) m))

  tail_back : (h j : Here) → Beside a.code n x y h j → (q : Pointer) → q.at ≡ None → Among q (standing_in (tail_of n y))
      → Among q (standing_in (things_of a)) ⊎ ((located x.number j ≡ None) × Among (record q { at = located x.number h }) (standing_in (things_of a)))
  tail_back h j (between w v same al) q e m = inl (in_thread_a q (standing_turn a.code (tail_of n y) (tail_of n x) q al.back e m))
  tail_back h _ (leaves u at al) q e m =
      ⊎_elim (λ (w : Among q (standing_in (held u))). inr (refl, from_held u h at q w)) (λ (w : Among q (standing_in (tail_of n x))). inl (in_thread_a q w))
      (standing_split q (held u) (tail_of n x) (standing_turn a.code (tail_of n y) (held u ++ tail_of n x) q al.back e m))
  tail_back _ j (comes u at al) q e m =
      inl (in_thread_a q (standing_turn a.code (held u ++ tail_of n y) (tail_of n x) q al.back e (standing_second q (held u) (tail_of n y) m)))

  tail_on : (h j : Here) → Beside a.code n x y h j → (q : Pointer) → q.at ≡ None → Among q (standing_in (tail_of n x))
      → Among q (standing_in (things_of b)) ⊎ ((located x.number h ≡ None) × Among (record q { at = located x.number j }) (standing_in (things_of b)))
  tail_on h j (between w v same al) q e m = inl (in_thread_b q (standing_turn a.code (tail_of n x) (tail_of n y) q al.on e m))
  tail_on h _ (leaves u at al) q e m =
      inl (in_thread_b q (standing_turn a.code (held u ++ tail_of n x) (tail_of n y) q al.on e (standing_second q (held u) (tail_of n x) m)))
  tail_on _ j (comes u at al) q e m =
      ⊎_elim (λ (w : Among q (standing_in (held u))). inr (refl, to_held u j at q w)) (λ (w : Among q (standing_in (tail_of n y))). inl (in_thread_b q w))
      (standing_split q (held u) (tail_of n y) (standing_turn a.code (tail_of n x) (held u ++ tail_of n y) q al.on e m))

  wide_a : {X : Type 0} (q r : Pointer) → Among q (standing_in (things_of a)) ⊎ (X × Among r (standing_in (things_of a))) → Among q (pointers_in (things_of a)) ⊎ (X × Among r (pointers_in (things_of a)))
  wide_a {X = X} q r w =
      ⊎_elim (λ (l : Among q (standing_in (things_of a))). inl (stands_in q (things_of a) l)) (λ (v : X × Among r (standing_in (things_of a))). inr (v.0, stands_in r (things_of a) v.1)) w

  wide_b : {X : Type 0} (q r : Pointer) → Among q (standing_in (things_of b)) ⊎ (X × Among r (standing_in (things_of b))) → Among q (pointers_in (things_of b)) ⊎ (X × Among r (pointers_in (things_of b)))
  wide_b {X = X} q r w =
      ⊎_elim (λ (l : Among q (standing_in (things_of b))). inl (stands_in q (things_of b) l)) (λ (v : X × Among r (standing_in (things_of b))). inr (v.0, stands_in r (things_of b) v.1)) w

  turned_split : Split (things_of b) (things_of a) (thread_things n false y) (thread_things n false x)
  turned_split = record { left = s.left; right = s.right; before = s.after; after = s.before }

  loose_back : (q : Pointer) → q.at ≡ None → Among q (pointers_in (things_of b)) → Among q (pointers_in (things_of a)) ⊎ ((g ≡ None) × Among (record q { at = f }) (pointers_in (things_of a)))
  loose_back q e m =
      ⊎_elim (λ (w : Among q (pointers_in (things_of a))). inl w) (λ (w : Among q (standing_in (tail_of n y))). wide_a q (record q { at = f }) (tail_back from to p.beside q e w)) (pointer_back a b n x y p.number s c d q m)

  loose_on : (q : Pointer) → q.at ≡ None → Among q (pointers_in (things_of a)) → Among q (pointers_in (things_of b)) ⊎ ((f ≡ None) × Among (record q { at = g }) (pointers_in (things_of b)))
  loose_on q e m =
      ⊎_elim (λ (w : Among q (pointers_in (things_of b))). inl w) (λ (w : Among q (standing_in (tail_of n x))). wide_b q (record q { at = g }) (tail_on from to p.beside q e w)) (pointer_back b a n y x (sym p.number) turned_split d c q m)

  loose_standing : (q : Pointer) → q.at ≡ None → Among q (standing_in (things_of b)) → Among q (standing_in (things_of a)) ⊎ ((g ≡ None) × Among (record q { at = f }) (standing_in (things_of a)))
  loose_standing q e m =
      ⊎_elim (λ (w : Among q (standing_in (things_of a))). inl w) (λ (w : Among q (standing_in (tail_of n y))). tail_back from to p.beside q e w) (standing_back a b n x y p.number s c d q m)

  -- the pointer that goes
  goes_out : (h j : Here) → Beside a.code n x y h j → (l : Location) (q : Pointer) → located x.number h ≡ Some l → located x.number j ≡ None → q.at ≡ Some l → Among q (pointers_in (things_of a)) → Among (record q { at = None }) (pointers_in (things_of b))
  goes_out h (slot i) w l q e v at m = absurd cc
  goes_out h (temp i) w l q e v at m = absurd cc
  goes_out h nowhere (between r v same al) l q e w at m = absurd (v refl)
  goes_out h nowhere (leaves u is al) l q e w at m =
      let t = tells a c q l m at in
      let same : t.value ≡ value.Own u = some_is (sym t.stands ∙ here_a h l e ∙ is) in
      let its : Among q (pointer_in (Some l) u) = subst (λ v. Among q (pointer_at l v)) same t.pointer in
      let new : Pointer = record q { at = None } in
      stands_in new (things_of b) (in_thread_b new (standing_turn a.code (held u ++ tail_of n x) (tail_of n y) new al.on refl (standing_first new (held u) (tail_of n x) (pointer_held u new (move_in (Some l) None u q its)))))
  goes_out nowhere nowhere (comes u is al) l q e w at m = absurd cc

  comes_in : (h j : Here) → Beside a.code n x y h j → (l : Location) (q : Pointer) → located x.number j ≡ Some l → located x.number h ≡ None → q.at ≡ Some l → Among q (pointers_in (things_of b)) → Among (record q { at = None }) (standing_in (things_of a))
  comes_in (slot i) j w l q e v at m = absurd cc
  comes_in (temp i) j w l q e v at m = absurd cc
  comes_in nowhere j (between r v same al) l q e w at m = absurd (r refl)
  comes_in nowhere nowhere (leaves u is al) l q e w at m = absurd cc
  comes_in nowhere j (comes u is al) l q e w at m =
      let t = tells b d q l m at in
      let same : t.value ≡ value.Own u = some_is (sym t.stands ∙ here_b j l e ∙ is) in
      let its : Among q (pointer_in (Some l) u) = subst (λ v. Among q (pointer_at l v)) same t.pointer in
      let new : Pointer = record q { at = None } in
      in_thread_a new (standing_turn a.code (held u ++ tail_of n y) (tail_of n x) new al.back refl (standing_first new (held u) (tail_of n y) (pointer_held u new (move_in (Some l) None u q its))))

  -- ALL OF IT

  both_there : (h j : Here) → Beside a.code n x y h j → (l m : Location) → located x.number h ≡ Some l → located x.number j ≡ Some m → owning (here y j) ≡ owning (here x h)
  both_there h j (between r v same al) l m e w = same
  both_there h _ (leaves u is al) l m e w = absurd cc
  both_there _ j (comes u is al) l m e w = absurd cc

  no_end : (h j : Here) → Beside a.code n x y h j → (l : Location) (r : MutRef) → located x.number h ≡ Some l → located x.number j ≡ None → value_in ga l ≡ Some (value.Mut r) → ⊥
  no_end h (slot i) w l r e v is = absurd cc
  no_end h (temp i) w l r e v is = absurd cc
  no_end h nowhere (between q v same al) l r e w is = v refl
  no_end h nowhere (leaves u at al) l r e w is = no_owned_reference u r (sym at ∙ sym (here_a h l e) ∙ is)
  no_end nowhere nowhere (comes u at al) l r e w is = absurd cc

  no_begin : (h j : Here) → Beside a.code n x y h j → (l : Location) (r : MutRef) → located x.number j ≡ Some l → located x.number h ≡ None → value_in gb l ≡ Some (value.Mut r) → ⊥
  no_begin (slot i) j w l r e v is = absurd cc
  no_begin (temp i) j w l r e v is = absurd cc
  no_begin nowhere j (between q v same al) l r e w is = q refl
  no_begin nowhere nowhere (leaves u at al) l r e w is = absurd cc
  no_begin nowhere j (comes u at al) l r e w is = no_owned_reference u r (sym at ∙ sym (here_b j l e) ∙ is)

  its_thread : (h : Here) (l : Location) (w : Lval) → located x.number h ≡ Some l → holder_of gb l w ≡ place_at gb x.number w
  its_thread (slot i) l w e = ap (λ m. holder_of gb m w) (some_is (sym e))
  its_thread (temp i) l w e = ap (λ m. holder_of gb m w) (some_is (sym e))
  its_thread nowhere l w e = absurd cc

  same_takings : takings b.code gb.threads ≡ takings a.code ga.threads
  same_takings = ap (λ q. takings q gb.threads) code ∙ takings_same a b n x y p.number s c d a.code p.untaken p.untaken_after

  pub is_carried : Quiet a b f g → Carried a b f g
  is_carried q = record {
    stands = elsewhere;
    carried = λ l m e w. ap owning (here_b to m w) ∙ both_there from to p.beside l m e w ∙ sym (ap owning (here_a from l e));
    left = λ l e. ap owning (here_b from l e) ∙ p.left;
    free = λ m e. ap owning (here_a to m e) ∙ p.free;
    ends = λ l r e w is. no_end from to p.beside l r e w is;
    begins = λ m r e w is. no_begin from to p.beside m r e w is;
    thread = λ l m w e v. its_thread to m w v ∙ sym (its_thread from l w e);
    holders = q.holders;
    unmade = q.unmade;
    taken = q.taken;
    untaken = q.untaken;
    takes = λ t h. subst (λ ts. Among t ts) same_takings h;
    took = λ t h. subst (λ ts. Among t ts) (sym same_takings) h;
    loose = loose_back;
    remain = loose_on;
    standing = loose_standing;
    out = λ l r e w at m. goes_out from to p.beside l r e w at m;
    into = λ m r e w at i. comes_in from to p.beside m r e w at i;
    lay = λ r v z h. record { cell = z; among = lies_back a b n x y p.number s c d r v z h; object = refl };
  }

  -- WHERE NO PLACE LEADS ON

  pub leads_points : (t : ℕ) (v : Option Value) (l : Location) → leads t v ≡ Some l → pointing v ≡ None → ⊥
  leads_points t v l e h = let z : None ≡ Some l = sym (ap (leads t) h) ∙ leads_pointing t v ∙ e in absurd cc

  first_points : (r : MutRef) (v : Option Value) → is_first r v ≡ true → pointing v ≡ None → ⊥
  first_points r v e h = let z : false ≡ true = sym (ap (is_first r) h) ∙ first_pointing r v ∙ e in absurd cc

  pub seen_leads : (t : ℕ) (l : Location) → ((u i : ℕ) → l ≡ at_temp u i → ⊥) → seen_at l (value_in gb l) ≡ seen_at l (value_in ga l) → leads t (value_in gb l) ≡ leads t (value_in ga l)
  seen_leads t (at_slot m i) w e = sym (leads_pointing t (value_in gb (at_slot m i))) ∙ ap (leads t) e ∙ leads_pointing t (value_in ga (at_slot m i))
  seen_leads t (at_temp m i) w e = absurd (w m i refl)
  seen_leads t (in_cell o) w e = sym (leads_pointing t (value_in gb (in_cell o))) ∙ ap (leads t) e ∙ leads_pointing t (value_in ga (in_cell o))

  pub holder_no_temp : (l m : Location) (w : Lval) → holder_of ga l w ≡ Some m → (u i : ℕ) → m ≡ at_temp u i → ⊥
  holder_no_temp (at_slot t j) m w e u i q = no_temp ga t w.slot w.depth u i (e ∙ ap Some q)
  holder_no_temp (at_temp t j) m w e u i q = no_temp ga t w.slot w.depth u i (e ∙ ap Some q)
  holder_no_temp (in_cell o) m w e u i q = absurd cc

  is_so : (v : Bool) → other v ≡ 0 → v ≡ true
  is_so true e = refl
  is_so false e = absurd cc

  pub first_there : Holds a first_at_holder → (l m : Location) (r : MutRef) → value_in ga l ≡ Some (value.Mut r) → holder_of ga l r.holder ≡ Some m → is_first r (value_in ga m) ≡ true
  first_there all l m r e w =
      let q : Reference = record { at = l; holder = holder_of ga l r.holder; reference = r } in
      is_so (is_first r (value_in ga m)) (subst (λ o. other (is_first r (value_behind ga o)) ≡ 0) w (none_at (other_first ga) q (references ga (things_of a)) all (reference_there a l r e)))

  -- in its slots nothing led on
  abbrev pub Blind : Type 0
  Blind = (i : ℕ) → (slot i ≡ from) ⊎ (slot i ≡ to) → pointing (slice_get x.slots i) ≡ None

  -- the value at it leads somewhere, so the value doesn't go from there nor come there
  module _ (blind : Blind) where
    nothing_at : (h : Here) (m i : ℕ) → ((j : ℕ) → slot j ≡ h → pointing (slice_get x.slots j) ≡ None) → Some (at_slot m i) ≡ located x.number h → pointing (value_in ga (at_slot m i)) ≡ None
    nothing_at (slot j) m i w e = ap pointing (here_a (slot j) (at_slot m i) (sym e)) ∙ w j refl
    nothing_at (temp j) m i w e = absurd cc
    nothing_at nowhere m i w e = absurd cc

    from_blind : (m i : ℕ) → Some (at_slot m i) ≡ f → pointing (value_in ga (at_slot m i)) ≡ None
    from_blind m i e = nothing_at from m i (λ j w. blind j (inl w)) e

    to_blind : (m i : ℕ) → Some (at_slot m i) ≡ g → pointing (value_in ga (at_slot m i)) ≡ None
    to_blind m i e = nothing_at to m i (λ j w. blind j (inr w)) e

    no_cell : (h : Here) (o : ObjNo) → Some (in_cell o) ≡ located x.number h → ⊥
    no_cell (slot j) o e = absurd cc
    no_cell (temp j) o e = absurd cc
    no_cell nowhere o e = absurd cc

    -- what points and is no temporary value is neither of the two
    clear : (l : Location) → ((u i : ℕ) → l ≡ at_temp u i → ⊥) → (pointing (value_in ga l) ≡ None → ⊥) → (Some l ≡ f → ⊥) × (Some l ≡ g → ⊥)
    clear (at_slot m i) w h = (λ e. h (from_blind m i e), λ e. h (to_blind m i e))
    clear (at_temp m i) w h = absurd (w m i refl)
    clear (in_cell o) w h = (no_cell from o, no_cell to o)

    -- a place that leads somewhere leads there afterwards
    lead_on : (t k m : ℕ) (l : Location) → locate ga t k m ≡ Some l → locate gb t k m ≡ Some l
    lead_on t k zero l e = e
    lead_on t k (suc m) l e = by (locate ga t k m) refl e (λ j q. lead_on t k m j q)
      where
        by : (o : Option Location) → locate ga t k m ≡ o → leads t (value_behind ga o) ≡ Some l → ((j : Location) → locate ga t k m ≡ Some j → locate gb t k m ≡ Some j) → leads t (value_behind gb (locate gb t k m)) ≡ Some l
        by None q h go = absurd cc
        by (Some j) q h go =
            let away = clear j (λ u i w. no_temp ga t k m u i (q ∙ ap Some w)) (leads_points t (value_in ga j) l h) in
            ap (λ o. leads t (value_behind gb o)) (go j q) ∙ seen_leads t j (λ u i w. no_temp ga t k m u i (q ∙ ap Some w)) (elsewhere j away.0 away.1) ∙ h

    held_on : (l m : Location) (w : Lval) → holder_of ga l w ≡ Some m → holder_of gb l w ≡ Some m
    held_on (at_slot t i) m w e = lead_on t w.slot w.depth m e
    held_on (at_temp t i) m w e = lead_on t w.slot w.depth m e
    held_on (in_cell o) m w e = e

    -- what was taken is at a place
    abbrev pub Rooted : Type 0
    Rooted = (t : Taking) → Among t (takings a.code ga.threads) → (l : Location) × (place_at ga t.thread t.place ≡ Some l)

    less_on : (t k m : ℕ) (l : Location) → locate ga t k m ≡ Some l → one_star_less gb t k m ≡ one_star_less ga t k m
    less_on t k zero l e = refl
    less_on t k (suc m) l e = by (locate ga t k m) refl e
      where
        by : (o : Option Location) → locate ga t k m ≡ o → leads t (value_behind ga o) ≡ Some l → locate gb t k m ≡ locate ga t k m
        by None q h = absurd cc
        by (Some j) q h = lead_on t k m j q ∙ sym q

    less_clear : (t k m : ℕ) (l j : Location) → locate ga t k m ≡ Some l → one_star_less ga t k m ≡ Some j → (Some j ≡ f → ⊥) × (Some j ≡ g → ⊥)
    less_clear t k zero l j e q = absurd cc
    less_clear t k (suc m) l j e q =
        clear j (λ u i w. no_temp ga t k m u i (q ∙ ap Some w)) (leads_points t (value_in ga j) l (ap (λ o. leads t (value_behind ga o)) (sym q) ∙ e))

    pub is_quiet : Holds a first_at_holder → Rooted → Quiet a b f g
    is_quiet all rooted = record {
      holders = λ l m r e w. held_on l m r.holder w;
      unmade = λ l m r e w. clear m (holder_no_temp l m r.holder w) (first_points r (value_in ga m) (first_there all l m r e w));
      taken = λ t h. (let q = rooted t h in (lead_on t.thread t.place.slot t.place.depth q.0 q.1 ∙ sym q.1, less_on t.thread t.place.slot t.place.depth q.0 q.1));
      untaken = λ t m h e. (let q = rooted t h in less_clear t.thread t.place.slot t.place.depth q.0 m q.1 e);
    }
