-- To each object that a value owns which a thread may give up, its box is the only pointer.
use Rattle.std.proofs.Common.{◌≡◌, ◌⊎◌, inl, inr, ⊎_elim, ℕ, zero, suc, true, Option, Some, None, refl, sym, ap, subst, ◌∙◌}
use Rattle.std.specs.Prelude.{slice_get}
use Rattle.law_words_kept.specs.Below.fr_base.declared.name.ObjNo.{ObjNo}
use Rattle.law_words_kept.specs.Below.heap_partition.declared.value.BoxPtr.{BoxPtr}
use Rattle.law_words_kept.specs.Below.heap_partition.declared.value.Owned.{Owned}
use Rattle.law_words_kept.specs.Below.heap_partition.declared.value.Owned.TheVariants as owned
use Rattle.law_words_kept.specs.Below.heap_partition.Plain.{plain_of}
use Rattle.law_words_kept.specs.Below.fr_store.Keys.{Key, slot_k, temp_k}
use Rattle.law_words_kept.specs.Below.fr_store.Store.{Location as StoreLocation, at_key, at_object, Val, box_v, ref_v, Store, value_at, star_target, walk, below_key}
use Rattle.law_words_kept.specs.Below.fr_store.Typed.{Tree, hole, unit_tree, int_tree, mutex_tree, task_tree, box_tree, Exact, owns, refers, KeyTypes, Resolves, here, RefFits, Stands, Fits, TopFits, Typed, Unnamed}
use Rattle.law_words_kept.proofs.Below.fr_store.Below.{part_zero, res_box}
use Rattle.law_words_kept.proofs.Below.fr_store.Sound.{walk_last, ref_at, sound, res_part}
use Rattle.law_words_kept.specs.Below.fr_sound.Seen.{owned_val, seen_cell}
use Rattle.law_words_kept.specs.Below.mut_borrow.declared.shared.SharedRef.{SharedRef}
use Rattle.law_words_kept.specs.Below.thread_state.declared.value.Value.{Value}
use Rattle.law_words_kept.specs.Below.thread_state.declared.value.Value.TheVariants as value
use Rattle.law_words_kept.specs.Below.server_model.Servers.{Cluster}
use Rattle.law_words_kept.specs.Below.coherent_memory.Names.{Among}
use Rattle.law_words_kept.specs.Below.coherent_memory.Things.{Location, at_slot, at_temp, in_cell, shares, things_of}
use Rattle.law_words_kept.specs.Below.coherent_memory.Follow.{Standing, Ground, slot_of, temp_of, value_of, value_in, value_behind}
use Rattle.law_words_kept.specs.Below.coherent_memory.Sight.{Pointer, pointers_in, sight}
use Rattle.law_words_kept.specs.Below.law_words_paths.paths.Above.{StandsAbove, holder, higher, PointsTo, a_reference}
use Rattle.law_words_kept.specs.Below.law_words_paths.paths.HeapStore.{in_store, heap_store, GoesOn, HasPaths}
use Rattle.law_words_kept.proofs.Below.law_words_paths.paths.Sole.{sole_pointer, some_is}
use Rattle.law_words_kept.proofs.Below.law_words_paths.paths.Shown.{stands_there}
use Rattle.law_words_kept.proofs.Below.law_words_paths.paths.Alike.{IsShown, a_slot, an_object, cell_there, leads_in_heap, slot_own, slot_shared, temp_own, temp_shared}
use Rattle.law_words_kept.proofs.Below.law_words_paths.paths.Climbs.{one_location}
use Rattle.law_words_kept.proofs.Below.law_words_paths.paths.Pointers.{Stood, pointed_at, shared_at, temp_unnamed}
use Rattle.law_words_kept.specs.ends.Dropped.{box_leads, boxes_below, MayGiveUp, a_temp, a_place, IsOnlyPointer, OwnedAreAlone}

-- IN A STORE

box_no_ref : {o : ObjNo} {l : StoreLocation} → box_v o ≡ ref_v l → ⊥
box_no_ref e = absurd cc

module _ (rank : Key → ℕ) (E : KeyTypes) (s : Store) (t : Typed rank E s) where
  -- a place at which a box stands leads on
  deeper : (k : Key) (d : ℕ) (b : Key) (n : ℕ) (p : Exact) (h : StoreLocation) (o : ObjNo) → Resolves E true k d b n p → walk s d (at_key k) ≡ Some h → value_at s h ≡ Some (box_v o) → (q : Tree) × Resolves E true k (suc d) b (suc n) (owns q)
  deeper k d b n p h o r w v = by p refl
    where
      there : below_key s b n ≡ Some h
      there = sym (sound rank E s t true k d b n p r) ∙ w

      st : Stands E s (at_key b) n p
      st = t.stands b n p (res_part E true k d b n p r)

      shown : st.value ≡ box_v o
      shown = let same : st.spot ≡ h = some_is (sym st.leads ∙ there) in some_is (sym st.there ∙ ap (value_at s) same ∙ v)

      by_tree : (q : Tree) → p ≡ owns q → TopFits q (box_v o) → (q : Tree) × Resolves E true k (suc d) b (suc n) (owns q)
      by_tree (box_tree q) e f = (q, res_box E true k d b n p q r e)
      by_tree hole e f = absurd cc
      by_tree unit_tree e f = absurd cc
      by_tree int_tree e f = (let z = f.1 in absurd cc)
      by_tree (mutex_tree q) e f = (let z = f.1 in absurd cc)
      by_tree (task_tree q) e f = (let z = f.1 in absurd cc)

      by : (q : Exact) → p ≡ q → (q : Tree) × Resolves E true k (suc d) b (suc n) (owns q)
      by (owns q) e = by_tree q e (subst (TopFits q) shown (subst (λ z. Fits E s z st.value) e st.fits))
      by (refers m u) e = let f : RefFits E s m u st.value = subst (λ z. Fits E s z st.value) e st.fits in absurd (box_no_ref (sym shown ∙ f.is))

  -- nothing stands above a box
  none_above : (l h : StoreLocation) (o : ObjNo) → StandsAbove E s l h → value_at s h ≡ Some (box_v o) → ⊥
  none_above l _ o (holder {k = k} made) v = let f = ref_at rank E s t k true made.place made.refers in box_no_ref (sym (some_is v) ∙ f.is)
  none_above l _ o (higher {k = k} made rest) v = let f = ref_at rank E s t k true made.place made.refers in box_no_ref (sym (some_is v) ∙ f.is)

-- IN A CLUSTER

module _ (k : Cluster) (c : HasPaths k) (x : Standing) (g : GoesOn k x) where
  abbrev st : Store
  st = heap_store k c.types

  abbrev n : ℕ
  n = x.thread.number

  abbrev E : KeyTypes
  E = c.types.typing.exact

  abbrev ground : Ground
  ground = (sight k).ground

  -- a box that stands there is shown in the one heap
  abbrev BoxShown : Location → Type 0
  BoxShown h = (b : BoxPtr) → value_in ground h ≡ Some (value.Own (owned.Box b)) → value_at st (in_store h) ≡ Some (box_v b.object)

  -- where so many boxes lead, as a place of a key that no type names
  record Rooted (h : Location) : Type 0 where
    key : Key
    free : Unnamed E key
    stars : ℕ
    base : Key
    boxes : ℕ
    type : Exact
    resolves : Resolves E true key stars base boxes type
    leads_there : walk st stars (at_key key) ≡ Some (in_store h)
    shown : BoxShown h

  own_is : {v w : Owned} → Some (value.Own v) ≡ Some (value.Own w) → v ≡ w
  own_is e = cc

  cell_shown : (o : ObjNo) (v : Val) → st.heap o ≡ Some v → BoxShown (in_cell o)
  cell_shown o v e b at =
      let q = cell_there k c x g o v e in
      let same : q.0.value ≡ owned.Box b = own_is (sym (ap value_of q.1) ∙ at) in
      e ∙ ap Some (q.2 ∙ ap (λ z. owned_val c.types.typing.gives (plain_of z)) same)

  slot_shown : (i : ℕ) → BoxShown (at_slot n i)
  slot_shown i b at = ap Some (slot_own k c x g i (owned.Box b) (sym (ap (λ o. slot_of o i) (stands_there k c x g)) ∙ at))

  temp_shown : (i : ℕ) → BoxShown (at_temp n i)
  temp_shown i b at = ap Some (temp_own k c x g i (owned.Box b) (sym (ap (λ o. temp_of o i) (stands_there k c x g)) ∙ at))

  of_shown : (l : Location) → IsShown k c x g l → BoxShown l
  of_shown _ (a_slot i) = slot_shown i
  of_shown _ (an_object o v e) = cell_shown o v e

  root : (l : Location) → MayGiveUp k c.types x l → Rooted l
  root _ (a_temp i) = record {
    key = temp_k n i;
    free = temp_unnamed k c n i;
    stars = 0;
    base = temp_k n i;
    boxes = 0;
    type = E (temp_k n i);
    resolves = here (part_zero (E (temp_k n i)));
    leads_there = refl;
    shown = temp_shown i;
  }
  root l (a_place w may at) =
      let q = leads_in_heap k c x g w.slot w.depth l at in
      record { key = slot_k n w.slot; free = may.free; stars = w.depth; base = may.base; boxes = may.boxes; type = may.type; resolves = may.resolves; leads_there = q.0; shown = of_shown l q.1 }

  -- a box leads on
  record Boxed (v : Option Value) (h : Location) : Type 0 where
    pointer : BoxPtr
    is : v ≡ Some (value.Own (owned.Box pointer))
    leads_there : h ≡ in_cell pointer.object

  some_location : {h l : Location} → Some h ≡ Some l → h ≡ l
  some_location e = cc

  boxed : (v : Option Value) (h : Location) → box_leads v ≡ Some h → Boxed v h
  boxed (Some (value.Own (owned.Box p))) h e = record { pointer = p; is = refl; leads_there = sym (some_location e) }
  boxed None h e = absurd cc
  boxed (Some value.Gone) h e = absurd cc
  boxed (Some (value.Own owned.Nothing)) h e = absurd cc
  boxed (Some (value.Own owned.Unit)) h e = absurd cc
  boxed (Some (value.Own (owned.Int i))) h e = absurd cc
  boxed (Some (value.Own (owned.Mutex m))) h e = absurd cc
  boxed (Some (value.Own (owned.Task t))) h e = absurd cc
  boxed (Some (value.SharedSlot i)) h e = absurd cc
  boxed (Some (value.MutSlot i)) h e = absurd cc
  boxed (Some (value.Shared r)) h e = absurd cc
  boxed (Some (value.Mut r)) h e = absurd cc
  boxed (Some (value.Held m)) h e = absurd cc

  object_there : (h : StoreLocation) (o : ObjNo) → value_at st h ≡ Some (box_v o) → (v : Val) × (st.heap o ≡ Some v)
  object_there h o e = let q = c.types.state.objects_there h o e in (owned_val c.types.typing.gives q.0, ap (seen_cell c.types.typing.gives) q.1)

  -- one box more
  next_box : (h : Location) (p : BoxPtr) → Rooted h → value_in ground h ≡ Some (value.Own (owned.Box p)) → Rooted (in_cell p.object)
  next_box h p r at =
      let v = r.shown p at in
      let q = deeper c.types.typing.rank E st c.types.state.typed r.key r.stars r.base r.boxes r.type (in_store h) p.object r.resolves r.leads_there v in
      let o = object_there (in_store h) p.object v in
      record {
        key = r.key;
        free = r.free;
        stars = suc r.stars;
        base = r.base;
        boxes = suc r.boxes;
        type = owns q.0;
        resolves = q.1;
        leads_there = walk_last st r.stars (at_key r.key) (in_store h) r.leads_there ∙ ap star_target v;
        shown = cell_shown p.object o.0 o.1;
      }

  rooted : (l : Location) → Rooted l → (i : ℕ) (h : Location) → boxes_below ground l i ≡ Some h → Rooted h
  rooted l r zero h e = subst Rooted (some_location e) r
  rooted l r (suc i) h e = by (boxes_below ground l i) refl e (rooted l r i)
    where
      by : (o : Option Location) → boxes_below ground l i ≡ o → box_leads (value_behind ground o) ≡ Some h → ((m : Location) → boxes_below ground l i ≡ Some m → Rooted m) → Rooted h
      by None at f go = absurd cc
      by (Some m) at f go = let b = boxed (value_in ground m) h f in subst Rooted (sym b.leads_there) (next_box m b.pointer (go m at) b.is)

  -- who points there, in the store
  only_there : (h : Location) (p : BoxPtr) → Rooted h → value_in ground h ≡ Some (value.Own (owned.Box p)) → (l : StoreLocation) → PointsTo st p.object l → l ≡ in_store h
  only_there h p r at l pts =
      let v = r.shown p at in
      let q = next_box h p r at in
      let w : walk st (suc r.stars) (at_key r.key) ≡ Some (at_object p.object) = walk_last st r.stars (at_key r.key) (in_store h) r.leads_there ∙ ap star_target v in
      let d = deeper c.types.typing.rank E st c.types.state.typed r.key r.stars r.base r.boxes r.type (in_store h) p.object r.resolves r.leads_there v in
      ⊎_elim (λ (e : l ≡ in_store h). e) (λ (a : StandsAbove E st l (in_store h)). absurd (none_above c.types.typing.rank E st c.types.state.typed l (in_store h) p.object a v))
      (sole_pointer c.types.typing.rank E st r.key r.stars r.base (suc r.boxes) (owns d.0) (in_store h) l p.object c.types.state.typed r.free d.1 r.leads_there w pts)

  module _ (h : Location) (p : BoxPtr) (r : Rooted h) (at : value_in ground h ≡ Some (value.Own (owned.Box p))) where
    only : (q : Pointer) (m : Location) → Among q (pointers_in (things_of k)) → q.object ≡ p.object → q.at ≡ Some m → m ≡ h
    only q m among same place =
        let o = object_there (in_store h) p.object (r.shown p at) in
        one_location m h (only_there h p r at (in_store m) (pointed_at k c q m p.object o.0 among same place o.1))

    -- a reference is no box
    no_reference : (a : Key) → st.at a ≡ ref_v (at_object p.object) → ⊥
    no_reference a is =
        let same : at_key a ≡ in_store h = only_there h p r at (at_key a) (a_reference is) in
        let v : Some (ref_v (at_object p.object)) ≡ Some (box_v p.object) = ap Some (sym is) ∙ ap (value_at st) same ∙ r.shown p at in
        box_no_ref (sym (some_is v))

    unshared : (m : Location) (q : SharedRef) → Among (shares m q) (things_of k) → q.object ≡ p.object → ⊥
    unshared m q among same = by s.at
      where
        s : Stood k c m (value.Shared q)
        s = shared_at k c m q among

        z : Standing
        z = s.thread

        by : ((m ≡ at_slot z.thread.number s.number) × (slice_get z.thread.slots s.number ≡ Some (value.Shared q))) ⊎ ((m ≡ at_temp z.thread.number s.number) × (slice_get z.thread.temps s.number ≡ Some (value.Shared q))) → ⊥
        by (inl a) = no_reference (slot_k z.thread.number s.number) (slot_shared k c z s.goes s.number q a.1 ∙ ap (λ y. ref_v (at_object y)) same)
        by (inr a) = no_reference (temp_k z.thread.number s.number) (temp_shared k c z s.goes s.number q a.1 ∙ ap (λ y. ref_v (at_object y)) same)

    alone : IsOnlyPointer k h p.object
    alone = record { only = only; unshared = unshared }

pub owned_are_alone : OwnedAreAlone
owned_are_alone k c x l i h b g may below at = alone k c x g h b (rooted k c x g l (root k c x g l may) i h below) at
