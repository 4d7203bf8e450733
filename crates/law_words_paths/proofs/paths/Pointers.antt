-- Each pointer of a coherent cluster that stands somewhere stands there in its one heap, and so what a thread writes has no pointer but those above.
use Rattle.std.proofs.Common.{◌≡◌, ◌⊎◌, inl, inr, ⊎_elim, ℕ, suc, ◌+◌, Bool, true, false, List, [], ◌∷◌, length, Option, Some, None, is_some, refl, sym, ap, subst, ◌∙◌, arith}
use Rattle.std.specs.Prelude.{slice_get}
use Rattle.coherent_types.specs.Below.fr_base.declared.name.ObjNo.{ObjNo}
use Rattle.coherent_types.specs.Below.fr_base.declared.place.Lval.{Lval}
use Rattle.coherent_types.specs.Below.fr_store.Keys.{Key, slot_k, temp_k}
use Rattle.coherent_types.specs.Below.fr_store.Store.{at_key, at_object, Val, ref_v, Store, value_at, star_hop, walk}
use Rattle.coherent_types.specs.Below.fr_store.Typed.{Resolves, Unnamed}
use Rattle.coherent_types.proofs.Below.fr_store.Sound.{walk_last}
use Rattle.coherent_types.specs.Below.fr_sound.Seen.{seen_cell}
use Rattle.coherent_types.specs.Below.heap_partition.declared.value.Cell.{Cell}
use Rattle.coherent_types.specs.Below.heap_partition.declared.value.BoxPtr.{BoxPtr}
use Rattle.coherent_types.specs.Below.heap_partition.declared.value.Owned.{Owned}
use Rattle.coherent_types.specs.Below.heap_partition.declared.value.Owned.TheVariants as owned
use Rattle.coherent_types.specs.Below.heap_partition.Plain.{plain_of}
use Rattle.coherent_types.specs.Below.mut_borrow.declared.mutable.MutRef.{MutRef}
use Rattle.coherent_types.specs.Below.mut_borrow.declared.shared.SharedRef.{SharedRef}
use Rattle.coherent_types.specs.Below.thread_state.View.{is_over}
use Rattle.coherent_types.specs.Below.thread_state.declared.value.Value.{Value}
use Rattle.coherent_types.specs.Below.thread_state.declared.value.Value.TheVariants as value
use Rattle.coherent_types.specs.Below.server_model.Servers.{Cluster}
use Rattle.coherent_types.specs.Below.server_msgs.declared.message.Message.{Message}
use Rattle.coherent_types.specs.Below.server_msgs.declared.message.Message.TheVariants.{Drop}
use Rattle.coherent_types.specs.Below.coherent_memory.Names.{one, other, if_so, Among, boxes}
use Rattle.coherent_types.specs.Below.coherent_memory.Things.{Location, at_slot, at_temp, in_cell, Spot, in_slot, in_temp, Thing, holds, shares, borrows, lies, flies, sent, slot_things, temp_things, things_of}
use Rattle.coherent_types.specs.Below.coherent_memory.Follow.{Standing}
use Rattle.coherent_types.specs.Below.coherent_memory.Rooted.{is_end, dressed}
use Rattle.coherent_types.specs.Below.coherent_memory.Walking.{instr_of}
use Rattle.coherent_types.specs.Below.coherent_memory.Sight.{sight, Pointer, pointer_in, location_of, dropped_pointer, pointers_of, pointers_in}
use Rattle.coherent_types.specs.Below.coherent_memory.OneHeap.{object_n, is_in_state, object_value, if_in, first_shown, cell_value}
use Rattle.coherent_types.proofs.Below.coherent_memory.Bags.{among_split}
use Rattle.coherent_types.proofs.Below.coherent_memory.Words.{itself}
use Rattle.law_words_paths.specs.paths.Above.{PointsTo, its_box, a_reference, StandsAbove}
use Rattle.law_words_paths.specs.paths.HeapStore.{in_store, heap_store, GoesOn, IsUnmarked, HasPaths}
use Rattle.law_words_paths.specs.paths.Pointing.{Above, MayWrite, LastHop, SolePointers}
use Rattle.law_words_paths.proofs.paths.Sole.{sole_pointer, sole_mutable, sole_named, some_is}
use Rattle.law_words_paths.proofs.paths.Alike.{leads_in_heap, leads_in_cluster, heap_of_shown, slot_own, slot_shared, slot_mut, temp_own, temp_shared, temp_mut}
use Rattle.law_words_paths.proofs.paths.Origins.{placed, Origin, of_thread, of_none, origin, Listed, in_slots, borrow_value, share_value, own_value}
use Rattle.law_words_paths.proofs.paths.Forms.{none_of, not_mutable}
use Rattle.law_words_paths.proofs.paths.Climbs.{one_location, climbs}
use Rattle.law_words_paths.proofs.paths.InState.{CellThing, it_lies, it_flies, holder_shown}

-- THREADS THAT HAVE SOMETHING GO ON

not_empty : {A : Type 0} (xs : List A) (i : ℕ) (v : A) → length xs ≡ 0 → slice_get xs i ≡ Some v → ⊥
not_empty [] i v z e = absurd cc
not_empty (x ∷ xs) i v z e = absurd (omega (arith, z))

slots_same : (t i u j : ℕ) → in_slot t i ≡ in_slot u j → at_slot t i ≡ at_slot u j
slots_same t i u j e = cc

temps_same : (t i u j : ℕ) → in_temp t i ≡ in_temp u j → at_temp t i ≡ at_temp u j
temps_same t i u j e = cc

slot_no_temp : (t i u j : ℕ) → in_slot t i ≡ in_temp u j → ⊥
slot_no_temp t i u j e = absurd cc

slot_is_no_temp : (t i u j : ℕ) → slot_k t i ≡ temp_k u j → ⊥
slot_is_no_temp t i u j e = absurd cc

module _ (k : Cluster) (c : HasPaths k) where
  abbrev st : Store
  st = heap_store k c.types

  bare : (x : Standing) → Among x (sight k).ground.threads → is_over x.thread.phase ≡ true → (length x.thread.slots ≡ 0) × (length x.thread.temps ≡ 0)
  bare x h over =
      let all = none_of (dressed (sight k)) x (sight k).ground.threads c.over_are_bare h in
      let here_it = sym (ap (λ b. if_so b (other (is_end (instr_of (sight k) x)) + length x.thread.slots + length x.thread.temps + one (is_some x.thread.gift))) over) ∙ all in
      (omega (arith, here_it), omega (arith, here_it))

  going : (x : Standing) → Among x (sight k).ground.threads → ((is_over x.thread.phase ≡ true) → ⊥) → GoesOn k x
  going x h f = record { among = h; going = by (is_over x.thread.phase) refl }
    where
      by : (b : Bool) → is_over x.thread.phase ≡ b → b ≡ false
      by true e = absurd (f e)
      by false e = refl

  with_slot : (x : Standing) (i : ℕ) (v : Value) → Among x (sight k).ground.threads → slice_get x.thread.slots i ≡ Some v → GoesOn k x
  with_slot x i v h e = going x h (λ over. not_empty x.thread.slots i v (bare x h over).0 e)

  with_temp : (x : Standing) (i : ℕ) (v : Value) → Among x (sight k).ground.threads → slice_get x.thread.temps i ≡ Some v → GoesOn k x
  with_temp x i v h e = going x h (λ over. not_empty x.thread.temps i v (bare x h over).1 e)

  -- where a thing of a thread stands: a slot or a temporary value
  pub record Stood (l : Location) (v : Value) : Type 0 where
    pub thread : Standing
    pub goes : GoesOn k thread
    pub number : ℕ
    pub at : ((l ≡ at_slot thread.thread.number number) × (slice_get thread.thread.slots number ≡ Some v)) ⊎ ((l ≡ at_temp thread.thread.number number) × (slice_get thread.thread.temps number ≡ Some v))

  stood_from : (y : Thing) (l : Location) (v : Value) → placed y ≡ 1 → Among y (things_of k)
      → ((s t i : ℕ) (w : Value) → Among y (slot_things s t i w) → (w ≡ v) × (l ≡ at_slot t i))
      → ((s t i : ℕ) (w : Value) → Among y (temp_things s t i w) → (w ≡ v) × (l ≡ at_temp t i))
      → Stood l v
  stood_from y l v one h slots temps = by (origin k y h)
    where
      in_slot_so : (x : Standing) → Among x (sight k).ground.threads → Listed (slot_things x.server x.thread.number) y 0 x.thread.slots → Stood l v
      in_slot_so x hx q =
          let r = slots x.server x.thread.number (0 + q.number) q.element q.among in
          let there : slice_get x.thread.slots q.number ≡ Some v = q.is ∙ ap Some r.0 in
          let number : 0 + q.number ≡ q.number = omega arith in
          record { thread = x; goes = with_slot x q.number v hx there; number = q.number; at = inl (r.1 ∙ ap (at_slot x.thread.number) number, there) }

      in_temp_so : (x : Standing) → Among x (sight k).ground.threads → Listed (temp_things x.server x.thread.number) y 0 x.thread.temps → Stood l v
      in_temp_so x hx q =
          let r = temps x.server x.thread.number (0 + q.number) q.element q.among in
          let there : slice_get x.thread.temps q.number ≡ Some v = q.is ∙ ap Some r.0 in
          let number : 0 + q.number ≡ q.number = omega arith in
          record { thread = x; goes = with_temp x q.number v hx there; number = q.number; at = inr (r.1 ∙ ap (at_temp x.thread.number) number, there) }

      by : Origin (things_of k) y → Stood l v
      by (of_none z) = absurd (omega (arith, one, z))
      by (of_thread x hx q) = ⊎_elim (λ (a : Listed (slot_things x.server x.thread.number) y 0 x.thread.slots). in_slot_so x hx a) (λ (b : Listed (temp_things x.server x.thread.number) y 0 x.thread.temps). in_temp_so x hx b) (in_slots x.server x.packed x.thread y one q)

  pub borrowed_at : (l : Location) (r : MutRef) → Among (borrows l r) (things_of k) → Stood l (value.Mut r)
  borrowed_at l r h =
      stood_from (borrows l r) l (value.Mut r) refl h (λ s t i w q. borrow_value s (in_slot t i) (at_slot t i) l r w q) (λ s t i w q. borrow_value s (in_temp t i) (at_temp t i) l r w q)

  pub shared_at : (l : Location) (r : SharedRef) → Among (shares l r) (things_of k) → Stood l (value.Shared r)
  shared_at l r h =
      stood_from (shares l r) l (value.Shared r) refl h (λ s t i w q. share_value s (in_slot t i) (at_slot t i) l r w q) (λ s t i w q. share_value s (in_temp t i) (at_temp t i) l r w q)

  slot_owned_at : (t i : ℕ) (o : Owned) → Among (holds (in_slot t i) o) (things_of k) → Stood (at_slot t i) (value.Own o)
  slot_owned_at t i o h =
      stood_from (holds (in_slot t i) o) (at_slot t i) (value.Own o) refl h
      (λ s u j w q. let r = own_value s (in_slot u j) (in_slot t i) (at_slot u j) o w q in (r.0, slots_same t i u j r.1))
      (λ s u j w q. let r = own_value s (in_temp u j) (in_slot t i) (at_temp u j) o w q in absurd (slot_no_temp t i u j r.1))

  temp_owned_at : (t i : ℕ) (o : Owned) → Among (holds (in_temp t i) o) (things_of k) → Stood (at_temp t i) (value.Own o)
  temp_owned_at t i o h =
      stood_from (holds (in_temp t i) o) (at_temp t i) (value.Own o) refl h
      (λ s u j w q. let r = own_value s (in_slot u j) (in_temp t i) (at_slot u j) o w q in absurd (slot_no_temp u j t i (sym r.1)))
      (λ s u j w q. let r = own_value s (in_temp u j) (in_temp t i) (at_temp u j) o w q in (r.0, temps_same t i u j r.1))

  -- IN THE STORE

  box_stood : (l : Location) (p : BoxPtr) → Stood l (value.Own (owned.Box p)) → PointsTo st p.object (in_store l)
  box_stood l p s = by s.at
    where
      by : ((l ≡ at_slot s.thread.thread.number s.number) × (slice_get s.thread.thread.slots s.number ≡ Some (value.Own (owned.Box p)))) ⊎ ((l ≡ at_temp s.thread.thread.number s.number) × (slice_get s.thread.thread.temps s.number ≡ Some (value.Own (owned.Box p)))) → PointsTo st p.object (in_store l)
      by (inl q) = its_box (ap (value_at st) (ap in_store q.0) ∙ ap Some (slot_own k c s.thread s.goes s.number (owned.Box p) q.1))
      by (inr q) = its_box (ap (value_at st) (ap in_store q.0) ∙ ap Some (temp_own k c s.thread s.goes s.number (owned.Box p) q.1))

  mutable_stood : (l : Location) (r : MutRef) → Stood l (value.Mut r) → PointsTo st r.object (in_store l)
  mutable_stood l r s = by s.at
    where
      by : ((l ≡ at_slot s.thread.thread.number s.number) × (slice_get s.thread.thread.slots s.number ≡ Some (value.Mut r))) ⊎ ((l ≡ at_temp s.thread.thread.number s.number) × (slice_get s.thread.thread.temps s.number ≡ Some (value.Mut r))) → PointsTo st r.object (in_store l)
      by (inl q) = subst (PointsTo st r.object) (sym (ap in_store q.0)) (a_reference (slot_mut k c s.thread s.goes s.number r q.1))
      by (inr q) = subst (PointsTo st r.object) (sym (ap in_store q.0)) (a_reference (temp_mut k c s.thread s.goes s.number r q.1))

  -- the box of an object of the one heap that a cell has
  cell_points : (cell : Cell) (y : Thing) (p : BoxPtr) → CellThing cell y → Among y (things_of k) → cell.value ≡ owned.Box p → is_in_state (sight k) (object_n p.object) ≡ true → PointsTo st p.object (at_object cell.object)
  cell_points cell y p it h e is =
      let one_box : boxes p.object cell.value ≡ 1 = ap (boxes p.object) e ∙ ap one (itself p.object p.object refl) in
      let shown = holder_shown k c p.object cell y it h (omega (arith, one_box)) is in
      its_box (ap (seen_cell c.types.typing.gives) (shown ∙ ap (λ v. Some (plain_of v)) e))

  -- A POINTER THAT STANDS SOMEWHERE

  record OfThing (p : Pointer) (b : List Thing) : Type 0 where
    thing : Thing
    among : Among thing b
    pointer : Among p (pointers_of thing)

  of_thing : (p : Pointer) (b : List Thing) → Among p (pointers_in b) → OfThing p b
  of_thing p [] h = absurd h
  of_thing p (x ∷ b) h =
      ⊎_elim (λ (l : Among p (pointers_of x)). record { thing = x; among = inl refl; pointer = l }) (λ (r : Among p (pointers_in b)). let q = of_thing p b r in record { thing = q.thing; among = inr q.among; pointer = q.pointer })
      (among_split p (pointers_of x) (pointers_in b) h)

  pointed_as : (p : Pointer) (l m : Location) (at : Option Location) (o : ObjNo) → at ≡ p.at → p.at ≡ Some l → at ≡ Some m → o ≡ p.object → PointsTo st o (in_store m) → PointsTo st p.object (in_store l)
  pointed_as p l m at o e f g q h = subst (λ z. PointsTo st z (in_store l)) q (subst (λ z. PointsTo st o (in_store z)) (some_is (sym g ∙ e ∙ f)) h)

  no_place : {A : Type 0} (p : Pointer) (l : Location) → None ≡ p.at → p.at ≡ Some l → A
  no_place p l e f = let q : None ≡ Some l = e ∙ f in absurd cc

  -- the box of a cell's value
  cell_pointer : (cell : Cell) (y : Thing) (p : Pointer) (l : Location) (v : Owned) → CellThing cell y → Among y (things_of k) → cell.value ≡ v → Among p (pointer_in (Some (in_cell cell.object)) v) → p.at ≡ Some l
      → is_in_state (sight k) (object_n p.object) ≡ true → PointsTo st p.object (in_store l)
  cell_pointer cell y p l (owned.Box b) it h e (inl q) f is =
      let same : b.object ≡ p.object = ap (λ (z : Pointer). z.object) q in
      pointed_as p l (in_cell cell.object) (Some (in_cell cell.object)) b.object (ap (λ (z : Pointer). z.at) q) f refl same (cell_points cell y b it h e (ap (λ z. is_in_state (sight k) (object_n z)) same ∙ is))
  cell_pointer cell y p l (owned.Box b) it h e (inr q) f is = absurd q
  cell_pointer cell y p l _ it h e q f is = absurd q

  held_pointer : (spot : Spot) (v : Owned) (p : Pointer) (l : Location) → Among (holds spot v) (things_of k) → Among p (pointer_in (location_of spot) v) → p.at ≡ Some l → PointsTo st p.object (in_store l)
  held_pointer (in_slot t i) (owned.Box b) p l h (inl q) f =
      pointed_as p l (at_slot t i) (Some (at_slot t i)) b.object (ap (λ (z : Pointer). z.at) q) f refl (ap (λ (z : Pointer). z.object) q) (box_stood (at_slot t i) b (slot_owned_at t i (owned.Box b) h))
  held_pointer (in_temp t i) (owned.Box b) p l h (inl q) f =
      pointed_as p l (at_temp t i) (Some (at_temp t i)) b.object (ap (λ (z : Pointer). z.at) q) f refl (ap (λ (z : Pointer). z.object) q) (box_stood (at_temp t i) b (temp_owned_at t i (owned.Box b) h))
  held_pointer _ (owned.Box b) p l h (inl q) f = no_place p l (ap (λ (z : Pointer). z.at) q) f
  held_pointer spot (owned.Box b) p l h (inr q) f = absurd q
  held_pointer spot _ p l h q f = absurd q

  dropped_nowhere : (m : Message) (p : Pointer) (l : Location) → Among p (dropped_pointer m) → p.at ≡ Some l → ⊥
  dropped_nowhere (Drop w o) p l (inl q) f = no_place p l (ap (λ (z : Pointer). z.at) q) f
  dropped_nowhere (Drop w o) p l (inr q) f = q
  dropped_nowhere _ p l q f = q

  points_of : (y : Thing) (p : Pointer) (l : Location) → Among y (things_of k) → Among p (pointers_of y) → p.at ≡ Some l → is_in_state (sight k) (object_n p.object) ≡ true → PointsTo st p.object (in_store l)
  points_of (holds spot v) p l h q f is = held_pointer spot v p l h q f
  points_of (shares m r) p l h (inl q) f is = no_place p l (ap (λ (z : Pointer). z.at) q) f
  points_of (shares m r) p l h (inr q) f is = absurd q
  points_of (borrows m r) p l h (inl q) f is =
      pointed_as p l m (Some m) r.object (ap (λ (z : Pointer). z.at) q) f refl (ap (λ (z : Pointer). z.object) q) (mutable_stood m r (borrowed_at m r h))
  points_of (borrows m r) p l h (inr q) f is = absurd q
  points_of (lies r a cell) p l h q f is = cell_pointer cell (lies r a cell) p l cell.value (it_lies r a) h refl q f is
  points_of (flies w cell) p l h (inl q) f is = no_place p l (ap (λ (z : Pointer). z.at) q) f
  points_of (flies w cell) p l h (inr q) f is = cell_pointer cell (flies w cell) p l cell.value (it_flies w) h refl q f is
  points_of (sent t m) p l h q f is = absurd (dropped_nowhere m p l q f)
  points_of _ p l h q f is = absurd q

  in_state_of : (o : ObjNo) (v : Val) → st.heap o ≡ Some v → is_in_state (sight k) (object_n o) ≡ true
  in_state_of o v e = by (is_in_state (sight k) (object_n o)) refl
    where
      by : (b : Bool) → is_in_state (sight k) (object_n o) ≡ b → b ≡ true
      by true q = refl
      by false q =
          let none : object_value (sight k) o ≡ None = ap (λ b. if_in b (first_shown (cell_value o) (things_of k))) q in
          let z : None ≡ Some v = sym (ap (seen_cell c.types.typing.gives) none) ∙ e in
          absurd cc

  pub pointed_at : (p : Pointer) (l : Location) (o : ObjNo) (v : Val) → Among p (pointers_in (things_of k)) → p.object ≡ o → p.at ≡ Some l → st.heap o ≡ Some v → PointsTo st o (in_store l)
  pointed_at p l o v h e f there =
      let q = of_thing p (things_of k) h in
      subst (λ z. PointsTo st z (in_store l)) e (points_of q.thing p l q.among q.pointer f (ap (λ z. is_in_state (sight k) (object_n z)) e ∙ in_state_of o v there))

  -- no type names a temporary value
  pub temp_unnamed : (t i : ℕ) → Unnamed c.types.typing.exact (temp_k t i)
  temp_unnamed t i j m u is e = let n = c.types.state.near j m u is in slot_is_no_temp n.owner n.slot t i (sym n.is ∙ e)

  -- WHAT A THREAD WRITES

  module _ (x : Standing) (w : Lval) (h : Location) (o : ObjNo) (g : GoesOn k x) (may : MayWrite k c.types x w) (hop : LastHop (sight k).ground x.thread.number w h o) where
    abbrev key : Key
    key = slot_k x.thread.number w.slot

    pointer_walk : walk st hop.stars (at_key key) ≡ Some (in_store h)
    pointer_walk = (leads_in_heap k c x g w.slot hop.stars h hop.pointer).0

    object_walk : walk st (suc hop.stars) (at_key key) ≡ Some (at_object o)
    object_walk = sym (ap (λ z. walk st z (at_key key)) hop.last) ∙ (leads_in_heap k c x g w.slot w.depth (in_cell o) hop.leads).0

    resolved : Resolves c.types.typing.exact true key (suc hop.stars) may.base may.boxes may.type
    resolved = subst (λ z. Resolves c.types.typing.exact true key z may.base may.boxes may.type) hop.last may.resolves

    star_there : star_hop st (in_store h) ≡ Some (at_object o)
    star_there = sym (walk_last st hop.stars (at_key key) (in_store h) pointer_walk) ∙ object_walk

    clear_there : (j : ℕ) → h ≡ at_slot x.thread.number j → IsUnmarked x j
    clear_there =
        let q = leads_in_cluster k c x g w.slot hop.stars (in_store h) may.unmarked pointer_walk in
        let same : q.0 ≡ h = some_is (sym q.1 ∙ hop.pointer) in
        subst (λ z. (j : ℕ) → z ≡ at_slot x.thread.number j → IsUnmarked x j) same q.2

    object_there : (v : Val) × (st.heap o ≡ Some v)
    object_there = heap_of_shown k c x g o ((leads_in_heap k c x g w.slot w.depth (in_cell o) hop.leads).1)

    sole_above : (p : Pointer) (l : Location) → Among p (pointers_in (things_of k)) → p.object ≡ o → p.at ≡ Some l → (l ≡ h) ⊎ Above (sight k).ground l h
    sole_above p l among e f =
        ⊎_elim (λ (q : in_store l ≡ in_store h). inl (one_location l h q))
        (λ (q : StandsAbove c.types.typing.exact st (in_store l) (in_store h)). inr (climbs k c x g l (in_store l) h (in_store h) o ((leads_in_heap k c x g w.slot hop.stars h hop.pointer).1) clear_there refl star_there refl q))
        (sole_pointer c.types.typing.rank c.types.typing.exact st key hop.stars may.base may.boxes may.type (in_store h) (in_store l) o c.types.state.typed may.free resolved pointer_walk object_walk
        (pointed_at p l o object_there.0 among e f object_there.1))

    -- no shared reference leads there
    no_shared : (l : Location) (r : SharedRef) → Among (shares l r) (things_of k) → r.object ≡ o → ⊥
    no_shared l r among e = by s.at
      where
        s : Stood l (value.Shared r)
        s = shared_at l r among

        by : ((l ≡ at_slot s.thread.thread.number s.number) × (slice_get s.thread.thread.slots s.number ≡ Some (value.Shared r))) ⊎ ((l ≡ at_temp s.thread.thread.number s.number) × (slice_get s.thread.thread.temps s.number ≡ Some (value.Shared r))) → ⊥
        by (inl q) =
            let at = slot_shared k c s.thread s.goes s.number r q.1 ∙ ap (λ z. ref_v (at_object z)) e in
            let m = sole_mutable c.types.typing.rank c.types.typing.exact st key hop.stars may.base may.boxes may.type (in_store h) (slot_k s.thread.thread.number s.number) o c.types.state.typed may.free resolved pointer_walk object_walk at in
            not_mutable k c s.thread s.goes s.number r m.0 q.1 m.1
        by (inr q) =
            let at = temp_shared k c s.thread s.goes s.number r q.1 ∙ ap (λ z. ref_v (at_object z)) e in
            let same = sole_named c.types.typing.rank c.types.typing.exact st key hop.stars may.base may.boxes may.type (temp_k s.thread.thread.number s.number) o c.types.state.typed may.free resolved object_walk at (temp_unnamed s.thread.thread.number s.number) in
            slot_is_no_temp x.thread.number w.slot s.thread.thread.number s.number (sym same)

-- EACH POINTER TO WHAT A THREAD MAY WRITE IS THE ONE THAT IT FOLLOWS LAST, OR STANDS ABOVE IT
pub sole_pointers : SolePointers
sole_pointers = record {
  above = λ k c x w h o g may hop p l among e f. sole_above k c x w h o g may hop p l among e f;
  unshared = λ k c x w h o g may hop l r among e. no_shared k c x w h o g may hop l r among e;
}
