-- The boxes that lead from a slot of a thread down to an object that its place leads to: each of these objects is owned by the slot or by the one before it.
use Rattle.std.proofs.Common.{◌≡◌, inl, inr, ℕ, zero, suc, ◌≤◌, ◌||◌, Bool, true, false, List, [], ◌∷◌, Option, Some, None, refl, sym, ap, subst, ◌∙◌, arith}
use Rattle.std.specs.Prelude.{slice_get}
use Rattle.law_heap_writes.specs.Below.fr_base.declared.name.MutexNo.{MutexNo}
use Rattle.law_heap_writes.specs.Below.fr_base.declared.name.ObjNo.{ObjNo}
use Rattle.law_heap_writes.proofs.Below.fr_store.Keys.{object_cases}
use Rattle.law_heap_writes.specs.Below.fr_store.Keys.{Key, slot_k}
use Rattle.law_heap_writes.specs.Below.fr_store.Store.{Location as StoreLocation, at_key, at_object, Val, gone_v, unit_v, int_v, box_v, mutex_v, task_v, ref_v, Store, value_at, box_target, box_hop, then_location, below_key}
use Rattle.law_heap_writes.specs.Below.fr_sound.Seen.{Gives as Given, owned_val}
use Rattle.law_heap_writes.specs.Below.heap_partition.Plain.{plain_of}
use Rattle.law_heap_writes.specs.Below.heap_partition.declared.value.BoxPtr.{BoxPtr}
use Rattle.law_heap_writes.specs.Below.heap_partition.declared.value.Cell.{Cell}
use Rattle.law_heap_writes.specs.Below.heap_partition.declared.value.Owned.{Owned}
use Rattle.law_heap_writes.specs.Below.heap_partition.declared.value.Owned.TheVariants as owned
use Rattle.law_heap_writes.specs.Below.thread_state.declared.value.Value.{Value}
use Rattle.law_heap_writes.specs.Below.thread_state.declared.value.Value.TheVariants as value
use Rattle.law_heap_writes.specs.Below.server_model.Servers.{Cluster}
use Rattle.law_heap_writes.specs.Below.coherent_memory.Names.{tot, one, if_so, same_object, Among}
use Rattle.law_heap_writes.specs.Below.coherent_memory.Things.{Thing, things_of}
use Rattle.law_heap_writes.specs.Below.coherent_memory.Follow.{Standing, cell_of}
use Rattle.law_heap_writes.specs.Below.coherent_memory.Sight.{sight}
use Rattle.law_heap_writes.specs.Below.coherent_memory.OneHeap.{Node, object_n, inside, owns}
use Rattle.law_heap_writes.specs.Below.law_words_paths.paths.HeapStore.{heap_store, GoesOn, HasPaths}
use Rattle.law_heap_writes.proofs.Below.law_words_paths.paths.Alike.{slot_none, slot_gone, slot_own, slot_shared_slot, slot_mut_slot, slot_shared, slot_mut, cell_there}
use Rattle.law_heap_writes.proofs.Below.law_words_paths.paths.Shown.{shown_value, is_running}
use Rattle.law_words_writes.proofs.Below.law_words_paths.words.Standing.{CellOf, lying, flying, cell_among}
use Rattle.law_heap_writes.proofs.Below.law_heap_steps.turns.Parts.{owned_in}
use Rattle.law_heap_writes.proofs.Below.law_heap_steps.mutexes.Places.{slot_owned}
use Rattle.law_heap_writes.proofs.Below.law_heap_steps.mutexes.Reach.{or_left, or_right}
use Rattle.law_heap_writes.proofs.drops.Under.{owned_by, under_names, node_itself}
use Rattle.law_heap_writes.proofs.writes.CellChange.{itself}

-- from these slots, over these cells, down to the object: the objects on the way, the last one first
pub data Chain (slots : List Value) (C : ObjNo → Option Cell) : ObjNo → List ObjNo → Type 0 where
  in_slot : (j : ℕ) (b : BoxPtr) → slice_get slots j ≡ Some (value.Own (owned.Box b)) → Chain slots C b.object (b.object ∷ [])
  in_cell : {p : ObjNo} {xs : List ObjNo} (c : Cell) (b : BoxPtr) → Chain slots C p xs → C p ≡ Some c → c.value ≡ owned.Box b → Chain slots C b.object (b.object ∷ xs)

-- it is one of these
abbrev pub on_chain : List ObjNo → Node → Bool
on_chain [] q = false
on_chain (p ∷ xs) (object_n o) = same_object p o || on_chain xs (object_n o)
on_chain (p ∷ xs) q = false

some_val : {a b : Val} → Some a ≡ Some b → a ≡ b
some_val e = cc

-- what is seen as a box is one
box_seen : (g : Given) (v : Owned) (o : ObjNo) → owned_val g (plain_of v) ≡ box_v o → (b : BoxPtr) × (v ≡ owned.Box b) × (b.object ≡ o)
box_seen g (owned.Box b) o e = (b, refl, cc)
box_seen g owned.Nothing o e = absurd (cc e)
box_seen g owned.Unit o e = absurd (cc e)
box_seen g (owned.Int i) o e = absurd (cc e)
box_seen g (owned.Mutex m) o e = absurd (cc e)
box_seen g (owned.Task t) o e = absurd (cc e)

-- what leads one box down
target_is : (v : Option Val) (l : StoreLocation) → box_target v ≡ Some l → (o : ObjNo) × (v ≡ Some (box_v o)) × (l ≡ at_object o)
target_is (Some (box_v o)) l e = (o, refl, cc)
target_is None l e = absurd (cc e)
target_is (Some gone_v) l e = absurd (cc e)
target_is (Some unit_v) l e = absurd (cc e)
target_is (Some (int_v i)) l e = absurd (cc e)
target_is (Some (mutex_v m t)) l e = absurd (cc e)
target_is (Some (task_v m t)) l e = absurd (cc e)
target_is (Some (ref_v m)) l e = absurd (cc e)

module _ (k : Cluster) (c : HasPaths k) (x : Standing) (g : GoesOn k x) where
  abbrev st : Store
  st = heap_store k c.types

  abbrev slots : List Value
  slots = x.thread.slots

  abbrev C : ObjNo → Option Cell
  C = cell_of (sight k).ground.cells

  held_mark : (i : ℕ) (m : MutexNo) → slice_get slots i ≡ Some (value.Held m) → st.at (slot_k x.thread.number i) ≡ ref_v (c.types.typing.marks x.thread.number i)
  held_mark i m e = rw (is_running k c x g) (rw (shown_value slots i) (rw e refl))

  -- a slot that is seen as a box has one
  slot_box : (i : ℕ) (o : ObjNo) → st.at (slot_k x.thread.number i) ≡ box_v o → (b : BoxPtr) × (slice_get slots i ≡ Some (value.Own (owned.Box b))) × (b.object ≡ o)
  slot_box i o e = by (slice_get slots i) refl
    where
      by : (v : Option Value) → slice_get slots i ≡ v → (b : BoxPtr) × (slice_get slots i ≡ Some (value.Own (owned.Box b))) × (b.object ≡ o)
      by None f = absurd (cc (sym (slot_none k c x g i f) ∙ e))
      by (Some value.Gone) f = absurd (cc (sym (slot_gone k c x g i f) ∙ e))
      by (Some (value.Own v)) f = let b = box_seen c.types.typing.gives v o (sym (slot_own k c x g i v f) ∙ e) in (b.0, f ∙ ap (λ z. Some (value.Own z)) b.1, b.2)
      by (Some (value.SharedSlot j)) f = absurd (cc (sym (slot_shared_slot k c x g i j f) ∙ e))
      by (Some (value.MutSlot j)) f = absurd (cc (sym (slot_mut_slot k c x g i j f) ∙ e))
      by (Some (value.Shared r)) f = absurd (cc (sym (slot_shared k c x g i r f) ∙ e))
      by (Some (value.Mut r)) f = absurd (cc (sym (slot_mut k c x g i r f) ∙ e))
      by (Some (value.Held m)) f = absurd (cc (sym (held_mark i m f) ∙ e))

  abbrev ChainTo : StoreLocation → Type 0
  ChainTo l = (o : ObjNo) × (l ≡ at_object o) × ((xs : List ObjNo) × Chain slots C o xs)

  first_chain : (i : ℕ) (l : StoreLocation) → box_hop st (at_key (slot_k x.thread.number i)) ≡ Some l → ChainTo l
  first_chain i l e =
      let o = target_is (value_at st (at_key (slot_k x.thread.number i))) l e in
      let b = slot_box i o.0 (some_val o.1) in
      (b.0.object, o.2 ∙ ap (λ z. at_object z) (sym b.2), (b.0.object ∷ [], in_slot i b.0 b.1))

  next_chain : (p : ObjNo) (xs : List ObjNo) (l : StoreLocation) → Chain slots C p xs → box_hop st (at_object p) ≡ Some l → ChainTo l
  next_chain p xs l chain e =
      let o = target_is (value_at st (at_object p)) l e in
      let d = cell_there k c x g p (box_v o.0) o.1 in
      let b = box_seen c.types.typing.gives d.0.value o.0 (sym d.2) in
      (b.0.object, o.2 ∙ ap (λ z. at_object z) (sym b.2), (b.0.object ∷ xs, in_cell d.0 b.0 chain d.1 b.1))

  chain_below : (i m : ℕ) (l : StoreLocation) → below_key st (slot_k x.thread.number i) (suc m) ≡ Some l → ChainTo l
  chain_below i zero l e = first_chain i l e
  chain_below i (suc m) l e = by (below_key st (slot_k x.thread.number i) (suc m)) refl e (λ l2 f. chain_below i m l2 f)
    where
      by : (o : Option StoreLocation) → below_key st (slot_k x.thread.number i) (suc m) ≡ o → then_location o (box_hop st) ≡ Some l → ((l2 : StoreLocation) → below_key st (slot_k x.thread.number i) (suc m) ≡ Some l2 → ChainTo l2) → ChainTo l
      by None f h go = absurd (cc h)
      by (Some l2) f h go = let r = go l2 f in next_chain r.0 r.2.0 l r.2.1 (subst (λ z. box_hop st z ≡ Some l) r.1 h)

  same_object_at : {o p : ObjNo} → at_object o ≡ at_object p → p ≡ o
  same_object_at e = cc

  no_key : {q : Key} {o : ObjNo} → Some (at_key q) ≡ Some (at_object o) → ⊥
  no_key e = absurd (cc e)

  pub chain_to : (i m : ℕ) (o : ObjNo) → below_key st (slot_k x.thread.number i) m ≡ Some (at_object o) → (xs : List ObjNo) × Chain slots C o xs
  chain_to i zero o e = absurd (no_key e)
  chain_to i (suc m) o e = let r = chain_below i m (at_object o) e in (r.2.0, subst (λ z. Chain slots C z r.2.0) (same_object_at r.1) r.2.1)

  -- WHO OWNS WHAT IS ON IT

  pub ends_on : (o : ObjNo) (xs : List ObjNo) → Chain slots C o xs → on_chain xs (object_n o) ≡ true
  ends_on _ _ (in_slot j b e) = or_left (same_object b.object b.object) false (itself b.object)
  ends_on _ _ (in_cell {p} {xs} d b chain e f) = or_left (same_object b.object b.object) (on_chain xs (object_n b.object)) (itself b.object)

  -- the slot, or the cell of another one that is on it
  pub data Owned_by (xs : List ObjNo) (o : ObjNo) : Type 0 where
    by_slot : 1 ≤ owned_in (object_n o) slots → Owned_by xs o
    by_cell : (p : ObjNo) → on_chain xs (object_n p) ≡ true → 1 ≤ tot (under_names (sight k) (object_n p) (object_n o)) (things_of k) → Owned_by xs o

  among_counts : (f : Thing → ℕ) (th : Thing) (ys : List Thing) → Among th ys → f th ≤ tot f ys
  among_counts f th [] h = absurd h
  among_counts f th (u ∷ ys) (inl e) = omega (arith, ap f e)
  among_counts f th (u ∷ ys) (inr h) = omega (arith, among_counts f th ys h)

  pub cell_names : (p : ObjNo) (d : Cell) (b : BoxPtr) → C p ≡ Some d → d.value ≡ owned.Box b → 1 ≤ tot (under_names (sight k) (object_n p) (object_n b.object)) (things_of k)
  cell_names p d b e f =
      let j = cell_among p d (things_of k) e in
      let l = among_counts (under_names (sight k) (object_n p) (object_n b.object)) j.thing (things_of k) j.among in
      omega (arith, l, by d j.thing j.is j.object f)
    where
      it : (d : Cell) → d.object ≡ p → d.value ≡ owned.Box b → if_so (owns (object_n b.object) d.value) (one (owned_by (object_n p) (inside (object_n d.object)))) ≡ 1
      it d o v =
          ap (λ z. if_so (owns (object_n b.object) z) (one (owned_by (object_n p) (inside (object_n d.object))))) v ∙ ap (λ z. if_so z (one (owned_by (object_n p) (inside (object_n d.object))))) (itself b.object)
          ∙ ap (λ z. one (owned_by (object_n p) (inside (object_n z)))) o ∙ ap one (node_itself (object_n p))

      by : (d : Cell) (th : Thing) → CellOf d th → d.object ≡ p → d.value ≡ owned.Box b → under_names (sight k) (object_n p) (object_n b.object) th ≡ 1
      by d _ (lying r a) o v = it d o v
      by d _ (flying w) o v = it d o v

  more_on : (p : ObjNo) (xs : List ObjNo) (o : ObjNo) → Owned_by xs o → Owned_by (p ∷ xs) o
  more_on p xs o (by_slot l) = by_slot l
  more_on p xs o (by_cell r h l) = by_cell r (or_right (same_object p r) (on_chain xs (object_n r)) h) l

  pub owned_on : (o : ObjNo) (xs : List ObjNo) → Chain slots C o xs → (q : ObjNo) → on_chain xs (object_n q) ≡ true → Owned_by xs q
  owned_on _ _ (in_slot j b e) q h =
      object_cases (λ z. z || false ≡ true → Owned_by (b.object ∷ []) q) b.object q
      (λ f _. by_slot (let l = slot_owned (object_n q) slots j (value.Own (owned.Box b)) e in omega (arith, l, ap one (ap (same_object b.object) (sym f) ∙ itself b.object)))) (λ _ z. absurd (cc z)) h
  owned_on _ _ (in_cell {p} {xs} d b chain e f) q h =
      object_cases (λ z. z || on_chain xs (object_n q) ≡ true → Owned_by (b.object ∷ xs) q) b.object q
      (λ g2 _. subst (Owned_by (b.object ∷ xs)) g2 (by_cell p (or_right (same_object b.object p) (on_chain xs (object_n p)) (ends_on p xs chain)) (cell_names p d b e f)))
      (λ _ z. more_on b.object xs q (owned_on p xs chain q z)) h
