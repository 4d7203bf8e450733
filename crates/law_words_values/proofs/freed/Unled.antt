-- An object whose `drop` is there has this message as its one owner, so it isn't in the one heap, and nothing leads to it.
use Rattle.std.proofs.Common.{◌≡◌, ◌⊎◌, inl, inr, ◌≤◌, ℕ, zero, suc, Bool, false, length, Option, Some, None, refl, sym, ap, subst, ◌∙◌, arith}
use Rattle.std.specs.Prelude.{slice_get}
use Rattle.law_results_reads.specs.Below.fr_base.declared.label.Plain.{Plain}
use Rattle.law_results_reads.specs.Below.fr_base.declared.name.ObjNo.{ObjNo}
use Rattle.law_results_reads.specs.Below.fr_sound.Seen.{seen_cell}
use Rattle.law_results_reads.specs.Below.fr_store.Keys.{Key, slot_k, temp_k}
use Rattle.law_results_reads.specs.Below.fr_store.Store.{Store, Val, at_object, ref_v}
use Rattle.law_results_reads.specs.Below.heap_partition.declared.value.Cell.{Cell}
use Rattle.law_results_reads.specs.Below.heap_partition.declared.value.Owned.{Owned}
use Rattle.law_results_reads.specs.Below.heap_partition.declared.value.Owned.TheVariants as owned
use Rattle.law_results_reads.specs.Below.mut_borrow.declared.mutable.MutRef.{MutRef}
use Rattle.law_results_reads.specs.Below.mut_borrow.declared.shared.SharedRef.{SharedRef}
use Rattle.law_results_reads.specs.Below.thread_state.declared.value.Value.{Value}
use Rattle.law_results_reads.specs.Below.thread_state.declared.value.Value.TheVariants as value
use Rattle.law_results_reads.specs.Below.server_model.Servers.{Cluster}
use Rattle.law_results_reads.specs.Below.server_msgs.declared.message.Message.TheVariants.{Drop}
use Rattle.law_results_reads.specs.Below.coherent_memory.Names.{Among, tot, one, some, boxes}
use Rattle.law_results_reads.specs.Below.coherent_memory.Things.{Location, at_slot, at_temp, in_cell, Thing, holds, shares, borrows, lies, flies, sent, things_of}
use Rattle.law_results_reads.specs.Below.coherent_memory.Follow.{Standing, Ground, cell_of, value_of, value_in, leads}
use Rattle.law_results_reads.specs.Below.coherent_memory.Sight.{Pointer, pointer_in, location_of, pointers_of, pointers_in, sight}
use Rattle.law_results_reads.specs.Below.coherent_memory.Weights.{owners}
use Rattle.law_results_reads.specs.Below.coherent_memory.OneHeap.{object_n, owns, names, if_in, is_in_state, object_value, first_shown, cell_value}
use Rattle.law_results_reads.proofs.Below.coherent_memory.Words.{itself}
use Rattle.law_results_reads.specs.Below.coherent_types.ClusterTypes.{IsCoherent}
use Rattle.law_results_reads.specs.Below.law_words_paths.paths.HeapStore.{heap_store, GoesOn, HasPaths}
use Rattle.law_results_reads.proofs.Below.law_words_paths.paths.Alike.{there_of, slot_shared, slot_mut, temp_shared, temp_mut, coherent_has_paths}
use Rattle.law_results_reads.proofs.Below.law_words_paths.paths.InState.{only_one}
use Rattle.law_results_reads.proofs.Below.law_words_paths.paths.Pointers.{Stood, borrowed_at, shared_at}
use Rattle.law_results_reads.proofs.Flights.{weighs}
use Rattle.law_heap_still.specs.events.Shows.{is_named}
use Rattle.law_heap_still.proofs.events.Counting.{unnamed_out}
use Rattle.law_words_values.proofs.Below.law_words_paths.words.Standing.{of_thing, told, slot_among, temp_among}
use Rattle.law_words_values.proofs.freed.Lists.{NoneLeads}

module _ (k : Cluster) (coherent : IsCoherent k) (o : ObjNo) (n w : ℕ) (there : Among (sent n (Drop w o)) (things_of k)) where
  paths : HasPaths k
  paths = coherent_has_paths k coherent

  abbrev st : Store
  st = heap_store k paths.types

  abbrev g : Ground
  g = (sight k).ground

  -- ITS ONE OWNER

  one_owner : tot (owners o) (things_of k) ≤ 1
  one_owner = let a = coherent.sound.one_owner.owner_of_each o in let h = coherent.sound.one_home.home_of_each o in omega (arith, a, h)

  mine : 1 ≤ owners o (sent n (Drop w o))
  mine = subst (λ b. 1 ≤ one b) (sym (itself o o refl)) (omega arith)

  message_is : (y : Thing) → Among y (things_of k) → 1 ≤ owners o y → sent n (Drop w o) ≡ y
  message_is y h l = only_one (owners o) (sent n (Drop w o)) y (things_of k) one_owner there h mine l

  boxed : (v : Owned) → 1 ≤ one (owns (object_n o) v) → 1 ≤ boxes o v
  boxed (owned.Box p) l = l
  boxed owned.Nothing l = absurd (omega (arith, l))
  boxed owned.Unit l = absurd (omega (arith, l))
  boxed (owned.Int i) l = absurd (omega (arith, l))
  boxed (owned.Mutex m) l = absurd (omega (arith, l))
  boxed (owned.Task t) l = absurd (omega (arith, l))

  -- so nothing names it
  nobody : (y : Thing) → Among y (things_of k) → 1 ≤ one (names (object_n o) y) → ⊥
  nobody (holds p v) h l = let e = message_is (holds p v) h (boxed v l) in absurd (cc e)
  nobody (lies r a c) h l = let e = message_is (lies r a c) h (boxed c.value l) in absurd (cc e)
  nobody (flies v c) h l = let e = message_is (flies v c) h (boxed c.value l) in absurd (cc e)
  nobody _ h l = absurd (omega (arith, l))

  unnamed : is_named (sight k) (object_n o) ≡ false
  unnamed = by (tot (λ x. one (names (object_n o) x)) (things_of k)) refl
    where
      by : (m : ℕ) → tot (λ x. one (names (object_n o) x)) (things_of k) ≡ m → some m ≡ false
      by zero e = refl
      by (suc m) e = let y = weighs (λ x. one (names (object_n o) x)) (things_of k) (omega (arith, e)) in absurd (nobody y.0 y.1 y.2)

  -- IT ISN'T IN THE ONE HEAP

  not_in_heap : (v : Val) → st.heap o ≡ Some v → ⊥
  not_in_heap v e = by (object_value (sight k) o) out e
    where
      nothing : (q : Bool) → q ≡ false → if_in q (first_shown (cell_value o) (sight k).things) ≡ None
      nothing q f = ap (λ b. if_in b (first_shown (cell_value o) (sight k).things)) f

      out : object_value (sight k) o ≡ None
      out = nothing (is_in_state (sight k) (object_n o)) (unnamed_out (sight k) (length (sight k).things) (object_n o) unnamed)

      by : (p : Option Plain) → p ≡ None → seen_cell paths.types.typing.gives p ≡ Some v → ⊥
      by None f q = absurd (cc q)
      by (Some x) f q = absurd (cc f)

  -- NOTHING LEADS TO IT

  referred : (x : Standing) → GoesOn k x → (key : Key) (r : ObjNo) → r ≡ o → st.at key ≡ ref_v (at_object r) → ⊥
  referred x go key r e at =
      let t = there_of paths.types.typing.rank paths.types.typing.exact st paths.types.state.typed key (at_object r) at in
      not_in_heap t.0 (subst (λ q. st.heap q ≡ Some t.0) e t.1)

  shared_none : (l : Location) (r : SharedRef) → Among (shares l r) (things_of k) → r.object ≡ o → ⊥
  shared_none l r h e = by s.at
    where
      s : Stood k paths l (value.Shared r)
      s = shared_at k paths l r h

      by : ((l ≡ at_slot s.thread.thread.number s.number) × (slice_get s.thread.thread.slots s.number ≡ Some (value.Shared r))) ⊎ ((l ≡ at_temp s.thread.thread.number s.number) × (slice_get s.thread.thread.temps s.number ≡ Some (value.Shared r))) → ⊥
      by (inl q) = referred s.thread s.goes (slot_k s.thread.thread.number s.number) r.object e (slot_shared k paths s.thread s.goes s.number r q.1)
      by (inr q) = referred s.thread s.goes (temp_k s.thread.thread.number s.number) r.object e (temp_shared k paths s.thread s.goes s.number r q.1)

  lent_none : (l : Location) (r : MutRef) → Among (borrows l r) (things_of k) → r.object ≡ o → ⊥
  lent_none l r h e = by s.at
    where
      s : Stood k paths l (value.Mut r)
      s = borrowed_at k paths l r h

      by : ((l ≡ at_slot s.thread.thread.number s.number) × (slice_get s.thread.thread.slots s.number ≡ Some (value.Mut r))) ⊎ ((l ≡ at_temp s.thread.thread.number s.number) × (slice_get s.thread.thread.temps s.number ≡ Some (value.Mut r))) → ⊥
      by (inl q) = referred s.thread s.goes (slot_k s.thread.thread.number s.number) r.object e (slot_mut k paths s.thread s.goes s.number r q.1)
      by (inr q) = referred s.thread s.goes (temp_k s.thread.thread.number s.number) r.object e (temp_mut k paths s.thread s.goes s.number r q.1)

  -- a pointer of what is owned
  owned_is : (l : Option Location) (v : Owned) (p : Pointer) → Among p (pointer_in l v) → p.object ≡ o → 1 ≤ one (owns (object_n o) v)
  owned_is l (owned.Box b) p (inl q) e = subst (λ x. 1 ≤ one x) (sym (itself b.object o (ap (λ (x : Pointer). x.object) q ∙ e))) (omega arith)
  owned_is l (owned.Box b) p (inr h) e = absurd h
  owned_is l owned.Nothing p h e = absurd h
  owned_is l owned.Unit p h e = absurd h
  owned_is l (owned.Int i) p h e = absurd h
  owned_is l (owned.Mutex m) p h e = absurd h
  owned_is l (owned.Task u) p h e = absurd h

  -- no pointer at a location is to it
  placed_none : (l : Location) (p : Pointer) → p.at ≡ Some l → p.object ≡ o → Among p (pointers_in (things_of k)) → ⊥
  placed_none l p at e h = let t = of_thing p (things_of k) h in by t.thing t.among t.pointer
    where
      nowhere : (q : Pointer) → q ≡ p → q.at ≡ None → ⊥
      nowhere q s f = let z : None ≡ Some l = sym f ∙ ap (λ (x : Pointer). x.at) s ∙ at in absurd (cc z)

      by : (y : Thing) → Among y (things_of k) → Among p (pointers_of y) → ⊥
      by (holds q v) i m = nobody (holds q v) i (owned_is (location_of q) v p m e)
      by (shares q r) i (inl s) = nowhere _ s refl
      by (shares q r) i (inr s) = s
      by (borrows q r) i (inl s) = lent_none q r i (ap (λ (x : Pointer). x.object) s ∙ e)
      by (borrows q r) i (inr s) = s
      by (lies r a c) i m = nobody (lies r a c) i (owned_is (Some (in_cell c.object)) c.value p m e)
      by (flies v c) i (inl s) = nowhere _ s refl
      by (flies v c) i (inr m) = nobody (flies v c) i (owned_is (Some (in_cell c.object)) c.value p m e)
      by (sent r (Drop v q)) i (inl s) = nowhere _ s refl
      by (sent r (Drop v q)) i (inr s) = s
      by (sent r _) i m = m
      by _ i m = m

  no_cell_shares : (d : Option Cell) (r : SharedRef) → value_of d ≡ Some (value.Shared r) → ⊥
  no_cell_shares None r e = cc e
  no_cell_shares (Some d) r e = cc e

  shared_there : (l : Location) (r : SharedRef) → value_in g l ≡ Some (value.Shared r) → r.object ≡ o → ⊥
  shared_there (at_slot u i) r e is = shared_none (at_slot u i) r (slot_among k u i (value.Shared r) e (shares (at_slot u i) r) (λ s. inl refl)) is
  shared_there (at_temp u i) r e is = shared_none (at_temp u i) r (temp_among k u i (value.Shared r) e (shares (at_temp u i) r) (λ s. inl refl)) is
  shared_there (in_cell q) r e is = no_cell_shares (cell_of g.cells q) r e

  same_cell : {q r : ObjNo} → Some (in_cell q) ≡ Some (in_cell r) → q ≡ r
  same_cell e = cc

  pub none_leads : NoneLeads k o
  none_leads t l e = by (value_in g l) refl e
    where
      by : (v : Option Value) → value_in g l ≡ v → leads t v ≡ Some (in_cell o) → ⊥
      by (Some (value.Own (owned.Box b))) s f = let p : Pointer = record { at = Some l; word = b.word; object = b.object } in placed_none l p refl (same_cell f) (told k l (value.Own (owned.Box b)) p s (inl refl))
      by (Some (value.Mut r)) s f = let p : Pointer = record { at = Some l; word = r.word; object = r.object } in placed_none l p refl (same_cell f) (told k l (value.Mut r) p s (inl refl))
      by (Some (value.Shared r)) s f = shared_there l r s (same_cell f)
      by (Some (value.Own owned.Nothing)) s f = cc f
      by (Some (value.Own owned.Unit)) s f = cc f
      by (Some (value.Own (owned.Int i))) s f = cc f
      by (Some (value.Own (owned.Mutex m))) s f = cc f
      by (Some (value.Own (owned.Task u))) s f = cc f
      by (Some value.Gone) s f = cc f
      by (Some (value.SharedSlot i)) s f = cc f
      by (Some (value.MutSlot i)) s f = cc f
      by (Some (value.Held m)) s f = cc f
      by None s f = cc f
