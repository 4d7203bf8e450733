-- The place of the holder of a mutable reference that a thread ends, which may wait for an object meanwhile: each pointer that it follows before the holder's is the one
-- through which its object is written.
use Rattle.std.proofs.Common.{◌≡◌, ◌⊎◌, inl, inr, ⊎_elim, ℕ, suc, ◌-◌, ◌≤◌, ◌<◌, true, Option, Some, None, refl, sym, ap, subst, ◌∙◌, arith}
use Rattle.std.specs.Prelude.{slice_get}
use Rattle.law_words_borrows.specs.Below.fr_base.declared.name.ObjNo.{ObjNo}
use Rattle.law_words_borrows.specs.Below.fr_store.Keys.{Key, slot_k, temp_k}
use Rattle.law_words_borrows.specs.Below.fr_store.Store.{at_key, at_object, Val, ref_v, Store, Place as StorePlace, star_hop, walk, below_key}
use Rattle.law_words_borrows.specs.Below.fr_store.Typed.{KeyTypes, Resolves, Loaned, self, loan, Unnamed, RefFits}
use Rattle.law_words_borrows.proofs.Below.fr_store.Sound.{ref_at, sound, walk_last}
use Rattle.law_words_borrows.specs.Below.mut_borrow.declared.mutable.MutRef.{MutRef}
use Rattle.law_words_borrows.specs.Below.mut_borrow.declared.shared.SharedRef.{SharedRef}
use Rattle.law_words_borrows.specs.Below.thread_state.declared.value.Value.TheVariants as value
use Rattle.law_words_borrows.specs.Below.server_model.Servers.{Cluster}
use Rattle.law_words_borrows.specs.Below.coherent_memory.Names.{Among}
use Rattle.law_words_borrows.specs.Below.coherent_memory.Things.{Location, at_slot, at_temp, in_cell, shares, things_of}
use Rattle.law_words_borrows.specs.Below.coherent_memory.Follow.{Standing, Ground, value_in, value_behind, leads, locate}
use Rattle.law_words_borrows.specs.Below.coherent_memory.OneHeap.{two_in}
use Rattle.law_words_borrows.specs.Below.coherent_memory.Paths.{ends}
use Rattle.law_words_borrows.specs.Below.coherent_memory.Stale.{Reference, references, is_held_at}
use Rattle.law_words_borrows.specs.Below.coherent_memory.Sight.{Pointer, pointers_in, sight}
use Rattle.law_words_borrows.specs.Below.coherent_memory.Walking.{path}
use Rattle.law_words_borrows.specs.Below.law_words_paths.paths.Above.{StandsAbove}
use Rattle.law_words_borrows.specs.Below.law_words_paths.paths.HeapStore.{in_store, heap_store, GoesOn, HasPaths, IsUnmarked}
use Rattle.law_words_borrows.specs.Below.law_words_paths.paths.Pointing.{Above}
use Rattle.law_words_borrows.proofs.Below.law_words_paths.paths.Alike.{lead_alike, mark_unnamed, leads_in_heap, leads_in_cluster, heap_of_shown, slot_shared, temp_shared}
use Rattle.law_words_borrows.proofs.Below.law_words_paths.paths.Circles.{shorter, base_in}
use Rattle.law_words_borrows.proofs.Below.law_words_paths.paths.Climbs.{one_location, climbs, ref_is}
use Rattle.law_words_borrows.proofs.Below.law_words_paths.paths.Forms.{not_mutable}
use Rattle.law_words_borrows.proofs.Below.law_words_paths.paths.FreshPaths.{MutThere, OwnSlot, own_closed, flat, holds_there}
use Rattle.law_words_borrows.proofs.Below.law_words_paths.paths.Pointers.{Stood, pointed_at, shared_at, temp_unnamed}
use Rattle.law_words_borrows.proofs.Below.law_words_paths.paths.Sole.{some_is}
use Rattle.law_words_ends.proofs.Below.law_words_kept.ends.Alone.{holder_stars}
use Rattle.law_words_ends.proofs.Below.law_words_kept.ends.Ends.{EndsAt}
use Rattle.law_words_ends.proofs.Below.law_words_kept.ends.Lent.{none_before}
use Rattle.law_words_writes.proofs.Below.law_words_kept.reads.OwnChains.{OwnObject}
use Rattle.law_words_writes.specs.Below.law_words_paths.words.Soles.{IsSole}
use Rattle.law_words_writes.specs.Below.law_words_paths.words.Unmoved.{taking_by}
use Rattle.law_words_writes.proofs.Below.law_words_paths.words.Alone.{leads_any}
use Rattle.law_words_borrows.proofs.Below.law_results_reads.Mutables.{apart}
use Rattle.law_words_ends.proofs.stars.Lending.{IsLender, refers_there, points_there}
use Rattle.law_words_ends.proofs.stars.Placed.{placed_alone}

-- a key that no type names is lent by itself alone
unnamed_lent : (E : KeyTypes) (k j : Key) → Unnamed E j → Loaned E k j → j ≡ k
unnamed_lent E k _ free self = refl
unnamed_lent E k _ free (loan {t = i} q u e) = absurd (free i true u e refl)

object_same : {p o : ObjNo} → ref_v (at_object p) ≡ ref_v (at_object o) → p ≡ o
object_same e = cc

module _ (k : Cluster) (c : HasPaths k) (x : Standing) (on : GoesOn k x) (r : MutRef) (is : path (sight k) x ≡ ends r) (it : EndsAt k c x on r)
    (no_pair : two_in x.thread.phase ≡ None) (untaken : taking_by x.thread.number x.thread.phase (slice_get k.code x.thread.pc) ≡ None) where
  abbrev g : Ground
  g = (sight k).ground

  abbrev tn : ℕ
  tn = x.thread.number

  abbrev st : Store
  st = heap_store k c.types

  abbrev E : KeyTypes
  E = c.types.typing.exact

  abbrev slot : ℕ
  slot = r.holder.slot

  abbrev depth : ℕ
  depth = r.holder.depth

  abbrev at : ℕ → Option Location
  at = locate g tn slot

  abbrev m : MutThere k c x it.at r
  m = it.there

  abbrev u : StorePlace
  u = record { key = slot_k tn m.place.slot; depth = m.place.depth }

  f : RefFits E st true u (st.at m.key)
  f = ref_at c.types.typing.rank E st c.types.state.typed m.key true u m.exact

  target : f.target ≡ at_object r.object
  target = ref_is (sym f.is ∙ m.shown)

  h : (j : ℕ) × (m.place.depth ≡ suc j) × (r.holder.slot ≡ m.place.slot) × (r.holder.depth ≡ j)
  h = holder_stars k c x on r is it

  last : u.depth ≡ suc depth
  last = h.1 ∙ ap suc (sym h.3)

  -- the place with one star more leads to the object
  more : Resolves E true (slot_k tn slot) (suc depth) f.base f.boxes f.type
  more = subst (λ q. Resolves E true (slot_k tn q) (suc depth) f.base f.boxes f.type) (sym h.2) (subst (λ q. Resolves E true u.key q f.base f.boxes f.type) last f.res)

  unmarked : IsUnmarked x slot
  unmarked b there = mark_unnamed k c x on m.place.slot b (subst (λ q. slice_get x.thread.slots q ≡ Some (value.Held b)) h.2 there) m.key true u m.exact refl

  to_object : at (suc depth) ≡ Some (in_cell r.object)
  to_object =
      let q = lead_alike.in_cluster k c x (record { slot = slot; depth = suc depth }) true f.base f.boxes f.type on unmarked more in
      let heap = (leads_in_heap k c x on slot (suc depth) q.0 q.1).0 in
      let below_it = sound c.types.typing.rank E st c.types.state.typed true (slot_k tn slot) (suc depth) f.base f.boxes f.type more ∙ f.leads ∙ ap Some target in
      q.1 ∙ ap Some (one_location q.0 (in_cell r.object) (some_is (sym heap ∙ below_it)))

  walk_to : (d : ℕ) (l : Location) → at d ≡ Some l → walk st d (at_key u.key) ≡ Some (in_store l)
  walk_to d l e = subst (λ q. walk st d (at_key (slot_k tn q)) ≡ Some (in_store l)) h.2 (leads_in_heap k c x on slot d l e).0

  -- what it leads to stands in a chain of a slot of the thread
  own_object : (d : ℕ) (o : ObjNo) → d < depth → at (suc d) ≡ Some (in_cell o) → OwnObject k c x on o
  own_object d o lt next =
      let q = shorter E true (slot_k tn slot) (suc depth - suc d) (suc depth) (suc d) f.base f.boxes f.type (omega (arith, lt)) more in
      let base = base_in (OwnSlot k c tn) E (own_closed k c x on) (slot_k tn slot) (suc d) q.base q.boxes q.type (slot, refl) q.res in
      let heap = (leads_in_heap k c x on slot (suc d) (in_cell o) next).0 in
      let chain = sym (sound c.types.typing.rank E st c.types.state.typed true (slot_k tn slot) (suc d) q.base q.boxes q.type q.res) ∙ heap in
      record { slot = base.0; boxes = q.boxes; leads_there = subst (λ y. below_key st y q.boxes ≡ Some (at_object o)) base.1 chain }

  module _ (j : ℕ) (lt : j < depth) (l : Location) (o : ObjNo) (located : at j ≡ Some l) (next : at (suc j) ≡ Some (in_cell o)) where
    -- it isn't the object of the reference that ends
    differs : st.at m.key ≡ ref_v (at_object o) → ⊥
    differs e =
        let same : r.object ≡ o = object_same (sym m.shown ∙ e) in
        apart k c x on slot (suc depth) f.base f.boxes f.type more (suc j) (suc depth) (omega (arith, lt)) (omega arith) (in_cell r.object) (next ∙ ap (λ q. Some (in_cell q)) (sym same)) to_object

    le : suc j ≤ u.depth
    le = omega (arith, lt, last)

    pointer_walk : walk st j (at_key u.key) ≡ Some (in_store l)
    pointer_walk = walk_to j l located

    object_walk : walk st (suc j) (at_key u.key) ≡ Some (at_object o)
    object_walk = walk_to (suc j) (in_cell o) next

    star_there : star_hop st (in_store l) ≡ Some (at_object o)
    star_there = sym (walk_last st j (at_key u.key) (in_store l) pointer_walk) ∙ object_walk

    clear_there : (b : ℕ) → l ≡ at_slot tn b → IsUnmarked x b
    clear_there =
        let q = leads_in_cluster k c x on slot j (in_store l) unmarked (leads_in_heap k c x on slot j l located).0 in
        let same : q.0 ≡ l = some_is (sym q.1 ∙ located) in
        subst (λ v. (b : ℕ) → v ≡ at_slot tn b → IsUnmarked x b) same q.2

    object_there : (v : Val) × (st.heap o ≡ Some v)
    object_there = heap_of_shown k c x on o ((leads_in_heap k c x on slot (suc j) (in_cell o) next).1)

    above_there : (p : Pointer) (b : Location) → Among p (pointers_in (things_of k)) → p.object ≡ o → p.at ≡ Some b → (b ≡ l) ⊎ Above g b l
    above_there p b among e q =
        ⊎_elim (λ (z : in_store b ≡ in_store l). inl (one_location b l z))
        (λ (z : StandsAbove E st (in_store b) (in_store l)). inr (climbs k c x on b (in_store b) l (in_store l) o ((leads_in_heap k c x on slot j l located).1) clear_there refl star_there refl z))
        (points_there c.types.typing.rank E st c.types.state.typed m.key it.free u m.exact j (in_store l) (in_store b) o le pointer_walk object_walk differs (pointed_at k c p b o object_there.0 among e q object_there.1))

    -- who refers to it does so mutably
    lender : (a : Key) → st.at a ≡ ref_v (at_object o) → IsLender E m.key a
    lender a there = refers_there c.types.typing.rank E st c.types.state.typed m.key it.free u m.exact (suc j) o le object_walk a there

    unshared : (b : Location) (q : SharedRef) → Among (shares b q) (things_of k) → q.object ≡ o → ⊥
    unshared b q among same = by s2.at
      where
        s2 : Stood k c b (value.Shared q)
        s2 = shared_at k c b q among

        v : Standing
        v = s2.thread

        by : ((b ≡ at_slot v.thread.number s2.number) × (slice_get v.thread.slots s2.number ≡ Some (value.Shared q))) ⊎ ((b ≡ at_temp v.thread.number s2.number) × (slice_get v.thread.temps s2.number ≡ Some (value.Shared q))) → ⊥
        by (inl a) =
            let w = lender (slot_k v.thread.number s2.number) (slot_shared k c v s2.goes s2.number q a.1 ∙ ap (λ z. ref_v (at_object z)) same) in
            not_mutable k c v s2.goes s2.number q w.1.0 a.1 w.1.1
        by (inr a) =
            let there = temp_shared k c v s2.goes s2.number q a.1 ∙ ap (λ z. ref_v (at_object z)) same in
            let one = unnamed_lent E m.key (temp_k v.thread.number s2.number) (temp_unnamed k c v.thread.number s2.number) (lender (temp_k v.thread.number s2.number) there).0 in
            differs (sym (ap st.at one) ∙ there)

    unmade : (q : Reference) → Among q (references g (things_of k)) → is_held_at l q.holder ≡ true → ⊥
    unmade q among held =
        let w = holds_there k c q l among held in
        none_before c.types.typing.rank E st c.types.state.typed m.key it.free (flat k c) u m.exact j depth (in_store l) w.1.object last lt pointer_walk w.2.star w.2.key w.2.made

    to_it : leads tn (value_in g l) ≡ Some (in_cell o)
    to_it = sym (ap (λ q. leads tn (value_behind g q)) located) ∙ next

    sole : IsSole k l o
    sole = record {
      to = λ q. leads_any tn q (value_in g l) o to_it;
      above = above_there;
      placed = placed_alone k c x on o (own_object j o lt next) unshared no_pair untaken;
      unmade = unmade;
    }

  -- a pointer on the way to the holder's
  pub sole_before : (j : ℕ) (l : Location) (o : ObjNo) → j < depth → at j ≡ Some l → leads tn (value_in g l) ≡ Some (in_cell o) → IsSole k l o
  sole_before j l o lt located leads_there = sole j lt l o located (ap (λ q. leads tn (value_behind g q)) located ∙ leads_there)
