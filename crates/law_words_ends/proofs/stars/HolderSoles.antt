-- The place of the holder of a mutable reference that a step ends: each pointer that it follows before the holder's is the one through which its object is written.
use Rattle.std.proofs.Common.{◌≡◌, ◌⊎◌, inl, inr, ⊎_elim, ℕ, suc, ◌≤◌, ◌<◌, true, false, Option, Some, None, is_some, refl, sym, ap, subst, ◌∙◌, arith}
use Rattle.std.specs.Prelude.{slice_get}
use Rattle.law_words_ends.specs.Below.fr_base.declared.instruction.Instr.{Instr}
use Rattle.law_words_ends.specs.Below.fr_base.declared.instruction.Instr.TheVariants as instr
use Rattle.law_words_ends.specs.Below.fr_base.declared.instruction.Operand.{Operand}
use Rattle.law_words_ends.specs.Below.fr_base.declared.name.ObjNo.{ObjNo}
use Rattle.law_words_ends.specs.Below.fr_code.CodeTypes.{Entry, Table, InstrTypes, i_assign, i_discard, i_drop}
use Rattle.law_words_ends.specs.Below.fr_store.Keys.{Key, slot_k, temp_k}
use Rattle.law_words_ends.specs.Below.fr_store.Store.{at_key, at_object, Val, ref_v, Store, Place as StorePlace, star_hop, walk}
use Rattle.law_words_ends.specs.Below.fr_store.Typed.{KeyTypes, Loaned, self, loan, Unnamed}
use Rattle.law_words_ends.proofs.Below.fr_store.Sound.{walk_last}
use Rattle.law_words_ends.specs.Below.heap_partition.declared.value.BoxPtr.{BoxPtr}
use Rattle.law_words_ends.specs.Below.heap_partition.declared.value.Owned.TheVariants as owned
use Rattle.law_words_ends.specs.Below.mut_borrow.declared.mutable.MutRef.{MutRef}
use Rattle.law_words_ends.specs.Below.mut_borrow.declared.shared.SharedRef.{SharedRef}
use Rattle.law_words_ends.specs.Below.thread_state.View.{ThreadState}
use Rattle.law_words_ends.specs.Below.thread_state.declared.value.Value.{Value}
use Rattle.law_words_ends.specs.Below.thread_state.declared.value.Value.TheVariants as value
use Rattle.law_words_ends.specs.Below.server_model.Servers.{Server, Cluster}
use Rattle.law_words_ends.specs.Below.coherent_memory.Names.{Among}
use Rattle.law_words_ends.specs.Below.coherent_memory.Things.{Location, at_slot, at_temp, in_cell, shares, things_of}
use Rattle.law_words_ends.specs.Below.coherent_memory.Follow.{Standing, Ground, value_in, value_of, slot_of, leads}
use Rattle.law_words_ends.specs.Below.coherent_memory.OneHeap.{two_in, pair_of}
use Rattle.law_words_ends.specs.Below.coherent_memory.Paths.{ends, written_place}
use Rattle.law_words_ends.specs.Below.coherent_memory.Stale.{Reference, references, is_held_at}
use Rattle.law_words_ends.specs.Below.coherent_memory.Sight.{Pointer, pointers_in, sight}
use Rattle.law_words_ends.specs.Below.coherent_memory.Walking.{path}
use Rattle.law_words_ends.specs.Below.coherent_memory.Words.{IsStale}
use Rattle.law_words_ends.specs.Below.law_words_paths.paths.Above.{StandsAbove}
use Rattle.law_words_ends.specs.Below.law_words_paths.paths.HeapStore.{in_store, heap_store, GoesOn, HasPaths, IsUnmarked}
use Rattle.law_words_ends.specs.Below.law_words_paths.paths.Pointing.{Above}
use Rattle.law_words_ends.proofs.Below.law_words_paths.paths.Alike.{mark_unnamed, leads_in_heap, leads_in_cluster, heap_of_shown, slot_shared, temp_shared}
use Rattle.law_words_ends.proofs.Below.law_words_paths.paths.Climbs.{one_location, climbs}
use Rattle.law_words_ends.proofs.Below.law_words_paths.paths.Forms.{not_mutable, running_typed}
use Rattle.law_words_ends.proofs.Below.law_words_paths.paths.FreshPaths.{MutThere, flat, holds_there}
use Rattle.law_words_ends.proofs.Below.law_words_paths.paths.Pointers.{Stood, pointed_at, shared_at, temp_unnamed}
use Rattle.law_words_ends.proofs.Below.law_words_paths.paths.Shown.{stands_there}
use Rattle.law_words_ends.proofs.Below.law_words_paths.paths.Sole.{some_is}
use Rattle.law_words_writes.proofs.Below.law_words_kept.ends.Alone.{holder_stars}
use Rattle.law_words_writes.proofs.Below.law_words_kept.ends.Ends.{EndsAt}
use Rattle.law_words_writes.proofs.Below.law_words_kept.ends.Fresh.{writing, writes_are_fresh}
use Rattle.law_words_writes.proofs.Below.law_words_kept.ends.Lent.{none_before}
use Rattle.law_words_writes.proofs.Below.law_words_kept.ends.Lying.{written_lie_there, written_own}
use Rattle.law_words_ends.specs.Below.law_words_kept.reads.Reading.{LiesUnder}
use Rattle.law_words_ends.proofs.Below.law_words_kept.reads.Flights.{answers_told}
use Rattle.law_words_ends.proofs.Below.law_words_kept.reads.Homes.{fresh_word}
use Rattle.law_words_ends.proofs.Below.law_words_kept.reads.OwnChains.{OwnObject}
use Rattle.law_words_ends.specs.Below.law_words_paths.words.Soles.{IsSole}
use Rattle.law_words_ends.specs.Below.law_words_paths.words.Unmoved.{taking_by}
use Rattle.law_words_ends.proofs.Below.law_words_paths.words.Alone.{leads_any}
use Rattle.law_words_ends.proofs.Below.law_results_reads.Followed.{hop_from}
use Rattle.law_words_ends.proofs.Below.law_results_reads.Known.{Steps, standing, paths, goes, types, entry, typed}
use Rattle.law_words_ends.proofs.Below.law_results_reads.Readers.{to_entry}
use Rattle.law_words_writes.proofs.Below.law_results_events.writes.StepRoutes.{awake}
use Rattle.law_words_writes.proofs.Below.law_results_events.writes.Holders.{C, at as place, object_away}
use Rattle.law_words_writes.proofs.Below.law_words_asked.writes.Onward.{IsWritten}
use Rattle.law_words_writes.proofs.Below.law_words_asked.writes.Walks.{BoxAt, in_a_slot, in_a_cell}
use Rattle.law_words_writes.proofs.Below.law_words_asked.writes.Ways.{leads_pointer}
use Rattle.law_words_ends.specs.variables.Ends.{EndsReference, drops, discards, assigns}
use Rattle.law_words_ends.proofs.stars.Lending.{IsLender, refers_there, points_there}
use Rattle.law_words_ends.proofs.stars.Placed.{placed_alone}

-- a key that no type names is lent by itself alone
unnamed_lent : (E : KeyTypes) (k j : Key) → Unnamed E j → Loaned E k j → j ≡ k
unnamed_lent E k _ free self = refl
unnamed_lent E k _ free (loan {t = i} q u e) = absurd (free i true u e refl)

object_same : {p o : ObjNo} → ref_v (at_object p) ≡ ref_v (at_object o) → p ≡ o
object_same e = cc

none_paired : (o : Option (ℕ × ℕ)) → is_some o ≡ false → o ≡ None
none_paired None e = refl
none_paired (Some p) e = absurd (cc e)

-- no branch is started at such an instruction
ends_awake : (table : Table) (e e2 : Entry) (y : ThreadState) (r : MutRef) (i : Instr) → EndsReference y r i → InstrTypes table e i e2 → e.forked ≡ false
ends_awake table _ _ y r _ (drops e) (i_drop named unlocked outlives) = refl
ends_awake table _ _ y r _ (discards e) (i_discard takes) = refl
ends_awake table _ _ y r _ (assigns w o flat e) (i_assign takes has opens kept shape below) = refl

no_end : (y : ThreadState) (r : MutRef) (i : Instr) → EndsReference y r i → (p : Operand) → i ≡ instr.End p → ⊥
no_end y r _ (drops e) p f = absurd (cc f)
no_end y r _ (discards e) p f = absurd (cc f)
no_end y r _ (assigns w o flat e) p f = absurd (cc f)

module _ (k : Cluster) (n t : ℕ) (s : Server) (y : ThreadState) (i : Instr) (z : Steps k n t s y i) (r : MutRef) (ends_it : EndsReference y r i) (is : path (sight k) (standing k n t s y i z) ≡ ends r)
    (it : EndsAt k (paths k n t s y i z) (standing k n t s y i z) (goes k n t s y i z) r) (untaken : taking_by y.number y.phase (slice_get k.code y.pc) ≡ None) where
  abbrev x : Standing
  x = standing k n t s y i z

  abbrev c : HasPaths k
  c = paths k n t s y i z

  abbrev on : GoesOn k x
  on = goes k n t s y i z

  abbrev g : Ground
  g = (sight k).ground

  abbrev tn : ℕ
  tn = y.number

  abbrev st : Store
  st = heap_store k c.types

  abbrev E : KeyTypes
  E = c.types.typing.exact

  abbrev slot : ℕ
  slot = r.holder.slot

  abbrev depth : ℕ
  depth = r.holder.depth

  abbrev at : ℕ → Option Location
  at = place k n t s y i z r is it

  abbrev m : MutThere k c x it.at r
  m = it.there

  abbrev u : StorePlace
  u = record { key = slot_k tn m.place.slot; depth = m.place.depth }

  h : (j : ℕ) × (m.place.depth ≡ suc j) × (r.holder.slot ≡ m.place.slot) × (r.holder.depth ≡ j)
  h = holder_stars k c x on r is it

  last : u.depth ≡ suc depth
  last = h.1 ∙ ap suc (sym h.3)

  writes : written_place (path (sight k) x) ≡ Some r.holder
  writes = ap written_place is

  unmarked : IsUnmarked x slot
  unmarked b there = mark_unnamed k c x on m.place.slot b (subst (λ q. slice_get y.slots q ≡ Some (value.Held b)) h.2 there) m.key true u m.exact refl

  walk_to : (d : ℕ) (l : Location) → at d ≡ Some l → walk st d (at_key u.key) ≡ Some (in_store l)
  walk_to d l e = subst (λ q. walk st d (at_key (slot_k tn q)) ≡ Some (in_store l)) h.2 (leads_in_heap k c x on slot d l e).0

  -- the thread waits for no pair
  waits_for_none : two_in y.phase ≡ None
  waits_for_none =
      let at_it = typed k n t s y i z in
      let to = to_entry (types k n t s y i z).table y.pc (entry k n t s y i z) i at_it.0 at_it.1 (no_end y r i ends_it) in
      let off : (entry k n t s y i z).forked ≡ false = ends_awake (types k n t s y i z).table (entry k n t s y i z) to.0 y r i ends_it to.1 in
      none_paired (two_in y.phase) (sym (ap (λ o. is_some (pair_of o)) (stands_there k c x on)) ∙ sym (running_typed k c x on).forks ∙ off)

  fresh_there : (j : ℕ) → j < depth → (l : Location) → at j ≡ Some l → IsStale (sight k) (Some l) → ⊥
  fresh_there j lt l located = writes_are_fresh k c x r.holder j l on writes lt located

  module _ (j : ℕ) (lt : j < depth) (l : Location) (o : ObjNo) (located : at j ≡ Some l) (next : at (suc j) ≡ Some (in_cell o)) where
    -- it isn't the object of the reference that ends
    differs : st.at m.key ≡ ref_v (at_object o) → ⊥
    differs e = object_away k n t s y i z r is it (suc j) (omega (arith, lt)) (next ∙ ap (λ q. Some (in_cell q)) (sym (object_same (sym m.shown ∙ e))))

    le : suc j ≤ u.depth
    le = omega (arith, lt, last)

    pointer_walk : walk st j (at_key u.key) ≡ Some (in_store l)
    pointer_walk = walk_to j l located

    object_walk : walk st (suc j) (at_key u.key) ≡ Some (at_object o)
    object_walk = walk_to (suc j) (in_cell o) next

    star_there : star_hop st (in_store l) ≡ Some (at_object o)
    star_there = sym (walk_last st j (at_key u.key) (in_store l) pointer_walk) ∙ object_walk

    clear_there : (b : ℕ) → l ≡ at_slot tn b → IsUnmarked x b
    clear_there =
        let q = leads_in_cluster k c x on slot j (in_store l) unmarked (leads_in_heap k c x on slot j l located).0 in
        let same : q.0 ≡ l = some_is (sym q.1 ∙ located) in
        subst (λ v. (b : ℕ) → v ≡ at_slot tn b → IsUnmarked x b) same q.2

    object_there : (v : Val) × (st.heap o ≡ Some v)
    object_there = heap_of_shown k c x on o ((leads_in_heap k c x on slot (suc j) (in_cell o) next).1)

    above_there : (p : Pointer) (b : Location) → Among p (pointers_in (things_of k)) → p.object ≡ o → p.at ≡ Some b → (b ≡ l) ⊎ Above g b l
    above_there p b among e f =
        ⊎_elim (λ (q : in_store b ≡ in_store l). inl (one_location b l q))
        (λ (q : StandsAbove E st (in_store b) (in_store l)). inr (climbs k c x on b (in_store b) l (in_store l) o ((leads_in_heap k c x on slot j l located).1) clear_there refl star_there refl q))
        (points_there c.types.typing.rank E st c.types.state.typed m.key it.free u m.exact j (in_store l) (in_store b) o le pointer_walk object_walk differs (pointed_at k c p b o object_there.0 among e f object_there.1))

    -- who refers to it does so mutably
    lender : (a : Key) → st.at a ≡ ref_v (at_object o) → IsLender E m.key a
    lender a there = refers_there c.types.typing.rank E st c.types.state.typed m.key it.free u m.exact (suc j) o le object_walk a there

    unshared : (b : Location) (q : SharedRef) → Among (shares b q) (things_of k) → q.object ≡ o → ⊥
    unshared b q among same = by s2.at
      where
        s2 : Stood k c b (value.Shared q)
        s2 = shared_at k c b q among

        v : Standing
        v = s2.thread

        by : ((b ≡ at_slot v.thread.number s2.number) × (slice_get v.thread.slots s2.number ≡ Some (value.Shared q))) ⊎ ((b ≡ at_temp v.thread.number s2.number) × (slice_get v.thread.temps s2.number ≡ Some (value.Shared q))) → ⊥
        by (inl a) =
            let w = lender (slot_k v.thread.number s2.number) (slot_shared k c v s2.goes s2.number q a.1 ∙ ap (λ f. ref_v (at_object f)) same) in
            not_mutable k c v s2.goes s2.number q w.1.0 a.1 w.1.1
        by (inr a) =
            let there = temp_shared k c v s2.goes s2.number q a.1 ∙ ap (λ f. ref_v (at_object f)) same in
            let one = unnamed_lent E m.key (temp_k v.thread.number s2.number) (temp_unnamed k c v.thread.number s2.number) (lender (temp_k v.thread.number s2.number) there).0 in
            differs (sym (ap st.at one) ∙ there)

    unmade : (q : Reference) → Among q (references g (things_of k)) → is_held_at l q.holder ≡ true → ⊥
    unmade q among held =
        let w = holds_there k c q l among held in
        none_before c.types.typing.rank E st c.types.state.typed m.key it.free (flat k c) u m.exact j depth (in_store l) w.1.object last lt pointer_walk w.2.star w.2.key w.2.made

    own : OwnObject k c x on o
    own = written_own k c z.coherent.sound.words.have_words (answers_told k z.coherent.sound) x on (λ v p a same. awake k n t s y i z v (sym (ap (λ (b : Standing). b.thread.phase) same) ∙ a.waits)) r.holder j o (writing k x r.holder writes) lt next

    hop : (v : Value) × (value_in g l ≡ Some v) × (leads tn (Some v) ≡ Some (in_cell o))
    hop = hop_from g tn slot j l (in_cell o) located next

    sole : IsSole k l o
    sole = record {
      to = λ q. leads_any tn q (value_in g l) o (ap (leads tn) hop.1 ∙ hop.2);
      above = above_there;
      placed = placed_alone k c x on o own unshared waits_for_none untaken;
      unmade = unmade;
    }

    pub written_there : IsWritten k l o
    written_there =
        let p = leads_pointer tn hop.0 o hop.2 in
        let v : LiesUnder k p.0 = written_lie_there k z.coherent x r.holder j l hop.0 p.0 on (awake k n t s y i z) writes lt located hop.1 p.1 in
        record {
          sole = sole;
          fresh = fresh_there j lt l located;
          lies = record { server = v.server; address = v.address; there = record { cell = v.there.cell; among = v.there.among; object = v.there.object ∙ p.2 } };
        }

  abbrev Cells : ObjNo → Option Rattle.law_words_ends.specs.Below.heap_partition.declared.value.Cell.Cell
  Cells = C k n t s y i z r is it

  -- and boxes on the way have their objects' words
  pub words_there : (j : ℕ) → j < depth → (l : Location) (p : BoxPtr) → at j ≡ Some l → at (suc j) ≡ Some (in_cell p.object) → BoxAt y Cells l p → p.word ≡ z.coherent.sound.words.have_words.word p.object
  words_there j lt l p located next box = fresh_word k z.coherent.sound.words.have_words l (value.Own (owned.Box p)) p (stands box) refl (fresh_there j lt l located)
    where
      stands : BoxAt y Cells l p → value_in g l ≡ Some (value.Own (owned.Box p))
      stands (in_a_slot b from e) = ap (value_in g) from ∙ ap (λ o. slot_of o b) (stands_there k c x on) ∙ e
      stands (in_a_cell o b from has boxed) = ap (value_in g) from ∙ ap value_of has ∙ ap (λ v. Some (value.Own v)) boxed
