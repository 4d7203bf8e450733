-- Nothing points to an object that has no cell.
use Rattle.std.proofs.Common.{◌≡◌, ◌⊎◌, inl, inr, ⊎_elim, ℕ, ◌==◌, ◌≤◌, ◌&&◌, Bool, true, false, Option, Some, None, refl, sym, ap, subst, ◌∙◌, arith}
use Rattle.std.specs.Prelude.{slice_get}
use Rattle.law_counts_things.specs.Below.fr_base.declared.instruction.Instr.{Instr}
use Rattle.law_counts_things.specs.Below.fr_base.declared.instruction.Instr.TheVariants as instr
use Rattle.law_counts_things.specs.Below.fr_base.declared.name.ObjNo.{ObjNo}
use Rattle.law_counts_things.specs.Below.fr_store.Keys.{Key, slot_k, temp_k}
use Rattle.law_counts_things.specs.Below.fr_store.Store.{Store, at_object, ref_v}
use Rattle.law_counts_things.specs.Below.heap_partition.declared.value.Cell.{Cell}
use Rattle.law_counts_things.specs.Below.heap_partition.declared.value.Owned.{Owned}
use Rattle.law_counts_things.specs.Below.heap_partition.declared.value.Owned.TheVariants as owned
use Rattle.law_counts_things.specs.Below.mut_borrow.declared.mutable.MutRef.{MutRef}
use Rattle.law_counts_things.specs.Below.mut_borrow.declared.shared.SharedRef.{SharedRef}
use Rattle.law_counts_things.specs.Below.thread_state.declared.phase.Phase.{Phase}
use Rattle.law_counts_things.specs.Below.thread_state.declared.phase.Phase.TheVariants as phase
use Rattle.law_counts_things.specs.Below.thread_state.declared.value.Value.{Value}
use Rattle.law_counts_things.specs.Below.thread_state.declared.value.Value.TheVariants as value
use Rattle.law_counts_things.specs.Below.server_model.Servers.{Cluster}
use Rattle.law_counts_things.specs.Below.server_msgs.declared.message.Message.{Message}
use Rattle.law_counts_things.specs.Below.server_msgs.declared.message.Message.TheVariants.{Drop}
use Rattle.law_counts_things.specs.Below.coherent_memory.Names.{Among, tot, one, other, some, same_object, boxes}
use Rattle.law_counts_things.specs.Below.coherent_memory.Things.{Location, at_slot, at_temp, in_cell, Thing, holds, shares, borrows, lies, flies, sent, things_of}
use Rattle.law_counts_things.specs.Below.coherent_memory.Follow.{Standing, Ground, cell_of, value_of, value_in, place_at}
use Rattle.law_counts_things.specs.Below.coherent_memory.Sight.{Pointer, pointer_in, location_of, dropped_pointer, pointers_of, pointers_in, taken_object, taken_pointers, sight}
use Rattle.law_counts_things.specs.Below.coherent_memory.Placing.{sum_over}
use Rattle.law_counts_things.specs.Below.coherent_memory.Requests.{lies_here, taken_there, taken_phase, lent_place as taken_place}
use Rattle.law_counts_things.specs.Below.coherent_memory.Weights.{cells, owners, drops, lies_at}
use Rattle.law_counts_things.specs.Below.coherent_memory.Words.{all_pointers}
use Rattle.law_counts_things.proofs.Below.coherent_memory.Bags.{among_split}
use Rattle.law_counts_things.proofs.Below.coherent_memory.Words.{none_at, itself}
use Rattle.law_counts_things.specs.Below.coherent_types.ClusterTypes.{IsCoherent}
use Rattle.law_counts_things.specs.Below.law_words_paths.paths.HeapStore.{heap_store, GoesOn, HasPaths}
use Rattle.law_counts_things.proofs.Below.law_words_paths.paths.Sole.{some_is}
use Rattle.law_counts_things.proofs.Below.law_words_paths.paths.Alike.{there_of, cell_there, slot_shared, slot_mut, temp_shared, temp_mut, coherent_has_paths}
use Rattle.law_counts_things.proofs.Below.law_words_paths.paths.Origins.{among_first, among_second}
use Rattle.law_counts_things.proofs.Below.law_words_paths.paths.Pointers.{Stood, borrowed_at, shared_at}
use Rattle.law_counts_things.proofs.Below.law_counts_sums.Boxes.{tot_le}
use Rattle.law_words_values.specs.Below.law_words_paths.words.Reworded.{HasPlaces}
use Rattle.law_words_values.specs.Below.law_words_paths.words.Unmoved.{owning, seen_at, Taking, taking_by, takings, Untouched}
use Rattle.law_words_values.proofs.Below.law_words_paths.words.Standing.{CellOf, lying, flying, cell_among, of_thing, pointer_at, tells, told}
use Rattle.law_words_values.proofs.Below.law_words_paths.words.Takings.{seen_pointer_at, taken_by, takens_are, taken_listed, taken_told}
use Rattle.law_words_values.proofs.Below.law_words_paths.words.Unmoved.{all}
use Rattle.law_words_values.specs.carried.Carried.{Carried}
use Rattle.law_words_values.proofs.carried.Carrying.{is_at}
use Rattle.law_words_values.proofs.carried.Taken.{taker_of}

-- no pointer is to the object
abbrev pub NonePoints : Cluster → ObjNo → Type 0
NonePoints k o = (p : Pointer) → Among p (all_pointers (sight k)) → p.object ≡ o → ⊥

-- a thing with a cell of the object weighs
pub cell_weighs : (o : ObjNo) (c : Cell) (y : Thing) → CellOf c y → c.object ≡ o → cells o y ≡ 0 → ⊥
cell_weighs o c _ (lying r a) e z = let w : one (same_object c.object o) ≡ 1 = ap one (itself c.object o e) in absurd (omega (arith, z, w))
cell_weighs o c _ (flying v) e z = let w : one (same_object c.object o) ≡ 1 = ap one (itself c.object o e) in absurd (omega (arith, z, w))

-- where the sum of its cells is 0, none is found
pub no_cell : (k : Cluster) (o : ObjNo) → tot (cells o) (things_of k) ≡ 0 → (d : Cell) → cell_of (sight k).ground.cells o ≡ Some d → ⊥
no_cell k o none d e = let i = cell_among o d (things_of k) e in cell_weighs o d i.thing i.is i.object (none_at (cells o) i.thing (things_of k) none i.among)

pub no_value : (k : Cluster) (o : ObjNo) → tot (cells o) (things_of k) ≡ 0 → value_in (sight k).ground (in_cell o) ≡ None
no_value k o none = by (cell_of (sight k).ground.cells o) refl
  where
    by : (c : Option Cell) → cell_of (sight k).ground.cells o ≡ c → value_of c ≡ None
    by None e = refl
    by (Some d) e = absurd (no_cell k o none d e)

-- IN A COHERENT CLUSTER

-- what is taken at a place is the object there
taken_cell : (w : ℕ) (l : Option Location) (p : Pointer) → Among p (taken_object w l) → l ≡ Some (in_cell p.object)
taken_cell w (Some (in_cell q)) p (inl m) = ap (λ (x : Pointer). Some (in_cell x.object)) m
taken_cell w (Some (in_cell q)) p (inr m) = absurd m
taken_cell w (Some (at_slot a b)) p m = absurd m
taken_cell w (Some (at_temp a b)) p m = absurd m
taken_cell w None p m = absurd m

not_both : (b : Bool) (n : ℕ) → n ≡ 0 → other (b && some n) ≡ 0 → ⊥
not_both b n z e = by b (subst (λ m. other (b && some m) ≡ 0) z e)
  where
    by : (c : Bool) → other (c && false) ≡ 0 → ⊥
    by true f = absurd (cc f)
    by false f = absurd (cc f)

lies_less : (r : ℕ) (o : ObjNo) (x : Thing) → lies_at r o x ≤ cells o x
lies_less r o (lies s a c) = by (s == r) (same_object c.object o)
  where
    by : (p q : Bool) → one (p && q) ≤ one q
    by true q = omega arith
    by false true = omega arith
    by false false = omega arith
lies_less r o _ = omega arith

module _ (k : Cluster) (coherent : IsCoherent k) (o : ObjNo) (none : tot (cells o) (things_of k) ≡ 0) where
  paths : HasPaths k
  paths = coherent_has_paths k coherent

  abbrev st : Store
  st = heap_store k paths.types

  abbrev g : Ground
  g = (sight k).ground

  no_owners : tot (owners o) (things_of k) ≡ 0
  no_owners = coherent.sound.one_owner.owner_of_each o ∙ none

  -- what is owned has an owner
  owned_none : (l : Option Location) (v : Owned) (p : Pointer) → Among p (pointer_in l v) → p.object ≡ o → boxes o v ≡ 0 → ⊥
  owned_none l (owned.Box b) p (inl q) e z =
      let s : b.object ≡ o = ap (λ (x : Pointer). x.object) q ∙ e in
      let w : one (same_object b.object o) ≡ 1 = ap one (itself b.object o s) in
      absurd (omega (arith, z, w))
  owned_none l (owned.Box b) p (inr h) e z = h
  owned_none l owned.Nothing p h e z = h
  owned_none l owned.Unit p h e z = h
  owned_none l (owned.Int i) p h e z = h
  owned_none l (owned.Mutex m) p h e z = h
  owned_none l (owned.Task u) p h e z = h

  dropped_none : (m : Message) (p : Pointer) → Among p (dropped_pointer m) → p.object ≡ o → drops o m ≡ 0 → ⊥
  dropped_none (Drop w q) p (inl h) e z =
      let s : q ≡ o = ap (λ (x : Pointer). x.object) h ∙ e in
      let one_here : one (same_object q o) ≡ 1 = ap one (itself q o s) in
      absurd (omega (arith, z, one_here))
  dropped_none (Drop w q) p (inr h) e z = h
  dropped_none _ p h e z = h

  -- what a reference leads to has a cell
  referred : (x : Standing) (go : GoesOn k x) (key : Key) (r : ObjNo) → r ≡ o → st.at key ≡ ref_v (at_object r) → ⊥
  referred x go key r e at =
      let t = there_of paths.types.typing.rank paths.types.typing.exact st paths.types.state.typed key (at_object r) at in
      let c = cell_there k paths x go r t.0 t.1 in
      no_cell k o none c.0 (ap (cell_of g.cells) (sym e) ∙ c.1)

  shared_none : (l : Location) (r : SharedRef) → Among (shares l r) (things_of k) → r.object ≡ o → ⊥
  shared_none l r h e = by s.at
    where
      s : Stood k paths l (value.Shared r)
      s = shared_at k paths l r h

      by : ((l ≡ at_slot s.thread.thread.number s.number) × (slice_get s.thread.thread.slots s.number ≡ Some (value.Shared r))) ⊎ ((l ≡ at_temp s.thread.thread.number s.number) × (slice_get s.thread.thread.temps s.number ≡ Some (value.Shared r))) → ⊥
      by (inl q) = referred s.thread s.goes (slot_k s.thread.thread.number s.number) r.object e (slot_shared k paths s.thread s.goes s.number r q.1)
      by (inr q) = referred s.thread s.goes (temp_k s.thread.thread.number s.number) r.object e (temp_shared k paths s.thread s.goes s.number r q.1)

  lent_none : (l : Location) (r : MutRef) → Among (borrows l r) (things_of k) → r.object ≡ o → ⊥
  lent_none l r h e = by s.at
    where
      s : Stood k paths l (value.Mut r)
      s = borrowed_at k paths l r h

      by : ((l ≡ at_slot s.thread.thread.number s.number) × (slice_get s.thread.thread.slots s.number ≡ Some (value.Mut r))) ⊎ ((l ≡ at_temp s.thread.thread.number s.number) × (slice_get s.thread.thread.temps s.number ≡ Some (value.Mut r))) → ⊥
      by (inl q) = referred s.thread s.goes (slot_k s.thread.thread.number s.number) r.object e (slot_mut k paths s.thread s.goes s.number r q.1)
      by (inr q) = referred s.thread s.goes (temp_k s.thread.thread.number s.number) r.object e (temp_mut k paths s.thread s.goes s.number r q.1)

  thing_none : (y : Thing) → Among y (things_of k) → (p : Pointer) → Among p (pointers_of y) → p.object ≡ o → ⊥
  thing_none (holds q v) h p m e = owned_none (location_of q) v p m e (none_at (owners o) (holds q v) (things_of k) no_owners h)
  thing_none (shares l r) h p (inl q) e = shared_none l r h (ap (λ (x : Pointer). x.object) q ∙ e)
  thing_none (shares l r) h p (inr q) e = q
  thing_none (borrows l r) h p (inl q) e = lent_none l r h (ap (λ (x : Pointer). x.object) q ∙ e)
  thing_none (borrows l r) h p (inr q) e = q
  thing_none (lies r a c) h p m e = owned_none (Some (in_cell c.object)) c.value p m e (none_at (owners o) (lies r a c) (things_of k) no_owners h)
  thing_none (flies w c) h p (inl q) e = cell_weighs o c (flies w c) (flying w) (ap (λ (x : Pointer). x.object) q ∙ e) (none_at (cells o) (flies w c) (things_of k) none h)
  thing_none (flies w c) h p (inr m) e = owned_none (Some (in_cell c.object)) c.value p m e (none_at (owners o) (flies w c) (things_of k) no_owners h)
  thing_none (sent r m) h p q e = dropped_none m p q e (none_at (owners o) (sent r m) (things_of k) no_owners h)
  thing_none _ h p m e = m

  -- nor has a thread taken it, as what was taken lies at its server
  takes_none : (x : Standing) (t : Taking) (p : Phase) (i : Option Instr) → slice_get k.code x.thread.pc ≡ i → taking_by x.thread.number p i ≡ Some t → taken_phase (sight k) x p ≡ 0 → place_at g t.thread t.place ≡ Some (in_cell o) → ⊥
  takes_none x t (phase.Taken w) (Some (instr.BorrowMut q)) code e z at =
      let there : other (lies_here (sight k) x.server w (place_at g x.thread.number q)) ≡ 0 = subst (λ j. taken_there (sight k) x w (taken_place j) ≡ 0) code z in
      let is : record { thread = x.thread.number; place = q; word = w } ≡ t = some_is e in
      let place : place_at g x.thread.number q ≡ Some (in_cell o) = ap (λ (a : Taking). place_at g a.thread a.place) is ∙ at in
      let lying : other (lies_here (sight k) x.server w (Some (in_cell o))) ≡ 0 = subst (λ l. other (lies_here (sight k) x.server w l) ≡ 0) place there in
      let few = tot_le (lies_at x.server o) (cells o) (lies_less x.server o) (things_of k) in
      not_both _ (sum_over (sight k) (lies_at x.server o)) (omega (arith, few, none)) lying
  takes_none _ _ _ _ code e z at = absurd cc

  taken_none : (p : Pointer) → Among p (taken_pointers k.code g g.threads) → p.object ≡ o → ⊥
  taken_none p h e =
      let y = taken_told g p (takings k.code g.threads) (subst (λ ps. Among p ps) (takens_are k.code g g.threads) h) in
      let q = taker_of k.code g.threads y.taking y.among in
      let stands = none_at (λ (x : Standing). taken_phase (sight k) x x.thread.phase) q.taker g.threads coherent.sound.requests.taken_stands q.among in
      takes_none q.taker y.taking q.taker.thread.phase (slice_get k.code q.taker.thread.pc) refl q.taking stands (taken_cell y.taking.word (place_at g y.taking.thread y.taking.place) p y.pointer ∙ ap (λ x. Some (in_cell x)) e)

  pub none_points : NonePoints k o
  none_points p h e =
      ⊎_elim (λ (l : Among p (pointers_in (things_of k))). let q = of_thing p (things_of k) l in thing_none q.thing q.among p q.pointer e) (λ (r : Among p (taken_pointers k.code g g.threads)). taken_none p r e)
      (among_split p (pointers_in (things_of k)) (taken_pointers k.code g g.threads) h)

-- FROM ONE CLUSTER TO THE OTHER

-- what has no pointer has none
no_pointer : (l : Location) (v : Value) (p : Pointer) → owning (Some v) ≡ None → Among p (pointer_at l v) → ⊥
no_pointer l (value.Own (owned.Box b)) p e h = absurd cc
no_pointer l (value.Mut r) p e h = absurd cc
no_pointer l (value.Own owned.Nothing) p e h = h
no_pointer l (value.Own owned.Unit) p e h = h
no_pointer l (value.Own (owned.Int i)) p e h = h
no_pointer l (value.Own (owned.Mutex m)) p e h = h
no_pointer l (value.Own (owned.Task u)) p e h = h
no_pointer l value.Gone p e h = h
no_pointer l (value.SharedSlot i) p e h = h
no_pointer l (value.MutSlot i) p e h = h
no_pointer l (value.Shared r) p e h = h
no_pointer l (value.Held m) p e h = h

-- it stays so where nothing changes that words see
pub none_untouched : (k z : Cluster) (o : ObjNo) → HasPlaces k → HasPlaces z → Untouched k z → NonePoints k o → NonePoints z o
none_untouched k z o c d u f p h e = f p (all z k d (λ m. sym (u.stands m)) u.takes u.loose p h) e

-- and where a value goes to where no place is
pub none_carried : (k z : Cluster) (o : ObjNo) (f : Option Location) → HasPlaces k → HasPlaces z → Carried k z f None → NonePoints k o → NonePoints z o
none_carried k z o f c d u go p h e =
    ⊎_elim (λ (l : Among p (pointers_in (things_of z))). in_things p.at refl l) (λ (r : Among p (taken_pointers z.code gz gz.threads)). go p (among_second p (pointers_in (things_of k)) (taken_pointers k.code gk gk.threads) (taken_back r)) e)
    (among_split p (pointers_in (things_of z)) (taken_pointers z.code gz gz.threads) h)
  where
    gk : Ground
    gk = (sight k).ground

    gz : Ground
    gz = (sight z).ground

    here : (q : Pointer) → Among q (pointers_in (things_of k)) → q.object ≡ o → ⊥
    here q m s = go q (among_first q (pointers_in (things_of k)) (taken_pointers k.code gk gk.threads) m) s

    in_things : (l : Option Location) → p.at ≡ l → Among p (pointers_in (things_of z)) → ⊥
    in_things None s m = ⊎_elim (λ (x : Among p (pointers_in (things_of k))). here p x e) (λ (x : (None ≡ None) × Among (record p { at = f }) (pointers_in (things_of k))). here (record p { at = f }) x.1 e) (u.loose p s m)
    in_things (Some l) s m =
        let t = tells z d p l m s in
        ⊎_elim (λ (x : Some l ≡ f). no_pointer l t.value p (ap owning (sym t.stands) ∙ u.left l (sym x)) t.pointer)
        (λ (n : Some l ≡ f → ⊥). here p (told k l t.value p (seen_pointer_at l (value_in gk l) t.value p (sym (u.stands l n (λ x. absurd cc)) ∙ ap (seen_at l) t.stands) t.pointer) t.pointer) e)
        (is_at l f)

    taken_back : Among p (taken_pointers z.code gz gz.threads) → Among p (taken_pointers k.code gk gk.threads)
    taken_back r =
        let y = taken_told gz p (takings z.code gz.threads) (subst (λ ps. Among p ps) (takens_are z.code gz gz.threads) r) in
        let x = u.takes y.taking y.among in
        let same : taken_by gz y.taking ≡ taken_by gk y.taking = ap (taken_object y.taking.word) (u.taken y.taking x).0 in
        subst (λ ps. Among p ps) (sym (takens_are k.code gk gk.threads)) (taken_listed gk p y.taking (takings k.code gk.threads) x (subst (λ ps. Among p ps) same y.pointer))
