-- What comes to a thread that waits for it stands in a chain of one of the thread's own slots.
use Rattle.std.proofs.Common.{◌≡◌, ◌⊎◌, inl, inr, ℕ, zero, suc, ◌-◌, ◌<◌, Bool, true, false, if◌then◌else◌, List, [], ◌∷◌, length, Option, Some, None, refl, sym, ap, subst, ◌∙◌, arith}
use Rattle.std.specs.Prelude.{slice_get}
use Rattle.law_counts_sums.specs.Below.fr_base.declared.name.ObjNo.{ObjNo}
use Rattle.law_counts_sums.specs.Below.fr_base.declared.place.Lval.{Lval}
use Rattle.law_counts_sums.specs.Below.fr_base.declared.instruction.Instr.{Instr}
use Rattle.law_counts_sums.specs.Below.fr_base.declared.instruction.Instr.TheVariants as instr
use Rattle.law_counts_sums.specs.Below.fr_store.Keys.{Key, slot_k}
use Rattle.law_counts_sums.specs.Below.fr_store.Store.{Store, Place as StorePlace, at_object, below_key}
use Rattle.law_counts_sums.specs.Below.fr_store.Typed.{Exact, KeyTypes, Resolves}
use Rattle.law_counts_sums.proofs.Below.fr_store.Sound.{ref_at, sound}
use Rattle.law_counts_sums.specs.Below.heap_partition.declared.value.Cell.{Cell}
use Rattle.law_counts_sums.specs.Below.heap_partition.declared.value.Owned.TheVariants as owned
use Rattle.law_counts_sums.specs.Below.mut_borrow.declared.mutable.MutRef.{MutRef}
use Rattle.law_counts_sums.specs.Below.thread_state.View.{ThreadState}
use Rattle.law_counts_sums.specs.Below.thread_state.declared.value.Value.{Value}
use Rattle.law_counts_sums.specs.Below.thread_state.declared.value.Value.TheVariants as value
use Rattle.law_counts_sums.specs.Below.server_model.Servers.{Cluster}
use Rattle.law_counts_sums.specs.Below.coherent_memory.Names.{Among}
use Rattle.law_counts_sums.specs.Below.coherent_memory.Things.{Location, at_slot, at_temp, in_cell}
use Rattle.law_counts_sums.specs.Below.coherent_memory.Follow.{Standing, Ground, cell_of, slot_of, value_of, value_in, value_behind, leads, locate, place_at}
use Rattle.law_counts_sums.specs.Below.coherent_memory.Sight.{sight}
use Rattle.law_counts_sums.specs.Below.coherent_memory.Paths.{Path, reads, shares, lends, writes, ends, ending, taking, assigning, path_of, Awaited, is_spent, to_read, to_write, to_clean}
use Rattle.law_counts_sums.specs.Below.coherent_memory.Walking.{instr_of, path}
use Rattle.law_counts_sums.specs.Below.coherent_memory.Passing.{HopOf}
use Rattle.law_counts_sums.specs.Below.coherent_memory.Turn.{IsAsked, AwaitsAt, read_at, before_share, at_share, before_lend, at_lend, NextHop, InTurn, by_read, by_share, by_lend, by_write, by_end, by_holder}
use Rattle.law_counts_sums.proofs.Below.coherent_memory.Passing.{paths_law}
use Rattle.law_words_paths.specs.Below.coherent_types.ClusterTypes.{same_place, is_held_at}
use Rattle.law_words_paths.specs.paths.HeapStore.{heap_store, GoesOn, HasPaths}
use Rattle.law_words_paths.specs.paths.Pointing.{WritesTo, assigns, moves, lends as lends_to}
use Rattle.law_words_paths.proofs.paths.Circles.{shorter, base_in}
use Rattle.law_words_paths.proofs.paths.Shown.{stands_there}
use Rattle.law_words_paths.proofs.paths.Alike.{IsShown, a_slot, an_object, leads_in_heap}
use Rattle.law_words_paths.proofs.paths.Climbs.{held_as, and_second, ref_is}
use Rattle.law_words_paths.proofs.paths.MayWrites.{may_write_there}
use Rattle.law_words_paths.proofs.paths.FreshPaths.{MutThere, slot_there, temp_there, OwnSlot, own_closed}

-- THE INSTRUCTION OF A PATH

ending_is : (v : Option Value) (r : MutRef) → ending v ≡ ends r → v ≡ Some (value.Mut r)
ending_is (Some (value.Mut q)) r e = let same : q ≡ r = cc in ap (λ z. Some (value.Mut z)) same
ending_is _ r e = absurd (cc e)

ending_no_write : (v : Option Value) (p : Lval) → ending v ≡ writes p → ⊥
ending_no_write (Some (value.Mut q)) p e = cc e
ending_no_write _ p e = cc e

ending_no_lend : (v : Option Value) (p : Lval) → ending v ≡ lends p → ⊥
ending_no_lend (Some (value.Mut q)) p e = cc e
ending_no_lend _ p e = cc e

one_write : (w p : Lval) → writes w ≡ writes p → w ≡ p
one_write w p e = cc

one_lend : (w p : Lval) → lends w ≡ lends p → w ≡ p
one_lend w p e = cc

writes_of : (o : Option Instr) (t : ThreadState) (p : Lval) → path_of o t ≡ writes p → (i : Instr) × (o ≡ Some i) × WritesTo i p
writes_of (Some (instr.Read w true)) t p e = by w.depth e
  where
    by : (d : ℕ) → taking w d ≡ writes p → (i : Instr) × (Some (instr.Read w true) ≡ Some i) × WritesTo i p
    by zero q = absurd (cc q)
    by (suc d) q = (instr.Read w true, refl, subst (WritesTo (instr.Read w true)) (one_write w p q) moves)
writes_of (Some (instr.Assign w o)) t p e = by w.depth e
  where
    by : (d : ℕ) → assigning t.slots w d ≡ writes p → (i : Instr) × (Some (instr.Assign w o) ≡ Some i) × WritesTo i p
    by zero q = absurd (ending_no_write (slice_get t.slots w.slot) p q)
    by (suc d) q = (instr.Assign w o, refl, subst (WritesTo (instr.Assign w o)) (one_write w p q) assigns)
writes_of (Some instr.DropSlot) t p e = absurd (ending_no_write (slice_get t.slots (length t.slots - 1)) p e)
writes_of (Some instr.Discard) t p e = absurd (ending_no_write (slice_get t.temps (length t.temps - 1)) p e)
writes_of (Some (instr.Read w false)) t p e = absurd (cc e)
writes_of (Some _) t p e = absurd (cc e)
writes_of None t p e = absurd (cc e)

pub lends_of : (o : Option Instr) (t : ThreadState) (p : Lval) → path_of o t ≡ lends p → o ≡ Some (instr.BorrowMut p)
lends_of (Some (instr.BorrowMut w)) t p e = ap (λ z. Some (instr.BorrowMut z)) (one_lend w p e)
lends_of (Some (instr.Read w true)) t p e = by w.depth e
  where
    by : (d : ℕ) → taking w d ≡ lends p → Some (instr.Read w true) ≡ Some (instr.BorrowMut p)
    by zero q = absurd (cc q)
    by (suc d) q = absurd (cc q)
lends_of (Some (instr.Assign w o)) t p e = by w.depth e
  where
    by : (d : ℕ) → assigning t.slots w d ≡ lends p → Some (instr.Assign w o) ≡ Some (instr.BorrowMut p)
    by zero q = absurd (ending_no_lend (slice_get t.slots w.slot) p q)
    by (suc d) q = absurd (cc q)
lends_of (Some instr.DropSlot) t p e = absurd (ending_no_lend (slice_get t.slots (length t.slots - 1)) p e)
lends_of (Some instr.Discard) t p e = absurd (ending_no_lend (slice_get t.temps (length t.temps - 1)) p e)
lends_of (Some (instr.Read w false)) t p e = absurd (cc e)
lends_of (Some _) t p e = absurd (cc e)
lends_of None t p e = absurd (cc e)

-- the reference that ends stands in a slot or is a temporary value
abbrev Ended : ThreadState → MutRef → Type 0
Ended t r = ((i : ℕ) × (slice_get t.slots i ≡ Some (value.Mut r))) ⊎ ((i : ℕ) × (slice_get t.temps i ≡ Some (value.Mut r)))

ends_of : (o : Option Instr) (t : ThreadState) (r : MutRef) → path_of o t ≡ ends r → Ended t r
ends_of (Some (instr.Read w true)) t r e = by w.depth e
  where
    by : (d : ℕ) → taking w d ≡ ends r → Ended t r
    by zero q = absurd (cc q)
    by (suc d) q = absurd (cc q)
ends_of (Some (instr.Assign w o)) t r e = by w.depth e
  where
    by : (d : ℕ) → assigning t.slots w d ≡ ends r → Ended t r
    by zero q = inl (w.slot, ending_is (slice_get t.slots w.slot) r q)
    by (suc d) q = absurd (cc q)
ends_of (Some instr.DropSlot) t r e = inl (length t.slots - 1, ending_is (slice_get t.slots (length t.slots - 1)) r e)
ends_of (Some instr.Discard) t r e = inr (length t.temps - 1, ending_is (slice_get t.temps (length t.temps - 1)) r e)
ends_of (Some (instr.Read w false)) t r e = absurd (cc e)
ends_of (Some _) t r e = absurd (cc e)
ends_of None t r e = absurd (cc e)

-- WHAT IS WAITED FOR

read_mut : (c : ℕ) (v : Value) (a : Awaited) → Among a (to_read c (Some v)) → a.comes ≡ true → (r : MutRef) × (v ≡ value.Mut r) × (r.object ≡ a.object)
read_mut c (value.Mut r) a (inl q) e = (r, refl, ap (λ (x : Awaited). x.object) q)
read_mut c (value.Mut r) a (inr m) e = absurd m
read_mut c (value.Shared r) a (inl q) e = let no : false ≡ true = ap (λ (x : Awaited). x.comes) q ∙ e in absurd (cc no)
read_mut c (value.Shared r) a (inr m) e = absurd m
read_mut c (value.Own (owned.Box p)) a (inl q) e = let no : false ≡ true = ap (λ (x : Awaited). x.comes) q ∙ e in absurd (cc no)
read_mut c (value.Own (owned.Box p)) a (inr m) e = absurd m
read_mut c (value.Own v) a m e = absurd m
read_mut c _ a m e = absurd m

clean_mut : (c : ℕ) (v : Value) (a : Awaited) → Among a (to_clean c (Some v)) → (r : MutRef) × (v ≡ value.Mut r) × (r.object ≡ a.object)
clean_mut c (value.Mut r) a m = by (is_spent c r) m
  where
    by : (b : Bool) → Among a (if b then record { word = r.word; object = r.object; comes = true; by_copy = false } ∷ [] else []) → (q : MutRef) × (value.Mut r ≡ value.Mut q) × (q.object ≡ a.object)
    by true (inl q) = (r, refl, ap (λ (x : Awaited). x.object) q)
    by true (inr m) = absurd m
    by false m = absurd m
clean_mut c _ a m = absurd m

write_leads : (n : ℕ) (v : Value) (a : Awaited) → Among a (to_write (Some v)) → leads n (Some v) ≡ Some (in_cell a.object)
write_leads n (value.Own (owned.Box p)) a (inl q) = ap (λ (x : Awaited). Some (in_cell x.object)) q
write_leads n (value.Own (owned.Box p)) a (inr m) = absurd m
write_leads n (value.Own v) a m = absurd m
write_leads n (value.Mut r) a (inl q) = ap (λ (x : Awaited). Some (in_cell x.object)) q
write_leads n (value.Mut r) a (inr m) = absurd m
write_leads n _ a m = absurd m

has_star : (slot : ℕ) (h : Lval) (d : ℕ) → is_held_at slot d h ≡ true → (s : ℕ) × (d ≡ suc s)
has_star slot h zero e = absurd (cc e)
has_star slot h (suc s) e = (s, refl)

-- CHAINS

module _ (k : Cluster) (c : HasPaths k) (z : Standing) (g : GoesOn k z) where
  abbrev st : Store
  st = heap_store k c.types

  abbrev E : KeyTypes
  E = c.types.typing.exact

  abbrev ground : Ground
  ground = (sight k).ground

  abbrev n : ℕ
  n = z.thread.number

  -- the object stands in a chain of a slot of the thread
  pub record OwnObject (o : ObjNo) : Type 0 where
    pub slot : ℕ
    pub boxes : ℕ
    pub leads_there : below_key st (slot_k n slot) boxes ≡ Some (at_object o)

  -- a place of the thread that leads there over boxes and mutable references
  way_chain : (slot m : ℕ) (b : Key) (nb : ℕ) (p : Exact) (o : ObjNo) → Resolves E true (slot_k n slot) m b nb p → locate ground n slot m ≡ Some (in_cell o) → OwnObject o
  way_chain slot m b nb p o res there =
      let base = base_in (OwnSlot k c n) E (own_closed k c z g) (slot_k n slot) m b nb p (slot, refl) res in
      let hw = (leads_in_heap k c z g slot m (in_cell o) there).0 in
      let chain = sym (sound c.types.typing.rank E st c.types.state.typed true (slot_k n slot) m b nb p res) ∙ hw in
      record { slot = base.0; boxes = nb; leads_there = subst (λ y. below_key st y nb ≡ Some (at_object o)) base.1 chain }

  mut_chain : (m : Location) (q : MutRef) → MutThere k c z m q → OwnObject q.object
  mut_chain m q t =
      let u : StorePlace = record { key = slot_k n t.place.slot; depth = t.place.depth } in
      let f = ref_at c.types.typing.rank E st c.types.state.typed t.key true u t.exact in
      let target = ref_is (sym f.is ∙ t.shown) in
      let base = base_in (OwnSlot k c n) E (own_closed k c z g) u.key u.depth f.base f.boxes f.type (t.place.slot, refl) f.res in
      record { slot = base.0; boxes = f.boxes; leads_there = subst (λ y. below_key st y f.boxes ≡ Some (at_object q.object)) base.1 (f.leads ∙ ap Some target) }

  -- a mutable reference that a place follows stands in a slot
  hop_mut : (slot i : ℕ) (l : Location) (r : MutRef) → HopOf ground n slot i l (value.Mut r) → OwnObject r.object
  hop_mut slot i l r hop = by l (leads_in_heap k c z g slot i l (paths_law.locates ground n slot i l hop.path)).1 hop.stands
    where
      in_no_cell : (d : Option Cell) → value_of d ≡ Some (value.Mut r) → ⊥
      in_no_cell None e = cc e
      in_no_cell (Some x) e = cc e

      by : (m : Location) → IsShown k c z g m → value_in ground m ≡ Some (value.Mut r) → OwnObject r.object
      by _ (a_slot j) e = let there = sym (ap (λ o. slot_of o j) (stands_there k c z g)) ∙ e in mut_chain (at_slot n j) r (slot_there k c z g j r there)
      by _ (an_object o v h) e = absurd (in_no_cell (cell_of ground.cells o) e)

  by_mut : (slot i : ℕ) (l : Location) (v : Value) (a : Awaited) → HopOf ground n slot i l v → (r : MutRef) × (v ≡ value.Mut r) × (r.object ≡ a.object) → OwnObject a.object
  by_mut slot i l v a hop q = subst OwnObject q.2 (hop_mut slot i l q.0 (subst (HopOf ground n slot i l) q.1 hop))

  -- one star more
  next_there : (slot i : ℕ) (l : Location) (v : Value) (a : Awaited) → HopOf ground n slot i l v → Among a (to_write (Some v)) → locate ground n slot (suc i) ≡ Some (in_cell a.object)
  next_there slot i l v a hop m = ap (λ o. leads n (value_behind ground o)) (paths_law.locates ground n slot i l hop.path) ∙ ap (leads n) hop.stands ∙ write_leads n v a m

  -- the hop of a place that is followed for writing
  by_hop : (w : Lval) (i : ℕ) (b : Key) (nb : ℕ) (p : Exact) (a : Awaited) → Resolves E true (slot_k n w.slot) w.depth b nb p → i < w.depth → IsAsked (sight k) z w i to_write a → OwnObject a.object
  by_hop w i b nb p a res lt asked =
      let s = shorter E true (slot_k n w.slot) (w.depth - suc i) w.depth (suc i) b nb p (omega (arith, lt)) res in
      way_chain w.slot (suc i) s.base s.boxes s.type a.object s.res (next_there w.slot i asked.location asked.value a asked.hop asked.asked)

  by_writing : (i : Instr) (w : Lval) (j : ℕ) (a : Awaited) → instr_of (sight k) z ≡ Some i → WritesTo i w → j < w.depth → IsAsked (sight k) z w j to_write a → OwnObject a.object
  by_writing i w j a at granted lt asked = let may = may_write_there k c z g i w at granted in by_hop w j may.base may.boxes may.type a may.resolves lt asked

  -- the holder's place of a reference that ends
  by_held : (m : Location) (q : MutRef) (j : ℕ) (a : Awaited) → MutThere k c z m q → j < q.holder.depth → IsAsked (sight k) z q.holder j to_write a → OwnObject a.object
  by_held m q j a t lt asked =
      let at_holder = and_second (same_place (leads n (Some (value.Mut q))) (place_at ground n t.place)) (is_held_at t.place.slot t.place.depth q.holder) t.leads_so in
      let s = has_star t.place.slot q.holder t.place.depth at_holder in
      let h = held_as t.place.slot s.0 t.place.depth q s.1 at_holder in
      let u : StorePlace = record { key = slot_k n t.place.slot; depth = t.place.depth } in
      let f = ref_at c.types.typing.rank E st c.types.state.typed t.key true u t.exact in
      let w = shorter E true u.key (t.place.depth - suc j) t.place.depth (suc j) f.base f.boxes f.type (omega (arith, lt, h.1, s.1)) f.res in
      way_chain t.place.slot (suc j) w.base w.boxes w.type a.object w.res
      (subst (λ y. locate ground n y (suc j) ≡ Some (in_cell a.object)) h.0 (next_there q.holder.slot j asked.location asked.value a asked.hop asked.asked))

  at_ended : {X : Type 0} (r : MutRef) → Ended z.thread r → ((m : Location) → MutThere k c z m r → X) → X
  at_ended r (inl s) go = go (at_slot n s.0) (slot_there k c z g s.0 r s.1)
  at_ended r (inr s) go = go (at_temp n s.0) (temp_there k c z g s.0 r s.1)

  -- PATH BY PATH

  of_asked : (w : Lval) (j : ℕ) (f : Option Value → List Awaited) (a : Awaited) → IsAsked (sight k) z w j f a → ((v : Value) → Among a (f (Some v)) → (r : MutRef) × (v ≡ value.Mut r) × (r.object ≡ a.object)) → OwnObject a.object
  of_asked w j f a asked mut = by_mut w.slot j asked.location asked.value a asked.hop (mut asked.value asked.asked)

  abbrev colours : ℕ
  colours = (sight k).options.colours

  at_read : (p : Path) (j : ℕ) (a : Awaited) → path (sight k) z ≡ p → AwaitsAt (sight k) z p j a → a.comes ≡ true → OwnObject a.object
  at_read _ _ a at (read_at w j _ lt asked) comes = of_asked w j (to_read colours) a asked (λ v m. read_mut colours v a m comes)
  at_read _ _ a at (before_share w j _ lt asked) comes = of_asked w j (to_read colours) a asked (λ v m. read_mut colours v a m comes)
  at_read _ _ a at (at_share w j _ last asked) comes = of_asked w j (to_clean colours) a asked (λ v m. clean_mut colours v a m)
  at_read _ _ a at (before_lend w j _ lt asked) comes = of_asked w j (to_read colours) a asked (λ v m. read_mut colours v a m comes)
  at_read _ _ a at (at_lend w j _ last asked) comes = by_writing (instr.BorrowMut w) w j a (lends_of (instr_of (sight k) z) z.thread w at) lends_to (omega (arith, last)) asked

  at_next : (p : Lval) (a : Awaited) → path (sight k) z ≡ writes p → NextHop (sight k) z p a → OwnObject a.object
  at_next p a at next = let i = writes_of (instr_of (sight k) z) z.thread p at in by_writing i.0 p z.thread.passed a i.1 i.2 next.within next.asked

  ended_object : (r : MutRef) (a : Awaited) → Among a (to_write (Some (value.Mut r))) → r.object ≡ a.object
  ended_object r a (inl q) = ap (λ (x : Awaited). x.object) q
  ended_object r a (inr m) = absurd m

  pub comes_own : (w : ℕ) (a : Awaited) (p : Path) → path (sight k) z ≡ p → InTurn (sight k) z w a p → a.comes ≡ true → OwnObject a.object
  comes_own w a _ at (by_read p f) comes = at_read (reads p) f.number a at f.at comes
  comes_own w a _ at (by_share p f) comes = at_read (shares p) f.number a at f.at comes
  comes_own w a _ at (by_lend p f) comes = at_read (lends p) f.number a at f.at comes
  comes_own w a _ at (by_write p next) comes = at_next p a at next
  comes_own w a _ at (by_end r word m) comes = at_ended r (ends_of (instr_of (sight k) z) z.thread r at) (λ l t. subst OwnObject (ended_object r a m) (mut_chain l r t))
  comes_own w a _ at (by_holder r ne next) comes = at_ended r (ends_of (instr_of (sight k) z) z.thread r at) (λ l t. by_held l r z.thread.passed a t next.within next.asked)
