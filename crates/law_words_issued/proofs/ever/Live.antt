-- The word of an object that lies somewhere was issued, or is that under which it is on its way; and each pointer is to such an object.
use Rattle.std.proofs.Common.{◌≡◌, ◌⊎◌, inl, inr, ⊎_elim, ℕ, ◌≤◌, ◌==◌, ◌&&◌, true, nat_le, Option, Some, None, refl, ap, ap₂, subst, ◌∙◌, arith}
use Rattle.std.specs.Prelude.{slice_get}
use Rattle.std.proofs.lemmas.Bool.{eq-eqb}
use Rattle.std.proofs.lemmas.Bool.Decides.{nat_tests}
use Rattle.law_words_issued.specs.Below.fr_base.declared.name.ObjNo.{ObjNo}
use Rattle.law_words_issued.specs.Below.global_addr.Words.{colour_of, server_of, address_of}
use Rattle.law_words_issued.specs.Below.heap_partition.declared.value.Cell.{Cell}
use Rattle.law_words_issued.specs.Below.heap_partition.declared.value.Owned.{Owned}
use Rattle.law_words_issued.specs.Below.heap_partition.declared.value.Owned.TheVariants as owned
use Rattle.law_words_issued.specs.Below.mut_borrow.declared.mutable.MutRef.{MutRef}
use Rattle.law_words_issued.specs.Below.mut_borrow.declared.shared.SharedRef.{SharedRef}
use Rattle.law_words_issued.specs.Below.thread_state.declared.value.Value.TheVariants as value
use Rattle.law_words_issued.specs.Below.server_msgs.declared.message.Message.{Message}
use Rattle.law_words_issued.specs.Below.server_msgs.declared.message.Message.TheVariants.{Drop}
use Rattle.law_words_issued.specs.Below.server_model.Servers.{Cluster}
use Rattle.law_words_issued.specs.Below.fr_store.Keys.{Key, slot_k, temp_k}
use Rattle.law_words_issued.specs.Below.fr_store.Store.{Store, at_object, ref_v}
use Rattle.law_words_issued.specs.Below.coherent_memory.Names.{Among, tot, one, other, same_object, boxes}
use Rattle.law_words_issued.specs.Below.coherent_memory.Things.{Location, at_slot, at_temp, in_cell, Thing, holds, shares, borrows, lies, flies, sent, things_of}
use Rattle.law_words_issued.specs.Below.coherent_memory.Follow.{Standing}
use Rattle.law_words_issued.specs.Below.coherent_memory.Sight.{Pointer, pointer_in, location_of, dropped_pointer, pointers_of, pointers_in, colour_up_to, word_of_object, sight}
use Rattle.law_words_issued.specs.Below.coherent_memory.Weights.{cells, drops, owners}
use Rattle.law_words_issued.specs.Below.coherent_memory.Words.{HasWords}
use Rattle.law_words_issued.proofs.Below.coherent_memory.Words.{none_at, named, itself, words_law}
use Rattle.law_words_issued.specs.Below.law_words_paths.paths.HeapStore.{heap_store, GoesOn}
use Rattle.law_words_issued.proofs.Below.law_words_paths.paths.Alike.{there_of, cell_there, slot_shared, slot_mut, temp_shared, temp_mut}
use Rattle.law_words_issued.proofs.Below.law_words_paths.paths.Pointers.{Stood, borrowed_at, shared_at}
use Rattle.law_words_issued.proofs.Below.law_words_paths.words.Standing.{CellOf, lying, flying, cell_among, of_thing, pointers_among}
use Rattle.law_words_issued.proofs.Below.law_words_kept.reads.Flights.{found, truly}
use Rattle.law_words_issued.proofs.Below.law_words_kept.reads.Homes.{of_all}
use Rattle.law_words_issued.proofs.Below.law_counts_waiting.waits.Found.{among_weighs}
use Rattle.law_words_issued.specs.old.Old.{unissued}
use Rattle.law_words_issued.proofs.stays.Rising.{issued_among}
use Rattle.law_words_issued.specs.ever.Standing.{flown_words, FormerWords, Settled}

-- the box of a pointer that a value has
box_of : (l : Option Location) (v : Owned) (q : Pointer) → Among q (pointer_in l v) → 1 ≤ boxes q.object v
box_of l (owned.Box b) q (inl e) = let w : one (same_object b.object q.object) ≡ 1 = ap one (itself b.object q.object (ap (λ (x : Pointer). x.object) e)) in omega (arith, w)
box_of l (owned.Box b) q (inr h) = absurd h
box_of l owned.Nothing q h = absurd h
box_of l owned.Unit q h = absurd h
box_of l (owned.Int i) q h = absurd h
box_of l (owned.Mutex m) q h = absurd h
box_of l (owned.Task u) q h = absurd h

-- that of a `drop` message
drop_of : (m : Message) (q : Pointer) → Among q (dropped_pointer m) → 1 ≤ drops q.object m
drop_of (Drop w o) q (inl e) = let s : one (same_object o q.object) ≡ 1 = ap one (itself o q.object (ap (λ (x : Pointer). x.object) e)) in omega (arith, s)
drop_of (Drop w o) q (inr h) = absurd h
drop_of _ q h = absurd h

module _ (k : Cluster) (s : Settled k) (old : FormerWords (unissued k) (sight k)) where
  abbrev f : ℕ → ℕ
  f = unissued k

  abbrev words : HasWords (sight k)
  words = s.has_words

  abbrev st : Store
  st = heap_store k s.paths.types

  -- where the object lies
  at_home : (r a : ℕ) (c : Cell) → Among (lies r a c) (things_of k) → f (words.word c.object) ≡ 0
  at_home r a c m =
      let w = words.word c.object in
      let l = words.home r a c m in
      let low : nat_le (colour_of w) (colour_of w) ≡ true = grind (arith, nat_tests) in
      let told : word_of_object (sight k).pointers c.object ≡ Some w = words_law.first_tells k words c.object (words.live r a c m) in
      let up : colour_up_to (word_of_object (sight k).pointers c.object) w ≡ true = ap (λ p. colour_up_to p w) told ∙ low in
      let spot : (server_of w == r && address_of w == a) ≡ true = ap₂ (λ p q. p && q) (eq-eqb (server_of w) r l.server) (eq-eqb (address_of w) a l.address) in
      ap other (issued_among (sight k).options.colours w (sight k).pointers (lies r a c) (things_of k) m (ap₂ (λ p q. p && q) spot up))

  -- or is under way
  under_way : (v : ℕ) (c : Cell) → Among (flies v c) (things_of k) → f (words.word c.object) ≡ 0
  under_way v c m =
      let p : Pointer = record { at = None; word = v; object = c.object } in
      let same : v ≡ words.word c.object = ⊎_elim (λ (z : ⊥). absurd z) (λ (e : v ≡ words.word c.object). e) (of_all k words p (pointers_among p (flies v c) (things_of k) m (inl refl))) in
      subst (λ w. f w ≡ 0) same (none_at (flown_words f) (flies v c) (things_of k) old.flights m)

  pub alive : (c : Cell) (y : Thing) → CellOf c y → Among y (things_of k) → f (words.word c.object) ≡ 0
  alive c _ (lying r a) m = at_home r a c m
  alive c _ (flying v) m = under_way v c m

  of_cells : (o : ObjNo) → 1 ≤ tot (cells o) (things_of k) → f (words.word o) ≡ 0
  of_cells o l = let it = found (cells o) (things_of k) l in by it.0 it.1 it.2
    where
      by : (y : Thing) → Among y (things_of k) → 1 ≤ cells o y → f (words.word o) ≡ 0
      by (lies r a c) h n = subst (λ q. f (words.word q) ≡ 0) (named c.object o (truly (same_object c.object o) n)) (at_home r a c h)
      by (flies v c) h n = subst (λ q. f (words.word q) ≡ 0) (named c.object o (truly (same_object c.object o) n)) (under_way v c h)
      by _ h n = absurd (omega (arith, n))

  -- what is owned has a cell
  of_owner : (o : ObjNo) (y : Thing) → Among y (things_of k) → 1 ≤ owners o y → f (words.word o) ≡ 0
  of_owner o y h l = of_cells o (omega (arith, l, among_weighs (owners o) y (things_of k) h, s.paths.owner_of_each o))

  -- and so has that to which a reference leads
  referred : (x : Standing) (go : GoesOn k x) (key : Key) (o : ObjNo) → st.at key ≡ ref_v (at_object o) → f (words.word o) ≡ 0
  referred x go key o at =
      let t = there_of s.paths.types.typing.rank s.paths.types.typing.exact st s.paths.types.state.typed key (at_object o) at in
      let c = cell_there k s.paths x go o t.0 t.1 in
      let i = cell_among o c.0 (things_of k) c.1 in
      subst (λ q. f (words.word q) ≡ 0) i.object (alive c.0 i.thing i.is i.among)

  of_shared : (l : Location) (r : SharedRef) → Among (shares l r) (things_of k) → f (words.word r.object) ≡ 0
  of_shared l r h = by z.at
    where
      z : Stood k s.paths l (value.Shared r)
      z = shared_at k s.paths l r h

      by : ((l ≡ at_slot z.thread.thread.number z.number) × (slice_get z.thread.thread.slots z.number ≡ Some (value.Shared r))) ⊎ ((l ≡ at_temp z.thread.thread.number z.number) × (slice_get z.thread.thread.temps z.number ≡ Some (value.Shared r))) → f (words.word r.object) ≡ 0
      by (inl q) = referred z.thread z.goes (slot_k z.thread.thread.number z.number) r.object (slot_shared k s.paths z.thread z.goes z.number r q.1)
      by (inr q) = referred z.thread z.goes (temp_k z.thread.thread.number z.number) r.object (temp_shared k s.paths z.thread z.goes z.number r q.1)

  of_lent : (l : Location) (r : MutRef) → Among (borrows l r) (things_of k) → f (words.word r.object) ≡ 0
  of_lent l r h = by z.at
    where
      z : Stood k s.paths l (value.Mut r)
      z = borrowed_at k s.paths l r h

      by : ((l ≡ at_slot z.thread.thread.number z.number) × (slice_get z.thread.thread.slots z.number ≡ Some (value.Mut r))) ⊎ ((l ≡ at_temp z.thread.thread.number z.number) × (slice_get z.thread.thread.temps z.number ≡ Some (value.Mut r))) → f (words.word r.object) ≡ 0
      by (inl q) = referred z.thread z.goes (slot_k z.thread.thread.number z.number) r.object (slot_mut k s.paths z.thread z.goes z.number r q.1)
      by (inr q) = referred z.thread z.goes (temp_k z.thread.thread.number z.number) r.object (temp_mut k s.paths z.thread z.goes z.number r q.1)

  of_pointer : (y : Thing) → Among y (things_of k) → (q : Pointer) → Among q (pointers_of y) → f (words.word q.object) ≡ 0
  of_pointer (holds p v) h q m = of_owner q.object (holds p v) h (box_of (location_of p) v q m)
  of_pointer (shares l r) h q (inl e) = subst (λ (x : Pointer). f (words.word x.object) ≡ 0) e (of_shared l r h)
  of_pointer (shares l r) h q (inr m) = absurd m
  of_pointer (borrows l r) h q (inl e) = subst (λ (x : Pointer). f (words.word x.object) ≡ 0) e (of_lent l r h)
  of_pointer (borrows l r) h q (inr m) = absurd m
  of_pointer (lies r a c) h q m = of_owner q.object (lies r a c) h (box_of (Some (in_cell c.object)) c.value q m)
  of_pointer (flies v c) h q (inl e) = subst (λ (x : Pointer). f (words.word x.object) ≡ 0) e (under_way v c h)
  of_pointer (flies v c) h q (inr m) = of_owner q.object (flies v c) h (box_of (Some (in_cell c.object)) c.value q m)
  of_pointer (sent r l) h q m = of_owner q.object (sent r l) h (drop_of l q m)
  of_pointer _ h q m = absurd m

  -- the word of the object to which a pointer is
  pub object_issued : (q : Pointer) → Among q (pointers_in (things_of k)) → f (words.word q.object) ≡ 0
  object_issued q h = let y = of_thing q (things_of k) h in of_pointer y.thing y.among q y.pointer
