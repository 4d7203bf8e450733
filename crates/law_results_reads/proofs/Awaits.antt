-- A thread that an object comes to waits for it on its path, and follows it by boxes and mutable references of its own alone.
use Rattle.std.proofs.Common.{◌≡◌, ◌⊎◌, inl, inr, ◌≤◌, ◌<◌, ℕ, zero, suc, ◌-◌, ◌==◌, ◌&&◌, Bool, true, false, if◌then◌else◌, List, [], ◌∷◌, length, Option, Some, None, refl, sym, ap, subst, ◌∙◌, arith}
use Rattle.std.specs.Prelude.{slice_get}
use Rattle.std.proofs.lemmas.Bool.{eqb-true}
use Rattle.law_counts_sums.specs.Below.fr_base.Lists.{last_of}
use Rattle.law_counts_sums.specs.Below.fr_base.declared.name.ObjNo.{ObjNo}
use Rattle.law_counts_sums.specs.Below.fr_base.declared.place.Lval.{Lval}
use Rattle.law_counts_sums.specs.Below.fr_base.declared.instruction.Instr.{Instr}
use Rattle.law_counts_sums.specs.Below.fr_base.declared.instruction.Instr.TheVariants as instr
use Rattle.law_counts_sums.specs.Below.fr_store.Keys.{slot_k}
use Rattle.law_counts_sums.specs.Below.fr_store.Store.{at_key, at_object, Store, Place as StorePlace, walk}
use Rattle.law_counts_sums.specs.Below.fr_store.Typed.{KeyTypes}
use Rattle.law_counts_sums.proofs.Below.fr_store.Sound.{ref_at}
use Rattle.law_counts_sums.specs.Below.heap_partition.declared.value.Cell.{Cell}
use Rattle.law_counts_sums.specs.Below.heap_partition.declared.value.BoxPtr.{BoxPtr}
use Rattle.law_counts_sums.specs.Below.heap_partition.declared.value.Owned.TheVariants as owned
use Rattle.law_counts_sums.specs.Below.mut_borrow.declared.mutable.MutRef.{MutRef}
use Rattle.law_counts_sums.specs.Below.thread_state.View.{ThreadState, is_over}
use Rattle.law_counts_sums.specs.Below.thread_state.declared.value.Value.{Value}
use Rattle.law_counts_sums.specs.Below.thread_state.declared.value.Value.TheVariants as value
use Rattle.law_counts_sums.specs.Below.thread_state.declared.phase.Phase.{Phase}
use Rattle.law_counts_sums.specs.Below.thread_state.declared.phase.Phase.TheVariants as phase
use Rattle.law_counts_sums.specs.Below.server_msgs.declared.message.Message.TheVariants as message
use Rattle.law_counts_sums.specs.Below.server_model.Servers.{Cluster}
use Rattle.law_counts_sums.specs.Below.coherent_memory.Names.{tot, other, Among, same_object}
use Rattle.law_counts_sums.specs.Below.coherent_memory.Things.{Location, at_slot, at_temp, in_cell, flies, sent, things_of}
use Rattle.law_counts_sums.specs.Below.coherent_memory.Follow.{Standing, Ground, thread_at, cell_of, value_in, value_behind, value_of, slot_of, leads, locate, place_at}
use Rattle.law_counts_sums.specs.Below.coherent_memory.Sight.{sight}
use Rattle.law_counts_sums.specs.Below.coherent_memory.Paths.{Path, reads, shares, lends, writes, ends, path_of, taking, assigning, ending, Awaited, to_read, to_write, to_clean, is_spent}
use Rattle.law_counts_sums.specs.Below.coherent_memory.Passing.{HopOf}
use Rattle.law_counts_sums.specs.Below.coherent_memory.Walking.{path, instr_of, asked_for, asks_for}
use Rattle.law_counts_sums.specs.Below.coherent_memory.Requests.{is_cell, in_phase, carries}
use Rattle.law_counts_sums.specs.Below.coherent_memory.Turn.{AwaitsAt, read_at, before_share, at_share, before_lend, at_lend, InTurn, by_read, by_share, by_lend, by_write, by_end, by_holder}
use Rattle.law_counts_sums.specs.Below.coherent_memory.Coherent.{IsSound}
use Rattle.law_counts_sums.proofs.Below.coherent_memory.Names.{and_left, and_right}
use Rattle.law_counts_sums.proofs.Below.coherent_memory.Words.{named, itself, none_at}
use Rattle.law_counts_sums.proofs.Below.coherent_memory.Passing.{paths_law}
use Rattle.law_counts_sums.proofs.Askers.{other_none}
use Rattle.law_words_paths.specs.Below.coherent_types.ClusterTypes.{same_place, is_held_at}
use Rattle.law_words_paths.specs.paths.HeapStore.{heap_store, GoesOn, HasPaths}
use Rattle.law_words_paths.specs.paths.Pointing.{WritesTo, assigns, moves, lends as lends_it}
use Rattle.law_words_paths.proofs.paths.Alike.{leads_in_heap, IsShown, a_slot, an_object}
use Rattle.law_words_paths.proofs.paths.Circles.{shorter}
use Rattle.law_words_paths.proofs.paths.Climbs.{held_as, and_second}
use Rattle.law_words_paths.proofs.paths.Contained.{among_thread}
use Rattle.law_words_paths.proofs.paths.FreshPaths.{MutThere, slot_there}
use Rattle.law_words_paths.proofs.paths.MayWrites.{may_write_there}
use Rattle.law_words_paths.proofs.paths.Shown.{stands_there}
use Rattle.law_results_reads.proofs.Flights.{brought}
use Rattle.law_results_reads.proofs.Made.{temp_there, has_star, OwnedBy, own_path, own_reference}
use Rattle.law_results_reads.proofs.Alone.{strays, all_less, needed_less, is_asked}

-- WHICH INSTRUCTION HAS THE PATH

writes_same : {p q : Lval} → writes p ≡ writes q → p ≡ q
writes_same e = cc

lends_same : {p q : Lval} → lends p ≡ lends q → p ≡ q
lends_same e = cc

ends_same : {p q : MutRef} → ends p ≡ ends q → p ≡ q
ends_same e = cc

-- a write is that of an assignment or of a move
pub record IsWriter (o : Option Instr) (p : Lval) : Type 0 where
  pub instruction : Instr
  pub is : o ≡ Some instruction
  pub writes_to : WritesTo instruction p

taken_path : (w p : Lval) (d : ℕ) → taking w d ≡ writes p → w ≡ p
taken_path w p zero e = absurd cc
taken_path w p (suc d) e = writes_same e

ending_no_write : (v : Option Value) (p : Lval) → ending v ≡ writes p → ⊥
ending_no_write None p e = absurd cc
ending_no_write (Some (value.Mut r)) p e = absurd cc
ending_no_write (Some value.Gone) p e = absurd cc
ending_no_write (Some (value.Own v)) p e = absurd cc
ending_no_write (Some (value.SharedSlot i)) p e = absurd cc
ending_no_write (Some (value.MutSlot i)) p e = absurd cc
ending_no_write (Some (value.Shared r)) p e = absurd cc
ending_no_write (Some (value.Held m)) p e = absurd cc

assigned_path : (slots : List Value) (w p : Lval) (d : ℕ) → assigning slots w d ≡ writes p → w ≡ p
assigned_path slots w p zero e = absurd (ending_no_write (slice_get slots w.slot) p e)
assigned_path slots w p (suc d) e = writes_same e

writer : (o : Option Instr) (t : ThreadState) (p : Lval) → path_of o t ≡ writes p → IsWriter o p
writer None t p e = absurd cc
writer (Some (instr.Read w true)) t p e = record { instruction = instr.Read w true; is = refl; writes_to = subst (WritesTo (instr.Read w true)) (taken_path w p w.depth e) moves }
writer (Some (instr.Read w false)) t p e = absurd cc
writer (Some (instr.Assign w o)) t p e = record { instruction = instr.Assign w o; is = refl; writes_to = subst (WritesTo (instr.Assign w o)) (assigned_path t.slots w p w.depth e) assigns }
writer (Some (instr.Dup w)) t p e = absurd cc
writer (Some (instr.Lock w)) t p e = absurd cc
writer (Some (instr.Borrow w)) t p e = absurd cc
writer (Some (instr.BorrowMut w)) t p e = absurd cc
writer (Some instr.DropSlot) t p e = absurd (ending_no_write (last_of t.slots) p e)
writer (Some instr.Discard) t p e = absurd (ending_no_write (last_of t.temps) p e)
writer (Some (instr.Let o)) t p e = absurd cc
writer (Some (instr.Box o)) t p e = absurd cc
writer (Some (instr.Arith f a b)) t p e = absurd cc
writer (Some (instr.Print o)) t p e = absurd cc
writer (Some (instr.Spawn cs pc)) t p e = absurd cc
writer (Some (instr.Join o)) t p e = absurd cc
writer (Some (instr.Mutex o)) t p e = absurd cc
writer (Some instr.Unlock) t p e = absurd cc
writer (Some (instr.Par cs pc ds other)) t p e = absurd cc
writer (Some instr.ParEnd) t p e = absurd cc
writer (Some (instr.End o)) t p e = absurd cc

ending_no_lend : (v : Option Value) (p : Lval) → ending v ≡ lends p → ⊥
ending_no_lend None p e = absurd cc
ending_no_lend (Some (value.Mut r)) p e = absurd cc
ending_no_lend (Some value.Gone) p e = absurd cc
ending_no_lend (Some (value.Own v)) p e = absurd cc
ending_no_lend (Some (value.SharedSlot i)) p e = absurd cc
ending_no_lend (Some (value.MutSlot i)) p e = absurd cc
ending_no_lend (Some (value.Shared r)) p e = absurd cc
ending_no_lend (Some (value.Held m)) p e = absurd cc

taken_no_lend : (w p : Lval) (d : ℕ) → taking w d ≡ lends p → ⊥
taken_no_lend w p zero e = absurd cc
taken_no_lend w p (suc d) e = absurd cc

assigned_no_lend : (slots : List Value) (w p : Lval) (d : ℕ) → assigning slots w d ≡ lends p → ⊥
assigned_no_lend slots w p zero e = ending_no_lend (slice_get slots w.slot) p e
assigned_no_lend slots w p (suc d) e = absurd cc

lender : (o : Option Instr) (t : ThreadState) (p : Lval) → path_of o t ≡ lends p → IsWriter o p
lender None t p e = absurd cc
lender (Some (instr.Read w true)) t p e = absurd (taken_no_lend w p w.depth e)
lender (Some (instr.Read w false)) t p e = absurd cc
lender (Some (instr.Assign w o)) t p e = absurd (assigned_no_lend t.slots w p w.depth e)
lender (Some (instr.Dup w)) t p e = absurd cc
lender (Some (instr.Lock w)) t p e = absurd cc
lender (Some (instr.Borrow w)) t p e = absurd cc
lender (Some (instr.BorrowMut w)) t p e = record { instruction = instr.BorrowMut w; is = refl; writes_to = subst (WritesTo (instr.BorrowMut w)) (lends_same e) lends_it }
lender (Some instr.DropSlot) t p e = absurd (ending_no_lend (last_of t.slots) p e)
lender (Some instr.Discard) t p e = absurd (ending_no_lend (last_of t.temps) p e)
lender (Some (instr.Let o)) t p e = absurd cc
lender (Some (instr.Box o)) t p e = absurd cc
lender (Some (instr.Arith f a b)) t p e = absurd cc
lender (Some (instr.Print o)) t p e = absurd cc
lender (Some (instr.Spawn cs pc)) t p e = absurd cc
lender (Some (instr.Join o)) t p e = absurd cc
lender (Some (instr.Mutex o)) t p e = absurd cc
lender (Some instr.Unlock) t p e = absurd cc
lender (Some (instr.Par cs pc ds other)) t p e = absurd cc
lender (Some instr.ParEnd) t p e = absurd cc
lender (Some (instr.End o)) t p e = absurd cc

-- a reference that ends stands in a slot, or among the temporary values
abbrev EndsThere : ThreadState → MutRef → Type 0
EndsThere t r = ((i : ℕ) × (slice_get t.slots i ≡ Some (value.Mut r))) ⊎ ((i : ℕ) × (slice_get t.temps i ≡ Some (value.Mut r)))

ended_value : (v : Option Value) (r : MutRef) → ending v ≡ ends r → v ≡ Some (value.Mut r)
ended_value None r e = absurd cc
ended_value (Some (value.Mut q)) r e = ap (λ x. Some (value.Mut x)) (ends_same e)
ended_value (Some value.Gone) r e = absurd cc
ended_value (Some (value.Own v)) r e = absurd cc
ended_value (Some (value.SharedSlot i)) r e = absurd cc
ended_value (Some (value.MutSlot i)) r e = absurd cc
ended_value (Some (value.Shared q)) r e = absurd cc
ended_value (Some (value.Held m)) r e = absurd cc

taken_no_end : (w : Lval) (r : MutRef) (d : ℕ) → taking w d ≡ ends r → ⊥
taken_no_end w r zero e = absurd cc
taken_no_end w r (suc d) e = absurd cc

ender : (o : Option Instr) (t : ThreadState) (r : MutRef) → path_of o t ≡ ends r → EndsThere t r
ender None t r e = absurd cc
ender (Some (instr.Read w true)) t r e = absurd (taken_no_end w r w.depth e)
ender (Some (instr.Read w false)) t r e = absurd cc
ender (Some (instr.Assign w o)) t r e = by w.depth e
  where
    by : (d : ℕ) → assigning t.slots w d ≡ ends r → EndsThere t r
    by zero f = inl (w.slot, ended_value (slice_get t.slots w.slot) r f)
    by (suc d) f = absurd cc
ender (Some (instr.Dup w)) t r e = absurd cc
ender (Some (instr.Lock w)) t r e = absurd cc
ender (Some (instr.Borrow w)) t r e = absurd cc
ender (Some (instr.BorrowMut w)) t r e = absurd cc
ender (Some instr.DropSlot) t r e = inl (length t.slots - 1, ended_value (last_of t.slots) r e)
ender (Some instr.Discard) t r e = inr (length t.temps - 1, ended_value (last_of t.temps) r e)
ender (Some (instr.Let o)) t r e = absurd cc
ender (Some (instr.Box o)) t r e = absurd cc
ender (Some (instr.Arith f a b)) t r e = absurd cc
ender (Some (instr.Print o)) t r e = absurd cc
ender (Some (instr.Spawn cs pc)) t r e = absurd cc
ender (Some (instr.Join o)) t r e = absurd cc
ender (Some (instr.Mutex o)) t r e = absurd cc
ender (Some instr.Unlock) t r e = absurd cc
ender (Some (instr.Par cs pc ds other)) t r e = absurd cc
ender (Some instr.ParEnd) t r e = absurd cc
ender (Some (instr.End o)) t r e = absurd cc

-- WHAT IS WAITED FOR

-- a box or a mutable reference to the object
pub data IsOwner (o : ObjNo) : Value → Type 0 where
  box_of : (p : BoxPtr) → p.object ≡ o → IsOwner o (value.Own (owned.Box p))
  lent_of : (r : MutRef) → r.object ≡ o → IsOwner o (value.Mut r)

abbrev object_of : {a b : Awaited} → a ≡ b → a.object ≡ b.object
object_of e = ap (λ (x : Awaited). x.object) e

write_owner : (v : Value) (a : Awaited) → Among a (to_write (Some v)) → IsOwner a.object v
write_owner (value.Own (owned.Box p)) a (inl e) = box_of p (object_of e)
write_owner (value.Own (owned.Box p)) a (inr h) = absurd h
write_owner (value.Mut r) a (inl e) = lent_of r (object_of e)
write_owner (value.Mut r) a (inr h) = absurd h
write_owner (value.Own owned.Nothing) a h = absurd h
write_owner (value.Own owned.Unit) a h = absurd h
write_owner (value.Own (owned.Int i)) a h = absurd h
write_owner (value.Own (owned.Mutex m)) a h = absurd h
write_owner (value.Own (owned.Task t)) a h = absurd h
write_owner value.Gone a h = absurd h
write_owner (value.SharedSlot i) a h = absurd h
write_owner (value.MutSlot i) a h = absurd h
write_owner (value.Shared r) a h = absurd h
write_owner (value.Held m) a h = absurd h

-- what comes for a read is that of a mutable reference
abbrev LentTo : Value → ObjNo → Type 0
LentTo v o = (r : MutRef) × (v ≡ value.Mut r) × (r.object ≡ o)

not_coming : {a b : Awaited} → a ≡ b → a.comes ≡ false → b.comes ≡ true → ⊥
not_coming e f g = let no : false ≡ true = sym f ∙ ap (λ (x : Awaited). x.comes) e ∙ g in cc

read_lent : (c : ℕ) (v : Value) (a : Awaited) → Among a (to_read c (Some v)) → a.comes ≡ true → LentTo v a.object
read_lent c (value.Mut r) a (inl q) e = (r, refl, object_of q)
read_lent c (value.Mut r) a (inr h) e = absurd h
read_lent c (value.Shared r) a (inl q) e = absurd (not_coming q refl e)
read_lent c (value.Shared r) a (inr h) e = absurd h
read_lent c (value.Own (owned.Box p)) a (inl q) e = absurd (not_coming q refl e)
read_lent c (value.Own (owned.Box p)) a (inr h) e = absurd h
read_lent c (value.Own owned.Nothing) a h e = absurd h
read_lent c (value.Own owned.Unit) a h e = absurd h
read_lent c (value.Own (owned.Int i)) a h e = absurd h
read_lent c (value.Own (owned.Mutex m)) a h e = absurd h
read_lent c (value.Own (owned.Task t)) a h e = absurd h
read_lent c value.Gone a h e = absurd h
read_lent c (value.SharedSlot i) a h e = absurd h
read_lent c (value.MutSlot i) a h e = absurd h
read_lent c (value.Held m) a h e = absurd h

clean_lent : (c : ℕ) (v : Value) (a : Awaited) → Among a (to_clean c (Some v)) → LentTo v a.object
clean_lent c (value.Mut r) a h = by (is_spent c r) h
  where
    by : (b : Bool) → Among a (if b then record { word = r.word; object = r.object; comes = true; by_copy = false } ∷ [] else []) → LentTo (value.Mut r) a.object
    by true (inl q) = (r, refl, object_of q)
    by true (inr h) = absurd h
    by false h = absurd h
clean_lent c value.Gone a h = absurd h
clean_lent c (value.Own v) a h = absurd h
clean_lent c (value.SharedSlot i) a h = absurd h
clean_lent c (value.MutSlot i) a h = absurd h
clean_lent c (value.Shared r) a h = absurd h
clean_lent c (value.Held m) a h = absurd h

-- ITS OBJECT STANDS IN A SLOT OF THE THREAD

module _ (k : Cluster) (c : HasPaths k) (z : Standing) (g : GoesOn k z) where
  abbrev t : ℕ
  t = z.thread.number

  abbrev ground : Ground
  ground = (sight k).ground

  abbrev st : Store
  st = heap_store k c.types

  abbrev E : KeyTypes
  E = c.types.typing.exact

  abbrev Mine : ObjNo → Type 0
  Mine o = OwnedBy k c t o

  -- a mutable reference to which the place leads stands in a slot of the thread
  lent_slot : (l : Location) (r : MutRef) → IsShown k c z g l → value_in ground l ≡ Some (value.Mut r) → Mine r.object
  lent_slot _ r (a_slot i) e = own_reference k c z g (at_slot t i) r (slot_there k c z g i r (sym (ap (λ o. slot_of o i) (stands_there k c z g)) ∙ e))
  lent_slot _ r (an_object o v h) e = absurd (no_reference (cell_of ground.cells o) e)
    where
      no_reference : (d : Option Cell) → value_of d ≡ Some (value.Mut r) → ⊥
      no_reference None f = absurd cc
      no_reference (Some d) f = absurd cc

  located : (slot i : ℕ) (l : Location) (v : Value) → HopOf ground t slot i l v → locate ground t slot i ≡ Some l
  located slot i l v h = paths_law.locates ground t slot i l h.path

  by_reading : (w : Lval) (i : ℕ) (l : Location) (v : Value) (o : ObjNo) → HopOf ground t w.slot i l v → LentTo v o → Mine o
  by_reading w i l v o h lent = subst Mine lent.2 (lent_slot l lent.0 (leads_in_heap k c z g w.slot i l (located w.slot i l v h)).1 (h.stands ∙ ap Some lent.1))

  leads_there : (v : Value) (o : ObjNo) → IsOwner o v → leads t (Some v) ≡ Some (in_cell o)
  leads_there _ o (box_of p e) = ap (λ x. Some (in_cell x)) e
  leads_there _ o (lent_of r e) = ap (λ x. Some (in_cell x)) e

  -- one star more from the pointer leads to the object, in the one heap too
  one_more : (slot i : ℕ) (l : Location) (v : Value) (o : ObjNo) → HopOf ground t slot i l v → IsOwner o v → walk st (suc i) (at_key (slot_k t slot)) ≡ Some (at_object o)
  one_more slot i l v o h own =
      let at = located slot i l v h in
      let next : locate ground t slot (suc i) ≡ Some (in_cell o) = ap (λ q. leads t (value_behind ground q)) at ∙ ap (leads t) h.stands ∙ leads_there v o own in
      (leads_in_heap k c z g slot (suc i) (in_cell o) next).0

  by_writing : (i : Instr) (p : Lval) (n : ℕ) (l : Location) (v : Value) (o : ObjNo) → instr_of (sight k) z ≡ Some i → WritesTo i p → n < p.depth → HopOf ground t p.slot n l v → IsOwner o v → Mine o
  by_writing i p n l v o at writes_it lt h own =
      let may = may_write_there k c z g i p at writes_it in
      let s = shorter E true (slot_k t p.slot) (p.depth - suc n) p.depth (suc n) may.base may.boxes may.type (omega (arith, lt)) may.resolves in
      own_path k c z g p.slot (suc n) s.base s.boxes s.type o s.res (one_more p.slot n l v o h own)

  -- on the way to the holder of a mutable reference
  by_held : (m : Location) (r : MutRef) → MutThere k c z m r → (n : ℕ) (l : Location) (v : Value) (o : ObjNo) → n < r.holder.depth → HopOf ground t r.holder.slot n l v → IsOwner o v → Mine o
  by_held m r there n l v o lt h own =
      let at_holder : is_held_at there.place.slot there.place.depth r.holder ≡ true = and_second (same_place (leads t (Some (value.Mut r))) (place_at ground t there.place)) (is_held_at there.place.slot there.place.depth r.holder) there.leads_so in
      let s = has_star k c there.place.slot r.holder there.place.depth at_holder in
      let held = held_as there.place.slot s.0 there.place.depth r s.1 at_holder in
      let u : StorePlace = record { key = slot_k t there.place.slot; depth = there.place.depth } in
      let f = ref_at c.types.typing.rank E st c.types.state.typed there.key true u there.exact in
      let less = shorter E true u.key (there.place.depth - suc n) there.place.depth (suc n) f.base f.boxes f.type (omega (arith, lt, held.1, s.1)) f.res in
      own_path k c z g there.place.slot (suc n) less.base less.boxes less.type o less.res (subst (λ i. walk st (suc n) (at_key (slot_k t i)) ≡ Some (at_object o)) held.0 (one_more r.holder.slot n l v o h own))

  ended_there : (r : MutRef) → EndsThere z.thread r → (m : Location) × MutThere k c z m r
  ended_there r (inl e) = (at_slot t e.0, slot_there k c z g e.0 r e.1)
  ended_there r (inr e) = (at_temp t e.0, temp_there k c z g e.0 r e.1)

  at_hop : (p : Path) → path (sight k) z ≡ p → (n : ℕ) (a : Awaited) → a.comes ≡ true → AwaitsAt (sight k) z p n a → Mine a.object
  at_hop _ e n a comes (read_at w i _ lt q) = by_reading w i q.location q.value a.object q.hop (read_lent _ q.value a q.asked comes)
  at_hop _ e n a comes (before_share w i _ lt q) = by_reading w i q.location q.value a.object q.hop (read_lent _ q.value a q.asked comes)
  at_hop _ e n a comes (at_share w i _ lt q) = by_reading w i q.location q.value a.object q.hop (clean_lent _ q.value a q.asked)
  at_hop _ e n a comes (before_lend w i _ lt q) = by_reading w i q.location q.value a.object q.hop (read_lent _ q.value a q.asked comes)
  at_hop _ e n a comes (at_lend w i _ lt q) =
      let b = lender (instr_of (sight k) z) z.thread w e in
      by_writing b.instruction w i q.location q.value a.object b.is b.writes_to (omega (arith, lt)) q.hop (write_owner q.value a q.asked)

  -- what the thread waits for in turn, where that comes
  pub awaited_mine : (p : Path) → path (sight k) z ≡ p → (w : ℕ) (a : Awaited) → a.comes ≡ true → InTurn (sight k) z w a p → Mine a.object
  awaited_mine _ e w a comes (by_read p f) = at_hop (reads p) e f.number a comes f.at
  awaited_mine _ e w a comes (by_share p f) = at_hop (shares p) e f.number a comes f.at
  awaited_mine _ e w a comes (by_lend p f) = at_hop (lends p) e f.number a comes f.at
  awaited_mine _ e w a comes (by_write p f) =
      let b = writer (instr_of (sight k) z) z.thread p e in
      by_writing b.instruction p z.thread.passed f.asked.location f.asked.value a.object b.is b.writes_to f.within f.asked.hop (write_owner f.asked.value a f.asked.asked)
  awaited_mine _ e w a comes (by_end r same among) =
      let it = ended_there r (ender (instr_of (sight k) z) z.thread r e) in
      let object : r.object ≡ a.object = owner_object (write_owner (value.Mut r) a among) in
      subst Mine object (own_reference k c z g it.0 r it.1)
    where
      owner_object : IsOwner a.object (value.Mut r) → r.object ≡ a.object
      owner_object (lent_of _ q) = q
  awaited_mine _ e w a comes (by_holder r ne f) =
      let it = ended_there r (ender (instr_of (sight k) z) z.thread r e) in
      by_held it.0 r it.1 z.thread.passed f.asked.location f.asked.value a.object f.within f.asked.hop (write_owner f.asked.value a f.asked.asked)

is_waiting : (p : Phase) (w : ℕ) → is_cell w p ≡ true → p ≡ phase.WaitCell w
is_waiting (phase.WaitCell v) w e = ap phase.WaitCell (eqb-true v w e)
is_waiting _ w e = absurd (cc e)

-- of an object under way a thread that waits for it alone stands in whose slot it is
pub record ComesTo (k : Cluster) (c : HasPaths k) (o : ObjNo) : Type 0 where
  pub thread : Standing
  pub goes : GoesOn k thread
  pub word : ℕ
  pub waits_there : thread.thread.phase ≡ phase.WaitCell word
  pub owned_there : OwnedBy k c thread.thread.number o

standing_of : (f : Phase → Bool) (o : Option Standing) → in_phase f o ≡ true → (x : Standing) × (o ≡ Some x) × (f x.thread.phase ≡ true)
standing_of f None e = absurd (cc e)
standing_of f (Some x) e = (x, refl, e)

pub comes_to : (k : Cluster) (c : HasPaths k) → IsSound k → (w : ℕ) (d : Cell) (o : ObjNo) → Among (flies w d) (things_of k) → d.object ≡ o → ComesTo k c o
comes_to k c sound w d o flying_there object =
    let m = brought o k w d flying_there object in
    let v : ℕ = m.1 in
    let cell : Cell = m.2 in
    let t : ℕ = m.3 in
    let carried : other (in_phase (is_cell v) (thread_at (sight k).ground.threads t)) ≡ 0 = none_at (carries (sight k)) (sent m.0 (message.Moved v cell t)) (things_of k) sound.requests.carry_what_is_asked m.4 in
    let z = standing_of (is_cell v) (thread_at (sight k).ground.threads t) (other_none _ carried) in
    let among = among_thread (sight k).ground.threads t z.0 z.1 in
    let waits_now = is_waiting z.0.thread.phase v z.2 in
    let goes : GoesOn k z.0 = record { among = among.0; going = ap is_over waits_now } in
    let turn = sound.walks.wait_in_turn z.0 v among.0 waits_now in
    let a = turn.awaited in
    let number : z.0.thread.number ≡ t = among.1 in
    let asked : 1 ≤ tot (asked_for t a) (things_of k) = subst (λ n. 1 ≤ tot (asked_for n a) (things_of k)) number turn.asked in
    let none : tot (strays t a o) (things_of k) ≡ 0 = omega (arith, asked, all_less t a o (things_of k), sound.requests.one_answer t, needed_less t a o (things_of k), sound.names.numbers_differ t) in
    let its : strays t a o (sent m.0 (message.Moved v cell t)) ≡ 0 = none_at (strays t a o) (sent m.0 (message.Moved v cell t)) (things_of k) none m.4 in
    let asks : asks_for t a (message.Moved v cell t) ≡ true = is_asked t (same_object cell.object o) (asks_for t a (message.Moved v cell t)) (itself cell.object o m.5) its in
    let brings : (a.word == v && same_object cell.object a.object) ≡ true = and_right (t == t && a.comes) (a.word == v && same_object cell.object a.object) asks in
    let one : a.object ≡ o = sym (named cell.object a.object (and_right (a.word == v) (same_object cell.object a.object) brings)) ∙ m.5 in
    record {
      thread = z.0;
      goes = goes;
      word = v;
      waits_there = waits_now;
      owned_there = subst (OwnedBy k c z.0.thread.number) one (awaited_mine k c z.0 goes (path (sight k) z.0) refl v a (and_right (t == t) a.comes (and_left (t == t && a.comes) (a.word == v && same_object cell.object a.object) asks)) turn.turn);
    }
