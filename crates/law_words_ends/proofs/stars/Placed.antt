-- An object in a chain of a thread's own slots to which no shared reference leads: no pointer to it stands outside of slots, temporary values and cells.
use Rattle.std.proofs.Common.{◌≡◌, ◌⊎◌, inl, inr, ⊎_elim, ℕ, zero, suc, ◌≤◌, Bool, true, false, Option, Some, None, refl, sym, ap, subst, ◌∙◌, arith}
use Rattle.std.specs.Prelude.{slice_get}
use Rattle.law_words_ends.specs.Below.fr_base.declared.instruction.Instr.{Instr}
use Rattle.law_words_ends.specs.Below.fr_base.declared.instruction.Instr.TheVariants as instr
use Rattle.law_words_ends.specs.Below.fr_base.declared.name.MutexNo.{MutexNo}
use Rattle.law_words_ends.specs.Below.fr_base.declared.name.ObjNo.{ObjNo}
use Rattle.law_words_ends.specs.Below.fr_base.declared.place.Lval.{Lval}
use Rattle.law_words_ends.specs.Below.fr_store.Keys.{Key, slot_k}
use Rattle.law_words_ends.specs.Below.fr_store.Store.{Location as StoreLocation, at_key, at_object, gone_v, box_v, ref_v, Store, value_at, below_key}
use Rattle.law_words_ends.proofs.Below.fr_store.Chains.{from_suc}
use Rattle.law_words_ends.specs.Below.fr_sound.Seen.{Gives, owned_val}
use Rattle.law_words_ends.specs.Below.heap_partition.Plain.{plain_of}
use Rattle.law_words_ends.specs.Below.heap_partition.declared.value.BoxPtr.{BoxPtr}
use Rattle.law_words_ends.specs.Below.heap_partition.declared.value.Cell.{Cell}
use Rattle.law_words_ends.specs.Below.heap_partition.declared.value.Owned.{Owned}
use Rattle.law_words_ends.specs.Below.heap_partition.declared.value.Owned.TheVariants as owned
use Rattle.law_words_ends.specs.Below.mut_borrow.declared.shared.SharedRef.{SharedRef}
use Rattle.law_words_ends.specs.Below.server_msgs.declared.message.Message.{Message}
use Rattle.law_words_ends.specs.Below.server_msgs.declared.message.Message.TheVariants.{Drop}
use Rattle.law_words_ends.specs.Below.thread_state.View.{is_over}
use Rattle.law_words_ends.specs.Below.thread_state.declared.phase.Phase.{Phase}
use Rattle.law_words_ends.specs.Below.thread_state.declared.phase.Phase.TheVariants as phase
use Rattle.law_words_ends.specs.Below.thread_state.declared.value.Value.{Value}
use Rattle.law_words_ends.specs.Below.thread_state.declared.value.Value.TheVariants as value
use Rattle.law_words_ends.specs.Below.server_model.Servers.{Cluster}
use Rattle.law_words_ends.specs.Below.coherent_memory.Names.{Among, one, same_object, boxes}
use Rattle.law_words_ends.specs.Below.coherent_memory.Things.{Location, at_slot, at_temp, in_cell, Spot, in_slot, in_temp, as_gift, as_content, as_result, in_hand, Thing, holds, shares, borrows, lies, flies, sent, things_of}
use Rattle.law_words_ends.specs.Below.coherent_memory.Follow.{Standing, Ground, thread_at, slot_of, value_in, locate, place_at}
use Rattle.law_words_ends.specs.Below.coherent_memory.OneHeap.{two_in}
use Rattle.law_words_ends.specs.Below.coherent_memory.Placing.{standing_of, standing_in, standing_pointers}
use Rattle.law_words_ends.specs.Below.coherent_memory.Sight.{Pointer, pointer_in, location_of, dropped_pointer, taken_object, taken_pointers, sight}
use Rattle.law_words_ends.specs.Below.coherent_memory.Weights.{owners}
use Rattle.law_words_ends.proofs.Below.coherent_memory.Bags.{among_split}
use Rattle.law_words_ends.proofs.Below.coherent_memory.Words.{itself}
use Rattle.law_words_ends.specs.Below.law_words_paths.paths.HeapStore.{heap_store, GoesOn, HasPaths}
use Rattle.law_words_ends.proofs.Below.law_words_paths.paths.Alike.{slot_none, slot_gone, slot_own, slot_shared_slot, slot_mut_slot, slot_shared, slot_mut, cell_there}
use Rattle.law_words_ends.proofs.Below.law_words_paths.paths.InState.{only_one}
use Rattle.law_words_ends.proofs.Below.law_words_paths.paths.Shown.{is_running, shown_value, stands_there}
use Rattle.law_words_ends.proofs.Below.law_words_paths.paths.Sole.{some_is}
use Rattle.law_words_ends.specs.Below.law_words_paths.words.Reworded.{HasPlaces}
use Rattle.law_words_ends.specs.Below.law_words_paths.words.Unmoved.{Taking, taking_by, takings}
use Rattle.law_words_ends.proofs.Below.law_words_paths.words.Alone.{of_standing}
use Rattle.law_words_ends.proofs.Below.law_words_paths.words.Loose.{box_nowhere}
use Rattle.law_words_ends.proofs.Below.law_words_paths.words.Standing.{CellOf, lying, flying, cell_among, slot_among}
use Rattle.law_words_ends.proofs.Below.law_words_paths.words.Takings.{takens_are, taken_told}
use Rattle.law_words_ends.specs.Below.law_words_kept.reads.Reading.{lends}
use Rattle.law_words_ends.proofs.Below.law_words_kept.reads.FreshReads.{reading_of, chain_apart}
use Rattle.law_words_ends.proofs.Below.law_words_kept.reads.OwnChains.{OwnObject}
use Rattle.law_words_writes.proofs.Below.law_words_values.carried.Taken.{taker_of}

some_nothing : (l : Location) (p : Pointer) → p.at ≡ Some l → p.at ≡ None → ⊥
some_nothing l p e f = let y : None ≡ Some l = sym f ∙ e in absurd (cc y)

-- THE OWNER

-- an owner in a slot, a temporary value or a cell
abbrev spot_placed : Spot → Bool
spot_placed (in_slot t i) = true
spot_placed (in_temp t i) = true
spot_placed p = false

abbrev is_placed : Thing → Bool
is_placed (holds p v) = spot_placed p
is_placed (lies r a c) = true
is_placed (flies w c) = true
is_placed x = false

box_shown : (g : Gives) (u : Owned) (o : ObjNo) → owned_val g (plain_of u) ≡ box_v o → (b : BoxPtr) × (u ≡ owned.Box b) × (b.object ≡ o)
box_shown g (owned.Box b) o e = (b, refl, cc)
box_shown g owned.Nothing o e = absurd (cc e)
box_shown g owned.Unit o e = absurd (cc e)
box_shown g (owned.Int n) o e = absurd (cc e)
box_shown g (owned.Mutex m) o e = absurd (cc e)
box_shown g (owned.Task t) o e = absurd (cc e)

ref_no_box : {l : StoreLocation} {o : ObjNo} → ref_v l ≡ box_v o → ⊥
ref_no_box e = absurd (cc e)

key_no_object : {a : Key} {o : ObjNo} → at_key a ≡ at_object o → ⊥
key_no_object e = absurd (cc e)

weighs_one : (b : BoxPtr) (o : ObjNo) → b.object ≡ o → 1 ≤ boxes o (owned.Box b)
weighs_one b o e = let y : one (same_object b.object o) ≡ 1 = ap one (itself b.object o e) in omega (arith, y)

-- a box outside of places weighs too
held_weighs : (o : ObjNo) (u : Owned) (p : Pointer) → Among p (pointer_in None u) → p.object ≡ o → 1 ≤ boxes o u
held_weighs o (owned.Box b) p (inl e) f = weighs_one b o (ap (λ (y : Pointer). y.object) e ∙ f)
held_weighs o (owned.Box b) p (inr m) f = absurd m
held_weighs o owned.Nothing p m f = absurd m
held_weighs o owned.Unit p m f = absurd m
held_weighs o (owned.Int n) p m f = absurd m
held_weighs o (owned.Mutex n) p m f = absurd m
held_weighs o (owned.Task t) p m f = absurd m

cell_owner : (o : ObjNo) (c : Cell) (y : Thing) → CellOf c y → 1 ≤ boxes o c.value → (1 ≤ owners o y) × (is_placed y ≡ true)
cell_owner o c _ (lying r a) l = (l, refl)
cell_owner o c _ (flying w) l = (l, refl)

-- the object's owner stands at a place
pub record Owner (k : Cluster) (o : ObjNo) : Type 0 where
  thing : Thing
  among : Among thing (things_of k)
  weighs : 1 ≤ owners o thing
  placed : is_placed thing ≡ true

taken_leads : (w : ℕ) (l : Option Location) (p : Pointer) → Among p (taken_object w l) → l ≡ Some (in_cell p.object)
taken_leads w (Some (in_cell o)) p (inl e) = ap (λ (q : Pointer). Some (in_cell q.object)) e
taken_leads w (Some (in_cell o)) p (inr q) = absurd q
taken_leads w _ p q = absurd q

-- what a thread has taken is at its mutable borrow
taking_is : (t : ℕ) (p : Phase) (i : Option Instr) (a : Taking) → taking_by t p i ≡ Some a → (u : ℕ) × (p ≡ phase.Taken u) × (i ≡ Some (instr.BorrowMut a.place)) × (t ≡ a.thread)
taking_is t (phase.Taken u) (Some (instr.BorrowMut q)) a e = let s = some_is e in (u, refl, ap (λ (b : Taking). Some (instr.BorrowMut b.place)) s, ap (λ (b : Taking). b.thread) s)
taking_is t _ _ a e = absurd (cc e)

slot_object : {t i : ℕ} {o : ObjNo} → Some (at_slot t i) ≡ Some (in_cell o) → ⊥
slot_object e = absurd (cc e)

module _ (k : Cluster) (c : HasPaths k) (x : Standing) (g : GoesOn k x) (o : ObjNo) (own : OwnObject k c x g o) where
  abbrev ground : Ground
  ground = (sight k).ground

  abbrev n : ℕ
  n = x.thread.number

  abbrev st : Store
  st = heap_store k c.types

  abbrev gives : Gives
  gives = c.types.typing.gives

  slot_mark : (i : ℕ) (m : MutexNo) → slice_get x.thread.slots i ≡ Some (value.Held m) → st.at (slot_k n i) ≡ ref_v (c.types.typing.marks n i)
  slot_mark i m e = rw (is_running k c x g) (rw (shown_value x.thread.slots i) (rw e refl))

  -- a box that the one heap shows in a slot
  slot_owner : (i : ℕ) → st.at (slot_k n i) ≡ box_v o → Owner k o
  slot_owner i at = by (slice_get x.thread.slots i) refl
    where
      by : (u : Option Value) → slice_get x.thread.slots i ≡ u → Owner k o
      by None e = let q : gone_v ≡ box_v o = sym (slot_none k c x g i e) ∙ at in absurd (cc q)
      by (Some value.Gone) e = let q : gone_v ≡ box_v o = sym (slot_gone k c x g i e) ∙ at in absurd (cc q)
      by (Some (value.Own u)) e =
          let b = box_shown gives u o (sym (slot_own k c x g i u e) ∙ at) in
          let stands : value_in ground (at_slot n i) ≡ Some (value.Own (owned.Box b.0)) = ap (λ m. slot_of m i) (stands_there k c x g) ∙ e ∙ ap (λ y. Some (value.Own y)) b.1 in
          record { thing = holds (in_slot n i) (owned.Box b.0); among = slot_among k n i (value.Own (owned.Box b.0)) stands (holds (in_slot n i) (owned.Box b.0)) (λ s. inl refl); weighs = weighs_one b.0 o b.2; placed = refl }
      by (Some (value.SharedSlot j)) e = absurd (ref_no_box (sym (slot_shared_slot k c x g i j e) ∙ at))
      by (Some (value.MutSlot j)) e = absurd (ref_no_box (sym (slot_mut_slot k c x g i j e) ∙ at))
      by (Some (value.Shared r)) e = absurd (ref_no_box (sym (slot_shared k c x g i r e) ∙ at))
      by (Some (value.Mut r)) e = absurd (ref_no_box (sym (slot_mut k c x g i r e) ∙ at))
      by (Some (value.Held m)) e = absurd (ref_no_box (sym (slot_mark i m e) ∙ at))

  -- or in a cell
  object_owner : (p : ObjNo) → st.heap p ≡ Some (box_v o) → Owner k o
  object_owner p e =
      let d = cell_there k c x g p (box_v o) e in
      let b = box_shown gives d.0.value o (sym d.2) in
      let i = cell_among p d.0 (things_of k) d.1 in
      let w = cell_owner o d.0 i.thing i.is (subst (λ u. 1 ≤ boxes o u) (sym b.1) (weighs_one b.0 o b.2)) in
      record { thing = i.thing; among = i.among; weighs = w.0; placed = w.1 }

  -- the last box of the chain
  owner : Owner k o
  owner = by own.boxes own.leads_there
    where
      where_is : (m : ℕ) (p : StoreLocation) → below_key st (slot_k n own.slot) m ≡ Some p → (p ≡ at_key (slot_k n own.slot)) ⊎ ((r : ObjNo) × (p ≡ at_object r))
      where_is zero p e = inl (sym (some_is e))
      where_is (suc m) p e = let y = from_suc st (at_key (slot_k n own.slot)) p m e in inr (y.1, y.4)

      at : (p : StoreLocation) → value_at st p ≡ Some (box_v o) → (p ≡ at_key (slot_k n own.slot)) ⊎ ((r : ObjNo) × (p ≡ at_object r)) → Owner k o
      at p e (inl y) = slot_owner own.slot (some_is (sym (ap (value_at st) y) ∙ e))
      at p e (inr y) = object_owner y.0 (sym (ap (value_at st) y.1) ∙ e)

      by : (m : ℕ) → below_key st (slot_k n own.slot) m ≡ Some (at_object o) → Owner k o
      by zero e = absurd (key_no_object (some_is e))
      by (suc m) e =
          let y = from_suc st (at_key (slot_k n own.slot)) (at_object o) m e in
          let same : at_object o ≡ at_object y.1 = y.4 in
          let one_object : y.1 ≡ o = cc in
          at y.0 (y.3 ∙ ap (λ i. Some (box_v i)) one_object) (where_is m y.0 y.2)

  places : HasPlaces k
  places = record { numbers_differ = c.numbers_differ; home_of_each = c.home_of_each; owner_of_each = c.owner_of_each }

  -- no other thing owns it
  no_other : (y : Thing) → Among y (things_of k) → 1 ≤ owners o y → is_placed y ≡ false → ⊥
  no_other y h l f =
      let homes = places.home_of_each o in
      let same : owner.thing ≡ y = only_one (owners o) owner.thing y (things_of k) (omega (arith, places.owner_of_each o, homes)) owner.among h owner.weighs l in
      let e : true ≡ false = sym owner.placed ∙ ap is_placed same ∙ f in
      absurd (cc e)

  outside : (sp : Spot) (u : Owned) (p : Pointer) → Among (holds sp u) (things_of k) → Among p (pointer_in (location_of sp) u) → p.object ≡ o → p.at ≡ None → ⊥
  outside (in_slot t i) u p m q e f = box_nowhere (at_slot t i) u p q f
  outside (in_temp t i) u p m q e f = box_nowhere (at_temp t i) u p q f
  outside (as_gift t) u p m q e f = no_other (holds (as_gift t) u) m (held_weighs o u p q e) refl
  outside (as_content i) u p m q e f = no_other (holds (as_content i) u) m (held_weighs o u p q e) refl
  outside (as_result t) u p m q e f = no_other (holds (as_result t) u) m (held_weighs o u p q e) refl
  outside in_hand u p m q e f = no_other (holds in_hand u) m (held_weighs o u p q e) refl

  dropped : (s : ℕ) (i : Message) (p : Pointer) → Among (sent s i) (things_of k) → Among p (dropped_pointer i) → p.object ≡ o → ⊥
  dropped s (Drop a b) p m (inl e) f =
      let same : b ≡ o = ap (λ (y : Pointer). y.object) e ∙ f in
      let y : one (same_object b o) ≡ 1 = ap one (itself b o same) in
      no_other (sent s (Drop a b)) m (omega (arith, y)) refl
  dropped s (Drop a b) p m (inr q) f = q
  dropped s _ p m q f = q

  module _ (unshared : (l : Location) (q : SharedRef) → Among (shares l q) (things_of k) → q.object ≡ o → ⊥) where
    thing_alone : (y : Thing) (p : Pointer) → Among y (things_of k) → Among p (standing_of y) → p.object ≡ o → p.at ≡ None → ⊥
    thing_alone (holds sp u) p m q e f = outside sp u p m q e f
    thing_alone (shares l s) p m (inl q) e f = unshared l s m (ap (λ (y : Pointer). y.object) q ∙ e)
    thing_alone (shares l s) p m (inr q) e f = q
    thing_alone (borrows l s) p m (inl q) e f = some_nothing l p (sym (ap (λ (y : Pointer). y.at) q)) f
    thing_alone (borrows l s) p m (inr q) e f = q
    thing_alone (lies i a b) p m q e f = box_nowhere (in_cell b.object) b.value p q f
    thing_alone (flies a b) p m q e f = box_nowhere (in_cell b.object) b.value p q f
    thing_alone (sent s i) p m q e f = dropped s i p m q e
    thing_alone _ p m q e f = q

    -- nor has another thread taken it, where this one waits for no pair and has taken nothing
    module _ (awake : two_in x.thread.phase ≡ None) (untaken : taking_by n x.thread.phase (slice_get k.code x.thread.pc) ≡ None) where
      not_taken : (a : Taking) → Among a (takings k.code ground.threads) → place_at ground a.thread a.place ≡ Some (in_cell o) → ⊥
      not_taken a h located =
          let q = taker_of k.code ground.threads a h in
          let v : Standing = q.taker in
          let is = taking_is v.thread.number v.thread.phase (slice_get k.code v.thread.pc) a q.taking in
          let goes_on : GoesOn k v = record { among = q.among; going = ap is_over is.1 } in
          let there : place_at ground v.thread.number a.place ≡ Some (in_cell o) = ap (λ b. place_at ground b a.place) is.3 ∙ located in
          let same_number : v.thread.number ≡ n = same_thread v goes_on a.place is.2 there in
          let same : Some v ≡ Some x = sym (stands_there k c v goes_on) ∙ ap (thread_at ground.threads) same_number ∙ stands_there k c x g in
          let no : Some a ≡ None = sym q.taking ∙ ap (λ (b : Standing). taking_by b.thread.number b.thread.phase (slice_get k.code b.thread.pc)) (some_is same) ∙ untaken in
          absurd (cc no)
        where
          same_thread : (v : Standing) → GoesOn k v → (p : Lval) → slice_get k.code v.thread.pc ≡ Some (instr.BorrowMut p) → place_at ground v.thread.number p ≡ Some (in_cell o) → v.thread.number ≡ n
          same_thread v goes_on p code there = by p.depth refl
            where
              by : (f : ℕ) → p.depth ≡ f → v.thread.number ≡ n
              by zero deep = absurd (slot_object (sym (ap (locate ground v.thread.number p.slot) deep) ∙ there))
              by (suc f) deep = chain_apart k c x g awake v (in_cell o) (reading_of k c v (instr.BorrowMut p) p (f) p.depth (in_cell o) goes_on code (lends deep) 0 (omega arith) there) own.slot own.boxes own.leads_there

      -- so none stands elsewhere
      pub placed_alone : (p : Pointer) → Among p (standing_pointers (sight k)) → p.object ≡ o → p.at ≡ None → ⊥
      placed_alone p m e f =
          ⊎_elim (λ (q : Among p (standing_in (things_of k))). let y = of_standing p (things_of k) q in thing_alone y.thing p y.among y.pointer e f)
          (λ (q : Among p (taken_pointers (sight k).code ground ground.threads)).
          let y = taken_told ground p (takings k.code ground.threads) (subst (λ l. Among p l) (takens_are k.code ground ground.threads) q) in
          not_taken y.taking y.among (taken_leads y.taking.word (place_at ground y.taking.thread y.taking.place) p y.pointer ∙ ap (λ i. Some (in_cell i)) e))
          (among_split p (standing_in (things_of k)) (taken_pointers (sight k).code ground ground.threads) m)
