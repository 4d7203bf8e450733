-- No pointer to what a thread may write stands outside of slots, temporary values and cells: its one owner stands on the way, and no thread has taken it.
use Rattle.std.proofs.Common.{◌≡◌, ◌⊎◌, inl, inr, ⊎_elim, ℕ, zero, suc, ◌≤◌, Bool, true, false, List, [], ◌∷◌, Option, Some, None, refl, sym, ap, subst, ◌∙◌, arith}
use Rattle.std.specs.Prelude.{slice_get, ◌||◌}
use Rattle.law_words_paths.specs.Below.fr_base.declared.instruction.Instr.{Instr}
use Rattle.law_words_paths.specs.Below.fr_base.declared.instruction.Instr.TheVariants as instr
use Rattle.law_words_paths.specs.Below.fr_base.declared.label.Plain.{Plain}
use Rattle.law_words_paths.specs.Below.fr_base.declared.name.MutexNo.{MutexNo}
use Rattle.law_words_paths.specs.Below.fr_base.declared.name.ObjNo.{ObjNo}
use Rattle.law_words_paths.specs.Below.fr_base.declared.place.Lval.{Lval}
use Rattle.law_words_paths.specs.Below.fr_store.Keys.{Key, slot_k}
use Rattle.law_words_paths.specs.Below.fr_store.Store.{Location as StoreLocation, at_key, at_object, gone_v, box_v, ref_v, Store, value_at, below_key}
use Rattle.law_words_paths.specs.Below.fr_store.Typed.{Resolves}
use Rattle.law_words_paths.proofs.Below.fr_store.Chains.{from_suc}
use Rattle.law_words_paths.proofs.Below.fr_store.Sound.{sound}
use Rattle.law_words_paths.specs.Below.fr_sound.Seen.{Gives, owned_val, seen_cell}
use Rattle.law_words_paths.specs.Below.heap_partition.Plain.{plain_of}
use Rattle.law_words_paths.specs.Below.heap_partition.declared.value.BoxPtr.{BoxPtr}
use Rattle.law_words_paths.specs.Below.heap_partition.declared.value.Cell.{Cell}
use Rattle.law_words_paths.specs.Below.heap_partition.declared.value.Owned.{Owned}
use Rattle.law_words_paths.specs.Below.heap_partition.declared.value.Owned.TheVariants as owned
use Rattle.law_words_paths.specs.Below.mut_borrow.declared.shared.SharedRef.{SharedRef}
use Rattle.law_words_paths.specs.Below.server_msgs.declared.message.Message.{Message}
use Rattle.law_words_paths.specs.Below.server_msgs.declared.message.Message.TheVariants.{Drop}
use Rattle.law_words_paths.specs.Below.thread_state.declared.phase.Phase.{Phase}
use Rattle.law_words_paths.specs.Below.thread_state.declared.phase.Phase.TheVariants as phase
use Rattle.law_words_paths.specs.Below.thread_state.declared.value.Value.{Value}
use Rattle.law_words_paths.specs.Below.thread_state.declared.value.Value.TheVariants as value
use Rattle.law_words_paths.specs.Below.server_model.Servers.{Cluster}
use Rattle.law_words_paths.specs.Below.coherent_memory.Names.{Among, one, same_object, boxes}
use Rattle.law_words_paths.specs.Below.coherent_memory.Things.{Location, at_slot, at_temp, in_cell, Spot, in_slot, in_temp, as_gift, as_content, as_result, in_hand, Thing, holds, shares, borrows, lies, flies, sent, things_of}
use Rattle.law_words_paths.specs.Below.coherent_memory.Follow.{Standing, Ground, slot_of, value_in, value_of, value_behind, cell_of, leads, locate, place_at}
use Rattle.law_words_paths.specs.Below.coherent_memory.Weights.{owners}
use Rattle.law_words_paths.specs.Below.coherent_memory.Placing.{standing_of, standing_in, standing_pointers}
use Rattle.law_words_paths.specs.Below.thread_state.View.{is_over}
use Rattle.law_words_paths.specs.Below.coherent_memory.Stale.{Reference, references, holder_of, is_held_at, same_location, is_among, lent_place, with_place, lent_places, one_star_less, taken_above}
use Rattle.law_words_paths.specs.Below.coherent_memory.OneHeap.{object_value}
use Rattle.law_words_paths.specs.Below.coherent_memory.Sight.{Pointer, pointer_in, location_of, dropped_pointer, taken_object, taken_of, taken_pointers, sight}
use Rattle.law_words_paths.specs.Below.coherent_memory.Words.{IsStale}
use Rattle.law_words_paths.proofs.Below.coherent_memory.Bags.{among_split}
use Rattle.law_words_paths.proofs.Below.coherent_memory.Words.{itself}
use Rattle.law_words_paths.specs.paths.HeapStore.{heap_store, GoesOn, HasPaths}
use Rattle.law_words_paths.specs.paths.Pointing.{Above, made_from, made_below, MayWrite, LastHop, lends}
use Rattle.law_words_paths.proofs.paths.Sole.{some_is}
use Rattle.law_words_paths.proofs.paths.Shown.{object_shown, shown_value, is_running, stands_there}
use Rattle.law_words_paths.proofs.paths.Alike.{leads_in_heap, slot_none, slot_gone, slot_own, slot_shared_slot, slot_mut_slot, slot_shared, slot_mut}
use Rattle.law_words_paths.proofs.paths.Circles.{base_in}
use Rattle.law_words_paths.proofs.paths.InState.{only_one}
use Rattle.law_words_paths.proofs.paths.MayWrites.{may_write_there}
use Rattle.law_words_paths.proofs.paths.Contained.{location_itself, reference_there, held_there}
use Rattle.law_words_paths.proofs.paths.Pointers.{sole_pointers}
use Rattle.law_words_paths.proofs.paths.FreshPaths.{OwnSlot, own_closed, Followed, none_made}
use Rattle.law_words_paths.specs.words.Reworded.{HasPlaces}
use Rattle.law_words_paths.specs.words.Soles.{WrittenAreSole}
use Rattle.law_words_paths.proofs.words.Loose.{box_nowhere}
use Rattle.law_words_paths.proofs.words.Standing.{pointer_at, told, slot_among, temp_among, CellOf, lying, flying, cell_among}

cell_same : {p o : ObjNo} → Some (in_cell p) ≡ Some (in_cell o) → p ≡ o
cell_same e = cc

-- WHO HAS TAKEN AN OBJECT

-- the place of a mutable borrow leads to the object, which its thread has taken
record TookObject (k : Cluster) (y : Standing) (o : ObjNo) : Type 0 where
  word : ℕ
  taken : y.thread.phase ≡ phase.Taken word
  place : Lval
  at : slice_get (sight k).code y.thread.pc ≡ Some (instr.BorrowMut place)
  leads_there : place_at (sight k).ground y.thread.number place ≡ Some (in_cell o)

taken_leads : (w : ℕ) (l : Option Location) (p : Pointer) → Among p (taken_object w l) → l ≡ Some (in_cell p.object)
taken_leads w (Some (in_cell o)) p (inl e) = ap (λ (q : Pointer). Some (in_cell q.object)) e
taken_leads w (Some (in_cell o)) p (inr q) = absurd q
taken_leads w _ p q = absurd q

took_by : (k : Cluster) (y : Standing) (p : Pointer) (f : Phase) → y.thread.phase ≡ f → (i : Option Instr) → slice_get (sight k).code y.thread.pc ≡ i → Among p (taken_of (sight k).ground y.thread f i) → TookObject k y p.object
took_by k y p (phase.Taken w) e (Some (instr.BorrowMut v)) i h = record { word = w; taken = e; place = v; at = i; leads_there = taken_leads w (place_at (sight k).ground y.thread.number v) p h }
took_by k y p (phase.Taken w) e (Some _) i h = absurd h
took_by k y p (phase.Taken w) e None i h = absurd h
took_by k y p _ e i f h = absurd h

took_object : (k : Cluster) (xs : List Standing) (p : Pointer) → Among p (taken_pointers (sight k).code (sight k).ground xs) → (y : Standing) × Among y xs × TookObject k y p.object
took_object k [] p h = absurd h
took_object k (x ∷ xs) p h =
    ⊎_elim (λ (l : Among p (taken_of (sight k).ground x.thread x.thread.phase (slice_get (sight k).code x.thread.pc))). (x, inl refl, took_by k x p x.thread.phase refl (slice_get (sight k).code x.thread.pc) refl l))
    (λ (r : Among p (taken_pointers (sight k).code (sight k).ground xs)). let y = took_object k xs p r in (y.0, inr y.1, y.2))
    (among_split p (taken_of (sight k).ground x.thread x.thread.phase (slice_get (sight k).code x.thread.pc)) (taken_pointers (sight k).code (sight k).ground xs) h)

-- a place that leads to an object has a last star
record LastStar (g : Ground) (t slot d : ℕ) (o : ObjNo) : Type 0 where
  stars : ℕ
  last : d ≡ suc stars
  pointer : Location
  located : locate g t slot stars ≡ Some pointer
  leads_there : leads t (value_in g pointer) ≡ Some (in_cell o)

last_star : (g : Ground) (t slot d : ℕ) (o : ObjNo) → locate g t slot d ≡ Some (in_cell o) → LastStar g t slot d o
last_star g t slot zero o e = absurd cc
last_star g t slot (suc n) o e = by (locate g t slot n) refl e
  where
    by : (m : Option Location) → locate g t slot n ≡ m → leads t (value_behind g m) ≡ Some (in_cell o) → LastStar g t slot (suc n) o
    by None at f = absurd cc
    by (Some l) at f = record { stars = n; last = refl; pointer = l; located = at; leads_there = f }

-- a value that leads to an object is a shared reference or a pointer of its location
pointing : (t : ℕ) (l : Location) (v : Option Value) (o : ObjNo) → leads t v ≡ Some (in_cell o) → ((q : SharedRef) × (v ≡ Some (value.Shared q)) × (q.object ≡ o)) ⊎ ((u : Value) × (v ≡ Some u) × (p : Pointer) × Among p (pointer_at l u) × (p.object ≡ o) × (p.at ≡ Some l))
pointing t l (Some (value.Own (owned.Box b))) o e = inr (value.Own (owned.Box b), refl, record { at = Some l; word = b.word; object = b.object }, inl refl, cell_same e, refl)
pointing t l (Some (value.Mut r)) o e = inr (value.Mut r, refl, record { at = Some l; word = r.word; object = r.object }, inl refl, cell_same e, refl)
pointing t l (Some (value.Shared q)) o e = inl (q, refl, cell_same e)
pointing t l (Some (value.Own owned.Nothing)) o e = absurd cc
pointing t l (Some (value.Own owned.Unit)) o e = absurd cc
pointing t l (Some (value.Own (owned.Int n))) o e = absurd cc
pointing t l (Some (value.Own (owned.Mutex m))) o e = absurd cc
pointing t l (Some (value.Own (owned.Task n))) o e = absurd cc
pointing t l (Some value.Gone) o e = absurd cc
pointing t l (Some (value.SharedSlot i)) o e = absurd cc
pointing t l (Some (value.MutSlot i)) o e = absurd cc
pointing t l (Some (value.Held m)) o e = absurd cc
pointing t l None o e = absurd cc

-- one pointer above another one, above a third
above_above : (g : Ground) (l m h : Location) → Above g l m → Above g m h → Above g l h
above_above g l m _ a (made_from q e held) = made_below q e held a
above_above g l m _ a (made_below {h = j} q e held rest) = made_below q e held (above_above g l m j a rest)

-- THE OWNER

-- an owner in a slot, a temporary value or a cell
abbrev spot_placed : Spot → Bool
spot_placed (in_slot t i) = true
spot_placed (in_temp t i) = true
spot_placed p = false

abbrev is_placed : Thing → Bool
is_placed (holds p v) = spot_placed p
is_placed (lies r a c) = true
is_placed (flies w c) = true
is_placed x = false

box_shown : (g : Gives) (u : Owned) (o : ObjNo) → owned_val g (plain_of u) ≡ box_v o → (b : BoxPtr) × (u ≡ owned.Box b) × (b.object ≡ o)
box_shown g (owned.Box b) o e = (b, refl, cc)
box_shown g owned.Nothing o e = absurd cc
box_shown g owned.Unit o e = absurd cc
box_shown g (owned.Int n) o e = absurd cc
box_shown g (owned.Mutex m) o e = absurd cc
box_shown g (owned.Task t) o e = absurd cc

cell_shows : (g : Gives) (v : Option Plain) (o : ObjNo) → seen_cell g v ≡ Some (box_v o) → (u : Plain) × (v ≡ Some u) × (owned_val g u ≡ box_v o)
cell_shows g None o e = absurd cc
cell_shows g (Some u) o e = (u, refl, some_is e)

-- a box of the object stands at a location
record BoxThere (k : Cluster) (o : ObjNo) : Type 0 where
  location : Location
  box : BoxPtr
  stands : value_in (sight k).ground location ≡ Some (value.Own (owned.Box box))
  object : box.object ≡ o

weighs_one : (b : BoxPtr) (o : ObjNo) → b.object ≡ o → 1 ≤ boxes o (owned.Box b)
weighs_one b o e = let y : one (same_object b.object o) ≡ 1 = ap one (itself b.object o e) in omega (arith, y)

-- and is the object's one owner
record Owner (k : Cluster) (o : ObjNo) : Type 0 where
  thing : Thing
  among : Among thing (things_of k)
  weighs : 1 ≤ owners o thing
  placed : is_placed thing ≡ true

cell_owner : (o : ObjNo) (c : Cell) (y : Thing) → CellOf c y → 1 ≤ boxes o c.value → (1 ≤ owners o y) × (is_placed y ≡ true)
cell_owner o c _ (lying r a) l = (l, refl)
cell_owner o c _ (flying w) l = (l, refl)

own_same : (u : Owned) (b : BoxPtr) → value.Own u ≡ value.Own (owned.Box b) → u ≡ owned.Box b
own_same u b e = cc

owner_of_box : (k : Cluster) (o : ObjNo) → BoxThere k o → Owner k o
owner_of_box k o y = by y.location y.stands
  where
    by_cell : (p : ObjNo) (d : Option Cell) → cell_of (sight k).ground.cells p ≡ d → value_of d ≡ Some (value.Own (owned.Box y.box)) → Owner k o
    by_cell p None at e = absurd cc
    by_cell p (Some c) at e =
        let i = cell_among p c (things_of k) at in
        let same : c.value ≡ owned.Box y.box = own_same c.value y.box (some_is e) in
        let w = cell_owner o c i.thing i.is (subst (λ u. 1 ≤ boxes o u) (sym same) (weighs_one y.box o y.object)) in
        record { thing = i.thing; among = i.among; weighs = w.0; placed = w.1 }

    by : (l : Location) → value_in (sight k).ground l ≡ Some (value.Own (owned.Box y.box)) → Owner k o
    by (at_slot t i) e = record { thing = holds (in_slot t i) (owned.Box y.box); among = slot_among k t i (value.Own (owned.Box y.box)) e (holds (in_slot t i) (owned.Box y.box)) (λ s. inl refl); weighs = weighs_one y.box o y.object; placed = refl }
    by (at_temp t i) e = record { thing = holds (in_temp t i) (owned.Box y.box); among = temp_among k t i (value.Own (owned.Box y.box)) e (holds (in_temp t i) (owned.Box y.box)) (λ s. inl refl); weighs = weighs_one y.box o y.object; placed = refl }
    by (in_cell p) e = by_cell p (cell_of (sight k).ground.cells p) refl e

-- no other thing owns it
no_other : (k : Cluster) (o : ObjNo) → HasPlaces k → Owner k o → (y : Thing) → Among y (things_of k) → 1 ≤ owners o y → is_placed y ≡ false → ⊥
no_other k o c w y h l f =
    let homes = c.home_of_each o in
    let same : w.thing ≡ y = only_one (owners o) w.thing y (things_of k) (omega (arith, c.owner_of_each o, homes)) w.among h w.weighs l in
    let e : true ≡ false = sym w.placed ∙ ap is_placed same ∙ f in
    absurd cc

module _ (k : Cluster) (c : HasPaths k) (x : Standing) (v : Lval) (h : Location) (o : ObjNo) (g : GoesOn k x) (may : MayWrite k c.types x v) (hop : LastHop (sight k).ground x.thread.number v h o) where
  abbrev gk : Ground
  gk = (sight k).ground

  abbrev n : ℕ
  n = x.thread.number

  abbrev st : Store
  st = heap_store k c.types

  abbrev gives : Gives
  gives = c.types.typing.gives

  slot_mark : (i : ℕ) (m : MutexNo) → slice_get x.thread.slots i ≡ Some (value.Held m) → st.at (slot_k n i) ≡ ref_v (c.types.typing.marks n i)
  slot_mark i m e = rw (is_running k c x g) (rw (shown_value x.thread.slots i) (rw e refl))

  slot_box : (i : ℕ) → st.at (slot_k n i) ≡ box_v o → BoxThere k o
  slot_box i at = by (slice_get x.thread.slots i) refl
    where
      by : (u : Option Value) → slice_get x.thread.slots i ≡ u → BoxThere k o
      by None e = let q : gone_v ≡ box_v o = sym (slot_none k c x g i e) ∙ at in absurd cc
      by (Some value.Gone) e = let q : gone_v ≡ box_v o = sym (slot_gone k c x g i e) ∙ at in absurd cc
      by (Some (value.Own u)) e =
          let b = box_shown gives u o (sym (slot_own k c x g i u e) ∙ at) in
          record { location = at_slot n i; box = b.0; stands = ap (λ m. slot_of m i) (stands_there k c x g) ∙ e ∙ ap (λ y. Some (value.Own y)) b.1; object = b.2 }
      by (Some (value.SharedSlot j)) e = let q : ref_v (at_key (slot_k n j)) ≡ box_v o = sym (slot_shared_slot k c x g i j e) ∙ at in absurd cc
      by (Some (value.MutSlot j)) e = let q : ref_v (at_key (slot_k n j)) ≡ box_v o = sym (slot_mut_slot k c x g i j e) ∙ at in absurd cc
      by (Some (value.Shared r)) e = let q : ref_v (at_object r.object) ≡ box_v o = sym (slot_shared k c x g i r e) ∙ at in absurd cc
      by (Some (value.Mut r)) e = let q : ref_v (at_object r.object) ≡ box_v o = sym (slot_mut k c x g i r e) ∙ at in absurd cc
      by (Some (value.Held m)) e = let q : ref_v (c.types.typing.marks n i) ≡ box_v o = sym (slot_mark i m e) ∙ at in absurd cc

  object_box : (p : ObjNo) → st.heap p ≡ Some (box_v o) → BoxThere k o
  object_box p e =
      let s = cell_shows gives (object_value (sight k) p) o e in
      let d = object_shown (sight k) p s.0 s.1 in
      let b = box_shown gives d.0.value o (ap (owned_val gives) d.2 ∙ s.2) in
      record { location = in_cell p; box = b.0; stands = ap value_of d.1 ∙ ap (λ y. Some (value.Own y)) b.1; object = b.2 }

  -- its box stands at the base of its chain
  box_there : BoxThere k o
  box_there = by may.boxes refl
    where
      key : Key
      key = slot_k n v.slot

      base : OwnSlot k c n may.base
      base = base_in (OwnSlot k c n) c.types.typing.exact (own_closed k c x g) key v.depth may.base may.boxes may.type (v.slot, refl) may.resolves

      chain : below_key st may.base may.boxes ≡ Some (at_object o)
      chain = sym (sound c.types.typing.rank c.types.typing.exact st c.types.state.typed true key v.depth may.base may.boxes may.type may.resolves) ∙ (leads_in_heap k c x g v.slot v.depth (in_cell o) hop.leads).0

      at : (p : StoreLocation) (q : ObjNo) → value_at st p ≡ Some (box_v q) → q ≡ o → (p ≡ at_key may.base) ⊎ ((r : ObjNo) × (p ≡ at_object r)) → BoxThere k o
      at p q e s (inl y) =
          let there : st.at (slot_k n base.0) ≡ box_v o = sym (ap st.at base.1) ∙ some_is (sym (ap (value_at st) y) ∙ e) ∙ ap box_v s in
          slot_box base.0 there
      at p q e s (inr y) = object_box y.0 (sym (ap (value_at st) y.1) ∙ e ∙ ap (λ i. Some (box_v i)) s)

      where_is : (m : ℕ) (p : StoreLocation) → below_key st may.base m ≡ Some p → (p ≡ at_key may.base) ⊎ ((r : ObjNo) × (p ≡ at_object r))
      where_is zero p e = inl (sym (some_is e))
      where_is (suc m) p e = let y = from_suc st (at_key may.base) p m e in inr (y.1, y.4)

      by : (m : ℕ) → may.boxes ≡ m → BoxThere k o
      by zero e = let q : Some (at_key may.base) ≡ Some (at_object o) = sym (ap (below_key st may.base) e) ∙ chain in absurd cc
      by (suc m) e =
          let y = from_suc st (at_key may.base) (at_object o) m (sym (ap (below_key st may.base) e) ∙ chain) in
          let same : at_object o ≡ at_object y.1 = y.4 in
          let one_object : y.1 ≡ o = cc in
          at y.0 y.1 y.3 one_object (where_is m y.0 y.2)

  -- NO SHARED REFERENCE LEADS THERE

  shared_value : (l : Location) (q : SharedRef) → value_in gk l ≡ Some (value.Shared q) → Among (shares l q) (things_of k)
  shared_value (at_slot t i) q e = slot_among k t i (value.Shared q) e (shares (at_slot t i) q) (λ s. inl refl)
  shared_value (at_temp t i) q e = temp_among k t i (value.Shared q) e (shares (at_temp t i) q) (λ s. inl refl)
  shared_value (in_cell p) q e = absurd (not_owned (cell_of gk.cells p) e)
    where
      not_owned : (d : Option Cell) → value_of d ≡ Some (value.Shared q) → ⊥
      not_owned None f = absurd cc
      not_owned (Some d) f = absurd cc

  no_shared : (l : Location) (q : SharedRef) → value_in gk l ≡ Some (value.Shared q) → q.object ≡ o → ⊥
  no_shared l q e f = sole_pointers.unshared k c x v h o g may hop l q (shared_value l q e) f

  -- NO THREAD HAS TAKEN IT

  object_at : leads n (value_in gk h) ≡ Some (in_cell o)
  object_at = sym (ap (λ m. leads n (value_behind gk m)) hop.pointer) ∙ sym (ap (locate gk n v.slot) hop.last) ∙ hop.leads

  module _ (fresh : IsStale (sight k) (Some h) → ⊥) (apart : Above gk h h → ⊥) where
    lent_by : (y : Standing) (t : TookObject k y o) (s : LastStar gk y.thread.number t.place.slot t.place.depth o) (xs : List Standing) → Among y xs → is_among s.pointer (lent_places (sight k).code gk xs) ≡ true
    lent_by y t s [] m = absurd m
    lent_by y t s (x2 ∷ xs) (inl e) = subst (λ (u : Standing). is_among s.pointer (with_place (lent_place gk u.thread.number u.thread.phase (slice_get (sight k).code u.thread.pc)) (lent_places (sight k).code gk xs)) ≡ true) (sym e) first
      where
        at : lent_place gk y.thread.number y.thread.phase (slice_get (sight k).code y.thread.pc) ≡ Some s.pointer
        at =
            ap (λ f. lent_place gk y.thread.number f (slice_get (sight k).code y.thread.pc)) t.taken
            ∙ ap (lent_place gk y.thread.number (phase.Taken t.word)) t.at
            ∙ ap (one_star_less gk y.thread.number t.place.slot) s.last
            ∙ s.located

        first : is_among s.pointer (with_place (lent_place gk y.thread.number y.thread.phase (slice_get (sight k).code y.thread.pc)) (lent_places (sight k).code gk xs)) ≡ true
        first = ap (λ m. is_among s.pointer (with_place m (lent_places (sight k).code gk xs))) at ∙ ap (λ b. b || is_among s.pointer (lent_places (sight k).code gk xs)) (location_itself s.pointer)
    lent_by y t s (x2 ∷ xs) (inr m) = later (lent_place gk x2.thread.number x2.thread.phase (slice_get (sight k).code x2.thread.pc)) (lent_by y t s xs m)
      where
        later : (p : Option Location) → is_among s.pointer (lent_places (sight k).code gk xs) ≡ true → is_among s.pointer (with_place p (lent_places (sight k).code gk xs)) ≡ true
        later None f = f
        later (Some l) f = either (same_location l s.pointer) f
          where
            either : (b : Bool) → is_among s.pointer (lent_places (sight k).code gk xs) ≡ true → b || is_among s.pointer (lent_places (sight k).code gk xs) ≡ true
            either true f = refl
            either false f = f

    not_taken : (y : Standing) → Among y gk.threads → TookObject k y o → ⊥
    not_taken y m t = by (pointing y.thread.number s.pointer (value_in gk s.pointer) o s.leads_there)
      where
        s : LastStar gk y.thread.number t.place.slot t.place.depth o
        s = last_star gk y.thread.number t.place.slot t.place.depth o t.leads_there

        goes : GoesOn k y
        goes = record { among = m; going = ap is_over t.taken }

        write : MayWrite k c.types y t.place
        write = may_write_there k c y goes (instr.BorrowMut t.place) t.place t.at lends

        last : LastHop gk y.thread.number t.place s.pointer o
        last = record { stars = s.stars; last = s.last; pointer = s.located; leads = t.leads_there }

        -- the pointer that it was taken from is stale
        stale_there : IsStale (sight k) (Some s.pointer)
        stale_there = taken_above (lent_by y t s gk.threads m)

        -- no pointer at h stands above it too
        above : Above gk s.pointer h → ⊥
        above a = at_h (pointing n h (value_in gk h) o object_at)
          where
            at_h : ((q : SharedRef) × (value_in gk h ≡ Some (value.Shared q)) × (q.object ≡ o)) ⊎ ((u : Value) × (value_in gk h ≡ Some u) × (p : Pointer) × Among p (pointer_at h u) × (p.object ≡ o) × (p.at ≡ Some h)) → ⊥
            at_h (inl q) = no_shared h q.0 q.1 q.2
            at_h (inr q) =
                ⊎_elim (λ (e : h ≡ s.pointer). fresh (subst (λ l. IsStale (sight k) (Some l)) (sym e) stale_there)) (λ (b : Above gk h s.pointer). apart (above_above gk h s.pointer h b a))
                (sole_pointers.above k c y t.place s.pointer o goes write last q.2 h (told k h q.0 q.2 q.1 q.3) q.4 q.5)

        by : ((q : SharedRef) × (value_in gk s.pointer ≡ Some (value.Shared q)) × (q.object ≡ o)) ⊎ ((u : Value) × (value_in gk s.pointer ≡ Some u) × (p : Pointer) × Among p (pointer_at s.pointer u) × (p.object ≡ o) × (p.at ≡ Some s.pointer)) → ⊥
        by (inl q) = no_shared s.pointer q.0 q.1 q.2
        by (inr q) =
            ⊎_elim (λ (e : s.pointer ≡ h). fresh (subst (λ l. IsStale (sight k) (Some l)) e stale_there)) above
            (sole_pointers.above k c x v h o g may hop q.2 s.pointer (told k s.pointer q.0 q.2 q.1 q.3) q.4 q.5)

-- A POINTER OUTSIDE OF PLACES

-- a reference was made from what stands above another one
pub above_holds : (k : Cluster) (l m : Location) → Above (sight k).ground l m → (r : Reference) × Among r (references (sight k).ground (things_of k)) × (is_held_at l r.holder ≡ true)
above_holds k l m (made_from q e held) = (record { at = m; holder = holder_of (sight k).ground m q.holder; reference = q }, reference_there k m q e, held_there k l (holder_of (sight k).ground m q.holder) held)
above_holds k l m (made_below {h = j} q e held rest) = above_holds k l j rest

-- a pointer that stands is of a thing
pub record OfStanding (p : Pointer) (b : List Thing) : Type 0 where
  pub thing : Thing
  pub among : Among thing b
  pub pointer : Among p (standing_of thing)

pub of_standing : (p : Pointer) (b : List Thing) → Among p (standing_in b) → OfStanding p b
of_standing p [] h = absurd h
of_standing p (x ∷ b) h =
    ⊎_elim (λ (l : Among p (standing_of x)). record { thing = x; among = inl refl; pointer = l }) (λ (r : Among p (standing_in b)). let q = of_standing p b r in record { thing = q.thing; among = inr q.among; pointer = q.pointer })
    (among_split p (standing_of x) (standing_in b) h)

-- where a pointer leads to an object it does so for every thread
pub leads_any : (n t : ℕ) (v : Option Value) (o : ObjNo) → leads n v ≡ Some (in_cell o) → leads t v ≡ Some (in_cell o)
leads_any n t (Some (value.Own (owned.Box b))) o e = e
leads_any n t (Some (value.Shared r)) o e = e
leads_any n t (Some (value.Mut r)) o e = e
leads_any n t (Some (value.SharedSlot i)) o e = absurd cc
leads_any n t (Some (value.MutSlot i)) o e = absurd cc
leads_any n t (Some value.Gone) o e = absurd cc
leads_any n t (Some (value.Held m)) o e = absurd cc
leads_any n t (Some (value.Own owned.Nothing)) o e = absurd cc
leads_any n t (Some (value.Own owned.Unit)) o e = absurd cc
leads_any n t (Some (value.Own (owned.Int j))) o e = absurd cc
leads_any n t (Some (value.Own (owned.Mutex m))) o e = absurd cc
leads_any n t (Some (value.Own (owned.Task u))) o e = absurd cc
leads_any n t None o e = absurd cc

some_nothing : (l : Location) (p : Pointer) → p.at ≡ Some l → p.at ≡ None → ⊥
some_nothing l p e f = let y : None ≡ Some l = sym f ∙ e in absurd cc

held_weighs : (o : ObjNo) (u : Owned) (p : Pointer) → Among p (pointer_in None u) → p.object ≡ o → 1 ≤ boxes o u
held_weighs o (owned.Box b) p (inl e) f = weighs_one b o (ap (λ (y : Pointer). y.object) e ∙ f)
held_weighs o (owned.Box b) p (inr m) f = absurd m
held_weighs o owned.Nothing p m f = absurd m
held_weighs o owned.Unit p m f = absurd m
held_weighs o (owned.Int n) p m f = absurd m
held_weighs o (owned.Mutex n) p m f = absurd m
held_weighs o (owned.Task t) p m f = absurd m

module _ (k : Cluster) (c : HasPaths k) (x : Standing) (v : Lval) (h : Location) (o : ObjNo) (g : GoesOn k x) (may : MayWrite k c.types x v) (hop : LastHop (sight k).ground x.thread.number v h o)
    (fresh : IsStale (sight k) (Some h) → ⊥) where
  places : HasPlaces k
  places = record { numbers_differ = c.numbers_differ; home_of_each = c.home_of_each; owner_of_each = c.owner_of_each }

  followed : Followed k c x h
  followed = record {
    goes = g;
    slot = v.slot;
    stars = hop.stars;
    free = may.free;
    base = may.base;
    boxes = may.boxes;
    type = may.type;
    resolves = subst (λ y. Resolves c.types.typing.exact true (slot_k x.thread.number v.slot) y may.base may.boxes may.type) hop.last may.resolves;
    located = hop.pointer;
  }

  unmade : (q : Reference) → Among q (references (sight k).ground (things_of k)) → is_held_at h q.holder ≡ true → ⊥
  unmade q m e = none_made k c x h q followed m e

  apart : Above (sight k).ground h h → ⊥
  apart a = let y = above_holds k h h a in unmade y.0 y.1 y.2

  owner : Owner k o
  owner = owner_of_box k o (box_there k c x v h o g may hop)

  outside : (sp : Spot) (u : Owned) (p : Pointer) → Among (holds sp u) (things_of k) → Among p (pointer_in (location_of sp) u) → p.object ≡ o → p.at ≡ None → ⊥
  outside (in_slot t i) u p m q e f = box_nowhere (at_slot t i) u p q f
  outside (in_temp t i) u p m q e f = box_nowhere (at_temp t i) u p q f
  outside (as_gift t) u p m q e f = no_other k o places owner (holds (as_gift t) u) m (held_weighs o u p q e) refl
  outside (as_content n) u p m q e f = no_other k o places owner (holds (as_content n) u) m (held_weighs o u p q e) refl
  outside (as_result t) u p m q e f = no_other k o places owner (holds (as_result t) u) m (held_weighs o u p q e) refl
  outside in_hand u p m q e f = no_other k o places owner (holds in_hand u) m (held_weighs o u p q e) refl

  dropped : (s : ℕ) (n : Message) (p : Pointer) → Among (sent s n) (things_of k) → Among p (dropped_pointer n) → p.object ≡ o → ⊥
  dropped s (Drop a b) p m (inl e) f =
      let same : b ≡ o = ap (λ (y : Pointer). y.object) e ∙ f in
      let y : one (same_object b o) ≡ 1 = ap one (itself b o same) in
      no_other k o places owner (sent s (Drop a b)) m (omega (arith, y)) refl
  dropped s (Drop a b) p m (inr q) f = q
  dropped s _ p m q f = q

  thing_alone : (y : Thing) (p : Pointer) → Among y (things_of k) → Among p (standing_of y) → p.object ≡ o → p.at ≡ None → ⊥
  thing_alone (holds sp u) p m q e f = outside sp u p m q e f
  thing_alone (shares l s) p m (inl q) e f = sole_pointers.unshared k c x v h o g may hop l s m (ap (λ (y : Pointer). y.object) q ∙ e)
  thing_alone (shares l s) p m (inr q) e f = q
  thing_alone (borrows l s) p m (inl q) e f = some_nothing l p (sym (ap (λ (y : Pointer). y.at) q)) f
  thing_alone (borrows l s) p m (inr q) e f = q
  thing_alone (lies i a b) p m q e f = box_nowhere (in_cell b.object) b.value p q f
  thing_alone (flies a b) p m q e f = box_nowhere (in_cell b.object) b.value p q f
  thing_alone (sent s n) p m q e f = dropped s n p m q e
  thing_alone _ p m q e f = q

  placed_alone : (p : Pointer) → Among p (standing_pointers (sight k)) → p.object ≡ o → p.at ≡ None → ⊥
  placed_alone p m e f =
      ⊎_elim (λ (q : Among p (standing_in (things_of k))). let y = of_standing p (things_of k) q in thing_alone y.thing p y.among y.pointer e f)
      (λ (q : Among p (taken_pointers (sight k).code (sight k).ground (sight k).ground.threads)).
      let y = took_object k (sight k).ground.threads p q in
      not_taken k c x v h o g may hop fresh apart y.0 y.1 (subst (λ i. TookObject k y.0 i) e y.2))
      (among_split p (standing_in (things_of k)) (taken_pointers (sight k).code (sight k).ground (sight k).ground.threads) m)

pub written_are_sole : WrittenAreSole
written_are_sole k c x v h o g may hop fresh = record {
  to = λ t. leads_any x.thread.number t (value_in (sight k).ground h) o (object_at k c x v h o g may hop);
  above = λ p l m e f. sole_pointers.above k c x v h o g may hop p l m e f;
  placed = placed_alone k c x v h o g may hop fresh;
  unmade = unmade k c x v h o g may hop fresh;
}
