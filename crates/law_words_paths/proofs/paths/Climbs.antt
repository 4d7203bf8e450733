-- What stands above a pointer in the store stands above it in the cluster.
use Rattle.std.proofs.Common.{◌≡◌, ℕ, suc, ◌==◌, ◌&&◌, Bool, true, false, Option, Some, None, refl, sym, ap, subst, ◌∙◌, arith}
use Rattle.std.specs.Prelude.{slice_get}
use Rattle.std.proofs.lemmas.Bool.Decides.{nat_tests}
use Rattle.coherent_types.proofs.Below.fr_typing.PlaceLemmas.{eq_cases}
use Rattle.coherent_types.specs.Below.fr_base.declared.name.ObjNo.{ObjNo}
use Rattle.coherent_types.specs.Below.fr_base.declared.place.Lval.{Lval}
use Rattle.coherent_types.specs.Below.fr_store.Keys.{Key, slot_k}
use Rattle.coherent_types.specs.Below.fr_store.Store.{Location as StoreLocation, at_key, at_object, Val, gone_v, ref_v, Store, Place as StorePlace, star_target, star_hop, walk}
use Rattle.coherent_types.specs.Below.fr_store.Typed.{refers, KeyTypes}
use Rattle.coherent_types.proofs.Below.fr_store.Sound.{walk_last, ref_at, sound}
use Rattle.coherent_types.specs.Below.fr_sound.Seen.{Gives, owned_val}
use Rattle.coherent_types.specs.Below.heap_partition.Plain.{plain_of}
use Rattle.coherent_types.specs.Below.heap_partition.declared.value.Owned.{Owned}
use Rattle.coherent_types.specs.Below.heap_partition.declared.value.Owned.TheVariants as owned
use Rattle.coherent_types.specs.Below.mut_borrow.declared.mutable.MutRef.{MutRef}
use Rattle.coherent_types.specs.Below.thread_state.declared.value.Value.{Value}
use Rattle.coherent_types.specs.Below.thread_state.declared.value.Value.TheVariants as value
use Rattle.coherent_types.specs.Below.server_model.Servers.{Cluster}
use Rattle.coherent_types.specs.Below.coherent_memory.Names.{other, if_so}
use Rattle.coherent_types.specs.Below.coherent_memory.Things.{Location, at_slot, at_temp, in_cell}
use Rattle.coherent_types.specs.Below.coherent_memory.Follow.{Standing, Ground, slot_of, value_in, locate}
use Rattle.coherent_types.specs.Below.coherent_memory.Stale.{holder_of}
use Rattle.coherent_types.specs.Below.coherent_memory.Sight.{sight}
use Rattle.coherent_types.specs.ClusterTypes.{astray, leads_as, is_held_at}
use Rattle.law_words_paths.proofs.paths.Sole.{some_is}
use Rattle.law_words_paths.specs.paths.Above.{IsMadeFrom, StandsAbove, holder, higher}
use Rattle.law_words_paths.specs.paths.HeapStore.{in_store, heap_store, GoesOn, IsUnmarked, HasPaths}
use Rattle.law_words_paths.specs.paths.Pointing.{Above, made_from, made_below}
use Rattle.law_words_paths.proofs.paths.Shown.{none_else, stands_there}
use Rattle.law_words_paths.proofs.paths.Alike.{IsShown, a_slot, an_object, mark_unnamed, leads_in_heap, leads_in_cluster, slot_none, slot_gone, slot_own, slot_shared_slot, slot_mut_slot}
use Rattle.law_words_paths.proofs.paths.Forms.{not_mutable, own_place, not_astray}

-- two locations of the cluster are two in the store
pub one_location : (l m : Location) → in_store l ≡ in_store m → l ≡ m
one_location (at_slot t i) (at_slot u j) e = cc
one_location (at_slot t i) (at_temp u j) e = absurd cc
one_location (at_slot t i) (in_cell o) e = absurd cc
one_location (at_temp t i) (at_slot u j) e = absurd cc
one_location (at_temp t i) (at_temp u j) e = cc
one_location (at_temp t i) (in_cell o) e = absurd cc
one_location (in_cell p) (at_slot u j) e = absurd cc
one_location (in_cell p) (at_temp u j) e = absurd cc
one_location (in_cell p) (in_cell o) e = cc

no_reference : (g : Gives) (v : Owned) (l : StoreLocation) → owned_val g (plain_of v) ≡ ref_v l → ⊥
no_reference g owned.Nothing l e = absurd cc
no_reference g owned.Unit l e = absurd cc
no_reference g (owned.Int z) l e = absurd cc
no_reference g (owned.Box p) l e = absurd cc
no_reference g (owned.Mutex m) l e = absurd cc
no_reference g (owned.Task t) l e = absurd cc

-- the holder is the place with one star less
pub held_as : (slot stars depth : ℕ) (r : MutRef) → depth ≡ suc stars → is_held_at slot depth r.holder ≡ true → (r.holder.slot ≡ slot) × (r.holder.depth ≡ stars)
held_as slot stars depth r d e = by (r.holder.slot == slot) (r.holder.depth == stars) refl refl (subst (λ z. is_held_at slot z r.holder ≡ true) d e)
  where
    by : (a b : Bool) → (r.holder.slot == slot) ≡ a → (r.holder.depth == stars) ≡ b → a && b ≡ true → (r.holder.slot ≡ slot) × (r.holder.depth ≡ stars)
    by false b p q h = absurd cc
    by true false p q h = absurd cc
    by true true p q h = (grind (arith, nat_tests, p), grind (arith, nat_tests, q))

key_same : {a b : Key} → at_key a ≡ at_key b → a ≡ b
key_same e = cc

key_no_object : {a : Key} {o : ObjNo} → at_key a ≡ at_object o → ⊥
key_no_object e = absurd cc

abbrev star_of : Val → Option StoreLocation
star_of v = star_target (Some v)

pub ref_is : {l m : StoreLocation} → ref_v l ≡ ref_v m → l ≡ m
ref_is e = cc

pub and_second : (a b : Bool) → a && b ≡ true → b ≡ true
and_second true b e = e
and_second false b e = absurd cc

module _ (k : Cluster) (c : HasPaths k) (x : Standing) (g : GoesOn k x) where
  abbrev st : Store
  st = heap_store k c.types

  abbrev n : ℕ
  n = x.thread.number

  abbrev ground : Ground
  ground = (sight k).ground

  abbrev E : KeyTypes
  E = c.types.typing.exact

  -- what stands in a slot of which the one heap shows a reference to the object, with a mutable exact type
  mutable_there : (i : ℕ) (u : StorePlace) (o : ObjNo) → E (slot_k n i) ≡ refers true u → IsUnmarked x i → st.at (slot_k n i) ≡ ref_v (at_object o) → (r : MutRef) × (slice_get x.thread.slots i ≡ Some (value.Mut r))
  mutable_there i u o is clear at = by (slice_get x.thread.slots i) refl
    where
      by : (v : Option Value) → slice_get x.thread.slots i ≡ v → (r : MutRef) × (v ≡ Some (value.Mut r))
      by None e = let q : gone_v ≡ ref_v (at_object o) = sym (slot_none k c x g i e) ∙ at in absurd cc
      by (Some value.Gone) e = let q : gone_v ≡ ref_v (at_object o) = sym (slot_gone k c x g i e) ∙ at in absurd cc
      by (Some (value.Own v)) e = absurd (no_reference c.types.typing.gives v (at_object o) (sym (slot_own k c x g i v e) ∙ at))
      by (Some (value.SharedSlot j)) e = let q : ref_v (at_key (slot_k n j)) ≡ ref_v (at_object o) = sym (slot_shared_slot k c x g i j e) ∙ at in absurd cc
      by (Some (value.MutSlot j)) e = let q : ref_v (at_key (slot_k n j)) ≡ ref_v (at_object o) = sym (slot_mut_slot k c x g i j e) ∙ at in absurd cc
      by (Some (value.Shared r)) e = absurd (not_mutable k c x g i r u e is)
      by (Some (value.Mut r)) e = (r, refl)
      by (Some (value.Held m)) e = absurd (clear m e)

  -- a slot that an exact type names is no mark
  named_unmarked : (i j : ℕ) (u : StorePlace) → E (slot_k n i) ≡ refers true u → u.key ≡ slot_k n j → IsUnmarked x j
  named_unmarked i j u is key m e = (mark_unnamed k c x g j m e) (slot_k n i) true u is key

  -- a value that isn't astray leads as the place does
  pub right_place : (w : Lval) (v : Value) → astray ground n (refers true (record { key = slot_k n w.slot; depth = w.depth })) v ≡ 0 → leads_as ground n w v ≡ true
  right_place w v z = eq_cases (λ b. if_so b (other (leads_as ground n w v)) ≡ 0 → leads_as ground n w v ≡ true) n n (λ e y. none_else (leads_as ground n w v) y) (λ ne y. absurd (ne refl)) z

  -- the mutable reference in a slot, and the pointer from which it was made
  record OneUp (i : ℕ) (sh : StoreLocation) (o : ObjNo) : Type 0 where
    reference : MutRef
    stands : slice_get x.thread.slots i ≡ Some (value.Mut reference)
    location : Location
    held : holder_of ground (at_slot n i) reference.holder ≡ Some location
    is : in_store location ≡ sh
    shown : IsShown k c x g location
    clear : (j : ℕ) → location ≡ at_slot n j → IsUnmarked x j
    leads_there : star_hop st sh ≡ Some (at_object o)

  one_up : (i : ℕ) (sh : StoreLocation) (o : ObjNo) → IsMadeFrom E st (slot_k n i) sh → IsUnmarked x i → st.at (slot_k n i) ≡ ref_v (at_object o) → OneUp i sh o
  one_up i sh o made clear at =
      let u = made.place in
      let m = mutable_there i u o made.refers clear at in
      let own = own_place k c x g i (value.Mut m.0) u m.1 made.refers in
      let w = own.0 in
      let depth : w.depth ≡ suc made.stars = sym (ap (λ (z : StorePlace). z.depth) own.1) ∙ made.last in
      let key : u.key ≡ slot_k n w.slot = ap (λ (z : StorePlace). z.key) own.1 in
      let astray_none = not_astray k c x g i (value.Mut m.0) m.1 in
      let by_type : astray ground n (refers true u) (value.Mut m.0) ≡ 0 = subst (λ e. astray ground n e (value.Mut m.0) ≡ 0) made.refers astray_none in
      let by_place : astray ground n (refers true (record { key = slot_k n w.slot; depth = w.depth })) (value.Mut m.0) ≡ 0 = subst (λ z. astray ground n (refers true z) (value.Mut m.0) ≡ 0) own.1 by_type in
      let leads_so = right_place w (value.Mut m.0) by_place in
      let held = held_as w.slot made.stars w.depth m.0 depth (and_second _ _ leads_so) in
      let t = c.types.state.typed in
      let walk_there : walk st made.stars (at_key (slot_k n w.slot)) ≡ Some sh = subst (λ z. walk st made.stars (at_key z) ≡ Some sh) key made.leads in
      let there = leads_in_cluster k c x g w.slot made.stars sh (named_unmarked i w.slot u made.refers key) walk_there in
      let in_heap = leads_in_heap k c x g w.slot made.stars there.0 there.1 in
      let f = ref_at c.types.typing.rank E st t (slot_k n i) true u made.refers in
      let target : f.target ≡ at_object o = ref_is (sym f.is ∙ at) in
      let whole_walk : walk st u.depth (at_key u.key) ≡ Some f.target = sound c.types.typing.rank E st t true u.key u.depth f.base f.boxes f.type f.res ∙ f.leads in
      let one_more : walk st (suc made.stars) (at_key u.key) ≡ Some f.target = sym (ap (λ z. walk st z (at_key u.key)) made.last) ∙ whole_walk in
      record {
        reference = m.0;
        stands = m.1;
        location = there.0;
        held = subst (λ z. locate ground n z m.0.holder.depth ≡ Some there.0) (sym held.0) (subst (λ z. locate ground n w.slot z ≡ Some there.0) (sym held.1) there.1);
        is = some_is (sym in_heap.0 ∙ walk_there);
        shown = in_heap.1;
        clear = there.2;
        leads_there = sym (walk_last st made.stars (at_key u.key) sh made.leads) ∙ one_more ∙ ap Some target;
      }

  -- a location at a key is a slot
  record InSlot (m : Location) (key : Key) : Type 0 where
    slot : ℕ
    location : m ≡ at_slot n slot
    key_is : key ≡ slot_k n slot

  in_slot_of : (m : Location) (key : Key) → IsShown k c x g m → in_store m ≡ at_key key → InSlot m key
  in_slot_of _ key (a_slot i) e = record { slot = i; location = refl; key_is = key_same (sym e) }
  in_slot_of _ key (an_object o v h) e = absurd (key_no_object (sym e))

  -- what stands at a key that was made from a pointer, where one star leads to the object
  refers_there : (i : ℕ) (u : StorePlace) (o : ObjNo) → E (slot_k n i) ≡ refers true u → star_hop st (at_key (slot_k n i)) ≡ Some (at_object o) → st.at (slot_k n i) ≡ ref_v (at_object o)
  refers_there i u o is leads =
      let f = ref_at c.types.typing.rank E st c.types.state.typed (slot_k n i) true u is in
      let hop : star_hop st (at_key (slot_k n i)) ≡ Some f.target = ap star_of f.is in
      f.is ∙ ap ref_v (some_is (sym hop ∙ leads))

  -- one reference up, from wherever it stands
  up_from : (m : Location) (key : Key) (sh : StoreLocation) (o : ObjNo) → IsShown k c x g m → ((j : ℕ) → m ≡ at_slot n j → IsUnmarked x j) → in_store m ≡ at_key key → star_hop st (at_key key) ≡ Some (at_object o) → IsMadeFrom E st key sh
      → (i : ℕ) × (m ≡ at_slot n i) × OneUp i sh o
  up_from m key sh o shown clear is leads made =
      let q = in_slot_of m key shown is in
      let made2 = subst (λ z. IsMadeFrom E st z sh) q.key_is made in
      let leads2 = subst (λ z. star_hop st (at_key z) ≡ Some (at_object o)) q.key_is leads in
      (q.slot, q.location, one_up q.slot sh o made2 (clear q.slot q.location) (refers_there q.slot made2.place o made2.refers leads2))

  stands_so : (i : ℕ) (r : MutRef) → slice_get x.thread.slots i ≡ Some (value.Mut r) → value_in ground (at_slot n i) ≡ Some (value.Mut r)
  stands_so i r e = ap (λ o. slot_of o i) (stands_there k c x g) ∙ e

  -- UP TO THE POINTER
  pub climbs : (l : Location) (sl : StoreLocation) (m : Location) (sh : StoreLocation) (o : ObjNo) → IsShown k c x g m → ((j : ℕ) → m ≡ at_slot n j → IsUnmarked x j) → in_store m ≡ sh → star_hop st sh ≡ Some (at_object o) → in_store l ≡ sl
      → StandsAbove E st sl sh → Above ground l m
  climbs l sl m _ o shown clear is leads at (holder {k = key} made) =
      let q = up_from m key sl o shown clear is leads made in
      let up = q.2 in
      let same : up.location ≡ l = one_location up.location l (up.is ∙ sym at) in
      subst (Above ground l) (sym q.1) (made_from up.reference (stands_so q.0 up.reference up.stands) (up.held ∙ ap Some same))
  climbs l sl m _ o shown clear is leads at (higher {k = key} {h = h} made rest) =
      let q = up_from m key h o shown clear is leads made in
      let up = q.2 in
      subst (Above ground l) (sym q.1) (made_below up.reference (stands_so q.0 up.reference up.stands) up.held (climbs l sl up.location h o up.shown up.clear up.is up.leads_there at rest))
