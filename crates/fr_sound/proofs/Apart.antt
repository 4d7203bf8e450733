-- Threads that share no memory lead to no common object.
use Rattle.std.proofs.Common.{◌≡◌, ℕ, zero, suc, Bool, List, Option, Some, None, refl, sym, ap, subst, ◌∙◌}
use Rattle.fr_plain.specs.Below.fr_base.declared.label.Plain.TheVariants as plain
use Rattle.fr_plain.specs.Below.fr_base.declared.label.Label.{Label}
use Rattle.fr_plain.specs.Below.fr_base.declared.name.ObjNo.{ObjNo}
use Rattle.fr_plain.specs.Below.fr_base.declared.place.Lval.{Lval}
use Rattle.fr_store.specs.Keys.{Key, slot_k}
use Rattle.fr_store.specs.Store.{Location, at_key, at_object, box_v, ref_v, Store, value_at, Place, below_key}
use Rattle.fr_store.specs.Typed.{Tree, hole, unit_tree, int_tree, mutex_tree, task_tree, box_tree, Exact, owns, refers, KeyTypes, exact_under, some_owns, tree_under, Resolves, here, through, RefFits, Fits, Typed}
use Rattle.fr_store.specs.Local.{thread_of, IsLocal}
use Rattle.fr_store.proofs.Chains.{from_suc, from_box, unique}
use Rattle.fr_store.proofs.ThreadKept.{ref_base}
use Rattle.fr_plain.specs.declared.value.Value.{Value}
use Rattle.fr_plain.specs.declared.value.Value.TheVariants.{Own, ToSlot, ToObject, Held}
use Rattle.fr_plain.specs.State.{State, Spot, in_slot, in_cell, Reached, then_reached, led, stars, locate}
use Rattle.fr_plain.specs.State as plain_state
use Rattle.fr_plain.specs.Threads.{Thread, Whole, thread_at}
use Rattle.fr_plain.specs.Whole.{state_of}
use Rattle.fr_sound.specs.Seen.{Gives, val_of, location_of, rank_of}
use Rattle.fr_sound.specs.Together.{held_life, seen_all, AreTyped}
use Rattle.fr_sound.specs.Apart.{ThreadsApart}
use Rattle.fr_sound.proofs.FoundPlaces.{value_there}
use Rattle.fr_sound.proofs.Focus.{beside_of, focus_alike}

-- the location is a key of the thread, or some boxes below one
record BelongsTo (s : Store) (t : ℕ) (l : Location) : Type 0 where
  pub key : Key
  pub boxes : ℕ
  pub of : thread_of key ≡ Some t
  pub leads : below_key s key boxes ≡ Some l

spot_is : (p : Spot) (q : Reached) (passed : List Label) → Some (record { spot = p; passed = passed }) ≡ Some q → p ≡ q.spot
spot_is p q passed e = cc

-- ALONG A BOX

along_box : (s : Store) (t : ℕ) (l : Location) (o : ObjNo) → BelongsTo s t l → value_at s l ≡ Some (box_v o) → BelongsTo s t (at_object o)
along_box s t l o b v = record { key = b.key; boxes = suc b.boxes; of = b.of; leads = from_box s (at_key b.key) l b.boxes o b.leads v }

-- ALONG A REFERENCE

module _ (rank : Key → ℕ) (E : KeyTypes) (s : Store) (typed : Typed rank E s) (local : IsLocal E) where
  -- a box stands where the tree is one of a box
  box_fits : (p : Exact) (o : ObjNo) → Fits E s p (box_v o) → (t : Tree) × (p ≡ owns (box_tree t))
  box_fits (owns (box_tree t)) o h = (t, refl)
  box_fits (owns hole) o h = absurd cc
  box_fits (owns unit_tree) o h = absurd cc
  box_fits (owns int_tree) o h = let e = h.1 in absurd cc
  box_fits (owns (mutex_tree t)) o h = let e = h.1 in absurd cc
  box_fits (owns (task_tree t)) o h = let e = h.1 in absurd cc
  box_fits (refers m u) o h = let e = h.is in absurd cc

  -- what is in a box has the tree in the box's
  in_tree : (n : ℕ) (q t : Tree) → tree_under n q ≡ Some (box_tree t) → tree_under (suc n) q ≡ Some t
  in_tree zero (box_tree q) t h = let same : q ≡ t = cc in ap Some same
  in_tree zero hole t h = absurd cc
  in_tree zero unit_tree t h = absurd cc
  in_tree zero int_tree t h = absurd cc
  in_tree zero (mutex_tree q) t h = absurd cc
  in_tree zero (task_tree q) t h = absurd cc
  in_tree (suc n) (box_tree q) t h = in_tree n q t h
  in_tree (suc n) hole t h = absurd cc
  in_tree (suc n) unit_tree t h = absurd cc
  in_tree (suc n) int_tree t h = absurd cc
  in_tree (suc n) (mutex_tree q) t h = absurd cc
  in_tree (suc n) (task_tree q) t h = absurd cc

  some_tree : (o : Option Tree) (t : Tree) → some_owns o ≡ Some (owns t) → o ≡ Some t
  some_tree None t h = absurd cc
  some_tree (Some q) t h = let same : q ≡ t = cc in ap Some same

  in_box : (n : ℕ) (q : Exact) (t : Tree) → exact_under n q ≡ Some (owns (box_tree t)) → exact_under (suc n) q ≡ Some (owns t)
  in_box n (owns q) t h = ap some_owns (in_tree n q t (some_tree (tree_under n q) (box_tree t) h))
  in_box zero (refers m u) t h = absurd cc
  in_box (suc n) (refers m u) t h = absurd cc

  -- what stands so many boxes below a key has a type
  typed_below : (k : Key) (n : ℕ) (l : Location) → below_key s k n ≡ Some l → (p : Exact) × (exact_under n (E k) ≡ Some p)
  typed_below k zero l h = top (E k)
    where
      top : (q : Exact) → (p : Exact) × (exact_under zero q ≡ Some p)
      top (owns t) = (owns t, refl)
      top (refers m u) = (refers m u, refl)
  typed_below k (suc n) l h =
      let step = from_suc s (at_key k) l n h in
      let above = typed_below k n step.0 step.2 in
      let st = typed.stands k n above.0 above.1 in
      let same : st.spot ≡ step.0 = let e : Some st.spot ≡ Some step.0 = sym st.leads ∙ step.2 in cc in
      let is : st.value ≡ box_v step.1 = let e : Some st.value ≡ Some (box_v step.1) = sym st.there ∙ ap (value_at s) same ∙ step.3 in cc in
      let box = box_fits above.0 step.1 (subst (Fits E s above.0) is st.fits) in
      (owns box.0, in_box n (E k) box.0 (above.1 ∙ ap Some box.1))

  -- a reference has a reference's type
  ref_fits : (p : Exact) (l : Location) → Fits E s p (ref_v l) → (m : Bool) × (u : Place) × (p ≡ refers m u) × RefFits E s m u (ref_v l)
  ref_fits (refers m u) l h = (m, u, refl, h)
  ref_fits (owns hole) l h = absurd cc
  ref_fits (owns unit_tree) l h = absurd cc
  ref_fits (owns int_tree) l h = let e = h.1 in absurd cc
  ref_fits (owns (mutex_tree t)) l h = let e = h.1 in absurd cc
  ref_fits (owns (task_tree t)) l h = let e = h.1 in absurd cc
  ref_fits (owns (box_tree t)) l h = let e = h.1 in absurd cc

  -- a place of a reference is of the same thread
  own_thread : (k : Key) (m : Bool) (u : Place) (t : ℕ) → E k ≡ refers m u → thread_of k ≡ Some t → thread_of u.key ≡ Some t
  own_thread k m u t e of =
      let own = local k m u e in
      let same : own.thread ≡ t = let f : Some own.thread ≡ Some t = sym own.of ∙ of in cc in
      ap thread_of own.is ∙ ap Some same

  -- so a place resolves within its thread
  within : {only : Bool} {k b : Key} {d n : ℕ} {p : Exact} (t : ℕ) → Resolves E only k d b n p → thread_of k ≡ Some t → thread_of b ≡ Some t
  within t (here e) of = of
  within t (through {k = k} m u e is h de r) of = within t r (own_thread k m u t is of)

  along_ref : (t : ℕ) (l to : Location) → BelongsTo s t l → value_at s l ≡ Some (ref_v to) → BelongsTo s t to
  along_ref t l to b v =
      let above = typed_below b.key b.boxes l b.leads in
      let st = typed.stands b.key b.boxes above.0 above.1 in
      let same : st.spot ≡ l = let e : Some st.spot ≡ Some l = sym st.leads ∙ b.leads in cc in
      let is : st.value ≡ ref_v to = let e : Some st.value ≡ Some (ref_v to) = sym st.there ∙ ap (value_at s) same ∙ v in cc in
      let r = ref_fits above.0 to (subst (Fits E s above.0) is st.fits) in
      let base = ref_base b.boxes (E b.key) r.0 r.1 (above.1 ∙ ap Some r.2) in
      let f = r.3 in
      let target : f.target ≡ to = let e : ref_v to ≡ ref_v f.target = f.is in cc in
      record { key = f.base; boxes = f.boxes; of = within t f.res (own_thread b.key r.0 r.1 t base b.of); leads = f.leads ∙ ap Some target }

  -- ALONG A PLACE

  module _ (g : Gives) (st : State) (there : (p : Spot) (v : Value) → plain_state.value_at st p ≡ Some v → value_at s (location_of st.thread p) ≡ Some (val_of g st.thread v)) where
    along : (r q : Reached) (o : Option Value) → plain_state.value_at st r.spot ≡ o → BelongsTo s st.thread (location_of st.thread r.spot) → led r o ≡ Some q → BelongsTo s st.thread (location_of st.thread q.spot)
    along r q None is b h = absurd cc
    along r q (Some (Own (plain.Box o))) is b h =
        let same : in_cell o ≡ q.spot = spot_is (in_cell o) q _ h in
        subst (λ p. BelongsTo s st.thread (location_of st.thread p)) same (along_box s st.thread (location_of st.thread r.spot) o b (there r.spot (Own (plain.Box o)) is))
    along r q (Some (ToSlot i)) is b h =
        let same : in_slot i ≡ q.spot = spot_is (in_slot i) q _ h in
        subst (λ p. BelongsTo s st.thread (location_of st.thread p)) same (along_ref st.thread (location_of st.thread r.spot) (at_key (slot_k st.thread i)) b (there r.spot (ToSlot i) is))
    along r q (Some (ToObject o)) is b h =
        let same : in_cell o ≡ q.spot = spot_is (in_cell o) q _ h in
        subst (λ p. BelongsTo s st.thread (location_of st.thread p)) same (along_ref st.thread (location_of st.thread r.spot) (at_object o) b (there r.spot (ToObject o) is))
    along r q (Some (Held m)) is b h = absurd cc
    along r q (Some (Own plain.Nothing)) is b h = absurd cc
    along r q (Some (Own plain.Unit)) is b h = absurd cc
    along r q (Some (Own (plain.Int n))) is b h = absurd cc
    along r q (Some (Own (plain.Mutex m))) is b h = absurd cc
    along r q (Some (Own (plain.Task t))) is b h = absurd cc

    reached_next : (o : Option Reached) (q : Reached) → ((r : Reached) → o ≡ Some r → BelongsTo s st.thread (location_of st.thread r.spot)) → then_reached o (λ r. led r (plain_state.value_at st r.spot)) ≡ Some q → BelongsTo s st.thread (location_of st.thread q.spot)
    reached_next None q go h = absurd cc
    reached_next (Some r) q go h = along r q (plain_state.value_at st r.spot) refl (go r refl) h

    -- a place of a thread leads to what belongs to it
    leads_to_own : (slot n : ℕ) (q : Reached) → stars st slot n ≡ Some q → BelongsTo s st.thread (location_of st.thread q.spot)
    leads_to_own slot zero q h =
        subst (λ p. BelongsTo s st.thread (location_of st.thread p)) (spot_is (in_slot slot) q _ h) (record { key = slot_k st.thread slot; boxes = zero; of = refl; leads = refl })
    leads_to_own slot (suc n) q h = reached_next (stars st slot n) q (λ r e. leads_to_own slot n r e) h

-- in a typed state
belongs : (s : Whole) (a : AreTyped s) (x : Thread) → thread_at s.threads x.number ≡ Some x → (w : Lval) (p : Reached) (o : ObjNo) → locate (state_of s x) w ≡ Some p → p.spot ≡ in_cell o → BelongsTo (seen_all a.gives s) x.number (at_object o)
belongs s a x found w p o h at =
    let seen_there = λ (q : Spot) (v : Value) (e : plain_state.value_at (state_of s x) q ≡ Some v).
    sym (focus_alike a.gives a.types s x found (location_of x.number q)) ∙ value_there (beside_of a.gives a.types s.threads) (state_of s x) (held_life x.life) q v e in
    subst (λ q. BelongsTo (seen_all a.gives s) x.number (location_of x.number q)) at
    (leads_to_own (rank_of a.high) a.types (seen_all a.gives s) a.typed a.local a.gives (state_of s x) seen_there w.slot w.depth p h)

pub apart : ThreadsApart
apart s a x y found other differ w v p q o h at g there =
    let b = belongs s a x found w p o h at in
    let c = belongs s a y other v q o g there in
    let same = unique (seen_all a.gives s) a.typed.owner b.key c.key b.boxes c.boxes (at_object o) b.leads c.leads in
    let threads : Some x.number ≡ Some y.number = sym b.of ∙ ap thread_of same.0 ∙ c.of in
    differ cc
