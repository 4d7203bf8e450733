-- Where a place leads in the plain machine is where it leads in the seen store.
use Rattle.std.proofs.Common.{◌≡◌, ℕ, zero, suc, ◌<◌, Bool, true, false, List, [], ◌∷◌, ◌++◌, length, Option, Some, None, refl, sym, ap, ◌∙◌, subst}
use Rattle.std.specs.Prelude.{◌==◌, if◌then◌else◌}
use Rattle.fr_plain.specs.Below.fr_base.declared.label.Plain.{Plain}
use Rattle.fr_plain.specs.Below.fr_base.declared.label.Plain.TheVariants as plain
use Rattle.fr_plain.specs.Below.fr_base.declared.place.Lval.{Lval}
use Rattle.fr_plain.specs.Below.fr_typing.Kinds.{Kind, Piece}
use Rattle.fr_plain.specs.Below.fr_typing.Places.{Env, found, type_at}
use Rattle.fr_store.specs.Keys.{slot_k}
use Rattle.fr_store.specs.Store.{Location, at_key, at_object, Val, gone_v, Store, value_at, then_location, star_target, star_hop, walk}
use Rattle.fr_store.specs.Store as store
use Rattle.fr_store.specs.ListState.{slot_value, IsIn}
use Rattle.fr_store.specs.Thread.{place_of}
use Rattle.fr_store.proofs.Chains.{then_some}
use Rattle.fr_store.proofs.Sound.{walk_last}
use Rattle.fr_store.proofs.Rows.{found_place}
use Rattle.fr_store.proofs.Below.{mut_place, resolved}
use Rattle.fr_store.proofs.ListState.{at_slot}
use Rattle.fr_store.proofs.ListPlaces.{place_in}
use Rattle.fr_plain.specs.declared.value.Value.{Value}
use Rattle.fr_plain.specs.declared.value.Value.TheVariants.{Own, ToSlot, ToObject, Held}
use Rattle.fr_plain.specs.Heap.{cell_at}
use Rattle.fr_plain.specs.State.{State, slot_at, Spot, in_slot, in_cell, owned, Reached, then_reached, led, stars, loads}
use Rattle.fr_plain.specs.State as plain_state
use Rattle.fr_sound.specs.Seen.{Gives, Beside, val_of, vals, hand_of, seen_cell, heap_of, seen, location_of, rank_of, Holds}
use Rattle.fr_sound.proofs.SeenLemmas.{length_vals, slot_seen, slot_there}

-- VALUES

-- what a value of the machine is, where it is there
abbrev pub maybe_val : Gives → ℕ → Option Value → Option Val
maybe_val g t None = None
maybe_val g t (Some v) = Some (val_of g t v)

-- where the test and the rest find none, gone is seen
if_none : (b : Bool) (v : Value) (x : Option Value) (rest : Val) → (x ≡ None → rest ≡ gone_v) → (if b then Some v else x) ≡ None → (w : Val) → (if b then w else rest) ≡ gone_v
if_none true v x rest go h w = cc
if_none false v x rest go h w = go h

-- a slot that isn't there is seen as gone
slot_missing : (g : Gives) (t : ℕ) (vs : List Value) (i : ℕ) → slot_at vs i ≡ None → slot_value (vals g t vs) i ≡ gone_v
slot_missing g t [] i h = refl
slot_missing g t (v ∷ vs) i h = ap (λ n. if i == n then val_of g t v else slot_value (vals g t vs) i) (length_vals g t vs) ∙ if_none (i == length vs) v (slot_at vs i) (slot_value (vals g t vs) i) (slot_missing g t vs i) h (val_of g t v)

-- what stands at a spot of the machine stands at its location
pub value_there : (beside : Beside) (st : State) (h : Option Value) (p : Spot) (v : Value) → plain_state.value_at st p ≡ Some v → value_at (seen beside st h) (location_of st.thread p) ≡ Some (val_of beside.gives st.thread v)
value_there beside st h (in_slot i) v e = ap Some (at_slot beside.at st.thread (vals beside.gives st.thread st.slots) (hand_of beside.gives st.thread h) (heap_of beside.gives st.heap) i ∙ slot_seen beside.gives st.thread st.slots i v e)
value_there beside st h (in_cell o) v e = by (cell_at st.heap o) e
  where
    by : (c : Option Plain) → owned c ≡ Some v → seen_cell beside.gives c ≡ Some (val_of beside.gives st.thread v)
    by None e = cc
    by (Some x) e = let same : Own x ≡ v = cc in ap (λ w. Some (val_of beside.gives st.thread w)) same

-- a star leads on from a spot as it does from its location
star_there : (beside : Beside) (st : State) (h : Option Value) (p : Spot) (x : Option Value) → plain_state.value_at st p ≡ x → star_target (value_at (seen beside st h) (location_of st.thread p)) ≡ star_target (maybe_val beside.gives st.thread x)
star_there beside st h p (Some v) e = ap star_target (value_there beside st h p v e)
star_there beside st h (in_slot i) None e = ap (λ w. star_target (Some w)) (at_slot beside.at st.thread (vals beside.gives st.thread st.slots) (hand_of beside.gives st.thread h) (heap_of beside.gives st.heap) i ∙ slot_missing beside.gives st.thread st.slots i e)
star_there beside st h (in_cell o) None e = by (cell_at st.heap o) e
  where
    by : (c : Option Plain) → owned c ≡ None → star_target (seen_cell beside.gives c) ≡ None
    by None e = refl
    by (Some x) e = cc

-- equal options have equal locations
some_is : (a b : Location) → Some a ≡ Some b → a ≡ b
some_is a b e = cc

-- one star of the machine
pub record LedTo (t : ℕ) (r : Reached) (x : Option Value) (l : Location) : Type 0 where
  pub to : Reached
  pub is : led r x ≡ Some to
  pub spot : location_of t to.spot ≡ l

-- a star leads the machine where it leads the store
pub led_to : (g : Gives) (t : ℕ) (r : Reached) (x : Option Value) (l : Location) → star_target (maybe_val g t x) ≡ Some l → LedTo t r x l
led_to g t r None l e = cc
led_to g t r (Some (Own plain.Nothing)) l e = cc
led_to g t r (Some (Own plain.Unit)) l e = cc
led_to g t r (Some (Own (plain.Int n))) l e = cc
led_to g t r (Some (Own (plain.Mutex n))) l e = cc
led_to g t r (Some (Own (plain.Task n))) l e = cc
led_to g t r (Some (Own (plain.Box o))) l e = record { to = record { spot = in_cell o; passed = r.passed ++ loads r.spot (Own (plain.Box o)) }; is = refl; spot = some_is (at_object o) l e }
led_to g t r (Some (ToSlot i)) l e = record { to = record { spot = in_slot i; passed = r.passed }; is = refl; spot = some_is (at_key (slot_k t i)) l e }
led_to g t r (Some (ToObject o)) l e = record { to = record { spot = in_cell o; passed = r.passed }; is = refl; spot = some_is (at_object o) l e }
led_to g t r (Some (Held m)) l e = cc

-- PLACES

-- a walk of one star more begins with the walk
pub walk_before : (s : Store) (d : ℕ) (l x : Location) → walk s (suc d) l ≡ Some x → (m : Location) × (walk s d l ≡ Some m) × (star_hop s m ≡ Some x)
walk_before s d l x h = by d l h
  where
    first : (d : ℕ) (l : Location) → walk s (suc d) l ≡ Some x → (m : Location) × (walk s d l ≡ Some m)
    first zero l h = (l, refl)
    first (suc d) l h =
        let y = then_some (star_hop s l) (walk s (suc d)) x h in
        let z = first d y.0 y.2 in
        (z.0, ap (λ k. then_location k (walk s d)) y.1 ∙ z.1)

    by : (d : ℕ) (l : Location) → walk s (suc d) l ≡ Some x → (m : Location) × (walk s d l ≡ Some m) × (star_hop s m ≡ Some x)
    by d l h = let y = first d l h in (y.0, y.1, sym (walk_last s d l y.0 y.1) ∙ h)

pub record Leads (st : State) (slot n : ℕ) (l : Location) : Type 0 where
  pub reached : Reached
  pub is : stars st slot n ≡ Some reached
  pub spot : location_of st.thread reached.spot ≡ l

-- stars lead the machine where they lead the store
pub leads : (beside : Beside) (st : State) (h : Option Value) (slot n : ℕ) (l : Location) → walk (seen beside st h) n (at_key (slot_k st.thread slot)) ≡ Some l → Leads st slot n l
leads beside st h slot zero l e = record { reached = record { spot = in_slot slot; passed = [] }; is = refl; spot = some_is (at_key (slot_k st.thread slot)) l e }
leads beside st h slot (suc n) l e =
    let w = walk_before (seen beside st h) n (at_key (slot_k st.thread slot)) l e in
    let r = leads beside st h slot n w.0 w.1 in
    let x = plain_state.value_at st r.reached.spot in
    let target : star_target (maybe_val beside.gives st.thread x) ≡ Some l = sym (star_there beside st h r.reached.spot x refl) ∙ ap (λ m. star_hop (seen beside st h) m) r.spot ∙ w.2 in
    let t = led_to beside.gives st.thread r.reached x l target in
    record { reached = t.to; is = ap (λ y. then_reached y (λ r. led r (plain_state.value_at st r.spot))) r.is ∙ t.is; spot = t.spot }

-- WHAT STANDS AT A PLACE

-- a place that has a type leads somewhere, in the machine and in the seen store, and the same value stands there
pub record There (beside : Beside) (st : State) (h : Option Value) (w : Lval) : Type 0 where
  pub reached : Reached
  pub is : plain_state.locate st w ≡ Some reached
  pub value : Value
  pub there : plain_state.value_at st reached.spot ≡ Some value
  pub at : store.locate (seen beside st h) (place_of (slot_k st.thread) w) ≡ Some (location_of st.thread reached.spot)
  pub stands : value_at (seen beside st h) (location_of st.thread reached.spot) ≡ Some (val_of beside.gives st.thread value)
  -- a slot is there
  pub slot : (i : ℕ) → reached.spot ≡ in_slot i → i < length st.slots

-- the value at a spot that is there
pub record ValueAt (st : State) (p : Spot) : Type 0 where
  pub value : Value
  pub is : plain_state.value_at st p ≡ Some value
  pub slot : (i : ℕ) → p ≡ in_slot i → i < length st.slots

-- a location of the thread is a spot with a value
spot_value : (beside : Beside) (st : State) (h : Option Value) (l : Location) (v : Val) (p : Spot) → IsIn st.thread (vals beside.gives st.thread st.slots) l → location_of st.thread p ≡ l → value_at (seen beside st h) l ≡ Some v → ValueAt st p
spot_value beside st h l v (in_slot i) inside e f =
    let here : IsIn st.thread (vals beside.gives st.thread st.slots) (at_key (slot_k st.thread i)) = subst (IsIn st.thread (vals beside.gives st.thread st.slots)) (sym e) inside in
    let lt : i < length st.slots = subst (λ n. i < n) (length_vals beside.gives st.thread st.slots) here.1 in
    let x = slot_there st.slots i lt in
    record { value = x.0; is = x.1; slot = λ j g. let same : i ≡ j = cc in subst (λ n. n < length st.slots) same lt }
spot_value beside st h l v (in_cell q) inside e f = by (cell_at st.heap q) refl (ap (value_at (seen beside st h)) e ∙ f)
  where
    by : (c : Option Plain) → cell_at st.heap q ≡ c → seen_cell beside.gives c ≡ Some v → ValueAt st (in_cell q)
    by None g k = cc
    by (Some y) g k = record { value = Own y; is = ap owned g; slot = λ j z. cc }

-- each place that has a type leads there
pub there : {beside : Beside} {e : Env} {o : Option Kind} {h : Option Value} {st : State} (w : Lval) (q : Piece) → Holds beside e o h st → w.slot < length e → type_at e w ≡ found q → There beside st h w
there {beside = beside} {e = e} {o = o} {h = h} {st = st} w q y lt is =
    let t = st.thread in
    let s = seen beside st h in
    let r = resolved (slot_k t) y.types (mut_place (rank_of y.high) y.types s y.thread.typed) e y.thread.nested y.thread.slots w q lt is in
    let f = found_place (rank_of y.high) y.types s false (place_of (slot_k t) w) r.base r.boxes r.type y.thread.typed r.res in
    let l = leads beside st h w.slot w.depth f.loc f.at in
    let x = place_in beside.at t (rank_of y.high) e y.types (vals beside.gives t st.slots) (hand_of beside.gives t h) (heap_of beside.gives st.heap) o y.beside.own y.thread w q f.loc (length_vals beside.gives t st.slots ∙ y.slots) lt is f.at in
    let v = spot_value beside st h f.loc f.value l.reached.spot x.0 l.spot f.there in
    record {
      reached = l.reached;
      is = l.is;
      value = v.value;
      there = v.is;
      slot = v.slot;
      at = f.at ∙ ap Some (sym l.spot);
      stands = value_there beside st h l.reached.spot v.value v.is;
    }
