-- Where a place of a thread leads in the machine, and what stands there: as the store shows it.
use Rattle.std.proofs.Common.{◌≡◌, ◌∙◌, ℕ, zero, suc, ◌<◌, Bool, true, false, not, [], ◌∷◌, length, Option, Some, None, refl, sym, ap, subst, arith}
use Rattle.std.specs.Prelude.{◌==◌, is_some, if◌then◌else◌}
use Rattle.fr_base.specs.declared.label.Plain.{Plain}
use Rattle.fr_base.specs.declared.label.Plain.TheVariants as plain
use Rattle.fr_base.specs.declared.name.ObjNo.{ObjNo}
use Rattle.fr_base.specs.declared.name.MutexNo.{MutexNo}
use Rattle.fr_typing.specs.Places.{Env}
use Rattle.fr_store.specs.Keys.{slot_k}
use Rattle.fr_store.specs.Store.{Location, at_key, Val, ref_v, value_at, star_target, star_hop, walk}
use Rattle.fr_store.specs.Typed.{Typed, Unnamed}
use Rattle.fr_store.proofs.Sound.{ref_at}
use Rattle.fr_store.proofs.Rows.{not_to}
use Rattle.fr_plain.specs.declared.value.Value.{Value}
use Rattle.fr_plain.specs.declared.value.Value.TheVariants.{Own, ToSlot, ToObject, Held}
use Rattle.fr_plain.specs.Heap.{Heap, cell_at}
use Rattle.fr_plain.specs.State.{State, slot_at, Spot, in_slot, in_cell, owned, Reached, then_reached, led, stars}
use Rattle.fr_plain.specs.State as machine
use Rattle.fr_plain.specs.PlainState.{Running, PlainState, place_in}
use Rattle.fr_sound.specs.Seen.{Gives, val_of, seen_cell, location_of}
use Rattle.fr_sound.specs.States.{Typing, slot_val, env_at, is_hidden, is_held}
use Rattle.fr_sound.proofs.FoundPlaces.{maybe_val, led_to, walk_before}
use Rattle.fr_code.specs.CodeTypes.{is_variable}
use Rattle.law_plain_values.specs.acts.Positions.{Position, temps_of}
use Rattle.law_plain_values.proofs.acts.Lower.{seen_as, seen_is, below_object}
use Rattle.law_plain_values.proofs.acts.OneThread.{store, same_by}
use Rattle.law_plain_values.proofs.acts.AtHand.{ref_type}

-- VARIABLES

-- a variable is there
pub variable_below : (e : Env) (n : ℕ) → is_variable e n ≡ true → n < length e
variable_below [] n h = cc
variable_below (s ∷ e) n h = by (variable_below e n) (n == length e) refl
  where
    by : (is_variable e n ≡ true → n < length e) → (b : Bool) → (n == length e) ≡ b → n < suc (length e)
    by go true q = let f = same_by n (length e) q in omega (arith, f)
    by go false q = let l = go (sym (ap (λ (b : Bool). if b then is_some s.name else is_variable e n) q) ∙ h) in omega (arith, l)

-- and has a name
pub variable_seen : (e : Env) (n : ℕ) → is_variable e n ≡ true → is_hidden (env_at e n) ≡ false
variable_seen [] n h = refl
variable_seen (s ∷ e) n h = by (variable_seen e n) (n == length e) refl
  where
    by : (is_variable e n ≡ true → is_hidden (env_at e n) ≡ false) → (b : Bool) → (n == length e) ≡ b → is_hidden (env_at (s ∷ e) n) ≡ false
    by go true q = ap (λ (b : Bool). is_hidden (if b then Some s else env_at e n)) q ∙ ap not (sym (ap (λ (b : Bool). if b then is_some s.name else is_variable e n) q) ∙ h)
    by go false q = ap (λ (b : Bool). is_hidden (if b then Some s else env_at e n)) q ∙ go (sym (ap (λ (b : Bool). if b then is_some s.name else is_variable e n) q) ∙ h)

-- VALUES

-- a value that is no mark
pub seen_val_of : (g : Gives) (t : ℕ) (mark : Val) (v : Value) → is_held (Some v) ≡ false → seen_as g t mark (Some v) ≡ val_of g t v
seen_val_of g t mark (Own v) h = refl
seen_val_of g t mark (ToSlot i) h = refl
seen_val_of g t mark (ToObject o) h = refl
seen_val_of g t mark (Held m) h = cc

module _ (y : Typing) (a : PlainState Position) (t : ℕ) (x : Running Position) (heap : Heap) (runs : place_in (a.thread t) ≡ Some x) (objects : (o : ObjNo) → a.object o ≡ cell_at heap o) (typed : Typed y.rank y.exact (store y a))
    (unnamed : (i : ℕ) (m : MutexNo) → slot_at x.slots i ≡ Some (Held m) → Unnamed y.exact (slot_k t i)) where
  abbrev st : State
  st = record { thread = t; slots = x.slots; heap = heap }

  -- no mark stands there
  abbrev Clear : Spot → Type 0
  Clear p = is_held (machine.value_at (record { thread = t; slots = x.slots; heap = heap }) p) ≡ false

  pub slot_here : (i : ℕ) → (store y a).at (slot_k t i) ≡ seen_as y.gives t (ref_v (y.marks t i)) (slot_at x.slots i)
  slot_here i = ap (slot_val temps_of y t i) runs ∙ seen_is temps_of y t i x

  pub cell_here : (o : ObjNo) → (store y a).heap o ≡ seen_cell y.gives (cell_at heap o)
  cell_here o = ap (seen_cell y.gives) (objects o)

  -- what stands at a spot of the machine stands at its location
  pub value_there : (p : Spot) (v : Value) → machine.value_at (record { thread = t; slots = x.slots; heap = heap }) p ≡ Some v → Clear p → value_at (store y a) (location_of t p) ≡ Some (val_of y.gives t v)
  value_there (in_slot i) v e c = ap Some (slot_here i ∙ ap (seen_as y.gives t (ref_v (y.marks t i))) e ∙ seen_val_of y.gives t (ref_v (y.marks t i)) v (sym (ap is_held e) ∙ c))
  value_there (in_cell o) v e c = cell_here o ∙ by (cell_at heap o) e
    where
      by : (z : Option Plain) → owned z ≡ Some v → seen_cell y.gives z ≡ Some (val_of y.gives t v)
      by None f = cc
      by (Some w) f = let same : Own w ≡ v = cc in ap (λ q. Some (val_of y.gives t q)) same

  -- a star leads on from a spot as it does from its location
  star_there : (p : Spot) (o : Option Value) → machine.value_at (record { thread = t; slots = x.slots; heap = heap }) p ≡ o → Clear p → star_target (value_at (store y a) (location_of t p)) ≡ star_target (maybe_val y.gives t o)
  star_there p (Some v) e c = ap star_target (value_there p v e c)
  star_there (in_slot i) None e c = ap (λ v. star_target (Some v)) (slot_here i ∙ ap (seen_as y.gives t (ref_v (y.marks t i))) e)
  star_there (in_cell o) None e c = ap star_target (cell_here o) ∙ by (cell_at heap o) e
    where
      by : (z : Option Plain) → owned z ≡ None → star_target (seen_cell y.gives z) ≡ None
      by None f = refl
      by (Some w) f = cc

  -- the slot to which a reference leads is no mark
  target_clear : (j i : ℕ) → slot_at x.slots j ≡ Some (ToSlot i) → is_held (slot_at x.slots i) ≡ false
  target_clear j i e = by (slot_at x.slots i) refl
    where
      is : (store y a).at (slot_k t j) ≡ ref_v (at_key (slot_k t i))
      is = slot_here j ∙ ap (seen_as y.gives t (ref_v (y.marks t j))) e

      never : Unnamed y.exact (slot_k t i) → ⊥
      never free =
          let r = ref_type y.rank y.exact (store y a) (slot_k t j) (at_key (slot_k t i)) typed is in
          let f = ref_at y.rank y.exact (store y a) typed (slot_k t j) r.0 r.1 r.2 in
          let target : f.target ≡ at_key (slot_k t i) = let g : ref_v f.target ≡ ref_v (at_key (slot_k t i)) = sym f.is ∙ is in cc in
          let base = below_object (store y a) f.base (slot_k t i) f.boxes (f.leads ∙ ap Some target) in
          not_to y.exact (slot_k t i) free r.0 r.1.key r.1.depth f.base f.boxes f.type f.res (free (slot_k t j) r.0 r.1 r.2) base

      by : (o : Option Value) → slot_at x.slots i ≡ o → is_held (slot_at x.slots i) ≡ false
      by None q = ap is_held q
      by (Some (Own v)) q = ap is_held q
      by (Some (ToSlot n)) q = ap is_held q
      by (Some (ToObject o)) q = ap is_held q
      by (Some (Held m)) q = absurd (never (unnamed i m q))

  -- where stars lead
  pub record Leads (slot n : ℕ) (l : Location) : Type 0 where
    pub reached : Reached
    pub is : stars (record { thread = t; slots = x.slots; heap = heap }) slot n ≡ Some reached
    pub spot : location_of t reached.spot ≡ l
    pub clear : is_held (machine.value_at (record { thread = t; slots = x.slots; heap = heap }) reached.spot) ≡ false

  cell_clear : (o : ObjNo) → Clear (in_cell o)
  cell_clear o = by (cell_at heap o)
    where
      by : (z : Option Plain) → is_held (owned z) ≡ false
      by None = refl
      by (Some v) = refl

  -- a star of the machine from a spot that is no mark comes to one that is none
  led_clear : (r to : Reached) (o : Option Value) → machine.value_at (record { thread = t; slots = x.slots; heap = heap }) r.spot ≡ o → led r o ≡ Some to → Clear to.spot
  led_clear r to None e f = cc
  led_clear r to (Some (Own plain.Nothing)) e f = cc
  led_clear r to (Some (Own plain.Unit)) e f = cc
  led_clear r to (Some (Own (plain.Int n))) e f = cc
  led_clear r to (Some (Own (plain.Mutex n))) e f = cc
  led_clear r to (Some (Own (plain.Task n))) e f = cc
  led_clear r to (Some (Held m)) e f = cc
  led_clear r to (Some (Own (plain.Box o))) e f = subst Clear (some_spot f) (cell_clear o)
    where
      some_spot : {q : Reached} → Some q ≡ Some to → q.spot ≡ to.spot
      some_spot {q = q} g = let same : q ≡ to = cc in ap (λ (z : Reached). z.spot) same
  led_clear r to (Some (ToObject o)) e f = subst Clear (some_spot f) (cell_clear o)
    where
      some_spot : {q : Reached} → Some q ≡ Some to → q.spot ≡ to.spot
      some_spot {q = q} g = let same : q ≡ to = cc in ap (λ (z : Reached). z.spot) same
  led_clear r to (Some (ToSlot i)) e f = subst Clear (some_spot f) (from r.spot e)
    where
      some_spot : {q : Reached} → Some q ≡ Some to → q.spot ≡ to.spot
      some_spot {q = q} g = let same : q ≡ to = cc in ap (λ (z : Reached). z.spot) same

      from : (p : Spot) → machine.value_at (record { thread = t; slots = x.slots; heap = heap }) p ≡ Some (ToSlot i) → is_held (slot_at x.slots i) ≡ false
      from (in_slot j) e = target_clear j i e
      from (in_cell o) e = none (cell_at heap o) e
        where
          none : (z : Option Plain) → owned z ≡ Some (ToSlot i) → is_held (slot_at x.slots i) ≡ false
          none None f = cc
          none (Some v) f = cc

  -- STARS LEAD THE MACHINE WHERE THEY LEAD THE STORE
  pub leads : (slot n : ℕ) (l : Location) → is_held (slot_at x.slots slot) ≡ false → walk (store y a) n (at_key (slot_k t slot)) ≡ Some l → Leads slot n l
  leads slot zero l c e = record { reached = record { spot = in_slot slot; passed = [] }; is = refl; spot = some_location e; clear = c }
    where
      some_location : {m : Location} → Some m ≡ Some l → m ≡ l
      some_location f = cc
  leads slot (suc n) l c e =
      let w = walk_before (store y a) n (at_key (slot_k t slot)) l e in
      let r = leads slot n w.0 c w.1 in
      let o = machine.value_at (record { thread = t; slots = x.slots; heap = heap }) r.reached.spot in
      let target : star_target (maybe_val y.gives t o) ≡ Some l = sym (star_there r.reached.spot o refl r.clear) ∙ ap (star_hop (store y a)) r.spot ∙ w.2 in
      let z = led_to y.gives t r.reached o l target in
      record {
        reached = z.to;
        is = ap (λ k. then_reached k (λ q. led q (machine.value_at (record { thread = t; slots = x.slots; heap = heap }) q.spot))) r.is ∙ z.is;
        spot = z.spot;
        clear = led_clear r.reached z.to o refl z.is;
      }
