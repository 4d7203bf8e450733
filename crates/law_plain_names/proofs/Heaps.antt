-- The one heap and a thread's slots under other names.
use Rattle.std.proofs.Common.{◌≡◌, ℕ, zero, suc, ◌+◌, ◌==◌, Bool, true, false, List, [], ◌∷◌, ◌++◌, length, Option, Some, None, refl, sym, ap, ◌∙◌}
use Rattle.std.specs.Prelude.{slice_get, slice_set, if◌then◌else◌}
use Rattle.std.specs.Option.{option_map}
use Rattle.std.proofs.lemmas.Option.{slice_get-map}
use Rattle.std.proofs.lemmas.List.{map-append, map-set, length-map}
use Rattle.fr_base.specs.declared.label.Plain.{Plain}
use Rattle.fr_base.specs.declared.label.Plain.TheVariants as plain
use Rattle.fr_base.specs.declared.label.Label.{Label}
use Rattle.fr_base.specs.declared.name.ObjNo.{ObjNo}
use Rattle.fr_base.specs.declared.place.Lval.{Lval}
use Rattle.fr_plain.specs.declared.value.Value.{Value}
use Rattle.fr_plain.specs.declared.value.Value.TheVariants.{Own, ToSlot, ToObject, Held}
use Rattle.fr_plain.specs.Heap.{Heap, made_by, flat, cell_at, with_cells, with_cell, next_object, with_object, count_cells, live, then_drop, drop_links, dropped, then_link, last_link}
use Rattle.fr_plain.specs.State.{State, slot_at, with_slot, Spot, in_slot, in_cell, owned as owned_of, value_at, cell_of, with_value, loads, stores, drops, Reached, then_reached, led, stars, locate, without, drop_value}
use Rattle.law_plain_names.specs.Renamed.{Renaming, IsOneToOne, object, owned, kept, all_kept, cells, made, heap, labels}

-- a choice between two that are renamed
pub carried : {A B : Type 0} (h : A → B) (b c : Bool) (x y : A) (p q : B) → b ≡ c → p ≡ h x → q ≡ h y → (if b then p else q) ≡ h (if c then x else y)
carried h true true x y p q e f g = f
carried h false false x y p q e f g = g
carried h true false x y p q e f g = absurd cc
carried h false true x y p q e f g = absurd cc

module _ (n : Renaming) (once : IsOneToOne n) where
  -- THE HEAP

  made_renamed : (h : Heap) (t : ℕ) → made_by (heap n h) (n.thread t) ≡ cells n (made_by h t)
  made_renamed [] t = refl
  made_renamed (m ∷ ms) t = carried (cells n) _ _ m.cells (made_by ms t) _ _ (once.threads m.thread t) refl (made_renamed ms t)

  flat_renamed : (c : Option (Option Plain)) → flat (option_map (option_map (owned n)) c) ≡ option_map (owned n) (flat c)
  flat_renamed None = refl
  flat_renamed (Some c) = refl

  pub cell_renamed : (h : Heap) (o : ObjNo) → cell_at (heap n h) (object n o) ≡ option_map (owned n) (cell_at h o)
  cell_renamed h o =
      ap (λ cs. flat (slice_get cs o.count)) (made_renamed h o.thread) ∙ ap flat (slice_get-map (option_map (owned n)) (made_by h o.thread) o.count)
      ∙ flat_renamed (slice_get (made_by h o.thread) o.count)

  with_cells_renamed : (h : Heap) (t : ℕ) (cs : List (Option Plain)) → with_cells (heap n h) (n.thread t) (cells n cs) ≡ heap n (with_cells h t cs)
  with_cells_renamed [] t cs = refl
  with_cells_renamed (m ∷ ms) t cs = carried (heap n) _ _ (record m { cells = cs } ∷ ms) (m ∷ with_cells ms t cs) _ _ (once.threads m.thread t) refl (ap (λ x. made n m ∷ x) (with_cells_renamed ms t cs))

  pub with_cell_renamed : (h : Heap) (o : ObjNo) (c : Option Plain) → with_cell (heap n h) (object n o) (option_map (owned n) c) ≡ heap n (with_cell h o c)
  with_cell_renamed h o c =
      ap (λ cs. with_cells (heap n h) (n.thread o.thread) (slice_set cs o.count (option_map (owned n) c))) (made_renamed h o.thread)
      ∙ ap (with_cells (heap n h) (n.thread o.thread)) (sym (map-set (option_map (owned n)) (made_by h o.thread) o.count c))
      ∙ with_cells_renamed h o.thread (slice_set (made_by h o.thread) o.count c)

  pub next_renamed : (h : Heap) (t : ℕ) → next_object (heap n h) (n.thread t) ≡ object n (next_object h t)
  next_renamed h t = ap (λ (k : ℕ). record { thread = n.thread t; count = k }) (ap length (made_renamed h t) ∙ length-map (made_by h t) (option_map (owned n)))

  pub with_object_renamed : (h : Heap) (t : ℕ) (v : Plain) → with_object (heap n h) (n.thread t) (owned n v) ≡ heap n (with_object h t v)
  with_object_renamed h t v =
      ap (λ cs. with_cells (heap n h) (n.thread t) (cs ++ Some (owned n v) ∷ [])) (made_renamed h t)
      ∙ ap (with_cells (heap n h) (n.thread t)) (sym (map-append (option_map (owned n)) (made_by h t) (Some v ∷ [])))
      ∙ with_cells_renamed h t (made_by h t ++ Some v ∷ [])

  count_renamed : (cs : List (Option Plain)) → count_cells (cells n cs) ≡ count_cells cs
  count_renamed [] = refl
  count_renamed (None ∷ cs) = count_renamed cs
  count_renamed (Some v ∷ cs) = ap suc (count_renamed cs)

  pub live_renamed : (h : Heap) → live (heap n h) ≡ live h
  live_renamed [] = refl
  live_renamed (m ∷ ms) = ap (λ k. k + live (heap n ms)) (count_renamed m.cells) ∙ ap (λ k. count_cells m.cells + k) (live_renamed ms)

  links_renamed : (k : ℕ) (h : Heap) (v : Plain) → drop_links k (heap n h) (owned n v) ≡ heap n (drop_links k h v)
  links_renamed zero h v = refl
  links_renamed (suc k) h (plain.Box o) =
      ap (λ c. then_drop c (heap n h) (drop_links k (with_cell (heap n h) (object n o) None))) (cell_renamed h o)
      ∙ ap (λ g. then_drop (option_map (owned n) (cell_at h o)) (heap n h) (drop_links k g)) (with_cell_renamed h o None)
      ∙ by (cell_at h o) (λ v. links_renamed k (with_cell h o None) v)
    where
      by : (c : Option Plain) → ((v : Plain) → drop_links k (heap n (with_cell h o None)) (owned n v) ≡ heap n (drop_links k (with_cell h o None) v)) → then_drop (option_map (owned n) c) (heap n h) (drop_links k (heap n (with_cell h o None))) ≡ heap n (then_drop c h (drop_links k (with_cell h o None)))
      by None go = refl
      by (Some v) go = go v
  links_renamed (suc k) h plain.Nothing = refl
  links_renamed (suc k) h plain.Unit = refl
  links_renamed (suc k) h (plain.Int i) = refl
  links_renamed (suc k) h (plain.Mutex m) = refl
  links_renamed (suc k) h (plain.Task t) = refl

  pub dropped_renamed : (h : Heap) (v : Plain) → dropped (heap n h) (owned n v) ≡ heap n (dropped h v)
  dropped_renamed h v = ap (λ k. drop_links k (heap n h) (owned n v)) (live_renamed h) ∙ links_renamed (live h) h v

  last_renamed : (k : ℕ) (h : Heap) (v : Plain) → last_link k (heap n h) (owned n v) ≡ owned n (last_link k h v)
  last_renamed zero h v = refl
  last_renamed (suc k) h (plain.Box o) =
      ap (λ c. then_link c (last_link k (with_cell (heap n h) (object n o) None))) (cell_renamed h o)
      ∙ ap (λ g. then_link (option_map (owned n) (cell_at h o)) (last_link k g)) (with_cell_renamed h o None)
      ∙ by (cell_at h o) (λ v. last_renamed k (with_cell h o None) v)
    where
      by : (c : Option Plain) → ((v : Plain) → last_link k (heap n (with_cell h o None)) (owned n v) ≡ owned n (last_link k (with_cell h o None) v)) → then_link (option_map (owned n) c) (last_link k (heap n (with_cell h o None))) ≡ owned n (then_link c (last_link k (with_cell h o None)))
      by None go = refl
      by (Some v) go = go v
  last_renamed (suc k) h plain.Nothing = refl
  last_renamed (suc k) h plain.Unit = refl
  last_renamed (suc k) h (plain.Int i) = refl
  last_renamed (suc k) h (plain.Mutex m) = refl
  last_renamed (suc k) h (plain.Task t) = refl

  pub end_link_renamed : (h : Heap) (v : Plain) → last_link (live (heap n h)) (heap n h) (owned n v) ≡ owned n (last_link (live h) h v)
  end_link_renamed h v = ap (λ k. last_link k (heap n h) (owned n v)) (live_renamed h) ∙ last_renamed (live h) h v

  pub without_renamed : (h : Heap) (v : Value) → without (heap n h) (kept n v) ≡ heap n (without h v)
  without_renamed h (Own v) = dropped_renamed h v
  without_renamed h (ToSlot i) = refl
  without_renamed h (ToObject o) = refl
  without_renamed h (Held m) = refl

  -- SLOTS

  pub slot_renamed : (vs : List Value) (i : ℕ) → slot_at (all_kept n vs) i ≡ option_map (kept n) (slot_at vs i)
  slot_renamed [] i = refl
  slot_renamed (v ∷ vs) i = carried (option_map (kept n)) _ _ (Some v) (slot_at vs i) _ _ (ap (λ k. i == k) (length-map vs (kept n))) refl (slot_renamed vs i)

  pub with_slot_renamed : (vs : List Value) (i : ℕ) (v : Value) → with_slot (all_kept n vs) i (kept n v) ≡ all_kept n (with_slot vs i v)
  with_slot_renamed [] i new = refl
  with_slot_renamed (v ∷ vs) i new = carried (all_kept n) _ _ (new ∷ vs) (v ∷ with_slot vs i new) _ _ (ap (λ k. i == k) (length-map vs (kept n))) refl (ap (λ x. kept n v ∷ x) (with_slot_renamed vs i new))

  -- ONE THREAD OVER THE HEAP

  abbrev pub local : State → State
  local s = record { thread = n.thread s.thread; slots = all_kept n s.slots; heap = heap n s.heap }

  abbrev pub spot : Spot → Spot
  spot (in_slot i) = in_slot i
  spot (in_cell o) = in_cell (object n o)

  abbrev pub reached : Reached → Reached
  reached r = record { spot = spot r.spot; passed = labels n r.passed }

  owned_renamed : (c : Option Plain) → owned_of (option_map (owned n) c) ≡ option_map (kept n) (owned_of c)
  owned_renamed None = refl
  owned_renamed (Some v) = refl

  pub value_renamed : (s : State) (p : Spot) → value_at (local s) (spot p) ≡ option_map (kept n) (value_at s p)
  value_renamed s (in_slot i) = slot_renamed s.slots i
  value_renamed s (in_cell o) = ap owned_of (cell_renamed s.heap o) ∙ owned_renamed (cell_at s.heap o)

  cell_of_renamed : (v : Value) → cell_of (kept n v) ≡ option_map (owned n) (cell_of v)
  cell_of_renamed (Own v) = refl
  cell_of_renamed (ToSlot i) = refl
  cell_of_renamed (ToObject o) = refl
  cell_of_renamed (Held m) = refl

  pub with_value_renamed : (s : State) (p : Spot) (v : Value) → with_value (local s) (spot p) (kept n v) ≡ local (with_value s p v)
  with_value_renamed s (in_slot i) v = ap (λ (vs : List Value). record { thread = n.thread s.thread; slots = vs; heap = heap n s.heap }) (with_slot_renamed s.slots i v)
  with_value_renamed s (in_cell o) v =
      ap (λ (h : Heap). record { thread = n.thread s.thread; slots = all_kept n s.slots; heap = h }) (ap (with_cell (heap n s.heap) (object n o)) (cell_of_renamed v) ∙ with_cell_renamed s.heap o (cell_of v))

  pub loads_renamed : (p : Spot) (v : Value) → loads (spot p) (kept n v) ≡ labels n (loads p v)
  loads_renamed (in_slot i) v = refl
  loads_renamed (in_cell o) (Own v) = refl
  loads_renamed (in_cell o) (ToSlot i) = refl
  loads_renamed (in_cell o) (ToObject p) = refl
  loads_renamed (in_cell o) (Held m) = refl

  pub stores_renamed : (p : Spot) (v : Value) → stores (spot p) (kept n v) ≡ labels n (stores p v)
  stores_renamed (in_slot i) v = refl
  stores_renamed (in_cell o) (Own v) = refl
  stores_renamed (in_cell o) (ToSlot i) = refl
  stores_renamed (in_cell o) (ToObject p) = refl
  stores_renamed (in_cell o) (Held m) = refl

  pub drops_renamed : (v : Value) → drops (kept n v) ≡ labels n (drops v)
  drops_renamed (Own plain.Nothing) = refl
  drops_renamed (Own plain.Unit) = refl
  drops_renamed (Own (plain.Int i)) = refl
  drops_renamed (Own (plain.Box o)) = refl
  drops_renamed (Own (plain.Mutex m)) = refl
  drops_renamed (Own (plain.Task t)) = refl
  drops_renamed (ToSlot i) = refl
  drops_renamed (ToObject o) = refl
  drops_renamed (Held m) = refl

  -- more labels behind those that are renamed
  pub both_renamed : (ls ms : List Label) (ks : List Label) → ks ≡ labels n ms → labels n ls ++ ks ≡ labels n (ls ++ ms)
  both_renamed ls ms ks e = ap (λ x. labels n ls ++ x) e ∙ sym (map-append _ ls ms)

  led_renamed : (r : Reached) (v : Option Value) → led (reached r) (option_map (kept n) v) ≡ option_map reached (led r v)
  led_renamed r None = refl
  led_renamed r (Some (Own (plain.Box o))) = ap (λ (ls : List Label). Some (record { spot = in_cell (object n o); passed = ls })) (both_renamed r.passed (loads r.spot (Own (plain.Box o))) _ (loads_renamed r.spot (Own (plain.Box o))))
  led_renamed r (Some (Own plain.Nothing)) = refl
  led_renamed r (Some (Own plain.Unit)) = refl
  led_renamed r (Some (Own (plain.Int i))) = refl
  led_renamed r (Some (Own (plain.Mutex m))) = refl
  led_renamed r (Some (Own (plain.Task t))) = refl
  led_renamed r (Some (ToSlot i)) = refl
  led_renamed r (Some (ToObject o)) = refl
  led_renamed r (Some (Held m)) = refl

  stars_renamed : (s : State) (slot k : ℕ) → stars (local s) slot k ≡ option_map reached (stars s slot k)
  stars_renamed s slot zero = refl
  stars_renamed s slot (suc k) = ap (λ x. then_reached x (λ r. led r (value_at (local s) r.spot))) (stars_renamed s slot k) ∙ by (stars s slot k)
    where
      by : (x : Option Reached) → then_reached (option_map reached x) (λ r. led r (value_at (local s) r.spot)) ≡ option_map reached (then_reached x (λ r. led r (value_at s r.spot)))
      by None = refl
      by (Some r) = ap (led (reached r)) (value_renamed s r.spot) ∙ led_renamed r (value_at s r.spot)

  pub locate_renamed : (s : State) (w : Lval) → locate (local s) w ≡ option_map reached (locate s w)
  locate_renamed s w = stars_renamed s w.slot w.depth

  pub drop_value_renamed : (s : State) (v : Value) → drop_value (local s) (kept n v) ≡ local (drop_value s v)
  drop_value_renamed s v = ap (λ (h : Heap). record { thread = n.thread s.thread; slots = all_kept n s.slots; heap = h }) (without_renamed s.heap v)
