-- A spot of a thread's slots and heap has another value: what stands where.
use Rattle.std.proofs.Common.{◌≡◌, ◌≢◌, ⊎_elim, ◌∙◌, ℕ, true, false, List, [], ◌∷◌, length, Option, Some, None, refl, sym, ap}
use Rattle.std.specs.Prelude.{◌==◌, if◌then◌else◌}
use Rattle.fr_base.specs.declared.label.Plain.{Plain}
use Rattle.fr_base.specs.declared.name.ObjNo.{ObjNo}
use Rattle.fr_base.specs.declared.name.MutexNo.{MutexNo}
use Rattle.fr_typing.proofs.PlaceLemmas.{eq_cases}
use Rattle.fr_store.specs.Keys.{slot_k}
use Rattle.fr_store.specs.Store.{at_key, at_object}
use Rattle.fr_store.proofs.Keys.{decide_number, decide_object}
use Rattle.fr_plain.specs.declared.value.Value.{Value}
use Rattle.fr_plain.specs.declared.value.Value.TheVariants.{Own, Held}
use Rattle.fr_plain.specs.Heap.{Heap, made_by, cell_at}
use Rattle.fr_plain.specs.State.{State, Spot, in_slot, in_cell, owned, slot_at, with_slot, cell_of, with_value}
use Rattle.fr_plain.specs.State as machine
use Rattle.fr_plain.proofs.HeapLemmas.{live_made, made_kept, cell_same, cell_other}
use Rattle.fr_sound.specs.Seen.{location_of}
use Rattle.fr_sound.specs.States.{is_held}
use Rattle.fr_sound.proofs.SeenLemmas.{length_with_slot}

-- SLOTS

pub slot_written : (vs : List Value) (i : ℕ) (u v : Value) → slot_at vs i ≡ Some v → slot_at (with_slot vs i u) i ≡ Some u
slot_written [] i u v h = cc
slot_written (w ∷ vs) i u v h =
    eq_cases (λ b. (if b then Some w else slot_at vs i) ≡ Some v → slot_at (if b then u ∷ vs else w ∷ with_slot vs i u) i ≡ Some u) i (length vs)
    (λ q f. eq_cases (λ b. (if b then Some u else slot_at vs i) ≡ Some u) i (length vs) (λ k. refl) (λ ne. absurd (ne q)))
    (λ ne f. ap (λ n. if i == n then Some w else slot_at (with_slot vs i u) i) (length_with_slot vs i u) ∙ eq_cases (λ b. (if b then Some w else slot_at (with_slot vs i u) i) ≡ Some u) i (length vs) (λ q. absurd (ne q)) (λ k. slot_written vs i u v f))
    h

pub slot_unwritten : (vs : List Value) (i j : ℕ) (u : Value) → j ≢ i → slot_at (with_slot vs i u) j ≡ slot_at vs j
slot_unwritten [] i j u ne = refl
slot_unwritten (w ∷ vs) i j u ne =
    eq_cases (λ b. slot_at (if b then u ∷ vs else w ∷ with_slot vs i u) j ≡ slot_at (w ∷ vs) j) i (length vs)
    (λ q. eq_cases (λ b. (if b then Some u else slot_at vs j) ≡ (if b then Some w else slot_at vs j)) j (length vs) (λ k. absurd (ne (k ∙ sym q))) (λ k. refl))
    (λ off. ap (λ n. if j == n then Some w else slot_at (with_slot vs i u) j) (length_with_slot vs i u) ∙ eq_cases (λ b. (if b then Some w else slot_at (with_slot vs i u) j) ≡ (if b then Some w else slot_at vs j)) j (length vs) (λ k. refl) (λ k. slot_unwritten vs i j u ne))

-- SPOTS

-- the spot has this value, and gets another one: neither is a mark, and a cell gets what it can hold
pub record Writes (st : State) (p : Spot) (u v : Value) : Type 0 where
  pub is : machine.value_at st p ≡ Some v
  pub clear : is_held (Some v) ≡ false
  pub new_clear : is_held (Some u) ≡ false
  pub cell : (o : ObjNo) → p ≡ in_cell o → (x : Plain) × (u ≡ Own x)

-- a cell that is there
cell_is : (h : Heap) (o : ObjNo) (v : Value) → owned (cell_at h o) ≡ Some v → (x : Plain) × (cell_at h o ≡ Some x)
cell_is h o v e = by (cell_at h o) refl e
  where
    by : (c : Option Plain) → cell_at h o ≡ c → owned c ≡ Some v → (x : Plain) × (cell_at h o ≡ Some x)
    by None g k = cc
    by (Some x) g k = (x, g)

module _ (st : State) (u v : Value) where
  -- other slots have what they had
  pub slots_same : (p : Spot) (i : ℕ) → at_key (slot_k st.thread i) ≢ location_of st.thread p → slot_at (with_value st p u).slots i ≡ slot_at st.slots i
  slots_same (in_slot j) i ne = slot_unwritten st.slots j i u (λ q. ne (ap (λ k. at_key (slot_k st.thread k)) q))
  slots_same (in_cell o) i ne = refl

  -- and other objects
  pub objects_same : (p : Spot) (o : ObjNo) → at_object o ≢ location_of st.thread p → cell_at (with_value st p u).heap o ≡ cell_at st.heap o
  objects_same (in_slot j) o ne = refl
  objects_same (in_cell q) o ne = cell_other st.heap q o (cell_of u) (λ k. ne (ap at_object k))

  -- the spot has the new value
  pub spot_same : (p : Spot) → Writes st p u v → machine.value_at (with_value st p u) p ≡ Some u
  spot_same (in_slot j) w = slot_written st.slots j u v w.is
  spot_same (in_cell o) w =
      let x = w.cell o refl in
      let c = cell_is st.heap o v w.is in
      ap owned (cell_same st.heap o (cell_of u) (live_made st.heap o c.0 c.1) ∙ ap cell_of x.1) ∙ ap Some (sym x.1)

  -- objects that were there are there, and no others
  pub still_there : (p : Spot) → Writes st p u v → (o : ObjNo) (x : Plain) → cell_at st.heap o ≡ Some x → (y : Plain) × (cell_at (with_value st p u).heap o ≡ Some y)
  still_there (in_slot j) w o x e = (x, e)
  still_there (in_cell q) w o x e =
      ⊎_elim
      (λ (k : o ≡ q). let z = w.cell q refl in (z.0, ap (cell_at (with_value st (in_cell q) u).heap) k ∙ cell_same st.heap q (cell_of u) (let c = cell_is st.heap q v w.is in live_made st.heap q c.0 c.1) ∙ ap cell_of z.1))
      (λ (ne : o ≢ q). (x, cell_other st.heap q o (cell_of u) ne ∙ e))
      (decide_object o q)

  pub was_there : (p : Spot) → Writes st p u v → (o : ObjNo) (x : Plain) → cell_at (with_value st p u).heap o ≡ Some x → (y : Plain) × (cell_at st.heap o ≡ Some y)
  was_there (in_slot j) w o x e = (x, e)
  was_there (in_cell q) w o x e =
      ⊎_elim
      (λ (k : o ≡ q). let c = cell_is st.heap q v w.is in (c.0, ap (cell_at st.heap) k ∙ c.1))
      (λ (ne : o ≢ q). (x, sym (cell_other st.heap q o (cell_of u) ne) ∙ e))
      (decide_object o q)

  -- as many slots, and as many objects made
  pub slots_many : (p : Spot) → length (with_value st p u).slots ≡ length st.slots
  slots_many (in_slot j) = length_with_slot st.slots j u
  slots_many (in_cell o) = refl

  pub made_many : (p : Spot) (t : ℕ) → length (made_by (with_value st p u).heap t) ≡ length (made_by st.heap t)
  made_many (in_slot j) t = refl
  made_many (in_cell o) t = made_kept st.heap o (cell_of u) t

  -- the same slots are marks
  pub held_same : (p : Spot) → Writes st p u v → (i : ℕ) → is_held (slot_at (with_value st p u).slots i) ≡ is_held (slot_at st.slots i)
  held_same (in_slot j) w i =
      ⊎_elim
      (λ (k : i ≡ j). ap (λ n. is_held (slot_at (with_slot st.slots j u) n)) k ∙ ap is_held (slot_written st.slots j u v w.is) ∙ w.new_clear ∙ sym w.clear ∙ sym (ap is_held w.is) ∙ ap (λ n. is_held (slot_at st.slots n)) (sym k))
      (λ (ne : i ≢ j). ap is_held (slot_unwritten st.slots j i u ne))
      (decide_number i j)
  held_same (in_cell o) w i = refl

  -- and a mark is the mark that it was
  pub mark_same : (p : Spot) → Writes st p u v → (i : ℕ) (m : MutexNo) → slot_at st.slots i ≡ Some (Held m) → slot_at (with_value st p u).slots i ≡ Some (Held m)
  mark_same (in_slot j) w i m h =
      ⊎_elim
      (λ (k : i ≡ j). let f : Some (Held m) ≡ Some v = sym h ∙ ap (slot_at st.slots) k ∙ w.is in let g : true ≡ false = ap is_held f ∙ w.clear in cc)
      (λ (ne : i ≢ j). slot_unwritten st.slots j i u ne ∙ h)
      (decide_number i j)
  mark_same (in_cell o) w i m h = h

  pub mark_was : (p : Spot) → Writes st p u v → (i : ℕ) (m : MutexNo) → slot_at (with_value st p u).slots i ≡ Some (Held m) → slot_at st.slots i ≡ Some (Held m)
  mark_was (in_slot j) w i m h =
      ⊎_elim
      (λ (k : i ≡ j). let f : Some u ≡ Some (Held m) = sym (slot_written st.slots j u v w.is) ∙ ap (slot_at (with_slot st.slots j u)) (sym k) ∙ h in let g : false ≡ true = sym w.new_clear ∙ ap is_held f in cc)
      (λ (ne : i ≢ j). sym (slot_unwritten st.slots j i u ne) ∙ h)
      (decide_number i j)
  mark_was (in_cell o) w i m h = h
