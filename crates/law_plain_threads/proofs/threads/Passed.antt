-- A slot of one thread and a slot of another one change: what stands elsewhere.
use Rattle.std.proofs.Common.{◌≡◌, ◌≢◌, ⊎_elim, ◌∙◌, ℕ, ◌<◌, Some, refl, sym, ap}
use Rattle.fr_base.specs.declared.label.Plain.{Plain}
use Rattle.fr_base.specs.declared.name.ObjNo.{ObjNo}
use Rattle.fr_base.specs.declared.name.MutexNo.{MutexNo}
use Rattle.fr_store.specs.Keys.{Key, slot_k, temp_k, content_k, result_k, hand_k}
use Rattle.fr_store.specs.Store.{at_key, at_object, gone_v, ref_v, Store}
use Rattle.fr_store.specs.Changes.{SameButTwo}
use Rattle.fr_store.specs.Typed.{KeyTypes}
use Rattle.fr_store.proofs.Keys.{decide_number}
use Rattle.fr_plain.specs.State.{slot_at}
use Rattle.fr_plain.specs.PlainState.{Running, PlainState, place_in}
use Rattle.fr_sound.specs.Seen.{seen_cell}
use Rattle.fr_sound.specs.States.{Typing, slot_val, temp_val, result_val, content_val}
use Rattle.law_plain_values.specs.acts.Positions.{Position, temps_of}
use Rattle.law_plain_values.proofs.acts.Lower.{seen_as, seen_is}
use Rattle.law_plain_values.proofs.acts.OneThread.{store, typing_with, with_running, runs_still}
use Rattle.law_plain_values.proofs.acts.Focus.{temp_is}
use Rattle.law_plain_values.proofs.acts.AtHand.{result_same}

-- of two threads one slot each changes, and nothing else
pub record Passes (a a2 : PlainState Position) (t u : ℕ) (x x2 xu xu2 : Running Position) (i j : ℕ) : Type 0 where
  pub runs : place_in (a.thread t) ≡ Some x
  pub runs_new : place_in (a.thread u) ≡ Some xu
  pub now : a2.thread t ≡ with_running (a.thread t) x2
  pub now_new : a2.thread u ≡ with_running (a.thread u) xu2
  pub others : (w : ℕ) → w ≢ t → w ≢ u → a2.thread w ≡ a.thread w
  pub pairs : (w : ℕ) → a2.pair w ≡ a.pair w
  pub mutexes : (m : MutexNo) → a2.mutex m ≡ a.mutex m
  pub given : (m : MutexNo) → a2.is_given m ≡ a.is_given m
  pub objects : (o : ObjNo) → a2.object o ≡ a.object o
  pub made : (o : ObjNo) (v : Plain) (w : Running Position) → a2.object o ≡ Some v → place_in (a2.thread o.thread) ≡ Some w → o.count < a2.made o.thread
  pub temps : x2.place.temps ≡ x.place.temps
  pub temps_new : xu2.place.temps ≡ xu.place.temps
  pub slots : (b : ℕ) → b ≢ i → slot_at x2.slots b ≡ slot_at x.slots b
  pub slots_new : (b : ℕ) → b ≢ j → slot_at xu2.slots b ≡ slot_at xu.slots b

module _ {a a2 : PlainState Position} {t u : ℕ} {x x2 xu xu2 : Running Position} {i j : ℕ} (y : Typing) (E2 : KeyTypes) (c : Passes a a2 t u x x2 xu xu2 i j) where
  abbrev s2 : Store
  s2 = store (typing_with y E2 y.marks) a2

  pub still_runs : place_in (a2.thread t) ≡ Some x2
  still_runs = ap place_in c.now ∙ runs_still (a.thread t) x x2 c.runs

  pub new_runs : place_in (a2.thread u) ≡ Some xu2
  new_runs = ap place_in c.now_new ∙ runs_still (a.thread u) xu xu2 c.runs_new

  -- what their slots have
  pub has_slot : (b : ℕ) → s2.at (slot_k t b) ≡ seen_as y.gives t (ref_v (y.marks t b)) (slot_at x2.slots b)
  has_slot b = ap (slot_val temps_of (typing_with y E2 y.marks) t b) still_runs ∙ seen_is temps_of (typing_with y E2 y.marks) t b x2

  pub has_new : (b : ℕ) → s2.at (slot_k u b) ≡ seen_as y.gives u (ref_v (y.marks u b)) (slot_at xu2.slots b)
  has_new b = ap (slot_val temps_of (typing_with y E2 y.marks) u b) new_runs ∙ seen_is temps_of (typing_with y E2 y.marks) u b xu2

  pub had_slot : (b : ℕ) → (store y a).at (slot_k t b) ≡ seen_as y.gives t (ref_v (y.marks t b)) (slot_at x.slots b)
  had_slot b = ap (slot_val temps_of y t b) c.runs ∙ seen_is temps_of y t b x

  pub had_new : (b : ℕ) → (store y a).at (slot_k u b) ≡ seen_as y.gives u (ref_v (y.marks u b)) (slot_at xu.slots b)
  had_new b = ap (slot_val temps_of y u b) c.runs_new ∙ seen_is temps_of y u b xu

  -- all else stands as it did
  pub passed_same : SameButTwo (at_key (slot_k u j)) (at_key (slot_k t i)) (store y a) (store (typing_with y E2 y.marks) a2)
  passed_same (at_object q) nt nf = ap (seen_cell y.gives) (c.objects q)
  passed_same (at_key k) nt nf = ap Some (by k nt nf)
    where
      by : (k : Key) → at_key k ≢ at_key (slot_k u j) → at_key k ≢ at_key (slot_k t i) → s2.at k ≡ (store y a).at k
      by (slot_k z b) nt nf =
          ⊎_elim
          (λ (q : z ≡ t). ap (λ d. s2.at (slot_k d b)) q ∙ has_slot b ∙ ap (seen_as y.gives t (ref_v (y.marks t b))) (c.slots b (λ f. nf (ap (λ d. at_key (slot_k d b)) q ∙ ap (λ d. at_key (slot_k t d)) f)))
          ∙ sym (had_slot b) ∙ ap (λ d. (store y a).at (slot_k d b)) (sym q))
          (λ (ft : z ≢ t). ⊎_elim
          (λ (q : z ≡ u). ap (λ d. s2.at (slot_k d b)) q ∙ has_new b ∙ ap (seen_as y.gives u (ref_v (y.marks u b))) (c.slots_new b (λ f. nt (ap (λ d. at_key (slot_k d b)) q ∙ ap (λ d. at_key (slot_k u d)) f)))
          ∙ sym (had_new b) ∙ ap (λ d. (store y a).at (slot_k d b)) (sym q))
          (λ (fu : z ≢ u). ap (λ d. slot_val temps_of y z b (place_in d)) (c.others z ft fu)) (decide_number z u)) (decide_number z t)
      by (temp_k z b) nt nf =
          ⊎_elim
          (λ (q : z ≡ t). ap (λ d. s2.at (temp_k d b)) q ∙ ap (temp_val temps_of (typing_with y E2 y.marks) t b) still_runs ∙ temp_is (typing_with y E2 y.marks) t b x2 ∙ ap (λ d. seen_as y.gives t gone_v (slot_at d b)) c.temps
          ∙ sym (temp_is y t b x) ∙ sym (ap (temp_val temps_of y t b) c.runs) ∙ ap (λ d. (store y a).at (temp_k d b)) (sym q))
          (λ (ft : z ≢ t). ⊎_elim
          (λ (q : z ≡ u). ap (λ d. s2.at (temp_k d b)) q ∙ ap (temp_val temps_of (typing_with y E2 y.marks) u b) new_runs ∙ temp_is (typing_with y E2 y.marks) u b xu2 ∙ ap (λ d. seen_as y.gives u gone_v (slot_at d b)) c.temps_new
          ∙ sym (temp_is y u b xu) ∙ sym (ap (temp_val temps_of y u b) c.runs_new) ∙ ap (λ d. (store y a).at (temp_k d b)) (sym q))
          (λ (fu : z ≢ u). ap (λ d. temp_val temps_of y z b (place_in d)) (c.others z ft fu)) (decide_number z u)) (decide_number z t)
      by (content_k m b) nt nf = ap (content_val y.gives) (c.mutexes (record { home = m; count = b }))
      by (result_k z) nt nf =
          ⊎_elim (λ (q : z ≡ t). ap (λ d. s2.at (result_k d)) q ∙ ap (result_val temps_of y t) c.now ∙ result_same y t (a.thread t) x x2 c.runs ∙ ap (λ d. (store y a).at (result_k d)) (sym q))
          (λ (ft : z ≢ t). ⊎_elim (λ (q : z ≡ u). ap (λ d. s2.at (result_k d)) q ∙ ap (result_val temps_of y u) c.now_new ∙ result_same y u (a.thread u) xu xu2 c.runs_new ∙ ap (λ d. (store y a).at (result_k d)) (sym q))
          (λ (fu : z ≢ u). ap (result_val temps_of y z) (c.others z ft fu)) (decide_number z u)) (decide_number z t)
      by (hand_k z) nt nf = refl
