-- Some threads go on and new ones come: who is kept, who has ended, and which slots are marks.
use Rattle.std.proofs.Common.{◌≡◌, ◌∙◌, ℕ, Bool, true, false, [], Some, None, sym, ap, subst}
use Rattle.fr_base.specs.declared.name.MutexNo.{MutexNo}
use Rattle.fr_plain.specs.declared.value.Value.{Value}
use Rattle.fr_plain.specs.declared.value.Value.TheVariants.{Held}
use Rattle.fr_plain.specs.State.{slot_at}
use Rattle.fr_plain.specs.MachineThreads.{owing, ended}
use Rattle.fr_plain.specs.PlainState.{Running, PlainState, place_in}
use Rattle.fr_sound.specs.States.{IsKept, IsMark}
use Rattle.law_plain_values.specs.acts.Positions.{Position}
use Rattle.law_plain_values.proofs.acts.OneThread.{with_running, runs_still, kept_still, none_ended, by_bool}

-- a thread goes on with the same marks
pub record GoesOn (a a2 : PlainState Position) (w : ℕ) : Type 0 where
  pub before : Running Position
  pub after : Running Position
  pub runs : place_in (a.thread w) ≡ Some before
  pub now : a2.thread w ≡ with_running (a.thread w) after
  pub marked : (i : ℕ) (m : MutexNo) → slot_at after.slots i ≡ Some (Held m) → slot_at before.slots i ≡ Some (Held m)
  pub still : (i : ℕ) (m : MutexNo) → slot_at before.slots i ≡ Some (Held m) → slot_at after.slots i ≡ Some (Held m)

-- or it comes, without slots
pub record Comes (a a2 : PlainState Position) (w : ℕ) : Type 0 where
  pub none : a.thread w ≡ None
  pub after : Running Position
  pub now : a2.thread w ≡ Some (owing after)
  pub empty : after.slots ≡ []

pub data Fate (a a2 : PlainState Position) (w : ℕ) : Type 0 where
  goes_on : GoesOn a a2 w → Fate a a2 w
  comes : Comes a a2 w → Fate a a2 w

pub goes_runs : {a a2 : PlainState Position} {w : ℕ} (z : GoesOn a a2 w) → place_in (a2.thread w) ≡ Some z.after
goes_runs {a = a} {w = w} z = ap place_in z.now ∙ runs_still (a.thread w) z.before z.after z.runs

module _ {a a2 : PlainState Position} {T : ℕ → Bool} (each : (w : ℕ) → T w ≡ true → Fate a a2 w) (others : (w : ℕ) → T w ≡ false → a2.thread w ≡ a.thread w) where
  pub kept_to : (w : ℕ) → IsKept (a.thread w) → IsKept (a2.thread w)
  kept_to w h = by_bool (T w) (λ q. by (each w q)) (λ q. subst IsKept (sym (others w q)) h)
    where
      by : Fate a a2 w → IsKept (a2.thread w)
      by (goes_on z) = subst IsKept (sym z.now) (kept_still (a.thread w) z.after h)
      by (comes z) = absurd (subst IsKept z.none h)

  -- who has ended had
  pub ended_back : (w : ℕ) (r : Value) → a2.thread w ≡ Some (ended r) → a.thread w ≡ Some (ended r)
  ended_back w r h = by_bool (T w) (λ q. by (each w q)) (λ q. sym (others w q) ∙ h)
    where
      by : Fate a a2 w → a.thread w ≡ Some (ended r)
      by (goes_on z) = absurd (none_ended (a.thread w) z.before z.after r z.runs (sym z.now ∙ h))
      by (comes z) = let f : Some (owing z.after) ≡ Some (ended r) = sym z.now ∙ h in cc

  -- who went on goes on
  pub runs_to : (w : ℕ) (x : Running Position) → place_in (a.thread w) ≡ Some x → (z : Running Position) × (place_in (a2.thread w) ≡ Some z)
  runs_to w x h = by_bool (T w) (λ q. by (each w q)) (λ q. (x, ap place_in (others w q) ∙ h))
    where
      by : Fate a a2 w → (z : Running Position) × (place_in (a2.thread w) ≡ Some z)
      by (goes_on z) = (z.after, goes_runs z)
      by (comes z) = let f : None ≡ Some x = sym (ap place_in z.none) ∙ h in cc

  pub mark_to : (m : MutexNo) (w i : ℕ) → IsMark a m w i → IsMark a2 m w i
  mark_to m w i h = by_bool (T w) (λ q. by (each w q)) (λ q. record { thread = h.thread; goes_on = ap place_in (others w q) ∙ h.goes_on; mark = h.mark })
    where
      by : Fate a a2 w → IsMark a2 m w i
      by (goes_on z) =
          let f : Some z.before ≡ Some h.thread = sym z.runs ∙ h.goes_on in
          let same : h.thread ≡ z.before = cc in
          record { thread = z.after; goes_on = goes_runs z; mark = z.still i m (ap (λ (r : Running Position). slot_at r.slots i) (sym same) ∙ h.mark) }
      by (comes z) = let f : None ≡ Some h.thread = sym (ap place_in z.none) ∙ h.goes_on in absurd cc

  pub mark_back : (m : MutexNo) (w i : ℕ) → IsMark a2 m w i → IsMark a m w i
  mark_back m w i h = by_bool (T w) (λ q. by (each w q)) (λ q. record { thread = h.thread; goes_on = sym (ap place_in (others w q)) ∙ h.goes_on; mark = h.mark })
    where
      by : Fate a a2 w → IsMark a m w i
      by (goes_on z) =
          let f : Some z.after ≡ Some h.thread = sym (goes_runs z) ∙ h.goes_on in
          let same : h.thread ≡ z.after = cc in
          record { thread = z.before; goes_on = z.runs; mark = z.marked i m (ap (λ (r : Running Position). slot_at r.slots i) (sym same) ∙ h.mark) }
      by (comes z) =
          let f : Some z.after ≡ Some h.thread = sym (ap place_in z.now) ∙ h.goes_on in
          let same : h.thread ≡ z.after = cc in
          let g : None ≡ Some (Held m) = ap (λ l. slot_at l i) (sym (ap (λ (r : Running Position). r.slots) same ∙ z.empty)) ∙ h.mark in
          absurd cc
