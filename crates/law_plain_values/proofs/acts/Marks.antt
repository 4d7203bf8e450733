-- The marks of a mutex after a change of one thread, which keeps its own.
use Rattle.std.proofs.Common.{◌≡◌, ◌≢◌, ⊎_elim, ◌∙◌, ℕ, Some, sym, ap}
use Rattle.fr_base.specs.declared.name.MutexNo.{MutexNo}
use Rattle.fr_store.proofs.Keys.{decide_number}
use Rattle.fr_plain.specs.declared.value.Value.TheVariants.{Held}
use Rattle.fr_plain.specs.State.{slot_at}
use Rattle.fr_plain.specs.PlainState.{Running, PlainState, place_in}
use Rattle.fr_sound.specs.States.{IsMark, HasOneMark}
use Rattle.law_plain_values.specs.acts.Positions.{Position}
use Rattle.law_plain_values.proofs.acts.OneThread.{with_running, runs_still}

module _ (a a2 : PlainState Position) (t : ℕ) (x x2 : Running Position) (was : place_in (a.thread t) ≡ Some x) (now : a2.thread t ≡ with_running (a.thread t) x2) (others : (u : ℕ) → u ≢ t → a2.thread u ≡ a.thread u)
    (m : MutexNo) (still : (i : ℕ) → slot_at x.slots i ≡ Some (Held m) → slot_at x2.slots i ≡ Some (Held m)) (marked : (i : ℕ) → slot_at x2.slots i ≡ Some (Held m) → slot_at x.slots i ≡ Some (Held m)) where
  now_runs : place_in (a2.thread t) ≡ Some x2
  now_runs = ap place_in now ∙ runs_still (a.thread t) x x2 was

  -- each mark is one after it
  pub mark_to : (u i : ℕ) → IsMark a m u i → IsMark a2 m u i
  mark_to u i h = ⊎_elim same (λ (ne : u ≢ t). record { thread = h.thread; goes_on = ap place_in (others u ne) ∙ h.goes_on; mark = h.mark }) (decide_number u t)
    where
      same : u ≡ t → IsMark a2 m u i
      same e =
          let f : Some x ≡ Some h.thread = sym was ∙ ap (λ z. place_in (a.thread z)) (sym e) ∙ h.goes_on in
          let g : h.thread ≡ x = cc in
          record { thread = x2; goes_on = ap (λ z. place_in (a2.thread z)) e ∙ now_runs; mark = still i (ap (λ (z : Running Position). slot_at z.slots i) (sym g) ∙ h.mark) }

  -- and was one before
  pub mark_back : (u i : ℕ) → IsMark a2 m u i → IsMark a m u i
  mark_back u i h = ⊎_elim same (λ (ne : u ≢ t). record { thread = h.thread; goes_on = sym (ap place_in (others u ne)) ∙ h.goes_on; mark = h.mark }) (decide_number u t)
    where
      same : u ≡ t → IsMark a m u i
      same e =
          let f : Some x2 ≡ Some h.thread = sym now_runs ∙ ap (λ z. place_in (a2.thread z)) (sym e) ∙ h.goes_on in
          let g : h.thread ≡ x2 = cc in
          record { thread = x; goes_on = ap (λ z. place_in (a.thread z)) e ∙ was; mark = marked i (ap (λ (z : Running Position). slot_at z.slots i) (sym g) ∙ h.mark) }

  -- a mutex with one mark has one mark
  pub one_mark_to : HasOneMark a m → HasOneMark a2 m
  one_mark_to h = record { thread = h.thread; slot = h.slot; is = mark_to h.thread h.slot h.is; only = λ u i w. h.only u i (mark_back u i w) }
