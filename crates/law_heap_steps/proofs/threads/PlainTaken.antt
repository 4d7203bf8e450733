-- On the plain machine a thread goes on, and threads whose results it takes are over.
use Rattle.std.proofs.Common.{◌≡◌, ◌≢◌, ℕ, Bool, true, false, List, Option, Some, None, refl, sym, ap, ◌∙◌, subst}
use Rattle.law_heap_steps.proofs.Below.fr_typing.PlaceLemmas.{eq_cases}
use Rattle.law_heap_steps.specs.Below.fr_base.declared.label.Plain.{Plain}
use Rattle.law_heap_steps.specs.Below.fr_plain.declared.value.Value.{Value}
use Rattle.law_heap_steps.specs.Below.fr_plain.declared.value.Value.TheVariants.{Own}
use Rattle.law_heap_steps.specs.Below.fr_plain.MachineThreads.{over, owing, loose, alive, ended, is_over, thread_at, with_thread}
use Rattle.law_heap_steps.specs.Below.fr_plain.PlainState.{SameState, running, running_in, is_over_in, plain_state}
use Rattle.law_heap_steps.proofs.Below.fr_plain.ByName.{put_in, put_at, put_off}
use Rattle.law_heap_steps.specs.Below.fr_code.Machine.{CodeLife, CodeThread, CodeWhole, CodeRunning, CodeState}
use Rattle.law_heap_steps.proofs.turns.PlainTurn.{thread_as, running_as, goes_as, found_as}
use Rattle.law_heap_steps.proofs.threads.Taken.{ResultsTaken}

-- a thread that is shown as ended with that value
pub record Ended (v : Plain) (o : Option CodeThread) : Type 0 where
  pub thread : CodeThread
  pub there : o ≡ Some thread
  pub life : thread.life ≡ ended (Own v)

ended_life : (v : Plain) (slots : List Value) (l : CodeLife) → running slots l ≡ ended (Own v) → l ≡ ended (Own v)
ended_life v slots (ended w) e = let same : w ≡ Own v = cc in ap (λ z. ended z) same
ended_life v slots (alive p) e = absurd (cc e)
ended_life v slots over e = absurd (cc e)
ended_life v slots (owing p) e = absurd (cc e)
ended_life v slots (loose p) e = absurd (cc e)

ended_as : (v : Plain) (o : Option CodeThread) → running_in o ≡ Some (ended (Own v)) → Ended v o
ended_as v None e = absurd (cc e)
ended_as v (Some x) e = record { thread = x; there = refl; life = ended_life v x.slots x.life (let same : running x.slots x.life ≡ ended (Own v) = cc in same) }

module _ (c : CodeWhole) (t : ℕ) (is_its : ℕ → Bool) (v : Plain) (p q : CodeRunning) (a b : CodeState) (turn : ResultsTaken t is_its v p q a b) (same : SameState (plain_state c) a) where
  pub found : thread_at c.threads t ≡ Some (thread_as turn.way t p)
  found = found_as c t turn.way p (same.threads t ∙ turn.before)

  pub ended_there : (u : ℕ) → is_its u ≡ true → Ended v (thread_at c.threads u)
  ended_there u m = ended_as v (thread_at c.threads u) (same.threads u ∙ turn.ended_before u m)

  abbrev w : CodeThread
  w = thread_as turn.way t q

  -- where the threads that it takes are over in that list, and the others as they were
  module _ (inner : List CodeThread) (off : (u : ℕ) → is_its u ≡ false → thread_at inner u ≡ thread_at c.threads u) (its : (u : ℕ) → is_its u ≡ true → (running_in (thread_at inner u) ≡ Some over) × (is_over_in (thread_at inner u) ≡ true)) where
    not_t : is_its t ≡ false
    not_t = by (is_its t) refl
      where
        by : (m : Bool) → is_its t ≡ m → is_its t ≡ false
        by true m = absurd (turn.differ t m refl)
        by false m = m

    put : thread_at (with_thread inner w) t ≡ Some w
    put = put_at inner w t refl ∙ ap (put_in w) (off t not_t ∙ found)

    thread_by : (u : ℕ) → t ≢ u → (m : Bool) → is_its u ≡ m → running_in (thread_at inner u) ≡ b.thread u
    thread_by u ne true m = (its u m).0 ∙ sym (turn.taken u m)
    thread_by u ne false m = ap running_in (off u m) ∙ same.threads u ∙ turn.others u ne m

    pub thread_same : (u : ℕ) → running_in (thread_at (with_thread inner w) u) ≡ b.thread u
    thread_same u =
        eq_cases (λ r. running_in (thread_at (with_thread inner w) u) ≡ b.thread u) t u
        (λ e. subst (λ z. running_in (thread_at (with_thread inner w) z) ≡ b.thread z) e (ap running_in put ∙ ap Some (running_as turn.way q) ∙ sym turn.afterwards))
        (λ ne. ap running_in (put_off inner w u ne) ∙ thread_by u ne (is_its u) refl)

    over_by : (u : ℕ) → (m : Bool) → is_its u ≡ m → is_over_in (thread_at inner u) ≡ is_over_in (thread_at c.threads u)
    over_by u true m = let x = ended_there u m in (its u m).1 ∙ sym (ap is_over_in x.there ∙ ap is_over x.life)
    over_by u false m = ap is_over_in (off u m)

    pub over_same : (u : ℕ) → is_over_in (thread_at (with_thread inner w) u) ≡ is_over_in (thread_at c.threads u)
    over_same u =
        eq_cases (λ r. is_over_in (thread_at (with_thread inner w) u) ≡ is_over_in (thread_at c.threads u)) t u
        (λ e. subst (λ z. is_over_in (thread_at (with_thread inner w) z) ≡ is_over_in (thread_at c.threads z)) e (ap is_over_in put ∙ goes_as turn.way q.place ∙ sym (ap is_over_in found ∙ goes_as turn.way p.place)))
        (λ ne. ap is_over_in (put_off inner w u ne) ∙ over_by u (is_its u) refl)
