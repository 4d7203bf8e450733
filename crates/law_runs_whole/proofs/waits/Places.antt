-- States that are alike show the same but for places.
use Rattle.std.proofs.Common.{◌≡◌, ℕ, List, length, Option, Some, None, refl, ap, subst, ◌∙◌}
use Rattle.std.specs.Prelude.{is_some, if◌then◌else◌}
use Rattle.law_runs_whole.specs.Below.fr_plain.declared.value.Value.{Value}
use Rattle.law_runs_whole.specs.Below.fr_plain.Heap.{made_by, cell_at}
use Rattle.law_runs_whole.specs.Below.fr_plain.MachineThreads.{Life, Thread, Whole, thread_at, is_over, mutex_at, mutex_there, pair_of}
use Rattle.law_runs_whole.specs.Below.fr_plain.PlainState.{PlainState, SameState, two_of, running, running_in, is_over_in, plain_state}
use Rattle.law_runs_whole.specs.Below.fr_plain.Alike.{LivesAlike, both_alive, both_owing, both_loose, both_ended, both_over, Alike}
use Rattle.law_runs_whole.proofs.Below.law_counts_sums.Below.fr_plain.Alike.{SameFound, same_found}
use Rattle.law_runs_whole.specs.waits.Stands.{RunningAlike, BothThere, SameButPlaces}

module _ {P Q : Type 0} (R : P → Q → Type 0) where
  lives_shown : {l : Life P} {k : Life Q} → LivesAlike R l k → (vs ws : List Value) → vs ≡ ws → LivesAlike (RunningAlike R) (running vs l) (running ws k)
  lives_shown (both_alive h) vs ws e = both_alive (h, e)
  lives_shown (both_owing h) vs ws e = both_owing (h, e)
  lives_shown (both_loose h) vs ws e = both_loose (h, e)
  lives_shown both_ended vs ws e = both_ended
  lives_shown both_over vs ws e = both_over

  found_shown : (p : Option (Thread P)) (q : Option (Thread Q)) → SameFound R p q → BothThere R (running_in p) (running_in q)
  found_shown None None h = tt
  found_shown None (Some y) h = absurd h
  found_shown (Some x) None h = absurd h
  found_shown (Some x) (Some y) h = lives_shown h.life x.slots y.slots h.slots

  life_over : {l : Life P} {k : Life Q} → LivesAlike R l k → is_over l ≡ is_over k
  life_over (both_alive h) = refl
  life_over (both_owing h) = refl
  life_over (both_loose h) = refl
  life_over both_ended = refl
  life_over both_over = refl

  found_over : (p : Option (Thread P)) (q : Option (Thread Q)) → SameFound R p q → is_over_in p ≡ is_over_in q
  found_over None None h = refl
  found_over None (Some y) h = absurd h
  found_over (Some x) None h = absurd h
  found_over (Some x) (Some y) h = life_over h.life

  pub alike_shown : (s : Whole P) (c : Whole Q) → Alike R s c → SameButPlaces R (plain_state s) (plain_state c)
  alike_shown s c h = record {
    threads = λ t. found_shown (thread_at s.threads t) (thread_at c.threads t) (found t);
    made = λ t. ap (λ b. if b then 0 else length (made_by s.heap t)) (over t) ∙ ap (λ z. if is_over_in (thread_at c.threads t) then 0 else length (made_by z t)) h.heap;
    pairs = λ t. ap (λ b. if b then None else two_of (pair_of s.pairs t)) (over t) ∙ ap (λ l. if is_over_in (thread_at c.threads t) then None else two_of (pair_of l t)) h.pairs;
    objects = λ o. ap (λ z. cell_at z o) h.heap;
    mutexes = λ m. ap (λ l. mutex_there l m) h.mutexes;
    given = λ m. ap (λ l. is_some (mutex_at l m)) h.mutexes;
  }
    where
      found : (t : ℕ) → SameFound R (thread_at s.threads t) (thread_at c.threads t)
      found t = same_found R s.threads c.threads h.threads t

      over : (t : ℕ) → is_over_in (thread_at s.threads t) ≡ is_over_in (thread_at c.threads t)
      over t = found_over (thread_at s.threads t) (thread_at c.threads t) (found t)

  -- the second one may be shown by another state
  pub shown_as : (a : PlainState P) (b d : PlainState Q) → SameButPlaces R a b → SameState b d → SameButPlaces R a d
  shown_as a b d h same = record {
    threads = λ t. subst (BothThere R (a.thread t)) (same.threads t) (h.threads t);
    made = λ t. h.made t ∙ same.made t;
    pairs = λ t. h.pairs t ∙ same.pairs t;
    objects = λ o. h.objects o ∙ same.objects o;
    mutexes = λ m. h.mutexes m ∙ same.mutexes m;
    given = λ m. h.given m ∙ same.given m;
  }
