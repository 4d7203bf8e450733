-- The list of what the threads of a plain state wait for: under each number what that thread waits for. It tells as much as why its steps are refused.
use Rattle.std.proofs.Common.{◌≡◌, ℕ, ◌==◌, Bool, true, false, if◌then◌else◌, List, [], ◌∷◌, Option, Some, None, refl, sym, ap, ◌∙◌}
use Rattle.law_runs_whole.specs.Below.fr_base.declared.step.Fresh.TheVariants as fresh
use Rattle.law_runs_whole.specs.Below.fr_base.declared.step.Wait.{Wait}
use Rattle.law_runs_whole.specs.Below.fr_plain.MachineThreads.{Life, alive, over, owing, loose, ended, Moves, Thread, Whole, life_move, thread_at, is_over}
use Rattle.law_runs_whole.specs.Below.fr_plain.Machine.{Refusal, waits, Takes, no_name, a_thread, two_threads, a_mutex, takes_name, move_waits, waits_for, has_ended, refused_names, refused_wait, refused_of, refused}
use Rattle.law_runs_whole.specs.Below.fr_plain.SamePlain.{IsListedOnce, waits_in as waits_of, waits_at}
use Rattle.law_runs_whole.specs.waits.Stands.{waits_in}
use Rattle.law_runs_whole.proofs.waits.Rising.{under, Rises, added_rises, added_under}

-- what a refused thread waits for
abbrev pub told : Option Refusal → Option Wait
told (Some (waits w)) = Some w
told r = None

module _ {P : Type 0} (ms : Moves P) (s : Whole P) where
  -- THE LIST

  picked : (b : Bool) (x : Thread P) (o : Option (Thread P)) → (if b then waits_for ms s x else waits_of ms s o) ≡ waits_of ms s (if b then Some x else o)
  picked true x o = refl
  picked false x o = refl

  pub list_under : (xs : List (Thread P)) → IsListedOnce xs → (t : ℕ) → under (waits_in ms s xs) t ≡ waits_of ms s (thread_at xs t)
  list_under [] h t = refl
  list_under (x ∷ xs) h t =
      added_under x.number (waits_for ms s x) (waits_in ms s xs) (list_under xs h.1 x.number ∙ ap (waits_of ms s) h.0) t
      ∙ ap (λ o. if x.number == t then waits_for ms s x else o) (list_under xs h.1 t) ∙ picked (x.number == t) x (thread_at xs t)

  pub list_rises : (xs : List (Thread P)) → IsListedOnce xs → Rises 0 (waits_in ms s xs)
  list_rises [] h = tt
  list_rises (x ∷ xs) h = added_rises x.number (waits_for ms s x) (waits_in ms s xs) (list_rises xs h.1) (list_under xs h.1 x.number ∙ ap (waits_of ms s) h.0)

  -- REFUSALS

  -- a step without a new name is refused for a name of the wrong kind at most
  nameless : (k : Takes) → told (refused_names s k fresh.None) ≡ None
  nameless no_name = refl
  nameless a_thread = refl
  nameless two_threads = refl
  nameless a_mutex = refl

  waits_first : (w : Option Wait) (k : Takes) → w ≡ told (refused_wait w (refused_names s k fresh.None))
  waits_first None k = sym (nameless k)
  waits_first (Some w) k = refl

  over_moves_not : (l : Life P) → is_over l ≡ true → life_move ms l ≡ None
  over_moves_not over e = refl
  over_moves_not (ended v) e = refl
  over_moves_not (alive p) e = absurd (cc e)
  over_moves_not (owing p) e = absurd (cc e)
  over_moves_not (loose p) e = absurd (cc e)

  -- one that is over waits for nothing
  pub over_waits : (x : Thread P) → is_over x.life ≡ true → waits_for ms s x ≡ None
  over_waits x e = ap (move_waits s x) (over_moves_not x.life e)

  of_thread : (x : Thread P) (b : Bool) → is_over x.life ≡ b → waits_for ms s x ≡ told (if b then Some has_ended else refused_wait (waits_for ms s x) (refused_names s (takes_name (life_move ms x.life)) fresh.None))
  of_thread x true e = over_waits x e
  of_thread x false e = waits_first (waits_for ms s x) (takes_name (life_move ms x.life))

  -- what a thread waits for is told by why a step of it is refused
  pub waits_told : (t : ℕ) → waits_at ms s t ≡ told (refused ms s t fresh.None)
  waits_told t = by (thread_at s.threads t)
    where
      by : (o : Option (Thread P)) → waits_of ms s o ≡ told (refused_of ms s fresh.None o)
      by None = refl
      by (Some x) = of_thread x (is_over x.life) refl
