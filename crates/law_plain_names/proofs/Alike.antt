-- Runs of the codes of one program end alike.
use Rattle.std.proofs.Common.{◌≡◌, ℕ, Bool, true, false, List, Option, Some, None, refl, sym, ap, ◌∙◌}
use Rattle.std.specs.Prelude.{if◌then◌else◌}
use Rattle.fr_base.specs.declared.instruction.Instr.{Instr}
use Rattle.fr_base.specs.declared.step.Fresh.TheVariants as fresh
use Rattle.fr_base.specs.declared.step.Wait.{Wait}
use Rattle.fr_plain.specs.declared.value.Value.{Value}
use Rattle.fr_plain.specs.MachineThreads.{Moves, Life, alive, over, owing, loose, ended, life_move, Thread, Whole, thread_at, is_over}
use Rattle.fr_plain.specs.Machine.{Turn, Takes, no_name, a_thread, two_threads, a_mutex, takes_name, has_ended, waits, refused_names, refused_wait, refused_of, waits_for, ending_of}
use Rattle.fr_plain.specs.PlainState.{running, running_in, plain_state}
use Rattle.fr_plain.specs.SamePlain.{waits_in, waits_at}
use Rattle.fr_plain.specs.Run.{Run, terms}
use Rattle.fr_plain.specs.Whole.{Stepped, plain}
use Rattle.fr_plain.specs.Alike.{LivesAlike, both_alive, both_owing, both_loose, both_ended, both_over, Alike}
use Rattle.fr_plain.proofs.Alike.{SameFound, same_found}
use Rattle.fr_code.specs.Steps.{Place, code_moves}
use Rattle.fr_code.specs.Machine.{CodeStepped, code_run, code_start}
use Rattle.fr_code.specs.Laws.{StandsAt, StandsWhole, SameSteps}
use Rattle.fr_code.proofs.Wholes.{refusals_alike, endings_alike, runs_alike}
use Rattle.law_plain_names.specs.Explored.{goes_on, End, PastIn, IsEmpty, EndsSo, AllEndSo}
use Rattle.law_plain_names.proofs.Explored.{each_ends_so}

-- A WAIT IS A REFUSAL

module _ {P : Type 0} (ms : Moves P) (s : Whole P) where
  at_work : (t : ℕ) (l : Life P) (slots : List Value) (w : Wait) → waits_for ms s (record { number = t; life = l; slots = slots }) ≡ Some w → is_over l ≡ false
  at_work t (alive p) slots w e = refl
  at_work t (owing p) slots w e = refl
  at_work t (loose p) slots w e = refl
  at_work t over slots w e = absurd cc
  at_work t (ended v) slots w e = absurd cc

  refused_waiting : (x : Option (Thread P)) (w : Wait) → waits_in ms s x ≡ Some w → refused_of ms s fresh.None x ≡ Some (waits w)
  refused_waiting None w e = absurd cc
  refused_waiting (Some x) w e =
      ap (λ b. if b then Some has_ended else refused_wait (waits_for ms s x) (refused_names s (takes_name (life_move ms x.life)) fresh.None)) (at_work x.number x.life x.slots w e)
      ∙ ap (λ v. refused_wait v (refused_names s (takes_name (life_move ms x.life)) fresh.None)) e

  no_wait : (takes : Takes) (w : Wait) → refused_names s takes fresh.None ≡ Some (waits w) → ⊥
  no_wait no_name w e = absurd cc
  no_wait a_thread w e = absurd cc
  no_wait two_threads w e = absurd cc
  no_wait a_mutex w e = absurd cc

  waiting_refused : (x : Option (Thread P)) (w : Wait) → refused_of ms s fresh.None x ≡ Some (waits w) → waits_in ms s x ≡ Some w
  waiting_refused None w e = absurd cc
  waiting_refused (Some x) w e = by (is_over x.life) (waits_for ms s x) e
    where
      by : (b : Bool) (v : Option Wait) → (if b then Some has_ended else refused_wait v (refused_names s (takes_name (life_move ms x.life)) fresh.None)) ≡ Some (waits w) → v ≡ Some w
      by true v e = absurd cc
      by false (Some v) e = let f : v ≡ w = cc in ap Some f
      by false None e = absurd (no_wait (takes_name (life_move ms x.life)) w e)

both_ways : (p q : Option Wait) → ((w : Wait) → p ≡ Some w → q ≡ Some w) → ((w : Wait) → q ≡ Some w → p ≡ Some w) → p ≡ q
both_ways (Some w) q f g = sym (f w refl)
both_ways None (Some w) f g = g w refl
both_ways None None f g = refl

-- NOTHING LEFT

module _ {P Q : Type 0} (R : P → Q → Type 0) where
  past_there : {l : Life P} {m : Life Q} (us vs : List Value) → LivesAlike R l m → running us l ≡ over → running vs m ≡ over
  past_there us vs (both_alive h) e = absurd cc
  past_there us vs (both_owing h) e = absurd cc
  past_there us vs (both_loose h) e = absurd cc
  past_there us vs both_ended e = absurd cc
  past_there us vs both_over e = refl

  past_here : {l : Life P} {m : Life Q} (us vs : List Value) → LivesAlike R l m → running vs m ≡ over → running us l ≡ over
  past_here us vs (both_alive h) e = absurd cc
  past_here us vs (both_owing h) e = absurd cc
  past_here us vs (both_loose h) e = absurd cc
  past_here us vs both_ended e = absurd cc
  past_here us vs both_over e = refl

  found_there : (x : Option (Thread P)) (y : Option (Thread Q)) → SameFound R x y → PastIn (running_in x) → PastIn (running_in y)
  found_there None None f h = tt
  found_there None (Some y) f h = absurd f
  found_there (Some x) None f h = absurd f
  found_there (Some x) (Some y) f h = past_there x.slots y.slots f.life h

  found_here : (x : Option (Thread P)) (y : Option (Thread Q)) → SameFound R x y → PastIn (running_in y) → PastIn (running_in x)
  found_here None None f h = tt
  found_here None (Some y) f h = absurd f
  found_here (Some x) None f h = absurd f
  found_here (Some x) (Some y) f h = past_here x.slots y.slots f.life h

  empty_there : (s : Whole P) (c : Whole Q) → Alike R s c → IsEmpty (plain_state s) → IsEmpty (plain_state c)
  empty_there s c h k = record {
    threads = λ t. found_there (thread_at s.threads t) (thread_at c.threads t) (same_found R s.threads c.threads h.threads t) (k.threads t);
    objects = λ o. rw h.heap at (k.objects o);
    mutexes = λ m. rw h.mutexes at (k.mutexes m);
  }

  empty_here : (s : Whole P) (c : Whole Q) → Alike R s c → IsEmpty (plain_state c) → IsEmpty (plain_state s)
  empty_here s c h k = record {
    threads = λ t. found_here (thread_at s.threads t) (thread_at c.threads t) (same_found R s.threads c.threads h.threads t) (k.threads t);
    objects = λ o. rw (← h.heap) at (k.objects o);
    mutexes = λ m. rw (← h.mutexes) at (k.mutexes m);
  }

-- THE CODES OF ONE PROGRAM

module _ (code : List Instr) (s : Whole Run) (c : Whole Place) (h : StandsWhole code s c) where
  waits_alike : waits_at terms s 0 ≡ waits_at (code_moves code) c 0
  waits_alike =
      both_ways (waits_at terms s 0) (waits_at (code_moves code) c 0)
      (λ w e. waiting_refused (code_moves code) c (thread_at c.threads 0) w (sym (refusals_alike code s c h 0 fresh.None) ∙ refused_waiting terms s (thread_at s.threads 0) w e))
      (λ w e. waiting_refused terms s (thread_at s.threads 0) w (refusals_alike code s c h 0 fresh.None ∙ refused_waiting (code_moves code) c (thread_at c.threads 0) w e))

  module _ (n : ℕ) (e : End) (order : List Turn) where
    ends_there : EndsSo terms n e order s → EndsSo (code_moves code) n e order c
    ends_there k = record {
      steps = k.steps;
      ending = sym (endings_alike code s c h) ∙ k.ending;
      prints = sym h.output ∙ k.prints;
      lock = rw waits_alike at k.lock;
      empty = λ f. empty_there (StandsAt code) s c h (k.empty f);
    }

    ends_here : EndsSo (code_moves code) n e order c → EndsSo terms n e order s
    ends_here k = record {
      steps = k.steps;
      ending = endings_alike code s c h ∙ k.ending;
      prints = h.output ∙ k.prints;
      lock = rw (← waits_alike) at k.lock;
      empty = λ f. empty_here (StandsAt code) s c h (k.empty f);
    }

pub all_end_so : AllEndSo
all_end_so r code other n e is its all order d ran off = by (plain r order) (code_run code code_start order) (code_run other code_start order) refl refl (runs_alike code r is order) (runs_alike other r its order)
  where
    by : (x : Option Stepped) (y z : Option CodeStepped) → code_run code code_start order ≡ y → code_run other code_start order ≡ z → SameSteps code x y → SameSteps other x z → EndsSo (code_moves other) n e order d.state
    by None y None f g h k = absurd cc
    by None y (Some z) f g h k = absurd k
    by (Some x) None z f g h k = absurd h
    by (Some x) (Some y) None f g h k = absurd k
    by (Some x) (Some y) (Some z) f g h k =
        let same : z ≡ d = cc in
        let stop : goes_on (ending_of (code_moves other) z.state) ≡ false = ap (λ (u : CodeStepped). goes_on (ending_of (code_moves other) u.state)) same ∙ off in
        let here : goes_on (ending_of (code_moves code) y.state) ≡ false = ap goes_on (sym (endings_alike code x.state y.state h.1) ∙ endings_alike other x.state z.state k.1) ∙ stop in
        let there : EndsSo (code_moves other) n e order z.state = ends_there other x.state z.state k.1 n e order (ends_here code x.state y.state h.1 n e order (each_ends_so code n e all order y f here)) in rw same at there
