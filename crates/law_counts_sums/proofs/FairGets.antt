-- A thread that gets what it waits for weighs what the answer and its waiting did.
use Rattle.std.proofs.Common.{◌≡◌, ◌≤◌, ℕ, ◌+◌, ◌==◌, ◌&&◌, not, List, true, false, [], ◌∷◌, ◌++◌, refl, sym, ap, ap₂, ◌∙◌, arith}
use Rattle.coherent_memory.specs.Below.fr_base.declared.instruction.Instr.{Instr}
use Rattle.coherent_memory.specs.Below.fr_base.declared.name.MutexNo.{MutexNo}
use Rattle.coherent_memory.specs.Below.thread_state.View.{ThreadState, is_over}
use Rattle.coherent_memory.specs.Below.thread_state.declared.phase.Phase.{Phase}
use Rattle.coherent_memory.specs.Below.thread_state.declared.phase.Phase.TheVariants as phase
use Rattle.coherent_memory.specs.Below.server_msgs.declared.message.Message.{Message}
use Rattle.coherent_memory.specs.Below.server_model.Events.{can_step}
use Rattle.coherent_memory.specs.Below.server_model.Objects.{waits_for_cell}
use Rattle.coherent_memory.specs.Below.server_model.Sharing.{waits_for_lock, waits_for_dup}
use Rattle.coherent_memory.specs.Below.server_model.Joining.{waits_for_join}
use Rattle.coherent_memory.specs.Names.{tot, one}
use Rattle.coherent_memory.specs.Things.{Thing, stands, sent, message_things}
use Rattle.coherent_memory.specs.Requests.{waits, whole_answer, message_answer, halves, halves_to, halves_needed, pair_notes, pair_places, branch_places}
use Rattle.coherent_memory.specs.Sharing.{finished_of, joined_of, got_phase, going_notes, goes_on, has_ended}
use Rattle.law_counts_sums.proofs.Trades.{tot-append}
use Rattle.law_counts_sums.proofs.Held.{result_of, owed_of, holds_result}
use Rattle.law_counts_sums.proofs.Fair.{Fair, even, Hears, owed_heard, halves_heard, needed_heard, notes_heard, places_heard, going_heard, goes_heard, results_heard, ended_heard, not_ended, if_none, needs_none, needs_both, calm_waits, calm_over, calm_places}

-- it waits for one answer, and for no pair
pub record Awaits (p : Phase) : Type 0 where
  pub waiting : waits p ≡ true
  pub alone : (t : ℕ) → branch_places t p ≡ 0
  pub lives : is_over p ≡ false

pub awaits_cell : (p : Phase) (w : ℕ) → waits_for_cell p w ≡ true → Awaits p
awaits_cell (phase.WaitCell x) w e = record { waiting = refl; alone = λ t. refl; lives = refl }
awaits_cell _ w e = absurd (cc e)

pub awaits_lock : (p : Phase) (m : MutexNo) → waits_for_lock p m ≡ true → Awaits p
awaits_lock (phase.WaitLock x) m e = record { waiting = refl; alone = λ t. refl; lives = refl }
awaits_lock _ m e = absurd (cc e)

pub awaits_dup : (p : Phase) (m : MutexNo) → waits_for_dup p m ≡ true → Awaits p
awaits_dup (phase.WaitDup x) m e = record { waiting = refl; alone = λ t. refl; lives = refl }
awaits_dup _ m e = absurd (cc e)

pub awaits_join : (p : Phase) (u : ℕ) → waits_for_join p u ≡ true → Awaits p
awaits_join (phase.WaitJoin x) u e = record { waiting = refl; alone = λ t. refl; lives = refl }
awaits_join _ u e = absurd (cc e)

-- an answer, of which nothing is heard but the message itself
pub record Answers (n : ℕ) (m : Message) (t : ℕ) : Type 0 where
  pub whole : message_answer m ≡ whole_answer t
  pub goes_on : (u : ℕ) → finished_of u m ≡ 0
  pub plain : (f : Thing → ℕ) → Hears f → tot f (message_things n m) ≡ f (sent n m)

pub fair_gets : {code : List Instr} (n : ℕ) (m : Message) (y y2 : ThreadState) → y2.number ≡ y.number → ((t : ℕ) → got_phase t y2.phase + holds_result code t y2 ≤ joined_of t m) → ((t : ℕ) → holds_result code t y2 ≡ joined_of t m + holds_result code t y) → Awaits y.phase → can_step y2.phase ≡ true → Answers n m y.number
    → Fair (even code) (message_things n m ++ stands n false y ∷ []) (stands n false y2 ∷ [])
fair_gets {code} n m y y2 e gift holds w c q = record {
  answers = λ t.
      let is = ap (halves t) q.whole in
      omega (
        arith,
        is,
        q.plain (halves_to t) (halves_heard t),
        q.plain (halves_needed t) (needed_heard t),
        tot-append (halves_to t) (message_things n m) (stands n false y ∷ []),
        tot-append (halves_needed t) (message_things n m) (stands n false y ∷ []),
        needs_both (y.number == t) (waits y.phase) w.waiting,
        needs_none (y2.number == t) (waits y2.phase) (calm_waits y2.phase c),
      );
  pairs = λ x. omega (
    arith,
    q.plain (pair_notes x) (notes_heard x),
    q.plain (pair_places x) (places_heard x),
    tot-append (pair_notes x) (message_things n m) (stands n false y ∷ []),
    tot-append (pair_places x) (message_things n m) (stands n false y ∷ []),
    if_none (n == x.server && y.number == x.parent) (branch_places x.thread y.phase) (w.alone x.thread),
    if_none (n == x.server && y2.number == x.parent) (branch_places x.thread y2.phase) (calm_places x.thread y2.phase c),
  );
  going = λ t.
      let same = ap₂ (λ i j. one (i == t && (not (i == 0) && not j))) e (calm_over y2.phase c ∙ sym w.lives) in
      omega (
        arith,
        same,
        q.goes_on t,
        q.plain (going_notes t) (going_heard t),
        q.plain (goes_on t) (goes_heard t),
        tot-append (going_notes t) (message_things n m) (stands n false y ∷ []),
        tot-append (goes_on t) (message_things n m) (stands n false y ∷ []),
      );
  homes = omega arith;
  ends = λ t. omega (
    arith,
    gift t,
    q.plain (result_of code t) (results_heard code t),
    q.plain (has_ended t) (ended_heard t),
    tot-append (result_of code t) (message_things n m) (stands n false y ∷ []),
    tot-append (has_ended t) (message_things n m) (stands n false y ∷ []),
    not_ended (y.number == t) (y.number == 0) (is_over y.phase) w.lives,
  );
  owes = λ t. omega (arith, holds t, q.plain (owed_of code t) (owed_heard code t), tot-append (owed_of code t) (message_things n m) (stands n false y ∷ []));
}
