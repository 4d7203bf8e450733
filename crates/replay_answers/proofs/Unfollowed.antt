-- Why a source with an order behind it has no run.
use Rattle.std.proofs.Common.{◌≡◌, ◌≢◌, ℕ, List, sym, refl, subst}
use Rattle.std.specs.Prelude.{Result, Ok, Err, IfErr}
use Rattle.fr_terms.specs.Terms.{Term}
use Rattle.fr_plain.specs.Whole.{Whole, start}
use Rattle.fr_plain.specs.Resolve.{program}
use Rattle.journal.specs.declared.order.OrderLine.{OrderLine}
use Rattle.source_front.specs.declared.refused.Refused.{Refused}
use Rattle.source_front.specs.declared.refused.Refused.TheVariants.{Tokens, Grammar, Fault, Order, NoMemory}
use Rattle.source_front.specs.Typed.{IsTyped}
use Rattle.source_front.specs.Refusals.{IsRefusedBy, status_of, text_of}
use Rattle.replay_answers.specs.Replay.{source_in, source_length, HasLines, bad_step, IsBadBehind}
use Rattle.replay_answers.specs.Runs.{IsUnordered, IsStoppedIn}
use Rattle.replay_answers.specs.Answers.{HasReplayCause, IsUnfollowedBy, Replayed, unfollowed}

-- a refusal that is no want of memory has its cause
pub has_replay_cause : (bytes : List ℕ) (why : Refused) → why ≢ NoMemory → IsUnfollowedBy bytes why → HasReplayCause bytes why
has_replay_cause bytes (Tokens e) other h = h
has_replay_cause bytes (Grammar e) other h = h
has_replay_cause bytes (Fault place why) other h = h
has_replay_cause bytes (Order place) other h = h
has_replay_cause bytes NoMemory other h = absurd (other refl)

-- a source that has no run has none under an order either
pub unfollowed_source : (bytes : List ℕ) (why : Refused) → IsRefusedBy (source_in bytes) why → IsUnfollowedBy bytes why
unfollowed_source bytes (Tokens e) h = h
unfollowed_source bytes (Grammar e) h = h
unfollowed_source bytes (Fault place why) h = h
unfollowed_source bytes (Order place) h = absurd h
unfollowed_source bytes NoMemory h = tt

-- nor has one with no order behind it
pub unordered : (bytes : List ℕ) (t : Term) (why : Refused) → IsTyped (source_in bytes) t → IsUnordered bytes why → IsUnfollowedBy bytes why
unordered bytes t (Order place) typed h = record { term = t; typed = typed; bad = h t }
unordered bytes t (Tokens e) typed h = absurd h
unordered bytes t (Grammar e) typed h = absurd h
unordered bytes t (Fault place why) typed h = absurd h
unordered bytes t NoMemory typed h = tt

-- nor one whose order is no list of plain steps
pub unfollowed_order : (bytes : List ℕ) (t : Term) (lines : List OrderLine) (why : Refused) → IsTyped (source_in bytes) t → HasLines bytes lines → IsStoppedIn (start (program t)) lines why → IsUnfollowedBy bytes why
unfollowed_order bytes t lines (Order place) typed h s =
    record { term = t; typed = typed; bad = subst (λ rest. IsBadBehind t (source_length bytes) rest place) (sym h.marked) (bad_step lines h.spelled s) }
unfollowed_order bytes t lines (Tokens e) typed h s = absurd s
unfollowed_order bytes t lines (Grammar e) typed h s = absurd s
unfollowed_order bytes t lines (Fault place why) typed h s = absurd s
unfollowed_order bytes t lines NoMemory typed h s = tt

-- the same of what a call answers
pub unfollowed_answer : {A : Type 0} (bytes : List ℕ) (t : Term) (lines : List OrderLine) (from : Whole) (r : Result A Refused) → IsTyped (source_in bytes) t → HasLines bytes lines → from ≡ start (program t) → IfErr r (IsStoppedIn from lines) → IfErr r (IsUnfollowedBy bytes)
unfollowed_answer bytes t lines from (Ok x) typed h begins s = tt
unfollowed_answer bytes t lines from (Err why) typed h begins s = unfollowed_order bytes t lines why typed h (subst (λ (b : Whole). IsStoppedIn b lines why) begins s)

-- what is written of a refusal
pub unfollowed_by : (bytes : List ℕ) (why : Refused) (status : ℕ) (text : List ℕ) → why ≢ NoMemory → IsUnfollowedBy bytes why → status ≡ status_of why → text ≡ text_of why → Replayed bytes status text
unfollowed_by bytes why status text other h is says =
    subst (λ s. Replayed bytes s text) (sym is) (subst (Replayed bytes (status_of why)) (sym says) (unfollowed why (has_replay_cause bytes why other h)))
