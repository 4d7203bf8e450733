-- Words that had been issued before an event that keeps them are issued after it, where their colours are below the limit; so each word that stands anywhere is.
use Rattle.std.proofs.Common.{◌≡◌, ℕ, nat_lt, Option, Some, refl, ap, subst, arith}
use Rattle.law_words_issued.specs.Below.global_addr.Words.{colour_of}
use Rattle.law_words_issued.specs.Below.heap_partition.declared.value.Owned.{Owned}
use Rattle.law_words_issued.specs.Below.heap_partition.declared.value.Owned.TheVariants as owned
use Rattle.law_words_issued.specs.Below.journal.View.{EntryView}
use Rattle.law_words_issued.specs.Below.thread_state.declared.value.Value.{Value}
use Rattle.law_words_issued.specs.Below.thread_state.declared.value.Value.TheVariants as value
use Rattle.law_words_issued.specs.Below.server_msgs.declared.message.Message.{Message}
use Rattle.law_words_issued.specs.Below.server_msgs.declared.message.Message.TheVariants as message
use Rattle.law_words_issued.specs.Below.server_model.Servers.{Cluster}
use Rattle.law_words_issued.specs.Below.server_model.Clusters.{apply}
use Rattle.law_words_issued.specs.Below.coherent_memory.Names.{tot, other}
use Rattle.law_words_issued.specs.Below.coherent_memory.Things.{Thing, borrows, flies, copied, sent, things_of}
use Rattle.law_words_issued.specs.Below.coherent_memory.Follow.{value_in}
use Rattle.law_words_issued.specs.Below.coherent_memory.Stale.{lent_places}
use Rattle.law_words_issued.specs.Below.coherent_memory.Sight.{issued, sight}
use Rattle.law_words_issued.specs.Below.coherent_memory.Placing.{owned_word, message_word, words}
use Rattle.law_words_issued.specs.Below.coherent_memory.Coherent.{Holds, are_issued, below_limit}
use Rattle.law_words_issued.proofs.Below.coherent_memory.Names.{left_none}
use Rattle.law_words_issued.proofs.Below.coherent_memory.Words.{none_at, none_all}
use Rattle.law_words_issued.proofs.Below.law_counts_sums.Askers.{other_none}
use Rattle.law_words_issued.proofs.Below.law_counts_sums.Results.{both_give}
use Rattle.law_words_issued.proofs.Below.law_counts_things.names.Sentences.{limits_kept}
use Rattle.law_walks_own.proofs.Below.law_walks_others.pointers.Followed.{same_settings}
use Rattle.law_words_issued.proofs.old.Stood.{stood}
use Rattle.law_words_issued.specs.old.Old.{unissued, first_words, pointer_word, lent_words}
use Rattle.law_words_issued.specs.stays.Issued.{sent_words, copied_words}
use Rattle.law_words_issued.proofs.stays.Copies.{copies_have_old_words}
use Rattle.law_words_issued.specs.ever.Standing.{flown_words, FormerWords, Settled, KeepsIssued, EventsIssueWords}
use Rattle.law_words_issued.proofs.ever.Standing.{issued_follows}

-- THREE WEIGHTS: a word that had none by the first two has none by the third
module _ (f low g : ℕ → ℕ) (goes : (w : ℕ) → f w ≡ 0 → low w ≡ 0 → g w ≡ 0) where
  goes_owned : (v : Owned) → owned_word f v ≡ 0 → owned_word low v ≡ 0 → owned_word g v ≡ 0
  goes_owned (owned.Box b) a c = goes b.word a c
  goes_owned _ a c = refl

  goes_first : (y : Thing) → first_words f y ≡ 0 → words low y ≡ 0 → first_words g y ≡ 0
  goes_first (borrows l r) a c = goes r.first a (omega (arith, c))
  goes_first _ a c = refl

  goes_flown : (y : Thing) → flown_words f y ≡ 0 → words low y ≡ 0 → flown_words g y ≡ 0
  goes_flown (flies w x) a c = goes w a (omega (arith, c))
  goes_flown _ a c = refl

  goes_sent : (m : Message) → sent_words f m ≡ 0 → message_word low m ≡ 0 → sent_words g m ≡ 0
  goes_sent (message.Fetched w x t) a c =
      let first = goes w (omega (arith, a)) (omega (arith, c)) in
      let second = goes_owned x.value (omega (arith, a)) (omega (arith, c)) in
      omega (arith, first, second)
  goes_sent _ a c = refl

  goes_copied : (y : Thing) → copied_words f y ≡ 0 → words low y ≡ 0 → copied_words g y ≡ 0
  goes_copied (copied r x) a c =
      let first = goes x.word (omega (arith, a)) (omega (arith, c)) in
      let second = goes_owned x.cell.value (omega (arith, a)) (omega (arith, c)) in
      omega (arith, first, second)
  goes_copied (sent r m) a c = goes_sent m a c
  goes_copied _ a c = refl

  goes_pointer : (v : Option Value) → pointer_word f v ≡ 0 → pointer_word low v ≡ 0 → pointer_word g v ≡ 0
  goes_pointer (Some (value.Own (owned.Box b))) a c = goes b.word a c
  goes_pointer (Some (value.Mut r)) a c = goes r.word a c
  goes_pointer _ a c = refl

  module _ (d : Cluster) (below : tot (words low) (things_of d) ≡ 0) where
    goes_all : (of : (ℕ → ℕ) → Thing → ℕ) → ((y : Thing) → of f y ≡ 0 → words low y ≡ 0 → of g y ≡ 0) → tot (of f) (things_of d) ≡ 0 → tot (of g) (things_of d) ≡ 0
    goes_all of each z = none_all (of g) (things_of d) (λ y h. each y (none_at (of f) y (things_of d) z h) (none_at (words low) y (things_of d) below h))

    goes_lent : lent_words f (sight d) ≡ 0 → lent_words g (sight d) ≡ 0
    goes_lent z =
        let places = lent_places d.code (sight d).ground (sight d).ground.threads in
        none_all (λ l. pointer_word g (value_in (sight d).ground l)) places (λ l h. goes_pointer (value_in (sight d).ground l) (none_at (λ m. pointer_word f (value_in (sight d).ground m)) l places z h) (stood d low below l))

-- AN EVENT

-- a word at or above the limit of colours
abbrev too_high : Cluster → ℕ → ℕ
too_high k w = other (nat_lt (colour_of w) k.options.colours)

module _ (k d : Cluster) (keeps : KeepsIssued k d) where
  goes_on : (w : ℕ) → unissued k w ≡ 0 → too_high k w ≡ 0 → unissued d w ≡ 0
  goes_on w a c = ap other (keeps.stays w (other_none (nat_lt (colour_of w) k.options.colours) c) (other_none (issued (sight k) w) a))

  pub former : tot (copied_words (unissued k)) (things_of d) ≡ 0 → tot (words (too_high k)) (things_of d) ≡ 0 → FormerWords (unissued d) (sight d)
  former copies below = record {
    firsts = goes_all (unissued k) (too_high k) (unissued d) goes_on d below first_words (goes_first (unissued k) (too_high k) (unissued d) goes_on) keeps.firsts;
    flights = goes_all (unissued k) (too_high k) (unissued d) goes_on d below flown_words (goes_flown (unissued k) (too_high k) (unissued d) goes_on) keeps.flights;
    copies = goes_all (unissued k) (too_high k) (unissued d) goes_on d below copied_words (goes_copied (unissued k) (too_high k) (unissued d) goes_on) copies;
    lent = goes_lent (unissued k) (too_high k) (unissued d) goes_on d below keeps.lent;
  }

pub events_issue_words : EventsIssueWords
events_issue_words k e coherent few =
    both_give (λ (d : Cluster × EntryView). Holds d.0 below_limit × (tot (copied_words (unissued k)) (things_of d.0) ≡ 0)) (λ (d : Cluster × EntryView). (d.0.code ≡ k.code) × (d.0.options ≡ k.options)) (λ (d : Cluster × EntryView). Settled d.0 → KeepsIssued k d.0 → Holds d.0 are_issued) (apply k e)
    (both_give (λ (d : Cluster × EntryView). Holds d.0 below_limit) (λ (d : Cluster × EntryView). tot (copied_words (unissued k)) (things_of d.0) ≡ 0) (λ (d : Cluster × EntryView). Holds d.0 below_limit × (tot (copied_words (unissued k)) (things_of d.0) ≡ 0)) (apply k e)
    (limits_kept k e coherent.sound few) (copies_have_old_words k e coherent.sound few) (λ d a b. (a, b)))
    (same_settings k e)
    (λ d a b settled keeps.
    let below : tot (words (too_high d.0)) (things_of d.0) ≡ 0 = left_none _ _ a.0 in
    issued_follows d.0 settled (former k d.0 keeps a.1 (subst (λ o. tot (words (λ w. other (nat_lt (colour_of w) o.colours))) (things_of d.0) ≡ 0) b.1 below)))
