-- NO OLD WORD IS NEW (this project's rules): the first word of each reference was issued before the event.
use Rattle.std.specs.Prelude.{◌≡◌, ℕ, Option, Some}
use Rattle.law_walks_own.specs.Below.heap_partition.declared.value.Cell.{Cell}
use Rattle.law_walks_own.specs.Below.heap_partition.declared.value.Owned.TheVariants as owned
use Rattle.law_walks_own.specs.Below.thread_state.declared.value.Value.{Value}
use Rattle.law_walks_own.specs.Below.thread_state.declared.value.Value.TheVariants as value
use Rattle.law_walks_own.specs.Below.server_msgs.declared.message.Message.TheVariants.{Moved}
use Rattle.law_walks_own.specs.Below.journal.View.{EntryView}
use Rattle.law_walks_own.specs.Below.server_model.declared.event.Event.{Event}
use Rattle.law_walks_own.specs.Below.server_model.declared.event.What.TheVariants.{Step}
use Rattle.law_walks_own.specs.Below.server_model.Servers.{Cluster}
use Rattle.law_walks_own.specs.Below.server_model.Clusters.{apply}
use Rattle.law_walks_own.specs.Below.coherent_memory.Names.{tot, other}
use Rattle.law_walks_own.specs.Below.coherent_memory.Things.{Thing, borrows, things_of}
use Rattle.law_walks_own.specs.Below.coherent_memory.Follow.{value_in}
use Rattle.law_walks_own.specs.Below.coherent_memory.Stale.{lent_places}
use Rattle.law_walks_own.specs.Below.coherent_memory.Sight.{Sight, sight, issued}
use Rattle.law_walks_own.specs.Below.coherent_types.ClusterTypes.{IsCoherent}
use Rattle.law_walks_own.specs.Below.law_counts_sums.Laws.{Gives, FewEvents}
use Rattle.law_walks_own.specs.Below.law_words_paths.words.Unmoved.{Delivers}

-- a word that wasn't issued in a cluster weighs something
abbrev pub unissued : Cluster → ℕ → ℕ
unissued k w = other (issued (sight k) w)

-- FIRST WORDS

abbrev pub first_words : (ℕ → ℕ) → Thing → ℕ
first_words f (borrows l r) = f r.first
first_words f x = 0

-- each was issued before the event
abbrev pub FirstWordsAreOld : Cluster → Event → Type 0
FirstWordsAreOld k e = Gives (λ (d : Cluster × EntryView). tot (first_words (unissued k)) (things_of d.0) ≡ 0) (apply k e)

-- so it is after the step of a thread, from a coherent cluster in which few events were done, its messages handed over
abbrev pub StepsLeaveFirstWords : Type 0
StepsLeaveFirstWords = (k : Cluster) (e : Event) (t : ℕ) → e.what ≡ Step t → IsCoherent k → FewEvents k → FirstWordsAreOld k e

-- and after the delivery of an object that comes
abbrev pub ArrivalsLeaveFirstWords : Type 0
ArrivalsLeaveFirstWords = (k : Cluster) (e : Event) (old : ℕ) (c : Cell) (t : ℕ) → Delivers k e (Moved old c t) → IsCoherent k → FewEvents k → FirstWordsAreOld k e

-- POINTERS FROM WHICH OBJECTS WERE TAKEN

-- the word of a pointer that may be stale
abbrev pub pointer_word : (ℕ → ℕ) → Option Value → ℕ
pointer_word f (Some (value.Own (owned.Box p))) = f p.word
pointer_word f (Some (value.Mut r)) = f r.word
pointer_word f v = 0

-- the words of the pointers from which a thread has taken an object for a mutable borrow
abbrev pub lent_words : (ℕ → ℕ) → Sight → ℕ
lent_words f s = tot (λ l. pointer_word f (value_in s.ground l)) (lent_places s.code s.ground s.ground.threads)
