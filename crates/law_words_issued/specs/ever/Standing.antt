-- WORDS THAT STAND, told by those of former times (this project's rule): the first words of references, the words of objects under way and of copies, and those of
-- pointers from which an object was taken. Where these were issued each word that stands anywhere was.
use Rattle.std.specs.Prelude.{◌≡◌, ℕ, true, nat_lt}
use Rattle.law_words_issued.specs.Below.global_addr.Words.{colour_of}
use Rattle.law_words_issued.specs.Below.journal.View.{EntryView}
use Rattle.law_words_issued.specs.Below.server_model.declared.event.Event.{Event}
use Rattle.law_words_issued.specs.Below.server_model.Servers.{Cluster}
use Rattle.law_words_issued.specs.Below.server_model.Clusters.{apply}
use Rattle.law_words_issued.specs.Below.coherent_memory.Names.{tot}
use Rattle.law_words_issued.specs.Below.coherent_memory.Things.{Thing, flies, things_of}
use Rattle.law_words_issued.specs.Below.coherent_memory.Sight.{Sight, issued, sight}
use Rattle.law_words_issued.specs.Below.coherent_memory.Words.{HasWords}
use Rattle.law_words_issued.specs.Below.coherent_memory.Turn.{WaitInTurn}
use Rattle.law_words_issued.specs.Below.coherent_memory.Coherent.{Holds, are_issued, first_at_holder, objects_there, taken_stands, Users}
use Rattle.law_words_issued.specs.Below.law_counts_sums.Laws.{Gives, FewEvents}
use Rattle.law_words_issued.specs.Below.coherent_types.ClusterTypes.{IsCoherent}
use Rattle.law_words_issued.specs.Below.law_words_paths.paths.HeapStore.{HasPaths}
use Rattle.law_words_issued.specs.old.Old.{unissued, first_words, lent_words}
use Rattle.law_words_issued.specs.stays.Issued.{copied_words}

-- WORDS OF FORMER TIMES, with a weight

-- the word that an object under way had
abbrev pub flown_words : (ℕ → ℕ) → Thing → ℕ
flown_words f (flies w c) = f w
flown_words f x = 0

-- none of them weighs anything
pub record FormerWords (f : ℕ → ℕ) (s : Sight) : Type 0 where
  pub firsts : tot (first_words f) s.things ≡ 0
  pub flights : tot (flown_words f) s.things ≡ 0
  pub copies : tot (copied_words f) s.things ≡ 0
  pub lent : lent_words f s ≡ 0

-- ONE CLUSTER

-- what else is kept of a cluster that is told of words: its places and types, the words of objects, first words, users, what is waited for, asked for and taken
pub record Settled (k : Cluster) : Type 0 where
  pub paths : HasPaths k
  pub has_words : HasWords (sight k)
  pub first_at_holder : Holds k first_at_holder
  pub users : Users k
  pub wait_in_turn : WaitInTurn (sight k)
  pub objects_there : Holds k objects_there
  pub taken_stands : Holds k taken_stands

-- where the words of former times were issued each word that stands anywhere was
abbrev pub IssuedFollows : Type 0
IssuedFollows = (k : Cluster) → Settled k → FormerWords (unissued k) (sight k) → Holds k are_issued

-- AN EVENT

-- in the second cluster what was issued in the first is issued, and the words of former times had been issued then. (Those of copies had after each event)
pub record KeepsIssued (k d : Cluster) : Type 0 where
  pub stays : (w : ℕ) → nat_lt (colour_of w) k.options.colours ≡ true → issued (sight k) w ≡ true → issued (sight d) w ≡ true
  pub firsts : tot (first_words (unissued k)) (things_of d) ≡ 0
  pub flights : tot (flown_words (unissued k)) (things_of d) ≡ 0
  pub lent : lent_words (unissued k) (sight d) ≡ 0

-- after such an event from a coherent cluster in which few were done, its messages handed over, each word that stands anywhere was issued
abbrev pub EventsIssueWords : Type 0
EventsIssueWords = (k : Cluster) (e : Event) → IsCoherent k → FewEvents k → Gives (λ (d : Cluster × EntryView). Settled d.0 → KeepsIssued k d.0 → Holds d.0 are_issued) (apply k e)
