-- ENTRIES OF EVENTS ARE LEGAL: from each coloured heap that a cluster stands for, an event's entry is legal and leads to one that the cluster afterwards stands for (in the manner of
-- DRust; the state is this project's).
use Rattle.std.specs.Prelude.{◌≡◌, true, List, [], ◌∷◌, ◌++◌, Some}
use Rattle.law_words_ends.specs.Below.fr_base.declared.settings.Options.{Options}
use Rattle.law_words_ends.specs.Below.journal.View.{EntryView}
use Rattle.law_words_ends.specs.Below.server_model.declared.event.Event.{Event}
use Rattle.law_words_ends.specs.Below.server_model.Servers.{Cluster}
use Rattle.law_words_ends.specs.Below.server_model.Clusters.{apply}
use Rattle.law_words_ends.specs.Below.law_words_kept.Below.coloured_heap.Heap.{Coloured}
use Rattle.law_words_ends.specs.Below.law_words_kept.Below.coloured_heap.Legal.{entry_after}
use Rattle.law_words_ends.specs.Below.law_words_kept.Below.coloured_heap.Reach.{is_reached}
use Rattle.law_words_ends.specs.Below.coherent_memory.Colours.{StandsColoured}
use Rattle.law_words_ends.specs.Below.coherent_memory.LeftBy.{LeavesColoured}
use Rattle.law_words_ends.specs.Below.coherent_memory.Coherent.{IsSound}
use Rattle.law_words_ends.specs.Below.law_counts_sums.Kinds.{Kind, kind_of}
use Rattle.law_words_ends.specs.Below.law_counts_sums.Laws.{Gives, FewEvents}

-- the entry is legal from a state of the coloured heap, reaches what it loads and stores, and leads to a state that the cluster stands for
pub record LeadsOn (o : Options) (e : EntryView) (s : Coloured) (c : Cluster) : Type 0 where
  pub state : Coloured
  pub legal : entry_after o s e ≡ Some state
  -- the entry reaches what it loads and stores
  pub reached : is_reached o s e ≡ true
  pub stands : StandsColoured c state

-- from each coloured heap that the cluster stands for the event's entry, its messages handed over, leads to one that the cluster afterwards stands for
abbrev pub EntryLegal : Cluster → Event → Type 0
EntryLegal k e = (s : Coloured) → StandsColoured k s → Gives (λ (d : Cluster × EntryView). LeadsOn k.options d.1 s d.0) (apply k e)

-- each event of that kind has a legal entry, from a sound cluster in which few events were done
abbrev pub EntriesLegal : Kind → Type 0
EntriesLegal kind = (k : Cluster) (e : Event) → kind_of k e ≡ Some kind → IsSound k → FewEvents k → EntryLegal k e

-- where a legal journal has left the coloured heap of a cluster, the journal with the entry of an event of that kind is legal too, and leaves that of the cluster afterwards
abbrev pub JournalGoesOn : Kind → Type 0
JournalGoesOn kind =
    (k : Cluster) (e : Event) (es : List EntryView) → kind_of k e ≡ Some kind → IsSound k → FewEvents k → LeavesColoured k es → Gives (λ (d : Cluster × EntryView). LeavesColoured d.0 (es ++ d.1 ∷ [])) (apply k e)

-- so it is for each kind of event whose entries are legal
abbrev pub LegalEntriesContinue : Type 0
LegalEntriesContinue = (kind : Kind) → EntriesLegal kind → JournalGoesOn kind
