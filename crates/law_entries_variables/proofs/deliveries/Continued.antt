-- A legal journal goes on with a legal entry.
use Rattle.std.proofs.Common.{◌≡◌, List, [], ◌∷◌, ◌++◌, Some, refl, ap, ◌∙◌}
use Rattle.law_words_ends.specs.Below.journal.View.{EntryView}
use Rattle.law_words_ends.specs.Below.server_model.declared.event.Event.{Event}
use Rattle.law_words_ends.specs.Below.server_model.Servers.{Cluster, server_at}
use Rattle.law_words_ends.specs.Below.server_model.Clusters.{done_at, apply}
use Rattle.law_words_ends.specs.Below.law_words_kept.Below.coloured_heap.Heap.{start}
use Rattle.law_words_ends.specs.Below.law_words_kept.Below.coloured_heap.Legal.{onward, journal_from, journal_after}
use Rattle.law_words_ends.proofs.Below.law_words_kept.Below.coloured_heap.Journals.{goes_on}
use Rattle.law_words_ends.specs.Below.coherent_memory.LeftBy.{LeavesColoured}
use Rattle.law_words_ends.specs.Below.law_counts_sums.Laws.{Gives}
use Rattle.law_words_ends.proofs.Below.law_counts_sums.Results.{then_gives, map_gives, both_give}
use Rattle.law_entries_variables.specs.deliveries.Entries.{LeadsOn, LegalEntriesContinue}

-- an event leaves the options
same_options : (k : Cluster) (e : Event) → Gives (λ (d : Cluster × EntryView). d.0.options ≡ k.options) (apply k e)
same_options k e =
    then_gives (λ (d : Cluster × EntryView). d.0.options ≡ k.options) (server_at k.servers e.server) _ (λ s here. map_gives (λ (d : Cluster × EntryView). d.0.options ≡ k.options) (done_at k e.what s) _ (λ r q. refl))

with_entry : (k c : Cluster) (es : List EntryView) (v : EntryView) (l : LeavesColoured k es) → c.options ≡ k.options → LeadsOn k.options v l.state c → LeavesColoured c (es ++ v ∷ [])
with_entry k c es v l same leads = record {
  state = leads.state;
  legal =
      ap (λ o. journal_after o (es ++ v ∷ [])) same ∙ goes_on k.options start es (v ∷ []) ∙ ap (λ r. onward r (λ after. journal_from k.options after (v ∷ []))) l.legal
      ∙ ap (λ r. onward r (λ after. Some after)) leads.legal;
  stands = leads.stands;
}

pub continues : LegalEntriesContinue
continues kind legal k e es q sound few l =
    both_give (λ (d : Cluster × EntryView). d.0.options ≡ k.options) (λ (d : Cluster × EntryView). LeadsOn k.options d.1 l.state d.0) (λ (d : Cluster × EntryView). LeavesColoured d.0 (es ++ d.1 ∷ [])) (apply k e)
    (same_options k e) (legal k e q sound few l.state l.stands) (λ d same leads. with_entry k d.0 es d.1 l same leads)
