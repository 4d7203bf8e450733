-- ALL ENTRIES LEAD ON: so a cluster to which events lead from the start of a typed program is what their journal leaves, in all parts (in the manner of DRust; the state is this project's).
use Rattle.std.specs.Prelude.{◌<◌, ◌^◌, ℕ, List, [], length}
use Rattle.law_entries_events.specs.Below.law_words_borrows.Below.journal.View.{EntryView}
use Rattle.law_entries_events.specs.Below.law_words_borrows.Below.server_model.declared.event.Event.{Event}
use Rattle.law_entries_events.specs.Below.law_words_borrows.Below.server_model.Servers.{Cluster, start_of}
use Rattle.law_entries_events.specs.Below.law_words_borrows.Below.law_counts_sums.Laws.{Gives}
use Rattle.law_entries_events.specs.Below.law_runs_whole.Below.code_meaning.LeftByItsCode.{LeftByItsCode}
use Rattle.law_entries_events.specs.Below.law_runs_whole.runs.Runs.{run_of}
use Rattle.law_entries_events.specs.Below.law_runs_whole.programs.Programs.{Given}

-- fewer than 2^31 events from the start of a typed program lead to a cluster that is left by its journal: the journal is legal, each entry reaches what it loads and stores, and its coloured heap, its
-- one heap, its labels, its messages and its events are those that the journal leaves
abbrev pub EachProgramIsLeft : Type 0
EachProgramIsLeft = (g : Given) (es : List Event) → length es < 2 ^ 31 → Gives (λ (d : Cluster × List EntryView). LeftByItsCode d.0 d.1) (run_of (start_of g.code g.options) es)
