-- What of a report is counted one by one: acts and lines.
use Rattle.std.specs.Prelude.{ℕ, ◌==◌, List, [], ◌∷◌, None, slice_index}
use Rattle.std.specs.List.{flat_map}
use Rattle.fr_base.specs.Kinds.{kind_number}
use Rattle.fr_base.specs.declared.message.Kind.{Kind}
use Rattle.fr_base.specs.Lists.{tot, one}
use Rattle.journal.specs.declared.act.Act.{Act}
use Rattle.journal.specs.View.{EntryView}
use Rattle.coloured_heap.specs.Figures.{issues, renewals, hits, evictions}
use Rattle.tracer.specs.ReportText.{kind_line}
use Rattle.tracer.specs.declared.figures.Figure.{Figure}
use Rattle.tracer.specs.declared.figures.Figure.TheVariants as figure

-- the figure of a journal
abbrev pub figure_of : Figure → List EntryView → ℕ
figure_of figure.Issued es = issues es
figure_of figure.Renewed es = renewals es
figure_of figure.Hits es = hits es
figure_of figure.Evictions es = evictions es

-- a journal of one entry, of which the acts are known alone
abbrev pub with_acts : List Act → List EntryView
with_acts acts = record { server = 0; thread = None; done = None; acts = acts; labels = [] } ∷ []

-- a line for each of these kinds that was counted
abbrev pub tally_lines : List ℕ → List Kind → List ℕ
tally_lines counts ks = flat_map (λ k. kind_line k (slice_index counts (kind_number k))) ks

-- how many newlines a text has
abbrev pub newlines : List ℕ → ℕ
newlines text = tot (λ b. one (b == 10)) text
