use Rattle.std.proofs.Common.{◌≡◌, ◌∙◌, ◌<◌, ◌+◌, ◌++◌, ℤ, List, length, drop, slice_index_or, subst, sym, ap, append_assoc}
use Rattle.fr_base.specs.declared.label.Label.{Label}
use Rattle.journal.specs.Journals.{printed, prints}
use Rattle.journal.specs.View.{EntryView}
use Rattle.tracer.proofs.PrintLemmas.{prints_at}
use Rattle.tracer.proofs.report.prints_of.Goals as goal

pub entries-preserved : goal.entries-preserved
entries-preserved c =
    let i = c.entries.entry-index in
    let e = c.entry-item.result in
    let low = subst (λ (xs : List _). i < length xs) c.as_slice-entry-items.ensures c.entries-test.true in
    let is = c.entry-item.is ∙ ap (λ (xs : List _). slice_index_or xs i e) c.as_slice-entry-items.ensures in
    let more = prints_at c.args.journal.now.items i e low is in
    let labels : c.entry.inside.labels.items ≡ e.labels = ap (λ (x : EntryView). x.labels) c.entry.view_is in
    let grown : c.add_printed.new.numbers.items ≡ c.entries.numbers.items ++ printed e.labels = c.in_ok-add_printed.ensures ∙ ap (λ (ls : List Label). c.entries.numbers.items ++ printed ls) (c.as_slice.ensures ∙ labels) in
    let rest = prints (drop (i + 1) c.args.journal.now.items) in
    ap (λ (ns : List ℤ). ns ++ rest) grown ∙ append_assoc c.entries.numbers.items (printed e.labels) rest ∙ ap (λ (ns : List ℤ). c.entries.numbers.items ++ ns) (sym more) ∙ c.entries.invariant
