use Rattle.std.proofs.Common.{◌≡◌, ◌++◌, [], ◌+◌, List, length, ◌<◌, slice_index_or, take, ap, subst, ◌∙◌}
use Rattle.std.proofs.lemmas.List.{append-nil}
use Rattle.journal.specs.View.{EntryView}
use Rattle.journal.specs.Journals.{order, turn_of}
use Rattle.journal.proofs.WritingLemmas.{starts, order_more, none_done}
use Rattle.journal.proofs.writing.order_text.Goals as goal
use Rattle.journal.proofs.writing.order_text.Goals.{in-Some+in-Some-thread+in_ok-last, in-Some+in_default-thread, in_default}

pub entries-init : goal.entries-init
entries-init c = rw (c.new-text.ensures.bytes) starts

pub entries-preserved : goal.entries-preserved
entries-preserved c =
    let es = c.args.journal.now.items in
    let i = c.entries.entry-index in
    let e = c.entry-item.result in
    let before = order (take i es) in
    let low = subst (λ (xs : List _). i < length xs) c.as_slice-entry-items.ensures c.entries-test.true in
    let is = c.entry-item.is ∙ ap (λ (xs : List _). slice_index_or xs i e) c.as_slice-entry-items.ensures in
    let thread : c.entry.inside.thread ≡ e.thread = ap (λ (x : EntryView). x.thread) c.entry.view_is in
    let done : c.entry.inside.done ≡ e.done = ap (λ (x : EntryView). x.done) c.entry.view_is in
    let more : order (take (i + 1) es) ≡ before ++ turn_of c.entry.inside.thread c.entry.inside.done [] = rw (thread, done) (order_more es i e low is) in
    elim c.match-entry.branch [
      | in-Some+in-Some-thread+in_ok-last w ↦ rw (more, w.text-is, w.last-is, w.in-Some.is, w.in-Some-thread.is) (w.in_ok-last.ensures before c.entries.invariant)
      | in-Some+in_default-thread w ↦ rw (more, w.text-is, w.last-is, w.in_default-thread.is, append-nil before) c.entries.invariant
      | in_default w ↦ rw (more, w.text-is, w.last-is, none_done c.entry.inside.thread c.entry.inside.done [] w.in_default.is, append-nil before) c.entries.invariant
    ]
