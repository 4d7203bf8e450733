use Rattle.std.proofs.Common.{arith, ◌≡◌, ◌≤◌, ◌<◌, ◌+◌, ◌^◌, ◌∙◌, List, drop, ap}
use Rattle.std.proofs.lemmas.List.{drop_all}
use Rattle.fr_base.specs.Lists.{tot}
use Rattle.journal.specs.View.{EntryView}
use Rattle.coloured_heap.specs.Figures.{kinds}
use Rattle.coloured_heap.specs.Messages.{sent}
use Rattle.coloured_heap.specs.Sends.{count}
use Rattle.coloured_heap.proofs.Entering.{none_dropped}
use Rattle.coloured_heap.proofs.Counted.{on_err, same_counts, count_at_entry}
use Rattle.coloured_heap.proofs.Sums.{kinds_add_up, tot_most}
use Rattle.coloured_heap.proofs.messages.message_counts.Goals as goal

pub entries-init : goal.entries-init
entries-init c = (
  (λ k. 0),
  c.new-tally.ensures,
  λ k.
      let whole : count (drop 0 c.as_slice-entry-items.result.now) k ≡ count c.as_slice-entry-items.result.now k = ap (λ (es : List EntryView). count es k) (none_dropped c.as_slice-entry-items.result.now) in
      omega (arith, whole),
)

pub entries-preserved : goal.entries-preserved
entries-preserved c =
    let items = c.as_slice-entry-items.result.now in
    let e = c.entry-item.result in
    let k = c.entries.invariant in (
      (λ j. k.0 j + sent e.server e.acts j),
      c.in_ok-count_entry.ensures.counted k.0 k.1,
      λ j.
          let next = count_at_entry items c.entries.entry-index e j c.entries-test.true c.entry-item.is in
          let all = k.2 j in
          omega (arith, next, all),
    )

pub returns-clause-counts : goal.returns-clause-counts
returns-clause-counts c =
    let items = c.as_slice-entry-items.result.now in
    let k = c.entries.invariant in
    k.1 ∙ same_counts k.0 (count c.args.journal.now.items) (λ j.
    let over : count (drop c.entries.entry-index items) j ≡ 0 = ap (λ (es : List EntryView). count es j) (drop_all c.entries.entry-index items (omega (arith, c.entries-test.false))) in
    let all = k.2 j in
    let whole : count items j ≡ count c.args.journal.now.items j = ap (λ (es : List EntryView). count es j) c.as_slice-entry-items.ensures in
    omega (arith, over, all, whole)) kinds

pub returns-in_err-count_entry-clause-refused : goal.returns-in_err-count_entry-clause-refused
returns-in_err-count_entry-clause-refused c =
    let items = c.as_slice-entry-items.result.now in
    let e = c.entry-item.result in
    let k = c.entries.invariant in
    let over : 2 ^ 63 < tot (λ j. k.0 j + sent e.server e.acts j) kinds = c.in_err-count_entry.ensures.full k.0 k.1 in
    let most : tot (λ j. k.0 j + sent e.server e.acts j) kinds ≤ tot (count c.args.journal.now.items) kinds =
    tot_most (λ j. k.0 j + sent e.server e.acts j) (count c.args.journal.now.items) kinds (λ j.
    let next = count_at_entry items c.entries.entry-index e j c.entries-test.true c.entry-item.is in
    let all = k.2 j in
    let whole : count items j ≡ count c.args.journal.now.items j = ap (λ (es : List EntryView). count es j) c.as_slice-entry-items.ensures in
    omega (arith, next, all, whole)) in
    let sum = kinds_add_up c.args.journal.now.items in
    on_err c.from_residual.result (omega (arith, over, most, sum))
