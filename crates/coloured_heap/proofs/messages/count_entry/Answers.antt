use Rattle.std.proofs.Common.{arith, ◌≡◌, ◌≤◌, ◌<◌, ◌+◌, ◌^◌, ◌∙◌, List, [], ◌∷◌, drop, ap}
use Rattle.std.proofs.lemmas.List.{drop_all}
use Rattle.fr_base.specs.Lists.{tot}
use Rattle.journal.specs.View.{EntryView}
use Rattle.journal.specs.declared.act.Act.{Act}
use Rattle.coloured_heap.specs.Figures.{kinds}
use Rattle.coloured_heap.specs.Messages.{sent}
use Rattle.coloured_heap.proofs.Entering.{none_dropped}
use Rattle.coloured_heap.proofs.Counted.{on_err, same_counts, sent_at}
use Rattle.coloured_heap.proofs.Sums.{tot_most}
use Rattle.coloured_heap.proofs.messages.count_entry.Goals as goal

pub acts-init : goal.acts-init
acts-init c f h =
    (f, h, λ k. ap (λ (xs : List Act). f k + sent c.args.entry.now.server xs k) (none_dropped c.as_slice-act-items.result.now))

pub acts-preserved : goal.acts-preserved
acts-preserved c f h =
    let here = c.args.entry.now.server in
    let items = c.as_slice-act-items.result.now in
    let a = c.act-item.result in
    let k = c.acts.invariant f h in
    let its = ap (λ (x : EntryView). x.server) c.entry.view_is in (
      (λ j. k.0 j + sent here (a ∷ []) j),
      (rw its at (c.in_ok-count_act.ensures.counted k.0 k.1)),
      λ j.
          let next = sent_at here items c.acts.act-index a j c.acts-test.true c.act-item.is in
          let all = k.2 j in
          omega (arith, next, all),
    )

pub returns-clause-counted : goal.returns-clause-counted
returns-clause-counted c f h =
    let here = c.args.entry.now.server in
    let items = c.as_slice-act-items.result.now in
    let k = c.acts.invariant f h in
    let same = c.as_slice-act-items.ensures ∙ ap (λ (x : EntryView). x.acts) c.entry.view_is in
    k.1 ∙ same_counts k.0 (λ j. f j + sent here c.args.entry.now.acts j) (λ j.
    let over : sent here (drop c.acts.act-index items) j ≡ 0 = ap (λ (xs : List Act). sent here xs j) (drop_all c.acts.act-index items (omega (arith, c.acts-test.false))) in
    let all = k.2 j in
    let acts : sent here items j ≡ sent here c.args.entry.now.acts j = ap (λ (xs : List Act). sent here xs j) same in
    omega (arith, over, all, acts)) kinds

pub returns-in_err-count_act-clause-full : goal.returns-in_err-count_act-clause-full
returns-in_err-count_act-clause-full c = on_err c.from_residual.result (λ f h.
    let here = c.args.entry.now.server in
    let items = c.as_slice-act-items.result.now in
    let a = c.act-item.result in
    let k = c.acts.invariant f h in
    let its = ap (λ (x : EntryView). x.server) c.entry.view_is in
    let same = c.as_slice-act-items.ensures ∙ ap (λ (x : EntryView). x.acts) c.entry.view_is in
    let over : 2 ^ 63 < tot (λ j. k.0 j + sent here (a ∷ []) j) kinds = rw its at (c.in_err-count_act.ensures.full k.0 k.1) in
    let most : tot (λ j. k.0 j + sent here (a ∷ []) j) kinds ≤ tot (λ j. f j + sent here c.args.entry.now.acts j) kinds =
    tot_most (λ j. k.0 j + sent here (a ∷ []) j) (λ j. f j + sent here c.args.entry.now.acts j) kinds (λ j.
    let next = sent_at here items c.acts.act-index a j c.acts-test.true c.act-item.is in
    let all = k.2 j in
    let acts : sent here items j ≡ sent here c.args.entry.now.acts j = ap (λ (xs : List Act). sent here xs j) same in
    omega (arith, next, all, acts)) in
    omega (arith, over, most))
