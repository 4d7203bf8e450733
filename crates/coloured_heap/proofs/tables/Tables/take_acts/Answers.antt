use Rattle.std.proofs.Common.{arith, ◌≡◌, ◌+◌, ◌∙◌, List, Bool, true, false, None, drop, sym, ap, subst}
use Rattle.std.specs.Prelude.{if◌then◌else◌}
use Rattle.std.proofs.lemmas.List.{drop_all}
use Rattle.journal.specs.View.{EntryView}
use Rattle.journal.specs.declared.act.Act.{Act}
use Rattle.coloured_heap.specs.Changes.{after_act}
use Rattle.coloured_heap.specs.Legal.{acts_after}
use Rattle.coloured_heap.specs.Rules.{allows}
use Rattle.coloured_heap.specs.Tables.{Leads}
use Rattle.coloured_heap.specs.contracts.keys.WishPartialEq.TheImpl.{eq-value}
use Rattle.coloured_heap.proofs.Entering.{act_next, none_dropped}
use Rattle.coloured_heap.proofs.tables.Tables.take_acts.Goals as goal

pub acts-init : goal.acts-init
acts-init c s h =
    (s, h, ap (λ (more : List Act). acts_after c.args.options.now c.args.entry.now more s) (sym (none_dropped c.as_slice-act-items.result.now)))

pub returns-then-not-allows : goal.returns-then-not-allows
returns-then-not-allows c s h =
    let o = c.args.options.now in
    let e = c.args.entry.now in
    let items = c.as_slice-act-items.result.now in
    let k = c.acts.invariant s h in
    let refused : allows o e k.0 c.act-item.result ≡ false = sym (c.allows.ensures k.0 k.1) ∙ c.if-not-allows.true in
    let next = act_next o e items c.acts.act-index c.act-item.result k.0 c.acts-test.true c.act-item.is in
    let none : acts_after o e items s ≡ None = k.2 ∙ next ∙ ap (λ (b : Bool). if b then acts_after o e (drop (c.acts.act-index + 1) items) (after_act e k.0 c.act-item.result) else None) refused in
    let same = c.as_slice-act-items.ensures ∙ ap (λ (x : EntryView). x.acts) c.entry.view_is in
    subst (Leads eq-value.it c.acts.self false) (sym none ∙ ap (λ (more : List Act). acts_after o e more s) same) tt

pub acts-preserved : goal.acts-preserved
acts-preserved c s h =
    let o = c.args.options.now in
    let e = c.args.entry.now in
    let items = c.as_slice-act-items.result.now in
    let k = c.acts.invariant s h in
    let allowed : allows o e k.0 c.act-item.result ≡ true = sym (c.allows.ensures k.0 k.1) ∙ c.if-not-allows.false in
    let next = act_next o e items c.acts.act-index c.act-item.result k.0 c.acts-test.true c.act-item.is in
    (after_act e k.0 c.act-item.result, c.in_ok-take.ensures k.0 k.1, k.2 ∙ next ∙ ap (λ (b : Bool). if b then acts_after o e (drop (c.acts.act-index + 1) items) (after_act e k.0 c.act-item.result) else None) allowed)

pub returns : goal.returns
returns c s h =
    let o = c.args.options.now in
    let e = c.args.entry.now in
    let items = c.as_slice-act-items.result.now in
    let k = c.acts.invariant s h in
    let over = ap (λ (more : List Act). acts_after o e more k.0) (drop_all c.acts.act-index items (omega (arith, c.acts-test.false))) in
    let same = c.as_slice-act-items.ensures ∙ ap (λ (x : EntryView). x.acts) c.entry.view_is in
    subst (Leads eq-value.it c.acts.self true) (sym (k.2 ∙ over) ∙ ap (λ (more : List Act). acts_after o e more s) same) k.1
