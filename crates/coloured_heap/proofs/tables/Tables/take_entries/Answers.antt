use Rattle.std.proofs.Common.{arith, ◌+◌, ◌∙◌, ℕ, List, Bool, Option, Some, drop, refl, sym, ap, subst}
use Rattle.std.proofs.lemmas.List.{drop_all}
use Rattle.journal.specs.View.{EntryView}
use Rattle.coloured_heap.specs.Heap.{Coloured}
use Rattle.coloured_heap.specs.Legal.{entry_after, illegal_from, otherwise}
use Rattle.coloured_heap.specs.Tables.{Leads}
use Rattle.coloured_heap.specs.contracts.keys.WishPartialEq.TheImpl.{eq-value}
use Rattle.coloured_heap.proofs.Entering.{entry_next, leads_nowhere, leads_on, none_dropped}
use Rattle.coloured_heap.proofs.tables.Tables.take_entries.Goals as goal

pub entries-init : goal.entries-init
entries-init c = ((λ s h. (s, h, ap (λ (es : List EntryView). illegal_from c.args.options.now s 0 es) (sym (none_dropped c.as_slice-entry-items.result.now)))), refl)

pub returns-then-not-legal-clause-refused : goal.returns-then-not-legal-clause-refused
returns-then-not-legal-clause-refused c s h =
    let o = c.args.options.now in
    let items = c.as_slice-entry-items.result.now in
    let i = c.entries.entry-index in
    let e = c.entry-item.result in
    let k = c.entries.invariant.0 s h in
    let r = entry_after o k.0 e in
    let none = leads_nowhere eq-value.it c.enter.new.self r (subst (λ (b : Bool). Leads eq-value.it c.enter.new.self b r) c.if-not-legal.true (c.in-Ok.ensures k.0 k.1)) in
    let stops = ap (λ (x : Option Coloured). otherwise x i (λ after. illegal_from o after (i + 1) (drop (i + 1) items))) none in
    ap (λ (es : List EntryView). illegal_from o s 0 es) (sym c.as_slice-entry-items.ensures) ∙ k.2 ∙ entry_next o items i e k.0 c.entries-test.true c.entry-item.is ∙ stops ∙ ap (λ (n : ℕ). Some n) (sym c.entries.invariant.1)

pub entries-preserved : goal.entries-preserved
entries-preserved c =
    let o = c.args.options.now in
    let items = c.as_slice-entry-items.result.now in
    let i = c.entries.entry-index in
    let e = c.entry-item.result in (
      (λ s h.
          let k = c.entries.invariant.0 s h in
          let r = entry_after o k.0 e in
          let next = leads_on eq-value.it c.enter.new.self r (subst (λ (b : Bool). Leads eq-value.it c.enter.new.self b r) c.if-not-legal.false (c.in-Ok.ensures k.0 k.1)) in
          let goes = ap (λ (x : Option Coloured). otherwise x i (λ after. illegal_from o after (i + 1) (drop (i + 1) items))) next.1 in
          (next.0, next.2, k.2 ∙ entry_next o items i e k.0 c.entries-test.true c.entry-item.is ∙ goes)),
      ap (λ (n : ℕ). n + 1) c.entries.invariant.1,
    )

pub returns-clause-legal : goal.returns-clause-legal
returns-clause-legal c s h =
    let o = c.args.options.now in
    let items = c.as_slice-entry-items.result.now in
    let i = c.entries.entry-index in
    let k = c.entries.invariant.0 s h in
    ap (λ (es : List EntryView). illegal_from o s 0 es) (sym c.as_slice-entry-items.ensures) ∙ k.2 ∙ ap (λ (es : List EntryView). illegal_from o k.0 i es) (drop_all i items (omega (arith, c.entries-test.false)))
