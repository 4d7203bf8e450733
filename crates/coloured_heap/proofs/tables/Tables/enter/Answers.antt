use Rattle.std.proofs.Common.{◌≡◌, ◌∙◌, Bool, true, sym, subst}
use Rattle.coloured_heap.specs.Legal.{acts_after, is_placed}
use Rattle.coloured_heap.specs.Tables.{Leads}
use Rattle.coloured_heap.specs.contracts.keys.WishPartialEq.TheImpl.{eq-value}
use Rattle.coloured_heap.proofs.Entering.{gone_on, leads_nowhere, leads_on, misplaced, stopped}
use Rattle.coloured_heap.proofs.tables.Tables.enter.Goals as goal

pub returns-then-not-is_placed : goal.returns-then-not-is_placed
returns-then-not-is_placed c s h = misplaced eq-value.it c.args.self.now c.args.options.now c.args.entry.now s (sym (c.is_placed.ensures.placed s h) ∙ c.if-not-is_placed.true)

pub returns-then-not-legal : goal.returns-then-not-legal
returns-then-not-legal c s h =
    let o = c.args.options.now in
    let e = c.args.entry.now in
    let placed : is_placed o s e ≡ true = sym (c.is_placed.ensures.placed s h) ∙ c.if-not-is_placed.false in
    let r = acts_after o e e.acts s in
    stopped eq-value.it c.take_acts.new.self o e s placed (leads_nowhere eq-value.it c.take_acts.new.self r (subst (λ (b : Bool). Leads eq-value.it c.take_acts.new.self b r) c.if-not-legal.true (c.in_ok-legal.ensures s h)))

pub returns : goal.returns
returns c s h =
    let o = c.args.options.now in
    let e = c.args.entry.now in
    let placed : is_placed o s e ≡ true = sym (c.is_placed.ensures.placed s h) ∙ c.if-not-is_placed.false in
    let r = acts_after o e e.acts s in
    let next = leads_on eq-value.it c.take_acts.new.self r (subst (λ (b : Bool). Leads eq-value.it c.take_acts.new.self b r) c.if-not-legal.false (c.in_ok-legal.ensures s h)) in
    gone_on eq-value.it c.settle.new.self o e s next.0 c.in_ok-settled.settled placed next.1 (c.in_ok-settled.ensures next.0 next.2)
