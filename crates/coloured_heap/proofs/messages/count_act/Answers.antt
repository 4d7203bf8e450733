use Rattle.std.proofs.Common.{rules, ◌≡◌, ◌==◌, ◌+◌, ◌<◌, ◌^◌, ◌∙◌, ◌∷◌, [], Some, None, true, false, subst}
use Rattle.coloured_heap.specs.Figures.{kinds}
use Rattle.coloured_heap.specs.Messages.{as_sending, one_of, sent}
use Rattle.coloured_heap.specs.Sends.{sends}
use Rattle.coloured_heap.proofs.Counted.{on_err, a_message, a_message_each, no_message, own_message}
use Rattle.coloured_heap.proofs.Sums.{tot_same}
use Rattle.coloured_heap.proofs.messages.count_act.Goals as goal

pub returns-then-target-here-clause-counted : goal.returns-then-target-here-clause-counted
returns-then-target-here-clause-counted c f h =
    let its : Some (as_sending (c.in-Some.kind, c.in-Some.target)) ≡ sends c.args.act.now = search rules in
    let own : (c.in-Some.target == c.args.here) ≡ true = search rules in
    h ∙ own_message c.args.here c.args.act.now f c.in-Some.kind c.in-Some.target its own

pub returns-in_ok-count_kind-in-Some-clause-counted : goal.returns-in_ok-count_kind-in-Some-clause-counted
returns-in_ok-count_kind-in-Some-clause-counted c f h =
    let its : Some (as_sending (c.in-Some.kind, c.in-Some.target)) ≡ sends c.args.act.now = search rules in
    let away : (c.in-Some.target == c.args.here) ≡ false = search rules in
    c.in_ok-count_kind-in-Some.ensures.counted f h ∙ a_message c.args.here c.args.act.now f c.in-Some.kind c.in-Some.target its away

pub returns-in-None-clause-counted : goal.returns-in-None-clause-counted
returns-in-None-clause-counted c f h =
    let none : None ≡ sends c.args.act.now = search rules in
    h ∙ no_message c.args.here c.args.act.now f none

pub returns-in_err-count_kind-in-Some-clause-full : goal.returns-in_err-count_kind-in-Some-clause-full
returns-in_err-count_kind-in-Some-clause-full c = on_err c.from_residual.result (λ f h.
    let its : Some (as_sending (c.in-Some.kind, c.in-Some.target)) ≡ sends c.args.act.now = search rules in
    let away : (c.in-Some.target == c.args.here) ≡ false = search rules in
    subst (λ n. 2 ^ 63 < n) (tot_same (λ k. f k + one_of c.in-Some.kind k) (λ k. f k + sent c.args.here (c.args.act.now ∷ []) k) kinds (a_message_each c.args.here c.args.act.now f c.in-Some.kind c.in-Some.target its away)) (c.in_err-count_kind-in-Some.ensures.full f h))
