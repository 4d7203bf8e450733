use Rattle.std.proofs.Common.{Some, [], option_map, sym, ap, ◌∙◌}
use Rattle.std.specs.List.{slice_get}
use Rattle.server_model.specs.Questions.{waits_among}
use Rattle.server_parts.specs.Threads.{states}
use Rattle.server_parts.proofs.StandLemmas.{rank_below}
use Rattle.server_parts.proofs.WaitLemmas.{wait_in, wait_rank, wait_end, wait_same, no_wait}
use Rattle.server_parts.proofs.threads.Threads.waits_at.Goals as goal

pub returns-in_default : goal.returns-in_default
returns-in_default c = sym (wait_end c.args.at c.self.invariant (sym c.waiting.ensures ∙ c.in_default.is)) ∙ ap (λ ps. slice_get (waits_among (states ps) []) c.args.at) c.self.view_is

pub from_number-requires : goal.from_number-requires
from_number-requires c = record { few = rank_below c.args.at c.in-Some.number c.self.invariant.waiting_set (sym c.waiting.ensures ∙ c.in-Some.is) }

pub unreachable-requires : goal.unreachable-requires
unreachable-requires c =
    let waits = wait_rank c.args.at c.in-Some.number c.self.invariant (sym c.waiting.ensures ∙ c.in-Some.is) in
    let item = sym (ap (option_map (λ x. x.now)) c.in-Some-get.is) ∙ c.get.ensures in
    no_wait waits (ap wait_in (sym item) ∙ sym c.wait_of.ensures ∙ c.in-None-wait_of.is)

pub unreachable-requires-in-None : goal.unreachable-requires-in-None
unreachable-requires-in-None c =
    let waits = wait_rank c.args.at c.in-Some.number c.self.invariant (sym c.waiting.ensures ∙ c.in-Some.is) in
    let item = sym (ap (option_map (λ x. x.now)) c.in-None.is) ∙ c.get.ensures in
    no_wait waits (ap wait_in (sym item))

pub returns : goal.returns
returns c =
    let waits = wait_rank c.args.at c.in-Some.number c.self.invariant (sym c.waiting.ensures ∙ c.in-Some.is) in
    let item = sym (ap (option_map (λ x. x.now)) c.in-Some-get.is) ∙ c.get.ensures in
    let same = sym c.in-Some-wait_of.is ∙ c.wait_of.ensures ∙ wait_same waits item in
    ap (λ k. Some (k, c.in-Some-wait_of.wait)) c.from_number.ensures ∙ ap (option_map (λ w. (c.in-Some.number, w))) same ∙ sym waits.at
    ∙ ap (λ ps. slice_get (waits_among (states ps) []) c.args.at) c.self.view_is
