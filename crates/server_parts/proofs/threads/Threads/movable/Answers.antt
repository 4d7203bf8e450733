use Rattle.std.proofs.Common.{◌≡◌, Some, true, sym, subst, ap, ◌∙◌}
use Rattle.server_model.specs.Events.{is_ready, has_phase}
use Rattle.server_model.specs.Questions.{movable_in}
use Rattle.server_model.specs.Work.{thread_in}
use Rattle.server_parts.specs.Threads.{states}
use Rattle.server_parts.proofs.StandLemmas.{movable_first, movable_stands, rank_below}
use Rattle.server_parts.proofs.threads.Threads.movable.Goals as goal

pub from_number-requires : goal.from_number-requires
from_number-requires c = record { few = rank_below 0 c.in-Some.number c.self.invariant.movable_set (sym c.movable.ensures ∙ c.in-Some.is) }

pub returns-in-Some-clause-thread : goal.returns-in-Some-clause-thread
returns-in-Some-clause-thread c = ap Some c.from_number.ensures ∙ sym c.in-Some.is ∙ c.movable.ensures ∙ movable_first c.self.invariant ∙ ap (λ ps. movable_in (states ps)) c.self.view_is

pub returns-in-Some-clause-stands : goal.returns-in-Some-clause-stands
returns-in-Some-clause-stands c =
    let stands = movable_stands 0 c.in-Some.number c.self.invariant (sym c.movable.ensures ∙ c.in-Some.is) in
    subst (λ ps. has_phase is_ready (thread_in (states ps) c.from_number.result) ≡ true) c.self.view_is
    (subst (λ k. has_phase is_ready (thread_in (states c.self.inside.all) k) ≡ true) (sym c.from_number.ensures) stands)

pub returns-in-None-clause-thread : goal.returns-in-None-clause-thread
returns-in-None-clause-thread c = sym c.in-None.is ∙ c.movable.ensures ∙ movable_first c.self.invariant ∙ ap (λ ps. movable_in (states ps)) c.self.view_is
