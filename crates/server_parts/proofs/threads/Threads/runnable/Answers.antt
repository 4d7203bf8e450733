use Rattle.std.proofs.Common.{◌≡◌, Some, true, sym, subst, ap, ◌∙◌}
use Rattle.std.specs.List.{slice_get}
use Rattle.server_model.specs.Events.{can_step, has_phase}
use Rattle.server_model.specs.Questions.{runnable_in}
use Rattle.server_model.specs.Work.{thread_in}
use Rattle.server_parts.specs.Threads.{states}
use Rattle.server_parts.proofs.StandLemmas.{runnable_at, runnable_stands, rank_below}
use Rattle.server_parts.proofs.threads.Threads.runnable.Goals as goal

pub from_number-requires : goal.from_number-requires
from_number-requires c = record { few = rank_below c.args.at c.in-Some.number c.self.invariant.runnable_set (sym c.runnable.ensures ∙ c.in-Some.is) }

pub returns-in-Some-clause-thread : goal.returns-in-Some-clause-thread
returns-in-Some-clause-thread c =
    ap Some c.from_number.ensures ∙ sym c.in-Some.is ∙ c.runnable.ensures ∙ runnable_at c.args.at c.self.invariant ∙ ap (λ ps. slice_get (runnable_in (states ps)) c.args.at) c.self.view_is

pub returns-in-Some-clause-stands : goal.returns-in-Some-clause-stands
returns-in-Some-clause-stands c =
    let stands = runnable_stands c.args.at c.in-Some.number c.self.invariant (sym c.runnable.ensures ∙ c.in-Some.is) in
    subst (λ ps. has_phase can_step (thread_in (states ps) c.from_number.result) ≡ true) c.self.view_is
    (subst (λ k. has_phase can_step (thread_in (states c.self.inside.all) k) ≡ true) (sym c.from_number.ensures) stands)

pub returns-in-None-clause-thread : goal.returns-in-None-clause-thread
returns-in-None-clause-thread c = sym c.in-None.is ∙ c.runnable.ensures ∙ runnable_at c.args.at c.self.invariant ∙ ap (λ ps. slice_get (runnable_in (states ps)) c.args.at) c.self.view_is
