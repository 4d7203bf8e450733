use Rattle.std.proofs.Common.{Some, option_map, sym, ap, ◌∙◌}
use Rattle.server_model.specs.Work.{thread_in}
use Rattle.server_parts.specs.Threads.{states}
use Rattle.server_parts.proofs.StandLemmas.{found_thread, then_state}
use Rattle.server_parts.proofs.threads.Threads.get.Goals as goal

pub returns-in-Some-clause-state : goal.returns-in-Some-clause-state
returns-in-Some-clause-state c =
    ap (λ v. option_map (λ v. v.state) (Some v)) c.get-in-Some.ensures ∙ ap (option_map (λ t. t.now.state)) (sym c.in-Some.is)
    ∙ then_state (λ t. t.now) c.get.result ∙ ap (option_map (λ v. v.state)) c.get.ensures ∙ sym (found_thread c.number.result c.self.invariant)
    ∙ ap (thread_in (states c.self.inside.all)) c.number.ensures.number ∙ ap (λ ps. thread_in (states ps) c.args.thread) c.self.view_is

pub returns-in-None-clause-state : goal.returns-in-None-clause-state
returns-in-None-clause-state c =
    ap (option_map (λ t. t.now.state)) (sym c.in-None.is)
    ∙ then_state (λ t. t.now) c.get.result ∙ ap (option_map (λ v. v.state)) c.get.ensures ∙ sym (found_thread c.number.result c.self.invariant)
    ∙ ap (thread_in (states c.self.inside.all)) c.number.ensures.number ∙ ap (λ ps. thread_in (states ps) c.args.thread) c.self.view_is
