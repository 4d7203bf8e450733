use Rattle.std.proofs.Common.{rules, ◌≡◌, [], Some, sym, ap, ◌∙◌}
use Rattle.server_model.specs.Events.{does}
use Rattle.server_deliveries.specs.Standing.{standing}
use Rattle.server_core.proofs.ActLemmas.{ends_step, leaves}
use Rattle.server_model.specs.declared.event.What.TheVariants as what
use Rattle.server_core.proofs.server.Server.act.Goals as goal

pub returns-in-Step-clause-done : goal.returns-in-Step-clause-done
returns-in-Step-clause-done c =
    let w = c.deref_mut-work.result.now in
    let ts = c.deref_mut-threads.result.now in
    let n = c.self.inside.events in
    let code : c.args.self.now.code ≡ c.deref.result.now.items = search rules in
    let options : c.args.self.now.options ≡ c.self.inside.options = sym (ap (λ v. v.options) c.self.view_is) in
    let work : c.self.inside.work.value ≡ w = search rules in
    let threads : c.self.inside.threads.value ≡ ts = search rules in
    let state : c.args.self.now.state ≡ standing w ts n =
    sym (ap (λ v. v.state) c.self.view_is) ∙ ap (λ x. standing x c.self.inside.threads.value n) work ∙ ap (λ x. standing w x n) threads in
    let kind : c.args.what ≡ what.Step c.in-Step.thread = c.in-Step.is in
    let acts : w.state.acts ≡ [] = ap (λ x. x.state.acts) (sym work) ∙ c.self.invariant.0 in
    let labels : w.state.labels ≡ [] = ap (λ x. x.state.labels) (sym work) ∙ c.self.invariant.1 in
    let step =
    ends_step c.deref.result.now.items c.self.inside.options.servers c.in-Step.thread w ts n _ acts labels (c.step_at-done.ensures.state n) in
    let entry =
    leaves n (Some c.in-Step.thread) c.step_at-done.result c.step_at-done.new.work c.entry.new.self c.step_at-done.new.threads c.entry.result c.entry.ensures.entry c.entry.ensures.rest in
    ap (λ x. does x c.args.self.now.options c.args.self.now.state c.args.what) code
    ∙ ap (λ x. does c.deref.result.now.items x c.args.self.now.state c.args.what) options
    ∙ ap (λ x. does c.deref.result.now.items c.self.inside.options x c.args.what) state
    ∙ ap (λ x. does c.deref.result.now.items c.self.inside.options (standing w ts n) x) kind
    ∙ step
    ∙ ap Some entry
