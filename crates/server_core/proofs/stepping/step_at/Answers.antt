use Rattle.std.proofs.Common.{rules, ◌≡◌, true, None, Some, sym, subst, ap, ◌∙◌, slice_get}
use Rattle.rank_map.specs.Places.{has_place}
use Rattle.server_model.specs.Work.{thread_in}
use Rattle.server_parts.specs.Hands.{hand}
use Rattle.server_core.specs.Steps.{stepped}
use Rattle.server_parts.specs.Threads.{states}
use Rattle.server_core.proofs.StepLemmas.{step_named, stepped_there}
use Rattle.server_core.proofs.stepping.step_at.Goals as goal

pub insert-requires-clause-room : goal.insert-requires-clause-room
insert-requires-clause-room c =
    let seen = c.deref_mut.ensures.value ∙ c.here.view_is in
    let number : c.step-names.new.thread.state.number ≡ c.args.thread =
    step_named c.args.servers c.in-Some.instr.now (hand c.args.work.now c.deref_mut.result.now) (stepped c.step-names.result c.step-names.new.work c.step-names.new.thread) c.args.thread (ap (λ v. v.state.number) seen ∙ c.take-here.ensures.number) c.step-names.ensures.state in
    subst (λ i. has_place c.take-here.new.self i ≡ true) (sym number) c.take-here.ensures.room

pub insert-requires-clause-absent : goal.insert-requires-clause-absent
insert-requires-clause-absent c =
    let seen = c.deref_mut.ensures.value ∙ c.here.view_is in
    let number : c.step-names.new.thread.state.number ≡ c.args.thread =
    step_named c.args.servers c.in-Some.instr.now (hand c.args.work.now c.deref_mut.result.now) (stepped c.step-names.result c.step-names.new.work c.step-names.new.thread) c.args.thread (ap (λ v. v.state.number) seen ∙ c.take-here.ensures.number) c.step-names.ensures.state in
    subst (λ i. thread_in (states c.take-here.new.self) i ≡ None) (sym number) c.take-here.ensures.absent

pub returns : goal.returns
returns c =
    let seen = c.deref_mut.ensures.value ∙ c.here.view_is in
    let number : c.step-names.new.thread.state.number ≡ c.args.thread =
    step_named c.args.servers c.in-Some.instr.now (hand c.args.work.now c.deref_mut.result.now) (stepped c.step-names.result c.step-names.new.work c.step-names.new.thread) c.args.thread (ap (λ v. v.state.number) seen ∙ c.take-here.ensures.number) c.step-names.ensures.state in
    let there : slice_get c.args.code.now.items c.take-here.result.state.pc ≡ Some c.in-Some.instr.now = search rules in
    let back = c.insert.ensures.state ∙ c.take-here.ensures.back c.step-names.new.thread.state number in
    record {
      state =
          λ n.
          stepped_there n c.args.code.now.items c.args.servers c.args.thread c.args.work.now c.step-names.new.work c.args.threads.now c.insert.new.self c.in-Some.instr.now c.deref_mut.result.now c.step-names.new.thread c.step-names.result
          (c.take-here.ensures.thread ∙ ap (λ v. Some v.state) (sym seen)) (subst (λ v. slice_get c.args.code.now.items v.state.pc ≡ Some c.in-Some.instr.now) (sym seen) there) c.step-names.ensures.state number back;
    }
