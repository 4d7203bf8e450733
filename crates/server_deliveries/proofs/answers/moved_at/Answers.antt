use Rattle.std.proofs.Common.{◌≡◌, true, Some, None, sym, subst, ap, ◌∙◌}
use Rattle.rank_map.specs.Places.{has_place}
use Rattle.server_model.specs.Work.{thread_in}
use Rattle.server_model.specs.Objects.{deliver_moved}
use Rattle.server_parts.specs.Hands.{hand}
use Rattle.server_parts.specs.Sites.{site}
use Rattle.server_parts.specs.Threads.{states}
use Rattle.server_deliveries.proofs.DeliverLemmas.{at_done}
use Rattle.server_deliveries.proofs.answers.moved_at.Goals as goal

pub insert-requires-clause-room : goal.insert-requires-clause-room
insert-requires-clause-room c = subst (λ i. has_place c.take-here.new.self i ≡ true) (sym (c.deliver_moved.ensures.number ∙ ap (λ v. v.state.number) (c.deref_mut.ensures.value ∙ c.here.view_is) ∙ c.take-here.ensures.number)) c.take-here.ensures.room

pub insert-requires-clause-absent : goal.insert-requires-clause-absent
insert-requires-clause-absent c = subst (λ i. thread_in (states c.take-here.new.self) i ≡ None) (sym (c.deliver_moved.ensures.number ∙ ap (λ v. v.state.number) (c.deref_mut.ensures.value ∙ c.here.view_is) ∙ c.take-here.ensures.number)) c.take-here.ensures.absent

pub returns-clause-state : goal.returns-clause-state
returns-clause-state c =
    let back = c.insert.ensures.state ∙ c.take-here.ensures.back c.deliver_moved.new.thread.state (c.deliver_moved.ensures.number ∙ ap (λ v. v.state.number) (c.deref_mut.ensures.value ∙ c.here.view_is) ∙ c.take-here.ensures.number) in
    at_done c.args.thread (deliver_moved c.args.code.now.items c.args.old c.args.cell) (site c.args.work.now c.args.threads.now) c.deref_mut.result.now.state (hand c.deliver_moved.new.work c.deliver_moved.new.thread) (states c.insert.new.self) (c.take-here.ensures.thread ∙ ap (λ v. Some v.state) (sym (c.deref_mut.ensures.value ∙ c.here.view_is))) c.deliver_moved.ensures.state back
