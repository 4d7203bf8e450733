use Rattle.std.proofs.Common.{◌≡◌, ◌<◌, ◌^◌, true, [], ◌∷◌, Some, None, sym, subst, ap, ◌∙◌, arith}
use Rattle.rank_map.specs.Places.{has_place, with_place}
use Rattle.rank_map.specs.Marks.{mark_if}
use Rattle.server_model.specs.Work.{thread_in, with_thread}
use Rattle.server_model.specs.Questions.{active_in}
use Rattle.server_parts.specs.Threads.{states}
use Rattle.server_parts.proofs.ThreadLemmas.{put_states, active_with, active_few}
use Rattle.server_parts.proofs.SeenLemmas.{mark_at}
use Rattle.server_parts.proofs.StandLemmas.{all_changed, absent_item, active_below}
use Rattle.server_parts.proofs.threads.Threads.insert.Goals as goal

pub invariant_of-self : goal.invariant_of-self
invariant_of-self c =
    let k = c.number-number.result in
    let below : k < 2 ^ 40 = omega (arith, c.number-number.ensures.number, c.number-number.ensures.few) in
    let number : c.args.thread.state.number ≡ k = sym (c.number-number.ensures.number ∙ c.number.ensures) in
    let here : has_place c.self.inside.all k ≡ true = subst (λ i. has_place c.self.inside.all i ≡ true) number (subst (λ ps. has_place ps c.args.thread.state.number ≡ true) (sym c.self.view_is) c.requires.room) in
    let absent : thread_in (states c.self.inside.all) k ≡ None =
    subst (λ i. thread_in (states c.self.inside.all) i ≡ None) number (subst (λ ps. thread_in (states ps) c.args.thread.state.number ≡ None) (sym c.self.view_is) c.requires.absent) in
    let placed = ap states c.insert.ensures.places ∙ put_states c.self.inside.all 0 (2 ^ 40) k c.args.thread c.self.invariant.rises c.self.invariant.numbered number (absent_item k c.self.invariant absent) in
    let many = ap active_in placed ∙ active_with (states c.self.inside.all) c.args.thread.state in
    all_changed k (Some c.args.thread) c.self.invariant here below number c.insert.ensures.places
    (ap (λ v. v.runnable) c.come.ensures ∙ ap (λ b. with_place c.self.inside.marks.runnable k (Some (mark_if b))) c.kind_of.ensures.runnable)
    (ap (λ v. v.waiting) c.come.ensures ∙ ap (λ b. with_place c.self.inside.marks.waiting k (Some (mark_if b))) c.kind_of.ensures.waiting)
    (ap (λ v. v.movable) c.come.ensures ∙ ap (λ b. with_place c.self.inside.marks.movable k (Some (mark_if b))) c.kind_of.ensures.movable)
    (omega (arith, many, c.self.invariant.count, c.active_in.ensures))

pub returns-clause-state : goal.returns-clause-state
returns-clause-state c =
    let k = c.number-number.result in
    let number : c.args.thread.state.number ≡ k = sym (c.number-number.ensures.number ∙ c.number.ensures) in
    let absent : thread_in (states c.self.inside.all) k ≡ None =
    subst (λ i. thread_in (states c.self.inside.all) i ≡ None) number (subst (λ ps. thread_in (states ps) c.args.thread.state.number ≡ None) (sym c.self.view_is) c.requires.absent) in
    ap states c.insert.ensures.places
    ∙ put_states c.self.inside.all 0 (2 ^ 40) k c.args.thread c.self.invariant.rises c.self.invariant.numbered number (absent_item k c.self.invariant absent)
    ∙ ap (λ ps. with_thread (states ps) c.args.thread.state) c.self.view_is

pub come-requires : goal.come-requires
come-requires c =
    let k = c.number-number.result in
    let number : c.args.thread.state.number ≡ k = sym (c.number-number.ensures.number ∙ c.number.ensures) in
    let here : has_place c.self.inside.all k ≡ true = subst (λ i. has_place c.self.inside.all i ≡ true) number (subst (λ ps. has_place ps c.args.thread.state.number ≡ true) (sym c.self.view_is) c.requires.room) in
    let absent : thread_in (states c.self.inside.all) k ≡ None =
    subst (λ i. thread_in (states c.self.inside.all) i ≡ None) number (subst (λ ps. thread_in (states ps) c.args.thread.state.number ≡ None) (sym c.self.view_is) c.requires.absent) in
    record {
      marks = record {
        runnable = mark_at k None c.self.invariant.rises c.self.invariant.runnable_set here (absent_item k c.self.invariant absent);
        waiting = mark_at k None c.self.invariant.rises c.self.invariant.waiting_set here (absent_item k c.self.invariant absent);
        movable = mark_at k None c.self.invariant.rises c.self.invariant.movable_set here (absent_item k c.self.invariant absent);
      };
    }

pub overflow_add-self : goal.overflow_add-self
overflow_add-self c = let below = active_below c.self.invariant in let one = active_few (c.args.thread.state ∷ []) in omega (arith, below, one, c.active_in.ensures)
