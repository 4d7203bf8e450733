use Rattle.std.proofs.Common.{◌≡◌, ◌<◌, ◌^◌, true, None, Some, IsSome, option_map, sym, subst, ap, ◌∙◌, arith}
use Rattle.rank_map.specs.Places.{has_place, item_at}
use Rattle.rank_map.specs.Marks.{mark_if}
use Rattle.rank_map.proofs.MarkLemmas.{place_new}
use Rattle.server_model.specs.Work.{thread_in, set_thread, without_thread}
use Rattle.server_model.specs.Questions.{active_in}
use Rattle.server_parts.specs.Threads.{states}
use Rattle.server_parts.proofs.SeenLemmas.{mark_at}
use Rattle.server_parts.proofs.ThreadLemmas.{take_states, active_without}
use Rattle.server_parts.proofs.StandLemmas.{all_changed, stands_at, there_item, found_thread, back_again, taken_absent, found_number}
use Rattle.server_parts.proofs.threads.Threads.take.Goals as goal

pub leave-requires : goal.leave-requires
leave-requires c =
    let k = c.number-number.result in
    let stands : IsSome (thread_in (states c.self.inside.all) k) =
    subst (λ i. IsSome (thread_in (states c.self.inside.all) i)) (sym c.number-number.ensures.number) (subst (λ ps. IsSome (thread_in (states ps) c.args.thread)) (sym c.self.view_is) c.requires.there) in
    let here = stands_at k c.self.invariant stands in
    let item = sym c.take.ensures.item ∙ c.in-Some.is in
    record {
      marks = record {
        runnable = mark_at k (Some c.in-Some.taken) c.self.invariant.rises c.self.invariant.runnable_set here item ∙ ap (λ b. Some (mark_if b)) (sym c.kind_of.ensures.runnable);
        waiting = mark_at k (Some c.in-Some.taken) c.self.invariant.rises c.self.invariant.waiting_set here item ∙ ap (λ b. Some (mark_if b)) (sym c.kind_of.ensures.waiting);
        movable = mark_at k (Some c.in-Some.taken) c.self.invariant.rises c.self.invariant.movable_set here item ∙ ap (λ b. Some (mark_if b)) (sym c.kind_of.ensures.movable);
      };
    }

pub take-requires : goal.take-requires
take-requires c =
    let k = c.number-number.result in
    let stands : IsSome (thread_in (states c.self.inside.all) k) =
    subst (λ i. IsSome (thread_in (states c.self.inside.all) i)) (sym c.number-number.ensures.number) (subst (λ ps. IsSome (thread_in (states ps) c.args.thread)) (sym c.self.view_is) c.requires.there) in
    let here = stands_at k c.self.invariant stands in
    record { place = here }

pub unreachable-requires : goal.unreachable-requires
unreachable-requires c =
    let k = c.number-number.result in
    let stands : IsSome (thread_in (states c.self.inside.all) k) =
    subst (λ i. IsSome (thread_in (states c.self.inside.all) i)) (sym c.number-number.ensures.number) (subst (λ ps. IsSome (thread_in (states ps) c.args.thread)) (sym c.self.view_is) c.requires.there) in
    there_item k c.self.invariant stands (sym c.take.ensures.item ∙ c.in_default.is)

pub invariant_of-self : goal.invariant_of-self
invariant_of-self c =
    let k = c.number-number.result in
    let stands : IsSome (thread_in (states c.self.inside.all) k) =
    subst (λ i. IsSome (thread_in (states c.self.inside.all) i)) (sym c.number-number.ensures.number) (subst (λ ps. IsSome (thread_in (states ps) c.args.thread)) (sym c.self.view_is) c.requires.there) in
    let here = stands_at k c.self.invariant stands in
    let below : k < 2 ^ 40 = omega (arith, c.number-number.ensures.number, c.number-number.ensures.few) in
    let gone = ap states c.take.ensures.places ∙ take_states c.self.inside.all 0 (2 ^ 40) k c.self.invariant.rises c.self.invariant.numbered in
    let found = found_thread k c.self.invariant ∙ ap (option_map (λ v. v.state)) (sym c.take.ensures.item ∙ c.in-Some.is) in
    let many = active_without (states c.self.inside.all) k c.in-Some.taken.state found in
    let fewer = ap active_in gone in
    all_changed k None c.self.invariant here below tt c.take.ensures.places (ap (λ v. v.runnable) c.leave.ensures) (ap (λ v. v.waiting) c.leave.ensures) (ap (λ v. v.movable) c.leave.ensures)
    (omega (arith, many, fewer, c.self.invariant.count, c.active_in.ensures))

pub returns-clause-thread : goal.returns-clause-thread
returns-clause-thread c =
    ap (λ ps. thread_in (states ps) c.args.thread) (sym c.self.view_is) ∙ ap (thread_in (states c.self.inside.all)) (sym c.number-number.ensures.number)
    ∙ found_thread c.number-number.result c.self.invariant ∙ ap (option_map (λ v. v.state)) (sym c.take.ensures.item ∙ c.in-Some.is)

pub returns-clause-state : goal.returns-clause-state
returns-clause-state c =
    let k = c.number-number.result in
    ap states c.take.ensures.places ∙ take_states c.self.inside.all 0 (2 ^ 40) k c.self.invariant.rises c.self.invariant.numbered
    ∙ ap (without_thread (states c.self.inside.all)) c.number-number.ensures.number ∙ ap (λ ps. without_thread (states ps) c.args.thread) c.self.view_is

pub returns-clause-back : goal.returns-clause-back
returns-clause-back c =
    let k = c.number-number.result in
    let stands : IsSome (thread_in (states c.self.inside.all) k) =
    subst (λ i. IsSome (thread_in (states c.self.inside.all) i)) (sym c.number-number.ensures.number) (subst (λ ps. IsSome (thread_in (states ps) c.args.thread)) (sym c.self.view_is) c.requires.there)
    in
    λ t is. back_again k c.self.invariant stands c.take.ensures.places t (is ∙ sym c.number-number.ensures.number) ∙ ap (λ ps. set_thread (states ps) t) c.self.view_is

pub returns-clause-item : goal.returns-clause-item
returns-clause-item c = ap (λ ps. item_at ps c.args.thread) (sym c.self.view_is) ∙ ap (item_at c.self.inside.all) (sym c.number-number.ensures.number) ∙ sym c.take.ensures.item ∙ c.in-Some.is

pub returns-clause-room : goal.returns-clause-room
returns-clause-room c =
    let k = c.number-number.result in
    subst (λ i. has_place c.take.new.self i ≡ true) c.number-number.ensures.number (ap (λ ps. has_place ps k) c.take.ensures.places ∙ place_new c.self.inside.all k None)

pub returns-clause-absent : goal.returns-clause-absent
returns-clause-absent c =
    let k = c.number-number.result in
    let below : k < 2 ^ 40 = omega (arith, c.number-number.ensures.number, c.number-number.ensures.few) in
    subst (λ i. thread_in (states c.take.new.self) i ≡ None) c.number-number.ensures.number (taken_absent k c.self.invariant below c.take.ensures.places)

pub returns-clause-number : goal.returns-clause-number
returns-clause-number c = found_number _ _ _ (returns-clause-thread c)

pub overflow_sub-self : goal.overflow_sub-self
overflow_sub-self c =
    let k = c.number-number.result in
    let found = found_thread k c.self.invariant ∙ ap (option_map (λ v. v.state)) (sym c.take.ensures.item ∙ c.in-Some.is) in
    let many = active_without (states c.self.inside.all) k c.in-Some.taken.state found in
    omega (arith, many, c.self.invariant.count, c.active_in.ensures)
