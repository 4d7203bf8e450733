use Rattle.std.proofs.Common.{sym, ap, ◌∙◌}
use Rattle.fr_base.specs.declared.label.Plain.TheVariants.{Task}
use Rattle.fr_base.specs.declared.step.Fresh.TheVariants as fresh
use Rattle.fr_plain.specs.declared.value.Value.TheVariants.{Own}
use Rattle.fr_meaning.specs.Beside.{beside_of}
use Rattle.fr_meaning.specs.declared.next.Next.TheVariants as next
use Rattle.fr_meaning.specs.Next.{task_named}
use Rattle.fr_shared.specs.Places.{place_of}
use Rattle.fr_meaning.specs.Threads.{numbers_of}
use Rattle.fr_meaning.proofs.StepFacts.{steps_at, is_on, join_steps, place_inside, thread_here, joined_same}
use Rattle.fr_meaning.proofs.running.go_joining.Goals as goal

pub unreachable-requires : goal.unreachable-requires
unreachable-requires c =
    let fs = c.args.forms.now in
    let r = c.args.running.now in
    let x = thread_here r.threads.items c.args.turn.now.at c.requires.inside in
    let s = steps_at fs r.threads.items (beside_of r.common) r.output.items c.args.turn.now.thread fresh.None c.args.turn.now.at (next.Join c.args.value) r.places.numbers c.requires.order c.requires.stands.well c.requires.stands.numbers c.requires.place c.requires.inside c.requires.next c.requires.goes x.0 x.1 in
    let j = join_steps fs r.threads.items (beside_of r.common) r.output.items c.args.turn.now.thread c.args.turn.now.at x.0 c.args.value s in
    let f = sym c.in_default.is ∙ c.task_named_by.ensures ∙ ap task_named j.task in
    cc

pub unreachable-requires-in_default-at : goal.unreachable-requires-in_default-at
unreachable-requires-in_default-at c =
    let fs = c.args.forms.now in
    let r = c.args.running.now in
    let x = thread_here r.threads.items c.args.turn.now.at c.requires.inside in
    let s = steps_at fs r.threads.items (beside_of r.common) r.output.items c.args.turn.now.thread fresh.None c.args.turn.now.at (next.Join c.args.value) r.places.numbers c.requires.order c.requires.stands.well c.requires.stands.numbers c.requires.place c.requires.inside c.requires.next c.requires.goes x.0 x.1 in
    let j = join_steps fs r.threads.items (beside_of r.common) r.output.items c.args.turn.now.thread c.args.turn.now.at x.0 c.args.value s in
    let same = joined_same c.args.value j.joined c.in-Some.thread j.task (sym c.in-Some.is ∙ c.task_named_by.ensures) in
    j.there (ap (place_of (numbers_of r.threads.items)) (sym same) ∙ ap (λ ns. place_of ns c.in-Some.thread) (sym c.requires.stands.numbers) ∙ sym c.at.ensures.place ∙ c.in_default-at.is)

pub go_join-requires-clause-other_inside : goal.go_join-requires-clause-other_inside
go_join-requires-clause-other_inside c =
    let r = c.args.running.now in
    place_inside r.threads.items c.in-Some.thread c.in-Some-at.at (ap (λ ns. place_of ns c.in-Some.thread) (sym c.requires.stands.numbers) ∙ sym c.at.ensures.place ∙ c.in-Some-at.is)

pub go_join-requires-clause-joins : goal.go_join-requires-clause-joins
go_join-requires-clause-joins c = λ x is. (
    let fs = c.args.forms.now in
    let r = c.args.running.now in
    let s = steps_at fs r.threads.items (beside_of r.common) r.output.items c.args.turn.now.thread fresh.None c.args.turn.now.at (next.Join c.args.value) r.places.numbers c.requires.order c.requires.stands.well c.requires.stands.numbers c.requires.place c.requires.inside c.requires.next c.requires.goes x is in
    let j = join_steps fs r.threads.items (beside_of r.common) r.output.items c.args.turn.now.thread c.args.turn.now.at x c.args.value s in
    let same = joined_same c.args.value j.joined c.in-Some.thread j.task (sym c.in-Some.is ∙ c.task_named_by.ensures) in
    let n = c.requires.next x is in
    record { on = is_on s; around = n.next.around; top = n.next.top; done = n.done; at_end = n.next.at_end; task = n.value ∙ j.task ∙ ap (λ u. Own (Task u)) (sym same) })

pub go_join-requires-clause-ended : goal.go_join-requires-clause-ended
go_join-requires-clause-ended c = λ z is. (
    let fs = c.args.forms.now in
    let r = c.args.running.now in
    let x = thread_here r.threads.items c.args.turn.now.at c.requires.inside in
    let s = steps_at fs r.threads.items (beside_of r.common) r.output.items c.args.turn.now.thread fresh.None c.args.turn.now.at (next.Join c.args.value) r.places.numbers c.requires.order c.requires.stands.well c.requires.stands.numbers c.requires.place c.requires.inside c.requires.next c.requires.goes x.0 x.1 in
    let j = join_steps fs r.threads.items (beside_of r.common) r.output.items c.args.turn.now.thread c.args.turn.now.at x.0 c.args.value s in
    let same = joined_same c.args.value j.joined c.in-Some.thread j.task (sym c.in-Some.is ∙ c.task_named_by.ensures) in
    j.ended c.in-Some-at.at z (ap (place_of (numbers_of r.threads.items)) (sym same) ∙ ap (λ ns. place_of ns c.in-Some.thread) (sym c.requires.stands.numbers) ∙ sym c.at.ensures.place ∙ c.in-Some-at.is) is)
