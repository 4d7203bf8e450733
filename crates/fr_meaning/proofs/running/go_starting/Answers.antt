use Rattle.std.proofs.Common.{List, get_or, ap, ◌∙◌, subst}
use Rattle.fr_meaning.specs.Beside.{beside_of}
use Rattle.fr_meaning.specs.declared.next.Next.TheVariants as next
use Rattle.fr_meaning.specs.declared.frame.Focus.{Focus}
use Rattle.fr_meaning.specs.declared.thread.Thread.{Thread}
use Rattle.fr_meaning.specs.FrameTerms.{HasMadeWay}
use Rattle.fr_shared.specs.Places.{place_of}
use Rattle.fr_meaning.specs.Threads.{numbers_of}
use Rattle.fr_meaning.proofs.StepFacts.{steps_at, is_on, start_steps, thread_here, named_same}
use Rattle.fr_meaning.proofs.running.go_starting.Goals as goal

pub unreachable-requires : goal.unreachable-requires
unreachable-requires c =
    let fs = c.args.forms.now in
    let r = c.args.running.now in
    let x = thread_here r.threads.items c.args.turn.now.at c.requires.inside in
    let s = steps_at fs r.threads.items (beside_of r.common) r.output.items c.args.turn.now.thread c.args.fresh c.args.turn.now.at (next.Start c.args.node) r.places.numbers c.requires.order c.requires.stands.well c.requires.stands.numbers c.requires.place c.requires.inside c.requires.next c.requires.goes x.0 x.1 in
    let k = start_steps fs r.threads.items (beside_of r.common) r.output.items c.args.turn.now.thread c.args.fresh c.args.turn.now.at x.0 c.args.node s in
    c.in_default.not-Thread k.number k.named

pub captured-requires : goal.captured-requires
captured-requires c =
    let fs = c.args.forms.now in
    let r = c.args.running.now in
    let x = thread_here r.threads.items c.args.turn.now.at c.requires.inside in
    let s = steps_at fs r.threads.items (beside_of r.common) r.output.items c.args.turn.now.thread c.args.fresh c.args.turn.now.at (next.Start c.args.node) r.places.numbers c.requires.order c.requires.stands.well c.requires.stands.numbers c.requires.place c.requires.inside c.requires.next c.requires.goes x.0 x.1 in
    let k = start_steps fs r.threads.items (beside_of r.common) r.output.items c.args.turn.now.thread c.args.fresh c.args.turn.now.at x.0 c.args.node s in
    (subst (λ (f : Focus). HasMadeWay fs x.0.frames.items f) s.comes s.well.way).0

pub go_start-requires-clause-node : goal.go_start-requires-clause-node
go_start-requires-clause-node c =
    let fs = c.args.forms.now in
    let r = c.args.running.now in
    let x = thread_here r.threads.items c.args.turn.now.at c.requires.inside in
    let s = steps_at fs r.threads.items (beside_of r.common) r.output.items c.args.turn.now.thread c.args.fresh c.args.turn.now.at (next.Start c.args.node) r.places.numbers c.requires.order c.requires.stands.well c.requires.stands.numbers c.requires.place c.requires.inside c.requires.next c.requires.goes x.0 x.1 in
    let k = start_steps fs r.threads.items (beside_of r.common) r.output.items c.args.turn.now.thread c.args.fresh c.args.turn.now.at x.0 c.args.node s in
    (subst (λ (f : Focus). HasMadeWay fs x.0.frames.items f) s.comes s.well.way).0

pub go_start-requires-clause-starts : goal.go_start-requires-clause-starts
go_start-requires-clause-starts c = λ x is. (
    let fs = c.args.forms.now in
    let r = c.args.running.now in
    let at = is ∙ ap (λ (xs : List Thread). get_or xs c.args.turn.now.at x) c.in_ok-reserve-4.ensures.items in
    let s = steps_at fs r.threads.items (beside_of r.common) r.output.items c.args.turn.now.thread c.args.fresh c.args.turn.now.at (next.Start c.args.node) r.places.numbers c.requires.order c.requires.stands.well c.requires.stands.numbers c.requires.place c.requires.inside c.requires.next c.requires.goes x at in
    let k = start_steps fs r.threads.items (beside_of r.common) r.output.items c.args.turn.now.thread c.args.fresh c.args.turn.now.at x c.args.node s in
    record { on = is_on s; at_start = s.comes; passes = k.passes })

pub go_start-requires-clause-new : goal.go_start-requires-clause-new
go_start-requires-clause-new c =
    let fs = c.args.forms.now in
    let r = c.args.running.now in
    let x = thread_here r.threads.items c.args.turn.now.at c.requires.inside in
    let s = steps_at fs r.threads.items (beside_of r.common) r.output.items c.args.turn.now.thread c.args.fresh c.args.turn.now.at (next.Start c.args.node) r.places.numbers c.requires.order c.requires.stands.well c.requires.stands.numbers c.requires.place c.requires.inside c.requires.next c.requires.goes x.0 x.1 in
    let k = start_steps fs r.threads.items (beside_of r.common) r.output.items c.args.turn.now.thread c.args.fresh c.args.turn.now.at x.0 c.args.node s in
    let named = named_same c.args.fresh k.number c.in-Thread.number k.named c.in-Thread.is in
    ap (λ ns. place_of ns c.in-Thread.number) (c.in_ok-reserve-5.ensures.numbers ∙ c.requires.stands.numbers) ∙ ap (place_of (numbers_of r.threads.items)) named ∙ k.new
