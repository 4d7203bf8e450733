use Rattle.std.proofs.Common.{List, get_or, refl, sym, ap, ◌∙◌, subst}
use Rattle.std.specs.Prelude.{Option, IsSome}
use Rattle.fr_plain.specs.Threads.{Passed}
use Rattle.fr_forms.specs.FormTerms.{captures_of}
use Rattle.fr_shared.specs.Places.{place_of}
use Rattle.fr_acts.specs.SlotOrder.{newest_first}
use Rattle.fr_meaning.specs.declared.frame.Focus.{Focus}
use Rattle.fr_meaning.specs.declared.next.Next.TheVariants as next
use Rattle.fr_meaning.specs.declared.thread.Thread.{Thread}
use Rattle.fr_meaning.specs.Beside.{beside_of}
use Rattle.fr_meaning.specs.FrameTerms.{HasMadeWay}
use Rattle.fr_meaning.specs.Twins.{ours_at, theirs_at}
use Rattle.fr_meaning.proofs.StepFacts.{steps_at, is_on, thread_here}
use Rattle.fr_meaning.proofs.TwinFacts.{par_steps, new_names}
use Rattle.fr_meaning.proofs.twins.go_par.Goals as goal

pub unreachable-requires : goal.unreachable-requires
unreachable-requires c =
    let fs = c.args.forms.now in
    let r = c.args.running.now in
    let x = thread_here r.threads.items c.args.turn.now.at c.requires.inside in
    let s = steps_at fs r.threads.items (beside_of r.common) r.output.items c.args.turn.now.thread c.args.fresh c.args.turn.now.at (next.Par c.args.node) r.places.numbers c.requires.order c.requires.stands.well c.requires.stands.numbers c.requires.place c.requires.inside c.requires.next c.requires.goes x.0 x.1 in
    let k = par_steps fs r.threads.items (beside_of r.common) r.output.items c.args.turn.now.thread c.args.fresh c.args.turn.now.at x.0 c.args.node s in
    c.in_default.not-Threads k.first k.second k.named

pub captured_by-captured-requires : goal.captured_by-captured-requires
captured_by-captured-requires c =
    let fs = c.args.forms.now in
    let r = c.args.running.now in
    let x = thread_here r.threads.items c.args.turn.now.at c.requires.inside in
    let s = steps_at fs r.threads.items (beside_of r.common) r.output.items c.args.turn.now.thread c.args.fresh c.args.turn.now.at (next.Par c.args.node) r.places.numbers c.requires.order c.requires.stands.well c.requires.stands.numbers c.requires.place c.requires.inside c.requires.next c.requires.goes x.0 x.1 in
    (subst (λ (f : Focus). HasMadeWay fs x.0.frames.items f) s.comes s.well.way).0

pub start_pair-requires-clause-node : goal.start_pair-requires-clause-node
start_pair-requires-clause-node c =
    let fs = c.args.forms.now in
    let r = c.args.running.now in
    let x = thread_here r.threads.items c.args.turn.now.at c.requires.inside in
    let s = steps_at fs r.threads.items (beside_of r.common) r.output.items c.args.turn.now.thread c.args.fresh c.args.turn.now.at (next.Par c.args.node) r.places.numbers c.requires.order c.requires.stands.well c.requires.stands.numbers c.requires.place c.requires.inside c.requires.next c.requires.goes x.0 x.1 in
    (subst (λ (f : Focus). HasMadeWay fs x.0.frames.items f) s.comes s.well.way).0

pub start_pair-requires-clause-par : goal.start_pair-requires-clause-par
start_pair-requires-clause-par c =
    let fs = c.args.forms.now in
    let r = c.args.running.now in
    let x = thread_here r.threads.items c.args.turn.now.at c.requires.inside in
    let s = steps_at fs r.threads.items (beside_of r.common) r.output.items c.args.turn.now.thread c.args.fresh c.args.turn.now.at (next.Par c.args.node) r.places.numbers c.requires.order c.requires.stands.well c.requires.stands.numbers c.requires.place c.requires.inside c.requires.next c.requires.goes x.0 x.1 in
    (subst (λ (f : Focus). HasMadeWay fs x.0.frames.items f) s.comes s.well.way).1

pub start_pair-requires-clause-starts : goal.start_pair-requires-clause-starts
start_pair-requires-clause-starts c = λ x is. (
    let fs = c.args.forms.now in
    let r = c.args.running.now in
    let at = is ∙ ap (λ (xs : List Thread). get_or xs c.args.turn.now.at x) c.in_ok-reserve-2.ensures.items in
    let s = steps_at fs r.threads.items (beside_of r.common) r.output.items c.args.turn.now.thread c.args.fresh c.args.turn.now.at (next.Par c.args.node) r.places.numbers c.requires.order c.requires.stands.well c.requires.stands.numbers c.requires.place c.requires.inside c.requires.next c.requires.goes x at in
    let k = par_steps fs r.threads.items (beside_of r.common) r.output.items c.args.turn.now.thread c.args.fresh c.args.turn.now.at x c.args.node s in
    record { on = is_on s; at_start = s.comes; one = k.one; passes = k.passes; then_passes = subst (λ (o : Option Passed). IsSome o) (sym k.then_passes) refl })

pub start_pair-requires-clause-new_ours : goal.start_pair-requires-clause-new_ours
start_pair-requires-clause-new_ours c =
    let fs = c.args.forms.now in
    let r = c.args.running.now in
    let x = thread_here r.threads.items c.args.turn.now.at c.requires.inside in
    let s = steps_at fs r.threads.items (beside_of r.common) r.output.items c.args.turn.now.thread c.args.fresh c.args.turn.now.at (next.Par c.args.node) r.places.numbers c.requires.order c.requires.stands.well c.requires.stands.numbers c.requires.place c.requires.inside c.requires.next c.requires.goes x.0 x.1 in
    let k = par_steps fs r.threads.items (beside_of r.common) r.output.items c.args.turn.now.thread c.args.fresh c.args.turn.now.at x.0 c.args.node s in
    let n = new_names fs r.threads.items (beside_of r.common) r.output.items (newest_first x.0.slots.items) c.args.fresh (captures_of (ours_at fs c.args.node)) (captures_of (theirs_at fs c.args.node)) c.in-Threads.first c.in-Threads.second k c.in-Threads.is in
    ap (λ u. place_of c.reserve_for.new.self.numbers u) c.in_ok-ours.ensures.number ∙ ap (λ ns. place_of ns c.in-Threads.first) (c.in_ok-reserve_for.ensures.numbers ∙ c.requires.stands.numbers) ∙ n.new_first

pub start_pair-requires-clause-new_theirs : goal.start_pair-requires-clause-new_theirs
start_pair-requires-clause-new_theirs c =
    let fs = c.args.forms.now in
    let r = c.args.running.now in
    let x = thread_here r.threads.items c.args.turn.now.at c.requires.inside in
    let s = steps_at fs r.threads.items (beside_of r.common) r.output.items c.args.turn.now.thread c.args.fresh c.args.turn.now.at (next.Par c.args.node) r.places.numbers c.requires.order c.requires.stands.well c.requires.stands.numbers c.requires.place c.requires.inside c.requires.next c.requires.goes x.0 x.1 in
    let k = par_steps fs r.threads.items (beside_of r.common) r.output.items c.args.turn.now.thread c.args.fresh c.args.turn.now.at x.0 c.args.node s in
    let n = new_names fs r.threads.items (beside_of r.common) r.output.items (newest_first x.0.slots.items) c.args.fresh (captures_of (ours_at fs c.args.node)) (captures_of (theirs_at fs c.args.node)) c.in-Threads.first c.in-Threads.second k c.in-Threads.is in
    ap (λ u. place_of c.reserve_for.new.self.numbers u) c.in_ok-theirs.ensures.number ∙ ap (λ ns. place_of ns c.in-Threads.second) (c.in_ok-reserve_for.ensures.numbers ∙ c.requires.stands.numbers) ∙ n.new_second

pub start_pair-requires-clause-apart : goal.start_pair-requires-clause-apart
start_pair-requires-clause-apart c =
    let fs = c.args.forms.now in
    let r = c.args.running.now in
    let x = thread_here r.threads.items c.args.turn.now.at c.requires.inside in
    let s = steps_at fs r.threads.items (beside_of r.common) r.output.items c.args.turn.now.thread c.args.fresh c.args.turn.now.at (next.Par c.args.node) r.places.numbers c.requires.order c.requires.stands.well c.requires.stands.numbers c.requires.place c.requires.inside c.requires.next c.requires.goes x.0 x.1 in
    let k = par_steps fs r.threads.items (beside_of r.common) r.output.items c.args.turn.now.thread c.args.fresh c.args.turn.now.at x.0 c.args.node s in
    let n = new_names fs r.threads.items (beside_of r.common) r.output.items (newest_first x.0.slots.items) c.args.fresh (captures_of (ours_at fs c.args.node)) (captures_of (theirs_at fs c.args.node)) c.in-Threads.first c.in-Threads.second k c.in-Threads.is in
    λ e. n.apart (sym c.in_ok-ours.ensures.number ∙ e ∙ c.in_ok-theirs.ensures.number)
