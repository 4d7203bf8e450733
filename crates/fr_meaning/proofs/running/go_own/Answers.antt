use Rattle.std.proofs.Common.{◌<◌, length, Some, sym, ap, ◌∙◌, subst, arith}
use Rattle.std.specs.Prelude.{IsSome}
use Rattle.fr_base.specs.declared.step.Fresh.TheVariants as fresh
use Rattle.fr_plain.specs.Whole.{Whole, step}
use Rattle.fr_meaning.specs.Beside.{beside_of}
use Rattle.fr_meaning.specs.declared.next.Next.TheVariants as next
use Rattle.fr_meaning.specs.declared.thread.Thread.{Thread}
use Rattle.fr_shared.specs.Places.{Numbers, place_of}
use Rattle.fr_meaning.specs.Turning.{focus_labels}
use Rattle.fr_meaning.proofs.EntryLemmas.{same_whole, same_entries, same_length, same_comes, at_same, on_err}
use Rattle.fr_meaning.proofs.ThreadLists.{there_at}
use Rattle.fr_meaning.proofs.StepFacts.{steps_at, is_on, own_steps}
use Rattle.fr_meaning.proofs.running.go_own.Goals as goal

pub returns-in_err-reserve_act-clause-stands : goal.returns-in_err-reserve_act-clause-stands
returns-in_err-reserve_act-clause-stands c = c.reserve_act.ensures.stands c.args.forms.now c.requires.stands

pub returns-in_err-reserve_act-clause-err : goal.returns-in_err-reserve_act-clause-err
returns-in_err-reserve_act-clause-err c = on_err c.from_residual.result (c.reserve_act.ensures.view c.args.forms.now)

pub index-requires : goal.index-requires
index-requires c =
    let r = c.args.running.now in
    let n = c.reserve_act.new.running in
    let e = same_length c.args.forms.now r.threads.items n.threads.items (beside_of r.common) (beside_of n.common) r.output.items n.output.items (c.reserve_act.ensures.view c.args.forms.now) in
    omega (arith, e, c.requires.inside, n.threads.ok)

pub index-requires-2 : goal.index-requires-2
index-requires-2 c =
    let r = c.args.running.now in
    let n = c.reserve_act.new.running in
    let e = same_length c.args.forms.now r.threads.items n.threads.items (beside_of r.common) (beside_of n.common) r.output.items n.output.items (c.reserve_act.ensures.view c.args.forms.now) in
    omega (arith, e, c.requires.inside, n.threads.ok)

pub returns-in_err-reserve-clause-stands : goal.returns-in_err-reserve-clause-stands
returns-in_err-reserve-clause-stands c = c.reserve_act.ensures.stands c.args.forms.now c.requires.stands

pub returns-in_err-reserve-clause-err : goal.returns-in_err-reserve-clause-err
returns-in_err-reserve-clause-err c = on_err c.from_residual-in_err-reserve.result (c.reserve_act.ensures.view c.args.forms.now)

pub go_alone-requires-clause-stands : goal.go_alone-requires-clause-stands
go_alone-requires-clause-stands c = c.reserve_act.ensures.stands c.args.forms.now c.requires.stands

pub go_alone-requires-clause-inside : goal.go_alone-requires-clause-inside
go_alone-requires-clause-inside c =
    let r = c.args.running.now in
    let n = c.reserve_act.new.running in
    let e = same_length c.args.forms.now r.threads.items n.threads.items (beside_of r.common) (beside_of n.common) r.output.items n.output.items (c.reserve_act.ensures.view c.args.forms.now) in
    omega (arith, e, c.requires.inside)

pub go_alone-requires-clause-goes : goal.go_alone-requires-clause-goes
go_alone-requires-clause-goes c = λ x is. (
    let fs = c.args.forms.now in
    let r = c.args.running.now in
    let n = c.reserve_act.new.running in
    let view = c.reserve_act.ensures.view fs in
    let stands = c.reserve_act.ensures.stands fs c.requires.stands in
    let inside : c.args.turn.now.at < length n.threads.items = omega (arith, same_length fs r.threads.items n.threads.items (beside_of r.common) (beside_of n.common) r.output.items n.output.items view, c.requires.inside) in
    let whole = same_whole fs r.threads.items n.threads.items (beside_of r.common) (beside_of n.common) r.output.items n.output.items view in
    let place = ap (λ (p : Numbers). place_of p.numbers c.args.turn.now.thread) c.reserve_act.ensures.places ∙ c.requires.place in
    let comes = same_comes next.Own r.threads.items n.threads.items c.args.turn.now.at (same_entries fs r.threads.items n.threads.items (beside_of r.common) (beside_of n.common) r.output.items n.output.items view) inside c.requires.next in
    let goes = subst (λ (w : Whole). IsSome (step w c.args.turn.now.thread fresh.None)) (sym whole) c.requires.goes in
    let s = steps_at fs n.threads.items (beside_of n.common) n.output.items c.args.turn.now.thread fresh.None c.args.turn.now.at next.Own n.places.numbers c.requires.order stands.well stands.numbers place inside comes goes x is in
    let first = at_same n.threads.items c.args.turn.now.at c.index.result.now x inside c.index.ensures is in
    let second = at_same n.threads.items c.args.turn.now.at c.index-2.result.now x inside c.index-2.ensures is in
    record {
      on = is_on s;
      at_step = (comes x is).goes_on;
      no_pair = (comes x is).no_par_end;
      goes = own_steps fs n.threads.items (beside_of n.common) n.output.items c.args.turn.now.thread c.args.turn.now.at x s;
      slots = c.in_ok-reserve_act.ensures.slots x is;
      ready = c.in_ok-reserve_act.ensures.ready ∙ ap Some (sym (there_at fs n.threads.items c.args.turn.now.thread c.args.turn.now.at x s.place is).1);
      spare = omega (arith, ap (λ (y : Thread). focus_labels y.focus) first, c.labels_ahead.ensures.focus, c.in_ok-reserve.ensures.room);
      frame_spare = λ gs g e. (let le = c.labels_ahead.ensures.frame gs g (c.deref.ensures.value ∙ ap (λ (y : Thread). y.frames.items) second ∙ e) in omega (arith, le, c.in_ok-reserve.ensures.room));
    })

pub returns-clause-step : goal.returns-clause-step
returns-clause-step c =
    let r = c.args.running.now in
    let n = c.reserve_act.new.running in
    let whole = same_whole c.args.forms.now r.threads.items n.threads.items (beside_of r.common) (beside_of n.common) r.output.items n.output.items (c.reserve_act.ensures.view c.args.forms.now) in
    ap (λ (w : Whole). step w c.args.turn.now.thread fresh.None) (sym whole) ∙ c.go_alone.ensures.step
