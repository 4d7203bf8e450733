use Rattle.std.proofs.Common.{List, refl, sym, ap, ◌∙◌, subst, arith, vec_capacity}
use Rattle.fr_base.specs.declared.step.Fresh.TheVariants as fresh
use Rattle.fr_plain.specs.Acts.{do_unlock, unit}
use Rattle.fr_plain.specs.Run.{Move, Run, locked, settle}
use Rattle.fr_plain.specs.declared.value.Value.{Value}
use Rattle.fr_shared.specs.Places.{place_of}
use Rattle.fr_acts.specs.MutexActs.{Leads, part}
use Rattle.fr_meaning.specs.declared.next.Next.TheVariants as next
use Rattle.fr_meaning.specs.declared.frame.Frame.TheVariants as frame
use Rattle.fr_meaning.specs.Beside.{beside_of}
use Rattle.fr_meaning.specs.DoneTerms.{over}
use Rattle.fr_meaning.specs.FrameTerms.{wrapped}
use Rattle.fr_meaning.proofs.LockSteps.{whole_leads, unlock_steps, unlock_move, top_run, top_room, top_inside}
use Rattle.fr_meaning.proofs.ParentLemmas.{still_parents, parents_step, over_waits_not}
use Rattle.fr_meaning.proofs.StepFacts.{steps_at, is_on}
use Rattle.fr_meaning.proofs.ThreadLists.{numbers_set, room_on, well_at, well_set}
use Rattle.fr_meaning.proofs.WholeSteps.{stepped_to}
use Rattle.fr_meaning.proofs.locks.go_unlock.Goals as goal

pub unlock-released-requires-clause-goes : goal.unlock-released-requires-clause-goes
unlock-released-requires-clause-goes c =
    let fs = c.args.forms.now in
    let r = c.args.running.now in
    let x = c.index_mut-unlocking.result.now in
    let is = c.index_mut-unlocking.ensures.value in
    let s = steps_at fs r.threads.items (beside_of r.common) r.output.items c.args.turn.now.thread fresh.None c.args.turn.now.at (next.Unlock c.args.done) r.places.numbers c.requires.order c.requires.stands.well c.requires.stands.numbers c.requires.place c.requires.inside c.requires.next c.requires.goes x is in
    unlock_steps fs r.threads.items (beside_of r.common) r.output.items c.args.turn.now.thread c.args.turn.now.at x c.args.done s

pub resume-requires-clause-inside : goal.resume-requires-clause-inside
resume-requires-clause-inside c =
    let fs = c.args.forms.now in
    let xs = c.args.running.now.threads.items in
    let x = c.index_mut-unlocking.result.now in
    let is = c.index_mut-unlocking.ensures.value in
    let n = c.requires.next x is in
    let well = well_at fs xs c.args.turn.now.at x c.requires.inside is c.requires.stands.well in
    top_inside fs x c.leave_top.new.frames.items frame.Locked c.args.done well n (c.leave_top.ensures.frames n.around frame.Locked n.top)

pub resume-requires-clause-room : goal.resume-requires-clause-room
resume-requires-clause-room c =
    let fs = c.args.forms.now in
    let xs = c.args.running.now.threads.items in
    let x = c.index_mut-unlocking.result.now in
    let is = c.index_mut-unlocking.ensures.value in
    let n = c.requires.next x is in
    let well = well_at fs xs c.args.turn.now.at x c.requires.inside is c.requires.stands.well in
    top_room fs x c.leave_top.new.frames.items frame.Locked c.args.done c.args.done well n (c.leave_top.ensures.frames n.around frame.Locked n.top)

pub resume-requires-clause-on : goal.resume-requires-clause-on
resume-requires-clause-on c = is_on (steps_at c.args.forms.now c.args.running.now.threads.items (beside_of c.args.running.now.common) c.args.running.now.output.items c.args.turn.now.thread fresh.None c.args.turn.now.at (next.Unlock c.args.done) c.args.running.now.places.numbers c.requires.order c.requires.stands.well c.requires.stands.numbers c.requires.place c.requires.inside c.requires.next c.requires.goes c.index_mut-unlocking.result.now c.index_mut-unlocking.ensures.value)

pub resume-requires-clause-capacity : goal.resume-requires-clause-capacity
resume-requires-clause-capacity c =
    let x = c.index_mut-unlocking.result.now in
    let s = steps_at c.args.forms.now c.args.running.now.threads.items (beside_of c.args.running.now.common) c.args.running.now.output.items c.args.turn.now.thread fresh.None c.args.turn.now.at (next.Unlock c.args.done) c.args.running.now.places.numbers c.requires.order c.requires.stands.well c.requires.stands.numbers c.requires.place c.requires.inside c.requires.next c.requires.goes c.index_mut-unlocking.result.now c.index_mut-unlocking.ensures.value in
    omega (arith, c.leave_top.ensures.capacity, room_on x.stage (vec_capacity x.frames) (is_on s) s.well.room)

pub let_go-requires : goal.let_go-requires
let_go-requires c = c.requires.stands.numbers ∙ sym (numbers_set c.args.running.now.threads.items c.args.turn.now.at c.index_mut-unlocking.result.now c.resume.new.thread c.index_mut-unlocking.ensures.value c.resume.ensures.number)

pub returns-clause-step : goal.returns-clause-step
returns-clause-step c =
    let fs = c.args.forms.now in
    let r = c.args.running.now in
    let xs = r.threads.items in
    let b = beside_of r.common in
    let t = c.args.turn.now.thread in
    let i = c.args.turn.now.at in
    let x = c.index_mut-unlocking.result.now in
    let is = c.index_mut-unlocking.ensures.value in
    let y = c.resume.new.thread in
    let a = c.unlock-released in
    let n = c.requires.next x is in
    let s = steps_at fs xs b r.output.items t fresh.None i (next.Unlock c.args.done) r.places.numbers c.requires.order c.requires.stands.well c.requires.stands.numbers c.requires.place c.requires.inside c.requires.next c.requires.goes x is in
    let m : Move Run = record { act = do_unlock; plug = λ v. over c.args.done } in
    let leads = subst (λ (vs : List Value). Leads t fresh.None do_unlock (part x.slots.items b.heap b.mutexes) (part vs a.new.heap.heap a.new.mutexes.mutexes) unit a.new.labels.items a.result) (sym (ap (λ vs. vs.items) c.resume.ensures.slots)) (a.ensures.act t) in
    let goes = c.resume.ensures.run ∙ ap (λ ks. settle (wrapped fs ks (over c.args.done))) (c.leave_top.ensures.frames n.around frame.Locked n.top) in
    whole_leads fs xs b r.output.items t i fresh.None x y n.around (locked (over c.args.done)) m a.new.heap.heap a.new.mutexes.mutexes unit a.new.labels.items a.result s.place is (is_on s) (top_run fs x frame.Locked c.args.done n) refl (unlock_move c.args.done) leads goes c.resume.ensures.number c.resume.ensures.stage
    ∙ ap (λ w. stepped_to w a.new.labels.items) (sym (c.let_go.ensures.whole fs r.output.items))

pub returns-clause-stands : goal.returns-clause-stands
returns-clause-stands c =
    let fs = c.args.forms.now in
    let xs = c.args.running.now.threads.items in
    let i = c.args.turn.now.at in
    record {
      numbers = c.requires.stands.numbers ∙ sym (c.let_go.ensures.numbers ∙ numbers_set xs i c.index_mut-unlocking.result.now c.resume.new.thread c.index_mut-unlocking.ensures.value c.resume.ensures.number);
      well = c.let_go.ensures.well fs (well_set fs xs i c.resume.new.thread c.resume.ensures.well c.requires.stands.well);
      parents = still_parents c.let_go.new.threads.items c.let_go.ensures.pairs (c.let_go.ensures.parents c.args.running.now.common.pairs.pairs (parents_step c.args.running.now.common.pairs.pairs xs c.args.turn.now.thread i c.index_mut-unlocking.result.now c.resume.new.thread (ap (λ ns. place_of ns c.args.turn.now.thread) (sym c.requires.stands.numbers) ∙ c.requires.place)
          c.index_mut-unlocking.ensures.value c.resume.ensures.number (over_waits_not c.index_mut-unlocking.result.now.focus c.args.done (c.requires.next c.index_mut-unlocking.result.now c.index_mut-unlocking.ensures.value).at_end) c.requires.stands.parents));
    }
