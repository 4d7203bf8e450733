use Rattle.std.proofs.Common.{◌≡◌, List, [], refl, sym, ap, ◌∙◌, arith, vec_capacity}
use Rattle.std.specs.Prelude.{slice_set}
use Rattle.fr_base.specs.declared.step.Fresh.TheVariants as fresh
use Rattle.fr_plain.specs.MachineThreads.{Mutex, mutex_at}
use Rattle.fr_plain.specs.Acts.{do_mutex}
use Rattle.fr_plain.specs.Run.{Move, Run, temp, mutex_r, settle}
use Rattle.fr_shared.specs.declared.heap.Released.TheVariants as released
use Rattle.fr_shared.specs.Places.{place_of}
use Rattle.fr_meaning.specs.declared.next.Next.TheVariants as next
use Rattle.fr_meaning.specs.declared.frame.Done.TheVariants as done
use Rattle.fr_meaning.specs.declared.frame.Frame.TheVariants as frame
use Rattle.fr_meaning.specs.Beside.{beside_of}
use Rattle.fr_meaning.specs.DoneTerms.{over, value_of}
use Rattle.fr_meaning.specs.FrameTerms.{wrapped}
use Rattle.fr_meaning.specs.Threads.{whole}
use Rattle.fr_meaning.proofs.LockSteps.{whole_leads, make_steps, make_move, top_run, top_room, top_inside, leads_as}
use Rattle.fr_meaning.proofs.ParentLemmas.{parents_step, over_waits_not}
use Rattle.fr_meaning.proofs.StepFacts.{steps_at, is_on, thread_here}
use Rattle.fr_meaning.proofs.ThreadLists.{numbers_set, room_on, well_at, well_set}
use Rattle.fr_meaning.proofs.WholeSteps.{stepped_to}
use Rattle.fr_meaning.proofs.locks.go_making.Goals as goal

pub unreachable-requires : goal.unreachable-requires
unreachable-requires c =
    let fs = c.args.forms.now in
    let r = c.args.running.now in
    let x = thread_here r.threads.items c.args.turn.now.at c.requires.inside in
    let s = steps_at fs r.threads.items (beside_of r.common) r.output.items c.args.turn.now.thread c.args.fresh c.args.turn.now.at (next.Mutex c.args.value) r.places.numbers c.requires.order c.requires.stands.well c.requires.stands.numbers c.requires.place c.requires.inside c.requires.next c.requires.goes x.0 x.1 in
    let k = make_steps fs r.threads.items (beside_of r.common) r.output.items c.args.turn.now.thread c.args.fresh c.args.turn.now.at x.0 c.args.value s in
    c.in_default.not-Mutex k.0 k.1

pub new_mutex-made-requires-clause-owned : goal.new_mutex-made-requires-clause-owned
new_mutex-made-requires-clause-owned c =
    let fs = c.args.forms.now in
    let r = c.args.running.now in
    let x = thread_here r.threads.items c.args.turn.now.at c.requires.inside in
    let s = steps_at fs r.threads.items (beside_of r.common) r.output.items c.args.turn.now.thread c.args.fresh c.args.turn.now.at (next.Mutex c.args.value) r.places.numbers c.requires.order c.requires.stands.well c.requires.stands.numbers c.requires.place c.requires.inside c.requires.next c.requires.goes x.0 x.1 in
    let k = make_steps fs r.threads.items (beside_of r.common) r.output.items c.args.turn.now.thread c.args.fresh c.args.turn.now.at x.0 c.args.value s in
    k.2

pub new_mutex-made-requires-clause-new : goal.new_mutex-made-requires-clause-new
new_mutex-made-requires-clause-new c =
    let fs = c.args.forms.now in
    let r = c.args.running.now in
    let x = thread_here r.threads.items c.args.turn.now.at c.requires.inside in
    let s = steps_at fs r.threads.items (beside_of r.common) r.output.items c.args.turn.now.thread c.args.fresh c.args.turn.now.at (next.Mutex c.args.value) r.places.numbers c.requires.order c.requires.stands.well c.requires.stands.numbers c.requires.place c.requires.inside c.requires.next c.requires.goes x.0 x.1 in
    let k = make_steps fs r.threads.items (beside_of r.common) r.output.items c.args.turn.now.thread c.args.fresh c.args.turn.now.at x.0 c.args.value s in
    let e : fresh.Mutex c.in-Mutex.mutex ≡ fresh.Mutex k.0 = sym c.in-Mutex.is ∙ k.1 in
    let same : c.in-Mutex.mutex ≡ k.0 = cc in
    ap (λ (ms : List Mutex). mutex_at ms c.in-Mutex.mutex) c.in_ok-reserve.ensures.mutexes ∙ ap (mutex_at r.common.mutexes.mutexes) same ∙ k.3

pub resume-requires-clause-inside : goal.resume-requires-clause-inside
resume-requires-clause-inside c =
    let fs = c.args.forms.now in
    let xs = c.args.running.now.threads.items in
    let x = c.index_mut-making.result.now in
    let is = c.index_mut-making.ensures.value in
    let n = c.requires.next x is in
    let well = well_at fs xs c.args.turn.now.at x c.requires.inside is c.requires.stands.well in
    top_inside fs x c.leave_top.new.frames.items frame.Mutex n.done well n.next (c.leave_top.ensures.frames n.next.around frame.Mutex n.next.top)

pub resume-requires-clause-room : goal.resume-requires-clause-room
resume-requires-clause-room c =
    let fs = c.args.forms.now in
    let xs = c.args.running.now.threads.items in
    let x = c.index_mut-making.result.now in
    let is = c.index_mut-making.ensures.value in
    let n = c.requires.next x is in
    let well = well_at fs xs c.args.turn.now.at x c.requires.inside is c.requires.stands.well in
    top_room fs x c.leave_top.new.frames.items frame.Mutex n.done (done.Temp c.new_mutex-made.result) well n.next (c.leave_top.ensures.frames n.next.around frame.Mutex n.next.top)

pub resume-requires-clause-on : goal.resume-requires-clause-on
resume-requires-clause-on c = is_on (steps_at c.args.forms.now c.args.running.now.threads.items (beside_of c.args.running.now.common) c.args.running.now.output.items c.args.turn.now.thread c.args.fresh c.args.turn.now.at (next.Mutex c.args.value) c.args.running.now.places.numbers c.requires.order c.requires.stands.well c.requires.stands.numbers c.requires.place c.requires.inside c.requires.next c.requires.goes c.index_mut-making.result.now c.index_mut-making.ensures.value)

pub resume-requires-clause-capacity : goal.resume-requires-clause-capacity
resume-requires-clause-capacity c =
    let x = c.index_mut-making.result.now in
    let s = steps_at c.args.forms.now c.args.running.now.threads.items (beside_of c.args.running.now.common) c.args.running.now.output.items c.args.turn.now.thread c.args.fresh c.args.turn.now.at (next.Mutex c.args.value) c.args.running.now.places.numbers c.requires.order c.requires.stands.well c.requires.stands.numbers c.requires.place c.requires.inside c.requires.next c.requires.goes c.index_mut-making.result.now c.index_mut-making.ensures.value in
    omega (arith, c.leave_top.ensures.capacity, room_on x.stage (vec_capacity x.frames) (is_on s) s.well.room)

pub returns-clause-step : goal.returns-clause-step
returns-clause-step c =
    let fs = c.args.forms.now in
    let r = c.args.running.now in
    let xs = r.threads.items in
    let b = beside_of r.common in
    let i = c.args.turn.now.at in
    let x = c.index_mut-making.result.now in
    let is = c.index_mut-making.ensures.value in
    let y = c.resume.new.thread in
    let n = c.requires.next x is in
    let s = steps_at fs xs b r.output.items c.args.turn.now.thread c.args.fresh i (next.Mutex c.args.value) r.places.numbers c.requires.order c.requires.stands.well c.requires.stands.numbers c.requires.place c.requires.inside c.requires.next c.requires.goes x is in
    let m : Move Run = record { act = do_mutex (value_of n.done); plug = temp } in
    let made = c.new_mutex-made in
    let leads = leads_as c.args.turn.now.thread (fresh.Mutex c.in-Mutex.mutex) c.args.fresh (do_mutex c.args.value) (do_mutex (value_of n.done)) x.slots.items y.slots.items b.heap b.heap b.mutexes c.reserve.new.self.mutexes made.new.mutexes.mutexes made.result [] released.Nothing
    (sym c.in-Mutex.is) (ap do_mutex (sym n.value)) c.in_ok-reserve.ensures.mutexes (ap (λ vs. vs.items) c.resume.ensures.slots) (made.ensures.act c.args.turn.now.thread x.slots.items b.heap) in
    let goes = c.resume.ensures.run ∙ ap (λ ks. settle (wrapped fs ks (temp made.result))) (c.leave_top.ensures.frames n.next.around frame.Mutex n.next.top) in
    whole_leads fs xs b r.output.items c.args.turn.now.thread i c.args.fresh x y n.next.around (mutex_r (over n.done)) m b.heap made.new.mutexes.mutexes made.result [] released.Nothing s.place is (is_on s) (top_run fs x frame.Mutex n.done n.next) refl (make_move n.done) leads goes c.resume.ensures.number c.resume.ensures.stage
    ∙ ap (stepped_to (whole fs (slice_set xs i y) (record b { mutexes = made.new.mutexes.mutexes }) r.output.items)) (sym c.new.ensures)

pub returns-clause-stands : goal.returns-clause-stands
returns-clause-stands c =
    let fs = c.args.forms.now in
    let xs = c.args.running.now.threads.items in
    let i = c.args.turn.now.at in
    record {
      numbers = c.requires.stands.numbers ∙ sym (numbers_set xs i c.index_mut-making.result.now c.resume.new.thread c.index_mut-making.ensures.value c.resume.ensures.number);
      well = well_set fs xs i c.resume.new.thread c.resume.ensures.well c.requires.stands.well;
      parents = parents_step c.args.running.now.common.pairs.pairs xs c.args.turn.now.thread i c.index_mut-making.result.now c.resume.new.thread (ap (λ ns. place_of ns c.args.turn.now.thread) (sym c.requires.stands.numbers) ∙ c.requires.place)
          c.index_mut-making.ensures.value c.resume.ensures.number (over_waits_not c.index_mut-making.result.now.focus (c.requires.next c.index_mut-making.result.now c.index_mut-making.ensures.value).done (c.requires.next c.index_mut-making.result.now c.index_mut-making.ensures.value).next.at_end) c.requires.stands.parents;
    }
