use Rattle.std.proofs.Common.{◌≡◌, List, refl, sym, ap, ◌∙◌, subst, vec_capacity}
use Rattle.fr_base.specs.declared.step.Fresh.TheVariants as fresh
use Rattle.fr_plain.specs.Acts.{do_dup}
use Rattle.fr_plain.specs.Run.{Move, Run, temp, dup as dup_r}
use Rattle.fr_plain.specs.declared.value.Value.{Value}
use Rattle.fr_shared.specs.declared.heap.Released.TheVariants as released
use Rattle.fr_shared.specs.Places.{place_of}
use Rattle.fr_acts.specs.MutexActs.{Leads, part}
use Rattle.fr_meaning.specs.declared.next.Next.TheVariants as next
use Rattle.fr_meaning.specs.declared.frame.Focus.{Focus}
use Rattle.fr_meaning.specs.declared.frame.Focus.TheVariants as focus
use Rattle.fr_meaning.specs.Beside.{beside_of}
use Rattle.fr_meaning.specs.FrameTerms.{wrapped, focus_run}
use Rattle.fr_meaning.proofs.LockSteps.{whole_leads, dup_steps, focus_room}
use Rattle.fr_meaning.proofs.ParentLemmas.{parents_step}
use Rattle.fr_meaning.proofs.StepFacts.{steps_at, is_on}
use Rattle.fr_meaning.proofs.ThreadLists.{numbers_set, room_on, well_at, well_set}
use Rattle.fr_meaning.proofs.locks.go_dup.Goals as goal

pub dup-copied-requires-clause-goes : goal.dup-copied-requires-clause-goes
dup-copied-requires-clause-goes c =
    let fs = c.args.forms.now in
    let r = c.args.running.now in
    let x = c.index_mut-thread.result.now in
    let is = c.index_mut-thread.ensures.value in
    let s = steps_at fs r.threads.items (beside_of r.common) r.output.items c.args.turn.now.thread fresh.None c.args.turn.now.at (next.Dup c.args.place) r.places.numbers c.requires.order c.requires.stands.well c.requires.stands.numbers c.requires.place c.requires.inside c.requires.next c.requires.goes x is in
    dup_steps fs r.threads.items (beside_of r.common) r.output.items c.args.turn.now.thread c.args.turn.now.at x c.args.place c.as_slice-slots.result.now s c.as_slice-slots.ensures.value

pub resume-requires-clause-inside : goal.resume-requires-clause-inside
resume-requires-clause-inside c =
    let xs = c.args.running.now.threads.items in
    (well_at c.args.forms.now xs c.args.turn.now.at c.index_mut-thread.result.now c.requires.inside c.index_mut-thread.ensures.value c.requires.stands.well).frames

pub resume-requires-clause-room : goal.resume-requires-clause-room
resume-requires-clause-room c =
    let fs = c.args.forms.now in
    let xs = c.args.running.now.threads.items in
    let x = c.index_mut-thread.result.now in
    let is = c.index_mut-thread.ensures.value in
    focus_room fs x c.dup-copied.result (well_at fs xs c.args.turn.now.at x c.requires.inside is c.requires.stands.well)

pub resume-requires-clause-on : goal.resume-requires-clause-on
resume-requires-clause-on c = is_on (steps_at c.args.forms.now c.args.running.now.threads.items (beside_of c.args.running.now.common) c.args.running.now.output.items c.args.turn.now.thread fresh.None c.args.turn.now.at (next.Dup c.args.place) c.args.running.now.places.numbers c.requires.order c.requires.stands.well c.requires.stands.numbers c.requires.place c.requires.inside c.requires.next c.requires.goes c.index_mut-thread.result.now c.index_mut-thread.ensures.value)

pub resume-requires-clause-capacity : goal.resume-requires-clause-capacity
resume-requires-clause-capacity c =
    let x = c.index_mut-thread.result.now in
    let s = steps_at c.args.forms.now c.args.running.now.threads.items (beside_of c.args.running.now.common) c.args.running.now.output.items c.args.turn.now.thread fresh.None c.args.turn.now.at (next.Dup c.args.place) c.args.running.now.places.numbers c.requires.order c.requires.stands.well c.requires.stands.numbers c.requires.place c.requires.inside c.requires.next c.requires.goes c.index_mut-thread.result.now c.index_mut-thread.ensures.value in
    room_on x.stage (vec_capacity x.frames) (is_on s) s.well.room

pub returns-clause-step : goal.returns-clause-step
returns-clause-step c =
    let fs = c.args.forms.now in
    let r = c.args.running.now in
    let xs = r.threads.items in
    let b = beside_of r.common in
    let t = c.args.turn.now.thread in
    let i = c.args.turn.now.at in
    let x = c.index_mut-thread.result.now in
    let is = c.index_mut-thread.ensures.value in
    let y = c.resume.new.thread in
    let a = c.dup-copied in
    let s = steps_at fs xs b r.output.items t fresh.None i (next.Dup c.args.place) r.places.numbers c.requires.order c.requires.stands.well c.requires.stands.numbers c.requires.place c.requires.inside c.requires.next c.requires.goes x is in
    let m : Move Run = record { act = do_dup c.args.place; plug = temp } in
    let old = subst (λ (vs : List Value). Leads t fresh.None (do_dup c.args.place) (part vs b.heap b.mutexes) (part vs b.heap a.new.mutexes.mutexes) a.result a.new.labels.items released.Nothing) c.as_slice-slots.ensures.value a.ensures.act in
    let leads = subst (λ (vs : List Value). Leads t fresh.None (do_dup c.args.place) (part x.slots.items b.heap b.mutexes) (part vs b.heap a.new.mutexes.mutexes) a.result a.new.labels.items released.Nothing) (sym (ap (λ vs. vs.items) c.resume.ensures.slots)) old in
    let top = ap (λ (f : Focus). wrapped fs x.frames.items (focus_run fs f)) (c.requires.next x is) in
    whole_leads fs xs b r.output.items t i fresh.None x y x.frames.items (dup_r c.args.place) m b.heap a.new.mutexes.mutexes a.result a.new.labels.items released.Nothing s.place is (is_on s) top refl refl leads c.resume.ensures.run c.resume.ensures.number c.resume.ensures.stage

pub returns-clause-stands : goal.returns-clause-stands
returns-clause-stands c =
    let fs = c.args.forms.now in
    let xs = c.args.running.now.threads.items in
    let i = c.args.turn.now.at in
    record {
      numbers = c.requires.stands.numbers ∙ sym (numbers_set xs i c.index_mut-thread.result.now c.resume.new.thread c.index_mut-thread.ensures.value c.resume.ensures.number);
      well = well_set fs xs i c.resume.new.thread c.resume.ensures.well c.requires.stands.well;
      parents = parents_step c.args.running.now.common.pairs.pairs xs c.args.turn.now.thread i c.index_mut-thread.result.now c.resume.new.thread (ap (λ ns. place_of ns c.args.turn.now.thread) (sym c.requires.stands.numbers) ∙ c.requires.place)
          c.index_mut-thread.ensures.value c.resume.ensures.number (λ e. (let f : focus.Dup c.args.place ≡ focus.ParEnd = sym (c.requires.next c.index_mut-thread.result.now c.index_mut-thread.ensures.value) ∙ e in cc)) c.requires.stands.parents;
    }
