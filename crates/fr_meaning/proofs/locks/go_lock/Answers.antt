use Rattle.std.proofs.Common.{◌≡◌, List, refl, sym, ap, ◌∙◌, subst, arith, vec_capacity}
use Rattle.std.specs.Prelude.{IsSome, slice_set}
use Rattle.fr_base.specs.declared.step.Fresh.TheVariants as fresh
use Rattle.fr_plain.specs.Acts.{do_lock, unit}
use Rattle.fr_plain.specs.Machine.{mutex_behind}
use Rattle.fr_plain.specs.Run.{Move, Run, lock as lock_r, locked, settle}
use Rattle.fr_plain.specs.declared.value.Value.{Value}
use Rattle.fr_forms.specs.Depths.{depth}
use Rattle.fr_forms.proofs.FormLemmas.{lock_run}
use Rattle.fr_shared.specs.declared.heap.Released.TheVariants as released
use Rattle.fr_acts.specs.Acting.{state}
use Rattle.fr_acts.specs.Behind.{content_behind}
use Rattle.fr_shared.specs.Places.{place_of}
use Rattle.fr_acts.specs.MutexActs.{Leads, part}
use Rattle.fr_meaning.specs.declared.next.Next.TheVariants as next
use Rattle.fr_meaning.specs.declared.frame.Focus.{Focus}
use Rattle.fr_meaning.specs.declared.frame.Focus.TheVariants as focus
use Rattle.fr_meaning.specs.declared.frame.Frame.{Frame}
use Rattle.fr_meaning.specs.Beside.{beside_of}
use Rattle.fr_meaning.specs.FrameTerms.{wrapped, focus_run, HasMadeWay}
use Rattle.fr_meaning.specs.PoolView.{Entry}
use Rattle.fr_meaning.specs.Threads.{IsGoingOn}
use Rattle.fr_meaning.proofs.EntryLemmas.{entries_set, view_same, reserved, on_err}
use Rattle.fr_meaning.proofs.LockSteps.{whole_leads, lock_steps}
use Rattle.fr_meaning.proofs.ParentLemmas.{parents_same, parents_step}
use Rattle.fr_meaning.proofs.StepFacts.{steps_at, is_on}
use Rattle.fr_meaning.proofs.ThreadLists.{numbers_set, room_on, well_at, well_set}
use Rattle.fr_meaning.proofs.locks.go_lock.Goals as goal

pub returns-in_err-reserve_lock-clause-stands : goal.returns-in_err-reserve_lock-clause-stands
returns-in_err-reserve_lock-clause-stands c =
    let fs = c.args.forms.now in
    let r = c.args.running.now in
    let s = c.requires.stands in
    let k = reserved fs r.threads.items c.args.turn.now.at c.index_mut-locking.result.now c.reserve_lock.new.thread c.requires.inside c.index_mut-locking.ensures.value c.reserve_lock.ensures.entry (c.reserve_lock.ensures.well fs) s.well in
    record { numbers = s.numbers ∙ sym k.0; well = k.1; parents = parents_same r.common.pairs.pairs r.threads.items c.args.turn.now.at c.index_mut-locking.result.now c.reserve_lock.new.thread c.index_mut-locking.ensures.value (ap (λ (q : Entry). q.number) c.reserve_lock.ensures.entry) (ap (λ (q : Entry). q.focus) c.reserve_lock.ensures.entry) s.parents }

pub returns-in_err-reserve_lock-clause-err : goal.returns-in_err-reserve_lock-clause-err
returns-in_err-reserve_lock-clause-err c =
    let fs = c.args.forms.now in
    let r = c.args.running.now in
    let y = c.reserve_lock.new.thread in
    on_err c.from_residual-in_err-reserve_lock.result (view_same fs r.threads.items (slice_set r.threads.items c.args.turn.now.at y) (beside_of r.common) (beside_of r.common) r.output.items r.output.items (entries_set r.threads.items c.args.turn.now.at c.index_mut-locking.result.now y c.index_mut-locking.ensures.value c.reserve_lock.ensures.entry) refl refl)

pub lock-requires-clause-goes : goal.lock-requires-clause-goes
lock-requires-clause-goes c =
    let fs = c.args.forms.now in
    let r = c.args.running.now in
    let b = beside_of r.common in
    let t = c.args.turn.now.thread in
    let x = c.index_mut-locking.result.now in
    let is = c.index_mut-locking.ensures.value in
    let s = steps_at fs r.threads.items b r.output.items t fresh.None c.args.turn.now.at (next.Lock c.args.place c.args.node) r.places.numbers c.requires.order c.requires.stands.well c.requires.stands.numbers c.requires.place c.requires.inside c.requires.next c.requires.goes x is in
    subst (λ (vs : List Value). IsSome (content_behind b.mutexes (mutex_behind (state t vs b.heap) c.args.place))) (sym (ap (λ (q : Entry). q.slots) c.reserve_lock.ensures.entry)) (lock_steps fs r.threads.items b r.output.items t c.args.turn.now.at x c.args.place c.args.node s)

pub enter_locked-requires-clause-inside : goal.enter_locked-requires-clause-inside
enter_locked-requires-clause-inside c =
    let fs = c.args.forms.now in
    let xs = c.args.running.now.threads.items in
    let x = c.index_mut-locking.result.now in
    let is = c.index_mut-locking.ensures.value in
    let well = well_at fs xs c.args.turn.now.at x c.requires.inside is c.requires.stands.well in
    (subst (λ (f : Focus). HasMadeWay fs x.frames.items f) (c.requires.next x is) well.way).0

pub enter_locked-requires-clause-lock : goal.enter_locked-requires-clause-lock
enter_locked-requires-clause-lock c =
    let fs = c.args.forms.now in
    let xs = c.args.running.now.threads.items in
    let x = c.index_mut-locking.result.now in
    let is = c.index_mut-locking.ensures.value in
    let well = well_at fs xs c.args.turn.now.at x c.requires.inside is c.requires.stands.well in
    (c.args.place, (subst (λ (f : Focus). HasMadeWay fs x.frames.items f) (c.requires.next x is) well.way).1)

pub enter_locked-requires-clause-frames : goal.enter_locked-requires-clause-frames
enter_locked-requires-clause-frames c =
    let fs = c.args.forms.now in
    let xs = c.args.running.now.threads.items in
    let x = c.index_mut-locking.result.now in
    let is = c.index_mut-locking.ensures.value in
    (c.reserve_lock.ensures.well fs (well_at fs xs c.args.turn.now.at x c.requires.inside is c.requires.stands.well)).frames

pub enter_locked-requires-clause-room : goal.enter_locked-requires-clause-room
enter_locked-requires-clause-room c =
    let fs = c.args.forms.now in
    let xs = c.args.running.now.threads.items in
    let x = c.index_mut-locking.result.now in
    let z = c.reserve_lock.new.thread in
    let is = c.index_mut-locking.ensures.value in
    let well = c.reserve_lock.ensures.well fs (well_at fs xs c.args.turn.now.at x c.requires.inside is c.requires.stands.well) in
    let e : z.focus ≡ focus.Lock c.args.place c.args.node = ap (λ (q : Entry). q.focus) c.reserve_lock.ensures.entry ∙ c.requires.next x is in
    omega (arith, ap (λ (f : Focus). depth (wrapped fs z.frames.items (focus_run fs f))) e, well.depth)

pub enter_locked-requires-clause-on : goal.enter_locked-requires-clause-on
enter_locked-requires-clause-on c = subst IsGoingOn (sym (ap (λ (q : Entry). q.stage) c.reserve_lock.ensures.entry)) (is_on (steps_at c.args.forms.now c.args.running.now.threads.items (beside_of c.args.running.now.common) c.args.running.now.output.items c.args.turn.now.thread fresh.None c.args.turn.now.at (next.Lock c.args.place c.args.node) c.args.running.now.places.numbers c.requires.order c.requires.stands.well c.requires.stands.numbers c.requires.place c.requires.inside c.requires.next c.requires.goes c.index_mut-locking.result.now c.index_mut-locking.ensures.value))

pub enter_locked-requires-clause-capacity : goal.enter_locked-requires-clause-capacity
enter_locked-requires-clause-capacity c =
    let z = c.reserve_lock.new.thread in
    let s = steps_at c.args.forms.now c.args.running.now.threads.items (beside_of c.args.running.now.common) c.args.running.now.output.items c.args.turn.now.thread fresh.None c.args.turn.now.at (next.Lock c.args.place c.args.node) c.args.running.now.places.numbers c.requires.order c.requires.stands.well c.requires.stands.numbers c.requires.place c.requires.inside c.requires.next c.requires.goes c.index_mut-locking.result.now c.index_mut-locking.ensures.value in
    let on = subst IsGoingOn (sym (ap (λ (q : Entry). q.stage) c.reserve_lock.ensures.entry)) (is_on s) in
    room_on z.stage (vec_capacity z.frames) on (c.reserve_lock.ensures.well c.args.forms.now s.well).room

pub returns-clause-step : goal.returns-clause-step
returns-clause-step c =
    let fs = c.args.forms.now in
    let r = c.args.running.now in
    let xs = r.threads.items in
    let b = beside_of r.common in
    let t = c.args.turn.now.thread in
    let i = c.args.turn.now.at in
    let x = c.index_mut-locking.result.now in
    let z = c.reserve_lock.new.thread in
    let is = c.index_mut-locking.ensures.value in
    let y = c.enter_locked.new.thread in
    let a = c.lock in
    let w = c.args.place in
    let s = steps_at fs xs b r.output.items t fresh.None i (next.Lock w c.args.node) r.places.numbers c.requires.order c.requires.stands.well c.requires.stands.numbers c.requires.place c.requires.inside c.requires.next c.requires.goes x is in
    let way = subst (λ (f : Focus). HasMadeWay fs x.frames.items f) (c.requires.next x is) s.well.way in
    let l = lock_run fs c.args.node w c.requires.order way.0 way.1 in
    let m : Move Run = record { act = do_lock w; plug = λ v. locked l.0 } in
    let slots = ap (λ (q : Entry). q.slots) c.reserve_lock.ensures.entry in
    let first = subst (λ (vs : List Value). Leads t fresh.None (do_lock w) (part vs b.heap b.mutexes) (part a.new.slots.items b.heap a.new.mutexes.mutexes) unit a.new.labels.items released.Nothing) slots a.ensures.act in
    let leads = subst (λ (vs : List Value). Leads t fresh.None (do_lock w) (part x.slots.items b.heap b.mutexes) (part vs b.heap a.new.mutexes.mutexes) unit a.new.labels.items released.Nothing) (sym (ap (λ vs. vs.items) c.enter_locked.ensures.slots)) first in
    let top = ap (λ (f : Focus). wrapped fs x.frames.items (focus_run fs f)) (c.requires.next x is) ∙ ap (wrapped fs x.frames.items) l.1 in
    let goes = c.enter_locked.ensures.run w l.0 l.1 ∙ ap (λ (gs : List Frame). settle (wrapped fs gs (locked l.0))) (ap (λ (q : Entry). q.frames) c.reserve_lock.ensures.entry) in
    whole_leads fs xs b r.output.items t i fresh.None x y x.frames.items (lock_r w l.0) m b.heap a.new.mutexes.mutexes unit a.new.labels.items released.Nothing s.place is (is_on s) top refl refl leads goes
    (c.enter_locked.ensures.number ∙ ap (λ (q : Entry). q.number) c.reserve_lock.ensures.entry) (c.enter_locked.ensures.stage ∙ ap (λ (q : Entry). q.stage) c.reserve_lock.ensures.entry)

pub returns-clause-stands : goal.returns-clause-stands
returns-clause-stands c =
    let fs = c.args.forms.now in
    let xs = c.args.running.now.threads.items in
    let i = c.args.turn.now.at in
    record {
      numbers = c.requires.stands.numbers ∙ sym (numbers_set xs i c.index_mut-locking.result.now c.enter_locked.new.thread c.index_mut-locking.ensures.value (c.enter_locked.ensures.number ∙ ap (λ (q : Entry). q.number) c.reserve_lock.ensures.entry));
      well = well_set fs xs i c.enter_locked.new.thread c.enter_locked.ensures.well c.requires.stands.well;
      parents = parents_step c.args.running.now.common.pairs.pairs xs c.args.turn.now.thread i c.index_mut-locking.result.now c.enter_locked.new.thread (ap (λ ns. place_of ns c.args.turn.now.thread) (sym c.requires.stands.numbers) ∙ c.requires.place)
          c.index_mut-locking.ensures.value (c.enter_locked.ensures.number ∙ ap (λ (q : Entry). q.number) c.reserve_lock.ensures.entry) (λ e. (let f : focus.Lock c.args.place c.args.node ≡ focus.ParEnd = sym (c.requires.next c.index_mut-locking.result.now c.index_mut-locking.ensures.value) ∙ e in cc)) c.requires.stands.parents;
    }
