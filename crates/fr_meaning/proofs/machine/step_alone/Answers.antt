use Rattle.std.proofs.Common.{◌≡◌, ◌≤◌, List, length, refl, sym, ap, ◌∙◌, subst, arith, vec_capacity}
use Rattle.std.specs.Prelude.{IsSome}
use Rattle.fr_plain.specs.declared.value.Value.{Value}
use Rattle.fr_plain.specs.Acts.{act, do_read, do_borrow}
use Rattle.fr_plain.specs.Run.{Run, temp, read, borrow, dup, par_end}
use Rattle.fr_meaning.specs.declared.frame.Done.TheVariants as done
use Rattle.fr_meaning.specs.declared.frame.Focus.{Focus}
use Rattle.fr_meaning.specs.Contexts.{fill, IsSettled}
use Rattle.fr_forms.specs.Depths.{depth}
use Rattle.fr_meaning.specs.DoneTerms.{over}
use Rattle.fr_meaning.specs.FrameTerms.{wrapped, all_around, around, focus_run, AreInside, TopIsPastLeft, HasMadeWay}
use Rattle.fr_acts.specs.Acting.{state, did}
use Rattle.fr_meaning.specs.Turning.{term_step}
use Rattle.fr_acts.proofs.ActLemmas.{no_print}
use Rattle.fr_meaning.proofs.ContextLemmas.{settled_wrap}
use Rattle.fr_meaning.proofs.FrameLemmas.{inside_front, wrap_push, room_less, top_past}
use Rattle.fr_meaning.proofs.StepLemmas.{step_in, goes_in_frames, read_goes, read_turns, borrow_goes, borrow_turns, settled_waits, not_alone, spawn_alone, lock_alone, par_alone}
use Rattle.fr_meaning.specs.declared.thread.Stage.{Stage}
use Rattle.fr_meaning.specs.Threads.{run_in, HasRoom}
use Rattle.fr_shared.specs.declared.heap.Released.TheVariants as released
use Rattle.fr_meaning.proofs.ThreadLemmas.{term_kept}
use Rattle.fr_meaning.proofs.ThreadLists.{on_room, room_on}
use Rattle.fr_meaning.proofs.machine.step_alone.Goals as goal

pub read-value-requires-clause-goes : goal.read-value-requires-clause-goes
read-value-requires-clause-goes c =
    let fs = c.args.forms.now in
    let s = state c.args.thread.now.number c.args.thread.now.slots.items c.args.heap.now.heap in
    let goes = subst (λ (f : Focus). IsSome (term_step (wrapped fs c.args.thread.now.frames.items (focus_run fs f)) s)) c.in-Read.is c.requires.goes in
    read_goes c.in-Read.place c.in-Read.take s (goes_in_frames fs c.args.thread.now.frames.items (read c.in-Read.place c.in-Read.take) s refl goes)

pub leave-thread-requires-clause-room : goal.leave-thread-requires-clause-room
leave-thread-requires-clause-room c =
    let fs = c.args.forms.now in
    let x = c.args.thread.now in
    let all : depth (run_in fs x) ≤ vec_capacity x.frames = omega (arith, c.requires.well.depth, room_on x.stage (vec_capacity x.frames) c.requires.goes_on c.requires.well.room) in
    let room = subst (λ (f : Focus). depth (wrapped fs x.frames.items (focus_run fs f)) ≤ vec_capacity x.frames) c.in-Read.is all in
    room_less fs c.args.thread.now.frames.items c.args.thread.now.frames.items (read c.in-Read.place c.in-Read.take) (over (done.Temp c.read-value.result)) (vec_capacity c.args.thread.now.frames) (vec_capacity c.args.thread.now.frames) refl (omega arith) room refl

pub returns-in-Read : goal.returns-in-Read
returns-in-Read c =
    let fs = c.args.forms.now in
    let s = state c.args.thread.now.number c.args.thread.now.slots.items c.args.heap.now.heap in
    let x = c.args.thread.now in
    let step =
    ap (λ (f : Focus). term_step (wrapped fs c.args.thread.now.frames.items (focus_run fs f)) s) c.in-Read.is
    ∙ step_in fs c.args.thread.now.frames.items (read c.in-Read.place c.in-Read.take) (temp c.read-value.result) (wrapped fs c.leave-thread.new.frames.items (focus_run fs c.leave-thread.result)) s c.args.thread.now.number c.read-value.new.slots.items c.read-value.new.heap.heap c.read-value.new.labels.items released.Nothing
    refl (read_turns c.in-Read.place c.in-Read.take s c.read-value.result c.args.thread.now.number c.read-value.new.slots.items c.read-value.new.heap.heap c.read-value.new.labels.items released.Nothing refl c.read-value.ensures) c.leave-thread.ensures.settles in
    let kept = term_kept (run_in fs x) (wrapped fs c.leave-thread.new.frames.items (focus_run fs c.leave-thread.result)) s x.number c.read-value.new.slots.items c.read-value.new.heap.heap c.read-value.new.labels.items released.Nothing step in
    record {
      step = step;
      output = no_print (do_read c.in-Read.place c.in-Read.take) (state c.args.thread.now.number c.args.thread.now.slots.items c.args.heap.now.heap) c.read-value.result c.args.thread.now.number c.read-value.new.slots.items c.read-value.new.heap.heap c.read-value.new.labels.items c.args.output.now.items tt c.read-value.ensures;
      well = record {
        frames = c.leave-thread.ensures.frames;
        way = c.leave-thread.ensures.way;
        settled = kept.0;
        depth = omega (arith, kept.1, c.requires.well.depth);
        room = on_room x.stage (vec_capacity c.leave-thread.new.frames) c.requires.goes_on (omega (arith, c.leave-thread.ensures.capacity, room_on x.stage (vec_capacity x.frames) c.requires.goes_on c.requires.well.room));
      };
      number = refl;
      stage = refl;
    }

pub borrow-value-requires-clause-goes : goal.borrow-value-requires-clause-goes
borrow-value-requires-clause-goes c =
    let fs = c.args.forms.now in
    let s = state c.args.thread.now.number c.args.thread.now.slots.items c.args.heap.now.heap in
    let goes = subst (λ (f : Focus). IsSome (term_step (wrapped fs c.args.thread.now.frames.items (focus_run fs f)) s)) c.in-Borrow.is c.requires.goes in
    subst (λ (vs : List Value). IsSome (act (do_borrow c.in-Borrow.place c.in-Borrow.field-1) (state c.args.thread.now.number vs c.args.heap.now.heap))) (sym c.deref.ensures.value)
    (borrow_goes c.in-Borrow.place c.in-Borrow.field-1 s (goes_in_frames fs c.args.thread.now.frames.items (borrow c.in-Borrow.place c.in-Borrow.field-1) s refl goes))

pub leave-thread-requires-in-Borrow-clause-room : goal.leave-thread-requires-in-Borrow-clause-room
leave-thread-requires-in-Borrow-clause-room c =
    let fs = c.args.forms.now in
    let x = c.args.thread.now in
    let all : depth (run_in fs x) ≤ vec_capacity x.frames = omega (arith, c.requires.well.depth, room_on x.stage (vec_capacity x.frames) c.requires.goes_on c.requires.well.room) in
    let room = subst (λ (f : Focus). depth (wrapped fs x.frames.items (focus_run fs f)) ≤ vec_capacity x.frames) c.in-Borrow.is all in
    room_less fs c.args.thread.now.frames.items c.args.thread.now.frames.items (borrow c.in-Borrow.place c.in-Borrow.field-1) (over (done.Temp c.borrow-value.result)) (vec_capacity c.args.thread.now.frames) (vec_capacity c.args.thread.now.frames) refl (omega arith) room refl

pub returns-in-Borrow : goal.returns-in-Borrow
returns-in-Borrow c =
    let fs = c.args.forms.now in
    let h = c.args.heap.now.heap in
    let s = state c.args.thread.now.number c.args.thread.now.slots.items h in
    let ls = c.borrow-value.new.labels.items in
    let acts = subst (λ (vs : List Value). act (do_borrow c.in-Borrow.place c.in-Borrow.field-1) (state c.args.thread.now.number vs h) ≡ did c.borrow-value.result c.args.thread.now.number vs h ls) c.deref.ensures.value c.borrow-value.ensures in
    let x = c.args.thread.now in
    let step =
    ap (λ (f : Focus). term_step (wrapped fs c.args.thread.now.frames.items (focus_run fs f)) s) c.in-Borrow.is
    ∙ step_in fs c.args.thread.now.frames.items (borrow c.in-Borrow.place c.in-Borrow.field-1) (temp c.borrow-value.result) (wrapped fs c.leave-thread-in-Borrow.new.frames.items (focus_run fs c.leave-thread-in-Borrow.result)) s c.args.thread.now.number c.args.thread.now.slots.items h ls released.Nothing
    refl (borrow_turns c.in-Borrow.place c.in-Borrow.field-1 s c.borrow-value.result c.args.thread.now.number c.args.thread.now.slots.items h ls released.Nothing refl acts) c.leave-thread-in-Borrow.ensures.settles in
    let kept = term_kept (run_in fs x) (wrapped fs c.leave-thread-in-Borrow.new.frames.items (focus_run fs c.leave-thread-in-Borrow.result)) s x.number x.slots.items h ls released.Nothing step in
    record {
      step = step;
      output = no_print (do_borrow c.in-Borrow.place c.in-Borrow.field-1) (state c.args.thread.now.number c.deref.result.now c.args.heap.now.heap) c.borrow-value.result c.args.thread.now.number c.deref.result.now c.args.heap.now.heap c.borrow-value.new.labels.items c.args.output.now.items tt c.borrow-value.ensures;
      well = record {
        frames = c.leave-thread-in-Borrow.ensures.frames;
        way = c.leave-thread-in-Borrow.ensures.way;
        settled = kept.0;
        depth = omega (arith, kept.1, c.requires.well.depth);
        room = on_room x.stage (vec_capacity c.leave-thread-in-Borrow.new.frames) c.requires.goes_on (omega (arith, c.leave-thread-in-Borrow.ensures.capacity, room_on x.stage (vec_capacity x.frames) c.requires.goes_on c.requires.well.room));
      };
      number = refl;
      stage = refl;
    }

pub step_frame-requires-clause-past : goal.step_frame-requires-clause-past
step_frame-requires-clause-past c =
    let gs = c.pop.new.self.items in
    let way = subst (λ (f : Focus). HasMadeWay c.args.forms.now c.args.thread.now.frames.items f) c.in-Over.is c.requires.well.way in
    top_past gs c.in-Some.frame (subst TopIsPastLeft c.in-Some.ensures.items way)

pub step_frame-requires-clause-frame : goal.step_frame-requires-clause-frame
step_frame-requires-clause-frame c =
    (inside_front (length c.args.forms.now) c.pop.new.self.items c.in-Some.frame (subst (AreInside (length c.args.forms.now)) c.in-Some.ensures.items c.requires.well.frames)).1

pub step_frame-requires-clause-frames : goal.step_frame-requires-clause-frames
step_frame-requires-clause-frames c =
    (inside_front (length c.args.forms.now) c.pop.new.self.items c.in-Some.frame (subst (AreInside (length c.args.forms.now)) c.in-Some.ensures.items c.requires.well.frames)).0

pub step_frame-requires-clause-settled : goal.step_frame-requires-clause-settled
step_frame-requires-clause-settled c =
    let fs = c.args.forms.now in
    let gs = c.pop.new.self.items in
    let e = ap (λ (f : Focus). wrapped fs c.args.thread.now.frames.items (focus_run fs f)) c.in-Over.is ∙ ap (λ ks. wrapped fs ks (over c.in-Over.done)) c.in-Some.ensures.items ∙ wrap_push fs gs c.in-Some.frame (over c.in-Over.done) in
    settled_wrap (all_around fs gs) (fill (around fs c.in-Some.frame) (over c.in-Over.done)) (subst IsSettled e c.requires.well.settled)

pub step_frame-requires-clause-room : goal.step_frame-requires-clause-room
step_frame-requires-clause-room c =
    let fs = c.args.forms.now in
    let gs = c.pop.new.self.items in
    let e = ap (λ (f : Focus). wrapped fs c.args.thread.now.frames.items (focus_run fs f)) c.in-Over.is ∙ ap (λ ks. wrapped fs ks (over c.in-Over.done)) c.in-Some.ensures.items ∙ wrap_push fs gs c.in-Some.frame (over c.in-Over.done) in
    let d = ap depth e in
    let room = room_on c.args.thread.now.stage (vec_capacity c.args.thread.now.frames) c.requires.goes_on c.requires.well.room in
    omega (arith, d, c.requires.well.depth, room, c.in-Some.ensures.capacity)

pub step_frame-requires-clause-goes : goal.step_frame-requires-clause-goes
step_frame-requires-clause-goes c =
    let fs = c.args.forms.now in
    let gs = c.pop.new.self.items in
    let s = state c.args.thread.now.number c.args.thread.now.slots.items c.args.heap.now.heap in
    let e = ap (λ (f : Focus). wrapped fs c.args.thread.now.frames.items (focus_run fs f)) c.in-Over.is ∙ ap (λ ks. wrapped fs ks (over c.in-Over.done)) c.in-Some.ensures.items ∙ wrap_push fs gs c.in-Some.frame (over c.in-Over.done) in
    let settled = settled_wrap (all_around fs gs) (fill (around fs c.in-Some.frame) (over c.in-Over.done)) (subst IsSettled e c.requires.well.settled) in
    goes_in_frames fs gs (fill (around fs c.in-Some.frame) (over c.in-Over.done)) s (settled_waits fs c.in-Some.frame c.in-Over.done settled) (subst (λ (r : Run). IsSome (term_step r s)) e c.requires.goes)

pub returns-in-Some : goal.returns-in-Some
returns-in-Some c =
    let fs = c.args.forms.now in
    let gs = c.pop.new.self.items in
    let e = ap (λ (f : Focus). wrapped fs c.args.thread.now.frames.items (focus_run fs f)) c.in-Over.is ∙ ap (λ ks. wrapped fs ks (over c.in-Over.done)) c.in-Some.ensures.items ∙ wrap_push fs gs c.in-Some.frame (over c.in-Over.done) in
    let x = c.args.thread.now in
    let a = c.step_frame in
    let s = state x.number x.slots.items c.args.heap.now.heap in
    let step = ap (λ r. term_step r s) e ∙ a.ensures.step in
    let kept = term_kept (run_in fs x) (run_in fs a.new.thread) s x.number a.new.thread.slots.items a.new.heap.heap a.new.labels.items a.result step in
    record {
      step = step;
      output = a.ensures.output;
      well = record {
        frames = a.ensures.frames;
        way = a.ensures.way;
        settled = kept.0;
        depth = omega (arith, kept.1, c.requires.well.depth);
        room = subst (λ (g : Stage). HasRoom g (vec_capacity a.new.thread.frames)) (sym a.ensures.stage) (on_room x.stage (vec_capacity a.new.thread.frames) c.requires.goes_on (omega (arith, a.ensures.capacity, c.in-Some.ensures.capacity, room_on x.stage (vec_capacity x.frames) c.requires.goes_on c.requires.well.room)));
      };
      number = a.ensures.number;
      stage = a.ensures.stage;
    }

pub unreachable-requires : goal.unreachable-requires
unreachable-requires c =
    let fs = c.args.forms.now in
    let gs = c.args.thread.now.frames.items in
    let s = state c.args.thread.now.number c.args.thread.now.slots.items c.args.heap.now.heap in
    let way = subst (λ (f : Focus). HasMadeWay fs gs f) c.in-Spawn.is c.requires.well.way in
    spawn_alone fs gs c.in-Spawn.field-0 s c.requires.order way (subst (λ (f : Focus). IsSome (term_step (wrapped fs gs (focus_run fs f)) s)) c.in-Spawn.is c.requires.goes)

pub unreachable-requires-in-Dup : goal.unreachable-requires-in-Dup
unreachable-requires-in-Dup c =
    let fs = c.args.forms.now in
    let gs = c.args.thread.now.frames.items in
    let s = state c.args.thread.now.number c.args.thread.now.slots.items c.args.heap.now.heap in
    not_alone fs gs (dup c.in-Dup.field-0) (dup c.in-Dup.field-0) s refl refl refl (subst (λ (f : Focus). IsSome (term_step (wrapped fs gs (focus_run fs f)) s)) c.in-Dup.is c.requires.goes)

pub unreachable-requires-in-Lock : goal.unreachable-requires-in-Lock
unreachable-requires-in-Lock c =
    let fs = c.args.forms.now in
    let gs = c.args.thread.now.frames.items in
    let s = state c.args.thread.now.number c.args.thread.now.slots.items c.args.heap.now.heap in
    let way = subst (λ (f : Focus). HasMadeWay fs gs f) c.in-Lock.is c.requires.well.way in
    lock_alone fs gs c.in-Lock.field-0 c.in-Lock.field-1 s c.requires.order way (subst (λ (f : Focus). IsSome (term_step (wrapped fs gs (focus_run fs f)) s)) c.in-Lock.is c.requires.goes)

pub unreachable-requires-in-Par : goal.unreachable-requires-in-Par
unreachable-requires-in-Par c =
    let fs = c.args.forms.now in
    let gs = c.args.thread.now.frames.items in
    let s = state c.args.thread.now.number c.args.thread.now.slots.items c.args.heap.now.heap in
    let way = subst (λ (f : Focus). HasMadeWay fs gs f) c.in-Par.is c.requires.well.way in
    par_alone fs gs c.in-Par.field-0 s c.requires.order way (subst (λ (f : Focus). IsSome (term_step (wrapped fs gs (focus_run fs f)) s)) c.in-Par.is c.requires.goes)

pub unreachable-requires-in-ParEnd : goal.unreachable-requires-in-ParEnd
unreachable-requires-in-ParEnd c =
    let fs = c.args.forms.now in
    let gs = c.args.thread.now.frames.items in
    let s = state c.args.thread.now.number c.args.thread.now.slots.items c.args.heap.now.heap in
    not_alone fs gs par_end par_end s refl refl refl (subst (λ (f : Focus). IsSome (term_step (wrapped fs gs (focus_run fs f)) s)) c.in-ParEnd.is c.requires.goes)
