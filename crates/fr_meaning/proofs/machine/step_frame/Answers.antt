use Rattle.std.proofs.Common.{sym, ap, ◌∙◌, subst, length, arith, vec_capacity}
use Rattle.fr_plain.specs.Run.{settle}
use Rattle.fr_meaning.specs.Contexts.{fill}
use Rattle.fr_meaning.specs.DoneTerms.{over}
use Rattle.fr_meaning.specs.FrameTerms.{wrapped, around, focus_run, AreInside}
use Rattle.fr_acts.specs.Acting.{state}
use Rattle.fr_meaning.proofs.FrameLemmas.{depth_over, room_less}
use Rattle.fr_meaning.proofs.StepLemmas.{step_in, settled_waits}
use Rattle.fr_meaning.proofs.machine.step_frame.Goals as goal

pub leave-thread-requires : goal.leave-thread-requires
leave-thread-requires c =
    let fs = c.args.forms.now in
    let x = c.args.thread.now in
    let filled = c.args.filled in
    let a = c.operate-over in
    let items = ap (λ gs. gs.items) a.ensures.frames in
    record {
      order = c.requires.order;
      frames = subst (AreInside (length fs)) (sym items) c.requires.frames;
      room = room_less fs x.frames.items a.new.thread.frames.items (fill (around fs filled.frame) (over filled.done)) (over a.result.0) (vec_capacity x.frames) (vec_capacity a.new.thread.frames) items (omega (arith, depth_over a.result.0)) c.requires.room (ap vec_capacity a.ensures.frames);
    }

pub returns : goal.returns
returns c =
    let fs = c.args.forms.now in
    let x = c.args.thread.now in
    let filled = c.args.filled in
    let a = c.operate-over in
    let l = c.leave-thread in
    let items = ap (λ gs. gs.items) a.ensures.frames in
    record {
      step = step_in fs x.frames.items (fill (around fs filled.frame) (over filled.done)) (over a.result.0) (wrapped fs l.new.frames.items (focus_run fs l.result)) (state x.number x.slots.items c.args.heap.now.heap)
          x.number a.new.thread.slots.items a.new.heap.heap a.new.labels.items a.result.1 (settled_waits fs filled.frame filled.done c.requires.settled) a.ensures.turns
          (l.ensures.settles ∙ ap (λ gs. settle (wrapped fs gs (over a.result.0))) items);
      output = a.ensures.output;
      way = l.ensures.way;
      capacity = l.ensures.capacity ∙ ap vec_capacity a.ensures.frames;
      frames = l.ensures.frames;
      number = a.ensures.number;
      stage = a.ensures.stage;
    }
