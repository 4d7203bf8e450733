use Rattle.std.proofs.Common.{arith, vec_capacity}
use Rattle.fr_meaning.specs.DoneTerms.{over}
use Rattle.fr_meaning.specs.FrameTerms.{wrapped, focus_run}
use Rattle.fr_meaning.proofs.ThreadLemmas.{settle_kept}
use Rattle.fr_meaning.proofs.ThreadLists.{on_room}
use Rattle.fr_meaning.proofs.thread.resume.Goals as goal

pub returns-clause-well : goal.returns-clause-well
returns-clause-well c =
    let fs = c.args.forms.now in
    let p = wrapped fs c.args.thread.now.frames.items (over c.args.done) in
    let l = c.leave-thread in
    let kept = settle_kept p (wrapped fs l.new.frames.items (focus_run fs l.result)) p l.ensures.settles (omega arith) in
    record {
      frames = l.ensures.frames;
      way = l.ensures.way;
      settled = kept.0;
      depth = omega (arith, kept.1, c.requires.room);
      room = on_room c.args.thread.now.stage (vec_capacity l.new.frames) c.requires.on (omega (arith, l.ensures.capacity, c.requires.capacity));
    }
