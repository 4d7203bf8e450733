use Rattle.std.proofs.Common.{rules}
use Rattle.drust_io.proofs.FlowLemmas.{GoesOn-append}
use Rattle.std.proofs.Math.Seq.{take-add}
use Rattle.std.proofs.lemmas.List.{take_rest}
use Rattle.drust_io.proofs.whole.write_all.Goals as goal

pub loop-written-preserved : goal.loop-written-preserved
loop-written-preserved g c = record {
  within = search rules;
  so_far = rw take-add (GoesOn-append _ _ _ _ _ c.loop-written.invariant.so_far (rw (← take_rest c.args.bytes.now c.loop-written.written) c.in-Ok.ensures.bytes));
  grows = search rules;
}
