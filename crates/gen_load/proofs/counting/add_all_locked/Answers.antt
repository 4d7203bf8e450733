use Rattle.std.proofs.Common.{string_bytes}
use Rattle.gen_load.specs.Programs.{add_locked}
use Rattle.gen_load.proofs.Texts.{locked_more}
use Rattle.gen_load.proofs.counting.add_all_locked.Goals as goal

pub loop-i-preserved : goal.loop-i-preserved
loop-i-preserved c = locked_more (string_bytes c.args.text.now) _ _ _ (add_locked c.args.share.now c.args.step) c.loop-i.i c.loop-i.auto.i c.loop-i.invariant c.in_ok-push_str.ensures.bytes c.in_ok-add_locked-2.ensures
