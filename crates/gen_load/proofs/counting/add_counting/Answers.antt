use Rattle.std.proofs.Common.{string_bytes}
use Rattle.gen_load.proofs.Texts.{counting_written}
use Rattle.gen_load.proofs.counting.add_counting.Goals as goal

pub returns : goal.returns
returns c = counting_written (string_bytes c.args.text.now) _ _ _ _ _ c.args.size c.args.step c.in_ok-push_str.ensures.bytes c.in_ok-add_all_locked.ensures c.in_ok-push_str-2.ensures.bytes c.in_ok-add_all_locked-2.ensures c.in_ok-push_str-3.ensures.bytes
