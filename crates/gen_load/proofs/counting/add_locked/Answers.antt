use Rattle.std.proofs.Common.{string_bytes}
use Rattle.gen_load.proofs.Texts.{locked_written}
use Rattle.gen_load.proofs.counting.add_locked.Goals as goal

pub returns : goal.returns
returns c = locked_written (string_bytes c.args.text.now) _ _ _ _ _ c.args.share.now c.args.step c.in_ok-push_str.ensures.bytes c.in_ok-push_str-2.ensures.bytes c.in_ok-push_str-3.ensures.bytes c.in_ok-add_number.ensures c.in_ok-push_str-4.ensures.bytes
