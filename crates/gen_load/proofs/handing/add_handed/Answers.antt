use Rattle.std.proofs.Common.{string_bytes}
use Rattle.gen_load.proofs.Texts.{handed_written}
use Rattle.gen_load.proofs.handing.add_handed.Goals as goal

pub returns : goal.returns
returns c = handed_written (string_bytes c.args.text.now) _ _ _ _ _ _ _ c.args.i c.args.step c.in_ok-push_str.ensures.bytes c.in_ok-add_number.ensures c.in_ok-push_str-2.ensures.bytes c.in_ok-add_number-2.ensures c.in_ok-push_str-3.ensures.bytes c.in_ok-add_number-3.ensures c.in_ok-push_str-4.ensures.bytes
