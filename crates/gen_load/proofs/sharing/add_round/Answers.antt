use Rattle.std.proofs.Common.{string_bytes}
use Rattle.gen_load.proofs.Texts.{round_written}
use Rattle.gen_load.proofs.sharing.add_round.Goals as goal

pub returns : goal.returns
returns c = round_written (string_bytes c.args.text.now) _ _ _ c.args.step c.in_ok-push_str.ensures.bytes c.in_ok-add_number.ensures c.in_ok-push_str-2.ensures.bytes
