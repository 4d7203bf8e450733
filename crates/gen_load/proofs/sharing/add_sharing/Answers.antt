use Rattle.std.proofs.Common.{◌≡◌, arith, string_bytes}
use Rattle.gen_load.specs.Programs.{shared_round}
use Rattle.gen_load.proofs.Texts.{rounds_more, sharing_written}
use Rattle.gen_load.proofs.sharing.add_sharing.Goals as goal

pub loop-i-preserved : goal.loop-i-preserved
loop-i-preserved c = rounds_more _ _ _ (shared_round c.args.step) c.loop-i.i c.loop-i.invariant c.in_ok-add_round.ensures

pub returns : goal.returns
returns c =
    let all : c.loop-i.i ≡ c.args.size = omega (arith, c.loop-i-test.false, c.loop-i.auto.i-end) in
    sharing_written (string_bytes c.args.text.now) _ _ _ _ _ c.loop-i.i c.args.size c.args.step all c.in_ok-push_str.ensures.bytes c.in_ok-add_number.ensures c.in_ok-push_str-2.ensures.bytes c.loop-i.invariant c.in_ok-push_str-3.ensures.bytes
