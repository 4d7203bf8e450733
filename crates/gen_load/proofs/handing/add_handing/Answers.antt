use Rattle.std.proofs.Common.{◌≡◌, arith, string_bytes}
use Rattle.gen_load.proofs.Texts.{handing_written, threads_more}
use Rattle.gen_load.proofs.handing.add_handing.Goals as goal

pub loop-i-preserved : goal.loop-i-preserved
loop-i-preserved c = threads_more _ _ _ c.loop-i.i c.args.step c.loop-i.invariant (rw c.from.ensures at c.in_ok-add_handed.ensures)

pub returns : goal.returns
returns c =
    let all : c.loop-i.i ≡ c.args.size = omega (arith, c.loop-i-test.false, c.loop-i.auto.i-end) in
    handing_written (string_bytes c.args.text.now) _ _ _ _ _ c.loop-i.i c.args.size c.args.step all c.in_ok-push_str.ensures.bytes c.in_ok-add_number.ensures c.in_ok-push_str-2.ensures.bytes c.loop-i.invariant c.in_ok-push_str-3.ensures.bytes
