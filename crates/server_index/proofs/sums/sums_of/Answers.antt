use Rattle.std.proofs.Common.{◌/◌, ◌+◌, length, refl, arith}
use Rattle.std.proofs.lemmas.List.{get_or_read_under}
use Rattle.server_index.proofs.SumLemmas.{no_sums, sum_fits, next_sum, all_sums}
use Rattle.server_index.proofs.sums.sums_of.Goals as goal

pub counts-init : goal.counts-init
counts-init c = no_sums c.args.level.now c.new-sums.result.items c.widen.new.entries.items (length c.args.level.now / 16 + 1) c.new-sums.ensures.items c.in_ok-widen.ensures.more (omega arith)

pub overflow_add-index_mut : goal.overflow_add-index_mut
overflow_add-index_mut c =
    let at = c.counts.at in
    let long = c.counts.invariant.long in
    let read = get_or_read_under c.counts.sums.items (at / 16) (length c.counts.sums.items) c.index_mut.result.now 0 c.index_mut.ensures.value (omega (arith, long, c.counts-test.true)) refl in
    omega (arith, read, sum_fits c.args.level.now c.counts.sums.items at (at / 16) c.counts.invariant (omega arith) c.counts-test.true, c.requires.fits)

pub counts-preserved : goal.counts-preserved
counts-preserved c =
    let at = c.counts.at in
    let long = c.counts.invariant.long in
    let read = get_or_read_under c.counts.sums.items (at / 16) (length c.counts.sums.items) c.index_mut.result.now 0 c.index_mut.ensures.value (omega (arith, long, c.counts-test.true)) refl in
    rw read (next_sum c.args.level.now c.counts.sums.items at (at / 16) c.counts.invariant (omega arith) (omega arith) c.counts-test.true)

pub returns : goal.returns
returns c = all_sums c.args.level.now c.counts.sums.items c.counts.at c.counts.invariant c.counts-test.false
