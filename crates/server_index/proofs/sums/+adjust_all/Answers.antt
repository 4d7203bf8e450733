use Rattle.std.proofs.Common.{◌/◌, length, refl, ap, arith}
use Rattle.std.proofs.lemmas.List.{get_or_read_under}
use Rattle.server_index.proofs.SumLemmas.{count_most, above_all, upper_least, upper_inside, adjusted, first_above}
use Rattle.server_index.proofs.sums.+adjust_all.Goals as goal

pub overflow_add-index : goal.overflow_add-index
overflow_add-index t c = omega (arith, count_most c.args.level.now.items c.args.at c.index.result.now c.requires.within c.index.ensures, c.requires.fits)

pub adjust_all-requires : goal.adjust_all-requires
adjust_all-requires t c =
    let level = c.args.level.now.items in
    let sums = c.in-Some.sums.now.items in
    let above = first_above level c.args.above.now c.in-Some.rest.now c.in-Some.sums.now sums c.in-Some.ensures.cases.0 refl c.requires.above in (
      omega (arith, c.decreases, ap length c.in-Some.ensures.cases.0),
      (
        above.1,
        (
          upper_inside level sums c.args.at (c.args.at / 16) above.0 (omega arith) c.requires.within,
          (omega (arith, upper_least level sums c.args.at (c.args.at / 16) above.0 (omega arith) (omega arith), c.requires.least), omega (arith, above_all level sums above.0, c.requires.fits)),
        ),
      ),
    )

pub returns-in-Some-clause-above : goal.returns-in-Some-clause-above
returns-in-Some-clause-above t c =
    let level = c.args.level.now.items in
    let sums = c.in-Some.sums.now.items in
    let above = first_above level c.args.above.now c.in-Some.rest.now c.in-Some.sums.now sums c.in-Some.ensures.cases.0 refl c.requires.above in
    let read = get_or_read_under level c.args.at (length level) c.index.result.now 0 c.index.ensures c.requires.within refl in (
      rw (c.adjust_all.ensures.set, read) (adjusted level sums c.args.at (c.args.at / 16) c.args.less c.args.more above.0 (omega arith) (omega arith) c.requires.within c.requires.least),
      c.adjust_all.ensures.above,
    )
