use Rattle.std.proofs.Common.{arith}
use Rattle.mutex_home.proofs.StoreLemmas.{placed, made_before}
use Rattle.mutex_home.proofs.store.place_of.Goals as goal

pub overflow_sub-result : goal.overflow_sub-result
overflow_sub-result c = let p = placed c.args.store.now c.args.number c.requires.there in let e = p.place in omega (arith, e)

pub returns-clause-made : goal.returns-clause-made
returns-clause-made c =
    let p = placed c.args.store.now c.args.number c.requires.there in
    let e = p.place in
    let before = made_before c.args.store.now c.args.number p in
    omega (arith, before, e, c.args.store.now.keys.ok.0)
