use Rattle.std.proofs.Common.{Ok, Err}
use Rattle.std.proofs.lemmas.Result.{err_from_is_err_and}
use Rattle.fr_syntax.specs.Meanings.{meanings, place_at}
use Rattle.fr_types.specs.Types.{kind_of}
use Rattle.borrow_check.proofs.RuleLemmas.{borrow_gives}
use Rattle.borrow_check.proofs.nodes.borrow.Goals as goal

pub returns-in_err-t-clause-gives : goal.returns-in_err-t-clause-gives
returns-in_err-t-clause-gives c =
    let p = err_from_is_err_and c.from_residual-in_err-t.result c.from_residual-in_err-t.ensures.1 in
    rw (p.1, p.2)
    (borrow_gives c.args.tree.now.names c.args.env.now (place_at (meanings c.args.tree.now) c.args.of) c.written_at-w.result c.in_ok-x.x c.in_ok-x.t (Err c.in_err-t.field-0.0)
    c.written_at-w.ensures.spot (c.in_ok-x.ensures.finds c.args.tree.now.names c.requires.scope c.written_at-w.ensures.name) (c.in_err-t.ensures.gives c.args.tree.now.names (kind_of c.in_ok-x.t)))

pub returns-clause-gives : goal.returns-clause-gives
returns-clause-gives c =
    borrow_gives c.args.tree.now.names c.args.env.now (place_at (meanings c.args.tree.now) c.args.of) c.written_at-w.result c.in_ok-x.x c.in_ok-x.t (Ok c.in_ok-t.t)
    c.written_at-w.ensures.spot (c.in_ok-x.ensures.finds c.args.tree.now.names c.requires.scope c.written_at-w.ensures.name) (c.in_ok-t.ensures.gives c.args.tree.now.names (kind_of c.in_ok-x.t))
