use Rattle.std.proofs.Common.{◌∙◌, sym}
use Rattle.fr_typing.specs.Kinds.{whole}
use Rattle.fr_types.specs.Types.{kind_of}
use Rattle.fr_types.specs.States.{env_of}
use Rattle.borrow_check.proofs.RuleLemmas.{on_ok_map, put_long, set_is}
use Rattle.borrow_check.proofs.rules.set_through.Goals as goal

pub returns-clause-set : goal.returns-clause-set
returns-clause-set c = on_ok_map _ _ c.put.result
    (λ put names. set_is (env_of names c.args.env.now) (env_of names c.put.new.self) c.args.x (kind_of c.args.t) (sym c.if-branch.false ∙ c.in_ok-goes_through_mutable.ensures names) (put names))
    c.put.ensures.put

pub returns-clause-same : goal.returns-clause-same
returns-clause-same c = on_ok_map _ _ c.put.result (λ put. put_long c.args.env.now c.put.new.self c.args.x (whole (kind_of c.args.t)) put) c.put.ensures.put
