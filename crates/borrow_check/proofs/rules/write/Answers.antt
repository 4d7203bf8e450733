use Rattle.std.proofs.lemmas.Result.{err_from_is_err_and}
use Rattle.fr_typing.specs.Kinds.{own, unit}
use Rattle.fr_typing.specs.Checks.{set_through}
use Rattle.fr_typing.specs.Finding.{typed}
use Rattle.fr_types.specs.Types.{kind_of, piece_of}
use Rattle.fr_types.specs.States.{env_of}
use Rattle.borrow_check.specs.Rules.{when_fitting}
use Rattle.borrow_check.proofs.RuleLemmas.{passes_fails, stays_below}
use Rattle.borrow_check.proofs.rules.write.Goals as goal

pub set_through-requires-clause-below : goal.set_through-requires-clause-below
set_through-requires-clause-below c = stays_below c.args.x.slot (kind_of c.args.value.t) c.in_ok-may_hold.ensures.stays

pub returns-in_err-may_open-clause-gives : goal.returns-in_err-may_open-clause-gives
returns-in_err-may_open-clause-gives c =
    let p = err_from_is_err_and c.from_residual.result c.from_residual.ensures.1 in
    λ names.
    let rest = when_fitting (env_of names c.args.env.now) c.args.value.place c.args.x (piece_of c.args.part) (kind_of c.args.value.t) (typed (own unit) (set_through (env_of names c.args.env.now) c.args.x (kind_of c.args.value.t))) in
    rw (p.1, p.2) (passes_fails (Unit {0}) _ rest _ (env_of names c.args.env.now) (c.in_err-may_open.ensures names rest))
