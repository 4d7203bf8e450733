use Rattle.std.proofs.Common.{refl}
use Rattle.std.proofs.lemmas.Result.{err_from_is_err_and}
use Rattle.fr_types.specs.Types.{piece_of}
use Rattle.fr_types.specs.States.{env_of}
use Rattle.borrow_check.specs.Rules.{spot_of}
use Rattle.borrow_check.proofs.ScopeLemmas.{lacking_by, error_whole}
use Rattle.borrow_check.proofs.finding.find_whole.Goals as goal

pub returns-in_err-x-clause-finds : goal.returns-in_err-x-clause-finds
returns-in_err-x-clause-finds c = λ names h lt.
    let p = err_from_is_err_and c.from_residual.result c.from_residual.ensures.1 in
    rw (p.1, p.2) (error_whole (env_of names c.args.env.now) (spot_of names c.args.w) c.in_err-x.field-0.0 (c.in_err-x.ensures.finds names h lt))

pub returns-in-None-clause-finds : goal.returns-in-None-clause-finds
returns-in-None-clause-finds c = λ names h lt.
    (refl, lacking_by (env_of names c.args.env.now) (spot_of names c.args.w) c.in_ok-x.x.slot (piece_of c.in_ok-x.part) (c.in_ok-x.ensures.finds names h lt).1 (c.whole.ensures.lacking c.in-None.is))
