use Rattle.std.proofs.Common.{refl, sym, ◌∙◌}
use Rattle.fr_typing.specs.Places.{found, undefined, no_target}
use Rattle.fr_typing.specs.Finding.{misses_value, misses_target}
use Rattle.fr_types.specs.declared.error.TypeError.TheVariants.{NotDefined, NoTarget}
use Rattle.fr_types.specs.Types.{piece_of}
use Rattle.borrow_check.proofs.ScopeLemmas.{has_by, none_by, error_as}
use Rattle.borrow_check.proofs.finding.find.Goals as goal

pub returns-in_default-clause-finds : goal.returns-in_default-clause-finds
returns-in_default-clause-finds c = λ names h lt. (refl, none_by names c.args.env.now c.args.w h lt (sym c.in_default.is ∙ c.find.ensures.slot))

pub returns-in-Ok-clause-finds : goal.returns-in-Ok-clause-finds
returns-in-Ok-clause-finds c = λ names h lt.
    (refl, has_by names c.args.env.now c.args.w c.in-Some.slot (found (piece_of c.in-Ok.part)) h lt c.in-Some.ensures.slot (c.in-Ok.ensures.kind names))

pub returns-in-Err-NotDefined-clause-finds : goal.returns-in-Err-NotDefined-clause-finds
returns-in-Err-NotDefined-clause-finds c = λ names h lt.
    (refl, misses_value (has_by names c.args.env.now c.args.w c.in-Some.slot undefined h lt c.in-Some.ensures.slot (error_as c.in-Err-NotDefined.field-0 NotDefined _ c.in-Err-NotDefined.field-0-is (c.in-Err-NotDefined.ensures.kind names))))

pub returns-in-Err-NoTarget-clause-finds : goal.returns-in-Err-NoTarget-clause-finds
returns-in-Err-NoTarget-clause-finds c = λ names h lt.
    (refl, misses_target (has_by names c.args.env.now c.args.w c.in-Some.slot no_target h lt c.in-Some.ensures.slot (error_as c.in-Err-NoTarget.field-0 NoTarget _ c.in-Err-NoTarget.field-0-is (c.in-Err-NoTarget.ensures.kind names))))
