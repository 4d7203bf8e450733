use Rattle.std.proofs.Common.{ap, ◌∙◌, subst}
use Rattle.fr_typing.specs.Places.{AreBelow}
use Rattle.fr_types.specs.Bases.{base, aimed}
use Rattle.fr_types.proofs.RenewLemmas.{shared_places, shared_target, mut_places, mut_target}
use Rattle.fr_types.proofs.resolved.aim_type.Goals as goal

pub returns-in-Shared-clause-low : goal.returns-in-Shared-clause-low
returns-in-Shared-clause-low c = λ x h. c.aim_at.ensures.low x (subst (AreBelow x) (shared_places c.args.t.now c.in-Shared.us c.as_slice.result.now c.in-Shared.is c.as_slice.ensures.same) h)

pub returns-in-Shared-clause-aimed : goal.returns-in-Shared-clause-aimed
returns-in-Shared-clause-aimed c = λ n vs h k.
    c.aim_at.ensures.aimed n vs (subst (AreBelow n) (shared_places c.args.t.now c.in-Shared.us c.as_slice.result.now c.in-Shared.is c.as_slice.ensures.same) h) k
    ∙ ap (aimed (base vs)) (shared_target c.args.t.now c.in-Shared.us c.as_slice.result.now c.in-Shared.is c.as_slice.ensures.same)

pub returns-in-Mut-clause-low : goal.returns-in-Mut-clause-low
returns-in-Mut-clause-low c = λ x h. c.aim_at-in-Mut.ensures.low x (subst (AreBelow x) (mut_places c.args.t.now c.in-Mut.us c.as_slice-in-Mut.result.now c.in-Mut.is c.as_slice-in-Mut.ensures.same) h)

pub returns-in-Mut-clause-aimed : goal.returns-in-Mut-clause-aimed
returns-in-Mut-clause-aimed c = λ n vs h k.
    c.aim_at-in-Mut.ensures.aimed n vs (subst (AreBelow n) (mut_places c.args.t.now c.in-Mut.us c.as_slice-in-Mut.result.now c.in-Mut.is c.as_slice-in-Mut.ensures.same) h) k
    ∙ ap (aimed (base vs)) (mut_target c.args.t.now c.in-Mut.us c.as_slice-in-Mut.result.now c.in-Mut.is c.as_slice-in-Mut.ensures.same)
