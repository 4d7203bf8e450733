use Rattle.std.proofs.Common.{◌≡◌, ◌⊎◌, ◌∙◌}
use Rattle.fr_typing.specs.Places.{shape_at}
use Rattle.fr_types.specs.declared.walk.Level.TheVariants.{Shared, Mut}
use Rattle.fr_types.specs.States.{env_of}
use Rattle.fr_types.proofs.WalkLemmas.{same_reference, reference_target}
use Rattle.fr_types.proofs.walk.target_level.Goals as goal
use Rattle.fr_types.proofs.walk.target_level.Goals.{in-Shared, in-Shared-2}

pub returns-in-Shared-clause-shape : goal.returns-in-Shared-clause-shape
returns-in-Shared-clause-shape c = λ names.
    let which : (c.args.from ≡ Shared c.in-Shared-1.u) ⊎ (c.args.from ≡ Mut c.in-Shared-1.u) = elim c.in-Shared-1.branch [ in-Shared w ↦ same_reference c.args.from c.in-Shared-1.u w.in-Shared.u w.u-is w.in-Shared.is | in-Shared-2 w ↦ same_reference c.args.from c.in-Shared-1.u w.in-Shared.u w.u-is w.in-Shared.is ] in
    reference_target (shape_at (env_of names c.args.env.now)) c.args.from c.in-Shared-1.u which ∙ c.place_level.ensures.shape names
