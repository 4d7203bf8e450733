use Rattle.std.proofs.Common.{◌≡◌, ◌⊎◌, ◌-◌, refl, sym, ap, ◌∙◌, subst, arith}
use Rattle.std.specs.Prelude.{IsSome}
use Rattle.fr_typing.specs.Places.{shape_at, star_shape, stars_shape}
use Rattle.fr_types.specs.declared.walk.Level.TheVariants.{Shared, Mut}
use Rattle.fr_types.specs.States.{env_of}
use Rattle.fr_types.specs.Types.{piece_of}
use Rattle.fr_types.specs.Walks.{level_shape}
use Rattle.fr_types.proofs.ShapedLemmas.{place_past}
use Rattle.fr_types.proofs.WalkLemmas.{star_taken, stars_added, no_star, place_shaped, box_star, box_rank, same_reference, reference_star, reference_rank, piece_below, leads_nowhere}
use Rattle.fr_types.proofs.walk.place_level.Goals as goal
use Rattle.fr_types.proofs.walk.place_level.Goals.{in-Shared, in-Shared-2}

pub returns-in_default-clause-shape : goal.returns-in_default-clause-shape
returns-in_default-clause-shape c = λ names. place_past names c.args.env.now c.args.u (λ lt. let some : IsSome c.slot.result = c.slot.ensures.some.1 lt in let none = subst IsSome c.in_default.is some in absurd cc)

pub stars-init : goal.stars-init
stars-init c =
    let low = piece_below c.args.u.slot (piece_of c.in-Some.part.now) c.in-Some.ensures.below in
    let lt = c.slot.ensures.some.0 (subst IsSome (sym c.in-Some.is) refl) in
    record {
      owned = c.level_at-at.ensures.owned;
      rank = omega (arith, low, c.level_at-at.ensures.rank);
      few = omega (arith, low, c.level_at-at.ensures.rank);
      shape = λ names.
          place_shaped names c.args.env.now c.args.u (piece_of c.in-Some.part.now) c.slot.ensures.nested lt c.in-Some.ensures.part
          ∙ ap (stars_shape c.args.u.depth) (sym (c.level_at-at.ensures.shape (shape_at (env_of names c.args.env.now))));
    }

pub returns-in_default-at : goal.returns-in_default-at
returns-in_default-at c = record {
  shape = λ names.
      no_star (shape_at (env_of names c.args.env.now) c.args.u) (level_shape (shape_at (env_of names c.args.env.now)) c.stars.at) c.stars.left c.stars-test.true
      (leads_nowhere (shape_at (env_of names c.args.env.now)) c.stars.at c.in_default-at.not-Box c.in_default-at.not-View c.in_default-at.not-Shared c.in_default-at.not-Mut)
      (c.stars.invariant.shape names);
  rank = tt;
}

pub stars-smaller-in-Box : goal.stars-smaller-in-Box
stars-smaller-in-Box c =
    let r = box_rank c.stars.at c.in-Box.x c.in-Box.is c.stars.invariant.owned in
    omega (arith, r, c.level_at-at-in-Box.ensures.rank, c.stars-test.true)

pub stars-preserved-in-Box : goal.stars-preserved-in-Box
stars-preserved-in-Box c =
    let r = box_rank c.stars.at c.in-Box.x c.in-Box.is c.stars.invariant.owned in
    record {
      owned = c.level_at-at-in-Box.ensures.owned;
      rank = omega (arith, r, c.level_at-at-in-Box.ensures.rank);
      few = omega (arith, r, c.level_at-at-in-Box.ensures.rank, c.stars.invariant.few);
      shape = λ names. star_taken (shape_at (env_of names c.args.env.now) c.args.u) (level_shape (shape_at (env_of names c.args.env.now)) c.stars.at) (level_shape (shape_at (env_of names c.args.env.now)) c.level_at-at-in-Box.result) c.stars.left c.stars-test.true (box_star (shape_at (env_of names c.args.env.now)) c.stars.at c.level_at-at-in-Box.result c.in-Box.x c.in-Box.is c.stars.invariant.owned (c.level_at-at-in-Box.ensures.shape (shape_at (env_of names c.args.env.now)))) (c.stars.invariant.shape names);
    }

pub stars-preserved-in-View : goal.stars-preserved-in-View
stars-preserved-in-View c = record {
  owned = c.owned_level-at.ensures.owned;
  rank = omega (arith, c.owned_level-at.ensures.rank);
  few = omega (arith, c.owned_level-at.ensures.rank, c.stars.invariant.few);
  shape = λ names. star_taken (shape_at (env_of names c.args.env.now) c.args.u) (level_shape (shape_at (env_of names c.args.env.now)) c.stars.at) (level_shape (shape_at (env_of names c.args.env.now)) c.owned_level-at.result) c.stars.left c.stars-test.true (ap (λ l. star_shape (level_shape (shape_at (env_of names c.args.env.now)) l)) c.in-View.is ∙ sym (c.owned_level-at.ensures.shape (shape_at (env_of names c.args.env.now)))) (c.stars.invariant.shape names);
}

pub stars-preserved : goal.stars-preserved
stars-preserved c =
    let which : (c.stars.at ≡ Shared c.in-Shared-1.v) ⊎ (c.stars.at ≡ Mut c.in-Shared-1.v) = elim c.in-Shared-1.branch [ in-Shared w ↦ same_reference c.stars.at c.in-Shared-1.v w.in-Shared.v w.v-is w.in-Shared.is | in-Shared-2 w ↦ same_reference c.stars.at c.in-Shared-1.v w.in-Shared.v w.v-is w.in-Shared.is ] in
    let low = piece_below c.in-Shared-1.v.slot (piece_of c.in-Some-slot.part.now) c.in-Some-slot.ensures.below in
    let at = reference_rank c.stars.at c.in-Shared-1.v which in
    let lt = c.slot-in-Shared.ensures.some.0 (subst IsSome (sym c.in-Some-slot.is) refl) in
    record {
      owned = c.level_at-at-in-Shared.ensures.owned;
      rank = omega (arith, low, at, c.level_at-at-in-Shared.ensures.rank, c.stars.invariant.rank);
      few = omega (arith, low, at, c.level_at-at-in-Shared.ensures.rank, c.stars.invariant.few, c.stars-test.true);
      shape = λ names.
          stars_added (shape_at (env_of names c.args.env.now) c.args.u) (shape_at (env_of names c.args.env.now) c.in-Shared-1.v) (level_shape (shape_at (env_of names c.args.env.now)) c.level_at-at-in-Shared.result) (c.stars.left - 1) c.in-Shared-1.v.depth
          (star_taken (shape_at (env_of names c.args.env.now) c.args.u) (level_shape (shape_at (env_of names c.args.env.now)) c.stars.at) (shape_at (env_of names c.args.env.now) c.in-Shared-1.v) c.stars.left c.stars-test.true (reference_star (shape_at (env_of names c.args.env.now)) c.stars.at c.in-Shared-1.v which) (c.stars.invariant.shape names))
          (place_shaped names c.args.env.now c.in-Shared-1.v (piece_of c.in-Some-slot.part.now) c.slot-in-Shared.ensures.nested lt c.in-Some-slot.ensures.part
          ∙ ap (stars_shape c.in-Shared-1.v.depth) (sym (c.level_at-at-in-Shared.ensures.shape (shape_at (env_of names c.args.env.now)))));
    }
