use Rattle.std.proofs.Common.{◌≡◌, ◌+◌, ◌*◌, ◌≤◌, List}
use Rattle.fr_terms.specs.Terms.{Text}
use Rattle.fr_typing.specs.Places.{shape_at, stars_shape}
use Rattle.fr_types.specs.States.{env_of}
use Rattle.fr_types.specs.Walks.{level_shape, level_rank, HoldsOwned}
use Rattle.fr_types.proofs.walk.place_level.Given as goal

abbrev pub invariant-stars : goal.invariant-stars
invariant-stars l = record {
  owned : HoldsOwned l.at;
  rank : level_rank l.at ≤ l.fn.u.slot + 1;
  few : l.left + 255 * level_rank l.at ≤ 255 * (l.fn.u.slot + 2);
  shape : (names : List Text) → shape_at (env_of names l.env) l.fn.u ≡ stars_shape l.left (level_shape (shape_at (env_of names l.env)) l.at);
}

abbrev pub decreases-stars : goal.decreases-stars
decreases-stars l = l.left + 255 * level_rank l.at
