use Rattle.std.proofs.Common.{◌≡◌, ◌+◌, ◌-◌, ◌*◌, List, drop}
use Rattle.fr_terms.specs.Terms.{Text}
use Rattle.fr_typing.specs.Places.{AreBelow, piece_places, type_at, alike, join_set, join_all, found}
use Rattle.fr_types.specs.Types.{piece_of}
use Rattle.fr_types.specs.States.{env_of, AreNested}
use Rattle.fr_types.proofs.place.+place.Given as goal

abbrev pub decreases-lval_type : goal.decreases-lval_type
decreases-lval_type l = 4 * l.w.slot + 3

abbrev pub decreases-star : goal.decreases-star
decreases-star l = 4 * l.bound + 2

abbrev pub decreases-join_set : goal.decreases-join_set
decreases-join_set l = 4 * l.bound + 1

abbrev pub decreases-join_with : goal.decreases-join_with
decreases-join_with l = 4 * l.u.slot + 4

abbrev pub invariant-lval_type-stars : goal.invariant-lval_type-stars
invariant-lval_type-stars l = record {
  nested : AreNested l.env;
  below : AreBelow l.at.slot (piece_places (piece_of l.part));
  same : (names : List Text) → type_at (env_of names l.env) (record { slot = l.at.slot; depth = l.at.stars - l.left + l.counter }) ≡ found (piece_of l.part);
}

abbrev pub invariant-join_set-places : goal.invariant-join_set-places
invariant-join_set-places l = (names : List Text) → join_all (alike (env_of names l.env)) (type_at (env_of names l.env)) (found (piece_of l.part)) (drop l.at l.us) ≡ join_set (alike (env_of names l.env)) (type_at (env_of names l.env)) l.us
