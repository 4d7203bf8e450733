use Rattle.std.proofs.Common.{◌≡◌, ◌-◌, false, List}
use Rattle.fr_terms.specs.Terms.{Text}
use Rattle.fr_typing.specs.Places.{AreBelow, piece_places, type_at, found, on_path}
use Rattle.fr_types.specs.Types.{piece_of}
use Rattle.fr_types.specs.States.{env_of}
use Rattle.fr_types.specs.Paths.{test_of}
use Rattle.fr_types.proofs.path.met_below.Given as goal

abbrev pub invariant-stars : goal.invariant-stars
invariant-stars l = record {
  below : AreBelow l.w.slot (piece_places (piece_of l.part));
  same : (names : List Text) → type_at (env_of names l.env) (record { slot = l.w.slot; depth = l.counter - 1 }) ≡ found (piece_of l.part);
  none : (names : List Text) → on_path (test_of l.test) (env_of names l.env) l.w.slot l.counter ≡ false;
}
