-- The laws of places apply to main at its assignment.
use Rattle.std.proofs.Common.{inl, refl}
use Rattle.coherent_types.specs.Typed.{boxed_cluster}
use Rattle.coherent_types.proofs.Whole.{coherent_compute}
use Rattle.law_words_paths.specs.paths.Pointing.{assigns}
use Rattle.law_words_paths.specs.paths.Example.{PlacesApply}
use Rattle.law_words_paths.proofs.paths.Alike.{coherent_has_paths}

pub places_apply : PlacesApply
places_apply = record {
  paths = coherent_has_paths boxed_cluster coherent_compute.boxed;
  goes = record { among = inl refl; going = refl };
  at = refl;
  writes = assigns;
  hop = record { stars = 0; last = refl; pointer = refl; leads = refl };
}
