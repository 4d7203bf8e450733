-- The laws of writes apply to main at its assignment.
use Rattle.std.proofs.Common.{refl}
use Rattle.law_words_kept.proofs.Below.law_words_paths.paths.Example.{places_apply}
use Rattle.law_words_kept.specs.ends.Example.{WritesApply}

pub writes_apply : WritesApply
writes_apply = record { paths = places_apply.paths; goes = places_apply.goes; writes = refl; hop = refl; in_a_walk = refl; within = refl }
