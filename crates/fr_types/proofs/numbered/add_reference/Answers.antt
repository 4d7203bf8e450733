use Rattle.fr_types.proofs.NumberedLemmas.{reference_makes}
use Rattle.fr_types.proofs.numbered.add_reference.Goals as goal

pub hold-requires : goal.hold-requires
hold-requires c = record { makes = reference_makes c.args.table.now c.in-Some.inner c.args.sort c.in-Some.ensures.here c.requires.makes }
