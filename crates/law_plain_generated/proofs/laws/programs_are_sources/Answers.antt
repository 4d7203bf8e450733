use Rattle.law_plain_generated.proofs.Sources.{sources}
use Rattle.law_plain_generated.proofs.Unplaced.{same_type}
use Rattle.law_plain_generated.proofs.laws.programs_are_sources.Goals as goal

pub returns : goal.returns
returns c = record { sources = sources c.programs_are_typed.ensures; places = same_type }
