use Rattle.law_length_programs.proofs.orders.programs_have_blocks.Goals as goal
use Rattle.law_length_programs.proofs.orders.Blocks.{programs_have_blocks}

pub returns : goal.returns
returns c = programs_have_blocks
