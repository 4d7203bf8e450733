use Rattle.law_length_programs.proofs.sizes.programs_do_few_steps.Goals as goal
use Rattle.law_length_programs.proofs.sizes.Nodes.{programs_do_few_steps}

pub returns : goal.returns
returns c = programs_do_few_steps
