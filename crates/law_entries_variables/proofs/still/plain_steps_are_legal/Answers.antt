use Rattle.law_entries_variables.specs.Below.law_counts_sums.Kinds.{step_print, step_arith, step_par_end}
use Rattle.law_entries_variables.proofs.still.plain_steps_are_legal.Goals as goal
use Rattle.law_entries_variables.proofs.still.PlainSteps.{plain_legal}

pub returns : goal.returns
returns c = record { prints = plain_legal step_print tt tt; computations = plain_legal step_arith tt tt; pair_ends = plain_legal step_par_end tt tt }
