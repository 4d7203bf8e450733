use Rattle.law_length_runs.proofs.asked.few_start.Goals as goal
use Rattle.law_length_runs.proofs.asked.Deliveries.{plain_steps_start_two}
use Rattle.law_length_runs.proofs.asked.Runs.{runs_start_few}

pub returns : goal.returns
returns c = record { events = plain_steps_start_two; runs = runs_start_few }
