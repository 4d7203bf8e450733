use Rattle.law_plain_threads.proofs.steps.steps_keep_types.Goals as goal
use Rattle.fr_plain.specs.Run.{terms}
use Rattle.law_plain_threads.proofs.steps.AllSteps.{keeps_all_typed}
use Rattle.law_plain_threads.proofs.steps.CodeSteps.{steps_keep_types, shown_steps_keep_types}
use Rattle.law_plain_threads.proofs.steps.Starts.{starts_typed, runs_keep_types}

pub returns-clause-step : goal.returns-clause-step
returns-clause-step c = steps_keep_types

pub returns-clause-shown : goal.returns-clause-shown
returns-clause-shown c = shown_steps_keep_types

pub returns-clause-start : goal.returns-clause-start
returns-clause-start c = starts_typed

pub returns-clause-run : goal.returns-clause-run
returns-clause-run c = runs_keep_types

pub returns-clause-terms : goal.returns-clause-terms
returns-clause-terms c = λ entry_of temps. keeps_all_typed entry_of temps terms
