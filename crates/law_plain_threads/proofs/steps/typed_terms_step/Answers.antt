use Rattle.law_plain_threads.proofs.steps.typed_terms_step.Goals as goal
use Rattle.law_plain_threads.proofs.steps.Programs.{programs_start_typed, typed_terms_step_on, typed_terms_stay_typed, typed_terms_unstuck, runs_stay_typed}

pub returns-clause-start : goal.returns-clause-start
returns-clause-start c = programs_start_typed

pub returns-clause-goes : goal.returns-clause-goes
returns-clause-goes c = typed_terms_step_on

pub returns-clause-stays : goal.returns-clause-stays
returns-clause-stays c = typed_terms_stay_typed

pub returns-clause-unstuck : goal.returns-clause-unstuck
returns-clause-unstuck c = typed_terms_unstuck

pub returns-clause-run : goal.returns-clause-run
returns-clause-run c = runs_stay_typed
