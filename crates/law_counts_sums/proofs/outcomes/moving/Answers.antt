use Rattle.law_counts_sums.proofs.outcomes.moving.Goals as goal
use Rattle.law_counts_sums.proofs.MigrateResults.{migrations_have_results}

pub returns : goal.returns
returns c = migrations_have_results
