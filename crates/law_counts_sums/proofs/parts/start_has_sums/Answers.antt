use Rattle.law_counts_sums.proofs.parts.start_has_sums.Goals as goal
use Rattle.law_counts_sums.proofs.Begins.{start_has_sums, start_answers, start_pairs, start_going, start_homes, start_results, start_owed}

pub returns : goal.returns
returns c = record { sums = start_has_sums; answers = start_answers; pairs = start_pairs; going = start_going; homes = start_homes; results = start_results; owed = start_owed }
