use Rattle.law_results_reads.proofs.laws.steps_that_read.Goals as goal
use Rattle.law_results_reads.proofs.Readers.{copies_have_results, dups_have_results, locks_have_results}

pub returns : goal.returns
returns c = record { copies = copies_have_results; dups = dups_have_results; locks = locks_have_results }
