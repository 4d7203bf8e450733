use Rattle.law_types_still.proofs.threads.undone_threads_keep_types.Goals as goal
use Rattle.law_types_still.proofs.threads.Undone.{undone_keep}

pub returns : goal.returns
returns c = undone_keep
