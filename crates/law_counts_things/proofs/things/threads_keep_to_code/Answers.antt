use Rattle.law_counts_things.proofs.things.threads_keep_to_code.Goals as goal
use Rattle.law_counts_things.proofs.things.Bare.{bare_kept}
use Rattle.law_counts_things.proofs.things.Pairs.{pairs_kept}

pub returns : goal.returns
returns c = record { par_ends = pairs_kept; over_are_bare = bare_kept }
