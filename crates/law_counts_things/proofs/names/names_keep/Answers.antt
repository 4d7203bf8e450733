use Rattle.law_counts_things.proofs.names.names_keep.Goals as goal
use Rattle.law_counts_things.proofs.names.Objects.{objects_kept}
use Rattle.law_counts_things.proofs.names.Sentences.{limits_kept, names_kept, counts_kept, fews_kept}

pub returns : goal.returns
returns c = record { below_limit = limits_kept; names_counted = names_kept; counts_from_one = counts_kept; few_names = fews_kept; objects_made = objects_kept }
