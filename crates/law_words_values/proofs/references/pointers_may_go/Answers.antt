use Rattle.law_words_values.proofs.references.pointers_may_go.Goals as goal
use Rattle.law_words_values.proofs.references.Fewer.{fewer_stays}
use Rattle.law_words_values.proofs.references.FreshOwners.{ranked_are_fresh}
use Rattle.law_words_values.proofs.references.Ranks.{types_rank}

pub returns : goal.returns
returns c = record { rank = types_rank; fresh = ranked_are_fresh; stays = fewer_stays }
