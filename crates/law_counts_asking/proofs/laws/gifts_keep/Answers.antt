use Rattle.law_counts_asking.proofs.laws.gifts_keep.Goals as goal
use Rattle.law_counts_asking.proofs.GiftsGot.{gifts_got_kept}

pub returns : goal.returns
returns c = gifts_got_kept
