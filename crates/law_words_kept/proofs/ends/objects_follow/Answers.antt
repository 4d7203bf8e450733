use Rattle.law_words_kept.proofs.ends.objects_follow.Goals as goal
use Rattle.law_words_kept.proofs.ends.Requested.{objects_follow}

pub returns : goal.returns
returns c = objects_follow
