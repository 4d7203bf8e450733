use Rattle.law_words_issued.proofs.apart.objects_stay_apart.Goals as goal
use Rattle.law_words_issued.proofs.apart.Apart.{objects_stay_apart}

pub returns : goal.returns
returns c = objects_stay_apart
