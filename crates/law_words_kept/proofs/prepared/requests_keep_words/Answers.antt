use Rattle.law_words_kept.proofs.prepared.requests_keep_words.Goals as goal
use Rattle.law_words_kept.proofs.prepared.Asking.{reads_that_ask}

pub returns : goal.returns
returns c = record { reads = reads_that_ask }
