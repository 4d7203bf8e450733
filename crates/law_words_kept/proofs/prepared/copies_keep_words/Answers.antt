use Rattle.law_words_kept.proofs.prepared.copies_keep_words.Goals as goal
use Rattle.law_words_kept.proofs.prepared.Copying.{copies_keep}
use Rattle.law_words_kept.proofs.prepared.Dupping.{dups_keep}

pub returns : goal.returns
returns c = record { copies = copies_keep; dups = dups_keep }
