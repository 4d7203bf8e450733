use Rattle.law_words_issued.proofs.stays.issued_words_stay.Goals as goal
use Rattle.law_words_issued.proofs.stays.Still.{steps_keep_issued}
use Rattle.law_words_issued.proofs.stays.Boxes.{boxes_keep_issued}
use Rattle.law_words_issued.proofs.stays.Copies.{copies_have_old_words}

pub returns : goal.returns
returns c = record { steps = steps_keep_issued; boxes = boxes_keep_issued; copies = copies_have_old_words }
