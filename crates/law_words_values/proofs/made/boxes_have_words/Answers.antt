use Rattle.law_words_values.proofs.made.boxes_have_words.Goals as goal
use Rattle.law_words_values.proofs.made.Boxes.{boxes_keep}

pub returns : goal.returns
returns c = record { keeps = boxes_keep }
