use Rattle.law_words_values.proofs.carried.made_objects_have_words.Goals as goal
use Rattle.law_words_values.proofs.carried.Making.{made_keeps}

pub returns : goal.returns
returns c = record { keeps = made_keeps }
