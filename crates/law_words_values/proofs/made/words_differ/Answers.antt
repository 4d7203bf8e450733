use Rattle.law_words_values.proofs.made.words_differ.Goals as goal
use Rattle.law_words_values.proofs.made.Apart.{words_tell, stay_apart, new_apart}

pub returns : goal.returns
returns c = record { tells = words_tell; stays = stay_apart; makes = new_apart }
