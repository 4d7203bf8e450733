use Rattle.law_words_values.proofs.carried.values_are_carried.Goals as goal
use Rattle.law_words_values.proofs.carried.Carrying.{carried_stays}

pub returns : goal.returns
returns c = record { stays = carried_stays }
