use Rattle.law_words_values.proofs.carried.owned_values_go.Goals as goal
use Rattle.law_words_values.proofs.carried.Gives.{owned_goes}
use Rattle.law_words_values.proofs.carried.Assigns.{assigns_over}

pub returns : goal.returns
returns c = record { goes = owned_goes; assigns = assigns_over }
