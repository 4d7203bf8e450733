use Rattle.server_model.proofs.laws.messages_are_kept.Goals as goal
use Rattle.server_model.proofs.MessageLemmas.{to_itself, to_others, sending_adds, receiving_takes}

pub returns-clause-itself : goal.returns-clause-itself
returns-clause-itself c = to_itself

pub returns-clause-others : goal.returns-clause-others
returns-clause-others c = to_others

pub returns-clause-sending : goal.returns-clause-sending
returns-clause-sending c = sending_adds

pub returns-clause-receiving : goal.returns-clause-receiving
returns-clause-receiving c = receiving_takes
