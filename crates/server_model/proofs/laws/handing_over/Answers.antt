use Rattle.server_model.proofs.laws.handing_over.Goals as goal
use Rattle.server_model.proofs.MessageLemmas.{handing_keeps, handing_delivers}

pub returns-clause-keeps : goal.returns-clause-keeps
returns-clause-keeps c = handing_keeps

pub returns-clause-delivers : goal.returns-clause-delivers
returns-clause-delivers c = handing_delivers
