use Rattle.std.proofs.Common.{refl}
use Rattle.code_meaning.proofs.laws.last_shares_go.Goals as goal

pub returns : goal.returns
returns c = record { share_gone = refl; content_back = refl; content_gone = refl }
