use Rattle.drive_model.proofs.laws.balances_move.Goals as goal
use Rattle.drive_model.proofs.Moves.{balance_moves}

pub returns : goal.returns
returns c = balance_moves
