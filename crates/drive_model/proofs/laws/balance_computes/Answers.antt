use Rattle.std.proofs.Common.{refl}
use Rattle.drive_model.proofs.laws.balance_computes.Goals as goal

pub returns : goal.returns
returns c = record { to_the_least = refl; nobody_can_go = refl; nearly_even = refl; lowest_of_many = refl }
