-- Runs under way go on.
use Rattle.std.proofs.Common.{Option}
use Rattle.drive_model.specs.Laws.{BalanceMoves}
use Rattle.drive_model.specs.Rounds.{Run}
use Rattle.law_runs_rounds.specs.rounds.UnderWay.{GoesOn, RoundsGoOn, BalancesGoOn, ServersCanWork, BalancesCanMove}
use Rattle.law_runs_rounds.proofs.rounds.UnderWay.{Laws, Onward, round_goes_on, can_work}
use Rattle.law_runs_rounds.proofs.rounds.Balances.{balance_goes_on, shift_can_move}

onward : (r : Run) (o : Option Run) → Onward r o → GoesOn o
onward r o h = record { run = h.run; is = h.is; under_way = h.under_way }

pub rounds_go_on : Laws → RoundsGoOn
rounds_go_on l keeps r u = onward r _ (round_goes_on l keeps r u)

pub balances_go_on : Laws → BalanceMoves → BalancesGoOn
balances_go_on l moves keeps n r u = onward r _ (balance_goes_on l keeps r u moves n)

pub servers_can_work : Laws → ServersCanWork
servers_can_work l keeps r i s g u here with_it = can_work l keeps r u i s g here

pub balances_can_move : Laws → BalanceMoves → BalancesCanMove
balances_can_move l moves keeps r x u left e = shift_can_move l keeps r u moves left x e
