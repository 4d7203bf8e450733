use Rattle.std.proofs.Common.{◌≡◌, ◌≤◌, ◌+◌, ◌-◌, length}
use Rattle.cluster_core.specs.Views.{events_in}
use Rattle.law_runs_rounds.specs.rounds.UnderWay.{IsUnderWay}
use Rattle.drive_model.specs.Rounds.{rounds_from}
use Rattle.drust_run.specs.Drives.{run_of}
use Rattle.drust_run.proofs.rounds.drive_on.Given as goal

-- the rounds that are left lead where all lead
abbrev pub invariant-rounds : goal.invariant-rounds
invariant-rounds g l = record {
  way : IsUnderWay (run_of l.drive);
  counted : events_in l.drive.cluster.state.servers ≡ length l.drive.journal.items;
  program : l.drive.cluster.program ≡ l.fn.start.cluster.program;
  within : l.before ≤ l.fn.turns;
  same : rounds_from (l.fn.turns - l.before) (l.before + 1) (run_of l.drive) ≡ rounds_from l.fn.turns 1 (run_of l.fn.start);
}
