use Rattle.std.proofs.Common.{◌≡◌, ◌≤◌, ◌-◌}
use Rattle.std.specs.Prelude.{option_map}
use Rattle.drive_model.specs.Rounds.{work}
use Rattle.law_runs_rounds.specs.rounds.Working.{CanWork}
use Rattle.drust_run.specs.Turns.{with_before}
use Rattle.drust_run.proofs.work.quantum.Given as goal

-- the events that are left, after those that were done, are all of them
abbrev pub invariant-events : goal.invariant-events
invariant-events l = record {
  code : l.server.code ≡ l.fn.server.code;
  options : l.server.options ≡ l.fn.server.options;
  within : l.counter ≤ l.fn.most;
  able : CanWork l.server.code l.server.options (l.fn.most - l.counter) l.server.state l.choice;
  same : option_map (with_before l.journal.items) (work l.server.code l.server.options (l.fn.most - l.counter) l.server.state l.choice) ≡ option_map (with_before l.fn.journal.items) (work l.fn.server.code l.fn.server.options l.fn.most l.fn.server.state l.fn.choice);
}
