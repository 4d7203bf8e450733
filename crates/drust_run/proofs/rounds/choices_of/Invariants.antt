use Rattle.std.proofs.Common.{◌≡◌, ◌++◌, ◌-◌}
use Rattle.drive_model.specs.Rounds.{generators_from}
use Rattle.drust_run.proofs.rounds.choices_of.Given as goal

-- the generators that were made, with those that are left, are all
abbrev pub invariant-servers : goal.invariant-servers
invariant-servers l = l.choices.items ++ generators_from l.options.choice l.server (l.options.servers - l.server) ≡ generators_from l.options.choice 0 l.options.servers
