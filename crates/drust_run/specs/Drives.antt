-- A run under way in code (this project's own).
use Rattle.drive_model.specs.Rounds.{Run}
use Rattle.drust_run.specs.declared.drive.Drive.{Drive}

-- the run that it is
abbrev pub run_of : Drive → Run
run_of d = record { cluster = d.cluster.state; generators = d.choices.items; journal = d.journal.items }
