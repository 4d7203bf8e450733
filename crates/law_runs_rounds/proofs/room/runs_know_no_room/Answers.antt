use Rattle.law_runs_rounds.proofs.room.runs_know_no_room.Goals as goal
use Rattle.law_runs_rounds.proofs.room.Rounds.{runs_know, runs_one}

pub returns : goal.returns
returns c = record { bare = runs_know; one = runs_one }
