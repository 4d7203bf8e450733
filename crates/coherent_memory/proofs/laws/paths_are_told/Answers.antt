use Rattle.coherent_memory.proofs.laws.paths_are_told.Goals as goal
use Rattle.coherent_memory.proofs.Passing.{paths_law, passed_law}
use Rattle.coherent_memory.proofs.Followed.{followed_law}
use Rattle.coherent_memory.proofs.Turn.{turn_law}

pub returns-clause-paths : goal.returns-clause-paths
returns-clause-paths c = paths_law

pub returns-clause-passed : goal.returns-clause-passed
returns-clause-passed c = passed_law

pub returns-clause-followed : goal.returns-clause-followed
returns-clause-followed c = followed_law

pub returns-clause-turn : goal.returns-clause-turn
returns-clause-turn c = turn_law
