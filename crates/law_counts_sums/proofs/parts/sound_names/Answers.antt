use Rattle.law_counts_sums.proofs.parts.sound_names.Goals as goal
use Rattle.law_counts_sums.proofs.Askers.{issued_there, home_there, mutex_there, stands_there}

pub returns : goal.returns
returns c = λ k s. record { words = issued_there k s; threads = home_there k s; mutexes = mutex_there k s; askers = stands_there k s }
