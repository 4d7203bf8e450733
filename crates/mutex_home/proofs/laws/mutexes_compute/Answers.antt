use Rattle.std.proofs.Common.{refl}
use Rattle.mutex_home.proofs.laws.mutexes_compute.Goals as goal

pub returns : goal.returns
returns c = record { made = refl; granted = refl; queued = refl; next = refl; kept = refl; ended = refl; given_twice = refl; one_more = refl; one_less = refl; last_in = refl; last_out = refl; no_share = refl; not_there = refl }
