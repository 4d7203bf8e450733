use Rattle.std.proofs.Common.{refl}
use Rattle.join_home.proofs.laws.tasks_compute.Goals as goal

pub returns : goal.returns
returns c = record { begun = refl; begun_twice = refl; asked_early = refl; asked_late = refl; asked_twice = refl; answered = refl; is_kept = refl; ended_twice = refl; let_go_early = refl; let_go_late = refl; for_nobody = refl; begun_pair = refl; one_pair = refl; first_of_two = refl; second_of_two = refl; other_order = refl; none_asks = refl }
