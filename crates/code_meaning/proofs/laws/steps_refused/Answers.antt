use Rattle.std.proofs.Common.{refl}
use Rattle.code_meaning.proofs.laws.steps_refused.Goals as goal

pub returns : goal.returns
returns c = record { lock_out = refl; lock_in = refl; lock_named = refl; not_held = refl; pair_early = refl; pair_half = refl; pair_both = refl; pair_waits = refl; one_name = refl; same_name = refl; first_given = refl; second_given = refl; mutex_name = refl; name_given = refl; two_names = refl; no_name = refl; thread_name = refl; name_gone = refl; name_new = refl; named = refl; nobody = refl; over = refl }
