use Rattle.std.proofs.Common.{refl}
use Rattle.coloured_heap.proofs.laws.reach_and_drivers.Goals as goal

pub returns : goal.returns
returns c = record {
  reach = record {
    here = (refl, refl);
    copied = (refl, refl);
    old_value = (refl, refl);
    new_value = (refl, refl);
    old_copy = (refl, refl);
    no_copy_of_it = (refl, refl);
    old_word = (refl, refl);
    not_cached = (refl, refl);
    flies = (refl, refl);
    stored = (refl, refl);
    stored_in_copy = (refl, refl);
    moved_out = (refl, refl);
    stored_later = (refl, refl);
    no_object = (refl, refl);
    made_of = (refl, refl);
    first_served = (refl, refl);
    then_the_later = (refl, refl);
  };
  drivers = record {
    not_due = (refl, refl);
    due = (refl, refl);
    one_is_enough = (refl, refl);
    moves_on = (refl, refl);
    moves_after_a_step = (refl, refl);
    another_steps = (refl, refl);
    asks_alone = (refl, refl);
  };
}
