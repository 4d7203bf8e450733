use Rattle.std.proofs.Common.{refl}
use Rattle.fr_typing.proofs.laws.examples_compute.Goals as goal

pub returns-clause-owned : goal.returns-clause-owned
returns-clause-owned c = record { written = refl; moved = refl; given = refl; again = refl; inner = refl; twice = refl; unknown = refl; no_target = refl; not_int = refl; other_shape = refl; full = refl }

pub returns-clause-borrows : goal.returns-clause-borrows
returns-clause-borrows c = record { lent = refl; lent_inside = refl; no_such = refl; of_inner = refl; last_of_inner = refl; through_reference = refl; shared_write = refl; shared_mut = refl; lent_write = refl; two_readers = refl; two_writers = refl; again_lent = refl; under_star = refl; gone_lent = refl; shape_stays = refl; left_operand = refl; right_operand = refl }

pub returns-clause-threads : goal.returns-clause-threads
returns-clause-threads c = record { counted = refl; takes_out = refl; puts_back = refl; refers_out = refl; held = refl; locks_as_itself = refl; locks_a_box = refl; dups_a_number = refl; joins_a_number = refl; mutex_of_reference = refl; there_and_back = refl; spawn_takes = refl; spawn_reference = refl; spawn_lent = refl; spawn_part = refl; spawn_twice = refl; spawn_gives_reference = refl; looks_in = refl; looks_on = refl; looked_at = refl; looks_at_slot = refl; writes_in = refl; view_write = refl; spawn_view = refl; looks_through = refl; looks_at_lent = refl; both_take = refl; gives_a_number = refl; first_gives = refl; second_gives = refl }

pub returns-clause-joins : goal.returns-clause-joins
returns-clause-joins c = record { shared_alike = refl; shared_apart = refl; mutable_alike = refl; mutable_apart = refl; inside_box = refl; to_alike = refl; to_apart = refl; to_apart_below = refl; of_two_types = refl }
