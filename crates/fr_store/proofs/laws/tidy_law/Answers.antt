use Rattle.fr_store.proofs.laws.tidy_law.Goals as goal
use Rattle.fr_store.proofs.Tidy.{tidy_set, tidy_swap, tidy_unbox, tidy_make, tidy_alike, tidy_drop, fresh_box}

pub returns : goal.returns
returns c = record { set = tidy_set; swap = tidy_swap; unbox = tidy_unbox; make = tidy_make; alike = tidy_alike; drop_value = tidy_drop; fresh = fresh_box }
