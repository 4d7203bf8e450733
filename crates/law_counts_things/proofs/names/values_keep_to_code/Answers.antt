use Rattle.law_counts_things.proofs.names.values_keep_to_code.Goals as goal
use Rattle.law_counts_things.proofs.names.Coherent.{marks_stay, holders_stay}

pub returns : goal.returns
returns c = record { marks_in_slots = marks_stay; holders_short = holders_stay }
