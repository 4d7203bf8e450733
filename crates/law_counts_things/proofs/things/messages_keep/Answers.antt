use Rattle.law_counts_things.proofs.things.messages_keep.Goals as goal
use Rattle.law_counts_things.proofs.things.Routes.{goes_right_kept, asks_others_kept, options_kept}

pub returns : goal.returns
returns c = record { go_right = goes_right_kept; asks_others = asks_others_kept; options_in_range = options_kept }
