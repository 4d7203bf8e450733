use Rattle.law_counts_things.proofs.things.threads_keep.Goals as goal
use Rattle.law_counts_things.proofs.things.Sentences.{walks_kept, joins_kept, passed_kept, parcels_kept, homes_kept}

pub returns : goal.returns
returns c = record { walk_empty = walks_kept; join_walks_nothing = joins_kept; passed_in_a_walk = passed_kept; parcels_ready = parcels_kept; thread_homes = homes_kept }
