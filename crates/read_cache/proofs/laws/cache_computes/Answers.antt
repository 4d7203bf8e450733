use Rattle.std.proofs.Common.{refl}
use Rattle.read_cache.proofs.laws.cache_computes.Goals as goal

pub returns : goal.returns
returns c = record { fills = refl; fills_again = refl; same_cell = refl; other_cell = refl; hits = refl; misses = refl; pins = refl; unpins = refl; no_copy = refl; no_user = refl; unused_goes = refl; used_stays = refl; absent = refl; oldest = refl; second_oldest = refl; all_used = refl }
