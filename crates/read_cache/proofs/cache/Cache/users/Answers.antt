use Rattle.std.proofs.Common.{refl}
use Rattle.read_cache.proofs.SlotLemmas.{held_copy}
use Rattle.read_cache.proofs.cache.Cache.users.Goals as goal

pub returns-in-Some : goal.returns-in-Some
returns-in-Some c = rw (← c.self.view_is, held_copy c.args.word c.self.inside.slots.entries _ _ _ _ c.in-Some.ensures.copy) refl
