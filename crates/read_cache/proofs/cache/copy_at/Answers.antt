use Rattle.read_cache.proofs.SlotLemmas.{no_copy, room_no_copy}
use Rattle.read_cache.proofs.cache.copy_at.Goals as goal

pub returns-in-Some-default-Room-clause-none : goal.returns-in-Some-default-Room-clause-none
returns-in-Some-default-Room-clause-none c = room_no_copy c.args.word c.args.slots.now.entries _ _ (rw c.in-Some-default-Room.field-0-1-is at c.in-Some-default-Room.ensures.there)

pub returns-in-None-clause-none : goal.returns-in-None-clause-none
returns-in-None-clause-none c = no_copy c.args.word c.args.slots.now.entries c.in-None.ensures.absent
