use Rattle.read_cache.proofs.SlotLemmas.{no_room, held_no_room}
use Rattle.read_cache.proofs.cache.room_at.Goals as goal

pub returns-in-Some-default-Held-clause-none : goal.returns-in-Some-default-Held-clause-none
returns-in-Some-default-Held-clause-none c = held_no_room c.args.word c.args.slots.now.entries _ _ _ _ (rw c.in-Some-default-Held.field-0-1-is at c.in-Some-default-Held.ensures.there)

pub returns-in-None-clause-none : goal.returns-in-None-clause-none
returns-in-None-clause-none c = no_room c.args.word c.args.slots.now.entries c.in-None.ensures.absent
