use Rattle.std.proofs.Common.{◌≡◌, ◌<◌, ◌-◌, ◌+◌, length, sym, arith}
use Rattle.read_cache.specs.Slots.{copies_in, rooms_in}
use Rattle.read_cache.specs.View.{without_room}
use Rattle.read_cache.proofs.AgeLemmas.{filled_aged}
use Rattle.read_cache.proofs.SlotLemmas.{old_copy, without_none, room_is_there, some_among, one_less, filled_held, filled_copies, filled_rooms, filled_rises}
use Rattle.read_cache.proofs.cache.Cache.fill.Goals as goal

pub returns-in_default-clause-state : goal.returns-in_default-clause-state
returns-in_default-clause-state c =
    rw (← c.self.view_is) (sym (old_copy (copies_in c.self.inside.slots.entries) (rooms_in c.self.inside.slots.entries) c.args.word c.args.cell (rw (← c.self.view_is) at c.requires.place) c.in_default.ensures.none))

pub returns-in_default-clause-rooms : goal.returns-in_default-clause-rooms
returns-in_default-clause-rooms c = rw (← c.self.view_is) (sym (without_none c.args.word (rooms_in c.self.inside.slots.entries) c.in_default.ensures.none))

pub insert-requires : goal.insert-requires
insert-requires c =
    let w = c.args.word in let es = c.self.inside.slots.entries in let at = c.in-Some.at in let next = c.self.inside.next in let room = c.in-Some.ensures.room in
    let some : 0 < length (rooms_in es) = some_among (rooms_in es) w (room_is_there w es at room.0 room.1) in
    record { place = c.self.invariant.0.free next (omega arith) (omega (arith, some, c.self.invariant.1)) }

pub overflow_sub-self : goal.overflow_sub-self
overflow_sub-self c =
    let w = c.args.word in let es = c.self.inside.slots.entries in let at = c.in-Some.at in let room = c.in-Some.ensures.room in
    let some : 0 < length (rooms_in es) = some_among (rooms_in es) w (room_is_there w es at room.0 room.1) in
    omega (arith, some, c.self.invariant.1)

pub invariant_of-self : goal.invariant_of-self
invariant_of-self c =
    let w = c.args.word in let es = c.self.inside.slots.entries in let at = c.in-Some.at in let next = c.self.inside.next in let rooms = c.self.inside.rooms in let room = c.in-Some.ensures.room in
    let there = room_is_there w es at room.0 room.1 in
    let some : 0 < length (rooms_in es) = some_among (rooms_in es) w there in
    let less : length (without_room (rooms_in es) w) + 1 ≡ length (rooms_in es) = one_less (rooms_in es) w there in
    let same : next + rooms ≡ next + 1 + (rooms - 1) = omega (arith, some, c.self.invariant.1) in (
      rw (filled_held w es at room.0 c.args.cell next room.1 c.self.invariant.0.rises) (filled_aged c.self.invariant.0 c.insert.new.self w c.args.cell (omega (arith, some, c.self.invariant.1)) c.insert.ensures.places),
      rw (filled_rooms w es at room.0 c.args.cell next room.1 (next + rooms) c.self.invariant.2) (omega (arith, less, c.self.invariant.1)),
      rw (← same) (filled_rises w es at room.0 c.args.cell next room.1 (next + rooms) c.self.invariant.2),
    )

pub returns-clause-state : goal.returns-clause-state
returns-clause-state c =
    let w = c.args.word in let es = c.self.inside.slots.entries in let at = c.in-Some.at in let next = c.self.inside.next in let room = c.in-Some.ensures.room in
    rw (← c.self.view_is) (filled_copies w es at room.0 c.args.cell next room.1 c.self.invariant.0.rises)

pub returns-clause-rooms : goal.returns-clause-rooms
returns-clause-rooms c =
    let w = c.args.word in let es = c.self.inside.slots.entries in let at = c.in-Some.at in let next = c.self.inside.next in let room = c.in-Some.ensures.room in
    rw (← c.self.view_is) (filled_rooms w es at room.0 c.args.cell next room.1 (next + c.self.inside.rooms) c.self.invariant.2)
