use Rattle.std.proofs.Common.{◌≡◌, ◌+◌, ◌<◌, ◌^◌, ◌∷◌, [], ◌||◌, false, ◌∙◌, refl, sym, length-append, arith}
use Rattle.std.proofs.lemmas.Bool.{or_right}
use Rattle.read_cache.specs.Cache.{is_cached}
use Rattle.read_cache.specs.Slots.{copies_in, rooms_in}
use Rattle.read_cache.specs.View.{is_among}
use Rattle.read_cache.proofs.AgeLemmas.{roomier, fewer_rooms}
use Rattle.read_cache.proofs.SlotLemmas.{among_last, added_held, added_rooms, added_rises}
use Rattle.read_cache.proofs.cache.Cache.reserve.Goals as goal

pub invariant_of-self-in_err-add_room : goal.invariant_of-self-in_err-add_room
invariant_of-self-in_err-add_room c =
    let m = c.self.invariant.0 in
    let below : c.self.inside.next + c.self.inside.rooms < 2 ^ 40 = omega (arith, m.few, c.if-age-eq-AGES.false) in (
      rw c.in_err-add_room.ensures.refused (fewer_rooms (roomier m c.reserve.new.self below c.in_ok-reserve.ensures.place)),
      rw c.in_err-add_room.ensures.refused c.self.invariant.1,
      rw c.in_err-add_room.ensures.refused c.self.invariant.2,
    )

pub invariant_of-self-2 : goal.invariant_of-self-2
invariant_of-self-2 c =
    let m = c.self.invariant.0 in let w = c.args.word in let es = c.self.inside.slots.entries in let age = c.self.inside.next + c.self.inside.rooms in
    let below : age < 2 ^ 40 = omega (arith, m.few, c.if-age-eq-AGES.false) in
    let more : age + 1 ≡ c.self.inside.next + (c.self.inside.rooms + 1) = omega arith in (
      rw (c.in_ok-add_room.ensures.added, added_held w es age) (roomier m c.reserve.new.self below c.in_ok-reserve.ensures.place),
      rw (c.in_ok-add_room.ensures.added, added_rooms w es age c.self.invariant.2, length-append (rooms_in es) (w ∷ [])) (omega (arith, c.self.invariant.1)),
      rw (c.in_ok-add_room.ensures.added, ← more) (added_rises w es age c.self.invariant.2),
    )

pub returns-clause-state : goal.returns-clause-state
returns-clause-state c =
    let w = c.args.word in let es = c.self.inside.slots.entries in let age = c.self.inside.next + c.self.inside.rooms in
    rw (← c.self.view_is, c.in_ok-add_room.ensures.added, added_held w es age) refl

pub returns-clause-rooms : goal.returns-clause-rooms
returns-clause-rooms c =
    let w = c.args.word in let es = c.self.inside.slots.entries in let age = c.self.inside.next + c.self.inside.rooms in
    let none : (is_cached (copies_in es) w || is_among (rooms_in es) w) ≡ false = sym c.is_there.ensures.there ∙ c.if-is_there.false in
    rw (← c.self.view_is, c.in_ok-add_room.ensures.added, added_rooms w es age c.self.invariant.2, none) refl

pub returns-clause-place : goal.returns-clause-place
returns-clause-place c =
    let w = c.args.word in let es = c.self.inside.slots.entries in let age = c.self.inside.next + c.self.inside.rooms in
    or_right (is_cached (copies_in c.add_room.new.slots.entries) w) (is_among (rooms_in c.add_room.new.slots.entries) w)
    (rw (c.in_ok-add_room.ensures.added, added_rooms w es age c.self.invariant.2) (among_last (rooms_in es) w))
