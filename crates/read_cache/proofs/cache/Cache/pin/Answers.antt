use Rattle.std.proofs.Common.{◌≡◌, ◌<◌, ◌^◌, ◌+◌, refl, arith, true}
use Rattle.read_cache.specs.Slots.{held_in, copies_in}
use Rattle.read_cache.specs.Cache.{can_pin}
use Rattle.read_cache.proofs.AgeLemmas.{aged, held_place, used_aged, copies_users}
use Rattle.read_cache.proofs.SlotLemmas.{held_aged, held_copy, users_set, rooms_stay, users_is, can_pin_is}
use Rattle.read_cache.proofs.cache.Cache.pin.Goals as goal

pub overflow_add-copy : goal.overflow_add-copy
overflow_add-copy c =
    let w = c.args.word in let es = c.self.inside.slots.entries in let at = c.in-Some.copy.at in let u = c.in-Some.copy.users in let a = c.in-Some.copy.age in let cell = c.in-Some.copy.cell in let copy = c.in-Some.ensures.copy in
    let p : can_pin (copies_in es) w ≡ true = (rw (← c.self.view_is) at c.requires.can_pin) in
    let l : u + 1 < 2 ^ 64 = can_pin_is (copies_in es) w cell u (held_copy w es at cell u a copy) p in
    omega (arith, l)

pub take_into_use-requires : goal.take_into_use-requires
take_into_use-requires c =
    let w = c.args.word in let es = c.self.inside.slots.entries in let at = c.in-Some.copy.at in let u = c.in-Some.copy.users in let a = c.in-Some.copy.age in let cell = c.in-Some.copy.cell in let copy = c.in-Some.ensures.copy in
    record { place = held_place (held_in es) w (aged w cell u a) c.self.inside.unused (held_aged w es at cell u a copy) c.self.invariant.0.held }

pub invariant_of-self : goal.invariant_of-self
invariant_of-self c =
    let w = c.args.word in let es = c.self.inside.slots.entries in let at = c.in-Some.copy.at in let u = c.in-Some.copy.users in let a = c.in-Some.copy.age in let cell = c.in-Some.copy.cell in let copy = c.in-Some.ensures.copy in
    let e = users_set w es at cell u a (u + 1) copy in (
      rw e (used_aged c.self.invariant.0 w (aged w cell u a) (held_aged w es at cell u a copy) c.take_into_use.new.unused u refl c.take_into_use.ensures),
      rw (rooms_stay w es at cell u a (u + 1) copy) c.self.invariant.1,
      rw (rooms_stay w es at cell u a (u + 1) copy) c.self.invariant.2,
    )

pub returns : goal.returns
returns c =
    let w = c.args.word in let es = c.self.inside.slots.entries in let at = c.in-Some.copy.at in let u = c.in-Some.copy.users in let a = c.in-Some.copy.age in let cell = c.in-Some.copy.cell in let copy = c.in-Some.ensures.copy in
    rw (
      ← c.self.view_is,
      users_set w es at cell u a (u + 1) copy,
      copies_users (held_in es) w (u + 1),
      rooms_stay w es at cell u a (u + 1) copy,
      users_is (copies_in es) w cell u (held_copy w es at cell u a copy),
    ) refl
