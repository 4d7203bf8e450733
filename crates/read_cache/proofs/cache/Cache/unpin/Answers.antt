use Rattle.std.proofs.Common.{◌≡◌, ◌<◌, ◌-◌, refl, arith, true}
use Rattle.read_cache.specs.Slots.{held_in, copies_in}
use Rattle.read_cache.specs.Cache.{can_unpin}
use Rattle.read_cache.proofs.AgeLemmas.{aged, held_place, freed_aged, copies_users}
use Rattle.read_cache.proofs.SlotLemmas.{held_aged, held_copy, users_set, rooms_stay, users_is, can_unpin_is}
use Rattle.read_cache.proofs.cache.Cache.unpin.Goals as goal

pub overflow_sub-copy : goal.overflow_sub-copy
overflow_sub-copy c =
    let w = c.args.word in let es = c.self.inside.slots.entries in let at = c.in-Some.copy.at in let u = c.in-Some.copy.users in let a = c.in-Some.copy.age in let cell = c.in-Some.copy.cell in let copy = c.in-Some.ensures.copy in
    let p : can_unpin (copies_in es) w ≡ true = (rw (← c.self.view_is) at c.requires.can_unpin) in
    let l : 0 < u = can_unpin_is (copies_in es) w cell u (held_copy w es at cell u a copy) p in
    omega (arith, l)

pub give_up-requires : goal.give_up-requires
give_up-requires c =
    let w = c.args.word in let es = c.self.inside.slots.entries in let at = c.in-Some.copy.at in let u = c.in-Some.copy.users in let a = c.in-Some.copy.age in let cell = c.in-Some.copy.cell in let copy = c.in-Some.ensures.copy in
    record { place = held_place (held_in es) w (aged w cell u a) c.self.inside.unused (held_aged w es at cell u a copy) c.self.invariant.0.held }

pub invariant_of-self : goal.invariant_of-self
invariant_of-self c =
    let w = c.args.word in let es = c.self.inside.slots.entries in let at = c.in-Some.copy.at in let u = c.in-Some.copy.users in let a = c.in-Some.copy.age in let cell = c.in-Some.copy.cell in let copy = c.in-Some.ensures.copy in
    let e = users_set w es at cell u a (u - 1) copy in
    let p : can_unpin (copies_in es) w ≡ true = (rw (← c.self.view_is) at c.requires.can_unpin) in
    let l : 0 < u = can_unpin_is (copies_in es) w cell u (held_copy w es at cell u a copy) p in (
      rw e (freed_aged c.self.invariant.0 w (aged w cell u a) (held_aged w es at cell u a copy) c.give_up.new.unused u refl l c.give_up.ensures),
      rw (rooms_stay w es at cell u a (u - 1) copy) c.self.invariant.1,
      rw (rooms_stay w es at cell u a (u - 1) copy) c.self.invariant.2,
    )

pub returns : goal.returns
returns c =
    let w = c.args.word in let es = c.self.inside.slots.entries in let at = c.in-Some.copy.at in let u = c.in-Some.copy.users in let a = c.in-Some.copy.age in let cell = c.in-Some.copy.cell in let copy = c.in-Some.ensures.copy in
    rw (
      ← c.self.view_is,
      users_set w es at cell u a (u - 1) copy,
      copies_users (held_in es) w (u - 1),
      rooms_stay w es at cell u a (u - 1) copy,
      users_is (copies_in es) w cell u (held_copy w es at cell u a copy),
    ) refl
