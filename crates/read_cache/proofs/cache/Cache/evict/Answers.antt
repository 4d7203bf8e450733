use Rattle.std.proofs.Common.{◌≡◌, ◌+◌, refl, arith}
use Rattle.read_cache.specs.declared.slot.Slot.TheVariants.{Held}
use Rattle.read_cache.specs.Slots.{held_in, copies_in}
use Rattle.read_cache.proofs.AgeLemmas.{held_place, gone_aged, copies_without}
use Rattle.read_cache.proofs.SlotLemmas.{held_aged, held_copy, in_use, can_evict_is, stays, goes, taken_out, copy_goes, rooms_left}
use Rattle.read_cache.proofs.cache.Cache.evict.Goals as goal

pub returns-then-users-gt0-clause-gone : goal.returns-then-users-gt0-clause-gone
returns-then-users-gt0-clause-gone c =
    let w = c.args.word in let es = c.self.inside.slots.entries in let at = c.in-Some.field-0.at in let u = c.in-Some.field-0.users in let a = c.in-Some.field-0.age in
    let h = held_copy w es at _ u a c.in-Some.ensures.copy in
    rw (← c.self.view_is, can_evict_is (copies_in es) w _ u h, in_use u c.if-users-gt0.true) refl

pub returns-then-users-gt0-clause-cache : goal.returns-then-users-gt0-clause-cache
returns-then-users-gt0-clause-cache c =
    let w = c.args.word in let es = c.self.inside.slots.entries in let at = c.in-Some.field-0.at in let u = c.in-Some.field-0.users in let a = c.in-Some.field-0.age in
    let h = held_copy w es at _ u a c.in-Some.ensures.copy in
    rw (← c.self.view_is, stays (copies_in es) w _ u h c.if-users-gt0.true) refl

pub remove-requires : goal.remove-requires
remove-requires c =
    let w = c.args.word in let es = c.self.inside.slots.entries in let at = c.in-Some.field-0.at in let u = c.in-Some.field-0.users in let a = c.in-Some.field-0.age in
    record { place = held_place (held_in es) w _ c.self.inside.unused (held_aged w es at _ u a c.in-Some.ensures.copy) c.self.invariant.0.held }

pub invariant_of-self : goal.invariant_of-self
invariant_of-self c =
    let w = c.args.word in let es = c.self.inside.slots.entries in let at = c.in-Some.field-0.at in let u = c.in-Some.field-0.users in let a = c.in-Some.field-0.age in let cell = c.in-Some.field-0.cell in
    let copy = c.in-Some.ensures.copy in let call = c.swap_remove_index in let slot = Held cell u a in
    let left = taken_out es call.new.self.entries at w slot call.result copy call.ensures.entry call.ensures.entries in
    let rooms = rooms_left w es at cell u a (c.self.inside.next + c.self.inside.rooms) (w, slot) c.self.invariant.2 copy in (
      rw (left, copy_goes w es at cell u a c.self.inside.next (w, slot) c.self.invariant.0.rises copy) (gone_aged c.self.invariant.0 w _ (held_aged w es at cell u a copy) c.remove.new.self c.remove.ensures.places),
      rw (left, rooms) c.self.invariant.1,
      rw (left, rooms) c.self.invariant.2,
    )

pub returns-clause-gone : goal.returns-clause-gone
returns-clause-gone c =
    let w = c.args.word in let es = c.self.inside.slots.entries in let at = c.in-Some.field-0.at in let u = c.in-Some.field-0.users in let a = c.in-Some.field-0.age in
    let h = held_copy w es at _ u a c.in-Some.ensures.copy in
    let z : u ≡ 0 = omega (arith, c.if-users-gt0.false) in
    rw (← c.self.view_is, can_evict_is (copies_in es) w _ u h, z) refl

pub returns-clause-cache : goal.returns-clause-cache
returns-clause-cache c =
    let w = c.args.word in let es = c.self.inside.slots.entries in let at = c.in-Some.field-0.at in let u = c.in-Some.field-0.users in let a = c.in-Some.field-0.age in let cell = c.in-Some.field-0.cell in
    let copy = c.in-Some.ensures.copy in let call = c.swap_remove_index in let slot = Held cell u a in
    let left = taken_out es call.new.self.entries at w slot call.result copy call.ensures.entry call.ensures.entries in
    let h = held_copy w es at cell u a copy in
    let z : u ≡ 0 = omega (arith, c.if-users-gt0.false) in
    rw (
      ← c.self.view_is,
      goes (copies_in es) w _ u h z,
      left,
      copy_goes w es at cell u a c.self.inside.next (w, slot) c.self.invariant.0.rises copy,
      copies_without (held_in es) w,
      rooms_left w es at cell u a (c.self.inside.next + c.self.inside.rooms) (w, slot) c.self.invariant.2 copy,
    ) refl
