use Rattle.std.proofs.Common.{◌≡◌, ℕ, ◌||◌, List, Option, None, Some, is_some, IfSome, IfNone, refl, sym, ◌∙◌}
use Rattle.read_cache.specs.declared.slot.Slot.{Slot}
use Rattle.read_cache.specs.Cache.{is_cached}
use Rattle.read_cache.specs.Slots.{copies_in, rooms_in, IsAbsent, StandsAt}
use Rattle.read_cache.specs.View.{is_among}
use Rattle.read_cache.proofs.SlotLemmas.{no_copy, no_room, is_one}
use Rattle.read_cache.proofs.cache.is_there.Goals as goal

found_is : (es : List (ℕ × Slot)) (w : ℕ) (o : Option (ℕ × Slot)) → IfSome o (λ found. StandsAt es w found.0 found.1) → IfNone o (IsAbsent es w) → is_some o ≡ (is_cached (copies_in es) w || is_among (rooms_in es) w)
found_is es w None s n = rw (no_copy w es n, no_room w es n) refl
found_is es w (Some found) s n = sym (is_one w es found.0 found.1 s)

pub returns-clause-there : goal.returns-clause-there
returns-clause-there c = c.is_some.ensures ∙ found_is c.args.slots.now.entries c.args.word c.find.result c.find.ensures.there c.find.ensures.absent
