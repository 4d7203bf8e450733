use Rattle.std.proofs.Common.{◌∙◌, ◌++◌, ◌∷◌, [], ap, subst, sym}
use Rattle.read_cache.specs.declared.slot.Slot.TheVariants.{Room}
use Rattle.read_cache.specs.Slots.{IsAbsent}
use Rattle.read_cache.proofs.SlotLemmas.{entered, not_looked_up}
use Rattle.read_cache.proofs.cache.add_room.Goals as goal

pub returns-in-Ok-clause-added : goal.returns-in-Ok-clause-added
returns-in-Ok-clause-added c =
    let w = c.args.word in let es = c.make_entry.new.slots.entries in
    c.in-Ok.ensures.entries ∙ entered w es (Room c.args.number) (not_looked_up es w (subst (λ fs. IsAbsent fs w) (sym c.make_entry.ensures) c.requires.absent)) ∙ ap (λ fs. fs ++ (w, Room c.args.number) ∷ []) c.make_entry.ensures
