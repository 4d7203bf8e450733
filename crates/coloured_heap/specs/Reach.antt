-- What a plain step loads and stores is reached (this project's rule): a load finds the object's value, where the object lies here or
-- where a copy of that value is cached here under the object's word; a store finds the object here.
use Rattle.std.specs.Prelude.{ℕ, Bool, true, ◌&&◌, ◌||◌, List, [], ◌∷◌}
use Rattle.fr_base.specs.Names.{same_plain}
use Rattle.fr_base.specs.declared.label.Plain.{Plain}
use Rattle.fr_base.specs.declared.label.Label.{Label}
use Rattle.fr_base.specs.declared.label.Label.TheVariants as label
use Rattle.fr_base.specs.declared.settings.Options.{Options}
use Rattle.journal.specs.View.{EntryView}
use Rattle.coloured_heap.specs.Lists.{holds}
use Rattle.coloured_heap.specs.Heap.{Living, Coloured, start, object_at, lies_at, copy_at}
use Rattle.coloured_heap.specs.Rules.{is_here}
use Rattle.coloured_heap.specs.Changes.{with_value}
use Rattle.coloured_heap.specs.Legal.{entry_acts, entry_after}

-- a copy of that value is cached at that server under that word
abbrev pub has_copy : Coloured → ℕ → ℕ → Plain → Bool
has_copy s here w v = holds (λ c. same_plain c.value v) (copy_at s here w)

-- the object has that value, and it lies here or a copy of that value is cached here under its word
abbrev pub is_loaded : ℕ → Coloured → Plain → Living → Bool
is_loaded here s v x = same_plain x.value v && (lies_at here x.place || has_copy s here x.word v)

-- the labels of a plain step, in order; a store changes what is loaded after it
abbrev pub reaches : EntryView → List Label → Coloured → Bool
reaches e [] s = true
reaches e (label.Load p v ∷ ls) s = holds (is_loaded e.server s v) (object_at s p) && reaches e ls s
reaches e (label.Store p v ∷ ls) s = is_here e s p && reaches e ls (with_value s p v)
reaches e (_ ∷ ls) s = reaches e ls s

-- the entry's acts are legal, and on the state after them its labels reach what they load and store
abbrev pub is_reached : Options → Coloured → EntryView → Bool
is_reached o s e = holds (reaches e e.labels) (entry_acts o s e)

abbrev pub reached_from : Options → Coloured → List EntryView → Bool
reached_from o s [] = true
reached_from o s (e ∷ es) = is_reached o s e && holds (λ after. reached_from o after es) (entry_after o s e)

-- each entry of a legal journal reaches what it loads and stores
abbrev pub is_all_reached : Options → List EntryView → Bool
is_all_reached o es = reached_from o start es
