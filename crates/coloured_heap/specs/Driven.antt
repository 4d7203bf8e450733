-- What the drivers keep to (this project's rule): a copy is evicted where the cache holds more than its share, and a thread does a plain
-- step between two moves.
use Rattle.std.specs.Prelude.{ℕ, Bool, true, not, ◌&&◌, ◌==◌, nat_lt, List, [], ◌∷◌, ◌++◌, Option, Some}
use Rattle.fr_base.specs.Lists.{tot, one}
use Rattle.fr_base.specs.declared.step.Fresh.{Fresh}
use Rattle.fr_base.specs.declared.settings.Options.{Options}
use Rattle.journal.specs.declared.act.Act.{Act}
use Rattle.journal.specs.declared.act.Act.TheVariants as act
use Rattle.journal.specs.View.{EntryView}
use Rattle.coloured_heap.specs.Lists.{holds, has, less_all}
use Rattle.coloured_heap.specs.Heap.{Coloured, start}
use Rattle.coloured_heap.specs.Changes.{after_act}
use Rattle.coloured_heap.specs.Legal.{entry_after}

-- EVICTIONS

-- how many words are cached at a server
abbrev pub cached_at : Coloured → ℕ → ℕ
cached_at s here = tot (λ c. one (c.server == here)) s.cached

-- an eviction finds more words cached at its server than the cache should hold
abbrev pub is_due : Options → ℕ → Coloured → Act → Bool
is_due o here s (act.Evict w) = nat_lt o.cache (cached_at s here)
is_due o here s _ = true

abbrev pub are_due : Options → EntryView → List Act → Coloured → Bool
are_due o e [] s = true
are_due o e (a ∷ rest) s = is_due o e.server s a && are_due o e rest (after_act e s a)

-- MOVES

-- the threads that these acts move
abbrev pub departing : List Act → List ℕ
departing [] = []
departing (act.Depart t there ∷ rest) = t ∷ departing rest
departing (_ ∷ rest) = departing rest

-- a thread that moves isn't among those that moved and did no plain step since, and moves once
abbrev pub may_depart : List ℕ → List ℕ → Bool
may_depart moved [] = true
may_depart moved (t ∷ ts) = not (has (λ u. u == t) moved) && may_depart (t ∷ moved) ts

-- a plain step of a thread takes it out
abbrev stepped : Option ℕ → Option Fresh → List ℕ → List ℕ
stepped (Some t) (Some names) moved = less_all (λ u. u == t) moved
stepped _ _ moved = moved

-- the threads that moved and did no plain step since, after an entry
abbrev pub resting : EntryView → List ℕ → List ℕ
resting e moved = departing e.acts ++ stepped e.thread e.done moved

-- JOURNALS

-- an entry's evictions are due, and its threads may move
abbrev pub is_driven_entry : Options → Coloured → List ℕ → EntryView → Bool
is_driven_entry o s moved e = are_due o e e.acts s && may_depart moved (departing e.acts)

abbrev pub driven_from : Options → Coloured → List ℕ → List EntryView → Bool
driven_from o s moved [] = true
driven_from o s moved (e ∷ es) = is_driven_entry o s moved e && holds (λ after. driven_from o after (resting e moved) es) (entry_after o s e)

-- a legal journal that a driver can leave
abbrev pub is_driven : Options → List EntryView → Bool
is_driven o es = driven_from o start [] es

-- an entry moves no thread
abbrev stays : EntryView → Bool
stays e = not (has (λ t. true) (departing e.acts))

abbrev pub no_moves : List EntryView → Bool
no_moves [] = true
no_moves (e ∷ es) = stays e && no_moves es

-- a legal journal that servers can leave that run beside each other: no thread moves there
abbrev pub is_driven_live : Options → List EntryView → Bool
is_driven_live o es = is_driven o es && no_moves es
