-- Which journals are legal (this project's rule): each entry stands where it may, and each of its acts meets its rule.
use Rattle.std.specs.Prelude.{ℕ, suc, Bool, true, ◌&&◌, ◌==◌, List, [], ◌∷◌, Option, Some, None, is_none, if◌then◌else◌}
use Rattle.fr_base.specs.declared.step.Fresh.{Fresh}
use Rattle.fr_base.specs.declared.step.Fresh.TheVariants as fresh
use Rattle.fr_base.specs.declared.settings.Options.{Options}
use Rattle.journal.specs.declared.act.Act.{Act}
use Rattle.journal.specs.View.{EntryView}
use Rattle.coloured_heap.specs.Lists.{holds}
use Rattle.coloured_heap.specs.Heap.{Coloured, start, thread_at, mutex_at}
use Rattle.coloured_heap.specs.Rules.{of_run, allows}
use Rattle.coloured_heap.specs.Changes.{after_act, stored, with_new_mutex}

-- a thread that is named stands there
abbrev stands : Coloured → ℕ → Option ℕ → Bool
stands s here None = true
stands s here (Some t) = holds (λ r. r.server == here) (thread_at s t)

-- the entry is of a server of the run, and its thread stands there
abbrev pub is_placed : Options → Coloured → EntryView → Bool
is_placed o s e = of_run o e.server && stands s e.server e.thread

-- the acts of an entry, one after another, where each is allowed
abbrev pub acts_after : Options → EntryView → List Act → Coloured → Option Coloured
acts_after o e [] s = Some s
acts_after o e (a ∷ rest) s = if allows o e s a then acts_after o e rest (after_act e s a) else None

-- an entry's acts, where it stands where it may
abbrev pub entry_acts : Options → Coloured → EntryView → Option Coloured
entry_acts o s e = if is_placed o s e then acts_after o e e.acts s else None

-- a new mutex has its home there, and none had its name before
abbrev pub is_new_name : Coloured → ℕ → Option Fresh → Bool
is_new_name s here (Some (fresh.Mutex m)) = (m.home == here) && is_none (mutex_at s m)
is_new_name s here _ = true

-- the new mutex of a plain step, where it may be named
abbrev pub with_mutex : EntryView → Coloured → Option Coloured
with_mutex e s = if is_new_name s e.server e.done then Some (with_new_mutex e.done s) else None

-- after the acts the entry's stores, and its new mutex
abbrev pub settled : EntryView → Option Coloured → Option Coloured
settled e None = None
settled e (Some s) = with_mutex e (stored e.labels s)

-- the state after an entry, or none where the entry breaks a rule
abbrev pub entry_after : Options → Coloured → EntryView → Option Coloured
entry_after o s e = settled e (entry_acts o s e)

-- a state to go on from, or none
abbrev pub onward : Option Coloured → (Coloured → Option Coloured) → Option Coloured
onward None go = None
onward (Some s) go = go s

-- the state after these entries, from a state on
abbrev pub journal_from : Options → Coloured → List EntryView → Option Coloured
journal_from o s [] = Some s
journal_from o s (e ∷ es) = onward (entry_after o s e) (λ after. journal_from o after es)

-- the state after a journal
abbrev pub journal_after : Options → List EntryView → Option Coloured
journal_after o es = journal_from o start es

-- a state to go on from, or the place where there is none
abbrev pub otherwise : Option Coloured → ℕ → (Coloured → Option ℕ) → Option ℕ
otherwise None at go = Some at
otherwise (Some s) at go = go s

-- the place of the first of these entries that breaks a rule, where they are counted from that number on
abbrev pub illegal_from : Options → Coloured → ℕ → List EntryView → Option ℕ
illegal_from o s at [] = None
illegal_from o s at (e ∷ es) = otherwise (entry_after o s e) at (λ after. illegal_from o after (suc at) es)

-- the place, from 0, of the first entry that breaks a rule
abbrev pub first_illegal : Options → List EntryView → Option ℕ
first_illegal o es = illegal_from o start 0 es

abbrev pub is_legal : Options → List EntryView → Bool
is_legal o es = is_none (first_illegal o es)
