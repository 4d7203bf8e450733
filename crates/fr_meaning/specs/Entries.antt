-- Threads of the code without what room they have.
use Rattle.std.specs.Prelude.{List, [], ◌∷◌}
use Rattle.fr_meaning.specs.declared.thread.Thread.{Thread}
use Rattle.fr_meaning.specs.PoolView.{Entry}

abbrev pub entry_of : Thread → Entry
entry_of x = record { number = x.number; stage = x.stage; frames = x.frames.items; focus = x.focus; slots = x.slots.items }

abbrev pub entries_of : List Thread → List Entry
entries_of [] = []
entries_of (x ∷ xs) = entry_of x ∷ entries_of xs
