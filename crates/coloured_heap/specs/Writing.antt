-- Short words for journals that are written by hand.
use Rattle.std.specs.Prelude.{ℕ, ◌+◌, ◌*◌, ◌^◌, pos, false, List, [], Some, None}
use Rattle.fr_base.specs.declared.label.Label.{Label}
use Rattle.fr_base.specs.declared.label.Plain.{Plain}
use Rattle.fr_base.specs.declared.label.Plain.TheVariants as plain
use Rattle.fr_base.specs.declared.name.MutexNo.{MutexNo}
use Rattle.fr_base.specs.declared.name.ObjNo.{ObjNo}
use Rattle.fr_base.specs.declared.settings.Options.{Options}
use Rattle.fr_base.specs.declared.step.Fresh.{Fresh}
use Rattle.fr_base.specs.declared.step.Fresh.TheVariants as fresh
use Rattle.journal.specs.declared.act.Act.{Act}
use Rattle.journal.specs.View.{EntryView}

-- so many servers, colours and words in a cache; the rest plays no part here
abbrev pub options : ℕ → ℕ → ℕ → Options
options servers colours cache = record { servers = servers; workers = 1; colours = colours; cache = cache; quantum = 16; turns = 1000000; balance = 0; choice = 0; trace = false }

-- a plain step of a thread at a server, with new names
abbrev pub naming : ℕ → ℕ → Fresh → List Act → List Label → EntryView
naming here t names acts labels = record { server = here; thread = Some t; done = Some names; acts = acts; labels = labels }

-- a plain step without new names
abbrev pub step : ℕ → ℕ → List Act → List Label → EntryView
step here t acts labels = naming here t fresh.None acts labels

-- a thread asks for something, or moves
abbrev pub turn : ℕ → ℕ → List Act → EntryView
turn here t acts = record { server = here; thread = Some t; done = None; acts = acts; labels = [] }

-- a message is delivered, or a copy evicted
abbrev pub event : ℕ → List Act → EntryView
event here acts = record { server = here; thread = None; done = None; acts = acts; labels = [] }

-- the objects that a thread makes, and the threads and mutexes of a server
abbrev pub object : ℕ → ℕ → ObjNo
object t n = record { thread = t; count = n }

abbrev pub thread : ℕ → ℕ → ℕ
thread server count = server * 2 ^ 32 + count

abbrev pub mutex : ℕ → ℕ → MutexNo
mutex server count = record { home = server; count = count }

abbrev pub int : ℕ → Plain
int n = plain.Int (pos n)
