-- The server and all its threads, as the definitions have both, and room for what an event may bring.
use Rattle.std.specs.Prelude.{◌≤◌, ⊤, ℕ, Bool, List, Option, None, Some}
use Rattle.rank_map.specs.Places.{Place}
use Rattle.read_cache.specs.View.{CacheView, has_place}
use Rattle.thread_state.specs.View.{ThreadView}
use Rattle.server_model.specs.Work.{Site}
use Rattle.server_parts.specs.Works.{WorkView}
use Rattle.server_parts.specs.Threads.{states}

-- the work with the threads that stand there
abbrev pub site : WorkView → List (Place ThreadView) → Site
site w ps = record { work = w.state; threads = states ps }

-- the copies with the room for more
abbrev pub copies_in : WorkView → CacheView
copies_in w = record { state = w.state.rest.cache; rooms = w.copies }

-- a copy can be filled under that word without memory
abbrev pub has_copy_room : WorkView → ℕ → Bool
has_copy_room w word = has_place (copies_in w) word

-- so many more items fit in each list of a thread that is there
abbrev pub HasItems : ℕ → Option ThreadView → Type 0
HasItems n None = ⊤
HasItems n (Some t) = n ≤ t.room
