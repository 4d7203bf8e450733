-- What a delivery needs at its server beside a result.
use Rattle.std.specs.Prelude.{◌≡◌, ◌<◌, ◌^◌, ⊤, ℕ, true, List, length, Option, None, Some}
use Rattle.rank_map.specs.Places.{Place, item_at, has_place}
use Rattle.thread_state.specs.View.{ThreadState, ThreadView}
use Rattle.server_msgs.specs.declared.message.Message.{Message}
use Rattle.server_msgs.specs.declared.message.Message.TheVariants as message
use Rattle.server_model.specs.Work.{thread_in}
use Rattle.server_parts.specs.Works.{WorkView}
use Rattle.server_parts.specs.Sites.{has_copy_room, HasItems}
use Rattle.server_parts.specs.Threads.{states}

abbrev pub slots_in : Option ThreadState → ℕ
slots_in None = 0
slots_in (Some t) = length t.slots

abbrev pub passed_in : Option ThreadState → ℕ
passed_in None = 0
passed_in (Some t) = t.passed

-- room for a copy and for its use, a thread whose counts aren't near their ends, or a place for a thread
abbrev pub CanTake : Message → WorkView → List (Place ThreadView) → Type 0
CanTake (message.Fetched w c t) x ps = (has_copy_room x w ≡ true) × HasItems 1 (item_at ps t)
CanTake (message.Moved w c t) x ps = (slots_in (thread_in (states ps) t) < 2 ^ 32) × (passed_in (thread_in (states ps) t) < 255)
CanTake (message.Start p) x ps = has_place ps p.number ≡ true
CanTake (message.Migrate p) x ps = has_place ps p.number ≡ true
CanTake m x ps = ⊤
