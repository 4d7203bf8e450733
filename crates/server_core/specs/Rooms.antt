-- The room that each event needs at its server, so that it takes no memory (this project's own).
use Rattle.std.specs.Prelude.{◌≡◌, ◌+◌, ◌*◌, ◌≤◌, ℕ, true, ⊤, List, Option, Some, None, slice_get}
use Rattle.fr_base.specs.declared.instruction.Instr.{Instr}
use Rattle.rank_map.specs.Places.{Place, item_at}
use Rattle.rank_map.specs.Places as places
use Rattle.read_cache.specs.View.{CacheView, has_place}
use Rattle.thread_state.specs.View.{ThreadState, ThreadView}
use Rattle.server_msgs.specs.declared.message.Message.{Message}
use Rattle.server_msgs.specs.declared.message.Message.TheVariants as message
use Rattle.server_model.specs.declared.event.What.{What}
use Rattle.server_model.specs.declared.event.What.TheVariants as what
use Rattle.server_model.specs.Prepare.{access_of}
use Rattle.server_core.specs.Servers.{ServerView}
use Rattle.server_parts.specs.Sites.{HasItems}
use Rattle.server_parts.specs.Spares.{SparesView, HasSpares}
use Rattle.server_ready.specs.Stars.{stars}

-- how many stars the thread follows at most at that instruction
abbrev pub stars_at : Instr → ThreadState → ℕ
stars_at i t = stars (access_of i t) t

-- a step at that instruction: five of each thing for each star and seven for the plain step, one place in each list of the thread for
-- each star and two for the plain step, and lists for the slots of the threads that it starts
pub record HasStepRoom (room : ℕ) (spares : SparesView) (t : ThreadView) (i : Instr) : Type 0 where
  pub things : 5 * stars_at i t.state + 7 ≤ room
  pub items : stars_at i t.state + 2 ≤ t.room
  pub slots : HasSpares spares i

-- a place past the code needs nothing, and neither does a thread that isn't there
abbrev pub HasRoomAt : ℕ → SparesView → ThreadView → Option Instr → Type 0
HasRoomAt room spares t None = ⊤
HasRoomAt room spares t (Some i) = HasStepRoom room spares t i

abbrev pub HasRoomOf : List Instr → ℕ → SparesView → Option ThreadView → Type 0
HasRoomOf code room spares None = ⊤
HasRoomOf code room spares (Some t) = HasRoomAt room spares t (slice_get code t.state.pc)

-- what a message brings has its place
abbrev pub HasPlaceFor : CacheView → List (Place ThreadView) → Option Message → Type 0
HasPlaceFor copies ps (Some (message.Fetched w c t)) = (has_place copies w ≡ true) × HasItems 1 (item_at ps t)
HasPlaceFor copies ps (Some (message.Start p)) = places.has_place ps p.number ≡ true
HasPlaceFor copies ps (Some (message.Migrate p)) = places.has_place ps p.number ≡ true
HasPlaceFor copies ps m = ⊤

-- the copies of a server with the room for more
abbrev pub copies_of : ServerView → CacheView
copies_of v = record { state = v.state.rest.cache; rooms = v.copies }

-- no part of the event takes memory
abbrev pub HasRoom : What → ServerView → Type 0
HasRoom (what.Step t) v = HasRoomOf v.code v.room v.spares (item_at v.places t)
HasRoom (what.Deliver i) v = (3 ≤ v.room) × HasPlaceFor (copies_of v) v.places (slice_get v.state.rest.inbox i)
HasRoom (what.Evict w) v = 1 ≤ v.room
HasRoom (what.Migrate t target) v = 2 ≤ v.room
