-- What making room leaves: all that stands there, and no less room (this project's own).
use Rattle.std.specs.Prelude.{◌≡◌, ◌≤◌, ℕ, true, ⊤, List, Option, Some, None}
use Rattle.rank_map.specs.Places.{Place, has_place, item_at}
use Rattle.thread_state.specs.View.{ThreadView}
use Rattle.server_parts.specs.Sites.{has_copy_room}
use Rattle.server_parts.specs.Spares.{SparesView}
use Rattle.server_parts.specs.Threads.{states}
use Rattle.server_parts.specs.Works.{WorkView}

-- the same thread with no less room, or none as before
abbrev pub HasThreadGrown : Option ThreadView → Option ThreadView → Type 0
HasThreadGrown None None = ⊤
HasThreadGrown (Some a) (Some b) = (b.state ≡ a.state) × (a.room ≤ b.room)
HasThreadGrown a b = ⊥

-- the same threads, with no less room in the lists of each and with each place that was there
pub record HaveThreadsGrown (old new : List (Place ThreadView)) : Type 0 where
  pub states : states new ≡ states old
  pub items : (k : ℕ) → HasThreadGrown (item_at old k) (item_at new k)
  pub places : (k : ℕ) → has_place old k ≡ true → has_place new k ≡ true

-- the same work, with no less room
pub record HasWorkGrown (old new : WorkView) : Type 0 where
  pub state : new.state ≡ old.state
  pub room : old.room ≤ new.room
  pub inbox_room : old.inbox_room ≤ new.inbox_room
  pub copies : (word : ℕ) → has_copy_room old word ≡ true → has_copy_room new word ≡ true

-- what is kept for new threads is no less
pub record HaveSparesGrown (old new : SparesView) : Type 0 where
  pub first : old.first ≤ new.first
  pub second : old.second ≤ new.second
  pub boxes : old.boxes ≤ new.boxes
