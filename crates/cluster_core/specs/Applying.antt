-- One event of a row of servers (this project's own).
use Rattle.std.specs.Prelude.{◌≡◌, ◌+◌, ℕ, Bool, true, false, List, Option, Some, None, IsSome, slice_get, slice_set}
use Rattle.journal.specs.View.{EntryView}
use Rattle.server_model.specs.declared.event.What.{What}
use Rattle.server_model.specs.Servers.{Server}
use Rattle.server_model.specs.Events.{enabled, does}
use Rattle.server_model.specs.Clusters.{outboxes}
use Rattle.server_core.specs.Servers.{ServerView}
use Rattle.server_core.specs.Steps.{CountsLeft}
use Rattle.cluster_core.specs.Views.{states, events_in, AreNumbered}
use Rattle.cluster_core.specs.Rooms.{HaveRoomBut, HaveRoomFor}
use Rattle.cluster_core.specs.Rows.{IsSameRun}
use Rattle.cluster_core.specs.Handing.{handed, AreEmptyBut, NoneSent}

-- whether it can be done there
abbrev pub can_do : What → Option ServerView → Bool
can_do w None = false
can_do w (Some v) = enabled v.options v.state w

-- what doing it asks of its server: it is enabled and has a result, and no count is near its end
pub record CanAct (w : What) (v : ServerView) : Type 0 where
  pub on : enabled v.options v.state w ≡ true
  pub result : IsSome (does v.code v.options v.state w)
  pub counts : CountsLeft v.state

-- it was done there, with that entry
pub record Acts (w : What) (e : EntryView) (v u : ServerView) : Type 0 where
  pub done : does v.code v.options v.state w ≡ Some (u.state, e)
  pub code : u.code ≡ v.code
  pub options : u.options ≡ v.options

-- what it makes of the server at that place
pub record Makes (n : ℕ) (w : What) (e : EntryView) (vs : List ServerView) (new : Server) : Type 0 where
  pub old : ServerView
  pub there : slice_get vs n ≡ Some old
  pub done : does old.code old.options old.state w ≡ Some (new, e)

-- it was done there, its messages stand in the outbox there, and each server has room for those that go to it
pub record Acted (n : ℕ) (w : What) (e : EntryView) (vs us : List ServerView) : Type 0 where
  pub new : Server
  pub makes : Makes n w e vs new
  pub changed : states us ≡ slice_set (states vs) n new
  pub numbered : AreNumbered 0 (states us)
  pub others : AreEmptyBut n (states us)
  pub room : HaveRoomFor (outboxes (states us)) us
  pub ready : HaveRoomBut n 2 us
  pub run : IsSameRun vs us
  pub events : events_in (states us) ≡ events_in (states vs) + 1

-- it was done there, and its messages were handed over
pub record Applied (n : ℕ) (w : What) (e : EntryView) (vs ws : List ServerView) : Type 0 where
  pub new : Server
  pub makes : Makes n w e vs new
  pub changed : states ws ≡ handed (slice_set (states vs) n new)
  pub sent : NoneSent (states ws)
  pub run : IsSameRun vs ws
  pub events : events_in (states ws) ≡ events_in (states vs) + 1
