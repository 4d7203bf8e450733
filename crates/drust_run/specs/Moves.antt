-- An event of one of some servers (this project's own).
use Rattle.std.specs.Prelude.{◌≡◌, ℕ, true, List, Some, IsSome, slice_get, slice_set}
use Rattle.journal.specs.View.{EntryView}
use Rattle.server_model.specs.declared.event.What.{What}
use Rattle.server_model.specs.Events.{enabled, does}
use Rattle.server_core.specs.Servers.{ServerView}
use Rattle.server_core.specs.Steps.{CountsLeft}

-- it is enabled and has a result, and no count is near its end
pub record CanAct (w : What) (v : ServerView) : Type 0 where
  pub on : enabled v.options v.state w ≡ true
  pub result : IsSome (does v.code v.options v.state w)
  pub counts : CountsLeft v.state

-- it was done at the server at that place, with that entry
pub record IsDone (n : ℕ) (w : What) (e : EntryView) (vs us : List ServerView) : Type 0 where
  pub old : ServerView
  pub there : slice_get vs n ≡ Some old
  pub new : ServerView
  pub done : does old.code old.options old.state w ≡ Some (new.state, e)
  pub code : new.code ≡ old.code
  pub options : new.options ≡ old.options
  pub changed : us ≡ slice_set vs n new
