-- Servers at their work in a round (this project's own).
use Rattle.std.specs.Prelude.{◌≡◌, ◌≤◌, ◌^◌, ⊤, ℕ, false, List, [], ◌∷◌, ◌++◌, length, Some}
use Rattle.rand_pcg.specs.Lcg.{Lcg}
use Rattle.journal.specs.View.{EntryView}
use Rattle.server_core.specs.Servers.{ServerView}
use Rattle.drive_model.specs.Rounds.{Worked, work}
use Rattle.law_runs_rounds.specs.rounds.Working.{CanWork}
use Rattle.drust_run.specs.declared.desk.Desk.{Desk}

-- a server can do so many events, and has done none
pub record IsReady (n : ℕ) (d : Desk) : Type 0 where
  pub short : length d.server.code ≤ 2 ^ 30
  pub able : CanWork d.server.code d.server.options n d.server.state d.choice
  pub fresh : d.entries.items ≡ []

-- what stands there was done
abbrev pub done_at : Desk → Worked
done_at d = record { server = d.server.state; generator = d.choice; entries = d.entries.items }

-- what a server does of at most so many events, but where it lacks memory
pub record Works (n : ℕ) (d e : Desk) : Type 0 where
  pub work : e.lacks ≡ false → work d.server.code d.server.options n d.server.state d.choice ≡ Some (done_at e)
  pub code : e.server.code ≡ d.server.code
  pub options : e.server.options ≡ d.server.options

-- each can do so many
abbrev pub EachIsReady : ℕ → List Desk → Type 0
EachIsReady n [] = ⊤
EachIsReady n (d ∷ ds) = IsReady n d × EachIsReady n ds

-- each at most so many
abbrev pub WorkEach : ℕ → List Desk → List Desk → Type 0
WorkEach n [] [] = ⊤
WorkEach n (d ∷ ds) (e ∷ es) = Works n d e × WorkEach n ds es
WorkEach n ds es = ⊥

-- the servers at some desks
abbrev pub servers_at : List Desk → List ServerView
servers_at [] = []
servers_at (d ∷ ds) = d.server ∷ servers_at ds

-- their generators
abbrev pub choices_at : List Desk → List Lcg
choices_at [] = []
choices_at (d ∷ ds) = d.choice ∷ choices_at ds

-- what they have done in the round, in their order
abbrev pub entries_at : List Desk → List EntryView
entries_at [] = []
entries_at (d ∷ ds) = d.entries.items ++ entries_at ds

-- nothing was done yet
abbrev pub AreFresh : List Desk → Type 0
AreFresh [] = ⊤
AreFresh (d ∷ ds) = (d.entries.items ≡ []) × AreFresh ds

-- memory was wanting nowhere
abbrev pub NoneLacks : List Desk → Type 0
NoneLacks [] = ⊤
NoneLacks (d ∷ ds) = (d.lacks ≡ false) × NoneLacks ds
