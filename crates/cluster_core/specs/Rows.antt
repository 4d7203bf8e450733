-- A row of servers of which one changes (this project's own).
use Rattle.std.specs.Prelude.{◌≡◌, ◌+◌, ◌≤◌, ⊤, ℕ, zero, suc, Bool, true, List, [], ◌∷◌, length}
use Rattle.fr_base.specs.declared.instruction.Instr.{Instr}
use Rattle.fr_base.specs.declared.settings.Options.{Options}
use Rattle.server_msgs.specs.declared.message.Message.{Message}
use Rattle.server_model.specs.Clusters.{accept}
use Rattle.server_core.specs.Servers.{ServerView}
use Rattle.cluster_core.specs.Views.{states, code_in, options_in, AreNumbered, AllKeep}

-- the server at that place changes so, if there is one, and the others stay
abbrev pub Changes : (ServerView → ServerView → Type 0) → ℕ → List ServerView → List ServerView → Type 0
Changes R i [] ws = ws ≡ []
Changes R i (v ∷ vs) [] = ⊥
Changes R zero (v ∷ vs) (w ∷ ws) = R v w × (ws ≡ vs)
Changes R (suc i) (v ∷ vs) (w ∷ ws) = (w ≡ v) × Changes R i vs ws

-- a message waits last there, which takes room for one at most
pub record Accepts (m : Message) (v w : ServerView) : Type 0 where
  pub state : w.state ≡ accept m v.state
  pub code : w.code ≡ v.code
  pub options : w.options ≡ v.options
  pub room : v.inbox_room ≤ w.inbox_room + 1

-- it stays as it is, with room for so many messages where there was memory
pub record Grows (room : ℕ) (made : Bool) (v w : ServerView) : Type 0 where
  pub state : w.state ≡ v.state
  pub code : w.code ≡ v.code
  pub options : w.options ≡ v.options
  pub no_less : v.inbox_room ≤ w.inbox_room
  pub room_made : made ≡ true → room ≤ w.inbox_room

-- the same servers of the same run, which have done as many events
pub record IsSameRun (vs ws : List ServerView) : Type 0 where
  pub code : code_in ws ≡ code_in vs
  pub options : options_in ws ≡ options_in vs
  pub long : length ws ≡ length vs
  pub numbered : (n : ℕ) → AreNumbered n (states vs) → AreNumbered n (states ws)
  pub alike : (code : List Instr) (o : Options) → AllKeep code o vs → AllKeep code o ws

-- each stays as it is, with no less room
abbrev pub HaveGrown : List ServerView → List ServerView → Type 0
HaveGrown [] [] = ⊤
HaveGrown (v ∷ vs) (w ∷ ws) = Grows 0 true v w × HaveGrown vs ws
HaveGrown vs ws = ⊥
