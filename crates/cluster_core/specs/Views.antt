-- What contracts see of a cluster: its state, as the definitions have it, and the checked program that it runs.
use Rattle.std.specs.Prelude.{◌≡◌, ◌+◌, ◌<◌, ◌≤◌, ◌^◌, ⊤, ℕ, false, List, [], ◌∷◌, length}
use Rattle.fr_base.specs.declared.instruction.Instr.{Instr}
use Rattle.fr_base.specs.declared.settings.Options.{Options}
use Rattle.fr_syntax.specs.Meanings.{term_of}
use Rattle.fr_plain.specs.Resolve.{program}
use Rattle.law_plain_table.specs.Bare.{bare}
use Rattle.law_plain_table.specs.CodeOf.{code_of}
use Rattle.borrow_check.specs.Programs.{Program}
use Rattle.server_model.specs.Servers.{Server, Cluster}
use Rattle.server_core.specs.Servers.{ServerView}
pub use Rattle.law_counts_limits.specs.limits.Counts.{events_in}

pub record ClusterView : Type 0 where
  pub state : Cluster
  pub program : Program

-- SERVERS SIDE BY SIDE

-- the servers' states
abbrev pub states : List ServerView → List Server
states [] = []
states (v ∷ vs) = v.state ∷ states vs

-- the code that servers keep, by the first
abbrev pub code_in : List ServerView → List Instr
code_in [] = []
code_in (v ∷ vs) = v.code

abbrev pub no_options : Options
no_options = record { servers = 0; workers = 0; colours = 0; cache = 0; quantum = 0; turns = 0; balance = 0; choice = 0; trace = false }

-- the options that they keep
abbrev pub options_in : List ServerView → Options
options_in [] = no_options
options_in (v ∷ vs) = v.options

-- the cluster that they are
abbrev pub cluster_of : List ServerView → Cluster
cluster_of vs = record { code = code_in vs; options = options_in vs; servers = states vs }

-- servers by rising number, one by one from that number on
abbrev pub AreNumbered : ℕ → List Server → Type 0
AreNumbered n [] = ⊤
AreNumbered n (s ∷ ss) = (s.rest.number ≡ n) × AreNumbered (n + 1) ss

-- each keeps that code and these options
abbrev pub AllKeep : List Instr → Options → List ServerView → Type 0
AllKeep code o [] = ⊤
AllKeep code o (v ∷ vs) = ((v.code ≡ code) × (v.options ≡ o)) × AllKeep code o vs

-- the servers of a run of that program, by rising number from 0: one to 64, as many as their options say, each with the program's code, but for the
-- room of its lists, and the same options
pub record AreServersOf (p : Program) (vs : List ServerView) : Type 0 where
  pub numbered : AreNumbered 0 (states vs)
  pub alike : AllKeep (code_in vs) (options_in vs) vs
  pub count : length vs ≡ (options_in vs).servers
  pub some : 0 < length vs
  pub few : length vs ≤ 64
  pub code : bare (code_in vs) ≡ code_of (program (term_of p.arena))
  pub short : length (code_in vs) ≤ 2 ^ 30
