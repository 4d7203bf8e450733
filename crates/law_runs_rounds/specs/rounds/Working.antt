-- WHAT A SERVER CAN DO IN A ROUND (this project's rule): each event that is chosen is enabled and has a result, and no count is near its end.
use Rattle.std.specs.Prelude.{◌≡◌, ◌≤◌, ◌*◌, ⊤, ℕ, zero, suc, true, List, Option, Some, None}
use Rattle.rand_pcg.specs.Lcg.{Lcg}
use Rattle.law_runs_whole.specs.Below.fr_base.declared.instruction.Instr.{Instr}
use Rattle.law_runs_whole.specs.Below.fr_base.declared.settings.Options.{Options}
use Rattle.law_runs_whole.specs.Below.journal.View.{EntryView}
use Rattle.law_runs_whole.specs.Below.thread_state.View.{ThreadState}
use Rattle.law_runs_whole.specs.Below.server_model.Servers.{Server}
use Rattle.law_runs_whole.specs.Below.server_model.Work.{thread_in}
use Rattle.law_runs_whole.specs.Below.server_model.Events.{enabled, does}
use Rattle.drive_model.specs.Choice.{Drawn, next}
use Rattle.law_counts_limits.specs.limits.Counts.{IsThreadSmall}

-- the counts of a server and of its threads, where fewer than 1,000,000,000 events were done
pub record HasSmallCounts (code : List Instr) (s : Server) : Type 0 where
  pub started : s.rest.started ≤ 2 * 1000000000
  pub events : s.events ≤ 1000000000
  pub threads : (t : ℕ) (y : ThreadState) → thread_in s.threads t ≡ Some y → IsThreadSmall code 1000000000 y

-- an event that it does, and how it goes on with the generator
pub record Goes (go : Server → Lcg → Type 0) (code : List Instr) (o : Options) (s : Server) (d : Drawn) : Type 0 where
  pub counts : HasSmallCounts code s
  pub on : enabled o s d.what ≡ true
  pub after : Server
  pub entry : EntryView
  pub done : does code o s d.what ≡ Some (after, entry)
  pub onward : go after d.generator

abbrev pub goes_where : (Server → Lcg → Type 0) → List Instr → Options → Server → Option Drawn → Type 0
goes_where go code o s None = ⊤
goes_where go code o s (Some d) = Goes go code o s d

-- so many events in a row, each the next one, or as many as there are
abbrev pub CanWork : List Instr → Options → ℕ → Server → Lcg → Type 0
CanWork code o zero s g = ⊤
CanWork code o (suc n) s g = goes_where (CanWork code o n) code o s (next o s g)
