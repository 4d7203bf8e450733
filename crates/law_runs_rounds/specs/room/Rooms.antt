-- RUNS DON'T KNOW THE ROOM that lists in their code have for more (this project's rule).
use Rattle.std.specs.Prelude.{◌≡◌, List, Some, option_map}
use Rattle.law_runs_whole.specs.Below.fr_base.declared.instruction.Instr.{Instr}
use Rattle.law_runs_whole.specs.Below.fr_base.declared.settings.Options.{Options}
use Rattle.law_runs_whole.specs.Below.law_plain_table.Bare.{bare}
use Rattle.drive_model.specs.Rounds.{Run, rounds}

-- the same run of the code without that room
abbrev pub bare_run : Run → Run
bare_run r = record r { cluster = record r.cluster { code = bare r.cluster.code } }

-- the code without that room has the same run
abbrev pub RunsKnowNoRoom : Type 0
RunsKnowNoRoom = (code : List Instr) (o : Options) → rounds (bare code) o ≡ option_map bare_run (rounds code o)

-- they have the same servers, under the same options, and the same journal
pub record IsSameRun (q r : Run) : Type 0 where
  pub servers : q.cluster.servers ≡ r.cluster.servers
  pub options : q.cluster.options ≡ r.cluster.options
  pub journal : q.journal ≡ r.journal

-- two codes that differ in that room alone have the same run
abbrev pub RunsAreOne : Type 0
RunsAreOne = (c d : List Instr) (o : Options) (q r : Run) → bare c ≡ bare d → rounds c o ≡ Some q → rounds d o ≡ Some r → IsSameRun q r
