-- What a run leaves (this project's rule).
use Rattle.std.specs.Prelude.{◌≡◌, List, Some}
use Rattle.fr_base.specs.declared.instruction.Instr.{Instr}
use Rattle.fr_base.specs.declared.settings.Options.{Options}
use Rattle.fr_syntax.specs.Meanings.{term_of}
use Rattle.fr_plain.specs.Resolve.{program}
use Rattle.law_plain_table.specs.Bare.{bare}
use Rattle.law_plain_table.specs.CodeOf.{code_of}
use Rattle.borrow_check.specs.Programs.{Program}
use Rattle.fr_base.specs.declared.step.Ending.{Ending}
use Rattle.fr_base.specs.declared.step.Ending.TheVariants as end
use Rattle.fr_base.specs.declared.step.Ending3.{Ending3}
use Rattle.fr_base.specs.declared.step.Ending3.TheVariants.{Finished, Deadlocked, Going}
use Rattle.journal.specs.View.{EntryView}
use Rattle.server_model.specs.Servers.{Cluster}
use Rattle.drive_model.specs.Rounds.{Run, rounds}

-- the cluster and the journal are those of the run, by the definition, of the program's code, but for the room of its lists
pub record IsRunOf (p : Program) (o : Options) (k : Cluster) (journal : List EntryView) : Type 0 where
  pub code : List Instr
  pub bare : bare code ≡ code_of (program (term_of p.arena))
  pub run : Run
  pub is : rounds code o ≡ Some run
  pub cluster : run.cluster ≡ k
  pub entries : run.journal ≡ journal

-- how a run ended whose cluster stands so: one that goes on is unfinished
abbrev pub ended : Ending3 → Ending
ended Finished = end.Finished
ended Deadlocked = end.Deadlocked
ended Going = end.Unfinished
