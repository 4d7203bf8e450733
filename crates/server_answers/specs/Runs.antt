-- Runs of programs in rounds, on servers.
use Rattle.std.specs.Prelude.{◌≡◌, ◌≢◌, ◌≤◌, ℕ, ◌+◌, ◌*◌, List, Some}
use Rattle.fr_base.specs.declared.instruction.Instr.{Instr}
use Rattle.fr_base.specs.declared.settings.Options.{Options}
use Rattle.law_length_programs.specs.Below.law_runs_right.Below.fr_terms.Terms.{Term}
use Rattle.law_length_programs.specs.Below.law_runs_right.Below.fr_plain.Resolve.{program}
use Rattle.law_length_programs.specs.Below.law_runs_right.Below.law_plain_table.Bare.{bare}
use Rattle.law_length_programs.specs.Below.law_runs_right.Below.law_plain_table.CodeOf.{code_of}
use Rattle.law_length_programs.specs.Below.law_runs_right.Below.drive_model.Ending.{ending}
use Rattle.law_length_programs.specs.Below.law_runs_right.Below.drive_model.Rounds.{Run, rounds}
use Rattle.law_length_programs.specs.Below.law_runs_right.right.Right.{IsRight as IsRightRun}
use Rattle.law_length_programs.specs.sizes.Size.{nodes_of}
use Rattle.fr_base.specs.declared.step.Ending.TheVariants as end
use Rattle.drust_run.specs.declared.ran.Ran.{Ran}
use Rattle.drust_run.specs.Runs.{ended}
use Rattle.source_front.specs.Typed.{IsTyped}

-- it is the run in rounds of this program under these options: of code that stands for the program, whatever room the lists in it have for
-- more; and it ended as its cluster stands
pub record IsRunOf (t : Term) (o : Options) (r : Ran) : Type 0 where
  pub code : List Instr
  pub stands : bare code ≡ code_of (program t)
  pub run : Run
  pub is : rounds code o ≡ Some run
  pub cluster : run.cluster ≡ r.cluster.state
  pub entries : run.journal ≡ r.journal.items
  pub ends : r.ending ≡ ended (ending r.cluster.state)

-- the bytes are the source of a typed program, of which this is a right run under these options
pub record IsRight (bytes : List ℕ) (o : Options) (r : Ran) : Type 0 where
  pub term : Term
  pub source : IsTyped bytes term
  pub right : IsRightRun term o r.cluster.state r.journal.items
  -- with a hundred turns for each of twice the nodes of its tree and one more, it has come to an end: it has finished, or is deadlocked
  pub enough : 100 * (2 * nodes_of term + 1) ≤ o.turns → r.ending ≢ end.Unfinished
