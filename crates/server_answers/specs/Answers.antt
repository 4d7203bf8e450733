-- What is answered to a source that is to be run on servers.
use Rattle.std.specs.Prelude.{◌≡◌, ℕ, List, [], ◌++◌, Bool, true, false, Option, Some, None, ◌≢◌, ◌⊎◌}
use Rattle.fr_base.specs.declared.settings.Options.{Options}
use Rattle.fr_base.specs.declared.step.Ending.{Ending}
use Rattle.fr_base.specs.declared.step.Ending.TheVariants as ending
use Rattle.law_length_programs.specs.Below.law_runs_right.Below.fr_terms.Terms.{Term}
use Rattle.law_length_programs.specs.Below.law_runs_right.Below.journal.View.{EntryView}
use Rattle.law_length_programs.specs.Below.law_runs_right.Below.drive_model.Ending.{waits}
use Rattle.tracer.specs.ReportText.{IsReport, summary}
use Rattle.tracer.specs.TraceText.{trace}
use Rattle.drust_run.specs.declared.ran.Ran.{Ran}
use Rattle.source_front.specs.declared.refused.Refused.{Refused}
use Rattle.source_front.specs.declared.refused.Refused.TheVariants.{NoMemory}
use Rattle.source_front.specs.Typed.{IsTyped}
use Rattle.source_front.specs.Refusals.{HasCause, status_of as status_of_refusal, text_of}
use Rattle.server_answers.specs.declared.run.Telling.{Telling}
use Rattle.server_answers.specs.declared.run.Telling.TheVariants.{Report, Summary}
use Rattle.server_answers.specs.Runs.{IsRunOf}

-- the status of a run that ended so
abbrev pub status_of : Ending → ℕ
status_of ending.Finished = 0
status_of ending.Deadlocked = 1
status_of ending.Unfinished = 2

-- the trace behind the report, where it is asked for
abbrev pub trace_part : Bool → List EntryView → List ℕ
trace_part true es = trace es
trace_part false es = []

-- the report of a run, with what its threads wait for, and its trace where that is asked for
pub record IsReportOf (traced : Bool) (r : Ran) (text : List ℕ) : Type 0 where
  pub report : List ℕ
  pub is : IsReport r.ending r.journal.items (waits r.cluster.state) report
  pub whole : text ≡ report ++ trace_part traced r.journal.items

-- the summary of a run
abbrev pub IsSummaryOf : Ran → List ℕ → Type 0
IsSummaryOf r text = text ≡ summary r.ending r.journal.items (waits r.cluster.state)

-- a run is told by its report, traced or not, or by its summary
abbrev pub Tells : Telling → Ran → List ℕ → Type 0
Tells (Report traced) r text = IsReportOf traced r text
Tells Summary r text = IsSummaryOf r text

-- a source is answered by its program's run under the options, told by such a text; or by why it has none
pub data Answers (IsTold : Ran → List ℕ → Type 0) (bytes : List ℕ) (o : Options) : Option Ran → (status : ℕ) → (text : List ℕ) → Type 0 where
  ran : {text : List ℕ} (t : Term) (r : Ran) → IsTyped bytes t → IsRunOf t o r → IsTold r text → Answers IsTold bytes o (Some r) (status_of r.ending) text
  refused : (why : Refused) → HasCause bytes why → Answers IsTold bytes o None (status_of_refusal why) (text_of why)

-- it tells of this refusal, which is no want of memory, and of no run
pub record Refuses (why : Refused) (r : Option Ran) (status : ℕ) (text : List ℕ) : Type 0 where
  pub none : r ≡ None
  pub stands : status ≡ status_of_refusal why
  pub says : text ≡ text_of why
  pub cause : why ≢ NoMemory

-- the statuses of an input that is to be run
abbrev pub IsReply : ℕ → Type 0
IsReply status = (status ≡ 0) ⊎ (status ≡ 1) ⊎ (status ≡ 2) ⊎ (status ≡ 3) ⊎ (status ≡ 4)
