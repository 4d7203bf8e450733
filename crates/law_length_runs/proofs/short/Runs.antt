-- With the asks that threads have left, each run is short.
use Rattle.law_length_runs.specs.Below.law_runs_whole.runs.Runs.{EachKeepsCoherence}
use Rattle.law_length_asks.specs.left.Left.{left}
use Rattle.law_length_asks.specs.left.Steps.{AtMostTwenty, AsksTakeOne}
use Rattle.law_length_asks.specs.answers.Events.{EventsLeaveAsks}
use Rattle.law_length_runs.specs.asked.Asking.{AsksLeft}
use Rattle.law_length_runs.specs.asked.Code.{DrivenRunsOfCodeAreShort}
use Rattle.law_length_runs.specs.asked.Short.{DrivenRunsOfProgramsAreShort}
use Rattle.law_length_runs.specs.short.Short.{RunsOfCodeAreShort, RunsOfProgramsAreShort}

pub twenty_left : AtMostTwenty → AsksTakeOne → EventsLeaveAsks → AsksLeft 20
twenty_left few takes leaves = record { left = left; few = λ k t co. few k t; asks = takes; stays = leaves }

pub code_short : AsksLeft 20 → EachKeepsCoherence → DrivenRunsOfCodeAreShort → RunsOfCodeAreShort
code_short asks keeps short = short keeps asks

pub programs_short : AsksLeft 20 → DrivenRunsOfProgramsAreShort → RunsOfProgramsAreShort
programs_short asks short = short asks
