-- A driven run of a program is one of its code, which has a table.
use Rattle.law_plain_table.specs.Tables.{HasTable, ProgramsHaveTables}
use Rattle.law_runs_whole.specs.runs.Runs.{EachKeepsCoherence}
use Rattle.law_length_runs.specs.asked.Code.{DrivenRunsOfCodeAreShort}
use Rattle.law_length_runs.specs.asked.Short.{DrivenRunsOfProgramsAreShort}

pub driven_runs_of_programs_are_short : EachKeepsCoherence → ProgramsHaveTables → DrivenRunsOfCodeAreShort → DrivenRunsOfProgramsAreShort
driven_runs_of_programs_are_short keeps tables short p g es few =
    let table : HasTable g.code g.kind = tables g.code g.at g.items g.kind g.env g.short g.typed g.is g.laid in
    short keeps p g.code table.table g.options es table.is g.within few
