-- The text of a generated program is the source of a typed program.
use Rattle.std.proofs.Common.{[], arith}
use Rattle.fr_typing.specs.Kinds.{own, unit}
use Rattle.fr_parse.proofs.PrintLaw.{prints}
use Rattle.gen_load.specs.Laws.{ProgramsAreTyped}
use Rattle.gen_load.specs.Programs.{program, program_text}
use Rattle.law_plain_generated.specs.Laws.{ProgramsAreSources}
use Rattle.law_plain_generated.proofs.Lengths.{program_short}
use Rattle.law_plain_generated.proofs.Printable.{program_printable}
use Rattle.law_plain_generated.proofs.Unplaced.{same_type}

pub sources : ProgramsAreTyped → ProgramsAreSources
unfolding program_text
sources typed number size some few =
    let p = prints (program number size) (program_printable number size few) in record {
      term = p.0;
      source = p.1;
      typed = same_type (program number size) p.0 [] [] (own unit) p.2 (typed number size (omega (arith, few)));
      short = program_short number size some few;
    }
