-- The tables of the examples: each code is laid out, and its program is typed.
use Rattle.std.proofs.Common.{◌≡◌, List, [], length, refl, arith}
use Rattle.fr_base.specs.declared.instruction.Operand.TheVariants as operand
use Rattle.fr_base.specs.declared.instruction.Instr.{Instr}
use Rattle.fr_terms.specs.Terms.{Term, block_t, Items, none}
use Rattle.fr_terms.specs.Limits.{HasShortPlaces}
use Rattle.fr_typing.specs.Kinds.{unit, own}
use Rattle.fr_typing.specs.Finding.{typed}
use Rattle.fr_typing.specs.Typing.{typing}
use Rattle.fr_typing.proofs.Agree.{exactly_one_lem}
use Rattle.fr_plain.specs.Resolve.{program}
use Rattle.fr_plain.specs.ThreadRuns.{moved_in}
use Rattle.fr_plain.specs.LockRuns.{counted}
use Rattle.fr_plain.specs.PairRuns.{twice_shared}
use Rattle.fr_code.specs.StandsFor.{IsCodeOf}
use Rattle.fr_code.specs.Examples.{started_code, counted_code, shared_code}
use Rattle.fr_code.proofs.Codes.{codes_compute_lem}
use Rattle.law_plain_table.specs.Layout.{IsLaidOut}
use Rattle.law_plain_table.specs.Tables.{HasTable}
use Rattle.law_plain_table.specs.Examples.{ExamplesHaveTables}
use Rattle.law_plain_table.specs.ProgramCodes.{CodesOfExamples}
use Rattle.law_plain_table.proofs.Programs.{programs_have_tables}

-- the items of a program
abbrev items_of : Term → Items
items_of (block_t at items) = items
items_of t = none

started_long : length started_code ≡ 13
started_long = refl

counted_long : length counted_code ≡ 24
counted_long = refl

shared_long : length shared_code ≡ 31
shared_long = refl

started_laid : IsLaidOut started_code
started_laid = record { within = (omega (arith, started_long), tt); behind = (record { last = 9; operand = operand.Unit; there = refl; next = refl }, tt); rises = (tt, tt) }

counted_laid : IsLaidOut counted_code
counted_laid = record { within = (omega (arith, counted_long), tt); behind = (record { last = 16; operand = operand.Unit; there = refl; next = refl }, tt); rises = (tt, tt) }

shared_laid : IsLaidOut shared_code
shared_laid = record {
  within = (omega (arith, shared_long), (omega (arith, shared_long), (omega (arith, shared_long), (omega (arith, shared_long), tt))));
  behind = (record { last = 14; operand = operand.Unit; there = refl; next = refl }, (record { last = 18; operand = operand.Unit; there = refl; next = refl }, (record { last = 22; operand = operand.Unit; there = refl; next = refl }, (record { last = 26; operand = operand.Unit; there = refl; next = refl }, tt))));
  rises = ((omega arith, (omega arith, (omega arith, tt))), ((omega arith, (omega arith, tt)), ((omega arith, tt), (tt, tt))));
}

-- a code of a program that typing computes to be typed as unit
computed : (code : List Instr) (items : Items) → HasShortPlaces (block_t 0 items) → typing (block_t 0 items) [] ≡ typed (own unit) [] → IsCodeOf code (program (block_t 0 items)) → IsLaidOut code → HasTable code (own unit)
computed code items short is stands laid = programs_have_tables code 0 items (own unit) [] short ((exactly_one_lem.types (block_t 0 items) [] (own unit) []).1 is) stands laid

pub examples_have_tables : ExamplesHaveTables
examples_have_tables = record {
  started = (started_laid, computed started_code (items_of moved_in) (tt, ((omega arith, tt), (omega arith, tt))) refl codes_compute_lem.started started_laid);
  counted = (counted_laid, computed counted_code (items_of counted) (tt, (omega arith, (((omega arith, ((omega arith, (omega arith, tt)), tt)), tt), (omega arith, ((omega arith, (omega arith, tt)), tt))))) refl codes_compute_lem.counted counted_laid);
  shared = (shared_laid, computed shared_code (items_of twice_shared) (tt, ((omega arith, (((omega arith, tt), (omega arith, tt)), tt)), ((omega arith, tt), ((omega arith, (((omega arith, tt), (omega arith, tt)), tt)), tt)))) refl codes_compute_lem.twice_shared shared_laid);
}

pub codes_of_examples : CodesOfExamples
codes_of_examples = record { started = refl; counted = refl; shared = refl }
