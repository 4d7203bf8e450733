-- That each program has a code, of whatever forms it is.
use Rattle.std.specs.Prelude.{◌≡◌, ℕ, ◌+◌, List, [], length}
use Rattle.fr_base.specs.declared.instruction.Instr.{Instr}
use Rattle.fr_terms.specs.Terms.{Term, block_t, Items}
use Rattle.fr_terms.specs.Limits.{HasShortPlaces}
use Rattle.fr_typing.specs.Kinds.{Kind}
use Rattle.fr_typing.specs.Places.{Env}
use Rattle.fr_typing.specs.Typing.{Types}
use Rattle.fr_plain.specs.Run.{Run, steps_left}
use Rattle.fr_plain.specs.Resolve.{program}
use Rattle.fr_plain.specs.ThreadRuns.{moved_in}
use Rattle.fr_plain.specs.LockRuns.{counted}
use Rattle.fr_plain.specs.PairRuns.{twice_shared}
use Rattle.fr_code.specs.StandsFor.{IsSource, IsCodeOf}
use Rattle.fr_code.specs.Examples.{started_code, counted_code, shared_code}
use Rattle.law_plain_table.specs.Layout.{IsLaidOut}
use Rattle.law_plain_table.specs.CodeOf.{code_of}
use Rattle.law_plain_table.specs.Bare.{bare}
use Rattle.law_plain_table.specs.Tables.{HasTable}

-- the code stands for the term, each thread's code behind the end of another's, and it has an instruction for each step of the term and one more
pub record IsItsCode (code : List Instr) (r : Run) : Type 0 where
  pub is : IsCodeOf code r
  pub laid : IsLaidOut code
  pub long : length code ≡ steps_left r + 1

abbrev pub HasItsCode : Run → Type 0
HasItsCode r = IsItsCode (code_of r) r

-- and so each code that is the term's but for the room of its lists
abbrev pub RoomyCodesToo : Type 0
RoomyCodesToo = (code : List Instr) (r : Run) → IsSource r → bare code ≡ code_of r → IsItsCode code r

-- each term in which no step was made
abbrev pub TermsHaveCodes : Type 0
TermsHaveCodes = (r : Run) → IsSource r → HasItsCode r

-- each program
abbrev pub ProgramsHaveCodes : Type 0
ProgramsHaveCodes = (t : Term) → HasItsCode (program t)

-- the code of a typed program has a table, where the program's places have at most eight stars
abbrev pub CodesHaveTables : Type 0
CodesHaveTables = (at : ℕ) (items : Items) (k : Kind) (e : Env) → HasShortPlaces (block_t at items) → Types [] (block_t at items) k e → HasTable (code_of (program (block_t at items))) k

-- codes written by hand
pub record CodesOfExamples : Type 0 where
  pub started : code_of (program moved_in) ≡ started_code
  pub counted : code_of (program counted) ≡ counted_code
  pub shared : code_of (program twice_shared) ≡ shared_code
