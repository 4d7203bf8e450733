-- What a run in rounds keeps, whatever its program and options, and which thread a balance moves.
use Rattle.std.specs.Prelude.{◌≡◌, ◌≢◌, ◌≤◌, ◌<◌, ℕ, List, length, slice_get, Option, Some, None}
use Rattle.fr_base.specs.declared.instruction.Instr.{Instr}
use Rattle.fr_base.specs.declared.settings.Options.{Options}
use Rattle.drive_model.specs.Balance.{Load, Shift, balance}
use Rattle.drive_model.specs.Rounds.{Run, rounds}

-- no run does more events than its turns
abbrev pub JournalsBounded : Type 0
JournalsBounded = (code : List Instr) (o : Options) (r : Run) → rounds code o ≡ Some r → length r.journal ≤ o.turns

abbrev pub candidate_in : Option Load → Option ℕ
candidate_in None = None
candidate_in (Some l) = l.candidate

-- the candidate of one of the servers goes to another one
pub record IsMove (ls : List Load) (x : Shift) : Type 0 where
  pub candidate : candidate_in (slice_get ls x.source) ≡ Some x.thread
  pub target : x.target < length ls
  pub apart : x.target ≢ x.source

-- a balance moves a candidate of a server to another server
abbrev pub BalanceMoves : Type 0
BalanceMoves = (ls : List Load) (x : Shift) → balance ls ≡ Some x → IsMove ls x
