-- Whole runs in rounds, each with what a report shows of it, under some choices.
use Rattle.std.specs.Prelude.{◌≡◌, ℕ, zero, suc, ◌+◌, ◌*◌, pos, max, nat_le, Bool, true, false, List, [], ◌∷◌, ◌++◌, Option, Some, None}
use Rattle.fr_base.specs.declared.instruction.Instr.{Instr}
use Rattle.fr_base.specs.declared.instruction.Instr.TheVariants as instr
use Rattle.fr_base.specs.declared.instruction.Operand.TheVariants as operand
use Rattle.fr_base.specs.declared.place.Op.TheVariants as op
use Rattle.fr_base.specs.declared.settings.Options.{Options}
use Rattle.fr_base.specs.declared.step.Ending3.{Ending3}
use Rattle.fr_base.specs.declared.step.Ending3.TheVariants.{Finished, Deadlocked, Going}
use Rattle.fr_base.specs.declared.step.Wait.{Wait}
use Rattle.fr_base.specs.declared.step.Wait.TheVariants as wait
use Rattle.journal.specs.View.{EntryView}
use Rattle.coloured_heap.specs.Sends.{messages, all_messages}
use Rattle.server_model.specs.Figures.{Figures, idle, figures_of}
use Rattle.server_model.specs.Programs.{place, number, captures, dropped, over, joined, with_servers, written_box, read_elsewhere, written_elsewhere, read_by_pairs, read_two, locked_twice}
use Rattle.drive_model.specs.Ending.{ending, waits}
use Rattle.drive_model.specs.Balance.{balance}
use Rattle.drive_model.specs.Rounds.{Run, rounds}

-- the most messages that the acts of one entry send
abbrev pub most_sent : List EntryView → ℕ
most_sent [] = 0
most_sent (e ∷ es) = max (all_messages (e ∷ [])) (most_sent es)

-- how the run ended, its figures, what its threads wait for at the end, and whether no event sent more than two messages
pub record Report : Type 0 where
  pub ended : Ending3
  pub figures : Figures
  pub waiting : List (ℕ × Wait)
  pub few_sent : Bool

abbrev report_of : Run → Report
report_of r = record {
  ended = ending r.cluster;
  figures = record (figures_of (record { cluster = r.cluster; journal = r.journal; kinds = [] })) { messages = messages r.journal };
  waiting = waits r.cluster;
  few_sent = nat_le (most_sent r.journal) 2;
}

abbrev pub report_in : Option Run → Option Report
report_in None = None
report_in (Some r) = Some (report_of r)

-- the run comes to that end, nobody waits, and no event sent more than two messages
abbrev Comes : List Instr → Options → Ending3 → Figures → Type 0
Comes code o e f = report_in (rounds code o) ≡ Some (record { ended = e; figures = f; waiting = []; few_sent = true })

-- under two choices
abbrev pub Ends : List Instr → Options → ℕ → ℕ → Figures → Type 0
Ends code o a b f = Comes code (record o { choice = a }) Finished f × Comes code (record o { choice = b }) Finished f

-- so many locks that each add one to what the mutex in slot 0 holds
abbrev adds : ℕ → List Instr
adds zero = dropped ++ over
adds (suc n) =
    instr.Lock (place 0 0) ∷ instr.Read (place 2 0) false ∷ instr.Arith op.Add operand.Pop (number 1) ∷ instr.Assign (place 2 0) operand.Pop ∷ instr.Unlock ∷ adds n

-- { let mut m = mutex 0; let mut a = dup m; let mut b = dup m; let mut h = spawn (a) { so many locks }; let mut g = spawn (b) { so many locks };
--   join h; join g; lock m as c { print c } }
abbrev pub added_by_two : ℕ → List Instr
added_by_two n =
    instr.Mutex (number 0) ∷ instr.Let operand.Pop ∷ instr.Dup (place 0 0) ∷ instr.Let operand.Pop ∷ instr.Dup (place 0 0) ∷ instr.Let operand.Pop
    ∷ instr.Spawn (captures ((1, true) ∷ [])) 26 ∷ instr.Let operand.Pop ∷ instr.Spawn (captures ((2, true) ∷ [])) (28 + n * 5) ∷ instr.Let operand.Pop
    ∷ joined 3 ++ instr.Discard ∷ joined 4 ++ instr.Discard ∷ instr.Lock (place 0 0) ∷ instr.Read (place 6 0) false ∷ instr.Print operand.Pop ∷ instr.Unlock
    ∷ dropped ++ dropped ++ dropped ++ dropped ++ dropped ++ over ++ adds n ++ adds n

abbrev once : Figures
once = record idle { steps = 7; events = 8; issued = 2; prints = pos 2 ∷ [] }

abbrev pub one_and_turns : ℕ → Options
one_and_turns n = record (with_servers 1 65536) { turns = n }

pub record RoundsCompute : Type 0 where
  pub box_written : Ends written_box (with_servers 1 65536) 0 1 once
  -- with one server nothing is sent to another
  pub read_here : Ends read_elsewhere (with_servers 1 65536) 0 5 (record idle { steps = 15; events = 21; issued = 1; prints = pos 5 ∷ pos 5 ∷ [] })
  pub copied_once : Ends read_elsewhere (with_servers 2 65536) 0 5 (record idle { steps = 15; events = 24; issued = 1; hits = 2; messages = 5; prints = pos 5 ∷ pos 5 ∷ [] })
  pub comes_to_writer : Ends written_elsewhere (with_servers 2 65536) 0 5 (record idle { steps = 17; events = 29; issued = 2; hits = 1; messages = 7; prints = pos 6 ∷ [] })
  pub old_copy_kept : Ends read_by_pairs (with_servers 3 65536) 0 5 (record idle { steps = 31; events = 49; issued = 2; hits = 3; messages = 12; prints = pos 1 ∷ pos 1 ∷ pos 2 ∷ pos 2 ∷ [] })
  -- a cache of one word holds two while both are in use, and then gives one up
  pub evicted_once : Ends read_two (record (with_servers 2 65536) { cache = 1 }) 0 5 (record idle { steps = 27; events = 40; issued = 2; hits = 4; evictions = 1; messages = 6; prints = pos 1 ∷ pos 2 ∷ pos 3 ∷ [] })
  pub locks_itself : report_in (rounds locked_twice (with_servers 1 65536))
      ≡ Some (record { ended = Deadlocked; figures = record idle { steps = 3; events = 8; finished = false }; waiting = (0, wait.Lock (record { home = 0; count = 1 })) ∷ []; few_sent = true })
  -- a run stops at its last turn, whether it has come to an end or not
  pub stops_early : Comes written_box (one_and_turns 7) Going (record once { events = 7; finished = false })
  pub stops_at_end : Comes written_box (one_and_turns 8) Finished once

pub record BalanceComputes : Type 0 where
  pub to_the_least : balance (record { threads = 3; candidate = Some 1 } ∷ record { threads = 1; candidate = None } ∷ record { threads = 1; candidate = None } ∷ [])
      ≡ Some (record { source = 0; thread = 1; target = 1 })
  pub nobody_can_go : balance (record { threads = 3; candidate = None } ∷ record { threads = 1; candidate = Some 1 } ∷ record { threads = 1; candidate = None } ∷ []) ≡ None
  pub nearly_even : balance (record { threads = 2; candidate = Some 1 } ∷ record { threads = 1; candidate = None } ∷ record { threads = 1; candidate = None } ∷ []) ≡ None
  pub lowest_of_many : balance (record { threads = 1; candidate = None } ∷ record { threads = 4; candidate = Some 7 } ∷ record { threads = 4; candidate = Some 8 } ∷ record { threads = 0; candidate = None } ∷ record { threads = 0; candidate = None } ∷ [])
      ≡ Some (record { source = 1; thread = 7; target = 3 })

pub record LongRunComputes : Type 0 where
  -- a thousand steps, in which two threads lock the same mutex in turns
  pub added : Ends (added_by_two 100) (with_servers 3 65536) 0 5 (record idle { steps = 1030; events = 1853; messages = 606; prints = pos 200 ∷ [] })
