-- Whole runs, each with its figures.
use Rattle.std.specs.Prelude.{◌≡◌, ℕ, pos, false, List, [], ◌∷◌, ◌++◌, Some, None}
use Rattle.fr_base.specs.declared.instruction.Instr.{Instr}
use Rattle.fr_base.specs.declared.settings.Options.{Options}
use Rattle.server_model.specs.declared.event.Event.{Event}
use Rattle.server_model.specs.Figures.{Figures, idle, run, figures_in, steps_of, deliver, evict, migrate}
use Rattle.server_model.specs.Programs.{with_servers, written_box, empty, lent_slot, read_elsewhere, written_elsewhere, read_by_pairs, often_written, lent_box, read_two, locked_twice, locked_elsewhere}

abbrev Gives : List Instr → Options → List Event → Figures → Type 0
Gives code o es f = figures_in (run code o es) ≡ Some f

-- SCHEDULES

-- main is thread 0, and server s starts the threads s * 2^32 + 1 and so on

-- thread 1 at server 1 begins, and asks server 0 for an object or a copy, which comes
abbrev pub begins_and_asks : List Event
begins_and_asks = deliver 1 0 ++ steps_of 1 1 1 ++ deliver 0 0 ++ deliver 1 0

-- main waits in a join of thread 1, which reads
abbrev pub reading_elsewhere : List Event
reading_elsewhere =
    steps_of 0 0 6 ++ deliver 0 0 ++ begins_and_asks ++ steps_of 1 1 6 ++ deliver 0 0 ++ deliver 0 0 ++ deliver 0 0 ++ steps_of 0 0 4

-- the same, and thread 1 writes; then main reads what lies at server 1
abbrev pub writing_elsewhere : List Event
writing_elsewhere =
    steps_of 0 0 6 ++ deliver 0 0 ++ begins_and_asks ++ steps_of 1 1 4 ++ deliver 0 0 ++ deliver 0 0 ++ steps_of 0 0 3 ++ deliver 1 0 ++ deliver 0 0 ++ steps_of 0 0 6 ++ deliver 1 0

-- a branch at another server reads, and ends
abbrev pub branch_at : (server thread : ℕ) → List Event
branch_at s t = deliver s 0 ++ steps_of s t 1 ++ deliver 0 0 ++ deliver s 0 ++ steps_of s t 4 ++ deliver 0 0

-- branches at servers 1 and 2, then at 0 and 1
abbrev pub reading_by_pairs : List Event
reading_by_pairs =
    steps_of 0 0 5 ++ branch_at 1 1 ++ branch_at 2 2 ++ steps_of 0 0 6 ++ deliver 0 0 ++ steps_of 0 3 4 ++ deliver 0 0 ++ branch_at 1 4 ++ steps_of 0 0 4 ++ deliver 0 0

-- main goes to server 1 and reads there through its reference, goes back and writes, and goes there again
abbrev pub moving : List Event
moving =
    steps_of 0 0 5 ++ migrate 0 0 1 ++ deliver 1 0 ++ steps_of 1 0 1 ++ deliver 0 0 ++ deliver 1 0 ++ steps_of 1 0 2
    ++ migrate 1 0 0 ++ deliver 0 0 ++ steps_of 0 0 1 ++ migrate 0 0 1 ++ deliver 1 0 ++ steps_of 1 0 1 ++ deliver 0 0 ++ deliver 1 0 ++ steps_of 1 0 7 ++ deliver 0 0

-- the second branch ends at server 0; the first reads at server 1, where one copy is evicted once its reference is dropped
abbrev pub evicting : List Event
evicting =
    steps_of 0 0 9 ++ deliver 0 0 ++ steps_of 0 2 1 ++ deliver 0 0
    ++ deliver 1 0 ++ steps_of 1 1 1 ++ deliver 0 0 ++ deliver 1 0 ++ steps_of 1 1 3 ++ deliver 0 0 ++ deliver 1 0 ++ steps_of 1 1 7 ++ evict 1 1 ++ steps_of 1 1 2
    ++ deliver 0 0 ++ steps_of 0 0 6 ++ deliver 0 0 ++ deliver 0 0

-- main waits in its second lock
abbrev pub locking_twice : List Event
locking_twice = steps_of 0 0 3 ++ deliver 0 0 ++ deliver 0 0 ++ steps_of 0 0 2 ++ deliver 0 0

-- until `unlock` and `release` wait at server 0
abbrev pub locking_elsewhere : List Event
locking_elsewhere = steps_of 0 0 7 ++ deliver 0 0 ++ begins_and_asks ++ steps_of 1 1 2 ++ deliver 0 0 ++ deliver 1 0 ++ steps_of 1 1 3

-- thread 1 ends, what the mutex held is freed, and main goes on
abbrev pub unlocked : List Event
unlocked = deliver 1 0 ++ steps_of 1 1 1 ++ deliver 0 0 ++ deliver 0 0 ++ steps_of 0 0 4

-- FIGURES

abbrev kinds_elsewhere : List (ℕ × ℕ)
kinds_elsewhere = (2, 1) ∷ (3, 1) ∷ (4, 1) ∷ (5, 1) ∷ (6, 1) ∷ (7, 1) ∷ (10, 1) ∷ (11, 1) ∷ (14, 1) ∷ []

abbrev locked_figures : Figures
locked_figures = record idle { steps = 15; events = 29; issued = 2; messages = 9; by_kind = kinds_elsewhere }

pub record RowsCompute : Type 0 where
  pub box_written : Gives written_box (with_servers 1 65536) (steps_of 0 0 7 ++ deliver 0 0) (record idle { steps = 7; events = 8; issued = 2; prints = pos 2 ∷ [] })
  pub nothing_done : Gives empty (with_servers 1 65536) (steps_of 0 0 1) (record idle { steps = 1; events = 1 })
  pub slot_lent : Gives lent_slot (with_servers 1 65536) (steps_of 0 0 9) (record idle { steps = 9; events = 9; prints = pos 2 ∷ [] })
  pub copied_once : Gives read_elsewhere (with_servers 2 65536) reading_elsewhere
      (record idle { steps = 15; events = 24; issued = 1; hits = 2; messages = 5; by_kind = (0, 1) ∷ (1, 1) ∷ (4, 1) ∷ (11, 1) ∷ (14, 1) ∷ []; prints = pos 5 ∷ pos 5 ∷ [] })
  pub comes_to_writer : Gives written_elsewhere (with_servers 2 65536) writing_elsewhere
      (record idle { steps = 17; events = 29; issued = 2; hits = 1; messages = 7; by_kind = (0, 1) ∷ (1, 1) ∷ (2, 1) ∷ (3, 1) ∷ (4, 1) ∷ (11, 1) ∷ (14, 1) ∷ []; prints = pos 6 ∷ [] })
  pub old_copy_kept : Gives read_by_pairs (with_servers 3 65536) reading_by_pairs
      (record idle { steps = 31; events = 49; issued = 2; hits = 3; messages = 12; by_kind = (0, 3) ∷ (1, 3) ∷ (11, 3) ∷ (14, 3) ∷ []; prints = pos 1 ∷ pos 1 ∷ pos 2 ∷ pos 2 ∷ [] })
  -- two renewals, and the last free at the last colour
  pub renewed_twice : Gives often_written (with_servers 1 2) (steps_of 0 0 11 ++ deliver 0 0) (record idle { steps = 11; events = 12; issued = 6; renewed = 2; prints = pos 5 ∷ []; retired = 3 })
  pub written_in_turns : Gives lent_box (with_servers 2 65536) moving
      (record idle { steps = 15; events = 28; issued = 3; hits = 3; messages = 8; by_kind = (0, 2) ∷ (1, 2) ∷ (4, 1) ∷ (15, 3) ∷ []; prints = pos 2 ∷ pos 3 ∷ pos 3 ∷ [] })
  -- a thread that waits can't step
  pub waits : run lent_box (with_servers 2 65536) (steps_of 0 0 5 ++ migrate 0 0 1 ++ deliver 1 0 ++ steps_of 1 0 2) ≡ None
  pub evicted_once : Gives read_two (with_servers 2 65536) evicting
      (record idle { steps = 27; events = 40; issued = 2; hits = 4; evictions = 1; messages = 6; by_kind = (0, 2) ∷ (1, 2) ∷ (11, 1) ∷ (14, 1) ∷ []; prints = pos 1 ∷ pos 2 ∷ pos 3 ∷ [] })
  -- it never ends
  pub locks_itself : Gives locked_twice (with_servers 1 65536) locking_twice (record idle { steps = 3; events = 8; finished = false })
  -- the last share goes before the content is back, or after it
  pub released_first : Gives locked_elsewhere (with_servers 2 65536) (locking_elsewhere ++ deliver 0 1 ++ deliver 0 0 ++ unlocked) locked_figures
  pub unlocked_first : Gives locked_elsewhere (with_servers 2 65536) (locking_elsewhere ++ deliver 0 0 ++ deliver 0 0 ++ unlocked) locked_figures
