-- Whole runs of borrows, of places with several stars, and of tasks and mutexes, each with its figures.
use Rattle.std.specs.Prelude.{◌≡◌, pos, List, [], ◌∷◌, ◌++◌, Option, Some, None}
use Rattle.server_model.specs.declared.event.Event.{Event}
use Rattle.server_model.specs.Figures.{Ran, Figures, idle, run, figures_in, steps_of, deliver, evict, migrate, first_goes_on, last_goes_on}
use Rattle.server_model.specs.Programs.{with_servers, lent_elsewhere, lent_once, read_dirty, shared_dirty, lent_inside, lent_dirty, moved_out, counted_up, task_dropped, written_deep, turned, read_thrice}

abbrev Comes : Option Ran → Figures → Type 0
Comes r f = figures_in r ≡ Some f

-- SCHEDULES

-- main makes an object, borrows it, writes it and goes to server 1
abbrev pub writes_and_goes : List Event
writes_and_goes = steps_of 0 0 5 ++ migrate 0 0 1 ++ deliver 1 0

-- main at server 1 sends a request to server 0, and is answered
abbrev asks_from_one : List Event
asks_from_one = steps_of 1 0 1 ++ deliver 0 0 ++ deliver 1 0

-- main reads at server 1, writes and lends at server 0, and goes to server 1 again
abbrev lending_dirty : List Event
lending_dirty = steps_of 0 0 4 ++ migrate 0 0 1 ++ deliver 1 0 ++ asks_from_one ++ steps_of 1 0 2 ++ migrate 1 0 0 ++ deliver 0 0 ++ steps_of 0 0 3 ++ migrate 0 0 1 ++ deliver 1 0

-- main holds the mutex, and thread 1 waits for it
abbrev contending : List Event
contending =
    steps_of 0 0 3 ++ deliver 0 0 ++ deliver 0 0 ++ steps_of 0 0 5 ++ deliver 0 0 ++ deliver 0 0 ++ steps_of 0 0 1 ++ deliver 1 0 ++ steps_of 1 1 1 ++ deliver 0 0

-- main reads at server 1 through a shared reference
abbrev pub pinning : List Event
pinning = steps_of 0 0 4 ++ migrate 0 0 1 ++ deliver 1 0 ++ asks_from_one ++ steps_of 1 0 2

-- it goes back and reads there, and then the copy can be evicted
abbrev pub unpinning : List Event
unpinning = migrate 1 0 0 ++ deliver 0 0 ++ steps_of 0 0 2 ++ evict 1 0 ++ migrate 0 0 1 ++ deliver 1 0

-- FIGURES

abbrev lent_figures : Figures
lent_figures = record idle { steps = 17; events = 26; issued = 3; messages = 4; by_kind = (2, 1) ∷ (3, 1) ∷ (11, 1) ∷ (14, 1) ∷ []; prints = pos 2 ∷ [] }

abbrev dropped_figures : Figures
dropped_figures = record idle { steps = 7; events = 11; issued = 1; messages = 3; by_kind = (4, 1) ∷ (11, 1) ∷ (14, 1) ∷ []; prints = pos 3 ∷ [] }

abbrev pulled_figures : Figures
pulled_figures = record idle { steps = 10; events = 16; issued = 2; messages = 3; by_kind = (2, 1) ∷ (3, 1) ∷ (15, 1) ∷ []; prints = pos 2 ∷ []; retired = 2 }

pub record TrialsCompute : Type 0 where
  -- an object is pulled for a mutable borrow; with one colour its end renews it
  pub pulled_to_lend : Comes (first_goes_on (run lent_elsewhere (with_servers 2 65536) [])) lent_figures
  pub pulled_to_lend_late : Comes (last_goes_on (run lent_elsewhere (with_servers 2 65536) [])) lent_figures
  pub renewed_at_end : Comes (first_goes_on (run lent_elsewhere (with_servers 2 1) [])) (record lent_figures { renewed = 1; retired = 3 })
  -- a dirty reference ends away from its object: it is tinted, and with one colour the object comes
  pub ended_elsewhere : Comes (first_goes_on (run lent_once (with_servers 2 65536) writes_and_goes))
      (record idle { steps = 10; events = 16; issued = 2; hits = 1; messages = 4; by_kind = (0, 1) ∷ (1, 1) ∷ (4, 1) ∷ (15, 1) ∷ []; prints = pos 2 ∷ [] })
  pub pulled_to_end : Comes (first_goes_on (run lent_once (with_servers 2 1) writes_and_goes)) pulled_figures
  -- a dirty reference is read away from its object, with one colour
  pub pulled_to_read : Comes (first_goes_on (run read_dirty (with_servers 2 1) writes_and_goes)) pulled_figures
  -- a shared borrow cleans a dirty reference also where its object is
  pub cleaned_to_share : Comes (first_goes_on (run shared_dirty (with_servers 1 65536) [])) (record idle { steps = 16; events = 17; issued = 3; prints = pos 2 ∷ pos 3 ∷ [] })
  -- the word that an ended reference gives a cell marks the reference that leads there
  pub marked_by_word : Comes (first_goes_on (run lent_inside (with_servers 1 65536) [])) (record idle { steps = 16; events = 18; issued = 4; prints = pos 2 ∷ pos 2 ∷ [] })
  -- a borrow from a dirty reference is dirty: an old copy isn't read through it
  pub mark_handed_on : Comes (first_goes_on (run lent_dirty (with_servers 2 65536) lending_dirty))
      (record idle { steps = 15; events = 28; issued = 2; hits = 2; messages = 8; by_kind = (0, 2) ∷ (1, 2) ∷ (4, 1) ∷ (15, 3) ∷ []; prints = pos 1 ∷ pos 2 ∷ [] })
  -- a move out of a box is a write
  pub out_of_box : Comes (first_goes_on (run moved_out (with_servers 1 65536) [])) (record idle { steps = 10; events = 12; issued = 3; prints = pos 1 ∷ [] })
  -- the content goes on to the thread that waits
  pub handed_on : Comes (first_goes_on (run counted_up (with_servers 2 65536) contending))
      (record idle { steps = 29; events = 51; messages = 6; by_kind = (5, 1) ∷ (6, 1) ∷ (7, 1) ∷ (10, 1) ∷ (11, 1) ∷ (14, 1) ∷ []; prints = pos 12 ∷ [] })
  -- a task is dropped before its thread ends, or after it
  pub let_go_early : Comes (first_goes_on (run task_dropped (with_servers 2 65536) [])) dropped_figures
  pub let_go_late : Comes (last_goes_on (run task_dropped (with_servers 2 65536) [])) dropped_figures
  -- both objects of a place come one after the other
  pub pulled_twice : Comes (first_goes_on (run written_deep (with_servers 2 65536) []))
      (record idle { steps = 15; events = 28; issued = 4; messages = 6; by_kind = (2, 2) ∷ (3, 2) ∷ (11, 1) ∷ (14, 1) ∷ []; prints = pos 5 ∷ [] })
  -- an assignment ends the mutable reference that stood there
  pub ended_by_another : Comes (first_goes_on (run turned (with_servers 1 65536) [])) (record idle { steps = 18; events = 20; issued = 4; prints = pos 5 ∷ pos 6 ∷ [] })
  -- a shared reference keeps its copy until its thread goes
  pub pinned_until_gone : Comes (first_goes_on (run read_thrice (with_servers 2 65536) (pinning ++ unpinning)))
      (record idle { steps = 13; events = 27; issued = 1; hits = 2; evictions = 1; messages = 8; by_kind = (0, 2) ∷ (1, 2) ∷ (4, 1) ∷ (15, 3) ∷ []; prints = pos 1 ∷ pos 1 ∷ pos 1 ∷ [] })
  pub in_use : run read_thrice (with_servers 2 65536) (pinning ++ evict 1 0) ≡ None
