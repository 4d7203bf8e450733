-- Runs of the small programs in which each next event is drawn by a small generator from all enabled ones, evictions and migrations
-- too. None of them may be without a result, and all of them end with the same prints and nothing left.
use Rattle.std.specs.Prelude.{◌≡◌, ℕ, ℤ, zero, suc, pos, ◌+◌, ◌*◌, ◌/◌, ◌%◌, ◌==◌, ◌&&◌, not, Bool, true, false, if◌then◌else◌, List, [], ◌∷◌, ◌++◌, length, Option, Some, None, slice_get}
use Rattle.fr_base.specs.declared.instruction.Instr.{Instr}
use Rattle.place_walk.specs.Below.read_cache.Cache.{Copy}
use Rattle.place_walk.specs.Below.thread_state.View.{ThreadState}
use Rattle.server_msgs.specs.declared.message.Message.{Message}
use Rattle.server_model.specs.declared.event.Event.{Event}
use Rattle.server_model.specs.declared.event.What.TheVariants.{Step, Deliver, Evict, Migrate}
use Rattle.server_model.specs.Servers.{Server}
use Rattle.server_model.specs.Events.{can_step, is_ready}
use Rattle.server_model.specs.Figures.{Ran, run, run_event, figures_of}
use Rattle.server_model.specs.Programs.{with_servers, written_box, lent_slot, read_elsewhere, written_elsewhere, read_by_pairs, often_written, lent_box, read_two, locked_elsewhere, lent_elsewhere, lent_once, read_dirty, shared_dirty, lent_inside, lent_dirty, moved_out, counted_up, task_dropped, written_deep, turned, read_thrice, read_deep}
use Rattle.server_model.specs.Larger.{lent_on, raised_by_two, pair_in_pair, result_on, filled_again, shared_in_turns, lent_through_slot, all_dropped}

-- THE ENABLED EVENTS

abbrev deliveries : ℕ → ℕ → List Message → List Event
deliveries s i [] = []
deliveries s i (m ∷ ms) = record { server = s; what = Deliver i } ∷ deliveries s (i + 1) ms

abbrev steps : ℕ → List ThreadState → List Event
steps s [] = []
steps s (t ∷ ts) = if can_step t.phase then record { server = s; what = Step t.number } ∷ steps s ts else steps s ts

abbrev evictions : ℕ → List Copy → List Event
evictions s [] = []
evictions s (c ∷ cs) = if c.users == 0 then record { server = s; what = Evict c.word } ∷ evictions s cs else evictions s cs

-- to the next server, of a thread that hasn't moved since its last step
abbrev migrations : ℕ → ℕ → List ThreadState → List Event
migrations n s [] = []
migrations n s (t ∷ ts) =
    if is_ready t.phase && (not t.moved_since_step && not ((s + 1) % n == s)) then record { server = s; what = Migrate t.number ((s + 1) % n) } ∷ migrations n s ts else migrations n s ts

abbrev events_of : ℕ → List Server → List Event
events_of n [] = []
events_of n (s ∷ ss) =
    steps s.rest.number s.threads ++ deliveries s.rest.number 0 s.rest.inbox ++ evictions s.rest.number s.rest.cache ++ migrations n s.rest.number s.threads ++ events_of n ss

-- RUNS

abbrev next_seed : ℕ → ℕ
next_seed x = (x * 1103515245 + 12345) % 2147483648

abbrev one_event : Option Event → Option Ran → Option Ran
one_event None r = r
one_event (Some e) r = run_event r e

abbrev drawn_from : (ℕ → Option Ran → Option Ran) → ℕ → Option Ran → List Event → Option Ran
drawn_from go x r [] = r
drawn_from go x r (e ∷ es) = go (next_seed x) (one_event (slice_get (e ∷ es) ((x / 65536) % (1 + length es))) r)

abbrev events_in : ℕ → Option Ran → List Event
events_in n None = []
events_in n (Some r) = events_of n r.cluster.servers

-- at most so many events
abbrev drawn : ℕ → ℕ → ℕ → Option Ran → Option Ran
drawn n zero x r = r
drawn n (suc k) x r = drawn_from (drawn n k) x r (events_in n r)

-- THE PRINTS

abbrev same_ints : List ℤ → List ℕ → Bool
same_ints [] [] = true
same_ints (pos a ∷ ms) (b ∷ ns) = (a == b) && same_ints ms ns
same_ints ms ns = false

abbrev comes_to : List ℕ → Option Ran → Bool
comes_to ns None = false
comes_to ns (Some r) = (figures_of r).finished && same_ints (figures_of r).prints ns

abbrev one_way : List Instr → List ℕ → ℕ → ℕ → ℕ → Bool
one_way code ns servers colours x = comes_to ns (drawn servers 400 x (run code (with_servers servers colours) []))

-- with two servers and two colours, and with three servers and all colours
abbrev pub each_way : List Instr → List ℕ → ℕ → Bool
each_way code ns x = one_way code ns 2 2 x && one_way code ns 3 65536 (x + 1)

pub record SmallOnesCome : Type 0 where
  pub of_written_box : each_way written_box (2 ∷ []) 1 ≡ true
  pub of_lent_slot : each_way lent_slot (2 ∷ []) 1001 ≡ true
  pub of_read_elsewhere : each_way read_elsewhere (5 ∷ 5 ∷ []) 2001 ≡ true
  pub of_written_elsewhere : each_way written_elsewhere (6 ∷ []) 3001 ≡ true
  pub of_read_by_pairs : each_way read_by_pairs (1 ∷ 1 ∷ 2 ∷ 2 ∷ []) 4001 ≡ true
  pub of_often_written : each_way often_written (5 ∷ []) 5001 ≡ true
  pub of_lent_box : each_way lent_box (2 ∷ 3 ∷ 3 ∷ []) 6001 ≡ true
  pub of_read_two : each_way read_two (1 ∷ 2 ∷ 3 ∷ []) 7001 ≡ true
  pub of_locked_elsewhere : each_way locked_elsewhere ([]) 8001 ≡ true
  pub of_lent_elsewhere : each_way lent_elsewhere (2 ∷ []) 9001 ≡ true
  pub of_lent_once : each_way lent_once (2 ∷ []) 10001 ≡ true
  pub of_read_dirty : each_way read_dirty (2 ∷ []) 11001 ≡ true
  pub of_shared_dirty : each_way shared_dirty (2 ∷ 3 ∷ []) 12001 ≡ true
  pub of_lent_inside : each_way lent_inside (2 ∷ 2 ∷ []) 13001 ≡ true
  pub of_lent_dirty : each_way lent_dirty (1 ∷ 2 ∷ []) 14001 ≡ true
  pub of_moved_out : each_way moved_out (1 ∷ []) 15001 ≡ true
  pub of_counted_up : each_way counted_up (12 ∷ []) 16001 ≡ true
  pub of_task_dropped : each_way task_dropped (3 ∷ []) 17001 ≡ true
  pub of_written_deep : each_way written_deep (5 ∷ []) 18001 ≡ true
  pub of_turned : each_way turned (5 ∷ 6 ∷ []) 19001 ≡ true
  pub of_read_thrice : each_way read_thrice (1 ∷ 1 ∷ 1 ∷ []) 20001 ≡ true
  pub of_read_deep : each_way read_deep (1 ∷ []) 21001 ≡ true

pub record LargerOnesCome : Type 0 where
  pub of_lent_on : each_way lent_on (5 ∷ 5 ∷ 5 ∷ []) 50001 ≡ true
  pub of_raised_by_two : each_way raised_by_two (12 ∷ []) 51001 ≡ true
  pub of_pair_in_pair : each_way pair_in_pair (3 ∷ 3 ∷ 4 ∷ []) 52001 ≡ true
  pub of_result_on : each_way result_on (7 ∷ []) 53001 ≡ true
  pub of_filled_again : each_way filled_again (7 ∷ 9 ∷ []) 54001 ≡ true
  pub of_shared_in_turns : each_way shared_in_turns (2 ∷ 2 ∷ 3 ∷ 3 ∷ []) 55001 ≡ true
  pub of_lent_through_slot : each_way lent_through_slot (4 ∷ []) 56001 ≡ true
  pub of_all_dropped : each_way all_dropped (1 ∷ []) 57001 ≡ true
