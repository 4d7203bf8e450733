-- Clusters that each break one sentence on requests, mutexes, tasks or names; where two can't be broken apart, the second of the same part too.
use Rattle.std.specs.Prelude.{◌≡◌, ℕ, true, false, List, [], ◌∷◌, ◌++◌, Some, None, slice_set}
use Rattle.server_model.specs.Below.fr_base.declared.release.Released.TheVariants as released
use Rattle.server_model.specs.Below.global_addr.Words.{word_of}
use Rattle.server_model.specs.Below.heap_partition.declared.value.Owned.TheVariants as owned
use Rattle.server_model.specs.Below.thread_state.View.{ThreadState, new_thread}
use Rattle.server_model.specs.Below.thread_state.declared.value.Value.{Value}
use Rattle.server_model.specs.Below.thread_state.declared.value.Value.TheVariants as value
use Rattle.server_model.specs.Below.thread_state.declared.phase.Phase.TheVariants as phase
use Rattle.server_model.specs.Below.mutex_home.Mutexes.{Mutex}
use Rattle.server_model.specs.Below.join_home.Tasks.{Task, going, let_go, kept, asked, in_pair}
use Rattle.server_model.specs.Below.server_msgs.declared.message.Message.{Message}
use Rattle.server_model.specs.Below.server_msgs.declared.message.Message.TheVariants.{Fetch, Move, Moved, Drop, Dupped, Release, Finished}
use Rattle.server_model.specs.Servers.{Server, Cluster}
use Rattle.coherent_memory.specs.Coherent.{broken, waits_in_turn, one_answer, carry_what_is_asked, go_right, return_right, askers_stand, objects_there, phases_stand, par_ends, pairs_noted, pairs_go_on, taken_stands, taken_is_new, gifts_got, gifts_fit, named_are_there, at_their_home, one_content, shares_counted, queue_while_out, content_without_shares, thread_homes, noted_go_on, noted_at_home, one_task_value, task_values_owed, one_result, pairs_unnamed, marks_in_slots, over_are_bare, none_owns_itself, parents_end, branches_give_unit, numbers_differ, objects_made, names_counted, counts_from_one, few_names, counts_bounded, parts_are_typed, options_in_range, holders_short}
use Rattle.sample_clusters.specs.Clusters.{place, thread_no, object, int, cell, box, the_mutex, word_1, word_2, word_3, main_waiting, locker, worker, copy_of, held_mutex, task, options, server_0, server_1, cluster, middle, relent_server, relent}
use Rattle.sample_clusters.specs.Busy.{old_0, new_1, at_2, at_3, at_4, has_task, parent, writer, lender, viewer, ended, gifted, dupper, joined, fetcher, dropped, mover, shared_mutex, busy_partition, busy_notes, busy_0, busy_1, of_busy}
use Rattle.coherent_samples.specs.Broken.{reference, Breaks}

-- slots 1 to 9 lead to slot 0 by one star more each, and slot 10 was made from there by nine stars
abbrev long_slots : List Value
long_slots =
    value.Own (box (word_of 0 0 0) 0) ∷ value.MutSlot 0 ∷ value.MutSlot 1 ∷ value.MutSlot 2 ∷ value.MutSlot 3 ∷ value.MutSlot 4 ∷ value.MutSlot 5 ∷ value.MutSlot 6 ∷ value.MutSlot 7 ∷ value.MutSlot 8
    ∷ value.Mut (record { word = word_of 0 0 0; first = word_of 0 0 0; object = object 0; dirty = false; holder = place 9 9 }) ∷ []

-- words of two objects more
abbrev at_5 : ℕ
at_5 = word_of 0 0 5

abbrev at_6 : ℕ
at_6 = word_of 0 0 6

abbrev busy_inbox : List Message → Cluster
busy_inbox ms = of_busy (record busy_0 { rest = record busy_0.rest { inbox = ms } }) busy_1

abbrev busy_threads_0 : List ThreadState → Server
busy_threads_0 ts = record busy_0 { threads = ts }

abbrev with_dupper : ThreadState → Cluster
with_dupper t = of_busy (record busy_0 { rest = record busy_0.rest { inbox = Fetch at_3 (object 3) 1 (thread_no 0 8) ∷ []; mutexes = record { home = 0; made = 1; there = record shared_mutex { shares = 2 } ∷ [] } }; threads = parent ∷ ended 0 4 ∷ t ∷ ended 1 1 ∷ dropped ∷ [] }) busy_1

abbrev with_parent : ThreadState → Cluster
with_parent t = of_busy (busy_threads_0 (t ∷ ended 0 4 ∷ dupper ∷ ended 1 1 ∷ dropped ∷ [])) busy_1

abbrev with_lender : ThreadState → Cluster
with_lender t = of_busy busy_0 (record busy_1 { threads = writer ∷ t ∷ viewer ∷ gifted ∷ joined ∷ fetcher ∷ ended 1 2 ∷ [] })

abbrev with_gifted : ThreadState → Cluster
with_gifted t = of_busy busy_0 (record busy_1 { threads = writer ∷ lender ∷ viewer ∷ t ∷ joined ∷ fetcher ∷ ended 1 2 ∷ [] })

abbrev busy_mutexes : List Mutex → Cluster
busy_mutexes ms = of_busy (record busy_0 { rest = record busy_0.rest { mutexes = record { home = 0; made = 1; there = ms } } }) busy_1

abbrev with_worker : ThreadState → Cluster
with_worker t = cluster (record server_0 { threads = main_waiting ∷ locker ∷ t ∷ [] }) server_1

abbrev with_notes : List Task → Cluster
with_notes ts = cluster (record server_0 { rest = record server_0.rest { tasks = ts } }) server_1

-- REQUESTS

pub record RequestsBreak : Type 0 where
  -- a dup that nobody answers
  pub unanswered : Breaks one_answer (with_dupper dupper)
  -- a queue place of a thread that is ready
  pub unasked : broken (cluster (record server_0 { rest = record server_0.rest { mutexes = record { home = 0; made = 1; there = record held_mutex { queue = (0, 0) ∷ (0, thread_no 1 1) ∷ [] } ∷ [] } } }) server_1) ≡ one_answer ∷ carry_what_is_asked ∷ []
  -- a request for another object
  pub other_object : broken (busy_inbox (Dupped the_mutex (thread_no 0 6) ∷ Fetch at_3 (object 2) 1 (thread_no 0 8) ∷ [])) ≡ waits_in_turn ∷ objects_there ∷ []
  -- a `drop` that waits at another server
  pub misrouted : Breaks go_right (cluster (record server_0 { rest = record server_0.rest { inbox = [] } }) (record server_1 { rest = record server_1.rest { inbox = Drop word_2 (object 2) ∷ [] } }))
  -- an answer at another server than its thread
  pub astray : Breaks return_right (of_busy (record busy_0 { rest = record busy_0.rest { inbox = Fetch at_3 (object 3) 1 (thread_no 0 8) ∷ [] } }) (record busy_1 { rest = record busy_1.rest { inbox = busy_1.rest.inbox ++ Dupped the_mutex (thread_no 0 6) ∷ [] } }))
  -- an asker noted at another server than its own
  pub asker_away : Breaks askers_stand (cluster server_0 (record server_1 { rest = record server_1.rest { tasks = task (thread_no 1 1) (asked 0 (thread_no 0 3)) ∷ [] } }))
  -- a copy is asked for of an object under way
  pub asked_under_way : Breaks objects_there (of_busy (record busy_0 { rest = record busy_0.rest { inbox = Dupped the_mutex (thread_no 0 6) ∷ Fetch old_0 (object 0) 1 (thread_no 0 8) ∷ [] } })
      (record busy_1 { threads = writer ∷ lender ∷ viewer ∷ gifted ∷ joined ∷ record fetcher { slots = value.Own (box at_3 3) ∷ value.Shared (record { word = old_0; object = object 0; pinned = false }) ∷ []; pc = 14; phase = phase.WaitCell old_0 } ∷ ended 1 2 ∷ [] }))
  -- an object under way was dropped, and goes to a reference that was made from itself
  pub dropped_under_way : Breaks objects_there (of_busy (record busy_0 { rest = record busy_0.rest { inbox = busy_0.rest.inbox ++ Drop old_0 (object 0) ∷ [] } })
      (record busy_1 { threads = record writer { slots = value.Mut (reference old_0 0 false 0) ∷ [] } ∷ lender ∷ viewer ∷ gifted ∷ joined ∷ fetcher ∷ ended 1 2 ∷ [] }))
  -- a thread waits for a lock at a print
  pub no_lock : Breaks phases_stand (cluster (record server_0 { threads = record main_waiting { pc = 2 } ∷ locker ∷ worker ∷ [] }) server_1)
  -- a thread waits for its branches at its end
  pub no_par_end : Breaks par_ends (with_parent (record parent { pc = 7 }))
  -- a thread waits for one that isn't of its pair
  pub no_pair : Breaks pairs_noted (with_parent (record parent { phase = phase.WaitPar (thread_no 0 3) (thread_no 0 5) }))
  -- a dup will be answered by a pair
  pub answered_by_pair : Breaks pairs_noted (of_busy
      (record busy_0 { rest = record busy_0.rest { inbox = Fetch at_3 (object 3) 1 (thread_no 0 8) ∷ []; mutexes = record { home = 0; made = 1; there = record shared_mutex { shares = 2 } ∷ [] } } })
      (record busy_1 { rest = record busy_1.rest { tasks = task (thread_no 1 2) going ∷ task (thread_no 1 3) (in_pair (thread_no 0 6) false) ∷ task (thread_no 1 4) (in_pair (thread_no 0 6) false) ∷ []; inbox = Moved old_0 (record { object = object 0; value = int 1 }) (thread_no 0 1) ∷ Finished (thread_no 1 2) (int 3) ∷ [] }; threads = writer ∷ lender ∷ viewer ∷ gifted ∷ record joined { slots = has_task 1 2 ∷ [] } ∷ fetcher ∷ ended 1 2 ∷ [] }))
  -- a thread waits for branches that are both over
  pub both_over : Breaks pairs_go_on (of_busy (record busy_0 { rest = record busy_0.rest { tasks = slice_set busy_notes 2 (task (thread_no 0 3) (in_pair 0 true)) } })
      (record busy_1 { rest = record busy_1.rest { cache = copy_of at_2 2 (box at_4 4) 0 ∷ [] }; threads = writer ∷ lender ∷ ended 0 3 ∷ gifted ∷ joined ∷ fetcher ∷ ended 1 2 ∷ [] }))
  -- a read asks for the object itself
  pub pulls_to_read : Breaks waits_in_turn (busy_inbox (Dupped the_mutex (thread_no 0 6) ∷ Move at_3 (object 3) 1 (thread_no 0 8) ∷ []))
  -- a read through a dirty reference asks for the object itself while colours are left
  pub pulls_early : Breaks waits_in_turn (of_busy (record busy_0 { rest = record busy_0.rest { inbox = Dupped the_mutex (thread_no 0 6) ∷ Move at_3 (object 3) 1 (thread_no 0 8) ∷ [] } })
      (record busy_1 { threads = writer ∷ lender ∷ viewer ∷ gifted ∷ joined ∷ record fetcher { pc = 14; slots = value.Own (box at_3 3) ∷ value.Mut (reference at_3 3 true 0) ∷ [] } ∷ ended 1 2 ∷ [] }))
  -- the object that was taken lies elsewhere
  pub taken_elsewhere : Breaks taken_stands (of_busy (busy_threads_0 (parent ∷ lender ∷ ended 0 4 ∷ dupper ∷ ended 1 1 ∷ dropped ∷ [])) (record busy_1 { threads = writer ∷ viewer ∷ gifted ∷ joined ∷ fetcher ∷ ended 1 2 ∷ [] }))
  -- the object that was taken has no new word
  pub taken_old : Breaks taken_is_new (with_lender (record lender { slots = value.Own (box new_1 1) ∷ [] }))
  -- a gift of a thread that is ready
  pub ready_gift : Breaks gifts_got (with_gifted (record gifted { phase = phase.Ready }))
  -- a dup gives something else
  pub other_gift : Breaks gifts_fit (with_dupper (record dupper { phase = phase.Got; gift = Some owned.Unit }))

-- MUTEXES AND TASKS

pub record SharingBreaks : Type 0 where
  -- the mutex isn't there
  pub no_mutex : broken (busy_mutexes []) ≡ named_are_there ∷ one_content ∷ shares_counted ∷ []
  -- a mutex of the same name is also at another server, with a content and a share
  pub mutex_away : Breaks at_their_home (of_busy (record busy_0 { rest = record busy_0.rest { mutexes = record { home = 0; made = 1; there = record shared_mutex { shares = 2 } ∷ [] } } }) (record busy_1 { rest = record busy_1.rest { mutexes = record { home = 1; made = 0; there = record shared_mutex { content = Some (int 9); shares = 1 } ∷ [] } } }))
  -- the content was granted and is in
  pub two_contents : Breaks one_content (busy_mutexes (record shared_mutex { content = Some (int 9) } ∷ []))
  -- the mark of a lock is a temporary value
  pub mark_on_top : Breaks marks_in_slots (with_worker (record worker { temps = value.Held the_mutex ∷ [] }))
  -- a share that isn't counted
  pub share_lost : Breaks shares_counted (busy_mutexes (record shared_mutex { shares = 2 } ∷ []))
  -- a thread is queued while the content is in
  pub queued_inside : Breaks queue_while_out (cluster (record server_0 { rest = record server_0.rest { mutexes = record { home = 0; made = 1; there = record held_mutex { content = Some (int 9) } ∷ [] } }; threads = main_waiting ∷ record locker { slots = value.Own (owned.Mutex the_mutex) ∷ [] } ∷ worker ∷ [] }) server_1)
  -- the content of a mutex without a share is in
  pub content_kept : Breaks content_without_shares (cluster (record server_0 { rest = record server_0.rest { mutexes = record { home = 0; made = 2; there = held_mutex ∷ record { number = record { home = 0; count = 2 }; content = Some owned.Unit; shares = 0; queue = [] } ∷ [] } } }) server_1)
  -- a thread with another home
  pub other_home : Breaks thread_homes (with_worker (record worker { home = 0 }))
  -- main is noted
  pub main_noted : Breaks noted_go_on (with_notes (task 0 let_go ∷ server_0.rest.tasks))
  -- a result kept away from its thread's home
  pub result_away : Breaks noted_at_home (of_busy (record busy_0 { rest = record busy_0.rest { tasks = busy_notes ++ task (thread_no 1 2) (kept (int 3)) ∷ [] } }) (record busy_1 { rest = record busy_1.rest { tasks = task (thread_no 1 3) going ∷ task (thread_no 1 4) going ∷ []; inbox = Moved old_0 (record { object = object 0; value = int 1 }) (thread_no 0 1) ∷ Release (released.Task (thread_no 1 3)) ∷ [] } }))
  -- a branch is noted as over away from its home
  pub branch_away : Breaks noted_at_home (of_busy (record busy_0 { rest = record busy_0.rest { tasks = task (thread_no 0 1) going ∷ task (thread_no 0 2) going ∷ task (thread_no 0 3) (in_pair 0 false) ∷ task (thread_no 0 5) going ∷ task (thread_no 0 6) going ∷ task (thread_no 0 7) going ∷ task (thread_no 0 8) going ∷ task (thread_no 1 5) (in_pair 0 true) ∷ [] }; threads = record parent { phase = phase.WaitPar (thread_no 0 3) (thread_no 1 5) } ∷ ended 0 4 ∷ dupper ∷ ended 1 1 ∷ dropped ∷ ended 1 5 ∷ [] }) (record busy_1 { rest = record busy_1.rest { started = 5 } }))
  -- the result of a thread that goes on
  pub early_result : broken (with_notes (task (thread_no 0 1) (kept (int 3)) ∷ task (thread_no 0 2) going ∷ task (thread_no 0 3) going ∷ [])) ≡ noted_go_on ∷ one_result ∷ []
  -- two task values of a thread
  pub two_tasks : broken (with_worker (record worker { slots = has_task 0 1 ∷ [] })) ≡ one_task_value ∷ task_values_owed ∷ []
  -- a task value of a thread of which nothing is noted
  pub not_owed : Breaks task_values_owed (with_worker (record worker { slots = has_task 0 0 ∷ [] }))
  -- a result that was joined is still kept
  pub two_results : broken (of_busy busy_0 (record busy_1 { rest = record busy_1.rest { tasks = task (thread_no 1 1) (kept owned.Unit) ∷ busy_1.rest.tasks } })) ≡ task_values_owed ∷ one_result ∷ []
  -- a par has ended while a branch goes on
  pub early_pair : broken (of_busy (record busy_0 { rest = record busy_0.rest { tasks = task (thread_no 0 1) going ∷ task (thread_no 0 2) going ∷ task (thread_no 0 5) going ∷ task (thread_no 0 6) going ∷ task (thread_no 0 7) going ∷ task (thread_no 0 8) going ∷ [] }; threads = record parent { phase = phase.GotPar (thread_no 0 3) (thread_no 0 4) } ∷ ended 0 4 ∷ dupper ∷ ended 1 1 ∷ dropped ∷ [] }) busy_1) ≡ noted_go_on ∷ one_result ∷ []
  -- a thread that was joined goes on
  pub early_join : broken (of_busy (busy_threads_0 (parent ∷ ended 0 4 ∷ dupper ∷ record (ended 1 1) { phase = phase.Ready } ∷ dropped ∷ [])) busy_1) ≡ noted_go_on ∷ one_result ∷ []
  -- a result is kept of a thread that stands nowhere
  pub kept_of_nobody : Breaks one_result (cluster (record server_0 { rest = record server_0.rest { tasks = server_0.rest.tasks ++ task (thread_no 0 4) (kept (int 3)) ∷ []; started = 4 }; threads = main_waiting ∷ locker ∷ record worker { slots = has_task 0 4 ∷ [] } ∷ [] }) server_1)
  -- a result comes of a thread that stands nowhere and of which nothing is noted
  pub finished_of_nobody : broken (cluster (record server_0 { rest = record server_0.rest { inbox = server_0.rest.inbox ++ Finished (thread_no 0 4) (int 3) ∷ []; started = 4 } }) server_1) ≡ noted_go_on ∷ one_result ∷ []
  -- main is noted as over in a pair, and goes on
  pub main_in_pair : Breaks one_result (of_busy
      (record busy_0 { rest = record busy_0.rest { tasks = task 0 (in_pair (thread_no 1 4) true) ∷ busy_notes ++ task (thread_no 0 9) (in_pair (thread_no 1 4) false) ∷ []; started = 9 }; threads = parent ∷ ended 0 4 ∷ dupper ∷ new_thread (thread_no 0 9) 7 [] ∷ ended 1 1 ∷ dropped ∷ record mover { pc = 2; phase = phase.WaitPar 0 (thread_no 0 9); moved_since_step = false } ∷ [] })
      (record busy_1 { rest = record busy_1.rest { outbox = [] } }))
  -- a task value names a branch of a par that has ended
  pub named_branch : broken (of_busy (record busy_0 { rest = record busy_0.rest { tasks = task (thread_no 0 1) going ∷ task (thread_no 0 2) going ∷ task (thread_no 0 5) going ∷ task (thread_no 0 6) going ∷ task (thread_no 0 7) going ∷ task (thread_no 0 8) going ∷ [] }; threads = record parent { phase = phase.GotPar (thread_no 0 3) (thread_no 0 4) } ∷ ended 0 4 ∷ dupper ∷ ended 1 1 ∷ record dropped { slots = has_task 0 4 ∷ [] } ∷ [] })
      (record busy_1 { rest = record busy_1.rest { cache = copy_of at_2 2 (box at_4 4) 0 ∷ [] }; threads = writer ∷ lender ∷ ended 0 3 ∷ gifted ∷ joined ∷ fetcher ∷ ended 1 2 ∷ [] })) ≡ task_values_owed ∷ pairs_unnamed ∷ []
  -- a branch that is noted as over stands nowhere
  pub nobody : Breaks one_result (of_busy (busy_threads_0 (parent ∷ dupper ∷ ended 1 1 ∷ dropped ∷ [])) busy_1)

-- ROOTED

pub record RootedBreaks : Type 0 where
  -- a thread that is over has a slot
  pub over_with_slot : Breaks over_are_bare (of_busy (busy_threads_0 (parent ∷ record (ended 0 4) { slots = value.Gone ∷ [] } ∷ dupper ∷ ended 1 1 ∷ dropped ∷ [])) busy_1)
  -- two boxes hold each other
  pub in_a_circle : Breaks none_owns_itself (of_busy (record busy_0 { rest = record busy_0.rest { partition = record busy_partition { cells = None ∷ None ∷ cell 2 (box at_4 4) ∷ cell 3 (int 6) ∷ cell 4 (int 8) ∷ cell 5 (box at_6 6) ∷ cell 6 (box at_5 5) ∷ [] } }; threads = record parent { made = 7 } ∷ ended 0 4 ∷ dupper ∷ ended 1 1 ∷ dropped ∷ [] }) busy_1)
  -- a branch is its own parent
  pub own_parent : broken (of_busy (record busy_0 { rest = record busy_0.rest { tasks = slice_set busy_notes 2 (task (thread_no 0 3) (in_pair (thread_no 0 3) false)) } }) busy_1) ≡ one_answer ∷ pairs_noted ∷ parents_end ∷ []
  -- a branch gives a number
  pub branch_number : Breaks branches_give_unit (of_busy (record busy_0 { rest = record busy_0.rest { inbox = busy_0.rest.inbox ++ Finished (thread_no 0 3) (int 1) ∷ [] } }) (record busy_1 { rest = record busy_1.rest { cache = copy_of at_2 2 (box at_4 4) 0 ∷ [] }; threads = writer ∷ lender ∷ record (ended 0 3) { pc = 7 } ∷ gifted ∷ joined ∷ fetcher ∷ ended 1 2 ∷ [] }))

-- NAMES

pub record NamesBreak : Type 0 where
  -- a thread stands at two servers
  pub twice : Breaks numbers_differ (of_busy busy_0 (record busy_1 { threads = writer ∷ lender ∷ viewer ∷ gifted ∷ joined ∷ fetcher ∷ ended 1 1 ∷ ended 1 2 ∷ [] }))
  -- an object that its thread hasn't made
  pub not_made : Breaks objects_made (cluster (record server_0 { threads = record main_waiting { made = 3 } ∷ locker ∷ worker ∷ [] }) server_1)
  -- a thread that its server hasn't started
  pub not_started : Breaks names_counted (cluster (record server_0 { rest = record server_0.rest { started = 2 } }) server_1)
  -- a mutex that its server hasn't made, in an old copy
  pub copied_name : Breaks names_counted (cluster server_0 (record server_1 { rest = record server_1.rest { cache = copy_of (word_of 0 0 0) 0 (owned.Mutex (record { home = 0; count = 2 })) 0 ∷ server_1.rest.cache } }))
  -- a thread with the count 0 beside main
  pub zeroth_thread : Breaks counts_from_one (of_busy (busy_threads_0 (parent ∷ ended 0 4 ∷ dupper ∷ ended 1 0 ∷ ended 1 1 ∷ dropped ∷ [])) busy_1)
  -- a mutex with the count 0
  pub zeroth_mutex : Breaks counts_from_one (of_busy (record busy_0 { rest = record busy_0.rest { mutexes = record { home = 0; made = 1; there = record { number = record { home = 0; count = 0 }; content = Some owned.Unit; shares = 1; queue = [] } ∷ shared_mutex ∷ [] } }; threads = parent ∷ ended 0 4 ∷ dupper ∷ ended 1 1 ∷ record dropped { slots = value.Own (owned.Mutex (record { home = 0; count = 0 })) ∷ [] } ∷ [] }) busy_1)
  -- more names than the events could give
  pub many : Breaks few_names (cluster (record server_0 { events = 1 }) (record server_1 { events = 0 }))
  -- addresses and names without an event
  pub no_event : broken (cluster (record server_0 { events = 0 }) (record server_1 { events = 0 })) ≡ few_names ∷ counts_bounded ∷ []
  -- a word is cached twice
  pub cached_twice : Breaks parts_are_typed (cluster server_0 (record server_1 { rest = record server_1.rest { cache = copy_of word_1 1 (int 5) 0 ∷ copy_of word_1 1 (int 5) 0 ∷ copy_of word_3 3 (int 3) 1 ∷ [] } }))
  -- no turn is allowed
  pub no_turns : Breaks options_in_range (record middle { options = record (options 2) { turns = 0 } })
  -- a reference was made from a place with nine stars
  pub nine_stars : Breaks holders_short (record relent { servers = record relent_server { threads = record (new_thread 0 2 long_slots) { made = 1 } ∷ [] } ∷ [] })
