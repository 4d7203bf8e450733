-- Clusters that each break one sentence, and no other.
use Rattle.std.specs.Prelude.{◌≡◌, ℕ, Bool, true, false, List, [], ◌∷◌, ◌++◌, Option, None, slice_set}
use Rattle.server_model.specs.Below.global_addr.Words.{word_of}
use Rattle.server_model.specs.Below.heap_partition.declared.value.Cell.{Cell}
use Rattle.server_model.specs.Below.heap_partition.declared.value.Owned.TheVariants as owned
use Rattle.server_model.specs.Below.mut_borrow.declared.mutable.MutRef.{MutRef}
use Rattle.server_model.specs.Below.thread_state.View.{ThreadState, new_thread}
use Rattle.server_model.specs.Below.thread_state.declared.value.Value.{Value}
use Rattle.server_model.specs.Below.thread_state.declared.value.Value.TheVariants as value
use Rattle.server_model.specs.Below.thread_state.declared.phase.Phase.TheVariants as phase
use Rattle.server_model.specs.Below.read_cache.Cache.{Copy}
use Rattle.server_model.specs.Below.mutex_home.Mutexes.{Mutex}
use Rattle.server_model.specs.Below.server_msgs.declared.message.Message.{Message}
use Rattle.server_model.specs.Below.server_msgs.declared.message.Message.TheVariants.{Move, Dupped, Migrate}
use Rattle.server_model.specs.Servers.{Server, Cluster}
use Rattle.coherent_memory.specs.Coherent.{Sentence, broken, home_of_each, owner_of_each, are_issued, below_limit, same_word, lead_home, one_state, first_at_holder, dirty_alone, firsts_are_past, copies_agree, served_are_clean, passed_lie_here, passed_not_copied, passed_not_stale, passed_in_a_walk, passed_within, walk_empty, join_walks_nothing, parcels_ready, place_followed, waits_in_turn, asks_others, users_counted}
use Rattle.sample_clusters.specs.Clusters.{place, thread_no, object, int, cell, box, the_mutex, word_0, word_1, word_3, dirty_reference, shared_reference, main_slots, main_waiting, locker, joiner, worker, partition_0, copy_of, server_0, server_1, cluster, relent_server, relent}
use Rattle.sample_clusters.specs.Busy.{old_0, old_1, at_2, at_3, at_4, parent, writer, lender, viewer, ended, gifted, dupper, joined, fetcher, dropped, mover, busy_partition, busy_0, busy_1, of_busy}

-- server 0 of the middle of a run with other cells, with another message behind its own, with another main thread
abbrev with_cells : List (Option Cell) → Server
with_cells cs = record server_0 { rest = record server_0.rest { partition = record partition_0 { cells = cs } } }

abbrev copies_at : List Copy → Server → Server
copies_at cs s = record s { rest = record s.rest { cache = cs } }

abbrev messages_at : List Message → Server → Server
messages_at ms s = record s { rest = record s.rest { inbox = ms } }

abbrev with_message : Server → Message → Server
with_message s m = record s { rest = record s.rest { inbox = s.rest.inbox ++ m ∷ [] } }

abbrev with_main : ThreadState → Server
with_main t = record server_0 { threads = t ∷ locker ∷ worker ∷ [] }

abbrev with_slot : ℕ → Value → Server
with_slot i v = with_main (record main_waiting { slots = slice_set main_slots i v })

abbrev with_worker : ThreadState → Server
with_worker t = record server_0 { threads = main_waiting ∷ locker ∷ t ∷ [] }

abbrev with_reader : ThreadState → Server
with_reader t = record server_1 { threads = t ∷ joiner ∷ [] }

abbrev with_copies : List Copy → Server
with_copies cs = record server_1 { rest = record server_1.rest { cache = cs } }

abbrev with_locker : ThreadState → Server
with_locker t = record server_0 { threads = main_waiting ∷ t ∷ worker ∷ [] }

abbrev with_mutex : Mutex → Server
with_mutex m = record server_0 { rest = record server_0.rest { mutexes = record { home = 0; made = 1; there = m ∷ [] } } }

-- the busy cluster without the request for object 3, with another thread in place of the one that asked, at its server or at that of the object
abbrev no_fetch : Server
no_fetch = record busy_0 { rest = record busy_0.rest { inbox = Dupped the_mutex (thread_no 0 6) ∷ [] } }

abbrev with_fetcher : ThreadState → Server
with_fetcher t = record busy_1 { threads = writer ∷ lender ∷ viewer ∷ gifted ∷ joined ∷ t ∷ ended 1 2 ∷ [] }

abbrev writing_here : ThreadState → Server
writing_here t = record no_fetch { threads = parent ∷ ended 0 4 ∷ dupper ∷ t ∷ ended 1 1 ∷ dropped ∷ [] }

abbrev without_fetcher : List Copy → Server
without_fetcher cs = record busy_1 { rest = record busy_1.rest { cache = cs }; threads = writer ∷ lender ∷ viewer ∷ gifted ∷ joined ∷ ended 1 2 ∷ [] }

-- it has passed so many hops at that instruction
abbrev passed_writer : ℕ → ℕ → ThreadState
passed_writer pc n = record fetcher { pc = pc; phase = phase.Got; passed = n }

-- a reference made from the pointer in that slot
abbrev pub reference : ℕ → ℕ → Bool → ℕ → MutRef
reference w n dirty slot = record { word = w; first = w; object = object n; dirty = dirty; holder = place slot 0 }

-- slot 0's box is lent to slot 1, that reference to slot 2, and that one to slot 3, with words of these colours; the first is dirty
abbrev lent_in_turn : ℕ → ℕ → ℕ → Cluster
lent_in_turn a b c =
    let lent : ℕ → ℕ → Bool → ℕ → Value = λ first colour d slot. value.Mut (record (reference (word_of colour 0 0) 0 d slot) { first = word_of first 0 0 }) in
    record relent { servers = record relent_server { threads = record (new_thread 0 2 (value.Own (box (word_of 0 0 0) 0) ∷ lent 0 a true 0 ∷ lent a b false 1 ∷ lent b c false 2 ∷ [])) { made = 1 } ∷ [] } ∷ [] }

-- THE MEMORY

-- the cluster breaks that sentence alone
abbrev pub Breaks : Sentence → Cluster → Type 0
Breaks n k = broken k ≡ n ∷ []

pub record MemoryBreaks : Type 0 where
  -- object 0 is under way and lies at its old address, with an owner for each
  pub two_homes : Breaks home_of_each (of_busy (record busy_0 { rest = record busy_0.rest { partition = record busy_partition { cells = cell 0 (int 1) ∷ None ∷ cell 2 (box at_4 4) ∷ cell 3 (int 6) ∷ cell 4 (int 8) ∷ []; free = (1, 1) ∷ [] } }; threads = parent ∷ ended 0 4 ∷ dupper ∷ ended 1 1 ∷ record dropped { slots = value.Own (box old_0 0) ∷ [] } ∷ [] }) busy_1)
  -- a second box of object 1
  pub two_owners : Breaks owner_of_each (cluster (with_locker (record locker { slots = value.Own (owned.Mutex the_mutex) ∷ value.Held the_mutex ∷ value.Own (box word_1 1) ∷ [] })) server_1)
  -- a dropped object without its message, so no pointer to it has a word
  pub no_owner : broken (cluster (record server_0 { rest = record server_0.rest { inbox = [] } }) server_1) ≡ owner_of_each ∷ lead_home ∷ []
  -- a box of an object that isn't there
  pub no_object : Breaks owner_of_each (cluster (with_locker (record locker { slots = value.Own (owned.Mutex the_mutex) ∷ value.Held the_mutex ∷ value.Own (box word_1 9) ∷ [] })) server_1)
  -- a copy under a word that was never issued
  pub not_issued : Breaks are_issued (cluster server_0 (with_copies (copy_of (word_of 3 0 1) 1 (int 5) 0 ∷ copy_of word_3 3 (int 3) 1 ∷ [])))
  -- a free address goes on from the colour limit
  pub no_colour : Breaks below_limit (cluster (record server_0 { rest = record server_0.rest { partition = record partition_0 { free = (5, 4) ∷ [] } } }) server_1)
  -- a shared reference with an older word
  pub two_words : Breaks same_word (cluster (with_slot 3 (value.Shared (record shared_reference { word = word_of 0 0 0 }))) server_1)
  -- the owner's word leads to another address
  pub elsewhere : Breaks lead_home (cluster (record server_0 { rest = record server_0.rest { partition = record partition_0 { cells = cell 0 (int 1) ∷ cell 1 (int 5) ∷ cell 2 (int 6) ∷ None ∷ cell 3 (int 3) ∷ None ∷ [] } } }) server_1)
  -- a live address is free
  pub live_and_free : Breaks one_state (cluster (record server_0 { rest = record server_0.rest { partition = record partition_0 { free = (5, 1) ∷ (3, 1) ∷ [] } } }) server_1)
  -- an address is free that the server hasn't come to
  pub free_beyond : Breaks one_state (cluster (record server_0 { rest = record server_0.rest { partition = record partition_0 { free = (5, 1) ∷ (7, 1) ∷ [] } } }) server_1)
  -- a reference was made from another word
  pub other_first : Breaks first_at_holder (cluster (with_slot 2 (value.Mut (record dirty_reference { first = word_of 0 0 0 }))) server_1)
  -- a dirty reference beside a shared one to its object
  pub dirty_shared : Breaks dirty_alone (cluster (with_slot 3 (value.Shared (record { word = word_0; object = object 0; pinned = false }))) server_1)
  -- a clean reference made from a dirty one, with its word
  pub dirty_below : Breaks dirty_alone (cluster (with_slot 3 (value.Mut (record { word = word_0; first = word_0; object = object 0; dirty = false; holder = place 2 0 }))) server_1)
  -- a third reference has the first word of the second one again: where it ends, the second one has its first word, so the dirty one isn't stale any more
  pub first_word_again : Breaks firsts_are_past (lent_in_turn 2 1 2)
  -- a reference made from the same box as a dirty one, with its word
  pub dirty_beside : Breaks dirty_alone (cluster (with_slot 3 (value.Mut (record { word = word_0; first = word_0; object = object 0; dirty = false; holder = place 0 0 }))) server_1)
  -- a copy with an old value under the object's word
  pub old_copy : Breaks copies_agree (cluster server_0 (with_copies (copy_of word_1 1 (int 4) 0 ∷ copy_of word_3 3 (int 3) 1 ∷ [])))
  -- a copy is asked for while a dirty reference to the object is alive
  pub unclean_fetch : Breaks served_are_clean (of_busy busy_0 (with_fetcher (record fetcher { slots = value.Own (box at_3 3) ∷ value.Mut (reference at_3 3 true 0) ∷ [] })))

-- WALKS

pub record WalksBreak : Type 0 where
  -- a hop that is passed is over an object elsewhere
  pub passed_away : Breaks passed_lie_here (of_busy no_fetch (with_fetcher (passed_writer 0 1)))
  -- a copy of a box that is passed is left
  pub passed_copied : Breaks passed_not_copied (of_busy (writing_here (passed_writer 0 1)) (without_fetcher (copy_of at_2 2 (box at_4 4) 1 ∷ copy_of at_3 3 (int 6) 0 ∷ [])))
  -- a reference that is passed is stale
  pub passed_stale : Breaks passed_not_stale (of_busy (writing_here (record (passed_writer 8 1) { slots = value.Own (box at_3 3) ∷ value.Mut (reference at_3 3 false 0) ∷ value.Mut (reference at_3 3 true 1) ∷ [] })) (without_fetcher busy_1.rest.cache))
  -- a box that is passed is stale
  pub passed_stale_box : Breaks passed_not_stale (of_busy (writing_here (record (passed_writer 0 1) { slots = value.Own (box at_3 3) ∷ value.Mut (reference at_3 3 true 0) ∷ [] })) (without_fetcher busy_1.rest.cache))
  -- a thread that is ready has passed a hop
  pub passed_ready : Breaks passed_in_a_walk (of_busy (writing_here (record (passed_writer 0 1) { phase = phase.Ready })) (without_fetcher busy_1.rest.cache))
  -- a read has passed a hop
  pub passed_reading : Breaks passed_within (of_busy (writing_here (passed_writer 6 1)) (without_fetcher busy_1.rest.cache))
  -- a thread that is ready uses a word
  pub ready_walk : Breaks walk_empty (of_busy busy_0 (record busy_1 { rest = record busy_1.rest { cache = copy_of at_2 2 (box at_4 4) 2 ∷ [] }; threads = writer ∷ lender ∷ record viewer { walk = at_2 ∷ [] } ∷ gifted ∷ joined ∷ fetcher ∷ ended 1 2 ∷ [] }))
  -- a thread with the result that it joined uses a word
  pub join_walk : Breaks join_walks_nothing (of_busy busy_0 (record busy_1 { rest = record busy_1.rest { cache = copy_of at_2 2 (box at_4 4) 2 ∷ [] }; threads = writer ∷ lender ∷ viewer ∷ gifted ∷ record joined { walk = at_2 ∷ [] } ∷ fetcher ∷ ended 1 2 ∷ [] }))
  -- a parcel in the middle of a step
  pub busy_parcel : Breaks parcels_ready (of_busy busy_0 (record busy_1 { rest = record busy_1.rest { outbox = record { target = 0; message = Migrate (record mover { phase = phase.Got }) } ∷ [] } }))
  -- an object was taken, but the pointer before it leads neither here nor to a copy in use
  pub not_followed : Breaks place_followed (of_busy
      (record no_fetch { rest = record no_fetch.rest { partition = record busy_partition { cells = None ∷ None ∷ cell 2 (box at_4 4) ∷ cell 3 (box old_1 1) ∷ cell 4 (int 8) ∷ [] } } })
      (record busy_1 { threads = writer ∷ record lender { pc = 9; slots = value.Own (box at_3 3) ∷ [] } ∷ viewer ∷ gifted ∷ joined ∷ record fetcher { pc = 7; slots = []; phase = phase.Ready } ∷ ended 1 2 ∷ [] }))
  -- an object was taken through a dirty reference, whose copy is old though it is in use
  pub followed_by_old_copy : Breaks place_followed (of_busy
      (record no_fetch { rest = record no_fetch.rest { partition = record busy_partition { cells = None ∷ None ∷ cell 2 (box at_4 4) ∷ cell 3 (box old_1 1) ∷ cell 4 (int 8) ∷ [] } } })
      (record busy_1 { rest = record busy_1.rest { cache = copy_of at_2 2 (box at_4 4) 1 ∷ copy_of at_3 3 (box old_1 1) 1 ∷ [] }; threads = writer ∷ record lender { pc = 13; slots = value.Own (box at_3 3) ∷ value.Mut (reference at_3 3 true 0) ∷ []; walk = at_3 ∷ [] } ∷ viewer ∷ gifted ∷ joined ∷ record fetcher { pc = 7; slots = []; phase = phase.Ready } ∷ ended 1 2 ∷ [] }))
  -- a read waits for a copy that it uses
  pub needless : Breaks waits_in_turn (of_busy busy_0 (copies_at (copy_of at_2 2 (box at_4 4) 1 ∷ copy_of at_3 3 (int 6) 1 ∷ []) (with_fetcher (record fetcher { walk = at_3 ∷ [] }))))
  -- a thread asks its own server for an object
  pub asks_here : Breaks asks_others (of_busy (messages_at (Dupped the_mutex (thread_no 0 6) ∷ Move at_3 (object 3) 0 (thread_no 0 8) ∷ []) (writing_here (record fetcher { pc = 0 }))) (without_fetcher busy_1.rest.cache))
  -- a copy in use without a user
  pub no_user : Breaks users_counted (cluster server_0 (with_copies (copy_of word_1 1 (int 5) 0 ∷ copy_of word_3 3 (int 3) 0 ∷ [])))
  -- a copy in use was evicted
  pub evicted : Breaks users_counted (cluster server_0 (with_copies (copy_of word_1 1 (int 5) 0 ∷ [])))
