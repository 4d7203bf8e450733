-- COHERENT: what every event of a cluster keeps (in the manner of DRust, OSDI 2024; the exact sentences are this project's). A sentence that
-- compares two sums says so for every name; each other one says that no thing breaks it. For every sentence the number of things that break it
-- computes (`breaches`); that these numbers are 0 exactly in a sound cluster is a law. In plain words each stands above the function that counts it.
use Rattle.std.specs.Prelude.{◌≡◌, ℕ, Bool, true, false, List, [], ◌∷◌, ◌++◌}
use Rattle.server_model.specs.Servers.{Cluster}
use Rattle.coherent_memory.specs.Names.{some}
use Rattle.coherent_memory.specs.Sight.{Sight, sight}
use Rattle.coherent_memory.specs.Things.{things_of}
use Rattle.coherent_memory.specs.Balances.{Agree, AtMost, AtMostOne}
use Rattle.coherent_memory.specs.Weights.{cells, owners, states, below, uses_of, users_of, is_home_of, shares_of, shares_at_home, tasks_of, is_thread}
use Rattle.coherent_memory.specs.Placing.{homes_wrong, owners_wrong, issued_wrong, colours_wrong, same_word_wrong, homeward_wrong, states_wrong, first_wrong, different_words_wrong, dirty_wrong, first_again_wrong, copies_wrong, served_wrong}
use Rattle.coherent_memory.specs.Walking.{passed_wrong, passed_boxes_wrong, passed_stale_wrong, passed_phase_wrong, passed_count_wrong, walk_phase_wrong, join_walk_wrong, parcels_wrong, followed_wrong, turn_wrong, own_requests_wrong, users_wrong}
use Rattle.coherent_memory.specs.Requests.{halves_to, halves_needed, pair_notes, pair_places, answers_wrong, carried_wrong, routes_wrong, returns_wrong, askers_wrong, objects_wrong, phases_wrong, par_ends_wrong, pairs_wrong, waited_pairs_wrong, taken_wrong, taken_words_wrong, gift_phases_wrong, gifts_wrong}
use Rattle.coherent_memory.specs.Sharing.{contents, going_notes, goes_on, owed, results, has_ended, named_wrong, mutex_homes_wrong, contents_wrong, marks_wrong, shares_wrong, queues_wrong, last_shares_wrong, thread_homes_wrong, noted_wrong, notes_wrong, tasks_wrong, owed_wrong, results_wrong, got_pairs_wrong}
use Rattle.coherent_memory.specs.Words.{HasWords}
use Rattle.coherent_memory.specs.Dirty.{DirtyAlone, PastWords}
use Rattle.coherent_memory.specs.Passing.{HavePassed, HaveFollowed}
use Rattle.coherent_memory.specs.Turn.{WaitInTurn}
use Rattle.coherent_memory.specs.Ranks.{Ends}
use Rattle.coherent_memory.specs.Rooted.{over_wrong, ownings, ownership_wrong, parents, parents_wrong, branches_wrong}
use Rattle.coherent_memory.specs.Naming.{numbers_wrong, made_wrong, counted_wrong, zeroth_wrong, names_count_wrong, large_wrong, parts_wrong, options_wrong, holders_wrong}

-- the sentences, part by part
pub data Sentence : Type 0 where
  -- one home
  home_of_each : Sentence
  -- one owner
  owner_of_each : Sentence
  -- words
  are_issued : Sentence
  below_limit : Sentence
  same_word : Sentence
  lead_home : Sentence
  one_state : Sentence
  first_at_holder : Sentence
  different_words : Sentence
  dirty_alone : Sentence
  firsts_are_past : Sentence
  -- copies
  copies_agree : Sentence
  served_are_clean : Sentence
  -- walks
  passed_lie_here : Sentence
  passed_not_copied : Sentence
  passed_not_stale : Sentence
  passed_in_a_walk : Sentence
  passed_within : Sentence
  walk_empty : Sentence
  join_walks_nothing : Sentence
  parcels_ready : Sentence
  place_followed : Sentence
  waits_in_turn : Sentence
  asks_others : Sentence
  -- users
  users_counted : Sentence
  -- requests
  one_answer : Sentence
  carry_what_is_asked : Sentence
  go_right : Sentence
  return_right : Sentence
  askers_stand : Sentence
  objects_there : Sentence
  phases_stand : Sentence
  par_ends : Sentence
  pairs_noted : Sentence
  pairs_go_on : Sentence
  taken_stands : Sentence
  taken_is_new : Sentence
  gifts_got : Sentence
  gifts_fit : Sentence
  -- mutexes and tasks
  named_are_there : Sentence
  at_their_home : Sentence
  one_content : Sentence
  marks_in_slots : Sentence
  shares_counted : Sentence
  queue_while_out : Sentence
  content_without_shares : Sentence
  thread_homes : Sentence
  noted_go_on : Sentence
  noted_at_home : Sentence
  one_task_value : Sentence
  task_values_owed : Sentence
  one_result : Sentence
  pairs_unnamed : Sentence
  -- what can be counted of types
  over_are_bare : Sentence
  none_owns_itself : Sentence
  parents_end : Sentence
  branches_give_unit : Sentence
  -- names
  numbers_differ : Sentence
  objects_made : Sentence
  names_counted : Sentence
  counts_from_one : Sentence
  few_names : Sentence
  counts_bounded : Sentence
  -- what the types of the servers' parts keep
  parts_are_typed : Sentence
  options_in_range : Sentence
  holders_short : Sentence

-- how many things of a cluster break a sentence
abbrev pub breaches_in : Cluster → Sight → Sentence → ℕ
breaches_in k s home_of_each = homes_wrong s
breaches_in k s owner_of_each = owners_wrong s
breaches_in k s are_issued = issued_wrong s
breaches_in k s below_limit = colours_wrong s
breaches_in k s same_word = same_word_wrong s
breaches_in k s lead_home = homeward_wrong s
breaches_in k s one_state = states_wrong s
breaches_in k s first_at_holder = first_wrong s
breaches_in k s different_words = different_words_wrong s
breaches_in k s dirty_alone = dirty_wrong s
breaches_in k s firsts_are_past = first_again_wrong s
breaches_in k s copies_agree = copies_wrong s
breaches_in k s served_are_clean = served_wrong s
breaches_in k s passed_lie_here = passed_wrong s
breaches_in k s passed_not_copied = passed_boxes_wrong s
breaches_in k s passed_not_stale = passed_stale_wrong s
breaches_in k s passed_in_a_walk = passed_phase_wrong s
breaches_in k s passed_within = passed_count_wrong s
breaches_in k s walk_empty = walk_phase_wrong s
breaches_in k s join_walks_nothing = join_walk_wrong s
breaches_in k s parcels_ready = parcels_wrong s
breaches_in k s place_followed = followed_wrong s
breaches_in k s waits_in_turn = turn_wrong s
breaches_in k s asks_others = own_requests_wrong s
breaches_in k s users_counted = users_wrong s
breaches_in k s one_answer = answers_wrong s
breaches_in k s carry_what_is_asked = carried_wrong s
breaches_in k s go_right = routes_wrong s
breaches_in k s return_right = returns_wrong s
breaches_in k s askers_stand = askers_wrong s
breaches_in k s objects_there = objects_wrong s
breaches_in k s phases_stand = phases_wrong s
breaches_in k s par_ends = par_ends_wrong s
breaches_in k s pairs_noted = pairs_wrong s
breaches_in k s pairs_go_on = waited_pairs_wrong s
breaches_in k s taken_stands = taken_wrong s
breaches_in k s taken_is_new = taken_words_wrong s
breaches_in k s gifts_got = gift_phases_wrong s
breaches_in k s gifts_fit = gifts_wrong s
breaches_in k s named_are_there = named_wrong s
breaches_in k s at_their_home = mutex_homes_wrong s
breaches_in k s one_content = contents_wrong s
breaches_in k s marks_in_slots = marks_wrong s
breaches_in k s shares_counted = shares_wrong s
breaches_in k s queue_while_out = queues_wrong s
breaches_in k s content_without_shares = last_shares_wrong s
breaches_in k s thread_homes = thread_homes_wrong s
breaches_in k s noted_go_on = noted_wrong s
breaches_in k s noted_at_home = notes_wrong s
breaches_in k s one_task_value = tasks_wrong s
breaches_in k s task_values_owed = owed_wrong s
breaches_in k s one_result = results_wrong s
breaches_in k s pairs_unnamed = got_pairs_wrong s
breaches_in k s over_are_bare = over_wrong s
breaches_in k s none_owns_itself = ownership_wrong s
breaches_in k s parents_end = parents_wrong s
breaches_in k s branches_give_unit = branches_wrong s
breaches_in k s numbers_differ = numbers_wrong s
breaches_in k s objects_made = made_wrong s
breaches_in k s names_counted = counted_wrong s
breaches_in k s counts_from_one = zeroth_wrong s
breaches_in k s few_names = names_count_wrong s
breaches_in k s counts_bounded = large_wrong s
breaches_in k s parts_are_typed = parts_wrong k s
breaches_in k s options_in_range = options_wrong s
breaches_in k s holders_short = holders_wrong s

abbrev pub breaches : Cluster → Sentence → ℕ
breaches k n = breaches_in k (sight k) n

-- none breaks the sentence
abbrev pub Holds : Cluster → Sentence → Type 0
Holds k n = breaches k n ≡ 0

-- ONE HOME
pub record OneHome (k : Cluster) : Type 0 where
  -- each live object is the cell of exactly one address of one partition, or of exactly one `moved` message
  pub home_of_each : AtMostOne cells (things_of k)

-- ONE OWNER: copies and references own nothing
pub record OneOwner (k : Cluster) : Type 0 where
  -- each live object is named by exactly one box in a place that owns, or by exactly one `drop` message; and each of these names a live object
  pub owner_of_each : Agree owners cells (things_of k)

-- WORDS
pub record Words (k : Cluster) : Type 0 where
  -- every word that stands anywhere was issued
  pub are_issued : Holds k are_issued
  -- every word that stands anywhere has a colour below `colours`, and so is the next colour of a free address
  pub below_limit : Holds k below_limit
  -- each object has a word: each pointer to it has that word or is stale, and where it lies, some pointer isn't stale and the word leads there
  pub have_words : HasWords (sight k)
  -- each address below its server's next one is live, free or retired, once, and no other address is anything
  pub one_state : AtMost states below (things_of k)
  -- the `first` of a mutable reference is the word at its holder, and that pointer is to the same object
  pub first_at_holder : Holds k first_at_holder
  -- different live objects have different words
  pub different_words : Holds k different_words
  -- no mutable reference was made from a dirty one that isn't stale, and each other pointer to its object is stale; so no shared reference or view leads to it
  pub dirty_alone : DirtyAlone (sight k)
  -- where a mutable reference has another word than its first one, no pointer to its object that isn't stale has the first one
  pub past_words : PastWords (sight k)

-- COPIES
pub record Copies (k : Cluster) : Type 0 where
  -- a copy under the word of a live object, without a dirty reference that isn't stale, is its present cell, words included
  pub copies_agree : Holds k copies_agree
  -- the word of a `fetch` or `fetched` is such a word of a live object
  pub served_are_clean : Holds k served_are_clean

-- WALKS
pub record Walks (k : Cluster) : Type 0 where
  -- each of the first `passed` hops of a thread's write is over a box without a copy or a mutable reference, neither of them stale, of an object
  -- that lies at its server, or leads to a slot
  pub have_passed : HavePassed (sight k)
  -- `passed` is 0 outside the phases `WaitCell`, `Got` and `Taken`
  pub passed_in_a_walk : Holds k passed_in_a_walk
  -- `passed` is never above the number of hops of that write
  pub passed_within : Holds k passed_within
  -- the walk is empty in the phases `Ready`, `WaitJoin`, `WaitPar`, `GotPar` and `Over`
  pub walk_empty : Holds k walk_empty
  -- the walk is empty at a `Join`, in every phase
  pub join_walks_nothing : Holds k join_walks_nothing
  -- a parcel is in phase `Ready`
  pub parcels_ready : Holds k parcels_ready
  -- where a thread has followed its place, each pointer on the way leads to its server or, but for a dirty reference, to a copy that it keeps
  pub have_followed : HaveFollowed (sight k)
  -- in `WaitCell(w)` a write waits for its first hop that isn't passed or the reference that it ends, a read for its first hop that it can't read; that
  -- pointer has the word w, and the thread's message asks for its object, or a copy where it is read, or brings it
  pub wait_in_turn : WaitInTurn (sight k)
  -- no request for an object goes to the thread's own server
  pub asks_others : Holds k asks_others

-- USERS
pub record Users (k : Cluster) : Type 0 where
  -- the users of a cached word are the walks and pinned references there that have it, and each word of these is cached at its server
  pub users_counted : Agree uses_of users_of (things_of k)

-- REQUESTS
pub record Requests (k : Cluster) : Type 0 where
  -- each waiting thread has exactly one message, queue place or noted asker that will answer it, and none of these answers a thread that doesn't wait
  pub one_answer : Agree halves_to halves_needed (things_of k)
  -- what will answer a thread carries, or is kept for, what its phase names
  pub carry_what_is_asked : Holds k carry_what_is_asked
  -- a message goes to the server that it is for, and that server is of the run
  pub go_right : Holds k go_right
  -- an answer goes to the server of the thread that it answers
  pub return_right : Holds k return_right
  -- the server and thread in a request, a queue place or a noted asker are those of the thread that waits
  pub askers_stand : Holds k askers_stand
  -- the object of a `fetch`, a `move` or a `drop` has that message's word and lies where it leads
  pub objects_there : Holds k objects_there
  -- `WaitLock`, `WaitDup` and `WaitJoin` stand at their instructions, with their mutex at the place or their thread as operand
  pub phases_stand : Holds k phases_stand
  -- a thread is at a `ParEnd` exactly in the phases `WaitPar` and `GotPar`
  pub par_ends : Holds k par_ends
  -- a server notes a thread as in the pair of a parent exactly where the parent stands there in `WaitPar` with that thread among its two
  pub pairs_noted : Agree pair_notes pair_places (things_of k)
  -- in `WaitPar(a, b)` these differ, and not both are noted as over
  pub pairs_go_on : Holds k pairs_go_on
  -- `Taken(w)` stands at a `BorrowMut`; w is the word of the object at its place, which lies at the thread's server
  pub taken_stands : Holds k taken_stands
  -- in `Taken(w)` the pointer that the place follows last has another word than w
  pub taken_is_new : Holds k taken_is_new
  -- a gift stands in phase `Got` alone
  pub gifts_got : Holds k gifts_got
  -- a gift stands at a `Lock`, a `Dup` or a `Join` alone, and is what that instruction takes
  pub gifts_fit : Holds k gifts_fit

-- MUTEXES AND TASKS
pub record MutexesAndTasks (k : Cluster) : Type 0 where
  -- each mutex that is named anywhere but in a copy is there, at the server of its number
  pub named_are_there : Holds k named_are_there
  -- no mutex is there at another server than that of its number
  pub at_their_home : Holds k at_their_home
  -- each mutex's content stands in one place
  pub one_content : Agree (contents (sight k)) is_home_of (things_of k)
  -- the mark of a lock stands in a slot alone
  pub marks_in_slots : Holds k marks_in_slots
  -- a mutex's shares are its values in the places that own, its `release` messages and its dups answered but not yet taken
  pub shares_counted : Agree shares_of shares_at_home (things_of k)
  -- no thread is queued while the content is at the home
  pub queue_while_out : Holds k queue_while_out
  -- a mutex without a share has its content out of its home
  pub content_without_shares : Holds k content_without_shares
  -- each thread's `home` is the server of its number
  pub thread_homes : Holds k thread_homes
  -- the threads that a home has as going, let go, asked or in a pair and not over are those that it started and that go on or whose `finished` waits
  pub noted_go_on : Agree going_notes goes_on (things_of k)
  -- what is noted of a thread, its result too, stands at its home alone
  pub noted_at_home : Holds k noted_at_home
  -- a thread is named by at most one task value or `release`
  pub one_task_value : AtMostOne tasks_of (things_of k)
  -- it is named by one exactly where its home has it as going, as asked or with its result, or its join isn't done
  pub task_values_owed : Agree tasks_of (owed (sight k)) (things_of k)
  -- a result stands only of a thread other than main that stands somewhere and is over, and in at most one place
  pub one_result : AtMost (results (sight k)) has_ended (things_of k)
  -- the threads of `GotPar(a, b)` are named by no task value
  pub pairs_unnamed : Holds k pairs_unnamed

-- what can be counted of TYPES
pub record Rooted (k : Cluster) : Type 0 where
  -- a thread that is over stands at its `End` and has no slot, no temporary value and no gift
  pub over_are_bare : Holds k over_are_bare
  -- no object, no mutex's content and no result owns itself, directly or through others: a rank falls from each to what it owns
  pub none_owns_itself : Ends (ownings (sight k))
  -- going from each branch to the parent that waits for it comes to an end: a rank falls from each to its parent
  pub parents_end : Ends (parents (things_of k))
  -- a `finished` message of a thread of a pair carries unit
  pub branches_give_unit : Holds k branches_give_unit

-- NAMES
pub record Names (k : Cluster) : Type 0 where
  -- no two threads or parcels have the same number
  pub numbers_differ : AtMostOne is_thread (things_of k)
  -- the number of each object is below the `made` of the thread that made it, where that thread isn't over
  pub objects_made : Holds k objects_made
  -- the count of each thread and mutex that is named anywhere is at most the count that its server has reached
  pub names_counted : Holds k names_counted
  -- no mutex, and no thread but main, has the count 0
  pub counts_from_one : Holds k counts_from_one
  -- no such count and no `made` is above twice the number of events
  pub few_names : Holds k few_names
  -- no next address and no number of retired addresses, of users or of shares is above 16 times it
  pub counts_bounded : Holds k counts_bounded

-- what the types of the servers' parts keep
pub record Parts (k : Cluster) : Type 0 where
  -- the servers are those of the run, and each part is one of its type
  pub parts_are_typed : Holds k parts_are_typed
  -- the options of the run are in their ranges
  pub options_in_range : Holds k options_in_range
  -- each holder has at most eight stars
  pub holders_short : Holds k holders_short

-- a cluster keeps all that can be counted. That is coherence but for the part on types, of which `rooted` is what can be counted: that each thread's
-- values have the types of its instruction, and that all values agree on the types of objects, mutexes and results, is not said here
pub record IsSound (k : Cluster) : Type 0 where
  pub one_home : OneHome k
  pub one_owner : OneOwner k
  pub words : Words k
  pub copies : Copies k
  pub walks : Walks k
  pub users : Users k
  pub requests : Requests k
  pub mutexes_and_tasks : MutexesAndTasks k
  pub rooted : Rooted k
  pub names : Names k
  pub parts : Parts k

-- THE SAME AS LISTS

abbrev pub one_home_sentences : List Sentence
one_home_sentences = home_of_each ∷ []

abbrev pub one_owner_sentences : List Sentence
one_owner_sentences = owner_of_each ∷ []

abbrev pub words_sentences : List Sentence
words_sentences = are_issued ∷ below_limit ∷ same_word ∷ lead_home ∷ one_state ∷ first_at_holder ∷ different_words ∷ dirty_alone ∷ firsts_are_past ∷ []

abbrev pub copies_sentences : List Sentence
copies_sentences = copies_agree ∷ served_are_clean ∷ []

abbrev pub walks_sentences : List Sentence
walks_sentences = passed_lie_here ∷ passed_not_copied ∷ passed_not_stale ∷ passed_in_a_walk ∷ passed_within ∷ walk_empty ∷ join_walks_nothing ∷ parcels_ready ∷ place_followed ∷ waits_in_turn ∷ asks_others ∷ []

abbrev pub users_sentences : List Sentence
users_sentences = users_counted ∷ []

abbrev pub requests_sentences : List Sentence
requests_sentences = one_answer ∷ carry_what_is_asked ∷ go_right ∷ return_right ∷ askers_stand ∷ objects_there ∷ phases_stand ∷ par_ends ∷ pairs_noted ∷ pairs_go_on ∷ taken_stands ∷ taken_is_new ∷ gifts_got ∷ gifts_fit ∷ []

abbrev pub mutexes_and_tasks_sentences : List Sentence
mutexes_and_tasks_sentences = named_are_there ∷ at_their_home ∷ one_content ∷ marks_in_slots ∷ shares_counted ∷ queue_while_out ∷ content_without_shares ∷ thread_homes ∷ noted_go_on ∷ noted_at_home ∷ one_task_value ∷ task_values_owed ∷ one_result ∷ pairs_unnamed ∷ []

abbrev pub rooted_sentences : List Sentence
rooted_sentences = over_are_bare ∷ none_owns_itself ∷ parents_end ∷ branches_give_unit ∷ []

abbrev pub names_sentences : List Sentence
names_sentences = numbers_differ ∷ objects_made ∷ names_counted ∷ counts_from_one ∷ few_names ∷ counts_bounded ∷ []

abbrev pub parts_sentences : List Sentence
parts_sentences = parts_are_typed ∷ options_in_range ∷ holders_short ∷ []

abbrev pub if_broken : Bool → Sentence → List Sentence → List Sentence
if_broken true n ns = n ∷ ns
if_broken false n ns = ns

abbrev pub broken_among : Cluster → Sight → List Sentence → List Sentence
broken_among k s [] = []
broken_among k s (n ∷ ns) = if_broken (some (breaches_in k s n)) n (broken_among k s ns)

abbrev pub all_sentences : List Sentence
all_sentences = one_home_sentences ++ one_owner_sentences ++ words_sentences ++ copies_sentences ++ walks_sentences ++ users_sentences ++ requests_sentences ++ mutexes_and_tasks_sentences ++ rooted_sentences ++ names_sentences ++ parts_sentences

-- the sentences that a cluster breaks
abbrev pub broken : Cluster → List Sentence
broken k = broken_among k (sight k) all_sentences
