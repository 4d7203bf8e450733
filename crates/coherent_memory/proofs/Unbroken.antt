-- A cluster breaks no sentence exactly where it is sound.
use Rattle.std.proofs.Common.{◌≡◌, ℕ, zero, suc, ◌+◌, List, [], ◌∷◌, ◌++◌, refl}
use Rattle.std.specs.List.{AllByRecursion}
use Rattle.server_model.specs.Servers.{Cluster}
use Rattle.coherent_memory.specs.Names.{some}
use Rattle.coherent_memory.specs.Things.{things_of}
use Rattle.coherent_memory.specs.Sight.{sight}
use Rattle.coherent_memory.specs.Weights.{cells, owners, objects, states, below, addresses, uses_of, users_of, kept_words, is_home_of, shares_of, shares_at_home, shared_mutexes, tasks_of, is_thread, numbers}
use Rattle.coherent_memory.specs.Requests.{halves_to, halves_needed, answered_threads, pair_notes, pair_places, branches}
use Rattle.coherent_memory.specs.Sharing.{contents, held_mutexes, going_notes, goes_on, started_threads, tasks, owed, owed_threads, results, has_ended, resulting}
use Rattle.coherent_memory.specs.Coherent.{Sentence, home_of_each, owner_of_each, are_issued, below_limit, same_word, lead_home, one_state, first_at_holder, different_words, dirty_alone, firsts_are_past, copies_agree, served_are_clean, passed_lie_here, passed_not_copied, passed_not_stale, passed_in_a_walk, passed_within, walk_empty, join_walks_nothing, parcels_ready, place_followed, waits_in_turn, asks_others, users_counted, one_answer, carry_what_is_asked, go_right, return_right, askers_stand, objects_there, phases_stand, par_ends, pairs_noted, pairs_go_on, taken_stands, taken_is_new, gifts_got, gifts_fit, named_are_there, at_their_home, one_content, marks_in_slots, shares_counted, queue_while_out, content_without_shares, thread_homes, noted_go_on, noted_at_home, one_task_value, task_values_owed, one_result, pairs_unnamed, over_are_bare, none_owns_itself, parents_end, branches_give_unit, numbers_differ, objects_made, names_counted, counts_from_one, few_names, counts_bounded, parts_are_typed, options_in_range, holders_short, breaches_in, Holds, OneHome, OneOwner, Words, Copies, Walks, Users, Requests, MutexesAndTasks, Rooted, Names, Parts, IsSound, one_home_sentences, one_owner_sentences, words_sentences, copies_sentences, walks_sentences, users_sentences, requests_sentences, mutexes_and_tasks_sentences, rooted_sentences, names_sentences, parts_sentences, if_broken, broken_among, all_sentences}
use Rattle.coherent_memory.specs.Rooted.{ownings, parents}
use Rattle.coherent_memory.specs.Laws.{SoundLaw}
use Rattle.coherent_memory.specs.Placing.{same_word_wrong, homeward_wrong}
use Rattle.coherent_memory.proofs.Names.{left_none, right_none}
use Rattle.coherent_memory.specs.Walking.{passed_wrong, passed_boxes_wrong, passed_stale_wrong}
use Rattle.coherent_memory.proofs.Words.{words_law}
use Rattle.coherent_memory.proofs.Dirty.{dirty_law}
use Rattle.coherent_memory.proofs.Past.{past_law}
use Rattle.coherent_memory.proofs.Passing.{passed_law}
use Rattle.coherent_memory.proofs.Followed.{followed_law}
use Rattle.coherent_memory.proofs.Turn.{turn_law}
use Rattle.coherent_memory.proofs.Ranks.{node_ends, nodes_none, number_ends, numbers_none}
use Rattle.coherent_memory.proofs.Shown.{agree_from, agree_none, at_most_from, at_most_none, one_from, one_none}
use Rattle.coherent_memory.proofs.Sees.{cells_seen, owners_seen, objects_quiet, states_seen, addresses_quiet, uses_seen, users_seen, words_quiet, halves_seen, needs_seen, answers_quiet, notes_seen, places_seen, branches_quiet, contents_seen, homes_seen, held_quiet, shares_seen, counts_seen, shares_quiet}
use Rattle.coherent_memory.proofs.SeesThreads.{threads_seen, numbers_quiet, going_seen, goes_seen, started_quiet, tasks_seen, tasks_quiet, owed_seen, named_seen, owed_quiet, results_seen, results_quiet}

-- none of these is broken
abbrev None_of : Cluster → List Sentence → Type 0
None_of k ns = AllByRecursion (λ (n : Sentence). Holds k n) ns

broken_by : (k : Cluster) (n : Sentence) (ns : List Sentence) (m : ℕ) → breaches_in k (sight k) n ≡ m → (broken_among k (sight k) ns ≡ [] → None_of k ns) → if_broken (some m) n (broken_among k (sight k) ns) ≡ [] → None_of k (n ∷ ns)
broken_by k n ns zero e go z = (e, go z)
broken_by k n ns (suc m) e go z = absurd (cc z)

none_of : (k : Cluster) (ns : List Sentence) → broken_among k (sight k) ns ≡ [] → None_of k ns
none_of k [] z = tt
none_of k (n ∷ ns) z = broken_by k n ns (breaches_in k (sight k) n) refl (none_of k ns) z

first_part : (k : Cluster) (ns ms : List Sentence) → None_of k (ns ++ ms) → None_of k ns
first_part k [] ms p = tt
first_part k (n ∷ ns) ms p = (p.0, first_part k ns ms p.1)

rest_part : (k : Cluster) (ns ms : List Sentence) → None_of k (ns ++ ms) → None_of k ms
rest_part k [] ms p = p
rest_part k (n ∷ ns) ms p = rest_part k ns ms p.1

still : (m : ℕ) (n : Sentence) (ns : List Sentence) → m ≡ 0 → ns ≡ [] → if_broken (some m) n ns ≡ []
still zero n ns e z = z
still (suc m) n ns e z = absurd (cc e)

all_among : (k : Cluster) → ((n : Sentence) → Holds k n) → (ns : List Sentence) → broken_among k (sight k) ns ≡ []
all_among k h [] = refl
all_among k h (n ∷ ns) = still (breaches_in k (sight k) n) n (broken_among k (sight k) ns) (h n) (all_among k h ns)

-- EACH PART OF ITS SENTENCES

one_home_from : (k : Cluster) → None_of k one_home_sentences → OneHome k
one_home_from k p = record {
  home_of_each = one_from cells objects cells_seen (things_of k) p.0;
}

one_owner_from : (k : Cluster) → None_of k one_owner_sentences → OneOwner k
one_owner_from k p = record {
  owner_of_each = agree_from owners cells objects owners_seen cells_seen (things_of k) p.0;
}

words_from : (k : Cluster) → None_of k words_sentences → Words k
words_from k p = record {
  are_issued = p.0;
  below_limit = p.1.0;
  have_words = words_law.from_counts k p.1.1.0 p.1.1.1.0;
  one_state = at_most_from states below addresses states_seen (things_of k) p.1.1.1.1.0;
  first_at_holder = p.1.1.1.1.1.0;
  different_words = p.1.1.1.1.1.1.0;
  dirty_alone = dirty_law.from_count k p.1.1.1.1.1.1.1.0;
  past_words = past_law.from_count k p.1.1.1.1.1.1.1.1.0;
}

copies_from : (k : Cluster) → None_of k copies_sentences → Copies k
copies_from k p = record {
  copies_agree = p.0;
  served_are_clean = p.1.0;
}

walks_from : (k : Cluster) → None_of k walks_sentences → Walks k
walks_from k p = record {
  have_passed = passed_law.from_counts k p.0 p.1.0 p.1.1.0;
  passed_in_a_walk = p.1.1.1.0;
  passed_within = p.1.1.1.1.0;
  walk_empty = p.1.1.1.1.1.0;
  join_walks_nothing = p.1.1.1.1.1.1.0;
  parcels_ready = p.1.1.1.1.1.1.1.0;
  have_followed = followed_law.from_counts (sight k) p.1.1.1.1.1.1.1.1.0;
  wait_in_turn = turn_law.from_count (sight k) p.1.1.1.1.1.1.1.1.1.0;
  asks_others = p.1.1.1.1.1.1.1.1.1.1.0;
}

users_from : (k : Cluster) → None_of k users_sentences → Users k
users_from k p = record {
  users_counted = agree_from uses_of users_of kept_words uses_seen users_seen (things_of k) p.0;
}

requests_from : (k : Cluster) → None_of k requests_sentences → Requests k
requests_from k p = record {
  one_answer = agree_from halves_to halves_needed answered_threads halves_seen needs_seen (things_of k) p.0;
  carry_what_is_asked = p.1.0;
  go_right = p.1.1.0;
  return_right = p.1.1.1.0;
  askers_stand = p.1.1.1.1.0;
  objects_there = p.1.1.1.1.1.0;
  phases_stand = p.1.1.1.1.1.1.0;
  par_ends = p.1.1.1.1.1.1.1.0;
  pairs_noted = agree_from pair_notes pair_places branches notes_seen places_seen (things_of k) p.1.1.1.1.1.1.1.1.0;
  pairs_go_on = p.1.1.1.1.1.1.1.1.1.0;
  taken_stands = p.1.1.1.1.1.1.1.1.1.1.0;
  taken_is_new = p.1.1.1.1.1.1.1.1.1.1.1.0;
  gifts_got = p.1.1.1.1.1.1.1.1.1.1.1.1.0;
  gifts_fit = p.1.1.1.1.1.1.1.1.1.1.1.1.1.0;
}

mutexes_and_tasks_from : (k : Cluster) → None_of k mutexes_and_tasks_sentences → MutexesAndTasks k
mutexes_and_tasks_from k p = record {
  named_are_there = p.0;
  at_their_home = p.1.0;
  one_content = agree_from (contents (sight k)) is_home_of (held_mutexes (sight k)) (contents_seen (sight k)) (homes_seen (sight k)) (things_of k) p.1.1.0;
  marks_in_slots = p.1.1.1.0;
  shares_counted = agree_from shares_of shares_at_home shared_mutexes shares_seen counts_seen (things_of k) p.1.1.1.1.0;
  queue_while_out = p.1.1.1.1.1.0;
  content_without_shares = p.1.1.1.1.1.1.0;
  thread_homes = p.1.1.1.1.1.1.1.0;
  noted_go_on = agree_from going_notes goes_on started_threads going_seen goes_seen (things_of k) p.1.1.1.1.1.1.1.1.0;
  noted_at_home = p.1.1.1.1.1.1.1.1.1.0;
  one_task_value = one_from tasks_of tasks tasks_seen (things_of k) p.1.1.1.1.1.1.1.1.1.1.0;
  task_values_owed = agree_from tasks_of (owed (sight k)) (owed_threads (sight k)) (named_seen (sight k)) (owed_seen (sight k)) (things_of k) p.1.1.1.1.1.1.1.1.1.1.1.0;
  one_result = at_most_from (results (sight k)) has_ended (resulting (sight k)) (results_seen (sight k)) (things_of k) p.1.1.1.1.1.1.1.1.1.1.1.1.0;
  pairs_unnamed = p.1.1.1.1.1.1.1.1.1.1.1.1.1.0;
}

rooted_from : (k : Cluster) → None_of k rooted_sentences → Rooted k
rooted_from k p = record {
  over_are_bare = p.0;
  none_owns_itself = node_ends (ownings (sight k)) p.1.0;
  parents_end = number_ends (parents (things_of k)) p.1.1.0;
  branches_give_unit = p.1.1.1.0;
}

names_from : (k : Cluster) → None_of k names_sentences → Names k
names_from k p = record {
  numbers_differ = one_from is_thread numbers threads_seen (things_of k) p.0;
  objects_made = p.1.0;
  names_counted = p.1.1.0;
  counts_from_one = p.1.1.1.0;
  few_names = p.1.1.1.1.0;
  counts_bounded = p.1.1.1.1.1.0;
}

parts_from : (k : Cluster) → None_of k parts_sentences → Parts k
parts_from k p = record {
  parts_are_typed = p.0;
  options_in_range = p.1.0;
  holders_short = p.1.1.0;
}

-- EACH SENTENCE OF ITS PART

holds : (k : Cluster) → IsSound k → (n : Sentence) → Holds k n
holds k s home_of_each = one_none cells objects objects_quiet (things_of k) s.one_home.home_of_each
holds k s owner_of_each = agree_none owners cells objects objects_quiet (things_of k) s.one_owner.owner_of_each
holds k s are_issued = s.words.are_issued
holds k s below_limit = s.words.below_limit
holds k s same_word = left_none (same_word_wrong (sight k)) (homeward_wrong (sight k)) (words_law.none_counted k s.words.have_words)
holds k s lead_home = right_none (same_word_wrong (sight k)) (homeward_wrong (sight k)) (words_law.none_counted k s.words.have_words)
holds k s one_state = at_most_none states below addresses addresses_quiet (things_of k) s.words.one_state
holds k s first_at_holder = s.words.first_at_holder
holds k s different_words = s.words.different_words
holds k s dirty_alone = dirty_law.none_counted k s.words.dirty_alone
holds k s firsts_are_past = past_law.none_counted k s.words.past_words
holds k s copies_agree = s.copies.copies_agree
holds k s served_are_clean = s.copies.served_are_clean
holds k s passed_lie_here =
    left_none (passed_wrong (sight k)) (passed_boxes_wrong (sight k)) (left_none (passed_wrong (sight k) + passed_boxes_wrong (sight k)) (passed_stale_wrong (sight k)) (passed_law.none_counted k s.walks.have_passed))
holds k s passed_not_copied =
    right_none (passed_wrong (sight k)) (passed_boxes_wrong (sight k)) (left_none (passed_wrong (sight k) + passed_boxes_wrong (sight k)) (passed_stale_wrong (sight k)) (passed_law.none_counted k s.walks.have_passed))
holds k s passed_not_stale = right_none (passed_wrong (sight k) + passed_boxes_wrong (sight k)) (passed_stale_wrong (sight k)) (passed_law.none_counted k s.walks.have_passed)
holds k s passed_in_a_walk = s.walks.passed_in_a_walk
holds k s passed_within = s.walks.passed_within
holds k s walk_empty = s.walks.walk_empty
holds k s join_walks_nothing = s.walks.join_walks_nothing
holds k s parcels_ready = s.walks.parcels_ready
holds k s place_followed = followed_law.none_counted (sight k) s.walks.have_followed
holds k s waits_in_turn = turn_law.none_counted (sight k) s.walks.wait_in_turn
holds k s asks_others = s.walks.asks_others
holds k s users_counted = agree_none uses_of users_of kept_words words_quiet (things_of k) s.users.users_counted
holds k s one_answer = agree_none halves_to halves_needed answered_threads answers_quiet (things_of k) s.requests.one_answer
holds k s carry_what_is_asked = s.requests.carry_what_is_asked
holds k s go_right = s.requests.go_right
holds k s return_right = s.requests.return_right
holds k s askers_stand = s.requests.askers_stand
holds k s objects_there = s.requests.objects_there
holds k s phases_stand = s.requests.phases_stand
holds k s par_ends = s.requests.par_ends
holds k s pairs_noted = agree_none pair_notes pair_places branches branches_quiet (things_of k) s.requests.pairs_noted
holds k s pairs_go_on = s.requests.pairs_go_on
holds k s taken_stands = s.requests.taken_stands
holds k s taken_is_new = s.requests.taken_is_new
holds k s gifts_got = s.requests.gifts_got
holds k s gifts_fit = s.requests.gifts_fit
holds k s named_are_there = s.mutexes_and_tasks.named_are_there
holds k s at_their_home = s.mutexes_and_tasks.at_their_home
holds k s one_content = agree_none (contents (sight k)) is_home_of (held_mutexes (sight k)) (held_quiet (sight k)) (things_of k) s.mutexes_and_tasks.one_content
holds k s marks_in_slots = s.mutexes_and_tasks.marks_in_slots
holds k s shares_counted = agree_none shares_of shares_at_home shared_mutexes shares_quiet (things_of k) s.mutexes_and_tasks.shares_counted
holds k s queue_while_out = s.mutexes_and_tasks.queue_while_out
holds k s content_without_shares = s.mutexes_and_tasks.content_without_shares
holds k s thread_homes = s.mutexes_and_tasks.thread_homes
holds k s noted_go_on = agree_none going_notes goes_on started_threads started_quiet (things_of k) s.mutexes_and_tasks.noted_go_on
holds k s noted_at_home = s.mutexes_and_tasks.noted_at_home
holds k s one_task_value = one_none tasks_of tasks tasks_quiet (things_of k) s.mutexes_and_tasks.one_task_value
holds k s task_values_owed = agree_none tasks_of (owed (sight k)) (owed_threads (sight k)) (owed_quiet (sight k)) (things_of k) s.mutexes_and_tasks.task_values_owed
holds k s one_result = at_most_none (results (sight k)) has_ended (resulting (sight k)) (results_quiet (sight k)) (things_of k) s.mutexes_and_tasks.one_result
holds k s pairs_unnamed = s.mutexes_and_tasks.pairs_unnamed
holds k s over_are_bare = s.rooted.over_are_bare
holds k s none_owns_itself = nodes_none (ownings (sight k)) s.rooted.none_owns_itself
holds k s parents_end = numbers_none (parents (things_of k)) s.rooted.parents_end
holds k s branches_give_unit = s.rooted.branches_give_unit
holds k s numbers_differ = one_none is_thread numbers numbers_quiet (things_of k) s.names.numbers_differ
holds k s objects_made = s.names.objects_made
holds k s names_counted = s.names.names_counted
holds k s counts_from_one = s.names.counts_from_one
holds k s few_names = s.names.few_names
holds k s counts_bounded = s.names.counts_bounded
holds k s parts_are_typed = s.parts.parts_are_typed
holds k s options_in_range = s.parts.options_in_range
holds k s holders_short = s.parts.holders_short

-- ALL PARTS

abbrev up_to_one_owner : List Sentence
up_to_one_owner = one_home_sentences ++ one_owner_sentences

abbrev up_to_words : List Sentence
up_to_words = up_to_one_owner ++ words_sentences

abbrev up_to_copies : List Sentence
up_to_copies = up_to_words ++ copies_sentences

abbrev up_to_walks : List Sentence
up_to_walks = up_to_copies ++ walks_sentences

abbrev up_to_users : List Sentence
up_to_users = up_to_walks ++ users_sentences

abbrev up_to_requests : List Sentence
up_to_requests = up_to_users ++ requests_sentences

abbrev up_to_mutexes_and_tasks : List Sentence
up_to_mutexes_and_tasks = up_to_requests ++ mutexes_and_tasks_sentences

abbrev up_to_rooted : List Sentence
up_to_rooted = up_to_mutexes_and_tasks ++ rooted_sentences

abbrev up_to_names : List Sentence
up_to_names = up_to_rooted ++ names_sentences

sound_from : (k : Cluster) → None_of k all_sentences → IsSound k
sound_from k p =
    let p10 = first_part k up_to_names parts_sentences p in
    let p9 = first_part k up_to_rooted names_sentences p10 in
    let p8 = first_part k up_to_mutexes_and_tasks rooted_sentences p9 in
    let p7 = first_part k up_to_requests mutexes_and_tasks_sentences p8 in
    let p6 = first_part k up_to_users requests_sentences p7 in
    let p5 = first_part k up_to_walks users_sentences p6 in
    let p4 = first_part k up_to_copies walks_sentences p5 in
    let p3 = first_part k up_to_words copies_sentences p4 in
    let p2 = first_part k up_to_one_owner words_sentences p3 in
    let p1 = first_part k one_home_sentences one_owner_sentences p2 in
    record {
      one_home = one_home_from k p1;
      one_owner = one_owner_from k (rest_part k one_home_sentences one_owner_sentences p2);
      words = words_from k (rest_part k up_to_one_owner words_sentences p3);
      copies = copies_from k (rest_part k up_to_words copies_sentences p4);
      walks = walks_from k (rest_part k up_to_copies walks_sentences p5);
      users = users_from k (rest_part k up_to_walks users_sentences p6);
      requests = requests_from k (rest_part k up_to_users requests_sentences p7);
      mutexes_and_tasks = mutexes_and_tasks_from k (rest_part k up_to_requests mutexes_and_tasks_sentences p8);
      rooted = rooted_from k (rest_part k up_to_mutexes_and_tasks rooted_sentences p9);
      names = names_from k (rest_part k up_to_rooted names_sentences p10);
      parts = parts_from k (rest_part k up_to_names parts_sentences p);
    }

pub sound_law : SoundLaw
sound_law = record { sound = λ k z. sound_from k (none_of k all_sentences z); unbroken = λ k s. all_among k (holds k s) all_sentences }
