-- A cluster is sound where one with the same things is.
use Rattle.std.proofs.Common.{◌≡◌, ◌<◌, ℕ, ◌+◌, ap₂, List, [], ◌∷◌, ◌++◌, inl, inr, refl, sym, ap, subst, ◌∙◌, arith}
use Rattle.law_runs_rounds.specs.Below.law_runs_coherent.Below.server_model.Servers.{Server, Cluster}
use Rattle.law_runs_rounds.specs.Below.law_runs_coherent.Below.coherent_memory.Names.{Among}
use Rattle.law_runs_rounds.specs.Below.law_runs_coherent.Below.coherent_memory.Things.{servers_things, things_of}
use Rattle.law_runs_rounds.specs.Below.law_runs_coherent.Below.coherent_memory.Sight.{sight}
use Rattle.law_runs_rounds.specs.Below.law_runs_coherent.Below.coherent_memory.Ranks.{Step, steps_of, Falls, Ends}
use Rattle.law_runs_rounds.specs.Below.law_runs_coherent.Below.coherent_memory.Rooted.{ownings_of, parents_of}
use Rattle.law_runs_rounds.specs.Below.law_runs_coherent.Below.coherent_memory.Placing.{same_word_wrong, homeward_wrong}
use Rattle.law_runs_rounds.specs.Below.law_runs_coherent.Below.coherent_memory.Walking.{passed_wrong, passed_boxes_wrong, passed_stale_wrong}
use Rattle.law_runs_rounds.specs.Below.law_runs_coherent.Below.coherent_memory.Coherent.{OneHome, OneOwner, Words, Copies, Walks, Users, Requests, MutexesAndTasks, Rooted, Names, Parts, IsSound}
use Rattle.law_runs_rounds.specs.Below.law_runs_coherent.Below.coherent_memory.Weights.{cells, owners, states, below, uses_of, users_of, is_home_of, shares_of, shares_at_home, tasks_of, is_thread}
use Rattle.law_runs_rounds.specs.Below.law_runs_coherent.Below.coherent_memory.Requests.{halves_to, halves_needed, pair_notes, pair_places}
use Rattle.law_runs_rounds.specs.Below.law_runs_coherent.Below.coherent_memory.Sharing.{going_notes, goes_on, owed, results, has_ended}
use Rattle.law_runs_rounds.proofs.Below.law_runs_coherent.Below.coherent_memory.Names.{left_none, right_none}
use Rattle.law_runs_rounds.proofs.Below.law_runs_coherent.Below.coherent_memory.Words.{words_law}
use Rattle.law_runs_rounds.proofs.Below.law_runs_coherent.Below.coherent_memory.Dirty.{dirty_law}
use Rattle.law_runs_rounds.proofs.Below.law_runs_coherent.Below.coherent_memory.Past.{past_law}
use Rattle.law_runs_rounds.proofs.Below.law_runs_coherent.Below.coherent_memory.Passing.{passed_law}
use Rattle.law_runs_rounds.proofs.Below.law_runs_coherent.Below.coherent_memory.Followed.{followed_law}
use Rattle.law_runs_rounds.proofs.Below.law_runs_coherent.Below.coherent_memory.Turn.{turn_law}
use Rattle.law_runs_order.specs.things.Laws.{SoundWithSameThings}
use Rattle.law_runs_order.specs.things.SameThings.{Reordered, AreSameBeside, HasSameThings}
use Rattle.law_runs_order.proofs.things.Reordered.{gathered}
use Rattle.law_runs_order.proofs.things.Sights.{Apart, threads_there, reordered_by}
use Rattle.law_runs_order.proofs.things.Memory.{colours_same, first_same, dirty_same, again_wrong_same, issued_wrong_same, same_word_same, homeward_same, different_same, copies_same, served_same}
use Rattle.law_runs_order.proofs.things.Walks.{passed_same, passed_boxes_same, passed_stale_same, followed_wrong_same, turn_same}
use Rattle.law_runs_order.proofs.things.Asked.{carried_same, returns_same, askers_same, phases_same, waited_pairs_same, taken_words_same, gifts_same, objects_same, taken_same}
use Rattle.law_runs_order.proofs.things.Parts.{named_same, contents_same, got_pairs_same, owning_same, branches_same, made_same, counted_same, names_count_same, large_same, servers_same}

-- STEPS IN ANOTHER ORDER

steps_gathered : {A N : Type 0} (f : A → List (Step N)) (xs : List A) → steps_of f xs ≡ gathered f xs
steps_gathered f [] = refl
steps_gathered f (x ∷ xs) = ap (λ l. f x ++ l) (steps_gathered f xs)

falls_at : {N : Type 0} (rank : N → ℕ) (e : Step N) (es : List (Step N)) → Falls rank es → Among e es → rank e.to < rank e.from
falls_at rank e [] f h = absurd h
falls_at rank e (d ∷ es) f (inl q) = subst (λ (c : Step _). rank c.to < rank c.from) q f.0
falls_at rank e (d ∷ es) f (inr h) = falls_at rank e es f.1 h

falls_all : {N : Type 0} (rank : N → ℕ) (es : List (Step N)) → ((e : Step N) → Among e es → rank e.to < rank e.from) → Falls rank es
falls_all rank [] f = tt
falls_all rank (e ∷ es) f = (f e (inl refl), falls_all rank es (λ d h. f d (inr h)))

ends_too : {N : Type 0} (es ds : List (Step N)) → Reordered es ds → Ends ds → Ends es
ends_too es ds r h = record { rank = h.rank; falls = falls_all h.rank es (λ e m. falls_at h.rank e ds h.falls (r.to e m)) }

steps_too : {A N : Type 0} (f g : A → List (Step N)) → ((x : A) → f x ≡ g x) → (xs ys : List A) → Reordered xs ys → Ends (steps_of g ys) → Ends (steps_of f xs)
steps_too f g e xs ys r h =
    subst Ends (sym (steps_gathered f xs)) (ends_too (gathered f xs) (gathered g ys) (reordered_by f g e xs ys r) (subst Ends (steps_gathered g ys) h))

-- ALL PARTS

module _ (k : Cluster) (servers : List Server) (same : AreSameBeside k.servers servers) (r : Reordered (things_of k) (servers_things servers)) (h : IsSound (record k { servers = servers })) where
  abbrev z : Cluster
  z = record k { servers = servers }

  once : Apart (servers_things servers)
  once = record { threads = h.names.numbers_differ; cells = h.one_home.home_of_each }

  worded : same_word_wrong (sight z) ≡ 0
  worded = left_none (same_word_wrong (sight z)) (homeward_wrong (sight z)) (words_law.none_counted z h.words.have_words)

  led : homeward_wrong (sight z) ≡ 0
  led = right_none (same_word_wrong (sight z)) (homeward_wrong (sight z)) (words_law.none_counted z h.words.have_words)

  passed : passed_wrong (sight z) + passed_boxes_wrong (sight z) + passed_stale_wrong (sight z) ≡ 0
  passed = passed_law.none_counted z h.walks.have_passed

  one_home : OneHome k
  one_home = record { home_of_each = λ o. omega (arith, r.sums (cells o), h.one_home.home_of_each o) }

  one_owner : OneOwner k
  one_owner = record { owner_of_each = λ o. r.sums (owners o) ∙ h.one_owner.owner_of_each o ∙ sym (r.sums (cells o)) }

  words : Words k
  words = record {
    are_issued = issued_wrong_same k servers r once worded ∙ h.words.are_issued;
    below_limit = colours_same k servers r once ∙ h.words.below_limit;
    have_words = words_law.from_counts k (same_word_same k servers r once worded ∙ worded) (homeward_same k servers r once worded ∙ led);
    one_state = λ i. omega (arith, r.sums (states i), r.sums (below i), h.words.one_state i);
    first_at_holder = first_same k servers r once ∙ h.words.first_at_holder;
    different_words = different_same k servers r once worded ∙ h.words.different_words;
    dirty_alone = dirty_law.from_count k (dirty_same k servers r once ∙ dirty_law.none_counted z h.words.dirty_alone);
    past_words = past_law.from_count k (again_wrong_same k servers r once ∙ past_law.none_counted z h.words.past_words);
  }

  copies : Copies k
  copies = record {
    copies_agree = copies_same k servers r once worded h.words.different_words ∙ h.copies.copies_agree;
    served_are_clean = served_same k servers r once worded h.words.different_words ∙ h.copies.served_are_clean;
  }

  walks : Walks k
  walks = record {
    have_passed = passed_law.from_counts k (passed_same k servers r once ∙ left_none (passed_wrong (sight z)) (passed_boxes_wrong (sight z)) (left_none (passed_wrong (sight z) + passed_boxes_wrong (sight z)) (passed_stale_wrong (sight z)) passed))
        (passed_boxes_same k servers r once ∙ right_none (passed_wrong (sight z)) (passed_boxes_wrong (sight z)) (left_none (passed_wrong (sight z) + passed_boxes_wrong (sight z)) (passed_stale_wrong (sight z)) passed))
        (passed_stale_same k servers r once ∙ right_none (passed_wrong (sight z) + passed_boxes_wrong (sight z)) (passed_stale_wrong (sight z)) passed);
    passed_in_a_walk = (threads_there k servers r once).sums _ ∙ h.walks.passed_in_a_walk;
    passed_within = (threads_there k servers r once).sums _ ∙ h.walks.passed_within;
    walk_empty = (threads_there k servers r once).sums _ ∙ h.walks.walk_empty;
    join_walks_nothing = (threads_there k servers r once).sums _ ∙ h.walks.join_walks_nothing;
    parcels_ready = (threads_there k servers r once).sums _ ∙ h.walks.parcels_ready;
    have_followed = followed_law.from_counts (sight k) (followed_wrong_same k servers r once ∙ followed_law.none_counted (sight z) h.walks.have_followed);
    wait_in_turn = turn_law.from_count (sight k) (turn_same k servers r once ∙ turn_law.none_counted (sight z) h.walks.wait_in_turn);
    asks_others = r.sums _ ∙ h.walks.asks_others;
  }

  users : Users k
  users = record { users_counted = λ i. r.sums (uses_of i) ∙ h.users.users_counted i ∙ sym (r.sums (users_of i)) }

  requests : Requests k
  requests = record {
    one_answer = λ n. r.sums (halves_to n) ∙ h.requests.one_answer n ∙ sym (r.sums (halves_needed n));
    carry_what_is_asked = carried_same k servers r once ∙ h.requests.carry_what_is_asked;
    go_right = r.sums _ ∙ h.requests.go_right;
    return_right = returns_same k servers r once ∙ h.requests.return_right;
    askers_stand = askers_same k servers r once ∙ h.requests.askers_stand;
    objects_there = objects_same k servers r once worded ∙ h.requests.objects_there;
    phases_stand = phases_same k servers r once ∙ h.requests.phases_stand;
    par_ends = (threads_there k servers r once).sums _ ∙ h.requests.par_ends;
    pairs_noted = λ b. r.sums (pair_notes b) ∙ h.requests.pairs_noted b ∙ sym (r.sums (pair_places b));
    pairs_go_on = waited_pairs_same k servers r once ∙ h.requests.pairs_go_on;
    taken_stands = taken_same k servers r once worded ∙ h.requests.taken_stands;
    taken_is_new = taken_words_same k servers r once ∙ h.requests.taken_is_new;
    gifts_got = (threads_there k servers r once).sums _ ∙ h.requests.gifts_got;
    gifts_fit = gifts_same k servers r once ∙ h.requests.gifts_fit;
  }

  mutexes_and_tasks : MutexesAndTasks k
  mutexes_and_tasks = record {
    named_are_there = named_same k servers r once ∙ h.mutexes_and_tasks.named_are_there;
    at_their_home = r.sums _ ∙ h.mutexes_and_tasks.at_their_home;
    one_content = λ m. contents_same k servers r once m ∙ h.mutexes_and_tasks.one_content m ∙ sym (r.sums (is_home_of m));
    marks_in_slots = r.sums _ ∙ h.mutexes_and_tasks.marks_in_slots;
    shares_counted = λ m. r.sums (shares_of m) ∙ h.mutexes_and_tasks.shares_counted m ∙ sym (r.sums (shares_at_home m));
    queue_while_out = r.sums _ ∙ h.mutexes_and_tasks.queue_while_out;
    content_without_shares = r.sums _ ∙ h.mutexes_and_tasks.content_without_shares;
    thread_homes = (threads_there k servers r once).sums _ ∙ h.mutexes_and_tasks.thread_homes;
    noted_go_on = λ n. r.sums (going_notes n) ∙ h.mutexes_and_tasks.noted_go_on n ∙ sym (r.sums (goes_on n));
    noted_at_home = r.sums _ ∙ h.mutexes_and_tasks.noted_at_home;
    one_task_value = λ n. omega (arith, r.sums (tasks_of n), h.mutexes_and_tasks.one_task_value n);
    task_values_owed = λ n. r.sums (tasks_of n) ∙ h.mutexes_and_tasks.task_values_owed n ∙ sym (r.sums (owed (sight z) n));
    one_result = λ n. omega (arith, r.sums (results (sight z) n), r.sums (has_ended n), h.mutexes_and_tasks.one_result n);
    pairs_unnamed = got_pairs_same k servers r once ∙ h.mutexes_and_tasks.pairs_unnamed;
  }

  rooted : Rooted k
  rooted = record {
    over_are_bare = (threads_there k servers r once).sums _ ∙ h.rooted.over_are_bare;
    none_owns_itself = steps_too (ownings_of (sight k)) (ownings_of (sight z)) (owning_same k servers r once) (things_of k) (servers_things servers) r h.rooted.none_owns_itself;
    parents_end = steps_too parents_of parents_of (λ x. refl) (things_of k) (servers_things servers) r h.rooted.parents_end;
    branches_give_unit = branches_same k servers r once ∙ h.rooted.branches_give_unit;
  }

  names : Names k
  names = record {
    numbers_differ = λ n. omega (arith, r.sums (is_thread n), h.names.numbers_differ n);
    objects_made = made_same k servers r once ∙ h.names.objects_made;
    names_counted = counted_same k servers r once ∙ h.names.names_counted;
    counts_from_one = ap₂ (λ m n. m + n) (r.sums _) (r.sums _) ∙ h.names.counts_from_one;
    few_names = names_count_same k servers r once ∙ h.names.few_names;
    counts_bounded = large_same k servers r once ∙ h.names.counts_bounded;
  }

  parts : Parts k
  parts = record {
    parts_are_typed = ap₂ (λ m n. m + n) (servers_same k servers r once 0 k.servers servers same) ((threads_there k servers r once).sums _) ∙ h.parts.parts_are_typed;
    options_in_range = h.parts.options_in_range;
    holders_short = r.sums _ ∙ h.parts.holders_short;
  }

  pub sound_too : IsSound k
  sound_too = record {
    one_home = one_home;
    one_owner = one_owner;
    words = words;
    copies = copies;
    walks = walks;
    users = users;
    requests = requests;
    mutexes_and_tasks = mutexes_and_tasks;
    rooted = rooted;
    names = names;
    parts = parts;
  }

-- the other cluster, as this one with other servers
pub with_servers : (k z : Cluster) → HasSameThings k z → z ≡ record k { servers = z.servers }
with_servers k z same = ap₂ (λ c o. (let y : Cluster = record z { code = c; options = o } in y)) same.code same.options

pub sound_with_same_things : SoundWithSameThings
sound_with_same_things k z same h = sound_too k z.servers same.servers same.things (subst IsSound (with_servers k z same) h)
