-- The start of a run is coherent: no server has anything but its counts, which are 0, and main at the first of them.
use Rattle.std.proofs.Common.{◌≡◌, ℕ, zero, suc, ◌+◌, ◌*◌, ◌==◌, ◌&&◌, nat_lt, ◌≤◌, Bool, true, false, List, [], ◌∷◌, ◌++◌, length, Option, Some, None, refl, sym, ap, ap₂, ◌∙◌, arith, nat_le, slice_get}
use Rattle.coherent_types.specs.Below.fr_base.declared.instruction.Instr.{Instr}
use Rattle.coherent_types.specs.Below.fr_base.declared.settings.Options.{Options}
use Rattle.coherent_types.specs.Below.server_model.Servers.{Cluster, start_of, main_thread, with_main, empty_server, empty_servers}
use Rattle.coherent_types.specs.Below.fr_base.declared.instruction.Instr.TheVariants as instr
use Rattle.coherent_types.specs.Below.fr_typing.Kinds.{Owned}
use Rattle.coherent_types.specs.Below.fr_code.CodeTypes.{Entry, Table, going, InstrTypes, i_par_end}
use Rattle.coherent_types.specs.Below.fr_code.CodeTable.{IsTable, Leads, to_next, Successors}
use Rattle.coherent_types.specs.Below.coherent_memory.Names.{tot, one, other, some, if_so}
use Rattle.coherent_types.specs.Below.coherent_memory.Things.{Location, Thing, counts, stands, servers_things, things_of}
use Rattle.coherent_types.specs.Below.coherent_memory.Follow.{Standing, Ground, threads_in, cells_in, ground_of}
use Rattle.coherent_types.specs.Below.coherent_memory.Stale.{references, stale_rounds}
use Rattle.coherent_types.specs.Below.coherent_memory.Sight.{Sight, sight, issued, pointers_in, dirty_objects, fresh_ones, with_stale, with_ground}
use Rattle.coherent_types.specs.Below.coherent_memory.Naming.{options_out, between, above, not_made, threads, named_mutexes, uncounted_thread, uncounted_mutex, started_at, zeroth_thread, zeroth_mutex, events_of, many_names, large_counts, is_retired, server_wrong, servers_wrong, long_holder}
use Rattle.coherent_types.specs.Below.fr_base.declared.place.Lval.{Lval}
use Rattle.coherent_types.specs.Below.thread_state.declared.value.Value.{Value}
use Rattle.coherent_types.specs.Below.global_addr.Words.{colour_of}
use Rattle.coherent_types.specs.Below.coherent_memory.Paths.{written_place}
use Rattle.coherent_types.specs.Below.coherent_memory.Placing.{sum_over, words, next_colours, other_spot, other_first, shared_words, not_alone, first_again, standing_in, other_copy, unclean}
use Rattle.coherent_types.specs.Below.coherent_memory.Walking.{sum_threads, instr_of, path, over_place, away, copied_box, stale_hop, hop_count, too_far, is_join, walks_at_join, own_request}
use Rattle.coherent_types.specs.Below.coherent_memory.Ranks.{Step, steps_of, endless}
use Rattle.coherent_types.specs.Below.coherent_memory.Weights.{cells, owners, states, uses_of, users_of, is_home_of, shares_of, shares_at_home, tasks_of, is_thread}
use Rattle.coherent_types.specs.Below.coherent_memory.Requests.{halves_to, halves_needed, carries, misrouted, lost, other_asker, not_there, pair_notes, pair_places, same_truth, is_par_end, par_end}
use Rattle.coherent_types.specs.Below.coherent_memory.Sharing.{mutexes, there_at, elsewhere, contents, loose_mark, queued_inside, kept_for_none, going_notes, goes_on, noted_away, owed, results}
use Rattle.coherent_types.specs.Below.coherent_memory.Rooted.{ownings, ownings_of, parents, parents_of, other_result}
use Rattle.coherent_types.specs.Below.coherent_memory.OneHeap.{same_node}
use Rattle.coherent_types.specs.Below.coherent_memory.Coherent.{Sentence, are_issued, below_limit, same_word, lead_home, first_at_holder, different_words, dirty_alone, firsts_are_past, copies_agree, served_are_clean, passed_lie_here, passed_not_copied, passed_not_stale, passed_in_a_walk, passed_within, walk_empty, join_walks_nothing, parcels_ready, place_followed, waits_in_turn, asks_others, carry_what_is_asked, go_right, return_right, askers_stand, objects_there, phases_stand, par_ends, pairs_go_on, taken_stands, taken_is_new, gifts_got, gifts_fit, named_are_there, at_their_home, marks_in_slots, queue_while_out, content_without_shares, thread_homes, noted_at_home, pairs_unnamed, over_are_bare, branches_give_unit, objects_made, names_counted, counts_from_one, few_names, counts_bounded, parts_are_typed, holders_short, breaches_in, Holds, OneHome, OneOwner, Words, Copies, Walks, Users, Requests, MutexesAndTasks, Rooted, Names, Parts, IsSound}
use Rattle.std.proofs.lemmas.Bool.{leb-true, eq-eqb}
use Rattle.std.proofs.lemmas.Bool.Decides.{nat_tests}
use Rattle.coherent_types.proofs.Below.coherent_memory.Names.{and_left}
use Rattle.coherent_types.proofs.Below.coherent_memory.Words.{words_law}
use Rattle.coherent_types.proofs.Below.coherent_memory.Dirty.{dirty_law}
use Rattle.coherent_types.proofs.Below.coherent_memory.Past.{past_law}
use Rattle.coherent_types.proofs.Below.coherent_memory.Passing.{passed_law}
use Rattle.coherent_types.proofs.Below.coherent_memory.Followed.{followed_law}
use Rattle.coherent_types.proofs.Below.coherent_memory.Turn.{turn_law}
use Rattle.coherent_types.proofs.Below.coherent_memory.Ranks.{node_ends, number_ends}
use Rattle.coherent_types.specs.Typed.{StartHasTypes}
use Rattle.law_runs_coherent.specs.starts.Starts.{StartsAreCoherent}

-- SERVERS WITHOUT A THREAD

module _ (o : Options) where
  abbrev tail : ℕ → ℕ → List Thing
  tail s n = servers_things (empty_servers o s n)

  no_threads : (s n : ℕ) → threads_in (tail s n) ≡ []
  no_threads s zero = refl
  no_threads s (suc n) = no_threads (s + 1) n

  no_cells : (s n : ℕ) → cells_in (tail s n) ≡ []
  no_cells s zero = refl
  no_cells s (suc n) = no_cells (s + 1) n

  no_references : (g : Ground) (s n : ℕ) → references g (tail s n) ≡ []
  no_references g s zero = refl
  no_references g s (suc n) = no_references g (s + 1) n

  no_pointers : (s n : ℕ) → pointers_in (tail s n) ≡ []
  no_pointers s zero = refl
  no_pointers s (suc n) = no_pointers (s + 1) n

  none_dirty : (s n : ℕ) → dirty_objects [] (tail s n) ≡ []
  none_dirty s zero = refl
  none_dirty s (suc n) = none_dirty (s + 1) n

  no_steps : {N : Type 0} (f : Thing → List (Step N)) → ((s : ℕ) → f (counts s 0 0 0 0 0) ≡ []) → (s n : ℕ) → steps_of f (tail s n) ≡ []
  no_steps f z s zero = refl
  no_steps f z s (suc n) = rw (z s) (no_steps f z (s + 1) n)

  none_standing : (s n : ℕ) → standing_in (tail s n) ≡ []
  none_standing s zero = refl
  none_standing s (suc n) = none_standing (s + 1) n

  no_sum : (f : Thing → ℕ) → ((s : ℕ) → f (counts s 0 0 0 0 0) ≡ 0) → (s n : ℕ) → tot f (tail s n) ≡ 0
  no_sum f z s zero = refl
  no_sum f z s (suc n) = omega (arith, z s, no_sum f z (s + 1) n)

same : (b : Bool) → b ≡ true → other b ≡ 0
same b e = ap other e

none_missing : (m : ℕ) → other (some (suc m)) ≡ 0
none_missing m = refl

-- what is typed as the end of a pair stands between a par and its end
forks : {table : Table} {x y : Entry} {i : Instr} → InstrTypes table x i y → i ≡ instr.ParEnd → x.forked ≡ true
forks i_par_end e = refl
forks t e = absurd (cc e)

-- an instruction that is typed before a thread has forked is no end of a pair
leads_on : {table : Table} {pc : ℕ} {g : Owned} {ss : Successors} (i : Instr) → Leads table pc (going [] [] g) i ss → is_par_end (Some i) ≡ false
leads_on (instr.Let o) l = refl
leads_on (instr.Assign w o) l = refl
leads_on (instr.Read w b) l = refl
leads_on (instr.Borrow w) l = refl
leads_on (instr.BorrowMut w) l = refl
leads_on (instr.Box o) l = refl
leads_on (instr.Arith f a b) l = refl
leads_on (instr.Print o) l = refl
leads_on instr.Discard l = refl
leads_on instr.DropSlot l = refl
leads_on (instr.Spawn cs b) l = refl
leads_on (instr.Join o) l = refl
leads_on (instr.Mutex o) l = refl
leads_on (instr.Dup w) l = refl
leads_on (instr.Lock w) l = refl
leads_on instr.Unlock l = refl
leads_on (instr.Par cs b ds c) l = refl
leads_on instr.ParEnd (to_next t) = absurd (not_forked t)
  where
    not_forked : {table : Table} {g : Owned} {y : Entry} → InstrTypes table (going [] [] g) instr.ParEnd y → ⊥
    not_forked t = absurd (cc (forks t refl))
leads_on (instr.End o) l = refl

never_above : (m : ℕ) → above m 0 ≡ 0
never_above m = let least : nat_le 0 m ≡ true = grind (arith, nat_tests) in ap other least

twice : (m : ℕ) → above m 0 + above m 0 ≡ 0
twice m = omega (arith, never_above m)

both : {m n : ℕ} → m ≡ 0 → n ≡ 0 → m + n ≡ 0
both e f = omega (arith, e, f)

never : (b : Bool) → one (b && false) ≡ 0
never true = refl
never false = refl

over_none : (g : Ground) (t : ℕ) (f : Option Location → Option Value → ℕ) (w : Option Lval) → over_place g t 0 f w ≡ 0
over_none g t f None = refl
over_none g t f (Some w) = refl

not_both : (b : Bool) (m : ℕ) → if_so (b && false) m ≡ 0
not_both true m = refl
not_both false m = refl

of_nothing : (b : Bool) → if_so b 0 ≡ 0
of_nothing true = refl
of_nothing false = refl

at_most_one : {m : ℕ} (b : Bool) → m ≡ one b → m ≤ 1
at_most_one true e = omega (arith, e)
at_most_one false e = omega (arith, e)

-- THE START

module _ (code : List Instr) (table : Table) (is : IsTable code table) (o : Options) (n : ℕ) (range : options_out o ≡ 0) (many : o.servers ≡ suc n) where
  abbrev start : Cluster
  start = record { code = code; options = o; servers = with_main (empty_servers o 0 (suc n)) }

  abbrev main : Standing
  main = record { server = 0; packed = false; thread = main_thread }

  -- what the start shows: main, and no pointer
  abbrev shown : Sight
  shown = record { code = code; options = o; things = things_of start; ground = record { threads = main ∷ []; cells = [] }; stale = []; pointers = []; dirty = [] }

  ground_shown : ground_of (things_of start) ≡ shown.ground
  ground_shown = ap₂ (λ ts cs. record { threads = main ∷ ts; cells = cs }) (no_threads o 1 n) (no_cells o 1 n)

  none_borrowed : references shown.ground shown.things ≡ []
  none_borrowed = no_references o shown.ground 1 n

  seen : sight start ≡ shown
  seen =
      ap (with_ground start shown.things) ground_shown
      ∙ ap (λ rs. with_stale start shown.things shown.ground (stale_rounds (length rs) [] rs)) none_borrowed
      ∙ ap₂ (λ ps ds. record shown { pointers = ps; dirty = ds }) (ap (λ ps. fresh_ones [] (ps ++ [])) (no_pointers o 1 n)) (none_dirty o 1 n)

  -- a sum over things is main's, as no count is above 0
  sum : (f : Thing → ℕ) → ((s : ℕ) → f (counts s 0 0 0 0 0) ≡ 0) → f (stands 0 false main_thread) ≡ 0 → tot f shown.things ≡ 0
  sum f z m = omega (arith, z 0, m, no_sum o f z 1 n)

  -- the sum is what main shows
  main_alone : (f : Thing → ℕ) → ((s : ℕ) → f (counts s 0 0 0 0 0) ≡ 0) → tot f shown.things ≡ f (stands 0 false main_thread)
  main_alone f z = omega (arith, z 0, no_sum o f z 1 n)

  -- what breaks a sentence, where nothing of what the start shows does
  holds : (s : Sentence) → breaches_in start shown s ≡ 0 → Holds start s
  holds s z = ap (λ x. breaches_in start x s) seen ∙ z

  -- a sum over threads is main's
  main_only : (f : Standing → ℕ) → f main ≡ 0 → sum_threads shown f ≡ 0
  main_only f z = omega (arith, z)

  none_passed : (f : Option Location → Option Value → ℕ) → over_place shown.ground 0 0 f (written_place (path shown main)) + 0 ≡ 0
  none_passed f = both (over_none shown.ground 0 f (written_place (path shown main))) refl

  -- main's number was given, as server 0 has started no fewer than no threads
  main_counted : uncounted_thread shown 0 + 0 ≡ 0
  main_counted =
      let there : sum_over shown (started_at 0 0) ≡ suc (tot (started_at 0 0) (tail o 1 n)) = omega arith in
      both (ap (λ m. other (some m)) there ∙ none_missing (tot (started_at 0 0) (tail o 1 n))) refl

  -- each server has its number, and nothing but counts
  empty_rest : (s m : ℕ) → s + m ≡ o.servers → servers_wrong shown s (empty_servers o s m) ≡ 0
  empty_rest s zero e = same (s == o.servers) (eq-eqb s o.servers (omega (arith, e)))
  empty_rest s (suc m) e =
      let itself : other (s == s) ≡ 0 = same (s == s) (eq-eqb s s refl) in
      let limit : other (o.colours == o.colours) ≡ 0 = same (o.colours == o.colours) (eq-eqb o.colours o.colours refl) in
      let none_retired : other (sum_over shown (is_retired s) == 0) ≡ 0 = same (sum_over shown (is_retired s) == 0) (eq-eqb (sum_over shown (is_retired s)) 0 (sum (is_retired s) (λ r. refl) refl)) in
      omega (arith, itself, limit, none_retired, empty_rest (s + 1) m (omega (arith, e)))

  first_server : server_wrong shown 0 (record (empty_server o 0) { threads = main_thread ∷ [] }) ≡ 0
  first_server =
      let limit : other (o.colours == o.colours) ≡ 0 = same (o.colours == o.colours) (eq-eqb o.colours o.colours refl) in
      let none_retired : other (sum_over shown (is_retired 0) == 0) ≡ 0 = same (sum_over shown (is_retired 0) == 0) (eq-eqb (sum_over shown (is_retired 0)) 0 (sum (is_retired 0) (λ r. refl) refl)) in
      omega (arith, limit, none_retired)

  -- main isn't at the end of a pair
  no_par_end : is_par_end (slice_get code 0) ≡ false
  no_par_end = let row = is.rows 0 (going [] [] is.main) is.starts in ap is_par_end row.there ∙ leads_on row.instruction row.leads

  -- EACH PART

  one_home : OneHome start
  one_home = record { home_of_each = λ p. let e = sum (cells p) (λ s. refl) refl in omega (arith, e) }

  one_owner : OneOwner start
  one_owner = record { owner_of_each = λ p. sum (owners p) (λ s. refl) refl ∙ sym (sum (cells p) (λ s. refl) refl) }

  words_hold : Words start
  words_hold = record {
    are_issued = holds are_issued (sum (words (λ w. other (issued shown w))) (λ s. refl) refl);
    below_limit = holds below_limit (both (sum (words (λ w. other (nat_lt (colour_of w) o.colours))) (λ s. refl) refl) (sum (next_colours o.colours) (λ s. refl) refl));
    have_words = words_law.from_counts start (holds same_word refl) (holds lead_home (sum (other_spot shown) (λ s. refl) refl));
    one_state = λ a. let e = sum (states a) (λ s. refl) refl in omega (arith, e);
    first_at_holder = holds first_at_holder (ap (tot (other_first shown.ground)) none_borrowed);
    different_words = holds different_words (sum (shared_words shown) (λ s. refl) refl);
    dirty_alone = dirty_law.from_count start (holds dirty_alone (ap (λ rs. tot (not_alone shown rs) rs) none_borrowed));
    past_words = past_law.from_count start (holds firsts_are_past (ap (tot (first_again shown.pointers)) none_borrowed));
  }

  copies : Copies start
  copies = record {
    copies_agree = holds copies_agree (sum (other_copy shown) (λ s. refl) refl);
    served_are_clean = holds served_are_clean (sum (unclean shown) (λ s. refl) refl);
  }

  walks : Walks start
  walks = record {
    have_passed = passed_law.from_counts start (holds passed_lie_here (none_passed (away shown 0))) (holds passed_not_copied (none_passed (copied_box shown 0))) (holds passed_not_stale (none_passed (stale_hop shown 0)));
    passed_in_a_walk = holds passed_in_a_walk refl;
    passed_within = holds passed_within (main_only (too_far shown) (never_above (hop_count (written_place (path shown main)))));
    walk_empty = holds walk_empty refl;
    join_walks_nothing = holds join_walks_nothing (main_only (walks_at_join shown) (of_nothing (is_join (instr_of shown main))));
    parcels_ready = holds parcels_ready refl;
    have_followed = followed_law.from_counts (sight start) (holds place_followed refl);
    wait_in_turn = turn_law.from_count (sight start) (holds waits_in_turn refl);
    asks_others = holds asks_others (sum own_request (λ s. refl) refl);
  }

  users : Users start
  users = record { users_counted = λ w. sum (uses_of w) (λ s. refl) refl ∙ sym (sum (users_of w) (λ s. refl) refl) }

  requests : Requests start
  requests = record {
    one_answer = λ h. sum (halves_to h) (λ s. refl) refl ∙ sym (sum (halves_needed h) (λ s. refl) (not_both (0 == h) 2));
    carry_what_is_asked = holds carry_what_is_asked (sum (carries shown) (λ s. refl) refl);
    go_right = holds go_right (sum (misrouted shown) (λ s. refl) refl);
    return_right = holds return_right (sum (lost shown) (λ s. refl) refl);
    askers_stand = holds askers_stand (sum (other_asker shown) (λ s. refl) refl);
    objects_there = holds objects_there (sum (not_there shown) (λ s. refl) refl);
    phases_stand = holds phases_stand refl;
    par_ends = holds par_ends (main_only (par_end shown) (ap (λ b. other (same_truth b false)) no_par_end));
    pairs_noted = λ b. sum (pair_notes b) (λ s. refl) refl ∙ sym (sum (pair_places b) (λ s. refl) (of_nothing (0 == b.server && 0 == b.parent)));
    pairs_go_on = holds pairs_go_on refl;
    taken_stands = holds taken_stands refl;
    taken_is_new = holds taken_is_new refl;
    gifts_got = holds gifts_got refl;
    gifts_fit = holds gifts_fit refl;
  }

  mutexes_and_tasks : MutexesAndTasks start
  mutexes_and_tasks = record {
    named_are_there = holds named_are_there (sum (mutexes (λ m. other (some (sum_over shown (there_at m.home m))))) (λ s. refl) refl);
    at_their_home = holds at_their_home (sum elsewhere (λ s. refl) refl);
    one_content = λ m. sum (contents (sight start) m) (λ s. refl) refl ∙ sym (sum (is_home_of m) (λ s. refl) refl);
    marks_in_slots = holds marks_in_slots (sum loose_mark (λ s. refl) refl);
    shares_counted = λ m. sum (shares_of m) (λ s. refl) refl ∙ sym (sum (shares_at_home m) (λ s. refl) refl);
    queue_while_out = holds queue_while_out (sum queued_inside (λ s. refl) refl);
    content_without_shares = holds content_without_shares (sum kept_for_none (λ s. refl) refl);
    thread_homes = holds thread_homes refl;
    noted_go_on = λ t. sum (going_notes t) (λ s. refl) refl ∙ sym (sum (goes_on t) (λ s. refl) (never (0 == t)));
    noted_at_home = holds noted_at_home (sum noted_away (λ s. refl) refl);
    one_task_value = λ t. let e = sum (tasks_of t) (λ s. refl) refl in omega (arith, e);
    task_values_owed = λ t. sum (tasks_of t) (λ s. refl) refl ∙ sym (sum (owed (sight start) t) (λ s. refl) refl);
    one_result = λ t. let e = sum (results (sight start) t) (λ s. refl) refl in omega (arith, e);
    pairs_unnamed = holds pairs_unnamed refl;
  }

  rooted : Rooted start
  rooted = record {
    over_are_bare = holds over_are_bare refl;
    none_owns_itself = node_ends (ownings (sight start)) (ap (endless same_node) (no_steps o (ownings_of (sight start)) (λ s. refl) 1 n));
    parents_end = number_ends (parents (things_of start)) (ap (endless (λ t u. t == u)) (no_steps o parents_of (λ s. refl) 1 n));
    branches_give_unit = holds branches_give_unit (sum (other_result shown) (λ s. refl) refl);
  }

  names : Names start
  names = record {
    numbers_differ = λ t. at_most_one (0 == t) (main_alone (is_thread t) (λ s. refl));
    objects_made = holds objects_made (sum (not_made shown) (λ s. refl) refl);
    names_counted = holds names_counted (both (sum (threads (uncounted_thread shown)) (λ s. refl) main_counted) (sum (named_mutexes (uncounted_mutex shown)) (λ s. refl) refl));
    counts_from_one = holds counts_from_one (both (sum (threads zeroth_thread) (λ s. refl) refl) (sum (named_mutexes zeroth_mutex) (λ s. refl) refl));
    few_names = holds few_names (sum (many_names (events_of shown)) (λ s. twice (2 * events_of shown)) (never_above (2 * events_of shown)));
    counts_bounded = holds counts_bounded (sum (large_counts (events_of shown)) (λ s. twice (16 * events_of shown)) refl);
  }

  parts : Parts start
  parts = record {
    parts_are_typed = holds parts_are_typed (both (both first_server (empty_rest 1 n (omega (arith, many)))) refl);
    options_in_range = range;
    holders_short = holds holders_short (sum long_holder (λ s. refl) refl);
  }

  sound : IsSound start
  sound = record {
    one_home = one_home;
    one_owner = one_owner;
    words = words_hold;
    copies = copies;
    walks = walks;
    users = users;
    requests = requests;
    mutexes_and_tasks = mutexes_and_tasks;
    rooted = rooted;
    names = names;
    parts = parts;
  }

-- a run has a server
some_server : (o : Options) → options_out o ≡ 0 → 1 ≤ o.servers
some_server o z = by (nat_le 1 o.servers && nat_le o.servers 64) refl
  where
    by : (b : Bool) → (nat_le 1 o.servers && nat_le o.servers 64) ≡ b → 1 ≤ o.servers
    by true e = leb-true 1 o.servers (and_left (nat_le 1 o.servers) (nat_le o.servers 64) e)
    by false e = let one_out : between 1 64 o.servers ≡ 1 = ap other e in absurd (omega (arith, one_out, z))

-- however many servers there are
sound_start : (code : List Instr) (table : Table) (o : Options) → IsTable code table → options_out o ≡ 0 → IsSound (start_of code o)
sound_start code table o is range = by o.servers refl (some_server o range)
  where
    by : (n : ℕ) → o.servers ≡ n → 1 ≤ n → IsSound (record { code = code; options = o; servers = with_main (empty_servers o 0 n) })
    by zero e l = absurd (omega (arith, l))
    by (suc n) e l = sound code table is o n range e

pub starts_are_coherent : StartHasTypes → StartsAreCoherent
starts_are_coherent typed code table o is range = record {
  sound = sound_start code table o is range;
  types = typed code table o is (some_server o range);
}
