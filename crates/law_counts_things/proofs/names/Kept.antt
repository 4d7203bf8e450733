-- From a sound cluster an event leaves no name that doesn't fit, once its messages are handed over.
use Rattle.std.proofs.Common.{◌≡◌, ℕ, suc, ◌+◌, ◌*◌, ◌^◌, ◌<◌, ◌≤◌, ◌==◌, ◌&&◌, not, nat_lt, nat_le, Bool, true, false, List, [], ◌∷◌, Option, Some, None, refl, sym, ap, subst, ◌∙◌, arith}
use Rattle.std.specs.Prelude.{slice_get, option_map}
use Rattle.std.proofs.lemmas.Bool.{eq-eqb}
use Rattle.std.proofs.lemmas.Bool.Decides.{nat_tests}
use Rattle.law_counts_things.specs.Below.fr_base.declared.name.MutexNo.{MutexNo}
use Rattle.law_counts_things.specs.Below.fr_base.declared.name.ObjNo.{ObjNo}
use Rattle.law_counts_things.specs.Below.fr_base.declared.place.Lval.{Lval}
use Rattle.law_counts_things.specs.Below.fr_base.declared.instruction.Instr.{Instr}
use Rattle.law_counts_things.specs.Below.fr_base.declared.instruction.Instr.TheVariants as instr
use Rattle.law_counts_things.specs.Below.fr_base.declared.instruction.Operand.{Operand}
use Rattle.law_counts_things.specs.Below.global_addr.Words.{colour_of}
use Rattle.law_counts_things.specs.Below.heap_partition.declared.value.BoxPtr.{BoxPtr}
use Rattle.law_counts_things.specs.Below.heap_partition.declared.value.Cell.{Cell}
use Rattle.law_counts_things.specs.Below.thread_state.View.{ThreadState}
use Rattle.law_counts_things.specs.Below.thread_state.declared.value.Value.{Value}
use Rattle.law_counts_things.specs.Below.journal.View.{EntryView}
use Rattle.law_counts_things.specs.Below.server_msgs.declared.message.Message.TheVariants.{Fetch}
use Rattle.law_counts_things.specs.Below.server_model.declared.event.Event.{Event}
use Rattle.law_counts_things.specs.Below.server_model.declared.event.What.TheVariants.{Step}
use Rattle.law_counts_things.specs.Below.server_model.Servers.{Server, Cluster, server_at}
use Rattle.law_counts_things.specs.Below.server_model.Work.{set_thread, Hand, thread_in, then_some, look_object}
use Rattle.law_counts_things.specs.Below.server_model.Places.{Spot, value_at}
use Rattle.law_counts_things.specs.Below.server_model.Prepare.{ready, access_of, prepare}
use Rattle.law_counts_things.specs.Below.server_model.Events.{enabled, does}
use Rattle.law_counts_things.specs.Below.server_model.Clusters.{with_server, done_at, apply}
use Rattle.law_counts_things.specs.Below.coherent_memory.Names.{tot, one, other, some}
use Rattle.law_counts_things.specs.Below.coherent_memory.Things.{Thing, stands, servers_things, things_of}
use Rattle.law_counts_things.specs.Below.coherent_memory.Follow.{Standing}
use Rattle.law_counts_things.specs.Below.coherent_memory.Sight.{sight}
use Rattle.law_counts_things.specs.Below.coherent_memory.Walking.{sum_threads}
use Rattle.law_counts_things.specs.Below.coherent_memory.Placing.{words, next_colours}
use Rattle.law_counts_things.specs.Below.coherent_memory.Requests.{home_of}
use Rattle.law_counts_things.specs.Below.coherent_memory.Naming.{threads, named_mutexes, count_of, started_at, made_at, uncounted_thread, uncounted_mutex, zeroth_thread, zeroth_mutex, event_count, events_of, above, many_names, servers_wrong, pinned_parcel, options_out}
use Rattle.law_counts_things.specs.Below.coherent_memory.Coherent.{IsSound}
use Rattle.law_counts_things.proofs.Below.coherent_memory.Names.{and_left}
use Rattle.law_counts_things.specs.Below.law_counts_sums.Laws.{Gives, FewEvents}
use Rattle.law_counts_things.proofs.Below.law_counts_sums.Results.{over_gives, both_give, test_gives, weaker}
use Rattle.law_counts_things.proofs.Below.law_counts_sums.Boxes.{tot_le}
use Rattle.law_counts_things.proofs.Below.law_counts_sums.Each.{at_most, names_left}
use Rattle.law_counts_things.proofs.Below.law_counts_sums.Askers.{other_none}
use Rattle.law_counts_things.proofs.Below.law_counts_sums.KnownSound.{on_standing, sum_standing, server_known}
use Rattle.law_counts_things.proofs.Below.law_counts_sums.Events.{others_of, tot-server}
use Rattle.law_counts_things.proofs.Below.law_counts_sums.Applied.{handed_on}
use Rattle.law_counts_things.proofs.Below.law_counts_sums.Sending.{each_event_sends}
use Rattle.law_counts_things.proofs.things.Small.{Follows}
use Rattle.law_counts_things.proofs.things.Handed.{known}
use Rattle.law_counts_things.proofs.names.Fit.{Closed, marks, Base}
use Rattle.law_counts_things.proofs.names.Steps.{starts, makes, creates, after, NewNames}
use Rattle.law_counts_things.proofs.names.Sums.{holder_of, loose, asked_of, cell_object, going_of, copy_of, stray, base_of, ServerFits, server_from, server_to}
use Rattle.law_counts_things.proofs.names.Does.{instr_at, final, made_so, doing}
use Rattle.law_counts_things.proofs.names.Split.{threads_split, mutexes_split}
use Rattle.law_counts_things.proofs.names.Counts.{Plain, counts_at, counts_alone}
use Rattle.law_counts_things.proofs.names.Named.{Also, below_limit, above_less, other_or, or_second, home_is, count_is, colour_is, next_colour, placed, more_events, uncounted, unmade, names, counted, counted_plain, started_plain, made_plain, events_plain, counted_less, counted_later}

-- what is known of a step: its thread may ask from there, for copies too, and by the table of the code, where a reference is lent its place has few stars, and no mark is moved
pub record Coded (k : Cluster) (also : Also) (s : Server) (i : Instr) (y : ThreadState) : Type 0 where
  pub stands : also.asker s.rest.number y.number ≡ 0
  pub lives : creates i ≡ 0 → also.going y.number y.made ≡ 0
  pub boxed : (o : Operand) → i ≡ instr.Box o → (also.object (record { thread = y.number; count = y.made }) ≡ 0) × (also.going y.number (y.made + 1) ≡ 0)
  pub young : (c : ℕ) → s.rest.started < c → c ≤ s.rest.started + 2 → also.going (s.rest.number * 2 ^ 32 + c) 0 ≡ 0
  pub lends : (p : Lval) (m : ℕ) → i ≡ instr.BorrowMut p → p.depth ≡ suc m → also.holder m ≡ 0
  pub asks : Follows (access_of i y) → (p : BoxPtr) → also.wanted p.word ≡ 0
  pub moves : (j : Base) (p : Lval) → i ≡ instr.Read p true → (h h2 : Hand) (s : Spot) (v : Value) → h.thread ≡ y → prepare (access_of i h.thread) h ≡ ready h2 s → value_at h2 s ≡ Some v → marks (names k also j) v ≡ 0

-- these weigh nothing before
pub record Before (k : Cluster) (also : Also) : Type 0 where
  pub holders : tot (holder_of also.holder) (things_of k) ≡ 0
  pub marks_none : tot (loose also.mark) (things_of k) ≡ 0
  pub askers : tot (asked_of also.asker) (things_of k) ≡ 0
  pub objects : tot (cell_object also.object) (things_of k) ≡ 0
  pub lives : tot (going_of also.going) (things_of k) ≡ 0
  pub copies : tot (copy_of also.copy also.wanted) (things_of k) ≡ 0
  -- nor does what a server may serve
  pub served : (number : ℕ) (s : Server) → server_at k.servers number ≡ Some s → (i v : ℕ) (o : ObjNo) (r t : ℕ) (c : Cell) → slice_get s.rest.inbox i ≡ Some (Fetch v o r t) → look_object s.rest.partition v o ≡ Some c → also.copy v c ≡ 0

module _ (k : Cluster) (also : Also) (sound : IsSound k) where
  abbrev b : List Thing
  b = things_of k

  abbrev done_so_far : ℕ
  done_so_far = events_of (sight k)

  abbrev word_out : ℕ → ℕ
  word_out v = other (nat_lt (colour_of v) k.options.colours)

  -- BEFORE THE EVENT

  thread_le : (j : Base) (t : ℕ) → zeroth_thread t + uncounted b j t ≤ zeroth_thread t + uncounted_thread (sight k) t
  thread_le j t = omega (arith, other_or (some (tot (started_at (home_of t) (count_of t)) b)) (home_of t == j.number && nat_le (count_of t) j.started))

  mutex_le : (j : Base) (m : MutexNo) → zeroth_mutex m + unmade b j m ≤ zeroth_mutex m + uncounted_mutex (sight k) m
  mutex_le j m = omega (arith, other_or (some (tot (made_at m.home m.count) b)) (m.home == j.number && nat_le m.count j.made))

  -- the weight of a thing is at most that of all sentences before
  abbrev sentences : Thing → ℕ
  sentences x =
      words word_out x + next_colours k.options.colours x + threads zeroth_thread x + threads (uncounted_thread (sight k)) x + named_mutexes zeroth_mutex x + named_mutexes (uncounted_mutex (sight k)) x + many_names done_so_far x
      + holder_of also.holder x + loose also.mark x + asked_of also.asker x + cell_object also.object x + going_of also.going x + copy_of also.copy also.wanted x

  starts_le : (j : Base) (x : Thing) → stray (names k also j) x ≤ sentences x
  starts_le j (stands s p t) =
      omega (
        arith,
        threads_split _ zeroth_thread (uncounted_thread (sight k)) (thread_le j) (stands s p t),
        mutexes_split _ zeroth_mutex (uncounted_mutex (sight k)) (mutex_le j) (stands s p t),
        above_less t.made (2 * done_so_far) (2 * (done_so_far + 1)) (omega arith),
      )
  starts_le j x = omega (arith, threads_split _ zeroth_thread (uncounted_thread (sight k)) (thread_le j) x, mutexes_split _ zeroth_mutex (uncounted_mutex (sight k)) (mutex_le j) x)

  all_sentences : (xs : List Thing) → tot sentences xs
      ≡ tot (words word_out) xs + tot (next_colours k.options.colours) xs + tot (threads zeroth_thread) xs + tot (threads (uncounted_thread (sight k))) xs + tot (named_mutexes zeroth_mutex) xs + tot (named_mutexes (uncounted_mutex (sight k))) xs
      + tot (many_names done_so_far) xs + tot (holder_of also.holder) xs + tot (loose also.mark) xs + tot (asked_of also.asker) xs + tot (cell_object also.object) xs + tot (going_of also.going) xs + tot (copy_of also.copy also.wanted) xs
  all_sentences [] = refl
  all_sentences (x ∷ xs) = omega (arith, all_sentences xs)

  few_made : tot (many_names done_so_far) b ≡ 0
  few_made = sound.names.few_names

  none_before : (j : Base) → Before k also → tot (stray (names k also j)) b ≡ 0
  none_before j before =
      let colours : tot (words word_out) b + tot (next_colours k.options.colours) b ≡ 0 = sound.words.below_limit in
      let zeroth : tot (threads zeroth_thread) b + tot (named_mutexes zeroth_mutex) b ≡ 0 = sound.names.counts_from_one in
      let named : tot (threads (uncounted_thread (sight k))) b + tot (named_mutexes (uncounted_mutex (sight k))) b ≡ 0 = sound.names.names_counted in
      omega (arith, tot_le (stray (names k also j)) sentences (starts_le j) b, all_sentences b, colours, zeroth, named, few_made, before.holders, before.marks_none, before.askers, before.objects, before.lives, before.copies)

  -- WORDS

  some_colour : 1 ≤ k.options.colours
  some_colour =
      let out : options_out k.options ≡ 0 = sound.parts.options_in_range in
      let within = other_none (nat_le 1 k.options.colours && nat_le k.options.colours 65536) (omega (arith, out)) in
      let low : nat_le 1 k.options.colours ≡ true = and_left (nat_le 1 k.options.colours) (nat_le k.options.colours 65536) within in
      grind (arith, nat_tests, low)

  is_first : nat_lt 0 k.options.colours ≡ true
  is_first = grind (arith, nat_tests, some_colour)

  closed : (j : Base) (limit : ℕ) → limit ≡ k.options.colours → Closed (names k also j) limit
  closed j limit e = record {
    issued = λ c s a l m z. subst (λ x. other (nat_lt x k.options.colours) ≡ 0) (sym (colour_is c s a l m)) z;
    first = ap other is_first;
    next = λ v z. subst (λ x. other (nat_lt x k.options.colours) ≡ 0) (sym (next_colour v)) (ap other (subst (λ x. nat_lt (colour_of v + 1) x ≡ true) e z));
    later = λ v z. ap other (subst (λ x. nat_lt (colour_of v + 1) x ≡ true) e z);
  }

  -- NEW NAMES

  nothing_zeroth : (t : ℕ) → 1 ≤ count_of t → zeroth_thread t ≡ 0
  nothing_zeroth t l = by (count_of t == 0) refl
    where
      by : (q : Bool) → (count_of t == 0) ≡ q → one (q && not (t == 0)) ≡ 0
      by false e = refl
      by true e = let none : count_of t ≡ 0 = grind (arith, nat_tests, e) in absurd (omega (arith, l, none))

  new_thread_fits : (j : Base) (c : ℕ) → 1 ≤ c → c < 2 ^ 32 → c ≤ j.started → zeroth_thread (j.number * 2 ^ 32 + c) + uncounted b j (j.number * 2 ^ 32 + c) ≡ 0
  new_thread_fits j c low high l =
      let t = j.number * 2 ^ 32 + c in
      let home : home_of t ≡ j.number = home_is j.number c high in
      let count : count_of t ≡ c = count_is j.number c high in
      let at_home : (home_of t == j.number) ≡ true = eq-eqb (home_of t) j.number home in
      let reached : nat_le (count_of t) j.started ≡ true = grind (arith, nat_tests, count, l) in
      omega (arith, nothing_zeroth t (omega (arith, count, low)), or_second (some (tot (started_at (home_of t) (count_of t)) b)) (home_of t == j.number && nat_le (count_of t) j.started) (ap (λ q. q && nat_le (count_of t) j.started) at_home ∙ reached))

  new_mutex_fits : (j : Base) (home m : ℕ) → home ≡ j.number → m + 1 ≤ j.made → zeroth_mutex (record { home = home; count = m + 1 }) + unmade b j (record { home = home; count = m + 1 }) ≡ 0
  new_mutex_fits j home m e l =
      let at_home : (home == j.number) ≡ true = eq-eqb home j.number e in
      let reached : nat_le (m + 1) j.made ≡ true = grind (arith, nat_tests, l) in
      omega (arith, zeroth (m + 1 == 0) refl, or_second (some (tot (made_at home (m + 1)) b)) (home == j.number && nat_le (m + 1) j.made) (ap (λ q. q && nat_le (m + 1) j.made) at_home ∙ reached))
    where
      zeroth : (q : Bool) → (m + 1 == 0) ≡ q → one q ≡ 0
      zeroth false e = refl
      zeroth true e = let none : m + 1 ≡ 0 = grind (arith, nat_tests, e) in absurd (omega (arith, none))

  -- a thread has made few objects
  few_objects : (number : ℕ) (s : Server) → server_at k.servers number ≡ Some s → (t : ℕ) (y : ThreadState) → thread_in s.threads t ≡ Some y → y.made ≤ 2 * done_so_far
  few_objects number s here t y there =
      let f : Standing → ℕ = λ x. above (2 * done_so_far) x.thread.made in
      at_most y.made (2 * done_so_far) (known k sound number s here t y there f (omega (arith, sum_standing f b, tot_le (on_standing f) (many_names done_so_far) le b, few_made)))
    where
      le : (x : Thing) → on_standing (λ (x : Standing). above (2 * done_so_far) x.thread.made) x ≤ many_names done_so_far x
      le (stands s p t) = omega arith
      le x = omega arith

  module _ (few : FewEvents k) (number : ℕ) (s : Server) (here : server_at k.servers number ≡ Some s) where
    place : (s.rest.partition.limit ≡ k.options.colours) × (s.rest.mutexes.home ≡ s.rest.number)
    place =
        let parts : servers_wrong (sight k) 0 k.servers + sum_threads (sight k) pinned_parcel ≡ 0 = sound.parts.parts_are_typed in
        placed (sight k) 0 number k.servers s (omega (arith, parts)) here

    left : s.rest.started + 2 < 2 ^ 32
    left = names_left k sound.names.few_names few number s here

    news : (t : ℕ) (y : ThreadState) (i : Instr) → thread_in s.threads t ≡ Some y → Coded k also s i y → NewNames (names k also (after i (base_of s))) (base_of s) i y
    news t y i there coded =
        let j = after i (base_of s) in record {
          stands = coded.stands;
          lives = coded.lives;
          begins = below_limit 0 (2 * (done_so_far + 1)) (omega arith);
          spawned = λ cs pc e.
              let more : starts i ≡ 1 = ap starts e in
              record { named = new_thread_fits j (s.rest.started + 1) (omega arith) (omega (arith, left)) (omega (arith, more)); goes = coded.young (s.rest.started + 1) (omega arith) (omega arith) };
          paired = λ cs pc ds other e.
              let more : starts i ≡ 2 = ap starts e in (
                record { named = new_thread_fits j (s.rest.started + 1) (omega arith) (omega (arith, left)) (omega (arith, more)); goes = coded.young (s.rest.started + 1) (omega arith) (omega arith) },
                record { named = new_thread_fits j (s.rest.started + 1 + 1) (omega arith) (omega (arith, left)) (omega (arith, more)); goes = coded.young (s.rest.started + 1 + 1) (omega arith) (omega arith) },
              );
          mutex = λ o e. let more : makes i ≡ 1 = ap makes e in new_mutex_fits j s.rest.mutexes.home s.rest.mutexes.made place.1 (omega (arith, more));
          asks = λ f p z. coded.asks f p;
          boxed = λ o e. let fresh = coded.boxed o e in (fresh.0, below_limit (y.made + 1) (2 * (done_so_far + 1)) (omega (arith, few_objects number s here t y there)), fresh.1);
          lends = coded.lends;
          moves = λ p e h h2 x v q z u. coded.moves j p e h h2 x v q z u;
        }

    -- its counts
    few_counted : (s.rest.started ≤ 2 * done_so_far) × (s.rest.mutexes.made ≤ 2 * done_so_far)
    few_counted =
        let none : tot (counted done_so_far) b ≡ 0 = omega (arith, tot_le (counted done_so_far) (many_names done_so_far) (counted_less done_so_far) b, few_made) in
        let mine : above (2 * done_so_far) s.rest.started + above (2 * done_so_far) s.rest.mutexes.made ≡ 0 = omega (arith, none, (tot-server (counted done_so_far) k.servers number s s here).0, counts_alone (counted done_so_far) (counted_plain done_so_far) s) in
        (at_most s.rest.started (2 * done_so_far) (omega (arith, mine)), at_most s.rest.mutexes.made (2 * done_so_far) (omega (arith, mine)))

-- AFTER THE EVENT

-- what the server of an event is before and afterwards
abbrev base_in : Option Server → Base
base_in None = record { number = 0; started = 0; made = 0; home = 0; limit = 0 }
base_in (Some s) = base_of s

abbrev instr_in : Cluster → Event → Option Server → Option Instr
instr_in k e None = None
instr_in k e (Some s) = instr_at k.code s.threads e.what

abbrev pub ends_as : Cluster → Event → Option Server → Base
ends_as k e o = final (base_in o) (instr_in k e o)

-- no name is left that doesn't fit, and the counts have gone on
pub record GoneOn (k : Cluster) (also : Also) (j : Base) (c : Cluster) : Type 0 where
  pub none : tot (stray (names k also j)) (things_of c) ≡ 0
  pub started : (s m : ℕ) → tot (started_at s m) (things_of k) ≤ tot (started_at s m) (things_of c)
  pub made : (s m : ℕ) → tot (made_at s m) (things_of k) ≤ tot (made_at s m) (things_of c)
  pub reached : (m : ℕ) → m ≤ j.started → 1 ≤ tot (started_at j.number m) (things_of c)
  pub reached_made : (m : ℕ) → m ≤ j.made → 1 ≤ tot (made_at j.number m) (things_of c)
  pub few : tot (counted (events_of (sight k) + 1)) (things_of c) ≡ 0
  pub more : events_of (sight k) + 1 ≤ tot event_count (things_of c)
  pub same_options : c.options ≡ k.options

one_more : (a : Bool) (m p : ℕ) → m ≤ p → (c : ℕ) → one (a && nat_le c m) ≤ one (a && nat_le c p)
one_more false m p l c = omega arith
one_more true m p l c = by (nat_le c m) refl
  where
    by : (q : Bool) → nat_le c m ≡ q → one q ≤ one (nat_le c p)
    by false e = omega arith
    by true e = let too : nat_le c p ≡ true = grind (arith, nat_tests, e, l) in omega (arith, ap one too)

is_one : (m p c : ℕ) → c ≤ p → one (m == m && nat_le c p) ≡ 1
is_one m p c l =
    let self : (m == m) ≡ true = eq-eqb m m refl in
    let low : nat_le c p ≡ true = grind (arith, nat_tests, l) in
    ap (λ q. one (q && nat_le c p)) self ∙ ap one low

starts_few : (i : Instr) → starts i ≤ 2
starts_few (instr.Spawn cs pc) = omega arith
starts_few (instr.Par cs pc ds other) = omega arith
starts_few i = omega arith

makes_few : (i : Instr) → makes i ≤ 1
makes_few (instr.Mutex o) = omega arith
makes_few i = omega arith

-- the counts afterwards
record Grown (b j : Base) : Type 0 where
  started : b.started ≤ j.started
  few_started : j.started ≤ b.started + 2
  made : b.made ≤ j.made
  few_made : j.made ≤ b.made + 1
  number : j.number ≡ b.number
  limit : j.limit ≡ b.limit

grown : (b : Base) (o : Option Instr) → Grown b (final b o)
grown b None = record { started = omega arith; few_started = omega arith; made = omega arith; few_made = omega arith; number = refl; limit = refl }
grown b (Some i) = record { started = omega arith; few_started = omega (arith, starts_few i); made = omega arith; few_made = omega (arith, makes_few i); number = refl; limit = refl }

module _ (k : Cluster) (e : Event) (also : Also) (sound : IsSound k) (few : FewEvents k) (before : Before k also)
    (coded : (s : Server) → server_at k.servers e.server ≡ Some s → (t : ℕ) (y : ThreadState) (i : Instr) → e.what ≡ Step t → thread_in s.threads t ≡ Some y → slice_get k.code y.pc ≡ Some i → enabled k.options s e.what ≡ true → Coded k also s i y) where
  abbrev now : ℕ
  now = events_of (sight k)

  module _ (s : Server) (here : server_at k.servers e.server ≡ Some s) where
    abbrev j : Base
    j = final (base_of s) (instr_at k.code s.threads e.what)

    abbrev Good : Server × EntryView → Type 0
    Good r = ServerFits (names k also j) j r.0 × (r.0.events ≡ s.events + 1)

    fits : ServerFits (names k also j) (base_of s) s
    fits =
        let known = server_known k sound few e.server s here in
        let part = known.partition in
        server_from (names k also j) s part.addresses part.small (omega (arith, none_before k also sound j before, (tot-server (stray (names k also j)) k.servers e.server s s here).0))

    new_names : enabled k.options s e.what ≡ true → (t : ℕ) (y : ThreadState) (i : Instr) → e.what ≡ Step t → thread_in s.threads t ≡ Some y → slice_get k.code y.pc ≡ Some i → NewNames (names k also j) (base_of s) i y
    new_names on t y i q there at =
        let instr : instr_at k.code s.threads e.what ≡ Some i = ap (instr_at k.code s.threads) q ∙ ap (λ o. then_some o (λ (x : ThreadState). slice_get k.code x.pc)) there ∙ at in
        subst (λ o. NewNames (names k also (final (base_of s) o)) (base_of s) i y) (sym instr) (news k also sound few e.server s here t y i there (coded s here t y i q there at on))

    well_closed : Closed (names k also j) s.rest.partition.limit
    well_closed = closed k also sound j s.rest.partition.limit (place k also sound few e.server s here).0

    -- the thread that stepped
    pub stepped_so : enabled k.options s e.what ≡ true → (t : ℕ) (y : ThreadState) (i : Instr) → e.what ≡ Step t → thread_in s.threads t ≡ Some y → slice_get k.code y.pc ≡ Some i
        → Gives (λ (r : Server × EntryView). (z : ThreadState) × (r.0.threads ≡ set_thread s.threads z) × (z.number ≡ y.number) × (z.made ≡ y.made + creates i)) (does k.code k.options s (Step t))
    stepped_so on t y i q there at = made_so (names k also j) (base_of s) well_closed k.code k.options s fits t y i there at (new_names on t y i q there at)

    does_well : enabled k.options s e.what ≡ true → Gives Good (does k.code k.options s e.what)
    does_well on =
        both_give (λ (r : Server × EntryView). ServerFits (names k also j) j r.0) (λ (r : Server × EntryView). r.0.events ≡ s.events + 1) Good (does k.code k.options s e.what)
        (doing (names k also j) (base_of s) well_closed k.code k.options s fits e.what (λ i m q f v o r t c g z. before.served e.server s here i v o r t c (f ∙ ap (λ x. Some x) g) z) (new_names on))
        (more_events k.code k.options s e.what) (λ r a c. (a, c))

    -- the server has the number that it had
    pub number_stays : enabled k.options s e.what ≡ true → Gives (λ (r : Server × EntryView). r.0.rest.number ≡ s.rest.number) (does k.code k.options s e.what)
    number_stays on =
        weaker Good (λ (r : Server × EntryView). r.0.rest.number ≡ s.rest.number) (does k.code k.options s e.what) (does_well on) (λ r g.
        let fit = g.0 in
        let rest = fit.0 in
        let more = grown (base_of s) (instr_at k.code s.threads e.what) in
        rest.numbered ∙ more.number)

    -- a weight that sees counts alone, of the cluster before and afterwards
    counts_go : (f : Thing → ℕ) → ((x : Thing) → Plain x → f x ≡ 0) → (new : Server) → (tot f (things_of k) ≡ f (counts_at s) + tot f (servers_things (others_of k.servers e.server))) × (tot f (servers_things (with_server k.servers e.server new)) ≡ f (counts_at new) + tot f (servers_things (others_of k.servers e.server)))
    counts_go f plain new =
        let both = tot-server f k.servers e.server s new here in
        (omega (arith, both.0, counts_alone f plain s), omega (arith, both.1, counts_alone f plain new))

    leaves : (r : Server × EntryView) → Good r → GoneOn k also j (record k { servers = with_server k.servers e.server r.0 })
    leaves r g =
        let fit = g.0 in
        let rest = fit.0 in
        let more = grown (base_of s) (instr_at k.code s.threads e.what) in
        let number : r.0.rest.number ≡ s.rest.number = rest.numbered ∙ more.number in
        let counts = few_counted k also sound few e.server s here in
        let w = names k also j in record {
          none = omega (arith, none_before k also sound j before, (tot-server (stray w) k.servers e.server s r.0 here).0, (tot-server (stray w) k.servers e.server s r.0 here).1, server_to w j r.0 fit);
          started = λ a m.
              let both = counts_go (started_at a m) (started_plain a m) r.0 in
              let as_before : one (r.0.rest.number == a && nat_le m r.0.rest.started) ≡ one (s.rest.number == a && nat_le m j.started) = ap (λ c. one (c == a && nat_le m r.0.rest.started)) number ∙ ap (λ c. one (s.rest.number == a && nat_le m c)) rest.begun in
              omega (arith, both.0, both.1, as_before, one_more (s.rest.number == a) s.rest.started j.started more.started m);
          made = λ a m.
              let both = counts_go (made_at a m) (made_plain a m) r.0 in
              let as_before : one (r.0.rest.number == a && nat_le m r.0.rest.mutexes.made) ≡ one (s.rest.number == a && nat_le m j.made) = ap (λ c. one (c == a && nat_le m r.0.rest.mutexes.made)) number ∙ ap (λ c. one (s.rest.number == a && nat_le m c)) rest.made_so in
              omega (arith, both.0, both.1, as_before, one_more (s.rest.number == a) s.rest.mutexes.made j.made more.made m);
          reached = λ m l.
              let both = counts_go (started_at j.number m) (started_plain j.number m) r.0 in
              let as_now : one (r.0.rest.number == j.number && nat_le m r.0.rest.started) ≡ one (j.number == j.number && nat_le m j.started) = ap (λ c. one (c == j.number && nat_le m r.0.rest.started)) rest.numbered ∙ ap (λ c. one (j.number == j.number && nat_le m c)) rest.begun in
              omega (arith, both.1, as_now, is_one j.number j.started m l);
          reached_made = λ m l.
              let both = counts_go (made_at j.number m) (made_plain j.number m) r.0 in
              let as_now : one (r.0.rest.number == j.number && nat_le m r.0.rest.mutexes.made) ≡ one (j.number == j.number && nat_le m j.made) = ap (λ c. one (c == j.number && nat_le m r.0.rest.mutexes.made)) rest.numbered ∙ ap (λ c. one (j.number == j.number && nat_le m c)) rest.made_so in
              omega (arith, both.1, as_now, is_one j.number j.made m l);
          few =
              let both = counts_go (counted (now + 1)) (counted_plain (now + 1)) r.0 in
              let others = tot_le (counted (now + 1)) (many_names now) (counted_later now) (things_of k) in
              let started : above (2 * (now + 1)) r.0.rest.started ≡ 0 = below_limit r.0.rest.started (2 * (now + 1)) (omega (arith, rest.begun, more.few_started, counts.0)) in
              let made : above (2 * (now + 1)) r.0.rest.mutexes.made ≡ 0 = below_limit r.0.rest.mutexes.made (2 * (now + 1)) (omega (arith, rest.made_so, more.few_made, counts.1)) in
              omega (arith, both.0, both.1, others, few_made k also sound, started, made);
          more = let both = counts_go event_count events_plain r.0 in omega (arith, both.0, both.1, g.1);
          same_options = refl;
        }

  acted : (o : Option Server) → server_at k.servers e.server ≡ o
      → Gives (λ (x : Cluster × EntryView). GoneOn k also (ends_as k e o) x.0) (then_some o (λ s. option_map (λ x. (record k { servers = with_server k.servers e.server x.0 }, x.1)) (done_at k e.what s)))
  acted None q = tt
  acted (Some s) q =
      over_gives (Good s q) (λ (x : Cluster × EntryView). GoneOn k also (ends_as k e (Some s)) x.0) (done_at k e.what s) _
      (test_gives (Good s q) (enabled k.options s e.what) _ (λ on. does_well s q on)) (λ r g. leaves s q r g)

  -- with its messages handed over
  pub gone_on : Gives (λ (x : Cluster × EntryView). GoneOn k also (ends_as k e (server_at k.servers e.server)) x.0) (apply k e)
  gone_on =
      let j = ends_as k e (server_at k.servers e.server) in
      handed_on (GoneOn k also j) (λ c a b same g. record {
        none = omega (arith, same (stray (names k also j)), g.none);
        started = λ s m. omega (arith, same (started_at s m), g.started s m);
        made = λ s m. omega (arith, same (made_at s m), g.made s m);
        reached = λ m l. omega (arith, same (started_at j.number m), g.reached m l);
        reached_made = λ m l. omega (arith, same (made_at j.number m), g.reached_made m l);
        few = omega (arith, same (counted (now + 1)), g.few);
        more = omega (arith, same event_count, g.more);
        same_options = g.same_options;
      }) k e (each_event_sends k e sound few) (acted (server_at k.servers e.server) refl)
