-- How far an event raises the counts of its server, where its instruction follows few stars.
use Rattle.std.proofs.Common.{◌≡◌, ◌≤◌, ℕ, zero, suc, ◌+◌, ◌-◌, ◌==◌, Bool, true, false, if◌then◌else◌, List, [], Option, Some, None, refl, arith}
use Rattle.std.specs.Prelude.{slice_get, option_map}
use Rattle.std.specs.Bool.{⊤}
use Rattle.law_counts_things.specs.Below.fr_base.Lists.{is_in}
use Rattle.law_counts_things.specs.Below.fr_base.declared.name.MutexNo.{MutexNo}
use Rattle.law_counts_things.specs.Below.fr_base.declared.name.ObjNo.{ObjNo}
use Rattle.law_counts_things.specs.Below.fr_base.declared.place.Lval.{Lval}
use Rattle.law_counts_things.specs.Below.fr_base.declared.instruction.Instr.{Instr}
use Rattle.law_counts_things.specs.Below.fr_base.declared.release.Released.{Released}
use Rattle.law_counts_things.specs.Below.fr_base.declared.release.Released.TheVariants as released
use Rattle.law_counts_things.specs.Below.fr_base.declared.settings.Options.{Options}
use Rattle.law_counts_things.specs.Below.fr_base.declared.step.Fresh.{Fresh}
use Rattle.law_counts_things.specs.Below.heap_partition.declared.value.Cell.{Cell}
use Rattle.law_counts_things.specs.Below.heap_partition.declared.value.Owned.{Owned}
use Rattle.law_counts_things.specs.Below.heap_partition.declared.value.Owned.TheVariants as owned
use Rattle.law_counts_things.specs.Below.owner_box.Partition.{freed}
use Rattle.law_counts_things.specs.Below.read_cache.Cache.{Copy, can_pin, can_fill, can_evict}
use Rattle.law_counts_things.specs.Below.migration.Packing.{unpin_all, used_words, packed}
use Rattle.law_counts_things.specs.Below.mutex_home.Mutexes.{Mutex, Mutexes, can_make, ask, give_back, more, less}
use Rattle.law_counts_things.specs.Below.mutex_home.declared.answers.Asked.{Asked}
use Rattle.law_counts_things.specs.Below.mutex_home.declared.answers.Asked.TheVariants as asked
use Rattle.law_counts_things.specs.Below.mutex_home.declared.answers.Back.{Back}
use Rattle.law_counts_things.specs.Below.mutex_home.declared.answers.Back.TheVariants as back
use Rattle.law_counts_things.specs.Below.join_home.Tasks.{Task, can_begin, can_begin_pair, ended, let_go_of}
use Rattle.law_counts_things.specs.Below.join_home.Tasks as tasks
use Rattle.law_counts_things.specs.Below.join_home.declared.answers.EndedAs.{EndedAs}
use Rattle.law_counts_things.specs.Below.join_home.declared.answers.EndedAs.TheVariants as over
use Rattle.law_counts_things.specs.Below.thread_state.View.{ThreadState}
use Rattle.law_counts_things.specs.Below.thread_state.declared.phase.Phase.TheVariants as phase
use Rattle.law_counts_things.specs.Below.thread_state.declared.value.Value.{Value}
use Rattle.law_counts_things.specs.Below.thread_state.declared.value.Value.TheVariants as value
use Rattle.law_counts_things.specs.Below.server_msgs.declared.message.Message.{Message}
use Rattle.law_counts_things.specs.Below.server_msgs.declared.message.Message.TheVariants as message
use Rattle.law_counts_things.specs.Below.journal.declared.act.Act.TheVariants as act
use Rattle.law_counts_things.specs.Below.journal.View.{EntryView}
use Rattle.law_counts_things.specs.Below.server_model.declared.event.What.{What}
use Rattle.law_counts_things.specs.Below.server_model.declared.event.What.TheVariants.{Step, Deliver, Evict, Migrate}
use Rattle.law_counts_things.specs.Below.server_model.Servers.{Rest, Server}
use Rattle.law_counts_things.specs.Below.server_model.Work.{Work, Hand, Site, sent_from, with_phase, with_mutexes, with_tasks, with_partition, with_cache, then_some, put_back, thread_in, without_thread, at_thread, beside_threads, look_object, used_once, note}
use Rattle.law_counts_things.specs.Below.server_model.NewWords.{NewWord, can_grow, issue_placed}
use Rattle.law_counts_things.specs.Below.server_model.Places.{Spot, in_slot, value_at, with_word, set_pointer}
use Rattle.law_counts_things.specs.Below.server_model.Start.{next_thread, start_thread, capture}
use Rattle.law_counts_things.specs.Below.server_model.Drop.{give_up}
use Rattle.law_counts_things.specs.Below.server_model.Moving.{migrate, depart}
use Rattle.law_counts_things.specs.Below.server_model.Commit.{Committed, done, waits, refused, go_on, next_object, push_box, begun, pair_begun, spawn_with, end_with, label_dropped, commit, settle}
use Rattle.law_counts_things.specs.Below.server_model.Prepare.{Access, ReadTo, ReadPointer, WriteTo, LendTo, EndRef, Prepared, ready, requested, nothing, access_of, prepare, passing, write_stars}
use Rattle.law_counts_things.specs.Below.server_model.Objects.{deliver_fetch, waits_for_cell, filled, deliver_fetched, deliver_move, chased, waits_under, arrived_at, arrived_slot, passed_spot, arrived_write, arrived_lend, arrived_end, arrived, instr_access, deliver_moved, deliver_drop}
use Rattle.law_counts_things.specs.Below.server_model.Sharing.{given, answer_lock, deliver_lock, waits_for_lock, deliver_granted, answer_back, deliver_unlock, deliver_dup, waits_for_dup, deliver_dupped, give_up_left}
use Rattle.law_counts_things.specs.Below.server_model.Joining.{answer_join, deliver_join, waits_for_join, deliver_joined, got_par, pair_over, end_answer, deliver_finished}
use Rattle.law_counts_things.specs.Below.server_model.Events.{Stepped, done_step, committed, prepared, begin_work, begin_at, left_by, received, release, deliver_message, evict_copy, step, step_in, stepped, does, deliver}
use Rattle.law_counts_things.specs.Below.law_counts_sums.Laws.{Gives}
use Rattle.law_counts_things.proofs.Below.law_counts_sums.Results.{then_gives, map_gives, over_gives, bind_gives, test_gives, stand_gives}
use Rattle.law_counts_things.proofs.things.Small.{Of, Places}
use Rattle.law_counts_things.proofs.things.Plainly.{Settles, moves_by, Acts, Ends, EndsStep, commits}
use Rattle.law_counts_things.proofs.things.Goes.{Any, AnyWord, puts_by}
use Rattle.law_counts_limits.proofs.bounds.Stars.{Steps, stars, after, after_is, Made, prepare_made}
use Rattle.law_counts_limits.proofs.bounds.Few.{Counted, Few, fewer, sends, stores, makes, frees, renews, pins, unpins, unpins_all, fills, evicts, mutex, asked, gave, shared, less_shared}
use Rattle.law_counts_limits.proofs.bounds.Few as few

-- POINTERS AND VALUES

module _ (a u m : ℕ) where
  abbrev pub F : Rest → ThreadState → Type 0
  F r t = Few a u m r

  -- a value that is put raises no count
  puts : (s : Spot) (v : Value) (h : Hand) → Of F h → Gives (Of F) (Rattle.law_counts_things.specs.Below.server_model.Places.put_at s v h)
  puts s v h g = puts_by F (λ vs r t x. x) (λ vs r t x. x) (λ h2 w x g2. stores a u m h2.work.rest.partition w x g2) s v h g

  -- nor does a pointer that gets a word
  pub pointer : (s : Spot) (w : ℕ) (h : Hand) → Of F h → Gives (Of F) (set_pointer s w h)
  pointer s w h g = then_gives (Of F) (value_at h s) _ (λ v q. then_gives (Of F) (with_word w v) _ (λ new e. puts s new h g))

  places : Places F Any AnyWord
  places = record { spot = λ s v h g e. tt; puts = λ s v h z b g. puts s v h g; worded = λ w v new x b e. tt; word_of = λ r b. tt; points = λ v p b e. tt }

  -- nor what is let go
  pub gives_up : (v : Owned) (w : Work) → Few a u m w.rest → Few a u m (give_up v w).rest
  gives_up (owned.Box p) w g = sends a u m w.rest _ _ g
  gives_up (owned.Mutex n) w g = sends a u m w.rest _ _ g
  gives_up (owned.Task t) w g = sends a u m w.rest _ _ g
  gives_up owned.Nothing w g = g
  gives_up owned.Unit w g = g
  gives_up (owned.Int n) w g = g

  -- PLAIN STEPS

  -- at its end: one address and one share more at most
  abbrev E : Rest → ThreadState → Type 0
  E r t = Few (suc a) u (suc m) r

  -- few are at most one address and one share more
  ends_as : {next old : ℕ} {cs : List Copy} {ms : List Mutex} → Counted a u m next old cs ms → Counted (suc a) u (suc m) next old cs ms
  ends_as g = fewer a u m (suc a) u (suc m) (omega arith) (omega arith) (omega arith) g

  -- a step that ends gives its uses back
  settles : (h : Hand) → Few a u m h.work.rest → Settles E h
  settles h g = λ cs e. ends_as (unpins_all a u m h.work.rest.cache h.thread.walk cs e g)

  -- a thread that starts
  starts : (servers pc : ℕ) (vs : List Value) (w : Work) → Few a u m w.rest → Few a u m (start_thread servers pc vs w).rest
  starts servers pc vs w g = sends a u m (record w.rest { started = w.rest.started + 1 }) _ _ g

  -- a thread that ends
  over_main : (main : Bool) (v : Owned) (h : Hand) → Few a u m h.work.rest → Gives (λ h2. Settles E (with_phase phase.Over h2)) (end_with main v h)
  over_main true v h g = λ cs z. ends_as (unpins_all a u m _ h.thread.walk cs z (gives_up v (label_dropped (value.Own v) h).work g))
  over_main false v h g = λ cs z. ends_as (unpins_all a u m _ h.thread.walk cs z (sends a u m h.work.rest _ _ g))

  -- the small steps of every instruction
  acts : (n : ℕ) (i : Instr) → Acts n F E Any Any AnyWord i
  acts n i = record {
    places = places;
    number = λ x. tt;
    unit_value = tt;
    nothing_value = tt;
    gone = tt;
    owned_temp = λ v b. tt;
    shared_slot = λ j. tt;
    mutable_slot = λ j. tt;
    second = λ v w b e. tt;
    shared = λ v w b e. tt;
    lent = λ w d e z v x h b g c. tt;
    off_temps = λ h g. g;
    off_slots = λ h g. g;
    on_temps = λ v h b g. g;
    on_slots = λ v h b g. g;
    gives = λ v h b g. gives_up v h.work g;
    unpins = λ w h e g. unpins a u m h.work.rest.cache w g;
    gift = λ v h e g. (tt, g);
    boxes = λ o e v h b g.
        let c : Cell = record { object = next_object h; value = v } in
        over_gives (λ (x : NewWord). Few (suc a) u m x.work.rest) (λ h2. Settles E (go_on h2)) (issue_placed (act.Make (next_object h)) c h.work) (λ x. push_box v x h)
        (test_gives (λ (x : NewWord). Few (suc a) u m x.work.rest) (can_grow h.work.rest.partition) _ (λ z. makes a u m h.work.rest.partition c g))
        (λ x w cs z. fewer (suc a) u m (suc a) u (suc m) (omega arith) (omega arith) (omega arith) (unpins_all (suc a) u m x.work.rest.cache h.thread.walk cs z w));
    mutexes = λ o e v h b g.
        test_gives (λ h2. Settles E (go_on h2)) (can_make h.work.rest.mutexes) _ (λ z cs z2.
        fewer a u (suc m) (suc a) u (suc m) (omega arith) (omega arith) (omega arith) (unpins_all a u (suc m) h.work.rest.cache h.thread.walk cs z2 (mutex a u m h.work.rest.mutexes v g)));
    spawns = λ cs pc e h g.
        then_gives (λ h2. Settles E (go_on h2)) (capture false cs.items h.thread.slots) (spawn_with n pc (next_thread h.work.rest) h) (λ new q.
        over_gives (Of F) (λ h2. Settles E (go_on h2)) (begun h) _ (test_gives (Of F) (can_begin h.work.rest.tasks (next_thread h.work.rest)) _ (λ z. g))
        (λ h2 b cs2 z. ends_as (unpins_all a u m _ h2.thread.walk cs2 z (starts n pc new.0 h2.work b))));
    unlocks = λ e x v h b d g. sends a u m h.work.rest _ _ g;
    holds = λ w e x b. tt;
    goes = λ o h g cs z. settles h g cs z;
    pairs = λ cs pc ds other e h g.
        let x = next_thread h.work.rest in
        then_gives (Settles E) (capture true cs.items h.thread.slots) _ (λ first p. then_gives (Settles E) (capture true ds.items first.1) _ (λ second q.
        over_gives (Of F) (Settles E) (pair_begun h x (x + 1)) _ (test_gives (Of F) (can_begin_pair h.work.rest.tasks h.thread.number x (x + 1)) _ (λ z. g))
        (λ h2 b cs2 z. ends_as (unpins_all a u m _ h2.thread.walk cs2 z (starts n other second.0 (start_thread n pc first.0 h2.work) (starts n pc first.0 h2.work b))))));
    ends = λ o e main v h b g. over_main main v h g;
    asks_join = λ o e x h q b g. ends_as (sends a u m h.work.rest _ _ g);
    asks_dup = λ w e x h q b g. ends_as (sends a u m h.work.rest _ _ g);
    asks_lock = λ w e x h q b g. ends_as (sends a u m h.work.rest _ _ g);
  }

  -- at the end of the step
  settled : (names : Fresh) (h : Hand) → Settles E h → Gives (EndsStep E) (option_map (done_step names) (settle h))
  settled names h f = by (unpin_all h.thread.walk h.work.rest.cache) refl
    where
      by : (o : Option (List Copy)) → unpin_all h.thread.walk h.work.rest.cache ≡ o
          → Gives (EndsStep E) (option_map (done_step names) (option_map (λ cs. record { work = with_cache cs h.work; thread = record h.thread { passed = 0; walk = []; moved_since_step = false } }) o))
      by None q = tt
      by (Some cs) q = f cs q

  committing : (c : Committed) → Ends E c → Gives (EndsStep E) (committed c)
  committing (done names h) f = settled names h f
  committing (waits h) f = f
  committing refused f = tt

  -- a plain step takes one address and one share at most
  pub commits_few : (n : ℕ) (i : Instr) (s : Spot) (h : Hand) → Few a u m h.work.rest → Gives (EndsStep E) (committed (commit n i s h))
  commits_few n i s h g = committing (commit n i s h) (commits i s h (acts n i) (moves_by i s h (λ w c v z. tt)) g)

-- STEPS

module _ (a u m : ℕ) where
  -- a place is made ready: one address and one user more a star
  abbrev X : ℕ → Rest → ℕ → Type 0
  X c r n = Few (a + c) (u + c) m r

  -- a star takes one address and one use at most
  star_steps : Steps 8 ⊤ X
  star_steps = record {
    more = λ c r n g. fewer (a + c) (u + c) m (a + suc c) (u + suc c) m (omega arith) (omega arith) (omega arith) g;
    stores = λ w v c r n g. stores (a + c) (u + c) m r.partition w v g;
    renews = λ w c r n g. fewer (suc (a + c)) (u + c) m (a + suc c) (u + suc c) m (omega arith) (omega arith) (omega arith) (renews (a + c) (u + c) m r.partition w g);
    pins = λ w c r n g. fewer (a + c) (suc (u + c)) m (a + suc c) (u + suc c) m (omega arith) (omega arith) (omega arith) (pins (a + c) (u + c) m r.cache w g);
    sends = λ t x c r n g. sends (a + c) (u + c) m r t x g;
    passes = λ on x c r n l g. g;
  }

  abbrev pub StepFew : Stepped → Type 0
  StepFew d = Few (a + 16) (u + 16) (m + 16) d.hand.work.rest

  -- a whole step takes at most sixteen of each
  pub step_few : (n : ℕ) (i : Instr) (h : Hand) → stars (access_of i h.thread) h ≤ 8 → Few a u m h.work.rest → Gives StepFew (step n i h)
  step_few n i h l g = by (prepare (access_of i h.thread) h) (prepare_made star_steps h.thread (access_of i h.thread) h (λ w. tt) l (record { pc_so = refl; slots_so = refl; temps_so = refl }, fewer a u m (a + 0) (u + 0) m (omega arith) (omega arith) (omega arith) g))
    where
      d : ℕ
      d = suc (after (stars (access_of i h.thread) h) 0)

      small : d ≤ 9
      small = omega (arith, l, after_is (stars (access_of i h.thread) h) 0)

      by : (p : Prepared) → Made star_steps h.thread d p → Gives StepFew (prepared n i p)
      by (ready h2 s) x =
          over (committed (commit n i s h2)) (commits_few (a + d) (u + d) m n i s h2 x.1)
        where
          over : (o : Option Stepped) → Gives (EndsStep (E (a + d) (u + d) m)) o → Gives StepFew o
          over None z = tt
          over (Some e) z = fewer (suc (a + d)) (u + d) (suc m) (a + 16) (u + 16) (m + 16) (omega (arith, small)) (omega (arith, small)) (omega arith) z
      by (requested h2) x = fewer (a + d) (u + d) m (a + 16) (u + 16) (m + 16) (omega (arith, small)) (omega (arith, small)) (omega arith) x.1
      by nothing x = tt

-- DELIVERIES

module _ (a u m : ℕ) where
  abbrev Old : Rest → Type 0
  Old r = Few a u m r

  abbrev New : Rest → Type 0
  New r = Few (suc a) (suc u) (suc m) r

  abbrev OfWork : Work → Type 0
  OfWork w = New w.rest

  abbrev OfHand : Hand → Type 0
  OfHand h = New h.work.rest

  abbrev pub OfSite : Site → Type 0
  OfSite x = New x.work.rest

  -- few are at most one more of each
  up : {next old : ℕ} {cs : List Copy} {ms : List Mutex} → Counted a u m next old cs ms → Counted (suc a) (suc u) (suc m) next old cs ms
  up g = fewer a u m (suc a) (suc u) (suc m) (omega arith) (omega arith) (omega arith) g

  more_places : {next old : ℕ} {cs : List Copy} {ms : List Mutex} → Counted (suc a) u m next old cs ms → Counted (suc a) (suc u) (suc m) next old cs ms
  more_places g = fewer (suc a) u m (suc a) (suc u) (suc m) (omega arith) (omega arith) (omega arith) g

  more_users : {next old : ℕ} {cs : List Copy} {ms : List Mutex} → Counted a (suc u) m next old cs ms → Counted (suc a) (suc u) (suc m) next old cs ms
  more_users g = fewer a (suc u) m (suc a) (suc u) (suc m) (omega arith) (omega arith) (omega arith) g

  more_shares : {next old : ℕ} {cs : List Copy} {ms : List Mutex} → Counted a u (suc m) next old cs ms → Counted (suc a) (suc u) (suc m) next old cs ms
  more_shares g = fewer a u (suc m) (suc a) (suc u) (suc m) (omega arith) (omega arith) (omega arith) g

  -- a message changes no count
  sent : (t : ℕ) (x : Message) (r : Rest) → New r → New (sent_from r t x)
  sent t x r g = sends (suc a) (suc u) (suc m) r t x g

  gives : (v : Owned) (w : Work) → OfWork w → OfWork (give_up v w)
  gives v w g = gives_up (suc a) (suc u) (suc m) v w g

  -- what changes no thread
  beside : (f : Work → Option Work) (x : Site) → Gives OfWork (f x.work) → Gives OfSite (beside_threads f x)
  beside f x g = over_gives OfWork OfSite (f x.work) (λ w. record x { work = w }) g (λ w b. b)

  -- what changes one thread
  at : (t : ℕ) (f : Hand → Option Hand) (x : Site) → ((y : ThreadState) → Gives OfHand (f (record { work = x.work; thread = y }))) → Gives OfSite (at_thread t f x)
  at t f x go = by (thread_in x.threads t)
    where
      by : (o : Option ThreadState) → Gives OfSite (then_some (option_map (λ y. record { work = x.work; thread = y }) o) (λ h. option_map (put_back x.threads) (f h)))
      by None = tt
      by (Some y) = over_gives OfHand OfSite (f (record { work = x.work; thread = y })) (put_back x.threads) (go y) (λ h b. b)

  -- OBJECTS

  -- a block is freed
  drops : (v : ℕ) (b : ObjNo) (w : Work) → Old w.rest → Gives OfWork (deliver_drop v b w)
  drops v b w g = map_gives OfWork (look_object w.rest.partition v b) _ (λ c q. gives c.value (note (act.Free b v) (with_partition (freed w.rest.partition v) w)) (more_places (frees a u m w.rest.partition v g)))

  -- a copy is used once more at most
  uses_it : (v : ℕ) (b : Bool) (h : Hand) → Old h.work.rest → Gives OfHand (used_once v b h)
  uses_it v true h g = up g
  uses_it v false h g = test_gives OfHand (can_pin h.work.rest.cache v) _ (λ z. more_users (pins a u m h.work.rest.cache v g))

  -- a copy comes, and is used
  fills_it : (v : ℕ) (c : Cell) (h : Hand) → Old h.work.rest → Gives OfHand (deliver_fetched v c h)
  fills_it v c h g =
      test_gives OfHand (waits_for_cell h.thread.phase v) _ (λ z. over_gives OfHand OfHand (filled v c h) _
      (test_gives OfHand (can_fill h.work.rest.cache v c) _ (λ p. uses_it v (is_in v h.thread.walk) _ (fills a u m h.work.rest.cache v c g))) (λ h2 b. b))

  -- a pointer gets the word of what came
  points : (s : Spot) (new : ℕ) (h : Hand) → OfHand h → Gives OfHand (set_pointer s new h)
  points s new h g = pointer (suc a) (suc u) (suc m) s new h g

  comes_at : (new : ℕ) (s : Spot) (h : Hand) → OfHand h → Gives OfHand (arrived_at s new h)
  comes_at new s h g = over_gives OfHand OfHand (set_pointer s new h) _ (points s new h g) (λ h2 b. b)

  comes_slot : (old new i : ℕ) (h : Hand) → OfHand h → Gives OfHand (arrived_slot old new i h)
  comes_slot old new i h g = test_gives OfHand (waits_under old (slice_get h.thread.slots i)) _ (λ z. comes_at new (in_slot i) h g)

  comes_write : (w : Lval) (new : ℕ) (h : Hand) → OfHand h → Gives OfHand (arrived_write w new h)
  comes_write w new h g = then_gives OfHand (passed_spot (write_stars h.thread.passed 0 h (in_slot w.slot))) _ (λ s q. comes_at new s (passing (h.thread.passed + 1) h) g)

  comes_lend : (slot d old new : ℕ) (h : Hand) → OfHand h → Gives OfHand (arrived_lend slot d old new h)
  comes_lend slot zero old new h g = tt
  comes_lend slot (suc zero) old new h g = g
  comes_lend slot (suc (suc d)) old new h g = by (waits_under old (slice_get h.thread.slots (chased d h.thread.slots slot)))
    where
      by : (b : Bool) → Gives OfHand (if b then arrived_at (in_slot (chased d h.thread.slots slot)) new h else Some (with_phase (phase.Taken new) h))
      by true = comes_at new (in_slot (chased d h.thread.slots slot)) h g
      by false = g

  comes_end : (s : Spot) (v : Option Value) (old new : ℕ) (h : Hand) → OfHand h → Gives OfHand (arrived_end s v old new h)
  comes_end s (Some (value.Mut q)) old new h g = by (q.word == old)
    where
      by : (b : Bool) → Gives OfHand (if b then arrived_at s new h else arrived_write q.holder new h)
      by true = comes_at new s h g
      by false = comes_write q.holder new h g
  comes_end s _ old new h g = tt

  comes_for : (x : Option Access) (old new : ℕ) (h : Hand) → OfHand h → Gives OfHand (arrived x old new h)
  comes_for None old new h g = tt
  comes_for (Some (ReadTo w)) old new h g = comes_slot old new (chased (w.depth - 1) h.thread.slots w.slot) h g
  comes_for (Some (ReadPointer w)) old new h g = comes_slot old new (chased (w.depth - 1) h.thread.slots w.slot) h g
  comes_for (Some (WriteTo w)) old new h g = comes_write w new h g
  comes_for (Some (LendTo w)) old new h g = comes_lend w.slot w.depth old new h g
  comes_for (Some (EndRef s)) old new h g = comes_end s (value_at h s) old new h g

  -- an object comes to one address
  comes : (code : List Instr) (old : ℕ) (c : Cell) (h : Hand) → Old h.work.rest → Gives OfHand (deliver_moved code old c h)
  comes code old c h g =
      test_gives OfHand (waits_for_cell h.thread.phase old) _ (λ z. bind_gives (λ (x : NewWord). New x.work.rest) OfHand (issue_placed (act.Take c.object old) c h.work) _
      (test_gives (λ (x : NewWord). New x.work.rest) (can_grow h.work.rest.partition) _ (λ p. more_places (makes a u m h.work.rest.partition c g)))
      (λ x b. comes_for (instr_access h (slice_get code h.thread.pc)) old x.word (record h { work = x.work }) b))

  -- MUTEXES

  -- a gift
  gives_it : (v : Owned) (o : Option Owned) (h : Hand) → OfHand h → Gives OfHand (given v o h)
  gives_it v None h g = g
  gives_it v (Some x) h g = tt

  -- what is left over is let go
  left_over : (o : Option Owned) (w : Work) → OfWork w → OfWork (give_up_left o w)
  left_over None w g = g
  left_over (Some v) w g = gives v w g

  -- each message about a mutex: the content that goes, comes back, and a share more
  locks : (n : MutexNo) (s t : ℕ) (w : Work) → Old w.rest → Gives OfWork (deliver_lock n s t w)
  locks n s t w g = map_gives OfWork (ask w.rest.mutexes n s t) _ (λ p q. by p.0 p.1 (up (few.asked a u m w.rest.mutexes n s t p q g)))
    where
      by : (ms : Mutexes) (x : Asked) → New (record w.rest { mutexes = ms }) → OfWork (answer_lock n s t x (with_mutexes ms w))
      by ms asked.Queued b = b
      by ms (asked.Granted v) b = sent _ _ (record w.rest { mutexes = ms }) b

  unlocks : (n : MutexNo) (v : Owned) (w : Work) → Old w.rest → Gives OfWork (deliver_unlock n v w)
  unlocks n v w g = map_gives OfWork (give_back w.rest.mutexes n v) _ (λ p q. by p.0 p.1 (up (gave a u m w.rest.mutexes n v p q g)))
    where
      by : (ms : Mutexes) (x : Back) → New (record w.rest { mutexes = ms }) → OfWork (answer_back n x (with_mutexes ms w))
      by ms (back.Next s t x) b = sent _ _ (record w.rest { mutexes = ms }) b
      by ms (back.Ended x) b = gives x (with_mutexes ms w) b
      by ms back.Kept b = b

  dups : (n : MutexNo) (s t : ℕ) (w : Work) → Old w.rest → Gives OfWork (deliver_dup n s t w)
  dups n s t w g = map_gives OfWork (more w.rest.mutexes n) _ (λ ms q. sent _ _ (record w.rest { mutexes = ms }) (more_shares (shared a u m w.rest.mutexes n ms q g)))

  -- THREADS

  -- each message about a thread
  joins : (x s by_thread : ℕ) (w : Work) → Old w.rest → Gives OfWork (deliver_join x s by_thread w)
  joins x s by_thread w g = map_gives OfWork (tasks.ask w.rest.tasks x s by_thread) _ (λ p q. of p.0 p.1)
    where
      of : (ts : List Task) (o : Option Owned) → OfWork (answer_join x s by_thread o (with_tasks ts w))
      of ts None = up g
      of ts (Some v) = sent _ _ (record w.rest { tasks = ts }) (up g)

  releases : (x : Released) (w : Work) → Old w.rest → Gives OfWork (release x w)
  releases (released.Mutex n) w g = map_gives OfWork (less w.rest.mutexes n) _ (λ p q. left_over p.1 (with_mutexes p.0 w) (up (less_shared a u m w.rest.mutexes n p q g)))
  releases (released.Task t) w g = map_gives OfWork (let_go_of w.rest.tasks t) _ (λ p q. left_over p.1 (with_tasks p.0 w) (up g))

  goes_on : (t : ℕ) (h : Hand) → OfHand h → Gives OfHand (pair_over t h)
  goes_on t h g = map_gives OfHand (got_par t h.thread.phase) _ (λ p q. g)

  finishes : (t : ℕ) (v : Owned) (x : Site) → Old x.work.rest → Gives OfSite (deliver_finished t v x)
  finishes t v x g = then_gives OfSite (ended x.work.rest.tasks t v) _ (λ p q. by p.0 p.1)
    where
      by : (ts : List Task) (e : EndedAs) → Gives OfSite (end_answer t e (record x { work = with_tasks ts x.work }))
      by ts (over.Answer s r b) = sent _ _ (record x.work.rest { tasks = ts }) (up g)
      by ts (over.Both parent) = at parent (pair_over t) (record x { work = with_tasks ts x.work }) (λ y. goes_on t (record { work = with_tasks ts x.work; thread = y }) (up g))
      by ts (over.LetGo b) = gives b (with_tasks ts x.work) (up g)
      by ts over.Kept = up g

  -- ALL MESSAGES

  -- a delivery takes at most one of each
  pub message_few : (code : List Instr) (x : Message) (s : Site) → Old s.work.rest → Gives OfSite (deliver_message code x s)
  message_few code (message.Fetch w o r t) s g = beside (deliver_fetch w o r t) s (map_gives OfWork (look_object s.work.rest.partition w o) _ (λ c q. sent _ _ s.work.rest (up g)))
  message_few code (message.Fetched w c t) s g = at t (deliver_fetched w c) s (λ y. fills_it w c (record { work = s.work; thread = y }) g)
  message_few code (message.Move w o r t) s g =
      beside (deliver_move w o r t) s (map_gives OfWork (look_object s.work.rest.partition w o) _ (λ c q.
      sent _ _ (record s.work.rest { partition = freed s.work.rest.partition w }) (more_places (frees a u m s.work.rest.partition w g))))
  message_few code (message.Moved w c t) s g = at t (deliver_moved code w c) s (λ y. comes code w c (record { work = s.work; thread = y }) g)
  message_few code (message.Drop w o) s g = beside (deliver_drop w o) s (drops w o s.work g)
  message_few code (message.Lock n r t) s g = beside (deliver_lock n r t) s (locks n r t s.work g)
  message_few code (message.Granted n v t) s g = at t (deliver_granted n v) s (λ y. test_gives OfHand (waits_for_lock y.phase n) _ (λ z. gives_it v y.gift (record { work = s.work; thread = y }) (up g)))
  message_few code (message.Unlock n v) s g = beside (deliver_unlock n v) s (unlocks n v s.work g)
  message_few code (message.Dup n r t) s g = beside (deliver_dup n r t) s (dups n r t s.work g)
  message_few code (message.Dupped n t) s g = at t (deliver_dupped n) s (λ y. test_gives OfHand (waits_for_dup y.phase n) _ (λ z. gives_it (owned.Mutex n) y.gift (record { work = s.work; thread = y }) (up g)))
  message_few code (message.Release x) s g = beside (release x) s (releases x s.work g)
  message_few code (message.Start t) s g = stand_gives OfSite (thread_in s.threads t.number) t s (up g)
  message_few code (message.Join x r t) s g = beside (deliver_join x r t) s (joins x r t s.work g)
  message_few code (message.Joined x v t) s g = at t (deliver_joined x v) s (λ y. test_gives OfHand (waits_for_join y.phase x) _ (λ z. gives_it v y.gift (record { work = s.work; thread = y }) (up g)))
  message_few code (message.Finished x v) s g = finishes x v s g
  message_few code (message.Migrate t) s g = stand_gives OfSite (thread_in s.threads t.number) t s (up g)

-- ALL EVENTS

module _ (a u m : ℕ) (code : List Instr) (o : Options) (s : Server)
    (short : (t : ℕ) (y : ThreadState) (i : Instr) → thread_in s.threads t ≡ Some y → slice_get code y.pc ≡ Some i → stars (access_of i y) (record { work = begin_work s.rest; thread = y }) ≤ 8) (g : Few a u m s.rest) where
  abbrev pub Raised : Server × EntryView → Type 0
  Raised r = Few (a + 16) (u + 16) (m + 16) r.0.rest

  -- one of each is less than sixteen
  raised : (r : Rest) → New a u m r → Few (a + 16) (u + 16) (m + 16) r
  raised r z = fewer (suc a) (suc u) (suc m) (a + 16) (u + 16) (m + 16) (omega arith) (omega arith) (omega arith) z

  -- an event takes at most sixteen of each
  pub raises : (w : What) → Gives Raised (does code o s w)
  raises (Step t) = by (thread_in s.threads t) refl
    where
      at_instr : (y : ThreadState) → thread_in s.threads t ≡ Some y → (i : Option Instr) → slice_get code y.pc ≡ i
          → Gives Raised (option_map (stepped s) (then_some i (λ x. step o.servers x (record { work = begin_work s.rest; thread = y }))))
      at_instr y q None e = tt
      at_instr y q (Some i) e =
          let h : Hand = record { work = begin_work s.rest; thread = y } in
          over_gives (StepFew a u m) Raised (step o.servers i h) (stepped s) (step_few a u m o.servers i h (short t y i q e) g) (λ d z. z)

      by : (x : Option ThreadState) → thread_in s.threads t ≡ x → Gives Raised (option_map (stepped s) (then_some (option_map (λ y. record { work = begin_work s.rest; thread = y }) x) (step_in code o.servers)))
      by None q = tt
      by (Some y) q = at_instr y q (slice_get code y.pc) refl
  raises (Deliver i) =
      over_gives (OfSite a u m) Raised (deliver code i s) (left_by s.events None None)
      (then_gives (OfSite a u m) (slice_get s.rest.inbox i) (λ x. deliver_message code x (received i s)) (λ x q. message_few a u m code x (received i s) g)) (λ x z. raised x.work.rest z)
  raises (Evict w) =
      over_gives (OfSite a u m) Raised (beside_threads (evict_copy w) (begin_at s)) (left_by s.events None None)
      (over_gives (λ (x : Work). New a u m x.rest) (OfSite a u m) (evict_copy w (begin_work s.rest)) _
      (test_gives (λ (x : Work). New a u m x.rest) (can_evict s.rest.cache w) _ (λ q. up a u m (evicts a u m s.rest.cache w g))) (λ x z. z)) (λ x z. raised x.work.rest z)
  raises (Migrate t target) =
      over_gives (OfSite a u m) Raised (migrate t target (begin_at s)) (left_by s.events (Some t) None)
      (then_gives (OfSite a u m) (thread_in s.threads t) _ (λ y q. by y (unpin_all (used_words y) s.rest.cache) refl)) (λ x z. raised x.work.rest z)
    where
      by : (y : ThreadState) (l : Option (List Copy)) → unpin_all (used_words y) s.rest.cache ≡ l
          → Gives (OfSite a u m) (option_map (λ p. record { work = depart target (begin_work s.rest) p; threads = without_thread s.threads t }) (option_map (λ left. (packed (record y { moved_since_step = true }), left)) l))
      by y None e = tt
      by y (Some cs) e = sent a u m _ _ (record s.rest { cache = cs }) (up a u m (unpins_all a u m s.rest.cache (used_words y) cs e g))
