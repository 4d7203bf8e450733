-- The marks that threads of a number have, in that they moved since their last plain step: what a step and a delivery leave of them.
use Rattle.std.proofs.Common.{◌≡◌, ◌≤◌, ℕ, zero, suc, ◌+◌, ◌-◌, ◌==◌, ◌&&◌, Bool, true, false, if◌then◌else◌, List, [], ◌∷◌, ◌++◌, Option, Some, None, refl, sym, ap, subst, ◌∙◌, arith}
use Rattle.std.specs.Prelude.{slice_get, option_map, remove}
use Rattle.law_length_runs.specs.Below.law_counts_things.Below.fr_base.Lists.{tot, one, is_in}
use Rattle.law_length_runs.specs.Below.law_counts_things.Below.fr_base.declared.name.MutexNo.{MutexNo}
use Rattle.law_length_runs.specs.Below.law_counts_things.Below.fr_base.declared.place.Lval.{Lval}
use Rattle.law_length_runs.specs.Below.law_counts_things.Below.fr_base.declared.instruction.Instr.{Instr}
use Rattle.law_length_runs.specs.Below.law_counts_things.Below.fr_base.declared.release.Released.{Released}
use Rattle.law_length_runs.specs.Below.law_counts_things.Below.fr_base.declared.release.Released.TheVariants as released
use Rattle.law_length_runs.specs.Below.law_counts_things.Below.heap_partition.declared.value.Cell.{Cell}
use Rattle.law_length_runs.specs.Below.law_counts_things.Below.heap_partition.declared.value.Owned.{Owned}
use Rattle.law_length_runs.specs.Below.law_counts_things.Below.heap_partition.declared.value.Owned.TheVariants as owned
use Rattle.law_length_runs.specs.Below.law_counts_things.Below.read_cache.Cache.{can_fill, can_pin}
use Rattle.law_length_runs.specs.Below.law_counts_things.Below.mutex_home.Mutexes.{can_make, ask, give_back, more, less}
use Rattle.law_length_runs.specs.Below.law_counts_things.Below.mutex_home.declared.answers.Asked.{Asked}
use Rattle.law_length_runs.specs.Below.law_counts_things.Below.mutex_home.declared.answers.Asked.TheVariants as asked
use Rattle.law_length_runs.specs.Below.law_counts_things.Below.mutex_home.declared.answers.Back.{Back}
use Rattle.law_length_runs.specs.Below.law_counts_things.Below.mutex_home.declared.answers.Back.TheVariants as back
use Rattle.law_length_runs.specs.Below.law_counts_things.Below.join_home.Tasks.{can_begin, can_begin_pair, ended, let_go_of}
use Rattle.law_length_runs.specs.Below.law_counts_things.Below.join_home.Tasks as tasks
use Rattle.law_length_runs.specs.Below.law_counts_things.Below.join_home.declared.answers.EndedAs.{EndedAs}
use Rattle.law_length_runs.specs.Below.law_counts_things.Below.join_home.declared.answers.EndedAs.TheVariants as over
use Rattle.law_length_runs.specs.Below.law_counts_things.Below.thread_state.View.{ThreadState}
use Rattle.law_length_runs.specs.Below.law_counts_things.Below.thread_state.declared.phase.Phase.TheVariants as phase
use Rattle.law_length_runs.specs.Below.law_counts_things.Below.thread_state.declared.value.Value.{Value}
use Rattle.law_length_runs.specs.Below.law_counts_things.Below.thread_state.declared.value.Value.TheVariants as value
use Rattle.law_length_runs.specs.Below.law_counts_things.Below.server_msgs.declared.message.Message.{Message}
use Rattle.law_length_runs.specs.Below.law_counts_things.Below.server_msgs.declared.message.Message.TheVariants as message
use Rattle.law_length_runs.specs.Below.law_counts_things.Below.global_addr.Words.{server_of}
use Rattle.law_length_runs.specs.Below.law_counts_things.Below.journal.declared.act.Act.TheVariants as act
use Rattle.law_length_runs.specs.Below.law_counts_things.Below.server_model.Servers.{Sent, Rest, Server}
use Rattle.law_length_runs.specs.Below.law_counts_things.Below.server_model.Work.{Work, Hand, Site, sent_from, receive, put_back, then_some, thread_in, at_thread, beside_threads, look_object, with_phase, with_mutexes, with_tasks, used_once}
use Rattle.law_length_runs.specs.Below.law_counts_things.Below.server_model.NewWords.{NewWord, can_grow, issue_placed}
use Rattle.law_length_runs.specs.Below.law_counts_things.Below.server_model.Start.{next_thread, start_thread, capture}
use Rattle.law_length_runs.specs.Below.law_counts_things.Below.server_model.Drop.{home_of, give_up}
use Rattle.law_length_runs.specs.Below.law_counts_things.Below.server_model.Places.{Spot, in_slot, value_at, set_pointer}
use Rattle.law_length_runs.specs.Below.law_counts_things.Below.server_model.Prepare.{Access, ReadTo, ReadPointer, WriteTo, LendTo, EndRef, passing, write_stars}
use Rattle.law_length_runs.specs.Below.law_counts_things.Below.server_model.Commit.{label_dropped, go_on, next_object, push_box, begun, pair_begun, spawn_with, end_with}
use Rattle.law_length_runs.specs.Below.law_counts_things.Below.server_model.Objects.{deliver_fetch, waits_for_cell, filled, deliver_fetched, deliver_move, chased, waits_under, arrived_at, arrived_slot, passed_spot, arrived_write, arrived_lend, arrived_end, arrived, instr_access, deliver_moved, deliver_drop}
use Rattle.law_length_runs.specs.Below.law_counts_things.Below.server_model.Sharing.{given, answer_lock, deliver_lock, waits_for_lock, answer_back, deliver_unlock, deliver_dup, waits_for_dup, give_up_left}
use Rattle.law_length_runs.specs.Below.law_counts_things.Below.server_model.Joining.{arrive, answer_join, deliver_join, waits_for_join, got_par, pair_over, end_answer, deliver_finished}
use Rattle.law_length_runs.specs.Below.law_counts_things.Below.server_model.Events.{release, deliver_message, step}
use Rattle.law_length_runs.specs.Below.law_counts_things.Below.law_counts_sums.Laws.{Gives}
use Rattle.law_length_runs.proofs.Below.law_counts_things.Below.law_counts_sums.Results.{then_gives, map_gives, over_gives, bind_gives, test_gives, stand_gives}
use Rattle.law_length_runs.proofs.Below.law_counts_things.things.Small.{Of, Places, Small, pointer_put}
use Rattle.law_length_runs.proofs.Below.law_counts_things.things.Plainly.{Settles, moves_by, Acts, EndsStep, steps}
use Rattle.law_length_runs.proofs.Below.law_counts_things.things.Goes.{Any, AnyWord, puts_by}
use Rattle.law_length_runs.proofs.worth.Lists.{tot_append, thread_set, thread_found, thread_comes}
use Rattle.law_length_runs.proofs.asked.Steps.{HasAsked}

-- a weight of the thread that is in a parcel
abbrev pub parcel_of : (ThreadState → ℕ) → Message → ℕ
parcel_of g (message.Start y) = g y
parcel_of g (message.Migrate y) = g y
parcel_of g m = 0

module _ (n : ℕ) where
  -- a thread of that number that has moved since its last plain step
  abbrev pub mark : ThreadState → ℕ
  mark y = one ((y.number == n) && y.moved_since_step)

  -- in a parcel
  abbrev pub parcel : Message → ℕ
  parcel m = parcel_of mark m

  abbrev pub posted : Sent → ℕ
  posted x = parcel x.message

  abbrev pub parcels : Rest → ℕ
  parcels r = tot parcel r.inbox + tot posted r.outbox

  abbrev pub at_server : Server → ℕ
  at_server s = tot mark s.threads + parcels s.rest

  -- MESSAGES

  pub sends : (r : Rest) (t : ℕ) (m : Message) → parcels (sent_from r t m) ≡ parcels r + parcel m
  sends r t m = by (t == r.number)
    where
      by : (q : Bool) → parcels (if q then record r { inbox = r.inbox ++ m ∷ [] } else record r { outbox = r.outbox ++ record { target = t; message = m } ∷ [] }) ≡ parcels r + parcel m
      by true = omega (arith, tot_append parcel r.inbox (m ∷ []))
      by false = omega (arith, tot_append posted r.outbox (record { target = t; message = m } ∷ []))

  pub receives : (r : Rest) (i : ℕ) (m : Message) → slice_get r.inbox i ≡ Some m → parcels (receive r i) + parcel m ≡ parcels r
  receives r i m e = omega (arith, by r.inbox i e)
    where
      by : (ms : List Message) (i : ℕ) → slice_get ms i ≡ Some m → tot parcel (remove ms i) + parcel m ≡ tot parcel ms
      by [] i e = absurd (cc e)
      by (x ∷ ms) zero e = let same : x ≡ m = cc in let w : parcel x ≡ parcel m = ap parcel same in omega (arith, w)
      by (x ∷ ms) (suc i) e = omega (arith, by ms i e)

  module _ (c : ℕ) where
    abbrev pub Within : Rest → Type 0
    Within r = c ≤ parcels r

    -- a message that is sent makes them no fewer
    pub posts : (r : Rest) (t : ℕ) (m : Message) → Within r → Within (sent_from r t m)
    posts r t m g = omega (arith, g, sends r t m)

    pub gives_up : (v : Owned) (w : Work) → Within w.rest → Within (give_up v w).rest
    gives_up (owned.Box p) w g = posts w.rest _ _ g
    gives_up (owned.Mutex m) w g = posts w.rest _ _ g
    gives_up (owned.Task t) w g = posts w.rest _ _ g
    gives_up owned.Nothing w g = g
    gives_up owned.Unit w g = g
    gives_up (owned.Int i) w g = g

    -- STEPS

    module _ (y : ThreadState) where
      -- in the middle of a step
      abbrev pub F : Rest → ThreadState → Type 0
      F r t = (t.number ≡ y.number) × (t.moved_since_step ≡ y.moved_since_step) × Within r

      -- at its end: one that has asked has the mark that it had
      abbrev pub E : Rest → ThreadState → Type 0
      E r t = (t.number ≡ y.number) × (HasAsked t.phase → t.moved_since_step ≡ y.moved_since_step) × Within r

      pub places : Places F Any AnyWord
      places = record {
        spot = λ s v h g e. tt;
        puts = λ s v h z a g. puts_by F (λ vs r t x. x) (λ vs r t x. x) (λ h2 w x g2. g2) s v h g;
        worded = λ w v new a x e. tt;
        word_of = λ r a. tt;
        points = λ v p a e. tt;
      }

      small : Small F E Any AnyWord
      small = record {
        places = places;
        tints = λ p h a g e. tt;
        renews = λ p h a g e. (tt, g);
        pinned = λ r a. tt;
        pins = λ w h e g. g;
        uses = λ w h e g. g;
        asks_copy = λ p h a e g. (g.0, (λ z. g.1), posts h.work.rest (server_of p.word) (message.Fetch p.word p.object h.work.rest.number h.thread.number) g.2);
        asks_object = λ p h a e g. (g.0, (λ z. g.1), posts h.work.rest (server_of p.word) (message.Move p.word p.object h.work.rest.number h.thread.number) g.2);
      }

      over_main : (main : Bool) (v : Owned) (h : Hand) → Of F h → Gives (λ h2. Settles E (with_phase phase.Over h2)) (end_with main v h)
      over_main true v h g = λ cs z. (g.0, (λ a. absurd a), gives_up v (label_dropped (value.Own v) h).work g.2)
      over_main false v h g = λ cs z. (g.0, (λ a. absurd a), posts h.work.rest h.thread.home (message.Finished h.thread.number v) g.2)

      -- threads that are noted, and one that starts
      abbrev Begun : Hand → Type 0
      Begun h2 = (h2.thread.number ≡ y.number) × Within h2.work.rest

      one_starts : (servers pc : ℕ) (vs : List Value) (w : Work) → Within w.rest → Within (start_thread servers pc vs w).rest
      one_starts servers pc vs w g = posts (record w.rest { started = w.rest.started + 1 }) _ _ g

      acts : (servers : ℕ) (i : Instr) → Acts servers F E Any Any AnyWord i
      acts servers i = record {
        places = places;
        number = λ m. tt;
        unit_value = tt;
        nothing_value = tt;
        gone = tt;
        owned_temp = λ v a. tt;
        shared_slot = λ j. tt;
        mutable_slot = λ j. tt;
        second = λ v u a e. tt;
        shared = λ v u a e. tt;
        lent = λ w d e z v u h a g x. tt;
        off_temps = λ h g. g;
        off_slots = λ h g. g;
        on_temps = λ v h a g. g;
        on_slots = λ v h a g. g;
        gives = λ v h a g. (g.0, g.1, gives_up v h.work g.2);
        unpins = λ w h e g. g;
        gift = λ v h e g. (tt, g);
        boxes = λ o e v h a g.
            over_gives (λ (x : NewWord). Within x.work.rest) (λ h2. Settles E (go_on h2)) (issue_placed (act.Make (next_object h)) (record { object = next_object h; value = v }) h.work) (λ x. push_box v x h)
            (test_gives (λ (x : NewWord). Within x.work.rest) (can_grow h.work.rest.partition) _ (λ z. g.2)) (λ x w cs z. (g.0, (λ a2. absurd a2), w));
        mutexes = λ o e v h a g. test_gives (λ h2. Settles E (go_on h2)) (can_make h.work.rest.mutexes) _ (λ z cs z2. (g.0, (λ a2. absurd a2), g.2));
        spawns = λ cs pc e h g.
            let u = next_thread h.work.rest in
            then_gives (λ h2. Settles E (go_on h2)) (capture false cs.items h.thread.slots) (spawn_with servers pc u h) (λ new q.
            over_gives Begun (λ h2. Settles E (go_on h2)) (begun h) _ (test_gives Begun (can_begin h.work.rest.tasks u) _ (λ z. (g.0, g.2))) (λ h2 x cs2 z. (x.0, (λ a. absurd a), one_starts servers pc new.0 h2.work x.1)));
        unlocks = λ e m v h a d g. (g.0, g.1, posts h.work.rest m.home (message.Unlock m v) g.2);
        holds = λ w e m a. tt;
        goes = λ o h g cs z. (g.0, (λ a. absurd a), g.2);
        pairs = λ cs pc ds other e h g.
            let u = next_thread h.work.rest in
            then_gives (Settles E) (capture true cs.items h.thread.slots) _ (λ first p. then_gives (Settles E) (capture true ds.items first.1) _ (λ second q.
            over_gives Begun (Settles E) (pair_begun h u (u + 1)) _ (test_gives Begun (can_begin_pair h.work.rest.tasks h.thread.number u (u + 1)) _ (λ z. (g.0, g.2)))
            (λ h2 x cs2 z. (x.0, (λ a. absurd a), one_starts servers other second.0 (start_thread servers pc first.0 h2.work) (one_starts servers pc first.0 h2.work x.1)))));
        ends = λ o e main v h a g. over_main main v h g;
        asks_join = λ o e u h q a g. (g.0, (λ z. g.1), posts h.work.rest (home_of u) (message.Join u h.work.rest.number h.thread.number) g.2);
        asks_dup = λ w e m h q a g. (g.0, (λ z. g.1), posts h.work.rest m.home (message.Dup m h.work.rest.number h.thread.number) g.2);
        asks_lock = λ w e m h q a g. (g.0, (λ z. g.1), posts h.work.rest m.home (message.Lock m h.work.rest.number h.thread.number) g.2);
      }

      pub step_marks : (servers : ℕ) (i : Instr) (h : Hand) → Of F h → Gives (EndsStep E) (step servers i h)
      step_marks servers i h g = steps i h (λ f. small) (λ f m h2 u. u) (acts servers i) (λ h2 s q u. moves_by i s h2 (λ w d v z. tt)) g

    -- DELIVERIES

    abbrev W : Work → Type 0
    W w = Within w.rest

    abbrev H : ThreadState → Hand → Type 0
    H y = Of (F y)

    -- so many marks at least at a site, beside those that these threads had
    abbrev pub S : List ThreadState → Site → Type 0
    S ts x = c + tot mark ts ≤ parcels x.work.rest + tot mark x.threads

    beside : (f : Work → Option Work) (x : Site) → Gives W (f x.work) → Gives (S x.threads) (beside_threads f x)
    beside f x g = over_gives W (S x.threads) (f x.work) (λ w. record x { work = w }) g (λ w a. omega (arith, a))

    at : (t : ℕ) (f : Hand → Option Hand) (x : Site) → ((y : ThreadState) → Gives (H y) (f (record { work = x.work; thread = y }))) → Gives (S x.threads) (at_thread t f x)
    at t f x go = by (thread_in x.threads t) refl
      where
        put : (y : ThreadState) → thread_in x.threads t ≡ Some y → (h : Hand) → H y h → S x.threads (put_back x.threads h)
        put y q h a =
            let here : thread_in x.threads h.thread.number ≡ Some y = subst (λ m. thread_in x.threads m ≡ Some y) (sym a.0) (thread_found x.threads t y q) in
            let w : mark h.thread ≡ mark y = ap (λ m. one ((m == n) && h.thread.moved_since_step)) a.0 ∙ ap (λ b. one ((y.number == n) && b)) a.1 in
            omega (arith, a.2, w, thread_set mark x.threads y h.thread here)

        by : (o : Option ThreadState) → thread_in x.threads t ≡ o → Gives (S x.threads) (then_some (option_map (λ y. record { work = x.work; thread = y }) o) (λ h. option_map (put_back x.threads) (f h)))
        by None q = tt
        by (Some y) q = over_gives (H y) (S x.threads) (f (record { work = x.work; thread = y })) (put_back x.threads) (go y) (λ h a. put y q h a)

    -- ANSWERS

    uses_it : (y : ThreadState) (v : ℕ) (b : Bool) (h : Hand) → H y h → Gives (H y) (used_once v b h)
    uses_it y v true h a = a
    uses_it y v false h a = test_gives (H y) (can_pin h.work.rest.cache v) _ (λ on. a)

    comes_at : (y : ThreadState) (new : ℕ) (s : Spot) (h : Hand) → H y h → Gives (H y) (arrived_at s new h)
    comes_at y new s h a = over_gives (H y) (H y) (set_pointer s new h) _ (pointer_put (places y) s new h tt a) (λ h2 b. b)

    comes_slot : (y : ThreadState) (old new i : ℕ) (h : Hand) → H y h → Gives (H y) (arrived_slot old new i h)
    comes_slot y old new i h a = test_gives (H y) (waits_under old (slice_get h.thread.slots i)) _ (λ on. comes_at y new (in_slot i) h a)

    comes_write : (y : ThreadState) (w : Lval) (new : ℕ) (h : Hand) → H y h → Gives (H y) (arrived_write w new h)
    comes_write y w new h a = then_gives (H y) (passed_spot (write_stars h.thread.passed 0 h (in_slot w.slot))) _ (λ s q. comes_at y new s (passing (h.thread.passed + 1) h) a)

    comes_lend : (y : ThreadState) (slot m old new : ℕ) (h : Hand) → H y h → Gives (H y) (arrived_lend slot m old new h)
    comes_lend y slot zero old new h a = tt
    comes_lend y slot (suc zero) old new h a = a
    comes_lend y slot (suc (suc m)) old new h a = by (waits_under old (slice_get h.thread.slots (chased m h.thread.slots slot)))
      where
        by : (b : Bool) → Gives (H y) (if b then arrived_at (in_slot (chased m h.thread.slots slot)) new h else Some (with_phase (phase.Taken new) h))
        by true = comes_at y new (in_slot (chased m h.thread.slots slot)) h a
        by false = a

    comes_end : (y : ThreadState) (s : Spot) (v : Option Value) (old new : ℕ) (h : Hand) → H y h → Gives (H y) (arrived_end s v old new h)
    comes_end y s (Some (value.Mut q)) old new h a = by (q.word == old)
      where
        by : (b : Bool) → Gives (H y) (if b then arrived_at s new h else arrived_write q.holder new h)
        by true = comes_at y new s h a
        by false = comes_write y q.holder new h a
    comes_end y s _ old new h a = tt

    comes_for : (y : ThreadState) (x : Option Access) (old new : ℕ) (h : Hand) → H y h → Gives (H y) (arrived x old new h)
    comes_for y None old new h a = tt
    comes_for y (Some (ReadTo w)) old new h a = comes_slot y old new (chased (w.depth - 1) h.thread.slots w.slot) h a
    comes_for y (Some (ReadPointer w)) old new h a = comes_slot y old new (chased (w.depth - 1) h.thread.slots w.slot) h a
    comes_for y (Some (WriteTo w)) old new h a = comes_write y w new h a
    comes_for y (Some (LendTo w)) old new h a = comes_lend y w.slot w.depth old new h a
    comes_for y (Some (EndRef s)) old new h a = comes_end y s (value_at h s) old new h a

    fills : (y : ThreadState) (v : ℕ) (x : Cell) (w : Work) → W w → Gives (H y) (deliver_fetched v x (record { work = w; thread = y }))
    fills y v x w a =
        test_gives (H y) (waits_for_cell y.phase v) _ (λ on. over_gives (H y) (H y) (filled v x (record { work = w; thread = y })) _ (test_gives (H y) (can_fill w.rest.cache v x) _ (λ p. uses_it y v (is_in v y.walk) _ (refl, refl, a))) (λ h2 u. u))

    comes : (y : ThreadState) (code : List Instr) (old : ℕ) (x : Cell) (w : Work) → W w → Gives (H y) (deliver_moved code old x (record { work = w; thread = y }))
    comes y code old x w a =
        test_gives (H y) (waits_for_cell y.phase old) _ (λ on. bind_gives (λ (m : NewWord). W m.work) (H y) (issue_placed (act.Take x.object old) x w) _ (test_gives (λ (m : NewWord). W m.work) (can_grow w.rest.partition) _ (λ p. a))
        (λ m u. comes_for y (instr_access (record { work = w; thread = y }) (slice_get code y.pc)) old m.word (record { work = m.work; thread = y }) (refl, refl, u)))

    gives_it : (y : ThreadState) (v : Owned) (w : Work) (g : Option Owned) → W w → Gives (H y) (given v g (record { work = w; thread = y }))
    gives_it y v w None a = (refl, refl, a)
    gives_it y v w (Some u) a = tt

    goes_on : (y : ThreadState) (u : ℕ) (w : Work) → W w → Gives (H y) (pair_over u (record { work = w; thread = y }))
    goes_on y u w a = map_gives (H y) (got_par u y.phase) _ (λ p q. (refl, refl, a))

    -- HOMES

    locks : (m : MutexNo) (s t : ℕ) (w : Work) → W w → Gives W (deliver_lock m s t w)
    locks m s t w a = map_gives W (ask w.rest.mutexes m s t) _ (λ p q. by p.1 (with_mutexes p.0 w) a)
      where
        by : (x : Asked) (w2 : Work) → W w2 → W (answer_lock m s t x w2)
        by asked.Queued w2 b = b
        by (asked.Granted v) w2 b = posts w2.rest _ _ b

    unlocks : (m : MutexNo) (v : Owned) (w : Work) → W w → Gives W (deliver_unlock m v w)
    unlocks m v w a = map_gives W (give_back w.rest.mutexes m v) _ (λ p q. by p.1 (with_mutexes p.0 w) a)
      where
        by : (x : Back) (w2 : Work) → W w2 → W (answer_back m x w2)
        by (back.Next s t u) w2 b = posts w2.rest _ _ b
        by (back.Ended u) w2 b = gives_up u w2 b
        by back.Kept w2 b = b

    left_over : (o : Option Owned) (w : Work) → W w → W (give_up_left o w)
    left_over None w a = a
    left_over (Some v) w a = gives_up v w a

    joins : (u s asker : ℕ) (w : Work) → W w → Gives W (deliver_join u s asker w)
    joins u s asker w a = map_gives W (tasks.ask w.rest.tasks u s asker) _ (λ p q. by p.1 (with_tasks p.0 w) a)
      where
        by : (x : Option Owned) (w2 : Work) → W w2 → W (answer_join u s asker x w2)
        by None w2 b = b
        by (Some v) w2 b = posts w2.rest _ _ b

    releases : (x : Released) (w : Work) → W w → Gives W (release x w)
    releases (released.Mutex m) w a = map_gives W (less w.rest.mutexes m) _ (λ p q. left_over p.1 (with_mutexes p.0 w) a)
    releases (released.Task u) w a = map_gives W (let_go_of w.rest.tasks u) _ (λ p q. left_over p.1 (with_tasks p.0 w) a)

    finishes : (u : ℕ) (v : Owned) (x : Site) → W x.work → Gives (S x.threads) (deliver_finished u v x)
    finishes u v x a = then_gives (S x.threads) (ended x.work.rest.tasks u v) _ (λ p q. by p.1 (with_tasks p.0 x.work) a)
      where
        by : (e : EndedAs) (w2 : Work) → W w2 → Gives (S x.threads) (end_answer u e (record x { work = w2 }))
        by (over.Answer s t g) w2 b = (let l = posts w2.rest s (message.Joined u g t) b in omega (arith, l))
        by (over.Both parent) w2 b = at parent (pair_over u) (record x { work = w2 }) (λ y. goes_on y u w2 b)
        by (over.LetGo g) w2 b = (let l = gives_up g w2 b in omega (arith, l))
        by over.Kept w2 b = omega (arith, b)

    -- a parcel's thread stands there then
    arrives : (t : ThreadState) (x : Site) → W x.work → Gives (λ (z : Site). c + mark t + tot mark x.threads ≤ parcels z.work.rest + tot mark z.threads) (arrive t x)
    arrives t x a = stand_gives (λ (z : Site). c + mark t + tot mark x.threads ≤ parcels z.work.rest + tot mark z.threads) (thread_in x.threads t.number) t x (omega (arith, a, thread_comes mark x.threads t))

    -- ALL MESSAGES

    -- what is there after a message
    abbrev pub After : Message → List ThreadState → Site → Type 0
    After m ts x = c + parcel m + tot mark ts ≤ parcels x.work.rest + tot mark x.threads

    -- one that is no parcel
    plain : (x : Site) (o : Option Site) → Gives (S x.threads) o → Gives (λ (z : Site). c + 0 + tot mark x.threads ≤ parcels z.work.rest + tot mark z.threads) o
    plain x None g = tt
    plain x (Some x2) g = omega (arith, g)

    pub message_marks : (code : List Instr) (m : Message) (x : Site) → W x.work → Gives (After m x.threads) (deliver_message code m x)
    message_marks code (message.Fetch w o s t) x a = plain x _ (beside (deliver_fetch w o s t) x (map_gives W (look_object x.work.rest.partition w o) _ (λ u q. posts x.work.rest _ _ a)))
    message_marks code (message.Fetched w u t) x a = plain x _ (at t (deliver_fetched w u) x (λ y. fills y w u x.work a))
    message_marks code (message.Move w o s t) x a = plain x _ (beside (deliver_move w o s t) x (map_gives W (look_object x.work.rest.partition w o) _ (λ u q. posts _ _ _ a)))
    message_marks code (message.Moved w u t) x a = plain x _ (at t (deliver_moved code w u) x (λ y. comes y code w u x.work a))
    message_marks code (message.Drop w o) x a = plain x _ (beside (deliver_drop w o) x (map_gives W (look_object x.work.rest.partition w o) _ (λ u q. gives_up u.value _ a)))
    message_marks code (message.Lock m s t) x a = plain x _ (beside (deliver_lock m s t) x (locks m s t x.work a))
    message_marks code (message.Granted m v t) x a = plain x _ (at t _ x (λ y. test_gives (H y) (waits_for_lock y.phase m) _ (λ on. gives_it y v x.work y.gift a)))
    message_marks code (message.Unlock m v) x a = plain x _ (beside (deliver_unlock m v) x (unlocks m v x.work a))
    message_marks code (message.Dup m s t) x a = plain x _ (beside (deliver_dup m s t) x (map_gives W (more x.work.rest.mutexes m) _ (λ ms q. posts _ _ _ a)))
    message_marks code (message.Dupped m t) x a = plain x _ (at t _ x (λ y. test_gives (H y) (waits_for_dup y.phase m) _ (λ on. gives_it y _ x.work y.gift a)))
    message_marks code (message.Release m) x a = plain x _ (beside (release m) x (releases m x.work a))
    message_marks code (message.Start t) x a = arrives t x a
    message_marks code (message.Join u s t) x a = plain x _ (beside (deliver_join u s t) x (joins u s t x.work a))
    message_marks code (message.Joined u v t) x a = plain x _ (at t _ x (λ y. test_gives (H y) (waits_for_join y.phase u) _ (λ on. gives_it y v x.work y.gift a)))
    message_marks code (message.Finished u v) x a = plain x _ (finishes u v x a)
    message_marks code (message.Migrate t) x a = arrives t x a
