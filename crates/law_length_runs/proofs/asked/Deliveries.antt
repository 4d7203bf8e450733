-- No event but a plain step starts a thread.
use Rattle.std.proofs.Common.{◌≡◌, ◌≤◌, ℕ, zero, suc, ◌+◌, ◌*◌, ◌-◌, ◌==◌, Bool, true, false, if◌then◌else◌, List, Option, Some, None, refl, ◌∙◌, arith}
use Rattle.std.specs.Prelude.{slice_get, option_map, length, take, drop, is_some}
use Rattle.law_runs_whole.specs.Below.law_counts_things.Below.fr_base.Lists.{one, is_in}
use Rattle.law_runs_whole.specs.Below.law_counts_things.Below.fr_base.declared.name.MutexNo.{MutexNo}
use Rattle.law_runs_whole.specs.Below.law_counts_things.Below.fr_base.declared.place.Lval.{Lval}
use Rattle.law_runs_whole.specs.Below.law_counts_things.Below.fr_base.declared.instruction.Instr.{Instr}
use Rattle.law_runs_whole.specs.Below.law_counts_things.Below.fr_base.declared.release.Released.{Released}
use Rattle.law_runs_whole.specs.Below.law_counts_things.Below.fr_base.declared.release.Released.TheVariants as released
use Rattle.law_runs_whole.specs.Below.law_counts_things.Below.fr_base.declared.settings.Options.{Options}
use Rattle.law_runs_whole.specs.Below.law_counts_things.Below.heap_partition.declared.value.Cell.{Cell}
use Rattle.law_runs_whole.specs.Below.law_counts_things.Below.heap_partition.declared.value.Owned.{Owned}
use Rattle.law_runs_whole.specs.Below.law_counts_things.Below.read_cache.Cache.{Copy, can_fill, can_pin, can_evict}
use Rattle.law_runs_whole.specs.Below.law_counts_things.Below.migration.Packing.{used_words, packed, unpin_all}
use Rattle.law_runs_whole.specs.Below.law_counts_things.Below.mutex_home.Mutexes.{ask, give_back, more, less}
use Rattle.law_runs_whole.specs.Below.law_counts_things.Below.mutex_home.declared.answers.Asked.{Asked}
use Rattle.law_runs_whole.specs.Below.law_counts_things.Below.mutex_home.declared.answers.Asked.TheVariants as asked
use Rattle.law_runs_whole.specs.Below.law_counts_things.Below.mutex_home.declared.answers.Back.{Back}
use Rattle.law_runs_whole.specs.Below.law_counts_things.Below.mutex_home.declared.answers.Back.TheVariants as back
use Rattle.law_runs_whole.specs.Below.law_counts_things.Below.join_home.Tasks.{ended, let_go_of}
use Rattle.law_runs_whole.specs.Below.law_counts_things.Below.join_home.Tasks as tasks
use Rattle.law_runs_whole.specs.Below.law_counts_things.Below.join_home.declared.answers.EndedAs.{EndedAs}
use Rattle.law_runs_whole.specs.Below.law_counts_things.Below.join_home.declared.answers.EndedAs.TheVariants as over
use Rattle.law_runs_whole.specs.Below.law_counts_things.Below.thread_state.View.{ThreadState}
use Rattle.law_runs_whole.specs.Below.law_counts_things.Below.thread_state.declared.phase.Phase.TheVariants as phase
use Rattle.law_runs_whole.specs.Below.law_counts_things.Below.thread_state.declared.value.Value.{Value}
use Rattle.law_runs_whole.specs.Below.law_counts_things.Below.thread_state.declared.value.Value.TheVariants as value
use Rattle.law_runs_whole.specs.Below.law_counts_things.Below.server_msgs.declared.message.Message.{Message}
use Rattle.law_runs_whole.specs.Below.law_counts_things.Below.server_msgs.declared.message.Message.TheVariants as message
use Rattle.law_runs_whole.specs.Below.journal.View.{EntryView}
use Rattle.law_runs_whole.specs.Below.journal.declared.act.Act.TheVariants as act
use Rattle.law_runs_whole.specs.Below.server_model.declared.event.What.{What}
use Rattle.law_runs_whole.specs.Below.server_model.declared.event.What.TheVariants.{Step, Deliver, Evict, Migrate}
use Rattle.law_runs_whole.specs.Below.server_model.Servers.{Sent, Server, Cluster, server_at}
use Rattle.law_runs_whole.specs.Below.server_model.Work.{Work, Hand, Site, put_back, then_some, thread_in, at_thread, beside_threads, look_object, with_phase, with_mutexes, with_tasks, used_once}
use Rattle.law_runs_whole.specs.Below.server_model.NewWords.{NewWord, can_grow, issue_placed}
use Rattle.law_runs_whole.specs.Below.server_model.Places.{Spot, in_slot, value_at, set_pointer}
use Rattle.law_runs_whole.specs.Below.server_model.Prepare.{Access, ReadTo, ReadPointer, WriteTo, LendTo, EndRef, passing, write_stars}
use Rattle.law_runs_whole.specs.Below.server_model.Objects.{deliver_fetch, waits_for_cell, filled, deliver_fetched, deliver_move, chased, waits_under, arrived_at, arrived_slot, passed_spot, arrived_write, arrived_lend, arrived_end, arrived, instr_access, deliver_moved, deliver_drop}
use Rattle.law_runs_whole.specs.Below.server_model.Sharing.{given, answer_lock, deliver_lock, waits_for_lock, answer_back, deliver_unlock, deliver_dup, waits_for_dup, give_up_left}
use Rattle.law_runs_whole.specs.Below.server_model.Joining.{answer_join, deliver_join, waits_for_join, got_par, pair_over, end_answer, deliver_finished}
use Rattle.law_runs_whole.specs.Below.server_model.Moving.{depart}
use Rattle.law_runs_whole.specs.Below.server_model.Events.{begin_work, enabled, left_by, release, deliver_message, received, evict_copy, step, step_in, stepped, Stepped, does}
use Rattle.law_runs_whole.specs.Below.server_model.Clusters.{done_at, hand_over_newer, with_server, with_outbox}
use Rattle.law_runs_whole.specs.Below.law_counts_sums.Laws.{Gives}
use Rattle.law_runs_whole.proofs.Below.law_counts_sums.Quiet.{sent_started}
use Rattle.law_runs_whole.proofs.Below.law_counts_sums.Results.{then_gives, map_gives, over_gives, bind_gives, test_gives, stand_gives}
use Rattle.law_runs_whole.proofs.Below.law_counts_things.things.Small.{Of, pointer_put}
use Rattle.law_length_runs.specs.worth.Credit.{begun}
use Rattle.law_length_runs.proofs.worth.Events.{server_set, begun_all}
use Rattle.law_length_runs.specs.asked.Starting.{PlainStepsStartTwo}
use Rattle.law_length_runs.proofs.asked.Steps.{F, places, gives_up_started, few_start}

module _ (n : ℕ) where
  abbrev W : Work → Type 0
  W w = w.rest.started ≡ n

  abbrev H : Hand → Type 0
  H h = Of (F n) h

  abbrev S : Site → Type 0
  S x = x.work.rest.started ≡ n

  -- what changes no thread, and what changes one that is here
  beside : (f : Work → Option Work) (x : Site) → Gives W (f x.work) → Gives S (beside_threads f x)
  beside f x g = over_gives W S (f x.work) (λ w. record x { work = w }) g (λ w a. a)

  at : (t : ℕ) (f : Hand → Option Hand) (x : Site) → ((y : ThreadState) → Gives H (f (record { work = x.work; thread = y }))) → Gives S (at_thread t f x)
  at t f x go = by (thread_in x.threads t)
    where
      by : (o : Option ThreadState) → Gives S (then_some (option_map (λ y. record { work = x.work; thread = y }) o) (λ h. option_map (put_back x.threads) (f h)))
      by None = tt
      by (Some y) = over_gives H S (f (record { work = x.work; thread = y })) (put_back x.threads) (go y) (λ h a. a)

  -- ANSWERS

  uses_it : (v : ℕ) (b : Bool) (h : Hand) → H h → Gives H (used_once v b h)
  uses_it v true h a = a
  uses_it v false h a = test_gives H (can_pin h.work.rest.cache v) _ (λ on. a)

  comes_at : (new : ℕ) (s : Spot) (h : Hand) → H h → Gives H (arrived_at s new h)
  comes_at new s h a = over_gives H H (set_pointer s new h) _ (pointer_put (places n) s new h tt a) (λ h2 b. b)

  comes_slot : (old new i : ℕ) (h : Hand) → H h → Gives H (arrived_slot old new i h)
  comes_slot old new i h a = test_gives H (waits_under old (slice_get h.thread.slots i)) _ (λ on. comes_at new (in_slot i) h a)

  comes_write : (w : Lval) (new : ℕ) (h : Hand) → H h → Gives H (arrived_write w new h)
  comes_write w new h a = then_gives H (passed_spot (write_stars h.thread.passed 0 h (in_slot w.slot))) _ (λ s q. comes_at new s (passing (h.thread.passed + 1) h) a)

  comes_lend : (slot m old new : ℕ) (h : Hand) → H h → Gives H (arrived_lend slot m old new h)
  comes_lend slot zero old new h a = tt
  comes_lend slot (suc zero) old new h a = a
  comes_lend slot (suc (suc m)) old new h a = by (waits_under old (slice_get h.thread.slots (chased m h.thread.slots slot)))
    where
      by : (b : Bool) → Gives H (if b then arrived_at (in_slot (chased m h.thread.slots slot)) new h else Some (with_phase (phase.Taken new) h))
      by true = comes_at new (in_slot (chased m h.thread.slots slot)) h a
      by false = a

  comes_end : (s : Spot) (v : Option Value) (old new : ℕ) (h : Hand) → H h → Gives H (arrived_end s v old new h)
  comes_end s (Some (value.Mut q)) old new h a = by (q.word == old)
    where
      by : (b : Bool) → Gives H (if b then arrived_at s new h else arrived_write q.holder new h)
      by true = comes_at new s h a
      by false = comes_write q.holder new h a
  comes_end s _ old new h a = tt

  comes_for : (x : Option Access) (old new : ℕ) (h : Hand) → H h → Gives H (arrived x old new h)
  comes_for None old new h a = tt
  comes_for (Some (ReadTo w)) old new h a = comes_slot old new (chased (w.depth - 1) h.thread.slots w.slot) h a
  comes_for (Some (ReadPointer w)) old new h a = comes_slot old new (chased (w.depth - 1) h.thread.slots w.slot) h a
  comes_for (Some (WriteTo w)) old new h a = comes_write w new h a
  comes_for (Some (LendTo w)) old new h a = comes_lend w.slot w.depth old new h a
  comes_for (Some (EndRef s)) old new h a = comes_end s (value_at h s) old new h a

  fills : (y : ThreadState) (v : ℕ) (x : Cell) (w : Work) → W w → Gives H (deliver_fetched v x (record { work = w; thread = y }))
  fills y v x w a =
      test_gives H (waits_for_cell y.phase v) _ (λ on. over_gives H H (filled v x (record { work = w; thread = y })) _ (test_gives H (can_fill w.rest.cache v x) _ (λ p. uses_it v (is_in v y.walk) _ a)) (λ h2 u. u))

  comes : (y : ThreadState) (code : List Instr) (old : ℕ) (x : Cell) (w : Work) → W w → Gives H (deliver_moved code old x (record { work = w; thread = y }))
  comes y code old x w a =
      test_gives H (waits_for_cell y.phase old) _ (λ on. bind_gives (λ (m : NewWord). W m.work) H (issue_placed (act.Take x.object old) x w) _ (test_gives (λ (m : NewWord). W m.work) (can_grow w.rest.partition) _ (λ p. a))
      (λ m u. comes_for (instr_access (record { work = w; thread = y }) (slice_get code y.pc)) old m.word (record { work = m.work; thread = y }) u))

  gives_it : (y : ThreadState) (v : Owned) (w : Work) (g : Option Owned) → W w → Gives H (given v g (record { work = w; thread = y }))
  gives_it y v w None a = a
  gives_it y v w (Some u) a = tt

  goes_on : (y : ThreadState) (u : ℕ) (w : Work) → W w → Gives H (pair_over u (record { work = w; thread = y }))
  goes_on y u w a = map_gives H (got_par u y.phase) _ (λ p q. a)

  -- HOMES

  locks : (m : MutexNo) (s t : ℕ) (w : Work) → W w → Gives W (deliver_lock m s t w)
  locks m s t w a = map_gives W (ask w.rest.mutexes m s t) _ (λ p q. by p.1 (with_mutexes p.0 w) a)
    where
      by : (x : Asked) (w2 : Work) → W w2 → W (answer_lock m s t x w2)
      by asked.Queued w2 b = b
      by (asked.Granted v) w2 b = sent_started w2.rest _ _ ∙ b

  unlocks : (m : MutexNo) (v : Owned) (w : Work) → W w → Gives W (deliver_unlock m v w)
  unlocks m v w a = map_gives W (give_back w.rest.mutexes m v) _ (λ p q. by p.1 (with_mutexes p.0 w) a)
    where
      by : (x : Back) (w2 : Work) → W w2 → W (answer_back m x w2)
      by (back.Next s t u) w2 b = sent_started w2.rest _ _ ∙ b
      by (back.Ended u) w2 b = gives_up_started u w2 ∙ b
      by back.Kept w2 b = b

  left_over : (o : Option Owned) (w : Work) → W w → W (give_up_left o w)
  left_over None w a = a
  left_over (Some v) w a = gives_up_started v w ∙ a

  joins : (u s asker : ℕ) (w : Work) → W w → Gives W (deliver_join u s asker w)
  joins u s asker w a = map_gives W (tasks.ask w.rest.tasks u s asker) _ (λ p q. by p.1 (with_tasks p.0 w) a)
    where
      by : (x : Option Owned) (w2 : Work) → W w2 → W (answer_join u s asker x w2)
      by None w2 b = b
      by (Some v) w2 b = sent_started w2.rest _ _ ∙ b

  releases : (x : Released) (w : Work) → W w → Gives W (release x w)
  releases (released.Mutex m) w a = map_gives W (less w.rest.mutexes m) _ (λ p q. left_over p.1 (with_mutexes p.0 w) a)
  releases (released.Task u) w a = map_gives W (let_go_of w.rest.tasks u) _ (λ p q. left_over p.1 (with_tasks p.0 w) a)

  finishes : (u : ℕ) (v : Owned) (x : Site) → S x → Gives S (deliver_finished u v x)
  finishes u v x a = then_gives S (ended x.work.rest.tasks u v) _ (λ p q. by p.1 (record x { work = with_tasks p.0 x.work }) a)
    where
      by : (e : EndedAs) (x2 : Site) → S x2 → Gives S (end_answer u e x2)
      by (over.Answer s t g) x2 b = sent_started x2.work.rest _ _ ∙ b
      by (over.Both parent) x2 b = at parent (pair_over u) x2 (λ y. goes_on y u x2.work b)
      by (over.LetGo g) x2 b = gives_up_started g x2.work ∙ b
      by over.Kept x2 b = b

  -- ALL MESSAGES

  message_starts : (code : List Instr) (m : Message) (x : Site) → S x → Gives S (deliver_message code m x)
  message_starts code (message.Fetch w o s t) x a = beside (deliver_fetch w o s t) x (map_gives W (look_object x.work.rest.partition w o) _ (λ c q. sent_started x.work.rest _ _ ∙ a))
  message_starts code (message.Fetched w u t) x a = at t (deliver_fetched w u) x (λ y. fills y w u x.work a)
  message_starts code (message.Move w o s t) x a = beside (deliver_move w o s t) x (map_gives W (look_object x.work.rest.partition w o) _ (λ c q. sent_started _ _ _ ∙ a))
  message_starts code (message.Moved w u t) x a = at t (deliver_moved code w u) x (λ y. comes y code w u x.work a)
  message_starts code (message.Drop w o) x a = beside (deliver_drop w o) x (map_gives W (look_object x.work.rest.partition w o) _ (λ c q. gives_up_started c.value _ ∙ a))
  message_starts code (message.Lock m s t) x a = beside (deliver_lock m s t) x (locks m s t x.work a)
  message_starts code (message.Granted m v t) x a = at t _ x (λ y. test_gives H (waits_for_lock y.phase m) _ (λ on. gives_it y v x.work y.gift a))
  message_starts code (message.Unlock m v) x a = beside (deliver_unlock m v) x (unlocks m v x.work a)
  message_starts code (message.Dup m s t) x a = beside (deliver_dup m s t) x (map_gives W (more x.work.rest.mutexes m) _ (λ ms q. sent_started _ _ _ ∙ a))
  message_starts code (message.Dupped m t) x a = at t _ x (λ y. test_gives H (waits_for_dup y.phase m) _ (λ on. gives_it y _ x.work y.gift a))
  message_starts code (message.Release m) x a = beside (release m) x (releases m x.work a)
  message_starts code (message.Start t) x a = stand_gives S (thread_in x.threads t.number) t x a
  message_starts code (message.Join u s t) x a = beside (deliver_join u s t) x (joins u s t x.work a)
  message_starts code (message.Joined u v t) x a = at t _ x (λ y. test_gives H (waits_for_join y.phase u) _ (λ on. gives_it y v x.work y.gift a))
  message_starts code (message.Finished u v) x a = finishes u v x a
  message_starts code (message.Migrate t) x a = stand_gives S (thread_in x.threads t.number) t x a

-- ALL EVENTS

module _ (code : List Instr) (o : Options) (s : Server) where
  abbrev Few : Server × EntryView → Type 0
  Few r = r.0.rest.started ≤ s.rest.started + 2 * one (is_some r.1.done)

  n : ℕ
  n = s.rest.started

  stepping : (t : ℕ) → Gives Few (does code o s (Step t))
  stepping t = by (thread_in s.threads t)
    where
      by : (x : Option ThreadState) → Gives Few (option_map (stepped s) (then_some (option_map (λ y. record { work = begin_work s.rest; thread = y }) x) (step_in code o.servers)))
      by None = tt
      by (Some y) =
          let h : Hand = record { work = begin_work s.rest; thread = y } in
          over_gives (λ (d : Stepped). d.hand.work.rest.started ≤ s.rest.started + 2 * one (is_some d.names)) Few (step_in code o.servers h) (stepped s)
          (then_gives (λ (d : Stepped). d.hand.work.rest.started ≤ s.rest.started + 2 * one (is_some d.names)) (slice_get code y.pc) (λ i. step o.servers i h) (λ i z. few_start s.rest.started o.servers i h refl)) (λ d a. a)

  delivering : (i : ℕ) → Gives Few (does code o s (Deliver i))
  delivering i = by (slice_get s.rest.inbox i)
    where
      by : (m : Option Message) → Gives Few (option_map (left_by s.events None None) (then_some m (λ x. deliver_message code x (received i s))))
      by None = tt
      by (Some m) = over_gives (S s.rest.started) Few (deliver_message code m (received i s)) (left_by s.events None None) (message_starts s.rest.started code m (received i s) refl) (λ x a. omega (arith, a))

  evicting : (w : ℕ) → Gives Few (does code o s (Evict w))
  evicting w = by (can_evict s.rest.cache w)
    where
      by : (q : Bool) → Gives Few (option_map (left_by s.events None None) (option_map (λ x. record (Rattle.law_runs_whole.specs.Below.server_model.Events.begin_at s) { work = x }) (if q then Some (Rattle.law_runs_whole.specs.Below.server_model.Work.note (act.Evict w) (Rattle.law_runs_whole.specs.Below.server_model.Work.with_cache (Rattle.law_runs_whole.specs.Below.law_counts_things.Below.read_cache.Cache.evict s.rest.cache w) (begin_work s.rest))) else None)))
      by true = omega arith
      by false = tt

  leaving : (t target : ℕ) → Gives Few (does code o s (Migrate t target))
  leaving t target = by (thread_in s.threads t)
    where
      packs : (y : ThreadState) (l : Option (List Copy))
          → Gives Few (option_map (left_by s.events (Some t) None) (option_map (λ p. record { work = depart target (begin_work s.rest) p; threads = Rattle.law_runs_whole.specs.Below.server_model.Work.without_thread s.threads t }) (option_map (λ left. (packed (record y { moved_since_step = true }), left)) l)))
      packs y None = tt
      packs y (Some cs) = let q = sent_started (record s.rest { cache = cs }) target (message.Migrate (packed (record y { moved_since_step = true }))) in omega (arith, q)

      by : (x : Option ThreadState)
          → Gives Few
          (option_map (left_by s.events (Some t) None)
          (then_some x (λ y. option_map (λ p. record { work = depart target (begin_work s.rest) p; threads = Rattle.law_runs_whole.specs.Below.server_model.Work.without_thread s.threads t }) (option_map (λ left. (packed (record y { moved_since_step = true }), left)) (unpin_all (used_words y) s.rest.cache)))))
      by None = tt
      by (Some y) = packs y (unpin_all (used_words y) s.rest.cache)

  each : (w : What) → Gives Few (does code o s w)
  each (Step t) = stepping t
  each (Deliver i) = delivering i
  each (Evict w) = evicting w
  each (Migrate t target) = leaving t target

pub plain_steps_start_two : PlainStepsStartTwo
plain_steps_start_two k e = by (server_at k.servers e.server) refl
  where
    After : Cluster × EntryView → Type 0
    After d = begun d.0 ≤ begun k + 2 * one (is_some d.1.done)

    done : (s : Server) → server_at k.servers e.server ≡ Some s → (r : Server × EntryView) → r.0.rest.started ≤ s.rest.started + 2 * one (is_some r.1.done) → After (record k { servers = hand_over_newer e.server (length s.rest.outbox) r.0 k.servers }, r.1)
    done s q r a =
        let older : ℕ = length s.rest.outbox in
        let kept : Server = with_outbox (take older r.0.rest.outbox) r.0 in
        let news : List Sent = drop older r.0.rest.outbox in
        omega (arith, a, begun_all news (with_server k.servers e.server kept), server_set (λ (x : Server). x.rest.started) k.servers e.server s kept q)

    by : (o : Option Server) → server_at k.servers e.server ≡ o → Gives After (then_some o (λ s. option_map (λ d. (record k { servers = hand_over_newer e.server (length s.rest.outbox) d.0 k.servers }, d.1)) (done_at k e.what s)))
    by None q = tt
    by (Some s) q =
        over_gives (Few k.code k.options s) After (done_at k e.what s) _ (test_gives (Few k.code k.options s) (enabled k.options s e.what) _ (λ on. each k.code k.options s e.what)) (λ d a. done s q d a)
