-- Each event of a sound cluster keeps the sums on asking: who waits for an answer, who is noted as a half of a pair, who goes on, and whose result stands somewhere.
use Rattle.std.proofs.Common.{◌≡◌, ℕ, ◌+◌, ◌==◌, ◌&&◌, not, Bool, true, false, nat_lt, if◌then◌else◌, List, [], ◌∷◌, length, Option, Some, None, refl, ap, arith}
use Rattle.std.specs.Prelude.{slice_get, option_map}
use Rattle.coherent_memory.specs.Below.fr_base.declared.release.Released.TheVariants as released
use Rattle.coherent_memory.specs.Below.fr_base.declared.instruction.Instr.{Instr}
use Rattle.coherent_memory.specs.Below.heap_partition.declared.value.Owned.TheVariants as owned
use Rattle.coherent_memory.specs.Below.read_cache.Cache.{Copy, can_evict, evict}
use Rattle.coherent_memory.specs.Below.mutex_home.Mutexes.{Mutex, mutex_in}
use Rattle.coherent_memory.specs.Below.thread_state.View.{ThreadState}
use Rattle.coherent_memory.specs.Below.server_msgs.declared.message.Message.{Message}
use Rattle.coherent_memory.specs.Below.server_msgs.declared.message.Message.TheVariants as message
use Rattle.coherent_memory.specs.Below.journal.View.{EntryView}
use Rattle.coherent_memory.specs.Below.server_model.declared.event.Event.{Event}
use Rattle.coherent_memory.specs.Below.server_model.declared.event.What.{What}
use Rattle.coherent_memory.specs.Below.server_model.declared.event.What.TheVariants.{Step, Deliver, Evict, Migrate}
use Rattle.coherent_memory.specs.Below.server_model.Servers.{Server, Cluster, server_at}
use Rattle.coherent_memory.specs.Below.server_model.Work.{Work, then_some, thread_in}
use Rattle.coherent_memory.specs.Below.server_model.Objects.{deliver_fetch, deliver_fetched, deliver_move, deliver_moved, deliver_drop}
use Rattle.coherent_memory.specs.Below.server_model.Sharing.{deliver_lock, waits_for_lock, deliver_granted, deliver_unlock, deliver_dup, waits_for_dup, deliver_dupped}
use Rattle.coherent_memory.specs.Below.server_model.Joining.{deliver_join, waits_for_join, deliver_joined}
use Rattle.coherent_memory.specs.Below.migration.Packing.{unpin_all, used_words, packed, pack_thread}
use Rattle.coherent_memory.specs.Below.server_model.Start.{next_thread}
use Rattle.coherent_memory.specs.Below.server_model.Events.{can_step, is_ready, has_phase, enabled, begin_work, left_by, received, release, deliver_message, step_in, stepped, does}
use Rattle.coherent_memory.specs.Below.server_model.Clusters.{done_at, act_at, apply}
use Rattle.coherent_memory.specs.Names.{tot, one, if_so}
use Rattle.coherent_memory.specs.Things.{at_home, servers_things, things_of}
use Rattle.coherent_memory.specs.Sharing.{queued_inside}
use Rattle.coherent_memory.specs.Sight.{sight}
use Rattle.coherent_memory.specs.Naming.{servers_wrong, pinned_parcel}
use Rattle.coherent_memory.specs.Walking.{sum_threads}
use Rattle.coherent_memory.specs.Coherent.{IsSound}
use Rattle.coherent_memory.proofs.Names.{and_left}
use Rattle.coherent_memory.proofs.Sums.{server_parts}
use Rattle.law_counts_sums.specs.Laws.{Gives, FewEvents, OneResult, EachEventLeaves, EachEventHandedOver}
use Rattle.law_counts_sums.proofs.Results.{then_gives, over_gives, test_gives, weaker, stand_gives}
use Rattle.law_counts_sums.proofs.Events.{tot-server}
use Rattle.law_counts_sums.proofs.MutexLists.{mutex_goes}
use Rattle.law_counts_sums.proofs.Each.{names_left}
use Rattle.law_counts_sums.proofs.FinishSteps.{notes_rise}
use Rattle.law_counts_sums.proofs.Applied.{handed_on}
use Rattle.law_counts_sums.proofs.KnownSound.{ThreadKnown, ServerKnown, server_known}
use Rattle.law_counts_sums.proofs.Sending.{found, each_event_sends}
use Rattle.law_counts_sums.proofs.Held.{holds_result, all_results}
use Rattle.law_counts_sums.proofs.Fair.{Dues, zeros, even, lets, Asking, asking_kept, fair_none}
use Rattle.law_counts_sums.proofs.FairGets.{awaits_lock, awaits_dup, awaits_join}
use Rattle.law_counts_sums.proofs.GiftsTaken.{no_gift, cell_ungot, ready_ungot, lock_ungot, dup_ungot, join_ungot, gift_fits, lock_takes, dup_takes, join_takes}
use Rattle.law_counts_sums.proofs.Turns.{Turns, turned, made_at, sound_asking, step_turns}
use Rattle.law_counts_sums.proofs.TurnMessages.{SiteTurns, NoneWaits, beside, at, gift_turns, copy_turns, object_turns, fetch_turns, move_turns, drop_turns, lock_turns, unlock_turns, dup_turns, release_turns}
use Rattle.law_counts_sums.proofs.TurnNotes.{join_turns, let_go_turns, arrives, nothing_turns, leaving_turns}
use Rattle.law_counts_sums.proofs.TurnFinished.{finished_turns}
use Rattle.law_counts_sums.proofs.TurnPairs.{pairs_match}

no_items : {X : Type 0} (xs : List X) → length xs ≡ 0 → xs ≡ []
no_items [] e = refl
no_items (x ∷ xs) e = absurd (omega (arith, e))

-- WHAT AN EVENT MAKES AND SPENDS OF WHAT IS OWED

abbrev pub made_step : List Instr → Server → Option ThreadState → ℕ → ℕ
made_step code s None = zeros
made_step code s (Some y) = made_at (slice_get code y.pc) (next_thread s.rest)

abbrev pub made : List Instr → Server → What → ℕ → ℕ
made code s (Step t) = made_step code s (thread_in s.threads t)
made code s w = zeros

abbrev pub spent_message : Message → ℕ → ℕ
spent_message (message.Release (released.Task u)) = λ t. one (u == t)
spent_message m = zeros

abbrev pub spent_waiting : Option Message → ℕ → ℕ
spent_waiting None = zeros
spent_waiting (Some m) = spent_message m

abbrev pub spent_step : List Instr → Option ThreadState → ℕ → ℕ
spent_step code None = zeros
spent_step code (Some y) = λ t. holds_result code t y

abbrev pub spent : List Instr → Server → What → ℕ → ℕ
spent code s (Step t) = spent_step code (thread_in s.threads t)
spent code s (Deliver i) = spent_waiting (slice_get s.rest.inbox i)
spent code s w = zeros

module _ (k : Cluster) (sound : IsSound k) (few : FewEvents k) (number : ℕ) (s : Server) (here : server_at k.servers number ≡ Some s) where
  abbrev n : ℕ
  n = s.rest.number

  abbrev by_so_much : (ℕ → ℕ) → (ℕ → ℕ) → Dues
  by_so_much made spent = record { code = k.code; made = made; spent = spent }

  abbrev Done : (ℕ → ℕ) → (ℕ → ℕ) → Server × EntryView → Type 0
  Done made spent r = Turns (by_so_much made spent) s r.0

  -- no thread waits for a mutex whose content is in
  none_waits : (i : ℕ) (x : Rattle.coherent_memory.specs.Below.fr_base.declared.name.MutexNo.MutexNo) (z : Mutex) → mutex_in s.rest.mutexes.there x ≡ Some z → NoneWaits k.code s i z
  none_waits i x z e inside =
      let f = queued_inside in
      let all : tot f (things_of k) ≡ 0 = sound.mutexes_and_tasks.queue_while_out in
      let t = mutex_goes n s.rest.mutexes.there x z e in
      let mine : f (at_home n z) ≡ 0 = omega (arith, all, (tot-server f k.servers number s s here).0, server_parts f s, t.before f) in
      let waiting : f (at_home n z) ≡ if_so true (length z.queue) = ap (λ b. if_so b (length z.queue)) inside in
      no_items z.queue (omega (arith, mine, waiting))

  -- DELIVERIES

  module _ (i : ℕ) where
    message_turns : (m : Message) (q : slice_get s.rest.inbox i ≡ Some m) → Gives (SiteTurns (by_so_much zeros (spent_message m)) s i m q) (deliver_message k.code m (received i s))
    message_turns (message.Fetch w o r t) q = beside (even k.code) s i (message.Fetch w o r t) q (deliver_fetch w o r t) (fetch_turns k.code s i w o r t q)
    message_turns (message.Fetched w c t) q =
        at (even k.code) s i (message.Fetched w c t) q (received i s).work t (deliver_fetched w c) (λ y e.
        copy_turns (even k.code) s i (message.Fetched w c t) q t y e (record { whole = refl; goes_on = λ u. refl; plain = λ f h. omega arith }) (λ u. refl) w c (λ z. no_gift k sound number s here t y e (cell_ungot y.phase w z)))
    message_turns (message.Move w o r t) q = beside (even k.code) s i (message.Move w o r t) q (deliver_move w o r t) (move_turns k.code s i w o r t q)
    message_turns (message.Moved w c t) q =
        at (even k.code) s i (message.Moved w c t) q (received i s).work t (deliver_moved k.code w c) (λ y e.
        object_turns (even k.code) s i (message.Moved w c t) q t y e (record { whole = refl; goes_on = λ u. refl; plain = λ f h. omega (arith, h.flying w c) }) (λ u. refl) w c (λ z. no_gift k sound number s here t y e (cell_ungot y.phase w z)))
    message_turns (message.Drop w o) q = beside (even k.code) s i (message.Drop w o) q (deliver_drop w o) (drop_turns k.code s i w o q)
    message_turns (message.Lock m r t) q = beside (even k.code) s i (message.Lock m r t) q (deliver_lock m r t) (lock_turns k.code s i m r t q)
    message_turns (message.Granted m v t) q =
        at (even k.code) s i (message.Granted m v t) q (received i s).work t (deliver_granted m v) (λ y e. test_gives _ (waits_for_lock y.phase m) _ (λ on.
        gift_turns (even k.code) s i (message.Granted m v t) q t y e (record { whole = refl; goes_on = λ u. refl; plain = λ f h. let u = h.unseen n in omega (arith, u.held (Rattle.coherent_memory.specs.Things.as_content m) v) })
        (λ a x c d z. omega (arith, lock_takes k sound number s here t y e m on a x c)) (no_gift k sound number s here t y e (lock_ungot y.phase m on)) v y.gift (awaits_lock y.phase m on)))
    message_turns (message.Unlock m v) q = beside (even k.code) s i (message.Unlock m v) q (deliver_unlock m v) (unlock_turns k.code s i m v q)
    message_turns (message.Dup m r t) q = beside (even k.code) s i (message.Dup m r t) q (deliver_dup m r t) (dup_turns k.code s i m r t q)
    message_turns (message.Dupped m t) q =
        at (even k.code) s i (message.Dupped m t) q (received i s).work t (deliver_dupped m) (λ y e. test_gives _ (waits_for_dup y.phase m) _ (λ on.
        gift_turns (even k.code) s i (message.Dupped m t) q t y e (record { whole = refl; goes_on = λ u. refl; plain = λ f h. omega arith })
        (λ a x c d z. omega (arith, dup_takes k sound number s here t y e m on a x c)) (no_gift k sound number s here t y e (dup_ungot y.phase m on)) (owned.Mutex m) y.gift (awaits_dup y.phase m on)))
    message_turns (message.Release (released.Mutex x)) q = beside (even k.code) s i (message.Release (released.Mutex x)) q (release (released.Mutex x)) (release_turns k.code s i x (none_waits i x) q)
    message_turns (message.Release (released.Task u)) q = beside (lets k.code u) s i (message.Release (released.Task u)) q (release (released.Task u)) (let_go_turns k.code s i u q)
    message_turns (message.Start t) q = stand_gives (SiteTurns (even k.code) s i (message.Start t) q) (thread_in s.threads t.number) t (received i s) (arrives k.code s i (message.Start t) t q (λ f. refl) (record { answers = λ u. refl; pairs = λ b. refl; going = λ u. refl; homes = omega arith; ends = λ u. omega arith; owes = λ u. refl }))
    message_turns (message.Migrate t) q = stand_gives (SiteTurns (even k.code) s i (message.Migrate t) q) (thread_in s.threads t.number) t (received i s) (arrives k.code s i (message.Migrate t) t q (λ f. refl) (record { answers = λ u. refl; pairs = λ b. refl; going = λ u. refl; homes = omega arith; ends = λ u. omega arith; owes = λ u. refl }))
    message_turns (message.Join u r t) q = beside (even k.code) s i (message.Join u r t) q (deliver_join u r t) (join_turns k.code s i u r t q)
    message_turns (message.Joined u v t) q =
        at (even k.code) s i (message.Joined u v t) q (received i s).work t (deliver_joined u v) (λ y e. test_gives _ (waits_for_join y.phase u) _ (λ on.
        gift_turns (even k.code) s i (message.Joined u v t) q t y e (record { whole = refl; goes_on = λ w. refl; plain = λ f h. let w = h.unseen n in omega (arith, w.held (Rattle.coherent_memory.specs.Things.as_result u) v) })
        (λ a x c d z. join_takes k sound number s here t y e u on a x c d z) (no_gift k sound number s here t y e (join_ungot y.phase u on)) v y.gift (awaits_join y.phase u on)))
    message_turns (message.Finished u v) q =
        let parts : servers_wrong (sight k) 0 k.servers + sum_threads (sight k) pinned_parcel ≡ 0 = sound.parts.parts_are_typed in
        finished_turns k.code s i u v q (notes_rise (sight k) 0 number k.servers s (omega (arith, parts)) here) (pairs_match k sound number s here)

    delivering : Gives (Done zeros (spent_waiting (slice_get s.rest.inbox i))) (does k.code k.options s (Deliver i))
    delivering = by (slice_get s.rest.inbox i) refl
      where
        by : (o : Option Message) → slice_get s.rest.inbox i ≡ o → Gives (Done zeros (spent_waiting o)) (option_map (left_by s.events None None) (then_some o (λ m. deliver_message k.code m (received i s))))
        by None q = tt
        by (Some m) q = over_gives (SiteTurns (by_so_much zeros (spent_message m)) s i m q) (Done zeros (spent_message m)) (deliver_message k.code m (received i s)) (left_by s.events None None) (message_turns m q) (λ x u. u)

  -- STEPS

  stepping : (t : ℕ) → has_phase can_step (thread_in s.threads t) ≡ true → Gives (Done (made_step k.code s (thread_in s.threads t)) (spent_step k.code (thread_in s.threads t))) (does k.code k.options s (Step t))
  stepping t on = by (thread_in s.threads t) refl on (found k sound few number s here s.threads t all.standing)
    where
      all : ServerKnown k.servers s
      all = server_known k sound few number s here

      by : (o : Option ThreadState) → thread_in s.threads t ≡ o → has_phase can_step o ≡ true → Gives (ThreadKnown k.servers) o → Gives (Done (made_step k.code s o) (spent_step k.code o)) (option_map (stepped s) (then_some (option_map (λ y. record { work = begin_work s.rest; thread = y }) o) (step_in k.code k.options.servers)))
      by None e on a = tt
      by (Some y) e on a = step_turns k.code s t y e k.servers k.options.servers on (names_left k sound.names.few_names few number s here) (gift_fits k sound number s here t y e) (record { home_here = a.0; slots_known = a.1; temps_known = a.2; partition_known = all.partition; copies_known = all.copies })

  -- EVICTIONS AND MIGRATIONS

  evicting : (w : ℕ) → Gives (Done zeros zeros) (does k.code k.options s (Evict w))
  evicting w = by (can_evict s.rest.cache w)
    where
      by : (b : Bool) → Gives (Done zeros zeros) (option_map (left_by s.events None None) (option_map (λ x. record { work = x; threads = s.threads }) (if b then Some (Rattle.coherent_memory.specs.Below.server_model.Work.note (Rattle.coherent_memory.specs.Below.journal.declared.act.Act.TheVariants.Evict w) (Rattle.coherent_memory.specs.Below.server_model.Work.with_cache (evict s.rest.cache w) (begin_work s.rest))) else None)))
      by true = nothing_turns k.code s (evict s.rest.cache w)
      by false = tt

  leaving : (t target : ℕ) → has_phase is_ready (thread_in s.threads t) ≡ true → Gives (Done zeros zeros) (does k.code k.options s (Migrate t target))
  leaving t target on = by (thread_in s.threads t) refl on
    where
      by : (o : Option ThreadState) → thread_in s.threads t ≡ o → has_phase is_ready o ≡ true
          → Gives (Done zeros zeros) (option_map (left_by s.events (Some t) None) (then_some o (λ y. option_map (λ p. record { work = Rattle.coherent_memory.specs.Below.server_model.Moving.depart target (begin_work s.rest) p; threads = Rattle.coherent_memory.specs.Below.server_model.Work.without_thread s.threads t }) (pack_thread (record y { moved_since_step = true }) s.rest.cache))))
      by None e on = tt
      by (Some y) e on = packs (unpin_all (used_words (record y { moved_since_step = true })) s.rest.cache)
        where
          packs : (c : Option (List Copy))
              → Gives (Done zeros zeros) (option_map (left_by s.events (Some t) None) (option_map (λ p. record { work = Rattle.coherent_memory.specs.Below.server_model.Moving.depart target (begin_work s.rest) p; threads = Rattle.coherent_memory.specs.Below.server_model.Work.without_thread s.threads t }) (option_map (λ left. (packed (record y { moved_since_step = true }), left)) c)))
          packs None = tt
          packs (Some cs) = leaving_turns k.code s t target y (packed (record y { moved_since_step = true })) cs e refl refl (no_gift k sound number s here t y e (ready_ungot y.phase on)) (no_gift k sound number s here t y e (ready_ungot y.phase on)) on

  doing : (w : What) → enabled k.options s w ≡ true → Gives (Done (made k.code s w) (spent k.code s w)) (does k.code k.options s w)
  doing (Step t) on = stepping t on
  doing (Deliver i) on = delivering i
  doing (Evict w) on = evicting w
  doing (Migrate t target) on = leaving t target (and_left (has_phase is_ready (thread_in s.threads t)) (nat_lt target k.options.servers && not (target == s.rest.number)) on)

-- IN A CLUSTER

module _ (k : Cluster) (e : Event) (sound : IsSound k) (few : FewEvents k) where
  abbrev pub dues : Server → Dues
  dues s = record { code = k.code; made = made k.code s e.what; spent = spent k.code s e.what }

  pub turns : (s : Server) → server_at k.servers e.server ≡ Some s → Gives (λ (r : Server × EntryView). Turns (dues s) s r.0) (done_at k e.what s)
  turns s here = test_gives (λ (r : Server × EntryView). Turns (dues s) s r.0) (enabled k.options s e.what) _ (λ on. doing k sound few e.server s here e.what on)

  kept : Gives (λ (d : Cluster × EntryView). Asking d.0.code (things_of d.0)) (act_at k e)
  kept =
      then_gives (λ (d : Cluster × EntryView). Asking d.0.code (things_of d.0)) (server_at k.servers e.server) _ (λ s here.
      over_gives (λ (r : Server × EntryView). Turns (dues s) s r.0) (λ (d : Cluster × EntryView). Asking d.0.code (things_of d.0)) (done_at k e.what s) _ (turns s here) (λ r t. turned (dues s) k.servers e.server s r.0 here t (sound_asking k sound)))

  -- and with its messages handed over, as these go to servers of the run
  handed : Gives (λ (d : Cluster × EntryView). Asking d.0.code (things_of d.0)) (apply k e)
  handed =
      handed_on (λ c. Asking c.code (things_of c)) (λ c a b same g. asking_kept (even c.code) (servers_things a) (servers_things b) [] [] (λ f l. omega (arith, same f)) fair_none g) k e (each_event_sends k e sound few) kept

pub asking_part : (Part : Cluster → Type 0) → ((c : Cluster) → Asking c.code (things_of c) → Part c) → EachEventLeaves Part
asking_part Part has k e sound few = weaker (λ (d : Cluster × EntryView). Asking d.0.code (things_of d.0)) (λ (d : Cluster × EntryView). Part d.0) (act_at k e) (kept k e sound few) (λ d u. has d.0 u)

pub asking_applied : (Part : Cluster → Type 0) → ((c : Cluster) → Asking c.code (things_of c) → Part c) → EachEventHandedOver Part
asking_applied Part has k e sound few = weaker (λ (d : Cluster × EntryView). Asking d.0.code (things_of d.0)) (λ (d : Cluster × EntryView). Part d.0) (apply k e) (handed k e sound few) (λ d u. has d.0 u)

-- each result stands once
pub result_once : (c : Cluster) → Asking c.code (things_of c) → OneResult c
result_once c g t = omega (arith, g.one_result t, all_results (sight c) t (things_of c))
