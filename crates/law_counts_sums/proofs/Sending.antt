-- Each event of a sound cluster sends to servers of the run, so once its messages are handed over it leaves the sums.
use Rattle.std.proofs.Common.{◌≡◌, ℕ, ◌==◌, ◌&&◌, not, Bool, true, false, nat_lt, if◌then◌else◌, List, [], ◌∷◌, Option, Some, None, arith}
use Rattle.std.specs.Prelude.{slice_get, option_map}
use Rattle.std.specs.List.{AllByRecursion}
use Rattle.std.proofs.lemmas.Bool.Decides.{nat_tests}
use Rattle.coherent_memory.specs.Below.read_cache.Cache.{can_evict}
use Rattle.coherent_memory.specs.Below.thread_state.View.{ThreadState}
use Rattle.coherent_memory.specs.Below.server_msgs.declared.message.Message.TheVariants as message
use Rattle.coherent_memory.specs.Below.journal.View.{EntryView}
use Rattle.coherent_memory.specs.Below.server_model.declared.event.What.{What}
use Rattle.coherent_memory.specs.Below.server_model.declared.event.What.TheVariants.{Step, Deliver, Evict, Migrate}
use Rattle.coherent_memory.specs.Below.server_model.Servers.{Server, Cluster, server_at}
use Rattle.coherent_memory.specs.Below.server_model.Work.{Work, Hand, Site, then_some, thread_in, beside_threads}
use Rattle.coherent_memory.specs.Below.migration.Packing.{pack_thread}
use Rattle.coherent_memory.specs.Below.server_model.Moving.{migrate}
use Rattle.coherent_memory.specs.Below.server_model.Events.{Stepped, has_phase, is_ready, enabled, begin_work, begin_at, left_by, received, deliver_message, deliver, evict_copy, step, step_in, stepped, does}
use Rattle.coherent_memory.specs.Below.server_model.Clusters.{done_at}
use Rattle.coherent_memory.specs.Things.{things_of}
use Rattle.coherent_memory.specs.Coherent.{IsSound}
use Rattle.coherent_memory.proofs.Names.{and_left, and_right}
use Rattle.law_counts_sums.specs.Sums.{Sums}
use Rattle.law_counts_sums.specs.Laws.{Gives, FewEvents, EachEventSends, EachEventHandedOver}
use Rattle.law_counts_sums.proofs.Results.{map_gives, test_gives, over_gives, weaker, then_gives}
use Rattle.law_counts_sums.proofs.Askers.{there_below}
use Rattle.law_counts_sums.proofs.Sends.{Sends, sends_none, sends_more, goes_after}
use Rattle.law_counts_sums.proofs.Known.{Here, Known, all_at}
use Rattle.law_counts_sums.proofs.KnownSteps.{step_sends}
use Rattle.law_counts_sums.proofs.KnownMessages.{MessageKnown, SentSite, message_sends}
use Rattle.law_counts_sums.proofs.KnownSound.{ThreadKnown, ServerKnown, server_known, servers_between}
use Rattle.law_counts_sums.proofs.Applied.{handed_part}

module _ (k : Cluster) (sound : IsSound k) (few : FewEvents k) (number : ℕ) (s : Server) (here : server_at k.servers number ≡ Some s) where
  abbrev known : ServerKnown k.servers s
  known = server_known k sound few number s here

  abbrev Ok : Site → Type 0
  Ok = SentSite k.servers s.rest

  abbrev Done : Server × EntryView → Type 0
  Done r = Sends k.servers s.rest r.0.rest

  -- STEPS

  pub found : (ts : List ThreadState) (t : ℕ) → AllByRecursion (ThreadKnown k.servers) ts → Gives (ThreadKnown k.servers) (thread_in ts t)
  found [] t a = tt
  found (x ∷ ts) t a = by (x.number == t) (found ts t a.1)
    where
      by : (b : Bool) → Gives (ThreadKnown k.servers) (thread_in ts t) → Gives (ThreadKnown k.servers) (if b then Some x else thread_in ts t)
      by true g = a.0
      by false g = g

  abbrev SentStep : Stepped → Type 0
  SentStep d = Sends k.servers s.rest d.hand.work.rest

  hand_known : (y : ThreadState) → ThreadKnown k.servers y → Known k.servers y.home y.slots y.temps s.rest.partition s.rest.cache
  hand_known y a = let all = known in record { home_here = a.0; slots_known = a.1; temps_known = a.2; partition_known = all.partition; copies_known = all.copies }

  stepping : (t : ℕ) → Gives Done (does k.code k.options s (Step t))
  stepping t = let all = known in by (thread_in s.threads t) (found s.threads t all.standing)
    where
      by : (o : Option ThreadState) → Gives (ThreadKnown k.servers) o → Gives Done (option_map (stepped s) (then_some (option_map (λ y. record { work = begin_work s.rest; thread = y }) o) (step_in k.code k.options.servers)))
      by None a = tt
      by (Some y) a =
          let h : Hand = record { work = begin_work s.rest; thread = y } in
          over_gives SentStep Done (step_in k.code k.options.servers h) (stepped s)
          (then_gives SentStep (slice_get k.code y.pc) (λ i. step k.options.servers i h) (λ i q. step_sends k.servers s.rest k.options.servers (servers_between k sound).0 (there_below k sound) i h (hand_known y a, sends_none k.servers s.rest))) (λ d b. b)

  -- DELIVERIES

  delivering : (i : ℕ) → Gives Done (does k.code k.options s (Deliver i))
  delivering i =
      let all = known in
      over_gives Ok Done (deliver k.code i s) (left_by s.events None None)
      (then_gives Ok (slice_get s.rest.inbox i) (λ m. deliver_message k.code m (received i s)) (λ m q.
      message_sends k.servers s.rest k.code m (received i s) (all_at (MessageKnown k.servers) s.rest.inbox i m all.waiting q)
      (record { cells_named = all.partition.cells_known; mutexes_named = all.mutexes; tasks_named = all.tasks }) (sends_none k.servers s.rest))) (λ x b. b)

  -- EVICTIONS AND MIGRATIONS

  evicting : (w : ℕ) → Gives Done (does k.code k.options s (Evict w))
  evicting w =
      over_gives Ok Done (beside_threads (evict_copy w) (begin_at s)) (left_by s.events None None)
      (over_gives (λ (x : Work). Sends k.servers s.rest x.rest) Ok (evict_copy w (begin_work s.rest)) _ (test_gives (λ (x : Work). Sends k.servers s.rest x.rest) (can_evict s.rest.cache w) _ (λ q. sends_none k.servers s.rest)) (λ x b. b)) (λ x b. b)

  leaving : (t target : ℕ) → Here k.servers target → Gives Done (does k.code k.options s (Migrate t target))
  leaving t target a =
      over_gives Ok Done (migrate t target (begin_at s)) (left_by s.events (Some t) None)
      (then_gives Ok (thread_in s.threads t) _ (λ y q. map_gives Ok (pack_thread (record y { moved_since_step = true }) s.rest.cache) _ (λ p z.
      sends_more k.servers s.rest (record s.rest { cache = p.1 }) target (message.Migrate p.0) a (sends_none k.servers s.rest)))) (λ x b. b)

  doing : (w : What) → enabled k.options s w ≡ true → Gives Done (does k.code k.options s w)
  doing (Step t) on = stepping t
  doing (Deliver i) on = delivering i
  doing (Evict w) on = evicting w
  doing (Migrate t target) on =
      let goes : nat_lt target k.options.servers ≡ true = and_left (nat_lt target k.options.servers) (not (target == s.rest.number)) (and_right (has_phase is_ready (thread_in s.threads t)) (nat_lt target k.options.servers && not (target == s.rest.number)) on) in
      leaving t target (there_below k sound target (grind (arith, nat_tests, goes)))

-- IN A CLUSTER

pub each_event_sends : EachEventSends
each_event_sends k e sound few s here =
    weaker (λ (r : Server × EntryView). Sends k.servers s.rest r.0.rest) _ (done_at k e.what s)
    (test_gives (λ (r : Server × EntryView). Sends k.servers s.rest r.0.rest) (enabled k.options s e.what) _ (λ on. doing k sound few e.server s here e.what on)) (λ r g. goes_after k.servers e.server s r.0 here g)

pub applied_part : (Part : Cluster → Type 0) → ((c : Cluster) → Sums (things_of c) → Part c) → EachEventHandedOver Part
applied_part Part has k e sound few = handed_part Part has k e sound few (each_event_sends k e sound few)
