-- An event sends what its acts send, whatever event it is, and so its messages are counted.
use Rattle.std.proofs.Common.{◌≡◌, ℕ, ◌==◌, Bool, true, false, [], ◌∷◌, ◌++◌, ◌+◌, length, take, drop, Option, Some, None, refl, sym, subst, append-nil, arith}
use Rattle.std.specs.Prelude.{slice_get, option_map}
use Rattle.std.proofs.lemmas.Bool.Decides.{nat_tests}
use Rattle.law_counts_things.specs.Below.fr_base.Names.{home_of}
use Rattle.law_counts_things.specs.Below.read_cache.Cache.{can_evict, evict}
use Rattle.law_counts_things.specs.Below.thread_state.View.{ThreadState}
use Rattle.law_counts_things.specs.Below.server_msgs.declared.message.Message.TheVariants as message
use Rattle.law_counts_things.specs.Below.journal.declared.act.Act.TheVariants as act
use Rattle.law_counts_things.specs.Below.journal.View.{EntryView}
use Rattle.law_counts_things.specs.Below.coloured_heap.Sends.{all_messages}
use Rattle.law_counts_things.specs.Below.coloured_heap.Figures.{deliveries}
use Rattle.law_counts_things.specs.Below.server_model.declared.event.What.{What}
use Rattle.law_counts_things.specs.Below.server_model.declared.event.What.TheVariants.{Step, Deliver, Evict, Migrate}
use Rattle.law_counts_things.specs.Below.server_model.declared.event.Event.{Event}
use Rattle.law_counts_things.specs.Below.server_model.Servers.{Server, Cluster, server_at}
use Rattle.law_counts_things.specs.Below.server_model.Work.{Work, Hand, Site, receive, note, then_some, thread_in, with_cache, beside_threads}
use Rattle.law_counts_things.specs.Below.migration.Packing.{pack_thread}
use Rattle.law_counts_things.specs.Below.server_model.Moving.{migrate}
use Rattle.law_counts_things.specs.Below.server_model.Clusters.{with_server, hand_over_newer, done_at}
use Rattle.law_counts_things.specs.Below.server_model.Events.{Stepped, enabled, begin_work, begin_at, left_by, received, deliver_message, deliver, evict_copy, step, step_in, stepped, does}
use Rattle.law_counts_things.specs.Below.coherent_memory.Names.{other}
use Rattle.law_counts_things.specs.Below.coherent_memory.Sharing.{other_home}
use Rattle.law_counts_things.specs.Below.coherent_memory.Sight.{sight}
use Rattle.law_counts_things.specs.Below.coherent_memory.LeftBy.{messages_of}
use Rattle.law_counts_things.specs.Below.coherent_memory.Appended.{AppendsSendings, left_waiting}
use Rattle.law_counts_things.specs.Below.coherent_memory.Coherent.{IsSound}
use Rattle.law_counts_things.specs.Below.law_counts_sums.Laws.{Gives, GoTo}
use Rattle.law_counts_things.proofs.Below.law_counts_sums.Results.{map_gives, test_gives, over_gives, then_gives, weaker, both_give}
use Rattle.law_counts_things.proofs.Below.law_counts_sums.Events.{tot-server}
use Rattle.law_counts_things.proofs.Below.law_counts_sums.Handing.{hand_over_newer_law}
use Rattle.law_counts_things.proofs.Below.law_counts_sums.Applied.{go_with}
use Rattle.law_counts_things.proofs.Below.law_counts_sums.Sending.{each_event_sends}
use Rattle.law_counts_things.proofs.things.Handed.{known}
use Rattle.law_counts_limits.specs.sendings.Sending.{EventsSendTheirActs}
use Rattle.law_counts_limits.specs.sendings.Counting.{EventsCountMessages}
use Rattle.law_counts_limits.proofs.sendings.Sent.{Sends, sends_none, sends_act}
use Rattle.law_counts_limits.proofs.sendings.Prepares.{IsHome, Good}
use Rattle.law_counts_limits.proofs.sendings.Steps.{step_sends}
use Rattle.law_counts_limits.proofs.sendings.Deliveries.{SentSite, message_sends}
use Rattle.law_counts_limits.proofs.sendings.Counting.{each, of_server, all_of, grown, delivers, taken_out}

same_home : (a b : ℕ) → other (a == b) ≡ 0 → a ≡ b
same_home a b z = by (a == b) refl z
  where
    by : (c : Bool) → (a == b) ≡ c → other c ≡ 0 → a ≡ b
    by true e z = grind (arith, nat_tests, e)
    by false e z = absurd (cc z)

module _ (k : Cluster) (number : ℕ) (s : Server) (sound : IsSound k) (here : server_at k.servers number ≡ Some s) where
  home : (t : ℕ) (y : ThreadState) → thread_in s.threads t ≡ Some y → IsHome y
  home t y there = same_home y.home (home_of y.number) (known k sound number s here t y there other_home sound.mutexes_and_tasks.thread_homes)

  -- the messages of its acts, in order, and their number
  pub record Appends (what : What) (d : Server × EntryView) : Type 0 where
    pub sendings : AppendsSendings what s d.0 d.1.acts
    pub counted : length d.0.rest.inbox + length d.0.rest.outbox + deliveries (d.1 ∷ []) ≡ length s.rest.inbox + length s.rest.outbox + all_messages (d.1 ∷ [])

  -- an eviction: a copy goes, and nothing is sent
  abbrev EvictedWork : ℕ → Work → Type 0
  EvictedWork w x = x ≡ note (act.Evict w) (with_cache (evict s.rest.cache w) (begin_work s.rest))

  abbrev Evicted : ℕ → Site → Type 0
  Evicted w x = EvictedWork w x.work

  -- what was sent since the event began
  sends_all : (what : What) (d : Server × EntryView) → left_waiting what s.rest.inbox ≡ s.rest.inbox → deliveries (d.1 ∷ []) ≡ 0 → Sends s.rest d.0.rest.number d.0.rest.inbox d.0.rest.outbox d.1.acts → Appends what d
  sends_all what d e z g = record {
    sendings = record { own = g.own; others = g.others; waiting = subst (λ l. d.0.rest.inbox ≡ l ++ g.own) (sym e) g.waiting; outbox = g.outbox_is; own_sendings = g.own_sendings; other_sendings = g.other_sendings };
    counted = omega (arith, z, all_of d.1, grown s.rest d.0.rest.number d.0.rest.inbox d.0.rest.outbox d.1.acts g);
  }

  stepping : (t : ℕ) → Gives (Appends (Step t)) (does k.code k.options s (Step t))
  stepping t = by (thread_in s.threads t) refl
    where
      by : (x : Option ThreadState) → thread_in s.threads t ≡ x
          → Gives (Appends (Step t)) (option_map (stepped s) (then_some (option_map (λ y. record { work = begin_work s.rest; thread = y }) x) (step_in k.code k.options.servers)))
      by None e = tt
      by (Some y) e =
          let h : Hand = record { work = begin_work s.rest; thread = y } in
          over_gives (λ (d : Stepped). Good s.rest d.hand) (Appends (Step t)) (step_in k.code k.options.servers h) (stepped s)
          (then_gives (λ (d : Stepped). Good s.rest d.hand) (slice_get k.code y.pc) (λ i. step k.options.servers i h) (λ i q. step_sends s.rest k.options.servers i h (sends_none s.rest, home t y e)))
          (λ d g. sends_all (Step t) (stepped s d) refl refl g.0)

  -- a delivered message is one that waited
  delivering : (i : ℕ) → Gives (Appends (Deliver i)) (does k.code k.options s (Deliver i))
  delivering i =
      over_gives (λ (x : Site). (length (receive s.rest i).inbox + 1 ≡ length s.rest.inbox) × SentSite (receive s.rest i) x) (Appends (Deliver i)) (deliver k.code i s) (left_by s.events None None)
      (then_gives (λ (x : Site). (length (receive s.rest i).inbox + 1 ≡ length s.rest.inbox) × SentSite (receive s.rest i) x) (slice_get s.rest.inbox i) (λ m. deliver_message k.code m (received i s)) (λ m q.
      weaker (SentSite (receive s.rest i)) (λ (x : Site). (length (receive s.rest i).inbox + 1 ≡ length s.rest.inbox) × SentSite (receive s.rest i) x) _ (message_sends (receive s.rest i) k.code m (received i s) home (sends_none (receive s.rest i)))
      (λ x g. (taken_out s.rest.inbox i m q, g))))
      (λ x g. let d = left_by s.events None None x in record {
        sendings = record { own = g.1.own; others = g.1.others; waiting = g.1.waiting; outbox = g.1.outbox_is; own_sendings = g.1.own_sendings; other_sendings = g.1.other_sendings };
        counted = omega (arith, g.0, delivers x.work.rest.number None x.work.labels x.work.acts g.1.none_evicted, all_of d.1, grown (receive s.rest i) d.0.rest.number d.0.rest.inbox d.0.rest.outbox d.1.acts g.1);
      })

  evicting : (w : ℕ) → Gives (Appends (Evict w)) (does k.code k.options s (Evict w))
  evicting w =
      over_gives (Evicted w) (Appends (Evict w)) (beside_threads (evict_copy w) (begin_at s)) (left_by s.events None None)
      (over_gives (EvictedWork w) (Evicted w) (evict_copy w (begin_work s.rest)) _ (test_gives (EvictedWork w) (can_evict s.rest.cache w) _ (λ q. refl)) (λ x g. g))
      (λ x g. rw g (record { sendings = record { own = []; others = []; waiting = sym (append-nil s.rest.inbox); outbox = sym (append-nil s.rest.outbox); own_sendings = refl; other_sendings = refl }; counted = omega arith }))

  leaving : (t target : ℕ) → Gives (Appends (Migrate t target)) (does k.code k.options s (Migrate t target))
  leaving t target =
      over_gives (SentSite s.rest) (Appends (Migrate t target)) (migrate t target (begin_at s)) (left_by s.events (Some t) None)
      (then_gives (SentSite s.rest) (thread_in s.threads t) _ (λ y q. map_gives (SentSite s.rest) (pack_thread (record y { moved_since_step = true }) s.rest.cache) _ (λ p z.
      sends_act s.rest (record s.rest { cache = p.1 }) [] (act.Depart p.0.number target) target (message.Migrate p.0) refl (sends_none s.rest))))
      (λ x g. sends_all (Migrate t target) (left_by s.events (Some t) None x) refl refl g)

  pub appends : (what : What) → Gives (Appends what) (does k.code k.options s what)
  appends (Step t) = stepping t
  appends (Deliver i) = delivering i
  appends (Evict w) = evicting w
  appends (Migrate t target) = leaving t target

pub events_send_their_acts : EventsSendTheirActs
events_send_their_acts k number s what sound here = weaker (Appends k number s sound here what) (λ (d : Server × EntryView). AppendsSendings what s d.0 d.1.acts) (does k.code k.options s what) (appends k number s sound here what) (λ d g. g.sendings)

-- IN A CLUSTER

module _ (k : Cluster) (e : Event) where
  abbrev Counted : Cluster × EntryView → Type 0
  Counted d = messages_of (sight d.0) + deliveries (d.1 ∷ []) ≡ messages_of (sight k) + all_messages (d.1 ∷ [])

  abbrev Goes : Server → Server × EntryView → Type 0
  Goes s r = GoTo (with_server k.servers e.server r.0) (drop (length s.rest.outbox) r.0.rest.outbox)

  handed : (sound : IsSound k) (s : Server) (here : server_at k.servers e.server ≡ Some s) (r : Server × EntryView) → Appends k e.server s sound here e.what r → Goes s r
      → Counted (record k { servers = hand_over_newer e.server (length s.rest.outbox) r.0 k.servers }, r.1)
  handed sound s here r g goes =
      let over = hand_over_newer_law each e.server (length s.rest.outbox) s r.0 k.servers here (go_with k.servers e.server r.0 (take (length s.rest.outbox) r.0.rest.outbox) (drop (length s.rest.outbox) r.0.rest.outbox) goes) in
      let there = tot-server each k.servers e.server s r.0 here in
      omega (arith, over, there.0, there.1, g.counted, of_server s, of_server r.0)

pub events_count_messages : EventsCountMessages
events_count_messages k e sound few =
    then_gives (Counted k e) (server_at k.servers e.server) _ (λ s here.
    over_gives (λ (r : Server × EntryView). Appends k e.server s sound here e.what r × Goes k e s r) (Counted k e) (done_at k e.what s) _
    (both_give (Appends k e.server s sound here e.what) (Goes k e s) (λ (r : Server × EntryView). Appends k e.server s sound here e.what r × Goes k e s r) (done_at k e.what s)
    (test_gives (Appends k e.server s sound here e.what) (enabled k.options s e.what) _ (λ on. appends k e.server s sound here e.what)) (each_event_sends k e sound few s here) (λ r a g. (a, g)))
    (λ r g. handed k e sound s here r g.0 g.1))
