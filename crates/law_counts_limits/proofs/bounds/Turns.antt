-- A fact on each thread of a server, by what each kind of event makes of a thread: from its server to the cluster, with the messages handed over.
use Rattle.std.proofs.Common.{◌≡◌, ℕ, ◌==◌, ◌&&◌, not, true, false, nat_lt, List, Option, Some, None, refl, arith}
use Rattle.std.specs.Prelude.{slice_get, option_map, ◌||◌}
use Rattle.std.specs.List.{AllByRecursion}
use Rattle.law_counts_things.specs.Below.fr_base.declared.name.MutexNo.{MutexNo}
use Rattle.law_counts_things.specs.Below.fr_base.declared.instruction.Instr.{Instr}
use Rattle.law_counts_things.specs.Below.fr_base.declared.settings.Options.{Options}
use Rattle.law_counts_things.specs.Below.heap_partition.declared.value.Cell.{Cell}
use Rattle.law_counts_things.specs.Below.heap_partition.declared.value.Owned.{Owned}
use Rattle.law_counts_things.specs.Below.heap_partition.declared.value.Owned.TheVariants as owned
use Rattle.law_counts_things.specs.Below.read_cache.Cache.{Copy, can_evict}
use Rattle.law_counts_things.specs.Below.join_home.Tasks.{Task, ended}
use Rattle.law_counts_things.specs.Below.join_home.declared.answers.EndedAs.{EndedAs}
use Rattle.law_counts_things.specs.Below.join_home.declared.answers.EndedAs.TheVariants as over
use Rattle.law_counts_things.specs.Below.thread_state.View.{ThreadState, new_thread}
use Rattle.law_counts_things.specs.Below.thread_state.declared.phase.Phase.{Phase}
use Rattle.law_counts_things.specs.Below.thread_state.declared.phase.Phase.TheVariants as phase
use Rattle.law_counts_things.specs.Below.thread_state.declared.value.Value.{Value}
use Rattle.law_counts_things.specs.Below.server_msgs.declared.message.Message.{Message}
use Rattle.law_counts_things.specs.Below.server_msgs.declared.message.Message.TheVariants as message
use Rattle.law_counts_things.specs.Below.migration.Packing.{unpin_all, used_words, packed, pack_thread}
use Rattle.law_counts_things.specs.Below.journal.View.{EntryView}
use Rattle.law_counts_things.specs.Below.server_model.declared.event.Event.{Event}
use Rattle.law_counts_things.specs.Below.server_model.declared.event.What.{What}
use Rattle.law_counts_things.specs.Below.server_model.declared.event.What.TheVariants.{Step, Deliver, Evict, Migrate}
use Rattle.law_counts_things.specs.Below.server_model.Servers.{Server, Cluster, server_at}
use Rattle.law_counts_things.specs.Below.server_model.Work.{Work, Hand, Site, then_some, thread_in, without_thread, put_back, at_thread, beside_threads, with_tasks}
use Rattle.law_counts_things.specs.Below.server_model.Objects.{deliver_fetch, deliver_fetched, deliver_move, deliver_moved, deliver_drop}
use Rattle.law_counts_things.specs.Below.server_model.Sharing.{given, waits_for_lock, deliver_lock, deliver_granted, deliver_unlock, deliver_dup, waits_for_dup, deliver_dupped}
use Rattle.law_counts_things.specs.Below.server_model.Joining.{deliver_join, waits_for_join, deliver_joined, got_par, pair_over, end_answer, deliver_finished, arrive}
use Rattle.law_counts_things.specs.Below.server_model.Moving.{depart}
use Rattle.law_counts_things.specs.Below.server_model.Events.{Stepped, has_phase, is_ready, enabled, begin_work, begin_at, left_by, received, release, deliver_message, evict_copy, step, step_in, stepped, does}
use Rattle.law_counts_things.specs.Below.server_model.Clusters.{done_at, act_at, apply}
use Rattle.law_counts_things.specs.Below.coherent_memory.Names.{tot}
use Rattle.law_counts_things.specs.Below.coherent_memory.Things.{things_of, server_things}
use Rattle.law_counts_things.specs.Below.coherent_memory.Follow.{Standing, threads_in}
use Rattle.law_counts_things.specs.Below.coherent_memory.Walking.{in_walk}
use Rattle.law_counts_things.specs.Below.coherent_memory.Coherent.{IsSound}
use Rattle.law_counts_things.proofs.Below.coherent_memory.Names.{and_left}
use Rattle.law_counts_things.specs.Below.law_counts_sums.Laws.{Gives, FewEvents}
use Rattle.law_counts_things.proofs.Below.law_counts_sums.Results.{then_gives, map_gives, over_gives, test_gives, stand_gives, both_give, weaker}
use Rattle.law_counts_things.proofs.Below.law_counts_sums.Known.{all_at}
use Rattle.law_counts_things.proofs.Below.law_counts_sums.KnownSound.{on_standing, sum_standing}
use Rattle.law_counts_things.proofs.Below.law_counts_sums.Events.{tot-server}
use Rattle.law_counts_things.proofs.Below.law_counts_sums.Applied.{handed_on}
use Rattle.law_counts_things.proofs.Below.law_counts_sums.Sending.{each_event_sends}
use Rattle.law_counts_things.proofs.things.Mail.{Mailed, mail_sent, Replies, Requests, StartsAt, AreCaptured, BeginsBy, message_says, step_tells}
use Rattle.law_counts_things.proofs.things.Threads.{set_all, without_all, with_all, found_all, remove_all, Parcel, Held}
use Rattle.law_counts_things.proofs.things.Handed.{Stood, InParcel, from_server, to_server}

-- what an event makes of a thread leaves the fact, of a thread or of a parcel at a server: its step, an object or a copy that comes, an answer of a home or the end of
-- a pair, which it waits for outside of a walk; and it arrives, starts and leaves
pub record Turns (code : List Instr) (o : Options) (s : Server) (P : ThreadState → Type 0) (Q : ℕ → ThreadState → Type 0) : Type 0 where
  pub steps : (t : ℕ) (y : ThreadState) (i : Instr) → thread_in s.threads t ≡ Some y → P y → slice_get code y.pc ≡ Some i → (h : Hand) → h.thread ≡ y → Gives (λ (d : Stepped). P d.hand.thread) (step o.servers i h)
  pub comes : (t : ℕ) (y : ThreadState) → thread_in s.threads t ≡ Some y → P y → (v : ℕ) (c : Cell) (h : Hand) → h.thread ≡ y → Gives (λ (h2 : Hand). P h2.thread) (deliver_moved code v c h)
  pub copied : (t : ℕ) (y : ThreadState) → thread_in s.threads t ≡ Some y → P y → (v : ℕ) (c : Cell) (h : Hand) → h.thread ≡ y → Gives (λ (h2 : Hand). P h2.thread) (deliver_fetched v c h)
  pub answered : (t : ℕ) (y : ThreadState) (g : Option Owned) (p : Phase) → thread_in s.threads t ≡ Some y → P y → in_walk y.phase ≡ false → P (record y { gift = g; phase = p })
  -- a thread arrives
  pub arrives : (t : ThreadState) → Q s.rest.number t → P t
  pub starts : (t n : ℕ) (y : ThreadState) (i : Instr) (u pc : ℕ) (vs : List Value) → thread_in s.threads t ≡ Some y → P y → slice_get code y.pc ≡ Some i → StartsAt i pc → AreCaptured vs → Q n (new_thread u pc vs)
  pub leaves : (t n : ℕ) (y : ThreadState) → thread_in s.threads t ≡ Some y → P y → is_ready y.phase ≡ true → Q n (packed (record y { moved_since_step = true }))

-- answers are no parcels
replies : (Q : ℕ → ThreadState → Type 0) → Replies (Parcel Q)
replies Q = record { fetched = λ s w c t. tt; moved = λ s w c t. tt; granted = λ s m v t. tt; dupped = λ s m t. tt; joined = λ s u v t. tt; drop = λ w o. tt; release = λ m. tt; let_go = λ u. tt }

-- nor are requests
requests : (Q : ℕ → ThreadState → Type 0) (n : ℕ) (y : ThreadState) (i : Instr) → Requests (Parcel Q) n y i
requests Q n y i = record { replies = replies Q; fetch = λ p e. tt; move = λ p e. tt; lock = λ m. tt; dup = λ m. tt; unlock = λ m v. tt; join = λ u. tt; finished = λ o e v. tt }

-- who waits for a home isn't in a walk
lock_waits : (p : Phase) (m : MutexNo) → waits_for_lock p m ≡ true → in_walk p ≡ false
lock_waits (phase.WaitLock n) m e = refl
lock_waits p m e = absurd (cc e)

dup_waits : (p : Phase) (m : MutexNo) → waits_for_dup p m ≡ true → in_walk p ≡ false
dup_waits (phase.WaitDup n) m e = refl
dup_waits p m e = absurd (cc e)

join_waits : (p : Phase) (u : ℕ) → waits_for_join p u ≡ true → in_walk p ≡ false
join_waits (phase.WaitJoin x) u e = refl
join_waits p u e = absurd (cc e)

-- nor who waits for a pair
pair_waits : (u : ℕ) (p : Phase) → Gives (λ (q : Phase). in_walk p ≡ false) (got_par u p)
pair_waits u (phase.WaitPar a b) = test_gives (λ (q : Phase). in_walk (phase.WaitPar a b) ≡ false) ((a == u) || (b == u)) _ (λ w. refl)
pair_waits u p = tt

module _ (code : List Instr) (o : Options) (s : Server) (P : ThreadState → Type 0) (Q : ℕ → ThreadState → Type 0) (k : Turns code o s P Q) (held : Held P Q s.rest.number s.rest.outbox s) where
  abbrev n : ℕ
  n = s.rest.number

  abbrev Then : Server × EntryView → Type 0
  Then r = Held P Q n s.rest.outbox r.0

  abbrev Standing_all : Site → Type 0
  Standing_all x = AllByRecursion P x.threads

  abbrev Posted : Site → Type 0
  Posted x = Mailed (Parcel Q) n s.rest.outbox x.work.rest

  abbrev Good : Hand → Type 0
  Good h = P h.thread

  -- threads and messages
  together : (t : Option ℕ) (x : Option Site) → Gives Standing_all x → Gives Posted x → Gives Then (option_map (left_by s.events t None) x)
  together t None a b = tt
  together t (Some x) a b = record { standing = a; mail = b }

  -- STEPS

  -- a thread steps
  stepping : (t : ℕ) → Gives Then (does code o s (Step t))
  stepping t = by (thread_in s.threads t) refl
    where
      at : (y : ThreadState) → thread_in s.threads t ≡ Some y → (i : Option Instr) → slice_get code y.pc ≡ i
          → Gives Then (option_map (stepped s) (then_some i (λ x. step o.servers x (record { work = begin_work s.rest; thread = y }))))
      at y q None e = tt
      at y q (Some i) e =
          let h : Hand = record { work = begin_work s.rest; thread = y } in
          let p : P y = found_all P s.threads t y held.standing q in
          let begins : BeginsBy (Parcel Q) o.servers s.rest i = λ pc vs r at c d f. k.starts t _ y i _ pc vs q p e at c in
          over_gives (λ (d : Stepped). P d.hand.thread × Mailed (Parcel Q) n s.rest.outbox d.hand.work.rest) Then (step o.servers i h) (stepped s)
          (both_give (λ (d : Stepped). P d.hand.thread) (λ (d : Stepped). Mailed (Parcel Q) n s.rest.outbox d.hand.work.rest) _ (step o.servers i h) (k.steps t y i q p e h refl)
          (step_tells (Parcel Q) o.servers i s.rest y (requests Q n y i) begins h (record { mail = held.mail; begun = refl; named = refl; at_home = refl })) (λ d a b. (a, b)))
          (λ d u. record { standing = set_all P s.threads d.hand.thread held.standing u.0; mail = u.1 })

      by : (x : Option ThreadState) → thread_in s.threads t ≡ x → Gives Then (option_map (stepped s) (then_some (option_map (λ y. record { work = begin_work s.rest; thread = y }) x) (step_in code o.servers)))
      by None q = tt
      by (Some y) q = at y q (slice_get code y.pc) refl

  -- DELIVERIES

  -- what changes no thread
  beside : (f : Work → Option Work) (w : Work) → Gives Standing_all (beside_threads f (record { work = w; threads = s.threads }))
  beside f w = map_gives Standing_all (f w) _ (λ v q. held.standing)

  -- what changes one thread
  at : (t : ℕ) (f : Hand → Option Hand) (w : Work) → ((y : ThreadState) → thread_in s.threads t ≡ Some y → P y → Gives Good (f (record { work = w; thread = y }))) → Gives Standing_all (at_thread t f (record { work = w; threads = s.threads }))
  at t f w go = by (thread_in s.threads t) refl
    where
      by : (x : Option ThreadState) → thread_in s.threads t ≡ x → Gives Standing_all (then_some (option_map (λ y. record { work = w; thread = y }) x) (λ h. option_map (put_back s.threads) (f h)))
      by None q = tt
      by (Some y) q = over_gives Good Standing_all (f (record { work = w; thread = y })) (put_back s.threads) (go y q (found_all P s.threads t y held.standing q)) (λ h a. set_all P s.threads h.thread held.standing a)

  -- a gift comes
  gift : (t : ℕ) (y : ThreadState) (v : Owned) (g : Option Owned) (w : Work) → thread_in s.threads t ≡ Some y → P y → in_walk y.phase ≡ false → Gives Good (given v g (record { work = w; thread = y }))
  gift t y v None w q p e = k.answered t y (Some v) phase.Got q p e
  gift t y v (Some u) w q p e = tt

  -- a pair is over
  goes_on : (t u : ℕ) (y : ThreadState) (w : Work) → thread_in s.threads t ≡ Some y → P y → Gives Good (pair_over u (record { work = w; thread = y }))
  goes_on t u y w q p = over_gives (λ (r : Phase). in_walk y.phase ≡ false) Good (got_par u y.phase) _ (pair_waits u y.phase) (λ r e. k.answered t y y.gift r q p e)

  -- a thread has ended
  ends : (u : ℕ) (v : Owned) (w : Work) → Gives Standing_all (deliver_finished u v (record { work = w; threads = s.threads }))
  ends u v w = then_gives Standing_all (ended w.rest.tasks u v) _ (λ p q. by p.0 p.1)
    where
      by : (ts : List Task) (e : EndedAs) → Gives Standing_all (end_answer u e (record { work = with_tasks ts w; threads = s.threads }))
      by ts (over.Answer r t b) = held.standing
      by ts (over.Both parent) = at parent (pair_over u) (with_tasks ts w) (λ y q p. goes_on parent u y (with_tasks ts w) q p)
      by ts (over.LetGo b) = held.standing
      by ts over.Kept = held.standing

  arrives : (t : ThreadState) (w : Work) → Q n t → Gives Standing_all (arrive t (record { work = w; threads = s.threads }))
  arrives t w q = stand_gives Standing_all (thread_in s.threads t.number) t (record { work = w; threads = s.threads }) (with_all P s.threads t held.standing (k.arrives t q))

  -- all messages
  delivers : (m : Message) (w : Work) → Parcel Q n m → Gives Standing_all (deliver_message code m (record { work = w; threads = s.threads }))
  delivers (message.Fetch v b r t) w q = beside (deliver_fetch v b r t) w
  delivers (message.Fetched v c t) w q = at t (deliver_fetched v c) w (λ y e p. k.copied t y e p v c (record { work = w; thread = y }) refl)
  delivers (message.Move v b r t) w q = beside (deliver_move v b r t) w
  delivers (message.Moved v c t) w q = at t (deliver_moved code v c) w (λ y e p. k.comes t y e p v c (record { work = w; thread = y }) refl)
  delivers (message.Drop v b) w q = beside (deliver_drop v b) w
  delivers (message.Lock m r t) w q = beside (deliver_lock m r t) w
  delivers (message.Granted m v t) w q = at t (deliver_granted m v) w (λ y e p. test_gives Good (waits_for_lock y.phase m) _ (λ z. gift t y v y.gift w e p (lock_waits y.phase m z)))
  delivers (message.Unlock m v) w q = beside (deliver_unlock m v) w
  delivers (message.Dup m r t) w q = beside (deliver_dup m r t) w
  delivers (message.Dupped m t) w q = at t (deliver_dupped m) w (λ y e p. test_gives Good (waits_for_dup y.phase m) _ (λ z. gift t y (owned.Mutex m) y.gift w e p (dup_waits y.phase m z)))
  delivers (message.Release x) w q = beside (release x) w
  delivers (message.Start t) w q = arrives t w q
  delivers (message.Join u r t) w q = beside (deliver_join u r t) w
  delivers (message.Joined u v t) w q = at t (deliver_joined u v) w (λ y e p. test_gives Good (waits_for_join y.phase u) _ (λ z. gift t y v y.gift w e p (join_waits y.phase u z)))
  delivers (message.Finished u v) w q = ends u v w
  delivers (message.Migrate t) w q = arrives t w q

  delivering : (i : ℕ) → Gives Then (does code o s (Deliver i))
  delivering i = by (slice_get s.rest.inbox i) refl
    where
      mail : Mailed (Parcel Q) n s.rest.outbox s.rest
      mail = held.mail

      by : (m : Option Message) → slice_get s.rest.inbox i ≡ m → Gives Then (option_map (left_by s.events None None) (then_some m (λ x. deliver_message code x (received i s))))
      by None q = tt
      by (Some m) q =
          let x = received i s in
          together None (deliver_message code m x) (delivers m x.work (all_at (Parcel Q n) s.rest.inbox i m mail.waiting q))
          (message_says (Parcel Q) n s.rest.outbox (replies Q) code m x (record { numbered = refl; waiting = remove_all (Parcel Q n) s.rest.inbox i mail.waiting; leaving = mail.leaving; more = mail.more; appended = mail.appended }))

  -- EVICTIONS AND MIGRATIONS

  evicting : (w : ℕ) → Gives Then (does code o s (Evict w))
  evicting w = together None (beside_threads (evict_copy w) (begin_at s)) (beside (evict_copy w) (begin_work s.rest)) (over_gives (λ (x : Work). Mailed (Parcel Q) n s.rest.outbox x.rest) Posted (evict_copy w (begin_work s.rest)) _ (test_gives (λ (x : Work). Mailed (Parcel Q) n s.rest.outbox x.rest) (can_evict s.rest.cache w) _ (λ q. held.mail)) (λ x b. b))

  leaving : (t target : ℕ) → has_phase is_ready (thread_in s.threads t) ≡ true → Gives Then (does code o s (Migrate t target))
  leaving t target on = by (thread_in s.threads t) refl on
    where
      by : (x : Option ThreadState) → thread_in s.threads t ≡ x → has_phase is_ready x ≡ true
          → Gives Then (option_map (left_by s.events (Some t) None) (then_some x (λ y. option_map (λ p. record { work = depart target (begin_work s.rest) p; threads = without_thread s.threads t }) (pack_thread (record y { moved_since_step = true }) s.rest.cache))))
      by None q z = tt
      by (Some y) q z = packs (unpin_all (used_words y) s.rest.cache)
        where
          packs : (l : Option (List Copy))
              → Gives Then (option_map (left_by s.events (Some t) None) (option_map (λ p. record { work = depart target (begin_work s.rest) p; threads = without_thread s.threads t }) (option_map (λ left. (packed (record y { moved_since_step = true }), left)) l)))
          packs None = tt
          packs (Some cs) = record {
            standing = without_all P s.threads t held.standing;
            mail = mail_sent (Parcel Q) n s.rest.outbox (record s.rest { cache = cs }) target (message.Migrate (packed (record y { moved_since_step = true }))) (k.leaves t target y q (found_all P s.threads t y held.standing q) z) held.mail;
          }

  -- all events
  pub turning : (w : What) → enabled o s w ≡ true → Gives Then (does code o s w)
  turning (Step t) on = stepping t
  turning (Deliver i) on = delivering i
  turning (Evict w) on = evicting w
  turning (Migrate t target) on = leaving t target (and_left (has_phase is_ready (thread_in s.threads t)) (nat_lt target o.servers && not (target == s.rest.number)) on)

-- THE CLUSTER

-- a weight of threads, by the code, that each thread of such a cluster keeps at nothing
pub record ThreadsTurn (Pre : Cluster → Type 0) (f : List Instr → Standing → ℕ) : Type 0 where
  pub before : (k : Cluster) → Pre k → tot (f k.code) (threads_in (things_of k)) ≡ 0
  pub turns : (k : Cluster) (number : ℕ) (s : Server) → Pre k → FewEvents k → server_at k.servers number ≡ Some s → Turns k.code k.options s (Stood (f k.code) s.rest.number) (InParcel (f k.code))

module _ (Pre : Cluster → Type 0) (is_sound : (k : Cluster) → Pre k → IsSound k) (f : List Instr → Standing → ℕ) (keeps : ThreadsTurn Pre f) where
  abbrev Weightless : Cluster → Type 0
  Weightless c = tot (on_standing (f c.code)) (things_of c) ≡ 0

  -- the event at its server
  acted : (k : Cluster) (e : Event) → Pre k → FewEvents k → Gives (λ (d : Cluster × EntryView). Weightless d.0) (act_at k e)
  acted k e pre few =
      let g = on_standing (f k.code) in
      let all : tot g (things_of k) ≡ 0 = omega (arith, sum_standing (f k.code) (things_of k), keeps.before k pre) in
      then_gives (λ (d : Cluster × EntryView). Weightless d.0) (server_at k.servers e.server) _ (λ s here.
      let before : tot g (server_things s) ≡ 0 = omega (arith, all, (tot-server g k.servers e.server s s here).0) in
      over_gives (λ (r : Server × EntryView). Held (Stood (f k.code) s.rest.number) (InParcel (f k.code)) s.rest.number s.rest.outbox r.0) (λ (d : Cluster × EntryView). Weightless d.0) (done_at k e.what s) _
      (test_gives (λ (r : Server × EntryView). Held (Stood (f k.code) s.rest.number) (InParcel (f k.code)) s.rest.number s.rest.outbox r.0) (enabled k.options s e.what) _ (λ on.
      turning k.code k.options s (Stood (f k.code) s.rest.number) (InParcel (f k.code)) (keeps.turns k e.server s pre few here) (from_server (f k.code) s before) e.what on))
      (λ r held. omega (arith, all, (tot-server g k.servers e.server s r.0 here).0, (tot-server g k.servers e.server s r.0 here).1, to_server (f k.code) s.rest.number s.rest.outbox r.0 held)))

  -- with its messages handed over
  pub threads_turn : (k : Cluster) (e : Event) → Pre k → FewEvents k → Gives (λ (d : Cluster × EntryView). tot (f d.0.code) (threads_in (things_of d.0)) ≡ 0) (apply k e)
  threads_turn k e pre few =
      weaker (λ (d : Cluster × EntryView). Weightless d.0) (λ (d : Cluster × EntryView). tot (f d.0.code) (threads_in (things_of d.0)) ≡ 0) (apply k e)
      (handed_on Weightless (λ c a b same g. omega (arith, g, same (on_standing (f c.code)))) k e (each_event_sends k e (is_sound k pre) few) (acted k e pre few))
      (λ d g. omega (arith, g, sum_standing (f d.0.code) (things_of d.0)))
