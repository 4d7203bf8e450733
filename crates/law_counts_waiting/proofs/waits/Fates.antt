-- What each kind of event makes of a thread, with the phase that it has then: a fact on each thread of a server, from there to the cluster with the messages handed over.
use Rattle.std.proofs.Common.{◌≡◌, ℕ, ◌+◌, ◌==◌, ◌&&◌, ◌||◌, not, Bool, true, false, nat_lt, if◌then◌else◌, List, [], ◌∷◌, Option, Some, None, refl, sym, subst, arith}
use Rattle.std.specs.Prelude.{slice_get, option_map, length, drop}
use Rattle.std.specs.List.{AllByRecursion}
use Rattle.law_counts_asking.specs.Below.fr_base.declared.name.MutexNo.{MutexNo}
use Rattle.law_counts_asking.specs.Below.fr_base.declared.instruction.Instr.{Instr}
use Rattle.law_counts_asking.specs.Below.fr_base.declared.settings.Options.{Options}
use Rattle.law_counts_asking.specs.Below.heap_partition.declared.value.Cell.{Cell}
use Rattle.law_counts_asking.specs.Below.heap_partition.declared.value.Owned.{Owned}
use Rattle.law_counts_asking.specs.Below.heap_partition.declared.value.Owned.TheVariants as owned
use Rattle.law_counts_asking.specs.Below.read_cache.Cache.{Copy, can_evict}
use Rattle.law_counts_asking.specs.Below.join_home.Tasks.{Task, ended}
use Rattle.law_counts_asking.specs.Below.join_home.declared.answers.EndedAs.{EndedAs}
use Rattle.law_counts_asking.specs.Below.join_home.declared.answers.EndedAs.TheVariants as over
use Rattle.law_counts_asking.specs.Below.thread_state.View.{ThreadState, new_thread}
use Rattle.law_counts_asking.specs.Below.thread_state.declared.phase.Phase.{Phase}
use Rattle.law_counts_asking.specs.Below.thread_state.declared.phase.Phase.TheVariants as phase
use Rattle.law_counts_asking.specs.Below.thread_state.declared.value.Value.{Value}
use Rattle.law_counts_asking.specs.Below.server_msgs.declared.message.Message.{Message}
use Rattle.law_counts_asking.specs.Below.server_msgs.declared.message.Message.TheVariants as message
use Rattle.law_counts_asking.specs.Below.migration.Packing.{unpin_all, used_words, packed, pack_thread}
use Rattle.law_counts_asking.specs.Below.journal.View.{EntryView}
use Rattle.law_counts_asking.specs.Below.server_model.declared.event.Event.{Event}
use Rattle.law_counts_asking.specs.Below.server_model.declared.event.What.{What}
use Rattle.law_counts_asking.specs.Below.server_model.declared.event.What.TheVariants.{Step, Deliver, Evict, Migrate}
use Rattle.law_counts_asking.specs.Below.server_model.Servers.{Sent, Server, Cluster, server_at}
use Rattle.law_counts_asking.specs.Below.server_model.Work.{Work, Hand, Site, then_some, thread_in, set_thread, without_thread, with_thread, put_back, at_thread, beside_threads, with_tasks, with_phase}
use Rattle.law_counts_asking.specs.Below.server_model.Objects.{deliver_fetch, deliver_fetched, deliver_move, deliver_moved, deliver_drop}
use Rattle.law_counts_asking.specs.Below.server_model.Sharing.{given, waits_for_lock, deliver_lock, deliver_granted, deliver_unlock, deliver_dup, waits_for_dup, deliver_dupped}
use Rattle.law_counts_asking.specs.Below.server_model.Joining.{deliver_join, waits_for_join, deliver_joined, got_par, pair_over, end_answer, deliver_finished, arrive}
use Rattle.law_counts_asking.specs.Below.server_model.Moving.{depart}
use Rattle.law_counts_asking.specs.Below.server_model.Events.{Stepped, has_phase, can_step, is_ready, enabled, begin_work, begin_at, left_by, received, release, deliver_message, evict_copy, step, step_in, stepped, does}
use Rattle.law_counts_asking.specs.Below.server_model.Clusters.{done_at, act_at, apply}
use Rattle.law_counts_asking.specs.Below.coherent_memory.Names.{tot}
use Rattle.law_counts_asking.specs.Below.coherent_memory.Things.{server_things, things_of}
use Rattle.law_counts_asking.specs.Below.coherent_memory.Follow.{Standing, threads_in}
use Rattle.law_counts_asking.specs.Below.coherent_memory.Coherent.{IsSound}
use Rattle.law_counts_asking.proofs.Below.coherent_memory.Names.{and_left}
use Rattle.law_counts_asking.specs.Below.law_counts_sums.Laws.{Gives, FewEvents}
use Rattle.law_counts_asking.proofs.Below.law_counts_sums.Results.{then_gives, map_gives, over_gives, test_gives, stand_gives, both_give, weaker}
use Rattle.law_counts_asking.proofs.Below.law_counts_sums.Known.{all_at}
use Rattle.law_counts_asking.proofs.Below.law_counts_sums.KnownSound.{on_standing, sum_standing}
use Rattle.law_counts_asking.proofs.Below.law_counts_sums.Events.{tot-server}
use Rattle.law_counts_asking.proofs.Below.law_counts_sums.Applied.{handed_on}
use Rattle.law_counts_asking.proofs.Below.law_counts_sums.Sending.{each_event_sends}
use Rattle.law_counts_asking.proofs.Below.law_counts_things.things.Mail.{Mailed, mail_sent, Replies, Requests, StartsAt, Begins, message_says, step_says}
use Rattle.law_counts_asking.proofs.Below.law_counts_things.things.Goes.{IsAsking}
use Rattle.law_counts_asking.proofs.Below.law_counts_things.things.Threads.{set_all, without_all, with_all, found_all, remove_all, Parcel, Held}
use Rattle.law_counts_asking.proofs.Below.law_counts_things.things.Handed.{Stood as StandsThere, InParcel, from_server, to_server}

-- what a fact on the threads of a server, and on parcels, needs in an event: what its step makes of its thread, an object or a copy that comes, what a home gives
-- and the end of a pair; and that a thread arrives, starts and leaves
pub record Fates (code : List Instr) (o : Options) (s : Server) (what : What) (P : ThreadState → Type 0) (Q : ℕ → ThreadState → Type 0) : Type 0 where
  pub steps : (t : ℕ) (y : ThreadState) (i : Instr) → what ≡ Step t → has_phase can_step (thread_in s.threads t) ≡ true → thread_in s.threads t ≡ Some y → P y → slice_get code y.pc ≡ Some i
      → Gives (λ (d : Stepped). P d.hand.thread) (step o.servers i (record { work = begin_work s.rest; thread = y }))
  pub comes : (i t v : ℕ) (c : Cell) (y : ThreadState) → what ≡ Deliver i → slice_get s.rest.inbox i ≡ Some (message.Moved v c t) → thread_in s.threads t ≡ Some y → P y
      → Gives (λ (h : Hand). P h.thread) (deliver_moved code v c (record { work = (received i s).work; thread = y }))
  pub copied : (i t v : ℕ) (c : Cell) (y : ThreadState) → what ≡ Deliver i → slice_get s.rest.inbox i ≡ Some (message.Fetched v c t) → thread_in s.threads t ≡ Some y → P y
      → Gives (λ (h : Hand). P h.thread) (deliver_fetched v c (record { work = (received i s).work; thread = y }))
  pub given_it : (t : ℕ) (y : ThreadState) (v : Owned) → thread_in s.threads t ≡ Some y → P y → IsAsking y.phase → P (record y { gift = Some v; phase = phase.Got })
  pub paired : (t a b : ℕ) (y : ThreadState) → thread_in s.threads t ≡ Some y → P y → y.phase ≡ phase.WaitPar a b → P (record y { phase = phase.GotPar a b })
  pub arrives : (t : ThreadState) → Q s.rest.number t → P t
  pub starts : (t n : ℕ) (y : ThreadState) (i : Instr) (u pc : ℕ) (vs : List Value) → thread_in s.threads t ≡ Some y → P y → slice_get code y.pc ≡ Some i → StartsAt i pc → Q n (new_thread u pc vs)
  pub leaves : (t n : ℕ) (y : ThreadState) → thread_in s.threads t ≡ Some y → P y → is_ready y.phase ≡ true → Q n (packed (record y { moved_since_step = true }))

replies : (Q : ℕ → ThreadState → Type 0) → Replies (Parcel Q)
replies Q = record { fetched = λ s w c t. tt; moved = λ s w c t. tt; granted = λ s m v t. tt; dupped = λ s m t. tt; joined = λ s u v t. tt; drop = λ w o. tt; release = λ m. tt; let_go = λ u. tt }

requests : (Q : ℕ → ThreadState → Type 0) (n : ℕ) (y : ThreadState) (i : Instr) → Requests (Parcel Q) n y i
requests Q n y i = record { replies = replies Q; fetch = λ p e. tt; move = λ p e. tt; lock = λ m. tt; dup = λ m. tt; unlock = λ m v. tt; join = λ u. tt; finished = λ o e v. tt }

-- who waits for a home asks
lock_asks : (p : Phase) (m : MutexNo) → waits_for_lock p m ≡ true → IsAsking p
lock_asks (phase.WaitLock n) m e = tt
lock_asks p m e = absurd (cc e)

dup_asks : (p : Phase) (m : MutexNo) → waits_for_dup p m ≡ true → IsAsking p
dup_asks (phase.WaitDup n) m e = tt
dup_asks p m e = absurd (cc e)

join_asks : (p : Phase) (u : ℕ) → waits_for_join p u ≡ true → IsAsking p
join_asks (phase.WaitJoin x) u e = tt
join_asks p u e = absurd (cc e)

module _ (code : List Instr) (o : Options) (s : Server) (what : What) (P : ThreadState → Type 0) (Q : ℕ → ThreadState → Type 0) (k : Fates code o s what P Q) (held : Held P Q s.rest.number s.rest.outbox s) where
  abbrev n : ℕ
  n = s.rest.number

  abbrev Then : Server × EntryView → Type 0
  Then r = Held P Q n s.rest.outbox r.0

  abbrev Stood : Site → Type 0
  Stood x = AllByRecursion P x.threads

  abbrev Posted : Site → Type 0
  Posted x = Mailed (Parcel Q) n s.rest.outbox x.work.rest

  together : (t : Option ℕ) (x : Option Site) → Gives Stood x → Gives Posted x → Gives Then (option_map (left_by s.events t None) x)
  together t None a b = tt
  together t (Some x) a b = record { standing = a; mail = b }

  -- STEPS

  stepping : (t : ℕ) → what ≡ Step t → has_phase can_step (thread_in s.threads t) ≡ true → Gives Then (does code o s (Step t))
  stepping t is on = by (thread_in s.threads t) refl
    where
      at : (y : ThreadState) → thread_in s.threads t ≡ Some y → (i : Option Instr) → slice_get code y.pc ≡ i
          → Gives Then (option_map (stepped s) (then_some i (λ x. step o.servers x (record { work = begin_work s.rest; thread = y }))))
      at y q None e = tt
      at y q (Some i) e =
          let h : Hand = record { work = begin_work s.rest; thread = y } in
          let p : P y = found_all P s.threads t y held.standing q in
          let begins : Begins (Parcel Q) o.servers s.rest i = λ pc vs r at d f. k.starts t _ y i _ pc vs q p e at in
          over_gives (λ (d : Stepped). P d.hand.thread × Mailed (Parcel Q) n s.rest.outbox d.hand.work.rest) Then (step o.servers i h) (stepped s)
          (both_give (λ (d : Stepped). P d.hand.thread) (λ (d : Stepped). Mailed (Parcel Q) n s.rest.outbox d.hand.work.rest) _ (step o.servers i h) (k.steps t y i is on q p e)
          (step_says (Parcel Q) o.servers i s.rest y (requests Q n y i) begins h (record { mail = held.mail; begun = refl; named = refl; at_home = refl })) (λ d a b. (a, b)))
          (λ d u. record { standing = set_all P s.threads d.hand.thread held.standing u.0; mail = u.1 })

      by : (x : Option ThreadState) → thread_in s.threads t ≡ x → Gives Then (option_map (stepped s) (then_some (option_map (λ y. record { work = begin_work s.rest; thread = y }) x) (step_in code o.servers)))
      by None q = tt
      by (Some y) q = at y q (slice_get code y.pc) refl

  -- DELIVERIES

  beside : (f : Work → Option Work) (w : Work) → Gives Stood (beside_threads f (record { work = w; threads = s.threads }))
  beside f w = map_gives Stood (f w) _ (λ v q. held.standing)

  abbrev Good : Hand → Type 0
  Good h = P h.thread

  at : (t : ℕ) (f : Hand → Option Hand) (w : Work) → ((y : ThreadState) → thread_in s.threads t ≡ Some y → P y → Gives Good (f (record { work = w; thread = y }))) → Gives Stood (at_thread t f (record { work = w; threads = s.threads }))
  at t f w go = by (thread_in s.threads t) refl
    where
      by : (x : Option ThreadState) → thread_in s.threads t ≡ x → Gives Stood (then_some (option_map (λ y. record { work = w; thread = y }) x) (λ h. option_map (put_back s.threads) (f h)))
      by None q = tt
      by (Some y) q = over_gives Good Stood (f (record { work = w; thread = y })) (put_back s.threads) (go y q (found_all P s.threads t y held.standing q)) (λ h a. set_all P s.threads h.thread held.standing a)

  gift : (t : ℕ) (y : ThreadState) (v : Owned) (g : Option Owned) (w : Work) → thread_in s.threads t ≡ Some y → P y → IsAsking y.phase → Gives Good (given v g (record { work = w; thread = y }))
  gift t y v None w q p e = k.given_it t y v q p e
  gift t y v (Some u) w q p e = tt

  goes_on : (t u : ℕ) (y : ThreadState) (w : Work) → thread_in s.threads t ≡ Some y → P y → Gives Good (pair_over u (record { work = w; thread = y }))
  goes_on t u y w q p = by y.phase refl
    where
      by : (r : Phase) → y.phase ≡ r → Gives Good (option_map (λ z. with_phase z (record { work = w; thread = y })) (got_par u r))
      by (phase.WaitPar a b) e =
          over_gives (λ (z : Phase). z ≡ phase.GotPar a b) Good (got_par u (phase.WaitPar a b)) (λ z. with_phase z (record { work = w; thread = y })) (test_gives (λ (z : Phase). z ≡ phase.GotPar a b) ((a == u) || (b == u)) _ (λ c. refl))
          (λ z f. subst (λ r. P (record y { phase = r })) (sym f) (k.paired t a b y q p e))
      by phase.Ready e = tt
      by phase.Got e = tt
      by (phase.Taken v) e = tt
      by (phase.WaitCell v) e = tt
      by (phase.WaitLock m) e = tt
      by (phase.WaitDup m) e = tt
      by (phase.WaitJoin v) e = tt
      by (phase.GotPar a b) e = tt
      by phase.Over e = tt

  ends : (u : ℕ) (v : Owned) (w : Work) → Gives Stood (deliver_finished u v (record { work = w; threads = s.threads }))
  ends u v w = then_gives Stood (ended w.rest.tasks u v) _ (λ p q. by p.0 p.1)
    where
      by : (ts : List Task) (e : EndedAs) → Gives Stood (end_answer u e (record { work = with_tasks ts w; threads = s.threads }))
      by ts (over.Answer r t b) = held.standing
      by ts (over.Both parent) = at parent (pair_over u) (with_tasks ts w) (λ y q p. goes_on parent u y (with_tasks ts w) q p)
      by ts (over.LetGo b) = held.standing
      by ts over.Kept = held.standing

  arrives : (t : ThreadState) (w : Work) → Q n t → Gives Stood (arrive t (record { work = w; threads = s.threads }))
  arrives t w q = stand_gives Stood (thread_in s.threads t.number) t (record { work = w; threads = s.threads }) (with_all P s.threads t held.standing (k.arrives t q))

  delivers : (i : ℕ) (m : Message) → what ≡ Deliver i → slice_get s.rest.inbox i ≡ Some m → Parcel Q n m → Gives Stood (deliver_message code m (received i s))
  delivers i (message.Fetch v b r t) is there q = beside (deliver_fetch v b r t) (received i s).work
  delivers i (message.Fetched v c t) is there q = at t (deliver_fetched v c) (received i s).work (λ y e p. k.copied i t v c y is there e p)
  delivers i (message.Move v b r t) is there q = beside (deliver_move v b r t) (received i s).work
  delivers i (message.Moved v c t) is there q = at t (deliver_moved code v c) (received i s).work (λ y e p. k.comes i t v c y is there e p)
  delivers i (message.Drop v b) is there q = beside (deliver_drop v b) (received i s).work
  delivers i (message.Lock m r t) is there q = beside (deliver_lock m r t) (received i s).work
  delivers i (message.Granted m v t) is there q = at t (deliver_granted m v) (received i s).work (λ y e p. test_gives Good (waits_for_lock y.phase m) _ (λ z. gift t y v y.gift (received i s).work e p (lock_asks y.phase m z)))
  delivers i (message.Unlock m v) is there q = beside (deliver_unlock m v) (received i s).work
  delivers i (message.Dup m r t) is there q = beside (deliver_dup m r t) (received i s).work
  delivers i (message.Dupped m t) is there q = at t (deliver_dupped m) (received i s).work (λ y e p. test_gives Good (waits_for_dup y.phase m) _ (λ z. gift t y (owned.Mutex m) y.gift (received i s).work e p (dup_asks y.phase m z)))
  delivers i (message.Release x) is there q = beside (release x) (received i s).work
  delivers i (message.Start t) is there q = arrives t (received i s).work q
  delivers i (message.Join u r t) is there q = beside (deliver_join u r t) (received i s).work
  delivers i (message.Joined u v t) is there q = at t (deliver_joined u v) (received i s).work (λ y e p. test_gives Good (waits_for_join y.phase u) _ (λ z. gift t y v y.gift (received i s).work e p (join_asks y.phase u z)))
  delivers i (message.Finished u v) is there q = ends u v (received i s).work
  delivers i (message.Migrate t) is there q = arrives t (received i s).work q

  delivering : (i : ℕ) → what ≡ Deliver i → Gives Then (does code o s (Deliver i))
  delivering i is = by (slice_get s.rest.inbox i) refl
    where
      mail : Mailed (Parcel Q) n s.rest.outbox s.rest
      mail = held.mail

      by : (m : Option Message) → slice_get s.rest.inbox i ≡ m → Gives Then (option_map (left_by s.events None None) (then_some m (λ x. deliver_message code x (received i s))))
      by None q = tt
      by (Some m) q =
          let x = received i s in
          together None (deliver_message code m x) (delivers i m is q (all_at (Parcel Q n) s.rest.inbox i m mail.waiting q))
          (message_says (Parcel Q) n s.rest.outbox (replies Q) code m x (record { numbered = refl; waiting = remove_all (Parcel Q n) s.rest.inbox i mail.waiting; leaving = mail.leaving; more = mail.more; appended = mail.appended }))

  -- EVICTIONS AND MIGRATIONS

  evicting : (w : ℕ) → Gives Then (does code o s (Evict w))
  evicting w = together None (beside_threads (evict_copy w) (begin_at s)) (beside (evict_copy w) (begin_work s.rest)) (over_gives (λ (x : Work). Mailed (Parcel Q) n s.rest.outbox x.rest) Posted (evict_copy w (begin_work s.rest)) _ (test_gives (λ (x : Work). Mailed (Parcel Q) n s.rest.outbox x.rest) (can_evict s.rest.cache w) _ (λ q. held.mail)) (λ x b. b))

  leaving : (t target : ℕ) → has_phase is_ready (thread_in s.threads t) ≡ true → Gives Then (does code o s (Migrate t target))
  leaving t target on = by (thread_in s.threads t) refl on
    where
      by : (x : Option ThreadState) → thread_in s.threads t ≡ x → has_phase is_ready x ≡ true
          → Gives Then (option_map (left_by s.events (Some t) None) (then_some x (λ y. option_map (λ p. record { work = depart target (begin_work s.rest) p; threads = without_thread s.threads t }) (pack_thread (record y { moved_since_step = true }) s.rest.cache))))
      by None q z = tt
      by (Some y) q z = packs (unpin_all (used_words y) s.rest.cache)
        where
          packs : (l : Option (List Copy))
              → Gives Then (option_map (left_by s.events (Some t) None) (option_map (λ p. record { work = depart target (begin_work s.rest) p; threads = without_thread s.threads t }) (option_map (λ left. (packed (record y { moved_since_step = true }), left)) l)))
          packs None = tt
          packs (Some cs) = record {
            standing = without_all P s.threads t held.standing;
            mail = mail_sent (Parcel Q) n s.rest.outbox (record s.rest { cache = cs }) target (message.Migrate (packed (record y { moved_since_step = true }))) (k.leaves t target y q (found_all P s.threads t y held.standing q) z) held.mail;
          }

  pub doing : enabled o s what ≡ true → Gives Then (does code o s what)
  doing on = by what refl on
    where
      by : (w : What) → what ≡ w → enabled o s w ≡ true → Gives Then (does code o s w)
      by (Step t) is steps = stepping t is steps
      by (Deliver i) is delivers_it = delivering i is
      by (Evict v) is evicts = evicting v
      by (Migrate t target) is leaves = leaving t target (and_left (has_phase is_ready (thread_in s.threads t)) (nat_lt target o.servers && not (target == s.rest.number)) leaves)

-- THE CLUSTER

-- a weight of threads that an event keeps at nothing at its server is nothing over the cluster, once its messages are handed over
module _ (f : Standing → ℕ) (k : Cluster) (e : Event) (sound : IsSound k) (few : FewEvents k) (none : tot f (threads_in (things_of k)) ≡ 0)
    (go : (s : Server) → server_at k.servers e.server ≡ Some s → Fates k.code k.options s e.what (StandsThere f s.rest.number) (InParcel f)) where
  abbrev Weightless : Cluster → Type 0
  Weightless c = tot (on_standing f) (things_of c) ≡ 0

  acted : Gives (λ (d : Cluster × EntryView). Weightless d.0) (act_at k e)
  acted =
      let g = on_standing f in
      let all : tot g (things_of k) ≡ 0 = omega (arith, sum_standing f (things_of k), none) in
      then_gives (λ (d : Cluster × EntryView). Weightless d.0) (server_at k.servers e.server) _ (λ s here.
      let before : tot g (server_things s) ≡ 0 = omega (arith, all, (tot-server g k.servers e.server s s here).0) in
      over_gives (λ (r : Server × EntryView). Held (StandsThere f s.rest.number) (InParcel f) s.rest.number s.rest.outbox r.0) (λ (d : Cluster × EntryView). Weightless d.0) (done_at k e.what s) _
      (test_gives (λ (r : Server × EntryView). Held (StandsThere f s.rest.number) (InParcel f) s.rest.number s.rest.outbox r.0) (enabled k.options s e.what) _ (λ able.
      doing k.code k.options s e.what (StandsThere f s.rest.number) (InParcel f) (go s here) (from_server f s before) able))
      (λ r held. omega (arith, all, (tot-server g k.servers e.server s r.0 here).0, (tot-server g k.servers e.server s r.0 here).1, to_server f s.rest.number s.rest.outbox r.0 held)))

  pub fated : Gives (λ (d : Cluster × EntryView). tot f (threads_in (things_of d.0)) ≡ 0) (apply k e)
  fated =
      weaker (λ (d : Cluster × EntryView). Weightless d.0) (λ (d : Cluster × EntryView). tot f (threads_in (things_of d.0)) ≡ 0) (apply k e)
      (handed_on Weightless (λ c a b same g. omega (arith, g, same (on_standing f))) k e (each_event_sends k e sound few) acted) (λ d g. omega (arith, g, sum_standing f (things_of d.0)))
