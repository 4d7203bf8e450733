-- No event but a plain step of a thread takes a mark from it; a thread that moves has one, and one without a mark has none elsewhere.
use Rattle.std.proofs.Common.{◌≡◌, ◌≤◌, ℕ, ◌+◌, ◌==◌, ◌&&◌, not, Bool, true, false, if◌then◌else◌, List, [], ◌∷◌, length, Option, Some, None, refl, sym, ap, subst, ◌∙◌, arith}
use Rattle.std.proofs.lemmas.Bool.Decides.{nat_tests}
use Rattle.std.specs.Prelude.{option_map, slice_get, take, drop, is_some}
use Rattle.law_length_runs.specs.Below.law_counts_things.Below.fr_base.Lists.{tot, one}
use Rattle.law_length_runs.specs.Below.law_counts_things.Below.fr_base.declared.instruction.Instr.{Instr}
use Rattle.law_length_runs.specs.Below.law_counts_things.Below.fr_base.declared.settings.Options.{Options}
use Rattle.law_length_runs.specs.Below.law_counts_things.Below.fr_base.declared.step.Fresh.{Fresh}
use Rattle.law_length_runs.specs.Below.law_counts_things.Below.read_cache.Cache.{Copy, can_evict, evict}
use Rattle.law_length_runs.specs.Below.law_counts_things.Below.migration.Packing.{unpin_all, used_words, packed}
use Rattle.law_length_runs.specs.Below.law_counts_things.Below.thread_state.View.{ThreadState}
use Rattle.law_length_runs.specs.Below.law_counts_things.Below.server_msgs.declared.message.Message.{Message}
use Rattle.law_length_runs.specs.Below.law_counts_things.Below.server_msgs.declared.message.Message.TheVariants as message
use Rattle.law_length_runs.specs.Below.law_counts_things.Below.journal.View.{EntryView}
use Rattle.law_length_runs.specs.Below.law_counts_things.Below.journal.declared.act.Act.TheVariants as act
use Rattle.law_length_runs.specs.Below.law_counts_things.Below.coloured_heap.Lists.{holds as is_so}
use Rattle.law_length_runs.specs.Below.law_counts_things.Below.coloured_heap.Driven.{departing}
use Rattle.law_length_runs.specs.Below.law_counts_things.Below.server_model.declared.event.Event.{Event}
use Rattle.law_length_runs.specs.Below.law_counts_things.Below.server_model.declared.event.What.{What}
use Rattle.law_length_runs.specs.Below.law_counts_things.Below.server_model.declared.event.What.TheVariants.{Step, Deliver, Evict, Migrate}
use Rattle.law_length_runs.specs.Below.law_counts_things.Below.server_model.Servers.{Sent, Server, Cluster, server_at}
use Rattle.law_length_runs.specs.Below.law_counts_things.Below.server_model.Work.{Hand, receive, note, with_cache, thread_in, without_thread, then_some}
use Rattle.law_length_runs.specs.Below.law_counts_things.Below.server_model.Moving.{depart}
use Rattle.law_length_runs.specs.Below.law_counts_things.Below.server_model.Questions.{movable, movable_in}
use Rattle.law_length_runs.specs.Below.law_counts_things.Below.server_model.Events.{Stepped, is_ready, begin_work, begin_at, enabled, left_by, received, deliver_message, step, step_in, stepped, does}
use Rattle.law_length_runs.specs.Below.law_counts_things.Below.server_model.Clusters.{with_server, hand_over_newer, done_at, apply}
use Rattle.law_length_runs.specs.Below.law_counts_things.Below.coherent_memory.Things.{Thing, holds, shares, borrows, locks, lies, flies, vacant, retired, copied, uses, sent, stands, at_home, queued, noted, counts, things_at, message_things, waiting_things, leaving_things, standing_things, server_things, servers_things, things_of}
use Rattle.law_length_runs.specs.Below.law_counts_things.Below.coherent_memory.Weights.{is_thread}
use Rattle.law_length_runs.specs.Below.law_counts_things.Below.coherent_memory.Coherent.{IsSound}
use Rattle.law_length_runs.specs.Below.law_counts_things.Below.law_counts_sums.Laws.{Gives, GoTo, FewEvents}
use Rattle.law_length_runs.proofs.Below.law_counts_things.Below.coherent_memory.Sums.{tot-append}
use Rattle.law_length_runs.proofs.Below.law_counts_things.Below.law_counts_sums.Results.{then_gives, over_gives, test_gives, both_give}
use Rattle.law_length_runs.proofs.Below.law_counts_things.Below.law_counts_sums.KnownSound.{on_standing}
use Rattle.law_length_runs.proofs.Below.law_counts_things.Below.law_counts_sums.Unseen.{Unseen, Unnoted, thread_alone, seen_of}
use Rattle.law_length_runs.proofs.Below.law_counts_things.Below.law_counts_sums.Events.{tot-server}
use Rattle.law_length_runs.proofs.Below.law_counts_things.Below.law_counts_sums.Applied.{go_with}
use Rattle.law_length_runs.proofs.Below.law_counts_things.Below.law_counts_sums.Handing.{hand_over_newer_law}
use Rattle.law_length_runs.proofs.Below.law_counts_things.Below.law_counts_sums.Sending.{each_event_sends}
use Rattle.law_length_runs.proofs.Below.law_counts_things.things.Plainly.{EndsStep}
use Rattle.law_length_runs.proofs.Below.law_counts_limits.sendings.Sent.{evicts}
use Rattle.law_length_runs.proofs.worth.Lists.{thread_set, thread_found, thread_goes}
use Rattle.law_length_runs.proofs.asked.Steps.{HasAsked, undone_asks}
use Rattle.law_length_runs.proofs.driven.Marks.{parcel_of, mark, parcels, at_server, sends, receives, E, step_marks, After, message_marks}

-- WEIGHTS OF THREADS

module _ (g : ThreadState → ℕ) where
  abbrev pub weight : Thing → ℕ
  weight = on_standing (λ x. g x.thread)

  unseen : (n : ℕ) → Unseen weight n
  unseen n = record { held = λ p v. refl; shared = λ l r. refl; borrowed = λ l r. refl; locked = λ l m. refl; live = λ a c. refl; free = λ a m. refl; old = λ a. refl; copy = λ s c. refl; used = λ s x. refl }

  unnoted : Unnoted weight
  unnoted = record { mutex = λ s m. refl; queue = λ m s t. refl; note = λ s t. refl }

  one_message : (n : ℕ) (m : Message) → tot weight (message_things n m) ≡ parcel_of g m
  one_message n (message.Start t) = omega (arith, thread_alone weight n (unseen n) n true t)
  one_message n (message.Migrate t) = omega (arith, thread_alone weight n (unseen n) n true t)
  one_message n (message.Fetch v b r t) = refl
  one_message n (message.Fetched v c t) = refl
  one_message n (message.Move v b r t) = refl
  one_message n (message.Moved v c t) = refl
  one_message n (message.Drop v b) = refl
  one_message n (message.Lock m r t) = refl
  one_message n (message.Granted m v t) = refl
  one_message n (message.Unlock m v) = refl
  one_message n (message.Dup m r t) = refl
  one_message n (message.Dupped m t) = refl
  one_message n (message.Release x) = refl
  one_message n (message.Join u r t) = refl
  one_message n (message.Joined u v t) = refl
  one_message n (message.Finished u v) = refl

  all_things : {A : Type 0} (f : ℕ → A → List Thing) (h : A → ℕ) → ((i : ℕ) (x : A) → tot weight (f i x) ≡ h x) → (i : ℕ) (xs : List A) → tot weight (things_at f i xs) ≡ tot h xs
  all_things f h o i [] = refl
  all_things f h o i (x ∷ xs) = omega (arith, o i x, all_things f h o (i + 1) xs, tot-append weight (f i x) (things_at f (i + 1) xs))

  -- of a server: its threads, and those in parcels there
  abbrev pub of_server : Server → ℕ
  of_server s = tot g s.threads + (tot (parcel_of g) s.rest.inbox + tot (λ (x : Sent). parcel_of g x.message) s.rest.outbox)

  server_weighs : (s : Server) → tot weight (server_things s) ≡ of_server s
  server_weighs s =
      let n = s.rest.number in
      omega (
        arith,
        seen_of weight n (unseen n) unnoted s refl,
        all_things (standing_things n) g (λ i t. thread_alone weight n (unseen n) n false t) 0 s.threads,
        all_things (waiting_things n) (parcel_of g) (λ i m. one_message n m) 0 s.rest.inbox,
        all_things leaving_things (λ (x : Sent). parcel_of g x.message) (λ i x. one_message x.target x.message) 0 s.rest.outbox,
      )

  servers_weigh : (ss : List Server) → tot weight (servers_things ss) ≡ tot of_server ss
  servers_weigh [] = refl
  servers_weigh (s ∷ ss) = omega (arith, tot-append weight (server_things s) (servers_things ss), server_weighs s, servers_weigh ss)

-- MARKS

-- the marks of the threads of a number
abbrev pub marks : ℕ → Cluster → ℕ
marks n k = tot (weight (mark n)) (things_of k)

-- an entry is a plain step of that thread
abbrev pub steps_by : ℕ → EntryView → ℕ
steps_by n v = one (is_some v.done && is_so (λ t. t == n) v.thread)

one_less : (a b : Bool) → one (a && b) ≤ one a
one_less true true = omega arith
one_less true false = omega arith
one_less false b = omega arith

marked_more : (a b : Bool) → one (a && b) ≤ one (a && true)
marked_more true true = omega arith
marked_more true false = omega arith
marked_more false b = omega arith

module _ (n : ℕ) (code : List Instr) (o : Options) (s : Server) where
  -- at its server
  abbrev pub Keeps : Server × EntryView → Type 0
  Keeps r = at_server n s ≤ at_server n r.0 + steps_by n r.1

  abbrev c : ℕ
  c = parcels n s.rest

  stepping : (t : ℕ) → Gives Keeps (does code o s (Step t))
  stepping t = by (thread_in s.threads t) refl
    where
      -- the mark of the thread that steps
      kept : (y : ThreadState) (d : Stepped) (x : Option Fresh) → d.names ≡ x → d.hand.thread.number ≡ y.number → (HasAsked d.hand.thread.phase → d.hand.thread.moved_since_step ≡ y.moved_since_step) → (d.names ≡ None → HasAsked d.hand.thread.phase)
          → mark n y ≤ mark n d.hand.thread + one (is_some d.names && (d.hand.thread.number == n))
      kept y d None e same moved asks =
          let w : mark n d.hand.thread ≡ mark n y = ap (λ m. one ((m == n) && d.hand.thread.moved_since_step)) same ∙ ap (λ b. one ((y.number == n) && b)) (moved (asks e)) in
          omega (arith, w)
      kept y d (Some names) e same moved asks =
          let it : one (is_some d.names && (d.hand.thread.number == n)) ≡ one (y.number == n) = ap (λ x. one (is_some x && (d.hand.thread.number == n))) e ∙ ap (λ m. one (m == n)) same in
          let l = one_less (y.number == n) y.moved_since_step in
          omega (arith, it, l)

      put : (y : ThreadState) → thread_in s.threads t ≡ Some y → (d : Stepped) → EndsStep (E n c y) d → (d.names ≡ None → HasAsked d.hand.thread.phase) → Keeps (stepped s d)
      put y q d a asks =
          let here : thread_in s.threads d.hand.thread.number ≡ Some y = subst (λ m. thread_in s.threads m ≡ Some y) (sym a.0) (thread_found s.threads t y q) in
          omega (arith, a.2, thread_set (mark n) s.threads y d.hand.thread here, kept y d d.names refl a.0 a.1 asks)

      by : (x : Option ThreadState) → thread_in s.threads t ≡ x → Gives Keeps (option_map (stepped s) (then_some (option_map (λ y. record { work = begin_work s.rest; thread = y }) x) (step_in code o.servers)))
      by None q = tt
      by (Some y) q =
          let h : Hand = record { work = begin_work s.rest; thread = y } in
          over_gives (λ (d : Stepped). EndsStep (E n c y) d × (d.names ≡ None → HasAsked d.hand.thread.phase)) Keeps (step_in code o.servers h) (stepped s)
          (then_gives (λ (d : Stepped). EndsStep (E n c y) d × (d.names ≡ None → HasAsked d.hand.thread.phase)) (slice_get code y.pc) (λ i. step o.servers i h) (λ i z.
          both_give (EndsStep (E n c y)) (λ (d : Stepped). d.names ≡ None → HasAsked d.hand.thread.phase) (λ (d : Stepped). EndsStep (E n c y) d × (d.names ≡ None → HasAsked d.hand.thread.phase)) (step o.servers i h)
          (step_marks n c y o.servers i h (refl, refl, omega arith)) (undone_asks o.servers i h) (λ d u v. (u, v)))) (λ d u. put y q d u.0 u.1)

  delivering : (i : ℕ) → Gives Keeps (does code o s (Deliver i))
  delivering i = by (slice_get s.rest.inbox i) refl
    where
      by : (m : Option Message) → slice_get s.rest.inbox i ≡ m → Gives Keeps (option_map (left_by s.events None None) (then_some m (λ x. deliver_message code x (received i s))))
      by None q = tt
      by (Some m) q =
          over_gives (After n (parcels n (receive s.rest i)) m s.threads) Keeps (deliver_message code m (received i s)) (left_by s.events None None)
          (message_marks n (parcels n (receive s.rest i)) code m (received i s) (omega arith)) (λ x a. omega (arith, a, receives n s.rest i m q))

  evicting : (w : ℕ) → Gives Keeps (does code o s (Evict w))
  evicting w = by (can_evict s.rest.cache w)
    where
      by : (q : Bool) → Gives Keeps (option_map (left_by s.events None None) (option_map (λ x. record (begin_at s) { work = x }) (if q then Some (note (act.Evict w) (with_cache (evict s.rest.cache w) (begin_work s.rest))) else None)))
      by true = omega arith
      by false = tt

  leaving : (t target : ℕ) → Gives Keeps (does code o s (Migrate t target))
  leaving t target = by (thread_in s.threads t) refl
    where
      packs : (y : ThreadState) (l : Option (List Copy)) → thread_in s.threads t ≡ Some y
          → Gives Keeps (option_map (left_by s.events (Some t) None) (option_map (λ p. record { work = depart target (begin_work s.rest) p; threads = without_thread s.threads t }) (option_map (λ left. (packed (record y { moved_since_step = true }), left)) l)))
      packs y None q = tt
      packs y (Some cs) q =
          let m : Message = message.Migrate (packed (record y { moved_since_step = true })) in
          omega (arith, sends n (record s.rest { cache = cs }) target m, thread_goes (mark n) s.threads t y q, marked_more (y.number == n) y.moved_since_step)

      by : (x : Option ThreadState) → thread_in s.threads t ≡ x
          → Gives Keeps
          (option_map (left_by s.events (Some t) None) (then_some x (λ y. option_map (λ p. record { work = depart target (begin_work s.rest) p; threads = without_thread s.threads t }) (option_map (λ left. (packed (record y { moved_since_step = true }), left)) (unpin_all (used_words y) s.rest.cache)))))
      by None q = tt
      by (Some y) q = packs y (unpin_all (used_words y) s.rest.cache) q

  each : (w : What) → Gives Keeps (does code o s w)
  each (Step t) = stepping t
  each (Deliver i) = delivering i
  each (Evict w) = evicting w
  each (Migrate t target) = leaving t target

-- A THREAD THAT MOVES

-- its entry moves it alone, and it has a mark then
abbrev pub Moves : ℕ → Server × EntryView → Type 0
Moves t r = (departing r.1.acts ≡ t ∷ []) × (tot evicts r.1.acts ≡ 0) × (r.1.done ≡ None) × (1 ≤ at_server t r.0)

its_number : (ts : List ThreadState) (t : ℕ) (y : ThreadState) → thread_in ts t ≡ Some y → y.number ≡ t
its_number [] t y e = absurd (cc e)
its_number (x ∷ ts) t y e = by (x.number == t) refl e (its_number ts t y)
  where
    by : (b : Bool) → (x.number == t) ≡ b → (if b then Some x else thread_in ts t) ≡ Some y → (thread_in ts t ≡ Some y → y.number ≡ t) → y.number ≡ t
    by true q h go = let same : x ≡ y = cc in let at : x.number ≡ t = grind (arith, nat_tests, q) in ap (λ (z : ThreadState). z.number) (sym same) ∙ at
    by false q h go = go h

pub moving : (code : List Instr) (o : Options) (s : Server) (t target : ℕ) → Gives (Moves t) (does code o s (Migrate t target))
moving code o s t target = by (thread_in s.threads t) refl
  where
    itself : (y : ThreadState) → y.number ≡ t → one ((y.number == t) && true) ≡ 1
    itself y e = ap (λ m. one ((m == t) && true)) e ∙ of (t == t) refl
      where
        of : (b : Bool) → (t == t) ≡ b → one (b && true) ≡ 1
        of true q = refl
        of false q = absurd (grind (arith, nat_tests, q))

    packs : (y : ThreadState) (l : Option (List Copy)) → y.number ≡ t
        → Gives (Moves t) (option_map (left_by s.events (Some t) None) (option_map (λ p. record { work = depart target (begin_work s.rest) p; threads = without_thread s.threads t }) (option_map (λ left. (packed (record y { moved_since_step = true }), left)) l)))
    packs y None q = tt
    packs y (Some cs) q =
        let m : Message = message.Migrate (packed (record y { moved_since_step = true })) in
        (ap (λ i. i ∷ []) q, refl, refl, omega (arith, sends t (record s.rest { cache = cs }) target m, itself y q))

    by : (x : Option ThreadState) → thread_in s.threads t ≡ x
        → Gives (Moves t)
        (option_map (left_by s.events (Some t) None) (then_some x (λ y. option_map (λ p. record { work = depart target (begin_work s.rest) p; threads = without_thread s.threads t }) (option_map (λ left. (packed (record y { moved_since_step = true }), left)) (unpin_all (used_words y) s.rest.cache)))))
    by None q = tt
    by (Some y) q = packs y (unpin_all (used_words y) s.rest.cache) (its_number s.threads t y q)

-- IN THE CLUSTER

module _ (k : Cluster) (e : Event) (sound : IsSound k) (few : FewEvents k) where
  -- a fact of a server and its entry is one of the cluster, once the messages are handed over: by what things weigh
  handed : (f : Thing → ℕ) (s : Server) → server_at k.servers e.server ≡ Some s → (r : Server × EntryView) → done_at k e.what s ≡ Some r → GoTo (with_server k.servers e.server r.0) (drop (length s.rest.outbox) r.0.rest.outbox)
      → tot f (servers_things (hand_over_newer e.server (length s.rest.outbox) r.0 k.servers)) + tot f (server_things s) ≡ tot f (servers_things k.servers) + tot f (server_things r.0)
  handed f s here r q go =
      let over = hand_over_newer_law f e.server (length s.rest.outbox) s r.0 k.servers here (go_with k.servers e.server r.0 (take (length s.rest.outbox) r.0.rest.outbox) (drop (length s.rest.outbox) r.0.rest.outbox) go) in
      let parts = tot-server f k.servers e.server s r.0 here in
      omega (arith, over, parts.0, parts.1)

  applied : (P : Server → Server × EntryView → Type 0) (Q : Cluster × EntryView → Type 0) → ((s : Server) → Gives (P s) (does k.code k.options s e.what))
      → ((s : Server) (r : Server × EntryView) (z : List Server) → P s r → ((f : Thing → ℕ) → tot f (servers_things z) + tot f (server_things s) ≡ tot f (servers_things k.servers) + tot f (server_things r.0))
      → ((f : Thing → ℕ) → tot f (server_things s) ≤ tot f (servers_things k.servers)) → Q (record k { servers = z }, r.1))
      → Gives Q (apply k e)
  applied P Q does_it then_so = by (server_at k.servers e.server) refl
    where
      of : (s : Server) → server_at k.servers e.server ≡ Some s → (x : Option (Server × EntryView)) → done_at k e.what s ≡ x → Gives (P s) x → Gives (λ (r : Server × EntryView). GoTo (with_server k.servers e.server r.0) (drop (length s.rest.outbox) r.0.rest.outbox)) x
          → Gives Q (option_map (λ d. (record k { servers = hand_over_newer e.server (length s.rest.outbox) d.0 k.servers }, d.1)) x)
      of s here None q p go = tt
      of s here (Some r) q p go = then_so s r (hand_over_newer e.server (length s.rest.outbox) r.0 k.servers) p (λ f. handed f s here r q go) (λ f. (let parts = tot-server f k.servers e.server s s here in omega (arith, parts.0)))

      by : (x : Option Server) → server_at k.servers e.server ≡ x → Gives Q (then_some x (λ s. option_map (λ d. (record k { servers = hand_over_newer e.server (length s.rest.outbox) d.0 k.servers }, d.1)) (done_at k e.what s)))
      by None here = tt
      by (Some s) here = of s here (done_at k e.what s) refl (test_gives (P s) (enabled k.options s e.what) _ (λ on. does_it s)) (each_event_sends k e sound few s here)

  -- no mark goes but by a plain step of its thread
  pub event_marks : (n : ℕ) → Gives (λ (d : Cluster × EntryView). marks n k ≤ marks n d.0 + steps_by n d.1) (apply k e)
  event_marks n =
      applied (λ s. Keeps n k.code k.options s) (λ (d : Cluster × EntryView). marks n k ≤ marks n d.0 + steps_by n d.1) (λ s. each n k.code k.options s e.what)
      (λ s r z p same less. omega (arith, p, same (weight (mark n)), server_weighs (mark n) s, server_weighs (mark n) r.0))

  -- a thread that moves has a mark
  pub move_marks : (t target : ℕ) → e.what ≡ Migrate t target → Gives (λ (d : Cluster × EntryView). (departing d.1.acts ≡ t ∷ []) × (d.1.done ≡ None) × (1 ≤ marks t d.0)) (apply k e)
  move_marks t target is =
      applied (λ s. Moves t) (λ (d : Cluster × EntryView). (departing d.1.acts ≡ t ∷ []) × (d.1.done ≡ None) × (1 ≤ marks t d.0)) (λ s. subst (λ w. Gives (Moves t) (does k.code k.options s w)) (sym is) (moving k.code k.options s t target))
      (λ s r z p same less. (p.0, p.2, (let v = p.3 in omega (arith, v, same (weight (mark t)), less (weight (mark t)), server_weighs (mark t) r.0))))

-- A THREAD WITHOUT A MARK

-- the threads of a number
abbrev num : ℕ → ThreadState → ℕ
num t y = one (y.number == t)

as_counted : (t : ℕ) (x : Thing) → weight (num t) x ≡ is_thread t x
as_counted t (stands s p x) = refl
as_counted t (holds l v) = refl
as_counted t (shares l r) = refl
as_counted t (borrows l r) = refl
as_counted t (locks l m) = refl
as_counted t (lies s a c) = refl
as_counted t (flies w c) = refl
as_counted t (vacant s a m) = refl
as_counted t (retired s a) = refl
as_counted t (copied s c) = refl
as_counted t (uses s w) = refl
as_counted t (sent s m) = refl
as_counted t (at_home s m) = refl
as_counted t (queued m s u) = refl
as_counted t (noted s x) = refl
as_counted t (counts s nx old started made events) = refl

all_counted : (t : ℕ) (xs : List Thing) → tot (weight (num t)) xs ≡ tot (is_thread t) xs
all_counted t [] = refl
all_counted t (x ∷ xs) = omega (arith, as_counted t x, all_counted t xs)

-- no more have a mark than there are
threads_marked : (t : ℕ) (ts : List ThreadState) → tot (mark t) ts ≤ tot (num t) ts
threads_marked t [] = omega arith
threads_marked t (y ∷ ts) = omega (arith, one_less (y.number == t) y.moved_since_step, threads_marked t ts)

one_marked : (t : ℕ) (m : Message) → parcel_of (mark t) m ≤ parcel_of (num t) m
one_marked t (message.Start y) = one_less (y.number == t) y.moved_since_step
one_marked t (message.Migrate y) = one_less (y.number == t) y.moved_since_step
one_marked t m = omega arith

inbox_marked : (t : ℕ) (ms : List Message) → tot (parcel_of (mark t)) ms ≤ tot (parcel_of (num t)) ms
inbox_marked t [] = omega arith
inbox_marked t (m ∷ ms) = omega (arith, one_marked t m, inbox_marked t ms)

outbox_marked : (t : ℕ) (xs : List Sent) → tot (λ (x : Sent). parcel_of (mark t) x.message) xs ≤ tot (λ (x : Sent). parcel_of (num t) x.message) xs
outbox_marked t [] = omega arith
outbox_marked t (x ∷ xs) = omega (arith, one_marked t x.message, outbox_marked t xs)

server_marked : (t : ℕ) (s : Server) → of_server (mark t) s ≤ of_server (num t) s
server_marked t s = omega (arith, threads_marked t s.threads, inbox_marked t s.rest.inbox, outbox_marked t s.rest.outbox)

-- one that may move has none
unmarked_there : (ts : List ThreadState) (t : ℕ) → movable_in ts ≡ Some t → tot (mark t) ts + 1 ≤ tot (num t) ts
unmarked_there [] t e = absurd (cc e)
unmarked_there (y ∷ ts) t e = by (is_ready y.phase) y.moved_since_step refl e (unmarked_there ts t)
  where
    later : (movable_in ts ≡ Some t → tot (mark t) ts + 1 ≤ tot (num t) ts) → movable_in ts ≡ Some t → tot (mark t) (y ∷ ts) + 1 ≤ tot (num t) (y ∷ ts)
    later go h = let l = go h in omega (arith, l, one_less (y.number == t) y.moved_since_step)

    by : (b c : Bool) → y.moved_since_step ≡ c → (if b && not c then Some y.number else movable_in ts) ≡ Some t → (movable_in ts ≡ Some t → tot (mark t) ts + 1 ≤ tot (num t) ts) → tot (mark t) (y ∷ ts) + 1 ≤ tot (num t) (y ∷ ts)
    by true false q h go =
        let same : y.number ≡ t = cc in
        let none : mark t y ≡ 0 = ap (λ b. one ((y.number == t) && b)) q ∙ never (y.number == t) in
        let it : num t y ≡ 1 = ap (λ m. one (m == t)) same ∙ itself (t == t) refl in
        omega (arith, none, it, threads_marked t ts)
      where
        never : (b : Bool) → one (b && false) ≡ 0
        never true = refl
        never false = refl

        itself : (b : Bool) → (t == t) ≡ b → one b ≡ 1
        itself true q = refl
        itself false q = absurd (grind (arith, nat_tests, q))
    by true true q h go = later go h
    by false c q h go = later go h

servers_marked : (t : ℕ) (ss : List Server) → tot (of_server (mark t)) ss ≤ tot (of_server (num t)) ss
servers_marked t [] = omega arith
servers_marked t (s ∷ ss) = omega (arith, server_marked t s, servers_marked t ss)

one_without : (t n : ℕ) (ss : List Server) (s : Server) → server_at ss n ≡ Some s → movable s ≡ Some t → tot (of_server (mark t)) ss + 1 ≤ tot (of_server (num t)) ss
one_without t n [] s e h = absurd (cc e)
one_without t n (x ∷ ss) s e h = by (x.rest.number == n) e (λ g. one_without t n ss s g h)
  where
    by : (b : Bool) → (if b then Some x else server_at ss n) ≡ Some s → (server_at ss n ≡ Some s → tot (of_server (mark t)) ss + 1 ≤ tot (of_server (num t)) ss) → tot (of_server (mark t)) (x ∷ ss) + 1 ≤ tot (of_server (num t)) (x ∷ ss)
    by true q go =
        let same : x ≡ s = cc in
        let here : movable x ≡ Some t = ap movable same ∙ h in
        omega (arith, unmarked_there x.threads t here, inbox_marked t x.rest.inbox, outbox_marked t x.rest.outbox, servers_marked t ss)
    by false q go = let l = go q in omega (arith, l, server_marked t x)

-- so it has none anywhere
pub movers_unmarked : (k : Cluster) → IsSound k → (t n : ℕ) (s : Server) → server_at k.servers n ≡ Some s → movable s ≡ Some t → marks t k ≡ 0
movers_unmarked k sound t n s here h =
    omega (arith, one_without t n k.servers s here h, servers_weigh (mark t) k.servers, servers_weigh (num t) k.servers, all_counted t (things_of k), sound.names.numbers_differ t)
