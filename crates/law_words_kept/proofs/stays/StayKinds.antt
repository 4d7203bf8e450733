-- Each kind of event that is proved to leave the words.
use Rattle.std.proofs.Common.{◌≡◌, ℕ, ◌+◌, List, [], ◌++◌, Option, Some, None, option_map, refl, sym, ap, subst, ◌∙◌, arith}
use Rattle.std.specs.Prelude.{⊤, slice_get, take, drop as drop_first, length}
use Rattle.law_counts_sums.specs.Below.fr_base.declared.instruction.Instr.{Instr}
use Rattle.law_counts_sums.specs.Below.fr_base.declared.instruction.Instr.TheVariants as instr
use Rattle.law_counts_sums.specs.Below.fr_base.declared.release.Released.TheVariants as release
use Rattle.law_counts_sums.specs.Below.journal.View.{EntryView}
use Rattle.law_counts_sums.specs.Below.thread_state.View.{ThreadState}
use Rattle.law_counts_sums.specs.Below.thread_state.declared.phase.Phase.TheVariants as phase
use Rattle.law_counts_sums.specs.Below.server_msgs.declared.message.Message.{Message}
use Rattle.law_counts_sums.specs.Below.server_msgs.declared.message.Message.TheVariants as message
use Rattle.law_counts_sums.specs.Below.server_model.declared.event.Event.{Event}
use Rattle.law_counts_sums.specs.Below.server_model.declared.event.What.{What}
use Rattle.law_counts_sums.specs.Below.server_model.declared.event.What.TheVariants.{Step, Deliver, Evict, Migrate}
use Rattle.law_counts_sums.specs.Below.server_model.Servers.{Server, Cluster, server_at}
use Rattle.law_counts_sums.specs.Below.server_model.Work.{Work, Hand, beside_threads, receive, then_some, thread_in}
use Rattle.law_counts_sums.specs.Below.server_model.Events.{enabled, does, begin_work, begin_at, left_by, received, evict_copy, Stepped, step}
use Rattle.law_counts_sums.specs.Below.server_model.Objects.{deliver_fetch, deliver_fetched}
use Rattle.law_counts_sums.specs.Below.server_model.Sharing.{deliver_lock, deliver_granted, deliver_unlock, deliver_dup, deliver_dupped, release_mutex}
use Rattle.law_counts_sums.specs.Below.server_model.Joining.{deliver_join, deliver_joined, release_task}
use Rattle.law_counts_sums.specs.Below.server_model.Moving.{migrate}
use Rattle.law_counts_sums.specs.Below.server_model.Clusters.{with_server, hand_over_newer, done_at, apply}
use Rattle.law_counts_sums.specs.Below.heap_partition.declared.value.Owned.{Owned}
use Rattle.law_counts_sums.specs.Below.coherent_memory.Things.{message_things, server_things, servers_things, things_of}
use Rattle.law_counts_sums.specs.Below.coherent_memory.Sight.{sight}
use Rattle.law_counts_sums.specs.Below.coherent_memory.Naming.{servers_wrong, pinned_parcel}
use Rattle.law_counts_sums.specs.Below.coherent_memory.Walking.{sum_threads}
use Rattle.law_counts_sums.specs.Below.coherent_memory.Coherent.{IsSound}
use Rattle.law_words_paths.proofs.paths.Sole.{some_is}
use Rattle.law_words_paths.specs.words.Reworded.{HasPlaces}
use Rattle.law_words_paths.specs.words.Unmoved.{LeavesWords}
use Rattle.law_words_paths.proofs.words.Unmoved.{untouched_stays}
use Rattle.law_counts_sums.specs.Kinds.{Kind, fetch, fetched, asks_lock, granted, unlocked, asks_dup, dupped, released, starts, asks_join, joined, finished, arrives, evicts, migrates, step_print, step_arith, step_par_end, step_join, message_kind, instr_kind, kind_at}
use Rattle.law_counts_sums.specs.Laws.{Gives, GoTo, SendsToServers, FewEvents}
use Rattle.law_counts_sums.proofs.Results.{over_gives, test_gives, both_give, weaker}
use Rattle.law_counts_sums.proofs.Trades.{Same, tot-append}
use Rattle.law_counts_sums.proofs.Bags.{body_things}
use Rattle.law_counts_sums.proofs.Events.{others_of, tot-server}
use Rattle.law_counts_sums.proofs.Finished.{PairsAreRight}
use Rattle.law_counts_sums.proofs.FinishSteps.{notes_rise, unit_result}
use Rattle.law_counts_sums.proofs.Applied.{go_with}
use Rattle.law_counts_sums.proofs.Sending.{applied_part, each_event_sends}
use Rattle.law_words_kept.specs.stays.Laws.{IsOfKind, LeaveWords, LeaveWordsUndone, BorrowsVariable, shared, mutable, VariableBorrowsLeaveWords}
use Rattle.law_words_kept.proofs.stays.Alike.{Alike, chain}
use Rattle.law_words_kept.proofs.stays.Servers.{RestAlike}
use Rattle.law_words_kept.proofs.stays.Sites.{SiteAlike, ServerAlike, HandAlike, steps, beside_alike, thread_alike_at, deliveries, begun_alike, servers_alike, handed_over}
use Rattle.law_words_kept.proofs.stays.Deliveries.{fetches, locks, unlocks, dups, shares_go, joins, tasks_go}
use Rattle.law_words_kept.proofs.stays.Answers as answer
use Rattle.law_words_kept.proofs.stays.Finishes.{finishes}
use Rattle.law_words_kept.proofs.stays.Steps.{print_steps, arith_steps, pair_steps, join_steps, borrow_steps, borrow_mut_steps}
use Rattle.law_words_kept.proofs.stays.Seen.{seen_alike}

abbrev pub Stays : Kind → Type 0
Stays evicts = ⊤
Stays migrates = ⊤
Stays starts = ⊤
Stays arrives = ⊤
Stays fetch = ⊤
Stays fetched = ⊤
Stays asks_lock = ⊤
Stays granted = ⊤
Stays unlocked = ⊤
Stays asks_dup = ⊤
Stays dupped = ⊤
Stays released = ⊤
Stays asks_join = ⊤
Stays joined = ⊤
Stays finished = ⊤
Stays step_print = ⊤
Stays step_arith = ⊤
Stays step_par_end = ⊤
Stays kind = ⊥

some_same : {a b : Kind} → Some a ≡ Some b → b ≡ a
some_same e = cc

stays_as : (a b : Kind) → Some a ≡ Some b → Stays b → Stays a
stays_as a b q p = subst Stays (some_same q) p

-- the step of an instruction of these
step_stays : (code : List Instr) (n servers : ℕ) (i : Instr) (h : Hand) → slice_get code h.thread.pc ≡ Some i → Stays (instr_kind i) → Gives (λ (d : Stepped). HandAlike code n [] h d.hand) (step servers i h)
step_stays code n w (instr.Print o) h e p = print_steps code n w o h e
step_stays code n w (instr.Arith f a b) h e p = arith_steps code n w f a b h e
step_stays code n w instr.ParEnd h e p = pair_steps code n w h e
step_stays code n w (instr.Let o) h e p = absurd p
step_stays code n w (instr.Assign v o) h e p = absurd p
step_stays code n w (instr.Read v t) h e p = absurd p
step_stays code n w (instr.Borrow v) h e p = absurd p
step_stays code n w (instr.BorrowMut v) h e p = absurd p
step_stays code n w (instr.Box o) h e p = absurd p
step_stays code n w instr.Discard h e p = absurd p
step_stays code n w instr.DropSlot h e p = absurd p
step_stays code n w (instr.Spawn cs pc) h e p = absurd p
step_stays code n w (instr.Join o) h e p = absurd p
step_stays code n w (instr.Mutex o) h e p = absurd p
step_stays code n w (instr.Dup v) h e p = absurd p
step_stays code n w (instr.Lock v) h e p = absurd p
step_stays code n w instr.Unlock h e p = absurd p
step_stays code n w (instr.Par cs pc ds other) h e p = absurd p
step_stays code n w (instr.End o) h e p = absurd p

-- only a join is of its kind
abbrev AtJoin : Kind → Type 0
AtJoin step_join = ⊤
AtJoin kind = ⊥

join_asks : (code : List Instr) (n servers : ℕ) (i : Instr) (h : Hand) → h.work.rest.number ≡ n → slice_get code h.thread.pc ≡ Some i → AtJoin (instr_kind i) → Gives (λ (d : Stepped). d.names ≡ None → HandAlike code n [] h d.hand) (step servers i h)
join_asks code n w (instr.Join o) h number e p = join_steps code n w o h number e
join_asks code n w (instr.Let o) h number e p = absurd p
join_asks code n w (instr.Assign v o) h number e p = absurd p
join_asks code n w (instr.Read v t) h number e p = absurd p
join_asks code n w (instr.Borrow v) h number e p = absurd p
join_asks code n w (instr.BorrowMut v) h number e p = absurd p
join_asks code n w (instr.Box o) h number e p = absurd p
join_asks code n w (instr.Arith f a b) h number e p = absurd p
join_asks code n w (instr.Print o) h number e p = absurd p
join_asks code n w instr.Discard h number e p = absurd p
join_asks code n w instr.DropSlot h number e p = absurd p
join_asks code n w (instr.Spawn cs pc) h number e p = absurd p
join_asks code n w (instr.Mutex o) h number e p = absurd p
join_asks code n w (instr.Dup v) h number e p = absurd p
join_asks code n w (instr.Lock v) h number e p = absurd p
join_asks code n w instr.Unlock h number e p = absurd p
join_asks code n w (instr.Par cs pc ds other) h number e p = absurd p
join_asks code n w instr.ParEnd h number e p = absurd p
join_asks code n w (instr.End o) h number e p = absurd p

-- no message is a step
no_join : (m : Message) → AtJoin (message_kind m) → ⊥
no_join (message.Fetch w o a t) p = p
no_join (message.Fetched w c t) p = p
no_join (message.Move w o a t) p = p
no_join (message.Moved w c t) p = p
no_join (message.Drop w o) p = p
no_join (message.Lock m a t) p = p
no_join (message.Granted m v t) p = p
no_join (message.Unlock m v) p = p
no_join (message.Dup m a t) p = p
no_join (message.Dupped m t) p = p
no_join (message.Release r) p = p
no_join (message.Start y) p = p
no_join (message.Migrate y) p = p
no_join (message.Join u a t) p = p
no_join (message.Joined u v t) p = p
no_join (message.Finished u v) p = p

-- AT ITS SERVER

module _ (k : Cluster) (sound : IsSound k) (number : ℕ) (s : Server) (here : server_at k.servers number ≡ Some s) where
  abbrev n : ℕ
  n = s.rest.number

  beside : (i : ℕ) (m : Message) → slice_get s.rest.inbox i ≡ Some m → (f : Work → Option Work) → Gives (λ (w : Work). RestAlike k.code n (message_things n m ++ body_things n (receive s.rest i)) w.rest) (f (received i s).work)
      → Gives (SiteAlike k.code (message_things n m) (received i s)) (beside_threads f (received i s))
  beside i m q f g = beside_alike k.code (message_things n m) f (received i s) g

  -- the notes of a pair are right, and a branch gives unit
  pairs_right : (i u : ℕ) (v : Owned) → slice_get s.rest.inbox i ≡ Some (message.Finished u v) → PairsAreRight s.rest.tasks u v
  pairs_right i u v q =
      let parts : servers_wrong (sight k) 0 k.servers + sum_threads (sight k) pinned_parcel ≡ 0 = sound.parts.parts_are_typed in
      let others = servers_things (others_of k.servers number) in
      let same : Same (things_of k) (server_things s ++ others) = λ f. omega (arith, (tot-server f k.servers number s s here).0, tot-append f (server_things s) others) in
      record { rise = notes_rise (sight k) 0 number k.servers s (omega (arith, parts)) here; unit = unit_result k others s same i u v q sound.rooted.branches_give_unit }

  message_stays : (i : ℕ) (m : Message) → slice_get s.rest.inbox i ≡ Some m → Stays (message_kind m) → Gives (ServerAlike k.code s) (does k.code k.options s (Deliver i))
  message_stays i (message.Fetch w o a t) q p = deliveries k s i (message.Fetch w o a t) q (beside i (message.Fetch w o a t) q (deliver_fetch w o a t) (fetches k.code n (receive s.rest i) refl w o a t))
  message_stays i (message.Fetched w c t) q p =
      deliveries k s i (message.Fetched w c t) q (thread_alike_at k.code (message_things n (message.Fetched w c t)) t (deliver_fetched w c) (received i s) (λ y e. answer.fetched k.code n (record { work = (received i s).work; thread = y }) n w c t))
  message_stays i (message.Move w o a t) q p = absurd p
  message_stays i (message.Moved w c t) q p = absurd p
  message_stays i (message.Drop w o) q p = absurd p
  message_stays i (message.Lock m a t) q p = deliveries k s i (message.Lock m a t) q (beside i (message.Lock m a t) q (deliver_lock m a t) (locks k.code n (receive s.rest i) refl m a t))
  message_stays i (message.Granted m v t) q p =
      deliveries k s i (message.Granted m v t) q (thread_alike_at k.code (message_things n (message.Granted m v t)) t (deliver_granted m v) (received i s) (λ y e. answer.granted k.code n (record { work = (received i s).work; thread = y }) n m v t))
  message_stays i (message.Unlock m v) q p = deliveries k s i (message.Unlock m v) q (beside i (message.Unlock m v) q (deliver_unlock m v) (unlocks k.code n (receive s.rest i) refl m v))
  message_stays i (message.Dup m a t) q p = deliveries k s i (message.Dup m a t) q (beside i (message.Dup m a t) q (deliver_dup m a t) (dups k.code n (receive s.rest i) refl m a t))
  message_stays i (message.Dupped m t) q p =
      deliveries k s i (message.Dupped m t) q (thread_alike_at k.code (message_things n (message.Dupped m t)) t (deliver_dupped m) (received i s) (λ y e. answer.dupped k.code n (record { work = (received i s).work; thread = y }) n m t))
  message_stays i (message.Release (release.Mutex m)) q p = deliveries k s i (message.Release (release.Mutex m)) q (beside i (message.Release (release.Mutex m)) q (release_mutex m) (shares_go k.code n (receive s.rest i) refl m))
  message_stays i (message.Release (release.Task u)) q p = deliveries k s i (message.Release (release.Task u)) q (beside i (message.Release (release.Task u)) q (release_task u) (tasks_go k.code n (receive s.rest i) refl u))
  message_stays i (message.Start y) q p = deliveries k s i (message.Start y) q (answer.starts k.code y (received i s))
  message_stays i (message.Migrate y) q p = deliveries k s i (message.Migrate y) q (answer.parcels k.code y (received i s))
  message_stays i (message.Join u a t) q p = deliveries k s i (message.Join u a t) q (beside i (message.Join u a t) q (deliver_join u a t) (joins k.code n (receive s.rest i) refl u a t))
  message_stays i (message.Joined u v t) q p =
      deliveries k s i (message.Joined u v t) q (thread_alike_at k.code (message_things n (message.Joined u v t)) t (deliver_joined u v) (received i s) (λ y e. answer.joined_to k.code n (record { work = (received i s).work; thread = y }) n u v t))
  message_stays i (message.Finished u v) q p = deliveries k s i (message.Finished u v) q (finishes k.code u v (received i s) (pairs_right i u v q))

  -- the instruction at which a thread is
  of_thread : (kind : Kind) (t : ℕ) (y : ThreadState) (i : Instr) → thread_in s.threads t ≡ Some y → slice_get k.code y.pc ≡ Some i → then_some (thread_in s.threads t) (λ x. option_map instr_kind (slice_get k.code x.pc)) ≡ Some kind → Some (instr_kind i) ≡ Some kind
  of_thread kind t y i e f q = sym (ap (option_map instr_kind) f) ∙ sym (ap (λ o. then_some o (λ x. option_map instr_kind (slice_get k.code x.pc))) e) ∙ q

  module _ (kind : Kind) (p : Stays kind) where
    of_message : (i : ℕ) (o : Option Message) → slice_get s.rest.inbox i ≡ o → option_map message_kind o ≡ Some kind → Gives (ServerAlike k.code s) (does k.code k.options s (Deliver i))
    of_message i None h r = absurd cc
    of_message i (Some m) h r = message_stays i m h (stays_as (message_kind m) kind r p)

    pub server_stays : (w : What) → kind_at k w s ≡ Some kind → Gives (ServerAlike k.code s) (does k.code k.options s w)
    server_stays (Step t) q =
        weaker (λ (r : Server × EntryView). ⊤ → ServerAlike k.code s r) (ServerAlike k.code s) (does k.code k.options s (Step t))
        (steps k.code k.options.servers t s (λ f. ⊤) (λ y e i f.
        let h : Hand = record { work = begin_work s.rest; thread = y } in
        weaker (λ (d : Stepped). HandAlike k.code n [] h d.hand) (λ (d : Stepped). ⊤ → HandAlike k.code n [] h d.hand) (step k.options.servers i h) (step_stays k.code n k.options.servers i h f (stays_as (instr_kind i) kind (of_thread kind t y i e f q) p)) (λ d a z. a)))
        (λ r a. a tt)
    server_stays (Deliver i) q = of_message i (slice_get s.rest.inbox i) refl q
    server_stays (Evict w) q = over_gives (SiteAlike k.code [] (begin_at s)) (ServerAlike k.code s) (beside_threads (evict_copy w) (begin_at s)) (left_by s.events None None) (answer.evictions k.code w (begin_at s)) (λ x a. begun_alike s s.events None None x a)
    server_stays (Migrate t target) q =
        over_gives (SiteAlike k.code [] (begin_at s)) (ServerAlike k.code s) (migrate t target (begin_at s)) (left_by s.events (Some t) None) (answer.migrations k.code t target (begin_at s)) (λ x a. begun_alike s s.events (Some t) None x a)

  joins_stay : (w : What) → kind_at k w s ≡ Some step_join → Gives (λ (r : Server × EntryView). r.1.done ≡ None → ServerAlike k.code s r) (does k.code k.options s w)
  joins_stay (Step t) q =
      steps k.code k.options.servers t s (λ f. f ≡ None)
      (λ y e i f. join_asks k.code n k.options.servers i (record { work = begin_work s.rest; thread = y }) refl f
      (subst AtJoin (some_same (of_thread step_join t y i e f q)) tt))
  joins_stay (Deliver i) q = of_message (slice_get s.rest.inbox i) q
    where
      of_message : {X : Type 0} (o : Option Message) → option_map message_kind o ≡ Some step_join → X
      of_message None r = absurd cc
      of_message (Some m) r = absurd (no_join m (subst AtJoin (some_same r) tt))
  joins_stay (Evict w) q = absurd cc
  joins_stay (Migrate t target) q = absurd cc

-- IN ITS CLUSTER

module _ (k : Cluster) (e : Event) (Q : EntryView → Type 0) where
  abbrev pub Seen : Cluster × EntryView → Type 0
  Seen d = Q d.1 → (d.0.code ≡ k.code) × Alike k.code (things_of k) (things_of d.0)

  abbrev pub There : Server → Server × EntryView → Type 0
  There s r = Q r.1 → ServerAlike k.code s r

  handed : (s : Server) → server_at k.servers e.server ≡ Some s → (o : Option (Server × EntryView)) → Gives (There s) o → Gives (λ (r : Server × EntryView). GoTo (with_server k.servers e.server r.0) (drop_first (length s.rest.outbox) r.0.rest.outbox)) o
      → Gives Seen (option_map (λ r. (record k { servers = hand_over_newer e.server (length s.rest.outbox) r.0 k.servers }, r.1)) o)
  handed s h None a g = tt
  handed s h (Some r) a g = λ q.
      let older = length s.rest.outbox in
      (refl, chain (servers_alike e.server k.servers s r.0 h (a q)) (handed_over e.server older s r.0 k.servers h (go_with k.servers e.server r.0 (take older r.0.rest.outbox) (drop_first older r.0.rest.outbox) g)))

  at_server : (o : Option Server) → server_at k.servers e.server ≡ o → SendsToServers k e → ((s : Server) → server_at k.servers e.server ≡ Some s → Gives (There s) (done_at k e.what s))
      → Gives Seen (then_some o (λ s. option_map (λ d. (record k { servers = hand_over_newer e.server (length s.rest.outbox) d.0 k.servers }, d.1)) (done_at k e.what s)))
  at_server None h go f = tt
  at_server (Some s) h go f = handed s h (done_at k e.what s) (f s h) (go s h)

  -- an event leaves what words see where it leaves that at its server
  pub seen_where : IsSound k → FewEvents k → ((s : Server) → server_at k.servers e.server ≡ Some s → Gives (There s) (does k.code k.options s e.what)) → Gives Seen (apply k e)
  seen_where sound few f =
      at_server (server_at k.servers e.server) refl (each_event_sends k e sound few) (λ s h. test_gives (There s) (enabled k.options s e.what) (does k.code k.options s e.what) (λ on. f s h))

  -- so it leaves the words there
  pub leaves_where : IsSound k → FewEvents k → Gives Seen (apply k e) → Gives (λ (d : Cluster × EntryView). Q d.1 → LeavesWords k d.0) (apply k e)
  leaves_where sound few seen =
      both_give Seen (λ (d : Cluster × EntryView). HasPlaces d.0) (λ (d : Cluster × EntryView). Q d.1 → LeavesWords k d.0) (apply k e) seen
      (applied_part HasPlaces (λ c g. record { numbers_differ = g.numbers_differ; home_of_each = g.home_of_each; owner_of_each = g.owner_of_each }) k e sound few)
      (λ d a places q. untouched_stays k d.0 here places (seen_alike k d.0 here places (a q).0 (a q).1))
    where
      here : HasPlaces k
      here = record { numbers_differ = sound.names.numbers_differ; home_of_each = sound.one_home.home_of_each; owner_of_each = sound.one_owner.owner_of_each }

-- what words see is the same after an event of these kinds
pub kind_seen : (kind : Kind) → Stays kind → (k : Cluster) (e : Event) → IsOfKind kind k e → IsSound k → FewEvents k → Gives (Seen k e (λ v. ⊤)) (apply k e)
kind_seen kind p k e q sound few =
    seen_where k e (λ v. ⊤) sound few
    (λ s h. weaker (ServerAlike k.code s) (λ r. ⊤ → ServerAlike k.code s r) (does k.code k.options s e.what) (server_stays k sound e.server s h kind p e.what (subst (λ o. then_some o (kind_at k e.what) ≡ Some kind) h q)) (λ r a z. a))

pub kind_stays : (kind : Kind) → Stays kind → LeaveWords kind
kind_stays kind p k e q sound few =
    weaker (λ (d : Cluster × EntryView). ⊤ → LeavesWords k d.0) (λ (d : Cluster × EntryView). LeavesWords k d.0) (apply k e) (leaves_where k e (λ v. ⊤) sound few (kind_seen kind p k e q sound few)) (λ d a. a tt)

-- and after a join that asks
pub joins_seen : (k : Cluster) (e : Event) → IsOfKind step_join k e → IsSound k → FewEvents k → Gives (Seen k e (λ v. v.done ≡ None)) (apply k e)
joins_seen k e q sound few = seen_where k e (λ v. v.done ≡ None) sound few (λ s h. joins_stay k sound e.server s h e.what (subst (λ o. then_some o (kind_at k e.what) ≡ Some step_join) h q))

pub joins_leave : LeaveWordsUndone step_join
joins_leave k e q sound few = leaves_where k e (λ v. v.done ≡ None) sound few (joins_seen k e q sound few)

borrow_stays : (code : List Instr) (n servers : ℕ) (i : Instr) (h : Hand) → BorrowsVariable i → ((v : ℕ) → h.thread.phase ≡ phase.Taken v → ⊥) → Gives (λ (d : Stepped). HandAlike code n [] h d.hand) (step servers i h)
borrow_stays code n servers _ h (shared {w = w} e) free = borrow_steps code n servers w h e free
borrow_stays code n servers _ h (mutable {w = w} e) free = borrow_mut_steps code n servers w h e free

pub borrows_leave : VariableBorrowsLeaveWords
borrows_leave k number t s y i sound few here at code borrows free =
    weaker (λ (d : Cluster × EntryView). ⊤ → LeavesWords k d.0) (λ (d : Cluster × EntryView). LeavesWords k d.0) (apply k (record { server = number; what = Step t }))
    (leaves_where k (record { server = number; what = Step t }) (λ v. ⊤) sound few (seen_where k (record { server = number; what = Step t }) (λ v. ⊤) sound few (λ r h. subst (λ x. Gives (λ (q : Server × EntryView). ⊤ → ServerAlike k.code x q) (does k.code k.options x (Step t))) (some_is (sym here ∙ h)) there)))
    (λ d a. a tt)
  where
    there : Gives (λ (q : Server × EntryView). ⊤ → ServerAlike k.code s q) (does k.code k.options s (Step t))
    there =
        steps k.code k.options.servers t s (λ f. ⊤)
        (λ z e j f.
        let h : Hand = record { work = begin_work s.rest; thread = z } in
        let same : y ≡ z = some_is (sym at ∙ e) in
        let its : i ≡ j = some_is (sym code ∙ ap (λ (x : ThreadState). slice_get k.code x.pc) same ∙ f) in
        weaker (λ (d : Stepped). HandAlike k.code s.rest.number [] h d.hand) (λ (d : Stepped). ⊤ → HandAlike k.code s.rest.number [] h d.hand) (step k.options.servers j h)
        (borrow_stays k.code s.rest.number k.options.servers j h (subst BorrowsVariable its borrows) (subst (λ (x : ThreadState). (v : ℕ) → x.phase ≡ phase.Taken v → ⊥) same free)) (λ d a q. a))
