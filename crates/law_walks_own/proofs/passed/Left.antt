-- What the delivery of an object that comes leaves, told by its hand: the sums of the cluster with the messages handed over, and so its own thread and the cells of its server.
use Rattle.std.proofs.Common.{◌≡◌, ℕ, ◌+◌, ◌-◌, ◌≤◌, ◌==◌, ◌&&◌, Bool, true, false, List, ◌++◌, Option, Some, None, option_map, refl, sym, ap, subst, ◌∙◌, arith}
use Rattle.std.specs.Prelude.{slice_get, length, take, drop}
use Rattle.law_copies_kept.proofs.Below.fr_typing.PlaceLemmas.{eq_cases}
use Rattle.law_copies_kept.specs.Below.fr_base.Names.{same_object}
use Rattle.law_copies_kept.specs.Below.heap_partition.Same.{same_owned}
use Rattle.law_copies_kept.specs.Below.heap_partition.declared.value.Cell.{Cell}
use Rattle.law_copies_kept.specs.Below.thread_state.View.{ThreadState}
use Rattle.law_copies_kept.specs.Below.thread_state.declared.value.Value.TheVariants as value
use Rattle.law_copies_kept.specs.Below.journal.View.{EntryView}
use Rattle.law_copies_kept.specs.Below.server_msgs.declared.message.Message.TheVariants as message
use Rattle.law_copies_kept.specs.Below.server_model.declared.event.Event.{Event}
use Rattle.law_copies_kept.specs.Below.server_model.declared.event.What.TheVariants.{Deliver}
use Rattle.law_copies_kept.specs.Below.server_model.Servers.{Server, Cluster, server_at}
use Rattle.law_copies_kept.specs.Below.server_model.Work.{Hand, Site, thread_in, set_thread, without_thread, then_some, put_back}
use Rattle.law_copies_kept.specs.Below.server_model.Clusters.{with_server, hand_over_newer, done_at, apply}
use Rattle.law_copies_kept.specs.Below.server_model.Events.{enabled, received, left_by, deliver_message, does}
use Rattle.law_copies_kept.specs.Below.server_model.Objects.{deliver_moved}
use Rattle.law_copies_kept.specs.Below.coherent_memory.Names.{tot, one, if_so, Among}
use Rattle.law_copies_kept.specs.Below.coherent_memory.Things.{Thing, thread_things, server_things, servers_things, things_of}
use Rattle.law_copies_kept.specs.Below.coherent_memory.Follow.{Standing, Ground, thread_at, cell_of, slot_of, value_of}
use Rattle.law_copies_kept.specs.Below.coherent_memory.Sight.{sight}
use Rattle.law_copies_kept.proofs.Below.coherent_memory.Sums.{tot-append}
use Rattle.law_copies_kept.specs.Below.coherent_types.ClusterTypes.{IsCoherent}
use Rattle.law_walks_own.specs.Below.law_words_paths.words.Reworded.{HasPlaces}
use Rattle.law_walks_own.specs.Below.law_words_paths.words.Unmoved.{Delivers}
use Rattle.law_copies_kept.specs.Below.law_counts_sums.Laws.{Gives, GoTo, FewEvents}
use Rattle.law_copies_kept.proofs.Below.law_counts_sums.Results.{then_gives, map_gives, over_gives, both_give, test_gives}
use Rattle.law_copies_kept.proofs.Below.law_counts_sums.Bags.{all_standing, rest_things, server_same, tot-set}
use Rattle.law_copies_kept.proofs.Below.law_counts_sums.Events.{others_of, tot-server}
use Rattle.law_copies_kept.proofs.Below.law_counts_sums.Applied.{go_with}
use Rattle.law_copies_kept.proofs.Below.law_counts_sums.Handing.{hand_over_newer_law}
use Rattle.law_copies_kept.proofs.Below.law_counts_sums.Sending.{each_event_sends}
use Rattle.law_copies_kept.proofs.Below.law_counts_sums.Values.{stores}
use Rattle.law_copies_kept.proofs.Below.law_heap_still.events.Tests.{objects}
use Rattle.law_copies_kept.proofs.Below.law_heap_still.events.Told.{told, same_told, tot_same, at_thread, thread_told, found}
use Rattle.law_walks_own.proofs.Below.law_walks_others.pointers.Cells.{Seeing, cell_weight, rest_seen}
use Rattle.law_walks_own.proofs.Below.law_walks_others.pointers.Still.{shows}
use Rattle.law_walks_own.proofs.Below.law_walks_others.pointers.Tests.{owneds, same_value, values}
use Rattle.law_walks_others.proofs.Below.law_results_events.writes.Memory.{Leads, looks}
use Rattle.law_walks_own.proofs.steps.Own.{shown_there}
use Rattle.law_walks_own.proofs.steps.There.{sees_cell, cells_seen}

-- IN ITS CLUSTER

both : (p q : Bool) → p ≡ true → q ≡ true → (p && q) ≡ true
both true q a b = b
both false q a b = absurd (cc a)

-- the hand's thread and server put back, beside other things
module _ (c : Cluster) (after : HasPlaces c) (hand : Hand) (ts : List ThreadState) (t m ev : ℕ) (y : ThreadState) (at : thread_in ts t ≡ Some y) (named : hand.thread.number ≡ t) (number_is : hand.work.rest.number ≡ m) (others : List Thing)
    (sums : (f : Thing → ℕ) → tot f (things_of c) ≡ tot f (server_things (record { rest = hand.work.rest; threads = set_thread ts hand.thread; events = ev })) + tot f others) where
  -- the thread of the hand
  abbrev pub me : Standing
  me = record { server = m; packed = false; thread = hand.thread }

  abbrev G : Ground
  G = (sight c).ground

  abbrev s2 : Server
  s2 = record { rest = hand.work.rest; threads = set_thread ts hand.thread; events = ev }

  parts : (f : Thing → ℕ) → tot f (things_of c) ≡ (tot f (thread_things m false hand.thread) + tot f (all_standing m (without_thread ts t)) + tot f (rest_things m ev hand.work.rest)) + tot f others
  parts f =
      let whole : tot f (server_things s2) ≡ tot f (all_standing m s2.threads ++ rest_things m s2.events s2.rest) = subst (λ u. tot f (server_things s2) ≡ tot f (all_standing u s2.threads ++ rest_things u s2.events s2.rest)) number_is (server_same s2 f) in
      omega (arith, sums f, whole, tot-append f (all_standing m s2.threads) (rest_things m s2.events s2.rest), tot-set m f ts t y hand.thread at named)

  -- no count tells who has that number from it
  mine : (g : Standing → ℕ) → g me ≤ told g (thread_at G.threads t)
  mine g =
      let a = parts (at_thread g t) in
      let b = thread_told g t (things_of c) (after.numbers_differ t) in
      let one_is : if_so (hand.thread.number == t) (g me) ≡ g me = subst (λ u. if_so (hand.thread.number == u) (g me) ≡ g me) named (eq_cases (λ q. if_so q (g me) ≡ g me) hand.thread.number hand.thread.number (λ e. refl) (λ ne. absurd (ne refl))) in
      omega (arith, a, b, one_is)

  same_counts : (x : Standing) → thread_at G.threads t ≡ Some x → (g : Standing → ℕ) → g x ≡ g me
  same_counts x e g =
      let less : (f : Standing → ℕ) → f me ≤ f x = λ f. (let a = mine f in let b : told f (thread_at G.threads t) ≡ f x = ap (told f) e in omega (arith, a, b)) in
      let one_way = less g in
      let other_way = less (λ u. (g x + g me) - g u) in
      omega (arith, one_way, other_way)

  pub it_is : (x : Standing) → Among x (sight c).ground.threads → x.thread.number ≡ t → (g : Standing → ℕ) → g x ≡ g (record { server = m; packed = false; thread = hand.thread })
  it_is x among e g = same_counts x (subst (λ u. thread_at G.threads u ≡ Some x) e (found x (things_of c) (after.numbers_differ x.thread.number) among)) g

  -- its slots
  pub slot_is : (i : ℕ) → slot_of (thread_at (sight c).ground.threads t) i ≡ slice_get hand.thread.slots i
  slot_is i = by (thread_at G.threads t) refl
    where
      by : (q : Option Standing) → thread_at G.threads t ≡ q → slot_of q i ≡ slice_get hand.thread.slots i
      by None e = let a = mine (λ u. 1) in let b : told (λ (u : Standing). 1) (thread_at G.threads t) ≡ 0 = ap (told (λ (u : Standing). 1)) e in absurd (omega (arith, a, b))
      by (Some x) e = same_told same_value values (slice_get x.thread.slots i) (slice_get hand.thread.slots i) (λ f. same_counts x e (λ u. told f (slice_get u.thread.slots i)))

  -- a cell of its partition
  pub cell_is : (u : ℕ) (d : Cell) → Leads hand.work.rest.partition u d → value_of (cell_of (sight c).ground.cells d.object) ≡ Some (value.Own d.value)
  cell_is u d leads =
      let see : Seeing = sees_cell d.object d.value in
      let trade = stores m hand.work.rest.partition u d d.value (looks hand.work.rest.partition u d leads) in
      let there = trade.before (cell_weight see) in
      let weighs : one (same_object d.object d.object && same_owned d.value d.value) ≡ 1 = ap one (both (same_object d.object d.object) (same_owned d.value d.value) (objects.itself d.object) (owneds.itself d.value)) in
      let whole = parts (cell_weight see) in
      let rest = rest_seen see m ev hand.work.rest in
      let same = tot_same (cell_weight see) (shows d.object d.value) (cells_seen d.object d.value) (things_of c) in
      shown_there c after d.object d.value (omega (arith, there, weighs, whole, rest, same))

-- THE EVENT

module _ (k : Cluster) (e : Event) (old : ℕ) (cell : Cell) (t : ℕ) (d : Delivers k e (message.Moved old cell t)) (co : IsCoherent k) (few : FewEvents k) where
  -- at its server
  record Came (r : Server × EntryView) : Type 0 where
    thread : ThreadState
    at : thread_in d.server.threads t ≡ Some thread
    hand : Hand
    is : deliver_moved k.code old cell (record { work = (received d.place d.server).work; thread = thread }) ≡ Some hand
    left : r.0 ≡ record { rest = hand.work.rest; threads = set_thread d.server.threads hand.thread; events = d.server.events + 1 }
    done : r.1.done ≡ None

  abbrev Then : Site → Type 0
  Then x = Came (left_by d.server.events None None x)

  server_came : Gives Came (does k.code k.options d.server (Deliver d.place))
  server_came =
      subst (λ m. Gives Came (option_map (left_by d.server.events None None) (then_some m (λ x. deliver_message k.code x (received d.place d.server))))) (sym d.message)
      (over_gives Then Came (Rattle.law_copies_kept.specs.Below.server_model.Work.at_thread t (deliver_moved k.code old cell) (received d.place d.server)) (left_by d.server.events None None) (by (thread_in d.server.threads t) refl) (λ x a. a))
    where
      by : (o : Option ThreadState) → thread_in d.server.threads t ≡ o → Gives Then (then_some (option_map (λ y. record { work = (received d.place d.server).work; thread = y }) o) (λ h. option_map (put_back d.server.threads) (deliver_moved k.code old cell h)))
      by None q = tt
      by (Some y) q = map_gives Then (deliver_moved k.code old cell (record { work = (received d.place d.server).work; thread = y })) (put_back d.server.threads) (λ h f. record { thread = y; at = q; hand = h; is = f; left = refl; done = refl })

  -- the delivery that led to a cluster, and the sums there
  pub record Left (c : Cluster) (v : EntryView) : Type 0 where
    pub thread : ThreadState
    pub at : thread_in d.server.threads t ≡ Some thread
    pub hand : Hand
    pub is : deliver_moved k.code old cell (record { work = (received d.place d.server).work; thread = thread }) ≡ Some hand
    pub done : v.done ≡ None
    pub sums : (f : Thing → ℕ) → tot f (things_of c) ≡ tot f (server_things (record { rest = hand.work.rest; threads = set_thread d.server.threads hand.thread; events = d.server.events + 1 })) + tot f (servers_things (others_of k.servers e.server))

  abbrev Sends : Server → Server × EntryView → Type 0
  Sends s r = GoTo (with_server k.servers e.server r.0) (drop (length s.rest.outbox) r.0.rest.outbox)

  handed : (s : Server) → server_at k.servers e.server ≡ Some s → (r : Server × EntryView) → Sends s r → Came r → Left (record k { servers = hand_over_newer e.server (length s.rest.outbox) r.0 k.servers }) r.1
  handed s here r go a = record {
    thread = a.thread;
    at = a.at;
    hand = a.hand;
    is = a.is;
    done = a.done;
    sums = λ f. over f ∙ (tot-server f k.servers e.server s r.0 here).1 ∙ ap (λ q. tot f (server_things q) + tot f (servers_things (others_of k.servers e.server))) a.left;
  }
    where
      over : (f : Thing → ℕ) → tot f (servers_things (hand_over_newer e.server (length s.rest.outbox) r.0 k.servers)) ≡ tot f (servers_things (with_server k.servers e.server r.0))
      over f =
          let older = length s.rest.outbox in
          hand_over_newer_law f e.server older s r.0 k.servers here (go_with k.servers e.server r.0 (take older r.0.rest.outbox) (drop older r.0.rest.outbox) go)

  pub left : Gives (λ (r : Cluster × EntryView). Left r.0 r.1) (apply k e)
  left =
      then_gives (λ (r : Cluster × EntryView). Left r.0 r.1) (server_at k.servers e.server) _ (λ s here.
      let same : d.server ≡ s = server_is (sym d.there ∙ here) in
      over_gives (λ r. Sends s r × Came r) (λ (r : Cluster × EntryView). Left r.0 r.1) (done_at k e.what s) _
      (both_give (Sends s) Came (λ r. Sends s r × Came r) (done_at k e.what s) (each_event_sends k e co.sound few s here)
      (test_gives Came (enabled k.options s e.what) (does k.code k.options s e.what) (λ able. subst (λ z. Gives Came (does k.code k.options z e.what)) same (subst (λ what. Gives Came (does k.code k.options d.server what)) (sym d.what) server_came))) (λ r a b. (a, b)))
      (λ r u. handed s here r u.0 u.1))
    where
      server_is : {a b : Server} → Some a ≡ Some b → a ≡ b
      server_is h = cc
