-- What the delivery of a `moved` makes of its own thread, by what is told of it, and that cells are as they were where the thread takes the object.
use Rattle.std.proofs.Common.{◌≡◌, ◌≤◌, ℕ, ◌+◌, ◌==◌, Bool, true, false, List, [], ◌∷◌, ◌++◌, Option, Some, None, option_map, refl, sym, ap, subst, ◌∙◌, arith}
use Rattle.std.specs.Prelude.{slice_get}
use Rattle.std.proofs.lemmas.Bool.Decides.{nat_tests}
use Rattle.law_counts_waiting.specs.Below.heap_partition.declared.value.Cell.{Cell}
use Rattle.law_counts_waiting.specs.Below.owner_box.View.{PartitionState}
use Rattle.law_counts_waiting.specs.Below.owner_box.Partition.{made}
use Rattle.law_counts_waiting.specs.Below.thread_state.View.{ThreadState}
use Rattle.law_counts_waiting.specs.Below.thread_state.declared.phase.Phase.{Phase}
use Rattle.law_counts_waiting.specs.Below.thread_state.declared.phase.Phase.TheVariants as phase
use Rattle.law_counts_waiting.specs.Below.server_msgs.declared.message.Message.{Message}
use Rattle.law_counts_waiting.specs.Below.server_msgs.declared.message.Message.TheVariants as message
use Rattle.law_counts_waiting.specs.Below.journal.View.{EntryView}
use Rattle.law_counts_waiting.specs.Below.server_model.declared.event.Event.{Event}
use Rattle.law_counts_waiting.specs.Below.server_model.declared.event.What.TheVariants.{Deliver}
use Rattle.law_counts_waiting.specs.Below.server_model.Prepare.{is_taken}
use Rattle.law_counts_waiting.specs.Below.server_model.Servers.{Server, Cluster, server_at}
use Rattle.law_counts_waiting.specs.Below.server_model.Work.{Hand, Site, receive, thread_in, set_thread, then_some, put_back, at_thread}
use Rattle.law_counts_waiting.specs.Below.server_model.Objects.{deliver_moved}
use Rattle.law_counts_waiting.specs.Below.server_model.Events.{begin_work, enabled, received, left_by, deliver_message, does}
use Rattle.law_counts_waiting.specs.Below.server_model.Clusters.{done_at, act_at, apply}
use Rattle.law_counts_waiting.specs.Below.coherent_memory.Names.{tot, one, if_so}
use Rattle.law_counts_waiting.specs.Below.coherent_memory.Things.{Thing, stands, things_at, message_things, waiting_things, leaving_things, partition_things, server_things, things_of}
use Rattle.law_counts_waiting.specs.Below.coherent_memory.Follow.{Standing, thread_at}
use Rattle.law_counts_waiting.specs.Below.coherent_memory.Sight.{sight}
use Rattle.law_counts_waiting.specs.Below.coherent_memory.Weights.{is_thread}
use Rattle.law_counts_waiting.proofs.Below.coherent_memory.Sums.{tot-append}
use Rattle.law_counts_waiting.specs.Below.coherent_types.ClusterTypes.{IsCoherent}
use Rattle.law_counts_waiting.specs.Below.law_counts_sums.Laws.{Gives, FewEvents}
use Rattle.law_counts_waiting.proofs.Below.law_counts_sums.Results.{then_gives, over_gives, test_gives}
use Rattle.law_counts_waiting.proofs.Below.law_counts_sums.Trades.{tot-remove}
use Rattle.law_counts_waiting.proofs.Below.law_counts_sums.Bags.{all_standing, rest_things, server_same, tot-without, tot-set, thread_number}
use Rattle.law_counts_waiting.proofs.Below.law_counts_sums.Unseen.{Unseen, Unnoted, thread_alone, seen_of}
use Rattle.law_counts_waiting.proofs.Below.law_counts_sums.Objects.{makes}
use Rattle.law_counts_waiting.proofs.Below.law_counts_sums.Events.{tot-server}
use Rattle.law_counts_waiting.proofs.Below.law_counts_sums.Applied.{handed_on}
use Rattle.law_counts_waiting.proofs.Below.law_counts_sums.Sending.{each_event_sends}
use Rattle.law_counts_waiting.proofs.Below.law_counts_sums.ThreadThere.{thread_there}
use Rattle.law_walks_others.proofs.Below.law_heap_still.events.Addresses.{next_empty, in_place}
use Rattle.law_walks_others.proofs.Below.law_heap_still.events.Leaving.{others, placed_here}
use Rattle.law_walks_others.proofs.Below.law_heap_still.events.Told.{told, thread_told, at_thread as at_number}
use Rattle.law_counts_waiting.specs.Below.law_words_paths.words.Unmoved.{Delivers}
use Rattle.law_walks_others.proofs.pointers.Cells.{Seeing, cell_weight, thread_seen, amount, rest_seen}
use Rattle.law_walks_others.proofs.still.Filled.{waits_cell}
use Rattle.law_walks_others.proofs.arrivals.Landing.{Landed}
use Rattle.law_walks_others.proofs.arrivals.Seen.{no_place}

-- of cells alone
pub record Bare (see : Seeing) : Type 0 where
  pub threads : (r : ℕ) (b : Bool) (u : ThreadState) → see.threads r b u ≡ 0
  pub messages : (r : ℕ) (m : Message) → see.messages r m ≡ 0

-- it has taken something
abbrev pub takes : Standing → ℕ
takes x = one (is_taken x.thread.phase)

own_number : (m t : ℕ) → m ≡ t → (x : ℕ) → if_so (m == t) x ≡ x
own_number m t e x = let same : (m == t) ≡ true = grind (arith, nat_tests, e) in ap (λ b. if_so b x) same

taken_number : (t : ℕ) (x : Thing) → at_number takes t x ≤ is_thread t x
taken_number t (stands s p y) = by (y.number == t) (is_taken y.phase)
  where
    by : (a b : Bool) → if_so a (one b) ≤ one a
    by true true = omega arith
    by true false = omega arith
    by false b = omega arith
taken_number t _ = omega arith

taken_numbers : (t : ℕ) (b : List Thing) → tot (at_number takes t) b ≤ tot (is_thread t) b
taken_numbers t [] = omega arith
taken_numbers t (x ∷ b) = omega (arith, taken_number t x, taken_numbers t b)

waits_untaken : (p : Phase) → waits_cell p ≡ true → is_taken p ≡ false
waits_untaken (phase.WaitCell w) e = refl
waits_untaken p e = absurd (cc e)

is_taking : (p : Phase) → is_taken p ≡ true → (v : ℕ) × (p ≡ phase.Taken v)
is_taking (phase.Taken v) e = (v, refl)
is_taking p e = absurd (cc e)

module _ (k : Cluster) (co : IsCoherent k) (few : FewEvents k) (number i : ℕ) (s : Server) (here : server_at k.servers number ≡ Some s) (old : ℕ) (cell : Cell) (t : ℕ) (q : slice_get s.rest.inbox i ≡ Some (message.Moved old cell t)) where
  abbrev n : ℕ
  n = s.rest.number

  abbrev P : PartitionState
  P = s.rest.partition

  abbrev st : ThreadState → Standing
  st y = record { server = n; packed = false; thread = y }

  unseen : (g : Standing → ℕ) (m : ℕ) → Unseen (at_number g t) m
  unseen g m = record { held = λ p v. refl; shared = λ l r. refl; borrowed = λ l r. refl; locked = λ l z. refl; live = λ a c. refl; free = λ a z. refl; old = λ a. refl; copy = λ z c. refl; used = λ z x. refl }

  unnoted : (g : Standing → ℕ) → Unnoted (at_number g t)
  unnoted g = record { mutex = λ z m. refl; queue = λ m z x. refl; note = λ z x. refl }

  -- what is told of the thread alone changes
  module _ (y : ThreadState) (at : thread_in s.threads t ≡ Some y) (h : Hand) (a : Landed k co few number i s here old cell t y at h) where
    abbrev s2 : Server
    s2 = record { rest = h.work.rest; threads = set_thread s.threads h.thread; events = s.events + 1 }

    mine : y.number ≡ t
    mine = thread_number s.threads t y at

    told_so : (g : Standing → ℕ) → tot (at_number g t) (server_things s2) + g (st y) ≡ tot (at_number g t) (server_things s) + g (st h.thread)
    told_so g =
        let w : Thing → ℕ = at_number g t in
        let was : w (stands n false y) ≡ g (st y) = own_number y.number t mine (g (st y)) in
        let is : w (stands n false h.thread) ≡ g (st h.thread) = own_number h.thread.number t (a.named ∙ mine) (g (st h.thread)) in
        let it : tot w (server_things s2) ≡ tot w (all_standing n s2.threads) + tot w (things_at (waiting_things n) 0 s2.rest.inbox) + tot w (things_at leaving_things 0 s2.rest.outbox) =
        subst (λ m. tot w (server_things s2) ≡ tot w (all_standing m s2.threads) + tot w (things_at (waiting_things m) 0 s2.rest.inbox) + tot w (things_at leaving_things 0 s2.rest.outbox)) a.server (omega (arith, seen_of w s2.rest.number (unseen g s2.rest.number) (unnoted g) s2 refl)) in
        let in_it = ap (λ l. tot w (things_at (waiting_things n) 0 l)) a.inbox in
        let out_it = ap (λ l. tot w (things_at leaving_things 0 l)) a.outbox in
        omega (
          arith,
          it,
          in_it,
          out_it,
          was,
          is,
          seen_of w n (unseen g n) (unnoted g) s refl,
          tot-remove (λ x. message_things n x) w 0 s.rest.inbox i (message.Moved old cell t) q,
          tot-without n w s.threads t y at,
          tot-set n w s.threads t y h.thread at (a.named ∙ mine),
          thread_alone w n (unseen g n) n false y,
          thread_alone w n (unseen g n) n false h.thread,
        )

    -- CELLS, where it has taken the object

    module _ (see : Seeing) (bare : Bare see) where
      abbrev f : Thing → ℕ
      f x = cell_weight see x

      abbrev Grown : Type 0
      Grown = tot f (server_things s) + see.cells (Some n) cell.object cell.value ≤ tot f (server_things s2) + see.cells None cell.object cell.value

      whole : (z : Server) → z.rest.number ≡ n → tot f (server_things z) ≡ tot f (all_standing n z.threads) + amount see n z.rest.partition z.rest.inbox z.rest.outbox
      whole z e =
          let same : tot f (server_things z) ≡ tot f (all_standing n z.threads ++ rest_things n z.events z.rest) = subst (λ u. tot f (server_things z) ≡ tot f (all_standing u z.threads ++ rest_things u z.events z.rest)) e (server_same z f) in
          omega (arith, same, tot-append f (all_standing n z.threads) (rest_things n z.events z.rest), rest_seen see n z.events z.rest)

      made_more : tot f (partition_things n P) + see.cells (Some n) cell.object cell.value ≤ tot f (partition_things n (made P cell))
      made_more =
          let t2 = makes n P cell P.free (next_empty n P (in_place n s.events s.rest (others k co.sound number s here) (placed_here k co.sound number s here))) in
          omega (arith, t2.before f, t2.after f, no_place f n P.free (λ b m. refl))

      grown : (v : ℕ) → h.thread.phase ≡ phase.Taken v → Grown
      grown v e =
          let in_it = ap (λ l. tot f (things_at (waiting_things n) 0 l)) a.inbox in
          let out_it = ap (λ l. tot f (things_at leaving_things 0 l)) a.outbox in
          let part = ap (λ p. tot f (partition_things n p)) (a.untouched v e) in
          omega (
            arith,
            whole s refl,
            whole s2 a.server,
            in_it,
            out_it,
            part,
            made_more,
            bare.messages n (message.Moved old cell t),
            tot-remove (λ x. message_things n x) f 0 s.rest.inbox i (message.Moved old cell t) q,
            tot-without n f s.threads t y at,
            tot-set n f s.threads t y h.thread at (a.named ∙ mine),
            thread_seen see n false y,
            thread_seen see n false h.thread,
            bare.threads n false y,
            bare.threads n false h.thread,
          )

      -- only the thread itself has that number
      untouched : 1 ≤ tot (at_number takes t) (server_things s2) → Grown
      untouched l = by (is_taken h.thread.phase) refl
        where
          by : (b : Bool) → is_taken h.thread.phase ≡ b → Grown
          by true e = let v = is_taking h.thread.phase e in grown v.0 v.1
          by false e =
              let now : takes (st h.thread) ≡ 0 = ap one e in
              let was : takes (st y) ≡ 0 = ap one (waits_untaken y.phase a.waited) in
              let all : tot (at_number takes t) (things_of k) ≡ told takes (thread_at (sight k).ground.threads t) = thread_told takes t (things_of k) (co.sound.names.numbers_differ t) in
              let it : told takes (thread_at (sight k).ground.threads t) ≡ takes (st y) = ap (told takes) (thread_there k co.sound number s here t y at) in
              absurd (omega (arith, l, now, was, all, it, told_so takes, (tot-server (at_number takes t) k.servers number s s here).0))

  -- THE SERVER

  pub record Own (r : Server) : Type 0 where
    pub thread : ThreadState
    pub at : thread_in s.threads t ≡ Some thread
    pub told_then : (g : Standing → ℕ) (m : ℕ) → ((h : Hand) → Landed k co few number i s here old cell t thread at h → g (record { server = s.rest.number; packed = false; thread = h.thread }) ≡ m) → tot (at_number g t) (server_things r) + g (record { server = s.rest.number; packed = false; thread = thread }) ≡ tot (at_number g t) (server_things s) + m
    pub cells : (see : Seeing) → Bare see → 1 ≤ tot (at_number takes t) (server_things r) → tot (λ x. cell_weight see x) (server_things s) + see.cells (Some s.rest.number) cell.object cell.value ≤ tot (λ x. cell_weight see x) (server_things r) + see.cells None cell.object cell.value

  abbrev Then : Server × EntryView → Type 0
  Then r = Own r.0

  comes : Gives (λ (x : Site). Then (left_by s.events None None x)) (at_thread t (deliver_moved k.code old cell) (received i s))
  comes = by (thread_in s.threads t) refl
    where
      by : (o : Option ThreadState) → thread_in s.threads t ≡ o → Gives (λ (x : Site). Then (left_by s.events None None x)) (then_some (option_map (λ y. record { work = begin_work (receive s.rest i); thread = y }) o) (λ h. option_map (put_back s.threads) (deliver_moved k.code old cell h)))
      by None e = tt
      by (Some y) e =
          over_gives (Landed k co few number i s here old cell t y e) (λ (x : Site). Then (left_by s.events None None x)) (deliver_moved k.code old cell (record { work = begin_work (receive s.rest i); thread = y })) (put_back s.threads)
          (Rattle.law_walks_others.proofs.arrivals.Landing.moved_lands k co few number i s here old cell t y e q) (λ h a. record {
            thread = y;
            at = e;
            told_then = λ g m each. (let last = each h a in omega (arith, last, told_so y e h a g));
            cells = λ see bare l. untouched y e h a see bare l;
          })

  pub server_own : Gives Then (does k.code k.options s (Deliver i))
  server_own =
      subst (λ m. Gives Then (option_map (left_by s.events None None) (then_some m (λ x. deliver_message k.code x (received i s))))) (sym q)
      (over_gives (λ (x : Site). Then (left_by s.events None None x)) Then (at_thread t (deliver_moved k.code old cell) (received i s)) (left_by s.events None None) comes (λ x a. a))

-- IN ITS CLUSTER

module _ (k : Cluster) (e : Event) (old : ℕ) (cell : Cell) (t : ℕ) (d : Delivers k e (message.Moved old cell t)) (co : IsCoherent k) (few : FewEvents k) where
  abbrev pub n2 : ℕ
  n2 = d.server.rest.number

  pub record OwnLeft (c : Cluster) : Type 0 where
    pub thread : ThreadState
    pub at : thread_in d.server.threads t ≡ Some thread
    pub told_then : (g : Standing → ℕ) (m : ℕ) → ((h : Hand) → Landed k co few e.server d.place d.server d.there old cell t thread at h → g (record { server = d.server.rest.number; packed = false; thread = h.thread }) ≡ m) → tot (at_number g t) (things_of c) ≡ m
    pub cells : (see : Seeing) → Bare see → 1 ≤ tot (at_number takes t) (things_of c) → tot (λ x. cell_weight see x) (things_of k) + see.cells (Some d.server.rest.number) cell.object cell.value ≤ tot (λ x. cell_weight see x) (things_of c) + see.cells None cell.object cell.value

  made_so : (r : Server × EntryView) → Own k co few e.server d.place d.server d.there old cell t d.message r.0 → OwnLeft (record k { servers = Rattle.law_counts_waiting.specs.Below.server_model.Clusters.with_server k.servers e.server r.0 })
  made_so r a = record {
    thread = a.thread;
    at = a.at;
    told_then = λ g m each. (
        let w : Thing → ℕ = at_number g t in
        let all : tot w (things_of k) ≡ told g (thread_at (sight k).ground.threads t) = thread_told g t (things_of k) (co.sound.names.numbers_differ t) in
        let it : told g (thread_at (sight k).ground.threads t) ≡ g (record { server = d.server.rest.number; packed = false; thread = a.thread }) = ap (told g) (thread_there k co.sound e.server d.server d.there t a.thread a.at) in
        omega (arith, all, it, a.told_then g m each, (tot-server w k.servers e.server d.server r.0 d.there).0, (tot-server w k.servers e.server d.server r.0 d.there).1));
    cells = λ see bare l. (
        let f : Thing → ℕ = λ x. cell_weight see x in
        let w : Thing → ℕ = at_number takes t in
        let all : tot w (things_of k) ≡ told takes (thread_at (sight k).ground.threads t) = thread_told takes t (things_of k) (co.sound.names.numbers_differ t) in
        let it : told takes (thread_at (sight k).ground.threads t) ≡ takes (record { server = d.server.rest.number; packed = false; thread = a.thread }) = ap (told takes) (thread_there k co.sound e.server d.server d.there t a.thread a.at) in
        let zero_there : takes (record { server = d.server.rest.number; packed = false; thread = a.thread }) ≡ 0 = untaken_before a in
        let here_all : 1 ≤ tot w (server_things r.0) = omega (arith, l, all, it, zero_there, (tot-server w k.servers e.server d.server r.0 d.there).0, (tot-server w k.servers e.server d.server r.0 d.there).1) in
        omega (arith, a.cells see bare here_all, (tot-server f k.servers e.server d.server r.0 d.there).0, (tot-server f k.servers e.server d.server r.0 d.there).1));
  }
    where
      untaken_before : (a : Own k co few e.server d.place d.server d.there old cell t d.message r.0) → takes (record { server = d.server.rest.number; packed = false; thread = a.thread }) ≡ 0
      untaken_before a = ap one (waits_untaken a.thread.phase (waits_there a.thread a.at))
        where
          waits_there : (y : ThreadState) → thread_in d.server.threads t ≡ Some y → waits_cell y.phase ≡ true
          waits_there y at = Rattle.law_walks_others.proofs.arrivals.Waiter.waits_for_it k co.sound e.server d.server d.there d.place old cell t d.message y at

  acted : Gives (λ (r : Cluster × EntryView). OwnLeft r.0) (act_at k e)
  acted =
      then_gives (λ (r : Cluster × EntryView). OwnLeft r.0) (server_at k.servers e.server) _ (λ s here.
      let same : d.server ≡ s = is (sym d.there ∙ here) in
      over_gives (λ (r : Server × EntryView). Own k co few e.server d.place d.server d.there old cell t d.message r.0) (λ (r : Cluster × EntryView). OwnLeft r.0) (done_at k e.what s) _
      (test_gives (λ (r : Server × EntryView). Own k co few e.server d.place d.server d.there old cell t d.message r.0) (enabled k.options s e.what) (does k.code k.options s e.what) (λ able.
      subst (λ z. Gives (λ (r : Server × EntryView). Own k co few e.server d.place d.server d.there old cell t d.message r.0) (does k.code k.options z e.what)) same
      (subst (λ what. Gives (λ (r : Server × EntryView). Own k co few e.server d.place d.server d.there old cell t d.message r.0) (does k.code k.options d.server what)) (sym d.what) (server_own k co few e.server d.place d.server d.there old cell t d.message))))
      (λ r a. made_so r a))
    where
      is : {a b : Server} → Some a ≡ Some b → a ≡ b
      is h = cc

  pub own_left : Gives (λ (r : Cluster × EntryView). OwnLeft r.0) (apply k e)
  own_left =
      handed_on OwnLeft (λ c a b same g. record {
        thread = g.thread;
        at = g.at;
        told_then = λ h m each. omega (arith, g.told_then h m each, same (at_number h t));
        cells = λ see bare l. (let f : Thing → ℕ = λ x. cell_weight see x in omega (arith, g.cells see bare (omega (arith, l, same (at_number takes t))), same f));
      }) k e (each_event_sends k e co.sound few) acted
