-- What the delivery of a `moved` leaves of the server of its thread, by what a weight sees.
use Rattle.std.proofs.Common.{◌≡◌, ◌≤◌, ℕ, zero, suc, ◌+◌, ◌==◌, ◌&&◌, Bool, true, false, if◌then◌else◌, List, [], ◌∷◌, ◌++◌, Option, Some, None, option_map, refl, sym, ap, subst, ◌∙◌, arith}
use Rattle.std.specs.Prelude.{slice_get, remove}
use Rattle.std.proofs.lemmas.Bool.Decides.{nat_tests}
use Rattle.law_counts_waiting.specs.Below.fr_base.declared.name.ObjNo.{ObjNo}
use Rattle.law_counts_waiting.specs.Below.heap_partition.declared.value.BoxPtr.{BoxPtr}
use Rattle.law_counts_waiting.specs.Below.heap_partition.declared.value.Cell.{Cell}
use Rattle.law_counts_waiting.specs.Below.heap_partition.declared.value.Owned.TheVariants as owned
use Rattle.law_counts_waiting.specs.Below.owner_box.View.{PartitionState}
use Rattle.law_counts_waiting.specs.Below.owner_box.Partition.{made}
use Rattle.law_counts_waiting.specs.Below.thread_state.View.{ThreadState}
use Rattle.law_counts_waiting.specs.Below.server_msgs.declared.message.Message.{Message}
use Rattle.law_counts_waiting.specs.Below.server_msgs.declared.message.Message.TheVariants as message
use Rattle.law_counts_waiting.specs.Below.journal.View.{EntryView}
use Rattle.law_counts_waiting.specs.Below.server_model.declared.event.Event.{Event}
use Rattle.law_counts_waiting.specs.Below.server_model.declared.event.What.TheVariants.{Deliver}
use Rattle.law_counts_waiting.specs.Below.server_model.Servers.{Server, Cluster, server_at}
use Rattle.law_counts_waiting.specs.Below.server_model.Work.{Hand, Site, receive, thread_in, set_thread, then_some, put_back, at_thread}
use Rattle.law_counts_waiting.specs.Below.server_model.Objects.{deliver_moved}
use Rattle.law_counts_waiting.specs.Below.server_model.Events.{begin_work, enabled, received, left_by, deliver_message, does}
use Rattle.law_counts_waiting.specs.Below.server_model.Clusters.{done_at, act_at, apply}
use Rattle.law_counts_waiting.specs.Below.coherent_memory.Names.{tot, one, if_so}
use Rattle.law_counts_waiting.specs.Below.coherent_memory.Things.{Thing, vacant, stands, things_at, message_things, waiting_things, leaving_things, partition_things, server_things, things_of}
use Rattle.law_counts_waiting.specs.Below.coherent_memory.Follow.{Standing}
use Rattle.law_counts_waiting.proofs.Below.coherent_memory.Sums.{tot-append}
use Rattle.law_counts_waiting.specs.Below.coherent_types.ClusterTypes.{IsCoherent}
use Rattle.law_counts_waiting.specs.Below.law_counts_sums.Laws.{Gives, FewEvents}
use Rattle.law_counts_waiting.proofs.Below.law_counts_sums.Results.{then_gives, over_gives, test_gives}
use Rattle.law_counts_waiting.proofs.Below.law_counts_sums.Trades.{tot-remove}
use Rattle.law_counts_waiting.proofs.Below.law_counts_sums.Bags.{all_standing, rest_things, server_same, tot-without, tot-set, thread_number}
use Rattle.law_counts_waiting.proofs.Below.law_counts_sums.Objects.{taken_place, makes}
use Rattle.law_counts_waiting.proofs.Below.law_counts_sums.Values.{stores}
use Rattle.law_counts_waiting.proofs.Below.law_counts_sums.Unseen.{Unseen, Unnoted, thread_alone, seen_of}
use Rattle.law_counts_waiting.proofs.Below.law_counts_sums.Events.{tot-server}
use Rattle.law_counts_waiting.proofs.Below.law_counts_sums.Applied.{handed_on}
use Rattle.law_counts_waiting.proofs.Below.law_counts_sums.Sending.{each_event_sends}
use Rattle.law_walks_others.proofs.Below.law_heap_still.events.Addresses.{next_empty, in_place}
use Rattle.law_walks_others.proofs.Below.law_heap_still.events.Leaving.{others, placed_here}
use Rattle.law_walks_others.proofs.Below.law_heap_still.events.Told.{at_thread as at_number}
use Rattle.law_counts_waiting.specs.Below.law_words_paths.words.Unmoved.{Delivers}
use Rattle.law_walks_others.proofs.pointers.Cells.{Seeing, cell_weight, thread_seen, amount, rest_seen}
use Rattle.law_walks_others.proofs.still.Filled.{waits_cell, waiting, is_one, same_true}
use Rattle.law_walks_others.proofs.arrivals.Landing.{Put, as_made, reworded, Landed, moved_lands}

-- of cells alone, whatever word a box to the object has
pub record Fits (o : ObjNo) (see : Seeing) : Type 0 where
  pub threads : (r : ℕ) (b : Bool) (u : ThreadState) → see.threads r b u ≡ 0
  pub messages : (r : ℕ) (m : Message) → see.messages r m ≡ 0
  pub words : (r new : ℕ) (q : ObjNo) (b : BoxPtr) → b.object ≡ o → see.cells (Some r) q (owned.Box b) ≤ see.cells (Some r) q (owned.Box (record b { word = new }))

pub no_place : (f : Thing → ℕ) (n : ℕ) (free : List (ℕ × ℕ)) → ((a m : ℕ) → f (vacant n a m) ≡ 0) → tot f (taken_place n free) ≡ 0
no_place f n [] e = refl
no_place f n (pair ∷ rest) e = omega (arith, e pair.0 pair.1)

other_number : (m t : ℕ) → (m ≡ t → ⊥) → (x : ℕ) → if_so (m == t) x ≡ 0
other_number m t ne x = by (m == t) refl
  where
    by : (b : Bool) → (m == t) ≡ b → if_so b x ≡ 0
    by true e = absurd (ne (grind (arith, nat_tests, e)))
    by false e = refl

module _ (k : Cluster) (co : IsCoherent k) (few : FewEvents k) (number i : ℕ) (s : Server) (here : server_at k.servers number ≡ Some s) (old : ℕ) (cell : Cell) (t : ℕ) (q : slice_get s.rest.inbox i ≡ Some (message.Moved old cell t)) where
  abbrev n : ℕ
  n = s.rest.number

  abbrev P : PartitionState
  P = s.rest.partition

  -- CELLS

  -- where the hand has landed, what was seen of the object under way is seen of it here, and no less of the rest of the server
  abbrev pub Grown : Seeing → Server × EntryView → Type 0
  Grown see r = tot (λ x. cell_weight see x) (server_things s) + see.cells (Some n) cell.object cell.value ≤ tot (λ x. cell_weight see x) (server_things r.0) + see.cells None cell.object cell.value

  module _ (see : Seeing) (fits : Fits cell.object see) where
    abbrev f : Thing → ℕ
    f x = cell_weight see x

    made_more : tot f (partition_things n P) + see.cells (Some n) cell.object cell.value ≤ tot f (partition_things n (made P cell))
    made_more =
        let t2 = makes n P cell P.free (next_empty n P (in_place n s.events s.rest (others k co.sound number s here) (placed_here k co.sound number s here))) in
        omega (arith, t2.before f, t2.after f, no_place f n P.free (λ a m. refl))

    put_more : (y : ThreadState) (at : thread_in s.threads t ≡ Some y) (p : PartitionState) → Put k co few number i s here old cell t y at p → tot f (partition_things n P) + see.cells (Some n) cell.object cell.value ≤ tot f (partition_things n p)
    put_more y at _ as_made = made_more
    put_more y at _ (reworded w new d b there boxed same) =
        let t2 = stores n (made P cell) w d (owned.Box (record b { word = new })) there in
        let was : see.cells (Some n) d.object d.value ≡ see.cells (Some n) d.object (owned.Box b) = ap (see.cells (Some n) d.object) boxed in
        omega (arith, made_more, t2.before f, t2.after f, was, fits.words n new d.object b same)

    whole : (s2 : Server) → s2.rest.number ≡ n → tot f (server_things s2) ≡ tot f (all_standing n s2.threads) + amount see n s2.rest.partition s2.rest.inbox s2.rest.outbox
    whole s2 e =
        let same : tot f (server_things s2) ≡ tot f (all_standing n s2.threads ++ rest_things n s2.events s2.rest) = subst (λ u. tot f (server_things s2) ≡ tot f (all_standing u s2.threads ++ rest_things u s2.events s2.rest)) e (server_same s2 f) in
        omega (arith, same, tot-append f (all_standing n s2.threads) (rest_things n s2.events s2.rest), rest_seen see n s2.events s2.rest)

    landed_more : (y : ThreadState) (at : thread_in s.threads t ≡ Some y) (h : Hand) → Landed k co few number i s here old cell t y at h → Grown see (left_by s.events None None (put_back s.threads h))
    landed_more y at h a =
        let s2 : Server = record { rest = h.work.rest; threads = set_thread s.threads h.thread; events = s.events + 1 } in
        let in_it = ap (λ l. tot f (things_at (waiting_things n) 0 l)) a.inbox in
        let out_it = ap (λ l. tot f (things_at leaving_things 0 l)) a.outbox in
        omega (
          arith,
          whole s refl,
          whole s2 a.server,
          in_it,
          out_it,
          put_more y at h.work.rest.partition a.partition,
          fits.messages n (message.Moved old cell t),
          tot-remove (λ x. message_things n x) f 0 s.rest.inbox i (message.Moved old cell t) q,
          tot-without n f s.threads t y at,
          tot-set n f s.threads t y h.thread at (a.named ∙ thread_number s.threads t y at),
          thread_seen see n false y,
          thread_seen see n false h.thread,
          fits.threads n false y,
          fits.threads n false h.thread,
        )

  -- THREADS

  -- as much is told of another thread
  abbrev pub Same : (Standing → ℕ) → ℕ → Server × EntryView → Type 0
  Same g u r = tot (at_number g u) (server_things r.0) ≡ tot (at_number g u) (server_things s)

  module _ (g : Standing → ℕ) (u : ℕ) (ne : t ≡ u → ⊥) where
    abbrev w : Thing → ℕ
    w x = at_number g u x

    unseen : (m : ℕ) → Unseen w m
    unseen m = record { held = λ p v. refl; shared = λ l r. refl; borrowed = λ l r. refl; locked = λ l z. refl; live = λ a c. refl; free = λ a z. refl; old = λ a. refl; copy = λ z c. refl; used = λ z x. refl }

    unnoted : Unnoted w
    unnoted = record { mutex = λ z m. refl; queue = λ m z x. refl; note = λ z x. refl }

    landed_same : (y : ThreadState) (at : thread_in s.threads t ≡ Some y) (h : Hand) → Landed k co few number i s here old cell t y at h → Same g u (left_by s.events None None (put_back s.threads h))
    landed_same y at h a =
        let s2 : Server = record { rest = h.work.rest; threads = set_thread s.threads h.thread; events = s.events + 1 } in
        let mine : y.number ≡ t = thread_number s.threads t y at in
        let was : w (stands n false y) ≡ 0 = other_number y.number u (λ e. ne (sym mine ∙ e)) (g (record { server = n; packed = false; thread = y })) in
        let is : w (stands n false h.thread) ≡ 0 = other_number h.thread.number u (λ e. ne (sym mine ∙ sym a.named ∙ e)) (g (record { server = n; packed = false; thread = h.thread })) in
        omega (
          arith,
          seen_of w n (unseen n) unnoted s refl,
          seen s2 a.server a.inbox a.outbox,
          was,
          is,
          tot-remove (λ x. message_things n x) w 0 s.rest.inbox i (message.Moved old cell t) q,
          tot-without n w s.threads t y at,
          tot-set n w s.threads t y h.thread at (a.named ∙ mine),
          thread_alone w n (unseen n) n false y,
          thread_alone w n (unseen n) n false h.thread,
        )
      where
        seen : (s2 : Server) → s2.rest.number ≡ n → s2.rest.inbox ≡ remove s.rest.inbox i → s2.rest.outbox ≡ s.rest.outbox
            → tot w (server_things s2) ≡ tot w (all_standing n s2.threads) + tot w (things_at (waiting_things n) 0 (remove s.rest.inbox i)) + tot w (things_at leaving_things 0 s.rest.outbox)
        seen s2 a b d =
            let it : tot w (server_things s2) ≡ tot w (all_standing n s2.threads) + tot w (things_at (waiting_things n) 0 s2.rest.inbox) + tot w (things_at leaving_things 0 s2.rest.outbox) =
            subst (λ m. tot w (server_things s2) ≡ tot w (all_standing m s2.threads) + tot w (things_at (waiting_things m) 0 s2.rest.inbox) + tot w (things_at leaving_things 0 s2.rest.outbox)) a (omega (arith, seen_of w s2.rest.number (unseen s2.rest.number) unnoted s2 refl)) in
            let in_it = ap (λ l. tot w (things_at (waiting_things n) 0 l)) b in
            let out_it = ap (λ l. tot w (things_at leaving_things 0 l)) d in
            omega (arith, it, in_it, out_it)

  -- and the thread itself doesn't wait any more
  abbrev pub Awake : Server × EntryView → Type 0
  Awake r = tot (waiting t) (server_things r.0) + 1 ≤ tot (waiting t) (server_things s)

  unseen_wait : (m : ℕ) → Unseen (waiting t) m
  unseen_wait m = record { held = λ p v. refl; shared = λ l r. refl; borrowed = λ l r. refl; locked = λ l z. refl; live = λ a c. refl; free = λ a z. refl; old = λ a. refl; copy = λ z c. refl; used = λ z x. refl }

  unnoted_wait : Unnoted (waiting t)
  unnoted_wait = record { mutex = λ z m. refl; queue = λ m z x. refl; note = λ z x. refl }

  landed_awake : (y : ThreadState) (at : thread_in s.threads t ≡ Some y) (h : Hand) → Landed k co few number i s here old cell t y at h → Awake (left_by s.events None None (put_back s.threads h))
  landed_awake y at h a =
      let w : Thing → ℕ = waiting t in
      let s2 : Server = record { rest = h.work.rest; threads = set_thread s.threads h.thread; events = s.events + 1 } in
      let mine : y.number ≡ t = thread_number s.threads t y at in
      let was : w (stands n false y) ≡ 1 = is_one (y.number == t) (waits_cell y.phase) (same_true y.number t mine) a.waited in
      let is : w (stands n false h.thread) ≡ 0 = none_there (h.thread.number == t) (waits_cell h.thread.phase) a.awake in
      omega (
        arith,
        seen_of w n (unseen_wait n) unnoted_wait s refl,
        seen s2 a.server a.inbox a.outbox,
        was,
        is,
        tot-remove (λ x. message_things n x) w 0 s.rest.inbox i (message.Moved old cell t) q,
        tot-without n w s.threads t y at,
        tot-set n w s.threads t y h.thread at (a.named ∙ mine),
        thread_alone w n (unseen_wait n) n false y,
        thread_alone w n (unseen_wait n) n false h.thread,
      )
    where
      none_there : (b z : Bool) → z ≡ false → one (b && z) ≡ 0
      none_there true true e = absurd (cc e)
      none_there true false e = refl
      none_there false z e = refl

      seen : (s2 : Server) → s2.rest.number ≡ n → s2.rest.inbox ≡ remove s.rest.inbox i → s2.rest.outbox ≡ s.rest.outbox
          → tot (waiting t) (server_things s2) ≡ tot (waiting t) (all_standing n s2.threads) + tot (waiting t) (things_at (waiting_things n) 0 (remove s.rest.inbox i)) + tot (waiting t) (things_at leaving_things 0 s.rest.outbox)
      seen s2 a b d =
          let w : Thing → ℕ = waiting t in
          let it : tot w (server_things s2) ≡ tot w (all_standing n s2.threads) + tot w (things_at (waiting_things n) 0 s2.rest.inbox) + tot w (things_at leaving_things 0 s2.rest.outbox) =
          subst (λ m. tot w (server_things s2) ≡ tot w (all_standing m s2.threads) + tot w (things_at (waiting_things m) 0 s2.rest.inbox) + tot w (things_at leaving_things 0 s2.rest.outbox)) a (omega (arith, seen_of w s2.rest.number (unseen_wait s2.rest.number) unnoted_wait s2 refl)) in
          let in_it = ap (λ l. tot w (things_at (waiting_things n) 0 l)) b in
          let out_it = ap (λ l. tot w (things_at leaving_things 0 l)) d in
          omega (arith, it, in_it, out_it)

  -- THE SERVER

  abbrev pub Then : Server × EntryView → Type 0
  Then r = ((see : Seeing) → Fits cell.object see → Grown see r) × ((g : Standing → ℕ) (u : ℕ) → (t ≡ u → ⊥) → Same g u r) × Awake r

  abbrev Good : Site → Type 0
  Good x = Then (left_by s.events None None x)

  comes : Gives Good (at_thread t (deliver_moved k.code old cell) (received i s))
  comes = by (thread_in s.threads t) refl
    where
      by : (o : Option ThreadState) → thread_in s.threads t ≡ o → Gives Good (then_some (option_map (λ y. record { work = begin_work (receive s.rest i); thread = y }) o) (λ h. option_map (put_back s.threads) (deliver_moved k.code old cell h)))
      by None e = tt
      by (Some y) e =
          over_gives (Landed k co few number i s here old cell t y e) Good (deliver_moved k.code old cell (record { work = begin_work (receive s.rest i); thread = y })) (put_back s.threads) (moved_lands k co few number i s here old cell t y e q)
          (λ h a. (λ see fits. landed_more see fits y e h a, λ g u ne. landed_same g u ne y e h a, landed_awake y e h a))

  pub server_lands : Gives Then (does k.code k.options s (Deliver i))
  server_lands =
      subst (λ m. Gives Then (Rattle.std.proofs.Common.option_map (left_by s.events None None) (then_some m (λ x. deliver_message k.code x (received i s))))) (sym q)
      (over_gives Good Then (at_thread t (deliver_moved k.code old cell) (received i s)) (left_by s.events None None) comes (λ x a. a))

-- IN ITS CLUSTER

-- what was seen of the object under way is seen of it at that server, and no less of other cells; each other thread stands as it did, and the thread itself doesn't wait
pub record Leaves (k : Cluster) (n : ℕ) (cell : Cell) (t : ℕ) (c : Cluster) : Type 0 where
  pub cells : (see : Seeing) → Fits cell.object see → tot (λ x. cell_weight see x) (things_of k) + see.cells (Some n) cell.object cell.value ≤ tot (λ x. cell_weight see x) (things_of c) + see.cells None cell.object cell.value
  pub threads : (g : Standing → ℕ) (u : ℕ) → (t ≡ u → ⊥) → tot (at_number g u) (things_of c) ≡ tot (at_number g u) (things_of k)
  pub awake : tot (waiting t) (things_of c) + 1 ≤ tot (waiting t) (things_of k)

module _ (k : Cluster) (e : Event) (old : ℕ) (cell : Cell) (t : ℕ) (d : Delivers k e (message.Moved old cell t)) (co : IsCoherent k) (few : FewEvents k) where
  abbrev Left : Cluster → Type 0
  Left c = Leaves k d.server.rest.number cell t c

  acted : Gives (λ (r : Cluster × EntryView). Left r.0) (act_at k e)
  acted =
      then_gives (λ (r : Cluster × EntryView). Left r.0) (server_at k.servers e.server) _ (λ s here.
      let same : d.server ≡ s = is (sym d.there ∙ here) in
      let q : slice_get s.rest.inbox d.place ≡ Some (message.Moved old cell t) = ap (λ (x : Server). slice_get x.rest.inbox d.place) (sym same) ∙ d.message in
      over_gives (Then k co few e.server d.place s here old cell t q) (λ (r : Cluster × EntryView). Left r.0) (done_at k e.what s) _
      (test_gives (Then k co few e.server d.place s here old cell t q) (enabled k.options s e.what) (does k.code k.options s e.what) (λ able.
      subst (λ what. Gives (Then k co few e.server d.place s here old cell t q) (does k.code k.options s what)) (sym d.what) (server_lands k co few e.server d.place s here old cell t q)))
      (λ r a. record {
        cells = λ see fits. (let f : Thing → ℕ = λ x. cell_weight see x in let at = ap (λ (x : Server). see.cells (Some x.rest.number) cell.object cell.value) same in omega (arith, a.0 see fits, at, (tot-server f k.servers e.server s r.0 here).0, (tot-server f k.servers e.server s r.0 here).1));
        threads = λ g u ne. (let f : Thing → ℕ = λ x. at_number g u x in omega (arith, a.1 g u ne, (tot-server f k.servers e.server s r.0 here).0, (tot-server f k.servers e.server s r.0 here).1));
        awake = (let f : Thing → ℕ = waiting t in omega (arith, a.2, (tot-server f k.servers e.server s r.0 here).0, (tot-server f k.servers e.server s r.0 here).1));
      }))
    where
      is : {a b : Server} → Some a ≡ Some b → a ≡ b
      is h = cc

  pub leaves : Gives (λ (r : Cluster × EntryView). Leaves k d.server.rest.number cell t r.0) (apply k e)
  leaves =
      handed_on Left (λ c a b same g. record {
        cells = λ see fits. (let f : Thing → ℕ = λ x. cell_weight see x in omega (arith, g.cells see fits, same f));
        threads = λ h u ne. (let f : Thing → ℕ = λ x. at_number h u x in omega (arith, g.threads h u ne, same f));
        awake = omega (arith, g.awake, same (waiting t));
      }) k e (each_event_sends k e co.sound few) acted
