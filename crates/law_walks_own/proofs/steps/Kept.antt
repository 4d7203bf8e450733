-- The step of a thread that asks for something takes no object away: what lay at its server lies there.
use Rattle.std.proofs.Common.{◌≡◌, ℕ, zero, suc, ◌+◌, ◌≤◌, true, false, List, [], ◌∷◌, refl, sym, subst, arith}
use Rattle.law_walks_others.specs.Below.fr_base.declared.name.ObjNo.{ObjNo}
use Rattle.law_walks_others.specs.Below.thread_state.View.{ThreadState}
use Rattle.law_walks_others.specs.Below.journal.View.{EntryView}
use Rattle.law_walks_others.specs.Below.server_msgs.declared.message.Message.{Message}
use Rattle.law_walks_others.specs.Below.server_msgs.declared.message.Message.TheVariants as message
use Rattle.law_walks_others.specs.Below.server_model.Servers.{Server, Sent, Cluster}
use Rattle.law_walks_others.specs.Below.server_model.Work.{Hand}
use Rattle.law_walks_others.specs.Below.server_model.Prepare.{requested, access_of, prepare}
use Rattle.law_walks_others.specs.Below.server_model.Events.{Stepped, begin_work, wait_step}
use Rattle.law_walks_others.specs.Below.coherent_memory.Names.{tot}
use Rattle.law_walks_others.specs.Below.coherent_memory.Things.{Thing, things_at, partition_things, message_things, waiting_things, leaving_things, things_of}
use Rattle.law_walks_others.specs.Below.coherent_memory.Weights.{lies_at}
use Rattle.law_walks_others.proofs.Below.coherent_memory.Sums.{tot-append}
use Rattle.law_words_ends.specs.Below.law_words_paths.words.Reworded.{HasPlaces}
use Rattle.law_walks_others.proofs.Below.law_counts_sums.Bags.{all_standing, rest_things, server_same, tot-without}
use Rattle.law_walks_others.proofs.Below.law_counts_sums.Events.{tot-server}
use Rattle.law_walks_others.proofs.Below.law_heap_still.events.Addresses.{InPlace, in_place}
use Rattle.law_walks_others.proofs.Below.law_heap_still.events.Leaving.{others, placed_here}
use Rattle.law_walks_others.proofs.Below.law_heap_still.events.Told.{tot_same}
use Rattle.law_words_ends.proofs.Below.law_counts_things.things.Small.{Made}
use Rattle.law_walks_others.proofs.pointers.Cells.{Seeing, cell_weight, thread_seen, rest_seen}
use Rattle.law_walks_own.proofs.steps.Lies.{LiesHere, lies_on}
use Rattle.law_walks_own.proofs.steps.Own.{Own, parts}
use Rattle.law_walks_own.proofs.steps.There.{sees_lying, lying_seen, lies_is}

module _ (r : ℕ) (q : ObjNo) where
  abbrev f : Thing → ℕ
  f x = cell_weight (sees_lying r q) x

  -- nothing lies in a message
  message_none : (n : ℕ) (m : Message) → tot f (message_things n m) ≡ 0
  message_none n (message.Start u) = let a = thread_seen (sees_lying r q) n true u in omega (arith, a)
  message_none n (message.Migrate u) = let a = thread_seen (sees_lying r q) n true u in omega (arith, a)
  message_none n (message.Fetch w o s t) = refl
  message_none n (message.Fetched w c t) = refl
  message_none n (message.Move w o s t) = refl
  message_none n (message.Moved w c t) = refl
  message_none n (message.Drop w o) = refl
  message_none n (message.Lock m s t) = refl
  message_none n (message.Granted m v t) = refl
  message_none n (message.Unlock m v) = refl
  message_none n (message.Dup m s t) = refl
  message_none n (message.Dupped m t) = refl
  message_none n (message.Release m) = refl
  message_none n (message.Join u s b) = refl
  message_none n (message.Joined u v b) = refl
  message_none n (message.Finished u v) = refl

  none_at : {X : Type 0} (g : ℕ → X → List Thing) → ((i : ℕ) (x : X) → tot f (g i x) ≡ 0) → (i : ℕ) (xs : List X) → tot f (things_at g i xs) ≡ 0
  none_at g e i [] = refl
  none_at g e i (x ∷ xs) = omega (arith, e i x, none_at g e (i + 1) xs, tot-append f (g i x) (things_at g (i + 1) xs))

  inbox_none : (n : ℕ) (ms : List Message) → tot f (things_at (waiting_things n) 0 ms) ≡ 0
  inbox_none n ms = none_at (waiting_things n) (λ i m. message_none n m) 0 ms

  outbox_none : (xs : List Sent) → tot f (things_at leaving_things 0 xs) ≡ 0
  outbox_none xs = none_at leaving_things (λ i x. message_none x.target x.message) 0 xs

module _ (k c : Cluster) (v : EntryView) (t : ℕ) (o : Own k c v t) (after : HasPlaces c) (h : Hand) (asked : prepare (access_of o.instruction o.thread) (record { work = begin_work o.server.rest; thread = o.thread }) ≡ requested h) (is : o.result ≡ wait_step h) where
  abbrev m : ℕ
  m = o.server.rest.number

  abbrev s : Server
  s = o.server

  abbrev y : ThreadState
  y = o.thread

  -- each address of the server has one state
  pub placed : InPlace o.server.rest.number o.server.rest.partition
  placed = let z = o.steps in in_place s.rest.number s.events s.rest (others k z.coherent.sound o.number s z.here) (placed_here k z.coherent.sound o.number s z.here)

  stays_here : (q : ObjNo) → 1 ≤ tot (lies_at m q) (partition_things m s.rest.partition) → 1 ≤ tot (lies_at m q) (partition_things m o.result.hand.work.rest.partition)
  stays_here q l =
      let made : LiesHere m q h.work.rest h.thread = subst (Made (LiesHere m q) (LiesHere m q)) asked (lies_on m q (access_of o.instruction y) (record { work = begin_work s.rest; thread = y }) (refl, l, placed)) in
      subst (λ (d : Stepped). 1 ≤ tot (lies_at m q) (partition_things m d.hand.work.rest.partition)) (sym is) made.1

  pub still_lies : (q : ObjNo) → 1 ≤ tot (lies_at o.server.rest.number q) (things_of k) → 1 ≤ tot (lies_at o.server.rest.number q) (things_of c)
  still_lies q l = by (tot (lies_at m q) (partition_things m s.rest.partition)) refl
    where
      by : (p : ℕ) → tot (lies_at m q) (partition_things m s.rest.partition) ≡ p → 1 ≤ tot (lies_at m q) (things_of c)
      by (suc p) e = lies_is k c v t o after q (stays_here q (omega (arith, e)))
      by zero e =
          let z = o.steps in
          let see : Seeing = sees_lying m q in
          let g : Thing → ℕ = λ x. cell_weight see x in
          let in_k = (tot-server g k.servers o.number s s z.here).0 in
          let whole = server_same s g in
          let split = tot-append g (all_standing m s.threads) (rest_things m s.events s.rest) in
          let without = tot-without m g s.threads t y z.at in
          let none = thread_seen see m false y in
          let rest = rest_seen see m s.events s.rest in
          let inbox = inbox_none m q m s.rest.inbox in
          let outbox = outbox_none m q s.rest.outbox in
          let lying = tot_same g (lies_at m q) (lying_seen m q) (partition_things m s.rest.partition) in
          let there = tot_same g (lies_at m q) (lying_seen m q) (things_of k) in
          let then = tot_same g (lies_at m q) (lying_seen m q) (things_of c) in
          let all = parts k c v t o after g in
          omega (arith, l, e, in_k, whole, split, without, none, rest, inbox, outbox, lying, there, then, all)
