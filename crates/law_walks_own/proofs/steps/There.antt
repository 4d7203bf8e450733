-- What stands in the cluster after a step, of what the hand of the step has: cells, objects that lie there, and the message that it sent.
use Rattle.std.proofs.Common.{◌≡◌, ℕ, ◌+◌, ◌≤◌, ◌==◌, ◌&&◌, Bool, true, false, Option, Some, None, refl, ap, arith}
use Rattle.law_walks_others.specs.Below.fr_base.Names.{same_object}
use Rattle.law_walks_others.specs.Below.fr_base.declared.name.ObjNo.{ObjNo}
use Rattle.law_walks_others.specs.Below.heap_partition.Same.{same_owned}
use Rattle.law_walks_others.specs.Below.heap_partition.declared.value.Cell.{Cell}
use Rattle.law_walks_others.specs.Below.heap_partition.declared.value.Owned.{Owned}
use Rattle.law_walks_others.specs.Below.thread_state.declared.value.Value.TheVariants as value
use Rattle.law_walks_others.specs.Below.journal.View.{EntryView}
use Rattle.law_walks_others.specs.Below.server_msgs.declared.message.Message.{Message}
use Rattle.law_walks_others.specs.Below.server_model.Servers.{Cluster, Rest}
use Rattle.law_walks_others.specs.Below.server_model.Work.{sent_from}
use Rattle.law_walks_others.specs.Below.coherent_memory.Names.{tot, one}
use Rattle.law_walks_others.specs.Below.coherent_memory.Things.{Thing, lies, flies, stands, sent, partition_things, things_of}
use Rattle.law_walks_others.specs.Below.coherent_memory.Follow.{cell_of, value_of}
use Rattle.law_walks_others.specs.Below.coherent_memory.Sight.{sight}
use Rattle.law_walks_others.specs.Below.coherent_memory.Weights.{lies_at}
use Rattle.law_words_ends.specs.Below.law_words_paths.words.Reworded.{HasPlaces}
use Rattle.law_walks_others.proofs.Below.law_counts_sums.Bags.{rest_things, of_sending}
use Rattle.law_walks_others.proofs.Below.law_counts_sums.Values.{stores}
use Rattle.law_walks_others.proofs.Below.law_heap_still.events.Tests.{objects}
use Rattle.law_walks_others.proofs.Below.law_heap_still.events.Told.{tot_same}
use Rattle.law_walks_others.proofs.Below.law_results_events.writes.Memory.{Leads, looks}
use Rattle.law_walks_others.proofs.pointers.Cells.{Seeing, cell_weight, rest_seen}
use Rattle.law_walks_others.proofs.pointers.Still.{shows}
use Rattle.law_walks_others.proofs.pointers.Tests.{owneds}
use Rattle.law_walks_own.proofs.steps.Own.{Own, parts, shown_there}

-- sees cells of an object with a value
abbrev pub sees_cell : ObjNo → Owned → Seeing
sees_cell o v = record { cells = λ s q w. one (same_object q o && same_owned w v); threads = λ s b u. 0; messages = λ s m. 0 }

pub cells_seen : (o : ObjNo) (v : Owned) (x : Thing) → cell_weight (sees_cell o v) x ≡ shows o v x
cells_seen o v (lies s a d) = refl
cells_seen o v (flies w d) = refl
cells_seen o v (stands s b u) = refl
cells_seen o v (sent s m) = refl
cells_seen o v _ = refl

abbrev pub lying_at : ℕ → ObjNo → Option ℕ → ObjNo → ℕ
lying_at r o None q = 0
lying_at r o (Some s) q = one (s == r && same_object q o)

-- sees where an object lies
abbrev pub sees_lying : ℕ → ObjNo → Seeing
sees_lying r o = record { cells = λ s q w. lying_at r o s q; threads = λ s b u. 0; messages = λ s m. 0 }

pub lying_seen : (r : ℕ) (o : ObjNo) (x : Thing) → cell_weight (sees_lying r o) x ≡ lies_at r o x
lying_seen r o (lies s a d) = refl
lying_seen r o (flies w d) = refl
lying_seen r o (stands s b u) = refl
lying_seen r o (sent s m) = refl
lying_seen r o _ = refl

both : (p q : Bool) → p ≡ true → q ≡ true → (p && q) ≡ true
both true q a b = b
both false q a b = absurd (cc a)

module _ (k c : Cluster) (v : EntryView) (t : ℕ) (o : Own k c v t) (after : HasPlaces c) where
  abbrev m : ℕ
  m = o.server.rest.number

  abbrev r : Rest
  r = o.result.hand.work.rest

  rest_counts : (f : Thing → ℕ) → tot f (rest_things m (o.server.events + 1) r) ≤ tot f (things_of c)
  rest_counts f = let a = parts k c v t o after f in omega (arith, a)

  partition_counts : (see : Seeing) → tot (cell_weight see) (partition_things m r.partition) ≤ tot (cell_weight see) (things_of c)
  partition_counts see = let a = rest_counts (cell_weight see) in let b = rest_seen see m (o.server.events + 1) r in omega (arith, a, b)

  -- a cell of its partition
  pub cell_is : (u : ℕ) (d : Cell) → Leads r.partition u d → value_of (cell_of (sight c).ground.cells d.object) ≡ Some (value.Own d.value)
  cell_is u d leads =
      let see = sees_cell d.object d.value in
      let trade = stores m r.partition u d d.value (looks r.partition u d leads) in
      let before = trade.before (cell_weight see) in
      let mine : one (same_object d.object d.object && same_owned d.value d.value) ≡ 1 = ap one (both (same_object d.object d.object) (same_owned d.value d.value) (objects.itself d.object) (owneds.itself d.value)) in
      let all = partition_counts see in
      let same = tot_same (cell_weight see) (shows d.object d.value) (cells_seen d.object d.value) (things_of c) in
      shown_there c after d.object d.value (omega (arith, before, mine, all, same))

  -- an object that lies there
  pub lies_is : (q : ObjNo) → 1 ≤ tot (lies_at m q) (partition_things m r.partition) → 1 ≤ tot (lies_at m q) (things_of c)
  lies_is q l =
      let see = sees_lying m q in
      let all = partition_counts see in
      let here = tot_same (cell_weight see) (lies_at m q) (lying_seen m q) (partition_things m r.partition) in
      let there = tot_same (cell_weight see) (lies_at m q) (lying_seen m q) (things_of c) in
      omega (arith, l, all, here, there)

  -- a message that was sent last
  pub sent_is : (r0 : Rest) (target : ℕ) (x : Message) → r ≡ sent_from r0 target x → r0.number ≡ m → (f : Thing → ℕ) → f (sent target x) ≤ tot f (things_of c)
  sent_is r0 target x is number f =
      let trade = of_sending m (o.server.events + 1) r0 number target x in
      let after_it = trade.after f in
      let same : tot f (rest_things m (o.server.events + 1) r) ≡ tot f (rest_things m (o.server.events + 1) (sent_from r0 target x)) = ap (λ q. tot f (rest_things m (o.server.events + 1) q)) is in
      let all = rest_counts f in
      omega (arith, after_it, same, all)
