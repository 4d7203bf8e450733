-- A step that reads its place and asks for something leaves each cell, words included.
use Rattle.std.proofs.Common.{◌≡◌, ℕ, zero, suc, ◌+◌, ◌≤◌, ◌&&◌, Bool, true, false, Some, refl, sym, ap, subst, arith}
use Rattle.law_walks_others.specs.Below.fr_base.Names.{same_object}
use Rattle.law_walks_others.specs.Below.fr_base.declared.name.ObjNo.{ObjNo}
use Rattle.law_walks_others.specs.Below.fr_base.declared.place.Lval.{Lval}
use Rattle.law_walks_others.specs.Below.fr_base.declared.instruction.Instr.{Instr}
use Rattle.law_walks_others.specs.Below.heap_partition.Same.{same_owned}
use Rattle.law_walks_others.specs.Below.heap_partition.declared.value.Cell.{Cell}
use Rattle.law_walks_others.specs.Below.heap_partition.declared.value.Owned.{Owned}
use Rattle.law_walks_others.specs.Below.journal.View.{EntryView}
use Rattle.law_walks_others.specs.Below.server_msgs.declared.message.Message.TheVariants as message
use Rattle.law_walks_others.specs.Below.thread_state.View.{ThreadState}
use Rattle.law_walks_others.specs.Below.thread_state.declared.value.Value.TheVariants as value
use Rattle.law_walks_others.specs.Below.server_model.Servers.{Server, Cluster}
use Rattle.law_walks_others.specs.Below.server_model.Drop.{home_of}
use Rattle.law_walks_others.specs.Below.server_model.Work.{Hand}
use Rattle.law_walks_others.specs.Below.server_model.Places.{Spot}
use Rattle.law_walks_others.specs.Below.server_model.Prepare.{ReadTo, ready, requested, read_or_taken, access_of, prepare}
use Rattle.law_walks_others.specs.Below.server_model.Events.{Stepped, begin_work, wait_step}
use Rattle.law_walks_others.specs.Below.coherent_memory.Names.{tot, one}
use Rattle.law_walks_others.specs.Below.coherent_memory.Things.{Thing, things_of}
use Rattle.law_walks_others.specs.Below.coherent_memory.Follow.{cell_of, value_of}
use Rattle.law_walks_others.specs.Below.coherent_memory.Sight.{sight}
use Rattle.law_walks_others.proofs.Below.coherent_memory.Sums.{tot-append}
use Rattle.law_words_ends.specs.Below.law_words_paths.words.Reworded.{HasPlaces}
use Rattle.law_words_ends.proofs.Below.law_words_paths.words.Standing.{CellOf, lying, flying, cell_among}
use Rattle.law_walks_others.proofs.Below.law_counts_sums.Bags.{all_standing, rest_things, server_same, tot-without}
use Rattle.law_walks_others.proofs.Below.law_counts_sums.Events.{tot-server}
use Rattle.law_words_ends.specs.Below.law_words_kept.reads.Reading.{Reads, copies, shares, lends, dups, locks}
use Rattle.law_walks_others.proofs.Below.law_heap_still.events.Addresses.{InPlace, in_place}
use Rattle.law_walks_others.proofs.Below.law_heap_still.events.Leaving.{others, placed_here}
use Rattle.law_walks_others.proofs.Below.law_heap_still.events.Tests.{objects}
use Rattle.law_walks_others.proofs.Below.law_heap_still.events.Told.{tot_same}
use Rattle.law_walks_others.proofs.Below.law_counts_waiting.waits.Found.{among_weighs}
use Rattle.law_walks_others.proofs.pointers.Cells.{Seeing, cell_weight, amount, thread_seen, rest_seen}
use Rattle.law_walks_others.proofs.pointers.Ready as made
use Rattle.law_walks_others.proofs.pointers.Ready.{prepares}
use Rattle.law_walks_others.proofs.pointers.Still.{shows}
use Rattle.law_walks_others.proofs.pointers.Tests.{owneds}
use Rattle.law_walks_own.proofs.steps.Outcomes.{AsksHome, a_lock, a_dup, a_join}
use Rattle.law_walks_own.proofs.steps.Own.{Own, parts, shown_there}
use Rattle.law_walks_own.proofs.steps.There.{sees_cell, cells_seen}

-- the access of what reads passes nothing that is written
read_access : (w : Lval) (d : ℕ) → read_or_taken w d false ≡ ReadTo w
read_access w zero = refl
read_access w (suc d) = refl

module _ (see : Seeing) (n least : ℕ) (h : Hand) where
  aside : (i : Instr) (w : Lval) (m : ℕ) (y : ThreadState) → Reads i w m → made.Aside see n least (access_of i y) h
  aside _ w m y (copies e) = subst (λ a. made.Aside see n least (Some a) h) (sym (read_access w w.depth)) tt
  aside _ w m y (shares e) = tt
  aside _ w m y (lends e) = tt
  aside _ w m y (dups e) = tt
  aside _ w m y (locks e) = tt

  home_sends : (i : Instr) (h2 : Hand) → AsksHome i h h2 → made.Good see n least h → made.Good see n least h2
  home_sends i _ (a_lock w m e) g = made.sends see n least h.work.rest m.home (message.Lock m h.work.rest.number h.thread.number) g
  home_sends i _ (a_dup w m e) g = made.sends see n least h.work.rest m.home (message.Dup m h.work.rest.number h.thread.number) g
  home_sends i _ (a_join p u e) g = made.sends see n least h.work.rest (home_of u) (message.Join u h.work.rest.number h.thread.number) g

-- what was asked for on the way, or of a home once the place was ready
pub data AsksSo (i : Instr) (h0 : Hand) (h : Hand) : Type 0 where
  on_way : prepare (access_of i h0.thread) h0 ≡ requested h → AsksSo i h0 h
  at_end : (a : Hand) (s : Spot) → prepare (access_of i h0.thread) h0 ≡ ready a s → AsksHome i a h → AsksSo i h0 h

both : (p q : Bool) → p ≡ true → q ≡ true → (p && q) ≡ true
both true q a b = b
both false q a b = absurd (cc a)

module _ (k c : Cluster) (v : EntryView) (t : ℕ) (o : Own k c v t) (after : HasPlaces c) (w : Lval) (d : ℕ) (reads : Reads o.instruction w d) (h : Hand) (asked : AsksSo o.instruction (record { work = begin_work o.server.rest; thread = o.thread }) h) (is : o.result ≡ wait_step h) where
  abbrev s : Server
  s = o.server

  abbrev m : ℕ
  m = s.rest.number

  abbrev y : ThreadState
  y = o.thread

  abbrev h0 : Hand
  h0 = record { work = begin_work s.rest; thread = y }

  abbrev least : Seeing → ℕ
  least see = amount see m s.rest.partition s.rest.inbox s.rest.outbox

  placed : InPlace m s.rest.partition
  placed = let z = o.steps in in_place s.rest.number s.events s.rest (others k z.coherent.sound o.number s z.here) (placed_here k z.coherent.sound o.number s z.here)

  prepared_so : (see : Seeing) → made.Fine see m (least see) (prepare (access_of o.instruction y) h0)
  prepared_so see = prepares see m (least see) (access_of o.instruction y) h0 (aside see m (least see) h0 o.instruction w d y reads) ((refl, omega arith), placed)

  good : (see : Seeing) → made.Good see m (least see) h
  good see = by asked
    where
      by : AsksSo o.instruction h0 h → made.Good see m (least see) h
      by (on_way e) = subst (made.Fine see m (least see)) e (prepared_so see)
      by (at_end a sp e asks) = home_sends see m (least see) a o.instruction h asks (subst (made.Fine see m (least see)) e (prepared_so see))

  -- a weight that sees cells alone sees no less
  cells_stay : (q : ObjNo) (u : Owned) → tot (shows q u) (things_of k) ≤ tot (shows q u) (things_of c)
  cells_stay q u =
      let z = o.steps in
      let see : Seeing = sees_cell q u in
      let g : Thing → ℕ = λ x. cell_weight see x in
      let in_k = (tot-server g k.servers o.number s s z.here).0 in
      let whole = server_same s g in
      let split = tot-append g (all_standing m s.threads) (rest_things m s.events s.rest) in
      let without = tot-without m g s.threads t y z.at in
      let none = thread_seen see m false y in
      let rest = rest_seen see m s.events s.rest in
      let now = good see in
      let much = now.0.1 in
      let same : amount see m h.work.rest.partition h.work.rest.inbox h.work.rest.outbox ≡ amount see m o.result.hand.work.rest.partition o.result.hand.work.rest.inbox o.result.hand.work.rest.outbox =
      ap (λ (e : Stepped). amount see m e.hand.work.rest.partition e.hand.work.rest.inbox e.hand.work.rest.outbox) (sym is) in
      let rest2 = rest_seen see m (s.events + 1) o.result.hand.work.rest in
      let there = tot_same g (shows q u) (cells_seen q u) (things_of k) in
      let then = tot_same g (shows q u) (cells_seen q u) (things_of c) in
      let all = parts k c v t o after g in
      omega (arith, in_k, whole, split, without, none, rest, much, same, rest2, there, then, all)

  pub cell_stays : (q : ObjNo) (e : Cell) → cell_of (sight k).ground.cells q ≡ Some e → value_of (cell_of (sight c).ground.cells q) ≡ Some (value.Own e.value)
  cell_stays q e there =
      let a = cell_among q e (things_of k) there in
      let mine : shows q e.value a.thing ≡ 1 = weighs a.thing a.is a.object in
      let more = cells_stay q e.value in
      shown_there c after q e.value (omega (arith, more, mine, among_weighs (shows q e.value) a.thing (things_of k) a.among))
    where
      weighs : (x : Thing) → CellOf e x → e.object ≡ q → shows q e.value x ≡ 1
      weighs _ (lying b a) f = ap one (both (same_object e.object q) (same_owned e.value e.value) (subst (λ r. same_object e.object r ≡ true) f (objects.itself e.object)) (owneds.itself e.value))
      weighs _ (flying b) f = ap one (both (same_object e.object q) (same_owned e.value e.value) (subst (λ r. same_object e.object r ≡ true) f (objects.itself e.object)) (owneds.itself e.value))
