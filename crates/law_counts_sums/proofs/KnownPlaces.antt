-- Putting values and words where a place leads: what the thread and its server name stays known, and nothing is sent.
use Rattle.std.proofs.Common.{◌≡◌, ℕ, nat_lt, List, [], ◌∷◌, length, Option, Some, None, refl, subst}
use Rattle.std.specs.Prelude.{slice_get, slice_set}
use Rattle.std.specs.List.{AllByRecursion}
use Rattle.coherent_memory.specs.Below.heap_partition.declared.value.BoxPtr.{BoxPtr}
use Rattle.coherent_memory.specs.Below.heap_partition.declared.value.Cell.{Cell}
use Rattle.coherent_memory.specs.Below.heap_partition.declared.value.Owned.{Owned}
use Rattle.coherent_memory.specs.Below.heap_partition.declared.value.Owned.TheVariants as owned
use Rattle.coherent_memory.specs.Below.global_addr.Words.{server_of, address_of}
use Rattle.coherent_memory.specs.Below.owner_box.View.{PartitionState}
use Rattle.coherent_memory.specs.Below.owner_box.Partition.{stored}
use Rattle.coherent_memory.specs.Below.read_cache.Cache.{Copy, copy_of, cell_in}
use Rattle.coherent_memory.specs.Below.mutex_home.Mutexes.{Mutexes}
use Rattle.coherent_memory.specs.Below.join_home.Tasks.{Task}
use Rattle.coherent_memory.specs.Below.thread_state.declared.phase.Phase.{Phase}
use Rattle.coherent_memory.specs.Below.server_msgs.declared.message.Message.{Message}
use Rattle.coherent_memory.specs.Below.thread_state.declared.value.Value.{Value}
use Rattle.coherent_memory.specs.Below.thread_state.declared.value.Value.TheVariants as value
use Rattle.coherent_memory.specs.Below.server_model.Servers.{Sent, Server}
use Rattle.coherent_memory.specs.Below.server_model.Work.{Hand, with_partition, look, leads_here, working, with_slots, front_of}
use Rattle.coherent_memory.specs.Below.server_model.Places.{Spot, in_slot, on_top, in_cell, in_copy, nowhere, value_in, value_at, written, note_slot, note_write, put_at, pointer_of, with_word, set_pointer}
use Rattle.law_counts_sums.specs.Laws.{Gives}
use Rattle.law_counts_sums.proofs.Results.{then_gives, test_gives}
use Rattle.law_counts_sums.proofs.Cells.{looked}
use Rattle.law_counts_sums.proofs.Known.{Here, ValueKnown, CellKnown, CopyKnown, Known, all_at, all_set, all_append, all_take, stored_known, copy_known}

some_same : {a b : Value} → Some a ≡ Some b → a ≡ b
some_same e = cc

module _ (ss : List Server) where
  -- what the hand of an event names is known
  abbrev pub KnownHand : Hand → Type 0
  KnownHand h = Known ss h.thread.home h.thread.slots h.thread.temps h.work.rest.partition h.work.rest.cache

  -- WHAT STANDS AT A SPOT

  in_known : (c : Option Cell) (v : Value) → CellKnown ss c → value_in c ≡ Some v → ValueKnown ss v
  in_known None v k e = absurd (cc e)
  in_known (Some c) v k e = subst (ValueKnown ss) (some_same e) k

  pub looked_known : (p : PartitionState) (w : ℕ) → AllByRecursion (CellKnown ss) p.cells → CellKnown ss (look p w)
  looked_known p w a = by (look p w) refl
    where
      by : (c : Option Cell) → look p w ≡ c → CellKnown ss c
      by None q = tt
      by (Some c) q = all_at (CellKnown ss) p.cells (address_of w) (Some c) a (looked p w c q)

  copied_known : (c : Option Copy) → Gives (CopyKnown ss) c → CellKnown ss (cell_in c)
  copied_known None k = tt
  copied_known (Some c) k = k

  pub spot_known : (s : Spot) (h : Hand) (v : Value) → KnownHand h → value_at h s ≡ Some v → ValueKnown ss v
  spot_known (in_slot i) h v g e = all_at (ValueKnown ss) h.thread.slots i v g.slots_known e
  spot_known on_top h v g e = all_at (ValueKnown ss) h.thread.temps _ v g.temps_known e
  spot_known (in_cell w through) h v g e = in_known (look h.work.rest.partition w) v (looked_known h.work.rest.partition w g.partition_known.cells_known) e
  spot_known (in_copy w) h v g e = in_known (cell_in (copy_of h.work.rest.cache w)) v (copied_known (copy_of h.work.rest.cache w) (copy_known ss h.work.rest.cache w g.copies_known)) e
  spot_known nowhere h v g e = absurd (cc e)

  pub pointer_known : (v : Value) → ValueKnown ss v → Gives (λ (p : BoxPtr). Here ss (server_of p.word)) (pointer_of v)
  pointer_known (value.Own (owned.Box p)) k = k
  pointer_known (value.Shared r) k = k
  pointer_known (value.Mut r) k = k
  pointer_known _ k = tt

  -- PUTTING VALUES

  written_known : (v : Value) → ValueKnown ss v → ValueKnown ss (written v)
  written_known (value.Mut r) k = k
  written_known value.Gone k = k
  written_known (value.Own v) k = k
  written_known (value.SharedSlot i) k = k
  written_known (value.MutSlot i) k = k
  written_known (value.Shared r) k = k
  written_known (value.Held m) k = k

  slots_put : (vs : List Value) (h : Hand) → AllByRecursion (ValueKnown ss) vs → KnownHand h → KnownHand (with_slots vs h)
  slots_put vs h a g = record { home_here = g.home_here; slots_known = a; temps_known = g.temps_known; partition_known = g.partition_known; copies_known = g.copies_known }

  notes_known : (through : Option ℕ) (h : Hand) → KnownHand h → KnownHand (note_write through h)
  notes_known None h g = g
  notes_known (Some i) h g = by (slice_get h.thread.slots i) refl
    where
      by : (o : Option Value) → slice_get h.thread.slots i ≡ o → KnownHand (with_slots (note_slot h.thread.slots i o) h)
      by None q = g
      by (Some v) q = slots_put (slice_set h.thread.slots i (written v)) h (all_set (ValueKnown ss) h.thread.slots i (written v) g.slots_known (written_known v (all_at (ValueKnown ss) h.thread.slots i v g.slots_known q))) g

  pub put_known : (s : Spot) (v : Value) (h : Hand) → ValueKnown ss v → KnownHand h → Gives KnownHand (put_at s v h)
  put_known (in_slot i) v h k g = test_gives KnownHand (nat_lt i (length h.thread.slots)) _ (λ on. slots_put (slice_set h.thread.slots i v) h (all_set (ValueKnown ss) h.thread.slots i v g.slots_known k) g)
  put_known on_top v h k g = record {
    home_here = g.home_here;
    slots_known = g.slots_known;
    temps_known = all_append (ValueKnown ss) (front_of h.thread.temps) (v ∷ []) (all_take (ValueKnown ss) _ h.thread.temps g.temps_known) (k, tt);
    partition_known = g.partition_known;
    copies_known = g.copies_known;
  }
  put_known (in_cell w through) (value.Own v) h k g =
      let p = h.work.rest.partition in
      test_gives KnownHand (leads_here p w) _ (λ on. notes_known through (working (with_partition (stored p w v)) h) (record {
        home_here = g.home_here;
        slots_known = g.slots_known;
        temps_known = g.temps_known;
        partition_known = stored_known ss p w v k g.partition_known;
        copies_known = g.copies_known;
      }))
  put_known (in_cell w through) value.Gone h k g = tt
  put_known (in_cell w through) (value.SharedSlot i) h k g = tt
  put_known (in_cell w through) (value.MutSlot i) h k g = tt
  put_known (in_cell w through) (value.Shared i) h k g = tt
  put_known (in_cell w through) (value.Mut i) h k g = tt
  put_known (in_cell w through) (value.Held i) h k g = tt
  put_known (in_copy w) v h k g = tt
  put_known nowhere v h k g = tt

  -- POINTERS

  worded_known : (w : ℕ) (v new : Value) → Here ss (server_of w) → with_word w v ≡ Some new → ValueKnown ss new
  worded_known w (value.Own (owned.Box b)) new k e = subst (ValueKnown ss) (some_same e) k
  worded_known w (value.Mut r) new k e = subst (ValueKnown ss) (some_same e) k
  worded_known w v new k e = absurd (cc e)

  pub pointer_put : (s : Spot) (w : ℕ) (h : Hand) → Here ss (server_of w) → KnownHand h → Gives KnownHand (set_pointer s w h)
  pointer_put s w h k g = then_gives KnownHand (value_at h s) _ (λ v q. then_gives KnownHand (with_word w v) _ (λ new e. put_known s new h (worded_known w v new k e) g))

-- WHAT MAKING A PLACE READY LEAVES ALONE

-- what may hold of the phase, the number, the gift and the place in the code of a thread, and of the number, the messages, the mutexes, the tasks and the count of started threads of its server
abbrev pub Told : Type 1
Told = Phase → ℕ → Option Owned → ℕ → ℕ → List Message → List Sent → Mutexes → List Task → ℕ → Type 0

module _ (q : Told) where
  abbrev pub Holds : Hand → Type 0
  Holds h = q h.thread.phase h.thread.number h.thread.gift h.thread.pc h.work.rest.number h.work.rest.inbox h.work.rest.outbox h.work.rest.mutexes h.work.rest.tasks h.work.rest.started

  pub put_keeps : (s : Spot) (v : Value) (h : Hand) → Holds h → Gives Holds (put_at s v h)
  put_keeps (in_slot i) v h a = test_gives Holds (nat_lt i (length h.thread.slots)) _ (λ on. a)
  put_keeps on_top v h a = a
  put_keeps (in_cell w through) (value.Own v) h a = test_gives Holds (leads_here h.work.rest.partition w) _ (λ on. noted through)
    where
      noted : (o : Option ℕ) → Holds (note_write o (working (with_partition (stored h.work.rest.partition w v)) h))
      noted None = a
      noted (Some i) = a
  put_keeps (in_cell w through) value.Gone h a = tt
  put_keeps (in_cell w through) (value.SharedSlot i) h a = tt
  put_keeps (in_cell w through) (value.MutSlot i) h a = tt
  put_keeps (in_cell w through) (value.Shared i) h a = tt
  put_keeps (in_cell w through) (value.Mut i) h a = tt
  put_keeps (in_cell w through) (value.Held i) h a = tt
  put_keeps (in_copy w) v h a = tt
  put_keeps nowhere v h a = tt

  pub pointer_keeps : (s : Spot) (w : ℕ) (h : Hand) → Holds h → Gives Holds (set_pointer s w h)
  pointer_keeps s w h a = then_gives Holds (value_at h s) _ (λ v q. then_gives Holds (with_word w v) _ (λ new e. put_keeps s new h a))
