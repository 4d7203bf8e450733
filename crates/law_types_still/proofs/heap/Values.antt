-- What the one heap shows of a thread that goes on, value by value, and what its table knows of the thread.
use Rattle.std.proofs.Common.{◌≡◌, ℕ, Some, option_map, refl, ap, ◌∙◌}
use Rattle.std.specs.Prelude.{slice_get}
use Rattle.law_heap_still.specs.Below.heap_partition.Plain.{plain_of}
use Rattle.law_heap_still.specs.Below.heap_partition.declared.value.Owned.{Owned}
use Rattle.law_heap_still.specs.Below.heap_partition.declared.value.Owned.TheVariants as owned
use Rattle.law_heap_still.specs.Below.thread_state.declared.value.Value.{Value}
use Rattle.law_heap_still.specs.Below.thread_state.declared.value.Value.TheVariants as value
use Rattle.law_heap_still.specs.Below.server_model.Servers.{Cluster}
use Rattle.law_heap_still.specs.Below.fr_store.Keys.{slot_k, temp_k}
use Rattle.law_heap_still.specs.Below.fr_store.Store.{Location as StoreLocation, at_key, at_object, Val, gone_v, ref_v}
use Rattle.law_heap_still.specs.Below.fr_plain.State.{slot_at}
use Rattle.law_heap_still.specs.Below.fr_sound.Seen.{Gives, owned_val}
use Rattle.law_heap_still.specs.Below.fr_sound.States.{RunningTyped}
use Rattle.law_heap_still.specs.Below.fr_code.Steps.{Place}
use Rattle.law_heap_still.specs.Below.fr_code.TableStates.{KnownAt}
use Rattle.law_heap_still.specs.Below.coherent_memory.Follow.{Standing}
use Rattle.law_heap_still.specs.Below.coherent_memory.OneHeap.{one_heap, plain_value, running_at}
use Rattle.law_heap_still.specs.Below.law_words_paths.paths.HeapStore.{GoesOn}
use Rattle.law_heap_still.proofs.Below.law_words_paths.paths.Shown.{shown_value}
use Rattle.law_types_still.proofs.heap.Following.{HasHeap, heap_of, is_running}

-- a value of that thread in the store; the mark of a lock as what is given
abbrev pub seen_as : Gives → ℕ → Val → Value → Val
seen_as g t mark value.Gone = gone_v
seen_as g t mark (value.Own v) = owned_val g (plain_of v)
seen_as g t mark (value.SharedSlot i) = ref_v (at_key (slot_k t i))
seen_as g t mark (value.MutSlot i) = ref_v (at_key (slot_k t i))
seen_as g t mark (value.Shared r) = ref_v (at_object r.object)
seen_as g t mark (value.Mut r) = ref_v (at_object r.object)
seen_as g t mark (value.Held m) = mark

-- an owned value is no reference
pub no_ref : (g : Gives) (v : Owned) (l : StoreLocation) → owned_val g (plain_of v) ≡ ref_v l → ⊥
no_ref g owned.Nothing l e = absurd cc
no_ref g owned.Unit l e = absurd cc
no_ref g (owned.Int i) l e = absurd cc
no_ref g (owned.Box p) l e = absurd cc
no_ref g (owned.Mutex m) l e = absurd cc
no_ref g (owned.Task t) l e = absurd cc

module _ (k : Cluster) (c : HasHeap k) (x : Standing) (g : GoesOn k x) where
  abbrev n : ℕ
  n = x.thread.number

  pub slot_seen : (i : ℕ) (v : Value) → slice_get x.thread.slots i ≡ Some v → (heap_of k c).at (slot_k n i) ≡ seen_as c.typing.gives n (ref_v (c.typing.marks n i)) v
  slot_seen i value.Gone e = rw (is_running k c x g) (rw (shown_value x.thread.slots i) (rw e refl))
  slot_seen i (value.Own v) e = rw (is_running k c x g) (rw (shown_value x.thread.slots i) (rw e refl))
  slot_seen i (value.SharedSlot j) e = rw (is_running k c x g) (rw (shown_value x.thread.slots i) (rw e refl))
  slot_seen i (value.MutSlot j) e = rw (is_running k c x g) (rw (shown_value x.thread.slots i) (rw e refl))
  slot_seen i (value.Shared r) e = rw (is_running k c x g) (rw (shown_value x.thread.slots i) (rw e refl))
  slot_seen i (value.Mut r) e = rw (is_running k c x g) (rw (shown_value x.thread.slots i) (rw e refl))
  slot_seen i (value.Held m) e = rw (is_running k c x g) (rw (shown_value x.thread.slots i) (rw e refl))

  pub temp_seen : (i : ℕ) (v : Value) → slice_get x.thread.temps i ≡ Some v → (heap_of k c).at (temp_k n i) ≡ seen_as c.typing.gives n gone_v v
  temp_seen i value.Gone e = rw (is_running k c x g) (rw (shown_value x.thread.temps i) (rw e refl))
  temp_seen i (value.Own v) e = rw (is_running k c x g) (rw (shown_value x.thread.temps i) (rw e refl))
  temp_seen i (value.SharedSlot j) e = rw (is_running k c x g) (rw (shown_value x.thread.temps i) (rw e refl))
  temp_seen i (value.MutSlot j) e = rw (is_running k c x g) (rw (shown_value x.thread.temps i) (rw e refl))
  temp_seen i (value.Shared r) e = rw (is_running k c x g) (rw (shown_value x.thread.temps i) (rw e refl))
  temp_seen i (value.Mut r) e = rw (is_running k c x g) (rw (shown_value x.thread.temps i) (rw e refl))
  temp_seen i (value.Held m) e = rw (is_running k c x g) (rw (shown_value x.thread.temps i) (rw e refl))

  -- what typing knows of the thread
  pub running : RunningTyped (KnownAt c.table) (λ (p : Place). p.temps) c.typing (heap_of k c) n ((one_heap k).pair n) (running_at x.thread)
  running = c.state.threads n (running_at x.thread) (is_running k c x g)

  -- a mark of a lock in a slot
  pub held_shown : (i : ℕ) (v : Value) → slice_get x.thread.slots i ≡ Some v → slot_at (running_at x.thread).slots i ≡ Some (plain_value v)
  held_shown i v e = shown_value x.thread.slots i ∙ ap (option_map plain_value) e
