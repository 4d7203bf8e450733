-- Each kind of event that is proved to leave the one heap.
use Rattle.std.proofs.Common.{◌≡◌, ℕ, Option, Some, None, refl, subst}
use Rattle.std.specs.Bool.{⊤}
use Rattle.std.specs.Prelude.{slice_get, option_map}
use Rattle.law_counts_sums.specs.Below.fr_base.declared.instruction.Instr.{Instr}
use Rattle.law_counts_sums.specs.Below.fr_base.declared.instruction.Instr.TheVariants as instr
use Rattle.law_counts_sums.specs.Below.fr_base.declared.release.Released.TheVariants as released_as
use Rattle.law_counts_sums.specs.Below.thread_state.View.{ThreadState}
use Rattle.law_counts_sums.specs.Below.server_msgs.declared.message.Message.{Message}
use Rattle.law_counts_sums.specs.Below.server_msgs.declared.message.Message.TheVariants as message
use Rattle.law_counts_sums.specs.Below.server_model.declared.event.What.{What}
use Rattle.law_counts_sums.specs.Below.server_model.declared.event.What.TheVariants.{Step, Deliver, Evict, Migrate}
use Rattle.law_counts_sums.specs.Below.server_model.Servers.{Server, Cluster, server_at}
use Rattle.law_counts_sums.specs.Below.server_model.Work.{thread_in, then_some}
use Rattle.law_counts_sums.specs.Below.server_model.Events.{does}
use Rattle.law_counts_sums.specs.Below.coherent_memory.Coherent.{IsSound}
use Rattle.law_counts_sums.specs.Kinds.{Kind, evicts, migrates, starts, arrives, fetch, fetched, moving, moved, asks_lock, asks_dup, asks_join, granted, dupped, joined, unlocked, released, finished, message_kind, instr_kind, kind_at}
use Rattle.law_counts_sums.specs.Laws.{Gives}
use Rattle.law_heap_still.specs.events.Laws.{LeaveHeap}
use Rattle.law_heap_still.proofs.events.Sites.{ServerStill, leaves_heap}
use Rattle.law_heap_still.proofs.events.Once.{shown_once}
use Rattle.law_heap_still.proofs.events.Evictions.{evictions}
use Rattle.law_heap_still.proofs.events.Arrivals.{starts as new_threads, parcels, migrations}
use Rattle.law_heap_still.proofs.events.Hands.{copies}
use Rattle.law_heap_still.proofs.events.Leaving.{moves}
use Rattle.law_heap_still.proofs.events.Coming.{objects_come}
use Rattle.law_heap_still.proofs.events.Requests.{fetches, locks, dups, joins}
use Rattle.law_heap_still.proofs.events.Given.{contents_come, shares_come, results_come}
use Rattle.law_heap_still.proofs.events.Ended.{threads_end}
use Rattle.law_heap_still.proofs.events.Back.{contents_back, share_dropped, task_released}

abbrev pub IsStill : Kind → Type 0
IsStill evicts = ⊤
IsStill migrates = ⊤
IsStill starts = ⊤
IsStill arrives = ⊤
IsStill fetch = ⊤
IsStill fetched = ⊤
IsStill moving = ⊤
IsStill moved = ⊤
IsStill asks_lock = ⊤
IsStill asks_dup = ⊤
IsStill asks_join = ⊤
IsStill granted = ⊤
IsStill dupped = ⊤
IsStill joined = ⊤
IsStill unlocked = ⊤
IsStill released = ⊤
IsStill finished = ⊤
IsStill kind = ⊥

some_same : {a b : Kind} → Some a ≡ Some b → b ≡ a
some_same e = cc

still_as : (a b : Kind) → Some a ≡ Some b → IsStill b → IsStill a
still_as a b q p = subst IsStill (some_same q) p

-- no step is one of these
no_step : (i : Instr) → IsStill (instr_kind i) → ⊥
no_step (instr.Let o) p = p
no_step (instr.Assign w o) p = p
no_step (instr.Read w t) p = p
no_step (instr.Borrow w) p = p
no_step (instr.BorrowMut w) p = p
no_step (instr.Box o) p = p
no_step (instr.Arith f a b) p = p
no_step (instr.Print o) p = p
no_step instr.Discard p = p
no_step instr.DropSlot p = p
no_step (instr.Spawn cs pc) p = p
no_step (instr.Join o) p = p
no_step (instr.Mutex o) p = p
no_step (instr.Dup w) p = p
no_step (instr.Lock w) p = p
no_step instr.Unlock p = p
no_step (instr.Par cs pc ds other) p = p
no_step instr.ParEnd p = p
no_step (instr.End o) p = p

module _ (k : Cluster) (sound : IsSound k) (number : ℕ) (s : Server) (here : server_at k.servers number ≡ Some s) where
  pub message_still : (i : ℕ) (m : Message) → slice_get s.rest.inbox i ≡ Some m → IsStill (message_kind m) → Gives (ServerStill k s) (does k.code k.options s (Deliver i))
  message_still i (message.Fetch w o a t) q p = fetches k s i w o a t q
  message_still i (message.Start t) q p = new_threads k s i t q
  message_still i (message.Migrate t) q p = parcels k s i t q
  message_still i (message.Fetched w c t) q p = copies k s i w c t q
  message_still i (message.Move w o a t) q p = moves k sound number s here i w o a t q
  message_still i (message.Moved w c t) q p = objects_come k sound number s here i w c t q
  message_still i (message.Drop w o) q p = absurd p
  message_still i (message.Lock m a t) q p = locks k s i m a t q
  message_still i (message.Granted m v t) q p = contents_come k sound number s here i m v t q
  message_still i (message.Unlock m v) q p = contents_back k sound number s here i m v q
  message_still i (message.Dup m a t) q p = dups k s i m a t q
  message_still i (message.Dupped m t) q p = shares_come k sound number s here i m t q
  message_still i (message.Release (released_as.Mutex m)) q p = share_dropped k sound number s here i m q
  message_still i (message.Release (released_as.Task u)) q p = task_released k sound number s here i u q
  message_still i (message.Join u a t) q p = joins k s i u a t q
  message_still i (message.Joined u v t) q p = results_come k sound number s here i u v t q
  message_still i (message.Finished u v) q p = threads_end k sound number s here i u v q

  module _ (kind : Kind) (p : IsStill kind) where
    of_message : (i : ℕ) (o : Option Message) → slice_get s.rest.inbox i ≡ o → option_map message_kind o ≡ Some kind → Gives (ServerStill k s) (does k.code k.options s (Deliver i))
    of_message i None h r = absurd (cc r)
    of_message i (Some m) h r = message_still i m h (still_as (message_kind m) kind r p)

    of_instr : {X : Type 0} (o : Option Instr) → option_map instr_kind o ≡ Some kind → X
    of_instr None r = absurd (cc r)
    of_instr (Some i) r = absurd (no_step i (still_as (instr_kind i) kind r p))

    of_thread : {X : Type 0} (o : Option ThreadState) → then_some o (λ x. option_map instr_kind (slice_get k.code x.pc)) ≡ Some kind → X
    of_thread None r = absurd (cc r)
    of_thread (Some x) r = of_instr (slice_get k.code x.pc) r

    pub server_still : (w : What) → kind_at k w s ≡ Some kind → Gives (ServerStill k s) (does k.code k.options s w)
    server_still (Step t) q = of_thread (thread_in s.threads t) q
    server_still (Deliver i) q = of_message i (slice_get s.rest.inbox i) refl q
    server_still (Evict w) q = evictions k s w
    server_still (Migrate t target) q = migrations k s t target

pub kind_leaves : (kind : Kind) → IsStill kind → LeaveHeap kind
kind_leaves kind p k e q sound few = leaves_heap shown_once k e sound few (λ s h on. server_still k sound e.server s h kind p e.what (subst (λ o. then_some o (kind_at k e.what) ≡ Some kind) h q))
