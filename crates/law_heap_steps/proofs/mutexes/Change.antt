-- All that is known of a thread's turn at a mutex, in one record, and what follows for the plain state.
use Rattle.std.proofs.Common.{◌≡◌, ◌≢◌, ℕ, ◌+◌, ◌≤◌, Bool, true, false, List, Option, Some, is_some}
use Rattle.std.specs.List.{AllByRecursion}
use Rattle.law_heap_steps.specs.Below.fr_base.declared.name.MutexNo.{MutexNo}
use Rattle.law_heap_steps.specs.Below.fr_base.declared.name.ObjNo.{ObjNo}
use Rattle.law_heap_steps.specs.Below.heap_partition.declared.value.Owned.{Owned}
use Rattle.law_heap_steps.specs.Below.thread_state.View.{ThreadState}
use Rattle.law_heap_steps.specs.Below.thread_state.declared.value.Value.{Value}
use Rattle.law_heap_steps.specs.Below.server_model.Servers.{Cluster}
use Rattle.law_heap_steps.specs.Below.coherent_memory.Names.{tot}
use Rattle.law_heap_steps.specs.Below.coherent_memory.Things.{Thing}
use Rattle.law_heap_steps.specs.Below.coherent_memory.Naming.{started_at}
use Rattle.law_heap_steps.specs.Below.coherent_memory.OneHeap.{Node, object_n, mutex_n, task_n, any_named, is_in_state, or_else, first_shown, object_value, content_value, result_value, share_in, is_given_thread, running_at, state_of}
use Rattle.law_heap_steps.proofs.Below.law_heap_still.events.Alike.{Once}
use Rattle.law_heap_steps.proofs.Below.law_heap_still.events.Counting.{shown_result}
use Rattle.law_heap_steps.proofs.Below.law_heap_still.events.Told.{told, ones}
use Rattle.law_heap_steps.proofs.turns.Parts.{owned_in}
use Rattle.law_heap_steps.proofs.turns.OneTurn.{of_thread, Calm, after}
use Rattle.law_heap_steps.proofs.mutexes.Reach.{NoneUnder, with_extra}
use Rattle.law_heap_steps.proofs.mutexes.Beside.{IsLoose}
use Rattle.law_heap_steps.proofs.mutexes.OneThread.{GoesOn, y, a, s, s2}
use Rattle.law_heap_steps.proofs.mutexes.OneMutex as one_mutex
use Rattle.law_heap_steps.proofs.mutexes.OneMutex.{new_share}
use Rattle.law_heap_steps.proofs.mutexes.OneNode.{named_under, owned_under}

-- the thread x at server n goes on; in the place of G comes G2, beside the others. Of mutex m this content was beside the thread and that one is so
-- afterwards, and it may have a new share; such nodes may be new in the state
pub record Change (k : Cluster) (R G G2 : List Thing) (n : ℕ) (x : ThreadState) (pc : ℕ) (slots temps : List Value) (m : MutexNo) (under under2 : Option Owned) (fresh : Bool) (extra : Node → Bool) : Type 0 where
  pub calm : Calm x.phase
  pub loose : AllByRecursion IsLoose G
  pub loose_then : AllByRecursion IsLoose G2
  pub lone : tot (of_thread x.number) R ≡ 0
  pub even : (q : Node) → owned_in q x.slots + owned_in q x.temps + owned_under q under + new_share fresh q m ≡ owned_in q slots + owned_in q temps + owned_under q under2
  pub named : (f : Node → Bool) (q : Node) → any_named (s k R G G2 n x (after x pc slots temps)) f q G ≡ named_under f q (mutex_n m) under
  pub named_then : (f : Node → Bool) (q : Node) → any_named (s2 k R G G2 n x (after x pc slots temps)) f q G2 ≡ named_under f q (mutex_n m) under2
  pub inside_it : is_some under ≡ true → is_in_state (s k R G G2 n x (after x pc slots temps)) (mutex_n m) ≡ true
  pub inside_then : is_some under2 ≡ true → is_in_state (s2 k R G G2 n x (after x pc slots temps)) (mutex_n m) ≡ true
  pub new_in : fresh ≡ true → with_extra (is_in_state (s k R G G2 n x (after x pc slots temps))) extra (mutex_n m) ≡ true
  pub extra_in : (q : Node) → extra q ≡ true → is_in_state (s2 k R G G2 n x (after x pc slots temps)) q ≡ true
  pub none : NoneUnder (s k R G G2 n x (after x pc slots temps)) extra R
  pub no_task : (u : ℕ) → extra (task_n u) ≡ false
  pub no_object : (o : ObjNo) → extra (object_n o) ≡ false
  pub no_other : (w : MutexNo) → w ≢ m → extra (mutex_n w) ≡ false
  pub results : (r : ℕ) → first_shown (result_value (s k R G G2 n x (after x pc slots temps)) r) G ≡ first_shown (result_value (s2 k R G G2 n x (after x pc slots temps)) r) G2
  pub started : (h c : ℕ) → tot (started_at h c) G ≡ tot (started_at h c) G2
  pub shares : (w : MutexNo) → tot (share_in (s k R G G2 n x (after x pc slots temps)) w) G ≡ owned_under (mutex_n w) under
  pub shares_then : (w : MutexNo) → tot (share_in (s2 k R G G2 n x (after x pc slots temps)) w) G2 ≡ owned_under (mutex_n w) under2
  pub contents : (w : MutexNo) → w ≢ m → first_shown (content_value (s k R G G2 n x (after x pc slots temps)) w) G ≡ first_shown (content_value (s2 k R G G2 n x (after x pc slots temps)) w) G2

module _ {k : Cluster} {R G G2 : List Thing} {n : ℕ} {x : ThreadState} {pc : ℕ} {slots temps : List Value} {m : MutexNo} {under under2 : Option Owned} {fresh : Bool} {extra : Node → Bool}
    (c : Change k R G G2 n x pc slots temps m under under2 fresh extra) where
  -- who is in the state afterwards
  pub in_afterwards : (q : Node) → is_in_state (s2 k R G G2 n x (after x pc slots temps)) q ≡ with_extra (is_in_state (s k R G G2 n x (after x pc slots temps))) extra q
  in_afterwards =
      one_mutex.in_then k R G G2 n x pc slots temps c.calm c.loose c.loose_then c.lone m under under2 fresh c.even c.named c.named_then c.inside_it c.inside_then extra c.new_in c.extra_in c.none

  -- the thread goes on
  pub thread_on : is_given_thread (s k R G G2 n x (after x pc slots temps)) x.number ≡ true
      → GoesOn x.number (running_at x) (running_at (y k R G G2 n x (after x pc slots temps))) (state_of (s k R G G2 n x (after x pc slots temps))) (state_of (s2 k R G G2 n x (after x pc slots temps)))
  thread_on =
      one_mutex.thread_goes k R G G2 n x pc slots temps c.calm c.loose c.loose_then c.lone m under under2 fresh c.even c.named c.named_then c.inside_it c.inside_then extra c.new_in c.extra_in c.none c.no_task c.no_object c.no_other c.results c.started c.shares c.shares_then c.contents

  pub made_on : (u : ℕ) → (state_of (s k R G G2 n x (after x pc slots temps))).made u ≡ (state_of (s2 k R G G2 n x (after x pc slots temps))).made u
  made_on = one_mutex.made_stays k R G G2 n x pc slots temps c.calm c.loose c.loose_then c.lone

  -- objects and other mutexes are as they were
  pub objects_on : (o : ObjNo) → object_value (s k R G G2 n x (after x pc slots temps)) o ≡ object_value (s2 k R G G2 n x (after x pc slots temps)) o
  objects_on =
      one_mutex.objects_stay k R G G2 n x pc slots temps c.calm c.loose c.loose_then c.lone m under under2 fresh c.even c.named c.named_then c.inside_it c.inside_then extra c.new_in c.extra_in c.none c.no_task c.no_object c.no_other c.results c.started c.shares c.shares_then c.contents

  pub mutexes_on : (w : MutexNo) → w ≢ m → (state_of (s k R G G2 n x (after x pc slots temps))).mutex w ≡ (state_of (s2 k R G G2 n x (after x pc slots temps))).mutex w
  mutexes_on =
      one_mutex.others_stay k R G G2 n x pc slots temps c.calm c.loose c.loose_then c.lone m under under2 fresh c.even c.named c.named_then c.inside_it c.inside_then extra c.new_in c.extra_in c.none c.no_task c.no_object c.no_other c.results c.started c.shares c.shares_then c.contents

  -- the mutex, before and afterwards
  pub before_it : is_in_state (s k R G G2 n x (after x pc slots temps)) (mutex_n m) ≡ true
      → (state_of (s k R G G2 n x (after x pc slots temps))).mutex m
      ≡ Some (record { content = or_else (first_shown (content_value (s k R G G2 n x (after x pc slots temps)) m) G) (first_shown (content_value (s k R G G2 n x (after x pc slots temps)) m) R); shares = tot (share_in (s k R G G2 n x (after x pc slots temps)) m) (a k R G G2 n x (after x pc slots temps)) })
  before_it =
      one_mutex.it_before k R G G2 n x pc slots temps c.calm c.loose c.loose_then c.lone m under under2 fresh c.even c.named c.named_then c.inside_it c.inside_then extra c.new_in c.extra_in c.none c.no_task c.no_object c.no_other c.results c.started c.shares c.shares_then c.contents

  pub after_it : is_in_state (s2 k R G G2 n x (after x pc slots temps)) (mutex_n m) ≡ true
      → (state_of (s2 k R G G2 n x (after x pc slots temps))).mutex m
      ≡ Some (record { content = or_else (first_shown (content_value (s2 k R G G2 n x (after x pc slots temps)) m) G2) (first_shown (content_value (s k R G G2 n x (after x pc slots temps)) m) R); shares = tot (share_in (s k R G G2 n x (after x pc slots temps)) m) (a k R G G2 n x (after x pc slots temps)) + new_share fresh (mutex_n m) m })
  after_it =
      one_mutex.it_then k R G G2 n x pc slots temps c.calm c.loose c.loose_then c.lone m under under2 fresh c.even c.named c.named_then c.inside_it c.inside_then extra c.new_in c.extra_in c.none c.no_task c.no_object c.no_other c.results c.started c.shares c.shares_then c.contents

  -- what is shown once stays so
  pub once_on : Once (s k R G G2 n x (after x pc slots temps))
      → ((w : MutexNo) → tot (λ v. told ones (content_value (s2 k R G G2 n x (after x pc slots temps)) w v)) G2 + tot (λ v. told ones (content_value (s k R G G2 n x (after x pc slots temps)) w v)) R ≤ 1)
      → ((r : ℕ) → tot (λ v. told ones (shown_result (s2 k R G G2 n x (after x pc slots temps)) r v)) G2 ≡ 0) → Once (s2 k R G G2 n x (after x pc slots temps))
  once_on = one_mutex.once_then k R G G2 n x pc slots temps c.calm c.loose c.loose_then c.lone
