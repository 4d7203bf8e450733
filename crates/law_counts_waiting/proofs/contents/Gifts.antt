-- What the gift of a thread weighs: the mutex at the place of its lock, as places lead in a cluster. A content is granted where that mutex is asked for, and what a dup
-- and a join give weighs nothing.
use Rattle.std.proofs.Common.{◌≡◌, ℕ, Bool, true, false, is_some, Option, Some, None, refl, sym, ap, ap₂, ◌∙◌, arith}
use Rattle.std.specs.Prelude.{slice_get}
use Rattle.law_counts_waiting.specs.Below.fr_base.declared.name.MutexNo.{MutexNo}
use Rattle.law_counts_waiting.specs.Below.fr_base.declared.instruction.Instr.{Instr}
use Rattle.law_counts_waiting.specs.Below.fr_base.declared.instruction.Instr.TheVariants as instr
use Rattle.law_counts_waiting.specs.Below.heap_partition.declared.value.Owned.{Owned}
use Rattle.law_counts_waiting.specs.Below.thread_state.View.{ThreadState}
use Rattle.law_counts_waiting.specs.Below.thread_state.declared.phase.Phase.{Phase}
use Rattle.law_counts_waiting.specs.Below.thread_state.declared.phase.Phase.TheVariants as phase
use Rattle.law_counts_waiting.specs.Below.server_model.Servers.{Server, Cluster, server_at}
use Rattle.law_counts_waiting.specs.Below.server_model.Work.{thread_in}
use Rattle.law_counts_waiting.specs.Below.server_model.Sharing.{waits_for_lock, waits_for_dup}
use Rattle.law_counts_waiting.specs.Below.server_model.Joining.{waits_for_join}
use Rattle.law_counts_waiting.specs.Below.coherent_memory.Names.{other, if_so, same_mutex}
use Rattle.law_counts_waiting.specs.Below.coherent_memory.Follow.{Standing, Ground}
use Rattle.law_counts_waiting.specs.Below.coherent_memory.Sight.{sight}
use Rattle.law_counts_waiting.specs.Below.coherent_memory.Paths.{joined_thread}
use Rattle.law_counts_waiting.specs.Below.coherent_memory.Requests.{is_mutex, is_task, stands_wrong, locked_mutex, dupped_mutex}
use Rattle.law_counts_waiting.specs.Below.coherent_memory.Sharing.{some_mutex}
use Rattle.law_counts_waiting.specs.Below.coherent_memory.Coherent.{IsSound}
use Rattle.law_counts_waiting.proofs.Below.coherent_memory.Names.{same_mutexes}
use Rattle.law_counts_waiting.proofs.Below.law_counts_sums.GiftsTaken.{none_here}
use Rattle.law_counts_waiting.specs.Below.law_counts_asking.Standing.{locked}
use Rattle.law_counts_waiting.proofs.contents.Deliveries.{Gifts}

abbrev pub gift_of : (MutexNo → ℕ) → Cluster → ThreadState → ℕ
gift_of c k t = if_so (is_some t.gift) (some_mutex c (locked (sight k).ground t.number (slice_get k.code t.pc)))

-- a thread without a gift weighs nothing, nor does one elsewhere than at a lock
pub bare_gift : (c : MutexNo → ℕ) (k : Cluster) (t : ThreadState) → t.gift ≡ None → gift_of c k t ≡ 0
bare_gift c k t e = ap (λ (o : Option Owned). if_so (is_some o) (some_mutex c (locked (sight k).ground t.number (slice_get k.code t.pc)))) e

-- nothing, whether it is there or not
if_none : (b : Bool) → if_so b 0 ≡ 0
if_none true = refl
if_none false = refl

-- elsewhere than at a lock
pub unlocked_gift : (c : MutexNo → ℕ) (k : Cluster) (t : ThreadState) → locked (sight k).ground t.number (slice_get k.code t.pc) ≡ None → gift_of c k t ≡ 0
unlocked_gift c k t e = ap (λ o. if_so (is_some t.gift) (some_mutex c o)) e ∙ if_none (is_some t.gift)

module _ (k : Cluster) (sound : IsSound k) (number : ℕ) (s : Server) (here : server_at k.servers number ≡ Some s) (t : ℕ) (y : ThreadState) (at : thread_in s.threads t ≡ Some y) where
  abbrev me : Standing
  me = record { server = s.rest.number; packed = false; thread = y }

  abbrev G : Ground
  G = (sight k).ground

  abbrev its_lock : Option Instr → Option MutexNo
  its_lock i = locked G y.number i

  -- the thread stands where its phase says
  stand : stands_wrong (sight k) me y.phase ≡ 0
  stand = none_here k sound number s here t y at (λ x. stands_wrong (sight k) x x.thread.phase) sound.requests.phases_stand

  -- the mutex that is asked for
  mutex_is : (w : MutexNo) (o : Option MutexNo) → other (is_mutex w o) ≡ 0 → o ≡ Some w
  mutex_is w None z = absurd (cc z)
  mutex_is w (Some n) z = by (same_mutex w n) refl z
    where
      by : (b : Bool) → same_mutex w n ≡ b → other b ≡ 0 → Some n ≡ Some w
      by true e z = ap (λ i. Some i) (sym (same_mutexes w n e))
      by false e z = absurd (cc z)

  -- who waits for a content stands at a lock of that mutex
  at_lock : (w : MutexNo) (i : Option Instr) → other (is_mutex w (locked_mutex (sight k) me i)) ≡ 0 → its_lock i ≡ Some w
  at_lock w (Some (instr.Lock p)) z = mutex_is w (its_lock (Some (instr.Lock p))) z
  at_lock w i z = absurd (cc z)

  -- the lock of who waits for a content has that mutex
  pub lock_there : (p : Phase) (m : MutexNo) → waits_for_lock p m ≡ true → stands_wrong (sight k) me p ≡ 0 → its_lock (slice_get k.code y.pc) ≡ Some m
  lock_there (phase.WaitLock w) m on z = at_lock w (slice_get k.code y.pc) z ∙ ap (λ i. Some i) (same_mutexes w m on)
  lock_there _ m on z = absurd (cc on)

  -- who waits for a share, or for a result, at none
  at_dup : (w : MutexNo) (i : Option Instr) → other (is_mutex w (dupped_mutex (sight k) me i)) ≡ 0 → its_lock i ≡ None
  at_dup w (Some (instr.Dup p)) z = refl
  at_dup w i z = absurd (cc z)

  -- who waits for a share is at no lock
  pub dup_there : (p : Phase) (m : MutexNo) → waits_for_dup p m ≡ true → stands_wrong (sight k) me p ≡ 0 → its_lock (slice_get k.code y.pc) ≡ None
  dup_there (phase.WaitDup w) m on z = at_dup w (slice_get k.code y.pc) z
  dup_there _ m on z = absurd (cc on)

  -- a join is no lock
  at_join : (u : ℕ) (i : Option Instr) → other (is_task u (joined_thread i y)) ≡ 0 → its_lock i ≡ None
  at_join u (Some (instr.Join o)) z = refl
  at_join u i z = absurd (cc z)

  -- nor is who waits for a result
  pub join_there : (p : Phase) (u : ℕ) → waits_for_join p u ≡ true → stands_wrong (sight k) me p ≡ 0 → its_lock (slice_get k.code y.pc) ≡ None
  join_there (phase.WaitJoin w) u on z = at_join w (slice_get k.code y.pc) z
  join_there _ u on z = absurd (cc on)

-- so gifts weigh what is told of them
pub gifts : (c : MutexNo → ℕ) (k : Cluster) → IsSound k → (number : ℕ) (s : Server) → server_at k.servers number ≡ Some s → Gifts c s (gift_of c k)
gifts c k sound number s here = record {
  same = λ t t2 g p n.
      ap (λ (o : Option Owned). if_so (is_some o) (some_mutex c (locked (sight k).ground t2.number (slice_get k.code t2.pc)))) g ∙ ap₂ (λ i j. if_so (is_some t.gift) (some_mutex c (locked (sight k).ground j (slice_get k.code i)))) p n;
  granted = λ t y m v at on bare. omega (arith, bare_gift c k y bare, ap (some_mutex c) (lock_there k sound number s here t y at y.phase m on (stand k sound number s here t y at)));
  dupped = λ t y m v at on bare. omega (arith, bare_gift c k y bare, ap (some_mutex c) (dup_there k sound number s here t y at y.phase m on (stand k sound number s here t y at)));
  joined = λ t y u v at on bare. omega (arith, bare_gift c k y bare, ap (some_mutex c) (join_there k sound number s here t y at y.phase u on (stand k sound number s here t y at)));
}
