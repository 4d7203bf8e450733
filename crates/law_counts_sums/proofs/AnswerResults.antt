-- In a sound cluster the delivery of a content, of a share or of a result has a result: its thread is here, waits for it and has no gift.
use Rattle.std.proofs.Common.{◌≡◌, ℕ, ◌==◌, ◌&&◌, not, is_some, Bool, true, false, if◌then◌else◌, Option, Some, None, IsSome, refl, sym, subst, arith}
use Rattle.std.specs.Prelude.{slice_get, option_map}
use Rattle.std.proofs.lemmas.Bool.{eq-eqb, eqb-true}
use Rattle.coherent_memory.specs.Below.fr_base.declared.name.MutexNo.{MutexNo}
use Rattle.coherent_memory.specs.Below.fr_base.Names.{same_mutex}
use Rattle.coherent_memory.specs.Below.heap_partition.declared.value.Owned.{Owned}
use Rattle.coherent_memory.specs.Below.heap_partition.declared.value.Owned.TheVariants as owned
use Rattle.coherent_memory.specs.Below.thread_state.View.{ThreadState}
use Rattle.coherent_memory.specs.Below.thread_state.declared.phase.Phase.{Phase}
use Rattle.coherent_memory.specs.Below.thread_state.declared.phase.Phase.TheVariants as phase
use Rattle.coherent_memory.specs.Below.server_msgs.declared.message.Message.{Message}
use Rattle.coherent_memory.specs.Below.server_msgs.declared.message.Message.TheVariants as message
use Rattle.coherent_memory.specs.Below.server_model.Servers.{Server, Cluster, server_at}
use Rattle.coherent_memory.specs.Below.server_model.Work.{Hand, put_back, then_some, thread_in, at_thread}
use Rattle.coherent_memory.specs.Below.server_model.Sharing.{given, waits_for_lock, deliver_granted, waits_for_dup, deliver_dupped}
use Rattle.coherent_memory.specs.Below.server_model.Joining.{waits_for_join, deliver_joined}
use Rattle.coherent_memory.specs.Below.server_model.Events.{received}
use Rattle.coherent_memory.specs.Names.{tot, other}
use Rattle.coherent_memory.specs.Things.{Thing, sent, message_things, things_of}
use Rattle.coherent_memory.specs.Follow.{threads_in, thread_at}
use Rattle.coherent_memory.specs.Sight.{sight}
use Rattle.coherent_memory.specs.Walking.{is_ready}
use Rattle.coherent_memory.specs.Requests.{is_got, is_lock, is_dup, is_join, in_server, in_phase, carries, lost}
use Rattle.coherent_memory.specs.Coherent.{IsSound}
use Rattle.coherent_memory.proofs.Names.{and_left, and_right, same_mutexes}
use Rattle.coherent_memory.proofs.Sums.{server_parts}
use Rattle.law_counts_sums.specs.Laws.{AnswersHaveResults}
use Rattle.law_counts_sums.proofs.Trades.{tot-remove}
use Rattle.law_counts_sums.proofs.Events.{tot-server}
use Rattle.law_counts_sums.proofs.Askers.{other_none}
use Rattle.law_counts_sums.proofs.HaveResults.{some_map, arrives}
use Rattle.law_counts_sums.proofs.StandsHere.{Here, IsWaiting, is_bare, stands_here}

-- WHAT EACH WAITS FOR

lock_waits : (m : MutexNo) → IsWaiting (is_lock m)
lock_waits m = record { unready = by; ungot = by2 }
  where
    by : (p : Phase) → is_lock m p ≡ true → is_ready p ≡ false
    by (phase.WaitLock n) e = refl
    by _ e = absurd (cc e)

    by2 : (p : Phase) → is_lock m p ≡ true → is_got p ≡ false
    by2 (phase.WaitLock n) e = refl
    by2 _ e = absurd (cc e)

dup_waits : (m : MutexNo) → IsWaiting (is_dup m)
dup_waits m = record { unready = by; ungot = by2 }
  where
    by : (p : Phase) → is_dup m p ≡ true → is_ready p ≡ false
    by (phase.WaitDup n) e = refl
    by _ e = absurd (cc e)

    by2 : (p : Phase) → is_dup m p ≡ true → is_got p ≡ false
    by2 (phase.WaitDup n) e = refl
    by2 _ e = absurd (cc e)

join_waits : (u : ℕ) → IsWaiting (is_join u)
join_waits u = record { unready = by; ungot = by2 }
  where
    by : (p : Phase) → is_join u p ≡ true → is_ready p ≡ false
    by (phase.WaitJoin n) e = refl
    by _ e = absurd (cc e)

    by2 : (p : Phase) → is_join u p ≡ true → is_got p ≡ false
    by2 (phase.WaitJoin n) e = refl
    by2 _ e = absurd (cc e)

turned : (m n : MutexNo) → same_mutex m n ≡ true → same_mutex n m ≡ true
turned m n e =
    let same = same_mutexes m n e in
    subst (λ k. same_mutex n k ≡ true) (sym same) (subst (λ k. same_mutex k n ≡ true) same e)

waits_lock : (p : Phase) (m : MutexNo) → is_lock m p ≡ true → waits_for_lock p m ≡ true
waits_lock (phase.WaitLock n) m e = turned m n e
waits_lock _ m e = absurd (cc e)

waits_dup : (p : Phase) (m : MutexNo) → is_dup m p ≡ true → waits_for_dup p m ≡ true
waits_dup (phase.WaitDup n) m e = turned m n e
waits_dup _ m e = absurd (cc e)

waits_join : (p : Phase) (u : ℕ) → is_join u p ≡ true → waits_for_join p u ≡ true
waits_join (phase.WaitJoin x) u e = let same : u ≡ x = eqb-true u x e in eq-eqb x u (sym same)
waits_join _ u e = absurd (cc e)

-- A GIFT IS TAKEN IN

no_gift : (g : Option Owned) → not (is_some g) ≡ true → g ≡ None
no_gift None e = refl
no_gift (Some v) e = absurd (cc e)

gives : (b : Bool) (v : Owned) (g : Option Owned) (h : Hand) → b ≡ true → g ≡ None → IsSome (if b then given v g h else None)
gives true v None h e q = refl
gives true v (Some u) h e q = absurd (cc q)
gives false v g h e q = absurd (cc e)

pub at_it : (s : Server) (i t : ℕ) (f : Hand → Option Hand) (y : ThreadState) → thread_in s.threads t ≡ Some y → IsSome (f (record { work = (received i s).work; thread = y })) → IsSome (at_thread t f (received i s))
at_it s i t f y e h =
    subst (λ o. IsSome (then_some (option_map (λ z. record { work = (received i s).work; thread = z }) o) (λ z. option_map (put_back s.threads) (f z)))) (sym e)
    (some_map (put_back s.threads) (f (record { work = (received i s).work; thread = y })) h)

-- IN A SOUND CLUSTER

module _ (k : Cluster) (sound : IsSound k) (number i : ℕ) (s : Server) (here : server_at k.servers number ≡ Some s) where
  abbrev n : ℕ
  n = s.rest.number

  sees : (g : Thing → ℕ) (m : Message) → tot g (things_of k) ≡ 0 → slice_get s.rest.inbox i ≡ Some m → g (sent n m) ≡ 0
  sees g m z q = omega (arith, z, (tot-server g k.servers number s s here).0, server_parts g s, tot-remove (λ x. message_things n x) g 0 s.rest.inbox i m q)

  -- the thread of the answer, where it stands
  stands : (m : Message) (t : ℕ) (f : Phase → Bool) → IsWaiting f → slice_get s.rest.inbox i ≡ Some m
      → carries (sight k) (sent n m) ≡ other (in_phase f (thread_at (threads_in (things_of k)) t)) → lost (sight k) (sent n m) ≡ other (in_server n (thread_at (threads_in (things_of k)) t)) → Here n t f s.threads
  stands m t f waiting q fits comes =
      let a : carries (sight k) (sent n m) ≡ 0 = sees (carries (sight k)) m sound.requests.carry_what_is_asked q in
      let b : lost (sight k) (sent n m) ≡ 0 = sees (lost (sight k)) m sound.requests.return_right q in
      stands_here k sound number s here t f waiting (other_none (in_server n (thread_at (threads_in (things_of k)) t)) (omega (arith, comes, b))) (other_none (in_phase f (thread_at (threads_in (things_of k)) t)) (omega (arith, fits, a)))

  -- it waits, and has no gift
  waits_bare : (f : Phase → Bool) (y : ThreadState) → is_bare n f n false y ≡ true → (f y.phase ≡ true) × (y.gift ≡ None)
  waits_bare f y e =
      let both = and_right (n == n) (true && (f y.phase && not (is_some y.gift))) e in
      (and_left (f y.phase) (not (is_some y.gift)) both, no_gift y.gift (and_right (f y.phase) (not (is_some y.gift)) both))

pub answers_have_results : AnswersHaveResults
answers_have_results = record {
  grants = λ k number i s m v t sound here on q.
      let it = stands k sound number i s here (message.Granted m v t) t (is_lock m) (lock_waits m) q refl refl in
      let bare = waits_bare k sound number i s here (is_lock m) it.0 it.2 in
      arrives k number i s (message.Granted m v t) here on q (at_it s i t (deliver_granted m v) it.0 it.1 (gives (waits_for_lock it.0.phase m) v it.0.gift (record { work = (received i s).work; thread = it.0 }) (waits_lock it.0.phase m bare.0) bare.1));
  shares = λ k number i s m t sound here on q.
      let it = stands k sound number i s here (message.Dupped m t) t (is_dup m) (dup_waits m) q refl refl in
      let bare = waits_bare k sound number i s here (is_dup m) it.0 it.2 in
      arrives k number i s (message.Dupped m t) here on q
      (at_it s i t (deliver_dupped m) it.0 it.1 (gives (waits_for_dup it.0.phase m) (owned.Mutex m) it.0.gift (record { work = (received i s).work; thread = it.0 }) (waits_dup it.0.phase m bare.0) bare.1));
  joins = λ k number i s u v t sound here on q.
      let it = stands k sound number i s here (message.Joined u v t) t (is_join u) (join_waits u) q refl refl in
      let bare = waits_bare k sound number i s here (is_join u) it.0 it.2 in
      arrives k number i s (message.Joined u v t) here on q (at_it s i t (deliver_joined u v) it.0 it.1 (gives (waits_for_join it.0.phase u) v it.0.gift (record { work = (received i s).work; thread = it.0 }) (waits_join it.0.phase u bare.0) bare.1));
}
