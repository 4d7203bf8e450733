-- In a sound cluster with few events the delivery of a `dup` has a result: the mutex is there with a share, and not too many.
use Rattle.std.proofs.Common.{◌≡◌, ℕ, ◌+◌, ◌*◌, ◌-◌, ◌^◌, ◌≤◌, ◌<◌, ◌&&◌, nat_lt, Bool, true, false, if◌then◌else◌, Option, Some, None, IsSome, refl, sym, ap, subst, arith}
use Rattle.std.specs.Prelude.{slice_get}
use Rattle.std.proofs.lemmas.Bool.Decides.{nat_tests}
use Rattle.coherent_memory.specs.Below.fr_base.declared.name.MutexNo.{MutexNo}
use Rattle.coherent_memory.specs.Below.fr_base.declared.instruction.Instr.{Instr}
use Rattle.coherent_memory.specs.Below.fr_base.declared.instruction.Instr.TheVariants as instr
use Rattle.coherent_memory.specs.Below.heap_partition.declared.value.Owned.TheVariants as owned
use Rattle.coherent_memory.specs.Below.mutex_home.Mutexes.{Mutex, mutex_in, put_mutex, more_in}
use Rattle.coherent_memory.specs.Below.thread_state.declared.value.Value.{Value}
use Rattle.coherent_memory.specs.Below.thread_state.declared.value.Value.TheVariants as value
use Rattle.coherent_memory.specs.Below.thread_state.declared.phase.Phase.{Phase}
use Rattle.coherent_memory.specs.Below.thread_state.declared.phase.Phase.TheVariants as phase
use Rattle.coherent_memory.specs.Below.server_msgs.declared.message.Message.TheVariants as message
use Rattle.coherent_memory.specs.Below.server_model.Servers.{Server, Cluster, server_at}
use Rattle.coherent_memory.specs.Names.{tot, one, other, same_mutex, mutex_values}
use Rattle.coherent_memory.specs.Things.{things_of}
use Rattle.coherent_memory.specs.Follow.{Standing, threads_in, thread_at, place_at, value_at}
use Rattle.coherent_memory.specs.Sight.{sight}
use Rattle.coherent_memory.specs.Weights.{shares_of}
use Rattle.coherent_memory.specs.Walking.{instr_of}
use Rattle.coherent_memory.specs.Requests.{in_phase, is_dup, is_mutex, carries, mutex_of, dupped_mutex, stands_wrong}
use Rattle.coherent_memory.specs.Naming.{events_of, large_counts, above}
use Rattle.coherent_memory.specs.Coherent.{IsSound}
use Rattle.coherent_memory.proofs.Names.{same_mutexes}
use Rattle.coherent_memory.proofs.Sums.{server_parts}
use Rattle.law_counts_sums.specs.Laws.{FewEvents, DupsHaveResults}
use Rattle.law_counts_sums.proofs.Events.{tot-server}
use Rattle.law_counts_sums.proofs.MutexLists.{mutex_goes}
use Rattle.law_counts_sums.proofs.Each.{at_most}
use Rattle.law_counts_sums.proofs.Askers.{other_none}
use Rattle.law_counts_sums.proofs.HaveResults.{some_map, arrives}
use Rattle.law_counts_sums.proofs.StandsHere.{found_none}
use Rattle.law_counts_sums.proofs.ValuesThere.{value_there}
use Rattle.law_counts_sums.proofs.MutexResults.{mutex_self, mutex_weighs, has, home, same_shares, some_share}

-- the mutex for which the thread waits
waits_for : (m : MutexNo) (p : Phase) → is_dup m p ≡ true → p ≡ phase.WaitDup m
waits_for m (phase.WaitDup w) e = ap (λ x. phase.WaitDup x) (sym (same_mutexes m w e))
waits_for m _ e = absurd (cc e)

mutex_is : (m : MutexNo) (o : Option MutexNo) → other (is_mutex m o) ≡ 0 → o ≡ Some m
mutex_is m None z = absurd (cc z)
mutex_is m (Some w) z = by (same_mutex m w) refl z
  where
    by : (b : Bool) → same_mutex m w ≡ b → other b ≡ 0 → Some w ≡ Some m
    by true e z = ap (λ x. Some x) (sym (same_mutexes m w e))
    by false e z = absurd (cc z)

own_mutex : (m : MutexNo) (v : Option Value) → mutex_of v ≡ Some m → v ≡ Some (value.Own (owned.Mutex m))
own_mutex m (Some (value.Own (owned.Mutex w))) e = let same : w ≡ m = cc e in ap (λ x. Some (value.Own (owned.Mutex x))) same
own_mutex m _ e = absurd (cc e)

module _ (k : Cluster) (sound : IsSound k) where
  -- a thread stands where a value of it is
  at_place : (m : MutexNo) (x : Standing) (i : Option Instr) → dupped_mutex (sight k) x i ≡ Some m → 1 ≤ tot (shares_of m) (things_of k)
  at_place m x (Some (instr.Dup w)) e =
      let l = value_there (shares_of m) (mutex_values m) (record { outside = λ p v. refl; lying = λ s a c. refl; flying = λ w c. refl }) k (place_at (sight k).ground x.thread.number w) (owned.Mutex m)
      (own_mutex m (value_at (sight k).ground x.thread.number w) e) in
      let one_value : one (same_mutex m m) ≡ 1 = ap one (mutex_self m) in
      omega (arith, l, one_value)
  at_place m x _ e = absurd (cc e)

  waiting : (m : MutexNo) (t : ℕ) (o : Option Standing) → thread_at (threads_in (things_of k)) t ≡ o → in_phase (is_dup m) o ≡ true → 1 ≤ tot (shares_of m) (things_of k)
  waiting m t None h e = absurd (cc e)
  waiting m t (Some x) h e =
      let stand : stands_wrong (sight k) x x.thread.phase ≡ 0 = found_none (λ y. stands_wrong (sight k) y y.thread.phase) t (threads_in (things_of k)) x sound.requests.phases_stand h in
      let fits : other (is_mutex m (dupped_mutex (sight k) x (instr_of (sight k) x))) ≡ 0 = subst (λ p. stands_wrong (sight k) x p ≡ 0) (waits_for m x.thread.phase e) stand in
      at_place m x (instr_of (sight k) x) (mutex_is m (dupped_mutex (sight k) x (instr_of (sight k) x)) fits)

  module _ (few : FewEvents k) (number : ℕ) (s : Server) (here : server_at k.servers number ≡ Some s) where
    shares_few : (m : MutexNo) (y : Mutex) → mutex_in s.rest.mutexes.there m ≡ Some y → nat_lt y.shares (2 ^ 64 - 1) ≡ true
    shares_few m y e =
        let n = s.rest.number in
        let g = large_counts (events_of (sight k)) in
        let all : tot g (things_of k) ≡ 0 = sound.names.counts_bounded in
        let t = mutex_goes n s.rest.mutexes.there m y e in
        let mine : above (16 * events_of (sight k)) y.shares ≡ 0 = omega (arith, all, (tot-server g k.servers number s s here).0, server_parts g s, t.before g) in
        let most : y.shares ≤ 16 * events_of (sight k) = at_most y.shares (16 * events_of (sight k)) mine in
        let below : y.shares < 2 ^ 64 - 1 = omega (arith, most, few) in
        grind (arith, nat_tests, below)

    both : (a b : Bool) → a ≡ true → b ≡ true → (a && b) ≡ true
    both true true e h = refl
    both true false e h = absurd (cc h)
    both false b e h = absurd (cc e)

    some_if : {X : Type 0} (b : Bool) (x : X) → b ≡ true → IsSome (if b then Some x else None)
    some_if true x e = refl
    some_if false x e = absurd (cc e)

    dupped_some : (i : ℕ) (m : MutexNo) (a t : ℕ) → slice_get s.rest.inbox i ≡ Some (message.Dup m a t) → IsSome (more_in s.rest.mutexes (mutex_in s.rest.mutexes.there m))
    dupped_some i m a t q =
        let x = message.Dup m a t in
        let n = s.rest.number in
        let all : tot (carries (sight k)) (things_of k) ≡ 0 = sound.requests.carry_what_is_asked in
        let fits : other (in_phase (is_dup m) (thread_at (threads_in (things_of k)) t)) ≡ 0 = omega (arith, all, has k sound number s here i x q (carries (sight k))) in
        let share = waiting m t (thread_at (threads_in (things_of k)) t) refl (other_none _ fits) in
        let it = some_share k sound number s here (mutex_in s.rest.mutexes.there m) m
        (omega (arith, share, sound.mutexes_and_tasks.shares_counted m, same_shares k sound number s here m (things_of k), mutex_weighs k sound number s here m (λ y. y.shares) (home k sound number s here i x q m refl))) in
        let y = it.0 in
        subst (λ o. IsSome (more_in s.rest.mutexes o)) (sym it.1) (some_if (nat_lt 0 y.shares && nat_lt y.shares (2 ^ 64 - 1)) (put_mutex s.rest.mutexes (record y { shares = y.shares + 1 })) (both (nat_lt 0 y.shares) (nat_lt y.shares (2 ^ 64 - 1)) it.2 (shares_few m y it.1)))

pub dups_have_results : DupsHaveResults
dups_have_results k number i s m a t sound few here on q = arrives k number i s (message.Dup m a t) here on q (some_map _ _ (some_map _ _ (dupped_some k sound few number s here i m a t q)))
