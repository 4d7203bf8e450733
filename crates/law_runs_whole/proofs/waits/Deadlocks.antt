-- In a deadlocked cluster each thread waits for the same on the plain machine.
use Rattle.std.proofs.Common.{◌≡◌, ℕ, Bool, true, false, Option, Some, None, refl, ap, ◌∙◌, arith}
use Rattle.law_runs_whole.specs.Below.fr_base.declared.step.Ending3.TheVariants.{Deadlocked}
use Rattle.law_runs_whole.specs.Below.fr_plain.PlainState.{SameState, plain_state}
use Rattle.law_runs_whole.specs.Below.fr_code.Machine.{CodeWhole}
use Rattle.law_runs_whole.specs.Below.thread_state.View.{is_over}
use Rattle.law_runs_whole.specs.Below.thread_state.declared.phase.Phase.{Phase}
use Rattle.law_runs_whole.specs.Below.thread_state.declared.phase.Phase.TheVariants as phase
use Rattle.law_runs_whole.specs.Below.server_model.Servers.{Cluster}
use Rattle.law_runs_whole.specs.Below.server_model.Questions.{wait_of}
use Rattle.law_runs_whole.specs.Below.drive_model.Ending.{no_message, all_in, is_stopped, ending_of}
use Rattle.law_runs_whole.specs.Below.coherent_memory.Follow.{Standing, thread_at}
use Rattle.law_runs_whole.specs.Below.coherent_memory.Things.{things_of}
use Rattle.law_runs_whole.specs.Below.coherent_memory.Sight.{sight}
use Rattle.law_runs_whole.specs.Below.coherent_memory.OneHeap.{one_heap}
use Rattle.law_runs_coherent.specs.Below.coherent_types.ClusterTypes.{IsCoherent}
use Rattle.law_runs_coherent.proofs.Below.law_heap_steps.Below.law_words_paths.paths.Contained.{among_thread}
use Rattle.law_runs_whole.proofs.ends.Servers.{other_so}
use Rattle.law_runs_whole.specs.waits.Waits.{plain_wait, rests}
use Rattle.law_runs_whole.proofs.waits.Plain.{resting_wait}
use Rattle.law_runs_whole.proofs.waits.Waiting.{joins_wait, pairs_wait}
use Rattle.law_runs_whole.specs.waits.Locks.{cluster_wait, standing_wait, DeadlocksAgree}
use Rattle.law_runs_whole.proofs.waits.Locks.{unstopped, servers_stopped, thread_weighs, locks_wait}

module _ (k : Cluster) (co : IsCoherent k) (quiet : no_message k.servers ≡ true) (stopped : all_in is_stopped k.servers ≡ true) (c : CodeWhole) (same : SameState (plain_state c) (one_heap k)) (t : ℕ) where
  agrees : plain_wait k.code c t ≡ cluster_wait k t
  agrees = by (thread_at (sight k).ground.threads t) refl
    where
      in_phase : (x : Standing) → thread_at (sight k).ground.threads t ≡ Some x → (p : Phase) → x.thread.phase ≡ p → is_stopped p ≡ true → plain_wait k.code c t ≡ wait_of p
      in_phase x e (phase.WaitLock m) q z = locks_wait k co quiet stopped c same t m x e q
      in_phase x e (phase.WaitJoin u) q z = joins_wait k co quiet c same t u x e q
      in_phase x e (phase.WaitPar a b) q z = pairs_wait k co quiet c same t a b x e q
      in_phase x e phase.Over q z = resting_wait k c same t (ap rests e ∙ ap is_over q)
      in_phase x e p q z = absurd (cc z)

      is_so : (x : Standing) → thread_at (sight k).ground.threads t ≡ Some x → is_stopped x.thread.phase ≡ true
      is_so x e = other_so (is_stopped x.thread.phase) (omega (arith, thread_weighs unstopped x (things_of k) (among_thread (sight k).ground.threads t x e).0, servers_stopped k.servers quiet stopped))

      by : (o : Option Standing) → thread_at (sight k).ground.threads t ≡ o → plain_wait k.code c t ≡ standing_wait o
      by None e = resting_wait k c same t (ap rests e)
      by (Some x) e = in_phase x e x.thread.phase refl (is_so x e)

pub deadlocks_agree : DeadlocksAgree
deadlocks_agree k co h c same t = by (no_message k.servers) (all_in is_over k.servers) (all_in is_stopped k.servers) refl refl h
  where
    by : (q o s : Bool) → no_message k.servers ≡ q → all_in is_stopped k.servers ≡ s → ending_of q o s ≡ Deadlocked → plain_wait k.code c t ≡ cluster_wait k t
    by true false true a d g = agrees k co a d c same t ∙ refl
    by true true s a d g = absurd (cc g)
    by true false false a d g = absurd (cc g)
    by false o s a d g = absurd (cc g)
