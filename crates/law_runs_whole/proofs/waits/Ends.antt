-- Where a coherent cluster has come to an end, so has each plain state of its code that it stands for: finished, or deadlocked.
use Rattle.std.proofs.Common.{◌≡◌, ℕ, ◌==◌, ◌&&◌, ◌||◌, is_some, Bool, true, false, if◌then◌else◌, List, [], ◌∷◌, Option, Some, None, refl, sym, ap, ◌∙◌}
use Rattle.law_runs_whole.proofs.Below.fr_typing.PlaceLemmas.{eq_cases}
use Rattle.law_runs_whole.specs.Below.fr_base.declared.label.Plain.{Plain}
use Rattle.law_runs_whole.specs.Below.fr_base.declared.step.Ending3.{Ending3}
use Rattle.law_runs_whole.specs.Below.fr_base.declared.step.Ending3.TheVariants as ending
use Rattle.law_runs_whole.specs.Below.fr_plain.declared.value.Value.{Value}
use Rattle.law_runs_whole.specs.Below.fr_plain.Machine as machine
use Rattle.law_runs_whole.specs.Below.fr_plain.Machine.{waits_for, all_wait}
use Rattle.law_runs_whole.specs.Below.fr_plain.MachineThreads as plain
use Rattle.law_runs_whole.specs.Below.fr_plain.MachineThreads.{over, ended, alive, owing, loose, thread_at, all_over}
use Rattle.law_runs_whole.specs.Below.fr_plain.PlainState.{SameState, running, running_in, plain_state}
use Rattle.law_runs_whole.specs.Below.fr_plain.SamePlain.{IsListedOnce}
use Rattle.law_runs_whole.specs.Below.fr_code.Machine.{CodeLife, CodeThread, CodeWhole}
use Rattle.law_runs_whole.specs.Below.fr_code.Steps.{code_moves}
use Rattle.law_runs_whole.specs.Below.thread_state.View.{is_over}
use Rattle.law_runs_whole.specs.Below.server_model.Servers.{Cluster}
use Rattle.law_runs_whole.specs.Below.server_model.Questions.{wait_of}
use Rattle.law_runs_whole.specs.Below.drive_model.Ending.{no_message, all_in, is_stopped, is_going, ending_of}
use Rattle.law_runs_whole.specs.Below.drive_model.Ending as cluster
use Rattle.law_runs_whole.specs.Below.coherent_memory.Follow.{Standing}
use Rattle.law_runs_whole.specs.Below.coherent_memory.Follow as follow
use Rattle.law_runs_whole.specs.Below.coherent_memory.Sight.{sight}
use Rattle.law_runs_whole.specs.Below.coherent_memory.OneHeap.{one_heap, is_given_thread, result_of, ended_with, if_given, life_at, life_of}
use Rattle.law_runs_coherent.specs.Below.coherent_types.ClusterTypes.{IsCoherent}
use Rattle.law_runs_whole.proofs.Below.coherent_memory.Names.{and_left, and_right}
use Rattle.law_runs_whole.specs.waits.Waits.{wait_in, rests}
use Rattle.law_runs_whole.specs.waits.Locks.{cluster_wait, standing_wait}
use Rattle.law_runs_whole.proofs.waits.ClusterWaits.{servers_pass, cluster_over}
use Rattle.law_runs_whole.proofs.waits.Deadlocks.{deadlocks_agree}
use Rattle.law_runs_whole.proofs.waits.PlainWaits.{over_waits}

-- THREADS OF A PLAIN STATE

-- a test that each thread passes, which is found under its number
every : (f : CodeThread → Bool) (g : List CodeThread → Bool) → g [] ≡ true → ((x : CodeThread) (xs : List CodeThread) → g (x ∷ xs) ≡ (f x && g xs)) → (xs : List CodeThread) → IsListedOnce xs
    → ((t : ℕ) (y : CodeThread) → thread_at xs t ≡ Some y → f y ≡ true) → g xs ≡ true
every f g none more [] once h = none
every f g none more (x ∷ xs) once h =
    let first : f x ≡ true = h x.number x (eq_cases (λ b. (if b then Some x else thread_at xs x.number) ≡ Some x) x.number x.number (λ e. refl) (λ ne. absurd (ne refl))) in
    more x xs ∙ ap (λ b. b && g xs) first
    ∙ every f g none more xs once.1 (λ t y e.
    h t y (eq_cases (λ b. (if b then Some x else thread_at xs t) ≡ Some y) x.number t (λ same. let there : None ≡ Some y = sym once.0 ∙ ap (thread_at xs) same ∙ e in absurd (cc there)) (λ ne. e)))

over_there : (xs : List CodeThread) → all_over xs ≡ true → (t : ℕ) (y : CodeThread) → thread_at xs t ≡ Some y → plain.is_over y.life ≡ true
over_there [] h t y e = absurd (cc e)
over_there (x ∷ xs) h t y e = by (x.number == t) e (over_there xs (and_right (plain.is_over x.life) (all_over xs) h) t y)
  where
    by : (b : Bool) → (if b then Some x else thread_at xs t) ≡ Some y → (thread_at xs t ≡ Some y → plain.is_over y.life ≡ true) → plain.is_over y.life ≡ true
    by true q go = let same : x ≡ y = cc in ap (λ (z : CodeThread). plain.is_over z.life) (sym same) ∙ and_left (plain.is_over x.life) (all_over xs) h
    by false q go = go q

either_first : (a b : Bool) → a ≡ true → (a || b) ≡ true
either_first true b e = refl
either_first false b e = absurd (cc e)

either_second : (a b : Bool) → b ≡ true → (a || b) ≡ true
either_second true b e = refl
either_second false b e = e

-- BESIDE A CLUSTER

by_life : (o : Option Plain) (l : CodeLife) (slots : List Value) → running slots l ≡ ended_with o → plain.is_over l ≡ true
by_life o over slots e = refl
by_life o (ended v) slots e = refl
by_life None (alive p) slots e = absurd (cc e)
by_life (Some v) (alive p) slots e = absurd (cc e)
by_life None (owing p) slots e = absurd (cc e)
by_life (Some v) (owing p) slots e = absurd (cc e)
by_life None (loose p) slots e = absurd (cc e)
by_life (Some v) (loose p) slots e = absurd (cc e)

given_over : (g : Bool) (o : Option Plain) (y : CodeThread) → Some (running y.slots y.life) ≡ if_given g (ended_with o) → plain.is_over y.life ≡ true
given_over true o y e = let same : running y.slots y.life ≡ ended_with o = cc in by_life o y.life y.slots same
given_over false o y e = absurd (cc e)

module _ (k : Cluster) (c : CodeWhole) (same : SameState (plain_state c) (one_heap k)) where
  -- who is over in the cluster, or stands nowhere, is over there
  rest_over : (t : ℕ) (y : CodeThread) → thread_at c.threads t ≡ Some y → rests (follow.thread_at (sight k).ground.threads t) ≡ true → plain.is_over y.life ≡ true
  rest_over t y e = by (follow.thread_at (sight k).ground.threads t) refl
    where
      shown : (o : Option Standing) → follow.thread_at (sight k).ground.threads t ≡ o → Some (running y.slots y.life) ≡ if_given (is_given_thread (sight k) t) (life_at (sight k) t o)
      shown o q = ap running_in (sym e) ∙ same.threads t ∙ ap (λ x. if_given (is_given_thread (sight k) t) (life_at (sight k) t x)) q

      by : (o : Option Standing) → follow.thread_at (sight k).ground.threads t ≡ o → rests o ≡ true → plain.is_over y.life ≡ true
      by None q r = given_over (is_given_thread (sight k) t) (result_of (sight k) t) y (shown None q)
      by (Some x) q r = given_over (is_given_thread (sight k) t) (result_of (sight k) x.thread.number) y (shown (Some x) q ∙ ap (λ b. if_given (is_given_thread (sight k) t) (life_of (sight k) x.thread b)) r)

  module _ (quiet : no_message k.servers ≡ true) (once : IsListedOnce c.threads) where
    -- FINISHED

    all_are_over : all_in is_over k.servers ≡ true → all_over c.threads ≡ true
    all_are_over done = every (λ y. plain.is_over y.life) all_over refl (λ x xs. refl) c.threads once (λ t y e. rest_over t y e (at t (follow.thread_at (sight k).ground.threads t) refl))
      where
        at : (t : ℕ) (o : Option Standing) → follow.thread_at (sight k).ground.threads t ≡ o → rests o ≡ true
        at t None q = refl
        at t (Some x) q = servers_pass is_over k.servers quiet done t x q

    -- DEADLOCKED

    module _ (co : IsCoherent k) (stopped : all_in is_stopped k.servers ≡ true) (dead : cluster.ending k ≡ ending.Deadlocked) where
      -- whoever isn't over waits
      stops : (t : ℕ) (y : CodeThread) → thread_at c.threads t ≡ Some y → (plain.is_over y.life || is_some (waits_for (code_moves k.code) c y)) ≡ true
      stops t y e = by (follow.thread_at (sight k).ground.threads t) refl
        where
          waiting : (x : Standing) → follow.thread_at (sight k).ground.threads t ≡ Some x → waits_for (code_moves k.code) c y ≡ wait_of x.thread.phase
          waiting x q = ap (wait_in k.code c) (sym e) ∙ deadlocks_agree k co dead c same t ∙ ap standing_wait q

          standing : (x : Standing) → follow.thread_at (sight k).ground.threads t ≡ Some x → (b : Bool) → is_over x.thread.phase ≡ b → (b || is_some (wait_of x.thread.phase)) ≡ true → (plain.is_over y.life || is_some (waits_for (code_moves k.code) c y)) ≡ true
          standing x q true r s = either_first (plain.is_over y.life) (is_some (waits_for (code_moves k.code) c y)) (rest_over t y e (ap rests q ∙ r))
          standing x q false r s = either_second (plain.is_over y.life) (is_some (waits_for (code_moves k.code) c y)) (ap is_some (waiting x q) ∙ s)

          by : (o : Option Standing) → follow.thread_at (sight k).ground.threads t ≡ o → (plain.is_over y.life || is_some (waits_for (code_moves k.code) c y)) ≡ true
          by None q = either_first (plain.is_over y.life) (is_some (waits_for (code_moves k.code) c y)) (rest_over t y e (ap rests q))
          by (Some x) q = standing x q (is_over x.thread.phase) refl (servers_pass is_stopped k.servers quiet stopped t x q)

      all_are_waiting : all_wait (code_moves k.code) c c.threads ≡ true
      all_are_waiting = every (λ y. plain.is_over y.life || is_some (waits_for (code_moves k.code) c y)) (all_wait (code_moves k.code) c) refl (λ x xs. refl) c.threads once stops

      -- where all are over none waits, so the cluster is over too
      none_waits : all_over c.threads ≡ true → (t : ℕ) → cluster_wait k t ≡ None
      none_waits all t = sym (deadlocks_agree k co dead c same t) ∙ by (thread_at c.threads t) refl
        where
          by : (o : Option CodeThread) → thread_at c.threads t ≡ o → wait_in k.code c o ≡ None
          by None q = refl
          by (Some y) q = over_waits (code_moves k.code) c y (over_there c.threads all t y q)

      some_is_not_over : all_in is_over k.servers ≡ false → all_over c.threads ≡ false
      some_is_not_over going = by (all_over c.threads) refl
        where
          by : (b : Bool) → all_over c.threads ≡ b → b ≡ false
          by false q = refl
          by true q = sym (cluster_over k co.sound quiet stopped (none_waits q)) ∙ going

pub code_ends : (k : Cluster) → IsCoherent k → (c : CodeWhole) → SameState (plain_state c) (one_heap k) → IsListedOnce c.threads → is_going (cluster.ending k) ≡ false → machine.ending_of (code_moves k.code) c ≡ cluster.ending k
code_ends k co c same once done = by (no_message k.servers) (all_in is_over k.servers) (all_in is_stopped k.servers) refl refl refl done
  where
    stands : (a b : Bool) → all_over c.threads ≡ a → all_wait (code_moves k.code) c c.threads ≡ b → machine.ending_of (code_moves k.code) c ≡ (if a then ending.Finished else if b then ending.Deadlocked else ending.Going)
    stands a b e f =
        ap (λ q. (let z : Ending3 = if q then ending.Finished else if all_wait (code_moves k.code) c c.threads then ending.Deadlocked else ending.Going in z)) e
        ∙ ap (λ q. (let z : Ending3 = if a then ending.Finished else if q then ending.Deadlocked else ending.Going in z)) f

    stands_so : (q o s : Bool) → no_message k.servers ≡ q → all_in is_over k.servers ≡ o → all_in is_stopped k.servers ≡ s → cluster.ending k ≡ ending_of q o s
    stands_so q o s a b d = ap (λ x. ending_of x (all_in is_over k.servers) (all_in is_stopped k.servers)) a ∙ ap (λ x. ending_of q x (all_in is_stopped k.servers)) b ∙ ap (ending_of q o) d

    by : (q o s : Bool) → no_message k.servers ≡ q → all_in is_over k.servers ≡ o → all_in is_stopped k.servers ≡ s → is_going (ending_of q o s) ≡ false → machine.ending_of (code_moves k.code) c ≡ cluster.ending k
    by true true s a b d g = stands true (all_wait (code_moves k.code) c c.threads) (all_are_over k c same a once b) refl ∙ sym (stands_so true true s a b d)
    by true false true a b d g =
        let dead = stands_so true false true a b d in
        stands false true (some_is_not_over k c same a once co d dead b) (all_are_waiting k c same a once co d dead) ∙ sym dead
    by true false false a b d g = absurd (cc g)
    by false o s a b d g = absurd (cc g)
