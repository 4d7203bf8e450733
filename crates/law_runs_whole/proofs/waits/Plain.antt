-- A thread of a cluster that goes on, on the plain machine: where it is, and what it waits for.
use Rattle.std.proofs.Common.{◌≡◌, ℕ, Bool, true, false, List, Option, Some, None, refl, ap, ap₂, ◌∙◌}
use Rattle.std.specs.Prelude.{slice_get}
use Rattle.law_runs_whole.specs.Below.fr_base.declared.instruction.Instr.{Instr}
use Rattle.law_runs_whole.specs.Below.fr_base.declared.label.Plain.{Plain}
use Rattle.law_runs_whole.specs.Below.fr_plain.declared.value.Value.{Value}
use Rattle.law_runs_whole.specs.Below.fr_plain.Machine.{act_waits, move_waits, waits_for}
use Rattle.law_runs_whole.specs.Below.fr_plain.MachineActs.{do_end, do_finish, do_leave}
use Rattle.law_runs_whole.specs.Below.fr_plain.MachineThreads.{over, ended, alive, owing, loose, going, on_value, alone, next, thread_at, result_at, result_in}
use Rattle.law_runs_whole.specs.Below.fr_plain.PlainState.{SameState, running, running_in, plain_state}
use Rattle.law_runs_whole.specs.Below.fr_code.Machine.{CodeLife, CodeThread, CodeWhole}
use Rattle.law_runs_whole.specs.Below.fr_code.Steps.{Place, CodeAct, code_move, code_moves, over_at}
use Rattle.law_runs_whole.specs.Below.server_model.Servers.{Cluster}
use Rattle.law_runs_whole.specs.Below.coherent_memory.Follow.{Standing}
use Rattle.law_runs_whole.specs.Below.coherent_memory.Follow as cluster
use Rattle.law_runs_whole.specs.Below.coherent_memory.Sight.{sight}
use Rattle.law_runs_whole.specs.Below.coherent_memory.OneHeap.{one_heap, is_given_thread, result_of, ended_with, if_given, life_at, life_of, running_at}
use Rattle.law_runs_coherent.specs.Below.coherent_types.ClusterTypes.{IsCoherent}
use Rattle.law_runs_coherent.specs.Below.law_heap_steps.Below.law_words_paths.paths.HeapStore.{GoesOn, HasPaths}
use Rattle.law_runs_coherent.proofs.Below.law_heap_steps.Below.law_words_paths.paths.Alike.{coherent_has_paths}
use Rattle.law_runs_coherent.proofs.Below.law_heap_steps.Below.law_words_paths.paths.Shown.{stands_there, is_given}
use Rattle.law_runs_coherent.proofs.Below.law_heap_steps.turns.OneTurn.{Going, as_main, as_owing, as_loose, life_as, going_of, going_is}
use Rattle.law_runs_coherent.proofs.Below.law_heap_steps.turns.PlainTurn.{thread_as, found_as}
use Rattle.law_runs_whole.specs.waits.Waits.{wait_in, plain_wait, rests, RestingWaitNot}

module _ (k : Cluster) (co : IsCoherent k) (c : CodeWhole) (same : SameState (plain_state c) (one_heap k)) (x : Standing) (g : GoesOn k x) where
  abbrev t : ℕ
  t = x.thread.number

  abbrev paths : HasPaths k
  paths = coherent_has_paths k co

  abbrev pub way : Going
  way = going_of (sight k) t

  in_one_heap : (one_heap k).thread t ≡ Some (life_as way (running_at x.thread))
  in_one_heap =
      ap (λ b. if_given b (life_at (sight k) t (cluster.thread_at (sight k).ground.threads t))) (is_given k paths x g) ∙ ap (λ o. Some (life_at (sight k) t o)) (stands_there k paths x g)
      ∙ ap (λ b. Some (life_of (sight k) x.thread b)) g.going ∙ ap Some (going_is (sight k) t (running_at x.thread))

  pub there : thread_at c.threads t ≡ Some (thread_as way t (running_at x.thread))
  there = found_as c t way (running_at x.thread) (same.threads t ∙ in_one_heap)

  -- it has no result
  pub no_result : result_at c.threads t ≡ None
  no_result = ap result_in there ∙ by way
    where
      by : (w : Going) → result_in (Some (thread_as w t (running_at x.thread))) ≡ None
      by as_main = refl
      by as_owing = refl
      by as_loose = refl

  -- what its next act waits for
  pub waits_as : (a : CodeAct) (plug : Value → Place) → over_at (slice_get k.code x.thread.pc) (running_at x.thread).place.temps ≡ going → code_move k.code x.thread.pc (running_at x.thread).place.temps ≡ Some (record { act = a; plug = plug })
      → plain_wait k.code c t ≡ act_waits c (thread_as way t (running_at x.thread)) a
  waits_as a plug now move = ap (wait_in k.code c) there ∙ by way
    where
      by : (w : Going) → waits_for (code_moves k.code) c (thread_as w t (running_at x.thread)) ≡ act_waits c (thread_as w t (running_at x.thread)) a
      by as_main = ap (move_waits c (thread_as as_main t (running_at x.thread))) (ap₂ (λ n m. on_value n (λ v. alone (λ z. over) (do_end v)) (next alive m)) now move)
      by as_owing = ap (move_waits c (thread_as as_owing t (running_at x.thread))) (ap₂ (λ n m. on_value n (λ v. alone ended (do_finish v)) (next owing m)) now move)
      by as_loose = ap (move_waits c (thread_as as_loose t (running_at x.thread))) (ap₂ (λ n m. on_value n (λ v. alone (λ z. over) (do_leave v)) (next loose m)) now move)

-- THREADS THAT REST

module _ (code : List Instr) (c : CodeWhole) (t : ℕ) where
  by_life : (o : Option Plain) (l : CodeLife) (slots : List Value) (n : ℕ) → running slots l ≡ ended_with o → waits_for (code_moves code) c (record { number = n; life = l; slots = slots }) ≡ None
  by_life o over slots n e = refl
  by_life o (ended v) slots n e = refl
  by_life None (alive p) slots n e = absurd (cc e)
  by_life (Some v) (alive p) slots n e = absurd (cc e)
  by_life None (owing p) slots n e = absurd (cc e)
  by_life (Some v) (owing p) slots n e = absurd (cc e)
  by_life None (loose p) slots n e = absurd (cc e)
  by_life (Some v) (loose p) slots n e = absurd (cc e)

  -- one that has ended, or has no name, waits for nothing
  pub none_waits : (g : Bool) (o : Option Plain) → running_in (thread_at c.threads t) ≡ if_given g (ended_with o) → plain_wait code c t ≡ None
  none_waits g o e = by (thread_at c.threads t) e
    where
      by : (y : Option CodeThread) → running_in y ≡ if_given g (ended_with o) → wait_in code c y ≡ None
      by None q = refl
      by (Some y) q = so g q
        where
          so : (g : Bool) → Some (running y.slots y.life) ≡ if_given g (ended_with o) → waits_for (code_moves code) c y ≡ None
          so true q = let same : running y.slots y.life ≡ ended_with o = cc in by_life o y.life y.slots y.number same
          so false q = absurd (cc q)

pub resting_wait : RestingWaitNot
resting_wait k c same t rest = by (cluster.thread_at (sight k).ground.threads t) refl rest
  where
    by : (x : Option Standing) → cluster.thread_at (sight k).ground.threads t ≡ x → rests x ≡ true → plain_wait k.code c t ≡ None
    by None e r = none_waits k.code c t (is_given_thread (sight k) t) (result_of (sight k) t) (same.threads t ∙ ap (λ x. if_given (is_given_thread (sight k) t) (life_at (sight k) t x)) e)
    by (Some x) e r =
        none_waits k.code c t (is_given_thread (sight k) t) (result_of (sight k) x.thread.number)
        (same.threads t ∙ ap (λ x. if_given (is_given_thread (sight k) t) (life_at (sight k) t x)) e ∙ ap (λ b. if_given (is_given_thread (sight k) t) (life_of (sight k) x.thread b)) r)
