-- In a sound cluster the step at the end of a pair has a result, and that of a join whose result is there.
use Rattle.std.proofs.Common.{◌≡◌, ℕ, is_some, Bool, true, false, List, [], ◌∷◌, Option, Some, IsSome, refl, sym, subst, arith}
use Rattle.std.specs.Prelude.{slice_get, option_map, length}
use Rattle.coherent_memory.specs.Below.fr_base.Lists.{last_of}
use Rattle.coherent_memory.specs.Below.fr_base.declared.instruction.Instr.{Instr}
use Rattle.coherent_memory.specs.Below.fr_base.declared.instruction.Instr.TheVariants as instr
use Rattle.coherent_memory.specs.Below.fr_base.declared.instruction.Operand.{Operand}
use Rattle.coherent_memory.specs.Below.fr_base.declared.instruction.Operand.TheVariants as operand
use Rattle.coherent_memory.specs.Below.heap_partition.declared.value.Owned.{Owned}
use Rattle.coherent_memory.specs.Below.heap_partition.declared.value.Owned.TheVariants as owned
use Rattle.coherent_memory.specs.Below.migration.Packing.{unpin_all}
use Rattle.coherent_memory.specs.Below.thread_state.View.{ThreadState}
use Rattle.coherent_memory.specs.Below.thread_state.declared.value.Value.{Value}
use Rattle.coherent_memory.specs.Below.thread_state.declared.value.Value.TheVariants as value
use Rattle.coherent_memory.specs.Below.thread_state.declared.phase.Phase.{Phase}
use Rattle.coherent_memory.specs.Below.thread_state.declared.phase.Phase.TheVariants as phase
use Rattle.coherent_memory.specs.Below.server_model.declared.event.What.TheVariants.{Step}
use Rattle.coherent_memory.specs.Below.server_model.Servers.{Server, Cluster, server_at}
use Rattle.coherent_memory.specs.Below.server_model.Work.{Hand, thread_in, then_some, taken_as, task_of, push_temp, with_temps, front_of}
use Rattle.coherent_memory.specs.Below.server_model.Commit.{goes_on, go_on, take_gift, join, par_end, settle}
use Rattle.coherent_memory.specs.Below.server_model.Events.{can_step, has_phase, enabled, begin_work, committed, step, step_in, stepped, does}
use Rattle.coherent_memory.specs.Names.{other, if_so}
use Rattle.coherent_memory.specs.Follow.{Standing}
use Rattle.coherent_memory.specs.Sight.{sight}
use Rattle.coherent_memory.specs.Paths.{joined_thread}
use Rattle.coherent_memory.specs.Paths as paths
use Rattle.coherent_memory.specs.Walking.{still_walks, walks_at_join, walks_not, is_join as at_join}
use Rattle.coherent_memory.specs.Requests.{is_par, is_par_end, same_truth, par_end as par_ends_wrong, gift_there, gift_fits as fits_there}
use Rattle.coherent_memory.specs.Coherent.{IsSound}
use Rattle.law_counts_sums.specs.Laws.{StepsHaveResults}
use Rattle.law_counts_sums.proofs.Askers.{other_none}
use Rattle.law_counts_sums.proofs.HaveResults.{some_map, applied}
use Rattle.law_counts_sums.proofs.GiftsTaken.{none_here}

empty : (ws : List ℕ) → length ws ≡ 0 → ws ≡ []
empty [] e = refl
empty (w ∷ ws) e = absurd (omega (arith, e))

-- without a walk a done step settles
settled : (h : Hand) → h.thread.walk ≡ [] → IsSome (settle h)
settled h e = some_map _ _ (subst (λ ws. IsSome (unpin_all ws h.work.rest.cache)) (sym e) refl)

-- THE END OF A PAIR

got_walks : (p : Phase) (w : List ℕ) → is_par p ≡ true → can_step p ≡ true → if_so (walks_not p) (length w) ≡ 0 → w ≡ []
got_walks (phase.GotPar a b) w e c z = empty w z
got_walks (phase.WaitPar a b) w e c z = absurd (cc c)
got_walks _ w e c z = absurd (cc e)

pair_ends : (p : Phase) (h : Hand) → is_par p ≡ true → can_step p ≡ true → h.thread.walk ≡ [] → IsSome (committed (goes_on (par_end p h)))
pair_ends (phase.GotPar a b) h e c w = some_map _ _ (settled (go_on h) w)
pair_ends (phase.WaitPar a b) h e c w = absurd (cc c)
pair_ends _ h e c w = absurd (cc e)

truth : (b : Bool) → other (same_truth true b) ≡ 0 → b ≡ true
truth true z = refl
truth false z = absurd (cc z)

-- A JOIN WHOSE RESULT IS THERE

module _ (h : Hand) (v : Owned) (w : h.thread.walk ≡ []) where
  top_joins : (x : Option Value) → is_some (paths.task_in x) ≡ true
      → IsSome (committed (goes_on (option_map (λ t. push_temp (value.Own v) t.hand) (then_some (option_map (λ y. record { item = y; hand = with_temps (front_of h.thread.temps) (take_gift h) }) x) (taken_as task_of)))))
  top_joins (Some (value.Own (owned.Task u))) e = some_map _ _ (settled (go_on (push_temp (value.Own v) (with_temps (front_of h.thread.temps) (take_gift h)))) w)
  top_joins _ e = absurd (cc e)

  joins_with : (o : Operand) → is_some (joined_thread (Some (instr.Join o)) h.thread) ≡ true → IsSome (committed (join o (Some v) h))
  joins_with operand.Pop e = top_joins (last_of h.thread.temps) e
  joins_with (operand.Const n) e = absurd (cc e)
  joins_with operand.Unit e = absurd (cc e)

module _ (k : Cluster) (sound : IsSound k) (n : ℕ) (s : Server) (here : server_at k.servers n ≡ Some s) (t : ℕ) (y : ThreadState) (at : thread_in s.threads t ≡ Some y) (on : enabled k.options s (Step t) ≡ true) where
  abbrev h : Hand
  h = record { work = begin_work s.rest; thread = y }

  abbrev me : Standing
  me = record { server = s.rest.number; packed = false; thread = y }

  calm : can_step y.phase ≡ true
  calm = subst (λ o. has_phase can_step o ≡ true) at on

  -- the step of its instruction is that of the server
  steps : (i : Instr) → slice_get k.code y.pc ≡ Some i → IsSome (step k.options.servers i h) → IsSome (does k.code k.options s (Step t))
  steps i q r =
      subst (λ o. IsSome (option_map (stepped s) (then_some (option_map (λ x. record { work = begin_work s.rest; thread = x }) o) (step_in k.code k.options.servers)))) (sym at)
      (some_map (stepped s) (step_in k.code k.options.servers h) (subst (λ o. IsSome (then_some o (λ j. step k.options.servers j h))) (sym q) r))

  pair_over : slice_get k.code y.pc ≡ Some instr.ParEnd → IsSome (does k.code k.options s (Step t))
  pair_over q =
      let wrong : par_ends_wrong (sight k) me ≡ 0 = none_here k sound n s here t y at (par_ends_wrong (sight k)) sound.requests.par_ends in
      let par : is_par y.phase ≡ true = truth (is_par y.phase) (subst (λ i. other (same_truth (is_par_end i) (is_par y.phase)) ≡ 0) q wrong) in
      let still : still_walks me ≡ 0 = none_here k sound n s here t y at still_walks sound.walks.walk_empty in
      steps instr.ParEnd q (pair_ends y.phase h par calm (got_walks y.phase y.walk par calm still))

  result_there : (o : Operand) (v : Owned) → y.gift ≡ Some v → slice_get k.code y.pc ≡ Some (instr.Join o) → IsSome (does k.code k.options s (Step t))
  result_there o v g q =
      let gift : gift_there (sight k) me y.gift ≡ 0 = none_here k sound n s here t y at (λ x. gift_there (sight k) x x.thread.gift) sound.requests.gifts_fit in
      let some_gift : gift_there (sight k) me (Some v) ≡ 0 = subst (λ z. gift_there (sight k) me z ≡ 0) g gift in
      let fits : other (is_some (joined_thread (Some (instr.Join o)) y)) ≡ 0 = subst (λ i. fits_there (sight k) me v i ≡ 0) q some_gift in
      let walks : walks_at_join (sight k) me ≡ 0 = none_here k sound n s here t y at (walks_at_join (sight k)) sound.walks.join_walks_nothing in
      let none : length y.walk ≡ 0 = subst (λ i. if_so (at_join i) (length y.walk) ≡ 0) q walks in
      steps (instr.Join o) q (subst (λ z. IsSome (committed (join o z h))) (sym g) (joins_with h v (empty y.walk none) o (other_none _ fits)))

pub steps_have_results : StepsHaveResults
steps_have_results = record {
  pairs = λ k n t s y sound here on at q. applied k n (Step t) s here on (pair_over k sound n s here t y at on q);
  joins = λ k n t s y o v sound here on at g q. applied k n (Step t) s here on (result_there k sound n s here t y at on o v g q);
}
