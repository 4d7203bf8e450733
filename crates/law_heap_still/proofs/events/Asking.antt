-- A join that asks for its result changes what its thread waits for, and nothing that is shown.
use Rattle.std.proofs.Common.{◌≡◌, ℕ, Bool, true, false, [], Option, Some, None, refl, sym, subst, ◌∙◌}
use Rattle.std.specs.Prelude.{slice_get, option_map}
use Rattle.law_counts_sums.specs.Below.fr_base.declared.instruction.Instr.TheVariants as instr
use Rattle.law_counts_sums.specs.Below.fr_base.declared.instruction.Operand.{Operand}
use Rattle.law_counts_sums.specs.Below.thread_state.View.{ThreadState}
use Rattle.law_counts_sums.specs.Below.server_model.declared.event.What.TheVariants.{Step}
use Rattle.law_counts_sums.specs.Below.server_model.Servers.{Server, Cluster, server_at}
use Rattle.law_counts_sums.specs.Below.server_model.Work.{Hand, then_some, pop, task_of, thread_in, put_back}
use Rattle.law_counts_sums.specs.Below.server_model.Commit.{waiting, ask_join, join}
use Rattle.law_counts_sums.specs.Below.server_model.Events.{can_step, has_phase, begin_work, begin_at, committed, wait_step, step, step_in, stepped, enabled, does}
use Rattle.law_counts_sums.specs.Below.coherent_memory.Names.{other}
use Rattle.law_counts_sums.specs.Below.coherent_memory.Sight.{sight}
use Rattle.law_counts_sums.specs.Below.coherent_memory.Requests.{is_par, is_par_end, same_truth, par_end}
use Rattle.law_counts_sums.specs.Below.coherent_memory.Coherent.{IsSound}
use Rattle.law_counts_sums.specs.Laws.{Gives}
use Rattle.law_counts_sums.proofs.ThreadThere.{thread_there}
use Rattle.law_counts_sums.proofs.StandsHere.{found_none}
use Rattle.law_heap_still.specs.events.Laws.{JoinsThatAsk}
use Rattle.law_heap_still.proofs.events.Sites.{begins, ends, ServerStill, leaves_heap}
use Rattle.law_heap_still.proofs.events.Once.{shown_once}
use Rattle.law_heap_still.proofs.events.Hands.{put_still, IsQuiet}
use Rattle.law_heap_still.proofs.events.Undone.{step_quiet, asks_join, wait_still}

module _ (k : Cluster) (sound : IsSound k) (number : ℕ) (s : Server) (here : server_at k.servers number ≡ Some s) (t : ℕ) (y : ThreadState) (at : thread_in s.threads t ≡ Some y) (o : Operand)
    (i : slice_get k.code y.pc ≡ Some (instr.Join o)) (bare : y.gift ≡ None) where
  quiet : enabled k.options s (Step t) ≡ true → IsQuiet y.phase
  quiet on =
      let calm : can_step y.phase ≡ true = subst (λ x. has_phase can_step x ≡ true) at on in
      let none : par_end (sight k) (record { server = s.rest.number; packed = false; thread = y }) ≡ 0 = found_none (par_end (sight k)) t (sight k).ground.threads (record { server = s.rest.number; packed = false; thread = y }) sound.requests.par_ends (thread_there k sound number s here t y at) in
      let unpaired : other (same_truth false (is_par y.phase)) ≡ 0 = subst (λ x. other (same_truth (is_par_end x) (is_par y.phase)) ≡ 0) i none in
      step_quiet y.phase calm (by (is_par y.phase) unpaired)
    where
      by : (b : Bool) → other (same_truth false b) ≡ 0 → b ≡ false
      by true z = absurd (cc z)
      by false z = refl

  abbrev h : Hand
  h = record { work = begin_work s.rest; thread = y }

  waits_on : IsQuiet y.phase → (u : Option ℕ) → Gives (ServerStill k s) (option_map (stepped s) (committed (waiting (option_map (ask_join h) u))))
  waits_on q None = tt
  waits_on q (Some u) =
      let d = wait_step (ask_join h u) in
      let still = put_still [] t (begin_at s) y at d.hand (wait_still h (ask_join h u) (asks_join h (Some u) q)) in
      λ w z c. begins s w z ∙ still w z ∙ ends s.events (Some d.hand.thread.number) d.names (put_back s.threads d.hand) w z

  asks : IsQuiet y.phase → Gives (ServerStill k s) (does k.code k.options s (Step t))
  asks q =
      subst (λ x. Gives (ServerStill k s) (option_map (stepped s) (then_some (option_map (λ v. record { work = begin_work s.rest; thread = v }) x) (step_in k.code k.options.servers)))) (sym at)
      (subst (λ x. Gives (ServerStill k s) (option_map (stepped s) (then_some x (λ j. step k.options.servers j h)))) (sym i)
      (subst (λ g. Gives (ServerStill k s) (option_map (stepped s) (committed (join o g h)))) (sym bare) (waits_on q (then_some (pop o h) (λ p. task_of p.item)))))

pub joins_that_ask : JoinsThatAsk
joins_that_ask k n t s y o sound few here at i bare =
    leaves_heap shown_once k (record { server = n; what = Step t }) sound few (λ r e on.
    let same : r ≡ s = (let both : Some r ≡ Some s = sym e ∙ here in cc) in
    subst (λ (x : Server). Gives (ServerStill k x) (does k.code k.options x (Step t))) (sym same) (asks k sound n s here t y at o i bare (quiet k sound n s here t y at o i bare (subst (λ (x : Server). enabled k.options x (Step t) ≡ true) same on))))
