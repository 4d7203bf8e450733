-- Each enabled event has a result, kind by kind.
use Rattle.std.proofs.Common.{◌≡◌, ℕ, zero, suc, ◌<◌, true, false, List, [], ◌∷◌, length, Option, Some, None, refl, arith}
use Rattle.std.specs.Prelude.{slice_get}
use Rattle.std.proofs.lemmas.Bool.Decides.{nat_tests}
use Rattle.law_results_events.specs.Below.fr_base.declared.instruction.Instr.{Instr}
use Rattle.law_results_events.specs.Below.fr_base.declared.instruction.Instr.TheVariants as instr
use Rattle.law_results_events.specs.Below.fr_base.declared.release.Released.TheVariants as released
use Rattle.law_results_events.specs.Below.thread_state.View.{ThreadState, is_over}
use Rattle.law_results_events.specs.Below.thread_state.declared.phase.Phase.{Phase}
use Rattle.law_results_events.specs.Below.thread_state.declared.phase.Phase.TheVariants as phase
use Rattle.law_results_events.specs.Below.server_msgs.declared.message.Message.{Message}
use Rattle.law_results_events.specs.Below.server_msgs.declared.message.Message.TheVariants as message
use Rattle.law_results_events.specs.Below.server_model.declared.event.What.TheVariants.{Step, Deliver, Evict, Migrate}
use Rattle.law_results_events.specs.Below.server_model.Servers.{Server, Cluster, server_at}
use Rattle.law_results_events.specs.Below.server_model.Work.{thread_in}
use Rattle.law_results_events.specs.Below.server_model.Events.{can_step, has_phase, enabled}
use Rattle.law_results_events.specs.Below.coherent_memory.Follow.{Standing}
use Rattle.law_results_events.specs.Below.coherent_memory.Sight.{sight}
use Rattle.law_results_events.specs.Below.law_counts_sums.Kinds.{step_let, step_box, step_arith, step_print, step_mutex, step_unlock, step_end}
use Rattle.law_results_events.specs.Below.law_counts_sums.Laws.{FewEvents, HasResult}
use Rattle.law_results_events.proofs.Below.law_counts_sums.ThreadThere.{thread_there}
use Rattle.law_results_events.proofs.Below.law_counts_sums.HaveResults.{evictions, starts, parcels}
use Rattle.law_results_events.proofs.Below.law_counts_sums.AnswerResults.{answers_have_results}
use Rattle.law_results_events.proofs.Below.law_counts_sums.DupResults.{dups_have_results as dup_deliveries}
use Rattle.law_results_events.proofs.Below.law_counts_sums.FetchedResults.{fetched_have_results}
use Rattle.law_results_events.proofs.Below.law_counts_sums.FinishResults.{finishes_have_results}
use Rattle.law_results_events.proofs.Below.law_counts_sums.MigrateResults.{migrations_have_results}
use Rattle.law_results_events.proofs.Below.law_counts_sums.MutexResults.{mutexes_have_results}
use Rattle.law_results_events.proofs.Below.law_counts_sums.ObjectResults.{objects_have_results}
use Rattle.law_results_events.proofs.Below.law_counts_sums.TaskResults.{joins_have_results, tasks_let_go_have_results}
use Rattle.law_results_events.specs.Below.coherent_types.ClusterTypes.{IsCoherent}
use Rattle.law_results_events.specs.Below.law_words_paths.paths.HeapStore.{GoesOn, HasPaths}
use Rattle.law_results_events.proofs.Below.law_words_paths.paths.Alike.{coherent_has_paths}
use Rattle.law_results_events.proofs.Below.law_words_paths.paths.Contained.{among_thread}
use Rattle.law_results_events.proofs.Below.law_words_paths.paths.Forms.{running_typed}
use Rattle.law_results_events.specs.Below.law_results_reads.Results.{no_place}
use Rattle.law_results_events.proofs.Below.law_results_reads.Variables.{quiet_steps, join_steps, pair_steps}
use Rattle.law_results_events.proofs.Below.law_results_reads.Readers.{dups_have_results, locks_have_results}
use Rattle.law_results_events.proofs.Below.law_results_reads.Borrowing.{borrows_have_results}
use Rattle.law_results_events.proofs.Below.law_results_reads.Lending.{mutable_borrows_have_results}
use Rattle.law_results_events.proofs.writes.Anyhow.{each_read, each_assignment, each_discard, each_drop}
use Rattle.law_results_events.proofs.writes.Moved.{each_moved}
use Rattle.law_results_events.proofs.enabled.Spawns.{each_spawn}
use Rattle.law_results_events.proofs.enabled.Pars.{each_par}
use Rattle.law_results_events.specs.enabled.Events.{EventsHaveResults}

stands_at : {X : Type 0} (xs : List X) (i : ℕ) → i < length xs → (v : X) × (slice_get xs i ≡ Some v)
stands_at [] i l = absurd (omega (arith, l))
stands_at (x ∷ xs) zero l = (x, refl)
stands_at (x ∷ xs) (suc i) l = stands_at xs i (omega (arith, l))

goes_still : (p : Phase) → can_step p ≡ true → is_over p ≡ false
goes_still phase.Over e = absurd (cc e)
goes_still _ e = refl

module _ (k : Cluster) (n : ℕ) (s : Server) (c : IsCoherent k) (few : FewEvents k) (here : server_at k.servers n ≡ Some s) where
  -- the instruction of a thread that steps is there
  instruction : (t : ℕ) (y : ThreadState) → thread_in s.threads t ≡ Some y → can_step y.phase ≡ true → (i : Instr) × (slice_get k.code y.pc ≡ Some i)
  instruction t y at able =
      let standing : Standing = record { server = s.rest.number; packed = false; thread = y } in
      let paths : HasPaths k = coherent_has_paths k c in
      let goes : GoesOn k standing = record { among = (among_thread (sight k).ground.threads t standing (thread_there k c.sound n s here t y at)).0; going = goes_still y.phase able } in
      let typed = running_typed k paths standing goes in
      let row = paths.types.is_table.rows y.pc typed.entry typed.known in
      (row.instruction, row.there)

  module _ (t : ℕ) (y : ThreadState) (on : enabled k.options s (Step t) ≡ true) (at : thread_in s.threads t ≡ Some y) where
    of_instruction : (i : Instr) → slice_get k.code y.pc ≡ Some i → HasResult k n (Step t)
    of_instruction (instr.Let o) e = quiet_steps step_let tt (λ q. cc) k n t s y (instr.Let o) c few here on at e refl no_place
    of_instruction (instr.Assign w o) e = each_assignment k n t s y (instr.Assign w o) c few here on at e refl tt
    of_instruction (instr.Read w take) e = each_read k n t s y (instr.Read w take) c few here on at e refl tt
    of_instruction (instr.Borrow w) e = borrows_have_results k n t s y (instr.Borrow w) c few here on at e refl tt
    of_instruction (instr.BorrowMut w) e = mutable_borrows_have_results k n t s y (instr.BorrowMut w) c few here on at e refl tt
    of_instruction (instr.Box o) e = quiet_steps step_box tt (λ q. cc) k n t s y (instr.Box o) c few here on at e refl no_place
    of_instruction (instr.Arith f a b) e = quiet_steps step_arith tt (λ q. cc) k n t s y (instr.Arith f a b) c few here on at e refl no_place
    of_instruction (instr.Print o) e = quiet_steps step_print tt (λ q. cc) k n t s y (instr.Print o) c few here on at e refl no_place
    of_instruction instr.Discard e = each_discard k n t s y instr.Discard c few here on at e refl tt
    of_instruction instr.DropSlot e = each_drop k n t s y instr.DropSlot c few here on at e refl tt
    of_instruction (instr.Spawn cs pc) e = each_spawn k n t s y (instr.Spawn cs pc) c few here on at e refl tt
    of_instruction (instr.Join o) e = join_steps k n t s y (instr.Join o) c few here on at e refl no_place
    of_instruction (instr.Mutex o) e = quiet_steps step_mutex tt (λ q. cc) k n t s y (instr.Mutex o) c few here on at e refl no_place
    of_instruction (instr.Dup w) e = dups_have_results k n t s y (instr.Dup w) c few here on at e refl tt
    of_instruction (instr.Lock w) e = locks_have_results k n t s y (instr.Lock w) c few here on at e refl tt
    of_instruction instr.Unlock e = quiet_steps step_unlock tt (λ q. cc) k n t s y instr.Unlock c few here on at e refl no_place
    of_instruction (instr.Par cs pc ds other) e = each_par k n t s y (instr.Par cs pc ds other) c few here on at e refl tt
    of_instruction instr.ParEnd e = pair_steps k n t s y instr.ParEnd c few here on at e refl no_place
    of_instruction (instr.End o) e = quiet_steps step_end tt (λ q. cc) k n t s y (instr.End o) c few here on at e refl no_place

  of_step : (t : ℕ) → enabled k.options s (Step t) ≡ true → HasResult k n (Step t)
  of_step t on = by (thread_in s.threads t) refl on
    where
      by : (o : Option ThreadState) → thread_in s.threads t ≡ o → has_phase can_step o ≡ true → HasResult k n (Step t)
      by None at able = absurd (cc able)
      by (Some y) at able = let i = instruction t y at able in of_instruction t y on at i.0 i.1

  module _ (i : ℕ) (on : enabled k.options s (Deliver i) ≡ true) where
    of_message : (m : Message) → slice_get s.rest.inbox i ≡ Some m → HasResult k n (Deliver i)
    of_message (message.Fetch w o a t) e = objects_have_results.fetches k n i s w o a t c.sound here on e
    of_message (message.Fetched w v t) e = fetched_have_results k n i s w v t c.sound few here on e
    of_message (message.Move w o a t) e = objects_have_results.moves k n i s w o a t c.sound here on e
    of_message (message.Moved w v t) e = each_moved k n i s w v t c few here on e
    of_message (message.Drop w o) e = objects_have_results.drops k n i s w o c.sound here on e
    of_message (message.Lock m a t) e = mutexes_have_results.locks k n i s m a t c.sound here on e
    of_message (message.Granted m v t) e = answers_have_results.grants k n i s m v t c.sound here on e
    of_message (message.Unlock m v) e = mutexes_have_results.unlocks k n i s m v c.sound here on e
    of_message (message.Dup m a t) e = dup_deliveries k n i s m a t c.sound few here on e
    of_message (message.Dupped m t) e = answers_have_results.shares k n i s m t c.sound here on e
    of_message (message.Release (released.Mutex m)) e = mutexes_have_results.releases k n i s m c.sound here on e
    of_message (message.Release (released.Task u)) e = tasks_let_go_have_results k n i s u c.sound here on e
    of_message (message.Start t) e = starts k n i s t c.sound here on e
    of_message (message.Join u a t) e = joins_have_results k n i s u a t c.sound here on e
    of_message (message.Joined u v t) e = answers_have_results.joins k n i s u v t c.sound here on e
    of_message (message.Finished u v) e = finishes_have_results k n i s u v c.sound here on e
    of_message (message.Migrate t) e = parcels k n i s t c.sound here on e

  of_delivery : (i : ℕ) → enabled k.options s (Deliver i) ≡ true → HasResult k n (Deliver i)
  of_delivery i on =
      let below : i < length s.rest.inbox = grind (arith, nat_tests, on) in
      let m = stands_at s.rest.inbox i below in
      of_message i on m.0 m.1

pub each_event : EventsHaveResults
each_event k n (Step t) s c few here on = of_step k n s c few here t on
each_event k n (Deliver i) s c few here on = of_delivery k n s c few here i on
each_event k n (Evict w) s c few here on = evictions k n w s here on
each_event k n (Migrate t target) s c few here on = migrations_have_results k n t target s c.sound here on
