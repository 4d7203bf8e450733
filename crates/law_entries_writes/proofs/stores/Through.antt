-- Moves and assignments through stars that are done have legal entries.
use Rattle.std.proofs.Common.{◌≡◌, ℕ, true, false, ◌++◌, Some, sym, subst}
use Rattle.std.specs.Prelude.{slice_get}
use Rattle.law_heap_writes.specs.Below.law_words_asked.Below.fr_base.declared.instruction.Instr.{Instr}
use Rattle.law_heap_writes.specs.Below.law_words_asked.Below.fr_base.declared.place.Lval.{Lval}
use Rattle.law_heap_writes.specs.Below.law_words_asked.Below.thread_state.View.{ThreadState, is_over}
use Rattle.law_heap_writes.specs.Below.law_words_asked.Below.server_model.declared.event.What.TheVariants.{Step}
use Rattle.law_heap_writes.specs.Below.law_words_asked.Below.server_model.Servers.{Server, Cluster, server_at}
use Rattle.law_heap_writes.specs.Below.law_words_asked.Below.server_model.Work.{thread_in, without_thread}
use Rattle.law_heap_writes.specs.Below.law_words_asked.Below.server_model.Events.{can_step, has_phase, enabled, begin_work, Stepped, step}
use Rattle.law_heap_writes.specs.Below.law_words_asked.Below.coherent_memory.Things.{servers_things}
use Rattle.law_heap_writes.specs.Below.law_words_asked.Below.coherent_types.ClusterTypes.{IsCoherent}
use Rattle.law_heap_writes.specs.Below.law_words_asked.Below.law_counts_sums.Laws.{Gives, FewEvents}
use Rattle.law_heap_writes.specs.Below.law_words_asked.Below.law_counts_sums.Kinds.{instr_kind}
use Rattle.law_heap_writes.proofs.Below.law_words_writes.Below.law_words_asked.Below.law_counts_sums.Proved.{IsProvedKind}
use Rattle.law_heap_writes.proofs.Below.law_words_writes.Below.law_words_asked.Below.law_counts_sums.RulesKeep.{sums_kept, sums_spend}
use Rattle.law_heap_writes.proofs.Below.law_words_writes.Below.law_words_asked.Below.law_counts_sums.Bags.{all_standing}
use Rattle.law_heap_writes.proofs.Below.law_words_writes.Below.law_words_asked.Below.law_counts_sums.Events.{others_of}
use Rattle.law_heap_writes.proofs.Below.law_words_writes.Below.law_words_asked.Below.law_counts_sums.Steps.{step_keeps}
use Rattle.law_heap_writes.proofs.Below.law_words_writes.Below.law_words_asked.Below.law_words_kept.prepared.Asking.{found_number}
use Rattle.law_heap_writes.proofs.Below.law_words_writes.Below.law_words_asked.writes.Passing.{Fits}
use Rattle.law_heap_writes.proofs.Below.law_words_writes.Below.law_words_values.carried.Hands.{first_ok}
use Rattle.law_heap_writes.specs.Below.law_words_asked.writes.Writing.{WritesThrough, assigns, moves}
use Rattle.law_entries_writes.proofs.Below.law_entries_variables.still.PlainSteps.{lives}
use Rattle.law_entries_reads.proofs.Below.law_entries_variables.variables.InStep.{by_number}
use Rattle.law_entries_reads.specs.places.Reads.{DoneLegal, DoneStepsLegal}
use Rattle.law_entries_writes.specs.stores.Through.{WritesThere, writes}
use Rattle.law_entries_writes.proofs.stores.Doing.{EndsDone, ends_done}
use Rattle.law_entries_writes.proofs.stores.Moves.{moves_done}
use Rattle.law_entries_writes.proofs.stores.Assigns.{assigns_done}

-- their steps have laws
proved_kind : (i : Instr) (w : Lval) (d : ℕ) → WritesThrough i w d → IsProvedKind (instr_kind i)
proved_kind _ w d (assigns o e) = tt
proved_kind _ w d (moves e) = tt

-- where the step is done at its server's number
done_at_home : (k : Cluster) → IsCoherent k → FewEvents k → (s : Server) → server_at k.servers s.rest.number ≡ Some s → (t : ℕ) (y : ThreadState) → thread_in s.threads t ≡ Some y → (i : Instr) → slice_get k.code y.pc ≡ Some i → (w : Lval) (d : ℕ) → WritesThrough i w d
    → DoneLegal k (record { server = s.rest.number; what = Step t })
done_at_home k coherent few s here t y at i code w d through c0 is_coloured = ends_done k coherent few s here t y at own c0 i code (λ on. fits) (λ on. ends i code through on)
  where
    own : thread_in s.threads y.number ≡ Some y
    own = by_number s t y at

    live : enabled k.options s (Step t) ≡ true → is_over y.phase ≡ false
    live on = lives y.phase (subst (λ o. has_phase can_step o ≡ true) at on)

    fits : Gives (λ (x : Stepped). Fits k coherent s here t y at x.hand) (step k.options.servers i (record { work = begin_work s.rest; thread = y }))
    fits =
        step_keeps sums_kept s.rest.number s.events t (all_standing s.rest.number (without_thread s.threads t) ++ servers_things (others_of k.servers s.rest.number)) k.options.servers i (record { work = begin_work s.rest; thread = y })
        (proved_kind i w d through) (λ v. sums_spend) (first_ok k coherent.sound s here t y at)

    ends : (j : Instr) (there : slice_get k.code y.pc ≡ Some j) → WritesThrough j w d → enabled k.options s (Step t) ≡ true
        → Gives (EndsDone k coherent few s here t y at own c0 j there) (step k.options.servers j (record { work = begin_work s.rest; thread = y }))
    ends _ there (assigns o e) on = assigns_done k coherent few s here t y at own (live on) on w d o there e c0 is_coloured
    ends _ there (moves e) on = moves_done k coherent few s here t y at own (live on) on w d there e c0 is_coloured

-- so the entries are legal
pub through_legal : DoneStepsLegal WritesThere
through_legal k number t s y i coherent few here at code (writes w d through) =
    let same : s.rest.number ≡ number = found_number number k.servers s here in
    subst (λ n. DoneLegal k (record { server = n; what = Step t })) same (done_at_home k coherent few s (subst (λ n. server_at k.servers n ≡ Some s) (sym same) here) t y at i code w d through)
