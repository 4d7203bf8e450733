-- The acts on the way to a place that is written run in the coloured heap.
use Rattle.std.proofs.Common.{◌≡◌, ℕ, true, [], ◌∷◌, ◌++◌, Option, Some, IsSome, refl, sym, ap, subst, ◌∙◌}
use Rattle.std.specs.Prelude.{slice_get}
use Rattle.law_heap_writes.specs.Below.fr_base.declared.place.Lval.{Lval}
use Rattle.law_heap_writes.specs.Below.fr_base.declared.instruction.Instr.{Instr}
use Rattle.law_heap_writes.specs.Below.journal.View.{EntryView}
use Rattle.law_heap_writes.specs.Below.journal.declared.act.Act.TheVariants as act
use Rattle.law_heap_writes.specs.Below.thread_state.View.{ThreadState}
use Rattle.law_heap_writes.specs.Below.server_model.declared.event.What.TheVariants.{Step}
use Rattle.law_heap_writes.specs.Below.server_model.Servers.{Server, Cluster, server_at}
use Rattle.law_heap_writes.specs.Below.server_model.Work.{Hand, thread_in, without_hops}
use Rattle.law_heap_writes.specs.Below.server_model.Places.{in_slot}
use Rattle.law_heap_writes.specs.Below.server_model.Prepare.{Prepared, write_stars}
use Rattle.law_heap_writes.specs.Below.server_model.Events.{enabled, begin_work}
use Rattle.law_entries_reads.specs.Below.law_entries_variables.Below.coloured_heap.Heap.{Coloured, ForObject, lies_at}
use Rattle.law_entries_reads.specs.Below.law_entries_variables.Below.coloured_heap.Legal.{acts_after}
use Rattle.law_heap_writes.specs.Below.coherent_memory.Colours.{StandsColoured}
use Rattle.law_heap_writes.specs.Below.coherent_types.ClusterTypes.{IsCoherent}
use Rattle.law_heap_writes.specs.Below.law_counts_sums.Laws.{FewEvents}
use Rattle.law_heap_writes.proofs.Below.law_words_asked.Below.law_words_kept.prepared.Asking.{found_number}
use Rattle.law_heap_writes.specs.Below.law_words_asked.writes.Writing.{WritesThrough}
use Rattle.law_entries_reads.proofs.Below.law_entries_variables.deliveries.Runs.{Runs}
use Rattle.law_entries_reads.proofs.asks.Recoloured.{recoloured, wishing, pull_allowed}
use Rattle.law_entries_writes.specs.walks.Walked.{ActsRun, WrittenPlacesRun}
use Rattle.law_entries_writes.proofs.walks.Acts.{runs_more, quiet}
use Rattle.law_entries_writes.proofs.walks.Given.{q0}
use Rattle.law_entries_writes.proofs.walks.Hops.{Wishes}
use Rattle.law_entries_writes.proofs.walks.Walks.{ready_led, asks_led, no_led}
use Rattle.law_entries_writes.proofs.walks.Ways.{AllWritten, written_led}

runs_some : {A : Type 0} (o : Option A) (a : A) → o ≡ Some a → IsSome o
runs_some o a e = subst (λ x. IsSome x) (sym e) refl

module _ (k : Cluster) (coherent : IsCoherent k) (s : Server) (here : server_at k.servers s.rest.number ≡ Some s) (t : ℕ) (y : ThreadState) (at : thread_in s.threads t ≡ Some y) (c0 : Coloured) (is_coloured : StandsColoured k c0) where
  -- the acts of a hand that asked for an object, with the wish that comes
  pub wish_runs : (h : Hand) (q : Wishes k coherent s here t y at c0 is_coloured h) (e : EntryView) → e.server ≡ s.rest.number
      → Runs k.options e (without_hops h.work.acts) c0 (wishing (ForObject q.pointer.object q.pointer.word e.server) (recoloured q.words (q0 k coherent s here t y at c0 is_coloured)))
  wish_runs h q e own =
      let r = recoloured q.words (q0 k coherent s here t y at c0 is_coloured) in
      let p = q.pointer in
      subst (λ (v : Hand). Runs k.options e (without_hops v.work.acts) c0 (wishing (ForObject p.object p.word e.server) r)) (sym q.asks)
      (quiet k.options e (q.hand.work.acts ++ act.Pull p.object p.word ∷ []) c0 (wishing (ForObject p.object p.word e.server) r)
      (runs_more k.options e q.hand.work.acts (act.Pull p.object p.word) c0 r (wishing (ForObject p.object p.word e.server) r) ((q.given).runs e own)
      (λ d f. pull_allowed k.options e d r p.object p.word f q.named (ap (λ m. lies_at m ((q.named).living).place) own ∙ q.away))))

module _ (k : Cluster) (coherent : IsCoherent k) (few : FewEvents k) (s : Server) (here : server_at k.servers s.rest.number ≡ Some s) (t : ℕ) (y : ThreadState) (at : thread_in s.threads t ≡ Some y) (on : enabled k.options s (Step t) ≡ true) (i : Instr) (code : slice_get k.code y.pc ≡ Some i)
    (w : Lval) (d : ℕ) (through : WritesThrough i w d) (c0 : Coloured) (is_coloured : StandsColoured k c0) where
  all_run : (p : Prepared) → AllWritten k coherent few s here t y at on i code w d through c0 is_coloured p → ActsRun k.options s.rest.number c0 p
  all_run _ (ready_led {h = h} {sp = sp} l located spot way walk led) = λ e own. (let r = (led.given).runs e own in runs_some (acts_after k.options e h.work.acts c0) r.state r.runs)
  all_run _ (asks_led {h = h} q) = λ e own. (let r = wish_runs k coherent s here t y at c0 is_coloured h q e own in runs_some (acts_after k.options e (without_hops h.work.acts) c0) r.state r.runs)
  all_run _ no_led = tt

  run_there : ActsRun k.options s.rest.number c0 (write_stars w.depth 0 (record { work = begin_work s.rest; thread = y }) (in_slot w.slot))
  run_there = all_run (write_stars w.depth 0 (record { work = begin_work s.rest; thread = y }) (in_slot w.slot)) (written_led k coherent few s here t y at on i code w d through c0 is_coloured)

pub places_run : WrittenPlacesRun
places_run k number t s y i w d c coherent few here at on code through stands =
    subst (λ n. server_at k.servers n ≡ Some s → ActsRun k.options n c (write_stars w.depth 0 (record { work = begin_work s.rest; thread = y }) (in_slot w.slot))) (found_number number k.servers s here)
    (λ h. run_there k coherent few s h t y at on i code w d through c stands) here
