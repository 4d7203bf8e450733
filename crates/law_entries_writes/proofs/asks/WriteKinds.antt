-- The steps that write through stars or end a mutable reference, and end in a request: their entries lead on.
use Rattle.std.proofs.Common.{◌≡◌, ℕ, zero, suc, true, Some, None, refl, sym, subst, ◌-◌}
use Rattle.std.specs.Prelude.{slice_get, length}
use Rattle.law_copies_writes.specs.Below.law_copies_kept.Below.fr_base.declared.place.Lval.{Lval}
use Rattle.law_copies_writes.specs.Below.law_copies_kept.Below.fr_base.declared.instruction.Operand.{Operand}
use Rattle.law_copies_writes.specs.Below.law_copies_kept.Below.fr_base.declared.instruction.Instr.{Instr}
use Rattle.law_copies_writes.specs.Below.law_copies_kept.Below.fr_base.declared.instruction.Instr.TheVariants as instr
use Rattle.law_copies_writes.specs.Below.law_copies_kept.Below.thread_state.View.{ThreadState}
use Rattle.law_copies_writes.specs.Below.law_copies_kept.Below.journal.View.{EntryView}
use Rattle.law_copies_writes.specs.Below.law_copies_kept.Below.server_model.declared.event.What.TheVariants.{Step}
use Rattle.law_copies_writes.specs.Below.law_copies_kept.Below.server_model.Servers.{Server, Cluster, server_at}
use Rattle.law_copies_writes.specs.Below.law_copies_kept.Below.server_model.Work.{Hand, last_of, thread_in}
use Rattle.law_copies_writes.specs.Below.law_copies_kept.Below.server_model.Places.{in_slot, on_top}
use Rattle.law_copies_writes.specs.Below.law_copies_kept.Below.server_model.Prepare.{Prepared, ending, assigned, read_or_taken, prepare, read_stars, write_stars}
use Rattle.law_copies_writes.specs.Below.law_copies_kept.Below.server_model.Commit.{read, assign, discard, drop_slot}
use Rattle.law_copies_writes.specs.Below.law_copies_kept.Below.server_model.Events.{enabled, begin_work, Stepped, step}
use Rattle.law_copies_writes.specs.Below.law_copies_kept.Below.server_model.Clusters.{apply}
use Rattle.law_entries_writes.specs.Below.law_entries_variables.Below.coloured_heap.Heap.{Coloured}
use Rattle.law_copies_writes.specs.Below.law_copies_kept.Below.coherent_memory.Colours.{StandsColoured}
use Rattle.law_copies_writes.specs.Below.law_copies_kept.Below.coherent_types.ClusterTypes.{IsCoherent}
use Rattle.law_copies_writes.specs.Below.law_copies_kept.Below.law_counts_sums.Laws.{Gives, FewEvents}
use Rattle.law_copies_writes.specs.Below.law_copies_kept.Below.law_counts_sums.Kinds.{instr_kind}
use Rattle.law_copies_writes.proofs.Below.law_copies_kept.Below.law_counts_sums.Proved.{IsProvedKind}
use Rattle.law_copies_writes.proofs.Below.law_words_kept.prepared.Asking.{found_number}
use Rattle.law_entries_writes.specs.Below.law_words_asked.writes.Writing.{WritesThrough, assigns, moves}
use Rattle.law_entries_writes.specs.Below.law_entries_variables.deliveries.Entries.{LeadsOn}
use Rattle.law_entries_writes.proofs.Below.law_entries_reads.asks.BorrowKinds.{done_so, Well, prepared_so, ok_steps}
use Rattle.law_entries_writes.proofs.Below.law_entries_reads.asks.Ending.{DoneOrEnds, ends_with}
use Rattle.law_entries_writes.proofs.walks.Walks.{ready_led, asks_led, no_led}
use Rattle.law_entries_writes.proofs.walks.Ways.{AllWritten, written_led}
use Rattle.law_entries_writes.specs.asks.Writes.{MovesThatAskLegal, AssignmentsThatAskLegal, DiscardsThatAskLegal, DropsThatAskLegal}
use Rattle.law_entries_writes.proofs.asks.Asked.{wish_ends}
use Rattle.law_entries_writes.proofs.asks.EndKinds.{live, drops_well, discards_well, assigns_well}

module _ (k : Cluster) (coherent : IsCoherent k) (few : FewEvents k) (s : Server) (here : server_at k.servers s.rest.number ≡ Some s) (t : ℕ) (y : ThreadState) (at : thread_in s.threads t ≡ Some y) (on : enabled k.options s (Step t) ≡ true) (c0 : Coloured) (is_coloured : StandsColoured k c0) where
  abbrev start : Hand
  start = record { work = begin_work s.rest; thread = y }

  abbrev Outcome : Stepped → Type 0
  Outcome = DoneOrEnds k coherent s here t y at c0

  -- a place that is followed for writing
  writes_well : (i : Instr) (code : slice_get k.code y.pc ≡ Some i) (w : Lval) (d : ℕ) → WritesThrough i w d → Well k coherent few s here t y at i code c0 (write_stars w.depth 0 start (in_slot w.slot))
  writes_well i code w d through = by (write_stars w.depth 0 start (in_slot w.slot)) (written_led k coherent few s here t y at on i code w d through c0 is_coloured)
    where
      by : (p : Prepared) → AllWritten k coherent few s here t y at on i code w d through c0 is_coloured p → Well k coherent few s here t y at i code c0 p
      by _ (ready_led l located spot on_way walk led) = tt
      by _ (asks_led {h = h} q) = wish_ends k coherent s here t y at c0 is_coloured (live k coherent few s here t y at on c0 is_coloured) h q
      by _ no_led = tt

  pub moves_so : (w : Lval) (code : slice_get k.code y.pc ≡ Some (instr.Read w true)) → Gives Outcome (step k.options.servers (instr.Read w true) start)
  moves_so w code = prepared_so k coherent few s here t y at (instr.Read w true) code c0 (prepare (Some (read_or_taken w w.depth true)) start) (by w.depth refl) (λ h sp. done_so k coherent few s here t y at (instr.Read w true) code c0 (read true sp h))
    where
      by : (d : ℕ) → w.depth ≡ d → Well k coherent few s here t y at (instr.Read w true) code c0 (prepare (Some (read_or_taken w d true)) start)
      by zero e = subst (λ d. Well k coherent few s here t y at (instr.Read w true) code c0 (read_stars d start (in_slot w.slot))) (sym e) tt
      by (suc d) e = writes_well (instr.Read w true) code w d (moves e)

  pub assigns_so : (w : Lval) (o : Operand) (code : slice_get k.code y.pc ≡ Some (instr.Assign w o)) → Gives Outcome (step k.options.servers (instr.Assign w o) start)
  assigns_so w o code = prepared_so k coherent few s here t y at (instr.Assign w o) code c0 (prepare (assigned w w.depth y) start) (by w.depth refl) (λ h sp. done_so k coherent few s here t y at (instr.Assign w o) code c0 (assign w w.depth o sp h))
    where
      by : (d : ℕ) → w.depth ≡ d → Well k coherent few s here t y at (instr.Assign w o) code c0 (prepare (assigned w d y) start)
      by zero e = assigns_well k coherent few s here t y at on c0 is_coloured w o e code
      by (suc d) e = writes_well (instr.Assign w o) code w d (assigns o e)

  pub discards_so : (code : slice_get k.code y.pc ≡ Some instr.Discard) → Gives Outcome (step k.options.servers instr.Discard start)
  discards_so code =
      prepared_so k coherent few s here t y at instr.Discard code c0 (prepare (ending on_top (last_of y.temps)) start) (discards_well k coherent few s here t y at on c0 is_coloured code)
      (λ h sp. done_so k coherent few s here t y at instr.Discard code c0 (discard sp h))

  pub drops_so : (code : slice_get k.code y.pc ≡ Some instr.DropSlot) → Gives Outcome (step k.options.servers instr.DropSlot start)
  drops_so code =
      prepared_so k coherent few s here t y at instr.DropSlot code c0 (prepare (ending (in_slot (length y.slots - 1)) (last_of y.slots)) start) (drops_well k coherent few s here t y at on c0 is_coloured code)
      (λ h sp. done_so k coherent few s here t y at instr.DropSlot code c0 (drop_slot sp h))

-- from what its step comes to
by_step : (k : Cluster) (number t : ℕ) (s : Server) (y : ThreadState) (i : Instr) → IsProvedKind (instr_kind i) → (coherent : IsCoherent k) → FewEvents k → server_at k.servers number ≡ Some s → (at : thread_in s.threads t ≡ Some y) → slice_get k.code y.pc ≡ Some i → (c0 : Coloured)
    → ((h : server_at k.servers s.rest.number ≡ Some s) → enabled k.options s (Step t) ≡ true → Gives (DoneOrEnds k coherent s h t y at c0) (step k.options.servers i (record { work = begin_work s.rest; thread = y })))
    → Gives (λ (d : Cluster × EntryView). d.1.done ≡ None → LeadsOn k.options d.1 c0 d.0) (apply k (record { server = number; what = Step t }))
by_step k number t s y i kind coherent few here at code c0 so =
    subst (λ n. server_at k.servers n ≡ Some s → Gives (λ (d : Cluster × EntryView). d.1.done ≡ None → LeadsOn k.options d.1 c0 d.0) (apply k (record { server = n; what = Step t }))) (found_number number k.servers s here)
    (λ h. ends_with k coherent s h t y at c0 few i code (λ on. ok_steps k coherent few s h t y at i code c0 kind) (λ on. so h on)) here

pub moves_legal : MovesThatAskLegal
moves_legal w k number t s y coherent few here at code c0 is_coloured = by_step k number t s y (instr.Read w true) tt coherent few here at code c0 (λ h on. moves_so k coherent few s h t y at on c0 is_coloured w code)

pub assignments_legal : AssignmentsThatAskLegal
assignments_legal w o k number t s y coherent few here at code c0 is_coloured = by_step k number t s y (instr.Assign w o) tt coherent few here at code c0 (λ h on. assigns_so k coherent few s h t y at on c0 is_coloured w o code)

pub discards_legal : DiscardsThatAskLegal
discards_legal k number t s y coherent few here at code c0 is_coloured = by_step k number t s y instr.Discard tt coherent few here at code c0 (λ h on. discards_so k coherent few s h t y at on c0 is_coloured code)

pub drops_legal : DropsThatAskLegal
drops_legal k number t s y coherent few here at code c0 is_coloured = by_step k number t s y instr.DropSlot tt coherent few here at code c0 (λ h on. drops_so k coherent few s h t y at on c0 is_coloured code)
