-- A step that writes through stars: where it is done, its place was ready.
use Rattle.std.proofs.Common.{◌≡◌, ℕ, zero, suc, ◌≤◌, not, true, Option, Some, refl, sym, ap, subst, ◌∙◌, arith}
use Rattle.std.specs.Prelude.{slice_get}
use Rattle.law_heap_writes.specs.Below.law_words_asked.Below.fr_base.declared.name.ObjNo.{ObjNo}
use Rattle.law_heap_writes.specs.Below.law_words_asked.Below.fr_base.declared.place.Lval.{Lval}
use Rattle.law_heap_writes.specs.Below.law_words_asked.Below.fr_base.declared.instruction.Instr.{Instr}
use Rattle.law_heap_writes.specs.Below.law_words_asked.Below.fr_base.declared.instruction.Instr.TheVariants as instr
use Rattle.law_heap_writes.specs.Below.law_words_asked.Below.heap_partition.declared.value.Cell.{Cell}
use Rattle.law_heap_writes.specs.Below.law_words_asked.Below.thread_state.View.{ThreadState}
use Rattle.law_heap_writes.specs.Below.law_words_asked.Below.server_model.declared.event.Event.{Event}
use Rattle.law_heap_writes.specs.Below.law_words_asked.Below.server_model.declared.event.What.TheVariants.{Step}
use Rattle.law_heap_writes.specs.Below.law_words_asked.Below.server_model.Servers.{Server, Cluster, server_at}
use Rattle.law_heap_writes.specs.Below.law_words_asked.Below.server_model.Work.{Hand, thread_in}
use Rattle.law_heap_writes.specs.Below.law_words_asked.Below.server_model.Places.{Spot, in_slot}
use Rattle.law_heap_writes.specs.Below.law_words_asked.Below.server_model.Prepare.{Prepared, ready, requested, nothing, assigned, read_or_taken, prepare, write_stars}
use Rattle.law_heap_writes.specs.Below.law_words_asked.Below.server_model.Commit.{commit}
use Rattle.law_heap_writes.specs.Below.law_words_asked.Below.server_model.Events.{can_step, has_phase, enabled, begin_work, Stepped, committed, prepared, step}
use Rattle.law_entries_writes.specs.Below.law_entries_variables.Below.coloured_heap.Heap.{Coloured}
use Rattle.law_heap_writes.specs.Below.law_words_asked.Below.coherent_memory.Names.{same_object}
use Rattle.law_heap_writes.specs.Below.law_words_asked.Below.coherent_memory.Things.{Location, at_slot, in_cell as in_object}
use Rattle.law_heap_writes.specs.Below.law_words_asked.Below.coherent_memory.Follow.{Ground, cell_of, locate}
use Rattle.law_heap_writes.specs.Below.law_words_asked.Below.coherent_memory.Sight.{sight}
use Rattle.law_heap_writes.specs.Below.law_words_asked.Below.coherent_memory.Colours.{StandsColoured}
use Rattle.law_heap_writes.specs.Below.law_words_asked.Below.coherent_types.ClusterTypes.{IsCoherent}
use Rattle.law_heap_writes.specs.Below.law_words_asked.Below.law_counts_sums.Laws.{Gives, FewEvents}
use Rattle.law_heap_writes.proofs.Below.law_words_writes.Below.law_words_asked.Below.law_counts_sums.Bags.{thread_number}
use Rattle.law_heap_writes.proofs.Below.law_words_writes.Below.law_words_asked.Below.law_words_paths.paths.Sole.{some_is}
use Rattle.law_heap_writes.proofs.Below.law_words_writes.Below.law_words_asked.Below.law_results_reads.Known.{Steps}
use Rattle.law_heap_writes.proofs.Below.law_words_writes.Below.law_words_asked.Below.law_results_events.writes.Memory.{Leads}
use Rattle.law_heap_writes.proofs.Below.law_words_writes.Below.law_words_asked.Below.law_results_events.writes.Route.{Route, Writing, At, a_slot, begins}
use Rattle.law_heap_writes.specs.Below.law_words_asked.writes.Writing.{WritesThrough, assigns, moves}
use Rattle.law_heap_writes.proofs.Below.law_words_writes.Below.law_words_asked.writes.Hops.{Walk}
use Rattle.law_heap_writes.proofs.Below.law_words_writes.Below.law_words_asked.writes.Ways.{route}
use Rattle.law_heap_writes.proofs.Below.law_words_writes.Below.law_words_asked.writes.Asking.{steps}
use Rattle.law_entries_writes.proofs.Below.law_entries_variables.Below.law_heap_still.events.Alike.{LocksSee}
use Rattle.law_heap_writes.proofs.Below.law_heap_steps.turns.Events.{AtStep}
use Rattle.law_heap_writes.proofs.Below.law_heap_steps.turns.ReadWalk.{passed_loads}
use Rattle.law_heap_writes.proofs.Below.law_heap_steps.mutexes.ThreadTurns.{quiet}
use Rattle.law_heap_writes.proofs.writes.Seen.{single}
use Rattle.law_heap_writes.proofs.writes.Untouched.{locks_pass_by}
use Rattle.law_entries_writes.proofs.Below.law_entries_reads.asks.Recoloured.{NewWords}
use Rattle.law_entries_writes.proofs.walks.Given.{Given}
use Rattle.law_entries_writes.proofs.walks.Walks.{ready_led}
use Rattle.law_entries_writes.proofs.walks.Ways.{AllWritten, written_led}
use Rattle.law_entries_writes.proofs.stores.Lays.{LaysAt, LaysTo, AllLay, to_lay, all_lay}
use Rattle.law_entries_writes.proofs.stores.Doing.{EndsDone}

module _ (k : Cluster) (coherent : IsCoherent k) (few : FewEvents k) (s : Server) (here : server_at k.servers s.rest.number ≡ Some s) (t : ℕ) (y : ThreadState) (at : thread_in s.threads t ≡ Some y) (own : thread_in s.threads y.number ≡ Some y)
    (on : enabled k.options s (Step t) ≡ true) (i : Instr) (code : slice_get k.code y.pc ≡ Some i) (w : Lval) (d : ℕ) (through : WritesThrough i w d) (c0 : Coloured) (is_coloured : StandsColoured k c0) where
  abbrev n : ℕ
  n = s.rest.number

  abbrev pub start : Hand
  start = record { work = begin_work s.rest; thread = y }

  abbrev pub g : Ground
  g = (sight k).ground

  abbrev pub place : ℕ → Option Location
  place = locate g y.number w.slot

  abbrev pub its : Steps k n t s y i
  its = steps k coherent few s here t y at on i code w d through

  pub way : Route s.rest y (cell_of g.cells) place w.depth
  way = route k n t s y i its w d through

  abbrev walk : Prepared
  walk = write_stars w.depth 0 start (in_slot w.slot)

  -- so many stars lead the hand to the spot
  pub record IsReadied (h : Hand) (sp : Spot) : Type 0 where
    pub location : Location
    pub ends : place w.depth ≡ Some location
    pub spot : At s.rest y (cell_of g.cells) place h.work.rest.partition w.depth sp location
    pub writing : Writing s.rest y (cell_of g.cells) place w.depth h
    pub walked : Walk k coherent s here t y at h sp
    pub words : NewWords
    pub given : Given k coherent s here t y at c0 is_coloured h words
    pub lays : LaysTo g s.rest y w.slot w.depth way w.depth
    pub labels : h.work.labels ≡ passed_loads g y.number w.slot w.depth

  first_lays : (l : Location) → place 0 ≡ Some l → LaysAt g s.rest y w.slot w.depth way l
  first_lays l e = subst (LaysAt g s.rest y w.slot w.depth way) (some_is e) tt

  none_less : (j : ℕ) → j ≤ 0 → j ≡ 0
  none_less zero le = refl
  none_less (suc j) le = absurd (omega (arith, le))

  lay : AllLay g s.rest y w.slot w.depth way w.depth walk
  lay =
      all_lay g s.rest y w.slot w.depth way w.depth 0 (omega arith) start (in_slot w.slot) (at_slot y.number w.slot) refl (a_slot w.slot) (begins s.rest y (cell_of g.cells) place start refl refl)
      (λ j le l e. first_lays l (ap place (sym (none_less j le)) ∙ e), (refl, λ l e. to_lay g s.rest y w.slot w.depth way w.depth way l (first_lays l e)))

  -- its place is prepared
  prepared_by : (servers : ℕ) (j : Instr) → WritesThrough j w d → step servers j start ≡ prepared servers j walk
  prepared_by servers _ (assigns o e) = ap (λ m. prepared servers (instr.Assign w o) (prepare (assigned w m y) start)) e
  prepared_by servers _ (moves e) = ap (λ m. prepared servers (instr.Read w true) (prepare (Some (read_or_taken w m true)) start)) e

  abbrev Ends : Stepped → Type 0
  Ends = EndsDone k coherent few s here t y at own c0 i code

  -- where the step is done, the place was ready
  pub by_ready : ((h : Hand) (sp : Spot) → IsReadied h sp → Gives Ends (committed (commit k.options.servers i sp h))) → Gives Ends (step k.options.servers i start)
  by_ready go = subst (Gives Ends) (sym (prepared_by k.options.servers i through)) (by walk lay (written_led k coherent few s here t y at on i code w d through c0 is_coloured))
    where
      by : (p : Prepared) → AllLay g s.rest y w.slot w.depth way w.depth p → AllWritten k coherent few s here t y at on i code w d through c0 is_coloured p → Gives Ends (prepared k.options.servers i p)
      by (ready h sp) f (ready_led l located spot writing walked led) = go h sp (record { location = l; ends = located; spot = spot; writing = writing; walked = walked; words = led.words; given = led.given; lays = f.0; labels = f.1.0 })
      by (requested h) f q = λ names. absurd (cc names)
      by nothing f q = tt

  -- THE OBJECT AT THE END

  -- it lay here when the event began
  pub end_lays : (o : ObjNo) (c : Cell) → place w.depth ≡ Some (in_object o) → cell_of g.cells o ≡ Some c → LaysTo g s.rest y w.slot w.depth way w.depth → (u : ℕ) × Leads s.rest.partition u c
  end_lays o c ends has lays = by (lays w.depth (omega arith) (in_object o) ends)
    where
      by : (u : ℕ) × (b : Cell) × (cell_of g.cells o ≡ Some b) × Leads s.rest.partition u b → (u : ℕ) × Leads s.rest.partition u c
      by (u, b, q, leads) = (u, subst (Leads s.rest.partition u) (some_is (sym q ∙ has)) leads)

  abbrev event : Event
  event = record { server = n; what = Step t }

  stepping : AtStep k event i s t y
  stepping = record { here = here; at = at; number = thread_number s.threads t y at; on = subst (λ o. has_phase can_step o ≡ true) at on; code = code; what = refl }

  -- no place of a lock passes it
  pub locks_beside : (o : ObjNo) → place w.depth ≡ Some (in_object o) → LocksSee (λ q. not (same_object q o)) k
  locks_beside o ends = locks_pass_by k n t s y i its w d through (quiet k coherent.sound event i (single i w d through) s t y stepping).alone o ends
