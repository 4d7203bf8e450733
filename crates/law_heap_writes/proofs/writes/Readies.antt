-- A step that writes through stars: what is known of the hand whose place is ready.
use Rattle.std.proofs.Common.{◌≡◌, ℕ, true, Option, Some, None, refl, sym, ap, subst, arith}
use Rattle.std.specs.Prelude.{⊤}
use Rattle.law_heap_writes.specs.Below.fr_base.declared.label.Plain.{Plain}
use Rattle.law_heap_writes.specs.Below.fr_base.declared.name.ObjNo.{ObjNo}
use Rattle.law_heap_writes.specs.Below.fr_base.declared.place.Lval.{Lval}
use Rattle.law_heap_writes.specs.Below.fr_base.declared.step.Fresh.{Fresh}
use Rattle.law_heap_writes.specs.Below.fr_base.declared.instruction.Instr.{Instr}
use Rattle.law_heap_writes.specs.Below.fr_base.declared.instruction.Instr.TheVariants as instr
use Rattle.law_heap_writes.specs.Below.fr_store.Store.{Val}
use Rattle.law_heap_writes.specs.Below.fr_sound.Seen.{seen_cell}
use Rattle.law_heap_writes.specs.Below.thread_state.View.{ThreadState}
use Rattle.law_heap_writes.specs.Below.server_model.declared.event.Event.{Event}
use Rattle.law_heap_writes.specs.Below.server_model.Servers.{Server, Cluster}
use Rattle.law_heap_writes.specs.Below.server_model.Work.{Hand}
use Rattle.law_heap_writes.specs.Below.server_model.Places.{Spot, in_slot}
use Rattle.law_heap_writes.specs.Below.server_model.Prepare.{WriteTo, Prepared, ready, requested, nothing, assigned, read_or_taken, prepare, write_stars}
use Rattle.law_heap_writes.specs.Below.server_model.Commit.{commit}
use Rattle.law_heap_writes.specs.Below.server_model.Events.{Stepped, has_phase, can_step, begin_work, committed, prepared, step}
use Rattle.law_heap_writes.specs.Below.coherent_memory.Things.{Location, at_slot, in_cell as in_object}
use Rattle.law_heap_writes.specs.Below.coherent_memory.Follow.{Ground, cell_of, locate}
use Rattle.law_heap_writes.specs.Below.coherent_memory.Sight.{sight}
use Rattle.law_heap_writes.specs.Below.coherent_memory.OneHeap.{object_value}
use Rattle.law_heap_writes.specs.Below.coherent_types.ClusterTypes.{IsCoherent}
use Rattle.law_heap_writes.specs.Below.law_counts_sums.Laws.{Gives, FewEvents}
use Rattle.law_heap_writes.specs.Below.law_words_paths.paths.HeapStore.{HasPaths}
use Rattle.law_heap_writes.proofs.Below.law_words_paths.paths.Alike.{leads_in_heap, heap_of_shown}
use Rattle.law_heap_writes.proofs.Below.law_words_paths.paths.Sole.{some_is}
use Rattle.law_words_writes.proofs.Below.law_heap_still.events.Prepares.{Fine as StillFine}
use Rattle.law_words_writes.proofs.Below.law_heap_still.events.Readied.{Readied}
use Rattle.law_heap_writes.proofs.Below.law_heap_steps.turns.Events.{AtStep}
use Rattle.law_heap_writes.proofs.Below.law_heap_steps.turns.ReadWalk.{passed_loads}
use Rattle.law_heap_writes.proofs.Below.law_heap_steps.turns.StarLines.{shows}
use Rattle.law_heap_writes.proofs.Below.law_results_reads.Known.{Steps, standing, paths, goes}
use Rattle.law_words_writes.proofs.Below.law_results_events.writes.Route.{Route, Writing, At, a_slot, Fine, begins, all_hops}
use Rattle.law_words_writes.specs.Below.law_words_asked.writes.Writing.{WritesThrough, assigns, moves}
use Rattle.law_words_writes.proofs.Below.law_words_asked.writes.Ways.{route}
use Rattle.law_heap_writes.proofs.writes.Following.{Lay, Came, all_came}

module _ (k : Cluster) (co : IsCoherent k) (few : FewEvents k) (e : Event) (i : Instr) (s : Server) (t : ℕ) (y : ThreadState) (a : AtStep k e i s t y) (w : Lval) (d : ℕ) (through : WritesThrough i w d) where
  abbrev pub step_here : Steps k e.server t s y i
  step_here = record { coherent = co; few = few; here = a.here; on = subst (λ o. has_phase can_step o ≡ true) (sym a.at) a.on; at = a.at; code = a.code }

  abbrev pub start : Hand
  start = record { work = begin_work s.rest; thread = y }

  abbrev pub g : Ground
  g = (sight k).ground

  abbrev pub leads : ℕ → Option Location
  leads = locate g y.number w.slot

  pub way : Route s.rest y (cell_of g.cells) leads w.depth
  way = route k e.server t s y i step_here w d through

  abbrev walk : Prepared
  walk = write_stars w.depth 0 start (in_slot w.slot)

  fine : Fine s.rest y (cell_of g.cells) leads ⊤ w.depth walk
  fine = all_hops s.rest y (cell_of g.cells) leads ⊤ w.depth way (λ j less le. tt) w.depth 0 (omega arith) start (in_slot w.slot) (at_slot y.number w.slot) refl (a_slot w.slot) (begins s.rest y (cell_of g.cells) leads start refl refl)

  came : Came g s.rest y w.slot w.depth way w.depth walk
  came =
      all_came g s.rest y w.slot w.depth way w.depth 0 (omega arith) start (in_slot w.slot) (at_slot y.number w.slot) refl (a_slot w.slot) (begins s.rest y (cell_of g.cells) leads start refl refl)
      (refl, λ l f. subst (Lay g s.rest y w.slot w.depth way) (some_is f) tt)

  -- so many stars lead the hand to the spot
  pub record IsReady (h : Hand) (sp : Spot) : Type 0 where
    pub location : Location
    pub ends : leads w.depth ≡ Some location
    pub spot : At s.rest y (cell_of g.cells) leads h.work.rest.partition w.depth sp location
    pub way_there : Writing s.rest y (cell_of g.cells) leads w.depth h
    pub labels : h.work.labels ≡ passed_loads g y.number w.slot w.depth
    pub lay : Lay g s.rest y w.slot w.depth way location
    pub readied : Readied start h

  -- its place is prepared
  prepared_by : (servers : ℕ) (j : Instr) → WritesThrough j w d → step servers j start ≡ prepared servers j walk
  prepared_by servers _ (assigns o f) = ap (λ m. prepared servers (instr.Assign w o) (prepare (assigned w m y) start)) f
  prepared_by servers _ (moves f) = ap (λ m. prepared servers (instr.Read w true) (prepare (Some (read_or_taken w m true)) start)) f

  -- where the step is done, the place was ready
  pub by_ready : (Q : Stepped → Type 0) → ((h : Hand) (sp : Spot) → IsReady h sp → Gives (λ (x : Stepped). (names : Fresh) → x.names ≡ Some names → Q x) (committed (commit k.options.servers i sp h)))
      → Gives (λ (x : Stepped). (names : Fresh) → x.names ≡ Some names → Q x) (step k.options.servers i start)
  by_ready Q go = subst (Gives (λ (x : Stepped). (names : Fresh) → x.names ≡ Some names → Q x)) (sym (prepared_by k.options.servers i through)) (by walk fine came (shows k co e i s t y a (Some (WriteTo w))))
    where
      by : (p : Prepared) → Fine s.rest y (cell_of g.cells) leads ⊤ w.depth p → Came g s.rest y w.slot w.depth way w.depth p → StillFine start p → Gives (λ (x : Stepped). (names : Fresh) → x.names ≡ Some names → Q x) (prepared k.options.servers i p)
      by (ready h sp) f c r = go h sp (record { location = f.0; ends = f.1; spot = f.2; way_there = f.3; labels = c.0; lay = c.1 f.0 f.1; readied = r.0 })
      by (requested h) f c r = λ names q. absurd (cc q)
      by nothing f c r = tt

  -- an object at its end is in the one heap
  pub end_shown : (o : ObjNo) → leads w.depth ≡ Some (in_object o) → (p : Plain) × (object_value (sight k) o ≡ Some p)
  end_shown o ends =
      let c = paths k e.server t s y i step_here in
      let x = standing k e.server t s y i step_here in
      let on = goes k e.server t s y i step_here in
      let v = heap_of_shown k c x on o (leads_in_heap k c x on w.slot w.depth (in_object o) ends).1 in
      by c (object_value (sight k) o) refl v.0 v.1
    where
      by : (c : HasPaths k) (p : Option Plain) → object_value (sight k) o ≡ p → (v : Val) → seen_cell c.types.typing.gives p ≡ Some v → (p : Plain) × (object_value (sight k) o ≡ Some p)
      by c None q v f = absurd (cc f)
      by c (Some p) q v f = (p, q)
