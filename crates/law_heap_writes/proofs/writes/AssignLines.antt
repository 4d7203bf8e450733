-- An assignment through stars that is done, wherever its place ends.
use Rattle.std.proofs.Common.{◌≡◌, ℕ, suc, true, false, List, Option, Some, None, refl, sym, ap, subst, ◌∙◌, arith}
use Rattle.std.specs.Prelude.{slice_get}
use Rattle.law_heap_writes.specs.Below.fr_base.declared.place.Lval.{Lval}
use Rattle.law_heap_writes.specs.Below.fr_base.declared.instruction.Operand.{Operand}
use Rattle.law_heap_writes.specs.Below.fr_base.declared.instruction.Instr.{Instr}
use Rattle.law_heap_writes.specs.Below.fr_base.declared.instruction.Instr.TheVariants as instr
use Rattle.law_heap_writes.specs.Below.fr_typing.Kinds.{Owned as OwnedType, Kind, own, Piece}
use Rattle.law_heap_writes.specs.Below.fr_typing.Places.{owned_shape, found, piece_shape, equal_shapes, shape_at}
use Rattle.law_heap_writes.specs.Below.fr_typing.Checks.{is_kept_out, has_shape_of}
use Rattle.law_heap_writes.specs.Below.fr_typing.Finding.{IsOpen}
use Rattle.law_heap_writes.specs.Below.fr_store.Keys.{slot_k}
use Rattle.law_heap_writes.specs.Below.fr_store.Typed.{KeyTypes}
use Rattle.law_heap_writes.specs.Below.fr_store.Below.{ExactOf}
use Rattle.law_heap_writes.proofs.Below.fr_store.Below.{Resolved, mut_place, resolved_writable}
use Rattle.law_heap_writes.specs.Below.fr_code.CodeTypes.{Entry, Table, HasType, InstrTypes, i_assign}
use Rattle.law_heap_writes.specs.Below.heap_partition.declared.value.Owned.{Owned}
use Rattle.law_heap_writes.specs.Below.thread_state.View.{ThreadState}
use Rattle.law_heap_writes.specs.Below.thread_state.declared.value.Value.{Value}
use Rattle.law_heap_writes.specs.Below.thread_state.declared.value.Value.TheVariants as value
use Rattle.law_heap_writes.specs.Below.server_model.declared.event.Event.{Event}
use Rattle.law_heap_writes.specs.Below.server_model.Servers.{Server, Cluster}
use Rattle.law_heap_writes.specs.Below.server_model.Work.{Hand, Popped, pop_owned, with_temps, then_some}
use Rattle.law_heap_writes.specs.Below.server_model.Places.{Spot, in_slot}
use Rattle.law_heap_writes.specs.Below.server_model.Commit.{goes_on, replace_at, assign}
use Rattle.law_heap_writes.specs.Below.server_model.Events.{Stepped, committed, step}
use Rattle.law_heap_writes.specs.Below.coherent_memory.Things.{Location, at_slot, in_cell as in_object}
use Rattle.law_heap_writes.specs.Below.coherent_memory.Follow.{Standing, cell_of, locate}
use Rattle.law_heap_writes.specs.Below.coherent_memory.Sight.{sight}
use Rattle.law_heap_writes.specs.Below.coherent_types.ClusterTypes.{IsCoherent}
use Rattle.law_heap_writes.specs.Below.law_counts_sums.Laws.{Gives, FewEvents}
use Rattle.law_heap_writes.specs.Below.law_words_paths.paths.HeapStore.{heap_store, GoesOn, IsUnmarked, HasPaths}
use Rattle.law_heap_writes.proofs.Below.law_words_paths.paths.Forms.{names as names_at}
use Rattle.law_heap_writes.proofs.Below.law_words_paths.paths.MayWrites.{awake_thread, slot_there, variable_unmarked}
use Rattle.law_heap_writes.proofs.Below.law_words_paths.paths.Sole.{some_is}
use Rattle.law_heap_writes.proofs.Below.law_heap_steps.turns.Instructions.{Pops, PopsTo}
use Rattle.law_heap_writes.proofs.Below.law_heap_steps.turns.Events.{AtStep}
use Rattle.law_heap_writes.proofs.Below.law_heap_steps.mutexes.NewLines.{popped_owned}
use Rattle.law_heap_writes.proofs.Below.law_results_reads.Known.{Steps, standing, paths, goes, types, entry, typed}
use Rattle.law_heap_writes.proofs.Below.law_results_reads.Found.{Stood, slot_stands, cell_stands}
use Rattle.law_heap_writes.proofs.Below.law_results_reads.Readers.{to_entry}
use Rattle.law_words_writes.proofs.Below.law_results_events.writes.Memory.{Leads}
use Rattle.law_words_writes.proofs.Below.law_results_events.writes.Route.{Route, At, a_slot, a_cell}
use Rattle.law_words_writes.proofs.Below.law_results_events.writes.Writes.{Light, owned_value, light_form, owned_part, kept_owned, end_is}
use Rattle.law_words_writes.specs.Below.law_words_asked.writes.Writing.{assigns}
use Rattle.law_words_writes.proofs.Below.law_words_asked.writes.Ways.{writes, short}
use Rattle.law_heap_writes.proofs.writes.AssignCells as cells
use Rattle.law_heap_writes.proofs.writes.AssignCells.{cell_assigned}
use Rattle.law_heap_writes.proofs.writes.AssignSlots.{slot_assigned}
use Rattle.law_heap_writes.proofs.writes.Following.{Lay}
use Rattle.law_heap_writes.proofs.writes.Readies as readies
use Rattle.law_heap_writes.proofs.writes.Readies.{IsReady, by_ready}

-- what typing knows of a place that is assigned
record IsAssigned (e : Entry) (w : Lval) : Type 0 where
  awake : e.forked ≡ false
  part : Piece
  has : HasType e.env w (found part)
  open_there : IsOpen e.env w
  kind : Kind
  kept_out : is_kept_out kind w.depth ≡ false
  shape : has_shape_of e.env part kind ≡ true

assigned_by : (table : Table) (e e2 : Entry) (w : Lval) (o : Operand) → InstrTypes table e (instr.Assign w o) e2 → IsAssigned e w
assigned_by table _ _ w o (i_assign {k = k} {p = p} takes has opens kept shape below) = record { awake = refl; part = p; has = has; open_there = opens; kind = k; kept_out = kept; shape = shape }

module _ (k : Cluster) (co : IsCoherent k) (few : FewEvents k) (e : Event) (w : Lval) (o : Operand) (s : Server) (t : ℕ) (y : ThreadState) (a : AtStep k e (instr.Assign w o) s t y) (d : ℕ) (depth : w.depth ≡ suc d) where
  abbrev i : Instr
  i = instr.Assign w o

  abbrev z : Steps k e.server t s y i
  z = readies.step_here k co few e i s t y a w d (assigns o depth)

  abbrev en : Entry
  en = entry k e.server t s y i z

  abbrev x : Standing
  x = standing k e.server t s y i z

  abbrev c : HasPaths k
  c = paths k e.server t s y i z

  abbrev on : GoesOn k x
  on = goes k e.server t s y i z

  abbrev E : KeyTypes
  E = c.types.typing.exact

  may : IsAssigned en w
  may =
      let at_it = typed k e.server t s y i z in
      let to = to_entry (types k e.server t s y i z).table y.pc en i at_it.0 at_it.1 (λ p f. cc) in
      assigned_by (types k e.server t s y i z).table en to.0 w o to.1

  place : Resolved (slot_k y.number) E true w may.part
  place =
      let thread = awake_thread k c x on may.awake in
      resolved_writable (slot_k y.number) E (mut_place c.types.typing.rank E (heap_store k c.types) c.types.state.typed) en.env thread.nested thread.slots w may.part (slot_there en.env w may.part may.has.is) may.open_there.path may.has.is

  unmarked : IsUnmarked x w.slot
  unmarked = variable_unmarked k c x on w.slot may.has.named

  its_type : (b : OwnedType) × (may.kind ≡ own b)
  its_type = kept_owned may.kind d (subst (λ m. is_kept_out may.kind m ≡ false) depth may.kept_out)

  light_there : (l : Location) (v : Value) → Stood k c x on place.type l v → Light v
  light_there _ v (slot_stands j _ P there exact form) =
      let shape : equal_shapes (piece_shape (shape_at en.env) may.part) (Some (owned_shape its_type.0)) ≡ true = subst (λ b. has_shape_of en.env may.part b ≡ true) its_type.1 may.shape in
      let own_it = owned_part (shape_at en.env) (slot_k y.number) E may.part its_type.0 place.type shape place.exact in
      light_form (names_at k c x on) P own_it.0 v (subst (ExactOf (slot_k y.number) E P) own_it.1 exact) form
  light_there _ _ (cell_stands q cell there fits) = owned_value cell.value

  abbrev Ready : Hand → Spot → Type 0
  Ready = cells.Ready k co few e w o s t y a d depth

  abbrev Done : Stepped → Type 0
  Done = cells.Done k co few e w o s t y a d depth

  module _ (h : Hand) (v : Owned) (rest : List Value) (pops : Pops o y.temps (value.Own v) rest) where
    put : (sp : Spot) → Ready h sp → Gives Done (committed (goes_on (replace_at sp v (with_temps rest h))))
    put sp r = by sp r.location r r.ends r.spot r.lay
      where
        by : (sp : Spot) (l : Location) → Ready h sp → locate (sight k).ground y.number w.slot w.depth ≡ Some l → At s.rest y (cell_of (sight k).ground.cells) (locate (sight k).ground y.number w.slot) h.work.rest.partition w.depth sp l
            → Lay (sight k).ground s.rest y w.slot w.depth (readies.way k co few e i s t y a w d (assigns o depth)) l → Gives Done (committed (goes_on (replace_at sp v (with_temps rest h))))
        by _ _ r ends (a_slot m) lay =
            let way : Route s.rest y (cell_of (sight k).ground.cells) (locate (sight k).ground y.number w.slot) w.depth = readies.way k co few e i s t y a w d (assigns o depth) in
            let there = end_is k e.server t s y i z w d depth (writes k e.server t s y i z w d (assigns o depth)) (short k e.server t s y i z w d (assigns o depth)) place.base place.boxes place.type place.res unmarked h (in_slot m) (at_slot y.number m) ends (a_slot m) r.way_there in
            let same : slice_get h.thread.slots m ≡ slice_get y.slots m = r.way_there.slots m (λ j less f. way.apart w.depth j less (omega arith) (at_slot y.number m) f ends) in
            slot_assigned k co few e w o s t y a d depth h m r ends there.item there.there (sym same ∙ there.there) (there.light (λ j u stood. light_there (at_slot y.number j) u stood)) v rest pops
        by _ _ r ends (a_cell b q p cell leads_it has object behind) lay =
            let same : lay.1 ≡ cell = some_is (sym lay.2 ∙ has) in
            cell_assigned k co few e w o s t y a d depth h b q r cell leads_it lay.0 (subst (Leads s.rest.partition lay.0) same lay.3) (ap (cell_of (sight k).ground.cells) object ∙ has) (ends ∙ ap (λ m. Some (in_object m)) (sym object)) v rest pops

  assign_ready : (h : Hand) (sp : Spot) → Ready h sp → Gives Done (committed (goes_on (assign w w.depth o sp h)))
  assign_ready h sp r = subst (λ m. Gives Done (committed (goes_on (assign w m o sp h)))) (sym depth) (by (pop_owned o h) (popped_owned o h))
    where
      by : (m : Option (Popped Owned)) → Gives (PopsTo o h value.Own) m → Gives Done (committed (goes_on (then_some m (λ q. replace_at sp q.item q.hand))))
      by None g = tt
      by (Some q) g =
          let temps : h.thread.temps ≡ y.temps = ap (λ (v : ThreadState). v.temps) r.way_there.thread in
          subst (λ m. Gives Done (committed (goes_on (replace_at sp q.item m)))) (sym g.hand) (put h q.item g.rest (subst (λ l. Pops o l (value.Own q.item) g.rest) temps g.pops) sp r)

  pub assign_line : Gives Done (step k.options.servers i (cells.start k co few e w o s t y a d depth))
  assign_line = by_ready k co few e i s t y a w d (assigns o depth) (cells.Wanted k co few e w o s t y a d depth) (λ h sp r. assign_ready h sp r)
