-- Each enabled assignment and each enabled move through stars has a result.
use Rattle.std.proofs.Common.{◌≡◌, ◌≤◌, ℕ, zero, suc, true, false, List, reverse, Option, Some, None, IsSome, refl, sym, ap, subst, ◌∙◌}
use Rattle.std.specs.Prelude.{slice_get}
use Rattle.law_results_reads.specs.Below.fr_base.declared.place.Lval.{Lval}
use Rattle.law_results_reads.specs.Below.fr_base.declared.instruction.Operand.{Operand}
use Rattle.law_results_reads.specs.Below.fr_base.declared.instruction.Instr.{Instr}
use Rattle.law_results_reads.specs.Below.fr_base.declared.instruction.Instr.TheVariants as instr
use Rattle.law_results_reads.specs.Below.fr_typing.Kinds.{Owned as OwnedType, Kind, own, Piece}
use Rattle.law_results_reads.specs.Below.fr_typing.Places.{owned_shape, found, piece_shape, equal_shapes, shape_at}
use Rattle.law_results_reads.specs.Below.fr_typing.Checks.{is_kept_out, has_shape_of}
use Rattle.law_results_reads.specs.Below.fr_typing.Finding.{IsOpen}
use Rattle.law_results_reads.specs.Below.fr_store.Keys.{slot_k}
use Rattle.law_results_reads.specs.Below.fr_store.Typed.{KeyTypes}
use Rattle.law_results_reads.specs.Below.fr_store.Below.{ExactOf}
use Rattle.law_results_reads.proofs.Below.fr_store.Below.{Resolved, mut_place, resolved_writable}
use Rattle.law_results_reads.specs.Below.fr_code.CodeTypes.{Entry, Table, Takes, HasType, InstrTypes, i_assign, i_move}
use Rattle.law_results_reads.specs.Below.thread_state.View.{ThreadState}
use Rattle.law_results_reads.specs.Below.thread_state.declared.value.Value.{Value}
use Rattle.law_results_reads.specs.Below.thread_state.declared.value.Value.TheVariants as value
use Rattle.law_results_reads.specs.Below.server_model.declared.event.What.TheVariants.{Step}
use Rattle.law_results_reads.specs.Below.server_model.Servers.{Server, Cluster}
use Rattle.law_results_reads.specs.Below.server_model.Work.{Hand, with_temps, then_some}
use Rattle.law_results_reads.specs.Below.server_model.Places.{Spot, in_slot}
use Rattle.law_results_reads.specs.Below.server_model.Prepare.{ReadTo, ending, assigned, read_or_taken, access_of, prepare, write_stars}
use Rattle.law_results_reads.specs.Below.server_model.Commit.{goes_on, replace_at, assign}
use Rattle.law_results_reads.specs.Below.server_model.Events.{committed, prepared}
use Rattle.law_results_reads.specs.Below.coherent_memory.Things.{Location, at_slot}
use Rattle.law_results_reads.specs.Below.coherent_memory.Follow.{Standing}
use Rattle.law_results_reads.specs.Below.coherent_memory.Paths.{path_of, assigning, taking, written_place}
use Rattle.law_results_reads.specs.Below.coherent_memory.Sight.{sight}
use Rattle.law_results_reads.specs.Below.coherent_memory.Walking.{path}
use Rattle.law_results_reads.specs.Below.law_counts_sums.Kinds.{step_assign, step_read, instr_kind}
use Rattle.law_results_reads.specs.Below.law_counts_sums.Laws.{HasResult}
use Rattle.law_results_reads.specs.Below.coherent_types.Names.{NameTypes}
use Rattle.law_results_reads.specs.Below.coherent_types.ClusterTypes.{temps_wrong}
use Rattle.law_results_reads.specs.Below.law_words_paths.paths.HeapStore.{heap_store, GoesOn, IsUnmarked, HasPaths}
use Rattle.law_results_reads.specs.Below.law_words_paths.paths.Pointing.{MayWrite, moves}
use Rattle.law_results_reads.proofs.Below.law_words_paths.paths.Forms.{names as names_at}
use Rattle.law_results_reads.proofs.Below.law_words_paths.paths.MayWrites.{awake_thread, slot_there, variable_unmarked, may_write_there}
use Rattle.law_results_reads.specs.Results.{StepsHaveResults}
use Rattle.law_results_reads.proofs.Operands.{gets, got_owned}
use Rattle.law_results_reads.proofs.Known.{Steps, hand, standing, paths, goes, types, names, entry, typed, temps_fit, has_result}
use Rattle.law_results_reads.proofs.Found.{Stood, slot_stands, cell_stands}
use Rattle.law_results_reads.proofs.Readers.{to_entry}
use Rattle.law_results_events.proofs.writes.Follows.{WritesPlace}
use Rattle.law_results_events.proofs.writes.StepRoutes.{C, at}
use Rattle.law_results_events.proofs.writes.Writes.{Light, owned_value, light_form, owned_part, kept_owned, under_temps, kept, end_is, replaces, moves_out, goes_so}

-- EACH OF THEM

-- what typing knows of a place that is assigned
record IsAssigned (e : Entry) (w : Lval) (o : Operand) : Type 0 where
  awake : e.forked ≡ false
  part : Piece
  has : HasType e.env w (found part)
  open_there : IsOpen e.env w
  kind : Kind
  left : List Kind
  takes_it : Takes o e.temps kind left
  kept_out : is_kept_out kind w.depth ≡ false
  shape : has_shape_of e.env part kind ≡ true

assigned_by : (table : Table) (e e2 : Entry) (w : Lval) (o : Operand) → InstrTypes table e (instr.Assign w o) e2 → IsAssigned e w o
assigned_by table _ _ w o (i_assign {us = us} {k = k} {p = p} takes has opens kept shape below) = record { awake = refl; part = p; has = has; open_there = opens; kind = k; left = us; takes_it = takes; kept_out = kept; shape = shape }

moved_short : (table : Table) (e e2 : Entry) (w : Lval) → InstrTypes table e (instr.Read w true) e2 → w.depth ≤ 8
moved_short table _ _ w (i_move waits has moved free own_path) = has.short

module _ (k : Cluster) (n t : ℕ) (s : Server) (y : ThreadState) (w : Lval) (d : ℕ) (depth : w.depth ≡ suc d) (o : Operand) (z : Steps k n t s y (instr.Assign w o)) where
  abbrev i : Instr
  i = instr.Assign w o

  abbrev e : Entry
  e = entry k n t s y i z

  abbrev x : Standing
  x = standing k n t s y i z

  abbrev c : HasPaths k
  c = paths k n t s y i z

  abbrev on : GoesOn k x
  on = goes k n t s y i z

  abbrev E : KeyTypes
  E = c.types.typing.exact

  abbrev N : NameTypes
  N = names k n t s y i z

  may : IsAssigned e w o
  may =
      let at_it = typed k n t s y i z in
      let to = to_entry (types k n t s y i z).table y.pc e i at_it.0 at_it.1 (λ p f. cc) in
      assigned_by (types k n t s y i z).table e to.0 w o to.1

  place : Resolved (slot_k y.number) E true w may.part
  place =
      let thread = awake_thread k c x on may.awake in
      resolved_writable (slot_k y.number) E (mut_place c.types.typing.rank E (heap_store k c.types) c.types.state.typed) e.env thread.nested thread.slots w may.part (slot_there e.env w may.part may.has.is) may.open_there.path may.has.is

  unmarked : IsUnmarked x w.slot
  unmarked = variable_unmarked k c x on w.slot may.has.named

  writes : written_place (path (sight k) x) ≡ Some w
  writes = ap (λ b. written_place (path_of b y)) z.code ∙ ap (λ m. written_place (assigning y.slots w m)) depth

  -- what is assigned is owned, and so is what stands at the end, if anything does
  its_type : (b : OwnedType) × (may.kind ≡ own b)
  its_type = kept_owned may.kind d (subst (λ m. is_kept_out may.kind m ≡ false) depth may.kept_out)

  light_there : (l : Location) (v : Value) → Stood k c x on place.type l v → Light v
  light_there _ v (slot_stands j _ P there exact form) =
      let shape : equal_shapes (piece_shape (shape_at e.env) may.part) (Some (owned_shape its_type.0)) ≡ true = subst (λ b. has_shape_of e.env may.part b ≡ true) its_type.1 may.shape in
      let own_it = owned_part (shape_at e.env) (slot_k y.number) E may.part its_type.0 place.type shape place.exact in
      light_form (names_at k c x on) P own_it.0 v (subst (ExactOf (slot_k y.number) E P) own_it.1 exact) form
  light_there _ _ (cell_stands q cell there fits) = owned_value cell.value

  assigns : IsSome (prepared k.options.servers i (write_stars w.depth 0 (hand k n t s y i z) (in_slot w.slot)))
  assigns =
      goes_so k n t s y i z w d depth writes may.has.short place.base place.boxes place.type place.res unmarked
      (λ h sp l ends spot a.
      let keeps = kept k n t s y i z w d depth writes may.has.short place.base place.boxes place.type place.res unmarked h a in
      let b = its_type.0 in
      let temps : temps_wrong N e.temps (reverse h.thread.temps) ≡ 0 = ap (λ (m : ThreadState). temps_wrong N e.temps (reverse m.temps)) a.thread ∙ temps_fit k n t s y i z in
      let got = gets N o e.temps may.left (own b) h (subst (λ m. Takes o e.temps m may.left) its_type.1 may.takes_it) temps in
      let v = got_owned N o h b may.left got in
      let h1 : Hand = with_temps got.rest h in
      let there = end_is k n t s y i z w d depth writes may.has.short place.base place.boxes place.type place.res unmarked h sp l ends spot a in
      subst (λ m. IsSome (committed (goes_on (assign w m o sp h)))) (sym depth)
      (subst (λ m. IsSome (committed (goes_on (then_some m (λ u. replace_at sp u.item u.hand))))) (sym v.2)
      (replaces k n t s y i z w d depth writes may.has.short place.base place.boxes place.type place.res unmarked h1 sp l there.item v.0 spot (record { walk = keeps.walk; cache = keeps.cache })
      (under_temps s.rest y (C k n t s y i z w writes may.has.short place.base place.boxes place.type place.res unmarked) (at k n t s y i z w writes may.has.short place.base place.boxes place.type place.res unmarked) h w.depth sp l got.rest spot ∙ there.there)
      (there.light (λ m u stood. light_there (at_slot y.number m) u stood)))))

  assign_step : HasResult k n (Step t)
  assign_step = has_result k n t s y i z (subst (λ m. IsSome (prepared k.options.servers i (prepare (assigned w m y) (hand k n t s y i z)))) (sym depth) assigns)

module _ (k : Cluster) (n t : ℕ) (s : Server) (y : ThreadState) (w : Lval) (d : ℕ) (depth : w.depth ≡ suc d) (z : Steps k n t s y (instr.Read w true)) where
  abbrev i2 : Instr
  i2 = instr.Read w true

  may_move : MayWrite k (paths k n t s y i2 z).types (standing k n t s y i2 z) w
  may_move = may_write_there k (paths k n t s y i2 z) (standing k n t s y i2 z) (goes k n t s y i2 z) i2 w z.code moves

  short_move : w.depth ≤ 8
  short_move =
      let at_it = typed k n t s y i2 z in
      let to = to_entry (types k n t s y i2 z).table y.pc (entry k n t s y i2 z) i2 at_it.0 at_it.1 (λ p f. cc) in
      moved_short (types k n t s y i2 z).table (entry k n t s y i2 z) to.0 w to.1

  writes_move : written_place (path (sight k) (standing k n t s y i2 z)) ≡ Some w
  writes_move = ap (λ b. written_place (path_of b y)) z.code ∙ ap (λ m. written_place (taking w m)) depth

  moves_it : IsSome (prepared k.options.servers i2 (write_stars w.depth 0 (hand k n t s y i2 z) (in_slot w.slot)))
  moves_it =
      goes_so k n t s y i2 z w d depth writes_move short_move may_move.base may_move.boxes may_move.type may_move.resolves may_move.unmarked
      (λ h sp l ends spot a.
      let there = end_is k n t s y i2 z w d depth writes_move short_move may_move.base may_move.boxes may_move.type may_move.resolves may_move.unmarked h sp l ends spot a in
      moves_out k n t s y i2 z w d depth writes_move short_move may_move.base may_move.boxes may_move.type may_move.resolves may_move.unmarked h sp l there.item spot
      (kept k n t s y i2 z w d depth writes_move short_move may_move.base may_move.boxes may_move.type may_move.resolves may_move.unmarked h a) there.there)

  move_step : HasResult k n (Step t)
  move_step = has_result k n t s y i2 z (subst (λ m. IsSome (prepared k.options.servers i2 (prepare (Some (read_or_taken w m true)) (hand k n t s y i2 z)))) (sym depth) moves_it)

-- THE CLAUSES

no_write : {w : Lval} → WritesPlace (Some (ReadTo w)) → ⊥
no_write f = elim f [ ]

pub moves_have_results : StepsHaveResults step_read WritesPlace
moves_have_results k n t s y i coherent few server on_it at_it code is f = by i code is f
  where
    copied : (w : Lval) (d : ℕ) → WritesPlace (Some (read_or_taken w d false)) → ⊥
    copied w zero g = no_write g
    copied w (suc d) g = no_write g

    moved : (w : Lval) (d : ℕ) → w.depth ≡ d → slice_get k.code y.pc ≡ Some (instr.Read w true) → WritesPlace (Some (read_or_taken w d true)) → HasResult k n (Step t)
    moved w zero e c g = absurd (no_write g)
    moved w (suc d) e c g = move_step k n t s y w d e (record { coherent = coherent; few = few; here = server; on = on_it; at = at_it; code = c })

    by : (i : Instr) → slice_get k.code y.pc ≡ Some i → instr_kind i ≡ step_read → WritesPlace (access_of i y) → HasResult k n (Step t)
    by (instr.Read w false) c e g = absurd (copied w w.depth g)
    by (instr.Read w true) c e g = moved w w.depth refl c g
    by _ c e g = absurd (cc e)

pub assignments_have_results : StepsHaveResults step_assign WritesPlace
assignments_have_results k n t s y i coherent few server on_it at_it code is f = by i code is f
  where
    ended : (a : Spot) (v : Option Value) → WritesPlace (ending a v) → ⊥
    ended a (Some (value.Mut r)) g = elim g [ ]
    ended a None g = elim g [ ]
    ended a (Some value.Gone) g = elim g [ ]
    ended a (Some (value.Own u)) g = elim g [ ]
    ended a (Some (value.SharedSlot j)) g = elim g [ ]
    ended a (Some (value.MutSlot j)) g = elim g [ ]
    ended a (Some (value.Shared r)) g = elim g [ ]
    ended a (Some (value.Held m)) g = elim g [ ]

    by_depth : (w : Lval) (o : Operand) (d : ℕ) → w.depth ≡ d → slice_get k.code y.pc ≡ Some (instr.Assign w o) → WritesPlace (assigned w d y) → HasResult k n (Step t)
    by_depth w o zero e c g = absurd (ended (in_slot w.slot) (slice_get y.slots w.slot) g)
    by_depth w o (suc d) e c g = assign_step k n t s y w d e o (record { coherent = coherent; few = few; here = server; on = on_it; at = at_it; code = c })

    by : (i : Instr) → slice_get k.code y.pc ≡ Some i → instr_kind i ≡ step_assign → WritesPlace (access_of i y) → HasResult k n (Step t)
    by (instr.Assign w o) c e g = by_depth w o w.depth refl c g
    by _ c e g = absurd (cc e)
