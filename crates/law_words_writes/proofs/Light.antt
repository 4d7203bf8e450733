-- What stands where an assignment through stars comes to: an owned value, or none any more.
use Rattle.std.proofs.Common.{◌≡◌, ℕ, suc, true, false, Some, refl, subst}
use Rattle.law_words_asked.specs.Below.fr_base.declared.place.Lval.{Lval}
use Rattle.law_words_asked.specs.Below.fr_base.declared.instruction.Operand.{Operand}
use Rattle.law_words_asked.specs.Below.fr_base.declared.instruction.Instr.{Instr}
use Rattle.law_words_asked.specs.Below.fr_base.declared.instruction.Instr.TheVariants as instr
use Rattle.law_words_asked.specs.Below.fr_typing.Kinds.{Owned as OwnedType, Kind, own, Piece}
use Rattle.law_words_asked.specs.Below.fr_typing.Places.{owned_shape, found, piece_shape, equal_shapes, shape_at}
use Rattle.law_words_asked.specs.Below.fr_typing.Checks.{is_kept_out, has_shape_of}
use Rattle.law_words_asked.specs.Below.fr_typing.Finding.{IsOpen}
use Rattle.law_words_asked.specs.Below.fr_store.Keys.{slot_k}
use Rattle.law_words_asked.specs.Below.fr_store.Typed.{KeyTypes}
use Rattle.law_words_asked.specs.Below.fr_store.Below.{ExactOf}
use Rattle.law_words_asked.proofs.Below.fr_store.Below.{Resolved, mut_place, resolved_writable}
use Rattle.law_words_asked.specs.Below.fr_code.CodeTypes.{Entry, Table, HasType, InstrTypes, i_assign}
use Rattle.law_words_asked.specs.Below.thread_state.View.{ThreadState}
use Rattle.law_words_asked.specs.Below.thread_state.declared.value.Value.{Value}
use Rattle.law_words_asked.specs.Below.server_model.Servers.{Server, Cluster}
use Rattle.law_words_asked.specs.Below.server_model.Work.{Hand}
use Rattle.law_words_asked.specs.Below.server_model.Places.{Spot}
use Rattle.law_words_asked.specs.Below.coherent_memory.Things.{Location, at_slot}
use Rattle.law_words_asked.specs.Below.coherent_memory.Follow.{Standing}
use Rattle.law_words_asked.specs.Below.law_words_paths.paths.HeapStore.{heap_store, GoesOn, IsUnmarked, HasPaths}
use Rattle.law_words_asked.proofs.Below.law_words_paths.paths.Forms.{names as names_at}
use Rattle.law_words_asked.proofs.Below.law_words_paths.paths.MayWrites.{awake_thread, slot_there, variable_unmarked}
use Rattle.law_words_asked.proofs.Below.law_results_reads.Known.{Steps, standing, paths, goes, types, entry, typed}
use Rattle.law_words_asked.proofs.Below.law_results_reads.Found.{Stood, slot_stands, cell_stands}
use Rattle.law_words_asked.proofs.Below.law_results_reads.Readers.{to_entry}
use Rattle.law_words_asked.proofs.Below.law_results_events.writes.Route.{Writing, At}
use Rattle.law_words_asked.proofs.Below.law_results_events.writes.Writes.{Light, owned_value, light_form, owned_part, kept_owned, end_is}
use Rattle.law_words_asked.specs.writes.Writing.{assigns}
use Rattle.law_words_asked.proofs.writes.Ways.{short, writes, cell_there, place}

-- what typing knows of a place that is assigned
record IsAssigned (e : Entry) (w : Lval) : Type 0 where
  awake : e.forked ≡ false
  part : Piece
  has : HasType e.env w (found part)
  open_there : IsOpen e.env w
  kind : Kind
  kept_out : is_kept_out kind w.depth ≡ false
  shape : has_shape_of e.env part kind ≡ true

assigned_by : (table : Table) (e e2 : Entry) (w : Lval) (o : Operand) → InstrTypes table e (instr.Assign w o) e2 → IsAssigned e w
assigned_by table _ _ w o (i_assign {k = k} {p = p} takes has opens kept shape below) = record { awake = refl; part = p; has = has; open_there = opens; kind = k; kept_out = kept; shape = shape }

module _ (k : Cluster) (n t : ℕ) (s : Server) (y : ThreadState) (w : Lval) (d : ℕ) (o : Operand) (z : Steps k n t s y (instr.Assign w o)) (depth : w.depth ≡ suc d) where
  abbrev i : Instr
  i = instr.Assign w o

  abbrev e : Entry
  e = entry k n t s y i z

  abbrev x : Standing
  x = standing k n t s y i z

  abbrev c : HasPaths k
  c = paths k n t s y i z

  abbrev on : GoesOn k x
  on = goes k n t s y i z

  abbrev E : KeyTypes
  E = c.types.typing.exact

  may : IsAssigned e w
  may =
      let at_it = typed k n t s y i z in
      let to = to_entry (types k n t s y i z).table y.pc e i at_it.0 at_it.1 (λ p f. cc) in
      assigned_by (types k n t s y i z).table e to.0 w o to.1

  written_place : Resolved (slot_k y.number) E true w may.part
  written_place =
      let thread = awake_thread k c x on may.awake in
      resolved_writable (slot_k y.number) E (mut_place c.types.typing.rank E (heap_store k c.types) c.types.state.typed) e.env thread.nested thread.slots w may.part (slot_there e.env w may.part may.has.is) may.open_there.path may.has.is

  unmarked : IsUnmarked x w.slot
  unmarked = variable_unmarked k c x on w.slot may.has.named

  its_type : (b : OwnedType) × (may.kind ≡ own b)
  its_type = kept_owned may.kind d (subst (λ m. is_kept_out may.kind m ≡ false) depth may.kept_out)

  light_there : (l : Location) (v : Value) → Stood k c x on written_place.type l v → Light v
  light_there _ v (slot_stands j _ P there exact form) =
      let shape : equal_shapes (piece_shape (shape_at e.env) may.part) (Some (owned_shape its_type.0)) ≡ true = subst (λ b. has_shape_of e.env may.part b ≡ true) its_type.1 may.shape in
      let own_it = owned_part (shape_at e.env) (slot_k y.number) E may.part its_type.0 written_place.type shape written_place.exact in
      light_form (names_at k c x on) P own_it.0 v (subst (ExactOf (slot_k y.number) E P) own_it.1 exact) form
  light_there _ _ (cell_stands q cell there fits) = owned_value cell.value

  -- at the spot where the place is ready
  pub light_end : (h : Hand) (sp : Spot) (l : Location) → place k n t s y i z w d (assigns o depth) w.depth ≡ Some l → At s.rest y (cell_there k n t s y i z w d (assigns o depth)) (place k n t s y i z w d (assigns o depth)) h.work.rest.partition w.depth sp l
      → Writing s.rest y (cell_there k n t s y i z w d (assigns o depth)) (place k n t s y i z w d (assigns o depth)) w.depth h → (v : Value) × (Rattle.law_words_asked.specs.Below.server_model.Places.value_at h sp ≡ Some v) × Light v
  light_end h sp l ends spot a =
      let q = end_is k n t s y i z w d depth (writes k n t s y i z w d (assigns o depth)) (short k n t s y i z w d (assigns o depth)) written_place.base written_place.boxes written_place.type written_place.res unmarked h sp l ends spot a in
      (q.item, q.there, q.light (λ m u stood. light_there (at_slot y.number m) u stood))
