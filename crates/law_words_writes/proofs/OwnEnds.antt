-- What is moved out through stars stands in a cell: its place leads over boxes alone.
use Rattle.std.proofs.Common.{◌≡◌, ◌≤◌, ◌<◌, ℕ, zero, suc, ◌||◌, not, Bool, true, false, if◌then◌else◌, List, [], ◌∷◌, length, Some, refl, sym, ap, subst, ◌∙◌, arith}
use Rattle.std.specs.Prelude.{slice_get}
use Rattle.law_words_asked.specs.Below.fr_base.declared.place.Lval.{Lval}
use Rattle.law_words_asked.specs.Below.fr_base.declared.name.ObjNo.{ObjNo}
use Rattle.law_words_asked.specs.Below.fr_base.declared.instruction.Instr.{Instr}
use Rattle.law_words_asked.specs.Below.fr_base.declared.instruction.Instr.TheVariants as instr
use Rattle.law_words_asked.proofs.Below.fr_typing.PlaceLemmas.{eq_cases}
use Rattle.law_words_asked.specs.Below.fr_typing.Kinds.{Piece, whole}
use Rattle.law_words_asked.specs.Below.fr_typing.Places.{Env, Slot, Found, found, type_at, on_path, is_lent, is_mutable, is_own_path}
use Rattle.law_words_asked.specs.Below.fr_store.Keys.{Key, slot_k}
use Rattle.law_words_asked.specs.Below.fr_store.Store.{Place as StorePlace}
use Rattle.law_words_asked.specs.Below.fr_store.Typed.{Exact, owns, refers, KeyTypes}
use Rattle.law_words_asked.specs.Below.fr_store.Below.{ExactOf, SlotsBelow}
use Rattle.law_words_asked.proofs.Below.fr_store.Below.{or_false}
use Rattle.law_words_asked.proofs.Below.fr_store.ThreadKept.{lent_ref}
use Rattle.law_words_asked.specs.Below.fr_code.CodeTypes.{Entry, Table, HasType, InstrTypes, i_move}
use Rattle.law_words_asked.specs.Below.thread_state.View.{ThreadState}
use Rattle.law_words_asked.specs.Below.thread_state.declared.value.Value.{Value}
use Rattle.law_words_asked.specs.Below.thread_state.declared.value.Value.TheVariants as value
use Rattle.law_words_asked.specs.Below.server_model.Servers.{Server, Cluster}
use Rattle.law_words_asked.specs.Below.coherent_memory.Things.{Location, at_slot, in_cell}
use Rattle.law_words_asked.specs.Below.coherent_memory.Follow.{Standing}
use Rattle.law_words_asked.specs.Below.law_words_paths.paths.HeapStore.{GoesOn, HasPaths}
use Rattle.law_words_asked.proofs.Below.law_words_paths.paths.Forms.{names as names_at, slots_below, slot_piece, HasPiece}
use Rattle.law_words_asked.proofs.Below.law_words_paths.paths.MayWrites.{slot_there}
use Rattle.law_words_asked.proofs.Below.law_results_reads.Known.{Steps, paths, standing, goes, types, entry, typed}
use Rattle.law_words_asked.proofs.Below.law_results_reads.Readers.{to_entry}
use Rattle.law_words_asked.proofs.Below.law_results_events.writes.Route.{Route, Hop, by_slot, by_reference, by_box, by_cell}
use Rattle.law_words_asked.proofs.Below.law_results_events.writes.Writes.{Light, owned_value, nothing_left, light_form}
use Rattle.law_words_asked.specs.writes.Writing.{moves}
use Rattle.law_words_asked.proofs.writes.Ways.{cell_there, place, route}

-- an own path
variable_there : (key : ℕ → Key) (E : KeyTypes) (e : List Slot) (x : ℕ) → SlotsBelow key E e → x < length e → (q : Piece) × (type_at e (record { slot = x; depth = 0 }) ≡ found q) × ExactOf key E q (E (key x))
variable_there key E [] x h lt = absurd (omega (arith, lt))
variable_there key E (s ∷ e) x h lt =
    eq_cases (λ b. (q : Piece) × ((if b then found s.part else type_at e (record { slot = x; depth = 0 })) ≡ found q) × ExactOf key E q (E (key x))) x (length e)
    (λ is. (s.part, refl, subst (λ v. ExactOf key E s.part (E (key v))) (sym is) h.0))
    (λ ne. variable_there key E e x h.1 (omega (arith, lt, ne)))

first_on : (test : Found → Bool) (e : Env) (x d : ℕ) → on_path test e x (suc d) ≡ false → test (type_at e (record { slot = x; depth = 0 })) ≡ false
first_on test e x zero h = (or_false false (test (type_at e (record { slot = x; depth = 0 }))) h).1
first_on test e x (suc d) h = first_on test e x d (or_false (on_path test e x (suc d)) (test (type_at e (record { slot = x; depth = suc d }))) h).0

not_false : (b : Bool) → not b ≡ true → b ≡ false
not_false false e = refl
not_false true e = absurd (cc e)

-- what typing knows of a place from which a value is moved
record IsMoved (e : Env) (w : Lval) : Type 0 where
  part : Piece
  has : HasType e w (found part)
  own_path : is_own_path e w ≡ true

moved_by : (table : Table) (e e2 : Entry) (w : Lval) → InstrTypes table e (instr.Read w true) e2 → IsMoved e.env w
moved_by table _ _ w (i_move {k = k} waits has moved free own_path) = record { part = whole k; has = has; own_path = own_path }

-- a light value is no reference
abbrev IsNone : Value → Type 0
IsNone (value.MutSlot j) = ⊥
IsNone v = Rattle.std.specs.Prelude.⊤

light_none : (v : Value) → Light v → IsNone v
light_none _ (owned_value v) = tt
light_none _ nothing_left = tt

module _ (k : Cluster) (n t : ℕ) (s : Server) (y : ThreadState) (w : Lval) (d : ℕ) (z : Steps k n t s y (instr.Read w true)) (depth : w.depth ≡ suc d) where
  abbrev i : Instr
  i = instr.Read w true

  abbrev e : Entry
  e = entry k n t s y i z

  abbrev x : Standing
  x = standing k n t s y i z

  abbrev c : HasPaths k
  c = paths k n t s y i z

  abbrev on : GoesOn k x
  on = goes k n t s y i z

  abbrev E : KeyTypes
  E = c.types.typing.exact

  may : IsMoved e.env w
  may =
      let at_it = typed k n t s y i z in
      let to = to_entry (types k n t s y i z).table y.pc e i at_it.0 at_it.1 (λ p f. cc) in
      moved_by (types k n t s y i z).table e to.0 w to.1

  -- the variable has no reference
  no_reference : (m : Bool) (u : StorePlace) → E (slot_k y.number w.slot) ≡ refers m u → ⊥
  no_reference m u is =
      let v = variable_there (slot_k y.number) E e.env w.slot (slots_below k c x on) (slot_there e.env w may.part may.has.is) in
      let off : on_path (λ f. is_lent f || is_mutable f) e.env w.slot (suc d) ≡ false = ap (on_path (λ f. is_lent f || is_mutable f) e.env w.slot) (sym depth) ∙ not_false (on_path (λ f. is_lent f || is_mutable f) e.env w.slot w.depth) may.own_path in
      let f = first_on (λ f. is_lent f || is_mutable f) e.env w.slot d off in
      let l = lent_ref (slot_k y.number) E v.0 m u (subst (ExactOf (slot_k y.number) E v.0) is v.2) in
      let g : true ≡ false = sym l ∙ ap (λ q. is_lent q || is_mutable q) (sym v.1) ∙ f in
      absurd (cc g)

  no_mutable : (j : ℕ) → slice_get y.slots w.slot ≡ Some (value.MutSlot j) → ⊥
  no_mutable j there =
      let q = slot_piece k c x on w.slot (value.MutSlot j) refl there in
      by (E (slot_k y.number w.slot)) refl q
    where
      by : (p : Exact) → E (slot_k y.number w.slot) ≡ p → HasPiece (slot_k y.number) E (names_at k c x on) (slot_k y.number w.slot) (value.MutSlot j) → ⊥
      by (owns tree) is q = light_none (value.MutSlot j) (light_form (names_at k c x on) q.piece tree (value.MutSlot j) (subst (ExactOf (slot_k y.number) E q.piece) is q.exact) q.form)
      by (refers m u) is q = no_reference m u is

  abbrev C : ObjNo → Rattle.std.proofs.Common.Option Rattle.law_words_asked.specs.Below.heap_partition.declared.value.Cell.Cell
  C = cell_there k n t s y i z w d (moves depth)

  abbrev leads : ℕ → Rattle.std.proofs.Common.Option Location
  leads = place k n t s y i z w d (moves depth)

  way : Route s.rest y C leads w.depth
  way = route k n t s y i z w d (moves depth)

  no_object : (o : ObjNo) (m : ℕ) → in_cell o ≡ at_slot y.number m → ⊥
  no_object o m e = absurd (cc e)

  -- a slot behind a star is behind a reference to it
  by_reference_to : (j : ℕ) → suc j ≤ w.depth → (m : ℕ) → leads (suc j) ≡ Some (at_slot y.number m) → ((i b : ℕ) → leads j ≡ Some (at_slot y.number i) → slice_get y.slots i ≡ Some (value.MutSlot b) → ⊥) → ⊥
  by_reference_to j le m next none =
      let before = way.leads_there j (omega (arith, le)) in
      by before.0 (at_slot y.number m) before.1 refl (way.hop j le before.0 (at_slot y.number m) before.1 next)
    where
      by : (a b : Location) → leads j ≡ Some a → b ≡ at_slot y.number m → Hop s.rest y C leads j a b → ⊥
      by _ _ located e (by_slot i b there) = none i b located there
      by _ _ located e (by_reference i q there b) = no_object q.object m e
      by _ _ located e (by_box i p there b) = no_object p.object m e
      by _ _ located e (by_cell o q p there b u) = no_object p.object m e

  at_variable : (i : ℕ) → leads 0 ≡ Some (at_slot y.number i) → w.slot ≡ i
  at_variable i e = cc

  -- no slot is behind a star
  no_slot : (j : ℕ) → suc j ≤ w.depth → (m : ℕ) → leads (suc j) ≡ Some (at_slot y.number m) → ⊥
  no_slot zero le m next = by_reference_to 0 le m next (λ i b located there. no_mutable b (subst (λ q. slice_get y.slots q ≡ Some (value.MutSlot b)) (sym (at_variable i located)) there))
  no_slot (suc j) le m next = by_reference_to (suc j) le m next (λ i b located there. no_slot j (omega (arith, le)) i located)

  -- so its end is a cell
  pub ends_in_cell : (m : ℕ) → leads w.depth ≡ Some (at_slot y.number m) → ⊥
  ends_in_cell m ends = no_slot d (omega (arith, depth)) m (ap leads (sym depth) ∙ ends)
