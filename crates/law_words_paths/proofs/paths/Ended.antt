-- A mutable reference that an instruction ends may be written through.
use Rattle.std.proofs.Common.{◌≡◌, ℕ, suc, ◌≤◌, ◌==◌, ◌||◌, not, Bool, true, false, List, [], ◌∷◌, length, map, Some, refl, sym, ap, subst, ◌∙◌, arith}
use Rattle.std.specs.Prelude.{slice_get}
use Rattle.std.specs.List.{list_all}
use Rattle.std.proofs.lemmas.Bool.Decides.{nat_tests}
use Rattle.std.proofs.lemmas.List.{length-reverse}
use Rattle.coherent_types.specs.Below.fr_base.declared.name.MutexNo.{MutexNo}
use Rattle.coherent_types.specs.Below.fr_base.declared.place.Lval.{Lval}
use Rattle.coherent_types.specs.Below.fr_base.declared.instruction.Instr.{Instr}
use Rattle.coherent_types.specs.Below.fr_base.declared.instruction.Instr.TheVariants as instr
use Rattle.coherent_types.specs.Below.fr_typing.Kinds.{Kind, own, shared, mutable, view, Piece, whole, gone, boxed}
use Rattle.coherent_types.specs.Below.fr_typing.Places.{Slot, Env, IsNested, AreBelow, piece_places, starts_at, blocks_write, write_blocked}
use Rattle.coherent_types.specs.Below.fr_typing.Checks.{names_from}
use Rattle.coherent_types.specs.Below.fr_store.Keys.{slot_k}
use Rattle.coherent_types.specs.Below.fr_store.Store.{Place as StorePlace, at_object}
use Rattle.coherent_types.specs.Below.fr_store.Typed.{refers, KeyTypes, Resolves, through, Unnamed}
use Rattle.coherent_types.proofs.Below.fr_store.Below.{add_zero}
use Rattle.coherent_types.proofs.Below.fr_store.Sound.{ref_at}
use Rattle.coherent_types.proofs.Below.fr_store.ThreadKept.{unnamed_key}
use Rattle.coherent_types.specs.Below.fr_sound.States.{hand_key, hand_kind}
use Rattle.coherent_types.specs.Below.fr_code.CodeTypes.{Entry, Table, InstrTypes, i_drop, outlive}
use Rattle.coherent_types.specs.Below.fr_code.CodeTable.{Leads, to_next, Successors}
use Rattle.coherent_types.specs.Below.mut_borrow.declared.mutable.MutRef.{MutRef}
use Rattle.coherent_types.specs.Below.thread_state.declared.value.Value.TheVariants as value
use Rattle.coherent_types.specs.Below.server_model.Servers.{Cluster}
use Rattle.coherent_types.specs.Below.coherent_memory.Follow.{Standing}
use Rattle.coherent_types.specs.Below.coherent_memory.Sight.{sight}
use Rattle.coherent_types.specs.Below.coherent_memory.Walking.{instr_of}
use Rattle.coherent_types.specs.Below.coherent_memory.OneHeap.{plain_value}
use Rattle.law_words_paths.proofs.paths.Sole.{some_is}
use Rattle.law_words_paths.specs.paths.HeapStore.{heap_store, GoesOn, HasPaths}
use Rattle.law_words_paths.specs.paths.Pointing.{MayWrite, assigns, EndsSlot, assigned, dropped, EndedMayWrite}
use Rattle.law_words_paths.proofs.paths.Alike.{ref_type, slot_mut}
use Rattle.law_words_paths.proofs.paths.Forms.{running_typed, slot_piece, mutable_own}
use Rattle.coherent_types.specs.Below.fr_store.Below.{ExactOf}
use Rattle.law_words_paths.proofs.paths.MayWrites.{top_names, top_free, awake_thread, negated, and_first, may_write_there}

map_length : {A B : Type 0} (f : A → B) (xs : List A) → length (map f xs) ≡ length xs
map_length f [] = refl
map_length f (x ∷ xs) = ap suc (map_length f xs)

or_false_both : (a b : Bool) → a ≡ false → b ≡ false → a || b ≡ false
or_false_both true b e f = absurd cc
or_false_both false b e f = f

-- NOTHING NAMES THE NEWEST SLOT

none_starts : (x : ℕ) (us : List Lval) → AreBelow x us → starts_at x us ≡ false
none_starts x [] h = refl
none_starts x (u ∷ us) h = by (u.slot == x) refl (none_starts x us h.1)
  where
    by : (b : Bool) → (u.slot == x) ≡ b → starts_at x us ≡ false → b || starts_at x us ≡ false
    by true e r = let lt = h.0 in let same : u.slot ≡ x = grind (arith, nat_tests, e) in absurd (omega (arith, lt, same))
    by false e r = r

part_names : (x : ℕ) (p : Piece) → AreBelow x (piece_places p) → blocks_write x p ≡ false
part_names x (whole (own o)) h = refl
part_names x (whole (shared us)) h = none_starts x us h
part_names x (whole (mutable us)) h = none_starts x us h
part_names x (whole (view o)) h = refl
part_names x (gone k) h = refl
part_names x (boxed p) h = refl

below_more : (x y : ℕ) (us : List Lval) → x ≤ y → AreBelow x us → AreBelow y us
below_more x y [] le h = tt
below_more x y (u ∷ us) le h = let lt = h.0 in (omega (arith, lt, le), below_more x y us le h.1)

not_blocked : (e : Env) (x : ℕ) → length e ≤ x → IsNested e → write_blocked e x ≡ false
not_blocked [] x le h = refl
not_blocked (s ∷ e) x le h = by (blocks_write x s.part) (part_names x s.part (below_more (length e) x (piece_places s.part) (omega (arith, le)) h.0)) (not_blocked e x (omega (arith, le)) h.1)
  where
    by : (b : Bool) → b ≡ false → write_blocked e x ≡ false → b || write_blocked e x ≡ false
    by true q r = absurd cc
    by false q r = r

-- the newest slot may go
pub record IsDropped (x : Entry) : Type 0 where
  pub awake : x.forked ≡ false
  pub slot : Slot
  pub below : Env
  pub env : x.env ≡ slot ∷ below
  pub outlives : outlive (length below) x.temps ≡ true

dropped_of : (table : Table) (x y : Entry) → InstrTypes table x instr.DropSlot y → IsDropped x
dropped_of table _ _ (i_drop {e = e} {s = s} named locked outlives) = record { awake = refl; slot = s; below = e; env = refl; outlives = outlives }

pub dropped_at : (table : Table) (pc : ℕ) (x : Entry) (ss : Successors) → Leads table pc x instr.DropSlot ss → IsDropped x
dropped_at table pc x _ (to_next {y = y} typed) = dropped_of table x y typed

top_outlives : (n : ℕ) (ts : List Kind) → outlive n ts ≡ true → top_names n ts ≡ false
top_outlives n [] e = refl
top_outlives n (k ∷ ts) e = negated (names_from n k) (and_first (not (names_from n k)) (list_all (λ k. not (names_from n k)) ts) e)

no_mark_here : (r : MutRef) (m : MutexNo) → Some (value.Mut r) ≡ Some (value.Held m) → ⊥
no_mark_here r m e = absurd cc

module _ (k : Cluster) (c : HasPaths k) (x : Standing) (g : GoesOn k x) where
  abbrev n : ℕ
  n = x.thread.number

  abbrev E : KeyTypes
  E = c.types.typing.exact

  abbrev entry : Entry
  entry = (running_typed k c x g).entry

  -- what a mutable reference in a slot that nothing names leads to may be written
  may_end : (slot : ℕ) (r : MutRef) → slice_get x.thread.slots slot ≡ Some (value.Mut r) → Unnamed E (slot_k n slot) → MayWrite k c.types x (record { slot = slot; depth = 1 })
  may_end slot r e free =
      let shown = slot_mut k c x g slot r e in
      let q = ref_type c.types.typing.rank E (heap_store k c.types) c.types.state.typed (slot_k n slot) (at_object r.object) shown in
      let p = slot_piece k c x g slot (value.Mut r) refl e in
      let own = mutable_own (slot_k n) E _ p.piece q.0 q.1 r (subst (λ z. ExactOf (slot_k n) E p.piece z) q.2 p.exact) p.form in
      let u : StorePlace = q.1 in
      let exact : E (slot_k n slot) ≡ refers true u = q.2 ∙ ap (λ b. refers b q.1) own.0 in
      let f = ref_at c.types.typing.rank E (heap_store k c.types) c.types.state.typed (slot_k n slot) true u exact in
      record {
        free = free;
        base = f.base;
        boxes = f.boxes;
        type = f.type;
        resolves = through true u 0 exact (λ z. refl) refl (subst (λ z. Resolves E true u.key z f.base f.boxes f.type) (sym (add_zero u.depth)) f.res);
        unmarked = λ m h. no_mark_here r m (sym e ∙ h);
      }

  -- there are as many slots as typing knows
  pub slots_long : length x.thread.slots ≡ length entry.env
  slots_long = sym (map_length plain_value x.thread.slots) ∙ sym (length-reverse _) ∙ (running_typed k c x g).all_slots

  -- no type names the newest slot
  pub newest_free : (slot : ℕ) → length x.thread.slots ≡ suc slot → IsDropped entry → Unnamed E (slot_k n slot)
  newest_free slot len d =
      let thread = awake_thread k c x g d.awake in
      let below : length d.below ≡ slot = omega (arith, slots_long, len, ap length d.env) in
      let nested : IsNested (d.slot ∷ d.below) = subst IsNested d.env thread.nested in
      let one = part_names (length d.below) d.slot.part nested.0 in
      let rest = not_blocked d.below (length d.below) (omega arith) nested.1 in
      let blocked : write_blocked (d.slot ∷ d.below) (length d.below) ≡ false = or_false_both (blocks_write (length d.below) d.slot.part) (write_blocked d.below (length d.below)) one rest in
      let free : write_blocked entry.env slot ≡ false = subst (λ z. write_blocked entry.env z ≡ false) below (subst (λ z. write_blocked z (length d.below) ≡ false) (sym d.env) blocked) in
      let top : top_names slot entry.temps ≡ false = subst (λ z. top_names z entry.temps ≡ false) below (top_outlives (length d.below) entry.temps d.outlives) in
      unnamed_key (slot_k n) c.types.typing.rank (hand_key n entry.temps) entry.env E (heap_store k c.types) (hand_kind entry.temps) (running_typed k c x g).keys thread slot free (top_free n slot E entry.temps thread.temp top)

  ended : (i : Instr) (slot : ℕ) (r : MutRef) → instr_of (sight k) x ≡ Some i → EndsSlot x.thread i slot → slice_get x.thread.slots slot ≡ Some (value.Mut r) → MayWrite k c.types x (record { slot = slot; depth = 1 })
  ended _ _ r at (assigned {w = w} {o = o} none) e = may_end w.slot r e ((may_write_there k c x g (instr.Assign w o) w at assigns).free)
  ended _ _ r at (dropped {slot = slot} len) e =
      let row = c.types.is_table.rows x.thread.pc entry (running_typed k c x g).known in
      let same : row.instruction ≡ instr.DropSlot = some_is (sym row.there ∙ at) in
      let d = dropped_at c.types.table x.thread.pc entry row.successors (subst (λ z. Leads c.types.table x.thread.pc entry z row.successors) same row.leads) in
      may_end slot r e (newest_free slot len d)

pub ended_may_write : EndedMayWrite
ended_may_write k c x i slot r g at ends_it e = ended k c x g i slot r at ends_it e
