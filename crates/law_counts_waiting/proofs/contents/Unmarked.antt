-- By the table of the code, no mark of a lock stands where an instruction puts something over what stands there, or lets it go.
use Rattle.std.proofs.Common.{◌≡◌, ℕ, zero, suc, ◌-◌, true, false, List, [], ◌∷◌, length, map, Option, Some, refl, sym, ap, subst, ◌∙◌, arith}
use Rattle.std.specs.Bool.{⊤}
use Rattle.std.specs.Prelude.{slice_get, reverse}
use Rattle.std.proofs.lemmas.List.{length-map}
use Rattle.law_counts_waiting.specs.Below.fr_base.Lists.{last_of}
use Rattle.law_counts_waiting.specs.Below.fr_base.declared.name.MutexNo.{MutexNo}
use Rattle.law_counts_waiting.specs.Below.fr_base.declared.name.ObjNo.{ObjNo}
use Rattle.law_counts_waiting.specs.Below.fr_base.declared.place.Lval.{Lval}
use Rattle.law_counts_waiting.specs.Below.fr_base.declared.instruction.Instr.{Instr}
use Rattle.law_counts_waiting.specs.Below.fr_base.declared.instruction.Instr.TheVariants as instr
use Rattle.law_counts_waiting.specs.Below.fr_typing.Kinds.{own, shared, mutable, view, Piece, whole, gone, boxed}
use Rattle.law_counts_waiting.specs.Below.fr_code.CodeTypes.{Entry, Table, InstrTypes, i_drop}
use Rattle.law_counts_waiting.specs.Below.fr_code.CodeTable.{Leads}
use Rattle.law_counts_waiting.proofs.Below.fr_store.Rows.{found_place}
use Rattle.law_counts_waiting.specs.Below.heap_partition.declared.value.Cell.{Cell}
use Rattle.law_counts_waiting.specs.Below.owner_box.View.{PartitionState}
use Rattle.law_counts_waiting.specs.Below.thread_state.View.{ThreadState}
use Rattle.law_counts_waiting.specs.Below.thread_state.declared.value.Value.{Value}
use Rattle.law_counts_waiting.specs.Below.thread_state.declared.value.Value.TheVariants as value
use Rattle.law_counts_waiting.specs.Below.server_model.Servers.{Server, Cluster}
use Rattle.law_counts_waiting.specs.Below.server_model.Work.{Hand}
use Rattle.law_counts_waiting.specs.Below.server_model.Places.{Spot, in_slot}
use Rattle.law_counts_waiting.specs.Below.server_model.Prepare.{ready, assigned, read_or_taken, access_of, prepare, read_stars, write_stars}
use Rattle.law_counts_waiting.specs.Below.server_model.Events.{begin_work}
use Rattle.law_counts_waiting.specs.Below.coherent_memory.Things.{Location, at_slot}
use Rattle.law_counts_waiting.specs.Below.coherent_memory.Follow.{Standing, locate}
use Rattle.law_counts_waiting.specs.Below.coherent_memory.Sight.{sight}
use Rattle.law_counts_waiting.specs.Below.coherent_types.Names.{NameTypes}
use Rattle.law_counts_waiting.specs.Below.coherent_types.ClusterTypes.{has_form, slot_form, slots_wrong}
use Rattle.law_counts_waiting.specs.Below.law_words_paths.paths.HeapStore.{heap_store, store_place, IsUnmarked}
use Rattle.law_counts_waiting.specs.Below.law_words_paths.paths.Pointing.{MayWrite, WritesTo, assigns as assigns_to, moves as moves_from}
use Rattle.law_counts_waiting.proofs.Below.law_words_paths.paths.Alike.{leads_in_cluster}
use Rattle.law_counts_waiting.proofs.Below.law_words_paths.paths.MayWrites.{may_write_there}
use Rattle.law_counts_waiting.proofs.Below.law_words_paths.paths.Sole.{some_is}
use Rattle.law_counts_waiting.specs.Below.law_heap_still.events.Shows.{Frame, frame_of, marking}
use Rattle.law_counts_waiting.proofs.Below.law_results_reads.Known.{Steps, standing, paths, goes, types, names, entry, typed, slots_fit}
use Rattle.law_counts_waiting.proofs.Below.law_results_reads.Operands.{newest_of}
use Rattle.law_counts_waiting.proofs.Below.law_results_reads.Readers.{to_entry}
use Rattle.law_counts_waiting.proofs.Below.law_results_events.writes.Route.{At, a_slot, a_cell, Fine, begins, all_hops}
use Rattle.law_counts_waiting.specs.Below.law_words_asked.writes.Writing.{WritesThrough, assigns, moves}
use Rattle.law_counts_waiting.proofs.Below.law_words_asked.writes.Ways.{cell_there, place, route}
use Rattle.law_counts_waiting.proofs.contents.Weigh.{mark}
use Rattle.law_counts_waiting.proofs.contents.Slots.{SpotClear, PlaceClear, ClearFor}

-- FRAMES

-- a value with the frame of a mark is one
marked : (v : Value) (m : MutexNo) → frame_of v ≡ marking m → v ≡ value.Held m
marked (value.Held n) m e = cc
marked value.Gone m e = absurd (cc e)
marked (value.Own v) m e = absurd (cc e)
marked (value.SharedSlot i) m e = absurd (cc e)
marked (value.MutSlot i) m e = absurd (cc e)
marked (value.Shared r) m e = absurd (cc e)
marked (value.Mut r) m e = absurd (cc e)

head_same : {x y : Frame} {xs ys : List Frame} → x ∷ xs ≡ y ∷ ys → x ≡ y
head_same e = cc

tail_same : {x y : Frame} {xs ys : List Frame} → x ∷ xs ≡ y ∷ ys → xs ≡ ys
tail_same e = cc

-- a mark stands where it stood
held_at : (vs ws : List Value) → map frame_of vs ≡ map frame_of ws → (j : ℕ) (m : MutexNo) → slice_get vs j ≡ Some (value.Held m) → slice_get ws j ≡ Some (value.Held m)
held_at [] [] e j m h = h
held_at [] (w ∷ ws) e j m h = absurd (cc e)
held_at (v ∷ vs) [] e j m h = absurd (cc e)
held_at (v ∷ vs) (w ∷ ws) e zero m h =
    let same : v ≡ value.Held m = cc in
    let shown : frame_of w ≡ marking m = sym (head_same e) ∙ ap frame_of same in
    ap (λ x. Some x) (marked w m shown)
held_at (v ∷ vs) (w ∷ ws) e (suc j) m h = held_at vs ws (tail_same e) j m h

-- no value is a mark there
clear_value : (c : MutexNo → ℕ) (v : Value) → ((m : MutexNo) → v ≡ value.Held m → ⊥) → mark c v ≡ 0
clear_value c (value.Held m) f = absurd (f m refl)
clear_value c value.Gone f = refl
clear_value c (value.Own v) f = refl
clear_value c (value.SharedSlot i) f = refl
clear_value c (value.MutSlot i) f = refl
clear_value c (value.Shared r) f = refl
clear_value c (value.Mut r) f = refl

-- no type is that of a mark
no_mark : (n : NameTypes) (p : Piece) (m : MutexNo) → has_form n p (value.Held m) ≡ true → ⊥
no_mark n (whole (own o)) m e = absurd (cc e)
no_mark n (whole (shared us)) m e = absurd (cc e)
no_mark n (whole (mutable us)) m e = absurd (cc e)
no_mark n (whole (view o)) m e = absurd (cc e)
no_mark n (gone k) m e = absurd (cc e)
no_mark n (boxed p) m e = absurd (cc e)

-- as many values
same_length : (vs ws : List Value) → map frame_of vs ≡ map frame_of ws → length vs ≡ length ws
same_length vs ws e = sym (length-map vs frame_of) ∙ ap (λ (l : List Frame). length l) e ∙ length-map ws frame_of

ready_is : {h h2 : Hand} {s s2 : Spot} → ready h s ≡ ready h2 s2 → s ≡ s2
ready_is e = cc

module _ (k : Cluster) (n t : ℕ) (s : Server) (y : ThreadState) (i : Instr) (z : Steps k n t s y i) (c : MutexNo → ℕ) where
  abbrev h0 : Hand
  h0 = record { work = begin_work s.rest; thread = y }

  abbrev x : Standing
  x = standing k n t s y i z

  abbrev Framed : Hand → Type 0
  Framed h = map frame_of h.thread.slots ≡ map frame_of y.slots

  -- a slot of which the place is no mark stays so
  clear_slot : (h : Hand) → Framed h → (j : ℕ) → IsUnmarked x j → SpotClear c (in_slot j) h.thread.slots
  clear_slot h e j un old q = clear_value c old (λ m f. un m (held_at h.thread.slots y.slots e j m (q ∙ ap (λ v. Some v) f)))

  module _ (w : Lval) (to : WritesTo i w) where
    -- it may write there
    may : MayWrite k (paths k n t s y i z).types x w
    may = may_write_there k (paths k n t s y i z) x (goes k n t s y i z) i w z.code to

    -- nor is the slot to which it leads
    unmarked_end : (j : ℕ) → locate (sight k).ground y.number w.slot w.depth ≡ Some (at_slot y.number j) → IsUnmarked x j
    unmarked_end j located =
        let p = paths k n t s y i z in
        let st = heap_store k p.types in
        let f = found_place p.types.typing.rank p.types.typing.exact st true (store_place y.number w) may.base may.boxes may.type p.types.state.typed may.resolves in
        let q = leads_in_cluster k p x (goes k n t s y i z) w.slot w.depth f.loc may.unmarked f.at in
        q.2 j (some_is (sym q.1 ∙ located))

  module _ (v : Lval) (d : ℕ) (through : WritesThrough i v d) (to : WritesTo i v) where
    abbrev C : ObjNo → Option Cell
    C = cell_there k n t s y i z v d through

    abbrev place_at : ℕ → Option Location
    place_at = place k n t s y i z v d through

    -- each star of it is followed
    fine : Fine s.rest y C place_at ⊤ v.depth (write_stars v.depth 0 h0 (in_slot v.slot))
    fine = all_hops s.rest y C place_at ⊤ v.depth (route k n t s y i z v d through) (λ j less le. tt) v.depth 0 (omega arith) h0 (in_slot v.slot) (at_slot y.number v.slot) refl (a_slot v.slot) (begins s.rest y C place_at h0 refl refl)

    -- where it ends
    at_end : (p : PartitionState) (sp : Spot) (l : Location) → place_at v.depth ≡ Some l → At s.rest y C place_at p v.depth sp l → (h : Hand) → Framed h → SpotClear c sp h.thread.slots
    at_end p _ _ ends (a_slot m) h e = clear_slot h e m (unmarked_end v to m ends)
    at_end p _ _ ends (a_cell u q o b leads there object behind) h e = tt

    -- so a place through stars leads to no mark
    written_clear : (h : Hand) (sp : Spot) → write_stars v.depth 0 h0 (in_slot v.slot) ≡ ready h sp → Framed h → SpotClear c sp h.thread.slots
    written_clear h sp q e = let f = subst (Fine s.rest y C place_at ⊤ v.depth) q fine in at_end h.work.rest.partition sp f.0 f.1 f.2 h e

  -- the last slot of a thread that drops it is none
  drop_clear : (table : Table) (e e2 : Entry) → InstrTypes table e instr.DropSlot e2 → slots_wrong (names k n t s y i z) e.env (reverse y.slots) ≡ 0 → (m : MutexNo) → last_of y.slots ≡ Some (value.Held m) → ⊥
  drop_clear table _ _ (i_drop {e = e} {s = sl} named locked alive) fit m last =
      let top = newest_of (names k n t s y i z) sl e y.slots fit in
      let same : top.item ≡ value.Held m = some_is (sym top.last ∙ last) in
      let form : slot_form (names k n t s y i z) sl true (value.Held m) ≡ true = subst (λ v. slot_form (names k n t s y i z) sl true v ≡ true) same (subst (λ b. slot_form (names k n t s y i z) sl b top.item ≡ true) named top.form) in
      no_mark (names k n t s y i z) sl.part m form

  -- INSTRUCTIONS

  -- whatever instruction
  pub clear_for : (j : Instr) → i ≡ j → (h : Hand) (sp : Spot) → prepare (access_of j y) h0 ≡ ready h sp → Framed h → ClearFor c j sp h.thread.slots
  clear_for (instr.Assign v o) q h sp e fr = by v.depth refl
    where
      to : WritesTo i v
      to = subst (λ a. WritesTo a v) (sym q) assigns_to

      by : (d : ℕ) → v.depth ≡ d → PlaceClear c v.slot d sp h.thread.slots
      by zero f = clear_slot h fr v.slot (may v to).unmarked
      by (suc d) f = written_clear v d (subst (λ a. WritesThrough a v d) (sym q) (assigns o f)) to h sp (sym (ap (λ m. prepare (assigned v m y) h0) f) ∙ e) fr
  clear_for (instr.Read v true) q h sp e fr = by v.depth refl
    where
      to : WritesTo i v
      to = subst (λ a. WritesTo a v) (sym q) moves_from

      by : (d : ℕ) → v.depth ≡ d → SpotClear c sp h.thread.slots
      by zero f =
          let there : prepare (Some (read_or_taken v zero true)) h0 ≡ ready h sp = sym (ap (λ m. prepare (Some (read_or_taken v m true)) h0) f) ∙ e in
          let at_once : read_stars zero h0 (in_slot v.slot) ≡ ready h sp = sym (ap (λ m. read_stars m h0 (in_slot v.slot)) f) ∙ there in
          subst (λ b. SpotClear c b h.thread.slots) (ready_is at_once) (clear_slot h fr v.slot (may v to).unmarked)
      by (suc d) f = written_clear v d (subst (λ a. WritesThrough a v d) (sym q) (moves f)) to h sp (sym (ap (λ m. prepare (Some (read_or_taken v m true)) h0) f) ∙ e) fr
  clear_for instr.DropSlot q h sp e fr = λ v last.
      clear_value c v (λ m f.
      let at_it = typed k n t s y i z in
      let at_drop = subst (λ j. Leads (types k n t s y i z).table y.pc (entry k n t s y i z) j at_it.0) q at_it.1 in
      let to = to_entry (types k n t s y i z).table y.pc (entry k n t s y i z) instr.DropSlot at_it.0 at_drop (λ o g. cc) in
      let there : slice_get y.slots (length h.thread.slots - 1) ≡ Some (value.Held m) = held_at h.thread.slots y.slots fr (length h.thread.slots - 1) m (last ∙ ap (λ u. Some u) f) in
      let there_last : last_of y.slots ≡ Some (value.Held m) = subst (λ l. slice_get y.slots (l - 1) ≡ Some (value.Held m)) (same_length h.thread.slots y.slots fr) there in
      drop_clear (types k n t s y i z).table (entry k n t s y i z) to.0 to.1 (slots_fit k n t s y i z) m there_last)
  clear_for (instr.Read v false) q h sp e fr = tt
  clear_for (instr.Let o) q h sp e fr = tt
  clear_for (instr.Borrow v) q h sp e fr = tt
  clear_for (instr.BorrowMut v) q h sp e fr = tt
  clear_for (instr.Box o) q h sp e fr = tt
  clear_for (instr.Arith f a b) q h sp e fr = tt
  clear_for (instr.Print o) q h sp e fr = tt
  clear_for instr.Discard q h sp e fr = tt
  clear_for (instr.Spawn cs pc) q h sp e fr = tt
  clear_for (instr.Join o) q h sp e fr = tt
  clear_for (instr.Mutex o) q h sp e fr = tt
  clear_for (instr.Dup v) q h sp e fr = tt
  clear_for (instr.Lock v) q h sp e fr = tt
  clear_for instr.Unlock q h sp e fr = tt
  clear_for (instr.Par cs pc ds other) q h sp e fr = tt
  clear_for instr.ParEnd q h sp e fr = tt
  clear_for (instr.End o) q h sp e fr = tt
