-- What types tell of the end of a place that a thread writes: nobody else is there, and what it owns nobody refers to.
use Rattle.std.proofs.Common.{◌≡◌, inl, ℕ, zero, suc, ◌-◌, ◌≤◌, true, false, Option, Some, None, refl, sym, ap, subst, ◌∙◌, arith}
use Rattle.std.specs.Prelude.{slice_get, is_some}
use Rattle.law_words_asked.specs.Below.fr_base.declared.name.ObjNo.{ObjNo}
use Rattle.law_words_asked.specs.Below.fr_base.declared.place.Lval.{Lval}
use Rattle.law_words_asked.specs.Below.fr_base.declared.instruction.Instr.{Instr}
use Rattle.law_words_asked.specs.Below.fr_base.declared.instruction.Instr.TheVariants as instr
use Rattle.law_words_asked.specs.Below.fr_code.CodeTypes.{Entry, Table, InstrTypes, i_assign, i_move}
use Rattle.law_words_asked.specs.Below.fr_store.Keys.{slot_k}
use Rattle.law_words_asked.specs.Below.fr_store.Store.{Store, below_key}
use Rattle.law_words_asked.proofs.Below.fr_store.Sound.{sound}
use Rattle.law_words_asked.specs.Below.heap_partition.declared.value.BoxPtr.{BoxPtr}
use Rattle.law_words_asked.specs.Below.heap_partition.declared.value.Owned.TheVariants as owned
use Rattle.law_words_asked.specs.Below.mut_borrow.declared.mutable.MutRef.{MutRef}
use Rattle.law_words_asked.specs.Below.thread_state.View.{ThreadState, is_over}
use Rattle.law_words_asked.specs.Below.thread_state.declared.phase.Phase.{Phase}
use Rattle.law_words_asked.specs.Below.thread_state.declared.phase.Phase.TheVariants as phase
use Rattle.law_words_asked.specs.Below.thread_state.declared.value.Value.{Value}
use Rattle.law_words_asked.specs.Below.thread_state.declared.value.Value.TheVariants as value
use Rattle.law_words_asked.specs.Below.server_model.Servers.{Server, Cluster}
use Rattle.law_words_asked.specs.Below.coherent_memory.Names.{Among}
use Rattle.law_words_asked.specs.Below.coherent_memory.Things.{Location, at_slot, in_cell}
use Rattle.law_words_asked.specs.Below.coherent_memory.Follow.{Standing, Ground, value_in, value_behind, leads, locate, thread_at}
use Rattle.law_words_asked.specs.Below.coherent_memory.OneHeap.{two_in, pair_of}
use Rattle.law_words_asked.specs.Below.coherent_memory.Sight.{Pointer, sight}
use Rattle.law_words_asked.specs.Below.law_words_paths.paths.HeapStore.{in_store, heap_store, HasPaths, GoesOn}
use Rattle.law_words_asked.specs.Below.law_words_paths.paths.Pointing.{MayWrite}
use Rattle.law_words_asked.proofs.Below.law_words_paths.paths.Alike.{leads_in_heap}
use Rattle.law_words_asked.proofs.Below.law_words_paths.paths.Circles.{base_in}
use Rattle.law_words_asked.proofs.Below.law_words_paths.paths.Forms.{running_typed}
use Rattle.law_words_asked.proofs.Below.law_words_paths.paths.FreshPaths.{OwnSlot, own_closed}
use Rattle.law_words_asked.proofs.Below.law_words_paths.paths.Shown.{stands_there}
use Rattle.law_words_asked.proofs.Below.law_words_paths.paths.Sole.{some_is}
use Rattle.law_words_values.specs.Below.law_words_kept.ends.Dropped.{box_leads, boxes_below, MayGiveUp, a_place}
use Rattle.law_words_values.proofs.Below.law_words_kept.ends.Owned.{owned_are_alone}
use Rattle.law_words_asked.specs.Below.law_words_paths.words.Soles.{outline, SameOutlines}
use Rattle.law_words_asked.specs.Below.law_words_paths.words.Unmoved.{Taking, taking_by, takings}
use Rattle.law_words_asked.proofs.Below.law_words_paths.words.Follows.{places_lead}
use Rattle.law_words_asked.proofs.Below.law_words_paths.words.Outlines.{leads_outline, outlined_reference}
use Rattle.law_words_asked.proofs.Below.law_words_paths.words.Standing.{told}
use Rattle.law_words_asked.specs.Below.law_words_kept.reads.Reading.{lends}
use Rattle.law_words_asked.proofs.Below.law_words_kept.reads.FreshReads.{reading_of, chain_apart}
use Rattle.law_words_asked.proofs.Below.law_results_reads.Known.{Steps, standing, paths, goes, types, entry, typed}
use Rattle.law_words_asked.proofs.Below.law_results_reads.Readers.{to_entry}
use Rattle.law_words_values.proofs.carried.Hands.{RootedIn}
use Rattle.law_words_values.proofs.carried.Owned.{OwnsAlone}
use Rattle.law_words_values.proofs.carried.Taken.{taker_of}
use Rattle.law_words_asked.specs.writes.Writing.{WritesThrough, assigns, moves}
use Rattle.law_words_asked.proofs.writes.Ways.{may, place, ends_none}

-- A thread at such an instruction waits for no pair

awake_typed : (table : Table) (e e2 : Entry) (i : Instr) (w : Lval) (d : ℕ) → WritesThrough i w d → InstrTypes table e i e2 → e.forked ≡ false
awake_typed table _ _ _ w d (assigns o q) (i_assign takes has opens kept shape below) = refl
awake_typed table _ _ _ w d (moves q) (i_move waits has moved free own_path) = refl

none_paired : (o : Option (ℕ × ℕ)) → is_some o ≡ false → o ≡ None
none_paired None e = refl
none_paired (Some p) e = absurd (cc e)

-- what a thread has taken is at its mutable borrow
taking_is : (t : ℕ) (p : Phase) (i : Option Instr) (a : Taking) → taking_by t p i ≡ Some a → (u : ℕ) × (p ≡ phase.Taken u) × (i ≡ Some (instr.BorrowMut a.place)) × (t ≡ a.thread)
taking_is t (phase.Taken u) (Some (instr.BorrowMut q)) a e = let s = some_is e in (u, refl, ap (λ (b : Taking). Some (instr.BorrowMut b.place)) s, ap (λ (b : Taking). b.thread) s)
taking_is t _ _ a e = absurd (cc e)

slot_object : {t i : ℕ} {o : ObjNo} → Some (at_slot t i) ≡ Some (in_cell o) → ⊥
slot_object e = absurd (cc e)

box_reference : {r : MutRef} {b : BoxPtr} → Some (value.Mut r) ≡ Some (value.Own (owned.Box b)) → ⊥
box_reference e = absurd (cc e)

module _ (k : Cluster) (n t : ℕ) (s : Server) (y : ThreadState) (i : Instr) (z : Steps k n t s y i) (w : Lval) (d : ℕ) (through : WritesThrough i w d) where
  abbrev x : Standing
  x = standing k n t s y i z

  abbrev c : HasPaths k
  c = paths k n t s y i z

  abbrev on : GoesOn k x
  on = goes k n t s y i z

  abbrev g : Ground
  g = (sight k).ground

  abbrev st : Store
  st = heap_store k c.types

  abbrev m : MayWrite k c.types x w
  m = may k n t s y i z w d through

  waits_for_none : two_in y.phase ≡ None
  waits_for_none =
      let at_it = typed k n t s y i z in
      let to = to_entry (types k n t s y i z).table y.pc (entry k n t s y i z) i at_it.0 at_it.1 (ends_none i w d through) in
      let off : (entry k n t s y i z).forked ≡ false = awake_typed (types k n t s y i z).table (entry k n t s y i z) to.0 i w d through to.1 in
      none_paired (two_in y.phase) (sym (ap (λ o. is_some (pair_of o)) (stands_there k c x on)) ∙ sym (running_typed k c x on).forks ∙ off)

  -- the end of its place is in a chain of its own slots
  own_end : (l : Location) → place k n t s y i z w d through w.depth ≡ Some l → (slot : ℕ) × (boxes : ℕ) × (below_key st (slot_k y.number slot) boxes ≡ Some (in_store l))
  own_end l ends =
      let key = slot_k y.number w.slot in
      let b = base_in (OwnSlot k c y.number) c.types.typing.exact (own_closed k c x on) key w.depth m.base m.boxes m.type (w.slot, refl) m.resolves in
      let hw = (leads_in_heap k c x on w.slot w.depth l ends).0 in
      let there = sym (sound c.types.typing.rank c.types.typing.exact st c.types.state.typed true key w.depth m.base m.boxes m.type m.resolves) ∙ hw in
      (b.0, m.boxes, subst (λ v. below_key st v m.boxes ≡ Some (in_store l)) b.1 there)

  -- no reference leads to what is owned there
  pub end_alone : (l : Location) → place k n t s y i z w d through w.depth ≡ Some l → OwnsAlone k l
  end_alone l ends e h b below is j r f same =
      let gives : MayGiveUp k c.types x l = a_place w m ends in
      let only = owned_are_alone k c x l e h b on gives below is in
      let p : Pointer = record { at = Some j; word = r.word; object = r.object } in
      let there : j ≡ h = only.only p j (told k j (value.Mut r) p f (inl refl)) same refl in
      absurd (box_reference (sym f ∙ ap (value_in g) there ∙ is))

  -- and no other thread has taken from there
  pub end_apart : (o : ObjNo) → place k n t s y i z w d through w.depth ≡ Some (in_cell o) → taking_by y.number y.phase (slice_get k.code y.pc) ≡ None → (a : Taking) (e : ℕ) → Among a (takings k.code g.threads) → e ≤ a.place.depth
      → locate g a.thread a.place.slot e ≡ Some (in_cell o) → ⊥
  end_apart o ends untaken a e h le located =
      let q = taker_of k.code g.threads a h in
      let v : Standing = q.taker in
      let is = taking_is v.thread.number v.thread.phase (slice_get k.code v.thread.pc) a q.taking in
      let goes_on : GoesOn k v = record { among = q.among; going = ap is_over is.1 } in
      let there : locate g v.thread.number a.place.slot e ≡ Some (in_cell o) = ap (λ b. locate g b a.place.slot e) is.3 ∙ located in
      let own = own_end (in_cell o) ends in
      let one : v.thread.number ≡ y.number = same_thread v goes_on a.place is.2 e le there own.0 own.1 own.2 in
      let same : Some v ≡ Some x = sym (stands_there k c v goes_on) ∙ ap (thread_at g.threads) one ∙ stands_there k c x on in
      let no : Some a ≡ None = sym q.taking ∙ ap (λ (b : Standing). taking_by b.thread.number b.thread.phase (slice_get k.code b.thread.pc)) (some_is same) ∙ untaken in
      absurd (cc no)
    where
      same_thread : (v : Standing) → GoesOn k v → (p : Lval) → slice_get k.code v.thread.pc ≡ Some (instr.BorrowMut p) → (e : ℕ) → e ≤ p.depth → locate g v.thread.number p.slot e ≡ Some (in_cell o) → (slot boxes : ℕ) → below_key st (slot_k y.number slot) boxes ≡ Some (in_store (in_cell o))
          → v.thread.number ≡ y.number
      same_thread v goes_on p code e le there slot boxes own = by p.depth refl
        where
          by : (f : ℕ) → p.depth ≡ f → v.thread.number ≡ y.number
          by zero deep = (let none : e ≡ 0 = omega (arith, le, deep) in absurd (slot_object (sym (ap (locate g v.thread.number p.slot) none) ∙ there)))
          by (suc f) deep =
              chain_apart k c x on waits_for_none v (in_cell o) (reading_of k c v (instr.BorrowMut p) p f e (in_cell o) goes_on code (lends deep) (p.depth - e) (omega (arith, le)) there) slot boxes own

-- IN THE MIDDLE OF THE EVENT

box_outline : (v : Option Value) → box_leads (outline v) ≡ box_leads v
box_outline None = refl
box_outline (Some value.Gone) = refl
box_outline (Some (value.Own (owned.Box b))) = refl
box_outline (Some (value.Own owned.Nothing)) = refl
box_outline (Some (value.Own owned.Unit)) = refl
box_outline (Some (value.Own (owned.Int i))) = refl
box_outline (Some (value.Own (owned.Mutex i))) = refl
box_outline (Some (value.Own (owned.Task i))) = refl
box_outline (Some (value.SharedSlot i)) = refl
box_outline (Some (value.MutSlot i)) = refl
box_outline (Some (value.Shared r)) = refl
box_outline (Some (value.Mut r)) = refl
box_outline (Some (value.Held i)) = refl

-- what leads to a cell as a box is a box
leads_box : (v : Option Value) (o : ObjNo) → box_leads v ≡ Some (in_cell o) → (b : BoxPtr) × (v ≡ Some (value.Own (owned.Box b))) × (b.object ≡ o)
leads_box (Some (value.Own (owned.Box b))) o e = (b, refl, cc)
leads_box None o e = absurd (cc e)
leads_box (Some value.Gone) o e = absurd (cc e)
leads_box (Some (value.Own owned.Nothing)) o e = absurd (cc e)
leads_box (Some (value.Own owned.Unit)) o e = absurd (cc e)
leads_box (Some (value.Own (owned.Int i))) o e = absurd (cc e)
leads_box (Some (value.Own (owned.Mutex i))) o e = absurd (cc e)
leads_box (Some (value.Own (owned.Task i))) o e = absurd (cc e)
leads_box (Some (value.SharedSlot i)) o e = absurd (cc e)
leads_box (Some (value.MutSlot i)) o e = absurd (cc e)
leads_box (Some (value.Shared r)) o e = absurd (cc e)
leads_box (Some (value.Mut r)) o e = absurd (cc e)
leads_box (Some (value.Held i)) o e = absurd (cc e)

module _ (k z : Cluster) (s : SameOutlines k z) where
  abbrev gk : Ground
  gk = (sight k).ground

  abbrev gz : Ground
  gz = (sight z).ground

  lead : (t : ℕ) (l : Location) → leads t (value_in gz l) ≡ leads t (value_in gk l)
  lead t l = sym (leads_outline t (value_in gz l)) ∙ ap (leads t) (s.stands l) ∙ leads_outline t (value_in gk l)

  pub places_on : (t slot n : ℕ) → locate gz t slot n ≡ locate gk t slot n
  places_on t slot n = places_lead gk gz lead t slot n

  box_on : (l : Location) → box_leads (value_in gz l) ≡ box_leads (value_in gk l)
  box_on l = sym (box_outline (value_in gz l)) ∙ ap box_leads (s.stands l) ∙ box_outline (value_in gk l)

  below_on : (l : Location) (e : ℕ) → boxes_below gz l e ≡ boxes_below gk l e
  below_on l zero = refl
  below_on l (suc e) = ap (λ o. box_leads (value_behind gz o)) (below_on l e) ∙ by (boxes_below gk l e)
    where
      by : (o : Option Location) → box_leads (value_behind gz o) ≡ box_leads (value_behind gk o)
      by None = refl
      by (Some h) = box_on h

  pub alone_on : (l : Location) → OwnsAlone k l → OwnsAlone z l
  alone_on l go e h b below is j r f same =
      let b2 = leads_box (value_in gk h) b.object (sym (box_on h) ∙ ap box_leads is) in
      let r2 = outlined_reference (value_in gk j) r (sym (s.stands j) ∙ ap outline f) in
      go e h b2.0 (sym (below_on l e) ∙ below) b2.1 j r2.0 r2.1 (ap (λ (q : MutRef). q.object) r2.2 ∙ same ∙ sym b2.2)

  pub rooted_on : z.code ≡ k.code → RootedIn k → RootedIn z
  rooted_on code root a h =
      let q = s.takes a h in
      let l = root q.taking q.among in
      (l.0, places_on a.thread a.place.slot a.place.depth ∙ ap (λ u. locate gk u a.place.slot a.place.depth) (sym q.thread) ∙ ap (λ (p : Lval). locate gk q.taking.thread p.slot p.depth) (sym q.place) ∙ l.1)

  pub apart_on : (c : Location) → ((a : Taking) (e : ℕ) → Among a (takings k.code gk.threads) → e ≤ a.place.depth → locate gk a.thread a.place.slot e ≡ Some c → ⊥)
      → (a : Taking) (e : ℕ) → Among a (takings z.code gz.threads) → e ≤ a.place.depth → locate gz a.thread a.place.slot e ≡ Some c → ⊥
  apart_on c go a e h le located =
      let q = s.takes a h in
      let same : locate gk q.taking.thread q.taking.place.slot e ≡ Some c = ap (λ u. locate gk u q.taking.place.slot e) q.thread ∙ ap (λ (p : Lval). locate gk a.thread p.slot e) q.place ∙ sym (places_on a.thread a.place.slot e) ∙ located in
      go q.taking e q.among (subst (λ (p : Lval). e ≤ p.depth) (sym q.place) le) same
