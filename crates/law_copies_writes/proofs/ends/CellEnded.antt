-- A mutable reference goes from a slot or the hand of one thread, and the box that it was made from gets its word in a cell: what references and marks see of it.
use Rattle.std.proofs.Common.{◌≡◌, ◌≢◌, ◌⊎◌, inl, inr, ⊎_elim, ℕ, zero, suc, ◌≤◌, true, false, [], ◌∷◌, Option, Some, None, refl, sym, ap, subst, ◌∙◌, arith}
use Rattle.std.specs.Prelude.{slice_get}
use Rattle.law_copies_writes.specs.Below.fr_base.declared.name.ObjNo.{ObjNo}
use Rattle.law_copies_writes.specs.Below.heap_partition.declared.value.Cell.{Cell}
use Rattle.law_copies_writes.specs.Below.mut_borrow.declared.mutable.MutRef.{MutRef}
use Rattle.law_copies_writes.specs.Below.thread_state.View.{ThreadState}
use Rattle.law_copies_writes.specs.Below.thread_state.declared.value.Value.TheVariants as value
use Rattle.law_copies_writes.specs.Below.server_model.Servers.{Cluster}
use Rattle.law_copies_writes.specs.Below.server_model.Places.{with_word}
use Rattle.law_copies_writes.specs.Below.coherent_memory.Names.{Among}
use Rattle.law_copies_writes.specs.Below.coherent_memory.Things.{Location, at_slot, at_temp, in_cell, lies, thread_things, things_of}
use Rattle.law_copies_writes.specs.Below.coherent_memory.Follow.{Ground, cell_of, slot_of, temp_of, value_in, value_of, value_behind, leads, locate}
use Rattle.law_copies_writes.specs.Below.coherent_memory.Stale.{Reference, references, holder_of, is_held_at, is_among, lent_places}
use Rattle.law_copies_writes.specs.Below.coherent_memory.Sight.{sight}
use Rattle.law_copies_writes.specs.Below.coherent_memory.Words.{IsStale}
use Rattle.law_copies_writes.specs.Below.coherent_memory.Coherent.{Holds, first_at_holder}
use Rattle.law_copies_writes.proofs.Below.law_words_paths.paths.Sole.{some_is}
use Rattle.law_copies_writes.specs.Below.law_words_paths.words.Reworded.{HasPlaces, Renewed, a_box, a_reference, Reworded}
use Rattle.law_copies_writes.specs.Below.law_words_paths.words.Soles.{SameOutlines}
use Rattle.law_copies_writes.specs.Below.law_words_paths.words.Unmoved.{pointing, taking_by, takings}
use Rattle.law_copies_writes.proofs.Below.law_words_paths.words.Grounds.{same_place}
use Rattle.law_copies_writes.proofs.Below.law_words_paths.words.Outlines.{leads_outline, soles_stay}
use Rattle.law_copies_writes.proofs.Below.law_words_paths.words.Put.{Split}
use Rattle.law_copies_writes.specs.Below.law_words_kept.moves.Ended.{its_word}
use Rattle.law_copies_writes.proofs.Below.law_words_values.carried.Replaced.{at_b, in_slots, in_temps, in_cells}
use Rattle.law_copies_writes.proofs.Below.law_words_values.carried.Passing.{Here, slot, temp, nowhere, located, here}
use Rattle.law_copies_writes.proofs.Below.law_words_values.carried.Hands.{RootedIn}
use Rattle.law_words_ends.specs.Below.law_words_values.references.Unpassed.{IsUnpassed}
use Rattle.law_words_ends.proofs.Below.law_words_values.references.Chains.{held_there}
use Rattle.law_words_ends.proofs.variables.EndPlaces.{Without}
use Rattle.law_words_ends.proofs.stars.CellEnds.{same_takings, taken_same}
use Rattle.law_copies_writes.proofs.Below.law_copies_kept.hidden.EndMarks.{Leaving}

-- WHERE PLACES LEAD

module _ (ga gb : Ground) (at : Location) (leads_same : (t : ℕ) (l : Location) → (l ≡ at → ⊥) → leads t (value_in gb l) ≡ leads t (value_in ga l)) where
  abbrev Follows : ℕ → ℕ → ℕ → Location → Type 0
  Follows t k e m = ((z : ℕ) × (z ≤ e) × (locate ga t k z ≡ Some at)) ⊎ ((locate gb t k e ≡ Some m) × (m ≡ at → ⊥))

  -- a place ends there, or elsewhere
  ends_there : (t k e : ℕ) (m : Location) → locate ga t k e ≡ Some m → locate gb t k e ≡ Some m → Follows t k e m
  ends_there t k e m q w = ⊎_elim (λ (z : m ≡ at). inl (e, omega arith, q ∙ ap Some z)) (λ (z : m ≡ at → ⊥). inr (w, z)) (same_place m at)

  -- a place is followed as before, or comes to what goes
  follow : (t k e : ℕ) (m : Location) → locate ga t k e ≡ Some m → Follows t k e m
  follow t k zero m q = ends_there t k zero m q q
  follow t k (suc e) m q = by (locate ga t k e) refl q (λ j w. follow t k e j w)
    where
      by : (o : Option Location) → locate ga t k e ≡ o → leads t (value_behind ga o) ≡ Some m → ((j : Location) → locate ga t k e ≡ Some j → Follows t k e j) → Follows t k (suc e) m
      by None z g go = absurd (cc g)
      by (Some j) z g go =
          ⊎_elim (λ (v : (u : ℕ) × (u ≤ e) × (locate ga t k u ≡ Some at)). inl (v.0, omega (arith, v.1), v.2))
          (λ (v : (locate gb t k e ≡ Some j) × (j ≡ at → ⊥)). ends_there t k (suc e) m q (ap (λ o. leads t (value_behind gb o)) v.0 ∙ leads_same t j v.1 ∙ g)) (go j z)

  -- so it leads where it led, unless it comes there
  goes_on : (t k e : ℕ) (m : Location) → ((z : ℕ) → z ≤ e → locate ga t k z ≡ Some at → ⊥) → locate ga t k e ≡ Some m → locate gb t k e ≡ Some m
  goes_on t k e m none q =
      ⊎_elim (λ (v : (z : ℕ) × (z ≤ e) × (locate ga t k z ≡ Some at)). absurd (none v.0 v.1 v.2)) (λ (v : (locate gb t k e ≡ Some m) × (m ≡ at → ⊥)). v.0) (follow t k e m q)

-- THE END

module _ (a m b : Cluster) (n g : ℕ) (c d : Cell) (x y : ThreadState) (from : Here) (at : Location) (r : MutRef) (w : Without a.code n x y from) (none : taking_by x.number x.phase (slice_get a.code x.pc) ≡ None) (place : located x.number from ≡ Some at)
    (re : Reworded a m (in_cell c.object) r.object r.word) (same : d.object ≡ c.object) (q : Split (things_of a) (things_of m) (lies n g c ∷ []) (lies n g d ∷ [])) (cell_there : Among (lies n g c) (things_of a)) (s : Split (things_of m) (things_of b) (thread_things n false x) (thread_things n false y))
    (code_m : m.code ≡ a.code) (code : b.code ≡ a.code) (pa : HasPlaces a) (pm : HasPlaces m) (pb : HasPlaces b) (firsts : Holds a first_at_holder) (rooted : RootedIn a) (unpassed : IsUnpassed a at) (stood : value_in (sight a).ground at ≡ Some (value.Mut r))
    (held : holder_of (sight a).ground at r.holder ≡ Some (in_cell c.object)) (another_word : r.word ≢ r.first) where
  abbrev ga : Ground
  ga = (sight a).ground

  abbrev gm : Ground
  gm = (sight m).ground

  abbrev gb : Ground
  gb = (sight b).ground

  abbrev h : Location
  h = in_cell c.object

  -- the reference stands in no cell
  not_cell : at ≡ h → ⊥
  not_cell e = by from place
    where
      by : (f : Here) → located x.number f ≡ Some at → ⊥
      by (slot i) z = let v : Some (at_slot x.number i) ≡ Some h = z ∙ ap Some e in absurd (cc v)
      by (temp i) z = let v : Some (at_temp x.number i) ≡ Some h = z ∙ ap Some e in absurd (cc v)
      by nowhere z = absurd (cc z)

  -- WHAT STANDS WHERE

  not_from : (f : Here) (l : Location) → located x.number f ≡ Some l → (l ≡ at → ⊥) → f ≡ from → ⊥
  not_from f l e ne z = ne (some_is (sym e ∙ ap (located x.number) z ∙ place))

  value_same : (l : Location) → (l ≡ at → ⊥) → value_in gb l ≡ value_in gm l
  value_same (at_slot u i) ne =
      ⊎_elim (λ (e : value_in gb (at_slot u i) ≡ value_in gm (at_slot u i)). e)
      (λ (e : (x.number ≡ u) × (value_in gm (at_slot u i) ≡ slice_get x.slots i) × (value_in gb (at_slot u i) ≡ slice_get y.slots i)).
      e.2 ∙ w.slots i (not_from (slot i) (at_slot u i) (ap (λ z. Some (at_slot z i)) e.0) ne) ∙ sym e.1) (in_slots m b n x y w.number s pm pb u i)
  value_same (at_temp u i) ne =
      ⊎_elim (λ (e : value_in gb (at_temp u i) ≡ value_in gm (at_temp u i)). e)
      (λ (e : (x.number ≡ u) × (value_in gm (at_temp u i) ≡ slice_get x.temps i) × (value_in gb (at_temp u i) ≡ slice_get y.temps i)).
      e.2 ∙ w.temps i (not_from (temp i) (at_temp u i) (ap (λ z. Some (at_temp z i)) e.0) ne) ∙ sym e.1) (in_temps m b n x y w.number s pm pb u i)
  value_same (in_cell o) ne = in_cells m b n x y w.number s pm pb o

  here_b : (f : Here) (l : Location) → located x.number f ≡ Some l → pointing (here y f) ≡ None → pointing (value_in gb l) ≡ None
  here_b (slot i) l e z = ap (λ v. pointing (value_in gb v)) (some_is (sym e)) ∙ ap (λ o. pointing (slot_of o i)) (at_b m b n x y w.number s pm pb) ∙ z
  here_b (temp i) l e z = ap (λ v. pointing (value_in gb v)) (some_is (sym e)) ∙ ap (λ o. pointing (temp_of o i)) (at_b m b n x y w.number s pm pb) ∙ z
  here_b nowhere l e z = absurd (cc e)

  -- the box has the word
  box_stood : (r0 : MutRef) → re.old ≡ value.Mut r0 → ⊥
  box_stood r0 e = by (cell_of ga.cells c.object) (re.stood ∙ ap Some e)
    where
      by : (o : Option Cell) → value_of o ≡ Some (value.Mut r0) → ⊥
      by None f = cc f
      by (Some z) f = cc f

  back : with_word r.word re.old ≡ Some re.new
  back = by re.renewed
    where
      by : Renewed r.word re.old re.new → with_word r.word re.old ≡ Some re.new
      by (a_box p e f) = ap (with_word r.word) e ∙ ap Some (sym f)
      by (a_reference r0 q0 e f i j k l) = absurd (box_stood r0 e)

  -- PLACES

  outlines : SameOutlines a m
  outlines = soles_stay.reworded a m h r.object r.word re

  leads_same : (t : ℕ) (l : Location) → (l ≡ at → ⊥) → leads t (value_in gb l) ≡ leads t (value_in ga l)
  leads_same t l ne = ap (leads t) (value_same l ne) ∙ sym (leads_outline t (value_in gm l)) ∙ ap (leads t) (outlines.stands l) ∙ leads_outline t (value_in ga l)

  -- holders are where they were
  holder_so : (l j : Location) (p : MutRef) → value_in ga l ≡ Some (value.Mut p) → holder_of ga l p.holder ≡ Some j → holder_of gb l p.holder ≡ Some j
  holder_so (at_slot t i) j p e f = goes_on ga gb at leads_same t p.holder.slot p.holder.depth j (λ z le v. unpassed (at_slot t i) j p z e f le v) f
  holder_so (at_temp t i) j p e f = goes_on ga gb at leads_same t p.holder.slot p.holder.depth j (λ z le v. unpassed (at_temp t i) j p z e f le v) f
  holder_so (in_cell o) j p e f = absurd (cc f)

  -- cells of other objects are as they were
  pub other_cells : (o : ObjNo) → (o ≡ c.object → ⊥) → value_in gb (in_cell o) ≡ value_in ga (in_cell o)
  other_cells o away = in_cells m b n x y w.number s pm pb o ∙ re.elsewhere (in_cell o) (λ e. away (object_is e))
    where
      object_is : {v u : ObjNo} → in_cell v ≡ in_cell u → v ≡ u
      object_is e = cc

  abbrev takings_now : takings b.code gb.threads ≡ takings a.code ga.threads
  takings_now = same_takings a m b n g c d x y from at r w none place re same q cell_there s code_m code pa pm pb firsts rooted unpassed stood held another_word

  module _ (clean : r.dirty ≡ false) (fresh : IsStale (sight a) (Some at) → ⊥) (only : (z : Reference) → Among z (references ga (things_of a)) → is_held_at h z.holder ≡ true → z.at ≡ at) (untaken : is_among h (lent_places a.code ga ga.threads) ≡ true → ⊥) where
    pub cell_leaving : Leaving a b at h r
    cell_leaving = record {
      stood = stood;
      held = held;
      clean = clean;
      fresh = fresh;
      only = only;
      untaken = untaken;
      gone = here_b from at place w.gone;
      old = re.old;
      new = re.new;
      before = re.stood;
      after = value_same h (λ e. not_cell (sym e)) ∙ re.stands;
      back = its_word another_word back;
      elsewhere = λ l ne nh. ap pointing (value_same l ne ∙ re.elsewhere l nh);
      holders = λ l p ne e. (let z = held_there a firsts l p e in holder_so l z.0 p e z.1 ∙ sym z.1);
      taken = λ t v. (taken_same a m b n g c d x y from at r w none place re same q cell_there s code_m code pa pm pb firsts rooted unpassed stood held another_word t v).1;
      takes = λ t v. subst (λ ts. Among t ts) takings_now v;
      took = λ t v. subst (λ ts. Among t ts) (sym takings_now) v;
    }
