-- A mutable reference goes from a slot or the hand of one thread, and the box that it was made from gets its word in a cell.
use Rattle.std.proofs.Common.{◌≡◌, ◌≢◌, ◌⊎◌, inl, inr, ⊎_elim, ℕ, zero, suc, ◌≤◌, true, false, map, List, [], ◌∷◌, Option, Some, None, refl, sym, ap, subst, ◌∙◌, arith}
use Rattle.std.specs.Prelude.{slice_get}
use Rattle.law_words_ends.specs.Below.fr_base.declared.instruction.Instr.{Instr}
use Rattle.law_words_ends.specs.Below.fr_base.declared.instruction.Instr.TheVariants as instr
use Rattle.law_words_ends.specs.Below.heap_partition.declared.value.Cell.{Cell}
use Rattle.law_words_ends.specs.Below.mut_borrow.declared.mutable.MutRef.{MutRef}
use Rattle.law_words_ends.specs.Below.thread_state.View.{ThreadState}
use Rattle.law_words_ends.specs.Below.thread_state.declared.phase.Phase.{Phase}
use Rattle.law_words_ends.specs.Below.thread_state.declared.phase.Phase.TheVariants as phase
use Rattle.law_words_ends.specs.Below.thread_state.declared.value.Value.TheVariants as value
use Rattle.law_words_ends.specs.Below.server_model.Servers.{Cluster}
use Rattle.law_words_ends.specs.Below.server_model.Places.{with_word}
use Rattle.law_words_ends.specs.Below.coherent_memory.Names.{Among}
use Rattle.law_words_ends.specs.Below.coherent_memory.Things.{Location, at_slot, at_temp, in_cell, Thing, lies, thread_things, things_of}
use Rattle.law_words_ends.specs.Below.coherent_memory.Follow.{Ground, Standing, cell_of, value_in, value_of, value_behind, leads, locate, thread_at, place_at}
use Rattle.law_words_ends.specs.Below.coherent_memory.Stale.{Reference, references, holder_of, is_held_at, is_among, lent_places, one_star_less}
use Rattle.law_words_ends.specs.Below.coherent_memory.Sight.{Pointer, pointers_of, pointers_in, sight}
use Rattle.law_words_ends.specs.Below.coherent_memory.Placing.{standing_of, standing_in}
use Rattle.law_words_ends.specs.Below.coherent_memory.Words.{IsStale, HasWords}
use Rattle.law_words_ends.specs.Below.coherent_memory.Dirty.{PastWords}
use Rattle.law_words_ends.specs.Below.coherent_memory.Coherent.{Holds, first_at_holder}
use Rattle.law_words_ends.proofs.Below.coherent_types.Branches.{found}
use Rattle.law_words_ends.proofs.Below.law_words_paths.paths.Sole.{some_is}
use Rattle.law_words_ends.specs.Below.law_words_paths.words.Reworded.{HasPlaces, LiesThere, Renewed, a_box, a_reference, taken_word, Turn, turn_of, Reworded}
use Rattle.law_words_ends.specs.Below.law_words_paths.words.Soles.{SameOutlines}
use Rattle.law_words_ends.specs.Below.law_words_paths.words.Unmoved.{pointing, Taking, taking_by, taking_of, with_taking, takings, LeavesWords}
use Rattle.law_words_ends.proofs.Below.law_words_paths.words.Alone.{of_standing}
use Rattle.law_words_ends.proofs.Below.law_words_paths.words.Grounds.{same_place}
use Rattle.law_words_ends.proofs.Below.law_words_paths.words.Loose.{box_nowhere}
use Rattle.law_words_ends.proofs.Below.law_words_paths.words.Outlines.{leads_outline, soles_stay}
use Rattle.law_words_ends.proofs.Below.law_words_paths.words.Put.{Split}
use Rattle.law_words_ends.proofs.Below.law_words_paths.words.Standing.{of_thing, pointers_among, standing_among, stands_in}
use Rattle.law_words_writes.proofs.Below.law_words_kept.stays.Alike.{standing_turn}
use Rattle.law_words_ends.specs.Below.law_words_kept.moves.Ended.{its_word, Ended}
use Rattle.law_words_ends.proofs.Below.law_words_kept.moves.Ended.{ends_leave_words}
use Rattle.law_words_writes.proofs.Below.law_words_values.carried.Replaced.{tail_of, at_a, at_b, in_slots, in_temps, in_cells, takings_same, lies_back, pointer_back, standing_back, of_thread}
use Rattle.law_words_writes.proofs.Below.law_words_values.carried.Passing.{Here, slot, temp, nowhere, located, here, no_temp}
use Rattle.law_words_writes.proofs.Below.law_words_values.carried.Taken.{taker_of, taking_thread}
use Rattle.law_words_writes.proofs.Below.law_words_values.carried.Hands.{RootedIn}
use Rattle.law_words_ends.specs.Below.law_words_values.references.Unpassed.{IsUnpassed}
use Rattle.law_words_ends.proofs.Below.law_words_values.references.QuietSlots.{own_slot}
use Rattle.law_words_ends.proofs.Below.law_words_values.references.Chains.{held_there}
use Rattle.law_words_writes.proofs.Emptying.{other_side, back_split}
use Rattle.law_words_ends.proofs.variables.EndPlaces.{Without}

-- WHAT THREADS HAVE TAKEN is told by their turns

abbrev taking_turn : ℕ → Option ℕ → Option Instr → Option Taking
taking_turn n (Some w) (Some (instr.BorrowMut p)) = Some (record { thread = n; place = p; word = w })
taking_turn n _ _ = None

by_turn : (t : ℕ) (p : Phase) (i : Option Instr) → taking_by t p i ≡ taking_turn t (taken_word p) i
by_turn t (phase.Taken w) (Some (instr.BorrowMut p)) = refl
by_turn t (phase.Taken w) (Some _) = refl
by_turn t (phase.Taken w) None = refl
by_turn t _ i = refl

abbrev turn_takings : List Instr → List Turn → List Taking
turn_takings code [] = []
turn_takings code (t ∷ ts) = with_taking (taking_turn t.number t.taken (slice_get code t.pc)) (turn_takings code ts)

takings_are : (code : List Instr) (xs : List Standing) → takings code xs ≡ turn_takings code (map turn_of xs)
takings_are code [] = refl
takings_are code (x ∷ xs) =
    ap (λ o. with_taking o (takings code xs)) (by_turn x.thread.number x.thread.phase (slice_get code x.thread.pc)) ∙ ap (with_taking (taking_turn x.thread.number (taken_word x.thread.phase) (slice_get code x.thread.pc))) (takings_are code xs)

-- WHERE ONE CELL HAS ANOTHER BOX

-- what points from no location is in no cell
cell_pointless : (s g : ℕ) (c : Cell) (y : Thing) (p : Pointer) → Among y (lies s g c ∷ []) → Among p (pointers_of y) → p.at ≡ None → ⊥
cell_pointless s g c y p (inl e) h f = box_nowhere (in_cell c.object) c.value p (subst (λ z. Among p (pointers_of z)) (sym e) h) f
cell_pointless s g c y p (inr n) h f = absurd n

cell_standless : (s g : ℕ) (c : Cell) (y : Thing) (p : Pointer) → Among y (lies s g c ∷ []) → Among p (standing_of y) → p.at ≡ None → ⊥
cell_standless s g c y p (inl e) h f = box_nowhere (in_cell c.object) c.value p (subst (λ z. Among p (standing_of z)) (sym e) h) f
cell_standless s g c y p (inr n) h f = absurd n

module _ (a b : Cluster) (s g : ℕ) (c d : Cell) (q : Split (things_of a) (things_of b) (lies s g c ∷ []) (lies s g d ∷ [])) where
  -- pointers at no location go on
  pointers_on : (p : Pointer) → p.at ≡ None → Among p (pointers_in (things_of a)) → Among p (pointers_in (things_of b))
  pointers_on p e h =
      let y = of_thing p (things_of a) h in
      ⊎_elim (λ (z : Among y.thing (lies s g c ∷ [])). absurd (cell_pointless s g c y.thing p z y.pointer e)) (λ (z : Among y.thing (things_of b)). pointers_among p y.thing (things_of b) z y.pointer)
      (other_side (things_of a) (things_of b) (lies s g c ∷ []) (lies s g d ∷ []) q y.thing y.among)

  standing_on : (p : Pointer) → p.at ≡ None → Among p (standing_in (things_of a)) → Among p (standing_in (things_of b))
  standing_on p e h =
      let y = of_standing p (things_of a) h in
      ⊎_elim (λ (z : Among y.thing (lies s g c ∷ [])). absurd (cell_standless s g c y.thing p z y.pointer e)) (λ (z : Among y.thing (things_of b)). standing_among p y.thing (things_of b) z y.pointer)
      (other_side (things_of a) (things_of b) (lies s g c ∷ []) (lies s g d ∷ []) q y.thing y.among)

  -- the same object lies there
  lies_on : d.object ≡ c.object → Among (lies s g d) (things_of b) → (m i : ℕ) (z : Cell) → Among (lies m i z) (things_of a) → LiesThere b m i z.object
  lies_on same there m i z h =
      ⊎_elim by (λ (w : Among (lies m i z) (things_of b)). record { cell = z; among = w; object = refl }) (other_side (things_of a) (things_of b) (lies s g c ∷ []) (lies s g d ∷ []) q (lies m i z) h)
    where
      parts : {r v j w : ℕ} {e f : Cell} → lies r v e ≡ lies j w f → (r ≡ j) × (v ≡ w) × (e ≡ f)
      parts e = (cc, cc, cc)

      by : Among (lies m i z) (lies s g c ∷ []) → LiesThere b m i z.object
      by (inl e) = let v = parts e in record { cell = d; among = subst (λ u. Among (lies u i d) (things_of b)) v.0 (subst (λ u. Among (lies s u d) (things_of b)) v.1 there); object = same ∙ ap (λ (x : Cell). x.object) v.2 }
      by (inr n) = absurd n

-- WHERE PLACES LEAD

module _ (ga gb : Ground) (at : Location) (leads_same : (t : ℕ) (l : Location) → (l ≡ at → ⊥) → leads t (value_in gb l) ≡ leads t (value_in ga l)) where
  abbrev Follows : ℕ → ℕ → ℕ → Location → Type 0
  Follows t k e m = ((z : ℕ) × (z ≤ e) × (locate ga t k z ≡ Some at)) ⊎ ((locate gb t k e ≡ Some m) × (m ≡ at → ⊥))

  -- a place ends there, or elsewhere
  ends_there : (t k e : ℕ) (m : Location) → locate ga t k e ≡ Some m → locate gb t k e ≡ Some m → Follows t k e m
  ends_there t k e m q w = ⊎_elim (λ (z : m ≡ at). inl (e, omega arith, q ∙ ap Some z)) (λ (z : m ≡ at → ⊥). inr (w, z)) (same_place m at)

  -- a place is followed as before, or comes to what goes
  follow : (t k e : ℕ) (m : Location) → locate ga t k e ≡ Some m → Follows t k e m
  follow t k zero m q = ends_there t k zero m q q
  follow t k (suc e) m q = by (locate ga t k e) refl q (λ j w. follow t k e j w)
    where
      by : (o : Option Location) → locate ga t k e ≡ o → leads t (value_behind ga o) ≡ Some m → ((j : Location) → locate ga t k e ≡ Some j → Follows t k e j) → Follows t k (suc e) m
      by None z g go = absurd (cc g)
      by (Some j) z g go =
          ⊎_elim (λ (v : (u : ℕ) × (u ≤ e) × (locate ga t k u ≡ Some at)). inl (v.0, omega (arith, v.1), v.2))
          (λ (v : (locate gb t k e ≡ Some j) × (j ≡ at → ⊥)). ends_there t k (suc e) m q (ap (λ o. leads t (value_behind gb o)) v.0 ∙ leads_same t j v.1 ∙ g)) (go j z)

  -- so it leads where it led, unless it comes there
  goes_on : (t k e : ℕ) (m : Location) → ((z : ℕ) → z ≤ e → locate ga t k z ≡ Some at → ⊥) → locate ga t k e ≡ Some m → locate gb t k e ≡ Some m
  goes_on t k e m none q =
      ⊎_elim (λ (v : (z : ℕ) × (z ≤ e) × (locate ga t k z ≡ Some at)). absurd (none v.0 v.1 v.2)) (λ (v : (locate gb t k e ≡ Some m) × (m ≡ at → ⊥)). v.0) (follow t k e m q)

  -- with a star less too
  less_on : (t k e : ℕ) (m : Location) → ((z : ℕ) → z ≤ e → locate ga t k z ≡ Some at → ⊥) → locate ga t k e ≡ Some m → one_star_less gb t k e ≡ one_star_less ga t k e
  less_on t k zero m none q = refl
  less_on t k (suc e) m none q = by (locate ga t k e) refl q
    where
      by : (o : Option Location) → locate ga t k e ≡ o → leads t (value_behind ga o) ≡ Some m → locate gb t k e ≡ locate ga t k e
      by None z w = absurd (cc w)
      by (Some j) z w = goes_on t k e j (λ v le f. none v (omega (arith, le)) f) z ∙ sym z

-- THE END

module _ (a m b : Cluster) (n g : ℕ) (c d : Cell) (x y : ThreadState) (from : Here) (at : Location) (r : MutRef) (w : Without a.code n x y from) (none : taking_by x.number x.phase (slice_get a.code x.pc) ≡ None) (place : located x.number from ≡ Some at)
    (re : Reworded a m (in_cell c.object) r.object r.word) (same : d.object ≡ c.object) (q : Split (things_of a) (things_of m) (lies n g c ∷ []) (lies n g d ∷ [])) (cell_there : Among (lies n g c) (things_of a)) (s : Split (things_of m) (things_of b) (thread_things n false x) (thread_things n false y))
    (code_m : m.code ≡ a.code) (code : b.code ≡ a.code) (pa : HasPlaces a) (pm : HasPlaces m) (pb : HasPlaces b) (firsts : Holds a first_at_holder) (rooted : RootedIn a) (unpassed : IsUnpassed a at) (stood : value_in (sight a).ground at ≡ Some (value.Mut r))
    (held : holder_of (sight a).ground at r.holder ≡ Some (in_cell c.object)) (another_word : r.word ≢ r.first) where
  abbrev ga : Ground
  ga = (sight a).ground

  abbrev gm : Ground
  gm = (sight m).ground

  abbrev gb : Ground
  gb = (sight b).ground

  abbrev h : Location
  h = in_cell c.object

  -- the reference stands in no cell
  not_cell : at ≡ h → ⊥
  not_cell e = by from place
    where
      by : (f : Here) → located x.number f ≡ Some at → ⊥
      by (slot i) z = let v : Some (at_slot x.number i) ≡ Some h = z ∙ ap Some e in absurd (cc v)
      by (temp i) z = let v : Some (at_temp x.number i) ≡ Some h = z ∙ ap Some e in absurd (cc v)
      by nowhere z = absurd (cc z)

  -- WHAT STANDS WHERE

  not_from : (f : Here) (l : Location) → located x.number f ≡ Some l → (l ≡ at → ⊥) → f ≡ from → ⊥
  not_from f l e ne z = ne (some_is (sym e ∙ ap (located x.number) z ∙ place))

  value_same : (l : Location) → (l ≡ at → ⊥) → value_in gb l ≡ value_in gm l
  value_same (at_slot u i) ne =
      ⊎_elim (λ (e : value_in gb (at_slot u i) ≡ value_in gm (at_slot u i)). e)
      (λ (e : (x.number ≡ u) × (value_in gm (at_slot u i) ≡ slice_get x.slots i) × (value_in gb (at_slot u i) ≡ slice_get y.slots i)).
      e.2 ∙ w.slots i (not_from (slot i) (at_slot u i) (ap (λ z. Some (at_slot z i)) e.0) ne) ∙ sym e.1) (in_slots m b n x y w.number s pm pb u i)
  value_same (at_temp u i) ne =
      ⊎_elim (λ (e : value_in gb (at_temp u i) ≡ value_in gm (at_temp u i)). e)
      (λ (e : (x.number ≡ u) × (value_in gm (at_temp u i) ≡ slice_get x.temps i) × (value_in gb (at_temp u i) ≡ slice_get y.temps i)).
      e.2 ∙ w.temps i (not_from (temp i) (at_temp u i) (ap (λ z. Some (at_temp z i)) e.0) ne) ∙ sym e.1) (in_temps m b n x y w.number s pm pb u i)
  value_same (in_cell o) ne = in_cells m b n x y w.number s pm pb o

  here_b : (f : Here) (l : Location) → located x.number f ≡ Some l → pointing (here y f) ≡ None → pointing (value_in gb l) ≡ None
  here_b (slot i) l e z = ap (λ v. pointing (value_in gb v)) (some_is (sym e)) ∙ ap (λ o. pointing (Rattle.law_words_ends.specs.Below.coherent_memory.Follow.slot_of o i)) (at_b m b n x y w.number s pm pb) ∙ z
  here_b (temp i) l e z = ap (λ v. pointing (value_in gb v)) (some_is (sym e)) ∙ ap (λ o. pointing (Rattle.law_words_ends.specs.Below.coherent_memory.Follow.temp_of o i)) (at_b m b n x y w.number s pm pb) ∙ z
  here_b nowhere l e z = absurd (cc e)

  -- the box has the word
  box_stood : (r0 : MutRef) → re.old ≡ value.Mut r0 → ⊥
  box_stood r0 e = by (cell_of ga.cells c.object) (re.stood ∙ ap Some e)
    where
      by : (o : Option Cell) → value_of o ≡ Some (value.Mut r0) → ⊥
      by None f = cc f
      by (Some z) f = cc f

  back : with_word r.word re.old ≡ Some re.new
  back = by re.renewed
    where
      by : Renewed r.word re.old re.new → with_word r.word re.old ≡ Some re.new
      by (a_box p e f) = ap (with_word r.word) e ∙ ap Some (sym f)
      by (a_reference r0 q0 e f i j k l) = absurd (box_stood r0 e)

  -- PLACES

  outlines : SameOutlines a m
  outlines = soles_stay.reworded a m h r.object r.word re

  leads_same : (t : ℕ) (l : Location) → (l ≡ at → ⊥) → leads t (value_in gb l) ≡ leads t (value_in ga l)
  leads_same t l ne = ap (leads t) (value_same l ne) ∙ sym (leads_outline t (value_in gm l)) ∙ ap (leads t) (outlines.stands l) ∙ leads_outline t (value_in ga l)

  -- holders are where they were
  holder_so : (l j : Location) (p : MutRef) → value_in ga l ≡ Some (value.Mut p) → holder_of ga l p.holder ≡ Some j → holder_of gb l p.holder ≡ Some j
  holder_so (at_slot t i) j p e f = goes_on ga gb at leads_same t p.holder.slot p.holder.depth j (λ z le v. unpassed (at_slot t i) j p z e f le v) f
  holder_so (at_temp t i) j p e f = goes_on ga gb at leads_same t p.holder.slot p.holder.depth j (λ z le v. unpassed (at_temp t i) j p z e f le v) f
  holder_so (in_cell o) j p e f = absurd (cc f)

  -- WHAT WAS TAKEN

  takings_m : takings a.code gm.threads ≡ takings a.code ga.threads
  takings_m = takings_are a.code gm.threads ∙ ap (turn_takings a.code) re.turns ∙ sym (takings_are a.code ga.threads)

  takings_b : takings a.code gb.threads ≡ takings a.code ga.threads
  takings_b = takings_same m b n x y w.number s pm pb a.code none w.untaken_after ∙ takings_m

  pub same_takings : takings b.code gb.threads ≡ takings a.code ga.threads
  same_takings = ap (λ z. takings z gb.threads) code ∙ takings_b

  -- what was taken is another thread's, whose places come to slots of its own
  another : (t : Taking) → Among t (takings a.code ga.threads) → x.number ≡ t.thread → ⊥
  another t v e =
      let z = taker_of a.code gm.threads t (subst (λ ts. Among t ts) (sym takings_m) v) in
      let its : t.thread ≡ z.taker.thread.number = taking_thread z.taker.thread.number z.taker.thread.phase (slice_get a.code z.taker.thread.pc) t z.taking in
      let me : Standing = record { server = n; packed = false; thread = x } in
      let one : Some z.taker ≡ Some me = sym (found z.taker (things_of m) (pm.numbers_differ z.taker.thread.number) z.among) ∙ ap (thread_at gm.threads) (sym its ∙ sym e) ∙ at_a m b n x y w.number s pm pb in
      let none_some : None ≡ Some t = sym none ∙ ap (taking_of a.code) (sym (some_is one)) ∙ z.taking in
      absurd (cc none_some)

  -- what was taken passes nothing that goes
  not_come : (f : Here) (t : Taking) (z : ℕ) → located x.number f ≡ Some at → Among t (takings a.code ga.threads) → locate ga t.thread t.place.slot z ≡ Some at → ⊥
  not_come (slot i) t z e v u = another t v (own_slot ga t.thread t.place.slot z x.number i (u ∙ sym e))
  not_come (temp i) t z e v u = no_temp ga t.thread t.place.slot z x.number i (u ∙ sym e)
  not_come nowhere t z e v u = absurd (cc e)

  -- so it is where it was
  pub taken_same : (t : Taking) → Among t (takings a.code ga.threads) → (place_at gb t.thread t.place ≡ place_at ga t.thread t.place) × (one_star_less gb t.thread t.place.slot t.place.depth ≡ one_star_less ga t.thread t.place.slot t.place.depth)
  taken_same t v =
      let z = rooted t v in (
        goes_on ga gb at leads_same t.thread t.place.slot t.place.depth z.0 (λ u le f. not_come from t u place v f) z.1 ∙ sym z.1,
        less_on ga gb at leads_same t.thread t.place.slot t.place.depth z.0 (λ u le f. not_come from t u place v f) z.1,
      )

  pub rooted_after : RootedIn b
  rooted_after t v = let z = subst (λ ts. Among t ts) same_takings v in let f = rooted t z in (f.0, (taken_same t z).0 ∙ f.1)

  -- WHAT POINTS FROM NO LOCATION

  turned_thread : Split (things_of b) (things_of m) (thread_things n false y) (thread_things n false x)
  turned_thread = back_split s

  into_a : (p : Pointer) → p.at ≡ None → Among p (pointers_in (things_of m)) → Among p (pointers_in (things_of a))
  into_a p e v = pointers_on m a n g d c (back_split q) p e v

  stand_a : (p : Pointer) → p.at ≡ None → Among p (standing_in (things_of m)) → Among p (standing_in (things_of a))
  stand_a p e v = standing_on m a n g d c (back_split q) p e v

  stand_m : (p : Pointer) → p.at ≡ None → Among p (standing_in (things_of a)) → Among p (standing_in (things_of m))
  stand_m p e v = standing_on a m n g c d q p e v

  -- of the thread
  tail_a : (p : Pointer) → p.at ≡ None → Among p (standing_in (tail_of n y)) → Among p (standing_in (things_of a))
  tail_a p e v = stand_a p e (of_thread m b n x y w.number s pm pb p (standing_turn a.code (tail_of n y) (tail_of n x) p w.tails.back e v))

  tail_b : (p : Pointer) → p.at ≡ None → Among p (standing_in (tail_of n x)) → Among p (standing_in (things_of b))
  tail_b p e v = of_thread b m n y x (sym w.number) turned_thread pb pm p (standing_turn a.code (tail_of n x) (tail_of n y) p w.tails.on e v)

  -- IT IS AN END

  module _ (clean : r.dirty ≡ false) (fresh : IsStale (sight a) (Some at) → ⊥) (only : (z : Reference) → Among z (references ga (things_of a)) → is_held_at h z.holder ≡ true → z.at ≡ at)
      (untaken : is_among h (lent_places a.code ga ga.threads) ≡ true → ⊥) (unmade : (z : Reference) → Among z (references ga (things_of a)) → is_held_at at z.holder ≡ true → ⊥) where
    is_end : Ended a b at h r
    is_end = record {
      stood = stood;
      held = held;
      clean = clean;
      fresh = fresh;
      only = only;
      untaken = untaken;
      unmade = unmade;
      gone = here_b from at place w.gone;
      old = re.old;
      new = re.new;
      before = re.stood;
      after = value_same h (λ e. not_cell (sym e)) ∙ re.stands;
      back = its_word another_word back;
      elsewhere = λ l ne nh. ap pointing (value_same l ne ∙ re.elsewhere l nh);
      holders = λ l p ne e. (let z = held_there a firsts l p e in holder_so l z.0 p e z.1 ∙ sym z.1);
      taken = taken_same;
      takes = λ t v. subst (λ ts. Among t ts) same_takings v;
      took = λ t v. subst (λ ts. Among t ts) (sym same_takings) v;
      loose = λ p e v. ⊎_elim (λ (z : Among p (pointers_in (things_of m))). into_a p e z) (λ (z : Among p (standing_in (tail_of n y))). stands_in p (things_of a) (tail_a p e z)) (pointer_back m b n x y w.number s pm pb p v);
      remain = λ p e v. ⊎_elim (λ (z : Among p (pointers_in (things_of b))). z) (λ (z : Among p (standing_in (tail_of n x))). stands_in p (things_of b) (tail_b p e z)) (pointer_back b m n y x (sym w.number) turned_thread pb pm p (pointers_on a m n g c d q p e v));
      standing = λ p e v. ⊎_elim (λ (z : Among p (standing_in (things_of m))). stand_a p e z) (λ (z : Among p (standing_in (tail_of n y))). tail_a p e z) (standing_back m b n x y w.number s pm pb p v);
      lay = λ i j z v. lies_on m a n g d c (back_split q) (sym same) cell_there i j z (lies_back m b n x y w.number s pm pb i j z v);
    }

    -- so the words stay
    pub cell_end_leaves : HasWords (sight a) → PastWords (sight a) → LeavesWords a b
    cell_end_leaves words past = record {
      words = λ v. ends_leave_words.words a b at h r pa pb is_end firsts v;
      holders = λ f. ends_leave_words.holders a b at h r pa pb is_end f;
      dirty = λ f. ends_leave_words.dirty a b at h r pa pb is_end firsts words past f;
      past = λ f. ends_leave_words.past a b at h r pa pb is_end firsts words f;
    }
