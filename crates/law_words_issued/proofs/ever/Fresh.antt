-- A pointer whose word wasn't issued isn't stale, where no first word is such a one, nor that of a pointer from which an object was taken; so its object lies where that word leads.
use Rattle.std.proofs.Common.{◌≡◌, ◌≤◌, ◌⊎◌, inl, inr, ⊎_elim, ℕ, zero, suc, ◌==◌, ◌&&◌, ◌||◌, Bool, true, false, List, [], ◌∷◌, Option, Some, None, refl, sym, ap, subst, ◌∙◌, arith}
use Rattle.std.specs.Prelude.{slice_get}
use Rattle.std.proofs.lemmas.Bool.{eq-eqb}
use Rattle.law_words_issued.specs.Below.fr_base.declared.name.ObjNo.{ObjNo}
use Rattle.law_words_issued.specs.Below.fr_base.declared.place.Lval.{Lval}
use Rattle.law_words_issued.specs.Below.fr_store.Keys.{Key, slot_k, temp_k}
use Rattle.law_words_issued.specs.Below.fr_store.Store.{Store, at_object, ref_v}
use Rattle.law_words_issued.specs.Below.heap_partition.declared.value.Cell.{Cell}
use Rattle.law_words_issued.specs.Below.heap_partition.declared.value.Owned.{Owned}
use Rattle.law_words_issued.specs.Below.heap_partition.declared.value.Owned.TheVariants as owned
use Rattle.law_words_issued.specs.Below.mut_borrow.declared.mutable.MutRef.{MutRef}
use Rattle.law_words_issued.specs.Below.thread_state.View.{ThreadState}
use Rattle.law_words_issued.specs.Below.thread_state.declared.phase.Phase.{Phase}
use Rattle.law_words_issued.specs.Below.thread_state.declared.phase.Phase.TheVariants as phase
use Rattle.law_words_issued.specs.Below.thread_state.declared.value.Value.{Value}
use Rattle.law_words_issued.specs.Below.thread_state.declared.value.Value.TheVariants as value
use Rattle.law_words_issued.specs.Below.server_model.Servers.{Cluster}
use Rattle.law_words_issued.specs.Below.coherent_memory.Names.{Among, tot, one, some, same_object, boxes}
use Rattle.law_words_issued.specs.Below.coherent_memory.Things.{Location, Thing, at_slot, at_temp, in_cell, holds, borrows, lies, flies, stands, things_of}
use Rattle.law_words_issued.specs.Below.coherent_memory.Follow.{Standing, Ground, threads_in, value_in, value_behind, place_at}
use Rattle.law_words_issued.specs.Below.coherent_memory.Stale.{Reference, references, is_among, is_held_at, same_location, lent_places, changed_above, stale_above, taken_above}
use Rattle.law_words_issued.specs.Below.coherent_memory.Sight.{Pointer, pointer_in, location_of, pointers_of, pointers_in, taken_pointers, is_word, word, sight, issued}
use Rattle.law_words_issued.specs.Below.coherent_memory.Placing.{is_first, other_first}
use Rattle.law_words_issued.specs.Below.coherent_memory.Requests.{lies_here, lent_place, taken_there, taken_phase}
use Rattle.law_words_issued.specs.Below.coherent_memory.Walking.{instr_of}
use Rattle.law_words_issued.specs.Below.coherent_memory.Weights.{cells, owners, lies_at}
use Rattle.law_words_issued.specs.Below.coherent_memory.Words.{all_pointers, IsStale, HasWords, WordsLaw}
use Rattle.law_words_issued.specs.Below.coherent_memory.Coherent.{Holds, first_at_holder, taken_stands}
use Rattle.law_words_issued.proofs.Below.coherent_memory.Names.{and_left, and_right, same_number}
use Rattle.law_words_issued.proofs.Below.coherent_memory.Words.{none_at, named, itself, words_law}
use Rattle.law_words_issued.specs.Below.law_words_paths.paths.HeapStore.{heap_store, GoesOn, HasPaths}
use Rattle.law_words_issued.proofs.Below.law_words_paths.paths.Alike.{there_of, cell_there, slot_mut, temp_mut}
use Rattle.law_words_issued.proofs.Below.law_words_paths.paths.FreshPaths.{same_is}
use Rattle.law_words_issued.proofs.Below.law_words_paths.paths.Origins.{among_first}
use Rattle.law_words_issued.proofs.Below.law_words_paths.paths.Pointers.{Stood, borrowed_at}
use Rattle.law_words_issued.specs.Below.law_words_paths.words.Reworded.{HasPlaces}
use Rattle.law_words_issued.proofs.Below.law_words_paths.words.Grounds.{of_borrows}
use Rattle.law_words_issued.proofs.Below.law_words_paths.words.Standing.{CellOf, lying, flying, cell_among, pointer_at, tells, pointers_among}
use Rattle.law_words_issued.proofs.Below.law_counts_sums.Askers.{other_none}
use Rattle.law_words_issued.proofs.Below.law_words_kept.reads.Flights.{found, truly}
use Rattle.law_words_issued.proofs.Below.law_counts_waiting.waits.Found.{among_weighs}
use Rattle.law_words_issued.proofs.apart.UnderWay.{FlightsIssued}
use Rattle.law_words_issued.specs.old.Old.{unissued, first_words, pointer_word, lent_words}
use Rattle.law_words_issued.proofs.ever.Put.{word_in, taken_as}
use Rattle.law_words_issued.proofs.ever.There.{word_of}

-- the box that a value has
box_of : (l : Option Location) (v : Owned) (q : Pointer) → Among q (pointer_in l v) → 1 ≤ boxes q.object v
box_of l (owned.Box b) q (inl e) = let w : one (same_object b.object q.object) ≡ 1 = ap one (itself b.object q.object (ap (λ (x : Pointer). x.object) e)) in omega (arith, w)
box_of l (owned.Box b) q (inr h) = absurd h
box_of l owned.Nothing q h = absurd h
box_of l owned.Unit q h = absurd h
box_of l (owned.Int i) q h = absurd h
box_of l (owned.Mutex m) q h = absurd h
box_of l (owned.Task u) q h = absurd h

-- a pointer that stands there is the value's
pointer_is : (w : ℕ) (l : Location) (v : Value) (q : Pointer) → Among q (pointer_at l v) → q.word ≡ w → 1 ≤ word_in w v
pointer_is w l (value.Own (owned.Box p)) q (inl e) same = let z : (p.word == w) ≡ true = eq-eqb p.word w (ap (λ (x : Pointer). x.word) e ∙ same) in omega (arith, ap one z)
pointer_is w l (value.Own (owned.Box p)) q (inr h) same = absurd h
pointer_is w l (value.Own owned.Nothing) q h same = absurd h
pointer_is w l (value.Own owned.Unit) q h same = absurd h
pointer_is w l (value.Own (owned.Int i)) q h same = absurd h
pointer_is w l (value.Own (owned.Mutex m)) q h same = absurd h
pointer_is w l (value.Own (owned.Task u)) q h same = absurd h
pointer_is w l (value.Mut r) q (inl e) same = let z : (r.word == w) ≡ true = eq-eqb r.word w (ap (λ (x : Pointer). x.word) e ∙ same) in omega (arith, ap one z)
pointer_is w l (value.Mut r) q (inr h) same = absurd h
pointer_is w l value.Gone q h same = absurd h
pointer_is w l (value.SharedSlot i) q h same = absurd h
pointer_is w l (value.MutSlot i) q h same = absurd h
pointer_is w l (value.Shared r) q h same = absurd h
pointer_is w l (value.Held m) q h same = absurd h

-- a reference made from it has its word as the first one
first_is : (w : ℕ) (r : MutRef) (v : Value) → 1 ≤ word_in w v → is_first r (Some v) ≡ true → r.first ≡ w
first_is w r (value.Own (owned.Box p)) l e = same_number r.first p.word (and_left (r.first == p.word) (same_object r.object p.object) e) ∙ same_number p.word w (truly (p.word == w) l)
first_is w r (value.Mut q) l e = same_number r.first q.word (and_left (r.first == q.word) (same_object r.object q.object) e) ∙ same_number q.word w (truly (q.word == w) l)
first_is w r (value.Own owned.Nothing) l e = absurd (cc e)
first_is w r (value.Own owned.Unit) l e = absurd (cc e)
first_is w r (value.Own (owned.Int i)) l e = absurd (cc e)
first_is w r (value.Own (owned.Mutex m)) l e = absurd (cc e)
first_is w r (value.Own (owned.Task u)) l e = absurd (cc e)
first_is w r value.Gone l e = absurd (cc e)
first_is w r (value.SharedSlot i) l e = absurd (cc e)
first_is w r (value.MutSlot i) l e = absurd (cc e)
first_is w r (value.Shared q) l e = absurd (cc e)
first_is w r (value.Held m) l e = absurd (cc e)

-- the word of a pointer
pointed : (f : ℕ → ℕ) (w : ℕ) (v : Value) → 1 ≤ word_in w v → pointer_word f (Some v) ≡ 0 → f w ≡ 0
pointed f w (value.Own (owned.Box p)) l z = subst (λ u. f u ≡ 0) (same_number p.word w (truly (p.word == w) l)) z
pointed f w (value.Mut r) l z = subst (λ u. f u ≡ 0) (same_number r.word w (truly (r.word == w) l)) z
pointed f w (value.Own owned.Nothing) l z = absurd (omega (arith, l))
pointed f w (value.Own owned.Unit) l z = absurd (omega (arith, l))
pointed f w (value.Own (owned.Int i)) l z = absurd (omega (arith, l))
pointed f w (value.Own (owned.Mutex m)) l z = absurd (omega (arith, l))
pointed f w (value.Own (owned.Task u)) l z = absurd (omega (arith, l))
pointed f w value.Gone l z = absurd (omega (arith, l))
pointed f w (value.SharedSlot i) l z = absurd (omega (arith, l))
pointed f w (value.MutSlot i) l z = absurd (omega (arith, l))
pointed f w (value.Shared q) l z = absurd (omega (arith, l))
pointed f w (value.Held m) l z = absurd (omega (arith, l))

-- one of a list
none_of : (g : Location → ℕ) (ls : List Location) (l : Location) → tot g ls ≡ 0 → is_among l ls ≡ true → g l ≡ 0
none_of g [] l z e = absurd (cc e)
none_of g (x ∷ ls) l z e = by (same_location x l) refl (none_of g ls l (omega (arith, z))) e
  where
    by : (b : Bool) → same_location x l ≡ b → (is_among l ls ≡ true → g l ≡ 0) → (b || is_among l ls) ≡ true → g l ≡ 0
    by true q go d = subst (λ m. g m ≡ 0) (same_is x l q) (omega (arith, z))
    by false q go d = go d

-- an object lies there under that word
pub record Home (d : Cluster) (words : HasWords (sight d)) (w : ℕ) : Type 0 where
  pub server : ℕ
  pub address : ℕ
  pub cell : Cell
  pub among : Among (lies server address cell) (things_of d)
  pub word : words.word cell.object ≡ w

module _ (k d : Cluster) (w : ℕ) (new : issued (sight k) w ≡ false) (places : HasPlaces d) (paths : HasPaths d) (words : HasWords (sight d)) (holders : Holds d first_at_holder) (firsts : tot (first_words (unissued k)) (things_of d) ≡ 0)
    (lent : lent_words (unissued k) (sight d) ≡ 0) (flights : FlightsIssued k d) (taken : Holds d taken_stands) where
  abbrev g : Ground
  g = (sight d).ground

  not_old : unissued k w ≡ 0 → ⊥
  not_old z = let t : true ≡ false = sym (other_none (issued (sight k) w) z) ∙ new in absurd (cc t)

  -- STALE POINTERS

  module _ (l : Location) (v : Value) (stood : value_in g l ≡ Some v) (its : 1 ≤ word_in w v) where
    none_above : (r : Reference) → Among r (references g (things_of d)) → is_held_at l r.holder ≡ true → ⊥
    none_above r h held = by r.holder refl held
      where
        fits : is_first r.reference (value_behind g r.holder) ≡ true
        fits = other_none (is_first r.reference (value_behind g r.holder)) (none_at (other_first g) r (references g (things_of d)) holders h)

        by : (o : Option Location) → r.holder ≡ o → is_held_at l o ≡ true → ⊥
        by None e q = absurd (cc q)
        by (Some m) e q =
            let at : value_behind g r.holder ≡ Some v = ap (value_behind g) e ∙ ap (value_in g) (same_is m l q) ∙ stood in
            let first : r.reference.first ≡ w = first_is w r.reference v its (sym (ap (is_first r.reference) at) ∙ fits) in
            let b = of_borrows g r (things_of d) h in
            not_old (subst (λ u. unissued k u ≡ 0) first (none_at (first_words (unissued k)) (borrows r.at r.reference) (things_of d) firsts b.among))

    not_stale : IsStale (sight d) (Some l) → ⊥
    not_stale (changed_above r h held c) = none_above r h held
    not_stale (stale_above r h held s) = none_above r h held
    not_stale (taken_above e) =
        let z : pointer_word (unissued k) (value_in g l) ≡ 0 = none_of (λ m. pointer_word (unissued k) (value_in g m)) (lent_places (sight d).code g g.threads) l lent e in
        not_old (pointed (unissued k) w v its (sym (ap (pointer_word (unissued k)) stood) ∙ z))

  fresh_at : (o : Option Location) (q : Pointer) → Among q (pointers_in (things_of d)) → q.at ≡ o → q.word ≡ w → IsStale (sight d) o → ⊥
  fresh_at None q h e same s = s
  fresh_at (Some l) q h e same s = let t = tells d places q l h e in not_stale l t.value t.stands (pointer_is w l t.value q t.pointer same) s

  -- WHERE ITS OBJECT IS

  abbrev H : Type 0
  H = Home d words w

  in_things : (q : Pointer) → Among q (pointers_in (things_of d)) → Among q (all_pointers (sight d))
  in_things q h = among_first q (pointers_in (things_of d)) (taken_pointers (sight d).code g g.threads) h

  of_cell : (c : Cell) (y : Thing) → CellOf c y → Among y (things_of d) → words.word c.object ≡ w → H
  of_cell c _ (lying r a) h e = record { server = r; address = a; cell = c; among = h; word = e }
  of_cell c _ (flying v) h e =
      let p : Pointer = record { at = None; word = v; object = c.object } in
      let same : v ≡ words.word c.object = ⊎_elim (λ (z : ⊥). absurd z) (λ (x : v ≡ words.word c.object). x) (words.same p (in_things p (pointers_among p (flies v c) (things_of d) h (inl refl)))) in
      let t : true ≡ false = sym (flights v c h) ∙ ap (issued (sight k)) (same ∙ e) ∙ new in
      absurd (cc t)

  of_cells : (o : ObjNo) → 1 ≤ tot (cells o) (things_of d) → words.word o ≡ w → H
  of_cells o l e = let it = found (cells o) (things_of d) l in by it.0 it.1 it.2
    where
      by : (y : Thing) → Among y (things_of d) → 1 ≤ cells o y → H
      by (lies r a c) h n = of_cell c (lies r a c) (lying r a) h (ap words.word (named c.object o (truly (same_object c.object o) n)) ∙ e)
      by (flies v c) h n = of_cell c (flies v c) (flying v) h (ap words.word (named c.object o (truly (same_object c.object o) n)) ∙ e)
      by _ h n = absurd (omega (arith, n))

  -- its word is that of its object
  its_word : (q : Pointer) → Among q (pointers_in (things_of d)) → q.word ≡ w → words.word q.object ≡ w
  its_word q h same = ⊎_elim (λ (s : IsStale (sight d) q.at). absurd (fresh_at q.at q h refl same s)) (λ (e : q.word ≡ words.word q.object). sym e ∙ same) (words.same q (in_things q h))

  -- what is owned has a cell
  of_owner : (q : Pointer) (y : Thing) → Among y (things_of d) → Among q (pointers_of y) → 1 ≤ owners q.object y → q.word ≡ w → H
  of_owner q y h m l same = of_cells q.object (omega (arith, l, among_weighs (owners q.object) y (things_of d) h, paths.owner_of_each q.object)) (its_word q (pointers_among q y (things_of d) h m) same)

  abbrev st : Store
  st = heap_store d paths.types

  referred : (x : Standing) (go : GoesOn d x) (key : Key) (o : ObjNo) → st.at key ≡ ref_v (at_object o) → words.word o ≡ w → H
  referred x go key o at e =
      let t = there_of paths.types.typing.rank paths.types.typing.exact st paths.types.state.typed key (at_object o) at in
      let c = cell_there d paths x go o t.0 t.1 in
      let i = cell_among o c.0 (things_of d) c.1 in
      of_cell c.0 i.thing i.is i.among (ap words.word i.object ∙ e)

  of_lent : (l : Location) (r : MutRef) → Among (borrows l r) (things_of d) → r.word ≡ w → H
  of_lent l r h same = by z.at
    where
      z : Stood d paths l (value.Mut r)
      z = borrowed_at d paths l r h

      word_is : words.word r.object ≡ w
      word_is = its_word (record { at = Some l; word = r.word; object = r.object }) (pointers_among (record { at = Some l; word = r.word; object = r.object }) (borrows l r) (things_of d) h (inl refl)) same

      by : ((l ≡ at_slot z.thread.thread.number z.number) × (slice_get z.thread.thread.slots z.number ≡ Some (value.Mut r))) ⊎ ((l ≡ at_temp z.thread.thread.number z.number) × (slice_get z.thread.thread.temps z.number ≡ Some (value.Mut r))) → H
      by (inl p) = referred z.thread z.goes (slot_k z.thread.thread.number z.number) r.object (slot_mut d paths z.thread z.goes z.number r p.1) word_is
      by (inr p) = referred z.thread z.goes (temp_k z.thread.thread.number z.number) r.object (temp_mut d paths z.thread z.goes z.number r p.1) word_is

  -- what was taken lies there
  at_place : (r : ℕ) (l : Option Location) → lies_here (sight d) r w l ≡ true → H
  at_place r (Some (in_cell o)) e = let it = found (lies_at r o) (things_of d) (some_one (tot (lies_at r o) (things_of d)) (and_right (is_word (word (sight d) o) w) (some (tot (lies_at r o) (things_of d))) e)) in by it.0 it.1 it.2
    where
      some_one : (m : ℕ) → some m ≡ true → 1 ≤ m
      some_one zero q = absurd (cc q)
      some_one (suc m) q = omega arith

      told : is_word (word (sight d) o) w ≡ true
      told = and_left (is_word (word (sight d) o) w) (some (tot (lies_at r o) (things_of d))) e

      by : (y : Thing) → Among y (things_of d) → 1 ≤ lies_at r o y → H
      by (lies s a c) h n =
          let object : c.object ≡ o = named c.object o (and_right (s == r) (same_object c.object o) (truly (s == r && same_object c.object o) n)) in
          let law : WordsLaw = words_law in
          let first : word (sight d) c.object ≡ Some (words.word c.object) = law.first_tells d words c.object (words.live s a c h) in
          let is : (words.word c.object == w) ≡ true = sym (ap (λ q. is_word q w) first) ∙ ap (λ q. is_word (word (sight d) q) w) object ∙ told in
          record { server = s; address = a; cell = c; among = h; word = same_number (words.word c.object) w is }
      by _ h n = absurd (omega (arith, n))
  at_place r _ e = absurd (cc e)

  taken_by : (x : Standing) (o : Option Lval) → taken_there (sight d) x w o ≡ 0 → H
  taken_by x None z = absurd (cc z)
  taken_by x (Some p) z = at_place x.server (place_at g x.thread.number p) (other_none (lies_here (sight d) x.server w (place_at g x.thread.number p)) z)

  of_phase : (x : Standing) (p : Phase) → Among x g.threads → x.thread.phase ≡ p → 1 ≤ taken_as w p → H
  of_phase x (phase.Taken v) h e l =
      let z : taken_phase (sight d) x (phase.Taken v) ≡ 0 = subst (λ q. taken_phase (sight d) x q ≡ 0) e (none_at (λ y. taken_phase (sight d) y y.thread.phase) x g.threads taken h) in
      let same : v ≡ w = same_number v w (truly (v == w) l) in
      taken_by x (lent_place (instr_of (sight d) x)) (subst (λ u. taken_there (sight d) x u (lent_place (instr_of (sight d) x)) ≡ 0) same z)
  of_phase x _ h e l = absurd (omega (arith, l))

  standing_among : (s : ℕ) (b : Bool) (t : ThreadState) (xs : List Thing) → Among (stands s b t) xs → Among (record { server = s; packed = b; thread = t }) (threads_in xs)
  standing_among s b t [] h = absurd h
  standing_among s b t (x ∷ xs) (inl e) = subst (λ y. Among (record { server = s; packed = b; thread = t }) (threads_in (y ∷ xs))) (sym e) (inl refl)
  standing_among s b t (x ∷ xs) (inr h) = by x (standing_among s b t xs h)
    where
      by : (x : Thing) → Among (record { server = s; packed = b; thread = t }) (threads_in xs) → Among (record { server = s; packed = b; thread = t }) (threads_in (x ∷ xs))
      by (stands r p u) m = inr m
      by _ m = m

  -- ALL OF IT

  of_box : (p : Option Location) (v : Owned) (y : Thing) → Among y (things_of d) → ((q : Pointer) → Among q (pointer_in p v) → Among q (pointers_of y)) → ((o : ObjNo) → owners o y ≡ boxes o v) → 1 ≤ word_in w (value.Own v) → H
  of_box p (owned.Box b) y h there owns l =
      let q : Pointer = record { at = p; word = b.word; object = b.object } in
      of_owner (record { at = p; word = b.word; object = b.object }) y h (there (record { at = p; word = b.word; object = b.object }) (inl refl)) (omega (arith, owns b.object, box_of p (owned.Box b) (record { at = p; word = b.word; object = b.object }) (inl refl)))
      (same_number b.word w (truly (b.word == w) l))
  of_box p owned.Nothing y h there owns l = absurd (omega (arith, l))
  of_box p owned.Unit y h there owns l = absurd (omega (arith, l))
  of_box p (owned.Int i) y h there owns l = absurd (omega (arith, l))
  of_box p (owned.Mutex m) y h there owns l = absurd (omega (arith, l))
  of_box p (owned.Task u) y h there owns l = absurd (omega (arith, l))

  of_thing : (y : Thing) → Among y (things_of d) → 1 ≤ word_of w y → H
  of_thing (holds p v) h l = of_box (location_of p) v (holds p v) h (λ q m. m) (λ o. refl) l
  of_thing (borrows p r) h l = of_lent p r h (same_number r.word w (truly (r.word == w) l))
  of_thing (lies s a c) h l = of_box (Some (in_cell c.object)) c.value (lies s a c) h (λ q m. m) (λ o. refl) l
  of_thing (stands s p t) h l = of_phase (record { server = s; packed = p; thread = t }) t.phase (standing_among s p t (things_of d) h) refl l
  of_thing _ h l = absurd (omega (arith, l))

  -- so an object lies where the word leads
  pub at_home : 1 ≤ tot (word_of w) (things_of d) → H
  at_home l = let it = found (word_of w) (things_of d) l in of_thing it.0 it.1 it.2
