-- Where an object is made, it has a word, and the words of others stay.
use Rattle.std.proofs.Common.{◌≡◌, ◌⊎◌, inl, inr, ⊎_elim, ℕ, Bool, true, false, if◌then◌else◌, List, [], Option, Some, None, refl, sym, ap, subst, ◌∙◌}
use Rattle.law_words_kept.specs.Below.fr_base.declared.name.ObjNo.{ObjNo}
use Rattle.law_words_kept.specs.Below.heap_partition.declared.value.Cell.{Cell}
use Rattle.law_words_kept.specs.Below.mut_borrow.declared.mutable.MutRef.{MutRef}
use Rattle.law_words_kept.specs.Below.server_model.Servers.{Cluster}
use Rattle.law_words_kept.specs.Below.thread_state.declared.value.Value.{Value}
use Rattle.law_words_kept.specs.Below.thread_state.declared.value.Value.TheVariants as value
use Rattle.law_words_kept.specs.Below.coherent_memory.Names.{Among, other, same_object}
use Rattle.law_words_kept.specs.Below.coherent_memory.Things.{Location, in_cell, lies, things_of}
use Rattle.law_words_kept.specs.Below.coherent_memory.Follow.{Ground, cell_of, value_of, value_in, value_behind}
use Rattle.law_words_kept.specs.Below.coherent_memory.Stale.{is_among, Reference, references, holder_of, is_held_at, with_place, lent_places, changed_above, stale_above, taken_above}
use Rattle.law_words_kept.specs.Below.coherent_memory.Sight.{Pointer, pointers_in, taken_object, taken_pointers, sight}
use Rattle.law_words_kept.specs.Below.coherent_memory.Placing.{is_first, other_first, standing_in, standing_pointers}
use Rattle.law_words_kept.specs.Below.coherent_memory.Coherent.{Holds, first_at_holder}
use Rattle.law_words_kept.specs.Below.coherent_memory.Words.{all_pointers, IsStale, Fresh, HasWords, LeadsTo}
use Rattle.law_words_kept.specs.Below.coherent_memory.Dirty.{DirtyAlone, PastWords}
use Rattle.law_words_kept.proofs.Below.coherent_memory.Bags.{among_split}
use Rattle.law_words_kept.proofs.Below.coherent_memory.Words.{none_at, none_all, named, itself as same_itself}
use Rattle.law_words_kept.proofs.Below.law_words_paths.paths.Origins.{among_first, among_second}
use Rattle.law_words_kept.proofs.Below.law_words_paths.paths.Contained.{location_itself, reference_there}
use Rattle.law_words_kept.proofs.Below.law_words_paths.paths.FreshPaths.{held_at}
use Rattle.law_words_kept.specs.Below.law_words_paths.words.Reworded.{HasPlaces}
use Rattle.law_words_kept.specs.Below.law_words_paths.words.Unmoved.{seen_at, takings}
use Rattle.law_words_kept.specs.Below.law_words_paths.words.WordsAfter.{WordsAfter}
use Rattle.law_words_kept.proofs.Below.law_words_paths.words.Standing.{tells, told, told_standing, stands_in, borrow_stands}
use Rattle.law_words_kept.proofs.Below.law_words_paths.words.Takings.{reference_at, seen_pointer_at, first_at, lent_by, taken_by, lents_are, takens_are, lent_listed, lent_told, taken_listed, taken_told}
use Rattle.law_words_kept.proofs.Below.law_words_paths.words.Grounds.{of_borrows, same_place}
use Rattle.law_words_values.specs.carried.Made.{new_pointer, Made, MadeKeeps}
use Rattle.law_words_values.proofs.carried.Carrying.{held_somewhere, lent_there}

-- no reference stands in a cell
no_cell_reference : (g : Ground) (o : ObjNo) (r : MutRef) → value_in g (in_cell o) ≡ Some (value.Mut r) → ⊥
no_cell_reference g o r e = by (cell_of g.cells o) e
  where
    by : (c : Option Cell) → value_of c ≡ Some (value.Mut r) → ⊥
    by None f = absurd cc
    by (Some c) f = absurd cc

-- the words with one more
abbrev word_with : (ObjNo → ℕ) → ObjNo → ℕ → ObjNo → ℕ
word_with f o w p = if same_object p o then w else f p

word_new : (f : ObjNo → ℕ) (o : ObjNo) (w : ℕ) (p : ObjNo) → p ≡ o → word_with f o w p ≡ w
word_new f o w p e = ap (λ b. if b then w else f p) (same_itself p o e)

word_old : (f : ObjNo → ℕ) (o : ObjNo) (w : ℕ) (p : ObjNo) → (p ≡ o → ⊥) → word_with f o w p ≡ f p
word_old f o w p n = by (same_object p o) refl
  where
    by : (b : Bool) → same_object p o ≡ b → (if b then w else f p) ≡ f p
    by true e = absurd (n (named p o e))
    by false e = refl

objects_differ : (p o : ObjNo) → (p ≡ o) ⊎ (p ≡ o → ⊥)
objects_differ p o = by (same_object p o) refl
  where
    by : (b : Bool) → same_object p o ≡ b → (p ≡ o) ⊎ (p ≡ o → ⊥)
    by true e = inl (named p o e)
    by false e = inr (λ s. let t : true ≡ false = sym (same_itself p o s) ∙ e in absurd cc)

module _ (k z : Cluster) (o : ObjNo) (w : ℕ) (c : HasPlaces k) (d : HasPlaces z) (firsts : Holds k first_at_holder) (u : Made k z o w) where
  abbrev gk : Ground
  gk = (sight k).ground

  abbrev gz : Ground
  gz = (sight z).ground

  abbrev cell : Location
  cell = in_cell o

  -- REFERENCES

  stood : (q : Reference) → Among q (references gk (things_of k)) → value_in gk q.at ≡ Some (value.Mut q.reference)
  stood q i = borrow_stands k c q.at q.reference (of_borrows gk q (things_of k) i).among

  first_of : (q : Reference) → Among q (references gk (things_of k)) → (m : Location) × (q.holder ≡ Some m)
  first_of q i = held_somewhere gk q.reference q.holder (none_at (other_first gk) q (references gk (things_of k)) firsts i)

  holder_so : (q : Reference) → Among q (references gk (things_of k)) → holder_of gz q.at q.reference.holder ≡ q.holder
  holder_so q i = let m = first_of q i in u.holders q.at m.0 q.reference (stood q i) (sym (of_borrows gk q (things_of k) i).holder ∙ m.1) ∙ sym m.1

  on : (q : Reference) → Among q (references gk (things_of k)) → Among q (references gz (things_of z))
  on q i =
      let away : q.at ≡ cell → ⊥ = λ e. no_cell_reference gk o q.reference (ap (value_in gk) (sym e) ∙ stood q i) in
      let there = reference_there z q.at q.reference (reference_at q.at (value_in gz q.at) q.reference (u.stands q.at away ∙ ap (seen_at q.at) (stood q i))) in
      subst (λ (h : Option Location). Among (record { at = q.at; holder = h; reference = q.reference }) (references gz (things_of z))) (holder_so q i) there

  back : (q : Reference) → Among q (references gz (things_of z)) → Among q (references gk (things_of k))
  back q i =
      let b = of_borrows gz q (things_of z) i in
      let now : value_in gz q.at ≡ Some (value.Mut q.reference) = borrow_stands z d q.at q.reference b.among in
      let away : q.at ≡ cell → ⊥ = λ e. no_cell_reference gz o q.reference (ap (value_in gz) (sym e) ∙ now) in
      let was : value_in gk q.at ≡ Some (value.Mut q.reference) = reference_at q.at (value_in gk q.at) q.reference (sym (u.stands q.at away) ∙ ap (seen_at q.at) now) in
      let y : Reference = record { at = q.at; holder = holder_of gk q.at q.reference.holder; reference = q.reference } in
      let there = reference_there k q.at q.reference was in
      subst (λ (h : Option Location). Among (record { at = q.at; holder = h; reference = q.reference }) (references gk (things_of k))) (sym (holder_so y there) ∙ sym b.holder) there

  -- WHAT IS STALE

  lent_on : (l : Location) → is_among l (lent_places k.code gk gk.threads) ≡ true → is_among l (lent_places z.code gz gz.threads) ≡ true
  lent_on l e =
      let y = lent_told gk l (takings k.code gk.threads) (sym (ap (is_among l) (lents_are k.code gk gk.threads)) ∙ e) in
      ap (is_among l) (lents_are z.code gz gz.threads) ∙ lent_listed gz l y.taking (takings z.code gz.threads) (u.took y.taking y.among) (ap (λ m. is_among l (with_place m [])) (u.taken y.taking y.among).1 ∙ y.at)

  lent_back : (l : Location) → is_among l (lent_places z.code gz gz.threads) ≡ true → is_among l (lent_places k.code gk gk.threads) ≡ true
  lent_back l e =
      let y = lent_told gz l (takings z.code gz.threads) (sym (ap (is_among l) (lents_are z.code gz gz.threads)) ∙ e) in
      let x = u.takes y.taking y.among in
      ap (is_among l) (lents_are k.code gk gk.threads) ∙ lent_listed gk l y.taking (takings k.code gk.threads) x (ap (λ m. is_among l (with_place m [])) (sym (u.taken y.taking x).1) ∙ y.at)

  stale_on : (l : Location) → IsStale (sight k) (Some l) → IsStale (sight z) (Some l)
  stale_on l (changed_above q i h ch) = changed_above q (on q i) h ch
  stale_on l (stale_above q i h s) = stale_above q (on q i) h (stale_on q.at s)
  stale_on l (taken_above m) = taken_above (lent_on l m)

  stale_back : (l : Location) → IsStale (sight z) (Some l) → IsStale (sight k) (Some l)
  stale_back l (changed_above q i h ch) = changed_above q (back q i) h ch
  stale_back l (stale_above q i h s) = stale_above q (back q i) h (stale_back q.at s)
  stale_back l (taken_above m) = taken_above (lent_back l m)

  on_at : (l : Option Location) → IsStale (sight k) l → IsStale (sight z) l
  on_at None s = s
  on_at (Some l) s = stale_on l s

  back_at : (l : Option Location) → IsStale (sight z) l → IsStale (sight k) l
  back_at None s = s
  back_at (Some l) s = stale_back l s

  -- nothing was made from the new cell's pointer
  none_made : (q : Reference) → Among q (references gk (things_of k)) → is_held_at cell q.holder ≡ true → ⊥
  none_made q i h =
      let e : q.holder ≡ Some cell = held_at cell q.holder h in
      let first : other (is_first q.reference (value_behind gk q.holder)) ≡ 0 = none_at (other_first gk) q (references gk (things_of k)) firsts i in
      let none : other (is_first q.reference None) ≡ 0 = subst (λ v. other (is_first q.reference v) ≡ 0) (ap (value_behind gk) e ∙ u.before) first in
      absurd (cc none)

  calm : IsStale (sight k) (Some cell) → ⊥
  calm (changed_above q i h ch) = none_made q i h
  calm (stale_above q i h s) = none_made q i h
  calm (taken_above m) = let y = lent_told gk cell (takings k.code gk.threads) (sym (ap (is_among cell) (lents_are k.code gk gk.threads)) ∙ m) in u.untaken y.taking y.among (lent_there cell (lent_by gk y.taking) y.at)

  -- POINTERS

  taken_on : (p : Pointer) → Among p (taken_pointers k.code gk gk.threads) → Among p (taken_pointers z.code gz gz.threads)
  taken_on p h =
      let y = taken_told gk p (takings k.code gk.threads) (subst (λ ps. Among p ps) (takens_are k.code gk gk.threads) h) in
      let same : taken_by gz y.taking ≡ taken_by gk y.taking = ap (taken_object y.taking.word) (u.taken y.taking y.among).0 in
      subst (λ ps. Among p ps) (sym (takens_are z.code gz gz.threads)) (taken_listed gz p y.taking (takings z.code gz.threads) (u.took y.taking y.among) (subst (λ ps. Among p ps) (sym same) y.pointer))

  taken_back : (p : Pointer) → Among p (taken_pointers z.code gz gz.threads) → Among p (taken_pointers k.code gk gk.threads)
  taken_back p h =
      let y = taken_told gz p (takings z.code gz.threads) (subst (λ ps. Among p ps) (takens_are z.code gz gz.threads) h) in
      let x = u.takes y.taking y.among in
      let same : taken_by gz y.taking ≡ taken_by gk y.taking = ap (taken_object y.taking.word) (u.taken y.taking x).0 in
      subst (λ ps. Among p ps) (sym (takens_are k.code gk gk.threads)) (taken_listed gk p y.taking (takings k.code gk.threads) x (subst (λ ps. Among p ps) same y.pointer))

  -- the same pointer in the other cluster: where it was, or in the new cell now
  record Was (ps : List Pointer) (p : Pointer) : Type 0 where
    pointer : Pointer
    among : Among pointer ps
    word : pointer.word ≡ p.word
    object : pointer.object ≡ p.object
    at : (pointer.at ≡ p.at) ⊎ ((pointer.at ≡ None) × (p.at ≡ Some cell))

  itself : {ps : List Pointer} (p : Pointer) → Among p ps → Was ps p
  itself p m = record { pointer = p; among = m; word = refl; object = refl; at = inl refl }

  wider : {ps qs : List Pointer} {p : Pointer} → ((q : Pointer) → Among q ps → Among q qs) → Was ps p → Was qs p
  wider go s = record { pointer = s.pointer; among = go s.pointer s.among; word = s.word; object = s.object; at = s.at }

  stood_at : (p : Pointer) (l : Location) → Among p (pointers_in (things_of z)) → p.at ≡ Some l → Was (standing_in (things_of k)) p
  stood_at p l m e = ⊎_elim (λ (s : l ≡ cell). moved s) (λ (n : l ≡ cell → ⊥). same n) (same_place l cell)
    where
      moved : l ≡ cell → Was (standing_in (things_of k)) p
      moved s = record { pointer = record p { at = None }; among = u.into p (e ∙ ap Some s) m; word = refl; object = refl; at = inr (refl, e ∙ ap Some s) }

      same : (l ≡ cell → ⊥) → Was (standing_in (things_of k)) p
      same n = let t = tells z d p l m e in itself p (told_standing k l t.value p (seen_pointer_at l (value_in gk l) t.value p (sym (u.stands l n) ∙ ap (seen_at l) t.stands) t.pointer) t.pointer)

  in_back : (p : Pointer) → Among p (pointers_in (things_of z)) → (new_pointer o w ≡ p) ⊎ Was (pointers_in (things_of k)) p
  in_back p m = by p.at refl
    where
      by : (l : Option Location) → p.at ≡ l → (new_pointer o w ≡ p) ⊎ Was (pointers_in (things_of k)) p
      by None e = ⊎_elim (λ (x : new_pointer o w ≡ p). inl x) (λ (x : Among p (pointers_in (things_of k))). inr (itself p x)) (u.loose p e m)
      by (Some l) e = inr (wider (λ q x. stands_in q (things_of k) x) (stood_at p l m e))

  standing_back : (p : Pointer) → Among p (standing_in (things_of z)) → (new_pointer o w ≡ p) ⊎ Was (standing_in (things_of k)) p
  standing_back p m = by p.at refl
    where
      by : (l : Option Location) → p.at ≡ l → (new_pointer o w ≡ p) ⊎ Was (standing_in (things_of k)) p
      by None e = ⊎_elim (λ (x : new_pointer o w ≡ p). inl x) (λ (x : Among p (standing_in (things_of k))). inr (itself p x)) (u.standing p e m)
      by (Some l) e = inr (stood_at p l (stands_in p (things_of z) m) e)

  every_back : (p : Pointer) → Among p (all_pointers (sight z)) → (new_pointer o w ≡ p) ⊎ Was (all_pointers (sight k)) p
  every_back p m =
      ⊎_elim (λ (y : Among p (pointers_in (things_of z))). ⊎_elim (λ (x : new_pointer o w ≡ p). inl x) (λ (x : Was (pointers_in (things_of k)) p). inr (wider (λ q h. among_first q (pointers_in (things_of k)) (taken_pointers k.code gk gk.threads) h) x)) (in_back p y))
      (λ (y : Among p (taken_pointers z.code gz gz.threads)). inr (itself p (among_second p (pointers_in (things_of k)) (taken_pointers k.code gk gk.threads) (taken_back p y))))
      (among_split p (pointers_in (things_of z)) (taken_pointers z.code gz gz.threads) m)

  all_standing_back : (p : Pointer) → Among p (standing_pointers (sight z)) → (new_pointer o w ≡ p) ⊎ Was (standing_pointers (sight k)) p
  all_standing_back p m =
      ⊎_elim (λ (y : Among p (standing_in (things_of z))). ⊎_elim (λ (x : new_pointer o w ≡ p). inl x) (λ (x : Was (standing_in (things_of k)) p). inr (wider (λ q h. among_first q (standing_in (things_of k)) (taken_pointers k.code gk gk.threads) h) x)) (standing_back p y))
      (λ (y : Among p (taken_pointers z.code gz gz.threads)). inr (itself p (among_second p (standing_in (things_of k)) (taken_pointers k.code gk gk.threads) (taken_back p y))))
      (among_split p (standing_in (things_of z)) (taken_pointers z.code gz gz.threads) m)

  -- a pointer that was there is there, and fresh where it was
  record Is (p : Pointer) : Type 0 where
    pointer : Pointer
    among : Among pointer (all_pointers (sight z))
    object : pointer.object ≡ p.object
    fresh : IsStale (sight z) pointer.at → IsStale (sight k) p.at

  stays : (p : Pointer) → Among p (all_pointers (sight z)) → Is p
  stays p m = record { pointer = p; among = m; object = refl; fresh = λ s. back_at p.at s }

  in_all : (p : Pointer) → Among p (pointers_in (things_of z)) → Among p (all_pointers (sight z))
  in_all p m = among_first p (pointers_in (things_of z)) (taken_pointers z.code gz gz.threads) m

  every_on : (p : Pointer) → Among p (all_pointers (sight k)) → Is p
  every_on p m =
      ⊎_elim (λ (y : Among p (pointers_in (things_of k))). placed p.at refl y) (λ (y : Among p (taken_pointers k.code gk gk.threads)). stays p (among_second p (pointers_in (things_of z)) (taken_pointers z.code gz gz.threads) (taken_on p y)))
      (among_split p (pointers_in (things_of k)) (taken_pointers k.code gk gk.threads) m)
    where
      placed : (l : Option Location) → p.at ≡ l → Among p (pointers_in (things_of k)) → Is p
      placed None e y =
          ⊎_elim (λ (x : Among p (pointers_in (things_of z))). stays p (in_all p x))
          (λ (x : Among (record p { at = Some cell }) (pointers_in (things_of z))). record { pointer = record p { at = Some cell }; among = in_all (record p { at = Some cell }) x; object = refl; fresh = λ s. absurd (calm (stale_back cell s)) }) (u.remain p e y)
      placed (Some l) e y =
          let t = tells k c p l y e in
          let none_some : (v : Value) → value_in gk cell ≡ Some v → ⊥ = λ v f. (let x : None ≡ Some v = sym u.before ∙ f in absurd cc) in
          let away : l ≡ cell → ⊥ = λ s. none_some t.value (ap (value_in gk) (sym s) ∙ t.stands) in
          stays p (in_all p (told z l t.value p (seen_pointer_at l (value_in gz l) t.value p (u.stands l away ∙ ap (seen_at l) t.stands) t.pointer) t.pointer))

  stale_forth : {ps : List Pointer} (p : Pointer) (s : Was ps p) → IsStale (sight k) s.pointer.at → IsStale (sight z) p.at
  stale_forth p s i =
      ⊎_elim (λ (e : s.pointer.at ≡ p.at). on_at p.at (subst (λ l. IsStale (sight k) l) e i))
      (λ (e : (s.pointer.at ≡ None) × (p.at ≡ Some cell)). let x : ⊥ = subst (λ l. IsStale (sight k) l) e.0 i in absurd x) s.at

  not_new : {p : Pointer} (s : Was (all_pointers (sight k)) p) → p.object ≡ o → ⊥
  not_new s e = u.unnamed s.pointer s.among (s.object ∙ e)

  -- WORDS

  module _ (b : HasWords (sight k)) where
    live : (r a : ℕ) (e : Cell) → Among (lies r a e) (things_of z) → Fresh (sight z) e.object
    live r a e m = ⊎_elim (λ (s : e.object ≡ o). mine s) (λ (n : e.object ≡ o → ⊥). others n) (objects_differ e.object o)
      where
        mine : e.object ≡ o → Fresh (sight z) e.object
        mine s = record { pointer = new_pointer o w; among = in_all (new_pointer o w) u.pointer; object = sym s; fresh = λ x. x }

        others : (e.object ≡ o → ⊥) → Fresh (sight z) e.object
        others n =
            let y = u.lay r a e m n in
            let x = subst (λ q. Fresh (sight k) q) y.object (b.live r a y.cell y.among) in
            let s = every_on x.pointer x.among in
            record { pointer = s.pointer; among = s.among; object = s.object ∙ x.object; fresh = λ i. x.fresh (s.fresh i) }

    home : (r a : ℕ) (e : Cell) → Among (lies r a e) (things_of z) → LeadsTo r a (word_with b.word o w e.object)
    home r a e m =
        ⊎_elim (λ (s : e.object ≡ o). subst (λ v. LeadsTo r a v) (sym (word_new b.word o w e.object s)) (u.home r a e m s))
        (λ (n : e.object ≡ o → ⊥).
        let y = u.lay r a e m n in
        subst (λ v. LeadsTo r a v) (sym (word_old b.word o w e.object n)) (subst (λ q. LeadsTo r a (b.word q)) y.object (b.home r a y.cell y.among))) (objects_differ e.object o)

    same : (p : Pointer) → Among p (all_pointers (sight z)) → IsStale (sight z) p.at ⊎ (p.word ≡ word_with b.word o w p.object)
    same p m =
        ⊎_elim (λ (e : new_pointer o w ≡ p). inr (subst (λ (q : Pointer). q.word ≡ word_with b.word o w q.object) e (sym (word_new b.word o w o refl))))
        (λ (s : Was (all_pointers (sight k)) p).
        ⊎_elim (λ (i : IsStale (sight k) s.pointer.at). inl (stale_forth p s i))
        (λ (e : s.pointer.word ≡ b.word s.pointer.object). inr (sym s.word ∙ e ∙ ap b.word s.object ∙ sym (word_old b.word o w p.object (λ f. not_new s f)))) (b.same s.pointer s.among)) (every_back p m)

    words_after : WordsAfter (sight k) (sight z) o w b
    words_after = record { after = record { word = word_with b.word o w; same = same; live = live; home = home }; new = word_new b.word o w o refl; others = λ p n. word_old b.word o w p n }

  -- WHAT ELSE IS KEPT

  holders_stay : Holds z first_at_holder
  holders_stay =
      none_all (other_first gz) (references gz (things_of z))
      (λ q m.
      let i = back q m in
      let h = first_of q i in
      let away : h.0 ≡ cell → ⊥ = λ e. none_made q i (subst (λ l. is_held_at cell l ≡ true) (sym (h.1 ∙ ap Some e)) (location_itself cell)) in
      let behind : is_first q.reference (value_behind gz q.holder) ≡ is_first q.reference (value_behind gk q.holder) =
      ap (λ l. is_first q.reference (value_behind gz l)) h.1 ∙ sym (first_at q.reference h.0 (value_in gz h.0)) ∙ ap (is_first q.reference) (u.stands h.0 away) ∙ first_at q.reference h.0 (value_in gk h.0)
      ∙ sym (ap (λ l. is_first q.reference (value_behind gk l)) h.1) in
      ap other behind ∙ none_at (other_first gk) q (references gk (things_of k)) firsts i)

  -- a reference is to another object
  its_object : (q : Reference) → Among q (references gk (things_of k)) → q.reference.object ≡ o → ⊥
  its_object q i e =
      let p : Pointer = record { at = Some q.at; word = q.reference.word; object = q.reference.object } in
      u.unnamed p (among_first p (pointers_in (things_of k)) (taken_pointers k.code gk gk.threads) (told k q.at (value.Mut q.reference) p (stood q i) (inl refl))) e

  new_object : (p : Pointer) → new_pointer o w ≡ p → o ≡ p.object
  new_object p e = ap (λ (q : Pointer). q.object) e

  dirty_stays : DirtyAlone (sight k) → DirtyAlone (sight z)
  dirty_stays f q m e n =
      let i = back q m in
      let y = f q i e (λ s. n (stale_on q.at s)) in record {
        unlent = λ x j h. y.unlent x (back x j) h;
        sole = λ p j h.
            ⊎_elim (λ (x : new_pointer o w ≡ p). absurd (its_object q i (sym (new_object p x ∙ h))))
            (λ (s : Was (standing_pointers (sight k)) p).
            ⊎_elim (λ (x : IsStale (sight k) s.pointer.at). inl (stale_forth p s x)) (λ (x : is_held_at q.at s.pointer.at ≡ true). inr (own q p s x)) (y.sole s.pointer s.among (s.object ∙ h))) (all_standing_back p j);
      }
    where
      own : (q : Reference) (p : Pointer) (s : Was (standing_pointers (sight k)) p) → is_held_at q.at s.pointer.at ≡ true → is_held_at q.at p.at ≡ true
      own q p s x =
          ⊎_elim (λ (e : s.pointer.at ≡ p.at). ap (is_held_at q.at) (sym e) ∙ x)
          (λ (e : (s.pointer.at ≡ None) × (p.at ≡ Some cell)). let t : false ≡ true = sym (ap (is_held_at q.at) e.0) ∙ x in absurd cc) s.at

  past_stays : PastWords (sight k) → PastWords (sight z)
  past_stays f q m n p j fresh e h =
      let i = back q m in
      ⊎_elim (λ (x : new_pointer o w ≡ p). its_object q i (sym (new_object p x ∙ e)))
      (λ (s : Was (all_pointers (sight k)) p). f q i n s.pointer s.among (λ y. fresh (stale_forth p s y)) (s.object ∙ e) (s.word ∙ h)) (every_back p j)

pub made_keeps : MadeKeeps
made_keeps k z o w c d firsts u b = record {
  words = words_after k z o w c d firsts u b;
  holders = holders_stay k z o w c d firsts u;
  dirty = dirty_stays k z o w c d firsts u;
  past = past_stays k z o w c d firsts u;
}
