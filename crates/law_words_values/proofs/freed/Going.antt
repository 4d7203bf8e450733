-- Where an object goes to which no place leads, the words of others stay.
use Rattle.std.proofs.Common.{◌≡◌, ◌⊎◌, inl, inr, ⊎_elim, ℕ, true, List, [], Option, Some, None, refl, sym, ap, subst, ◌∙◌}
use Rattle.law_results_reads.specs.Below.fr_base.declared.name.ObjNo.{ObjNo}
use Rattle.law_results_reads.specs.Below.heap_partition.declared.value.Cell.{Cell}
use Rattle.law_results_reads.specs.Below.mut_borrow.declared.mutable.MutRef.{MutRef}
use Rattle.law_results_reads.specs.Below.server_model.Servers.{Cluster}
use Rattle.law_results_reads.specs.Below.thread_state.declared.value.Value.TheVariants as value
use Rattle.law_results_reads.specs.Below.coherent_memory.Names.{Among, other}
use Rattle.law_results_reads.specs.Below.coherent_memory.Things.{Location, in_cell, lies, things_of}
use Rattle.law_results_reads.specs.Below.coherent_memory.Follow.{Ground, cell_of, value_of, value_in, value_behind}
use Rattle.law_results_reads.specs.Below.coherent_memory.Stale.{is_among, Reference, references, holder_of, is_held_at, with_place, lent_places, changed_above, stale_above, taken_above}
use Rattle.law_results_reads.specs.Below.coherent_memory.Sight.{Pointer, pointers_in, taken_object, taken_pointers, sight}
use Rattle.law_results_reads.specs.Below.coherent_memory.Placing.{is_first, other_first, standing_in, standing_pointers}
use Rattle.law_results_reads.specs.Below.coherent_memory.Coherent.{Holds, first_at_holder}
use Rattle.law_results_reads.specs.Below.coherent_memory.Words.{all_pointers, IsStale, Fresh, HasWords, LeadsTo}
use Rattle.law_results_reads.specs.Below.coherent_memory.Dirty.{DirtyAlone, PastWords}
use Rattle.law_results_reads.proofs.Below.coherent_memory.Bags.{among_split}
use Rattle.law_results_reads.proofs.Below.coherent_memory.Words.{none_at, none_all}
use Rattle.law_results_reads.proofs.Below.law_words_paths.paths.Origins.{among_first, among_second}
use Rattle.law_results_reads.proofs.Below.law_words_paths.paths.Contained.{reference_there}
use Rattle.law_results_reads.proofs.Below.law_words_paths.paths.FreshPaths.{held_at}
use Rattle.law_results_reads.proofs.Below.law_words_paths.paths.Sole.{some_is}
use Rattle.law_words_values.specs.Below.law_words_paths.words.Reworded.{HasPlaces}
use Rattle.law_words_values.specs.Below.law_words_paths.words.Unmoved.{seen_at, takings, WordsStay}
use Rattle.law_words_values.proofs.Below.law_words_paths.words.Standing.{tells, told, told_standing, stands_in, borrow_stands}
use Rattle.law_words_values.proofs.Below.law_words_paths.words.Takings.{reference_at, seen_pointer_at, first_at, lent_by, taken_by, lents_are, takens_are, lent_listed, lent_told, taken_listed, taken_told}
use Rattle.law_words_values.proofs.Below.law_words_paths.words.Grounds.{of_borrows, same_place}
use Rattle.law_words_values.proofs.carried.Carrying.{held_somewhere, lent_there}
use Rattle.law_words_values.specs.freed.Freed.{Freed, FreedLeaves}

-- no reference stands in a cell
no_cell_reference : (g : Ground) (o : ObjNo) (r : MutRef) → value_in g (in_cell o) ≡ Some (value.Mut r) → ⊥
no_cell_reference g o r e = by (cell_of g.cells o) e
  where
    by : (c : Option Cell) → value_of c ≡ Some (value.Mut r) → ⊥
    by None f = absurd cc
    by (Some c) f = absurd cc

none_some : {A : Type 0} (x : A) → None ≡ Some x → ⊥
none_some x e = absurd cc

module _ (k z : Cluster) (o : ObjNo) (c : HasPlaces k) (d : HasPlaces z) (firsts : Holds k first_at_holder) (u : Freed k z o) where
  abbrev gk : Ground
  gk = (sight k).ground

  abbrev gz : Ground
  gz = (sight z).ground

  abbrev cell : Location
  cell = in_cell o

  -- REFERENCES

  stood : (q : Reference) → Among q (references gk (things_of k)) → value_in gk q.at ≡ Some (value.Mut q.reference)
  stood q i = borrow_stands k c q.at q.reference (of_borrows gk q (things_of k) i).among

  first_of : (q : Reference) → Among q (references gk (things_of k)) → (m : Location) × (q.holder ≡ Some m)
  first_of q i = held_somewhere gk q.reference q.holder (none_at (other_first gk) q (references gk (things_of k)) firsts i)

  -- its holder is where it was, and not in the cell
  held : (q : Reference) → Among q (references gk (things_of k)) → (holder_of gz q.at q.reference.holder ≡ q.holder) × (q.holder ≡ Some cell → ⊥)
  held q i =
      let m = first_of q i in
      let h = u.holders q.at m.0 q.reference (stood q i) (sym (of_borrows gk q (things_of k) i).holder ∙ m.1) in
      (h.0 ∙ sym m.1, λ e. h.1 (some_is (sym m.1 ∙ e)))

  on : (q : Reference) → Among q (references gk (things_of k)) → Among q (references gz (things_of z))
  on q i =
      let away : q.at ≡ cell → ⊥ = λ e. no_cell_reference gk o q.reference (ap (value_in gk) (sym e) ∙ stood q i) in
      let there = reference_there z q.at q.reference (reference_at q.at (value_in gz q.at) q.reference (u.stands q.at away ∙ ap (seen_at q.at) (stood q i))) in
      subst (λ (h : Option Location). Among (record { at = q.at; holder = h; reference = q.reference }) (references gz (things_of z))) (held q i).0 there

  back : (q : Reference) → Among q (references gz (things_of z)) → Among q (references gk (things_of k))
  back q i =
      let b = of_borrows gz q (things_of z) i in
      let now : value_in gz q.at ≡ Some (value.Mut q.reference) = borrow_stands z d q.at q.reference b.among in
      let away : q.at ≡ cell → ⊥ = λ e. no_cell_reference gz o q.reference (ap (value_in gz) (sym e) ∙ now) in
      let was : value_in gk q.at ≡ Some (value.Mut q.reference) = reference_at q.at (value_in gk q.at) q.reference (sym (u.stands q.at away) ∙ ap (seen_at q.at) now) in
      let y : Reference = record { at = q.at; holder = holder_of gk q.at q.reference.holder; reference = q.reference } in
      let there = reference_there k q.at q.reference was in
      subst (λ (h : Option Location). Among (record { at = q.at; holder = h; reference = q.reference }) (references gk (things_of k))) (sym (held y there).0 ∙ sym b.holder) there

  -- WHAT IS STALE

  lent_on : (l : Location) → is_among l (lent_places k.code gk gk.threads) ≡ true → is_among l (lent_places z.code gz gz.threads) ≡ true
  lent_on l e =
      let y = lent_told gk l (takings k.code gk.threads) (sym (ap (is_among l) (lents_are k.code gk gk.threads)) ∙ e) in
      ap (is_among l) (lents_are z.code gz gz.threads) ∙ lent_listed gz l y.taking (takings z.code gz.threads) (u.took y.taking y.among) (ap (λ m. is_among l (with_place m [])) (u.taken y.taking y.among).1 ∙ y.at)

  lent_back : (l : Location) → is_among l (lent_places z.code gz gz.threads) ≡ true → is_among l (lent_places k.code gk gk.threads) ≡ true
  lent_back l e =
      let y = lent_told gz l (takings z.code gz.threads) (sym (ap (is_among l) (lents_are z.code gz gz.threads)) ∙ e) in
      let x = u.takes y.taking y.among in
      ap (is_among l) (lents_are k.code gk gk.threads) ∙ lent_listed gk l y.taking (takings k.code gk.threads) x (ap (λ m. is_among l (with_place m [])) (sym (u.taken y.taking x).1) ∙ y.at)

  stale_on : (l : Location) → IsStale (sight k) (Some l) → IsStale (sight z) (Some l)
  stale_on l (changed_above q i h ch) = changed_above q (on q i) h ch
  stale_on l (stale_above q i h s) = stale_above q (on q i) h (stale_on q.at s)
  stale_on l (taken_above m) = taken_above (lent_on l m)

  stale_back : (l : Location) → IsStale (sight z) (Some l) → IsStale (sight k) (Some l)
  stale_back l (changed_above q i h ch) = changed_above q (back q i) h ch
  stale_back l (stale_above q i h s) = stale_above q (back q i) h (stale_back q.at s)
  stale_back l (taken_above m) = taken_above (lent_back l m)

  on_at : (l : Option Location) → IsStale (sight k) l → IsStale (sight z) l
  on_at None s = s
  on_at (Some l) s = stale_on l s

  back_at : (l : Option Location) → IsStale (sight z) l → IsStale (sight k) l
  back_at None s = s
  back_at (Some l) s = stale_back l s

  -- nothing was made from the cell's pointer
  none_made : (q : Reference) → Among q (references gk (things_of k)) → is_held_at cell q.holder ≡ true → ⊥
  none_made q i h = (held q i).1 (held_at cell q.holder h)

  calm : IsStale (sight k) (Some cell) → ⊥
  calm (changed_above q i h ch) = none_made q i h
  calm (stale_above q i h s) = none_made q i h
  calm (taken_above m) = let y = lent_told gk cell (takings k.code gk.threads) (sym (ap (is_among cell) (lents_are k.code gk gk.threads)) ∙ m) in u.untaken y.taking y.among (lent_there cell (lent_by gk y.taking) y.at)

  -- POINTERS

  taken_on : (p : Pointer) → Among p (taken_pointers k.code gk gk.threads) → Among p (taken_pointers z.code gz gz.threads)
  taken_on p h =
      let y = taken_told gk p (takings k.code gk.threads) (subst (λ ps. Among p ps) (takens_are k.code gk gk.threads) h) in
      let same : taken_by gz y.taking ≡ taken_by gk y.taking = ap (taken_object y.taking.word) (u.taken y.taking y.among).0 in
      subst (λ ps. Among p ps) (sym (takens_are z.code gz gz.threads)) (taken_listed gz p y.taking (takings z.code gz.threads) (u.took y.taking y.among) (subst (λ ps. Among p ps) (sym same) y.pointer))

  taken_back : (p : Pointer) → Among p (taken_pointers z.code gz gz.threads) → Among p (taken_pointers k.code gk gk.threads)
  taken_back p h =
      let y = taken_told gz p (takings z.code gz.threads) (subst (λ ps. Among p ps) (takens_are z.code gz gz.threads) h) in
      let x = u.takes y.taking y.among in
      let same : taken_by gz y.taking ≡ taken_by gk y.taking = ap (taken_object y.taking.word) (u.taken y.taking x).0 in
      subst (λ ps. Among p ps) (sym (takens_are k.code gk gk.threads)) (taken_listed gk p y.taking (takings k.code gk.threads) x (subst (λ ps. Among p ps) same y.pointer))

  -- the same pointer in the other cluster: where it is, or in the cell
  record Was (ps : List Pointer) (p : Pointer) : Type 0 where
    pointer : Pointer
    among : Among pointer ps
    word : pointer.word ≡ p.word
    object : pointer.object ≡ p.object
    at : (pointer.at ≡ p.at) ⊎ ((pointer.at ≡ Some cell) × (p.at ≡ None))

  itself : {ps : List Pointer} (p : Pointer) → Among p ps → Was ps p
  itself p m = record { pointer = p; among = m; word = refl; object = refl; at = inl refl }

  from_cell : {ps : List Pointer} (p : Pointer) → p.at ≡ None → Among (record p { at = Some cell }) ps → Was ps p
  from_cell p e m = record { pointer = record p { at = Some cell }; among = m; word = refl; object = refl; at = inr (refl, e) }

  wider : {ps qs : List Pointer} {p : Pointer} → ((q : Pointer) → Among q ps → Among q qs) → Was ps p → Was qs p
  wider go s = record { pointer = s.pointer; among = go s.pointer s.among; word = s.word; object = s.object; at = s.at }

  stood_at : (p : Pointer) (l : Location) → Among p (pointers_in (things_of z)) → p.at ≡ Some l → Was (standing_in (things_of k)) p
  stood_at p l m e =
      let t = tells z d p l m e in
      let away : l ≡ cell → ⊥ = λ s. none_some t.value (sym u.gone ∙ ap (value_in gz) (sym s) ∙ t.stands) in
      itself p (told_standing k l t.value p (seen_pointer_at l (value_in gk l) t.value p (sym (u.stands l away) ∙ ap (seen_at l) t.stands) t.pointer) t.pointer)

  in_back : (p : Pointer) → Among p (pointers_in (things_of z)) → Was (pointers_in (things_of k)) p
  in_back p m = by p.at refl
    where
      by : (l : Option Location) → p.at ≡ l → Was (pointers_in (things_of k)) p
      by None e = ⊎_elim (λ (x : Among p (pointers_in (things_of k))). itself p x) (λ (x : Among (record p { at = Some cell }) (pointers_in (things_of k))). from_cell p e x) (u.loose p e m)
      by (Some l) e = wider (λ q x. stands_in q (things_of k) x) (stood_at p l m e)

  standing_back : (p : Pointer) → Among p (standing_in (things_of z)) → Was (standing_in (things_of k)) p
  standing_back p m = by p.at refl
    where
      by : (l : Option Location) → p.at ≡ l → Was (standing_in (things_of k)) p
      by None e = ⊎_elim (λ (x : Among p (standing_in (things_of k))). itself p x) (λ (x : Among (record p { at = Some cell }) (standing_in (things_of k))). from_cell p e x) (u.standing p e m)
      by (Some l) e = stood_at p l (stands_in p (things_of z) m) e

  every_back : (p : Pointer) → Among p (all_pointers (sight z)) → Was (all_pointers (sight k)) p
  every_back p m =
      ⊎_elim (λ (y : Among p (pointers_in (things_of z))). wider (λ q h. among_first q (pointers_in (things_of k)) (taken_pointers k.code gk gk.threads) h) (in_back p y))
      (λ (y : Among p (taken_pointers z.code gz gz.threads)). itself p (among_second p (pointers_in (things_of k)) (taken_pointers k.code gk gk.threads) (taken_back p y)))
      (among_split p (pointers_in (things_of z)) (taken_pointers z.code gz gz.threads) m)

  all_standing_back : (p : Pointer) → Among p (standing_pointers (sight z)) → Was (standing_pointers (sight k)) p
  all_standing_back p m =
      ⊎_elim (λ (y : Among p (standing_in (things_of z))). wider (λ q h. among_first q (standing_in (things_of k)) (taken_pointers k.code gk gk.threads) h) (standing_back p y))
      (λ (y : Among p (taken_pointers z.code gz gz.threads)). itself p (among_second p (standing_in (things_of k)) (taken_pointers k.code gk gk.threads) (taken_back p y)))
      (among_split p (standing_in (things_of z)) (taken_pointers z.code gz gz.threads) m)

  -- a pointer to another object that was there is there, and fresh where it was
  record Is (p : Pointer) : Type 0 where
    pointer : Pointer
    among : Among pointer (all_pointers (sight z))
    object : pointer.object ≡ p.object
    fresh : IsStale (sight z) pointer.at → IsStale (sight k) p.at

  stays : (p : Pointer) → Among p (all_pointers (sight z)) → Is p
  stays p m = record { pointer = p; among = m; object = refl; fresh = λ s. back_at p.at s }

  in_all : (p : Pointer) → Among p (pointers_in (things_of z)) → Among p (all_pointers (sight z))
  in_all p m = among_first p (pointers_in (things_of z)) (taken_pointers z.code gz gz.threads) m

  every_on : (p : Pointer) → Among p (all_pointers (sight k)) → (p.object ≡ o → ⊥) → Is p
  every_on p m ne =
      ⊎_elim (λ (y : Among p (pointers_in (things_of k))). placed p.at refl y) (λ (y : Among p (taken_pointers k.code gk gk.threads)). stays p (among_second p (pointers_in (things_of z)) (taken_pointers z.code gz gz.threads) (taken_on p y)))
      (among_split p (pointers_in (things_of k)) (taken_pointers k.code gk gk.threads) m)
    where
      placed : (l : Option Location) → p.at ≡ l → Among p (pointers_in (things_of k)) → Is p
      placed None e y = ⊎_elim (λ (x : p.object ≡ o). absurd (ne x)) (λ (x : Among p (pointers_in (things_of z))). stays p (in_all p x)) (u.remain p e y)
      placed (Some l) e y =
          ⊎_elim (λ (s : l ≡ cell). record { pointer = record p { at = None }; among = in_all (record p { at = None }) (u.out p (e ∙ ap Some s) y); object = refl; fresh = λ x. absurd x })
          (λ (away : l ≡ cell → ⊥). let t = tells k c p l y e in stays p (in_all p (told z l t.value p (seen_pointer_at l (value_in gz l) t.value p (u.stands l away ∙ ap (seen_at l) t.stands) t.pointer) t.pointer))) (same_place l cell)

  stale_forth : {ps : List Pointer} (p : Pointer) (s : Was ps p) → IsStale (sight k) s.pointer.at → IsStale (sight z) p.at
  stale_forth p s i =
      ⊎_elim (λ (e : s.pointer.at ≡ p.at). on_at p.at (subst (λ l. IsStale (sight k) l) e i))
      (λ (e : (s.pointer.at ≡ Some cell) × (p.at ≡ None)). absurd (calm (subst (λ l. IsStale (sight k) l) e.0 i))) s.at

  -- WORDS

  module _ (b : HasWords (sight k)) where
    live : (r a : ℕ) (e : Cell) → Among (lies r a e) (things_of z) → Fresh (sight z) e.object
    live r a e m =
        let y = u.lay r a e m in
        let x = subst (λ q. Fresh (sight k) q) y.1.object (b.live r a y.1.cell y.1.among) in
        let s = every_on x.pointer x.among (λ f. y.0 (sym x.object ∙ f)) in
        record { pointer = s.pointer; among = s.among; object = s.object ∙ x.object; fresh = λ i. x.fresh (s.fresh i) }

    home : (r a : ℕ) (e : Cell) → Among (lies r a e) (things_of z) → LeadsTo r a (b.word e.object)
    home r a e m = let y = (u.lay r a e m).1 in subst (λ q. LeadsTo r a (b.word q)) y.object (b.home r a y.cell y.among)

    same : (p : Pointer) → Among p (all_pointers (sight z)) → IsStale (sight z) p.at ⊎ (p.word ≡ b.word p.object)
    same p m =
        let s = every_back p m in
        ⊎_elim (λ (i : IsStale (sight k) s.pointer.at). inl (stale_forth p s i)) (λ (e : s.pointer.word ≡ b.word s.pointer.object). inr (sym s.word ∙ e ∙ ap b.word s.object)) (b.same s.pointer s.among)

    words_stay : WordsStay (sight k) (sight z) b
    words_stay = record { after = record { word = b.word; same = same; live = live; home = home }; same = λ p. refl }

  -- WHAT ELSE IS KEPT

  holders_stay : Holds k first_at_holder → Holds z first_at_holder
  holders_stay all =
      none_all (other_first gz) (references gz (things_of z))
      (λ q m.
      let i = back q m in
      let h = first_of q i in
      let away : h.0 ≡ cell → ⊥ = λ e. (held q i).1 (h.1 ∙ ap Some e) in
      let behind : is_first q.reference (value_behind gz q.holder) ≡ is_first q.reference (value_behind gk q.holder) =
      ap (λ l. is_first q.reference (value_behind gz l)) h.1 ∙ sym (first_at q.reference h.0 (value_in gz h.0)) ∙ ap (is_first q.reference) (u.stands h.0 away) ∙ first_at q.reference h.0 (value_in gk h.0)
      ∙ sym (ap (λ l. is_first q.reference (value_behind gk l)) h.1) in
      ap other behind ∙ none_at (other_first gk) q (references gk (things_of k)) all i)

  dirty_stays : DirtyAlone (sight k) → DirtyAlone (sight z)
  dirty_stays f q m e n =
      let i = back q m in
      let y = f q i e (λ s. n (stale_on q.at s)) in record {
        unlent = λ x j h. y.unlent x (back x j) h;
        sole = λ p j h. (let s = all_standing_back p j in
            ⊎_elim (λ (x : IsStale (sight k) s.pointer.at). inl (stale_forth p s x)) (λ (x : is_held_at q.at s.pointer.at ≡ true). inr (own q i p s x)) (y.sole s.pointer s.among (s.object ∙ h)));
      }
    where
      own : (q : Reference) → Among q (references gk (things_of k)) → (p : Pointer) (s : Was (standing_pointers (sight k)) p) → is_held_at q.at s.pointer.at ≡ true → is_held_at q.at p.at ≡ true
      own q i p s x =
          ⊎_elim (λ (e : s.pointer.at ≡ p.at). ap (is_held_at q.at) (sym e) ∙ x)
          (λ (e : (s.pointer.at ≡ Some cell) × (p.at ≡ None)).
          let same : cell ≡ q.at = some_is (sym e.0 ∙ held_at q.at s.pointer.at x) in
          absurd (no_cell_reference gk o q.reference (ap (value_in gk) same ∙ stood q i))) s.at

  past_stays : PastWords (sight k) → PastWords (sight z)
  past_stays f q m n p j fresh e h =
      let i = back q m in
      let s = every_back p j in
      f q i n s.pointer s.among (λ y. fresh (stale_forth p s y)) (s.object ∙ e) (s.word ∙ h)

pub freed_leaves : FreedLeaves
freed_leaves k z o c d firsts u = record {
  words = λ b. words_stay k z o c d firsts u b;
  holders = holders_stay k z o c d firsts u;
  dirty = dirty_stays k z o c d firsts u;
  past = past_stays k z o c d firsts u;
}
