-- The word of a pointer that a place follows for reading, but for a dirty reference, is that of a clean cell.
use Rattle.std.proofs.Common.{◌≡◌, inl, inr, ⊎_elim, ℕ, ◌&&◌, ◌||◌, not, Bool, true, false, if◌then◌else◌, List, [], ◌∷◌, Some, is_some, refl, sym, ap, subst, ◌∙◌}
use Rattle.std.proofs.lemmas.Bool.{eq-eqb}
use Rattle.law_words_borrows.specs.Below.fr_base.declared.name.ObjNo.{ObjNo}
use Rattle.law_words_borrows.specs.Below.heap_partition.declared.value.BoxPtr.{BoxPtr}
use Rattle.law_words_borrows.specs.Below.heap_partition.declared.value.Cell.{Cell}
use Rattle.law_words_borrows.specs.Below.heap_partition.declared.value.Owned.TheVariants as owned
use Rattle.law_words_borrows.specs.Below.mut_borrow.declared.mutable.MutRef.{MutRef}
use Rattle.law_words_borrows.specs.Below.thread_state.declared.value.Value.{Value}
use Rattle.law_words_borrows.specs.Below.thread_state.declared.value.Value.TheVariants as value
use Rattle.law_words_borrows.specs.Below.server_model.Servers.{Cluster}
use Rattle.law_words_borrows.specs.Below.server_model.Places.{pointer_of}
use Rattle.law_words_borrows.specs.Below.coherent_memory.Names.{other, same_object, Among}
use Rattle.law_words_borrows.specs.Below.coherent_memory.Things.{Location, Thing, borrows, lies, things_of}
use Rattle.law_words_borrows.specs.Below.coherent_memory.Follow.{Ground, value_in, cells_in}
use Rattle.law_words_borrows.specs.Below.coherent_memory.Stale.{Reference, is_among, holder_of, is_held_at}
use Rattle.law_words_borrows.specs.Below.coherent_memory.Sight.{Pointer, word_of_object, is_word, cell_of_word, dirty_objects, if_dirty, is_object_among, sight, word, taken_pointers}
use Rattle.law_words_borrows.specs.Below.coherent_memory.Words.{IsStale, HasWords}
use Rattle.law_words_borrows.specs.Below.coherent_memory.Dirty.{IsAlone}
use Rattle.law_words_borrows.specs.Below.coherent_memory.Placing.{standing_in, unless_dirty, if_clean}
use Rattle.law_words_borrows.specs.Below.coherent_memory.Coherent.{IsSound}
use Rattle.law_words_borrows.proofs.Below.coherent_memory.Dirty.{dirty_law}
use Rattle.law_words_borrows.proofs.Below.coherent_memory.Words.{named, told as told_stale}
use Rattle.law_words_borrows.specs.Below.coherent_types.ClusterTypes.{IsCoherent}
use Rattle.law_words_borrows.proofs.Below.law_words_paths.paths.Sole.{some_is}
use Rattle.law_words_borrows.proofs.Below.law_words_paths.paths.Origins.{among_first}
use Rattle.law_words_borrows.proofs.Below.law_words_paths.paths.Contained.{reference_there}
use Rattle.law_words_borrows.proofs.Below.law_words_paths.paths.FreshPaths.{same_is}
use Rattle.law_copies_kept.proofs.Below.law_words_kept.reads.Homes.{shared_among, fresh_word}
use Rattle.law_copies_kept.specs.Below.law_words_paths.words.Reworded.{LiesThere}
use Rattle.law_copies_kept.proofs.Below.law_words_paths.words.Standing.{lying, borrow_stands, told_standing}
use Rattle.law_copies_kept.proofs.copies.Clean.{found_by, thing_cell, told, one_of_word}
use Rattle.law_copies_kept.proofs.references.Kept.{has_none, places_before}

-- a word that some cell's object has is found
pub finds_word : (ps : List Pointer) (cs : List Cell) (w : ℕ) (c : Cell) → Among c cs → is_word (word_of_object ps c.object) w ≡ true → (d : Cell) × (cell_of_word ps cs w ≡ Some d)
finds_word ps [] w c h a = absurd h
finds_word ps (x ∷ cs) w c h a = by (is_word (word_of_object ps x.object) w) refl h (λ m. finds_word ps cs w c m a)
  where
    by : (q : Bool) → is_word (word_of_object ps x.object) w ≡ q → Among c (x ∷ cs) → (Among c cs → (d : Cell) × (cell_of_word ps cs w ≡ Some d)) → (d : Cell) × ((if q then Some x else cell_of_word ps cs w) ≡ Some d)
    by true q m go = (x, refl)
    by false q (inl same) go = let no : false ≡ true = sym q ∙ subst (λ (y : Cell). is_word (word_of_object ps y.object) w ≡ true) (sym same) a in absurd cc
    by false q (inr m) go = go m

-- a dirty reference to the object that isn't stale
pub record DirtyOne (o : ObjNo) (places : List Location) (b : List Thing) : Type 0 where
  pub at : Location
  pub reference : MutRef
  pub among : Among (borrows at reference) b
  pub object : reference.object ≡ o
  pub dirty : reference.dirty ≡ true
  pub fresh : is_among at places ≡ false

later_dirty : (o : ObjNo) (places : List Location) (x : Thing) (b : List Thing) → DirtyOne o places b → DirtyOne o places (x ∷ b)
later_dirty o places x b q = record { at = q.at; reference = q.reference; among = inr q.among; object = q.object; dirty = q.dirty; fresh = q.fresh }

pub dirty_one : (o : ObjNo) (places : List Location) (b : List Thing) → is_object_among o (dirty_objects places b) ≡ true → DirtyOne o places b
dirty_one o places [] e = absurd (cc e)
dirty_one o places (borrows l r ∷ b) e = by r.dirty (is_among l places) refl refl e (λ z. dirty_one o places b z)
  where
    here : (q : Bool) → same_object r.object o ≡ q → r.dirty ≡ true → is_among l places ≡ false → q || is_object_among o (dirty_objects places b) ≡ true → (is_object_among o (dirty_objects places b) ≡ true → DirtyOne o places b) → DirtyOne o places (borrows l r ∷ b)
    here true same d f z go = record { at = l; reference = r; among = inl refl; object = named r.object o same; dirty = d; fresh = f }
    here false same d f z go = later_dirty o places (borrows l r) b (go z)

    by : (d f : Bool) → r.dirty ≡ d → is_among l places ≡ f → is_object_among o (if_dirty (d && not f) r.object (dirty_objects places b)) ≡ true → (is_object_among o (dirty_objects places b) ≡ true → DirtyOne o places b) → DirtyOne o places (borrows l r ∷ b)
    by true false p q z go = here (same_object r.object o) refl p q z go
    by true true p q z go = later_dirty o places (borrows l r) b (go z)
    by false f p q z go = later_dirty o places (borrows l r) b (go z)
dirty_one o places (_ ∷ b) e = later_dirty o places _ b (dirty_one o places b e)

module _ (k : Cluster) (coherent : IsCoherent k) where
  abbrev sound : IsSound k
  sound = coherent.sound

  abbrev g : Ground
  g = (sight k).ground

  words : HasWords (sight k)
  words = sound.words.have_words

  -- a dirty reference to the object of such a pointer is the pointer
  module _ (l : Location) (v : Value) (p : BoxPtr) (stands : value_in g l ≡ Some v) (points : pointer_of v ≡ Some p) (fresh : IsStale (sight k) (Some l) → ⊥) (clean : (q : MutRef) → v ≡ value.Mut q → q.dirty ≡ true → ⊥) where
    dirty_is : DirtyOne p.object (sight k).stale (things_of k) → ⊥
    dirty_is d = by v refl points
      where
        q : Reference
        q = record { at = d.at; holder = holder_of g d.at d.reference.holder; reference = d.reference }

        there : value_in g d.at ≡ Some (value.Mut d.reference)
        there = borrow_stands k (places_before k sound) d.at d.reference d.among

        alone : IsAlone (sight k) q
        alone = sound.words.dirty_alone q (reference_there k d.at d.reference there) d.dirty (λ s. let no : false ≡ true = sym d.fresh ∙ told_stale k (Some d.at) s in absurd cc)

        -- it stands where that stands
        at_one : (u : Value) → v ≡ u → (z : Pointer) → z.at ≡ Some l → z.object ≡ p.object → Among z (standing_in (things_of k)) → u ≡ value.Mut d.reference
        at_one u same z place object m =
            ⊎_elim (λ (s : IsStale (sight k) z.at). absurd (fresh (subst (IsStale (sight k)) place s)))
            (λ (s : is_held_at d.at z.at ≡ true).
            let one : l ≡ d.at = same_is l d.at (subst (λ o. is_held_at d.at o ≡ true) place s) in
            sym same ∙ some_is (sym stands ∙ ap (value_in g) one ∙ there))
            (alone.sole z (among_first z (standing_in (things_of k)) (taken_pointers (sight k).code g g.threads) m) (object ∙ sym d.object))

        by : (u : Value) → v ≡ u → pointer_of u ≡ Some p → ⊥
        by (value.Own (owned.Box b)) same e =
            let z : Pointer = record { at = Some l; word = b.word; object = b.object } in
            let no = at_one (value.Own (owned.Box b)) same z refl (ap (λ (x : BoxPtr). x.object) (some_is e)) (told_standing k l (value.Own (owned.Box b)) z (stands ∙ ap Some same) (inl refl)) in
            absurd cc
        by (value.Mut m) same e =
            let z : Pointer = record { at = Some l; word = m.word; object = m.object } in
            let one = at_one (value.Mut m) same z refl (ap (λ (x : BoxPtr). x.object) (some_is e)) (told_standing k l (value.Mut m) z (stands ∙ ap Some same) (inl refl)) in
            clean d.reference (same ∙ one) d.dirty
        by (value.Shared r) same e = dirty_law.unshared (sight k) q alone l r (shared_among k l r (stands ∙ ap Some same)) (ap (λ (x : BoxPtr). x.object) (some_is e) ∙ sym d.object)
        by (value.Own owned.Nothing) same e = absurd cc
        by (value.Own owned.Unit) same e = absurd cc
        by (value.Own (owned.Int m)) same e = absurd cc
        by (value.Own (owned.Mutex m)) same e = absurd cc
        by (value.Own (owned.Task m)) same e = absurd cc
        by (value.SharedSlot j) same e = absurd cc
        by (value.MutSlot j) same e = absurd cc
        by value.Gone same e = absurd cc
        by (value.Held m) same e = absurd cc

    not_dirty : is_object_among p.object (sight k).dirty ≡ false
    not_dirty = by (is_object_among p.object (sight k).dirty) refl
      where
        by : (b : Bool) → is_object_among p.object (sight k).dirty ≡ b → b ≡ false
        by true e = absurd (dirty_is (dirty_one p.object (sight k).stale (things_of k) e))
        by false e = refl

    -- its word has a clean cell, where the object lies
    pub clean_there : (r a : ℕ) → LiesThere k r a p.object → has_none k p.word ≡ 0
    clean_there r a lying_there = ap (λ o. other (is_some (if_clean (sight k) o))) found.1 ∙ ap (λ b. other (is_some (unless_dirty b found.0))) dirty
      where
        c : Cell
        c = lying_there.cell

        among : Among c (cells_in (things_of k))
        among = thing_cell (things_of k) c (lies r a c) (lying r a) lying_there.among

        has : is_word (word (sight k) c.object) p.word ≡ true
        has =
            let own : p.word ≡ words.word p.object = fresh_word k words l v p stands points fresh in
            ap (λ o. is_word o p.word) (told k words c among) ∙ eq-eqb (words.word c.object) p.word (ap words.word lying_there.object ∙ sym own)

        found : (d : Cell) × (cell_of_word (sight k).pointers (sight k).ground.cells p.word ≡ Some d)
        found = finds_word (sight k).pointers (sight k).ground.cells p.word c among has

        same : c ≡ found.0
        same = let f = found_by (sight k).pointers (sight k).ground.cells p.word found.0 found.1 in one_of_word k sound p.word c found.0 among f.among has f.has

        dirty : is_object_among (found.0).object (sight k).dirty ≡ false
        dirty = ap (λ o. is_object_among o (sight k).dirty) (ap (λ (d : Cell). d.object) (sym same) ∙ lying_there.object) ∙ not_dirty
