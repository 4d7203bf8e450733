-- The live object that has a word and isn't changed through a reference: it is the same one where cells, words and changed references are the same.
use Rattle.std.proofs.Common.{◌≡◌, inl, inr, ℕ, ◌≤◌, ◌&&◌, ◌||◌, not, Bool, true, false, if◌then◌else◌, List, [], ◌∷◌, Option, Some, None, refl, sym, ap, subst, ◌∙◌, arith}
use Rattle.std.proofs.lemmas.Bool.{eqb-true, eq-eqb}
use Rattle.law_words_borrows.specs.Below.fr_base.declared.name.ObjNo.{ObjNo}
use Rattle.law_words_borrows.specs.Below.fr_base.declared.instruction.Instr.{Instr}
use Rattle.law_words_borrows.specs.Below.heap_partition.declared.value.Cell.{Cell}
use Rattle.law_words_borrows.specs.Below.mut_borrow.declared.mutable.MutRef.{MutRef}
use Rattle.law_words_borrows.specs.Below.server_model.Servers.{Cluster}
use Rattle.law_words_borrows.specs.Below.coherent_memory.Names.{tot, one, same_object, Among}
use Rattle.law_words_borrows.specs.Below.coherent_memory.Things.{Location, Thing, borrows, lies, flies, things_of}
use Rattle.law_words_borrows.specs.Below.coherent_memory.Follow.{cells_in, value_in}
use Rattle.law_words_borrows.specs.Below.coherent_memory.Stale.{Reference, references, is_among, holder_of}
use Rattle.law_words_borrows.specs.Below.coherent_memory.Sight.{Pointer, pointers_in, taken_pointers, word_of_object, is_word, cell_of_word, dirty_objects, if_dirty, is_object_among, sight, word}
use Rattle.law_words_borrows.specs.Below.coherent_memory.Words.{IsStale, Fresh, HasWords}
use Rattle.law_words_borrows.specs.Below.coherent_memory.Weights.{cells}
use Rattle.law_words_borrows.specs.Below.coherent_memory.Placing.{is_word_of, shared_words, same_words, unless_dirty, if_clean, clean_cell}
use Rattle.law_words_borrows.specs.Below.coherent_memory.Coherent.{IsSound}
use Rattle.law_words_borrows.proofs.Below.coherent_memory.Words.{none_at, named, itself, words_law, told as told_stale, not_told}
use Rattle.law_words_borrows.proofs.Below.law_words_paths.paths.Sole.{some_is}
use Rattle.law_words_borrows.proofs.Below.law_words_paths.paths.Origins.{among_first}
use Rattle.law_words_borrows.proofs.Below.law_words_paths.paths.InState.{only_one}
use Rattle.law_words_borrows.proofs.Below.law_words_paths.paths.Contained.{reference_there}
use Rattle.law_words_borrows.specs.Below.law_words_paths.words.Reworded.{HasPlaces}
use Rattle.law_words_borrows.specs.Below.law_words_paths.words.Unmoved.{seen_at, Taking, takings, WordsStay, LeavesWords}
use Rattle.law_words_borrows.proofs.Below.law_words_paths.words.Standing.{CellOf, lying, flying, borrow_stands, pointers_among}
use Rattle.law_words_borrows.proofs.Below.law_words_paths.words.Grounds.{of_borrows}
use Rattle.law_words_borrows.proofs.Below.law_words_paths.words.Unmoved.{reference, stale_at}
use Rattle.law_words_borrows.proofs.Below.law_words_kept.stays.Alike.{Within}
use Rattle.law_words_borrows.proofs.Below.law_words_kept.stays.Seen.{seen_alike}
use Rattle.law_words_borrows.proofs.Below.law_words_values.carried.Carrying.{fresh_on, fresh_back}
use Rattle.law_words_borrows.proofs.Below.law_words_values.carried.Hands.{GoesOver, words_go}

-- THE CELL OF A WORD

-- the one that is found has the word, and where none is found none has it
pub record FoundBy (ps : List Pointer) (cs : List Cell) (w : ℕ) (c : Cell) : Type 0 where
  pub among : Among c cs
  pub has : is_word (word_of_object ps c.object) w ≡ true

pub found_by : (ps : List Pointer) (cs : List Cell) (w : ℕ) (c : Cell) → cell_of_word ps cs w ≡ Some c → FoundBy ps cs w c
found_by ps [] w c e = absurd (cc e)
found_by ps (x ∷ cs) w c e = by (is_word (word_of_object ps x.object) w) refl e (λ z. found_by ps cs w c z)
  where
    by : (q : Bool) → is_word (word_of_object ps x.object) w ≡ q → (if q then Some x else cell_of_word ps cs w) ≡ Some c → (cell_of_word ps cs w ≡ Some c → FoundBy ps cs w c) → FoundBy ps (x ∷ cs) w c
    by true q z go = record { among = inl (some_is z); has = subst (λ (y : Cell). is_word (word_of_object ps y.object) w ≡ true) (some_is z) q }
    by false q z go = let f = go z in record { among = inr f.among; has = f.has }

none_has : (ps : List Pointer) (cs : List Cell) (w : ℕ) → cell_of_word ps cs w ≡ None → (c : Cell) → Among c cs → is_word (word_of_object ps c.object) w ≡ true → ⊥
none_has ps [] w e c h a = h
none_has ps (x ∷ cs) w e c h a = by (is_word (word_of_object ps x.object) w) refl e h (λ z. none_has ps cs w z c)
  where
    by : (q : Bool) → is_word (word_of_object ps x.object) w ≡ q → (if q then Some x else cell_of_word ps cs w) ≡ None → Among c (x ∷ cs) → (cell_of_word ps cs w ≡ None → Among c cs → is_word (word_of_object ps c.object) w ≡ true → ⊥) → ⊥
    by true q z m go = absurd (cc z)
    by false q z (inl same) go = let no : false ≡ true = sym q ∙ subst (λ (y : Cell). is_word (word_of_object ps y.object) w ≡ true) (sym same) a in cc no
    by false q z (inr m) go = go z m a

-- the same cells, of which at most one has the word
record OneOf (ps qs : List Pointer) (cs ds : List Cell) (w : ℕ) : Type 0 where
  on : (c : Cell) → Among c cs → Among c ds
  back : (c : Cell) → Among c ds → Among c cs
  words : (c : Cell) → Among c cs → is_word (word_of_object qs c.object) w ≡ is_word (word_of_object ps c.object) w
  one : (c d : Cell) → Among c cs → Among d cs → is_word (word_of_object ps c.object) w ≡ true → is_word (word_of_object ps d.object) w ≡ true → c ≡ d

found_same : (ps qs : List Pointer) (cs ds : List Cell) (w : ℕ) → OneOf ps qs cs ds w → cell_of_word qs ds w ≡ cell_of_word ps cs w
found_same ps qs cs ds w o = by (cell_of_word ps cs w) refl (cell_of_word qs ds w) refl
  where
    was : (c : Cell) → Among c ds → is_word (word_of_object qs c.object) w ≡ true → is_word (word_of_object ps c.object) w ≡ true
    was c m h = sym (o.words c (o.back c m)) ∙ h

    by : (x : Option Cell) → cell_of_word ps cs w ≡ x → (y : Option Cell) → cell_of_word qs ds w ≡ y → y ≡ x
    by None p None q = refl
    by None p (Some d) q = let f = found_by qs ds w d q in absurd (none_has ps cs w p d (o.back d f.among) (was d f.among f.has))
    by (Some c) p None q = let f = found_by ps cs w c p in absurd (none_has qs ds w q c (o.on c f.among) (o.words c f.among ∙ f.has))
    by (Some c) p (Some d) q =
        let f = found_by ps cs w c p in
        let g = found_by qs ds w d q in
        ap (λ z. Some z) (sym (o.one c d f.among (o.back d g.among) f.has (was d g.among g.has)))

-- CELLS AND THEIR THINGS

-- a cell is a thing's
pub cell_thing : (b : List Thing) (x : Cell) → Among x (cells_in b) → (y : Thing) × Among y b × CellOf x y
cell_thing [] x h = absurd h
cell_thing (lies r a d ∷ b) x (inl e) = (lies r a d, inl refl, subst (λ z. CellOf z (lies r a d)) e (lying r a))
cell_thing (lies r a d ∷ b) x (inr h) = let q = cell_thing b x h in (q.0, inr q.1, q.2)
cell_thing (flies u d ∷ b) x (inl e) = (flies u d, inl refl, subst (λ z. CellOf z (flies u d)) e (flying u))
cell_thing (flies u d ∷ b) x (inr h) = let q = cell_thing b x h in (q.0, inr q.1, q.2)
cell_thing (_ ∷ b) x h = let q = cell_thing b x h in (q.0, inr q.1, q.2)

pub thing_cell : (b : List Thing) (x : Cell) (y : Thing) → CellOf x y → Among y b → Among x (cells_in b)
thing_cell [] x y is h = absurd h
thing_cell (z ∷ b) x y is (inl e) = subst (λ v. Among x (cells_in (v ∷ b))) (sym e) (first x y is)
  where
    first : (x : Cell) (y : Thing) → CellOf x y → Among x (cells_in (y ∷ b))
    first x _ (lying r a) = inl refl
    first x _ (flying w) = inl refl
thing_cell (lies r a d ∷ b) x y is (inr h) = inr (thing_cell b x y is h)
thing_cell (flies u d ∷ b) x y is (inr h) = inr (thing_cell b x y is h)
thing_cell (_ ∷ b) x y is (inr h) = thing_cell b x y is h

-- CHANGED REFERENCES

-- a dirty reference to the object that isn't stale
record DirtyOne (o : ObjNo) (places : List Location) (b : List Thing) : Type 0 where
  at : Location
  reference : MutRef
  among : Among (borrows at reference) b
  object : reference.object ≡ o
  dirty : reference.dirty ≡ true
  fresh : is_among at places ≡ false

later_dirty : (o : ObjNo) (places : List Location) (x : Thing) (b : List Thing) → DirtyOne o places b → DirtyOne o places (x ∷ b)
later_dirty o places x b q = record { at = q.at; reference = q.reference; among = inr q.among; object = q.object; dirty = q.dirty; fresh = q.fresh }

dirty_one : (o : ObjNo) (places : List Location) (b : List Thing) → is_object_among o (dirty_objects places b) ≡ true → DirtyOne o places b
dirty_one o places [] e = absurd (cc e)
dirty_one o places (borrows l r ∷ b) e = by r.dirty (is_among l places) refl refl e (λ z. dirty_one o places b z)
  where
    here : (q : Bool) → same_object r.object o ≡ q → r.dirty ≡ true → is_among l places ≡ false → q || is_object_among o (dirty_objects places b) ≡ true → (is_object_among o (dirty_objects places b) ≡ true → DirtyOne o places b) → DirtyOne o places (borrows l r ∷ b)
    here true same d f z go = record { at = l; reference = r; among = inl refl; object = named r.object o same; dirty = d; fresh = f }
    here false same d f z go = later_dirty o places (borrows l r) b (go z)

    by : (d f : Bool) → r.dirty ≡ d → is_among l places ≡ f → is_object_among o (if_dirty (d && not f) r.object (dirty_objects places b)) ≡ true → (is_object_among o (dirty_objects places b) ≡ true → DirtyOne o places b) → DirtyOne o places (borrows l r ∷ b)
    by true false p q z go = here (same_object r.object o) refl p q z go
    by true true p q z go = later_dirty o places (borrows l r) b (go z)
    by false f p q z go = later_dirty o places (borrows l r) b (go z)
dirty_one o places (_ ∷ b) e = later_dirty o places _ b (dirty_one o places b e)

-- and the other way round
listed_dirty : (o : ObjNo) (places : List Location) (l : Location) (r : MutRef) (b : List Thing) → Among (borrows l r) b → r.object ≡ o → r.dirty ≡ true → is_among l places ≡ false → is_object_among o (dirty_objects places b) ≡ true
listed_dirty o places l r [] h e d f = absurd h
listed_dirty o places l r (x ∷ b) (inl same) e d f =
    subst (λ z. is_object_among o (dirty_objects places (z ∷ b)) ≡ true) (sym same)
    (subst (λ q. is_object_among o (if_dirty (q && not (is_among l places)) r.object (dirty_objects places b)) ≡ true) (sym d)
    (subst (λ q. is_object_among o (if_dirty (not q) r.object (dirty_objects places b)) ≡ true) (sym f) (ap (λ q. q || is_object_among o (dirty_objects places b)) (itself r.object o e))))
listed_dirty o places l r (borrows m q ∷ b) (inr h) e d f = by (q.dirty && not (is_among m places)) (listed_dirty o places l r b h e d f)
  where
    or_later : (a c : Bool) → c ≡ true → (a || c) ≡ true
    or_later true c z = refl
    or_later false c z = z

    by : (a : Bool) → is_object_among o (dirty_objects places b) ≡ true → is_object_among o (if_dirty a q.object (dirty_objects places b)) ≡ true
    by true z = or_later (same_object q.object o) (is_object_among o (dirty_objects places b)) z
    by false z = z
listed_dirty o places l r (_ ∷ b) (inr h) e d f = listed_dirty o places l r b h e d f

-- each dirty reference that isn't stale has one in the other cluster to the same object
pub record Found (z : Cluster) (r : MutRef) : Type 0 where
  pub reference : Reference
  pub among : Among reference (references (sight z).ground (things_of z))
  pub same : reference.reference ≡ r
  pub fresh : IsStale (sight z) (Some reference.at) → ⊥

abbrev pub ChangedGo : Cluster → Cluster → Type 0
ChangedGo k z = (q : Reference) → Among q (references (sight k).ground (things_of k)) → (IsStale (sight k) (Some q.at) → ⊥) → Found z q.reference

pub changed_chain : (a b c : Cluster) → ChangedGo a b → ChangedGo b c → ChangedGo a c
changed_chain a b c f g q m n =
    let x = f q m n in
    let y = g x.reference x.among x.fresh in
    record { reference = y.reference; among = y.among; same = y.same ∙ x.same; fresh = y.fresh }

dirty_goes : (a b : Cluster) → HasPlaces a → ChangedGo a b → (o : ObjNo) → is_object_among o (sight a).dirty ≡ true → is_object_among o (sight b).dirty ≡ true
dirty_goes a b c g o e =
    let q = dirty_one o (sight a).stale (things_of a) e in
    let fresh : IsStale (sight a) (Some q.at) → ⊥ = λ s. let no : false ≡ true = sym q.fresh ∙ told_stale a (Some q.at) s in cc no in
    let there = reference_there a q.at q.reference (borrow_stands a c q.at q.reference q.among) in
    let y = g (record { at = q.at; holder = holder_of (sight a).ground q.at q.reference.holder; reference = q.reference }) there fresh in
    listed_dirty o (sight b).stale y.reference.at y.reference.reference (things_of b) (of_borrows (sight b).ground y.reference (things_of b) y.among).among (ap (λ (r : MutRef). r.object) y.same ∙ q.object) (ap (λ (r : MutRef). r.dirty) y.same ∙ q.dirty)
    (not_told b (Some y.reference.at) y.fresh)

same_truth : (p q : Bool) → (p ≡ true → q ≡ true) → (q ≡ true → p ≡ true) → q ≡ p
same_truth true true f g = refl
same_truth false false f g = refl
same_truth true false f g = absurd (cc (f refl))
same_truth false true f g = absurd (cc (g refl))

-- so the same objects are changed through references
dirty_same : (k z : Cluster) → HasPlaces k → HasPlaces z → ChangedGo k z → ChangedGo z k → (o : ObjNo) → is_object_among o (sight z).dirty ≡ is_object_among o (sight k).dirty
dirty_same k z c d on back o = same_truth (is_object_among o (sight k).dirty) (is_object_among o (sight z).dirty) (dirty_goes k z c on o) (dirty_goes z k d back o)

-- where at each location stands the same, and threads have taken the same
module _ (a b : Cluster) (c : HasPlaces a) (d : HasPlaces b) (st : (l : Location) → seen_at l (value_in (sight b).ground l) ≡ seen_at l (value_in (sight a).ground l))
    (took : (t : Taking) → Among t (takings a.code (sight a).ground.threads) → Among t (takings b.code (sight b).ground.threads))
    (takes : (t : Taking) → Among t (takings b.code (sight b).ground.threads) → Among t (takings a.code (sight a).ground.threads)) where
  changed_go : ChangedGo a b
  changed_go q m n = record { reference = q; among = reference a b c st took q m; same = refl; fresh = λ s. n (stale_at b a d (λ l. sym (st l)) takes (Some q.at) s) }

-- WORDS

module _ (k : Cluster) (h : HasWords (sight k)) where
  -- a live object has a pointer that isn't stale, wherever it is
  fresh_one : (c : Cell) → Among c (cells_in (things_of k)) → Fresh (sight k) c.object
  fresh_one c m = let q = cell_thing (things_of k) c m in by q.0 q.1 q.2
    where
      by : (y : Thing) → Among y (things_of k) → CellOf c y → Fresh (sight k) c.object
      by _ i (lying r a) = h.live r a c i
      by _ i (flying w) = record {
        pointer = record { at = None; word = w; object = c.object };
        among = among_first (record { at = None; word = w; object = c.object }) (pointers_in (things_of k)) (taken_pointers (sight k).code (sight k).ground (sight k).ground.threads)
            (pointers_among (record { at = None; word = w; object = c.object }) (flies w c) (things_of k) i (inl refl));
        object = refl;
        fresh = λ s. s;
      }

  pub told : (c : Cell) → Among c (cells_in (things_of k)) → word (sight k) c.object ≡ Some (h.word c.object)
  told c m = words_law.first_tells k h c.object (fresh_one c m)

-- in a sound cluster at most one live object has a word
module _ (k : Cluster) (sound : IsSound k) where
  one_home : (c d : Cell) (x y : Thing) → CellOf c x → CellOf d y → Among x (things_of k) → Among y (things_of k) → c.object ≡ d.object → c ≡ d
  one_home c d x y p q m n e = same c d x y p q (only_one (cells c.object) x y (things_of k) (sound.one_home.home_of_each c.object) m n (weighs c x p refl) (weighs d y q (sym e)))
    where
      weighs : (b : Cell) (t : Thing) → CellOf b t → b.object ≡ c.object → 1 ≤ cells c.object t
      weighs b _ (lying r a) f = rw (itself b.object c.object f) (omega arith)
      weighs b _ (flying u) f = rw (itself b.object c.object f) (omega arith)

      same : (b f : Cell) (s t : Thing) → CellOf b s → CellOf f t → s ≡ t → b ≡ f
      same b f _ _ (lying r a) (lying s g) i = cc
      same b f _ _ (flying u) (flying v) i = cc
      same b f _ _ (lying r a) (flying v) i = absurd (cc i)
      same b f _ _ (flying u) (lying s g) i = absurd (cc i)

  is_word_told : (v : Option ℕ) (w : ℕ) → is_word v w ≡ true → v ≡ Some w
  is_word_told None w e = absurd (cc e)
  is_word_told (Some x) w e = ap (λ y. Some y) (eqb-true x w e)

  pub one_of_word : (w : ℕ) (c d : Cell) → Among c (cells_in (things_of k)) → Among d (cells_in (things_of k)) → is_word (word (sight k) c.object) w ≡ true → is_word (word (sight k) d.object) w ≡ true → c ≡ d
  one_of_word w c d m n e f =
      let x = cell_thing (things_of k) c m in
      let y = cell_thing (things_of k) d n in
      let all : tot (shared_words (sight k)) (things_of k) ≡ 0 = sound.words.different_words in
      let mine : tot (same_words (sight k) (word (sight k) c.object) c.object) (things_of k) ≡ 0 = shared x.0 x.2 (none_at (shared_words (sight k)) x.0 (things_of k) all x.1) in
      one_home c d x.0 y.0 x.2 y.2 x.1 y.1 (sym (same_named y.0 y.2 (none_at (same_words (sight k) (word (sight k) c.object) c.object) y.0 (things_of k) mine y.1)))
    where
      shared : (t : Thing) → CellOf c t → shared_words (sight k) t ≡ 0 → tot (same_words (sight k) (word (sight k) c.object) c.object) (things_of k) ≡ 0
      shared _ (lying r a) z = z
      shared _ (flying u) z = z

      no_other : (b : Bool) (u v : Option ℕ) → u ≡ Some w → v ≡ Some w → one (not b && is_word_of u v) ≡ 0 → b ≡ true
      no_other true u v p q z = refl
      no_other false u v p q z =
          let both : is_word_of u v ≡ true = rw p (rw q (eq-eqb w w refl)) in
          let wrong : one (true && is_word_of u v) ≡ 1 = rw both refl in
          absurd (omega (arith, z, wrong))

      same_named : (t : Thing) → CellOf d t → same_words (sight k) (word (sight k) c.object) c.object t ≡ 0 → d.object ≡ c.object
      same_named _ (lying r a) z = named d.object c.object (no_other (same_object d.object c.object) (word (sight k) d.object) (word (sight k) c.object) (is_word_told (word (sight k) d.object) w f) (is_word_told (word (sight k) c.object) w e) z)
      same_named _ (flying u) z = named d.object c.object (no_other (same_object d.object c.object) (word (sight k) d.object) (word (sight k) c.object) (is_word_told (word (sight k) d.object) w f) (is_word_told (word (sight k) c.object) w e) z)

-- CELLS STAY

-- each word has the clean cell that it had
abbrev pub CellsStay : Cluster → Cluster → Type 0
CellsStay k z = (w : ℕ) → clean_cell (sight z) w ≡ clean_cell (sight k) w

-- the same cells, and the same objects are changed
pub record KeepsClean (k z : Cluster) : Type 0 where
  pub on : (c : Cell) → Among c (cells_in (things_of k)) → Among c (cells_in (things_of z))
  pub back : (c : Cell) → Among c (cells_in (things_of z)) → Among c (cells_in (things_of k))
  pub changed_on : ChangedGo k z
  pub changed_back : ChangedGo z k

-- with the words too, each word has the same clean cell
pub cells_stay : (k z : Cluster) (sound : IsSound k) → HasPlaces k → HasPlaces z → LeavesWords k z → KeepsClean k z → CellsStay k z
cells_stay k z sound c d leaves s w = ap (if_clean (sight z)) found ∙ clean (cell_of_word (sight k).pointers (sight k).ground.cells w)
  where
    words : WordsStay (sight k) (sight z) sound.words.have_words
    words = leaves.words sound.words.have_words

    same_word : (x : Cell) → Among x (cells_in (things_of k)) → word (sight z) x.object ≡ word (sight k) x.object
    same_word x m = told z words.after x (s.on x m) ∙ ap (λ v. Some v) (words.same x.object) ∙ sym (told k sound.words.have_words x m)

    found : cell_of_word (sight z).pointers (sight z).ground.cells w ≡ cell_of_word (sight k).pointers (sight k).ground.cells w
    found =
        found_same (sight k).pointers (sight z).pointers (sight k).ground.cells (sight z).ground.cells w
        (record { on = s.on; back = s.back; words = λ x m. ap (λ v. is_word v w) (same_word x m); one = λ x y m n e f. one_of_word k sound w x y m n e f })

    clean : (x : Option Cell) → if_clean (sight z) x ≡ if_clean (sight k) x
    clean None = refl
    clean (Some x) = ap (λ b. unless_dirty b x) (dirty_same k z c d s.changed_on s.changed_back x.object)

-- cells of one list are those of another in which words see the same
pub cells_on : (code : List Instr) (a b : List Thing) → Within code a b → (c : Cell) → Among c (cells_in a) → Among c (cells_in b)
cells_on code a b w c h = let q = cell_thing a c h in by q.0 q.2 q.1
  where
    by : (y : Thing) → CellOf c y → Among y a → Among c (cells_in b)
    by _ (lying r g) m = thing_cell b c (lies r g c) (lying r g) (w (lies r g c) m)
    by _ (flying v) m = thing_cell b c (flies v c) (flying v) (w (flies v c) m)

-- it goes on from one cluster to the next, where words see the same of both, and where one value goes from one place to another
pub clean_goes : GoesOver KeepsClean
clean_goes = record {
  chain = λ a b c p q. record {
    on = λ x m. q.on x (p.on x m);
    back = λ x m. p.back x (q.back x m);
    changed_on = changed_chain a b c p.changed_on q.changed_on;
    changed_back = changed_chain c b a q.changed_back p.changed_back;
  };
  seen = λ a b c d code s.
      let u = seen_alike a b c d code s in record {
        on = cells_on a.code (things_of a) (things_of b) s.on;
        back = cells_on a.code (things_of b) (things_of a) s.back;
        changed_on = changed_go a b c d u.stands u.took u.takes;
        changed_back = changed_go b a d c (λ l. sym (u.stands l)) u.takes u.took;
      };
  carried = λ a b f g c d firsts cells u. record {
    on = λ x m. subst (λ l. Among x l) (sym cells) m;
    back = λ x m. subst (λ l. Among x l) cells m;
    changed_on = λ q m n. let y = fresh_on a b f g c d firsts u q m n in record { reference = y.0; among = y.1; same = y.2; fresh = y.3 };
    changed_back = λ q m n. let y = fresh_back a b f g c d firsts u q m n in record { reference = y.0; among = y.1; same = y.2; fresh = y.3 };
  };
}

-- words and cells together
abbrev pub Leaves : Cluster → Cluster → Type 0
Leaves k z = LeavesWords k z × KeepsClean k z

pub all_goes : GoesOver Leaves
all_goes = record {
  chain = λ a b c p q. (words_go.chain a b c p.0 q.0, clean_goes.chain a b c p.1 q.1);
  seen = λ a b c d e s. (words_go.seen a b c d e s, clean_goes.seen a b c d e s);
  carried = λ a b f g c d firsts cells u. (words_go.carried a b f g c d firsts cells u, clean_goes.carried a b f g c d firsts cells u);
}
