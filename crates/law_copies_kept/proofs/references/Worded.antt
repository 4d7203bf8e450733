-- One object gets a word that wasn't issued, and isn't changed through a reference any more: what becomes of clean cells.
use Rattle.std.proofs.Common.{◌≡◌, ◌⊎◌, inl, inr, ⊎_elim, ℕ, ◌==◌, ◌&&◌, ◌||◌, not, Bool, true, false, if◌then◌else◌, List, [], ◌∷◌, Option, Some, None, is_some, refl, sym, ap, ap₂, subst, ◌∙◌, arith}
use Rattle.std.proofs.lemmas.Bool.{eqb-true, eq-eqb}
use Rattle.std.proofs.lemmas.Bool.Decides.{nat_tests}
use Rattle.std.specs.Prelude.{nat_le}
use Rattle.law_words_borrows.specs.Below.global_addr.Words.{server_of, address_of, colour_of}
use Rattle.law_words_borrows.specs.Below.fr_base.declared.name.ObjNo.{ObjNo}
use Rattle.law_words_borrows.specs.Below.heap_partition.declared.value.Cell.{Cell}
use Rattle.law_words_borrows.specs.Below.mut_borrow.declared.mutable.MutRef.{MutRef}
use Rattle.law_words_borrows.specs.Below.server_model.Servers.{Cluster}
use Rattle.law_words_borrows.specs.Below.coherent_memory.Names.{tot, other, same_object, Among}
use Rattle.law_words_borrows.specs.Below.coherent_memory.Things.{Location, Thing, borrows, lies, flies, things_of}
use Rattle.law_words_borrows.specs.Below.coherent_memory.Follow.{cells_in}
use Rattle.law_words_borrows.specs.Below.coherent_memory.Stale.{Reference, references, is_among, holder_of}
use Rattle.law_words_borrows.specs.Below.coherent_memory.Sight.{Pointer, Sight, pointers_in, taken_pointers, colour_up_to, is_issued_at, is_issued, is_word, cell_of_word, dirty_objects, if_dirty, is_object_among, sight, word, issued}
use Rattle.law_words_borrows.specs.Below.coherent_memory.Words.{IsStale, HasWords}
use Rattle.law_words_borrows.specs.Below.coherent_memory.Placing.{words as words_of, unless_dirty, if_clean, clean_cell}
use Rattle.law_words_borrows.specs.Below.coherent_memory.Coherent.{IsSound}
use Rattle.law_words_borrows.proofs.Below.coherent_memory.Words.{named, itself, none_at, told as told_stale, not_told}
use Rattle.law_words_borrows.proofs.Below.law_words_paths.paths.Sole.{some_is}
use Rattle.law_words_borrows.proofs.Below.law_words_paths.paths.Origins.{among_first}
use Rattle.law_words_borrows.proofs.Below.law_words_paths.paths.Contained.{reference_there}
use Rattle.law_copies_kept.specs.Below.law_words_paths.words.Reworded.{HasPlaces}
use Rattle.law_copies_kept.proofs.Below.law_words_paths.words.Standing.{CellOf, lying, flying, borrow_stands, pointers_among}
use Rattle.law_copies_kept.proofs.Below.law_words_paths.words.Grounds.{of_borrows}
use Rattle.law_copies_kept.specs.copies.Copies.{CellsGoOn}
use Rattle.law_copies_kept.proofs.copies.Clean.{Found, Leaves, cell_thing, found_by, told, one_of_word}
use Rattle.law_copies_kept.proofs.references.Kept.{has_none, places_before}
use Rattle.law_copies_kept.proofs.references.CleanReads.{finds_word, dirty_one}

-- the object has that word and isn't changed through a reference; the other objects have the words that they had, cells are the same, and references to others are dirty where they were
pub record Worded (k z : Cluster) (o : ObjNo) (w : ℕ) (before : HasWords (sight k)) : Type 0 where
  pub after : HasWords (sight z)
  pub new : after.word o ≡ w
  pub others : (p : ObjNo) → (p ≡ o → ⊥) → after.word p ≡ before.word p
  pub on : (c : Cell) → Among c (cells_in (things_of k)) → Among c (cells_in (things_of z))
  pub back : (c : Cell) → Among c (cells_in (things_of z)) → Among c (cells_in (things_of k))
  pub changed_on : (q : Reference) → Among q (references (sight k).ground (things_of k)) → (IsStale (sight k) (Some q.at) → ⊥) → (q.reference.object ≡ o → ⊥) → Found z q.reference
  pub changed_back : (q : Reference) → Among q (references (sight z).ground (things_of z)) → (IsStale (sight z) (Some q.at) → ⊥) → q.reference.dirty ≡ true → (q.reference.object ≡ o → ⊥) × Found k q.reference

-- it stays so where words, cells and changed references stay
pub worded_on : {k z d : Cluster} {o : ObjNo} {w : ℕ} {before : HasWords (sight k)} → Worded k z o w before → Leaves z d → Worded k d o w before
worded_on {k = k} {z = z} {d = d} {o = o} a l =
    let y = (l.0).words a.after in
    let clean = l.1 in record {
      after = y.after;
      new = y.same o ∙ a.new;
      others = λ p n. y.same p ∙ a.others p n;
      on = λ c m. clean.on c (a.on c m);
      back = λ c m. a.back c (clean.back c m);
      changed_on = λ q m n away.
          (let f = a.changed_on q m n away in
          let h = clean.changed_on f.reference f.among f.fresh in
          record { reference = h.reference; among = h.among; same = h.same ∙ f.same; fresh = h.fresh });
      changed_back = λ q m n dirty.
          (let f = clean.changed_back q m n in
          let h = a.changed_back f.reference f.among f.fresh (ap (λ (r : MutRef). r.dirty) f.same ∙ dirty) in
          let g = h.1 in
          (λ e. h.0 (ap (λ (r : MutRef). r.object) f.same ∙ e), record { reference = g.reference; among = g.among; same = g.same ∙ f.same; fresh = g.fresh }));
    }

-- a dirty reference that isn't stale is listed
listed_dirty : (o : ObjNo) (places : List Location) (l : Location) (r : MutRef) (b : List Thing) → Among (borrows l r) b → r.object ≡ o → r.dirty ≡ true → is_among l places ≡ false → is_object_among o (dirty_objects places b) ≡ true
listed_dirty o places l r [] h e d f = absurd h
listed_dirty o places l r (x ∷ b) (inl same) e d f =
    subst (λ z. is_object_among o (dirty_objects places (z ∷ b)) ≡ true) (sym same)
    (subst (λ q. is_object_among o (if_dirty (q && not (is_among l places)) r.object (dirty_objects places b)) ≡ true) (sym d)
    (subst (λ q. is_object_among o (if_dirty (not q) r.object (dirty_objects places b)) ≡ true) (sym f) (ap (λ q. q || is_object_among o (dirty_objects places b)) (itself r.object o e))))
listed_dirty o places l r (borrows m q ∷ b) (inr h) e d f = by (q.dirty && not (is_among m places)) (listed_dirty o places l r b h e d f)
  where
    or_later : (a c : Bool) → c ≡ true → (a || c) ≡ true
    or_later true c z = refl
    or_later false c z = z

    by : (a : Bool) → is_object_among o (dirty_objects places b) ≡ true → is_object_among o (if_dirty a q.object (dirty_objects places b)) ≡ true
    by true z = or_later (same_object q.object o) (is_object_among o (dirty_objects places b)) z
    by false z = z
listed_dirty o places l r (_ ∷ b) (inr h) e d f = listed_dirty o places l r b h e d f

-- one that was found makes its object a changed one
pub dirty_found : (z : Cluster) (r : MutRef) (o : ObjNo) → Found z r → r.object ≡ o → r.dirty ≡ true → is_object_among o (sight z).dirty ≡ true
dirty_found z r o f e d =
    listed_dirty o (sight z).stale f.reference.at f.reference.reference (things_of z) (of_borrows (sight z).ground f.reference (things_of z) f.among).among (ap (λ (q : MutRef). q.object) f.same ∙ e) (ap (λ (q : MutRef). q.dirty) f.same ∙ d)
    (not_told z (Some f.reference.at) f.fresh)

pub same_truth : (p q : Bool) → (p ≡ true → q ≡ true) → (q ≡ true → p ≡ true) → q ≡ p
same_truth true true f g = refl
same_truth false false f g = refl
same_truth true false f g = absurd (cc (f refl))
same_truth false true f g = absurd (cc (g refl))

-- WHAT A CLEAN CELL TELLS

pub clean_told : (s : Sight) (v : ℕ) (c : Cell) → clean_cell s v ≡ Some c → (cell_of_word s.pointers s.ground.cells v ≡ Some c) × (is_object_among c.object s.dirty ≡ false)
clean_told s v c e = by (cell_of_word s.pointers s.ground.cells v) refl e
  where
    at_mark : (d : Cell) → cell_of_word s.pointers s.ground.cells v ≡ Some d → (b : Bool) → is_object_among d.object s.dirty ≡ b → unless_dirty b d ≡ Some c → (cell_of_word s.pointers s.ground.cells v ≡ Some c) × (is_object_among c.object s.dirty ≡ false)
    at_mark d q true m f = absurd cc
    at_mark d q false m f = let same : d ≡ c = some_is f in (q ∙ ap Some same, ap (λ (x : Cell). is_object_among x.object s.dirty) (sym same) ∙ m)

    by : (x : Option Cell) → cell_of_word s.pointers s.ground.cells v ≡ x → if_clean s x ≡ Some c → (cell_of_word s.pointers s.ground.cells v ≡ Some c) × (is_object_among c.object s.dirty ≡ false)
    by None q f = absurd cc
    by (Some d) q f = at_mark d q (is_object_among d.object s.dirty) refl f

pub clean_so : (s : Sight) (v : ℕ) (c : Cell) → cell_of_word s.pointers s.ground.cells v ≡ Some c → is_object_among c.object s.dirty ≡ false → clean_cell s v ≡ Some c
clean_so s v c e d = ap (if_clean s) e ∙ ap (λ b. unless_dirty b c) d

pub objects_differ : (p o : ObjNo) → (p ≡ o) ⊎ (p ≡ o → ⊥)
objects_differ p o = by (same_object p o) refl
  where
    by : (b : Bool) → same_object p o ≡ b → (p ≡ o) ⊎ (p ≡ o → ⊥)
    by true e = inl (named p o e)
    by false e = inr (λ s. let t : true ≡ false = sym (itself p o s) ∙ e in absurd cc)

module _ (k z : Cluster) (sound : IsSound k) (places : HasPlaces z) (o : ObjNo) (w : ℕ) (u : Worded k z o w sound.words.have_words) (fresh : issued (sight k) w ≡ false) where
  abbrev words : HasWords (sight k)
  words = sound.words.have_words

  -- other objects are changed where they were
  dirty_same : (p : ObjNo) → (p ≡ o → ⊥) → is_object_among p (sight z).dirty ≡ is_object_among p (sight k).dirty
  dirty_same p away = same_truth (is_object_among p (sight k).dirty) (is_object_among p (sight z).dirty) on back
    where
      on : is_object_among p (sight k).dirty ≡ true → is_object_among p (sight z).dirty ≡ true
      on e =
          let d = dirty_one p (sight k).stale (things_of k) e in
          let q : Reference = record { at = d.at; holder = holder_of (sight k).ground d.at d.reference.holder; reference = d.reference } in
          let there = reference_there k d.at d.reference (borrow_stands k (places_before k sound) d.at d.reference d.among) in
          dirty_found z d.reference p (u.changed_on q there (λ s. let no : false ≡ true = sym d.fresh ∙ told_stale k (Some d.at) s in absurd cc) (λ e2. away (sym d.object ∙ e2))) d.object d.dirty

      back : is_object_among p (sight z).dirty ≡ true → is_object_among p (sight k).dirty ≡ true
      back e =
          let d = dirty_one p (sight z).stale (things_of z) e in
          let q : Reference = record { at = d.at; holder = holder_of (sight z).ground d.at d.reference.holder; reference = d.reference } in
          let there = reference_there z d.at d.reference (borrow_stands z places d.at d.reference d.among) in
          let f = u.changed_back q there (λ s. let no : false ≡ true = sym d.fresh ∙ told_stale z (Some d.at) s in absurd cc) d.dirty in
          dirty_found k d.reference p f.1 d.object d.dirty

  -- and this one isn't
  now_clean : is_object_among o (sight z).dirty ≡ false
  now_clean = by (is_object_among o (sight z).dirty) refl
    where
      by : (b : Bool) → is_object_among o (sight z).dirty ≡ b → b ≡ false
      by false e = refl
      by true e =
          let d = dirty_one o (sight z).stale (things_of z) e in
          let q : Reference = record { at = d.at; holder = holder_of (sight z).ground d.at d.reference.holder; reference = d.reference } in
          let there = reference_there z d.at d.reference (borrow_stands z places d.at d.reference d.among) in
          let f = u.changed_back q there (λ s. let no : false ≡ true = sym d.fresh ∙ told_stale z (Some d.at) s in absurd cc) d.dirty in
          absurd (f.0 d.object)

  -- the words of cells
  word_z : (c : Cell) → Among c (cells_in (things_of z)) → word (sight z) c.object ≡ Some (u.after.word c.object)
  word_z c m = told z u.after c m

  word_k : (c : Cell) → Among c (cells_in (things_of z)) → word (sight k) c.object ≡ Some (words.word c.object)
  word_k c m = told k words c (u.back c m)

  other_word : (c : Cell) (v : ℕ) → Among c (cells_in (things_of z)) → (c.object ≡ o → ⊥) → is_word (word (sight z) c.object) v ≡ is_word (word (sight k) c.object) v
  other_word c v m away = ap (λ x. is_word x v) (word_z c m ∙ ap Some (u.others c.object away) ∙ sym (word_k c m))

  its_word : (c : Cell) (v : ℕ) → Among c (cells_in (things_of z)) → c.object ≡ o → is_word (word (sight z) c.object) v ≡ true → w ≡ v
  its_word c v m e h =
      let same : word (sight z) c.object ≡ Some w = word_z c m ∙ ap Some (ap u.after.word e ∙ u.new) in
      eqb-true w v (sym (ap (λ x. is_word x v) same) ∙ h)

  -- so the clean cell of a word that was issued is what it was, or there is none any more
  pub cells_go_on : CellsGoOn k z
  cells_go_on v = by (clean_cell (sight z) v) refl
    where
      unissued : w ≡ v → issued (sight k) v ≡ false
      unissued e = ap (issued (sight k)) (sym e) ∙ fresh

      told_so : (c : Cell) → clean_cell (sight z) v ≡ Some c → (Some c ≡ clean_cell (sight k) v) ⊎ (issued (sight k) v ≡ false)
      told_so c e =
          let t = clean_told (sight z) v c e in
          let f = found_by (sight z).pointers (sight z).ground.cells v c t.0 in
          ⊎_elim (λ (same : c.object ≡ o). inr (unissued (its_word c v f.among same f.has)))
          (λ (away : c.object ≡ o → ⊥).
          let m = u.back c f.among in
          let has = sym (other_word c v f.among away) ∙ f.has in
          let d = finds_word (sight k).pointers (sight k).ground.cells v c m has in
          let g = found_by (sight k).pointers (sight k).ground.cells v d.0 d.1 in
          let one : d.0 ≡ c = one_of_word k sound v d.0 c g.among m g.has has in
          inl (sym (clean_so (sight k) v c (d.1 ∙ ap Some one) (sym (dirty_same c.object away) ∙ t.1)))) (objects_differ c.object o)

      by : (x : Option Cell) → clean_cell (sight z) v ≡ x → (x ≡ clean_cell (sight k) v) ⊎ ((x ≡ None) ⊎ (issued (sight k) v ≡ false))
      by None e = inr (inl refl)
      by (Some c) e = ⊎_elim (λ (same : Some c ≡ clean_cell (sight k) v). inl same) (λ (new : issued (sight k) v ≡ false). inr (inr new)) (told_so c e)

-- WORDS THAT WERE ISSUED

issued_by : (colours : ℕ) (ps : List Pointer) (w : ℕ) (x : Thing) (b : List Thing) → Among x b → is_issued_at colours ps w x ≡ true → is_issued colours ps b w ≡ true
issued_by colours ps w x [] h e = absurd h
issued_by colours ps w x (y ∷ b) (inl same) e = ap (λ q. q || is_issued colours ps b w) (subst (λ z. is_issued_at colours ps w z ≡ true) (sym same) e)
issued_by colours ps w x (y ∷ b) (inr h) e = or_later (is_issued_at colours ps w y) (is_issued colours ps b w) (issued_by colours ps w x b h e)
  where
    or_later : (a c : Bool) → c ≡ true → (a || c) ≡ true
    or_later true c z = refl
    or_later false c z = z

is_so : (b : Bool) → other b ≡ 0 → b ≡ true
is_so true e = refl
is_so false e = absurd cc

-- the word of a live object was
pub live_issued : (k : Cluster) (sound : IsSound k) (c : Cell) → Among c (cells_in (things_of k)) → issued (sight k) (sound.words.have_words.word c.object) ≡ true
live_issued k sound c m = let q = cell_thing (things_of k) c m in by q.0 q.2 q.1
  where
    h : HasWords (sight k)
    h = sound.words.have_words

    v : ℕ
    v = h.word c.object

    by : (y : Thing) → CellOf c y → Among y (things_of k) → issued (sight k) v ≡ true
    by _ (lying r a) i =
        let home = h.home r a c i in
        let low : nat_le (colour_of v) (colour_of v) ≡ true = grind (arith, nat_tests) in
        let up : colour_up_to (word (sight k) c.object) v ≡ true = ap (λ o. colour_up_to o v) (told k h c m) ∙ low in
        issued_by (sight k).options.colours (sight k).pointers v (lies r a c) (things_of k) i
        (ap₂ (λ p q. p && q) (ap₂ (λ p q. p && q) (eq-eqb (server_of v) r home.server) (eq-eqb (address_of v) a home.address)) up)
    by _ (flying u) i =
        let all : tot (words_of (λ w. other (issued (sight k) w))) (things_of k) ≡ 0 = sound.words.are_issued in
        let mine = none_at (words_of (λ w. other (issued (sight k) w))) (flies u c) (things_of k) all i in
        let its : issued (sight k) u ≡ true = is_so (issued (sight k) u) (omega (arith, mine)) in
        let p : Pointer = record { at = None; word = u; object = c.object } in
        let same : u ≡ v =
        ⊎_elim (λ (s : ⊥). absurd s) (λ (e : u ≡ h.word c.object). e)
        (h.same p (among_first p (pointers_in (things_of k)) (taken_pointers (sight k).code (sight k).ground (sight k).ground.threads) (pointers_among p (flies u c) (things_of k) i (inl refl)))) in
        ap (issued (sight k)) (sym same) ∙ its

-- REQUESTS

-- a word without a clean cell, but for the new one
abbrev pub has_none_but : Cluster → ℕ → ℕ → ℕ
has_none_but k w v = if w == v then 0 else has_none k v

module _ (k z : Cluster) (sound : IsSound k) (places : HasPlaces z) (o : ObjNo) (w : ℕ) (u : Worded k z o w sound.words.have_words) (fresh : issued (sight k) w ≡ false) (dirty : is_object_among o (sight k).dirty ≡ true) (its : (c : Cell) × Among c (cells_in (things_of k)) × (c.object ≡ o)) where
  -- no other object has the new word
  not_new : (c : Cell) → Among c (cells_in (things_of k)) → is_word (word (sight k) c.object) w ≡ true → ⊥
  not_new c m h =
      let same : sound.words.have_words.word c.object ≡ w = eqb-true (sound.words.have_words.word c.object) w (sym (ap (λ x. is_word x w) (told k sound.words.have_words c m)) ∙ h) in
      let no : false ≡ true = sym fresh ∙ ap (issued (sight k)) (sym same) ∙ live_issued k sound c m in
      absurd cc

  -- a cell with that word afterwards is clean
  found_clean : (v : ℕ) (c d : Cell) → cell_of_word (sight z).pointers (sight z).ground.cells v ≡ Some d → is_object_among d.object (sight z).dirty ≡ false → has_none z v ≡ 0
  found_clean v c d e q = ap (λ x. other (is_some x)) (clean_so (sight z) v d e q)

  new_clean : has_none z w ≡ 0
  new_clean =
      let c = its.0 in
      let there = u.on c its.1 in
      let has : is_word (word (sight z) c.object) w ≡ true = ap (λ x. is_word x w) (told z u.after c there) ∙ eq-eqb (u.after.word c.object) w (ap u.after.word its.2 ∙ u.new) in
      let d = finds_word (sight z).pointers (sight z).ground.cells w c there has in
      let f = found_by (sight z).pointers (sight z).ground.cells w d.0 d.1 in
      ⊎_elim (λ (same : (d.0).object ≡ o). found_clean w c d.0 d.1 (ap (λ p. is_object_among p (sight z).dirty) same ∙ now_clean k z sound places o w u fresh))
      (λ (away : (d.0).object ≡ o → ⊥). absurd (not_new d.0 (u.back d.0 f.among) (sym (other_word k z sound places o w u fresh d.0 w f.among away) ∙ f.has))) (objects_differ (d.0).object o)

  old_clean : (v : ℕ) → has_none k v ≡ 0 → has_none z v ≡ 0
  old_clean v e = by (clean_cell (sight k) v) refl e
    where
      by : (x : Option Cell) → clean_cell (sight k) v ≡ x → other (is_some x) ≡ 0 → has_none z v ≡ 0
      by None q f = absurd cc
      by (Some c) q f =
          let t = clean_told (sight k) v c q in
          let g = found_by (sight k).pointers (sight k).ground.cells v c t.0 in
          let away : c.object ≡ o → ⊥ = λ s. (let no : true ≡ false = sym dirty ∙ ap (λ p. is_object_among p (sight k).dirty) (sym s) ∙ t.1 in absurd cc) in
          let there = u.on c g.among in
          let has = other_word k z sound places o w u fresh c v there away ∙ g.has in
          let d = finds_word (sight z).pointers (sight z).ground.cells v c there has in
          let h = found_by (sight z).pointers (sight z).ground.cells v d.0 d.1 in
          ⊎_elim
          (λ (same : (d.0).object ≡ o).
          let new : w ≡ v = its_word k z sound places o w u fresh d.0 v h.among same h.has in
          absurd (not_new c g.among (subst (λ n. is_word (word (sight k) c.object) n ≡ true) (sym new) g.has)))
          (λ (apart : (d.0).object ≡ o → ⊥).
          let one : c ≡ d.0 = one_of_word k sound v c d.0 g.among (u.back d.0 h.among) g.has (sym (other_word k z sound places o w u fresh d.0 v h.among apart) ∙ h.has) in
          found_clean v c d.0 d.1 (ap (λ (x : Cell). is_object_among x.object (sight z).dirty) (sym one) ∙ dirty_same k z sound places o w u fresh c.object away ∙ t.1)) (objects_differ (d.0).object o)

  -- what is asked for is clean
  pub asked_clean : (v : ℕ) → has_none_but k w v ≡ 0 → has_none z v ≡ 0
  asked_clean v e = by (w == v) refl e
    where
      by : (b : Bool) → (w == v) ≡ b → (if b then 0 else has_none k v) ≡ 0 → has_none z v ≡ 0
      by true q f = subst (λ n. has_none z n ≡ 0) (eqb-true w v q) new_clean
      by false q f = old_clean v f
