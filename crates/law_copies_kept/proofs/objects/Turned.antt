-- What becomes of clean cells where each object is what it was, or hidden: under a word that wasn't issued, or changed through a reference, and no copy of it was asked for.
use Rattle.std.proofs.Common.{◌≡◌, ◌⊎◌, inl, inr, ⊎_elim, ℕ, zero, suc, ◌≤◌, ◌+◌, ◌==◌, true, false, List, Option, Some, None, is_some, refl, sym, ap, subst, ◌∙◌, arith}
use Rattle.std.proofs.lemmas.Bool.{eqb-true, eq-eqb}
use Rattle.law_copies_kept.specs.Below.fr_base.declared.name.ObjNo.{ObjNo}
use Rattle.law_copies_kept.specs.Below.heap_partition.declared.value.Cell.{Cell}
use Rattle.law_copies_kept.specs.Below.journal.View.{EntryView}
use Rattle.law_copies_kept.specs.Below.server_msgs.declared.message.Message.{Message}
use Rattle.law_copies_kept.specs.Below.server_msgs.declared.message.Message.TheVariants as message
use Rattle.law_copies_kept.specs.Below.server_model.declared.event.Event.{Event}
use Rattle.law_copies_kept.specs.Below.server_model.Servers.{Cluster}
use Rattle.law_copies_kept.specs.Below.server_model.Clusters.{apply}
use Rattle.law_copies_kept.specs.Below.coherent_memory.Names.{tot, one, other, some, Among}
use Rattle.law_copies_kept.specs.Below.coherent_memory.Things.{Thing, sent, things_of}
use Rattle.law_copies_kept.specs.Below.coherent_memory.Follow.{cells_in}
use Rattle.law_copies_kept.specs.Below.coherent_memory.Stale.{Reference, holder_of}
use Rattle.law_copies_kept.specs.Below.coherent_memory.Sight.{is_word, is_object_among, sight, word, issued}
use Rattle.law_copies_kept.specs.Below.coherent_memory.Words.{HasWords}
use Rattle.law_copies_kept.specs.Below.coherent_memory.Placing.{clean_cell, unclean, unclean_request}
use Rattle.law_copies_kept.specs.Below.coherent_memory.Coherent.{IsSound, Holds, copies_agree}
use Rattle.law_copies_kept.proofs.Below.coherent_memory.Words.{none_at, none_all, told as told_stale}
use Rattle.law_copies_kept.proofs.Below.law_words_paths.paths.Contained.{reference_there}
use Rattle.law_words_borrows.specs.Below.law_words_paths.words.Reworded.{HasPlaces}
use Rattle.law_words_borrows.proofs.Below.law_words_paths.words.Standing.{borrow_stands}
use Rattle.law_copies_kept.specs.Below.law_counts_sums.Laws.{Gives, FewEvents}
use Rattle.law_copies_kept.proofs.Below.law_counts_sums.Results.{both_give}
use Rattle.law_words_borrows.proofs.Below.law_counts_things.things.Messages.{on_sent}
use Rattle.law_copies_kept.proofs.Below.law_results_reads.Flights.{has_weight}
use Rattle.law_copies_kept.specs.copies.Copies.{CellsGoOn, CopiesAreRight}
use Rattle.law_copies_kept.proofs.copies.Clean.{ChangedGo, Leaves, found_by, told, one_of_word}
use Rattle.law_copies_kept.proofs.copies.KeptCopies.{come_from_copies}
use Rattle.law_copies_kept.proofs.references.Asked.{asking}
use Rattle.law_copies_kept.proofs.references.Kept.{has_none, none_before}
use Rattle.law_copies_kept.proofs.references.CleanReads.{finds_word, dirty_one}
use Rattle.law_copies_kept.proofs.references.Worded.{dirty_found, same_truth, clean_told, clean_so, live_issued}

-- REQUESTS

-- no copy is asked for under the word, nor on its way
abbrev pub Unasked : Cluster → ℕ → Type 0
Unasked k v = tot (on_sent (asking (λ u. one (u == v)))) (things_of k) ≡ 0

-- a word under which none is asked for
abbrev idle : Cluster → ℕ → ℕ
idle k v = other (some (tot (on_sent (asking (λ u. one (u == v)))) (things_of k)))

-- a word that has no clean cell, or under which none is asked for
abbrev pub none_or_idle : Cluster → ℕ → ℕ
none_or_idle k v = has_none k v + idle k v

some_one : (n : ℕ) → 1 ≤ n → other (some n) ≡ 0
some_one zero l = absurd (omega (arith, l))
some_one (suc n) l = refl

asked_once : (k : Cluster) (v : ℕ) (x : Thing) → Among x (things_of k) → on_sent (asking (λ u. one (u == v))) x ≡ one (v == v) → idle k v ≡ 0
asked_once k v x i e =
    let f : Thing → ℕ = on_sent (asking (λ u. one (u == v))) in
    let itself : one (v == v) ≡ 1 = ap one (eq-eqb v v refl) in
    some_one (tot f (things_of k)) (omega (arith, has_weight f x (things_of k) i, e, itself))

-- each that is asked for has one
pub none_idle : (k : Cluster) → IsSound k → tot (on_sent (asking (none_or_idle k))) (things_of k) ≡ 0
none_idle k sound = none_all (on_sent (asking (none_or_idle k))) (things_of k) each
  where
    its : (v : ℕ) (x : Thing) → Among x (things_of k) → on_sent (asking (has_none k)) x ≡ has_none k v → on_sent (asking (λ u. one (u == v))) x ≡ one (v == v) → none_or_idle k v ≡ 0
    its v x i e f =
        let clean : has_none k v ≡ 0 = sym e ∙ none_at (on_sent (asking (has_none k))) x (things_of k) (none_before k sound) i in
        omega (arith, clean, asked_once k v x i f)

    by : (n : ℕ) (m : Message) → Among (sent n m) (things_of k) → asking (none_or_idle k) n m ≡ 0
    by n (message.Fetch v o r t) i = its v (sent n (message.Fetch v o r t)) i refl refl
    by n (message.Fetched v c t) i = its v (sent n (message.Fetched v c t)) i refl refl
    by n m i = refl

    each : (x : Thing) → Among x (things_of k) → on_sent (asking (none_or_idle k)) x ≡ 0
    each (sent n m) i = by n m i
    each x i = refl

-- CHANGED OBJECTS

-- an object that is changed through a reference is one where each reference that isn't stale is there
pub dirty_on : (a b : Cluster) → HasPlaces a → ChangedGo a b → (p : ObjNo) → is_object_among p (sight a).dirty ≡ true → is_object_among p (sight b).dirty ≡ true
dirty_on a b places go p e =
    let d = dirty_one p (sight a).stale (things_of a) e in
    let q : Reference = record { at = d.at; holder = holder_of (sight a).ground d.at d.reference.holder; reference = d.reference } in
    let there = reference_there a d.at d.reference (borrow_stands a places d.at d.reference d.among) in
    dirty_found b d.reference p (go q there (λ s. let no : false ≡ true = sym d.fresh ∙ told_stale a (Some d.at) s in absurd cc)) d.object d.dirty

-- so the same are changed where they are the same
pub dirty_kept : (a b : Cluster) → HasPlaces a → HasPlaces b → ChangedGo a b → ChangedGo b a → (p : ObjNo) → is_object_among p (sight b).dirty ≡ is_object_among p (sight a).dirty
dirty_kept a b c d on back p = same_truth (is_object_among p (sight a).dirty) (is_object_among p (sight b).dirty) (dirty_on a b c on p) (dirty_on b a d back p)

-- WHAT BECOMES OF AN OBJECT

-- it has its word, its cell and its mark
pub record Same (k z : Cluster) (before : HasWords (sight k)) (after : HasWords (sight z)) (p : ObjNo) : Type 0 where
  pub word : after.word p ≡ before.word p
  pub on : (c : Cell) → c.object ≡ p → Among c (cells_in (things_of k)) → Among c (cells_in (things_of z))
  pub back : (c : Cell) → c.object ≡ p → Among c (cells_in (things_of z)) → Among c (cells_in (things_of k))
  pub dirty : is_object_among p (sight z).dirty ≡ is_object_among p (sight k).dirty

-- its word wasn't issued, or it has its word and is changed through a reference
pub data Hides (k z : Cluster) (before : HasWords (sight k)) (after : HasWords (sight z)) (p : ObjNo) : Type 0 where
  new_word : issued (sight k) (after.word p) ≡ false → Hides k z before after p
  marked : is_object_among p (sight z).dirty ≡ true → after.word p ≡ before.word p → (c : Cell) → c.object ≡ p → Among c (cells_in (things_of k)) → Hides k z before after p

-- so it is where it has a cell, and of the one that it had no copy was asked for
pub record Hidden (k z : Cluster) (before : HasWords (sight k)) (after : HasWords (sight z)) (p : ObjNo) : Type 0 where
  pub hides : (c : Cell) → c.object ≡ p → Among c (cells_in (things_of z)) → Hides k z before after p
  pub unasked : (c : Cell) → c.object ≡ p → Among c (cells_in (things_of k)) → (is_object_among p (sight k).dirty ≡ true) ⊎ Unasked k (before.word p)

-- each object one or the other
pub record Turned (k z : Cluster) (before : HasWords (sight k)) : Type 0 where
  pub after : HasWords (sight z)
  pub each : (p : ObjNo) → Same k z before after p ⊎ Hidden k z before after p

-- ONE AFTER ANOTHER

module _ (k z d : Cluster) (c : HasPlaces z) (e : HasPlaces d) (before : HasWords (sight k)) (a : Turned k z before) (l : Leaves z d) where
  abbrev stays_after : HasWords (sight d)
  stays_after = ((l.0).words a.after).after

  same_word : (p : ObjNo) → stays_after.word p ≡ a.after.word p
  same_word p = ((l.0).words a.after).same p

  same_mark : (p : ObjNo) → is_object_among p (sight d).dirty ≡ is_object_among p (sight z).dirty
  same_mark p = dirty_kept z d c e (l.1).changed_on (l.1).changed_back p

  same_on : (p : ObjNo) → Same k z before a.after p → Same k d before stays_after p
  same_on p s = record {
    word = same_word p ∙ s.word;
    on = λ x o m. (l.1).on x (s.on x o m);
    back = λ x o m. s.back x o ((l.1).back x m);
    dirty = same_mark p ∙ s.dirty;
  }

  hides_on : (p : ObjNo) → Hides k z before a.after p → Hides k d before stays_after p
  hides_on p (new_word q) = new_word (ap (issued (sight k)) (same_word p) ∙ q)
  hides_on p (marked q w x o m) = marked (same_mark p ∙ q) (same_word p ∙ w) x o m

  -- it is so where words, cells and changed references stay
  pub turned_on : Turned k d before
  turned_on = record {
    after = stays_after;
    each = λ p. ⊎_elim (λ (s : Same k z before a.after p). inl (same_on p s))
        (λ (h : Hidden k z before a.after p). inr (record { hides = λ x o m. hides_on p (h.hides x o ((l.1).back x m)); unasked = h.unasked })) (a.each p);
  }

-- CLEAN CELLS

module _ (k z : Cluster) (sound : IsSound k) (turned : Turned k z sound.words.have_words) where
  abbrev before : HasWords (sight k)
  before = sound.words.have_words

  abbrev after : HasWords (sight z)
  after = turned.after

  abbrev SameOne : ObjNo → Type 0
  SameOne = Same k z before after

  abbrev HiddenOne : ObjNo → Type 0
  HiddenOne = Hidden k z before after

  abbrev cells_k : List Cell
  cells_k = cells_in (things_of k)

  abbrev cells_z : List Cell
  cells_z = cells_in (things_of z)

  word_z : (c : Cell) → Among c cells_z → word (sight z) c.object ≡ Some (after.word c.object)
  word_z c m = told z after c m

  word_k : (c : Cell) → Among c cells_k → word (sight k) c.object ≡ Some (before.word c.object)
  word_k c m = told k before c m

  -- which word it is
  is_z : (c : Cell) (v : ℕ) → Among c cells_z → is_word (word (sight z) c.object) v ≡ true → after.word c.object ≡ v
  is_z c v m h = eqb-true (after.word c.object) v (sym (ap (λ x. is_word x v) (word_z c m)) ∙ h)

  is_k : (c : Cell) (v : ℕ) → Among c cells_k → is_word (word (sight k) c.object) v ≡ true → before.word c.object ≡ v
  is_k c v m h = eqb-true (before.word c.object) v (sym (ap (λ x. is_word x v) (word_k c m)) ∙ h)

  has_k : (c : Cell) (v : ℕ) → Among c cells_k → before.word c.object ≡ v → is_word (word (sight k) c.object) v ≡ true
  has_k c v m e = ap (λ x. is_word x v) (word_k c m) ∙ eq-eqb (before.word c.object) v e

  has_z : (c : Cell) (v : ℕ) → Among c cells_z → after.word c.object ≡ v → is_word (word (sight z) c.object) v ≡ true
  has_z c v m e = ap (λ x. is_word x v) (word_z c m) ∙ eq-eqb (after.word c.object) v e

  -- a cell that was clean
  module _ (v : ℕ) where
    was_clean : (c : Cell) → SameOne c.object → Among c cells_z → is_word (word (sight z) c.object) v ≡ true → is_object_among c.object (sight z).dirty ≡ false → Some c ≡ clean_cell (sight k) v
    was_clean c s n h clean =
        let m = s.back c refl n in
        let has = has_k c v m (sym s.word ∙ is_z c v n h) in
        let d = finds_word (sight k).pointers cells_k v c m has in
        let g = found_by (sight k).pointers cells_k v d.0 d.1 in
        let same : d.0 ≡ c = one_of_word k sound v d.0 c g.among m g.has has in
        sym (clean_so (sight k) v c (d.1 ∙ ap Some same) (sym s.dirty ∙ clean))

    unissued : (p : ObjNo) → Hides k z before after p → after.word p ≡ v → is_object_among p (sight z).dirty ≡ false → issued (sight k) v ≡ false
    unissued p (new_word q) e clean = ap (issued (sight k)) (sym e) ∙ q
    unissued p (marked q w x o m) e clean = let no : true ≡ false = sym q ∙ clean in absurd cc

    told_so : (c : Cell) → clean_cell (sight z) v ≡ Some c → (Some c ≡ clean_cell (sight k) v) ⊎ (issued (sight k) v ≡ false)
    told_so c e =
        let t = clean_told (sight z) v c e in
        let f = found_by (sight z).pointers cells_z v c t.0 in
        ⊎_elim (λ (s : SameOne c.object). inl (was_clean c s f.among f.has t.1)) (λ (h : HiddenOne c.object). inr (unissued c.object (h.hides c refl f.among) (is_z c v f.among f.has) t.1)) (turned.each c.object)

    go_on : (x : Option Cell) → clean_cell (sight z) v ≡ x → (x ≡ clean_cell (sight k) v) ⊎ ((x ≡ None) ⊎ (issued (sight k) v ≡ false))
    go_on None e = inr (inl refl)
    go_on (Some c) e = ⊎_elim (λ (same : Some c ≡ clean_cell (sight k) v). inl same) (λ (new : issued (sight k) v ≡ false). inr (inr new)) (told_so c e)

    -- WHAT IS ASKED FOR

    -- the cell of a word that is asked for stays clean
    module _ (c : Cell) (m : Among c cells_k) (h : is_word (word (sight k) c.object) v ≡ true) (clean : is_object_among c.object (sight k).dirty ≡ false) (s : SameOne c.object) where
      mine : before.word c.object ≡ v
      mine = is_k c v m h

      not_hidden : (p : ObjNo) → after.word p ≡ v → Hides k z before after p → ⊥
      not_hidden p e (new_word q) = let no : true ≡ false = sym (live_issued k sound c m) ∙ ap (issued (sight k)) (mine ∙ sym e) ∙ q in absurd cc
      not_hidden p e (marked q w b o i) =
          let same : c ≡ b = one_of_word k sound v c b m i h (has_k b v i (ap before.word o ∙ sym w ∙ e)) in
          let no : true ≡ false = sym q ∙ ap (λ n. is_object_among n (sight z).dirty) (sym (ap (λ (x : Cell). x.object) same ∙ o)) ∙ s.dirty ∙ clean in
          absurd cc

      -- one that is found is it
      stays_clean : (d : Cell) → Among d cells_z → is_word (word (sight z) d.object) v ≡ true → is_object_among d.object (sight z).dirty ≡ false
      stays_clean d n g =
          ⊎_elim
          (λ (r : SameOne d.object).
          let i = r.back d refl n in
          let same : c ≡ d = one_of_word k sound v c d m i h (has_k d v i (sym r.word ∙ is_z d v n g)) in
          r.dirty ∙ ap (λ (x : Cell). is_object_among x.object (sight k).dirty) (sym same) ∙ clean)
          (λ (r : HiddenOne d.object). absurd (not_hidden d.object (is_z d v n g) (r.hides d refl n))) (turned.each d.object)

      still_found : has_none z v ≡ 0
      still_found =
          let there = s.on c refl m in
          let d = finds_word (sight z).pointers cells_z v c there (has_z c v there (s.word ∙ mine)) in
          let f = found_by (sight z).pointers cells_z v d.0 d.1 in
          ap (λ x. other (is_some x)) (clean_so (sight z) v d.0 d.1 (stays_clean d.0 f.among f.has))

    asked_by : (x : Option Cell) → clean_cell (sight k) v ≡ x → other (is_some x) ≡ 0 → idle k v ≡ 0 → has_none z v ≡ 0
    asked_by None q f i = absurd cc
    asked_by (Some c) q f i =
        let t = clean_told (sight k) v c q in
        let g = found_by (sight k).pointers cells_k v c t.0 in
        ⊎_elim (λ (s : SameOne c.object). still_found c g.among g.has t.1 s)
        (λ (h : HiddenOne c.object).
        ⊎_elim (λ (e : is_object_among c.object (sight k).dirty ≡ true). let no : true ≡ false = sym e ∙ t.1 in absurd cc)
        (λ (u : Unasked k (before.word c.object)).
        let none : Unasked k v = subst (Unasked k) (is_k c v g.among g.has) u in
        let no : other (some 0) ≡ 0 = subst (λ n. other (some n) ≡ 0) none i in
        absurd cc) (h.unasked c refl g.among)) (turned.each c.object)

  -- the clean cell of a word that was issued is what it was, or there is none any more
  pub turned_go_on : CellsGoOn k z
  turned_go_on v = go_on v (clean_cell (sight z) v) refl

  -- and what is asked for is clean
  pub turned_asked : (v : ℕ) → none_or_idle k v ≡ 0 → has_none z v ≡ 0
  turned_asked v e =
      let clean : has_none k v ≡ 0 = omega (arith, e) in
      let asked : idle k v ≡ 0 = omega (arith, e) in
      asked_by v (clean_cell (sight k) v) refl clean asked

  pub turned_clean : tot (on_sent (asking (none_or_idle k))) (things_of z) ≡ 0 → tot (unclean (sight z)) (things_of z) ≡ 0
  turned_clean none = none_all (unclean (sight z)) (things_of z) (λ x i. each x (none_at (on_sent (asking (none_or_idle k))) x (things_of z) none i))
    where
      by : (n : ℕ) (m : Message) → asking (none_or_idle k) n m ≡ 0 → unclean_request (sight z) m ≡ 0
      by n (message.Fetch v o r t) e = turned_asked v e
      by n (message.Fetched v c t) e = turned_asked v e
      by n m e = refl

      each : (x : Thing) → on_sent (asking (none_or_idle k)) x ≡ 0 → unclean (sight z) x ≡ 0
      each (sent n m) e = by n m e
      each x e = refl

-- COPIES ARE RIGHT

module _ (k : Cluster) (e : Event) (sound : IsSound k) (few : FewEvents k) where
  abbrev IsTurned : Cluster × EntryView → Type 0
  IsTurned d = Turned k d.0 sound.words.have_words

  abbrev NoneAsked : Cluster × EntryView → Type 0
  NoneAsked d = tot (on_sent (asking (none_or_idle k))) (things_of d.0) ≡ 0

  -- where objects turn so, and nothing is asked for that may not be
  pub turned_right : Gives IsTurned (apply k e) → Gives NoneAsked (apply k e) → Gives (λ (d : Cluster × EntryView). CopiesAreRight d.0) (apply k e)
  turned_right turns asked =
      both_give IsTurned Both (λ (d : Cluster × EntryView). CopiesAreRight d.0) (apply k e) turns
      (both_give (λ (d : Cluster × EntryView). CellsGoOn k d.0 → Holds d.0 copies_agree) NoneAsked Both (apply k e) (come_from_copies k e sound few) asked (λ d a b. (a, b)))
      (λ d a both. record { agree = both.0 (turned_go_on k d.0 sound a); clean = turned_clean k d.0 sound a both.1 })
    where
      Both : Cluster × EntryView → Type 0
      Both d = (CellsGoOn k d.0 → Holds d.0 copies_agree) × NoneAsked d
