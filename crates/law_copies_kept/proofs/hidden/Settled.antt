-- What becomes of clean cells where each object is what it was, or covered: under a word that wasn't issued, changed through a reference, or under a word of which no copy is; and no copy of it was asked for.
use Rattle.std.proofs.Common.{◌≡◌, ◌⊎◌, inl, inr, ⊎_elim, ℕ, ◌≤◌, ◌==◌, true, false, List, [], ◌∷◌, Option, Some, None, is_some, refl, sym, ap, subst, ◌∙◌, arith}
use Rattle.std.proofs.lemmas.Bool.{eqb-true, eq-eqb}
use Rattle.law_copies_kept.specs.Below.fr_base.declared.name.ObjNo.{ObjNo}
use Rattle.law_copies_kept.specs.Below.heap_partition.declared.value.Cell.{Cell}
use Rattle.law_copies_kept.specs.Below.journal.View.{EntryView}
use Rattle.law_copies_kept.specs.Below.server_msgs.declared.message.Message.{Message}
use Rattle.law_copies_kept.specs.Below.server_msgs.declared.message.Message.TheVariants as message
use Rattle.law_copies_kept.specs.Below.server_model.declared.event.Event.{Event}
use Rattle.law_copies_kept.specs.Below.server_model.Servers.{Cluster}
use Rattle.law_copies_kept.specs.Below.server_model.Clusters.{apply}
use Rattle.law_copies_kept.specs.Below.coherent_memory.Names.{tot, one, other, some, Among}
use Rattle.law_copies_kept.specs.Below.coherent_memory.Things.{Thing, sent, things_of}
use Rattle.law_copies_kept.specs.Below.coherent_memory.Follow.{cells_in}
use Rattle.law_copies_kept.specs.Below.coherent_memory.Sight.{is_word, is_object_among, sight, word, issued}
use Rattle.law_copies_kept.specs.Below.coherent_memory.Words.{HasWords}
use Rattle.law_copies_kept.specs.Below.coherent_memory.Placing.{clean_cell, unclean, unclean_request}
use Rattle.law_copies_kept.specs.Below.coherent_memory.Coherent.{IsSound, Holds, copies_agree}
use Rattle.law_copies_kept.proofs.Below.coherent_memory.Words.{none_at, none_all}
use Rattle.law_copies_kept.specs.Below.law_words_paths.words.Reworded.{HasPlaces}
use Rattle.law_copies_kept.specs.Below.law_counts_sums.Laws.{Gives, FewEvents}
use Rattle.law_copies_kept.proofs.Below.law_counts_sums.Results.{both_give}
use Rattle.law_copies_kept.proofs.Below.law_counts_things.things.Messages.{on_sent}
use Rattle.law_copies_kept.specs.copies.Copies.{CopiesAreRight}
use Rattle.law_copies_kept.proofs.copies.Clean.{Leaves, found_by, told, one_of_word}
use Rattle.law_copies_kept.proofs.references.Asked.{asking}
use Rattle.law_copies_kept.proofs.references.Kept.{has_none}
use Rattle.law_copies_kept.proofs.references.CleanReads.{finds_word}
use Rattle.law_copies_kept.proofs.references.Worded.{clean_told, clean_so, live_issued}
use Rattle.law_copies_kept.proofs.objects.Turned.{Unasked, Same, Hides, new_word, marked, Hidden, Turned, dirty_kept, none_or_idle}
use Rattle.law_copies_kept.specs.hidden.Hidden.{sent_under, under_word, NoneUnder, CellsGoOnUnder}
use Rattle.law_copies_kept.proofs.hidden.Under.{come_under}

-- WHAT BECOMES OF AN OBJECT

-- its word wasn't issued, or it has its word and is changed through a reference, or no copy was under its word
pub data Covers (k z : Cluster) (before : HasWords (sight k)) (after : HasWords (sight z)) (p : ObjNo) : Type 0 where
  by_word : issued (sight k) (after.word p) ≡ false → Covers k z before after p
  by_mark : is_object_among p (sight z).dirty ≡ true → after.word p ≡ before.word p → (c : Cell) → c.object ≡ p → Among c (cells_in (things_of k)) → Covers k z before after p
  uncopied : NoneUnder k (after.word p) → Covers k z before after p

-- so it is where it has a cell, and of the one that it had no copy was asked for
pub record Covered (k z : Cluster) (before : HasWords (sight k)) (after : HasWords (sight z)) (p : ObjNo) : Type 0 where
  pub covers : (c : Cell) → c.object ≡ p → Among c (cells_in (things_of z)) → Covers k z before after p
  pub unasked : (c : Cell) → c.object ≡ p → Among c (cells_in (things_of k)) → (is_object_among p (sight k).dirty ≡ true) ⊎ Unasked k (before.word p)

-- each object is what it was, or covered
pub record Settled (k z : Cluster) (before : HasWords (sight k)) : Type 0 where
  pub after : HasWords (sight z)
  pub each : (p : ObjNo) → Same k z before after p ⊎ Covered k z before after p

-- where each turned, it is so
pub turned_settled : (k z : Cluster) (before : HasWords (sight k)) → Turned k z before → Settled k z before
turned_settled k z before t = record {
  after = t.after;
  each = λ p. ⊎_elim (λ (s : Same k z before t.after p). inl s) (λ (h : Hidden k z before t.after p). inr (record { covers = λ c o m. by p (h.hides c o m); unasked = h.unasked })) (t.each p);
}
  where
    by : (p : ObjNo) → Hides k z before t.after p → Covers k z before t.after p
    by p (new_word q) = by_word q
    by p (marked q w c o m) = by_mark q w c o m

-- ONE AFTER ANOTHER

module _ (k z d : Cluster) (c : HasPlaces z) (e : HasPlaces d) (before : HasWords (sight k)) (a : Settled k z before) (l : Leaves z d) where
  abbrev stays_after : HasWords (sight d)
  stays_after = ((l.0).words a.after).after

  same_word : (p : ObjNo) → stays_after.word p ≡ a.after.word p
  same_word p = ((l.0).words a.after).same p

  same_mark : (p : ObjNo) → is_object_among p (sight d).dirty ≡ is_object_among p (sight z).dirty
  same_mark p = dirty_kept z d c e (l.1).changed_on (l.1).changed_back p

  same_on : (p : ObjNo) → Same k z before a.after p → Same k d before stays_after p
  same_on p s = record {
    word = same_word p ∙ s.word;
    on = λ x o m. (l.1).on x (s.on x o m);
    back = λ x o m. s.back x o ((l.1).back x m);
    dirty = same_mark p ∙ s.dirty;
  }

  covers_on : (p : ObjNo) → Covers k z before a.after p → Covers k d before stays_after p
  covers_on p (by_word q) = by_word (ap (issued (sight k)) (same_word p) ∙ q)
  covers_on p (by_mark q w x o m) = by_mark (same_mark p ∙ q) (same_word p ∙ w) x o m
  covers_on p (uncopied q) = uncopied (subst (NoneUnder k) (sym (same_word p)) q)

  -- it is so where words, cells and changed references stay, and what is covered stays so
  pub record GoesOn : Type 0 where
    pub settled : Settled k d before
    pub covers : (p : ObjNo) → Covers k z before a.after p → Covers k d before settled.after p

  pub settled_goes : GoesOn
  settled_goes = record {
    settled = record {
      after = stays_after;
      each = λ p. ⊎_elim (λ (s : Same k z before a.after p). inl (same_on p s))
          (λ (h : Covered k z before a.after p). inr (record { covers = λ x o m. covers_on p (h.covers x o ((l.1).back x m)); unasked = h.unasked })) (a.each p);
    };
    covers = covers_on;
  }

  pub settled_on : Settled k d before
  settled_on = settled_goes.settled

-- REQUESTS

message_asked : (v n : ℕ) (m : Message) → asking (λ u. one (u == v)) n m ≤ sent_under v m
message_asked v n (message.Fetch u o r t) = omega arith
message_asked v n (message.Fetched u c t) = omega arith
message_asked v n m = omega arith

thing_asked : (v : ℕ) (x : Thing) → on_sent (asking (λ u. one (u == v))) x ≤ under_word v x
thing_asked v (sent n m) = message_asked v n m
thing_asked v x = omega arith

all_asked : (v : ℕ) (b : List Thing) → tot (on_sent (asking (λ u. one (u == v)))) b ≤ tot (under_word v) b
all_asked v [] = omega arith
all_asked v (x ∷ b) = omega (arith, thing_asked v x, all_asked v b)

none_zero : (n : ℕ) → n ≡ 0 → other (some n) ≡ 0 → ⊥
none_zero n e f = let no : other (some 0) ≡ 0 = subst (λ m. other (some m) ≡ 0) e f in absurd cc

-- CLEAN CELLS

module _ (k z : Cluster) (sound : IsSound k) (settled : Settled k z sound.words.have_words) where
  abbrev before : HasWords (sight k)
  before = sound.words.have_words

  abbrev after : HasWords (sight z)
  after = settled.after

  abbrev SameOne : ObjNo → Type 0
  SameOne = Same k z before after

  abbrev CoveredOne : ObjNo → Type 0
  CoveredOne = Covered k z before after

  abbrev cells_k : List Cell
  cells_k = cells_in (things_of k)

  abbrev cells_z : List Cell
  cells_z = cells_in (things_of z)

  word_z : (c : Cell) → Among c cells_z → word (sight z) c.object ≡ Some (after.word c.object)
  word_z c m = told z after c m

  word_k : (c : Cell) → Among c cells_k → word (sight k) c.object ≡ Some (before.word c.object)
  word_k c m = told k before c m

  -- which word it is
  is_z : (c : Cell) (v : ℕ) → Among c cells_z → is_word (word (sight z) c.object) v ≡ true → after.word c.object ≡ v
  is_z c v m h = eqb-true (after.word c.object) v (sym (ap (λ x. is_word x v) (word_z c m)) ∙ h)

  is_k : (c : Cell) (v : ℕ) → Among c cells_k → is_word (word (sight k) c.object) v ≡ true → before.word c.object ≡ v
  is_k c v m h = eqb-true (before.word c.object) v (sym (ap (λ x. is_word x v) (word_k c m)) ∙ h)

  has_k : (c : Cell) (v : ℕ) → Among c cells_k → before.word c.object ≡ v → is_word (word (sight k) c.object) v ≡ true
  has_k c v m e = ap (λ x. is_word x v) (word_k c m) ∙ eq-eqb (before.word c.object) v e

  has_z : (c : Cell) (v : ℕ) → Among c cells_z → after.word c.object ≡ v → is_word (word (sight z) c.object) v ≡ true
  has_z c v m e = ap (λ x. is_word x v) (word_z c m) ∙ eq-eqb (after.word c.object) v e

  module _ (v : ℕ) where
    -- a cell that was clean
    was_clean : (c : Cell) → SameOne c.object → Among c cells_z → is_word (word (sight z) c.object) v ≡ true → is_object_among c.object (sight z).dirty ≡ false → Some c ≡ clean_cell (sight k) v
    was_clean c s n h clean =
        let m = s.back c refl n in
        let has = has_k c v m (sym s.word ∙ is_z c v n h) in
        let d = finds_word (sight k).pointers cells_k v c m has in
        let g = found_by (sight k).pointers cells_k v d.0 d.1 in
        let same : d.0 ≡ c = one_of_word k sound v d.0 c g.among m g.has has in
        sym (clean_so (sight k) v c (d.1 ∙ ap Some same) (sym s.dirty ∙ clean))

    -- under a covered one's word none is, if it was issued
    covered_so : (p : ObjNo) → Covers k z before after p → after.word p ≡ v → is_object_among p (sight z).dirty ≡ false → (issued (sight k) v ≡ false) ⊎ NoneUnder k v
    covered_so p (by_word q) e clean = inl (ap (issued (sight k)) (sym e) ∙ q)
    covered_so p (by_mark q w x o m) e clean = let no : true ≡ false = sym q ∙ clean in absurd cc
    covered_so p (uncopied q) e clean = inr (subst (NoneUnder k) e q)

    told_so : (c : Cell) → clean_cell (sight z) v ≡ Some c → (Some c ≡ clean_cell (sight k) v) ⊎ ((issued (sight k) v ≡ false) ⊎ NoneUnder k v)
    told_so c e =
        let t = clean_told (sight z) v c e in
        let f = found_by (sight z).pointers cells_z v c t.0 in
        ⊎_elim (λ (s : SameOne c.object). inl (was_clean c s f.among f.has t.1)) (λ (h : CoveredOne c.object). inr (covered_so c.object (h.covers c refl f.among) (is_z c v f.among f.has) t.1)) (settled.each c.object)

    go_on : (x : Option Cell) → clean_cell (sight z) v ≡ x → (x ≡ clean_cell (sight k) v) ⊎ ((x ≡ None) ⊎ ((issued (sight k) v ≡ false) ⊎ NoneUnder k v))
    go_on None e = inr (inl refl)
    go_on (Some c) e = ⊎_elim (λ (same : Some c ≡ clean_cell (sight k) v). inl same) (λ (new : (issued (sight k) v ≡ false) ⊎ NoneUnder k v). inr (inr new)) (told_so c e)

    -- WHAT IS ASKED FOR

    module _ (asked : other (some (tot (on_sent (asking (λ u. one (u == v)))) (things_of k))) ≡ 0) where
      -- something is under the word
      not_none : NoneUnder k v → ⊥
      not_none none = none_zero (tot (on_sent (asking (λ u. one (u == v)))) (things_of k)) (omega (arith, none, all_asked v (things_of k))) asked

      -- the cell of a word that is asked for stays clean
      module _ (c : Cell) (m : Among c cells_k) (h : is_word (word (sight k) c.object) v ≡ true) (clean : is_object_among c.object (sight k).dirty ≡ false) (s : SameOne c.object) where
        mine : before.word c.object ≡ v
        mine = is_k c v m h

        not_covered : (p : ObjNo) → after.word p ≡ v → Covers k z before after p → ⊥
        not_covered p e (by_word q) = let no : true ≡ false = sym (live_issued k sound c m) ∙ ap (issued (sight k)) (mine ∙ sym e) ∙ q in absurd cc
        not_covered p e (by_mark q w b o i) =
            let same : c ≡ b = one_of_word k sound v c b m i h (has_k b v i (ap before.word o ∙ sym w ∙ e)) in
            let no : true ≡ false = sym q ∙ ap (λ n. is_object_among n (sight z).dirty) (sym (ap (λ (x : Cell). x.object) same ∙ o)) ∙ s.dirty ∙ clean in
            absurd cc
        not_covered p e (uncopied q) = not_none (subst (NoneUnder k) e q)

        -- one that is found is it
        stays_clean : (d : Cell) → Among d cells_z → is_word (word (sight z) d.object) v ≡ true → is_object_among d.object (sight z).dirty ≡ false
        stays_clean d n g =
            ⊎_elim
            (λ (r : SameOne d.object).
            let i = r.back d refl n in
            let same : c ≡ d = one_of_word k sound v c d m i h (has_k d v i (sym r.word ∙ is_z d v n g)) in
            r.dirty ∙ ap (λ (x : Cell). is_object_among x.object (sight k).dirty) (sym same) ∙ clean)
            (λ (r : CoveredOne d.object). absurd (not_covered d.object (is_z d v n g) (r.covers d refl n))) (settled.each d.object)

        still_found : has_none z v ≡ 0
        still_found =
            let there = s.on c refl m in
            let d = finds_word (sight z).pointers cells_z v c there (has_z c v there (s.word ∙ mine)) in
            let f = found_by (sight z).pointers cells_z v d.0 d.1 in
            ap (λ x. other (is_some x)) (clean_so (sight z) v d.0 d.1 (stays_clean d.0 f.among f.has))

      asked_by : (x : Option Cell) → clean_cell (sight k) v ≡ x → other (is_some x) ≡ 0 → has_none z v ≡ 0
      asked_by None q f = absurd cc
      asked_by (Some c) q f =
          let t = clean_told (sight k) v c q in
          let g = found_by (sight k).pointers cells_k v c t.0 in
          ⊎_elim (λ (s : SameOne c.object). still_found c g.among g.has t.1 s)
          (λ (h : CoveredOne c.object).
          ⊎_elim (λ (e : is_object_among c.object (sight k).dirty ≡ true). let no : true ≡ false = sym e ∙ t.1 in absurd cc)
          (λ (u : Unasked k (before.word c.object)). absurd (none_zero (tot (on_sent (asking (λ w. one (w == v)))) (things_of k)) (subst (Unasked k) (is_k c v g.among g.has) u) asked)) (h.unasked c refl g.among)) (settled.each c.object)

  -- the clean cell of a word that was issued and has copies is what it was, or there is none any more
  pub settled_go_on : CellsGoOnUnder k z
  settled_go_on v = go_on v (clean_cell (sight z) v) refl

  -- and what is asked for is clean
  settled_asked : (v : ℕ) → none_or_idle k v ≡ 0 → has_none z v ≡ 0
  settled_asked v e =
      let clean : has_none k v ≡ 0 = omega (arith, e) in
      let asked : other (some (tot (on_sent (asking (λ u. one (u == v)))) (things_of k))) ≡ 0 = omega (arith, e) in
      asked_by v asked (clean_cell (sight k) v) refl clean

  pub settled_clean : tot (on_sent (asking (none_or_idle k))) (things_of z) ≡ 0 → tot (unclean (sight z)) (things_of z) ≡ 0
  settled_clean none = none_all (unclean (sight z)) (things_of z) (λ x i. each x (none_at (on_sent (asking (none_or_idle k))) x (things_of z) none i))
    where
      by : (n : ℕ) (m : Message) → asking (none_or_idle k) n m ≡ 0 → unclean_request (sight z) m ≡ 0
      by n (message.Fetch v o r t) e = settled_asked v e
      by n (message.Fetched v c t) e = settled_asked v e
      by n m e = refl

      each : (x : Thing) → on_sent (asking (none_or_idle k)) x ≡ 0 → unclean (sight z) x ≡ 0
      each (sent n m) e = by n m e
      each x e = refl

-- COPIES ARE RIGHT

module _ (k : Cluster) (e : Event) (sound : IsSound k) (few : FewEvents k) where
  abbrev IsSettled : Cluster × EntryView → Type 0
  IsSettled d = Settled k d.0 sound.words.have_words

  abbrev NoneAsked : Cluster × EntryView → Type 0
  NoneAsked d = tot (on_sent (asking (none_or_idle k))) (things_of d.0) ≡ 0

  -- where each object is what it was, or covered, and nothing is asked for that may not be
  pub settled_right : Gives IsSettled (apply k e) → Gives NoneAsked (apply k e) → Gives (λ (d : Cluster × EntryView). CopiesAreRight d.0) (apply k e)
  settled_right settles asked =
      both_give IsSettled Both (λ (d : Cluster × EntryView). CopiesAreRight d.0) (apply k e) settles
      (both_give (λ (d : Cluster × EntryView). CellsGoOnUnder k d.0 → Holds d.0 copies_agree) NoneAsked Both (apply k e) (come_under k e sound few) asked (λ d a b. (a, b)))
      (λ d a both. record { agree = both.0 (settled_go_on k d.0 sound a); clean = settled_clean k d.0 sound a both.1 })
    where
      Both : Cluster × EntryView → Type 0
      Both d = (CellsGoOnUnder k d.0 → Holds d.0 copies_agree) × NoneAsked d
