-- A mutable reference ends: what becomes fresh has its object's word.
use Rattle.std.proofs.Common.{◌≡◌, ◌≢◌, ◌⊎◌, inl, inr, ⊎_elim, ℕ, ◌==◌, ◌&&◌, ◌||◌, not, Bool, true, false, List, [], ◌∷◌, Option, Some, None, refl, sym, ap, subst, ◌∙◌, arith}
use Rattle.std.proofs.lemmas.Bool.Decides.{nat_tests}
use Rattle.std.specs.Prelude.{⊤}
use Rattle.law_words_paths.specs.Below.fr_base.declared.name.ObjNo.{ObjNo}
use Rattle.law_words_paths.specs.Below.heap_partition.declared.value.Cell.{Cell}
use Rattle.law_words_paths.specs.Below.heap_partition.declared.value.Owned.TheVariants as owned
use Rattle.law_words_paths.specs.Below.mut_borrow.declared.mutable.MutRef.{MutRef}
use Rattle.law_words_paths.specs.Below.mut_borrow.Refs.{changed}
use Rattle.law_words_paths.specs.Below.thread_state.declared.value.Value.{Value}
use Rattle.law_words_paths.specs.Below.thread_state.declared.value.Value.TheVariants as value
use Rattle.law_words_paths.specs.Below.server_model.Servers.{Cluster}
use Rattle.law_words_paths.specs.Below.server_model.Places.{took, with_word}
use Rattle.law_words_paths.specs.Below.coherent_memory.Names.{Among, other, same_object}
use Rattle.law_words_paths.specs.Below.coherent_memory.Things.{Location, lies, things_of}
use Rattle.law_words_paths.specs.Below.coherent_memory.Follow.{Ground, value_in, value_behind}
use Rattle.law_words_paths.specs.Below.coherent_memory.Stale.{Reference, references, holder_of, is_held_at, is_among, with_place, lent_places, changed_above, stale_above, taken_above}
use Rattle.law_words_paths.specs.Below.coherent_memory.Sight.{Pointer, pointers_in, taken_object, taken_pointers, is_stale, sight}
use Rattle.law_words_paths.specs.Below.coherent_memory.Placing.{is_first, other_first, standing_in, standing_pointers}
use Rattle.law_words_paths.specs.Below.coherent_memory.Words.{all_pointers, IsStale, Fresh, HasWords, LeadsTo}
use Rattle.law_words_paths.specs.Below.coherent_memory.Dirty.{IsAlone, DirtyAlone, PastWords}
use Rattle.law_words_paths.specs.Below.coherent_memory.Coherent.{Holds, first_at_holder}
use Rattle.law_words_paths.proofs.Below.coherent_memory.Bags.{among_split}
use Rattle.law_words_paths.proofs.Below.coherent_memory.Words.{none_at, none_all, named, tells as tells_stale, told as told_stale}
use Rattle.law_words_paths.proofs.Below.coherent_memory.Names.{and_left, and_right, same_number}
use Rattle.law_words_paths.proofs.paths.FreshPaths.{held_at}
use Rattle.law_words_paths.proofs.paths.Sole.{some_is}
use Rattle.law_words_paths.proofs.paths.Shown.{none_else}
use Rattle.law_words_paths.proofs.paths.Origins.{among_first, among_second}
use Rattle.law_words_paths.proofs.paths.Contained.{reference_there, held_there}
use Rattle.law_words_paths.specs.words.Reworded.{HasPlaces}
use Rattle.law_words_paths.specs.words.Unmoved.{pointing, takings, WordsStay}
use Rattle.law_words_paths.proofs.words.GoOn.{pointer_to}
use Rattle.law_words_paths.proofs.words.Standing.{pointer_at, tells, told, told_standing, stands_in, borrow_stands}
use Rattle.law_words_paths.proofs.words.Takings.{first_pointing, seen_reference, seen_pointer, lents_are, takens_are, lent_listed, lent_told, taken_listed, taken_told}
use Rattle.law_words_paths.proofs.words.Grounds.{same_place, OfBorrows, of_borrows}
use Rattle.law_words_paths.proofs.words.Words.{taken_nowhere}
use Rattle.law_words_kept.specs.moves.Ended.{GetsBack, as_it_was, its_word, Ended, EndsLeaveWords}

-- POINTERS AND WORDS

one_head : {a b : Pointer} → a ∷ [] ≡ b ∷ [] → a ≡ b
one_head e = cc

only_one : (p q : Pointer) (ps : List Pointer) → ps ≡ q ∷ [] → Among p ps → p ≡ q
only_one p q ps e m = by (subst (λ xs. Among p xs) e m)
  where
    by : Among p (q ∷ []) → p ≡ q
    by (inl s) = sym s
    by (inr s) = absurd s

-- what stands at a reference's holder is a pointer with its first word, to its object
first_pointer : (r : MutRef) (v : Value) (l : Location) → is_first r (Some v) ≡ true → pointer_at l v ≡ pointer_to l r.first r.object ∷ []
first_pointer r (value.Own (owned.Box p)) l e =
    let w = same_number r.first p.word (and_left (r.first == p.word) (same_object r.object p.object) e) in
    let o = named r.object p.object (and_right (r.first == p.word) (same_object r.object p.object) e) in
    ap (λ n. pointer_to l n p.object ∷ []) (sym w) ∙ ap (λ n. pointer_to l r.first n ∷ []) (sym o)
first_pointer r (value.Mut p) l e =
    let w = same_number r.first p.word (and_left (r.first == p.word) (same_object r.object p.object) e) in
    let o = named r.object p.object (and_right (r.first == p.word) (same_object r.object p.object) e) in
    ap (λ n. pointer_to l n p.object ∷ []) (sym w) ∙ ap (λ n. pointer_to l r.first n ∷ []) (sym o)
first_pointer r (value.Own owned.Nothing) l e = absurd cc
first_pointer r (value.Own owned.Unit) l e = absurd cc
first_pointer r (value.Own (owned.Int n)) l e = absurd cc
first_pointer r (value.Own (owned.Mutex m)) l e = absurd cc
first_pointer r (value.Own (owned.Task t)) l e = absurd cc
first_pointer r value.Gone l e = absurd cc
first_pointer r (value.SharedSlot i) l e = absurd cc
first_pointer r (value.MutSlot i) l e = absurd cc
first_pointer r (value.Shared q) l e = absurd cc
first_pointer r (value.Held m) l e = absurd cc

-- another word of the same object
worded_pointer : (w v0 : ℕ) (v new : Value) (l : Location) (o : ObjNo) → with_word w v ≡ Some new → pointer_at l v ≡ pointer_to l v0 o ∷ [] → pointer_at l new ≡ pointer_to l w o ∷ []
worded_pointer w v0 (value.Own (owned.Box p)) new l o e f = ap (pointer_at l) (sym (some_is e)) ∙ ap (λ n. pointer_to l w n ∷ []) (ap (λ (x : Pointer). x.object) (one_head f))
worded_pointer w v0 (value.Mut r) new l o e f = ap (pointer_at l) (sym (some_is e)) ∙ ap (λ n. pointer_to l w n ∷ []) (ap (λ (x : Pointer). x.object) (one_head f))
worded_pointer w v0 (value.Own owned.Nothing) new l o e f = absurd cc
worded_pointer w v0 (value.Own owned.Unit) new l o e f = absurd cc
worded_pointer w v0 (value.Own (owned.Int n)) new l o e f = absurd cc
worded_pointer w v0 (value.Own (owned.Mutex m)) new l o e f = absurd cc
worded_pointer w v0 (value.Own (owned.Task t)) new l o e f = absurd cc
worded_pointer w v0 value.Gone new l o e f = absurd cc
worded_pointer w v0 (value.SharedSlot i) new l o e f = absurd cc
worded_pointer w v0 (value.MutSlot i) new l o e f = absurd cc
worded_pointer w v0 (value.Shared q) new l o e f = absurd cc
worded_pointer w v0 (value.Held m) new l o e f = absurd cc

-- a pointer leads somewhere
no_pointer : (v : Value) (l : Location) (p : Pointer) → pointing (Some v) ≡ None → Among p (pointer_at l v) → ⊥
no_pointer (value.Own (owned.Box b)) l p e h = absurd cc
no_pointer (value.Mut r) l p e h = absurd cc
no_pointer (value.Own owned.Nothing) l p e h = h
no_pointer (value.Own owned.Unit) l p e h = h
no_pointer (value.Own (owned.Int n)) l p e h = h
no_pointer (value.Own (owned.Mutex m)) l p e h = h
no_pointer (value.Own (owned.Task t)) l p e h = h
no_pointer value.Gone l p e h = h
no_pointer (value.SharedSlot i) l p e h = h
no_pointer (value.MutSlot i) l p e h = h
no_pointer (value.Shared r) l p e h = h
no_pointer (value.Held m) l p e h = h

-- CHANGED

same_or_other : (m n : ℕ) → (m ≡ n) ⊎ (m ≢ n)
same_or_other m n = by (m == n) refl
  where
    by : (b : Bool) → (m == n) ≡ b → (m ≡ n) ⊎ (m ≢ n)
    by true e = inl (grind (arith, nat_tests, e))
    by false e = inr (λ q. (let t : true ≡ false = grind (arith, nat_tests, e, q) in absurd cc))

other_word : (r : MutRef) → r.word ≢ r.first → changed r ≡ true
other_word r n = by r.dirty (r.word == r.first) refl
  where
    by : (d b : Bool) → (r.word == r.first) ≡ b → d || not b ≡ true
    by true b e = refl
    by false true e = let q : r.word ≡ r.first = grind (arith, nat_tests, e) in absurd (n q)
    by false false e = refl

unchanged : (r : MutRef) → changed r ≡ false → r.word ≡ r.first
unchanged r e = by r.dirty (r.word == r.first) refl e
  where
    by : (d b : Bool) → (r.word == r.first) ≡ b → d || not b ≡ false → r.word ≡ r.first
    by true b q f = absurd cc
    by false true q f = grind (arith, nat_tests, q)
    by false false q f = absurd cc

clean_unchanged : (r : MutRef) → r.dirty ≡ false → r.word ≡ r.first → changed r ≡ true → ⊥
clean_unchanged r d w e = by r.dirty (r.word == r.first) d refl e
  where
    by : (c b : Bool) → c ≡ false → (r.word == r.first) ≡ b → c || not b ≡ true → ⊥
    by true b p q f = absurd cc
    by false true p q f = absurd cc
    by false false p q f = let t : true ≡ false = grind (arith, nat_tests, q, w) in absurd cc

-- what the pointer at the holder was, where it is a reference: made from the same
pub record Kept (r m m0 : MutRef) : Type 0 where
  pub first : m0.first ≡ m.first
  pub object : m0.object ≡ m.object
  pub holder : m0.holder ≡ m.holder
  pub same : ((r.word ≡ r.first) × (m0 ≡ m)) ⊎ ((r.word ≢ r.first) × (m.dirty ≡ false))

mut_is : (a b : MutRef) → value.Mut a ≡ value.Mut b → a ≡ b
mut_is a b e = cc

kept_by : (r m m0 : MutRef) → (r.word ≢ r.first) → took m0 r.word ≡ m → Kept r m m0
kept_by r m m0 n e = subst (λ x. Kept r x m0) e (record { first = refl; object = refl; holder = refl; same = inr (n, refl) })

kept_same : (r m m0 : MutRef) → r.word ≡ r.first → m0 ≡ m → Kept r m m0
kept_same r m m0 w e = record { first = ap (λ (x : MutRef). x.first) e; object = ap (λ (x : MutRef). x.object) e; holder = ap (λ (x : MutRef). x.holder) e; same = inl (w, e) }

with_word_back : (w : ℕ) (old : Value) (m : MutRef) → with_word w old ≡ Some (value.Mut m) → (m0 : MutRef) × (old ≡ value.Mut m0) × (took m0 w ≡ m)
with_word_back w (value.Mut q) m e = (q, refl, mut_is (took q w) m (some_is e))
with_word_back w (value.Own (owned.Box p)) m e = let f : value.Own (owned.Box (record p { word = w })) ≡ value.Mut m = some_is e in absurd cc
with_word_back w (value.Own owned.Nothing) m e = absurd cc
with_word_back w (value.Own owned.Unit) m e = absurd cc
with_word_back w (value.Own (owned.Int n)) m e = absurd cc
with_word_back w (value.Own (owned.Mutex k)) m e = absurd cc
with_word_back w (value.Own (owned.Task t)) m e = absurd cc
with_word_back w value.Gone m e = absurd cc
with_word_back w (value.SharedSlot i) m e = absurd cc
with_word_back w (value.MutSlot i) m e = absurd cc
with_word_back w (value.Shared q) m e = absurd cc
with_word_back w (value.Held k) m e = absurd cc

back_kept : (r : MutRef) (old new : Value) (m : MutRef) → GetsBack r old new → new ≡ value.Mut m → (m0 : MutRef) × (old ≡ value.Mut m0) × Kept r m m0
back_kept r old new m (as_it_was w e) f = (m, sym e ∙ f, kept_same r m m w refl)
back_kept r old new m (its_word n e) f = let q = with_word_back r.word old m (e ∙ ap Some f) in (q.0, q.1, kept_by r m q.0 n q.2)

on_kept : (r : MutRef) (old new : Value) (m0 : MutRef) → GetsBack r old new → old ≡ value.Mut m0 → (m : MutRef) × (new ≡ value.Mut m) × Kept r m m0
on_kept r old new m0 (as_it_was w e) f = (m0, e ∙ f, kept_same r m0 m0 w refl)
on_kept r old new m0 (its_word n e) f = (took m0 r.word, sym (some_is (sym (ap (with_word r.word) f) ∙ e)), kept_by r (took m0 r.word) m0 n refl)

-- what becomes fresh: the pointer at the holder, and what an unchanged reference that becomes fresh was made from
pub data Regains (rs : List Reference) (h : Location) : Location → Type 0 where
  the_holder : {l : Location} → l ≡ h → Regains rs h l
  joined_to : {l : Location} (q : Reference) → Among q rs → is_held_at l q.holder ≡ true → changed q.reference ≡ false → Regains rs h q.at → Regains rs h l

held_is : (l : Location) (o : Option Location) → is_held_at l o ≡ true → o ≡ Some l
held_is l o e = held_at l o e

module _ (k z : Cluster) (at h : Location) (r : MutRef) (c : HasPlaces k) (d : HasPlaces z) (u : Ended k z at h r) (firsts : Holds k first_at_holder) where
  abbrev gk : Ground
  gk = (sight k).ground

  abbrev gz : Ground
  gz = (sight z).ground

  abbrev rk : List Reference
  rk = references (sight k).ground (things_of k)

  abbrev rz : List Reference
  rz = references (sight z).ground (things_of z)

  abbrev ended : Reference
  ended = record { at = at; holder = holder_of (sight k).ground at r.holder; reference = r }

  ended_among : Among ended rk
  ended_among = reference_there k at r u.stood

  ended_held : is_held_at h ended.holder ≡ true
  ended_held = held_there k h (holder_of gk at r.holder) u.held

  apart : at ≡ h → ⊥
  apart e = u.unmade ended ended_among (held_there k at (holder_of gk at r.holder) (u.held ∙ ap Some (sym e)))

  -- THE POINTER AT THE HOLDER

  old_pointer : pointer_at h u.old ≡ pointer_to h r.first r.object ∷ []
  old_pointer =
      let none : other_first gk ended ≡ 0 = none_at (other_first gk) ended rk firsts ended_among in
      let first : is_first r (value_behind gk (holder_of gk at r.holder)) ≡ true = none_else (is_first r (value_behind gk (holder_of gk at r.holder))) none in
      first_pointer r u.old h (sym (ap (is_first r) (ap (value_behind gk) u.held ∙ u.before)) ∙ first)

  new_pointer : pointer_at h u.new ≡ pointer_to h r.word r.object ∷ []
  new_pointer = by u.back
    where
      by : GetsBack r u.old u.new → pointer_at h u.new ≡ pointer_to h r.word r.object ∷ []
      by (as_it_was w e) = ap (pointer_at h) e ∙ old_pointer ∙ ap (λ n. pointer_to h n r.object ∷ []) (sym w)
      by (its_word n e) = worded_pointer r.word r.first u.old u.new h r.object e old_pointer

  -- REFERENCES

  -- the one that stands in the other cluster, made from the same
  record Other (g : Ground) (rs : List Reference) (q : Reference) (K : MutRef → Type 0) : Type 0 where
    reference : Reference
    among : Among reference rs
    at_same : reference.at ≡ q.at
    holder : reference.holder ≡ q.holder
    first : reference.reference.first ≡ q.reference.first
    object : reference.reference.object ≡ q.reference.object
    elsewhere : (q.at ≡ h → ⊥) → reference.reference ≡ q.reference
    kept : q.at ≡ h → K reference.reference

  -- what stood at the holder
  abbrev Was : Reference → MutRef → Type 0
  Was q m0 = Kept r q.reference m0 × (u.old ≡ value.Mut m0)

  -- it stands there as it was, where the reference that ends has its first word
  abbrev Stays : Reference → MutRef → Type 0
  Stays q m = r.word ≡ r.first → m ≡ q.reference

  not_gone : (q : Reference) → Among q rz → q.at ≡ at → ⊥
  not_gone q m e =
      let b = of_borrows gz q (things_of z) m in
      let f : Some (value.Mut q.reference) ≡ None = sym (ap pointing (borrow_stands z d q.at q.reference b.among)) ∙ ap (λ l. pointing (value_in gz l)) e ∙ u.gone in
      absurd cc

  -- one at the holder
  at_holder : (q : Reference) → Among q rz → q.at ≡ h → (m0 : MutRef) × Was q m0
  at_holder q m e =
      let b = of_borrows gz q (things_of z) m in
      let new : u.new ≡ value.Mut q.reference = some_is (sym u.after ∙ ap (value_in gz) (sym e) ∙ borrow_stands z d q.at q.reference b.among) in
      let y = back_kept r u.old u.new q.reference u.back new in
      (y.0, (y.2, y.1))

  back_reference : (q : Reference) → Among q rz → Other gk rk q (Was q)
  back_reference q m = by (same_place q.at h)
    where
      holder : q.holder ≡ holder_of gz q.at q.reference.holder
      holder = (of_borrows gz q (things_of z) m).holder

      there : (m0 : MutRef) → value_in gk q.at ≡ Some (value.Mut m0) → m0.holder ≡ q.reference.holder → m0.first ≡ q.reference.first → m0.object ≡ q.reference.object → ((q.at ≡ h → ⊥) → m0 ≡ q.reference) → (q.at ≡ h → Was q m0) → Other gk rk q (Was q)
      there m0 e f i j g w = record {
        reference = record { at = q.at; holder = holder_of gk q.at m0.holder; reference = m0 };
        among = reference_there k q.at m0 e;
        at_same = refl;
        holder = sym (u.holders q.at m0 (not_gone q m) e) ∙ ap (holder_of gz q.at) f ∙ sym holder;
        first = i;
        object = j;
        elsewhere = g;
        kept = w;
      }

      by : (q.at ≡ h) ⊎ (q.at ≡ h → ⊥) → Other gk rk q (Was q)
      by (inl e) = let y = at_holder q m e in there y.0 (ap (value_in gk) e ∙ u.before ∙ ap Some y.1.1) y.1.0.holder y.1.0.first y.1.0.object (λ n. absurd (n e)) (λ f. y.1)
      by (inr n) =
          let b = of_borrows gz q (things_of z) m in
          there q.reference (seen_reference (value_in gk q.at) q.reference (sym (u.elsewhere q.at (not_gone q m) n) ∙ ap pointing (borrow_stands z d q.at q.reference b.among))) refl refl refl (λ f. refl) (λ f. absurd (n f))

  on_reference : (q : Reference) → Among q rk → (q.at ≡ at → ⊥) → Other gz rz q (Stays q)
  on_reference q m a = by (same_place q.at h)
    where
      b : OfBorrows gk q (things_of k)
      b = of_borrows gk q (things_of k) m

      stood : value_in gk q.at ≡ Some (value.Mut q.reference)
      stood = borrow_stands k c q.at q.reference b.among

      there : (m1 : MutRef) → value_in gz q.at ≡ Some (value.Mut m1) → m1.holder ≡ q.reference.holder → m1.first ≡ q.reference.first → m1.object ≡ q.reference.object → ((q.at ≡ h → ⊥) → m1 ≡ q.reference) → (q.at ≡ h → Stays q m1) → Other gz rz q (Stays q)
      there m1 e f i j g w = record {
        reference = record { at = q.at; holder = holder_of gz q.at m1.holder; reference = m1 };
        among = reference_there z q.at m1 e;
        at_same = refl;
        holder = ap (holder_of gz q.at) f ∙ u.holders q.at q.reference a stood ∙ sym b.holder;
        first = i;
        object = j;
        elsewhere = g;
        kept = w;
      }

      kept : (m1 : MutRef) → Kept r m1 q.reference → Stays q m1
      kept m1 y w = ⊎_elim (λ (v : (r.word ≡ r.first) × (q.reference ≡ m1)). sym v.1) (λ (v : (r.word ≢ r.first) × (m1.dirty ≡ false)). absurd (v.0 w)) y.same

      by : (q.at ≡ h) ⊎ (q.at ≡ h → ⊥) → Other gz rz q (Stays q)
      by (inl e) =
          let y = on_kept r u.old u.new q.reference u.back (some_is (sym u.before ∙ ap (value_in gk) (sym e) ∙ stood)) in
          there y.0 (ap (value_in gz) e ∙ u.after ∙ ap Some y.1) (sym y.2.holder) (sym y.2.first) (sym y.2.object) (λ n. absurd (n e)) (λ f. kept y.0 y.2)
      by (inr n) = there q.reference (seen_reference (value_in gz q.at) q.reference (u.elsewhere q.at a n ∙ ap pointing stood)) refl refl refl (λ f. refl) (λ f. absurd (n f))

  -- the reference that ends is the one that stands there
  is_ended : (q : Reference) → Among q rk → q.at ≡ at → (q.reference ≡ r) × (q.holder ≡ Some h)
  is_ended q m e =
      let b = of_borrows gk q (things_of k) m in
      let same : q.reference ≡ r = mut_is q.reference r (some_is (sym (borrow_stands k c q.at q.reference b.among) ∙ ap (value_in gk) e ∙ u.stood)) in
      (same, b.holder ∙ ap (λ l. holder_of gk l q.reference.holder) e ∙ ap (λ (x : MutRef). holder_of gk at x.holder) same ∙ u.held)

  -- WHAT THREADS HAVE TAKEN

  lent_on : (l : Location) → is_among l (lent_places k.code gk gk.threads) ≡ true → is_among l (lent_places z.code gz gz.threads) ≡ true
  lent_on l e =
      let y = lent_told gk l (takings k.code gk.threads) (sym (ap (is_among l) (lents_are k.code gk gk.threads)) ∙ e) in
      ap (is_among l) (lents_are z.code gz gz.threads) ∙ lent_listed gz l y.taking (takings z.code gz.threads) (u.took y.taking y.among) (ap (λ m. is_among l (with_place m [])) (u.taken y.taking y.among).1 ∙ y.at)

  lent_back : (l : Location) → is_among l (lent_places z.code gz gz.threads) ≡ true → is_among l (lent_places k.code gk gk.threads) ≡ true
  lent_back l e =
      let y = lent_told gz l (takings z.code gz.threads) (sym (ap (is_among l) (lents_are z.code gz gz.threads)) ∙ e) in
      let m = u.takes y.taking y.among in
      ap (is_among l) (lents_are k.code gk gk.threads) ∙ lent_listed gk l y.taking (takings k.code gk.threads) m (ap (λ n. is_among l (with_place n [])) (sym (u.taken y.taking m).1) ∙ y.at)

  taken_on : (p : Pointer) → Among p (taken_pointers k.code gk gk.threads) → Among p (taken_pointers z.code gz gz.threads)
  taken_on p m =
      let y = taken_told gk p (takings k.code gk.threads) (subst (λ ps. Among p ps) (takens_are k.code gk gk.threads) m) in
      subst (λ ps. Among p ps) (sym (takens_are z.code gz gz.threads))
      (taken_listed gz p y.taking (takings z.code gz.threads) (u.took y.taking y.among) (subst (λ l. Among p (taken_object y.taking.word l)) (sym (u.taken y.taking y.among).0) y.pointer))

  taken_back : (p : Pointer) → Among p (taken_pointers z.code gz gz.threads) → Among p (taken_pointers k.code gk gk.threads)
  taken_back p m =
      let y = taken_told gz p (takings z.code gz.threads) (subst (λ ps. Among p ps) (takens_are z.code gz gz.threads) m) in
      let i = u.takes y.taking y.among in
      subst (λ ps. Among p ps) (sym (takens_are k.code gk gk.threads)) (taken_listed gk p y.taking (takings k.code gk.threads) i (subst (λ l. Among p (taken_object y.taking.word l)) (u.taken y.taking i).0 y.pointer))

  -- WHAT IS STALE

  back_stale : (l : Location) → IsStale (sight z) (Some l) → IsStale (sight k) (Some l)
  back_stale l (changed_above q i held ch) = by (same_place q.at h)
    where
      y : Other gk rk q (Was q)
      y = back_reference q i

      same : y.reference.reference ≡ q.reference → IsStale (sight k) (Some l)
      same e = changed_above y.reference y.among (ap (is_held_at l) y.holder ∙ held) (ap changed e ∙ ch)

      by : (q.at ≡ h) ⊎ (q.at ≡ h → ⊥) → IsStale (sight k) (Some l)
      by (inr n) = same (y.elsewhere n)
      by (inl e) =
          ⊎_elim (λ (v : (r.word ≡ r.first) × (y.reference.reference ≡ q.reference)). same v.1)
          (λ (v : (r.word ≢ r.first) × (q.reference.dirty ≡ false)). stale_above y.reference y.among (ap (is_held_at l) y.holder ∙ held) (subst (λ m. IsStale (sight k) (Some m)) (sym (y.at_same ∙ e)) (changed_above ended ended_among ended_held (other_word r v.0)))) (y.kept e).0.same
  back_stale l (stale_above q i held s) =
      let y = back_reference q i in
      stale_above y.reference y.among (ap (is_held_at l) y.holder ∙ held) (subst (λ m. IsStale (sight k) (Some m)) (sym y.at_same) (back_stale q.at s))
  back_stale l (taken_above m) = taken_above (lent_back l m)

  on_stale : (l : Location) → IsStale (sight k) (Some l) → IsStale (sight z) (Some l) ⊎ Regains rz h l
  on_stale l (changed_above q i held ch) = by (same_place q.at at)
    where
      tested : (a : q.at ≡ at → ⊥) → (y : Other gz rz q (Stays q)) → (b : Bool) → changed y.reference.reference ≡ b → IsStale (sight z) (Some l) ⊎ Regains rz h l
      tested a y true e = inl (changed_above y.reference y.among (ap (is_held_at l) y.holder ∙ held) e)
      tested a y false e =
          ⊎_elim (λ (s : q.at ≡ h). inr (joined_to y.reference y.among (ap (is_held_at l) y.holder ∙ held) e (the_holder (y.at_same ∙ s))))
          (λ (n : q.at ≡ h → ⊥). (let f : true ≡ false = sym ch ∙ sym (ap changed (y.elsewhere n)) ∙ e in absurd cc)) (same_place q.at h)

      by : (q.at ≡ at) ⊎ (q.at ≡ at → ⊥) → IsStale (sight z) (Some l) ⊎ Regains rz h l
      by (inl e) = inr (the_holder (some_is (sym (held_is l q.holder held) ∙ (is_ended q i e).1)))
      by (inr a) = let y = on_reference q i a in tested a y (changed y.reference.reference) refl
  on_stale l (stale_above q i held s) = by (same_place q.at at) (λ f. on_stale q.at s)
    where
      tested : (y : Other gz rz q (Stays q)) → Regains rz h q.at → (b : Bool) → changed y.reference.reference ≡ b → IsStale (sight z) (Some l) ⊎ Regains rz h l
      tested y g true e = inl (changed_above y.reference y.among (ap (is_held_at l) y.holder ∙ held) e)
      tested y g false e = inr (joined_to y.reference y.among (ap (is_held_at l) y.holder ∙ held) e (subst (λ m. Regains rz h m) (sym y.at_same) g))

      by : (q.at ≡ at) ⊎ (q.at ≡ at → ⊥) → (⊤ → IsStale (sight z) (Some q.at) ⊎ Regains rz h q.at) → IsStale (sight z) (Some l) ⊎ Regains rz h l
      by (inl e) go = absurd (u.fresh (subst (λ m. IsStale (sight k) (Some m)) e s))
      by (inr a) go =
          let y = on_reference q i a in
          ⊎_elim (λ (t : IsStale (sight z) (Some q.at)). inl (stale_above y.reference y.among (ap (is_held_at l) y.holder ∙ held) (subst (λ m. IsStale (sight z) (Some m)) (sym y.at_same) t)))
          (λ (g : Regains rz h q.at). tested y g (changed y.reference.reference) refl) (go tt)
  on_stale l (taken_above m) = inl (taken_above (lent_on l m))

  -- where the reference that ends has its first word, nothing becomes fresh
  all_stale : r.word ≡ r.first → (l : Location) → IsStale (sight k) (Some l) → IsStale (sight z) (Some l)
  all_stale w l (changed_above q i held ch) = by (same_place q.at at)
    where
      same_there : (a : q.at ≡ at → ⊥) → (y : Other gz rz q (Stays q)) → (q.at ≡ h) ⊎ (q.at ≡ h → ⊥) → y.reference.reference ≡ q.reference
      same_there a y (inl e) = y.kept e w
      same_there a y (inr n) = y.elsewhere n

      by : (q.at ≡ at) ⊎ (q.at ≡ at → ⊥) → IsStale (sight z) (Some l)
      by (inl e) = absurd (clean_unchanged r u.clean w (sym (ap changed (is_ended q i e).0) ∙ ch))
      by (inr a) = let y = on_reference q i a in changed_above y.reference y.among (ap (is_held_at l) y.holder ∙ held) (ap changed (same_there a y (same_place q.at h)) ∙ ch)
  all_stale w l (stale_above q i held s) = by (same_place q.at at) (λ f. all_stale w q.at s)
    where
      by : (q.at ≡ at) ⊎ (q.at ≡ at → ⊥) → (⊤ → IsStale (sight z) (Some q.at)) → IsStale (sight z) (Some l)
      by (inl e) go = absurd (u.fresh (subst (λ m. IsStale (sight k) (Some m)) e s))
      by (inr a) go = let y = on_reference q i a in stale_above y.reference y.among (ap (is_held_at l) y.holder ∙ held) (subst (λ m. IsStale (sight z) (Some m)) (sym y.at_same) (go tt))
  all_stale w l (taken_above m) = taken_above (lent_on l m)

  -- the holder's pointer isn't stale
  holder_fresh : IsStale (sight z) (Some h) → ⊥
  holder_fresh (changed_above q i held ch) = let y = back_reference q i in not_gone q i (sym y.at_same ∙ u.only y.reference y.among (ap (is_held_at h) y.holder ∙ held))
  holder_fresh (stale_above q i held s) = let y = back_reference q i in not_gone q i (sym y.at_same ∙ u.only y.reference y.among (ap (is_held_at h) y.holder ∙ held))
  holder_fresh (taken_above m) = u.untaken (lent_back h m)

  -- POINTERS

  holder_pointer : Among (pointer_to h r.word r.object) (all_pointers (sight z))
  holder_pointer = among_first (pointer_to h r.word r.object) (pointers_in (things_of z)) (taken_pointers z.code gz gz.threads) (told z h u.new (pointer_to h r.word r.object) u.after (subst (λ ps. Among (pointer_to h r.word r.object) ps) (sym new_pointer) (inl refl)))

  at_the_holder : (p : Pointer) → Among p (pointers_in (things_of z)) → p.at ≡ Some h → p ≡ pointer_to h r.word r.object
  at_the_holder p m e =
      let t = tells z d p h m e in
      only_one p (pointer_to h r.word r.object) (pointer_at h t.value) (ap (pointer_at h) (some_is (sym t.stands ∙ u.after)) ∙ new_pointer) t.pointer

  not_there : (p : Pointer) → Among p (pointers_in (things_of z)) → p.at ≡ Some at → ⊥
  not_there p m e = let t = tells z d p at m e in no_pointer t.value at p (sym (ap pointing t.stands) ∙ u.gone) t.pointer

  stood_in : (p : Pointer) (l : Location) → Among p (pointers_in (things_of z)) → p.at ≡ Some l → (l ≡ h → ⊥) → Among p (standing_in (things_of k))
  stood_in p l m e n =
      let t = tells z d p l m e in
      let a : l ≡ at → ⊥ = λ q. not_there p m (e ∙ ap Some q) in
      told_standing k l t.value p (seen_pointer (value_in gk l) t.value l p (sym (u.elsewhere l a n) ∙ ap pointing t.stands) t.pointer) t.pointer

  stands_on : (p : Pointer) (l : Location) → Among p (pointers_in (things_of k)) → p.at ≡ Some l → (l ≡ at → ⊥) → (l ≡ h → ⊥) → Among p (pointers_in (things_of z))
  stands_on p l m e a n =
      let t = tells k c p l m e in
      told z l t.value p (seen_pointer (value_in gz l) t.value l p (u.elsewhere l a n ∙ ap pointing t.stands) t.pointer) t.pointer

  -- FIRST WORDS

  first_there : (q : Reference) → Among q rz → is_first q.reference (value_behind gz q.holder) ≡ true
  first_there q m = by q.holder refl
    where
      y : Other gk rk q (Was q)
      y = back_reference q m

      was : is_first y.reference.reference (value_behind gk y.reference.holder) ≡ true
      was = none_else (is_first y.reference.reference (value_behind gk y.reference.holder)) (none_at (other_first gk) y.reference rk firsts y.among)

      same_first : (a b : MutRef) (v : Option Value) → a.first ≡ b.first → a.object ≡ b.object → is_first a v ≡ is_first b v
      same_first a b (Some (value.Own (owned.Box p))) e f = ap (λ n. n == p.word && same_object a.object p.object) e ∙ ap (λ n. b.first == p.word && same_object n p.object) f
      same_first a b (Some (value.Mut p)) e f = ap (λ n. n == p.word && same_object a.object p.object) e ∙ ap (λ n. b.first == p.word && same_object n p.object) f
      same_first a b _ e f = refl

      moved : (v : Option Location) → q.holder ≡ v → is_first q.reference (value_behind gk v) ≡ true
      moved v e = sym (same_first y.reference.reference q.reference (value_behind gk v) y.first y.object) ∙ sym (ap (λ n. is_first y.reference.reference (value_behind gk n)) (y.holder ∙ e)) ∙ was

      by : (v : Option Location) → q.holder ≡ v → is_first q.reference (value_behind gz v) ≡ true
      by None e = moved None e
      by (Some l) e =
          let a : l ≡ at → ⊥ = λ s. u.unmade y.reference y.among (held_there k at y.reference.holder (y.holder ∙ e ∙ ap Some s)) in
          let n : l ≡ h → ⊥ = λ s. not_gone q m (sym y.at_same ∙ u.only y.reference y.among (held_there k h y.reference.holder (y.holder ∙ e ∙ ap Some s))) in
          sym (first_pointing q.reference (value_in gz l)) ∙ ap (is_first q.reference) (u.elsewhere l a n) ∙ first_pointing q.reference (value_in gk l) ∙ moved (Some l) e

  pub holders_stay : Holds z first_at_holder
  holders_stay = none_all (other_first gz) rz (λ q m. ap other (by q m))
    where
      by : (q : Reference) → Among q rz → is_first q.reference (value_behind gz q.holder) ≡ true
      by q m = first_there q m

  -- what becomes fresh has the word
  regains_word : (l : Location) → Regains rz h l → (p : Pointer) → Among p (pointers_in (things_of z)) → p.at ≡ Some l → (p.word ≡ r.word) × (p.object ≡ r.object)
  regains_word l (the_holder e) p m f = let q = at_the_holder p m (f ∙ ap Some e) in (ap (λ (x : Pointer). x.word) q, ap (λ (x : Pointer). x.object) q)
  regains_word l (joined_to q i held un rest) p m f =
      let b = of_borrows gz q (things_of z) i in
      let stands : value_in gz q.at ≡ Some (value.Mut q.reference) = borrow_stands z d q.at q.reference b.among in
      let mine : Pointer = record { at = Some q.at; word = q.reference.word; object = q.reference.object } in
      let above = regains_word q.at rest mine (told z q.at (value.Mut q.reference) mine stands (inl refl)) refl in
      let first : is_first q.reference (value_in gz l) ≡ true = sym (ap (λ o. is_first q.reference (value_behind gz o)) (held_is l q.holder held)) ∙ first_there q i in
      let t = tells z d p l m f in
      let is : p ≡ pointer_to l q.reference.first q.reference.object = only_one p (pointer_to l q.reference.first q.reference.object) (pointer_at l t.value) (first_pointer q.reference t.value l (sym (ap (is_first q.reference) t.stands) ∙ first)) t.pointer in
      (ap (λ (x : Pointer). x.word) is ∙ sym (unchanged q.reference un) ∙ above.0, ap (λ (x : Pointer). x.object) is ∙ above.1)

  -- WORDS

  module _ (b : HasWords (sight k)) where
    ended_pointer : Among (pointer_to at r.word r.object) (all_pointers (sight k))
    ended_pointer = among_first (pointer_to at r.word r.object) (pointers_in (things_of k)) (taken_pointers k.code gk gk.threads) (told k at (value.Mut r) (pointer_to at r.word r.object) u.stood (inl refl))

    its : r.word ≡ b.word r.object
    its = ⊎_elim (λ (s : IsStale (sight k) (Some at)). absurd (u.fresh s)) (λ (e : r.word ≡ b.word r.object). e) (b.same (pointer_to at r.word r.object) ended_pointer)

    of_it : (p : Pointer) → (p.word ≡ r.word) × (p.object ≡ r.object) → p.word ≡ b.word p.object
    of_it p e = e.0 ∙ its ∙ ap b.word (sym e.1)

    same : (p : Pointer) → Among p (all_pointers (sight z)) → IsStale (sight z) p.at ⊎ (p.word ≡ b.word p.object)
    same p m =
        ⊎_elim (λ (q : Among p (pointers_in (things_of z))). by p.at refl q)
        (λ (q : Among p (taken_pointers z.code gz gz.threads)). untold (b.same p (among_second p (pointers_in (things_of k)) (taken_pointers k.code gk gk.threads) (taken_back p q))) (taken_nowhere z.code gz gz.threads p q))
        (among_split p (pointers_in (things_of z)) (taken_pointers z.code gz gz.threads) m)
      where
        untold : IsStale (sight k) p.at ⊎ (p.word ≡ b.word p.object) → p.at ≡ None → IsStale (sight z) p.at ⊎ (p.word ≡ b.word p.object)
        untold (inl s) e = let f : ⊥ = subst (λ l. IsStale (sight k) l) e s in absurd f
        untold (inr e) f = inr e

        placed : (l : Location) → p.at ≡ Some l → Among p (pointers_in (things_of z)) → IsStale (sight k) p.at ⊎ (p.word ≡ b.word p.object) → IsStale (sight z) p.at ⊎ (p.word ≡ b.word p.object)
        placed l e q (inr f) = inr f
        placed l e q (inl s) =
            ⊎_elim (λ (t : IsStale (sight z) (Some l)). inl (subst (λ m. IsStale (sight z) m) (sym e) t)) (λ (g : Regains rz h l). inr (of_it p (regains_word l g p q e))) (on_stale l (subst (λ m. IsStale (sight k) m) e s))

        by : (l : Option Location) → p.at ≡ l → Among p (pointers_in (things_of z)) → IsStale (sight z) p.at ⊎ (p.word ≡ b.word p.object)
        by None e q = untold (b.same p (among_first p (pointers_in (things_of k)) (taken_pointers k.code gk gk.threads) (u.loose p e q))) e
        by (Some l) e q =
            ⊎_elim (λ (s : l ≡ h). inr (of_it p (regains_word l (the_holder s) p q e)))
            (λ (n : l ≡ h → ⊥). placed l e q (b.same p (among_first p (pointers_in (things_of k)) (taken_pointers k.code gk gk.threads) (stands_in p (things_of k) (stood_in p l q e n))))) (same_place l h)

    live : (m a : ℕ) (e : Cell) → Among (lies m a e) (things_of z) → Fresh (sight z) e.object
    live m a e i =
        let y = u.lay m a e i in
        let f = subst (λ o. Fresh (sight k) o) y.object (b.live m a y.cell y.among) in
        ⊎_elim (λ (q : Among f.pointer (pointers_in (things_of k))). by f f.pointer.at refl q)
        (λ (q : Among f.pointer (taken_pointers k.code gk gk.threads)).
        record { pointer = f.pointer; among = among_second f.pointer (pointers_in (things_of z)) (taken_pointers z.code gz gz.threads) (taken_on f.pointer q); object = f.object; fresh = nowhere f.pointer.at (taken_nowhere k.code gk gk.threads f.pointer q) })
        (among_split f.pointer (pointers_in (things_of k)) (taken_pointers k.code gk gk.threads) f.among)
      where
        nowhere : (l : Option Location) → l ≡ None → IsStale (sight z) l → ⊥
        nowhere l n s = subst (λ x. IsStale (sight z) x) n s

        at_h : r.object ≡ e.object → Fresh (sight z) e.object
        at_h o = record { pointer = pointer_to h r.word r.object; among = holder_pointer; object = o; fresh = holder_fresh }

        by : (f : Fresh (sight k) e.object) (l : Option Location) → f.pointer.at ≡ l → Among f.pointer (pointers_in (things_of k)) → Fresh (sight z) e.object
        by f None n q = record { pointer = f.pointer; among = among_first f.pointer (pointers_in (things_of z)) (taken_pointers z.code gz gz.threads) (u.remain f.pointer n q); object = f.object; fresh = nowhere f.pointer.at n }
        by f (Some l) n q =
            ⊎_elim
            (λ (s : l ≡ at).
            let t = tells k c f.pointer l q n in
            let is : t.value ≡ value.Mut r = some_is (sym t.stands ∙ ap (value_in gk) s ∙ u.stood) in
            let p = only_one f.pointer (pointer_to l r.word r.object) (pointer_at l t.value) (ap (pointer_at l) is) t.pointer in
            at_h (sym (ap (λ (x : Pointer). x.object) p) ∙ f.object))
            (λ (a : l ≡ at → ⊥).
            ⊎_elim
            (λ (s : l ≡ h).
            let t = tells k c f.pointer h q (n ∙ ap Some s) in
            let p = only_one f.pointer (pointer_to h r.first r.object) (pointer_at h t.value) (ap (pointer_at h) (some_is (sym t.stands ∙ u.before)) ∙ old_pointer) t.pointer in
            at_h (sym (ap (λ (x : Pointer). x.object) p) ∙ f.object))
            (λ (x : l ≡ h → ⊥).
            record {
              pointer = f.pointer;
              among = among_first f.pointer (pointers_in (things_of z)) (taken_pointers z.code gz gz.threads) (stands_on f.pointer l q n a x);
              object = f.object;
              fresh = λ s. f.fresh (subst (λ m. IsStale (sight k) m) (sym n) (back_stale l (subst (λ m. IsStale (sight z) m) n s)));
            }) (same_place l h)) (same_place l at)

    home : (m a : ℕ) (e : Cell) → Among (lies m a e) (things_of z) → LeadsTo m a (b.word e.object)
    home m a e i = let y = u.lay m a e i in subst (λ o. LeadsTo m a (b.word o)) y.object (b.home m a y.cell y.among)

    pub words_stay : WordsStay (sight k) (sight z) b
    words_stay = record { after = record { word = b.word; same = same; live = live; home = home }; same = λ p. refl }

    -- WHAT WAS BEFORE THE WORDS OF TODAY

    module _ (past : PastWords (sight k)) where
      here : (q : Reference) → Among q rz → q.at ≡ h → (q.reference.word ≡ r.word) × (q.reference.object ≡ r.object)
      here q i e =
          let p : Pointer = record { at = Some q.at; word = q.reference.word; object = q.reference.object } in
          regains_word q.at (the_holder e) p (told z q.at (value.Mut q.reference) p (borrow_stands z d q.at q.reference (of_borrows gz q (things_of z) i).among) (inl refl)) refl

      -- a word that the holder's reference gets isn't its first one
      other_now : (q : Reference) → (i : Among q rz) → q.at ≡ h → (y : Other gk rk q (Was q)) → (u.old ≡ value.Mut y.reference.reference) → r.word ≢ r.first → q.reference.word ≢ q.reference.first
      other_now q i e y stood n s =
          ⊎_elim (λ (v : y.reference.reference.word ≡ y.reference.reference.first). n (now_first ∙ sym v ∙ ap (λ (x : Pointer). x.word) was_pointer))
          (λ (v : y.reference.reference.word ≢ y.reference.reference.first). past y.reference y.among v (pointer_to at r.word r.object) ended_pointer u.fresh (sym (ap (λ (x : Pointer). x.object) was_pointer)) now_first)
          (same_or_other y.reference.reference.word y.reference.reference.first)
        where
          was_pointer : record { at = Some h; word = y.reference.reference.word; object = y.reference.reference.object } ≡ pointer_to h r.first r.object
          was_pointer = one_head (sym (ap (pointer_at h) stood) ∙ old_pointer)

          now_first : r.word ≡ y.reference.reference.first
          now_first = sym (here q i e).0 ∙ s ∙ sym y.first

      -- where it has another word, only the holder's pointer becomes fresh: a reference there has another word than its first one
      only_holder : (l : Location) → r.word ≢ r.first → Regains rz h l → l ≡ h
      only_holder l n (the_holder e) = e
      only_holder l n (joined_to q i held un g) =
          let e = only_holder q.at n g in
          let y = back_reference q i in
          absurd (other_now q i e y (y.kept e).1 n (unchanged q.reference un))

      -- so what was stale is stale, but for the holder's pointer
      stale_on : (l : Location) → IsStale (sight k) (Some l) → IsStale (sight z) (Some l) ⊎ (l ≡ h)
      stale_on l s = by (same_or_other r.word r.first)
        where
          by : (r.word ≡ r.first) ⊎ (r.word ≢ r.first) → IsStale (sight z) (Some l) ⊎ (l ≡ h)
          by (inl w) = inl (all_stale w l s)
          by (inr n) = ⊎_elim (λ (t : IsStale (sight z) (Some l)). inl t) (λ (g : Regains rz h l). inr (only_holder l n g)) (on_stale l s)

      -- before, a pointer to its object with its word wasn't stale
      record Stood (p : Pointer) : Type 0 where
        pointer : Pointer
        among : Among pointer (all_pointers (sight k))
        fresh : IsStale (sight k) pointer.at → ⊥
        word : pointer.word ≡ p.word
        object : pointer.object ≡ p.object

      the_ended : (p : Pointer) → (p.word ≡ r.word) × (p.object ≡ r.object) → Stood p
      the_ended p e = record { pointer = pointer_to at r.word r.object; among = ended_pointer; fresh = u.fresh; word = sym e.0; object = sym e.1 }

      as_it_is : (p : Pointer) → Among p (all_pointers (sight k)) → (IsStale (sight k) p.at → ⊥) → Stood p
      as_it_is p m f = record { pointer = p; among = m; fresh = f; word = refl; object = refl }

      stale_or_not : (l : Option Location) → IsStale (sight k) l ⊎ (IsStale (sight k) l → ⊥)
      stale_or_not l = by (is_stale (sight k).stale l) refl
        where
          by : (b : Bool) → is_stale (sight k).stale l ≡ b → IsStale (sight k) l ⊎ (IsStale (sight k) l → ⊥)
          by true e = inl (tells_stale k l e)
          by false e = inr (λ s. let t : true ≡ false = sym (told_stale k l s) ∙ e in absurd cc)

      stood : (p : Pointer) → Among p (all_pointers (sight z)) → (IsStale (sight z) p.at → ⊥) → Stood p
      stood p m f =
          ⊎_elim (λ (q : Among p (pointers_in (things_of z))). by p.at refl q)
          (λ (q : Among p (taken_pointers z.code gz gz.threads)). as_it_is p (among_second p (pointers_in (things_of k)) (taken_pointers k.code gk gk.threads) (taken_back p q)) (nowhere (taken_nowhere z.code gz gz.threads p q)))
          (among_split p (pointers_in (things_of z)) (taken_pointers z.code gz gz.threads) m)
        where
          nowhere : p.at ≡ None → IsStale (sight k) p.at → ⊥
          nowhere e s = subst (λ l. IsStale (sight k) l) e s

          at_place : (l : Location) → p.at ≡ Some l → Among p (pointers_in (things_of z)) → (l ≡ h) ⊎ (l ≡ h → ⊥) → Stood p
          at_place l e q (inl s) = the_ended p (regains_word l (the_holder s) p q e)
          at_place l e q (inr n) =
              ⊎_elim
              (λ (s : IsStale (sight k) (Some l)). ⊎_elim (λ (t : IsStale (sight z) (Some l)). absurd (f (subst (λ y. IsStale (sight z) y) (sym e) t))) (λ (g : Regains rz h l). the_ended p (regains_word l g p q e)) (on_stale l s))
              (λ (s : IsStale (sight k) (Some l) → ⊥).
              as_it_is p (among_first p (pointers_in (things_of k)) (taken_pointers k.code gk gk.threads) (stands_in p (things_of k) (stood_in p l q e n))) (λ x. s (subst (λ y. IsStale (sight k) y) e x))) (stale_or_not (Some l))

          by : (l : Option Location) → p.at ≡ l → Among p (pointers_in (things_of z)) → Stood p
          by None e q = as_it_is p (among_first p (pointers_in (things_of k)) (taken_pointers k.code gk gk.threads) (u.loose p e q)) (nowhere e)
          by (Some l) e q = at_place l e q (same_place l h)

      pub past_stays : PastWords (sight z)
      past_stays a i n p m f e = by (same_place a.at h)
        where
          y : Other gk rk a (Was a)
          y = back_reference a i

          as_before : y.reference.reference ≡ a.reference → p.word ≢ a.reference.first
          as_before s w =
              let g = stood p m f in
              past y.reference y.among (λ x. n (sym (ap (λ (q : MutRef). q.word) s) ∙ x ∙ ap (λ (q : MutRef). q.first) s)) g.pointer g.among g.fresh (g.object ∙ e ∙ sym y.object) (g.word ∙ w ∙ sym y.first)

          now : (a.at ≡ h) → p.word ≢ a.reference.first
          now s w =
              let q = here a i s in
              ⊎_elim f (λ (x : p.word ≡ b.word p.object). n (q.0 ∙ its ∙ ap b.word (sym q.1 ∙ sym e) ∙ sym x ∙ w)) (same p m)

          by : (a.at ≡ h) ⊎ (a.at ≡ h → ⊥) → p.word ≢ a.reference.first
          by (inr s) = as_before (y.elsewhere s)
          by (inl s) = now s

    -- DIRTY REFERENCES

    module _ (past : PastWords (sight k)) (alone : DirtyAlone (sight k)) (q : Reference) (m : Among q rz) (dirty : q.reference.dirty ≡ true) (fresh : IsStale (sight z) (Some q.at) → ⊥) where
      y : Other gk rk q (Was q)
      y = back_reference q m

      -- it doesn't stand at the holder
      not_holder : q.at ≡ h → ⊥
      not_holder e = by (y.kept e).0.same
        where
          holder_stale : r.word ≡ r.first → IsStale (sight k) (Some h) → ⊥
          holder_stale w (changed_above p i held ch) = let x = is_ended p i (u.only p i held) in clean_unchanged r u.clean w (sym (ap changed x.0) ∙ ch)
          holder_stale w (stale_above p i held s) = u.fresh (subst (λ l. IsStale (sight k) (Some l)) (u.only p i held) s)
          holder_stale w (taken_above t) = u.untaken t

          by : ((r.word ≡ r.first) × (y.reference.reference ≡ q.reference)) ⊎ ((r.word ≢ r.first) × (q.reference.dirty ≡ false)) → ⊥
          by (inl v) =
              (alone y.reference y.among (ap (λ (n : MutRef). n.dirty) v.1 ∙ dirty) (λ s. holder_stale v.0 (subst (λ l. IsStale (sight k) (Some l)) (y.at_same ∙ e) s))).unlent ended ended_among
              (ap (λ l. is_held_at l ended.holder) (y.at_same ∙ e) ∙ ended_held)
          by (inr v) = let t : true ≡ false = sym dirty ∙ v.1 in absurd cc

      same_one : y.reference.reference ≡ q.reference
      same_one = y.elsewhere not_holder

      -- so it wasn't stale
      was_fresh : IsStale (sight k) (Some q.at) → ⊥
      was_fresh s = ⊎_elim fresh not_holder (stale_on past q.at s)

      was_alone : IsAlone (sight k) y.reference
      was_alone = alone y.reference y.among (ap (λ (n : MutRef). n.dirty) same_one ∙ dirty) (λ s. was_fresh (subst (λ l. IsStale (sight k) (Some l)) y.at_same s))

      -- so its object isn't that of the reference that ends
      object_was : y.reference.reference.object ≡ q.reference.object
      object_was = ap (λ (n : MutRef). n.object) same_one

      other_object : r.object ≡ q.reference.object → ⊥
      other_object e =
          ⊎_elim u.fresh (λ (s : is_held_at y.reference.at (Some at) ≡ true). not_gone q m (sym (some_is (held_is y.reference.at (Some at) s) ∙ y.at_same)))
          (was_alone.sole (pointer_to at r.word r.object)
          (among_first (pointer_to at r.word r.object) (standing_in (things_of k)) (taken_pointers k.code gk gk.threads) (told_standing k at (value.Mut r) (pointer_to at r.word r.object) u.stood (inl refl))) (e ∙ sym object_was))

      was_sole : (p : Pointer) → Among p (standing_pointers (sight k)) → p.object ≡ q.reference.object → IsStale (sight k) p.at ⊎ (is_held_at q.at p.at ≡ true)
      was_sole p i e = ⊎_elim (λ (s : IsStale (sight k) p.at). inl s) (λ (s : is_held_at y.reference.at p.at ≡ true). inr (ap (λ l. is_held_at l p.at) (sym y.at_same) ∙ s)) (was_alone.sole p i (e ∙ sym object_was))

      nowhere_stale : (p : Pointer) → p.at ≡ None → IsStale (sight k) p.at ⊎ (is_held_at q.at p.at ≡ true) → IsStale (sight z) p.at ⊎ (is_held_at q.at p.at ≡ true)
      nowhere_stale p n (inl s) = let f : ⊥ = subst (λ l. IsStale (sight k) l) n s in absurd f
      nowhere_stale p n (inr s) = inr s

      sole : (p : Pointer) → Among p (standing_pointers (sight z)) → p.object ≡ q.reference.object → IsStale (sight z) p.at ⊎ (is_held_at q.at p.at ≡ true)
      sole p i e =
          ⊎_elim (λ (s : Among p (standing_in (things_of z))). by p.at refl s)
          (λ (s : Among p (taken_pointers z.code gz gz.threads)). nowhere_stale p (taken_nowhere z.code gz gz.threads p s) (was_sole p (among_second p (standing_in (things_of k)) (taken_pointers k.code gk gk.threads) (taken_back p s)) e))
          (among_split p (standing_in (things_of z)) (taken_pointers z.code gz gz.threads) i)
        where
          placed : (l : Location) → p.at ≡ Some l → Among p (pointers_in (things_of z)) → IsStale (sight k) p.at ⊎ (is_held_at q.at p.at ≡ true) → IsStale (sight z) p.at ⊎ (is_held_at q.at p.at ≡ true)
          placed l f s (inr v) = inr v
          placed l f s (inl v) =
              ⊎_elim (λ (t : IsStale (sight z) (Some l)). inl (subst (λ n. IsStale (sight z) n) (sym f) t)) (λ (g : Regains rz h l). absurd (other_object (sym (regains_word l g p s f).1 ∙ e))) (on_stale l (subst (λ n. IsStale (sight k) n) f v))

          by : (l : Option Location) → p.at ≡ l → Among p (standing_in (things_of z)) → IsStale (sight z) p.at ⊎ (is_held_at q.at p.at ≡ true)
          by None f s = nowhere_stale p f (was_sole p (among_first p (standing_in (things_of k)) (taken_pointers k.code gk gk.threads) (u.standing p f s)) e)
          by (Some l) f s =
              let n = stands_in p (things_of z) s in
              ⊎_elim (λ (v : l ≡ h). absurd (other_object (sym (regains_word l (the_holder v) p n f).1 ∙ e)))
              (λ (v : l ≡ h → ⊥). placed l f n (was_sole p (among_first p (standing_in (things_of k)) (taken_pointers k.code gk gk.threads) (stood_in p l n f v)) e)) (same_place l h)

      pub still_alone : IsAlone (sight z) q
      still_alone = record {
        unlent = λ g i held. (let x = back_reference g i in was_alone.unlent x.reference x.among (ap (λ l. is_held_at l x.reference.holder) y.at_same ∙ ap (is_held_at q.at) x.holder ∙ held));
        sole = sole;
      }

pub ends_leave_words : EndsLeaveWords
ends_leave_words = record {
  words = λ k z at h r c d u f b. words_stay k z at h r c d u f b;
  holders = λ k z at h r c d u f. holders_stay k z at h r c d u f;
  dirty = λ k z at h r c d u f b past alone q m dirty fresh. still_alone k z at h r c d u f b past alone q m dirty fresh;
  past = λ k z at h r c d u f b past. past_stays k z at h r c d u f b past;
}
