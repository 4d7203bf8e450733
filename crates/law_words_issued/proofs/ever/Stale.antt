-- The word of a pointer was issued: that of its object where it isn't stale, else the first word of a reference that was made from it, or one from which an object was taken.
use Rattle.std.proofs.Common.{◌≡◌, inl, inr, ⊎_elim, ℕ, ◌==◌, ◌||◌, Bool, true, false, List, [], ◌∷◌, Option, Some, None, refl, sym, ap, subst, ◌∙◌}
use Rattle.law_words_issued.specs.Below.heap_partition.declared.value.Owned.TheVariants as owned
use Rattle.law_words_issued.specs.Below.mut_borrow.declared.mutable.MutRef.{MutRef}
use Rattle.law_words_issued.specs.Below.thread_state.declared.value.Value.{Value}
use Rattle.law_words_issued.specs.Below.thread_state.declared.value.Value.TheVariants as value
use Rattle.law_words_issued.specs.Below.server_model.Servers.{Cluster}
use Rattle.law_words_issued.specs.Below.coherent_memory.Names.{Among, tot, same_object}
use Rattle.law_words_issued.specs.Below.coherent_memory.Things.{Location, borrows, things_of}
use Rattle.law_words_issued.specs.Below.coherent_memory.Follow.{Ground, value_in, value_behind}
use Rattle.law_words_issued.specs.Below.coherent_memory.Sight.{Pointer, pointers_in, sight}
use Rattle.law_words_issued.specs.Below.coherent_memory.Stale.{Reference, references, lent_places, same_location, is_among, is_held_at, Stale, changed_above, stale_above, taken_above}
use Rattle.law_words_issued.specs.Below.coherent_memory.Placing.{is_first, other_first}
use Rattle.law_words_issued.specs.Below.coherent_memory.Words.{IsStale}
use Rattle.law_words_issued.specs.Below.coherent_memory.Coherent.{Holds, first_at_holder}
use Rattle.law_words_issued.proofs.Below.coherent_memory.Names.{and_left, same_number}
use Rattle.law_words_issued.proofs.Below.coherent_memory.Words.{none_at}
use Rattle.law_words_issued.proofs.Below.law_counts_sums.Askers.{other_none}
use Rattle.law_words_issued.proofs.Below.law_words_paths.paths.FreshPaths.{same_is}
use Rattle.law_words_issued.specs.Below.law_words_paths.words.Reworded.{HasPlaces}
use Rattle.law_words_issued.proofs.Below.law_words_paths.words.Grounds.{of_borrows}
use Rattle.law_words_issued.proofs.Below.law_words_paths.words.Standing.{pointer_at, tells}
use Rattle.law_words_issued.proofs.Below.law_words_kept.reads.Homes.{of_all}
use Rattle.law_words_issued.specs.old.Old.{unissued, first_words, pointer_word, lent_words}
use Rattle.law_words_issued.specs.ever.Standing.{FormerWords, Settled}
use Rattle.law_words_issued.proofs.ever.Live.{object_issued}

held_is : (l : Location) (o : Option Location) → is_held_at l o ≡ true → o ≡ Some l
held_is l None e = absurd (cc e)
held_is l (Some h) e = ap (λ x. Some x) (same_is h l e)

is_there : (l : Location) (ls : List Location) → is_among l ls ≡ true → Among l ls
is_there l [] e = absurd (cc e)
is_there l (x ∷ xs) e = by (same_location x l) refl e (λ z. is_there l xs z)
  where
    by : (b : Bool) → same_location x l ≡ b → b || is_among l xs ≡ true → (is_among l xs ≡ true → Among l xs) → Among l (x ∷ xs)
    by true s z go = inl (same_is x l s)
    by false s z go = inr (go z)

-- a first word is that of the pointer from which the reference was made
first_is : (q : Pointer) (l : Location) (v : Value) (r : MutRef) → Among q (pointer_at l v) → is_first r (Some v) ≡ true → r.first ≡ q.word
first_is q l (value.Own (owned.Box b)) r (inl e) i = same_number r.first b.word (and_left (r.first == b.word) (same_object r.object b.object) i) ∙ ap (λ (x : Pointer). x.word) e
first_is q l (value.Own (owned.Box b)) r (inr h) i = absurd h
first_is q l (value.Mut m) r (inl e) i = same_number r.first m.word (and_left (r.first == m.word) (same_object r.object m.object) i) ∙ ap (λ (x : Pointer). x.word) e
first_is q l (value.Mut m) r (inr h) i = absurd h
first_is q l _ r h i = absurd (cc i)

pointer_weighs : (f : ℕ → ℕ) (q : Pointer) (l : Location) (v : Value) → Among q (pointer_at l v) → pointer_word f (Some v) ≡ 0 → f q.word ≡ 0
pointer_weighs f q l (value.Own (owned.Box b)) (inl e) z = subst (λ (x : Pointer). f x.word ≡ 0) e z
pointer_weighs f q l (value.Own (owned.Box b)) (inr h) z = absurd h
pointer_weighs f q l (value.Own owned.Nothing) h z = absurd h
pointer_weighs f q l (value.Own owned.Unit) h z = absurd h
pointer_weighs f q l (value.Own (owned.Int i)) h z = absurd h
pointer_weighs f q l (value.Own (owned.Mutex m)) h z = absurd h
pointer_weighs f q l (value.Own (owned.Task t)) h z = absurd h
pointer_weighs f q l (value.Mut m) (inl e) z = subst (λ (x : Pointer). f x.word ≡ 0) e z
pointer_weighs f q l (value.Mut m) (inr h) z = absurd h
pointer_weighs f q l value.Gone h z = absurd h
pointer_weighs f q l (value.SharedSlot i) h z = absurd h
pointer_weighs f q l (value.MutSlot i) h z = absurd h
pointer_weighs f q l (value.Shared r) h z = absurd h
pointer_weighs f q l (value.Held m) h z = absurd h

module _ (k : Cluster) (places : HasPlaces k) (holders : Holds k first_at_holder) (f : ℕ → ℕ) (firsts : tot (first_words f) (things_of k) ≡ 0) (lent : lent_words f (sight k) ≡ 0) where
  abbrev g : Ground
  g = (sight k).ground

  module _ (q : Pointer) (l : Location) (h : Among q (pointers_in (things_of k))) (at : q.at ≡ Some l) where
    -- a reference was made from it
    made_from : (r : Reference) → Among r (references g (things_of k)) → is_held_at l r.holder ≡ true → f q.word ≡ 0
    made_from r m held =
        let t = tells k places q l h at in
        let there : value_behind g r.holder ≡ Some t.value = ap (value_behind g) (held_is l r.holder held) ∙ t.stands in
        let first : is_first r.reference (value_behind g r.holder) ≡ true = other_none (is_first r.reference (value_behind g r.holder)) (none_at (other_first g) r (references g (things_of k)) holders m) in
        let same : r.reference.first ≡ q.word = first_is q l t.value r.reference t.pointer (subst (λ v. is_first r.reference v ≡ true) there first) in
        subst (λ w. f w ≡ 0) same (none_at (first_words f) (borrows r.at r.reference) (things_of k) firsts (of_borrows g r (things_of k) m).among)

    -- an object was taken from it
    taken_from : is_among l (lent_places k.code g g.threads) ≡ true → f q.word ≡ 0
    taken_from i =
        let t = tells k places q l h at in
        let none : pointer_word f (value_in g l) ≡ 0 = none_at (λ m. pointer_word f (value_in g m)) l (lent_places k.code g g.threads) lent (is_there l (lent_places k.code g g.threads) i) in
        pointer_weighs f q l t.value t.pointer (subst (λ v. pointer_word f v ≡ 0) t.stands none)

    of_stale : Stale (lent_places k.code g g.threads) (references g (things_of k)) l → f q.word ≡ 0
    of_stale (changed_above r m held c) = made_from r m held
    of_stale (stale_above r m held z) = made_from r m held
    of_stale (taken_above i) = taken_from i

  -- a stale pointer's word weighs nothing where first words don't, nor those of pointers from which objects were taken
  pub stale_weighs : (q : Pointer) → Among q (pointers_in (things_of k)) → IsStale (sight k) q.at → f q.word ≡ 0
  stale_weighs q h z = by q.at refl z
    where
      by : (o : Option Location) → q.at ≡ o → IsStale (sight k) o → f q.word ≡ 0
      by None at n = absurd n
      by (Some l) at n = of_stale q l h at n

pub pointer_issued : (k : Cluster) (s : Settled k) → FormerWords (unissued k) (sight k) → (q : Pointer) → Among q (pointers_in (things_of k)) → unissued k q.word ≡ 0
pointer_issued k s old q h =
    let places : HasPlaces k = record { numbers_differ = s.paths.numbers_differ; home_of_each = s.paths.home_of_each; owner_of_each = s.paths.owner_of_each } in
    ⊎_elim (λ (z : IsStale (sight k) q.at). stale_weighs k places s.first_at_holder (unissued k) old.firsts old.lent q h z)
    (λ (e : q.word ≡ s.has_words.word q.object). subst (λ w. unissued k w ≡ 0) (sym e) (object_issued k s old q h)) (of_all k s.has_words q h)
