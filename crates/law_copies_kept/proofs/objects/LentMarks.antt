-- A mutable reference more leaves each object changed through a reference where it was: where it is made from a dirty one, that is stale from then on.
use Rattle.std.proofs.Common.{◌≡◌, ◌⊎◌, inl, inr, ⊎_elim, ℕ, ◌==◌, true, false, Some, refl, sym, ap, subst, ◌∙◌}
use Rattle.law_copies_kept.specs.Below.fr_base.declared.name.ObjNo.{ObjNo}
use Rattle.law_copies_kept.specs.Below.mut_borrow.declared.mutable.MutRef.{MutRef}
use Rattle.law_copies_kept.specs.Below.thread_state.declared.value.Value.TheVariants as value
use Rattle.law_copies_kept.specs.Below.server_model.Servers.{Cluster}
use Rattle.law_copies_kept.specs.Below.coherent_memory.Names.{Among, same_object}
use Rattle.law_copies_kept.specs.Below.coherent_memory.Things.{Location, at_temp, things_of}
use Rattle.law_copies_kept.specs.Below.coherent_memory.Follow.{cells_in}
use Rattle.law_copies_kept.specs.Below.coherent_memory.Stale.{Reference, references, holder_of, taken_above}
use Rattle.law_copies_kept.specs.Below.coherent_memory.Sight.{is_object_among, sight}
use Rattle.law_copies_kept.specs.Below.coherent_memory.Words.{IsStale, HasWords}
use Rattle.law_copies_kept.specs.Below.coherent_memory.Placing.{is_first}
use Rattle.law_copies_kept.specs.Below.coherent_memory.Coherent.{IsSound}
use Rattle.law_copies_kept.proofs.Below.coherent_memory.Names.{and_right}
use Rattle.law_copies_kept.proofs.Below.coherent_memory.Words.{named, told as told_stale}
use Rattle.law_copies_kept.proofs.Below.law_words_paths.paths.Contained.{reference_there}
use Rattle.law_words_borrows.specs.Below.law_words_paths.words.Reworded.{HasPlaces}
use Rattle.law_words_borrows.specs.Below.law_words_paths.words.Unmoved.{LeavesWords, WordsStay}
use Rattle.law_words_borrows.proofs.Below.law_words_paths.words.Standing.{borrow_stands}
use Rattle.law_words_borrows.proofs.Below.law_words_paths.words.Grounds.{same_place}
use Rattle.law_words_borrows.proofs.LentOne.{LentOne, MadeHere, MadeOfTaken, lent_one_stays, on_reference, new_reference, IsNew, back_reference, on_stale, awake, back_stale, is_from, was_lent}
use Rattle.law_copies_kept.proofs.copies.Clean.{Leaves}
use Rattle.law_copies_kept.proofs.references.Kept.{places_before}
use Rattle.law_copies_kept.proofs.references.CleanReads.{DirtyOne, dirty_one}
use Rattle.law_copies_kept.proofs.references.Worded.{dirty_found, same_truth}
use Rattle.law_copies_kept.proofs.objects.Turned.{Turned, dirty_kept}

module _ (a b : Cluster) (t j : ℕ) (h : Location) (r : MutRef) (c : HasPlaces a) (d : HasPlaces b) (u : LentOne a b t j h r) where
  -- from a reference to its object
  its_object : (q : MutRef) → u.from ≡ value.Mut q → r.object ≡ q.object
  its_object q e = named r.object q.object (and_right (r.first == q.word) (same_object r.object q.object) (subst (λ v. is_first r (Some v) ≡ true) e u.first))

  module _ (p : ObjNo) where
    on : is_object_among p (sight a).dirty ≡ true → is_object_among p (sight b).dirty ≡ true
    on e = by (same_place f.at h)
      where
        f : DirtyOne p (sight a).stale (things_of a)
        f = dirty_one p (sight a).stale (things_of a) e

        q : Reference
        q = record { at = f.at; holder = holder_of (sight a).ground f.at f.reference.holder; reference = f.reference }

        there : Among q (references (sight a).ground (things_of a))
        there = reference_there a f.at f.reference (borrow_stands a c f.at f.reference f.among)

        fresh : IsStale (sight a) (Some f.at) → ⊥
        fresh s = let no : false ≡ true = sym f.fresh ∙ told_stale a (Some f.at) s in absurd cc

        new_one : f.at ≡ h → r.dirty ≡ true → is_object_among p (sight b).dirty ≡ true
        new_one s marked =
            let object : r.object ≡ p = its_object f.reference (is_from a b t j h r c d u q there s) ∙ f.object in
            dirty_found b r p (record { reference = record { at = at_temp t j; holder = Some h; reference = r }; among = new_reference a b t j h r c d u; same = refl; fresh = awake a b t j h r c d u (at_temp t j) refl }) object marked

        by : (f.at ≡ h) ⊎ (f.at ≡ h → ⊥) → is_object_among p (sight b).dirty ≡ true
        by (inl s) =
            ⊎_elim (λ (m : MadeHere a b h r u.from). new_one s (sym (m.mark f.reference (is_from a b t j h r c d u q there s)) ∙ f.dirty))
            (λ (m : MadeOfTaken a b h r). absurd (fresh (subst (λ l. IsStale (sight a) (Some l)) (sym s) (taken_above (was_lent a b t j h r c d u m))))) u.made
        by (inr away) =
            dirty_found b f.reference p (record {
              reference = q;
              among = on_reference a b t j h r c d u q there;
              same = refl;
              fresh = λ s. ⊎_elim (λ (x : IsStale (sight a) (Some f.at)). fresh x) (λ (x : (f.at ≡ h) × (r.dirty ≡ true)). away x.0) (back_stale a b t j h r c d u f.at s);
            }) f.object f.dirty

    back : is_object_among p (sight b).dirty ≡ true → is_object_among p (sight a).dirty ≡ true
    back e = by (back_reference a b t j h r c d u q there)
      where
        f : DirtyOne p (sight b).stale (things_of b)
        f = dirty_one p (sight b).stale (things_of b) e

        q : Reference
        q = record { at = f.at; holder = holder_of (sight b).ground f.at f.reference.holder; reference = f.reference }

        there : Among q (references (sight b).ground (things_of b))
        there = reference_there b f.at f.reference (borrow_stands b d f.at f.reference f.among)

        fresh : IsStale (sight b) (Some f.at) → ⊥
        fresh s = let no : false ≡ true = sym f.fresh ∙ told_stale b (Some f.at) s in absurd cc

        from_one : (x : MutRef) → u.from ≡ value.Mut x → x.dirty ≡ true → r.object ≡ p → (IsStale (sight a) (Some h) → ⊥) → is_object_among p (sight a).dirty ≡ true
        from_one x is marked object calm =
            dirty_found a x p (record { reference = record { at = h; holder = holder_of (sight a).ground h x.holder; reference = x }; among = reference_there a h x (u.there ∙ ap Some is); same = refl; fresh = calm })
            (sym (its_object x is) ∙ object) marked

        by : IsNew a b t j h r c d u q ⊎ Among q (references (sight a).ground (things_of a)) → is_object_among p (sight a).dirty ≡ true
        by (inl n) =
            let marked : r.dirty ≡ true = ap (λ (x : MutRef). x.dirty) (sym n.reference) ∙ f.dirty in
            let object : r.object ≡ p = ap (λ (x : MutRef). x.object) (sym n.reference) ∙ f.object in
            ⊎_elim (λ (m : MadeHere a b h r u.from). let x = m.marked marked in from_one x.0 x.1 (m.mark x.0 x.1 ∙ marked) object m.fresh)
            (λ (m : MadeOfTaken a b h r). let no : false ≡ true = sym m.clean ∙ marked in absurd cc) u.made
        by (inr i) = dirty_found a f.reference p (record { reference = q; among = i; same = refl; fresh = λ s. fresh (on_stale a b t j h r c d u f.at s) }) f.object f.dirty

  -- the same objects are changed
  pub lent_marks : (p : ObjNo) → is_object_among p (sight b).dirty ≡ is_object_among p (sight a).dirty
  lent_marks p = same_truth (is_object_among p (sight a).dirty) (is_object_among p (sight b).dirty) (on p) (back p)

-- so each object is what it was, with the same cells
pub lent_turned : (k a b : Cluster) (sound : IsSound k) (t j : ℕ) (h : Location) (r : MutRef) (c : HasPlaces a) (d : HasPlaces b) (u : LentOne a b t j h r) → Leaves k a → cells_in (things_of b) ≡ cells_in (things_of a) → Turned k b sound.words.have_words
lent_turned k a b sound t j h r c d u stay cells = record {
  after = words_b.after;
  each = λ p. inl (record {
    word = words_b.same p ∙ ((stay.0).words sound.words.have_words).same p;
    on = λ x o m. subst (λ l. Among x l) (sym cells) ((stay.1).on x m);
    back = λ x o m. (stay.1).back x (subst (λ l. Among x l) cells m);
    dirty = lent_marks a b t j h r c d u p ∙ dirty_kept k a (places_before k sound) c (stay.1).changed_on (stay.1).changed_back p;
  });
}
  where
    words_a : HasWords (sight a)
    words_a = ((stay.0).words sound.words.have_words).after

    left : LeavesWords a b
    left = lent_one_stays a b t j h r c d u words_a

    words_b : WordsStay (sight a) (sight b) words_a
    words_b = left.words words_a

-- where all stays each object is what it was
pub all_same : (k a : Cluster) (sound : IsSound k) → HasPlaces a → Leaves k a → Turned k a sound.words.have_words
all_same k a sound c stay = record {
  after = words_a.after;
  each = λ p. inl (record { word = words_a.same p; on = λ x o m. (stay.1).on x m; back = λ x o m. (stay.1).back x m; dirty = dirty_kept k a (places_before k sound) c (stay.1).changed_on (stay.1).changed_back p });
}
  where
    words_a : WordsStay (sight k) (sight a) sound.words.have_words
    words_a = (stay.0).words sound.words.have_words
