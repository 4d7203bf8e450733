-- Where one pointer gets another word, first words that were left are no words of today.
use Rattle.std.proofs.Common.{◌≡◌, ◌≢◌, ◌⊎◌, inl, inr, ⊎_elim, ℕ, true, false, Option, Some, None, refl, sym, ap, subst, ◌∙◌}
use Rattle.law_words_paths.specs.Below.fr_base.declared.name.ObjNo.{ObjNo}
use Rattle.law_words_paths.specs.Below.mut_borrow.declared.mutable.MutRef.{MutRef}
use Rattle.law_words_paths.specs.Below.thread_state.declared.value.Value.TheVariants as value
use Rattle.law_words_paths.specs.Below.server_model.Servers.{Cluster}
use Rattle.law_words_paths.specs.Below.coherent_memory.Names.{Among, other}
use Rattle.law_words_paths.specs.Below.coherent_memory.Things.{Location, borrows, things_of}
use Rattle.law_words_paths.specs.Below.coherent_memory.Follow.{Ground, value_in}
use Rattle.law_words_paths.specs.Below.coherent_memory.Stale.{Reference, references, holder_of}
use Rattle.law_words_paths.specs.Below.coherent_memory.Sight.{Pointer, pointers_in, taken_pointers, sight, issued}
use Rattle.law_words_paths.specs.Below.coherent_memory.Placing.{words}
use Rattle.law_words_paths.specs.Below.coherent_memory.Coherent.{Holds, are_issued}
use Rattle.law_words_paths.specs.Below.coherent_memory.Words.{all_pointers, IsStale}
use Rattle.law_words_paths.specs.Below.coherent_memory.Dirty.{PastWords}
use Rattle.law_words_paths.proofs.Below.coherent_memory.Bags.{among_split}
use Rattle.law_words_paths.proofs.Below.coherent_memory.Names.{right_none}
use Rattle.law_words_paths.proofs.Below.coherent_memory.Words.{none_at}
use Rattle.law_words_paths.proofs.paths.Shown.{none_else}
use Rattle.law_words_paths.proofs.paths.Contained.{reference_there}
use Rattle.law_words_paths.specs.words.WordsAfter.{Rewrites, IsNoFirst, AreNoFirsts, PastGoesOn}
use Rattle.law_words_paths.proofs.words.GoOn.{pointer_to, same_or_not, StoodElsewhere}
use Rattle.law_words_paths.proofs.words.Standing.{told, borrow_stands}
use Rattle.law_words_paths.proofs.words.Grounds.{of_borrows, same_place, holders_same, still_stale}
use Rattle.law_words_paths.proofs.words.Words.{places, at_h, stood, only, taken_nowhere}

-- a reference's first word was issued
pub first_issued : (k : Cluster) → Holds k are_issued → (l : Location) (q : MutRef) → Among (borrows l q) (things_of k) → issued (sight k) q.first ≡ true
first_issued k all l q h =
    none_else (issued (sight k) q.first)
    (right_none (other (issued (sight k) q.word)) (other (issued (sight k) q.first)) (none_at (words (λ v. other (issued (sight k) v))) (borrows l q) (things_of k) all h))

pub are_no_firsts : AreNoFirsts
are_no_firsts = record {
  unissued = λ k o w all new r m e n s. (let t : true ≡ false = sym (first_issued k all r.at r.reference (of_borrows (sight k).ground r (things_of k) m).among) ∙ ap (issued (sight k)) (sym s) ∙ new in absurd cc);
  present = λ k p past m fresh r i e n. past r i n p m fresh (sym e);
}

module _ (k z : Cluster) (h : Location) (o : ObjNo) (w : ℕ) (r : Rewrites k z h o w) (new : IsNoFirst k o w) (past : PastWords (sight k)) where
  abbrev gk : Ground
  gk = (sight k).ground

  abbrev gz : Ground
  gz = (sight z).ground

  here : (q : Reference) → Among q (references gz (things_of z)) → value_in gz q.at ≡ Some (value.Mut q.reference)
  here q m = borrow_stands z r.places q.at q.reference (of_borrows gz q (things_of z) m).among

  -- a reference that doesn't stand at h is as it was
  was : (q : Reference) → Among q (references gz (things_of z)) → (q.at ≡ h → ⊥) → Among q (references gk (things_of k))
  was q m n =
      let b = of_borrows gz q (things_of z) m in
      let there = reference_there k q.at q.reference (sym (r.reworded.elsewhere q.at n) ∙ here q m) in
      let same : holder_of gk q.at q.reference.holder ≡ q.holder = sym (holders_same k z h o w r.reworded q.at q.reference.holder) ∙ sym b.holder in
      subst (λ (l : Option Location). Among (record { at = q.at; holder = l; reference = q.reference }) (references gk (things_of k))) same there

  -- a pointer at h has the new word, and its object
  at_place : (p : Pointer) → Among p (all_pointers (sight z)) → p.at ≡ Some h → p ≡ pointer_to h w o
  at_place p m e =
      ⊎_elim (λ (y : Among p (pointers_in (things_of z))). at_h k z h o w r p y e)
      (λ (y : Among p (taken_pointers (sight z).code gz gz.threads)). let f : None ≡ Some h = sym (taken_nowhere (sight z).code gz gz.threads p y) ∙ e in absurd cc)
      (among_split p (pointers_in (things_of z)) (taken_pointers (sight z).code gz gz.threads) m)

  reference_at : (q : Reference) → Among q (references gz (things_of z)) → q.at ≡ h → record { at = Some q.at; word = q.reference.word; object = q.reference.object } ≡ pointer_to h w o
  reference_at q m e =
      at_h k z h o w r (record { at = Some q.at; word = q.reference.word; object = q.reference.object })
      (told z q.at (value.Mut q.reference) (record { at = Some q.at; word = q.reference.word; object = q.reference.object }) (here q m) (inl refl)) (ap Some e)

  still : (l : Option Location) → IsStale (sight k) l → IsStale (sight z) l
  still None s = s
  still (Some l) s = still_stale k z h o w r.reworded (places k z h o w r) r.places l s

  first : (a : Reference) → Among a (references gz (things_of z)) → a.reference.word ≢ a.reference.first → (p : Pointer) → Among p (all_pointers (sight z)) → (IsStale (sight z) p.at → ⊥) → p.object ≡ a.reference.object → p.word ≢ a.reference.first
  first a i c p m f e = by (same_or_not a.reference.object o)
    where
      at_it : a.reference.object ≡ o → p.at ≡ Some h → (a.at ≡ h) ⊎ (a.at ≡ h → ⊥) → p.word ≢ a.reference.first
      at_it s t (inl y) = λ x. c (ap (λ (g : Pointer). g.word) (reference_at a i y) ∙ sym (ap (λ (g : Pointer). g.word) (at_place p m t)) ∙ x)
      at_it s t (inr n) = λ x. new a (was a i n) s c (sym (ap (λ (g : Pointer). g.word) (at_place p m t)) ∙ x)

      elsewhere : (a.reference.object ≡ o → ⊥) → (p ≡ pointer_to h w o) ⊎ StoodElsewhere (sight k) h p → p.word ≢ a.reference.first
      elsewhere n (inl s) = absurd (n (sym e ∙ ap (λ (g : Pointer). g.object) s))
      elsewhere n (inr y) = past a (was a i (λ s. n (ap (λ (g : Pointer). g.object) (reference_at a i s)))) c p y.among (λ s. f (still p.at s)) e

      by : (a.reference.object ≡ o) ⊎ (a.reference.object ≡ o → ⊥) → p.word ≢ a.reference.first
      by (inl s) =
          ⊎_elim (λ (t : p.at ≡ Some h). at_it s t (same_place a.at h))
          (λ (t : IsStale (sight z) p.at). absurd (f t)) (only k z h o w r p m (e ∙ s))
      by (inr n) = elsewhere n (stood k z h o w r p m)

pub past_goes_on : PastGoesOn
past_goes_on k z h o w r new past = first k z h o w r new past
