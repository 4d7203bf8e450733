-- Where one pointer gets another word, references know the words at their holders, and dirty references are alone.
use Rattle.std.proofs.Common.{◌≡◌, ◌⊎◌, inl, inr, ⊎_elim, ℕ, ◌==◌, ◌&&◌, Bool, true, Option, Some, None, refl, sym, ap, subst, ◌∙◌}
use Rattle.law_words_paths.specs.Below.fr_base.declared.name.ObjNo.{ObjNo}
use Rattle.law_words_paths.specs.Below.heap_partition.declared.value.Owned.TheVariants as owned
use Rattle.law_words_paths.specs.Below.mut_borrow.declared.mutable.MutRef.{MutRef}
use Rattle.law_words_paths.specs.Below.thread_state.declared.value.Value.{Value}
use Rattle.law_words_paths.specs.Below.thread_state.declared.value.Value.TheVariants as value
use Rattle.law_words_paths.specs.Below.server_model.Servers.{Cluster}
use Rattle.law_words_paths.specs.Below.coherent_memory.Names.{Among, other, same_object}
use Rattle.law_words_paths.specs.Below.coherent_memory.Things.{Location, things_of}
use Rattle.law_words_paths.specs.Below.coherent_memory.Follow.{Ground, value_in, value_behind}
use Rattle.law_words_paths.specs.Below.coherent_memory.Stale.{Reference, references, holder_of, is_held_at}
use Rattle.law_words_paths.specs.Below.coherent_memory.Sight.{Pointer, pointers_in, taken_pointers, sight}
use Rattle.law_words_paths.specs.Below.coherent_memory.Placing.{is_first, other_first, standing_in, standing_pointers}
use Rattle.law_words_paths.specs.Below.coherent_memory.Coherent.{Holds, first_at_holder}
use Rattle.law_words_paths.specs.Below.coherent_memory.Words.{IsStale}
use Rattle.law_words_paths.specs.Below.coherent_memory.Dirty.{IsAlone, DirtyAlone}
use Rattle.law_words_paths.proofs.Below.coherent_memory.Bags.{among_split}
use Rattle.law_words_paths.proofs.Below.coherent_memory.Words.{none_at, none_all}
use Rattle.law_words_paths.specs.paths.Pointing.{Above}
use Rattle.law_words_paths.proofs.paths.Shown.{none_else}
use Rattle.law_words_paths.proofs.paths.Origins.{among_first, among_second}
use Rattle.law_words_paths.proofs.paths.Contained.{held_there, reference_there}
use Rattle.law_words_paths.specs.words.WordsAfter.{Rewrites, HoldersGoOn, DirtyGoOn}
use Rattle.law_words_paths.proofs.words.Standing.{tells, told, told_standing, stands_in, borrow_stands}
use Rattle.law_words_paths.proofs.words.Loose.{unplaced_standing}
use Rattle.law_words_paths.proofs.words.Grounds.{Opposite, OfBorrows, of_borrows, same_place, taken_all, before, still_stale}
use Rattle.law_words_paths.proofs.words.Words.{places, at_h, only, above_stale}

-- two references that were made from the same word of an object
is_first_same : (r q : MutRef) (v : Option Value) → r.first ≡ q.first → r.object ≡ q.object → is_first r v ≡ is_first q v
is_first_same r q (Some (value.Own (owned.Box p))) e f = ap (λ n. n == p.word && same_object r.object p.object) e ∙ ap (λ n. q.first == p.word && same_object n p.object) f
is_first_same r q (Some (value.Mut m)) e f = ap (λ n. n == m.word && same_object r.object m.object) e ∙ ap (λ n. q.first == m.word && same_object n m.object) f
is_first_same r q _ e f = refl

no_other : (b : Bool) → b ≡ true → other b ≡ 0
no_other b e = ap other e

module _ (k z : Cluster) (h : Location) (o : ObjNo) (w : ℕ) (r : Rewrites k z h o w) where
  abbrev gk : Ground
  gk = (sight k).ground

  abbrev gz : Ground
  gz = (sight z).ground

  -- none was made from the pointer that got the word
  unmade : (q : Reference) → Among q (references gk (things_of k)) → is_held_at h q.holder ≡ true → ⊥
  unmade q m e = r.only.unmade q m e

  back : (q : Reference) → Among q (references gz (things_of z)) → Opposite k z h o w r.reworded gk (references gk (things_of k)) q
  back q m = (before k z h o w r.reworded (places k z h o w r) r.places q m).0

  -- HOLDERS

  first_there : (q : Reference) → Among q (references gz (things_of z)) → other_first gz q ≡ 0
  first_there q m = by q.holder refl
    where
      y : Opposite k z h o w r.reworded gk (references gk (things_of k)) q
      y = back q m

      first_before : is_first y.reference.reference (value_behind gk y.reference.holder) ≡ true
      first_before = none_else (is_first y.reference.reference (value_behind gk y.reference.holder)) (none_at (other_first gk) y.reference (references gk (things_of k)) r.firsts y.among)

      moved : (v : Option Location) → q.holder ≡ v → is_first q.reference (value_behind gk v) ≡ true
      moved v e = sym (is_first_same y.reference.reference q.reference (value_behind gk v) y.first y.object) ∙ sym (ap (λ n. is_first y.reference.reference (value_behind gk n)) (y.holder ∙ e)) ∙ first_before

      by : (v : Option Location) → q.holder ≡ v → other (is_first q.reference (value_behind gz q.holder)) ≡ 0
      by None e = ap (λ n. other (is_first q.reference (value_behind gz n))) e ∙ ap other (moved None e)
      by (Some l) e = at (same_place l h)
        where
          at : (l ≡ h) ⊎ (l ≡ h → ⊥) → other (is_first q.reference (value_behind gz q.holder)) ≡ 0
          at (inl s) = absurd (unmade y.reference y.among (held_there k h y.reference.holder (y.holder ∙ e ∙ ap Some s)))
          at (inr n) = ap (λ m. other (is_first q.reference (value_behind gz m))) e ∙ ap (λ v. other (is_first q.reference v)) (r.reworded.elsewhere l n) ∙ ap other (moved (Some l) e)

  pub holders : Holds z first_at_holder
  holders = none_all (other_first gz) (references gz (things_of z)) first_there

  -- DIRTY REFERENCES

  -- each pointer to the object but the one with the new word is stale
  not_beside : (p : Pointer) → Among p (standing_pointers (sight z)) → p.object ≡ o → IsStale (sight z) p.at ⊎ (p.at ≡ Some h)
  not_beside p i e =
      ⊎_elim (λ (s : p.at ≡ Some h). inr s) (λ (s : IsStale (sight z) p.at). inl s)
      (only k z h o w r p
      (⊎_elim (λ (y : Among p (standing_in (things_of z))). among_first p (pointers_in (things_of z)) (taken_pointers (sight z).code gz gz.threads) (stands_in p (things_of z) y))
      (λ (y : Among p (taken_pointers (sight z).code gz gz.threads)). among_second p (pointers_in (things_of z)) (taken_pointers (sight z).code gz gz.threads) y)
      (among_split p (standing_in (things_of z)) (taken_pointers (sight z).code gz gz.threads) i)) e)

  -- so a reference with the new word is alone
  new_alone : (q : Reference) → Among q (references gz (things_of z)) → q.at ≡ h → IsAlone (sight z) q
  new_alone q m e = record { unlent = unlent; sole = λ p i s. ⊎_elim (λ (n : IsStale (sight z) p.at). inl n) (λ (n : p.at ≡ Some h). inr (held_there z q.at p.at (n ∙ ap Some (sym e)))) (not_beside p i (s ∙ object)) }
    where
      b : OfBorrows gz q (things_of z)
      b = of_borrows gz q (things_of z) m

      object : q.reference.object ≡ o
      object = ap (λ (y : Pointer). y.object) (at_h k z h o w r (record { at = Some q.at; word = q.reference.word; object = q.reference.object }) (told z q.at (value.Mut q.reference) (record { at = Some q.at; word = q.reference.word; object = q.reference.object }) (borrow_stands z r.places q.at q.reference b.among) (inl refl)) (ap Some e))

      unlent : (g : Reference) → Among g (references gz (things_of z)) → is_held_at q.at g.holder ≡ true → ⊥
      unlent g i f = let y = back g i in unmade y.reference y.among (subst (λ l. is_held_at l y.reference.holder ≡ true) e (ap (is_held_at q.at) y.holder ∙ f))

  module _ (alone : DirtyAlone (sight k)) (q : Reference) (m : Among q (references gz (things_of z))) (d : q.reference.dirty ≡ true) (f : IsStale (sight z) (Some q.at) → ⊥) (other_place : q.at ≡ h → ⊥) where
    b : OfBorrows gz q (things_of z)
    b = of_borrows gz q (things_of z) m

    stood : value_in gk q.at ≡ Some (value.Mut q.reference)
    stood = sym (r.reworded.elsewhere q.at other_place) ∙ borrow_stands z r.places q.at q.reference b.among

    abbrev old : Reference
    old = record { at = q.at; holder = holder_of gk q.at q.reference.holder; reference = q.reference }

    was_alone : IsAlone (sight k) old
    was_alone = alone old (reference_there k q.at q.reference stood) d (λ s. f (still_stale k z h o w r.reworded (places k z h o w r) r.places q.at s))

    still : (l : Option Location) → IsStale (sight k) l → IsStale (sight z) l
    still None s = s
    still (Some l) s = still_stale k z h o w r.reworded (places k z h o w r) r.places l s

    -- its object isn't the one whose word changes
    other_object : q.reference.object ≡ o → ⊥
    other_object e =
        ⊎_elim other_place (λ (x : Above gk q.at h ⊎ IsStale (sight k) (Some q.at)). ⊎_elim (λ (a : Above gk q.at h). f (above_stale k z h o w r q.at a)) (λ (s : IsStale (sight k) (Some q.at)). f (still_stale k z h o w r.reworded (places k z h o w r) r.places q.at s)) x)
        (r.only.others (record { at = Some q.at; word = q.reference.word; object = q.reference.object }) q.at
        (told k q.at (value.Mut q.reference) (record { at = Some q.at; word = q.reference.word; object = q.reference.object }) stood (inl refl)) e refl)

    -- a pointer that stands stood, where it isn't to that object
    stood_before : (p : Pointer) → Among p (standing_in (things_of z)) → p.object ≡ q.reference.object → Among p (standing_in (things_of k))
    stood_before p i e = by p.at refl
      where
        at : (l : Location) → p.at ≡ Some l → (l ≡ h) ⊎ (l ≡ h → ⊥) → Among p (standing_in (things_of k))
        at l s (inl t) = absurd (other_object (sym e ∙ ap (λ (y : Pointer). y.object) (at_h k z h o w r p (stands_in p (things_of z) i) (s ∙ ap Some t))))
        at l s (inr n) = let y = tells z r.places p l (stands_in p (things_of z) i) s in told_standing k l y.value p (sym (r.reworded.elsewhere l n) ∙ y.stands) y.pointer

        by : (v : Option Location) → p.at ≡ v → Among p (standing_in (things_of k))
        by None s = unplaced_standing k z o r.reworded.loose p i s
        by (Some l) s = at l s (same_place l h)

    sole_still : (p : Pointer) → Among p (standing_pointers (sight z)) → p.object ≡ q.reference.object → IsStale (sight z) p.at ⊎ (is_held_at q.at p.at ≡ true)
    sole_still p i e =
        ⊎_elim (λ (s : IsStale (sight k) p.at). inl (still p.at s)) (λ (s : is_held_at q.at p.at ≡ true). inr s)
        (was_alone.sole p
        (⊎_elim (λ (y : Among p (standing_in (things_of z))). among_first p (standing_in (things_of k)) (taken_pointers (sight k).code gk gk.threads) (stood_before p y e))
        (λ (y : Among p (taken_pointers (sight z).code gz gz.threads)). among_second p (standing_in (things_of k)) (taken_pointers (sight k).code gk gk.threads) (subst (λ ps. Among p ps) (taken_all k z h o w r.reworded) y))
        (among_split p (standing_in (things_of z)) (taken_pointers (sight z).code gz gz.threads) i)) e)

    unlent_still : (g : Reference) → Among g (references gz (things_of z)) → is_held_at q.at g.holder ≡ true → ⊥
    unlent_still g i e = let y = back g i in was_alone.unlent y.reference y.among (ap (is_held_at q.at) y.holder ∙ e)

    pub still_alone : IsAlone (sight z) q
    still_alone = record { unlent = unlent_still; sole = sole_still }

pub holders_go_on : HoldersGoOn
holders_go_on k z h o w r = holders k z h o w r

pub dirty_goes_on : DirtyGoOn
dirty_goes_on k z h o w r alone q m d f = ⊎_elim (λ (e : q.at ≡ h). new_alone k z h o w r q m e) (λ (n : q.at ≡ h → ⊥). still_alone k z h o w r alone q m d f n) (same_place q.at h)
