-- Where a value goes from one place to another, and no mutable reference was made from it, the words stay.
use Rattle.std.proofs.Common.{◌≡◌, ◌⊎◌, inl, inr, ⊎_elim, ℕ, Bool, true, false, ◌||◌, List, [], Option, Some, None, refl, sym, ap, subst, ◌∙◌}
use Rattle.law_words_kept.specs.Below.fr_base.declared.instruction.Instr.{Instr}
use Rattle.law_words_kept.specs.Below.heap_partition.declared.value.Cell.{Cell}
use Rattle.law_words_kept.specs.Below.heap_partition.declared.value.Owned.TheVariants as owned
use Rattle.law_words_kept.specs.Below.mut_borrow.declared.mutable.MutRef.{MutRef}
use Rattle.law_words_kept.specs.Below.mut_borrow.Refs.{changed}
use Rattle.law_words_kept.specs.Below.server_model.Servers.{Cluster}
use Rattle.law_words_kept.specs.Below.thread_state.declared.value.Value.{Value}
use Rattle.law_words_kept.specs.Below.thread_state.declared.value.Value.TheVariants as value
use Rattle.law_words_kept.specs.Below.coherent_memory.Names.{Among, other}
use Rattle.law_words_kept.specs.Below.coherent_memory.Things.{Location, at_slot, at_temp, in_cell, lies, things_of}
use Rattle.law_words_kept.specs.Below.coherent_memory.Follow.{Ground, value_in, value_behind, place_at}
use Rattle.law_words_kept.specs.Below.coherent_memory.Stale.{same_location, is_among, Reference, references, holder_of, is_held_at, with_place, lent_places, changed_above, stale_above, taken_above}
use Rattle.law_words_kept.specs.Below.coherent_memory.Sight.{Pointer, pointers_in, taken_object, taken_pointers, sight}
use Rattle.law_words_kept.specs.Below.coherent_memory.Placing.{is_first, other_first, standing_in, standing_pointers}
use Rattle.law_words_kept.specs.Below.coherent_memory.Coherent.{Holds, first_at_holder}
use Rattle.law_words_kept.specs.Below.coherent_memory.Words.{all_pointers, IsStale, Fresh, HasWords, LeadsTo}
use Rattle.law_words_kept.specs.Below.coherent_memory.Dirty.{DirtyAlone, PastWords}
use Rattle.law_words_kept.proofs.Below.coherent_memory.Bags.{among_split}
use Rattle.law_words_kept.proofs.Below.coherent_memory.Words.{none_at, none_all}
use Rattle.law_words_kept.proofs.Below.law_words_paths.paths.Origins.{among_first, among_second}
use Rattle.law_words_kept.proofs.Below.law_words_paths.paths.Contained.{location_itself, reference_there}
use Rattle.law_words_kept.proofs.Below.law_words_paths.paths.FreshPaths.{held_at, same_is}
use Rattle.law_words_kept.specs.Below.law_words_paths.words.Reworded.{HasPlaces}
use Rattle.law_words_kept.specs.Below.law_words_paths.words.Unmoved.{owning, seen_at, takings, WordsStay}
use Rattle.law_words_kept.proofs.Below.law_words_paths.words.Standing.{pointer_at, Tells, tells, told, told_standing, stands_in, borrow_stands}
use Rattle.law_words_kept.proofs.Below.law_words_paths.words.Takings.{reference_at, seen_pointer_at, first_at, lent_by, taken_by, lents_are, takens_are, lent_listed, lent_told, taken_listed, taken_told}
use Rattle.law_words_kept.proofs.Below.law_words_paths.words.Grounds.{of_borrows, same_place}
use Rattle.law_words_values.specs.carried.Carried.{Carried, CarriedStays}

-- A PLACE OR NONE

pub is_at : (l : Location) (o : Option Location) → (Some l ≡ o) ⊎ (Some l ≡ o → ⊥)
is_at l None = inr (λ e. absurd cc)
is_at l (Some m) = ⊎_elim (λ (e : l ≡ m). inl (ap Some e)) (λ (n : l ≡ m → ⊥). inr (λ e. n cc)) (same_place l m)

-- the pointer of a value at another location
moved_pointer : (l m : Location) (v : Value) (p : Pointer) → Among p (pointer_at l v) → Among (record p { at = Some m }) (pointer_at m v)
moved_pointer l m (value.Own (owned.Box b)) p (inl e) = inl (ap (λ (q : Pointer). record q { at = Some m }) e)
moved_pointer l m (value.Own (owned.Box b)) p (inr h) = absurd h
moved_pointer l m (value.Mut r) p (inl e) = inl (ap (λ (q : Pointer). record q { at = Some m }) e)
moved_pointer l m (value.Mut r) p (inr h) = absurd h
moved_pointer l m (value.Own owned.Nothing) p h = absurd h
moved_pointer l m (value.Own owned.Unit) p h = absurd h
moved_pointer l m (value.Own (owned.Int i)) p h = absurd h
moved_pointer l m (value.Own (owned.Mutex i)) p h = absurd h
moved_pointer l m (value.Own (owned.Task i)) p h = absurd h
moved_pointer l m value.Gone p h = absurd h
moved_pointer l m (value.SharedSlot i) p h = absurd h
moved_pointer l m (value.MutSlot i) p h = absurd h
moved_pointer l m (value.Shared r) p h = absurd h
moved_pointer l m (value.Held i) p h = absurd h

-- what words see of a temporary value tells its pointer
owning_reference : (o : Option Value) (r : MutRef) → owning o ≡ Some (value.Mut r) → o ≡ Some (value.Mut r)
owning_reference o r e = reference_at (at_temp 0 0) o r e

owning_pointer : (o : Option Value) (v : Value) (l : Location) (p : Pointer) → owning o ≡ owning (Some v) → Among p (pointer_at l v) → o ≡ Some v
owning_pointer o v l p e h = seen_pointer_at (at_temp 0 0) o v (record p { at = Some (at_temp 0 0) }) e (moved_pointer l (at_temp 0 0) v p h)

-- what has no pointer has none
no_pointer : (l : Location) (v : Value) (p : Pointer) → owning (Some v) ≡ None → Among p (pointer_at l v) → ⊥
no_pointer l v p e h = let z : None ≡ Some v = owning_pointer None v l p (sym e) h in absurd cc

no_reference : (o : Option Value) (r : MutRef) → owning o ≡ None → o ≡ Some (value.Mut r) → ⊥
no_reference o r e f = let z : Some (value.Mut r) ≡ None = ap owning (sym f) ∙ e in absurd cc

-- a reference whose holder's word is its first one has a holder
pub held_somewhere : (g : Ground) (r : MutRef) (o : Option Location) → other (is_first r (value_behind g o)) ≡ 0 → (m : Location) × (o ≡ Some m)
held_somewhere g r None e = absurd cc
held_somewhere g r (Some m) e = (m, refl)

-- one place that is lent
pub lent_there : (l : Location) (o : Option Location) → is_among l (with_place o []) ≡ true → o ≡ Some l
lent_there l None e = absurd cc
lent_there l (Some m) e = by (same_location m l) refl e
  where
    by : (b : Bool) → same_location m l ≡ b → (b || false) ≡ true → Some m ≡ Some l
    by true q f = ap Some (same_is m l q)
    by false q f = absurd cc

module _ (k z : Cluster) (f g : Option Location) (c : HasPlaces k) (d : HasPlaces z) (firsts : Holds k first_at_holder) (u : Carried k z f g) where
  abbrev gk : Ground
  gk = (sight k).ground

  abbrev gz : Ground
  gz = (sight z).ground

  -- REFERENCES

  -- the same reference in the other cluster, at the same place or where it came to
  record Twin (h : Ground) (y : Cluster) (a b : Option Location) (q : Reference) : Type 0 where
    reference : Reference
    among : Among reference (references h (things_of y))
    same : reference.reference ≡ q.reference
    holder : reference.holder ≡ q.holder
    at : ((reference.at ≡ q.at) × (Some q.at ≡ a → ⊥)) ⊎ ((Some q.at ≡ a) × (Some reference.at ≡ b))

  first_of : (q : Reference) → Among q (references gk (things_of k)) → (m : Location) × (q.holder ≡ Some m)
  first_of q i = held_somewhere gk q.reference q.holder (none_at (other_first gk) q (references gk (things_of k)) firsts i)

  stood : (q : Reference) → Among q (references gk (things_of k)) → value_in gk q.at ≡ Some (value.Mut q.reference)
  stood q i = borrow_stands k c q.at q.reference (of_borrows gk q (things_of k) i).among

  held_so : (q : Reference) (m : Location) → Among q (references gk (things_of k)) → q.holder ≡ Some m → holder_of gk q.at q.reference.holder ≡ Some m
  held_so q m i e = sym (of_borrows gk q (things_of k) i).holder ∙ e

  twin_on : (q : Reference) → Among q (references gk (things_of k)) → Twin gz z f g q
  twin_on q i = ⊎_elim (λ (e : Some q.at ≡ f). away g refl e) (λ (n : Some q.at ≡ f → ⊥). stays n) (is_at q.at f)
    where
      r : MutRef
      r = q.reference

      h : (m : Location) × (q.holder ≡ Some m)
      h = first_of q i

      same_holder : holder_of gz q.at r.holder ≡ q.holder
      same_holder = u.holders q.at h.0 r (stood q i) (held_so q h.0 i h.1) ∙ sym h.1

      away : (o : Option Location) → g ≡ o → Some q.at ≡ f → Twin gz z f g q
      away None e x = absurd (u.ends q.at r (sym x) e (stood q i))
      away (Some m) e x =
          let there : value_in gz m ≡ Some (value.Mut r) = owning_reference (value_in gz m) r (u.carried q.at m (sym x) e ∙ ap owning (stood q i)) in record {
            reference = record { at = m; holder = holder_of gz m r.holder; reference = r };
            among = reference_there z m r there;
            same = refl;
            holder = u.thread q.at m r.holder (sym x) e ∙ same_holder;
            at = inr (x, sym e);
          }

      stays : (Some q.at ≡ f → ⊥) → Twin gz z f g q
      stays n =
          let not_new : Some q.at ≡ g → ⊥ = λ e. no_reference (value_in gk q.at) r (u.free q.at (sym e)) (stood q i) in
          let there : value_in gz q.at ≡ Some (value.Mut r) = reference_at q.at (value_in gz q.at) r (u.stands q.at n not_new ∙ ap (seen_at q.at) (stood q i)) in record {
            reference = record { at = q.at; holder = holder_of gz q.at r.holder; reference = r };
            among = reference_there z q.at r there;
            same = refl;
            holder = same_holder;
            at = inl (refl, n);
          }

  twin_back : (q : Reference) → Among q (references gz (things_of z)) → Twin gk k g f q
  twin_back q i = ⊎_elim (λ (e : Some q.at ≡ g). away f refl e) (λ (n : Some q.at ≡ g → ⊥). stays n) (is_at q.at g)
    where
      r : MutRef
      r = q.reference

      stands_z : value_in gz q.at ≡ Some (value.Mut r)
      stands_z = borrow_stands z d q.at r (of_borrows gz q (things_of z) i).among

      its : q.holder ≡ holder_of gz q.at r.holder
      its = (of_borrows gz q (things_of z) i).holder

      made : (l : Location) → value_in gk l ≡ Some (value.Mut r) → holder_of gz q.at r.holder ≡ holder_of gz l r.holder → ((l ≡ q.at) × (Some q.at ≡ g → ⊥)) ⊎ ((Some q.at ≡ g) × (Some l ≡ f)) → Twin gk k g f q
      made l e w a =
          let y : Reference = record { at = l; holder = holder_of gk l r.holder; reference = r } in
          let there = reference_there k l r e in
          let h = first_of y there in record {
            reference = y;
            among = there;
            same = refl;
            holder = h.1 ∙ sym (u.holders l h.0 r e h.1) ∙ sym w ∙ sym its;
            at = a;
          }

      away : (o : Option Location) → f ≡ o → Some q.at ≡ g → Twin gk k g f q
      away None e x = absurd (u.begins q.at r (sym x) e stands_z)
      away (Some l) e x = made l (owning_reference (value_in gk l) r (sym (u.carried l q.at e (sym x)) ∙ ap owning stands_z)) (u.thread l q.at r.holder e (sym x)) (inr (x, sym e))

      stays : (Some q.at ≡ g → ⊥) → Twin gk k g f q
      stays n =
          let not_old : Some q.at ≡ f → ⊥ = λ e. no_reference (value_in gz q.at) r (u.left q.at (sym e)) stands_z in
          made q.at (reference_at q.at (value_in gk q.at) r (sym (u.stands q.at not_old n) ∙ ap (seen_at q.at) stands_z)) refl (inl (refl, n))

  -- WHAT IS STALE

  lent_on : (l : Location) → is_among l (lent_places k.code gk gk.threads) ≡ true → is_among l (lent_places z.code gz gz.threads) ≡ true
  lent_on l e =
      let y = lent_told gk l (takings k.code gk.threads) (sym (ap (is_among l) (lents_are k.code gk gk.threads)) ∙ e) in
      ap (is_among l) (lents_are z.code gz gz.threads) ∙ lent_listed gz l y.taking (takings z.code gz.threads) (u.took y.taking y.among) (ap (λ m. is_among l (with_place m [])) (u.taken y.taking y.among).1 ∙ y.at)

  lent_back : (l : Location) → is_among l (lent_places z.code gz gz.threads) ≡ true → is_among l (lent_places k.code gk gk.threads) ≡ true
  lent_back l e =
      let y = lent_told gz l (takings z.code gz.threads) (sym (ap (is_among l) (lents_are z.code gz gz.threads)) ∙ e) in
      let w = u.takes y.taking y.among in
      ap (is_among l) (lents_are k.code gk gk.threads) ∙ lent_listed gk l y.taking (takings k.code gk.threads) w (ap (λ m. is_among l (with_place m [])) (sym (u.taken y.taking w).1) ∙ y.at)

  -- nobody has taken from f or g
  free_of : (l : Location) → is_among l (lent_places k.code gk gk.threads) ≡ true → (Some l ≡ f → ⊥) × (Some l ≡ g → ⊥)
  free_of l e =
      let y = lent_told gk l (takings k.code gk.threads) (sym (ap (is_among l) (lents_are k.code gk gk.threads)) ∙ e) in
      u.untaken y.taking l y.among (lent_there l (lent_by gk y.taking) y.at)

  made_of : (q : Reference) (l : Location) → Among q (references gk (things_of k)) → q.holder ≡ Some l → (Some l ≡ f → ⊥) × (Some l ≡ g → ⊥)
  made_of q l i e = u.unmade q.at l q.reference (stood q i) (held_so q l i e)

  calm_before : (l : Location) → Some l ≡ f → IsStale (sight k) (Some l) → ⊥
  calm_before l e (changed_above q i h ch) = (made_of q l i (held_at l q.holder h)).0 e
  calm_before l e (stale_above q i h s) = (made_of q l i (held_at l q.holder h)).0 e
  calm_before l e (taken_above m) = (free_of l m).0 e

  made_after : (q : Reference) (l : Location) → Among q (references gz (things_of z)) → is_held_at l q.holder ≡ true → Some l ≡ g → ⊥
  made_after q l i h e = let y = twin_back q i in (made_of y.reference l y.among (y.holder ∙ held_at l q.holder h)).1 e

  calm_after : (l : Location) → Some l ≡ g → IsStale (sight z) (Some l) → ⊥
  calm_after l e (changed_above q i h ch) = made_after q l i h e
  calm_after l e (stale_above q i h s) = made_after q l i h e
  calm_after l e (taken_above m) = (free_of l (lent_back l m)).1 e

  stale_on : (l : Location) → IsStale (sight k) (Some l) → IsStale (sight z) (Some l)
  stale_on l (changed_above q i h ch) = let y = twin_on q i in changed_above y.reference y.among (ap (is_held_at l) y.holder ∙ h) (ap changed y.same ∙ ch)
  stale_on l (stale_above q i h s) =
      let y = twin_on q i in
      stale_above y.reference y.among (ap (is_held_at l) y.holder ∙ h)
      (⊎_elim (λ (a : (y.reference.at ≡ q.at) × (Some q.at ≡ f → ⊥)). subst (λ m. IsStale (sight z) (Some m)) (sym a.0) (stale_on q.at s)) (λ (a : (Some q.at ≡ f) × (Some y.reference.at ≡ g)). absurd (calm_before q.at a.0 s)) y.at)
  stale_on l (taken_above m) = taken_above (lent_on l m)

  stale_back : (l : Location) → IsStale (sight z) (Some l) → IsStale (sight k) (Some l)
  stale_back l (changed_above q i h ch) = let y = twin_back q i in changed_above y.reference y.among (ap (is_held_at l) y.holder ∙ h) (ap changed y.same ∙ ch)
  stale_back l (stale_above q i h s) =
      let y = twin_back q i in
      stale_above y.reference y.among (ap (is_held_at l) y.holder ∙ h)
      (⊎_elim (λ (a : (y.reference.at ≡ q.at) × (Some q.at ≡ g → ⊥)). subst (λ m. IsStale (sight k) (Some m)) (sym a.0) (stale_back q.at s)) (λ (a : (Some q.at ≡ g) × (Some y.reference.at ≡ f)). absurd (calm_after q.at a.0 s)) y.at)
  stale_back l (taken_above m) = taken_above (lent_back l m)

  -- a reference that is fresh was
  fresh_was : (q : Reference) (y : Twin gk k g f q) → (IsStale (sight z) (Some q.at) → ⊥) → IsStale (sight k) (Some y.reference.at) → ⊥
  fresh_was q y n s =
      ⊎_elim (λ (a : (y.reference.at ≡ q.at) × (Some q.at ≡ g → ⊥)). n (stale_on q.at (subst (λ m. IsStale (sight k) (Some m)) a.0 s))) (λ (a : (Some q.at ≡ g) × (Some y.reference.at ≡ f)). calm_before y.reference.at a.1 s) y.at

  -- a reference that isn't stale goes on as one that isn't, and comes from such a one
  pub fresh_on : (q : Reference) → Among q (references gk (things_of k)) → (IsStale (sight k) (Some q.at) → ⊥) → (y : Reference) × Among y (references gz (things_of z)) × (y.reference ≡ q.reference) × (IsStale (sight z) (Some y.at) → ⊥)
  fresh_on q i n =
      let y = twin_on q i in (
        y.reference,
        y.among,
        y.same,
        λ s. ⊎_elim (λ (a : (y.reference.at ≡ q.at) × (Some q.at ≡ f → ⊥)). n (stale_back q.at (subst (λ m. IsStale (sight z) (Some m)) a.0 s))) (λ (a : (Some q.at ≡ f) × (Some y.reference.at ≡ g)). calm_after y.reference.at a.1 s) y.at,
      )

  pub fresh_back : (q : Reference) → Among q (references gz (things_of z)) → (IsStale (sight z) (Some q.at) → ⊥) → (y : Reference) × Among y (references gk (things_of k)) × (y.reference ≡ q.reference) × (IsStale (sight k) (Some y.at) → ⊥)
  fresh_back q i n = let y = twin_back q i in (y.reference, y.among, y.same, fresh_was q y n)

  -- POINTERS

  -- the same pointer among others, at the same place or where it went
  record Same (ps : List Pointer) (a b : Option Location) (p : Pointer) : Type 0 where
    pointer : Pointer
    among : Among pointer ps
    word : pointer.word ≡ p.word
    object : pointer.object ≡ p.object
    at : ((pointer.at ≡ p.at) × ((l : Location) → p.at ≡ Some l → (Some l ≡ a → ⊥) × (Some l ≡ b → ⊥))) ⊎ ((p.at ≡ a) × (pointer.at ≡ b))

  itself : {ps : List Pointer} {a b : Option Location} (p : Pointer) → Among p ps → ((l : Location) → p.at ≡ Some l → (Some l ≡ a → ⊥) × (Some l ≡ b → ⊥)) → Same ps a b p
  itself p m n = record { pointer = p; among = m; word = refl; object = refl; at = inl (refl, n) }

  goes_to : {ps : List Pointer} {a b : Option Location} (p : Pointer) → Among (record p { at = b }) ps → p.at ≡ a → Same ps a b p
  goes_to {b = b} p m e = record { pointer = record p { at = b }; among = m; word = refl; object = refl; at = inr (e, refl) }

  nowhere : (p : Pointer) (a b : Option Location) → p.at ≡ None → (l : Location) → p.at ≡ Some l → (Some l ≡ a → ⊥) × (Some l ≡ b → ⊥)
  nowhere p a b e l h = let x : None ≡ Some l = sym e ∙ h in absurd cc

  at_some : (p : Pointer) (a b : Option Location) (l : Location) → p.at ≡ Some l → (Some l ≡ a → ⊥) → (Some l ≡ b → ⊥) → (m : Location) → p.at ≡ Some m → (Some m ≡ a → ⊥) × (Some m ≡ b → ⊥)
  at_some p a b l e x y m h = let s : Some l ≡ Some m = sym e ∙ h in (λ q. x (s ∙ q), λ q. y (s ∙ q))

  in_on : (p : Pointer) → Among p (pointers_in (things_of k)) → Same (pointers_in (things_of z)) f g p
  in_on p m = by p.at refl
    where
      at : (l : Location) → p.at ≡ Some l → Same (pointers_in (things_of z)) f g p
      at l e = ⊎_elim (λ (x : Some l ≡ f). away g refl x) (λ (n : Some l ≡ f → ⊥). stays n) (is_at l f)
        where
          t : Tells k l p
          t = tells k c p l m e

          away : (o : Option Location) → g ≡ o → Some l ≡ f → Same (pointers_in (things_of z)) f g p
          away None q x = goes_to p (subst (λ (n : Option Location). Among (record p { at = n }) (pointers_in (things_of z))) (sym q) (u.out l p (sym x) q e m)) (e ∙ x)
          away (Some n) q x =
              let there : value_in gz n ≡ Some t.value = owning_pointer (value_in gz n) t.value l p (u.carried l n (sym x) q ∙ ap owning t.stands) t.pointer in
              goes_to p (subst (λ (w : Option Location). Among (record p { at = w }) (pointers_in (things_of z))) (sym q) (told z n t.value (record p { at = Some n }) there (moved_pointer l n t.value p t.pointer))) (e ∙ x)

          stays : (Some l ≡ f → ⊥) → Same (pointers_in (things_of z)) f g p
          stays n =
              let not_new : Some l ≡ g → ⊥ = λ x. no_pointer l t.value p (ap owning (sym t.stands) ∙ u.free l (sym x)) t.pointer in
              itself p (told z l t.value p (seen_pointer_at l (value_in gz l) t.value p (u.stands l n not_new ∙ ap (seen_at l) t.stands) t.pointer) t.pointer) (at_some p f g l e n not_new)

      by : (o : Option Location) → p.at ≡ o → Same (pointers_in (things_of z)) f g p
      by None e =
          ⊎_elim (λ (x : Among p (pointers_in (things_of z))). itself p x (nowhere p f g e)) (λ (x : (f ≡ None) × Among (record p { at = g }) (pointers_in (things_of z))). goes_to p x.1 (e ∙ sym x.0)) (u.remain p e m)
      by (Some l) e = at l e

  -- back, to where it stands
  in_back : (p : Pointer) (l : Location) → Among p (pointers_in (things_of z)) → p.at ≡ Some l → Same (standing_in (things_of k)) g f p
  in_back p l m e = ⊎_elim (λ (x : Some l ≡ g). away f refl x) (λ (n : Some l ≡ g → ⊥). stays n) (is_at l g)
    where
      t : Tells z l p
      t = tells z d p l m e

      away : (o : Option Location) → f ≡ o → Some l ≡ g → Same (standing_in (things_of k)) g f p
      away None q x = goes_to p (subst (λ (n : Option Location). Among (record p { at = n }) (standing_in (things_of k))) (sym q) (u.into l p (sym x) q e m)) (e ∙ x)
      away (Some n) q x =
          let there : value_in gk n ≡ Some t.value = owning_pointer (value_in gk n) t.value l p (sym (u.carried n l q (sym x)) ∙ ap owning t.stands) t.pointer in
          goes_to p (subst (λ (w : Option Location). Among (record p { at = w }) (standing_in (things_of k))) (sym q) (told_standing k n t.value (record p { at = Some n }) there (moved_pointer l n t.value p t.pointer))) (e ∙ x)

      stays : (Some l ≡ g → ⊥) → Same (standing_in (things_of k)) g f p
      stays n =
          let not_old : Some l ≡ f → ⊥ = λ x. no_pointer l t.value p (ap owning (sym t.stands) ∙ u.left l (sym x)) t.pointer in
          itself p (told_standing k l t.value p (seen_pointer_at l (value_in gk l) t.value p (sym (u.stands l not_old n) ∙ ap (seen_at l) t.stands) t.pointer) t.pointer) (at_some p g f l e n not_old)

  wider : {ps qs : List Pointer} {a b : Option Location} {p : Pointer} → ((q : Pointer) → Among q ps → Among q qs) → Same ps a b p → Same qs a b p
  wider go s = record { pointer = s.pointer; among = go s.pointer s.among; word = s.word; object = s.object; at = s.at }

  all_back : (p : Pointer) → Among p (pointers_in (things_of z)) → Same (pointers_in (things_of k)) g f p
  all_back p m = by p.at refl
    where
      by : (o : Option Location) → p.at ≡ o → Same (pointers_in (things_of k)) g f p
      by None e =
          ⊎_elim (λ (x : Among p (pointers_in (things_of k))). itself p x (nowhere p g f e)) (λ (x : (g ≡ None) × Among (record p { at = f }) (pointers_in (things_of k))). goes_to p x.1 (e ∙ sym x.0)) (u.loose p e m)
      by (Some l) e = wider (λ q x. stands_in q (things_of k) x) (in_back p l m e)

  standing_back : (p : Pointer) → Among p (standing_in (things_of z)) → Same (standing_in (things_of k)) g f p
  standing_back p m = by p.at refl
    where
      by : (o : Option Location) → p.at ≡ o → Same (standing_in (things_of k)) g f p
      by None e =
          ⊎_elim (λ (x : Among p (standing_in (things_of k))). itself p x (nowhere p g f e)) (λ (x : (g ≡ None) × Among (record p { at = f }) (standing_in (things_of k))). goes_to p x.1 (e ∙ sym x.0)) (u.standing p e m)
      by (Some l) e = in_back p l (stands_in p (things_of z) m) e

  -- what was taken is the same
  taken_on : (p : Pointer) → Among p (taken_pointers k.code gk gk.threads) → Among p (taken_pointers z.code gz gz.threads)
  taken_on p h =
      let y = taken_told gk p (takings k.code gk.threads) (subst (λ ps. Among p ps) (takens_are k.code gk gk.threads) h) in
      let same : taken_by gz y.taking ≡ taken_by gk y.taking = ap (taken_object y.taking.word) (u.taken y.taking y.among).0 in
      subst (λ ps. Among p ps) (sym (takens_are z.code gz gz.threads)) (taken_listed gz p y.taking (takings z.code gz.threads) (u.took y.taking y.among) (subst (λ ps. Among p ps) (sym same) y.pointer))

  taken_back : (p : Pointer) → Among p (taken_pointers z.code gz gz.threads) → Among p (taken_pointers k.code gk gk.threads)
  taken_back p h =
      let y = taken_told gz p (takings z.code gz.threads) (subst (λ ps. Among p ps) (takens_are z.code gz gz.threads) h) in
      let w = u.takes y.taking y.among in
      let same : taken_by gz y.taking ≡ taken_by gk y.taking = ap (taken_object y.taking.word) (u.taken y.taking w).0 in
      subst (λ ps. Among p ps) (sym (takens_are k.code gk gk.threads)) (taken_listed gk p y.taking (takings k.code gk.threads) w (subst (λ ps. Among p ps) same y.pointer))

  taken_nowhere : (h : Ground) (code : List Instr) (p : Pointer) → Among p (taken_pointers code h h.threads) → p.at ≡ None
  taken_nowhere h code p m = let y = taken_told h p (takings code h.threads) (subst (λ ps. Among p ps) (takens_are code h h.threads) m) in at_none y.taking.word (place_at h y.taking.thread y.taking.place) y.pointer
    where
      at_none : (w : ℕ) (o : Option Location) → Among p (taken_object w o) → p.at ≡ None
      at_none w (Some (in_cell n)) (inl e) = sym (ap (λ (q : Pointer). q.at) e)
      at_none w (Some (in_cell n)) (inr x) = absurd x
      at_none w (Some (at_slot t i)) x = absurd x
      at_none w (Some (at_temp t i)) x = absurd x
      at_none w None x = absurd x

  every_on : (p : Pointer) → Among p (all_pointers (sight k)) → Same (all_pointers (sight z)) f g p
  every_on p m =
      ⊎_elim (λ (y : Among p (pointers_in (things_of k))). wider (λ q x. among_first q (pointers_in (things_of z)) (taken_pointers z.code gz gz.threads) x) (in_on p y))
      (λ (y : Among p (taken_pointers k.code gk gk.threads)). itself p (among_second p (pointers_in (things_of z)) (taken_pointers z.code gz gz.threads) (taken_on p y)) (nowhere p f g (taken_nowhere gk k.code p y)))
      (among_split p (pointers_in (things_of k)) (taken_pointers k.code gk gk.threads) m)

  every_back : (p : Pointer) → Among p (all_pointers (sight z)) → Same (all_pointers (sight k)) g f p
  every_back p m =
      ⊎_elim (λ (y : Among p (pointers_in (things_of z))). wider (λ q x. among_first q (pointers_in (things_of k)) (taken_pointers k.code gk gk.threads) x) (all_back p y))
      (λ (y : Among p (taken_pointers z.code gz gz.threads)). itself p (among_second p (pointers_in (things_of k)) (taken_pointers k.code gk gk.threads) (taken_back p y)) (nowhere p g f (taken_nowhere gz z.code p y)))
      (among_split p (pointers_in (things_of z)) (taken_pointers z.code gz gz.threads) m)

  all_standing_back : (p : Pointer) → Among p (standing_pointers (sight z)) → Same (standing_pointers (sight k)) g f p
  all_standing_back p m =
      ⊎_elim (λ (y : Among p (standing_in (things_of z))). wider (λ q x. among_first q (standing_in (things_of k)) (taken_pointers k.code gk gk.threads) x) (standing_back p y))
      (λ (y : Among p (taken_pointers z.code gz gz.threads)). itself p (among_second p (standing_in (things_of k)) (taken_pointers k.code gk gk.threads) (taken_back p y)) (nowhere p g f (taken_nowhere gz z.code p y)))
      (among_split p (standing_in (things_of z)) (taken_pointers z.code gz gz.threads) m)

  -- WHICH ARE STALE

  calm_f : (o : Option Location) → o ≡ f → IsStale (sight k) o → ⊥
  calm_f None e s = s
  calm_f (Some l) e s = calm_before l e s

  calm_g : (o : Option Location) → o ≡ g → IsStale (sight z) o → ⊥
  calm_g None e s = s
  calm_g (Some l) e s = calm_after l e s

  on_at : (o : Option Location) → IsStale (sight k) o → IsStale (sight z) o
  on_at None s = s
  on_at (Some l) s = stale_on l s

  back_at : (o : Option Location) → IsStale (sight z) o → IsStale (sight k) o
  back_at None s = s
  back_at (Some l) s = stale_back l s

  -- a pointer of the first cluster is stale where its twin of the second one is
  stale_twin : {ps : List Pointer} (p : Pointer) (s : Same ps f g p) → IsStale (sight z) s.pointer.at → IsStale (sight k) p.at
  stale_twin p s i =
      ⊎_elim (λ (a : (s.pointer.at ≡ p.at) × ((l : Location) → p.at ≡ Some l → (Some l ≡ f → ⊥) × (Some l ≡ g → ⊥))). back_at p.at (subst (λ o. IsStale (sight z) o) a.0 i))
      (λ (a : (p.at ≡ f) × (s.pointer.at ≡ g)). absurd (calm_g s.pointer.at a.1 i)) s.at

  -- and the other way
  stale_forth : {ps : List Pointer} (p : Pointer) (s : Same ps g f p) → IsStale (sight k) s.pointer.at → IsStale (sight z) p.at
  stale_forth p s i =
      ⊎_elim (λ (a : (s.pointer.at ≡ p.at) × ((l : Location) → p.at ≡ Some l → (Some l ≡ g → ⊥) × (Some l ≡ f → ⊥))). on_at p.at (subst (λ o. IsStale (sight k) o) a.0 i))
      (λ (a : (p.at ≡ g) × (s.pointer.at ≡ f)). absurd (calm_f s.pointer.at a.1 i)) s.at

  stale_there : {ps : List Pointer} (p : Pointer) (s : Same ps g f p) → IsStale (sight z) p.at → IsStale (sight k) s.pointer.at
  stale_there p s i =
      ⊎_elim (λ (a : (s.pointer.at ≡ p.at) × ((l : Location) → p.at ≡ Some l → (Some l ≡ g → ⊥) × (Some l ≡ f → ⊥))). subst (λ o. IsStale (sight k) o) (sym a.0) (back_at p.at i))
      (λ (a : (p.at ≡ g) × (s.pointer.at ≡ f)). absurd (calm_g p.at a.0 i)) s.at

  module _ (b : HasWords (sight k)) where
    live : (r a : ℕ) (e : Cell) → Among (lies r a e) (things_of z) → Fresh (sight z) e.object
    live r a e m =
        let y = u.lay r a e m in
        let x = subst (λ q. Fresh (sight k) q) y.object (b.live r a y.cell y.among) in
        let s = every_on x.pointer x.among in
        record { pointer = s.pointer; among = s.among; object = s.object ∙ x.object; fresh = λ i. x.fresh (stale_twin x.pointer s i) }

    home : (r a : ℕ) (e : Cell) → Among (lies r a e) (things_of z) → LeadsTo r a (b.word e.object)
    home r a e m = let y = u.lay r a e m in subst (λ q. LeadsTo r a (b.word q)) y.object (b.home r a y.cell y.among)

    same : (p : Pointer) → Among p (all_pointers (sight z)) → IsStale (sight z) p.at ⊎ (p.word ≡ b.word p.object)
    same p m =
        let s = every_back p m in
        ⊎_elim (λ (i : IsStale (sight k) s.pointer.at). inl (stale_forth p s i)) (λ (e : s.pointer.word ≡ b.word s.pointer.object). inr (sym s.word ∙ e ∙ ap b.word s.object)) (b.same s.pointer s.among)

    words_stay : WordsStay (sight k) (sight z) b
    words_stay = record { after = record { word = b.word; same = same; live = live; home = home }; same = λ p. refl }

  -- the word at a holder
  behind : (q : Reference) → Among q (references gk (things_of k)) → is_first q.reference (value_behind gz q.holder) ≡ is_first q.reference (value_behind gk q.holder)
  behind q i =
      let h = first_of q i in
      let n = made_of q h.0 i h.1 in
      ap (λ o. is_first q.reference (value_behind gz o)) h.1 ∙ sym (first_at q.reference h.0 (value_in gz h.0)) ∙ ap (is_first q.reference) (u.stands h.0 n.0 n.1) ∙ first_at q.reference h.0 (value_in gk h.0) ∙ sym (ap (λ o. is_first q.reference (value_behind gk o)) h.1)

  holders_stay : Holds z first_at_holder
  holders_stay =
      none_all (other_first gz) (references gz (things_of z))
      (λ q m.
      let y = twin_back q m in
      ap (λ r. other (is_first r (value_behind gz q.holder))) (sym y.same) ∙ ap (λ o. other (is_first y.reference.reference (value_behind gz o))) (sym y.holder)
      ∙ ap other (behind y.reference y.among) ∙ none_at (other_first gk) y.reference (references gk (things_of k)) firsts y.among)

  not_left : (q : Reference) → Among q (references gz (things_of z)) → Some q.at ≡ f → ⊥
  not_left q i e = no_reference (value_in gz q.at) q.reference (u.left q.at (sym e)) (borrow_stands z d q.at q.reference (of_borrows gz q (things_of z) i).among)

  -- its own pointer is its own
  own_pointer : (q : Reference) → Among q (references gz (things_of z)) → (y : Twin gk k g f q) (p : Pointer) {ps : List Pointer} (s : Same ps g f p) → is_held_at y.reference.at s.pointer.at ≡ true → is_held_at q.at p.at ≡ true
  own_pointer q i y p s h =
      let e : s.pointer.at ≡ Some y.reference.at = held_at y.reference.at s.pointer.at h in
      ⊎_elim
      (λ (a : (y.reference.at ≡ q.at) × (Some q.at ≡ g → ⊥)).
      ⊎_elim (λ (w : (s.pointer.at ≡ p.at) × ((l : Location) → p.at ≡ Some l → (Some l ≡ g → ⊥) × (Some l ≡ f → ⊥))). ap (is_held_at q.at) (sym w.0 ∙ e ∙ ap Some a.0) ∙ location_itself q.at)
      (λ (w : (p.at ≡ g) × (s.pointer.at ≡ f)). absurd (not_left q i (ap Some (sym a.0) ∙ sym e ∙ w.1))) s.at)
      (λ (a : (Some q.at ≡ g) × (Some y.reference.at ≡ f)).
      ⊎_elim (λ (w : (s.pointer.at ≡ p.at) × ((l : Location) → p.at ≡ Some l → (Some l ≡ g → ⊥) × (Some l ≡ f → ⊥))). absurd ((w.1 y.reference.at (sym w.0 ∙ e)).1 a.1))
      (λ (w : (p.at ≡ g) × (s.pointer.at ≡ f)). ap (is_held_at q.at) (w.0 ∙ sym a.0) ∙ location_itself q.at) s.at) y.at

  dirty_stays : DirtyAlone (sight k) → DirtyAlone (sight z)
  dirty_stays w q m e n =
      let y = twin_back q m in
      let a = w y.reference y.among (ap (λ (r : MutRef). r.dirty) y.same ∙ e) (fresh_was q y n) in record {
        unlent = λ x i h. unlent_so q y a.unlent x i h;
        sole = λ p i h.
            (let s = all_standing_back p i in
            ⊎_elim (λ (j : IsStale (sight k) s.pointer.at). inl (stale_forth p s j)) (λ (j : is_held_at y.reference.at s.pointer.at ≡ true). inr (own_pointer q m y p s j)) (a.sole s.pointer s.among (s.object ∙ h ∙ sym (ap (λ (r : MutRef). r.object) y.same))));
      }
    where
      unlent_so : (q : Reference) (y : Twin gk k g f q) → ((x : Reference) → Among x (references gk (things_of k)) → is_held_at y.reference.at x.holder ≡ true → ⊥) → (x : Reference) → Among x (references gz (things_of z)) → is_held_at q.at x.holder ≡ true → ⊥
      unlent_so q y none x i h =
          ⊎_elim (λ (a : (y.reference.at ≡ q.at) × (Some q.at ≡ g → ⊥)). let t = twin_back x i in none t.reference t.among (ap (λ l. is_held_at l t.reference.holder) a.0 ∙ ap (is_held_at q.at) t.holder ∙ h))
          (λ (a : (Some q.at ≡ g) × (Some y.reference.at ≡ f)). made_after x q.at i h a.0) y.at

  past_stays : PastWords (sight k) → PastWords (sight z)
  past_stays w q i n p m fresh e h =
      let y = twin_back q i in
      let s = every_back p m in
      w y.reference y.among (λ j. n (sym (ap (λ (r : MutRef). r.word) y.same) ∙ j ∙ ap (λ (r : MutRef). r.first) y.same)) s.pointer s.among (λ j. fresh (stale_forth p s j))
      (s.object ∙ e ∙ sym (ap (λ (r : MutRef). r.object) y.same)) (s.word ∙ h ∙ sym (ap (λ (r : MutRef). r.first) y.same))

pub carried_stays : CarriedStays
carried_stays k z f g c d firsts u = record {
  words = λ b. words_stay k z f g c d firsts u b;
  holders = λ h. holders_stay k z f g c d firsts u;
  dirty = dirty_stays k z f g c d firsts u;
  past = past_stays k z f g c d firsts u;
}
