-- The pointer that a thread may write through gets another word: whoever else points to the object stands above it, so the words go on.
use Rattle.std.proofs.Common.{◌≡◌, ◌⊎◌, inl, inr, ⊎_elim, ℕ, ◌==◌, true, List, [], ◌∷◌, Option, Some, None, refl, sym, ap, subst, ◌∙◌}
use Rattle.law_words_paths.specs.Below.fr_base.declared.name.ObjNo.{ObjNo}
use Rattle.law_words_paths.specs.Below.fr_base.declared.instruction.Instr.{Instr}
use Rattle.law_words_paths.specs.Below.fr_base.declared.instruction.Instr.TheVariants as instr
use Rattle.law_words_paths.specs.Below.heap_partition.declared.value.Owned.TheVariants as owned
use Rattle.law_words_paths.specs.Below.mut_borrow.declared.mutable.MutRef.{MutRef}
use Rattle.law_words_paths.specs.Below.thread_state.declared.phase.Phase.{Phase}
use Rattle.law_words_paths.specs.Below.thread_state.declared.phase.Phase.TheVariants as phase
use Rattle.law_words_paths.specs.Below.thread_state.declared.value.Value.{Value}
use Rattle.law_words_paths.specs.Below.thread_state.declared.value.Value.TheVariants as value
use Rattle.law_words_paths.specs.Below.server_model.Servers.{Cluster}
use Rattle.std.specs.Prelude.{slice_get}
use Rattle.law_words_paths.specs.Below.coherent_memory.Names.{Among, same_object}
use Rattle.law_words_paths.specs.Below.coherent_memory.Things.{Location, in_cell, things_of}
use Rattle.law_words_paths.specs.Below.coherent_memory.Follow.{Standing, Ground, value_in, value_behind, leads, locate}
use Rattle.law_words_paths.specs.Below.coherent_memory.Stale.{references, holder_of, changed_above, stale_above}
use Rattle.law_words_paths.specs.Below.coherent_memory.Sight.{Pointer, pointers_in, taken_object, taken_of, taken_pointers, sight}
use Rattle.law_words_paths.specs.Below.coherent_memory.Placing.{is_first, other_first, standing_pointers}
use Rattle.law_words_paths.specs.Below.coherent_memory.Coherent.{Holds, first_at_holder}
use Rattle.law_words_paths.specs.Below.coherent_memory.Words.{all_pointers, IsStale}
use Rattle.law_words_paths.proofs.Below.coherent_memory.Bags.{among_split}
use Rattle.law_words_paths.proofs.Below.coherent_memory.Words.{none_at, named}
use Rattle.law_words_paths.proofs.Below.coherent_memory.Names.{and_right}
use Rattle.law_words_paths.specs.paths.Pointing.{Above, made_from, made_below}
use Rattle.law_words_paths.proofs.paths.Sole.{some_is}
use Rattle.law_words_paths.proofs.paths.Shown.{none_else}
use Rattle.law_words_paths.proofs.paths.Origins.{among_first, among_second}
use Rattle.law_words_paths.proofs.paths.Contained.{reference_there, held_there}
use Rattle.law_words_paths.proofs.paths.Contained as contained
use Rattle.law_words_paths.specs.words.Reworded.{HasPlaces, Renewed, a_box, a_reference, Reworded}
use Rattle.law_words_paths.specs.words.Soles.{IsSole}
use Rattle.law_words_paths.specs.words.WordsAfter.{Rewrites, WordsGoOn, FreshGoOn, ChangedRewords}
use Rattle.law_words_paths.proofs.words.GoOn.{pointer_to, StoodElsewhere, Change, go_on}
use Rattle.law_words_paths.proofs.words.Standing.{pointer_at, told, tells}
use Rattle.law_words_paths.proofs.words.Alone.{above_holds}
use Rattle.law_words_paths.proofs.words.Outlines.{placed_stays, reworded_outlines, lies_alone}
use Rattle.law_words_paths.proofs.words.Loose.{unplaced, remains}
use Rattle.law_words_paths.proofs.words.Grounds.{same_place, reference_now, holders_same, taken_all, now, still_stale, newly_stale}

-- WHAT A VALUE POINTS TO

in_cell_is : {p o : ObjNo} → Some (in_cell p) ≡ Some (in_cell o) → p ≡ o
in_cell_is e = cc

pointer_of_object : (t : ℕ) (l : Location) (v : Value) (o : ObjNo) (p : Pointer) → leads t (Some v) ≡ Some (in_cell o) → Among p (pointer_at l v) → p.object ≡ o
pointer_of_object t l (value.Own (owned.Box b)) o p e (inl q) = ap (λ (y : Pointer). y.object) (sym q) ∙ in_cell_is e
pointer_of_object t l (value.Own (owned.Box b)) o p e (inr q) = absurd q
pointer_of_object t l (value.Mut r) o p e (inl q) = ap (λ (y : Pointer). y.object) (sym q) ∙ in_cell_is e
pointer_of_object t l (value.Mut r) o p e (inr q) = absurd q
pointer_of_object t l (value.Own owned.Nothing) o p e q = absurd q
pointer_of_object t l (value.Own owned.Unit) o p e q = absurd q
pointer_of_object t l (value.Own (owned.Int n)) o p e q = absurd q
pointer_of_object t l (value.Own (owned.Mutex m)) o p e q = absurd q
pointer_of_object t l (value.Own (owned.Task n)) o p e q = absurd q
pointer_of_object t l value.Gone o p e q = absurd q
pointer_of_object t l (value.SharedSlot i) o p e q = absurd q
pointer_of_object t l (value.MutSlot i) o p e q = absurd q
pointer_of_object t l (value.Shared r) o p e q = absurd q
pointer_of_object t l (value.Held m) o p e q = absurd q

-- with another word it is one pointer, with that word
renewed_pointer : (t w : ℕ) (l : Location) (old new : Value) (o : ObjNo) → Renewed w old new → leads t (Some old) ≡ Some (in_cell o) → pointer_at l new ≡ pointer_to l w o ∷ []
renewed_pointer t w l old new o (a_box p e f) to = ap (pointer_at l) f ∙ ap (λ y. pointer_to l w y ∷ []) (in_cell_is (sym (ap (λ v. leads t (Some v)) e) ∙ to))
renewed_pointer t w l old new o (a_reference r q e f word first object holder) to =
    ap (pointer_at l) f ∙ ap (λ n. pointer_to l n q.object ∷ []) word ∙ ap (λ y. pointer_to l w y ∷ []) (object ∙ in_cell_is (sym (ap (λ v. leads t (Some v)) e) ∙ to))

-- what was taken stands at no location
taken_object_nowhere : (w : ℕ) (l : Option Location) (p : Pointer) → Among p (taken_object w l) → p.at ≡ None
taken_object_nowhere w (Some (in_cell o)) p (inl e) = sym (ap (λ (y : Pointer). y.at) e)
taken_object_nowhere w (Some (in_cell o)) p (inr q) = absurd q
taken_object_nowhere w _ p q = absurd q

taken_of_nowhere : (g : Ground) (x : Standing) (f : Phase) (i : Option Instr) (p : Pointer) → Among p (taken_of g x.thread f i) → p.at ≡ None
taken_of_nowhere g x (phase.Taken w) (Some (instr.BorrowMut v)) p q = taken_object_nowhere w (locate g x.thread.number v.slot v.depth) p q
taken_of_nowhere g x (phase.Taken w) (Some _) p q = absurd q
taken_of_nowhere g x (phase.Taken w) None p q = absurd q
taken_of_nowhere g x _ i p q = absurd q

pub taken_nowhere : (code : List Instr) (g : Ground) (xs : List Standing) (p : Pointer) → Among p (taken_pointers code g xs) → p.at ≡ None
taken_nowhere code g [] p h = absurd h
taken_nowhere code g (x ∷ xs) p h =
    ⊎_elim (λ (l : Among p (taken_of g x.thread x.thread.phase (slice_get code x.thread.pc))). taken_of_nowhere g x x.thread.phase (slice_get code x.thread.pc) p l) (λ (q : Among p (taken_pointers code g xs)). taken_nowhere code g xs p q)
    (among_split p (taken_of g x.thread x.thread.phase (slice_get code x.thread.pc)) (taken_pointers code g xs) h)

-- WHAT STANDS ABOVE A POINTER IS TO THE SAME OBJECT

first_object : (t : ℕ) (q : MutRef) (v : Option Value) → is_first q v ≡ true → leads t v ≡ Some (in_cell q.object)
first_object t q (Some (value.Own (owned.Box p))) e = ap (λ y. Some (in_cell y)) (sym (named q.object p.object (and_right (q.first == p.word) (same_object q.object p.object) e)))
first_object t q (Some (value.Mut r)) e = ap (λ y. Some (in_cell y)) (sym (named q.object r.object (and_right (q.first == r.word) (same_object q.object r.object) e)))
first_object t q (Some (value.Own owned.Nothing)) e = absurd cc
first_object t q (Some (value.Own owned.Unit)) e = absurd cc
first_object t q (Some (value.Own (owned.Int n))) e = absurd cc
first_object t q (Some (value.Own (owned.Mutex m))) e = absurd cc
first_object t q (Some (value.Own (owned.Task n))) e = absurd cc
first_object t q (Some value.Gone) e = absurd cc
first_object t q (Some (value.SharedSlot i)) e = absurd cc
first_object t q (Some (value.MutSlot i)) e = absurd cc
first_object t q (Some (value.Shared r)) e = absurd cc
first_object t q (Some (value.Held m)) e = absurd cc
first_object t q None e = absurd cc

module _ (k : Cluster) (firsts : Holds k first_at_holder) where
  abbrev ground : Ground
  ground = (sight k).ground

  -- what a reference was made from leads where it does
  made_object : (t : ℕ) (l m : Location) (q : MutRef) → value_in ground m ≡ Some (value.Mut q) → holder_of ground m q.holder ≡ Some l → leads t (value_in ground l) ≡ Some (in_cell q.object)
  made_object t l m q e held =
      let there = reference_there k m q e in
      let none : other_first ground (record { at = m; holder = holder_of ground m q.holder; reference = q }) ≡ 0 = none_at (other_first ground) (record { at = m; holder = holder_of ground m q.holder; reference = q }) (references ground (things_of k)) firsts there in
      let first : is_first q (value_behind ground (holder_of ground m q.holder)) ≡ true = none_else (is_first q (value_behind ground (holder_of ground m q.holder))) none in
      first_object t q (value_in ground l) (ap (λ n. is_first q (value_behind ground n)) (sym held) ∙ first)

  pub above_leads : (t : ℕ) (l m : Location) (o : ObjNo) → Above ground l m → leads t (value_in ground m) ≡ Some (in_cell o) → leads t (value_in ground l) ≡ Some (in_cell o)
  above_leads t l m o (made_from q e held) f = made_object t l m q e held ∙ sym (ap (leads t) e) ∙ f
  above_leads t l m o (made_below {h = j} q e held rest) f = above_leads t l j o rest (made_object t j m q e held ∙ sym (ap (leads t) e) ∙ f)

module _ (k z : Cluster) (h : Location) (o : ObjNo) (w : ℕ) (all : Rewrites k z h o w) where
  abbrev d : HasPlaces z
  d = all.places

  abbrev r : Reworded k z h o w
  r = all.reworded

  abbrev gk : Ground
  gk = (sight k).ground

  abbrev gz : Ground
  gz = (sight z).ground

  abbrev n : ℕ
  n = 0

  pub places : HasPlaces k
  places = all.before

  points : leads n (Some r.old) ≡ Some (in_cell o)
  points = sym (ap (leads n) r.stood) ∙ all.only.to n

  pointer_now : pointer_at h r.new ≡ pointer_to h w o ∷ []
  pointer_now = renewed_pointer n w h r.old r.new o r.renewed points

  only_one : (p q : Pointer) (ps : List Pointer) → ps ≡ q ∷ [] → Among p ps → p ≡ q
  only_one p q ps e m = by (subst (λ xs. Among p xs) e m)
    where
      by : Among p (q ∷ []) → p ≡ q
      by (inl s) = sym s
      by (inr s) = absurd s

  -- a pointer at h is the new one
  pub at_h : (p : Pointer) → Among p (pointers_in (things_of z)) → p.at ≡ Some h → p ≡ pointer_to h w o
  at_h p m e =
      let t = tells z d p h m e in
      let is : t.value ≡ r.new = some_is (sym t.stands ∙ r.stands) in
      only_one p (pointer_to h w o) (pointer_at h t.value) (ap (pointer_at h) is ∙ pointer_now) t.pointer

  no_place : (p : Pointer) (l : Location) → p.at ≡ None → p.at ≡ Some l → ⊥
  no_place p l e f = let y : None ≡ Some l = sym e ∙ f in absurd cc

  taken_before : (p : Pointer) → Among p (taken_pointers (sight z).code gz gz.threads) → Among p (taken_pointers (sight k).code gk gk.threads)
  taken_before p m = subst (λ ps. Among p ps) (taken_all k z h o w r) m

  taken_after : (p : Pointer) → Among p (taken_pointers (sight k).code gk gk.threads) → Among p (taken_pointers (sight z).code gz gz.threads)
  taken_after p m = subst (λ ps. Among p ps) (sym (taken_all k z h o w r)) m

  pub stood : (p : Pointer) → Among p (all_pointers (sight z)) → (p ≡ pointer_to h w o) ⊎ StoodElsewhere (sight k) h p
  stood p m =
      ⊎_elim (λ (q : Among p (pointers_in (things_of z))). by p.at refl q)
      (λ (q : Among p (taken_pointers (sight z).code gz gz.threads)).
      let t = taken_before p q in
      inr (record { among = among_second p (pointers_in (things_of k)) (taken_pointers (sight k).code gk gk.threads) t; at = no_place p h (taken_nowhere (sight k).code gk gk.threads p t) }))
      (among_split p (pointers_in (things_of z)) (taken_pointers (sight z).code gz gz.threads) m)
    where
      from : Among p (pointers_in (things_of k)) → (p.at ≡ Some h → ⊥) → (p ≡ pointer_to h w o) ⊎ StoodElsewhere (sight k) h p
      from q f = inr (record { among = among_first p (pointers_in (things_of k)) (taken_pointers (sight k).code gk gk.threads) q; at = f })

      at_place : (l : Location) → p.at ≡ Some l → Among p (pointers_in (things_of z)) → (l ≡ h) ⊎ (l ≡ h → ⊥) → (p ≡ pointer_to h w o) ⊎ StoodElsewhere (sight k) h p
      at_place l e q (inl s) = inl (at_h p q (e ∙ ap Some s))
      at_place l e q (inr f) =
          let t = tells z d p l q e in
          from (told k l t.value p (sym (r.elsewhere l f) ∙ t.stands) t.pointer) (λ u. f (some_is (sym e ∙ u)))

      by : (a : Option Location) → p.at ≡ a → Among p (pointers_in (things_of z)) → (p ≡ pointer_to h w o) ⊎ StoodElsewhere (sight k) h p
      by None e q = from (unplaced k z o r.loose p q e) (no_place p h e)
      by (Some l) e q = at_place l e q (same_place l h)

  stays : (p : Pointer) → Among p (all_pointers (sight k)) → (p.object ≡ o → ⊥) → Among p (all_pointers (sight z))
  stays p m f =
      ⊎_elim (λ (q : Among p (pointers_in (things_of k))). among_first p (pointers_in (things_of z)) (taken_pointers (sight z).code gz gz.threads) (by p.at refl q))
      (λ (q : Among p (taken_pointers (sight k).code gk gk.threads)). among_second p (pointers_in (things_of z)) (taken_pointers (sight z).code gz gz.threads) (taken_after p q))
      (among_split p (pointers_in (things_of k)) (taken_pointers (sight k).code gk gk.threads) m)
    where
      at_place : (l : Location) → p.at ≡ Some l → Among p (pointers_in (things_of k)) → (l ≡ h) ⊎ (l ≡ h → ⊥) → Among p (pointers_in (things_of z))
      at_place l e q (inl s) =
          let t = tells k places p l q e in
          let is : t.value ≡ r.old = some_is (sym t.stands ∙ ap (value_in gk) s ∙ r.stood) in
          absurd (f (pointer_of_object n l t.value o p (ap (λ y. leads n (Some y)) is ∙ points) t.pointer))
      at_place l e q (inr u) = let t = tells k places p l q e in told z l t.value p (r.elsewhere l u ∙ t.stands) t.pointer

      by : (a : Option Location) → p.at ≡ a → Among p (pointers_in (things_of k)) → Among p (pointers_in (things_of z))
      by None e q = remains k z o r.remain p q e f
      by (Some l) e q = at_place l e q (same_place l h)

  here : Among (pointer_to h w o) (all_pointers (sight z))
  here =
      among_first (pointer_to h w o) (pointers_in (things_of z)) (taken_pointers (sight z).code gz gz.threads)
      (told z h r.new (pointer_to h w o) r.stands (subst (λ ps. Among (pointer_to h w o) ps) (sym pointer_now) (inl refl)))

  -- NO REFERENCE WAS MADE FROM IT

  not_above_itself : Above gk h h → ⊥
  not_above_itself a = let y = above_holds k h h a in all.only.unmade y.0 y.1 y.2

  -- WHAT STANDS ABOVE IT IS STALE

  up : (l m : Location) → IsStale (sight z) (Some m) → Above gk l m → IsStale (sight z) (Some l)
  up l m s (made_from q e held) =
      let y = (now k z h o w r places d (record { at = m; holder = holder_of gk m q.holder; reference = q }) (reference_there k m q e)).0 in
      stale_above y.reference y.among (held_there z l y.reference.holder (y.holder ∙ held)) (subst (λ j. IsStale (sight z) (Some j)) (sym y.at) s)
  up l m s (made_below {h = j} q e held rest) =
      let y = (now k z h o w r places d (record { at = m; holder = holder_of gk m q.holder; reference = q }) (reference_there k m q e)).0 in
      up l j (stale_above y.reference y.among (held_there z j y.reference.holder (y.holder ∙ held)) (subst (λ i. IsStale (sight z) (Some i)) (sym y.at) s)) rest

  -- the pointer from which the changed reference was made
  made_stale : (l : Location) (q : MutRef) → value_in gk h ≡ Some (value.Mut q) → holder_of gk h q.holder ≡ Some l → IsStale (sight z) (Some l)
  made_stale l q e held =
      let y = reference_now k z h o w r q e in
      let there : holder_of gz h y.0.holder ≡ Some l = ap (holder_of gz h) y.3.holder ∙ holders_same k z h o w r h q.holder ∙ held in
      changed_above (record { at = h; holder = holder_of gz h y.0.holder; reference = y.0 }) (reference_there z h y.0 y.1) (held_there z l (holder_of gz h y.0.holder) there) (r.changed y.0 y.2)

  pub above_stale : (l : Location) → Above gk l h → IsStale (sight z) (Some l)
  above_stale l (made_from q e held) = made_stale l q e held
  above_stale l (made_below {h = j} q e held rest) = up l j (made_stale j q e held) rest

  placed_after : (p : Pointer) → Among p (standing_pointers (sight z)) → p.object ≡ o → p.at ≡ None → ⊥
  placed_after = placed_stays k z places d (reworded_outlines k z h o w r) o all.only.placed

  -- each other pointer to the object is stale
  pub only : (p : Pointer) → Among p (all_pointers (sight z)) → p.object ≡ o → (p.at ≡ Some h) ⊎ IsStale (sight z) p.at
  only p m e = by p.at refl
    where
      other : (l : Location) → p.at ≡ Some l → (l ≡ h) ⊎ (Above gk l h ⊎ IsStale (sight k) (Some l)) → (p.at ≡ Some h) ⊎ IsStale (sight z) p.at
      other l f (inl s) = inl (f ∙ ap Some s)
      other l f (inr (inl a)) = inr (subst (λ n. IsStale (sight z) n) (sym f) (above_stale l a))
      other l f (inr (inr s)) = inr (subst (λ n. IsStale (sight z) n) (sym f) (still_stale k z h o w r places d l s))

      among : (l : Location) → p.at ≡ Some l → Among p (all_pointers (sight k)) → Among p (pointers_in (things_of k))
      among l f q =
          ⊎_elim (λ (y : Among p (pointers_in (things_of k))). y) (λ (y : Among p (taken_pointers (sight k).code gk gk.threads)). absurd (no_place p l (taken_nowhere (sight k).code gk gk.threads p y) f))
          (among_split p (pointers_in (things_of k)) (taken_pointers (sight k).code gk gk.threads) q)

      by : (a : Option Location) → p.at ≡ a → (p.at ≡ Some h) ⊎ IsStale (sight z) p.at
      by None f = absurd (lies_alone z o r.server r.address d placed_after r.lying p m e f)
      by (Some l) f = ⊎_elim (λ (q : p ≡ pointer_to h w o). inl (ap (λ (y : Pointer). y.at) q)) (λ (q : StoodElsewhere (sight k) h p). other l f (all.only.others p l (among l f q.among) e f)) (stood p m)

  fresh_now : IsStale (sight z) (Some h) → ⊥
  fresh_now s = ⊎_elim all.fresh not_above_itself (newly_stale k z h o w r places d h s)

  above_object : (p : Pointer) (l : Location) → Among p (all_pointers (sight k)) → p.at ≡ Some l → Above gk l h → p.object ≡ o
  above_object p l m f a =
      ⊎_elim
      (λ (q : Among p (pointers_in (things_of k))).
      let t = tells k places p l q f in
      let to : leads n (value_in gk h) ≡ Some (in_cell o) = ap (leads n) r.stood ∙ points in
      let is : leads n (Some t.value) ≡ Some (in_cell o) = sym (ap (leads n) t.stands) ∙ above_leads k all.firsts n l h o a to in
      pointer_of_object n l t.value o p is t.pointer)
      (λ (q : Among p (taken_pointers (sight k).code gk gk.threads)). absurd (no_place p l (taken_nowhere (sight k).code gk gk.threads p q) f))
      (among_split p (pointers_in (things_of k)) (taken_pointers (sight k).code gk gk.threads) m)

  change : Change (sight k) (sight z) h o w
  change = record {
    here = here;
    stood = stood;
    stays = stays;
    stale = still_stale k z h o w r places d;
    newly = newly_stale k z h o w r places d;
    leads = r.leads;
    lay = λ i a y m f. let q = r.lay i a y m f in record { cell = q.cell; among = q.among; object = q.object };
    only = only;
    above_object = above_object;
    fresh = fresh_now;
  }

  -- another pointer from which none was made stays fresh
  pub fresh_stays : (l : Location) (p : ObjNo) → IsSole k l p → (IsStale (sight k) (Some l) → ⊥) → IsStale (sight z) (Some l) → ⊥
  fresh_stays l p u f s = ⊎_elim f (λ (a : Above gk l h). let y = above_holds k l h a in u.unmade y.0 y.1 y.2) (newly_stale k z h o w r places d l s)

pub words_go_on : WordsGoOn
words_go_on k z h o w r before = go_on (sight k) (sight z) h o w (change k z h o w r) before

pub fresh_go_on : FreshGoOn
fresh_go_on k z h o w r l p u f s = fresh_stays k z h o w r l p u f s

pub changed_rewords : ChangedRewords
changed_rewords k z h o w all r e ch l s = ⊎_elim (λ (q : IsStale (sight k) (Some l)). q) (λ (a : Above (sight k).ground l h). contained.above_stale.changed k l h r e ch a) (newly_stale k z h o w all.reworded all.before all.places l s)
