-- Of two clusters words see the same, but that the second one has a mutable reference more, on top, made from a pointer that isn't stale, with its word and mark, or with the word
-- of the object that was taken for it: the words stay.
use Rattle.std.proofs.Common.{◌≡◌, ◌≢◌, ◌⊎◌, inl, inr, ⊎_elim, ℕ, zero, suc, not, ◌||◌, ◌==◌, Bool, true, false, [], ◌∷◌, Option, Some, None, refl, sym, ap, subst, ◌∙◌}
use Rattle.law_heap_steps.specs.Below.fr_base.declared.name.ObjNo.{ObjNo}
use Rattle.law_heap_steps.specs.Below.fr_base.declared.place.Lval.{Lval}
use Rattle.law_heap_steps.specs.Below.heap_partition.declared.value.Cell.{Cell}
use Rattle.law_heap_steps.specs.Below.heap_partition.declared.value.Owned.TheVariants as owned
use Rattle.law_heap_steps.specs.Below.mut_borrow.declared.mutable.MutRef.{MutRef}
use Rattle.law_heap_steps.specs.Below.mut_borrow.Refs.{changed}
use Rattle.law_heap_steps.specs.Below.thread_state.declared.value.Value.{Value}
use Rattle.law_heap_steps.specs.Below.thread_state.declared.value.Value.TheVariants as value
use Rattle.law_heap_steps.specs.Below.server_model.Servers.{Cluster}
use Rattle.law_heap_steps.specs.Below.coherent_memory.Names.{Among, other}
use Rattle.law_heap_steps.specs.Below.coherent_memory.Things.{Location, at_slot, at_temp, in_cell, lies, things_of}
use Rattle.law_heap_steps.specs.Below.coherent_memory.Follow.{Ground, value_in, value_behind, leads, locate, place_at}
use Rattle.law_heap_steps.specs.Below.coherent_memory.Stale.{is_among, same_location, Reference, references, holder_of, is_held_at, with_place, one_star_less, lent_places, changed_above, stale_above, taken_above}
use Rattle.law_heap_steps.specs.Below.coherent_memory.Sight.{Pointer, pointers_in, taken_object, taken_pointers, sight}
use Rattle.law_heap_steps.specs.Below.coherent_memory.Placing.{is_first, other_first, standing_in, standing_pointers}
use Rattle.law_heap_steps.specs.Below.coherent_memory.Coherent.{Holds, first_at_holder}
use Rattle.law_heap_steps.specs.Below.coherent_memory.Words.{all_pointers, IsStale, Fresh, HasWords, LeadsTo}
use Rattle.law_heap_steps.specs.Below.coherent_memory.Dirty.{IsAlone, DirtyAlone, PastWords}
use Rattle.law_heap_steps.proofs.Below.coherent_memory.Bags.{among_split}
use Rattle.law_heap_steps.proofs.Below.coherent_memory.Names.{same_number}
use Rattle.law_heap_steps.proofs.Below.coherent_memory.Words.{none_at, none_all}
use Rattle.law_words_values.proofs.Below.law_words_paths.paths.Contained.{location_itself, reference_there}
use Rattle.law_words_values.proofs.Below.law_words_paths.paths.FreshPaths.{held_at, same_is}
use Rattle.law_words_values.proofs.Below.law_words_paths.paths.Origins.{among_first, among_second}
use Rattle.law_words_values.proofs.Below.law_words_paths.paths.Sole.{some_is}
use Rattle.law_words_kept.specs.Below.law_words_paths.words.Reworded.{HasPlaces, LiesThere}
use Rattle.law_words_kept.specs.Below.law_words_paths.words.Unmoved.{seen_at, Taking, takings, WordsStay, LeavesWords}
use Rattle.law_words_kept.proofs.Below.law_words_paths.words.Standing.{pointer_at, Tells, tells, told_standing, stands_in, borrow_stands}
use Rattle.law_words_kept.proofs.Below.law_words_paths.words.Takings.{leads_pointing, reference_at, seen_pointer_at, first_at, lent_by, taken_by, lents_are, takens_are, lent_listed, lent_told, taken_listed, taken_told}
use Rattle.law_words_kept.proofs.Below.law_words_paths.words.Follows.{seen_holders_lead, seen_places_lead}
use Rattle.law_words_kept.proofs.Below.law_words_paths.words.Grounds.{OfBorrows, of_borrows, same_place}
use Rattle.law_words_values.proofs.carried.Passing.{no_temp}

-- made where the object lies: the pointer isn't stale, and its word and mark are the reference's
pub record MadeHere (k z : Cluster) (h : Location) (r : MutRef) (from : Value) : Type 0 where
  pub took : (x : Taking) → Among x (takings k.code (sight k).ground.threads) → Among x (takings z.code (sight z).ground.threads)
  pub fresh : IsStale (sight k) (Some h) → ⊥
  pub unchanged : r.word ≡ r.first
  pub mark : (q : MutRef) → from ≡ value.Mut q → q.dirty ≡ r.dirty
  pub marked : r.dirty ≡ true → (q : MutRef) × (from ≡ value.Mut q)

-- made of the object that was taken from that pointer: it has the word under which the object was taken, which isn't the pointer's, and isn't taken any more
pub record MadeOfTaken (k z : Cluster) (h : Location) (r : MutRef) : Type 0 where
  pub taking : Taking
  pub listed : Among taking (takings k.code (sight k).ground.threads)
  pub lent : lent_by (sight k).ground taking ≡ Some h
  pub its : taken_by (sight k).ground taking ≡ record { at = None; word = r.word; object = r.object } ∷ []
  pub took : (x : Taking) → Among x (takings k.code (sight k).ground.threads) → (taking ≡ x) ⊎ Among x (takings z.code (sight z).ground.threads)
  pub renewed : r.word ≢ r.first
  pub clean : r.dirty ≡ false

-- the second cluster has the reference on top of a thread, made from the pointer at the location
pub record LentOne (k z : Cluster) (t j : ℕ) (h : Location) (r : MutRef) : Type 0 where
  pub stands : (l : Location) → (l ≡ at_temp t j → ⊥) → seen_at l (value_in (sight z).ground l) ≡ seen_at l (value_in (sight k).ground l)
  pub now : value_in (sight z).ground (at_temp t j) ≡ Some (value.Mut r)
  pub empty : (v : Value) → value_in (sight k).ground (at_temp t j) ≡ Some v → ⊥
  pub held : holder_of (sight k).ground (at_temp t j) r.holder ≡ Some h
  pub takes : (x : Taking) → Among x (takings z.code (sight z).ground.threads) → Among x (takings k.code (sight k).ground.threads)
  pub loose : (p : Pointer) → p.at ≡ None → Among p (pointers_in (things_of z)) → Among p (pointers_in (things_of k))
  pub remain : (p : Pointer) → p.at ≡ None → Among p (pointers_in (things_of k)) → Among p (pointers_in (things_of z))
  pub standing : (p : Pointer) → p.at ≡ None → Among p (standing_in (things_of z)) → Among p (standing_in (things_of k))
  pub lay : (s a : ℕ) (c : Cell) → Among (lies s a c) (things_of z) → LiesThere k s a c.object
  -- what it is made from
  pub from : Value
  pub there : value_in (sight k).ground h ≡ Some from
  pub pointer : Among (record { at = Some h; word = r.first; object = r.object }) (pointer_at h from)
  pub first : is_first r (Some from) ≡ true
  pub made : MadeHere k z h r from ⊎ MadeOfTaken k z h r

-- a pointer at a location is the one there
one_pointer : (l : Location) (v : Value) (p q : Pointer) → Among p (pointer_at l v) → Among q (pointer_at l v) → p ≡ q
one_pointer l (value.Own (owned.Box b)) p q (inl e) (inl f) = sym e ∙ f
one_pointer l (value.Own (owned.Box b)) p q (inl e) (inr f) = absurd f
one_pointer l (value.Own (owned.Box b)) p q (inr e) f = absurd e
one_pointer l (value.Own owned.Nothing) p q e f = absurd e
one_pointer l (value.Own owned.Unit) p q e f = absurd e
one_pointer l (value.Own (owned.Int n)) p q e f = absurd e
one_pointer l (value.Own (owned.Mutex n)) p q e f = absurd e
one_pointer l (value.Own (owned.Task n)) p q e f = absurd e
one_pointer l (value.Mut r) p q (inl e) (inl f) = sym e ∙ f
one_pointer l (value.Mut r) p q (inl e) (inr f) = absurd f
one_pointer l (value.Mut r) p q (inr e) f = absurd e
one_pointer l value.Gone p q e f = absurd e
one_pointer l (value.SharedSlot i) p q e f = absurd e
one_pointer l (value.MutSlot i) p q e f = absurd e
one_pointer l (value.Shared r) p q e f = absurd e
one_pointer l (value.Held m) p q e f = absurd e

-- no holder is a temporary value
no_holder : (g : Ground) (l : Location) (w : Lval) (t j : ℕ) → holder_of g l w ≡ Some (at_temp t j) → ⊥
no_holder g (at_slot u i) w t j e = no_temp g u w.slot w.depth t j e
no_holder g (at_temp u i) w t j e = no_temp g u w.slot w.depth t j e
no_holder g (in_cell o) w t j e = absurd cc

-- nor was one taken from
no_lent : (g : Ground) (u slot n t j : ℕ) → is_among (at_temp t j) (with_place (one_star_less g u slot n) []) ≡ true → ⊥
no_lent g u slot zero t j e = absurd cc
no_lent g u slot (suc n) t j e = by (locate g u slot n) refl e
  where
    none_in : (b : Bool) → b ≡ false → (b || false) ≡ true → ⊥
    none_in true f q = absurd cc
    none_in false f q = absurd cc

    other_place : (l : Location) → (l ≡ at_temp t j → ⊥) → same_location l (at_temp t j) ≡ false
    other_place l n = by_test (same_location l (at_temp t j)) refl
      where
        by_test : (b : Bool) → same_location l (at_temp t j) ≡ b → b ≡ false
        by_test true q = absurd (n (same_is l (at_temp t j) q))
        by_test false q = refl

    by : (o : Option Location) → locate g u slot n ≡ o → is_among (at_temp t j) (with_place o []) ≡ true → ⊥
    by None f q = absurd cc
    by (Some l) f q = none_in (same_location l (at_temp t j)) (other_place l (λ s. no_temp g u slot n t j (f ∙ ap Some s))) q

-- what is changed without another word is dirty
clean_or_dirty : (r : MutRef) → changed r ≡ true → r.word ≡ r.first → r.dirty ≡ true
clean_or_dirty r e f = by r.dirty (r.word == r.first) refl (Rattle.std.proofs.lemmas.Bool.eq-eqb r.word r.first f) e
  where
    by : (d b : Bool) → r.dirty ≡ d → b ≡ true → (d || not b) ≡ true → r.dirty ≡ true
    by true b p q s = p
    by false true p q s = absurd cc
    by false false p q s = absurd cc

-- a dirty reference is changed
dirty_changes : (r : MutRef) → r.dirty ≡ true → changed r ≡ true
dirty_changes r e = ap (λ b. b || not (r.word == r.first)) e

-- another word is a change
word_changes : (r : MutRef) → r.word ≢ r.first → changed r ≡ true
word_changes r n = by r.dirty (r.word == r.first) refl
  where
    by : (d b : Bool) → (r.word == r.first) ≡ b → (d || not b) ≡ true
    by true b e = refl
    by false false e = refl
    by false true e = absurd (n (same_number r.word r.first e))

-- nothing was made from a pointer at no location
no_held : (l : Location) → is_held_at l None ≡ true → ⊥
no_held l e = cc e

-- one place is the only one of a list of it
only_here : (l h : Location) → is_among l (h ∷ []) ≡ true → l ≡ h
only_here l h e = by (same_location h l) refl e
  where
    by : (b : Bool) → same_location h l ≡ b → (b || false) ≡ true → l ≡ h
    by true f g = sym (same_is h l f)
    by false f g = absurd cc

-- and it is among it
here_is : (h : Location) → is_among h (h ∷ []) ≡ true
here_is h = ap (λ b. b || false) (location_itself h)

-- a reference is the one that stands there
mut_is : (r q : MutRef) → value.Mut r ≡ value.Mut q → r ≡ q
mut_is r q e = cc

-- what is nothing is no value
no_some : {A : Type 0} (a : A) (o : Option A) → o ≡ None → o ≡ Some a → ⊥
no_some a o e f = let q : None ≡ Some a = sym e ∙ f in absurd cc

-- FROM ONE CLUSTER TO THE OTHER, where slots and cells lead alike

module _ (a b : Cluster) (in_slots : (t u i : ℕ) → leads t (value_in (sight b).ground (at_slot u i)) ≡ leads t (value_in (sight a).ground (at_slot u i))) (in_cells : (t : ℕ) (o : ObjNo) → leads t (value_in (sight b).ground (in_cell o)) ≡ leads t (value_in (sight a).ground (in_cell o)))
    (takes : (x : Taking) → Among x (takings a.code (sight a).ground.threads) → Among x (takings b.code (sight b).ground.threads)) where
  abbrev ga : Ground
  ga = (sight a).ground

  abbrev gb : Ground
  gb = (sight b).ground

  -- a place with one star less leads alike
  less_same : (t slot d : ℕ) → one_star_less gb t slot d ≡ one_star_less ga t slot d
  less_same t slot zero = refl
  less_same t slot (suc d) = seen_places_lead ga gb in_slots in_cells t slot d

  -- from where one was taken, it still is
  lent : (l : Location) → is_among l (lent_places a.code ga ga.threads) ≡ true → is_among l (lent_places b.code gb gb.threads) ≡ true
  lent l e =
      let y = lent_told ga l (takings a.code ga.threads) (sym (ap (is_among l) (lents_are a.code ga ga.threads)) ∙ e) in
      let same : lent_by gb y.taking ≡ lent_by ga y.taking = less_same y.taking.thread y.taking.place.slot y.taking.place.depth in
      ap (is_among l) (lents_are b.code gb gb.threads) ∙ lent_listed gb l y.taking (takings b.code gb.threads) (takes y.taking y.among) (ap (λ m. is_among l (with_place m [])) same ∙ y.at)

  -- what was taken is
  taken : (p : Pointer) → Among p (taken_pointers a.code ga ga.threads) → Among p (taken_pointers b.code gb gb.threads)
  taken p h =
      let y = taken_told ga p (takings a.code ga.threads) (subst (λ ps. Among p ps) (takens_are a.code ga ga.threads) h) in
      let same : taken_by gb y.taking ≡ taken_by ga y.taking = ap (taken_object y.taking.word) (seen_places_lead ga gb in_slots in_cells y.taking.thread y.taking.place.slot y.taking.place.depth) in
      subst (λ ps. Among p ps) (sym (takens_are b.code gb gb.threads)) (taken_listed gb p y.taking (takings b.code gb.threads) (takes y.taking y.among) (subst (λ ps. Among p ps) (sym same) y.pointer))

-- the same, where one was taken that isn't any more
module _ (a b : Cluster) (in_slots : (t u i : ℕ) → leads t (value_in (sight b).ground (at_slot u i)) ≡ leads t (value_in (sight a).ground (at_slot u i))) (in_cells : (t : ℕ) (o : ObjNo) → leads t (value_in (sight b).ground (in_cell o)) ≡ leads t (value_in (sight a).ground (in_cell o)))
    (y : Taking) (took : (x : Taking) → Among x (takings a.code (sight a).ground.threads) → (y ≡ x) ⊎ Among x (takings b.code (sight b).ground.threads)) where
  abbrev gs : Ground
  gs = (sight a).ground

  abbrev gt : Ground
  gt = (sight b).ground

  -- a place with one star less leads alike
  less_still : (t slot d : ℕ) → one_star_less gt t slot d ≡ one_star_less gs t slot d
  less_still t slot zero = refl
  less_still t slot (suc d) = seen_places_lead gs gt in_slots in_cells t slot d

  -- from where one was taken it still is, or it is that pointer
  lent_or : (l h : Location) → lent_by gs y ≡ Some h → is_among l (lent_places a.code gs gs.threads) ≡ true → (l ≡ h) ⊎ (is_among l (lent_places b.code gt gt.threads) ≡ true)
  lent_or l h at e =
      let x = lent_told gs l (takings a.code gs.threads) (sym (ap (is_among l) (lents_are a.code gs gs.threads)) ∙ e) in
      let same : lent_by gt x.taking ≡ lent_by gs x.taking = less_still x.taking.thread x.taking.place.slot x.taking.place.depth in
      ⊎_elim (λ (s : y ≡ x.taking). inl (only_here l h (ap (λ q. is_among l (with_place q [])) (sym at) ∙ ap (λ q. is_among l (with_place (lent_by gs q) [])) s ∙ x.at)))
      (λ (i : Among x.taking (takings b.code gt.threads)). inr (ap (is_among l) (lents_are b.code gt gt.threads) ∙ lent_listed gt l x.taking (takings b.code gt.threads) i (ap (λ q. is_among l (with_place q [])) same ∙ x.at)))
      (took x.taking x.among)

  -- what was taken is, or it is that object
  taken_or : (p q : Pointer) → taken_by gs y ≡ q ∷ [] → Among p (taken_pointers a.code gs gs.threads) → (q ≡ p) ⊎ Among p (taken_pointers b.code gt gt.threads)
  taken_or p q is i =
      let x = taken_told gs p (takings a.code gs.threads) (subst (λ ps. Among p ps) (takens_are a.code gs gs.threads) i) in
      let same : taken_by gt x.taking ≡ taken_by gs x.taking = ap (taken_object x.taking.word) (seen_places_lead gs gt in_slots in_cells x.taking.thread x.taking.place.slot x.taking.place.depth) in
      ⊎_elim (λ (s : y ≡ x.taking). inl (one_of (subst (λ ps. Among p ps) is (subst (λ w. Among p (taken_by gs w)) (sym s) x.pointer))))
      (λ (w : Among x.taking (takings b.code gt.threads)). inr (subst (λ ps. Among p ps) (sym (takens_are b.code gt gt.threads)) (taken_listed gt p x.taking (takings b.code gt.threads) w (subst (λ ps. Among p ps) (sym same) x.pointer))))
      (took x.taking x.among)
    where
      one_of : Among p (q ∷ []) → q ≡ p
      one_of (inl e) = e
      one_of (inr h) = absurd h

-- THE WORDS

module _ (k z : Cluster) (t j : ℕ) (h : Location) (r : MutRef) (c : HasPlaces k) (d : HasPlaces z) (u : LentOne k z t j h r) where
  abbrev gk : Ground
  gk = (sight k).ground

  abbrev gz : Ground
  gz = (sight z).ground

  abbrev m : Location
  m = at_temp t j

  abbrev new : Pointer
  new = record { at = Some m; word = r.word; object = r.object }

  abbrev old : Pointer
  old = record { at = Some h; word = r.first; object = r.object }

  -- slots lead alike
  in_slots : (s v i : ℕ) → leads s (value_in gz (at_slot v i)) ≡ leads s (value_in gk (at_slot v i))
  in_slots s v i = sym (leads_pointing s (value_in gz (at_slot v i))) ∙ ap (leads s) (u.stands (at_slot v i) (λ e. cc e)) ∙ leads_pointing s (value_in gk (at_slot v i))

  -- cells lead alike
  in_cells : (s : ℕ) (o : ObjNo) → leads s (value_in gz (in_cell o)) ≡ leads s (value_in gk (in_cell o))
  in_cells s o = sym (leads_pointing s (value_in gz (in_cell o))) ∙ ap (leads s) (u.stands (in_cell o) (λ e. cc e)) ∙ leads_pointing s (value_in gk (in_cell o))

  -- references have the holders that they had
  holders : (l : Location) (v : Lval) → holder_of gz l v ≡ holder_of gk l v
  holders l v = seen_holders_lead gk gz in_slots in_cells l v

  -- from where one was taken now, it was before
  lent_back : (l : Location) → is_among l (lent_places z.code gz gz.threads) ≡ true → is_among l (lent_places k.code gk gk.threads) ≡ true
  lent_back l e = lent z k (λ s v i. sym (in_slots s v i)) (λ s o. sym (in_cells s o)) u.takes l e

  -- where something stood it isn't the reference
  not_here : (l : Location) (v : Value) → value_in gk l ≡ Some v → l ≡ m → ⊥
  not_here l v e s = u.empty v (sym (ap (value_in gk) s) ∙ e)

  -- the holder is another location
  not_holder : h ≡ m → ⊥
  not_holder s = not_here h u.from u.there s

  -- REFERENCES

  -- each reference that was there is
  pub on_reference : (q : Reference) → Among q (references gk (things_of k)) → Among q (references gz (things_of z))
  on_reference q i =
      let y = of_borrows gk q (things_of k) i in
      let stood : value_in gk q.at ≡ Some (value.Mut q.reference) = borrow_stands k c q.at q.reference y.among in
      let there = reference_there z q.at q.reference (reference_at q.at (value_in gz q.at) q.reference (u.stands q.at (not_here q.at (value.Mut q.reference) stood) ∙ ap (seen_at q.at) stood)) in
      subst (λ (o : Option Location). Among (record { at = q.at; holder = o; reference = q.reference }) (references gz (things_of z))) (holders q.at q.reference.holder ∙ sym y.holder) there

  -- the new one is, with that holder
  pub new_reference : Among (record { at = m; holder = Some h; reference = r }) (references gz (things_of z))
  new_reference = subst (λ (o : Option Location). Among (record { at = m; holder = o; reference = r }) (references gz (things_of z))) (holders m r.holder ∙ u.held) (reference_there z m r u.now)

  pub record IsNew (q : Reference) : Type 0 where
    pub at : q.at ≡ m
    pub holder : q.holder ≡ Some h
    pub reference : q.reference ≡ r

  -- each reference is the new one or was there
  pub back_reference : (q : Reference) → Among q (references gz (things_of z)) → IsNew q ⊎ Among q (references gk (things_of k))
  back_reference q i = by (same_place q.at m)
    where
      y : OfBorrows gz q (things_of z)
      y = of_borrows gz q (things_of z) i

      stands : value_in gz q.at ≡ Some (value.Mut q.reference)
      stands = borrow_stands z d q.at q.reference y.among

      by : (q.at ≡ m) ⊎ (q.at ≡ m → ⊥) → IsNew q ⊎ Among q (references gk (things_of k))
      by (inl s) =
          let same : r ≡ q.reference = mut_is r q.reference (some_is (sym u.now ∙ ap (value_in gz) (sym s) ∙ stands)) in
          inl (record {
            at = s;
            holder = y.holder ∙ holders q.at q.reference.holder ∙ ap (λ l. holder_of gk l q.reference.holder) s ∙ ap (λ (x : MutRef). holder_of gk m x.holder) (sym same) ∙ u.held;
            reference = sym same;
          })
      by (inr n) =
          let there = reference_there k q.at q.reference (reference_at q.at (value_in gk q.at) q.reference (sym (u.stands q.at n) ∙ ap (seen_at q.at) stands)) in
          inr (subst (λ (o : Option Location). Among (record { at = q.at; holder = o; reference = q.reference }) (references gk (things_of k))) (sym (holders q.at q.reference.holder) ∙ sym y.holder) there)

  -- nothing was made from it
  unmade : (q : Reference) → Among q (references gz (things_of z)) → is_held_at m q.holder ≡ true → ⊥
  unmade q i e =
      let y = of_borrows gz q (things_of z) i in
      no_holder gz q.at q.reference.holder t j (sym y.holder ∙ held_at m q.holder e)

  -- WHAT IS STALE

  -- the one that it was made from is, where it is changed
  stale_if : changed r ≡ true → IsStale (sight z) (Some h)
  stale_if e = changed_above (record { at = m; holder = Some h; reference = r }) new_reference (location_itself h) e

  -- from where an object was taken, the pointer is stale
  lent_on : (l : Location) → is_among l (lent_places k.code gk gk.threads) ≡ true → IsStale (sight z) (Some l)
  lent_on l e =
      ⊎_elim (λ (a : MadeHere k z h r u.from). taken_above (lent k z in_slots in_cells a.took l e))
      (λ (v : MadeOfTaken k z h r).
      ⊎_elim (λ (s : l ≡ h). subst (λ q. IsStale (sight z) (Some q)) (sym s) (stale_if (word_changes r v.renewed))) (λ (i : is_among l (lent_places z.code gz gz.threads) ≡ true). taken_above i)
      (lent_or k z in_slots in_cells v.taking v.took l h v.lent e)) u.made

  -- what was stale is
  pub on_stale : (l : Location) → IsStale (sight k) (Some l) → IsStale (sight z) (Some l)
  on_stale l (changed_above q i e s) = changed_above q (on_reference q i) e s
  on_stale l (stale_above q i e s) = stale_above q (on_reference q i) e (on_stale q.at s)
  on_stale l (taken_above e) = lent_on l e

  -- also at no location
  on_at : (l : Option Location) → IsStale (sight k) l → IsStale (sight z) l
  on_at None s = s
  on_at (Some l) s = on_stale l s

  -- the reference isn't
  pub awake : (l : Location) → l ≡ m → IsStale (sight z) (Some l) → ⊥
  awake l s (changed_above q i e x) = unmade q i (ap (λ n. is_held_at n q.holder) (sym s) ∙ e)
  awake l s (stale_above q i e x) = unmade q i (ap (λ n. is_held_at n q.holder) (sym s) ∙ e)
  awake l s (taken_above e) =
      let y = lent_told gz m (takings z.code gz.threads) (sym (ap (is_among m) (lents_are z.code gz gz.threads)) ∙ ap (λ n. is_among n (lent_places z.code gz gz.threads)) (sym s) ∙ e) in
      no_lent gz y.taking.thread y.taking.place.slot y.taking.place.depth t j y.at

  -- the new reference was made from the holder alone
  its_holder : (l : Location) (q : Reference) → IsNew q → is_held_at l q.holder ≡ true → l ≡ h
  its_holder l q n e = some_is (sym (held_at l q.holder e) ∙ n.holder)

  -- what stands there
  pub is_from : (q : Reference) → Among q (references gk (things_of k)) → q.at ≡ h → u.from ≡ value.Mut q.reference
  is_from q i s =
      let y = of_borrows gk q (things_of k) i in
      let stood : value_in gk q.at ≡ Some (value.Mut q.reference) = borrow_stands k c q.at q.reference y.among in
      some_is (sym u.there ∙ ap (value_in gk) (sym s) ∙ stood)

  -- where the reference is dirty, it was made from a dirty one
  marked_here : (q : Reference) → Among q (references gk (things_of k)) → q.at ≡ h → r.dirty ≡ true → q.reference.dirty ≡ true
  marked_here q i s e =
      ⊎_elim (λ (a : MadeHere k z h r u.from). a.mark q.reference (is_from q i s) ∙ e) (λ (v : MadeOfTaken k z h r). let no : false ≡ true = sym v.clean ∙ e in absurd cc) u.made

  -- the holder was lent
  pub was_lent : (v : MadeOfTaken k z h r) → is_among h (lent_places k.code gk gk.threads) ≡ true
  was_lent v = ap (is_among h) (lents_are k.code gk gk.threads) ∙ lent_listed gk h v.taking (takings k.code gk.threads) v.listed (ap (λ q. is_among h (with_place q [])) v.lent ∙ here_is h)

  new_above : (l : Location) → l ≡ h → changed r ≡ true → IsStale (sight k) (Some l) ⊎ ((l ≡ h) × (r.dirty ≡ true))
  new_above l s e =
      ⊎_elim (λ (a : MadeHere k z h r u.from). inr (s, clean_or_dirty r e a.unchanged)) (λ (v : MadeOfTaken k z h r). inl (subst (λ q. IsStale (sight k) (Some q)) (sym s) (taken_above (was_lent v)))) u.made

  -- what is stale was, or it is the holder of a dirty reference
  pub back_stale : (l : Location) → IsStale (sight z) (Some l) → IsStale (sight k) (Some l) ⊎ ((l ≡ h) × (r.dirty ≡ true))
  back_stale l (changed_above q i e s) =
      ⊎_elim (λ (n : IsNew q). new_above l (its_holder l q n e) (ap changed (sym n.reference) ∙ s)) (λ (o : Among q (references gk (things_of k))). inl (changed_above q o e s)) (back_reference q i)
  back_stale l (stale_above q i e s) =
      ⊎_elim (λ (n : IsNew q). absurd (awake q.at n.at s))
      (λ (o : Among q (references gk (things_of k))).
      ⊎_elim (λ (x : IsStale (sight k) (Some q.at)). inl (stale_above q o e x)) (λ (x : (q.at ≡ h) × (r.dirty ≡ true)). inl (changed_above q o e (dirty_changes q.reference (marked_here q o x.0 x.1)))) (back_stale q.at s))
      (back_reference q i)
  back_stale l (taken_above e) = inl (taken_above (lent_back l e))

  -- POINTERS

  -- a pointer that stood at a location does
  stood : (p : Pointer) (l : Location) → Among p (pointers_in (things_of k)) → p.at ≡ Some l → Among p (standing_in (things_of z))
  stood p l i e =
      let y = tells k c p l i e in
      told_standing z l y.value p (seen_pointer_at l (value_in gz l) y.value p (u.stands l (not_here l y.value y.stands) ∙ ap (seen_at l) y.stands) y.pointer) y.pointer

  -- the word under which the object was taken
  abbrev its : Pointer
  its = record { at = None; word = r.word; object = r.object }

  -- what was taken is, or it is what the reference was made of
  taken_on : (p : Pointer) → Among p (taken_pointers k.code gk gk.threads) → (its ≡ p) ⊎ Among p (taken_pointers z.code gz gz.threads)
  taken_on p i =
      ⊎_elim (λ (a : MadeHere k z h r u.from). inr (taken k z in_slots in_cells a.took p i)) (λ (v : MadeOfTaken k z h r). taken_or k z in_slots in_cells v.taking v.took p its v.its i) u.made

  -- each pointer is there still, or it is the word under which the object was taken
  on_all : (p : Pointer) → Among p (all_pointers (sight k)) → (its ≡ p) ⊎ Among p (all_pointers (sight z))
  on_all p i =
      ⊎_elim (λ (y : Among p (pointers_in (things_of k))). inr (among_first p (pointers_in (things_of z)) (taken_pointers z.code gz gz.threads) (by p.at refl y)))
      (λ (y : Among p (taken_pointers k.code gk gk.threads)). ⊎_elim (λ (s : its ≡ p). inl s) (λ (w : Among p (taken_pointers z.code gz gz.threads)). inr (among_second p (pointers_in (things_of z)) (taken_pointers z.code gz gz.threads) w)) (taken_on p y))
      (among_split p (pointers_in (things_of k)) (taken_pointers k.code gk gk.threads) i)
    where
      by : (l : Option Location) → p.at ≡ l → Among p (pointers_in (things_of k)) → Among p (pointers_in (things_of z))
      by None e y = u.remain p e y
      by (Some l) e y = stands_in p (things_of z) (stood p l y e)

  -- that word is one of a taken object
  its_taken : MadeOfTaken k z h r → Among its (taken_pointers k.code gk gk.threads)
  its_taken v = subst (λ ps. Among its ps) (sym (takens_are k.code gk gk.threads)) (taken_listed gk its v.taking (takings k.code gk.threads) v.listed (subst (λ ps. Among its ps) (sym v.its) (inl refl)))

  -- so it is a pointer
  its_all : MadeOfTaken k z h r → Among its (all_pointers (sight k))
  its_all v = among_second its (pointers_in (things_of k)) (taken_pointers k.code gk gk.threads) (its_taken v)

  -- that counts beside dirty references
  its_standing : MadeOfTaken k z h r → Among its (standing_pointers (sight k))
  its_standing v = among_second its (standing_in (things_of k)) (taken_pointers k.code gk gk.threads) (its_taken v)

  -- the reference is a pointer
  new_all : Among new (all_pointers (sight z))
  new_all = among_first new (pointers_in (things_of z)) (taken_pointers z.code gz gz.threads) (stands_in new (things_of z) (told_standing z m (value.Mut r) new u.now (inl refl)))

  -- and so is the one it was made from
  old_stands : Among old (standing_in (things_of k))
  old_stands = told_standing k h u.from old u.there u.pointer

  -- among all
  old_all : Among old (all_pointers (sight k))
  old_all = among_first old (pointers_in (things_of k)) (taken_pointers k.code gk gk.threads) (stands_in old (things_of k) old_stands)

  -- which counts beside dirty references
  old_standing : Among old (standing_pointers (sight k))
  old_standing = among_first old (standing_in (things_of k)) (taken_pointers k.code gk gk.threads) old_stands

  -- at a location it is the new one or stood
  back_there : (p : Pointer) (l : Location) → Among p (pointers_in (things_of z)) → p.at ≡ Some l → (new ≡ p) ⊎ Among p (standing_in (things_of k))
  back_there p l i e = by (same_place l m)
    where
      y : Tells z l p
      y = tells z d p l i e

      by : (l ≡ m) ⊎ (l ≡ m → ⊥) → (new ≡ p) ⊎ Among p (standing_in (things_of k))
      by (inl s) =
          let same : y.value ≡ value.Mut r = some_is (sym y.stands ∙ ap (value_in gz) s ∙ u.now) in
          let here : Among p (pointer_at m (value.Mut r)) = subst (λ n. Among p (pointer_at n (value.Mut r))) s (subst (λ v. Among p (pointer_at l v)) same y.pointer) in
          inl (one_pointer m (value.Mut r) new p (inl refl) here)
      by (inr n) = inr (told_standing k l y.value p (seen_pointer_at l (value_in gk l) y.value p (sym (u.stands l n) ∙ ap (seen_at l) y.stands) y.pointer) y.pointer)

  -- each pointer is the new one or was there
  back_all : (p : Pointer) → Among p (all_pointers (sight z)) → (new ≡ p) ⊎ Among p (all_pointers (sight k))
  back_all p i =
      ⊎_elim (λ (y : Among p (pointers_in (things_of z))). by p.at refl y)
      (λ (y : Among p (taken_pointers z.code gz gz.threads)). inr (among_second p (pointers_in (things_of k)) (taken_pointers k.code gk gk.threads) (taken z k (λ s v n. sym (in_slots s v n)) (λ s o. sym (in_cells s o)) u.takes p y)))
      (among_split p (pointers_in (things_of z)) (taken_pointers z.code gz gz.threads) i)
    where
      by : (l : Option Location) → p.at ≡ l → Among p (pointers_in (things_of z)) → (new ≡ p) ⊎ Among p (all_pointers (sight k))
      by None e y = inr (among_first p (pointers_in (things_of k)) (taken_pointers k.code gk gk.threads) (u.loose p e y))
      by (Some l) e y =
          ⊎_elim (λ (x : new ≡ p). inl x) (λ (x : Among p (standing_in (things_of k))). inr (among_first p (pointers_in (things_of k)) (taken_pointers k.code gk gk.threads) (stands_in p (things_of k) x))) (back_there p l y e)

  -- so is each that counts beside dirty references
  back_standing : (p : Pointer) → Among p (standing_pointers (sight z)) → (new ≡ p) ⊎ Among p (standing_pointers (sight k))
  back_standing p i =
      ⊎_elim (λ (y : Among p (standing_in (things_of z))). by p.at refl y)
      (λ (y : Among p (taken_pointers z.code gz gz.threads)). inr (among_second p (standing_in (things_of k)) (taken_pointers k.code gk gk.threads) (taken z k (λ s v n. sym (in_slots s v n)) (λ s o. sym (in_cells s o)) u.takes p y)))
      (among_split p (standing_in (things_of z)) (taken_pointers z.code gz gz.threads) i)
    where
      by : (l : Option Location) → p.at ≡ l → Among p (standing_in (things_of z)) → (new ≡ p) ⊎ Among p (standing_pointers (sight k))
      by None e y = inr (among_first p (standing_in (things_of k)) (taken_pointers k.code gk gk.threads) (u.standing p e y))
      by (Some l) e y =
          ⊎_elim (λ (x : new ≡ p). inl x) (λ (x : Among p (standing_in (things_of k))). inr (among_first p (standing_in (things_of k)) (taken_pointers k.code gk gk.threads) x)) (back_there p l (stands_in p (things_of z) y) e)

  -- WORDS

  module _ (b : HasWords (sight k)) where
    -- the reference has the word of its object
    its_word : r.word ≡ b.word r.object
    its_word =
        ⊎_elim
        (λ (a : MadeHere k z h r u.from). a.unchanged ∙ ⊎_elim (λ (s : IsStale (sight k) (Some h)). absurd (a.fresh s)) (λ (e : r.first ≡ b.word r.object). e) (b.same old old_all))
        (λ (v : MadeOfTaken k z h r). ⊎_elim (λ (s : IsStale (sight k) None). let no : ⊥ = s in absurd no) (λ (e : r.word ≡ b.word r.object). e) (b.same its (its_all v))) u.made

    -- each pointer has the word of its object, or is stale
    same : (p : Pointer) → Among p (all_pointers (sight z)) → IsStale (sight z) p.at ⊎ (p.word ≡ b.word p.object)
    same p i =
        ⊎_elim (λ (e : new ≡ p). inr (subst (λ (x : Pointer). x.word ≡ b.word x.object) e its_word))
        (λ (y : Among p (all_pointers (sight k))). ⊎_elim (λ (s : IsStale (sight k) p.at). inl (on_at p.at s)) (λ (e : p.word ≡ b.word p.object). inr e) (b.same p y)) (back_all p i)

    -- a pointer that wasn't stale isn't, or it is the one that was borrowed from or taken, and then the reference isn't
    still_fresh : (o : ObjNo) → Fresh (sight k) o → Fresh (sight z) o
    still_fresh o f = ⊎_elim (λ (s : its ≡ f.pointer). new_one (ap (λ (x : Pointer). x.object) s)) (λ (i : Among f.pointer (all_pointers (sight z))). by i f.pointer.at refl) (on_all f.pointer f.among)
      where
        new_one : r.object ≡ f.pointer.object → Fresh (sight z) o
        new_one e = record { pointer = new; among = new_all; object = e ∙ f.object; fresh = λ x. awake m refl x }

        no_taken : (l : Location) → f.pointer.at ≡ Some l → Among f.pointer (taken_pointers k.code gk gk.threads) → ⊥
        no_taken l e y =
            let x = taken_told gk f.pointer (takings k.code gk.threads) (subst (λ ps. Among f.pointer ps) (takens_are k.code gk gk.threads) y) in
            no_some l f.pointer.at (taken_none x.taking.word (place_at gk x.taking.thread x.taking.place) x.pointer) e
          where
            taken_none : (w : ℕ) (q : Option Location) → Among f.pointer (taken_object w q) → f.pointer.at ≡ None
            taken_none w (Some (in_cell n)) (inl g) = ap (λ (x : Pointer). x.at) (sym g)
            taken_none w (Some (in_cell n)) (inr g) = absurd g
            taken_none w (Some (at_slot n i)) g = absurd g
            taken_none w (Some (at_temp n i)) g = absurd g
            taken_none w None g = absurd g

        at_place : (l : Location) → f.pointer.at ≡ Some l → Among f.pointer (pointers_in (things_of k))
        at_place l e =
            ⊎_elim (λ (y : Among f.pointer (pointers_in (things_of k))). y) (λ (y : Among f.pointer (taken_pointers k.code gk gk.threads)). absurd (no_taken l e y)) (among_split f.pointer (pointers_in (things_of k)) (taken_pointers k.code gk gk.threads) f.among)

        here : Among f.pointer (all_pointers (sight z)) → (l : Location) → f.pointer.at ≡ Some l → (l ≡ h) ⊎ (l ≡ h → ⊥) → Fresh (sight z) o
        here i l e (inl s) =
            let y = tells k c f.pointer l (at_place l e) e in
            let same_value : y.value ≡ u.from = some_is (sym y.stands ∙ ap (value_in gk) s ∙ u.there) in
            let one : f.pointer ≡ old = one_pointer h u.from f.pointer old (subst (λ v. Among f.pointer (pointer_at h v)) same_value (subst (λ n. Among f.pointer (pointer_at n y.value)) s y.pointer)) u.pointer in
            new_one (ap (λ (x : Pointer). x.object) (sym one))
        here i l e (inr n) = record {
          pointer = f.pointer;
          among = i;
          object = f.object;
          fresh = λ x.
              ⊎_elim (λ (s : IsStale (sight k) (Some l)). f.fresh (subst (λ q. IsStale (sight k) q) (sym e) s)) (λ (s : (l ≡ h) × (r.dirty ≡ true)). n s.0) (back_stale l (subst (λ q. IsStale (sight z) q) e x));
        }

        by : Among f.pointer (all_pointers (sight z)) → (q : Option Location) → f.pointer.at ≡ q → Fresh (sight z) o
        by i None e = record { pointer = f.pointer; among = i; object = f.object; fresh = λ x. (let y : IsStale (sight z) None = subst (λ q. IsStale (sight z) q) e x in y) }
        by i (Some l) e = here i l e (same_place l h)

    -- each object that lies has a pointer that isn't stale
    live : (s a : ℕ) (e : Cell) → Among (lies s a e) (things_of z) → Fresh (sight z) e.object
    live s a e i = let y = u.lay s a e i in still_fresh e.object (subst (λ q. Fresh (sight k) q) y.object (b.live s a y.cell y.among))

    -- and its word leads there
    home : (s a : ℕ) (e : Cell) → Among (lies s a e) (things_of z) → LeadsTo s a (b.word e.object)
    home s a e i = let y = u.lay s a e i in subst (λ q. LeadsTo s a (b.word q)) y.object (b.home s a y.cell y.among)

    -- each object has the word that it had
    words_stay : WordsStay (sight k) (sight z) b
    words_stay = record { after = record { word = b.word; same = same; live = live; home = home }; same = λ q. refl }

  -- REFERENCES KNOW THE WORDS AT THEIR HOLDERS

  -- at another location stands the same word
  behind : (x : MutRef) (l : Location) → (l ≡ m → ⊥) → is_first x (value_in gz l) ≡ is_first x (value_in gk l)
  behind x l n = sym (first_at x l (value_in gz l)) ∙ ap (is_first x) (u.stands l n) ∙ first_at x l (value_in gk l)

  -- references know the words at their holders
  holders_stay : Holds k first_at_holder → Holds z first_at_holder
  holders_stay f = none_all (other_first gz) (references gz (things_of z)) each
    where
      by_holder : (q : Reference) → Among q (references gz (things_of z)) → Among q (references gk (things_of k)) → (o : Option Location) → q.holder ≡ o → other (is_first q.reference (value_behind gz o)) ≡ 0
      by_holder q i y None e = subst (λ o. other (is_first q.reference (value_behind gk o)) ≡ 0) e (none_at (other_first gk) q (references gk (things_of k)) f y)
      by_holder q i y (Some l) e =
          let n : l ≡ m → ⊥ = λ s. unmade q i (ap (is_held_at m) (e ∙ ap Some s) ∙ location_itself m) in
          ap other (behind q.reference l n) ∙ subst (λ o. other (is_first q.reference (value_behind gk o)) ≡ 0) e (none_at (other_first gk) q (references gk (things_of k)) f y)

      the_new : (q : Reference) → IsNew q → other_first gz q ≡ 0
      the_new q n =
          ap (λ o. other (is_first q.reference (value_behind gz o))) n.holder ∙ ap (λ x. other (is_first x (value_in gz h))) n.reference ∙ ap other (behind r h not_holder ∙ ap (is_first r) u.there ∙ u.first)

      each : (q : Reference) → Among q (references gz (things_of z)) → other_first gz q ≡ 0
      each q i = ⊎_elim (λ (n : IsNew q). the_new q n) (λ (y : Among q (references gk (things_of k))). by_holder q i y q.holder refl) (back_reference q i)

  -- DIRTY REFERENCES ARE ALONE

  -- a dirty reference that isn't stale now isn't the one at the holder
  not_at_holder : (q : Reference) → Among q (references gk (things_of k)) → q.reference.dirty ≡ true → (IsStale (sight z) (Some q.at) → ⊥) → q.at ≡ h → ⊥
  not_at_holder q i e n s = n (subst (λ l. IsStale (sight z) (Some l)) (sym s) (stale_if changes))
    where
      changes : changed r ≡ true
      changes =
          ⊎_elim (λ (a : MadeHere k z h r u.from). dirty_changes r (sym (a.mark q.reference (is_from q i s)) ∙ e)) (λ (v : MadeOfTaken k z h r). word_changes r v.renewed) u.made

  -- dirty references are alone
  dirty_stays : DirtyAlone (sight k) → DirtyAlone (sight z)
  dirty_stays f q i e n = ⊎_elim the_new was (back_reference q i)
    where
      it_marked : (x : IsNew q) → r.dirty ≡ true
      it_marked x = ap (λ (a : MutRef). a.dirty) (sym x.reference) ∙ e

      -- the reference that it was made from was dirty
      its_maker : MadeHere k z h r u.from → r.dirty ≡ true → (p : Pointer) → Among p (standing_pointers (sight k)) → p.object ≡ r.object → IsStale (sight k) p.at ⊎ (is_held_at h p.at ≡ true)
      its_maker w g p y o =
          let v = w.marked g in
          let there = reference_there k h v.0 (u.there ∙ ap Some v.1) in
          let same : r.object ≡ v.0.object = ap (λ (x : Pointer). x.object) (one_pointer h (value.Mut v.0) old (record { at = Some h; word = v.0.word; object = v.0.object }) (subst (λ x. Among old (pointer_at h x)) v.1 u.pointer) (inl refl)) in
          (f (record { at = h; holder = holder_of gk h v.0.holder; reference = v.0 }) there (w.mark v.0 v.1 ∙ g) w.fresh).sole p y (o ∙ same)

      new_here : IsNew q → MadeHere k z h r u.from → IsAlone (sight z) q
      new_here x w = record {
        unlent = λ g y s. unmade g y (ap (λ l. is_held_at l g.holder) (sym x.at) ∙ s);
        sole = λ p y o.
            ⊎_elim (λ (s : new ≡ p). inr (ap (is_held_at q.at) (ap (λ (a : Pointer). a.at) (sym s)) ∙ ap (λ l. is_held_at l (Some m)) x.at ∙ location_itself m))
            (λ (s : Among p (standing_pointers (sight k))).
            ⊎_elim (λ (v : IsStale (sight k) p.at). inl (on_at p.at v)) (λ (v : is_held_at h p.at ≡ true). inl (subst (λ l. IsStale (sight z) l) (sym (held_at h p.at v)) (stale_if (dirty_changes r (it_marked x)))))
            (its_maker w (it_marked x) p s (o ∙ ap (λ (a : MutRef). a.object) x.reference))) (back_standing p y);
      }

      the_new : IsNew q → IsAlone (sight z) q
      the_new x = ⊎_elim (λ (a : MadeHere k z h r u.from). new_here x a) (λ (v : MadeOfTaken k z h r). let no : false ≡ true = sym v.clean ∙ it_marked x in absurd cc) u.made

      -- the reference is to another object
      other_object : IsAlone (sight k) q → r.object ≡ q.reference.object → ⊥
      other_object a o =
          ⊎_elim
          (λ (x : MadeHere k z h r u.from).
          ⊎_elim (λ (v : IsStale (sight k) (Some h)). x.fresh v) (λ (v : is_held_at q.at (Some h) ≡ true). ⊎_elim (λ (w : IsNew q). not_holder (some_is (held_at q.at (Some h) v) ∙ w.at)) (λ (w : Among q (references gk (things_of k))). not_at_holder q w e n (some_is (sym (held_at q.at (Some h) v)))) (back_reference q i))
          (a.sole old old_standing o))
          (λ (x : MadeOfTaken k z h r). ⊎_elim (λ (v : IsStale (sight k) None). let no : ⊥ = v in no) (λ (v : is_held_at q.at None ≡ true). no_held q.at v) (a.sole its (its_standing x) o)) u.made

      was : Among q (references gk (things_of k)) → IsAlone (sight z) q
      was y =
          let fresh : IsStale (sight k) (Some q.at) → ⊥ = λ s. n (on_stale q.at s) in
          let a = f q y e fresh in record {
            unlent = λ g x s. ⊎_elim (λ (w : IsNew g). not_at_holder q y e n (its_holder q.at g w s)) (λ (w : Among g (references gk (things_of k))). a.unlent g w s) (back_reference g x);
            sole = λ p x o.
                ⊎_elim
                (λ (s : new ≡ p). absurd (other_object a (ap (λ (w : Pointer). w.object) s ∙ o)))
                (λ (s : Among p (standing_pointers (sight k))). ⊎_elim (λ (v : IsStale (sight k) p.at). inl (on_at p.at v)) (λ (v : is_held_at q.at p.at ≡ true). inr v) (a.sole p s o)) (back_standing p x);
          }

  -- FIRST WORDS THAT WERE LEFT

  -- no first word that was left is a word of today
  past_stays : HasWords (sight k) → PastWords (sight k) → PastWords (sight z)
  past_stays b f q i n p y fresh o g = ⊎_elim the_new was (back_reference q i)
    where
      -- the reference has another word than its first one where its object was taken, and that is the object's
      the_new : IsNew q → ⊥
      the_new x =
          ⊎_elim (λ (a : MadeHere k z h r u.from). n (ap (λ (w : MutRef). w.word) x.reference ∙ a.unchanged ∙ ap (λ (w : MutRef). w.first) (sym x.reference)))
          (λ (v : MadeOfTaken k z h r). ⊎_elim (λ (s : IsStale (sight z) p.at). fresh s) (λ (e : p.word ≡ b.word p.object). v.renewed (its_word b ∙ ap b.word (sym (o ∙ ap (λ (w : MutRef). w.object) x.reference)) ∙ sym e ∙ g ∙ ap (λ (w : MutRef). w.first) x.reference)) (same b p y)) u.made

      was : Among q (references gk (things_of k)) → ⊥
      was x =
          ⊎_elim
          (λ (s : new ≡ p).
          ⊎_elim (λ (a : MadeHere k z h r u.from). f q x n old old_all a.fresh (ap (λ (w : Pointer). w.object) s ∙ o) (sym a.unchanged ∙ ap (λ (w : Pointer). w.word) s ∙ g))
          (λ (v : MadeOfTaken k z h r). f q x n its (its_all v) (λ w. w) (ap (λ (w : Pointer). w.object) s ∙ o) (ap (λ (w : Pointer). w.word) s ∙ g)) u.made)
          (λ (s : Among p (all_pointers (sight k))). f q x n p s (λ v. fresh (on_at p.at v)) o g) (back_all p y)

  -- all that is kept of words
  pub lent_one_stays : HasWords (sight k) → LeavesWords k z
  lent_one_stays b = record { words = λ w. words_stay w; holders = holders_stay; dirty = dirty_stays; past = past_stays b }
