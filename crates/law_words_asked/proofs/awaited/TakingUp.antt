-- Where a thread takes an object from a pointer, what points to it in slots, temporary values and cells becomes stale, and the words hold.
use Rattle.std.proofs.Common.{◌≡◌, ◌⊎◌, inl, inr, ⊎_elim, ℕ, zero, suc, ◌||◌, Bool, true, false, if◌then◌else◌, [], Option, Some, None, refl, sym, ap, subst, ◌∙◌, arith}
use Rattle.law_words_asked.specs.Below.fr_base.declared.name.ObjNo.{ObjNo}
use Rattle.law_words_asked.specs.Below.fr_base.declared.place.Lval.{Lval}
use Rattle.law_words_asked.specs.Below.heap_partition.declared.value.Cell.{Cell}
use Rattle.law_words_asked.specs.Below.heap_partition.declared.value.Owned.TheVariants as owned
use Rattle.law_words_asked.specs.Below.mut_borrow.declared.mutable.MutRef.{MutRef}
use Rattle.law_words_asked.specs.Below.thread_state.declared.value.Value.{Value}
use Rattle.law_words_asked.specs.Below.thread_state.declared.value.Value.TheVariants as value
use Rattle.law_words_asked.specs.Below.server_model.Servers.{Cluster}
use Rattle.law_words_asked.specs.Below.coherent_memory.Names.{Among, one, other, same_object}
use Rattle.law_words_asked.specs.Below.coherent_memory.Things.{Location, at_slot, in_cell, Thing, holds, shares, borrows, lies, flies, sent, things_of}
use Rattle.law_words_asked.specs.Below.coherent_memory.Follow.{Ground, value_in, value_behind, leads}
use Rattle.law_words_asked.specs.Below.coherent_memory.Stale.{is_among, Reference, references, holder_of, one_star_less, is_held_at, with_place, lent_places, changed_above, stale_above, taken_above}
use Rattle.law_words_asked.specs.Below.coherent_memory.Sight.{Pointer, pointers_of, pointers_in, taken_object, taken_pointers, sight, issued}
use Rattle.law_words_asked.specs.Below.coherent_memory.Placing.{is_first, other_first, standing_of, standing_in, standing_pointers}
use Rattle.law_words_asked.specs.Below.coherent_memory.Coherent.{Holds, first_at_holder}
use Rattle.law_words_asked.specs.Below.coherent_memory.Weights.{cells}
use Rattle.law_words_asked.specs.Below.coherent_memory.Words.{all_pointers, IsStale, Fresh, HasWords, LeadsTo}
use Rattle.law_words_asked.specs.Below.coherent_memory.Dirty.{DirtyAlone, PastWords}
use Rattle.law_words_asked.proofs.Below.coherent_memory.Bags.{among_split}
use Rattle.law_words_asked.proofs.Below.coherent_memory.Words.{none_at, none_all, named, itself as same_itself}
use Rattle.law_words_asked.specs.Below.law_words_paths.paths.Pointing.{Above, made_from, made_below}
use Rattle.law_words_asked.proofs.Below.law_words_paths.paths.InState.{only_one}
use Rattle.law_words_asked.proofs.Below.law_words_paths.paths.Origins.{among_first, among_second}
use Rattle.law_words_asked.proofs.Below.law_words_paths.paths.Contained.{location_itself, reference_there}
use Rattle.law_words_asked.proofs.Below.law_words_paths.paths.FreshPaths.{held_at}
use Rattle.law_words_asked.proofs.Below.law_words_paths.paths.Sole.{some_is}
use Rattle.law_words_asked.specs.Below.law_words_paths.words.Reworded.{HasPlaces}
use Rattle.law_words_asked.specs.Below.law_words_paths.words.Soles.{IsSole}
use Rattle.law_words_asked.specs.Below.law_words_paths.words.Unmoved.{Taking, takings}
use Rattle.law_words_asked.specs.Below.law_words_paths.words.WordsAfter.{IsNoFirst}
use Rattle.law_words_asked.proofs.Below.law_words_paths.words.Follows.{seen_places_lead, seen_holders_lead}
use Rattle.law_words_asked.proofs.Below.law_words_paths.words.Grounds.{of_borrows}
use Rattle.law_words_asked.proofs.Below.law_words_paths.words.Loose.{unplaced, remains, unplaced_standing}
use Rattle.law_words_asked.proofs.Below.law_words_paths.words.Standing.{of_thing, standing_among, pointer_at, tells, told, told_standing, stands_in, borrow_stands}
use Rattle.law_words_asked.proofs.Below.law_words_paths.words.Takings.{lent_by, taken_by, lents_are, takens_are, lent_listed, lent_told, taken_listed, taken_told}
use Rattle.law_words_asked.proofs.Below.law_words_paths.words.Words.{above_leads, taken_nowhere}
use Rattle.law_words_asked.specs.Below.law_words_kept.prepared.Requests.{WordsRise}
use Rattle.law_words_asked.specs.awaited.TakenUp.{TakenUp, TakingKeeps}

-- the words with one changed
abbrev word_with : (ObjNo → ℕ) → ObjNo → ℕ → ObjNo → ℕ
word_with f o w p = if same_object p o then w else f p

word_new : (f : ObjNo → ℕ) (o : ObjNo) (w : ℕ) (p : ObjNo) → p ≡ o → word_with f o w p ≡ w
word_new f o w p e = ap (λ b. if b then w else f p) (same_itself p o e)

word_old : (f : ObjNo → ℕ) (o : ObjNo) (w : ℕ) (p : ObjNo) → (p ≡ o → ⊥) → word_with f o w p ≡ f p
word_old f o w p n = by (same_object p o) refl
  where
    by : (b : Bool) → same_object p o ≡ b → (if b then w else f p) ≡ f p
    by true e = absurd (n (named p o e))
    by false e = refl

objects_differ : (p o : ObjNo) → (p ≡ o) ⊎ (p ≡ o → ⊥)
objects_differ p o = by (same_object p o) refl
  where
    by : (b : Bool) → same_object p o ≡ b → (p ≡ o) ⊎ (p ≡ o → ⊥)
    by true e = inl (named p o e)
    by false e = inr (λ s. let t : true ≡ false = sym (same_itself p o s) ∙ e in absurd (cc t))

-- one pointer above another one, above a third
above_above : (g : Ground) (l m h : Location) → Above g l m → Above g m h → Above g l h
above_above g l m _ a (made_from q e held) = made_below q e held a
above_above g l m _ a (made_below {h = j} q e held rest) = made_below q e held (above_above g l m j a rest)

same_cell : {p o : ObjNo} → Some (in_cell p) ≡ Some (in_cell o) → p ≡ o
same_cell e = cc

-- an object doesn't lie and fly
both_ways : (z : Cluster) → HasPlaces z → (o : ObjNo) (r a v : ℕ) (e f : Cell) → e.object ≡ o → f.object ≡ o → Among (lies r a e) (things_of z) → Among (flies v f) (things_of z) → ⊥
both_ways z d o r a v e f is too i j =
    let x : one (same_object e.object o) ≡ 1 = ap one (same_itself e.object o is) in
    let y : one (same_object f.object o) ≡ 1 = ap one (same_itself f.object o too) in
    let same : lies r a e ≡ flies v f = only_one (cells o) (lies r a e) (flies v f) (things_of z) (d.home_of_each o) i j (omega (arith, x)) (omega (arith, y)) in
    absurd (cc same)

-- a pointer of what leads to an object
its_object : (t : ℕ) (l : Location) (v : Value) (o : ObjNo) (p : Pointer) → leads t (Some v) ≡ Some (in_cell o) → Among p (pointer_at l v) → p.object ≡ o
its_object t l (value.Own (owned.Box b)) o p e (inl q) = ap (λ (y : Pointer). y.object) (sym q) ∙ same_cell e
its_object t l (value.Own (owned.Box b)) o p e (inr q) = absurd q
its_object t l (value.Mut r) o p e (inl q) = ap (λ (y : Pointer). y.object) (sym q) ∙ same_cell e
its_object t l (value.Mut r) o p e (inr q) = absurd q
its_object t l (value.Own owned.Nothing) o p e q = absurd q
its_object t l (value.Own owned.Unit) o p e q = absurd q
its_object t l (value.Own (owned.Int n)) o p e q = absurd q
its_object t l (value.Own (owned.Mutex m)) o p e q = absurd q
its_object t l (value.Own (owned.Task n)) o p e q = absurd q
its_object t l value.Gone o p e q = absurd q
its_object t l (value.SharedSlot i) o p e q = absurd q
its_object t l (value.MutSlot i) o p e q = absurd q
its_object t l (value.Shared r) o p e q = absurd q
its_object t l (value.Held m) o p e q = absurd q

module _ (k z : Cluster) (h : Location) (o : ObjNo) (t : Taking) (c : HasPlaces k) (d : HasPlaces z) (u : TakenUp k z h o t) (sole : IsSole k h o) (fresh : IsStale (sight k) (Some h) → ⊥) (past : IsNoFirst k o t.word) (unissued : issued (sight k) t.word ≡ false) (before : WordsRise k k) where
  abbrev gk : Ground
  gk = (sight k).ground

  abbrev gz : Ground
  gz = (sight z).ground

  -- the pointer that comes
  abbrev new : Pointer
  new = record { at = None; word = t.word; object = o }

  -- PLACES

  in_slots : (n v i : ℕ) → leads n (value_in gz (at_slot v i)) ≡ leads n (value_in gk (at_slot v i))
  in_slots n v i = ap (leads n) (u.stands (at_slot v i))

  in_cells : (n : ℕ) (p : ObjNo) → leads n (value_in gz (in_cell p)) ≡ leads n (value_in gk (in_cell p))
  in_cells n p = ap (leads n) (u.stands (in_cell p))

  holders : (l : Location) (v : Lval) → holder_of gz l v ≡ holder_of gk l v
  holders l v = seen_holders_lead gk gz in_slots in_cells l v

  less : (n slot i : ℕ) → one_star_less gz n slot i ≡ one_star_less gk n slot i
  less n slot zero = refl
  less n slot (suc i) = seen_places_lead gk gz in_slots in_cells n slot i

  lent_same : (x : Taking) → lent_by gz x ≡ lent_by gk x
  lent_same x = less x.thread x.place.slot x.place.depth

  taken_same : (x : Taking) → taken_by gz x ≡ taken_by gk x
  taken_same x = ap (taken_object x.word) (seen_places_lead gk gz in_slots in_cells x.thread x.place.slot x.place.depth)

  taken_new : taken_by gz t ≡ taken_object t.word (Some (in_cell o))
  taken_new = taken_same t ∙ ap (taken_object t.word) u.place

  -- REFERENCES

  on : (q : Reference) → Among q (references gk (things_of k)) → Among q (references gz (things_of z))
  on q i =
      let b = of_borrows gk q (things_of k) i in
      let there = reference_there z q.at q.reference (u.stands q.at ∙ borrow_stands k c q.at q.reference b.among) in
      subst (λ (x : Option Location). Among (record { at = q.at; holder = x; reference = q.reference }) (references gz (things_of z))) (holders q.at q.reference.holder ∙ sym b.holder) there

  back : (q : Reference) → Among q (references gz (things_of z)) → Among q (references gk (things_of k))
  back q i =
      let b = of_borrows gz q (things_of z) i in
      let there = reference_there k q.at q.reference (sym (u.stands q.at) ∙ borrow_stands z d q.at q.reference b.among) in
      subst (λ (x : Option Location). Among (record { at = q.at; holder = x; reference = q.reference }) (references gk (things_of k))) (sym (holders q.at q.reference.holder) ∙ sym b.holder) there

  -- WHAT IS STALE

  lent_on : (l : Location) → is_among l (lent_places k.code gk gk.threads) ≡ true → is_among l (lent_places z.code gz gz.threads) ≡ true
  lent_on l e =
      let y = lent_told gk l (takings k.code gk.threads) (sym (ap (is_among l) (lents_are k.code gk gk.threads)) ∙ e) in
      ap (is_among l) (lents_are z.code gz gz.threads) ∙ lent_listed gz l y.taking (takings z.code gz.threads) (u.took y.taking y.among) (ap (λ m. is_among l (with_place m [])) (lent_same y.taking) ∙ y.at)

  stale_on : (l : Location) → IsStale (sight k) (Some l) → IsStale (sight z) (Some l)
  stale_on l (changed_above q i held ch) = changed_above q (on q i) held ch
  stale_on l (stale_above q i held s) = stale_above q (on q i) held (stale_on q.at s)
  stale_on l (taken_above m) = taken_above (lent_on l m)

  on_at : (l : Option Location) → IsStale (sight k) l → IsStale (sight z) l
  on_at None s = s
  on_at (Some l) s = stale_on l s

  -- that pointer, or one that stands above it
  abbrev Below : Location → Type 0
  Below l = (l ≡ h) ⊎ Above gk l h

  alone_place : (l m : Location) → is_among l (with_place (Some m) []) ≡ true → m ≡ l
  alone_place l m e = held_at_one e
    where
      held_at_one : is_among l (with_place (Some m) []) ≡ true → m ≡ l
      held_at_one f = some_is (held_at l (Some m) (first_only (is_held_at l (Some m)) f))
        where
          first_only : (b : Bool) → (b || false) ≡ true → b ≡ true
          first_only true g = refl
          first_only false g = absurd (cc g)

  lent_back : (l : Location) → is_among l (lent_places z.code gz gz.threads) ≡ true → (l ≡ h) ⊎ (is_among l (lent_places k.code gk gk.threads) ≡ true)
  lent_back l e =
      let y = lent_told gz l (takings z.code gz.threads) (sym (ap (is_among l) (lents_are z.code gz gz.threads)) ∙ e) in
      let at : is_among l (with_place (lent_by gk y.taking) []) ≡ true = ap (λ m. is_among l (with_place m [])) (sym (lent_same y.taking)) ∙ y.at in
      ⊎_elim (λ (s : t ≡ y.taking). inl (sym (alone_place l h (ap (λ m. is_among l (with_place m [])) (sym (ap (lent_by gk) (sym s) ∙ u.lent)) ∙ at))))
      (λ (i : Among y.taking (takings k.code gk.threads)). inr (ap (is_among l) (lents_are k.code gk gk.threads) ∙ lent_listed gk l y.taking (takings k.code gk.threads) i at)) (u.takes y.taking y.among)

  made_above : (q : Reference) (l : Location) → Among q (references gk (things_of k)) → is_held_at l q.holder ≡ true → Above gk l q.at
  made_above q l i held = let b = of_borrows gk q (things_of k) i in made_from q.reference (borrow_stands k c q.at q.reference b.among) (sym b.holder ∙ held_at l q.holder held)

  stale_back : (l : Location) → IsStale (sight z) (Some l) → IsStale (sight k) (Some l) ⊎ Below l
  stale_back l (changed_above q i held ch) = inl (changed_above q (back q i) held ch)
  stale_back l (stale_above q i held s) =
      ⊎_elim (λ (x : IsStale (sight k) (Some q.at)). inl (stale_above q (back q i) held x))
      (λ (x : Below q.at). inr (⊎_elim (λ (e : q.at ≡ h). inr (subst (Above gk l) e (made_above q l (back q i) held))) (λ (a : Above gk q.at h). inr (above_above gk l q.at h (made_above q l (back q i) held) a)) x))
      (stale_back q.at s)
  stale_back l (taken_above m) = ⊎_elim (λ (e : l ≡ h). inr (inl e)) (λ (x : is_among l (lent_places k.code gk gk.threads) ≡ true). inl (taken_above x)) (lent_back l m)

  -- from what was taken from, down
  h_stale : IsStale (sight z) (Some h)
  h_stale = taken_above (ap (is_among h) (lents_are z.code gz gz.threads) ∙ lent_listed gz h t (takings z.code gz.threads) u.taken (ap (λ m. is_among h (with_place m [])) (lent_same t ∙ u.lent) ∙ with_it))
    where
      with_it : is_among h (with_place (Some h) []) ≡ true
      with_it = ap (λ b. b || false) (location_itself h)

  below_stale : (l : Location) → Below l → IsStale (sight z) (Some l)
  below_stale l (inl e) = subst (λ x. IsStale (sight z) (Some x)) (sym e) h_stale
  below_stale l (inr a) = by l h a h_stale
    where
      made : (l m : Location) (q : MutRef) → value_in gk m ≡ Some (value.Mut q) → holder_of gk m q.holder ≡ Some l → IsStale (sight z) (Some m) → IsStale (sight z) (Some l)
      made l m q e held s =
          let x : Reference = record { at = m; holder = holder_of gz m q.holder; reference = q } in
          stale_above x (reference_there z m q (u.stands m ∙ e)) (subst (λ y. is_held_at l y ≡ true) (sym (holders m q.holder ∙ held)) (location_itself l)) s

      by : (l m : Location) → Above gk l m → IsStale (sight z) (Some m) → IsStale (sight z) (Some l)
      by l m (made_from q e held) s = made l m q e held s
      by l m (made_below {h = j} q e held rest) s = by l j rest (made j m q e held s)

  -- what stands there leads to the object
  below_leads : (n : ℕ) (l : Location) → Below l → leads n (value_in gk l) ≡ Some (in_cell o)
  below_leads n l (inl e) = ap (λ x. leads n (value_in gk x)) e ∙ sole.to n
  below_leads n l (inr a) = above_leads k before.first_at_holder n l h o a (sole.to n)

  -- POINTERS

  takens_back : (p : Pointer) → Among p (taken_pointers z.code gz gz.threads) → (new ≡ p) ⊎ Among p (taken_pointers k.code gk gk.threads)
  takens_back p i =
      let y = taken_told gz p (takings z.code gz.threads) (subst (λ ps. Among p ps) (takens_are z.code gz gz.threads) i) in
      let mine : Among p (taken_by gk y.taking) = subst (λ ps. Among p ps) (taken_same y.taking) y.pointer in
      ⊎_elim (λ (s : t ≡ y.taking). inl (one p (subst (λ ps. Among p ps) (ap (taken_by gk) (sym s) ∙ ap (taken_object t.word) u.place) mine)))
      (λ (j : Among y.taking (takings k.code gk.threads)). inr (subst (λ ps. Among p ps) (sym (takens_are k.code gk gk.threads)) (taken_listed gk p y.taking (takings k.code gk.threads) j mine))) (u.takes y.taking y.among)
    where
      one : (p : Pointer) → Among p (taken_object t.word (Some (in_cell o))) → new ≡ p
      one p (inl e) = e
      one p (inr e) = absurd e

  takens_on : (p : Pointer) → Among p (taken_pointers k.code gk gk.threads) → Among p (taken_pointers z.code gz gz.threads)
  takens_on p i =
      let y = taken_told gk p (takings k.code gk.threads) (subst (λ ps. Among p ps) (takens_are k.code gk gk.threads) i) in
      subst (λ ps. Among p ps) (sym (takens_are z.code gz gz.threads)) (taken_listed gz p y.taking (takings z.code gz.threads) (u.took y.taking y.among) (subst (λ ps. Among p ps) (sym (taken_same y.taking)) y.pointer))

  new_there : Among new (all_pointers (sight z))
  new_there =
      among_second new (pointers_in (things_of z)) (taken_pointers z.code gz gz.threads)
      (subst (λ ps. Among new ps) (sym (takens_are z.code gz gz.threads)) (taken_listed gz new t (takings z.code gz.threads) u.taken (subst (λ ps. Among new ps) (sym taken_new) (inl refl))))

  -- a pointer at a location is there in both
  placed_back : (p : Pointer) (l : Location) → p.at ≡ Some l → Among p (pointers_in (things_of z)) → Among p (pointers_in (things_of k))
  placed_back p l e i = let x = tells z d p l i e in told k l x.value p (sym (u.stands l) ∙ x.stands) x.pointer

  placed_on : (p : Pointer) (l : Location) → p.at ≡ Some l → Among p (pointers_in (things_of k)) → Among p (pointers_in (things_of z))
  placed_on p l e i = let x = tells k c p l i e in told z l x.value p (u.stands l ∙ x.stands) x.pointer

  in_back : (p : Pointer) → Among p (pointers_in (things_of z)) → Among p (pointers_in (things_of k))
  in_back p i = by p.at refl
    where
      by : (l : Option Location) → p.at ≡ l → Among p (pointers_in (things_of k))
      by None e = unplaced k z o u.loose p i e
      by (Some l) e = placed_back p l e i

  in_on : (p : Pointer) → (p.object ≡ o → ⊥) → Among p (pointers_in (things_of k)) → Among p (pointers_in (things_of z))
  in_on p ne i = by p.at refl
    where
      by : (l : Option Location) → p.at ≡ l → Among p (pointers_in (things_of z))
      by None e = remains k z o u.remain p i e ne
      by (Some l) e = placed_on p l e i

  standing_back : (p : Pointer) → Among p (standing_in (things_of z)) → Among p (standing_in (things_of k))
  standing_back p i = by p.at refl
    where
      by : (l : Option Location) → p.at ≡ l → Among p (standing_in (things_of k))
      by None e = unplaced_standing k z o u.loose p i e
      by (Some l) e = let x = tells z d p l (stands_in p (things_of z) i) e in told_standing k l x.value p (sym (u.stands l) ∙ x.stands) x.pointer

  every_back : (p : Pointer) → Among p (all_pointers (sight z)) → (new ≡ p) ⊎ Among p (all_pointers (sight k))
  every_back p i =
      ⊎_elim (λ (x : Among p (pointers_in (things_of z))). inr (among_first p (pointers_in (things_of k)) (taken_pointers k.code gk gk.threads) (in_back p x)))
      (λ (x : Among p (taken_pointers z.code gz gz.threads)). ⊎_elim (λ (e : new ≡ p). inl e) (λ (y : Among p (taken_pointers k.code gk gk.threads)). inr (among_second p (pointers_in (things_of k)) (taken_pointers k.code gk gk.threads) y)) (takens_back p x))
      (among_split p (pointers_in (things_of z)) (taken_pointers z.code gz gz.threads) i)

  all_standing_back : (p : Pointer) → Among p (standing_pointers (sight z)) → (new ≡ p) ⊎ Among p (standing_pointers (sight k))
  all_standing_back p i =
      ⊎_elim (λ (x : Among p (standing_in (things_of z))). inr (among_first p (standing_in (things_of k)) (taken_pointers k.code gk gk.threads) (standing_back p x)))
      (λ (x : Among p (taken_pointers z.code gz gz.threads)). ⊎_elim (λ (e : new ≡ p). inl e) (λ (y : Among p (taken_pointers k.code gk gk.threads)). inr (among_second p (standing_in (things_of k)) (taken_pointers k.code gk gk.threads) y)) (takens_back p x))
      (among_split p (standing_in (things_of z)) (taken_pointers z.code gz gz.threads) i)

  every_on : (p : Pointer) → (p.object ≡ o → ⊥) → Among p (all_pointers (sight k)) → Among p (all_pointers (sight z))
  every_on p ne i =
      ⊎_elim (λ (x : Among p (pointers_in (things_of k))). among_first p (pointers_in (things_of z)) (taken_pointers z.code gz gz.threads) (in_on p ne x))
      (λ (x : Among p (taken_pointers k.code gk gk.threads)). among_second p (pointers_in (things_of z)) (taken_pointers z.code gz gz.threads) (takens_on p x)) (among_split p (pointers_in (things_of k)) (taken_pointers k.code gk gk.threads) i)

  -- what points to the object in both from no location is nothing but what was taken
  some_none : {A : Type 0} (x : A) → None ≡ Some x → ⊥
  some_none x e = absurd (cc e)

  standing_thing : (y : Thing) (p : Pointer) → Among y (things_of z) → Among p (pointers_of y) → p.object ≡ o → Among p (standing_of y)
  standing_thing (flies v e) p i (inl q) is = absurd (both_ways z d o u.server u.address v u.lying.cell e u.lying.object (ap (λ (x : Pointer). x.object) q ∙ is) u.lying.among i)
  standing_thing (flies v e) p i (inr m) is = m
  standing_thing (holds s v) p i m is = m
  standing_thing (shares l r) p i m is = m
  standing_thing (borrows l r) p i m is = m
  standing_thing (lies r a e) p i m is = m
  standing_thing (sent r n) p i m is = m
  standing_thing _ p i m is = absurd m

  nowhere : (p : Pointer) → p.at ≡ None → p.object ≡ o → Among p (pointers_in (things_of z)) → ⊥
  nowhere p e is i =
      let y = of_thing p (things_of z) i in
      let there = standing_among p y.thing (things_of z) y.among (standing_thing y.thing p y.among y.pointer is) in
      sole.placed p (among_first p (standing_in (things_of k)) (taken_pointers k.code gk gk.threads) (standing_back p there)) is e

  -- each pointer to the object but what was taken is stale
  others_stale : (p : Pointer) → p.object ≡ o → Among p (pointers_in (things_of z)) → IsStale (sight z) p.at
  others_stale p is i = by p.at refl
    where
      by : (l : Option Location) → p.at ≡ l → IsStale (sight z) l
      by None e = nowhere p e is i
      by (Some l) e = below_stale l (sole.above p l (placed_back p l e i) is e)

  -- WORDS

  abbrev word : ObjNo → ℕ
  word = word_with before.has_words.word o t.word

  same_other : (p : Pointer) → (p.object ≡ o → ⊥) → Among p (all_pointers (sight k)) → IsStale (sight z) p.at ⊎ (p.word ≡ word p.object)
  same_other p ne i =
      ⊎_elim (λ (s : IsStale (sight k) p.at). inl (on_at p.at s)) (λ (e : p.word ≡ before.has_words.word p.object). inr (e ∙ sym (word_old before.has_words.word o t.word p.object ne))) (before.has_words.same p i)

  same_new : (p : Pointer) → new ≡ p → p.word ≡ word p.object
  same_new p e = subst (λ (q : Pointer). q.word ≡ word q.object) e (sym (word_new before.has_words.word o t.word o refl))

  same_words : (p : Pointer) → Among p (all_pointers (sight z)) → IsStale (sight z) p.at ⊎ (p.word ≡ word p.object)
  same_words p i =
      ⊎_elim
      (λ (x : Among p (pointers_in (things_of z))).
      ⊎_elim (λ (is : p.object ≡ o). inl (others_stale p is x)) (λ (ne : p.object ≡ o → ⊥). same_other p ne (among_first p (pointers_in (things_of k)) (taken_pointers k.code gk gk.threads) (in_back p x))) (objects_differ p.object o))
      (λ (x : Among p (taken_pointers z.code gz gz.threads)).
      ⊎_elim (λ (e : new ≡ p). inr (same_new p e))
      (λ (y : Among p (taken_pointers k.code gk gk.threads)).
      ⊎_elim (λ (is : p.object ≡ o). absurd (sole.placed p (among_second p (standing_in (things_of k)) (taken_pointers k.code gk gk.threads) y) is (taken_nowhere k.code gk gk.threads p y)))
      (λ (ne : p.object ≡ o → ⊥). same_other p ne (among_second p (pointers_in (things_of k)) (taken_pointers k.code gk gk.threads) y)) (objects_differ p.object o)) (takens_back p x))
      (among_split p (pointers_in (things_of z)) (taken_pointers z.code gz gz.threads) i)

  -- a pointer to another object that wasn't stale isn't
  not_newly : (p : Pointer) → Among p (all_pointers (sight k)) → (p.object ≡ o → ⊥) → (IsStale (sight k) p.at → ⊥) → (l : Option Location) → p.at ≡ l → IsStale (sight z) l → ⊥
  not_newly p i ne f None e s = s
  not_newly p i ne f (Some l) e s =
      ⊎_elim (λ (x : IsStale (sight k) (Some l)). f (subst (λ j. IsStale (sight k) j) (sym e) x))
      (λ (b : Below l).
      ⊎_elim
      (λ (x : Among p (pointers_in (things_of k))).
      let y = tells k c p l x e in
      ne (its_object 0 l y.value o p (sym (ap (leads 0) y.stands) ∙ below_leads 0 l b) y.pointer))
      (λ (x : Among p (taken_pointers k.code gk gk.threads)). some_none l (sym (taken_nowhere k.code gk gk.threads p x) ∙ e))
      (among_split p (pointers_in (things_of k)) (taken_pointers k.code gk gk.threads) i))
      (stale_back l s)

  live : (r a : ℕ) (e : Cell) → Among (lies r a e) (things_of z) → Fresh (sight z) e.object
  live r a e i = ⊎_elim (λ (is : e.object ≡ o). mine is) (λ (ne : e.object ≡ o → ⊥). other_one ne) (objects_differ e.object o)
    where
      mine : e.object ≡ o → Fresh (sight z) e.object
      mine is = record { pointer = new; among = new_there; object = sym is; fresh = λ x. x }

      other_one : (e.object ≡ o → ⊥) → Fresh (sight z) e.object
      other_one ne =
          let y = u.lay r a e i ne in
          let x = subst (λ q. Fresh (sight k) q) y.object (before.has_words.live r a y.cell y.among) in
          let away : x.pointer.object ≡ o → ⊥ = λ f. ne (sym x.object ∙ f) in
          record { pointer = x.pointer; among = every_on x.pointer away x.among; object = x.object; fresh = not_newly x.pointer x.among away x.fresh x.pointer.at refl }

  home : (r a : ℕ) (e : Cell) → Among (lies r a e) (things_of z) → LeadsTo r a (word e.object)
  home r a e i =
      ⊎_elim (λ (is : e.object ≡ o). subst (λ v. LeadsTo r a v) (sym (word_new before.has_words.word o t.word e.object is)) (u.leads r a e i is))
      (λ (ne : e.object ≡ o → ⊥).
      let y = u.lay r a e i ne in
      subst (λ v. LeadsTo r a v) (sym (word_old before.has_words.word o t.word e.object ne)) (subst (λ q. LeadsTo r a (before.has_words.word q)) y.object (before.has_words.home r a y.cell y.among))) (objects_differ e.object o)

  words_after : HasWords (sight z)
  words_after = record { word = word; same = same_words; live = live; home = home }

  -- WHAT ELSE IS KEPT

  behind : (q : MutRef) (m : Option Location) → is_first q (value_behind gz m) ≡ is_first q (value_behind gk m)
  behind q None = refl
  behind q (Some l) = ap (is_first q) (u.stands l)

  holders_stay : Holds z first_at_holder
  holders_stay = none_all (other_first gz) (references gz (things_of z)) (λ q i. ap other (behind q.reference q.holder) ∙ none_at (other_first gk) q (references gk (things_of k)) before.first_at_holder (back q i))

  -- a reference to the object is stale
  reference_stale : (q : Reference) → Among q (references gk (things_of k)) → q.reference.object ≡ o → IsStale (sight z) (Some q.at)
  reference_stale q i is =
      let b = of_borrows gk q (things_of k) i in
      let p : Pointer = record { at = Some q.at; word = q.reference.word; object = q.reference.object } in
      below_stale q.at (sole.above p q.at (told k q.at (value.Mut q.reference) p (borrow_stands k c q.at q.reference b.among) (inl refl)) is refl)

  new_object : (p : Pointer) → new ≡ p → o ≡ p.object
  new_object p e = ap (λ (q : Pointer). q.object) e

  dirty_stays : DirtyAlone (sight z)
  dirty_stays q i e n =
      let j = back q i in
      let y = before.dirty_alone q j e (λ s. n (stale_on q.at s)) in record {
        unlent = λ x m held. y.unlent x (back x m) held;
        sole = λ p m is.
            ⊎_elim (λ (f : new ≡ p). absurd (n (reference_stale q j (sym (new_object p f ∙ is)))))
            (λ (x : Among p (standing_pointers (sight k))). ⊎_elim (λ (s : IsStale (sight k) p.at). inl (on_at p.at s)) (λ (s : is_held_at q.at p.at ≡ true). inr s) (y.sole p x is)) (all_standing_back p m);
      }

  past_stays : PastWords (sight z)
  past_stays q i n p m f is same =
      ⊎_elim (λ (e : new ≡ p). past q (back q i) (sym (new_object p e ∙ is)) n (ap (λ (x : Pointer). x.word) e ∙ same))
      (λ (x : Among p (all_pointers (sight k))). before.past_words q (back q i) n p x (λ s. f (on_at p.at s)) is same) (every_back p m)

  pub taken_holds : WordsRise k z
  unfolding words_after
  taken_holds = record { has_words = words_after; first_at_holder = holders_stay; dirty_alone = dirty_stays; past_words = past_stays; began = before.began; rises = rises }
    where
      rises : (p : ObjNo) → (word p ≡ before.began.word p) ⊎ (issued (sight k) (word p) ≡ false)
      rises p = by (same_object p o)
        where
          by : (b : Bool) → ((if b then t.word else before.has_words.word p) ≡ before.began.word p) ⊎ (issued (sight k) (if b then t.word else before.has_words.word p) ≡ false)
          by true = inr unissued
          by false = before.rises p

pub taking_keeps : TakingKeeps
taking_keeps k z h o t c d u sole fresh past unissued before = taken_holds k z h o t c d u sole fresh past unissued before
