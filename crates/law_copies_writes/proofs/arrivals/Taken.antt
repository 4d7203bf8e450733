-- Where a thread takes an object from a pointer, under a word that wasn't issued, each other object is what it was.
use Rattle.std.proofs.Common.{◌≡◌, ◌⊎◌, inl, inr, ⊎_elim, ℕ, zero, suc, ◌||◌, Bool, true, false, [], Option, Some, None, refl, sym, ap, subst, ◌∙◌}
use Rattle.law_words_ends.specs.Below.fr_base.declared.name.ObjNo.{ObjNo}
use Rattle.law_words_ends.specs.Below.fr_base.declared.place.Lval.{Lval}
use Rattle.law_words_ends.specs.Below.heap_partition.declared.value.Cell.{Cell}
use Rattle.law_words_ends.specs.Below.heap_partition.declared.value.Owned.TheVariants as owned
use Rattle.law_words_ends.specs.Below.thread_state.declared.value.Value.{Value}
use Rattle.law_words_ends.specs.Below.thread_state.declared.value.Value.TheVariants as value
use Rattle.law_words_ends.specs.Below.server_model.Servers.{Cluster}
use Rattle.law_words_ends.specs.Below.coherent_memory.Names.{Among}
use Rattle.law_words_ends.specs.Below.coherent_memory.Things.{Location, at_slot, in_cell, Thing, flies, things_of}
use Rattle.law_words_ends.specs.Below.coherent_memory.Follow.{Ground, cell_of, cells_in, value_in, leads}
use Rattle.law_words_ends.specs.Below.coherent_memory.Stale.{is_among, Reference, references, holder_of, one_star_less, is_held_at, with_place, lent_places, changed_above, stale_above, taken_above}
use Rattle.law_words_ends.specs.Below.coherent_memory.Sight.{Pointer, pointers_in, taken_object, taken_pointers, is_object_among, sight, issued}
use Rattle.law_words_ends.specs.Below.coherent_memory.Coherent.{Holds, first_at_holder}
use Rattle.law_words_ends.specs.Below.coherent_memory.Words.{all_pointers, IsStale, Fresh, HasWords}
use Rattle.law_words_ends.proofs.Below.coherent_memory.Bags.{among_split}
use Rattle.law_words_ends.proofs.Below.coherent_memory.Words.{told as told_stale}
use Rattle.law_words_ends.specs.Below.law_words_paths.paths.Pointing.{Above, made_from, made_below}
use Rattle.law_words_ends.proofs.Below.law_words_paths.paths.Origins.{among_first, among_second}
use Rattle.law_words_ends.proofs.Below.law_words_paths.paths.Contained.{reference_there}
use Rattle.law_words_ends.proofs.Below.law_words_paths.paths.FreshPaths.{held_at}
use Rattle.law_words_ends.proofs.Below.law_words_paths.paths.Sole.{some_is}
use Rattle.law_words_ends.specs.Below.law_words_paths.words.Reworded.{HasPlaces}
use Rattle.law_words_ends.specs.Below.law_words_paths.words.Soles.{IsSole}
use Rattle.law_words_ends.specs.Below.law_words_paths.words.Unmoved.{Taking, takings}
use Rattle.law_words_ends.proofs.Below.law_words_paths.words.Follows.{seen_places_lead, seen_holders_lead}
use Rattle.law_words_ends.proofs.Below.law_words_paths.words.Grounds.{of_borrows}
use Rattle.law_words_ends.proofs.Below.law_words_paths.words.Loose.{remains}
use Rattle.law_words_ends.proofs.Below.law_words_paths.words.Standing.{CellOf, lying, flying, cell_among, cell_found, pointers_among, pointer_at, tells, told, borrow_stands}
use Rattle.law_words_ends.proofs.Below.law_words_paths.words.Takings.{lent_by, taken_by, lents_are, takens_are, lent_listed, lent_told, taken_listed, taken_told}
use Rattle.law_words_ends.proofs.Below.law_words_paths.words.Words.{above_leads, taken_nowhere}
use Rattle.law_copies_kept.proofs.copies.Clean.{cell_thing, thing_cell}
use Rattle.law_copies_kept.proofs.references.CleanReads.{dirty_one}
use Rattle.law_copies_kept.proofs.references.Worded.{dirty_found, same_truth, objects_differ}
use Rattle.law_copies_kept.proofs.objects.Turned.{Same}
use Rattle.law_words_ends.specs.Below.law_words_asked.awaited.TakenUp.{TakenUp}
use Rattle.law_copies_kept.proofs.hidden.Settled.{by_word, Covered, Settled}
use Rattle.law_copies_kept.proofs.hidden.Reworded.{cell_by_value, NotAsked}

-- one pointer above another one, above a third
above_above : (g : Ground) (l m h : Location) → Above g l m → Above g m h → Above g l h
above_above g l m _ a (made_from q e held) = made_below q e held a
above_above g l m _ a (made_below {h = j} q e held rest) = made_below q e held (above_above g l m j a rest)

same_cell : {p o : ObjNo} → Some (in_cell p) ≡ Some (in_cell o) → p ≡ o
same_cell e = cc

-- a pointer of what leads to an object
its_object : (t : ℕ) (l : Location) (v : Value) (o : ObjNo) (p : Pointer) → leads t (Some v) ≡ Some (in_cell o) → Among p (pointer_at l v) → p.object ≡ o
its_object t l (value.Own (owned.Box b)) o p e (inl q) = ap (λ (y : Pointer). y.object) (sym q) ∙ same_cell e
its_object t l (value.Own (owned.Box b)) o p e (inr q) = absurd q
its_object t l (value.Mut r) o p e (inl q) = ap (λ (y : Pointer). y.object) (sym q) ∙ same_cell e
its_object t l (value.Mut r) o p e (inr q) = absurd q
its_object t l (value.Own owned.Nothing) o p e q = absurd q
its_object t l (value.Own owned.Unit) o p e q = absurd q
its_object t l (value.Own (owned.Int n)) o p e q = absurd q
its_object t l (value.Own (owned.Mutex m)) o p e q = absurd q
its_object t l (value.Own (owned.Task n)) o p e q = absurd q
its_object t l value.Gone o p e q = absurd q
its_object t l (value.SharedSlot i) o p e q = absurd q
its_object t l (value.MutSlot i) o p e q = absurd q
its_object t l (value.Shared r) o p e q = absurd q
its_object t l (value.Held m) o p e q = absurd q

module _ (k z : Cluster) (h : Location) (o : ObjNo) (t : Taking) (c : HasPlaces k) (d : HasPlaces z) (u : TakenUp k z h o t) (sole : IsSole k h o) (firsts : Holds k first_at_holder) (before : HasWords (sight k)) (after : HasWords (sight z)) where
  abbrev gk : Ground
  gk = (sight k).ground

  abbrev gz : Ground
  gz = (sight z).ground

  -- the pointer that comes
  abbrev new : Pointer
  new = record { at = None; word = t.word; object = o }

  -- PLACES

  in_slots : (n v i : ℕ) → leads n (value_in gz (at_slot v i)) ≡ leads n (value_in gk (at_slot v i))
  in_slots n v i = ap (leads n) (u.stands (at_slot v i))

  in_cells : (n : ℕ) (p : ObjNo) → leads n (value_in gz (in_cell p)) ≡ leads n (value_in gk (in_cell p))
  in_cells n p = ap (leads n) (u.stands (in_cell p))

  holders : (l : Location) (v : Lval) → holder_of gz l v ≡ holder_of gk l v
  holders l v = seen_holders_lead gk gz in_slots in_cells l v

  less : (n slot i : ℕ) → one_star_less gz n slot i ≡ one_star_less gk n slot i
  less n slot zero = refl
  less n slot (suc i) = seen_places_lead gk gz in_slots in_cells n slot i

  lent_same : (x : Taking) → lent_by gz x ≡ lent_by gk x
  lent_same x = less x.thread x.place.slot x.place.depth

  taken_same : (x : Taking) → taken_by gz x ≡ taken_by gk x
  taken_same x = ap (taken_object x.word) (seen_places_lead gk gz in_slots in_cells x.thread x.place.slot x.place.depth)

  -- REFERENCES

  on : (q : Reference) → Among q (references gk (things_of k)) → Among q (references gz (things_of z))
  on q i =
      let b = of_borrows gk q (things_of k) i in
      let there = reference_there z q.at q.reference (u.stands q.at ∙ borrow_stands k c q.at q.reference b.among) in
      subst (λ (x : Option Location). Among (record { at = q.at; holder = x; reference = q.reference }) (references gz (things_of z))) (holders q.at q.reference.holder ∙ sym b.holder) there

  back : (q : Reference) → Among q (references gz (things_of z)) → Among q (references gk (things_of k))
  back q i =
      let b = of_borrows gz q (things_of z) i in
      let there = reference_there k q.at q.reference (sym (u.stands q.at) ∙ borrow_stands z d q.at q.reference b.among) in
      subst (λ (x : Option Location). Among (record { at = q.at; holder = x; reference = q.reference }) (references gk (things_of k))) (sym (holders q.at q.reference.holder) ∙ sym b.holder) there

  -- WHAT IS STALE

  lent_on : (l : Location) → is_among l (lent_places k.code gk gk.threads) ≡ true → is_among l (lent_places z.code gz gz.threads) ≡ true
  lent_on l e =
      let y = lent_told gk l (takings k.code gk.threads) (sym (ap (is_among l) (lents_are k.code gk gk.threads)) ∙ e) in
      ap (is_among l) (lents_are z.code gz gz.threads) ∙ lent_listed gz l y.taking (takings z.code gz.threads) (u.took y.taking y.among) (ap (λ m. is_among l (with_place m [])) (lent_same y.taking) ∙ y.at)

  stale_on : (l : Location) → IsStale (sight k) (Some l) → IsStale (sight z) (Some l)
  stale_on l (changed_above q i held ch) = changed_above q (on q i) held ch
  stale_on l (stale_above q i held s) = stale_above q (on q i) held (stale_on q.at s)
  stale_on l (taken_above m) = taken_above (lent_on l m)

  -- that pointer, or one that stands above it
  abbrev Below : Location → Type 0
  Below l = (l ≡ h) ⊎ Above gk l h

  alone_place : (l m : Location) → is_among l (with_place (Some m) []) ≡ true → m ≡ l
  alone_place l m e = held_at_one e
    where
      held_at_one : is_among l (with_place (Some m) []) ≡ true → m ≡ l
      held_at_one f = some_is (held_at l (Some m) (first_only (is_held_at l (Some m)) f))
        where
          first_only : (b : Bool) → (b || false) ≡ true → b ≡ true
          first_only true g = refl
          first_only false g = absurd (cc g)

  lent_back : (l : Location) → is_among l (lent_places z.code gz gz.threads) ≡ true → (l ≡ h) ⊎ (is_among l (lent_places k.code gk gk.threads) ≡ true)
  lent_back l e =
      let y = lent_told gz l (takings z.code gz.threads) (sym (ap (is_among l) (lents_are z.code gz gz.threads)) ∙ e) in
      let at : is_among l (with_place (lent_by gk y.taking) []) ≡ true = ap (λ m. is_among l (with_place m [])) (sym (lent_same y.taking)) ∙ y.at in
      ⊎_elim (λ (s : t ≡ y.taking). inl (sym (alone_place l h (ap (λ m. is_among l (with_place m [])) (sym (ap (lent_by gk) (sym s) ∙ u.lent)) ∙ at))))
      (λ (i : Among y.taking (takings k.code gk.threads)). inr (ap (is_among l) (lents_are k.code gk gk.threads) ∙ lent_listed gk l y.taking (takings k.code gk.threads) i at)) (u.takes y.taking y.among)

  made_above : (q : Reference) (l : Location) → Among q (references gk (things_of k)) → is_held_at l q.holder ≡ true → Above gk l q.at
  made_above q l i held = let b = of_borrows gk q (things_of k) i in made_from q.reference (borrow_stands k c q.at q.reference b.among) (sym b.holder ∙ held_at l q.holder held)

  stale_back : (l : Location) → IsStale (sight z) (Some l) → IsStale (sight k) (Some l) ⊎ Below l
  stale_back l (changed_above q i held ch) = inl (changed_above q (back q i) held ch)
  stale_back l (stale_above q i held s) =
      ⊎_elim (λ (x : IsStale (sight k) (Some q.at)). inl (stale_above q (back q i) held x))
      (λ (x : Below q.at). inr (⊎_elim (λ (e : q.at ≡ h). inr (subst (Above gk l) e (made_above q l (back q i) held))) (λ (a : Above gk q.at h). inr (above_above gk l q.at h (made_above q l (back q i) held) a)) x))
      (stale_back q.at s)
  stale_back l (taken_above m) = ⊎_elim (λ (e : l ≡ h). inr (inl e)) (λ (x : is_among l (lent_places k.code gk gk.threads) ≡ true). inl (taken_above x)) (lent_back l m)

  -- what stands there leads to the object
  below_leads : (n : ℕ) (l : Location) → Below l → leads n (value_in gk l) ≡ Some (in_cell o)
  below_leads n l (inl e) = ap (λ x. leads n (value_in gk x)) e ∙ sole.to n
  below_leads n l (inr a) = above_leads k firsts n l h o a (sole.to n)

  takens_on : (p : Pointer) → Among p (taken_pointers k.code gk gk.threads) → Among p (taken_pointers z.code gz gz.threads)
  takens_on p i =
      let y = taken_told gk p (takings k.code gk.threads) (subst (λ ps. Among p ps) (takens_are k.code gk gk.threads) i) in
      subst (λ ps. Among p ps) (sym (takens_are z.code gz gz.threads)) (taken_listed gz p y.taking (takings z.code gz.threads) (u.took y.taking y.among) (subst (λ ps. Among p ps) (sym (taken_same y.taking)) y.pointer))

  placed_on : (p : Pointer) (l : Location) → p.at ≡ Some l → Among p (pointers_in (things_of k)) → Among p (pointers_in (things_of z))
  placed_on p l e i = let x = tells k c p l i e in told z l x.value p (u.stands l ∙ x.stands) x.pointer

  in_on : (p : Pointer) → (p.object ≡ o → ⊥) → Among p (pointers_in (things_of k)) → Among p (pointers_in (things_of z))
  in_on p ne i = by p.at refl
    where
      by : (l : Option Location) → p.at ≡ l → Among p (pointers_in (things_of z))
      by None e = remains k z o u.remain p i e ne
      by (Some l) e = placed_on p l e i

  every_on : (p : Pointer) → (p.object ≡ o → ⊥) → Among p (all_pointers (sight k)) → Among p (all_pointers (sight z))
  every_on p ne i =
      ⊎_elim (λ (x : Among p (pointers_in (things_of k))). among_first p (pointers_in (things_of z)) (taken_pointers z.code gz gz.threads) (in_on p ne x))
      (λ (x : Among p (taken_pointers k.code gk gk.threads)). among_second p (pointers_in (things_of z)) (taken_pointers z.code gz gz.threads) (takens_on p x)) (among_split p (pointers_in (things_of k)) (taken_pointers k.code gk gk.threads) i)

  -- THE OBJECT THAT IS TAKEN

  new_there : Among new (all_pointers (sight z))
  new_there =
      among_second new (pointers_in (things_of z)) (taken_pointers z.code gz gz.threads)
      (subst (λ ps. Among new ps) (sym (takens_are z.code gz gz.threads)) (taken_listed gz new t (takings z.code gz.threads) u.taken (subst (λ ps. Among new ps) (sym (taken_same t ∙ ap (taken_object t.word) u.place)) (inl refl))))

  its_word : after.word o ≡ t.word
  its_word = ⊎_elim (λ (x : ⊥). absurd x) (λ (x : t.word ≡ after.word o). sym x) (after.same new new_there)

  -- EACH OTHER ONE

  -- a pointer to another object that wasn't stale isn't
  not_newly : (p : Pointer) → Among p (all_pointers (sight k)) → (p.object ≡ o → ⊥) → (IsStale (sight k) p.at → ⊥) → (l : Option Location) → p.at ≡ l → IsStale (sight z) l → ⊥
  not_newly p i ne f None e s = s
  not_newly p i ne f (Some l) e s =
      ⊎_elim (λ (x : IsStale (sight k) (Some l)). f (subst (λ j. IsStale (sight k) j) (sym e) x))
      (λ (b : Below l).
      ⊎_elim
      (λ (x : Among p (pointers_in (things_of k))).
      let y = tells k c p l x e in
      ne (its_object 0 l y.value o p (sym (ap (leads 0) y.stands) ∙ below_leads 0 l b) y.pointer))
      (λ (x : Among p (taken_pointers k.code gk gk.threads)). let no : None ≡ Some l = sym (taken_nowhere k.code gk gk.threads p x) ∙ e in absurd (cc no))
      (among_split p (pointers_in (things_of k)) (taken_pointers k.code gk gk.threads) i))
      (stale_back l s)

  -- its word is that of a pointer to it that isn't stale in either
  by_pointer : (p : Pointer) → Among p (all_pointers (sight k)) → (p.object ≡ o → ⊥) → (IsStale (sight k) p.at → ⊥) → after.word p.object ≡ before.word p.object
  by_pointer p i ne f =
      let was : p.word ≡ before.word p.object = ⊎_elim (λ (x : IsStale (sight k) p.at). absurd (f x)) (λ (x : p.word ≡ before.word p.object). x) (before.same p i) in
      let now : p.word ≡ after.word p.object = ⊎_elim (λ (x : IsStale (sight z) p.at). absurd (not_newly p i ne f p.at refl x)) (λ (x : p.word ≡ after.word p.object). x) (after.same p (every_on p ne i)) in
      sym now ∙ was

  by_cell : (e : Cell) → (e.object ≡ o → ⊥) → Among e (cells_in (things_of k)) → after.word e.object ≡ before.word e.object
  by_cell e ne m = let q = cell_thing (things_of k) e m in by q.0 q.2 q.1
    where
      by : (y : Thing) → CellOf e y → Among y (things_of k) → after.word e.object ≡ before.word e.object
      by _ (lying r a) i =
          let f : Fresh (sight k) e.object = before.live r a e i in
          subst (λ p. after.word p ≡ before.word p) f.object (by_pointer f.pointer f.among (λ s. ne (sym f.object ∙ s)) f.fresh)
      by _ (flying v) i =
          let p : Pointer = record { at = None; word = v; object = e.object } in
          by_pointer p (among_first p (pointers_in (things_of k)) (taken_pointers (sight k).code gk gk.threads) (pointers_among p (flies v e) (things_of k) i (inl refl))) ne (λ x. x)

  cells_on : (e : Cell) → Among e (cells_in (things_of k)) → Among e (cells_in (things_of z))
  cells_on e m = cell_by_value k z c e (u.stands (in_cell e.object)) m

  cells_back : (e : Cell) → Among e (cells_in (things_of z)) → Among e (cells_in (things_of k))
  cells_back e m = cell_by_value z k d e (sym (u.stands (in_cell e.object))) m

  dirty_same : (p : ObjNo) → (p ≡ o → ⊥) → is_object_among p (sight z).dirty ≡ is_object_among p (sight k).dirty
  dirty_same p ne = same_truth (is_object_among p (sight k).dirty) (is_object_among p (sight z).dirty) to fro
    where
      to : is_object_among p (sight k).dirty ≡ true → is_object_among p (sight z).dirty ≡ true
      to e =
          let q = dirty_one p (sight k).stale (things_of k) e in
          let r : Reference = record { at = q.at; holder = holder_of gk q.at q.reference.holder; reference = q.reference } in
          let stood = borrow_stands k c q.at q.reference q.among in
          dirty_found z q.reference p (record {
            reference = r;
            among = on r (reference_there k q.at q.reference stood);
            same = refl;
            fresh = λ s. ⊎_elim (λ (x : IsStale (sight k) (Some q.at)). let no : false ≡ true = sym q.fresh ∙ told_stale k (Some q.at) x in absurd (cc no))
                (λ (x : Below q.at). ne (sym q.object ∙ same_cell (sym (ap (leads 0) stood) ∙ below_leads 0 q.at x))) (stale_back q.at s);
          }) q.object q.dirty

      fro : is_object_among p (sight z).dirty ≡ true → is_object_among p (sight k).dirty ≡ true
      fro e =
          let q = dirty_one p (sight z).stale (things_of z) e in
          let r : Reference = record { at = q.at; holder = holder_of gz q.at q.reference.holder; reference = q.reference } in
          dirty_found k q.reference p (record {
            reference = r;
            among = back r (reference_there z q.at q.reference (borrow_stands z d q.at q.reference q.among));
            same = refl;
            fresh = λ s. let no : false ≡ true = sym q.fresh ∙ told_stale z (Some q.at) (stale_on q.at s) in absurd (cc no);
          }) q.object q.dirty

  -- where it has a cell
  stays : (e : Cell) → (e.object ≡ o → ⊥) → Among e (cells_in (things_of k)) → Same k z before after e.object
  stays e ne m = record { word = by_cell e ne m; on = λ x q i. cells_on x i; back = λ x q i. cells_back x i; dirty = dirty_same e.object ne }

  pub taken_settles : issued (sight k) t.word ≡ false → NotAsked k before o → Settled k z before
  taken_settles fresh wanted = record { after = after; each = λ p. ⊎_elim (λ (e : p ≡ o). inr (its p e)) (λ (ne : p ≡ o → ⊥). by p ne (cell_of (cells_in (things_of k)) p) refl) (objects_differ p o) }
    where
      its : (p : ObjNo) → p ≡ o → Covered k z before after p
      its p e = record { covers = λ x q i. by_word (ap (issued (sight k)) (ap after.word e ∙ its_word) ∙ fresh); unasked = subst (NotAsked k before) (sym e) wanted }

      by : (p : ObjNo) → (p ≡ o → ⊥) → (x : Option Cell) → cell_of (cells_in (things_of k)) p ≡ x → Same k z before after p ⊎ Covered k z before after p
      by p ne (Some e) f =
          let i = cell_among p e (things_of k) f in
          inl (subst (λ q. Same k z before after q) i.object (stays e (λ s. ne (sym i.object ∙ s)) (thing_cell (things_of k) e i.thing i.is i.among)))
      by p ne None f = inr (record { covers = λ x q i. absurd (none_there x q (cells_back x i)); unasked = λ x q i. absurd (none_there x q i) })
        where
          none_there : (x : Cell) → x.object ≡ p → Among x (cells_in (things_of k)) → ⊥
          none_there x q i =
              let y = cell_thing (things_of k) x i in
              let found : cell_of (cells_in (things_of k)) x.object ≡ Some x = cell_found x y.0 (things_of k) (c.home_of_each x.object) y.2 y.1 in
              let no : None ≡ Some x = sym f ∙ ap (cell_of (cells_in (things_of k))) (sym q) ∙ found in
              cc no
