-- An object that lies somewhere has a pointer that isn't stale: its owner, or a reference above that.
use Rattle.std.proofs.Common.{◌≡◌, ◌⊎◌, inl, inr, ⊎_elim, ℕ, zero, suc, ◌+◌, ◌<◌, ◌≤◌, ◌==◌, Bool, true, false, ◌||◌, List, [], ◌∷◌, Option, Some, None, refl, sym, ap, subst, ◌∙◌, arith}
use Rattle.law_words_values.specs.Below.fr_base.declared.name.ObjNo.{ObjNo}
use Rattle.law_words_values.specs.Below.heap_partition.declared.value.Cell.{Cell}
use Rattle.law_words_values.specs.Below.heap_partition.declared.value.Owned.{Owned}
use Rattle.law_words_values.specs.Below.heap_partition.declared.value.Owned.TheVariants as owned
use Rattle.law_words_values.specs.Below.mut_borrow.declared.mutable.MutRef.{MutRef}
use Rattle.law_words_values.specs.Below.thread_state.declared.value.Value.{Value}
use Rattle.law_words_values.specs.Below.thread_state.declared.value.Value.TheVariants as value
use Rattle.law_words_values.specs.Below.server_msgs.declared.message.Message.{Message}
use Rattle.law_words_values.specs.Below.server_msgs.declared.message.Message.TheVariants.{Drop}
use Rattle.law_words_values.specs.Below.server_model.Servers.{Cluster}
use Rattle.law_words_values.specs.Below.coherent_memory.Names.{Among, tot, one, other, same_object, boxes}
use Rattle.law_words_values.specs.Below.coherent_memory.Things.{Location, in_cell, Thing, holds, lies, flies, sent, things_of}
use Rattle.law_words_values.specs.Below.coherent_memory.Follow.{Ground, value_in, value_behind, leads, locate}
use Rattle.law_words_values.specs.Below.coherent_memory.Stale.{same_location, is_among, Reference, references, is_held_at, with_place, one_star_less, lent_places, changed_above, stale_above, taken_above}
use Rattle.law_words_values.specs.Below.coherent_memory.Sight.{Pointer, pointer_in, location_of, dropped_pointer, pointers_of, pointers_in, taken_object, taken_pointers, is_stale, sight}
use Rattle.law_words_values.specs.Below.coherent_memory.Placing.{is_first, other_first}
use Rattle.law_words_values.specs.Below.coherent_memory.Coherent.{Holds, first_at_holder}
use Rattle.law_words_values.specs.Below.coherent_memory.Weights.{cells, drops, owners}
use Rattle.law_words_values.specs.Below.coherent_memory.Words.{IsStale, Fresh}
use Rattle.law_words_values.proofs.Below.coherent_memory.Words.{itself, named, none_at, tells as tells_stale, told as told_stale}
use Rattle.law_words_values.proofs.Below.law_words_paths.paths.Climbs.{and_second}
use Rattle.law_words_values.proofs.Below.law_words_paths.paths.FreshPaths.{held_at, same_is}
use Rattle.law_words_values.proofs.Below.law_words_paths.paths.Origins.{among_first, among_second}
use Rattle.law_words_values.specs.Below.law_words_paths.words.Reworded.{HasPlaces}
use Rattle.law_words_values.specs.Below.law_words_paths.words.Unmoved.{takings}
use Rattle.law_words_values.proofs.Below.law_words_paths.words.Grounds.{of_borrows}
use Rattle.law_words_values.proofs.Below.law_words_paths.words.Standing.{pointer_at, tells, told, borrow_stands}
use Rattle.law_words_values.proofs.Below.law_words_paths.words.Takings.{lents_are, takens_are, lent_by, taken_by, lent_told, taken_listed}
use Rattle.law_words_values.specs.references.Fewer.{IsRanked, RankedAreFresh}

-- ITS OWNER

-- a pointer to the object
record PointsTo (ps : List Pointer) (o : ObjNo) : Type 0 where
  pointer : Pointer
  among : Among pointer ps
  object : pointer.object ≡ o

boxed : (m : Option Location) (v : Owned) (o : ObjNo) → 1 ≤ boxes o v → PointsTo (pointer_in m v) o
boxed m (owned.Box b) o e = by (same_object b.object o) refl e
  where
    by : (q : Bool) → same_object b.object o ≡ q → 1 ≤ one q → PointsTo (pointer_in m (owned.Box b)) o
    by true q f = record { pointer = record { at = m; word = b.word; object = b.object }; among = inl refl; object = named b.object o q }
    by false q f = absurd (omega (arith, f))
boxed m owned.Nothing o e = absurd (omega (arith, e))
boxed m owned.Unit o e = absurd (omega (arith, e))
boxed m (owned.Int i) o e = absurd (omega (arith, e))
boxed m (owned.Mutex i) o e = absurd (omega (arith, e))
boxed m (owned.Task i) o e = absurd (omega (arith, e))

dropped : (m : Message) (o : ObjNo) → 1 ≤ drops o m → PointsTo (dropped_pointer m) o
dropped (Drop w p) o e = by (same_object p o) refl e
  where
    by : (q : Bool) → same_object p o ≡ q → 1 ≤ one q → PointsTo (dropped_pointer (Drop w p)) o
    by true q f = record { pointer = record { at = None; word = w; object = p }; among = inl refl; object = named p o q }
    by false q f = absurd (omega (arith, f))
dropped _ o e = absurd (omega (arith, e))

owner_of : (y : Thing) (o : ObjNo) → 1 ≤ owners o y → PointsTo (pointers_of y) o
owner_of (holds p v) o e = boxed (location_of p) v o e
owner_of (lies s a c) o e = boxed (Some (in_cell c.object)) c.value o e
owner_of (flies w c) o e = let q = boxed (Some (in_cell c.object)) c.value o e in record { pointer = q.pointer; among = inr q.among; object = q.object }
owner_of (sent s m) o e = dropped m o e
owner_of _ o e = absurd (omega (arith, e))

owner_in : (b : List Thing) (o : ObjNo) → 1 ≤ tot (owners o) b → PointsTo (pointers_in b) o
owner_in [] o e = absurd (omega (arith, e))
owner_in (y ∷ b) o e = by (owners o y) refl (λ h. owner_in b o h)
  where
    by : (n : ℕ) → owners o y ≡ n → (1 ≤ tot (owners o) b → PointsTo (pointers_in b) o) → PointsTo (pointers_in (y ∷ b)) o
    by zero q go = let r = go (omega (arith, e, q)) in record { pointer = r.pointer; among = among_second r.pointer (pointers_of y) (pointers_in b) r.among; object = r.object }
    by (suc n) q go = let r = owner_of y o (omega (arith, q)) in record { pointer = r.pointer; among = among_first r.pointer (pointers_of y) (pointers_in b) r.among; object = r.object }

-- a cell counts
cell_counts : (r a : ℕ) (c : Cell) (b : List Thing) → Among (lies r a c) b → 1 ≤ tot (cells c.object) b
cell_counts r a c [] h = absurd h
cell_counts r a c (y ∷ b) (inl e) =
    let same : cells c.object y ≡ cells c.object (lies r a c) = ap (cells c.object) e in
    let is : one (same_object c.object c.object) ≡ 1 = ap one (itself c.object c.object refl) in
    omega (arith, same, is)
cell_counts r a c (y ∷ b) (inr h) = let q = cell_counts r a c b h in omega (arith, q)

-- WHAT LEADS TO THE OBJECT

-- where a pointer stands, a star leads to its object
pointer_leads : (t : ℕ) (l : Location) (v : Value) (p : Pointer) → Among p (pointer_at l v) → leads t (Some v) ≡ Some (in_cell p.object)
pointer_leads t l (value.Own (owned.Box b)) p (inl e) = ap (λ (q : Pointer). Some (in_cell q.object)) e
pointer_leads t l (value.Own (owned.Box b)) p (inr h) = absurd h
pointer_leads t l (value.Mut r) p (inl e) = ap (λ (q : Pointer). Some (in_cell q.object)) e
pointer_leads t l (value.Mut r) p (inr h) = absurd h
pointer_leads t l (value.Own owned.Nothing) p h = absurd h
pointer_leads t l (value.Own owned.Unit) p h = absurd h
pointer_leads t l (value.Own (owned.Int i)) p h = absurd h
pointer_leads t l (value.Own (owned.Mutex i)) p h = absurd h
pointer_leads t l (value.Own (owned.Task i)) p h = absurd h
pointer_leads t l value.Gone p h = absurd h
pointer_leads t l (value.SharedSlot i) p h = absurd h
pointer_leads t l (value.MutSlot i) p h = absurd h
pointer_leads t l (value.Shared r) p h = absurd h
pointer_leads t l (value.Held i) p h = absurd h

-- and its object is that of a reference whose first word it has
first_object : (r : MutRef) (l : Location) (v : Value) (p : Pointer) → is_first r (Some v) ≡ true → Among p (pointer_at l v) → r.object ≡ p.object
first_object r l (value.Own (owned.Box b)) p f (inl e) = named r.object b.object (and_second (r.first == b.word) (same_object r.object b.object) f) ∙ ap (λ (q : Pointer). q.object) e
first_object r l (value.Own (owned.Box b)) p f (inr h) = absurd h
first_object r l (value.Mut q) p f (inl e) = named r.object q.object (and_second (r.first == q.word) (same_object r.object q.object) f) ∙ ap (λ (q : Pointer). q.object) e
first_object r l (value.Mut q) p f (inr h) = absurd h
first_object r l (value.Own owned.Nothing) p f h = absurd h
first_object r l (value.Own owned.Unit) p f h = absurd h
first_object r l (value.Own (owned.Int i)) p f h = absurd h
first_object r l (value.Own (owned.Mutex i)) p f h = absurd h
first_object r l (value.Own (owned.Task i)) p f h = absurd h
first_object r l value.Gone p f h = absurd h
first_object r l (value.SharedSlot i) p f h = absurd h
first_object r l (value.MutSlot i) p f h = absurd h
first_object r l (value.Shared q) p f h = absurd h
first_object r l (value.Held i) p f h = absurd h

is_so : (b : Bool) → other b ≡ 0 → b ≡ true
is_so true e = refl
is_so false e = absurd cc

-- one place that was taken from
lent_there : (l : Location) (o : Option Location) → is_among l (with_place o []) ≡ true → o ≡ Some l
lent_there l None e = absurd cc
lent_there l (Some m) e = by (same_location m l) refl e
  where
    by : (b : Bool) → same_location m l ≡ b → (b || false) ≡ true → Some m ≡ Some l
    by true q f = ap Some (same_is m l q)
    by false q f = absurd cc

module _ (k : Cluster) (c : HasPlaces k) (firsts : Holds k first_at_holder) (ranked : IsRanked k) where
  abbrev g : Ground
  g = (sight k).ground

  -- NO REFERENCE RANKS ABOVE THIS

  abbrev top : List Reference → ℕ
  top [] = 0
  top (q ∷ rs) = ranked.rank q.at + top rs

  below_top : (q : Reference) (rs : List Reference) → Among q rs → ranked.rank q.at ≤ top rs
  below_top q [] h = absurd h
  below_top q (x ∷ rs) (inl e) = let same : ranked.rank x.at ≡ ranked.rank q.at = ap (λ (y : Reference). ranked.rank y.at) e in omega (arith, same)
  below_top q (x ∷ rs) (inr h) = let r = below_top q rs h in omega (arith, r)

  -- A REFERENCE ABOVE

  stale_or_not : (l : Option Location) → IsStale (sight k) l ⊎ (IsStale (sight k) l → ⊥)
  stale_or_not l = by (is_stale (sight k).stale l) refl
    where
      by : (b : Bool) → is_stale (sight k).stale l ≡ b → IsStale (sight k) l ⊎ (IsStale (sight k) l → ⊥)
      by true e = inl (tells_stale k l e)
      by false e = inr (λ s. (let z : false ≡ true = sym e ∙ told_stale k l s in absurd cc))

  first_there : (q : Reference) (l : Location) → Among q (references g (things_of k)) → q.holder ≡ Some l → is_first q.reference (value_in g l) ≡ true
  first_there q l i e = is_so (is_first q.reference (value_in g l)) (subst (λ o. other (is_first q.reference (value_behind g o)) ≡ 0) e (none_at (other_first g) q (references g (things_of k)) firsts i))

  stood : (q : Reference) → Among q (references g (things_of k)) → value_in g q.at ≡ Some (value.Mut q.reference)
  stood q i = borrow_stands k c q.at q.reference (of_borrows g q (things_of k) i).among

  ranks : (q : Reference) (l : Location) → Among q (references g (things_of k)) → q.holder ≡ Some l → ranked.rank l < ranked.rank q.at
  ranks q l i e = ranked.above q.at l q.reference (stood q i) (sym (of_borrows g q (things_of k) i).holder ∙ e)

  -- the pointer at the location was taken from
  taken_there : (l : Location) (v : Value) (p : Pointer) → value_in g l ≡ Some v → Among p (pointer_at l v) → is_among l (lent_places k.code g g.threads) ≡ true → Fresh (sight k) p.object
  taken_there l v p stands pointer e =
      let y = lent_told g l (takings k.code g.threads) (sym (ap (is_among l) (lents_are k.code g g.threads)) ∙ e) in
      let from : lent_by g y.taking ≡ Some l = lent_there l (lent_by g y.taking) y.at in
      let to = on y.taking.thread y.taking.place.slot y.taking.place.depth from in
      let x : Pointer = record { at = None; word = y.taking.word; object = p.object } in
      let there : Among x (taken_by g y.taking) = subst (λ o. Among x (taken_object y.taking.word o)) (sym to) (inl refl) in
      record {
        pointer = x;
        among = among_second x (pointers_in (things_of k)) (taken_pointers k.code g g.threads) (subst (λ ps. Among x ps) (sym (takens_are k.code g g.threads)) (taken_listed g x y.taking (takings k.code g.threads) y.among there));
        object = refl;
        fresh = λ s. s;
      }
    where
      on : (t i d : ℕ) → one_star_less g t i d ≡ Some l → locate g t i d ≡ Some (in_cell p.object)
      on t i zero f = absurd cc
      on t i (suc d) f = ap (λ o. leads t (value_behind g o)) f ∙ ap (leads t) stands ∙ pointer_leads t l v p pointer

  fresh_here : (p : Pointer) → Among p (pointers_in (things_of k)) → (IsStale (sight k) p.at → ⊥) → Fresh (sight k) p.object
  fresh_here p m n = record { pointer = p; among = among_first p (pointers_in (things_of k)) (taken_pointers k.code g g.threads) m; object = refl; fresh = n }

  abbrev Goes : ℕ → Type 0
  Goes n = (p : Pointer) (l : Location) → p.at ≡ Some l → Among p (pointers_in (things_of k)) → top (references g (things_of k)) ≤ ranked.rank l + n → Fresh (sight k) p.object

  -- from a stale pointer to the reference that was made from it
  up : (n : ℕ) → ((m : ℕ) → n ≡ suc m → Goes m) → (p : Pointer) (l : Location) → p.at ≡ Some l → Among p (pointers_in (things_of k)) → top (references g (things_of k)) ≤ ranked.rank l + n
      → (q : Reference) → Among q (references g (things_of k)) → is_held_at l q.holder ≡ true → Fresh (sight k) p.object
  up n go p l e m le q i h = subst (λ o. Fresh (sight k) o) object (by n refl)
    where
      held : q.holder ≡ Some l
      held = held_at l q.holder h

      object : q.reference.object ≡ p.object
      object = let t = tells k c p l m e in first_object q.reference l t.value p (ap (is_first q.reference) (sym t.stands) ∙ first_there q l i held) t.pointer

      x : Pointer
      x = record { at = Some q.at; word = q.reference.word; object = q.reference.object }

      by : (w : ℕ) → n ≡ w → Fresh (sight k) q.reference.object
      by zero z =
          let higher = ranks q l i held in
          let bound = below_top q (references g (things_of k)) i in
          absurd (omega (arith, le, higher, bound, z))
      by (suc w) z =
          let higher = ranks q l i held in
          let bound = below_top q (references g (things_of k)) i in
          go w z x q.at refl (told k q.at (value.Mut q.reference) x (stood q i) (inl refl)) (omega (arith, le, higher, bound, z))

  from_stale : (n : ℕ) → ((m : ℕ) → n ≡ suc m → Goes m) → (p : Pointer) (l : Location) → p.at ≡ Some l → Among p (pointers_in (things_of k)) → top (references g (things_of k)) ≤ ranked.rank l + n → IsStale (sight k) (Some l) → Fresh (sight k) p.object
  from_stale n go p l e m le (changed_above q i h ch) = up n go p l e m le q i h
  from_stale n go p l e m le (stale_above q i h s) = up n go p l e m le q i h
  from_stale n go p l e m le (taken_above h) = let t = tells k c p l m e in taken_there l t.value p t.stands t.pointer h

  one_step : (n : ℕ) → ((m : ℕ) → n ≡ suc m → Goes m) → Goes n
  one_step n go p l e m le =
      ⊎_elim (λ (s : IsStale (sight k) (Some l)). from_stale n go p l e m le s) (λ (f : IsStale (sight k) (Some l) → ⊥). fresh_here p m (subst (λ o. IsStale (sight k) o → ⊥) (sym e) f)) (stale_or_not (Some l))

  less_one : (n m : ℕ) → suc n ≡ suc m → n ≡ m
  less_one n m e = cc

  climb : (n : ℕ) → Goes n
  climb zero = one_step zero (λ m e. absurd cc)
  climb (suc n) = one_step (suc n) (λ m e. subst Goes (less_one n m e) (climb n))

  -- a pointer to an object, whichever
  fresh_of : (p : Pointer) → Among p (pointers_in (things_of k)) → Fresh (sight k) p.object
  fresh_of p m = by p.at refl
    where
      by : (o : Option Location) → p.at ≡ o → Fresh (sight k) p.object
      by None e = fresh_here p m (λ s. subst (λ o. IsStale (sight k) o) e s)
      by (Some l) e = climb (top (references g (things_of k))) p l e m (omega arith)

  pub fresh_owner : (r a : ℕ) (d : Cell) → Among (lies r a d) (things_of k) → Fresh (sight k) d.object
  fresh_owner r a d m =
      let some = cell_counts r a d (things_of k) m in
      let agree = c.owner_of_each d.object in
      let q = owner_in (things_of k) d.object (omega (arith, some, agree)) in
      subst (λ o. Fresh (sight k) o) q.object (fresh_of q.pointer q.among)

pub ranked_are_fresh : RankedAreFresh
ranked_are_fresh k c firsts ranked r a d m = fresh_owner k c firsts ranked r a d m
