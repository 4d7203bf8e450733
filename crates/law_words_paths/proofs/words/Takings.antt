-- What words see of a value, and who has taken an object for a mutable borrow.
use Rattle.std.proofs.Common.{◌≡◌, inl, inr, ⊎_elim, ℕ, Bool, true, false, ◌||◌, List, [], ◌∷◌, ◌++◌, Option, Some, None, refl, sym, ap, subst, ◌∙◌}
use Rattle.std.specs.Prelude.{slice_get}
use Rattle.law_words_paths.specs.Below.fr_base.declared.instruction.Instr.{Instr}
use Rattle.law_words_paths.specs.Below.fr_base.declared.instruction.Instr.TheVariants as instr
use Rattle.law_words_paths.specs.Below.heap_partition.declared.value.BoxPtr.{BoxPtr}
use Rattle.law_words_paths.specs.Below.heap_partition.declared.value.Owned.TheVariants as owned
use Rattle.law_words_paths.specs.Below.mut_borrow.declared.mutable.MutRef.{MutRef}
use Rattle.law_words_paths.specs.Below.thread_state.View.{ThreadState}
use Rattle.law_words_paths.specs.Below.thread_state.declared.phase.Phase.{Phase}
use Rattle.law_words_paths.specs.Below.thread_state.declared.phase.Phase.TheVariants as phase
use Rattle.law_words_paths.specs.Below.thread_state.declared.value.Value.{Value}
use Rattle.law_words_paths.specs.Below.thread_state.declared.value.Value.TheVariants as value
use Rattle.law_words_paths.specs.Below.coherent_memory.Names.{Among}
use Rattle.law_words_paths.specs.Below.coherent_memory.Things.{Location, at_slot, at_temp, in_cell}
use Rattle.law_words_paths.specs.Below.coherent_memory.Follow.{Ground, Standing, leads, place_at}
use Rattle.law_words_paths.specs.Below.coherent_memory.Stale.{same_location, is_among, one_star_less, lent_place, lent_places, with_place}
use Rattle.law_words_paths.specs.Below.coherent_memory.Sight.{Pointer, taken_object, taken_of, taken_pointers}
use Rattle.law_words_paths.specs.Below.coherent_memory.Placing.{is_first}
use Rattle.law_words_paths.proofs.Below.coherent_memory.Bags.{among_split}
use Rattle.law_words_paths.proofs.paths.Origins.{among_first, among_second}
use Rattle.law_words_paths.specs.words.Unmoved.{pointing, owning, seen_at, Taking, taking_by, with_taking, taking_of, takings}
use Rattle.law_words_paths.proofs.words.Standing.{pointer_at}

-- WHAT IS SEEN OF A VALUE

pub leads_pointing : (t : ℕ) (v : Option Value) → leads t (pointing v) ≡ leads t v
leads_pointing t None = refl
leads_pointing t (Some value.Gone) = refl
leads_pointing t (Some (value.Own (owned.Box p))) = refl
leads_pointing t (Some (value.Own owned.Nothing)) = refl
leads_pointing t (Some (value.Own owned.Unit)) = refl
leads_pointing t (Some (value.Own (owned.Int n))) = refl
leads_pointing t (Some (value.Own (owned.Mutex m))) = refl
leads_pointing t (Some (value.Own (owned.Task u))) = refl
leads_pointing t (Some (value.SharedSlot i)) = refl
leads_pointing t (Some (value.MutSlot i)) = refl
leads_pointing t (Some (value.Shared r)) = refl
leads_pointing t (Some (value.Mut r)) = refl
leads_pointing t (Some (value.Held m)) = refl

pub first_pointing : (r : MutRef) (v : Option Value) → is_first r (pointing v) ≡ is_first r v
first_pointing r None = refl
first_pointing r (Some value.Gone) = refl
first_pointing r (Some (value.Own (owned.Box p))) = refl
first_pointing r (Some (value.Own owned.Nothing)) = refl
first_pointing r (Some (value.Own owned.Unit)) = refl
first_pointing r (Some (value.Own (owned.Int n))) = refl
first_pointing r (Some (value.Own (owned.Mutex m))) = refl
first_pointing r (Some (value.Own (owned.Task u))) = refl
first_pointing r (Some (value.SharedSlot i)) = refl
first_pointing r (Some (value.MutSlot i)) = refl
first_pointing r (Some (value.Shared q)) = refl
first_pointing r (Some (value.Mut q)) = refl
first_pointing r (Some (value.Held m)) = refl

-- a box and a mutable reference are seen whole
seen_box : (v : Option Value) (p : BoxPtr) → pointing v ≡ Some (value.Own (owned.Box p)) → v ≡ Some (value.Own (owned.Box p))
seen_box None p e = absurd cc
seen_box (Some value.Gone) p e = absurd cc
seen_box (Some (value.Own (owned.Box q))) p e = e
seen_box (Some (value.Own owned.Nothing)) p e = absurd cc
seen_box (Some (value.Own owned.Unit)) p e = absurd cc
seen_box (Some (value.Own (owned.Int n))) p e = absurd cc
seen_box (Some (value.Own (owned.Mutex m))) p e = absurd cc
seen_box (Some (value.Own (owned.Task u))) p e = absurd cc
seen_box (Some (value.SharedSlot i)) p e = absurd cc
seen_box (Some (value.MutSlot i)) p e = absurd cc
seen_box (Some (value.Shared r)) p e = absurd cc
seen_box (Some (value.Mut r)) p e = absurd cc
seen_box (Some (value.Held m)) p e = absurd cc

pub seen_reference : (v : Option Value) (q : MutRef) → pointing v ≡ Some (value.Mut q) → v ≡ Some (value.Mut q)
seen_reference None q e = absurd cc
seen_reference (Some value.Gone) q e = absurd cc
seen_reference (Some (value.Own (owned.Box p))) q e = absurd cc
seen_reference (Some (value.Own owned.Nothing)) q e = absurd cc
seen_reference (Some (value.Own owned.Unit)) q e = absurd cc
seen_reference (Some (value.Own (owned.Int n))) q e = absurd cc
seen_reference (Some (value.Own (owned.Mutex m))) q e = absurd cc
seen_reference (Some (value.Own (owned.Task u))) q e = absurd cc
seen_reference (Some (value.SharedSlot i)) q e = absurd cc
seen_reference (Some (value.MutSlot i)) q e = absurd cc
seen_reference (Some (value.Shared r)) q e = absurd cc
seen_reference (Some (value.Mut r)) q e = e
seen_reference (Some (value.Held m)) q e = absurd cc

-- so what has a pointer at its location is
pub seen_pointer : (o : Option Value) (v : Value) (l : Location) (p : Pointer) → pointing o ≡ pointing (Some v) → Among p (pointer_at l v) → o ≡ Some v
seen_pointer o (value.Own (owned.Box b)) l p e h = seen_box o b e
seen_pointer o (value.Own owned.Nothing) l p e h = absurd h
seen_pointer o (value.Own owned.Unit) l p e h = absurd h
seen_pointer o (value.Own (owned.Int n)) l p e h = absurd h
seen_pointer o (value.Own (owned.Mutex m)) l p e h = absurd h
seen_pointer o (value.Own (owned.Task u)) l p e h = absurd h
seen_pointer o (value.Mut r) l p e h = seen_reference o r e
seen_pointer o value.Gone l p e h = absurd h
seen_pointer o (value.SharedSlot i) l p e h = absurd h
seen_pointer o (value.MutSlot i) l p e h = absurd h
seen_pointer o (value.Shared r) l p e h = absurd h
seen_pointer o (value.Held m) l p e h = absurd h

-- WHAT THREADS HAVE TAKEN

-- the pointer that was taken from, and that to the object
abbrev pub lent_by : Ground → Taking → Option Location
lent_by g t = one_star_less g t.thread t.place.slot t.place.depth

abbrev pub taken_by : Ground → Taking → List Pointer
taken_by g t = taken_object t.word (place_at g t.thread t.place)

abbrev lent_if : Ground → Option Taking → Option Location
lent_if g None = None
lent_if g (Some t) = lent_by g t

abbrev taken_if : Ground → Option Taking → List Pointer
taken_if g None = []
taken_if g (Some t) = taken_by g t

lent_is : (g : Ground) (t : ℕ) (p : Phase) (i : Option Instr) → lent_place g t p i ≡ lent_if g (taking_by t p i)
lent_is g t (phase.Taken w) (Some (instr.BorrowMut p)) = refl
lent_is g t (phase.Taken w) (Some _) = refl
lent_is g t (phase.Taken w) None = refl
lent_is g t _ i = refl

taken_is : (g : Ground) (x : ThreadState) (p : Phase) (i : Option Instr) → taken_of g x p i ≡ taken_if g (taking_by x.number p i)
taken_is g x (phase.Taken w) (Some (instr.BorrowMut p)) = refl
taken_is g x (phase.Taken w) (Some _) = refl
taken_is g x (phase.Taken w) None = refl
taken_is g x _ i = refl

-- of all of them
abbrev pub lent_all : Ground → List Taking → List Location
lent_all g [] = []
lent_all g (t ∷ ts) = with_place (lent_by g t) (lent_all g ts)

abbrev pub taken_all : Ground → List Taking → List Pointer
taken_all g [] = []
taken_all g (t ∷ ts) = taken_by g t ++ taken_all g ts

pub lents_are : (code : List Instr) (g : Ground) (xs : List Standing) → lent_places code g xs ≡ lent_all g (takings code xs)
lents_are code g [] = refl
lents_are code g (x ∷ xs) =
    ap (λ m. with_place m (lent_places code g xs)) (lent_is g x.thread.number x.thread.phase (slice_get code x.thread.pc))
    ∙ ap (with_place (lent_if g (taking_of code x))) (lents_are code g xs) ∙ by (taking_of code x)
  where
    by : (o : Option Taking) → with_place (lent_if g o) (lent_all g (takings code xs)) ≡ lent_all g (with_taking o (takings code xs))
    by None = refl
    by (Some t) = refl

pub takens_are : (code : List Instr) (g : Ground) (xs : List Standing) → taken_pointers code g xs ≡ taken_all g (takings code xs)
takens_are code g [] = refl
takens_are code g (x ∷ xs) =
    ap (λ m. m ++ taken_pointers code g xs) (taken_is g x.thread x.thread.phase (slice_get code x.thread.pc))
    ∙ ap (λ m. taken_if g (taking_of code x) ++ m) (takens_are code g xs) ∙ by (taking_of code x)
  where
    by : (o : Option Taking) → taken_if g o ++ taken_all g (takings code xs) ≡ taken_all g (with_taking o (takings code xs))
    by None = refl
    by (Some t) = refl

-- ONE OF THEM

first_place : (m : Option Location) (l : Location) (ls : List Location) → is_among l (with_place m []) ≡ true → is_among l (with_place m ls) ≡ true
first_place None l ls e = absurd cc
first_place (Some n) l ls e = by (same_location n l) e
  where
    by : (b : Bool) → (b || false) ≡ true → (b || is_among l ls) ≡ true
    by true f = refl
    by false f = absurd cc

later_place : (m : Option Location) (l : Location) (ls : List Location) → is_among l ls ≡ true → is_among l (with_place m ls) ≡ true
later_place None l ls e = e
later_place (Some n) l ls e = by (same_location n l)
  where
    by : (b : Bool) → (b || is_among l ls) ≡ true
    by true = refl
    by false = e

pub lent_listed : (g : Ground) (l : Location) (t : Taking) (ts : List Taking) → Among t ts → is_among l (with_place (lent_by g t) []) ≡ true → is_among l (lent_all g ts) ≡ true
lent_listed g l t [] h e = absurd h
lent_listed g l t (u ∷ ts) (inl q) e = first_place (lent_by g u) l (lent_all g ts) (subst (λ y. is_among l (with_place (lent_by g y) []) ≡ true) (sym q) e)
lent_listed g l t (u ∷ ts) (inr h) e = later_place (lent_by g u) l (lent_all g ts) (lent_listed g l t ts h e)

pub record LentBy (g : Ground) (l : Location) (ts : List Taking) : Type 0 where
  pub taking : Taking
  pub among : Among taking ts
  pub at : is_among l (with_place (lent_by g taking) []) ≡ true

pub lent_told : (g : Ground) (l : Location) (ts : List Taking) → is_among l (lent_all g ts) ≡ true → LentBy g l ts
lent_told g l [] e = absurd cc
lent_told g l (t ∷ ts) e = by (lent_by g t) refl e (λ f. lent_told g l ts f)
  where
    later : LentBy g l ts → LentBy g l (t ∷ ts)
    later y = record { taking = y.taking; among = inr y.among; at = y.at }

    tested : (n : Location) → lent_by g t ≡ Some n → (b : Bool) → same_location n l ≡ b → (b || is_among l (lent_all g ts)) ≡ true → (is_among l (lent_all g ts) ≡ true → LentBy g l ts) → LentBy g l (t ∷ ts)
    tested n q true s f go = record { taking = t; among = inl refl; at = ap (λ m. is_among l (with_place m [])) q ∙ ap (λ c. c || false) s }
    tested n q false s f go = later (go f)

    by : (m : Option Location) → lent_by g t ≡ m → is_among l (with_place m (lent_all g ts)) ≡ true → (is_among l (lent_all g ts) ≡ true → LentBy g l ts) → LentBy g l (t ∷ ts)
    by None q f go = later (go f)
    by (Some n) q f go = tested n q (same_location n l) refl f go

pub taken_listed : (g : Ground) (p : Pointer) (t : Taking) (ts : List Taking) → Among t ts → Among p (taken_by g t) → Among p (taken_all g ts)
taken_listed g p t [] h e = absurd h
taken_listed g p t (u ∷ ts) (inl q) e = among_first p (taken_by g u) (taken_all g ts) (subst (λ y. Among p (taken_by g y)) (sym q) e)
taken_listed g p t (u ∷ ts) (inr h) e = among_second p (taken_by g u) (taken_all g ts) (taken_listed g p t ts h e)

pub record TakenBy (g : Ground) (p : Pointer) (ts : List Taking) : Type 0 where
  pub taking : Taking
  pub among : Among taking ts
  pub pointer : Among p (taken_by g taking)

pub taken_told : (g : Ground) (p : Pointer) (ts : List Taking) → Among p (taken_all g ts) → TakenBy g p ts
taken_told g p [] h = absurd h
taken_told g p (t ∷ ts) h =
    ⊎_elim (λ (l : Among p (taken_by g t)). record { taking = t; among = inl refl; pointer = l })
    (λ (r : Among p (taken_all g ts)). let y = taken_told g p ts r in record { taking = y.taking; among = inr y.among; pointer = y.pointer })
    (among_split p (taken_by g t) (taken_all g ts) h)

-- WHAT IS SEEN OF TEMPORARY VALUES

pub owning_pointing : (v : Option Value) → owning (pointing v) ≡ owning v
owning_pointing None = refl
owning_pointing (Some value.Gone) = refl
owning_pointing (Some (value.Own owned.Nothing)) = refl
owning_pointing (Some (value.Own owned.Unit)) = refl
owning_pointing (Some (value.Own (owned.Int n))) = refl
owning_pointing (Some (value.Own (owned.Mutex n))) = refl
owning_pointing (Some (value.Own (owned.Task n))) = refl
owning_pointing (Some (value.SharedSlot n)) = refl
owning_pointing (Some (value.MutSlot n)) = refl
owning_pointing (Some (value.Shared n)) = refl
owning_pointing (Some (value.Held n)) = refl
owning_pointing (Some (value.Own (owned.Box p))) = refl
owning_pointing (Some (value.Mut p)) = refl

owning_first : (r : MutRef) (v : Option Value) → is_first r (owning v) ≡ is_first r v
owning_first r None = refl
owning_first r (Some value.Gone) = refl
owning_first r (Some (value.Own owned.Nothing)) = refl
owning_first r (Some (value.Own owned.Unit)) = refl
owning_first r (Some (value.Own (owned.Int n))) = refl
owning_first r (Some (value.Own (owned.Mutex n))) = refl
owning_first r (Some (value.Own (owned.Task n))) = refl
owning_first r (Some (value.SharedSlot n)) = refl
owning_first r (Some (value.MutSlot n)) = refl
owning_first r (Some (value.Shared n)) = refl
owning_first r (Some (value.Held n)) = refl
owning_first r (Some (value.Own (owned.Box p))) = refl
owning_first r (Some (value.Mut p)) = refl

owning_reference : (v : Option Value) (q : MutRef) → owning v ≡ Some (value.Mut q) → v ≡ Some (value.Mut q)
owning_reference None q e = absurd cc
owning_reference (Some value.Gone) q e = absurd cc
owning_reference (Some (value.Own owned.Nothing)) q e = absurd cc
owning_reference (Some (value.Own owned.Unit)) q e = absurd cc
owning_reference (Some (value.Own (owned.Int n))) q e = absurd cc
owning_reference (Some (value.Own (owned.Mutex n))) q e = absurd cc
owning_reference (Some (value.Own (owned.Task n))) q e = absurd cc
owning_reference (Some (value.SharedSlot n)) q e = absurd cc
owning_reference (Some (value.MutSlot n)) q e = absurd cc
owning_reference (Some (value.Shared n)) q e = absurd cc
owning_reference (Some (value.Held n)) q e = absurd cc
owning_reference (Some (value.Own (owned.Box p))) q e = absurd cc
owning_reference (Some (value.Mut p)) q e = e

owning_box : (v : Option Value) (q : BoxPtr) → owning v ≡ Some (value.Own (owned.Box q)) → v ≡ Some (value.Own (owned.Box q))
owning_box None q e = absurd cc
owning_box (Some value.Gone) q e = absurd cc
owning_box (Some (value.Own owned.Nothing)) q e = absurd cc
owning_box (Some (value.Own owned.Unit)) q e = absurd cc
owning_box (Some (value.Own (owned.Int n))) q e = absurd cc
owning_box (Some (value.Own (owned.Mutex n))) q e = absurd cc
owning_box (Some (value.Own (owned.Task n))) q e = absurd cc
owning_box (Some (value.SharedSlot n)) q e = absurd cc
owning_box (Some (value.MutSlot n)) q e = absurd cc
owning_box (Some (value.Shared n)) q e = absurd cc
owning_box (Some (value.Held n)) q e = absurd cc
owning_box (Some (value.Mut p)) q e = absurd cc
owning_box (Some (value.Own (owned.Box p))) q e = e

owning_pointer : (o : Option Value) (v : Value) (l : Location) (p : Pointer) → owning o ≡ owning (Some v) → Among p (pointer_at l v) → o ≡ Some v
owning_pointer o (value.Own (owned.Box b)) l p e h = owning_box o b e
owning_pointer o (value.Mut r) l p e h = owning_reference o r e
owning_pointer o value.Gone l p e h = absurd h
owning_pointer o (value.Own owned.Nothing) l p e h = absurd h
owning_pointer o (value.Own owned.Unit) l p e h = absurd h
owning_pointer o (value.Own (owned.Int n)) l p e h = absurd h
owning_pointer o (value.Own (owned.Mutex n)) l p e h = absurd h
owning_pointer o (value.Own (owned.Task n)) l p e h = absurd h
owning_pointer o (value.SharedSlot n) l p e h = absurd h
owning_pointer o (value.MutSlot n) l p e h = absurd h
owning_pointer o (value.Shared n) l p e h = absurd h
owning_pointer o (value.Held n) l p e h = absurd h

-- at its location
pub reference_at : (l : Location) (v : Option Value) (q : MutRef) → seen_at l v ≡ seen_at l (Some (value.Mut q)) → v ≡ Some (value.Mut q)
reference_at (at_slot t i) v q e = seen_reference v q e
reference_at (at_temp t i) v q e = owning_reference v q e
reference_at (in_cell o) v q e = seen_reference v q e

pub seen_pointer_at : (l : Location) (o : Option Value) (v : Value) (p : Pointer) → seen_at l o ≡ seen_at l (Some v) → Among p (pointer_at l v) → o ≡ Some v
seen_pointer_at (at_slot t i) o v p e h = seen_pointer o v (at_slot t i) p e h
seen_pointer_at (at_temp t i) o v p e h = owning_pointer o v (at_temp t i) p e h
seen_pointer_at (in_cell m) o v p e h = seen_pointer o v (in_cell m) p e h

pub first_at : (r : MutRef) (l : Location) (v : Option Value) → is_first r (seen_at l v) ≡ is_first r v
first_at r (at_slot t i) v = first_pointing r v
first_at r (at_temp t i) v = owning_first r v
first_at r (in_cell o) v = first_pointing r v

-- what is the same in full is seen the same
pub seen_same : (l : Location) (v u : Option Value) → pointing v ≡ pointing u → seen_at l v ≡ seen_at l u
seen_same (at_slot t i) v u e = e
seen_same (at_temp t i) v u e = sym (owning_pointing v) ∙ ap owning e ∙ owning_pointing u
seen_same (in_cell o) v u e = e
