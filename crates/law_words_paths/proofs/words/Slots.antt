-- Things of a thread with another value in one of its slots, as lists.
use Rattle.std.proofs.Common.{◌≡◌, ◌⊎◌, inl, inr, ⊎_elim, ℕ, zero, suc, ◌+◌, ◌==◌, Bool, true, false, if◌then◌else◌, List, [], ◌∷◌, ◌++◌, map, Option, Some, None, refl, sym, ap, subst, ◌∙◌, arith}
use Rattle.std.specs.Prelude.{slice_get, slice_set}
use Rattle.std.proofs.lemmas.Bool.Decides.{nat_tests}
use Rattle.law_words_paths.specs.Below.heap_partition.declared.value.Cell.{Cell}
use Rattle.law_words_paths.specs.Below.heap_partition.declared.value.BoxPtr.{BoxPtr}
use Rattle.law_words_paths.specs.Below.heap_partition.declared.value.Owned.{Owned}
use Rattle.law_words_paths.specs.Below.heap_partition.declared.value.Owned.TheVariants as owned
use Rattle.law_words_paths.specs.Below.mut_borrow.declared.mutable.MutRef.{MutRef}
use Rattle.law_words_paths.specs.Below.mut_borrow.declared.shared.SharedRef.{SharedRef}
use Rattle.law_words_paths.specs.Below.thread_state.View.{ThreadState}
use Rattle.law_words_paths.specs.Below.thread_state.declared.value.Value.{Value}
use Rattle.law_words_paths.specs.Below.thread_state.declared.value.Value.TheVariants as value
use Rattle.law_words_paths.specs.Below.coherent_memory.Names.{Among}
use Rattle.law_words_paths.specs.Below.coherent_memory.Things.{Location, at_slot, at_temp, in_slot, in_temp, Thing, lies, stands, uses, things_at, pin_things, value_things, slot_things, temp_things, gift_things, walk_things, thread_things, holds, borrows, flies, Spot}
use Rattle.law_words_paths.specs.Below.coherent_memory.Follow.{Standing, thread_at, cells_in}
use Rattle.law_words_paths.proofs.Below.coherent_memory.Bags.{among_split}
use Rattle.law_words_paths.proofs.paths.Sole.{some_is}
use Rattle.law_words_paths.proofs.paths.Origins.{among_first, among_second}
use Rattle.law_words_paths.specs.words.Reworded.{is_loose, turn_of, Renewed, a_box, a_reference}

-- LISTS

pub set_same : {A : Type 0} (xs : List A) (i : ℕ) (a b : A) → slice_get xs i ≡ Some a → slice_get (slice_set xs i b) i ≡ Some b
set_same [] i a b e = absurd cc
set_same (x ∷ xs) zero a b e = refl
set_same (x ∷ xs) (suc i) a b e = set_same xs i a b e

pub set_other : {A : Type 0} (xs : List A) (i j : ℕ) (b : A) → (j ≡ i → ⊥) → slice_get (slice_set xs i b) j ≡ slice_get xs j
set_other [] i j b n = refl
set_other (x ∷ xs) zero zero b n = absurd (n refl)
set_other (x ∷ xs) zero (suc j) b n = refl
set_other (x ∷ xs) (suc i) zero b n = refl
set_other (x ∷ xs) (suc i) (suc j) b n = set_other xs i j b (λ e. n (ap suc e))

pub cells_joined : (a b : List Thing) → cells_in (a ++ b) ≡ cells_in a ++ cells_in b
cells_joined [] b = refl
cells_joined (lies s a c ∷ xs) b = ap (λ l. c ∷ l) (cells_joined xs b)
cells_joined (flies w c ∷ xs) b = ap (λ l. c ∷ l) (cells_joined xs b)
cells_joined (_ ∷ xs) b = cells_joined xs b

-- a thread in place of another one
pub thread_replaced : (xs bs : List Standing) (x y : Standing) (u : ℕ) → y.thread.number ≡ x.thread.number
    → (thread_at (xs ++ (y ∷ bs)) u ≡ thread_at (xs ++ (x ∷ bs)) u) ⊎ ((x.thread.number ≡ u) × (thread_at (xs ++ (x ∷ bs)) u ≡ Some x) × (thread_at (xs ++ (y ∷ bs)) u ≡ Some y))
thread_replaced [] bs x y u e = by (x.thread.number == u) refl
  where
    by : (b : Bool) → (x.thread.number == u) ≡ b → (thread_at (y ∷ bs) u ≡ thread_at (x ∷ bs) u) ⊎ ((x.thread.number ≡ u) × (thread_at (x ∷ bs) u ≡ Some x) × (thread_at (y ∷ bs) u ≡ Some y))
    by true q =
        let n : x.thread.number ≡ u = grind (arith, nat_tests, q) in
        inr (n, ap (λ b. if b then Some x else thread_at bs u) q, ap (λ m. if m == u then Some y else thread_at bs u) e ∙ ap (λ b. if b then Some y else thread_at bs u) q)
    by false q = inl (ap (λ m. if m == u then Some y else thread_at bs u) e ∙ ap (λ b. if b then Some y else thread_at bs u) q ∙ sym (ap (λ b. if b then Some x else thread_at bs u) q))
thread_replaced (a ∷ xs) bs x y u e = by (a.thread.number == u) (thread_replaced xs bs x y u e)
  where
    by : (b : Bool) → (thread_at (xs ++ (y ∷ bs)) u ≡ thread_at (xs ++ (x ∷ bs)) u) ⊎ ((x.thread.number ≡ u) × (thread_at (xs ++ (x ∷ bs)) u ≡ Some x) × (thread_at (xs ++ (y ∷ bs)) u ≡ Some y))
        → ((if b then Some a else thread_at (xs ++ (y ∷ bs)) u) ≡ (if b then Some a else thread_at (xs ++ (x ∷ bs)) u)) ⊎ ((x.thread.number ≡ u) × ((if b then Some a else thread_at (xs ++ (x ∷ bs)) u) ≡ Some x) × ((if b then Some a else thread_at (xs ++ (y ∷ bs)) u) ≡ Some y))
    by true go = inl refl
    by false go = go

pub turns_replaced : (xs bs : List Standing) (x y : Standing) → turn_of y ≡ turn_of x → map turn_of (xs ++ (y ∷ bs)) ≡ map turn_of (xs ++ (x ∷ bs))
turns_replaced [] bs x y e = ap (λ t. t ∷ map turn_of bs) e
turns_replaced (a ∷ xs) bs x y e = ap (λ l. turn_of a ∷ l) (turns_replaced xs bs x y e)

pub among_replaced : (xs bs : List Standing) (x : Standing) → Among x (xs ++ (x ∷ bs))
among_replaced [] bs x = inl refl
among_replaced (a ∷ xs) bs x = inr (among_replaced xs bs x)

-- WHAT A THREAD HAS

no_cells_joined : (a b : List Thing) → cells_in a ≡ [] → cells_in b ≡ [] → cells_in (a ++ b) ≡ []
no_cells_joined a b e f = cells_joined a b ∙ rw e f

no_cells_all : {A : Type 0} (g : ℕ → A → List Thing) → ((i : ℕ) (x : A) → cells_in (g i x) ≡ []) → (i : ℕ) (xs : List A) → cells_in (things_at g i xs) ≡ []
no_cells_all g p i [] = refl
no_cells_all g p i (x ∷ xs) = no_cells_joined (g i x) (things_at g (i + 1) xs) (p i x) (no_cells_all g p (i + 1) xs)

pin_cells : (s : ℕ) (r : SharedRef) → cells_in (pin_things s r) ≡ []
pin_cells s r = by r.pinned
  where
    by : (q : Bool) → cells_in (if q then uses s r.word ∷ [] else []) ≡ []
    by true = refl
    by false = refl

value_cells : (s : ℕ) (p : Spot) (l : Location) (v : Value) → cells_in (value_things s p l v) ≡ []
value_cells s p l (value.Shared r) = pin_cells s r
value_cells s p l value.Gone = refl
value_cells s p l (value.Own u) = refl
value_cells s p l (value.SharedSlot i) = refl
value_cells s p l (value.MutSlot i) = refl
value_cells s p l (value.Mut r) = refl
value_cells s p l (value.Held m) = refl

gift_cells : (t : ℕ) (v : Option Owned) → cells_in (gift_things t v) ≡ []
gift_cells t None = refl
gift_cells t (Some v) = refl

pub thread_cells : (s : ℕ) (t : ThreadState) → cells_in (thread_things s false t) ≡ []
thread_cells s t =
    no_cells_joined (gift_things t.number t.gift ++ things_at (walk_things s) 0 t.walk ++ things_at (slot_things s t.number) 0 t.slots) (things_at (temp_things s t.number) 0 t.temps)
    (no_cells_joined (gift_things t.number t.gift ++ things_at (walk_things s) 0 t.walk) (things_at (slot_things s t.number) 0 t.slots)
    (no_cells_joined (gift_things t.number t.gift) (things_at (walk_things s) 0 t.walk) (gift_cells t.number t.gift) (no_cells_all (walk_things s) (λ i x. refl) 0 t.walk))
    (no_cells_all (slot_things s t.number) (λ i x. value_cells s (in_slot t.number i) (at_slot t.number i) x) 0 t.slots))
    (no_cells_all (temp_things s t.number) (λ i x. value_cells s (in_temp t.number i) (at_temp t.number i) x) 0 t.temps)

pub lying_in : (r a : ℕ) (c : Cell) (b : List Thing) → Among (lies r a c) b → Among c (cells_in b)
lying_in r a c [] h = absurd h
lying_in r a c (lies s d e ∷ b) (inl f) = inl cc
lying_in r a c (lies s d e ∷ b) (inr h) = inr (lying_in r a c b h)
lying_in r a c (flies w e ∷ b) (inl f) = absurd cc
lying_in r a c (flies w e ∷ b) (inr h) = inr (lying_in r a c b h)
lying_in r a c (_ ∷ b) (inl f) = absurd cc
lying_in r a c (_ ∷ b) (inr h) = lying_in r a c b h

-- nothing of it is loose
abbrev pub Fixed : ℕ → ℕ → ℕ → Value → Type 0
Fixed s t i v = (y : Thing) → Among y (slot_things s t i v) → is_loose y ≡ true → ⊥

fixed_thing : (x y : Thing) → is_loose x ≡ false → x ≡ y → is_loose y ≡ true → ⊥
fixed_thing x y f e g = let z : true ≡ false = sym g ∙ sym (ap is_loose e) ∙ f in absurd cc

fixed_box : (s t i : ℕ) (b : BoxPtr) → Fixed s t i (value.Own (owned.Box b))
fixed_box s t i b y (inl q) f = fixed_thing (holds (in_slot t i) (owned.Box b)) y refl q f
fixed_box s t i b y (inr q) f = q

fixed_reference : (s t i : ℕ) (r : MutRef) → Fixed s t i (value.Mut r)
fixed_reference s t i r y (inl q) f = fixed_thing (borrows (at_slot t i) r) y refl q f
fixed_reference s t i r y (inr q) f = q

-- so it is of what gets a word
pub fixed_old : (s t i w : ℕ) (old new : Value) → Renewed w old new → Fixed s t i old
fixed_old s t i w old new (a_box p e f) = subst (Fixed s t i) (sym e) (fixed_box s t i p)
fixed_old s t i w old new (a_reference r q e f a b c d) = subst (Fixed s t i) (sym e) (fixed_reference s t i r)

pub fixed_new : (s t i w : ℕ) (old new : Value) → Renewed w old new → Fixed s t i new
fixed_new s t i w old new (a_box p e f) = subst (Fixed s t i) (sym f) (fixed_box s t i (record p { word = w }))
fixed_new s t i w old new (a_reference r q e f a b c d) = subst (Fixed s t i) (sym f) (fixed_reference s t i q)

-- loose things of slots of which one is put
slots_after : (s t j i : ℕ) (vs : List Value) (new : Value) (y : Thing) → ((n : ℕ) → Fixed s t n new) → is_loose y ≡ true → Among y (things_at (slot_things s t) j (slice_set vs i new)) → Among y (things_at (slot_things s t) j vs)
slots_after s t j i [] new y f e h = h
slots_after s t j zero (v ∷ vs) new y f e h =
    ⊎_elim (λ (l : Among y (slot_things s t j new)). absurd (f j y l e)) (λ (r : Among y (things_at (slot_things s t) (j + 1) vs)). among_second y (slot_things s t j v) (things_at (slot_things s t) (j + 1) vs) r)
    (among_split y (slot_things s t j new) (things_at (slot_things s t) (j + 1) vs) h)
slots_after s t j (suc i) (v ∷ vs) new y f e h =
    ⊎_elim (λ (l : Among y (slot_things s t j v)). among_first y (slot_things s t j v) (things_at (slot_things s t) (j + 1) vs) l)
    (λ (r : Among y (things_at (slot_things s t) (j + 1) (slice_set vs i new))). among_second y (slot_things s t j v) (things_at (slot_things s t) (j + 1) vs) (slots_after s t (j + 1) i vs new y f e r))
    (among_split y (slot_things s t j v) (things_at (slot_things s t) (j + 1) (slice_set vs i new)) h)

slots_before : (s t j i : ℕ) (vs : List Value) (old new : Value) (y : Thing) → slice_get vs i ≡ Some old → ((n : ℕ) → Fixed s t n old) → is_loose y ≡ true → Among y (things_at (slot_things s t) j vs) → Among y (things_at (slot_things s t) j (slice_set vs i new))
slots_before s t j i [] old new y g f e h = h
slots_before s t j zero (v ∷ vs) old new y g f e h =
    ⊎_elim (λ (l : Among y (slot_things s t j v)). absurd (f j y (subst (λ u. Among y (slot_things s t j u)) (some_is g) l) e))
    (λ (r : Among y (things_at (slot_things s t) (j + 1) vs)). among_second y (slot_things s t j new) (things_at (slot_things s t) (j + 1) vs) r) (among_split y (slot_things s t j v) (things_at (slot_things s t) (j + 1) vs) h)
slots_before s t j (suc i) (v ∷ vs) old new y g f e h =
    ⊎_elim (λ (l : Among y (slot_things s t j v)). among_first y (slot_things s t j v) (things_at (slot_things s t) (j + 1) (slice_set vs i new)) l)
    (λ (r : Among y (things_at (slot_things s t) (j + 1) vs)). among_second y (slot_things s t j v) (things_at (slot_things s t) (j + 1) (slice_set vs i new)) (slots_before s t (j + 1) i vs old new y g f e r))
    (among_split y (slot_things s t j v) (things_at (slot_things s t) (j + 1) vs) h)

-- loose things of a thread with other slots
loose_thread : (s : ℕ) (t : ThreadState) (us vs : List Value) (y : Thing) → is_loose y ≡ true → (Among y (things_at (slot_things s t.number) 0 us) → Among y (things_at (slot_things s t.number) 0 vs))
    → Among y (thread_things s false (record t { slots = us })) → Among y (thread_things s false (record t { slots = vs }))
loose_thread s t us vs y e go (inl q) = absurd (fixed_thing (stands s false (record t { slots = us })) y refl q e)
loose_thread s t us vs y e go (inr h) =
    let a = gift_things t.number t.gift ++ things_at (walk_things s) 0 t.walk in
    let old = things_at (slot_things s t.number) 0 us in
    let new = things_at (slot_things s t.number) 0 vs in
    let d = things_at (temp_things s t.number) 0 t.temps in
    inr
    (⊎_elim
    (λ (l : Among y (a ++ old)). among_first y (a ++ new) d (⊎_elim (λ (x : Among y a). among_first y a new x) (λ (x : Among y old). among_second y a new (go x)) (among_split y a old l)))
    (λ (r : Among y d). among_second y (a ++ new) d r) (among_split y (a ++ old) d h))

pub loose_after : (s i : ℕ) (t : ThreadState) (new : Value) (y : Thing) → ((n : ℕ) → Fixed s t.number n new) → is_loose y ≡ true → Among y (thread_things s false (record t { slots = slice_set t.slots i new })) → Among y (thread_things s false t)
loose_after s i t new y f e h = loose_thread s t (slice_set t.slots i new) t.slots y e (slots_after s t.number 0 i t.slots new y f e) h

pub loose_before : (s i : ℕ) (t : ThreadState) (old new : Value) (y : Thing) → slice_get t.slots i ≡ Some old → ((n : ℕ) → Fixed s t.number n old) → is_loose y ≡ true → Among y (thread_things s false t) → Among y (thread_things s false (record t { slots = slice_set t.slots i new }))
loose_before s i t old new y g f e h = loose_thread s t t.slots (slice_set t.slots i new) y e (slots_before s t.number 0 i t.slots old new y g f e) h
