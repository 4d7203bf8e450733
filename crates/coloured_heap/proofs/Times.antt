-- How often something stands in a list.
use Rattle.std.proofs.Common.{arith, ◌≡◌, ◌≢◌, ◌⊎◌, inl, inr, ◌+◌, ◌≤◌, ◌==◌, ◌&&◌, not, ℕ, Bool, true, false, List, [], ◌∷◌, Some, refl, sym, ap, ◌∙◌}
use Rattle.std.specs.Prelude.{if◌then◌else◌, is_some}
use Rattle.std.proofs.lemmas.Bool.Decides.{eqb_tells}
use Rattle.fr_base.specs.Lists.{one}
use Rattle.fr_base.specs.Names.{same_object, same_mutex}
use Rattle.fr_base.specs.declared.name.MutexNo.{MutexNo}
use Rattle.fr_base.specs.declared.name.ObjNo.{ObjNo}
use Rattle.coloured_heap.specs.Lists.{first, less_all, with_each, times}

-- TESTS

pub both : (a b : Bool) → a && b ≡ true → (a ≡ true) × (b ≡ true)
both true b h = (refl, h)
both false b h = absurd cc

pub is_not : (b : Bool) → not b ≡ true → b ≡ false
is_not false h = refl
is_not true h = absurd cc

-- numbers, objects and mutexes that the test takes for the same are the same
pub number_is : (a b : ℕ) → a == b ≡ true → a ≡ b
number_is a b h = by (eqb_tells a b)
  where
    by : ((a == b ≡ true) × (a ≡ b)) ⊎ ((a == b ≡ false) × (a ≢ b)) → a ≡ b
    by (inl e) = e.1
    by (inr e) = let never : true ≡ false = sym h ∙ e.0 in absurd cc

abbrev object_of : ℕ → ℕ → ObjNo
object_of t n = record { thread = t; count = n }

pub object_is : (p q : ObjNo) → same_object p q ≡ true → p ≡ q
object_is p q h = let b = both (p.thread == q.thread) (p.count == q.count) h in
    ap (λ t. object_of t p.count) (number_is p.thread q.thread b.0) ∙ ap (object_of q.thread) (number_is p.count q.count b.1)

abbrev mutex_of : ℕ → ℕ → MutexNo
mutex_of h n = record { home = h; count = n }

pub mutex_is : (m n : MutexNo) → same_mutex m n ≡ true → m ≡ n
mutex_is m n h = let b = both (m.home == n.home) (m.count == n.count) h in
    ap (λ t. mutex_of t m.count) (number_is m.home n.home b.0) ∙ ap (mutex_of n.home) (number_is m.count n.count b.1)

-- LISTS

-- what isn't found is there no time
pub none_there : {A : Type 0} (test : A → Bool) (xs : List A) → is_some (first test xs) ≡ false → times test xs ≡ 0
none_there test [] h = refl
none_there test (x ∷ xs) h = by (none_there test xs) (test x) h
  where
    by : (is_some (first test xs) ≡ false → times test xs ≡ 0) → (b : Bool) → is_some (if b then Some x else first test xs) ≡ false → one b + times test xs ≡ 0
    by f true q = absurd cc
    by f false q = omega (arith, f q)

-- a list without some items has no more of any
pub fewer : {A : Type 0} (test gone : A → Bool) (xs : List A) → times test (less_all gone xs) ≤ times test xs
fewer test gone [] = omega arith
fewer test gone (x ∷ xs) = by (gone x) (fewer test gone xs)
  where
    by : (b : Bool) → times test (less_all gone xs) ≤ times test xs → times test (if b then less_all gone xs else x ∷ less_all gone xs) ≤ one (test x) + times test xs
    by true f = omega (arith, f)
    by false f = omega (arith, f)

-- and of those it has none
pub none_left : {A : Type 0} (test : A → Bool) (xs : List A) → times test (less_all test xs) ≡ 0
none_left test [] = refl
none_left test (x ∷ xs) = by (test x) refl (none_left test xs)
  where
    by : (b : Bool) → test x ≡ b → times test (less_all test xs) ≡ 0 → times test (if b then less_all test xs else x ∷ less_all test xs) ≡ 0
    by true is f = f
    by false is f = let zero_here : one (test x) ≡ 0 = ap one is in omega (arith, f, zero_here)

-- a change that the test doesn't see
pub as_often : {A : Type 0} (test at : A → Bool) (f : A → A) (xs : List A) → ((x : A) → test (f x) ≡ test x) → times test (with_each at f xs) ≡ times test xs
as_often test at f [] same = refl
as_often test at f (x ∷ xs) same = by (at x) (as_often test at f xs same)
  where
    by : (b : Bool) → times test (with_each at f xs) ≡ times test xs → one (test (if b then f x else x)) + times test (with_each at f xs) ≡ one (test x) + times test xs
    by true q = let here : one (test (f x)) ≡ one (test x) = ap one (same x) in omega (arith, q, here)
    by false q = omega (arith, q)

-- one item in front, of which there was none
pub in_front : {A : Type 0} (test own : A → Bool) (x : A) (xs : List A) → (test x ≡ true → times test xs ≡ times own xs) → times own xs ≡ 0 → times test xs ≤ 1 → times test (x ∷ xs) ≤ 1
in_front test own x xs same none few = by (test x) refl
  where
    by : (b : Bool) → test x ≡ b → one (test x) + times test xs ≤ 1
    by true is = let one_here : one (test x) ≡ 1 = ap one is in omega (arith, one_here, same is, none)
    by false is = let zero_here : one (test x) ≡ 0 = ap one is in omega (arith, zero_here, few)
