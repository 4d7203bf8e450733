-- What is found in a list that changes.
use Rattle.std.proofs.Common.{arith, ◌≡◌, ◌⊎◌, inl, inr, ◌+◌, ◌-◌, ◌++◌, ℕ, Bool, true, false, List, [], ◌∷◌, Some, None, refl, ap, sym, subst, ◌∙◌, drop}
use Rattle.std.specs.Prelude.{if◌then◌else◌, option_map, filter, cond, nat_lt, slice_get}
use Rattle.std.proofs.lemmas.Bool.{lt-ltb}
use Rattle.fr_base.specs.Lists.{one}
use Rattle.coloured_heap.specs.Lists.{first, holds, has, less_first, less_all, with_each, times}

-- changed items: what is found is the changed one, where the test doesn't see the change
pub found_each : {A : Type 0} (test at : A → Bool) (f : A → A) (xs : List A) → ((x : A) → test (f x) ≡ test x) → first test (with_each at f xs) ≡ option_map (λ x. if at x then f x else x) (first test xs)
found_each test at f [] same = refl
found_each {A = A} test at f (x ∷ xs) same = by (at x) refl (found_each test at f xs same)
  where
    found : (y : A) (b : Bool) → test y ≡ b → (if at x then f x else x) ≡ y → first test (with_each at f xs) ≡ option_map (λ z. if at z then f z else z) (first test xs)
        → (if b then Some y else first test (with_each at f xs)) ≡ option_map (λ z. if at z then f z else z) (if b then Some x else first test xs)
    found y true is here f1 = ap (λ z. Some z) (sym here)
    found y false is here f1 = f1

    by : (b : Bool) → at x ≡ b → first test (with_each at f xs) ≡ option_map (λ z. if at z then f z else z) (first test xs)
        → (if test (if b then f x else x) then Some (if b then f x else x) else first test (with_each at f xs)) ≡ option_map (λ z. if at z then f z else z) (if test x then Some x else first test xs)
    by true is g = subst (λ c. (if c then Some (f x) else first test (with_each at f xs)) ≡ option_map (λ z. if at z then f z else z) (if test x then Some x else first test xs)) (sym (same x))
        (found (f x) (test x) (same x) (ap (λ c. if c then f x else x) is) g)
    by false is g = found x (test x) refl (ap (λ c. if c then f x else x) is) g

-- items that go: all that the test passes, or none of them
pub found_less : {A : Type 0} (test gone : A → Bool) (b : Bool) (xs : List A) → ((x : A) → test x ≡ true → gone x ≡ b) → first test (less_all gone xs) ≡ (if b then None else first test xs)
found_less test gone true [] all = refl
found_less test gone false [] all = refl
found_less test gone b (x ∷ xs) all = by (test x) (gone x) refl refl (all x) (found_less test gone b xs all)
  where
    by : (c d : Bool) → test x ≡ c → gone x ≡ d → (test x ≡ true → gone x ≡ b) → first test (less_all gone xs) ≡ (if b then None else first test xs)
        → first test (if d then less_all gone xs else x ∷ less_all gone xs) ≡ (if b then None else (if c then Some x else first test xs))
    by true true is goes f g = let both : true ≡ b = sym goes ∙ f is in subst (λ z. first test (less_all gone xs) ≡ (if z then None else Some x)) both (subst (λ z. first test (less_all gone xs) ≡ (if z then None else first test xs)) (sym both) g)
    by true false is goes f g = let neither : false ≡ b = sym goes ∙ f is in subst (λ z. first test (x ∷ less_all gone xs) ≡ (if z then None else Some x)) neither (ap (λ z. if z then Some x else first test (less_all gone xs)) is)
    by false true is goes f g = g
    by false false is goes f g = ap (λ z. if z then Some x else first test (less_all gone xs)) is ∙ g

-- the first of the items that pass
pub first_of_filter : {A : Type 0} (test : A → Bool) (xs : List A) → first test xs ≡ slice_get (filter test xs) 0
first_of_filter test [] = refl
first_of_filter test (x ∷ xs) = by (test x) (first_of_filter test xs)
  where
    by : (b : Bool) → first test xs ≡ slice_get (filter test xs) 0 → (if b then Some x else first test xs) ≡ slice_get (cond b (x ∷ filter test xs) (filter test xs)) 0
    by true f = refl
    by false f = f

-- one item goes, and it is the first that the test passes
filter_less : {A : Type 0} (test gone : A → Bool) (xs : List A) → ((x : A) → gone x ≡ test x) → filter test (less_first gone xs) ≡ drop 1 (filter test xs)
filter_less test gone [] same = refl
filter_less test gone (x ∷ xs) same = by (test x) refl (gone x) (same x) (filter_less test gone xs same)
  where
    by : (b : Bool) → test x ≡ b → (c : Bool) → c ≡ test x → filter test (less_first gone xs) ≡ drop 1 (filter test xs)
        → filter test (if c then xs else x ∷ less_first gone xs) ≡ drop 1 (cond b (x ∷ filter test xs) (filter test xs))
    by true is true goes f = refl
    by true is false goes f = let never : false ≡ true = goes ∙ is in absurd cc
    by false is true goes f = let never : true ≡ false = goes ∙ is in absurd cc
    by false is false goes f = ap (λ z. cond z (x ∷ filter test (less_first gone xs)) (filter test (less_first gone xs))) is ∙ f

-- one item goes that the test doesn't pass
filter_other : {A : Type 0} (test gone : A → Bool) (xs : List A) → ((x : A) → gone x ≡ true → test x ≡ false) → filter test (less_first gone xs) ≡ filter test xs
filter_other test gone [] none = refl
filter_other test gone (x ∷ xs) none = by (gone x) refl (filter_other test gone xs none)
  where
    by : (b : Bool) → gone x ≡ b → filter test (less_first gone xs) ≡ filter test xs → filter test (if b then xs else x ∷ less_first gone xs) ≡ cond (test x) (x ∷ filter test xs) (filter test xs)
    by true is f = sym (ap (λ z. cond z (x ∷ filter test xs) (filter test xs)) (none x is))
    by false is f = ap (λ z. cond (test x) (x ∷ z) z) f

-- the same of how many there are
pub times_less : {A : Type 0} (test gone : A → Bool) (xs : List A) → ((x : A) → gone x ≡ test x) → times test (less_first gone xs) ≡ times test xs - 1
times_less test gone [] same = refl
times_less test gone (x ∷ xs) same = by (test x) refl (gone x) (same x) (times_less test gone xs same)
  where
    by : (b : Bool) → test x ≡ b → (c : Bool) → c ≡ test x → times test (less_first gone xs) ≡ times test xs - 1 → times test (if c then xs else x ∷ less_first gone xs) ≡ one b + times test xs - 1
    by true is true goes f = omega arith
    by true is false goes f = let never : false ≡ true = goes ∙ is in absurd cc
    by false is true goes f = let never : true ≡ false = goes ∙ is in absurd cc
    by false is false goes f = let none : one (test x) ≡ 0 = ap one is in omega (arith, f, none)

pub times_other : {A : Type 0} (test gone : A → Bool) (xs : List A) → ((x : A) → gone x ≡ true → test x ≡ false) → times test (less_first gone xs) ≡ times test xs
times_other test gone [] none = refl
times_other test gone (x ∷ xs) none = by (gone x) refl (times_other test gone xs none)
  where
    by : (b : Bool) → gone x ≡ b → times test (less_first gone xs) ≡ times test xs → times test (if b then xs else x ∷ less_first gone xs) ≡ one (test x) + times test xs
    by true is f = let here : one (test x) ≡ 0 = ap one (none x is) in omega (arith, here)
    by false is f = omega (arith, f)

-- one is there where some pass
pub has_some : {A : Type 0} (test : A → Bool) (xs : List A) → has test xs ≡ nat_lt 0 (times test xs)
has_some test [] = refl
has_some test (x ∷ xs) = by (test x) (has_some test xs)
  where
    more : (n : ℕ) → true ≡ nat_lt 0 (1 + n)
    more n = sym (lt-ltb 0 (1 + n) (omega arith))

    by : (b : Bool) → has test xs ≡ nat_lt 0 (times test xs) → holds (λ y. true) (if b then Some x else first test xs) ≡ nat_lt 0 (one b + times test xs)
    by true f = more (times test xs)
    by false f = f ∙ ap (nat_lt 0) (let same : times test xs ≡ 0 + times test xs = omega arith in same)

-- LISTS IN WHICH THE SAME IS FOUND

pub front_alike : {A : Type 0} (test : A → Bool) (x : A) (xs ys : List A) → first test xs ≡ first test ys → first test (x ∷ xs) ≡ first test (x ∷ ys)
front_alike test x xs ys h = ap (λ r. if test x then Some x else r) h

pub has_alike : {A : Type 0} (test : A → Bool) (x : A) (xs ys : List A) → has test xs ≡ has test ys → has test (x ∷ xs) ≡ has test (x ∷ ys)
has_alike test x xs ys h = by (test x)
  where
    by : (b : Bool) → holds (λ y. true) (if b then Some x else first test xs) ≡ holds (λ y. true) (if b then Some x else first test ys)
    by true = refl
    by false = h

pub each_alike : {A : Type 0} (test at : A → Bool) (f : A → A) (xs ys : List A) → ((x : A) → test (f x) ≡ test x) → first test xs ≡ first test ys → first test (with_each at f xs) ≡ first test (with_each at f ys)
each_alike test at f xs ys same h = found_each test at f xs same ∙ ap (option_map (λ x. if at x then f x else x)) h ∙ sym (found_each test at f ys same)

pub less_alike : {A : Type 0} (test gone : A → Bool) (b : Bool) (xs ys : List A) → ((x : A) → test x ≡ true → gone x ≡ b) → first test xs ≡ first test ys → first test (less_all gone xs) ≡ first test (less_all gone ys)
less_alike test gone b xs ys all h = found_less test gone b xs all ∙ ap (λ r. if b then None else r) h ∙ sym (found_less test gone b ys all)

-- an item goes that the test passes like the first that goes, or that it doesn't pass
abbrev pub OneGoes : {A : Type 0} → (A → Bool) → (A → Bool) → Type 0
OneGoes test gone = ((x : _) → gone x ≡ test x) ⊎ ((x : _) → gone x ≡ true → test x ≡ false)

pub filter_alike : {A : Type 0} (test gone : A → Bool) (xs ys : List A) → OneGoes test gone → filter test xs ≡ filter test ys → filter test (less_first gone xs) ≡ filter test (less_first gone ys)
filter_alike test gone xs ys (inl same) h = filter_less test gone xs same ∙ ap (drop 1) h ∙ sym (filter_less test gone ys same)
filter_alike test gone xs ys (inr none) h = filter_other test gone xs none ∙ h ∙ sym (filter_other test gone ys none)

pub times_alike : {A : Type 0} (test gone : A → Bool) (xs ys : List A) → OneGoes test gone → times test xs ≡ times test ys → times test (less_first gone xs) ≡ times test (less_first gone ys)
times_alike test gone xs ys (inl same) h = omega (arith, times_less test gone xs same, h, times_less test gone ys same)
times_alike test gone xs ys (inr none) h = omega (arith, times_other test gone xs none, h, times_other test gone ys none)

-- one more at the end
pub filter_end : {A : Type 0} (test : A → Bool) (xs : List A) (x : A) → filter test (xs ++ x ∷ []) ≡ filter test xs ++ filter test (x ∷ [])
filter_end test [] x = refl
filter_end test (y ∷ ys) x = by (test y) (filter_end test ys x)
  where
    by : (b : Bool) → filter test (ys ++ x ∷ []) ≡ filter test ys ++ filter test (x ∷ []) → cond b (y ∷ filter test (ys ++ x ∷ [])) (filter test (ys ++ x ∷ [])) ≡ cond b (y ∷ filter test ys) (filter test ys) ++ filter test (x ∷ [])
    by true f = ap (λ z. y ∷ z) f
    by false f = f
