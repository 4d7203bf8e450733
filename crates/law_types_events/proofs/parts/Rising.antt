-- Lists by rising number: they stay so where items go, and where one comes last or in its place.
use Rattle.std.proofs.Common.{◌≡◌, ◌<◌, ◌≤◌, ℕ, Bool, true, false, nat_lt, List, [], ◌∷◌, ◌++◌, refl, ap, ◌∙◌, arith}
use Rattle.std.specs.List.{AllByRecursion}
use Rattle.std.proofs.lemmas.Bool.Decides.{nat_tests}
use Rattle.law_counts_limits.specs.Below.coherent_memory.Names.{other}
use Rattle.law_counts_limits.specs.Below.coherent_memory.Naming.{rising_from, rising, numbers_of}

-- one number below another, as the sentence counts it
pub is_less : (m n : ℕ) → other (nat_lt m n) ≡ 0 → m < n
is_less m n z = by (nat_lt m n) refl z
  where
    by : (b : Bool) → nat_lt m n ≡ b → other b ≡ 0 → m < n
    by true e z = grind (arith, nat_tests, e)
    by false e z = absurd (cc z)

pub less_is : (m n : ℕ) → m < n → other (nat_lt m n) ≡ 0
less_is m n l = by (nat_lt m n) refl
  where
    by : (b : Bool) → nat_lt m n ≡ b → other b ≡ 0
    by true e = refl
    by false e = absurd (grind (arith, nat_tests, e, l))

-- ys is xs without some of its items
pub data Less {A : Type 0} : List A → List A → Type 0 where
  less_none : Less [] []
  less_keep : {x : A} {ys xs : List A} → Less ys xs → Less (x ∷ ys) (x ∷ xs)
  less_skip : {x : A} {ys xs : List A} → Less ys xs → Less ys (x ∷ xs)

-- a list without none
pub less_self : {A : Type 0} (xs : List A) → Less xs xs
less_self [] = less_none
less_self (x ∷ xs) = less_keep (less_self xs)

module _ {A : Type 0} (f : A → ℕ) where
  -- by rising number; the same from a number on, which is below all; each is at most so much
  abbrev pub Rises : List A → Type 0
  Rises xs = rising (numbers_of f xs) ≡ 0

  abbrev pub RiseFrom : ℕ → List A → Type 0
  RiseFrom n xs = rising_from n (numbers_of f xs) ≡ 0

  abbrev pub Low : ℕ → List A → Type 0
  Low k xs = AllByRecursion (λ x. f x ≤ k) xs

  -- from a smaller number on
  pub lower : (a n : ℕ) (xs : List A) → a ≤ n → RiseFrom n xs → RiseFrom a xs
  lower a n [] l z = refl
  lower a n (x ∷ xs) l z =
      let first : n < f x = is_less n (f x) (omega (arith, z)) in
      omega (arith, z, less_is a (f x) (omega (arith, l, first)))

  -- from some number on is rising
  pub rest_rises : (n : ℕ) (xs : List A) → RiseFrom n xs → Rises xs
  rest_rises n [] z = refl
  rest_rises n (x ∷ xs) z = omega (arith, z)

  -- without some items
  pub fewer_from : {ys xs : List A} (n : ℕ) → Less ys xs → RiseFrom n xs → RiseFrom n ys
  fewer_from n less_none z = refl
  fewer_from n (less_keep {x} {ys} {xs} l) z = let more = fewer_from (f x) l (omega (arith, z)) in omega (arith, z, more)
  fewer_from n (less_skip {x} {ys} {xs} l) z =
      let first : n < f x = is_less n (f x) (omega (arith, z)) in
      fewer_from n l (lower n (f x) xs (omega (arith, first)) (omega (arith, z)))

  -- the same from the first one on
  pub fewer_rise : {ys xs : List A} → Less ys xs → Rises xs → Rises ys
  fewer_rise less_none z = refl
  fewer_rise (less_keep {x} {ys} {xs} l) z = fewer_from (f x) l z
  fewer_rise (less_skip {x} {ys} {xs} l) z = fewer_rise l (rest_rises (f x) xs z)

  -- and none is higher
  pub fewer_low : {ys xs : List A} (k : ℕ) → Less ys xs → Low k xs → Low k ys
  fewer_low k less_none a = tt
  fewer_low k (less_keep l) a = (a.0, fewer_low k l a.1)
  fewer_low k (less_skip l) a = fewer_low k l a.1

  -- at most more
  pub low_more : (k m : ℕ) (xs : List A) → k ≤ m → Low k xs → Low m xs
  low_more k m [] l a = tt
  low_more k m (x ∷ xs) l a = (omega (arith, l, a.0), low_more k m xs l a.1)

  -- one more behind them
  last_from : (n k : ℕ) (xs : List A) (x : A) → RiseFrom n xs → Low k xs → n < f x → k < f x → RiseFrom n (xs ++ x ∷ [])
  last_from n k [] x z a l m = omega (arith, less_is n (f x) l)
  last_from n k (y ∷ xs) x z a l m = omega (arith, z, last_from (f y) k xs x (omega (arith, z)) a.1 (omega (arith, a.0, m)) m)

  -- the same from the first one on
  pub last_rises : (k : ℕ) (xs : List A) (x : A) → Rises xs → Low k xs → k < f x → Rises (xs ++ x ∷ [])
  last_rises k [] x z a m = refl
  last_rises k (y ∷ xs) x z a m = last_from (f y) k xs x z a.1 (omega (arith, a.0, m)) m

  -- and all are at most so much
  pub last_low : (k m : ℕ) (xs : List A) (x : A) → k ≤ m → f x ≤ m → Low k xs → Low m (xs ++ x ∷ [])
  last_low k m [] x l h a = (h, tt)
  last_low k m (y ∷ xs) x l h a = (omega (arith, l, a.0), last_low k m xs x l h a.1)

  -- other items with the same numbers
  pub same_rise : (xs ys : List A) → numbers_of f ys ≡ numbers_of f xs → Rises xs → Rises ys
  same_rise xs ys e z = ap rising e ∙ z

  -- and are at most so much
  pub same_low : (k : ℕ) (xs ys : List A) → numbers_of f ys ≡ numbers_of f xs → Low k xs → Low k ys
  same_low k [] [] e a = tt
  same_low k [] (y ∷ ys) e a = absurd (cc e)
  same_low k (x ∷ xs) [] e a = tt
  same_low k (x ∷ xs) (y ∷ ys) e a =
      let first : f y ≡ f x = cc in
      let more : numbers_of f ys ≡ numbers_of f xs = cc in
      (omega (arith, first, a.0), same_low k xs ys more a.1)
