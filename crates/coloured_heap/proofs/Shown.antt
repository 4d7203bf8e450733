-- What is found by a name in a list that changes, and what tables show of it.
use Rattle.std.proofs.Common.{◌≡◌, ℕ, ◌+◌, ◌-◌, ◌++◌, cond, Bool, true, false, List, [], ◌∷◌, Option, Some, None, inl, inr, refl, ap, sym, subst, ◌∙◌, arith}
use Rattle.std.specs.Prelude.{is_some, nat_lt, option_map, if◌then◌else◌}
use Rattle.fr_base.specs.Lists.{one}
use Rattle.coloured_heap.specs.Lists.{first, holds, has, times, less_first, less_all, with_each}
use Rattle.coloured_heap.proofs.Found.{OneGoes, found_each, found_less, has_some, times_less, times_other}

-- one is found where some pass
pub is_served : {A : Type 0} (test : A → Bool) (xs : List A) → is_some (first test xs) ≡ nat_lt 0 (times test xs)
is_served {A = A} test xs = by (first test xs) ∙ has_some test xs
  where
    by : (r : Option A) → is_some r ≡ holds (λ x. true) r
    by None = refl
    by (Some x) = refl

-- what is found passes
pub passes : {A : Type 0} (test : A → Bool) (xs : List A) (x : A) → first test xs ≡ Some x → test x ≡ true
passes test [] x h = absurd cc
passes {A = A} test (y ∷ ys) x h = by (passes test ys x) (test y) refl h
  where
    by : (first test ys ≡ Some x → test x ≡ true) → (b : Bool) → test y ≡ b → (if b then Some y else first test ys) ≡ Some x → test x ≡ true
    by rest true is q = let same : y ≡ x = cc in subst (λ z. test z ≡ true) same is
    by rest false is q = rest q

-- things with names: a test of names that holds of equal ones alone, either way round
module _ {A N : Type 0} (name : A → N) (same : N → N → Bool) (exact : (p q : N) → same p q ≡ true → p ≡ q) (flip : (p q : N) → same p q ≡ same q p) where
  abbrev pub is : N → A → Bool
  is p x = same (name x) p

  -- changed where it has that name
  pub found_changed : (o : N) (f : A → A) (xs : List A) → ((x : A) → name (f x) ≡ name x) → (p : N)
      → first (is p) (with_each (is o) f xs) ≡ cond (same o p) (option_map f (first (is p) xs)) (first (is p) xs)
  found_changed o f xs kept p = found_each (is p) (is o) f xs (λ x. ap (λ n. same n p) (kept x)) ∙ by (first (is p) xs) refl
    where
      chosen : (x : A) (b : Bool) → is o x ≡ b → option_map (λ z. if is o z then f z else z) (Some x) ≡ cond b (option_map f (Some x)) (Some x)
      chosen x true here = ap (λ d. Some (if d then f x else x)) here
      chosen x false here = ap (λ d. Some (if d then f x else x)) here

      nothing : (b : Bool) → option_map f None ≡ cond b (option_map f None) None
      nothing true = refl
      nothing false = refl

      by : (r : Option A) → first (is p) xs ≡ r → option_map (λ z. if is o z then f z else z) r ≡ cond (same o p) (option_map f r) r
      by None found = nothing (same o p)
      by (Some x) found = chosen x (same o p) (ap (λ n. same n o) (exact (name x) p (passes (is p) xs x found)) ∙ flip p o)

  -- gone where it has that name
  pub found_gone : (o : N) (xs : List A) (p : N) → first (is p) (less_all (is o) xs) ≡ cond (same o p) None (first (is p) xs)
  found_gone o xs p = found_less (is p) (is o) (same o p) xs (λ x named. ap (λ n. same n o) (exact (name x) p named) ∙ flip p o)

  -- a table shows by each name what it keeps of the thing
  module _ {V : Type 0} (view : A → V) where
    abbrev pub Shown : (N → Option V) → List A → Type 0
    Shown look xs = (p : N) → look p ≡ option_map view (first (is p) xs)

    pub shown_put : (look next : N → Option V) (x : A) (xs : List A) → ((q : N) → next q ≡ cond (same (name x) q) (Some (view x)) (look q)) → Shown look xs → Shown next (x ∷ xs)
    shown_put look next x xs put h q = put q ∙ by (same (name x) q)
      where
        by : (b : Bool) → cond b (Some (view x)) (look q) ≡ option_map view (if b then Some x else first (is q) xs)
        by true = refl
        by false = h q

    pub shown_gone : (look next : N → Option V) (o : N) (xs : List A) → ((q : N) → next q ≡ cond (same o q) None (look q)) → Shown look xs → Shown next (less_all (is o) xs)
    shown_gone look next o xs gone h q = gone q ∙ by (same o q) ∙ ap (option_map view) (sym (found_gone o xs q))
      where
        by : (b : Bool) → cond b None (look q) ≡ option_map view (cond b None (first (is q) xs))
        by true = refl
        by false = h q

    -- written where it is there
    pub shown_written : (look next : N → Option V) (o : N) (before after : V) (f : A → A) (xs : List A) → ((x : A) → name (f x) ≡ name x) → ((x : A) → view x ≡ before → view (f x) ≡ after)
        → look o ≡ Some before → ((q : N) → next q ≡ cond (same o q) (Some after) (look q)) → Shown look xs → Shown next (with_each (is o) f xs)
    shown_written look next o before after f xs kept changed there written h q =
        written q ∙ by (same o q) refl ∙ ap (option_map view) (sym (found_changed o f xs kept q))
      where
        here : (r : Option A) → look o ≡ option_map view r → Some after ≡ option_map view (option_map f r)
        here None fact = let never : Some before ≡ None = sym there ∙ fact in absurd cc
        here (Some x) fact = let both : Some before ≡ Some (view x) = sym there ∙ fact in let seen : view x ≡ before = cc in ap (λ v. Some v) (sym (changed x seen))

        by : (b : Bool) → same o q ≡ b → cond b (Some after) (look q) ≡ option_map view (cond b (option_map f (first (is q) xs)) (first (is q) xs))
        by true found = let this = exact o q found in here (first (is q) xs) (subst (λ z. look o ≡ option_map view (first (is z) xs)) this (h o))
        by false found = h q

    -- not written where it isn't there
    pub shown_left : (look : N → Option V) (o : N) (f : A → A) (xs : List A) → ((x : A) → name (f x) ≡ name x) → look o ≡ None → Shown look xs → Shown look (with_each (is o) f xs)
    shown_left look o f xs kept none h q = by (same o q) refl ∙ ap (option_map view) (sym (found_changed o f xs kept q))
      where
        here : (r : Option A) → None ≡ option_map view r → None ≡ option_map view (option_map f r)
        here None fact = refl
        here (Some x) fact = absurd cc

        by : (b : Bool) → same o q ≡ b → look q ≡ option_map view (cond b (option_map f (first (is q) xs)) (first (is q) xs))
        by true found = let this = exact o q found in
            let gone : look q ≡ None = subst (λ z. look z ≡ None) this none in
            gone ∙ here (first (is q) xs) (sym gone ∙ h q)
        by false found = h q

    -- a change that isn't seen
    pub shown_unseen : (look : N → Option V) (o : N) (f : A → A) (xs : List A) → ((x : A) → name (f x) ≡ name x) → ((x : A) → view (f x) ≡ view x) → Shown look xs → Shown look (with_each (is o) f xs)
    shown_unseen look o f xs kept unseen h q = h q ∙ by (same o q) (first (is q) xs) ∙ ap (option_map view) (sym (found_changed o f xs kept q))
      where
        by : (b : Bool) (r : Option A) → option_map view r ≡ option_map view (cond b (option_map f r) r)
        by true None = refl
        by true (Some x) = ap (λ v. Some v) (sym (unseen x))
        by false r = refl

  -- a table that tells what is there
  module _ (look next : N → Bool) (xs : List A) (h : (p : N) → look p ≡ has (is p) xs) where
    pub has_gone : (o q : N) → next q ≡ cond (same o q) false (look q) → next q ≡ has (is q) (less_all (is o) xs)
    has_gone o q gone = gone ∙ by (same o q) ∙ ap (holds (λ y. true)) (sym (found_gone o xs q))
      where
        by : (b : Bool) → cond b false (look q) ≡ holds (λ y. true) (cond b None (first (is q) xs))
        by true = refl
        by false = h q

    -- in place of what had its name
    pub has_renewed : (x : A) (q : N) → next q ≡ cond (same (name x) q) true (look q) → next q ≡ has (is q) (x ∷ less_all (is (name x)) xs)
    has_renewed x q put = put ∙ by (same (name x) q) refl
      where
        by : (b : Bool) → same (name x) q ≡ b → cond b true (look q) ≡ holds (λ y. true) (if b then Some x else first (is q) (less_all (is (name x)) xs))
        by true is_it = refl
        by false is_it = h q ∙ ap (holds (λ y. true)) (sym (found_gone (name x) xs q ∙ ap (λ c. cond c None (first (is q) xs)) is_it))

-- HOW OFTEN

-- tests that agree
times_agree : {A : Type 0} (test other : A → Bool) (xs : List A) → ((x : A) → other x ≡ test x) → times other xs ≡ times test xs
times_agree test other [] agree = refl
times_agree test other (x ∷ xs) agree = let here : one (other x) ≡ one (test x) = ap one (agree x) in omega (arith, here, times_agree test other xs agree)

-- one more at the end
pub times_end : {A : Type 0} (test : A → Bool) (xs : List A) (x : A) → times test (xs ++ x ∷ []) ≡ one (test x) + times test xs
times_end test [] x = refl
times_end test (y ∷ ys) x = omega (arith, times_end test ys x)

-- where none is found, none goes
pub none_goes : {A : Type 0} (gone : A → Bool) (xs : List A) → first gone xs ≡ None → less_first gone xs ≡ xs
none_goes gone [] h = refl
none_goes gone (x ∷ xs) h = by (none_goes gone xs) (gone x) refl h
  where
    by : (first gone xs ≡ None → less_first gone xs ≡ xs) → (b : Bool) → gone x ≡ b → (if b then Some x else first gone xs) ≡ None → (if b then xs else x ∷ less_first gone xs) ≡ x ∷ xs
    by rest true is q = absurd cc
    by rest false is q = ap (λ ys. x ∷ ys) (rest q)

-- a thing is counted that one of two tests passes, which are the same test or pass nothing both
module _ {A : Type 0} (test gone : A → Bool) (goes : OneGoes test gone) (c : A) (its : gone c ≡ true) (cs : List A) (b : Bool) (same : b ≡ test c)
    (most now : ℕ) (of_gone : most ≡ times gone cs) (of_test : now ≡ times test cs) where
  pub counted_more : (next : ℕ) → next ≡ cond b (most + 1) now → next ≡ one (test c) + times test cs
  counted_more next put = by goes
    where
      by : OneGoes test gone → next ≡ one (test c) + times test cs
      by (inl agree) =
          let here : test c ≡ true = sym (agree c) ∙ its in
          let one_here : one (test c) ≡ 1 = ap one here in
          let added : next ≡ most + 1 = put ∙ ap (λ z. cond z (most + 1) now) (same ∙ here) in
          omega (arith, one_here, added, of_gone, times_agree test gone cs agree)
      by (inr none) =
          let here : test c ≡ false = none c its in
          let none_here : one (test c) ≡ 0 = ap one here in
          let left : next ≡ now = put ∙ ap (λ z. cond z (most + 1) now) (same ∙ here) in
          omega (arith, none_here, left, of_test)

  pub counted_less : (next : ℕ) → next ≡ cond b (most - 1) now → next ≡ times test (less_first gone cs)
  counted_less next put = by goes
    where
      by : OneGoes test gone → next ≡ times test (less_first gone cs)
      by (inl agree) =
          let here : test c ≡ true = sym (agree c) ∙ its in
          let taken : next ≡ most - 1 = put ∙ ap (λ z. cond z (most - 1) now) (same ∙ here) in
          omega (arith, taken, of_gone, times_agree test gone cs agree, times_less test gone cs agree)
      by (inr none) =
          let here : test c ≡ false = none c its in
          let left : next ≡ now = put ∙ ap (λ z. cond z (most - 1) now) (same ∙ here) in
          left ∙ of_test ∙ sym (times_other test gone cs none)
