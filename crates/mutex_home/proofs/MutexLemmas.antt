-- The list of mutexes that keys, by count, and what they lead to stand for.
use Rattle.std.proofs.Common.{◌≡◌, ◌≢◌, ℕ, zero, suc, ◌+◌, ◌<◌, Bool, true, false, ◌==◌, List, [], ◌∷◌, ◌++◌, length, slice_get, Option, None, Some, refl, sym, ap, ◌∙◌, arith}
use Rattle.std.proofs.lemmas.Bool.{eq-eqb, eqb-true}
use Rattle.fr_base.specs.declared.name.MutexNo.{MutexNo}
use Rattle.fr_base.specs.Names.{same_mutex}
use Rattle.mutex_home.specs.Mutexes.{Mutex, mutex_in, with_mutex, without_mutex}
use Rattle.mutex_home.specs.Stores.{listed, mutexes_by}

-- numbers that differ
pub differ : (a b : ℕ) → a ≢ b → (a == b) ≡ false
differ a b d = by (a == b) refl
  where
    by : (q : Bool) → (a == b) ≡ q → q ≡ false
    by true p = absurd (d (eqb-true a b p))
    by false p = refl

pub other_count : (l m : MutexNo) → (l.count == m.count) ≡ false → same_mutex l m ≡ false
other_count l m h = by (l.home == m.home) refl
  where
    by : (q : Bool) → (l.home == m.home) ≡ q → same_mutex l m ≡ false
    by true p = rw (p, h) refl
    by false p = rw p refl

pub same_itself : (m : MutexNo) → same_mutex m m ≡ true
same_itself m = rw (eq-eqb m.home m.home refl, eq-eqb m.count m.count refl) refl

pub passed : (x : Mutex) (xs : List Mutex) (m : MutexNo) → same_mutex x.number m ≡ false → mutex_in (x ∷ xs) m ≡ mutex_in xs m
passed x xs m h = rw h refl

pub met : (x : Mutex) (xs : List Mutex) (m : MutexNo) → same_mutex x.number m ≡ true → mutex_in (x ∷ xs) m ≡ Some x
met x xs m h = rw h refl

pub passed_with : (x : Mutex) (xs : List Mutex) (y : Mutex) → same_mutex x.number y.number ≡ false → with_mutex (x ∷ xs) y ≡ x ∷ with_mutex xs y
passed_with x xs y h = rw h refl

pub met_with : (x : Mutex) (xs : List Mutex) (y : Mutex) → same_mutex x.number y.number ≡ true → with_mutex (x ∷ xs) y ≡ y ∷ xs
met_with x xs y h = rw h refl

pub passed_without : (x : Mutex) (xs : List Mutex) (m : MutexNo) → same_mutex x.number m ≡ false → without_mutex (x ∷ xs) m ≡ x ∷ without_mutex xs m
passed_without x xs m h = rw h refl

pub met_without : (x : Mutex) (xs : List Mutex) (m : MutexNo) → same_mutex x.number m ≡ true → without_mutex (x ∷ xs) m ≡ xs
met_without x xs m h = rw h refl

-- what a count and a key stand for has that count
abbrev pub Named : ℕ → (ℕ → ℕ → Option Mutex) → Type 0
Named home at = (count key : ℕ) (x : Mutex) → at count key ≡ Some x → x.number ≡ record { home = home; count = count }

abbrev pub found_at : (ℕ → ℕ → Option Mutex) → ℕ → Option ℕ → Option Mutex
found_at at count None = None
found_at at count (Some key) = at count key

abbrev number : ℕ → ℕ → MutexNo
number home count = record { home = home; count = count }

module _ (home : ℕ) (at : ℕ → ℕ → Option Mutex) (named : Named home at) where
  other_number : (n key : ℕ) (x : Mutex) (m : MutexNo) → at n key ≡ Some x → n ≢ m.count → same_mutex x.number m ≡ false
  other_number n key x m p d = ap (λ l. same_mutex l m) (named n key x p) ∙ other_count (number home n) m (differ n m.count d)

  its_number : (n key : ℕ) (x : Mutex) → at n key ≡ Some x → same_mutex x.number (number home n) ≡ true
  its_number n key x p = ap (λ l. same_mutex l (number home n)) (named n key x p) ∙ same_itself (number home n)

  -- a count below those of the keys isn't there
  pub none_below : (keys : List ℕ) (n : ℕ) (m : MutexNo) → m.count < n → mutex_in (mutexes_by at n keys) m ≡ None
  none_below [] n m h = refl
  none_below (k ∷ ks) n m h = by (at n k) refl (none_below ks (n + 1) m (omega (arith, h)))
    where
      by : (o : Option Mutex) → at n k ≡ o → mutex_in (mutexes_by at (n + 1) ks) m ≡ None → mutex_in (listed o (mutexes_by at (n + 1) ks)) m ≡ None
      by None p ih = ih
      by (Some x) p ih = passed x (mutexes_by at (n + 1) ks) m (other_number n k x m p (λ e. omega (arith, e, h))) ∙ ih

  -- another server's mutex isn't there
  pub none_elsewhere : (keys : List ℕ) (n : ℕ) (m : MutexNo) → (home == m.home) ≡ false → mutex_in (mutexes_by at n keys) m ≡ None
  none_elsewhere [] n m h = refl
  none_elsewhere (k ∷ ks) n m h = by (at n k) refl (none_elsewhere ks (n + 1) m h)
    where
      other : same_mutex (number home n) m ≡ false
      other = rw h refl

      by : (o : Option Mutex) → at n k ≡ o → mutex_in (mutexes_by at (n + 1) ks) m ≡ None → mutex_in (listed o (mutexes_by at (n + 1) ks)) m ≡ None
      by None p ih = ih
      by (Some x) p ih = passed x (mutexes_by at (n + 1) ks) m (ap (λ l. same_mutex l m) (named n k x p) ∙ other) ∙ ih

  -- a mutex is what its count's key stands for
  pub found : (keys : List ℕ) (n d : ℕ) → mutex_in (mutexes_by at n keys) (number home (n + d)) ≡ found_at at (n + d) (slice_get keys d)
  found [] n d = refl
  found (k ∷ ks) n zero = let q : n + zero ≡ n = omega arith in rw q (by (at n k) refl)
    where
      by : (o : Option Mutex) → at n k ≡ o → mutex_in (listed o (mutexes_by at (n + 1) ks)) (number home n) ≡ o
      by None p = none_below ks (n + 1) (number home n) (omega arith)
      by (Some x) p = met x (mutexes_by at (n + 1) ks) (number home n) (its_number n k x p)
  found (k ∷ ks) n (suc d) = let q : n + suc d ≡ (n + 1) + d = omega arith in rw q (by (at n k) refl (found ks (n + 1) d))
    where
      by : (o : Option Mutex) → at n k ≡ o → mutex_in (mutexes_by at (n + 1) ks) (number home ((n + 1) + d)) ≡ found_at at ((n + 1) + d) (slice_get ks d)
          → mutex_in (listed o (mutexes_by at (n + 1) ks)) (number home ((n + 1) + d)) ≡ found_at at ((n + 1) + d) (slice_get ks d)
      by None p ih = ih
      by (Some x) p ih = passed x (mutexes_by at (n + 1) ks) (number home ((n + 1) + d)) (other_number n k x (number home ((n + 1) + d)) p (λ e. omega (arith, e))) ∙ ih

  module _ (new : ℕ → ℕ → Option Mutex) (c : ℕ) (others : (count key : ℕ) → count ≢ c → new count key ≡ at count key) where
    -- a change at one count leaves those above as they were
    pub same_above : (keys : List ℕ) (n : ℕ) → c < n → mutexes_by new n keys ≡ mutexes_by at n keys
    same_above [] n h = refl
    same_above (k ∷ ks) n h = rw (others n k (λ e. omega (arith, e, h)), same_above ks (n + 1) (omega (arith, h))) refl

    -- another mutex of the same number
    pub put : (keys : List ℕ) (n d key : ℕ) (x y : Mutex) → c ≡ n + d → slice_get keys d ≡ Some key → at c key ≡ Some x → new c key ≡ Some y → y.number ≡ number home c
        → mutexes_by new n keys ≡ with_mutex (mutexes_by at n keys) y
    put [] n d key x y e g o w l = absurd cc
    put (k ∷ ks) n zero key x y e g o w l = rw (new_is, at_is, same_above ks (n + 1) (omega (arith, e))) (sym (met_with x (mutexes_by at (n + 1) ks) y same))
      where
        at_n : n ≡ c
        at_n = omega (arith, e)

        key_is : k ≡ key
        key_is = cc

        new_is : new n k ≡ Some y
        new_is = rw (at_n, key_is) w

        at_is : at n k ≡ Some x
        at_is = rw (at_n, key_is) o

        same : same_mutex x.number y.number ≡ true
        same = ap (λ i. same_mutex x.number i) l ∙ ap (λ i. same_mutex i (number home c)) (named c key x o) ∙ same_itself (number home c)
    put (k ∷ ks) n (suc d) key x y e g o w l = rw (others n k above) (by (at n k) refl (put ks (n + 1) d key x y (omega (arith, e)) g o w l))
      where
        above : n ≢ c
        above = λ i. omega (arith, i, e)

        by : (q : Option Mutex) → at n k ≡ q → mutexes_by new (n + 1) ks ≡ with_mutex (mutexes_by at (n + 1) ks) y
            → listed q (mutexes_by new (n + 1) ks) ≡ with_mutex (listed q (mutexes_by at (n + 1) ks)) y
        by None p ih = ih
        by (Some z) p ih = ap (λ zs. z ∷ zs) ih ∙ sym (passed_with z (mutexes_by at (n + 1) ks) y (ap (λ i. same_mutex z.number i) l ∙ other_number n k z (number home c) p above))

    -- the mutex of a count goes
    pub gone : (keys : List ℕ) (n d key : ℕ) (x : Mutex) → c ≡ n + d → slice_get keys d ≡ Some key → at c key ≡ Some x → new c key ≡ None
        → mutexes_by new n keys ≡ without_mutex (mutexes_by at n keys) (number home c)
    gone [] n d key x e g o w = absurd cc
    gone (k ∷ ks) n zero key x e g o w = rw (new_is, at_is, same_above ks (n + 1) (omega (arith, e))) (sym (met_without x (mutexes_by at (n + 1) ks) (number home c) same))
      where
        at_n : n ≡ c
        at_n = omega (arith, e)

        key_is : k ≡ key
        key_is = cc

        new_is : new n k ≡ None
        new_is = rw (at_n, key_is) w

        at_is : at n k ≡ Some x
        at_is = rw (at_n, key_is) o

        same : same_mutex x.number (number home c) ≡ true
        same = its_number c key x o
    gone (k ∷ ks) n (suc d) key x e g o w = rw (others n k above) (by (at n k) refl (gone ks (n + 1) d key x (omega (arith, e)) g o w))
      where
        above : n ≢ c
        above = λ i. omega (arith, i, e)

        by : (q : Option Mutex) → at n k ≡ q → mutexes_by new (n + 1) ks ≡ without_mutex (mutexes_by at (n + 1) ks) (number home c)
            → listed q (mutexes_by new (n + 1) ks) ≡ without_mutex (listed q (mutexes_by at (n + 1) ks)) (number home c)
        by None p ih = ih
        by (Some z) p ih = ap (λ zs. z ∷ zs) ih ∙ sym (passed_without z (mutexes_by at (n + 1) ks) (number home c) (other_number n k z (number home c) p above))

    -- the mutex of the next count comes last
    pub made_last : (keys : List ℕ) (n key : ℕ) (y : Mutex) → c ≡ n + length keys → new c key ≡ Some y → mutexes_by new n (keys ++ key ∷ []) ≡ mutexes_by at n keys ++ y ∷ []
    made_last [] n key y e w = rw new_is refl
      where
        at_n : n ≡ c
        at_n = omega (arith, e)

        new_is : new n key ≡ Some y
        new_is = rw at_n w
    made_last (k ∷ ks) n key y e w = rw (others n k (λ i. omega (arith, i, e))) (by (at n k) refl (made_last ks (n + 1) key y (omega (arith, e)) w))
      where
        by : (q : Option Mutex) → at n k ≡ q → mutexes_by new (n + 1) (ks ++ key ∷ []) ≡ mutexes_by at (n + 1) ks ++ y ∷ []
            → listed q (mutexes_by new (n + 1) (ks ++ key ∷ [])) ≡ listed q (mutexes_by at (n + 1) ks) ++ y ∷ []
        by None p ih = ih
        by (Some z) p ih = ap (λ zs. z ∷ zs) ih
