-- Names numbered in the order in which an order gives them: no two become one, and each new name is one of the next or of those before.
use Rattle.std.proofs.Common.{◌≡◌, ◌≢◌, ℕ, zero, suc, ◌+◌, ◌≤◌, ◌<◌, ◌==◌, ◌&&◌, Bool, true, false, List, [], ◌∷◌, ◌++◌, map, length, Some, refl, sym, ap, ◌∙◌, arith, length-append, append_assoc}
use Rattle.std.specs.Prelude.{⊤, slice_get, if◌then◌else◌}
use Rattle.fr_base.specs.Names.{same_mutex}
use Rattle.fr_base.specs.declared.name.MutexNo.{MutexNo}
use Rattle.fr_base.specs.declared.step.Fresh.{Fresh}
use Rattle.fr_base.specs.declared.step.Fresh.TheVariants as fresh
use Rattle.fr_typing.proofs.PlaceLemmas.{eq_cases}
use Rattle.fr_plain.specs.Machine.{Turn}
use Rattle.law_plain_names.specs.Renamed.{Renaming, IsOneToOne, turn}
use Rattle.law_plain_names.specs.Explored.{threads_of, mutexes_of, threads_named, mutexes_named, mutex_no}

-- WHERE A NAME STANDS IN A LIST

-- names that don't stand there come behind
abbrev pub place_in : List ℕ → ℕ → ℕ
place_in [] t = t
place_in (x ∷ xs) t = if x == t then 0 else suc (place_in xs t)

abbrev pub later : MutexNo → MutexNo
later m = record { home = m.home; count = suc m.count }

abbrev pub number_in : List MutexNo → MutexNo → MutexNo
number_in [] m = m
number_in (x ∷ xs) m = if same_mutex x m then mutex_no 0 else later (number_in xs m)

mutex_cases : (P : Bool → Type 0) (m n : MutexNo) → (m ≡ n → P true) → (m ≢ n → P false) → P (same_mutex m n)
mutex_cases P m n same other =
    eq_cases (λ b. P (b && m.count == n.count)) m.home n.home
    (λ e. eq_cases P m.count n.count (λ f. same (ap (λ (h : ℕ). record { home = h; count = m.count }) e ∙ ap (λ (c : ℕ). record { home = n.home; count = c }) f)) (λ ne. other (λ f. ne (ap (λ (x : MutexNo). x.count) f)))) (λ ne. other (λ f. ne (ap (λ (x : MutexNo). x.home) f)))

equal : (a b : ℕ) → a ≡ b → (a == b) ≡ true
equal a b e = eq_cases (λ c. c ≡ true) a b (λ f. refl) (λ ne. absurd (ne e))

unequal : (a b : ℕ) → a ≢ b → (a == b) ≡ false
unequal a b ne = eq_cases (λ c. c ≡ false) a b (λ e. absurd (ne e)) (λ f. refl)

both_equal : (a b c d : ℕ) → (a ≡ b → c ≡ d) → (c ≡ d → a ≡ b) → (a == b) ≡ (c == d)
both_equal a b c d f g = eq_cases (λ x. x ≡ (c == d)) a b (λ e. sym (equal c d (f e))) (λ ne. sym (unequal c d (λ e. ne (g e))))

same_same : (m n : MutexNo) → m ≡ n → same_mutex m n ≡ true
same_same m n e = mutex_cases (λ c. c ≡ true) m n (λ f. refl) (λ ne. absurd (ne e))

unlike : (m n : MutexNo) → m ≢ n → same_mutex m n ≡ false
unlike m n ne = mutex_cases (λ c. c ≡ false) m n (λ e. absurd (ne e)) (λ f. refl)

both_same : (a b c d : MutexNo) → (a ≡ b → c ≡ d) → (c ≡ d → a ≡ b) → same_mutex a b ≡ same_mutex c d
both_same a b c d f g = mutex_cases (λ x. x ≡ same_mutex c d) a b (λ e. sym (same_same c d (f e))) (λ ne. sym (unlike c d (λ e. ne (g e))))

-- no two names stand at one place
place_tells : (xs : List ℕ) (t u : ℕ) → place_in xs t ≡ place_in xs u → t ≡ u
place_tells [] t u = λ e. e
place_tells (x ∷ xs) t u =
    eq_cases (λ b. (if b then 0 else suc (place_in xs t)) ≡ place_in (x ∷ xs) u → t ≡ u) x t
    (λ f. eq_cases (λ c. 0 ≡ (if c then 0 else suc (place_in xs u)) → t ≡ u) x u (λ g e. sym f ∙ g) (λ ne e. absurd cc))
    (λ nf. eq_cases (λ c. suc (place_in xs t) ≡ (if c then 0 else suc (place_in xs u)) → t ≡ u) x u (λ g e. absurd cc) (λ ne e. place_tells xs t u cc))

later_tells : (a b : MutexNo) → later a ≡ later b → a ≡ b
later_tells a b e = let f : a.home ≡ b.home = ap (λ (m : MutexNo). m.home) e in let g : suc a.count ≡ suc b.count = ap (λ (m : MutexNo). m.count) e in let h : a.count ≡ b.count = cc in ap (λ (k : ℕ). record { home = k; count = a.count }) f ∙ ap (λ (k : ℕ). record { home = b.home; count = k }) h

not_first : (a : MutexNo) (k : ℕ) → later a ≡ mutex_no k → k ≢ 0
not_first a k e f = let g : suc a.count ≡ k = ap (λ (m : MutexNo). m.count) e in absurd cc

number_tells : (xs : List MutexNo) (m k : MutexNo) → number_in xs m ≡ number_in xs k → m ≡ k
number_tells [] m k = λ e. e
number_tells (x ∷ xs) m k =
    mutex_cases (λ b. (if b then mutex_no 0 else later (number_in xs m)) ≡ number_in (x ∷ xs) k → m ≡ k) x m
    (λ f. mutex_cases (λ c. mutex_no 0 ≡ (if c then mutex_no 0 else later (number_in xs k)) → m ≡ k) x k (λ g e. sym f ∙ g) (λ ne e. absurd (not_first (number_in xs k) 0 (sym e) refl)))
    (λ nf. mutex_cases (λ c. later (number_in xs m) ≡ (if c then mutex_no 0 else later (number_in xs k)) → m ≡ k) x k (λ g e. absurd (not_first (number_in xs m) 0 e refl)) (λ ne e. number_tells xs m k (later_tells (number_in xs m) (number_in xs k) e)))

-- the renaming of an order
abbrev pub numbered : List Turn → Renaming
numbered order = record { thread = place_in (0 ∷ threads_named order); mutex = number_in (mutexes_named order) }

pub numbered_once : (order : List Turn) → IsOneToOne (numbered order)
numbered_once order = record {
  threads = λ t u. both_equal _ _ t u (place_tells (0 ∷ threads_named order) t u) (ap (place_in (0 ∷ threads_named order)));
  mutexes = λ m k. both_same _ _ m k (number_tells (mutexes_named order) m k) (ap (number_in (mutexes_named order)));
  main = refl;
}

-- a name stands no later than where it is listed
place_at : (front : List ℕ) (u : ℕ) (rest : List ℕ) → place_in (front ++ u ∷ rest) u ≤ length front
place_at [] u rest = eq_cases (λ b. (if b then 0 else suc (place_in rest u)) ≤ 0) u u (λ e. omega arith) (λ ne. absurd (ne refl))
place_at (x ∷ xs) u rest = eq_cases (λ b. (if b then 0 else suc (place_in (xs ++ u ∷ rest) u)) ≤ suc (length xs)) x u (λ e. omega arith) (λ ne. omega (arith, place_at xs u rest))

-- a number below that of those named before, or the next one
pub record IsUpTo (k : ℕ) (m : MutexNo) : Type 0 where
  pub home : m.home ≡ 0
  pub count : m.count ≤ k

number_at : (front : List MutexNo) (u : MutexNo) (rest : List MutexNo) → IsUpTo (length front) (number_in (front ++ u ∷ rest) u)
number_at [] u rest = mutex_cases (λ b. IsUpTo 0 (if b then mutex_no 0 else later (number_in rest u))) u u (λ e. record { home = refl; count = omega arith }) (λ ne. absurd (ne refl))
number_at (x ∷ xs) u rest =
    mutex_cases (λ b. IsUpTo (suc (length xs)) (if b then mutex_no 0 else later (number_in (xs ++ u ∷ rest) u))) x u (λ e. record { home = refl; count = omega arith })
    (λ ne. let h = number_at xs u rest in record { home = h.home; count = omega (arith, h.count) })

-- the mutex that has a number is the one that stands there
pub number_found : (ns : List MutexNo) (m : MutexNo) (k : ℕ) → number_in ns m ≡ mutex_no k → k < length ns → slice_get ns k ≡ Some m
number_found [] m k = λ e lt. absurd (omega (arith, lt))
number_found (x ∷ xs) m k =
    mutex_cases (λ b. (if b then mutex_no 0 else later (number_in xs m)) ≡ mutex_no k → k < suc (length xs) → slice_get (x ∷ xs) k ≡ Some m) x m (λ f e lt. first k f (ap (λ (y : MutexNo). y.count) e))
    (λ ne e lt. more k e lt (number_found xs m))
  where
    first : (k : ℕ) → x ≡ m → 0 ≡ k → slice_get (x ∷ xs) k ≡ Some m
    first zero f e = ap Some f
    first (suc k) f e = absurd cc

    more : (k : ℕ) → later (number_in xs m) ≡ mutex_no k → k < suc (length xs) → ((j : ℕ) → number_in xs m ≡ mutex_no j → j < length xs → slice_get xs j ≡ Some m) → slice_get (x ∷ xs) k ≡ Some m
    more zero e lt go = absurd (not_first (number_in xs m) 0 e refl)
    more (suc k) e lt go = go k (later_tells (number_in xs m) (mutex_no k) e) (omega (arith, lt))

-- ORDERS WHOSE NEW NAMES ARE NUMBERED

abbrev pub Within : ℕ → ℕ → Fresh → Type 0
Within k m fresh.None = ⊤
Within k m (fresh.Thread t) = t ≤ k
Within k m (fresh.Threads t u) = (t ≤ k) × (u ≤ suc k)
Within k m (fresh.Mutex n) = IsUpTo m n

abbrev pub InOrder : ℕ → ℕ → List Turn → Type 0
InOrder k m [] = ⊤
InOrder k m (t ∷ ts) = Within k m t.1 × InOrder (k + length (threads_of t.1)) (m + length (mutexes_of t.1)) ts

module _ (threads : List ℕ) (mutexes : List MutexNo) where
  abbrev names : Renaming
  names = record { thread = place_in threads; mutex = number_in mutexes }

  pub in_order : (ts : List Turn) (front : List ℕ) (before : List MutexNo) (k m : ℕ) → length front ≡ k → length before ≡ m → front ++ threads_named ts ≡ threads → before ++ mutexes_named ts ≡ mutexes → InOrder k m (map (turn names) ts)
  in_order [] front before k m e f g h = tt
  in_order ((t, fresh.None) ∷ ts) front before k m e f g h = (tt, in_order ts front before (k + 0) (m + 0) (omega (arith, e)) (omega (arith, f)) g h)
  in_order ((t, fresh.Thread u) ∷ ts) front before k m e f g h =
      let here : place_in (front ++ u ∷ threads_named ts) u ≤ length front = place_at front u (threads_named ts) in
      let there : place_in threads u ≤ k = rw g at (rw e at here) in
      (there, in_order ts (front ++ u ∷ []) before (k + 1) (m + 0) (length-append front (u ∷ []) ∙ ap (λ x. x + 1) e) (omega (arith, f)) (append_assoc front (u ∷ []) (threads_named ts) ∙ g) h)
  in_order ((t, fresh.Threads u v) ∷ ts) front before k m e f g h =
      let here : place_in (front ++ u ∷ v ∷ threads_named ts) u ≤ length front = place_at front u (v ∷ threads_named ts) in
      let one : place_in threads u ≤ k = rw g at (rw e at here) in
      let next : place_in ((front ++ u ∷ []) ++ v ∷ threads_named ts) v ≤ length (front ++ u ∷ []) = place_at (front ++ u ∷ []) v (threads_named ts) in
      let join : (front ++ u ∷ []) ++ v ∷ threads_named ts ≡ threads = append_assoc front (u ∷ []) (v ∷ threads_named ts) ∙ g in
      let moved : place_in threads v ≤ length (front ++ u ∷ []) = rw join at next in
      let other : place_in threads v ≤ suc k = omega (arith, moved, length-append front (u ∷ []), e) in
      ((one, other), in_order ts (front ++ u ∷ v ∷ []) before (k + 2) (m + 0) (length-append front (u ∷ v ∷ []) ∙ ap (λ x. x + 2) e) (omega (arith, f)) (append_assoc front (u ∷ v ∷ []) (threads_named ts) ∙ g) h)
  in_order ((t, fresh.Mutex u) ∷ ts) front before k m e f g h =
      let here : IsUpTo (length before) (number_in (before ++ u ∷ mutexes_named ts) u) = number_at before u (mutexes_named ts) in
      let there : IsUpTo m (number_in mutexes u) = rw h at (rw f at here) in
      (there, in_order ts front (before ++ u ∷ []) (k + 0) (m + 1) (omega (arith, e)) (length-append before (u ∷ []) ∙ ap (λ x. x + 1) f) g (append_assoc before (u ∷ []) (mutexes_named ts) ∙ h))

pub numbered_in_order : (order : List Turn) → InOrder 1 0 (map (turn (numbered order)) order)
numbered_in_order order = in_order (0 ∷ threads_named order) (mutexes_named order) order (0 ∷ []) [] 1 0 refl refl refl refl
