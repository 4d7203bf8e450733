-- How many threads aren't over and how many mutexes are there: what a drop takes one of with each task that it joins and each last share.
use Rattle.std.proofs.Common.{◌≡◌, ◌≢◌, ◌∙◌, ℕ, ◌+◌, ◌<◌, ◌≤◌, Bool, true, false, List, [], ◌∷◌, length, Option, Some, None, refl, sym, ap, arith}
use Rattle.std.specs.Prelude.{◌==◌, if◌then◌else◌}
use Rattle.fr_base.specs.declared.name.MutexNo.{MutexNo}
use Rattle.fr_typing.proofs.PlaceLemmas.{eq_cases}
use Rattle.fr_plain.specs.MachineThreads.{Life, alive, over, owing, loose, ended, Thread, Mutex, Shared, mutex_at, mutex_there, with_mutex, thread_at, with_thread, count_both}
use Rattle.law_plain_values.specs.acts.Positions.{Position}
use Rattle.law_plain_values.proofs.acts.Mutexes.{mutex_cases}

-- one, but nothing for what is over
abbrev pub unless_over : Life Position → ℕ
unless_over (alive p) = 1
unless_over over = 0
unless_over (owing p) = 1
unless_over (loose p) = 1
unless_over (ended v) = 1

abbrev pub threads_left : List (Thread Position) → ℕ
threads_left [] = 0
threads_left (t ∷ ts) = unless_over t.life + threads_left ts

abbrev pub one_there : Option Shared → ℕ
one_there None = 0
one_there (Some x) = 1

abbrev pub mutexes_left : List Mutex → ℕ
mutexes_left [] = 0
mutexes_left (m ∷ ms) = one_there m.there + mutexes_left ms

-- THREADS

-- a thread with another life
pub thread_falls : (ts : List (Thread Position)) (n : ℕ) (x new : Thread Position) → new.number ≡ n → thread_at ts n ≡ Some x → threads_left (with_thread ts new) + unless_over x.life ≡ threads_left ts + unless_over new.life
thread_falls [] n x new same found = cc
thread_falls (z ∷ ts) n x new same found =
    by (λ g. thread_falls ts n x new same g) (eq_cases (λ b. (b ≡ true → (z.number == new.number) ≡ true) × (b ≡ false → (z.number == new.number) ≡ false)) z.number n (λ e. ((λ _. number e), (λ f. cc))) (λ ne. ((λ f. cc), (λ _. other ne)))) (z.number == n) refl found
  where
    number : z.number ≡ n → (z.number == new.number) ≡ true
    number e = eq_cases (λ b. b ≡ true) z.number new.number (λ _. refl) (λ ne. absurd (ne (e ∙ sym same)))

    other : z.number ≢ n → (z.number == new.number) ≡ false
    other ne = eq_cases (λ b. b ≡ false) z.number new.number (λ e. absurd (ne (e ∙ same))) (λ _. refl)

    by : (thread_at ts n ≡ Some x → threads_left (with_thread ts new) + unless_over x.life ≡ threads_left ts + unless_over new.life) → ((z.number == n) ≡ true → (z.number == new.number) ≡ true) × ((z.number == n) ≡ false → (z.number == new.number) ≡ false) → (b : Bool) → (z.number == n) ≡ b → (if z.number == n then Some z else thread_at ts n) ≡ Some x
        → threads_left (if z.number == new.number then new ∷ ts else z ∷ with_thread ts new) + unless_over x.life ≡ unless_over z.life + threads_left ts + unless_over new.life
    by go h true e f =
        let g : Some z ≡ Some x = sym (ap (λ b. if b then Some z else thread_at ts n) e) ∙ f in
        let is : z ≡ x = cc in
        let k = ap (λ b. threads_left (if b then new ∷ ts else z ∷ with_thread ts new)) (h.0 e) in
        let l = ap (λ (w : Thread Position). unless_over w.life) is in
        omega (arith, k, l)
    by go h false e f =
        let g : thread_at ts n ≡ Some x = sym (ap (λ b. if b then Some z else thread_at ts n) e) ∙ f in
        let k = ap (λ b. threads_left (if b then new ∷ ts else z ∷ with_thread ts new)) (h.1 e) in
        let rest = go g in
        omega (arith, k, rest)

-- a thread that isn't over is one of them
pub thread_there : (ts : List (Thread Position)) (n : ℕ) (x : Thread Position) → thread_at ts n ≡ Some x → unless_over x.life ≡ 1 → 0 < threads_left ts
thread_there [] n x found is = cc
thread_there (z ∷ ts) n x found is = by (λ g. thread_there ts n x g is) (z.number == n) refl
  where
    by : (thread_at ts n ≡ Some x → 0 < threads_left ts) → (b : Bool) → (z.number == n) ≡ b → 0 < unless_over z.life + threads_left ts
    by go true e = let g : Some z ≡ Some x = sym (ap (λ b. if b then Some z else thread_at ts n) e) ∙ found in let same : z ≡ x = cc in let l = ap (λ (w : Thread Position). unless_over w.life) same in omega (arith, l, is)
    by go false e = let rest = go (sym (ap (λ b. if b then Some z else thread_at ts n) e) ∙ found) in omega (arith, rest)

-- MUTEXES

abbrev there_by : Option Mutex → Option Shared
there_by None = None
there_by (Some x) = x.there

there_is : (o : Option Mutex) (ms : List Mutex) (n : MutexNo) → mutex_at ms n ≡ o → mutex_there ms n ≡ there_by o
there_is None ms n e = rw e refl
there_is (Some m) ms n e = rw e refl

pub mutex_falls : (ms : List Mutex) (n : MutexNo) (x : Shared) (new : Option Shared) → mutex_there ms n ≡ Some x → mutexes_left (with_mutex ms n new) + 1 ≡ mutexes_left ms + one_there new
mutex_falls [] n x new found = cc
mutex_falls (m ∷ ms) n x new found =
    mutex_cases (λ b. there_by (if b then Some m else mutex_at ms n) ≡ Some x → mutexes_left (if b then record m { there = new } ∷ ms else m ∷ with_mutex ms n new) + 1 ≡ one_there m.there + mutexes_left ms + one_there new) m.number n
    (λ e f. let k = ap one_there f in omega (arith, k)) (λ ne f. let rest = mutex_falls ms n x new (there_is (mutex_at ms n) ms n refl ∙ f) in omega (arith, rest)) (sym (there_is (mutex_at (m ∷ ms) n) (m ∷ ms) n refl) ∙ found)

pub mutex_here : (ms : List Mutex) (n : MutexNo) (x : Shared) → mutex_there ms n ≡ Some x → 0 < mutexes_left ms
mutex_here ms n x found = let f = mutex_falls ms n x None found in omega (arith, f)

-- ALL OF THEM

some_threads : (ts : List (Thread Position)) → threads_left ts ≤ length ts
some_threads [] = omega arith
some_threads (t ∷ ts) = let rest = some_threads ts in let k = at_most t.life in omega (arith, rest, k)
  where
    at_most : (l : Life Position) → unless_over l ≤ 1
    at_most (alive p) = omega arith
    at_most over = omega arith
    at_most (owing p) = omega arith
    at_most (loose p) = omega arith
    at_most (ended v) = omega arith

pub left_bounded : (ms : List Mutex) (ts : List (Thread Position)) → mutexes_left ms + threads_left ts ≤ count_both ms ts
left_bounded [] ts = let rest = some_threads ts in omega (arith, rest)
left_bounded (m ∷ ms) ts = let rest = left_bounded ms ts in let k = at_most m.there in omega (arith, rest, k)
  where
    at_most : (o : Option Shared) → one_there o ≤ 1
    at_most None = omega arith
    at_most (Some x) = omega arith
