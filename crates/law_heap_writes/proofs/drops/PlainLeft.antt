-- How many threads aren't over, whatever their places are: a drop takes one of these with each result that goes, as it takes a mutex with each last share.
use Rattle.std.proofs.Common.{◌≡◌, ◌≢◌, ◌∙◌, ℕ, ◌+◌, ◌<◌, ◌≤◌, Bool, true, false, List, [], ◌∷◌, length, Option, Some, None, refl, sym, ap, arith}
use Rattle.std.specs.Prelude.{◌==◌, if◌then◌else◌}
use Rattle.law_words_writes.proofs.Below.law_results_reads.Below.fr_typing.PlaceLemmas.{eq_cases}
use Rattle.law_words_writes.specs.Below.law_results_reads.Below.fr_plain.MachineThreads.{Life, alive, over, owing, loose, ended, Thread, Mutex, Shared, thread_at, with_thread, count_both}
use Rattle.law_heap_steps.proofs.Below.law_plain_values.drops.Left.{one_there, mutexes_left}

module _ {P : Type 0} where
  -- one, but nothing for what is over
  abbrev pub unless_over : Life P → ℕ
  unless_over (alive p) = 1
  unless_over over = 0
  unless_over (owing p) = 1
  unless_over (loose p) = 1
  unless_over (ended v) = 1

  abbrev pub threads_left : List (Thread P) → ℕ
  threads_left [] = 0
  threads_left (t ∷ ts) = unless_over t.life + threads_left ts

  -- THREADS

  -- a thread with another life
  pub thread_falls : (ts : List (Thread P)) (n : ℕ) (x new : Thread P) → new.number ≡ n → thread_at ts n ≡ Some x → threads_left (with_thread ts new) + unless_over x.life ≡ threads_left ts + unless_over new.life
  thread_falls [] n x new same found = cc
  thread_falls (z ∷ ts) n x new same found =
      by (λ g. thread_falls ts n x new same g) (eq_cases (λ b. (b ≡ true → (z.number == new.number) ≡ true) × (b ≡ false → (z.number == new.number) ≡ false)) z.number n (λ e. ((λ _. number e), (λ f. cc))) (λ ne. ((λ f. cc), (λ _. other ne)))) (z.number == n) refl found
    where
      number : z.number ≡ n → (z.number == new.number) ≡ true
      number e = eq_cases (λ b. b ≡ true) z.number new.number (λ _. refl) (λ ne. absurd (ne (e ∙ sym same)))

      other : z.number ≢ n → (z.number == new.number) ≡ false
      other ne = eq_cases (λ b. b ≡ false) z.number new.number (λ e. absurd (ne (e ∙ same))) (λ _. refl)

      by : (thread_at ts n ≡ Some x → threads_left (with_thread ts new) + unless_over x.life ≡ threads_left ts + unless_over new.life) → ((z.number == n) ≡ true → (z.number == new.number) ≡ true) × ((z.number == n) ≡ false → (z.number == new.number) ≡ false) → (b : Bool) → (z.number == n) ≡ b → (if z.number == n then Some z else thread_at ts n) ≡ Some x
          → threads_left (if z.number == new.number then new ∷ ts else z ∷ with_thread ts new) + unless_over x.life ≡ unless_over z.life + threads_left ts + unless_over new.life
      by go h true e f =
          let g : Some z ≡ Some x = sym (ap (λ b. if b then Some z else thread_at ts n) e) ∙ f in
          let is : z ≡ x = cc in
          let k = ap (λ b. threads_left (if b then new ∷ ts else z ∷ with_thread ts new)) (h.0 e) in
          let l = ap (λ (w : Thread P). unless_over w.life) is in
          omega (arith, k, l)
      by go h false e f =
          let g : thread_at ts n ≡ Some x = sym (ap (λ b. if b then Some z else thread_at ts n) e) ∙ f in
          let k = ap (λ b. threads_left (if b then new ∷ ts else z ∷ with_thread ts new)) (h.1 e) in
          let rest = go g in
          omega (arith, k, rest)

  -- a thread that isn't over is one of them
  pub thread_there : (ts : List (Thread P)) (n : ℕ) (x : Thread P) → thread_at ts n ≡ Some x → unless_over x.life ≡ 1 → 0 < threads_left ts
  thread_there [] n x found is = cc
  thread_there (z ∷ ts) n x found is = by (λ g. thread_there ts n x g is) (z.number == n) refl
    where
      by : (thread_at ts n ≡ Some x → 0 < threads_left ts) → (b : Bool) → (z.number == n) ≡ b → 0 < unless_over z.life + threads_left ts
      by go true e = let g : Some z ≡ Some x = sym (ap (λ b. if b then Some z else thread_at ts n) e) ∙ found in let same : z ≡ x = cc in let l = ap (λ (w : Thread P). unless_over w.life) same in omega (arith, l, is)
      by go false e = let rest = go (sym (ap (λ b. if b then Some z else thread_at ts n) e) ∙ found) in omega (arith, rest)

  -- ALL OF THEM

  some_threads : (ts : List (Thread P)) → threads_left ts ≤ length ts
  some_threads [] = omega arith
  some_threads (t ∷ ts) = let rest = some_threads ts in let k = at_most t.life in omega (arith, rest, k)
    where
      at_most : (l : Life P) → unless_over l ≤ 1
      at_most (alive p) = omega arith
      at_most over = omega arith
      at_most (owing p) = omega arith
      at_most (loose p) = omega arith
      at_most (ended v) = omega arith

  pub left_bounded : (ms : List Mutex) (ts : List (Thread P)) → mutexes_left ms + threads_left ts ≤ count_both ms ts
  left_bounded [] ts = let rest = some_threads ts in omega (arith, rest)
  left_bounded (m ∷ ms) ts = let rest = left_bounded ms ts in let k = at_most m.there in omega (arith, rest, k)
    where
      at_most : (o : Option Shared) → one_there o ≤ 1
      at_most None = omega arith
      at_most (Some x) = omega arith
