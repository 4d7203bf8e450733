-- What is found first is told by sums, where at most one thing shows it.
use Rattle.std.proofs.Common.{◌≡◌, inl, inr, ℕ, suc, ◌+◌, ◌≤◌, ◌==◌, ◌||◌, Bool, true, false, if◌then◌else◌, List, [], ◌∷◌, Option, Some, None, refl, sym, ap, ap₂, ◌∙◌, subst, arith}
use Rattle.law_counts_sums.proofs.Below.fr_typing.PlaceLemmas.{eq_cases}
use Rattle.law_counts_sums.specs.Below.coherent_memory.Names.{tot, one, if_so, some, Among}
use Rattle.law_counts_sums.specs.Below.coherent_memory.Things.{Thing, stands}
use Rattle.law_counts_sums.specs.Below.coherent_memory.Follow.{Standing, threads_in, thread_at}
use Rattle.law_counts_sums.specs.Below.coherent_memory.Weights.{is_thread}
use Rattle.law_counts_sums.specs.Below.coherent_memory.OneHeap.{or_else, first_shown}
use Rattle.law_heap_still.proofs.events.Tests.{IsTest}

pub tot_same : {A : Type 0} (f g : A → ℕ) → ((x : A) → f x ≡ g x) → (b : List A) → tot f b ≡ tot g b
tot_same f g e [] = refl
tot_same f g e (x ∷ b) = ap₂ (λ m n. m + n) (e x) (tot_same f g e b)

pub at_most : (f g : Thing → ℕ) → ((x : Thing) → f x ≤ g x) → (b : List Thing) → tot f b ≤ tot g b
at_most f g e [] = omega arith
at_most f g e (x ∷ b) = omega (arith, e x, at_most f g e b)

-- the same but for what isn't there
pub tot_but : (none f g : Thing → ℕ) → ((x : Thing) → none x ≡ 0 → f x ≡ g x) → (b : List Thing) → tot none b ≡ 0 → tot f b ≡ tot g b
tot_but none f g e [] z = refl
tot_but none f g e (x ∷ b) z = ap₂ (λ m n. m + n) (e x (omega (arith, z))) (tot_but none f g e b (omega (arith, z)))

-- the weight of what is there
abbrev pub told : {A : Type 0} → (A → ℕ) → Option A → ℕ
told g None = 0
told g (Some x) = g x

abbrev pub ones : {A : Type 0} → A → ℕ
ones x = 1

-- what has the same weights is the same
pub same_told : {A : Type 0} (same : A → A → Bool) → IsTest same → (o p : Option A) → ((g : A → ℕ) → told g o ≡ told g p) → o ≡ p
same_told same test None None e = refl
same_told same test None (Some y) e = absurd (cc (e (λ z. 1)))
same_told same test (Some x) None e = absurd (cc (e (λ z. 1)))
same_told same test (Some x) (Some y) e =
    let one_of : one (same x y) ≡ 1 = sym (e (λ z. one (same x z))) ∙ ap one (test.itself x) in
    ap (λ z. Some z) (test.tells x y (truly (same x y) one_of))
  where
    truly : (b : Bool) → one b ≡ 1 → b ≡ true
    truly true z = refl
    truly false z = absurd (cc z)

module _ {A : Type 0} (f : Thing → Option A) (g : A → ℕ) where
  none_told : (b : List Thing) → tot (λ x. told ones (f x)) b ≡ 0 → tot (λ x. told g (f x)) b ≡ 0
  none_told [] z = refl
  none_told (x ∷ b) z = by (f x) (omega (arith, z)) (none_told b (omega (arith, z)))
    where
      by : (o : Option A) → told ones o ≡ 0 → tot (λ x. told g (f x)) b ≡ 0 → told g o + tot (λ x. told g (f x)) b ≡ 0
      by None z e = omega (arith, e)
      by (Some v) z e = absurd (cc z)

  -- the first that is shown, where it is the only one
  pub first_told : (b : List Thing) → tot (λ x. told ones (f x)) b ≤ 1 → tot (λ x. told g (f x)) b ≡ told g (first_shown f b)
  first_told [] l = refl
  first_told (x ∷ b) l = by (f x) l (first_told b)
    where
      by : (o : Option A) → told ones o + tot (λ x. told ones (f x)) b ≤ 1 → (tot (λ x. told ones (f x)) b ≤ 1 → tot (λ x. told g (f x)) b ≡ told g (first_shown f b))
          → told g o + tot (λ x. told g (f x)) b ≡ told g (or_else o (first_shown f b))
      by None l go = omega (arith, go (omega (arith, l)))
      by (Some v) l go = omega (arith, none_told b (omega (arith, l)))

-- a thread that is found by its number
abbrev pub at_thread : (Standing → ℕ) → ℕ → Thing → ℕ
at_thread g t (stands r p x) = if_so (x.number == t) (g (record { server = r; packed = p; thread = x }))
at_thread g t x = 0

module _ (g : Standing → ℕ) (t : ℕ) where
  none_stands : (b : List Thing) → tot (is_thread t) b ≡ 0 → tot (at_thread g t) b ≡ 0
  none_stands [] z = refl
  none_stands (stands r p x ∷ b) z =
      let y : Standing = record { server = r; packed = p; thread = x } in
      eq_cases (λ q. one q + tot (is_thread t) b ≡ 0 → if_so q (g y) + tot (at_thread g t) b ≡ 0) x.number t (λ e w. absurd (omega (arith, w))) (λ n w. omega (arith, none_stands b (omega (arith, w)))) z
  none_stands (_ ∷ b) z = omega (arith, none_stands b (omega (arith, z)))

  pub thread_told : (b : List Thing) → tot (is_thread t) b ≤ 1 → tot (at_thread g t) b ≡ told g (thread_at (threads_in b) t)
  thread_told [] l = refl
  thread_told (stands r p x ∷ b) l =
      let y : Standing = record { server = r; packed = p; thread = x } in
      eq_cases (λ q. one q + tot (is_thread t) b ≤ 1 → if_so q (g y) + tot (at_thread g t) b ≡ told g (if q then Some y else thread_at (threads_in b) t)) x.number t
      (λ e w. omega (arith, none_stands b (omega (arith, w)))) (λ n w. omega (arith, thread_told b (omega (arith, w)))) l
  thread_told (_ ∷ b) l = omega (arith, thread_told b (omega (arith, l)))

-- some sum isn't zero
pub some_or : (q : Bool) (m : ℕ) → some (one q + m) ≡ (q || some m)
some_or true m = let e : 1 + m ≡ suc m = omega arith in ap some e
some_or false m = ap some (omega arith)

-- THREADS THAT ARE FOUND

counted : (x : Standing) (b : List Thing) → Among x (threads_in b) → 1 ≤ tot (is_thread x.thread.number) b
counted x [] h = absurd h
counted x (stands s p t ∷ b) (inl e) =
    let mine : 1 ≤ one (t.number == x.thread.number) = subst (λ (y : Standing). 1 ≤ one (t.number == y.thread.number)) e (eq_cases (λ q. 1 ≤ one q) t.number t.number (λ q. omega arith) (λ n. absurd (n refl))) in
    omega (arith, mine)
counted x (stands s p t ∷ b) (inr h) = omega (arith, counted x b h)
counted x (_ ∷ b) h = omega (arith, counted x b h)

-- a thread that stands somewhere is found by its number
pub found : (x : Standing) (b : List Thing) → tot (is_thread x.thread.number) b ≤ 1 → Among x (threads_in b) → thread_at (threads_in b) x.thread.number ≡ Some x
found x [] l h = absurd h
found x (stands s p t ∷ b) l (inl e) =
    subst (λ (y : Standing). thread_at (threads_in (stands s p t ∷ b)) y.thread.number ≡ Some y) e
    (eq_cases (λ q. (if q then Some (record { server = s; packed = p; thread = t }) else thread_at (threads_in b) t.number) ≡ Some (record { server = s; packed = p; thread = t })) t.number t.number (λ q. refl) (λ n. absurd (n refl)))
found x (stands s p t ∷ b) l (inr h) =
    let more : 1 ≤ tot (is_thread x.thread.number) b = counted x b h in
    eq_cases (λ q. one q + tot (is_thread x.thread.number) b ≤ 1 → (if q then Some (record { server = s; packed = p; thread = t }) else thread_at (threads_in b) x.thread.number) ≡ Some x) t.number x.thread.number
    (λ q m. absurd (omega (arith, m, more))) (λ n m. found x b (omega (arith, m)) h) l
found x (_ ∷ b) l h = found x b (omega (arith, l)) h
