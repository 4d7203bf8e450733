-- Which element of a list weighs something, and threads of one number.
use Rattle.std.proofs.Common.{◌≡◌, inl, inr, ℕ, zero, suc, ◌+◌, ◌≤◌, ◌==◌, ◌&&◌, Bool, true, false, if◌then◌else◌, List, [], ◌∷◌, Some, refl, subst, arith}
use Rattle.law_runs_coherent.proofs.Below.fr_typing.PlaceLemmas.{eq_cases}
use Rattle.law_runs_coherent.specs.Below.thread_state.View.{ThreadState}
use Rattle.law_runs_coherent.specs.Below.thread_state.declared.phase.Phase.{Phase}
use Rattle.law_runs_coherent.specs.Below.server_model.Work.{thread_in}
use Rattle.law_runs_coherent.specs.Below.server_model.Events.{has_phase}
use Rattle.law_runs_coherent.specs.Below.coherent_memory.Names.{tot, one, Among}
use Rattle.law_runs_coherent.specs.Below.coherent_memory.Things.{Thing, stands, things_at, standing_things, thread_things}
use Rattle.law_runs_coherent.specs.Below.coherent_memory.Follow.{threads_in, thread_at}
use Rattle.law_runs_coherent.specs.Below.coherent_memory.Weights.{is_thread}
use Rattle.law_runs_coherent.specs.Below.coherent_memory.Requests.{in_phase}
use Rattle.law_runs_coherent.proofs.Below.coherent_memory.Sums.{tot-append}
use Rattle.law_runs_coherent.proofs.Below.law_counts_sums.Unseen.{Unseen, thread_alone}

-- what stands in a list weighs no more than the list
pub weighs : {A : Type 0} (f : A → ℕ) (x : A) (xs : List A) → Among x xs → f x ≤ tot f xs
weighs f x [] h = absurd h
weighs f x (y ∷ ys) (inl q) = subst (λ z. f z ≤ f y + tot f ys) q (omega arith)
weighs f x (y ∷ ys) (inr h) = omega (arith, weighs f x ys h)

-- one that weighs something
pub record Weighing {A : Type 0} (f : A → ℕ) (xs : List A) : Type 0 where
  pub item : A
  pub there : Among item xs
  pub weight : 1 ≤ f item

pub some_weighs : {A : Type 0} (f : A → ℕ) (xs : List A) → 1 ≤ tot f xs → Weighing f xs
some_weighs f [] l = absurd (omega (arith, l))
some_weighs {A} f (x ∷ xs) l = by (f x) refl (some_weighs f xs)
  where
    by : (n : ℕ) → f x ≡ n → (1 ≤ tot f xs → Weighing f xs) → Weighing f (x ∷ xs)
    by zero e go = let w = go (omega (arith, l, e)) in record { item = w.item; there = inr w.there; weight = w.weight }
    by (suc n) e go = record { item = x; there = inl refl; weight = omega (arith, e) }

-- PHASES OF THREADS

-- the thread of that number in such a phase
abbrev pub in_such : (Phase → Bool) → ℕ → Thing → ℕ
in_such f t (stands r p x) = one (x.number == t && f x.phase)
in_such f t x = 0

pub truly : (b : Bool) → 1 ≤ one b → b ≡ true
truly true l = refl
truly false l = absurd (omega (arith, l))

module _ (t : ℕ) where
  at_most_one : (f g : Phase → Bool) → ((p : Phase) → f p ≡ true → g p ≡ true → ⊥) → (x : Thing) → in_such f t x + in_such g t x ≤ is_thread t x
  at_most_one f g apart (stands r p x) = by (x.number == t) (f x.phase) (g x.phase) (apart x.phase)
    where
      by : (a b c : Bool) → (b ≡ true → c ≡ true → ⊥) → one (a && b) + one (a && c) ≤ one a
      by false b c d = omega arith
      by true false true d = omega arith
      by true false false d = omega arith
      by true true false d = omega arith
      by true true true d = absurd (d refl refl)
  at_most_one f g apart _ = omega arith

  both_most : (f g : Phase → Bool) → ((p : Phase) → f p ≡ true → g p ≡ true → ⊥) → (b : List Thing) → tot (in_such f t) b + tot (in_such g t) b ≤ tot (is_thread t) b
  both_most f g apart [] = omega arith
  both_most f g apart (x ∷ b) = omega (arith, at_most_one f g apart x, both_most f g apart b)

  -- one thread isn't in two phases
  pub not_both : (f g : Phase → Bool) → ((p : Phase) → f p ≡ true → g p ≡ true → ⊥) → (b : List Thing) → tot (is_thread t) b ≤ 1 → 1 ≤ tot (in_such f t) b → 1 ≤ tot (in_such g t) b → ⊥
  not_both f g apart b few l m = omega (arith, both_most f g apart b, few, l, m)

  module _ (f : Phase → Bool) where
    -- a found thread in such a phase weighs one
    pub counted : (b : List Thing) → in_phase f (thread_at (threads_in b) t) ≡ true → 1 ≤ tot (in_such f t) b
    counted [] e = absurd (cc e)
    counted (stands r p x ∷ b) e =
        eq_cases (λ c. in_phase f (if c then Some (record { server = r; packed = p; thread = x }) else thread_at (threads_in b) t) ≡ true → 1 ≤ one (c && f x.phase) + tot (in_such f t) b) x.number t
        (λ same g. let w : one (f x.phase) ≡ 1 = by (f x.phase) g in omega (arith, w)) (λ ne g. let w = counted b g in omega (arith, w)) e
      where
        by : (c : Bool) → c ≡ true → one c ≡ 1
        by true q = refl
        by false q = absurd (cc q)
    counted (_ ∷ b) e = omega (arith, counted b e)

    unseen : (n : ℕ) → Unseen (in_such f t) n
    unseen n = record { held = λ p v. refl; shared = λ l r. refl; borrowed = λ l r. refl; locked = λ l m. refl; live = λ a c. refl; free = λ a m. refl; old = λ a. refl; copy = λ s c. refl; used = λ s w. refl }

    fewer_each : (x : Thing) → in_such f t x ≤ is_thread t x
    fewer_each (stands r p x) = by (x.number == t) (f x.phase)
      where
        by : (a b : Bool) → one (a && b) ≤ one a
        by true true = omega arith
        by true false = omega arith
        by false b = omega arith
    fewer_each _ = omega arith

    fewer : (b : List Thing) → tot (in_such f t) b ≤ tot (is_thread t) b
    fewer [] = omega arith
    fewer (x ∷ b) = omega (arith, fewer_each x, fewer b)

    -- one that stands among others is found in its phase
    pub found : (n i : ℕ) (ts : List ThreadState) → 1 ≤ tot (in_such f t) (things_at (standing_things n) i ts) → tot (is_thread t) (things_at (standing_things n) i ts) ≤ 1 → has_phase f (thread_in ts t) ≡ true
    found n i [] l m = absurd (omega (arith, l))
    found n i (x ∷ ts) l m =
        let rest = things_at (standing_things n) (i + 1) ts in
        let a = tot-append (in_such f t) (thread_things n false x) rest in
        let b = tot-append (is_thread t) (thread_things n false x) rest in
        let alone = thread_alone (in_such f t) n (unseen n) n false x in
        let mine : is_thread t (stands n false x) ≤ tot (is_thread t) (thread_things n false x) = omega arith in
        eq_cases (λ c. one (x.number == t) ≡ one c → in_such f t (stands n false x) ≡ one (c && f x.phase) → has_phase f (if c then Some x else thread_in ts t) ≡ true) x.number t
        (λ same q w. truly (f x.phase) (omega (arith, l, m, a, b, alone, mine, q, w, fewer rest)))
        (λ ne q w. found n (i + 1) ts (omega (arith, l, a, alone, w)) (omega (arith, m, b))) refl refl
