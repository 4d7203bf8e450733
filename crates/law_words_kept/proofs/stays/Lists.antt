-- Lists out of which one item was taken, or into which one was put, and what words see of their things.
use Rattle.std.proofs.Common.{◌≡◌, ℕ, zero, suc, ◌+◌, ◌==◌, Bool, true, false, if◌then◌else◌, List, [], ◌∷◌, ◌++◌, Some, sym, subst}
use Rattle.std.specs.Prelude.{slice_get, remove, nat_lt}
use Rattle.law_counts_sums.specs.Below.fr_base.declared.instruction.Instr.{Instr}
use Rattle.law_counts_sums.specs.Below.fr_base.declared.name.MutexNo.{MutexNo}
use Rattle.law_counts_sums.specs.Below.thread_state.View.{ThreadState}
use Rattle.law_counts_sums.specs.Below.mutex_home.Mutexes.{Mutex, mutex_in, with_mutex, without_mutex}
use Rattle.law_counts_sums.specs.Below.join_home.Tasks.{Task, TaskState, task_in, with_state, without_task}
use Rattle.law_counts_sums.specs.Below.server_model.Work.{thread_in, set_thread, without_thread, with_thread}
use Rattle.law_counts_sums.specs.Below.coherent_memory.Names.{same_mutex}
use Rattle.law_counts_sums.specs.Below.coherent_memory.Things.{Thing, things_at}
use Rattle.law_words_paths.proofs.paths.Sole.{some_is}
use Rattle.law_words_kept.proofs.stays.Alike.{Alike, itself, chain, beside, in_front}

-- the item was taken out of the first list, and the second one is left
pub data Taken {A : Type 0} : List A → A → List A → Type 0 where
  first : (x : A) (xs : List A) → Taken (x ∷ xs) x xs
  later : (z : A) {xs ys : List A} {x : A} → Taken xs x ys → Taken (z ∷ xs) x (z ∷ ys)

module _ {A : Type 0} where
  pub at_place : (xs : List A) (i : ℕ) (x : A) → slice_get xs i ≡ Some x → Taken xs x (remove xs i)
  at_place [] i x e = absurd cc
  at_place (z ∷ xs) zero x e = subst (λ y. Taken (z ∷ xs) y xs) (some_is e) (first z xs)
  at_place (z ∷ xs) (suc i) x e = later z (at_place xs i x e)

  pub at_end : (xs : List A) (x : A) → Taken (xs ++ x ∷ []) x xs
  at_end [] x = first x []
  at_end (z ∷ xs) x = later z (at_end xs x)

-- THREADS

pub thread_taken : (xs : List ThreadState) (t : ℕ) (x : ThreadState) → thread_in xs t ≡ Some x → Taken xs x (without_thread xs t)
thread_taken [] t x e = absurd cc
thread_taken (z ∷ xs) t x e = by (z.number == t) e (λ f. thread_taken xs t x f)
  where
    by : (b : Bool) → (if b then Some z else thread_in xs t) ≡ Some x → (thread_in xs t ≡ Some x → Taken xs x (without_thread xs t)) → Taken (z ∷ xs) x (if b then xs else z ∷ without_thread xs t)
    by true f go = subst (λ y. Taken (z ∷ xs) y xs) (some_is f) (first z xs)
    by false f go = later z (go f)

pub thread_set : (xs : List ThreadState) (t : ℕ) (x y : ThreadState) → thread_in xs t ≡ Some x → y.number ≡ t → Taken (set_thread xs y) y (without_thread xs t)
thread_set [] t x y e n = absurd cc
thread_set (z ∷ xs) t x y e n = subst (λ m. Taken (if z.number == m then y ∷ xs else z ∷ set_thread xs y) y (if z.number == t then xs else z ∷ without_thread xs t)) (sym n) (by (z.number == t) e (λ f. thread_set xs t x y f n))
  where
    by : (b : Bool) → (if b then Some z else thread_in xs t) ≡ Some x → (thread_in xs t ≡ Some x → Taken (set_thread xs y) y (without_thread xs t)) → Taken (if b then y ∷ xs else z ∷ set_thread xs y) y (if b then xs else z ∷ without_thread xs t)
    by true f go = first y xs
    by false f go = later z (go f)

pub thread_comes : (xs : List ThreadState) (y : ThreadState) → Taken (with_thread xs y) y xs
thread_comes [] y = first y []
thread_comes (z ∷ xs) y = by (nat_lt y.number z.number) (thread_comes xs y)
  where
    by : (b : Bool) → Taken (with_thread xs y) y xs → Taken (if b then y ∷ z ∷ xs else z ∷ with_thread xs y) y (z ∷ xs)
    by true go = first y (z ∷ xs)
    by false go = later z go

-- MUTEXES

pub mutex_taken : (xs : List Mutex) (m : MutexNo) (x : Mutex) → mutex_in xs m ≡ Some x → Taken xs x (without_mutex xs m)
mutex_taken [] m x e = absurd cc
mutex_taken (z ∷ xs) m x e = by (same_mutex z.number m) e (λ f. mutex_taken xs m x f)
  where
    by : (b : Bool) → (if b then Some z else mutex_in xs m) ≡ Some x → (mutex_in xs m ≡ Some x → Taken xs x (without_mutex xs m)) → Taken (z ∷ xs) x (if b then xs else z ∷ without_mutex xs m)
    by true f go = subst (λ y. Taken (z ∷ xs) y xs) (some_is f) (first z xs)
    by false f go = later z (go f)

pub mutex_set : (xs : List Mutex) (m : MutexNo) (x y : Mutex) → mutex_in xs m ≡ Some x → y.number ≡ m → Taken (with_mutex xs y) y (without_mutex xs m)
mutex_set [] m x y e n = absurd cc
mutex_set (z ∷ xs) m x y e n = subst (λ k. Taken (if same_mutex z.number k then y ∷ xs else z ∷ with_mutex xs y) y (if same_mutex z.number m then xs else z ∷ without_mutex xs m)) (sym n) (by (same_mutex z.number m) e (λ f. mutex_set xs m x y f n))
  where
    by : (b : Bool) → (if b then Some z else mutex_in xs m) ≡ Some x → (mutex_in xs m ≡ Some x → Taken (with_mutex xs y) y (without_mutex xs m)) → Taken (if b then y ∷ xs else z ∷ with_mutex xs y) y (if b then xs else z ∷ without_mutex xs m)
    by true f go = first y xs
    by false f go = later z (go f)

-- NOTES OF THREADS

pub task_taken : (xs : List Task) (t : ℕ) (x : Task) → task_in xs t ≡ Some x → Taken xs x (without_task xs t)
task_taken [] t x e = absurd cc
task_taken (z ∷ xs) t x e = by (z.thread == t) e (λ f. task_taken xs t x f)
  where
    by : (b : Bool) → (if b then Some z else task_in xs t) ≡ Some x → (task_in xs t ≡ Some x → Taken xs x (without_task xs t)) → Taken (z ∷ xs) x (if b then xs else z ∷ without_task xs t)
    by true f go = subst (λ y. Taken (z ∷ xs) y xs) (some_is f) (first z xs)
    by false f go = later z (go f)

pub task_set : (xs : List Task) (t : ℕ) (x : Task) (s : TaskState) → task_in xs t ≡ Some x → Taken (with_state xs t s) (record { thread = t; state = s }) (without_task xs t)
task_set [] t x s e = absurd cc
task_set (z ∷ xs) t x s e = by (z.thread == t) e (λ f. task_set xs t x s f)
  where
    by : (b : Bool) → (if b then Some z else task_in xs t) ≡ Some x → (task_in xs t ≡ Some x → Taken (with_state xs t s) (record { thread = t; state = s }) (without_task xs t))
        → Taken (if b then record { thread = t; state = s } ∷ xs else z ∷ with_state xs t s) (record { thread = t; state = s }) (if b then xs else z ∷ without_task xs t)
    by true f go = first (record { thread = t; state = s }) xs
    by false f go = later z (go f)

-- THEIR THINGS

module _ {A : Type 0} (g : A → List Thing) where
  abbrev pub all : ℕ → List A → List Thing
  all i xs = things_at (λ n x. g x) i xs

  pub shifted : {code : List Instr} (i j : ℕ) (xs : List A) → Alike code (all i xs) (all j xs)
  shifted i j [] = itself []
  shifted i j (x ∷ xs) = beside (itself (g x)) (shifted (i + 1) (j + 1) xs)

  pub taken_alike : {code : List Instr} {xs ys : List A} {x : A} (i j : ℕ) → Taken xs x ys → Alike code (all i xs) (g x ++ all j ys)
  taken_alike i j (first x xs) = beside (itself (g x)) (shifted (i + 1) j xs)
  taken_alike i j (later z {xs = xs} {ys = ys} {x = x} t) = chain (beside (itself (g z)) (taken_alike (i + 1) (j + 1) t)) (in_front (g z) (g x) (all (j + 1) ys))
