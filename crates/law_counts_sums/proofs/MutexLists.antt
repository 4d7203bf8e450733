-- What a list of mutexes trades: a mutex changes, comes or goes.
use Rattle.std.proofs.Common.{◌≡◌, ℕ, ◌+◌, Bool, true, false, if◌then◌else◌, List, [], ◌∷◌, Some, refl, sym, subst, ◌∙◌, arith}
use Rattle.coherent_memory.specs.Below.fr_base.declared.name.MutexNo.{MutexNo}
use Rattle.coherent_memory.specs.Below.fr_base.Names.{same_mutex}
use Rattle.coherent_memory.specs.Below.mutex_home.Mutexes.{Mutex, mutex_in, with_mutex, without_mutex}
use Rattle.coherent_memory.specs.Names.{tot}
use Rattle.coherent_memory.specs.Things.{Thing, things_at, mutex_things}
use Rattle.coherent_memory.proofs.Names.{same_mutexes}
use Rattle.law_counts_sums.proofs.Trades.{Trade, tot-front}

abbrev pub all_mutexes : ℕ → List Mutex → List Thing
all_mutexes s xs = things_at (mutex_things s) 0 xs

pub found_number : (xs : List Mutex) (m : MutexNo) (x : Mutex) → mutex_in xs m ≡ Some x → x.number ≡ m
found_number [] m x e = absurd (cc e)
found_number (y ∷ xs) m x e = either (same_mutex y.number m) refl e (found_number xs m x)
  where
    either : (b : Bool) → same_mutex y.number m ≡ b → (if b then Some y else mutex_in xs m) ≡ Some x → (mutex_in xs m ≡ Some x → x.number ≡ m) → x.number ≡ m
    either true t g go = let same : y ≡ x = cc in subst (λ (z : Mutex). z.number ≡ m) same (same_mutexes y.number m t)
    either false t g go = go g

module _ (f : Thing → ℕ) (s : ℕ) where
  front : (x : Mutex) (xs : List Mutex) → tot f (all_mutexes s (x ∷ xs)) ≡ tot f (mutex_things s 0 x) + tot f (all_mutexes s xs)
  front x xs = tot-front (mutex_things s 0) f 0 x xs

  tot-without : (xs : List Mutex) (m : MutexNo) (x : Mutex) → mutex_in xs m ≡ Some x → tot f (all_mutexes s xs) ≡ tot f (mutex_things s 0 x) + tot f (all_mutexes s (without_mutex xs m))
  tot-without [] m x e = absurd (cc e)
  tot-without (y ∷ xs) m x e = either (same_mutex y.number m) e (tot-without xs m x)
    where
      either : (b : Bool) → (if b then Some y else mutex_in xs m) ≡ Some x → (mutex_in xs m ≡ Some x → tot f (all_mutexes s xs) ≡ tot f (mutex_things s 0 x) + tot f (all_mutexes s (without_mutex xs m)))
          → tot f (all_mutexes s (y ∷ xs)) ≡ tot f (mutex_things s 0 x) + tot f (all_mutexes s (if b then xs else y ∷ without_mutex xs m))
      either true g go = let same : y ≡ x = cc in subst (λ z. tot f (all_mutexes s (y ∷ xs)) ≡ tot f (mutex_things s 0 z) + tot f (all_mutexes s xs)) same (front y xs)
      either false g go = omega (arith, go g, front y xs, front y (without_mutex xs m))

  tot-with : (xs : List Mutex) (x new : Mutex) → mutex_in xs new.number ≡ Some x → tot f (all_mutexes s (with_mutex xs new)) ≡ tot f (mutex_things s 0 new) + tot f (all_mutexes s (without_mutex xs new.number))
  tot-with [] x new e = absurd (cc e)
  tot-with (y ∷ xs) x new e = either (same_mutex y.number new.number) e (tot-with xs x new)
    where
      either : (b : Bool) → (if b then Some y else mutex_in xs new.number) ≡ Some x → (mutex_in xs new.number ≡ Some x → tot f (all_mutexes s (with_mutex xs new)) ≡ tot f (mutex_things s 0 new) + tot f (all_mutexes s (without_mutex xs new.number)))
          → tot f (all_mutexes s (if b then new ∷ xs else y ∷ with_mutex xs new)) ≡ tot f (mutex_things s 0 new) + tot f (all_mutexes s (if b then xs else y ∷ without_mutex xs new.number))
      either true g go = front new xs
      either false g go = omega (arith, go g, front y (with_mutex xs new), front y (without_mutex xs new.number))

pub mutex_changes : (s : ℕ) (xs : List Mutex) (m : MutexNo) (x new : Mutex) → mutex_in xs m ≡ Some x → new.number ≡ x.number → Trade (all_mutexes s xs) (mutex_things s 0 x) (mutex_things s 0 new) (all_mutexes s (with_mutex xs new))
mutex_changes s xs m x new e n =
    let here : mutex_in xs new.number ≡ Some x = subst (λ u. mutex_in xs u ≡ Some x) (sym (n ∙ found_number xs m x e)) e in
    record { rest = all_mutexes s (without_mutex xs new.number); before = λ f. tot-without f s xs new.number x here; after = λ f. tot-with f s xs x new here }

pub mutex_goes : (s : ℕ) (xs : List Mutex) (m : MutexNo) (x : Mutex) → mutex_in xs m ≡ Some x → Trade (all_mutexes s xs) (mutex_things s 0 x) [] (all_mutexes s (without_mutex xs x.number))
mutex_goes s xs m x e =
    let here : mutex_in xs x.number ≡ Some x = subst (λ u. mutex_in xs u ≡ Some x) (sym (found_number xs m x e)) e in
    record { rest = all_mutexes s (without_mutex xs x.number); before = λ f. tot-without f s xs x.number x here; after = λ f. omega arith }
