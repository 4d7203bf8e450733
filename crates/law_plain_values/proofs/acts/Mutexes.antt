-- Mutexes of a state after one of them changes.
use Rattle.std.proofs.Common.{◌≡◌, ◌≢◌, ◌⊎◌, inl, inr, ⊎_elim, ◌∙◌, Bool, true, false, List, [], ◌∷◌, ◌++◌, Option, Some, None, refl, sym, ap}
use Rattle.std.specs.Prelude.{is_some, if◌then◌else◌}
use Rattle.fr_base.specs.Names.{same_mutex}
use Rattle.fr_base.specs.declared.name.MutexNo.{MutexNo}
use Rattle.fr_store.specs.Keys.{Key, content_k}
use Rattle.fr_store.proofs.Keys.{key_cases, decide_key}
use Rattle.fr_plain.specs.MachineThreads.{Mutex, Shared, mutex_at, mutex_there, with_mutex}

-- a mutex is told by its home and number
abbrev pub key_of : MutexNo → Key
key_of m = content_k m.home m.count

pub mutex_is : (m n : MutexNo) → key_of m ≡ key_of n → m ≡ n
mutex_is m n e = let h : m.home ≡ n.home = cc in let c : m.count ≡ n.count = cc in by m n h c
  where
    by : (m n : MutexNo) → m.home ≡ n.home → m.count ≡ n.count → m ≡ n
    by m n h c = ap (λ q. (let r : MutexNo = record { home = q; count = m.count } in r)) h ∙ ap (λ q. (let r : MutexNo = record { home = n.home; count = q } in r)) c

pub mutex_cases : (P : Bool → Type 0) (m n : MutexNo) → (m ≡ n → P true) → (m ≢ n → P false) → P (same_mutex m n)
mutex_cases P m n same off = key_cases P (key_of m) (key_of n) (λ e. same (mutex_is m n e)) (λ ne. off (λ f. ne (ap key_of f)))

pub decide_mutex : (m n : MutexNo) → (m ≡ n) ⊎ (m ≢ n)
decide_mutex m n = by (decide_key (key_of m) (key_of n))
  where
    by : (key_of m ≡ key_of n) ⊎ (key_of m ≢ key_of n) → (m ≡ n) ⊎ (m ≢ n)
    by (inl e) = inl (mutex_is m n e)
    by (inr ne) = inr (λ f. ne (ap key_of f))

abbrev there_in : Option Mutex → Option Shared
there_in None = None
there_in (Some x) = x.there

abbrev with_there : Option Shared → Option Mutex → Option Mutex
with_there new None = None
with_there new (Some x) = Some (record x { there = new })

set_at : (xs : List Mutex) (n : MutexNo) (new : Option Shared) → mutex_at (with_mutex xs n new) n ≡ with_there new (mutex_at xs n)
set_at [] n new = refl
set_at (x ∷ xs) n new =
    mutex_cases (λ b. mutex_at (if b then record x { there = new } ∷ xs else x ∷ with_mutex xs n new) n ≡ with_there new (if same_mutex x.number n then Some x else mutex_at xs n)) x.number n
    (λ f. mutex_cases (λ b. (if b then Some (record x { there = new }) else mutex_at xs n) ≡ with_there new (if b then Some x else mutex_at xs n)) x.number n (λ _. refl) (λ ne. absurd (ne f)))
    (λ off. mutex_cases (λ b. (if b then Some x else mutex_at (with_mutex xs n new) n) ≡ with_there new (if b then Some x else mutex_at xs n)) x.number n (λ f. absurd (off f)) (λ _. set_at xs n new))

set_off : (xs : List Mutex) (n : MutexNo) (new : Option Shared) (k : MutexNo) → k ≢ n → mutex_at (with_mutex xs n new) k ≡ mutex_at xs k
set_off [] n new k e = refl
set_off (x ∷ xs) n new k e =
    mutex_cases (λ b. mutex_at (if b then record x { there = new } ∷ xs else x ∷ with_mutex xs n new) k ≡ (if same_mutex x.number k then Some x else mutex_at xs k)) x.number n
    (λ f. mutex_cases (λ b. (if b then Some (record x { there = new }) else mutex_at xs k) ≡ (if b then Some x else mutex_at xs k)) x.number k (λ g. absurd (e (sym g ∙ f))) (λ _. refl))
    (λ off. mutex_cases (λ b. (if b then Some x else mutex_at (with_mutex xs n new) k) ≡ (if b then Some x else mutex_at xs k)) x.number k (λ _. refl) (λ _. set_off xs n new k e))

-- the mutex that changes is there as it is then
pub there_set : (xs : List Mutex) (n : MutexNo) (new : Option Shared) (x : Shared) → mutex_there xs n ≡ Some x → mutex_there (with_mutex xs n new) n ≡ new
there_set xs n new x h = ap there_in (set_at xs n new) ∙ by (mutex_at xs n) h
  where
    by : (o : Option Mutex) → there_in o ≡ Some x → there_in (with_there new o) ≡ new
    by None f = cc
    by (Some z) f = refl

-- the others are as they were
pub there_off : (xs : List Mutex) (n : MutexNo) (new : Option Shared) (k : MutexNo) → k ≢ n → mutex_there (with_mutex xs n new) k ≡ mutex_there xs k
there_off xs n new k ne = ap there_in (set_off xs n new k ne)

-- no name is given or taken back
pub given_set : (xs : List Mutex) (n : MutexNo) (new : Option Shared) (k : MutexNo) → is_some (mutex_at (with_mutex xs n new) k) ≡ is_some (mutex_at xs k)
given_set xs n new k = by (decide_mutex k n)
  where
    some : (o : Option Mutex) → is_some (with_there new o) ≡ is_some o
    some None = refl
    some (Some z) = refl

    by : (k ≡ n) ⊎ (k ≢ n) → is_some (mutex_at (with_mutex xs n new) k) ≡ is_some (mutex_at xs k)
    by (inl e) = ap (λ q. is_some (mutex_at (with_mutex xs n new) q)) e ∙ ap is_some (set_at xs n new) ∙ some (mutex_at xs n) ∙ ap (λ q. is_some (mutex_at xs q)) (sym e)
    by (inr ne) = ap is_some (set_off xs n new k ne)

-- A NEW MUTEX

-- it is found by its name
pub made_at : (xs : List Mutex) (new : Mutex) → mutex_at xs new.number ≡ None → mutex_at (xs ++ new ∷ []) new.number ≡ Some new
made_at [] new e = mutex_cases (λ b. (if b then Some new else None) ≡ Some new) new.number new.number (λ _. refl) (λ ne. absurd (ne refl))
made_at (x ∷ xs) new e =
    ⊎_elim (λ (f : x.number ≡ new.number). let g : Some x ≡ None = sym (mutex_cases (λ b. (if b then Some x else mutex_at xs new.number) ≡ Some x) x.number new.number (λ _. refl) (λ ne. absurd (ne f))) ∙ e in cc)
    (λ (ne : x.number ≢ new.number). mutex_cases (λ b. (if b then Some x else mutex_at (xs ++ new ∷ []) new.number) ≡ Some new) x.number new.number (λ f. absurd (ne f))
    (λ _. made_at xs new (sym (mutex_cases (λ b. (if b then Some x else mutex_at xs new.number) ≡ mutex_at xs new.number) x.number new.number (λ f. absurd (ne f)) (λ _. refl)) ∙ e)))
    (decide_mutex x.number new.number)

-- the others are as they were
pub made_off : (xs : List Mutex) (new : Mutex) (k : MutexNo) → k ≢ new.number → mutex_at (xs ++ new ∷ []) k ≡ mutex_at xs k
made_off [] new k ne = mutex_cases (λ b. (if b then Some new else None) ≡ None) new.number k (λ f. absurd (ne (sym f))) (λ _. refl)
made_off (x ∷ xs) new k ne = mutex_cases (λ b. (if b then Some x else mutex_at (xs ++ new ∷ []) k) ≡ (if b then Some x else mutex_at xs k)) x.number k (λ _. refl) (λ _. made_off xs new k ne)
