-- Lists that show a function: from a function by names, the list of a plain machine that shows it.
use Rattle.std.proofs.Common.{◌≡◌, ℕ, zero, suc, ◌+◌, ◌<◌, ◌≤◌, ◌==◌, Bool, true, false, if◌then◌else◌, List, [], ◌∷◌, ◌++◌, length, Option, Some, None, refl, sym, ap, subst, ◌∙◌, arith}
use Rattle.std.specs.Prelude.{is_some, slice_get}
use Rattle.std.proofs.lemmas.Bool.Decides.{nat_tests}
use Rattle.law_heap_still.specs.Below.fr_base.Names.{same_mutex}
use Rattle.law_heap_still.specs.Below.fr_base.declared.label.Plain.{Plain}
use Rattle.law_heap_still.specs.Below.fr_base.declared.name.MutexNo.{MutexNo}
use Rattle.law_heap_still.specs.Below.fr_plain.declared.value.Value.{Value}
use Rattle.law_heap_still.specs.Below.fr_plain.Heap.{Heap, made_by}
use Rattle.law_heap_still.specs.Below.fr_plain.MachineThreads.{Life, alive, over, owing, loose, ended, Mutex, Shared, Pair, thread_at, mutex_at, mutex_there, pair_of}
use Rattle.law_heap_still.specs.Below.fr_plain.PlainState.{Running, running, running_in, two_of}
use Rattle.law_heap_still.specs.Below.fr_code.Steps.{Place}
use Rattle.law_heap_still.specs.Below.fr_code.Machine.{CodeThread}
use Rattle.law_heap_still.proofs.Below.fr_typing.PlaceLemmas.{eq_cases}
use Rattle.law_heap_still.proofs.Below.coherent_memory.Names.{same_mutexes}

-- NUMBERS OF A LIST

abbrev pub is_one : ℕ → List ℕ → Bool
is_one t [] = false
is_one t (n ∷ ns) = if n == t then true else is_one t ns

if_more : (q a b : Bool) → (a ≡ true → b ≡ true) → (if q then true else a) ≡ true → (if q then true else b) ≡ true
if_more true a b f e = refl
if_more false a b f e = f e

pub one_more : (t n : ℕ) (ns : List ℕ) → is_one t ns ≡ true → is_one t (n ∷ ns) ≡ true
one_more t n ns e = by (n == t)
  where
    by : (q : Bool) → (if q then true else is_one t ns) ≡ true
    by true = refl
    by false = e

pub one_here : (t : ℕ) (ns : List ℕ) → is_one t (t ∷ ns) ≡ true
one_here t ns = eq_cases (λ q. (if q then true else is_one t ns) ≡ true) t t (λ e. refl) (λ n. absurd (n refl))

pub one_left : (t : ℕ) (ms ns : List ℕ) → is_one t ms ≡ true → is_one t (ms ++ ns) ≡ true
one_left t [] ns e = absurd cc
one_left t (m ∷ ms) ns e = if_more (m == t) (is_one t ms) (is_one t (ms ++ ns)) (one_left t ms ns) e

pub one_right : (t : ℕ) (ms ns : List ℕ) → is_one t ns ≡ true → is_one t (ms ++ ns) ≡ true
one_right t [] ns e = e
one_right t (m ∷ ms) ns e = one_more t m (ms ++ ns) (one_right t ms ns e)

-- the numbers from one on, up to as many more
abbrev pub up_from : ℕ → ℕ → List ℕ
up_from a zero = a ∷ []
up_from a (suc n) = (a + suc n) ∷ up_from a n

pub one_up : (a n m : ℕ) → m ≤ n → is_one (a + m) (up_from a n) ≡ true
one_up a zero m l = let e : a ≡ a + m = omega (arith, l) in subst (λ t. is_one t (a ∷ []) ≡ true) e (one_here a [])
one_up a (suc n) m l =
    eq_cases (λ q. (if q then true else is_one (a + m) (up_from a n)) ≡ true) (a + suc n) (a + m) (λ e. refl) (λ ne. one_up a n m (omega (arith, l, ne)))

-- THREADS

abbrev pub life_back : Life (Running Place) → Life Place
life_back (alive x) = alive x.place
life_back over = over
life_back (owing x) = owing x.place
life_back (loose x) = loose x.place
life_back (ended v) = ended v

abbrev pub slots_back : Life (Running Place) → List Value
slots_back (alive x) = x.slots
slots_back over = []
slots_back (owing x) = x.slots
slots_back (loose x) = x.slots
slots_back (ended v) = []

pub life_there : (l : Life (Running Place)) → running (slots_back l) (life_back l) ≡ l
life_there (alive x) = refl
life_there over = refl
life_there (owing x) = refl
life_there (loose x) = refl
life_there (ended v) = refl

abbrev and_thread : ℕ → Option (Life (Running Place)) → List CodeThread → List CodeThread
and_thread n None ts = ts
and_thread n (Some l) ts = record { number = n; life = life_back l; slots = slots_back l } ∷ ts

-- the threads of these numbers that are there
abbrev pub threads_for : (ℕ → Option (Life (Running Place))) → List ℕ → List CodeThread
threads_for f [] = []
threads_for f (n ∷ ns) = and_thread n (f n) (threads_for f ns)

abbrev pub if_one : {A : Type 0} → Bool → Option A → Option A
if_one true o = o
if_one false o = None

thread_next : (f : ℕ → Option (Life (Running Place))) (t n : ℕ) (ns : List ℕ) → running_in (thread_at (threads_for f ns) t) ≡ if_one (is_one t ns) (f t) → (o : Option (Life (Running Place))) → f n ≡ o
    → running_in (thread_at (and_thread n o (threads_for f ns)) t) ≡ if_one (is_one t (n ∷ ns)) (f t)
thread_next f t n ns h None e =
    eq_cases (λ q. running_in (thread_at (threads_for f ns) t) ≡ if_one (if q then true else is_one t ns) (f t)) n t
    (λ s. (let z : f t ≡ None = subst (λ i. f i ≡ None) s e in none_either (is_one t ns) (f t) z (running_in (thread_at (threads_for f ns) t)) h)) (λ ne. h)
  where
    none_either : (q : Bool) (o : Option (Life (Running Place))) → o ≡ None → (r : Option (Life (Running Place))) → r ≡ if_one q o → r ≡ o
    none_either true o z r g = g
    none_either false o z r g = g ∙ sym z
thread_next f t n ns h (Some l) e =
    eq_cases (λ q. running_in (if q then Some (let x : CodeThread = record { number = n; life = life_back l; slots = slots_back l } in x) else thread_at (threads_for f ns) t) ≡ if_one (if q then true else is_one t ns) (f t)) n t
    (λ s. ap Some (life_there l) ∙ sym e ∙ ap f s) (λ ne. h)

pub threads_show : (f : ℕ → Option (Life (Running Place))) (t : ℕ) (ns : List ℕ) → running_in (thread_at (threads_for f ns) t) ≡ if_one (is_one t ns) (f t)
threads_show f t [] = refl
threads_show f t (n ∷ ns) = thread_next f t n ns (threads_show f t ns) (f n) refl

-- OBJECTS

-- so many cells, from that number on
abbrev pub cells_for : (ℕ → Option Plain) → ℕ → ℕ → List (Option Plain)
cells_for f i zero = []
cells_for f i (suc n) = f i ∷ cells_for f (suc i) n

pub cells_length : (f : ℕ → Option Plain) (i n : ℕ) → length (cells_for f i n) ≡ n
cells_length f i zero = refl
cells_length f i (suc n) = ap suc (cells_length f (suc i) n)

pub cell_there : (f : ℕ → Option Plain) (i n j : ℕ) → j < n → slice_get (cells_for f i n) j ≡ Some (f (i + j))
cell_there f i zero j l = absurd (omega (arith, l))
cell_there f i (suc n) zero l = ap (λ m. Some (f m)) (omega arith)
cell_there f i (suc n) (suc j) l = cell_there f (suc i) n j (omega (arith, l)) ∙ ap (λ m. Some (f m)) (omega arith)

pub no_cell : (f : ℕ → Option Plain) (i n j : ℕ) → n ≤ j → slice_get (cells_for f i n) j ≡ None
no_cell f i zero j l = refl
no_cell f i (suc n) zero l = absurd (omega (arith, l))
no_cell f i (suc n) (suc j) l = no_cell f (suc i) n j (omega (arith, l))

-- the objects that threads of these numbers have made
abbrev pub heap_for : (ℕ → List (Option Plain)) → List ℕ → Heap
heap_for f [] = []
heap_for f (n ∷ ns) = record { thread = n; cells = f n } ∷ heap_for f ns

pub made_there : (f : ℕ → List (Option Plain)) (t : ℕ) (ns : List ℕ) → made_by (heap_for f ns) t ≡ (if is_one t ns then f t else [])
made_there f t [] = refl
made_there f t (n ∷ ns) =
    eq_cases (λ q. (if q then f n else made_by (heap_for f ns) t) ≡ (if (if q then true else is_one t ns) then f t else [])) n t (λ e. ap f e) (λ ne. made_there f t ns)

-- PAIRS

abbrev and_pair : ℕ → Option (ℕ × ℕ) → List Pair → List Pair
and_pair n None ps = ps
and_pair n (Some p) ps = record { parent = n; first = p.0; second = p.1 } ∷ ps

abbrev pub pairs_for : (ℕ → Option (ℕ × ℕ)) → List ℕ → List Pair
pairs_for f [] = []
pairs_for f (n ∷ ns) = and_pair n (f n) (pairs_for f ns)

pair_next : (f : ℕ → Option (ℕ × ℕ)) (t n : ℕ) (ns : List ℕ) → two_of (pair_of (pairs_for f ns) t) ≡ if_one (is_one t ns) (f t) → (o : Option (ℕ × ℕ)) → f n ≡ o
    → two_of (pair_of (and_pair n o (pairs_for f ns)) t) ≡ if_one (is_one t (n ∷ ns)) (f t)
pair_next f t n ns h None e =
    eq_cases (λ q. two_of (pair_of (pairs_for f ns) t) ≡ if_one (if q then true else is_one t ns) (f t)) n t
    (λ s. (let z : f t ≡ None = subst (λ i. f i ≡ None) s e in none_either (is_one t ns) (f t) z (two_of (pair_of (pairs_for f ns) t)) h)) (λ ne. h)
  where
    none_either : (q : Bool) (o : Option (ℕ × ℕ)) → o ≡ None → (r : Option (ℕ × ℕ)) → r ≡ if_one q o → r ≡ o
    none_either true o z r g = g
    none_either false o z r g = g ∙ sym z
pair_next f t n ns h (Some p) e =
    eq_cases (λ q. two_of (if q then Some (let x : Pair = record { parent = n; first = p.0; second = p.1 } in x) else pair_of (pairs_for f ns) t) ≡ if_one (if q then true else is_one t ns) (f t)) n t
    (λ s. sym e ∙ ap f s) (λ ne. h)

pub pairs_show : (f : ℕ → Option (ℕ × ℕ)) (t : ℕ) (ns : List ℕ) → two_of (pair_of (pairs_for f ns) t) ≡ if_one (is_one t ns) (f t)
pairs_show f t [] = refl
pairs_show f t (n ∷ ns) = pair_next f t n ns (pairs_show f t ns) (f n) refl

-- MUTEXES

abbrev pub is_one_mutex : MutexNo → List MutexNo → Bool
is_one_mutex m [] = false
is_one_mutex m (n ∷ ns) = if same_mutex n m then true else is_one_mutex m ns

abbrev and_mutex : MutexNo → Bool → Option Shared → List Mutex → List Mutex
and_mutex n false o ms = ms
and_mutex n true o ms = record { number = n; there = o } ∷ ms

-- the mutexes of these names that were given
abbrev pub mutexes_for : (MutexNo → Bool) → (MutexNo → Option Shared) → List MutexNo → List Mutex
mutexes_for g f [] = []
mutexes_for g f (n ∷ ns) = and_mutex n (g n) (f n) (mutexes_for g f ns)

-- what is found under a name: nothing where it isn't one that was given
abbrev pub ShowsMutex : (MutexNo → Bool) → (MutexNo → Option Shared) → MutexNo → List Mutex → Bool → Type 0
ShowsMutex g f m ms q = (is_some (mutex_at ms m) ≡ (if q then g m else false)) × (mutex_there ms m ≡ (if (if q then g m else false) then f m else None))

not_given : (g : MutexNo → Bool) (m : MutexNo) (a : Bool) → g m ≡ false → (if a then g m else false) ≡ g m
not_given g m true e = refl
not_given g m false e = sym e

mutex_next : (g : MutexNo → Bool) (f : MutexNo → Option Shared) (m n : MutexNo) (ns : List MutexNo) → ShowsMutex g f m (mutexes_for g f ns) (is_one_mutex m ns) → (b : Bool) → g n ≡ b → (q : Bool) → same_mutex n m ≡ q
    → ShowsMutex g f m (and_mutex n b (f n) (mutexes_for g f ns)) (if q then true else is_one_mutex m ns)
mutex_next g f m n ns h false e true s =
    let absent : g m ≡ false = subst (λ x. g x ≡ false) (same_mutexes n m s) e in
    let k = not_given g m (is_one_mutex m ns) absent in
    (h.0 ∙ k, h.1 ∙ ap (λ z. if z then f m else None) k)
mutex_next g f m n ns h false e false s = h
mutex_next g f m n ns h true e true s =
    let there : g m ≡ true = subst (λ x. g x ≡ true) (same_mutexes n m s) e in
    (rw s (sym there), rw s (rw there (ap f (same_mutexes n m s))))
mutex_next g f m n ns h true e false s = (rw s h.0, rw s h.1)

pub mutexes_show : (g : MutexNo → Bool) (f : MutexNo → Option Shared) (m : MutexNo) (ns : List MutexNo) → ShowsMutex g f m (mutexes_for g f ns) (is_one_mutex m ns)
mutexes_show g f m [] = (refl, refl)
mutexes_show g f m (n ∷ ns) = mutex_next g f m n ns (mutexes_show g f m ns) (g n) refl (same_mutex n m) refl

pub mutex_here : (m : MutexNo) (ns : List MutexNo) → is_one_mutex m (m ∷ ns) ≡ true
mutex_here m ns = ap (λ q. if q then true else is_one_mutex m ns) (itself m)
  where
    itself : (m : MutexNo) → same_mutex m m ≡ true
    itself m = grind (arith, nat_tests)

pub mutex_more : (m n : MutexNo) (ns : List MutexNo) → is_one_mutex m ns ≡ true → is_one_mutex m (n ∷ ns) ≡ true
mutex_more m n ns e = by (same_mutex n m)
  where
    by : (q : Bool) → (if q then true else is_one_mutex m ns) ≡ true
    by true = refl
    by false = e

pub mutex_left : (m : MutexNo) (ms ns : List MutexNo) → is_one_mutex m ms ≡ true → is_one_mutex m (ms ++ ns) ≡ true
mutex_left m [] ns e = absurd cc
mutex_left m (x ∷ ms) ns e = if_more (same_mutex x m) (is_one_mutex m ms) (is_one_mutex m (ms ++ ns)) (mutex_left m ms ns) e

pub mutex_right : (m : MutexNo) (ms ns : List MutexNo) → is_one_mutex m ns ≡ true → is_one_mutex m (ms ++ ns) ≡ true
mutex_right m [] ns e = e
mutex_right m (x ∷ ms) ns e = mutex_more m x (ms ++ ns) (mutex_right m ms ns e)

-- the mutexes of a home, up to that count
abbrev pub mutexes_up : ℕ → ℕ → List MutexNo
mutexes_up h zero = record { home = h; count = 0 } ∷ []
mutexes_up h (suc n) = record { home = h; count = suc n } ∷ mutexes_up h n

pub mutex_up : (m : MutexNo) (n : ℕ) → m.count ≤ n → is_one_mutex m (mutexes_up m.home n) ≡ true
mutex_up m zero l =
    let e : 0 ≡ m.count = omega (arith, l) in
    subst (λ c. is_one_mutex m ((let z : MutexNo = record { home = m.home; count = c } in z) ∷ []) ≡ true) (sym e) (mutex_here m [])
mutex_up m (suc n) l =
    eq_cases (λ q. q ≡ (suc n == m.count) → is_one_mutex m (mutexes_up m.home (suc n)) ≡ true) (suc n) m.count
    (λ e f. subst (λ c. is_one_mutex m ((let z : MutexNo = record { home = m.home; count = c } in z) ∷ mutexes_up m.home n) ≡ true) (sym e) (mutex_here m (mutexes_up m.home n)))
    (λ ne f. mutex_more m (record { home = m.home; count = suc n }) (mutexes_up m.home n) (mutex_up m n (omega (arith, l, ne)))) refl
