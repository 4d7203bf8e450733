-- What calls leave of the lists of mutexes, tasks and threads: the same numbers, some less, or one more.
use Rattle.std.proofs.Common.{◌≡◌, ◌<◌, ℕ, ◌+◌, ◌-◌, ◌^◌, ◌==◌, ◌&&◌, Bool, true, false, nat_lt, if◌then◌else◌, List, [], ◌∷◌, ◌++◌, Option, Some, None, refl, ap, arith}
use Rattle.std.proofs.lemmas.Bool.Decides.{nat_tests}
use Rattle.law_counts_limits.specs.Below.fr_base.declared.name.MutexNo.{MutexNo}
use Rattle.law_counts_limits.specs.Below.fr_base.Names.{same_mutex}
use Rattle.law_counts_limits.specs.Below.heap_partition.declared.value.Owned.{Owned}
use Rattle.law_counts_limits.specs.Below.mutex_home.Mutexes.{Mutex, Mutexes, mutex_in, with_mutex, without_mutex, put_mutex, end_mutex, asked_of, asked_in, ask, back_to, back_out, back_in, give_back, more_in, more, last_less, less_of, less_in, less}
use Rattle.law_counts_limits.specs.Below.mutex_home.declared.answers.Back.TheVariants.{Kept, Ended}
use Rattle.law_counts_limits.specs.Below.join_home.Tasks.{Task, TaskState, going, let_go, kept, asked, in_pair, state_of, with_state, without_task, over_in, pair_ended, ended_from, ended, asked_from, let_go_from, let_go_of}
use Rattle.law_counts_limits.specs.Below.join_home.Tasks as tasks
use Rattle.law_counts_limits.specs.Below.thread_state.View.{ThreadState}
use Rattle.law_counts_limits.specs.Below.server_model.Work.{thread_in, set_thread, without_thread, with_thread}
use Rattle.law_counts_limits.specs.Below.coherent_memory.Naming.{numbers_of}
use Rattle.law_counts_limits.specs.Below.law_counts_sums.Laws.{Gives}
use Rattle.law_counts_limits.proofs.Below.law_counts_sums.Results.{test_gives}
use Rattle.law_types_events.proofs.parts.Rising.{less_is, Less, less_none, less_keep, less_skip, less_self, Rises, RiseFrom}

some_gone : {A : Type 0} {x : A} → Some x ≡ None → ⊥
some_gone e = cc e

-- MUTEXES

abbrev pub count_of : Mutex → ℕ
count_of m = m.number.count

-- another state of a mutex leaves the numbers
pub counts_stay : (xs : List Mutex) (new : Mutex) → numbers_of count_of (with_mutex xs new) ≡ numbers_of count_of xs
counts_stay [] new = refl
counts_stay (x ∷ xs) new = by (same_mutex x.number new.number) refl (counts_stay xs new)
  where
    same : same_mutex x.number new.number ≡ true → new.number.count ≡ x.number.count
    same e = both (x.number.home == new.number.home) (x.number.count == new.number.count) e refl
      where
        both : (a b : Bool) → (a && b) ≡ true → (x.number.count == new.number.count) ≡ b → new.number.count ≡ x.number.count
        both true true h q = grind (arith, nat_tests, q)
        both true false h q = absurd (cc h)
        both false b h q = absurd (cc h)

    by : (b : Bool) → same_mutex x.number new.number ≡ b → numbers_of count_of (with_mutex xs new) ≡ numbers_of count_of xs → numbers_of count_of (if b then new ∷ xs else x ∷ with_mutex xs new) ≡ numbers_of count_of (x ∷ xs)
    by true e h = ap (λ n. n ∷ numbers_of count_of xs) (same e)
    by false e h = ap (λ l. x.number.count ∷ l) h

-- a mutex less
pub mutex_less : (xs : List Mutex) (m : MutexNo) → Less (without_mutex xs m) xs
mutex_less [] m = less_none
mutex_less (x ∷ xs) m = by (same_mutex x.number m) (mutex_less xs m)
  where
    by : (b : Bool) → Less (without_mutex xs m) xs → Less (if b then xs else x ∷ without_mutex xs m) (x ∷ xs)
    by true go = less_skip (less_self xs)
    by false go = less_keep go

-- each call at a home puts one of its mutexes, or ends one
module _ (K : Mutexes → Type 0) (puts : (ms : Mutexes) (x : Mutex) → K ms → K (put_mutex ms x)) (ends : (ms : Mutexes) (m : MutexNo) → K ms → K (end_mutex ms m)) where
  abbrev pub LeftBy : {X : Type 0} → Mutexes × X → Type 0
  LeftBy p = K p.0

  -- a lock, an unlock, a share more and a share less
  pub asks : (ms : Mutexes) (m : MutexNo) (s t : ℕ) → K ms → Gives LeftBy (ask ms m s t)
  asks ms m s t a = by (mutex_in ms.there m)
    where
      of : (x : Mutex) (c : Option Owned) → LeftBy (asked_of ms s t c x)
      of x None = puts ms (record x { queue = x.queue ++ (s, t) ∷ [] }) a
      of x (Some v) = puts ms (record x { content = None }) a

      by : (o : Option Mutex) → Gives LeftBy (asked_in ms s t o)
      by None = tt
      by (Some x) = of x x.content

  pub backs : (ms : Mutexes) (m : MutexNo) (v : Owned) → K ms → Gives LeftBy (give_back ms m v)
  backs ms m v a = by (mutex_in ms.there m)
    where
      alone : (x : Mutex) (b : Bool) → LeftBy (if b then (end_mutex ms x.number, Ended v) else (put_mutex ms (record x { content = Some v }), Kept))
      alone x true = ends ms x.number a
      alone x false = puts ms (record x { content = Some v }) a

      queue : (x : Mutex) (l : List (ℕ × ℕ)) → LeftBy (back_to ms v x l)
      queue x [] = alone x (x.shares == 0)
      queue x (first ∷ rest) = puts ms (record x { queue = rest }) a

      content : (x : Mutex) (c : Option Owned) → Gives LeftBy (back_out ms v x c)
      content x None = queue x x.queue
      content x (Some u) = tt

      by : (o : Option Mutex) → Gives LeftBy (back_in ms v o)
      by None = tt
      by (Some x) = content x x.content

  pub mores : (ms : Mutexes) (m : MutexNo) → K ms → Gives K (more ms m)
  mores ms m a = by (mutex_in ms.there m)
    where
      by : (o : Option Mutex) → Gives K (more_in ms o)
      by None = tt
      by (Some x) = test_gives K (nat_lt 0 x.shares && nat_lt x.shares (2 ^ 64 - 1)) _ (λ z. puts ms (record x { shares = x.shares + 1 }) a)

  pub lesses : (ms : Mutexes) (m : MutexNo) → K ms → Gives LeftBy (less ms m)
  lesses ms m a = by (mutex_in ms.there m)
    where
      last : (x : Mutex) (c : Option Owned) → LeftBy (last_less ms x c)
      last x None = puts ms (record x { shares = 0 }) a
      last x (Some v) = ends ms x.number a

      one : (x : Mutex) (b : Bool) → LeftBy (if b then last_less ms x x.content else (put_mutex ms (record x { shares = x.shares - 1 }), None))
      one x true = last x x.content
      one x false = puts ms (record x { shares = x.shares - 1 }) a

      by : (o : Option Mutex) → Gives LeftBy (less_in ms o)
      by None = tt
      by (Some x) = test_gives LeftBy (nat_lt 0 x.shares) (Some (less_of ms x)) (λ z. one x (x.shares == 1))

-- TASKS

abbrev pub name_of : Task → ℕ
name_of t = t.thread

-- another state of a task leaves the numbers
pub tasks_stay : (xs : List Task) (t : ℕ) (s : TaskState) → numbers_of name_of (with_state xs t s) ≡ numbers_of name_of xs
tasks_stay [] t s = refl
tasks_stay (x ∷ xs) t s = by (x.thread == t) refl (tasks_stay xs t s)
  where
    by : (b : Bool) → (x.thread == t) ≡ b → numbers_of name_of (with_state xs t s) ≡ numbers_of name_of xs → numbers_of name_of (if b then record { thread = t; state = s } ∷ xs else x ∷ with_state xs t s) ≡ numbers_of name_of (x ∷ xs)
    by true e h = let same : t ≡ x.thread = grind (arith, nat_tests, e) in ap (λ n. n ∷ numbers_of name_of xs) same
    by false e h = ap (λ l. x.thread ∷ l) h

-- a task less
pub task_less : (xs : List Task) (t : ℕ) → Less (without_task xs t) xs
task_less [] t = less_none
task_less (x ∷ xs) t = by (x.thread == t) (task_less xs t)
  where
    by : (b : Bool) → Less (without_task xs t) xs → Less (if b then xs else x ∷ without_task xs t) (x ∷ xs)
    by true go = less_skip (less_self xs)
    by false go = less_keep go

-- each call gives one of them another state, or takes some out
module _ (K : List Task → Type 0) (states : (xs : List Task) (t : ℕ) (s : TaskState) → K xs → K (with_state xs t s)) (goes : (xs : List Task) (t : ℕ) → K xs → K (without_task xs t)) where
  abbrev LeftOf : {X : Type 0} → List Task × X → Type 0
  LeftOf p = K p.0

  -- a join, a task let go, and a thread that is over
  pub joins : (xs : List Task) (t s by_thread : ℕ) → K xs → Gives LeftOf (tasks.ask xs t s by_thread)
  joins xs t s by_thread a = by (state_of xs t)
    where
      by : (o : Option TaskState) → Gives LeftOf (asked_from xs t s by_thread o)
      by (Some going) = states xs t (asked s by_thread) a
      by (Some (kept v)) = goes xs t a
      by None = tt
      by (Some let_go) = tt
      by (Some (asked r u)) = tt
      by (Some (in_pair p q)) = tt

  pub lets_go : (xs : List Task) (t : ℕ) → K xs → Gives LeftOf (let_go_of xs t)
  lets_go xs t a = by (state_of xs t)
    where
      by : (o : Option TaskState) → Gives LeftOf (let_go_from xs t o)
      by (Some going) = states xs t let_go a
      by (Some (kept v)) = goes xs t a
      by None = tt
      by (Some let_go) = tt
      by (Some (asked r u)) = tt
      by (Some (in_pair p q)) = tt

  pub overs : (xs : List Task) (t : ℕ) (v : Owned) → K xs → Gives LeftOf (ended xs t v)
  overs xs t v a = by (state_of xs t)
    where
      pair : (p : ℕ) (o : Option ℕ) → LeftOf (pair_ended xs t p o)
      pair p None = states xs t (in_pair p true) a
      pair p (Some u) = goes (without_task xs t) u (goes xs t a)

      by : (o : Option TaskState) → Gives LeftOf (ended_from xs t v o)
      by None = tt
      by (Some going) = states xs t (kept v) a
      by (Some let_go) = goes xs t a
      by (Some (kept u)) = tt
      by (Some (asked r u)) = goes xs t a
      by (Some (in_pair p true)) = tt
      by (Some (in_pair p false)) = pair p (over_in xs p)

-- THREADS

abbrev pub number_of : ThreadState → ℕ
number_of t = t.number

-- another state of a thread leaves the numbers
pub threads_stay : (ts : List ThreadState) (new : ThreadState) → numbers_of number_of (set_thread ts new) ≡ numbers_of number_of ts
threads_stay [] new = refl
threads_stay (x ∷ ts) new = by (x.number == new.number) refl (threads_stay ts new)
  where
    by : (b : Bool) → (x.number == new.number) ≡ b → numbers_of number_of (set_thread ts new) ≡ numbers_of number_of ts → numbers_of number_of (if b then new ∷ ts else x ∷ set_thread ts new) ≡ numbers_of number_of (x ∷ ts)
    by true e h = let same : new.number ≡ x.number = grind (arith, nat_tests, e) in ap (λ n. n ∷ numbers_of number_of ts) same
    by false e h = ap (λ l. x.number ∷ l) h

-- a thread less
pub thread_less : (ts : List ThreadState) (t : ℕ) → Less (without_thread ts t) ts
thread_less [] t = less_none
thread_less (x ∷ ts) t = by (x.number == t) (thread_less ts t)
  where
    by : (b : Bool) → Less (without_thread ts t) ts → Less (if b then ts else x ∷ without_thread ts t) (x ∷ ts)
    by true go = less_skip (less_self ts)
    by false go = less_keep go

-- one that isn't there comes in its place
comes_from : (n : ℕ) (ts : List ThreadState) (new : ThreadState) → thread_in ts new.number ≡ None → n < new.number → RiseFrom number_of n ts → RiseFrom number_of n (with_thread ts new)
comes_from n [] new e l z = omega (arith, less_is n new.number l)
comes_from n (x ∷ ts) new e l z = by (λ a b c. comes_from x.number ts new a b c) (nat_lt new.number x.number) refl
  where
    apart : (b : Bool) → (x.number == new.number) ≡ b → (if b then Some x else thread_in ts new.number) ≡ None → (x.number ≡ new.number → ⊥) × (thread_in ts new.number ≡ None)
    apart true q h = absurd (some_gone h)
    apart false q h = ((λ same. let wrong : (x.number == new.number) ≡ true = Rattle.std.proofs.lemmas.Bool.eq-eqb x.number new.number same in absurd (cc)), h)

    by : (thread_in ts new.number ≡ None → x.number < new.number → RiseFrom number_of x.number ts → RiseFrom number_of x.number (with_thread ts new)) → (b : Bool) → nat_lt new.number x.number ≡ b → RiseFrom number_of n (if b then new ∷ x ∷ ts else x ∷ with_thread ts new)
    by go true q = let low : new.number < x.number = grind (arith, nat_tests, q) in omega (arith, z, less_is n new.number l, less_is new.number x.number low)
    by go false q =
        let other_one = apart (x.number == new.number) refl e in
        let high : x.number < new.number = above x.number new.number other_one.0 q in
        omega (arith, z, go other_one.1 high (omega (arith, z)))
      where
        above : (a b : ℕ) → (a ≡ b → ⊥) → nat_lt b a ≡ false → a < b
        above a b ne q = by_test (nat_lt a b) refl
          where
            by_test : (t : Bool) → nat_lt a b ≡ t → a < b
            by_test true h = grind (arith, nat_tests, h)
            by_test false h = absurd (ne (grind (arith, nat_tests, h, q)))

-- the same before the first one
pub comes_rise : (ts : List ThreadState) (new : ThreadState) → thread_in ts new.number ≡ None → Rises number_of ts → Rises number_of (with_thread ts new)
comes_rise [] new e z = refl
comes_rise (x ∷ ts) new e z = by (nat_lt new.number x.number) refl
  where
    apart : (b : Bool) → (x.number == new.number) ≡ b → (if b then Some x else thread_in ts new.number) ≡ None → (x.number ≡ new.number → ⊥) × (thread_in ts new.number ≡ None)
    apart true q h = absurd (some_gone h)
    apart false q h = ((λ same. let wrong : (x.number == new.number) ≡ true = Rattle.std.proofs.lemmas.Bool.eq-eqb x.number new.number same in absurd (cc)), h)

    above : (a b : ℕ) → (a ≡ b → ⊥) → nat_lt b a ≡ false → a < b
    above a b ne q = by_test (nat_lt a b) refl
      where
        by_test : (t : Bool) → nat_lt a b ≡ t → a < b
        by_test true h = grind (arith, nat_tests, h)
        by_test false h = absurd (ne (grind (arith, nat_tests, h, q)))

    by : (b : Bool) → nat_lt new.number x.number ≡ b → Rises number_of (if b then new ∷ x ∷ ts else x ∷ with_thread ts new)
    by true q = let low : new.number < x.number = grind (arith, nat_tests, q) in omega (arith, z, less_is new.number x.number low)
    by false q = let other_one = apart (x.number == new.number) refl e in comes_from x.number ts new other_one.1 (above x.number new.number other_one.0 q) z
