-- Sums over lists of threads, mutexes, tasks, copies and cells, where one of them changes, comes or goes.
use Rattle.std.proofs.lemmas.Bool.Decides.{nat_tests}
use Rattle.std.proofs.Common.{◌≡◌, ◌≤◌, ℕ, zero, suc, ◌+◌, ◌-◌, ◌==◌, ◌&&◌, Bool, true, false, nat_lt, if◌then◌else◌, List, [], ◌∷◌, ◌++◌, length, Option, Some, None, refl, sym, ap, subst, arith}
use Rattle.std.specs.Prelude.{slice_set, slice_index_or, is_some, IsSome}
use Rattle.law_runs_coherent.specs.Below.fr_base.Lists.{tot}
use Rattle.law_runs_coherent.specs.Below.fr_base.declared.name.MutexNo.{MutexNo}
use Rattle.law_runs_coherent.specs.Below.fr_base.Names.{same_mutex}
use Rattle.law_runs_coherent.specs.Below.law_counts_things.Below.global_addr.Words.{address_of}
use Rattle.law_runs_coherent.specs.Below.heap_partition.declared.value.Cell.{Cell}
use Rattle.law_runs_coherent.specs.Below.heap_partition.declared.value.Owned.{Owned}
use Rattle.law_runs_coherent.specs.Below.owner_box.View.{PartitionState}
use Rattle.law_runs_coherent.specs.Below.owner_box.Partition.{live_count, cell_of, made, freed, stored, renewed, made_again, with_value, next_place}
use Rattle.law_runs_coherent.proofs.Below.law_counts_things.Below.owner_box.Counts.{live-take, live-push}
use Rattle.law_runs_coherent.specs.Below.read_cache.Cache.{Copy, with_users, unpin, users, can_unpin, fill, without_copy, is_cached, can_evict, evict, copy_of}
use Rattle.law_runs_coherent.specs.Below.migration.Packing.{unpin_all}
use Rattle.law_runs_coherent.specs.Below.mutex_home.Mutexes.{Mutex, mutex_in, with_mutex, without_mutex}
use Rattle.law_runs_coherent.specs.Below.join_home.Tasks.{Task, TaskState, state_in, task_in, with_state, without_task}
use Rattle.law_runs_coherent.specs.Below.thread_state.View.{ThreadState}
use Rattle.law_runs_coherent.specs.Below.server_model.Work.{thread_in, set_thread, without_thread, with_thread}
use Rattle.law_runs_coherent.proofs.Below.law_counts_sums.MutexLists.{found_number}

pub tot_append : {A : Type 0} (f : A → ℕ) (xs ys : List A) → tot f (xs ++ ys) ≡ tot f xs + tot f ys
tot_append f [] ys = omega arith
tot_append f (x ∷ xs) ys = let a = tot_append f xs ys in omega (arith, a)

-- THREADS

module _ (f : ThreadState → ℕ) where
  -- a thread that changes, under its number
  pub thread_set : (ts : List ThreadState) (y new : ThreadState) → thread_in ts new.number ≡ Some y → tot f (set_thread ts new) + f y ≡ tot f ts + f new
  thread_set [] y new e = absurd (cc e)
  thread_set (x ∷ ts) y new e = by (x.number == new.number) e (thread_set ts y new)
    where
      by : (b : Bool) → (if b then Some x else thread_in ts new.number) ≡ Some y → (thread_in ts new.number ≡ Some y → tot f (set_thread ts new) + f y ≡ tot f ts + f new)
          → tot f (if b then new ∷ ts else x ∷ set_thread ts new) + f y ≡ tot f (x ∷ ts) + f new
      by true q go = let same : x ≡ y = cc in let w : f x ≡ f y = ap f same in omega (arith, w)
      by false q go = omega (arith, go q)

  -- one that goes
  pub thread_goes : (ts : List ThreadState) (t : ℕ) (y : ThreadState) → thread_in ts t ≡ Some y → tot f (without_thread ts t) + f y ≡ tot f ts
  thread_goes [] t y e = absurd (cc e)
  thread_goes (x ∷ ts) t y e = by (x.number == t) e (thread_goes ts t y)
    where
      by : (b : Bool) → (if b then Some x else thread_in ts t) ≡ Some y → (thread_in ts t ≡ Some y → tot f (without_thread ts t) + f y ≡ tot f ts)
          → tot f (if b then ts else x ∷ without_thread ts t) + f y ≡ tot f (x ∷ ts)
      by true q go = let same : x ≡ y = cc in let w : f x ≡ f y = ap f same in omega (arith, w)
      by false q go = omega (arith, go q)

  -- one that comes
  pub thread_comes : (ts : List ThreadState) (new : ThreadState) → tot f (with_thread ts new) ≡ tot f ts + f new
  thread_comes [] new = omega arith
  thread_comes (x ∷ ts) new = by (nat_lt new.number x.number) (thread_comes ts new)
    where
      by : (b : Bool) → tot f (with_thread ts new) ≡ tot f ts + f new → tot f (if b then new ∷ x ∷ ts else x ∷ with_thread ts new) ≡ tot f (x ∷ ts) + f new
      by true g = omega arith
      by false g = omega (arith, g)

-- a thread that is found has the number
pub thread_found : (ts : List ThreadState) (t : ℕ) (y : ThreadState) → thread_in ts t ≡ Some y → thread_in ts y.number ≡ Some y
thread_found ts t y e = by ts t y e
  where
    by : (us : List ThreadState) (t : ℕ) (y : ThreadState) → thread_in us t ≡ Some y → thread_in us y.number ≡ Some y
    by us t y e = subst (λ n. thread_in us n ≡ Some y) (sym (number us t y e)) e
      where
        number : (us : List ThreadState) (t : ℕ) (y : ThreadState) → thread_in us t ≡ Some y → y.number ≡ t
        number [] t y e = absurd (cc e)
        number (x ∷ us) t y e = at (x.number == t) refl e (number us t y)
          where
            at : (b : Bool) → (x.number == t) ≡ b → (if b then Some x else thread_in us t) ≡ Some y → (thread_in us t ≡ Some y → y.number ≡ t) → y.number ≡ t
            at true d q go = let same : x ≡ y = cc in subst (λ (z : ThreadState). z.number ≡ t) same (grind (arith, nat_tests, d))
            at false d q go = go q

-- MUTEXES

module _ (f : Mutex → ℕ) where
  -- a mutex that changes, under its number
  pub mutex_set : (xs : List Mutex) (m : MutexNo) (x new : Mutex) → mutex_in xs m ≡ Some x → new.number ≡ x.number → tot f (with_mutex xs new) + f x ≡ tot f xs + f new
  mutex_set xs m x new e n = by xs (subst (λ u. mutex_in xs u ≡ Some x) (sym (n_is xs m x e n)) e)
    where
      n_is : (xs : List Mutex) (m : MutexNo) (x : Mutex) → mutex_in xs m ≡ Some x → new.number ≡ x.number → new.number ≡ m
      n_is xs m x e n = let a = found_number xs m x e in cc

      by : (xs : List Mutex) → mutex_in xs new.number ≡ Some x → tot f (with_mutex xs new) + f x ≡ tot f xs + f new
      by [] e = absurd (cc e)
      by (y ∷ xs) e = at (same_mutex y.number new.number) e (by xs)
        where
          at : (b : Bool) → (if b then Some y else mutex_in xs new.number) ≡ Some x → (mutex_in xs new.number ≡ Some x → tot f (with_mutex xs new) + f x ≡ tot f xs + f new)
              → tot f (if b then new ∷ xs else y ∷ with_mutex xs new) + f x ≡ tot f (y ∷ xs) + f new
          at true q go = let same : y ≡ x = cc in let w : f y ≡ f x = ap f same in omega (arith, w)
          at false q go = omega (arith, go q)

  -- one that goes
  pub mutex_goes : (xs : List Mutex) (m : MutexNo) (x : Mutex) → mutex_in xs m ≡ Some x → tot f (without_mutex xs x.number) + f x ≡ tot f xs
  mutex_goes xs m x e = by xs (subst (λ u. mutex_in xs u ≡ Some x) (sym (found_number xs m x e)) e)
    where
      by : (xs : List Mutex) → mutex_in xs x.number ≡ Some x → tot f (without_mutex xs x.number) + f x ≡ tot f xs
      by [] e = absurd (cc e)
      by (y ∷ xs) e = at (same_mutex y.number x.number) e (by xs)
        where
          at : (b : Bool) → (if b then Some y else mutex_in xs x.number) ≡ Some x → (mutex_in xs x.number ≡ Some x → tot f (without_mutex xs x.number) + f x ≡ tot f xs)
              → tot f (if b then xs else y ∷ without_mutex xs x.number) + f x ≡ tot f (y ∷ xs)
          at true q go = let same : y ≡ x = cc in let w : f y ≡ f x = ap f same in omega (arith, w)
          at false q go = omega (arith, go q)

-- TASKS

module _ (f : TaskState → ℕ) where
  abbrev pub of_task : Task → ℕ
  of_task x = f x.state

  -- a thread that is noted otherwise
  pub state_set : (xs : List Task) (t : ℕ) (a b : TaskState) → state_in (task_in xs t) ≡ Some a → tot of_task (with_state xs t b) + f a ≡ tot of_task xs + f b
  state_set [] t a b e = absurd (cc e)
  state_set (x ∷ xs) t a b e = by (x.thread == t) e (state_set xs t a b)
    where
      by : (c : Bool) → state_in (if c then Some x else task_in xs t) ≡ Some a → (state_in (task_in xs t) ≡ Some a → tot of_task (with_state xs t b) + f a ≡ tot of_task xs + f b)
          → tot of_task (if c then record { thread = t; state = b } ∷ xs else x ∷ with_state xs t b) + f a ≡ tot of_task (x ∷ xs) + f b
      by true q go = let same : x.state ≡ a = cc in let w : f x.state ≡ f a = ap f same in omega (arith, w)
      by false q go = omega (arith, go q)

  -- one that is noted no more
  pub task_goes : (xs : List Task) (t : ℕ) (a : TaskState) → state_in (task_in xs t) ≡ Some a → tot of_task (without_task xs t) + f a ≡ tot of_task xs
  task_goes [] t a e = absurd (cc e)
  task_goes (x ∷ xs) t a e = by (x.thread == t) e (task_goes xs t a)
    where
      by : (c : Bool) → state_in (if c then Some x else task_in xs t) ≡ Some a → (state_in (task_in xs t) ≡ Some a → tot of_task (without_task xs t) + f a ≡ tot of_task xs)
          → tot of_task (if c then xs else x ∷ without_task xs t) + f a ≡ tot of_task (x ∷ xs)
      by true q go = let same : x.state ≡ a = cc in let w : f x.state ≡ f a = ap f same in omega (arith, w)
      by false q go = omega (arith, go q)

  -- one less at most
  pub task_less : (xs : List Task) (t : ℕ) → tot of_task (without_task xs t) ≤ tot of_task xs
  task_less [] t = omega arith
  task_less (x ∷ xs) t = by (x.thread == t) (task_less xs t)
    where
      by : (c : Bool) → tot of_task (without_task xs t) ≤ tot of_task xs → tot of_task (if c then xs else x ∷ without_task xs t) ≤ tot of_task (x ∷ xs)
      by true g = omega arith
      by false g = omega (arith, g)

-- COPIES

-- users are no copies
pub users_length : (cs : List Copy) (w n : ℕ) → length (with_users cs w n) ≡ length cs
users_length [] w n = refl
users_length (c ∷ cs) w n = by (c.word == w) (users_length cs w n)
  where
    by : (b : Bool) → length (with_users cs w n) ≡ length cs → length (if b then record c { users = n } ∷ cs else c ∷ with_users cs w n) ≡ length (c ∷ cs)
    by true g = refl
    by false g = omega (arith, g)

pub unpinned_length : (ws : List ℕ) (cs ds : List Copy) → unpin_all ws cs ≡ Some ds → length ds ≡ length cs
unpinned_length [] cs ds e = let same : cs ≡ ds = cc in ap length (sym same)
unpinned_length (w ∷ ws) cs ds e = by (can_unpin cs w) e (unpinned_length ws (unpin cs w) ds)
  where
    by : (b : Bool) → (if b then unpin_all ws (unpin cs w) else None) ≡ Some ds → (unpin_all ws (unpin cs w) ≡ Some ds → length ds ≡ length (unpin cs w)) → length ds ≡ length cs
    by true q go = omega (arith, go q, users_length cs w (users cs w - 1))
    by false q go = absurd (cc q)

-- a copy that comes is one more at most
pub filled_length : (cs : List Copy) (w : ℕ) (c : Cell) → length (fill cs w c) ≤ length cs + 1
filled_length [] w c = omega arith
filled_length (x ∷ cs) w c = by (x.word == w) (filled_length cs w c)
  where
    by : (b : Bool) → length (fill cs w c) ≤ length cs + 1 → length (if b then x ∷ cs else x ∷ fill cs w c) ≤ length (x ∷ cs) + 1
    by true g = omega arith
    by false g = omega (arith, g)

-- one that is there and goes is one less
pub without_length : (cs : List Copy) (w : ℕ) → is_cached cs w ≡ true → length (without_copy cs w) + 1 ≡ length cs
without_length [] w e = absurd (cc e)
without_length (c ∷ cs) w e = by (c.word == w) e (without_length cs w)
  where
    by : (b : Bool) → is_some (if b then Some c else copy_of cs w) ≡ true → (is_cached cs w ≡ true → length (without_copy cs w) + 1 ≡ length cs) → length (if b then cs else c ∷ without_copy cs w) + 1 ≡ length (c ∷ cs)
    by true q go = omega arith
    by false q go = omega (arith, go q)

pub evicted_length : (cs : List Copy) (w : ℕ) → can_evict cs w ≡ true → length (evict cs w) + 1 ≡ length cs
evicted_length cs w e = subst (λ b. length (if b then without_copy cs w else cs) + 1 ≡ length cs) (sym e) (without_length cs w (left (is_cached cs w) (users cs w == 0) e))
  where
    left : (a b : Bool) → (a && b) ≡ true → a ≡ true
    left true b e = refl
    left false b e = absurd (cc e)

-- CELLS

-- a cell that is put is one more at most
put_live : (cells : List (Option Cell)) (a : ℕ) (c : Cell) → live_count (slice_set cells a (Some c)) ≤ live_count cells + 1
put_live [] a c = omega arith
put_live (None ∷ cells) zero c = omega arith
put_live (Some x ∷ cells) zero c = omega arith
put_live (None ∷ cells) (suc a) c = put_live cells a c
put_live (Some x ∷ cells) (suc a) c = omega (arith, put_live cells a c)

-- one that is written stays as it was
write_live : (cells : List (Option Cell)) (a : ℕ) (v : Owned) → live_count (slice_set cells a (with_value v (slice_index_or cells a None))) ≡ live_count cells
write_live [] a v = refl
write_live (None ∷ cells) zero v = refl
write_live (Some x ∷ cells) zero v = refl
write_live (None ∷ cells) (suc a) v = write_live cells a v
write_live (Some x ∷ cells) (suc a) v = omega (arith, write_live cells a v)

pub made_live : (p : PartitionState) (c : Cell) → live_count (made p c).cells ≤ live_count p.cells + 1
made_live p c = by ((next_place p).0 == length p.cells)
  where
    by : (b : Bool) → live_count (if b then p.cells ++ Some c ∷ [] else slice_set p.cells (next_place p).0 (Some c)) ≤ live_count p.cells + 1
    by true = omega (arith, live-push p.cells c)
    by false = put_live p.cells (next_place p).0 c

pub stored_live : (p : PartitionState) (w : ℕ) (v : Owned) → live_count (stored p w v).cells ≡ live_count p.cells
stored_live p w v = write_live p.cells (address_of w) v

-- one that leaves is one less
pub freed_live : (p : PartitionState) (w : ℕ) → IsSome (cell_of p w) → live_count (freed p w).cells + 1 ≡ live_count p.cells
freed_live p w there = live-take p.cells (address_of w) there

-- a renewal leaves as many at most
pub renewed_live : (p : PartitionState) (w : ℕ) → live_count (renewed p w).cells ≤ live_count p.cells
renewed_live p w = by (cell_of p w) refl
  where
    less : (cells : List (Option Cell)) (a : ℕ) → live_count (slice_set cells a None) ≤ live_count cells
    less [] a = omega arith
    less (None ∷ cells) zero = omega arith
    less (Some x ∷ cells) zero = omega arith
    less (None ∷ cells) (suc a) = less cells a
    less (Some x ∷ cells) (suc a) = omega (arith, less cells a)

    by : (c : Option Cell) → cell_of p w ≡ c → live_count (made_again (freed p w) c).cells ≤ live_count p.cells
    by None e = less p.cells (address_of w)
    by (Some c) e = let there : IsSome (cell_of p w) = cc in omega (arith, freed_live p w there, made_live (freed p w) c)
