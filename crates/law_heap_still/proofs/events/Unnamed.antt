-- A content or a result that goes is one of a mutex or a thread that nothing names: its shares are gone, or its one task value is the message that comes.
use Rattle.std.proofs.Common.{◌≡◌, ℕ, zero, suc, ◌+◌, ◌≤◌, ◌==◌, ◌&&◌, not, Bool, true, false, List, [], ◌∷◌, Some, refl, ap, ap₂, ◌∙◌, arith}
use Rattle.std.specs.Prelude.{slice_get}
use Rattle.std.proofs.lemmas.Bool.{eq-eqb}
use Rattle.law_counts_sums.specs.Below.fr_base.declared.name.MutexNo.{MutexNo}
use Rattle.law_counts_sums.specs.Below.fr_base.declared.release.Released.TheVariants as released
use Rattle.law_counts_sums.specs.Below.heap_partition.declared.value.Owned.{Owned}
use Rattle.law_counts_sums.specs.Below.heap_partition.declared.value.Owned.TheVariants as owned
use Rattle.law_counts_sums.specs.Below.mutex_home.Mutexes.{Mutex, mutex_in}
use Rattle.law_counts_sums.specs.Below.join_home.Tasks.{Task, TaskState, going, let_go, kept, asked, in_pair, task_in}
use Rattle.law_counts_sums.specs.Below.thread_state.View.{is_over}
use Rattle.law_counts_sums.specs.Below.server_msgs.declared.message.Message.TheVariants as message
use Rattle.law_counts_sums.specs.Below.server_model.Servers.{Server, Cluster, server_at}
use Rattle.law_counts_sums.specs.Below.coherent_memory.Names.{tot, one, if_so, some, mutex_values, task_values}
use Rattle.law_counts_sums.specs.Below.coherent_memory.Things.{Thing, holds, lies, flies, sent, stands, noted, things_of}
use Rattle.law_counts_sums.specs.Below.coherent_memory.Sight.{Sight, sight}
use Rattle.law_counts_sums.specs.Below.coherent_memory.Weights.{shares_sent, shares_of, tasks_sent, tasks_of, is_thread}
use Rattle.law_counts_sums.specs.Below.coherent_memory.Sharing.{got_phase, going_on, finished_of, going_notes, goes_on, owes, owed, kept_note, results, has_ended}
use Rattle.law_counts_sums.specs.Below.coherent_memory.OneHeap.{mutex_n, task_n, owns, names, pair_note}
use Rattle.law_counts_sums.specs.Below.coherent_memory.Coherent.{IsSound}
use Rattle.law_counts_sums.proofs.Below.coherent_memory.Sums.{server_parts}
use Rattle.law_counts_sums.proofs.Events.{tot-server}
use Rattle.law_counts_sums.proofs.MutexResults.{Weight, mutex_self, mutex_weighs, has, home, same_shares}
use Rattle.law_counts_sums.proofs.TaskMessages.{tot-gone}
use Rattle.law_counts_sums.proofs.FinishSteps.{task_number}
use Rattle.law_heap_still.specs.events.Shows.{is_named, held_branch, is_held}

-- WEIGHTS OF NAMES

-- of two weights together
pub two_at_most : (f g h : Thing → ℕ) → ((x : Thing) → f x + g x ≤ h x) → (b : List Thing) → tot f b + tot g b ≤ tot h b
two_at_most f g h e [] = omega arith
two_at_most f g h e (x ∷ b) = omega (arith, e x, two_at_most f g h e b)

-- of two against two
pair_at_most : (f g h i : Thing → ℕ) → ((x : Thing) → f x + g x ≤ h x + i x) → (b : List Thing) → tot f b + tot g b ≤ tot h b + tot i b
pair_at_most f g h i e [] = omega arith
pair_at_most f g h i e (x ∷ b) = omega (arith, e x, pair_at_most f g h i e b)

-- of three against two
three_at_most : (f g h i j : Thing → ℕ) → ((x : Thing) → f x + g x + h x ≤ i x + j x) → (b : List Thing) → tot f b + tot g b + tot h b ≤ tot i b + tot j b
three_at_most f g h i j e [] = omega arith
three_at_most f g h i j e (x ∷ b) = omega (arith, e x, three_at_most f g h i j e b)

module _ (m : MutexNo) where
  abbrev names_it : Thing → ℕ
  names_it x = one (names (mutex_n m) x)

  abbrev share_gone : Thing → ℕ
  share_gone (sent r x) = shares_sent m x
  share_gone x = 0

  mutex_owned : (v : Owned) → one (owns (mutex_n m) v) ≤ mutex_values m v
  mutex_owned (owned.Mutex n) = omega arith
  mutex_owned owned.Nothing = omega arith
  mutex_owned owned.Unit = omega arith
  mutex_owned (owned.Int i) = omega arith
  mutex_owned (owned.Box p) = omega arith
  mutex_owned (owned.Task t) = omega arith

  share_or_gone : (x : Thing) → names_it x + share_gone x ≤ shares_of m x
  share_or_gone (holds p v) = omega (arith, mutex_owned v)
  share_or_gone (lies r a c) = omega (arith, mutex_owned c.value)
  share_or_gone (flies w c) = omega (arith, mutex_owned c.value)
  share_or_gone (sent r x) = omega arith
  share_or_gone _ = omega arith

module _ (t : ℕ) where
  abbrev names_thread : Thing → ℕ
  names_thread x = one (names (task_n t) x)

  abbrev task_gone : Thing → ℕ
  task_gone (sent r x) = tasks_sent t x
  task_gone x = 0

  task_owned : (v : Owned) → one (owns (task_n t) v) ≤ task_values t v
  task_owned (owned.Task u) = omega arith
  task_owned owned.Nothing = omega arith
  task_owned owned.Unit = omega arith
  task_owned (owned.Int i) = omega arith
  task_owned (owned.Box p) = omega arith
  task_owned (owned.Mutex m) = omega arith

  task_or_gone : (x : Thing) → names_thread x + task_gone x ≤ tasks_of t x
  task_or_gone (holds p v) = omega (arith, task_owned v)
  task_or_gone (lies r a c) = omega (arith, task_owned c.value)
  task_or_gone (flies w c) = omega (arith, task_owned c.value)
  task_or_gone (sent r x) = omega arith
  task_or_gone _ = omega arith

  -- WHERE ITS RESULT IS

  abbrev is_kept : TaskState → ℕ
  is_kept (kept v) = 1
  is_kept x = 0

  abbrev is_let_go : TaskState → ℕ
  is_let_go let_go = 1
  is_let_go x = 0

  -- notes of the thread in a state
  abbrev pub notes_as : (TaskState → ℕ) → Thing → ℕ
  notes_as f (noted r x) = if_so (x.thread == t) (f x.state)
  notes_as f x = 0

  abbrev finishes : Thing → ℕ
  finishes (sent r m) = finished_of t m
  finishes x = 0

  -- a thread that stands goes on or has ended
  both_parts : (a z o : Bool) → one (a && (not z && not o)) + one (a && (not z && o)) ≤ one a
  both_parts true true o = omega arith
  both_parts true false true = omega arith
  both_parts true false false = omega arith
  both_parts false z o = omega arith

  one_or_other : (x : Thing) → goes_on t x + has_ended t x ≤ is_thread t x + finishes x
  one_or_other (stands r p x) = omega (arith, both_parts (x.number == t) (x.number == 0) (is_over x.phase))
  one_or_other (sent r m) = omega arith
  one_or_other _ = omega arith

  ended_there : (x : Thing) → has_ended t x + 0 ≤ is_thread t x
  ended_there (stands r p x) = omega (arith, both_parts (x.number == t) (x.number == 0) (is_over x.phase))
  ended_there _ = omega arith

  some_at_most : (c : ℕ) → one (some c) ≤ c
  some_at_most zero = omega arith
  some_at_most (suc c) = omega arith

  -- a branch is noted as one that goes on, or its result stands there
  kept_branch : (q : Bool) (x : TaskState) → if_so q (pair_note x) + if_so q (is_kept x) ≤ one (q && going_on x) + if_so q (kept_note x)
  kept_branch true going = omega arith
  kept_branch true let_go = omega arith
  kept_branch true (kept v) = omega arith
  kept_branch true (asked r u) = omega arith
  kept_branch true (in_pair p true) = omega arith
  kept_branch true (in_pair p false) = omega arith
  kept_branch false x = omega arith

  module _ (s : Sight) where
    kept_or_branch : (x : Thing) → held_branch t x + notes_as is_kept x ≤ going_notes t x + results s t x
    kept_or_branch (noted r x) = kept_branch (x.thread == t) x.state
    kept_or_branch (stands r p x) = omega (arith, some_at_most (got_phase t x.phase))
    kept_or_branch _ = omega arith

    kept_or_finished : (x : Thing) → notes_as is_kept x + finishes x ≤ results s t x
    kept_or_finished (noted r x) = omega (arith, by (x.thread == t) x.state)
      where
        by : (q : Bool) (x : TaskState) → if_so q (is_kept x) ≤ if_so q (kept_note x)
        by true (kept v) = omega arith
        by true going = omega arith
        by true let_go = omega arith
        by true (asked r u) = omega arith
        by true (in_pair p o) = omega arith
        by false x = omega arith
    kept_or_finished (sent r m) = omega arith
    kept_or_finished _ = omega arith

    finished_once : (x : Thing) → finishes x + 0 ≤ results s t x
    finished_once (sent r m) = omega arith
    finished_once _ = omega arith

    -- nor is a thread in a pair or owed to a task value that is let go
    let_go_branch : (q : Bool) (x : TaskState) → if_so q (pair_note x) + if_so q (is_let_go x) ≤ one (q && going_on x) + if_so q (kept_note x)
    let_go_branch true going = omega arith
    let_go_branch true let_go = omega arith
    let_go_branch true (kept v) = omega arith
    let_go_branch true (asked r u) = omega arith
    let_go_branch true (in_pair p true) = omega arith
    let_go_branch true (in_pair p false) = omega arith
    let_go_branch false x = omega arith

    let_go_owes : (q : Bool) (x : TaskState) → one (q && owes x) + if_so q (is_let_go x) ≤ one (q && going_on x) + if_so q (kept_note x)
    let_go_owes true going = omega arith
    let_go_owes true let_go = omega arith
    let_go_owes true (kept v) = omega arith
    let_go_owes true (asked r u) = omega arith
    let_go_owes true (in_pair p true) = omega arith
    let_go_owes true (in_pair p false) = omega arith
    let_go_owes false x = omega arith

    branch_let_go : (x : Thing) → held_branch t x + notes_as is_let_go x + finishes x ≤ going_notes t x + results s t x
    branch_let_go (noted r x) = omega (arith, let_go_branch (x.thread == t) x.state)
    branch_let_go (sent r m) = omega arith
    branch_let_go (stands r p x) = omega (arith, some_at_most (got_phase t x.phase))
    branch_let_go _ = omega arith

    owed_let_go : (x : Thing) → owed s t x + notes_as is_let_go x + finishes x ≤ going_notes t x + results s t x
    owed_let_go (noted r x) = omega (arith, let_go_owes (x.thread == t) x.state)
    owed_let_go (sent r m) = omega arith
    owed_let_go (stands r p x) = omega arith
    owed_let_go _ = omega arith

-- IN A SOUND CLUSTER

module _ (k : Cluster) (sound : IsSound k) (number : ℕ) (s : Server) (here : server_at k.servers number ≡ Some s) where
  abbrev n : ℕ
  n = s.rest.number

  abbrev a : List Thing
  a = things_of k

  -- a note that is found counts
  pub note_counts : (u : ℕ) (f : TaskState → ℕ) (y : Task) (z : TaskState) → task_in s.rest.tasks u ≡ Some y → y.state ≡ z → f z ≤ tot (notes_as u f) a
  note_counts u f y z q h =
      let g = notes_as u f in
      let mine : g (noted n y) ≡ f z =
      ap₂ (λ i (x : TaskState). if_so (i == u) (f x)) (task_number s.rest.tasks u y q) h ∙ ap (λ b. if_so b (f z)) (eq-eqb u u refl) in
      omega (arith, mine, (tot-server g k.servers number s s here).0, server_parts g s, tot-gone g n s.rest.tasks u y q)

  -- each thread's result is in one place, and it goes on or has ended
  few_results : (t : ℕ) → tot (results (sight k) t) a ≤ tot (has_ended t) a
  few_results t = sound.mutexes_and_tasks.one_result t

  some_none : (c : ℕ) → c ≡ 0 → some c ≡ false
  some_none c e = ap some e

  module _ (i : ℕ) where
    -- a content comes back to a mutex without a share
    pub shareless : (m : MutexNo) (v : Owned) (y : Mutex) → slice_get s.rest.inbox i ≡ Some (message.Unlock m v) → mutex_in s.rest.mutexes.there m ≡ Some y → y.shares ≡ 0 → is_named (sight k) (mutex_n m) ≡ false
    shareless m v y q e z =
        let weighs : Weight m n (λ x. x.shares) (mutex_in s.rest.mutexes.there m) ≡ y.shares = ap (Weight m n (λ x. x.shares)) e in
        some_none (tot (names_it m) a) (omega (
          arith,
          z,
          weighs,
          two_at_most (names_it m) (share_gone m) (shares_of m) (share_or_gone m) a,
          sound.mutexes_and_tasks.shares_counted m,
          same_shares k sound number s here m a,
          mutex_weighs k sound number s here m (λ x. x.shares) (home k sound number s here i (message.Unlock m v) q m refl),
        ))

    -- the last share of a mutex is dropped
    pub last_share : (m : MutexNo) (y : Mutex) → slice_get s.rest.inbox i ≡ Some (message.Release (released.Mutex m)) → mutex_in s.rest.mutexes.there m ≡ Some y → y.shares ≡ 1 → is_named (sight k) (mutex_n m) ≡ false
    last_share m y q e z =
        let x = message.Release (released.Mutex m) in
        let weighs : Weight m n (λ x. x.shares) (mutex_in s.rest.mutexes.there m) ≡ y.shares = ap (Weight m n (λ x. x.shares)) e in
        let mine : share_gone m (sent n x) ≡ 1 = ap one (mutex_self m) in
        some_none (tot (names_it m) a) (omega (
          arith,
          z,
          weighs,
          mine,
          has k sound number s here i x q (share_gone m),
          two_at_most (names_it m) (share_gone m) (shares_of m) (share_or_gone m) a,
          sound.mutexes_and_tasks.shares_counted m,
          same_shares k sound number s here m a,
          mutex_weighs k sound number s here m (λ x. x.shares) (home k sound number s here i x q m refl),
        ))

    -- the task value of a thread is dropped
    pub task_dropped : (u : ℕ) → slice_get s.rest.inbox i ≡ Some (message.Release (released.Task u)) → is_named (sight k) (task_n u) ≡ false
    task_dropped u q =
        let x = message.Release (released.Task u) in
        let mine : task_gone u (sent n x) ≡ 1 = ap one (eq-eqb u u refl) in
        some_none (tot (names_thread u) a)
        (omega (arith, mine, has k sound number s here i x q (task_gone u), two_at_most (names_thread u) (task_gone u) (tasks_of u) (task_or_gone u) a, sound.mutexes_and_tasks.one_task_value u))

    -- a thread whose result is kept is no branch
    pub kept_alone : (u : ℕ) (y : Task) (v : Owned) → task_in s.rest.tasks u ≡ Some y → y.state ≡ kept v → is_held (sight k) u ≡ false
    kept_alone u y v q h =
        some_none (tot (held_branch u) a) (omega (
          arith,
          note_counts u (is_kept u) y (kept v) q h,
          pair_at_most (held_branch u) (notes_as u (is_kept u)) (going_notes u) (results (sight k) u) (kept_or_branch u (sight k)) a,
          two_at_most (notes_as u (is_kept u)) (finishes u) (results (sight k) u) (kept_or_finished u (sight k)) a,
          pair_at_most (goes_on u) (has_ended u) (is_thread u) (finishes u) (one_or_other u) a,
          two_at_most (has_ended u) (λ x. 0) (is_thread u) (ended_there u) a,
          sound.mutexes_and_tasks.noted_go_on u,
          few_results u,
          sound.names.numbers_differ u,
        ))

    -- a thread that was let go has finished
    module _ (u : ℕ) (v : Owned) (y : Task) (q : slice_get s.rest.inbox i ≡ Some (message.Finished u v)) (e : task_in s.rest.tasks u ≡ Some y) (h : y.state ≡ let_go) where
      mine : finishes u (sent n (message.Finished u v)) ≡ 1
      mine = ap one (eq-eqb u u refl)

      pub nobody_waits : is_held (sight k) u ≡ false
      nobody_waits =
          some_none (tot (held_branch u) a) (omega (
            arith,
            mine,
            has k sound number s here i (message.Finished u v) q (finishes u),
            note_counts u (is_let_go u) y let_go e h,
            three_at_most (held_branch u) (notes_as u (is_let_go u)) (finishes u) (going_notes u) (results (sight k) u) (branch_let_go u (sight k)) a,
            two_at_most (finishes u) (λ x. 0) (results (sight k) u) (finished_once u (sight k)) a,
            pair_at_most (goes_on u) (has_ended u) (is_thread u) (finishes u) (one_or_other u) a,
            sound.mutexes_and_tasks.noted_go_on u,
            few_results u,
            sound.names.numbers_differ u,
          ))

      pub nobody_has_it : is_named (sight k) (task_n u) ≡ false
      nobody_has_it =
          some_none (tot (names_thread u) a) (omega (
            arith,
            mine,
            has k sound number s here i (message.Finished u v) q (finishes u),
            note_counts u (is_let_go u) y let_go e h,
            three_at_most (owed (sight k) u) (notes_as u (is_let_go u)) (finishes u) (going_notes u) (results (sight k) u) (owed_let_go u (sight k)) a,
            two_at_most (finishes u) (λ x. 0) (results (sight k) u) (finished_once u (sight k)) a,
            two_at_most (names_thread u) (task_gone u) (tasks_of u) (task_or_gone u) a,
            pair_at_most (goes_on u) (has_ended u) (is_thread u) (finishes u) (one_or_other u) a,
            sound.mutexes_and_tasks.task_values_owed u,
            sound.mutexes_and_tasks.noted_go_on u,
            few_results u,
            sound.names.numbers_differ u,
          ))
