-- What stands in a cluster that is finished: its threads have nothing, and no message is under way.
use Rattle.std.proofs.Common.{◌≡◌, ℕ, ◌+◌, ◌≤◌, ◌==◌, ◌&&◌, is_some, Bool, true, false, zero, suc, if◌then◌else◌, List, [], ◌∷◌, ◌++◌, length, Option, Some, None, refl, sym, subst, arith}
use Rattle.law_runs_coherent.specs.Below.fr_base.declared.name.MutexNo.{MutexNo}
use Rattle.law_runs_coherent.specs.Below.heap_partition.declared.value.Cell.{Cell}
use Rattle.law_runs_coherent.specs.Below.heap_partition.declared.value.Owned.{Owned}
use Rattle.law_runs_coherent.specs.Below.read_cache.Cache.{Copy}
use Rattle.law_runs_coherent.specs.Below.mutex_home.Mutexes.{Mutex}
use Rattle.law_runs_coherent.specs.Below.join_home.Tasks.{Task, TaskState, kept}
use Rattle.law_runs_coherent.specs.Below.thread_state.View.{ThreadState, is_over}
use Rattle.law_runs_coherent.specs.Below.thread_state.declared.phase.Phase.{Phase}
use Rattle.law_runs_coherent.specs.Below.thread_state.declared.phase.Phase.TheVariants as phase
use Rattle.law_runs_coherent.specs.Below.thread_state.declared.value.Value.{Value}
use Rattle.law_runs_coherent.specs.Below.server_model.Servers.{Server, Cluster}
use Rattle.drive_model.specs.Ending.{is_none, no_message, all_threads, all_in}
use Rattle.law_runs_coherent.specs.Below.coherent_memory.Names.{tot, one, other, if_so, same_mutex}
use Rattle.law_runs_coherent.specs.Below.coherent_memory.Things.{Thing, Spot, as_content, as_result, holds, shares, borrows, locks, lies, flies, vacant, retired, copied, uses, sent, stands, at_home, queued, counts, things_at, is_free, gift_things, walk_things, slot_things, temp_things, thread_things, standing_things, cell_things, free_things, copy_things, content_things, queue_things, mutex_things, result_things, task_things, waiting_things, leaving_things, server_things, servers_things, things_of}
use Rattle.law_runs_coherent.specs.Below.coherent_memory.Follow.{threads_in}
use Rattle.law_runs_coherent.specs.Below.coherent_memory.Sight.{Sight, sight}
use Rattle.law_runs_coherent.specs.Below.coherent_memory.Weights.{shares_at_home}
use Rattle.law_runs_coherent.specs.Below.coherent_memory.Walking.{instr_of, walks_not, still_walks}
use Rattle.law_runs_coherent.specs.Below.coherent_memory.Sharing.{owed, owes, kept_for_none}
use Rattle.law_runs_coherent.specs.Below.coherent_memory.Rooted.{is_end, dressed}
use Rattle.law_runs_coherent.specs.Below.coherent_memory.Coherent.{IsSound}
use Rattle.law_runs_coherent.proofs.Below.coherent_memory.Names.{and_left, and_right}
use Rattle.law_runs_coherent.proofs.Below.coherent_memory.Sums.{tot-append, server_parts}
use Rattle.law_runs_coherent.proofs.Below.law_counts_sums.KnownSound.{on_standing, sum_standing}

-- WHAT IS WRONG WITH A THREAD OR A MUTEX

-- what a thread that is over has, its walk, and a content that is in without a share
abbrev pub wrong : Sight → Thing → ℕ
wrong s x = on_standing (dressed s) x + on_standing still_walks x + kept_for_none x

three : (s : Sight) (b : List Thing) → tot (wrong s) b ≡ tot (on_standing (dressed s)) b + tot (on_standing still_walks) b + tot kept_for_none b
three s [] = refl
three s (x ∷ b) = omega (arith, three s b)

pub none_wrong : (k : Cluster) → IsSound k → tot (wrong (sight k)) (things_of k) ≡ 0
none_wrong k sound =
    let b = things_of k in
    let d : tot (dressed (sight k)) (threads_in b) ≡ 0 = sound.rooted.over_are_bare in
    let w : tot still_walks (threads_in b) ≡ 0 = sound.walks.walk_empty in
    let m : tot kept_for_none b ≡ 0 = sound.mutexes_and_tasks.content_without_shares in
    omega (arith, three (sight k) b, sum_standing (dressed (sight k)) b, sum_standing still_walks b, d, w, m)

-- THREADS THAT ARE OVER

over_walks_not : (p : Phase) → is_over p ≡ true → walks_not p ≡ true
over_walks_not phase.Over e = refl
over_walks_not p e = absurd (cc e)

-- a thread without a gift, a walk, a slot or a temporary value is all that it has
alone : (f : Thing → ℕ) (n t : ℕ) (g : Option Owned) (walk : List ℕ) (slots temps : List Value) → g ≡ None → walk ≡ [] → slots ≡ [] → temps ≡ []
    → tot f (gift_things t g ++ things_at (walk_things n) 0 walk ++ things_at (slot_things n t) 0 slots ++ things_at (temp_things n t) 0 temps) ≡ 0
alone f n t g walk slots temps a b c d =
    subst (λ g. tot f (gift_things t g ++ things_at (walk_things n) 0 walk ++ things_at (slot_things n t) 0 slots ++ things_at (temp_things n t) 0 temps) ≡ 0) (sym a)
    (subst (λ w. tot f (things_at (walk_things n) 0 w ++ things_at (slot_things n t) 0 slots ++ things_at (temp_things n t) 0 temps) ≡ 0) (sym b)
    (subst (λ x. tot f (things_at (slot_things n t) 0 x ++ things_at (temp_things n t) 0 temps) ≡ 0) (sym c) (subst (λ x. tot f (things_at (temp_things n t) 0 x) ≡ 0) (sym d) refl)))

no_length : {X : Type 0} (xs : List X) → length xs ≡ 0 → xs ≡ []
no_length [] e = refl
no_length (x ∷ xs) e = absurd (omega (arith, e))

no_gift : (g : Option Owned) → one (is_some g) ≡ 0 → g ≡ None
no_gift None e = refl
no_gift (Some v) e = absurd (cc e)

if_it_is : (b : Bool) (n : ℕ) → b ≡ true → if_so b n ≡ 0 → n ≡ 0
if_it_is true n e z = z
if_it_is false n e z = absurd (cc e)

over_alone : (s : Sight) (f : Thing → ℕ) (n : ℕ) (x : ThreadState) → is_over x.phase ≡ true → tot (wrong s) (thread_things n false x) ≡ 0 → tot f (thread_things n false x) ≡ f (stands n false x)
over_alone s f n x over z =
    let has : other (is_end (instr_of s (record { server = n; packed = false; thread = x }))) + length x.slots + length x.temps + one (is_some x.gift) ≡ 0 =
    if_it_is (is_over x.phase) _ over (omega (arith, z)) in
    let walk : length x.walk ≡ 0 = if_it_is (walks_not x.phase) (length x.walk) (over_walks_not x.phase over) (omega (arith, z)) in
    let a = alone f n x.number x.gift x.walk x.slots x.temps (no_gift x.gift (omega (arith, has))) (no_length x.walk walk) (no_length x.slots (omega (arith, has))) (no_length x.temps (omega (arith, has))) in
    omega (arith, a)

over_no_gift : (s : Sight) (n : ℕ) (x : ThreadState) → is_over x.phase ≡ true → tot (wrong s) (thread_things n false x) ≡ 0 → x.gift ≡ None
over_no_gift s n x over z =
    let has : other (is_end (instr_of s (record { server = n; packed = false; thread = x }))) + length x.slots + length x.temps + one (is_some x.gift) ≡ 0 = if_it_is (is_over x.phase) _ over (omega (arith, z)) in
    no_gift x.gift (omega (arith, has))

-- PART BY PART

-- of two weights the first is at most the second one on mutexes of which nothing is wrong and on notes; it is nothing on memory, counts and threads that are over and have no gift
pub record Fewer (s : Sight) (f g : Thing → ℕ) : Type 0 where
  pub counted : (n a b c d e : ℕ) → f (counts n a b c d e) ≡ 0
  pub live : (n a : ℕ) (c : Cell) → f (lies n a c) ≡ 0
  pub free : (n a m : ℕ) → f (vacant n a m) ≡ 0
  pub old : (n a : ℕ) → f (retired n a) ≡ 0
  pub copy : (n : ℕ) (c : Copy) → f (copied n c) ≡ 0
  pub mutex : (n i : ℕ) (x : Mutex) → tot (wrong s) (mutex_things n i x) ≡ 0 → tot f (mutex_things n i x) ≤ tot g (mutex_things n i x)
  pub task : (n i : ℕ) (x : Task) → tot f (task_things n i x) ≤ tot g (task_things n i x)
  pub thread : (n : ℕ) (x : ThreadState) → is_over x.phase ≡ true → x.gift ≡ None → f (stands n false x) ≡ 0

module _ (s : Sight) (f g : Thing → ℕ) (u : Fewer s f g) where
  lists : {X : Type 0} (h : ℕ → X → List Thing) → ((i : ℕ) (x : X) → tot (wrong s) (h i x) ≡ 0 → tot f (h i x) ≤ tot g (h i x)) → (i : ℕ) (xs : List X) → tot (wrong s) (things_at h i xs) ≡ 0 → tot f (things_at h i xs) ≤ tot g (things_at h i xs)
  lists h go i [] z = omega arith
  lists h go i (x ∷ xs) z =
      let w = tot-append (wrong s) (h i x) (things_at h (i + 1) xs) in
      omega (arith, go i x (omega (arith, z, w)), lists h go (i + 1) xs (omega (arith, z, w)), tot-append f (h i x) (things_at h (i + 1) xs), tot-append g (h i x) (things_at h (i + 1) xs))

  threads : (n i : ℕ) (ts : List ThreadState) → all_threads is_over ts ≡ true → tot (wrong s) (things_at (standing_things n) i ts) ≡ 0 → tot f (things_at (standing_things n) i ts) ≡ 0
  threads n i [] o z = refl
  threads n i (x ∷ ts) o z =
      let rest = things_at (standing_things n) (i + 1) ts in
      let w = tot-append (wrong s) (thread_things n false x) rest in
      let over = and_left (is_over x.phase) (all_threads is_over ts) o in
      omega (
        arith,
        over_alone s f n x over (omega (arith, z, w)),
        u.thread n x over (over_no_gift s n x over (omega (arith, z, w))),
        threads n (i + 1) ts (and_right (is_over x.phase) (all_threads is_over ts) o) (omega (arith, z, w)),
        tot-append f (thread_things n false x) rest,
      )

  cell_none : (n : ℕ) (free : List (ℕ × ℕ)) (a : ℕ) (c : Option Cell) → tot f (cell_things n free a c) ≡ 0
  cell_none n free a (Some c) = omega (arith, u.live n a c)
  cell_none n free a None = by (is_free a free)
    where
      by : (b : Bool) → tot f (if b then [] else retired n a ∷ []) ≡ 0
      by true = refl
      by false = omega (arith, u.old n a)

  none_of : {X : Type 0} (h : ℕ → X → List Thing) → ((i : ℕ) (x : X) → tot f (h i x) ≡ 0) → (i : ℕ) (xs : List X) → tot f (things_at h i xs) ≡ 0
  none_of h z i [] = refl
  none_of h z i (x ∷ xs) = omega (arith, z i x, none_of h z (i + 1) xs, tot-append f (h i x) (things_at h (i + 1) xs))

  server_fewer : (x : Server) → x.rest.inbox ≡ [] → x.rest.outbox ≡ [] → all_threads is_over x.threads ≡ true → tot (wrong s) (server_things x) ≡ 0 → tot f (server_things x) ≤ tot g (server_things x)
  server_fewer x i o over z =
      let n = x.rest.number in
      let p = x.rest.partition in
      let w = server_parts (wrong s) x in
      let inbox : tot f (things_at (waiting_things n) 0 x.rest.inbox) ≡ 0 = subst (λ ms. tot f (things_at (waiting_things n) 0 ms) ≡ 0) (sym i) refl in
      let outbox : tot f (things_at leaving_things 0 x.rest.outbox) ≡ 0 = subst (λ ms. tot f (things_at leaving_things 0 ms) ≡ 0) (sym o) refl in
      let cells = none_of (cell_things n p.free) (cell_none n p.free) 0 p.cells in
      let free = none_of (free_things n) (λ j y. omega (arith, u.free n y.0 y.1)) 0 p.free in
      let memory = tot-append f (things_at (cell_things n p.free) 0 p.cells) (things_at (free_things n) 0 p.free) in
      let copies = none_of (copy_things n) (λ j y. omega (arith, u.copy n y)) 0 x.rest.cache in
      let mutexes = lists (mutex_things n) (u.mutex n) 0 x.rest.mutexes.there (omega (arith, z, w)) in
      let tasks = lists (task_things n) (λ j y q. u.task n j y) 0 x.rest.tasks (omega (arith, z, w)) in
      let standing = threads n 0 x.threads over (omega (arith, z, w)) in
      omega (arith, server_parts f x, server_parts g x, inbox, outbox, cells, free, memory, copies, mutexes, tasks, standing, u.counted n (length p.cells) p.retired x.rest.started x.rest.mutexes.made x.events)

  servers_fewer : (ss : List Server) → no_message ss ≡ true → all_in is_over ss ≡ true → tot (wrong s) (servers_things ss) ≡ 0 → tot f (servers_things ss) ≤ tot g (servers_things ss)
  servers_fewer [] q o z = omega arith
  servers_fewer (x ∷ ss) q o z =
      let w = tot-append (wrong s) (server_things x) (servers_things ss) in
      let first : is_none x.rest.inbox && is_none x.rest.outbox ≡ true = and_left (is_none x.rest.inbox && is_none x.rest.outbox) (no_message ss) q in
      omega (
        arith,
        server_fewer x (no_item x.rest.inbox (and_left (is_none x.rest.inbox) (is_none x.rest.outbox) first)) (no_item x.rest.outbox (and_right (is_none x.rest.inbox) (is_none x.rest.outbox) first))
            (and_left (all_threads is_over x.threads) (all_in is_over ss) o) (omega (arith, z, w)),
        servers_fewer ss (and_right (is_none x.rest.inbox && is_none x.rest.outbox) (no_message ss) q) (and_right (all_threads is_over x.threads) (all_in is_over ss) o) (omega (arith, z, w)),
        tot-append f (server_things x) (servers_things ss),
        tot-append g (server_things x) (servers_things ss),
      )
    where
      no_item : {X : Type 0} (xs : List X) → is_none xs ≡ true → xs ≡ []
      no_item [] e = refl
      no_item (y ∷ ys) e = absurd (cc e)

-- a cluster that is finished, whose threads are over and in which no message waits
pub record IsFinished (k : Cluster) : Type 0 where
  pub sound : IsSound k
  pub quiet : no_message k.servers ≡ true
  pub over : all_in is_over k.servers ≡ true

pub fewer : (k : Cluster) → IsFinished k → (f g : Thing → ℕ) → Fewer (sight k) f g → tot f (things_of k) ≤ tot g (things_of k)
fewer k e f g u = servers_fewer (sight k) f g u k.servers e.quiet e.over (none_wrong k e.sound)

-- WHAT DOESN'T STAND THERE

abbrev loose_spot : Spot → ℕ
loose_spot (as_content m) = 0
loose_spot (as_result t) = 0
loose_spot p = 1

-- a message, a thread that isn't over or has a gift, and what threads and messages have
abbrev pub loose : Thing → ℕ
loose (holds p v) = loose_spot p
loose (shares l r) = 1
loose (borrows l r) = 1
loose (locks l m) = 1
loose (flies w c) = 1
loose (uses n w) = 1
loose (sent n m) = 1
loose (stands n p x) = other (is_over x.phase) + one (is_some x.gift)
loose x = 0

abbrev nothing : Thing → ℕ
nothing x = 0

nothing_in : (b : List Thing) → tot nothing b ≡ 0
nothing_in [] = refl
nothing_in (x ∷ b) = omega (arith, nothing_in b)

none_queued : (f : Thing → ℕ) (m : MutexNo) → ((n t : ℕ) → f (queued m n t) ≡ 0) → (i : ℕ) (xs : List (ℕ × ℕ)) → tot f (things_at (queue_things m) i xs) ≡ 0
none_queued f m z i [] = refl
none_queued f m z i (x ∷ xs) = omega (arith, z x.0 x.1, none_queued f m z (i + 1) xs)

loose_mutex : (n i : ℕ) (x : Mutex) → tot loose (mutex_things n i x) ≡ 0
loose_mutex n i x = omega (arith, by x.content, none_queued loose x.number (λ n t. refl) 0 x.queue, tot-append loose (content_things x.number x.content) (things_at (queue_things x.number) 0 x.queue))
  where
    by : (c : Option Owned) → tot loose (content_things x.number c) ≡ 0
    by None = refl
    by (Some v) = refl

loose_task : (n i : ℕ) (x : Task) → tot loose (task_things n i x) ≡ 0
loose_task n i x = omega (arith, by x.state)
  where
    by : (c : TaskState) → tot loose (result_things x.thread c) ≡ 0
    by (kept v) = refl
    by _ = refl

loose_fewer : (s : Sight) → Fewer s loose nothing
loose_fewer s = record {
  counted = λ n a b c d e. refl;
  live = λ n a c. refl;
  free = λ n a m. refl;
  old = λ n a. refl;
  copy = λ n c. refl;
  mutex = λ n i x z. omega (arith, loose_mutex n i x);
  task = λ n i x. omega (arith, loose_task n i x);
  thread = λ n x o g. by (is_over x.phase) x.gift o g;
}
  where
    by : (c : Bool) (v : Option Owned) → c ≡ true → v ≡ None → other c + one (is_some v) ≡ 0
    by true None e q = refl
    by true (Some v) e q = absurd (cc q)
    by false v e q = absurd (cc e)

pub none_loose : (k : Cluster) → IsFinished k → tot loose (things_of k) ≡ 0
none_loose k e = omega (arith, fewer k e loose nothing (loose_fewer (sight k)), nothing_in (things_of k))

-- CONTENTS

-- a content of the mutex that is at its home, or in a message
abbrev pub content_held : MutexNo → Thing → ℕ
content_held m (holds (as_content n) v) = one (same_mutex n m)
content_held m x = 0

-- a content that is in has a share
content_shared : (m : MutexNo) (n i : ℕ) (x : Mutex) → kept_for_none (at_home n x) ≡ 0 → tot (content_held m) (mutex_things n i x) ≤ shares_at_home m (at_home n x)
content_shared m n i x z = omega (arith, by x.content z, none_queued (content_held m) x.number (λ n t. refl) 0 x.queue, tot-append (content_held m) (content_things x.number x.content) (things_at (queue_things x.number) 0 x.queue))
  where
    at : (b : Bool) (n : ℕ) → one (n == 0 && true) ≡ 0 → one b ≤ if_so b n
    at false n q = omega arith
    at true zero q = absurd (omega (arith, q))
    at true (suc n) q = omega arith

    by : (c : Option Owned) → one (x.shares == 0 && is_some c) ≡ 0 → tot (content_held m) (content_things x.number c) ≤ if_so (same_mutex x.number m) x.shares
    by None q = omega arith
    by (Some v) q = omega (arith, at (same_mutex x.number m) x.shares q)

content_fewer : (s : Sight) (m : MutexNo) → Fewer s (content_held m) (shares_at_home m)
content_fewer s m = record {
  counted = λ n a b c d e. refl;
  live = λ n a c. refl;
  free = λ n a m. refl;
  old = λ n a. refl;
  copy = λ n c. refl;
  mutex = λ n i x z. omega (arith, content_shared m n i x (omega (arith, z)));
  task = λ n i x. omega (arith, by x.thread x.state);
  thread = λ n x o g. refl;
}
  where
    by : (t : ℕ) (c : TaskState) → tot (content_held m) (result_things t c) ≡ 0
    by t (kept v) = refl
    by t _ = refl

pub contents_shared : (k : Cluster) → IsFinished k → (m : MutexNo) → tot (content_held m) (things_of k) ≤ tot (shares_at_home m) (things_of k)
contents_shared k e m = fewer k e (content_held m) (shares_at_home m) (content_fewer (sight k) m)

-- RESULTS

-- a result of the thread that is kept, or in a message
abbrev pub result_held : ℕ → Thing → ℕ
result_held t (holds (as_result u) v) = one (u == t)
result_held t x = 0

-- a result that is kept is owed
result_owed : (s : Sight) (t n i : ℕ) (x : Task) → tot (result_held t) (task_things n i x) ≤ tot (owed s t) (task_things n i x)
result_owed s t n i x = omega (arith, by x.state)
  where
    at : (b : Bool) → one b ≤ one (b && true)
    at true = omega arith
    at false = omega arith

    by : (c : TaskState) → tot (result_held t) (result_things x.thread c) ≤ one (x.thread == t && owes c)
    by (kept v) = omega (arith, at (x.thread == t))
    by _ = omega arith

result_fewer : (s : Sight) (t : ℕ) → Fewer s (result_held t) (owed s t)
result_fewer s t = record {
  counted = λ n a b c d e. refl;
  live = λ n a c. refl;
  free = λ n a m. refl;
  old = λ n a. refl;
  copy = λ n c. refl;
  mutex = λ n i x z. omega (arith, by x.number x.content, none_queued (result_held t) x.number (λ n u. refl) 0 x.queue, tot-append (result_held t) (content_things x.number x.content) (things_at (queue_things x.number) 0 x.queue));
  task = result_owed s t;
  thread = λ n x o g. refl;
}
  where
    by : (m : MutexNo) (c : Option Owned) → tot (result_held t) (content_things m c) ≡ 0
    by m None = refl
    by m (Some v) = refl

pub results_owed : (k : Cluster) → IsFinished k → (t : ℕ) → tot (result_held t) (things_of k) ≤ tot (owed (sight k) t) (things_of k)
results_owed k e t = fewer k e (result_held t) (owed (sight k) t) (result_fewer (sight k) t)
