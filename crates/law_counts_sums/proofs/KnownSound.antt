-- In a sound cluster what an event reads names servers of the run alone.
use Rattle.std.proofs.Common.{◌≡◌, ℕ, ◌+◌, ◌*◌, ◌^◌, ◌<◌, ◌≤◌, ◌==◌, ◌&&◌, nat_lt, nat_le, Bool, true, false, if◌then◌else◌, List, [], ◌∷◌, ◌++◌, length, Option, Some, None, refl, sym, ap, subst, ◌∙◌, arith}
use Rattle.std.specs.List.{AllByRecursion}
use Rattle.std.proofs.lemmas.Bool.Decides.{nat_tests}
use Rattle.coherent_memory.proofs.Below.fr_typing.PlaceLemmas.{eq_cases}
use Rattle.coherent_memory.specs.Below.fr_base.declared.name.MutexNo.{MutexNo}
use Rattle.coherent_memory.specs.Below.global_addr.Words.{server_of}
use Rattle.coherent_memory.specs.Below.heap_partition.declared.value.Cell.{Cell}
use Rattle.coherent_memory.specs.Below.heap_partition.declared.value.Owned.{Owned}
use Rattle.coherent_memory.specs.Below.heap_partition.declared.value.Owned.TheVariants as owned
use Rattle.coherent_memory.specs.Below.read_cache.Cache.{Copy}
use Rattle.coherent_memory.specs.Below.mutex_home.Mutexes.{Mutex}
use Rattle.coherent_memory.specs.Below.join_home.Tasks.{Task, TaskState, going, let_go, kept, asked, in_pair}
use Rattle.coherent_memory.specs.Below.thread_state.View.{ThreadState}
use Rattle.coherent_memory.specs.Below.thread_state.declared.value.Value.{Value}
use Rattle.coherent_memory.specs.Below.thread_state.declared.value.Value.TheVariants as value
use Rattle.coherent_memory.specs.Below.server_msgs.declared.message.Message.{Message}
use Rattle.coherent_memory.specs.Below.server_msgs.declared.message.Message.TheVariants as message
use Rattle.coherent_memory.specs.Below.server_model.Servers.{Server, Cluster, server_at}
use Rattle.coherent_memory.specs.Names.{tot, one, other}
use Rattle.coherent_memory.specs.Things.{Thing, Location, Spot, vacant, stands, counts, things_at, gift_things, walk_things, value_things, slot_things, temp_things, thread_things, standing_things, content_things, queue_things, mutex_things, task_things, copy_things, cell_things, free_things, waiting_things, things_of}
use Rattle.coherent_memory.specs.Follow.{Standing, threads_in}
use Rattle.coherent_memory.specs.Sight.{Sight, sight, issued}
use Rattle.coherent_memory.specs.Weights.{states, below}
use Rattle.coherent_memory.specs.Placing.{words, owned_word}
use Rattle.coherent_memory.specs.Requests.{home_of, stands_at, other_asker}
use Rattle.coherent_memory.specs.Sharing.{other_home, owned_mutex}
use Rattle.coherent_memory.specs.Walking.{sum_threads}
use Rattle.coherent_memory.specs.Naming.{threads, owned_thread, count_of, uncounted_thread, uncounted_mutex, named_mutexes, events_of, large_counts, servers_wrong, pinned_parcel, options_out}
use Rattle.coherent_memory.specs.Coherent.{IsSound}
use Rattle.coherent_memory.proofs.Names.{and_left, and_right}
use Rattle.coherent_memory.proofs.Sums.{tot-append, server_parts}
use Rattle.law_counts_sums.specs.Laws.{Gives, FewEvents}
use Rattle.law_counts_sums.proofs.Cells.{self_state}
use Rattle.law_counts_sums.proofs.Events.{tot-server}
use Rattle.law_counts_sums.proofs.Each.{at_most}
use Rattle.law_counts_sums.proofs.Askers.{other_none, issued_there, home_there, mutex_there, stands_there}
use Rattle.law_counts_sums.proofs.Known.{Here, OwnedKnown, ValueKnown, CellKnown, CopyKnown, PartitionKnown}
use Rattle.law_counts_sums.proofs.KnownMessages.{MutexKnown, StateKnown, TaskKnown, MessageKnown}

-- of a thread that stands at a server
abbrev pub ThreadKnown : List Server → ThreadState → Type 0
ThreadKnown ss t = Here ss t.home × AllByRecursion (ValueKnown ss) t.slots × AllByRecursion (ValueKnown ss) t.temps

-- a server whose parts, threads and waiting messages name servers of the run alone
pub record ServerKnown (ss : List Server) (s : Server) : Type 0 where
  pub partition : PartitionKnown ss s.rest.partition
  pub copies : AllByRecursion (CopyKnown ss) s.rest.cache
  pub mutexes : AllByRecursion (MutexKnown ss) s.rest.mutexes.there
  pub tasks : AllByRecursion (TaskKnown ss) s.rest.tasks
  pub standing : AllByRecursion (ThreadKnown ss) s.threads
  pub waiting : AllByRecursion (MessageKnown ss) s.rest.inbox

-- THREADS AS THINGS

-- a weight of threads, as one of things
abbrev pub on_standing : (Standing → ℕ) → Thing → ℕ
on_standing f (stands s p t) = f (record { server = s; packed = p; thread = t })
on_standing f x = 0

pub sum_standing : (f : Standing → ℕ) (b : List Thing) → tot (on_standing f) b ≡ tot f (threads_in b)
sum_standing f [] = refl
sum_standing f (stands s p t ∷ b) = omega (arith, sum_standing f b)
sum_standing f (_ ∷ b) = omega (arith, sum_standing f b)

-- THE SERVERS OF A RUN

reaches : (q : Sight) (m : ℕ) (ss : List Server) → servers_wrong q m ss ≡ 0 → m + length ss ≡ q.options.servers
reaches q m [] z = grind (arith, nat_tests, other_none (m == q.options.servers) z)
reaches q m (x ∷ ss) z = omega (arith, reaches q (m + 1) ss (omega (arith, z)))

partition_server : (q : Sight) (m n : ℕ) (ss : List Server) (s : Server) → servers_wrong q m ss ≡ 0 → server_at ss n ≡ Some s → (s.rest.partition.server ≡ n) × (n < q.options.servers)
partition_server q m n [] s z h = absurd (cc h)
partition_server q m n (x ∷ ss) s z h =
    let few = reaches q m (x ∷ ss) z in
    let numbered : x.rest.number ≡ m = grind (arith, nat_tests, other_none (x.rest.number == m) (omega (arith, z))) in
    let placed : x.rest.partition.server ≡ m = grind (arith, nat_tests, other_none (x.rest.partition.server == m) (omega (arith, z))) in
    eq_cases (λ b. (if b then Some x else server_at ss n) ≡ Some s → (s.rest.partition.server ≡ n) × (n < q.options.servers)) x.rest.number n
    (λ e d. let same : x ≡ s = cc in subst (λ (y : Server). (y.rest.partition.server ≡ n) × (n < q.options.servers)) same (placed ∙ sym numbered ∙ e, omega (arith, e, numbered, few)))
    (λ ne d. partition_server q (m + 1) n ss s (omega (arith, z)) d) h

-- FREE ADDRESSES

-- no address from 2 ^ 40 on is below a next one, where few events were done
module _ (s a n : ℕ) (far : 2 ^ 40 ≤ a) (few : 16 * n < 2 ^ 40) where
  none_below : (x : Thing) → large_counts n x ≡ 0 → below (s, a) x ≡ 0
  none_below (counts r next old started made events) z = by (r == s) (nat_lt a next) refl
    where
      by : (b c : Bool) → nat_lt a next ≡ c → one (b && c) ≡ 0
      by false c e = refl
      by true false e = refl
      by true true e =
          let l : a < next = grind (arith, nat_tests, e) in
          let m : next ≤ 16 * n = at_most next (16 * n) (omega (arith, z)) in
          absurd (omega (arith, l, m, far, few))
  none_below _ z = refl

  all_below : (b : List Thing) → tot (large_counts n) b ≡ 0 → tot (below (s, a)) b ≡ 0
  all_below [] z = refl
  all_below (x ∷ b) z = omega (arith, none_below x (omega (arith, z)), all_below b (omega (arith, z)))

-- a run has one server at least, and 64 at most
pub servers_between : (k : Cluster) → IsSound k → (1 ≤ k.options.servers) × (k.options.servers ≤ 64)
servers_between k sound =
    let n = k.options.servers in
    let out : options_out k.options ≡ 0 = sound.parts.options_in_range in
    let within : nat_le 1 n && nat_le n 64 ≡ true = other_none (nat_le 1 n && nat_le n 64) (omega (arith, out)) in
    let low : nat_le 1 n ≡ true = and_left (nat_le 1 n) (nat_le n 64) within in
    let high : nat_le n 64 ≡ true = and_right (nat_le 1 n) (nat_le n 64) within in
    (grind (arith, nat_tests, low), grind (arith, nat_tests, high))

module _ (k : Cluster) (sound : IsSound k) where
  abbrev ss : List Server
  ss = k.servers

  -- a word that wasn't issued, a thread or a mutex that isn't counted at its home, one that asks and stands elsewhere, a thread with another home
  abbrev stray : Thing → ℕ
  stray x = words (λ w. other (issued (sight k) w)) x + threads (uncounted_thread (sight k)) x + named_mutexes (uncounted_mutex (sight k)) x + other_asker (sight k) x + on_standing other_home x

  five : (b : List Thing) → tot stray b ≡ tot (words (λ w. other (issued (sight k) w))) b + tot (threads (uncounted_thread (sight k))) b + tot (named_mutexes (uncounted_mutex (sight k))) b + tot (other_asker (sight k)) b + tot (on_standing other_home) b
  five [] = refl
  five (x ∷ b) = omega (arith, five b)

  none_stray : tot stray (things_of k) ≡ 0
  none_stray =
      let a : tot (words (λ w. other (issued (sight k) w))) (things_of k) ≡ 0 = sound.words.are_issued in
      let b : tot (threads (uncounted_thread (sight k))) (things_of k) + tot (named_mutexes (uncounted_mutex (sight k))) (things_of k) ≡ 0 = sound.names.names_counted in
      let c : tot (other_asker (sight k)) (things_of k) ≡ 0 = sound.requests.askers_stand in
      let d : tot other_home (threads_in (things_of k)) ≡ 0 = sound.mutexes_and_tasks.thread_homes in
      omega (arith, five (things_of k), a, b, c, d, sum_standing other_home (things_of k))

  -- NAMES

  word_here : (w : ℕ) → other (issued (sight k) w) ≡ 0 → Here ss (server_of w)
  word_here w z = issued_there k sound w (other_none (issued (sight k) w) z)

  thread_here : (t : ℕ) → uncounted_thread (sight k) t ≡ 0 → Here ss (home_of t)
  thread_here t z = home_there k sound (home_of t) (count_of t) (other_none _ z)

  mutex_here : (m : MutexNo) → uncounted_mutex (sight k) m ≡ 0 → Here ss m.home
  mutex_here m z = mutex_there k sound m.home m.count (other_none _ z)

  asker_here : (t r : ℕ) → other (stands_at (sight k) t r) ≡ 0 → Here ss r
  asker_here t r z = stands_there k sound t r (other_none (stands_at (sight k) t r) z)

  owned_right : (v : Owned) → owned_word (λ w. other (issued (sight k) w)) v + owned_thread (uncounted_thread (sight k)) v + owned_mutex (uncounted_mutex (sight k)) v ≡ 0 → OwnedKnown ss v
  owned_right (owned.Box p) z = word_here p.word (omega (arith, z))
  owned_right (owned.Mutex m) z = mutex_here m (omega (arith, z))
  owned_right (owned.Task t) z = thread_here t (omega (arith, z))
  owned_right owned.Nothing z = tt
  owned_right owned.Unit z = tt
  owned_right (owned.Int n) z = tt

  -- LISTS

  each : {X : Type 0} (g : ℕ → X → List Thing) (P : X → Type 0) → ((i : ℕ) (x : X) → tot stray (g i x) ≡ 0 → P x) → (i : ℕ) (xs : List X) → tot stray (things_at g i xs) ≡ 0 → AllByRecursion P xs
  each g P go i [] z = tt
  each g P go i (x ∷ xs) z =
      let a = tot-append stray (g i x) (things_at g (i + 1) xs) in
      (go i x (omega (arith, z, a)), each g P go (i + 1) xs (omega (arith, z, a)))

  -- THREADS

  value_right : (n : ℕ) (p : Spot) (l : Location) (v : Value) → tot stray (value_things n p l v) ≡ 0 → ValueKnown ss v
  value_right n p l (value.Own v) z = owned_right v (omega (arith, z))
  value_right n p l (value.Shared r) z = word_here r.word (omega (arith, z))
  value_right n p l (value.Mut r) z = word_here r.word (omega (arith, z))
  value_right n p l (value.Held m) z = mutex_here m (omega (arith, z))
  value_right n p l value.Gone z = tt
  value_right n p l (value.SharedSlot i) z = tt
  value_right n p l (value.MutSlot i) z = tt

  thread_right : (n : ℕ) (t : ThreadState) → tot stray (thread_things n false t) ≡ 0 → ThreadKnown ss t
  thread_right n t z =
      let gift = gift_things t.number t.gift in
      let walk = things_at (walk_things n) 0 t.walk in
      let slots = things_at (slot_things n t.number) 0 t.slots in
      let temps = things_at (temp_things n t.number) 0 t.temps in
      let a = tot-append stray (gift ++ walk ++ slots) temps in
      let b = tot-append stray (gift ++ walk) slots in
      let home : t.home ≡ home_of t.number = grind (arith, nat_tests, other_none (t.home == home_of t.number) (omega (arith, z))) in (
        subst (Here ss) (sym home) (thread_here t.number (omega (arith, z))),
        each (slot_things n t.number) (ValueKnown ss) (λ i v y. value_right n _ _ v y) 0 t.slots (omega (arith, z, a, b)),
        each (temp_things n t.number) (ValueKnown ss) (λ i v y. value_right n _ _ v y) 0 t.temps (omega (arith, z, a, b)),
      )

  -- PARTS OF A SERVER

  cell_right : (n : ℕ) (free : List (ℕ × ℕ)) (i : ℕ) (c : Option Cell) → tot stray (cell_things n free i c) ≡ 0 → CellKnown ss c
  cell_right n free i None z = tt
  cell_right n free i (Some c) z = owned_right c.value (omega (arith, z))

  copy_right : (n i : ℕ) (c : Copy) → tot stray (copy_things n i c) ≡ 0 → CopyKnown ss c
  copy_right n i c z = owned_right c.cell.value (omega (arith, z))

  content_right : (m : MutexNo) (v : Option Owned) → tot stray (content_things m v) ≡ 0 → Gives (OwnedKnown ss) v
  content_right m None z = tt
  content_right m (Some v) z = owned_right v (omega (arith, z))

  mutex_right : (n i : ℕ) (m : Mutex) → tot stray (mutex_things n i m) ≡ 0 → MutexKnown ss m
  mutex_right n i m z =
      let a = tot-append stray (content_things m.number m.content) (things_at (queue_things m.number) 0 m.queue) in record {
        inside = content_right m.number m.content (omega (arith, z, a));
        waiting = each (queue_things m.number) (λ (x : ℕ × ℕ). Here ss x.0) (λ j x y. asker_here x.1 x.0 (omega (arith, y))) 0 m.queue (omega (arith, z, a));
      }

  task_right : (n i : ℕ) (x : Task) → tot stray (task_things n i x) ≡ 0 → TaskKnown ss x
  task_right n i x z = by x.state refl
    where
      by : (s : TaskState) → x.state ≡ s → StateKnown ss s
      by (asked r t) e =
          let y : tot stray (task_things n i (record { thread = x.thread; state = asked r t })) ≡ 0 = subst (λ s. tot stray (task_things n i (record { thread = x.thread; state = s })) ≡ 0) e z in
          asker_here t r (omega (arith, y))
      by (kept v) e =
          let y : tot stray (task_things n i (record { thread = x.thread; state = kept v })) ≡ 0 = subst (λ s. tot stray (task_things n i (record { thread = x.thread; state = s })) ≡ 0) e z in
          owned_right v (omega (arith, y))
      by going e = tt
      by let_go e = tt
      by (in_pair p o) e = tt

  message_right : (n i : ℕ) (m : Message) → tot stray (waiting_things n i m) ≡ 0 → MessageKnown ss m
  message_right n i (message.Fetch w o r t) z = asker_here t r (omega (arith, z))
  message_right n i (message.Move w o r t) z = asker_here t r (omega (arith, z))
  message_right n i (message.Lock m r t) z = asker_here t r (omega (arith, z))
  message_right n i (message.Dup m r t) z = asker_here t r (omega (arith, z))
  message_right n i (message.Join u r t) z = asker_here t r (omega (arith, z))
  message_right n i (message.Unlock m v) z = owned_right v (omega (arith, z))
  message_right n i (message.Finished u v) z = owned_right v (omega (arith, z))
  message_right n i (message.Fetched w c t) z = tt
  message_right n i (message.Moved w c t) z = tt
  message_right n i (message.Drop w o) z = tt
  message_right n i (message.Granted m v t) z = tt
  message_right n i (message.Dupped m t) z = tt
  message_right n i (message.Release x) z = tt
  message_right n i (message.Start t) z = tt
  message_right n i (message.Joined u v t) z = tt
  message_right n i (message.Migrate t) z = tt

  -- PARTITIONS

  module _ (few : FewEvents k) where
    near : (n a c : ℕ) → ((f : Thing → ℕ) → f (vacant n a c) ≤ tot f (things_of k)) → a < 2 ^ 40
    near n a c there = by (nat_lt a (2 ^ 40)) refl
      where
        by : (b : Bool) → nat_lt a (2 ^ 40) ≡ b → a < 2 ^ 40
        by true e = grind (arith, nat_tests, e)
        by false e =
            let far : 2 ^ 40 ≤ a = grind (arith, nat_tests, e) in
            let large : tot (large_counts (events_of (sight k))) (things_of k) ≡ 0 = sound.names.counts_bounded in
            let none = all_below n a (events_of (sight k)) far (omega (arith, few)) (things_of k) large in
            absurd (omega (arith, none, sound.words.one_state (n, a), there (states (n, a)), self_state n a))

    free_right : (n i : ℕ) (xs : List (ℕ × ℕ)) → ((f : Thing → ℕ) → tot f (things_at (free_things n) i xs) ≤ tot f (things_of k)) → AllByRecursion (λ (x : ℕ × ℕ). x.0 < 2 ^ 40) xs
    free_right n i [] there = tt
    free_right n i (x ∷ xs) there = (near n x.0 x.1 (λ f. omega (arith, there f)), free_right n (i + 1) xs (λ f. omega (arith, there f)))

    pub server_known : (n : ℕ) (s : Server) → server_at ss n ≡ Some s → ServerKnown ss s
    server_known n s h =
        let m = s.rest.number in
        let p = s.rest.partition in
        let cells = things_at (cell_things m p.free) 0 p.cells in
        let free = things_at (free_things m) 0 p.free in
        let all = server_parts stray s in
        let z : tot stray (Rattle.coherent_memory.specs.Things.server_things s) ≡ 0 = omega (arith, none_stray, (tot-server stray ss n s s h).0) in
        let parts : servers_wrong (sight k) 0 ss + sum_threads (sight k) pinned_parcel ≡ 0 = sound.parts.parts_are_typed in
        let placed = partition_server (sight k) 0 n ss s (omega (arith, parts)) h in
        let few_servers = servers_between k sound in record {
          partition = record {
            cells_known = each (cell_things m p.free) (CellKnown ss) (cell_right m p.free) 0 p.cells (omega (arith, z, all, tot-append stray cells free));
            addresses = free_right m 0 p.free (λ f. omega (arith, (tot-server f ss n s s h).0, server_parts f s, tot-append f cells free));
            here = subst (Here ss) (sym placed.0) (ap Rattle.std.specs.Prelude.is_some h);
            small = omega (arith, placed.0, placed.1, few_servers.1);
          };
          copies = each (copy_things m) (CopyKnown ss) (copy_right m) 0 s.rest.cache (omega (arith, z, all));
          mutexes = each (mutex_things m) (MutexKnown ss) (mutex_right m) 0 s.rest.mutexes.there (omega (arith, z, all));
          tasks = each (task_things m) (TaskKnown ss) (task_right m) 0 s.rest.tasks (omega (arith, z, all));
          standing = each (standing_things m) (ThreadKnown ss) (λ i t y. thread_right m t y) 0 s.threads (omega (arith, z, all));
          waiting = each (waiting_things m) (MessageKnown ss) (message_right m) 0 s.rest.inbox (omega (arith, z, all));
        }
