-- The number of a thread that starts is new: the count of each thread that is named is at most what its home has started.
use Rattle.std.proofs.Common.{◌≡◌, ℕ, ◌+◌, ◌*◌, ◌^◌, ◌<◌, ◌≤◌, ◌==◌, ◌&&◌, nat_le, Bool, true, false, List, [], ◌∷◌, ◌++◌, Some, refl, sym, ap, subst, ◌∙◌, arith}
use Rattle.std.proofs.lemmas.Bool.Decides.{nat_tests}
use Rattle.coherent_memory.proofs.Below.fr_typing.PlaceLemmas.{eq_cases}
use Rattle.coherent_memory.specs.Below.fr_base.declared.release.Released.TheVariants as released
use Rattle.coherent_memory.specs.Below.heap_partition.declared.value.Owned.{Owned}
use Rattle.coherent_memory.specs.Below.heap_partition.declared.value.Owned.TheVariants as owned
use Rattle.coherent_memory.specs.Below.thread_state.View.{ThreadState}
use Rattle.coherent_memory.specs.Below.server_msgs.declared.message.Message.{Message}
use Rattle.coherent_memory.specs.Below.server_msgs.declared.message.Message.TheVariants as message
use Rattle.coherent_memory.specs.Below.server_model.Servers.{Server, Cluster, server_at}
use Rattle.coherent_memory.specs.Names.{tot, one, other, some, task_values}
use Rattle.coherent_memory.specs.Things.{Thing, holds, lies, flies, sent, stands, counts, servers_things, things_of}
use Rattle.coherent_memory.specs.Weights.{cells, owners, states, below, uses_of, users_of, shares_of, shares_at_home, tasks_of, tasks_sent, is_thread}
use Rattle.coherent_memory.specs.Sight.{sight}
use Rattle.coherent_memory.specs.Naming.{threads, owned_thread, message_thread, started_at, uncounted_thread, count_of}
use Rattle.coherent_memory.specs.Requests.{home_of}
use Rattle.coherent_memory.specs.Coherent.{Holds, names_counted}
use Rattle.law_counts_sums.specs.Sums.{Sums, is_server}
use Rattle.law_counts_sums.proofs.Trades.{Trade, Same, tot-append}
use Rattle.law_counts_sums.proofs.Rules.{Kept}
use Rattle.law_counts_sums.proofs.RulesKeep.{thread_falls, task_same, sums_kept}
use Rattle.law_counts_sums.proofs.Bags.{counts_of, body_things, rest_things, all_standing, server_same}
use Rattle.law_counts_sums.proofs.Boxes.{tot_le}
use Rattle.law_counts_sums.proofs.Events.{others_of, tot-server}

-- no thread that a server starts after so many is there, and no task value of one that it starts after so many; of each thread there are so many task values
pub record NewNames (c : ℕ → ℕ) (n i j : ℕ) (b : List Thing) : Type 0 where
  pub sums : Sums b
  pub counted : (t : ℕ) → tot (tasks_of t) b ≡ c t
  pub threads : (u : ℕ) → i < u → u < 2 ^ 32 → tot (is_thread (n * 2 ^ 32 + u)) b ≡ 0
  pub tasks : (u : ℕ) → j < u → u < 2 ^ 32 → tot (tasks_of (n * 2 ^ 32 + u)) b ≡ 0

pub names_kept : (c : ℕ → ℕ) (n i j : ℕ) → Kept (NewNames c n i j)
names_kept w n i j = record {
  same = λ a b e k. record {
    sums = sums_kept.same a b e k.sums;
    counted = λ u. omega (arith, e (tasks_of u), k.counted u);
    threads = λ c l m. omega (arith, e (is_thread (n * 2 ^ 32 + c)), k.threads c l m);
    tasks = λ c l m. omega (arith, e (tasks_of (n * 2 ^ 32 + c)), k.tasks c l m);
  };
  trades = λ t r k. record {
    sums = sums_kept.trades t r k.sums;
    counted = λ u. omega (arith, t.before (tasks_of u), t.after (tasks_of u), task_same u _ _ r, k.counted u);
    threads = λ c l m. let u = n * 2 ^ 32 + c in omega (arith, t.before (is_thread u), t.after (is_thread u), thread_falls u _ _ r, k.threads c l m);
    tasks = λ c l m. let u = n * 2 ^ 32 + c in omega (arith, t.before (tasks_of u), t.after (tasks_of u), task_same u _ _ r, k.tasks c l m);
  };
  placed = λ b k. sums_kept.placed b k.sums;
}

-- WHAT IS NAMED NOWHERE

-- a name that weighs one, where all names weigh nothing together
module _ (f : ℕ → ℕ) (t : ℕ) (h : f t ≡ 1) where
  same_none : (u : ℕ) → f u ≡ 0 → one (u == t) ≡ 0
  same_none u z = eq_cases (λ q. one q ≡ 0) u t (λ e. absurd (omega (arith, h, ap f e, z))) (λ ne. refl)

  owned_none : (v : Owned) → owned_thread f v ≡ 0 → task_values t v ≡ 0
  owned_none (owned.Task u) z = same_none u z
  owned_none _ z = refl

  sent_none : (m : Message) → message_thread f m ≡ 0 → tasks_sent t m ≡ 0
  sent_none (message.Release (released.Task u)) z = same_none u z
  sent_none (message.Release (released.Mutex m)) z = refl
  sent_none _ z = refl

  thread_none : (x : Thing) → threads f x ≡ 0 → is_thread t x ≡ 0
  thread_none (stands s p y) z = same_none y.number (omega (arith, z))
  thread_none _ z = refl

  task_none : (x : Thing) → threads f x ≡ 0 → tasks_of t x ≡ 0
  task_none (holds p v) z = owned_none v z
  task_none (lies s a c) z = owned_none c.value (omega (arith, z))
  task_none (flies w c) z = owned_none c.value (omega (arith, z))
  task_none (sent s m) z = sent_none m z
  task_none _ z = refl

  none_named : (b : List Thing) → tot (threads f) b ≡ 0 → (tot (is_thread t) b ≡ 0) × (tot (tasks_of t) b ≡ 0)
  none_named [] z = (refl, refl)
  none_named (x ∷ b) z =
      let go = none_named b (omega (arith, z)) in
      (omega (arith, thread_none x (omega (arith, z)), go.0), omega (arith, task_none x (omega (arith, z)), go.1))

-- WHAT A SERVER HAS NOT STARTED

one_first : (a b : Bool) → one (a && b) ≤ one a
one_first true true = omega arith
one_first true false = omega arith
one_first false b = omega arith

counts_its_server : (n c : ℕ) (x : Thing) → started_at n c x ≤ is_server n x
counts_its_server n c (counts r next old started made events) = one_first (r == n) (nat_le c started)
counts_its_server n c _ = omega arith

too_many : (a : Bool) (c m : ℕ) → m < c → one (a && nat_le c m) ≡ 0
too_many false c m l = refl
too_many true c m l = by (nat_le c m) refl
  where
    by : (b : Bool) → nat_le c m ≡ b → one b ≡ 0
    by true e = absurd (grind (arith, nat_tests, e, l))
    by false e = refl

same_self : (n : ℕ) → one (n == n) ≡ 1
same_self n = eq_cases (λ q. one q ≡ 1) n n (λ e. refl) (λ ne. absurd (ne refl))

home_is : (n c : ℕ) → c < 2 ^ 32 → home_of (n * 2 ^ 32 + c) ≡ n
home_is n c l = omega (arith, l)

count_is : (n c : ℕ) → c < 2 ^ 32 → count_of (n * 2 ^ 32 + c) ≡ c
count_is n c l = omega (arith, l)

unstarted : (b : List Thing) (n : ℕ) (s : Server) (rest : List Thing) → Same b (counts_of s.rest.number s.events s.rest ∷ rest) → tot (is_server s.rest.number) b ≤ 1 → (c : ℕ) → s.rest.started < c → tot (started_at s.rest.number c) b ≡ 0
unstarted b n s rest e few c l =
    let m = s.rest.number in
    omega (arith, few, e (is_server m), e (started_at m c), same_self m, too_many (m == m) c s.rest.started l, tot_le (started_at m c) (is_server m) (counts_its_server m c) rest)

pub new_names : (k : Cluster) (n : ℕ) (s : Server) → server_at k.servers n ≡ Some s → Sums (things_of k) → Holds k names_counted → NewNames (λ t. tot (tasks_of t) (things_of k)) s.rest.number s.rest.started s.rest.started (things_of k)
new_names k n s h g counted = record {
  sums = g;
  counted = λ t. refl;
  threads = λ c l m. (none c l m).0;
  tasks = λ c l m. (none c l m).1;
}
  where
    uncounted : (c : ℕ) → s.rest.started < c → c < 2 ^ 32 → uncounted_thread (sight k) (s.rest.number * 2 ^ 32 + c) ≡ 1
    uncounted c l m =
        let u = s.rest.number * 2 ^ 32 + c in
        let b = things_of k in
        let others = servers_things (others_of k.servers n) in
        let standing = all_standing s.rest.number s.threads in
        let body = body_things s.rest.number s.rest in
        let same : Same b (counts_of s.rest.number s.events s.rest ∷ (body ++ (standing ++ others))) =
        λ f. omega (arith, (tot-server f k.servers n s s h).0, server_same s f, tot-append f standing (rest_things s.rest.number s.events s.rest), tot-append f body (standing ++ others), tot-append f standing others) in
        let z : tot (started_at s.rest.number c) b ≡ 0 = unstarted b n s (body ++ (standing ++ others)) same (g.servers_differ s.rest.number) c l in
        let at_home : tot (started_at (home_of u) c) b ≡ 0 = subst (λ i. tot (started_at i c) b ≡ 0) (sym (home_is s.rest.number c m)) z in
        let at_count : tot (started_at (home_of u) (count_of u)) b ≡ 0 = subst (λ i. tot (started_at (home_of u) i) b ≡ 0) (sym (count_is s.rest.number c m)) at_home in
        ap (λ i. other (some i)) at_count

    none : (c : ℕ) → s.rest.started < c → c < 2 ^ 32 → (tot (is_thread (s.rest.number * 2 ^ 32 + c)) (things_of k) ≡ 0) × (tot (tasks_of (s.rest.number * 2 ^ 32 + c)) (things_of k) ≡ 0)
    none c l m =
        let all : tot (threads (uncounted_thread (sight k))) (things_of k) ≡ 0 = omega (arith, counted) in
        none_named (uncounted_thread (sight k)) (s.rest.number * 2 ^ 32 + c) (uncounted c l m) (things_of k) all

-- A NEW THREAD, AND A NEW TASK VALUE

-- one more of that thread
abbrev pub one_more : (ℕ → ℕ) → ℕ → ℕ → ℕ
one_more c v t = c t + one (v == t)

module _ (w : ℕ → ℕ) (n i j : ℕ) (a b : List Thing) where
  pub thread_appears : (r : ℕ) (p : Bool) (x : ThreadState) → x.number ≡ n * 2 ^ 32 + (i + 1) → i + 1 < 2 ^ 32 → Trade a [] (stands r p x ∷ []) b → NewNames w n i j a → NewNames w n (i + 1) j b
  thread_appears r p x q l t k = record {
    sums = record {
      home_of_each = λ o. omega (arith, t.before (cells o), t.after (cells o), k.sums.home_of_each o);
      owner_of_each = λ o. omega (arith, t.before (owners o), t.after (owners o), t.before (cells o), t.after (cells o), k.sums.owner_of_each o);
      one_state = λ at. omega (arith, t.before (states at), t.after (states at), t.before (below at), t.after (below at), k.sums.one_state at);
      users_counted = λ at. omega (arith, t.before (uses_of at), t.after (uses_of at), t.before (users_of at), t.after (users_of at), k.sums.users_counted at);
      shares_counted = λ m. omega (arith, t.before (shares_of m), t.after (shares_of m), t.before (shares_at_home m), t.after (shares_at_home m), k.sums.shares_counted m);
      one_task_value = λ u. omega (arith, t.before (tasks_of u), t.after (tasks_of u), k.sums.one_task_value u);
      numbers_differ = λ u. one_more_thread u;
      servers_differ = λ m. omega (arith, t.before (is_server m), t.after (is_server m), k.sums.servers_differ m);
    };
    counted = λ u. omega (arith, t.before (tasks_of u), t.after (tasks_of u), k.counted u);
    threads = λ c l2 m. other_thread c l2 m;
    tasks = λ c l2 m. let u = n * 2 ^ 32 + c in omega (arith, t.before (tasks_of u), t.after (tasks_of u), k.tasks c l2 m);
  }
    where
      one_more_thread : (u : ℕ) → tot (is_thread u) b ≤ 1
      one_more_thread u =
          eq_cases (λ z. is_thread u (stands r p x) ≡ one z → tot (is_thread u) b ≤ 1) x.number u
          (λ e w. let none : tot (is_thread u) a ≡ 0 = subst (λ v. tot (is_thread v) a ≡ 0) (sym q ∙ e) (k.threads (i + 1) (omega arith) l) in omega (arith, w, none, t.before (is_thread u), t.after (is_thread u)))
          (λ ne w. omega (arith, w, t.before (is_thread u), t.after (is_thread u), k.sums.numbers_differ u)) refl

      other_thread : (c : ℕ) → i + 1 < c → c < 2 ^ 32 → tot (is_thread (n * 2 ^ 32 + c)) b ≡ 0
      other_thread c l2 m =
          let u = n * 2 ^ 32 + c in
          eq_cases (λ z. is_thread u (stands r p x) ≡ one z → tot (is_thread u) b ≡ 0) x.number u
          (λ e w. absurd (omega (arith, l2, q, e)))
          (λ ne w. omega (arith, w, t.before (is_thread u), t.after (is_thread u), k.threads c (omega (arith, l2)) m)) refl

  pub task_appears : (p : Rattle.coherent_memory.specs.Things.Spot) (v : ℕ) → v ≡ n * 2 ^ 32 + (j + 1) → j + 1 < 2 ^ 32 → Trade a [] (holds p (owned.Task v) ∷ []) b → NewNames w n i j a → NewNames (one_more w v) n i (j + 1) b
  task_appears p v q l t k = record {
    sums = record {
      home_of_each = λ o. omega (arith, t.before (cells o), t.after (cells o), k.sums.home_of_each o);
      owner_of_each = λ o. omega (arith, t.before (owners o), t.after (owners o), t.before (cells o), t.after (cells o), k.sums.owner_of_each o);
      one_state = λ at. omega (arith, t.before (states at), t.after (states at), t.before (below at), t.after (below at), k.sums.one_state at);
      users_counted = λ at. omega (arith, t.before (uses_of at), t.after (uses_of at), t.before (users_of at), t.after (users_of at), k.sums.users_counted at);
      shares_counted = λ m. omega (arith, t.before (shares_of m), t.after (shares_of m), t.before (shares_at_home m), t.after (shares_at_home m), k.sums.shares_counted m);
      one_task_value = λ u. one_more_task u;
      numbers_differ = λ u. omega (arith, t.before (is_thread u), t.after (is_thread u), k.sums.numbers_differ u);
      servers_differ = λ m. omega (arith, t.before (is_server m), t.after (is_server m), k.sums.servers_differ m);
    };
    counted = λ u. omega (arith, t.before (tasks_of u), t.after (tasks_of u), k.counted u);
    threads = λ c l2 m. let u = n * 2 ^ 32 + c in omega (arith, t.before (is_thread u), t.after (is_thread u), k.threads c l2 m);
    tasks = λ c l2 m. other_task c l2 m;
  }
    where
      one_more_task : (u : ℕ) → tot (tasks_of u) b ≤ 1
      one_more_task u =
          eq_cases (λ z. tasks_of u (holds p (owned.Task v)) ≡ one z → tot (tasks_of u) b ≤ 1) v u
          (λ e w. let none : tot (tasks_of u) a ≡ 0 = subst (λ y. tot (tasks_of y) a ≡ 0) (sym q ∙ e) (k.tasks (j + 1) (omega arith) l) in omega (arith, w, none, t.before (tasks_of u), t.after (tasks_of u)))
          (λ ne w. omega (arith, w, t.before (tasks_of u), t.after (tasks_of u), k.sums.one_task_value u)) refl

      other_task : (c : ℕ) → j + 1 < c → c < 2 ^ 32 → tot (tasks_of (n * 2 ^ 32 + c)) b ≡ 0
      other_task c l2 m =
          let u = n * 2 ^ 32 + c in
          eq_cases (λ z. tasks_of u (holds p (owned.Task v)) ≡ one z → tot (tasks_of u) b ≡ 0) v u
          (λ e w. absurd (omega (arith, l2, q, e)))
          (λ ne w. omega (arith, w, t.before (tasks_of u), t.after (tasks_of u), k.tasks c (omega (arith, l2)) m)) refl
