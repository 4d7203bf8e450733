-- A weight of threads that is nothing but for one that stands at a server: nothing of it is elsewhere, so where the server keeps nothing of it, neither does the cluster.
use Rattle.std.proofs.Common.{◌≡◌, ℕ, ◌+◌, ◌==◌, not, Bool, true, false, if◌then◌else◌, List, [], ◌∷◌, length, take, drop, Some, refl, ap, ◌∙◌, arith}
use Rattle.std.specs.List.{AllByRecursion}
use Rattle.std.proofs.lemmas.Bool.{eq-eqb}
use Rattle.law_types_events.specs.Below.thread_state.View.{ThreadState}
use Rattle.law_types_events.specs.Below.journal.View.{EntryView}
use Rattle.law_types_events.specs.Below.server_model.declared.event.Event.{Event}
use Rattle.law_types_events.specs.Below.server_model.Servers.{Server, Cluster, server_at}
use Rattle.law_types_events.specs.Below.server_model.Work.{thread_in, set_thread, without_thread}
use Rattle.law_types_events.specs.Below.server_model.Events.{enabled, does}
use Rattle.law_types_events.specs.Below.server_model.Clusters.{with_server, done_at, apply}
use Rattle.law_types_events.specs.Below.coherent_memory.Names.{tot, one, if_so}
use Rattle.law_types_events.specs.Below.coherent_memory.Things.{Thing, stands, server_things, servers_things, things_of}
use Rattle.law_types_events.specs.Below.coherent_memory.Follow.{Standing, threads_in}
use Rattle.law_types_events.specs.Below.coherent_memory.Weights.{is_thread}
use Rattle.law_types_events.specs.Below.coherent_memory.Coherent.{IsSound}
use Rattle.law_types_events.specs.Below.law_counts_sums.Laws.{Gives, GoTo, FewEvents}
use Rattle.law_types_events.proofs.Below.law_counts_sums.Results.{then_gives, over_gives, both_give, test_gives}
use Rattle.law_types_events.proofs.Below.law_counts_sums.KnownSound.{on_standing, sum_standing}
use Rattle.law_types_events.proofs.Below.law_counts_sums.Unseen.{Unseen, Unnoted, thread_alone, seen_of}
use Rattle.law_types_events.proofs.Below.law_counts_sums.Bags.{tot-without, thread_number}
use Rattle.law_types_events.proofs.Below.law_counts_sums.Events.{tot-server, others_of}
use Rattle.law_types_events.proofs.Below.law_counts_sums.Applied.{go_with}
use Rattle.law_types_events.proofs.Below.law_counts_sums.Handing.{hand_over_newer_law}
use Rattle.law_types_events.proofs.Below.law_counts_sums.Sending.{each_event_sends}

-- THREADS OF A SERVER

-- what is so of the others and of a thread's new state is so of all, once it is put
pub set_beside : (P : ThreadState → Type 0) (ts : List ThreadState) (t : ℕ) (y new : ThreadState) → thread_in ts t ≡ Some y → new.number ≡ t → AllByRecursion P (without_thread ts t) → P new → AllByRecursion P (set_thread ts new)
set_beside P [] t y new at e all p = absurd (cc at)
set_beside P (x ∷ ts) t y new at e all p = by (x.number == t) (ap (λ n. x.number == n) e) at all (set_beside P ts t y new)
  where
    by : (b : Bool) → (x.number == new.number) ≡ b → (if b then Some x else thread_in ts t) ≡ Some y → AllByRecursion P (if b then ts else x ∷ without_thread ts t)
        → (thread_in ts t ≡ Some y → new.number ≡ t → AllByRecursion P (without_thread ts t) → P new → AllByRecursion P (set_thread ts new)) → AllByRecursion P (if x.number == new.number then new ∷ ts else x ∷ set_thread ts new)
    by true g at2 rest go = rw g (p, rest)
    by false g at2 rest go = rw g (rest.0, go at2 e rest.1 p)

-- WEIGHTS

standing_unseen : (f : Standing → ℕ) (n : ℕ) → Unseen (on_standing f) n
standing_unseen f n = record { held = λ p v. refl; shared = λ l r. refl; borrowed = λ l r. refl; locked = λ l m. refl; live = λ a c. refl; free = λ a m. refl; old = λ a. refl; copy = λ s c. refl; used = λ s x. refl }

standing_unnoted : (f : Standing → ℕ) → Unnoted (on_standing f)
standing_unnoted f = record { mutex = λ s m. refl; queue = λ m s t. refl; note = λ s t. refl }

-- the server without the thread
abbrev pub without : Server → ℕ → Server
without s t = record s { threads = without_thread s.threads t }

-- a thread at a server, and what else is there
parts : (f : Standing → ℕ) (s : Server) (t : ℕ) (y : ThreadState) → thread_in s.threads t ≡ Some y → tot (on_standing f) (server_things s) ≡ f (record { server = s.rest.number; packed = false; thread = y }) + tot (on_standing f) (server_things (without s t))
parts f s t y q =
    let n = s.rest.number in
    let w = on_standing f in
    let all = seen_of w n (standing_unseen f n) (standing_unnoted f) s refl in
    let rest = seen_of w n (standing_unseen f n) (standing_unnoted f) (without s t) refl in
    omega (arith, all, rest, tot-without n w s.threads t y q, thread_alone w n (standing_unseen f n) n false y)

-- as a weight of standing threads
number_is : ℕ → Standing → ℕ
number_is t x = one (x.thread.number == t)

same_number : (t : ℕ) (xs : List Thing) → tot (is_thread t) xs ≡ tot (on_standing (λ x. one (x.thread.number == t))) xs
same_number t [] = refl
same_number t (stands s p y ∷ xs) = omega (arith, same_number t xs)
same_number t (_ ∷ xs) = omega (arith, same_number t xs)

module _ (f : Standing → ℕ) (t : ℕ) where
  -- but for the thread of that number
  abbrev pub beside : Standing → ℕ
  beside x = if_so (not (x.thread.number == t)) (f x)

  -- where it isn't among things, they weigh what they weigh beside it
  same_beside : (xs : List Thing) → tot (is_thread t) xs ≡ 0 → tot (on_standing beside) xs ≡ 0 → tot (on_standing f) xs ≡ 0
  same_beside [] a b = refl
  same_beside (stands s p y ∷ xs) a b = by (y.number == t) (same_beside xs) a b
    where
      by : (q : Bool) → (tot (is_thread t) xs ≡ 0 → tot (on_standing beside) xs ≡ 0 → tot (on_standing f) xs ≡ 0) → one q + tot (is_thread t) xs ≡ 0 → if_so (not q) (f (record { server = s; packed = p; thread = y })) + tot (on_standing beside) xs ≡ 0 → f (record { server = s; packed = p; thread = y }) + tot (on_standing f) xs ≡ 0
      by true go c d = absurd (omega (arith, c))
      by false go c d = omega (arith, d, go (omega (arith, c)) (omega (arith, d)))
  same_beside (_ ∷ xs) a b = let z = same_beside xs (omega (arith, a)) (omega (arith, b)) in omega (arith, z)

  -- nothing of it is elsewhere
  pub nothing_else : (k : Cluster) → IsSound k → (n : ℕ) (s : Server) → server_at k.servers n ≡ Some s → (y : ThreadState) → thread_in s.threads t ≡ Some y → tot beside (threads_in (things_of k)) ≡ 0
      → (tot (on_standing f) (server_things (without s t)) ≡ 0) × (tot (on_standing f) (servers_things (others_of k.servers n)) ≡ 0)
  nothing_else k sound n s here y q none =
      let few = sound.names.numbers_differ t in
      let g : Standing → ℕ = λ x. one (x.thread.number == t) in
      let mine : one (y.number == t) ≡ 1 = ap one (eq-eqb y.number t (thread_number s.threads t y q)) in
      let numbers = (tot-server (is_thread t) k.servers n s s here).0 in
      let number_parts = parts g s t y q in
      let weights = (tot-server (on_standing beside) k.servers n s s here).0 in
      let weight_parts = parts beside s t y q in
      let all : tot (on_standing beside) (things_of k) ≡ 0 = sum_standing beside (things_of k) ∙ none in
      let in_server = same_number t (server_things s) in
      let in_rest = same_number t (server_things (without s t)) in (
        same_beside (server_things (without s t)) (omega (arith, few, mine, numbers, number_parts, in_server, in_rest)) (omega (arith, weights, weight_parts, all)),
        same_beside (servers_things (others_of k.servers n)) (omega (arith, few, mine, numbers, number_parts, in_server, in_rest)) (omega (arith, weights, weight_parts, all)),
      )

-- HANDED OVER

-- where the entry is of that sort and nothing is elsewhere
module _ (f : Thing → ℕ) (Sort : EntryView → Type 0) (k : Cluster) (e : Event) where
  abbrev pub There : Server × EntryView → Type 0
  There r = Sort r.1 → (tot f (server_things r.0) ≡ 0) × (tot f (servers_things (others_of k.servers e.server)) ≡ 0)

  abbrev Leads : Cluster × EntryView → Type 0
  Leads d = Sort d.1 → tot f (things_of d.0) ≡ 0

  abbrev Goes : Server → Server × EntryView → Type 0
  Goes s r = GoTo (with_server k.servers e.server r.0) (drop (length s.rest.outbox) r.0.rest.outbox)

  pub lifted : IsSound k → FewEvents k → ((s : Server) → server_at k.servers e.server ≡ Some s → enabled k.options s e.what ≡ true → Gives There (does k.code k.options s e.what)) → Gives Leads (apply k e)
  lifted sound few go =
      then_gives Leads (server_at k.servers e.server) _ (λ s here.
      over_gives (λ r. Goes s r × There r) Leads (done_at k e.what s) _
      (both_give (Goes s) There (λ r. Goes s r × There r) (done_at k e.what s) (each_event_sends k e sound few s here)
      (test_gives There (enabled k.options s e.what) (does k.code k.options s e.what) (λ on. go s here on)) (λ r a b. (a, b)))
      (λ r u sort.
      let older = length s.rest.outbox in
      let t = tot-server f k.servers e.server s r.0 here in
      let goes = go_with k.servers e.server r.0 (take older r.0.rest.outbox) (drop older r.0.rest.outbox) u.0 in
      let none = u.1 sort in
      omega (arith, hand_over_newer_law f e.server older s r.0 k.servers here goes, t.1, none.0, none.1)))
