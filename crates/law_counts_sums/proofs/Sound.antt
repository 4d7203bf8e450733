-- A sound cluster has the sums: no two of its servers have the same number.
use Rattle.std.proofs.Common.{◌≡◌, ℕ, ◌+◌, ◌<◌, ◌≤◌, ◌==◌, Bool, true, false, List, [], ◌∷◌, refl, ap, arith}
use Rattle.std.proofs.lemmas.Bool.Decides.{nat_tests}
use Rattle.coherent_memory.specs.Below.thread_state.View.{ThreadState}
use Rattle.coherent_memory.specs.Below.server_msgs.declared.message.Message.{Message}
use Rattle.coherent_memory.specs.Below.server_msgs.declared.message.Message.TheVariants as message
use Rattle.coherent_memory.specs.Below.server_model.Servers.{Server}
use Rattle.coherent_memory.specs.Names.{tot, one, other}
use Rattle.coherent_memory.specs.Things.{Thing, thread_things, standing_things, message_things, waiting_things, leaving_things, server_things, servers_things}
use Rattle.coherent_memory.specs.Sight.{Sight, sight}
use Rattle.coherent_memory.specs.Naming.{servers_wrong, pinned_parcel}
use Rattle.coherent_memory.specs.Walking.{sum_threads}
use Rattle.coherent_memory.proofs.Sums.{tot-append}
use Rattle.law_counts_sums.specs.Sums.{is_server}
use Rattle.law_counts_sums.specs.Laws.{SoundHasSums}
use Rattle.law_counts_sums.proofs.Unseen.{Unseen, Unnoted, none_at, thread_alone, seen_of}

module _ (r : ℕ) where
  abbrev f : Thing → ℕ
  f = is_server r

  unseen : (n : ℕ) → Unseen f n
  unseen n = record {
    held = λ p v. refl;
    shared = λ l q. refl;
    borrowed = λ l q. refl;
    locked = λ l m. refl;
    live = λ a c. refl;
    free = λ a m. refl;
    old = λ a. refl;
    copy = λ s c. refl;
    used = λ s w. refl;
  }

  unnoted : Unnoted f
  unnoted = record { mutex = λ s m. refl; queue = λ m s t. refl; note = λ s t. refl }

  thread_none : (s : ℕ) (p : Bool) (t : ThreadState) → tot f (thread_things s p t) ≡ 0
  thread_none s p t = thread_alone f s (unseen s) s p t

  message_none : (s : ℕ) (m : Message) → tot f (message_things s m) ≡ 0
  message_none s (message.Start t) = omega (arith, thread_none s true t)
  message_none s (message.Migrate t) = omega (arith, thread_none s true t)
  message_none s _ = refl

  -- a server counts once
  pub server_once : (s : Server) → tot f (server_things s) ≡ one (s.rest.number == r)
  server_once s =
      let n = s.rest.number in
      omega (
        arith,
        seen_of f n (unseen n) unnoted s refl,
        none_at f n (unseen n) (standing_things n) (λ i x. thread_none n false x) 0 s.threads,
        none_at f n (unseen n) (waiting_things n) (λ i x. message_none n x) 0 s.rest.inbox,
        none_at f n (unseen n) leaving_things (λ i x. message_none x.target x.message) 0 s.rest.outbox,
      )

  other_none : (b : Bool) → other b ≡ 0 → b ≡ true
  other_none true q = refl
  other_none false q = absurd (cc q)

  -- by rising number from this one on, each once
  once : (s : Sight) (m : ℕ) (ss : List Server) → servers_wrong s m ss ≡ 0 → (tot f (servers_things ss) ≤ 1) × (r < m → tot f (servers_things ss) ≡ 0)
  once s m [] q = (omega arith, λ l. refl)
  once s m (x ∷ xs) q =
      let go = once s (m + 1) xs (omega (arith, q)) in
      let first : other (x.rest.number == m) ≡ 0 = omega (arith, q) in
      by (x.rest.number == r) refl (other_none (x.rest.number == m) first) go
    where
      by : (b : Bool) → (x.rest.number == r) ≡ b → (x.rest.number == m) ≡ true → (tot f (servers_things xs) ≤ 1) × (r < m + 1 → tot f (servers_things xs) ≡ 0)
          → (tot f (servers_things (x ∷ xs)) ≤ 1) × (r < m → tot f (servers_things (x ∷ xs)) ≡ 0)
      by true e h go =
          let here : x.rest.number ≡ r = grind (arith, nat_tests, e) in
          let there : x.rest.number ≡ m = grind (arith, nat_tests, h) in
          let w : one (x.rest.number == r) ≡ 1 = ap one e in
          let rest = go.1 (omega arith) in
          (omega (arith, w, rest, server_once x, tot-append f (server_things x) (servers_things xs)), λ l. absurd (omega arith))
      by false e h go =
          let w : one (x.rest.number == r) ≡ 0 = ap one e in
          (omega (arith, w, go.0, server_once x, tot-append f (server_things x) (servers_things xs)), λ l. let rest = go.1 (omega arith) in omega (arith, w, rest, server_once x, tot-append f (server_things x) (servers_things xs)))

pub sound_has_sums : SoundHasSums
sound_has_sums k s =
    let parts : servers_wrong (sight k) 0 k.servers + sum_threads (sight k) pinned_parcel ≡ 0 = s.parts.parts_are_typed in
    let servers : servers_wrong (sight k) 0 k.servers ≡ 0 = omega (arith, parts) in
    record {
      home_of_each = s.one_home.home_of_each;
      owner_of_each = s.one_owner.owner_of_each;
      one_state = s.words.one_state;
      users_counted = s.users.users_counted;
      shares_counted = s.mutexes_and_tasks.shares_counted;
      one_task_value = s.mutexes_and_tasks.one_task_value;
      numbers_differ = s.names.numbers_differ;
      servers_differ = λ n. (once n (sight k) 0 k.servers servers).0;
    }
