-- Weights that see the counts of servers alone.
use Rattle.std.proofs.Common.{◌≡◌, ℕ, Bool, true, false, length, refl, arith}
use Rattle.law_counts_things.specs.Below.thread_state.View.{ThreadState}
use Rattle.law_counts_things.specs.Below.server_msgs.declared.message.Message.{Message}
use Rattle.law_counts_things.specs.Below.server_msgs.declared.message.Message.TheVariants as message
use Rattle.law_counts_things.specs.Below.server_model.Servers.{Sent, Server}
use Rattle.law_counts_things.specs.Below.coherent_memory.Names.{tot}
use Rattle.law_counts_things.specs.Below.coherent_memory.Things.{Thing, as_content, as_result, holds, shares, borrows, locks, lies, flies, vacant, retired, copied, uses, sent, stands, at_home, queued, noted, counts, standing_things, waiting_things, leaving_things, message_things, server_things, thread_things}
use Rattle.law_counts_things.proofs.Below.law_counts_sums.Unseen.{Unseen, Unnoted, none_at, thread_alone, seen_of}

-- it is no server's counts
abbrev pub Plain : Thing → Type 0
Plain (counts r next old started made events) = ⊥
Plain x = Unit {0}

-- the counts of a server
abbrev pub counts_at : Server → Thing
counts_at s = counts s.rest.number (length s.rest.partition.cells) s.rest.partition.retired s.rest.started s.rest.mutexes.made s.events

module _ (f : Thing → ℕ) (none : (x : Thing) → Plain x → f x ≡ 0) where
  unseen : (n : ℕ) → Unseen f n
  unseen n = record {
    held = λ p v. none (holds p v) tt;
    shared = λ l r. none (shares l r) tt;
    borrowed = λ l r. none (borrows l r) tt;
    locked = λ l m. none (locks l m) tt;
    live = λ a c. none (lies n a c) tt;
    free = λ a m. none (vacant n a m) tt;
    old = λ a. none (retired n a) tt;
    copy = λ s c. none (copied s c) tt;
    used = λ s x. none (uses s x) tt;
  }

  unnoted : Unnoted f
  unnoted = record { mutex = λ s m. none (at_home s m) tt; queue = λ m s t. none (queued m s t) tt; note = λ s t. none (noted s t) tt }

  thread_none : (n : ℕ) (p : Bool) (t : ThreadState) → tot f (thread_things n p t) ≡ 0
  thread_none n p t = omega (arith, thread_alone f n (unseen n) n p t, none (stands n p t) tt)

  message_none : (n : ℕ) (m : Message) → tot f (message_things n m) ≡ 0
  message_none n (message.Start t) = omega (arith, none (sent n (message.Start t)) tt, thread_none n true t)
  message_none n (message.Migrate t) = omega (arith, none (sent n (message.Migrate t)) tt, thread_none n true t)
  message_none n (message.Fetch w o s t) = omega (arith, none (sent n (message.Fetch w o s t)) tt)
  message_none n (message.Fetched w c t) = omega (arith, none (sent n (message.Fetched w c t)) tt)
  message_none n (message.Move w o s t) = omega (arith, none (sent n (message.Move w o s t)) tt)
  message_none n (message.Moved w c t) = omega (arith, none (sent n (message.Moved w c t)) tt, none (flies w c) tt)
  message_none n (message.Drop w o) = omega (arith, none (sent n (message.Drop w o)) tt)
  message_none n (message.Lock m s t) = omega (arith, none (sent n (message.Lock m s t)) tt)
  message_none n (message.Granted m v t) = omega (arith, none (sent n (message.Granted m v t)) tt, none (holds (as_content m) v) tt)
  message_none n (message.Unlock m v) = omega (arith, none (sent n (message.Unlock m v)) tt, none (holds (as_content m) v) tt)
  message_none n (message.Dup m s t) = omega (arith, none (sent n (message.Dup m s t)) tt)
  message_none n (message.Dupped m t) = omega (arith, none (sent n (message.Dupped m t)) tt)
  message_none n (message.Release x) = omega (arith, none (sent n (message.Release x)) tt)
  message_none n (message.Join u s t) = omega (arith, none (sent n (message.Join u s t)) tt)
  message_none n (message.Joined u v t) = omega (arith, none (sent n (message.Joined u v t)) tt, none (holds (as_result u) v) tt)
  message_none n (message.Finished u v) = omega (arith, none (sent n (message.Finished u v)) tt, none (holds (as_result u) v) tt)

  -- of a server it sees the counts
  pub counts_alone : (s : Server) → tot f (server_things s) ≡ f (counts_at s)
  counts_alone s =
      let n = s.rest.number in
      omega (
        arith,
        seen_of f n (unseen n) unnoted s refl,
        none_at f n (unseen n) (standing_things n) (λ i t. thread_none n false t) 0 s.threads,
        none_at f n (unseen n) (waiting_things n) (λ i m. message_none n m) 0 s.rest.inbox,
        none_at f n (unseen n) leaving_things (λ i (x : Sent). message_none x.target x.message) 0 s.rest.outbox,
      )
