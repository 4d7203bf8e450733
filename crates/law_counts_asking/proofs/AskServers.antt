-- All that asks or answers at a server fits exactly where its things weigh nothing.
use Rattle.std.proofs.Common.{◌≡◌, ℕ, true, false, refl, arith}
use Rattle.law_results_reads.specs.Below.mutex_home.Mutexes.{Mutex}
use Rattle.law_results_reads.specs.Below.join_home.Tasks.{Task}
use Rattle.law_results_reads.specs.Below.server_msgs.declared.message.Message.{Message}
use Rattle.law_results_reads.specs.Below.server_msgs.declared.message.Message.TheVariants as message
use Rattle.law_results_reads.specs.Below.server_model.Servers.{Sent, Server}
use Rattle.law_results_reads.specs.Below.coherent_memory.Names.{tot}
use Rattle.law_results_reads.specs.Below.coherent_memory.Things.{Thing, things_at, content_things, queue_things, mutex_things, task_things, standing_things, waiting_things, leaving_things, message_things, server_things}
use Rattle.law_results_reads.proofs.Below.coherent_memory.Sums.{tot-append, server_parts}
use Rattle.law_results_reads.proofs.Below.law_counts_sums.Unseen.{Unseen, none_at, thread_alone, content_none, result_none, partition_none, copies_none}
use Rattle.law_counts_things.proofs.things.Handed.{all_none, none_all}
use Rattle.law_counts_asking.proofs.Asking.{Phases, message_unfit, thing_unfit, MessageFits, AskerFits, QueueFits, NoteFits, Fits, RestFits}

module _ (a : Phases) where
  abbrev w : Thing → ℕ
  w = thing_unfit a

  -- slots, temporary values, gifts and copies ask for nothing
  unseen : (n : ℕ) → Unseen w n
  unseen n = record { held = λ p v. refl; shared = λ l q. refl; borrowed = λ l q. refl; locked = λ l x. refl; live = λ b c. refl; free = λ b x. refl; old = λ b. refl; copy = λ s c. refl; used = λ s x. refl }

  -- of a message the weight is its own
  message_alone : (n : ℕ) (m : Message) → tot w (message_things n m) ≡ message_unfit a m
  message_alone n (message.Start t) = omega (arith, thread_alone w n (unseen n) n true t)
  message_alone n (message.Migrate t) = omega (arith, thread_alone w n (unseen n) n true t)
  message_alone n (message.Fetch v b r t) = omega arith
  message_alone n (message.Fetched v c t) = omega arith
  message_alone n (message.Move v b r t) = omega arith
  message_alone n (message.Moved v c t) = omega arith
  message_alone n (message.Drop v b) = omega arith
  message_alone n (message.Lock m r t) = omega arith
  message_alone n (message.Granted m v t) = omega arith
  message_alone n (message.Unlock m v) = omega arith
  message_alone n (message.Dup m r t) = omega arith
  message_alone n (message.Dupped m t) = omega arith
  message_alone n (message.Release x) = omega arith
  message_alone n (message.Join u r t) = omega arith
  message_alone n (message.Joined u v t) = omega arith
  message_alone n (message.Finished u v) = omega arith

  -- of a mutex it is that of its queue
  mutex_alone : (n i : ℕ) (m : Mutex) → tot w (mutex_things n i m) ≡ tot w (things_at (queue_things m.number) 0 m.queue)
  mutex_alone n i m = omega (arith, content_none w n (unseen n) m, tot-append w (content_things m.number m.content) (things_at (queue_things m.number) 0 m.queue))

  -- where it is nothing the queue fits
  mutex_from : (n i : ℕ) (m : Mutex) → tot w (mutex_things n i m) ≡ 0 → QueueFits a m
  mutex_from n i m z = all_none w (queue_things m.number) (AskerFits a m.number) (λ j q y. omega (arith, y)) 0 m.queue (omega (arith, z, mutex_alone n i m))

  -- and the other way
  mutex_to : (n i : ℕ) (m : Mutex) → QueueFits a m → tot w (mutex_things n i m) ≡ 0
  mutex_to n i m g = omega (arith, mutex_alone n i m, none_all w (queue_things m.number) (AskerFits a m.number) (λ j q y. omega (arith, y)) 0 m.queue g)

  -- of a note it is its own
  task_alone : (n i : ℕ) (x : Task) → tot w (task_things n i x) ≡ Rattle.law_counts_asking.proofs.Asking.note_unfit a x.thread x.state
  task_alone n i x = omega (arith, result_none w n (unseen n) x.thread x.state)

  -- threads have none
  threads_none : (s : Server) → tot w (things_at (standing_things s.rest.number) 0 s.threads) ≡ 0
  threads_none s = let n = s.rest.number in none_at w n (unseen n) (standing_things n) (λ i x. omega (arith, thread_alone w n (unseen n) n false x)) 0 s.threads

  -- where a server weighs nothing all fits in it
  pub rest_from : (s : Server) → tot w (server_things s) ≡ 0 → RestFits a s.rest
  rest_from s z =
      let n = s.rest.number in
      let parts = server_parts w s in record {
        queues = all_none w (mutex_things n) (QueueFits a) (mutex_from n) 0 s.rest.mutexes.there (omega (arith, z, parts));
        notes = all_none w (task_things n) (NoteFits a) (λ i x y. omega (arith, y, task_alone n i x)) 0 s.rest.tasks (omega (arith, z, parts));
        waiting = all_none w (waiting_things n) (MessageFits a) (λ i m y. omega (arith, y, message_alone n m)) 0 s.rest.inbox (omega (arith, z, parts));
        leaving = all_none w leaving_things (λ (x : Sent). MessageFits a x.message) (λ i x y. omega (arith, y, message_alone x.target x.message)) 0 s.rest.outbox (omega (arith, z, parts));
      }

  -- and the other way
  pub rest_to : (s : Server) → RestFits a s.rest → tot w (server_things s) ≡ 0
  rest_to s g =
      let n = s.rest.number in
      omega (
        arith,
        server_parts w s,
        partition_none w n (unseen n) s.rest.partition,
        copies_none w n (unseen n) n s.rest.cache,
        none_all w (mutex_things n) (QueueFits a) (mutex_to n) 0 s.rest.mutexes.there g.queues,
        none_all w (task_things n) (NoteFits a) (λ i x y. omega (arith, y, task_alone n i x)) 0 s.rest.tasks g.notes,
        threads_none s,
        none_all w (waiting_things n) (MessageFits a) (λ i m y. omega (arith, y, message_alone n m)) 0 s.rest.inbox g.waiting,
        none_all w leaving_things (λ (x : Sent). MessageFits a x.message) (λ i x y. omega (arith, y, message_alone x.target x.message)) 0 s.rest.outbox g.leaving,
      )
