-- What is said at a server leaves its contents and homes balanced, but for a content that comes or goes with a message.
use Rattle.std.proofs.Common.{◌≡◌, ℕ, ◌+◌, ◌==◌, Bool, true, false, if◌then◌else◌, List, [], ◌∷◌, ◌++◌, Option, Some, None, refl, arith}
use Rattle.law_counts_waiting.specs.Below.fr_base.declared.name.MutexNo.{MutexNo}
use Rattle.law_counts_waiting.specs.Below.fr_base.declared.name.ObjNo.{ObjNo}
use Rattle.law_counts_waiting.specs.Below.fr_base.declared.release.Released.{Released}
use Rattle.law_counts_waiting.specs.Below.fr_base.declared.release.Released.TheVariants as released
use Rattle.law_counts_waiting.specs.Below.global_addr.Words.{server_of}
use Rattle.law_counts_waiting.specs.Below.heap_partition.declared.value.Owned.{Owned}
use Rattle.law_counts_waiting.specs.Below.heap_partition.declared.value.Owned.TheVariants as owned
use Rattle.law_counts_waiting.specs.Below.owner_box.Partition.{freed}
use Rattle.law_counts_waiting.specs.Below.mutex_home.Mutexes.{Mutexes, ask, give_back, more, less}
use Rattle.law_counts_waiting.specs.Below.mutex_home.declared.answers.Asked.{Asked}
use Rattle.law_counts_waiting.specs.Below.mutex_home.declared.answers.Asked.TheVariants as asked
use Rattle.law_counts_waiting.specs.Below.mutex_home.declared.answers.Back.{Back}
use Rattle.law_counts_waiting.specs.Below.mutex_home.declared.answers.Back.TheVariants as back
use Rattle.law_counts_waiting.specs.Below.join_home.Tasks.{Task, let_go_of}
use Rattle.law_counts_waiting.specs.Below.join_home.Tasks as tasks
use Rattle.law_counts_waiting.specs.Below.thread_state.View.{ThreadState}
use Rattle.law_counts_waiting.specs.Below.server_msgs.declared.message.Message.{Message}
use Rattle.law_counts_waiting.specs.Below.server_msgs.declared.message.Message.TheVariants as message
use Rattle.law_counts_waiting.specs.Below.journal.declared.act.Act.TheVariants as act
use Rattle.law_counts_waiting.specs.Below.server_model.Servers.{Sent, Rest}
use Rattle.law_counts_waiting.specs.Below.server_model.Work.{Work, note, sent_from, with_mutexes, with_tasks, with_partition, look_object}
use Rattle.law_counts_waiting.specs.Below.server_model.Drop.{home_of, give_up}
use Rattle.law_counts_waiting.specs.Below.server_model.Objects.{deliver_fetch, deliver_move, deliver_drop}
use Rattle.law_counts_waiting.specs.Below.server_model.Sharing.{answer_lock, deliver_lock, answer_back, deliver_unlock, deliver_dup, give_up_left}
use Rattle.law_counts_waiting.specs.Below.server_model.Joining.{answer_join, deliver_join}
use Rattle.law_counts_waiting.specs.Below.server_model.Events.{release}
use Rattle.law_counts_waiting.proofs.Below.coherent_memory.Sums.{tot-append}
use Rattle.law_counts_waiting.specs.Below.law_counts_sums.Laws.{Gives}
use Rattle.law_counts_waiting.proofs.Below.law_counts_sums.Results.{map_gives, over_gives}
use Rattle.law_counts_waiting.proofs.contents.Weigh.{mail, mail_sent, weight}
use Rattle.law_counts_waiting.proofs.contents.Mutexes.{homes, Asks, asks, Backs, backs, Even, mores, Left, lesses}

module _ (c : MutexNo → ℕ) (b : ThreadState → ℕ) where
  -- so much more of contents than of homes: as a and h were
  abbrev pub Balance : ℕ → ℕ → List Message → List Sent → Mutexes → Type 0
  Balance a h i o ms = weight c b i o ms.there + h ≡ a + homes c ms

  abbrev pub RestBalance : ℕ → ℕ → Rest → Type 0
  RestBalance a h r = Balance a h r.inbox r.outbox r.mutexes

  abbrev pub WorkBalance : ℕ → ℕ → Work → Type 0
  WorkBalance a h w = RestBalance a h w.rest

  module _ (h : ℕ) where
    -- a message that is still to be said makes it so
    pub says : (a t : ℕ) (m : Message) (r : Rest) → weight c b r.inbox r.outbox r.mutexes.there + mail c b m + h ≡ a + homes c r.mutexes → RestBalance a h (sent_from r t m)
    says a t m r g = by (t == r.number)
      where
        by : (q : Bool) → RestBalance a h (if q then record r { inbox = r.inbox ++ m ∷ [] } else record r { outbox = r.outbox ++ record { target = t; message = m } ∷ [] })
        by true = omega (arith, g, tot-append (mail c b) r.inbox (m ∷ []))
        by false = omega (arith, g, tot-append (mail_sent c b) r.outbox (record { target = t; message = m } ∷ []))

    -- one that carries no content leaves it so
    pub says_none : (a t : ℕ) (m : Message) (r : Rest) → mail c b m ≡ 0 → RestBalance a h r → RestBalance a h (sent_from r t m)
    says_none a t m r z g = says a t m r (omega (arith, g, z))

    -- what is given up is no content of a mutex any more
    pub gives_up : (a : ℕ) (v : Owned) (w : Work) → WorkBalance a h w → WorkBalance a h (give_up v w)
    gives_up a (owned.Box p) w g = says_none a (server_of p.word) (message.Drop p.word p.object) w.rest refl g
    gives_up a (owned.Mutex m) w g = says_none a m.home (message.Release (released.Mutex m)) w.rest refl g
    gives_up a (owned.Task t) w g = says_none a (home_of t) (message.Release (released.Task t)) w.rest refl g
    gives_up a owned.Nothing w g = g
    gives_up a owned.Unit w g = g
    gives_up a (owned.Int m) w g = g

    -- nor what is left over
    pub left_over : (a : ℕ) (o : Option Owned) (w : Work) → WorkBalance a h w → WorkBalance a h (give_up_left o w)
    left_over a None w g = g
    left_over a (Some v) w g = gives_up a v w g

    -- OBJECTS

    -- a copy is served
    pub fetches : (a v : ℕ) (o : ObjNo) (s t : ℕ) (w : Work) → WorkBalance a h w → Gives (WorkBalance a h) (deliver_fetch v o s t w)
    fetches a v o s t w g = map_gives (WorkBalance a h) (look_object w.rest.partition v o) _ (λ d q. says_none a s (message.Fetched v d t) w.rest refl g)

    -- an object leaves
    pub moves : (a v : ℕ) (o : ObjNo) (s t : ℕ) (w : Work) → WorkBalance a h w → Gives (WorkBalance a h) (deliver_move v o s t w)
    moves a v o s t w g = map_gives (WorkBalance a h) (look_object w.rest.partition v o) _ (λ d q. says_none a s (message.Moved v d t) (record w.rest { partition = freed w.rest.partition v }) refl g)

    -- an object goes
    pub drops : (a v : ℕ) (o : ObjNo) (w : Work) → WorkBalance a h w → Gives (WorkBalance a h) (deliver_drop v o w)
    drops a v o w g = map_gives (WorkBalance a h) (look_object w.rest.partition v o) _ (λ d q. gives_up a d.value (note (act.Free o v) (with_partition (freed w.rest.partition v) w)) g)

    -- MUTEXES

    -- a lock is asked for: the content goes with the grant, or stays out
    pub locks : (a : ℕ) (m : MutexNo) (s t : ℕ) (w : Work) → WorkBalance a h w → Gives (WorkBalance a h) (deliver_lock m s t w)
    locks a m s t w g = over_gives (Asks c w.rest.mutexes m) (WorkBalance a h) (ask w.rest.mutexes m s t) _ (asks c w.rest.mutexes m s t) (λ p e. by p.0 p.1 e)
      where
        by : (ms : Mutexes) (x : Asked) → Asks c w.rest.mutexes m (ms, x) → WorkBalance a h (answer_lock m s t x (with_mutexes ms w))
        by ms asked.Queued e = omega (arith, g, e.0, e.1)
        by ms (asked.Granted v) e = says a s (message.Granted m v t) (record w.rest { mutexes = ms }) (omega (arith, g, e.0, e.1))

    -- a content comes back: it goes on, is in, or goes with its home
    pub unlocks : (a : ℕ) (m : MutexNo) (v : Owned) (w : Work) → WorkBalance a h w → Gives (WorkBalance (a + c m) h) (deliver_unlock m v w)
    unlocks a m v w g = over_gives (Backs c w.rest.mutexes m) (WorkBalance (a + c m) h) (give_back w.rest.mutexes m v) _ (backs c w.rest.mutexes m v) (λ p e. by p.0 p.1 e)
      where
        by : (ms : Mutexes) (x : Back) → Backs c w.rest.mutexes m (ms, x) → WorkBalance (a + c m) h (answer_back m x (with_mutexes ms w))
        by ms (back.Next s t u) e = says (a + c m) s (message.Granted m u t) (record w.rest { mutexes = ms }) (omega (arith, g, e))
        by ms (back.Ended u) e = gives_up (a + c m) u (with_mutexes ms w) (omega (arith, g, e))
        by ms back.Kept e = omega (arith, g, e)

    -- a share more
    pub dups : (a : ℕ) (m : MutexNo) (s t : ℕ) (w : Work) → WorkBalance a h w → Gives (WorkBalance a h) (deliver_dup m s t w)
    dups a m s t w g = over_gives (Even c w.rest.mutexes) (WorkBalance a h) (more w.rest.mutexes m) _ (mores c w.rest.mutexes m) (λ ms e. says_none a s (message.Dupped m t) (record w.rest { mutexes = ms }) refl (omega (arith, g, e)))

    -- a share less, or a task that is let go
    pub releases : (a : ℕ) (x : Released) (w : Work) → WorkBalance a h w → Gives (WorkBalance a h) (release x w)
    releases a (released.Mutex m) w g = over_gives (Left c w.rest.mutexes m) (WorkBalance a h) (less w.rest.mutexes m) _ (lesses c w.rest.mutexes m) (λ p e. left_over a p.1 (with_mutexes p.0 w) (omega (arith, g, e)))
    releases a (released.Task u) w g = map_gives (WorkBalance a h) (let_go_of w.rest.tasks u) _ (λ p q. left_over a p.1 (with_tasks p.0 w) g)

    -- THREADS

    -- a result is asked for
    pub joins : (a u s asker : ℕ) (w : Work) → WorkBalance a h w → Gives (WorkBalance a h) (deliver_join u s asker w)
    joins a u s asker w g = map_gives (WorkBalance a h) (tasks.ask w.rest.tasks u s asker) _ (λ p q. by p.0 p.1)
      where
        by : (ts : List Task) (x : Option Owned) → WorkBalance a h (answer_join u s asker x (with_tasks ts w))
        by ts None = g
        by ts (Some v) = says_none a s (message.Joined u v asker) (record w.rest { tasks = ts }) refl g
