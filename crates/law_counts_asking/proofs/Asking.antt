-- What will answer a thread carries what the thread is known to wait for: of messages, of places in queues and of notes.
use Rattle.std.proofs.Common.{◌≡◌, ℕ, ◌+◌, ◌-◌, ◌^◌, ◌==◌, ◌&&◌, nat_lt, Bool, true, false, if◌then◌else◌, List, [], ◌∷◌, ◌++◌, Option, Some, None, refl, sym, ap, subst, ◌∙◌}
use Rattle.std.specs.List.{AllByRecursion}
use Rattle.std.specs.Bool.{⊤}
use Rattle.law_results_reads.proofs.Below.fr_typing.PlaceLemmas.{eq_cases}
use Rattle.law_results_reads.specs.Below.fr_base.declared.name.MutexNo.{MutexNo}
use Rattle.law_results_reads.specs.Below.heap_partition.declared.value.Owned.{Owned}
use Rattle.law_results_reads.specs.Below.mutex_home.Mutexes.{Mutex, Mutexes, mutex_in, put_mutex, end_mutex, asked_of, asked_in, ask, back_to, back_out, back_in, give_back, more_in, more, last_less, less_of, less_in, less}
use Rattle.law_results_reads.specs.Below.mutex_home.declared.answers.Asked.{Asked}
use Rattle.law_results_reads.specs.Below.mutex_home.declared.answers.Back.{Back}
use Rattle.law_results_reads.specs.Below.mutex_home.declared.answers.Back.TheVariants as back
use Rattle.law_results_reads.specs.Below.join_home.Tasks.{Task, TaskState, going, let_go, kept, asked, in_pair, task_in, state_in, state_of, with_state, without_task, over_in, pair_ended, ended_from, ended, asked_from, let_go_from, let_go_of}
use Rattle.law_results_reads.specs.Below.join_home.Tasks as tasks
use Rattle.law_results_reads.specs.Below.join_home.declared.answers.EndedAs.{EndedAs}
use Rattle.law_results_reads.specs.Below.join_home.declared.answers.EndedAs.TheVariants as over
use Rattle.law_results_reads.specs.Below.thread_state.declared.phase.Phase.{Phase}
use Rattle.law_results_reads.specs.Below.thread_state.declared.phase.Phase.TheVariants as phase
use Rattle.law_results_reads.specs.Below.server_msgs.declared.message.Message.{Message}
use Rattle.law_results_reads.specs.Below.server_msgs.declared.message.Message.TheVariants as message
use Rattle.law_results_reads.specs.Below.server_model.Servers.{Sent, Rest}
use Rattle.law_results_reads.specs.Below.server_model.Work.{sent_from}
use Rattle.law_results_reads.specs.Below.server_model.Events.{can_step}
use Rattle.law_results_reads.specs.Below.coherent_memory.Names.{other, same_mutex}
use Rattle.law_results_reads.specs.Below.coherent_memory.Things.{Thing, sent, queued, noted}
use Rattle.law_results_reads.specs.Below.coherent_memory.Requests.{is_cell, is_lock, is_dup, is_join}
use Rattle.law_results_reads.proofs.Below.coherent_memory.Names.{same_mutexes}
use Rattle.law_results_reads.specs.Below.law_counts_sums.Laws.{Gives}
use Rattle.law_results_reads.proofs.Below.law_counts_sums.Results.{test_gives}
use Rattle.law_results_reads.proofs.Below.law_counts_sums.Known.{all_append}
use Rattle.law_counts_things.proofs.things.MutexLists.{put_all, ends_all}

-- WHAT THREADS WAIT FOR

-- what is known of a phase passes a test
abbrev pub passes : (Phase → Bool) → Option Phase → Bool
passes f None = false
passes f (Some p) = f p

-- the phase that is known of each thread
abbrev pub Phases : Type 0
Phases = ℕ → Option Phase

abbrev pub unfit : Phases → ℕ → (Phase → Bool) → ℕ
unfit a t f = other (passes f (a t))

abbrev pub message_unfit : Phases → Message → ℕ
message_unfit a (message.Fetch w o r t) = unfit a t (is_cell w)
message_unfit a (message.Fetched w c t) = unfit a t (is_cell w)
message_unfit a (message.Move w o r t) = unfit a t (is_cell w)
message_unfit a (message.Moved w c t) = unfit a t (is_cell w)
message_unfit a (message.Lock m r t) = unfit a t (is_lock m)
message_unfit a (message.Granted m v t) = unfit a t (is_lock m)
message_unfit a (message.Dup m r t) = unfit a t (is_dup m)
message_unfit a (message.Dupped m t) = unfit a t (is_dup m)
message_unfit a (message.Join u r t) = unfit a t (is_join u)
message_unfit a (message.Joined u v t) = unfit a t (is_join u)
message_unfit a m = 0

abbrev pub note_unfit : Phases → ℕ → TaskState → ℕ
note_unfit a u (asked r t) = unfit a t (is_join u)
note_unfit a u x = 0

abbrev pub thing_unfit : Phases → Thing → ℕ
thing_unfit a (sent r m) = message_unfit a m
thing_unfit a (queued m r t) = unfit a t (is_lock m)
thing_unfit a (noted r x) = note_unfit a x.thread x.state
thing_unfit a x = 0

-- A SERVER'S

abbrev pub MessageFits : Phases → Message → Type 0
MessageFits a m = message_unfit a m ≡ 0

abbrev pub AskerFits : Phases → MutexNo → ℕ × ℕ → Type 0
AskerFits a m q = unfit a q.1 (is_lock m) ≡ 0

abbrev pub QueueFits : Phases → Mutex → Type 0
QueueFits a x = AllByRecursion (AskerFits a x.number) x.queue

abbrev pub NoteFits : Phases → Task → Type 0
NoteFits a x = note_unfit a x.thread x.state ≡ 0

pub record Fits (a : Phases) (there : List Mutex) (ts : List Task) (inbox : List Message) (outbox : List Sent) : Type 0 where
  pub queues : AllByRecursion (QueueFits a) there
  pub notes : AllByRecursion (NoteFits a) ts
  pub waiting : AllByRecursion (MessageFits a) inbox
  pub leaving : AllByRecursion (λ (x : Sent). MessageFits a x.message) outbox

abbrev pub RestFits : Phases → Rest → Type 0
RestFits a r = Fits a r.mutexes.there r.tasks r.inbox r.outbox

module _ (a : Phases) where
  -- one message more
  pub sent_fits : (t : ℕ) (m : Message) (r : Rest) → MessageFits a m → RestFits a r → RestFits a (sent_from r t m)
  sent_fits t m r z g = by (t == r.number)
    where
      by : (b : Bool) → RestFits a (if b then record r { inbox = r.inbox ++ m ∷ [] } else record r { outbox = r.outbox ++ record { target = t; message = m } ∷ [] })
      by true = record { queues = g.queues; notes = g.notes; waiting = all_append (MessageFits a) r.inbox (m ∷ []) g.waiting (z, tt); leaving = g.leaving }
      by false = record { queues = g.queues; notes = g.notes; waiting = g.waiting; leaving = all_append (λ (x : Sent). MessageFits a x.message) r.outbox (record { target = t; message = m } ∷ []) g.leaving (z, tt) }

  -- QUEUES

  abbrev pub AllQueues : Mutexes → Type 0
  AllQueues ms = AllByRecursion (QueueFits a) ms.there

  -- the mutex that is found has that number
  found_queue : (xs : List Mutex) (m : MutexNo) → AllByRecursion (QueueFits a) xs → Gives (λ (x : Mutex). QueueFits a x × (x.number ≡ m)) (mutex_in xs m)
  found_queue [] m g = tt
  found_queue (x ∷ xs) m g = by (same_mutex x.number m) refl (found_queue xs m g.1)
    where
      by : (b : Bool) → same_mutex x.number m ≡ b → Gives (λ (y : Mutex). QueueFits a y × (y.number ≡ m)) (mutex_in xs m) → Gives (λ (y : Mutex). QueueFits a y × (y.number ≡ m)) (if b then Some x else mutex_in xs m)
      by true e rest = (g.0, same_mutexes x.number m e)
      by false e rest = rest

  -- a lock that is asked for
  pub lock_asks : (ms : Mutexes) (m : MutexNo) (s t : ℕ) → unfit a t (is_lock m) ≡ 0 → AllQueues ms → Gives (λ (p : Mutexes × Asked). AllQueues p.0) (ask ms m s t)
  lock_asks ms m s t z g = by (mutex_in ms.there m) (found_queue ms.there m g)
    where
      of : (x : Mutex) (c : Option Owned) → QueueFits a x → x.number ≡ m → AllQueues (asked_of ms s t c x).0
      of x None q e = put_all (QueueFits a) ms.there (record x { queue = x.queue ++ (s, t) ∷ [] }) g (all_append (AskerFits a x.number) x.queue ((s, t) ∷ []) q (subst (λ n. unfit a t (is_lock n) ≡ 0) (sym e) z, tt))
      of x (Some v) q e = put_all (QueueFits a) ms.there (record x { content = None }) g q

      by : (o : Option Mutex) → Gives (λ (x : Mutex). QueueFits a x × (x.number ≡ m)) o → Gives (λ (p : Mutexes × Asked). AllQueues p.0) (asked_in ms s t o)
      by None q = tt
      by (Some x) q = of x x.content q.0 q.1

  -- to whom a content goes that comes back
  abbrev pub NextFits : MutexNo → Back → Type 0
  NextFits m (back.Next s t v) = unfit a t (is_lock m) ≡ 0
  NextFits m b = ⊤

  -- a content that comes back: the next asker fits
  pub content_back : (ms : Mutexes) (m : MutexNo) (v : Owned) → AllQueues ms → Gives (λ (p : Mutexes × Back). AllQueues p.0 × NextFits m p.1) (give_back ms m v)
  content_back ms m v g = by (mutex_in ms.there m) (found_queue ms.there m g)
    where
      Both : Mutexes × Back → Type 0
      Both p = AllQueues p.0 × NextFits m p.1

      alone : (x : Mutex) (b : Bool) → QueueFits a x → Both (if b then (end_mutex ms x.number, back.Ended v) else (put_mutex ms (record x { content = Some v }), back.Kept))
      alone x true q = (ends_all (QueueFits a) ms.there x.number g, tt)
      alone x false q = (put_all (QueueFits a) ms.there (record x { content = Some v }) g q, tt)

      queue : (x : Mutex) (l : List (ℕ × ℕ)) → x.number ≡ m → AllByRecursion (AskerFits a x.number) l → QueueFits a x → Both (back_to ms v x l)
      queue x [] e q whole = alone x (x.shares == 0) whole
      queue x (first ∷ rest) e q whole = (put_all (QueueFits a) ms.there (record x { queue = rest }) g q.1, subst (λ n. unfit a first.1 (is_lock n) ≡ 0) e q.0)

      content : (x : Mutex) (c : Option Owned) → QueueFits a x → x.number ≡ m → Gives Both (back_out ms v x c)
      content x None q e = queue x x.queue e q q
      content x (Some u) q e = tt

      by : (o : Option Mutex) → Gives (λ (x : Mutex). QueueFits a x × (x.number ≡ m)) o → Gives Both (back_in ms v o)
      by None q = tt
      by (Some x) q = content x x.content q.0 q.1

  -- a share more
  pub share_more : (ms : Mutexes) (m : MutexNo) → AllQueues ms → Gives AllQueues (more ms m)
  share_more ms m g = by (mutex_in ms.there m) (found_queue ms.there m g)
    where
      by : (o : Option Mutex) → Gives (λ (x : Mutex). QueueFits a x × (x.number ≡ m)) o → Gives AllQueues (more_in ms o)
      by None q = tt
      by (Some x) q = test_gives AllQueues (nat_lt 0 x.shares && nat_lt x.shares (2 ^ 64 - 1)) _ (λ z. put_all (QueueFits a) ms.there (record x { shares = x.shares + 1 }) g q.0)

  -- a share less
  pub share_less : (ms : Mutexes) (m : MutexNo) → AllQueues ms → Gives (λ (p : Mutexes × Option Owned). AllQueues p.0) (less ms m)
  share_less ms m g = by (mutex_in ms.there m) (found_queue ms.there m g)
    where
      Then : Mutexes × Option Owned → Type 0
      Then p = AllQueues p.0

      last : (x : Mutex) (c : Option Owned) → QueueFits a x → Then (last_less ms x c)
      last x None q = put_all (QueueFits a) ms.there (record x { shares = 0 }) g q
      last x (Some v) q = ends_all (QueueFits a) ms.there x.number g

      one_of : (x : Mutex) (b : Bool) → QueueFits a x → Then (if b then last_less ms x x.content else (put_mutex ms (record x { shares = x.shares - 1 }), None))
      one_of x true q = last x x.content q
      one_of x false q = put_all (QueueFits a) ms.there (record x { shares = x.shares - 1 }) g q

      by : (o : Option Mutex) → Gives (λ (x : Mutex). QueueFits a x × (x.number ≡ m)) o → Gives Then (less_in ms o)
      by None q = tt
      by (Some x) q = test_gives Then (nat_lt 0 x.shares) (Some (less_of ms x)) (λ z. one_of x (x.shares == 1) q.0)

  -- NOTES

  abbrev pub AllNotes : List Task → Type 0
  AllNotes ts = AllByRecursion (NoteFits a) ts

  -- a note goes
  pub note_gone : (xs : List Task) (t : ℕ) → AllNotes xs → AllNotes (without_task xs t)
  note_gone [] t g = tt
  note_gone (x ∷ xs) t g = by (x.thread == t) (note_gone xs t g.1)
    where
      by : (b : Bool) → AllNotes (without_task xs t) → AllNotes (if b then xs else x ∷ without_task xs t)
      by true rest = g.1
      by false rest = (g.0, rest)

  -- a note gets another state that fits
  pub note_turned : (xs : List Task) (t : ℕ) (z : TaskState) → note_unfit a t z ≡ 0 → AllNotes xs → AllNotes (with_state xs t z)
  note_turned [] t z fit g = tt
  note_turned (x ∷ xs) t z fit g = by (x.thread == t) (note_turned xs t z fit g.1)
    where
      by : (b : Bool) → AllNotes (with_state xs t z) → AllNotes (if b then record { thread = t; state = z } ∷ xs else x ∷ with_state xs t z)
      by true rest = (fit, g.1)
      by false rest = (g.0, rest)

  abbrev StateFits : ℕ → Option TaskState → Type 0
  StateFits t None = ⊤
  StateFits t (Some z) = note_unfit a t z ≡ 0

  -- what is noted of a thread
  state_fits : (xs : List Task) (t : ℕ) → AllNotes xs → StateFits t (state_of xs t)
  state_fits [] t g = tt
  state_fits (x ∷ xs) t g = by (x.thread == t) refl (state_fits xs t g.1)
    where
      by : (b : Bool) → (x.thread == t) ≡ b → StateFits t (state_of xs t) → StateFits t (state_in (if b then Some x else task_in xs t))
      by true e rest = subst (λ u. note_unfit a u x.state ≡ 0) (Rattle.law_results_reads.proofs.Below.coherent_memory.Names.same_number x.thread t e) g.0
      by false e rest = rest

  -- a result that is asked for
  pub join_asks : (xs : List Task) (t s asker : ℕ) → unfit a asker (is_join t) ≡ 0 → AllNotes xs → Gives (λ (p : List Task × Option Owned). AllNotes p.0) (tasks.ask xs t s asker)
  join_asks xs t s asker z g = by (state_of xs t)
    where
      by : (o : Option TaskState) → Gives (λ (p : List Task × Option Owned). AllNotes p.0) (asked_from xs t s asker o)
      by None = tt
      by (Some going) = note_turned xs t (asked s asker) z g
      by (Some (kept v)) = note_gone xs t g
      by (Some let_go) = tt
      by (Some (asked b c)) = tt
      by (Some (in_pair b c)) = tt

  -- a task that is let go
  pub task_let_go : (xs : List Task) (t : ℕ) → AllNotes xs → Gives (λ (p : List Task × Option Owned). AllNotes p.0) (let_go_of xs t)
  task_let_go xs t g = by (state_of xs t)
    where
      by : (o : Option TaskState) → Gives (λ (p : List Task × Option Owned). AllNotes p.0) (let_go_from xs t o)
      by None = tt
      by (Some going) = note_turned xs t let_go refl g
      by (Some (kept v)) = note_gone xs t g
      by (Some let_go) = tt
      by (Some (asked b c)) = tt
      by (Some (in_pair b c)) = tt

  -- to whom a result goes
  abbrev pub ResultFits : ℕ → EndedAs → Type 0
  ResultFits u (over.Answer s t v) = unfit a t (is_join u) ≡ 0
  ResultFits u e = ⊤

  -- the end of a thread: who is answered fits
  pub thread_ends : (xs : List Task) (t : ℕ) (v : Owned) → AllNotes xs → Gives (λ (p : List Task × EndedAs). AllNotes p.0 × ResultFits t p.1) (ended xs t v)
  thread_ends xs t v g = by (state_of xs t) (state_fits xs t g)
    where
      Both : List Task × EndedAs → Type 0
      Both p = AllNotes p.0 × ResultFits t p.1

      pair : (parent : ℕ) (o : Option ℕ) → Both (pair_ended xs t parent o)
      pair parent None = (note_turned xs t (in_pair parent true) refl g, tt)
      pair parent (Some u) = (note_gone (without_task xs t) u (note_gone xs t g), tt)

      by : (o : Option TaskState) → StateFits t o → Gives Both (ended_from xs t v o)
      by None z = tt
      by (Some going) z = (note_turned xs t (kept v) refl g, tt)
      by (Some let_go) z = (note_gone xs t g, tt)
      by (Some (kept u)) z = tt
      by (Some (asked s u)) z = (note_gone xs t g, z)
      by (Some (in_pair parent true)) z = tt
      by (Some (in_pair parent false)) z = pair parent (over_in xs parent)

-- ANOTHER PHASE OF ONE THREAD

abbrev pub turned : Phases → ℕ → Phase → Phases
turned a n p t = if t == n then Some p else a t

-- a test that only a phase passes that waits
abbrev pub Waiting : (Phase → Bool) → Type 0
Waiting f = (q : Phase) → f q ≡ true → can_step q ≡ false

-- a thread that waits for a cell can't step
pub cell_waits : (w : ℕ) → Waiting (is_cell w)
cell_waits w (phase.WaitCell v) e = refl
cell_waits w q e = absurd (cc e)

-- nor can one that waits for a lock
pub lock_waits : (m : MutexNo) → Waiting (is_lock m)
lock_waits m (phase.WaitLock n) e = refl
lock_waits m q e = absurd (cc e)

-- nor for a share
pub dup_waits : (m : MutexNo) → Waiting (is_dup m)
dup_waits m (phase.WaitDup n) e = refl
dup_waits m q e = absurd (cc e)

-- nor for a result
pub join_waits : (u : ℕ) → Waiting (is_join u)
join_waits u (phase.WaitJoin t) e = refl
join_waits u q e = absurd (cc e)

-- what isn't wrong is so
truly : (b : Bool) → other b ≡ 0 → b ≡ true
truly true z = refl
truly false z = absurd (cc z)

module _ (a : Phases) (n : ℕ) (now : Phase) (has : a n ≡ Some now) (steps : can_step now ≡ true) (p : Phase) where
  -- who is known to wait isn't that thread
  pub still_fits : (f : Phase → Bool) → Waiting f → (t : ℕ) → unfit a t f ≡ 0 → unfit (turned a n p) t f ≡ 0
  still_fits f waits t z =
      eq_cases (λ b. other (passes f (if b then Some p else a t)) ≡ 0) t n
      (λ e.
      let passed : passes f (Some now) ≡ true = subst (λ o. passes f o ≡ true) (ap a e ∙ has) (truly (passes f (a t)) z) in
      absurd (cc (sym steps ∙ waits now passed))) (λ ne. z)

  -- a message still fits where a thread that could step gets a phase
  pub message_still : (m : Message) → message_unfit a m ≡ 0 → message_unfit (turned a n p) m ≡ 0
  message_still (message.Fetch w o r t) z = still_fits (is_cell w) (cell_waits w) t z
  message_still (message.Fetched w c t) z = still_fits (is_cell w) (cell_waits w) t z
  message_still (message.Move w o r t) z = still_fits (is_cell w) (cell_waits w) t z
  message_still (message.Moved w c t) z = still_fits (is_cell w) (cell_waits w) t z
  message_still (message.Lock m r t) z = still_fits (is_lock m) (lock_waits m) t z
  message_still (message.Granted m v t) z = still_fits (is_lock m) (lock_waits m) t z
  message_still (message.Dup m r t) z = still_fits (is_dup m) (dup_waits m) t z
  message_still (message.Dupped m t) z = still_fits (is_dup m) (dup_waits m) t z
  message_still (message.Join u r t) z = still_fits (is_join u) (join_waits u) t z
  message_still (message.Joined u v t) z = still_fits (is_join u) (join_waits u) t z
  message_still (message.Drop w o) z = refl
  message_still (message.Unlock m v) z = refl
  message_still (message.Release x) z = refl
  message_still (message.Start t) z = refl
  message_still (message.Finished u v) z = refl
  message_still (message.Migrate t) z = refl

  -- so does a note
  note_still : (u : ℕ) (z : TaskState) → note_unfit a u z ≡ 0 → note_unfit (turned a n p) u z ≡ 0
  note_still u (asked r t) z = still_fits (is_join u) (join_waits u) t z
  note_still u _ z = refl

  -- so does whatever stands
  pub thing_still : (x : Thing) → thing_unfit a x ≡ 0 → thing_unfit (turned a n p) x ≡ 0
  thing_still (sent r m) z = message_still m z
  thing_still (queued m r t) z = still_fits (is_lock m) (lock_waits m) t z
  thing_still (noted r x) z = note_still x.thread x.state z
  thing_still x z = refl

  -- all of a list
  all_still : {X : Type 0} (P Q : X → Type 0) → ((x : X) → P x → Q x) → (xs : List X) → AllByRecursion P xs → AllByRecursion Q xs
  all_still P Q f [] g = tt
  all_still P Q f (x ∷ xs) g = (f x g.0, all_still P Q f xs g.1)

  -- all of a server
  pub rest_still : (there : List Mutex) (ts : List Task) (inbox : List Message) (outbox : List Sent) → Fits a there ts inbox outbox → Fits (turned a n p) there ts inbox outbox
  rest_still there ts inbox outbox g = record {
    queues = all_still (QueueFits a) (QueueFits (turned a n p)) (λ x q. all_still (AskerFits a x.number) (AskerFits (turned a n p) x.number) (λ t z. still_fits (is_lock x.number) (lock_waits x.number) t.1 z) x.queue q) there g.queues;
    notes = all_still (NoteFits a) (NoteFits (turned a n p)) (λ x z. note_still x.thread x.state z) ts g.notes;
    waiting = all_still (MessageFits a) (MessageFits (turned a n p)) message_still inbox g.waiting;
    leaving = all_still (λ (x : Sent). MessageFits a x.message) (λ (x : Sent). MessageFits (turned a n p) x.message) (λ x z. message_still x.message z) outbox g.leaving;
  }
