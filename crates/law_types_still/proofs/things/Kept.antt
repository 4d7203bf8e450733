-- What stands as a mutex's content, as a thread's result or as a thread's gift, wherever it is, has what is wanted of it: at a server, in its mutexes, notes, threads and messages.
use Rattle.std.proofs.Common.{◌≡◌, ℕ, ◌+◌, ◌-◌, ◌^◌, ◌==◌, ◌&&◌, nat_lt, Bool, true, false, if◌then◌else◌, List, [], ◌∷◌, ◌++◌, Option, Some, None, refl, sym, subst}
use Rattle.std.specs.List.{AllByRecursion}
use Rattle.std.specs.Bool.{⊤}
use Rattle.law_counts_things.specs.Below.fr_base.declared.name.MutexNo.{MutexNo}
use Rattle.law_counts_things.specs.Below.heap_partition.declared.value.Owned.{Owned}
use Rattle.law_counts_things.specs.Below.mutex_home.Mutexes.{Mutex, Mutexes, mutex_in, put_mutex, end_mutex, asked_of, asked_in, ask, back_to, back_out, back_in, give_back, more_in, more, last_less, less_of, less_in, less}
use Rattle.law_counts_things.specs.Below.mutex_home.declared.answers.Asked.{Asked}
use Rattle.law_counts_things.specs.Below.mutex_home.declared.answers.Asked.TheVariants as answer
use Rattle.law_counts_things.specs.Below.mutex_home.declared.answers.Back.{Back}
use Rattle.law_counts_things.specs.Below.mutex_home.declared.answers.Back.TheVariants as back
use Rattle.law_counts_things.specs.Below.join_home.Tasks.{Task, TaskState, going, let_go, kept, asked, in_pair, task_in, state_in, state_of, with_state, without_task, over_in, pair_ended, ended_from, ended, asked_from, let_go_from, let_go_of}
use Rattle.law_counts_things.specs.Below.join_home.Tasks as tasks
use Rattle.law_counts_things.specs.Below.join_home.declared.answers.EndedAs.{EndedAs}
use Rattle.law_counts_things.specs.Below.join_home.declared.answers.EndedAs.TheVariants as over
use Rattle.law_counts_things.specs.Below.thread_state.View.{ThreadState}
use Rattle.law_counts_things.specs.Below.server_msgs.declared.message.Message.{Message}
use Rattle.law_counts_things.specs.Below.server_msgs.declared.message.Message.TheVariants as message
use Rattle.law_counts_things.specs.Below.server_model.Servers.{Sent, Rest}
use Rattle.law_counts_things.specs.Below.server_model.Work.{sent_from}
use Rattle.law_counts_things.specs.Below.coherent_memory.Names.{same_mutex}
use Rattle.law_counts_things.proofs.Below.coherent_memory.Names.{same_mutexes, same_number}
use Rattle.law_counts_things.specs.Below.law_counts_sums.Laws.{Gives}
use Rattle.law_counts_things.proofs.Below.law_counts_sums.Results.{test_gives}
use Rattle.law_counts_things.proofs.Below.law_counts_sums.Known.{all_append}
use Rattle.law_counts_things.proofs.things.MutexLists.{put_all, ends_all}

-- what is wanted of a value as the content of a mutex, as the result of a thread, as the gift of a thread
pub record Wanted : Type 1 where
  pub content : MutexNo → Owned → Type 0
  pub result : ℕ → Owned → Type 0
  pub gift : ℕ → Owned → Type 0

module _ (w : Wanted) where
  -- A SERVER'S

  abbrev pub GiftHas : ThreadState → Type 0
  GiftHas t = Gives (w.gift t.number) t.gift

  abbrev pub MessageHas : Message → Type 0
  MessageHas (message.Granted m v t) = w.content m v
  MessageHas (message.Unlock m v) = w.content m v
  MessageHas (message.Joined u v t) = w.result u v
  MessageHas (message.Finished u v) = w.result u v
  MessageHas (message.Start t) = GiftHas t
  MessageHas (message.Migrate t) = GiftHas t
  MessageHas m = ⊤

  abbrev pub ContentHas : Mutex → Type 0
  ContentHas x = Gives (w.content x.number) x.content

  abbrev pub StateHas : ℕ → TaskState → Type 0
  StateHas t (kept v) = w.result t v
  StateHas t z = ⊤

  abbrev pub NoteHas : Task → Type 0
  NoteHas x = StateHas x.thread x.state

  pub record Has (there : List Mutex) (ts : List Task) (inbox : List Message) (outbox : List Sent) : Type 0 where
    pub contents : AllByRecursion ContentHas there
    pub notes : AllByRecursion NoteHas ts
    pub waiting : AllByRecursion MessageHas inbox
    pub leaving : AllByRecursion (λ (x : Sent). MessageHas x.message) outbox

  abbrev pub RestHas : Rest → Type 0
  RestHas r = Has r.mutexes.there r.tasks r.inbox r.outbox

  -- one message more
  pub sent_has : (t : ℕ) (m : Message) (r : Rest) → MessageHas m → RestHas r → RestHas (sent_from r t m)
  sent_has t m r z g = by (t == r.number)
    where
      by : (b : Bool) → RestHas (if b then record r { inbox = r.inbox ++ m ∷ [] } else record r { outbox = r.outbox ++ record { target = t; message = m } ∷ [] })
      by true = record { contents = g.contents; notes = g.notes; waiting = all_append MessageHas r.inbox (m ∷ []) g.waiting (z, tt); leaving = g.leaving }
      by false = record { contents = g.contents; notes = g.notes; waiting = g.waiting; leaving = all_append (λ (x : Sent). MessageHas x.message) r.outbox (record { target = t; message = m } ∷ []) g.leaving (z, tt) }

  -- MUTEXES

  abbrev pub AllContents : Mutexes → Type 0
  AllContents ms = AllByRecursion ContentHas ms.there

  -- the mutex that is found has that number
  found_content : (xs : List Mutex) (m : MutexNo) → AllByRecursion ContentHas xs → Gives (λ (x : Mutex). ContentHas x × (x.number ≡ m)) (mutex_in xs m)
  found_content [] m g = tt
  found_content (x ∷ xs) m g = by (same_mutex x.number m) refl (found_content xs m g.1)
    where
      by : (b : Bool) → same_mutex x.number m ≡ b → Gives (λ (y : Mutex). ContentHas y × (y.number ≡ m)) (mutex_in xs m) → Gives (λ (y : Mutex). ContentHas y × (y.number ≡ m)) (if b then Some x else mutex_in xs m)
      by true e rest = (g.0, same_mutexes x.number m e)
      by false e rest = rest

  -- what a lock is answered
  abbrev pub GrantHas : MutexNo → Asked → Type 0
  GrantHas m (answer.Granted v) = w.content m v
  GrantHas m answer.Queued = ⊤

  -- a lock that is asked for
  pub lock_asks : (ms : Mutexes) (m : MutexNo) (s t : ℕ) → AllContents ms → Gives (λ (p : Mutexes × Asked). AllContents p.0 × GrantHas m p.1) (ask ms m s t)
  lock_asks ms m s t g = by (mutex_in ms.there m) (found_content ms.there m g)
    where
      Both : Mutexes × Asked → Type 0
      Both p = AllContents p.0 × GrantHas m p.1

      of : (x : Mutex) (c : Option Owned) → Gives (w.content x.number) c → ContentHas x → x.number ≡ m → Both (asked_of ms s t c x)
      of x None z q e = (put_all ContentHas ms.there (record x { queue = x.queue ++ (s, t) ∷ [] }) g q, tt)
      of x (Some v) z q e = (put_all ContentHas ms.there (record x { content = None }) g tt, subst (λ n. w.content n v) e z)

      by : (o : Option Mutex) → Gives (λ (x : Mutex). ContentHas x × (x.number ≡ m)) o → Gives Both (asked_in ms s t o)
      by None q = tt
      by (Some x) q = of x x.content q.0 q.0 q.1

  -- what goes on of a content that comes back
  abbrev pub NextHas : MutexNo → Back → Type 0
  NextHas m (back.Next s t v) = w.content m v
  NextHas m b = ⊤

  -- a content that comes back
  pub content_back : (ms : Mutexes) (m : MutexNo) (v : Owned) → w.content m v → AllContents ms → Gives (λ (p : Mutexes × Back). AllContents p.0 × NextHas m p.1) (give_back ms m v)
  content_back ms m v z g = by (mutex_in ms.there m) (found_content ms.there m g)
    where
      Both : Mutexes × Back → Type 0
      Both p = AllContents p.0 × NextHas m p.1

      alone : (x : Mutex) (b : Bool) → x.number ≡ m → Both (if b then (end_mutex ms x.number, back.Ended v) else (put_mutex ms (record x { content = Some v }), back.Kept))
      alone x true e = (ends_all ContentHas ms.there x.number g, tt)
      alone x false e = (put_all ContentHas ms.there (record x { content = Some v }) g (subst (λ n. w.content n v) (sym e) z), tt)

      queue : (x : Mutex) (l : List (ℕ × ℕ)) → x.number ≡ m → ContentHas x → Both (back_to ms v x l)
      queue x [] e q = alone x (x.shares == 0) e
      queue x (first ∷ rest) e q = (put_all ContentHas ms.there (record x { queue = rest }) g q, z)

      content : (x : Mutex) (c : Option Owned) → ContentHas x → x.number ≡ m → Gives Both (back_out ms v x c)
      content x None q e = queue x x.queue e q
      content x (Some u) q e = tt

      by : (o : Option Mutex) → Gives (λ (x : Mutex). ContentHas x × (x.number ≡ m)) o → Gives Both (back_in ms v o)
      by None q = tt
      by (Some x) q = content x x.content q.0 q.1

  -- a share more
  pub share_more : (ms : Mutexes) (m : MutexNo) → AllContents ms → Gives AllContents (more ms m)
  share_more ms m g = by (mutex_in ms.there m) (found_content ms.there m g)
    where
      by : (o : Option Mutex) → Gives (λ (x : Mutex). ContentHas x × (x.number ≡ m)) o → Gives AllContents (more_in ms o)
      by None q = tt
      by (Some x) q = test_gives AllContents (nat_lt 0 x.shares && nat_lt x.shares (2 ^ 64 - 1)) _ (λ z. put_all ContentHas ms.there (record x { shares = x.shares + 1 }) g q.0)

  -- a share less
  pub share_less : (ms : Mutexes) (m : MutexNo) → AllContents ms → Gives (λ (p : Mutexes × Option Owned). AllContents p.0) (less ms m)
  share_less ms m g = by (mutex_in ms.there m) (found_content ms.there m g)
    where
      Then : Mutexes × Option Owned → Type 0
      Then p = AllContents p.0

      last : (x : Mutex) (c : Option Owned) → ContentHas x → Then (last_less ms x c)
      last x None q = put_all ContentHas ms.there (record x { shares = 0 }) g q
      last x (Some v) q = ends_all ContentHas ms.there x.number g

      one_of : (x : Mutex) (b : Bool) → ContentHas x → Then (if b then last_less ms x x.content else (put_mutex ms (record x { shares = x.shares - 1 }), None))
      one_of x true q = last x x.content q
      one_of x false q = put_all ContentHas ms.there (record x { shares = x.shares - 1 }) g q

      by : (o : Option Mutex) → Gives (λ (x : Mutex). ContentHas x × (x.number ≡ m)) o → Gives Then (less_in ms o)
      by None q = tt
      by (Some x) q = test_gives Then (nat_lt 0 x.shares) (Some (less_of ms x)) (λ z. one_of x (x.shares == 1) q.0)

  -- NOTES

  abbrev pub AllNotes : List Task → Type 0
  AllNotes ts = AllByRecursion NoteHas ts

  -- a note goes
  note_gone : (xs : List Task) (t : ℕ) → AllNotes xs → AllNotes (without_task xs t)
  note_gone [] t g = tt
  note_gone (x ∷ xs) t g = by (x.thread == t) (note_gone xs t g.1)
    where
      by : (b : Bool) → AllNotes (without_task xs t) → AllNotes (if b then xs else x ∷ without_task xs t)
      by true rest = g.1
      by false rest = (g.0, rest)

  -- a note gets another state
  note_turned : (xs : List Task) (t : ℕ) (z : TaskState) → StateHas t z → AllNotes xs → AllNotes (with_state xs t z)
  note_turned [] t z fit g = tt
  note_turned (x ∷ xs) t z fit g = by (x.thread == t) (note_turned xs t z fit g.1)
    where
      by : (b : Bool) → AllNotes (with_state xs t z) → AllNotes (if b then record { thread = t; state = z } ∷ xs else x ∷ with_state xs t z)
      by true rest = (fit, g.1)
      by false rest = (g.0, rest)

  -- what is noted of a thread
  state_has : (xs : List Task) (t : ℕ) → AllNotes xs → Gives (StateHas t) (state_of xs t)
  state_has [] t g = tt
  state_has (x ∷ xs) t g = by (x.thread == t) refl (state_has xs t g.1)
    where
      by : (b : Bool) → (x.thread == t) ≡ b → Gives (StateHas t) (state_of xs t) → Gives (StateHas t) (state_in (if b then Some x else task_in xs t))
      by true e rest = subst (λ u. StateHas u x.state) (same_number x.thread t e) g.0
      by false e rest = rest

  -- a result that is asked for
  pub join_asks : (xs : List Task) (t s asker : ℕ) → AllNotes xs → Gives (λ (p : List Task × Option Owned). AllNotes p.0 × Gives (w.result t) p.1) (tasks.ask xs t s asker)
  join_asks xs t s asker g = by (state_of xs t) (state_has xs t g)
    where
      by : (o : Option TaskState) → Gives (StateHas t) o → Gives (λ (p : List Task × Option Owned). AllNotes p.0 × Gives (w.result t) p.1) (asked_from xs t s asker o)
      by None z = tt
      by (Some going) z = (note_turned xs t (asked s asker) tt g, tt)
      by (Some (kept v)) z = (note_gone xs t g, z)
      by (Some let_go) z = tt
      by (Some (asked b c)) z = tt
      by (Some (in_pair b c)) z = tt

  -- a task that is let go
  pub task_let_go : (xs : List Task) (t : ℕ) → AllNotes xs → Gives (λ (p : List Task × Option Owned). AllNotes p.0) (let_go_of xs t)
  task_let_go xs t g = by (state_of xs t)
    where
      by : (o : Option TaskState) → Gives (λ (p : List Task × Option Owned). AllNotes p.0) (let_go_from xs t o)
      by None = tt
      by (Some going) = note_turned xs t let_go tt g
      by (Some (kept v)) = note_gone xs t g
      by (Some let_go) = tt
      by (Some (asked b c)) = tt
      by (Some (in_pair b c)) = tt

  -- what goes on of a result
  abbrev pub EndHas : ℕ → EndedAs → Type 0
  EndHas u (over.Answer s t v) = w.result u v
  EndHas u e = ⊤

  -- the end of a thread
  pub thread_ends : (xs : List Task) (t : ℕ) (v : Owned) → w.result t v → AllNotes xs → Gives (λ (p : List Task × EndedAs). AllNotes p.0 × EndHas t p.1) (ended xs t v)
  thread_ends xs t v has g = by (state_of xs t)
    where
      Both : List Task × EndedAs → Type 0
      Both p = AllNotes p.0 × EndHas t p.1

      pair : (parent : ℕ) (o : Option ℕ) → Both (pair_ended xs t parent o)
      pair parent None = (note_turned xs t (in_pair parent true) tt g, tt)
      pair parent (Some u) = (note_gone (without_task xs t) u (note_gone xs t g), tt)

      by : (o : Option TaskState) → Gives Both (ended_from xs t v o)
      by None = tt
      by (Some going) = (note_turned xs t (kept v) has g, tt)
      by (Some let_go) = (note_gone xs t g, tt)
      by (Some (kept u)) = tt
      by (Some (asked s u)) = (note_gone xs t g, has)
      by (Some (in_pair parent true)) = tt
      by (Some (in_pair parent false)) = pair parent (over_in xs parent)
