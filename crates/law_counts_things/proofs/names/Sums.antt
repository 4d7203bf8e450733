-- All that a server names fits exactly where its things weigh nothing.
use Rattle.std.proofs.Common.{◌≡◌, ℕ, ◌+◌, ◌^◌, ◌<◌, not, Bool, true, false, if◌then◌else◌, List, [], ◌∷◌, ◌++◌, Option, Some, None, refl, sym, subst, arith}
use Rattle.std.specs.List.{AllByRecursion}
use Rattle.law_counts_things.specs.Below.fr_base.declared.name.MutexNo.{MutexNo}
use Rattle.law_counts_things.specs.Below.fr_base.declared.name.ObjNo.{ObjNo}
use Rattle.law_counts_things.specs.Below.heap_partition.declared.value.Cell.{Cell}
use Rattle.law_counts_things.specs.Below.heap_partition.declared.value.Owned.{Owned}
use Rattle.law_counts_things.specs.Below.mut_borrow.declared.shared.SharedRef.{SharedRef}
use Rattle.law_counts_things.specs.Below.mutex_home.Mutexes.{Mutex}
use Rattle.law_counts_things.specs.Below.join_home.Tasks.{Task, TaskState, going, let_go, kept, asked, in_pair}
use Rattle.law_counts_things.specs.Below.thread_state.View.{ThreadState, is_over}
use Rattle.law_counts_things.specs.Below.thread_state.declared.value.Value.{Value}
use Rattle.law_counts_things.specs.Below.thread_state.declared.value.Value.TheVariants as value
use Rattle.law_counts_things.specs.Below.server_msgs.declared.message.Message.{Message}
use Rattle.law_counts_things.specs.Below.server_msgs.declared.message.Message.TheVariants as message
use Rattle.law_counts_things.specs.Below.server_model.Servers.{Server}
use Rattle.law_counts_things.specs.Below.coherent_memory.Names.{tot, if_so}
use Rattle.law_counts_things.specs.Below.coherent_memory.Things.{sent, queued, noted, at_temp, Thing, borrows, locks, lies, flies, vacant, copied, uses, retired, stands, things_at, is_free, pin_things, slot_things, temp_things, gift_things, walk_things, thread_things, standing_things, message_things, waiting_things, leaving_things, cell_things, free_things, copy_things, content_things, queue_things, mutex_things, task_things, server_things}
use Rattle.law_counts_things.specs.Below.coherent_memory.Placing.{words}
use Rattle.law_counts_things.specs.Below.coherent_memory.Naming.{threads, named_mutexes}
use Rattle.law_counts_things.proofs.Below.coherent_memory.Sums.{tot-append, server_parts}
use Rattle.law_counts_things.specs.Below.law_counts_sums.Laws.{Gives}
use Rattle.law_counts_things.proofs.things.Handed.{all_none, none_all}
use Rattle.law_counts_things.proofs.names.Fit.{Weights, message_asker, OwnedFits, Fits, TempFits, WordFits, CellFits, CopyFits, ThreadFits, MessageFits, SentFits, FreeFits, AskerFits, MutexFit, StateFits, TaskFits, Base, RestFits}

-- THE WEIGHT OF A THING

abbrev pub noted_asker : (ℕ → ℕ → ℕ) → TaskState → ℕ
noted_asker f (asked s t) = f s t
noted_asker f x = 0

abbrev pub cell_object : (ObjNo → ℕ) → Thing → ℕ
cell_object f (lies s a c) = f c.object
cell_object f (flies v c) = f c.object
cell_object f x = 0

abbrev pub holder_of : (ℕ → ℕ) → Thing → ℕ
holder_of f (borrows l r) = f r.holder.depth
holder_of f x = 0

abbrev pub next_of : (ℕ → ℕ) → Thing → ℕ
next_of f (vacant s a c) = f c
next_of f x = 0

abbrev pub made_of : (ℕ → ℕ) → Thing → ℕ
made_of f (stands s p t) = f t.made
made_of f x = 0

abbrev pub going_of : (ℕ → ℕ → ℕ) → Thing → ℕ
going_of f (stands s p t) = if_so (not (is_over t.phase)) (f t.number t.made)
going_of f x = 0

abbrev pub loose : ℕ → Thing → ℕ
loose n (locks (at_temp t i) m) = n
loose n x = 0

abbrev pub asked_of : (ℕ → ℕ → ℕ) → Thing → ℕ
asked_of f (sent n m) = message_asker f n m
asked_of f (queued m s t) = f s t
asked_of f (noted s x) = noted_asker f x.state
asked_of f x = 0

noted_by_none : (s : TaskState) → noted_asker (λ r t. 0) s ≡ 0
noted_by_none (asked s t) = refl
noted_by_none s = refl

asked_by_none : (n : ℕ) (m : Message) → message_asker (λ r t. 0) n m ≡ 0
asked_by_none n (message.Fetch v o s t) = refl
asked_by_none n m = refl

pub no_asker : (x : Thing) → asked_of (λ r t. 0) x ≡ 0
no_asker (sent n m) = asked_by_none n m
no_asker (noted s x) = noted_by_none x.state
no_asker x = refl

-- copies, in caches and in messages, and the words of which one was asked for
abbrev pub sent_copy : (ℕ → Cell → ℕ) → (ℕ → ℕ) → Message → ℕ
sent_copy f g (message.Fetch v o s t) = g v
sent_copy f g (message.Fetched v c t) = f v c + g v
sent_copy f g m = 0

abbrev pub copy_of : (ℕ → Cell → ℕ) → (ℕ → ℕ) → Thing → ℕ
copy_of f g (copied r c) = f c.word c.cell
copy_of f g (sent n m) = sent_copy f g m
copy_of f g x = 0

sent_copy_none : (m : Message) → sent_copy (λ v c. 0) (λ v. 0) m ≡ 0
sent_copy_none (message.Fetched v c t) = refl
sent_copy_none m = refl

pub no_copy : (x : Thing) → copy_of (λ v c. 0) (λ v. 0) x ≡ 0
no_copy (sent n m) = sent_copy_none m
no_copy x = refl

abbrev pub stray : Weights → Thing → ℕ
stray w x = words w.word x + threads w.thread x + named_mutexes w.mutex x + cell_object w.object x + holder_of w.holder x + next_of w.colour x + made_of w.made x + loose w.mark x + asked_of w.asker x + going_of w.going x + copy_of w.copy w.wanted x

-- what a server is before an event
abbrev pub base_of : Server → Base
base_of s = record { number = s.rest.number; started = s.rest.started; made = s.rest.mutexes.made; home = s.rest.mutexes.home; limit = s.rest.partition.limit }

module _ (w : Weights) where
  abbrev f : Thing → ℕ
  f = stray w

  -- THREADS

  pins_none : (s : ℕ) (r : SharedRef) → w.word r.word ≡ 0 → tot f (pin_things s r) ≡ 0
  pins_none s r z = by r.pinned
    where
      by : (b : Bool) → tot f (if b then uses s r.word ∷ [] else []) ≡ 0
      by true = omega (arith, z)
      by false = refl

  slot_from : (s t i : ℕ) (v : Value) → tot f (slot_things s t i v) ≡ 0 → Fits w v
  slot_from s t i (value.Own v) z = omega (arith, z)
  slot_from s t i (value.Shared r) z = omega (arith, z)
  slot_from s t i (value.Mut r) z = omega (arith, z)
  slot_from s t i (value.Held m) z = omega (arith, z)
  slot_from s t i value.Gone z = refl
  slot_from s t i (value.SharedSlot j) z = refl
  slot_from s t i (value.MutSlot j) z = refl

  slot_to : (s t i : ℕ) (v : Value) → Fits w v → tot f (slot_things s t i v) ≡ 0
  slot_to s t i (value.Own v) z = omega (arith, z)
  slot_to s t i (value.Shared r) z = omega (arith, z, pins_none s r (omega (arith, z)))
  slot_to s t i (value.Mut r) z = omega (arith, z)
  slot_to s t i (value.Held m) z = omega (arith, z)
  slot_to s t i value.Gone z = refl
  slot_to s t i (value.SharedSlot j) z = refl
  slot_to s t i (value.MutSlot j) z = refl

  temp_from : (s t i : ℕ) (v : Value) → tot f (temp_things s t i v) ≡ 0 → TempFits w v
  temp_from s t i (value.Own v) z = omega (arith, z)
  temp_from s t i (value.Shared r) z = omega (arith, z)
  temp_from s t i (value.Mut r) z = omega (arith, z)
  temp_from s t i (value.Held m) z = omega (arith, z)
  temp_from s t i value.Gone z = refl
  temp_from s t i (value.SharedSlot j) z = refl
  temp_from s t i (value.MutSlot j) z = refl

  temp_to : (s t i : ℕ) (v : Value) → TempFits w v → tot f (temp_things s t i v) ≡ 0
  temp_to s t i (value.Own v) z = omega (arith, z)
  temp_to s t i (value.Shared r) z = omega (arith, z, pins_none s r (omega (arith, z)))
  temp_to s t i (value.Mut r) z = omega (arith, z)
  temp_to s t i (value.Held m) z = omega (arith, z)
  temp_to s t i value.Gone z = refl
  temp_to s t i (value.SharedSlot j) z = refl
  temp_to s t i (value.MutSlot j) z = refl

  gift_from : (t : ℕ) (v : Option Owned) → tot f (gift_things t v) ≡ 0 → Gives (OwnedFits w) v
  gift_from t None z = tt
  gift_from t (Some v) z = omega (arith, z)

  gift_to : (t : ℕ) (v : Option Owned) → Gives (OwnedFits w) v → tot f (gift_things t v) ≡ 0
  gift_to t None z = refl
  gift_to t (Some v) z = omega (arith, z)

  thread_parts : (n : ℕ) (p : Bool) (t : ThreadState) → tot f (thread_things n p t)
      ≡ f (stands n p t) + tot f (gift_things t.number t.gift) + tot f (things_at (walk_things n) 0 t.walk) + tot f (things_at (slot_things n t.number) 0 t.slots) + tot f (things_at (temp_things n t.number) 0 t.temps)
  thread_parts n p t =
      let gift = gift_things t.number t.gift in
      let walk = things_at (walk_things n) 0 t.walk in
      let slots = things_at (slot_things n t.number) 0 t.slots in
      let temps = things_at (temp_things n t.number) 0 t.temps in
      omega (arith, tot-append f (gift ++ walk ++ slots) temps, tot-append f (gift ++ walk) slots, tot-append f gift walk)

  thread_from : (n : ℕ) (p : Bool) (t : ThreadState) → tot f (thread_things n p t) ≡ 0 → ThreadFits w t
  thread_from n p t z =
      let a = thread_parts n p t in (
        record {
          named = omega (arith, z, a);
          made_so = omega (arith, z, a);
          waits = omega (arith, z, a);
          given = gift_from t.number t.gift (omega (arith, z, a));
          walks = all_none f (walk_things n) (WordFits w) (λ i x y. omega (arith, y)) 0 t.walk (omega (arith, z, a));
          slots_fit = all_none f (slot_things n t.number) (Fits w) (λ i x y. slot_from n t.number i x y) 0 t.slots (omega (arith, z, a));
          temps_fit = all_none f (temp_things n t.number) (TempFits w) (λ i x y. temp_from n t.number i x y) 0 t.temps (omega (arith, z, a));
        },
        omega (arith, z, a),
      )

  thread_to : (n : ℕ) (p : Bool) (t : ThreadState) → ThreadFits w t → tot f (thread_things n p t) ≡ 0
  thread_to n p t g =
      let fit = g.0 in
      omega (
        arith,
        thread_parts n p t,
        fit.named,
        fit.made_so,
        fit.waits,
        g.1,
        gift_to t.number t.gift fit.given,
        none_all f (walk_things n) (WordFits w) (λ i x y. omega (arith, y)) 0 t.walk fit.walks,
        none_all f (slot_things n t.number) (Fits w) (λ i x y. slot_to n t.number i x y) 0 t.slots fit.slots_fit,
        none_all f (temp_things n t.number) (TempFits w) (λ i x y. temp_to n t.number i x y) 0 t.temps fit.temps_fit,
      )

  -- MESSAGES

  message_from : (n : ℕ) (m : Message) → tot f (message_things n m) ≡ 0 → MessageFits w n m
  message_from n (message.Start t) z = thread_from n true t (omega (arith, z))
  message_from n (message.Migrate t) z = thread_from n true t (omega (arith, z))
  message_from n (message.Fetch v o s t) z = omega (arith, z)
  message_from n (message.Fetched v c t) z = omega (arith, z)
  message_from n (message.Move v o s t) z = omega (arith, z)
  message_from n (message.Moved v c t) z = omega (arith, z)
  message_from n (message.Drop v o) z = omega (arith, z)
  message_from n (message.Lock m s t) z = omega (arith, z)
  message_from n (message.Granted m v t) z = omega (arith, z)
  message_from n (message.Unlock m v) z = omega (arith, z)
  message_from n (message.Dup m s t) z = omega (arith, z)
  message_from n (message.Dupped m t) z = omega (arith, z)
  message_from n (message.Release x) z = omega (arith, z)
  message_from n (message.Join u s t) z = omega (arith, z)
  message_from n (message.Joined u v t) z = omega (arith, z)
  message_from n (message.Finished u v) z = omega (arith, z)

  message_to : (n : ℕ) (m : Message) → MessageFits w n m → tot f (message_things n m) ≡ 0
  message_to n (message.Start t) z = omega (arith, thread_to n true t z)
  message_to n (message.Migrate t) z = omega (arith, thread_to n true t z)
  message_to n (message.Fetch v o s t) z = omega (arith, z)
  message_to n (message.Fetched v c t) z = omega (arith, z)
  message_to n (message.Move v o s t) z = omega (arith, z)
  message_to n (message.Moved v c t) z = omega (arith, z)
  message_to n (message.Drop v o) z = omega (arith, z)
  message_to n (message.Lock m s t) z = omega (arith, z)
  message_to n (message.Granted m v t) z = omega (arith, z)
  message_to n (message.Unlock m v) z = omega (arith, z)
  message_to n (message.Dup m s t) z = omega (arith, z)
  message_to n (message.Dupped m t) z = omega (arith, z)
  message_to n (message.Release x) z = omega (arith, z)
  message_to n (message.Join u s t) z = omega (arith, z)
  message_to n (message.Joined u v t) z = omega (arith, z)
  message_to n (message.Finished u v) z = omega (arith, z)

  -- PARTS OF A SERVER

  cell_from : (n : ℕ) (free : List (ℕ × ℕ)) (i : ℕ) (c : Option Cell) → tot f (cell_things n free i c) ≡ 0 → Gives (CellFits w) c
  cell_from n free i None z = tt
  cell_from n free i (Some c) z = omega (arith, z)

  cell_to : (n : ℕ) (free : List (ℕ × ℕ)) (i : ℕ) (c : Option Cell) → Gives (CellFits w) c → tot f (cell_things n free i c) ≡ 0
  cell_to n free i (Some c) z = omega (arith, z)
  cell_to n free i None z = by (is_free i free)
    where
      by : (b : Bool) → tot f (if b then [] else retired n i ∷ []) ≡ 0
      by true = refl
      by false = refl

  content_from : (m : MutexNo) (v : Option Owned) → tot f (content_things m v) ≡ 0 → Gives (OwnedFits w) v
  content_from m None z = tt
  content_from m (Some v) z = omega (arith, z)

  content_to : (m : MutexNo) (v : Option Owned) → Gives (OwnedFits w) v → tot f (content_things m v) ≡ 0
  content_to m None z = refl
  content_to m (Some v) z = omega (arith, z)

  mutex_from : (n i : ℕ) (m : Mutex) → tot f (mutex_things n i m) ≡ 0 → MutexFit w m
  mutex_from n i m z =
      let a = tot-append f (content_things m.number m.content) (things_at (queue_things m.number) 0 m.queue) in record {
        named = omega (arith, z, a);
        inside = content_from m.number m.content (omega (arith, z, a));
        waiting = all_none f (queue_things m.number) (AskerFits w) (λ j x y. omega (arith, y)) 0 m.queue (omega (arith, z, a));
      }

  mutex_to : (n i : ℕ) (m : Mutex) → MutexFit w m → tot f (mutex_things n i m) ≡ 0
  mutex_to n i m g =
      let named = g.named in
      omega (
        arith,
        named,
        tot-append f (content_things m.number m.content) (things_at (queue_things m.number) 0 m.queue),
        content_to m.number m.content g.inside,
        none_all f (queue_things m.number) (AskerFits w) (λ j x y. omega (arith, y, named)) 0 m.queue g.waiting,
      )

  state_from : (n t : ℕ) (s : TaskState) → tot f (task_things n 0 (record { thread = t; state = s })) ≡ 0 → StateFits w s
  state_from n t going z = tt
  state_from n t let_go z = tt
  state_from n t (kept v) z = omega (arith, z)
  state_from n t (asked r u) z = omega (arith, z)
  state_from n t (in_pair p o) z = omega (arith, z)

  task_to_by : (n t : ℕ) (s : TaskState) → w.thread t ≡ 0 → StateFits w s → tot f (task_things n 0 (record { thread = t; state = s })) ≡ 0
  task_to_by n t going z k = omega (arith, z)
  task_to_by n t let_go z k = omega (arith, z)
  task_to_by n t (kept v) z k = omega (arith, z, k)
  task_to_by n t (asked r u) z k = omega (arith, z, k)
  task_to_by n t (in_pair p o) z k = omega (arith, z, k)

  task_from : (n i : ℕ) (x : Task) → tot f (task_things n i x) ≡ 0 → TaskFits w x
  task_from n i x z = (omega (arith, z), state_from n x.thread x.state z)

  task_to : (n i : ℕ) (x : Task) → TaskFits w x → tot f (task_things n i x) ≡ 0
  task_to n i x g = task_to_by n x.thread x.state g.0 g.1

  -- SERVERS

  abbrev pub ServerFits : Base → Server → Type 0
  ServerFits b s = RestFits w b s.rest × AllByRecursion (ThreadFits w) s.threads

  both : (xs : List (ℕ × ℕ)) → AllByRecursion (λ (x : ℕ × ℕ). x.0 < 2 ^ 40) xs → AllByRecursion (λ (x : ℕ × ℕ). w.colour x.1 ≡ 0) xs → AllByRecursion (FreeFits w) xs
  both [] a b = tt
  both (x ∷ xs) a b = ((a.0, b.0), both xs a.1 b.1)

  colours : (xs : List (ℕ × ℕ)) → AllByRecursion (FreeFits w) xs → AllByRecursion (λ (x : ℕ × ℕ). w.colour x.1 ≡ 0) xs
  colours [] a = tt
  colours (x ∷ xs) a = let first = a.0 in (first.1, colours xs a.1)

  pub server_from : (s : Server) → AllByRecursion (λ (x : ℕ × ℕ). x.0 < 2 ^ 40) s.rest.partition.free → s.rest.partition.server < 2 ^ 8 → tot f (server_things s) ≡ 0 → ServerFits (base_of s) s
  server_from s addresses small z =
      let n = s.rest.number in
      let p = s.rest.partition in
      let a = server_parts f s in
      let c = tot-append f (things_at (cell_things n p.free) 0 p.cells) (things_at (free_things n) 0 p.free) in (
        record {
          numbered = refl;
          begun = refl;
          made_so = refl;
          homed = refl;
          partition = record {
            cells_fit = all_none f (cell_things n p.free) (Gives (CellFits w)) (cell_from n p.free) 0 p.cells (omega (arith, z, a, c));
            free_fit = both p.free addresses (all_none f (free_things n) (λ (x : ℕ × ℕ). w.colour x.1 ≡ 0) (λ i x y. omega (arith, y)) 0 p.free (omega (arith, z, a, c)));
            small = small;
            limited = refl;
          };
          copies = all_none f (copy_things n) (CopyFits w) (λ i x y. omega (arith, y)) 0 s.rest.cache (omega (arith, z, a));
          mutexes = all_none f (mutex_things n) (MutexFit w) (mutex_from n) 0 s.rest.mutexes.there (omega (arith, z, a));
          tasks = all_none f (task_things n) (TaskFits w) (task_from n) 0 s.rest.tasks (omega (arith, z, a));
          waiting = all_none f (waiting_things n) (MessageFits w n) (λ i x y. message_from n x y) 0 s.rest.inbox (omega (arith, z, a));
          leaving = all_none f leaving_things (SentFits w) (λ i x y. message_from x.target x.message y) 0 s.rest.outbox (omega (arith, z, a));
        },
        all_none f (standing_things n) (ThreadFits w) (λ i x y. thread_from n false x y) 0 s.threads (omega (arith, z, a)),
      )

  pub server_to : (b : Base) (s : Server) → ServerFits b s → tot f (server_things s) ≡ 0
  server_to b s g =
      let n = s.rest.number in
      let p = s.rest.partition in
      let rest = g.0 in
      let part = rest.partition in
      omega (
        arith,
        server_parts f s,
        tot-append f (things_at (cell_things n p.free) 0 p.cells) (things_at (free_things n) 0 p.free),
        none_all f (cell_things n p.free) (Gives (CellFits w)) (cell_to n p.free) 0 p.cells part.cells_fit,
        none_all f (free_things n) (λ (x : ℕ × ℕ). w.colour x.1 ≡ 0) (λ i x y. omega (arith, y)) 0 p.free (colours p.free part.free_fit),
        none_all f (copy_things n) (CopyFits w) (λ i x y. omega (arith, y)) 0 s.rest.cache rest.copies,
        none_all f (mutex_things n) (MutexFit w) (mutex_to n) 0 s.rest.mutexes.there rest.mutexes,
        none_all f (task_things n) (TaskFits w) (task_to n) 0 s.rest.tasks rest.tasks,
        none_all f (waiting_things n) (MessageFits w b.number) (λ i x y. message_to n x (subst (λ m. MessageFits w m x) (sym rest.numbered) y)) 0 s.rest.inbox rest.waiting,
        none_all f leaving_things (SentFits w) (λ i x y. message_to x.target x.message y) 0 s.rest.outbox rest.leaving,
        none_all f (standing_things n) (ThreadFits w) (λ i x y. thread_to n false x y) 0 s.threads g.1,
      )
