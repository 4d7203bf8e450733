-- The parts of one server stay of their types in every event.
use Rattle.std.proofs.Common.{◌≡◌, ◌<◌, ◌≤◌, ℕ, suc, ◌+◌, ◌*◌, ◌-◌, ◌^◌, ◌==◌, Bool, true, false, if◌then◌else◌, List, [], ◌∷◌, ◌++◌, Some, ap, arith}
use Rattle.law_counts_limits.specs.Below.heap_partition.declared.value.Owned.{Owned}
use Rattle.law_counts_limits.specs.Below.owner_box.View.{PartitionState}
use Rattle.law_counts_limits.specs.Below.owner_box.Partition.{stored, freed, made, renewed}
use Rattle.law_counts_limits.specs.Below.read_cache.Cache.{Copy, users, pin, unpin, fill, evict}
use Rattle.law_counts_limits.specs.Below.mutex_home.Mutexes.{Mutex, Mutexes, put_mutex, end_mutex, with_mutex, make, next_mutex, ask, give_back, more, less}
use Rattle.law_counts_limits.specs.Below.fr_base.declared.name.MutexNo.{MutexNo}
use Rattle.law_counts_limits.specs.Below.join_home.Tasks.{Task, TaskState, going, in_pair, noted, begin, begin_pair, with_state, without_task, let_go_of, ended}
use Rattle.law_counts_limits.specs.Below.join_home.Tasks as tasks
use Rattle.law_counts_limits.specs.Below.server_msgs.declared.message.Message.{Message}
use Rattle.law_counts_limits.specs.Below.server_model.Servers.{Rest}
use Rattle.law_counts_limits.specs.Below.server_model.Start.{next_thread}
use Rattle.law_counts_limits.proofs.Below.law_counts_things.things.MutexLists.{given}
use Rattle.law_counts_limits.proofs.Below.law_counts_things.things.Rests.{Changes}
use Rattle.law_types_events.proofs.parts.Rising.{Rises, Low, fewer_rise, fewer_low, low_more, last_rises, last_low, same_rise, same_low}
use Rattle.law_types_events.proofs.parts.Places.{IsPart, part_stores, part_frees, part_makes, part_renews}
use Rattle.law_types_events.proofs.parts.Cached.{Once, once_users, once_unpinned, once_filled, once_evicted}
use Rattle.law_types_events.proofs.parts.Lists.{count_of, counts_stay, mutex_less, LeftBy, asks, backs, mores, lesses, name_of, tasks_stay, task_less, joins, lets_go, overs}

-- each part is one of its type, where so many threads are noted that aren't counted yet
pub record TypedParts (n colours c number : ℕ) (p : PartitionState) (cs : List Copy) (ms : Mutexes) (ts : List Task) (started : ℕ) : Type 0 where
  pub numbered : number ≡ n
  pub part : IsPart n colours p
  pub cached : Once cs
  pub homed : ms.home ≡ n
  pub mutexes_rise : Rises count_of ms.there
  pub mutexes_low : Low count_of ms.made ms.there
  pub tasks_rise : Rises name_of ts
  pub tasks_low : Low name_of (n * 2 ^ 32 + (started + c)) ts

-- MUTEXES OF A HOME

record Homed (n : ℕ) (ms : Mutexes) : Type 0 where
  home : ms.home ≡ n
  rise : Rises count_of ms.there
  low : Low count_of ms.made ms.there

module _ (n : ℕ) where
  -- another state of a mutex, a mutex less, and a new one
  homed_puts : (ms : Mutexes) (x : Mutex) → Homed n ms → Homed n (put_mutex ms x)
  homed_puts ms x a = record { home = a.home; rise = same_rise count_of ms.there (with_mutex ms.there x) (counts_stay ms.there x) a.rise; low = same_low count_of ms.made ms.there (with_mutex ms.there x) (counts_stay ms.there x) a.low }

  homed_ends : (ms : Mutexes) (m : MutexNo) → Homed n ms → Homed n (end_mutex ms m)
  homed_ends ms m a = record { home = a.home; rise = fewer_rise count_of (mutex_less ms.there m) a.rise; low = fewer_low count_of ms.made (mutex_less ms.there m) a.low }

  homed_makes : (ms : Mutexes) (v : Owned) → Homed n ms → Homed n (make ms v)
  homed_makes ms v a =
      let x : Mutex = record { number = next_mutex ms; content = Some v; shares = 1; queue = [] } in record {
        home = a.home;
        rise = last_rises count_of ms.made ms.there x a.rise a.low (omega arith);
        low = last_low count_of ms.made (ms.made + 1) ms.there x (omega arith) (omega arith) a.low;
      }

-- TASKS

record Noted (k : ℕ) (ts : List Task) : Type 0 where
  rise : Rises name_of ts
  low : Low name_of k ts

module _ (k : ℕ) where
  -- another state of a task, and a task less
  noted_states : (ts : List Task) (t : ℕ) (s : TaskState) → Noted k ts → Noted k (with_state ts t s)
  noted_states ts t s a = record { rise = same_rise name_of ts (with_state ts t s) (tasks_stay ts t s) a.rise; low = same_low name_of k ts (with_state ts t s) (tasks_stay ts t s) a.low }

  noted_goes : (ts : List Task) (t : ℕ) → Noted k ts → Noted k (without_task ts t)
  noted_goes ts t a = record { rise = fewer_rise name_of (task_less ts t) a.rise; low = fewer_low name_of k (task_less ts t) a.low }

-- one more, above all
noted_last : (k m : ℕ) (ts : List Task) (t : ℕ) (s : TaskState) → k < t → t ≤ m → Noted k ts → Noted m (noted ts t s)
noted_last k m ts t s l h a =
    let x : Task = record { thread = t; state = s } in record {
      rise = last_rises name_of k ts x a.rise a.low l;
      low = last_low name_of k m ts x (omega (arith, l, h)) h a.low;
    }

-- EACH CHANGE

module _ (n colours : ℕ) where
  abbrev pub Typed : ℕ → Rest → Type 0
  Typed c r = TypedParts n colours c r.number r.partition r.cache r.mutexes r.tasks r.started

  -- a message changes no part
  sent_on : (b : Bool) (c t : ℕ) (m : Message) (r : Rest) → Typed c r → Typed c (if b then record r { inbox = r.inbox ++ m ∷ [] } else record r { outbox = r.outbox ++ record { target = t; message = m } ∷ [] })
  sent_on true c t m r g = g
  sent_on false c t m r g = g

  -- another partition, other copies, mutexes and tasks that are of their types
  with_part : (r : Rest) (q : PartitionState) → IsPart n colours q → Typed 0 r → Typed 0 (record r { partition = q })
  with_part r q p g = record { numbered = g.numbered; part = p; cached = g.cached; homed = g.homed; mutexes_rise = g.mutexes_rise; mutexes_low = g.mutexes_low; tasks_rise = g.tasks_rise; tasks_low = g.tasks_low }

  with_copies : (r : Rest) (cs : List Copy) → Once cs → Typed 0 r → Typed 0 (record r { cache = cs })
  with_copies r cs a g = record { numbered = g.numbered; part = g.part; cached = a; homed = g.homed; mutexes_rise = g.mutexes_rise; mutexes_low = g.mutexes_low; tasks_rise = g.tasks_rise; tasks_low = g.tasks_low }

  homed_of : (r : Rest) → Typed 0 r → Homed n r.mutexes
  homed_of r g = record { home = g.homed; rise = g.mutexes_rise; low = g.mutexes_low }

  with_homed : (r : Rest) (ms : Mutexes) → Homed n ms → Typed 0 r → Typed 0 (record r { mutexes = ms })
  with_homed r ms a g = record { numbered = g.numbered; part = g.part; cached = g.cached; homed = a.home; mutexes_rise = a.rise; mutexes_low = a.low; tasks_rise = g.tasks_rise; tasks_low = g.tasks_low }

  abbrev top : ℕ → Rest → ℕ
  top c r = n * 2 ^ 32 + (r.started + c)

  noted_of : (r : Rest) → Typed 0 r → Noted (top 0 r) r.tasks
  noted_of r g = record { rise = g.tasks_rise; low = g.tasks_low }

  with_noted : (c : ℕ) (r : Rest) (ts : List Task) → Noted (top c r) ts → Typed 0 r → Typed c (record r { tasks = ts })
  with_noted c r ts a g = record { numbered = g.numbered; part = g.part; cached = g.cached; homed = g.homed; mutexes_rise = g.mutexes_rise; mutexes_low = g.mutexes_low; tasks_rise = a.rise; tasks_low = a.low }

  -- the name of the next thread
  next_is : (r : Rest) → Typed 0 r → next_thread r ≡ n * 2 ^ 32 + (r.started + 1)
  next_is r g = ap (λ m. m * 2 ^ 32 + (r.started + 1)) g.numbered

  -- each change leaves each part of its type
  pub typed : Changes Typed
  typed = record {
    sent = λ c t m r g. sent_on (t == r.number) c t m r g;
    received = λ i r g. g;
    stores = λ w v r e g. with_part r (stored r.partition w v) (part_stores n colours r.partition g.part w v e) g;
    frees = λ w o c r e g. with_part r (freed r.partition w) (part_frees n colours r.partition g.part w o c e) g;
    makes = λ c r e g. with_part r (made r.partition c) (part_makes n colours r.partition g.part c) g;
    renews = λ w r e g. with_part r (renewed r.partition w) (part_renews n colours r.partition g.part w e) g;
    pins = λ w r e g. with_copies r (pin r.cache w) (once_users r.cache w (users r.cache w + 1) g.cached) g;
    unpins = λ w r e g. with_copies r (unpin r.cache w) (once_users r.cache w (users r.cache w - 1) g.cached) g;
    unpins_all = λ ws cs r e g. with_copies r cs (once_unpinned ws r.cache cs e g.cached) g;
    fills = λ w c r e g. with_copies r (fill r.cache w c) (once_filled r.cache w c g.cached) g;
    evicts = λ w r e g. with_copies r (evict r.cache w) (once_evicted r.cache w g.cached) g;
    mutex = λ v r e g. with_homed r (make r.mutexes v) (homed_makes n r.mutexes v (homed_of r g)) g;
    asked = λ m s t r p e g. with_homed r p.0 (given (LeftBy (Homed n) (homed_puts n) (homed_ends n)) (ask r.mutexes m s t) p (asks (Homed n) (homed_puts n) (homed_ends n) r.mutexes m s t (homed_of r g)) e) g;
    given = λ m v r p e g. with_homed r p.0 (given (LeftBy (Homed n) (homed_puts n) (homed_ends n)) (give_back r.mutexes m v) p (backs (Homed n) (homed_puts n) (homed_ends n) r.mutexes m v (homed_of r g)) e) g;
    shared = λ m r ms e g. with_homed r ms (given (Homed n) (more r.mutexes m) ms (mores (Homed n) (homed_puts n) (homed_ends n) r.mutexes m (homed_of r g)) e) g;
    less_shared = λ m r p e g. with_homed r p.0 (given (LeftBy (Homed n) (homed_puts n) (homed_ends n)) (less r.mutexes m) p (lesses (Homed n) (homed_puts n) (homed_ends n) r.mutexes m (homed_of r g)) e) g;
    began = λ r e g.
        let same = next_is r g in
        with_noted 1 r (begin r.tasks (next_thread r)) (noted_last (top 0 r) (top 1 r) r.tasks (next_thread r) going (omega (arith, same)) (omega (arith, same)) (noted_of r g)) g;
    pair = λ parent r e g.
        let same = next_is r g in
        let t = next_thread r in
        let first = noted_last (top 0 r) (top 1 r) r.tasks t (in_pair parent false) (omega (arith, same)) (omega (arith, same)) (noted_of r g) in
        with_noted 2 r (begin_pair r.tasks parent t (t + 1)) (noted_last (top 1 r) (top 2 r) (noted r.tasks t (in_pair parent false)) (t + 1) (in_pair parent false) (omega (arith, same)) (omega (arith, same)) first) g;
    counted = λ c r g. record {
      numbered = g.numbered;
      part = g.part;
      cached = g.cached;
      homed = g.homed;
      mutexes_rise = g.mutexes_rise;
      mutexes_low = g.mutexes_low;
      tasks_rise = g.tasks_rise;
      tasks_low = low_more name_of (n * 2 ^ 32 + (r.started + suc c)) (n * 2 ^ 32 + (r.started + 1 + c)) r.tasks (omega arith) g.tasks_low;
    };
    joined = λ u s b r p e g. with_noted 0 r p.0 (given (λ z. Noted (top 0 r) z.0) (tasks.ask r.tasks u s b) p (joins (Noted (top 0 r)) (noted_states (top 0 r)) (noted_goes (top 0 r)) r.tasks u s b (noted_of r g)) e) g;
    let_go = λ u r p e g. with_noted 0 r p.0 (given (λ z. Noted (top 0 r) z.0) (let_go_of r.tasks u) p (lets_go (Noted (top 0 r)) (noted_states (top 0 r)) (noted_goes (top 0 r)) r.tasks u (noted_of r g)) e) g;
    over = λ u v r p e g. with_noted 0 r p.0 (given (λ z. Noted (top 0 r) z.0) (ended r.tasks u v) p (overs (Noted (top 0 r)) (noted_states (top 0 r)) (noted_goes (top 0 r)) r.tasks u v (noted_of r g)) e) g;
  }
