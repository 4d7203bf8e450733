-- The things of a server in the middle of an event: in whatever order, with a thread in the hand, and with what there is beside.
use Rattle.std.proofs.Common.{◌≡◌, ℕ, ◌+◌, ◌==◌, Bool, true, false, if◌then◌else◌, List, [], ◌∷◌, ◌++◌, length, Some, refl, sym, ap, subst, ◌∙◌, arith}
use Rattle.std.specs.Prelude.{slice_get, remove}
use Rattle.coherent_memory.proofs.Below.fr_typing.PlaceLemmas.{eq_cases}
use Rattle.coherent_memory.specs.Below.owner_box.View.{PartitionState}
use Rattle.coherent_memory.specs.Below.read_cache.Cache.{Copy}
use Rattle.coherent_memory.specs.Below.mutex_home.Mutexes.{Mutexes}
use Rattle.coherent_memory.specs.Below.join_home.Tasks.{Task}
use Rattle.coherent_memory.specs.Below.thread_state.View.{ThreadState}
use Rattle.coherent_memory.specs.Below.server_msgs.declared.message.Message.{Message}
use Rattle.coherent_memory.specs.Below.server_model.Servers.{Sent, Rest, Server}
use Rattle.coherent_memory.specs.Below.server_model.Work.{Work, Hand, Site, sent_from, receive, thread_in, without_thread, set_thread}
use Rattle.coherent_memory.specs.Names.{tot}
use Rattle.coherent_memory.specs.Things.{Thing, counts, stands, things_at, partition_things, copy_things, mutex_things, task_things, gift_things, walk_things, slot_things, temp_things, thread_things, standing_things, message_things, waiting_things, leaving_things, server_things}
use Rattle.law_counts_sums.proofs.Trades.{Trade, Same, tot-append, trade_goes, trade_left, trade_right, trade_push, tot-remove, tot-front}

-- server number n, which has done e events
abbrev pub counts_of : ℕ → ℕ → Rest → Thing
counts_of n e r = counts n (length r.partition.cells) r.partition.retired r.started r.mutexes.made e

abbrev pub body_things : ℕ → Rest → List Thing
body_things n r =
    partition_things n r.partition ++ things_at (copy_things n) 0 r.cache ++ things_at (mutex_things n) 0 r.mutexes.there ++ things_at (task_things n) 0 r.tasks
    ++ things_at (waiting_things n) 0 r.inbox ++ things_at leaving_things 0 r.outbox

-- all but its threads
abbrev pub rest_things : ℕ → ℕ → Rest → List Thing
rest_things n e r = counts_of n e r ∷ body_things n r

abbrev pub all_standing : ℕ → List ThreadState → List Thing
all_standing n ts = things_at (standing_things n) 0 ts

-- what a thread has, but for itself
abbrev pub had_by : ℕ → ThreadState → List Thing
had_by n t = gift_things t.number t.gift ++ things_at (walk_things n) 0 t.walk ++ things_at (slot_things n t.number) 0 t.slots ++ things_at (temp_things n t.number) 0 t.temps

-- K holds with what there is beside
pub record WorkOk (K : List Thing → Type 0) (n e : ℕ) (others : List Thing) (w : Work) : Type 0 where
  pub number : w.rest.number ≡ n
  pub bag : K (rest_things n e w.rest ++ others)

-- the same with thread t in the hand
pub record HandOk (K : List Thing → Type 0) (n e t : ℕ) (others : List Thing) (h : Hand) : Type 0 where
  pub number : h.work.rest.number ≡ n
  pub thread : h.thread.number ≡ t
  pub bag : K (thread_things n false h.thread ++ (rest_things n e h.work.rest ++ others))

-- the same with all threads
pub record SiteOk (K : List Thing → Type 0) (n e : ℕ) (others : List Thing) (x : Site) : Type 0 where
  pub number : x.work.rest.number ≡ n
  pub bag : K (all_standing n x.threads ++ (rest_things n e x.work.rest ++ others))

-- FIELDS OF THE REST

module _ (n e : ℕ) (r : Rest) where
  abbrev P : List Thing
  P = partition_things n r.partition

  abbrev C : List Thing
  C = things_at (copy_things n) 0 r.cache

  abbrev M : List Thing
  M = things_at (mutex_things n) 0 r.mutexes.there

  abbrev T : List Thing
  T = things_at (task_things n) 0 r.tasks

  abbrev I : List Thing
  I = things_at (waiting_things n) 0 r.inbox

  abbrev O : List Thing
  O = things_at leaving_things 0 r.outbox

  pub of_partition : (p : PartitionState) {olds news : List Thing} → Trade P olds news (partition_things n p) → Trade (rest_things n e r) (counts_of n e r ∷ olds) (counts_of n e (record r { partition = p }) ∷ news) (rest_things n e (record r { partition = p }))
  of_partition p t =
      let u = trade_right O (trade_right I (trade_right T (trade_right M (trade_right C t)))) in
      record { rest = u.rest; before = λ f. omega (arith, u.before f); after = λ f. omega (arith, u.after f) }

  pub of_cache : (cs : List Copy) {olds news : List Thing} → Trade C olds news (things_at (copy_things n) 0 cs) → Trade (rest_things n e r) olds news (rest_things n e (record r { cache = cs }))
  of_cache cs t = trade_left (counts_of n e r ∷ []) (trade_right O (trade_right I (trade_right T (trade_right M (trade_left P t)))))

  pub of_mutexes : (ms : Mutexes) {olds news : List Thing} → Trade M olds news (things_at (mutex_things n) 0 ms.there) → Trade (rest_things n e r) (counts_of n e r ∷ olds) (counts_of n e (record r { mutexes = ms }) ∷ news) (rest_things n e (record r { mutexes = ms }))
  of_mutexes ms t =
      let u = trade_right O (trade_right I (trade_right T (trade_left (P ++ C) t))) in
      record { rest = u.rest; before = λ f. omega (arith, u.before f); after = λ f. omega (arith, u.after f) }

  pub of_tasks : (ts : List Task) {olds news : List Thing} → Trade T olds news (things_at (task_things n) 0 ts) → Trade (rest_things n e r) olds news (rest_things n e (record r { tasks = ts }))
  of_tasks ts t = trade_left (counts_of n e r ∷ []) (trade_right O (trade_right I (trade_left (P ++ C ++ M) t)))

  pub of_inbox : (ms : List Message) {olds news : List Thing} → Trade I olds news (things_at (waiting_things n) 0 ms) → Trade (rest_things n e r) olds news (rest_things n e (record r { inbox = ms }))
  of_inbox ms t = trade_left (counts_of n e r ∷ []) (trade_right O (trade_left (P ++ C ++ M ++ T) t))

  pub of_outbox : (xs : List Sent) {olds news : List Thing} → Trade O olds news (things_at leaving_things 0 xs) → Trade (rest_things n e r) olds news (rest_things n e (record r { outbox = xs }))
  of_outbox xs t = trade_left (counts_of n e r ∷ []) (trade_left (P ++ C ++ M ++ T ++ I) t)

  -- MESSAGES

  pub of_sending : r.number ≡ n → (target : ℕ) (m : Message) → Trade (rest_things n e r) [] (message_things target m) (rest_things n e (sent_from r target m))
  of_sending number target m =
      let new : Sent = record { target = target; message = m } in
      eq_cases (λ b. Trade (rest_things n e r) [] (message_things target m) (rest_things n e (if b then record r { inbox = r.inbox ++ m ∷ [] } else record r { outbox = r.outbox ++ new ∷ [] }))) target r.number
      (λ q. of_inbox (r.inbox ++ m ∷ []) (subst (λ i. Trade I [] (message_things i m) (things_at (waiting_things n) 0 (r.inbox ++ m ∷ []))) (sym (q ∙ number)) (trade_push (waiting_things n) r.inbox 0 m)))
      (λ ne. of_outbox (r.outbox ++ new ∷ []) (trade_push leaving_things r.outbox 0 new))

  pub of_receiving : (i : ℕ) (m : Message) → slice_get r.inbox i ≡ Some m → Trade (rest_things n e r) (message_things n m) [] (rest_things n e (receive r i))
  of_receiving i m q = of_inbox (remove r.inbox i) (trade_goes _ _ (message_things n m) (λ f. tot-remove (message_things n) f 0 r.inbox i m q ∙ sym (tot-append f (message_things n m) (things_at (waiting_things n) 0 (remove r.inbox i)))))

pub sent_number : (r : Rest) (target : ℕ) (m : Message) → (sent_from r target m).number ≡ r.number
sent_number r target m = by (target == r.number)
  where
    by : (b : Bool) → (if b then record r { inbox = r.inbox ++ m ∷ [] } else record r { outbox = r.outbox ++ record { target = target; message = m } ∷ [] }).number ≡ r.number
    by true = refl
    by false = refl

-- THREADS

pub thread_number : (xs : List ThreadState) (n : ℕ) (x : ThreadState) → thread_in xs n ≡ Some x → x.number ≡ n
thread_number [] n x h = cc
thread_number (z ∷ xs) n x h =
    eq_cases (λ b. (if b then Some z else thread_in xs n) ≡ Some x → x.number ≡ n) z.number n
    (λ e g. let same : z ≡ x = cc in subst (λ (y : ThreadState). y.number ≡ n) same e)
    (λ ne g. thread_number xs n x g) h

module _ (n : ℕ) (f : Thing → ℕ) where
  front : (x : ThreadState) (xs : List ThreadState) → tot f (all_standing n (x ∷ xs)) ≡ tot f (thread_things n false x) + tot f (all_standing n xs)
  front x xs = tot-front (thread_things n false) f 0 x xs

  -- a thread comes into the hand
  pub tot-without : (xs : List ThreadState) (t : ℕ) (x : ThreadState) → thread_in xs t ≡ Some x → tot f (all_standing n xs) ≡ tot f (thread_things n false x) + tot f (all_standing n (without_thread xs t))
  tot-without [] t x h = cc
  tot-without (z ∷ xs) t x h =
      eq_cases (λ b. (if b then Some z else thread_in xs t) ≡ Some x → tot f (all_standing n (z ∷ xs)) ≡ tot f (thread_things n false x) + tot f (all_standing n (if b then xs else z ∷ without_thread xs t))) z.number t
      (λ e h2. let same : z ≡ x = cc in subst (λ y. tot f (all_standing n (z ∷ xs)) ≡ tot f (thread_things n false y) + tot f (all_standing n xs)) same (front z xs))
      (λ ne h2. omega (arith, front z xs, front z (without_thread xs t), tot-without xs t x h2)) h

  -- it is put where it stood
  pub tot-set : (xs : List ThreadState) (t : ℕ) (x new : ThreadState) → thread_in xs t ≡ Some x → new.number ≡ t → tot f (all_standing n (set_thread xs new)) ≡ tot f (thread_things n false new) + tot f (all_standing n (without_thread xs t))
  tot-set [] t x new h q = cc
  tot-set (z ∷ xs) t x new h q = by (z.number == t) (ap (λ i. z.number == i) q) h (tot-set xs t x new)
    where
      by : (b : Bool) → (z.number == new.number) ≡ b → (if b then Some z else thread_in xs t) ≡ Some x
          → (thread_in xs t ≡ Some x → new.number ≡ t → tot f (all_standing n (set_thread xs new)) ≡ tot f (thread_things n false new) + tot f (all_standing n (without_thread xs t)))
          → tot f (all_standing n (set_thread (z ∷ xs) new)) ≡ tot f (thread_things n false new) + tot f (all_standing n (if b then xs else z ∷ without_thread xs t))
      by true g h2 go = rw g (front new xs)
      by false g h2 go = rw g (omega (arith, front z (set_thread xs new), front z (without_thread xs t), go h2 q))

-- the thread changes, and what it has trades
pub of_thread : (n : ℕ) (t t2 : ThreadState) {olds news : List Thing} → Trade (had_by n t) olds news (had_by n t2) → Trade (thread_things n false t) (stands n false t ∷ olds) (stands n false t2 ∷ news) (thread_things n false t2)
of_thread n t t2 u = record { rest = u.rest; before = λ f. omega (arith, u.before f); after = λ f. omega (arith, u.after f) }

-- a server's things are those of its threads and of its rest
pub server_same : (s : Server) → Same (server_things s) (all_standing s.rest.number s.threads ++ rest_things s.rest.number s.events s.rest)
server_same s f =
    let n = s.rest.number in
    let p = partition_things n s.rest.partition in
    let c = things_at (copy_things n) 0 s.rest.cache in
    let m = things_at (mutex_things n) 0 s.rest.mutexes.there in
    let t = things_at (task_things n) 0 s.rest.tasks in
    let x = all_standing n s.threads in
    let i = things_at (waiting_things n) 0 s.rest.inbox in
    let o = things_at leaving_things 0 s.rest.outbox in
    omega (arith, tot-append f (p ++ c ++ m ++ t ++ x ++ i) o, tot-append f (p ++ c ++ m ++ t ++ x) i, tot-append f (p ++ c ++ m ++ t) x, tot-append f (p ++ c ++ m ++ t ++ i) o, tot-append f (p ++ c ++ m ++ t) i, tot-append f x (rest_things n s.events s.rest))
