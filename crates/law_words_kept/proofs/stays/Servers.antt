-- What words see of the parts of a server.
use Rattle.std.proofs.Common.{◌≡◌, inl, inr, ℕ, ◌+◌, ◌==◌, Bool, true, false, if◌then◌else◌, List, [], ◌∷◌, ◌++◌, Option, Some, None, refl, sym, ap, subst, ◌∙◌}
use Rattle.std.specs.Prelude.{slice_get, remove}
use Rattle.law_counts_sums.specs.Below.fr_base.declared.instruction.Instr.{Instr}
use Rattle.law_counts_sums.specs.Below.fr_base.declared.name.MutexNo.{MutexNo}
use Rattle.law_counts_sums.specs.Below.fr_base.declared.release.Released.TheVariants as released
use Rattle.law_counts_sums.specs.Below.fr_base.Names.{home_of}
use Rattle.law_counts_sums.specs.Below.global_addr.Words.{server_of}
use Rattle.law_counts_sums.specs.Below.heap_partition.declared.value.BoxPtr.{BoxPtr}
use Rattle.law_counts_sums.specs.Below.heap_partition.declared.value.Owned.{Owned}
use Rattle.law_counts_sums.specs.Below.heap_partition.declared.value.Owned.TheVariants as owned
use Rattle.law_counts_sums.specs.Below.read_cache.Cache.{Copy}
use Rattle.law_counts_sums.specs.Below.mutex_home.Mutexes.{Mutex, Mutexes, mutex_in, put_mutex, end_mutex, without_mutex}
use Rattle.law_counts_sums.specs.Below.join_home.Tasks.{Task, TaskState, going, let_go, kept, asked, in_pair, task_in, with_state, without_task}
use Rattle.law_counts_sums.specs.Below.server_msgs.declared.message.Message.{Message}
use Rattle.law_counts_sums.specs.Below.server_msgs.declared.message.Message.TheVariants as message
use Rattle.law_counts_sums.specs.Below.server_model.Servers.{Sent, Rest, Server}
use Rattle.law_counts_sums.specs.Below.server_model.Work.{Work, sent_from, receive}
use Rattle.law_counts_sums.specs.Below.server_model.Drop.{give_up}
use Rattle.law_counts_sums.specs.Below.coherent_memory.Names.{Among, same_mutex}
use Rattle.law_counts_sums.specs.Below.coherent_memory.Things.{Spot, in_hand, as_gift, as_content, as_result, Thing, holds, at_home, noted, queued, copied, sent, things_at, partition_things, copy_things, mutex_things, content_things, queue_things, task_things, result_things, message_things, waiting_things, leaving_things, server_things}
use Rattle.law_counts_sums.specs.Below.coherent_memory.Sight.{pointer_in, location_of}
use Rattle.law_counts_sums.proofs.Below.coherent_memory.Names.{same_number, same_mutexes}
use Rattle.law_words_paths.proofs.paths.Sole.{some_is}
use Rattle.law_words_paths.proofs.paths.Origins.{among_first}
use Rattle.law_counts_sums.proofs.Bags.{counts_of, body_things, all_standing, sent_number}
use Rattle.law_words_kept.proofs.stays.Alike.{Alike, Within, Seen, itself, turned, chain, beside, exchanged, in_front, joined, alone, inside, swapped, blank, blanks, goes}
use Rattle.law_words_kept.proofs.stays.Lists.{at_place, at_end, mutex_taken, mutex_set, task_taken, task_set, taken_alike}

-- VALUES AT NO LOCATION

-- a value in the hand, and nothing where there is none
abbrev pub held : Owned → List Thing
held v = holds in_hand v ∷ []

abbrev pub held_if : Option Owned → List Thing
held_if None = []
held_if (Some v) = held v

pub value_alike : {code : List Instr} (p q : Spot) (v : Owned) → location_of p ≡ None → location_of q ≡ None → Alike code (holds p v ∷ []) (holds q v ∷ [])
value_alike {code = code} p q v e f = record { on = over p q e f; back = over q p f e }
  where
    over : (x y : Spot) → location_of x ≡ None → location_of y ≡ None → Within code (holds x v ∷ []) (holds y v ∷ [])
    over x y a b u (inl i) = subst (λ w. Seen code (holds y v ∷ []) w) i
        (λ z n m. among_first z (pointer_in (location_of y) v) [] (subst (λ l. Among z (pointer_in l v)) (a ∙ sym b) m))
    over x y a b u (inr h) = absurd h

pub content_held : {code : List Instr} (m : MutexNo) (v : Owned) → Alike code (holds (as_content m) v ∷ []) (held v)
content_held m v = value_alike (as_content m) in_hand v refl refl

pub result_held : {code : List Instr} (t : ℕ) (v : Owned) → Alike code (holds (as_result t) v ∷ []) (held v)
result_held t v = value_alike (as_result t) in_hand v refl refl

pub gift_held : {code : List Instr} (t : ℕ) (v : Owned) → Alike code (holds (as_gift t) v ∷ []) (held v)
gift_held t v = value_alike (as_gift t) in_hand v refl refl

-- a mutex shows its content, and a note its result
pub mutex_shows : {code : List Instr} (n i : ℕ) (x : Mutex) → Alike code (mutex_things n i x) (held_if x.content)
mutex_shows {code = code} n i x = chain (beside (blank (at_home n x) (λ p e h. h)) (beside (inside_it x.content) (queue 0 x.queue))) (alone (held_if x.content))
  where
    inside_it : (c : Option Owned) → Alike code (content_things x.number c) (held_if c)
    inside_it None = itself []
    inside_it (Some v) = content_held x.number v

    queue : (j : ℕ) (q : List (ℕ × ℕ)) → Alike code (things_at (queue_things x.number) j q) []
    queue j [] = itself []
    queue j (a ∷ q) = blanks (blank (queued x.number a.0 a.1) (λ p e h. h)) (queue (j + 1) q)

abbrev pub result_of : TaskState → Option Owned
result_of (kept v) = Some v
result_of s = None

pub note_shows : {code : List Instr} (n i : ℕ) (x : Task) → Alike code (task_things n i x) (held_if (result_of x.state))
note_shows {code = code} n i x = beside (blank (noted n x) (λ p e h. h)) (inside_it x.state)
  where
    inside_it : (s : TaskState) → Alike code (result_things x.thread s) (held_if (result_of s))
    inside_it (kept v) = result_held x.thread v
    inside_it going = itself []
    inside_it let_go = itself []
    inside_it (asked s t) = itself []
    inside_it (in_pair p over) = itself []

-- A SERVER

-- its threads, and all else
pub server_body : {code : List Instr} (s : Server) → Alike code (server_things s) (all_standing s.rest.number s.threads ++ body_things s.rest.number s.rest)
server_body s =
    let n = s.rest.number in
    let p = partition_things n s.rest.partition in
    let c = things_at (copy_things n) 0 s.rest.cache in
    let m = things_at (mutex_things n) 0 s.rest.mutexes.there in
    let t = things_at (task_things n) 0 s.rest.tasks in
    let x = all_standing n s.threads in
    let i = things_at (waiting_things n) 0 s.rest.inbox in
    let o = things_at leaving_things 0 s.rest.outbox in
    chain (goes {a = counts_of n s.events s.rest ∷ []} {b = p ++ c ++ m ++ t ++ x ++ i ++ o} (blank (counts_of n s.events s.rest) (λ q e h. h)))
    (chain (beside (beside (exchanged (p ++ c ++ m ++ t) x) (itself i)) (itself o))
    (chain (beside (turned (joined x (p ++ c ++ m ++ t) i)) (itself o)) (turned (joined x (p ++ c ++ m ++ t ++ i) o))))

module _ (n : ℕ) (r : Rest) where
  abbrev P : List Thing
  P = partition_things n r.partition

  abbrev C : List Thing
  C = things_at (copy_things n) 0 r.cache

  abbrev M : List Thing
  M = things_at (mutex_things n) 0 r.mutexes.there

  abbrev T : List Thing
  T = things_at (task_things n) 0 r.tasks

  abbrev I : List Thing
  I = things_at (waiting_things n) 0 r.inbox

  abbrev O : List Thing
  O = things_at leaving_things 0 r.outbox

  -- other copies
  pub other_copies : {code : List Instr} (cs : List Copy) → Alike code (body_things n r) (body_things n (record r { cache = cs }))
  other_copies {code = code} cs = beside (beside (beside (beside (beside (itself P) (chain (none 0 r.cache) (turned (none 0 cs)))) (itself M)) (itself T)) (itself I)) (itself O)
    where
      none : (i : ℕ) (ks : List Copy) → Alike code (things_at (copy_things n) i ks) []
      none i [] = itself []
      none i (k ∷ ks) = blanks (blank (copied n k) (λ p e h. h)) (none (i + 1) ks)

  -- other mutexes, other notes, with what there is beside
  pub other_mutexes : {code : List Instr} (ms : Mutexes) (h h2 : List Thing) → Alike code (h ++ M) (h2 ++ things_at (mutex_things n) 0 ms.there) → Alike code (h ++ body_things n r) (h2 ++ body_things n (record r { mutexes = ms }))
  other_mutexes {code = code} ms h h2 e =
      let tail = T ++ I ++ O in
      let m2 = things_at (mutex_things n) 0 ms.there in
      chain (beside (itself h) (regroup M)) (chain (inside (P ++ C) tail h h2 M m2 e) (beside (itself h2) (turned (regroup m2))))
    where
      regroup : (m : List Thing) → Alike code (P ++ C ++ m ++ T ++ I ++ O) (P ++ C ++ m ++ (T ++ I ++ O))
      regroup m = chain (beside (turned (joined (P ++ C ++ m) T I)) (itself O)) (turned (joined (P ++ C ++ m) (T ++ I) O))

  pub other_notes : {code : List Instr} (ts : List Task) (h h2 : List Thing) → Alike code (h ++ T) (h2 ++ things_at (task_things n) 0 ts) → Alike code (h ++ body_things n r) (h2 ++ body_things n (record r { tasks = ts }))
  other_notes ts h h2 e =
      let t2 = things_at (task_things n) 0 ts in
      chain (beside (itself h) (turned (joined (P ++ C ++ M ++ T) I O))) (chain (inside (P ++ C ++ M) (I ++ O) h h2 T t2 e) (beside (itself h2) (joined (P ++ C ++ M ++ t2) I O)))

  -- a message comes out, and goes in
  pub receives : {code : List Instr} (i : ℕ) (m : Message) → slice_get r.inbox i ≡ Some m → Alike code (body_things n r) (message_things n m ++ body_things n (receive r i))
  receives i m e =
      inside (P ++ C ++ M ++ T) O [] (message_things n m) I (things_at (waiting_things n) 0 (remove r.inbox i))
      (taken_alike (message_things n) 0 0 (at_place r.inbox i m e))

  pub sends : {code : List Instr} → r.number ≡ n → (target : ℕ) (m : Message) → Alike code (message_things target m ++ body_things n r) (body_things n (sent_from r target m))
  sends {code = code} number target m = by (target == r.number) refl
    where
      new : Sent
      new = record { target = target; message = m }

      by : (b : Bool) → (target == r.number) ≡ b → Alike code (message_things target m ++ body_things n r) (body_things n (if b then record r { inbox = r.inbox ++ m ∷ [] } else record r { outbox = r.outbox ++ new ∷ [] }))
      by true q =
          let same : target ≡ n = same_number target r.number q ∙ number in
          turned (inside (P ++ C ++ M ++ T) O [] (message_things target m) (things_at (waiting_things n) 0 (r.inbox ++ m ∷ [])) I
          (subst (λ k. Alike code (things_at (waiting_things n) 0 (r.inbox ++ m ∷ [])) (message_things k m ++ I)) (sym same) (taken_alike (message_things n) 0 0 (at_end r.inbox m))))
      by false q =
          turned (chain (beside (itself (P ++ C ++ M ++ T ++ I)) (taken_alike (λ (x : Sent). message_things x.target x.message) 0 0 (at_end r.outbox new)))
          (in_front (P ++ C ++ M ++ T ++ I) (message_things target m) O))

-- ONE MUTEX, OR ONE NOTE

mutex_named : (xs : List Mutex) (m : MutexNo) (x : Mutex) → mutex_in xs m ≡ Some x → same_mutex x.number m ≡ true
mutex_named [] m x e = absurd cc
mutex_named (z ∷ xs) m x e = by (same_mutex z.number m) refl e (λ f. mutex_named xs m x f)
  where
    by : (b : Bool) → same_mutex z.number m ≡ b → (if b then Some z else mutex_in xs m) ≡ Some x → (mutex_in xs m ≡ Some x → same_mutex x.number m ≡ true) → same_mutex x.number m ≡ true
    by true q f go = subst (λ (y : Mutex). same_mutex y.number m ≡ true) (some_is f) q
    by false q f go = go f

pub mutex_number : (xs : List Mutex) (m : MutexNo) (x : Mutex) → mutex_in xs m ≡ Some x → x.number ≡ m
mutex_number xs m x e = same_mutexes x.number m (mutex_named xs m x e)

module _ (n : ℕ) (r : Rest) where
  pub mutex_changes : {code : List Instr} (m : MutexNo) (x y : Mutex) (h h2 : List Thing) → mutex_in r.mutexes.there m ≡ Some x → y.number ≡ x.number → Alike code (h ++ held_if x.content) (h2 ++ held_if y.content)
      → Alike code (h ++ body_things n r) (h2 ++ body_things n (record r { mutexes = put_mutex r.mutexes y }))
  mutex_changes m x y h h2 e q a =
      other_mutexes n r (put_mutex r.mutexes y) h h2
      (swapped (things_at (mutex_things n) 0 r.mutexes.there) (things_at (mutex_things n) 0 (put_mutex r.mutexes y).there) (mutex_things n 0 x) (mutex_things n 0 y) (things_at (mutex_things n) 0 (without_mutex r.mutexes.there m)) h h2
      (taken_alike (mutex_things n 0) 0 0 (mutex_taken r.mutexes.there m x e)) (taken_alike (mutex_things n 0) 0 0 (mutex_set r.mutexes.there m x y e (q ∙ mutex_number r.mutexes.there m x e)))
      (chain (beside (itself h) (mutex_shows n 0 x)) (chain a (beside (itself h2) (turned (mutex_shows n 0 y))))))

  pub mutex_ends : {code : List Instr} (m : MutexNo) (x : Mutex) (h h2 : List Thing) → mutex_in r.mutexes.there m ≡ Some x → Alike code (h ++ held_if x.content) h2
      → Alike code (h ++ body_things n r) (h2 ++ body_things n (record r { mutexes = end_mutex r.mutexes x.number }))
  mutex_ends m x h h2 e a =
      let left = things_at (mutex_things n) 0 (without_mutex r.mutexes.there x.number) in
      let named : mutex_in r.mutexes.there x.number ≡ Some x = ap (mutex_in r.mutexes.there) (mutex_number r.mutexes.there m x e) ∙ e in
      other_mutexes n r (end_mutex r.mutexes x.number) h h2
      (chain (beside (itself h) (taken_alike (mutex_things n 0) 0 0 (mutex_taken r.mutexes.there x.number x named)))
      (chain (joined h (mutex_things n 0 x) left) (beside (chain (beside (itself h) (mutex_shows n 0 x)) a) (itself left))))

  pub note_changes : {code : List Instr} (t : ℕ) (x : Task) (s : TaskState) (h h2 : List Thing) → task_in r.tasks t ≡ Some x → Alike code (h ++ held_if (result_of x.state)) (h2 ++ held_if (result_of s))
      → Alike code (h ++ body_things n r) (h2 ++ body_things n (record r { tasks = with_state r.tasks t s }))
  note_changes t x s h h2 e a =
      other_notes n r (with_state r.tasks t s) h h2
      (swapped (things_at (task_things n) 0 r.tasks) (things_at (task_things n) 0 (with_state r.tasks t s)) (task_things n 0 x) (task_things n 0 (record { thread = t; state = s })) (things_at (task_things n) 0 (without_task r.tasks t)) h h2
      (taken_alike (task_things n 0) 0 0 (task_taken r.tasks t x e)) (taken_alike (task_things n 0) 0 0 (task_set r.tasks t x s e))
      (chain (beside (itself h) (note_shows n 0 x)) (chain a (beside (itself h2) (turned (note_shows n 0 (record { thread = t; state = s })))))))

  pub note_ends : {code : List Instr} (t : ℕ) (x : Task) (h h2 : List Thing) → task_in r.tasks t ≡ Some x → Alike code (h ++ held_if (result_of x.state)) h2
      → Alike code (h ++ body_things n r) (h2 ++ body_things n (record r { tasks = without_task r.tasks t }))
  note_ends t x h h2 e a =
      let left = things_at (task_things n) 0 (without_task r.tasks t) in
      other_notes n r (without_task r.tasks t) h h2
      (chain (beside (itself h) (taken_alike (task_things n 0) 0 0 (task_taken r.tasks t x e)))
      (chain (joined h (task_things n 0 x) left) (beside (chain (beside (itself h) (note_shows n 0 x)) a) (itself left))))

-- MESSAGES AND VALUES

-- what becomes of a server's rest, with this beside it before
pub record RestAlike (code : List Instr) (n : ℕ) (before : List Thing) (r : Rest) : Type 0 where
  pub number : r.number ≡ n
  pub alike : Alike code before (body_things n r)

pub sent_alike : {code : List Instr} (n : ℕ) (before : List Thing) (r : Rest) (target : ℕ) (m : Message) → r.number ≡ n → Alike code before (message_things target m ++ body_things n r) → RestAlike code n before (sent_from r target m)
sent_alike n before r target m e a = record { number = sent_number r target m ∙ e; alike = chain a (sends n r e target m) }

box_drops : {code : List Instr} (p : BoxPtr) (t : ℕ) → Alike code (held (owned.Box p)) (message_things t (message.Drop p.word p.object))
box_drops {code = code} p t = record { on = on; back = back }
  where
    on : (y : Thing) → Among y (held (owned.Box p)) → Seen code (message_things t (message.Drop p.word p.object)) y
    on y (inl i) = subst (λ w. Seen code (message_things t (message.Drop p.word p.object)) w) i (λ z n m. m)
    on y (inr h) = absurd h

    back : (y : Thing) → Among y (message_things t (message.Drop p.word p.object)) → Seen code (held (owned.Box p)) y
    back y (inl i) = subst (λ w. Seen code (held (owned.Box p)) w) i (λ z n m. m)
    back y (inr h) = absurd h

-- a value in the hand is let go
pub given_up : {code : List Instr} (n : ℕ) (before : List Thing) (v : Owned) (w : Work) → w.rest.number ≡ n → Alike code before (held v ++ body_things n w.rest) → RestAlike code n before (give_up v w).rest
given_up n before (owned.Box p) w e a = sent_alike n before w.rest (server_of p.word) (message.Drop p.word p.object) e (chain a (beside (box_drops p (server_of p.word)) (itself (body_things n w.rest))))
given_up n before (owned.Mutex m) w e a =
    sent_alike n before w.rest m.home (message.Release (released.Mutex m)) e
    (chain a (beside (chain (blank (holds in_hand (owned.Mutex m)) (λ z i h. h)) (turned (blank (sent m.home (message.Release (released.Mutex m))) (λ z i h. h)))) (itself (body_things n w.rest))))
given_up n before (owned.Task t) w e a =
    sent_alike n before w.rest (home_of t) (message.Release (released.Task t)) e
    (chain a (beside (chain (blank (holds in_hand (owned.Task t)) (λ z i h. h)) (turned (blank (sent (home_of t) (message.Release (released.Task t))) (λ z i h. h)))) (itself (body_things n w.rest))))
given_up n before owned.Nothing w e a = record { number = e; alike = chain a (goes (blank (holds in_hand owned.Nothing) (λ z i h. h))) }
given_up n before owned.Unit w e a = record { number = e; alike = chain a (goes (blank (holds in_hand owned.Unit) (λ z i h. h))) }
given_up n before (owned.Int i) w e a = record { number = e; alike = chain a (goes (blank (holds in_hand (owned.Int i)) (λ z j h. h))) }
