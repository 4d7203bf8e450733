-- Requests that a server answers or notes show nothing of it.
use Rattle.std.proofs.Common.{◌≡◌, ℕ, ◌+◌, ◌-◌, ◌^◌, ◌&&◌, Bool, true, false, if◌then◌else◌, List, [], ◌∷◌, ◌++◌, Option, Some, None, option_map, refl, ap, ap₂, arith}
use Rattle.std.specs.Prelude.{slice_get, nat_lt}
use Rattle.law_counts_sums.specs.Below.fr_base.declared.name.MutexNo.{MutexNo}
use Rattle.law_counts_sums.specs.Below.fr_base.declared.name.ObjNo.{ObjNo}
use Rattle.law_counts_sums.specs.Below.heap_partition.declared.value.Owned.{Owned}
use Rattle.law_counts_sums.specs.Below.mutex_home.Mutexes.{Mutex, mutex_in, put_mutex, asked_of, asked_in, more_in}
use Rattle.law_counts_sums.specs.Below.join_home.Tasks.{Task, TaskState, going, let_go, kept, asked, in_pair, task_in, state_in, with_state, without_task, asked_from}
use Rattle.law_counts_sums.specs.Below.server_msgs.declared.message.Message.TheVariants as message
use Rattle.law_counts_sums.specs.Below.journal.declared.act.Act.TheVariants as act
use Rattle.law_counts_sums.specs.Below.server_msgs.declared.message.Message.{Message}
use Rattle.law_counts_sums.specs.Below.server_model.declared.event.What.TheVariants.{Deliver}
use Rattle.law_counts_sums.specs.Below.server_model.Servers.{Rest, Server, Cluster}
use Rattle.law_counts_sums.specs.Below.server_model.Work.{Work, note, send, with_mutexes, with_tasks, look_object}
use Rattle.law_counts_sums.specs.Below.server_model.Objects.{deliver_fetch}
use Rattle.law_counts_sums.specs.Below.server_model.Sharing.{answer_lock, deliver_lock, deliver_dup}
use Rattle.law_counts_sums.specs.Below.server_model.Joining.{answer_join, deliver_join}
use Rattle.law_counts_sums.specs.Below.server_model.Events.{received, does}
use Rattle.law_counts_sums.specs.Below.coherent_memory.Things.{Thing, as_content, as_result, holds, sent, things_at, message_things, content_things, queue_things, mutex_things, task_things}
use Rattle.law_counts_sums.specs.Laws.{Gives}
use Rattle.law_counts_sums.proofs.Trades.{Trade, tot-append}
use Rattle.law_counts_sums.proofs.Results.{map_gives}
use Rattle.law_counts_sums.proofs.Bags.{rest_things, of_mutexes, of_tasks}
use Rattle.law_counts_sums.proofs.MutexLists.{found_number, mutex_changes}
use Rattle.law_counts_sums.proofs.TaskMessages.{tot-gone, tot-put}
use Rattle.law_counts_sums.proofs.FinishSteps.{task_number}
use Rattle.law_heap_still.specs.events.Shows.{Sign, nothing, sign_of}
use Rattle.law_heap_still.proofs.events.Sites.{shown, Moves, sends, beside_still, ServerStill, deliveries}

-- a message that carries nothing goes
pub heard : (t : ℕ) (m : Message) (r : Rest) → Moves (sent t m ∷ []) [] r r
heard t m r = record { number = refl; alike = λ w z. omega (arith, z) }

-- A COPY IS ASKED FOR

served : (n w : ℕ) (o : ObjNo) (a t : ℕ) (x : Work) → Gives (λ (y : Work). Moves (sent n (message.Fetch w o a t) ∷ []) [] x.rest y.rest) (deliver_fetch w o a t x)
served n w o a t x =
    map_gives (λ (y : Work). Moves (sent n (message.Fetch w o a t) ∷ []) [] x.rest y.rest) (look_object x.rest.partition w o) _ (λ c q.
    sends (sent n (message.Fetch w o a t) ∷ []) [] x.rest (note (act.Serve o w a) x) a (message.Fetched w c t) (heard n (message.Fetch w o a t) x.rest) (λ v z. omega (arith, z)))

pub fetches : (k : Cluster) (s : Server) (i w : ℕ) (o : ObjNo) (a t : ℕ) → slice_get s.rest.inbox i ≡ Some (message.Fetch w o a t) → Gives (ServerStill k s) (does k.code k.options s (Deliver i))
fetches k s i w o a t q =
    deliveries k s i (message.Fetch w o a t) q (beside_still (message_things s.rest.number (message.Fetch w o a t)) (deliver_fetch w o a t) (received i s) (served s.rest.number w o a t (received i s).work))

-- MUTEXES

-- of a mutex its content is shown
pub mutex_shown : (w : Sign → ℕ) → w nothing ≡ 0 → (n : ℕ) (x : Mutex) → shown w (mutex_things n 0 x) ≡ shown w (content_things x.number x.content)
mutex_shown w z n x = omega (arith, z, no_queue 0 x.queue, tot-append (λ y. w (sign_of y)) (content_things x.number x.content) (things_at (queue_things x.number) 0 x.queue))
  where
    no_queue : (i : ℕ) (q : List (ℕ × ℕ)) → shown w (things_at (queue_things x.number) i q) ≡ 0
    no_queue i [] = refl
    no_queue i (a ∷ q) = omega (arith, z, no_queue (i + 1) q)

-- a mutex changes, and its content may come to the hand
pub mutex_moves : (gone hand : List Thing) (r : Rest) (m : MutexNo) (x new : Mutex) → mutex_in r.mutexes.there m ≡ Some x → new.number ≡ x.number
    → ((w : Sign → ℕ) → w nothing ≡ 0 → shown w gone + shown w (content_things x.number x.content) ≡ shown w hand + shown w (content_things new.number new.content))
    → Moves gone hand r (record r { mutexes = put_mutex r.mutexes new })
mutex_moves gone hand r m x new q named e = record {
  number = refl;
  alike = λ w z.
      let f : Thing → ℕ = λ y. w (sign_of y) in
      let n = r.number in
      let r2 : Rest = record r { mutexes = put_mutex r.mutexes new } in
      let t = of_mutexes n 0 r (put_mutex r.mutexes new) (mutex_changes n r.mutexes.there m x new q named) in
      omega (arith, t.before f, t.after f, mutex_shown w z n x, mutex_shown w z n new, e w z, tot-append f gone (rest_things n 0 r), tot-append f hand (rest_things n 0 r2));
}

-- a content that is granted, or a thread that waits for it
locked : (n : ℕ) (m : MutexNo) (a t : ℕ) (x : Work) → Gives (λ (y : Work). Moves (sent n (message.Lock m a t) ∷ []) [] x.rest y.rest) (deliver_lock m a t x)
locked n m a t x = by (mutex_in x.rest.mutexes.there m) refl
  where
    content : (y : Mutex) → mutex_in x.rest.mutexes.there m ≡ Some y → (c : Option Owned) → y.content ≡ c
        → Moves (sent n (message.Lock m a t) ∷ []) [] x.rest (answer_lock m a t (asked_of x.rest.mutexes a t c y).1 (with_mutexes (asked_of x.rest.mutexes a t c y).0 x)).rest
    content y q None h = mutex_moves (sent n (message.Lock m a t) ∷ []) [] x.rest m y (record y { queue = y.queue ++ (a, t) ∷ [] }) q refl (λ w z. omega (arith, z))
    content y q (Some v) h =
        let hand : List Thing = holds (as_content m) v ∷ [] in
        let bare = record y { content = None } in
        sends (sent n (message.Lock m a t) ∷ []) hand x.rest (note (act.Grant m t a) (with_mutexes (put_mutex x.rest.mutexes bare) x)) a (message.Granted m v t)
        (mutex_moves (sent n (message.Lock m a t) ∷ []) hand x.rest m y bare q refl (λ w z.
        let same : shown w (content_things y.number y.content) ≡ shown w hand = ap₂ (λ i c. shown w (content_things i c)) (found_number x.rest.mutexes.there m y q) h in
        omega (arith, z, same))) (λ w z. omega (arith, z))

    by : (o : Option Mutex) → mutex_in x.rest.mutexes.there m ≡ o
        → Gives (λ (y : Work). Moves (sent n (message.Lock m a t) ∷ []) [] x.rest y.rest) (option_map (λ r. answer_lock m a t r.1 (with_mutexes r.0 x)) (asked_in x.rest.mutexes a t o))
    by None q = tt
    by (Some y) q = content y q y.content refl

pub locks : (k : Cluster) (s : Server) (i : ℕ) (m : MutexNo) (a t : ℕ) → slice_get s.rest.inbox i ≡ Some (message.Lock m a t) → Gives (ServerStill k s) (does k.code k.options s (Deliver i))
locks k s i m a t q =
    deliveries k s i (message.Lock m a t) q (beside_still (message_things s.rest.number (message.Lock m a t)) (deliver_lock m a t) (received i s) (locked s.rest.number m a t (received i s).work))

-- a share more
shared : (n : ℕ) (m : MutexNo) (a t : ℕ) (x : Work) → Gives (λ (y : Work). Moves (sent n (message.Dup m a t) ∷ []) [] x.rest y.rest) (deliver_dup m a t x)
shared n m a t x = by (mutex_in x.rest.mutexes.there m) refl
  where
    more_shares : (y : Mutex) → mutex_in x.rest.mutexes.there m ≡ Some y → (b : Bool)
        → Gives (λ (y : Work). Moves (sent n (message.Dup m a t) ∷ []) [] x.rest y.rest)
        (option_map (λ ms. send a (message.Dupped m t) (note (act.Dupped m t a) (with_mutexes ms x))) (if b then Some (put_mutex x.rest.mutexes (record y { shares = y.shares + 1 })) else None))
    more_shares y q true =
        sends (sent n (message.Dup m a t) ∷ []) [] x.rest (note (act.Dupped m t a) (with_mutexes (put_mutex x.rest.mutexes (record y { shares = y.shares + 1 })) x)) a (message.Dupped m t)
        (mutex_moves (sent n (message.Dup m a t) ∷ []) [] x.rest m y (record y { shares = y.shares + 1 }) q refl (λ w z. omega (arith, z))) (λ w z. omega (arith, z))
    more_shares y q false = tt

    by : (o : Option Mutex) → mutex_in x.rest.mutexes.there m ≡ o
        → Gives (λ (y : Work). Moves (sent n (message.Dup m a t) ∷ []) [] x.rest y.rest) (option_map (λ ms. send a (message.Dupped m t) (note (act.Dupped m t a) (with_mutexes ms x))) (more_in x.rest.mutexes o))
    by None q = tt
    by (Some y) q = more_shares y q (nat_lt 0 y.shares && nat_lt y.shares (2 ^ 64 - 1))

pub dups : (k : Cluster) (s : Server) (i : ℕ) (m : MutexNo) (a t : ℕ) → slice_get s.rest.inbox i ≡ Some (message.Dup m a t) → Gives (ServerStill k s) (does k.code k.options s (Deliver i))
dups k s i m a t q = deliveries k s i (message.Dup m a t) q (beside_still (message_things s.rest.number (message.Dup m a t)) (deliver_dup m a t) (received i s) (shared s.rest.number m a t (received i s).work))

-- RESULTS

-- a note that isn't of a pair changes, and its result may come to the hand
pub task_moves : (gone hand : List Thing) (r : Rest) (ts : List Task) (olds news : List Thing) → Trade (things_at (task_things r.number) 0 r.tasks) olds news (things_at (task_things r.number) 0 ts)
    → ((w : Sign → ℕ) → w nothing ≡ 0 → shown w gone + shown w olds ≡ shown w hand + shown w news) → Moves gone hand r (record r { tasks = ts })
task_moves gone hand r ts olds news u e = record {
  number = refl;
  alike = λ w z.
      let f : Thing → ℕ = λ y. w (sign_of y) in
      let t = of_tasks r.number 0 r ts u in
      omega (arith, t.before f, t.after f, e w z, tot-append f gone (rest_things r.number 0 r), tot-append f hand (rest_things r.number 0 (record r { tasks = ts })));
}

joined : (n u a t : ℕ) (x : Work) → Gives (λ (y : Work). Moves (sent n (message.Join u a t) ∷ []) [] x.rest y.rest) (deliver_join u a t x)
joined n u a t x = by (task_in x.rest.tasks u) refl
  where
    Then : Work → Type 0
    Then y = Moves (sent n (message.Join u a t) ∷ []) [] x.rest y.rest

    state : (y : Task) → task_in x.rest.tasks u ≡ Some y → (z : TaskState) → y.state ≡ z → Gives Then (option_map (λ r. answer_join u a t r.1 (with_tasks r.0 x)) (asked_from x.rest.tasks u a t (Some z)))
    state y q going h =
        let m = x.rest.number in
        task_moves (sent n (message.Join u a t) ∷ []) [] x.rest (with_state x.rest.tasks u (asked a t)) (task_things m 0 y) (task_things m 0 (record { thread = u; state = asked a t }))
        (record { rest = things_at (task_things m) 0 (without_task x.rest.tasks u); before = λ f. tot-gone f m x.rest.tasks u y q; after = λ f. tot-put f m x.rest.tasks u y (asked a t) q })
        (λ w z. let shows : shown w (task_things m 0 y) ≡ shown w (task_things m 0 (record { thread = y.thread; state = going })) = ap (λ v. shown w (task_things m 0 (record { thread = y.thread; state = v }))) h in omega (arith, z, shows))
    state y q (kept v) h =
        let m = x.rest.number in
        let hand : List Thing = holds (as_result u) v ∷ [] in
        sends (sent n (message.Join u a t) ∷ []) hand x.rest (note (act.Answer u t a) (with_tasks (without_task x.rest.tasks u) x)) a (message.Joined u v t)
        (task_moves (sent n (message.Join u a t) ∷ []) hand x.rest (without_task x.rest.tasks u) (task_things m 0 y) []
        (record { rest = things_at (task_things m) 0 (without_task x.rest.tasks u); before = λ f. tot-gone f m x.rest.tasks u y q; after = λ f. omega arith })
        (λ w z.
        let shows : shown w (task_things m 0 y) ≡ shown w (task_things m 0 (record { thread = u; state = kept v })) = ap₂ (λ i s. shown w (task_things m 0 (record { thread = i; state = s }))) (task_number x.rest.tasks u y q) h in
        omega (arith, z, shows))) (λ w z. omega (arith, z))
    state y q let_go h = tt
    state y q (asked r b) h = tt
    state y q (in_pair p d) h = tt

    by : (o : Option Task) → task_in x.rest.tasks u ≡ o → Gives Then (option_map (λ r. answer_join u a t r.1 (with_tasks r.0 x)) (asked_from x.rest.tasks u a t (state_in o)))
    by None q = tt
    by (Some y) q = state y q y.state refl

pub joins : (k : Cluster) (s : Server) (i u a t : ℕ) → slice_get s.rest.inbox i ≡ Some (message.Join u a t) → Gives (ServerStill k s) (does k.code k.options s (Deliver i))
joins k s i u a t q = deliveries k s i (message.Join u a t) q (beside_still (message_things s.rest.number (message.Join u a t)) (deliver_join u a t) (received i s) (joined s.rest.number u a t (received i s).work))
