-- What each change of a server's parts makes of what they are worth.
use Rattle.std.proofs.Common.{◌≡◌, ◌≤◌, ◌<◌, ℕ, zero, suc, ◌+◌, ◌*◌, ◌-◌, ◌^◌, ◌==◌, ◌&&◌, Bool, true, false, nat_lt, if◌then◌else◌, List, [], ◌∷◌, ◌++◌, length, Option, Some, None, refl, ap, arith, length-append}
use Rattle.std.proofs.lemmas.Bool.Decides.{nat_tests}
use Rattle.std.specs.Prelude.{slice_get, remove}
use Rattle.law_runs_coherent.specs.Below.fr_base.Lists.{tot}
use Rattle.law_runs_coherent.specs.Below.fr_base.declared.name.MutexNo.{MutexNo}
use Rattle.law_runs_coherent.specs.Below.heap_partition.declared.value.Owned.{Owned}
use Rattle.law_runs_coherent.specs.Below.mutex_home.Mutexes.{Mutex, Mutexes, mutex_in, make, put_mutex, end_mutex, asked_of, asked_in, ask, back_to, back_out, back_in, give_back, more_in, more, last_less, less_of, less_in, less}
use Rattle.law_runs_coherent.specs.Below.mutex_home.declared.answers.Asked.{Asked}
use Rattle.law_runs_coherent.specs.Below.mutex_home.declared.answers.Asked.TheVariants as asked
use Rattle.law_runs_coherent.specs.Below.mutex_home.declared.answers.Back.{Back}
use Rattle.law_runs_coherent.specs.Below.mutex_home.declared.answers.Back.TheVariants as back
use Rattle.law_runs_coherent.specs.Below.join_home.Tasks.{Task, TaskState, state_in, task_in, state_of, over_in, with_state, without_task, begin, begin_pair, ended_from, pair_ended, ended, let_go_from, let_go_of}
use Rattle.law_runs_coherent.specs.Below.join_home.Tasks as tasks
use Rattle.law_runs_coherent.specs.Below.join_home.declared.answers.EndedAs.{EndedAs}
use Rattle.law_runs_coherent.specs.Below.join_home.declared.answers.EndedAs.TheVariants as over
use Rattle.law_runs_coherent.specs.Below.server_msgs.declared.message.Message.{Message}
use Rattle.law_runs_coherent.specs.Below.server_model.Servers.{Sent, Rest}
use Rattle.law_runs_coherent.specs.Below.server_model.Work.{sent_from, receive}
use Rattle.law_runs_coherent.specs.Below.server_model.Laws.{sum_waiting, sum_sent}
use Rattle.law_runs_coherent.specs.Below.law_counts_sums.Laws.{Gives}
use Rattle.law_length_runs.specs.worth.Credit.{message_worth, out_worth, mutex_worth, state_worth, task_worth, rest_worth}
use Rattle.law_length_runs.proofs.worth.Lists.{tot_append, mutex_set, mutex_goes, state_set, task_goes, task_less}

-- MESSAGES

abbrev pub worth : ℕ → Message → ℕ
worth n m = message_worth m

pub waiting_more : (n : ℕ) (ms : List Message) (m : Message) → sum_waiting worth n (ms ++ m ∷ []) ≡ sum_waiting worth n ms + message_worth m
waiting_more n [] m = omega arith
waiting_more n (x ∷ ms) m = omega (arith, waiting_more n ms m)

pub sent_more : (xs ys : List Sent) → sum_sent worth (xs ++ ys) ≡ sum_sent worth xs + sum_sent worth ys
sent_more [] ys = omega arith
sent_more (x ∷ xs) ys = omega (arith, sent_more xs ys)

-- a rest that is worth at most so much, where each thread that was started gives five
abbrev pub Within : ℕ → ℕ → Rest → Type 0
Within c b r = rest_worth r + b ≤ c + 5 * r.started

-- a message that is sent is worth what it is
pub sends : (c d b : ℕ) (r : Rest) (t : ℕ) (m : Message) → c + message_worth m ≤ d → Within c b r → Within d b (sent_from r t m)
sends c d b r t m l g = by (t == r.number)
  where
    by : (q : Bool) → Within d b (if q then record r { inbox = r.inbox ++ m ∷ [] } else record r { outbox = r.outbox ++ record { target = t; message = m } ∷ [] })
    by true = omega (arith, g, l, waiting_more r.number r.inbox m)
    by false = omega (arith, g, l, sent_more r.outbox (record { target = t; message = m } ∷ []))

-- the same for a thread that starts
pub starts : (c d b : ℕ) (r : Rest) (t : ℕ) (m : Message) → c + message_worth m ≤ d + 5 → Within c b r → Within d b (sent_from (record r { started = r.started + 1 }) t m)
starts c d b r t m l g = by (t == r.number)
  where
    by : (q : Bool)
        → Within d b (if q then record r { started = r.started + 1; inbox = r.inbox ++ m ∷ [] } else record r { started = r.started + 1; outbox = r.outbox ++ record { target = t; message = m } ∷ [] })
    by true = omega (arith, g, l, waiting_more r.number r.inbox m)
    by false = omega (arith, g, l, sent_more r.outbox (record { target = t; message = m } ∷ []))

-- one that is taken out is worth as much less
pub received_worth : (r : Rest) (i : ℕ) (m : Message) → slice_get r.inbox i ≡ Some m → rest_worth (receive r i) + message_worth m ≡ rest_worth r
received_worth r i m e = omega (arith, by r.inbox i e)
  where
    by : (ms : List Message) (i : ℕ) → slice_get ms i ≡ Some m → sum_waiting worth r.number (remove ms i) + message_worth m ≡ sum_waiting worth r.number ms
    by [] i e = absurd (cc e)
    by (x ∷ ms) zero e = let same : x ≡ m = cc in let w : message_worth x ≡ message_worth m = ap message_worth same in omega (arith, w)
    by (x ∷ ms) (suc i) e = omega (arith, by ms i e)

-- MUTEXES

abbrev pub all_worth : Mutexes → ℕ
all_worth ms = tot mutex_worth ms.there

abbrev pub asked_worth : Asked → ℕ
asked_worth asked.Queued = 0
asked_worth (asked.Granted v) = 1

abbrev pub back_worth : Back → ℕ
back_worth (back.Next s t v) = 1
back_worth (back.Ended v) = 0
back_worth back.Kept = 0

-- who asks is granted the content, or waits for it
pub asking : (ms : Mutexes) (m : MutexNo) (s t : ℕ) → Gives (λ (p : Mutexes × Asked). all_worth p.0 + asked_worth p.1 ≤ all_worth ms + 2) (ask ms m s t)
asking ms m s t = by (mutex_in ms.there m) refl
  where
    of : (x : Mutex) (c : Option Owned) → mutex_in ms.there m ≡ Some x → x.content ≡ c → all_worth (asked_of ms s t c x).0 + asked_worth (asked_of ms s t c x).1 ≤ all_worth ms + 2
    of x None e q = omega (arith, mutex_set mutex_worth ms.there m x (record x { queue = x.queue ++ (s, t) ∷ [] }) e refl, length-append x.queue ((s, t) ∷ []))
    of x (Some v) e q = let w : out_worth x.content ≡ 0 = ap out_worth q in omega (arith, w, mutex_set mutex_worth ms.there m x (record x { content = None }) e refl)

    by : (o : Option Mutex) → mutex_in ms.there m ≡ o → Gives (λ (p : Mutexes × Asked). all_worth p.0 + asked_worth p.1 ≤ all_worth ms + 2) (asked_in ms s t o)
    by None e = tt
    by (Some x) e = of x x.content e refl

-- a content that comes back goes on, stays, or goes
abbrev BackLess : Mutexes → Mutexes × Back → Type 0
BackLess ms p = all_worth p.0 + back_worth p.1 + 1 ≤ all_worth ms

module _ (ms : Mutexes) (m : MutexNo) (v : Owned) (x : Mutex) (e : mutex_in ms.there m ≡ Some x) (w : out_worth x.content ≡ 1) where
  alone : (b : Bool) → BackLess ms (if b then (end_mutex ms x.number, back.Ended v) else (put_mutex ms (record x { content = Some v }), back.Kept))
  alone true = omega (arith, w, mutex_goes mutex_worth ms.there m x e)
  alone false = omega (arith, w, mutex_set mutex_worth ms.there m x (record x { content = Some v }) e refl)

  queue_back : (l : List (ℕ × ℕ)) → x.queue ≡ l → BackLess ms (back_to ms v x l)
  queue_back [] q = alone (x.shares == 0)
  queue_back (first ∷ rest) q = let n : length x.queue ≡ suc (length rest) = ap length q in omega (arith, w, n, mutex_set mutex_worth ms.there m x (record x { queue = rest }) e refl)

pub backing : (ms : Mutexes) (m : MutexNo) (v : Owned) → Gives (BackLess ms) (give_back ms m v)
backing ms m v = by (mutex_in ms.there m) refl
  where
    content : (x : Mutex) (c : Option Owned) → mutex_in ms.there m ≡ Some x → x.content ≡ c → Gives (BackLess ms) (back_out ms v x c)
    content x None e q = queue_back ms m v x e (ap out_worth q) x.queue refl
    content x (Some u) e q = tt

    by : (o : Option Mutex) → mutex_in ms.there m ≡ o → Gives (BackLess ms) (back_in ms v o)
    by None e = tt
    by (Some x) e = content x x.content e refl

-- one share more
abbrev More : Mutexes → Mutexes → Type 0
More ms ns = all_worth ns ≤ all_worth ms + 1

pub more_worth : (ms : Mutexes) (m : MutexNo) → Gives (More ms) (more ms m)
more_worth ms m = by (mutex_in ms.there m) refl
  where
    of : (x : Mutex) (b : Bool) → mutex_in ms.there m ≡ Some x → Gives (More ms) (if b then Some (put_mutex ms (record x { shares = x.shares + 1 })) else None)
    of x true e = omega (arith, mutex_set mutex_worth ms.there m x (record x { shares = x.shares + 1 }) e refl)
    of x false e = tt

    by : (o : Option Mutex) → mutex_in ms.there m ≡ o → Gives (More ms) (more_in ms o)
    by None e = tt
    by (Some x) e = of x (nat_lt 0 x.shares && nat_lt x.shares (2 ^ 64 - 1)) e

-- one share less
abbrev ShareLess : Mutexes → Mutexes × Option Owned → Type 0
ShareLess ms p = all_worth p.0 + 1 ≤ all_worth ms

pub less_worth : (ms : Mutexes) (m : MutexNo) → Gives (ShareLess ms) (less ms m)
less_worth ms m = by (mutex_in ms.there m) refl
  where
    last : (x : Mutex) (c : Option Owned) → mutex_in ms.there m ≡ Some x → x.shares ≡ 1 → ShareLess ms (last_less ms x c)
    last x None e n = omega (arith, n, mutex_set mutex_worth ms.there m x (record x { shares = 0 }) e refl)
    last x (Some v) e n = omega (arith, n, mutex_goes mutex_worth ms.there m x e)

    one : (x : Mutex) (b : Bool) → mutex_in ms.there m ≡ Some x → (x.shares == 1) ≡ b → 0 < x.shares → ShareLess ms (if b then last_less ms x x.content else (put_mutex ms (record x { shares = x.shares - 1 }), None))
    one x true e q l = last x x.content e (grind (arith, nat_tests, q))
    one x false e q l = omega (arith, l, mutex_set mutex_worth ms.there m x (record x { shares = x.shares - 1 }) e refl)

    some : (x : Mutex) (b : Bool) → mutex_in ms.there m ≡ Some x → nat_lt 0 x.shares ≡ b → Gives (ShareLess ms) (if b then Some (less_of ms x) else None)
    some x true e q = one x (x.shares == 1) e refl (grind (arith, nat_tests, q))
    some x false e q = tt

    by : (o : Option Mutex) → mutex_in ms.there m ≡ o → Gives (ShareLess ms) (less_in ms o)
    by None e = tt
    by (Some x) e = some x (nat_lt 0 x.shares) e refl

-- a new mutex is one share
pub mutex_made_worth : (ms : Mutexes) (v : Owned) → all_worth (make ms v) ≡ all_worth ms + 1
mutex_made_worth ms v = omega (arith, tot_append mutex_worth ms.there (record { number = Rattle.law_runs_coherent.specs.Below.mutex_home.Mutexes.next_mutex ms; content = Some v; shares = 1; queue = [] } ∷ []))

-- TASKS

abbrev pub noted_worth : List Task → ℕ
noted_worth xs = tot task_worth xs

abbrev pub answered_worth : Option Owned → ℕ
answered_worth None = 0
answered_worth (Some v) = 1

abbrev pub ended_worth : EndedAs → ℕ
ended_worth (over.Answer s t v) = 1
ended_worth (over.Both p) = 0
ended_worth (over.LetGo v) = 0
ended_worth over.Kept = 0

-- who asks for a result has it, or is noted
pub joining : (xs : List Task) (t s b : ℕ) → Gives (λ (p : List Task × Option Owned). noted_worth p.0 + answered_worth p.1 ≤ noted_worth xs) (tasks.ask xs t s b)
joining xs t s b = by (state_of xs t) refl
  where
    by : (o : Option TaskState) → state_of xs t ≡ o → Gives (λ (p : List Task × Option Owned). noted_worth p.0 + answered_worth p.1 ≤ noted_worth xs) (tasks.asked_from xs t s b o)
    by None e = tt
    by (Some tasks.going) e = omega (arith, state_set state_worth xs t tasks.going (tasks.asked s b) e)
    by (Some (tasks.kept v)) e = omega (arith, task_goes state_worth xs t (tasks.kept v) e)
    by (Some tasks.let_go) e = tt
    by (Some (tasks.asked a c)) e = tt
    by (Some (tasks.in_pair p o)) e = tt

-- a task that is let go
pub letting_go : (xs : List Task) (t : ℕ) → Gives (λ (p : List Task × Option Owned). noted_worth p.0 + 1 ≤ noted_worth xs) (let_go_of xs t)
letting_go xs t = by (state_of xs t) refl
  where
    by : (o : Option TaskState) → state_of xs t ≡ o → Gives (λ (p : List Task × Option Owned). noted_worth p.0 + 1 ≤ noted_worth xs) (let_go_from xs t o)
    by None e = tt
    by (Some tasks.going) e = omega (arith, state_set state_worth xs t tasks.going tasks.let_go e)
    by (Some (tasks.kept v)) e = omega (arith, task_goes state_worth xs t (tasks.kept v) e)
    by (Some tasks.let_go) e = tt
    by (Some (tasks.asked a c)) e = tt
    by (Some (tasks.in_pair p o)) e = tt

-- a thread that has ended
abbrev EndLess : List Task → List Task × EndedAs → Type 0
EndLess xs p = noted_worth p.0 + ended_worth p.1 + 1 ≤ noted_worth xs

pub ending : (xs : List Task) (t : ℕ) (v : Owned) → Gives (EndLess xs) (ended xs t v)
ending xs t v = by (state_of xs t) refl
  where
    pair : (p : ℕ) (o : Option ℕ) → state_of xs t ≡ Some (tasks.in_pair p false) → EndLess xs (pair_ended xs t p o)
    pair p None e = omega (arith, state_set state_worth xs t (tasks.in_pair p false) (tasks.in_pair p true) e)
    pair p (Some u) e = omega (arith, task_goes state_worth xs t (tasks.in_pair p false) e, task_less state_worth (without_task xs t) u)

    by : (o : Option TaskState) → state_of xs t ≡ o → Gives (EndLess xs) (ended_from xs t v o)
    by None e = tt
    by (Some tasks.going) e = omega (arith, state_set state_worth xs t tasks.going (tasks.kept v) e)
    by (Some tasks.let_go) e = omega (arith, task_goes state_worth xs t tasks.let_go e)
    by (Some (tasks.kept u)) e = tt
    by (Some (tasks.asked a c)) e = omega (arith, task_goes state_worth xs t (tasks.asked a c) e)
    by (Some (tasks.in_pair p true)) e = tt
    by (Some (tasks.in_pair p false)) e = pair p (over_in xs p) e

-- threads that start
pub begin_worth : (xs : List Task) (t : ℕ) → noted_worth (begin xs t) ≡ noted_worth xs + 2
begin_worth xs t = omega (arith, tot_append task_worth xs (record { thread = t; state = tasks.going } ∷ []))

pub pair_worth : (xs : List Task) (p a b : ℕ) → noted_worth (begin_pair xs p a b) ≡ noted_worth xs + 2
pair_worth xs p a b =
    omega (arith, tot_append task_worth xs (record { thread = a; state = tasks.in_pair p false } ∷ []), tot_append task_worth (xs ++ record { thread = a; state = tasks.in_pair p false } ∷ []) (record { thread = b; state = tasks.in_pair p false } ∷ []))
