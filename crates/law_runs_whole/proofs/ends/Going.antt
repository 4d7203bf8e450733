-- A sound cluster that is going can go on, and one that can go on is going.
use Rattle.std.proofs.Common.{◌≡◌, ℕ, ◌+◌, ◌<◌, ◌≤◌, ◌==◌, ◌&&◌, nat_lt, Bool, true, false, if◌then◌else◌, List, [], ◌∷◌, ◌++◌, length, Some, refl, sym, ap, subst, ◌∙◌, arith}
use Rattle.std.proofs.lemmas.Bool.Decides.{nat_tests}
use Rattle.law_runs_coherent.proofs.Below.fr_typing.PlaceLemmas.{eq_cases}
use Rattle.law_runs_coherent.specs.Below.fr_base.declared.name.MutexNo.{MutexNo}
use Rattle.law_runs_coherent.specs.Below.fr_base.declared.step.Ending3.TheVariants.{Going}
use Rattle.law_runs_coherent.specs.Below.thread_state.View.{ThreadState, is_over}
use Rattle.law_runs_coherent.specs.Below.thread_state.declared.phase.Phase.{Phase}
use Rattle.law_runs_coherent.specs.Below.thread_state.declared.phase.Phase.TheVariants as phase
use Rattle.law_runs_coherent.specs.Below.join_home.Tasks.{Task, TaskState, going, let_go, kept, asked, in_pair}
use Rattle.law_runs_coherent.specs.Below.server_msgs.declared.message.Message.{Message}
use Rattle.law_runs_coherent.specs.Below.server_model.declared.event.What.{What}
use Rattle.law_runs_coherent.specs.Below.server_model.declared.event.What.TheVariants.{Step, Deliver, Evict, Migrate}
use Rattle.law_runs_coherent.specs.Below.server_model.Servers.{Sent, Server, Cluster, server_at}
use Rattle.law_runs_coherent.specs.Below.server_model.Work.{thread_in}
use Rattle.law_runs_coherent.specs.Below.server_model.Events.{can_step, has_phase, enabled}
use Rattle.law_runs_coherent.specs.Below.server_model.Clusters.{outboxes}
use Rattle.drive_model.specs.Ending.{is_none, no_message, all_threads, all_in, is_stopped, ending_of, ending}
use Rattle.law_runs_coherent.specs.Below.coherent_memory.Names.{tot, one, if_so, Among}
use Rattle.law_runs_coherent.specs.Below.coherent_memory.Things.{Thing, sent, stands, queued, noted, things_at, waiting_things, leaving_things, standing_things, server_things, servers_things, things_of}
use Rattle.law_runs_coherent.specs.Below.coherent_memory.Follow.{threads_in, thread_at}
use Rattle.law_runs_coherent.specs.Below.coherent_memory.Sight.{sight}
use Rattle.law_runs_coherent.specs.Below.coherent_memory.Weights.{is_thread}
use Rattle.law_runs_coherent.specs.Below.coherent_memory.Requests.{waits, halves, halves_to, halves_needed, noted_answer, is_lock, is_join, is_par, in_phase, phase_fits, note_carries, carries, Branch, half_noted, branch_places, pair_notes, pair_places}
use Rattle.law_runs_coherent.specs.Below.coherent_memory.Coherent.{IsSound}
use Rattle.law_runs_coherent.proofs.Below.coherent_memory.Names.{and_left, and_right, same_number}
use Rattle.law_runs_coherent.proofs.Below.coherent_memory.Sums.{tot-append, server_parts}
use Rattle.law_runs_coherent.proofs.Below.law_counts_sums.Unseen.{Unseen, Unnoted, none_at, thread_alone, seen_of}
use Rattle.law_runs_whole.specs.ends.Going.{goes_on, CanGoOn, GoingCan, CanIsGoing}
use Rattle.law_runs_whole.proofs.ends.Weighing.{weighs, some_weighs, in_such, not_both, counted, found}
use Rattle.law_runs_whole.proofs.ends.Servers.{every, Failing, FailingThread, other_so, failing, failing_thread}

-- MESSAGES

abbrev pub sends : Thing → ℕ
sends (sent r m) = 1
sends x = 0

unseen : (n : ℕ) → Unseen sends n
unseen n = record { held = λ p v. refl; shared = λ l r. refl; borrowed = λ l r. refl; locked = λ l m. refl; live = λ a c. refl; free = λ a m. refl; old = λ a. refl; copy = λ s c. refl; used = λ s w. refl }

unnoted : Unnoted sends
unnoted = record { mutex = λ s m. refl; queue = λ m s t. refl; note = λ s t. refl }

no_item : {X : Type 0} (xs : List X) → is_none xs ≡ true → xs ≡ []
no_item [] e = refl
no_item (x ∷ xs) e = absurd (cc e)

server_silent : (s : Server) → s.rest.inbox ≡ [] → s.rest.outbox ≡ [] → tot sends (server_things s) ≡ 0
server_silent s i o =
    let n = s.rest.number in
    let inbox : tot sends (things_at (waiting_things n) 0 s.rest.inbox) ≡ 0 = subst (λ ms. tot sends (things_at (waiting_things n) 0 ms) ≡ 0) (sym i) refl in
    let outbox : tot sends (things_at leaving_things 0 s.rest.outbox) ≡ 0 = subst (λ ms. tot sends (things_at leaving_things 0 ms) ≡ 0) (sym o) refl in
    omega (arith, seen_of sends n (unseen n) unnoted s refl, inbox, outbox, none_at sends n (unseen n) (standing_things n) (λ j x. thread_alone sends n (unseen n) n false x) 0 s.threads)

pub servers_silent : (ss : List Server) → no_message ss ≡ true → tot sends (servers_things ss) ≡ 0
servers_silent [] e = refl
servers_silent (s ∷ ss) e =
    let first : is_none s.rest.inbox && is_none s.rest.outbox ≡ true = and_left (is_none s.rest.inbox && is_none s.rest.outbox) (no_message ss) e in
    omega (
      arith,
      server_silent s (no_item s.rest.inbox (and_left (is_none s.rest.inbox) (is_none s.rest.outbox) first)) (no_item s.rest.outbox (and_right (is_none s.rest.inbox) (is_none s.rest.outbox) first)),
      servers_silent ss (and_right (is_none s.rest.inbox && is_none s.rest.outbox) (no_message ss) e),
      tot-append sends (server_things s) (servers_things ss),
    )

-- without a message in an outbox none waits exactly where none is in an inbox
waiting_alone : (ss : List Server) → outboxes ss ≡ [] → every (λ s. is_none s.rest.inbox) ss ≡ no_message ss
waiting_alone [] e = refl
waiting_alone (s ∷ ss) e = by s.rest.outbox refl (waiting_alone ss) e
  where
    by : (xs : List Sent) → s.rest.outbox ≡ xs → (outboxes ss ≡ [] → every (λ s. is_none s.rest.inbox) ss ≡ no_message ss) → xs ++ outboxes ss ≡ [] → every (λ s. is_none s.rest.inbox) (s ∷ ss) ≡ no_message (s ∷ ss)
    by (x ∷ xs) q go g = absurd (cc g)
    by [] q go g =
        subst (λ xs. is_none s.rest.inbox && every (λ s. is_none s.rest.inbox) ss ≡ (is_none s.rest.inbox && is_none xs) && no_message ss) (sym q) (subst (λ b. is_none s.rest.inbox && b ≡ (is_none s.rest.inbox && true) && no_message ss) (sym (go g)) (shorter (is_none s.rest.inbox) (no_message ss)))
      where
        shorter : (a b : Bool) → a && b ≡ (a && true) && b
        shorter true b = refl
        shorter false b = refl

all_every : (f : Phase → Bool) (ss : List Server) → every (λ s. all_threads f s.threads) ss ≡ all_in f ss
all_every f [] = refl
all_every f (s ∷ ss) = ap (λ b. all_threads f s.threads && b) (all_every f ss)

-- THREADS THAT WAIT FOR A COPY, AN OBJECT OR A SHARE

abbrev is_asking : Phase → Bool
is_asking (phase.WaitCell w) = true
is_asking (phase.WaitDup m) = true
is_asking p = false

-- one that neither is stopped nor can step is such a thread
asks : (p : Phase) → is_stopped p ≡ false → can_step p ≡ false → is_asking p ≡ true
asks (phase.WaitCell w) s c = refl
asks (phase.WaitDup m) s c = refl
asks phase.Ready s c = absurd (cc c)
asks phase.Got s c = absurd (cc c)
asks (phase.GotPar a b) s c = absurd (cc c)
asks (phase.Taken w) s c = absurd (cc c)
asks (phase.WaitLock m) s c = absurd (cc s)
asks (phase.WaitJoin t) s c = absurd (cc s)
asks (phase.WaitPar a b) s c = absurd (cc s)
asks phase.Over s c = absurd (cc s)

no_lock : (m : MutexNo) (p : Phase) → is_asking p ≡ true → is_lock m p ≡ true → ⊥
no_lock m (phase.WaitLock n) a e = absurd (cc a)
no_lock m p a e = absurd (cc e)

no_join : (t : ℕ) (p : Phase) → is_asking p ≡ true → is_join t p ≡ true → ⊥
no_join t (phase.WaitJoin u) a e = absurd (cc a)
no_join t p a e = absurd (cc e)

no_par : (p : Phase) → is_asking p ≡ true → is_par p ≡ true → ⊥
no_par (phase.WaitPar x y) a e = absurd (cc a)
no_par (phase.GotPar x y) a e = absurd (cc a)
no_par p a e = absurd (cc e)

asking_waits : (p : Phase) → is_asking p ≡ true → waits p ≡ true
asking_waits (phase.WaitCell w) a = refl
asking_waits (phase.WaitDup m) a = refl
asking_waits p a = absurd (cc a)

-- what one half weighs is of the thread
pub if_weighs : (t u n : ℕ) → 1 ≤ if_so (u == t) n → u ≡ t
if_weighs t u n l = by (u == t) refl l
  where
    by : (b : Bool) → (u == t) ≡ b → 1 ≤ if_so b n → u ≡ t
    by true e l = same_number u t e
    by false e l = absurd (omega (arith, l))

pub one_weighs : (t u : ℕ) → 1 ≤ one (u == t) → u ≡ t
one_weighs t u l = by (u == t) refl l
  where
    by : (b : Bool) → (u == t) ≡ b → 1 ≤ one b → u ≡ t
    by true e l = same_number u t e
    by false e l = absurd (omega (arith, l))

-- a parent that waits for a branch is at the end of its par
parent_waits : (c : Branch) (x : Thing) → pair_places c x ≤ in_such is_par c.parent x + in_such is_par c.parent x
parent_waits c (stands r p x) = by (r == c.server) (x.number == c.parent) (is_par x.phase) (branch_places c.thread x.phase) (places x.phase)
  where
    at_most : (d : Bool) → one d ≤ 1
    at_most true = omega arith
    at_most false = omega arith

    places : (p : Phase) → branch_places c.thread p ≤ one (is_par p) + one (is_par p)
    places (phase.WaitPar u v) = omega (arith, at_most (u == c.thread), at_most (v == c.thread))
    places _ = omega arith

    by : (d e f : Bool) (n : ℕ) → n ≤ one f + one f → if_so (d && e) n ≤ one (e && f) + one (e && f)
    by true true f n l = l
    by true false f n l = omega arith
    by false e f n l = omega arith
parent_waits c _ = omega arith

pub parents_wait : (c : Branch) (b : List Thing) → tot (pair_places c) b ≤ tot (in_such is_par c.parent) b + tot (in_such is_par c.parent) b
parents_wait c [] = omega arith
parents_wait c (x ∷ b) = omega (arith, parent_waits c x, parents_wait c b)

module _ (k : Cluster) (sound : IsSound k) (quiet : no_message k.servers ≡ true) (t : ℕ) where
  abbrev b : List Thing
  b = things_of k

  none_breaks : (f : Thing → ℕ) (x : Thing) → tot f b ≡ 0 → Among x b → f x ≡ 0
  none_breaks f x z h = omega (arith, weighs f x b h, z)

  module _ (asking : 1 ≤ tot (in_such is_asking t) b) where
    elsewhere : (f : Phase → Bool) → ((p : Phase) → is_asking p ≡ true → f p ≡ true → ⊥) → 1 ≤ tot (in_such f t) b → ⊥
    elsewhere f apart l = not_both t is_asking f apart b (sound.names.numbers_differ t) asking l

    fits_not : (f : Phase → Bool) (u : ℕ) → ((p : Phase) → is_asking p ≡ true → f p ≡ true → ⊥) → u ≡ t → phase_fits (sight k) u f ≡ 0 → ⊥
    fits_not f u apart e z = elsewhere f apart (subst (λ v. 1 ≤ tot (in_such f v) b) e (counted u f b (other_so (in_phase f (thread_at (threads_in b) u)) z)))

    -- nothing will answer it
    noted_by : (r : ℕ) (x : Task) (s : TaskState) → x.state ≡ s → 1 ≤ halves t (noted_answer s) → note_carries (sight k) x.thread s ≡ 0 → Among (noted r x) b → ⊥
    noted_by r x (asked q u) e l z h = fits_not (is_join x.thread) u (no_join x.thread) (if_weighs t u 2 l) z
    noted_by r x (in_pair p over) e l z h =
        let c : Branch = record { server = r; parent = p; thread = x.thread } in
        let state : half_noted x.state p ≡ true = subst (λ s. half_noted s p ≡ true) (sym e) (same_is p) in
        let note : pair_notes c (noted r x) ≡ 1 = all_three (r == r) (x.thread == x.thread) (half_noted x.state p) (same_is r) (same_is x.thread) state in
        let places : 1 ≤ tot (pair_places c) b = omega (arith, weighs (pair_notes c) (noted r x) b h, note, sound.requests.pairs_noted c) in
        let parent : 1 ≤ tot (in_such is_par p) b = omega (arith, places, parents_wait c b) in
        elsewhere is_par no_par (subst (λ v. 1 ≤ tot (in_such is_par v) b) (one_weighs t p l) parent)
      where
        same_is : (n : ℕ) → (n == n) ≡ true
        same_is n = grind (arith, nat_tests)

        all_three : (a b c : Bool) → a ≡ true → b ≡ true → c ≡ true → one ((a && b) && c) ≡ 1
        all_three true true true q w e = refl
        all_three true true false q w e = absurd (cc e)
        all_three true false c q w e = absurd (cc w)
        all_three false b c q w e = absurd (cc q)
    noted_by r x going e l z h = absurd (omega (arith, l))
    noted_by r x let_go e l z h = absurd (omega (arith, l))
    noted_by r x (kept v) e l z h = absurd (omega (arith, l))

    answers_not : (x : Thing) → Among x b → 1 ≤ halves_to t x → ⊥
    answers_not (sent r m) h l = omega (arith, none_breaks sends (sent r m) (servers_silent k.servers quiet) h)
    answers_not (queued m r u) h l = fits_not (is_lock m) u (no_lock m) (if_weighs t u 2 l) (none_breaks (carries (sight k)) (queued m r u) sound.requests.carry_what_is_asked h)
    answers_not (noted r x) h l = noted_by r x x.state refl l (none_breaks (carries (sight k)) (noted r x) sound.requests.carry_what_is_asked h) h
    answers_not _ h l = absurd (omega (arith, l))

    needs : (x : Thing) → in_such is_asking t x ≤ halves_needed t x
    needs (stands r p x) = by (x.number == t) (is_asking x.phase) (waits x.phase) (asking_waits x.phase)
      where
        by : (c d w : Bool) → (d ≡ true → w ≡ true) → one (c && d) ≤ if_so (c && w) 2
        by true true true g = omega arith
        by true true false g = absurd (cc (g refl))
        by true false w g = omega arith
        by false d w g = omega arith
    needs _ = omega arith

    need : (c : List Thing) → tot (in_such is_asking t) c ≤ tot (halves_needed t) c
    need [] = omega arith
    need (x ∷ c) = omega (arith, needs x, need c)

    pub nobody_asks : ⊥
    nobody_asks =
        let w = some_weighs (halves_to t) b (omega (arith, need b, asking, sound.requests.one_answer t)) in
        answers_not w.item w.there w.weight

-- IT CAN GO ON

module _ (k : Cluster) (sound : IsSound k) where
  delivered : outboxes k.servers ≡ [] → no_message k.servers ≡ false → CanGoOn k
  delivered none e =
      let f = failing k sound (λ s. is_none s.rest.inbox) (waiting_alone k.servers none ∙ e) in
      record { event = record { server = f.server.rest.number; what = Deliver 0 }; server = f.server; there = f.there; kind = refl; on = waiting f.server.rest.inbox f.fails }
    where
      waiting : (xs : List Message) → is_none xs ≡ false → nat_lt 0 (length xs) ≡ true
      waiting [] q = absurd (cc q)
      waiting (x ∷ xs) q = grind (arith, nat_tests)

  -- a server with a thread that isn't stopped, and that thread
  module _ (f : Failing (λ s. all_threads is_stopped s.threads) 0 k.servers) (y : FailingThread is_stopped f.server.rest.number (things_at (standing_things f.server.rest.number) 0 f.server.threads)) where
    abbrev t : ℕ
    t = y.thread.number

    abbrev n : ℕ
    n = f.server.rest.number

    in_phase_here : (g : Phase → Bool) → g y.thread.phase ≡ true → in_such g t (stands n false y.thread) ≡ 1
    in_phase_here g e = by (t == t) (g y.thread.phase) (grind (arith, nat_tests)) e
      where
        by : (c d : Bool) → c ≡ true → d ≡ true → one (c && d) ≡ 1
        by true true q w = refl
        by true false q w = absurd (cc w)
        by false d q w = absurd (cc q)

    weight : (g : Phase → Bool) → g y.thread.phase ≡ true → 1 ≤ tot (in_such g t) (things_at (standing_things n) 0 f.server.threads)
    weight g e = omega (arith, y.part (in_such g t), in_phase_here g e)

    few : tot (is_thread t) (things_at (standing_things n) 0 f.server.threads) ≤ 1
    few = omega (arith, sound.names.numbers_differ t, f.part (is_thread t), server_parts (is_thread t) f.server)

    one_steps : no_message k.servers ≡ true → CanGoOn k
    one_steps quiet = by (can_step y.thread.phase) refl
      where
        by : (c : Bool) → can_step y.thread.phase ≡ c → CanGoOn k
        by true q = record { event = record { server = n; what = Step t }; server = f.server; there = f.there; kind = refl; on = found t can_step n 0 f.server.threads (weight can_step q) few }
        by false q =
            let asking = weight is_asking (asks y.thread.phase y.fails q) in
            absurd (nobody_asks k sound quiet t (omega (arith, asking, f.part (in_such is_asking t), server_parts (in_such is_asking t) f.server)))

  stepped : no_message k.servers ≡ true → all_in is_stopped k.servers ≡ false → CanGoOn k
  stepped quiet e =
      let f = failing k sound (λ s. all_threads is_stopped s.threads) (all_every is_stopped k.servers ∙ e) in
      one_steps f (failing_thread is_stopped f.server.rest.number 0 f.server.threads f.fails) quiet

pub going_can : GoingCan
going_can k sound none e = by (no_message k.servers) (all_in is_over k.servers) (all_in is_stopped k.servers) refl refl e
  where
    by : (q o s : Bool) → no_message k.servers ≡ q → all_in is_stopped k.servers ≡ s → ending_of q o s ≡ Going → CanGoOn k
    by false o s a c g = delivered k sound none a
    by true true s a c g = absurd (cc g)
    by true false true a c g = absurd (cc g)
    by true false false a c g = stepped k sound a c

-- IT IS GOING

-- where each server passes a test, the found one does
passes : (f : Server → Bool) (ss : List Server) (n : ℕ) (s : Server) → every f ss ≡ true → server_at ss n ≡ Some s → f s ≡ true
passes f [] n s e h = absurd (cc h)
passes f (x ∷ ss) n s e h =
    eq_cases (λ c. (if c then Some x else server_at ss n) ≡ Some s → f s ≡ true) x.rest.number n
    (λ same g. let it : x ≡ s = cc in subst (λ y. f y ≡ true) it (and_left (f x) (every f ss) e)) (λ ne g. passes f ss n s (and_right (f x) (every f ss) e) g) h

-- and where each thread does, the found one
thread_passes : (f g : Phase → Bool) → ((p : Phase) → g p ≡ true → f p ≡ false) → (ts : List ThreadState) (t : ℕ) → has_phase g (thread_in ts t) ≡ true → all_threads f ts ≡ true → ⊥
thread_passes f g fails [] t h e = absurd (cc h)
thread_passes f g fails (x ∷ ts) t h e =
    eq_cases (λ c. has_phase g (if c then Some x else thread_in ts t) ≡ true → ⊥) x.number t
    (λ same q. let a = fails x.phase q in let b = and_left (f x.phase) (all_threads f ts) e in absurd (cc (sym a ∙ b)))
    (λ ne q. thread_passes f g fails ts t q (and_right (f x.phase) (all_threads f ts) e)) h

not_over : (p : Phase) → can_step p ≡ true → is_over p ≡ false
not_over phase.Over e = absurd (cc e)
not_over p e = refl

not_stopped : (p : Phase) → can_step p ≡ true → is_stopped p ≡ false
not_stopped phase.Ready e = refl
not_stopped phase.Got e = refl
not_stopped (phase.GotPar a b) e = refl
not_stopped (phase.Taken w) e = refl
not_stopped p e = absurd (cc e)

silent_each : (ss : List Server) → no_message ss ≡ true → every (λ s. is_none s.rest.inbox) ss ≡ true
silent_each [] e = refl
silent_each (s ∷ ss) e =
    let first = and_left (is_none s.rest.inbox && is_none s.rest.outbox) (no_message ss) e in
    subst (λ c. c && every (λ s. is_none s.rest.inbox) ss ≡ true) (sym (and_left (is_none s.rest.inbox) (is_none s.rest.outbox) first)) (silent_each ss (and_right (is_none s.rest.inbox && is_none s.rest.outbox) (no_message ss) e))

pub can_is_going : CanIsGoing
can_is_going k c = by c.event.what c.kind c.on
  where
    ss : List Server
    ss = k.servers

    some : (xs : List Message) (i : ℕ) → nat_lt i (length xs) ≡ true → is_none xs ≡ true → ⊥
    some [] i l e = let w : i < 0 = grind (arith, nat_tests, l) in absurd (omega (arith, w))
    some (x ∷ xs) i l e = absurd (cc e)

    message : (i : ℕ) → nat_lt i (length c.server.rest.inbox) ≡ true → (q o s : Bool) → no_message k.servers ≡ q → ending_of q o s ≡ Going
    message i l false o s e = refl
    message i l true o s e = absurd (some c.server.rest.inbox i l (passes (λ s. is_none s.rest.inbox) k.servers c.event.server c.server (silent_each k.servers e) c.there))

    fails_in : (f : Phase → Bool) (t : ℕ) → ((p : Phase) → can_step p ≡ true → f p ≡ false) → has_phase can_step (thread_in c.server.threads t) ≡ true → (b : Bool) → all_in f k.servers ≡ b → b ≡ false
    fails_in f t fails on false e = refl
    fails_in f t fails on true e = absurd (thread_passes f can_step fails c.server.threads t on (passes (λ s. all_threads f s.threads) k.servers c.event.server c.server (all_every f k.servers ∙ e) c.there))

    step : (q o s : Bool) → o ≡ false → s ≡ false → ending_of q o s ≡ Going
    step false o s a b = refl
    step true false false a b = refl
    step true true s a b = absurd (cc a)
    step true false true a b = absurd (cc b)

    by : (w : What) → goes_on w ≡ true → enabled k.options c.server w ≡ true → ending k ≡ Going
    by (Step t) q on = step (no_message k.servers) (all_in is_over k.servers) (all_in is_stopped k.servers) (fails_in is_over t not_over on (all_in is_over k.servers) refl) (fails_in is_stopped t not_stopped on (all_in is_stopped k.servers) refl)
    by (Deliver i) q on = message i on (no_message k.servers) (all_in is_over k.servers) (all_in is_stopped k.servers) refl
    by (Evict w) q on = absurd (cc q)
    by (Migrate t target) q on = absurd (cc q)
