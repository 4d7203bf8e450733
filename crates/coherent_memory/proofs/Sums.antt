-- Sums over the things of servers, and that handing over changes none.
use Rattle.std.proofs.Common.{◌≡◌, ℕ, ◌+◌, ◌==◌, Bool, true, false, if◌then◌else◌, List, [], ◌∷◌, ◌++◌, length, Some, IsSome, refl, subst, arith}
use Rattle.std.proofs.lemmas.Bool.Decides.{nat_tests}
use Rattle.std.specs.List.{AllByRecursion}
use Rattle.server_model.specs.Below.server_msgs.declared.message.Message.{Message}
use Rattle.server_model.specs.Servers.{Sent, Server, server_at}
use Rattle.server_model.specs.Clusters.{with_outbox, accept, accept_at, accept_all, outboxes, emptied}
use Rattle.coherent_memory.specs.Names.{tot}
use Rattle.coherent_memory.specs.Things.{Thing, counts, things_at, message_things, waiting_things, leaving_things, partition_things, copy_things, mutex_things, task_things, standing_things, server_things, servers_things}
use Rattle.coherent_memory.specs.Laws.{HandOverLaw}

pub tot-append : {A : Type 0} (f : A → ℕ) (xs ys : List A) → tot f (xs ++ ys) ≡ tot f xs + tot f ys
tot-append f [] ys = omega arith
tot-append f (x ∷ xs) ys = let a = tot-append f xs ys in omega (arith, a)

-- a server's things but for its messages
abbrev pub rest_of : (Thing → ℕ) → Server → ℕ
rest_of f s =
    f (counts s.rest.number (length s.rest.partition.cells) s.rest.partition.retired s.rest.started s.rest.mutexes.made s.events) + tot f (partition_things s.rest.number s.rest.partition)
    + tot f (things_at (copy_things s.rest.number) 0 s.rest.cache) + tot f (things_at (mutex_things s.rest.number) 0 s.rest.mutexes.there) + tot f (things_at (task_things s.rest.number) 0 s.rest.tasks)
    + tot f (things_at (standing_things s.rest.number) 0 s.threads)

abbrev pub inbox_of : (Thing → ℕ) → Server → ℕ
inbox_of f s = tot f (things_at (waiting_things s.rest.number) 0 s.rest.inbox)

-- the messages of a list, each under way to its server
abbrev pub all_sent : (Thing → ℕ) → List Sent → ℕ
all_sent f xs = tot f (things_at leaving_things 0 xs)

seven : (f : Thing → ℕ) (n : ℕ) (p c m t x i o : List Thing)
    → n + tot f (p ++ c ++ m ++ t ++ x ++ i ++ o) ≡ n + tot f p + tot f c + tot f m + tot f t + tot f x + tot f i + tot f o
seven f n p c m t x i o =
    omega (arith, tot-append f (p ++ c ++ m ++ t ++ x ++ i) o, tot-append f (p ++ c ++ m ++ t ++ x) i, tot-append f (p ++ c ++ m ++ t) x, tot-append f (p ++ c ++ m) t, tot-append f (p ++ c) m, tot-append f p c)

pub server_parts : (f : Thing → ℕ) (s : Server) → tot f (server_things s) ≡ rest_of f s + inbox_of f s + all_sent f s.rest.outbox
server_parts f s =
    seven f (f (counts s.rest.number (length s.rest.partition.cells) s.rest.partition.retired s.rest.started s.rest.mutexes.made s.events)) (partition_things s.rest.number s.rest.partition)
    (things_at (copy_things s.rest.number) 0 s.rest.cache) (things_at (mutex_things s.rest.number) 0 s.rest.mutexes.there) (things_at (task_things s.rest.number) 0 s.rest.tasks)
    (things_at (standing_things s.rest.number) 0 s.threads) (things_at (waiting_things s.rest.number) 0 s.rest.inbox) (things_at leaving_things 0 s.rest.outbox)

-- a message put last
pub waiting_pushed : (f : Thing → ℕ) (s i : ℕ) (ms : List Message) (m : Message)
    → tot f (things_at (waiting_things s) i (ms ++ m ∷ [])) ≡ tot f (things_at (waiting_things s) i ms) + tot f (message_things s m)
waiting_pushed f s i [] m = omega (arith, tot-append f (message_things s m) [])
waiting_pushed f s i (x ∷ ms) m =
    omega (arith, waiting_pushed f s (i + 1) ms m, tot-append f (message_things s x) (things_at (waiting_things s) (i + 1) (ms ++ m ∷ [])), tot-append f (message_things s x) (things_at (waiting_things s) (i + 1) ms))

-- where a message stands in its list makes no difference
pub sent_from : (f : Thing → ℕ) (i j : ℕ) (xs : List Sent) → tot f (things_at leaving_things i xs) ≡ tot f (things_at leaving_things j xs)
sent_from f i j [] = refl
sent_from f i j (x ∷ xs) =
    omega (arith, sent_from f (i + 1) (j + 1) xs, tot-append f (message_things x.target x.message) (things_at leaving_things (i + 1) xs), tot-append f (message_things x.target x.message) (things_at leaving_things (j + 1) xs))

pub all_sent-cons : (f : Thing → ℕ) (x : Sent) (xs : List Sent) → all_sent f (x ∷ xs) ≡ tot f (message_things x.target x.message) + all_sent f xs
all_sent-cons f x xs = omega (arith, tot-append f (message_things x.target x.message) (things_at leaving_things 1 xs), sent_from f 1 0 xs)

pub all_sent-append : (f : Thing → ℕ) (xs ys : List Sent) → all_sent f (xs ++ ys) ≡ all_sent f xs + all_sent f ys
all_sent-append f [] ys = omega arith
all_sent-append f (x ∷ xs) ys = omega (arith, all_sent-cons f x (xs ++ ys), all_sent-cons f x xs, all_sent-append f xs ys)

accepted : (f : Thing → ℕ) (m : Message) (s : Server) → tot f (server_things (accept m s)) ≡ tot f (server_things s) + tot f (message_things s.rest.number m)
accepted f m s = omega (arith, server_parts f (accept m s), server_parts f s, waiting_pushed f s.rest.number 0 s.rest.inbox m)

here : (f : Thing → ℕ) (m : Message) (s : Server) (ss : List Server) (t : ℕ) → s.rest.number ≡ t → tot f (servers_things (accept m s ∷ ss)) ≡ tot f (servers_things (s ∷ ss)) + tot f (message_things t m)
here f m s ss t e =
    let a : tot f (server_things (accept m s)) ≡ tot f (server_things s) + tot f (message_things t m) = subst (λ n. tot f (server_things (accept m s)) ≡ tot f (server_things s) + tot f (message_things n m)) e (accepted f m s) in
    omega (arith, a, tot-append f (server_things (accept m s)) (servers_things ss), tot-append f (server_things s) (servers_things ss))

there : (f : Thing → ℕ) (s : Server) (ss us : List Server) (n : ℕ) → tot f (servers_things us) ≡ tot f (servers_things ss) + n → tot f (servers_things (s ∷ us)) ≡ tot f (servers_things (s ∷ ss)) + n
there f s ss us n e = omega (arith, e, tot-append f (server_things s) (servers_things us), tot-append f (server_things s) (servers_things ss))

by_test : (f : Thing → ℕ) (s : Server) (ss : List Server) (x : Sent) (q : Bool) → (s.rest.number == x.target) ≡ q
    → (IsSome (server_at ss x.target) → tot f (servers_things (accept_at ss x)) ≡ tot f (servers_things ss) + tot f (message_things x.target x.message))
    → IsSome (if q then Some s else server_at ss x.target)
    → tot f (servers_things (if q then accept x.message s ∷ ss else s ∷ accept_at ss x)) ≡ tot f (servers_things (s ∷ ss)) + tot f (message_things x.target x.message)
by_test f s ss x true e go h = here f x.message s ss x.target (grind (arith, nat_tests, e))
by_test f s ss x false e go h = there f s ss (accept_at ss x) (tot f (message_things x.target x.message)) (go h)

-- a message of a server that is there is accepted there
pub accepted_at : (f : Thing → ℕ) (ss : List Server) (x : Sent) → IsSome (server_at ss x.target) → tot f (servers_things (accept_at ss x)) ≡ tot f (servers_things ss) + tot f (message_things x.target x.message)
accepted_at f [] x h = absurd (cc h)
accepted_at f (s ∷ ss) x h = by_test f s ss x (s.rest.number == x.target) refl (accepted_at f ss x) h

-- the servers that are there stay there
stays_by : (s : Server) (ss : List Server) (x : Sent) (t : ℕ) (q r : Bool) → (s.rest.number == x.target) ≡ q → (s.rest.number == t) ≡ r
    → (IsSome (server_at ss t) → IsSome (server_at (accept_at ss x) t))
    → IsSome (if r then Some s else server_at ss t)
    → IsSome (server_at (if q then accept x.message s ∷ ss else s ∷ accept_at ss x) t)
stays_by s ss x t true true e d go h = rw d refl
stays_by s ss x t true false e d go h = rw d h
stays_by s ss x t false true e d go h = rw d refl
stays_by s ss x t false false e d go h = rw d (go h)

stays : (ss : List Server) (x : Sent) (t : ℕ) → IsSome (server_at ss t) → IsSome (server_at (accept_at ss x) t)
stays [] x t h = absurd (cc h)
stays (s ∷ ss) x t h = stays_by s ss x t (s.rest.number == x.target) (s.rest.number == t) refl refl (stays ss x t) h

abbrev Go : List Server → List Sent → Type 0
Go ss xs = AllByRecursion (λ (x : Sent). IsSome (server_at ss x.target)) xs

go_on : (ss : List Server) (x : Sent) (xs : List Sent) → Go ss xs → Go (accept_at ss x) xs
go_on ss x [] g = tt
go_on ss x (y ∷ ys) g = (stays ss x y.target g.0, go_on ss x ys g.1)

pub accepted_all : (f : Thing → ℕ) (ss : List Server) (xs : List Sent) → Go ss xs → tot f (servers_things (accept_all ss xs)) ≡ tot f (servers_things ss) + all_sent f xs
accepted_all f ss [] g = omega arith
accepted_all f ss (x ∷ xs) g =
    omega (arith, accepted_all f (accept_at ss x) xs (go_on ss x xs g.1), accepted_at f ss x g.0, all_sent-cons f x xs)

-- without their outboxes
sent_by : (f : Thing → ℕ) (s : Server) → tot f (server_things s) ≡ tot f (server_things (with_outbox [] s)) + all_sent f s.rest.outbox
sent_by f s = omega (arith, server_parts f s, server_parts f (with_outbox [] s))

sent_all : (f : Thing → ℕ) (ss : List Server) → tot f (servers_things ss) ≡ tot f (servers_things (emptied ss)) + all_sent f (outboxes ss)
sent_all f [] = refl
sent_all f (s ∷ ss) =
    omega (arith, sent_by f s, sent_all f ss, all_sent-append f s.rest.outbox (outboxes ss), tot-append f (server_things s) (servers_things ss), tot-append f (server_things (with_outbox [] s)) (servers_things (emptied ss)))

still_by : (s : Server) (ss : List Server) (t : ℕ) (r : Bool) → (s.rest.number == t) ≡ r → (IsSome (server_at ss t) → IsSome (server_at (emptied ss) t))
    → IsSome (if r then Some s else server_at ss t) → IsSome (if r then Some (with_outbox [] s) else server_at (emptied ss) t)
still_by s ss t true d go h = refl
still_by s ss t false d go h = go h

still : (ss : List Server) (t : ℕ) → IsSome (server_at ss t) → IsSome (server_at (emptied ss) t)
still [] t h = absurd (cc h)
still (s ∷ ss) t h = still_by s ss t (s.rest.number == t) refl (still ss t) h

still_all : (ss : List Server) (xs : List Sent) → Go ss xs → Go (emptied ss) xs
still_all ss [] g = tt
still_all ss (x ∷ xs) g = (still ss x.target g.0, still_all ss xs g.1)

pub hand_over_law : HandOverLaw
hand_over_law f k g = omega (arith, accepted_all f (emptied k.servers) (outboxes k.servers) (still_all k.servers (outboxes k.servers) g), sent_all f k.servers)
