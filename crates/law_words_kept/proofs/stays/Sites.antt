-- From what words see of a server in the middle of an event to what they see of its cluster.
use Rattle.std.proofs.Common.{◌≡◌, ℕ, zero, suc, ◌+◌, ◌==◌, Bool, true, false, if◌then◌else◌, List, [], ◌∷◌, ◌++◌, Option, Some, None, IsSome, option_map, refl, sym, ap, subst}
use Rattle.std.specs.Prelude.{slice_get, take, drop}
use Rattle.law_counts_sums.proofs.Below.fr_typing.PlaceLemmas.{eq_cases}
use Rattle.law_counts_sums.specs.Below.fr_base.declared.instruction.Instr.{Instr}
use Rattle.law_counts_sums.specs.Below.fr_base.declared.step.Fresh.{Fresh}
use Rattle.law_counts_sums.specs.Below.journal.View.{EntryView}
use Rattle.law_counts_sums.specs.Below.thread_state.View.{ThreadState}
use Rattle.law_counts_sums.specs.Below.server_msgs.declared.message.Message.{Message}
use Rattle.law_counts_sums.specs.Below.server_model.declared.event.What.TheVariants.{Deliver}
use Rattle.law_counts_sums.specs.Below.server_model.Servers.{Sent, Server, Cluster, server_at}
use Rattle.law_counts_sums.specs.Below.server_model.Work.{Work, Hand, Site, receive, thread_in, in_hand, put_back, at_thread, beside_threads, then_some, add_waiting}
use Rattle.law_counts_sums.specs.Below.server_model.Events.{does, begin_work, begin_at, left_by, deliver, deliver_message, received, Stepped, step, step_in, stepped}
use Rattle.law_counts_sums.specs.Below.server_model.Clusters.{with_server, accept, accept_at, accept_all, with_outbox, hand_over_newer}
use Rattle.law_counts_sums.specs.Below.coherent_memory.Things.{Thing, things_at, partition_things, copy_things, mutex_things, task_things, thread_things, message_things, waiting_things, leaving_things, server_things, servers_things}
use Rattle.law_counts_sums.proofs.Below.coherent_memory.Names.{same_number}
use Rattle.law_words_paths.proofs.paths.Sole.{some_is}
use Rattle.law_counts_sums.specs.Laws.{Gives, GoTo}
use Rattle.law_counts_sums.proofs.Results.{then_gives, over_gives}
use Rattle.law_counts_sums.proofs.Bags.{counts_of, body_things, all_standing}
use Rattle.law_words_kept.proofs.stays.Alike.{Alike, itself, turned, chain, beside, exchanged, in_front, joined, inside}
use Rattle.law_words_kept.proofs.stays.Lists.{taken_alike, shifted, at_end}
use Rattle.law_words_kept.proofs.stays.Servers.{server_body, receives, RestAlike}
use Rattle.law_words_kept.proofs.stays.Threads.{thread_changes}

-- A SERVER IN THE MIDDLE OF AN EVENT

abbrev pub site_things : ℕ → Site → List Thing
site_things n x = all_standing n x.threads ++ body_things n x.work.rest

-- words see the same of another site, with these things beside the first
pub record SiteAlike (code : List Instr) (gone : List Thing) (x y : Site) : Type 0 where
  pub number : y.work.rest.number ≡ x.work.rest.number
  pub alike : Alike code (gone ++ site_things x.work.rest.number x) (site_things x.work.rest.number y)

abbrev pub ServerAlike : List Instr → Server → Server × EntryView → Type 0
ServerAlike code s d = Alike code (server_things s) (server_things d.0)

pub ends_alike : {code : List Instr} (n e : ℕ) (t : Option ℕ) (names : Option Fresh) (x : Site) → x.work.rest.number ≡ n → Alike code (site_things n x) (server_things (left_by e t names x).0)
ends_alike {code = code} n e t names x q = turned (subst (λ m. Alike code (server_things (left_by e t names x).0) (all_standing m x.threads ++ body_things m x.work.rest)) q (server_body (left_by e t names x).0))

-- the event began here
pub begun_alike : {code : List Instr} (s : Server) (e : ℕ) (t : Option ℕ) (names : Option Fresh) (x : Site) → SiteAlike code [] (begin_at s) x → ServerAlike code s (left_by e t names x)
begun_alike s e t names x a = chain (server_body s) (chain a.alike (ends_alike s.rest.number e t names x a.number))

-- what changes no thread
pub beside_alike : (code : List Instr) (gone : List Thing) (f : Work → Option Work) (x : Site) → Gives (λ (w : Work). RestAlike code x.work.rest.number (gone ++ body_things x.work.rest.number x.work.rest) w.rest) (f x.work)
    → Gives (SiteAlike code gone x) (beside_threads f x)
beside_alike code gone f x g =
    over_gives (λ (w : Work). RestAlike code x.work.rest.number (gone ++ body_things x.work.rest.number x.work.rest) w.rest) (SiteAlike code gone x) (f x.work) (λ w. record x { work = w }) g
    (λ w r. record { number = r.number; alike = chain (in_front gone (all_standing x.work.rest.number x.threads) (body_things x.work.rest.number x.work.rest)) (beside (itself (all_standing x.work.rest.number x.threads)) r.alike) })

-- what changes one thread
pub record HandAlike (code : List Instr) (n : ℕ) (gone : List Thing) (h h2 : Hand) : Type 0 where
  pub number : h2.work.rest.number ≡ h.work.rest.number
  pub named : h2.thread.number ≡ h.thread.number
  pub thread : Alike code (gone ++ thread_things n false h.thread) (thread_things n false h2.thread)
  pub rest : Alike code (body_things n h.work.rest) (body_things n h2.work.rest)

-- the thread stands where it stood
pub put_alike : (code : List Instr) (gone : List Thing) (t : ℕ) (x : Site) (y : ThreadState) → thread_in x.threads t ≡ Some y → (h : Hand) → HandAlike code x.work.rest.number gone (record { work = x.work; thread = y }) h → SiteAlike code gone x (put_back x.threads h)
put_alike code gone t x y e h a =
    let n = x.work.rest.number in record {
      number = a.number;
      alike = chain (joined gone (all_standing n x.threads) (body_things n x.work.rest)) (beside (thread_changes n x.threads t y h.thread gone [] e a.named a.thread) a.rest);
    }

pub thread_alike_at : (code : List Instr) (gone : List Thing) (t : ℕ) (f : Hand → Option Hand) (x : Site)
    → ((y : ThreadState) → thread_in x.threads t ≡ Some y → Gives (HandAlike code x.work.rest.number gone (record { work = x.work; thread = y })) (f (record { work = x.work; thread = y })))
    → Gives (SiteAlike code gone x) (at_thread t f x)
thread_alike_at code gone t f x go = by (thread_in x.threads t) refl
  where
    n : ℕ
    n = x.work.rest.number

    by : (o : Option ThreadState) → thread_in x.threads t ≡ o → Gives (SiteAlike code gone x) (then_some (option_map (λ y. record { work = x.work; thread = y }) o) (λ h. option_map (put_back x.threads) (f h)))
    by None e = tt
    by (Some y) e = over_gives (HandAlike code n gone (record { work = x.work; thread = y })) (SiteAlike code gone x) (f (record { work = x.work; thread = y })) (put_back x.threads) (go y e) (λ h a. put_alike code gone t x y e h a)

-- a step, where that is known of its thread's hand in entries of some kind
pub steps : (code : List Instr) (servers t : ℕ) (s : Server) (Q : Option Fresh → Type 0)
    → ((y : ThreadState) → thread_in s.threads t ≡ Some y → (i : Instr) → slice_get code y.pc ≡ Some i
    → Gives (λ (d : Stepped). Q d.names → HandAlike code s.rest.number [] (record { work = begin_work s.rest; thread = y }) d.hand) (step servers i (record { work = begin_work s.rest; thread = y })))
    → Gives (λ (r : Server × EntryView). Q r.1.done → ServerAlike code s r) (option_map (stepped s) (then_some (in_hand (begin_at s) t) (step_in code servers)))
steps code servers t s Q go = by (thread_in s.threads t) refl
  where
    n : ℕ
    n = s.rest.number

    by : (o : Option ThreadState) → thread_in s.threads t ≡ o
        → Gives (λ (r : Server × EntryView). Q r.1.done → ServerAlike code s r) (option_map (stepped s) (then_some (option_map (λ y. record { work = begin_work s.rest; thread = y }) o) (step_in code servers)))
    by None e = tt
    by (Some y) e =
        let h : Hand = record { work = begin_work s.rest; thread = y } in
        over_gives (λ (d : Stepped). Q d.names → HandAlike code n [] h d.hand) (λ (r : Server × EntryView). Q r.1.done → ServerAlike code s r) (step_in code servers h) (stepped s)
        (then_gives (λ (d : Stepped). Q d.names → HandAlike code n [] h d.hand) (slice_get code y.pc) (λ i. step servers i h) (λ i j. go y e i j))
        (λ d a q. begun_alike s s.events (Some d.hand.thread.number) d.names (put_back s.threads d.hand) (put_alike code [] t (begin_at s) y e d.hand (a q)))

-- a delivery: the message and what it carries are beside the site
pub deliveries : (k : Cluster) (s : Server) (i : ℕ) (m : Message) → slice_get s.rest.inbox i ≡ Some m → Gives (SiteAlike k.code (message_things s.rest.number m) (received i s)) (deliver_message k.code m (received i s))
    → Gives (ServerAlike k.code s) (does k.code k.options s (Deliver i))
deliveries k s i m q g =
    over_gives (SiteAlike k.code (message_things n m) (received i s)) (ServerAlike k.code s) (deliver k.code i s) (left_by s.events None None)
    (subst (λ o. Gives (SiteAlike k.code (message_things n m) (received i s)) (then_some o (λ y. deliver_message k.code y (received i s)))) (sym q) g) (λ x a. ended x a)
  where
    n : ℕ
    n = s.rest.number

    ended : (x : Site) → SiteAlike k.code (message_things n m) (received i s) x → ServerAlike k.code s (left_by s.events None None x)
    ended x a =
        chain (server_body s)
        (chain (beside (itself (all_standing n s.threads)) (receives n s.rest i m q))
        (chain (in_front (all_standing n s.threads) (message_things n m) (body_things n (receive s.rest i))) (chain a.alike (ends_alike n s.events None None x a.number))))

-- A CLUSTER

pub servers_alike : {code : List Instr} (n : ℕ) (ss : List Server) (s y : Server) → server_at ss n ≡ Some s → Alike code (server_things s) (server_things y) → Alike code (servers_things ss) (servers_things (with_server ss n y))
servers_alike n [] s y e h = absurd cc
servers_alike {code = code} n (z ∷ ss) s y e h = by (z.rest.number == n) e (λ g. servers_alike n ss s y g h)
  where
    by : (b : Bool) → (if b then Some z else server_at ss n) ≡ Some s → (server_at ss n ≡ Some s → Alike code (servers_things ss) (servers_things (with_server ss n y))) → Alike code (servers_things (z ∷ ss)) (servers_things (if b then y ∷ ss else z ∷ with_server ss n y))
    by true f go = beside (subst (λ x. Alike code (server_things x) (server_things y)) (sym (some_is f)) h) (itself (servers_things ss))
    by false f go = beside (itself (server_things z)) (go f)

-- HANDING OVER

accepts : {code : List Instr} (s : Server) (m : Message) → Alike code (message_things s.rest.number m ++ server_things s) (server_things (accept m s))
accepts s m =
    let n = s.rest.number in
    let msg = message_things n m in
    let x = all_standing n s.threads in
    let b = body_things n s.rest in
    chain (beside (itself msg) (server_body s)) (chain (in_front msg x b) (chain (beside (itself x) waits) (turned (server_body (accept m s)))))
  where
    waits : {code : List Instr} → Alike code (message_things s.rest.number m ++ body_things s.rest.number s.rest) (body_things s.rest.number (add_waiting m s.rest))
    waits =
        let r = s.rest in
        let l = partition_things r.number r.partition ++ things_at (copy_things r.number) 0 r.cache ++ things_at (mutex_things r.number) 0 r.mutexes.there ++ things_at (task_things r.number) 0 r.tasks in
        turned (inside l (things_at leaving_things 0 r.outbox) [] (message_things r.number m) (things_at (waiting_things r.number) 0 (r.inbox ++ m ∷ [])) (things_at (waiting_things r.number) 0 r.inbox) (taken_alike (message_things r.number) 0 0 (at_end r.inbox m)))

accepts_at : {code : List Instr} (ss : List Server) (x : Sent) → IsSome (server_at ss x.target) → Alike code (message_things x.target x.message ++ servers_things ss) (servers_things (accept_at ss x))
accepts_at [] x h = absurd cc
accepts_at {code = code} (s ∷ ss) x h = by (s.rest.number == x.target) refl h (λ g. accepts_at ss x g)
  where
    msg : List Thing
    msg = message_things x.target x.message

    by : (b : Bool) → (s.rest.number == x.target) ≡ b → IsSome (if b then Some s else server_at ss x.target) → (IsSome (server_at ss x.target) → Alike code (message_things x.target x.message ++ servers_things ss) (servers_things (accept_at ss x)))
        → Alike code (message_things x.target x.message ++ servers_things (s ∷ ss)) (servers_things (if b then accept x.message s ∷ ss else s ∷ accept_at ss x))
    by true q g go =
        let here : Alike code (msg ++ server_things s) (server_things (accept x.message s)) = subst (λ n. Alike code (message_things n x.message ++ server_things s) (server_things (accept x.message s))) (same_number s.rest.number x.target q) (accepts s x.message) in
        chain (joined msg (server_things s) (servers_things ss)) (beside here (itself (servers_things ss)))
    by false q g go = chain (in_front msg (server_things s) (servers_things ss)) (beside (itself (server_things s)) (go g))

there_still : (ss : List Server) (x : Sent) (t : ℕ) → IsSome (server_at ss t) → IsSome (server_at (accept_at ss x) t)
there_still [] x t h = h
there_still (s ∷ ss) x t h =
    eq_cases (λ b. IsSome (server_at (if b then accept x.message s ∷ ss else s ∷ accept_at ss x) t)) s.rest.number x.target
    (λ q. eq_cases (λ b. IsSome (if b then Some s else server_at ss t) → IsSome (if b then Some (accept x.message s) else server_at ss t)) s.rest.number t (λ a g. refl) (λ a g. g) h)
    (λ ne. eq_cases (λ b. IsSome (if b then Some s else server_at ss t) → IsSome (if b then Some s else server_at (accept_at ss x) t)) s.rest.number t (λ a g. refl) (λ a g. there_still ss x t g) h)

go_still : (ss : List Server) (x : Sent) (xs : List Sent) → GoTo ss xs → GoTo (accept_at ss x) xs
go_still ss x [] g = tt
go_still ss x (y ∷ xs) g = (there_still ss x y.target g.0, go_still ss x xs g.1)

abbrev leaving : List Sent → List Thing
leaving xs = things_at leaving_things 0 xs

accepts_all : {code : List Instr} (ss : List Server) (xs : List Sent) → GoTo ss xs → Alike code (leaving xs ++ servers_things ss) (servers_things (accept_all ss xs))
accepts_all ss [] g = itself (servers_things ss)
accepts_all ss (x ∷ xs) g =
    let msg = message_things x.target x.message in
    chain (beside (beside (itself msg) (shifted (λ (y : Sent). message_things y.target y.message) 1 0 xs)) (itself (servers_things ss)))
    (chain (turned (joined msg (leaving xs) (servers_things ss)))
    (chain (in_front msg (leaving xs) (servers_things ss)) (chain (beside (itself (leaving xs)) (accepts_at ss x g.0)) (accepts_all (accept_at ss x) xs (go_still ss x xs g.1)))))

halves : (n : ℕ) (xs : List Sent) → take n xs ++ drop n xs ≡ xs
halves zero xs = refl
halves (suc n) [] = refl
halves (suc n) (x ∷ xs) = ap (λ l. x ∷ l) (halves n xs)

left_over : {code : List Instr} (i : ℕ) (xs ys : List Sent) → Alike code (things_at leaving_things i (xs ++ ys)) (things_at leaving_things i xs ++ leaving ys)
left_over i [] ys = shifted (λ (y : Sent). message_things y.target y.message) i 0 ys
left_over i (x ∷ xs) ys =
    let msg = message_things x.target x.message in
    chain (beside (itself msg) (left_over (i + 1) xs ys)) (joined msg (things_at leaving_things (i + 1) xs) (leaving ys))

-- a server's messages beside it
outbox_out : {code : List Instr} (n : ℕ) (s : Server) → Alike code (server_things s) (leaving (drop n s.rest.outbox) ++ server_things (with_outbox (take n s.rest.outbox) s))
outbox_out {code = code} n s =
    let xs = take n s.rest.outbox in
    let ys = drop n s.rest.outbox in
    let r = s.rest in
    let l = counts_of r.number s.events r
    ∷ partition_things r.number r.partition ++ things_at (copy_things r.number) 0 r.cache ++ things_at (mutex_things r.number) 0 r.mutexes.there ++ things_at (task_things r.number) 0 r.tasks
    ++ all_standing r.number s.threads ++ things_at (waiting_things r.number) 0 r.inbox in
    let all : Alike code (leaving r.outbox) (leaving xs ++ leaving ys) = subst (λ zs. Alike code (leaving zs) (leaving xs ++ leaving ys)) (halves n r.outbox) (left_over 0 xs ys) in
    chain (beside (itself l) all) (chain (joined l (leaving xs) (leaving ys)) (exchanged (l ++ leaving xs) (leaving ys)))

-- a server that is there, in a list where another state of it stands
pub replaced : {code : List Instr} (n : ℕ) (ss : List Server) (s x y : Server) (h : List Thing) → server_at ss n ≡ Some s → Alike code (server_things x) (h ++ server_things y) → Alike code (servers_things (with_server ss n x)) (h ++ servers_things (with_server ss n y))
replaced n [] s x y h e a = absurd cc
replaced {code = code} n (z ∷ ss) s x y h e a = by (z.rest.number == n) e (λ g. replaced n ss s x y h g a)
  where
    by : (b : Bool) → (if b then Some z else server_at ss n) ≡ Some s → (server_at ss n ≡ Some s → Alike code (servers_things (with_server ss n x)) (h ++ servers_things (with_server ss n y)))
        → Alike code (servers_things (if b then x ∷ ss else z ∷ with_server ss n x)) (h ++ servers_things (if b then y ∷ ss else z ∷ with_server ss n y))
    by true f go = chain (beside a (itself (servers_things ss))) (turned (joined h (server_things y) (servers_things ss)))
    by false f go = chain (beside (itself (server_things z)) (go f)) (in_front (server_things z) h (servers_things (with_server ss n y)))

pub handed_over : {code : List Instr} (n older : ℕ) (s new : Server) (ss : List Server) → server_at ss n ≡ Some s → GoTo (with_server ss n (with_outbox (take older new.rest.outbox) new)) (drop older new.rest.outbox)
    → Alike code (servers_things (with_server ss n new)) (servers_things (hand_over_newer n older new ss))
handed_over n older s new ss e g =
    let kept = with_outbox (take older new.rest.outbox) new in
    chain (replaced n ss s new kept (leaving (drop older new.rest.outbox)) e (outbox_out older new)) (accepts_all (with_server ss n kept) (drop older new.rest.outbox) g)
