-- Messages go to the servers that they are for, requests to other ones, and the options stay.
use Rattle.std.proofs.Common.{◌≡◌, ◌⊎◌, inl, inr, ℕ, ◌+◌, ◌*◌, ◌/◌, ◌%◌, ◌^◌, ◌<◌, ◌==◌, ◌&&◌, nat_lt, Bool, true, false, if◌then◌else◌, List, [], ◌∷◌, ◌++◌, length, drop, Some, IsSome, refl, sym, ap, subst, ◌∙◌, arith}
use Rattle.std.specs.Prelude.{is_some}
use Rattle.std.specs.List.{AllByRecursion}
use Rattle.std.specs.Bool.{⊤}
use Rattle.std.proofs.lemmas.Bool.{eq-eqb}
use Rattle.std.proofs.lemmas.Bool.Decides.{nat_tests}
use Rattle.law_counts_sums.proofs.Below.fr_typing.PlaceLemmas.{eq_cases}
use Rattle.law_counts_sums.specs.Below.thread_state.View.{ThreadState}
use Rattle.law_counts_sums.specs.Below.server_msgs.declared.message.Message.{Message}
use Rattle.law_counts_sums.specs.Below.journal.View.{EntryView}
use Rattle.law_counts_sums.specs.Below.server_model.declared.event.Event.{Event}
use Rattle.law_counts_sums.specs.Below.server_model.Servers.{Sent, Rest, Server, Cluster, server_at}
use Rattle.law_counts_sums.specs.Below.server_model.Events.{enabled}
use Rattle.law_counts_sums.specs.Below.server_model.Start.{next_thread, server_for}
use Rattle.law_counts_sums.specs.Below.server_model.Clusters.{with_server, done_at, act_at, apply}
use Rattle.law_counts_sums.specs.Below.coherent_memory.Names.{tot, one, other}
use Rattle.law_counts_sums.specs.Below.coherent_memory.Things.{Thing, sent, server_things, things_of}
use Rattle.law_counts_sums.specs.Below.coherent_memory.Sight.{Sight, sight}
use Rattle.law_counts_sums.specs.Below.coherent_memory.Requests.{home_of, goal, is_goal, misrouted}
use Rattle.law_counts_sums.specs.Below.coherent_memory.Sharing.{other_home}
use Rattle.law_counts_sums.specs.Below.coherent_memory.Naming.{options_out, servers_wrong, pinned_parcel}
use Rattle.law_counts_sums.specs.Below.coherent_memory.Walking.{asks_itself, own_request, sum_threads}
use Rattle.law_counts_sums.specs.Below.coherent_memory.Coherent.{IsSound, asks_others, go_right, options_in_range}
use Rattle.law_counts_sums.proofs.Below.coherent_memory.Names.{left_none}
use Rattle.law_counts_sums.specs.Laws.{Gives, GoTo, FewEvents, EachEventHandedOver}
use Rattle.law_counts_sums.proofs.Results.{then_gives, map_gives, over_gives, test_gives, weaker, both_give}
use Rattle.law_counts_sums.proofs.Known.{all_append}
use Rattle.law_counts_sums.proofs.Each.{names_left}
use Rattle.law_counts_sums.proofs.Events.{tot-server}
use Rattle.law_counts_sums.proofs.Applied.{handed_on}
use Rattle.law_counts_sums.proofs.Sending.{each_event_sends}
use Rattle.law_counts_things.specs.things.Laws.{EachEventKeeps}
use Rattle.law_counts_things.proofs.things.Mail.{Mailed, Replies, Requests}
use Rattle.law_counts_things.proofs.things.Handed.{known}
use Rattle.law_counts_things.proofs.things.Messages.{Letters, posts, on_sent, Light, letters_from, letters_to, MessagesKeep, messages_keep}
use Rattle.law_counts_sums.specs.Below.fr_base.declared.instruction.Instr.{Instr}

-- A LIGHTER WEIGHT

lighter : (f h : Thing → ℕ) → ((x : Thing) → h x ≡ 0 → f x ≡ 0) → (b : List Thing) → tot h b ≡ 0 → tot f b ≡ 0
lighter f h go [] z = refl
lighter f h go (x ∷ b) z = omega (arith, go x (omega (arith, z)), lighter f h go b (omega (arith, z)))

-- REQUESTS FOR OBJECTS GO ELSEWHERE

abbrev itself : ℕ → ℕ → Message → ℕ
itself n r m = asks_itself m

own_seen : (x : Thing) → own_request x ≡ 0 → on_sent (itself 0) x ≡ 0
own_seen (sent r m) z = z
own_seen _ z = refl

seen_own : (x : Thing) → on_sent (itself 0) x ≡ 0 → own_request x ≡ 0
seen_own (sent r m) z = z
seen_own _ z = refl

plain_answers : Replies (Light (itself 0))
plain_answers = record { fetched = λ s w c t. refl; moved = λ s w c t. refl; granted = λ s m v t. refl; dupped = λ s m t. refl; joined = λ s u v t. refl; drop = λ w o. refl; release = λ m. refl; let_go = λ u. refl }

asking : MessagesKeep itself
asking = record {
  before = λ k sound. lighter (on_sent (itself 0)) own_request own_seen (things_of k) sound.walks.asks_others;
  letters = λ k number s sound few here. record {
    replies = plain_answers;
    requests = λ t y i there e. record { replies = plain_answers; fetch = λ p e. ap one e; move = λ p e. ap one e; lock = λ m. refl; dup = λ m. refl; unlock = λ m v. refl; join = λ u. refl; finished = λ o e v. refl };
    begins = λ t y i there e pc vs r at d c. refl;
    leaves = λ t target y there. refl;
  };
}

pub asks_others_kept : EachEventKeeps asks_others
asks_others_kept k e sound few =
    weaker (λ (d : Cluster × EntryView). tot (on_sent (itself d.0.options.servers)) (things_of d.0) ≡ 0) (λ (d : Cluster × EntryView). tot own_request (things_of d.0) ≡ 0) (apply k e)
    (messages_keep itself asking k e sound few) (λ d z. lighter own_request (on_sent (itself 0)) seen_own (things_of d.0) z)

-- THE GOALS OF MESSAGES

abbrev off_goal : ℕ → ℕ → Message → ℕ
off_goal n r m = other (is_goal r (goal n m))

own_goal : (n : ℕ) → other (n == n) ≡ 0
own_goal n = ap other (eq-eqb n n refl)

right_answers : (n : ℕ) → Replies (Light (off_goal n))
right_answers n = record {
  fetched = λ s w c t. refl;
  moved = λ s w c t. refl;
  granted = λ s m v t. refl;
  dupped = λ s m t. refl;
  joined = λ s u v t. refl;
  drop = λ w o. own_goal _;
  release = λ m. own_goal m.home;
  let_go = λ u. own_goal (home_of u);
}

-- the number of a thread tells its home and its count
started_at : (n servers c number : ℕ) → c < 2 ^ 32 → number ≡ n * 2 ^ 32 + c → (number / 2 ^ 32 + number % 2 ^ 32) % servers ≡ (n + c) % servers
started_at n servers c number l e =
    let home : number / 2 ^ 32 ≡ n = omega (arith, l, e) in
    let count : number % 2 ^ 32 ≡ c = omega (arith, l, e) in
    subst (λ x. (x + number % 2 ^ 32) % servers ≡ (n + c) % servers) (sym home) (subst (λ x. (n + x) % servers ≡ (n + c) % servers) (sym count) refl)

few_started : (r r0 : Rest) → r0.started + 2 < 2 ^ 32 → (r.started ≡ r0.started) ⊎ (r.started ≡ r0.started + 1) → r.started + 1 < 2 ^ 32
few_started r r0 l (inl e) = omega (arith, l, e)
few_started r r0 l (inr e) = omega (arith, l, e)

starts_right : (servers : ℕ) (r : Rest) → r.started + 1 < 2 ^ 32 → other ((next_thread r / 2 ^ 32 + next_thread r % 2 ^ 32) % servers == server_for servers r) ≡ 0
starts_right servers r l =
    let e : (next_thread r / 2 ^ 32 + next_thread r % 2 ^ 32) % servers ≡ server_for servers r = started_at r.number servers (r.started + 1) (next_thread r) l refl in
    subst (λ x. other (x == server_for servers r) ≡ 0) (sym e) (own_goal (server_for servers r))

right_requests : (servers : ℕ) (n : ℕ) (y : ThreadState) (i : Instr) → y.home ≡ home_of y.number → Requests (Light (off_goal servers)) n y i
right_requests servers n y i home = record {
  replies = right_answers servers;
  fetch = λ p e. own_goal _;
  move = λ p e. own_goal _;
  lock = λ m. own_goal m.home;
  dup = λ m. own_goal m.home;
  unlock = λ m v. own_goal m.home;
  join = λ u. own_goal (home_of u);
  finished = λ o e v. subst (λ x. other (home_of y.number == x) ≡ 0) (sym home) (own_goal (home_of y.number));
}

both_there : (a b : Bool) → other (a && b) ≡ 0 → (other a ≡ 0) × (other b ≡ 0)
both_there true true z = (refl, refl)
both_there true false z = absurd (cc z)
both_there false b z = absurd (cc z)

both_hold : (a b : Bool) → other a ≡ 0 → other b ≡ 0 → other (a && b) ≡ 0
both_hold true true x z = refl
both_hold true false x z = absurd (cc z)
both_hold false b x z = absurd (cc x)

goal_seen : (q : Sight) (x : Thing) → misrouted q x ≡ 0 → on_sent (off_goal q.options.servers) x ≡ 0
goal_seen q (sent r m) z = (both_there (nat_lt r q.options.servers) (is_goal r (goal q.options.servers m)) z).1
goal_seen q _ z = refl

same_home : (a b : ℕ) → other (a == b) ≡ 0 → a ≡ b
same_home a b z = by (a == b) refl z
  where
    by : (c : Bool) → (a == b) ≡ c → other c ≡ 0 → a ≡ b
    by true e z = grind (arith, nat_tests, e)
    by false e z = absurd (cc z)

goals : MessagesKeep off_goal
goals = record {
  before = λ k sound. lighter (on_sent (off_goal k.options.servers)) (misrouted (sight k)) (goal_seen (sight k)) (things_of k) sound.requests.go_right;
  letters = λ k number s sound few here. record {
    replies = right_answers k.options.servers;
    requests = λ t y i there e. right_requests k.options.servers s.rest.number y i (same_home y.home (home_of y.number) (known k sound number s here t y there other_home sound.mutexes_and_tasks.thread_homes));
    begins = λ t y i there e pc vs r at d c. starts_right k.options.servers r (few_started r s.rest (names_left k sound.names.few_names few number s here) c);
    leaves = λ t target y there. refl;
  };
}

-- SERVERS OF THE RUN

abbrev beyond : ℕ → ℕ → Message → ℕ
beyond n r m = other (nat_lt r n)

beyond_seen : (q : Sight) (x : Thing) → misrouted q x ≡ 0 → on_sent (beyond q.options.servers) x ≡ 0
beyond_seen q (sent r m) z = (both_there (nat_lt r q.options.servers) (is_goal r (goal q.options.servers m)) z).0
beyond_seen q _ z = refl

other_none : (b : Bool) → other b ≡ 0 → b ≡ true
other_none true z = refl
other_none false z = absurd (cc z)

reaches : (q : Sight) (m : ℕ) (ss : List Server) → servers_wrong q m ss ≡ 0 → m + length ss ≡ q.options.servers
reaches q m [] z = grind (arith, nat_tests, other_none (m == q.options.servers) z)
reaches q m (x ∷ ss) z = omega (arith, reaches q (m + 1) ss (omega (arith, z)))

-- a server that is there has a number of the run
there_below : (q : Sight) (m t : ℕ) (ss : List Server) → servers_wrong q m ss ≡ 0 → IsSome (server_at ss t) → t < q.options.servers
there_below q m t [] z h = absurd (cc h)
there_below q m t (x ∷ ss) z h =
    let few = reaches q m (x ∷ ss) z in
    let numbered : x.rest.number ≡ m = grind (arith, nat_tests, other_none (x.rest.number == m) (omega (arith, z))) in
    eq_cases (λ b. IsSome (if b then Some x else server_at ss t) → t < q.options.servers) x.rest.number t (λ e d. omega (arith, e, numbered, few)) (λ ne d. there_below q (m + 1) t ss (omega (arith, z)) d) h

there_before : (ss : List Server) (n : ℕ) (new : Server) (t : ℕ) → new.rest.number ≡ n → IsSome (server_at (with_server ss n new) t) → IsSome (server_at ss t)
there_before [] n new t e h = absurd (cc h)
there_before (x ∷ ss) n new t e h =
    eq_cases (λ b. IsSome (server_at (if b then new ∷ ss else x ∷ with_server ss n new) t) → IsSome (server_at (x ∷ ss) t)) x.rest.number n
    (λ q g. eq_cases (λ b. IsSome (if b then Some x else server_at ss t)) x.rest.number t (λ a. refl)
    (λ ne. eq_cases (λ b. IsSome (if b then Some new else server_at ss t) → IsSome (server_at ss t)) new.rest.number t (λ a d. absurd (ne (q ∙ sym e ∙ a))) (λ a d. d) g))
    (λ ne g. eq_cases (λ b. IsSome (if b then Some x else server_at (with_server ss n new) t) → IsSome (if b then Some x else server_at ss t)) x.rest.number t (λ a d. refl) (λ a d. there_before ss n new t e d) g) h

newer : (xs ys : List Sent) → drop (length xs) (xs ++ ys) ≡ ys
newer [] ys = refl
newer (x ∷ xs) ys = newer xs ys

nothing_said : (code : List Instr) (servers : ℕ) (s : Server) → Letters code servers s (λ r m. ⊤)
nothing_said code servers s = record {
  replies = anything;
  requests = λ t y i there e. record { replies = anything; fetch = λ p e. tt; move = λ p e. tt; lock = λ m. tt; dup = λ m. tt; unlock = λ m v. tt; join = λ u. tt; finished = λ o e v. tt };
  begins = λ t y i there e pc vs r at d c. tt;
  leaves = λ t target y there. tt;
}
  where
    anything : Replies (λ r m. ⊤)
    anything = record { fetched = λ s w c t. tt; moved = λ s w c t. tt; granted = λ s m v t. tt; dupped = λ s m t. tt; joined = λ s u v t. tt; drop = λ w o. tt; release = λ m. tt; let_go = λ u. tt }

all_true : {X : Type 0} (xs : List X) → AllByRecursion (λ (x : X). ⊤) xs
all_true [] = tt
all_true (x ∷ xs) = (tt, all_true xs)

module _ (n : ℕ) where
  here_light : (r : ℕ) → r < n → (ms : List Message) → AllByRecursion (Light (beyond n) r) ms
  here_light r l [] = tt
  here_light r l (m ∷ ms) = (ap other (by (nat_lt r n) refl), here_light r l ms)
    where
      by : (b : Bool) → nat_lt r n ≡ b → b ≡ true
      by true e = refl
      by false e = absurd (grind (arith, nat_tests, e, l))

  light_below : (r : ℕ) (m : Message) → r < n → Light (beyond n) r m
  light_below r m l = let all : AllByRecursion (Light (beyond n) r) (m ∷ []) = here_light r l (m ∷ []) in all.0

  sent_light : (xs : List Sent) → AllByRecursion (λ (x : Sent). x.target < n) xs → AllByRecursion (λ (x : Sent). Light (beyond n) x.target x.message) xs
  sent_light [] a = tt
  sent_light (x ∷ xs) a = (light_below x.target x.message a.0, sent_light xs a.1)

go_below : (q : Sight) (ss : List Server) (n : ℕ) (new : Server) → servers_wrong q 0 ss ≡ 0 → new.rest.number ≡ n → (xs : List Sent) → GoTo (with_server ss n new) xs → AllByRecursion (λ (x : Sent). x.target < q.options.servers) xs
go_below q ss n new z e [] g = tt
go_below q ss n new z e (x ∷ xs) g = (there_below q 0 x.target ss z (there_before ss n new x.target e g.0), go_below q ss n new z e xs g.1)

server_number : (ss : List Server) (n : ℕ) (s : Server) → server_at ss n ≡ Some s → s.rest.number ≡ n
server_number [] n s h = absurd (cc h)
server_number (x ∷ ss) n s h =
    eq_cases (λ b. (if b then Some x else server_at ss n) ≡ Some s → s.rest.number ≡ n) x.rest.number n
    (λ e g. let same : x ≡ s = cc in subst (λ (y : Server). y.rest.number ≡ n) same e) (λ ne g. server_number ss n s g) h

abbrev Within : Cluster → Type 0
Within c = tot (on_sent (beyond c.options.servers)) (things_of c) ≡ 0

within_acted : (k : Cluster) (e : Event) → IsSound k → FewEvents k → Gives (λ (d : Cluster × EntryView). Within d.0) (act_at k e)
within_acted k e sound few =
    let n = k.options.servers in
    let f = on_sent (beyond n) in
    let all : tot f (things_of k) ≡ 0 = lighter f (misrouted (sight k)) (beyond_seen (sight k)) (things_of k) sound.requests.go_right in
    let run : servers_wrong (sight k) 0 k.servers ≡ 0 = left_none (servers_wrong (sight k) 0 k.servers) (sum_threads (sight k) pinned_parcel) sound.parts.parts_are_typed in
    then_gives (λ (d : Cluster × EntryView). Within d.0) (server_at k.servers e.server) _ (λ s here.
    let old = s.rest.outbox in
    let before : tot f (server_things s) ≡ 0 = omega (arith, all, (tot-server f k.servers e.server s s here).0) in
    let mine = letters_from (beyond n) s before in
    let start : Mailed (λ r m. ⊤) s.rest.number old s.rest = record { numbered = refl; waiting = all_true s.rest.inbox; leaving = all_true s.rest.outbox; more = mine.more; appended = mine.appended } in
    over_gives
    (λ (r : Server × EntryView). Mailed (λ x m. ⊤) s.rest.number old r.0.rest × GoTo (with_server k.servers e.server r.0) (drop (length old) r.0.rest.outbox)) (λ (d : Cluster × EntryView). Within d.0) (done_at k e.what s) _
    (both_give (λ (r : Server × EntryView). Mailed (λ x m. ⊤) s.rest.number old r.0.rest) (λ (r : Server × EntryView). GoTo (with_server k.servers e.server r.0) (drop (length old) r.0.rest.outbox)) _ (done_at k e.what s)
    (test_gives (λ (r : Server × EntryView). Mailed (λ x m. ⊤) s.rest.number old r.0.rest) (enabled k.options s e.what) _ (λ on. posts k.code k.options s (λ x m. ⊤) (nothing_said k.code n s) start e.what on))
    (each_event_sends k e sound few s here) (λ r a b. (a, b)))
    (λ r u.
    let mail : Mailed (λ x m. ⊤) s.rest.number old r.0.rest = u.0 in
    let number : r.0.rest.number ≡ e.server = mail.numbered ∙ server_number k.servers e.server s here in
    let own : r.0.rest.number < n = subst (λ x. x < n) (sym number) (there_below (sight k) 0 e.server k.servers run (ap is_some here)) in
    let go : GoTo (with_server k.servers e.server r.0) mail.more = subst (GoTo (with_server k.servers e.server r.0)) (ap (drop (length old)) mail.appended ∙ newer old mail.more) u.1 in
    let new = sent_light n mail.more (go_below (sight k) k.servers e.server r.0 run number mail.more go) in
    let out = subst (AllByRecursion (λ (x : Sent). Light (beyond n) x.target x.message)) (sym mail.appended) (all_append (λ (x : Sent). Light (beyond n) x.target x.message) old mail.more mine.leaving new) in
    omega (arith, all, (tot-server f k.servers e.server s r.0 here).0, (tot-server f k.servers e.server s r.0 here).1, letters_to (beyond n) r.0 (here_light n r.0.rest.number own r.0.rest.inbox) out)))

within_kept : EachEventHandedOver Within
within_kept k e sound few = handed_on Within (λ c a b same z. omega (arith, z, same (on_sent (beyond c.options.servers)))) k e (each_event_sends k e sound few) (within_acted k e sound few)

-- a message goes right where its goal and its server are right
both_right : (q : Sight) (b : List Thing) → tot (on_sent (off_goal q.options.servers)) b ≡ 0 → tot (on_sent (beyond q.options.servers)) b ≡ 0 → tot (misrouted q) b ≡ 0
both_right q [] x z = refl
both_right q (sent r m ∷ b) x z =
    omega (arith, both_hold (nat_lt r q.options.servers) (is_goal r (goal q.options.servers m)) (omega (arith, z)) (omega (arith, x)), both_right q b (omega (arith, x)) (omega (arith, z)))
both_right q (_ ∷ b) x z = omega (arith, both_right q b (omega (arith, x)) (omega (arith, z)))

pub goes_right_kept : EachEventKeeps go_right
goes_right_kept k e sound few =
    both_give (λ (d : Cluster × EntryView). tot (on_sent (off_goal d.0.options.servers)) (things_of d.0) ≡ 0) (λ (d : Cluster × EntryView). Within d.0) (λ (d : Cluster × EntryView). tot (misrouted (sight d.0)) (things_of d.0) ≡ 0) (apply k e)
    (messages_keep off_goal goals k e sound few) (within_kept k e sound few) (λ d x z. both_right (sight d.0) (things_of d.0) x z)

-- OPTIONS

pub options_kept : EachEventKeeps options_in_range
options_kept k e sound few =
    then_gives (λ (d : Cluster × EntryView). options_out d.0.options ≡ 0) (server_at k.servers e.server) _ (λ s here.
    map_gives (λ (d : Cluster × EntryView). options_out d.0.options ≡ 0) (done_at k e.what s) _ (λ r q. sound.parts.options_in_range))
