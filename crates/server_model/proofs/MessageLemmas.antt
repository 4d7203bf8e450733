-- Messages that are sent, received and handed over.
use Rattle.std.proofs.Common.{◌≡◌, ℕ, zero, suc, ◌+◌, List, [], ◌∷◌, ◌++◌, Option, Some, None, refl, sym, ap, ◌∙◌, arith, true, append_assoc, append-nil}
use Rattle.std.specs.Prelude.{◌==◌, if◌then◌else◌, is_some, slice_get, option_map, remove}
use Rattle.fr_plain.proofs.Below.fr_typing.PlaceLemmas.{eq_cases}
use Rattle.server_msgs.specs.declared.message.Message.{Message}
use Rattle.server_model.specs.Servers.{Sent, Server, server_at}
use Rattle.server_model.specs.Clusters.{with_outbox, accept, accept_at, accept_all, outboxes, emptied}
use Rattle.server_model.specs.Laws.{sum_waiting, sum_sent, sum_at, sum_of, SendingToItself, SendingToOthers, SendingAdds, ReceivingTakes, AreRouted, HandingOverKeeps, messages_to, with_waiting, HandingOverDelivers}

-- SENDING

pub to_itself : SendingToItself
to_itself s m = eq_cases (λ b. (if b then record s { inbox = s.inbox ++ m ∷ [] } else record s { outbox = s.outbox ++ record { target = s.number; message = m } ∷ [] }) ≡ record s { inbox = s.inbox ++ m ∷ [] }) s.number s.number (λ _. refl) (λ ne. absurd (ne refl))

pub to_others : SendingToOthers
to_others s t m ne = eq_cases (λ b. (if b then record s { inbox = s.inbox ++ m ∷ [] } else record s { outbox = s.outbox ++ record { target = t; message = m } ∷ [] }) ≡ record s { outbox = s.outbox ++ record { target = t; message = m } ∷ [] }) t s.number (λ e. absurd (ne e)) (λ _. refl)

-- one message more at the end
waiting_push : (f : ℕ → Message → ℕ) (n : ℕ) (ms : List Message) (m : Message) → sum_waiting f n (ms ++ m ∷ []) ≡ sum_waiting f n ms + f n m
waiting_push f n [] m = omega arith
waiting_push f n (x ∷ xs) m = let rest = waiting_push f n xs m in omega (arith, rest)

sent_push : (f : ℕ → Message → ℕ) (xs : List Sent) (x : Sent) → sum_sent f (xs ++ x ∷ []) ≡ sum_sent f xs + f x.target x.message
sent_push f [] x = omega arith
sent_push f (y ∷ ys) x = let rest = sent_push f ys x in omega (arith, rest)

pub sending_adds : SendingAdds
sending_adds f s t m =
    eq_cases (λ b. sum_at f (if b then record s { inbox = s.inbox ++ m ∷ [] } else record s { outbox = s.outbox ++ record { target = t; message = m } ∷ [] }) ≡ sum_at f s + f t m) t s.number
    (λ e. let more = waiting_push f s.number s.inbox m in let same : f s.number m ≡ f t m = ap (λ n. f n m) (sym e) in omega (arith, more, same))
    (λ _. let more = sent_push f s.outbox (record { target = t; message = m }) in omega (arith, more))

-- RECEIVING

waiting_remove : (f : ℕ → Message → ℕ) (n : ℕ) (ms : List Message) (i : ℕ) (m : Message) → slice_get ms i ≡ Some m → sum_waiting f n (remove ms i) + f n m ≡ sum_waiting f n ms
waiting_remove f n [] i m h = cc
waiting_remove f n (x ∷ xs) zero m h = let same : x ≡ m = cc in let weight : f n x ≡ f n m = ap (f n) same in omega (arith, weight)
waiting_remove f n (x ∷ xs) (suc i) m h = let rest = waiting_remove f n xs i m h in omega (arith, rest)

pub receiving_takes : ReceivingTakes
receiving_takes f s i m h = let rest = waiting_remove f s.number s.inbox i m h in omega (arith, rest)

-- HANDING OVER

-- a message that is accepted changes no server's number
accepted_at : (ss : List Server) (x : Sent) (n : ℕ) → server_at (accept_at ss x) n ≡ option_map (λ s. if x.target == n then accept x.message s else s) (server_at ss n)
accepted_at [] x n = refl
accepted_at (s ∷ ss) x n =
    eq_cases (λ b. server_at (if b then accept x.message s ∷ ss else s ∷ accept_at ss x) n ≡ option_map (λ y. if x.target == n then accept x.message y else y) (if s.rest.number == n then Some s else server_at ss n)) s.rest.number x.target
    (λ e. eq_cases (λ b. (if b then Some (accept x.message s) else server_at ss n) ≡ option_map (λ y. if x.target == n then accept x.message y else y) (if b then Some s else server_at ss n)) s.rest.number n
    (λ here. eq_cases (λ b. Some (accept x.message s) ≡ Some (if b then accept x.message s else s)) x.target n (λ _. refl) (λ ne. absurd (ne (sym e ∙ here))))
    (λ off. eq_cases (λ b. server_at ss n ≡ option_map (λ y. if b then accept x.message y else y) (server_at ss n)) x.target n (λ t. absurd (off (e ∙ t))) (λ _. kept (server_at ss n))))
    (λ ne. eq_cases (λ b. (if b then Some s else server_at (accept_at ss x) n) ≡ option_map (λ y. if x.target == n then accept x.message y else y) (if b then Some s else server_at ss n)) s.rest.number n
    (λ here. eq_cases (λ b. Some s ≡ Some (if b then accept x.message s else s)) x.target n (λ t. absurd (ne (here ∙ sym t))) (λ _. refl))
    (λ _. accepted_at ss x n))
  where
    kept : (o : Option Server) → o ≡ option_map (λ y. y) o
    kept None = refl
    kept (Some y) = refl

none_added : (o : Option Server) → o ≡ option_map (with_waiting []) o
none_added None = refl
none_added (Some s) = ap (λ l. Some (record s { rest = record s.rest { inbox = l } })) (sym (append-nil s.rest.inbox))

all_accepted : (ss : List Server) (xs : List Sent) (n : ℕ) → server_at (accept_all ss xs) n ≡ option_map (with_waiting (messages_to n xs)) (server_at ss n)
all_accepted ss [] n = none_added (server_at ss n)
all_accepted ss (x ∷ xs) n =
    all_accepted (accept_at ss x) xs n ∙ ap (option_map (with_waiting (messages_to n xs))) (accepted_at ss x n) ∙ one_more (server_at ss n)
  where
    one_more : (o : Option Server) → option_map (with_waiting (messages_to n xs)) (option_map (λ s. if x.target == n then accept x.message s else s) o) ≡ option_map (with_waiting (messages_to n (x ∷ xs))) o
    one_more None = refl
    one_more (Some s) =
        eq_cases (λ b. Some (with_waiting (messages_to n xs) (if b then accept x.message s else s)) ≡ Some (with_waiting (if b then x.message ∷ messages_to n xs else messages_to n xs) s)) x.target n
        (λ _. ap (λ l. Some (record s { rest = record s.rest { inbox = l } })) (append_assoc s.rest.inbox (x.message ∷ []) (messages_to n xs)))
        (λ _. refl)

off_at : (ss : List Server) (n : ℕ) → server_at (emptied ss) n ≡ option_map (with_outbox []) (server_at ss n)
off_at [] n = refl
off_at (s ∷ ss) n =
    eq_cases (λ b. (if b then Some (with_outbox [] s) else server_at (emptied ss) n) ≡ option_map (with_outbox []) (if b then Some s else server_at ss n)) s.rest.number n (λ _. refl) (λ _. off_at ss n)

pub handing_delivers : HandingOverDelivers
handing_delivers k n =
    all_accepted (emptied k.servers) (outboxes k.servers) n ∙ ap (option_map (with_waiting (messages_to n (outboxes k.servers)))) (off_at k.servers n) ∙ both (server_at k.servers n)
  where
    both : (o : Option Server) → option_map (with_waiting (messages_to n (outboxes k.servers))) (option_map (with_outbox []) o) ≡ option_map (λ s. with_outbox [] (with_waiting (messages_to n (outboxes k.servers)) s)) o
    both None = refl
    both (Some s) = refl

-- SUMS

accepted_sum : (f : ℕ → Message → ℕ) (ss : List Server) (x : Sent) → is_some (server_at ss x.target) ≡ true → sum_of f (accept_at ss x) ≡ sum_of f ss + f x.target x.message
accepted_sum f [] x h = cc
accepted_sum f (s ∷ ss) x h =
    eq_cases (λ b. is_some (if b then Some s else server_at ss x.target) ≡ true → sum_of f (if b then accept x.message s ∷ ss else s ∷ accept_at ss x) ≡ sum_at f s.rest + sum_of f ss + f x.target x.message) s.rest.number x.target
    (λ e _. let more = waiting_push f s.rest.number s.rest.inbox x.message in let same : f s.rest.number x.message ≡ f x.target x.message = ap (λ n. f n x.message) e in omega (arith, more, same))
    (λ _ g. let rest = accepted_sum f ss x g in omega (arith, rest))
    h

map_some : (g : Server → Server) (o : Option Server) → is_some (option_map g o) ≡ is_some o
map_some g None = refl
map_some g (Some s) = refl

routed_after : (ss : List Server) (y : Sent) (xs : List Sent) → AreRouted ss xs → AreRouted (accept_at ss y) xs
routed_after ss y [] r = r
routed_after ss y (x ∷ xs) r =
    (ap is_some (accepted_at ss y x.target) ∙ map_some (λ s. if y.target == x.target then accept y.message s else s) (server_at ss x.target) ∙ r.0, routed_after ss y xs r.1)

routed_off : (ss : List Server) (xs : List Sent) → AreRouted ss xs → AreRouted (emptied ss) xs
routed_off ss [] r = r
routed_off ss (x ∷ xs) r = (ap is_some (off_at ss x.target) ∙ map_some (with_outbox []) (server_at ss x.target) ∙ r.0, routed_off ss xs r.1)

all_accepted_sum : (f : ℕ → Message → ℕ) (ss : List Server) (xs : List Sent) → AreRouted ss xs → sum_of f (accept_all ss xs) ≡ sum_of f ss + sum_sent f xs
all_accepted_sum f ss [] r = omega arith
all_accepted_sum f ss (x ∷ xs) r =
    let rest = all_accepted_sum f (accept_at ss x) xs (routed_after ss x xs r.1) in
    let one = accepted_sum f ss x r.0 in omega (arith, rest, one)

sent_append : (f : ℕ → Message → ℕ) (xs ys : List Sent) → sum_sent f (xs ++ ys) ≡ sum_sent f xs + sum_sent f ys
sent_append f [] ys = omega arith
sent_append f (x ∷ xs) ys = let rest = sent_append f xs ys in omega (arith, rest)

off_sum : (f : ℕ → Message → ℕ) (ss : List Server) → sum_of f (emptied ss) + sum_sent f (outboxes ss) ≡ sum_of f ss
off_sum f [] = refl
off_sum f (s ∷ ss) = let rest = off_sum f ss in let two = sent_append f s.rest.outbox (outboxes ss) in omega (arith, rest, two)

pub handing_keeps : HandingOverKeeps
handing_keeps f k r =
    let all = all_accepted_sum f (emptied k.servers) (outboxes k.servers) (routed_off k.servers (outboxes k.servers) r) in
    let off = off_sum f k.servers in omega (arith, all, off)
