-- Servers by rising number: which one an event finds, and what each gets when messages are handed over.
use Rattle.std.proofs.Common.{◌≡◌, ℕ, suc, ◌<◌, ◌≤◌, ◌==◌, Bool, true, false, if◌then◌else◌, List, [], ◌∷◌, ◌++◌, Some, refl, sym, ap, ◌∙◌, arith, append_assoc, append-nil}
use Rattle.std.specs.Prelude.{⊤}
use Rattle.law_runs_whole.proofs.Below.fr_typing.PlaceLemmas.{eq_cases}
use Rattle.law_runs_whole.specs.Below.server_model.Servers.{Sent, Server, server_at}
use Rattle.law_runs_whole.specs.Below.server_model.Clusters.{with_server, accept, accept_at, accept_all, outboxes, emptied}
use Rattle.law_runs_whole.specs.Below.server_model.Laws.{messages_to, with_waiting}

-- each has its number, from this one on
abbrev pub AreFrom : ℕ → List Server → Type 0
AreFrom n [] = ⊤
AreFrom n (s ∷ ss) = (s.rest.number ≡ n) × AreFrom (suc n) ss

pub from_front : (n : ℕ) (ss zs : List Server) → AreFrom n (ss ++ zs) → AreFrom n ss
from_front n [] zs a = tt
from_front n (s ∷ ss) zs a = (a.0, from_front (suc n) ss zs a.1)

-- FINDING ONE

-- a server behind others has no smaller number
not_less : (n : ℕ) (ss : List Server) (z : Server) (zs : List Server) → AreFrom n (ss ++ z ∷ zs) → n ≤ z.rest.number
not_less n [] z zs a = omega (arith, a.0)
not_less n (s ∷ ss) z zs a = let more = not_less (suc n) ss z zs a.1 in omega (arith, more)

pub found_there : (n : ℕ) (ss : List Server) (z : Server) (zs : List Server) → AreFrom n (ss ++ z ∷ zs) → server_at (ss ++ z ∷ zs) z.rest.number ≡ Some z
found_there n [] z zs a = eq_cases (λ b. (if b then Some z else server_at zs z.rest.number) ≡ Some z) z.rest.number z.rest.number (λ e. refl) (λ ne. absurd (ne refl))
found_there n (s ∷ ss) z zs a =
    eq_cases (λ b. (if b then Some s else server_at (ss ++ z ∷ zs) z.rest.number) ≡ Some z) s.rest.number z.rest.number
    (λ e. let more = not_less (suc n) ss z zs a.1 in absurd (omega (arith, more, a.0, e))) (λ ne. found_there (suc n) ss z zs a.1)

pub changed_there : (n : ℕ) (ss : List Server) (z : Server) (zs : List Server) (new : Server) → AreFrom n (ss ++ z ∷ zs) → with_server (ss ++ z ∷ zs) z.rest.number new ≡ ss ++ new ∷ zs
changed_there n [] z zs new a = eq_cases (λ b. (if b then new ∷ zs else z ∷ with_server zs z.rest.number new) ≡ new ∷ zs) z.rest.number z.rest.number (λ e. refl) (λ ne. absurd (ne refl))
changed_there n (s ∷ ss) z zs new a =
    eq_cases (λ b. (if b then new ∷ ss ++ z ∷ zs else s ∷ with_server (ss ++ z ∷ zs) z.rest.number new) ≡ s ∷ ss ++ new ∷ zs) s.rest.number z.rest.number
    (λ e. let more = not_less (suc n) ss z zs a.1 in absurd (omega (arith, more, a.0, e))) (λ ne. ap (λ l. s ∷ l) (changed_there (suc n) ss z zs new a.1))

pub number_kept : (n : ℕ) (ss : List Server) (z new : Server) (zs : List Server) → new.rest.number ≡ z.rest.number → AreFrom n (ss ++ z ∷ zs) → AreFrom n (ss ++ new ∷ zs)
number_kept n [] z new zs e a = (e ∙ a.0, a.1)
number_kept n (s ∷ ss) z new zs e a = (a.0, number_kept (suc n) ss z new zs e a.1)

-- MESSAGES THAT COME

-- each server with those of the messages that go to it
abbrev pub all_waiting : List Sent → List Server → List Server
all_waiting xs [] = []
all_waiting xs (s ∷ ss) = with_waiting (messages_to s.rest.number xs) s ∷ all_waiting xs ss

pub waiting_append : (xs : List Sent) (ss zs : List Server) → all_waiting xs (ss ++ zs) ≡ all_waiting xs ss ++ all_waiting xs zs
waiting_append xs [] zs = refl
waiting_append xs (s ∷ ss) zs = ap (λ l. with_waiting (messages_to s.rest.number xs) s ∷ l) (waiting_append xs ss zs)

pub waiting_from : (n : ℕ) (xs : List Sent) (ss : List Server) → AreFrom n ss → AreFrom n (all_waiting xs ss)
waiting_from n xs [] a = tt
waiting_from n xs (s ∷ ss) a = (a.0, waiting_from (suc n) xs ss a.1)

none_waits : (s : Server) → s ≡ with_waiting [] s
none_waits s = ap (λ l. record s { rest = record s.rest { inbox = l } }) (sym (append-nil s.rest.inbox))

pub none_come : (ss : List Server) → all_waiting [] ss ≡ ss
none_come [] = refl
none_come (s ∷ ss) = ap (λ z. z ∷ all_waiting [] ss) (sym (none_waits s)) ∙ ap (λ l. s ∷ l) (none_come ss)

-- a message to a server of a smaller number comes to none of them
elsewhere : (n : ℕ) (x : Sent) (ss : List Server) → x.target < n → AreFrom n ss → all_waiting (x ∷ []) ss ≡ ss
elsewhere n x [] l a = refl
elsewhere n x (s ∷ ss) l a =
    eq_cases (λ b. with_waiting (if b then x.message ∷ [] else []) s ∷ all_waiting (x ∷ []) ss ≡ s ∷ ss) x.target s.rest.number
    (λ e. let at = a.0 in absurd (omega (arith, l, e, at)))
    (λ ne. ap (λ z. z ∷ all_waiting (x ∷ []) ss) (sym (none_waits s)) ∙ ap (λ r. s ∷ r) (elsewhere (suc n) x ss (omega (arith, l)) a.1))

one_comes : (n : ℕ) (x : Sent) (ss : List Server) → AreFrom n ss → accept_at ss x ≡ all_waiting (x ∷ []) ss
one_comes n x [] a = refl
one_comes n x (s ∷ ss) a =
    eq_cases (λ b. (if b then accept x.message s ∷ ss else s ∷ accept_at ss x) ≡ with_waiting (messages_to s.rest.number (x ∷ [])) s ∷ all_waiting (x ∷ []) ss) s.rest.number x.target
    (λ e. eq_cases (λ b. accept x.message s ∷ ss ≡ with_waiting (if b then x.message ∷ [] else []) s ∷ all_waiting (x ∷ []) ss) x.target s.rest.number
    (λ _. ap (λ l. accept x.message s ∷ l) (sym (elsewhere (suc n) x ss (let at = a.0 in omega (arith, at, e)) a.1))) (λ ne. absurd (ne (sym e))))
    (λ ne. eq_cases (λ b. s ∷ accept_at ss x ≡ with_waiting (if b then x.message ∷ [] else []) s ∷ all_waiting (x ∷ []) ss) x.target s.rest.number
    (λ e. absurd (ne (sym e))) (λ _. ap (λ l. s ∷ l) (one_comes (suc n) x ss a.1) ∙ ap (λ z. z ∷ all_waiting (x ∷ []) ss) (none_waits s)))

pub to_more : (n : ℕ) (xs ys : List Sent) → messages_to n (xs ++ ys) ≡ messages_to n xs ++ messages_to n ys
to_more n [] ys = refl
to_more n (x ∷ xs) ys = by (x.target == n) (to_more n xs ys)
  where
    by : (b : Bool) → messages_to n (xs ++ ys) ≡ messages_to n xs ++ messages_to n ys → (if b then x.message ∷ messages_to n (xs ++ ys) else messages_to n (xs ++ ys)) ≡ (if b then x.message ∷ messages_to n xs else messages_to n xs) ++ messages_to n ys
    by true go = ap (λ l. x.message ∷ l) go
    by false go = go

pub more_come : (xs ys : List Sent) (ss : List Server) → all_waiting ys (all_waiting xs ss) ≡ all_waiting (xs ++ ys) ss
more_come xs ys [] = refl
more_come xs ys (s ∷ ss) =
    let n = s.rest.number in
    let same : (s.rest.inbox ++ messages_to n xs) ++ messages_to n ys ≡ s.rest.inbox ++ messages_to n (xs ++ ys) = append_assoc s.rest.inbox (messages_to n xs) (messages_to n ys) ∙ ap (λ l. s.rest.inbox ++ l) (sym (to_more n xs ys)) in
    ap (λ l. record s { rest = record s.rest { inbox = l } } ∷ all_waiting ys (all_waiting xs ss)) same ∙ ap (λ l. with_waiting (messages_to n (xs ++ ys)) s ∷ l) (more_come xs ys ss)

pub all_come : (n : ℕ) (xs : List Sent) (ss : List Server) → AreFrom n ss → accept_all ss xs ≡ all_waiting xs ss
all_come n [] ss a = sym (none_come ss)
all_come n (x ∷ xs) ss a =
    let first = one_comes n x ss a in
    ap (λ l. accept_all l xs) first ∙ all_come n xs (all_waiting (x ∷ []) ss) (waiting_from n (x ∷ []) ss a) ∙ more_come (x ∷ []) xs ss

-- HANDING OVER

pub emptied_from : (n : ℕ) (ss : List Server) → AreFrom n ss → AreFrom n (emptied ss)
emptied_from n [] a = tt
emptied_from n (s ∷ ss) a = (a.0, emptied_from (suc n) ss a.1)

pub outboxes_more : (ss zs : List Server) → outboxes (ss ++ zs) ≡ outboxes ss ++ outboxes zs
outboxes_more [] zs = refl
outboxes_more (s ∷ ss) zs = ap (λ l. s.rest.outbox ++ l) (outboxes_more ss zs) ∙ sym (append_assoc s.rest.outbox (outboxes ss) (outboxes zs))

pub emptied_sent : (ss : List Server) → outboxes (emptied ss) ≡ []
emptied_sent [] = refl
emptied_sent (s ∷ ss) = emptied_sent ss

pub waiting_sent : (xs : List Sent) (ss : List Server) → outboxes (all_waiting xs ss) ≡ outboxes ss
waiting_sent xs [] = refl
waiting_sent xs (s ∷ ss) = ap (λ l. s.rest.outbox ++ l) (waiting_sent xs ss)
