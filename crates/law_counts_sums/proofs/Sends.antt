-- What an event puts into its server's outbox goes to servers that are there.
use Rattle.std.proofs.Common.{◌≡◌, ℕ, ◌==◌, Bool, true, false, if◌then◌else◌, List, [], ◌∷◌, ◌++◌, length, drop, Some, IsSome, refl, sym, ap, subst, ◌∙◌, append-nil, append_assoc}
use Rattle.coherent_memory.proofs.Below.fr_typing.PlaceLemmas.{eq_cases}
use Rattle.coherent_memory.specs.Below.server_msgs.declared.message.Message.{Message}
use Rattle.coherent_memory.specs.Below.server_model.Servers.{Sent, Rest, Server, server_at}
use Rattle.coherent_memory.specs.Below.server_model.Work.{sent_from}
use Rattle.coherent_memory.specs.Below.server_model.Clusters.{with_server}
use Rattle.law_counts_sums.specs.Laws.{GoTo}

-- a server after an event: its number, and what it has put into its outbox, all of it to servers that are there
pub record Adds (ss : List Server) (r : Rest) (number : ℕ) (outbox : List Sent) : Type 0 where
  pub same : number ≡ r.number
  pub more : List Sent
  pub all : outbox ≡ r.outbox ++ more
  pub go : GoTo ss more

-- since that rest
abbrev pub Sends : List Server → Rest → Rest → Type 0
Sends ss r r2 = Adds ss r r2.number r2.outbox

pub sends_none : (ss : List Server) (r : Rest) → Sends ss r r
sends_none ss r = record { same = refl; more = []; all = sym (append-nil r.outbox); go = tt }

all_go : (ss : List Server) (xs ys : List Sent) → GoTo ss xs → GoTo ss ys → GoTo ss (xs ++ ys)
all_go ss [] ys a b = b
all_go ss (x ∷ xs) ys a b = (a.0, all_go ss xs ys a.1 b)

-- one message more
pub sends_more : (ss : List Server) (r r1 : Rest) (t : ℕ) (m : Message) → IsSome (server_at ss t) → Sends ss r r1 → Sends ss r (sent_from r1 t m)
sends_more ss r r1 t m there a = by (t == r1.number)
  where
    by : (b : Bool) → Sends ss r (if b then record r1 { inbox = r1.inbox ++ m ∷ [] } else record r1 { outbox = r1.outbox ++ record { target = t; message = m } ∷ [] })
    by true = a
    by false = record {
      same = a.same;
      more = a.more ++ record { target = t; message = m } ∷ [];
      all = ap (λ l. l ++ record { target = t; message = m } ∷ []) a.all ∙ append_assoc r.outbox a.more (record { target = t; message = m } ∷ []);
      go = all_go ss a.more (record { target = t; message = m } ∷ []) a.go (there, tt);
    }

-- AT THE END OF THE EVENT

newer : (xs ys : List Sent) → drop (length xs) (xs ++ ys) ≡ ys
newer [] ys = refl
newer (x ∷ xs) ys = newer xs ys

server_number : (ss : List Server) (n : ℕ) (s : Server) → server_at ss n ≡ Some s → s.rest.number ≡ n
server_number [] n s h = absurd (cc h)
server_number (x ∷ ss) n s h =
    eq_cases (λ b. (if b then Some x else server_at ss n) ≡ Some s → s.rest.number ≡ n) x.rest.number n
    (λ e g. let same : x ≡ s = cc in subst (λ (y : Server). y.rest.number ≡ n) same e) (λ ne g. server_number ss n s g) h

there_after : (ss : List Server) (n : ℕ) (new : Server) → new.rest.number ≡ n → (t : ℕ) → IsSome (server_at ss t) → IsSome (server_at (with_server ss n new) t)
there_after [] n new e t h = h
there_after (x ∷ ss) n new e t h =
    eq_cases (λ b. IsSome (server_at (if b then new ∷ ss else x ∷ with_server ss n new) t)) x.rest.number n
    (λ q. eq_cases (λ b. IsSome (if b then Some new else server_at ss t)) new.rest.number t (λ a. refl)
    (λ ne. eq_cases (λ b. IsSome (if b then Some x else server_at ss t) → IsSome (server_at ss t)) x.rest.number t (λ a g. absurd (ne (e ∙ sym q ∙ a))) (λ a g. g) h))
    (λ ne. eq_cases (λ b. IsSome (if b then Some x else server_at ss t) → IsSome (if b then Some x else server_at (with_server ss n new) t)) x.rest.number t (λ a g. refl) (λ a g. there_after ss n new e t g) h)

all_after : (ss : List Server) (n : ℕ) (new : Server) → new.rest.number ≡ n → (xs : List Sent) → GoTo ss xs → GoTo (with_server ss n new) xs
all_after ss n new e [] g = tt
all_after ss n new e (x ∷ xs) g = (there_after ss n new e x.target g.0, all_after ss n new e xs g.1)

pub goes_after : (ss : List Server) (n : ℕ) (s new : Server) → server_at ss n ≡ Some s → Sends ss s.rest new.rest → GoTo (with_server ss n new) (drop (length s.rest.outbox) new.rest.outbox)
goes_after ss n s new h a =
    let e : drop (length s.rest.outbox) new.rest.outbox ≡ a.more = ap (drop (length s.rest.outbox)) a.all ∙ newer s.rest.outbox a.more in
    subst (GoTo (with_server ss n new)) (sym e) (all_after ss n new (a.same ∙ server_number ss n s h) a.more a.go)
