-- No event leaves a message in an outbox.
use Rattle.std.proofs.Common.{◌≡◌, ℕ, zero, suc, ◌+◌, ◌==◌, Bool, true, false, if◌then◌else◌, List, [], ◌∷◌, ◌++◌, length, Some, refl, ap, subst, ◌∙◌}
use Rattle.std.specs.Prelude.{take, drop}
use Rattle.law_runs_whole.proofs.Below.fr_typing.PlaceLemmas.{eq_cases}
use Rattle.law_runs_whole.specs.Below.fr_base.declared.settings.Options.{Options}
use Rattle.law_runs_whole.specs.Below.journal.View.{EntryView}
use Rattle.law_runs_whole.specs.Below.server_model.Servers.{Sent, Server, Cluster, server_at, empty_servers, with_main}
use Rattle.law_runs_whole.specs.Below.server_model.Clusters.{with_server, with_outbox, accept, accept_at, accept_all, hand_over_newer, outboxes, done_at}
use Rattle.law_runs_whole.proofs.Below.law_counts_sums.Results.{then_gives, map_gives}
use Rattle.law_runs_whole.specs.going.Going.{OutboxesStayEmpty}

-- a message that comes leaves outboxes
accepted : (ss : List Server) (x : Sent) → outboxes (accept_at ss x) ≡ outboxes ss
accepted [] x = refl
accepted (s ∷ ss) x = by (s.rest.number == x.target) (accepted ss x)
  where
    by : (b : Bool) → outboxes (accept_at ss x) ≡ outboxes ss → outboxes (if b then accept x.message s ∷ ss else s ∷ accept_at ss x) ≡ outboxes (s ∷ ss)
    by true go = refl
    by false go = ap (λ xs. s.rest.outbox ++ xs) go

all_accepted : (xs : List Sent) (ss : List Server) → outboxes (accept_all ss xs) ≡ outboxes ss
all_accepted [] ss = refl
all_accepted (x ∷ xs) ss = all_accepted xs (accept_at ss x) ∙ accepted ss x

-- of two lists without an item neither has one
first_none : {X : Type 0} (xs ys : List X) → xs ++ ys ≡ [] → xs ≡ []
first_none [] ys e = refl
first_none (x ∷ xs) ys e = absurd (cc e)

second_none : {X : Type 0} (xs ys : List X) → xs ++ ys ≡ [] → ys ≡ []
second_none [] ys e = e
second_none (x ∷ xs) ys e = absurd (cc e)

-- a server with an empty outbox in place of one
with_empty : (ss : List Server) (n : ℕ) (new : Server) → new.rest.outbox ≡ [] → outboxes ss ≡ [] → outboxes (with_server ss n new) ≡ []
with_empty [] n new e z = refl
with_empty (s ∷ ss) n new e z = by (s.rest.number == n) (with_empty ss n new e (second_none s.rest.outbox (outboxes ss) z))
  where
    by : (b : Bool) → outboxes (with_server ss n new) ≡ [] → outboxes (if b then new ∷ ss else s ∷ with_server ss n new) ≡ []
    by true go = ap (λ xs. xs ++ outboxes ss) e ∙ second_none s.rest.outbox (outboxes ss) z
    by false go = ap (λ xs. xs ++ outboxes (with_server ss n new)) (first_none s.rest.outbox (outboxes ss) z) ∙ go

its_outbox : (ss : List Server) (n : ℕ) (s : Server) → outboxes ss ≡ [] → server_at ss n ≡ Some s → s.rest.outbox ≡ []
its_outbox [] n s z h = absurd (cc h)
its_outbox (x ∷ ss) n s z h =
    eq_cases (λ b. (if b then Some x else server_at ss n) ≡ Some s → s.rest.outbox ≡ []) x.rest.number n
    (λ same g. let it : x ≡ s = cc in subst (λ (y : Server). y.rest.outbox ≡ []) it (first_none x.rest.outbox (outboxes ss) z)) (λ ne g. its_outbox ss n s (second_none x.rest.outbox (outboxes ss) z) g) h

pub outboxes_stay_empty : OutboxesStayEmpty
outboxes_stay_empty k e z =
    then_gives (λ (d : Cluster × EntryView). outboxes d.0.servers ≡ []) (server_at k.servers e.server) _ (λ s here. map_gives (λ (d : Cluster × EntryView). outboxes d.0.servers ≡ []) (done_at k e.what s) _ (λ r q. after s here r.0))
  where
    after : (s : Server) → server_at k.servers e.server ≡ Some s → (new : Server) → outboxes (hand_over_newer e.server (length s.rest.outbox) new k.servers) ≡ []
    after s here new =
        let older = length s.rest.outbox in
        let kept = with_outbox (take older new.rest.outbox) new in
        let none : take older new.rest.outbox ≡ [] = ap (λ xs. take (length xs) new.rest.outbox) (its_outbox k.servers e.server s z here) in
        all_accepted (drop older new.rest.outbox) (with_server k.servers e.server kept) ∙ with_empty k.servers e.server kept none z

-- AT A START

empty_outboxes : (o : Options) (s n : ℕ) → outboxes (empty_servers o s n) ≡ []
empty_outboxes o s zero = refl
empty_outboxes o s (suc n) = empty_outboxes o (s + 1) n

pub start_outboxes : (o : Options) → outboxes (with_main (empty_servers o 0 o.servers)) ≡ []
start_outboxes o = by (empty_servers o 0 o.servers) (empty_outboxes o 0 o.servers)
  where
    by : (ss : List Server) → outboxes ss ≡ [] → outboxes (with_main ss) ≡ []
    by [] z = refl
    by (s ∷ ss) z = z
