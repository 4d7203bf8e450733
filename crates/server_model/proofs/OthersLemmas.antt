-- What an event leaves of the other servers.
use Rattle.std.proofs.Common.{◌≡◌, ◌≢◌, ℕ, zero, suc, List, [], ◌∷◌, ◌++◌, Option, Some, None, sym, ap, subst, ◌∙◌, append_assoc, append-nil}
use Rattle.std.specs.Prelude.{if◌then◌else◌, length, take, drop, slice_get, option_map}
use Rattle.fr_plain.proofs.Below.fr_typing.PlaceLemmas.{eq_cases}
use Rattle.server_msgs.specs.declared.message.Message.{Message}
use Rattle.journal.specs.View.{EntryView}
use Rattle.server_model.specs.declared.event.Event.{Event}
use Rattle.server_model.specs.Servers.{Sent, Server, Cluster, server_at}
use Rattle.server_model.specs.Work.{then_some}
use Rattle.server_model.specs.Clusters.{with_server, accept, accept_at, accept_all, with_outbox, hand_over_newer, done_at}
use Rattle.server_model.specs.Laws.{with_waiting, ActingLeavesOthers, ApplyingLeavesOthers}

-- another state of one server leaves the others where they are
left_alone : (ss : List Server) (n : ℕ) (new : Server) (i : ℕ) (x : Server) → slice_get ss i ≡ Some x → x.rest.number ≢ n → slice_get (with_server ss n new) i ≡ Some x
left_alone [] n new i x h ne = cc
left_alone (s ∷ ss) n new zero x h ne =
    let same : s ≡ x = cc in
    let number : s.rest.number ≡ x.rest.number = ap (λ y. y.rest.number) same in
    eq_cases (λ b. slice_get (if b then new ∷ ss else s ∷ with_server ss n new) zero ≡ Some x) s.rest.number n (λ e. absurd (ne (sym number ∙ e))) (λ _. h)
left_alone (s ∷ ss) n new (suc i) x h ne =
    eq_cases (λ b. slice_get (if b then new ∷ ss else s ∷ with_server ss n new) (suc i) ≡ Some x) s.rest.number n (λ _. h) (λ _. left_alone ss n new i x h ne)

-- an act gives a cluster that differs at one server
acted : (k : Cluster) (e : Event) (d : Cluster × EntryView) (p : Option (Server × EntryView)) → option_map (λ y. (record k { servers = with_server k.servers e.server y.0 }, y.1)) p ≡ Some d
    → (i : ℕ) (x : Server) → slice_get k.servers i ≡ Some x → x.rest.number ≢ e.server → slice_get d.0.servers i ≡ Some x
acted k e d None h i x there ne = cc
acted k e d (Some y) h i x there ne =
    let same : (record k { servers = with_server k.servers e.server y.0 }, y.1) ≡ d = cc in
    subst (λ z. slice_get z.0.servers i ≡ Some x) same (left_alone k.servers e.server y.0 i x there ne)

pub acting_leaves : ActingLeavesOthers
acting_leaves k e d h i x there ne = by (server_at k.servers e.server) h
  where
    by : (o : Option Server) → then_some o (λ s. option_map (λ y. (record k { servers = with_server k.servers e.server y.0 }, y.1)) (done_at k e.what s)) ≡ Some d → slice_get d.0.servers i ≡ Some x
    by None g = cc
    by (Some s) g = acted k e d (done_at k e.what s) g i x there ne

-- a message that is accepted leaves the others, and is with_waiting at its server
one_accepted : (ss : List Server) (y : Sent) (i : ℕ) (x : Server) → slice_get ss i ≡ Some x → (more : List Message) × (slice_get (accept_at ss y) i ≡ Some (with_waiting more x))
one_accepted [] y i x h = cc
one_accepted (s ∷ ss) y zero x h =
    let same : s ≡ x = cc in
    eq_cases (λ b. (more : List Message) × (slice_get (if b then accept y.message s ∷ ss else s ∷ accept_at ss y) zero ≡ Some (with_waiting more x))) s.rest.number y.target
    (λ _. (y.message ∷ [], ap (λ z. Some (accept y.message z)) same))
    (λ _. ([], h ∙ ap (λ l. Some (record x { rest = record x.rest { inbox = l } })) (sym (append-nil x.rest.inbox))))
one_accepted (s ∷ ss) y (suc i) x h =
    eq_cases (λ b. (more : List Message) × (slice_get (if b then accept y.message s ∷ ss else s ∷ accept_at ss y) (suc i) ≡ Some (with_waiting more x))) s.rest.number y.target
    (λ _. ([], h ∙ ap (λ l. Some (record x { rest = record x.rest { inbox = l } })) (sym (append-nil x.rest.inbox))))
    (λ _. one_accepted ss y i x h)

all_accepted : (ss : List Server) (xs : List Sent) (i : ℕ) (x : Server) → slice_get ss i ≡ Some x → (more : List Message) × (slice_get (accept_all ss xs) i ≡ Some (with_waiting more x))
all_accepted ss [] i x h = ([], h ∙ ap (λ l. Some (record x { rest = record x.rest { inbox = l } })) (sym (append-nil x.rest.inbox)))
all_accepted ss (y ∷ ys) i x h =
    let one = one_accepted ss y i x h in
    let rest = all_accepted (accept_at ss y) ys i (with_waiting one.0 x) one.1 in
    (one.0 ++ rest.0, rest.1 ∙ ap (λ l. Some (record x { rest = record x.rest { inbox = l } })) (append_assoc x.rest.inbox one.0 rest.0))

handed : (k : Cluster) (e : Event) (d : Cluster × EntryView) (older : ℕ) (p : Option (Server × EntryView))
    → option_map (λ y. (record k { servers = hand_over_newer e.server older y.0 k.servers }, y.1)) p ≡ Some d
    → (i : ℕ) (x : Server) → slice_get k.servers i ≡ Some x → x.rest.number ≢ e.server → (more : List Message) × (slice_get d.0.servers i ≡ Some (with_waiting more x))
handed k e d older None h i x there ne = cc
handed k e d older (Some y) h i x there ne =
    let same : (record k { servers = hand_over_newer e.server older y.0 k.servers }, y.1) ≡ d = cc in
    let new = with_outbox (take older y.0.rest.outbox) y.0 in
    let all = all_accepted (with_server k.servers e.server new) (drop older y.0.rest.outbox) i x (left_alone k.servers e.server new i x there ne) in
    (all.0, subst (λ z. slice_get z.0.servers i ≡ Some (with_waiting all.0 x)) same all.1)

pub applying_leaves : ApplyingLeavesOthers
applying_leaves k e d h i x there ne = by (server_at k.servers e.server) h
  where
    by : (o : Option Server)
        → then_some o (λ s. option_map (λ y. (record k { servers = hand_over_newer e.server (length s.rest.outbox) y.0 k.servers }, y.1)) (done_at k e.what s)) ≡ Some d
        → (more : List Message) × (slice_get d.0.servers i ≡ Some (with_waiting more x))
    by None g = cc
    by (Some s) g = handed k e d (length s.rest.outbox) (done_at k e.what s) g i x there ne
