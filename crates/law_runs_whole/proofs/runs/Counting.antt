-- Each event is counted once, and leaves the code.
use Rattle.std.proofs.Common.{◌≡◌, ℕ, ◌+◌, ◌==◌, Bool, true, false, if◌then◌else◌, List, [], ◌∷◌, length, Some, None, refl, ap, ◌∙◌, arith}
use Rattle.std.specs.Prelude.{take, drop}
use Rattle.law_runs_coherent.proofs.Below.fr_typing.PlaceLemmas.{eq_cases}
use Rattle.law_runs_coherent.specs.Below.fr_base.declared.instruction.Instr.{Instr}
use Rattle.law_runs_coherent.specs.Below.fr_base.declared.settings.Options.{Options}
use Rattle.law_runs_coherent.specs.Below.server_msgs.declared.message.Message.{Message}
use Rattle.law_runs_coherent.specs.Below.server_msgs.declared.message.Message.TheVariants as message
use Rattle.law_runs_coherent.specs.Below.journal.View.{EntryView}
use Rattle.law_runs_coherent.specs.Below.server_model.declared.event.Event.{Event}
use Rattle.law_runs_coherent.specs.Below.server_model.declared.event.What.{What}
use Rattle.law_runs_coherent.specs.Below.server_model.declared.event.What.TheVariants.{Step, Deliver, Evict, Migrate}
use Rattle.law_runs_coherent.specs.Below.server_model.Servers.{Sent, Server, Cluster, server_at}
use Rattle.law_runs_coherent.specs.Below.server_model.Events.{enabled, does, stepped, left_by}
use Rattle.law_runs_coherent.specs.Below.server_model.Clusters.{with_server, with_outbox, accept, accept_at, accept_all, hand_over_newer, done_at, apply}
use Rattle.law_runs_coherent.specs.Below.coherent_memory.Names.{tot}
use Rattle.law_runs_coherent.specs.Below.coherent_memory.Things.{message_things, waiting_things, leaving_things, standing_things, server_things, servers_things}
use Rattle.law_runs_coherent.specs.Below.coherent_memory.Sight.{sight}
use Rattle.law_runs_coherent.specs.Below.coherent_memory.Naming.{event_count, events_of}
use Rattle.law_runs_coherent.proofs.Below.coherent_memory.Sums.{tot-append}
use Rattle.law_runs_coherent.proofs.Below.law_counts_sums.Unseen.{Unseen, Unnoted, none_at, thread_alone, seen_of}
use Rattle.law_runs_coherent.specs.Below.law_counts_sums.Laws.{Gives}
use Rattle.law_runs_coherent.proofs.Below.law_counts_sums.Results.{then_gives, map_gives, test_gives, over_gives}
use Rattle.law_runs_coherent.specs.Below.law_counts_limits.limits.Counts.{events_in}

-- THINGS: counts of servers alone count events

unseen : (n : ℕ) → Unseen event_count n
unseen n = record { held = λ p v. refl; shared = λ l r. refl; borrowed = λ l r. refl; locked = λ l m. refl; live = λ a c. refl; free = λ a m. refl; old = λ a. refl; copy = λ s c. refl; used = λ s w. refl }

unnoted : Unnoted event_count
unnoted = record { mutex = λ s m. refl; queue = λ m s t. refl; note = λ s t. refl }

message_none : (r : ℕ) (m : Message) → tot event_count (message_things r m) ≡ 0
message_none r (message.Start x) = omega (arith, thread_alone event_count r (unseen r) r true x)
message_none r (message.Migrate x) = omega (arith, thread_alone event_count r (unseen r) r true x)
message_none r _ = refl

server_events : (s : Server) → tot event_count (server_things s) ≡ s.events
server_events s =
    let n = s.rest.number in
    omega (
      arith,
      seen_of event_count n (unseen n) unnoted s refl,
      none_at event_count n (unseen n) (standing_things n) (λ i x. thread_alone event_count n (unseen n) n false x) 0 s.threads,
      none_at event_count n (unseen n) (waiting_things n) (λ i x. message_none n x) 0 s.rest.inbox,
      none_at event_count n (unseen n) leaving_things (λ i x. message_none x.target x.message) 0 s.rest.outbox,
    )

all_events : (ss : List Server) → tot event_count (servers_things ss) ≡ events_in ss
all_events [] = refl
all_events (s ∷ ss) = omega (arith, server_events s, all_events ss, tot-append event_count (server_things s) (servers_things ss))

-- SERVERS

events_with : (ss : List Server) (n : ℕ) (s new : Server) → server_at ss n ≡ Some s → events_in (with_server ss n new) + s.events ≡ events_in ss + new.events
events_with [] n s new h = absurd (cc h)
events_with (x ∷ ss) n s new h =
    eq_cases (λ b. (if b then Some x else server_at ss n) ≡ Some s → events_in (if b then new ∷ ss else x ∷ with_server ss n new) + s.events ≡ events_in (x ∷ ss) + new.events) x.rest.number n
    (λ e g. let same : x ≡ s = cc in let w = ap (λ (y : Server). y.events) same in omega (arith, w)) (λ ne g. omega (arith, events_with ss n s new g)) h

events_accepted : (ss : List Server) (x : Sent) → events_in (accept_at ss x) ≡ events_in ss
events_accepted [] x = refl
events_accepted (s ∷ ss) x = by (s.rest.number == x.target) (events_accepted ss x)
  where
    by : (b : Bool) → events_in (accept_at ss x) ≡ events_in ss → events_in (if b then accept x.message s ∷ ss else s ∷ accept_at ss x) ≡ s.events + events_in ss
    by true go = refl
    by false go = omega (arith, go)

events_all : (xs : List Sent) (ss : List Server) → events_in (accept_all ss xs) ≡ events_in ss
events_all [] ss = refl
events_all (x ∷ xs) ss = events_all xs (accept_at ss x) ∙ events_accepted ss x

-- AN EVENT

does_once : (code : List Instr) (o : Options) (s : Server) (w : What) → Gives (λ (r : Server × EntryView). r.0.events ≡ s.events + 1) (does code o s w)
does_once code o s (Step t) = map_gives (λ (r : Server × EntryView). r.0.events ≡ s.events + 1) _ (stepped s) (λ d q. refl)
does_once code o s (Deliver i) = map_gives (λ (r : Server × EntryView). r.0.events ≡ s.events + 1) _ (left_by s.events None None) (λ d q. refl)
does_once code o s (Evict c) = map_gives (λ (r : Server × EntryView). r.0.events ≡ s.events + 1) _ (left_by s.events None None) (λ d q. refl)
does_once code o s (Migrate t target) = map_gives (λ (r : Server × EntryView). r.0.events ≡ s.events + 1) _ (left_by s.events (Some t) None) (λ d q. refl)

pub one_more : (k : Cluster) (e : Event) → Gives (λ (d : Cluster × EntryView). events_of (sight d.0) ≡ events_of (sight k) + 1) (apply k e)
one_more k e =
    then_gives (λ (d : Cluster × EntryView). events_of (sight d.0) ≡ events_of (sight k) + 1) (server_at k.servers e.server) _ (λ s here.
    over_gives (λ (r : Server × EntryView). r.0.events ≡ s.events + 1) (λ (d : Cluster × EntryView). events_of (sight d.0) ≡ events_of (sight k) + 1) (done_at k e.what s) _
    (test_gives (λ (r : Server × EntryView). r.0.events ≡ s.events + 1) (enabled k.options s e.what) (does k.code k.options s e.what) (λ on. does_once k.code k.options s e.what))
    (λ r once. counted s here r once))
  where
    counted : (s : Server) → server_at k.servers e.server ≡ Some s → (r : Server × EntryView) → r.0.events ≡ s.events + 1 → events_of (sight (record k { servers = hand_over_newer e.server (length s.rest.outbox) r.0 k.servers })) ≡ events_of (sight k) + 1
    counted s here r once =
        let older = length s.rest.outbox in
        let after = hand_over_newer e.server older r.0 k.servers in
        let kept = with_outbox (take older r.0.rest.outbox) r.0 in
        let a : events_of (sight (record k { servers = after })) ≡ events_in after = all_events after in
        let b : events_of (sight k) ≡ events_in k.servers = all_events k.servers in
        let c : events_in after ≡ events_in (with_server k.servers e.server kept) = events_all (drop older r.0.rest.outbox) (with_server k.servers e.server kept) in
        omega (arith, a, b, c, events_with k.servers e.server s kept here, once)

pub same_code : (k : Cluster) (e : Event) → Gives (λ (d : Cluster × EntryView). d.0.code ≡ k.code) (apply k e)
same_code k e = then_gives (λ (d : Cluster × EntryView). d.0.code ≡ k.code) (server_at k.servers e.server) _ (λ s here. map_gives (λ (d : Cluster × EntryView). d.0.code ≡ k.code) (done_at k e.what s) _ (λ r q. refl))
