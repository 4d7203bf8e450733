-- Each event takes at least one from what the cluster is worth, its own cost and the threads that it starts aside.
use Rattle.std.proofs.Common.{◌≡◌, ◌≤◌, ℕ, zero, suc, ◌+◌, ◌*◌, ◌==◌, Bool, true, false, if◌then◌else◌, List, [], ◌∷◌, length, Option, Some, None, refl, sym, ap, subst, arith}
use Rattle.std.specs.Prelude.{slice_get, option_map, take, drop}
use Rattle.law_runs_coherent.specs.Below.fr_base.Lists.{tot}
use Rattle.law_runs_coherent.specs.Below.fr_base.declared.instruction.Instr.{Instr}
use Rattle.law_runs_coherent.specs.Below.fr_base.declared.settings.Options.{Options}
use Rattle.law_runs_coherent.specs.Below.read_cache.Cache.{Copy, can_evict, evict}
use Rattle.law_runs_coherent.specs.Below.migration.Packing.{unpin_all, used_words, packed}
use Rattle.law_runs_coherent.specs.Below.thread_state.View.{ThreadState}
use Rattle.law_runs_coherent.specs.Below.journal.View.{EntryView}
use Rattle.law_runs_coherent.specs.Below.server_msgs.declared.message.Message.{Message}
use Rattle.law_runs_coherent.specs.Below.server_msgs.declared.message.Message.TheVariants as message
use Rattle.law_runs_coherent.specs.Below.server_model.declared.event.What.{What}
use Rattle.law_runs_coherent.specs.Below.server_model.declared.event.What.TheVariants.{Step, Deliver, Evict, Migrate}
use Rattle.law_runs_coherent.specs.Below.server_model.Servers.{Sent, Server, Cluster, server_at}
use Rattle.law_runs_coherent.specs.Below.server_model.Work.{Hand, sent_from, receive, thread_in, without_thread, then_some}
use Rattle.law_runs_coherent.specs.Below.server_model.Moving.{depart}
use Rattle.law_runs_coherent.specs.Below.server_model.Events.{Stepped, begin_work, begin_at, left_by, received, deliver_message, step, step_in, stepped, does, enabled}
use Rattle.law_runs_coherent.specs.Below.server_model.Clusters.{with_server, accept, accept_at, accept_all, with_outbox, hand_over_newer, done_at}
use Rattle.law_runs_coherent.specs.Below.server_model.Laws.{sum_sent}
use Rattle.law_runs_coherent.specs.Below.law_counts_sums.Laws.{Gives}
use Rattle.law_runs_coherent.proofs.Below.law_counts_sums.Results.{then_gives, over_gives, test_gives}
use Rattle.law_runs_coherent.proofs.Below.law_counts_things.things.Plainly.{EndsStep}
use Rattle.law_length_runs.specs.worth.Credit.{thread_worth, message_worth, rest_worth, server_worth, credit, begun}
use Rattle.law_length_runs.specs.worth.Spending.{moves_again, cost_at, EventsSpend}
use Rattle.law_length_runs.proofs.worth.Lists.{thread_set, thread_found, thread_goes, evicted_length, unpinned_length}
use Rattle.law_length_runs.proofs.worth.Parts.{worth, Within, sends, waiting_more, received_worth}
use Rattle.law_length_runs.proofs.worth.Steps.{E, step_costs}
use Rattle.law_length_runs.proofs.worth.Deliveries.{Left, message_spends}

-- AT THE SERVER

-- what an event leaves at its server, where it costs so much
abbrev pub Spends : ℕ → Server → Server × EntryView → Type 0
Spends n s d = server_worth d.0 + 5 * s.rest.started + 1 ≤ server_worth s + 5 * d.0.rest.started + n

module _ (code : List Instr) (o : Options) (s : Server) where
  stepping : (t : ℕ) → Gives (Spends 4 s) (does code o s (Step t))
  stepping t = by (thread_in s.threads t) refl
    where
      c : ℕ
      c = rest_worth s.rest

      b : ℕ
      b = 5 * s.rest.started

      put : (y : ThreadState) → thread_in s.threads t ≡ Some y → (d : Stepped) → EndsStep (E c b y) d → Spends 4 s (stepped s d)
      put y q d a =
          let here : thread_in s.threads d.hand.thread.number ≡ Some y = subst (λ m. thread_in s.threads m ≡ Some y) (sym a.0) (thread_found s.threads t y q) in
          omega (arith, a.1, thread_set thread_worth s.threads y d.hand.thread here)

      by : (x : Option ThreadState) → thread_in s.threads t ≡ x → Gives (Spends 4 s) (option_map (stepped s) (then_some (option_map (λ y. record { work = begin_work s.rest; thread = y }) x) (step_in code o.servers)))
      by None q = tt
      by (Some y) q =
          let h : Hand = record { work = begin_work s.rest; thread = y } in
          over_gives (EndsStep (E c b y)) (Spends 4 s) (step_in code o.servers h) (stepped s)
          (then_gives (EndsStep (E c b y)) (slice_get code y.pc) (λ i. step o.servers i h) (λ i z. step_costs c b y o.servers i h (refl, refl, omega arith))) (put y q)

  delivering : (i : ℕ) → Gives (Spends 0 s) (does code o s (Deliver i))
  delivering i = by (slice_get s.rest.inbox i) refl
    where
      by : (m : Option Message) → slice_get s.rest.inbox i ≡ m → Gives (Spends 0 s) (option_map (left_by s.events None None) (then_some m (λ x. deliver_message code x (received i s))))
      by None q = tt
      by (Some m) q =
          let c : ℕ = rest_worth (receive s.rest i) in
          let b : ℕ = 5 * s.rest.started in
          let all = received_worth s.rest i m q in
          over_gives (Left c b (message_worth m) (received i s)) (Spends 0 s) (deliver_message code m (received i s)) (left_by s.events None None) (message_spends c b code m (received i s) (omega arith)) (λ x a. omega (arith, a, all))

  evicting : (w : ℕ) → Gives (Spends 0 s) (does code o s (Evict w))
  evicting w = by (can_evict s.rest.cache w) refl
    where
      by : (q : Bool) → can_evict s.rest.cache w ≡ q
          → Gives (Spends 0 s)
          (option_map (left_by s.events None None)
          (option_map (λ x. record (begin_at s) { work = x })
          (if q then Some (Rattle.law_runs_coherent.specs.Below.server_model.Work.note (Rattle.law_runs_coherent.specs.Below.journal.declared.act.Act.TheVariants.Evict w) (Rattle.law_runs_coherent.specs.Below.server_model.Work.with_cache (evict s.rest.cache w) (begin_work s.rest))) else None)))
      by true e = omega (arith, evicted_length s.rest.cache w e)
      by false e = tt

  leaving : (t target : ℕ) → Gives (Spends (moves_again (thread_in s.threads t)) s) (does code o s (Migrate t target))
  leaving t target = by (thread_in s.threads t) refl
    where
      gone : (y : ThreadState) (cs : List Copy) → thread_in s.threads t ≡ Some y → unpin_all (used_words y) s.rest.cache ≡ Some cs
          → Spends (moves_again (Some y)) s (left_by s.events (Some t) None (record { work = depart target (begin_work s.rest) (packed (record y { moved_since_step = true }), cs); threads = without_thread s.threads t }))
      gone y cs q e =
          let m : Message = message.Migrate (packed (record y { moved_since_step = true })) in
          let c : ℕ = rest_worth s.rest in
          let b : ℕ = 5 * s.rest.started in
          let one : Within (c + 1) b (sent_from (record s.rest { cache = cs }) target m) = sends c (c + 1) b (record s.rest { cache = cs }) target m (omega arith) (omega (arith, unpinned_length (used_words y) s.rest.cache cs e)) in
          omega (arith, one, thread_goes thread_worth s.threads t y q, two y.moved_since_step)
        where
          two : (z : Bool) → 2 ≤ (if z then 0 else 2) + (if z then 2 else 0)
          two true = omega arith
          two false = omega arith

      packs : (y : ThreadState) (l : Option (List Copy)) → thread_in s.threads t ≡ Some y → unpin_all (used_words y) s.rest.cache ≡ l
          → Gives (Spends (moves_again (Some y)) s)
          (option_map (left_by s.events (Some t) None) (option_map (λ p. record { work = depart target (begin_work s.rest) p; threads = without_thread s.threads t }) (option_map (λ left. (packed (record y { moved_since_step = true }), left)) l)))
      packs y None q e = tt
      packs y (Some cs) q e = gone y cs q e

      by : (x : Option ThreadState) → thread_in s.threads t ≡ x
          → Gives (Spends (moves_again x) s)
          (option_map (left_by s.events (Some t) None) (then_some x (λ y. option_map (λ p. record { work = depart target (begin_work s.rest) p; threads = without_thread s.threads t }) (option_map (λ left. (packed (record y { moved_since_step = true }), left)) (unpin_all (used_words y) s.rest.cache)))))
      by None q = tt
      by (Some y) q = packs y (unpin_all (used_words y) s.rest.cache) q refl

  all : (w : What) → Gives (Spends (cost_at w (Some s)) s) (does code o s w)
  all (Step t) = stepping t
  all (Deliver i) = delivering i
  all (Evict w) = evicting w
  all (Migrate t target) = leaving t target

-- IN THE CLUSTER

module _ (f : Server → ℕ) where
  -- another state of a server
  pub server_set : (ss : List Server) (n : ℕ) (s new : Server) → server_at ss n ≡ Some s → tot f (with_server ss n new) + f s ≡ tot f ss + f new
  server_set [] n s new e = absurd (cc e)
  server_set (x ∷ ss) n s new e = by (x.rest.number == n) e (server_set ss n s new)
    where
      by : (b : Bool) → (if b then Some x else server_at ss n) ≡ Some s → (server_at ss n ≡ Some s → tot f (with_server ss n new) + f s ≡ tot f ss + f new)
          → tot f (if b then new ∷ ss else x ∷ with_server ss n new) + f s ≡ tot f (x ∷ ss) + f new
      by true q go = let same : x ≡ s = cc in let w : f x ≡ f s = ap f same in omega (arith, w)
      by false q go = omega (arith, go q)

abbrev all_worth : List Server → ℕ
all_worth ss = tot server_worth ss

abbrev pub all_begun : List Server → ℕ
all_begun ss = tot (λ (s : Server). s.rest.started) ss

-- a message that is handed over is worth what it was, or is gone
accepts : (ss : List Server) (x : Sent) → all_worth (accept_at ss x) ≤ all_worth ss + message_worth x.message
accepts [] x = omega arith
accepts (s ∷ ss) x = by (s.rest.number == x.target) (accepts ss x)
  where
    by : (b : Bool) → all_worth (accept_at ss x) ≤ all_worth ss + message_worth x.message → all_worth (if b then accept x.message s ∷ ss else s ∷ accept_at ss x) ≤ all_worth (s ∷ ss) + message_worth x.message
    by true g = omega (arith, waiting_more s.rest.number s.rest.inbox x.message)
    by false g = omega (arith, g)

accepts_all : (xs : List Sent) (ss : List Server) → all_worth (accept_all ss xs) ≤ all_worth ss + sum_sent worth xs
accepts_all [] ss = omega arith
accepts_all (x ∷ xs) ss = omega (arith, accepts ss x, accepts_all xs (accept_at ss x))

-- and no thread starts by it
begun_as : (ss : List Server) (x : Sent) → all_begun (accept_at ss x) ≡ all_begun ss
begun_as [] x = refl
begun_as (s ∷ ss) x = by (s.rest.number == x.target) (begun_as ss x)
  where
    by : (b : Bool) → all_begun (accept_at ss x) ≡ all_begun ss → all_begun (if b then accept x.message s ∷ ss else s ∷ accept_at ss x) ≡ all_begun (s ∷ ss)
    by true g = refl
    by false g = omega (arith, g)

pub begun_all : (xs : List Sent) (ss : List Server) → all_begun (accept_all ss xs) ≡ all_begun ss
begun_all [] ss = refl
begun_all (x ∷ xs) ss = omega (arith, begun_as ss x, begun_all xs (accept_at ss x))

-- the older messages of an outbox and the newer ones
parted : (n : ℕ) (xs : List Sent) → sum_sent worth (take n xs) + sum_sent worth (drop n xs) ≡ sum_sent worth xs
parted zero xs = omega arith
parted (suc n) [] = refl
parted (suc n) (x ∷ xs) = omega (arith, parted n xs)

pub events_spend : EventsSpend
events_spend k e = by (server_at k.servers e.server) refl
  where
    After : ℕ → Cluster × EntryView → Type 0
    After n d = credit d.0 + 5 * begun k + 1 ≤ credit k + 5 * begun d.0 + n

    done : (s : Server) → server_at k.servers e.server ≡ Some s → (n : ℕ) (r : Server × EntryView) → Spends n s r → After n (record k { servers = hand_over_newer e.server (length s.rest.outbox) r.0 k.servers }, r.1)
    done s q n r a =
        let older : ℕ = length s.rest.outbox in
        let kept : Server = with_outbox (take older r.0.rest.outbox) r.0 in
        let news : List Sent = drop older r.0.rest.outbox in
        let ss : List Server = with_server k.servers e.server kept in
        omega (arith, a, accepts_all news ss, begun_all news ss, server_set server_worth k.servers e.server s kept q, server_set (λ (x : Server). x.rest.started) k.servers e.server s kept q, parted older r.0.rest.outbox)

    by : (o : Option Server) → server_at k.servers e.server ≡ o
        → Gives (After (cost_at e.what o)) (then_some o (λ s. option_map (λ d. (record k { servers = hand_over_newer e.server (length s.rest.outbox) d.0 k.servers }, d.1)) (done_at k e.what s)))
    by None q = tt
    by (Some s) q =
        over_gives (Spends (cost_at e.what (Some s)) s) (After (cost_at e.what (Some s))) (done_at k e.what s) _
        (test_gives (Spends (cost_at e.what (Some s)) s) (enabled k.options s e.what) _ (λ on. all k.code k.options s e.what)) (λ d a. done s q (cost_at e.what (Some s)) d a)
