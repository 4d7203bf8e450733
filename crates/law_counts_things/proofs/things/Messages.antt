-- What each message keeps by itself: from its server to the cluster, with the messages handed over.
use Rattle.std.proofs.Common.{◌≡◌, ℕ, true, false, List, [], Option, Some, None, refl, sym, subst, append-nil, arith}
use Rattle.std.specs.Prelude.{slice_get, option_map}
use Rattle.std.specs.List.{AllByRecursion}
use Rattle.law_counts_sums.specs.Below.fr_base.declared.instruction.Instr.{Instr}
use Rattle.law_counts_sums.specs.Below.fr_base.declared.settings.Options.{Options}
use Rattle.law_counts_sums.specs.Below.read_cache.Cache.{Copy, can_evict}
use Rattle.law_counts_sums.specs.Below.thread_state.View.{ThreadState}
use Rattle.law_counts_sums.specs.Below.server_msgs.declared.message.Message.{Message}
use Rattle.law_counts_sums.specs.Below.server_msgs.declared.message.Message.TheVariants as message
use Rattle.law_counts_sums.specs.Below.migration.Packing.{packed, unpin_all, used_words}
use Rattle.law_counts_sums.specs.Below.journal.View.{EntryView}
use Rattle.law_counts_sums.specs.Below.server_model.declared.event.Event.{Event}
use Rattle.law_counts_sums.specs.Below.server_model.declared.event.What.{What}
use Rattle.law_counts_sums.specs.Below.server_model.declared.event.What.TheVariants.{Step, Deliver, Evict, Migrate}
use Rattle.law_counts_sums.specs.Below.server_model.Servers.{Sent, Rest, Server, Cluster, server_at}
use Rattle.law_counts_sums.specs.Below.server_model.Work.{Work, Hand, Site, then_some, thread_in, beside_threads, without_thread}
use Rattle.law_counts_sums.specs.Below.server_model.Moving.{migrate, depart}
use Rattle.law_counts_sums.specs.Below.server_model.Events.{Stepped, has_phase, can_step, enabled, begin_work, begin_at, left_by, received, deliver_message, evict_copy, step, step_in, stepped, does}
use Rattle.law_counts_sums.specs.Below.server_model.Clusters.{done_at, act_at, apply}
use Rattle.law_counts_sums.specs.Below.coherent_memory.Names.{tot}
use Rattle.law_counts_sums.specs.Below.coherent_memory.Things.{Thing, sent, things_at, waiting_things, leaving_things, standing_things, message_things, server_things, things_of}
use Rattle.law_counts_sums.specs.Below.coherent_memory.Coherent.{IsSound}
use Rattle.law_counts_sums.specs.Laws.{Gives, FewEvents, EachEventHandedOver}
use Rattle.law_counts_sums.proofs.Results.{then_gives, map_gives, over_gives, test_gives, both_give}
use Rattle.law_counts_sums.proofs.Unseen.{Unseen, Unnoted, none_at, thread_alone, seen_of}
use Rattle.law_counts_sums.proofs.Events.{tot-server}
use Rattle.law_counts_sums.proofs.Applied.{handed_on}
use Rattle.law_counts_sums.proofs.Sending.{each_event_sends}
use Rattle.law_counts_things.proofs.things.Mail.{Mailed, mail_sent, Replies, Requests, Begins, message_says, step_says}
use Rattle.law_counts_things.proofs.things.Threads.{remove_all}
use Rattle.law_counts_things.proofs.things.Handed.{all_none, none_all}

-- what a fact on messages needs at a server: what its threads say in a step, what it replies, and whom it sends away
pub record Speech (code : List Instr) (servers : ℕ) (s : Server) (M : ℕ → Message → Type 0) : Type 0 where
  pub replies : Replies M
  pub steps : (t : ℕ) (y : ThreadState) (i : Instr) → has_phase can_step (thread_in s.threads t) ≡ true → thread_in s.threads t ≡ Some y → slice_get code y.pc ≡ Some i → Mailed M s.rest.number s.rest.outbox s.rest
      → Gives (λ (d : Stepped). Mailed M s.rest.number s.rest.outbox d.hand.work.rest) (step servers i (record { work = begin_work s.rest; thread = y }))
  pub leaves : (t target : ℕ) (y : ThreadState) → thread_in s.threads t ≡ Some y → M target (message.Migrate (packed (record y { moved_since_step = true })))

-- the same where it is told by what its threads ask for and begin
pub record Letters (code : List Instr) (servers : ℕ) (s : Server) (M : ℕ → Message → Type 0) : Type 0 where
  pub replies : Replies M
  pub requests : (t : ℕ) (y : ThreadState) (i : Instr) → thread_in s.threads t ≡ Some y → slice_get code y.pc ≡ Some i → Requests M s.rest.number y i
  pub begins : (t : ℕ) (y : ThreadState) (i : Instr) → thread_in s.threads t ≡ Some y → slice_get code y.pc ≡ Some i → Begins M servers s.rest i
  pub leaves : (t target : ℕ) (y : ThreadState) → thread_in s.threads t ≡ Some y → M target (message.Migrate (packed (record y { moved_since_step = true })))

pub speech : {code : List Instr} {servers : ℕ} {s : Server} {M : ℕ → Message → Type 0} → Letters code servers s M → Speech code servers s M
speech {code} {servers} {s} {M} k = record {
  replies = k.replies;
  steps = λ t y i on q e mail. step_says M servers i s.rest y (k.requests t y i q e) (k.begins t y i q e) (record { work = begin_work s.rest; thread = y }) (record { mail = mail; begun = refl; named = refl; at_home = refl });
  leaves = k.leaves;
}

module _ (code : List Instr) (o : Options) (s : Server) (M : ℕ → Message → Type 0) (k : Speech code o.servers s M) (mail : Mailed M s.rest.number s.rest.outbox s.rest) where
  abbrev Posted : Rest → Type 0
  Posted r = Mailed M s.rest.number s.rest.outbox r

  abbrev Then : Server × EntryView → Type 0
  Then r = Posted r.0.rest

  abbrev PostedSite : Site → Type 0
  PostedSite x = Posted x.work.rest

  stepping : (t : ℕ) → has_phase can_step (thread_in s.threads t) ≡ true → Gives Then (does code o s (Step t))
  stepping t on = by (thread_in s.threads t) refl
    where
      at : (y : ThreadState) → thread_in s.threads t ≡ Some y → (i : Option Instr) → slice_get code y.pc ≡ i
          → Gives Then (option_map (stepped s) (then_some i (λ x. step o.servers x (record { work = begin_work s.rest; thread = y }))))
      at y q None e = tt
      at y q (Some i) e =
          let h : Hand = record { work = begin_work s.rest; thread = y } in
          over_gives (λ (d : Stepped). Posted d.hand.work.rest) Then (step o.servers i h) (stepped s) (k.steps t y i on q e mail) (λ d u. u)

      by : (x : Option ThreadState) → thread_in s.threads t ≡ x → Gives Then (option_map (stepped s) (then_some (option_map (λ y. record { work = begin_work s.rest; thread = y }) x) (step_in code o.servers)))
      by None q = tt
      by (Some y) q = at y q (slice_get code y.pc) refl

  delivering : (i : ℕ) → Gives Then (does code o s (Deliver i))
  delivering i = by (slice_get s.rest.inbox i)
    where
      by : (m : Option Message) → Gives Then (option_map (left_by s.events None None) (then_some m (λ x. deliver_message code x (received i s))))
      by None = tt
      by (Some m) =
          over_gives PostedSite Then (deliver_message code m (received i s)) (left_by s.events None None)
          (message_says M s.rest.number s.rest.outbox k.replies code m (received i s)
          (record { numbered = refl; waiting = remove_all (M s.rest.number) s.rest.inbox i mail.waiting; leaving = mail.leaving; more = mail.more; appended = mail.appended })) (λ x u. u)

  evicting : (w : ℕ) → Gives Then (does code o s (Evict w))
  evicting w =
      over_gives PostedSite Then (beside_threads (evict_copy w) (begin_at s)) (left_by s.events None None)
      (over_gives (λ (x : Work). Posted x.rest) PostedSite (evict_copy w (begin_work s.rest)) _ (test_gives (λ (x : Work). Posted x.rest) (can_evict s.rest.cache w) _ (λ q. mail)) (λ x u. u)) (λ x u. u)

  leaving : (t target : ℕ) → Gives Then (does code o s (Migrate t target))
  leaving t target =
      over_gives PostedSite Then (migrate t target (begin_at s)) (left_by s.events (Some t) None)
      (then_gives PostedSite (thread_in s.threads t) _ (λ y q. by y q (unpin_all (used_words y) s.rest.cache))) (λ x u. u)
    where
      by : (y : ThreadState) → thread_in s.threads t ≡ Some y → (l : Option (List Copy))
          → Gives PostedSite (option_map (λ p. record { work = depart target (begin_work s.rest) p; threads = without_thread s.threads t }) (option_map (λ left. (packed (record y { moved_since_step = true }), left)) l))
      by y q None = tt
      by y q (Some cs) = mail_sent M s.rest.number s.rest.outbox (record s.rest { cache = cs }) target (message.Migrate (packed (record y { moved_since_step = true }))) (k.leaves t target y q) mail

  pub posts_so : (w : What) → enabled o s w ≡ true → Gives Then (does code o s w)
  posts_so (Step t) on = stepping t on
  posts_so (Deliver i) on = delivering i
  posts_so (Evict w) on = evicting w
  posts_so (Migrate t target) on = leaving t target

pub posts : (code : List Instr) (o : Options) (s : Server) (M : ℕ → Message → Type 0) → Letters code o.servers s M → Mailed M s.rest.number s.rest.outbox s.rest
    → (w : What) → enabled o s w ≡ true → Gives (λ (r : Server × EntryView). Mailed M s.rest.number s.rest.outbox r.0.rest) (does code o s w)
posts code o s M k mail w on = posts_so code o s M (speech k) mail w on

-- WEIGHTS OF MESSAGES

-- a weight of messages by where they go, as one of things
abbrev pub on_sent : (ℕ → Message → ℕ) → Thing → ℕ
on_sent g (sent r m) = g r m
on_sent g x = 0

module _ (g : ℕ → Message → ℕ) where
  abbrev w : Thing → ℕ
  w = on_sent g

  -- it weighs nothing
  abbrev pub Light : ℕ → Message → Type 0
  Light r m = g r m ≡ 0

  unseen : (n : ℕ) → Unseen w n
  unseen n = record { held = λ p v. refl; shared = λ l r. refl; borrowed = λ l r. refl; locked = λ l m. refl; live = λ a c. refl; free = λ a m. refl; old = λ a. refl; copy = λ s c. refl; used = λ s x. refl }

  unnoted : Unnoted w
  unnoted = record { mutex = λ s m. refl; queue = λ m s t. refl; note = λ s t. refl }

  message_alone : (n : ℕ) (m : Message) → tot w (message_things n m) ≡ g n m
  message_alone n (message.Start t) = omega (arith, thread_alone w n (unseen n) n true t)
  message_alone n (message.Migrate t) = omega (arith, thread_alone w n (unseen n) n true t)
  message_alone n (message.Fetch v b r t) = omega arith
  message_alone n (message.Fetched v c t) = omega arith
  message_alone n (message.Move v b r t) = omega arith
  message_alone n (message.Moved v c t) = omega arith
  message_alone n (message.Drop v b) = omega arith
  message_alone n (message.Lock m r t) = omega arith
  message_alone n (message.Granted m v t) = omega arith
  message_alone n (message.Unlock m v) = omega arith
  message_alone n (message.Dup m r t) = omega arith
  message_alone n (message.Dupped m t) = omega arith
  message_alone n (message.Release x) = omega arith
  message_alone n (message.Join u r t) = omega arith
  message_alone n (message.Joined u v t) = omega arith
  message_alone n (message.Finished u v) = omega arith

  no_threads : (n : ℕ) (ts : List ThreadState) → tot w (things_at (standing_things n) 0 ts) ≡ 0
  no_threads n ts = none_at w n (unseen n) (standing_things n) (λ i t. omega (arith, thread_alone w n (unseen n) n false t)) 0 ts

  pub letters_from : (s : Server) → tot w (server_things s) ≡ 0 → Mailed Light s.rest.number s.rest.outbox s.rest
  letters_from s z =
      let n = s.rest.number in
      let parts = seen_of w n (unseen n) unnoted s refl in record {
        numbered = refl;
        waiting = all_none w (waiting_things n) (Light n) (λ i m y. omega (arith, y, message_alone n m)) 0 s.rest.inbox (omega (arith, z, parts));
        leaving = all_none w leaving_things (λ (x : Sent). Light x.target x.message) (λ i x y. omega (arith, y, message_alone x.target x.message)) 0 s.rest.outbox (omega (arith, z, parts));
        more = [];
        appended = sym (append-nil s.rest.outbox);
      }

  pub letters_to : (s : Server) → AllByRecursion (Light s.rest.number) s.rest.inbox → AllByRecursion (λ (x : Sent). Light x.target x.message) s.rest.outbox → tot w (server_things s) ≡ 0
  letters_to s a b =
      let n = s.rest.number in
      omega (
        arith,
        seen_of w n (unseen n) unnoted s refl,
        no_threads n s.threads,
        none_all w (waiting_things n) (Light n) (λ i m y. omega (arith, y, message_alone n m)) 0 s.rest.inbox a,
        none_all w leaving_things (λ (x : Sent). Light x.target x.message) (λ i x y. omega (arith, y, message_alone x.target x.message)) 0 s.rest.outbox b,
      )

-- a weight of messages that an event keeps at nothing at its server is nothing over the cluster, once its messages are handed over
module _ (g : ℕ → Message → ℕ) (k : Cluster) (e : Event) (sound : IsSound k) (few : FewEvents k) (none : tot (on_sent g) (things_of k) ≡ 0)
    (says : (s : Server) → server_at k.servers e.server ≡ Some s → Speech k.code k.options.servers s (Light g)) where
  abbrev Weightless : Cluster → Type 0
  Weightless c = tot (on_sent g) (things_of c) ≡ 0

  acted : Gives (λ (d : Cluster × EntryView). Weightless d.0) (act_at k e)
  acted =
      then_gives (λ (d : Cluster × EntryView). Weightless d.0) (server_at k.servers e.server) _ (λ s here.
      let before : tot (on_sent g) (server_things s) ≡ 0 = omega (arith, none, (tot-server (on_sent g) k.servers e.server s s here).0) in
      over_gives (λ (r : Server × EntryView). Mailed (Light g) s.rest.number s.rest.outbox r.0.rest) (λ (d : Cluster × EntryView). Weightless d.0) (done_at k e.what s) _
      (test_gives (λ (r : Server × EntryView). Mailed (Light g) s.rest.number s.rest.outbox r.0.rest) (enabled k.options s e.what) _ (λ on. posts_so k.code k.options s (Light g) (says s here) (letters_from g s before) e.what on))
      (λ r mail.
      let after = letters_to g r.0 (subst (λ n. AllByRecursion (Light g n) r.0.rest.inbox) (sym mail.numbered) mail.waiting) mail.leaving in
      omega (arith, none, (tot-server (on_sent g) k.servers e.server s r.0 here).0, (tot-server (on_sent g) k.servers e.server s r.0 here).1, after)))

  pub messages_go : Gives (λ (d : Cluster × EntryView). Weightless d.0) (apply k e)
  messages_go = handed_on Weightless (λ c a b same z. omega (arith, z, same (on_sent g))) k e (each_event_sends k e sound few) acted

-- a weight of messages, by the number of servers, that each message keeps at nothing
pub record MessagesKeep (g : ℕ → ℕ → Message → ℕ) : Type 0 where
  pub before : (k : Cluster) → IsSound k → tot (on_sent (g k.options.servers)) (things_of k) ≡ 0
  pub letters : (k : Cluster) (number : ℕ) (s : Server) → IsSound k → FewEvents k → server_at k.servers number ≡ Some s → Letters k.code k.options.servers s (Light (g k.options.servers))

-- an event leaves the number of servers
same_servers : (k : Cluster) (e : Event) → Gives (λ (d : Cluster × EntryView). d.0.options.servers ≡ k.options.servers) (apply k e)
same_servers k e =
    then_gives (λ (d : Cluster × EntryView). d.0.options.servers ≡ k.options.servers) (server_at k.servers e.server) _ (λ s here. map_gives (λ (d : Cluster × EntryView). d.0.options.servers ≡ k.options.servers) (done_at k e.what s) _ (λ r q. refl))

pub messages_keep : (g : ℕ → ℕ → Message → ℕ) → MessagesKeep g → EachEventHandedOver (λ c. tot (on_sent (g c.options.servers)) (things_of c) ≡ 0)
messages_keep g keeps k e sound few =
    both_give (λ (d : Cluster × EntryView). d.0.options.servers ≡ k.options.servers) (λ (d : Cluster × EntryView). tot (on_sent (g k.options.servers)) (things_of d.0) ≡ 0) (λ (d : Cluster × EntryView). tot (on_sent (g d.0.options.servers)) (things_of d.0) ≡ 0) (apply k e)
    (same_servers k e) (messages_go (g k.options.servers) k e sound few (keeps.before k sound) (λ s here. speech (keeps.letters k e.server s sound few here)))
    (λ d n z. subst (λ m. tot (on_sent (g m)) (things_of d.0) ≡ 0) (sym n) z)
