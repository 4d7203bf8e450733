-- An object that is under way after a step, or after the delivery of one that came, was under way before, with the same word: so that word was issued.
use Rattle.std.proofs.Common.{◌≡◌, ◌≤◌, ℕ, ◌+◌, true, false, List, [], ◌∷◌, Option, Some, None, refl, sym, subst, ◌∙◌, arith}
use Rattle.std.specs.Prelude.{slice_get, option_map}
use Rattle.std.specs.List.{AllByRecursion}
use Rattle.law_walks_own.specs.Below.fr_base.declared.instruction.Instr.{Instr}
use Rattle.law_walks_own.specs.Below.heap_partition.declared.value.Cell.{Cell}
use Rattle.law_walks_own.specs.Below.thread_state.View.{ThreadState}
use Rattle.law_walks_own.specs.Below.journal.View.{EntryView}
use Rattle.law_walks_own.specs.Below.server_msgs.declared.message.Message.{Message}
use Rattle.law_walks_own.specs.Below.server_msgs.declared.message.Message.TheVariants as message
use Rattle.law_walks_own.specs.Below.server_model.declared.event.Event.{Event}
use Rattle.law_walks_own.specs.Below.server_model.declared.event.What.TheVariants.{Step, Deliver}
use Rattle.law_walks_own.specs.Below.server_model.Servers.{Server, Cluster, server_at}
use Rattle.law_walks_own.specs.Below.server_model.Work.{Hand, thread_in, then_some}
use Rattle.law_walks_own.specs.Below.server_model.Clusters.{done_at, act_at, apply}
use Rattle.law_walks_own.specs.Below.server_model.Events.{Stepped, enabled, begin_work, left_by, received, deliver_message, step, step_in, stepped, does}
use Rattle.law_walks_own.specs.Below.coherent_memory.Names.{tot, other, Among}
use Rattle.law_walks_own.specs.Below.coherent_memory.Things.{Thing, flies, things_at, thread_things, message_things, standing_things, waiting_things, leaving_things, server_things, servers_things, things_of}
use Rattle.law_walks_own.specs.Below.coherent_memory.Sight.{issued, sight}
use Rattle.law_walks_own.specs.Below.coherent_memory.Placing.{words}
use Rattle.law_walks_own.specs.Below.coherent_memory.Coherent.{IsSound}
use Rattle.law_walks_own.proofs.Below.coherent_memory.Words.{none_at}
use Rattle.law_walks_own.specs.Below.law_counts_sums.Laws.{Gives, FewEvents}
use Rattle.law_walks_own.proofs.Below.law_counts_sums.Results.{then_gives, over_gives, test_gives, weaker}
use Rattle.law_walks_own.proofs.Below.law_counts_sums.Unseen.{Unseen, Unnoted, none_at as none_in, thread_alone, seen_of}
use Rattle.law_walks_own.proofs.Below.law_counts_sums.Askers.{other_none}
use Rattle.law_walks_own.proofs.Below.law_counts_sums.Events.{tot-server}
use Rattle.law_walks_own.proofs.Below.law_counts_sums.Boxes.{tot_le}
use Rattle.law_walks_own.proofs.Below.law_counts_sums.Applied.{handed_on}
use Rattle.law_walks_own.proofs.Below.law_counts_sums.Sending.{each_event_sends}
use Rattle.law_walks_own.proofs.Below.law_counts_sums.Trades.{tot-append}
use Rattle.law_walks_own.proofs.Below.law_counts_things.things.Threads.{remove_all}
use Rattle.law_walks_own.proofs.Below.law_counts_things.things.Mail.{Mailed}
use Rattle.law_walks_own.proofs.Below.law_counts_things.things.Messages.{on_sent, Light, letters_from, letters_to}
use Rattle.law_words_issued.proofs.apart.Flights.{flight, step_flies, landing_flies}

-- WHAT FLIES IS BROUGHT

module _ (f : ℕ → ℕ) where
  abbrev flown : Thing → ℕ
  flown (flies x d) = f x
  flown x = 0

  abbrev brought : Thing → ℕ
  brought = on_sent (flight f)

  flown_alone : (n : ℕ) → Unseen flown n
  flown_alone n = record { held = λ p v. refl; shared = λ l r. refl; borrowed = λ l r. refl; locked = λ l m. refl; live = λ a c. refl; free = λ a m. refl; old = λ a. refl; copy = λ s c. refl; used = λ s w. refl }

  brought_alone : (n : ℕ) → Unseen brought n
  brought_alone n = record { held = λ p v. refl; shared = λ l r. refl; borrowed = λ l r. refl; locked = λ l m. refl; live = λ a c. refl; free = λ a m. refl; old = λ a. refl; copy = λ s c. refl; used = λ s w. refl }

  flown_unnoted : Unnoted flown
  flown_unnoted = record { mutex = λ s m. refl; queue = λ m s t. refl; note = λ s t. refl }

  brought_unnoted : Unnoted brought
  brought_unnoted = record { mutex = λ s m. refl; queue = λ m s t. refl; note = λ s t. refl }

  of_thread : (r : ℕ) (t : ThreadState) → tot flown (thread_things r true t) ≡ tot brought (thread_things r true t)
  of_thread r t =
      let x = thread_alone flown 0 (flown_alone 0) r true t in
      let y = thread_alone brought 0 (brought_alone 0) r true t in
      omega (arith, x, y)

  of_message : (r : ℕ) (m : Message) → tot flown (message_things r m) ≡ tot brought (message_things r m)
  of_message r (message.Moved x d t) = omega arith
  of_message r (message.Start t) = omega (arith, of_thread r t)
  of_message r (message.Migrate t) = omega (arith, of_thread r t)
  of_message r _ = omega arith

  of_all : {X : Type 0} (g : ℕ → X → List Thing) → ((i : ℕ) (x : X) → tot flown (g i x) ≡ tot brought (g i x)) → (i : ℕ) (xs : List X) → tot flown (things_at g i xs) ≡ tot brought (things_at g i xs)
  of_all g h i [] = omega arith
  of_all g h i (x ∷ xs) = omega (arith, h i x, of_all g h (i + 1) xs, tot-append flown (g i x) (things_at g (i + 1) xs), tot-append brought (g i x) (things_at g (i + 1) xs))

  of_server : (s : Server) → tot flown (server_things s) ≡ tot brought (server_things s)
  of_server s =
      let n = s.rest.number in
      omega (
        arith,
        seen_of flown n (flown_alone n) flown_unnoted s refl,
        seen_of brought n (brought_alone n) brought_unnoted s refl,
        none_in flown n (flown_alone n) (standing_things n) (λ i x. thread_alone flown n (flown_alone n) n false x) 0 s.threads,
        none_in brought n (brought_alone n) (standing_things n) (λ i x. thread_alone brought n (brought_alone n) n false x) 0 s.threads,
        of_all (waiting_things n) (λ i m. of_message n m) 0 s.rest.inbox,
        of_all leaving_things (λ i x. of_message x.target x.message) 0 s.rest.outbox,
      )

  of_servers : (ss : List Server) → tot flown (servers_things ss) ≡ tot brought (servers_things ss)
  of_servers [] = omega arith
  of_servers (s ∷ ss) = omega (arith, of_server s, of_servers ss, tot-append flown (server_things s) (servers_things ss), tot-append brought (server_things s) (servers_things ss))

  none_flown : (k : Cluster) → tot brought (things_of k) ≡ 0 → (w : ℕ) (c : Cell) → Among (flies w c) (things_of k) → f w ≡ 0
  none_flown k z w c h = let all : tot flown (things_of k) ≡ 0 = omega (arith, z, of_servers k.servers) in none_at flown (flies w c) (things_of k) all h

  flown_less : (x : Thing) → flown x ≤ words f x
  flown_less (flies w c) = omega arith
  flown_less x = omega arith

  none_brought : (k : Cluster) → tot (words f) (things_of k) ≡ 0 → tot brought (things_of k) ≡ 0
  none_brought k z = omega (arith, z, tot_le flown (words f) flown_less (things_of k), of_servers k.servers)

  -- AN EVENT

  module _ (k : Cluster) (e : Event) (sound : IsSound k) (few : FewEvents k) (none : tot brought (things_of k) ≡ 0)
      (kept : (s : Server) → server_at k.servers e.server ≡ Some s → Mailed (Light (flight f)) s.rest.number s.rest.outbox s.rest → Gives (λ (r : Server × EntryView). Mailed (Light (flight f)) s.rest.number s.rest.outbox r.0.rest) (does k.code k.options s e.what)) where
    abbrev Weightless : Cluster → Type 0
    Weightless c = tot brought (things_of c) ≡ 0

    acted : Gives (λ (d : Cluster × EntryView). Weightless d.0) (act_at k e)
    acted =
        then_gives (λ (d : Cluster × EntryView). Weightless d.0) (server_at k.servers e.server) _ (λ s here.
        let before : tot brought (server_things s) ≡ 0 = omega (arith, none, (tot-server brought k.servers e.server s s here).0) in
        over_gives (λ (r : Server × EntryView). Mailed (Light (flight f)) s.rest.number s.rest.outbox r.0.rest) (λ (d : Cluster × EntryView). Weightless d.0) (done_at k e.what s) _
        (test_gives (λ (r : Server × EntryView). Mailed (Light (flight f)) s.rest.number s.rest.outbox r.0.rest) (enabled k.options s e.what) _ (λ on. kept s here (letters_from (flight f) s before)))
        (λ r mail.
        let after = letters_to (flight f) r.0 (subst (λ n. AllByRecursion (Light (flight f) n) r.0.rest.inbox) (sym mail.numbered) mail.waiting) mail.leaving in
        omega (arith, none, (tot-server brought k.servers e.server s r.0 here).0, (tot-server brought k.servers e.server s r.0 here).1, after)))

    goes : Gives (λ (d : Cluster × EntryView). Weightless d.0) (apply k e)
    goes = handed_on Weightless (λ c a b same z. omega (arith, z, same brought)) k e (each_event_sends k e sound few) acted

  -- at its server
  abbrev pub Posted : Server → Server × EntryView → Type 0
  Posted s r = Mailed (Light (flight f)) s.rest.number s.rest.outbox r.0.rest

  step_posts : (k : Cluster) (s : Server) (t : ℕ) → Mailed (Light (flight f)) s.rest.number s.rest.outbox s.rest → Gives (Posted s) (does k.code k.options s (Step t))
  step_posts k s t mail = by (thread_in s.threads t)
    where
      at : (y : ThreadState) (i : Option Instr) → Gives (Posted s) (option_map (stepped s) (then_some i (λ x. step k.options.servers x (record { work = begin_work s.rest; thread = y }))))
      at y None = tt
      at y (Some i) =
          let h : Hand = record { work = begin_work s.rest; thread = y } in
          over_gives (λ (d : Stepped). Mailed (Light (flight f)) s.rest.number s.rest.outbox d.hand.work.rest) (Posted s) (step k.options.servers i h) (stepped s) (step_flies f s.rest.number s.rest.outbox k.options.servers i h mail) (λ d u. u)

      by : (x : Option ThreadState) → Gives (Posted s) (option_map (stepped s) (then_some (option_map (λ y. record { work = begin_work s.rest; thread = y }) x) (step_in k.code k.options.servers)))
      by None = tt
      by (Some y) = at y (slice_get k.code y.pc)

  landing_posts : (k : Cluster) (s : Server) (i was : ℕ) (c : Cell) (t : ℕ) → slice_get s.rest.inbox i ≡ Some (message.Moved was c t) → Mailed (Light (flight f)) s.rest.number s.rest.outbox s.rest → Gives (Posted s) (does k.code k.options s (Deliver i))
  landing_posts k s i was c t e mail =
      subst (λ o. Gives (Posted s) (option_map (left_by s.events None None) (then_some o (λ m. deliver_message k.code m (received i s))))) (sym e)
      (over_gives (λ (x : Rattle.law_walks_own.specs.Below.server_model.Work.Site). Mailed (Light (flight f)) s.rest.number s.rest.outbox x.work.rest) (Posted s) (deliver_message k.code (message.Moved was c t) (received i s)) (left_by s.events None None)
      (landing_flies f s.rest.number s.rest.outbox k.code was c t (received i s) (record { numbered = refl; waiting = remove_all (Light (flight f) s.rest.number) s.rest.inbox i mail.waiting; leaving = mail.leaving; more = mail.more; appended = mail.appended })) (λ x u. u))

-- THE WORDS OF OBJECTS UNDER WAY

-- each was issued at the start
abbrev pub FlightsIssued : Cluster → Cluster → Type 0
FlightsIssued k d = (w : ℕ) (c : Cell) → Among (flies w c) (things_of d) → issued (sight k) w ≡ true

module _ (k : Cluster) (sound : IsSound k) (few : FewEvents k) where
  abbrev unissued : ℕ → ℕ
  unissued w = other (issued (sight k) w)

  none_before : tot (brought unissued) (things_of k) ≡ 0
  none_before = none_brought unissued k sound.words.are_issued

  told : (e : Event) → Gives (λ (d : Cluster × EntryView). tot (brought unissued) (things_of d.0) ≡ 0) (apply k e) → Gives (λ (d : Cluster × EntryView). FlightsIssued k d.0) (apply k e)
  told e g = weaker (λ (d : Cluster × EntryView). tot (brought unissued) (things_of d.0) ≡ 0) (λ (d : Cluster × EntryView). FlightsIssued k d.0) (apply k e) g (λ d z w c h. other_none (issued (sight k) w) (none_flown unissued d.0 z w c h))

  pub step_flights : (number t : ℕ) → Gives (λ (d : Cluster × EntryView). FlightsIssued k d.0) (apply k (record { server = number; what = Step t }))
  step_flights number t = let e : Event = record { server = number; what = Step t } in told e (goes unissued k e sound few none_before (λ s here mail. step_posts unissued k s t mail))

  same_server : {x y : Server} → Some x ≡ Some y → x ≡ y
  same_server q = cc

  pub landing_flights : (number i was : ℕ) (s : Server) (c : Cell) (t : ℕ) → server_at k.servers number ≡ Some s → slice_get s.rest.inbox i ≡ Some (message.Moved was c t) → Gives (λ (d : Cluster × EntryView). FlightsIssued k d.0) (apply k (record { server = number; what = Deliver i }))
  landing_flights number i was s c t here at =
      let e : Event = record { server = number; what = Deliver i } in
      told e (goes unissued k e sound few none_before (λ z there mail. landing_posts unissued k z i was c t (subst (λ (x : Server). slice_get x.rest.inbox i ≡ Some (message.Moved was c t)) (same_server (sym here ∙ there)) at) mail))
