-- Who gets a copy waits for none any more.
use Rattle.std.proofs.Common.{◌≡◌, ℕ, ◌+◌, ◌≤◌, ◌==◌, ◌&&◌, Bool, true, false, List, [], ◌∷◌, ◌++◌, Option, Some, None, refl, sym, ap, subst, ◌∙◌, arith}
use Rattle.std.specs.Prelude.{slice_get, option_map, remove}
use Rattle.std.proofs.lemmas.Bool.Decides.{nat_tests}
use Rattle.law_walks_others.specs.Below.fr_base.Lists.{is_in}
use Rattle.law_walks_others.specs.Below.heap_partition.declared.value.Cell.{Cell}
use Rattle.law_walks_others.specs.Below.read_cache.Cache.{can_fill, can_pin}
use Rattle.law_walks_others.specs.Below.thread_state.View.{ThreadState}
use Rattle.law_walks_others.specs.Below.thread_state.declared.phase.Phase.{Phase}
use Rattle.law_walks_others.specs.Below.thread_state.declared.phase.Phase.TheVariants as phase
use Rattle.law_walks_others.specs.Below.server_msgs.declared.message.Message.TheVariants as message
use Rattle.law_walks_others.specs.Below.journal.View.{EntryView}
use Rattle.law_walks_others.specs.Below.server_model.declared.event.Event.{Event}
use Rattle.law_walks_others.specs.Below.server_model.declared.event.What.TheVariants.{Deliver}
use Rattle.law_walks_others.specs.Below.server_model.Servers.{Server, Cluster, server_at}
use Rattle.law_walks_others.specs.Below.server_model.Work.{Hand, Site, receive, then_some, thread_in, set_thread, put_back, at_thread, used_once}
use Rattle.law_walks_others.specs.Below.server_model.Objects.{waits_for_cell, filled, deliver_fetched}
use Rattle.law_walks_others.specs.Below.server_model.Events.{begin_work, enabled, received, left_by, deliver_message, does}
use Rattle.law_walks_others.specs.Below.server_model.Clusters.{done_at, act_at, apply}
use Rattle.law_walks_others.specs.Below.coherent_memory.Names.{tot, one, Among}
use Rattle.law_walks_others.specs.Below.coherent_memory.Things.{Thing, stands, things_at, message_things, waiting_things, leaving_things, server_things, things_of}
use Rattle.law_walks_others.specs.Below.coherent_memory.Follow.{Standing, threads_in}
use Rattle.law_walks_others.specs.Below.coherent_memory.Weights.{is_thread}
use Rattle.law_walks_others.specs.Below.coherent_memory.Coherent.{IsSound}
use Rattle.law_walks_others.proofs.Below.coherent_memory.Words.{none_at}
use Rattle.law_walks_others.specs.Below.law_counts_sums.Laws.{Gives, FewEvents}
use Rattle.law_walks_others.proofs.Below.law_counts_sums.Results.{then_gives, over_gives, test_gives, weaker}
use Rattle.law_walks_others.proofs.Below.law_counts_sums.Trades.{tot-remove}
use Rattle.law_walks_others.proofs.Below.law_counts_sums.Bags.{all_standing, tot-without, tot-set, thread_number}
use Rattle.law_walks_others.proofs.Below.law_counts_sums.Unseen.{Unseen, Unnoted, thread_alone, seen_of}
use Rattle.law_walks_others.proofs.Below.law_counts_sums.KnownSound.{on_standing, sum_standing}
use Rattle.law_walks_others.proofs.Below.law_counts_sums.Events.{tot-server}
use Rattle.law_walks_others.proofs.Below.law_counts_sums.Applied.{handed_on}
use Rattle.law_walks_others.proofs.Below.law_counts_sums.Sending.{each_event_sends}
use Rattle.law_walks_others.specs.Below.law_words_paths.words.Unmoved.{Delivers}

-- it waits for an object or a copy
abbrev pub waits_cell : Phase → Bool
waits_cell (phase.WaitCell w) = true
waits_cell p = false

abbrev pub awaits : ℕ → Standing → ℕ
awaits t x = one (x.thread.number == t && waits_cell x.thread.phase)

abbrev pub waiting : ℕ → Thing → ℕ
waiting t x = on_standing (awaits t) x

waits_for : (p : Phase) (w : ℕ) → waits_for_cell p w ≡ true → waits_cell p ≡ true
waits_for (phase.WaitCell v) w e = refl
waits_for p w e = absurd (cc e)

pub is_one : (a b : Bool) → a ≡ true → b ≡ true → one (a && b) ≡ 1
is_one true true e f = refl
is_one true false e f = absurd (cc f)
is_one false b e f = absurd (cc e)

one_less : (a b : Bool) → one (a && b) ≤ one a
one_less true true = omega arith
one_less true false = omega arith
one_less false b = omega arith

none_last : (a : Bool) → one (a && false) ≡ 0
none_last true = refl
none_last false = refl

pub same_true : (m n : ℕ) → m ≡ n → (m == n) ≡ true
same_true m n e = grind (arith, nat_tests, e)

module _ (t : ℕ) where
  abbrev f : Thing → ℕ
  f x = waiting t x

  unseen : (n : ℕ) → Unseen f n
  unseen n = record { held = λ p v. refl; shared = λ l r. refl; borrowed = λ l r. refl; locked = λ l m. refl; live = λ a c. refl; free = λ a m. refl; old = λ a. refl; copy = λ s c. refl; used = λ s x. refl }

  unnoted : Unnoted f
  unnoted = record { mutex = λ s m. refl; queue = λ m s u. refl; note = λ s u. refl }

  -- no more threads than there are of that number
  pub few_wait : (b : List Thing) → tot f b ≤ tot (is_thread t) b
  few_wait [] = omega arith
  few_wait (x ∷ b) = omega (arith, each x, few_wait b)
    where
      each : (x : Thing) → f x ≤ is_thread t x
      each (stands s p y) = one_less (y.number == t) (waits_cell y.phase)
      each _ = omega arith

  -- where none waits, none of that number does
  pub unwaiting : (z : Cluster) → tot f (things_of z) ≡ 0 → (x : Standing) → Among x (threads_in (things_of z)) → x.thread.number ≡ t → waits_cell x.thread.phase ≡ false
  unwaiting z none x among number = by (waits_cell x.thread.phase) refl
    where
      by : (b : Bool) → waits_cell x.thread.phase ≡ b → waits_cell x.thread.phase ≡ false
      by true e =
          let all : tot (awaits t) (threads_in (things_of z)) ≡ 0 = omega (arith, none, sum_standing (awaits t) (things_of z)) in
          let mine : awaits t x ≡ 1 = is_one (x.thread.number == t) (waits_cell x.thread.phase) (same_true x.thread.number t number) e in
          absurd (omega (arith, mine, none_at (awaits t) x (threads_in (things_of z)) all among))
      by false e = e

  module _ (s : Server) (i w : ℕ) (c : Cell) (q : slice_get s.rest.inbox i ≡ Some (message.Fetched w c t)) where
    abbrev n : ℕ
    n = s.rest.number

    -- what a copy that comes leaves
    record Left (y : ThreadState) (h : Hand) : Type 0 where
      number : h.work.rest.number ≡ n
      inbox : h.work.rest.inbox ≡ remove s.rest.inbox i
      outbox : h.work.rest.outbox ≡ s.rest.outbox
      thread : h.thread.number ≡ y.number

    abbrev Less : Server × EntryView → Type 0
    Less r = tot f (server_things r.0) + 1 ≤ tot f (server_things s)

    uses : (y : ThreadState) (b : Bool) (h : Hand) → Left y h → Gives (Left y) (used_once w b h)
    uses y true h g = g
    uses y false h g = test_gives (Left y) (can_pin h.work.rest.cache w) _ (λ z. record { number = g.number; inbox = g.inbox; outbox = g.outbox; thread = g.thread })

    fills : (y : ThreadState) → Gives (Left y) (filled w c (record { work = begin_work (receive s.rest i); thread = y }))
    fills y = test_gives (Left y) (can_fill s.rest.cache w c) _ (λ p. uses y (is_in w y.walk) _ (record { number = refl; inbox = refl; outbox = refl; thread = refl }))

    abbrev Good : Site → Type 0
    Good x = Less (left_by s.events None None x)

    gets : (y : ThreadState) → thread_in s.threads t ≡ Some y → waits_for_cell y.phase w ≡ true → (h : Hand) → Left y h → Good (put_back s.threads (record h { thread = record h.thread { phase = phase.Got } }))
    gets y here waits h g =
        let new : ThreadState = record h.thread { phase = phase.Got } in
        let s2 : Server = record { rest = h.work.rest; threads = set_thread s.threads new; events = s.events + 1 } in
        let number : y.number ≡ t = thread_number s.threads t y here in
        let was : f (stands n false y) ≡ 1 = is_one (y.number == t) (waits_cell y.phase) (same_true y.number t number) (waits_for y.phase w waits) in
        let is : f (stands n false new) ≡ 0 = none_last (h.thread.number == t) in
        let after : tot f (server_things s2) ≡ tot f (all_standing n s2.threads) + tot f (things_at (waiting_things n) 0 (remove s.rest.inbox i)) + tot f (things_at leaving_things 0 s.rest.outbox) = seen s2 g.number g.inbox g.outbox in
        omega (
          arith,
          after,
          seen_of f n (unseen n) unnoted s refl,
          tot-remove (λ x. message_things n x) f 0 s.rest.inbox i (message.Fetched w c t) q,
          tot-without n f s.threads t y here,
          tot-set n f s.threads t y new here (g.thread ∙ number),
          thread_alone f n (unseen n) n false y,
          thread_alone f n (unseen n) n false new,
          was,
          is,
        )
      where
        seen : (s2 : Server) → s2.rest.number ≡ n → s2.rest.inbox ≡ remove s.rest.inbox i → s2.rest.outbox ≡ s.rest.outbox
            → tot f (server_things s2) ≡ tot f (all_standing n s2.threads) + tot f (things_at (waiting_things n) 0 (remove s.rest.inbox i)) + tot f (things_at leaving_things 0 s.rest.outbox)
        seen s2 a b d =
            let it : tot f (server_things s2) ≡ tot f (all_standing n s2.threads) + tot f (things_at (waiting_things n) 0 s2.rest.inbox) + tot f (things_at leaving_things 0 s2.rest.outbox) =
            subst (λ m. tot f (server_things s2) ≡ tot f (all_standing m s2.threads) + tot f (things_at (waiting_things m) 0 s2.rest.inbox) + tot f (things_at leaving_things 0 s2.rest.outbox)) a (omega (arith, seen_of f s2.rest.number (unseen s2.rest.number) unnoted s2 refl)) in
            let in_it = ap (λ l. tot f (things_at (waiting_things n) 0 l)) b in
            let out_it = ap (λ l. tot f (things_at leaving_things 0 l)) d in
            omega (arith, it, in_it, out_it)

    comes : Gives Good (at_thread t (deliver_fetched w c) (received i s))
    comes = by (thread_in s.threads t) refl
      where
        by : (o : Option ThreadState) → thread_in s.threads t ≡ o → Gives Good (then_some (option_map (λ y. record { work = begin_work (receive s.rest i); thread = y }) o) (λ h. option_map (put_back s.threads) (deliver_fetched w c h)))
        by None e = tt
        by (Some y) e =
            over_gives (λ (h : Hand). Good (put_back s.threads h)) Good (deliver_fetched w c (record { work = begin_work (receive s.rest i); thread = y })) (put_back s.threads)
            (test_gives (λ (h : Hand). Good (put_back s.threads h)) (waits_for_cell y.phase w) _ (λ z.
            over_gives (Left y) (λ (h : Hand). Good (put_back s.threads h)) (filled w c (record { work = begin_work (receive s.rest i); thread = y })) _ (fills y) (λ h g.
            gets y e z (record h { work = record h.work { acts = h.work.acts ++ Rattle.law_walks_others.specs.Below.journal.declared.act.Act.TheVariants.Fill c.object w ∷ [] } }) (record { number = g.number; inbox = g.inbox; outbox = g.outbox; thread = g.thread })))) (λ h a. a)

    goes : (code : List Rattle.law_walks_others.specs.Below.fr_base.declared.instruction.Instr.Instr) (o : Rattle.law_walks_others.specs.Below.fr_base.declared.settings.Options.Options) → Gives Less (does code o s (Deliver i))
    goes code o =
        subst (λ m. Gives Less (option_map (left_by s.events None None) (then_some m (λ x. deliver_message code x (received i s))))) (sym q)
        (over_gives Good Less (at_thread t (deliver_fetched w c) (received i s)) (left_by s.events None None) comes (λ x a. a))

  module _ (k : Cluster) (e : Event) (w : ℕ) (c : Cell) (d : Delivers k e (message.Fetched w c t)) (sound : IsSound k) (few : FewEvents k) where
    abbrev None_waits : Cluster → Type 0
    None_waits z = tot f (things_of z) ≡ 0

    acted : Gives (λ (r : Cluster × EntryView). None_waits r.0) (act_at k e)
    acted =
        then_gives (λ (r : Cluster × EntryView). None_waits r.0) (server_at k.servers e.server) _ (λ s here.
        let same : d.server ≡ s = is (sym d.there ∙ here) in
        let message_there : slice_get s.rest.inbox d.place ≡ Some (message.Fetched w c t) = ap (λ (x : Server). slice_get x.rest.inbox d.place) (sym same) ∙ d.message in
        over_gives (Less s d.place w c message_there) (λ (r : Cluster × EntryView). None_waits r.0) (done_at k e.what s) _
        (test_gives (Less s d.place w c message_there) (enabled k.options s e.what) (does k.code k.options s e.what) (λ able.
        subst (λ what. Gives (Less s d.place w c message_there) (does k.code k.options s what)) (sym d.what) (goes s d.place w c message_there k.code k.options)))
        (λ r less. omega (arith, less, few_wait (things_of k), sound.names.numbers_differ t, (tot-server f k.servers e.server s r.0 here).0, (tot-server f k.servers e.server s r.0 here).1)))
      where
        is : {a b : Server} → Some a ≡ Some b → a ≡ b
        is h = cc

    none_waits : Gives (λ (r : Cluster × EntryView). None_waits r.0) (apply k e)
    none_waits = handed_on None_waits (λ z x y same g. omega (arith, g, same f)) k e (each_event_sends k e sound few) acted

    -- so it doesn't wait for an object or a copy then
    pub filled_waits : Gives (λ (r : Cluster × EntryView). (x : Standing) → Among x (threads_in (things_of r.0)) → x.thread.number ≡ t → waits_cell x.thread.phase ≡ false) (apply k e)
    filled_waits = weaker (λ (r : Cluster × EntryView). None_waits r.0) _ (apply k e) none_waits (λ r none. unwaiting r.0 none)
