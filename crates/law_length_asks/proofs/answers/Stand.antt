-- A thread that stands at a server and isn't ready stands at one after each event: none but its own move takes it away.
use Rattle.std.proofs.Common.{◌≡◌, ◌≤◌, ℕ, zero, suc, ◌+◌, ◌==◌, not, is_some, Bool, true, false, if◌then◌else◌, List, [], ◌∷◌, Option, Some, None, refl, sym, ap, subst, ◌∙◌, arith}
use Rattle.std.specs.Prelude.{IsSome}
use Rattle.law_length_asks.proofs.Below.law_walks_others.Below.fr_typing.PlaceLemmas.{eq_cases}
use Rattle.law_length_asks.specs.Below.law_walks_others.Below.journal.View.{EntryView}
use Rattle.law_length_asks.specs.Below.law_walks_others.Below.thread_state.View.{ThreadState}
use Rattle.law_length_asks.specs.Below.law_walks_others.Below.server_msgs.declared.message.Message.{Message}
use Rattle.law_length_asks.specs.Below.law_walks_others.Below.server_msgs.declared.message.Message.TheVariants as message
use Rattle.law_length_asks.specs.Below.law_walks_others.Below.server_model.declared.event.Event.{Event}
use Rattle.law_length_asks.specs.Below.law_walks_others.Below.server_model.Servers.{Server, Cluster, server_at}
use Rattle.law_length_asks.specs.Below.law_walks_others.Below.server_model.Work.{thread_in}
use Rattle.law_length_asks.specs.Below.law_walks_others.Below.server_model.Events.{enabled, does}
use Rattle.law_length_asks.specs.Below.law_walks_others.Below.server_model.Clusters.{with_server, done_at, act_at, apply}
use Rattle.law_length_asks.specs.Below.law_walks_others.Below.coherent_memory.Names.{tot, one, if_so}
use Rattle.law_length_asks.specs.Below.law_walks_others.Below.coherent_memory.Things.{Thing, message_things, waiting_things, leaving_things, thread_things, server_things, servers_things, things_of}
use Rattle.law_length_asks.specs.Below.law_walks_others.Below.coherent_memory.Follow.{Standing, thread_at}
use Rattle.law_length_asks.specs.Below.law_walks_others.Below.coherent_memory.Sight.{sight}
use Rattle.law_length_asks.specs.Below.law_walks_others.Below.coherent_memory.Coherent.{IsSound}
use Rattle.law_length_asks.proofs.Below.law_walks_others.Below.coherent_memory.Sums.{tot-append}
use Rattle.law_length_asks.specs.Below.law_words_borrows.Below.law_words_paths.words.Reworded.{HasPlaces}
use Rattle.law_length_asks.specs.Below.law_walks_others.Below.law_counts_sums.Laws.{Gives, FewEvents}
use Rattle.law_length_asks.proofs.Below.law_walks_others.Below.law_counts_sums.Applied.{handed_on}
use Rattle.law_length_asks.proofs.Below.law_walks_others.Below.law_counts_sums.Bags.{all_standing, rest_things, server_same, thread_number, tot-without}
use Rattle.law_length_asks.proofs.Below.law_walks_others.Below.law_counts_sums.Events.{others_of, tot-server}
use Rattle.law_length_asks.proofs.Below.law_walks_others.Below.law_counts_sums.Results.{then_gives, over_gives, test_gives, weaker}
use Rattle.law_length_asks.proofs.Below.law_walks_others.Below.law_counts_sums.Sending.{each_event_sends}
use Rattle.law_length_asks.proofs.Below.law_walks_others.Below.law_counts_sums.Trades.{tot-front}
use Rattle.law_length_asks.proofs.Below.law_walks_others.Below.law_counts_sums.Unseen.{Unseen, Unnoted, none_at, thread_alone, seen_of}
use Rattle.law_length_asks.proofs.Below.law_walks_others.Below.law_heap_still.events.Told.{told, at_thread, thread_told}
use Rattle.law_length_asks.proofs.Below.law_words_borrows.Below.law_counts_things.names.Stays.{Stands, Leaves, stays}

-- it stands at a server, in no parcel
abbrev unpacked : Standing → ℕ
unpacked x = one (not x.packed)

module _ (t : ℕ) where
  abbrev f : Thing → ℕ
  f x = at_thread unpacked t x

  unseen : (m : ℕ) → Unseen f m
  unseen m = record { held = λ p v. refl; shared = λ l r. refl; borrowed = λ l r. refl; locked = λ l z. refl; live = λ a c. refl; free = λ a z. refl; old = λ a. refl; copy = λ s c. refl; used = λ s w. refl }

  unnoted : Unnoted f
  unnoted = record { mutex = λ s m. refl; queue = λ m s u. refl; note = λ s u. refl }

  -- a server at which it stands
  stands_there : (s : Server) → Stands t s.threads → 1 ≤ tot f (server_things s)
  stands_there s g = by (thread_in s.threads t) refl g
    where
      by : (o : Option ThreadState) → thread_in s.threads t ≡ o → IsSome o → 1 ≤ tot f (server_things s)
      by None e h = absurd (cc h)
      by (Some y) e h =
          let n : ℕ = s.rest.number in
          let mine : if_so (y.number == t) 1 ≡ 1 = subst (λ u. if_so (u == t) 1 ≡ 1) (sym (thread_number s.threads t y e)) (eq_cases (λ b. if_so b 1 ≡ 1) t t (λ q. refl) (λ ne. absurd (ne refl))) in
          omega (
            arith,
            mine,
            server_same s f,
            tot-append f (all_standing n s.threads) (rest_things n s.events s.rest),
            tot-without n f s.threads t y e,
            thread_alone f n (unseen n) n false y,
          )

  -- a server at which it doesn't
  off_number : (b : Bool) (m : ℕ) → b ≡ false → if_so b m ≡ 0
  off_number true m e = absurd (cc e)
  off_number false m e = refl

  standing_none : (n : ℕ) (ts : List ThreadState) → thread_in ts t ≡ None → tot f (all_standing n ts) ≡ 0
  standing_none n [] e = refl
  standing_none n (x ∷ ts) e =
      let front = tot-front (thread_things n false) f 0 x ts in
      let alone = thread_alone f n (unseen n) n false x in
      by (x.number == t) refl e (standing_none n ts) front alone
    where
      by : (b : Bool) → (x.number == t) ≡ b → (if b then Some x else thread_in ts t) ≡ None → (thread_in ts t ≡ None → tot f (all_standing n ts) ≡ 0) → tot f (all_standing n (x ∷ ts)) ≡ tot f (thread_things n false x) + tot f (all_standing n ts)
          → tot f (thread_things n false x) ≡ if_so (x.number == t) 1 → tot f (all_standing n (x ∷ ts)) ≡ 0
      by true q h go front alone = absurd (cc h)
      by false q h go front alone = omega (arith, front, alone, off_number (x.number == t) 1 q, go h)

  in_parcel : (b : Bool) → if_so b 0 ≡ 0
  in_parcel true = refl
  in_parcel false = refl

  parcel_none : (r : ℕ) (x : ThreadState) → tot f (thread_things r true x) ≡ 0
  parcel_none r x = omega (arith, thread_alone f r (unseen r) r true x, in_parcel (x.number == t))

  message_none : (r : ℕ) (m : Message) → tot f (message_things r m) ≡ 0
  message_none r (message.Start x) = omega (arith, parcel_none r x)
  message_none r (message.Migrate x) = omega (arith, parcel_none r x)
  message_none r _ = refl

  nowhere_there : (s : Server) → thread_in s.threads t ≡ None → tot f (server_things s) ≡ 0
  nowhere_there s e =
      let m : ℕ = s.rest.number in
      omega (
        arith,
        seen_of f m (unseen m) unnoted s refl,
        standing_none m s.threads e,
        none_at f m (unseen m) (waiting_things m) (λ i x. message_none m x) 0 s.rest.inbox,
        none_at f m (unseen m) leaving_things (λ i x. message_none x.target x.message) 0 s.rest.outbox,
      )

module _ (k : Cluster) (e : Event) (t : ℕ) (sound : IsSound k) (few : FewEvents k) (x : Standing) (there : thread_at (sight k).ground.threads t ≡ Some x) (whole : x.packed ≡ false) (no_move : Leaves t e.what → ⊥) where
  abbrev w : Thing → ℕ
  w = at_thread unpacked t

  abbrev Still : Cluster → Type 0
  Still c = 1 ≤ tot w (things_of c)

  before : Still k
  before =
      let one_is : told unpacked (thread_at (sight k).ground.threads t) ≡ 1 = ap (told unpacked) there ∙ ap (λ b. one (not b)) whole in
      omega (arith, one_is, thread_told unpacked t (things_of k) (sound.names.numbers_differ t))

  acted : Gives (λ (d : Cluster × EntryView). Still d.0) (act_at k e)
  acted =
      then_gives (λ (d : Cluster × EntryView). Still d.0) (server_at k.servers e.server) _ (λ s here.
      over_gives (λ (r : Server × EntryView). 1 ≤ tot w (server_things s) → 1 ≤ tot w (server_things r.0)) (λ (d : Cluster × EntryView). Still d.0) (done_at k e.what s) _
      (test_gives (λ (r : Server × EntryView). 1 ≤ tot w (server_things s) → 1 ≤ tot w (server_things r.0)) (enabled k.options s e.what) (does k.code k.options s e.what) (λ able. by s (thread_in s.threads t) refl))
      (λ r go. at s here r go))
    where
      any : (o : Option (Server × EntryView)) (s : Server) → tot w (server_things s) ≡ 0 → Gives (λ (r : Server × EntryView). 1 ≤ tot w (server_things s) → 1 ≤ tot w (server_things r.0)) o
      any None s z = tt
      any (Some r) s z = λ l. absurd (omega (arith, l, z))

      by : (s : Server) (o : Option ThreadState) → thread_in s.threads t ≡ o → Gives (λ (r : Server × EntryView). 1 ≤ tot w (server_things s) → 1 ≤ tot w (server_things r.0)) (does k.code k.options s e.what)
      by s None q = any (does k.code k.options s e.what) s (nowhere_there t s q)
      by s (Some y) q = weaker (λ (r : Server × EntryView). Stands t r.0.threads) (λ (r : Server × EntryView). 1 ≤ tot w (server_things s) → 1 ≤ tot w (server_things r.0)) (does k.code k.options s e.what)
          (stays t k.code k.options s e.what no_move (ap is_some q)) (λ r g l. stands_there t r.0 g)

      at : (s : Server) (here : server_at k.servers e.server ≡ Some s) (r : Server × EntryView) → (1 ≤ tot w (server_things s) → 1 ≤ tot w (server_things r.0)) → Still (record k { servers = with_server k.servers e.server r.0 })
      at s here r go =
          let all = before in
          let b = tot-server w k.servers e.server s r.0 here in
          split (tot w (server_things s)) refl (b.0) (b.1) all
        where
          split : (m : ℕ) → tot w (server_things s) ≡ m → tot w (things_of k) ≡ tot w (server_things s) + tot w (servers_things (others_of k.servers e.server))
              → tot w (things_of (record k { servers = with_server k.servers e.server r.0 })) ≡ tot w (server_things r.0) + tot w (servers_things (others_of k.servers e.server)) → Still k
              → Still (record k { servers = with_server k.servers e.server r.0 })
          split zero q a b2 all = omega (arith, q, a, b2, all)
          split (suc m) q a b2 all = let l = go (omega (arith, q)) in omega (arith, b2, l)

  -- so somebody of that number stands there afterwards
  pub stands_still : Gives (λ (d : Cluster × EntryView). HasPlaces d.0 → is_some (thread_at (sight d.0).ground.threads t) ≡ true) (apply k e)
  stands_still =
      weaker (λ (d : Cluster × EntryView). Still d.0) (λ (d : Cluster × EntryView). HasPlaces d.0 → is_some (thread_at (sight d.0).ground.threads t) ≡ true) (apply k e)
      (handed_on Still (λ c a b same g. omega (arith, g, same w)) k e (each_event_sends k e sound few) acted) (λ d l after. by (thread_at (sight d.0).ground.threads t) (omega (arith, l, thread_told unpacked t (things_of d.0) (after.numbers_differ t))))
    where
      by : (o : Option Standing) → 1 ≤ told unpacked o → is_some o ≡ true
      by None l = absurd (omega (arith, l))
      by (Some y) l = refl
