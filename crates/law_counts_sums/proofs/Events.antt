-- From the middle of an event to its server and its cluster.
use Rattle.std.proofs.Common.{◌≡◌, ℕ, ◌+◌, ◌==◌, Bool, true, false, if◌then◌else◌, List, [], ◌∷◌, ◌++◌, Option, Some, None, refl, sym, ap, subst, ◌∙◌, arith}
use Rattle.std.specs.Prelude.{slice_get}
use Rattle.coherent_memory.proofs.Below.fr_typing.PlaceLemmas.{eq_cases}
use Rattle.coherent_memory.specs.Below.fr_base.declared.instruction.Instr.{Instr}
use Rattle.coherent_memory.specs.Below.fr_base.declared.settings.Options.{Options}
use Rattle.coherent_memory.specs.Below.fr_base.declared.step.Fresh.{Fresh}
use Rattle.coherent_memory.specs.Below.read_cache.Cache.{Copy, copy_of, users, is_cached, can_evict, without_copy}
use Rattle.coherent_memory.specs.Below.server_msgs.declared.message.Message.{Message}
use Rattle.coherent_memory.specs.Below.journal.View.{EntryView}
use Rattle.coherent_memory.specs.Below.server_model.declared.event.Event.{Event}
use Rattle.coherent_memory.specs.Below.server_model.declared.event.What.TheVariants.{Deliver, Evict}
use Rattle.coherent_memory.specs.Below.server_model.Servers.{Server, Cluster, server_at}
use Rattle.coherent_memory.specs.Below.server_model.Work.{Work, Site, receive, with_cache, then_some}
use Rattle.coherent_memory.specs.Below.server_model.Events.{enabled, begin_at, left_by, received, deliver_message, deliver, evict_copy, does}
use Rattle.coherent_memory.specs.Below.server_model.Clusters.{with_server, done_at, act_at}
use Rattle.coherent_memory.specs.Names.{tot}
use Rattle.coherent_memory.specs.Things.{Thing, message_things, server_things, servers_things, things_of}
use Rattle.law_counts_sums.specs.Laws.{Gives}
use Rattle.law_counts_sums.proofs.Trades.{Trade, Same, tot-append, trade_left, trade_right}
use Rattle.law_counts_sums.proofs.Rules.{counts_on, evicts, Kept}
use Rattle.law_counts_sums.proofs.Results.{then_gives, over_gives, test_gives}
use Rattle.law_counts_sums.proofs.Bags.{WorkOk, SiteOk, counts_of, body_things, rest_things, all_standing, of_receiving, of_cache, server_same}
use Rattle.law_counts_sums.proofs.Chains.{rest_trades, beside_keeps}
use Rattle.law_counts_sums.proofs.Copies.{copy_goes, copy_users}

-- the servers but for the first of that number
abbrev pub others_of : List Server → ℕ → List Server
others_of [] n = []
others_of (s ∷ ss) n = if s.rest.number == n then ss else s ∷ others_of ss n

-- a server, and another state in its place
pub tot-server : (f : Thing → ℕ) (ss : List Server) (n : ℕ) (s new : Server) → server_at ss n ≡ Some s
    → (tot f (servers_things ss) ≡ tot f (server_things s) + tot f (servers_things (others_of ss n))) × (tot f (servers_things (with_server ss n new)) ≡ tot f (server_things new) + tot f (servers_things (others_of ss n)))
tot-server f [] n s new h = absurd (cc h)
tot-server f (x ∷ ss) n s new h =
    eq_cases (λ b. (if b then Some x else server_at ss n) ≡ Some s
    → (tot f (servers_things (x ∷ ss)) ≡ tot f (server_things s) + tot f (servers_things (if b then ss else x ∷ others_of ss n))) × (tot f (servers_things (if b then new ∷ ss else x ∷ with_server ss n new)) ≡ tot f (server_things new) + tot f (servers_things (if b then ss else x ∷ others_of ss n)))) x.rest.number n
    (λ q g. let same : x ≡ s = cc in (subst (λ (y : Server). tot f (servers_things (x ∷ ss)) ≡ tot f (server_things y) + tot f (servers_things ss)) same (tot-append f (server_things x) (servers_things ss)), tot-append f (server_things new) (servers_things ss)))
    (λ ne g. let go = tot-server f ss n s new g in (
      omega (arith, go.0, tot-append f (server_things x) (servers_things ss), tot-append f (server_things x) (servers_things (others_of ss n))),
      omega (arith, go.1, tot-append f (server_things x) (servers_things (with_server ss n new)), tot-append f (server_things x) (servers_things (others_of ss n))),
    )) h

module _ {K : List Thing → Type 0} (k : Kept K) where
  -- kept at its server, whatever there is beside
  abbrev pub Left : List Thing → Server × EntryView → Type 0
  Left others r = K (server_things r.0 ++ others)

  -- an event begins
  pub begins_site : (others : List Thing) (s : Server) → K (server_things s ++ others) → SiteOk K s.rest.number s.events others (begin_at s)
  begins_site others s g =
      let n = s.rest.number in record {
        number = refl;
        bag = k.same _ _ (λ f. omega (arith, server_same s f, tot-append f (server_things s) others, tot-append f (all_standing n s.threads) (rest_things n s.events s.rest), tot-append f (all_standing n s.threads) (rest_things n s.events s.rest ++ others), tot-append f (rest_things n s.events s.rest) others)) g;
      }

  -- one event more is counted
  pub ends_site : (n e : ℕ) (others : List Thing) (t : Option ℕ) (names : Option Fresh) (x : Site) → SiteOk K n e others x → Left others (left_by e t names x)
  ends_site n e others t names x g =
      let s2 : Server = record { rest = x.work.rest; threads = x.threads; events = e + 1 } in
      let r = x.work.rest in
      let threads = all_standing n x.threads in
      let alone : Trade (rest_things n e r) (counts_of n e r ∷ []) (counts_of n (e + 1) r ∷ []) (rest_things n (e + 1) r) = record { rest = body_things n r; before = λ f. omega arith; after = λ f. omega arith } in
      let counted : Trade (threads ++ (rest_things n e r ++ others)) (counts_of n e r ∷ []) (counts_of n (e + 1) r ∷ []) (threads ++ (rest_things n (e + 1) r ++ others)) = trade_left threads (trade_right others alone) in
      let more : K (threads ++ (rest_things n (e + 1) r ++ others)) = k.trades counted (counts_on n _ _ _ _ e _ _ _ (e + 1)) g.bag in
      let here : K (all_standing r.number x.threads ++ (rest_things r.number (e + 1) r ++ others)) = subst (λ i. K (all_standing i x.threads ++ (rest_things i (e + 1) r ++ others))) (sym g.number) more in
      k.same _ _ (λ f.
      let m = r.number in
      omega (arith, server_same s2 f, tot-append f (server_things s2) others, tot-append f (all_standing m x.threads) (rest_things m (e + 1) r), tot-append f (all_standing m x.threads) (rest_things m (e + 1) r ++ others), tot-append f (rest_things m (e + 1) r) others)) here

  -- a message is taken out, and what it is and carries is in the hand
  pub receives_site : (others : List Thing) (s : Server) (i : ℕ) (m : Message) → slice_get s.rest.inbox i ≡ Some m → K (server_things s ++ others) → SiteOk K s.rest.number s.events (message_things s.rest.number m ++ others) (received i s)
  receives_site others s i m q g =
      let n = s.rest.number in
      let e = s.events in
      let b = begins_site others s g in
      let t = of_receiving n e s.rest i m q in
      let r2 = receive s.rest i in record {
        number = refl;
        bag = k.same _ _ (λ f.
            let threads = all_standing n s.threads in
            omega (arith, t.before f, t.after f, tot-append f threads (rest_things n e s.rest ++ others), tot-append f (rest_things n e s.rest) others, tot-append f threads (rest_things n e r2 ++ (message_things n m ++ others)), tot-append f (rest_things n e r2) (message_things n m ++ others), tot-append f (message_things n m) others)) b.bag;
      }

  pub delivers : (code : List Instr) (o : Options) (others : List Thing) (s : Server) (i : ℕ) (m : Message) → slice_get s.rest.inbox i ≡ Some m
      → (SiteOk K s.rest.number s.events (message_things s.rest.number m ++ others) (received i s) → Gives (SiteOk K s.rest.number s.events others) (deliver_message code m (received i s)))
      → K (server_things s ++ others) → Gives (Left others) (does code o s (Deliver i))
  delivers code o others s i m q go g =
      over_gives (SiteOk K s.rest.number s.events others) (Left others) (deliver code i s) (left_by s.events None None)
      (subst (λ x. Gives (SiteOk K s.rest.number s.events others) (then_some x (λ y. deliver_message code y (received i s)))) (sym q) (go (receives_site others s i m q g)))
      (λ x u. ends_site s.rest.number s.events others None None x u)

  -- EVICTIONS

  evicts_copy : (n e : ℕ) (others : List Thing) (w : ℕ) (x : Work) → WorkOk K n e others x → Gives (WorkOk K n e others) (evict_copy w x)
  evicts_copy n e others w x g = by (can_evict x.rest.cache w) refl (copy_of x.rest.cache w) refl
    where
      both : (p q : Bool) → (Rattle.std.specs.Prelude.◌&&◌ p q) ≡ true → (p ≡ true) × (q ≡ true)
      both true q z = (refl, z)
      both false q z = absurd (cc z)

      by : (b : Bool) → can_evict x.rest.cache w ≡ b → (o : Option Copy) → copy_of x.rest.cache w ≡ o
          → Gives (WorkOk K n e others) (if b then Some (Rattle.coherent_memory.specs.Below.server_model.Work.note (Rattle.coherent_memory.specs.Below.journal.declared.act.Act.TheVariants.Evict w) (with_cache (if b then without_copy x.rest.cache w else x.rest.cache) x)) else None)
      by false a o q = tt
      by true a None q = let z : is_cached x.rest.cache w ≡ false = ap Rattle.std.specs.Prelude.is_some q in let y = (both (is_cached x.rest.cache w) (users x.rest.cache w == 0) a).0 in absurd (cc (sym z ∙ y))
      by true a (Some c) q =
          let y = (both (is_cached x.rest.cache w) (users x.rest.cache w == 0) a).1 in
          let none : c.users ≡ 0 = sym (copy_users x.rest.cache w c q) ∙ Rattle.std.proofs.lemmas.Bool.eqb-true (users x.rest.cache w) 0 y in
          let left = rest_trades k n e others x (with_cache (without_copy x.rest.cache w) x) refl (of_cache n e x.rest (without_copy x.rest.cache w) (copy_goes n x.rest.cache w c q)) (evicts n c none) g in
          record { number = left.number; bag = left.bag }

  pub evicts_keep : (code : List Instr) (o : Options) (others : List Thing) (s : Server) (w : ℕ) → K (server_things s ++ others) → Gives (Left others) (does code o s (Evict w))
  evicts_keep code o others s w g =
      over_gives (SiteOk K s.rest.number s.events others) (Left others) _ (left_by s.events None None)
      (beside_keeps k s.rest.number s.events others others (evict_copy w) (begin_at s) (λ x b u. evicts_copy s.rest.number s.events (b ++ others) w x u) (begins_site others s g))
      (λ x u. ends_site s.rest.number s.events others None None x u)

  -- CLUSTERS

  -- an event of a server, with the things of the others beside it
  pub acts_beside : (c : Cluster) (e : Event)
      → ((s : Server) → server_at c.servers e.server ≡ Some s → (others : List Thing) → Same (things_of c) (server_things s ++ others) → Gives (Left others) (does c.code c.options s e.what))
      → Gives (λ d. K (things_of d.0)) (act_at c e)
  acts_beside c e go =
      then_gives (λ d. K (things_of d.0)) (server_at c.servers e.server) _ (λ s h.
      let others = servers_things (others_of c.servers e.server) in
      let same : Same (things_of c) (server_things s ++ others) = λ f. omega (arith, (tot-server f c.servers e.server s s h).0, tot-append f (server_things s) others) in
      over_gives (Left others) (λ d. K (things_of d.0)) (done_at c e.what s) _
      (test_gives (Left others) (enabled c.options s e.what) (does c.code c.options s e.what) (λ on. go s h others same))
      (λ r u. k.same _ _ (λ f. omega (arith, (tot-server f c.servers e.server s r.0 h).1, tot-append f (server_things r.0) others)) u))

  pub acts : (c : Cluster) (e : Event) → ((s : Server) → server_at c.servers e.server ≡ Some s → (others : List Thing) → K (server_things s ++ others) → Gives (Left others) (does c.code c.options s e.what))
      → K (things_of c) → Gives (λ d. K (things_of d.0)) (act_at c e)
  acts c e go g = acts_beside c e (λ s h others same. go s h others (k.same _ _ same g))
