-- From what shows alike at a server to the one heap of its cluster, with its messages handed over.
use Rattle.std.proofs.Common.{◌≡◌, true, ℕ, ◌+◌, List, [], ◌++◌, length, take, drop, Option, Some, None, refl, sym, ap, subst, ◌∙◌, arith}
use Rattle.std.specs.Bool.{⊤}
use Rattle.std.specs.Prelude.{slice_get}
use Rattle.law_counts_sums.specs.Below.fr_base.declared.step.Fresh.{Fresh}
use Rattle.law_counts_sums.specs.Below.fr_plain.PlainState.{SameState}
use Rattle.law_counts_sums.specs.Below.journal.View.{EntryView}
use Rattle.law_counts_sums.specs.Below.server_msgs.declared.message.Message.{Message}
use Rattle.law_counts_sums.specs.Below.server_model.declared.event.Event.{Event}
use Rattle.law_counts_sums.specs.Below.server_model.declared.event.What.TheVariants.{Deliver}
use Rattle.law_counts_sums.specs.Below.server_model.Servers.{Rest, Server, Cluster, server_at}
use Rattle.law_counts_sums.specs.Below.server_model.Work.{Work, Site, then_some, receive, send, beside_threads}
use Rattle.law_counts_sums.specs.Below.server_model.Events.{enabled, begin_at, left_by, received, deliver_message, deliver, does}
use Rattle.law_counts_sums.specs.Below.server_model.Clusters.{with_server, hand_over_newer, done_at, apply}
use Rattle.law_counts_sums.specs.Below.coherent_memory.Names.{tot}
use Rattle.law_counts_sums.specs.Below.coherent_memory.Things.{Thing, message_things, server_things, servers_things, things_of}
use Rattle.law_counts_sums.specs.Below.coherent_memory.Sight.{sight}
use Rattle.law_counts_sums.specs.Below.coherent_memory.OneHeap.{one_heap}
use Rattle.law_counts_sums.specs.Below.coherent_memory.Coherent.{IsSound}
use Rattle.law_counts_sums.specs.Laws.{Gives, GoTo, FewEvents}
use Rattle.law_counts_sums.proofs.Trades.{Trade, tot-append}
use Rattle.law_counts_sums.proofs.Results.{then_gives, over_gives, both_give, test_gives, weaker}
use Rattle.law_counts_sums.proofs.Bags.{all_standing, rest_things, of_sending, of_receiving, server_same, sent_number}
use Rattle.law_counts_sums.proofs.Events.{tot-server}
use Rattle.law_counts_sums.proofs.Applied.{go_with}
use Rattle.law_counts_sums.proofs.Handing.{hand_over_newer_law}
use Rattle.law_counts_sums.proofs.Sending.{each_event_sends}
use Rattle.law_heap_still.specs.events.Shows.{Sign, nothing, sign_of, Counts, ShowAlike}
use Rattle.law_heap_still.specs.events.Laws.{LeavesHeap}
use Rattle.law_heap_still.proofs.events.Alike.{Once, counts_same_heap}

-- how much of what is shown
abbrev pub shown : (Sign → ℕ) → List Thing → ℕ
shown w b = tot (λ x. w (sign_of x)) b

-- WHAT SHOWS ALIKE

-- what goes and what comes show alike
pub trade_alike : (a olds news b : List Thing) → Trade a olds news b → ShowAlike olds news → ShowAlike a b
trade_alike a olds news b t e w z = let f : Thing → ℕ = λ x. w (sign_of x) in omega (arith, t.before f, t.after f, e w z)

pub then_alike : (a b c : List Thing) → ShowAlike a b → ShowAlike b c → ShowAlike a c
then_alike a b c e f w z = e w z ∙ f w z

-- A SITE

-- the things of a server in the middle of an event; how many events were done isn't shown
abbrev pub site_things : Site → List Thing
site_things x = all_standing x.work.rest.number x.threads ++ rest_things x.work.rest.number 0 x.work.rest

-- an event's beginning and end show nothing
pub begins : (s : Server) → ShowAlike (server_things s) (site_things (begin_at s))
begins s w z = let f : Thing → ℕ = λ x. w (sign_of x) in omega (arith, server_same s f, tot-append f (all_standing s.rest.number s.threads) (rest_things s.rest.number s.events s.rest), tot-append f (all_standing s.rest.number s.threads) (rest_things s.rest.number 0 s.rest))

pub ends : (e : ℕ) (t : Option ℕ) (names : Option Fresh) (x : Site) → ShowAlike (site_things x) (server_things (left_by e t names x).0)
ends e t names x w z =
    let f : Thing → ℕ = λ x. w (sign_of x) in
    let n = x.work.rest.number in
    omega (arith, server_same (left_by e t names x).0 f, tot-append f (all_standing n x.threads) (rest_things n (e + 1) x.work.rest), tot-append f (all_standing n x.threads) (rest_things n 0 x.work.rest))

-- another site shows the same, with these things beside the first and those beside the second
abbrev pub Leaves : List Thing → List Thing → Site → Site → Type 0
Leaves gone hand x y = ShowAlike (gone ++ site_things x) (hand ++ site_things y)

-- the same with nothing beside the second
abbrev pub Still : List Thing → Site → Site → Type 0
Still gone x y = Leaves gone [] x y

-- what a step changes beside the threads: these things go into it, and these are in its hand
pub record Moves (gone hand : List Thing) (r r2 : Rest) : Type 0 where
  pub number : r2.number ≡ r.number
  pub alike : ShowAlike (gone ++ rest_things r.number 0 r) (hand ++ rest_things r.number 0 r2)

pub beside_leaves : (gone hand : List Thing) (x : Site) (y : Work) → Moves gone hand x.work.rest y.rest → Leaves gone hand x (record x { work = y })
beside_leaves gone hand x y s w z =
    let f : Thing → ℕ = λ x. w (sign_of x) in
    let n = x.work.rest.number in
    let threads = all_standing n x.threads in
    let there : shown w (site_things (record x { work = y })) ≡ shown w (threads ++ rest_things n 0 y.rest) = ap (λ m. shown w (all_standing m x.threads ++ rest_things m 0 y.rest)) s.number in
    omega (
      arith,
      there,
      s.alike w z,
      tot-append f gone (threads ++ rest_things n 0 x.work.rest),
      tot-append f gone (rest_things n 0 x.work.rest),
      tot-append f hand (site_things (record x { work = y })),
      tot-append f hand (rest_things n 0 y.rest),
      tot-append f threads (rest_things n 0 x.work.rest),
      tot-append f threads (rest_things n 0 y.rest),
    )

pub beside_still : (gone : List Thing) (f : Work → Option Work) (x : Site) → Gives (λ (w : Work). Moves gone [] x.work.rest w.rest) (f x.work) → Gives (Still gone x) (beside_threads f x)
beside_still gone f x g = over_gives (λ (w : Work). Moves gone [] x.work.rest w.rest) (Still gone x) (f x.work) (λ w. record x { work = w }) g (λ y s. beside_leaves gone [] x y s)

-- what is in the hand goes with a message
pub sends : (gone hand : List Thing) (r : Rest) (w : Work) (target : ℕ) (m : Message) → Moves gone hand r w.rest → ShowAlike hand (message_things target m) → Moves gone [] r (send target m w).rest
sends gone hand r w target m s e = record {
  number = sent_number w.rest target m ∙ s.number;
  alike = λ v z.
      let f : Thing → ℕ = λ x. v (sign_of x) in
      let t = of_sending r.number 0 w.rest s.number target m in
      omega (arith, t.before f, t.after f, s.alike v z, e v z, tot-append f hand (rest_things r.number 0 w.rest));
}

-- A SERVER AND ITS CLUSTER

-- weights of one class have the same sums over both
abbrev pub AlikeBy : ((Sign → ℕ) → Type 0) → List Thing → List Thing → Type 0
AlikeBy Class a b = (w : Sign → ℕ) → w nothing ≡ 0 → Class w → shown w a ≡ shown w b

-- all that counts in cluster k is shown by the server afterwards
abbrev pub ServerStill : Cluster → Server → Server × EntryView → Type 0
ServerStill k s r = AlikeBy (Counts (sight k)) (server_things s) (server_things r.0)

-- what a message has counts as what goes into a site, less what is beside the site afterwards
abbrev pub CountsAs : ((Sign → ℕ) → Type 0) → List Thing → List Thing → List Thing → Type 0
CountsAs Class has gone hand = (w : Sign → ℕ) → w nothing ≡ 0 → Class w → shown w has + shown w hand ≡ shown w gone

-- so a site takes a message, or the rest of a server does
pub record TakesBy (Class : (Sign → ℕ) → Type 0) (has : List Thing) (x y : Site) : Type 0 where
  pub gone : List Thing
  pub hand : List Thing
  pub leaves : Leaves gone hand x y
  pub counts : CountsAs Class has gone hand

pub record RestTakesBy (Class : (Sign → ℕ) → Type 0) (has : List Thing) (r r2 : Rest) : Type 0 where
  pub gone : List Thing
  pub hand : List Thing
  pub moves : Moves gone hand r r2
  pub counts : CountsAs Class has gone hand

abbrev pub Takes : Cluster → List Thing → Site → Site → Type 0
Takes k has x y = TakesBy (Counts (sight k)) has x y

abbrev pub RestTakes : Cluster → List Thing → Rest → Rest → Type 0
RestTakes k has r r2 = RestTakesBy (Counts (sight k)) has r r2

pub site_takes_by : (Class : (Sign → ℕ) → Type 0) (has : List Thing) (x : Site) (y : Work) → RestTakesBy Class has x.work.rest y.rest → TakesBy Class has x (record x { work = y })
site_takes_by Class has x y s = record { gone = s.gone; hand = s.hand; leaves = beside_leaves s.gone s.hand x y s.moves; counts = s.counts }

pub site_takes : (k : Cluster) (has : List Thing) (x : Site) (y : Work) → RestTakes k has x.work.rest y.rest → Takes k has x (record x { work = y })
site_takes k has x y s = site_takes_by (Counts (sight k)) has x y s

pub beside_takes : (k : Cluster) (has : List Thing) (f : Work → Option Work) (x : Site) → Gives (λ (w : Work). RestTakes k has x.work.rest w.rest) (f x.work) → Gives (Takes k has x) (beside_threads f x)
beside_takes k has f x g =
    over_gives (λ (w : Work). RestTakes k has x.work.rest w.rest) (Takes k has x) (f x.work) (λ w. record x { work = w }) g (λ y s. site_takes k has x y s)

-- whatever counts, all that the message has goes into it
pub all_taken : (k : Cluster) (has : List Thing) (x y : Site) → Still has x y → Takes k has x y
all_taken k has x y e = record { gone = has; hand = []; leaves = e; counts = λ w z c. omega arith }

pub takes_all : (k : Cluster) (has : List Thing) (r r2 : Rest) → Moves has [] r r2 → RestTakes k has r r2
takes_all k has r r2 e = record { gone = has; hand = []; moves = e; counts = λ w z c. omega arith }

-- a delivery: the message and what it carries are beside the site
pub deliveries_in : (Class : (Sign → ℕ) → Type 0) (k : Cluster) (s : Server) (i : ℕ) (m : Message) → slice_get s.rest.inbox i ≡ Some m
    → Gives (TakesBy Class (message_things s.rest.number m) (received i s)) (deliver_message k.code m (received i s)) → Gives (λ r. AlikeBy Class (server_things s) (server_things r.0)) (does k.code k.options s (Deliver i))
deliveries_in Class k s i m q g =
    over_gives Taken (λ r. AlikeBy Class (server_things s) (server_things r.0)) (deliver k.code i s) (left_by s.events None None)
    (subst (λ o. Gives Taken (then_some o (λ y. deliver_message k.code y (received i s)))) (sym q) g) still
  where
    Taken : Site → Type 0
    Taken x = TakesBy Class (message_things s.rest.number m) (received i s) x

    still : (x : Site) → Taken x → AlikeBy Class (server_things s) (server_things (left_by s.events None None x).0)
    still x e w z c =
        let f : Thing → ℕ = λ x. w (sign_of x) in
        let n = s.rest.number in
        let t = of_receiving n 0 s.rest i m q in
        let threads = all_standing n s.threads in
        let r2 = receive s.rest i in
        omega (
          arith,
          begins s w z,
          t.before f,
          t.after f,
          e.leaves w z,
          e.counts w z c,
          ends s.events None None x w z,
          tot-append f threads (rest_things n 0 s.rest),
          tot-append f e.gone (threads ++ rest_things n 0 r2),
          tot-append f threads (rest_things n 0 r2),
          tot-append f e.hand (site_things x),
        )

pub deliveries_by : (k : Cluster) (s : Server) (i : ℕ) (m : Message) → slice_get s.rest.inbox i ≡ Some m → Gives (Takes k (message_things s.rest.number m) (received i s)) (deliver_message k.code m (received i s))
    → Gives (ServerStill k s) (does k.code k.options s (Deliver i))
deliveries_by k s i m q g = deliveries_in (Counts (sight k)) k s i m q g

pub deliveries : (k : Cluster) (s : Server) (i : ℕ) (m : Message) → slice_get s.rest.inbox i ≡ Some m → Gives (Still (message_things s.rest.number m) (received i s)) (deliver_message k.code m (received i s))
    → Gives (ServerStill k s) (does k.code k.options s (Deliver i))
deliveries k s i m q g =
    deliveries_by k s i m q (weaker (Still (message_things s.rest.number m) (received i s)) (Takes k (message_things s.rest.number m) (received i s)) (deliver_message k.code m (received i s)) g (λ x e. all_taken k (message_things s.rest.number m) (received i s) x e))

-- what shows alike at its server, where the entry is of that sort, leaves the one heap
module _ (Sort : EntryView → Type 0) (Class : (Sign → ℕ) → Type 0) where
  abbrev StillThere : Server → Server × EntryView → Type 0
  StillThere s r = Sort r.1 → AlikeBy Class (server_things s) (server_things r.0)

  abbrev Goes : Cluster → Event → Server → Server × EntryView → Type 0
  Goes k e s r = GoTo (with_server k.servers e.server r.0) (drop (length s.rest.outbox) r.0.rest.outbox)

  abbrev Leads : (Cluster → Type 0) → Cluster × EntryView → Type 0
  Leads P d = Sort d.1 → P d.0

  handed_alike : (k : Cluster) (e : Event) (s : Server) → server_at k.servers e.server ≡ Some s → (r : Server × EntryView) → Goes k e s r → AlikeBy Class (server_things s) (server_things r.0)
      → AlikeBy Class (things_of k) (servers_things (hand_over_newer e.server (length s.rest.outbox) r.0 k.servers))
  handed_alike k e s here r go u w z c =
      let f : Thing → ℕ = λ x. w (sign_of x) in
      let older = length s.rest.outbox in
      let t = tot-server f k.servers e.server s r.0 here in
      let goes = go_with k.servers e.server r.0 (take older r.0.rest.outbox) (drop older r.0.rest.outbox) go in
      omega (arith, hand_over_newer_law f e.server older s r.0 k.servers here goes, t.0, t.1, u w z c)

  -- and whatever follows from that for the cluster afterwards
  pub leads_by : (P : Cluster → Type 0) (k : Cluster) (e : Event) → IsSound k → FewEvents k → ((c : Cluster) → c.code ≡ k.code → AlikeBy Class (things_of k) (things_of c) → P c)
      → ((s : Server) → server_at k.servers e.server ≡ Some s → enabled k.options s e.what ≡ true → Gives (StillThere s) (does k.code k.options s e.what)) → Gives (Leads P) (apply k e)
  leads_by P k e sound few same go =
      then_gives (Leads P) (server_at k.servers e.server) _ (λ s here.
      over_gives (λ r. Goes k e s r × StillThere s r) (Leads P) (done_at k e.what s) _
      (both_give (Goes k e s) (StillThere s) (λ r. Goes k e s r × StillThere s r) (done_at k e.what s) (each_event_sends k e sound few s here) (test_gives (StillThere s) (enabled k.options s e.what) (does k.code k.options s e.what) (λ on. go s here on)) (λ r a b. (a, b)))
      (λ r u sort. same (record k { servers = hand_over_newer e.server (length s.rest.outbox) r.0 k.servers }) refl (handed_alike k e s here r u.0 (u.1 sort))))

  pub leaves_heap_by : (k : Cluster) (e : Event) → IsSound k → FewEvents k → ((c : Cluster) → c.code ≡ k.code → AlikeBy Class (things_of k) (things_of c) → SameState (one_heap c) (one_heap k))
      → ((s : Server) → server_at k.servers e.server ≡ Some s → enabled k.options s e.what ≡ true → Gives (StillThere s) (does k.code k.options s e.what)) → Gives (Leads (λ c. SameState (one_heap c) (one_heap k))) (apply k e)
  leaves_heap_by k = leads_by (λ c. SameState (one_heap c) (one_heap k)) k

pub leaves_heap_where : (Sort : EntryView → Type 0) → ((k : Cluster) → IsSound k → Once (sight k)) → (k : Cluster) (e : Event) → IsSound k → FewEvents k
    → ((s : Server) → server_at k.servers e.server ≡ Some s → enabled k.options s e.what ≡ true → Gives (λ r. Sort r.1 → ServerStill k s r) (does k.code k.options s e.what)) → Gives (λ d. Sort d.1 → SameState (one_heap d.0) (one_heap k)) (apply k e)
leaves_heap_where Sort once k e sound few go = leaves_heap_by Sort (Counts (sight k)) k e sound few (λ c code alike. counts_same_heap k c code (once k sound) alike) go

pub leaves_heap : ((k : Cluster) → IsSound k → Once (sight k)) → (k : Cluster) (e : Event) → IsSound k → FewEvents k
    → ((s : Server) → server_at k.servers e.server ≡ Some s → enabled k.options s e.what ≡ true → Gives (ServerStill k s) (does k.code k.options s e.what)) → LeavesHeap k e
leaves_heap once k e sound few go =
    weaker (λ (d : Cluster × EntryView). ⊤ → SameState (one_heap d.0) (one_heap k)) (λ (d : Cluster × EntryView). SameState (one_heap d.0) (one_heap k)) (apply k e)
    (leaves_heap_where (λ r. ⊤) once k e sound few (λ s here on. weaker (ServerStill k s) (λ r. ⊤ → ServerStill k s r) (does k.code k.options s e.what) (go s here on) (λ r u sort. u))) (λ d u. u tt)
