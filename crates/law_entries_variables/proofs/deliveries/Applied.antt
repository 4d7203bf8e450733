-- From what an event does at its server to the cluster with its messages handed over, and what is kept there of words and gifts.
use Rattle.std.proofs.Common.{◌≡◌, ℕ, ◌+◌, ◌<◌, ◌≤◌, ◌==◌, true, if◌then◌else◌, List, [], ◌∷◌, ◌++◌, length, take, drop, Option, Some, None, is_some, refl, sym, ap, ap₂, subst, ◌∙◌, arith}
use Rattle.std.specs.Prelude.{⊤, slice_get}
use Rattle.std.proofs.lemmas.Bool.{lt-ltb}
use Rattle.std.proofs.lemmas.Bool.Decides.{nat_tests}
use Rattle.law_words_ends.proofs.Below.fr_typing.PlaceLemmas.{eq_cases}
use Rattle.law_words_ends.specs.Below.fr_base.declared.name.MutexNo.{MutexNo}
use Rattle.law_words_ends.specs.Below.fr_base.declared.instruction.Instr.{Instr}
use Rattle.law_words_ends.specs.Below.fr_base.declared.instruction.Instr.TheVariants as instr
use Rattle.law_words_ends.specs.Below.fr_base.declared.label.Label.{Label}
use Rattle.law_words_ends.specs.Below.journal.View.{EntryView}
use Rattle.law_words_ends.specs.Below.journal.declared.act.Act.{Act}
use Rattle.law_words_ends.specs.Below.server_msgs.declared.message.Message.{Message}
use Rattle.law_words_ends.specs.Below.server_model.declared.event.Event.{Event}
use Rattle.law_words_ends.specs.Below.server_model.declared.event.What.{What}
use Rattle.law_words_ends.specs.Below.server_model.declared.event.What.TheVariants.{Deliver}
use Rattle.law_words_ends.specs.Below.server_model.Servers.{Server, Cluster, server_at}
use Rattle.law_words_ends.specs.Below.server_model.Work.{Site, then_some}
use Rattle.law_words_ends.specs.Below.server_model.Events.{enabled, entry_of, begin_at, left_by, received, deliver_message, deliver, does}
use Rattle.law_words_ends.specs.Below.server_model.Clusters.{with_server, hand_over_newer, done_at, apply}
use Rattle.law_words_ends.specs.Below.law_words_kept.Below.coloured_heap.Heap.{Coloured}
use Rattle.law_words_ends.specs.Below.law_words_kept.Below.coloured_heap.Rules.{of_run}
use Rattle.law_words_ends.specs.Below.coherent_memory.Names.{tot, one, if_so}
use Rattle.law_words_ends.specs.Below.coherent_memory.Things.{Thing, message_things, server_things, servers_things, things_of}
use Rattle.law_words_ends.specs.Below.coherent_memory.Follow.{Standing, locate}
use Rattle.law_words_ends.specs.Below.coherent_memory.Sight.{Sight, sight}
use Rattle.law_words_ends.specs.Below.coherent_memory.Walking.{sum_threads}
use Rattle.law_words_ends.specs.Below.coherent_memory.Requests.{locked_mutex, is_mutex}
use Rattle.law_words_ends.specs.Below.coherent_memory.Sharing.{gift_content}
use Rattle.law_words_ends.specs.Below.coherent_memory.Naming.{servers_wrong, pinned_parcel}
use Rattle.law_words_ends.specs.Below.coherent_memory.Colours.{StandsColoured}
use Rattle.law_words_ends.specs.Below.coherent_memory.Coherent.{IsSound}
use Rattle.law_words_ends.specs.Below.law_counts_sums.Kinds.{Kind, kind_at, kind_of}
use Rattle.law_words_ends.specs.Below.law_counts_sums.Laws.{Gives, GoTo, FewEvents}
use Rattle.law_words_ends.proofs.Below.law_counts_sums.Askers.{other_none}
use Rattle.law_words_ends.proofs.Below.law_counts_sums.Results.{then_gives, over_gives, both_give, test_gives, weaker}
use Rattle.law_words_ends.proofs.Below.law_counts_sums.Events.{tot-server}
use Rattle.law_words_ends.proofs.Below.law_counts_sums.Applied.{go_with}
use Rattle.law_words_ends.proofs.Below.law_counts_sums.Handing.{hand_over_newer_law}
use Rattle.law_words_ends.proofs.Below.law_counts_sums.Sending.{each_event_sends}
use Rattle.law_words_ends.specs.Below.law_words_values.Below.law_heap_still.events.Shows.{Counts}
use Rattle.law_words_ends.proofs.Below.law_heap_still.events.Alike.{mutex_same, all_seen}
use Rattle.law_words_ends.proofs.Below.law_heap_still.events.Counting.{no_stray}
use Rattle.law_words_ends.proofs.Below.law_heap_still.events.Once.{shown_once}
use Rattle.law_words_ends.proofs.Below.law_heap_still.events.Sites.{AlikeBy, leads_by}
use Rattle.law_words_ends.proofs.Below.law_heap_still.events.StillKinds.{IsStill, server_still}
use Rattle.law_words_ends.proofs.Below.law_words_kept.stays.StayKinds.{Stays, kind_stays}
use Rattle.law_words_ends.specs.Below.law_words_paths.words.Unmoved.{LeavesWords}
use Rattle.law_entries_variables.specs.deliveries.Entries.{LeadsOn, EntriesLegal}
use Rattle.law_entries_variables.proofs.deliveries.Weighed.{SiteTurns, server_turns, received_turns}
use Rattle.law_entries_variables.proofs.deliveries.After.{Follows, Keeps}
use Rattle.law_entries_variables.proofs.deliveries.Runs.{silent}

-- SERVERS OF THE RUN

reach : (q : Sight) (i : ℕ) (ss : List Server) → servers_wrong q i ss ≡ 0 → i ≤ q.options.servers
reach q i [] z = let e : (i == q.options.servers) ≡ true = other_none (i == q.options.servers) z in grind (arith, nat_tests, e)
reach q i (x ∷ ss) z = omega (arith, reach q (i + 1) ss (omega (arith, z)))

below_all : (q : Sight) (i n : ℕ) (ss : List Server) (s : Server) → servers_wrong q i ss ≡ 0 → server_at ss n ≡ Some s → (n < q.options.servers) × (s.rest.number ≡ n)
below_all q i n [] s z h = absurd (cc h)
below_all q i n (x ∷ ss) s z h =
    let number : x.rest.number ≡ i = (let e : (x.rest.number == i) ≡ true = other_none (x.rest.number == i) (omega (arith, z)) in grind (arith, nat_tests, e)) in
    let few = reach q (i + 1) ss (omega (arith, z)) in
    eq_cases (λ b. (if b then Some x else server_at ss n) ≡ Some s → (n < q.options.servers) × (s.rest.number ≡ n)) x.rest.number n
    (λ e d. let same : x ≡ s = cc in (omega (arith, e, number, few), subst (λ (y : Server). y.rest.number ≡ n) same e))
    (λ ne d. below_all q (i + 1) n ss s (omega (arith, z)) d) h

-- a server that is there is one of the run, and has its number
pub server_there : (k : Cluster) → IsSound k → (n : ℕ) (s : Server) → server_at k.servers n ≡ Some s → (of_run k.options s.rest.number ≡ true) × (s.rest.number ≡ n)
server_there k sound n s h =
    let parts : servers_wrong (sight k) 0 k.servers + sum_threads (sight k) pinned_parcel ≡ 0 = sound.parts.parts_are_typed in
    let both = below_all (sight k) 0 n k.servers s (omega (arith, parts)) h in
    (ap (of_run k.options) both.1 ∙ lt-ltb n k.options.servers both.0, both.1)

-- HANDED OVER

-- the cluster after an event that leaves its server so: sums of what is there
abbrev pub Afterwards : Cluster → Server → Server → Cluster → Type 0
Afterwards k s r c = (c.code ≡ k.code) × (c.options ≡ k.options) × ((f : Thing → ℕ) → tot f (things_of c) + tot f (server_things s) ≡ tot f (things_of k) + tot f (server_things r))

abbrev Goes : Cluster → Event → Server → Server × EntryView → Type 0
Goes k e s r = GoTo (with_server k.servers e.server r.0) (drop (length s.rest.outbox) r.0.rest.outbox)

pub applied_by : (P : Cluster × EntryView → Type 0) (k : Cluster) (e : Event) → IsSound k → FewEvents k
    → ((s : Server) → server_at k.servers e.server ≡ Some s → enabled k.options s e.what ≡ true → Gives (λ (r : Server × EntryView). (c : Cluster) → Afterwards k s r.0 c → P (c, r.1)) (does k.code k.options s e.what)) → Gives P (apply k e)
applied_by P k e sound few go =
    then_gives P (server_at k.servers e.server) _ (λ s here.
    over_gives (λ r. Goes k e s r × Then s r) P (done_at k e.what s) _
    (both_give (Goes k e s) (Then s) (λ r. Goes k e s r × Then s r) (done_at k e.what s) (each_event_sends k e sound few s here) (test_gives (Then s) (enabled k.options s e.what) (does k.code k.options s e.what) (λ on. go s here on)) (λ r a b. (a, b)))
    (λ r u. u.1 (record k { servers = hand_over_newer e.server (length s.rest.outbox) r.0 k.servers }) (refl, refl, sums s here r u.0)))
  where
    Then : Server → Server × EntryView → Type 0
    Then s r = (c : Cluster) → Afterwards k s r.0 c → P (c, r.1)

    sums : (s : Server) → server_at k.servers e.server ≡ Some s → (r : Server × EntryView) → Goes k e s r → (f : Thing → ℕ)
        → tot f (servers_things (hand_over_newer e.server (length s.rest.outbox) r.0 k.servers)) + tot f (server_things s) ≡ tot f (things_of k) + tot f (server_things r.0)
    sums s here r go2 f =
        let older = length s.rest.outbox in
        let t = tot-server f k.servers e.server s r.0 here in
        let goes = go_with k.servers e.server r.0 (take older r.0.rest.outbox) (drop older r.0.rest.outbox) go2 in
        omega (arith, hand_over_newer_law f e.server older s r.0 k.servers here goes, t.0, t.1)

-- WORDS AND GIFTS

abbrev GiftsKept : Cluster → Cluster → Type 0
GiftsKept k c = (m : MutexNo) (x : Standing) → gift_content (sight c) m x ≡ gift_content (sight k) m x

gifts_kept : (k c : Cluster) → IsSound k → c.code ≡ k.code → AlikeBy (Counts (sight k)) (things_of k) (things_of c) → GiftsKept k c
gifts_kept k c sound code alike m x =
    ap (λ cs. if_so (is_some x.thread.gift) (one (is_mutex m (locked_mutex (sight c) x (slice_get cs x.thread.pc))))) code ∙ ap (λ o. if_so (is_some x.thread.gift) (one (is_mutex m o))) (by (slice_get k.code x.thread.pc))
  where
    by : (i : Option Instr) → locked_mutex (sight c) x i ≡ locked_mutex (sight k) x i
    by (Some (instr.Lock w)) =
        sym (mutex_same k c (things_of k) (things_of c) code (shown_once k sound) (λ o. true) (λ o e. absurd (cc e)) (λ t y v h i n l. all_seen (locate (sight k).ground y.thread.number v.slot n)) (λ v z n. alike v z n.0) (no_stray k (shown_once k sound).threads) (no_stray c)
        x.thread.number w (λ n l. all_seen (locate (sight k).ground x.thread.number w.slot n)))
    by _ = refl

pub keeps_by : (kind : Kind) → Stays kind → IsStill kind → (k : Cluster) (e : Event) → kind_of k e ≡ Some kind → IsSound k → FewEvents k → Gives (λ (d : Cluster × EntryView). Keeps k d.0) (apply k e)
keeps_by kind p still k e q sound few =
    both_give (λ (d : Cluster × EntryView). LeavesWords k d.0) (λ (d : Cluster × EntryView). ⊤ → GiftsKept k d.0) (λ (d : Cluster × EntryView). Keeps k d.0) (apply k e) (kind_stays kind p k e q sound few)
    (leads_by (λ r. ⊤) (Counts (sight k)) (GiftsKept k) k e sound few (λ c code alike. gifts_kept k c sound code alike) (λ s h on. weaker (Still s) (λ r. ⊤ → Still s r) (does k.code k.options s e.what)
    (server_still k sound e.server s h kind still e.what (subst (λ o. then_some o (kind_at k e.what) ≡ Some kind) h q)) (λ r u sort. u)))
    (λ d words gifts. record { words = words.words; gifts = gifts tt })
  where
    Still : Server → Server × EntryView → Type 0
    Still s r = AlikeBy (Counts (sight k)) (server_things s) (server_things r.0)

-- ENTRIES

-- a site at which a legal entry is done: what went and what came, beside the things of a message, and its acts
pub record Legal (k : Cluster) (s : Server) (th : Option ℕ) (has : List Thing) (start : Site) (c0 : Coloured) (x : Site) : Type 0 where
  pub olds : List Thing
  pub news : List Thing
  pub acts : List Act
  pub turns : SiteTurns start olds news acts x
  pub leads : (c : Cluster) → Follows k c (has ++ olds) news → Keeps k c → LeadsOn k.options (silent s.rest.number th acts) c0 c

-- the entry of a server that was left so
abbrev pub Led : Cluster → Server → Coloured → Server × EntryView → Type 0
Led k s c0 r = (c : Cluster) → Afterwards k s r.0 c → Keeps k c → LeadsOn k.options r.1 c0 c

abbrev entry_made : Option ℕ → ℕ → List Act → List Label → EntryView
entry_made th n acts labels = record { server = n; thread = th; done = None; acts = acts; labels = labels }

pub led_on : (k : Cluster) (s : Server) (th : Option ℕ) (c0 : Coloured) (x : Site) (e : ℕ) → Legal k s th [] (begin_at s) c0 x → Led k s c0 (left_by e th None x)
led_on k s th c0 x e l c after keeps =
    let entry : entry_of th None x.work ≡ silent s.rest.number th l.acts = ap₂ (λ n a. entry_made th n a x.work.labels) l.turns.number l.turns.noted ∙ ap (entry_made th s.rest.number l.acts) l.turns.labels in
    subst (λ v. LeadsOn k.options v c0 c) (sym entry) (l.leads c (record { code = after.0; options = after.1; things = λ f h. omega (arith, after.2 f, server_turns s x l.olds l.news l.acts e th None l.turns f h) }) keeps)

-- a message is taken out first
pub received_legal : (k : Cluster) (s : Server) (i : ℕ) (m : Message) (c0 : Coloured) (x : Site) → slice_get s.rest.inbox i ≡ Some m → Legal k s None (message_things s.rest.number m) (received i s) c0 x → Legal k s None [] (begin_at s) c0 x
received_legal k s i m c0 x q l = record {
  olds = message_things s.rest.number m ++ l.olds;
  news = l.news;
  acts = l.acts;
  turns = received_turns s i m x l.olds l.news l.acts q l.turns;
  leads = l.leads;
}

-- a delivery, from what its message does
pub delivered : (k : Cluster) (s : Server) (i : ℕ) (m : Message) (c0 : Coloured) → slice_get s.rest.inbox i ≡ Some m → Gives (Legal k s None (message_things s.rest.number m) (received i s) c0) (deliver_message k.code m (received i s))
    → Gives (Led k s c0) (does k.code k.options s (Deliver i))
delivered k s i m c0 q g =
    over_gives (Legal k s None (message_things s.rest.number m) (received i s) c0) (Led k s c0) (deliver k.code i s) (left_by s.events None None)
    (subst (λ o. Gives (Legal k s None (message_things s.rest.number m) (received i s) c0) (then_some o (λ y. deliver_message k.code y (received i s)))) (sym q) g)
    (λ x l. led_on k s None c0 x s.events (received_legal k s i m c0 x q l))

-- an event whose server leads on, and which keeps words and gifts, has a legal entry
pub entry_legal : (kind : Kind) → Stays kind → IsStill kind → ((k : Cluster) (number : ℕ) (s : Server) (w : What) (c0 : Coloured) → IsSound k → FewEvents k → server_at k.servers number ≡ Some s → enabled k.options s w ≡ true → kind_at k w s ≡ Some kind → StandsColoured k c0 → Gives (Led k s c0) (does k.code k.options s w)) → EntriesLegal kind
entry_legal kind p still go k e q sound few c0 stands =
    both_give (λ (d : Cluster × EntryView). Keeps k d.0) (λ (d : Cluster × EntryView). Keeps k d.0 → LeadsOn k.options d.1 c0 d.0) (λ (d : Cluster × EntryView). LeadsOn k.options d.1 c0 d.0) (apply k e) (keeps_by kind p still k e q sound few)
    (applied_by (λ (d : Cluster × EntryView). Keeps k d.0 → LeadsOn k.options d.1 c0 d.0) k e sound few (λ s here on.
    weaker (Led k s c0) (λ (r : Server × EntryView). (c : Cluster) → Afterwards k s r.0 c → Keeps k c → LeadsOn k.options r.1 c0 c) (does k.code k.options s e.what) (go k e.server s e.what c0 sound few here on (subst (λ o. then_some o (kind_at k e.what) ≡ Some kind) here q) stands) (λ r l. l)))
    (λ d keeps l. l keeps)
