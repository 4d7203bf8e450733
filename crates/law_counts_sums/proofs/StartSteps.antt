-- The steps of a spawn and of a pair, from a server to its cluster.
use Rattle.std.proofs.Common.{◌≡◌, ℕ, ◌+◌, ◌^◌, ◌<◌, List, ◌++◌, Option, Some, None, refl, sym, subst, arith}
use Rattle.std.specs.Prelude.{slice_get, option_map}
use Rattle.std.specs.Bool.{⊤}
use Rattle.coherent_memory.specs.Below.fr_base.declared.instruction.Instr.{Instr}
use Rattle.coherent_memory.specs.Below.fr_base.declared.instruction.Instr.TheVariants as instr
use Rattle.coherent_memory.specs.Below.thread_state.View.{ThreadState}
use Rattle.coherent_memory.specs.Below.server_msgs.declared.message.Message.{Message}
use Rattle.coherent_memory.specs.Below.server_msgs.declared.message.Message.TheVariants as message
use Rattle.coherent_memory.specs.Below.journal.View.{EntryView}
use Rattle.coherent_memory.specs.Below.server_model.declared.event.Event.{Event}
use Rattle.coherent_memory.specs.Below.server_model.declared.event.What.{What}
use Rattle.coherent_memory.specs.Below.server_model.declared.event.What.TheVariants.{Step, Deliver, Evict, Migrate}
use Rattle.coherent_memory.specs.Below.server_model.Servers.{Server, Cluster, server_at}
use Rattle.coherent_memory.specs.Below.server_model.Work.{Hand, put_back, thread_in, without_thread, then_some}
use Rattle.coherent_memory.specs.Below.server_model.Commit.{Committed, done, waits, refused, spawn, par}
use Rattle.coherent_memory.specs.Below.server_model.Start.{next_thread}
use Rattle.coherent_memory.specs.Below.server_model.Events.{enabled, begin_work, begin_at, step, step_in, stepped, does}
use Rattle.coherent_memory.specs.Below.server_model.Clusters.{with_server, done_at, act_at}
use Rattle.coherent_memory.specs.Things.{Thing, server_things, servers_things, things_of}
use Rattle.coherent_memory.specs.Coherent.{Holds, names_counted}
use Rattle.law_counts_sums.specs.Kinds.{Kind, step_spawn, step_par, message_kind, instr_kind, kind_at, kind_of}
use Rattle.law_counts_sums.specs.Sums.{Sums}
use Rattle.law_counts_sums.specs.Laws.{Gives, NamesLeft, LeavesWithThreads, task_values_in}
use Rattle.law_counts_sums.proofs.Trades.{Same, tot-append}
use Rattle.law_counts_sums.proofs.Rules.{Kept}
use Rattle.law_counts_sums.proofs.Results.{then_gives, over_gives, test_gives, weaker}
use Rattle.law_counts_sums.proofs.RulesKeep.{Counted, counted_kept}
use Rattle.law_counts_sums.proofs.Bags.{HandOk, all_standing}
use Rattle.law_counts_sums.proofs.Chains.{takes, puts_back}
use Rattle.law_counts_sums.proofs.Commits.{CommittedOk}
use Rattle.law_counts_sums.proofs.Steps.{SteppedOk, committed_keeps}
use Rattle.law_counts_sums.proofs.Events.{Left, others_of, tot-server, begins_site, ends_site}
use Rattle.law_counts_sums.proofs.NewThreads.{NewNames, names_kept, one_more, new_names}
use Rattle.law_counts_sums.proofs.Starts.{spawns, pars}

abbrev pub StartsThreads : Kind → Type 0
StartsThreads step_spawn = ⊤
StartsThreads step_par = ⊤
StartsThreads k = ⊥

some_same : {a b : Kind} → Some a ≡ Some b → b ≡ a
some_same e = cc

no_message : (m : Message) → StartsThreads (message_kind m) → ⊥
no_message (message.Drop w o) p = p
no_message _ p = p

-- so many task values there are of each thread after a step of that kind, with which a thread of that number started
abbrev pub grown : Kind → ℕ → (ℕ → ℕ) → ℕ → ℕ
grown step_spawn u w = one_more w u
grown k u w = w

sums_alone : (w : ℕ → ℕ) (n i j e t : ℕ) (others : List Thing) (c : Committed) → CommittedOk (HandOk (NewNames w n i j) n e t others) c → CommittedOk (HandOk (Counted w) n e t others) c
sums_alone w n i j e t others (done names h) g = record { number = g.number; thread = g.thread; bag = record { sums = g.bag.sums; tasks = g.bag.counted } }
sums_alone w n i j e t others (waits h) g = record { number = g.number; thread = g.thread; bag = record { sums = g.bag.sums; tasks = g.bag.counted } }
sums_alone w n i j e t others refused g = tt

module _ (w : ℕ → ℕ) (n e t i servers : ℕ) (others : List Thing) (h : Hand) (q : h.work.rest.started ≡ i) (l : i + 2 < 2 ^ 32) (g : HandOk (NewNames w n i i) n e t others h) where
  starts_here : (x : Instr) → StartsThreads (instr_kind x) → Gives (SteppedOk (counted_kept (grown (instr_kind x) (next_thread h.work.rest) w)) n e t others) (step servers x h)
  starts_here (instr.Spawn cs pc) p =
      let c = spawn servers cs pc h in
      let w2 = one_more w (next_thread h.work.rest) in
      committed_keeps (counted_kept w2) n e t others c (sums_alone w2 n (i + 1) (i + 1) e t others c (spawns w n i e t others servers cs pc h q (omega (arith, l)) g))
  starts_here (instr.Par cs pc ds other) p =
      let c = par servers cs pc ds other h in
      committed_keeps (counted_kept w) n e t others c (sums_alone w n (i + 1 + 1) i e t others c (pars w n i e t others servers cs pc ds other h q l g))
  starts_here _ p = absurd p

module _ (w : ℕ → ℕ) (c : Cluster) (others : List Thing) (s : Server) (g : NewNames w s.rest.number s.rest.started s.rest.started (server_things s ++ others)) (l : s.rest.started + 2 < 2 ^ 32) (kind : Kind) (p : StartsThreads kind) where
  abbrev Grown : Kind → List Thing → Type 0
  Grown j = Counted (grown j (next_thread s.rest) w)

  grown_kept : (j : Kind) → Kept (Grown j)
  grown_kept j = counted_kept (grown j (next_thread s.rest) w)

  stepping : (t : ℕ) → kind_at c (Step t) s ≡ Some kind → Gives (Left (grown_kept kind) others) (does c.code c.options s (Step t))
  stepping t r = by (thread_in s.threads t) refl
    where
      by : (x : Option ThreadState) → thread_in s.threads t ≡ x → Gives (Left (grown_kept kind) others) (option_map (stepped s) (then_some (option_map (λ y. record { work = begin_work s.rest; thread = y }) x) (step_in c.code c.options.servers)))
      by None q = tt
      by (Some y) q =
          let n = s.rest.number in
          let e = s.events in
          let b = all_standing n (without_thread s.threads t) ++ others in
          let h : Hand = record { work = begin_work s.rest; thread = y } in
          let k = names_kept w n s.rest.started s.rest.started in
          let there : option_map instr_kind (slice_get c.code y.pc) ≡ Some kind = subst (λ z. then_some z (λ w. option_map instr_kind (slice_get c.code w.pc)) ≡ Some kind) q r in
          over_gives (SteppedOk (grown_kept kind) n e t b) (Left (grown_kept kind) others) (step_in c.code c.options.servers h) (stepped s)
          (then_gives (SteppedOk (grown_kept kind) n e t b) (slice_get c.code y.pc) (λ i. step c.options.servers i h) (λ i z.
          let same : Some (instr_kind i) ≡ Some kind = subst (λ w. option_map instr_kind w ≡ Some kind) z there in
          subst (λ j. Gives (SteppedOk (grown_kept j) n e t b) (step c.options.servers i h)) (sym (some_same same))
          (starts_here w n e t s.rest.started c.options.servers b h refl l (takes k n e others t (begin_at s) y q (begins_site k others s g)) i (subst StartsThreads (some_same same) p))))
          (λ d u. ends_site (grown_kept kind) n e others (Some d.hand.thread.number) d.names (put_back s.threads d.hand) (puts_back (grown_kept kind) n e others t s.threads y q d.hand u))

  not_delivered : (m : Option Message) → option_map message_kind m ≡ Some kind → ⊥
  not_delivered None e = absurd (cc e)
  not_delivered (Some m) e = no_message m (subst StartsThreads (some_same e) p)

  doing : (x : What) → kind_at c x s ≡ Some kind → Gives (Left (grown_kept kind) others) (does c.code c.options s x)
  doing (Step t) q = stepping t q
  doing (Deliver i) q = absurd (not_delivered (slice_get s.rest.inbox i) q)
  doing (Evict w) q = absurd (subst StartsThreads (some_same q) p)
  doing (Migrate t target) q = absurd (subst StartsThreads (some_same q) p)

-- the event of its server leaves so many more
abbrev StartsCounted : Kind → Type 0
StartsCounted kind =
    (c : Cluster) (e : Event) → kind_of c e ≡ Some kind → Sums (things_of c) → Holds c names_counted → NamesLeft c → (s : Server) → server_at c.servers e.server ≡ Some s
    → Gives (λ (d : Cluster × EntryView). Counted (grown kind (next_thread s.rest) (task_values_in c)) (things_of d.0)) (option_map (λ r. (record c { servers = with_server c.servers e.server r.0 }, r.1)) (done_at c e.what s))

pub starts_count : (kind : Kind) → StartsThreads kind → StartsCounted kind
starts_count kind p c e q g counted left s h =
    let k = counted_kept (grown kind (next_thread s.rest) (task_values_in c)) in
    let others = servers_things (others_of c.servers e.server) in
    let same : Same (things_of c) (server_things s ++ others) = λ f. omega (arith, (tot-server f c.servers e.server s s h).0, tot-append f (server_things s) others) in
    let names = (names_kept (task_values_in c) s.rest.number s.rest.started s.rest.started).same _ _ same (new_names c e.server s h g counted) in
    over_gives (Left k others) (λ (d : Cluster × EntryView). Counted (grown kind (next_thread s.rest) (task_values_in c)) (things_of d.0)) (done_at c e.what s) _
    (test_gives (Left k others) (enabled c.options s e.what) (does c.code c.options s e.what) (λ on. doing (task_values_in c) c others s names (left e.server s h) kind p e.what (subst (λ x. then_some x (kind_at c e.what) ≡ Some kind) h q)))
    (λ r u. k.same _ _ (λ f. omega (arith, (tot-server f c.servers e.server s r.0 h).1, tot-append f (server_things r.0) others)) u)

pub starts_leave : (kind : Kind) → StartsThreads kind → LeavesWithThreads kind (λ c. Sums (things_of c))
starts_leave kind p c e q g counted left =
    then_gives (λ (d : Cluster × EntryView). Sums (things_of d.0)) (server_at c.servers e.server) _ (λ s h.
    weaker (λ (d : Cluster × EntryView). Counted (grown kind (next_thread s.rest) (task_values_in c)) (things_of d.0)) (λ (d : Cluster × EntryView). Sums (things_of d.0)) _ (starts_count kind p c e q g counted left s h) (λ d u. u.sums))

pub starts_part : (kind : Kind) → StartsThreads kind → (Part : Cluster → Type 0) → ((c : Cluster) → Sums (things_of c) → Part c) → LeavesWithThreads kind Part
starts_part kind p Part has c e q g counted left =
    weaker (λ (d : Cluster × EntryView). Sums (things_of d.0)) (λ (d : Cluster × EntryView). Part d.0) (act_at c e) (starts_leave kind p c e q g counted left) (λ d u. has d.0 u)
