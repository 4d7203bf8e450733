-- The step of a box, from a server to its cluster.
use Rattle.std.proofs.Common.{◌≡◌, ℕ, ◌==◌, ◌&&◌, Bool, true, false, not, List, ◌++◌, Option, Some, None, refl, subst, arith}
use Rattle.std.specs.Prelude.{slice_get, option_map}
use Rattle.std.proofs.lemmas.Bool.{eq-eqb}
use Rattle.coherent_memory.specs.Below.fr_base.declared.instruction.Instr.{Instr}
use Rattle.coherent_memory.specs.Below.fr_base.declared.instruction.Instr.TheVariants as instr
use Rattle.coherent_memory.specs.Below.fr_base.declared.instruction.Operand.{Operand}
use Rattle.coherent_memory.specs.Below.thread_state.View.{ThreadState, is_over}
use Rattle.coherent_memory.specs.Below.thread_state.declared.phase.Phase.{Phase}
use Rattle.coherent_memory.specs.Below.thread_state.declared.phase.Phase.TheVariants as phase
use Rattle.coherent_memory.specs.Below.server_msgs.declared.message.Message.{Message}
use Rattle.coherent_memory.specs.Below.server_msgs.declared.message.Message.TheVariants as message
use Rattle.coherent_memory.specs.Below.journal.View.{EntryView}
use Rattle.coherent_memory.specs.Below.server_model.declared.event.Event.{Event}
use Rattle.coherent_memory.specs.Below.server_model.declared.event.What.{What}
use Rattle.coherent_memory.specs.Below.server_model.declared.event.What.TheVariants.{Step, Deliver, Evict, Migrate}
use Rattle.coherent_memory.specs.Below.server_model.Servers.{Server, Cluster, server_at}
use Rattle.coherent_memory.specs.Below.server_model.Work.{Hand, put_back, thread_in, without_thread, then_some}
use Rattle.coherent_memory.specs.Below.server_model.Commit.{goes_on, next_object, box_up}
use Rattle.coherent_memory.specs.Below.server_model.Events.{can_step, has_phase, enabled, begin_work, begin_at, step, step_in, stepped, does}
use Rattle.coherent_memory.specs.Below.server_model.Clusters.{done_at, act_at}
use Rattle.coherent_memory.specs.Names.{tot, one}
use Rattle.coherent_memory.specs.Things.{Thing, stands, server_things, servers_things, things_of}
use Rattle.coherent_memory.specs.Weights.{cells, tasks_of}
use Rattle.coherent_memory.specs.Sight.{sight}
use Rattle.coherent_memory.specs.Coherent.{Holds, objects_made}
use Rattle.law_counts_sums.specs.Kinds.{Kind, step_box, message_kind, instr_kind, kind_at, kind_of}
use Rattle.law_counts_sums.specs.Sums.{Sums}
use Rattle.law_counts_sums.specs.Laws.{Gives, LeavesWithNames}
use Rattle.law_counts_sums.proofs.Trades.{Same, tot-append}
use Rattle.law_counts_sums.proofs.Rules.{Kept}
use Rattle.law_counts_sums.proofs.Results.{then_gives, over_gives, test_gives, weaker}
use Rattle.law_counts_sums.proofs.RulesKeep.{Counted, counted_kept}
use Rattle.law_counts_sums.proofs.Bags.{HandOk, all_standing, rest_things, tot-without, server_same}
use Rattle.law_counts_sums.proofs.Chains.{takes, puts_back}
use Rattle.law_counts_sums.proofs.Commits.{goes_keep}
use Rattle.law_counts_sums.proofs.Steps.{SteppedOk, committed_keeps}
use Rattle.law_counts_sums.proofs.Events.{Left, others_of, tot-server, begins_site, ends_site}
use Rattle.law_counts_sums.proofs.Boxes.{goes_as, AllNew, all_new, New, new_kept, boxes_up}

some_same : {a b : Kind} → Some a ≡ Some b → a ≡ b
some_same e = cc

step_boxes : (w : ℕ → ℕ) (n e t : ℕ) (others : List Thing) (servers : ℕ) (o : Operand) (h : Hand) → HandOk (New w (next_object h)) n e t others h → Gives (SteppedOk (counted_kept w) n e t others) (step servers (instr.Box o) h)
step_boxes w n e t others servers o h g = committed_keeps (counted_kept w) n e t others (goes_on (box_up o h)) (goes_keep (counted_kept w) n e t others (box_up o h) (boxes_up w n e t others o h g))

steps_on : (p : Phase) → can_step p ≡ true → is_over p ≡ false
steps_on phase.Over e = absurd (cc e)
steps_on _ e = refl

self_thread : (n : ℕ) (y : ThreadState) → is_over y.phase ≡ false → goes_as y.number y.made (stands n false y) ≡ 1
self_thread n y e = by (y.number == y.number) (y.made == y.made) (is_over y.phase) (eq-eqb y.number y.number refl) (eq-eqb y.made y.made refl) e
  where
    by : (a b c : Bool) → a ≡ true → b ≡ true → c ≡ false → one (a && (b && not c)) ≡ 1
    by true true false p q r = refl
    by true true true p q r = absurd (cc r)
    by true false c p q r = absurd (cc q)
    by false b c p q r = absurd (cc p)

module _ (w : ℕ → ℕ) (c : Cluster) (others : List Thing) (s : Server) (g : Counted w (server_things s ++ others)) (all : AllNew (server_things s ++ others)) where
  new_name : (t : ℕ) (y : ThreadState) → thread_in s.threads t ≡ Some y → is_over y.phase ≡ false → tot (cells (record { thread = y.number; count = y.made })) (server_things s ++ others) ≡ 0
  new_name t y q over =
      let n = s.rest.number in
      let f = goes_as y.number y.made in
      all y.number y.made (omega (arith, self_thread n y over, tot-without n f s.threads t y q, server_same s f, tot-append f (server_things s) others, tot-append f (all_standing n s.threads) (rest_things n s.events s.rest)))

  box_here : (t : ℕ) (y : ThreadState) (i : Instr) → thread_in s.threads t ≡ Some y → is_over y.phase ≡ false → instr_kind i ≡ step_box
      → Gives (SteppedOk (counted_kept w) s.rest.number s.events t (all_standing s.rest.number (without_thread s.threads t) ++ others)) (step c.options.servers i (record { work = begin_work s.rest; thread = y }))
  box_here t y (instr.Box o) q over e =
      let n = s.rest.number in
      let name = next_object (record { work = begin_work s.rest; thread = y }) in
      step_boxes w n s.events t (all_standing n (without_thread s.threads t) ++ others) c.options.servers o (record { work = begin_work s.rest; thread = y })
      (takes (new_kept w name) n s.events others t (begin_at s) y q (begins_site (new_kept w name) others s (g, new_name t y q over)))
  box_here t y _ q over e = absurd (cc e)

  stepping : (t : ℕ) → kind_at c (Step t) s ≡ Some step_box → enabled c.options s (Step t) ≡ true → Gives (Left (counted_kept w) others) (does c.code c.options s (Step t))
  stepping t r on = by (thread_in s.threads t) refl
    where
      by : (x : Option ThreadState) → thread_in s.threads t ≡ x → Gives (Left (counted_kept w) others) (option_map (stepped s) (then_some (option_map (λ y. record { work = begin_work s.rest; thread = y }) x) (step_in c.code c.options.servers)))
      by None q = tt
      by (Some y) q =
          let n = s.rest.number in
          let e = s.events in
          let b = all_standing n (without_thread s.threads t) ++ others in
          let h : Hand = record { work = begin_work s.rest; thread = y } in
          let over : is_over y.phase ≡ false = steps_on y.phase (subst (λ z. has_phase can_step z ≡ true) q on) in
          let there : option_map instr_kind (slice_get c.code y.pc) ≡ Some step_box = subst (λ z. then_some z (λ z2. option_map instr_kind (slice_get c.code z2.pc)) ≡ Some step_box) q r in
          over_gives (SteppedOk (counted_kept w) n e t b) (Left (counted_kept w) others) (step_in c.code c.options.servers h) (stepped s)
          (then_gives (SteppedOk (counted_kept w) n e t b) (slice_get c.code y.pc) (λ i. step c.options.servers i h) (λ i z. box_here t y i q over (some_same (subst (λ z2. option_map instr_kind z2 ≡ Some step_box) z there))))
          (λ d u. ends_site (counted_kept w) n e others (Some d.hand.thread.number) d.names (put_back s.threads d.hand) (puts_back (counted_kept w) n e others t s.threads y q d.hand u))

  no_message : (m : Option Message) → option_map message_kind m ≡ Some step_box → ⊥
  no_message None e = absurd (cc e)
  no_message (Some m) e = other_kind m (some_same e)
    where
      other_kind : (m : Message) → message_kind m ≡ step_box → ⊥
      other_kind (message.Drop w o) e = absurd (cc e)
      other_kind _ e = absurd (cc e)

  doing : (x : What) → kind_at c x s ≡ Some step_box → enabled c.options s x ≡ true → Gives (Left (counted_kept w) others) (does c.code c.options s x)
  doing (Step t) q on = stepping t q on
  doing (Deliver i) q on = absurd (no_message (slice_get s.rest.inbox i) q)
  doing (Evict i) q on = absurd (cc q)
  doing (Migrate t target) q on = absurd (cc q)

pub box_counts : (c : Cluster) (e : Event) → kind_of c e ≡ Some step_box → Sums (things_of c) → Holds c objects_made → Gives (λ (d : Cluster × EntryView). Counted (λ t. tot (tasks_of t) (things_of c)) (things_of d.0)) (act_at c e)
box_counts c e q g named =
    let w : ℕ → ℕ = λ t. tot (tasks_of t) (things_of c) in
    let k : Kept (Counted w) = counted_kept w in
    then_gives (λ (d : Cluster × EntryView). Counted w (things_of d.0)) (server_at c.servers e.server) _ (λ s h.
    let others = servers_things (others_of c.servers e.server) in
    let same : Same (things_of c) (server_things s ++ others) = λ f. omega (arith, (tot-server f c.servers e.server s s h).0, tot-append f (server_things s) others) in
    let before : Counted w (server_things s ++ others) = k.same _ _ same (record { sums = g; tasks = λ t. refl }) in
    let news : AllNew (things_of c) = all_new (sight c) refl g named in
    let new_here : AllNew (server_things s ++ others) = λ t m l. omega (arith, same (cells (record { thread = t; count = m })), news t m (omega (arith, l, same (goes_as t m)))) in
    over_gives (Left k others) (λ (d : Cluster × EntryView). Counted w (things_of d.0)) (done_at c e.what s) _
    (test_gives (Left k others) (enabled c.options s e.what) (does c.code c.options s e.what) (λ on. doing w c others s before new_here e.what (subst (λ x. then_some x (kind_at c e.what) ≡ Some step_box) h q) on))
    (λ r u. k.same _ _ (λ f. omega (arith, (tot-server f c.servers e.server s r.0 h).1, tot-append f (server_things r.0) others)) u))

pub box_leaves : LeavesWithNames step_box (λ c. Sums (things_of c))
box_leaves c e q g named = weaker (λ (d : Cluster × EntryView). Counted (λ t. tot (tasks_of t) (things_of c)) (things_of d.0)) (λ (d : Cluster × EntryView). Sums (things_of d.0)) (act_at c e) (box_counts c e q g named) (λ d u. u.sums)

pub box_part : (Part : Cluster → Type 0) → ((c : Cluster) → Sums (things_of c) → Part c) → LeavesWithNames step_box Part
box_part Part has c e q g named = weaker (λ (d : Cluster × EntryView). Sums (things_of d.0)) (λ (d : Cluster × EntryView). Part d.0) (act_at c e) (box_leaves c e q g named) (λ d u. has d.0 u)
