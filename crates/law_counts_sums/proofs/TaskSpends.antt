-- An event that spends a task value: the delivery of a task's `release`, and a join that is done. The rules keep one fact until it goes, and another from there.
use Rattle.std.proofs.Common.{◌≡◌, ℕ, ◌+◌, ◌==◌, false, List, [], ◌∷◌, ◌++◌, Some, None, refl, sym, ap, subst, ◌∙◌, arith}
use Rattle.std.specs.Prelude.{slice_get, option_map}
use Rattle.coherent_memory.specs.Below.fr_base.declared.instruction.Instr.{Instr}
use Rattle.coherent_memory.specs.Below.fr_base.declared.instruction.Instr.TheVariants as instr
use Rattle.coherent_memory.specs.Below.fr_base.declared.instruction.Operand.{Operand}
use Rattle.coherent_memory.specs.Below.fr_base.declared.instruction.Operand.TheVariants as operand
use Rattle.coherent_memory.specs.Below.fr_base.declared.name.MutexNo.{MutexNo}
use Rattle.coherent_memory.specs.Below.fr_base.declared.release.Released.TheVariants as released
use Rattle.coherent_memory.specs.Below.fr_base.declared.settings.Options.{Options}
use Rattle.coherent_memory.specs.Below.heap_partition.declared.value.Owned.{Owned}
use Rattle.coherent_memory.specs.Below.heap_partition.declared.value.Owned.TheVariants as owned
use Rattle.coherent_memory.specs.Below.thread_state.View.{ThreadState}
use Rattle.coherent_memory.specs.Below.thread_state.declared.value.Value.{Value}
use Rattle.coherent_memory.specs.Below.thread_state.declared.value.Value.TheVariants as value
use Rattle.coherent_memory.specs.Below.server_msgs.declared.message.Message.TheVariants as message
use Rattle.coherent_memory.specs.Below.journal.View.{EntryView}
use Rattle.coherent_memory.specs.Below.server_model.declared.event.What.{What}
use Rattle.coherent_memory.specs.Below.server_model.declared.event.What.TheVariants.{Step, Deliver}
use Rattle.coherent_memory.specs.Below.server_model.Servers.{Server, Cluster, server_at}
use Rattle.coherent_memory.specs.Below.server_model.Work.{Hand, Popped, last_of, receive, pop, taken_as, task_of, push_temp, put_back, thread_in, without_thread, then_some}
use Rattle.coherent_memory.specs.Below.server_model.Commit.{take_gift, join}
use Rattle.coherent_memory.specs.Below.server_model.Events.{enabled, begin_work, begin_at, left_by, received, release, deliver_message, deliver, committed, step, step_in, stepped, does}
use Rattle.coherent_memory.specs.Below.server_model.Clusters.{with_server, done_at, act_at}
use Rattle.coherent_memory.specs.Names.{tot, one}
use Rattle.coherent_memory.specs.Paths.{popped, joined_thread}
use Rattle.coherent_memory.specs.Paths as paths
use Rattle.coherent_memory.specs.Things.{Thing, in_hand, holds, sent, thread_things, server_things, servers_things, things_of}
use Rattle.coherent_memory.specs.Weights.{tasks_of}
use Rattle.coherent_memory.specs.Coherent.{IsSound}
use Rattle.law_counts_sums.specs.Sums.{Sums}
use Rattle.law_counts_sums.specs.Laws.{Gives, task_values_in, ReleasesSpendOne, JoinsSpendOne, SharesLeaveTaskValues, AskingLeavesTaskValues}
use Rattle.law_counts_sums.proofs.Trades.{Trade, Same, tot-append, trade_left}
use Rattle.law_counts_sums.proofs.Rules.{Kept}
use Rattle.law_counts_sums.proofs.RulesKeep.{task_same, sums_kept, sums_spend, Counted, counted_kept}
use Rattle.law_counts_sums.proofs.Results.{map_gives, over_gives, bind_gives, test_gives, weaker, both_give}
use Rattle.law_counts_sums.proofs.Bags.{HandOk, SiteOk, all_standing, rest_things}
use Rattle.law_counts_sums.proofs.Chains.{work_front, beside_keeps, takes, puts_back}
use Rattle.law_counts_sums.proofs.Objects.{one_goes}
use Rattle.law_counts_sums.proofs.Values.{held, pushes_temp}
use Rattle.law_counts_sums.proofs.Gifts.{takes_gift}
use Rattle.law_counts_sums.proofs.Drops.{pops}
use Rattle.law_counts_sums.proofs.Commits.{goes_keep}
use Rattle.law_counts_sums.proofs.Steps.{SteppedOk, committed_keeps}
use Rattle.law_counts_sums.proofs.GivingSteps.{join_waits}
use Rattle.law_counts_sums.proofs.MutexMessages.{releases_deliver}
use Rattle.law_counts_sums.proofs.TaskMessages.{task_goes}
use Rattle.law_counts_sums.proofs.Events.{Left, others_of, tot-server, begins_site, ends_site, receives_site, delivers}
use Rattle.law_counts_sums.proofs.Sound.{sound_has_sums}

some_same : {a b : ℕ} → Some a ≡ Some b → a ≡ b
some_same e = cc

-- the task that is popped is the one on top
pops_task : (o : Operand) (h : Hand) → Gives (λ (p : Popped Value). (u : ℕ) → p.item ≡ value.Own (owned.Task u) → paths.task_in (popped o h.thread.temps) ≡ Some u) (pop o h)
pops_task (operand.Const n) h = λ u e. absurd (cc e)
pops_task operand.Unit h = λ u e. absurd (cc e)
pops_task operand.Pop h = map_gives (λ (p : Popped Value). (u : ℕ) → p.item ≡ value.Own (owned.Task u) → paths.task_in (last_of h.thread.temps) ≡ Some u) (last_of h.thread.temps) _ (λ v q u e. ap paths.task_in (q ∙ ap (λ z. Some z) e))

module _ {K J : List Thing → Type 0} (k : Kept K) (j : Kept J) (code : List Instr) (o : Options) (others : List Thing) (s : Server) (u : ℕ) where
  abbrev n : ℕ
  n = s.rest.number

  -- the `release` goes, and what follows keeps the other fact
  release_spends : (i : ℕ) → slice_get s.rest.inbox i ≡ Some (message.Release (released.Task u)) → ((a b : List Thing) → Trade a (sent n (message.Release (released.Task u)) ∷ []) [] b → K a → J b)
      → K (server_things s ++ others) → Gives (Left j others) (does code o s (Deliver i))
  release_spends i q spend g =
      let m = message.Release (released.Task u) in
      let there = receives_site k others s i m q g in
      let less : SiteOk J n s.events others (received i s) = record { number = there.number; bag = spend _ _ (trade_left (all_standing n s.threads) (trade_left (rest_things n s.events (receive s.rest i)) (one_goes (sent n m) others))) there.bag } in
      over_gives (SiteOk J n s.events others) (Left j others) (deliver code i s) (left_by s.events None None)
      (subst (λ x. Gives (SiteOk J n s.events others) (then_some x (λ y. deliver_message code y (received i s)))) (sym q)
      (beside_keeps j n s.events others others (release (released.Task u)) (received i s) (λ y b w. task_goes j n s.events (b ++ others) u y w) less))
      (λ x w. ends_site j n s.events others None None x w)

  module _ (e t : ℕ) (more : List Thing) (spend : (a b : List Thing) → Trade a (holds in_hand (owned.Task u) ∷ []) [] b → K a → J b) where
    spent : (rest : List Thing) (h : Hand) → HandOk K n e t (holds in_hand (owned.Task u) ∷ rest) h → HandOk J n e t rest h
    spent rest h g =
        record { number = g.number; thread = g.thread; bag = spend _ _ (trade_left (thread_things n false h.thread) (trade_left (rest_things n e h.work.rest) (one_goes (holds in_hand (owned.Task u)) rest))) g.bag }

    join_done : (p : Operand) (v : Owned) (h : Hand) → h.thread.gift ≡ Some v → paths.task_in (popped p h.thread.temps) ≡ Some u → HandOk K n e t more h → Gives (SteppedOk j n e t more) (committed (join p (Some v) h))
    join_done p v h q top g =
        let rest = holds in_hand v ∷ more in
        let out = takes_gift k n e t more v h q g in
        committed_keeps j n e t more (join p (Some v) h) (goes_keep j n e t more _
        (over_gives (λ (x : Popped ℕ). HandOk J n e t rest x.hand) (HandOk J n e t more) (then_some (pop p (take_gift h)) (taken_as task_of)) (λ x. push_temp (value.Own v) x.hand)
        (bind_gives (λ (x : Popped Value). HandOk K n e t (held n t x.item ++ rest) x.hand × ((w : ℕ) → x.item ≡ value.Own (owned.Task w) → paths.task_in (popped p h.thread.temps) ≡ Some w)) (λ (x : Popped ℕ). HandOk J n e t rest x.hand) (pop p (take_gift h)) (taken_as task_of)
        (both_give (λ (x : Popped Value). HandOk K n e t (held n t x.item ++ rest) x.hand) (λ (x : Popped Value). (w : ℕ) → x.item ≡ value.Own (owned.Task w) → paths.task_in (popped p h.thread.temps) ≡ Some w) _ (pop p (take_gift h)) (pops k n e t rest p (take_gift h) out) (pops_task p (take_gift h)) (λ x a b. (a, b)))
        (λ x a. task_with rest x a.1 a.0))
        (λ x a. pushes_temp j n e t more (value.Own v) x.hand a)))
      where
        task_with : (rest : List Thing) (x : Popped Value) → ((w : ℕ) → x.item ≡ value.Own (owned.Task w) → paths.task_in (popped p h.thread.temps) ≡ Some w) → HandOk K n e t (held n t x.item ++ rest) x.hand → Gives (λ (y : Popped ℕ). HandOk J n e t rest y.hand) (taken_as task_of x)
        task_with rest x is a = by x.item refl a
          where
            by : (z : Value) → x.item ≡ z → HandOk K n e t (held n t z ++ rest) x.hand → Gives (λ (y : Popped ℕ). HandOk J n e t rest y.hand) (option_map (λ (y : ℕ). record { item = y; hand = x.hand }) (task_of z))
            by (value.Own (owned.Task w)) d b =
                let same : w ≡ u = some_same (sym (is w d) ∙ top) in
                spent rest x.hand (subst (λ y. HandOk K n e t (holds in_hand (owned.Task y) ∷ rest) x.hand) same b)
            by _ d b = tt

  join_spends : (t : ℕ) (y : ThreadState) (p : Operand) (v : Owned) → thread_in s.threads t ≡ Some y → slice_get code y.pc ≡ Some (instr.Join p) → y.gift ≡ Some v → paths.task_in (popped p y.temps) ≡ Some u
      → ((a b : List Thing) → Trade a (holds in_hand (owned.Task u) ∷ []) [] b → K a → J b) → K (server_things s ++ others) → Gives (Left j others) (does code o s (Step t))
  join_spends t y p v here at gift top spend g =
      let e = s.events in
      let b = all_standing n (without_thread s.threads t) ++ others in
      let h : Hand = record { work = begin_work s.rest; thread = y } in
      let done : Gives (SteppedOk j n e t b) (committed (join p (Some v) h)) = join_done e t b spend p v h gift top (takes k n e others t (begin_at s) y here (begins_site k others s g)) in
      let stepped_so : Gives (SteppedOk j n e t b) (step o.servers (instr.Join p) h) = subst (λ z. Gives (SteppedOk j n e t b) (committed (join p z h))) (sym gift) done in
      let in_code : Gives (SteppedOk j n e t b) (step_in code o.servers h) = subst (λ z. Gives (SteppedOk j n e t b) (then_some z (λ i. step o.servers i h))) (sym at) stepped_so in
      subst (λ z. Gives (Left j others) (option_map (stepped s) (then_some (option_map (λ y. record { work = begin_work s.rest; thread = y }) z) (step_in code o.servers)))) (sym here)
      (over_gives (SteppedOk j n e t b) (Left j others) (step_in code o.servers h) (stepped s) in_code
      (λ d w. ends_site j n e others (Some d.hand.thread.number) d.names (put_back s.threads d.hand) (puts_back j n e others t s.threads y here d.hand w)))

-- NONE GOES

module _ {K : List Thing → Type 0} (k : Kept K) (code : List Instr) (o : Options) (others : List Thing) (s : Server) where
  -- a share that is let go
  share_goes : (i : ℕ) (m : MutexNo) → slice_get s.rest.inbox i ≡ Some (message.Release (released.Mutex m)) → K (server_things s ++ others) → Gives (Left k others) (does code o s (Deliver i))
  share_goes i m q g =
      let n = s.rest.number in
      let x = message.Release (released.Mutex m) in
      delivers k code o others s i x q (λ there.
      beside_keeps k n s.events (sent n x ∷ others) others (release (released.Mutex m)) (received i s) (λ y b u. releases_deliver k n s.events (b ++ others) m y (work_front k n s.events b others (sent n x) y u)) there) g

  -- a join that asks
  join_asks : (t : ℕ) (y : ThreadState) (p : Operand) → thread_in s.threads t ≡ Some y → slice_get code y.pc ≡ Some (instr.Join p) → y.gift ≡ None → K (server_things s ++ others) → Gives (Left k others) (does code o s (Step t))
  join_asks t y p here at gift g =
      let n = s.rest.number in
      let e = s.events in
      let b = all_standing n (without_thread s.threads t) ++ others in
      let h : Hand = record { work = begin_work s.rest; thread = y } in
      let done : Gives (SteppedOk k n e t b) (committed (join p None h)) = committed_keeps k n e t b (join p None h) (join_waits k n e t b p h (takes k n e others t (begin_at s) y here (begins_site k others s g))) in
      let stepped_so : Gives (SteppedOk k n e t b) (step o.servers (instr.Join p) h) = subst (λ z. Gives (SteppedOk k n e t b) (committed (join p z h))) (sym gift) done in
      let in_code : Gives (SteppedOk k n e t b) (step_in code o.servers h) = subst (λ z. Gives (SteppedOk k n e t b) (then_some z (λ i. step o.servers i h))) (sym at) stepped_so in
      subst (λ z. Gives (Left k others) (option_map (stepped s) (then_some (option_map (λ y. record { work = begin_work s.rest; thread = y }) z) (step_in code o.servers)))) (sym here)
      (over_gives (SteppedOk k n e t b) (Left k others) (step_in code o.servers h) (stepped s) in_code
      (λ d w. ends_site k n e others (Some d.hand.thread.number) d.names (put_back s.threads d.hand) (puts_back k n e others t s.threads y here d.hand w)))

-- ONE LESS OF THAT THREAD

pub record OneLess (c : ℕ → ℕ) (u : ℕ) (b : List Thing) : Type 0 where
  pub sums : Sums b
  pub tasks : (t : ℕ) → tot (tasks_of t) b + one (u == t) ≡ c t

less_kept : (c : ℕ → ℕ) (u : ℕ) → Kept (OneLess c u)
less_kept c u = record {
  same = λ a b e k. record { sums = sums_kept.same a b e k.sums; tasks = λ i. omega (arith, e (tasks_of i), k.tasks i) };
  trades = λ t r k. record { sums = sums_kept.trades t r k.sums; tasks = λ i. omega (arith, t.before (tasks_of i), t.after (tasks_of i), task_same i _ _ r, k.tasks i) };
  placed = λ b k. sums_kept.placed b k.sums;
}

-- in a cluster
module _ (k : Cluster) (sound : IsSound k) (number : ℕ) (s : Server) (here : server_at k.servers number ≡ Some s) (w : What) where
  in_cluster : {J : List Thing → Type 0} (j : Kept J) → ((others : List Thing) → Counted (task_values_in k) (server_things s ++ others) → Gives (Left j others) (does k.code k.options s w))
      → Gives (λ (d : Cluster × EntryView). J (things_of d.0)) (act_at k (record { server = number; what = w }))
  in_cluster {J} j go =
      let c = task_values_in k in
      let others = servers_things (others_of k.servers number) in
      let same : Same (things_of k) (server_things s ++ others) = λ f. omega (arith, (tot-server f k.servers number s s here).0, tot-append f (server_things s) others) in
      let before : Counted c (server_things s ++ others) = (counted_kept c).same _ _ same (record { sums = sound_has_sums k sound; tasks = λ t. refl }) in
      let After : Cluster × EntryView → Type 0 = λ d. J (things_of d.0) in
      subst (λ z. Gives After (then_some z (λ x. option_map (λ r. (record k { servers = with_server k.servers number r.0 }, r.1)) (done_at k w x)))) (sym here)
      (over_gives (Left j others) After (done_at k w s) _ (test_gives (Left j others) (enabled k.options s w) (does k.code k.options s w) (λ on. go others before))
      (λ r g. j.same (server_things r.0 ++ others) (servers_things (with_server k.servers number r.0)) (λ f. omega (arith, (tot-server f k.servers number s r.0 here).1, tot-append f (server_things r.0) others)) g))

  one_goes_there : (u : ℕ) → ((others : List Thing) → Counted (task_values_in k) (server_things s ++ others) → Gives (Left (less_kept (task_values_in k) u) others) (does k.code k.options s w))
      → Gives (λ (d : Cluster × EntryView). (t : ℕ) → task_values_in d.0 t + one (u == t) ≡ task_values_in k t) (act_at k (record { server = number; what = w }))
  one_goes_there u go =
      weaker (λ (d : Cluster × EntryView). OneLess (task_values_in k) u (things_of d.0)) (λ (d : Cluster × EntryView). (t : ℕ) → task_values_in d.0 t + one (u == t) ≡ task_values_in k t) _ (in_cluster (less_kept (task_values_in k) u) go) (λ d g. g.tasks)

  none_goes : ((others : List Thing) → Counted (task_values_in k) (server_things s ++ others) → Gives (Left (counted_kept (task_values_in k)) others) (does k.code k.options s w))
      → Gives (λ (d : Cluster × EntryView). (t : ℕ) → task_values_in d.0 t ≡ task_values_in k t) (act_at k (record { server = number; what = w }))
  none_goes go =
      weaker (λ (d : Cluster × EntryView). Counted (task_values_in k) (things_of d.0)) (λ (d : Cluster × EntryView). (t : ℕ) → task_values_in d.0 t ≡ task_values_in k t) _ (in_cluster (counted_kept (task_values_in k)) go) (λ d g. g.tasks)

pub releases_spend_one : ReleasesSpendOne
releases_spend_one k number i s u sound here q =
    one_goes_there k sound number s here (Deliver i) u (λ others g.
    release_spends (counted_kept (task_values_in k)) (less_kept (task_values_in k) u) k.code k.options others s u i q
    (λ a b t z. record { sums = sums_spend.let_go s.rest.number u t z.sums; tasks = λ v. omega (arith, t.before (tasks_of v), t.after (tasks_of v), z.tasks v) }) g)

pub joins_spend_one : JoinsSpendOne
joins_spend_one k number t s y p v u sound here there at gift top =
    one_goes_there k sound number s here (Step t) u (λ others g.
    join_spends (counted_kept (task_values_in k)) (less_kept (task_values_in k) u) k.code k.options others s u t y p v there at gift top
    (λ a b x z. record { sums = sums_spend.joined in_hand u x z.sums; tasks = λ w. omega (arith, x.before (tasks_of w), x.after (tasks_of w), z.tasks w) }) g)

pub shares_leave_task_values : SharesLeaveTaskValues
shares_leave_task_values k number i s m sound here q = none_goes k sound number s here (Deliver i) (λ others g. share_goes (counted_kept (task_values_in k)) k.code k.options others s i m q g)

pub asking_leaves_task_values : AskingLeavesTaskValues
asking_leaves_task_values k number t s y p sound here there at bare = none_goes k sound number s here (Step t) (λ others g. join_asks (counted_kept (task_values_in k)) k.code k.options others s t y p there at bare g)
