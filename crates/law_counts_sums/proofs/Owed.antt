-- Each event of a sound cluster leaves as many task values of each thread as are owed of its result: both become more and less by what the event makes and spends.
use Rattle.std.proofs.Common.{◌≡◌, ℕ, ◌+◌, ◌==◌, is_some, true, false, Option, Some, None, refl, sym, ap, subst, ◌∙◌, arith}
use Rattle.std.specs.Prelude.{slice_get, option_map}
use Rattle.coherent_memory.specs.Below.fr_base.declared.instruction.Instr.{Instr}
use Rattle.coherent_memory.specs.Below.fr_base.declared.instruction.Instr.TheVariants as instr
use Rattle.coherent_memory.specs.Below.fr_base.declared.instruction.Operand.{Operand}
use Rattle.coherent_memory.specs.Below.fr_base.declared.release.Released.TheVariants as released
use Rattle.coherent_memory.specs.Below.heap_partition.declared.value.Owned.{Owned}
use Rattle.coherent_memory.specs.Below.thread_state.View.{ThreadState}
use Rattle.coherent_memory.specs.Below.server_msgs.declared.message.Message.{Message}
use Rattle.coherent_memory.specs.Below.server_msgs.declared.message.Message.TheVariants as message
use Rattle.coherent_memory.specs.Below.journal.View.{EntryView}
use Rattle.coherent_memory.specs.Below.server_model.declared.event.Event.{Event}
use Rattle.coherent_memory.specs.Below.server_model.declared.event.What.{What}
use Rattle.coherent_memory.specs.Below.server_model.declared.event.What.TheVariants.{Step, Deliver, Evict, Migrate}
use Rattle.coherent_memory.specs.Below.server_model.Servers.{Server, Cluster, server_at}
use Rattle.coherent_memory.specs.Below.server_model.Work.{thread_in, then_some}
use Rattle.coherent_memory.specs.Below.server_model.Events.{enabled, begin_work, left_by, received, deliver_message, step_in, stepped, does}
use Rattle.coherent_memory.specs.Below.server_model.Clusters.{with_server, done_at, act_at}
use Rattle.coherent_memory.specs.Names.{tot, one, other, if_so}
use Rattle.coherent_memory.specs.Things.{things_of, servers_things}
use Rattle.coherent_memory.specs.Sight.{sight}
use Rattle.coherent_memory.specs.Paths.{joined_thread}
use Rattle.coherent_memory.specs.Requests.{is_task, gift_there, gift_fits as fits_there}
use Rattle.coherent_memory.specs.Coherent.{IsSound}
use Rattle.law_counts_sums.specs.Kinds.{Kind, evicts, migrates, message_kind, instr_kind, kind_at}
use Rattle.law_counts_sums.specs.Laws.{Gives, FewEvents, task_values_in, LeavesTaskValues, TaskValuesOwed, EachEventLeaves, EachEventHandedOver}
use Rattle.law_counts_sums.proofs.Results.{over_gives, test_gives, weaker, both_give}
use Rattle.law_counts_sums.proofs.Askers.{other_none}
use Rattle.law_counts_sums.proofs.Applied.{handed_on}
use Rattle.law_counts_sums.proofs.Sending.{each_event_sends}
use Rattle.law_counts_sums.proofs.TaskCounts.{others_leave_task_values, spawns_make_one}
use Rattle.law_counts_sums.proofs.TaskSpends.{releases_spend_one, joins_spend_one, shares_leave_task_values, asking_leaves_task_values}
use Rattle.law_counts_sums.proofs.Held.{owed_of, holds_result, all_owed, bare_held}
use Rattle.law_counts_sums.proofs.QuietSteps.{made_by}
use Rattle.law_counts_sums.proofs.Turns.{Turns, owed_turned}
use Rattle.law_counts_sums.proofs.GiftsTaken.{turned_one, gift_fits, none_here}
use Rattle.law_counts_sums.proofs.TurnEvents.{made_step, made, spent_message, spent_waiting, spent_step, spent, dues, turns}

some_is : {X : Type 0} (o : Option X) → is_some o ≡ true → (x : X) × (o ≡ Some x)
some_is None e = absurd (cc e)
some_is (Some x) e = (x, refl)

module _ (k : Cluster) (sound : IsSound k) (few : FewEvents k) (n : ℕ) (s : Server) (here : server_at k.servers n ≡ Some s) where
  abbrev event : What → Event
  event w = record { server = n; what = w }

  -- done at the server, done in the cluster
  lifted : (P : Cluster × EntryView → Type 0) (w : What) → Gives (λ (r : Server × EntryView). P (record k { servers = with_server k.servers n r.0 }, r.1)) (done_at k w s) → Gives P (act_at k (event w))
  lifted P w g =
      subst (λ z. Gives P (then_some z (λ x. option_map (λ r. (record k { servers = with_server k.servers n r.0 }, r.1)) (done_at k w x)))) (sym here)
      (over_gives (λ (r : Server × EntryView). P (record k { servers = with_server k.servers n r.0 }, r.1)) P (done_at k w s) _ g (λ r u. u))

  of_nothing : (P : Cluster × EntryView → Type 0) (w : What) → does k.code k.options s w ≡ None → Gives P (act_at k (event w))
  of_nothing P w e = lifted P w (test_gives _ (enabled k.options s w) (does k.code k.options s w) (λ on. subst (λ o. Gives (λ (r : Server × EntryView). P (record k { servers = with_server k.servers n r.0 }, r.1)) o) (sym e) tt))

  -- TASK VALUES

  -- so many are there then
  abbrev Values : (ℕ → ℕ) → (ℕ → ℕ) → Cluster × EntryView → Type 0
  Values made spent d = (t : ℕ) → task_values_in d.0 t + spent t ≡ task_values_in k t + made t

  abbrev As : Cluster × EntryView → Type 0
  As d = (t : ℕ) → task_values_in d.0 t ≡ task_values_in k t

  -- none is made and none spent
  same_values : (w : What) (kind : Kind) → kind_at k w s ≡ Some kind → LeavesTaskValues kind → Gives As (act_at k (event w))
  same_values w kind q p = others_leave_task_values k (event w) kind (subst (λ o. then_some o (kind_at k w) ≡ Some kind) (sym here) q) p sound few

  none_spent : (w : What) (spent : ℕ → ℕ) → ((t : ℕ) → spent t ≡ 0) → Gives As (act_at k (event w)) → Gives (Values (λ t. 0) spent) (act_at k (event w))
  none_spent w spent z g = weaker As (Values (λ t. 0) spent) (act_at k (event w)) g (λ d u t. omega (arith, u t, z t))

  message_values : (i : ℕ) (m : Message) → slice_get s.rest.inbox i ≡ Some m → Gives (Values (λ t. 0) (spent_message m)) (act_at k (event (Deliver i)))
  message_values i (message.Release (released.Task u)) q =
      weaker (λ (d : Cluster × EntryView). (t : ℕ) → task_values_in d.0 t + one (u == t) ≡ task_values_in k t) (Values (λ t. 0) (spent_message (message.Release (released.Task u)))) (act_at k (event (Deliver i))) (releases_spend_one k n i s u sound here q)
      (λ d g t. omega (arith, g t))
  message_values i (message.Release (released.Mutex m)) q = none_spent (Deliver i) (λ t. 0) (λ t. refl) (shares_leave_task_values k n i s m sound here q)
  message_values i m q = none_spent (Deliver i) (λ t. 0) (λ t. refl) (same_values (Deliver i) (message_kind m) (ap (option_map message_kind) q) tt)

  delivered : (i : ℕ) → Gives (Values (λ t. 0) (spent_waiting (slice_get s.rest.inbox i))) (act_at k (event (Deliver i)))
  delivered i = by (slice_get s.rest.inbox i) refl
    where
      by : (o : Option Message) → slice_get s.rest.inbox i ≡ o → Gives (Values (λ t. 0) (spent_waiting o)) (act_at k (event (Deliver i)))
      by None q = of_nothing (Values (λ t. 0) (λ t. 0)) (Deliver i) (ap (λ z. option_map (left_by s.events None None) (then_some z (λ y. deliver_message k.code y (received i s)))) q)
      by (Some m) q = message_values i m q

  module _ (t : ℕ) (y : ThreadState) (at : thread_in s.threads t ≡ Some y) where
    abbrev Stepped : (ℕ → ℕ) → Type 0
    Stepped made = Gives (Values made (λ u. holds_result k.code u y)) (act_at k (event (Step t)))

    kind_is : (i : Instr) → slice_get k.code y.pc ≡ Some i → kind_at k (Step t) s ≡ Some (instr_kind i)
    kind_is i q = subst (λ o. then_some o (λ x. option_map instr_kind (slice_get k.code x.pc)) ≡ Some (instr_kind i)) (sym at) (ap (option_map instr_kind) q)

    -- a join whose result is there
    join_values : (o : Operand) (v : Owned) → slice_get k.code y.pc ≡ Some (instr.Join o) → y.gift ≡ Some v → Stepped (λ u. 0)
    join_values o v q gift =
        let there : gift_there (sight k) (record { server = s.rest.number; packed = false; thread = y }) y.gift ≡ 0 = none_here k sound n s here t y at (λ x. gift_there (sight k) x x.thread.gift) sound.requests.gifts_fit in
        let given : gift_there (sight k) (record { server = s.rest.number; packed = false; thread = y }) (Some v) ≡ 0 = subst (λ z. gift_there (sight k) (record { server = s.rest.number; packed = false; thread = y }) z ≡ 0) gift there in
        let fits : other (is_some (joined_thread (Some (instr.Join o)) y)) ≡ 0 = subst (λ i. fits_there (sight k) (record { server = s.rest.number; packed = false; thread = y }) v i ≡ 0) q given in
        let found = some_is (joined_thread (Some (instr.Join o)) y) (other_none _ fits) in
        let u : ℕ = found.0 in
        let top : joined_thread (Some (instr.Join o)) y ≡ Some u = found.1 in
        let holds : (w : ℕ) → holds_result k.code w y ≡ one (w == u) = λ w. ap (λ g. if_so (is_some g) (one (is_task w (joined_thread (slice_get k.code y.pc) y)))) gift ∙ ap (λ z. one (is_task w z)) (ap (λ i. joined_thread i y) q ∙ top) in
        weaker (λ (d : Cluster × EntryView). (w : ℕ) → task_values_in d.0 w + one (u == w) ≡ task_values_in k w) (Values (λ w. 0) (λ w. holds_result k.code w y)) (act_at k (event (Step t))) (joins_spend_one k n t s y o v u sound here at q gift top)
        (λ d g w. omega (arith, g w, holds w, turned_one w u))

    join_waits : (o : Operand) → slice_get k.code y.pc ≡ Some (instr.Join o) → (g : Option Owned) → y.gift ≡ g → Stepped (λ u. 0)
    join_waits o q None e = none_spent (Step t) (λ u. holds_result k.code u y) (λ u. bare_held k.code u y e) (asking_leaves_task_values k n t s y o sound here at q e)
    join_waits o q (Some v) e = join_values o v q e

    instr_values : (i : Instr) → slice_get k.code y.pc ≡ Some i → Stepped (made_by i (Rattle.coherent_memory.specs.Below.server_model.Start.next_thread s.rest))
    instr_values (instr.Spawn cs pc) q =
        let none = (gift_fits k sound n s here t y at (instr.Spawn cs pc) q).1 in
        weaker _ (Values (made_by (instr.Spawn cs pc) (Rattle.coherent_memory.specs.Below.server_model.Start.next_thread s.rest)) (λ u. holds_result k.code u y)) (act_at k (event (Step t)))
        (spawns_make_one k (event (Step t)) s (subst (λ o. then_some o (kind_at k (Step t)) ≡ Some (instr_kind (instr.Spawn cs pc))) (sym here) (kind_is (instr.Spawn cs pc) q)) here sound few) (λ d g u. omega (arith, g u, none u y refl refl))
    instr_values (instr.Join o) q = join_waits o q y.gift refl
    instr_values i q =
        let none = (gift_fits k sound n s here t y at i q).1 in
        none_spent (Step t) (λ u. holds_result k.code u y) (λ u. none u y refl refl) (same_values (Step t) (instr_kind i) (kind_is i q) tt)

    stepped_values : Stepped (made_step k.code s (Some y))
    stepped_values = by (slice_get k.code y.pc) refl
      where
        nothing : slice_get k.code y.pc ≡ None → does k.code k.options s (Step t) ≡ None
        nothing q = ap (λ o. option_map (stepped s) (then_some (option_map (λ x. record { work = begin_work s.rest; thread = x }) o) (step_in k.code k.options.servers))) at
            ∙ ap (λ o. option_map (stepped s) (then_some o (λ i. Rattle.coherent_memory.specs.Below.server_model.Events.step k.options.servers i (record { work = begin_work s.rest; thread = y })))) q

        by : (o : Option Instr) → slice_get k.code y.pc ≡ o → Stepped (Rattle.law_counts_sums.proofs.Turns.made_at o (Rattle.coherent_memory.specs.Below.server_model.Start.next_thread s.rest))
        by None q = of_nothing (Values (λ u. 0) (λ u. holds_result k.code u y)) (Step t) (nothing q)
        by (Some i) q = instr_values i q

  stepping : (t : ℕ) → Gives (Values (made_step k.code s (thread_in s.threads t)) (spent_step k.code (thread_in s.threads t))) (act_at k (event (Step t)))
  stepping t = by (thread_in s.threads t) refl
    where
      by : (o : Option ThreadState) → thread_in s.threads t ≡ o → Gives (Values (made_step k.code s o) (spent_step k.code o)) (act_at k (event (Step t)))
      by None e = of_nothing (Values (λ u. 0) (λ u. 0)) (Step t) (ap (λ o. option_map (stepped s) (then_some (option_map (λ x. record { work = begin_work s.rest; thread = x }) o) (step_in k.code k.options.servers))) e)
      by (Some y) e = stepped_values t y e

  values : (w : What) → Gives (Values (made k.code s w) (spent k.code s w)) (act_at k (event w))
  values (Step t) = stepping t
  values (Deliver i) = delivered i
  values (Evict a) = none_spent (Evict a) (λ t. 0) (λ t. refl) (same_values (Evict a) evicts refl tt)
  values (Migrate t target) = none_spent (Migrate t target) (λ u. 0) (λ u. refl) (same_values (Migrate t target) migrates refl tt)

  -- WHAT IS OWED

  abbrev Owed : What → Cluster × EntryView → Type 0
  Owed w d = (t : ℕ) → tot (owed_of d.0.code t) (things_of d.0) + spent k.code s w t ≡ tot (owed_of k.code t) (things_of k) + made k.code s w t

  is_owed : (w : What) → Gives (Owed w) (act_at k (event w))
  is_owed w = lifted (Owed w) w (weaker (λ (r : Server × EntryView). Turns (dues k (event w) sound few s) s r.0) _ (done_at k w s) (turns k (event w) sound few s here) (λ r u. owed_turned (dues k (event w) sound few s) k.servers n s r.0 here u))

  both : (w : What) → Gives (λ (d : Cluster × EntryView). TaskValuesOwed d.0) (act_at k (event w))
  both w =
      both_give (Values (made k.code s w) (spent k.code s w)) (Owed w) (λ (d : Cluster × EntryView). TaskValuesOwed d.0) (act_at k (event w)) (values w) (is_owed w)
      (λ d v o t. omega (arith, v t, o t, all_owed (sight d.0) t (things_of d.0), all_owed (sight k) t (things_of k), sound.mutexes_and_tasks.task_values_owed t))

pub owed_left : EachEventLeaves TaskValuesOwed
owed_left k e sound few = by (server_at k.servers e.server) refl
  where
    by : (o : Option Server) → server_at k.servers e.server ≡ o → Gives (λ (d : Cluster × EntryView). TaskValuesOwed d.0) (act_at k e)
    by None q = subst (λ z. Gives (λ (d : Cluster × EntryView). TaskValuesOwed d.0) (then_some z (λ x. option_map (λ r. (record k { servers = with_server k.servers e.server r.0 }, r.1)) (done_at k e.what x)))) (sym q) tt
    by (Some s) q = both k sound few e.server s q e.what

pub owed_handed_over : EachEventHandedOver TaskValuesOwed
owed_handed_over k e sound few = handed_on TaskValuesOwed unmoved k e (each_event_sends k e sound few) (owed_left k e sound few)
  where
    unmoved : Rattle.law_counts_sums.proofs.Applied.Unmoved TaskValuesOwed
    unmoved c a b same g t =
        omega (arith, g t, same (Rattle.coherent_memory.specs.Weights.tasks_of t), same (owed_of c.code t), all_owed (sight (record c { servers = a })) t (servers_things a), all_owed (sight (record c { servers = b })) t (servers_things b))
