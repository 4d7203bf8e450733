-- A join whose answer came, at the server and on the plain machine.
use Rattle.std.proofs.Common.{◌≡◌, ℕ, ◌+◌, ◌==◌, true, List, [], ◌∷◌, ◌++◌, Option, Some, None, option_map, refl, sym, ap, subst, ◌∙◌}
use Rattle.law_heap_steps.specs.Below.fr_base.Lists.{last_of}
use Rattle.law_heap_steps.specs.Below.fr_base.declared.step.Fresh.{Fresh}
use Rattle.law_heap_steps.specs.Below.fr_base.declared.step.Fresh.TheVariants as fresh
use Rattle.law_heap_steps.specs.Below.fr_base.declared.instruction.Operand.{Operand}
use Rattle.law_heap_steps.specs.Below.fr_base.declared.instruction.Operand.TheVariants as operand
use Rattle.law_heap_steps.specs.Below.fr_base.declared.instruction.Instr.{Instr}
use Rattle.law_heap_steps.specs.Below.fr_base.declared.instruction.Instr.TheVariants as instr
use Rattle.law_heap_steps.specs.Below.fr_plain.declared.value.Value.{Value as PlainValue}
use Rattle.law_heap_steps.specs.Below.fr_plain.declared.value.Value.TheVariants as plain_v
use Rattle.law_heap_steps.specs.Below.fr_plain.MachineActs.{do_join}
use Rattle.law_heap_steps.specs.Below.fr_plain.PlainState.{SameState, plain_state}
use Rattle.law_heap_steps.specs.Below.fr_code.Machine.{CodeWhole}
use Rattle.law_heap_steps.specs.Below.fr_code.Steps.{Place, over_at, run_instr, loud}
use Rattle.law_heap_steps.specs.Below.heap_partition.Plain.{plain_of}
use Rattle.law_heap_steps.specs.Below.heap_partition.declared.value.Owned.{Owned}
use Rattle.law_heap_steps.specs.Below.heap_partition.declared.value.Owned.TheVariants as owned
use Rattle.law_heap_steps.specs.Below.thread_state.View.{ThreadState}
use Rattle.law_heap_steps.specs.Below.thread_state.declared.value.Value.{Value}
use Rattle.law_heap_steps.specs.Below.thread_state.declared.value.Value.TheVariants as value
use Rattle.law_heap_steps.specs.Below.server_model.declared.event.Event.{Event}
use Rattle.law_heap_steps.specs.Below.server_model.Servers.{Server, Cluster}
use Rattle.law_heap_steps.specs.Below.server_model.Work.{Hand, Popped, front_of, with_temps, push_temp, pop, taken_as, task_of, then_some}
use Rattle.law_heap_steps.specs.Below.server_model.Commit.{waiting, take_gift, ask_join, join}
use Rattle.law_heap_steps.specs.Below.server_model.Events.{Stepped, begin_work, committed, step}
use Rattle.law_heap_steps.specs.Below.server_model.Clusters.{apply}
use Rattle.law_heap_steps.specs.Below.coherent_memory.Paths.{popped as popped_value, task_in, joined_thread}
use Rattle.law_heap_steps.specs.Below.coherent_memory.OneHeap.{running_at, pair_of, one_heap, state_of}
use Rattle.law_heap_steps.specs.Below.coherent_memory.Coherent.{IsSound}
use Rattle.law_heap_steps.specs.Below.law_counts_sums.Laws.{Gives}
use Rattle.law_heap_steps.proofs.Below.law_counts_sums.Results.{bind_gives, both_give, over_gives}
use Rattle.law_heap_steps.proofs.Below.law_heap_still.events.Readied.{same_rest, same_ready}
use Rattle.law_heap_steps.specs.turns.Turns.{StepsTo, IsPlainStep, instr_of, ArePlainSteps}
use Rattle.law_heap_steps.proofs.turns.Instructions.{shown_last, shown_push, Pops, PopsTo, itself as same_value, popped}
use Rattle.law_heap_steps.proofs.turns.Events.{AtStep, then_same}
use Rattle.law_heap_steps.proofs.mutexes.Beside.{itself}
use Rattle.law_heap_steps.proofs.mutexes.DupLines.{running_to}
use Rattle.law_heap_steps.proofs.mutexes.Changed as changed
use Rattle.law_heap_steps.proofs.mutexes.ThreadTurns.{ThreadTurn, Soon, settles, turn_steps}
use Rattle.law_heap_steps.specs.threads.Tasks.{joins_thread}
use Rattle.law_heap_steps.proofs.threads.Taken.{ResultsTaken, R, G, beside}
use Rattle.law_heap_steps.proofs.threads.JoinTakes.{s1, s2, calm, result_taken, once_then}
use Rattle.law_heap_steps.proofs.threads.PlainJoin.{join_steps}

-- A TASK IS POPPED

abbrev as_task : ℕ → Value
as_task u = value.Own (owned.Task u)

task_taken : (o : Operand) (h : Hand) (p : Popped Value) → PopsTo o h same_value p → Gives (PopsTo o h as_task) (taken_as task_of p)
task_taken o h p u = by p.item refl
  where
    by : (v : Value) → p.item ≡ v → Gives (PopsTo o h as_task) (option_map (λ x. record { item = x; hand = p.hand }) (task_of v))
    by (value.Own (owned.Task t)) e = record { rest = u.rest; hand = u.hand; pops = subst (λ v. Pops o h.thread.temps v u.rest) e u.pops }
    by (value.Own owned.Nothing) e = tt
    by (value.Own owned.Unit) e = tt
    by (value.Own (owned.Int i)) e = tt
    by (value.Own (owned.Box b)) e = tt
    by (value.Own (owned.Mutex m)) e = tt
    by value.Gone e = tt
    by (value.SharedSlot i) e = tt
    by (value.MutSlot i) e = tt
    by (value.Shared r) e = tt
    by (value.Mut r) e = tt
    by (value.Held m) e = tt

popped_task : (o : Operand) (h : Hand) → Gives (PopsTo o h as_task) (then_some (pop o h) (taken_as task_of))
popped_task o h = bind_gives (PopsTo o h same_value) (PopsTo o h as_task) (pop o h) (taken_as task_of) (popped o h) (task_taken o h)

-- it is the operand of the join
is_operand : (o : Operand) (h : Hand) → Gives (λ (p : Popped ℕ). task_in (popped_value o h.thread.temps) ≡ Some p.item) (then_some (pop o h) (taken_as task_of))
is_operand (operand.Const n) h = tt
is_operand operand.Unit h = tt
is_operand operand.Pop h = by (last_of h.thread.temps)
  where
    by : (q : Option Value) → Gives (λ (p : Popped ℕ). task_in q ≡ Some p.item) (then_some {X = Popped Value} (option_map (λ v. record { item = v; hand = with_temps (front_of h.thread.temps) h }) q) (taken_as task_of))
    by None = tt
    by (Some (value.Own (owned.Task t))) = refl
    by (Some (value.Own owned.Nothing)) = tt
    by (Some (value.Own owned.Unit)) = tt
    by (Some (value.Own (owned.Int i))) = tt
    by (Some (value.Own (owned.Box b))) = tt
    by (Some (value.Own (owned.Mutex m))) = tt
    by (Some value.Gone) = tt
    by (Some (value.SharedSlot i)) = tt
    by (Some (value.MutSlot i)) = tt
    by (Some (value.Shared r)) = tt
    by (Some (value.Mut r)) = tt
    by (Some (value.Held m)) = tt

-- THE STEP

module _ (k : Cluster) (sound : IsSound k) (e : Event) (o : Operand) (s : Server) (t : ℕ) (x : ThreadState) (at : AtStep k e (instr.Join o) s t x) where
  abbrev i : Instr
  i = instr.Join o

  abbrev start : Hand
  start = record { work = begin_work s.rest; thread = x }

  abbrev Wanted : Stepped → Type 0
  Wanted d = (names : Fresh) → d.names ≡ Some names → ThreadTurn k sound e i refl s t x at d

  module _ (v : Owned) (gift : x.gift ≡ Some v) where
    -- a task is popped, and it is the one that is joined
    record Joins (p : Popped ℕ) : Type 0 where
      pops : PopsTo o (take_gift start) as_task p
      joins : joined_thread (Some i) x ≡ Some p.item

    module _ (u : ℕ) (rest : List Value) (pops : Pops o x.temps (as_task u) rest) (joins : joined_thread (Some i) x ≡ Some u) where
      abbrev temps : List Value
      temps = rest ++ value.Own v ∷ []

      steps : (c : CodeWhole) → SameState (plain_state c) (one_heap k) → StepsTo k.code c x.number fresh.None (state_of (s2 k sound e o s t x at v gift u rest pops joins)) []
      steps c same =
          let a = state_of (s1 k sound e o s t x at v gift u rest pops joins) in
          let b = state_of (s2 k sound e o s t x at v gift u rest pops joins) in
          let shown : SameState (plain_state c) a = then_same (plain_state c) (one_heap k) a same (changed.state_before k sound e s at.here t x at.at at.number) in
          let plug : PlainValue → Place = λ z. record { pc = x.pc + 1; temps = z ∷ shown_last rest } in
          let turn : ResultsTaken x.number (λ r. r == u) (plain_of v) (running_at x) (running_to (x.pc + 1) (plain_v.Own (plain_of v) ∷ shown_last rest) (shown_last x.slots)) a b =
          subst (λ q. ResultsTaken x.number (λ r. r == u) (plain_of v) (running_at x) q a b) (ap (λ l. running_to (x.pc + 1) l (shown_last x.slots)) (shown_push rest (value.Own v))) (result_taken k sound e o s t x at v gift u rest pops joins) in
          let quiet = calm k sound e o s t x at v gift u rest pops joins in
          let alone : a.pair x.number ≡ None = ap pair_of (itself s.rest.number x (G k sound e i s t x at (x.pc + 1) x.slots temps) (R k sound e i s t x at (x.pc + 1) x.slots temps) (beside k sound e i s t x at (x.pc + 1) x.slots temps)) ∙ quiet.alone in
          join_steps k.code c x.number u (plain_of v) (running_at x) plug a b turn shown alone (ap (λ j. over_at j (shown_last x.temps)) at.code)
          (ap (λ j. run_instr j x.pc (shown_last x.temps)) at.code ∙ pops.taken (λ z us. loud (x.pc + 1) us (do_join z)))

    soon : (p : Popped ℕ) → Joins p → Soon k sound e i refl s t x at [] (push_temp (value.Own v) p.hand)
    soon p g =
        let r = g.pops in
        subst (λ h. Soon k sound e i refl s t x at [] (push_temp (value.Own v) h)) (sym r.hand) (record {
          ready_hand = start;
          ready = same_ready start;
          moves = same_rest s.rest;
          slots = x.slots;
          temps = temps p.item r.rest r.pops g.joins;
          thread = refl;
          loose_too = tt;
          unstray = refl;
          once = once_then k sound e o s t x at v gift p.item r.rest r.pops g.joins;
          steps = steps p.item r.rest r.pops g.joins;
        })

    joined : Gives (Soon k sound e i refl s t x at []) (option_map (λ p. push_temp (value.Own v) p.hand) (then_some (pop o (take_gift start)) (taken_as task_of)))
    joined =
        over_gives Joins (Soon k sound e i refl s t x at []) (then_some (pop o (take_gift start)) (taken_as task_of)) (λ p. push_temp (value.Own v) p.hand)
        (both_give (PopsTo o (take_gift start) as_task) (λ (p : Popped ℕ). joined_thread (Some i) x ≡ Some p.item) Joins (then_some (pop o (take_gift start)) (taken_as task_of)) (popped_task o (take_gift start)) (is_operand o (take_gift start)) (λ p a b. record { pops = a; joins = b })) soon

  -- its answer came, or it asks
  pub join_line : Gives Wanted (step k.options.servers i start)
  join_line = by x.gift refl
    where
      asks : (q : Option ℕ) → Gives Wanted (committed (waiting (option_map (ask_join start) q)))
      asks None = tt
      asks (Some u) = λ names q. absurd (cc q)

      by : (g : Option Owned) → x.gift ≡ g → Gives Wanted (committed (join o g start))
      by None q = asks (then_some (pop o start) (λ p. task_of p.item))
      by (Some v) q = settles k sound e i refl s t x at [] (option_map (λ p. push_temp (value.Own v) p.hand) (then_some (pop o (take_gift start)) (taken_as task_of))) (joined v q)

pub joins : ArePlainSteps IsSound joins_thread
joins k e i q it sound few = by i q it
  where
    by : (i : Instr) → instr_of k e ≡ Some i → joins_thread i ≡ true → Gives (IsPlainStep k) (apply k e)
    by (instr.Join o) q it = turn_steps k sound e (instr.Join o) refl few (λ s t x at. join_line k sound e o s t x at) q
    by _ q it = absurd (cc it)
