-- Each enabled spawn has a result.
use Rattle.std.proofs.Common.{◌≡◌, ℕ, ◌+◌, ◌==◌, Bool, true, false, if◌then◌else◌, List, [], ◌∷◌, ◌++◌, reverse, Option, Some, None, option_map, IsSome, refl, sym, subst, arith}
use Rattle.law_results_events.specs.Below.fr_base.Rooms.{WithRoom}
use Rattle.law_results_events.specs.Below.fr_base.declared.step.Fresh.TheVariants as fresh
use Rattle.law_results_events.specs.Below.fr_base.declared.instruction.Instr.{Instr}
use Rattle.law_results_events.specs.Below.fr_base.declared.instruction.Instr.TheVariants as instr
use Rattle.law_results_events.specs.Below.fr_code.CodeTypes.{Entry, Table, InstrTypes, i_spawn}
use Rattle.law_results_events.specs.Below.fr_code.CodeTable.{Leads, Successors, to_next}
use Rattle.law_results_events.specs.Below.heap_partition.declared.value.Owned.TheVariants as owned
use Rattle.law_results_events.specs.Below.join_home.Tasks.{can_begin, begin}
use Rattle.law_results_events.specs.Below.migration.Packing.{unpin_all}
use Rattle.law_results_events.specs.Below.thread_state.View.{ThreadState}
use Rattle.law_results_events.specs.Below.thread_state.declared.value.Value.{Value}
use Rattle.law_results_events.specs.Below.thread_state.declared.value.Value.TheVariants as value
use Rattle.law_results_events.specs.Below.server_msgs.declared.message.Message.{Message}
use Rattle.law_results_events.specs.Below.server_model.Servers.{Rest}
use Rattle.law_results_events.specs.Below.server_model.Work.{Work, Hand, sent_from, with_slots, with_tasks, working, push_temp, then_some}
use Rattle.law_results_events.specs.Below.server_model.Start.{next_thread, start_thread, capture}
use Rattle.law_results_events.specs.Below.server_model.Commit.{done_where, go_on, spawn_with}
use Rattle.law_results_events.specs.Below.server_model.Events.{begin_work, committed, step}
use Rattle.law_results_events.specs.Below.law_counts_sums.Kinds.{step_spawn, instr_kind}
use Rattle.law_results_events.proofs.Below.law_counts_sums.Each.{names_left}
use Rattle.law_results_events.specs.Below.coherent_types.Names.{NameTypes}
use Rattle.law_results_events.specs.Below.coherent_types.ClusterTypes.{slots_wrong}
use Rattle.law_results_events.specs.Below.law_results_reads.Results.{Anyhow, StepsHaveResults}
use Rattle.law_results_events.proofs.Below.law_results_reads.Usable.{Usable, walk_goes}
use Rattle.law_results_events.proofs.Below.law_results_reads.Known.{settled, Steps, types, names, entry, typed, slots_fit, usable, has_result}
use Rattle.law_results_events.proofs.enabled.Captures.{takes_all}
use Rattle.law_results_events.proofs.enabled.NewNames.{name_new}

sent_cache : (r : Rest) (target : ℕ) (m : Message) → (sent_from r target m).cache ≡ r.cache
sent_cache r target m = by (target == r.number)
  where
    by : (b : Bool) → (if b then Rattle.law_results_events.specs.Below.server_model.Work.add_waiting m r else record r { outbox = r.outbox ++ record { target = target; message = m } ∷ [] }).cache ≡ r.cache
    by true = refl
    by false = refl

pub started_cache : (servers pc : ℕ) (vs : List Value) (w : Work) → (start_thread servers pc vs w).rest.cache ≡ w.rest.cache
started_cache servers pc vs w = sent_cache (record w.rest { started = w.rest.started + 1 }) _ _

module _ (servers : ℕ) (r : Rest) (y : ThreadState) (N : NameTypes) (table : Table) (uses : Usable y r.cache) (new : can_begin r.tasks (next_thread r) ≡ true) where
  abbrev h : Hand
  h = record { work = begin_work r; thread = y }

  abbrev Done : Instr → Type 0
  Done i = IsSome (step servers i h)

  abbrev Named : Option Hand → Type 0
  Named o = IsSome (committed (done_where (fresh.Thread (next_thread r)) (option_map go_on o)))

  begins : (pc : ℕ) (x : List Value × List Value) → Named (spawn_with servers pc (next_thread r) h x)
  begins pc x = by (can_begin r.tasks (next_thread r)) new
    where
      noted : Hand
      noted = with_slots x.1 (working (with_tasks (begin r.tasks (next_thread r))) h)

      after : Hand
      after = push_temp (value.Own (owned.Task (next_thread r))) (working (start_thread servers pc x.0) noted)

      by : (b : Bool) → b ≡ true → Named (option_map (λ h2. push_temp (value.Own (owned.Task (next_thread r))) (working (start_thread servers pc x.0) (with_slots x.1 h2))) (if b then Some (working (with_tasks (begin r.tasks (next_thread r))) h) else None))
      by true e = settled (fresh.Thread (next_thread r)) (go_on after) (subst (λ c. IsSome (unpin_all y.walk c)) (sym (started_cache servers pc x.0 noted.work)) (walk_goes y r.cache uses))
      by false e = absurd (cc e)

  spawns : (cs : WithRoom (ℕ × Bool)) (pc : ℕ) (x : List Value × List Value) → capture false cs.items y.slots ≡ Some x → Done (instr.Spawn cs pc)
  spawns cs pc x e = subst (λ o. Named (then_some o (spawn_with servers pc (next_thread r) h))) (sym e) (begins pc x)

  by_type : (E E2 : Entry) (i : Instr) → InstrTypes table E i E2 → instr_kind i ≡ step_spawn → slots_wrong N E.env (reverse y.slots) ≡ 0 → Done i
  by_type _ _ _ (i_spawn {e = e} {e1 = e1} {n = n} {cs = cs} {body = body} waits pass known full) is slots =
      let t = takes_all N e [] e1 n cs.items [] y.slots pass slots in
      spawns cs body t.0 t.1
  by_type _ _ _ _ is slots = absurd (cc is)

  by_row : (E : Entry) (i : Instr) (ss : Successors) → Leads table y.pc E i ss → instr_kind i ≡ step_spawn → slots_wrong N E.env (reverse y.slots) ≡ 0 → Done i
  by_row E i _ (to_next {y = E2} typed) is slots = by_type E E2 i typed is slots
  by_row _ _ _ _ is slots = absurd (cc is)

pub each_spawn : StepsHaveResults step_spawn Anyhow
each_spawn k n t s y i coherent few server on at code is f =
    let z : Steps k n t s y i = record { coherent = coherent; few = few; here = server; on = on; at = at; code = code } in
    let left = names_left k coherent.sound.names.few_names few n s server in
    has_result k n t s y i z
    (by_row k.options.servers s.rest y (names k n t s y i z) (types k n t s y i z).table (usable k n t s y i z)
    (name_new k n s server coherent.sound (s.rest.started + 1) (omega arith) (omega (arith, left)))
    (entry k n t s y i z) i (typed k n t s y i z).0 (typed k n t s y i z).1 is (slots_fit k n t s y i z))
