-- Each step of a thread that ends in a request: its entry leads on, whatever its instruction.
use Rattle.std.proofs.Common.{◌≡◌, ℕ, ◌+◌, ◌==◌, Bool, true, false, if◌then◌else◌, Option, Some, None, option_map, refl, sym, ap, subst, ◌∙◌}
use Rattle.std.specs.Prelude.{slice_get, length}
use Rattle.law_copies_writes.specs.Below.law_copies_kept.Below.fr_base.declared.instruction.Instr.{Instr}
use Rattle.law_copies_writes.specs.Below.law_copies_kept.Below.fr_base.declared.instruction.Instr.TheVariants as instr
use Rattle.law_copies_writes.specs.Below.law_copies_kept.Below.fr_base.declared.step.Fresh.{Fresh}
use Rattle.law_copies_writes.specs.Below.law_copies_kept.Below.fr_base.declared.step.Fresh.TheVariants as fresh
use Rattle.law_copies_writes.specs.Below.law_copies_kept.Below.thread_state.View.{ThreadState}
use Rattle.law_copies_writes.specs.Below.law_copies_kept.Below.thread_state.declared.phase.Phase.TheVariants as phase
use Rattle.law_copies_writes.specs.Below.law_copies_kept.Below.journal.View.{EntryView}
use Rattle.law_copies_writes.specs.Below.law_copies_kept.Below.server_model.declared.event.Event.{Event}
use Rattle.law_copies_writes.specs.Below.law_copies_kept.Below.server_model.declared.event.What.TheVariants.{Step}
use Rattle.law_copies_writes.specs.Below.law_copies_kept.Below.server_model.Servers.{Server, Cluster, server_at}
use Rattle.law_copies_writes.specs.Below.law_copies_kept.Below.server_model.Work.{Hand, with_phase, pop_owned, thread_in, then_some}
use Rattle.mutex_home.specs.Mutexes.{next_mutex}
use Rattle.law_copies_writes.specs.Below.law_copies_kept.Below.server_model.Start.{next_thread, capture}
use Rattle.law_copies_writes.specs.Below.law_copies_kept.Below.server_model.Commit.{done_where, go_on, settle, let_slot, box_up, arith as computes, print, spawn_with, par_with, par_end, end_with, mutex_made, unlock}
use Rattle.law_copies_writes.specs.Below.law_copies_kept.Below.server_model.Events.{can_step, has_phase, enabled, begin_work, Stepped, done_step, committed, step, step_in, stepped, does}
use Rattle.law_copies_writes.specs.Below.law_copies_kept.Below.server_model.Clusters.{done_at, hand_over_newer, apply}
use Rattle.law_entries_writes.specs.Below.law_entries_variables.Below.coloured_heap.Heap.{Coloured}
use Rattle.law_copies_writes.specs.Below.law_copies_kept.Below.coherent_types.ClusterTypes.{IsCoherent}
use Rattle.law_copies_writes.proofs.Below.law_copies_kept.Below.law_words_paths.paths.Sole.{some_is}
use Rattle.law_copies_writes.specs.Below.law_copies_kept.Below.law_counts_sums.Laws.{Gives, FewEvents}
use Rattle.law_copies_writes.specs.Below.law_copies_kept.Below.law_counts_sums.Kinds.{instr_kind, kind_at, kind_of}
use Rattle.law_copies_writes.proofs.Below.law_copies_kept.Below.law_counts_sums.Results.{map_gives, over_gives}
use Rattle.law_copies_writes.specs.Below.law_copies_kept.references.Clean.{a_copy, a_dup, a_lock}
use Rattle.law_entries_writes.specs.Below.law_entries_variables.deliveries.Entries.{LeadsOn}
use Rattle.law_entries_writes.proofs.Below.law_entries_variables.deliveries.Applied.{Afterwards, applied_by}
use Rattle.law_entries_writes.proofs.Below.law_entries_variables.still.Asks.{joins_legal}
use Rattle.law_entries_writes.proofs.Below.law_entries_reads.asks.ReadKinds.{reads_legal}
use Rattle.law_entries_writes.proofs.Below.law_entries_reads.asks.BorrowKinds.{shared_legal, mutable_legal}
use Rattle.law_entries_writes.specs.asks.Writes.{StepsThatAskLegal}
use Rattle.law_entries_writes.specs.asks.Each.{EachStepThatAsksLegal}
use Rattle.law_entries_writes.proofs.asks.WriteKinds.{moves_legal, assignments_legal, discards_legal, drops_legal}

-- AN INSTRUCTION THAT ASKS FOR NOTHING

-- a plain step was done
abbrev IsDone : Stepped → Type 0
IsDone d = d.names ≡ None → ⊥

done_so : (names : Fresh) (o : Option Hand) → Gives IsDone (committed (done_where names o))
done_so names None = tt
done_so names (Some h) = map_gives IsDone (settle h) (done_step names) (λ h2 e none. absurd (cc none))

-- its step is done, where it has a result
done_legal : (i : Instr) → ((servers : ℕ) (h : Hand) → Gives IsDone (step servers i h)) → StepsThatAskLegal i
done_legal i g k number t s y coherent few here at code c0 is_coloured =
    applied_by P k e coherent.sound few
    (λ u there on. subst (λ (v : Server). Gives (Then v) (does k.code k.options v (Step t))) (some_is (sym here ∙ there)) at_server)
  where
    e : Event
    e = record { server = number; what = Step t }

    P : Cluster × EntryView → Type 0
    P d = d.1.done ≡ None → LeadsOn k.options d.1 c0 d.0

    Then : Server → Server × EntryView → Type 0
    Then v r = (c : Cluster) → Afterwards k v r.0 c → r.1.done ≡ None → LeadsOn k.options r.1 c0 c

    start : Hand
    start = record { work = begin_work s.rest; thread = y }

    at_server : Gives (Then s) (does k.code k.options s (Step t))
    at_server =
        subst (λ o. Gives (Then s) (option_map (stepped s) (then_some (option_map (λ v. record { work = begin_work s.rest; thread = v }) o) (step_in k.code k.options.servers)))) (sym at)
        (subst (λ o. Gives (Then s) (option_map (stepped s) (then_some o (λ j. step k.options.servers j start)))) (sym code)
        (over_gives IsDone (Then s) (step k.options.servers i start) (stepped s) (g k.options.servers start) (λ d none c after undone. absurd (none undone))))

-- EACH INSTRUCTION

pub each_instruction : (i : Instr) → StepsThatAskLegal i
each_instruction (instr.Let o) = done_legal (instr.Let o) (λ n h. done_so fresh.None (option_map go_on (let_slot o h)))
each_instruction (instr.Assign w o) = assignments_legal w o
each_instruction (instr.Read w true) = moves_legal w
each_instruction (instr.Read w false) = λ k number t s y coherent few here at code. reads_legal k number t s y w (instr.Read w false) coherent few here at code a_copy
each_instruction (instr.Borrow w) = λ k number t s y coherent few here at code. shared_legal k number t s y w coherent few here at code
each_instruction (instr.BorrowMut w) = λ k number t s y coherent few here at code. mutable_legal k number t s y w coherent few here at code
each_instruction (instr.Box o) = done_legal (instr.Box o) (λ n h. done_so fresh.None (option_map go_on (box_up o h)))
each_instruction (instr.Arith f a b) = done_legal (instr.Arith f a b) (λ n h. done_so fresh.None (option_map go_on (computes f a b h)))
each_instruction (instr.Print o) = done_legal (instr.Print o) (λ n h. done_so fresh.None (option_map go_on (print o h)))
each_instruction instr.Discard = discards_legal
each_instruction instr.DropSlot = drops_legal
each_instruction (instr.Spawn cs pc) = done_legal (instr.Spawn cs pc) (λ n h. done_so (fresh.Thread (next_thread h.work.rest)) (option_map go_on (then_some (capture false cs.items h.thread.slots) (spawn_with n pc (next_thread h.work.rest) h))))
each_instruction (instr.Join o) = λ k number t s y coherent few here at code. joins_legal k (record { server = number; what = Step t }) (kind_is k number s here t y at (instr.Join o) code) coherent.sound few
  where
    kind_is : (k : Cluster) (number : ℕ) (s : Server) → server_at k.servers number ≡ Some s → (t : ℕ) (y : ThreadState) → thread_in s.threads t ≡ Some y → (i : Instr) → slice_get k.code y.pc ≡ Some i → kind_of k (record { server = number; what = Step t }) ≡ Some (instr_kind i)
    kind_is k number s here t y at i code =
        ap (λ r. then_some r (kind_at k (Step t))) here ∙ ap (λ r. then_some r (λ (x : ThreadState). option_map instr_kind (slice_get k.code x.pc))) at ∙ ap (option_map instr_kind) code
each_instruction (instr.Mutex o) = done_legal (instr.Mutex o) (λ n h. done_so (fresh.Mutex (next_mutex h.work.rest.mutexes)) (option_map go_on (then_some (pop_owned o h) (λ v. mutex_made v.item v.hand))))
each_instruction (instr.Dup w) = λ k number t s y coherent few here at code. reads_legal k number t s y w (instr.Dup w) coherent few here at code a_dup
each_instruction (instr.Lock w) = λ k number t s y coherent few here at code. reads_legal k number t s y w (instr.Lock w) coherent few here at code a_lock
each_instruction instr.Unlock = done_legal instr.Unlock (λ n h. done_so fresh.None (option_map go_on (unlock h)))
each_instruction (instr.Par cs pc ds other) =
    done_legal (instr.Par cs pc ds other)
    (λ n h.
    done_so (fresh.Threads (next_thread h.work.rest) (next_thread h.work.rest + 1))
    (then_some (capture true cs.items h.thread.slots) (λ first. then_some (capture true ds.items first.1) (par_with n pc other (next_thread h.work.rest) (next_thread h.work.rest + 1) h first.0))))
each_instruction instr.ParEnd = done_legal instr.ParEnd (λ n h. done_so fresh.None (option_map go_on (par_end h.thread.phase h)))
each_instruction (instr.End o) = done_legal (instr.End o) (λ n h. done_so fresh.None (option_map (with_phase phase.Over) (then_some (pop_owned o h) (λ v. end_with (h.thread.number == 0) v.item v.hand))))

-- EACH STEP

if_none : {A : Type 0} (b : Bool) (o : Option A) → o ≡ None → (if b then o else None) ≡ None
if_none true o e = e
if_none false o e = refl

module _ (k : Cluster) (number t : ℕ) (coherent : IsCoherent k) (few : FewEvents k) (c0 : Coloured) where
  abbrev P : Cluster × EntryView → Type 0
  P d = d.1.done ≡ None → LeadsOn k.options d.1 c0 d.0

  abbrev e : Event
  e = record { server = number; what = Step t }

  -- nothing is done at a server
  none_done : (s : Server) → server_at k.servers number ≡ Some s → done_at k (Step t) s ≡ None → Gives P (apply k e)
  none_done s here none =
      subst (λ o. Gives P (then_some o (λ x. option_map (λ d. (record k { servers = hand_over_newer number (length x.rest.outbox) d.0 k.servers }, d.1)) (done_at k (Step t) x)))) (sym here)
      (map_gives P (done_at k (Step t) s) _ (λ r q. let no : None ≡ Some r = sym none ∙ q in absurd (cc no)))

  -- no thread stands there
  no_thread : (s : Server) → thread_in s.threads t ≡ None → done_at k (Step t) s ≡ None
  no_thread s gone = ap (λ o. if has_phase can_step o then does k.code k.options s (Step t) else None) gone

  -- it stands at no instruction
  no_code : (s : Server) (y : ThreadState) → thread_in s.threads t ≡ Some y → slice_get k.code y.pc ≡ None → done_at k (Step t) s ≡ None
  no_code s y at gone =
      if_none (enabled k.options s (Step t)) (does k.code k.options s (Step t))
      (ap (λ o. option_map (stepped s) (then_some (option_map (λ v. record { work = begin_work s.rest; thread = v }) o) (step_in k.code k.options.servers))) at
      ∙ ap (λ o. option_map (stepped s) (then_some o (λ j. step k.options.servers j (record { work = begin_work s.rest; thread = y })))) gone)

pub each_step : EachStepThatAsksLegal
each_step k number t coherent few c0 is_coloured = by_server (server_at k.servers number) refl
  where
    by_code : (s : Server) → server_at k.servers number ≡ Some s → (y : ThreadState) → thread_in s.threads t ≡ Some y → (o : Option Instr) → slice_get k.code y.pc ≡ o → Gives (P k number t coherent few c0) (apply k (record { server = number; what = Step t }))
    by_code s here y at None code = none_done k number t coherent few c0 s here (no_code k number t coherent few c0 s y at code)
    by_code s here y at (Some i) code = each_instruction i k number t s y coherent few here at code c0 is_coloured

    by_thread : (s : Server) → server_at k.servers number ≡ Some s → (o : Option ThreadState) → thread_in s.threads t ≡ o → Gives (P k number t coherent few c0) (apply k (record { server = number; what = Step t }))
    by_thread s here None at = none_done k number t coherent few c0 s here (no_thread k number t coherent few c0 s at)
    by_thread s here (Some y) at = by_code s here y at (slice_get k.code y.pc) refl

    by_server : (o : Option Server) → server_at k.servers number ≡ o → Gives (P k number t coherent few c0) (apply k (record { server = number; what = Step t }))
    by_server None here = subst (λ o. Gives (P k number t coherent few c0) (then_some o (λ x. option_map (λ d. (record k { servers = hand_over_newer number (length x.rest.outbox) d.0 k.servers }, d.1)) (done_at k (Step t) x)))) (sym here) tt
    by_server (Some s) here = by_thread s here (thread_in s.threads t) refl
