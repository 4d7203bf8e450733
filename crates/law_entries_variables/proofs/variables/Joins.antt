-- Joins: one that has its result takes it, and one that hasn't asks for it.
use Rattle.std.proofs.Common.{◌≡◌, ℕ, Bool, true, false, [], ◌∷◌, ◌++◌, Option, Some, None, is_some, refl, ap, ◌∙◌}
use Rattle.std.specs.Prelude.{slice_get, option_map}
use Rattle.law_words_ends.specs.Below.fr_base.declared.name.MutexNo.{MutexNo}
use Rattle.law_words_ends.specs.Below.fr_base.declared.instruction.Operand.{Operand}
use Rattle.law_words_ends.specs.Below.fr_base.declared.instruction.Operand.TheVariants as operand
use Rattle.law_words_ends.specs.Below.fr_base.declared.instruction.Instr.{Instr}
use Rattle.law_words_ends.specs.Below.fr_base.declared.instruction.Instr.TheVariants as instr
use Rattle.law_words_ends.specs.Below.fr_base.declared.step.Fresh.TheVariants as fresh
use Rattle.law_words_ends.specs.Below.heap_partition.declared.value.Owned.{Owned}
use Rattle.law_words_ends.specs.Below.heap_partition.declared.value.Owned.TheVariants as owned
use Rattle.law_words_ends.specs.Below.thread_state.View.{ThreadState, is_over}
use Rattle.law_words_ends.specs.Below.thread_state.declared.value.Value.{Value}
use Rattle.law_words_ends.specs.Below.thread_state.declared.value.Value.TheVariants as value
use Rattle.law_words_ends.specs.Below.server_model.declared.event.What.TheVariants.{Step}
use Rattle.law_words_ends.specs.Below.server_model.Servers.{Server, Cluster, server_at}
use Rattle.law_words_ends.specs.Below.server_model.Work.{Hand, Popped, last_of, front_of, task_of, taken_as, then_some, pop, push_temp, with_temps, thread_in}
use Rattle.law_words_ends.specs.Below.server_model.Commit.{waiting, ask_join, take_gift, join}
use Rattle.law_words_ends.specs.Below.server_model.Events.{Stepped, begin_work, committed, stepped}
use Rattle.law_entries_variables.specs.Below.coloured_heap.Heap.{Coloured}
use Rattle.law_words_ends.specs.Below.coherent_memory.Names.{one, some, if_so}
use Rattle.law_words_ends.specs.Below.coherent_memory.Things.{stands}
use Rattle.law_words_ends.specs.Below.coherent_memory.Follow.{Standing}
use Rattle.law_words_ends.specs.Below.coherent_memory.Sight.{sight}
use Rattle.law_words_ends.specs.Below.coherent_memory.Requests.{is_mutex, locked_mutex}
use Rattle.law_words_ends.specs.Below.coherent_memory.Colours.{StandsColoured}
use Rattle.law_words_ends.specs.Below.coherent_memory.Coherent.{IsSound}
use Rattle.law_words_ends.specs.Below.law_counts_sums.Kinds.{step_join, instr_kind}
use Rattle.law_words_ends.specs.Below.law_counts_sums.Laws.{Gives, FewEvents}
use Rattle.law_entries_variables.proofs.Below.law_heap_still.events.Told.{told}
use Rattle.law_words_ends.specs.Below.law_words_paths.words.Unmoved.{LeavesWords}
use Rattle.law_words_ends.specs.Below.law_words_values.carried.Steps.{a_join}
use Rattle.law_words_ends.proofs.Below.law_words_values.carried.Events.{steps_carry}
use Rattle.law_entries_variables.specs.deliveries.Entries.{EntryLegal, EntriesLegal}
use Rattle.law_entries_variables.proofs.deliveries.Shown.{if_some, holder_by}
use Rattle.law_entries_variables.proofs.still.PlainSteps.{lives}
use Rattle.law_entries_variables.proofs.still.Asks.{asks_led}
use Rattle.law_entries_variables.proofs.variables.Turning.{begins, rethreaded}
use Rattle.law_entries_variables.proofs.variables.Led.{LedWith, Steps, goes_on_led}
use Rattle.law_entries_variables.proofs.variables.InStep.{by_number, step_legal, kind_legal}
use Rattle.law_entries_variables.proofs.variables.Quiets.{quiet_steps}

-- who stands at another instruction than a lock holds no mutex by a gift
pub unheld : (k : Cluster) (n : ℕ) (y : ThreadState) (i : Instr) → slice_get k.code y.pc ≡ Some i → locked_mutex (sight k) (record { server = n; packed = false; thread = y }) (Some i) ≡ None
    → (m : MutexNo) (g : ℕ → ℕ) → told g (holder_by (sight k) m (stands n false y)) ≡ 0
unheld k n y i code none m g =
    ap (λ j. told g (if_some (some (if_so (is_some y.gift) (one (is_mutex m (locked_mutex (sight k) me j))))) y.number)) code ∙ ap (λ j. told g (if_some (some (if_so (is_some y.gift) (one (is_mutex m j)))) y.number)) none ∙ by (is_some y.gift)
  where
    me : Standing
    me = record { server = n; packed = false; thread = y }

    by : (b : Bool) → told g (if_some (some (if_so b 0)) y.number) ≡ 0
    by true = refl
    by false = refl

module _ (k : Cluster) (sound : IsSound k) (number : ℕ) (s : Server) (here : server_at k.servers number ≡ Some s) (c0 : Coloured) (is_coloured : StandsColoured k c0) (y : ThreadState) (at : thread_in s.threads y.number ≡ Some y) (live : is_over y.phase ≡ false) where
  abbrev start : Hand
  start = record { work = begin_work s.rest; thread = y }

  abbrev P : Hand → Type 0
  P = Steps (LeavesWords k) k s y c0 fresh.None false

  abbrev Done : Stepped → Type 0
  Done d = LedWith (LeavesWords k) k s c0 (stepped s d)

  -- the result takes the task's place
  takes : (o : Operand) (v : Owned) → slice_get k.code y.pc ≡ Some (instr.Join o) → Gives P (option_map (λ t. push_temp (value.Own v) t.hand) (then_some (pop o (take_gift start)) (taken_as task_of)))
  takes (operand.Const i) v code = tt
  takes operand.Unit v code = tt
  takes operand.Pop v code = by (last_of y.temps)
    where
      h1 : Hand
      h1 = with_temps (front_of y.temps) (take_gift start)

      taken : (u : Option ℕ) → Gives P (option_map (λ (t : Popped ℕ). push_temp (value.Own v) t.hand) (option_map (λ w. record { item = w; hand = h1 }) u))
      taken None = tt
      taken (Some u) =
          quiet_steps k sound number s here c0 is_coloured y at live (push_temp (value.Own v) h1) (rethreaded s y [] [] [] start (begins s y) (record y { gift = None; temps = front_of y.temps ++ value.Own v ∷ [] }) refl refl) refl
          (unheld k s.rest.number y (instr.Join operand.Pop) code refl)

      by : (o : Option Value) → Gives P (option_map (λ (t : Popped ℕ). push_temp (value.Own v) t.hand) (then_some {X = Popped Value} (option_map (λ w. record { item = w; hand = h1 }) o) (taken_as task_of)))
      by None = tt
      by (Some w) = taken (task_of w)

  -- without its gift it asks
  asks : y.gift ≡ None → (o : Operand) → Gives Done (committed (waiting (option_map (ask_join start) (then_some (pop o start) (λ t. task_of t.item)))))
  asks bare (operand.Const i) = tt
  asks bare operand.Unit = tt
  asks bare operand.Pop = by (last_of y.temps) refl
    where
      of : (v : Value) → last_of y.temps ≡ Some v → Gives Done (committed (waiting (option_map (ask_join start) (task_of v))))
      of (value.Own (owned.Task u)) q = asks_led k sound number s here c0 is_coloured y.number y at live bare u q
      of _ q = tt

      by : (o : Option Value) → last_of y.temps ≡ o → Gives Done (committed (waiting (option_map (ask_join start) (then_some {X = Popped Value} (option_map (λ v. record { item = v; hand = with_temps (front_of y.temps) start }) o) (λ t. task_of t.item)))))
      by None q = tt
      by (Some v) q = of v q

  -- the step
  pub joins : (o : Operand) (g : Option Owned) → y.gift ≡ g → slice_get k.code y.pc ≡ Some (instr.Join o) → Gives Done (committed (join o g start))
  joins o None e code = asks e o
  joins o (Some v) e code = goes_on_led (LeavesWords k) k s y at c0 fresh.None (option_map (λ t. push_temp (value.Own v) t.hand) (then_some (pop o (take_gift start)) (taken_as task_of))) (takes o v code)

joins_go : (k : Cluster) (number t : ℕ) (s : Server) (y : ThreadState) (o : Operand) → IsSound k → FewEvents k → server_at k.servers number ≡ Some s → thread_in s.threads t ≡ Some y → slice_get k.code y.pc ≡ Some (instr.Join o)
    → EntryLegal k (record { server = number; what = Step t })
joins_go k number t s y o sound few here at code =
    step_legal (LeavesWords k) k number t s y (instr.Join o) sound few here at code (steps_carry k number t s y (instr.Join o) sound few here at code (a_join o))
    (λ c0 is_coloured calm. joins k sound number s here c0 is_coloured y (by_number s t y at) (lives y.phase calm) o y.gift refl code)

-- so its entry is legal
pub joins_legal : EntriesLegal step_join
joins_legal = kind_legal step_join tt (λ k number t s y i sound few here at code kind. by k number t s y sound few here at i kind code)
  where
    by : (k : Cluster) (number t : ℕ) (s : Server) (y : ThreadState) → IsSound k → FewEvents k → server_at k.servers number ≡ Some s → thread_in s.threads t ≡ Some y → (i : Instr) → instr_kind i ≡ step_join → slice_get k.code y.pc ≡ Some i
        → EntryLegal k (record { server = number; what = Step t })
    by k number t s y sound few here at (instr.Join o) kind code = joins_go k number t s y o sound few here at code
    by k number t s y sound few here at _ kind code = absurd (cc kind)
