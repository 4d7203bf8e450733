-- A variable is declared.
use Rattle.std.proofs.Common.{◌≡◌, ℕ, false, List, [], ◌∷◌, ◌++◌, Option, Some, None, refl}
use Rattle.std.specs.Prelude.{slice_get, option_map}
use Rattle.law_words_ends.specs.Below.fr_base.declared.instruction.Operand.{Operand}
use Rattle.law_words_ends.specs.Below.fr_base.declared.instruction.Operand.TheVariants as operand
use Rattle.law_words_ends.specs.Below.fr_base.declared.instruction.Instr.{Instr}
use Rattle.law_words_ends.specs.Below.fr_base.declared.instruction.Instr.TheVariants as instr
use Rattle.law_words_ends.specs.Below.fr_base.declared.step.Fresh.TheVariants as fresh
use Rattle.law_words_ends.specs.Below.heap_partition.declared.value.Owned.TheVariants as owned
use Rattle.law_words_ends.specs.Below.thread_state.View.{ThreadState, is_over}
use Rattle.law_words_ends.specs.Below.thread_state.declared.value.Value.{Value}
use Rattle.law_words_ends.specs.Below.thread_state.declared.value.Value.TheVariants as value
use Rattle.law_words_ends.specs.Below.server_model.declared.event.What.TheVariants.{Step}
use Rattle.law_words_ends.specs.Below.server_model.Servers.{Server, Cluster, server_at}
use Rattle.law_words_ends.specs.Below.server_model.Work.{Hand, Popped, last_of, front_of, with_temps, push_slot, thread_in}
use Rattle.law_words_ends.specs.Below.server_model.Commit.{let_slot}
use Rattle.law_words_ends.specs.Below.server_model.Events.{begin_work}
use Rattle.law_entries_variables.specs.Below.coloured_heap.Heap.{Coloured}
use Rattle.law_words_ends.specs.Below.coherent_memory.Colours.{StandsColoured}
use Rattle.law_words_ends.specs.Below.coherent_memory.Coherent.{IsSound}
use Rattle.law_words_ends.specs.Below.law_counts_sums.Kinds.{step_let, instr_kind}
use Rattle.law_words_ends.specs.Below.law_counts_sums.Laws.{Gives, FewEvents}
use Rattle.law_words_ends.proofs.Below.law_counts_sums.GiftsTaken.{gift_fits}
use Rattle.law_words_ends.specs.Below.law_words_paths.words.Unmoved.{LeavesWords}
use Rattle.law_words_ends.specs.Below.law_words_values.carried.Steps.{a_let}
use Rattle.law_words_ends.proofs.Below.law_words_values.carried.Events.{steps_carry}
use Rattle.law_entries_variables.specs.deliveries.Entries.{EntryLegal, EntriesLegal}
use Rattle.law_entries_variables.proofs.still.PlainSteps.{lives}
use Rattle.law_entries_variables.proofs.still.Settled.{none_held}
use Rattle.law_entries_variables.proofs.variables.Slots.{IsUnmarked, slot_pushed}
use Rattle.law_entries_variables.proofs.variables.Tops.{top_unmarked}
use Rattle.law_entries_variables.proofs.variables.Turning.{begins, rethreaded, slots_alike}
use Rattle.law_entries_variables.proofs.variables.Led.{Steps, goes_on_led}
use Rattle.law_entries_variables.proofs.variables.InStep.{by_number, step_legal, kind_legal}
use Rattle.law_entries_variables.proofs.variables.Quiets.{quiet_steps}

-- THE STEP

module _ (k : Cluster) (sound : IsSound k) (number : ℕ) (s : Server) (here : server_at k.servers number ≡ Some s) (c0 : Coloured) (is_coloured : StandsColoured k c0) (y : ThreadState) (at : thread_in s.threads y.number ≡ Some y) (live : is_over y.phase ≡ false) (bare : y.gift ≡ None) where
  abbrev start : Hand
  start = record { work = begin_work s.rest; thread = y }

  abbrev P : Hand → Type 0
  P = Steps (LeavesWords k) k s y c0 fresh.None false

  -- a slot comes that is no mark
  declared : (ts : List Value) (v : Value) → IsUnmarked v → P (push_slot v (with_temps ts start))
  declared ts v p =
      quiet_steps k sound number s here c0 is_coloured y at live (push_slot v (with_temps ts start))
      (slots_alike s y [] [] [] (with_temps ts start) (rethreaded s y [] [] [] start (begins s y) (record y { temps = ts }) refl refl) (y.slots ++ v ∷ []) (λ f i. slot_pushed f i 0 y.number y.slots v p))
      bare (none_held k sound number s here c0 is_coloured y.number y at live y bare)

  -- whatever is declared
  pub lets : (o : Operand) → Gives P (let_slot o start)
  lets (operand.Const i) = declared y.temps (value.Own (owned.Int i)) tt
  lets operand.Unit = declared y.temps (value.Own owned.Unit) tt
  lets operand.Pop = by (last_of y.temps) refl
    where
      by : (o : Option Value) → last_of y.temps ≡ o → Gives P (option_map (λ (t : Popped Value). push_slot t.item t.hand) (option_map (λ v. record { item = v; hand = with_temps (front_of y.temps) start }) o))
      by None e = tt
      by (Some v) e = declared (front_of y.temps) v (top_unmarked k sound number s here y at v e)

lets_go : (k : Cluster) (number t : ℕ) (s : Server) (y : ThreadState) (o : Operand) → IsSound k → FewEvents k → server_at k.servers number ≡ Some s → thread_in s.threads t ≡ Some y → slice_get k.code y.pc ≡ Some (instr.Let o)
    → EntryLegal k (record { server = number; what = Step t })
lets_go k number t s y o sound few here at code =
    let own = by_number s t y at in
    step_legal (LeavesWords k) k number t s y (instr.Let o) sound few here at code (steps_carry k number t s y (instr.Let o) sound few here at code (a_let o))
    (λ c0 is_coloured calm.
    goes_on_led (LeavesWords k) k s y own c0 fresh.None (let_slot o (record { work = begin_work s.rest; thread = y }))
    (lets k sound number s here c0 is_coloured y own (lives y.phase calm) (gift_fits k sound number s here t y at (instr.Let o) code).0 o))

-- so its entry is legal
pub lets_legal : EntriesLegal step_let
lets_legal = kind_legal step_let tt (λ k number t s y i sound few here at code kind. by k number t s y sound few here at i kind code)
  where
    by : (k : Cluster) (number t : ℕ) (s : Server) (y : ThreadState) → IsSound k → FewEvents k → server_at k.servers number ≡ Some s → thread_in s.threads t ≡ Some y → (i : Instr) → instr_kind i ≡ step_let → slice_get k.code y.pc ≡ Some i
        → EntryLegal k (record { server = number; what = Step t })
    by k number t s y sound few here at (instr.Let o) kind code = lets_go k number t s y o sound few here at code
    by k number t s y sound few here at _ kind code = absurd (cc kind)
