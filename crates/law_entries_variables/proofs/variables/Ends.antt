-- The end of a thread: another than main finishes, and main lets go of its result.
use Rattle.std.proofs.Common.{◌≡◌, ℕ, ◌+◌, ◌==◌, Bool, true, false, List, [], ◌∷◌, ◌++◌, length, Option, Some, None, refl, subst}
use Rattle.std.specs.Prelude.{slice_get, option_map}
use Rattle.law_words_ends.specs.Below.fr_base.declared.label.Label.TheVariants as label
use Rattle.law_words_ends.specs.Below.fr_base.declared.instruction.Operand.{Operand}
use Rattle.law_words_ends.specs.Below.fr_base.declared.instruction.Operand.TheVariants as operand
use Rattle.law_words_ends.specs.Below.fr_base.declared.instruction.Instr.{Instr}
use Rattle.law_words_ends.specs.Below.fr_base.declared.instruction.Instr.TheVariants as instr
use Rattle.law_words_ends.specs.Below.fr_base.declared.step.Fresh.TheVariants as fresh
use Rattle.law_words_ends.specs.Below.heap_partition.declared.value.Owned.{Owned}
use Rattle.law_words_ends.specs.Below.heap_partition.declared.value.Owned.TheVariants as owned
use Rattle.law_words_ends.specs.Below.thread_state.View.{ThreadState, is_over}
use Rattle.law_words_ends.specs.Below.thread_state.declared.phase.Phase.TheVariants as phase
use Rattle.law_words_ends.specs.Below.thread_state.declared.value.Value.{Value}
use Rattle.law_words_ends.specs.Below.thread_state.declared.value.Value.TheVariants as value
use Rattle.law_words_ends.specs.Below.server_model.declared.event.What.TheVariants.{Step}
use Rattle.law_words_ends.specs.Below.server_model.Servers.{Server, Cluster, server_at}
use Rattle.law_words_ends.specs.Below.server_model.Work.{Hand, Popped, last_of, front_of, owned_of, taken_as, then_some, pop_owned, label_all, with_temps, with_phase, working, thread_in}
use Rattle.law_words_ends.specs.Below.server_model.Drop.{drop_labels, give_up}
use Rattle.law_words_ends.specs.Below.server_model.Commit.{done_where, label_dropped, end_with, end_thread}
use Rattle.law_words_ends.specs.Below.server_model.Events.{Stepped, begin_work, committed, stepped}
use Rattle.law_entries_variables.specs.Below.coloured_heap.Heap.{Coloured}
use Rattle.law_words_ends.specs.Below.coherent_memory.Things.{in_temp}
use Rattle.law_words_ends.specs.Below.coherent_memory.Colours.{StandsColoured}
use Rattle.law_words_ends.specs.Below.coherent_memory.Coherent.{IsSound}
use Rattle.law_words_ends.specs.Below.law_counts_sums.Kinds.{step_end, instr_kind}
use Rattle.law_words_ends.specs.Below.law_counts_sums.Laws.{Gives, FewEvents}
use Rattle.law_words_ends.proofs.Below.law_counts_sums.GiftsTaken.{gift_fits}
use Rattle.law_words_ends.specs.Below.law_words_paths.words.Unmoved.{LeavesWords}
use Rattle.law_words_ends.specs.Below.law_words_values.carried.Steps.{an_end}
use Rattle.law_words_ends.proofs.Below.law_words_values.carried.Events.{steps_carry}
use Rattle.law_entries_variables.specs.deliveries.Entries.{EntryLegal, EntriesLegal}
use Rattle.law_entries_variables.proofs.deliveries.GiveUp.{give_news, give_acts}
use Rattle.law_entries_variables.proofs.still.PlainSteps.{lives}
use Rattle.law_entries_variables.proofs.variables.Turning.{Turning, begins, rethreaded, labelled}
use Rattle.law_entries_variables.proofs.variables.Led.{LedWith, Steps, rephased, settles}
use Rattle.law_entries_variables.proofs.variables.InStep.{by_number, step_legal, kind_legal}
use Rattle.law_entries_variables.proofs.variables.Tops.{top_there}
use Rattle.law_entries_variables.proofs.variables.Finishes.{finish_steps}
use Rattle.law_entries_variables.proofs.variables.GiveUps.{told_of, Given, from, nothing, gives_lead}
use Rattle.law_entries_variables.proofs.variables.Drops.{quiet_drop}

module _ (k : Cluster) (sound : IsSound k) (number : ℕ) (s : Server) (here : server_at k.servers number ≡ Some s) (c0 : Coloured) (is_coloured : StandsColoured k c0) (y : ThreadState) (at : thread_in s.threads y.number ≡ Some y) (live : is_over y.phase ≡ false) (bare : y.gift ≡ None) where
  abbrev start : Hand
  start = record { work = begin_work s.rest; thread = y }

  abbrev P : Hand → Type 0
  P = Steps (LeavesWords k) k s y c0 fresh.None true

  abbrev Done : Stepped → Type 0
  Done d = LedWith (LeavesWords k) k s c0 (stepped s d)

  -- main lets go of what it gives
  main_ends : (y.number == 0) ≡ true → (v : Owned) → Given k v → (ts : List Value) → Gives P (end_with true v (with_temps ts start))
  main_ends main v given ts =
      let h1 : Hand = label_dropped (value.Own v) (with_temps ts start) in
      let t0 : Turning s y [] [] [] (with_temps ts start) = rethreaded s y [] [] [] start (begins s y) (record y { temps = ts }) refl refl in
      let t1 : Turning s y [] [] [] h1 = labelled s y [] [] [] (with_temps ts start) t0 (drop_labels (value.Own v)) (quiet_drop v) in
      let t2 : Turning s y [] (give_news v) (give_acts v) (working (give_up v) h1) = told_of s y h1 v t1 in
      let t3 : Turning s y [] (give_news v) (give_acts v) (working (label_all (label.End y.number ∷ [])) (working (give_up v) h1)) = labelled s y [] (give_news v) (give_acts v) (working (give_up v) h1) t2 (label.End y.number ∷ []) refl in record {
        olds = [];
        news = give_news v;
        acts = give_acts v;
        turned = t3;
        gift = bare;
        leads = λ c z named free over f words. gives_lead k sound number s here c0 is_coloured y at live bare true (λ e. main) v given c z named free over f words ((give_up v h1.work).labels ++ label.End y.number ∷ []) t3.labels;
      }

  ends_with : (b : Bool) → (y.number == 0) ≡ b → (v : Owned) → Given k v → (ts : List Value) → Gives P (end_with b v (with_temps ts start))
  ends_with true e v given ts = main_ends e v given ts
  ends_with false e v given ts = finish_steps k sound number s here c0 is_coloured y at live bare e v ts

  ends : (o : Operand) → Gives P (then_some (pop_owned o start) (λ t. end_with (y.number == 0) t.item t.hand))
  ends (operand.Const i) = ends_with (y.number == 0) refl (owned.Int i) (nothing refl) y.temps
  ends operand.Unit = ends_with (y.number == 0) refl owned.Unit (nothing refl) y.temps
  ends operand.Pop = by (last_of y.temps) refl
    where
      h1 : Hand
      h1 = with_temps (front_of y.temps) start

      owned_by : (w : Value) → last_of y.temps ≡ Some w → (o : Option Owned) → owned_of w ≡ o → Gives P (then_some {X = Popped Owned} (option_map (λ u. record { item = u; hand = h1 }) o) (λ t. end_with (y.number == 0) t.item t.hand))
      owned_by w e None q = tt
      owned_by (value.Own u) e (Some v) q = let same : u ≡ v = cc in ends_with (y.number == 0) refl v (subst (Given k) same (from (in_temp y.number (0 + length (front_of y.temps))) (top_there k number s here y at (value.Own u) e))) (front_of y.temps)
      owned_by _ e (Some v) q = absurd (cc q)

      by : (o : Option Value) → last_of y.temps ≡ o → Gives P (then_some {X = Popped Owned} (then_some {X = Popped Value} (option_map (λ v. record { item = v; hand = h1 }) o) (taken_as owned_of)) (λ t. end_with (y.number == 0) t.item t.hand))
      by None e = tt
      by (Some w) e = owned_by w e (owned_of w) refl

  over_led : (o : Option Hand) → Gives P o → Gives Done (committed (done_where fresh.None (option_map (with_phase phase.Over) o)))
  over_led None g = tt
  over_led (Some h) g = settles (LeavesWords k) k s y at c0 fresh.None true (with_phase phase.Over h) (rephased (LeavesWords k) k s y at c0 fresh.None true h (with_phase phase.Over h).thread refl refl refl g) refl

  -- the step
  pub ends_led : (o : Operand) → Gives Done (committed (end_thread o start))
  ends_led o = over_led (then_some (pop_owned o start) (λ t. end_with (y.number == 0) t.item t.hand)) (ends o)

ends_go : (k : Cluster) (number t : ℕ) (s : Server) (y : ThreadState) (o : Operand) → IsSound k → FewEvents k → server_at k.servers number ≡ Some s → thread_in s.threads t ≡ Some y → slice_get k.code y.pc ≡ Some (instr.End o)
    → EntryLegal k (record { server = number; what = Step t })
ends_go k number t s y o sound few here at code =
    step_legal (LeavesWords k) k number t s y (instr.End o) sound few here at code (steps_carry k number t s y (instr.End o) sound few here at code (an_end o))
    (λ c0 is_coloured calm. ends_led k sound number s here c0 is_coloured y (by_number s t y at) (lives y.phase calm) (gift_fits k sound number s here t y at (instr.End o) code).0 o)

-- so its entry is legal
pub ends_legal : EntriesLegal step_end
ends_legal = kind_legal step_end tt (λ k number t s y i sound few here at code kind. by k number t s y sound few here at i kind code)
  where
    by : (k : Cluster) (number t : ℕ) (s : Server) (y : ThreadState) → IsSound k → FewEvents k → server_at k.servers number ≡ Some s → thread_in s.threads t ≡ Some y → (i : Instr) → instr_kind i ≡ step_end → slice_get k.code y.pc ≡ Some i
        → EntryLegal k (record { server = number; what = Step t })
    by k number t s y sound few here at (instr.End o) kind code = ends_go k number t s y o sound few here at code
    by k number t s y sound few here at _ kind code = absurd (cc kind)
