-- The step of a thread, by its instruction.
use Rattle.std.proofs.Common.{◌≡◌, ℕ, true, false, Some, option_map, refl, ap, ◌∙◌}
use Rattle.std.specs.Prelude.{slice_get}
use Rattle.law_entries_events.specs.Below.law_words_borrows.Below.fr_base.declared.instruction.Instr.{Instr}
use Rattle.law_entries_events.specs.Below.law_words_borrows.Below.fr_base.declared.instruction.Instr.TheVariants as instr
use Rattle.law_entries_events.specs.Below.law_words_borrows.Below.thread_state.View.{ThreadState}
use Rattle.law_entries_events.specs.Below.law_words_borrows.Below.server_model.declared.event.Event.{Event}
use Rattle.law_entries_events.specs.Below.law_words_borrows.Below.server_model.declared.event.What.TheVariants.{Step}
use Rattle.law_entries_events.specs.Below.law_words_borrows.Below.server_model.Servers.{Server, Cluster, server_at}
use Rattle.law_entries_events.specs.Below.law_words_borrows.Below.server_model.Work.{then_some, thread_in}
use Rattle.law_entries_events.specs.Below.law_words_borrows.Below.coherent_types.ClusterTypes.{IsCoherent}
use Rattle.law_entries_events.specs.Below.law_words_borrows.Below.law_counts_sums.Kinds.{step_arith, step_print, step_par_end, instr_kind, kind_at}
use Rattle.law_entries_events.specs.Below.law_words_borrows.Below.law_counts_sums.Laws.{FewEvents}
use Rattle.law_entries_events.specs.Below.law_entries_variables.deliveries.Entries.{EntryLegal, EntriesLegal}
use Rattle.law_entries_events.proofs.Below.law_entries_variables.still.PlainSteps.{plain_legal}
use Rattle.law_entries_events.specs.Below.law_entries_variables.variables.Steps.{spawns, pairs}
use Rattle.law_entries_events.proofs.Below.law_entries_variables.variables.Lets.{lets_legal}
use Rattle.law_entries_events.proofs.Below.law_entries_variables.variables.Joins.{joins_legal}
use Rattle.law_entries_events.proofs.Below.law_entries_variables.variables.Mutexes.{mutexes_legal}
use Rattle.law_entries_events.proofs.Below.law_entries_variables.variables.Ends.{ends_legal}
use Rattle.law_entries_events.proofs.Below.law_entries_variables.variables.Unlocks.{unlocks_legal}
use Rattle.law_entries_events.proofs.Below.law_entries_variables.variables.Spawns.{spawns_legal}
use Rattle.law_entries_events.proofs.Below.law_entries_variables.variables.Pars.{pairs_legal}
use Rattle.law_entries_events.specs.Below.law_entries_reads.locks.Places.{copies, dups, locks}
use Rattle.law_entries_events.proofs.Below.law_entries_reads.locks.Places.{places_legal}
use Rattle.law_entries_events.specs.boxes.Boxes.{boxes}
use Rattle.law_entries_events.specs.boxes.Borrows.{shares_it, lends_it}
use Rattle.law_entries_events.proofs.boxes.Boxes.{boxes_legal}
use Rattle.law_entries_events.proofs.boxes.Borrows.{borrows_legal}
use Rattle.law_entries_events.proofs.events.Changes.{move_legal, assignment_legal, discard_legal, drop_legal}

module _ (k : Cluster) (number t : ℕ) (s : Server) (y : ThreadState) (co : IsCoherent k) (few : FewEvents k) (here : server_at k.servers number ≡ Some s) (at : thread_in s.threads t ≡ Some y) where
  abbrev e : Event
  e = record { server = number; what = Step t }

  -- where all entries of its kind are legal
  by_kind : (i : Instr) → slice_get k.code y.pc ≡ Some i → EntriesLegal (instr_kind i) → EntryLegal k e
  by_kind i code legal =
      legal k e (ap (λ o. then_some o (kind_at k (Step t))) here ∙ ap (λ o. then_some o (λ (x : ThreadState). option_map instr_kind (slice_get k.code x.pc))) at ∙ ap (option_map instr_kind) code) co.sound few

  pub instr_legal : (i : Instr) → slice_get k.code y.pc ≡ Some i → EntryLegal k e
  instr_legal (instr.Let o) code = by_kind (instr.Let o) code lets_legal
  instr_legal (instr.Assign w o) code = assignment_legal k number t s y co few here at w o code
  instr_legal (instr.Read w true) code = move_legal k number t s y co few here at w code
  instr_legal (instr.Read w false) code = places_legal k number t s y (instr.Read w false) co few here at code (copies w)
  instr_legal (instr.Borrow w) code = borrows_legal k number t s y (instr.Borrow w) co few here at code (shares_it w)
  instr_legal (instr.BorrowMut w) code = borrows_legal k number t s y (instr.BorrowMut w) co few here at code (lends_it w)
  instr_legal (instr.Box o) code = boxes_legal k number t s y (instr.Box o) co few here at code (boxes o)
  instr_legal (instr.Arith f a b) code = by_kind (instr.Arith f a b) code (plain_legal step_arith tt tt)
  instr_legal (instr.Print o) code = by_kind (instr.Print o) code (plain_legal step_print tt tt)
  instr_legal instr.Discard code = discard_legal k number t s y co few here at code
  instr_legal instr.DropSlot code = drop_legal k number t s y co few here at code
  instr_legal (instr.Spawn cs pc) code = spawns_legal k number t s y (instr.Spawn cs pc) co few here at code (spawns cs pc)
  instr_legal (instr.Join o) code = by_kind (instr.Join o) code joins_legal
  instr_legal (instr.Mutex o) code = by_kind (instr.Mutex o) code mutexes_legal
  instr_legal (instr.Dup w) code = places_legal k number t s y (instr.Dup w) co few here at code (dups w)
  instr_legal (instr.Lock w) code = places_legal k number t s y (instr.Lock w) co few here at code (locks w)
  instr_legal instr.Unlock code = unlocks_legal k number t s y instr.Unlock co few here at code refl
  instr_legal (instr.Par cs pc ds other) code = pairs_legal k number t s y (instr.Par cs pc ds other) co few here at code (pairs cs pc ds other)
  instr_legal instr.ParEnd code = by_kind instr.ParEnd code (plain_legal step_par_end tt tt)
  instr_legal (instr.End o) code = by_kind (instr.End o) code ends_legal
