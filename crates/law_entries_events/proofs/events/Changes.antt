-- Moves, assignments, discards and drops of slots, done or not.
use Rattle.std.proofs.Common.{◌≡◌, ℕ, zero, suc, true, Option, Some, None, refl, sym, subst}
use Rattle.std.specs.Prelude.{slice_get}
use Rattle.law_entries_events.specs.Below.law_words_borrows.Below.fr_base.declared.instruction.Instr.{Instr}
use Rattle.law_entries_events.specs.Below.law_words_borrows.Below.fr_base.declared.instruction.Instr.TheVariants as instr
use Rattle.law_entries_events.specs.Below.law_words_borrows.Below.fr_base.declared.instruction.Operand.{Operand}
use Rattle.law_entries_events.specs.Below.law_words_borrows.Below.fr_base.declared.place.Lval.{Lval}
use Rattle.law_entries_events.specs.Below.law_words_borrows.Below.thread_state.View.{ThreadState}
use Rattle.law_entries_events.specs.Below.law_words_borrows.Below.thread_state.declared.value.Value.{Value}
use Rattle.law_entries_events.specs.Below.law_words_borrows.Below.thread_state.declared.value.Value.TheVariants as value
use Rattle.law_entries_events.specs.Below.law_words_borrows.Below.server_model.declared.event.Event.{Event}
use Rattle.law_entries_events.specs.Below.law_words_borrows.Below.server_model.declared.event.What.TheVariants.{Step}
use Rattle.law_entries_events.specs.Below.law_words_borrows.Below.server_model.Servers.{Server, Cluster, server_at}
use Rattle.law_entries_events.specs.Below.law_words_borrows.Below.server_model.Work.{thread_in}
use Rattle.law_entries_events.specs.Below.law_words_borrows.Below.coherent_types.ClusterTypes.{IsCoherent}
use Rattle.law_entries_events.specs.Below.law_words_borrows.Below.law_counts_sums.Laws.{FewEvents}
use Rattle.law_entries_events.specs.Below.law_entries_variables.deliveries.Entries.{EntryLegal}
use Rattle.law_entries_events.proofs.Below.law_entries_reads.locks.Places.{each_legal}
use Rattle.law_entries_writes.specs.Below.law_words_asked.writes.Writing as writing
use Rattle.law_entries_writes.proofs.asks.WriteKinds as asking
use Rattle.law_entries_writes.specs.stores.Variables.{GoesAtHand, moves, assigns}
use Rattle.law_entries_writes.specs.stores.Through.{writes}
use Rattle.law_entries_writes.proofs.stores.Variables.{variables_legal}
use Rattle.law_entries_writes.proofs.stores.Through.{through_legal}
use Rattle.law_entries_writes.specs.ends.Going.{assigns_mutable, lets_top, lets_newest}
use Rattle.law_entries_writes.proofs.ends.Goes.{mutable_ends_legal, drops_legal}

module _ (k : Cluster) (number t : ℕ) (s : Server) (y : ThreadState) (co : IsCoherent k) (few : FewEvents k) (here : server_at k.servers number ≡ Some s) (at : thread_in s.threads t ≡ Some y) where
  abbrev e : Event
  e = record { server = number; what = Step t }

  pub move_legal : (w : Lval) → slice_get k.code y.pc ≡ Some (instr.Read w true) → EntryLegal k e
  move_legal w code = by w.depth refl
    where
      by : (d : ℕ) → w.depth ≡ d → EntryLegal k e
      by zero flat = variables_legal k number t s y (instr.Read w true) co few here at code (moves w flat)
      by (suc d) deep = each_legal k e (through_legal k number t s y (instr.Read w true) co few here at code (writes w d (writing.moves deep))) (asking.moves_legal w k number t s y co few here at code)

  -- an assignment to a variable, by what stands there
  over : (w : Lval) (o : Operand) → slice_get k.code y.pc ≡ Some (instr.Assign w o) → w.depth ≡ 0 → (v : Option Value) → slice_get y.slots w.slot ≡ v → EntryLegal k e
  over w o code flat (Some (value.Mut r)) is =
      each_legal k e (mutable_ends_legal k number t s y (instr.Assign w o) co few here at code (assigns_mutable w o r flat is)) (asking.assignments_legal w o k number t s y co few here at code)
  over w o code flat (Some (value.Own v)) is = variables_legal k number t s y (instr.Assign w o) co few here at code (assigns w o flat (subst GoesAtHand (sym is) tt))
  over w o code flat (Some (value.Shared r)) is = variables_legal k number t s y (instr.Assign w o) co few here at code (assigns w o flat (subst GoesAtHand (sym is) tt))
  over w o code flat (Some (value.SharedSlot i)) is = variables_legal k number t s y (instr.Assign w o) co few here at code (assigns w o flat (subst GoesAtHand (sym is) tt))
  over w o code flat (Some (value.MutSlot i)) is = variables_legal k number t s y (instr.Assign w o) co few here at code (assigns w o flat (subst GoesAtHand (sym is) tt))
  over w o code flat (Some (value.Held m)) is = variables_legal k number t s y (instr.Assign w o) co few here at code (assigns w o flat (subst GoesAtHand (sym is) tt))
  over w o code flat (Some value.Gone) is = variables_legal k number t s y (instr.Assign w o) co few here at code (assigns w o flat (subst GoesAtHand (sym is) tt))
  over w o code flat None is = variables_legal k number t s y (instr.Assign w o) co few here at code (assigns w o flat (subst GoesAtHand (sym is) tt))

  pub assignment_legal : (w : Lval) (o : Operand) → slice_get k.code y.pc ≡ Some (instr.Assign w o) → EntryLegal k e
  assignment_legal w o code = by w.depth refl
    where
      by : (d : ℕ) → w.depth ≡ d → EntryLegal k e
      by zero flat = over w o code flat (slice_get y.slots w.slot) refl
      by (suc d) deep = each_legal k e (through_legal k number t s y (instr.Assign w o) co few here at code (writes w d (writing.assigns o deep))) (asking.assignments_legal w o k number t s y co few here at code)

  pub discard_legal : slice_get k.code y.pc ≡ Some instr.Discard → EntryLegal k e
  discard_legal code = each_legal k e (drops_legal k number t s y instr.Discard co few here at code lets_top) (asking.discards_legal k number t s y co few here at code)

  pub drop_legal : slice_get k.code y.pc ≡ Some instr.DropSlot → EntryLegal k e
  drop_legal code = each_legal k e (drops_legal k number t s y instr.DropSlot co few here at code lets_newest) (asking.drops_legal k number t s y co few here at code)
