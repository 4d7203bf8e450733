-- COPIES (DRust's read caches; this project's rules): where they come from, and that they stay what they are.
use Rattle.std.specs.Prelude.{◌≡◌, ◌⊎◌, ℕ, false, Some, None, slice_get}
use Rattle.law_words_borrows.specs.Below.fr_base.declared.place.Lval.{Lval}
use Rattle.law_words_borrows.specs.Below.fr_base.declared.instruction.Operand.{Operand}
use Rattle.law_words_borrows.specs.Below.fr_base.declared.instruction.Instr.{Instr}
use Rattle.law_words_borrows.specs.Below.fr_base.declared.instruction.Instr.TheVariants as instr
use Rattle.law_words_borrows.specs.Below.heap_partition.declared.value.Owned.{Owned}
use Rattle.law_words_borrows.specs.Below.thread_state.View.{ThreadState}
use Rattle.law_words_borrows.specs.Below.thread_state.declared.value.Value.{Value}
use Rattle.law_words_borrows.specs.Below.thread_state.declared.value.Value.TheVariants as value
use Rattle.law_words_borrows.specs.Below.journal.View.{EntryView}
use Rattle.law_words_borrows.specs.Below.server_model.declared.event.Event.{Event}
use Rattle.law_words_borrows.specs.Below.server_model.declared.event.What.TheVariants.{Step}
use Rattle.law_words_borrows.specs.Below.server_model.Servers.{Server, Cluster, server_at}
use Rattle.law_words_borrows.specs.Below.server_model.Work.{thread_in, last_of}
use Rattle.law_words_borrows.specs.Below.server_model.Clusters.{apply}
use Rattle.law_words_borrows.specs.Below.coherent_memory.Sight.{sight, issued}
use Rattle.law_words_borrows.specs.Below.coherent_memory.Placing.{clean_cell}
use Rattle.law_words_borrows.specs.Below.coherent_memory.Coherent.{Holds, IsSound, copies_agree, served_are_clean}
use Rattle.law_words_borrows.specs.Below.coherent_types.ClusterTypes.{IsCoherent}
use Rattle.law_words_borrows.specs.Below.law_counts_sums.Kinds.{Kind}
use Rattle.law_words_borrows.specs.Below.law_counts_sums.Laws.{Gives, FewEvents}
use Rattle.law_words_borrows.specs.Below.law_words_kept.stays.Laws.{IsOfKind}
use Rattle.law_words_borrows.specs.Below.law_words_values.carried.Steps.{CarriesOne, IsNoReference, IsOwnedOrGone}

-- the live object that has a word, which isn't changed through a reference, is the same one with the same cell, or there is none any more, as the object has another word, is changed through a
-- reference or is gone, or the word is a new one
abbrev pub CellsGoOn : Cluster → Cluster → Type 0
CellsGoOn k z = (w : ℕ) → (clean_cell (sight z) w ≡ clean_cell (sight k) w) ⊎ ((clean_cell (sight z) w ≡ None) ⊎ (issued (sight k) w ≡ false))

-- an event of whatever kind that has cells go on so, from a sound cluster, with its messages handed over, leaves copies that are present cells
abbrev pub CopiesComeFromCopies : Type 0
CopiesComeFromCopies = (k : Cluster) (e : Event) → IsSound k → FewEvents k → Gives (λ (d : Cluster × EntryView). CellsGoOn k d.0 → Holds d.0 copies_agree) (apply k e)

-- copies are present cells, and copies are asked for of live objects
pub record CopiesAreRight (k : Cluster) : Type 0 where
  pub agree : Holds k copies_agree
  pub clean : Holds k served_are_clean

-- each event of that kind from a sound cluster, with its messages handed over, leaves copies that are right
abbrev pub KeepCopies : Kind → Type 0
KeepCopies kind = (k : Cluster) (e : Event) → IsOfKind kind k e → IsSound k → FewEvents k → Gives (λ (d : Cluster × EntryView). CopiesAreRight d.0) (apply k e)

-- STEPS THAT CARRY A VALUE, of the instruction at which the thread stands

-- so do a new variable, a new mutex, a join and the end of a thread
abbrev pub StepsKeepCopies : Type 0
StepsKeepCopies = (k : Cluster) (number t : ℕ) (s : Server) (y : ThreadState) (i : Instr) → IsSound k → FewEvents k → server_at k.servers number ≡ Some s → thread_in s.threads t ≡ Some y → slice_get k.code y.pc ≡ Some i → CarriesOne i
    → Gives (λ (d : Cluster × EntryView). CopiesAreRight d.0) (apply k (record { server = number; what = Step t }))

-- and a discard of what is no reference to an object
abbrev pub DiscardsKeepCopies : Type 0
DiscardsKeepCopies = (k : Cluster) (number t : ℕ) (s : Server) (y : ThreadState) (v : Value) → IsSound k → FewEvents k → server_at k.servers number ≡ Some s → thread_in s.threads t ≡ Some y → slice_get k.code y.pc ≡ Some instr.Discard → last_of y.temps ≡ Some v → IsNoReference v
    → Gives (λ (d : Cluster × EntryView). CopiesAreRight d.0) (apply k (record { server = number; what = Step t }))

-- and, from a coherent cluster, the drop of the newest slot with what it owns or without a value, and an unlock
pub data LetsGo (y : ThreadState) : Instr → Type 0 where
  drops : (u : Owned) → last_of y.slots ≡ Some (value.Own u) → LetsGo y instr.DropSlot
  drops_none : last_of y.slots ≡ Some value.Gone → LetsGo y instr.DropSlot
  puts_back : LetsGo y instr.Unlock

abbrev pub DropsKeepCopies : Type 0
DropsKeepCopies = (k : Cluster) (number t : ℕ) (s : Server) (y : ThreadState) (i : Instr) → IsCoherent k → FewEvents k → server_at k.servers number ≡ Some s → thread_in s.threads t ≡ Some y → slice_get k.code y.pc ≡ Some i → LetsGo y i
    → Gives (λ (d : Cluster × EntryView). CopiesAreRight d.0) (apply k (record { server = number; what = Step t }))

-- and an assignment to a variable that owns its value, or has none any more
abbrev pub AssignsKeepCopies : Type 0
AssignsKeepCopies = (k : Cluster) (number t : ℕ) (s : Server) (y : ThreadState) (w : Lval) (o : Operand) (v : Value) → IsCoherent k → FewEvents k → server_at k.servers number ≡ Some s → thread_in s.threads t ≡ Some y → slice_get k.code y.pc ≡ Some (instr.Assign w o)
    → w.depth ≡ 0 → slice_get y.slots w.slot ≡ Some v → IsOwnedOrGone v → Gives (λ (d : Cluster × EntryView). CopiesAreRight d.0) (apply k (record { server = number; what = Step t }))
