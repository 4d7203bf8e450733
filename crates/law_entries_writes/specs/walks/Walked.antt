-- A PLACE THAT IS FOLLOWED FOR WRITING in the coloured heap: the acts on the way are allowed, one after another (in the manner of DRust; the state is this project's).
use Rattle.std.specs.Prelude.{◌≡◌, ℕ, true, Some, IsSome, slice_get}
use Rattle.std.specs.Bool.{⊤}
use Rattle.law_entries_reads.specs.Below.law_entries_variables.Below.fr_base.declared.settings.Options.{Options}
use Rattle.law_entries_reads.specs.Below.law_entries_variables.Below.journal.View.{EntryView}
use Rattle.law_entries_reads.specs.Below.law_entries_variables.Below.coloured_heap.Heap.{Coloured}
use Rattle.law_entries_reads.specs.Below.law_entries_variables.Below.coloured_heap.Legal.{acts_after}
use Rattle.law_heap_writes.specs.Below.fr_base.declared.place.Lval.{Lval}
use Rattle.law_heap_writes.specs.Below.fr_base.declared.instruction.Instr.{Instr}
use Rattle.law_heap_writes.specs.Below.thread_state.View.{ThreadState}
use Rattle.law_heap_writes.specs.Below.server_model.declared.event.What.TheVariants.{Step}
use Rattle.law_heap_writes.specs.Below.server_model.Servers.{Server, Cluster, server_at}
use Rattle.law_heap_writes.specs.Below.server_model.Work.{thread_in, without_hops}
use Rattle.law_heap_writes.specs.Below.server_model.Places.{in_slot}
use Rattle.law_heap_writes.specs.Below.server_model.Prepare.{Prepared, ready, requested, nothing, write_stars}
use Rattle.law_heap_writes.specs.Below.server_model.Events.{enabled, begin_work}
use Rattle.law_heap_writes.specs.Below.coherent_memory.Colours.{StandsColoured}
use Rattle.law_heap_writes.specs.Below.coherent_types.ClusterTypes.{IsCoherent}
use Rattle.law_heap_writes.specs.Below.law_counts_sums.Laws.{FewEvents}
use Rattle.law_heap_writes.specs.Below.law_words_asked.writes.Writing.{WritesThrough}

-- in each entry of that server the acts are allowed: with its hops where the place is ready, and without them where an object was asked for
abbrev pub ActsRun : Options → ℕ → Coloured → Prepared → Type 0
ActsRun o n c (ready h sp) = (e : EntryView) → e.server ≡ n → IsSome (acts_after o e h.work.acts c)
ActsRun o n c (requested h) = (e : EntryView) → e.server ≡ n → IsSome (acts_after o e (without_hops h.work.acts) c)
ActsRun o n c nothing = ⊤

-- from each coloured heap that a coherent cluster stands for, at an enabled step of a thread that assigns through stars or moves out through them
abbrev pub WrittenPlacesRun : Type 0
WrittenPlacesRun = (k : Cluster) (number t : ℕ) (s : Server) (y : ThreadState) (i : Instr) (w : Lval) (d : ℕ) (c : Coloured) → IsCoherent k → FewEvents k → server_at k.servers number ≡ Some s → thread_in s.threads t ≡ Some y → enabled k.options s (Step t) ≡ true → slice_get k.code y.pc ≡ Some i
    → WritesThrough i w d → StandsColoured k c → ActsRun k.options number c (write_stars w.depth 0 (record { work = begin_work s.rest; thread = y }) (in_slot w.slot))
