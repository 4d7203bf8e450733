-- A PLACE THAT IS READ, star by star: the hops on the way are legal acts and change nothing, and what is loaded is reached (in the manner of DRust: an object is read here, or from a copy;
-- the state is this project's).
use Rattle.std.specs.Prelude.{◌≡◌, ◌≤◌, ℕ, true, Some, slice_get}
use Rattle.law_copies_kept.specs.Below.fr_base.declared.place.Lval.{Lval}
use Rattle.law_copies_kept.specs.Below.fr_base.declared.instruction.Instr.{Instr}
use Rattle.law_copies_kept.specs.Below.fr_base.declared.settings.Options.{Options}
use Rattle.law_copies_kept.specs.Below.journal.View.{EntryView}
use Rattle.law_copies_kept.specs.Below.thread_state.View.{ThreadState}
use Rattle.law_copies_kept.specs.Below.thread_state.declared.value.Value.{Value}
use Rattle.law_copies_kept.specs.Below.server_model.Servers.{Server, Cluster, server_at}
use Rattle.law_copies_kept.specs.Below.server_model.Work.{Hand, thread_in}
use Rattle.law_copies_kept.specs.Below.server_model.Places.{Spot, in_slot, cell_at, value_at, load_of}
use Rattle.law_copies_kept.specs.Below.server_model.Prepare.{ready, read_stars}
use Rattle.law_copies_kept.specs.Below.server_model.Events.{can_step, begin_work}
use Rattle.law_entries_variables.specs.Below.coloured_heap.Heap.{Coloured}
use Rattle.law_entries_variables.specs.Below.coloured_heap.Legal.{acts_after}
use Rattle.law_entries_variables.specs.Below.coloured_heap.Reach.{reaches}
use Rattle.law_copies_kept.specs.Below.coherent_memory.Colours.{StandsColoured}
use Rattle.law_copies_kept.specs.Below.coherent_types.ClusterTypes.{IsCoherent}
use Rattle.law_copies_kept.specs.Below.law_words_kept.reads.Reading.{Reads}

-- in each entry of that server
pub record ReachedSo (o : Options) (n : ℕ) (c : Coloured) (h : Hand) (p : Spot) : Type 0 where
  -- the acts so far are allowed one after another, and leave the coloured heap as it is
  pub acts : (e : EntryView) → e.server ≡ n → acts_after o e h.work.acts c ≡ Some c
  -- the labels so far reach what they load
  pub loads : (e : EntryView) → e.server ≡ n → reaches e h.work.labels c ≡ true
  -- and so does the load of what stands at the spot
  pub there : (e : EntryView) → e.server ≡ n → reaches e (load_of (cell_at h p)) c ≡ true

-- from a coherent cluster, for a thread that may step: so it is where so many stars of the place that its instruction reads lead it to a spot at which something stands
abbrev pub WalksReach : Type 0
WalksReach =
    (k : Cluster) (number t : ℕ) (s : Server) (y : ThreadState) (i : Instr) (w : Lval) (n m : ℕ) → IsCoherent k → server_at k.servers number ≡ Some s → thread_in s.threads t ≡ Some y → can_step y.phase ≡ true → slice_get k.code y.pc ≡ Some i
    → Reads i w n → m ≤ n → (c : Coloured) → StandsColoured k c → (h : Hand) (p : Spot) (v : Value) → read_stars m (record { work = begin_work s.rest; thread = y }) (in_slot w.slot) ≡ ready h p → value_at h p ≡ Some v
    → ReachedSo k.options s.rest.number c h p
