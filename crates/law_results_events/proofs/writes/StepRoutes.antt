-- The place that an enabled step of a coherent cluster follows for writing is a route from its hand.
use Rattle.std.proofs.Common.{◌≡◌, ◌≤◌, ℕ, ◌^◌, true, length, Option, Some, sym, ap, ◌∙◌, arith}
use Rattle.law_results_reads.specs.Below.fr_base.declared.name.ObjNo.{ObjNo}
use Rattle.law_results_reads.specs.Below.fr_base.declared.place.Lval.{Lval}
use Rattle.law_results_reads.specs.Below.fr_base.declared.instruction.Instr.{Instr}
use Rattle.law_results_reads.specs.Below.fr_store.Keys.{Key, slot_k}
use Rattle.law_results_reads.specs.Below.fr_store.Typed.{Exact, Resolves}
use Rattle.law_results_reads.specs.Below.heap_partition.declared.value.Cell.{Cell}
use Rattle.law_results_reads.specs.Below.thread_state.View.{ThreadState}
use Rattle.law_results_reads.specs.Below.thread_state.declared.phase.Phase.TheVariants as phase
use Rattle.law_results_reads.specs.Below.server_model.Servers.{Server, Cluster}
use Rattle.law_results_reads.specs.Below.server_model.Events.{can_step}
use Rattle.law_results_reads.specs.Below.coherent_memory.Things.{Location}
use Rattle.law_results_reads.specs.Below.coherent_memory.Follow.{Standing, cell_of, locate}
use Rattle.law_results_reads.specs.Below.coherent_memory.Paths.{written_place}
use Rattle.law_results_reads.specs.Below.coherent_memory.Sight.{sight}
use Rattle.law_results_reads.specs.Below.coherent_memory.Walking.{path}
use Rattle.law_results_reads.specs.Below.law_words_paths.paths.HeapStore.{IsUnmarked}
use Rattle.law_words_kept.proofs.ends.Lying.{written_lie_there}
use Rattle.law_results_reads.proofs.Known.{Steps, standing, able, paths, goes}
use Rattle.law_results_events.proofs.writes.Memory.{Sane}
use Rattle.law_results_events.proofs.writes.Route.{Route}
use Rattle.law_results_events.proofs.writes.Routes.{sane_at, roomy_at, road}

module _ (k : Cluster) (n t : ℕ) (s : Server) (y : ThreadState) (i : Instr) (z : Steps k n t s y i) where
  abbrev x : Standing
  x = standing k n t s y i z

  pub sane_there : Sane s.rest.partition
  sane_there = sane_at k z.coherent z.few n s z.here

  pub roomy : length s.rest.partition.cells ≤ 2 ^ 36
  roomy = roomy_at k z.coherent z.few n s z.here

  pub awake : (u : ℕ) → y.phase ≡ phase.WaitCell u → ⊥
  awake u e = let no : can_step (phase.WaitCell u) ≡ true = ap can_step (sym e) ∙ able k n t s y i z in absurd (cc no)

  module _ (w : Lval) (writes : written_place (path (sight k) x) ≡ Some w) (short : w.depth ≤ 8) (base : Key) (boxes : ℕ) (type : Exact) (resolves : Resolves (paths k n t s y i z).types.typing.exact true (slot_k y.number w.slot) w.depth base boxes type) (unmarked : IsUnmarked x w.slot) where
    abbrev pub C : ObjNo → Option Cell
    C = cell_of (sight k).ground.cells

    abbrev pub at : ℕ → Option Location
    at = locate (sight k).ground y.number w.slot

    pub its_route : Route s.rest y C at w.depth
    its_route =
        road k z.coherent z.few n s z.here (paths k n t s y i z) y (goes k n t s y i z) w writes short base boxes type resolves unmarked w.depth (omega arith)
        (λ j lt l v p located stands pointer. written_lie_there k z.coherent x w j l v p (goes k n t s y i z) awake writes lt located stands pointer)
