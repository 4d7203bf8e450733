-- The clauses: each move and each assignment, whatever its place, is a plain step.
use Rattle.std.proofs.Common.{◌≡◌, ℕ, zero, suc, ◌==◌, true, false, Some, refl, ap}
use Rattle.law_heap_writes.specs.Below.fr_base.declared.place.Lval.{Lval}
use Rattle.law_heap_writes.specs.Below.fr_base.declared.step.Fresh.{Fresh}
use Rattle.law_heap_writes.specs.Below.fr_base.declared.instruction.Operand.{Operand}
use Rattle.law_heap_writes.specs.Below.fr_base.declared.instruction.Instr.{Instr}
use Rattle.law_heap_writes.specs.Below.fr_base.declared.instruction.Instr.TheVariants as instr
use Rattle.law_heap_writes.specs.Below.thread_state.View.{ThreadState}
use Rattle.law_heap_writes.specs.Below.server_model.declared.event.Event.{Event}
use Rattle.law_heap_writes.specs.Below.server_model.Servers.{Server, Cluster}
use Rattle.law_heap_writes.specs.Below.server_model.Events.{Stepped, stepped, begin_work, step}
use Rattle.law_heap_writes.specs.Below.server_model.Clusters.{apply}
use Rattle.law_heap_writes.specs.Below.coherent_memory.Requests.{is_par_end}
use Rattle.law_heap_writes.specs.Below.coherent_types.ClusterTypes.{IsCoherent}
use Rattle.law_heap_writes.specs.Below.law_counts_sums.Laws.{Gives, FewEvents}
use Rattle.law_heap_writes.proofs.Below.law_counts_sums.Results.{weaker}
use Rattle.law_heap_writes.specs.Below.law_heap_steps.turns.Turns.{IsPlainStep, ArePlainSteps, instr_of}
use Rattle.law_heap_writes.proofs.Below.law_heap_steps.turns.Clauses as turns
use Rattle.law_heap_writes.proofs.Below.law_heap_steps.turns.Events.{AtStep, Sends, events_are_plain}
use Rattle.law_heap_writes.proofs.Below.law_heap_steps.mutexes.ThreadTurns.{Next}
use Rattle.law_heap_writes.proofs.drops.Clauses.{assigns as assigns_flat}
use Rattle.law_heap_writes.specs.writes.Writes.{moves_place, assigns_place}
use Rattle.law_heap_writes.proofs.writes.AssignLines.{assign_line}
use Rattle.law_heap_writes.proofs.writes.MoveLines.{move_line}

-- where each step of the instruction that is done is the plain step, each event that does it is
pub line_plain : (k : Cluster) (co : IsCoherent k) (few : FewEvents k) (e : Event) (i : Instr) (single : is_par_end (Some i) ≡ false)
    → ((s : Server) (t : ℕ) (y : ThreadState) (a : AtStep k e i s t y) → Gives (λ (x : Stepped). (names : Fresh) → x.names ≡ Some names → Sends k e s (stepped s x) → IsPlainStep k (Next k co.sound e i single s t y a x, (stepped s x).1)) (step k.options.servers i (record { work = begin_work s.rest; thread = y })))
    → instr_of k e ≡ Some i → Gives (IsPlainStep k) (apply k e)
line_plain k co few e i single line =
    events_are_plain k e i co.sound few (λ s t y a.
    weaker (λ (x : Stepped). (names : Fresh) → x.names ≡ Some names → Sends k e s (stepped s x) → IsPlainStep k (Next k co.sound e i single s t y a x, (stepped s x).1))
    (λ (x : Stepped). Sends k e s (stepped s x) → IsPlainStep k (Next k co.sound e i single s t y a x, (stepped s x).1)) (step k.options.servers i (record { work = begin_work s.rest; thread = y }))
    (line s t y a) (λ x done sends u names who is c same. done names is sends u names who is c same))

pub moves_plain : ArePlainSteps IsCoherent moves_place
moves_plain k e i q it co few = by i q it
  where
    by_depth : (w : Lval) (d : ℕ) → w.depth ≡ d → instr_of k e ≡ Some (instr.Read w true) → Gives (IsPlainStep k) (apply k e)
    by_depth w zero f q = turns.reads k e (instr.Read w true) q (ap (λ m. m == 0) f) co.sound few
    by_depth w (suc d) f q = line_plain k co few e (instr.Read w true) refl (λ s t y a. move_line k co few e w s t y a d f) q

    by : (i : Instr) → instr_of k e ≡ Some i → moves_place i ≡ true → Gives (IsPlainStep k) (apply k e)
    by (instr.Read w true) q it = by_depth w w.depth refl q
    by (instr.Read w false) q it = absurd (cc it)
    by (instr.Let o) q it = absurd (cc it)
    by (instr.Assign w o) q it = absurd (cc it)
    by (instr.Borrow w) q it = absurd (cc it)
    by (instr.BorrowMut w) q it = absurd (cc it)
    by _ q it = absurd (cc it)

pub assigns_plain : ArePlainSteps IsCoherent assigns_place
assigns_plain k e i q it co few = by i q it
  where
    by_depth : (w : Lval) (o : Operand) (d : ℕ) → w.depth ≡ d → instr_of k e ≡ Some (instr.Assign w o) → Gives (IsPlainStep k) (apply k e)
    by_depth w o zero f q = assigns_flat k e (instr.Assign w o) q (ap (λ m. m == 0) f) co.sound few
    by_depth w o (suc d) f q = line_plain k co few e (instr.Assign w o) refl (λ s t y a. assign_line k co few e w o s t y a d f) q

    by : (i : Instr) → instr_of k e ≡ Some i → assigns_place i ≡ true → Gives (IsPlainStep k) (apply k e)
    by (instr.Assign w o) q it = by_depth w o w.depth refl q
    by _ q it = absurd (cc it)
