-- Each kind of instruction whose line stands.
use Rattle.std.proofs.Common.{◌≡◌, true, Some, length, refl, subst}
use Rattle.law_heap_steps.specs.Below.fr_base.declared.instruction.Instr.{Instr}
use Rattle.law_heap_steps.specs.Below.fr_base.declared.instruction.Instr.TheVariants as instr
use Rattle.law_heap_steps.specs.Below.server_model.Events.{Stepped, stepped, begin_work, step}
use Rattle.law_heap_steps.specs.Below.server_model.Clusters.{hand_over_newer, apply}
use Rattle.law_heap_steps.specs.Below.coherent_memory.Coherent.{IsSound}
use Rattle.law_heap_still.specs.Below.coherent_types.ClusterTypes.{IsCoherent}
use Rattle.law_heap_steps.specs.Below.law_counts_sums.Laws.{Gives}
use Rattle.law_heap_steps.specs.turns.Turns.{IsPlainStep, instr_of, ArePlainSteps}
use Rattle.law_heap_steps.specs.mutexes.Locks.{dups_mutex, locks_mutex, makes_box, makes_mutex, marked, IsThere, UnlocksArePlain}
use Rattle.law_heap_steps.proofs.mutexes.ThreadTurns.{turn_steps}
use Rattle.law_heap_steps.proofs.mutexes.DupLines.{dup_line}
use Rattle.law_heap_steps.proofs.mutexes.LockLines.{lock_line}
use Rattle.law_heap_steps.proofs.mutexes.NewLines.{new_line}
use Rattle.law_heap_steps.proofs.mutexes.UnlockLines.{unlock_line}
use Rattle.law_heap_steps.proofs.mutexes.BoxLines.{box_line}
use Rattle.law_heap_steps.proofs.turns.Clauses.{same_thread}
use Rattle.law_heap_steps.proofs.turns.Events.{Sends, events_are}

pub dups : ArePlainSteps IsCoherent dups_mutex
dups k e i q it co few = by i q it
  where
    by : (i : Instr) → instr_of k e ≡ Some i → dups_mutex i ≡ true → Gives (IsPlainStep k) (apply k e)
    by (instr.Dup w) q it = turn_steps k co.sound e (instr.Dup w) refl few (λ s t x at. dup_line k co e w s t x at) q
    by _ q it = absurd (cc it)

pub locks : ArePlainSteps IsCoherent locks_mutex
locks k e i q it co few = by i q it
  where
    by : (i : Instr) → instr_of k e ≡ Some i → locks_mutex i ≡ true → Gives (IsPlainStep k) (apply k e)
    by (instr.Lock w) q it = turn_steps k co.sound e (instr.Lock w) refl few (λ s t x at. lock_line k co e w s t x at) q
    by _ q it = absurd (cc it)

pub news : ArePlainSteps IsSound makes_mutex
news k e i q it sound few = by i q it
  where
    by : (i : Instr) → instr_of k e ≡ Some i → makes_mutex i ≡ true → Gives (IsPlainStep k) (apply k e)
    by (instr.Mutex o) q it = turn_steps k sound e (instr.Mutex o) refl few (λ s t x at. new_line k sound e o s t x at) q
    by _ q it = absurd (cc it)

pub boxes : ArePlainSteps IsCoherent makes_box
boxes k e i q it co few = by i q it
  where
    by : (i : Instr) → instr_of k e ≡ Some i → makes_box i ≡ true → Gives (IsPlainStep k) (apply k e)
    by (instr.Box o) q it = turn_steps k co.sound e (instr.Box o) refl few (λ s t x at. box_line k co e o s t x at) q
    by _ q it = absurd (cc it)

pub unlocks : UnlocksArePlain
unlocks k e y q th sound few =
    events_are (λ d. IsThere d.0 (marked y) → IsPlainStep k d) k e instr.Unlock sound few (λ s t x at.
    subst (λ z. Gives (λ (d : Stepped). Sends k e s (stepped s d) → IsThere (record k { servers = hand_over_newer e.server (length s.rest.outbox) (stepped s d).0 k.servers }) (marked z) → IsPlainStep k (record k { servers = hand_over_newer e.server (length s.rest.outbox) (stepped s d).0 k.servers }, (stepped s d).1)) (step k.options.servers instr.Unlock (record { work = begin_work s.rest; thread = x })))
    (same_thread k e instr.Unlock s t x y at th) (unlock_line k sound e s t x at)) q
