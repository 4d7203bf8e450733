-- Where a thread that waits for what a home gives stands, and one that has got it, by where places led before the event.
use Rattle.std.specs.Prelude.{◌≡◌, ℕ, ◌+◌, is_some, Option, Some, None, slice_get}
use Rattle.law_results_reads.specs.Below.fr_base.declared.name.MutexNo.{MutexNo}
use Rattle.law_results_reads.specs.Below.fr_base.declared.instruction.Instr.{Instr}
use Rattle.law_results_reads.specs.Below.fr_base.declared.instruction.Instr.TheVariants as instr
use Rattle.law_results_reads.specs.Below.heap_partition.declared.value.Owned.{Owned}
use Rattle.law_results_reads.specs.Below.thread_state.View.{ThreadState}
use Rattle.law_results_reads.specs.Below.thread_state.declared.phase.Phase.{Phase}
use Rattle.law_results_reads.specs.Below.thread_state.declared.phase.Phase.TheVariants as phase
use Rattle.law_results_reads.specs.Below.journal.View.{EntryView}
use Rattle.law_results_reads.specs.Below.server_model.declared.event.Event.{Event}
use Rattle.law_results_reads.specs.Below.server_model.Servers.{Cluster}
use Rattle.law_results_reads.specs.Below.server_model.Clusters.{apply}
use Rattle.law_results_reads.specs.Below.coherent_memory.Names.{tot, other}
use Rattle.law_results_reads.specs.Below.coherent_memory.Things.{things_of}
use Rattle.law_results_reads.specs.Below.coherent_memory.Follow.{Standing, Ground, threads_in, value_at}
use Rattle.law_results_reads.specs.Below.coherent_memory.Sight.{sight}
use Rattle.law_results_reads.specs.Below.coherent_memory.Paths.{joined_thread}
use Rattle.law_results_reads.specs.Below.coherent_memory.Coherent.{Sentence, Holds}
use Rattle.law_results_reads.specs.Below.coherent_memory.Requests.{mutex_of, is_mutex, is_task, is_value_of}
use Rattle.law_results_reads.specs.Below.law_counts_sums.Laws.{Gives, FewEvents}
use Rattle.law_results_reads.specs.Below.coherent_types.ClusterTypes.{IsCoherent}

-- the mutex at the place of a lock, or of a dup, of a thread with that number
abbrev pub locked : Ground → ℕ → Option Instr → Option MutexNo
locked g n (Some (instr.Lock w)) = mutex_of (value_at g n w)
locked g n i = None

abbrev pub dupped : Ground → ℕ → Option Instr → Option MutexNo
dupped g n (Some (instr.Dup w)) = mutex_of (value_at g n w)
dupped g n i = None

-- `WaitLock(m)` stands at a `Lock` whose place holds m, `WaitDup(m)` at a `Dup` whose place holds m, and `WaitJoin(t)` at a `Join` whose operand is t
abbrev pub phase_off : Ground → Option Instr → ThreadState → Phase → ℕ
phase_off g i t (phase.WaitLock m) = other (is_mutex m (locked g t.number i))
phase_off g i t (phase.WaitDup m) = other (is_mutex m (dupped g t.number i))
phase_off g i t (phase.WaitJoin u) = other (is_task u (joined_thread i t))
phase_off g i t p = 0

-- a gift stands at a `Lock`, a `Dup` or a `Join` alone: there is a mutex at the place of the lock, the gift is a share of the one at that of the dup, and a task is the
-- operand of the join
abbrev pub gift_at : Ground → Option Instr → ThreadState → Owned → ℕ
gift_at g (Some (instr.Lock w)) t v = other (is_some (locked g t.number (Some (instr.Lock w))))
gift_at g (Some (instr.Dup w)) t v = other (is_value_of v (dupped g t.number (Some (instr.Dup w))))
gift_at g (Some (instr.Join o)) t v = other (is_some (joined_thread (Some (instr.Join o)) t))
gift_at g i t v = 1

abbrev pub gift_off : Ground → Option Instr → ThreadState → Option Owned → ℕ
gift_off g i t None = 0
gift_off g i t (Some v) = gift_at g i t v

-- with the code and the places of a cluster
abbrev pub off : Cluster → Standing → ℕ
off k x = phase_off (sight k).ground (slice_get k.code x.thread.pc) x.thread x.thread.phase + gift_off (sight k).ground (slice_get k.code x.thread.pc) x.thread x.thread.gift

-- each thread of the second cluster stands so, by the code and the places of the first
abbrev pub StandBy : Cluster → Cluster → Type 0
StandBy k c = tot (off k) (threads_in (things_of c)) ≡ 0

-- after an event of whatever kind from a coherent cluster in which few events were done, with its messages handed over, threads stand so by where places led before it
abbrev pub EachEventAsksForWhatIsThere : Type 0
EachEventAsksForWhatIsThere = (k : Cluster) (e : Event) → IsCoherent k → FewEvents k → Gives (λ (d : Cluster × EntryView). StandBy k d.0) (apply k e)

-- an event that has no `done` keeps the sentence, from a coherent cluster in which few events were done, with its messages handed over
abbrev pub EachUndoneEventKeeps : Sentence → Type 0
EachUndoneEventKeeps sentence = (k : Cluster) (e : Event) → IsCoherent k → FewEvents k → Gives (λ (d : Cluster × EntryView). d.1.done ≡ None → Holds d.0 sentence) (apply k e)
