-- STEPS THAT CARRY A VALUE leave the words (this project's rules): a temporary value becomes a variable, the content of a new mutex, a thread's result, or is dropped, and
-- a result that came becomes a temporary value.
use Rattle.std.specs.Prelude.{◌≡◌, ⊤, ℕ, true, Some, slice_get}
use Rattle.law_words_kept.specs.Below.fr_base.declared.place.Lval.{Lval}
use Rattle.law_words_kept.specs.Below.fr_base.declared.instruction.Operand.{Operand}
use Rattle.law_words_kept.specs.Below.fr_base.declared.instruction.Instr.{Instr}
use Rattle.law_words_kept.specs.Below.fr_base.declared.instruction.Instr.TheVariants as instr
use Rattle.law_words_kept.specs.Below.heap_partition.declared.value.Owned.{Owned}
use Rattle.law_words_kept.specs.Below.journal.View.{EntryView}
use Rattle.law_words_kept.specs.Below.thread_state.View.{ThreadState}
use Rattle.law_words_kept.specs.Below.thread_state.declared.value.Value.{Value}
use Rattle.law_words_kept.specs.Below.thread_state.declared.value.Value.TheVariants as value
use Rattle.law_words_kept.specs.Below.server_model.declared.event.What.TheVariants.{Step}
use Rattle.law_words_kept.specs.Below.server_model.Servers.{Server, Cluster, server_at}
use Rattle.law_words_kept.specs.Below.server_model.Work.{thread_in, last_of}
use Rattle.law_words_kept.specs.Below.server_model.Clusters.{apply}
use Rattle.law_words_kept.specs.Below.coherent_memory.Coherent.{IsSound}
use Rattle.law_words_kept.specs.Below.coherent_types.ClusterTypes.{IsCoherent}
use Rattle.law_words_kept.specs.Below.law_counts_sums.Laws.{Gives, FewEvents}
use Rattle.law_words_kept.specs.Below.law_words_paths.words.Unmoved.{LeavesWords}
use Rattle.law_words_kept.specs.prepared.Requests.{WordsRise}

-- an instruction that carries one value of its thread at most, to or from where no place of a thread leads
pub data CarriesOne : Instr → Type 0 where
  a_let : (o : Operand) → CarriesOne (instr.Let o)
  a_mutex : (o : Operand) → CarriesOne (instr.Mutex o)
  a_join : (o : Operand) → CarriesOne (instr.Join o)
  an_end : (o : Operand) → CarriesOne (instr.End o)

-- from a sound cluster, with its messages handed over, its step leaves each object the word that it had, whether it is done or asks
abbrev pub StepsCarry : Type 0
StepsCarry = (k : Cluster) (number t : ℕ) (s : Server) (y : ThreadState) (i : Instr) → IsSound k → FewEvents k → server_at k.servers number ≡ Some s → thread_in s.threads t ≡ Some y → slice_get k.code y.pc ≡ Some i → CarriesOne i
    → Gives (λ (d : Cluster × EntryView). LeavesWords k d.0) (apply k (record { server = number; what = Step t }))

-- a value that is no reference to an object
abbrev pub IsNoReference : Value → Type 0
IsNoReference (value.Shared r) = ⊥
IsNoReference (value.Mut r) = ⊥
IsNoReference v = ⊤

-- and so does a discard where no reference to an object is on top
abbrev pub DiscardsCarry : Type 0
DiscardsCarry = (k : Cluster) (number t : ℕ) (s : Server) (y : ThreadState) (v : Value) → IsSound k → FewEvents k → server_at k.servers number ≡ Some s → thread_in s.threads t ≡ Some y → slice_get k.code y.pc ≡ Some instr.Discard
    → last_of y.temps ≡ Some v → IsNoReference v → Gives (λ (d : Cluster × EntryView). LeavesWords k d.0) (apply k (record { server = number; what = Step t }))

-- an instruction that takes what a slot owns: the newest slot goes with its value, or without one, a lock's content is put back, and a variable's value is moved out
pub data GivesOwned (y : ThreadState) : Instr → Type 0 where
  drops : (u : Owned) → last_of y.slots ≡ Some (value.Own u) → GivesOwned y instr.DropSlot
  drops_none : last_of y.slots ≡ Some value.Gone → GivesOwned y instr.DropSlot
  puts_back : GivesOwned y instr.Unlock
  moves : (w : Lval) (u : Owned) → w.depth ≡ 0 → slice_get y.slots w.slot ≡ Some (value.Own u) → GivesOwned y (instr.Read w true)

-- from a coherent cluster its step does so too, as to each object that the slot owns its box is the only pointer
abbrev pub OwnedGoes : Type 0
OwnedGoes = (k : Cluster) (number t : ℕ) (s : Server) (y : ThreadState) (i : Instr) → IsCoherent k → FewEvents k → server_at k.servers number ≡ Some s → thread_in s.threads t ≡ Some y → slice_get k.code y.pc ≡ Some i → GivesOwned y i
    → Gives (λ (d : Cluster × EntryView). LeavesWords k d.0) (apply k (record { server = number; what = Step t }))

-- a lock keeps the words, whether it asks for the content of its mutex or takes it
abbrev pub LocksKeep : Type 0
LocksKeep = (k : Cluster) (number t : ℕ) (s : Server) (y : ThreadState) (w : Lval) → IsCoherent k → FewEvents k → server_at k.servers number ≡ Some s → thread_in s.threads t ≡ Some y → slice_get k.code y.pc ≡ Some (instr.Lock w)
    → Gives (λ (d : Cluster × EntryView). WordsRise k d.0) (apply k (record { server = number; what = Step t }))

-- a value that owns, or none any more
pub data IsOwnedOrGone : Value → Type 0 where
  owns : (u : Owned) → IsOwnedOrGone (value.Own u)
  gone : IsOwnedOrGone value.Gone

-- an assignment to a variable that has such a value leaves the words, whatever is assigned
abbrev pub AssignsOver : Type 0
AssignsOver = (k : Cluster) (number t : ℕ) (s : Server) (y : ThreadState) (w : Lval) (o : Operand) (v : Value) → IsCoherent k → FewEvents k → server_at k.servers number ≡ Some s → thread_in s.threads t ≡ Some y → slice_get k.code y.pc ≡ Some (instr.Assign w o)
    → w.depth ≡ 0 → slice_get y.slots w.slot ≡ Some v → IsOwnedOrGone v → Gives (λ (d : Cluster × EntryView). LeavesWords k d.0) (apply k (record { server = number; what = Step t }))
