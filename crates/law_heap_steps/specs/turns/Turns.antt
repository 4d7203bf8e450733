-- ONE STEP: an event that has a `done` of its thread is exactly that step of the plain machine on the cluster's one heap (this project's rule).
use Rattle.std.specs.Prelude.{◌≡◌, ℕ, ◌==◌, ◌&&◌, Bool, true, false, Option, Some, None, List, slice_get}
use Rattle.law_words_kept.specs.Below.fr_base.Lists.{last_of}
use Rattle.law_words_kept.specs.Below.fr_base.declared.label.Label.{Label}
use Rattle.law_words_kept.specs.Below.fr_base.declared.step.Fresh.{Fresh}
use Rattle.law_words_kept.specs.Below.fr_base.declared.instruction.Instr.{Instr}
use Rattle.law_words_kept.specs.Below.fr_base.declared.instruction.Instr.TheVariants as instr
use Rattle.law_words_kept.specs.Below.fr_plain.PlainState.{SameState, plain_state}
use Rattle.law_words_kept.specs.Below.fr_code.Machine.{CodeWhole, CodeStepped, CodeState, code_step}
use Rattle.law_words_kept.specs.Below.journal.View.{EntryView}
use Rattle.law_words_kept.specs.Below.thread_state.View.{ThreadState}
use Rattle.law_words_kept.specs.Below.thread_state.declared.value.Value.{Value}
use Rattle.law_words_kept.specs.Below.thread_state.declared.value.Value.TheVariants as value
use Rattle.law_words_kept.specs.Below.server_model.Places.{owns_nothing}
use Rattle.law_words_kept.specs.Below.server_model.declared.event.Event.{Event}
use Rattle.law_words_kept.specs.Below.server_model.declared.event.What.{What}
use Rattle.law_words_kept.specs.Below.server_model.declared.event.What.TheVariants.{Step}
use Rattle.law_words_kept.specs.Below.server_model.Servers.{Server, Cluster, server_at}
use Rattle.law_words_kept.specs.Below.server_model.Work.{then_some, thread_in}
use Rattle.law_words_kept.specs.Below.server_model.Clusters.{apply}
use Rattle.law_words_kept.specs.Below.coherent_memory.OneHeap.{one_heap}
use Rattle.law_words_kept.specs.Below.law_counts_sums.Laws.{Gives, FewEvents}

-- a plain step of the thread with these new names is there; it leads to that state, name by name, with these labels
pub record StepsTo (code : List Instr) (c : CodeWhole) (t : ℕ) (names : Fresh) (s : CodeState) (labels : List Label) : Type 0 where
  pub after : CodeStepped
  pub steps : code_step code c t names ≡ Some after
  pub same : SameState (plain_state after.state) s
  pub labelled : after.labels ≡ labels

-- an event and its entry: where the entry has a `done` of a thread, the plain step of that thread with its names leads from the one heap to the one heap
-- afterwards, with the entry's labels
abbrev pub IsPlainStep : Cluster → Cluster × EntryView → Type 0
IsPlainStep k d =
    (t : ℕ) (names : Fresh) → d.1.thread ≡ Some t → d.1.done ≡ Some names → (c : CodeWhole) → SameState (plain_state c) (one_heap k)
    → StepsTo k.code c t names (one_heap d.0) d.1.labels

-- WHICH INSTRUCTIONS

-- the instruction that an event steps, or whose request it sends
abbrev pub instr_at : Cluster → What → Server → Option Instr
instr_at k (Step t) s = then_some (thread_in s.threads t) (λ x. slice_get k.code x.pc)
instr_at k w s = None

abbrev pub instr_of : Cluster → Event → Option Instr
instr_of k e = then_some (server_at k.servers e.server) (instr_at k e.what)

abbrev pub is_let : Instr → Bool
is_let (instr.Let o) = true
is_let i = false

abbrev pub is_arith : Instr → Bool
is_arith (instr.Arith f a b) = true
is_arith i = false

abbrev pub is_print : Instr → Bool
is_print (instr.Print o) = true
is_print i = false

-- a read of a variable, without a star: a copy, or a move out of it
abbrev pub reads_slot : Instr → Bool
reads_slot (instr.Read w take) = w.depth == 0
reads_slot i = false

-- a borrow of a variable, shared or mutable
abbrev pub borrows_slot : Instr → Bool
borrows_slot (instr.Borrow w) = w.depth == 0
borrows_slot (instr.BorrowMut w) = w.depth == 0
borrows_slot i = false

-- a copy of what a place leads to, a shared borrow and a mutable one, through however many stars
abbrev pub copies_place : Instr → Bool
copies_place (instr.Read w false) = true
copies_place i = false

abbrev pub borrows_place : Instr → Bool
borrows_place (instr.Borrow w) = true
borrows_place i = false

abbrev pub lends_place : Instr → Bool
lends_place (instr.BorrowMut w) = true
lends_place i = false

-- a value whose drop lets nothing go: no box, mutex or task
abbrev pub lets_none_go : Value → Bool
lets_none_go (value.Own v) = owns_nothing v
lets_none_go v = true

abbrev pub none_goes : Option Value → Bool
none_goes None = false
none_goes (Some v) = lets_none_go v

-- the value that an instruction drops is such: the temporary value that it discards, the last slot, or what stands in the variable that it assigns
abbrev pub discards_none : Instr → ThreadState → Bool
discards_none instr.Discard y = none_goes (last_of y.temps)
discards_none i y = false

abbrev pub drops_none : Instr → ThreadState → Bool
drops_none instr.DropSlot y = none_goes (last_of y.slots)
drops_none i y = false

abbrev pub replaces_none : Instr → ThreadState → Bool
replaces_none (instr.Assign w o) y = (w.depth == 0) && none_goes (slice_get y.slots w.slot)
replaces_none i y = false

-- from a cluster with that property, each step of such an instruction is a plain step where it has a `done`, its messages handed over
abbrev pub ArePlainSteps : (Cluster → Type 0) → (Instr → Bool) → Type 0
ArePlainSteps Has is = (k : Cluster) (e : Event) (i : Instr) → instr_of k e ≡ Some i → is i ≡ true → Has k → FewEvents k → Gives (IsPlainStep k) (apply k e)

-- the thread that an event steps, or whose request it sends
abbrev pub thread_at : What → Server → Option ThreadState
thread_at (Step t) s = thread_in s.threads t
thread_at w s = None

abbrev pub thread_of : Cluster → Event → Option ThreadState
thread_of k e = then_some (server_at k.servers e.server) (thread_at e.what)

-- the same of the instructions of threads where that is so
abbrev pub ArePlainStepsWhere : (Cluster → Type 0) → (Instr → ThreadState → Bool) → Type 0
ArePlainStepsWhere Has is =
    (k : Cluster) (e : Event) (i : Instr) (y : ThreadState) → instr_of k e ≡ Some i → thread_of k e ≡ Some y → is i y ≡ true → Has k → FewEvents k → Gives (IsPlainStep k) (apply k e)
