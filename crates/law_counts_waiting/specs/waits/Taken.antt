-- WHO HAS TAKEN AN OBJECT (this project's rule): a thread in phase `Taken` is at a mutable borrow.
use Rattle.std.specs.Prelude.{◌≡◌, ℕ, List, is_some, slice_get}
use Rattle.law_counts_asking.specs.Below.fr_base.declared.instruction.Instr.{Instr}
use Rattle.law_counts_asking.specs.Below.server_model.Prepare.{is_taken}
use Rattle.law_counts_asking.specs.Below.server_model.Servers.{Cluster}
use Rattle.law_counts_asking.specs.Below.coherent_memory.Names.{tot, other, if_so}
use Rattle.law_counts_asking.specs.Below.coherent_memory.Things.{things_of}
use Rattle.law_counts_asking.specs.Below.coherent_memory.Follow.{Standing, threads_in}
use Rattle.law_counts_asking.specs.Below.coherent_memory.Requests.{lent_place}
use Rattle.law_counts_asking.specs.Below.law_counts_sums.Laws.{EachEventHandedOver}

-- a thread that has taken an object at another instruction
abbrev pub off_lend : List Instr → Standing → ℕ
off_lend code x = if_so (is_taken x.thread.phase) (other (is_some (lent_place (slice_get code x.thread.pc))))

-- no thread has
abbrev pub TakersLend : Cluster → Type 0
TakersLend c = tot (off_lend c.code) (threads_in (things_of c)) ≡ 0

-- an event of whatever kind, from a sound cluster in which few events were done, with its messages handed over, leaves it so
abbrev pub EachEventLeavesTakers : Type 0
EachEventLeavesTakers = EachEventHandedOver TakersLend
