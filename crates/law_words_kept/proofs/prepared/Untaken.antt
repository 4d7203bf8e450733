-- A thread that stands at no mutable borrow has taken no object.
use Rattle.std.proofs.Common.{◌≡◌, ℕ, false, Some, None, subst, slice_get}
use Rattle.law_words_kept.specs.Below.fr_base.declared.instruction.Instr.{Instr}
use Rattle.law_words_kept.specs.Below.thread_state.View.{ThreadState}
use Rattle.law_words_kept.specs.Below.thread_state.declared.phase.Phase.TheVariants as phase
use Rattle.law_words_kept.specs.Below.server_model.Servers.{Server, Cluster, server_at}
use Rattle.law_words_kept.specs.Below.server_model.Work.{thread_in}
use Rattle.law_words_kept.specs.Below.coherent_memory.Follow.{Standing}
use Rattle.law_words_kept.specs.Below.coherent_memory.Sight.{sight}
use Rattle.law_words_kept.specs.Below.coherent_memory.Requests.{lent_place, taken_there, taken_phase}
use Rattle.law_words_kept.specs.Below.coherent_memory.Coherent.{IsSound}
use Rattle.law_words_kept.proofs.Below.law_counts_sums.GiftsTaken.{none_here}

pub not_taken : (k : Cluster) → IsSound k → (number : ℕ) (s : Server) → server_at k.servers number ≡ Some s → (t : ℕ) (y : ThreadState) → thread_in s.threads t ≡ Some y → (i : Instr) → slice_get k.code y.pc ≡ Some i → lent_place (Some i) ≡ None
    → (v : ℕ) → y.phase ≡ phase.Taken v → ⊥
not_taken k sound number s here t y at i code none v e =
    let x : Standing = record { server = s.rest.number; packed = false; thread = y } in
    let stands : taken_phase (sight k) x y.phase ≡ 0 = none_here k sound number s here t y at (λ z. taken_phase (sight k) z z.thread.phase) sound.requests.taken_stands in
    let there : taken_there (sight k) x v (lent_place (slice_get k.code y.pc)) ≡ 0 = subst (λ p. taken_phase (sight k) x p ≡ 0) e stands in
    let one : 1 ≡ 0 = subst (λ o. taken_there (sight k) x v o ≡ 0) none (subst (λ j. taken_there (sight k) x v (lent_place j) ≡ 0) code there) in
    absurd (cc one)
