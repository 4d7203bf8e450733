-- The thread to which a message brings an object waits for it.
use Rattle.std.proofs.Common.{◌≡◌, ◌≤◌, ℕ, Bool, true, false, Some, refl, sym, ap, ◌∙◌, arith}
use Rattle.std.specs.Prelude.{slice_get}
use Rattle.std.proofs.lemmas.Bool.{eqb-true}
use Rattle.law_counts_waiting.specs.Below.heap_partition.declared.value.Cell.{Cell}
use Rattle.law_counts_waiting.specs.Below.thread_state.View.{ThreadState}
use Rattle.law_counts_waiting.specs.Below.thread_state.declared.phase.Phase.{Phase}
use Rattle.law_counts_waiting.specs.Below.thread_state.declared.phase.Phase.TheVariants as phase
use Rattle.law_counts_waiting.specs.Below.server_msgs.declared.message.Message.{Message}
use Rattle.law_counts_waiting.specs.Below.server_msgs.declared.message.Message.TheVariants as message
use Rattle.law_counts_waiting.specs.Below.server_model.Servers.{Server, Cluster, server_at}
use Rattle.law_counts_waiting.specs.Below.server_model.Work.{thread_in}
use Rattle.law_counts_waiting.specs.Below.coherent_memory.Names.{tot, other}
use Rattle.law_counts_waiting.specs.Below.coherent_memory.Things.{Thing, message_things, things_of}
use Rattle.law_counts_waiting.specs.Below.coherent_memory.Follow.{thread_at}
use Rattle.law_counts_waiting.specs.Below.coherent_memory.Sight.{sight}
use Rattle.law_counts_waiting.specs.Below.coherent_memory.Requests.{is_cell, in_phase, carries}
use Rattle.law_counts_waiting.specs.Below.coherent_memory.Coherent.{IsSound}
use Rattle.law_counts_waiting.proofs.Below.law_counts_sums.MutexResults.{has}
use Rattle.law_counts_waiting.proofs.Below.law_counts_sums.ThreadThere.{thread_there}
use Rattle.law_walks_others.proofs.still.Filled.{waits_cell}

none_true : (b : Bool) → other b ≡ 0 → b ≡ true
none_true true z = refl
none_true false z = absurd (cc z)

is_waiting : (p : Phase) (w : ℕ) → is_cell w p ≡ true → p ≡ phase.WaitCell w
is_waiting (phase.WaitCell v) w e = ap phase.WaitCell (eqb-true v w e)
is_waiting _ w e = absurd (cc e)

module _ (k : Cluster) (sound : IsSound k) (number : ℕ) (s : Server) (here : server_at k.servers number ≡ Some s) (i old : ℕ) (cell : Cell) (t : ℕ) (q : slice_get s.rest.inbox i ≡ Some (message.Moved old cell t)) (y : ThreadState) (at : thread_in s.threads t ≡ Some y) where
  pub waits_under_it : y.phase ≡ phase.WaitCell old
  waits_under_it =
      let g : Thing → ℕ = carries (sight k) in
      let m : Message = message.Moved old cell t in
      let all : tot g (message_things s.rest.number m) ≤ tot g (things_of k) = has k sound number s here i m q g in
      let none : tot g (things_of k) ≡ 0 = sound.requests.carry_what_is_asked in
      let mine : other (in_phase (is_cell old) (thread_at (sight k).ground.threads t)) ≡ 0 = omega (arith, all, none) in
      let there : in_phase (is_cell old) (Some (record { server = s.rest.number; packed = false; thread = y })) ≡ true = sym (ap (in_phase (is_cell old)) (thread_there k sound number s here t y at)) ∙ none_true (in_phase (is_cell old) (thread_at (sight k).ground.threads t)) mine in
      is_waiting y.phase old there

  pub waits_for_it : waits_cell y.phase ≡ true
  waits_for_it = ap waits_cell waits_under_it
