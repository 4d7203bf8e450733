-- Each kind of delivery whose entries are proved to be legal here.
use Rattle.std.proofs.Common.{◌≡◌, ℕ, Option, Some, None, option_map, refl, subst}
use Rattle.std.specs.Prelude.{⊤, slice_get}
use Rattle.law_entries_variables.specs.Below.fr_base.declared.instruction.Instr.{Instr}
use Rattle.law_entries_variables.specs.Below.fr_base.declared.instruction.Instr.TheVariants as instr
use Rattle.law_entries_variables.specs.Below.thread_state.View.{ThreadState}
use Rattle.law_entries_variables.specs.Below.server_msgs.declared.message.Message.{Message}
use Rattle.law_entries_variables.specs.Below.server_msgs.declared.message.Message.TheVariants as message
use Rattle.law_entries_variables.specs.Below.server_model.declared.event.What.{What}
use Rattle.law_entries_variables.specs.Below.server_model.declared.event.What.TheVariants.{Step, Deliver, Evict, Migrate}
use Rattle.law_entries_variables.specs.Below.server_model.Servers.{Server, Cluster, server_at}
use Rattle.law_entries_variables.specs.Below.server_model.Work.{thread_in, then_some}
use Rattle.law_entries_variables.specs.Below.server_model.Events.{does}
use Rattle.law_entries_variables.specs.Below.coloured_heap.Heap.{Coloured}
use Rattle.law_entries_variables.specs.Below.coherent_memory.Colours.{StandsColoured}
use Rattle.law_copies_kept.specs.Below.coherent_types.ClusterTypes.{IsCoherent}
use Rattle.law_entries_variables.specs.Below.law_counts_sums.Kinds.{Kind, fetch, fetched, moving, evicts, migrates, message_kind, instr_kind, kind_at}
use Rattle.law_entries_variables.specs.Below.law_counts_sums.Laws.{Gives}
use Rattle.law_entries_variables.proofs.deliveries.Applied.{Led, delivered, keeps_by}
use Rattle.law_entries_reads.specs.served.Served.{CoherentEntriesLegal}
use Rattle.law_entries_reads.proofs.served.CoherentLegal.{KindKeeps, coherent_legal, moves_keep}
use Rattle.law_entries_reads.proofs.served.Serves.{fetch_legal}
use Rattle.law_entries_reads.proofs.served.Fills.{fetched_legal}
use Rattle.law_entries_reads.proofs.served.Gives.{move_legal}

abbrev pub IsServed : Kind → Type 0
IsServed fetch = ⊤
IsServed fetched = ⊤
IsServed moving = ⊤
IsServed kind = ⊥

some_same : {a b : Kind} → Some a ≡ Some b → b ≡ a
some_same e = cc

served_as : (a b : Kind) → Some a ≡ Some b → IsServed b → IsServed a
served_as a b q p = subst IsServed (some_same q) p

-- no step is one of these
no_step : (i : Instr) → IsServed (instr_kind i) → ⊥
no_step (instr.Let o) p = p
no_step (instr.Assign w o) p = p
no_step (instr.Read w t) p = p
no_step (instr.Borrow w) p = p
no_step (instr.BorrowMut w) p = p
no_step (instr.Box o) p = p
no_step (instr.Arith f a b) p = p
no_step (instr.Print o) p = p
no_step instr.Discard p = p
no_step instr.DropSlot p = p
no_step (instr.Spawn cs pc) p = p
no_step (instr.Join o) p = p
no_step (instr.Mutex o) p = p
no_step (instr.Dup w) p = p
no_step (instr.Lock w) p = p
no_step instr.Unlock p = p
no_step (instr.Par cs pc ds other) p = p
no_step instr.ParEnd p = p
no_step (instr.End o) p = p

module _ (k : Cluster) (coherent : IsCoherent k) (number : ℕ) (s : Server) (here : server_at k.servers number ≡ Some s) (c0 : Coloured) (is_coloured : StandsColoured k c0) where
  message_legal : (i : ℕ) (m : Message) → slice_get s.rest.inbox i ≡ Some m → IsServed (message_kind m) → Gives (Led k s c0) (does k.code k.options s (Deliver i))
  message_legal i (message.Fetch w o a t) q p = delivered k s i (message.Fetch w o a t) c0 q (fetch_legal k coherent number s here c0 is_coloured i w o a t q)
  message_legal i (message.Fetched w c t) q p = delivered k s i (message.Fetched w c t) c0 q (fetched_legal k coherent number s here c0 is_coloured i w c t q)
  message_legal i (message.Move w o a t) q p = delivered k s i (message.Move w o a t) c0 q (move_legal k coherent number s here c0 is_coloured i w o a t q)
  message_legal i (message.Moved w c t) q p = absurd p
  message_legal i (message.Drop w o) q p = absurd p
  message_legal i (message.Start t) q p = absurd p
  message_legal i (message.Migrate t) q p = absurd p
  message_legal i (message.Granted m v t) q p = absurd p
  message_legal i (message.Dupped m t) q p = absurd p
  message_legal i (message.Joined u v t) q p = absurd p
  message_legal i (message.Lock m a t) q p = absurd p
  message_legal i (message.Dup m a t) q p = absurd p
  message_legal i (message.Join u a t) q p = absurd p
  message_legal i (message.Unlock m v) q p = absurd p
  message_legal i (message.Release x) q p = absurd p
  message_legal i (message.Finished u v) q p = absurd p

  module _ (kind : Kind) (p : IsServed kind) where
    of_message : (i : ℕ) (o : Option Message) → slice_get s.rest.inbox i ≡ o → option_map message_kind o ≡ Some kind → Gives (Led k s c0) (does k.code k.options s (Deliver i))
    of_message i None h r = absurd (cc r)
    of_message i (Some m) h r = message_legal i m h (served_as (message_kind m) kind r p)

    of_instr : {X : Type 0} (o : Option Instr) → option_map instr_kind o ≡ Some kind → X
    of_instr None r = absurd (cc r)
    of_instr (Some i) r = absurd (no_step i (served_as (instr_kind i) kind r p))

    of_thread : {X : Type 0} (o : Option ThreadState) → then_some o (λ x. option_map instr_kind (slice_get k.code x.pc)) ≡ Some kind → X
    of_thread None r = absurd (cc r)
    of_thread (Some x) r = of_instr (slice_get k.code x.pc) r

    server_led : (w : What) → kind_at k w s ≡ Some kind → Gives (Led k s c0) (does k.code k.options s w)
    server_led (Step t) q = of_thread (thread_in s.threads t) q
    server_led (Deliver i) q = of_message i (slice_get s.rest.inbox i) refl q
    server_led (Evict w) q = absurd (served_as evicts kind q p)
    server_led (Migrate t target) q = absurd (served_as migrates kind q p)

kind_served : (kind : Kind) → IsServed kind → KindKeeps kind → CoherentEntriesLegal kind
kind_served kind p keeps = coherent_legal kind keeps (λ k number s w c0 coherent few here q is_coloured. server_led k coherent number s here c0 is_coloured kind p w q)

pub fetches_legal : CoherentEntriesLegal fetch
fetches_legal = kind_served fetch tt (λ k e q coherent few. keeps_by fetch tt tt k e q coherent.sound few)

pub copies_come_legal : CoherentEntriesLegal fetched
copies_come_legal = kind_served fetched tt (λ k e q coherent few. keeps_by fetched tt tt k e q coherent.sound few)

pub moves_legal : CoherentEntriesLegal moving
moves_legal = kind_served moving tt moves_keep
