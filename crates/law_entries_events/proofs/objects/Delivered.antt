-- An event of the kind of a message is the delivery of one.
use Rattle.std.proofs.Common.{◌≡◌, ℕ, Option, Some, None, option_map, refl}
use Rattle.std.specs.Prelude.{slice_get}
use Rattle.law_runs_whole.specs.Below.law_words_ends.Below.fr_base.declared.instruction.Instr.{Instr}
use Rattle.law_runs_whole.specs.Below.law_words_ends.Below.thread_state.View.{ThreadState}
use Rattle.law_runs_whole.specs.Below.law_words_ends.Below.server_msgs.declared.message.Message.{Message}
use Rattle.law_runs_whole.specs.Below.server_model.declared.event.What.{What}
use Rattle.law_runs_whole.specs.Below.server_model.declared.event.What.TheVariants.{Step, Deliver, Evict, Migrate}
use Rattle.law_runs_whole.specs.Below.server_model.Servers.{Server, Cluster}
use Rattle.law_runs_whole.specs.Below.server_model.Work.{thread_in, then_some}
use Rattle.law_runs_whole.specs.Below.law_counts_sums.Kinds.{Kind, evicts, migrates, message_kind, instr_kind, kind_at}

-- the message number so much of the server, of that kind
pub record DeliveryOf (s : Server) (kind : Kind) (w : What) : Type 0 where
  pub place : ℕ
  pub what : w ≡ Deliver place
  pub message : Message
  pub waits : slice_get s.rest.inbox place ≡ Some message
  pub sort : message_kind message ≡ kind

some_kind : {a b : Kind} → Some a ≡ Some b → a ≡ b
some_kind e = cc

module _ (k : Cluster) (s : Server) (kind : Kind) (no_step : (i : Instr) → instr_kind i ≡ kind → ⊥) (no_copy : evicts ≡ kind → ⊥) (no_thread : migrates ≡ kind → ⊥) where
  of_message : (i : ℕ) (o : Option Message) → slice_get s.rest.inbox i ≡ o → option_map message_kind o ≡ Some kind → DeliveryOf s kind (Deliver i)
  of_message i None h r = absurd (cc r)
  of_message i (Some m) h r = record { place = i; what = refl; message = m; waits = h; sort = some_kind r }

  of_instr : {X : Type 0} (o : Option Instr) → option_map instr_kind o ≡ Some kind → X
  of_instr None r = absurd (cc r)
  of_instr (Some i) r = absurd (no_step i (some_kind r))

  of_thread : {X : Type 0} (o : Option ThreadState) → then_some o (λ x. option_map instr_kind (slice_get k.code x.pc)) ≡ Some kind → X
  of_thread None r = absurd (cc r)
  of_thread (Some x) r = of_instr (slice_get k.code x.pc) r

  pub delivery_of : (w : What) → kind_at k w s ≡ Some kind → DeliveryOf s kind w
  delivery_of (Step t) q = of_thread (thread_in s.threads t) q
  delivery_of (Deliver i) q = of_message i (slice_get s.rest.inbox i) refl q
  delivery_of (Evict w) q = absurd (no_copy (some_kind q))
  delivery_of (Migrate t target) q = absurd (no_thread (some_kind q))
