-- Each event that is no step keeps what threads have passed, followed and wait for.
use Rattle.std.proofs.Common.{◌≡◌, ℕ, Option, Some, None, refl}
use Rattle.std.specs.Prelude.{slice_get, option_map}
use Rattle.law_counts_waiting.specs.Below.heap_partition.declared.value.Cell.{Cell}
use Rattle.law_counts_waiting.specs.Below.fr_base.declared.instruction.Instr.{Instr}
use Rattle.law_counts_waiting.specs.Below.fr_base.declared.instruction.Instr.TheVariants as instr
use Rattle.law_counts_waiting.specs.Below.thread_state.View.{ThreadState}
use Rattle.law_counts_waiting.specs.Below.server_msgs.declared.message.Message.{Message}
use Rattle.law_counts_waiting.specs.Below.server_msgs.declared.message.Message.TheVariants as message
use Rattle.law_counts_waiting.specs.Below.journal.View.{EntryView}
use Rattle.law_counts_waiting.specs.Below.server_model.declared.event.Event.{Event}
use Rattle.law_counts_waiting.specs.Below.server_model.declared.event.What.{What}
use Rattle.law_counts_waiting.specs.Below.server_model.declared.event.What.TheVariants.{Step, Deliver, Evict, Migrate}
use Rattle.law_counts_waiting.specs.Below.server_model.Servers.{Server, Cluster, server_at}
use Rattle.law_counts_waiting.specs.Below.server_model.Work.{then_some, thread_in}
use Rattle.law_counts_waiting.specs.Below.coherent_memory.Coherent.{Holds, passed_lie_here, place_followed, waits_in_turn}
use Rattle.law_counts_waiting.specs.Below.law_counts_sums.Kinds.{moved, message_kind, instr_kind, kind_at}
use Rattle.law_counts_waiting.specs.Below.law_words_kept.stays.Laws.{IsOfKind}
use Rattle.law_counts_waiting.specs.Below.law_words_paths.words.Unmoved.{Delivers}
use Rattle.law_walks_others.proofs.still.Sorts.{with_server, at_server}
use Rattle.law_walks_others.proofs.still.Such.{such_followed, such_lie, such_wait}
use Rattle.law_walks_others.specs.arrivals.Landed.{EachUnsteppedEventKeeps}
use Rattle.law_walks_others.proofs.arrivals.Kept.{all_followed, all_lie, all_wait}

same : {X : Type 0} {a b : X} → Some a ≡ Some b → a ≡ b
same e = cc

-- the message of such an event
pub record BringsIt (k : Cluster) (e : Event) : Type 0 where
  pub word : ℕ
  pub cell : Cell
  pub thread : ℕ
  pub delivers : Delivers k e (message.Moved word cell thread)

no_instr : (i : Instr) → instr_kind i ≡ moved → ⊥
no_instr instr.Unlock h = cc h
no_instr i h = absurd (cc h)

module _ (k : Cluster) (e : Event) (s : Server) (here : server_at k.servers e.server ≡ Some s) where
  by_message : (i : ℕ) (m : Message) → e.what ≡ Deliver i → slice_get s.rest.inbox i ≡ Some m → message_kind m ≡ moved → BringsIt k e
  by_message i (message.Moved w c t) is q f = record { word = w; cell = c; thread = t; delivers = record { place = i; what = is; server = s; there = here; message = q } }
  by_message i m is q f = absurd (cc f)

  by_what : (w : What) → e.what ≡ w → kind_at k w s ≡ Some moved → BringsIt k e
  by_what (Evict c) is q = absurd (cc (same q))
  by_what (Migrate t target) is q = absurd (cc (same q))
  by_what (Deliver i) is q = by (slice_get s.rest.inbox i) refl q
    where
      by : (o : Option Message) → slice_get s.rest.inbox i ≡ o → option_map message_kind o ≡ Some moved → BringsIt k e
      by None f g = absurd (cc g)
      by (Some m) f g = by_message i m is f (same g)
  by_what (Step t) is q = by (thread_in s.threads t) q
    where
      at : (o : Option Instr) → option_map instr_kind o ≡ Some moved → BringsIt k e
      at None f = absurd (cc f)
      at (Some i) f = absurd (no_instr i (same f))

      by : (o : Option ThreadState) → then_some o (λ x. option_map instr_kind (slice_get k.code x.pc)) ≡ Some moved → BringsIt k e
      by None f = absurd (cc f)
      by (Some y) f = at (slice_get k.code y.pc) f

  pub brings_it : IsOfKind moved k e → BringsIt k e
  brings_it q = by_what e.what refl (at_server moved k e q s here)

pub unstepped_wait : EachUnsteppedEventKeeps waits_in_turn
unstepped_wait moved is k e q co few =
    with_server (λ (d : Cluster × EntryView). Holds d.0 waits_in_turn) k e (λ s here. let b = brings_it k e s here q in all_wait k e b.word b.cell b.thread b.delivers co few)
unstepped_wait kind is k e q co few = such_wait kind is k e q co few

pub unstepped_followed : EachUnsteppedEventKeeps place_followed
unstepped_followed moved is k e q co few =
    with_server (λ (d : Cluster × EntryView). Holds d.0 place_followed) k e (λ s here. let b = brings_it k e s here q in all_followed k e b.word b.cell b.thread b.delivers co few)
unstepped_followed kind is k e q co few = such_followed kind is k e q co few

pub unstepped_lie : EachUnsteppedEventKeeps passed_lie_here
unstepped_lie moved is k e q co few =
    with_server (λ (d : Cluster × EntryView). Holds d.0 passed_lie_here) k e (λ s here. let b = brings_it k e s here q in all_lie k e b.word b.cell b.thread b.delivers co few)
unstepped_lie kind is k e q co few = such_lie kind is k e q co few
