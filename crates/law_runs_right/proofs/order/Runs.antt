-- What is said of a cluster to which a run leads holds in whatever order its messages wait.
use Rattle.std.proofs.Common.{◌≡◌, ◌+◌, List, [], sym, ap, subst, ◌∙◌, arith}
use Rattle.law_runs_whole.specs.Below.fr_code.Machine.{CodeState}
use Rattle.law_runs_whole.specs.Below.journal.View.{EntryView}
use Rattle.law_runs_whole.specs.Below.server_model.Servers.{Server, Cluster}
use Rattle.law_runs_whole.specs.Below.server_model.Clusters.{outboxes}
use Rattle.law_runs_whole.specs.Below.coherent_memory.Things.{servers_things, things_of}
use Rattle.law_runs_whole.specs.Below.coherent_memory.Sight.{sight}
use Rattle.law_runs_whole.specs.Below.coherent_memory.Naming.{events_of}
use Rattle.law_runs_whole.specs.Below.coherent_memory.OneHeap.{one_heap}
use Rattle.law_runs_whole.specs.Below.coherent_memory.LeftBy.{LeadsTo, messages_of}
use Rattle.law_runs_whole.specs.Below.law_runs_coherent.Below.coherent_types.ClusterTypes.{IsCoherent}
use Rattle.law_runs_whole.specs.Below.journal.Journals.{order, labels}
use Rattle.law_runs_whole.specs.Below.coloured_heap.Figures.{deliveries}
use Rattle.law_runs_whole.specs.Below.coloured_heap.Sends.{all_messages}
use Rattle.law_runs_whole.specs.Below.law_counts_sums.Laws.{FewEvents}
use Rattle.law_runs_whole.specs.runs.Runs.{PlainlyLeft}
use Rattle.law_runs_whole.specs.Below.code_meaning.LeftByItsCode.{LeftByItsCode}
use Rattle.law_runs_whole.specs.Below.code_meaning.OneHeap.{plain_run}
use Rattle.law_runs_whole.specs.going.Going.{IsOnItsWay}
use Rattle.law_runs_whole.proofs.going.Going.{going_has_result}
use Rattle.law_runs_whole.proofs.ends.Left.{finished_is_empty}
use Rattle.law_runs_order.proofs.Below.law_runs_rounds.rounds.Clusters.{sent_too}
use Rattle.law_runs_order.specs.things.SameThings.{Reordered, AreSameBeside}
use Rattle.law_runs_order.proofs.things.Sound.{with_servers}
use Rattle.law_runs_order.proofs.types.Coherent.{same_is, heap_too}
use Rattle.law_runs_right.proofs.colours.Coloured.{coloured_too}
use Rattle.law_runs_order.proofs.messages.InOrder.{same_things, coherent_in_any_order}
use Rattle.law_runs_right.specs.order.Laws.{RightInAnyOrder, LeftInAnyOrder}

-- OF A CLUSTER AND THE SAME ONE WITH OTHER SERVERS

module _ (k : Cluster) (servers : List Server) (same : AreSameBeside k.servers servers) (r : Reordered (things_of k) (servers_things servers)) (es : List EntryView) where
  abbrev z : Cluster
  z = record k { servers = servers }

  heaps : IsCoherent z → one_heap z ≡ one_heap k
  heaps c = sym (same_is (one_heap k) (one_heap z) (heap_too k servers same r c.sound))

  leads : IsCoherent z → LeadsTo (plain_run k.code) (order es) (one_heap z) (labels es) → LeadsTo (plain_run k.code) (order es) (one_heap k) (labels es)
  leads c = subst (λ (s : CodeState). LeadsTo (plain_run k.code) (order es) s (labels es)) (heaps c)

  pub messages_same : messages_of (sight k) ≡ messages_of (sight z)
  messages_same = r.sums _

  pub plainly_too : IsCoherent z → PlainlyLeft z es → PlainlyLeft k es
  plainly_too c h = record { plain = leads c h.plain; labelled = h.labelled; printed = h.printed; events = r.sums _ ∙ h.events }

  pub left_too : IsCoherent z → LeftByItsCode z es → LeftByItsCode k es
  left_too c h = record {
    plain = leads c h.plain;
    labelled = h.labelled;
    reached = h.reached;
    coloured = record { state = h.coloured.state; legal = h.coloured.legal; stands = coloured_too k servers r c.sound h.coloured.state h.coloured.stands };
    events = r.sums _ ∙ h.events;
    messages = ap (λ n. n + deliveries es) messages_same ∙ h.messages;
  }

  few_too : FewEvents z → FewEvents k
  few_too few = let e : events_of (sight k) ≡ events_of (sight z) = r.sums _ in omega (arith, e, few)

  -- a coherent cluster without a message in an outbox goes on where it is going, and where it is finished nothing is left
  pub way_too : IsCoherent k → FewEvents z → outboxes k.servers ≡ [] → IsOnItsWay k
  way_too co few sent = record { sent = sent; next = λ e. going_has_result k co (few_too few) sent e; left = λ e. finished_is_empty k co.sound e }

pub left_in_any_order : LeftInAnyOrder
left_in_any_order k z es same c h =
    let s = same_things k z same in
    let e = with_servers k z s in
    left_too k z.servers s.servers s.things es (subst IsCoherent e c) (subst (λ (y : Cluster). LeftByItsCode y es) e h)

pub right_in_any_order : RightInAnyOrder
right_in_any_order g k z es same few h =
    let s = same_things k z same in
    let e = with_servers k z s in
    let co : IsCoherent (record k { servers = z.servers }) = subst IsCoherent e h.coherent in
    let here : IsCoherent k = coherent_in_any_order k z same h.coherent in
    record {
      coherent = here;
      left = plainly_too k z.servers s.servers s.things es co (subst (λ (y : Cluster). PlainlyLeft y es) e h.left);
      alike = h.alike;
      messages = ap (λ n. n + deliveries es) (messages_same k z.servers s.servers s.things es) ∙ (let m : messages_of (sight (record k { servers = z.servers })) + deliveries es ≡ all_messages es = subst (λ (y : Cluster). messages_of (sight y) + deliveries es ≡ all_messages es) e h.messages in m);
      on = way_too k z.servers s.servers s.things es here (subst FewEvents e few) (sym (sent_too k.servers z.servers same.servers) ∙ h.on.sent);
    }
