-- An event that is no step does the same in a code without starts of threads; so a fact on threads needs nothing of these there.
use Rattle.std.proofs.Common.{◌≡◌, ℕ, if◌then◌else◌, map, List, Option, Some, None, option_map, refl, sym, ap, subst, ◌∙◌, arith}
use Rattle.std.specs.Prelude.{slice_get}
use Rattle.std.specs.Bool.{⊤}
use Rattle.std.proofs.lemmas.Option.{slice_get-map}
use Rattle.law_length_asks.specs.Below.law_walks_others.Below.fr_base.declared.instruction.Instr.{Instr}
use Rattle.law_length_asks.specs.Below.law_walks_others.Below.fr_base.declared.instruction.Instr.TheVariants as instr
use Rattle.law_length_asks.specs.Below.law_walks_others.Below.fr_base.declared.settings.Options.{Options}
use Rattle.law_length_asks.specs.Below.law_walks_others.Below.heap_partition.declared.value.Cell.{Cell}
use Rattle.law_length_asks.specs.Below.law_walks_others.Below.journal.View.{EntryView}
use Rattle.law_length_asks.specs.Below.law_walks_others.Below.journal.declared.act.Act.TheVariants as act
use Rattle.law_length_asks.specs.Below.law_walks_others.Below.server_msgs.declared.message.Message.{Message}
use Rattle.law_length_asks.specs.Below.law_walks_others.Below.server_msgs.declared.message.Message.TheVariants as message
use Rattle.law_length_asks.specs.Below.law_walks_others.Below.server_model.declared.event.Event.{Event}
use Rattle.law_length_asks.specs.Below.law_walks_others.Below.server_model.declared.event.What.{What}
use Rattle.law_length_asks.specs.Below.law_walks_others.Below.server_model.declared.event.What.TheVariants.{Step, Deliver, Evict, Migrate}
use Rattle.law_length_asks.specs.Below.law_walks_others.Below.server_model.Servers.{Server, Cluster, server_at}
use Rattle.law_length_asks.specs.Below.law_walks_others.Below.server_model.Work.{Hand, Site, then_some, in_hand, put_back, at_thread}
use Rattle.law_length_asks.specs.Below.law_walks_others.Below.server_model.NewWords.{issue_placed}
use Rattle.law_length_asks.specs.Below.law_walks_others.Below.server_model.Objects.{waits_for_cell, arrived, instr_access, deliver_moved}
use Rattle.law_length_asks.specs.Below.law_walks_others.Below.server_model.Events.{enabled, left_by, received, deliver_message, does}
use Rattle.law_length_asks.specs.Below.law_walks_others.Below.server_model.Clusters.{done_at, act_at, apply}
use Rattle.law_length_asks.specs.Below.law_walks_others.Below.coherent_memory.Names.{tot}
use Rattle.law_length_asks.specs.Below.law_walks_others.Below.coherent_memory.Things.{server_things, things_of}
use Rattle.law_length_asks.specs.Below.law_walks_others.Below.coherent_memory.Follow.{Standing, threads_in}
use Rattle.law_length_asks.specs.Below.law_walks_others.Below.coherent_memory.Coherent.{IsSound}
use Rattle.law_length_asks.specs.Below.law_walks_others.Below.law_counts_sums.Laws.{Gives, FewEvents}
use Rattle.law_length_asks.proofs.Below.law_walks_others.Below.law_counts_sums.Results.{then_gives, over_gives, test_gives, weaker}
use Rattle.law_length_asks.proofs.Below.law_walks_others.Below.law_counts_sums.KnownSound.{on_standing, sum_standing}
use Rattle.law_length_asks.proofs.Below.law_walks_others.Below.law_counts_sums.Events.{tot-server}
use Rattle.law_length_asks.proofs.Below.law_walks_others.Below.law_counts_sums.Applied.{handed_on}
use Rattle.law_length_asks.proofs.Below.law_walks_others.Below.law_counts_sums.Sending.{each_event_sends}
use Rattle.law_length_asks.proofs.Below.law_walks_others.Below.law_counts_things.things.Mail.{StartsAt}
use Rattle.law_length_asks.proofs.Below.law_walks_others.Below.law_counts_things.things.Threads.{Held}
use Rattle.law_length_asks.proofs.Below.law_walks_others.Below.law_counts_things.things.Handed.{Stood as StandsThere, InParcel, from_server, to_server}
use Rattle.law_length_asks.proofs.Below.law_walks_others.Below.law_counts_waiting.waits.Fates.{Fates, doing}

-- in place of a start the end of a pair
abbrev pub unstarted : Instr → Instr
unstarted (instr.Spawn cs pc) = instr.ParEnd
unstarted (instr.Par cs pc ds other) = instr.ParEnd
unstarted i = i

abbrev pub quiet : List Instr → List Instr
quiet code = map unstarted code

starts_none : (i : Instr) (pc : ℕ) → StartsAt (unstarted i) pc → ⊥
starts_none (instr.Spawn cs q) pc s = s
starts_none (instr.Par cs q ds other) pc s = s
starts_none i pc s = s

-- nothing starts there
pub no_start : (code : List Instr) (n : ℕ) (i : Instr) (pc : ℕ) → slice_get (quiet code) n ≡ Some i → StartsAt i pc → ⊥
no_start code n i pc at starts = by (slice_get code n) (sym (slice_get-map unstarted code n) ∙ at)
  where
    by : (o : Option Instr) → option_map unstarted o ≡ Some i → ⊥
    by None e = cc e
    by (Some j) e = let same : unstarted j ≡ i = cc in starts_none j pc (subst (λ q. StartsAt q pc) (sym same) starts)

-- the event is no step
abbrev pub NoStep : What → Type 0
NoStep (Step t) = ⊥
NoStep w = ⊤

-- WHAT IT DOES

access_quiet : (h : Hand) (o : Option Instr) → instr_access h (option_map unstarted o) ≡ instr_access h o
access_quiet h None = refl
access_quiet h (Some (instr.Spawn cs pc)) = refl
access_quiet h (Some (instr.Par cs pc ds other)) = refl
access_quiet h (Some i) = refl

pub moved_quiet : (code : List Instr) (old : ℕ) (c : Cell) (h : Hand) → deliver_moved (quiet code) old c h ≡ deliver_moved code old c h
moved_quiet code old c h =
    ap (λ a. if waits_for_cell h.thread.phase old then then_some (issue_placed (act.Take c.object old) c h.work) (λ n. arrived a old n.word (record h { work = n.work })) else None)
    (ap (instr_access h) (slice_get-map unstarted code h.thread.pc) ∙ access_quiet h (slice_get code h.thread.pc))

at_quiet : (code : List Instr) (old : ℕ) (c : Cell) (t : ℕ) (x : Site) → at_thread t (deliver_moved (quiet code) old c) x ≡ at_thread t (deliver_moved code old c) x
at_quiet code old c t x = by (in_hand x t)
  where
    by : (o : Option Hand) → then_some o (λ h. option_map (put_back x.threads) (deliver_moved (quiet code) old c h)) ≡ then_some o (λ h. option_map (put_back x.threads) (deliver_moved code old c h))
    by None = refl
    by (Some h) = ap (option_map (put_back x.threads)) (moved_quiet code old c h)

message_quiet : (code : List Instr) (m : Message) (x : Site) → deliver_message (quiet code) m x ≡ deliver_message code m x
message_quiet code (message.Moved old c t) x = at_quiet code old c t x
message_quiet code m x = refl

does_quiet : (code : List Instr) (o : Options) (s : Server) (w : What) → NoStep w → does (quiet code) o s w ≡ does code o s w
does_quiet code o s (Step t) p = absurd p
does_quiet code o s (Deliver i) p = by (slice_get s.rest.inbox i)
  where
    by : (m : Option Message) → option_map (left_by s.events None None) (then_some m (λ q. deliver_message (quiet code) q (received i s))) ≡ option_map (left_by s.events None None) (then_some m (λ q. deliver_message code q (received i s)))
    by None = refl
    by (Some m) = ap (option_map (left_by s.events None None)) (message_quiet code m (received i s))
does_quiet code o s (Evict w) p = refl
does_quiet code o s (Migrate t target) p = refl

-- THE CLUSTER

-- a weight of threads that such an event keeps at nothing at its server is nothing over the cluster, once its messages are handed over
module _ (f : Standing → ℕ) (k : Cluster) (e : Event) (sound : IsSound k) (few : FewEvents k) (still : NoStep e.what) (none : tot f (threads_in (things_of k)) ≡ 0)
    (go : (s : Server) → server_at k.servers e.server ≡ Some s → Fates (quiet k.code) k.options s e.what (StandsThere f s.rest.number) (InParcel f)) where
  abbrev Weightless : Cluster → Type 0
  Weightless c = tot (on_standing f) (things_of c) ≡ 0

  acted : Gives (λ (d : Cluster × EntryView). Weightless d.0) (act_at k e)
  acted =
      let g = on_standing f in
      let all : tot g (things_of k) ≡ 0 = omega (arith, sum_standing f (things_of k), none) in
      then_gives (λ (d : Cluster × EntryView). Weightless d.0) (server_at k.servers e.server) _ (λ s here.
      let before : tot g (server_things s) ≡ 0 = omega (arith, all, (tot-server g k.servers e.server s s here).0) in
      over_gives (λ (r : Server × EntryView). Held (StandsThere f s.rest.number) (InParcel f) s.rest.number s.rest.outbox r.0) (λ (d : Cluster × EntryView). Weightless d.0) (done_at k e.what s) _
      (test_gives (λ (r : Server × EntryView). Held (StandsThere f s.rest.number) (InParcel f) s.rest.number s.rest.outbox r.0) (enabled k.options s e.what) _ (λ able.
      subst (Gives (λ (r : Server × EntryView). Held (StandsThere f s.rest.number) (InParcel f) s.rest.number s.rest.outbox r.0)) (does_quiet k.code k.options s e.what still)
      (doing (quiet k.code) k.options s e.what (StandsThere f s.rest.number) (InParcel f) (go s here) (from_server f s before) able)))
      (λ r held. omega (arith, all, (tot-server g k.servers e.server s r.0 here).0, (tot-server g k.servers e.server s r.0 here).1, to_server f s.rest.number s.rest.outbox r.0 held)))

  pub fated_quiet : Gives (λ (d : Cluster × EntryView). tot f (threads_in (things_of d.0)) ≡ 0) (apply k e)
  fated_quiet =
      weaker (λ (d : Cluster × EntryView). Weightless d.0) (λ (d : Cluster × EntryView). tot f (threads_in (things_of d.0)) ≡ 0) (apply k e)
      (handed_on Weightless (λ c a b same g. omega (arith, g, same (on_standing f))) k e (each_event_sends k e sound few) acted) (λ d g. omega (arith, g, sum_standing f (things_of d.0)))
