-- An event sends at most two messages to other servers, whatever event it is and wherever it is done.
use Rattle.std.proofs.Common.{ℕ, true, List, Option, Some, None, arith}
use Rattle.std.specs.Prelude.{slice_get, option_map}
use Rattle.law_counts_things.specs.Below.fr_base.declared.instruction.Instr.{Instr}
use Rattle.law_counts_things.specs.Below.fr_base.declared.settings.Options.{Options}
use Rattle.law_counts_things.specs.Below.read_cache.Cache.{can_evict}
use Rattle.law_counts_things.specs.Below.thread_state.View.{ThreadState}
use Rattle.law_counts_things.specs.Below.server_msgs.declared.message.Message.TheVariants as message
use Rattle.law_counts_things.specs.Below.journal.View.{EntryView}
use Rattle.law_counts_things.specs.Below.server_model.declared.event.What.TheVariants.{Step, Deliver, Evict, Migrate}
use Rattle.law_counts_things.specs.Below.server_model.Servers.{Rest, Server}
use Rattle.law_counts_things.specs.Below.server_model.Work.{Work, Hand, then_some, thread_in, beside_threads}
use Rattle.law_counts_things.specs.Below.migration.Packing.{pack_thread}
use Rattle.law_counts_things.specs.Below.server_model.Moving.{migrate}
use Rattle.law_counts_things.specs.Below.server_model.Events.{Stepped, begin_work, begin_at, left_by, received, deliver_message, deliver, evict_copy, step, step_in, stepped, does}
use Rattle.law_counts_things.specs.Below.law_counts_sums.Laws.{Gives}
use Rattle.law_counts_things.proofs.Below.law_counts_sums.Results.{map_gives, test_gives, over_gives, then_gives}
use Rattle.law_counts_limits.specs.limits.Sending.{SendsFew, EventsSendFew}
use Rattle.law_counts_limits.proofs.limits.Sent.{at_most, sends_none, sends_more}
use Rattle.law_counts_limits.proofs.limits.Steps.{step_sends}
use Rattle.law_counts_limits.proofs.limits.Deliveries.{SentSite, message_sends}

module _ (code : List Instr) (o : Options) (s : Server) where
  abbrev Done : Server × EntryView → Type 0
  Done d = SendsFew 2 s.rest d.0.rest

  abbrev SentStep : Stepped → Type 0
  SentStep d = SendsFew 2 s.rest d.hand.work.rest

  stepping : (t : ℕ) → Gives Done (does code o s (Step t))
  stepping t = by (thread_in s.threads t)
    where
      by : (x : Option ThreadState) → Gives Done (option_map (stepped s) (then_some (option_map (λ y. record { work = begin_work s.rest; thread = y }) x) (step_in code o.servers)))
      by None = tt
      by (Some y) =
          let h : Hand = record { work = begin_work s.rest; thread = y } in
          over_gives SentStep Done (step_in code o.servers h) (stepped s)
          (then_gives SentStep (slice_get code y.pc) (λ i. step o.servers i h) (λ i q. step_sends s.rest o.servers i h (sends_none s.rest))) (λ d b. b)

  rest_less : (r : Rest) → SendsFew 1 s.rest r → SendsFew 2 s.rest r
  rest_less r g = at_most 1 2 s.rest r.number r.outbox (omega arith) g

  delivering : (i : ℕ) → Gives Done (does code o s (Deliver i))
  delivering i =
      over_gives (SentSite s.rest) Done (deliver code i s) (left_by s.events None None)
      (then_gives (SentSite s.rest) (slice_get s.rest.inbox i) (λ m. deliver_message code m (received i s)) (λ m q. message_sends s.rest code m (received i s) (sends_none s.rest))) (λ x b. rest_less x.work.rest b)

  evicting : (w : ℕ) → Gives Done (does code o s (Evict w))
  evicting w =
      over_gives (SentSite s.rest) Done (beside_threads (evict_copy w) (begin_at s)) (left_by s.events None None)
      (over_gives (λ (x : Work). SendsFew 0 s.rest x.rest) (SentSite s.rest) (evict_copy w (begin_work s.rest)) _
      (test_gives (λ (x : Work). SendsFew 0 s.rest x.rest) (can_evict s.rest.cache w) _ (λ q. sends_none s.rest)) (λ x b. at_most 0 1 s.rest x.rest.number x.rest.outbox (omega arith) b)) (λ x b. rest_less x.work.rest b)

  leaving : (t target : ℕ) → Gives Done (does code o s (Migrate t target))
  leaving t target =
      over_gives (SentSite s.rest) Done (migrate t target (begin_at s)) (left_by s.events (Some t) None)
      (then_gives (SentSite s.rest) (thread_in s.threads t) _ (λ y q. map_gives (SentSite s.rest) (pack_thread (record y { moved_since_step = true }) s.rest.cache) _ (λ p z.
      sends_more 0 s.rest (record s.rest { cache = p.1 }) target (message.Migrate p.0) (sends_none s.rest)))) (λ x b. rest_less x.work.rest b)

pub events_send_few : EventsSendFew
events_send_few code o s (Step t) = stepping code o s t
events_send_few code o s (Deliver i) = delivering code o s i
events_send_few code o s (Evict w) = evicting code o s w
events_send_few code o s (Migrate t target) = leaving code o s t target
