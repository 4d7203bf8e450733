-- A step whose place is ready as it is, and that makes nothing new, keeps it that each word was issued.
use Rattle.std.proofs.Common.{◌≡◌, Some, sym, subst, ◌∙◌}
use Rattle.law_walks_own.specs.Below.journal.View.{EntryView}
use Rattle.law_walks_own.specs.Below.server_model.declared.event.Event.{Event}
use Rattle.law_walks_own.specs.Below.server_model.declared.event.What.TheVariants.{Step}
use Rattle.law_walks_own.specs.Below.server_model.Servers.{Server, server_at}
use Rattle.law_walks_own.specs.Below.server_model.Work.{thread_in}
use Rattle.law_walks_own.specs.Below.server_model.Events.{does}
use Rattle.law_walks_own.specs.Below.law_counts_sums.Laws.{Gives}
use Rattle.law_walks_own.proofs.Below.law_counts_sums.Results.{weaker}
use Rattle.law_walks_own.proofs.Below.law_counts_things.names.Sums.{base_of}
use Rattle.law_words_issued.specs.stands.Issuing.{IsReady, StepsKeepIssued}
use Rattle.law_words_issued.proofs.stands.Words.{only}
use Rattle.law_words_issued.proofs.stands.Does.{ServerKept, stepping}
use Rattle.law_words_issued.proofs.stands.Events.{was, Good, same_good, fits, keeps_issued}

same_server : {x y : Server} → Some x ≡ Some y → x ≡ y
same_server e = cc

pub steps_keep_issued : StepsKeepIssued
steps_keep_issued k number t s y i before sound few here at code none ready = keeps_issued k e sound few (λ z there on. well z (same_server (sym here ∙ there)) there) before
  where
    e : Event
    e = record { server = number; what = Step t }

    well : (z : Server) → s ≡ z → (there : server_at k.servers number ≡ Some z) → Gives (Good k e sound few z there) (does k.code k.options z (Step t))
    well z same there =
        weaker (λ (r : Server × EntryView). ServerKept (only (was k e sound few)) (base_of z) z.rest.partition r.0) (Good k e sound few z there) (does k.code k.options z (Step t))
        (stepping (was k e sound few) (base_of z) z.rest.partition k.code k.options z (fits k e sound few z there) t y i (subst (λ (x : Server). thread_in x.threads t ≡ Some y) same at) code none (subst (λ (x : Server). IsReady x y i) same ready))
        (λ r g. same_good k e sound few z there r g)
