use Rattle.std.proofs.Common.{rules, ◌≡◌, ◌++◌, ◌∷◌, [], sym, ap, ◌∙◌, arith}
use Rattle.std.specs.Vec.Iter.{into_iter_items}
use Rattle.std.proofs.lemmas.List.{append_assoc, append-nil}
use Rattle.drust_run.specs.Desks.{choices_at, entries_at, servers_at}
use Rattle.drust_run.proofs.SeatLemmas.{moved, nothing}
use Rattle.drust_run.proofs.seats.rise.Goals as goal

pub desks-init : goal.desks-init
desks-init c =
    let whole : into_iter_items c.into_iter-desk-iterator.result ≡ c.args.desks.items = search rules in
    let servers : c.in_ok-servers.servers.items ≡ [] = search rules in
    let choices : c.in_ok-choices.choices.items ≡ [] = search rules in
    record {
      servers = ap (λ l. l ++ servers_at (into_iter_items c.into_iter-desk-iterator.result)) servers ∙ ap servers_at whole;
      choices = ap (λ l. l ++ choices_at (into_iter_items c.into_iter-desk-iterator.result)) choices ∙ ap choices_at whole;
      journal = ap (λ l. c.args.journal.now.items ++ entries_at l) whole;
    }

pub desks-preserved : goal.desks-preserved
desks-preserved c =
    let rest = into_iter_items c.next.new.self in
    let inv = c.desks.invariant in
    let first : into_iter_items c.desks.desk-iterator ≡ c.in-Some.desk ∷ rest = search rules in
    record {
      servers = ap (λ l. l ++ servers_at rest) c.in_ok-push.ensures.items ∙ moved c.desks.servers.items (servers_at rest) c.in-Some.desk.server ∙ ap (λ l. c.desks.servers.items ++ servers_at l) (sym first) ∙ inv.servers;
      choices = ap (λ l. l ++ choices_at rest) c.in_ok-push-2.ensures.items ∙ moved c.desks.choices.items (choices_at rest) c.in-Some.desk.choice ∙ ap (λ l. c.desks.choices.items ++ choices_at l) (sym first) ∙ inv.choices;
      journal =
          ap (λ l. l ++ entries_at rest) c.in_ok-append.ensures.items ∙ append_assoc c.desks.journal.items c.in-Some.desk.entries.items (entries_at rest)
          ∙ ap (λ l. c.desks.journal.items ++ entries_at l) (sym first) ∙ inv.journal;
    }

pub returns-clause-servers : goal.returns-clause-servers
returns-clause-servers c =
    let none : into_iter_items c.desks.desk-iterator ≡ [] = nothing (into_iter_items c.desks.desk-iterator) (omega (arith, c.desks.desk-iterator.rest.ok.0, c.in-None.ensures.steps.0)) in
    sym (append-nil c.desks.servers.items) ∙ ap (λ l. c.desks.servers.items ++ servers_at l) (sym none) ∙ c.desks.invariant.servers

pub returns-clause-choices : goal.returns-clause-choices
returns-clause-choices c =
    let none : into_iter_items c.desks.desk-iterator ≡ [] = nothing (into_iter_items c.desks.desk-iterator) (omega (arith, c.desks.desk-iterator.rest.ok.0, c.in-None.ensures.steps.0)) in
    sym (append-nil c.desks.choices.items) ∙ ap (λ l. c.desks.choices.items ++ choices_at l) (sym none) ∙ c.desks.invariant.choices

pub returns-clause-journal : goal.returns-clause-journal
returns-clause-journal c =
    let none : into_iter_items c.desks.desk-iterator ≡ [] = nothing (into_iter_items c.desks.desk-iterator) (omega (arith, c.desks.desk-iterator.rest.ok.0, c.in-None.ensures.steps.0)) in
    sym (append-nil c.desks.journal.items) ∙ ap (λ l. c.desks.journal.items ++ entries_at l) (sym none) ∙ c.desks.invariant.journal
