use Rattle.std.proofs.Common.{rules, ◌≡◌, ◌≤◌, ◌++◌, ◌∷◌, [], false, length, sym, ap, subst, ◌∙◌, arith}
use Rattle.std.specs.Vec.Iter.{into_iter_items}
use Rattle.std.proofs.lemmas.List.{append-nil}
use Rattle.drust_run.specs.Desks.{AreFresh, choices_at, servers_at}
use Rattle.drust_run.specs.declared.desk.Desk.{Desk}
use Rattle.drust_run.proofs.SeatLemmas.{servers_last, choices_last, fresh_last, length_last, nothing}
use Rattle.drust_run.proofs.seats.seat.Goals as goal

pub servers-init : goal.servers-init
servers-init c =
    let servers : into_iter_items c.into_iter-server-iterator.result ≡ c.args.servers.items = search rules in
    let choices : into_iter_items c.into_iter-choices.result ≡ c.args.choices.items = search rules in
    let none : c.in_ok-desks.desks.items ≡ [] = search rules in
    record {
      servers = ap (λ l. servers_at l ++ into_iter_items c.into_iter-server-iterator.result) none ∙ servers;
      choices = ap (λ l. choices_at l ++ into_iter_items c.into_iter-choices.result) none ∙ choices;
      as_many = ap length choices ∙ c.requires.as_many ∙ ap length (sym servers);
      few = omega (arith, ap length none, ap length servers, c.requires.few);
      fresh = subst AreFresh (sym none) tt;
    }

pub unreachable-requires : goal.unreachable-requires
unreachable-requires c =
    let first : into_iter_items c.servers.server-iterator ≡ c.in-Some.server ∷ into_iter_items c.next.new.self = search rules in
    let none : into_iter_items c.servers.choices ≡ [] = search rules in
    let bad : 1 ≤ 0 = omega (arith, c.servers.invariant.as_many, ap length first, ap length none) in
    omega (arith, bad)

pub servers-preserved : goal.servers-preserved
servers-preserved c =
    let ds = c.servers.desks.items in
    let inv = c.servers.invariant in
    let servers = into_iter_items c.next.new.self in
    let choices = into_iter_items c.next-in-servers.new.self in
    let d : Desk = record { number = c.len-in-servers.result; server = c.in-Some.server; choice = c.in-Some-next.choice; entries = c.new.result; lacks = false } in
    let first : into_iter_items c.servers.server-iterator ≡ c.in-Some.server ∷ servers = search rules in
    let second : into_iter_items c.servers.choices ≡ c.in-Some-next.choice ∷ choices = search rules in
    let pushed : c.push.new.self.items ≡ ds ++ d ∷ [] = c.in_ok-push.ensures.items in
    let fresh : c.new.result.items ≡ [] = search rules in
    record {
      servers = ap (λ l. servers_at l ++ servers) pushed ∙ servers_last ds d servers ∙ ap (λ l. servers_at ds ++ l) (sym first) ∙ inv.servers;
      choices = ap (λ l. choices_at l ++ choices) pushed ∙ choices_last ds d choices ∙ ap (λ l. choices_at ds ++ l) (sym second) ∙ inv.choices;
      as_many = omega (arith, inv.as_many, ap length first, ap length second);
      few = omega (arith, inv.few, ap length first, ap length pushed, length_last ds d);
      fresh = subst AreFresh (sym pushed) (fresh_last ds d inv.fresh fresh);
    }

pub returns-clause-servers : goal.returns-clause-servers
returns-clause-servers c =
    let none : into_iter_items c.servers.server-iterator ≡ [] = nothing (into_iter_items c.servers.server-iterator) (omega (arith, c.servers.server-iterator.rest.ok.0, c.in-None.ensures.steps.0)) in
    sym (append-nil (servers_at c.servers.desks.items)) ∙ ap (λ l. servers_at c.servers.desks.items ++ l) (sym none) ∙ c.servers.invariant.servers

pub returns-clause-choices : goal.returns-clause-choices
returns-clause-choices c =
    let none : into_iter_items c.servers.server-iterator ≡ [] = nothing (into_iter_items c.servers.server-iterator) (omega (arith, c.servers.server-iterator.rest.ok.0, c.in-None.ensures.steps.0)) in
    let empty : into_iter_items c.servers.choices ≡ [] = nothing (into_iter_items c.servers.choices) (c.servers.invariant.as_many ∙ ap length none) in
    sym (append-nil (choices_at c.servers.desks.items)) ∙ ap (λ l. choices_at c.servers.desks.items ++ l) (sym empty) ∙ c.servers.invariant.choices

pub returns-clause-fresh : goal.returns-clause-fresh
returns-clause-fresh c = c.servers.invariant.fresh
