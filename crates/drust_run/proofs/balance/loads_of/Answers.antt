use Rattle.std.proofs.Common.{rules, ◌≡◌, ◌++◌, ◌∷◌, [], drop, sym, ap, ◌∙◌, arith}
use Rattle.std.proofs.lemmas.List.{append-nil, drop_all}
use Rattle.server_model.specs.Questions.{active, movable}
use Rattle.drive_model.specs.Balance.{loads}
use Rattle.cluster_core.specs.Views.{states}
use Rattle.drust_run.proofs.MoveLemmas.{none_dropped, load_last}
use Rattle.drust_run.proofs.balance.loads_of.Goals as goal

pub servers-init : goal.servers-init
servers-init c =
    let none : c.new-loads.result.items ≡ [] = search rules in
    ap (λ l. l ++ loads (states (drop 0 c.args.servers.now))) none ∙ ap (λ l. loads (states l)) (none_dropped c.args.servers.now)

pub servers-preserved : goal.servers-preserved
servers-preserved c =
    let v = c.server-item.result in
    let pushed : c.push.new.self.items ≡ c.servers.loads.items ++ record { threads = active v.state; candidate = movable v.state } ∷ [] =
    c.in_ok-push.ensures.items ∙ ap (λ n. c.servers.loads.items ++ record { threads = n; candidate = c.movable.result } ∷ []) c.active.ensures
    ∙ ap (λ t. c.servers.loads.items ++ record { threads = active v.state; candidate = t } ∷ []) c.movable.ensures.thread in
    load_last c.args.servers.now c.servers.server-index v c.servers.loads.items c.push.new.self.items c.servers-test.true c.server-item.is pushed
    c.servers.invariant

pub returns : goal.returns
returns c =
    let none : drop c.servers.server-index c.args.servers.now ≡ [] = drop_all c.servers.server-index c.args.servers.now (omega (arith, c.servers-test.false)) in
    sym (append-nil c.servers.loads.items) ∙ ap (λ l. c.servers.loads.items ++ loads (states l)) (sym none) ∙ c.servers.invariant
