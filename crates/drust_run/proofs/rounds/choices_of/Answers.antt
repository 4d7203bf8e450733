use Rattle.std.proofs.Common.{rules, ◌≡◌, ◌+◌, ◌-◌, ◌++◌, ◌∷◌, [], suc, sym, ap, ◌∙◌, arith}
use Rattle.std.proofs.lemmas.List.{append_assoc, append-nil}
use Rattle.drive_model.specs.Choice.{generator_of}
use Rattle.drive_model.specs.Rounds.{generators_from}
use Rattle.drust_run.proofs.rounds.choices_of.Goals as goal

pub servers-init : goal.servers-init
servers-init c =
    let o = c.args.options.now in
    let none : c.new-choices.result.items ≡ [] = search rules in
    let all : o.servers - 0 ≡ o.servers = omega arith in
    ap (λ l. l ++ generators_from o.choice 0 (o.servers - 0)) none ∙ ap (generators_from o.choice 0) all

pub servers-preserved : goal.servers-preserved
servers-preserved c =
    let o = c.args.options.now in
    let s = c.servers.server in
    let rest = generators_from o.choice (s + 1) (o.servers - (s + 1)) in
    let one : o.servers - s ≡ suc (o.servers - (s + 1)) = omega (arith, c.servers-test.true) in
    let pushed : c.push.new.self.items ≡ c.servers.choices.items ++ generator_of o.choice s ∷ [] = c.in_ok-push.ensures.items ∙ ap (λ g. c.servers.choices.items ++ g ∷ []) c.new.ensures in
    ap (λ l. l ++ rest) pushed ∙ append_assoc c.servers.choices.items (generator_of o.choice s ∷ []) rest ∙ ap (λ n. c.servers.choices.items ++ generators_from o.choice s n) (sym one) ∙ c.servers.invariant

pub returns : goal.returns
returns c =
    let o = c.args.options.now in
    let none : o.servers - c.servers.server ≡ 0 = omega (arith, c.servers-test.false) in
    sym (append-nil c.servers.choices.items) ∙ ap (λ n. c.servers.choices.items ++ generators_from o.choice c.servers.server n) (sym none) ∙ c.servers.invariant
