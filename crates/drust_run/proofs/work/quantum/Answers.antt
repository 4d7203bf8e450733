use Rattle.std.proofs.Common.{◌≡◌, ◌+◌, ◌-◌, ◌++◌, ◌∷◌, [], suc, length, Some, None, refl, sym, ap, subst, ◌∙◌, arith}
use Rattle.std.specs.Prelude.{option_map}
use Rattle.server_model.specs.Events.{does}
use Rattle.drive_model.specs.Choice.{next}
use Rattle.drive_model.specs.Rounds.{work}
use Rattle.law_runs_rounds.specs.rounds.Working.{CanWork}
use Rattle.drust_run.specs.Turns.{with_before}
use Rattle.drust_run.proofs.EventLemmas.{counted}
use Rattle.drust_run.proofs.WorkLemmas.{one_before, nothing_after, work_first, work_none, next_can}
use Rattle.drust_run.proofs.work.quantum.Goals as goal

pub events-init : goal.events-init
events-init c =
    let v = c.args.server.now in
    let whole : c.args.most - 0 ≡ c.args.most = omega arith in record {
      code = refl;
      options = refl;
      within = omega arith;
      able = subst (λ n. CanWork v.code v.options n v.state c.args.choice.now) (sym whole) c.requires.able;
      same = ap (λ n. option_map (with_before c.args.journal.now.items) (work v.code v.options n v.state c.args.choice.now)) whole;
    }

pub returns-in_default-clause-worked : goal.returns-in_default-clause-worked
returns-in_default-clause-worked c =
    let v = c.events.server in
    let inv = c.events.invariant in
    let none : next v.options v.state c.events.choice ≡ None = c.in_default.ensures.next in
    let same : c.next.new.choice ≡ c.events.choice = c.in_default.ensures.none in
    sym inv.same
    ∙ ap (option_map (with_before c.events.journal.items)) (work_none v.code v.options (c.args.most - c.events.counter) v.state c.events.choice none)
    ∙ nothing_after c.events.journal.items v.state c.events.choice
    ∙ ap (λ g. Some (record { server = v.state; generator = g; entries = c.events.journal.items })) (sym same)

pub returns-in_default-clause-kept : goal.returns-in_default-clause-kept
returns-in_default-clause-kept c = (c.events.invariant.code, c.events.invariant.options)

pub act_fitted-requires-clause-result : goal.act_fitted-requires-clause-result
act_fitted-requires-clause-result c =
    let inv = c.events.invariant in
    let can = next_can c.args.most c.events.counter c.events.server c.events.choice c.in-Some.what c.next.new.choice c.events-test.true (omega (arith, ap length inv.code, c.requires.short)) inv.able c.in-Some.ensures.next in
    can.result

pub act_fitted-requires-clause-counts : goal.act_fitted-requires-clause-counts
act_fitted-requires-clause-counts c =
    let inv = c.events.invariant in
    let can = next_can c.args.most c.events.counter c.events.server c.events.choice c.in-Some.what c.next.new.choice c.events-test.true (omega (arith, ap length inv.code, c.requires.short)) inv.able c.in-Some.ensures.next in
    can.counts

pub push-requires : goal.push-requires
push-requires c =
    let v = c.events.server in
    record { names = (counted v.code v.options v.state c.in-Some.what (c.act_fitted.new.server.state, c.in_ok-act_fitted.field-0) c.in_ok-act_fitted.ensures.done).names }

pub returns-in_err-act_fitted-clause-kept : goal.returns-in_err-act_fitted-clause-kept
returns-in_err-act_fitted-clause-kept c = (c.act_fitted.ensures.kept.0 ∙ c.events.invariant.code, c.act_fitted.ensures.kept.1 ∙ c.events.invariant.options)

pub returns-in_err-push-clause-kept : goal.returns-in_err-push-clause-kept
returns-in_err-push-clause-kept c = (c.act_fitted.ensures.kept.0 ∙ c.events.invariant.code, c.act_fitted.ensures.kept.1 ∙ c.events.invariant.options)

pub events-preserved : goal.events-preserved
events-preserved c =
    let v = c.events.server in
    let u = c.act_fitted.new.server in
    let n = c.args.most - (c.events.counter + 1) in
    let e = c.in_ok-act_fitted.field-0 in
    let inv = c.events.invariant in
    let can = next_can c.args.most c.events.counter v c.events.choice c.in-Some.what c.next.new.choice c.events-test.true (omega (arith, ap length inv.code, c.requires.short)) inv.able c.in-Some.ensures.next in
    let done : does v.code v.options v.state c.in-Some.what ≡ Some (u.state, e) = c.in_ok-act_fitted.ensures.done in
    let after : CanWork v.code v.options n u.state c.next.new.choice = can.onward u.state e done in
    let others = work u.code u.options n u.state c.next.new.choice in
    let same : others ≡ work v.code v.options n u.state c.next.new.choice =
    ap (λ x. work x u.options n u.state c.next.new.choice) c.act_fitted.ensures.kept.0 ∙ ap (λ x. work v.code x n u.state c.next.new.choice) c.act_fitted.ensures.kept.1 in
    let one : c.args.most - c.events.counter ≡ suc n = omega (arith, c.events-test.true) in
    let entries : c.push.new.self.items ≡ c.events.journal.items ++ e ∷ [] = c.in_ok-push.ensures.pushed in
    record {
      code = c.act_fitted.ensures.kept.0 ∙ inv.code;
      options = c.act_fitted.ensures.kept.1 ∙ inv.options;
      within = omega (arith, c.events-test.true);
      able = subst (λ x. CanWork x u.options n u.state c.next.new.choice) (sym c.act_fitted.ensures.kept.0) (subst (λ x. CanWork v.code x n u.state c.next.new.choice) (sym c.act_fitted.ensures.kept.1) after);
      same =
          ap (λ l. option_map (with_before l) others) entries
          ∙ ap (option_map (with_before (c.events.journal.items ++ e ∷ []))) same
          ∙ one_before c.events.journal.items e (work v.code v.options n u.state c.next.new.choice)
          ∙ ap (option_map (with_before c.events.journal.items)) (sym (work_first v.code v.options n v.state c.events.choice c.in-Some.what c.next.new.choice u.state e c.in-Some.ensures.next done))
          ∙ ap (λ m. option_map (with_before c.events.journal.items) (work v.code v.options m v.state c.events.choice)) (sym one)
          ∙ inv.same;
    }

pub returns-clause-worked : goal.returns-clause-worked
returns-clause-worked c =
    let v = c.events.server in
    let inv = c.events.invariant in
    let none : c.args.most - c.events.counter ≡ 0 = omega (arith, c.events-test.false) in
    sym inv.same
    ∙ ap (λ m. option_map (with_before c.events.journal.items) (work v.code v.options m v.state c.events.choice)) none
    ∙ nothing_after c.events.journal.items v.state c.events.choice

pub returns-clause-kept : goal.returns-clause-kept
returns-clause-kept c = (c.events.invariant.code, c.events.invariant.options)
