use Rattle.std.proofs.Common.{◌≡◌, ◌+◌, drop, sym, subst, arith}
use Rattle.std.specs.Prelude.{Err}
use Rattle.std.proofs.lemmas.List.{drop_all}
use Rattle.std.proofs.lemmas.Result.{err_from_is_err_and}
use Rattle.std.proofs.Common.{refl}
use Rattle.fr_terms.specs.Terms.{Captured}
use Rattle.fr_typing.specs.Places.{Env}
use Rattle.fr_typing.specs.Finding.{Outcome}
use Rattle.fr_typing.specs.Captures.{capture}
use Rattle.fr_types.specs.States.{env_of}
use Rattle.borrow_check.specs.declared.usage.Usage.{Usage}
use Rattle.borrow_check.specs.Capturing.{capturer_of, GoesOn}
use Rattle.borrow_check.specs.Usages.{capture_usage}
use Rattle.borrow_check.proofs.TermLemmas.{next_first}
use Rattle.borrow_check.proofs.CaptureLemmas.{IsCapturing, capturing_room, capturing_fails, capturing_step, capturing_written}
use Rattle.borrow_check.proofs.captures.capture_all.Goals as goal

pub name_at-requires-clause-here : goal.name_at-requires-clause-here
name_at-requires-clause-here c =
    let e = next_first c.args.captures.now.items c.names.next c.in-Some.at.now (sym c.in-Some.ensures) in
    let along = subst (λ l. IsCapturing (capturer_of c.args.by) c.args.tree.now c.args.captures.now.items l c.args.env.now c.args.new.now c.names.env c.names.new c.args.checker.now.usages.items c.names.checker.usages.items) e c.names.invariant in
    along.names.parts.0

pub name_at-requires-clause-sort : goal.name_at-requires-clause-sort
name_at-requires-clause-sort c =
    let e = next_first c.args.captures.now.items c.names.next c.in-Some.at.now (sym c.in-Some.ensures) in
    let along = subst (λ l. IsCapturing (capturer_of c.args.by) c.args.tree.now c.args.captures.now.items l c.args.env.now c.args.new.now c.names.env c.names.new c.args.checker.now.usages.items c.names.checker.usages.items) e c.names.invariant in
    along.names.parts.1

pub capture-requires : goal.capture-requires
capture-requires c =
    let e = next_first c.args.captures.now.items c.names.next c.in-Some.at.now (sym c.in-Some.ensures) in
    let along = subst (λ l. IsCapturing (capturer_of c.args.by) c.args.tree.now c.args.captures.now.items l c.args.env.now c.args.new.now c.names.env c.names.new c.args.checker.now.usages.items c.names.checker.usages.items) e c.names.invariant in
    record { few = capturing_room (capturer_of c.args.by) c.args.tree.now c.in-Some.at.now c.args.captures.now.items (drop (c.names.next + 1) c.args.captures.now.items) c.args.env.now c.args.new.now c.names.env c.names.new c.args.checker.now.usages.items c.names.checker.usages.items along c.name_at.ensures.nodes c.requires.few }

pub returns-in_err-usage-clause-goes_on : goal.returns-in_err-usage-clause-goes_on
returns-in_err-usage-clause-goes_on c =
    let names = c.args.tree.now.names in
    let e = next_first c.args.captures.now.items c.names.next c.in-Some.at.now (sym c.in-Some.ensures) in
    let along = subst (λ l. IsCapturing (capturer_of c.args.by) c.args.tree.now c.args.captures.now.items l c.args.env.now c.args.new.now c.names.env c.names.new c.args.checker.now.usages.items c.names.checker.usages.items) e c.names.invariant in
    let fails = subst (λ (x : Captured). GoesOn {A = Usage} (Err c.in_err-usage.field-0.0) (capture (capturer_of c.args.by) (env_of names c.names.env) (env_of names c.names.new) x) (env_of names c.capture.new.env) (env_of names c.capture.new.new)) (sym c.name_at.ensures.capture)
    (c.in_err-usage.ensures.goes_on names c.names.invariant.scope c.names.invariant.new_scope c.name_at.ensures.name) in
    let p = err_from_is_err_and c.from_residual.result c.from_residual.ensures.1 in
    rw (p.1, p.2)
    (capturing_fails (capturer_of c.args.by) (Unit {0}) Usage c.args.tree.now c.in-Some.at.now c.args.captures.now.items (drop (c.names.next + 1) c.args.captures.now.items) c.args.env.now c.args.new.now c.names.env c.names.new c.args.checker.now.usages.items c.names.checker.usages.items c.in_err-usage.field-0.0
    (env_of names c.capture.new.env) (env_of names c.capture.new.new) (env_of names c.capture.new.env) (env_of names c.capture.new.new) along fails)

pub names-preserved : goal.names-preserved
names-preserved c =
    let names = c.args.tree.now.names in
    let e = next_first c.args.captures.now.items c.names.next c.in-Some.at.now (sym c.in-Some.ensures) in
    let along = subst (λ l. IsCapturing (capturer_of c.args.by) c.args.tree.now c.args.captures.now.items l c.args.env.now c.args.new.now c.names.env c.names.new c.args.checker.now.usages.items c.names.checker.usages.items) e c.names.invariant in
    let goes = subst (λ (x : Captured). (go : Env → Env → Outcome) → capture (capturer_of c.args.by) (env_of names c.names.env) (env_of names c.names.new) x go ≡ go (env_of names c.capture.new.env) (env_of names c.capture.new.new)) (sym c.name_at.ensures.capture)
    (c.in_ok-usage.ensures.goes_on names c.names.invariant.scope c.names.invariant.new_scope c.name_at.ensures.name) in
    let used = subst (λ (x : Captured). c.in_ok-usage.usage ≡ capture_usage (env_of names c.names.env) x) (sym c.name_at.ensures.capture) (c.in_ok-usage.ensures.usage names c.names.invariant.scope c.name_at.ensures.name) in
    capturing_step (capturer_of c.args.by) c.args.tree.now c.in-Some.at.now c.args.captures.now.items (drop (c.names.next + 1) c.args.captures.now.items) c.args.env.now c.args.new.now c.names.env c.names.new c.capture.new.env c.capture.new.new c.args.checker.now.usages.items c.names.checker.usages.items _ c.in_ok-usage.usage along
    c.name_at.ensures.nodes goes used refl (c.in_ok-usage.ensures.scope names c.names.invariant.scope) (c.in_ok-usage.ensures.new_scope names c.names.invariant.new_scope c.name_at.ensures.name) c.in_ok-usage.ensures.same c.in_ok-usage.ensures.one

pub returns-clause-usages : goal.returns-clause-usages
returns-clause-usages c =
    capturing_written (capturer_of c.args.by) c.args.tree.now c.args.captures.now.items (drop c.names.next c.args.captures.now.items) c.args.env.now c.args.new.now c.names.env c.names.new c.args.checker.now.usages.items c.names.checker.usages.items c.names.invariant
    (drop_all c.names.next c.args.captures.now.items (omega arith))
