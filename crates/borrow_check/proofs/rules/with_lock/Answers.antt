use Rattle.std.proofs.Common.{List, ◌∷◌, None, sym, ◌∙◌, ap}
use Rattle.std.specs.Prelude.{is_some}
use Rattle.fr_base.specs.declared.place.Lval.{Lval}
use Rattle.fr_typing.specs.Kinds.{shared, whole}
use Rattle.fr_typing.specs.Checks.{with_lock}
use Rattle.fr_syntax.specs.Arena.{text_of}
use Rattle.fr_types.specs.OwnedTypes.{owned_of}
use Rattle.fr_types.specs.Types.{kind_of}
use Rattle.fr_types.specs.States.{Held, env_of}
use Rattle.borrow_check.proofs.LockLemmas.{lock_twice, lock_new}
use Rattle.borrow_check.proofs.rules.with_lock.Goals as goal

pub returns-then-is_some-clause-goes_to : goal.returns-then-is_some-clause-goes_to
returns-then-is_some-clause-goes_to c = λ names h lt go.
    lock_twice names c.args.env.now c.args.name c.args.at go (with_lock (env_of names c.args.env.now) c.args.x (text_of names c.args.name) (owned_of c.args.content)) h lt (sym c.if-is_some.true ∙ c.is_some.ensures ∙ ap is_some c.find.ensures.slot)

pub returns-clause-goes_to : goal.returns-clause-goes_to
returns-clause-goes_to c = λ names h lt go.
    lock_new names c.args.env.now c.push.new.self c.push-2.new.self c.args.x c.args.name c.args.at (owned_of c.args.content) (kind_of c.into_type.result) go h lt (sym c.if-is_some.false ∙ c.is_some.ensures ∙ ap is_some c.find.ensures.slot)
    (c.in_ok-push.ensures.pushed ∙ ap (λ (us : List Lval). hidden us ∷ c.args.env.now) c.in_ok-one.ensures) c.into_type.ensures c.in_ok-push-2.ensures.pushed
  where
    hidden : List Lval → Held
    hidden us = record { name = None; part = whole (shared us) }
