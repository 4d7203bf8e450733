use Rattle.std.proofs.Common.{◌-◌, ◌∙◌, length, sym}
use Rattle.fr_types.specs.Types.{kind_of}
use Rattle.borrow_check.proofs.ScopeLemmas.{scope_drop}
use Rattle.borrow_check.proofs.LockLemmas.{unlock_typed}
use Rattle.borrow_check.proofs.rules.unlock.Goals as goal

pub returns-clause-gives : goal.returns-clause-gives
returns-clause-gives c = λ names.
    unlock_typed names c.args.env.now c.keep.new.env c.args.at c.args.body c.args.base (kind_of c.args.t) (sym c.if-not-is_owned.false ∙ c.is_owned.ensures) (sym c.if-not-is_whole.false ∙ c.is_whole.ensures names) c.keep.ensures

pub returns-clause-scope : goal.returns-clause-scope
returns-clause-scope c = λ names h. scope_drop names c.args.env.now c.keep.new.env (length c.args.env.now - c.args.base) h c.keep.ensures
