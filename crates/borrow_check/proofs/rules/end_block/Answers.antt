use Rattle.std.proofs.Common.{◌≡◌, ◌-◌, ◌∙◌, length, false, sym, subst}
use Rattle.fr_typing.specs.Places.{AreBelow, kind_places}
use Rattle.fr_typing.specs.Checks.{names_from}
use Rattle.fr_types.specs.Types.{kind_of}
use Rattle.borrow_check.proofs.ScopeLemmas.{scope_drop, keep_long}
use Rattle.borrow_check.proofs.RuleLemmas.{end_typed, stays_below}
use Rattle.borrow_check.proofs.rules.end_block.Goals as goal

pub returns-clause-gives : goal.returns-clause-gives
returns-clause-gives c = λ names.
    end_typed names c.args.env.now c.keep.new.env c.args.base c.args.last (kind_of c.args.t) (sym c.if-names_from.false ∙ c.names_from.ensures) c.keep.ensures

pub returns-clause-below : goal.returns-clause-below
returns-clause-below c =
    let stays : names_from c.args.base (kind_of c.args.t) ≡ false = sym c.names_from.ensures ∙ c.if-names_from.false in
    subst (λ n. AreBelow n (kind_places (kind_of c.args.t))) (sym (keep_long c.args.env.now c.keep.new.env c.args.base c.requires.base c.keep.ensures)) (stays_below c.args.base (kind_of c.args.t) stays)

pub returns-clause-scope : goal.returns-clause-scope
returns-clause-scope c = λ names h. scope_drop names c.args.env.now c.keep.new.env (length c.args.env.now - c.args.base) h c.keep.ensures
