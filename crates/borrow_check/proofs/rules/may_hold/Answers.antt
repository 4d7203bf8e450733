use Rattle.std.proofs.Common.{◌∙◌, sym}
use Rattle.fr_types.specs.Types.{kind_of, piece_of}
use Rattle.fr_types.specs.States.{env_of}
use Rattle.borrow_check.proofs.RuleLemmas.{fitting_shape, fitting_outlives, fitting_passes}
use Rattle.borrow_check.proofs.rules.may_hold.Goals as goal

pub returns-then-not-has_shape_of-clause-passes : goal.returns-then-not-has_shape_of-clause-passes
returns-then-not-has_shape_of-clause-passes c = λ names rest.
    fitting_shape (env_of names c.args.env.now) c.args.at c.args.x (piece_of c.args.part.now) (kind_of c.args.t.now) rest
    (sym c.if-is_kept_out.false ∙ c.is_kept_out.ensures) (sym c.if-not-has_shape_of.true ∙ c.has_shape_of.ensures names)

pub returns-then-names_from-clause-passes : goal.returns-then-names_from-clause-passes
returns-then-names_from-clause-passes c = λ names rest.
    fitting_outlives (env_of names c.args.env.now) c.args.at c.args.x (piece_of c.args.part.now) (kind_of c.args.t.now) rest
    (sym c.if-is_kept_out.false ∙ c.is_kept_out.ensures) (sym c.if-not-has_shape_of.false ∙ c.has_shape_of.ensures names) (sym c.if-names_from.true ∙ c.names_from.ensures)

pub returns-clause-passes : goal.returns-clause-passes
returns-clause-passes c = λ names rest.
    fitting_passes (env_of names c.args.env.now) c.args.at c.args.x (piece_of c.args.part.now) (kind_of c.args.t.now) rest
    (sym c.if-is_kept_out.false ∙ c.is_kept_out.ensures) (sym c.if-not-has_shape_of.false ∙ c.has_shape_of.ensures names) (sym c.if-names_from.false ∙ c.names_from.ensures)
