use Rattle.std.proofs.Common.{[], ◌∷◌, ◌++◌, length, sym, ap, ◌∙◌, subst, List}
use Rattle.fr_types.specs.Types.{piece_of}
use Rattle.fr_types.specs.States.{Held}
use Rattle.fr_types.specs.declared.variable.Variable.{Variable}
use Rattle.fr_types.specs.Inside.{newest, IsInside}
use Rattle.fr_types.proofs.EnvLemmas.{push_seen}
use Rattle.fr_typing.specs.Places.{AreBelow, piece_places}
use Rattle.fr_types.proofs.env.Env.push.Goals as goal

pub enter-entered-requires-clause-below : goal.enter-entered-requires-clause-below
enter-entered-requires-clause-below c = subst (λ (l : List Held). AreBelow (length l) (piece_places (piece_of c.args.part))) (sym c.self.view_is) c.requires.below

pub returns-clause-pushed : goal.returns-clause-pushed
returns-clause-pushed c = push_seen c.self.inside.slots.items c.push_reserved.new.self.items c.args.self.now (record { name = c.args.name; part = c.args.part }) c.self.view_is (c.push_reserved.ensures.items ∙ ap (λ l. l ++ record { name = c.args.name; part = c.args.part } ∷ []) c.enter-entered.ensures.slots)

pub invariant_of-self-2 : goal.invariant_of-self-2
invariant_of-self-2 c =
    subst (λ (l : List Variable). IsInside (newest l) c.enter-entered.new.slot_of.items c.enter-entered.new.loans.items c.enter-entered.new.targets.items c.enter-entered.new.shapes)
    (sym (c.push_reserved.ensures.items ∙ ap (λ l. l ++ record { name = c.args.name; part = c.args.part } ∷ []) c.enter-entered.ensures.slots))
    (record { tabled = c.in_default.ensures.tabled; shaped = c.in_default.ensures.shaped })
