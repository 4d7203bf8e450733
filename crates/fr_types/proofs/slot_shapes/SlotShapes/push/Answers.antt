use Rattle.std.proofs.Common.{List, Option, ℕ, rules, sym, ap, ◌∙◌, subst}
use Rattle.fr_types.specs.Types.{piece_of}
use Rattle.fr_types.specs.SlotShapes.{shapes_by, AreNumbers, when_known}
use Rattle.fr_types.proofs.NumberedLemmas.{numbers_kept, numbers_push, push_known, same_known}
use Rattle.fr_types.proofs.slot_shapes.SlotShapes.push.Goals as goal

pub invariant_of-self : goal.invariant_of-self
invariant_of-self c = numbers_kept c.self.inside.table c.add_part.new.table c.self.inside.numbers.items c.add_part.ensures.kept c.self.invariant

pub returns-in_err-number-clause-refused : goal.returns-in_err-number-clause-refused
returns-in_err-number-clause-refused c =
    let same = same_known c.self.inside.table c.add_part.new.table c.self.inside.numbers.items c.self.inside.is_known c.args.self.now c.self.view_is c.add_part.ensures.kept c.self.invariant in
    search rules

pub invariant_of-self-in-Continue-branch-2 : goal.invariant_of-self-in-Continue-branch-2
invariant_of-self-in-Continue-branch-2 c =
    subst (λ (l : List (Option ℕ)). AreNumbers c.add_part.new.table l) (sym c.in_ok-push.ensures.items)
    (numbers_push c.add_part.new.table c.self.inside.numbers.items c.in_ok-number.number (numbers_kept c.self.inside.table c.add_part.new.table c.self.inside.numbers.items c.add_part.ensures.kept c.self.invariant) c.in_ok-number.ensures.here)

pub invariant_of-self-in_err-push : goal.invariant_of-self-in_err-push
invariant_of-self-in_err-push c =
    subst (λ (l : List (Option ℕ)). AreNumbers c.add_part.new.table l) (sym c.in_err-push.ensures.items)
    (numbers_kept c.self.inside.table c.add_part.new.table c.self.inside.numbers.items c.add_part.ensures.kept c.self.invariant)

pub returns-in_err-push-clause-refused : goal.returns-in_err-push-clause-refused
returns-in_err-push-clause-refused c =
    let same = same_known c.self.inside.table c.add_part.new.table c.self.inside.numbers.items c.self.inside.is_known c.args.self.now c.self.view_is c.add_part.ensures.kept c.self.invariant in
    let seen = ap (λ (l : List (Option ℕ)). when_known c.self.inside.is_known (shapes_by c.add_part.new.table l)) c.in_err-push.ensures.items ∙ same in
    search rules

pub returns-in_ok-push-clause-pushed : goal.returns-in_ok-push-clause-pushed
returns-in_ok-push-clause-pushed c =
    push_known c.self.inside.table c.add_part.new.table c.self.inside.numbers.items c.push.new.self.items c.as_slice.result.now c.in_ok-number.number (piece_of c.args.part.now) c.self.inside.is_known c.args.self.now c.if-self.true c.self.view_is
    c.as_slice.ensures.value c.in_ok-push.ensures.items c.add_part.ensures.kept c.self.invariant c.in_ok-number.ensures.shape
