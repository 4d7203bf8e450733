use Rattle.server_parts.specs.declared.kind.Kind.TheVariants as kind
use Rattle.server_parts.proofs.SeenLemmas.{other_left, same_marks, left_all, left_marks}
use Rattle.server_parts.proofs.marks.Marks.leave.Goals as goal

pub returns-then-is : goal.returns-then-is
returns-then-is c = same_marks c.args.number c.args.had kind.Other c.self.invariant c.self.view_is c.requires.marks (c.is.ensures c.if-is.true)

pub invariant_of-self : goal.invariant_of-self
invariant_of-self c = left_all (other_left c.args.number c.args.had c.self.invariant c.self.view_is c.requires.marks c.forget.ensures.runnable c.forget.ensures.waiting c.forget.ensures.movable)

pub returns : goal.returns
returns c = left_marks (other_left c.args.number c.args.had c.self.invariant c.self.view_is c.requires.marks c.forget.ensures.runnable c.forget.ensures.waiting c.forget.ensures.movable)
