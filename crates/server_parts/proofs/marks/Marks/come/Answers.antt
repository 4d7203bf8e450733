use Rattle.std.proofs.Common.{sym, subst}
use Rattle.server_parts.specs.declared.kind.Kind.TheVariants as kind
use Rattle.server_parts.specs.Seen.{AreSets}
use Rattle.server_parts.proofs.SeenLemmas.{comes_back, other_left, same_marks, kept_marks, renewed_all, renewed_marks}
use Rattle.server_parts.proofs.marks.Marks.come.Goals as goal

pub returns-then-is : goal.returns-then-is
returns-then-is c = same_marks c.args.number kind.Other c.args.has c.self.invariant c.self.view_is c.requires.marks (sym (c.is.ensures c.if-is.true))

pub returns-then-is-2 : goal.returns-then-is-2
returns-then-is-2 c = kept_marks c.args.has (comes_back c.args.number c.in-Some.had c.self.invariant c.self.view_is c.in-Some.ensures c.requires.marks) (c.is-in-Some.ensures c.if-is-2.true)

pub invariant_of-self-in-Some : goal.invariant_of-self-in-Some
invariant_of-self-in-Some c = renewed_all c.args.has (comes_back c.args.number c.in-Some.had c.self.invariant c.self.view_is c.in-Some.ensures c.requires.marks) c.mark_all.ensures.runnable c.mark_all.ensures.waiting c.mark_all.ensures.movable

pub returns-in-Some : goal.returns-in-Some
returns-in-Some c = renewed_marks c.args.has (comes_back c.args.number c.in-Some.had c.self.invariant c.self.view_is c.in-Some.ensures c.requires.marks) c.mark_all.ensures.runnable c.mark_all.ensures.waiting c.mark_all.ensures.movable

pub mark_all-requires-2-clause-runnable : goal.mark_all-requires-2-clause-runnable
mark_all-requires-2-clause-runnable c = (other_left c.args.number kind.Other c.self.invariant c.self.view_is c.requires.marks c.forget.ensures.runnable c.forget.ensures.waiting c.forget.ensures.movable).runnable.mark

pub mark_all-requires-2-clause-waiting : goal.mark_all-requires-2-clause-waiting
mark_all-requires-2-clause-waiting c = (other_left c.args.number kind.Other c.self.invariant c.self.view_is c.requires.marks c.forget.ensures.runnable c.forget.ensures.waiting c.forget.ensures.movable).waiting.mark

pub mark_all-requires-2-clause-movable : goal.mark_all-requires-2-clause-movable
mark_all-requires-2-clause-movable c = (other_left c.args.number kind.Other c.self.invariant c.self.view_is c.requires.marks c.forget.ensures.runnable c.forget.ensures.waiting c.forget.ensures.movable).movable.mark

pub invariant_of-self-2 : goal.invariant_of-self-2
invariant_of-self-2 c =
    subst (AreSets c.mark_all-2.new.runnable c.mark_all-2.new.waiting c.mark_all-2.new.movable) (sym c.forget.ensures.left)
    (renewed_all c.args.has (other_left c.args.number kind.Other c.self.invariant c.self.view_is c.requires.marks c.forget.ensures.runnable c.forget.ensures.waiting c.forget.ensures.movable) c.mark_all-2.ensures.runnable c.mark_all-2.ensures.waiting c.mark_all-2.ensures.movable)
