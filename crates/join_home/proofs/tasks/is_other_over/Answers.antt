use Rattle.std.proofs.Common.{sym, None, Some}
use Rattle.join_home.proofs.NoteLemmas.{other_over}
use Rattle.join_home.proofs.tasks.is_other_over.Goals as goal

pub returns-in-Some : goal.returns-in-Some
returns-in-Some c =
    rw c.is_over.ensures (other_over c.args.notes.now.entries c.args.parent c.args.number c.args.other c.len-len.ensures.unique c.requires.branch c.requires.halves (Some c.in-Some.note) (sym (rw c.number.ensures.number at c.in-Some.ensures.note)))

pub returns-in-None : goal.returns-in-None
returns-in-None c =
    other_over c.args.notes.now.entries c.args.parent c.args.number c.args.other c.len-len.ensures.unique c.requires.branch c.requires.halves None (sym (rw c.number.ensures.number at c.in-None.ensures.note))
