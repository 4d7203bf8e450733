use Rattle.server_parts.proofs.SeenLemmas.{alike, mark_kept}
use Rattle.server_parts.proofs.marks.mark_as.Goals as goal

pub returns-then-was-on : goal.returns-then-was-on
returns-then-was-on c = mark_kept c.args.set.now c.args.number c.args.was c.args.on c.requires.was.0 c.requires.was.1 (alike c.args.was c.args.on c.if-was-on.true)
