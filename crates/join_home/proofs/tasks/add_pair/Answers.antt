use Rattle.std.proofs.Common.{false}
use Rattle.join_home.specs.Notes.{tasks_in}
use Rattle.join_home.specs.Tasks.{in_pair}
use Rattle.join_home.proofs.NoteLemmas.{pair_second, pair_noted}
use Rattle.join_home.proofs.tasks.add_pair.Goals as goal

pub add-requires-2-clause-new : goal.add-requires-2-clause-new
add-requires-2-clause-new c =
    rw (c.add.ensures.tasks, c.number.ensures.number, c.number-2.ensures.number) (pair_second (tasks_in c.args.notes.now.entries) c.args.parent c.args.a c.args.b (in_pair c.args.parent false) c.requires.new)

pub returns-clause-halves : goal.returns-clause-halves
returns-clause-halves c =
    pair_noted c.args.notes.now.entries c.add.new.notes.entries _ c.args.parent c.args.a c.args.b c.requires.new (rw c.number.ensures.number at c.add.ensures.notes) (rw c.number-2.ensures.number at c.add-2.ensures.notes)
