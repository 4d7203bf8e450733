use Rattle.std.proofs.Common.{◌∙◌, ap, sym, is_some, Some}
use Rattle.join_home.specs.Notes.{tasks_in, note_at}
use Rattle.join_home.proofs.NoteLemmas.{state_set, halves_put, some_of}
use Rattle.join_home.proofs.tasks.set_note.Goals as goal

pub returns-clause-tasks : goal.returns-clause-tasks
returns-clause-tasks c =
    let old = some_of (note_at c.args.notes.now.entries c.args.number) c.requires.there in
    ap tasks_in (c.get_mut.follows.holds (Some c.args.note)).0 ∙ state_set c.args.number c.args.notes.now.entries old.0 c.args.note old.1

pub returns-clause-halves : goal.returns-clause-halves
returns-clause-halves c =
    halves_put c.args.notes.now.entries _ c.args.number (Some c.args.note) c.requires.half ((c.get_mut.follows.holds (Some c.args.note)).3 (ap is_some (sym c.in-Some.ensures.value))).0
