use Rattle.std.proofs.Common.{◌∙◌, ap}
use Rattle.join_home.specs.Tasks.{noted}
use Rattle.join_home.specs.Notes.{tasks_in, state_by}
use Rattle.join_home.proofs.NoteLemmas.{task_added, gone_goes, gone}
use Rattle.join_home.proofs.tasks.add.Goals as goal

pub returns-clause-tasks : goal.returns-clause-tasks
returns-clause-tasks c =
    let number = c.args.number in let left = c.shift_remove.new.self.entries in
    ap tasks_in c.in-Ok.ensures.entries ∙ task_added number left c.args.note (gone number left _ (c.shift_remove.ensures.updates.0 number))
    ∙ ap (λ xs. noted xs number (state_by c.args.note)) (ap tasks_in c.shift_remove.ensures.entries ∙ gone_goes number c.args.notes.now.entries c.requires.new)
