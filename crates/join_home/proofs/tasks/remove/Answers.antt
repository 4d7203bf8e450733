use Rattle.std.proofs.Common.{◌∙◌, ap, sym, is_some, None}
use Rattle.join_home.specs.Notes.{tasks_in}
use Rattle.join_home.proofs.NoteLemmas.{task_goes, no_task, halves_put}
use Rattle.join_home.proofs.tasks.remove.Goals as goal

pub returns-in-Some-clause-tasks : goal.returns-in-Some-clause-tasks
returns-in-Some-clause-tasks c = ap tasks_in (c.get_mut.follows.holds None).0 ∙ task_goes c.args.number c.args.notes.now.entries c.get_mut.ensures.unique

pub returns-in-Some-clause-halves : goal.returns-in-Some-clause-halves
returns-in-Some-clause-halves c =
    halves_put c.args.notes.now.entries _ c.args.number None (λ h. absurd cc) ((c.get_mut.follows.holds None).3 (ap is_some (sym c.in-Some.ensures.value))).0

pub returns-in_default-clause-tasks : goal.returns-in_default-clause-tasks
returns-in_default-clause-tasks c = ap (λ m. tasks_in m.entries) c.get_mut.follows.holds-at-none ∙ no_task c.args.number c.args.notes.now.entries c.in_default.ensures.value
