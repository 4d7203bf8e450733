use Rattle.std.proofs.Common.{rules, ◌∙◌, ap, sym, subst}
use Rattle.indexmap.proofs.CallerLemmas.{filter-RetainsPairs}
use Rattle.join_home.specs.Notes.{tasks_in, KnowsHalves}
use Rattle.join_home.proofs.NoteLemmas.{kept_tasks, halves_kept}
use Rattle.join_home.proofs.tasks.clear.Goals as goal

pub returns-clause-tasks : goal.returns-clause-tasks
returns-clause-tasks c = ap tasks_in (filter-RetainsPairs _ _ _ (λ k v b w g call. search rules) _ _ c.retain.ensures.filtered) ∙ kept_tasks c.args.notes.now.entries

pub returns-clause-halves : goal.returns-clause-halves
returns-clause-halves c known =
    subst KnowsHalves (sym (filter-RetainsPairs _ _ _ (λ k v b w g call. search rules) _ _ c.retain.ensures.filtered)) (halves_kept c.args.notes.now.entries c.len-len.ensures.unique known)
