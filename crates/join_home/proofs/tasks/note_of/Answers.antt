use Rattle.std.proofs.Common.{◌∙◌, ap}
use Rattle.join_home.specs.Notes.{state_in_note, note_in}
use Rattle.join_home.proofs.NoteLemmas.{state_found}
use Rattle.join_home.proofs.tasks.note_of.Goals as goal

pub returns-in-Some-clause-state : goal.returns-in-Some-clause-state
returns-in-Some-clause-state c = ap (λ r. state_in_note (note_in r)) c.in-Some.ensures.value ∙ state_found c.args.number c.args.notes.now.entries c.len-len.ensures.unique

pub returns-in-None-clause-state : goal.returns-in-None-clause-state
returns-in-None-clause-state c = ap (λ r. state_in_note (note_in r)) c.in-None.ensures.value ∙ state_found c.args.number c.args.notes.now.entries c.len-len.ensures.unique
