use Rattle.law_entries_events.proofs.events.programs_are_left_by_journals.Goals as goal

pub returns : goal.returns
returns c = c.programs_are_left.ensures c.entries_lead.ensures
