use Rattle.law_runs_right.proofs.right.Rounds.{rounds_right}
use Rattle.law_runs_right.proofs.right.runs_in_rounds_are_right.Goals as goal

pub returns : goal.returns
returns c = rounds_right c.journals_are_bounded.ensures c.events_keep_coherence.ensures c.typed_code_has_table.ensures c.runs_in_rounds_end.ensures.ends c.programs_run_right.ensures c.events_are_right.ensures c.programs_are_left_by_journals.ensures c.right_in_any_order.ensures c.left_in_any_order.ensures c.runs_in_rounds_are_driven.ensures c.programs_stand_there.ensures.stands c.programs_stand_there.ensures.waits c.programs_stand_there.ensures.ends
