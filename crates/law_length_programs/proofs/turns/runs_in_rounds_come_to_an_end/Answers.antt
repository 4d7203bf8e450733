use Rattle.law_length_programs.proofs.turns.runs_in_rounds_come_to_an_end.Goals as goal
use Rattle.law_length_programs.proofs.turns.Rounds.{runs_in_rounds_come_to_an_end}

pub returns : goal.returns
returns c = runs_in_rounds_come_to_an_end c.events_keep_coherence.ensures c.journals_are_bounded.ensures c.typed_code_has_table.ensures c.runs_in_rounds_end.ensures.ends c.runs_in_rounds_are_driven.ensures c.journals_are_short.ensures c.events_are_right.ensures
