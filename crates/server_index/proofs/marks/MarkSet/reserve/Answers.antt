use Rattle.server_index.proofs.MarkSetLemmas.{there_too, reserved_set, reserved_shows}
use Rattle.server_index.proofs.marks.MarkSet.reserve.Goals as goal

pub invariant_of-self : goal.invariant_of-self
invariant_of-self c = reserved_set c.self.inside.few.items _ _ _ _ c.reserve.result c.self.invariant c.requires.few c.reserve.ensures.place c.reserve.ensures.refused

pub returns-clause-place : goal.returns-clause-place
returns-clause-place c = reserved_shows c.self.inside.few.items _ _ _ _ _ c.reserve.result c.self.invariant c.self.view_is c.reserve.ensures.place

pub returns-clause-had_place : goal.returns-clause-had_place
returns-clause-had_place c h = c.reserve.ensures.had_place (there_too c.self.inside.few.items _ _ _ c.self.view_is h)
