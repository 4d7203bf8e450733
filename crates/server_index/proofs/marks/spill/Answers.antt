use Rattle.std.proofs.Common.{◌∙◌}
use Rattle.server_index.proofs.MarkSetLemmas.{last_there, spill_step}
use Rattle.server_index.proofs.marks.spill.Goals as goal

pub insert-requires : goal.insert-requires
insert-requires c = record { place = last_there c.marks.few.items c.pop.new.self.items c.marks.ranks c.in-Some.number c.marks.invariant.2 c.in-Some.ensures.items }

pub marks-preserved : goal.marks-preserved
marks-preserved c =
    let step = spill_step c.marks.few.items c.pop.new.self.items c.marks.ranks c.insert.new.self c.in-Some.number c.marks.invariant.1 c.marks.invariant.2 c.in-Some.ensures.items c.insert.ensures.places in
    (step.0 ∙ c.marks.invariant.0, step.1, step.2)
