use Rattle.std.proofs.Common.{sym, ◌∙◌}
use Rattle.server_index.proofs.MarkSetLemmas.{coming_start, coming_step, coming_fewer, first_there, all_came}
use Rattle.server_index.proofs.marks.come_back.Goals as goal

pub marks-init : goal.marks-init
marks-init c = coming_start c.args.few.now.items c.args.ranks.now c.requires.none c.requires.rises

pub take-requires : goal.take-requires
take-requires c = record { place = first_there _ c.marks.few.items _ c.in-Some.number c.marks.invariant (sym c.nth.ensures ∙ c.in-Some.is) }

pub marks-smaller : goal.marks-smaller
marks-smaller c = coming_fewer _ c.marks.few.items c.marks.ranks c.take.new.self c.in-Some.number c.marks.invariant (sym c.nth.ensures ∙ c.in-Some.is) c.take.ensures.places

pub marks-preserved : goal.marks-preserved
marks-preserved c =
    coming_step _ c.marks.few.items c.push.new.self.items c.marks.ranks c.take.new.self c.in-Some.number c.marks.invariant (sym c.nth.ensures ∙ c.in-Some.is) c.take.ensures.places c.push.ensures.items

pub returns-clause-few : goal.returns-clause-few
returns-clause-few c = (all_came _ c.marks.few.items c.marks.ranks c.marks.invariant (sym c.nth.ensures ∙ c.in_default.is)).1

pub returns-clause-none : goal.returns-clause-none
returns-clause-none c = (all_came _ c.marks.few.items c.marks.ranks c.marks.invariant (sym c.nth.ensures ∙ c.in_default.is)).0
