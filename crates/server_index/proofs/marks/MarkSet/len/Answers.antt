use Rattle.std.proofs.Common.{length, ap, ◌∙◌}
use Rattle.rank_map.specs.Places.{entries}
use Rattle.server_index.proofs.MarkSetLemmas.{seen_places, few_count}
use Rattle.server_index.proofs.marks.MarkSet.len.Goals as goal

pub returns-then-self : goal.returns-then-self
returns-then-self c = c.len.ensures ∙ ap (λ v. length (entries v)) (seen_places c.self.inside.few.items _ _ (c.self.invariant.spread c.if-self.true) c.self.view_is)

pub returns-else-self : goal.returns-else-self
returns-else-self c = c.len-else-self.ensures.value ∙ few_count c.self.inside.few.items _ _ _ c.self.invariant c.self.view_is c.if-self.false
