use Rattle.std.proofs.Common.{option_map, slice_get, ap, ◌∙◌}
use Rattle.rank_map.specs.Places.{entries}
use Rattle.server_index.proofs.MarkSetLemmas.{seen_places, few_nth}
use Rattle.server_index.proofs.marks.MarkSet.nth.Goals as goal

pub returns-then-self : goal.returns-then-self
returns-then-self c =
    c.nth.ensures ∙ ap (λ v. option_map (λ e. e.key) (slice_get (entries v) c.args.at)) (seen_places c.self.inside.few.items _ _ (c.self.invariant.spread c.if-self.true) c.self.view_is)

pub returns-else-self : goal.returns-else-self
returns-else-self c =
    c.number_at.ensures ∙ ap (λ js. slice_get js c.args.at) c.as_slice.ensures.value ∙ few_nth c.self.inside.few.items _ _ _ c.args.at c.self.invariant c.self.view_is c.if-self.false
