use Rattle.std.proofs.Common.{is_some, ap, ◌∙◌}
use Rattle.rank_map.specs.Places.{has_place}
use Rattle.server_index.proofs.TableLemmas.{slot_has}
use Rattle.server_index.proofs.table.Table.has_place.Goals as goal

pub returns : goal.returns
returns g c = c.is_some.ensures ∙ ap is_some c.get.ensures ∙ slot_has c.args.key c.self.invariant ∙ ap (λ v. has_place v c.args.key) c.self.view_is
