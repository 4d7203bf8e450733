use Rattle.std.proofs.Common.{◌+◌, ◌++◌, ◌∷◌, [], Some, length, refl, sym, ap, ◌∙◌, nat_eq}
use Rattle.indexmap.specs.IndexMap.{get}
use Rattle.fr_shared.specs.ObjectRoom.{ObjectRoom}
use Rattle.fr_shared.specs.ObjectsInside.{living_at}
use Rattle.fr_shared.proofs.ObjectParts.{length_cells, cell_push}
use Rattle.fr_shared.proofs.objects.Objects.push.Goals as goal

pub returns-clause-count : goal.returns-clause-count
returns-clause-count c =
    let o = c.self.inside in
    sym (length_cells (living_at o) 0 o.made) ∙ ap (λ (v : ObjectRoom). length v.cells) c.self.view_is

pub returns-clause-cells : goal.returns-clause-cells
returns-clause-cells c =
    let o = c.self.inside in
    let updates = c.in-Ok.ensures.updates in
    cell_push (living_at o) (λ k. get nat_eq c.insert.new.self k) o.made (o.made + 1) (Some c.args.value) refl updates.1 updates.2
    ∙ ap (λ (v : ObjectRoom). v.cells ++ Some c.args.value ∷ []) c.self.view_is
