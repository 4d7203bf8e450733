use Rattle.std.proofs.Common.{sym, ap, ◌∙◌}
use Rattle.std.specs.Prelude.{slice_get}
use Rattle.fr_plain.specs.Heap.{flat}
use Rattle.fr_shared.specs.ObjectRoom.{ObjectRoom}
use Rattle.fr_shared.specs.ObjectsInside.{living_at}
use Rattle.fr_shared.proofs.ObjectParts.{cell_made, cell_unmade}
use Rattle.fr_shared.proofs.objects.Objects.get.Goals as goal

pub returns-in-Some : goal.returns-in-Some
returns-in-Some c =
    let o = c.self.inside in
    c.in-Some.ensures.value ∙ sym (cell_made (living_at o) o.made c.args.count c.if-count-self.true) ∙ ap (λ (v : ObjectRoom). flat (slice_get v.cells c.args.count)) c.self.view_is

pub returns-in-None : goal.returns-in-None
returns-in-None c =
    let o = c.self.inside in
    c.in-None.ensures.value ∙ sym (cell_made (living_at o) o.made c.args.count c.if-count-self.true) ∙ ap (λ (v : ObjectRoom). flat (slice_get v.cells c.args.count)) c.self.view_is

pub returns-else-count-self : goal.returns-else-count-self
returns-else-count-self c =
    let o = c.self.inside in
    sym (cell_unmade (living_at o) o.made c.args.count c.if-count-self.false) ∙ ap (λ (v : ObjectRoom). flat (slice_get v.cells c.args.count)) c.self.view_is
