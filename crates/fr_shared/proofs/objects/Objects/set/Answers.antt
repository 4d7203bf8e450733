use Rattle.std.proofs.Common.{Option, sym, ap, ◌∙◌, subst}
use Rattle.std.specs.Prelude.{slice_get, slice_set, IsSome}
use Rattle.fr_base.specs.declared.label.Plain.{Plain}
use Rattle.fr_plain.specs.Heap.{flat}
use Rattle.fr_shared.specs.ObjectRoom.{ObjectRoom}
use Rattle.fr_shared.specs.ObjectsInside.{living_at}
use Rattle.fr_shared.proofs.ObjectParts.{cell_lives, cell_set}
use Rattle.fr_shared.proofs.objects.Objects.set.Goals as goal

pub unreachable-requires : goal.unreachable-requires
unreachable-requires c =
    let o = c.self.inside in
    let lives = subst (λ (v : ObjectRoom). IsSome (flat (slice_get v.cells c.args.count))) (sym c.self.view_is) c.requires.lives in
    let no = subst (λ (x : Option Plain). IsSome x) c.in-Err.ensures.absent (cell_lives (living_at o) o.made c.args.count lives) in
    cc

pub returns-in-Ok : goal.returns-in-Ok
returns-in-Ok c =
    let o = c.self.inside in
    let updates = c.in-Ok.ensures.updates in
    sym (cell_set (living_at o) _ o.made c.args.count c.args.cell (updates.1 ∙ sym c.in-Some.is) updates.2) ∙ ap (λ (v : ObjectRoom). slice_set v.cells c.args.count c.args.cell) c.self.view_is

pub returns-in-None : goal.returns-in-None
returns-in-None c =
    let o = c.self.inside in
    let updates = c.swap_remove.ensures.updates in
    sym (cell_set (living_at o) _ o.made c.args.count c.args.cell (updates.1 ∙ sym c.in-None.is) updates.2) ∙ ap (λ (v : ObjectRoom). slice_set v.cells c.args.count c.args.cell) c.self.view_is
