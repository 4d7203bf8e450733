use Rattle.std.proofs.Common.{sym, ◌∙◌, subst, arith}
use Rattle.fr_types.specs.Rising.{IsPlaceSet}
use Rattle.fr_types.proofs.SetLemmas.{insert_set, union_start, union_step}
use Rattle.fr_types.proofs.places.Places.union.Goals as goal

pub places-init : goal.places-init
places-init c = record {
  left = omega (arith, c.self.inside.items.ok.0);
  set = subst IsPlaceSet (sym c.in_ok-items.ensures) c.other.invariant;
  same = union_start c.self.inside.items.items c.args.other.now c.in_ok-items.items.items c.len-left.result (omega (arith, c.self.inside.items.ok.0)) (c.in_ok-items.ensures ∙ c.other.view_is);
}

pub places-preserved : goal.places-preserved
places-preserved c = record {
  left = omega (arith, c.places.invariant.left);
  set = subst IsPlaceSet (sym c.in_ok-insert.ensures) (insert_set c.index.result.now c.places.items.items c.places.invariant.set);
  same = c.in_ok-insert.ensures ∙ union_step c.self.inside.items.items c.args.other.now c.places.items.items c.places.left c.index.result.now (omega arith) c.places.invariant.left c.index.ensures c.places.invariant.same;
}
