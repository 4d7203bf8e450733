use Rattle.std.proofs.Common.{sym, ap, ◌∙◌, arith}
use Rattle.fr_plain.specs.Heap.{dropped, live, last_link}
use Rattle.fr_plain.proofs.HeapLemmas.{live_falls, dropped_box, link_box}
use Rattle.fr_shared.proofs.heap.Heap.drop_plain.Goals as goal

pub links-smaller : goal.links-smaller
links-smaller c =
    let less = live_falls c.links.self.heap c.in-Box.object c.in-Some.inner (sym c.get.ensures ∙ c.in-Some.is) in
    let e = ap live c.put.ensures in
    omega (arith, less, e)

pub links-preserved : goal.links-preserved
links-preserved c =
    record {
      heap =
          ap (λ h. dropped h c.in-Some.inner) c.put.ensures
          ∙ sym (dropped_box c.links.self.heap c.in-Box.object c.in-Some.inner (sym c.get.ensures ∙ c.in-Some.is))
          ∙ ap (dropped c.links.self.heap) (sym c.in-Box.is) ∙ c.links.invariant.heap;
      last =
          ap (λ h. last_link (live h) h c.in-Some.inner) c.put.ensures
          ∙ sym (link_box c.links.self.heap c.in-Box.object c.in-Some.inner (sym c.get.ensures ∙ c.in-Some.is))
          ∙ ap (last_link (live c.links.self.heap) c.links.self.heap) (sym c.in-Box.is) ∙ c.links.invariant.last;
    }
