use Rattle.std.proofs.Common.{◌≡◌}
use Rattle.fr_plain.specs.Heap.{dropped, live, last_link}
use Rattle.fr_shared.proofs.heap.Heap.drop_plain.Given as goal

abbrev pub invariant-links : goal.invariant-links
invariant-links l = record {
  heap : dropped l.self.heap l.value ≡ dropped l.initial.self.heap l.initial.value;
  last : last_link (live l.self.heap) l.self.heap l.value ≡ last_link (live l.initial.self.heap) l.initial.self.heap l.initial.value;
}

abbrev pub decreases-links : goal.decreases-links
decreases-links l = live l.self.heap
