use Rattle.std.proofs.Common.{◌==◌, ◌∙◌, nat_eq, refl}
use Rattle.indexmap.specs.IndexMap.{get}
use Rattle.coloured_heap.proofs.Entering.{main_stands}
use Rattle.coloured_heap.proofs.tables.Tables.new.Goals as goal

pub returns : goal.returns
returns c = record {
  objects = λ p. rw c.new.ensures.empty refl;
  cached = λ here w. rw c.new-2.ensures.empty refl;
  served = λ p w here. rw c.new-3.ensures refl;
  issued = λ w. rw c.new-4.ensures.empty refl;
  threads = λ t. c.in-Ok.ensures.updates.0 t ∙ main_stands (0 == t) (get nat_eq c.new-threads.result t) (rw c.new-threads.ensures.empty refl);
  wishes = λ a. rw c.new-5.ensures refl;
  mutexes = λ m. rw c.new-6.ensures.empty refl;
}
