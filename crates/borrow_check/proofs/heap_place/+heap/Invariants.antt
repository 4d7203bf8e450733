use Rattle.std.proofs.Common.{◌≡◌, ◌≤◌, ◌+◌, ◌*◌, List, drop}
use Rattle.std.specs.List.{list_all}
use Rattle.fr_terms.specs.Terms.{Text}
use Rattle.fr_typing.specs.Places.{is_heap_place}
use Rattle.fr_types.specs.States.{env_of}
use Rattle.borrow_check.proofs.heap_place.+heap.Given as goal

abbrev pub decreases-is_heap_place : goal.decreases-is_heap_place
decreases-is_heap_place l = 4 * l.w.slot + 3

abbrev pub invariant-is_heap_place-references : goal.invariant-is_heap_place-references
invariant-is_heap_place-references l = record {
  low : l.at.slot ≤ l.fn.w.slot;
  same : (names : List Text) → is_heap_place (env_of names l.env) l.at ≡ is_heap_place (env_of names l.env) l.fn.w;
}

abbrev pub decreases-is_heap_place-references : goal.decreases-is_heap_place-references
decreases-is_heap_place-references l = l.at.slot

abbrev pub decreases-leads_to_heap : goal.decreases-leads_to_heap
decreases-leads_to_heap l = 4 * l.bound + 2

abbrev pub decreases-refers_to_heap : goal.decreases-refers_to_heap
decreases-refers_to_heap l = 4 * l.bound + 1

abbrev pub decreases-are_heap_places : goal.decreases-are_heap_places
decreases-are_heap_places l = 4 * l.bound

abbrev pub invariant-are_heap_places-places : goal.invariant-are_heap_places-places
invariant-are_heap_places-places l = (names : List Text) → list_all (is_heap_place (env_of names l.env)) (drop l.next l.us) ≡ list_all (is_heap_place (env_of names l.env)) l.us
