-- A heap's fields.
use Rattle.std.specs.Prelude.{◌≡◌, ℕ, ◌<◌, ⊤, List, [], length, map, Option, Some, None, slice_index_or, vec_len, vec_capacity}
use Rattle.fr_base.specs.declared.label.Plain.{Plain}
use Rattle.fr_shared.specs.declared.heap.Heap.TheInside.{Inside}
use Rattle.fr_shared.specs.Places.{place_of}
use Rattle.fr_shared.specs.HeapRoom.{HeapRoom, heap_by}
use Rattle.fr_shared.specs.ObjectRoom.{ObjectRoom}

abbrev pub cells_of : Inside → List (List (Option Plain))
cells_of h = map (λ os. os.cells) h.objects.items

abbrev pub heap_view : Inside → HeapRoom
heap_view h = record { heap = heap_by h.places.numbers (cells_of h); ready = h.ready }

-- a thread without a place has room for its first object
pub record FirstFits (h : Inside) : Type 0 where
  pub first : 0 < h.first.spare
  pub place : 0 < h.places.spare
  pub list : vec_len h.objects < vec_capacity h.objects

-- the thread that stands at this place has room for another object, and one without a place for its first
abbrev pub HasRoom : Type 0 → List ObjectRoom → Option ℕ → Type 0
HasRoom First os None = First
HasRoom First os (Some i) = 0 < slice_index_or (map (λ o. o.spare) os) i 1

abbrev pub IsReady : Inside → Option ℕ → Type 0
IsReady h None = ⊤
IsReady h (Some t) = HasRoom (FirstFits h) h.objects.items (place_of h.places.numbers t)

-- a list for each number, and room for the thread that is ready
pub record IsHeap (h : Inside) : Type 0 where
  pub same : length h.objects.items ≡ length h.places.numbers
  pub empty : h.first.cells ≡ []
  pub room : IsReady h h.ready
