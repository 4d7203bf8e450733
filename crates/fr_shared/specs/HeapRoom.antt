-- What contracts see of the heap.
use Rattle.std.specs.Prelude.{ℕ, List, [], ◌∷◌, Option}
use Rattle.fr_base.specs.declared.label.Plain.{Plain}
use Rattle.fr_plain.specs.Heap.{Heap}

pub record HeapRoom : Type 0 where
  pub heap : Heap
  -- the thread whose next object fits without memory
  pub ready : Option ℕ

-- each thread's objects, by the threads' numbers in order
abbrev pub heap_by : List ℕ → List (List (Option Plain)) → Heap
heap_by [] cells = []
heap_by (n ∷ ns) [] = []
heap_by (n ∷ ns) (cs ∷ rest) = record { thread = n; cells = cs } ∷ heap_by ns rest
