-- The one heap of Featherweight Rust: a map from object names to the values of their cells.
use Rattle.std.specs.Prelude.{ℕ, suc, zero, ◌+◌, ◌==◌, List, [], ◌∷◌, ◌++◌, length, slice_get, slice_set, Option, Some, None, if◌then◌else◌}
use Rattle.fr_base.specs.declared.label.Plain.{Plain}
use Rattle.fr_base.specs.declared.label.Plain.TheVariants as plain
use Rattle.fr_base.specs.declared.name.ObjNo.{ObjNo}

-- the objects that a thread has made, in order; None where one was dropped
pub record Made : Type 0 where
  pub thread : ℕ
  pub cells : List (Option Plain)

-- an entry for each thread
abbrev pub Heap : Type 0
Heap = List Made

abbrev pub made_by : Heap → ℕ → List (Option Plain)
made_by [] t = []
made_by (m ∷ ms) t = if m.thread == t then m.cells else made_by ms t

abbrev pub flat : Option (Option Plain) → Option Plain
flat None = None
flat (Some cell) = cell

-- the value of an object's cell, where the object lives
abbrev pub cell_at : Heap → ObjNo → Option Plain
cell_at h o = flat (slice_get (made_by h o.thread) o.count)

-- a thread that has no entry gets one
abbrev pub with_cells : Heap → ℕ → List (Option Plain) → Heap
with_cells [] t cells = record { thread = t; cells = cells } ∷ []
with_cells (m ∷ ms) t cells = if m.thread == t then record m { cells = cells } ∷ ms else m ∷ with_cells ms t cells

-- the heap with another value in an object's cell, or without the object
abbrev pub with_cell : Heap → ObjNo → Option Plain → Heap
with_cell h o cell = with_cells h o.thread (slice_set (made_by h o.thread) o.count cell)

-- the next object of a thread
abbrev pub next_object : Heap → ℕ → ObjNo
next_object h t = record { thread = t; count = length (made_by h t) }

abbrev pub with_object : Heap → ℕ → Plain → Heap
with_object h t v = with_cells h t (made_by h t ++ Some v ∷ [])

-- how many objects live
abbrev pub count_cells : List (Option Plain) → ℕ
count_cells [] = 0
count_cells (None ∷ cells) = count_cells cells
count_cells (Some v ∷ cells) = suc (count_cells cells)

abbrev pub live : Heap → ℕ
live [] = 0
live (m ∷ ms) = count_cells m.cells + live ms

abbrev pub then_drop : Option Plain → Heap → (Plain → Heap) → Heap
then_drop None h go = h
then_drop (Some v) h go = go v

-- dropping a value: a box's object goes, then the value that was in it; at most so many objects
abbrev pub drop_links : ℕ → Heap → Plain → Heap
drop_links zero h v = h
drop_links (suc n) h (plain.Box o) = then_drop (cell_at h o) h (drop_links n (with_cell h o None))
drop_links (suc n) h v = h

-- no more objects can go than live
abbrev pub dropped : Heap → Plain → Heap
dropped h v = drop_links (live h) h v

-- what a drop of the value drops last: what stands at the end of its boxes, at most so many
abbrev pub then_link : Option Plain → (Plain → Plain) → Plain
then_link None go = plain.Nothing
then_link (Some v) go = go v

abbrev pub last_link : ℕ → Heap → Plain → Plain
last_link zero h v = v
last_link (suc n) h (plain.Box o) = then_link (cell_at h o) (last_link n (with_cell h o None))
last_link (suc n) h v = v

-- the thread of a task
abbrev pub task_of : Plain → Option ℕ
task_of (plain.Task t) = Some t
task_of _ = None
