-- How many addresses are live after each change of the cells.
use Rattle.std.proofs.Common.{arith, ◌≡◌, ◌+◌, ◌<◌, ℕ, List, [], ◌∷◌, ◌++◌, length, slice_index_or, slice_set, zero, suc, refl, ap}
use Rattle.std.specs.Prelude.{Option, Some, None, IsSome}
use Rattle.heap_partition.specs.declared.value.Cell.{Cell}
use Rattle.owner_box.specs.Partition.{live_count}

-- a vacant address that gets a cell is one more
pub live-put : (cells : List (Option Cell)) (a : ℕ) (cell : Cell) → a < length cells → slice_index_or cells a None ≡ None
    → live_count (slice_set cells a (Some cell)) ≡ live_count cells + 1
live-put [] a cell l v = absurd (omega (arith, l))
live-put (None ∷ rest) zero cell l v = refl
live-put (Some x ∷ rest) zero cell l v = cc
live-put (None ∷ rest) (suc a) cell l v = live-put rest a cell (omega (arith, l)) v
live-put (Some x ∷ rest) (suc a) cell l v = ap (λ n. n + 1) (live-put rest a cell (omega (arith, l)) v)

-- a live address that is emptied is one less
pub live-take : (cells : List (Option Cell)) (a : ℕ) → IsSome (slice_index_or cells a None)
    → live_count (slice_set cells a None) + 1 ≡ live_count cells
live-take [] a v = cc
live-take (None ∷ rest) zero v = cc
live-take (Some x ∷ rest) zero v = refl
live-take (None ∷ rest) (suc a) v = live-take rest a v
live-take (Some x ∷ rest) (suc a) v = ap (λ n. n + 1) (live-take rest a v)

-- a live address that gets another cell stays live
pub live-set : (cells : List (Option Cell)) (a : ℕ) (cell : Cell) → IsSome (slice_index_or cells a None)
    → live_count (slice_set cells a (Some cell)) ≡ live_count cells
live-set [] a cell v = cc
live-set (None ∷ rest) zero cell v = cc
live-set (Some x ∷ rest) zero cell v = refl
live-set (None ∷ rest) (suc a) cell v = live-set rest a cell v
live-set (Some x ∷ rest) (suc a) cell v = ap (λ n. n + 1) (live-set rest a cell v)

-- a cell at the end is one more
pub live-push : (cells : List (Option Cell)) (cell : Cell) → live_count (cells ++ Some cell ∷ []) ≡ live_count cells + 1
live-push [] cell = refl
live-push (None ∷ rest) cell = live-push rest cell
live-push (Some x ∷ rest) cell = ap (λ n. n + 1) (live-push rest cell)

-- a live address was used before
pub live_below : (cells : List (Option Cell)) (a : ℕ) → IsSome (slice_index_or cells a None) → a < length cells
live_below [] a v = absurd cc
live_below (x ∷ rest) zero v = omega arith
live_below (x ∷ rest) (suc a) v = omega (arith, live_below rest a v)
