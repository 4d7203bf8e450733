-- What chunks of slots stand for.
use Rattle.std.specs.Prelude.{◌≡◌, ℕ, ◌-◌, Bool, true, false, List, [], ◌∷◌, ◌++◌, Option, None, Some, length, min}
use Rattle.heap_partition.specs.declared.value.Cell.{Cell}

-- the slots of a chunk: a cell counts where its bit is set
abbrev pub slots : List Bool → List Cell → List (Option Cell)
slots [] cs = []
slots (b ∷ bs) [] = []
slots (true ∷ bs) (c ∷ cs) = Some c ∷ slots bs cs
slots (false ∷ bs) (c ∷ cs) = None ∷ slots bs cs

-- the slots of all chunks, one chunk after another
abbrev pub slots_of : List (List (Option Cell)) → List (Option Cell)
slots_of [] = []
slots_of (c ∷ cs) = c ++ slots_of cs

-- n slots were used: all 1,024 of each chunk before the one that has the last of them
abbrev pub HaveUsed : List (List (Option Cell)) → ℕ → Type 0
HaveUsed [] n = n ≡ 0
HaveUsed (c ∷ cs) n = (length c ≡ min n 1024) × HaveUsed cs (n - 1024)

-- no slot is used before those of the chunks before it
abbrev pub ArePacked : List (List (Option Cell)) → Type 0
ArePacked cs = HaveUsed cs (length (slots_of cs))
