-- What contracts see of what is kept for new threads (this project's own).
use Rattle.std.specs.Prelude.{ℕ, ◌≤◌, ⊤, length}
use Rattle.fr_base.specs.declared.instruction.Instr.{Instr}
use Rattle.fr_base.specs.declared.instruction.Instr.TheVariants as instr

pub record SparesView : Type 0 where
  -- how many slots fit in each list without memory
  pub first : ℕ
  pub second : ℕ
  -- how many threads have a box
  pub boxes : ℕ

-- the new threads of a step have boxes, and the values that they capture fit
abbrev pub HasSpares : SparesView → Instr → Type 0
HasSpares s (instr.Spawn cs pc) = (length cs.items ≤ s.first) × (1 ≤ s.boxes)
HasSpares s (instr.Par cs pc ds other) = (length cs.items ≤ s.first) × (length ds.items ≤ s.second) × (2 ≤ s.boxes)
HasSpares s i = ⊤
