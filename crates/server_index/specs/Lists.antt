-- Lists of lists (this project's own).
use Rattle.std.specs.Prelude.{ℕ, List, map, Vec}
use Rattle.std.specs.declared.alloc.Global.{Global}

-- the entries of rows
abbrev pub lists : List (Vec ℕ Global) → List (List ℕ)
lists rows = map (λ r. r.items) rows
