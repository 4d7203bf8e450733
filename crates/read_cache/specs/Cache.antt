-- Cached copies (in the manner of DRust; that a copy in use stays, and the order of copies, are this project's rules).
use Rattle.std.specs.Prelude.{ℕ, ◌+◌, ◌-◌, ◌^◌, Bool, true, ◌==◌, ◌&&◌, nat_lt, if◌then◌else◌, List, [], ◌∷◌, Option, Some, None, is_some}
use Rattle.heap_partition.specs.declared.value.Cell.{Cell}
use Rattle.heap_partition.specs.Same.{same_cell}

-- a copy of an object's cell under the word that it was served for, and how many walks and pinned references use it
pub record Copy : Type 0 where
  pub word : ℕ
  pub cell : Cell
  pub users : ℕ

-- the copy under a word, where it is there
abbrev pub copy_of : List Copy → ℕ → Option Copy
copy_of [] w = None
copy_of (c ∷ cs) w = if c.word == w then Some c else copy_of cs w

abbrev pub cell_in : Option Copy → Option Cell
cell_in None = None
cell_in (Some c) = Some c.cell

-- the cell that a copy under the word has
abbrev pub hit : List Copy → ℕ → Option Cell
hit cs w = cell_in (copy_of cs w)

abbrev pub is_cached : List Copy → ℕ → Bool
is_cached cs w = is_some (copy_of cs w)

abbrev pub users_in : Option Copy → ℕ
users_in None = 0
users_in (Some c) = c.users

-- how many use the copy: 0 where it isn't there
abbrev pub users : List Copy → ℕ → ℕ
users cs w = users_in (copy_of cs w)

abbrev pub same_or_absent : Option Cell → Cell → Bool
same_or_absent None new = true
same_or_absent (Some old) new = same_cell old new

-- a copy that is there has that cell
abbrev pub can_fill : List Copy → ℕ → Cell → Bool
can_fill cs w cell = same_or_absent (hit cs w) cell

-- a new copy goes last, and nobody uses it; one that is there stays
abbrev pub fill : List Copy → ℕ → Cell → List Copy
fill [] w cell = record { word = w; cell = cell; users = 0 } ∷ []
fill (c ∷ cs) w cell = if c.word == w then c ∷ cs else c ∷ fill cs w cell

-- the copy under the word gets that many users
abbrev pub with_users : List Copy → ℕ → ℕ → List Copy
with_users [] w n = []
with_users (c ∷ cs) w n = if c.word == w then record c { users = n } ∷ cs else c ∷ with_users cs w n

-- it is there, and one user more can be counted
abbrev pub can_pin : List Copy → ℕ → Bool
can_pin cs w = is_cached cs w && nat_lt (users cs w) (2 ^ 64 - 1)

-- one user more
abbrev pub pin : List Copy → ℕ → List Copy
pin cs w = with_users cs w (users cs w + 1)

-- it has a user
abbrev pub can_unpin : List Copy → ℕ → Bool
can_unpin cs w = nat_lt 0 (users cs w)

-- one user less
abbrev pub unpin : List Copy → ℕ → List Copy
unpin cs w = with_users cs w (users cs w - 1)

-- it is there, and nobody uses it
abbrev pub can_evict : List Copy → ℕ → Bool
can_evict cs w = is_cached cs w && (users cs w == 0)

abbrev pub without_copy : List Copy → ℕ → List Copy
without_copy [] w = []
without_copy (c ∷ cs) w = if c.word == w then cs else c ∷ without_copy cs w

-- the copy goes, and the others keep their order; one in use stays
abbrev pub evict : List Copy → ℕ → List Copy
evict cs w = if can_evict cs w then without_copy cs w else cs

-- the first copy that nobody uses
abbrev pub oldest_unused : List Copy → Option ℕ
oldest_unused [] = None
oldest_unused (c ∷ cs) = if c.users == 0 then Some c.word else oldest_unused cs
