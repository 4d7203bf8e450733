-- What contracts see of `Cache`.
use Rattle.std.specs.Prelude.{ℕ, Bool, false, ◌==◌, ◌||◌, if◌then◌else◌, List, [], ◌∷◌, ◌++◌}
use Rattle.read_cache.specs.Cache.{Copy, is_cached}

pub record CacheView : Type 0 where
  -- the copies, the one that was filled first first
  pub state : List Copy
  -- the words that have no copy and room for one
  pub rooms : List ℕ

abbrev pub is_among : List ℕ → ℕ → Bool
is_among [] w = false
is_among (x ∷ xs) w = (x == w) || is_among xs w

-- the word can be filled without memory
abbrev pub has_place : CacheView → ℕ → Bool
has_place v w = is_cached v.state w || is_among v.rooms w

-- after room was made for the word
abbrev pub with_room : CacheView → ℕ → List ℕ
with_room v w = if has_place v w then v.rooms else v.rooms ++ w ∷ []

-- after the word's room was used
abbrev pub without_room : List ℕ → ℕ → List ℕ
without_room [] w = []
without_room (x ∷ xs) w = if x == w then xs else x ∷ without_room xs w
