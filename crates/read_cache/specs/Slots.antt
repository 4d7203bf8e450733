-- What the entries of a cache's map stand for, whatever their order.
use Rattle.std.specs.Prelude.{◌≡◌, ℕ, zero, suc, true, false, ◌==◌, nat_lt, if◌then◌else◌, List, [], ◌∷◌, Option, Some, None}
use Rattle.heap_partition.specs.declared.value.Cell.{Cell}
use Rattle.read_cache.specs.Cache.{Copy}
use Rattle.read_cache.specs.declared.slot.Slot.{Slot}
use Rattle.read_cache.specs.declared.slot.Slot.TheVariants.{Room, Held}

-- a copy and its age: how many copies were filled before it
pub record Aged : Type 0 where
  pub word : ℕ
  pub cell : Cell
  pub users : ℕ
  pub age : ℕ

-- a word that has room alone, and the number of its room
pub record Numbered : Type 0 where
  pub word : ℕ
  pub number : ℕ

-- before the first with a higher rank
abbrev pub put_by : {X : Type 0} → (X → ℕ) → X → List X → List X
put_by rank x [] = x ∷ []
put_by rank x (y ∷ ys) = if nat_lt (rank x) (rank y) then x ∷ y ∷ ys else y ∷ put_by rank x ys

abbrev pub put_some : {X : Type 0} → (X → ℕ) → Option X → List X → List X
put_some rank None xs = xs
put_some rank (Some x) xs = put_by rank x xs

-- what the entries give, by rank
abbrev pub sorted_by : {X : Type 0} → (X → ℕ) → (ℕ × Slot → Option X) → List (ℕ × Slot) → List X
sorted_by rank of [] = []
sorted_by rank of (e ∷ es) = put_some rank (of e) (sorted_by rank of es)

abbrev pub held : ℕ → Slot → Option Aged
held w (Room number) = None
held w (Held cell users age) = Some record { word = w; cell = cell; users = users; age = age }

abbrev pub numbered : ℕ → Slot → Option Numbered
numbered w (Room number) = Some record { word = w; number = number }
numbered w (Held cell users age) = None

-- the copies among the entries, the one that was filled first first
abbrev pub held_in : List (ℕ × Slot) → List Aged
held_in es = sorted_by (λ h. h.age) (λ e. held e.0 e.1) es

-- the rooms among the entries, the oldest first
abbrev pub numbered_in : List (ℕ × Slot) → List Numbered
numbered_in es = sorted_by (λ r. r.number) (λ e. numbered e.0 e.1) es

abbrev pub copies_of : List Aged → List Copy
copies_of [] = []
copies_of (h ∷ hs) = record { word = h.word; cell = h.cell; users = h.users } ∷ copies_of hs

-- the copies among the entries
abbrev pub copies_in : List (ℕ × Slot) → List Copy
copies_in es = copies_of (held_in es)

abbrev pub words_of : List Numbered → List ℕ
words_of [] = []
words_of (r ∷ rs) = r.word ∷ words_of rs

-- the words that have room alone
abbrev pub rooms_in : List (ℕ × Slot) → List ℕ
rooms_in es = words_of (numbered_in es)

-- no entry has the word
abbrev pub IsAbsent : List (ℕ × Slot) → ℕ → Type 0
IsAbsent [] w = Unit {0}
IsAbsent (e ∷ es) w = ((e.0 == w) ≡ false) × IsAbsent es w

-- the entry of the word stands at that place, and no other has the word
abbrev pub StandsAt : List (ℕ × Slot) → ℕ → ℕ → Slot → Type 0
StandsAt [] w at slot = true ≡ false
StandsAt (e ∷ es) w zero slot = (e.0 ≡ w) × (e.1 ≡ slot) × IsAbsent es w
StandsAt (e ∷ es) w (suc at) slot = ((e.0 == w) ≡ false) × StandsAt es w at slot

-- the word has room, by the entry at that place
abbrev pub StandsAsRoom : List (ℕ × Slot) → ℕ → ℕ → Type 0
StandsAsRoom es w at = (number : ℕ) × StandsAt es w at (Room number)
