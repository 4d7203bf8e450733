-- The copies that nobody uses, by age.
use Rattle.std.specs.Prelude.{◌≡◌, ℕ, ◌+◌, ◌^◌, ◌≤◌, ◌<◌, true, ◌==◌, if◌then◌else◌, List, [], ◌∷◌, Option, None, Some}
use Rattle.rank_map.specs.Places.{Place, Entry, has_place, entry_first, entries, Rises}
use Rattle.read_cache.specs.Slots.{Aged}

-- the word of a copy with so many users, where it has none
abbrev pub word_if : ℕ → ℕ → Option ℕ
word_if w users = if users == 0 then Some w else None

-- the words of the copies that nobody uses, by age
abbrev pub unused_of : List Aged → List (Entry ℕ)
unused_of [] = []
unused_of (h ∷ hs) = entry_first h.age (word_if h.word h.users) (unused_of hs)

-- the ranks rise, from the lower bound on and below the upper one
abbrev pub RisesBy : {X : Type 0} → (X → ℕ) → ℕ → ℕ → List X → Type 0
RisesBy rank low high [] = low ≤ high
RisesBy rank low high (x ∷ xs) = (low ≤ rank x) × RisesBy rank (rank x + 1) high xs

-- the ages do
abbrev pub AgesRise : ℕ → ℕ → List Aged → Type 0
AgesRise low high hs = RisesBy (λ h. h.age) low high hs

-- each age has a place
abbrev pub ArePlaced : List Aged → List (Place ℕ) → Type 0
ArePlaced [] ps = Unit {0}
ArePlaced (h ∷ hs) ps = (has_place ps h.age ≡ true) × ArePlaced hs ps

-- the set has the copies that nobody uses, and places for all copies and for so many more
pub record IsAged (hs : List Aged) (ps : List (Place ℕ)) (next rooms : ℕ) : Type 0 where
  pub rises : AgesRise 0 next hs
  pub places : Rises 0 (2 ^ 40) ps
  pub same : entries ps ≡ unused_of hs
  pub held : ArePlaced hs ps
  pub free : (k : ℕ) → next ≤ k → k < next + rooms → has_place ps k ≡ true
  pub few : next + rooms ≤ 2 ^ 40
