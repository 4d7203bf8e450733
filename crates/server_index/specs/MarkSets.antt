-- A set of numbers whose few marks stand in a list beside the places (this project's own).
use Rattle.std.specs.Prelude.{◌≡◌, ℕ, ◌+◌, ◌^◌, ◌≤◌, ⊤, ◌==◌, nat_lt, Bool, true, false, if◌then◌else◌, List, [], ◌∷◌, map, Some}
use Rattle.rank_map.specs.Places.{Place, has_place, entries, Rises}

-- whether a number is among others
abbrev pub is_in : ℕ → List ℕ → Bool
is_in k [] = false
is_in k (j ∷ js) = if j == k then true else is_in k js

-- the numbers rise, from the lower bound on
abbrev pub Climbs : ℕ → List ℕ → Type 0
Climbs low [] = ⊤
Climbs low (k ∷ ks) = (low ≤ k) × Climbs (k + 1) ks

-- rising numbers with one more, or the same where it is there
abbrev pub with_number : List ℕ → ℕ → List ℕ
with_number [] k = k ∷ []
with_number (j ∷ js) k = if nat_lt j k then j ∷ with_number js k else (if j == k then j ∷ js else k ∷ j ∷ js)

-- rising numbers without one, or the same where it isn't there
abbrev pub without_number : List ℕ → ℕ → List ℕ
without_number [] k = []
without_number (j ∷ js) k = if nat_lt j k then j ∷ without_number js k else (if j == k then js else j ∷ js)

-- a place is marked where its number is among the few, or it was marked before
abbrev pub lit : List ℕ → List (Place (Unit {0})) → List (Place (Unit {0}))
lit few [] = []
lit few (p ∷ ps) = record { key = p.key; item = if is_in p.key few then Some tt else p.item } ∷ lit few ps

-- the marked numbers
abbrev pub numbers : List (Place (Unit {0})) → List ℕ
numbers ps = map (λ e. e.key) (entries ps)

-- each of the few has a place
abbrev pub HavePlaces : List ℕ → List (Place (Unit {0})) → Type 0
HavePlaces few ps = (k : ℕ) → is_in k few ≡ true → has_place ps k ≡ true

-- the marks stand among the few, or, once they spilled, at the places alone
pub record IsMarkSet (few : List ℕ) (ps : List (Place (Unit {0}))) (spilled : Bool) : Type 0 where
  pub rises : Rises 0 (2 ^ 40) ps
  pub climbs : Climbs 0 few
  pub placed : HavePlaces few ps
  pub listed : spilled ≡ false → entries ps ≡ []
  pub spread : spilled ≡ true → few ≡ []
