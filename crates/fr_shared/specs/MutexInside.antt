-- The fields of the mutexes.
use Rattle.std.specs.Prelude.{◌≡◌, ℕ, ◌+◌, ◌*◌, ◌/◌, ◌%◌, ◌≤◌, ◌^◌, ⊤, List, [], ◌∷◌, Option, Some, None, nat_eq}
use Rattle.indexmap.specs.IndexMap as map
use Rattle.fr_base.specs.declared.name.MutexNo.{MutexNo}
use Rattle.fr_plain.specs.MachineThreads as plain
use Rattle.fr_plain.specs.MachineThreads.{Mutex}
use Rattle.fr_shared.specs.declared.mutexes.Shared.{Shared}
use Rattle.fr_shared.specs.declared.mutexes.Mutexes.TheInside.{Inside}
use Rattle.fr_shared.specs.MutexRoom.{MutexRoom}
use Rattle.fr_shared.specs.Places.{place_of}

-- what is there in the plain machine
abbrev pub there_of : Option Shared → Option plain.Shared
there_of None = None
there_of (Some x) = Some (record { content = x.content; shares = x.shares })

-- a name as one number, and the name of a number
abbrev pub key_of : MutexNo → ℕ
key_of n = n.home * 2 ^ 32 + n.count

abbrev pub name_of : ℕ → MutexNo
name_of k = record { home = k / 2 ^ 32; count = k % 2 ^ 32 }

-- a mutex for each number, by what has a share
abbrev pub mutexes_of : (ℕ → Option Shared) → List ℕ → List Mutex
mutexes_of living [] = []
mutexes_of living (k ∷ ks) = record { number = name_of k; there = there_of (living k) } ∷ mutexes_of living ks

-- no number is there twice
abbrev pub AreApart : List ℕ → Type 0
AreApart [] = ⊤
AreApart (k ∷ ks) = (place_of ks k ≡ None) × AreApart ks

abbrev pub living_at : Inside → ℕ → Option Shared
living_at m k = map.get nat_eq m.living k

abbrev pub mutex_view : Inside → MutexRoom
mutex_view m = record { mutexes = mutexes_of (living_at m) m.places.numbers; spare = m.spare }

-- each name is there once, and whatever has a share has a name; there is room for as many more as it says
pub record AreMutexes (m : Inside) : Type 0 where
  pub apart : AreApart m.places.numbers
  pub named : (k : ℕ) → place_of m.places.numbers k ≡ None → living_at m k ≡ None
  pub place_room : m.spare ≤ m.places.spare
  pub living_room : m.spare ≤ map.spare m.living
