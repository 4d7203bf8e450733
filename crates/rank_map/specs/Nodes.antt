-- What a tree's node stands for.
use Rattle.std.specs.Prelude.{◌≡◌, ℕ, ◌+◌, ◌^◌, ◌<◌, ◌≤◌, List, [], ◌++◌, length, ⊤}
use Rattle.rank_map.specs.Places.{Place, entries, Rises}
use Rattle.rank_map.specs.declared.tree.Node.{Node}
use Rattle.rank_map.specs.declared.tree.Node.TheVariants.{Empty, Leaf, Fork}

-- the places of a node
abbrev pub places_in : {T : Type 0} → Node T → List (Place T)
places_in Empty = []
places_in (Leaf block) = block.places
places_in (Fork fork) = fork.value.low ++ fork.value.high

-- the places of some keys in two parts, of which neither is empty, and how many items they have
pub record IsFork {T : Type 0} (from middle to items : ℕ) (low high : List (Place T)) : Type 0 where
  pub few : to ≤ 2 ^ 40
  pub low_rises : Rises from middle low
  pub high_rises : Rises middle to high
  pub low_some : 0 < length low
  pub high_some : 0 < length high
  pub count : items ≡ length (entries low) + length (entries high)

-- a leaf has a place; a fork has its places in two parts, and counts the items
abbrev pub IsNode : {T : Type 0} → Node T → Type 0
IsNode Empty = ⊤
IsNode (Leaf block) = 0 < length block.places
IsNode (Fork fork) = IsFork fork.value.from fork.value.middle fork.value.to fork.value.count fork.value.low fork.value.high
