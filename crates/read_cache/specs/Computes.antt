-- Some calls on cached copies, computed.
use Rattle.std.specs.Prelude.{◌≡◌, ℕ, pos, true, false, List, [], ◌∷◌, Some, None}
use Rattle.heap_partition.specs.declared.value.Cell.{Cell}
use Rattle.heap_partition.specs.declared.value.Owned.TheVariants as owned
use Rattle.read_cache.specs.Cache.{Copy, hit, users, can_fill, fill, can_pin, pin, can_unpin, unpin, can_evict, evict, oldest_unused}

-- the cell of an object of main with a number in it
abbrev cell : ℕ → Cell
cell n = record { object = record { thread = 0; count = n }; value = owned.Int (pos n) }

abbrev copy : ℕ → ℕ → Copy
copy n users = record { word = n; cell = cell n; users = users }

abbrev two : List Copy
two = fill (fill [] 7 (cell 7)) 5 (cell 5)

pub record CacheComputes : Type 0 where
  -- a new copy goes last with no user, and one that is there stays as it was
  pub fills : two ≡ copy 7 0 ∷ copy 5 0 ∷ []
  pub fills_again : fill (pin two 7) 7 (cell 7) ≡ copy 7 1 ∷ copy 5 0 ∷ []
  pub same_cell : can_fill two 7 (cell 7) ≡ true
  pub other_cell : can_fill two 7 (cell 5) ≡ false
  pub hits : hit two 5 ≡ Some (cell 5)
  pub misses : hit two 6 ≡ None
  -- users are counted
  pub pins : users (pin (pin two 5) 5) 5 ≡ 2
  pub unpins : unpin (pin (pin two 5) 5) 5 ≡ copy 7 0 ∷ copy 5 1 ∷ []
  pub no_copy : can_pin two 6 ≡ false
  pub no_user : can_unpin two 5 ≡ false
  -- a copy in use stays
  pub unused_goes : evict two 7 ≡ copy 5 0 ∷ []
  pub used_stays : evict (pin two 7) 7 ≡ pin two 7
  pub absent : can_evict two 6 ≡ false
  pub oldest : oldest_unused two ≡ Some 7
  pub second_oldest : oldest_unused (pin two 7) ≡ Some 5
  pub all_used : oldest_unused (pin (pin two 7) 5) ≡ None
