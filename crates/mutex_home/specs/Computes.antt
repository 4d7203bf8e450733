-- Some calls on the mutexes of a server, computed.
use Rattle.std.specs.Prelude.{◌≡◌, ℕ, pos, List, [], ◌∷◌, Option, Some, None}
use Rattle.fr_base.specs.declared.name.MutexNo.{MutexNo}
use Rattle.heap_partition.specs.declared.value.Owned.{Owned}
use Rattle.heap_partition.specs.declared.value.Owned.TheVariants as owned
use Rattle.mutex_home.specs.Mutexes.{Mutexes, make, ask, give_back, more, less}
use Rattle.mutex_home.specs.declared.answers.Asked.TheVariants.{Queued, Granted}
use Rattle.mutex_home.specs.declared.answers.Back.TheVariants.{Next, Ended, Kept}

abbrev first : MutexNo
first = record { home = 2; count = 1 }

abbrev int : ℕ → Owned
int n = owned.Int (pos n)

-- one mutex was made at server 2
abbrev one : Option Owned → ℕ → List (ℕ × ℕ) → Mutexes
one content shares queue = record { home = 2; made = 1; there = record { number = first; content = content; shares = shares; queue = queue } ∷ [] }

abbrev none : Mutexes
none = record { home = 2; made = 1; there = [] }

pub record MutexesCompute : Type 0 where
  pub made : make (record { home = 2; made = 0; there = [] }) (int 3) ≡ one (Some (int 3)) 1 []
  -- the content is granted where it is in, and else the one that asks waits last
  pub granted : ask (one (Some (int 3)) 1 []) first 1 4 ≡ Some (one None 1 [], Granted (int 3))
  pub queued : ask (one None 2 ((1, 4) ∷ [])) first 0 5 ≡ Some (one None 2 ((1, 4) ∷ (0, 5) ∷ []), Queued)
  -- the content goes on to the first that waits, else it is in again, and without a share the mutex ends
  pub next : give_back (one None 2 ((1, 4) ∷ (0, 5) ∷ [])) first (int 6) ≡ Some (one None 2 ((0, 5) ∷ []), Next 1 4 (int 6))
  pub kept : give_back (one None 1 []) first (int 6) ≡ Some (one (Some (int 6)) 1 [], Kept)
  pub ended : give_back (one None 0 []) first (int 6) ≡ Some (none, Ended (int 6))
  pub given_twice : give_back (one (Some (int 3)) 1 []) first (int 6) ≡ None
  -- shares; the last one ends the mutex where the content is in
  pub one_more : more (one (Some (int 3)) 1 []) first ≡ Some (one (Some (int 3)) 2 [])
  pub one_less : less (one (Some (int 3)) 2 []) first ≡ Some (one (Some (int 3)) 1 [], None)
  pub last_in : less (one (Some (int 3)) 1 []) first ≡ Some (none, Some (int 3))
  pub last_out : less (one None 1 []) first ≡ Some (one None 0 [], None)
  pub no_share : more (one None 0 []) first ≡ None
  pub not_there : ask none first 1 4 ≡ None
