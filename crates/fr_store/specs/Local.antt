-- Threads that share no memory: each reference is to a slot of the thread that has it (this project's rule).
use Rattle.std.specs.Prelude.{◌≡◌, ℕ, Bool, Option, Some, None}
use Rattle.fr_store.specs.Keys.{Key, slot_k, temp_k, content_k, result_k, hand_k}
use Rattle.fr_store.specs.Store.{Place}
use Rattle.fr_store.specs.Typed.{refers, KeyTypes}

-- the thread whose slot or hand the key is
abbrev pub thread_of : Key → Option ℕ
thread_of (slot_k t n) = Some t
thread_of (temp_k t n) = None
thread_of (content_k h n) = None
thread_of (result_k t) = None
thread_of (hand_k t) = Some t

-- the place is of a slot of the key's thread
pub record IsOwnPlace (k : Key) (u : Place) : Type 0 where
  pub thread : ℕ
  pub slot : ℕ
  pub of : thread_of k ≡ Some thread
  pub is : u.key ≡ slot_k thread slot

abbrev pub IsLocal : KeyTypes → Type 0
IsLocal E = (k : Key) (m : Bool) (u : Place) → E k ≡ refers m u → IsOwnPlace k u
