-- Keys: where a value stands that is no object. Objects have names of their own.
use Rattle.std.specs.Prelude.{ℕ, Bool, false, ◌&&◌, ◌==◌}
pub use Rattle.fr_base.specs.Names.{same_object}

-- a thread's slot of that number (this project's rule: threads), a temporary value of its code, the content of a mutex,
-- the result of a thread that has ended, and a thread's hand: the one value in its running term. Threads are numbers
pub data Key : Type 0 where
  slot_k : (thread number : ℕ) → Key
  temp_k : (thread depth : ℕ) → Key
  content_k : (home count : ℕ) → Key
  result_k : (thread : ℕ) → Key
  hand_k : (thread : ℕ) → Key

-- whether two keys are the same
abbrev pub same_key : Key → Key → Bool
same_key (slot_k t n) (slot_k u m) = t == u && n == m
same_key (temp_k t n) (temp_k u m) = t == u && n == m
same_key (content_k t n) (content_k u m) = t == u && n == m
same_key (result_k t) (result_k u) = t == u
same_key (hand_k t) (hand_k u) = t == u
same_key _ _ = false
