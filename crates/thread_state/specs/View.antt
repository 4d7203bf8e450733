-- What contracts see of a thread: its state, and beside it the room.
use Rattle.std.specs.Prelude.{◌≡◌, ℕ, ◌/◌, ◌^◌, Bool, true, false, List, [], All, Option, None}
use Rattle.heap_partition.specs.declared.value.Owned.{Owned}
use Rattle.thread_state.specs.declared.value.Value.{Value}
use Rattle.thread_state.specs.declared.value.Value.TheVariants as value
use Rattle.thread_state.specs.declared.phase.Phase.{Phase}
use Rattle.thread_state.specs.declared.phase.Phase.TheVariants as phase

pub record ThreadState : Type 0 where
  pub number : ℕ
  pub pc : ℕ
  pub slots : List Value
  pub temps : List Value
  pub phase : Phase
  pub passed : ℕ
  pub walk : List ℕ
  pub gift : Option Owned
  pub made : ℕ
  pub moved_since_step : Bool
  pub home : ℕ

pub record ThreadView : Type 0 where
  pub state : ThreadState
  -- how many more items fit in each of slots, temps and walk without memory
  pub room : ℕ

-- a thread that begins; the server that started it is its home
abbrev pub new_thread : ℕ → ℕ → List Value → ThreadState
new_thread number pc slots = record {
  number = number;
  pc = pc;
  slots = slots;
  temps = [];
  phase = phase.Ready;
  passed = 0;
  walk = [];
  gift = None;
  made = 0;
  moved_since_step = false;
  home = number / 2 ^ 32;
}

-- a shared reference that keeps a cached copy in use
abbrev pub is_pinned : Value → Bool
is_pinned (value.Shared r) = r.pinned
is_pinned _ = false

-- the thread has ended
abbrev pub is_over : Phase → Bool
is_over phase.Over = true
is_over p = false

-- it uses no cached word, and none of its references keeps a copy in use
pub record IsPacked (t : ThreadState) : Type 0 where
  pub walk : t.walk ≡ []
  pub slots : All (λ v. is_pinned v ≡ false) t.slots
  pub temps : All (λ v. is_pinned v ≡ false) t.temps
