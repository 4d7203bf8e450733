-- What an input is answered that is to be replayed.
use Rattle.std.specs.Prelude.{ℕ, List, ⊤}
use Rattle.source_front.specs.declared.refused.Refused.{Refused}
use Rattle.source_front.specs.declared.refused.Refused.TheVariants.{Order, NoMemory}
use Rattle.source_front.specs.Refusals.{HasCause, status_of, text_of}
use Rattle.replay_answers.specs.Replay.{source_in, Replays, HasBadOrder}

-- the cause of a refusal of a source with an order behind it: of the order, or of the source in front of it
abbrev pub HasReplayCause : List ℕ → Refused → Type 0
HasReplayCause bytes (Order place) = HasBadOrder bytes place
HasReplayCause bytes why = HasCause (source_in bytes) why

-- a refusal has its cause; of want of memory nothing is said
abbrev pub IsUnfollowedBy : List ℕ → Refused → Type 0
IsUnfollowedBy bytes NoMemory = ⊤
IsUnfollowedBy bytes why = HasReplayCause bytes why

-- the text of the input's run under the order behind the source, or why it has none (why the source has none, or where the order is
-- refused)
pub data Replayed (bytes : List ℕ) : (status : ℕ) → (text : List ℕ) → Type 0 where
  followed : {status : ℕ} {text : List ℕ} → Replays bytes status text → Replayed bytes status text
  unfollowed : (why : Refused) → HasReplayCause bytes why → Replayed bytes (status_of why) (text_of why)
