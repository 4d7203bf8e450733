-- How a pointer leads on (in the manner of DRust: an object is read here, from a copy, or copied first, and comes here to be
-- written; this project's rules). A hop is determined by the pointer, the server and the words that are cached there.
use Rattle.std.specs.Prelude.{if◌then◌else◌, ℕ, ◌==◌, List, Option, Some, None}
use Rattle.global_addr.specs.Words.{server_of}
use Rattle.heap_partition.specs.declared.value.Owned.TheVariants as owned
use Rattle.thread_state.specs.declared.value.Value.{Value}
use Rattle.thread_state.specs.declared.value.Value.TheVariants as value
use Rattle.read_cache.specs.Cache.{Copy, is_cached}
use Rattle.place_walk.specs.declared.hop.Hop.{Hop}
use Rattle.place_walk.specs.declared.hop.Hop.TheVariants.{Slot, Direct, Hit, NeedCopy, NeedMove, NeedTint, AtCell}

-- to a copy, or a copy is needed
abbrev pub by_copy : List Copy → ℕ → Hop
by_copy cache w = if is_cached cache w then Hit w else NeedCopy w

-- a pointer whose object has no change that its word doesn't show
abbrev pub clean_hop : ℕ → List Copy → ℕ → Hop
clean_hop server cache w = if server_of w == server then Direct w else by_copy cache w

-- a copy under a dirty reference's word would be old, so the reference is cleaned first
abbrev pub dirty_hop : ℕ → ℕ → Hop
dirty_hop server w = if server_of w == server then Direct w else NeedTint w

-- how a pointer is followed by a read; None where the value is no pointer
abbrev pub read_hop : ℕ → List Copy → Value → Option Hop
read_hop server cache (value.SharedSlot i) = Some (Slot i)
read_hop server cache (value.MutSlot i) = Some (Slot i)
read_hop server cache (value.Own (owned.Box p)) = Some (clean_hop server cache p.word)
read_hop server cache (value.Shared r) = Some (clean_hop server cache r.word)
read_hop server cache (value.Mut r) = Some (if r.dirty then dirty_hop server r.word else clean_hop server cache r.word)
read_hop server cache v = None

-- how a pointer is followed by a write: a box gets a new word, and a mutable reference keeps its word; None where the value is
-- neither, nor a mutable reference to a slot
abbrev pub write_hop : ℕ → Value → Option Hop
write_hop server (value.MutSlot i) = Some (Slot i)
write_hop server (value.Own (owned.Box p)) = Some (if server_of p.word == server then NeedTint p.word else NeedMove p.word)
write_hop server (value.Mut r) = Some (if server_of r.word == server then AtCell r.word else NeedMove r.word)
write_hop server v = None
