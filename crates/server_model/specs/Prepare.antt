-- Making an instruction's place ready (in the manner of DRust; this project's rules): the place is followed star by star, each
-- hop is made ready for a read or a write, and where something isn't here one request is sent, and the event ends with it.
use Rattle.std.specs.Prelude.{if◌then◌else◌, ℕ, zero, suc, ◌+◌, ◌-◌, ◌==◌, Bool, true, false, nat_lt, [], length, Option, Some, None, slice_get}
use Rattle.fr_base.specs.declared.place.Lval.{Lval}
use Rattle.fr_base.specs.declared.instruction.Instr.{Instr}
use Rattle.fr_base.specs.declared.instruction.Instr.TheVariants as instr
use Rattle.global_addr.specs.Words.{colour_of, server_of}
use Rattle.place_walk.specs.Below.heap_partition.declared.value.BoxPtr.{BoxPtr}
use Rattle.place_walk.specs.Below.read_cache.Cache.{can_pin, pin}
use Rattle.mut_borrow.specs.Refs.{cleaned_answer, finish_word}
use Rattle.mut_borrow.specs.declared.shared.SharedRef.{SharedRef}
use Rattle.mut_borrow.specs.declared.mutable.MutRef.{MutRef}
use Rattle.mut_borrow.specs.declared.mutable.Cleaned.{Cleaned}
use Rattle.mut_borrow.specs.declared.mutable.Cleaned.TheVariants.{Same, Tinted, MustRenew}
use Rattle.place_walk.specs.Below.thread_state.View.{ThreadState}
use Rattle.place_walk.specs.Below.thread_state.declared.phase.Phase.{Phase}
use Rattle.place_walk.specs.Below.thread_state.declared.phase.Phase.TheVariants as phase
use Rattle.place_walk.specs.Below.thread_state.declared.value.Value.{Value}
use Rattle.place_walk.specs.Below.thread_state.declared.value.Value.TheVariants as value
use Rattle.server_msgs.specs.declared.message.Message.TheVariants as message
use Rattle.journal.specs.declared.act.Act.TheVariants as act
use Rattle.place_walk.specs.declared.hop.Hop.{Hop}
use Rattle.place_walk.specs.declared.hop.Hop.TheVariants as hop
use Rattle.place_walk.specs.Hops.{read_hop, write_hop}
use Rattle.server_model.specs.Work.{Work, Hand, send, note, with_cache, working, with_phase, last_of, then_some, use_word}
use Rattle.server_model.specs.NewWords.{NewWord, issue_tint, issue_renewal, issue_colour}
use Rattle.server_model.specs.Places.{Spot, in_slot, on_top, in_cell, in_copy, nowhere, value_at, load_at, put_at, pointer_of, put_word, slot_in}

-- what an instruction needs of a place before it can be done: all its pointers read; those of a shared borrow, up to the pointer
-- that is borrowed from; all followed for a write; those of a mutable borrow, with the object here; and of a mutable reference
-- that ends, its own word and its holder's place
pub data Access : Type 0 where
  ReadTo : Lval → Access
  ReadPointer : Lval → Access
  WriteTo : Lval → Access
  LendTo : Lval → Access
  EndRef : Spot → Access

-- a mutable reference at that spot ends
abbrev pub ending : Spot → Option Value → Option Access
ending s (Some (value.Mut r)) = Some (EndRef s)
ending s v = None

-- an assignment to a variable ends a mutable reference that stands there, and one through a star writes
abbrev pub assigned : Lval → ℕ → ThreadState → Option Access
assigned w zero t = ending (in_slot w.slot) (slice_get t.slots w.slot)
assigned w (suc d) t = Some (WriteTo w)

-- a move out through a star writes
abbrev pub read_or_taken : Lval → ℕ → Bool → Access
read_or_taken w (suc d) true = WriteTo w
read_or_taken w d take = ReadTo w

-- the access of an instruction; None where it follows no place
abbrev pub access_of : Instr → ThreadState → Option Access
access_of (instr.Assign w o) t = assigned w w.depth t
access_of (instr.Read w take) t = Some (read_or_taken w w.depth take)
access_of (instr.Borrow w) t = Some (ReadPointer w)
access_of (instr.BorrowMut w) t = Some (LendTo w)
access_of instr.Discard t = ending on_top (last_of t.temps)
access_of instr.DropSlot t = ending (in_slot (length t.slots - 1)) (last_of t.slots)
access_of (instr.Dup w) t = Some (ReadTo w)
access_of (instr.Lock w) t = Some (ReadTo w)
access_of i t = None

-- a place is ready, and leads to that spot; one request was sent, and the thread waits; or nothing is there to follow
pub data Prepared : Type 0 where
  ready : Hand → Spot → Prepared
  requested : Hand → Prepared
  nothing : Prepared

-- goes on where all is ready
abbrev pub and_then : (Hand → Spot → Prepared) → Prepared → Prepared
and_then go (ready h s) = go h s
and_then go (requested h) = requested h
and_then go nothing = nothing

-- ready there, unless something failed
abbrev pub ready_at : Spot → Option Hand → Prepared
ready_at s None = nothing
ready_at s (Some h) = ready h s

-- REQUESTS

-- asks the word's server for a copy
abbrev pub ask_copy : BoxPtr → Hand → Hand
ask_copy p h = with_phase (phase.WaitCell p.word) (working (λ w. send (server_of p.word) (message.Fetch p.word p.object w.rest.number h.thread.number) (note (act.Ask p.object p.word) w)) h)

-- asks the word's server for the object
abbrev pub ask_object : BoxPtr → Hand → Hand
ask_object p h = with_phase (phase.WaitCell p.word) (working (λ w. send (server_of p.word) (message.Move p.word p.object w.rest.number h.thread.number) (note (act.Pull p.object p.word) w)) h)

-- a request for the pointer's object
abbrev pub request_by : (BoxPtr → Hand → Hand) → Hand → Option BoxPtr → Prepared
request_by request h None = nothing
request_by request h (Some p) = requested (request p h)

-- CLEANING

-- the pointer to a reference's object
abbrev pub box_of : MutRef → BoxPtr
box_of r = record { word = r.word; object = r.object }

-- a dirty reference at the last colour: its object is renewed where it is here, else it has to come
abbrev pub clean_last : Spot → MutRef → Hand → Prepared
clean_last s r h =
    if server_of r.word == h.work.rest.number then ready_at s (then_some (issue_renewal (box_of r) h.work) (λ n. put_word s n h)) else requested (ask_object (box_of r) h)

-- what is done by the answer of cleaning
abbrev pub cleaned_by : Cleaned → Spot → MutRef → Hand → Prepared
cleaned_by Same s r h = ready h s
cleaned_by (Tinted w) s r h = ready_at s (put_word s (issue_tint (box_of r) h.work) h)
cleaned_by MustRenew s r h = clean_last s r h

-- a mutable reference at that spot is cleaned; its colour is below the limit
abbrev pub clean : Spot → MutRef → Hand → Prepared
clean s r h =
    if nat_lt (colour_of r.word) h.work.rest.partition.limit then cleaned_by (cleaned_answer h.work.rest.partition.limit r) s r h else nothing

-- a mutable reference is cleaned, and other values stay
abbrev pub clean_value : Spot → Option Value → Hand → Prepared
clean_value s (Some (value.Mut r)) h = clean s r h
clean_value s v h = ready h s

-- READING

-- a reference that isn't pinned pins its copy
abbrev pub pinned_once : Spot → SharedRef → Bool → Hand → Option Hand
pinned_once s r true h = Some h
pinned_once s r false h =
    if can_pin h.work.rest.cache r.word then put_at s (value.Shared (record r { pinned = true })) (working (with_cache (pin h.work.rest.cache r.word)) h) else None

-- a shared reference pins the copy at its first hit, and keeps it; a box or a clean mutable reference uses it until the step is done
abbrev pub use_copy : Spot → Value → ℕ → Hand → Option Hand
use_copy s (value.Shared r) w h = pinned_once s r r.pinned h
use_copy s v w h = use_word w h

-- the hop counts in the entry that does the step
abbrev pub hopped : (BoxPtr → Work → Work) → Option BoxPtr → Hand → Hand
hopped f None h = h
hopped f (Some p) h = working (f p) h

-- the pointer leads to an object here
abbrev pub local : Value → Hand → Hand
local v h = hopped (λ p. note (act.Local p.object p.word)) (pointer_of v) h

-- the pointer leads to a copy here
abbrev pub hit_by : Value → Hand → Hand
hit_by v h = hopped (λ p. note (act.Hit p.object p.word)) (pointer_of v) h

-- one hop of a read, by its kind
abbrev pub read_by : Spot → Value → Option Hop → Hand → Prepared
read_by s v (Some (hop.Slot i)) h = ready h (in_slot i)
read_by s v (Some (hop.Direct w)) h = ready (local v h) (in_cell w None)
read_by s v (Some (hop.Hit w)) h = ready_at (in_copy w) (use_copy s v w (hit_by v h))
read_by s v (Some (hop.NeedCopy w)) h = request_by ask_copy h (pointer_of v)
read_by s v k h = nothing

-- one hop of a read from a value
abbrev pub read_value : Spot → Option Value → Hand → Prepared
read_value s None h = nothing
read_value s (Some v) h = read_by s v (read_hop h.work.rest.number h.work.rest.cache v) h

-- a dirty reference to an object elsewhere is cleaned
abbrev pub read_clean : Spot → Value → Option Hop → Hand → Prepared
read_clean s v (Some (hop.NeedTint w)) h = clean_value s (Some v) h
read_clean s v k h = ready h s

-- the same for the value at a spot
abbrev pub tinted_first : Spot → Option Value → Hand → Prepared
tinted_first s None h = nothing
tinted_first s (Some v) h = read_clean s v (read_hop h.work.rest.number h.work.rest.cache v) h

-- one hop of a read: a dirty reference to an object elsewhere is cleaned first
abbrev pub read_star : Hand → Spot → Prepared
read_star h s = and_then (λ h2 s2. read_value s2 (value_at h2 s2) h2) (tinted_first s (value_at h s) (load_at s h))

-- so many hops of a read
abbrev pub read_stars : ℕ → Hand → Spot → Prepared
read_stars zero h s = ready h s
read_stars (suc d) h s = and_then (read_stars d) (read_star h s)

-- WRITING

-- so many hops of the write are ready
abbrev pub passing : ℕ → Hand → Hand
passing n h = record h { thread = record h.thread { passed = n } }

-- the box at a spot has its new word, which leads to the cell
abbrev pub box_ready : Spot → Option NewWord → Hand → Prepared
box_ready s None h = nothing
box_ready s (Some n) h = ready_at (in_cell n.word None) (put_word s n h)

-- a box whose object is here gets a new word
abbrev pub colour_box : Spot → Option BoxPtr → Hand → Prepared
colour_box s None h = nothing
colour_box s (Some p) h = box_ready s (issue_colour p h.work) h

-- a hop that no event made ready yet: hop number k, from 0
abbrev pub write_by : ℕ → Spot → Value → Option Hop → Hand → Prepared
write_by k s v (Some (hop.Slot i)) h = ready (passing (k + 1) h) (in_slot i)
write_by k s v (Some (hop.NeedTint w)) h = colour_box s (pointer_of v) (passing (k + 1) h)
write_by k s v (Some (hop.AtCell w)) h = ready (passing (k + 1) (local v h)) (in_cell w (slot_in s))
write_by k s v (Some (hop.NeedMove w)) h = request_by ask_object h (pointer_of v)
write_by k s v o h = nothing

-- a hop that is ready: a box has its new word already
abbrev pub pass_by : Spot → Value → Option Hop → Hand → Prepared
pass_by s v (Some (hop.Slot i)) h = ready h (in_slot i)
pass_by s v (Some (hop.NeedTint w)) h = ready h (in_cell w None)
pass_by s v (Some (hop.AtCell w)) h = ready (local v h) (in_cell w (slot_in s))
pass_by s v o h = nothing

-- hop number k of a write from a value
abbrev pub write_value : ℕ → Spot → Option Value → Hand → Prepared
write_value k s None h = nothing
write_value k s (Some v) h =
    if nat_lt k h.thread.passed then pass_by s v (write_hop h.work.rest.number v) h else write_by k s v (write_hop h.work.rest.number v) h

-- hop number k of a write
abbrev pub write_star : ℕ → Hand → Spot → Prepared
write_star k h s = write_value k s (value_at h s) (load_at s h)

-- so many hops of a write, from hop number k on
abbrev pub write_stars : ℕ → ℕ → Hand → Spot → Prepared
write_stars zero k h s = ready h s
write_stars (suc d) k h s = and_then (write_stars d (k + 1)) (write_star k h s)

-- BORROWS

-- a shared borrow reads the place up to the pointer, and cleans a dirty reference there, also where its object is here
abbrev pub read_pointer : Lval → ℕ → Hand → Prepared
read_pointer w zero h = ready h (in_slot w.slot)
read_pointer w (suc d) h = and_then (λ h2 s. clean_value s (value_at h2 s) (load_at s h2)) (read_stars d h (in_slot w.slot))

-- the object was pulled for this mutable borrow by an earlier event
abbrev pub is_taken : Phase → Bool
is_taken (phase.Taken w) = true
is_taken p = false

-- the pointer of a mutable borrow, by its hop
abbrev pub lend_by : Spot → Value → Option Hop → Hand → Prepared
lend_by s v None h = nothing
lend_by s v (Some (hop.NeedMove w)) h = if is_taken h.thread.phase then ready h s else request_by ask_object h (pointer_of v)
lend_by s v (Some k) h = ready h s

-- the same from a value
abbrev pub lend_value : Spot → Option Value → Hand → Prepared
lend_value s None h = nothing
lend_value s (Some v) h = lend_by s v (write_hop h.work.rest.number v) h

-- a mutable borrow reads the place up to the pointer; the object comes where it is elsewhere, and its holder isn't changed
abbrev pub lend_pointer : Lval → ℕ → Hand → Prepared
lend_pointer w zero h = ready h (in_slot w.slot)
lend_pointer w (suc d) h = and_then (λ h2 s. lend_value s (value_at h2 s) (load_at s h2)) (read_stars d h (in_slot w.slot))

-- THE END OF A MUTABLE REFERENCE

-- the holder's place is followed where its pointer gets a word
abbrev pub follow_holder : MutRef → Option ℕ → Hand → Prepared
follow_holder r None h = ready h nowhere
follow_holder r (Some w) h = write_stars r.holder.depth 0 h (in_slot r.holder.slot)

-- the same for the value at a spot
abbrev pub follow_ended : Option Value → Hand → Prepared
follow_ended (Some (value.Mut r)) h = follow_holder r (finish_word r) h
follow_ended v h = nothing

-- the update of a holder has no labels
abbrev pub unlabelled : Hand → Spot → Prepared
unlabelled h s = ready (working (λ w. record w { labels = [] }) h) s

-- a mutable reference that ends is cleaned, and where its holder's pointer gets its word, the holder's place is followed for
-- writing
abbrev pub end_ref : Spot → Hand → Prepared
end_ref s h = and_then unlabelled (and_then (λ h2 s2. follow_ended (value_at h2 s2) h2) (clean_value s (value_at h s) h))

-- ALL ACCESSES

-- makes an access ready, as far as that is possible here
abbrev pub prepare : Option Access → Hand → Prepared
prepare None h = ready h nowhere
prepare (Some (ReadTo w)) h = read_stars w.depth h (in_slot w.slot)
prepare (Some (ReadPointer w)) h = read_pointer w w.depth h
prepare (Some (WriteTo w)) h = write_stars w.depth 0 h (in_slot w.slot)
prepare (Some (LendTo w)) h = lend_pointer w w.depth h
prepare (Some (EndRef s)) h = end_ref s h
