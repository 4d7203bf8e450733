-- WALKS AND USERS: what a thread in the middle of a step has made ready, and which cached words are in use (this project's rules).
-- Each function counts what breaks the sentence above it.
use Rattle.std.specs.Prelude.{ℕ, zero, suc, ◌+◌, ◌==◌, nat_lt, nat_le, Bool, true, false, not, ◌&&◌, if◌then◌else◌, List, [], ◌∷◌, ◌++◌, length, Option, Some, None, slice_get}
use Rattle.server_model.specs.Below.fr_base.declared.place.Lval.{Lval}
use Rattle.server_model.specs.Below.fr_base.declared.instruction.Instr.{Instr}
use Rattle.server_model.specs.Below.fr_base.declared.instruction.Instr.TheVariants as instr
use Rattle.server_model.specs.Below.global_addr.Words.{server_of}
use Rattle.server_model.specs.Below.heap_partition.declared.value.Owned.{Owned}
use Rattle.server_model.specs.Below.heap_partition.declared.value.Owned.TheVariants as owned
use Rattle.server_model.specs.Below.thread_state.View.{ThreadState}
use Rattle.server_model.specs.Below.thread_state.declared.value.Value.{Value}
use Rattle.server_model.specs.Below.thread_state.declared.value.Value.TheVariants as value
use Rattle.server_model.specs.Below.thread_state.declared.phase.Phase.{Phase}
use Rattle.server_model.specs.Below.thread_state.declared.phase.Phase.TheVariants as phase
use Rattle.server_model.specs.Below.server_msgs.declared.message.Message.{Message}
use Rattle.server_model.specs.Below.server_msgs.declared.message.Message.TheVariants.{Fetch, Fetched, Move, Moved}
use Rattle.server_model.specs.Below.migration.Packing.{pinned_words}
use Rattle.coherent_memory.specs.Names.{tot, one, other, if_so, some, same_object}
use Rattle.coherent_memory.specs.Things.{Location, Thing, sent}
use Rattle.coherent_memory.specs.Follow.{Standing, Ground, locate, value_behind, hop_at}
use Rattle.coherent_memory.specs.Sight.{Sight, is_stale}
use Rattle.coherent_memory.specs.Balances.{disagree}
use Rattle.coherent_memory.specs.Weights.{lies_at, copies, uses_of, users_of, kept_words}
use Rattle.coherent_memory.specs.Paths.{Path, no_path, lends, writes, ends, path_of, written_place, Awaited, to_write, awaited, followed, is_at_hand, first_unreadable}
use Rattle.coherent_memory.specs.Placing.{sum_over}

-- the sum over all threads, those in parcels too
abbrev pub sum_threads : Sight → (Standing → ℕ) → ℕ
sum_threads s f = tot f s.ground.threads

abbrev pub instr_of : Sight → Standing → Option Instr
instr_of s x = slice_get s.code x.thread.pc

abbrev pub path : Sight → Standing → Path
path s x = path_of (instr_of s x) x.thread

-- THE HOPS OF A WRITE

-- the sum over the first so many hops of a place, with the location of each hop's pointer
abbrev pub over_hops : Ground → ℕ → ℕ → (Option Location → Option Value → ℕ) → ℕ → ℕ
over_hops g t slot f zero = 0
over_hops g t slot f (suc n) = f (locate g t slot n) (value_behind g (locate g t slot n)) + over_hops g t slot f n

abbrev pub over_place : Ground → ℕ → ℕ → (Option Location → Option Value → ℕ) → Option Lval → ℕ
over_place g t n f None = 0
over_place g t n f (Some w) = over_hops g t w.slot f n

-- the sum over the hops of a thread's write that are passed; a thread that doesn't write has none
abbrev pub over_passed : Sight → (ℕ → Option Location → Option Value → ℕ) → Standing → ℕ
over_passed s f x = over_place s.ground x.thread.number x.thread.passed (f x.server) (written_place (path s x))

-- the objects of the first `passed` hops of a thread's write lie at its server
abbrev pub away : Sight → ℕ → Option Location → Option Value → ℕ
away s r l (Some (value.Own (owned.Box p))) = other (some (tot (lies_at r p.object) s.things))
away s r l (Some (value.Mut q)) = other (some (tot (lies_at r q.object) s.things))
away s r l (Some (value.SharedSlot i)) = 0
away s r l (Some (value.MutSlot i)) = 0
away s r l v = 1

abbrev pub passed_wrong : Sight → ℕ
passed_wrong s = sum_threads s (over_passed s (away s))

-- for each of these hops over a box, no copy of its word exists, cached or in a message
abbrev pub copied_box : Sight → ℕ → Option Location → Option Value → ℕ
copied_box s r l (Some (value.Own (owned.Box p))) = tot (copies p.word) s.things
copied_box s r l v = 0

abbrev pub passed_boxes_wrong : Sight → ℕ
passed_boxes_wrong s = sum_threads s (over_passed s (copied_box s))

-- each of these hops over a box or a mutable reference is over one that isn't stale
abbrev pub stale_hop : Sight → ℕ → Option Location → Option Value → ℕ
stale_hop s r l (Some (value.Own (owned.Box p))) = one (is_stale s.stale l)
stale_hop s r l (Some (value.Mut q)) = one (is_stale s.stale l)
stale_hop s r l v = 0

abbrev pub passed_stale_wrong : Sight → ℕ
passed_stale_wrong s = sum_threads s (over_passed s (stale_hop s))

abbrev pub in_walk : Phase → Bool
in_walk (phase.WaitCell w) = true
in_walk phase.Got = true
in_walk (phase.Taken w) = true
in_walk p = false

-- `passed` is 0 outside the phases `WaitCell`, `Got` and `Taken`
abbrev pub early : Standing → ℕ
early x = one (not (in_walk x.thread.phase) && not (x.thread.passed == 0))

abbrev pub passed_phase_wrong : Sight → ℕ
passed_phase_wrong s = sum_threads s early

abbrev pub hop_count : Option Lval → ℕ
hop_count None = 0
hop_count (Some w) = w.depth

-- `passed` is never above the number of hops of that write
abbrev pub too_far : Sight → Standing → ℕ
too_far s x = other (nat_le x.thread.passed (hop_count (written_place (path s x))))

abbrev pub passed_count_wrong : Sight → ℕ
passed_count_wrong s = sum_threads s (too_far s)

abbrev pub walks_not : Phase → Bool
walks_not phase.Ready = true
walks_not (phase.WaitJoin t) = true
walks_not (phase.WaitPar a b) = true
walks_not (phase.GotPar a b) = true
walks_not phase.Over = true
walks_not p = false

-- the walk is empty in the phases `Ready`, `WaitJoin`, `WaitPar`, `GotPar` and `Over`
abbrev pub still_walks : Standing → ℕ
still_walks x = if_so (walks_not x.thread.phase) (length x.thread.walk)

abbrev pub walk_phase_wrong : Sight → ℕ
walk_phase_wrong s = sum_threads s still_walks

abbrev pub is_join : Option Instr → Bool
is_join (Some (instr.Join o)) = true
is_join i = false

-- the walk is empty at a `Join`, in every phase
abbrev pub walks_at_join : Sight → Standing → ℕ
walks_at_join s x = if_so (is_join (instr_of s x)) (length x.thread.walk)

abbrev pub join_walk_wrong : Sight → ℕ
join_walk_wrong s = sum_threads s (walks_at_join s)

abbrev pub is_ready : Phase → Bool
is_ready phase.Ready = true
is_ready p = false

-- a parcel is in phase `Ready`
abbrev pub busy_parcel : Standing → ℕ
busy_parcel x = if_so x.packed (other (is_ready x.thread.phase))

abbrev pub parcels_wrong : Sight → ℕ
parcels_wrong s = sum_threads s busy_parcel

-- A FOLLOWED PLACE

-- the words that a thread keeps cached: those of its walk and of its pinned references
abbrev pub words_kept : ThreadState → List ℕ
words_kept t = t.walk ++ pinned_words t.slots ++ pinned_words t.temps

-- a pointer to an object that is followed leads to an object here or to a copy that the thread keeps; a dirty reference leads here, since copies
-- under its word are old
abbrev pub loose_hop : ℕ → List ℕ → Option Value → ℕ
loose_hop r kept (Some (value.Own (owned.Box p))) = other (is_at_hand kept r true p.word)
loose_hop r kept (Some (value.Shared q)) = other (is_at_hand kept r true q.word)
loose_hop r kept (Some (value.Mut q)) = other (is_at_hand kept r (not q.dirty) q.word)
loose_hop r kept v = 0

abbrev pub is_pull : List Awaited → ℕ → Bool
is_pull [] w = false
is_pull (a ∷ []) w = a.comes && a.word == w
is_pull (a ∷ b ∷ rest) w = is_pull (b ∷ rest) w

abbrev pub has_gift_there : Option Owned → Option Instr → Bool
has_gift_there (Some v) (Some (instr.Lock w)) = true
has_gift_there (Some v) (Some (instr.Dup w)) = true
has_gift_there v i = false

abbrev pub waits_for_lent : Sight → Standing → Path → ℕ → Bool
waits_for_lent s x (lends p) w = is_pull (awaited s.options.colours s.ground x.thread.number (lends p)) w
waits_for_lent s x p w = false

abbrev pub has_followed : Sight → Standing → Phase → Bool
has_followed s x (phase.WaitLock m) = true
has_followed s x (phase.WaitDup m) = true
has_followed s x (phase.Taken w) = true
has_followed s x (phase.WaitCell w) = waits_for_lent s x (path s x) w
has_followed s x p = has_gift_there x.thread.gift (instr_of s x)

-- a thread has followed its place where it is in phase `WaitLock`, `WaitDup` or `Taken`, or has a gift at a `Lock` or `Dup`, or is in `WaitCell`
-- for the pull of the object of its `BorrowMut`. Each pointer to an object that this place follows, in a `BorrowMut` all but the last, leads
-- to an object at its server or, but for a dirty reference, to a copy that its walk or a pinned reference of it keeps
abbrev pub lost_place : Sight → Standing → ℕ
lost_place s x = if_so (has_followed s x x.thread.phase) (tot (loose_hop x.server (words_kept x.thread)) (followed s.ground x.thread.number (path s x)))

abbrev pub followed_wrong : Sight → ℕ
followed_wrong s = sum_threads s (lost_place s)

-- WHAT A WALK WAITS FOR

abbrev pub first_of : List Awaited → Option Awaited
first_of [] = None
first_of (a ∷ rest) = Some a

-- the object of the first hop of a write that isn't passed
abbrev pub next_hop : Sight → Standing → Lval → Option Awaited
next_hop s x p = if nat_lt x.thread.passed p.depth then first_of (to_write (hop_at s.ground x.thread.number p x.thread.passed)) else None

-- what a thread that waits under the word waits for on its path: a write for the object of its first hop that isn't passed, the end of a reference for that of
-- the reference itself where it has the word, and a read for its first hop that is neither here nor in a copy that the thread keeps
abbrev pub in_turn : Sight → Standing → ℕ → Path → Option Awaited
in_turn s x w no_path = None
in_turn s x w (writes p) = next_hop s x p
in_turn s x w (ends r) = if r.word == w then first_of (to_write (Some (value.Mut r))) else next_hop s x r.holder
in_turn s x w p = first_unreadable (words_kept x.thread) x.server (awaited s.options.colours s.ground x.thread.number p)

-- the message asks for a copy of that object for the thread, or brings it; or for the object, where it comes
abbrev pub asks_for : ℕ → Awaited → Message → Bool
asks_for t a (Fetch w o s u) = (u == t && not a.comes) && (a.word == w && same_object o a.object)
asks_for t a (Fetched w c u) = (u == t && not a.comes) && (a.word == w && same_object c.object a.object)
asks_for t a (Move w o s u) = (u == t && a.comes) && (a.word == w && same_object o a.object)
asks_for t a (Moved w c u) = (u == t && a.comes) && (a.word == w && same_object c.object a.object)
asks_for t a m = false

abbrev pub asked_for : ℕ → Awaited → Thing → ℕ
asked_for t a (sent r m) = one (asks_for t a m)
asked_for t a x = 0

abbrev pub not_asked : Sight → Standing → ℕ → Option Awaited → ℕ
not_asked s x w None = 1
not_asked s x w (Some a) = other (a.word == w && some (sum_over s (asked_for x.thread.number a)))

abbrev pub out_of_turn : Sight → Standing → Phase → ℕ
out_of_turn s x (phase.WaitCell w) = not_asked s x w (in_turn s x w (path s x))
out_of_turn s x p = 0

-- a thread in phase `WaitCell(w)` waits in turn: what it waits for on its path has the word w, and its message asks for that object or brings it, a copy
-- where it is read and the object where it comes. (A copy under the word that it waits for may have come here for another thread in the meantime)
abbrev pub turn_wrong : Sight → ℕ
turn_wrong s = sum_threads s (λ x. out_of_turn s x x.thread.phase)

abbrev pub asks_itself : Message → ℕ
asks_itself (Fetch w o r t) = one (server_of w == r)
asks_itself (Move w o r t) = one (server_of w == r)
asks_itself m = 0

-- no request for an object goes to the thread's own server
abbrev pub own_request : Thing → ℕ
own_request (sent r m) = asks_itself m
own_request x = 0

abbrev pub own_requests_wrong : Sight → ℕ
own_requests_wrong s = sum_over s own_request

-- USERS

-- the users of a cached word are the pinned references and the walks of the threads at that server that have this word, and each pinned reference's
-- word and each word of a walk is cached at its server. (As many uses as users of each word at each server)
abbrev pub users_wrong : Sight → ℕ
users_wrong s = disagree uses_of users_of kept_words s.things
