-- WHAT A THING SHOWS IN THE ONE HEAP: its part in the plain state that a cluster stands for (this project's rule). Words, copies, uses, addresses,
-- messages, queues, pins and servers aren't seen, nor whether an object lies or flies, nor whether a content or a result is in a message or a gift.
use Rattle.std.specs.Prelude.{◌≡◌, ℕ, ◌+◌, ◌==◌, Bool, true, false, List, map, Option, Some, None, option_map}
use Rattle.law_counts_sums.specs.Below.fr_base.declared.name.ObjNo.{ObjNo}
use Rattle.law_counts_sums.specs.Below.fr_base.declared.name.MutexNo.{MutexNo}
use Rattle.law_counts_sums.specs.Below.fr_base.declared.label.Plain.{Plain}
use Rattle.law_counts_sums.specs.Below.fr_base.declared.label.Plain.TheVariants as plain
use Rattle.law_counts_sums.specs.Below.fr_base.declared.instruction.Instr.{Instr}
use Rattle.law_counts_sums.specs.Below.fr_base.declared.instruction.Instr.TheVariants as instr
use Rattle.law_counts_sums.specs.Below.fr_plain.declared.value.Value.{Value as PlainValue}
use Rattle.law_counts_sums.specs.Below.fr_plain.declared.value.Value.TheVariants as shows
use Rattle.law_counts_sums.specs.Below.fr_base.declared.place.Lval.{Lval}
use Rattle.law_counts_sums.specs.Below.heap_partition.Plain.{plain_of}
use Rattle.law_counts_sums.specs.Below.thread_state.View.{ThreadState, is_over}
use Rattle.law_counts_sums.specs.Below.thread_state.declared.value.Value.{Value}
use Rattle.law_counts_sums.specs.Below.thread_state.declared.value.Value.TheVariants as value
use Rattle.law_counts_sums.specs.Below.thread_state.declared.phase.Phase.{Phase}
use Rattle.law_counts_sums.specs.Below.thread_state.declared.phase.Phase.TheVariants as phase
use Rattle.law_counts_sums.specs.Below.join_home.Tasks.{TaskState, in_pair}
use Rattle.law_counts_sums.specs.Below.coherent_memory.Names.{tot, one, if_so, some}
use Rattle.law_counts_sums.specs.Below.coherent_memory.Things.{Spot, as_gift, as_content, as_result, Thing, holds, lies, flies, stands, noted, counts}
use Rattle.law_counts_sums.specs.Below.coherent_memory.Follow.{Standing, thread_at}
use Rattle.law_counts_sums.specs.Below.coherent_memory.Sight.{Sight}
use Rattle.law_counts_sums.specs.Below.coherent_memory.Paths.{joined_thread}
use Rattle.law_counts_sums.specs.Below.coherent_memory.Walking.{instr_of}
use Rattle.law_counts_sums.specs.Below.coherent_memory.Requests.{locked_mutex}
use Rattle.law_counts_sums.specs.Below.coherent_memory.Sharing.{got_phase}
use Rattle.law_counts_sums.specs.Below.coherent_memory.OneHeap.{Node, mutex_n, task_n, names, pair_note, two_in}

-- what a value of a slot or a temporary value is, whatever its word, its mark and its pin
pub data Frame : Type 0 where
  moved_out : Frame
  owning : Plain → Frame
  shared_slot : ℕ → Frame
  mutable_slot : ℕ → Frame
  shared_object : ObjNo → Frame
  -- with the place of its holder
  mutable_object : ObjNo → Lval → Frame
  marking : MutexNo → Frame

abbrev pub frame_of : Value → Frame
frame_of value.Gone = moved_out
frame_of (value.Own v) = owning (plain_of v)
frame_of (value.SharedSlot i) = shared_slot i
frame_of (value.MutSlot i) = mutable_slot i
frame_of (value.Shared r) = shared_object r.object
frame_of (value.Mut r) = mutable_object r.object r.holder
frame_of (value.Held m) = marking m

-- what it is on the plain machine
abbrev pub plain_frame : Frame → PlainValue
plain_frame moved_out = shows.Own plain.Nothing
plain_frame (owning v) = shows.Own v
plain_frame (shared_slot i) = shows.ToSlot i
plain_frame (mutable_slot i) = shows.ToSlot i
plain_frame (shared_object o) = shows.ToObject o
plain_frame (mutable_object o w) = shows.ToObject o
plain_frame (marking m) = shows.Held m

-- a thread, wherever it stands
pub record ShownThread : Type 0 where
  pub number : ℕ
  pub is_over : Bool
  -- the two threads that it waits for, or that have both ended
  pub pair : Option (ℕ × ℕ)
  pub pc : ℕ
  pub temps : List Frame
  pub slots : List Frame
  pub made : ℕ

pub data Sign : Type 0 where
  nothing : Sign
  -- a value that is owned outside the heap; an object and what it holds
  a_value : (p : Spot) (v : Plain) → Sign
  an_object : (o : ObjNo) (v : Plain) → Sign
  -- a thread, and whether both threads of its pair have ended
  a_thread : ShownThread → (has_pair : Bool) → Sign
  -- a branch of a pair, and whether it has ended
  a_branch : (thread : ℕ) (is_done : Bool) → Sign
  -- how many threads and mutexes a server has counted
  a_count : (server started made : ℕ) → Sign

abbrev pub has_both : Phase → Bool
has_both (phase.GotPar a b) = true
has_both p = false

abbrev pub shown_thread : ThreadState → ShownThread
shown_thread t = record {
  number = t.number;
  is_over = is_over t.phase;
  pair = two_in t.phase;
  pc = t.pc;
  temps = map frame_of t.temps;
  slots = map frame_of t.slots;
  made = t.made;
}

abbrev pub note_sign : ℕ → TaskState → Sign
note_sign t (in_pair p is_done) = a_branch t is_done
note_sign t x = nothing

abbrev pub sign_of : Thing → Sign
sign_of (holds p v) = a_value p (plain_of v)
sign_of (lies s a c) = an_object c.object (plain_of c.value)
sign_of (flies w c) = an_object c.object (plain_of c.value)
sign_of (stands s p t) = a_thread (shown_thread t) (has_both t.phase)
sign_of (noted s x) = note_sign x.thread x.state
sign_of (counts s next retired started made events) = a_count s started made
sign_of x = nothing

-- all weights of what is shown have the same sums over both
abbrev pub ShowAlike : List Thing → List Thing → Type 0
ShowAlike a b = (weight : Sign → ℕ) → weight nothing ≡ 0 → tot (λ x. weight (sign_of x)) a ≡ tot (λ x. weight (sign_of x)) b

-- WHERE A VALUE COUNTS

-- a gift is still the content of the mutex at its lock's place, or the result of its join's task; a share that a dup was answered counts nowhere yet
abbrev pub gift_spot_at : Sight → Standing → Option Instr → Option Spot
gift_spot_at s x (Some (instr.Lock w)) = option_map as_content (locked_mutex s x (Some (instr.Lock w)))
gift_spot_at s x (Some (instr.Join o)) = option_map as_result (joined_thread (Some (instr.Join o)) x.thread)
gift_spot_at s x i = None

abbrev pub gift_spot_of : Sight → Option Standing → Option Spot
gift_spot_of s None = None
gift_spot_of s (Some x) = gift_spot_at s x (instr_of s x)

-- what the gift of that thread counts as
abbrev pub gift_spot : Sight → ℕ → Option Spot
gift_spot s t = gift_spot_of s (thread_at s.ground.threads t)

abbrev pub counted_at : (Sign → ℕ) → Option Spot → Plain → ℕ
counted_at weight None v = 0
counted_at weight (Some p) v = weight (a_value p v)

-- something owns a value of the mutex, or a task value of the thread
abbrev pub is_named : Sight → Node → Bool
is_named s n = some (tot (λ x. one (names n x)) s.things)

-- a branch of a pair whose par isn't done: it is noted, or its parent has both
abbrev pub held_branch : ℕ → Thing → ℕ
held_branch t (noted s x) = if_so (x.thread == t) (pair_note x.state)
held_branch t (stands s p x) = one (some (got_phase t x.phase))
held_branch t x = 0

abbrev pub is_held : Sight → ℕ → Bool
is_held s t = some (tot (held_branch t) s.things)

-- a weight that counts a gift as what it is; neither the content of a mutex nor the result of a thread that nothing names; a branch that has ended as one
-- that goes on beside its result, which is unit; and a parent that has its pair as one that waits beside two branches that have ended
pub record Counts (s : Sight) (weight : Sign → ℕ) : Type 0 where
  pub gifts : (t : ℕ) (v : Plain) → weight (a_value (as_gift t) v) ≡ counted_at weight (gift_spot s t) v
  pub contents : (m : MutexNo) (v : Plain) → is_named s (mutex_n m) ≡ false → weight (a_value (as_content m) v) ≡ 0
  pub results : (t : ℕ) (v : Plain) → is_named s (task_n t) ≡ false → is_held s t ≡ false → weight (a_value (as_result t) v) ≡ 0
  pub branches : (t : ℕ) → weight (a_branch t true) ≡ weight (a_branch t false) + weight (a_value (as_result t) plain.Unit)
  pub pairs : (y : ShownThread) (a b : ℕ) → y.pair ≡ Some (a, b) → (a == b) ≡ false → weight (a_thread y true) ≡ weight (a_thread y false) + weight (a_branch a true) + weight (a_branch b true)

-- these weights of what is shown have the same sums over both
abbrev pub CountAlike : Sight → List Thing → List Thing → Type 0
CountAlike s a b = (weight : Sign → ℕ) → weight nothing ≡ 0 → Counts s weight → tot (λ x. weight (sign_of x)) a ≡ tot (λ x. weight (sign_of x)) b
