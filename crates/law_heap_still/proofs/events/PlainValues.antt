-- What a value shows tells what it owns and where it leads.
use Rattle.std.proofs.Common.{◌≡◌, ℕ, ◌+◌, ◌-◌, ◌==◌, Bool, true, false, if◌then◌else◌, List, [], ◌∷◌, length, reverse, map, Option, Some, None, option_map, refl, sym, ap, ap₂, ◌∙◌}
use Rattle.std.specs.Prelude.{slice_get}
use Rattle.std.proofs.lemmas.Option.{slice_get-map}
use Rattle.std.proofs.lemmas.List.{length-map}
use Rattle.law_counts_sums.specs.Below.fr_base.declared.name.MutexNo.{MutexNo}
use Rattle.law_counts_sums.specs.Below.fr_base.declared.name.ObjNo.{ObjNo}
use Rattle.law_counts_sums.specs.Below.fr_base.declared.label.Plain.{Plain}
use Rattle.law_counts_sums.specs.Below.fr_base.declared.label.Plain.TheVariants as plain
use Rattle.law_counts_sums.specs.Below.fr_base.declared.instruction.Operand.{Operand}
use Rattle.law_counts_sums.specs.Below.fr_base.declared.instruction.Operand.TheVariants as operand
use Rattle.law_counts_sums.specs.Below.fr_base.Lists.{last_of}
use Rattle.law_counts_sums.specs.Below.fr_plain.declared.value.Value.{Value as PlainValue}
use Rattle.law_counts_sums.specs.Below.fr_plain.declared.value.Value.TheVariants.{Own, ToSlot, ToObject}
use Rattle.law_counts_sums.specs.Below.fr_code.Machine.{CodeRunning}
use Rattle.law_counts_sums.specs.Below.heap_partition.Plain.{plain_of}
use Rattle.law_counts_sums.specs.Below.heap_partition.declared.value.Cell.{Cell}
use Rattle.law_counts_sums.specs.Below.heap_partition.declared.value.Owned.{Owned}
use Rattle.law_counts_sums.specs.Below.heap_partition.declared.value.Owned.TheVariants as owned
use Rattle.law_counts_sums.specs.Below.thread_state.declared.phase.Phase.{Phase}
use Rattle.law_counts_sums.specs.Below.thread_state.declared.phase.Phase.TheVariants as phase
use Rattle.law_counts_sums.specs.Below.thread_state.declared.value.Value.{Value}
use Rattle.law_counts_sums.specs.Below.thread_state.declared.value.Value.TheVariants as value
use Rattle.law_counts_sums.specs.Below.join_home.Tasks.{TaskState, going, let_go, kept, asked, in_pair}
use Rattle.law_counts_sums.specs.Below.coherent_memory.Names.{one, if_so, same_object, same_mutex}
use Rattle.law_counts_sums.specs.Below.coherent_memory.Things.{Location, at_slot, in_cell, Thing, lies, flies}
use Rattle.law_counts_sums.specs.Below.coherent_memory.Follow.{Standing, cells_in, cell_of, slot_of, temp_of, value_of, leads}
use Rattle.law_counts_sums.specs.Below.coherent_memory.Paths.{popped, task_in}
use Rattle.law_counts_sums.specs.Below.coherent_memory.Requests.{mutex_of}
use Rattle.law_counts_sums.specs.Below.coherent_memory.Sharing.{got_phase}
use Rattle.law_counts_sums.specs.Below.coherent_memory.OneHeap.{Node, object_n, mutex_n, task_n, owns, if_in, cell_value, or_else, first_shown, plain_value, running_at, two_in}
use Rattle.law_heap_still.specs.events.Shows.{frame_of, plain_frame, ShownThread, Sign, nothing, a_branch, has_both, shown_thread, note_sign}
use Rattle.law_heap_still.proofs.events.Told.{told}

-- WEIGHTS

pub told_map : {A B : Type 0} (g : B → ℕ) (f : A → B) (o : Option A) → told g (option_map f o) ≡ told (λ x. g (f x)) o
told_map g f None = refl
told_map g f (Some x) = refl

pub told_if : (g : Plain → ℕ) (q : Bool) (v : Plain) → told g (if_in q (Some v)) ≡ if_so q (g v)
told_if g true v = refl
told_if g false v = refl

pub one_so : (q : Bool) → one q ≡ if_so q 1
one_so true = refl
one_so false = refl

-- a note that isn't one of a pair shows nothing
pub unnoted : (w : Sign → ℕ) → w nothing ≡ 0 → ((t : ℕ) (d : Bool) → w (a_branch t d) ≡ 0) → (t : ℕ) (x : TaskState) → 0 ≡ w (note_sign t x)
unnoted w z b t (in_pair p d) = sym (b t d)
unnoted w z b t going = sym z
unnoted w z b t let_go = sym z
unnoted w z b t (kept v) = sym z
unnoted w z b t (asked r u) = sym z

-- VALUES

abbrev pub plain_owns : Node → Plain → Bool
plain_owns (object_n o) (plain.Box p) = same_object p o
plain_owns (mutex_n m) (plain.Mutex n) = same_mutex n m
plain_owns (task_n t) (plain.Task u) = u == t
plain_owns n v = false

pub owns_plain : (n : Node) (v : Owned) → owns n v ≡ plain_owns n (plain_of v)
owns_plain (object_n o) (owned.Box p) = refl
owns_plain (mutex_n m) (owned.Mutex p) = refl
owns_plain (task_n t) (owned.Task p) = refl
owns_plain (object_n o) owned.Nothing = refl
owns_plain (object_n o) owned.Unit = refl
owns_plain (object_n o) (owned.Int i) = refl
owns_plain (object_n o) (owned.Mutex m) = refl
owns_plain (object_n o) (owned.Task m) = refl
owns_plain (mutex_n o) owned.Nothing = refl
owns_plain (mutex_n o) owned.Unit = refl
owns_plain (mutex_n o) (owned.Int i) = refl
owns_plain (mutex_n o) (owned.Box m) = refl
owns_plain (mutex_n o) (owned.Task m) = refl
owns_plain (task_n o) owned.Nothing = refl
owns_plain (task_n o) owned.Unit = refl
owns_plain (task_n o) (owned.Int i) = refl
owns_plain (task_n o) (owned.Box m) = refl
owns_plain (task_n o) (owned.Mutex m) = refl

pub unit_owns : (n : Node) → plain_owns n plain.Unit ≡ false
unit_owns (object_n o) = refl
unit_owns (mutex_n m) = refl
unit_owns (task_n t) = refl

-- where a value leads, and what it is of
abbrev pub plain_leads : ℕ → Option PlainValue → Option Location
plain_leads t (Some (Own (plain.Box o))) = Some (in_cell o)
plain_leads t (Some (ToSlot i)) = Some (at_slot t i)
plain_leads t (Some (ToObject o)) = Some (in_cell o)
plain_leads t v = None

abbrev pub plain_mutex : Option PlainValue → Option MutexNo
plain_mutex (Some (Own (plain.Mutex m))) = Some m
plain_mutex v = None

abbrev pub plain_task : Option PlainValue → Option ℕ
plain_task (Some (Own (plain.Task t))) = Some t
plain_task v = None

pub leads_plain : (t : ℕ) (v : Option Value) → leads t v ≡ plain_leads t (option_map plain_value v)
leads_plain t None = refl
leads_plain t (Some value.Gone) = refl
leads_plain t (Some (value.Own (owned.Box p))) = refl
leads_plain t (Some (value.Own owned.Nothing)) = refl
leads_plain t (Some (value.Own owned.Unit)) = refl
leads_plain t (Some (value.Own (owned.Int i))) = refl
leads_plain t (Some (value.Own (owned.Mutex m))) = refl
leads_plain t (Some (value.Own (owned.Task u))) = refl
leads_plain t (Some (value.SharedSlot i)) = refl
leads_plain t (Some (value.MutSlot i)) = refl
leads_plain t (Some (value.Shared r)) = refl
leads_plain t (Some (value.Mut r)) = refl
leads_plain t (Some (value.Held m)) = refl

pub mutex_plain : (v : Option Value) → mutex_of v ≡ plain_mutex (option_map plain_value v)
mutex_plain None = refl
mutex_plain (Some value.Gone) = refl
mutex_plain (Some (value.Own (owned.Box p))) = refl
mutex_plain (Some (value.Own owned.Nothing)) = refl
mutex_plain (Some (value.Own owned.Unit)) = refl
mutex_plain (Some (value.Own (owned.Int i))) = refl
mutex_plain (Some (value.Own (owned.Mutex m))) = refl
mutex_plain (Some (value.Own (owned.Task u))) = refl
mutex_plain (Some (value.SharedSlot i)) = refl
mutex_plain (Some (value.MutSlot i)) = refl
mutex_plain (Some (value.Shared r)) = refl
mutex_plain (Some (value.Mut r)) = refl
mutex_plain (Some (value.Held m)) = refl

pub task_plain : (v : Option Value) → task_in v ≡ plain_task (option_map plain_value v)
task_plain None = refl
task_plain (Some value.Gone) = refl
task_plain (Some (value.Own (owned.Box p))) = refl
task_plain (Some (value.Own owned.Nothing)) = refl
task_plain (Some (value.Own owned.Unit)) = refl
task_plain (Some (value.Own (owned.Int i))) = refl
task_plain (Some (value.Own (owned.Mutex m))) = refl
task_plain (Some (value.Own (owned.Task u))) = refl
task_plain (Some (value.SharedSlot i)) = refl
task_plain (Some (value.MutSlot i)) = refl
task_plain (Some (value.Shared r)) = refl
task_plain (Some (value.Mut r)) = refl
task_plain (Some (value.Held m)) = refl

-- the temporary value on top
pub last_plain : (vs : List Value) → option_map plain_value (last_of vs) ≡ last_of (map plain_value vs)
last_plain vs = sym (slice_get-map plain_value vs (length vs - 1)) ∙ ap (λ n. slice_get (map plain_value vs) (n - 1)) (sym (length-map vs plain_value))

abbrev pub popped_plain : Operand → List PlainValue → Option PlainValue
popped_plain operand.Pop vs = last_of vs
popped_plain o vs = None

pub pop_plain : (o : Operand) (vs : List Value) → option_map plain_value (popped o vs) ≡ popped_plain o (map plain_value vs)
pop_plain operand.Pop vs = last_plain vs
pop_plain operand.Unit vs = refl
pop_plain (operand.Const n) vs = refl

-- the cell that is found is the one that is shown
abbrev pub plain_in : Cell → Plain
plain_in c = plain_of c.value

pub found_first : (c : Cell) (o : Option Cell) (v : Option Plain) (q : Bool) → option_map plain_in o ≡ v → option_map plain_in (if q then Some c else o) ≡ or_else (if_in q (Some (plain_of c.value))) v
found_first c o v true e = refl
found_first c o v false e = e

pub cell_found : (o : ObjNo) (b : List Thing) → option_map plain_in (cell_of (cells_in b) o) ≡ first_shown (cell_value o) b
cell_found o [] = refl
cell_found o (lies r a c ∷ b) = found_first c (cell_of (cells_in b) o) (first_shown (cell_value o) b) (same_object c.object o) (cell_found o b)
cell_found o (flies w c ∷ b) = found_first c (cell_of (cells_in b) o) (first_shown (cell_value o) b) (same_object c.object o) (cell_found o b)
cell_found o (_ ∷ b) = cell_found o b

abbrev pub shown_of : Standing → ShownThread
shown_of x = shown_thread x.thread

-- a value shows by its frame
pub framed : (v : Value) → plain_frame (frame_of v) ≡ plain_value v
framed value.Gone = refl
framed (value.Own v) = refl
framed (value.SharedSlot i) = refl
framed (value.MutSlot i) = refl
framed (value.Shared r) = refl
framed (value.Mut r) = refl
framed (value.Held m) = refl

pub all_framed : (vs : List Value) → map plain_frame (map frame_of vs) ≡ map plain_value vs
all_framed [] = refl
all_framed (v ∷ vs) = ap₂ (λ x xs. x ∷ xs) (framed v) (all_framed vs)

-- values of the same frames show the same
pub shown_by_frames : (vs ws : List Value) → map frame_of vs ≡ map frame_of ws → map plain_value vs ≡ map plain_value ws
shown_by_frames vs ws e = sym (all_framed vs) ∙ ap (map plain_frame) e ∙ all_framed ws

pub shown_by_frame : (v w : Value) → frame_of v ≡ frame_of w → plain_value v ≡ plain_value w
shown_by_frame v w e = sym (framed v) ∙ ap plain_frame e ∙ framed w

abbrev pub slot_from : Option ShownThread → ℕ → Option PlainValue
slot_from None i = None
slot_from (Some y) i = slice_get (map plain_frame y.slots) i

abbrev pub temp_from : Option ShownThread → ℕ → Option PlainValue
temp_from None i = None
temp_from (Some y) i = slice_get (map plain_frame y.temps) i

pub slot_shown : (o : Option Standing) (i : ℕ) → option_map plain_value (slot_of o i) ≡ slot_from (option_map shown_of o) i
slot_shown None i = refl
slot_shown (Some x) i = sym (slice_get-map plain_value x.thread.slots i) ∙ ap (λ vs. slice_get vs i) (sym (all_framed x.thread.slots))

pub temp_shown : (o : Option Standing) (i : ℕ) → option_map plain_value (temp_of o i) ≡ temp_from (option_map shown_of o) i
temp_shown None i = refl
temp_shown (Some x) i = sym (slice_get-map plain_value x.thread.temps i) ∙ ap (λ vs. slice_get vs i) (sym (all_framed x.thread.temps))

abbrev pub owned_from : Option Plain → Option PlainValue
owned_from None = None
owned_from (Some v) = Some (Own v)

pub value_shown : (o : Option Cell) → option_map plain_value (value_of o) ≡ owned_from (option_map plain_in o)
value_shown None = refl
value_shown (Some c) = refl

abbrev pub got_of : ℕ → Option (ℕ × ℕ) → Bool → ℕ
got_of t (Some p) true = one (p.0 == t) + one (p.1 == t)
got_of t o q = 0

pub got_is : (t : ℕ) (p : Phase) → got_phase t p ≡ got_of t (two_in p) (has_both p)
got_is t phase.Ready = refl
got_is t (phase.WaitCell w) = refl
got_is t phase.Got = refl
got_is t (phase.Taken w) = refl
got_is t (phase.WaitLock m) = refl
got_is t (phase.WaitDup m) = refl
got_is t (phase.WaitJoin u) = refl
got_is t (phase.WaitPar a b) = refl
got_is t (phase.GotPar a b) = refl
got_is t phase.Over = refl

abbrev pub code_running : ℕ → List PlainValue → List PlainValue → CodeRunning
code_running pc temps slots = record { place = record { pc = pc; temps = reverse temps }; slots = reverse slots }

-- where a thread goes on, by what is shown of it
abbrev pub shown_running : ShownThread → CodeRunning
shown_running z = code_running z.pc (map plain_frame z.temps) (map plain_frame z.slots)

pub running_shown : (x : Standing) → running_at x.thread ≡ shown_running (shown_of x)
running_shown x = sym (ap₂ (code_running x.thread.pc) (all_framed x.thread.temps) (all_framed x.thread.slots))
