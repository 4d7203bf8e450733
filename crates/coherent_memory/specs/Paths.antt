-- Which place the next instruction of a thread follows, and how: which pointers it reads, which it writes through (this project's rules).
use Rattle.std.specs.Prelude.{ℕ, zero, suc, ◌+◌, ◌-◌, ◌==◌, Bool, true, false, not, ◌&&◌, ◌||◌, if◌then◌else◌, List, [], ◌∷◌, ◌++◌, Option, Some, None, slice_get}
use Rattle.server_model.specs.Below.fr_base.Lists.{last_of}
use Rattle.server_model.specs.Below.fr_base.declared.name.ObjNo.{ObjNo}
use Rattle.server_model.specs.Below.fr_base.declared.place.Lval.{Lval}
use Rattle.server_model.specs.Below.fr_base.declared.instruction.Operand.{Operand}
use Rattle.server_model.specs.Below.fr_base.declared.instruction.Operand.TheVariants as operand
use Rattle.server_model.specs.Below.fr_base.declared.instruction.Instr.{Instr}
use Rattle.server_model.specs.Below.fr_base.declared.instruction.Instr.TheVariants as instr
use Rattle.server_model.specs.Below.global_addr.Words.{colour_of, server_of}
use Rattle.server_model.specs.Below.heap_partition.declared.value.Owned.TheVariants as owned
use Rattle.server_model.specs.Below.mut_borrow.declared.mutable.MutRef.{MutRef}
use Rattle.server_model.specs.Below.thread_state.View.{ThreadState}
use Rattle.server_model.specs.Below.thread_state.declared.value.Value.{Value}
use Rattle.server_model.specs.Below.thread_state.declared.value.Value.TheVariants as value
use Rattle.coherent_memory.specs.Names.{is_in}
use Rattle.coherent_memory.specs.Follow.{Ground, hops}

-- what an instruction does with the pointers of a place. `reads` reads all its stars. `shares` and `lends` read up to the pointer
-- that is borrowed; a shared borrow cleans it where it is a dirty reference, a mutable one has its object come here. `writes`
-- follows all stars for writing, and so does the end of a mutable reference with its holder
pub data Path : Type 0 where
  no_path : Path
  reads : (w : Lval) → Path
  shares : (w : Lval) → Path
  lends : (w : Lval) → Path
  writes : (w : Lval) → Path
  ends : (r : MutRef) → Path

-- a mutable reference that is dropped ends
abbrev pub ending : Option Value → Path
ending (Some (value.Mut r)) = ends r
ending v = no_path

-- a move through a star writes
abbrev pub taking : Lval → ℕ → Path
taking w zero = no_path
taking w (suc n) = writes w

abbrev pub assigning : List Value → Lval → ℕ → Path
assigning slots w zero = ending (slice_get slots w.slot)
assigning slots w (suc n) = writes w

abbrev pub path_of : Option Instr → ThreadState → Path
path_of (Some (instr.Read w true)) t = taking w w.depth
path_of (Some (instr.Read w false)) t = reads w
path_of (Some (instr.Dup w)) t = reads w
path_of (Some (instr.Lock w)) t = reads w
path_of (Some (instr.Borrow w)) t = shares w
path_of (Some (instr.BorrowMut w)) t = lends w
path_of (Some (instr.Assign w o)) t = assigning t.slots w w.depth
path_of (Some instr.DropSlot) t = ending (last_of t.slots)
path_of (Some instr.Discard) t = ending (last_of t.temps)
path_of i t = no_path

-- the operand of a join
abbrev pub popped : Operand → List Value → Option Value
popped operand.Pop ts = last_of ts
popped o ts = None

abbrev pub task_in : Option Value → Option ℕ
task_in (Some (value.Own (owned.Task t))) = Some t
task_in v = None

-- the thread that a join asks for
abbrev pub joined_thread : Option Instr → ThreadState → Option ℕ
joined_thread (Some (instr.Join o)) t = task_in (popped o t.temps)
joined_thread i t = None

-- the place of a write: that of its hops
abbrev pub written_place : Path → Option Lval
written_place (writes w) = Some w
written_place (ends r) = Some r.holder
written_place p = None

-- what a thread may wait for on its path: an object under a word, that comes here or of which a copy comes; and whether a copy under
-- that word may be read
pub record Awaited : Type 0 where
  pub word : ℕ
  pub object : ObjNo
  pub comes : Bool
  pub by_copy : Bool

-- a dirty reference at the last of so many colours: it can't be cleaned by another colour
abbrev pub is_spent : ℕ → MutRef → Bool
is_spent colours r = r.dirty && (colour_of r.word + 1 == colours)

-- a copy of what a pointer leads to is read, but not under the word of a dirty reference: that is cleaned first, and its object comes here where
-- no colour is left
abbrev pub to_read : ℕ → Option Value → List Awaited
to_read colours (Some (value.Own (owned.Box p))) = record { word = p.word; object = p.object; comes = false; by_copy = true } ∷ []
to_read colours (Some (value.Shared r)) = record { word = r.word; object = r.object; comes = false; by_copy = true } ∷ []
to_read colours (Some (value.Mut r)) = record { word = r.word; object = r.object; comes = is_spent colours r; by_copy = not r.dirty } ∷ []
to_read colours v = []

-- what is written, lent or ended comes here
abbrev pub to_write : Option Value → List Awaited
to_write (Some (value.Own (owned.Box p))) = record { word = p.word; object = p.object; comes = true; by_copy = false } ∷ []
to_write (Some (value.Mut r)) = record { word = r.word; object = r.object; comes = true; by_copy = false } ∷ []
to_write v = []

-- a reference that is dirty is cleaned, and its object comes here where no colour is left
abbrev pub to_clean : ℕ → Option Value → List Awaited
to_clean colours (Some (value.Mut r)) = if is_spent colours r then record { word = r.word; object = r.object; comes = true; by_copy = false } ∷ [] else []
to_clean colours v = []

abbrev pub all_to : (Option Value → List Awaited) → List (Option Value) → List Awaited
all_to f [] = []
all_to f (v ∷ vs) = f v ++ all_to f vs

-- the last pointer of a borrow in its own way, those before it as reads
abbrev pub borrow_to : ℕ → (Option Value → List Awaited) → List (Option Value) → List Awaited
borrow_to colours f [] = []
borrow_to colours f (v ∷ []) = f v
borrow_to colours f (v ∷ w ∷ vs) = to_read colours v ++ borrow_to colours f (w ∷ vs)

-- all that the thread may wait for where words have so many colours, in the order of the path
abbrev pub awaited : ℕ → Ground → ℕ → Path → List Awaited
awaited colours g t no_path = []
awaited colours g t (reads w) = all_to (to_read colours) (hops g t w w.depth)
awaited colours g t (shares w) = borrow_to colours (to_clean colours) (hops g t w w.depth)
awaited colours g t (lends w) = borrow_to colours to_write (hops g t w w.depth)
awaited colours g t (writes w) = all_to to_write (hops g t w w.depth)
awaited colours g t (ends r) = to_write (Some (value.Mut r)) ++ all_to to_write (hops g t r.holder r.holder.depth)

-- the pointers that a place follows before the step: of a mutable borrow all but the last
abbrev pub followed : Ground → ℕ → Path → List (Option Value)
followed g t (reads w) = hops g t w w.depth
followed g t (lends w) = hops g t w (w.depth - 1)
followed g t p = []

-- a pointer with that word can be read through at a server: it leads there, or a copy may be read and is among those kept
abbrev pub is_at_hand : List ℕ → ℕ → Bool → ℕ → Bool
is_at_hand kept s by_copy w = (server_of w == s) || (by_copy && is_in w kept)

abbrev pub is_readable : List ℕ → ℕ → Awaited → Bool
is_readable kept s a = is_at_hand kept s a.by_copy a.word

-- the first of these that isn't readable
abbrev pub first_unreadable : List ℕ → ℕ → List Awaited → Option Awaited
first_unreadable kept s [] = None
first_unreadable kept s (a ∷ rest) = if is_readable kept s a then first_unreadable kept s rest else Some a
