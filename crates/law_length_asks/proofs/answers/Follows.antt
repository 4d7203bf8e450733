-- How each instruction follows its place: which path it has, and with which access.
use Rattle.std.proofs.Common.{◌≡◌, ℕ, zero, suc, ◌-◌, true, false, length, Option, Some, None, refl, ap, ◌∙◌}
use Rattle.std.specs.Prelude.{slice_get}
use Rattle.law_length_asks.specs.Below.law_walks_others.Below.fr_base.Lists.{last_of}
use Rattle.law_length_asks.specs.Below.law_walks_others.Below.fr_base.declared.place.Lval.{Lval}
use Rattle.law_length_asks.specs.Below.law_walks_others.Below.fr_base.declared.instruction.Instr.{Instr}
use Rattle.law_length_asks.specs.Below.law_walks_others.Below.fr_base.declared.instruction.Instr.TheVariants as instr
use Rattle.law_length_asks.specs.Below.law_walks_others.Below.fr_base.declared.instruction.Operand.{Operand}
use Rattle.law_length_asks.specs.Below.law_walks_others.Below.mut_borrow.declared.mutable.MutRef.{MutRef}
use Rattle.law_length_asks.specs.Below.law_walks_others.Below.thread_state.View.{ThreadState}
use Rattle.law_length_asks.specs.Below.law_walks_others.Below.thread_state.declared.value.Value.{Value}
use Rattle.law_length_asks.specs.Below.law_walks_others.Below.thread_state.declared.value.Value.TheVariants as value
use Rattle.law_length_asks.specs.Below.law_walks_others.Below.server_model.Places.{Spot, in_slot, on_top}
use Rattle.law_length_asks.specs.Below.law_walks_others.Below.server_model.Prepare.{Access, ReadTo, ReadPointer, WriteTo, LendTo, EndRef, assigned, read_or_taken, access_of}
use Rattle.law_length_asks.specs.Below.law_walks_others.Below.server_model.Prepare as access
use Rattle.law_length_asks.specs.Below.law_walks_others.Below.coherent_memory.Paths.{Path, no_path, reads, shares, lends, writes, ends, path_of, assigning, taking}
use Rattle.law_length_asks.specs.Below.law_walks_others.Below.coherent_memory.Paths as paths
use Rattle.law_length_asks.specs.Below.law_words_borrows.Below.law_words_kept.reads.Reading.{Reads, copies, dups, locks}
use Rattle.law_length_asks.proofs.Below.law_walks_others.Below.law_results_events.writes.Ends.{value_of_thread}

-- a slot of the thread, or what is on top of its temporary values
pub data Own : Spot → Type 0 where
  own_slot : (j : ℕ) → Own (in_slot j)
  own_top : Own on_top

-- a reference ends that stands there, and the path is told by what stands there
pub record EndsThere (i : Instr) (y : ThreadState) (r : MutRef) (sp : Spot) : Type 0 where
  pub own : Own sp
  pub there : value_of_thread y sp ≡ Some (value.Mut r)
  pub path_by : (u : ThreadState) (q : MutRef) → value_of_thread u sp ≡ Some (value.Mut q) → length u.slots ≡ length y.slots → path_of (Some i) u ≡ ends q

pub data Follows (i : Instr) (y : ThreadState) : Path → Option Access → Type 0 where
  reads_all : (w : Lval) → Reads i w w.depth → ((u : ThreadState) → path_of (Some i) u ≡ reads w) → Follows i y (reads w) (Some (ReadTo w))
  takes_slot : (w : Lval) → Follows i y no_path (Some (ReadTo w))
  shares_one : (w : Lval) → i ≡ instr.Borrow w → Follows i y (shares w) (Some (ReadPointer w))
  lends_one : (w : Lval) → i ≡ instr.BorrowMut w → Follows i y (lends w) (Some (LendTo w))
  writes_all : (w : Lval) → ((u : ThreadState) → path_of (Some i) u ≡ writes w) → Follows i y (writes w) (Some (WriteTo w))
  ends_one : (r : MutRef) (sp : Spot) → EndsThere i y r sp → Follows i y (ends r) (Some (EndRef sp))
  no_place : Follows i y no_path None

-- what may end there
ending_follows : (i : Instr) (y : ThreadState) (sp : Spot) → Own sp → (v : Option Value) → value_of_thread y sp ≡ v → ((u : ThreadState) (q : MutRef) → value_of_thread u sp ≡ Some (value.Mut q) → length u.slots ≡ length y.slots → path_of (Some i) u ≡ ends q)
    → Follows i y (paths.ending v) (access.ending sp v)
ending_follows i y sp o (Some (value.Mut r)) e by = ends_one r sp (record { own = o; there = e; path_by = by })
ending_follows i y sp o None e by = no_place
ending_follows i y sp o (Some value.Gone) e by = no_place
ending_follows i y sp o (Some (value.Own u)) e by = no_place
ending_follows i y sp o (Some (value.SharedSlot j)) e by = no_place
ending_follows i y sp o (Some (value.MutSlot j)) e by = no_place
ending_follows i y sp o (Some (value.Shared r)) e by = no_place
ending_follows i y sp o (Some (value.Held m)) e by = no_place

assign_follows : (w : Lval) (p : Operand) (y : ThreadState) (d : ℕ) → w.depth ≡ d → Follows (instr.Assign w p) y (assigning y.slots w d) (assigned w d y)
assign_follows w p y zero e = ending_follows (instr.Assign w p) y (in_slot w.slot) (own_slot w.slot) (slice_get y.slots w.slot) refl (λ u q f size. ap (assigning u.slots w) e ∙ ap paths.ending f)
assign_follows w p y (suc d) e = writes_all w (λ u. ap (assigning u.slots w) e)

take_follows : (w : Lval) (y : ThreadState) (d : ℕ) → w.depth ≡ d → Follows (instr.Read w true) y (taking w d) (Some (read_or_taken w d true))
take_follows w y zero e = takes_slot w
take_follows w y (suc d) e = writes_all w (λ u. ap (taking w) e)

copy_follows : (w : Lval) (y : ThreadState) (d : ℕ) → Follows (instr.Read w false) y (reads w) (Some (read_or_taken w d false))
copy_follows w y zero = reads_all w (copies refl) (λ u. refl)
copy_follows w y (suc d) = reads_all w (copies refl) (λ u. refl)

pub follows : (i : Instr) (y : ThreadState) → Follows i y (path_of (Some i) y) (access_of i y)
follows (instr.Assign w p) y = assign_follows w p y w.depth refl
follows (instr.Read w true) y = take_follows w y w.depth refl
follows (instr.Read w false) y = copy_follows w y w.depth
follows (instr.Dup w) y = reads_all w (dups refl) (λ u. refl)
follows (instr.Lock w) y = reads_all w (locks refl) (λ u. refl)
follows (instr.Borrow w) y = shares_one w refl
follows (instr.BorrowMut w) y = lends_one w refl
follows instr.Discard y = ending_follows instr.Discard y on_top own_top (last_of y.temps) refl (λ u q f size. ap paths.ending f)
follows instr.DropSlot y =
    ending_follows instr.DropSlot y (in_slot (length y.slots - 1)) (own_slot (length y.slots - 1)) (last_of y.slots) refl (λ u q f size. ap paths.ending (ap (λ m. slice_get u.slots (m - 1)) size ∙ f))
follows (instr.Let p) y = no_place
follows (instr.Box p) y = no_place
follows (instr.Arith f a b) y = no_place
follows (instr.Print p) y = no_place
follows (instr.Spawn cs pc) y = no_place
follows (instr.Join p) y = no_place
follows (instr.Mutex p) y = no_place
follows instr.Unlock y = no_place
follows (instr.Par cs pc ds other) y = no_place
follows instr.ParEnd y = no_place
follows (instr.End p) y = no_place
