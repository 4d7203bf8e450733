-- What a thread waits for is told by a pointer that it reads or writes through, and what reads by its instruction.
use Rattle.std.proofs.Common.{◌≡◌, inl, inr, ℕ, zero, suc, Bool, true, false, if◌then◌else◌, [], ◌∷◌, Option, Some, None, refl, ap, subst}
use Rattle.std.specs.Prelude.{slice_get}
use Rattle.law_words_kept.specs.Below.fr_base.declared.place.Lval.{Lval}
use Rattle.law_words_kept.specs.Below.fr_base.declared.instruction.Instr.{Instr}
use Rattle.law_words_kept.specs.Below.fr_base.declared.instruction.Instr.TheVariants as instr
use Rattle.law_words_kept.specs.Below.heap_partition.declared.value.BoxPtr.{BoxPtr}
use Rattle.law_words_kept.specs.Below.heap_partition.declared.value.Owned.TheVariants as owned
use Rattle.law_words_kept.specs.Below.thread_state.View.{ThreadState}
use Rattle.law_words_kept.specs.Below.thread_state.declared.value.Value.{Value}
use Rattle.law_words_kept.specs.Below.thread_state.declared.value.Value.TheVariants as value
use Rattle.law_words_kept.specs.Below.server_model.Places.{pointer_of}
use Rattle.law_words_kept.specs.Below.coherent_memory.Names.{Among}
use Rattle.law_words_kept.specs.Below.coherent_memory.Paths.{reads, shares, ending, taking, assigning, path_of, Awaited, is_spent, to_read, to_write, to_clean}
use Rattle.law_words_kept.specs.reads.Reading.{Reads, copies, dups, locks}

-- WHAT IS WAITED FOR

pub read_pointer : (c : ℕ) (v : Value) (a : Awaited) → Among a (to_read c (Some v)) → pointer_of v ≡ Some (record { word = a.word; object = a.object })
read_pointer c (value.Own (owned.Box p)) a (inl q) = ap (λ (x : Awaited). Some (let b : BoxPtr = record { word = x.word; object = x.object } in b)) q
read_pointer c (value.Own (owned.Box p)) a (inr m) = absurd m
read_pointer c (value.Own v) a m = absurd m
read_pointer c (value.Shared r) a (inl q) = ap (λ (x : Awaited). Some (let b : BoxPtr = record { word = x.word; object = x.object } in b)) q
read_pointer c (value.Shared r) a (inr m) = absurd m
read_pointer c (value.Mut r) a (inl q) = ap (λ (x : Awaited). Some (let b : BoxPtr = record { word = x.word; object = x.object } in b)) q
read_pointer c (value.Mut r) a (inr m) = absurd m
read_pointer c _ a m = absurd m

pub write_pointer : (v : Value) (a : Awaited) → Among a (to_write (Some v)) → pointer_of v ≡ Some (record { word = a.word; object = a.object })
write_pointer (value.Own (owned.Box p)) a (inl q) = ap (λ (x : Awaited). Some (let b : BoxPtr = record { word = x.word; object = x.object } in b)) q
write_pointer (value.Own (owned.Box p)) a (inr m) = absurd m
write_pointer (value.Own v) a m = absurd m
write_pointer (value.Mut r) a (inl q) = ap (λ (x : Awaited). Some (let b : BoxPtr = record { word = x.word; object = x.object } in b)) q
write_pointer (value.Mut r) a (inr m) = absurd m
write_pointer _ a m = absurd m

pub clean_pointer : (c : ℕ) (v : Value) (a : Awaited) → Among a (to_clean c (Some v)) → pointer_of v ≡ Some (record { word = a.word; object = a.object })
clean_pointer c (value.Mut r) a m = by (is_spent c r) m
  where
    by : (b : Bool) → Among a (if b then record { word = r.word; object = r.object; comes = true; by_copy = false } ∷ [] else []) → pointer_of (value.Mut r) ≡ Some (record { word = a.word; object = a.object })
    by true (inl q) = ap (λ (x : Awaited). Some (let b : BoxPtr = record { word = x.word; object = x.object } in b)) q
    by true (inr m) = absurd m
    by false m = absurd m
clean_pointer c _ a m = absurd m

-- THE INSTRUCTION OF A PATH THAT READS

ending_no_read : (v : Option Value) (p : Lval) → ending v ≡ reads p → ⊥
ending_no_read (Some (value.Mut q)) p e = cc e
ending_no_read _ p e = cc e

ending_no_share : (v : Option Value) (p : Lval) → ending v ≡ shares p → ⊥
ending_no_share (Some (value.Mut q)) p e = cc e
ending_no_share _ p e = cc e

one_read : (w p : Lval) → reads w ≡ reads p → w ≡ p
one_read w p e = cc

one_share : (w p : Lval) → shares w ≡ shares p → w ≡ p
one_share w p e = cc

pub reads_of : (o : Option Instr) (t : ThreadState) (p : Lval) → path_of o t ≡ reads p → (i : Instr) × (o ≡ Some i) × Reads i p p.depth
reads_of (Some (instr.Read w false)) t p e = (instr.Read w false, refl, subst (λ (z : Lval). Reads (instr.Read w false) z z.depth) (one_read w p e) (copies refl))
reads_of (Some (instr.Dup w)) t p e = (instr.Dup w, refl, subst (λ (z : Lval). Reads (instr.Dup w) z z.depth) (one_read w p e) (dups refl))
reads_of (Some (instr.Lock w)) t p e = (instr.Lock w, refl, subst (λ (z : Lval). Reads (instr.Lock w) z z.depth) (one_read w p e) (locks refl))
reads_of (Some (instr.Read w true)) t p e = by w.depth e
  where
    by : (d : ℕ) → taking w d ≡ reads p → (i : Instr) × (Some (instr.Read w true) ≡ Some i) × Reads i p p.depth
    by zero q = absurd (cc q)
    by (suc d) q = absurd (cc q)
reads_of (Some (instr.Assign w o)) t p e = by w.depth e
  where
    by : (d : ℕ) → assigning t.slots w d ≡ reads p → (i : Instr) × (Some (instr.Assign w o) ≡ Some i) × Reads i p p.depth
    by zero q = absurd (ending_no_read (slice_get t.slots w.slot) p q)
    by (suc d) q = absurd (cc q)
reads_of (Some instr.DropSlot) t p e = absurd (ending_no_read _ p e)
reads_of (Some instr.Discard) t p e = absurd (ending_no_read _ p e)
reads_of (Some _) t p e = absurd (cc e)
reads_of None t p e = absurd (cc e)

pub shares_of : (o : Option Instr) (t : ThreadState) (p : Lval) → path_of o t ≡ shares p → o ≡ Some (instr.Borrow p)
shares_of (Some (instr.Borrow w)) t p e = ap (λ z. Some (instr.Borrow z)) (one_share w p e)
shares_of (Some (instr.Read w false)) t p e = absurd (cc e)
shares_of (Some (instr.Read w true)) t p e = by w.depth e
  where
    by : (d : ℕ) → taking w d ≡ shares p → Some (instr.Read w true) ≡ Some (instr.Borrow p)
    by zero q = absurd (cc q)
    by (suc d) q = absurd (cc q)
shares_of (Some (instr.Assign w o)) t p e = by w.depth e
  where
    by : (d : ℕ) → assigning t.slots w d ≡ shares p → Some (instr.Assign w o) ≡ Some (instr.Borrow p)
    by zero q = absurd (ending_no_share (slice_get t.slots w.slot) p q)
    by (suc d) q = absurd (cc q)
shares_of (Some instr.DropSlot) t p e = absurd (ending_no_share _ p e)
shares_of (Some instr.Discard) t p e = absurd (ending_no_share _ p e)
shares_of (Some _) t p e = absurd (cc e)
shares_of None t p e = absurd (cc e)
