-- Where a pointer leads, whatever word it has and whether it was written through.
use Rattle.std.proofs.Common.{◌≡◌, ℕ, zero, suc, ◌+◌, ◌-◌, List, [], ◌∷◌, ◌++◌, Option, Some, None, true, false, refl, sym, ap, ◌∙◌, arith}
use Rattle.std.specs.Prelude.{slice_get, slice_set, length}
use Rattle.law_counts_waiting.specs.Below.fr_base.Lists.{last_of}
use Rattle.law_counts_waiting.specs.Below.heap_partition.declared.value.Owned.TheVariants as owned
use Rattle.law_counts_waiting.specs.Below.thread_state.View.{ThreadState}
use Rattle.law_counts_waiting.specs.Below.fr_base.declared.instruction.Instr.{Instr}
use Rattle.law_counts_waiting.specs.Below.fr_base.declared.instruction.Instr.TheVariants as instr
use Rattle.law_counts_waiting.specs.Below.thread_state.declared.value.Value.{Value}
use Rattle.law_counts_waiting.specs.Below.thread_state.declared.value.Value.TheVariants as value
use Rattle.law_counts_waiting.specs.Below.server_model.Places.{with_word, written, note_slot}
use Rattle.law_counts_waiting.specs.Below.coherent_memory.Paths.{ending, assigning, path_of, written_place}
use Rattle.law_counts_waiting.proofs.Below.law_words_paths.paths.Sole.{some_is}

abbrev pub unworded : Option Value → Option Value
unworded (Some (value.Own (owned.Box p))) = Some (value.Own (owned.Box (record p { word = 0 })))
unworded (Some (value.Mut r)) = Some (value.Mut (record r { word = 0; dirty = false }))
unworded v = v

-- another word isn't seen, nor a mark
pub word_unseen : (w : ℕ) (v u : Value) → with_word w v ≡ Some u → unworded (Some u) ≡ unworded (Some v)
word_unseen w (value.Own (owned.Box p)) u e = ap (λ z. unworded (Some z)) (sym (some_is e))
word_unseen w (value.Mut r) u e = ap (λ z. unworded (Some z)) (sym (some_is e))
word_unseen w (value.Own owned.Nothing) u e = absurd (cc e)
word_unseen w (value.Own owned.Unit) u e = absurd (cc e)
word_unseen w (value.Own (owned.Int n)) u e = absurd (cc e)
word_unseen w (value.Own (owned.Mutex n)) u e = absurd (cc e)
word_unseen w (value.Own (owned.Task n)) u e = absurd (cc e)
word_unseen w value.Gone u e = absurd (cc e)
word_unseen w (value.SharedSlot j) u e = absurd (cc e)
word_unseen w (value.MutSlot j) u e = absurd (cc e)
word_unseen w (value.Shared r) u e = absurd (cc e)
word_unseen w (value.Held m) u e = absurd (cc e)

mark_unseen : (v : Value) → unworded (Some (written v)) ≡ unworded (Some v)
mark_unseen (value.Mut r) = refl
mark_unseen (value.Own v) = refl
mark_unseen value.Gone = refl
mark_unseen (value.SharedSlot j) = refl
mark_unseen (value.MutSlot j) = refl
mark_unseen (value.Shared r) = refl
mark_unseen (value.Held m) = refl

-- a slot that gets such a value
pub set_unseen : (vs : List Value) (i j : ℕ) (v u : Value) → slice_get vs i ≡ Some v → unworded (Some u) ≡ unworded (Some v) → unworded (slice_get (slice_set vs i u) j) ≡ unworded (slice_get vs j)
set_unseen [] i j v u e f = absurd (cc e)
set_unseen (x ∷ vs) zero zero v u e f = f ∙ ap unworded (sym e)
set_unseen (x ∷ vs) zero (suc j) v u e f = refl
set_unseen (x ∷ vs) (suc i) zero v u e f = refl
set_unseen (x ∷ vs) (suc i) (suc j) v u e f = set_unseen vs i j v u e f

pub note_unseen : (vs : List Value) (i j : ℕ) (o : Option Value) → slice_get vs i ≡ o → unworded (slice_get (note_slot vs i o) j) ≡ unworded (slice_get vs j)
note_unseen vs i j None e = refl
note_unseen vs i j (Some v) e = set_unseen vs i j v (written v) e (mark_unseen v)

pub last_pushed : (xs : List Value) (v : Value) → last_of (xs ++ v ∷ []) ≡ Some v
last_pushed xs v = ap (slice_get (xs ++ v ∷ [])) (one_less xs) ∙ got xs
  where
    pushed_length : (xs : List Value) → length (xs ++ v ∷ []) ≡ length xs + 1
    pushed_length [] = refl
    pushed_length (x ∷ xs) = let l = pushed_length xs in omega (arith, l)

    one_less : (xs : List Value) → length (xs ++ v ∷ []) - 1 ≡ length xs
    one_less xs = let l = pushed_length xs in omega (arith, l)

    got : (xs : List Value) → slice_get (xs ++ v ∷ []) (length xs) ≡ Some v
    got [] = refl
    got (x ∷ xs) = got xs

-- THE PLACE OF A WRITE doesn't see it

ending_seen : (v : Option Value) → written_place (ending (unworded v)) ≡ written_place (ending v)
ending_seen None = refl
ending_seen (Some (value.Own (owned.Box p))) = refl
ending_seen (Some (value.Own v)) = refl
ending_seen (Some (value.Mut r)) = refl
ending_seen (Some v) = refl

ending_same : (u v : Option Value) → unworded u ≡ unworded v → written_place (ending u) ≡ written_place (ending v)
ending_same u v e = sym (ending_seen u) ∙ ap (λ z. written_place (ending z)) e ∙ ending_seen v

-- of two threads the slots lead alike, and what is on top of the temporary values does
pub record LeadsAlike (x y : ThreadState) : Type 0 where
  pub slots : (j : ℕ) → unworded (slice_get x.slots j) ≡ unworded (slice_get y.slots j)
  pub size : length x.slots ≡ length y.slots
  pub top : unworded (last_of x.temps) ≡ unworded (last_of y.temps)

pub place_same : (o : Option Instr) (x y : ThreadState) → LeadsAlike x y → written_place (path_of o x) ≡ written_place (path_of o y)
place_same (Some (instr.Assign w a)) x y l = by w.depth
  where
    by : (d : ℕ) → written_place (assigning x.slots w d) ≡ written_place (assigning y.slots w d)
    by zero = ending_same (slice_get x.slots w.slot) (slice_get y.slots w.slot) (l.slots w.slot)
    by (suc d) = refl
place_same (Some instr.DropSlot) x y l =
    ending_same (last_of x.slots) (last_of y.slots) (ap (λ n. unworded (slice_get x.slots (n - 1))) l.size ∙ l.slots (length y.slots - 1))
place_same (Some instr.Discard) x y l = ending_same (last_of x.temps) (last_of y.temps) l.top
place_same (Some (instr.Read w true)) x y l = refl
place_same (Some (instr.Read w false)) x y l = refl
place_same None x y l = refl
place_same (Some i) x y l = refl
