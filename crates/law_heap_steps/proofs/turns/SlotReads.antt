-- Reads of a variable, copied or moved out, at the server and on the plain machine.
use Rattle.std.proofs.Common.{◌≡◌, ℕ, zero, suc, ◌+◌, Bool, true, false, if◌then◌else◌, List, [], ◌∷◌, ◌++◌, length, map, Some, None, option_map, refl, sym, ap, ◌∙◌, subst, arith}
use Rattle.std.specs.Prelude.{slice_get, slice_set, nat_lt}
use Rattle.std.proofs.lemmas.List.{reverse-append}
use Rattle.law_words_kept.proofs.Below.fr_typing.PlaceLemmas.{eq_cases}
use Rattle.law_words_kept.specs.Below.fr_base.declared.instruction.Instr.TheVariants as instr
use Rattle.law_words_kept.specs.Below.fr_plain.declared.value.Value.{Value as PlainValue}
use Rattle.law_words_kept.specs.Below.fr_plain.State.{gone, with_slot, Reached}
use Rattle.law_words_kept.specs.Below.fr_plain.State as state
use Rattle.law_words_kept.specs.Below.fr_plain.MachineActs.{do_read, read_did}
use Rattle.law_words_kept.specs.Below.fr_code.Steps.{over_at, run_instr}
use Rattle.law_words_kept.specs.Below.heap_partition.declared.value.Owned.TheVariants as owned
use Rattle.law_words_kept.specs.Below.thread_state.View.{ThreadState}
use Rattle.law_words_kept.specs.Below.thread_state.declared.value.Value.{Value}
use Rattle.law_words_kept.specs.Below.thread_state.declared.value.Value.TheVariants as value
use Rattle.law_words_kept.specs.Below.fr_base.declared.instruction.Instr.{Instr}
use Rattle.law_words_kept.specs.Below.server_model.Servers.{Rest}
use Rattle.law_words_kept.specs.Below.server_model.Work.{push_temp, with_slots}
use Rattle.law_words_kept.specs.Below.server_model.Places.{in_slot, second_of}
use Rattle.law_words_kept.specs.Below.server_model.Commit.{read, read_as}
use Rattle.law_words_kept.specs.Below.server_model.Events.{step}
use Rattle.law_words_kept.specs.Below.coherent_memory.Names.{one}
use Rattle.law_words_kept.specs.Below.coherent_memory.OneHeap.{Node, object_n, mutex_n, task_n, owns, plain_value, running_at}
use Rattle.law_words_kept.specs.Below.law_counts_sums.Laws.{Gives}
use Rattle.law_words_kept.proofs.Below.law_counts_sums.Results.{then_gives, over_gives}
use Rattle.law_words_kept.proofs.Below.law_words_paths.paths.Shown.{shown_value}
use Rattle.law_heap_steps.proofs.turns.Parts.{value_owns, owned_in}
use Rattle.law_heap_steps.proofs.turns.PlainTurn.{Does, state_at, alone_does}
use Rattle.law_heap_steps.proofs.turns.Instructions.{shown_last, shown_push, owned_push, int_owns, unit_owns, Turn, Quick, h0, settles, variable, pushes, loud_does}

-- A SLOT THAT IS SET

shown_cons : (x : Value) (xs : List Value) → shown_last (x ∷ xs) ≡ shown_last xs ++ plain_value x ∷ []
shown_cons x xs = reverse-append (plain_value x ∷ []) (map plain_value xs)

length_more : (ys : List PlainValue) (v : PlainValue) → length (ys ++ v ∷ []) ≡ suc (length ys)
length_more [] v = refl
length_more (y ∷ ys) v = ap suc (length_more ys v)

with_last : (ys : List PlainValue) (v new : PlainValue) → with_slot (ys ++ v ∷ []) 0 new ≡ ys ++ new ∷ []
with_last [] v new = refl
with_last (y ∷ ys) v new =
    eq_cases (λ b. (if b then new ∷ (ys ++ v ∷ []) else y ∷ with_slot (ys ++ v ∷ []) 0 new) ≡ y ∷ (ys ++ new ∷ [])) 0 (length (ys ++ v ∷ [])) (λ e. absurd (omega (arith, e, length_more ys v))) (λ _. ap (λ l. y ∷ l) (with_last ys v new))

with_more : (ys : List PlainValue) (v : PlainValue) (i : ℕ) (new : PlainValue) → with_slot (ys ++ v ∷ []) (suc i) new ≡ with_slot ys i new ++ v ∷ []
with_more [] v i new = eq_cases (λ b. (if b then new ∷ [] else v ∷ []) ≡ v ∷ []) (suc i) 0 (λ e. absurd (omega (arith, e))) (λ _. refl)
with_more (y ∷ ys) v i new =
    eq_cases (λ b. (if b then new ∷ (ys ++ v ∷ []) else y ∷ with_slot (ys ++ v ∷ []) (suc i) new) ≡ with_slot (y ∷ ys) i new ++ v ∷ []) (suc i) (length (ys ++ v ∷ []))
    (λ e. eq_cases (λ b. new ∷ (ys ++ v ∷ []) ≡ (if b then new ∷ ys else y ∷ with_slot ys i new) ++ v ∷ []) i (length ys) (λ _. refl) (λ ne. absurd (ne (omega (arith, e, length_more ys v)))))
    (λ ne. eq_cases (λ b. y ∷ with_slot (ys ++ v ∷ []) (suc i) new ≡ (if b then new ∷ ys else y ∷ with_slot ys i new) ++ v ∷ []) i (length ys) (λ e. absurd (ne (omega (arith, e, length_more ys v)))) (λ _. ap (λ l. y ∷ l) (with_more ys v i new)))

pub set_shown : (xs : List Value) (i : ℕ) (w : Value) → with_slot (shown_last xs) i (plain_value w) ≡ shown_last (slice_set xs i w)
set_shown [] i w = refl
set_shown (x ∷ xs) zero w = ap (λ l. with_slot l 0 (plain_value w)) (shown_cons x xs) ∙ with_last (shown_last xs) (plain_value x) (plain_value w) ∙ sym (shown_cons w xs)
set_shown (x ∷ xs) (suc i) w =
    ap (λ l. with_slot l (suc i) (plain_value w)) (shown_cons x xs) ∙ with_more (shown_last xs) (plain_value x) i (plain_value w) ∙ ap (λ l. l ++ plain_value x ∷ []) (set_shown xs i w) ∙ sym (shown_cons x (slice_set xs i w))

-- what was in the slot goes out of it
pub taken_owned : (q : Node) (xs : List Value) (i : ℕ) (v : Value) → slice_get xs i ≡ Some v → owned_in q xs ≡ owned_in q (slice_set xs i value.Gone) + one (value_owns q v)
taken_owned q [] i v e = absurd (cc e)
taken_owned q (x ∷ xs) zero v e = let same : x ≡ v = cc in omega (arith, ap (λ w. one (value_owns q w)) same)
taken_owned q (x ∷ xs) (suc i) v e = omega (arith, taken_owned q xs i v e)

-- A SECOND VALUE

pub record Second (v u : Value) : Type 0 where
  pub shown : plain_value u ≡ plain_value v
  pub bare : (q : Node) → value_owns q u ≡ false

pub nothing_owns : (q : Node) → owns q owned.Nothing ≡ false
nothing_owns (object_n o) = refl
nothing_owns (mutex_n m) = refl
nothing_owns (task_n t) = refl

pub second : (v : Value) → Gives (Second v) (second_of v)
second (value.Own owned.Nothing) = record { shown = refl; bare = nothing_owns }
second (value.Own owned.Unit) = record { shown = refl; bare = unit_owns }
second (value.Own (owned.Int n)) = record { shown = refl; bare = λ q. int_owns q n }
second (value.Own (owned.Box p)) = tt
second (value.Own (owned.Mutex m)) = tt
second (value.Own (owned.Task t)) = tt
second (value.SharedSlot i) = record { shown = refl; bare = λ q. refl }
second (value.Shared r) = record { shown = refl; bare = λ q. refl }
second (value.MutSlot i) = tt
second (value.Mut r) = tt
second (value.Held m) = tt
second value.Gone = tt

-- THE READ

module _ (code : List Instr) (servers : ℕ) (r : Rest) (x : ThreadState) (i : ℕ) where
  abbrev here_spot : Reached
  here_spot = record { spot = state.in_slot i; passed = [] }

  seen : (v : Value) → slice_get x.slots i ≡ Some v → state.slot_at (shown_last x.slots) i ≡ Some (plain_value v)
  seen v e = shown_value x.slots i ∙ ap (option_map plain_value) e

  module _ (take : Bool) (here : slice_get code x.pc ≡ Some (instr.Read (variable code servers r x i) take)) where
    copied : (v u : Value) → slice_get x.slots i ≡ Some v → take ≡ false → Second v u → Quick code r x (push_temp u (h0 code servers r x))
    copied v u e f d =
        pushes code servers r x u d.bare
        (loud_does code servers r x (instr.Read (variable code servers r x i) take) (do_read (variable code servers r x i) take) u here refl refl (λ c z m. refl)
        (λ c t. ap (λ b. read_did (state_at c t (shown_last x.slots)) b here_spot (state.slot_at (shown_last x.slots) i)) f ∙ ap (read_did (state_at c t (shown_last x.slots)) false here_spot) (seen v e) ∙ ap (λ w. Some (record { value = w; state = state_at c t (shown_last x.slots); labels = [] })) (sym d.shown))
        (λ c t. refl))

    moved : (v : Value) → slice_get x.slots i ≡ Some v → take ≡ true → Quick code r x (push_temp v (with_slots (slice_set x.slots i value.Gone) (h0 code servers r x)))
    moved v e f = record {
      slots = slice_set x.slots i value.Gone;
      temps = x.temps ++ v ∷ [];
      thread = refl;
      rest = refl;
      even = λ q. omega (arith, taken_owned q x.slots i v e, owned_push q x.temps v);
      does = subst (λ ts. Does code (running_at x) (record { place = record { pc = x.pc + 1; temps = ts }; slots = shown_last (slice_set x.slots i value.Gone) }) []) (sym (shown_push x.temps v))
          (subst (λ ss. Does code (running_at x) (record { place = record { pc = x.pc + 1; temps = plain_value v ∷ shown_last x.temps }; slots = ss }) []) (set_shown x.slots i value.Gone)
          (alone_does code (running_at x) (do_read (variable code servers r x i) take) (λ w. record { pc = x.pc + 1; temps = w ∷ shown_last x.temps }) (plain_value v) (with_slot (shown_last x.slots) i gone) []
          (ap (λ j. over_at j (shown_last x.temps)) here) (ap (λ j. run_instr j x.pc (shown_last x.temps)) here) (λ c z m. refl)
          (λ c t. ap (λ b. read_did (state_at c t (shown_last x.slots)) b here_spot (state.slot_at (shown_last x.slots) i)) f ∙ ap (read_did (state_at c t (shown_last x.slots)) true here_spot) (seen v e))
          (λ c t. refl)));
    }

    by_take : (b : Bool) → take ≡ b → (v : Value) → slice_get x.slots i ≡ Some v → Gives (Quick code r x) (read_as b (in_slot i) v (h0 code servers r x))
    by_take false f v e = over_gives (Second v) (Quick code r x) (second_of v) (λ u. push_temp u (h0 code servers r x)) (second v) (λ u d. copied v u e f d)
    by_take true f v e = by (nat_lt i (length x.slots))
      where
        by : (q : Bool) → Gives (Quick code r x) (option_map (push_temp v) (if q then Some (with_slots (slice_set x.slots i value.Gone) (h0 code servers r x)) else None))
        by true = moved v e f
        by false = tt

    pub reads : Gives (Turn code r x) (step servers (instr.Read (variable code servers r x i) take) (h0 code servers r x))
    reads = settles code servers r x (read take (in_slot i) (h0 code servers r x)) (then_gives (Quick code r x) (slice_get x.slots i) _ (λ v e. by_take take refl v e))
