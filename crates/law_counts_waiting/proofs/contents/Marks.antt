-- The marks of locks among values: where a value is put, goes or is captured, and where values have the frames that they had.
use Rattle.std.proofs.Common.{◌≡◌, ℕ, zero, suc, ◌+◌, Bool, true, false, if◌then◌else◌, List, [], ◌∷◌, ◌++◌, map, Some, None, refl, sym, ap, subst, ◌∙◌, arith}
use Rattle.std.specs.Prelude.{slice_get, slice_set}
use Rattle.law_counts_waiting.specs.Below.fr_base.Lists.{last_of}
use Rattle.law_counts_waiting.specs.Below.fr_base.declared.name.MutexNo.{MutexNo}
use Rattle.law_counts_waiting.specs.Below.migration.Packing.{unpinned}
use Rattle.law_counts_waiting.specs.Below.thread_state.declared.value.Value.{Value}
use Rattle.law_counts_waiting.specs.Below.thread_state.declared.value.Value.TheVariants as value
use Rattle.law_counts_waiting.specs.Below.server_model.Work.{front_of}
use Rattle.law_counts_waiting.specs.Below.server_model.Places.{owns_nothing, second_of, written}
use Rattle.law_counts_waiting.specs.Below.server_model.Start.{captured, left_after, capture_from, capture}
use Rattle.law_counts_waiting.specs.Below.coherent_memory.Names.{tot}
use Rattle.law_counts_waiting.proofs.Below.coherent_memory.Sums.{tot-append}
use Rattle.law_counts_waiting.specs.Below.law_counts_sums.Laws.{Gives}
use Rattle.law_counts_waiting.proofs.Below.law_counts_sums.Results.{then_gives}
use Rattle.law_counts_waiting.proofs.Below.law_counts_sums.Values.{last_split}
use Rattle.law_counts_waiting.specs.Below.law_heap_still.events.Shows.{Frame, frame_of, marking}
use Rattle.law_counts_waiting.proofs.contents.Weigh.{mark}

module _ (c : MutexNo → ℕ) where
  -- FRAMES

  abbrev pub frame_mark : Frame → ℕ
  frame_mark (marking n) = c n
  frame_mark x = 0

  -- a mark is seen in the frame of its value
  pub framed_one : (v : Value) → mark c v ≡ frame_mark (frame_of v)
  framed_one value.Gone = refl
  framed_one (value.Own v) = refl
  framed_one (value.SharedSlot i) = refl
  framed_one (value.MutSlot i) = refl
  framed_one (value.Shared r) = refl
  framed_one (value.Mut r) = refl
  framed_one (value.Held m) = refl

  -- and so are all marks
  pub framed_all : (vs : List Value) → tot (mark c) vs ≡ tot frame_mark (map frame_of vs)
  framed_all [] = refl
  framed_all (v ∷ vs) = omega (arith, framed_one v, framed_all vs)

  -- values of the same frames have the same marks
  pub framed : (vs ws : List Value) → map frame_of vs ≡ map frame_of ws → tot (mark c) vs ≡ tot (mark c) ws
  framed vs ws e = framed_all vs ∙ ap (tot frame_mark) e ∙ sym (framed_all ws)

  -- LISTS

  -- a value stands where another one stood
  pub set_sum : (vs : List Value) (i : ℕ) (old v : Value) → slice_get vs i ≡ Some old → tot (mark c) (slice_set vs i v) + mark c old ≡ tot (mark c) vs + mark c v
  set_sum [] i old v e = cc
  set_sum (x ∷ vs) zero old v e = let same : x ≡ old = cc in let weighs : mark c x ≡ mark c old = ap (mark c) same in omega (arith, weighs)
  set_sum (x ∷ vs) (suc i) old v e = omega (arith, set_sum vs i old v e)

  -- the last value goes
  pub last_sum : (vs : List Value) (v : Value) → last_of vs ≡ Some v → tot (mark c) (front_of vs) + mark c v ≡ tot (mark c) vs
  last_sum vs v e =
      let split : tot (mark c) vs ≡ tot (mark c) (front_of vs ++ v ∷ []) = ap (tot (mark c)) (last_split vs v e) in
      omega (arith, split, tot-append (mark c) (front_of vs) (v ∷ []))

  -- a value comes
  pub push_sum : (vs : List Value) (v : Value) → tot (mark c) (vs ++ v ∷ []) ≡ tot (mark c) vs + mark c v
  push_sum vs v = omega (arith, tot-append (mark c) vs (v ∷ []))

  -- a reference that was written through is no mark
  pub written_mark : (v : Value) → mark c (written v) ≡ mark c v
  written_mark (value.Mut r) = refl
  written_mark value.Gone = refl
  written_mark (value.Own v) = refl
  written_mark (value.SharedSlot i) = refl
  written_mark (value.MutSlot i) = refl
  written_mark (value.Shared r) = refl
  written_mark (value.Held m) = refl

  -- a value without its pin
  unpinned_mark : (v : Value) → mark c (unpinned v) ≡ mark c v
  unpinned_mark (value.Shared r) = refl
  unpinned_mark value.Gone = refl
  unpinned_mark (value.Own v) = refl
  unpinned_mark (value.SharedSlot i) = refl
  unpinned_mark (value.MutSlot i) = refl
  unpinned_mark (value.Mut r) = refl
  unpinned_mark (value.Held m) = refl

  -- nor do pins matter
  pub unpinned_marks : (vs : List Value) → tot (mark c) (map unpinned vs) ≡ tot (mark c) vs
  unpinned_marks [] = refl
  unpinned_marks (v ∷ vs) = omega (arith, unpinned_mark v, unpinned_marks vs)

  -- CAPTURES

  some_same : {a b : Value} → Some a ≡ Some b → a ≡ b
  some_same e = cc

  -- there is no second mark
  second_none : (v u : Value) → second_of v ≡ Some u → mark c u ≡ 0
  second_none (value.Own v) u e = by (owns_nothing v) e
    where
      by : (q : Bool) → (if q then Some (value.Own v) else None) ≡ Some u → mark c u ≡ 0
      by true d = subst (λ w. mark c w ≡ 0) (some_same d) refl
      by false d = absurd (cc d)
  second_none (value.SharedSlot i) u e = subst (λ w. mark c w ≡ 0) (some_same e) refl
  second_none (value.Shared r) u e = subst (λ w. mark c w ≡ 0) (some_same e) refl
  second_none value.Gone u e = absurd (cc e)
  second_none (value.MutSlot i) u e = absurd (cc e)
  second_none (value.Mut r) u e = absurd (cc e)
  second_none (value.Held m) u e = absurd (cc e)

  -- what is captured is no mark, nor is what it was captured from
  captured_none : (branch moves : Bool) (v u : Value) → captured branch moves v ≡ Some u → (mark c u ≡ 0) × (mark c v ≡ 0)
  captured_none branch true (value.Own v) u e = (subst (λ w. mark c w ≡ 0) (some_same e) refl, refl)
  captured_none branch false (value.Own v) u e = (second_none (value.Own v) u e, refl)
  captured_none true false (value.Shared r) u e = (second_none (value.Shared r) u e, refl)
  captured_none false false (value.Shared r) u e = absurd (cc e)
  captured_none branch true (value.Shared r) u e = absurd (cc e)
  captured_none branch true value.Gone u e = absurd (cc e)
  captured_none branch true (value.SharedSlot i) u e = absurd (cc e)
  captured_none branch true (value.MutSlot i) u e = absurd (cc e)
  captured_none branch true (value.Mut r) u e = absurd (cc e)
  captured_none branch true (value.Held m) u e = absurd (cc e)
  captured_none branch false value.Gone u e = absurd (cc e)
  captured_none branch false (value.SharedSlot i) u e = absurd (cc e)
  captured_none branch false (value.MutSlot i) u e = absurd (cc e)
  captured_none branch false (value.Mut r) u e = absurd (cc e)
  captured_none branch false (value.Held m) u e = absurd (cc e)

  -- what is captured leaves no mark less
  left_sum : (moves : Bool) (slots : List Value) (i : ℕ) (v : Value) → slice_get slots i ≡ Some v → mark c v ≡ 0 → tot (mark c) (left_after moves slots i) ≡ tot (mark c) slots
  left_sum true slots i v e z = omega (arith, set_sum slots i v value.Gone e, z)
  left_sum false slots i v e z = refl

  -- the new thread has so many marks, and so many are left
  abbrev pub Captured : ℕ → ℕ → List Value × List Value → Type 0
  Captured n d p = (tot (mark c) p.0 ≡ n) × (tot (mark c) p.1 ≡ d)

  -- capture by capture
  captures : (branch : Bool) (cs : List (ℕ × Bool)) (new slots : List Value) → Gives (Captured (tot (mark c) new) (tot (mark c) slots)) (capture_from branch new cs slots)
  captures branch [] new slots = (refl, refl)
  captures branch (x ∷ cs) new slots =
      then_gives (Captured (tot (mark c) new) (tot (mark c) slots)) (slice_get slots x.0) _ (λ v q. then_gives (Captured (tot (mark c) new) (tot (mark c) slots)) (captured branch x.1 v) _ (λ u e.
      let z = captured_none branch x.1 v u e in
      let more : tot (mark c) (new ++ u ∷ []) ≡ tot (mark c) new = omega (arith, push_sum new u, z.0) in
      subst (λ n. Gives (Captured n (tot (mark c) slots)) (capture_from branch (new ++ u ∷ []) cs (left_after x.1 slots x.0))) more
      (subst (λ d. Gives (Captured (tot (mark c) (new ++ u ∷ [])) d) (capture_from branch (new ++ u ∷ []) cs (left_after x.1 slots x.0))) (left_sum x.1 slots x.0 v q z.1) (captures branch cs (new ++ u ∷ []) (left_after x.1 slots x.0)))))

  -- no mark is captured
  pub captures_none : (branch : Bool) (cs : List (ℕ × Bool)) (slots : List Value) → Gives (Captured 0 (tot (mark c) slots)) (capture branch cs slots)
  captures_none branch cs slots = captures branch cs [] slots
