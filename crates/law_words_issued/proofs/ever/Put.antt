-- Where an object comes, a pointer at its server gets its new word, or its thread takes it under that.
use Rattle.std.proofs.Common.{◌≡◌, ◌≤◌, ◌<◌, ℕ, zero, suc, ◌+◌, ◌-◌, ◌==◌, ◌&&◌, Bool, true, false, nat_lt, if◌then◌else◌, List, [], ◌∷◌, length, Option, Some, None, is_some, refl, sym, ap, subst, ◌∙◌, arith}
use Rattle.std.specs.Prelude.{slice_get, slice_set, slice_index_or}
use Rattle.std.proofs.lemmas.Bool.{eq-eqb}
use Rattle.std.proofs.lemmas.Bool.Decides.{nat_tests}
use Rattle.law_words_issued.specs.Below.fr_base.declared.instruction.Instr.{Instr}
use Rattle.law_words_issued.specs.Below.fr_base.declared.place.Lval.{Lval}
use Rattle.law_words_issued.specs.Below.global_addr.Words.{server_of, colour_of, address_of}
use Rattle.law_words_issued.specs.Below.heap_partition.declared.value.Cell.{Cell}
use Rattle.law_words_issued.specs.Below.heap_partition.declared.value.Owned.{Owned}
use Rattle.law_words_issued.specs.Below.heap_partition.declared.value.Owned.TheVariants as owned
use Rattle.law_words_issued.specs.Below.owner_box.View.{PartitionState}
use Rattle.law_words_issued.specs.Below.owner_box.Partition.{cell_of, with_value, stored, new_word}
use Rattle.law_words_issued.specs.Below.thread_state.declared.phase.Phase.{Phase}
use Rattle.law_words_issued.specs.Below.thread_state.declared.phase.Phase.TheVariants as phase
use Rattle.law_words_issued.specs.Below.thread_state.declared.value.Value.{Value}
use Rattle.law_words_issued.specs.Below.thread_state.declared.value.Value.TheVariants as value
use Rattle.law_words_issued.specs.Below.journal.declared.act.Act.TheVariants as act
use Rattle.law_words_issued.specs.Below.server_model.Work.{Hand, leads_here, with_partition, working, front_of, with_phase}
use Rattle.law_words_issued.specs.Below.server_model.NewWords.{NewWord, can_grow, issue_placed}
use Rattle.law_words_issued.specs.Below.server_model.Places.{Spot, in_slot, on_top, in_cell, in_copy, nowhere, value_at, note_write, put_at, with_word, set_pointer}
use Rattle.law_words_issued.specs.Below.server_model.Prepare.{Access, ReadTo, ReadPointer, WriteTo, LendTo, EndRef, passing, write_stars}
use Rattle.law_words_issued.specs.Below.server_model.Objects.{waits_for_cell, chased, waits_under, arrived_at, arrived_slot, passed_spot, arrived_write, arrived_lend, arrived_end, arrived, instr_access, deliver_moved}
use Rattle.law_words_issued.specs.Below.coherent_memory.Names.{tot, one}
use Rattle.law_words_issued.proofs.Below.coherent_memory.Names.{and_left, and_right}
use Rattle.law_words_issued.proofs.Below.coherent_memory.Sums.{tot-append}
use Rattle.law_words_issued.specs.Below.law_counts_sums.Laws.{Gives}
use Rattle.law_words_issued.proofs.Below.law_counts_sums.Results.{then_gives, over_gives, bind_gives, test_gives}

-- a pointer that can be changed has that word
abbrev pub word_in : ℕ → Value → ℕ
word_in w (value.Own (owned.Box p)) = one (p.word == w)
word_in w (value.Mut r) = one (r.word == w)
word_in w v = 0

abbrev pub word_at : ℕ → Option Cell → ℕ
word_at w None = 0
word_at w (Some c) = word_in w (value.Own c.value)

-- an object was taken under it
abbrev pub taken_as : ℕ → Phase → ℕ
taken_as w (phase.Taken v) = one (v == w)
taken_as w p = 0

-- LISTS

set_weighs : {X : Type 0} (g : X → ℕ) (xs : List X) (i : ℕ) (x : X) → i < length xs → g x ≤ tot g (slice_set xs i x)
set_weighs g [] i x l = absurd (omega (arith, l))
set_weighs g (y ∷ xs) zero x l = omega arith
set_weighs g (y ∷ xs) (suc i) x l = omega (arith, set_weighs g xs i x (omega (arith, l)))

within : (xs : List (Option Cell)) (i : ℕ) (c : Cell) → slice_index_or xs i None ≡ Some c → i < length xs
within [] i c e = absurd (cc e)
within (y ∷ xs) zero c e = omega arith
within (y ∷ xs) (suc i) c e = omega (arith, within xs i c e)

some_same : {X : Type 0} {a b : X} → Some a ≡ Some b → a ≡ b
some_same e = cc

-- a pointer with the word
worded : (w : ℕ) (v x : Value) → with_word w v ≡ Some x → word_in w x ≡ 1
worded w (value.Own (owned.Box p)) x e = subst (λ u. word_in w u ≡ 1) (some_same e) (ap one (eq-eqb w w refl))
worded w (value.Mut r) x e = subst (λ u. word_in w u ≡ 1) (some_same e) (ap one (eq-eqb w w refl))
worded w (value.Own owned.Nothing) x e = absurd (cc e)
worded w (value.Own owned.Unit) x e = absurd (cc e)
worded w (value.Own (owned.Int n)) x e = absurd (cc e)
worded w (value.Own (owned.Mutex m)) x e = absurd (cc e)
worded w (value.Own (owned.Task t)) x e = absurd (cc e)
worded w value.Gone x e = absurd (cc e)
worded w (value.SharedSlot i) x e = absurd (cc e)
worded w (value.MutSlot i) x e = absurd (cc e)
worded w (value.Shared r) x e = absurd (cc e)
worded w (value.Held m) x e = absurd (cc e)

-- a cell gets it
stored_weighs : (w : ℕ) (p : PartitionState) (u : ℕ) (v : Owned) → leads_here p u ≡ true → word_in w (value.Own v) ≤ tot (word_at w) (stored p u v).cells
stored_weighs w p u v on = by (cell_of p u) refl
  where
    live : is_some (cell_of p u) ≡ true
    live = and_right (server_of u == p.server) (is_some (cell_of p u)) (and_left ((server_of u == p.server) && is_some (cell_of p u)) (nat_lt (colour_of u) p.limit) on)

    by : (c : Option Cell) → cell_of p u ≡ c → word_in w (value.Own v) ≤ tot (word_at w) (slice_set p.cells (address_of u) (with_value v c))
    by None e = absurd (cc (sym (ap is_some e) ∙ live))
    by (Some c) e = set_weighs (word_at w) p.cells (address_of u) (Some (record c { value = v })) (within p.cells (address_of u) c e)

-- THE HAND

-- a server's number and a thread's
module _ (n t w : ℕ) where
  abbrev pub Numbers : Hand → Type 0
  Numbers h = (h.work.rest.number ≡ n) × (h.thread.number ≡ t)

  abbrev pub pointers : Hand → ℕ
  pointers h = tot (word_in w) h.thread.slots + tot (word_in w) h.thread.temps + tot (word_at w) h.work.rest.partition.cells

  abbrev Pointed : Hand → Type 0
  Pointed h = Numbers h × (1 ≤ pointers h)

  -- a pointer or the thread has it
  abbrev pub Shown : Hand → Type 0
  Shown h = Numbers h × (1 ≤ pointers h + taken_as w h.thread.phase)

  noted : (through : Option ℕ) (h : Hand) → Numbers h → 1 ≤ tot (word_at w) h.work.rest.partition.cells → Pointed (note_write through h)
  noted None h g l = (g, omega (arith, l))
  noted (Some i) h g l = (g, omega (arith, l))

  put_points : (s : Spot) (v : Value) (h : Hand) → word_in w v ≡ 1 → Numbers h → Gives Pointed (put_at s v h)
  put_points (in_slot i) v h a g =
      test_gives Pointed (nat_lt i (length h.thread.slots)) _ (λ on. (let l : i < length h.thread.slots = grind (arith, nat_tests, on) in (g, omega (arith, a, set_weighs (word_in w) h.thread.slots i v l))))
  put_points on_top v h a g = (g, omega (arith, a, tot-append (word_in w) (front_of h.thread.temps) (v ∷ [])))
  put_points (in_cell u through) (value.Own v) h a g =
      test_gives Pointed (leads_here h.work.rest.partition u) _ (λ on. noted through (working (with_partition (stored h.work.rest.partition u v)) h) g (omega (arith, a, stored_weighs w h.work.rest.partition u v on)))
  put_points (in_cell u through) value.Gone h a g = tt
  put_points (in_cell u through) (value.SharedSlot i) h a g = tt
  put_points (in_cell u through) (value.MutSlot i) h a g = tt
  put_points (in_cell u through) (value.Shared i) h a g = tt
  put_points (in_cell u through) (value.Mut i) h a g = tt
  put_points (in_cell u through) (value.Held i) h a g = tt
  put_points (in_copy u) v h a g = tt
  put_points nowhere v h a g = tt

  comes_at : (s : Spot) (h : Hand) → Numbers h → Gives Shown (arrived_at s w h)
  comes_at s h g =
      over_gives Pointed Shown (set_pointer s w h) _
      (then_gives Pointed (value_at h s) _ (λ v q. then_gives Pointed (with_word w v) _ (λ x e. put_points s x h (worded w v x e) g))) (λ h2 b. (b.0, omega (arith, b.1)))

  comes_slot : (old i : ℕ) (h : Hand) → Numbers h → Gives Shown (arrived_slot old w i h)
  comes_slot old i h a = test_gives Shown (waits_under old (slice_get h.thread.slots i)) _ (λ z. comes_at (in_slot i) h a)

  comes_write : (v : Lval) (h : Hand) → Numbers h → Gives Shown (arrived_write v w h)
  comes_write v h a = then_gives Shown (passed_spot (write_stars h.thread.passed 0 h (in_slot v.slot))) _ (λ s q. comes_at s (passing (h.thread.passed + 1) h) a)

  takes : (h : Hand) → Numbers h → Shown (with_phase (phase.Taken w) h)
  takes h a = (a, omega (arith, ap one (eq-eqb w w refl)))

  comes_lend : (slot d old : ℕ) (h : Hand) → Numbers h → Gives Shown (arrived_lend slot d old w h)
  comes_lend slot zero old h a = tt
  comes_lend slot (suc zero) old h a = takes h a
  comes_lend slot (suc (suc d)) old h a = by (waits_under old (slice_get h.thread.slots (chased d h.thread.slots slot)))
    where
      by : (b : Bool) → Gives Shown (if b then arrived_at (in_slot (chased d h.thread.slots slot)) w h else Some (with_phase (phase.Taken w) h))
      by true = comes_at (in_slot (chased d h.thread.slots slot)) h a
      by false = takes h a

  comes_end : (s : Spot) (v : Option Value) (old : ℕ) (h : Hand) → Numbers h → Gives Shown (arrived_end s v old w h)
  comes_end s (Some (value.Mut q)) old h a = by (q.word == old)
    where
      by : (b : Bool) → Gives Shown (if b then arrived_at s w h else arrived_write q.holder w h)
      by true = comes_at s h a
      by false = comes_write q.holder h a
  comes_end s _ old h a = tt

  comes_for : (x : Option Access) (old : ℕ) (h : Hand) → Numbers h → Gives Shown (arrived x old w h)
  comes_for None old h a = tt
  comes_for (Some (ReadTo v)) old h a = comes_slot old (chased (v.depth - 1) h.thread.slots v.slot) h a
  comes_for (Some (ReadPointer v)) old h a = comes_slot old (chased (v.depth - 1) h.thread.slots v.slot) h a
  comes_for (Some (WriteTo v)) old h a = comes_write v h a
  comes_for (Some (LendTo v)) old h a = comes_lend v.slot v.depth old h a
  comes_for (Some (EndRef s)) old h a = comes_end s (value_at h s) old h a

-- the word is the partition's next one
pub lands_shown : (n t : ℕ) (code : List Instr) (old : ℕ) (c : Cell) (h : Hand) → Numbers n t 0 h → Gives (Shown n t (new_word h.work.rest.partition)) (deliver_moved code old c h)
lands_shown n t code old c h g =
    test_gives Then (waits_for_cell h.thread.phase old) _ (λ z. bind_gives (λ (m : NewWord). (m.word ≡ w) × (m.work.rest.number ≡ n)) Then (issue_placed (act.Take c.object old) c h.work) _
    (test_gives (λ (m : NewWord). (m.word ≡ w) × (m.work.rest.number ≡ n)) (can_grow h.work.rest.partition) _ (λ p. (refl, g.0)))
    (λ m b. subst (λ u. Gives Then (arrived (instr_access h (slice_get code h.thread.pc)) old u (record h { work = m.work }))) (sym b.0) (comes_for n t w (instr_access h (slice_get code h.thread.pc)) old (record h { work = m.work }) (b.1, g.1))))
  where
    w : ℕ
    w = new_word h.work.rest.partition

    Then : Hand → Type 0
    Then h2 = Shown n t w h2
