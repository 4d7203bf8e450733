-- In a sound cluster with few events the delivery of a `moved` has a result where its thread has passed no hop of a write: the pointer under the old word
-- is found where the thread waits for it, and an address is left.
use Rattle.std.proofs.Common.{◌≡◌, ◌⊎◌, inl, inr, ⊎_elim, ◌≤◌, ◌<◌, ℕ, zero, suc, ◌+◌, ◌-◌, ◌*◌, ◌^◌, ◌==◌, ◌&&◌, nat_lt, Bool, true, false, not, if◌then◌else◌, List, [], ◌∷◌, length, Option, Some, None, IsSome, refl, sym, ap, subst, ◌∙◌, arith}
use Rattle.std.specs.Prelude.{slice_get}
use Rattle.std.specs.Bool.{⊤}
use Rattle.std.proofs.lemmas.Option.{slice_get_within}
use Rattle.std.proofs.lemmas.Bool.{eqb-true, eq-eqb}
use Rattle.std.proofs.lemmas.Bool.Decides.{nat_tests}
use Rattle.coherent_memory.specs.Below.fr_base.Lists.{last_of}
use Rattle.coherent_memory.specs.Below.fr_base.declared.place.Lval.{Lval}
use Rattle.coherent_memory.specs.Below.fr_base.declared.instruction.Instr.{Instr}
use Rattle.coherent_memory.specs.Below.fr_base.declared.instruction.Instr.TheVariants as instr
use Rattle.coherent_memory.specs.Below.heap_partition.declared.value.Cell.{Cell}
use Rattle.coherent_memory.specs.Below.heap_partition.declared.value.Owned.TheVariants as owned
use Rattle.coherent_memory.specs.Below.mut_borrow.declared.mutable.MutRef.{MutRef}
use Rattle.coherent_memory.specs.Below.thread_state.View.{ThreadState}
use Rattle.coherent_memory.specs.Below.thread_state.declared.phase.Phase.{Phase}
use Rattle.coherent_memory.specs.Below.thread_state.declared.phase.Phase.TheVariants as phase
use Rattle.coherent_memory.specs.Below.thread_state.declared.value.Value.{Value}
use Rattle.coherent_memory.specs.Below.thread_state.declared.value.Value.TheVariants as value
use Rattle.coherent_memory.specs.Below.server_msgs.declared.message.Message.{Message}
use Rattle.coherent_memory.specs.Below.server_msgs.declared.message.Message.TheVariants as message
use Rattle.coherent_memory.specs.Below.server_model.Servers.{Server, Cluster, server_at}
use Rattle.coherent_memory.specs.Below.server_model.Work.{Work, Hand, thread_in, then_some}
use Rattle.coherent_memory.specs.Below.server_model.NewWords.{can_grow}
use Rattle.coherent_memory.specs.Below.server_model.Places.{Spot, in_slot, on_top, with_word, put_at, set_pointer}
use Rattle.coherent_memory.specs.Below.server_model.Prepare.{passing, write_stars}
use Rattle.coherent_memory.specs.Below.server_model.Objects.{waits_for_cell, chased, waits_under, arrived_at, arrived_slot, passed_spot, arrived_read, arrived_write, arrived_lend, arrived_end, arrived, instr_access, came, deliver_moved}
use Rattle.coherent_memory.specs.Below.server_model.Events.{received}
use Rattle.coherent_memory.specs.Names.{tot, one, other, if_so, some, same_object, Among}
use Rattle.coherent_memory.specs.Things.{Location, at_slot, at_temp, in_cell, Thing, sent, stands, things_of}
use Rattle.coherent_memory.specs.Follow.{Standing, Ground, threads_in, thread_at, cell_of, value_in, value_behind, leads, locate, hop_at, hops}
use Rattle.coherent_memory.specs.Sight.{sight}
use Rattle.coherent_memory.specs.Paths.{Path, no_path, reads, shares, lends, writes, ends, path_of, Awaited, is_spent, to_read, to_write, to_clean, all_to, borrow_to, awaited, is_readable, first_unreadable}
use Rattle.coherent_memory.specs.Weights.{is_thread}
use Rattle.coherent_memory.specs.Walking.{first_of, next_hop, in_turn, asked_for, not_asked, out_of_turn}
use Rattle.coherent_memory.specs.Requests.{waits, halves_to, halves_needed, is_cell, in_phase, carries}
use Rattle.coherent_memory.specs.Naming.{events_of, large_counts}
use Rattle.coherent_memory.specs.Coherent.{IsSound}
use Rattle.coherent_memory.proofs.Names.{and_left, and_right}
use Rattle.coherent_memory.proofs.Bags.{among_split}
use Rattle.coherent_memory.proofs.Passing.{one_more}
use Rattle.law_counts_sums.specs.Laws.{FewEvents, MovedHaveResults}
use Rattle.law_counts_sums.proofs.Bags.{counts_of, thread_number}
use Rattle.law_counts_sums.proofs.Events.{tot-server}
use Rattle.law_counts_sums.proofs.Each.{at_most}
use Rattle.law_counts_sums.proofs.Askers.{other_none}
use Rattle.law_counts_sums.proofs.HaveResults.{some_map, some_if, arrives}
use Rattle.law_counts_sums.proofs.AnswerResults.{at_it}
use Rattle.law_counts_sums.proofs.GiftsTaken.{none_here}
use Rattle.law_counts_sums.proofs.MutexResults.{has}
use Rattle.law_counts_sums.proofs.ThreadThere.{thread_there}

-- WHAT IS WAITED FOR

-- the first that can't be read is among them
first_among : (kept : List ℕ) (r : ℕ) (xs : List Awaited) (a : Awaited) → first_unreadable kept r xs ≡ Some a → Among a xs
first_among kept r [] a e = absurd (cc e)
first_among kept r (x ∷ xs) a e = by (is_readable kept r x) e (λ d. first_among kept r xs a d)
  where
    by : (b : Bool) → (if b then first_unreadable kept r xs else Some x) ≡ Some a → (first_unreadable kept r xs ≡ Some a → Among a xs) → Among a (x ∷ xs)
    by true d go = inr (go d)
    by false d go = let same : x ≡ a = cc in inl same

-- it is asked for at one of these values
abbrev FromOne : (Option Value → List Awaited) → Awaited → List (Option Value) → Type 0
FromOne f a vs = (v : Option Value) × Among v vs × Among a (f v)

from_all : (f : Option Value → List Awaited) (a : Awaited) (vs : List (Option Value)) → Among a (all_to f vs) → FromOne f a vs
from_all f a [] m = absurd m
from_all f a (v ∷ vs) m = ⊎_elim (λ (h : Among a (f v)). (v, inl refl, h)) (λ (h : Among a (all_to f vs)). let later = from_all f a vs h in (later.0, inr later.1, later.2)) (among_split a (f v) (all_to f vs) m)

-- in the last one's way, or as a read
from_borrow : (c : ℕ) (f : Option Value → List Awaited) (a : Awaited) (vs : List (Option Value)) → Among a (borrow_to c f vs) → FromOne (to_read c) a vs ⊎ FromOne f a vs
from_borrow c f a [] m = absurd m
from_borrow c f a (v ∷ []) m = inr (v, inl refl, m)
from_borrow c f a (v ∷ w ∷ vs) m =
    ⊎_elim (λ (h : Among a (to_read c v)). inl (v, inl refl, h))
    (λ (h : Among a (borrow_to c f (w ∷ vs))).
    ⊎_elim (λ (x : FromOne (to_read c) a (w ∷ vs)). inl (x.0, inr x.1, x.2)) (λ (x : FromOne f a (w ∷ vs)). inr (x.0, inr x.1, x.2)) (from_borrow c f a (w ∷ vs) h))
    (among_split a (to_read c v) (borrow_to c f (w ∷ vs)) m)

-- of the hops of a place it is one before its end
hop_of : (g : Ground) (t : ℕ) (w : Lval) (n : ℕ) (v : Option Value) → Among v (hops g t w n) → (i : ℕ) × (i < n) × (hop_at g t w i ≡ v)
hop_of g t w zero v m = absurd m
hop_of g t w (suc n) v m = by (among_split v (hops g t w n) (hop_at g t w n ∷ []) (subst (Among v) (one_more g t w n) m)) (hop_of g t w n v)
  where
    by : Among v (hops g t w n) ⊎ Among v (hop_at g t w n ∷ []) → (Among v (hops g t w n) → (i : ℕ) × (i < n) × (hop_at g t w i ≡ v)) → (i : ℕ) × (i < suc n) × (hop_at g t w i ≡ v)
    by (inl h) go = let earlier = go h in (earlier.0, omega (arith, earlier.1), earlier.2)
    by (inr (inl e)) go = (n, omega arith, e)
    by (inr (inr h)) go = absurd h

-- what comes for a read is that of a mutable reference
abbrev Lent : Option Value → Awaited → Type 0
Lent v a = (r : MutRef) × (v ≡ Some (value.Mut r)) × (r.word ≡ a.word)

read_lent : (c : ℕ) (v : Option Value) (a : Awaited) → Among a (to_read c v) → a.comes ≡ true → Lent v a
read_lent c None a m e = absurd m
read_lent c (Some (value.Mut r)) a (inl q) e = (r, refl, ap (λ (x : Awaited). x.word) q)
read_lent c (Some (value.Mut r)) a (inr m) e = absurd m
read_lent c (Some (value.Shared r)) a (inl q) e = let no : false ≡ true = ap (λ (x : Awaited). x.comes) q ∙ e in absurd (cc no)
read_lent c (Some (value.Shared r)) a (inr m) e = absurd m
read_lent c (Some (value.Own (owned.Box p))) a (inl q) e = let no : false ≡ true = ap (λ (x : Awaited). x.comes) q ∙ e in absurd (cc no)
read_lent c (Some (value.Own (owned.Box p))) a (inr m) e = absurd m
read_lent c (Some (value.Own v)) a m e = absurd m
read_lent c (Some _) a m e = absurd m

clean_lent : (c : ℕ) (v : Option Value) (a : Awaited) → Among a (to_clean c v) → Lent v a
clean_lent c (Some (value.Mut r)) a m = by (is_spent c r) m
  where
    by : (b : Bool) → Among a (if b then record { word = r.word; object = r.object; comes = true; by_copy = false } ∷ [] else []) → Lent (Some (value.Mut r)) a
    by true (inl q) = (r, refl, ap (λ (x : Awaited). x.word) q)
    by true (inr m) = absurd m
    by false m = absurd m
clean_lent c _ a m = absurd m

-- WHERE A REFERENCE STANDS

module _ (g : Ground) (t : ℕ) where
  temp_none : (v : Option Value) (u m : ℕ) → leads t v ≡ Some (at_temp u m) → ⊥
  temp_none None u m e = cc e
  temp_none (Some (value.Own (owned.Box p))) u m e = cc e
  temp_none (Some (value.Own v)) u m e = cc e
  temp_none (Some (value.SharedSlot i)) u m e = cc e
  temp_none (Some (value.MutSlot i)) u m e = cc e
  temp_none (Some (value.Shared r)) u m e = cc e
  temp_none (Some (value.Mut r)) u m e = cc e
  temp_none (Some _) u m e = cc e

  no_temp : (slot i u m : ℕ) → locate g t slot i ≡ Some (at_temp u m) → ⊥
  no_temp slot zero u m e = cc e
  no_temp slot (suc i) u m e = temp_none (value_behind g (locate g t slot i)) u m e

  -- a value leads to a slot of its thread where it is a reference to one
  abbrev ToSlot : Option Value → ℕ → Type 0
  ToSlot v j = (v ≡ Some (value.SharedSlot j)) ⊎ (v ≡ Some (value.MutSlot j))

  to_slot : (v : Option Value) (u j : ℕ) → leads t v ≡ Some (at_slot u j) → (u ≡ t) × ToSlot v j
  to_slot None u j e = absurd (cc e)
  to_slot (Some (value.Own (owned.Box p))) u j e = absurd (cc e)
  to_slot (Some (value.Own v)) u j e = absurd (cc e)
  to_slot (Some (value.SharedSlot i)) u j e = let same : i ≡ j = cc in (cc, inl (ap (λ x. Some (value.SharedSlot x)) same))
  to_slot (Some (value.MutSlot i)) u j e = let same : i ≡ j = cc in (cc, inr (ap (λ x. Some (value.MutSlot x)) same))
  to_slot (Some (value.Shared r)) u j e = absurd (cc e)
  to_slot (Some (value.Mut r)) u j e = absurd (cc e)
  to_slot (Some _) u j e = absurd (cc e)

  slot_mine : (slot i u j : ℕ) → locate g t slot i ≡ Some (at_slot u j) → u ≡ t
  slot_mine slot zero u j e = cc
  slot_mine slot (suc i) u j e = (to_slot (value_behind g (locate g t slot i)) u j e).0

  -- no reference stands in a cell
  abbrev IsRef : Value → Type 0
  IsRef (value.Own v) = ⊥
  IsRef v = ⊤

  cell_holds : (o : Option Cell) (v : Value) → Rattle.coherent_memory.specs.Follow.value_of o ≡ Some v → IsRef v → ⊥
  cell_holds None v e r = absurd (cc e)
  cell_holds (Some c) v e r = let same : v ≡ value.Own c.value = cc in subst IsRef same r

  module _ (me : Standing) (here : thread_at g.threads t ≡ Some me) where
    abbrev slots : List Value
    slots = me.thread.slots

    slot_value : (j : ℕ) → value_in g (at_slot t j) ≡ slice_get slots j
    slot_value j = ap (λ o. Rattle.coherent_memory.specs.Follow.slot_of o j) here

    -- a reference stands in a slot
    in_a_slot : (slot i : ℕ) (v : Value) → value_behind g (locate g t slot i) ≡ Some v → IsRef v → (j : ℕ) × (locate g t slot i ≡ Some (at_slot t j)) × (slice_get slots j ≡ Some v)
    in_a_slot slot i v e ref = by (locate g t slot i) refl e
      where
        by : (o : Option Location) → locate g t slot i ≡ o → value_behind g o ≡ Some v → (j : ℕ) × (locate g t slot i ≡ Some (at_slot t j)) × (slice_get slots j ≡ Some v)
        by None q d = absurd (cc d)
        by (Some (at_temp u j)) q d = absurd (no_temp slot i u j q)
        by (Some (in_cell o)) q d = absurd (cell_holds (cell_of g.cells o) v d ref)
        by (Some (at_slot u j)) q d =
            let mine = slot_mine slot i u j q in
            (j, subst (λ z. locate g t slot i ≡ Some (at_slot z j)) mine q, sym (slot_value j) ∙ subst (λ z. value_in g (at_slot z j) ≡ Some v) mine d)

    -- chasing goes where the place leads
    chases : (slot i j e : ℕ) → locate g t slot i ≡ Some (at_slot t j) → chased (i + e) slots slot ≡ chased e slots j
    chases slot zero j e q = let same : slot ≡ j = cc in let none : 0 + e ≡ e = omega arith in ap (λ z. chased z slots slot) none ∙ ap (chased e slots) same
    chases slot (suc i) j e q =
        let hop = to_slot (value_behind g (locate g t slot i)) t j q in
        ⊎_elim (λ (r : value_behind g (locate g t slot i) ≡ Some (value.SharedSlot j)). let at = in_a_slot slot i (value.SharedSlot j) r tt in step at.0 at.1 (ap (λ o. Rattle.coherent_memory.specs.Below.server_model.Objects.chased_from (chased e slots) at.0 o) at.2) (chases slot i at.0 (suc e) at.1))
        (λ (r : value_behind g (locate g t slot i) ≡ Some (value.MutSlot j)). let at = in_a_slot slot i (value.MutSlot j) r tt in step at.0 at.1 (ap (λ o. Rattle.coherent_memory.specs.Below.server_model.Objects.chased_from (chased e slots) at.0 o) at.2) (chases slot i at.0 (suc e) at.1)) hop.1
      where
        step : (m : ℕ) → locate g t slot i ≡ Some (at_slot t m) → chased (suc e) slots m ≡ chased e slots j → chased (i + suc e) slots slot ≡ chased (suc e) slots m → chased (suc i + e) slots slot ≡ chased e slots j
        step m at next go = let same : suc i + e ≡ i + suc e = omega arith in ap (λ z. chased z slots slot) same ∙ go ∙ next

    -- it stays at a mutable reference
    stays : (e j : ℕ) (r : MutRef) → slice_get slots j ≡ Some (value.Mut r) → chased e slots j ≡ j
    stays zero j r q = refl
    stays (suc e) j r q = ap (λ o. Rattle.coherent_memory.specs.Below.server_model.Objects.chased_from (chased e slots) j o) q

    -- so a mutable reference at a hop of a place is found by chasing
    found : (slot i d : ℕ) (r : MutRef) → i ≤ d → value_behind g (locate g t slot i) ≡ Some (value.Mut r) → slice_get slots (chased d slots slot) ≡ Some (value.Mut r)
    found slot i d r l q =
        let at = in_a_slot slot i (value.Mut r) q tt in
        let whole : i + (d - i) ≡ d = omega (arith, l) in
        let there : chased d slots slot ≡ at.0 = ap (λ z. chased z slots slot) (sym whole) ∙ chases slot i at.0 (d - i) at.1 ∙ stays (d - i) at.0 r at.2 in
        ap (slice_get slots) there ∙ at.2

-- ONE ANSWER COMES

twice : (b : Bool) → if_so b 2 ≡ one b + one b
twice true = refl
twice false = refl

none_both : (b : Bool) → one (b && false) ≡ 0
none_both true = refl
none_both false = refl

just : (b : Bool) → one (b && true) ≡ one b
just true = refl
just false = refl

-- it asks for a copy for the thread, or brings it; or for the object, where that comes
abbrev comes_by : ℕ → Message → Bool → Bool
comes_by t (message.Fetch w o s u) comes = u == t && not comes
comes_by t (message.Fetched w c u) comes = u == t && not comes
comes_by t (message.Move w o s u) comes = u == t && comes
comes_by t (message.Moved w c u) comes = u == t && comes
comes_by t m comes = false

abbrev comes_in : ℕ → Bool → Thing → ℕ
comes_in t comes (sent r m) = one (comes_by t m comes)
comes_in t comes x = 0

fewer : (p q : Bool) → one (p && q) ≤ one p
fewer true true = omega arith
fewer true false = omega arith
fewer false q = omega arith

-- what asks for it does
asked_comes : (t : ℕ) (a : Awaited) (x : Thing) → asked_for t a x ≤ comes_in t a.comes x
asked_comes t a (sent r (message.Fetch w o s u)) = fewer (u == t && not a.comes) (a.word == w && same_object o a.object)
asked_comes t a (sent r (message.Fetched w c u)) = fewer (u == t && not a.comes) (a.word == w && same_object c.object a.object)
asked_comes t a (sent r (message.Move w o s u)) = fewer (u == t && a.comes) (a.word == w && same_object o a.object)
asked_comes t a (sent r (message.Moved w c u)) = fewer (u == t && a.comes) (a.word == w && same_object c.object a.object)
asked_comes t a (sent r _) = omega arith
asked_comes t a _ = omega arith

all_comes : (t : ℕ) (a : Awaited) (b : List Thing) → tot (asked_for t a) b ≤ tot (comes_in t a.comes) b
all_comes t a [] = omega arith
all_comes t a (x ∷ b) = omega (arith, asked_comes t a x, all_comes t a b)

-- each whole answer comes or doesn't
counted : (t : ℕ) (x : Thing) → comes_in t false x + comes_in t false x + (comes_in t true x + comes_in t true x) ≤ halves_to t x
counted t (sent r (message.Fetch w o s u)) = omega (arith, twice (u == t), just (u == t), none_both (u == t))
counted t (sent r (message.Fetched w c u)) = omega (arith, twice (u == t), just (u == t), none_both (u == t))
counted t (sent r (message.Move w o s u)) = omega (arith, twice (u == t), just (u == t), none_both (u == t))
counted t (sent r (message.Moved w c u)) = omega (arith, twice (u == t), just (u == t), none_both (u == t))
counted t (sent r _) = omega arith
counted t _ = omega arith

all_counted : (t : ℕ) (b : List Thing) → tot (comes_in t false) b + tot (comes_in t false) b + (tot (comes_in t true) b + tot (comes_in t true) b) ≤ tot (halves_to t) b
all_counted t [] = omega arith
all_counted t (x ∷ b) = omega (arith, counted t x, all_counted t b)

needs_two : (b w : Bool) → if_so (b && w) 2 ≤ one b + one b
needs_two true true = omega arith
needs_two true false = omega arith
needs_two false w = omega arith

few_needed : (t : ℕ) (b : List Thing) → tot (halves_needed t) b ≤ tot (is_thread t) b + tot (is_thread t) b
few_needed t [] = omega arith
few_needed t (stands s p x ∷ b) = omega (arith, needs_two (x.number == t) (waits x.phase), few_needed t b)
few_needed t (_ ∷ b) = omega (arith, few_needed t b)

-- A POINTER GETS ITS WORD

sets_slot : (j new : ℕ) (v : Value) (h : Hand) → slice_get h.thread.slots j ≡ Some v → IsSome (with_word new v) → IsSome (set_pointer (in_slot j) new h)
sets_slot j new v h q w = subst (λ o. IsSome (then_some o (λ x. then_some (with_word new x) (λ y. put_at (in_slot j) y h)))) (sym q) (by (with_word new v) w)
  where
    below : nat_lt j (length h.thread.slots) ≡ true
    below = let l = slice_get_within h.thread.slots j v q in grind (arith, nat_tests, l)

    by : (o : Option Value) → IsSome o → IsSome (then_some o (λ y. put_at (in_slot j) y h))
    by None s = absurd (cc s)
    by (Some y) s = rw below refl

-- the pointer has the word
abbrev is_hop_word : ℕ → Option Value → Bool
is_hop_word w (Some (value.Own (owned.Box p))) = p.word == w
is_hop_word w (Some (value.Mut r)) = r.word == w
is_hop_word w v = false

-- what comes for a write is that of a box or of a mutable reference
hop_word : (w : ℕ) (o : Option Value) (a : Awaited) → first_of (to_write o) ≡ Some a → a.word ≡ w → is_hop_word w o ≡ true
hop_word w (Some (value.Own (owned.Box p))) a e word = let same : p.word ≡ a.word = ap (λ (x : Option Awaited). word_of x) e in eq-eqb p.word w (same ∙ word)
  where
    word_of : Option Awaited → ℕ
    word_of None = 0
    word_of (Some x) = x.word
hop_word w (Some (value.Mut r)) a e word = let same : r.word ≡ a.word = ap (λ (x : Option Awaited). word_of x) e in eq-eqb r.word w (same ∙ word)
  where
    word_of : Option Awaited → ℕ
    word_of None = 0
    word_of (Some x) = x.word
hop_word w _ a e word = absurd (cc e)

only_so : (b : Bool) (x : Option Awaited) (a : Awaited) → (if b then x else None) ≡ Some a → x ≡ Some a
only_so true x a e = e
only_so false x a e = absurd (cc e)

-- the word under which a hop waits is that of a box or of a mutable reference
worded : (w new : ℕ) (o : Option Value) → is_hop_word w o ≡ true → (v : Value) × (o ≡ Some v) × IsSome (with_word new v)
worded w new (Some (value.Own (owned.Box p))) e = (value.Own (owned.Box p), refl, refl)
worded w new (Some (value.Mut r)) e = (value.Mut r, refl, refl)
worded w new _ e = absurd (cc e)

-- a new word is placed
placed : {X Y : Type 0} (b : Bool) (x : X) (go : X → Option Y) → b ≡ true → IsSome (go x) → IsSome (then_some (if b then Some x else None) go)
placed true x go e h = h
placed false x go e h = absurd (cc e)

-- THE PLACE WHERE IT WAITS

module _ (k : Cluster) (sound : IsSound k) (few : FewEvents k) (number i : ℕ) (s : Server) (here : server_at k.servers number ≡ Some s) (old : ℕ) (c : Cell) (t : ℕ) (q : slice_get s.rest.inbox i ≡ Some (message.Moved old c t)) (y : ThreadState) (at : thread_in s.threads t ≡ Some y)
    (waiting : y.phase ≡ phase.WaitCell old) where
  abbrev n : ℕ
  n = s.rest.number

  abbrev me : Standing
  me = record { server = n; packed = false; thread = y }

  abbrev m : Message
  m = message.Moved old c t

  abbrev g : Ground
  g = (sight k).ground

  abbrev colours : ℕ
  colours = k.options.colours

  numbered : y.number ≡ t
  numbered = thread_number s.threads t y at

  it_is : thread_at g.threads y.number ≡ Some me
  it_is = subst (λ u. thread_at g.threads u ≡ Some me) (sym numbered) (thread_there k sound number s here t y at)

  -- it waits for what comes, as the one answer to it does
  comes : (a : Awaited) → 1 ≤ tot (asked_for y.number a) (things_of k) → a.comes ≡ true
  comes a z = by a.comes (omega (arith, z, all_comes y.number a (things_of k)))
    where
      itself : one (t == y.number && true) ≡ 1
      itself = ap (λ b. one (b && true)) (eq-eqb t y.number (sym numbered))

      by : (b : Bool) → 1 ≤ tot (comes_in y.number b) (things_of k) → b ≡ true
      by true e = refl
      by false e =
          absurd (omega (
            arith,
            e,
            itself,
            has k sound number s here i m q (comes_in y.number true),
            all_counted y.number (things_of k),
            sound.requests.one_answer y.number,
            few_needed y.number (things_of k),
            sound.names.numbers_differ y.number,
          ))

  -- what it waits for in turn on its path: it has the old word, and comes
  abbrev Turn : Path → Type 0
  Turn p = (a : Awaited) × (in_turn (sight k) me old p ≡ Some a) × (a.word ≡ old) × (a.comes ≡ true)

  turn : (p : Path) → path_of (slice_get k.code y.pc) y ≡ p → Turn p
  turn p e = by (in_turn (sight k) me old p) refl none
    where
      all : out_of_turn (sight k) me y.phase ≡ 0
      all = none_here k sound number s here t y at (λ x. out_of_turn (sight k) x x.thread.phase) (Rattle.coherent_memory.proofs.Turn.turn_law.none_counted (sight k) sound.walks.wait_in_turn)

      at_cell : not_asked (sight k) me old (in_turn (sight k) me old (path_of (slice_get k.code y.pc) y)) ≡ 0
      at_cell = subst (λ z. out_of_turn (sight k) me z ≡ 0) waiting all

      none : not_asked (sight k) me old (in_turn (sight k) me old p) ≡ 0
      none = subst (λ z. not_asked (sight k) me old (in_turn (sight k) me old z) ≡ 0) e at_cell

      some_one : (x : ℕ) → some x ≡ true → 1 ≤ x
      some_one zero d = absurd (cc d)
      some_one (suc x) d = omega arith

      by : (o : Option Awaited) → in_turn (sight k) me old p ≡ o → not_asked (sight k) me old o ≡ 0 → Turn p
      by None d z = absurd (cc z)
      by (Some a) d z =
          let count = tot (asked_for y.number a) (things_of k) in
          let both : (a.word == old && some count) ≡ true = other_none _ z in
          (a, d, eqb-true a.word old (and_left (a.word == old) (some count) both), comes a (some_one count (and_right (a.word == old) (some count) both)))

  module _ (new : ℕ) (h : Hand) (mine : h.thread ≡ y) (passed : y.passed ≡ 0) where
    slot_has : (j : ℕ) → slice_get h.thread.slots j ≡ slice_get y.slots j
    slot_has j = ap (λ (x : ThreadState). slice_get x.slots j) mine

    -- a mutable reference at a hop before the end of a place
    at_reference : (w : Lval) (j : ℕ) (r : MutRef) → j < w.depth → hop_at g y.number w j ≡ Some (value.Mut r) → r.word ≡ old → IsSome (arrived_read w old new h)
    at_reference w j r l e word =
        let there : slice_get y.slots (chased (w.depth - 1) y.slots w.slot) ≡ Some (value.Mut r) = found g y.number me it_is w.slot j (w.depth - 1) r (omega (arith, l)) e in
        let chasing : chased (w.depth - 1) h.thread.slots w.slot ≡ chased (w.depth - 1) y.slots w.slot = ap (λ (x : ThreadState). chased (w.depth - 1) x.slots w.slot) mine in
        let stands_there : slice_get h.thread.slots (chased (w.depth - 1) h.thread.slots w.slot) ≡ Some (value.Mut r) = ap (slice_get h.thread.slots) chasing ∙ slot_has (chased (w.depth - 1) y.slots w.slot) ∙ there in
        some_if (waits_under old (slice_get h.thread.slots (chased (w.depth - 1) h.thread.slots w.slot))) _ (ap (waits_under old) stands_there ∙ eq-eqb r.word old word)
        (some_map _ _ (sets_slot (chased (w.depth - 1) h.thread.slots w.slot) new (value.Mut r) h stands_there refl))

    by_lent : (w : Lval) (a : Awaited) (v : Option Value) → a.word ≡ old → Among v (hops g y.number w w.depth) → Lent v a → IsSome (arrived_read w old new h)
    by_lent w a v word among lent =
        let hop = hop_of g y.number w w.depth v among in
        at_reference w hop.0 lent.0 hop.1 (hop.2 ∙ lent.1) (lent.2 ∙ word)

    -- READS AND BORROWS

    for_read : (w : Lval) → path_of (slice_get k.code y.pc) y ≡ reads w → IsSome (arrived_read w old new h)
    for_read w e =
        let x = turn (reads w) e in
        let f = from_all (to_read colours) x.0 (hops g y.number w w.depth) (first_among _ _ _ x.0 x.1) in
        by_lent w x.0 f.0 x.2 f.1 (read_lent colours f.0 x.0 f.2 x.3)

    for_share : (w : Lval) → path_of (slice_get k.code y.pc) y ≡ shares w → IsSome (arrived_read w old new h)
    for_share w e =
        let x = turn (shares w) e in
        ⊎_elim (λ (f : FromOne (to_read colours) x.0 (hops g y.number w w.depth)). by_lent w x.0 f.0 x.2 f.1 (read_lent colours f.0 x.0 f.2 x.3))
        (λ (f : FromOne (to_clean colours) x.0 (hops g y.number w w.depth)). by_lent w x.0 f.0 x.2 f.1 (clean_lent colours f.0 x.0 f.2)) (from_borrow colours (to_clean colours) x.0 (hops g y.number w w.depth) (first_among _ _ _ x.0 x.1))

    -- a reference with the old word gets the new one
    under_old : (j : ℕ) (o : Option Value) → slice_get h.thread.slots j ≡ o → waits_under old o ≡ true → IsSome (arrived_at (in_slot j) new h)
    under_old j (Some (value.Mut r)) d e = some_map _ _ (sets_slot j new (value.Mut r) h d refl)
    under_old j _ d e = absurd (cc e)

    lent_from : (slot d : ℕ) → 1 ≤ d → IsSome (arrived_lend slot d old new h)
    lent_from slot zero l = absurd (omega (arith, l))
    lent_from slot (suc zero) l = refl
    lent_from slot (suc (suc d)) l = by (waits_under old (slice_get h.thread.slots (chased d h.thread.slots slot))) refl
      where
        by : (b : Bool) → waits_under old (slice_get h.thread.slots (chased d h.thread.slots slot)) ≡ b
            → IsSome (if b then arrived_at (in_slot (chased d h.thread.slots slot)) new h else Some (Rattle.coherent_memory.specs.Below.server_model.Work.with_phase (phase.Taken new) h))
        by true e = under_old (chased d h.thread.slots slot) (slice_get h.thread.slots (chased d h.thread.slots slot)) refl e
        by false e = refl

    for_lend : (w : Lval) → path_of (slice_get k.code y.pc) y ≡ lends w → IsSome (arrived_lend w.slot w.depth old new h)
    for_lend w e =
        let x = turn (lends w) e in
        lent_from w.slot w.depth (some_hop w.depth (first_among _ _ _ x.0 x.1))
      where
        some_hop : (d : ℕ) → Among (turn (lends w) e).0 (borrow_to colours to_write (hops g y.number w d)) → 1 ≤ d
        some_hop zero a = absurd a
        some_hop (suc d) a = omega arith

    -- WRITES

    -- the first hop of a place
    first_hop : (w : Lval) (a : Awaited) → next_hop (sight k) me w ≡ Some a → a.word ≡ old → IsSome (arrived_write w new h)
    first_hop w a e word =
        let hop : is_hop_word old (hop_at g y.number w y.passed) ≡ true = hop_word old (hop_at g y.number w y.passed) a (only_so (nat_lt y.passed w.depth) (first_of (to_write (hop_at g y.number w y.passed))) a e) word in
        let first : is_hop_word old (hop_at g y.number w 0) ≡ true = subst (λ j. is_hop_word old (hop_at g y.number w j) ≡ true) passed hop in
        let has_word : is_hop_word old (slice_get y.slots w.slot) ≡ true = subst (λ o. is_hop_word old o ≡ true) (slot_value g y.number me it_is w.slot) first in
        let v = worded old new (slice_get y.slots w.slot) has_word in
        let none : h.thread.passed ≡ 0 = ap (λ (x : ThreadState). x.passed) mine ∙ passed in
        subst (λ j. IsSome (then_some (passed_spot (write_stars j 0 h (in_slot w.slot))) (λ z. arrived_at z new (passing (h.thread.passed + 1) h)))) (sym none)
        (some_map _ _ (sets_slot w.slot new v.0 (passing (h.thread.passed + 1) h) (slot_has w.slot ∙ v.1) v.2))

    for_write : (w : Lval) → path_of (slice_get k.code y.pc) y ≡ writes w → IsSome (arrived_write w new h)
    for_write w e = let x = turn (writes w) e in first_hop w x.0 x.1 x.2

    -- ENDS

    ends_at : (x : Spot) (r : MutRef) → path_of (slice_get k.code y.pc) y ≡ ends r → IsSome (set_pointer x new h) → IsSome (arrived_end x (Some (value.Mut r)) old new h)
    ends_at x r e sets = by (r.word == old) refl
      where
        by : (b : Bool) → (r.word == old) ≡ b → IsSome (if b then arrived_at x new h else arrived_write r.holder new h)
        by true d = some_map _ _ sets
        by false d =
            let x = turn (ends r) e in
            first_hop r.holder x.0 (subst (λ b. (if b then first_of (to_write (Some (value.Mut r))) else next_hop (sight k) me r.holder) ≡ Some x.0) d x.1) x.2

    no_path_none : (X : Type 0) → path_of (slice_get k.code y.pc) y ≡ no_path → X
    no_path_none X e = let x = turn no_path e in let none : None ≡ Some x.0 = x.1 in absurd (cc none)

    slot_ends : (j : ℕ) (o : Option Value) → slice_get y.slots j ≡ o → path_of (slice_get k.code y.pc) y ≡ Rattle.coherent_memory.specs.Paths.ending o → IsSome (arrived (Rattle.coherent_memory.specs.Below.server_model.Prepare.ending (in_slot j) o) old new h)
    slot_ends j (Some (value.Mut r)) d e =
        subst (λ o. IsSome (arrived_end (in_slot j) o old new h)) (sym (slot_has j ∙ d)) (ends_at (in_slot j) r e (sets_slot j new (value.Mut r) h (slot_has j ∙ d) refl))
    slot_ends j _ d e = no_path_none _ e

    top_ends : (o : Option Value) → last_of y.temps ≡ o → path_of (slice_get k.code y.pc) y ≡ Rattle.coherent_memory.specs.Paths.ending o → IsSome (arrived (Rattle.coherent_memory.specs.Below.server_model.Prepare.ending on_top o) old new h)
    top_ends (Some (value.Mut r)) d e =
        let top : last_of h.thread.temps ≡ Some (value.Mut r) = ap (λ (x : ThreadState). last_of x.temps) mine ∙ d in
        subst (λ o. IsSome (arrived_end on_top o old new h)) (sym top) (ends_at on_top r e (subst (λ o. IsSome (then_some o (λ v. then_some (with_word new v) (λ z. put_at on_top z h)))) (sym top) refl))
    top_ends _ d e = no_path_none _ e

    -- EACH INSTRUCTION

    assigns : (w : Lval) (d : ℕ) → path_of (slice_get k.code y.pc) y ≡ Rattle.coherent_memory.specs.Paths.assigning y.slots w d → IsSome (arrived (Rattle.coherent_memory.specs.Below.server_model.Prepare.assigned w d y) old new h)
    assigns w zero e = slot_ends w.slot (slice_get y.slots w.slot) refl e
    assigns w (suc d) e = for_write w e

    takes : (w : Lval) (d : ℕ) → path_of (slice_get k.code y.pc) y ≡ Rattle.coherent_memory.specs.Paths.taking w d → IsSome (arrived (Some (Rattle.coherent_memory.specs.Below.server_model.Prepare.read_or_taken w d true)) old new h)
    takes w zero e = no_path_none _ e
    takes w (suc d) e = for_write w e

    copies : (w : Lval) (d : ℕ) → path_of (slice_get k.code y.pc) y ≡ reads w → IsSome (arrived (Some (Rattle.coherent_memory.specs.Below.server_model.Prepare.read_or_taken w d false)) old new h)
    copies w zero e = for_read w e
    copies w (suc d) e = for_read w e

    by_instr : (w : Work) (o : Option Instr) → path_of (slice_get k.code y.pc) y ≡ path_of o y → IsSome (arrived (instr_access (record { work = w; thread = y }) o) old new h)
    by_instr z (Some (instr.Read w true)) e = takes w w.depth e
    by_instr z (Some (instr.Read w false)) e = copies w w.depth e
    by_instr z (Some (instr.Dup w)) e = for_read w e
    by_instr z (Some (instr.Lock w)) e = for_read w e
    by_instr z (Some (instr.Borrow w)) e = for_share w e
    by_instr z (Some (instr.BorrowMut w)) e = for_lend w e
    by_instr z (Some (instr.Assign w o)) e = assigns w w.depth e
    by_instr z (Some instr.DropSlot) e = slot_ends (length y.slots - 1) (last_of y.slots) refl e
    by_instr z (Some instr.Discard) e = top_ends (last_of y.temps) refl e
    by_instr z (Some _) e = no_path_none _ e
    by_instr z None e = no_path_none _ e

  -- an address is left
  grows : can_grow s.rest.partition ≡ true
  grows =
      let f = large_counts (events_of (sight k)) in
      let none : tot f (things_of k) ≡ 0 = sound.names.counts_bounded in
      let mine : f (counts_of n s.events s.rest) ≡ 0 = omega (arith, none, (tot-server f k.servers number s s here).0) in
      let next : length s.rest.partition.cells ≤ 16 * events_of (sight k) = at_most (length s.rest.partition.cells) (16 * events_of (sight k)) (omega (arith, mine)) in
      let below : length s.rest.partition.cells < 2 ^ 40 = omega (arith, next, few) in
      grind (arith, nat_tests, below)

  arrives_here : y.passed ≡ 0 → IsSome (deliver_moved k.code old c (record { work = (received i s).work; thread = y }))
  arrives_here passed =
      let h : Hand = record { work = (received i s).work; thread = y } in
      some_if (waits_for_cell y.phase old) (came k.code old c h) (ap (λ p. waits_for_cell p old) waiting ∙ eq-eqb old old refl) (placed (can_grow s.rest.partition) _ _ grows (by_instr _ _ refl passed (received i s).work (slice_get k.code y.pc) refl))

is_waiting : (p : Phase) (w : ℕ) → is_cell w p ≡ true → p ≡ phase.WaitCell w
is_waiting (phase.WaitCell v) w e = ap phase.WaitCell (eqb-true v w e)
is_waiting _ w e = absurd (cc e)

pub moved_have_results : MovedHaveResults
moved_have_results k number i s old c t y sound few here on q at passed =
    let carried : tot (carries (sight k)) (things_of k) ≡ 0 = sound.requests.carry_what_is_asked in
    let a : other (in_phase (is_cell old) (thread_at (threads_in (things_of k)) t)) ≡ 0 = omega (arith, carried, has k sound number s here i (message.Moved old c t) q (carries (sight k))) in
    let phased : is_cell old y.phase ≡ true = subst (λ o. in_phase (is_cell old) o ≡ true) (thread_there k sound number s here t y at) (other_none _ a) in
    arrives k number i s (message.Moved old c t) here on q (at_it s i t (deliver_moved k.code old c) y at (arrives_here k sound few number i s here old c t q y at (is_waiting y.phase old phased) passed))
