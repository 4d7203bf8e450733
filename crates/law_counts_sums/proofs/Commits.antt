-- The plain step of each instruction.
use Rattle.std.proofs.Common.{◌≡◌, ℕ, zero, suc, ◌+◌, Bool, true, false, if◌then◌else◌, List, [], ◌∷◌, ◌++◌, Option, Some, None, refl, subst, ◌∙◌, arith}
use Rattle.std.specs.Prelude.{slice_get}
use Rattle.std.specs.Bool.{⊤}
use Rattle.coherent_memory.specs.Below.fr_base.declared.place.Lval.{Lval}
use Rattle.coherent_memory.specs.Below.fr_base.declared.place.Op.{Op}
use Rattle.coherent_memory.specs.Below.fr_base.declared.step.Fresh.{Fresh}
use Rattle.coherent_memory.specs.Below.fr_base.declared.label.Label.TheVariants as label
use Rattle.coherent_memory.specs.Below.fr_base.declared.instruction.Operand.{Operand}
use Rattle.coherent_memory.specs.Below.fr_plain.Acts.{result_of}
use Rattle.coherent_memory.specs.Below.heap_partition.declared.value.Owned.{Owned}
use Rattle.coherent_memory.specs.Below.heap_partition.declared.value.Owned.TheVariants as owned
use Rattle.coherent_memory.specs.Below.mut_borrow.declared.mutable.MutRef.{MutRef}
use Rattle.coherent_memory.specs.Below.thread_state.declared.phase.Phase.{Phase}
use Rattle.coherent_memory.specs.Below.thread_state.declared.phase.Phase.TheVariants as phase
use Rattle.coherent_memory.specs.Below.thread_state.declared.value.Value.{Value}
use Rattle.coherent_memory.specs.Below.thread_state.declared.value.Value.TheVariants as value
use Rattle.coherent_memory.specs.Below.server_model.Work.{Hand, working, label_all, push_temp, pop_temp, pop_slot, pop, pop_owned, pop_int}
use Rattle.coherent_memory.specs.Below.server_model.Places.{Spot, in_slot, on_top, in_cell, in_copy, nowhere, owns_nothing, cell_at, value_at, load_at, put_slot, put_at, second_of}
use Rattle.coherent_memory.specs.Below.server_model.Drop.{drop_labels, drop_value}
use Rattle.coherent_memory.specs.Below.server_model.Commit.{Committed, done, waits, refused, done_where, goes_on, let_slot, label_dropped, replace_slot, store_labels, store_at, replace_at, assign, take_out, read_as, read, shared_from, borrow_from, lent_word, mutable_from, borrow_mut_from, discard, drop_slot, print, par_end}
use Rattle.coherent_memory.specs.Things.{Thing, Location, in_hand, at_temp, holds, shares, borrows, value_things}
use Rattle.coherent_memory.specs.Things as things
use Rattle.law_counts_sums.specs.Laws.{Gives}
use Rattle.law_counts_sums.proofs.Trades.{Trade, tot-append}
use Rattle.law_counts_sums.proofs.Rules.{Rule, none, comes, carries, turned, beside, in_turn, Kept}
use Rattle.law_counts_sums.proofs.Results.{then_gives, map_gives, over_gives, bind_gives}
use Rattle.law_counts_sums.proofs.Bags.{HandOk}
use Rattle.law_counts_sums.proofs.Chains.{thread_changes}
use Rattle.law_counts_sums.proofs.Values.{held, puts_at, pushes_temp, pushes_slot, some_come_by}
use Rattle.law_counts_sums.proofs.Drops.{labelled, drops_keep, pops_top, pops_last, pops, pops_owned, pops_int}

-- kept, where a step is done or waits
abbrev pub CommittedOk : (Hand → Type 0) → Committed → Type 0
CommittedOk P (done names h) = P h
CommittedOk P (waits h) = P h
CommittedOk P refused = ⊤

-- a value at a place and one in the hand change places
exchange_rule : (n t : ℕ) (old new : Value) (p : things.Spot) (l : Location) → Rule (value_things n p l old ++ held n t new) (value_things n p l new ++ held n t old)
exchange_rule n t old new p l =
    in_turn (turned (value_things n p l old ++ held n t new) (held n t new ++ value_things n p l old) (λ f. omega (arith, tot-append f (value_things n p l old) (held n t new), tot-append f (held n t new) (value_things n p l old))))
    (beside (carries n in_hand p (at_temp t 0) l new) (carries n p in_hand l (at_temp t 0) old))

-- labels change no value
value_labelled : (s : Spot) (ls : List Rattle.coherent_memory.specs.Below.fr_base.declared.label.Label.Label) (h : Hand) → value_at (working (label_all ls) h) s ≡ value_at h s
value_labelled (in_slot i) ls h = refl
value_labelled on_top ls h = refl
value_labelled (in_cell w through) ls h = refl
value_labelled (in_copy w) ls h = refl
value_labelled nowhere ls h = refl

some_same : {a b : Value} → Some a ≡ Some b → a ≡ b
some_same e = cc

-- what owns nothing comes to the hand
shared_rule : (n t : ℕ) (v r : Value) → shared_from v ≡ Some r → Rule [] (held n t r)
shared_rule n t (value.SharedSlot i) r e = subst (λ x. Rule [] (held n t x)) (some_same e) none
shared_rule n t (value.MutSlot i) r e = subst (λ x. Rule [] (held n t x)) (some_same e) none
shared_rule n t (value.Own (owned.Box p)) r e = subst (λ x. Rule [] (held n t x)) (some_same e) (comes (shares (at_temp t 0) (record { word = p.word; object = p.object; pinned = false })) refl)
shared_rule n t (value.Shared q) r e = subst (λ x. Rule [] (held n t x)) (some_same e) (comes (shares (at_temp t 0) (record { word = q.word; object = q.object; pinned = false })) refl)
shared_rule n t (value.Mut q) r e = subst (λ x. Rule [] (held n t x)) (some_same e) (comes (shares (at_temp t 0) (record { word = q.word; object = q.object; pinned = false })) refl)
shared_rule n t v r e = absurd (cc e)

mutable_rule : (n t : ℕ) (p : Phase) (holder : Lval) (v r : Value) → mutable_from p holder v ≡ Some r → Rule [] (held n t r)
mutable_rule n t p holder (value.MutSlot i) r e = subst (λ x. Rule [] (held n t x)) (some_same e) none
mutable_rule n t p holder (value.Own (owned.Box b)) r e =
    let q : MutRef = record { word = b.word; first = b.word; object = b.object; dirty = false; holder = holder } in
    subst (λ x. Rule [] (held n t x)) (some_same e) (comes (borrows (at_temp t 0) (lent_word p q)) refl)
mutable_rule n t p holder (value.Mut b) r e =
    let q : MutRef = record { word = b.word; first = b.word; object = b.object; dirty = b.dirty; holder = holder } in
    subst (λ x. Rule [] (held n t x)) (some_same e) (comes (borrows (at_temp t 0) (lent_word p q)) refl)
mutable_rule n t p holder v r e = absurd (cc e)

pub second_rule : (n t : ℕ) (v u : Value) → second_of v ≡ Some u → Rule [] (held n t u)
second_rule n t (value.Own v) u e = by (owns_nothing v) refl e
  where
    by : (b : Bool) → owns_nothing v ≡ b → (if b then Some (value.Own v) else None) ≡ Some u → Rule [] (held n t u)
    by true q d = subst (λ x. Rule [] (held n t x)) (some_same d) (comes (holds in_hand v) q)
    by false q d = absurd (cc d)
second_rule n t (value.SharedSlot i) u e = subst (λ x. Rule [] (held n t x)) (some_same e) none
second_rule n t (value.Shared r) u e = subst (λ x. Rule [] (held n t x)) (some_same e) (comes (shares (at_temp t 0) (record r { pinned = false })) refl)
second_rule n t v u e = absurd (cc e)

module _ {K : List Thing → Type 0} (k : Kept K) (n e t : ℕ) (others : List Thing) where
  abbrev Ok : Hand → Type 0
  Ok = HandOk K n e t others

  pub goes_keep : (o : Option Hand) → Gives Ok o → CommittedOk Ok (goes_on o)
  goes_keep None g = tt
  goes_keep (Some h) g = thread_changes k n e t others h (record h.thread { pc = h.thread.pc + 1; phase = phase.Ready }) refl (λ f. refl) g

  pub done_keeps : (names : Fresh) (o : Option Hand) → Gives Ok o → CommittedOk Ok (done_where names o)
  done_keeps names None g = tt
  done_keeps names (Some h) g = g

  pushes_light : (v : Value) (h : Hand) → Rule [] (held n t v) → Ok h → Ok (push_temp v h)
  pushes_light v h r g = pushes_temp k n e t others v h (some_come_by k n e t others (held n t v) h r g)

  -- SLOTS AND PLACES

  pub lets_slot : (o : Operand) (h : Hand) → Ok h → Gives Ok (let_slot o h)
  lets_slot o h g = over_gives _ Ok (pop o h) _ (pops k n e t others o h g) (λ p u. pushes_slot k n e t others p.item p.hand u)

  -- the value at a spot goes to the hand, where another one comes from there
  exchanges : (s : Spot) (old new : Value) (h : Hand) → value_at h s ≡ Some old → HandOk K n e t (held n t new ++ others) h → Gives (HandOk K n e t (held n t old ++ others)) (put_at s new h)
  exchanges s old new h q g =
      let swap : Trade (held n t new ++ others) (held n t new) (held n t old) (held n t old ++ others) = record { rest = others; before = λ f. tot-append f (held n t new) others; after = λ f. tot-append f (held n t old) others } in
      puts_at k n e t s old new h q swap (exchange_rule n t old new) g

  replaces_slot : (i : ℕ) (holder : Spot) (v : Value) (h : Hand) → HandOk K n e t (held n t v ++ others) h → Gives Ok (replace_slot i holder v h)
  replaces_slot i holder v h g =
      then_gives Ok (slice_get h.thread.slots i) _ (λ old q.
      bind_gives (HandOk K n e t (held n t old ++ others)) Ok (put_slot i v (label_dropped old h)) (drop_value holder old)
      (exchanges (in_slot i) old v (label_dropped old h) q (labelled k n e t (held n t v ++ others) (drop_labels old) h g)) (λ h2 u. drops_keep k n e t others holder old h2 u))

  stores_at : (s : Spot) (old : Value) (v : Owned) (h : Hand) → value_at h s ≡ Some old → HandOk K n e t (holds in_hand v ∷ others) h → Gives (HandOk K n e t (held n t old ++ others)) (store_at s v h)
  stores_at s old v h q g =
      exchanges s old (value.Own v) (working (label_all (store_labels (cell_at h s) v)) h) (value_labelled s (store_labels (cell_at h s) v) h ∙ q) (labelled k n e t (holds in_hand v ∷ others) (store_labels (cell_at h s) v) h g)

  replaces_at : (s : Spot) (v : Owned) (h : Hand) → HandOk K n e t (holds in_hand v ∷ others) h → Gives Ok (replace_at s v h)
  replaces_at s v h g =
      then_gives Ok (value_at h s) _ (λ old q.
      bind_gives (HandOk K n e t (held n t old ++ others)) Ok (store_at s v (label_dropped old h)) (drop_value nowhere old)
      (stores_at s old v (label_dropped old h) (value_labelled s (drop_labels old) h ∙ q) (labelled k n e t (holds in_hand v ∷ others) (drop_labels old) h g)) (λ h2 u. drops_keep k n e t others nowhere old h2 u))

  pub assigns : (w : Lval) (d : ℕ) (o : Operand) (s : Spot) (h : Hand) → Ok h → Gives Ok (assign w d o s h)
  assigns w zero o s h g = bind_gives _ Ok (pop o h) _ (pops k n e t others o h g) (λ p u. replaces_slot w.slot s p.item p.hand u)
  assigns w (suc d) o s h g = bind_gives _ Ok (pop_owned o h) _ (pops_owned k n e t others o h g) (λ p u. replaces_at s p.item p.hand u)

  takes_out : (s : Spot) (v : Value) (h : Hand) → value_at h s ≡ Some v → Ok h → Gives (HandOk K n e t (held n t v ++ others)) (take_out s h)
  takes_out (in_slot i) v h q g = exchanges (in_slot i) v value.Gone h q g
  takes_out on_top v h q g = stores_at on_top v owned.Nothing h q (some_come_by k n e t others (holds in_hand owned.Nothing ∷ []) h (comes (holds in_hand owned.Nothing) refl) g)
  takes_out (in_cell w through) v h q g = stores_at (in_cell w through) v owned.Nothing h q (some_come_by k n e t others (holds in_hand owned.Nothing ∷ []) h (comes (holds in_hand owned.Nothing) refl) g)
  takes_out (in_copy w) v h q g = tt
  takes_out nowhere v h q g = tt

  reads_as : (take : Bool) (s : Spot) (v : Value) (h : Hand) → value_at h s ≡ Some v → Ok h → Gives Ok (read_as take s v h)
  reads_as false s v h q g = map_gives Ok (second_of v) _ (λ u d. pushes_light u h (second_rule n t v u d) g)
  reads_as true s v h q g = over_gives (HandOk K n e t (held n t v ++ others)) Ok (take_out s h) (push_temp v) (takes_out s v h q g) (λ h2 u. pushes_temp k n e t others v h2 u)

  pub reads : (take : Bool) (s : Spot) (h : Hand) → Ok h → Gives Ok (read take s h)
  reads take s h g =
      then_gives Ok (value_at h s) _ (λ v q. reads_as take s v (load_at s h) (value_labelled s (Rattle.coherent_memory.specs.Below.server_model.Places.load_of (cell_at h s)) h ∙ q) (labelled k n e t others (Rattle.coherent_memory.specs.Below.server_model.Places.load_of (cell_at h s)) h g))

  -- REFERENCES

  pub borrows_from : (w : Lval) (d : ℕ) (s : Spot) (h : Hand) → Ok h → Gives Ok (borrow_from w d s h)
  borrows_from w zero s h g = pushes_light (value.SharedSlot w.slot) h none g
  borrows_from w (suc d) s h g = then_gives Ok (value_at h s) _ (λ v q. map_gives Ok (shared_from v) _ (λ r c. pushes_light r h (shared_rule n t v r c) g))

  pub lends_from : (w : Lval) (d : ℕ) (s : Spot) (h : Hand) → Ok h → Gives Ok (borrow_mut_from w d s h)
  lends_from w zero s h g = pushes_light (value.MutSlot w.slot) h none g
  lends_from w (suc d) s h g =
      then_gives Ok (value_at h s) _ (λ v q. map_gives Ok (mutable_from h.thread.phase (record w { depth = d }) v) _ (λ r c. pushes_light r h (mutable_rule n t h.thread.phase (record w { depth = d }) v r c) g))

  pub discards : (s : Spot) (h : Hand) → Ok h → Gives Ok (discard s h)
  discards s h g =
      bind_gives _ Ok (pop_temp h) _ (pops_top k n e t others h g) (λ p u. drops_keep k n e t others s p.item (label_dropped p.item p.hand) (labelled k n e t (held n t p.item ++ others) (drop_labels p.item) p.hand u))

  pub drops_slot : (s : Spot) (h : Hand) → Ok h → Gives Ok (drop_slot s h)
  drops_slot s h g =
      bind_gives _ Ok (pop_slot h) _ (pops_last k n e t others h g) (λ p u. drops_keep k n e t others s p.item (label_dropped p.item p.hand) (labelled k n e t (held n t p.item ++ others) (drop_labels p.item) p.hand u))

  -- NUMBERS

  pub calculates : (f : Op) (a b : Operand) (h : Hand) → Ok h → Gives Ok (Rattle.coherent_memory.specs.Below.server_model.Commit.arith f a b h)
  calculates f a b h g =
      bind_gives _ Ok (pop_int b h) _ (pops_int k n e t others b h g) (λ y u.
      over_gives _ Ok (pop_int a y.hand) _ (pops_int k n e t others a y.hand u) (λ x v.
      pushes_light (value.Own (owned.Int (result_of f x.item y.item))) x.hand (comes (holds in_hand (owned.Int (result_of f x.item y.item))) refl) v))

  pub prints : (o : Operand) (h : Hand) → Ok h → Gives Ok (print o h)
  prints o h g = over_gives _ Ok (pop_int o h) _ (pops_int k n e t others o h g) (λ p u. labelled k n e t others (label.Print p.item ∷ []) p.hand u)

  pub par_ends : (p : Phase) (h : Hand) → Ok h → Gives Ok (par_end p h)
  par_ends (phase.GotPar a b) h g = g
  par_ends _ h g = tt
