-- Values in the hand of an event: put at a spot and taken from there, pushed, popped and let go.
use Rattle.std.proofs.Common.{◌≡◌, ℕ, zero, suc, ◌+◌, ◌-◌, ◌<◌, Bool, true, false, nat_lt, if◌then◌else◌, List, [], ◌∷◌, ◌++◌, length, take, Option, Some, None, refl, sym, ap, subst, arith}
use Rattle.std.specs.Prelude.{slice_get, slice_set}
use Rattle.coherent_memory.specs.Below.global_addr.Words.{address_of}
use Rattle.coherent_memory.specs.Below.heap_partition.declared.value.Cell.{Cell}
use Rattle.coherent_memory.specs.Below.heap_partition.declared.value.Owned.{Owned}
use Rattle.coherent_memory.specs.Below.heap_partition.declared.value.Owned.TheVariants as owned
use Rattle.coherent_memory.specs.Below.owner_box.View.{PartitionState}
use Rattle.coherent_memory.specs.Below.owner_box.Partition.{stored, cell_of, with_value}
use Rattle.coherent_memory.specs.Below.thread_state.View.{ThreadState}
use Rattle.coherent_memory.specs.Below.thread_state.declared.value.Value.{Value}
use Rattle.coherent_memory.specs.Below.thread_state.declared.value.Value.TheVariants as value
use Rattle.coherent_memory.specs.Below.server_model.Work.{Hand, with_partition, working, with_slots, with_temps, push_slot, push_temp, last_of, front_of, look, leads_here}
use Rattle.coherent_memory.specs.Below.server_model.Places.{Spot, in_slot, on_top, in_cell, in_copy, nowhere, value_at, value_in, written, note_slot, note_write, put_cell, put_at}
use Rattle.coherent_memory.specs.Names.{tot}
use Rattle.coherent_memory.specs.Things.{Thing, Location, in_hand, at_temp, holds, borrows, lies, stands, gift_things, walk_things, value_things, slot_things, temp_things, things_at, thread_things, cell_things, free_things, partition_things}
use Rattle.coherent_memory.specs.Things as things
use Rattle.law_counts_sums.specs.Laws.{Gives}
use Rattle.law_counts_sums.proofs.Trades.{Trade, tot-append, trade_none, trade_whole, trade_left, trade_right, trade_at, trade_push, tot-push}
use Rattle.law_counts_sums.proofs.Rules.{Rule, none, turned, comes, goes, carries, exchanges, changes, beside, in_turn, padded, Kept}
use Rattle.law_counts_sums.proofs.Results.{test_gives}
use Rattle.law_counts_sums.proofs.Bags.{HandOk, rest_things, had_by, of_thread, of_partition}
use Rattle.law_counts_sums.proofs.Chains.{hand_trades}
use Rattle.law_counts_sums.proofs.Cells.{looked}
use Rattle.law_counts_sums.proofs.Objects.{length_set, counts_stay}

-- a value in the hand
abbrev pub held : ℕ → ℕ → Value → List Thing
held n t v = value_things n in_hand (at_temp t 0) v

-- THE LAST OF A LIST

pub split_last : {X : Type 0} (xs : List X) (n : ℕ) (v : X) → n + 1 ≡ length xs → slice_get xs n ≡ Some v → xs ≡ take n xs ++ v ∷ []
split_last [] n v l e = cc
split_last (x ∷ []) zero v l e = cc
split_last (x ∷ y ∷ xs) zero v l e = absurd (omega arith)
split_last (x ∷ xs) (suc n) v l e = ap (λ r. x ∷ r) (split_last xs n v (omega arith) e)

pub within : {X : Type 0} (xs : List X) (n : ℕ) (v : X) → slice_get xs n ≡ Some v → n < length xs
within [] n v e = cc
within (x ∷ xs) zero v e = omega arith
within (x ∷ xs) (suc n) v e = let l = within xs n v e in omega (arith, l)

pub last_split : {X : Type 0} (xs : List X) (v : X) → last_of xs ≡ Some v → xs ≡ front_of xs ++ v ∷ []
last_split xs v e = let l = within xs (length xs - 1) v e in split_last xs (length xs - 1) v (omega (arith, l)) e

module _ {X : Type 0} (g : ℕ → X → List Thing) where
  last_goes : (xs : List X) (v : X) → last_of xs ≡ Some v → Trade (things_at g 0 xs) (g (0 + length (front_of xs)) v) [] (things_at g 0 (front_of xs))
  last_goes xs v e = record {
    rest = things_at g 0 (front_of xs);
    before = λ f. let a = ap (λ l. tot f (things_at g 0 l)) (last_split xs v e) in omega (arith, a, tot-push g f (front_of xs) 0 v);
    after = λ f. omega arith;
  }

  last_changes : (xs : List X) (v new : X) → last_of xs ≡ Some v → Trade (things_at g 0 xs) (g (0 + length (front_of xs)) v) (g (0 + length (front_of xs)) new) (things_at g 0 (front_of xs ++ new ∷ []))
  last_changes xs v new e = record {
    rest = things_at g 0 (front_of xs);
    before = λ f. let a = ap (λ l. tot f (things_at g 0 l)) (last_split xs v e) in omega (arith, a, tot-push g f (front_of xs) 0 v);
    after = λ f. omega (arith, tot-push g f (front_of xs) 0 new);
  }

  one_changes : (xs : List X) (i : ℕ) (v new : X) → slice_get xs i ≡ Some v → Trade (things_at g 0 xs) (g i v) (g i new) (things_at g 0 (slice_set xs i new))
  one_changes xs i v new e = trade_at g xs 0 i v new (g i v) (g i new) e (subst (λ j. Trade (g j v) (g i v) (g i new) (g j new)) (omega arith) (trade_whole (g i v) (g i new)))

-- A THREAD'S LISTS

module _ (n : ℕ) (t : ThreadState) where
  pub in_slots : (vs : List Value) {olds news : List Thing} → Trade (things_at (slot_things n t.number) 0 t.slots) olds news (things_at (slot_things n t.number) 0 vs) → Trade (had_by n t) olds news (had_by n (record t { slots = vs }))
  in_slots vs u = trade_right (things_at (temp_things n t.number) 0 t.temps) (trade_left (gift_things t.number t.gift ++ things_at (walk_things n) 0 t.walk) u)

  pub in_temps : (vs : List Value) {olds news : List Thing} → Trade (things_at (temp_things n t.number) 0 t.temps) olds news (things_at (temp_things n t.number) 0 vs) → Trade (had_by n t) olds news (had_by n (record t { temps = vs }))
  in_temps vs u = trade_left (gift_things t.number t.gift ++ things_at (walk_things n) 0 t.walk ++ things_at (slot_things n t.number) 0 t.slots) u

-- CELLS

found : (p : PartitionState) (w : ℕ) (c : Cell) → look p w ≡ Some c → cell_of p w ≡ Some c
found p w c h = by (leads_here p w) h
  where
    by : (b : Bool) → (if b then cell_of p w else None) ≡ Some c → cell_of p w ≡ Some c
    by true g = g
    by false g = cc

-- a cell gets a value
pub stores : (s : ℕ) (p : PartitionState) (w : ℕ) (c : Cell) (v : Owned) → look p w ≡ Some c
    → Trade (partition_things s p) (lies s (address_of w) c ∷ []) (lies s (address_of w) (record c { value = v }) ∷ []) (partition_things s (stored p w v))
stores s p w c v e =
    let here = looked p w c e in
    let new = record c { value = v } in
    let g = cell_things s p.free in
    subst (λ x. Trade (partition_things s p) (lies s (address_of w) c ∷ []) (lies s (address_of w) new ∷ []) (things_at g 0 (slice_set p.cells (address_of w) (with_value v x)) ++ things_at (free_things s) 0 p.free)) (sym (found p w c e))
    (trade_right (things_at (free_things s) 0 p.free) (trade_at g p.cells 0 (address_of w) (Some c) (Some new) (lies s (address_of w) c ∷ []) (lies s (address_of w) new ∷ []) here
    (subst (λ n. Trade (g n (Some c)) (lies s (address_of w) c ∷ []) (lies s (address_of w) new ∷ []) (g n (Some new))) (omega arith) (trade_whole _ _))))

-- what a value becomes in whatever place, it becomes in a cell
cell_rule : (s a : ℕ) (c : Cell) (v : Owned) (olds news : List Thing) → Rule (holds in_hand c.value ∷ olds) (holds in_hand v ∷ news) → Rule (lies s a c ∷ olds) (lies s a (record c { value = v }) ∷ news)
cell_rule s a c v olds news r =
    let empty = record c { value = owned.Nothing } in
    let full = record c { value = v } in
    let same : (xs : List Thing) → Rule xs xs = λ xs. turned xs xs (λ f. refl) in
    in_turn (beside (comes (holds in_hand owned.Nothing) refl) (same (lies s a c ∷ olds)))
    (in_turn (turned (holds in_hand owned.Nothing ∷ lies s a c ∷ olds) (lies s a c ∷ holds in_hand owned.Nothing ∷ olds) (λ f. omega arith))
    (in_turn (beside (exchanges s a c in_hand owned.Nothing) (same olds))
    (in_turn (beside (same (lies s a empty ∷ [])) r)
    (in_turn (beside (exchanges s a empty in_hand v) (same news))
    (in_turn (turned (lies s a full ∷ holds in_hand owned.Nothing ∷ news) (holds in_hand owned.Nothing ∷ lies s a full ∷ news) (λ f. omega arith))
    (beside (goes (holds in_hand owned.Nothing) refl) (same (lies s a full ∷ news))))))))

module _ {K : List Thing → Type 0} (k : Kept K) (n e t : ℕ) where
  -- the thread trades with what is beside
  pub thread_trades : {others others2 : List Thing} (h : Hand) (t2 : ThreadState) {o1 n1 o3 n3 : List Thing} → t2.number ≡ h.thread.number → Trade (had_by n h.thread) o1 n1 (had_by n t2) → Trade others o3 n3 others2
      → Rule (o1 ++ o3) (n1 ++ n3) → HandOk K n e t others h → HandOk K n e t others2 (record h { thread = t2 })
  thread_trades h t2 named u v r g = hand_trades k n e t h (record h { thread = t2 }) refl named (of_thread n h.thread t2 u) (trade_none (rest_things n e h.work.rest)) v (beside (changes n false h.thread t2 named) r) g

  -- WRITES ARE NOTED

  written_rule : (i : ℕ) (v : Value) → Rule (slot_things n t i v) (slot_things n t i (written v))
  written_rule i (value.Mut r) = in_turn (goes (borrows (things.at_slot t i) r) refl) (comes (borrows (things.at_slot t i) (record r { dirty = true })) refl)
  written_rule i value.Gone = none
  written_rule i (value.Own v) = turned _ _ (λ f. refl)
  written_rule i (value.SharedSlot j) = none
  written_rule i (value.MutSlot j) = none
  written_rule i (value.Shared q) = turned _ _ (λ f. refl)
  written_rule i (value.Held m) = turned _ _ (λ f. refl)

  pub slot_changes : {others others2 : List Thing} (h : Hand) (i : ℕ) (v new : Value) {o3 n3 : List Thing} → slice_get h.thread.slots i ≡ Some v → Trade others o3 n3 others2
      → Rule (slot_things n h.thread.number i v ++ o3) (slot_things n h.thread.number i new ++ n3) → HandOk K n e t others h → HandOk K n e t others2 (with_slots (slice_set h.thread.slots i new) h)
  slot_changes h i v new q u r g =
      thread_trades h (record h.thread { slots = slice_set h.thread.slots i new }) refl (in_slots n h.thread (slice_set h.thread.slots i new) (one_changes (slot_things n h.thread.number) h.thread.slots i v new q)) u r g

  notes_write : (others : List Thing) (through : Option ℕ) (h : Hand) → HandOk K n e t others h → HandOk K n e t others (note_write through h)
  notes_write others None h g = g
  notes_write others (Some i) h g = by (slice_get h.thread.slots i) refl
    where
      by : (o : Option Value) → slice_get h.thread.slots i ≡ o → HandOk K n e t others (with_slots (note_slot h.thread.slots i o) h)
      by None q = g
      by (Some v) q = slot_changes h i v (written v) q (trade_none others) (padded (subst (λ x. Rule (slot_things n x i v) (slot_things n x i (written v) ++ [])) (sym g.thread) (in_turn (written_rule i v) (turned _ _ (λ f. omega (arith, tot-append f (slot_things n t i (written v)) [])))))) g

  -- A VALUE AT A SPOT

  puts_cell : {others others2 : List Thing} (h : Hand) (w : ℕ) (through : Option ℕ) (c : Cell) (v : Owned) {o3 n3 : List Thing} → look h.work.rest.partition w ≡ Some c → Trade others o3 n3 others2
      → Rule (holds in_hand c.value ∷ o3) (holds in_hand v ∷ n3) → HandOk K n e t others h → Gives (HandOk K n e t others2) (put_cell w through v h)
  puts_cell {others2 = others2} h w through c v {o3 = o3} {n3 = n3} q u r g =
      let p = h.work.rest.partition in
      let h2 = working (with_partition (stored p w v)) h in
      let r2 = record h.work.rest { partition = stored p w v } in
      test_gives (HandOk K n e t others2) (leads_here p w) (Some (note_write through h2)) (λ on. notes_write others2 through h2
      (hand_trades k n e t h h2 refl refl (trade_none (thread_things n false h.thread)) (of_partition n e h.work.rest (stored p w v) (stores n p w c v q)) u
      (beside (counts_stay n e h.work.rest r2 (length_set p.cells (address_of w) (with_value v (cell_of p w)))) (cell_rule n (address_of w) c v o3 n3 r)) g))

  -- what stands at a spot is changed, and what is beside with it
  pub puts_at : {others others2 : List Thing} (s : Spot) (v new : Value) (h : Hand) {o3 n3 : List Thing} → value_at h s ≡ Some v → Trade others o3 n3 others2
      → ((p : things.Spot) (l : Location) → Rule (value_things n p l v ++ o3) (value_things n p l new ++ n3)) → HandOk K n e t others h → Gives (HandOk K n e t others2) (put_at s new h)
  puts_at {others2 = others2} (in_slot i) v new h q u r g =
      test_gives (HandOk K n e t others2) (nat_lt i (length h.thread.slots)) (Some (with_slots (slice_set h.thread.slots i new) h)) (λ on. slot_changes h i v new q u (r (things.in_slot h.thread.number i) (things.at_slot h.thread.number i)) g)
  puts_at on_top v new h q u r g =
      let i = 0 + length (front_of h.thread.temps) in
      thread_trades h (record h.thread { temps = front_of h.thread.temps ++ new ∷ [] }) refl (in_temps n h.thread (front_of h.thread.temps ++ new ∷ []) (last_changes (temp_things n h.thread.number) h.thread.temps v new q)) u
      (r (things.in_temp h.thread.number i) (things.at_temp h.thread.number i)) g
  puts_at {others} {others2} (in_cell w through) v (value.Own x) h {o3} {n3} q u r g = by (look h.work.rest.partition w) refl q
    where
      by : (o : Option Cell) → look h.work.rest.partition w ≡ o → value_in o ≡ Some v → Gives (HandOk K n e t others2) (put_cell w through x h)
      by None a b = absurd (cc b)
      by (Some c) a b =
          let same : v ≡ value.Own c.value = cc in
          puts_cell h w through c x a u (subst (λ y. Rule (value_things n in_hand (at_temp t 0) y ++ o3) (holds in_hand x ∷ n3)) same (r in_hand (at_temp t 0))) g
  puts_at (in_cell w through) v value.Gone h q u r g = tt
  puts_at (in_cell w through) v (value.SharedSlot i) h q u r g = tt
  puts_at (in_cell w through) v (value.MutSlot i) h q u r g = tt
  puts_at (in_cell w through) v (value.Shared i) h q u r g = tt
  puts_at (in_cell w through) v (value.Mut i) h q u r g = tt
  puts_at (in_cell w through) v (value.Held i) h q u r g = tt
  puts_at (in_copy w) v new h q u r g = tt
  puts_at nowhere v new h q u r g = tt

  -- PUSHED AND POPPED

  some_come : (xs others : List Thing) → Trade others [] xs (xs ++ others)
  some_come xs others = record { rest = others; before = λ f. omega arith; after = λ f. tot-append f xs others }

  some_go : (xs others : List Thing) → Trade (xs ++ others) xs [] others
  some_go xs others = record { rest = others; before = λ f. tot-append f xs others; after = λ f. omega arith }

  pub pops_temp : (others : List Thing) (v : Value) (h : Hand) → last_of h.thread.temps ≡ Some v → HandOk K n e t others h → HandOk K n e t (held n t v ++ others) (with_temps (front_of h.thread.temps) h)
  pops_temp others v h q g =
      let i = 0 + length (front_of h.thread.temps) in
      thread_trades h (record h.thread { temps = front_of h.thread.temps }) refl (in_temps n h.thread (front_of h.thread.temps) (last_goes (temp_things n h.thread.number) h.thread.temps v q)) (some_come (held n t v) others)
      (padded (carries n (things.in_temp h.thread.number i) in_hand (things.at_temp h.thread.number i) (at_temp t 0) v)) g

  pub pops_slot : (others : List Thing) (v : Value) (h : Hand) → last_of h.thread.slots ≡ Some v → HandOk K n e t others h → HandOk K n e t (held n t v ++ others) (with_slots (front_of h.thread.slots) h)
  pops_slot others v h q g =
      let i = 0 + length (front_of h.thread.slots) in
      thread_trades h (record h.thread { slots = front_of h.thread.slots }) refl (in_slots n h.thread (front_of h.thread.slots) (last_goes (slot_things n h.thread.number) h.thread.slots v q)) (some_come (held n t v) others)
      (padded (carries n (things.in_slot h.thread.number i) in_hand (things.at_slot h.thread.number i) (at_temp t 0) v)) g

  pub pushes_temp : (others : List Thing) (v : Value) (h : Hand) → HandOk K n e t (held n t v ++ others) h → HandOk K n e t others (push_temp v h)
  pushes_temp others v h g =
      let i = 0 + length h.thread.temps in
      let r : Rule ([] ++ held n t v) (temp_things n h.thread.number i v ++ []) = in_turn (carries n in_hand (things.in_temp h.thread.number i) (at_temp t 0) (things.at_temp h.thread.number i) v) (turned _ _ (λ f. omega (arith, tot-append f (temp_things n h.thread.number i v) []))) in
      thread_trades h (record h.thread { temps = h.thread.temps ++ v ∷ [] }) refl (in_temps n h.thread (h.thread.temps ++ v ∷ []) (trade_push (temp_things n h.thread.number) h.thread.temps 0 v)) (some_go (held n t v) others) r g

  pub pushes_slot : (others : List Thing) (v : Value) (h : Hand) → HandOk K n e t (held n t v ++ others) h → HandOk K n e t others (push_slot v h)
  pushes_slot others v h g =
      let i = 0 + length h.thread.slots in
      let r : Rule ([] ++ held n t v) (slot_things n h.thread.number i v ++ []) = in_turn (carries n in_hand (things.in_slot h.thread.number i) (at_temp t 0) (things.at_slot h.thread.number i) v) (turned _ _ (λ f. omega (arith, tot-append f (slot_things n h.thread.number i v) []))) in
      thread_trades h (record h.thread { slots = h.thread.slots ++ v ∷ [] }) refl (in_slots n h.thread (h.thread.slots ++ v ∷ []) (trade_push (slot_things n h.thread.number) h.thread.slots 0 v)) (some_go (held n t v) others) r g

  -- what is beside changes by itself
  pub beside_trades : (others others2 : List Thing) (h : Hand) {olds news : List Thing} → Trade others olds news others2 → Rule olds news → HandOk K n e t others h → HandOk K n e t others2 h
  beside_trades others others2 h u r g = record { number = g.number; thread = g.thread; bag = k.trades (trade_left (thread_things n false h.thread) (trade_left (rest_things n e h.work.rest) u)) r g.bag }

  pub some_come_by : (others xs : List Thing) (h : Hand) → Rule [] xs → HandOk K n e t others h → HandOk K n e t (xs ++ others) h
  some_come_by others xs h r g = beside_trades others (xs ++ others) h (some_come xs others) r g

  pub some_go_by : (others xs : List Thing) (h : Hand) → Rule xs [] → HandOk K n e t (xs ++ others) h → HandOk K n e t others h
  some_go_by others xs h r g = beside_trades (xs ++ others) others h (some_go xs others) r g
