-- The plain step of each instruction but a lock and an unlock leaves the marks in its thread's slots, where it puts nothing over one.
use Rattle.std.proofs.Common.{◌≡◌, ℕ, ℤ, zero, suc, ◌+◌, ◌==◌, Bool, true, false, nat_lt, if◌then◌else◌, List, [], length, Option, Some, None, refl, sym, ap, ◌∙◌, arith}
use Rattle.std.specs.Bool.{⊤}
use Rattle.std.specs.Prelude.{slice_get, option_map}
use Rattle.law_counts_waiting.specs.Below.fr_base.Lists.{last_of}
use Rattle.law_counts_waiting.specs.Below.fr_base.Rooms.{WithRoom}
use Rattle.law_counts_waiting.specs.Below.fr_base.declared.name.MutexNo.{MutexNo}
use Rattle.law_counts_waiting.specs.Below.fr_base.declared.place.Lval.{Lval}
use Rattle.law_counts_waiting.specs.Below.fr_base.declared.place.Op.{Op}
use Rattle.law_counts_waiting.specs.Below.fr_base.declared.step.Fresh.{Fresh}
use Rattle.law_counts_waiting.specs.Below.fr_base.declared.step.Fresh.TheVariants as fresh
use Rattle.law_counts_waiting.specs.Below.fr_base.declared.instruction.Instr.{Instr}
use Rattle.law_counts_waiting.specs.Below.fr_base.declared.instruction.Instr.TheVariants as instr
use Rattle.law_counts_waiting.specs.Below.fr_base.declared.instruction.Operand.{Operand}
use Rattle.law_counts_waiting.specs.Below.fr_base.declared.instruction.Operand.TheVariants as operand
use Rattle.law_counts_waiting.specs.Below.heap_partition.declared.value.Owned.{Owned}
use Rattle.law_counts_waiting.specs.Below.heap_partition.declared.value.Owned.TheVariants as owned
use Rattle.law_counts_waiting.specs.Below.owner_box.Partition.{stored}
use Rattle.law_counts_waiting.specs.Below.read_cache.Cache.{Copy, can_unpin}
use Rattle.law_counts_waiting.specs.Below.mut_borrow.Refs.{finish_word}
use Rattle.law_counts_waiting.specs.Below.mut_borrow.declared.mutable.MutRef.{MutRef}
use Rattle.law_counts_waiting.specs.Below.mut_borrow.declared.shared.SharedRef.{SharedRef}
use Rattle.law_counts_waiting.specs.Below.migration.Packing.{unpin_all}
use Rattle.law_counts_waiting.specs.Below.thread_state.View.{ThreadState}
use Rattle.law_counts_waiting.specs.Below.thread_state.declared.phase.Phase.{Phase}
use Rattle.law_counts_waiting.specs.Below.thread_state.declared.phase.Phase.TheVariants as phase
use Rattle.law_counts_waiting.specs.Below.thread_state.declared.value.Value.{Value}
use Rattle.law_counts_waiting.specs.Below.thread_state.declared.value.Value.TheVariants as value
use Rattle.law_counts_waiting.specs.Below.journal.declared.act.Act.TheVariants as act
use Rattle.law_counts_waiting.specs.Below.server_model.Work.{Hand, Popped, push_temp, with_cache, with_phase, front_of, pop, pop_temp, pop_slot, pop_owned, pop_int, taken_as, owned_of, int_of, task_of, then_some, working, with_partition, leads_here, label_all}
use Rattle.law_counts_waiting.specs.Below.server_model.NewWords.{issue_placed}
use Rattle.law_counts_waiting.specs.Below.server_model.Places.{Spot, in_slot, on_top, in_cell, in_copy, nowhere, cell_at, value_at, load_at, note_slot, note_write, put_at, put_slot, second_of, written}
use Rattle.law_counts_waiting.specs.Below.server_model.Drop.{unpin_ref, finished_at, drop_value}
use Rattle.law_counts_waiting.specs.Below.server_model.Start.{next_thread, capture}
use Rattle.law_counts_waiting.specs.Below.server_model.Commit.{next_object, push_box, Committed, done, waits, refused, done_where, go_on, goes_on, waiting, let_slot, label_dropped, replace_slot, store_labels, store_at, replace_at, assign, take_out, read, borrow_from, shared_from, borrow_mut_from, mutable_from, discard, drop_slot, make_box, arith as calculate, print, begun, spawn_with, ask_join, take_gift, join, pair_begun, par_with, par_end, end_with, mutex_at, dup, commit, settle}
use Rattle.law_counts_waiting.specs.Below.server_model.Events.{Stepped, committed}
use Rattle.law_counts_waiting.specs.Below.mutex_home.Mutexes.{can_make}
use Rattle.law_counts_waiting.specs.Below.join_home.Tasks.{can_begin, can_begin_pair}
use Rattle.law_counts_waiting.specs.Below.coherent_memory.Names.{tot}
use Rattle.law_counts_waiting.specs.Below.law_counts_sums.Laws.{Gives}
use Rattle.law_counts_waiting.proofs.Below.law_counts_sums.Results.{then_gives, map_gives, over_gives, bind_gives, test_gives, weaker}
use Rattle.law_counts_waiting.proofs.Below.law_heap_still.events.Readied.{Readied, Kept, set_ready}
use Rattle.law_counts_waiting.proofs.contents.Weigh.{mark}
use Rattle.law_counts_waiting.proofs.contents.Marks.{framed, set_sum, last_sum, push_sum, written_mark, Captured, captures_none}

-- a hand that is ready has the marks that it had
pub ready_held : (c : MutexNo → ℕ) (h h2 : Hand) → Readied h h2 → tot (mark c) h2.thread.slots ≡ tot (mark c) h.thread.slots
ready_held c h h2 r = ap (λ (t : ThreadState). tot (mark c) t.slots) r.thread ∙ framed c r.slots h.thread.slots r.slots_framed

module _ (c : MutexNo → ℕ) where
  -- no mark stands at the spot
  abbrev pub SpotClear : Spot → List Value → Type 0
  SpotClear (in_slot i) vs = (old : Value) → slice_get vs i ≡ Some old → mark c old ≡ 0
  SpotClear s vs = ⊤

  abbrev pub PlaceClear : ℕ → ℕ → Spot → List Value → Type 0
  PlaceClear slot zero s vs = SpotClear (in_slot slot) vs
  PlaceClear slot (suc d) s vs = SpotClear s vs

  -- where the instruction puts something over what stands there, or lets it go, no mark stands
  abbrev pub ClearFor : Instr → Spot → List Value → Type 0
  ClearFor (instr.Assign w o) s vs = PlaceClear w.slot w.depth s vs
  ClearFor (instr.Read w true) s vs = SpotClear s vs
  ClearFor instr.DropSlot s vs = (v : Value) → last_of vs ≡ Some v → mark c v ≡ 0
  ClearFor i s vs = ⊤

  -- neither a lock nor an unlock
  abbrev pub LocksNone : Instr → Type 0
  LocksNone (instr.Lock w) = ⊥
  LocksNone instr.Unlock = ⊥
  LocksNone i = ⊤

  module _ (d : ℕ) where
    abbrev pub Slots : Hand → Type 0
    Slots h = tot (mark c) h.thread.slots ≡ d

    abbrev Left : {X : Type 0} → Popped X → Type 0
    Left p = Slots p.hand

    -- POPPED VALUES

    -- an operand goes
    pops : (o : Operand) (h : Hand) → Slots h → Gives Left (pop o h)
    pops (operand.Const n) h g = g
    pops operand.Unit h g = g
    pops operand.Pop h g = map_gives Left (last_of h.thread.temps) _ (λ v q. g)

    abbrev Plain : Popped Value → Type 0
    Plain p = Slots p.hand × (mark c p.item ≡ 0)

    -- and is no mark
    pops_plain : (o : Operand) (h : Hand) → tot (mark c) h.thread.temps ≡ 0 → Slots h → Gives Plain (pop o h)
    pops_plain (operand.Const n) h z g = (g, refl)
    pops_plain operand.Unit h z g = (g, refl)
    pops_plain operand.Pop h z g = map_gives Plain (last_of h.thread.temps) _ (λ v q. (g, omega (arith, last_sum c h.thread.temps v q, z)))

    -- as what is needed
    takes_as : {X : Type 0} (f : Value → Option X) (o : Option (Popped Value)) → Gives Left o → Gives (λ (p : Popped X). Slots p.hand) (then_some o (taken_as f))
    takes_as {X} f o g = bind_gives Left (λ (p : Popped X). Slots p.hand) o (taken_as f) g (λ p u. map_gives (λ (r : Popped X). Slots r.hand) (f p.item) _ (λ x q. u))

    -- an owned operand
    pops_owned : (o : Operand) (h : Hand) → Slots h → Gives (λ (p : Popped Owned). Slots p.hand) (pop_owned o h)
    pops_owned o h g = takes_as owned_of (pop o h) (pops o h g)

    -- VALUES THAT GO

    -- a reference gives its use back
    unpins : (q : SharedRef) (b : Bool) (h : Hand) → Slots h → Gives Slots (unpin_ref q b h)
    unpins q false h g = g
    unpins q true h g = test_gives Slots (can_unpin h.work.rest.cache q.word) _ (λ on. g)

    -- a pointer gets a word
    finishes_at : (holder : Spot) (o : Option ℕ) (h : Hand) → Slots h → Gives Slots (finished_at holder o h)
    finishes_at holder None h g = g
    finishes_at holder (Some w) h g = weaker (Kept h) Slots _ (set_ready holder w h) (λ h2 k. ready_held c h h2 k.0 ∙ g)

    -- a mutable reference ends
    finishes : (holder : Spot) (q : MutRef) (b : Bool) (h : Hand) → Slots h → Gives Slots (if b then None else finished_at holder (finish_word q) h)
    finishes holder q true h g = tt
    finishes holder q false h g = finishes_at holder (finish_word q) h g

    -- a value is dropped
    drops : (holder : Spot) (v : Value) (h : Hand) → Slots h → Gives Slots (drop_value holder v h)
    drops holder (value.Own v) h g = g
    drops holder (value.Shared q) h g = unpins q q.pinned h g
    drops holder (value.Mut q) h g = finishes holder q q.dirty h g
    drops holder value.Gone h g = g
    drops holder (value.SharedSlot j) h g = g
    drops holder (value.MutSlot j) h g = g
    drops holder (value.Held m) h g = g

    -- VALUES THAT ARE PUT

    -- a write is noted on its reference
    noted : (through : Option ℕ) (h : Hand) → Slots h → Slots (note_write through h)
    noted None h g = g
    noted (Some i) h g = by (slice_get h.thread.slots i) refl
      where
        by : (o : Option Value) → slice_get h.thread.slots i ≡ o → tot (mark c) (note_slot h.thread.slots i o) ≡ d
        by None e = g
        by (Some v) e = omega (arith, g, set_sum c h.thread.slots i v (written v) e, written_mark c v)

    -- a value is put where no mark stands
    puts : (s : Spot) (old v : Value) (h : Hand) → value_at h s ≡ Some old → SpotClear s h.thread.slots → mark c v ≡ 0 → Slots h → Gives Slots (put_at s v h)
    puts (in_slot i) old v h e clear z g = test_gives Slots (nat_lt i (length h.thread.slots)) _ (λ on. omega (arith, g, set_sum c h.thread.slots i old v e, clear old e, z))
    puts on_top old v h e clear z g = g
    puts (in_cell w through) old (value.Own x) h e clear z g =
        test_gives Slots (leads_here h.work.rest.partition w) _ (λ on. noted through (working (with_partition (stored h.work.rest.partition w x)) h) g)
    puts (in_cell w through) old value.Gone h e clear z g = tt
    puts (in_cell w through) old (value.SharedSlot i) h e clear z g = tt
    puts (in_cell w through) old (value.MutSlot i) h e clear z g = tt
    puts (in_cell w through) old (value.Shared i) h e clear z g = tt
    puts (in_cell w through) old (value.Mut i) h e clear z g = tt
    puts (in_cell w through) old (value.Held i) h e clear z g = tt
    puts (in_copy w) old v h e clear z g = tt
    puts nowhere old v h e clear z g = tt

    -- a variable gets a value
    replaces_slot : (i : ℕ) (holder : Spot) (v : Value) (h : Hand) → SpotClear (in_slot i) h.thread.slots → mark c v ≡ 0 → Slots h → Gives Slots (replace_slot i holder v h)
    replaces_slot i holder v h clear z g =
        then_gives Slots (slice_get h.thread.slots i) _ (λ old q.
        bind_gives Slots Slots (put_slot i v (label_dropped old h)) (drop_value holder old) (puts (in_slot i) old v (label_dropped old h) q clear z g) (λ h2 u. drops holder old h2 u))

    -- a cell gets a value
    stores : (s : Spot) (old : Value) (v : Owned) (h : Hand) → value_at h s ≡ Some old → SpotClear s h.thread.slots → Slots h → Gives Slots (store_at s v h)
    stores s old v h e clear g = puts s old (value.Own v) (working (label_all (store_labels (cell_at h s) v)) h) (same s e) clear refl g
      where
        same : (s : Spot) → value_at h s ≡ Some old → value_at (working (label_all (store_labels (cell_at h s) v)) h) s ≡ Some old
        same (in_slot i) q = q
        same on_top q = q
        same (in_cell w t) q = q
        same (in_copy w) q = q
        same nowhere q = q

    -- what a place leads to gets one
    replaces_at : (s : Spot) (v : Owned) (h : Hand) → SpotClear s h.thread.slots → Slots h → Gives Slots (replace_at s v h)
    replaces_at s v h clear g =
        then_gives Slots (value_at h s) _ (λ old q. bind_gives Slots Slots (store_at s v (label_dropped old h)) (drop_value nowhere old) (stores s old v (label_dropped old h) (same s old q) clear g) (λ h2 u. drops nowhere old h2 u))
      where
        same : (s : Spot) (old : Value) → value_at h s ≡ Some old → value_at (label_dropped old h) s ≡ Some old
        same (in_slot i) old q = q
        same on_top old q = q
        same (in_cell w t) old q = q
        same (in_copy w) old q = q
        same nowhere old q = q

    -- popping leaves what stands in slots
    abbrev Same : List Value → {X : Type 0} → Popped X → Type 0
    Same vs p = p.hand.thread.slots ≡ vs

    -- an assignment
    assigns : (w : Lval) (n : ℕ) (o : Operand) (s : Spot) (h : Hand) → PlaceClear w.slot n s h.thread.slots → tot (mark c) h.thread.temps ≡ 0 → Slots h → Gives Slots (assign w n o s h)
    assigns w zero o s h clear z g = by o (pops_plain o h z g)
      where
        by : (o : Operand) → Gives Plain (pop o h) → Gives Slots (assign w zero o s h)
        by (operand.Const n) p = replaces_slot w.slot s _ h clear p.1 p.0
        by operand.Unit p = replaces_slot w.slot s _ h clear p.1 p.0
        by operand.Pop p = popped (last_of h.thread.temps) p
          where
            popped : (l : Option Value) → Gives Plain (option_map (λ v. record { item = v; hand = record h { thread = record h.thread { temps = front_of h.thread.temps } } }) l)
                → Gives Slots (then_some {X = Popped Value} (option_map (λ v. record { item = v; hand = record h { thread = record h.thread { temps = front_of h.thread.temps } } }) l) (λ t. replace_slot w.slot s t.item t.hand))
            popped None q = tt
            popped (Some v) q = replaces_slot w.slot s v (record h { thread = record h.thread { temps = front_of h.thread.temps } }) clear q.1 q.0
    assigns w (suc n) o s h clear z g = by o
      where
        at : (v : Option Owned) (h2 : Hand) → SpotClear s h2.thread.slots → Slots h2 → Gives Slots (then_some {X = Popped Owned} (option_map (λ x. record { item = x; hand = h2 }) v) (λ t. replace_at s t.item t.hand))
        at None h2 k u = tt
        at (Some v) h2 k u = replaces_at s v h2 k u

        by : (o : Operand) → Gives Slots (assign w (suc n) o s h)
        by (operand.Const m) = replaces_at s (owned.Int m) h clear g
        by operand.Unit = replaces_at s owned.Unit h clear g
        by operand.Pop = popped (last_of h.thread.temps)
          where
            popped : (l : Option Value)
                → Gives Slots (then_some {X = Popped Owned} (then_some {X = Popped Value} (option_map (λ v. record { item = v; hand = record h { thread = record h.thread { temps = front_of h.thread.temps } } }) l) (taken_as owned_of)) (λ t. replace_at s t.item t.hand))
            popped None = tt
            popped (Some v) = at (owned_of v) (record h { thread = record h.thread { temps = front_of h.thread.temps } }) clear g

    -- MOVES OUT

    -- a value is taken out
    takes_out : (s : Spot) (v : Value) (h : Hand) → value_at h s ≡ Some v → SpotClear s h.thread.slots → Slots h → Gives Slots (take_out s h)
    takes_out (in_slot i) v h e clear g = puts (in_slot i) v value.Gone h e clear refl g
    takes_out on_top v h e clear g = stores on_top v owned.Nothing h e tt g
    takes_out (in_cell w t) v h e clear g = stores (in_cell w t) v owned.Nothing h e tt g
    takes_out (in_copy w) v h e clear g = tt
    takes_out nowhere v h e clear g = tt

    -- a move
    moves : (s : Spot) (h : Hand) → SpotClear s h.thread.slots → Slots h → Gives Slots (read true s h)
    moves s h clear g = then_gives Slots (value_at h s) _ (λ v q. over_gives Slots Slots (take_out s (load_at s h)) (push_temp v) (takes_out s v (load_at s h) (same s v q) clear g) (λ h2 u. u))
      where
        same : (s : Spot) (v : Value) → value_at h s ≡ Some v → value_at (load_at s h) s ≡ Some v
        same (in_slot i) v q = q
        same on_top v q = q
        same (in_cell w t) v q = q
        same (in_copy w) v q = q
        same nowhere v q = q

    -- ALL INSTRUCTIONS

    -- what became of the plain step
    abbrev pub Ends : Committed → Type 0
    Ends (done names h) = Slots h
    Ends (waits h) = Slots h
    Ends refused = ⊤

    -- a step that is done
    done_ends : (names : Fresh) (o : Option Hand) → Gives Slots o → Ends (done_where names o)
    done_ends names None g = tt
    done_ends names (Some h) g = g

    -- one without new names
    goes_ends : (o : Option Hand) → Gives Slots o → Ends (goes_on o)
    goes_ends None g = tt
    goes_ends (Some h) g = g

    -- one with new names
    names_end : (names : Fresh) (o : Option Hand) → Gives Slots o → Ends (done_where names (option_map go_on o))
    names_end names None g = tt
    names_end names (Some h) g = g

    -- one that asks
    waits_end : (o : Option Hand) → Gives Slots o → Ends (waiting o)
    waits_end None g = tt
    waits_end (Some h) g = g

    -- a new variable
    lets : (o : Operand) (h : Hand) → tot (mark c) h.thread.temps ≡ 0 → Slots h → Gives Slots (let_slot o h)
    lets o h z g = over_gives Plain Slots (pop o h) _ (pops_plain o h z g) (λ p u. omega (arith, push_sum c p.hand.thread.slots p.item, u.0, u.1))

    -- a copy
    copies : (s : Spot) (h : Hand) → Slots h → Gives Slots (read false s h)
    copies s h g = then_gives Slots (value_at h s) _ (λ v q. map_gives Slots (second_of v) _ (λ u e. g))

    -- a shared borrow
    borrows : (w : Lval) (n : ℕ) (s : Spot) (h : Hand) → Slots h → Gives Slots (borrow_from w n s h)
    borrows w zero s h g = g
    borrows w (suc n) s h g = then_gives Slots (value_at h s) _ (λ v q. map_gives Slots (shared_from v) _ (λ u e. g))

    -- a mutable one
    lends : (w : Lval) (n : ℕ) (s : Spot) (h : Hand) → Slots h → Gives Slots (borrow_mut_from w n s h)
    lends w zero s h g = g
    lends w (suc n) s h g = then_gives Slots (value_at h s) _ (λ v q. map_gives Slots (mutable_from h.thread.phase (record w { depth = n }) v) _ (λ u e. g))

    -- a new object
    makes_box : (v : Owned) (h : Hand) → Slots h → Gives Slots (make_box v h)
    makes_box v h g = map_gives Slots (issue_placed (act.Make (next_object h)) (record { object = next_object h; value = v }) h.work) (λ m. push_box v m h) (λ n q. g)

    -- a temporary value is dropped
    discards : (s : Spot) (h : Hand) → Slots h → Gives Slots (discard s h)
    discards s h g = bind_gives (λ (p : Popped Value). Slots p.hand) Slots (pop_temp h) _ (map_gives (λ (p : Popped Value). Slots p.hand) (last_of h.thread.temps) _ (λ v q. g)) (λ p u. drops s p.item (label_dropped p.item p.hand) u)

    -- the last slot is dropped
    drops_slot : (s : Spot) (h : Hand) → ((v : Value) → last_of h.thread.slots ≡ Some v → mark c v ≡ 0) → Slots h → Gives Slots (drop_slot s h)
    drops_slot s h clear g =
        bind_gives (λ (p : Popped Value). Slots p.hand) Slots (pop_slot h) _ (map_gives (λ (p : Popped Value). Slots p.hand) (last_of h.thread.slots) _ (λ v q. omega (arith, g, last_sum c h.thread.slots v q, clear v q)))
        (λ p u. drops s p.item (label_dropped p.item p.hand) u)

    -- arithmetic
    calculates : (f : Op) (a b : Operand) (h : Hand) → Slots h → Gives Slots (calculate f a b h)
    calculates f a b h g =
        bind_gives (λ (p : Popped ℤ). Slots p.hand) Slots (pop_int b h) _ (takes_as int_of (pop b h) (pops b h g)) (λ y u.
        over_gives (λ (p : Popped ℤ). Slots p.hand) Slots (pop_int a y.hand) _ (takes_as int_of (pop a y.hand) (pops a y.hand u)) (λ x q. q))

    -- a print
    prints : (o : Operand) (h : Hand) → Slots h → Gives Slots (print o h)
    prints o h g = over_gives (λ (p : Popped ℤ). Slots p.hand) Slots (pop_int o h) _ (takes_as int_of (pop o h) (pops o h g)) (λ p u. u)

    -- a thread starts
    spawns : (n : ℕ) (cs : WithRoom (ℕ × Bool)) (pc : ℕ) (h : Hand) → Slots h → Gives Slots (then_some (capture false cs.items h.thread.slots) (spawn_with n pc (next_thread h.work.rest) h))
    spawns n cs pc h g =
        bind_gives (Captured c 0 (tot (mark c) h.thread.slots)) Slots (capture false cs.items h.thread.slots) _ (captures_none c false cs.items h.thread.slots) (λ two e.
        over_gives (λ (h2 : Hand). ⊤) Slots (begun h) _ (test_gives (λ (h2 : Hand). ⊤) (can_begin h.work.rest.tasks (next_thread h.work.rest)) _ (λ z. tt)) (λ h2 u. e.1 ∙ g))

    -- a pair starts
    pairs : (n : ℕ) (cs : WithRoom (ℕ × Bool)) (pc : ℕ) (ds : WithRoom (ℕ × Bool)) (other : ℕ) (h : Hand) → Slots h
        → Gives Slots (then_some (capture true cs.items h.thread.slots) (λ first. then_some (capture true ds.items first.1) (par_with n pc other (next_thread h.work.rest) (next_thread h.work.rest + 1) h first.0)))
    pairs n cs pc ds other h g =
        let u = next_thread h.work.rest in
        bind_gives (Captured c 0 (tot (mark c) h.thread.slots)) Slots (capture true cs.items h.thread.slots) _ (captures_none c true cs.items h.thread.slots) (λ one e.
        bind_gives (Captured c 0 (tot (mark c) one.1)) Slots (capture true ds.items one.1) _ (captures_none c true ds.items one.1) (λ two e2.
        over_gives (λ (h2 : Hand). ⊤) Slots (pair_begun h u (u + 1)) _ (test_gives (λ (h2 : Hand). ⊤) (can_begin_pair h.work.rest.tasks h.thread.number u (u + 1)) _ (λ z. tt)) (λ h2 v. e2.1 ∙ e.1 ∙ g)))

    -- a result is asked for
    asks_join : (o : Operand) (h : Hand) → Slots h → Gives Slots (option_map (ask_join h) (then_some (pop o h) (λ t. task_of t.item)))
    asks_join o h g = over_gives (λ (u : ℕ). ⊤) Slots (then_some (pop o h) (λ t. task_of t.item)) (ask_join h) (bind_gives (λ (p : Popped Value). Slots p.hand) (λ (u : ℕ). ⊤) (pop o h) _ (pops o h g) (λ p v. map_any (task_of p.item))) (λ u v. g)
      where
        map_any : (o : Option ℕ) → Gives (λ (u : ℕ). ⊤) o
        map_any None = tt
        map_any (Some u) = tt

    -- a join
    joins : (o : Operand) (x : Option Owned) (h : Hand) → Slots h → Ends (join o x h)
    joins o None h g = waits_end _ (asks_join o h g)
    joins o (Some v) h g = goes_ends _ (over_gives (λ (p : Popped ℕ). Slots p.hand) Slots (then_some (pop o (take_gift h)) (taken_as task_of)) _ (takes_as task_of (pop o (take_gift h)) (pops o (take_gift h) g)) (λ p u. u))

    -- a dup
    dups : (s : Spot) (x : Option Owned) (h : Hand) → Slots h → Ends (dup s x h)
    dups s None h g = waits_end _ (map_gives Slots (mutex_at h s) _ (λ m q. g))
    dups s (Some v) h g = goes_ends _ (map_gives Slots (mutex_at h s) _ (λ m q. g))

    -- the end of a pair
    pair_goes : (p : Phase) (h : Hand) → Slots h → Gives Slots (par_end p h)
    pair_goes (phase.GotPar a b) h g = g
    pair_goes _ h g = tt

    -- a thread ends
    ended : (main : Bool) (v : Owned) (h : Hand) → Slots h → Gives Slots (end_with main v h)
    ended true v h g = g
    ended false v h g = g

    -- and is over
    over : (o : Option Hand) → Gives Slots o → Ends (done_where fresh.None (option_map (with_phase phase.Over) o))
    over None g = tt
    over (Some h) g = g

    -- whatever instruction but a lock and an unlock
    pub commits : (n : ℕ) (i : Instr) (s : Spot) (h : Hand) → LocksNone i → ClearFor i s h.thread.slots → tot (mark c) h.thread.temps ≡ 0 → Slots h → Ends (commit n i s h)
    commits n (instr.Let o) s h l k z g = goes_ends _ (lets o h z g)
    commits n (instr.Assign w o) s h l k z g = goes_ends _ (assigns w w.depth o s h k z g)
    commits n (instr.Read w false) s h l k z g = goes_ends _ (copies s h g)
    commits n (instr.Read w true) s h l k z g = goes_ends _ (moves s h k g)
    commits n (instr.Borrow w) s h l k z g = goes_ends _ (borrows w w.depth s h g)
    commits n (instr.BorrowMut w) s h l k z g = goes_ends _ (lends w w.depth s h g)
    commits n (instr.Box o) s h l k z g = names_end _ _ (bind_gives (λ (p : Popped Owned). Slots p.hand) Slots (pop_owned o h) _ (pops_owned o h g) (λ p u. makes_box p.item p.hand u))
    commits n (instr.Arith f a b) s h l k z g = goes_ends _ (calculates f a b h g)
    commits n (instr.Print o) s h l k z g = goes_ends _ (prints o h g)
    commits n instr.Discard s h l k z g = goes_ends _ (discards s h g)
    commits n instr.DropSlot s h l k z g = goes_ends _ (drops_slot s h k g)
    commits n (instr.Spawn cs pc) s h l k z g = names_end _ _ (spawns n cs pc h g)
    commits n (instr.Join o) s h l k z g = joins o h.thread.gift h g
    commits n (instr.Mutex o) s h l k z g =
        names_end _ _ (bind_gives (λ (p : Popped Owned). Slots p.hand) Slots (pop_owned o h) _ (pops_owned o h g) (λ p u. test_gives Slots (can_make p.hand.work.rest.mutexes) _ (λ q. u)))
    commits n (instr.Dup w) s h l k z g = dups s h.thread.gift h g
    commits n (instr.Lock w) s h l k z g = absurd l
    commits n instr.Unlock s h l k z g = absurd l
    commits n (instr.Par cs pc ds other) s h l k z g = done_ends _ _ (pairs n cs pc ds other h g)
    commits n instr.ParEnd s h l k z g = goes_ends _ (pair_goes h.thread.phase h g)
    commits n (instr.End o) s h l k z g = over _ (bind_gives (λ (p : Popped Owned). Slots p.hand) Slots (pop_owned o h) _ (pops_owned o h g) (λ p u. ended (h.thread.number == 0) p.item p.hand u))

    -- the hand that settles
    same_hand : {a b : Hand} → Some a ≡ Some b → a ≡ b
    same_hand e = cc

    -- the step
    abbrev pub StepSlots : Stepped → Type 0
    StepSlots x = Slots x.hand

    -- what became of the plain step
    pub committing : (x : Committed) → Ends x → Gives StepSlots (committed x)
    committing (done names h) g = map_gives StepSlots (settle h) _ (λ h2 q. settled h2 q)
      where
        settled : (h2 : Hand) → settle h ≡ Some h2 → Slots h2
        settled h2 q = by (unpin_all h.thread.walk h.work.rest.cache) q
          where
            by : (o : Option (List Copy)) → option_map (λ cs. record { work = with_cache cs h.work; thread = record h.thread { passed = 0; walk = []; moved_since_step = false } }) o ≡ Some h2 → Slots h2
            by None e = absurd (cc e)
            by (Some cs) e = ap (λ (x : Hand). tot (mark c) x.thread.slots) (same_hand (sym e)) ∙ g
    committing (waits h) g = g
    committing refused g = tt
