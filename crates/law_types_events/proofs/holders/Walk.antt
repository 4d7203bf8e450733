-- The plain step of each instruction takes mutable references, with their holders, from where its act takes them.
use Rattle.std.proofs.Common.{◌≡◌, ◌≢◌, ◌⊎◌, inl, inr, ℕ, ℤ, zero, suc, ◌+◌, ◌==◌, Bool, true, false, nat_lt, if◌then◌else◌, List, [], ◌∷◌, ◌++◌, length, Option, Some, None, refl, sym, ap, subst, ◌∙◌, arith}
use Rattle.std.specs.Bool.{⊤}
use Rattle.std.specs.Prelude.{slice_get, option_map}
use Rattle.law_types_events.specs.Below.fr_base.Lists.{last_of}
use Rattle.law_types_events.specs.Below.fr_base.Rooms.{WithRoom}
use Rattle.law_types_events.specs.Below.fr_base.declared.name.MutexNo.{MutexNo}
use Rattle.law_types_events.specs.Below.fr_base.declared.place.Lval.{Lval}
use Rattle.law_types_events.specs.Below.fr_base.declared.step.Fresh.{Fresh}
use Rattle.law_types_events.specs.Below.fr_base.declared.instruction.Instr.{Instr}
use Rattle.law_types_events.specs.Below.fr_base.declared.instruction.Instr.TheVariants as instr
use Rattle.law_types_events.specs.Below.fr_base.declared.instruction.Operand.{Operand}
use Rattle.law_types_events.specs.Below.fr_base.declared.instruction.Operand.TheVariants as operand
use Rattle.law_types_events.specs.Below.fr_plain.Acts.{result_of}
use Rattle.law_types_events.specs.Below.heap_partition.declared.value.Owned.{Owned}
use Rattle.law_types_events.specs.Below.heap_partition.declared.value.Owned.TheVariants as owned
use Rattle.law_types_events.specs.Below.owner_box.Partition.{stored}
use Rattle.law_types_events.specs.Below.read_cache.Cache.{can_unpin}
use Rattle.law_types_events.specs.Below.mut_borrow.Refs.{finish_word}
use Rattle.law_types_events.specs.Below.mut_borrow.declared.shared.SharedRef.{SharedRef}
use Rattle.law_types_events.specs.Below.mut_borrow.declared.mutable.MutRef.{MutRef}
use Rattle.law_types_events.specs.Below.mutex_home.Mutexes.{can_make, next_mutex}
use Rattle.law_types_events.specs.Below.join_home.Tasks.{can_begin, can_begin_pair}
use Rattle.law_types_events.specs.Below.thread_state.View.{ThreadState}
use Rattle.law_types_events.specs.Below.thread_state.declared.phase.Phase.{Phase}
use Rattle.law_types_events.specs.Below.thread_state.declared.phase.Phase.TheVariants as phase
use Rattle.law_types_events.specs.Below.thread_state.declared.value.Value.{Value}
use Rattle.law_types_events.specs.Below.thread_state.declared.value.Value.TheVariants as value
use Rattle.law_types_events.specs.Below.journal.declared.act.Act.TheVariants as act
use Rattle.law_types_events.specs.Below.server_model.Work.{Hand, Popped, front_of, pop, pop_owned, pop_int, pop_temp, pop_slot, taken_as, owned_of, int_of, task_of, then_some, working, with_partition, label_all, leads_here, push_temp, push_slot}
use Rattle.law_types_events.specs.Below.server_model.NewWords.{issue_placed}
use Rattle.law_types_events.specs.Below.server_model.Places.{Spot, in_slot, on_top, in_cell, in_copy, nowhere, cell_at, value_at, load_at, put_slot, owns_nothing, second_of, note_slot, note_write, put_at, written}
use Rattle.law_types_events.specs.Below.server_model.Drop.{unpin_ref, finished_at, drop_value}
use Rattle.law_types_events.specs.Below.server_model.Start.{next_thread, captured, left_after, capture_from, capture}
use Rattle.law_types_events.specs.Below.server_model.Commit.{next_object, push_box, Committed, done, waits, refused, done_where, go_on, goes_on, waiting, let_slot, label_dropped, store_labels, store_at, assign, take_out, read, shared_from, borrow_from, lent_word, lent, mutable_from, borrow_mut_from, begun, spawn_with, take_gift, join, pair_begun, par_with, par_end, end_with, mutex_at, dup, lock, held_of, unlock, commit}
use Rattle.law_types_events.specs.Below.law_counts_sums.Laws.{Gives}
use Rattle.law_types_events.proofs.Below.law_counts_sums.Values.{last_split}
use Rattle.law_types_events.proofs.Below.law_counts_sums.Results.{then_gives, map_gives, over_gives, bind_gives, test_gives, weaker}
use Rattle.law_types_events.proofs.Below.law_heap_still.events.Readied.{Kept, Readied, set_ready}
use Rattle.law_types_events.specs.Below.law_plain_values.acts.Keeps.{OnReferences, rests, binds, takes, lends, puts}
use Rattle.law_types_events.proofs.holders.Holding.{holder_of, held, top_held, Fewer, push_held, set_held, set_fewer, push_fewer, front_fewer, framed_held}
use Rattle.law_types_events.proofs.holders.Came.{on_of, SlotCame, TempCame, Came}

-- HANDS

-- each holder in the hand's slots and temporary values stood there in the other hand
pub record Less (h h2 : Hand) : Type 0 where
  pub slots : Fewer h.thread.slots h2.thread.slots
  pub temps : Fewer h.thread.temps h2.thread.temps

same_less : (h : Hand) → Less h h
same_less h = record { slots = λ j w e. e; temps = λ j w e. e }

then_less : {a b c : Hand} → Less a b → Less b c → Less a c
then_less x y = record { slots = λ j w e. x.slots j w (y.slots j w e); temps = λ j w e. x.temps j w (y.temps j w e) }

ready_less : (h h2 : Hand) → Readied h h2 → Less h h2
ready_less h h2 r =
    let slots = ap (λ (t : ThreadState). t.slots) r.thread in
    let temps = ap (λ (t : ThreadState). t.temps) r.thread in record {
      slots = λ j w e. sym (framed_held h.thread.slots r.slots r.slots_framed j) ∙ sym (ap (λ l. held l j) slots) ∙ e;
      temps = λ j w e. sym (framed_held h.thread.temps r.temps r.temps_framed j) ∙ sym (ap (λ l. held l j) temps) ∙ e;
    }

-- VALUES THAT GO

unpins : (q : SharedRef) (b : Bool) (h : Hand) → Gives (Less h) (unpin_ref q b h)
unpins q false h = same_less h
unpins q true h = test_gives (Less h) (can_unpin h.work.rest.cache q.word) _ (λ on. record { slots = λ j w e. e; temps = λ j w e. e })

finishes_at : (holder : Spot) (o : Option ℕ) (h : Hand) → Gives (Less h) (finished_at holder o h)
finishes_at holder None h = same_less h
finishes_at holder (Some w) h = weaker (Kept h) (Less h) _ (set_ready holder w h) (λ h2 k. ready_less h h2 k.0)

finishes : (holder : Spot) (q : MutRef) (b : Bool) (h : Hand) → Gives (Less h) (if b then None else finished_at holder (finish_word q) h)
finishes holder q true h = tt
finishes holder q false h = finishes_at holder (finish_word q) h

drops : (holder : Spot) (v : Value) (h : Hand) → Gives (Less h) (drop_value holder v h)
drops holder (value.Own v) h = record { slots = λ j w e. e; temps = λ j w e. e }
drops holder (value.Shared q) h = unpins q q.pinned h
drops holder (value.Mut q) h = finishes holder q q.dirty h
drops holder value.Gone h = same_less h
drops holder (value.SharedSlot j) h = same_less h
drops holder (value.MutSlot j) h = same_less h
drops holder (value.Held m) h = same_less h

-- VALUES THAT ARE PUT

written_holder : (v : Value) → holder_of (written v) ≡ holder_of v
written_holder (value.Mut r) = refl
written_holder value.Gone = refl
written_holder (value.Own v) = refl
written_holder (value.SharedSlot i) = refl
written_holder (value.MutSlot i) = refl
written_holder (value.Shared r) = refl
written_holder (value.Held m) = refl

-- there are as many temporary values
pub record Puts (h h2 : Hand) : Type 0 where
  pub less : Less h h2
  pub long : length h2.thread.temps ≡ length h.thread.temps

noted : (through : Option ℕ) (h : Hand) → Puts h (note_write through h)
noted None h = record { less = same_less h; long = refl }
noted (Some i) h = record { less = record { slots = by (slice_get h.thread.slots i) refl; temps = λ j w e. e }; long = refl }
  where
    by : (o : Option Value) → slice_get h.thread.slots i ≡ o → Fewer h.thread.slots (note_slot h.thread.slots i o)
    by None q j w e = e
    by (Some v) q j w e = set_fewer h.thread.slots i (written v) (λ u f. ap (λ o. then_some o holder_of) q ∙ sym (written_holder v) ∙ f) j w e

one_more : (vs : List Value) (v : Value) → length (vs ++ v ∷ []) ≡ suc (length vs)
one_more [] v = refl
one_more (x ∷ vs) v = ap suc (one_more vs v)

-- another value on top
top_long : (vs : List Value) (u v : Value) → last_of vs ≡ Some u → length (front_of vs ++ v ∷ []) ≡ length vs
top_long vs u v e = one_more (front_of vs) v ∙ sym (one_more (front_of vs) u) ∙ sym (ap (λ (l : List Value). length l) (last_split vs u e))

-- an owned value, or none, is put somewhere
put_in_slot : (i : ℕ) (v : Value) (h : Hand) → holder_of v ≡ None → Gives (Puts h) (put_slot i v h)
put_in_slot i v h none =
    test_gives (Puts h) (nat_lt i (length h.thread.slots)) _ (λ on. record {
      less = record { slots = set_fewer h.thread.slots i v (λ w f. (let z : None ≡ Some w = sym none ∙ f in absurd cc)); temps = λ j w e. e };
      long = refl;
    })

put_in_cell : (w : ℕ) (through : Option ℕ) (v : Owned) (h : Hand) → Gives (Puts h) (put_at (in_cell w through) (value.Own v) h)
put_in_cell w through v h = test_gives (Puts h) (leads_here h.work.rest.partition w) _ (λ on. again h (noted through (working (with_partition (stored h.work.rest.partition w v)) h)))
  where
    again : (h : Hand) → {h2 : Hand} → Puts (working (with_partition (stored h.work.rest.partition w v)) h) h2 → Puts h h2
    again h p = record { less = record { slots = p.less.slots; temps = p.less.temps }; long = p.long }

puts_owned : (s : Spot) (v : Owned) (h : Hand) → Gives (Less h) (put_at s (value.Own v) h)
puts_owned (in_slot i) v h = weaker (Puts h) (Less h) _ (put_in_slot i (value.Own v) h refl) (λ h2 p. p.less)
puts_owned on_top v h = record { slots = λ j w e. e; temps = push_fewer h.thread.temps (front_of h.thread.temps) (value.Own v) refl (front_fewer h.thread.temps) }
puts_owned (in_cell w through) v h = weaker (Puts h) (Less h) _ (put_in_cell w through v h) (λ h2 p. p.less)
puts_owned (in_copy w) v h = tt
puts_owned nowhere v h = tt

-- a value is taken out
takes_out : (s : Spot) (h : Hand) (v : Value) → value_at h s ≡ Some v → Gives (Puts h) (take_out s h)
takes_out (in_slot i) h v e = put_in_slot i value.Gone h refl
takes_out on_top h v e = record {
  less = record { slots = λ j w e. e; temps = push_fewer h.thread.temps (front_of h.thread.temps) (value.Own owned.Nothing) refl (front_fewer h.thread.temps) };
  long = top_long h.thread.temps v (value.Own owned.Nothing) e;
}
takes_out (in_cell w through) h v e = weaker (Puts (working (label_all (store_labels (cell_at h (in_cell w through)) owned.Nothing)) h)) (Puts h) _ (put_in_cell w through owned.Nothing (working (label_all (store_labels (cell_at h (in_cell w through)) owned.Nothing)) h))
    (λ h2 p. record { less = record { slots = p.less.slots; temps = p.less.temps }; long = p.long })
takes_out (in_copy w) h v e = tt
takes_out nowhere h v e = tt

-- OPERANDS

record Pops (h : Hand) (p : Popped Value) : Type 0 where
  slots : p.hand.thread.slots ≡ h.thread.slots
  temps : Fewer h.thread.temps p.hand.thread.temps
  item : (w : Lval) → holder_of p.item ≡ Some w → top_held h.thread.temps ≡ Some w

no_holder : (v : Owned) (w : Lval) → holder_of (value.Own v) ≡ Some w → ⊥
no_holder v w e = cc

pops_top : (h : Hand) → Gives (Pops h) (pop_temp h)
pops_top h = map_gives (Pops h) (last_of h.thread.temps) _ (λ v q. record { slots = refl; temps = front_fewer h.thread.temps; item = λ w f. ap (λ o. then_some o holder_of) q ∙ f })

pops : (o : Operand) (h : Hand) → Gives (Pops h) (pop o h)
pops (operand.Const n) h = record { slots = refl; temps = λ j w e. e; item = λ w f. absurd (no_holder (owned.Int n) w f) }
pops operand.Unit h = record { slots = refl; temps = λ j w e. e; item = λ w f. absurd (no_holder owned.Unit w f) }
pops operand.Pop h = pops_top h

same_fewer : (vs us : List Value) → us ≡ vs → Fewer vs us
same_fewer vs us e j w f = sym (ap (λ l. held l j) e) ∙ f

popped_less : (h : Hand) (p : Popped Value) → Pops h p → Less h p.hand
popped_less h p u = record { slots = same_fewer h.thread.slots p.hand.thread.slots u.slots; temps = u.temps }

abbrev Left : Hand → {X : Type 0} → Popped X → Type 0
Left h p = Less h p.hand

pops_as : {X : Type 0} (f : Value → Option X) (o : Operand) (h : Hand) → Gives (λ (p : Popped X). Left h p) (then_some (pop o h) (taken_as f))
pops_as {X} f o h = bind_gives (Pops h) (λ (p : Popped X). Left h p) (pop o h) (taken_as f) (pops o h) (λ p u. map_gives (λ (r : Popped X). Left h r) (f p.item) _ (λ x q. popped_less h p u))

pops_slot : (h : Hand) → Gives (λ (p : Popped Value). Left h p) (pop_slot h)
pops_slot h = map_gives (λ (p : Popped Value). Left h p) (last_of h.thread.slots) _ (λ v q. record { slots = front_fewer h.thread.slots; temps = λ j w e. e })

pops_slot_as : {X : Type 0} (f : Value → Option X) (h : Hand) → Gives (λ (p : Popped X). Left h p) (then_some (pop_slot h) (taken_as f))
pops_slot_as {X} f h = bind_gives (λ (p : Popped Value). Left h p) (λ (p : Popped X). Left h p) (pop_slot h) (taken_as f) (pops_slot h) (λ p u. map_gives (λ (r : Popped X). Left h r) (f p.item) _ (λ x q. u))

-- a value without a holder comes on top, or in a new slot
pushes : {h h2 : Hand} (v : Value) → holder_of v ≡ None → Less h h2 → Less h (push_temp v h2)
pushes {h} {h2} v none less = record { slots = less.slots; temps = push_fewer h.thread.temps h2.thread.temps v none less.temps }

pushes_slot : {h h2 : Hand} (v : Value) → holder_of v ≡ None → Less h h2 → Less h (push_slot v h2)
pushes_slot {h} {h2} v none less = record { slots = push_fewer h.thread.slots h2.thread.slots v none less.slots; temps = less.temps }

-- WHAT IS LEFT

module _ (on : OnReferences) (h : Hand) where
  abbrev Leads : Hand → Type 0
  Leads h2 = Came on h.thread.slots h.thread.temps h2.thread.slots h2.thread.temps

  abbrev pub Ends : Committed → Type 0
  Ends (done names h2) = Leads h2
  Ends (waits h2) = ⊤
  Ends refused = ⊤

  done_ends : (names : Fresh) (o : Option Hand) → Gives Leads o → Ends (done_where names o)
  done_ends names None g = tt
  done_ends names (Some h2) g = g

  goes_ends : (o : Option Hand) → Gives Leads o → Ends (goes_on o)
  goes_ends None g = tt
  goes_ends (Some h2) g = g

  names_end : (names : Fresh) (o : Option Hand) → Gives Leads o → Ends (done_where names (option_map go_on o))
  names_end names None g = tt
  names_end names (Some h2) g = g

  waits_end : (o : Option Hand) → Ends (waiting o)
  waits_end None = tt
  waits_end (Some h2) = tt

-- where all rest, what is less will do
rest_came : (h h2 : Hand) → Less h h2 → Came rests h.thread.slots h.thread.temps h2.thread.slots h2.thread.temps
rest_came h h2 less = record { slots = less.slots; temps = less.temps }

all_rest : (h : Hand) (o : Option Hand) → Gives (Less h) o → Gives (Leads rests h) o
all_rest h o g = weaker (Less h) (Leads rests h) o g (λ h2 less. rest_came h h2 less)

-- INSTRUCTIONS

-- a new variable
lets : (o : Operand) (h : Hand) → Gives (Leads binds h) (let_slot o h)
lets o h =
    over_gives (Pops h) (Leads binds h) (pop o h) _ (pops o h) (λ p u. record {
      slots = λ j w e. by p u j w (push_held p.hand.thread.slots p.item j w e);
      temps = u.temps;
    })
  where
    by : (p : Popped Value) → Pops h p → (j : ℕ) (w : Lval) → (held p.hand.thread.slots j ≡ Some w) ⊎ ((j ≡ length p.hand.thread.slots) × (holder_of p.item ≡ Some w)) → SlotCame binds h.thread.slots h.thread.temps j w
    by p u j w (inl f) = inl (same_fewer h.thread.slots p.hand.thread.slots u.slots j w f)
    by p u j w (inr f) = inr (f.0 ∙ ap (λ (l : List Value). length l) u.slots, u.item w f.1)

-- an assignment to a variable, and through a star
assigns : (w : Lval) (n : ℕ) → w.depth ≡ n → (o : Operand) (s : Spot) (h : Hand) → Gives (Leads (puts w) h) (assign w n o s h)
assigns w zero d o s h =
    bind_gives (Pops h) (Leads (puts w) h) (pop o h) _ (pops o h) (λ p u.
    then_gives (Leads (puts w) h) (slice_get p.hand.thread.slots w.slot) _ (λ old q.
    bind_gives (Leads (puts w) h) (Leads (puts w) h) (put_slot w.slot p.item (label_dropped old p.hand)) _
    (test_gives (Leads (puts w) h) (nat_lt w.slot (length p.hand.thread.slots)) _ (λ on. record {
      slots = λ j x e. by p u j x (set_held p.hand.thread.slots w.slot p.item j x e);
      temps = u.temps;
    }))
    (λ h2 came. weaker (Less h2) (Leads (puts w) h) (drop_value s old h2) (drops s old h2) (λ h3 less. record {
      slots = λ j x e. came.slots j x (less.slots j x e);
      temps = λ j x e. came.temps j x (less.temps j x e);
    }))))
  where
    by : (p : Popped Value) → Pops h p → (j : ℕ) (x : Lval) → ((j ≡ w.slot) × (holder_of p.item ≡ Some x)) ⊎ ((j ≢ w.slot) × (held p.hand.thread.slots j ≡ Some x)) → SlotCame (puts w) h.thread.slots h.thread.temps j x
    by p u j x (inl f) = inr (f.0, d, u.item x f.1)
    by p u j x (inr f) = inl (same_fewer h.thread.slots p.hand.thread.slots u.slots j x f.1, λ z. f.0)
assigns w (suc n) d o s h =
    bind_gives (λ (p : Popped Owned). Left h p) (Leads (puts w) h) (pop_owned o h) _ (pops_as owned_of o h) (λ p u.
    then_gives (Leads (puts w) h) (value_at p.hand s) _ (λ old q.
    bind_gives (Less h) (Leads (puts w) h) (store_at s p.item (label_dropped old p.hand)) _
    (weaker (Less (working (label_all (store_labels (cell_at (label_dropped old p.hand) s) p.item)) (label_dropped old p.hand))) (Less h) _ (puts_owned s p.item (working (label_all (store_labels (cell_at (label_dropped old p.hand) s) p.item)) (label_dropped old p.hand)))
    (λ h2 less. record { slots = λ j x e. u.slots j x (less.slots j x e); temps = λ j x e. u.temps j x (less.temps j x e) }))
    (λ h2 less. weaker (Less h2) (Leads (puts w) h) (drop_value nowhere old h2) (drops nowhere old h2) (λ h3 more. record {
      slots = λ j x e. inl (less.slots j x (more.slots j x e), λ z. absurd (omega (arith, z, d)));
      temps = λ j x e. less.temps j x (more.temps j x e);
    }))))

-- a second value has no holder
second_none : (v u : Value) → second_of v ≡ Some u → holder_of u ≡ None
second_none (value.Own v) u e = by (owns_nothing v) e
  where
    by : (b : Bool) → (if b then Some (value.Own v) else None) ≡ Some u → holder_of u ≡ None
    by true f = let z : value.Own v ≡ u = cc in subst (λ x. holder_of x ≡ None) z refl
    by false f = absurd cc
second_none (value.SharedSlot i) u e = let z : value.SharedSlot i ≡ u = cc in subst (λ x. holder_of x ≡ None) z refl
second_none (value.Shared r) u e = let z : value.Shared (record r { pinned = false }) ≡ u = cc in subst (λ x. holder_of x ≡ None) z refl
second_none value.Gone u e = absurd cc
second_none (value.MutSlot i) u e = absurd cc
second_none (value.Mut r) u e = absurd cc
second_none (value.Held m) u e = absurd cc

-- a copy
copies : (s : Spot) (h : Hand) → Gives (Less h) (read false s h)
copies s h =
    then_gives (Less h) (value_at h s) _ (λ v q. map_gives (Less h) (second_of v) _ (λ u f. record {
      slots = λ j w e. e;
      temps = push_fewer h.thread.temps h.thread.temps u (second_none v u f) (λ j w e. e);
    }))

-- a move
moves : (w : Lval) (s : Spot) (h : Hand) → (w.depth ≡ 0 → s ≡ in_slot w.slot) → Gives (Leads (takes w) h) (read true s h)
moves w s h here =
    then_gives (Leads (takes w) h) (value_at h s) _ (λ v q.
    over_gives (Puts (load_at s h)) (Leads (takes w) h) (take_out s (load_at s h)) (push_temp v) (takes_out s (load_at s h) v (loaded s v q))
    (λ h2 p. record {
      slots = λ j x e. p.less.slots j x e;
      temps = λ j x e. by v q h2 p j x (push_held h2.thread.temps v j x e);
    }))
  where
    loaded : (s : Spot) (v : Value) → value_at h s ≡ Some v → value_at (load_at s h) s ≡ Some v
    loaded (in_slot i) v q = q
    loaded on_top v q = q
    loaded (in_cell a t) v q = q
    loaded (in_copy a) v q = q
    loaded nowhere v q = q

    by : (v : Value) → value_at h s ≡ Some v → (h2 : Hand) → Puts (load_at s h) h2 → (j : ℕ) (x : Lval) → (held h2.thread.temps j ≡ Some x) ⊎ ((j ≡ length h2.thread.temps) × (holder_of v ≡ Some x)) → TempCame (takes w) h.thread.slots h.thread.temps j x
    by v q h2 p j x (inl f) = inl (p.less.temps j x f)
    by v q h2 p j x (inr f) = inr (f.0 ∙ p.long, λ z. ap (λ o. then_some o holder_of) (subst (λ sp. value_at h sp ≡ Some v) (here z) q) ∙ f.1)

-- a shared borrow
shared_none : (v u : Value) → shared_from v ≡ Some u → holder_of u ≡ None
shared_none (value.SharedSlot i) u e = let z : value.SharedSlot i ≡ u = cc in subst (λ x. holder_of x ≡ None) z refl
shared_none (value.MutSlot i) u e = let z : value.SharedSlot i ≡ u = cc in subst (λ x. holder_of x ≡ None) z refl
shared_none (value.Own (owned.Box p)) u e = let z : value.Shared (record { word = p.word; object = p.object; pinned = false }) ≡ u = cc in subst (λ x. holder_of x ≡ None) z refl
shared_none (value.Shared r) u e = let z : value.Shared (record { word = r.word; object = r.object; pinned = false }) ≡ u = cc in subst (λ x. holder_of x ≡ None) z refl
shared_none (value.Mut r) u e = let z : value.Shared (record { word = r.word; object = r.object; pinned = false }) ≡ u = cc in subst (λ x. holder_of x ≡ None) z refl
shared_none value.Gone u e = absurd cc
shared_none (value.Own owned.Nothing) u e = absurd cc
shared_none (value.Own owned.Unit) u e = absurd cc
shared_none (value.Own (owned.Int i)) u e = absurd cc
shared_none (value.Own (owned.Mutex m)) u e = absurd cc
shared_none (value.Own (owned.Task t)) u e = absurd cc
shared_none (value.Held m) u e = absurd cc

borrows : (w : Lval) (n : ℕ) (s : Spot) (h : Hand) → Gives (Less h) (borrow_from w n s h)
borrows w zero s h = pushes (value.SharedSlot w.slot) refl (same_less h)
borrows w (suc n) s h = then_gives (Less h) (value_at h s) _ (λ v q. map_gives (Less h) (shared_from v) _ (λ u f. pushes u (shared_none v u f) (same_less h)))

-- a mutable one: its holder is the place with one star less
lent_held : (p : Phase) (r : MutRef) (w : Lval) → holder_of (value.Mut (lent_word p r)) ≡ Some w → r.holder ≡ w
lent_held (phase.Taken a) r w e = cc
lent_held phase.Ready r w e = cc
lent_held phase.Got r w e = cc
lent_held (phase.WaitCell a) r w e = cc
lent_held (phase.WaitLock m) r w e = cc
lent_held (phase.WaitDup m) r w e = cc
lent_held (phase.WaitJoin u) r w e = cc
lent_held (phase.WaitPar a b) r w e = cc
lent_held (phase.GotPar a b) r w e = cc
lent_held phase.Over r w e = cc

mutable_held : (p : Phase) (holder : Lval) (v u : Value) → mutable_from p holder v ≡ Some u → (w : Lval) → holder_of u ≡ Some w → w ≡ holder
mutable_held p holder (value.MutSlot i) u e w f = let z : value.MutSlot i ≡ u = cc in let y : holder_of (value.MutSlot i) ≡ Some w = ap holder_of z ∙ f in absurd cc
mutable_held p holder (value.Own (owned.Box b)) u e w f = let z : lent p b.word b.object false holder ≡ u = cc in sym (lent_held p (record { word = b.word; first = b.word; object = b.object; dirty = false; holder = holder }) w (ap holder_of z ∙ f))
mutable_held p holder (value.Mut r) u e w f = let z : lent p r.word r.object r.dirty holder ≡ u = cc in sym (lent_held p (record { word = r.word; first = r.word; object = r.object; dirty = r.dirty; holder = holder }) w (ap holder_of z ∙ f))
mutable_held p holder (value.SharedSlot i) u e w f = absurd cc
mutable_held p holder (value.Shared r) u e w f = absurd cc
mutable_held p holder value.Gone u e w f = absurd cc
mutable_held p holder (value.Own owned.Nothing) u e w f = absurd cc
mutable_held p holder (value.Own owned.Unit) u e w f = absurd cc
mutable_held p holder (value.Own (owned.Int i)) u e w f = absurd cc
mutable_held p holder (value.Own (owned.Mutex m)) u e w f = absurd cc
mutable_held p holder (value.Own (owned.Task t)) u e w f = absurd cc
mutable_held p holder (value.Held m) u e w f = absurd cc

lends_at : (w : Lval) (n : ℕ) → w.depth ≡ n → (s : Spot) (h : Hand) → Gives (Leads (lends w) h) (borrow_mut_from w n s h)
lends_at w zero d s h = record { slots = λ j x e. e; temps = λ j x e. inl (push_fewer h.thread.temps h.thread.temps (value.MutSlot w.slot) refl (λ j x e. e) j x e) }
lends_at w (suc n) d s h =
    then_gives (Leads (lends w) h) (value_at h s) _ (λ v q. map_gives (Leads (lends w) h) (mutable_from h.thread.phase (record w { depth = n }) v) _ (λ u f. record {
      slots = λ j x e. e;
      temps = λ j x e. by v u f j x (push_held h.thread.temps u j x e);
    }))
  where
    by : (v u : Value) → mutable_from h.thread.phase (record w { depth = n }) v ≡ Some u → (j : ℕ) (x : Lval) → (held h.thread.temps j ≡ Some x) ⊎ ((j ≡ length h.thread.temps) × (holder_of u ≡ Some x)) → TempCame (lends w) h.thread.slots h.thread.temps j x
    by v u f j x (inl e) = inl e
    by v u f j x (inr e) = inr (e.0, (n, d, mutable_held h.thread.phase (record w { depth = n }) v u f x e.1))

-- captures leave slots as they were, or moved away
left_fewer : (take : Bool) (vs : List Value) (i : ℕ) → Fewer vs (left_after take vs i)
left_fewer true vs i = set_fewer vs i value.Gone (λ w f. absurd cc)
left_fewer false vs i = λ j w e. e

captures_from : (branch : Bool) (cs : List (ℕ × Bool)) (new vs us : List Value) → Fewer us vs → Gives (λ (p : List Value × List Value). Fewer us p.1) (capture_from branch new cs vs)
captures_from branch [] new vs us g = g
captures_from branch (x ∷ cs) new vs us g =
    then_gives (λ (p : List Value × List Value). Fewer us p.1) (slice_get vs x.0) _ (λ v q. then_gives (λ (p : List Value × List Value). Fewer us p.1) (captured branch x.1 v) _ (λ u f.
    captures_from branch cs (new ++ u ∷ []) (left_after x.1 vs x.0) us (λ j w e. g j w (left_fewer x.1 vs x.0 j w e))))

captures : (branch : Bool) (cs : List (ℕ × Bool)) (vs us : List Value) → Fewer us vs → Gives (λ (p : List Value × List Value). Fewer us p.1) (capture branch cs vs)
captures branch cs vs us g = captures_from branch cs [] vs us g

-- threads start
spawns : (n : ℕ) (cs : WithRoom (ℕ × Bool)) (pc : ℕ) (h : Hand) → Gives (Less h) (then_some (capture false cs.items h.thread.slots) (spawn_with n pc (next_thread h.work.rest) h))
spawns n cs pc h =
    bind_gives (λ (p : List Value × List Value). Fewer h.thread.slots p.1) (Less h) (capture false cs.items h.thread.slots) _ (captures false cs.items h.thread.slots h.thread.slots (λ j w e. e)) (λ two g.
    over_gives (λ (h2 : Hand). h2.thread.temps ≡ h.thread.temps) (Less h) (begun h) _ (test_gives (λ (h2 : Hand). h2.thread.temps ≡ h.thread.temps) (can_begin h.work.rest.tasks (next_thread h.work.rest)) _ (λ z. refl))
    (λ h2 u. record { slots = g; temps = push_fewer h.thread.temps h2.thread.temps (value.Own (owned.Task (next_thread h.work.rest))) refl (same_fewer h.thread.temps h2.thread.temps u) }))

pairs : (n : ℕ) (cs : WithRoom (ℕ × Bool)) (pc : ℕ) (ds : WithRoom (ℕ × Bool)) (other : ℕ) (h : Hand)
    → Gives (Less h) (then_some (capture true cs.items h.thread.slots) (λ first. then_some (capture true ds.items first.1) (par_with n pc other (next_thread h.work.rest) (next_thread h.work.rest + 1) h first.0)))
pairs n cs pc ds other h =
    let u = next_thread h.work.rest in
    bind_gives (λ (p : List Value × List Value). Fewer h.thread.slots p.1) (Less h) (capture true cs.items h.thread.slots) _ (captures true cs.items h.thread.slots h.thread.slots (λ j w e. e)) (λ a g.
    bind_gives (λ (p : List Value × List Value). Fewer h.thread.slots p.1) (Less h) (capture true ds.items a.1) _ (captures true ds.items a.1 h.thread.slots g) (λ b f.
    over_gives (λ (h2 : Hand). h2.thread.temps ≡ h.thread.temps) (Less h) (pair_begun h u (u + 1)) _ (test_gives (λ (h2 : Hand). h2.thread.temps ≡ h.thread.temps) (can_begin_pair h.work.rest.tasks h.thread.number u (u + 1)) _ (λ z. refl))
    (λ h2 v. record { slots = f; temps = same_fewer h.thread.temps h2.thread.temps v })))

-- an answer is taken
joins : (o : Operand) (g : Option Owned) (h : Hand) → Ends rests h (join o g h)
joins o None h = waits_end rests h _
joins o (Some v) h =
    goes_ends rests h _ (all_rest h _ (over_gives (λ (p : Popped ℕ). Left (take_gift h) p) (Less h) (then_some (pop o (take_gift h)) (taken_as task_of)) _ (pops_as task_of o (take_gift h)) (λ p u. record { slots = u.slots; temps = push_fewer h.thread.temps p.hand.thread.temps (value.Own v) refl u.temps })))

dups : (s : Spot) (g : Option Owned) (h : Hand) → Ends rests h (dup s g h)
dups s None h = waits_end rests h _
dups s (Some v) h = goes_ends rests h _ (all_rest h _ (map_gives (Less h) (mutex_at h s) _ (λ m q. record { slots = λ j w e. e; temps = push_fewer h.thread.temps h.thread.temps (value.Own v) refl (λ j w e. e) })))

locks : (s : Spot) (g : Option Owned) (h : Hand) → Ends rests h (lock s g h)
locks s None h = waits_end rests h _
locks s (Some v) h =
    goes_ends rests h _ (all_rest h _ (map_gives (Less h) (mutex_at h s) _ (λ m q. record {
      slots = push_fewer h.thread.slots (h.thread.slots ++ value.Held m ∷ []) (value.Own v) refl (push_fewer h.thread.slots h.thread.slots (value.Held m) refl (λ j w e. e));
      temps = λ j w e. e;
    })))

-- a lock ends
unlocks : (h : Hand) → Gives (Less h) (unlock h)
unlocks h =
    bind_gives (λ (p : Popped Owned). Left h p) (Less h) (then_some (pop_slot h) (taken_as owned_of)) _ (pops_slot_as owned_of h) (λ v u.
    over_gives (λ (p : Popped MutexNo). Left v.hand p) (Less h) (then_some (pop_slot v.hand) (taken_as held_of)) _ (pops_slot_as held_of v.hand) (λ m g. record { slots = λ j w e. u.slots j w (g.slots j w e); temps = λ j w e. u.temps j w (g.temps j w e) }))

pair_ends : (p : Phase) (h : Hand) → Gives (Less h) (par_end p h)
pair_ends (phase.GotPar a b) h = same_less h
pair_ends phase.Ready h = tt
pair_ends phase.Got h = tt
pair_ends (phase.Taken w) h = tt
pair_ends (phase.WaitCell w) h = tt
pair_ends (phase.WaitLock m) h = tt
pair_ends (phase.WaitDup m) h = tt
pair_ends (phase.WaitJoin u) h = tt
pair_ends (phase.WaitPar a b) h = tt
pair_ends phase.Over h = tt

-- a value goes
dropped : (o : Option (Popped Value)) (h : Hand) (holder : Spot) → Gives (λ (p : Popped Value). Left h p) o → Gives (Less h) (then_some o (λ p. drop_value holder p.item (label_dropped p.item p.hand)))
dropped o h holder g =
    bind_gives (λ (p : Popped Value). Left h p) (Less h) o _ g (λ p u. weaker (Less (label_dropped p.item p.hand)) (Less h) _ (drops holder p.item (label_dropped p.item p.hand)) (λ h2 less. record { slots = λ j w e. u.slots j w (less.slots j w e); temps = λ j w e. u.temps j w (less.temps j w e) }))

-- the end of a thread
ends_with : (b : Bool) (v : Owned) (h : Hand) → Gives (Less h) (end_with b v h)
ends_with true v h = record { slots = λ j w e. e; temps = λ j w e. e }
ends_with false v h = record { slots = λ j w e. e; temps = λ j w e. e }

-- whatever instruction
pub came : (n : ℕ) (i : Instr) (s : Spot) (h : Hand) → ((w : Lval) → i ≡ instr.Read w true → w.depth ≡ 0 → s ≡ in_slot w.slot) → Ends (on_of i) h (commit n i s h)
came n (instr.Let o) s h here = goes_ends binds h _ (lets o h)
came n (instr.Assign w o) s h here = goes_ends (puts w) h _ (assigns w w.depth refl o s h)
came n (instr.Read w true) s h here = goes_ends (takes w) h _ (moves w s h (λ z. here w refl z))
came n (instr.Read w false) s h here = goes_ends rests h _ (all_rest h _ (copies s h))
came n (instr.Borrow w) s h here = goes_ends rests h _ (all_rest h _ (borrows w w.depth s h))
came n (instr.BorrowMut w) s h here = goes_ends (lends w) h _ (lends_at w w.depth refl s h)
came n (instr.Box o) s h here =
    goes_ends rests h _ (all_rest h _ (bind_gives (λ (p : Popped Owned). Left h p) (Less h) (pop_owned o h) _ (pops_as owned_of o h) (λ p u.
    map_gives (Less h) (issue_placed (act.Make (next_object p.hand)) (record { object = next_object p.hand; value = p.item }) p.hand.work) (λ m. push_box p.item m p.hand) (λ m q.
    record { slots = u.slots; temps = push_fewer h.thread.temps p.hand.thread.temps (value.Own (owned.Box (record { word = m.word; object = next_object p.hand }))) refl u.temps }))))
came n (instr.Arith f a b) s h here =
    goes_ends rests h _ (all_rest h _ (bind_gives (λ (p : Popped ℤ). Left h p) (Less h) (pop_int b h) _ (pops_as int_of b h) (λ y u.
    over_gives (λ (p : Popped ℤ). Left y.hand p) (Less h) (pop_int a y.hand) _ (pops_as int_of a y.hand) (λ x v. pushes (value.Own (owned.Int (result_of f x.item y.item))) refl (then_less u v)))))
came n (instr.Print o) s h here = goes_ends rests h _ (all_rest h _ (over_gives (λ (p : Popped ℤ). Left h p) (Less h) (pop_int o h) _ (pops_as int_of o h) (λ p u. record { slots = u.slots; temps = u.temps })))
came n instr.Discard s h here = goes_ends rests h _ (all_rest h _ (dropped (pop_temp h) h s (weaker (Pops h) (λ (p : Popped Value). Left h p) (pop_temp h) (pops_top h) (λ p u. popped_less h p u))))
came n instr.DropSlot s h here = goes_ends rests h _ (all_rest h _ (dropped (pop_slot h) h s (pops_slot h)))
came n (instr.Spawn cs pc) s h here = names_end rests h _ _ (all_rest h _ (spawns n cs pc h))
came n (instr.Join o) s h here = joins o h.thread.gift h
came n (instr.Mutex o) s h here =
    names_end rests h _ _ (all_rest h _ (bind_gives (λ (p : Popped Owned). Left h p) (Less h) (pop_owned o h) _ (pops_as owned_of o h) (λ p u.
    test_gives (Less h) (can_make p.hand.work.rest.mutexes) _ (λ q. record { slots = u.slots; temps = push_fewer h.thread.temps p.hand.thread.temps (value.Own (owned.Mutex (next_mutex p.hand.work.rest.mutexes))) refl u.temps }))))
came n (instr.Dup w) s h here = dups s h.thread.gift h
came n (instr.Lock w) s h here = locks s h.thread.gift h
came n instr.Unlock s h here = goes_ends rests h _ (all_rest h _ (unlocks h))
came n (instr.Par cs pc ds other) s h here = done_ends rests h _ _ (all_rest h _ (pairs n cs pc ds other h))
came n instr.ParEnd s h here = goes_ends rests h _ (all_rest h _ (pair_ends h.thread.phase h))
came n (instr.End o) s h here =
    done_ends rests h _ _ (over_gives (Less h) (Leads rests h) (then_some (pop_owned o h) (λ t. end_with (h.thread.number == 0) t.item t.hand)) _
    (bind_gives (λ (p : Popped Owned). Left h p) (Less h) (pop_owned o h) _ (pops_as owned_of o h) (λ p u. weaker (Less p.hand) (Less h) _ (ends_with (h.thread.number == 0) p.item p.hand) (λ h2 less. then_less u less)))
    (λ h2 less. record { slots = less.slots; temps = less.temps }))
