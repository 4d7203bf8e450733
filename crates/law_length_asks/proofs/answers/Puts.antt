-- Where a pointer gets its object's new word: the rest of the thread stays, and a reference in a slot of its own, or on top, has that word or its own.
use Rattle.std.proofs.Common.{◌≡◌, ℕ, zero, suc, true, nat_lt, List, [], ◌∷◌, ◌++◌, length, Option, Some, None, refl, sym, ap, subst, ◌∙◌}
use Rattle.std.specs.Prelude.{slice_get, slice_set}
use Rattle.law_length_asks.proofs.Below.law_walks_others.Below.fr_typing.PlaceLemmas.{eq_cases}
use Rattle.law_length_asks.specs.Below.law_walks_others.Below.fr_base.Lists.{last_of}
use Rattle.law_length_asks.specs.Below.law_walks_others.Below.heap_partition.declared.value.Owned.{Owned}
use Rattle.law_length_asks.specs.Below.law_walks_others.Below.mut_borrow.declared.mutable.MutRef.{MutRef}
use Rattle.law_length_asks.specs.Below.law_walks_others.Below.thread_state.declared.value.Value.{Value}
use Rattle.law_length_asks.specs.Below.law_walks_others.Below.thread_state.declared.value.Value.TheVariants as value
use Rattle.law_length_asks.specs.Below.law_walks_others.Below.server_model.Work.{Hand, then_some, leads_here, with_slots, working, with_partition, front_of}
use Rattle.law_length_asks.specs.Below.law_walks_others.Below.server_model.Places.{Spot, in_slot, on_top, in_cell, in_copy, nowhere, value_at, written, note_slot, note_write, put_at, took, with_word, set_pointer}
use Rattle.law_length_asks.specs.Below.law_walks_others.Below.owner_box.Partition.{stored}
use Rattle.law_length_asks.specs.Below.law_walks_others.Below.law_counts_sums.Laws.{Gives}
use Rattle.law_length_asks.proofs.Below.law_walks_others.Below.law_counts_sums.Objects.{length_set}
use Rattle.law_length_asks.proofs.Below.law_walks_others.Below.law_counts_sums.Results.{then_gives, test_gives}
use Rattle.law_length_asks.proofs.Below.law_walks_others.Below.law_results_events.writes.Ends.{value_of_thread}
use Rattle.law_length_asks.proofs.Below.law_walks_others.Below.law_results_events.writes.Route.{set_other}
use Rattle.law_length_asks.proofs.Below.law_walks_others.arrivals.Unworded.{last_pushed}
use Rattle.law_length_asks.proofs.answers.Follows.{Own, own_slot, own_top}

pub set_there : (xs : List Value) (i : ℕ) (v u : Value) → slice_get xs i ≡ Some v → slice_get (slice_set xs i u) i ≡ Some u
set_there [] i v u e = absurd (cc e)
set_there (x ∷ xs) zero v u e = refl
set_there (x ∷ xs) (suc i) v u e = set_there xs i v u e

-- a reference with the same holder, under its word or the new one
pub data Same (new : ℕ) (q : MutRef) : MutRef → Type 0 where
  as_it_was : (p : MutRef) → p.holder ≡ q.holder → p.word ≡ q.word → Same new q p
  renewed : (p : MutRef) → p.holder ≡ q.holder → p.word ≡ new → Same new q p

pub record Kept (new : ℕ) (sp : Spot) (q : MutRef) (h2 : Hand) : Type 0 where
  pub now : MutRef
  pub there : value_of_thread h2.thread sp ≡ Some (value.Mut now)
  pub same : Same new q now

-- the thread but for its values, and each reference of its own
pub record Put (new : ℕ) (h h2 : Hand) : Type 0 where
  pub thread : h2.thread ≡ record h.thread { slots = h2.thread.slots; temps = h2.thread.temps }
  pub size : length h2.thread.slots ≡ length h.thread.slots
  pub kept : (sp : Spot) → Own sp → (q : MutRef) → value_of_thread h.thread sp ≡ Some (value.Mut q) → Kept new sp q h2

mut_is : {p q : MutRef} → Some (value.Mut p) ≡ Some (value.Mut q) → p ≡ q
mut_is e = cc

some_value : {u v : Value} → Some u ≡ Some v → u ≡ v
some_value e = cc

-- the reference that stands there gets the word
worded : (new : ℕ) (v u : Value) (q : MutRef) → v ≡ value.Mut q → with_word new v ≡ Some u → u ≡ value.Mut (took q new)
worded new v u q e f = sym (some_value (sym (ap (with_word new) e) ∙ f))

module _ (new : ℕ) (h : Hand) where
  stays : (sp : Spot) (q : MutRef) (h2 : Hand) → value_of_thread h2.thread sp ≡ Some (value.Mut q) → Kept new sp q h2
  stays sp q h2 e = record { now = q; there = e; same = as_it_was q refl refl }

  -- in a slot
  slot_put : (i : ℕ) (v u : Value) → slice_get h.thread.slots i ≡ Some v → with_word new v ≡ Some u → Put new h (with_slots (slice_set h.thread.slots i u) h)
  slot_put i v u there word = record { thread = refl; size = length_set h.thread.slots i u; kept = by }
    where
      by : (sp : Spot) → Own sp → (q : MutRef) → value_of_thread h.thread sp ≡ Some (value.Mut q) → Kept new sp q (with_slots (slice_set h.thread.slots i u) h)
      by _ own_top q e = stays on_top q (with_slots (slice_set h.thread.slots i u) h) e
      by _ (own_slot j) q e =
          eq_cases (λ b. Kept new (in_slot j) q (with_slots (slice_set h.thread.slots i u) h)) j i
          (λ same.
          let here : slice_get h.thread.slots i ≡ Some (value.Mut q) = ap (slice_get h.thread.slots) (sym same) ∙ e in
          let is : u ≡ value.Mut (took q new) = worded new v u q (some_value (sym there ∙ here)) word in
          record { now = took q new; there = ap (slice_get (slice_set h.thread.slots i u)) same ∙ set_there h.thread.slots i v u there ∙ ap (λ z. Some z) is; same = renewed (took q new) refl refl })
          (λ ne. stays (in_slot j) q (with_slots (slice_set h.thread.slots i u) h) (set_other h.thread.slots i j u ne ∙ e))

  -- on top
  top_put : (v u : Value) → last_of h.thread.temps ≡ Some v → with_word new v ≡ Some u → Put new h (record h { thread = record h.thread { temps = front_of h.thread.temps ++ u ∷ [] } })
  top_put v u there word = record { thread = refl; size = refl; kept = by }
    where
      h2 : Hand
      h2 = record h { thread = record h.thread { temps = front_of h.thread.temps ++ u ∷ [] } }

      by : (sp : Spot) → Own sp → (q : MutRef) → value_of_thread h.thread sp ≡ Some (value.Mut q) → Kept new sp q (record h { thread = record h.thread { temps = front_of h.thread.temps ++ u ∷ [] } })
      by _ (own_slot j) q e = stays (in_slot j) q (record h { thread = record h.thread { temps = front_of h.thread.temps ++ u ∷ [] } }) e
      by _ own_top q e =
          let is : u ≡ value.Mut (took q new) = worded new v u q (some_value (sym there ∙ e)) word in
          record { now = took q new; there = last_pushed (front_of h.thread.temps) u ∙ ap (λ z. Some z) is; same = renewed (took q new) refl refl }

  -- in a cell, which is noted on the reference that led there
  abbrev celled : ℕ → Owned → Hand
  celled w u = working (with_partition (stored h.work.rest.partition w u)) h

  cell_put : (w : ℕ) (u : Owned) (through : Option ℕ) → Put new h (note_write through (celled w u))
  cell_put w u None = record { thread = refl; size = refl; kept = λ sp o q e. stays sp q (celled w u) e }
  cell_put w u (Some i) = noted (slice_get h.thread.slots i) refl
    where
      noted : (v : Option Value) → slice_get h.thread.slots i ≡ v → Put new h (with_slots (note_slot h.thread.slots i v) (celled w u))
      noted None e = record { thread = refl; size = refl; kept = λ sp o q f. stays sp q (with_slots h.thread.slots (celled w u)) f }
      noted (Some v) e = record { thread = refl; size = length_set h.thread.slots i (written v); kept = by }
        where
          by : (sp : Spot) → Own sp → (q : MutRef) → value_of_thread h.thread sp ≡ Some (value.Mut q) → Kept new sp q (with_slots (slice_set h.thread.slots i (written v)) (celled w u))
          by _ own_top q f = stays on_top q (with_slots (slice_set h.thread.slots i (written v)) (celled w u)) f
          by _ (own_slot j) q f =
              eq_cases (λ b. Kept new (in_slot j) q (with_slots (slice_set h.thread.slots i (written v)) (celled w u))) j i
              (λ same.
              let here : slice_get h.thread.slots i ≡ Some (value.Mut q) = ap (slice_get h.thread.slots) (sym same) ∙ f in
              let is : v ≡ value.Mut q = some_value (sym e ∙ here) in
              record { now = record q { dirty = true }; there = ap (slice_get (slice_set h.thread.slots i (written v))) same ∙ set_there h.thread.slots i v (written v) e ∙ ap (λ z. Some (written z)) is; same = as_it_was (record q { dirty = true }) refl refl })
              (λ ne. stays (in_slot j) q (with_slots (slice_set h.thread.slots i (written v)) (celled w u)) (set_other h.thread.slots i j (written v) ne ∙ f))

  pub puts : (sp : Spot) → Gives (Put new h) (set_pointer sp new h)
  puts sp = then_gives (Put new h) (value_at h sp) _ (λ v q. then_gives (Put new h) (with_word new v) _ (λ u e. by sp v u q e))
    where
      by : (sp : Spot) (v u : Value) → value_at h sp ≡ Some v → with_word new v ≡ Some u → Gives (Put new h) (put_at sp u h)
      by (in_slot i) v u q e = test_gives (Put new h) (nat_lt i (length h.thread.slots)) _ (λ on. slot_put i v u q e)
      by on_top v u q e = top_put v u q e
      by (in_cell w through) v (value.Own x) q e = test_gives (Put new h) (leads_here h.work.rest.partition w) _ (λ on. cell_put w x through)
      by (in_cell w through) v value.Gone q e = tt
      by (in_cell w through) v (value.SharedSlot i) q e = tt
      by (in_cell w through) v (value.MutSlot i) q e = tt
      by (in_cell w through) v (value.Shared i) q e = tt
      by (in_cell w through) v (value.Mut i) q e = tt
      by (in_cell w through) v (value.Held i) q e = tt
      by (in_copy w) v u q e = tt
      by nowhere v u q e = tt

  -- at a reference of its own exactly that one has it
  pub own_puts : (sp : Spot) → Own sp → (q : MutRef) → value_of_thread h.thread sp ≡ Some (value.Mut q) → Gives (λ (h2 : Hand). Put new h h2 × (value_of_thread h2.thread sp ≡ Some (value.Mut (took q new)))) (set_pointer sp new h)
  own_puts _ (own_slot j) q e =
      subst (λ o. Gives (λ (h2 : Hand). Put new h h2 × (value_of_thread h2.thread (in_slot j) ≡ Some (value.Mut (took q new)))) (then_some o (λ v. then_some (with_word new v) (λ u. put_at (in_slot j) u h)))) (sym e)
      (test_gives (λ (h2 : Hand). Put new h h2 × (value_of_thread h2.thread (in_slot j) ≡ Some (value.Mut (took q new)))) (nat_lt j (length h.thread.slots)) _ (λ on. (slot_put j (value.Mut q) (value.Mut (took q new)) e refl, set_there h.thread.slots j (value.Mut q) (value.Mut (took q new)) e)))
  own_puts _ own_top q e =
      subst (λ o. Gives (λ (h2 : Hand). Put new h h2 × (value_of_thread h2.thread on_top ≡ Some (value.Mut (took q new)))) (then_some o (λ v. then_some (with_word new v) (λ u. put_at on_top u h)))) (sym e)
      (top_put (value.Mut q) (value.Mut (took q new)) e refl, last_pushed (front_of h.thread.temps) (value.Mut (took q new)))
