-- What a new thread captures: neither it nor what is left in its parent's slots has a lock's mark more or less.
use Rattle.std.proofs.Common.{◌≡◌, ℕ, Bool, true, false, if◌then◌else◌, List, [], ◌∷◌, ◌++◌, Option, Some, None, refl, subst, arith}
use Rattle.std.specs.Prelude.{slice_get}
use Rattle.law_words_ends.specs.Below.heap_partition.declared.value.Owned.{Owned}
use Rattle.law_words_ends.specs.Below.thread_state.declared.value.Value.{Value}
use Rattle.law_words_ends.specs.Below.thread_state.declared.value.Value.TheVariants as value
use Rattle.law_words_ends.specs.Below.server_model.Work.{then_some}
use Rattle.law_words_ends.specs.Below.server_model.Places.{owns_nothing}
use Rattle.law_words_ends.specs.Below.server_model.Start.{captured, left_after, capture_from}
use Rattle.law_words_ends.specs.Below.coherent_memory.Names.{tot}
use Rattle.law_words_ends.specs.Below.coherent_memory.Things.{Thing, things_at, slot_things}
use Rattle.law_words_ends.specs.Below.law_counts_sums.Laws.{Gives}
use Rattle.law_entries_variables.proofs.deliveries.Weighed.{Seen}
use Rattle.law_entries_variables.proofs.variables.Slots.{IsUnmarked, slot_pushed, slot_put}

owned_unmarked : (v : Owned) (u : Value) → Some (value.Own v) ≡ Some u → IsUnmarked u
owned_unmarked v u e = let same : value.Own v ≡ u = cc in subst IsUnmarked same tt

second_unmarked : (b : Bool) (v : Owned) (u : Value) → (if b then Some (value.Own v) else None) ≡ Some u → IsUnmarked u
second_unmarked true v u e = owned_unmarked v u e
second_unmarked false v u e = absurd (cc e)

-- what is captured is no mark, nor what it is captured from
captured_unmarked : (branch moves : Bool) (v u : Value) → captured branch moves v ≡ Some u → IsUnmarked v × IsUnmarked u
captured_unmarked true true (value.Own v) u e = (tt, owned_unmarked v u e)
captured_unmarked true true _ u e = absurd (cc e)
captured_unmarked false true (value.Own v) u e = (tt, owned_unmarked v u e)
captured_unmarked false true _ u e = absurd (cc e)
captured_unmarked true false (value.Own v) u e = (tt, second_unmarked (owns_nothing v) v u e)
captured_unmarked true false (value.Shared r) u e = let same : value.Shared (record r { pinned = false }) ≡ u = cc in (tt, subst IsUnmarked same tt)
captured_unmarked true false _ u e = absurd (cc e)
captured_unmarked false false (value.Own v) u e = (tt, second_unmarked (owns_nothing v) v u e)
captured_unmarked false false _ u e = absurd (cc e)

-- the captured values show nothing, and the slots that are left what they showed
pub record Captures (slots : List Value) (r : List Value × List Value) : Type 0 where
  pub new : (f : Thing → ℕ) → Seen f → (t : ℕ) → tot f (things_at (slot_things 0 t) 0 r.0) ≡ 0
  pub left : (f : Thing → ℕ) → Seen f → (t : ℕ) → tot f (things_at (slot_things 0 t) 0 r.1) ≡ tot f (things_at (slot_things 0 t) 0 slots)

left_alike : (moves : Bool) (slots : List Value) (i : ℕ) (v : Value) → slice_get slots i ≡ Some v → IsUnmarked v → (f : Thing → ℕ) → Seen f → (t : ℕ) → tot f (things_at (slot_things 0 t) 0 (left_after moves slots i)) ≡ tot f (things_at (slot_things 0 t) 0 slots)
left_alike true slots i v e p f h t = slot_put f h 0 t slots i v value.Gone e p tt
left_alike false slots i v e p f h t = refl

-- captures go one by one
pub captures : (branch : Bool) (cs : List (ℕ × Bool)) (new slots : List Value) → ((f : Thing → ℕ) → Seen f → (t : ℕ) → tot f (things_at (slot_things 0 t) 0 new) ≡ 0) → Gives (Captures slots) (capture_from branch new cs slots)
captures branch [] new slots z = record { new = z; left = λ f h t. refl }
captures branch (c ∷ cs) new slots z = by (slice_get slots c.0) refl (λ u z2. captures branch cs (new ++ u ∷ []) (left_after c.1 slots c.0) z2)
  where
    more : (v : Value) → slice_get slots c.0 ≡ Some v → IsUnmarked v → (o : Option (List Value × List Value)) → Gives (Captures (left_after c.1 slots c.0)) o → Gives (Captures slots) o
    more v e p None g = tt
    more v e p (Some r) g = record { new = g.new; left = λ f h t. omega (arith, g.left f h t, left_alike c.1 slots c.0 v e p f h t) }

    taken : ((u : Value) → ((f : Thing → ℕ) → Seen f → (t : ℕ) → tot f (things_at (slot_things 0 t) 0 (new ++ u ∷ [])) ≡ 0) → Gives (Captures (left_after c.1 slots c.0)) (capture_from branch (new ++ u ∷ []) cs (left_after c.1 slots c.0))) → (v : Value) → slice_get slots c.0 ≡ Some v → (o : Option Value) → captured branch c.1 v ≡ o → Gives (Captures slots) (then_some o (λ u. capture_from branch (new ++ u ∷ []) cs (left_after c.1 slots c.0)))
    taken go v e None q = tt
    taken go v e (Some u) q =
        let p = captured_unmarked branch c.1 v u q in
        more v e p.0 (capture_from branch (new ++ u ∷ []) cs (left_after c.1 slots c.0)) (go u (λ f h t. omega (arith, slot_pushed f h 0 t new u p.1, z f h t)))

    by : (o : Option Value) → slice_get slots c.0 ≡ o → ((u : Value) → ((f : Thing → ℕ) → Seen f → (t : ℕ) → tot f (things_at (slot_things 0 t) 0 (new ++ u ∷ [])) ≡ 0) → Gives (Captures (left_after c.1 slots c.0)) (capture_from branch (new ++ u ∷ []) cs (left_after c.1 slots c.0))) → Gives (Captures slots) (then_some o (λ v. then_some (captured branch c.1 v) (λ u. capture_from branch (new ++ u ∷ []) cs (left_after c.1 slots c.0))))
    by None e go = tt
    by (Some v) e go = taken go v e (captured branch c.1 v) refl
