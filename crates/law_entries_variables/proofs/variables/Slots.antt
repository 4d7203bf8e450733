-- The marks of locks in a thread's slots: what the coloured heap sees of slots that come, go or change.
use Rattle.std.proofs.Common.{◌≡◌, ℕ, ◌+◌, List, [], ◌∷◌, ◌++◌, Some, refl, ap, arith}
use Rattle.std.specs.Prelude.{⊤, slice_get, slice_set}
use Rattle.law_words_ends.specs.Below.thread_state.declared.value.Value.{Value}
use Rattle.law_words_ends.specs.Below.thread_state.declared.value.Value.TheVariants as value
use Rattle.law_words_ends.specs.Below.server_model.Work.{last_of, front_of}
use Rattle.law_words_ends.specs.Below.coherent_memory.Names.{tot}
use Rattle.law_words_ends.specs.Below.coherent_memory.Things.{in_slot, at_slot, Thing, things_at, slot_things}
use Rattle.law_words_ends.proofs.Below.law_counts_sums.Trades.{trade_at, trade_whole}
use Rattle.law_words_ends.proofs.Below.law_counts_sums.Values.{last_split}
use Rattle.law_entries_variables.proofs.deliveries.Weighed.{Seen, pins_unseen}
use Rattle.law_words_ends.proofs.Below.law_words_values.carried.Places.{end_sum}

-- it is no mark of a lock
abbrev pub IsUnmarked : Value → Type 0
IsUnmarked (value.Held m) = ⊥
IsUnmarked v = ⊤

module _ (f : Thing → ℕ) (h : Seen f) where
  pub slot_unseen : (n t i : ℕ) (v : Value) → IsUnmarked v → tot f (slot_things n t i v) ≡ 0
  slot_unseen n t i (value.Shared q) p = omega (arith, pins_unseen f h n q, h.shared (at_slot t i) q)
  slot_unseen n t i value.Gone p = refl
  slot_unseen n t i (value.Own v) p = omega (arith, h.held (in_slot t i) v)
  slot_unseen n t i (value.SharedSlot j) p = refl
  slot_unseen n t i (value.MutSlot j) p = refl
  slot_unseen n t i (value.Mut q) p = omega (arith, h.lent (at_slot t i) q)
  slot_unseen n t i (value.Held m) p = absurd p

  -- a slot comes
  pub slot_pushed : (n t : ℕ) (vs : List Value) (v : Value) → IsUnmarked v → tot f (things_at (slot_things n t) 0 (vs ++ v ∷ [])) ≡ tot f (things_at (slot_things n t) 0 vs)
  slot_pushed n t vs v p = let q = end_sum f (slot_things n t) 0 vs v in omega (arith, q.1, slot_unseen n t q.0 v p)

  -- the last one goes
  pub slot_popped : (n t : ℕ) (vs : List Value) (v : Value) → last_of vs ≡ Some v → IsUnmarked v → tot f (things_at (slot_things n t) 0 (front_of vs)) ≡ tot f (things_at (slot_things n t) 0 vs)
  slot_popped n t vs v e p =
      let same : tot f (things_at (slot_things n t) 0 vs) ≡ tot f (things_at (slot_things n t) 0 (front_of vs ++ v ∷ [])) = ap (λ l. tot f (things_at (slot_things n t) 0 l)) (last_split vs v e) in
      omega (arith, same, slot_pushed n t (front_of vs) v p)

  -- one gets another value
  pub slot_put : (n t : ℕ) (vs : List Value) (j : ℕ) (old new : Value) → slice_get vs j ≡ Some old → IsUnmarked old → IsUnmarked new → tot f (things_at (slot_things n t) 0 (slice_set vs j new)) ≡ tot f (things_at (slot_things n t) 0 vs)
  slot_put n t vs j old new e p q =
      let u = trade_at (slot_things n t) vs 0 j old new (slot_things n t (0 + j) old) (slot_things n t (0 + j) new) e (trade_whole (slot_things n t (0 + j) old) (slot_things n t (0 + j) new)) in
      omega (arith, u.before f, u.after f, slot_unseen n t (0 + j) old p, slot_unseen n t (0 + j) new q)
