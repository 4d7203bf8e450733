-- What is on top of a thread's temporary values, and its newest slot, are there.
use Rattle.std.proofs.Common.{◌≡◌, ℕ, ◌+◌, ◌≤◌, List, [], ◌∷◌, ◌++◌, length, Some, ap, arith}
use Rattle.law_words_ends.specs.Below.thread_state.View.{ThreadState}
use Rattle.law_words_ends.specs.Below.thread_state.declared.value.Value.{Value}
use Rattle.law_words_ends.specs.Below.thread_state.declared.value.Value.TheVariants as value
use Rattle.law_words_ends.specs.Below.server_model.Servers.{Server, Cluster, server_at}
use Rattle.law_words_ends.specs.Below.server_model.Work.{last_of, front_of, thread_in}
use Rattle.law_words_ends.specs.Below.coherent_memory.Names.{tot}
use Rattle.law_words_ends.specs.Below.coherent_memory.Things.{at_temp, Thing, locks, things_at, walk_things, slot_things, temp_things, gift_things, things_of}
use Rattle.law_words_ends.specs.Below.coherent_memory.Coherent.{IsSound}
use Rattle.law_words_ends.proofs.Below.law_counts_sums.Trades.{tot-append, tot-push}
use Rattle.law_words_ends.proofs.Below.law_counts_sums.Bags.{all_standing, rest_things, server_same, tot-without}
use Rattle.law_words_ends.proofs.Below.law_counts_sums.Events.{tot-server}
use Rattle.law_words_ends.proofs.Below.law_counts_sums.Values.{last_split}
use Rattle.law_entries_variables.proofs.deliveries.Changed.{AreThere}
use Rattle.law_entries_variables.proofs.variables.Slots.{IsUnmarked}

module _ (k : Cluster) (number : ℕ) (s : Server) (here : server_at k.servers number ≡ Some s) (y : ThreadState) (at : thread_in s.threads y.number ≡ Some y) where
  abbrev n : ℕ
  n = s.rest.number

  abbrev slots : List Thing
  slots = things_at (slot_things n y.number) 0 y.slots

  abbrev temps : List Thing
  temps = things_at (temp_things n y.number) 0 y.temps

  both_there : (f : Thing → ℕ) → tot f slots + tot f temps ≤ tot f (things_of k)
  both_there f =
      let g = gift_things y.number y.gift in
      let b = things_at (walk_things n) 0 y.walk in
      omega (arith, (tot-server f k.servers number s s here).0, server_same s f, tot-append f (all_standing n s.threads) (rest_things n s.events s.rest), tot-without n f s.threads y.number y at, tot-append f (g ++ b ++ slots) temps, tot-append f (g ++ b) slots, tot-append f g b)

  -- the temporary value on top
  pub top_there : (v : Value) → last_of y.temps ≡ Some v → AreThere k (temp_things n y.number (0 + length (front_of y.temps)) v)
  top_there v e f =
      let same : tot f temps ≡ tot f (things_at (temp_things n y.number) 0 (front_of y.temps ++ v ∷ [])) = ap (λ vs. tot f (things_at (temp_things n y.number) 0 vs)) (last_split y.temps v e) in
      omega (arith, same, tot-push (temp_things n y.number) f (front_of y.temps) 0 v, both_there f)

  -- the newest slot
  pub newest_there : (v : Value) → last_of y.slots ≡ Some v → AreThere k (slot_things n y.number (0 + length (front_of y.slots)) v)
  newest_there v e f =
      let same : tot f slots ≡ tot f (things_at (slot_things n y.number) 0 (front_of y.slots ++ v ∷ [])) = ap (λ vs. tot f (things_at (slot_things n y.number) 0 vs)) (last_split y.slots v e) in
      omega (arith, same, tot-push (slot_things n y.number) f (front_of y.slots) 0 v, both_there f)

-- a lock's mark among temporary values
abbrev loose_mark : Thing → ℕ
loose_mark (locks (at_temp t i) m) = 1
loose_mark x = 0

-- none is on top
pub top_unmarked : (k : Cluster) → IsSound k → (number : ℕ) (s : Server) → server_at k.servers number ≡ Some s → (y : ThreadState) → thread_in s.threads y.number ≡ Some y → (v : Value) → last_of y.temps ≡ Some v → IsUnmarked v
top_unmarked k sound number s here y at (value.Held m) e = let z : tot loose_mark (things_of k) ≡ 0 = sound.mutexes_and_tasks.marks_in_slots in let l = top_there k number s here y at (value.Held m) e loose_mark in absurd (omega (arith, l, z))
top_unmarked k sound number s here y at value.Gone e = tt
top_unmarked k sound number s here y at (value.Own v) e = tt
top_unmarked k sound number s here y at (value.SharedSlot i) e = tt
top_unmarked k sound number s here y at (value.MutSlot i) e = tt
top_unmarked k sound number s here y at (value.Shared r) e = tt
top_unmarked k sound number s here y at (value.Mut r) e = tt
