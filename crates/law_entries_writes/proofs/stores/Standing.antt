-- What stands in a variable, in its cluster.
use Rattle.std.proofs.Common.{◌≡◌, ℕ, ◌+◌, ◌++◌, Some, refl, arith}
use Rattle.std.specs.Prelude.{slice_get}
use Rattle.law_entries_reads.specs.Below.law_entries_variables.Below.law_words_ends.Below.fr_base.declared.name.MutexNo.{MutexNo}
use Rattle.law_entries_reads.specs.Below.law_entries_variables.Below.law_words_ends.Below.thread_state.View.{ThreadState}
use Rattle.law_entries_reads.specs.Below.law_entries_variables.Below.law_words_ends.Below.thread_state.declared.value.Value.{Value}
use Rattle.law_entries_reads.specs.Below.law_entries_variables.Below.law_words_ends.Below.thread_state.declared.value.Value.TheVariants as value
use Rattle.law_entries_reads.specs.Below.law_entries_variables.Below.law_words_ends.Below.server_model.Servers.{Server, Cluster, server_at}
use Rattle.law_entries_reads.specs.Below.law_entries_variables.Below.law_words_ends.Below.server_model.Work.{thread_in}
use Rattle.law_entries_reads.specs.Below.law_entries_variables.Below.law_words_ends.Below.coherent_memory.Things.{things_at, slot_things, temp_things, walk_things, gift_things}
use Rattle.law_entries_reads.proofs.Below.law_entries_variables.Below.law_words_ends.Below.law_counts_sums.Trades.{tot-append, trade_at, trade_whole}
use Rattle.law_entries_reads.proofs.Below.law_entries_variables.Below.law_words_ends.Below.law_counts_sums.Bags.{all_standing, rest_things, server_same, tot-without}
use Rattle.law_entries_reads.proofs.Below.law_entries_variables.Below.law_words_ends.Below.law_counts_sums.Events.{tot-server}
use Rattle.law_entries_writes.proofs.Below.law_entries_variables.deliveries.Changed.{AreThere}
use Rattle.law_entries_reads.proofs.Below.law_entries_variables.variables.Slots.{IsUnmarked}

module _ (k : Cluster) (number : ℕ) (s : Server) (here : server_at k.servers number ≡ Some s) (y : ThreadState) (at : thread_in s.threads y.number ≡ Some y) where
  -- the value of a variable is there
  pub slot_there : (j : ℕ) (v : Value) → slice_get y.slots j ≡ Some v → AreThere k (slot_things s.rest.number y.number (0 + j) v)
  slot_there j v e f =
      let n = s.rest.number in
      let g = gift_things y.number y.gift in
      let b = things_at (walk_things n) 0 y.walk in
      let slots = things_at (slot_things n y.number) 0 y.slots in
      let temps = things_at (temp_things n y.number) 0 y.temps in
      let u = trade_at (slot_things n y.number) y.slots 0 j v v (slot_things n y.number (0 + j) v) (slot_things n y.number (0 + j) v) e (trade_whole (slot_things n y.number (0 + j) v) (slot_things n y.number (0 + j) v)) in
      omega (arith, u.before f, (tot-server f k.servers number s s here).0, server_same s f, tot-append f (all_standing n s.threads) (rest_things n s.events s.rest), tot-without n f s.threads y.number y at, tot-append f (g ++ b ++ slots) temps, tot-append f (g ++ b) slots, tot-append f g b)

-- no mark of a lock stands there
pub unmarked_by : (v : Value) → ((m : MutexNo) → v ≡ value.Held m → ⊥) → IsUnmarked v
unmarked_by (value.Held m) none = none m refl
unmarked_by value.Gone none = tt
unmarked_by (value.Own v) none = tt
unmarked_by (value.SharedSlot i) none = tt
unmarked_by (value.MutSlot i) none = tt
unmarked_by (value.Shared r) none = tt
unmarked_by (value.Mut r) none = tt
