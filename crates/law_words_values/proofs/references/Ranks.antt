-- By types each mutable reference ranks above the pointer that it was made from.
use Rattle.std.proofs.Common.{◌≡◌, ℕ, suc, ◌<◌, Some, ap, arith}
use Rattle.law_words_values.specs.Below.fr_base.declared.name.ObjNo.{ObjNo}
use Rattle.law_words_values.specs.Below.fr_store.Keys.{Key, slot_k, temp_k}
use Rattle.law_words_values.specs.Below.fr_store.Store.{at_key, at_object, Store}
use Rattle.law_words_values.specs.Below.fr_store.Typed.{KeyTypes}
use Rattle.law_words_values.specs.Below.mut_borrow.declared.mutable.MutRef.{MutRef}
use Rattle.law_words_values.specs.Below.thread_state.declared.value.Value.TheVariants as value
use Rattle.law_words_values.specs.Below.server_model.Servers.{Cluster}
use Rattle.law_words_values.specs.Below.coherent_memory.Things.{Location, at_slot, at_temp, in_cell}
use Rattle.law_words_values.specs.Below.coherent_memory.Follow.{Ground, value_in}
use Rattle.law_words_values.specs.Below.coherent_memory.Stale.{Reference, holder_of}
use Rattle.law_words_values.specs.Below.coherent_memory.Sight.{sight}
use Rattle.law_words_values.specs.Below.law_words_paths.paths.Above.{IsMadeFrom}
use Rattle.law_words_values.specs.Below.law_words_paths.paths.HeapStore.{in_store, heap_store, HasPaths}
use Rattle.law_words_values.proofs.Below.law_words_paths.paths.Circles.{made_rank}
use Rattle.law_words_values.proofs.Below.law_words_paths.paths.Contained.{reference_there, held_there}
use Rattle.law_words_values.proofs.Below.law_words_paths.paths.FreshPaths.{flat, holds_there}
use Rattle.law_words_values.specs.references.Fewer.{TypesRank}

same_key : {a b : Key} → at_key a ≡ at_key b → a ≡ b
same_key e = cc

object_no_key : {o : ObjNo} {a : Key} → at_object o ≡ at_key a → ⊥
object_no_key e = absurd cc

module _ (k : Cluster) (c : HasPaths k) where
  abbrev st : Store
  st = heap_store k c.types

  abbrev E : KeyTypes
  E = c.types.typing.exact

  abbrev ground : Ground
  ground = (sight k).ground

  abbrev rank_at : Location → ℕ
  rank_at (at_slot t i) = suc (c.types.typing.rank (slot_k t i))
  rank_at (at_temp t i) = suc (c.types.typing.rank (temp_k t i))
  rank_at (in_cell o) = 0

  -- where it stands at a key
  rank_is : (l : Location) (key : Key) → in_store l ≡ at_key key → rank_at l ≡ suc (c.types.typing.rank key)
  rank_is (at_slot t i) key e = ap (λ a. suc (c.types.typing.rank a)) (same_key e)
  rank_is (at_temp t i) key e = ap (λ a. suc (c.types.typing.rank a)) (same_key e)
  rank_is (in_cell o) key e = absurd (object_no_key e)

  below_key : (h : Location) (key : Key) → IsMadeFrom E st key (in_store h) → rank_at h < suc (c.types.typing.rank key)
  below_key (at_slot t i) key made = let q = made_rank c.types.typing.rank E st c.types.state.typed (flat k c) key (slot_k t i) made in omega (arith, q)
  below_key (at_temp t i) key made = let q = made_rank c.types.typing.rank E st c.types.state.typed (flat k c) key (temp_k t i) made in omega (arith, q)
  below_key (in_cell o) key made = omega arith

  ranks_above : (l h : Location) (r : MutRef) → value_in ground l ≡ Some (value.Mut r) → holder_of ground l r.holder ≡ Some h → rank_at h < rank_at l
  ranks_above l h r e held =
      let q : Reference = record { at = l; holder = holder_of ground l r.holder; reference = r } in
      let m = (holds_there k c q h (reference_there k l r e) (held_there k h (holder_of ground l r.holder) held)).2 in
      let a = rank_is l m.key m.is in
      let b = below_key h m.key m.made in
      omega (arith, a, b)

pub types_rank : TypesRank
types_rank k c = record { rank = rank_at k c; above = ranks_above k c }
