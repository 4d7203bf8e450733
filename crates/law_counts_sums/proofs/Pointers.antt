-- A pointer gets another word, wherever it stands: in a slot, on top of the temporary values, in a cell that lies here.
use Rattle.std.proofs.Common.{◌≡◌, ℕ, List, [], ◌∷◌, ◌++◌, Some, refl, subst}
use Rattle.coherent_memory.specs.Below.heap_partition.declared.value.Owned.TheVariants as owned
use Rattle.coherent_memory.specs.Below.mut_borrow.declared.mutable.MutRef.{MutRef}
use Rattle.coherent_memory.specs.Below.thread_state.declared.value.Value.{Value}
use Rattle.coherent_memory.specs.Below.thread_state.declared.value.Value.TheVariants as value
use Rattle.coherent_memory.specs.Below.server_model.Work.{Hand}
use Rattle.coherent_memory.specs.Below.server_model.Places.{Spot, value_at, with_word, took, set_pointer}
use Rattle.coherent_memory.specs.Things.{Thing, Location, holds, borrows, value_things}
use Rattle.coherent_memory.specs.Things as things
use Rattle.law_counts_sums.specs.Laws.{Gives}
use Rattle.law_counts_sums.proofs.Trades.{trade_none}
use Rattle.law_counts_sums.proofs.Rules.{Rule, comes, goes, recolours, in_turn, Kept}
use Rattle.law_counts_sums.proofs.Results.{then_gives}
use Rattle.law_counts_sums.proofs.Bags.{HandOk}
use Rattle.law_counts_sums.proofs.Values.{puts_at}

some_same : {a b : Value} → Some a ≡ Some b → a ≡ b
some_same e = cc

-- a mutable reference changes
pub other_borrow : (l : Location) (r q : MutRef) → Rule (borrows l r ∷ []) (borrows l q ∷ [])
other_borrow l r q = in_turn (goes (borrows l r) refl) (comes (borrows l q) refl)

worded_rule : (n w : ℕ) (v new : Value) → with_word w v ≡ Some new → (p : things.Spot) (l : Location) → Rule (value_things n p l v ++ []) (value_things n p l new ++ [])
worded_rule n w (value.Own (owned.Box b)) new e p l = subst (λ x. Rule (holds p (owned.Box b) ∷ []) (value_things n p l x ++ [])) (some_same e) (recolours p b w)
worded_rule n w (value.Mut r) new e p l = subst (λ x. Rule (borrows l r ∷ []) (value_things n p l x ++ [])) (some_same e) (other_borrow l r (took r w))
worded_rule n w v new e p l = absurd (cc e)

module _ {K : List Thing → Type 0} (k : Kept K) (n e t : ℕ) where
  pub sets_pointer : (others : List Thing) (s : Spot) (w : ℕ) (h : Hand) → HandOk K n e t others h → Gives (HandOk K n e t others) (set_pointer s w h)
  sets_pointer others s w h g =
      then_gives (HandOk K n e t others) (value_at h s) _ (λ v q. then_gives (HandOk K n e t others) (with_word w v) _ (λ new q2.
      puts_at k n e t s v new h q (trade_none others) (worded_rule n w v new q2) g))
