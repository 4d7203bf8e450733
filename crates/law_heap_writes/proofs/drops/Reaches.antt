-- A value in hand whose names are of fewer levels than a node, as is what stands under each of these: it doesn't lead to the node.
use Rattle.std.proofs.Common.{◌≡◌, ◌⊎◌, inl, inr, ℕ, ◌<◌, ◌≤◌, ◌||◌, Bool, true, false, List, Option, Some, None, refl, arith}
use Rattle.std.specs.Prelude.{nat_lt}
use Rattle.std.proofs.lemmas.Bool.Decides.{nat_tests}
use Rattle.law_words_writes.specs.Below.law_results_reads.Below.heap_partition.declared.value.Owned.{Owned}
use Rattle.law_words_writes.specs.Below.law_results_reads.Below.thread_state.View.{ThreadState}
use Rattle.law_words_writes.specs.Below.law_results_reads.Below.server_model.Servers.{Cluster}
use Rattle.law_words_writes.specs.Below.law_results_reads.Below.coherent_memory.Names.{tot, one}
use Rattle.law_words_writes.specs.Below.law_results_reads.Below.coherent_memory.Things.{Thing}
use Rattle.law_words_writes.specs.Below.law_results_reads.Below.coherent_memory.OneHeap.{Node, owns, any_named}
use Rattle.law_heap_steps.proofs.mutexes.Reach.{or_cases, or_left, or_right}
use Rattle.law_heap_writes.proofs.drops.Under.{under_names}
use Rattle.law_heap_writes.proofs.drops.InHand as held
use Rattle.law_heap_writes.proofs.drops.InHand.{named_there, named_whence}

module _ (k : Cluster) (n : ℕ) (y : ThreadState) (B : List Thing) (v : Owned) (p : Node) (lev : Node → ℕ) (here : (q : Node) → owns q v ≡ true → lev q < lev p) (falls : (w q : Node) → 1 ≤ tot (under_names (held.sight_with k n y B None) w q) B → lev q < lev w) where
  abbrev In : Option Owned → Node → Bool
  In c = held.In k n y B c

  abbrev low : Node → Bool
  low q = nat_lt (lev q) (lev p)

  abbrev reached : Node → Bool
  reached q = In None q || low q

  is_low : (q : Node) → lev q < lev p → low q ≡ true
  is_low q l = grind (arith, nat_tests, l)

  low_less : (q : Node) → low q ≡ true → lev q < lev p
  low_less q e = grind (arith, nat_tests, e)

  reaches : (q : Node) → In (Some v) q ≡ true → reached q ≡ true
  reaches =
      held.least_with k n y B (Some v) reached (λ q l. or_right (In None q) (low q) (is_low q (here q (of (owns q v) l)))) (λ q e. by q (named_whence (held.sight_with k n y B None) (In None) reached q B e))
    where
      of : (b : Bool) → 1 ≤ one b → b ≡ true
      of true l = refl
      of false l = absurd (omega (arith, l))

      by : (q : Node) → (any_named (held.sight_with k n y B None) (In None) q B ≡ true) ⊎ ((z : Node) × ((reached z ≡ true) × (1 ≤ tot (under_names (held.sight_with k n y B None) z q) B))) → reached q ≡ true
      by q (inl d) = or_left (In None q) (low q) (held.rest_in k n y B None q d)
      by q (inr l) =
          or_cases (In None l.0) (low l.0) (reached q ≡ true) (λ d. or_left (In None q) (low q) (held.rest_in k n y B None q (named_there (held.sight_with k n y B None) (In None) l.0 q B l.1.1 d)))
          (λ d. let a = low_less l.0 d in let b = falls l.0 q l.1.1 in or_right (In None q) (low q) (is_low q (omega (arith, a, b)))) l.1.0

  -- where the node is in the state with the value, it is so without it
  pub still_in : In (Some v) p ≡ true → In None p ≡ true
  still_in e = or_cases (In None p) (low p) (In None p ≡ true) (λ d. d) (λ d. let l = low_less p d in absurd (omega (arith, l))) (reaches p e)
