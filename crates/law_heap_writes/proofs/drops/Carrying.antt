-- A value that is to be dropped, in hand: what is known of it and of the others, and that the same is known of what comes to the hand next.
use Rattle.std.proofs.Common.{◌≡◌, ℕ, ◌<◌, ◌≤◌, Bool, true, false, List, [], ◌∷◌, Option, Some, None, option_map, ap, ◌∙◌, arith}
use Rattle.law_words_writes.specs.Below.law_results_reads.Below.fr_plain.PlainState.{SameState, plain_state}
use Rattle.law_words_writes.specs.Below.law_results_reads.Below.fr_code.Machine.{CodeWhole}
use Rattle.law_words_writes.specs.Below.law_results_reads.Below.heap_partition.Plain.{plain_of}
use Rattle.law_words_writes.specs.Below.law_results_reads.Below.heap_partition.declared.value.Owned.{Owned}
use Rattle.law_words_writes.specs.Below.law_results_reads.Below.thread_state.View.{ThreadState, is_over as thread_over}
use Rattle.law_words_writes.specs.Below.law_results_reads.Below.server_model.Servers.{Cluster}
use Rattle.law_words_writes.specs.Below.law_results_reads.Below.coherent_memory.Names.{tot, one, if_so}
use Rattle.law_words_writes.specs.Below.law_results_reads.Below.coherent_memory.Things.{Thing}
use Rattle.law_words_writes.specs.Below.law_results_reads.Below.coherent_memory.Follow.{Standing, threads_in, thread_at as standing_at}
use Rattle.law_words_writes.specs.Below.law_results_reads.Below.coherent_memory.Sight.{Sight}
use Rattle.law_words_writes.specs.Below.law_results_reads.Below.coherent_memory.OneHeap.{Node, object_n, mutex_n, task_n, owner_of, owns, names, first_shown, result_value, is_given_thread, state_of}
use Rattle.law_heap_steps.specs.Below.law_heap_still.events.Shows.{held_branch}
use Rattle.law_heap_steps.proofs.Below.law_heap_still.events.Counting.{stray}
use Rattle.law_heap_steps.proofs.mutexes.OneNode.{owned_under}
use Rattle.law_heap_writes.proofs.drops.Under.{owned_by, under, stands_under, under_names, shown_by, under_counts, first_under}
use Rattle.law_heap_writes.proofs.drops.InHand as held
use Rattle.law_heap_writes.proofs.drops.InHand.{named_by_none}

-- objects and tasks have one owner
abbrev pub is_sole : Node → Bool
is_sole (object_n o) = true
is_sole (mutex_n m) = false
is_sole (task_n u) = true

few_named : (s : Sight) (p q : Node) (xs : List Thing) → tot (under_names s p q) xs ≤ tot (λ th. one (names q th)) xs
few_named s p q [] = omega arith
few_named s p q (th ∷ xs) = omega (arith, by (names q th) (owned_by p (owner_of s th)), few_named s p q xs)
  where
    by : (b c : Bool) → if_so b (one c) ≤ one b
    by false c = omega arith
    by true true = omega arith
    by true false = omega arith

module _ (k : Cluster) (n : ℕ) (y : ThreadState) (B : List Thing) where
  abbrev sight_with : Option Owned → Sight
  sight_with c = held.sight_with k n y B c

  abbrev things_with : Option Owned → List Thing
  things_with c = held.things_with k n y B c

  abbrev In : Option Owned → Node → Bool
  In c = held.In k n y B c

  -- a thread whose task is owned: its name was given, and it is no branch of a pair
  pub record KnownTask (u : ℕ) : Type 0 where
    pub given : is_given_thread (sight_with None) u ≡ true
    pub unheld : tot (held_branch u) (things_with None) ≡ 0

  -- what is known of the others
  pub record Others : Type 0 where
    pub once : (q : Node) → tot (stands_under (sight_with None) q) B ≤ 1
    pub unstray : tot (stray (sight_with None)) B ≡ 0
    pub sole : (q : Node) → is_sole q ≡ true → tot (λ th. one (names q th)) B ≤ 1
    pub known : (u : ℕ) → 1 ≤ tot (λ th. one (names (task_n u) th)) B → KnownTask u
    -- of a thread that isn't over no result is shown
    pub silent : (u : ℕ) (w : Standing) → standing_at (threads_in (things_with None)) u ≡ Some w → thread_over w.thread.phase ≡ false → first_shown (result_value (sight_with None) u) (things_with None) ≡ None
    -- none owns itself, directly or through others
    pub rank : Node → ℕ
    pub falls : (p q : Node) → 1 ≤ tot (under_names (sight_with None) p q) B → rank q < rank p

  abbrev pub Shows : CodeWhole → Option Owned → Type 0
  Shows w c = SameState (plain_state w) (state_of (sight_with c))

  -- the plain machine is where that value is in hand, and nobody else in the state has what has one owner
  pub record Carries (w : CodeWhole) (v : Owned) : Type 0 where
    pub same : Shows w (Some v)
    pub alone : (q : Node) → is_sole q ≡ true → owns q v ≡ true → held.any_in k n y B (Some v) q ≡ false
    pub known : (u : ℕ) → owns (task_n u) v ≡ true → KnownTask u

  module _ (others : Others) where
    -- WHAT COMES TO THE HAND

    pub counted : (p q : Node) (c : Option Owned) → under (sight_with None) p B ≡ c → tot (under_names (sight_with None) p q) B ≡ owned_under q c
    counted p q c e = under_counts (sight_with None) p q B (others.once p) ∙ ap (owned_under q) e

    module _ (v : Owned) (p : Node) (mine : owns p v ≡ true) (only : (q : Node) → owns q v ≡ true → q ≡ p) (alone : held.any_in k n y B (Some v) p ≡ false) where
      pub comes : (c : Owned) → under (sight_with None) p B ≡ Some c → (w : CodeWhole) → Shows w (Some c) → Carries w c
      comes c e w same = record {
        same = same;
        alone = λ q sole it.
            named_by_none (sight_with None) (In (Some c)) p q B (others.sole q sole) (omega (arith, counted p q (Some c) e, ap one it)) (held.it_goes k n y B v p mine only (Some c) (λ z. counted p z (Some c) e) alone);
        known = λ u it. others.known u (omega (arith, counted p (task_n u) (Some c) e, ap one it, few_named (sight_with None) p (task_n u) B));
      }

    -- what is shown first of a node
    pub first_is : (q : Node) → first_shown (shown_by (sight_with None) q) B ≡ option_map plain_of (under (sight_with None) q B)
    first_is q = first_under (sight_with None) q B others.unstray
