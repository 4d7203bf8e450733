-- A content or a result that stands beside a thread's things, of a mutex or a thread that isn't in the state: the plain state is as without it.
use Rattle.std.proofs.Common.{◌≡◌, ℕ, zero, suc, ◌+◌, ◌==◌, ◌&&◌, ◌||◌, not, Bool, true, false, if◌then◌else◌, List, [], ◌∷◌, Option, Some, None, refl, sym, ap, ap₂, ◌∙◌, arith}
use Rattle.std.specs.Prelude.{◌%◌, ◌^◌}
use Rattle.law_words_writes.specs.Below.law_results_reads.Below.fr_base.declared.name.MutexNo.{MutexNo}
use Rattle.law_words_writes.specs.Below.law_results_reads.Below.fr_plain.MachineThreads.{owing, loose}
use Rattle.law_words_writes.specs.Below.law_results_reads.Below.fr_plain.PlainState.{SameState}
use Rattle.law_words_writes.specs.Below.law_results_reads.Below.heap_partition.declared.value.Owned.{Owned}
use Rattle.law_words_writes.specs.Below.law_results_reads.Below.thread_state.View.{ThreadState, is_over}
use Rattle.law_words_writes.specs.Below.law_results_reads.Below.server_model.Servers.{Rest, Cluster}
use Rattle.law_words_writes.specs.Below.law_results_reads.Below.coherent_memory.Names.{tot, one, some, if_so}
use Rattle.law_words_writes.specs.Below.law_results_reads.Below.coherent_memory.Things.{Spot, Thing, holds, stands}
use Rattle.law_words_writes.specs.Below.law_results_reads.Below.coherent_memory.Follow.{Standing, thread_at}
use Rattle.law_words_writes.specs.Below.law_results_reads.Below.coherent_memory.Sight.{Sight, with_things}
use Rattle.law_words_writes.specs.Below.law_results_reads.Below.coherent_memory.Requests.{home_of}
use Rattle.law_words_writes.specs.Below.law_results_reads.Below.coherent_memory.Naming.{started_at, made_at}
use Rattle.law_words_writes.specs.Below.law_results_reads.Below.coherent_memory.OneHeap.{Node, object_n, mutex_n, task_n, inside, spot_owner, owner_of, owns, names, owner_in, named_in, any_named, is_in_state, if_in, cell_value, or_else, first_shown, content_value, share_in, if_there, in_pair_of, is_branch, branch_result, result_value, result_of, ended_with, going_on, running_at, life_of, life_at, is_given_thread, is_given_mutex, if_given, state_of}
use Rattle.law_words_writes.proofs.Below.law_results_reads.Below.law_counts_sums.Bags.{counts_of}
use Rattle.law_heap_steps.proofs.Below.law_heap_still.events.Rounds.{owner_same}
use Rattle.law_heap_steps.proofs.mutexes.Reach.{or_cases, or_right, closes, least}
use Rattle.law_heap_writes.proofs.drops.SameGround as grounds
use Rattle.law_heap_writes.proofs.drops.Under.{none_so}
use Rattle.law_heap_writes.proofs.drops.HandState.{first_alike}

module _ (k : Cluster) (n : ℕ) (y : ThreadState) (r : Rest) (C : List Thing) (p : Spot) (z : Node) (v : Owned) where
  abbrev pub without : List Thing
  without = stands n false y ∷ counts_of n 0 r ∷ C

  abbrev pub beside : List Thing
  beside = stands n false y ∷ counts_of n 0 r ∷ holds p v ∷ C

  abbrev s : Sight
  s = with_things k without

  abbrev s2 : Sight
  s2 = with_things k beside

  abbrev In : Node → Bool
  In = is_in_state s

  abbrev In2 : Node → Bool
  In2 = is_in_state s2

  -- what is in the state without it is in it
  pub more : (q : Node) → In q ≡ true → In2 q ≡ true
  more = least s In2 (λ q d. closes s2 q (or_right (named_in (owns q v) In2 (spot_owner s2 p)) (any_named s2 In2 q C) (sym (grounds.any_same s s2 refl refl In2 q C) ∙ d)))

  -- where it stands under a node that isn't in the state of the others, as that of each mutex and thread for which it shows something
  module _ (its : spot_owner s2 p ≡ inside z) (off : In z ≡ false) (contents_off : (w : MutexNo) → In (mutex_n w) ≡ true → content_value s2 w (holds p v) ≡ None)
      (results_off : (u : ℕ) → is_branch s u || In (task_n u) ≡ true → result_value s2 u (holds p v) ≡ None) where
    not_named : (q : Node) → named_in (owns q v) In (spot_owner s2 p) ≡ true → ⊥
    not_named q d = by (owns q v) (ap (named_in (owns q v) In) (sym its) ∙ d)
      where
        by : (b : Bool) → named_in b In (inside z) ≡ true → ⊥
        by true d = cc (sym d ∙ off)
        by false d = cc d

    less : (q : Node) → In2 q ≡ true → In q ≡ true
    less =
        least s2 In (λ q d. or_cases (named_in (owns q v) In (spot_owner s2 p)) (any_named s2 In q C) (In q ≡ true) (λ u. absurd (not_named q u)) (λ u. closes s q (grounds.any_same s s2 refl refl In q C ∙ u)) d)

    same_in : (q : Node) → In q ≡ In2 q
    same_in q = by (In q) refl (In2 q) refl
      where
        by : (a : Bool) → In q ≡ a → (b : Bool) → In2 q ≡ b → In q ≡ In2 q
        by true e true f = e ∙ sym f
        by false e false f = e ∙ sym f
        by true e false f = absurd (cc (sym f ∙ more q e))
        by false e true f = absurd (cc (sym e ∙ less q f))

    -- SHARES AND CONTENTS

    shares_alike : (w : MutexNo) (xs : List Thing) → tot (share_in s w) xs ≡ tot (share_in s2 w) xs
    shares_alike w [] = refl
    shares_alike w (th ∷ xs) =
        ap₂ (λ b i. if_so (names (mutex_n w) th) (one b) + i) (owner_same In In2 same_in (owner_of s th) ∙ ap (owner_in In2) (grounds.owner_same s s2 refl refl th)) (shares_alike w xs)

    shares : (w : MutexNo) → tot (share_in s w) without ≡ tot (share_in s2 w) beside
    shares w =
        let none : if_so (owns (mutex_n w) v) (one (owner_in In2 (spot_owner s2 p))) ≡ 0 = ap (λ o. if_so (owns (mutex_n w) v) (one (owner_in In2 o))) its ∙ ap (λ b. if_so (owns (mutex_n w) v) (one b)) (sym (same_in z) ∙ off) ∙ none_so (owns (mutex_n w) v) in
        omega (arith, none, shares_alike w C)

    contents : (w : MutexNo) → In (mutex_n w) ≡ true → first_shown (content_value s w) without ≡ first_shown (content_value s2 w) beside
    contents w there =
        first_alike (content_value s w) (content_value s2 w) (grounds.content_same s s2 refl refl w) C ∙ sym (ap (λ o. or_else o (first_shown (content_value s2 w) C)) (contents_off w there))

    mutex_same : (w : MutexNo) → (state_of s).mutex w ≡ (state_of s2).mutex w
    mutex_same w = by (In (mutex_n w)) refl
      where
        by : (b : Bool) → In (mutex_n w) ≡ b → (state_of s).mutex w ≡ (state_of s2).mutex w
        by true e =
            ap (λ b. if_there b (record { content = first_shown (content_value s w) without; shares = tot (share_in s w) without })) (same_in (mutex_n w))
            ∙ ap₂ (λ c i. if_there (In2 (mutex_n w)) (record { content = c; shares = i })) (contents w e) (shares w)
        by false e =
            ap (λ b. if_there b (record { content = first_shown (content_value s w) without; shares = tot (share_in s w) without })) e
            ∙ sym (ap (λ b. if_there b (record { content = first_shown (content_value s2 w) beside; shares = tot (share_in s2 w) beside })) (sym (same_in (mutex_n w)) ∙ e))

    -- THREADS

    owed_same : (u : ℕ) → is_branch s u || In (task_n u) ≡ is_branch s2 u || In2 (task_n u)
    owed_same u = let pairs : tot (in_pair_of u) without ≡ tot (in_pair_of u) beside = omega arith in ap₂ (λ p q. p || q) (ap some pairs) (same_in (task_n u))

    result_same : (u : ℕ) → result_of s u ≡ result_of s2 u
    result_same u = ap (or_else (first_shown (branch_result u) without)) (by (is_branch s u || In (task_n u)) refl)
      where
        values : first_shown (result_value s u) C ≡ first_shown (result_value s2 u) C
        values = first_alike (result_value s u) (result_value s2 u) (grounds.result_same s s2 refl refl u) C

        by : (b : Bool) → is_branch s u || In (task_n u) ≡ b → if_in (is_branch s u || In (task_n u)) (first_shown (result_value s u) without) ≡ if_in (is_branch s2 u || In2 (task_n u)) (first_shown (result_value s2 u) beside)
        by true e = ap₂ if_in (owed_same u) (values ∙ sym (ap (λ o. or_else o (first_shown (result_value s2 u) C)) (results_off u e)))
        by false e = ap (λ b. if_in b (first_shown (result_value s u) without)) e ∙ sym (ap (λ b. if_in b (first_shown (result_value s2 u) beside)) (sym (owed_same u) ∙ e))

    way_same : (u : ℕ) (x : ThreadState) → going_on s u (running_at x) ≡ going_on s2 u (running_at x)
    way_same zero x = refl
    way_same (suc u) x = ap (λ q. if not q then loose (running_at x) else owing (running_at x)) (owed_same (suc u))

    life_by : (x : ThreadState) (q : Bool) → life_of s x q ≡ life_of s2 x q
    life_by x true = ap ended_with (result_same x.number)
    life_by x false = way_same x.number x

    life_same : (u : ℕ) (o : Option Standing) → life_at s u o ≡ life_at s2 u o
    life_same u None = ap ended_with (result_same u)
    life_same u (Some w) = life_by w.thread (is_over w.thread.phase)

    given_same : (u : ℕ) → is_given_thread s u ≡ is_given_thread s2 u
    given_same u =
        let h = home_of u in
        let c = u % 2 ^ 32 in
        let starts : tot (started_at h c) without ≡ tot (started_at h c) beside = omega arith in ap (λ i. u == 0 || (not (c == 0) && some i)) starts

    mutex_given : (w : MutexNo) → is_given_mutex s w ≡ is_given_mutex s2 w
    mutex_given w = let makes : tot (made_at w.home w.count) without ≡ tot (made_at w.home w.count) beside = omega arith in ap (λ i. not (w.count == 0) && some i) makes

    pub same_beside : SameState (state_of s) (state_of s2)
    same_beside = record {
      threads = λ u. ap₂ if_given (given_same u) (life_same u (thread_at s.ground.threads u));
      made = λ u. refl;
      pairs = λ u. refl;
      objects = λ o. ap (λ b. if_in b (first_shown (cell_value o) without)) (same_in (object_n o));
      mutexes = mutex_same;
      given = mutex_given;
    }
