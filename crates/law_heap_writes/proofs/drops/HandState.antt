-- A value in hand goes, and another one may come: what of the plain state stays, and what is left of the node that goes.
use Rattle.std.proofs.Common.{◌≡◌, ℕ, zero, suc, ◌+◌, ◌==◌, ◌&&◌, ◌||◌, not, Bool, true, false, if◌then◌else◌, List, [], ◌∷◌, Option, Some, None, refl, sym, ap, ap₂, ◌∙◌, subst, arith}
use Rattle.std.specs.Prelude.{◌%◌, ◌^◌}
use Rattle.law_words_writes.specs.Below.law_results_reads.Below.fr_base.declared.name.MutexNo.{MutexNo}
use Rattle.law_words_writes.specs.Below.law_results_reads.Below.fr_base.declared.name.ObjNo.{ObjNo}
use Rattle.law_words_writes.specs.Below.law_results_reads.Below.fr_base.declared.label.Plain.{Plain}
use Rattle.law_words_writes.specs.Below.law_results_reads.Below.fr_plain.MachineThreads.{alive, over, owing, loose}
use Rattle.law_words_writes.specs.Below.law_results_reads.Below.fr_code.Machine.{CodeRunning}
use Rattle.law_words_writes.specs.Below.law_results_reads.Below.heap_partition.declared.value.Owned.{Owned}
use Rattle.law_words_writes.specs.Below.law_results_reads.Below.thread_state.View.{ThreadState, is_over}
use Rattle.law_words_writes.specs.Below.law_results_reads.Below.server_model.Servers.{Cluster}
use Rattle.law_words_writes.specs.Below.law_results_reads.Below.coherent_memory.Names.{tot, one, some, if_so}
use Rattle.law_words_writes.specs.Below.law_results_reads.Below.coherent_memory.Things.{in_hand, Thing, holds, stands}
use Rattle.law_words_writes.specs.Below.law_results_reads.Below.coherent_memory.Follow.{Standing, threads_in, thread_at}
use Rattle.law_words_writes.specs.Below.law_results_reads.Below.coherent_memory.Sight.{Sight}
use Rattle.law_words_writes.specs.Below.law_results_reads.Below.coherent_memory.Requests.{home_of}
use Rattle.law_words_writes.specs.Below.law_results_reads.Below.coherent_memory.Naming.{started_at, made_at}
use Rattle.law_words_writes.specs.Below.law_results_reads.Below.coherent_memory.OneHeap.{PlainLife, Node, object_n, mutex_n, task_n, Owner, a_thread, inside, outside, owner_of, owns, names, owner_in, if_in, cell_value, or_else, first_shown, object_value, content_value, share_in, if_there, in_pair_of, is_branch, branch_result, result_value, result_of, ended_with, going_on, running_at, life_of, life_at, made_of, pair_of, is_given_thread, is_given_mutex, if_given, state_of}
use Rattle.law_heap_steps.specs.Below.law_heap_still.events.Shows.{held_branch}
use Rattle.law_heap_steps.proofs.Below.law_heap_still.events.Counting.{both_parts, none_held}
use Rattle.law_heap_steps.proofs.Below.law_heap_still.events.Rounds.{owner_same}
use Rattle.law_words_writes.proofs.Below.law_words_paths.paths.Contained.{among_thread}
use Rattle.law_heap_steps.proofs.mutexes.Beside.{so_one}
use Rattle.law_heap_steps.proofs.mutexes.OneNode.{owned_under}
use Rattle.law_heap_writes.proofs.drops.SameGround as grounds
use Rattle.law_heap_writes.proofs.drops.Under.{owned_by, under_names, node_cases}
use Rattle.law_heap_writes.proofs.drops.InHand as held

pub first_alike : {A : Type 0} (f g : Thing → Option A) → ((th : Thing) → f th ≡ g th) → (xs : List Thing) → first_shown f xs ≡ first_shown g xs
first_alike f g e [] = refl
first_alike f g e (th ∷ xs) = ap₂ or_else (e th) (first_alike f g e xs)

-- what becomes of the thread of a task that goes: it goes on and is let go, or is main, or has ended with that
pub data LetGo (a b : PlainLife) (r : Option Plain) : Type 0 where
  goes_on : (p : CodeRunning) → a ≡ owing p → b ≡ loose p → r ≡ None → LetGo a b r
  is_main : (p : CodeRunning) → a ≡ alive p → b ≡ alive p → r ≡ None → LetGo a b r
  has_result : a ≡ ended_with r → b ≡ over → LetGo a b r

module _ (k : Cluster) (n : ℕ) (y : ThreadState) (B : List Thing) where
  abbrev pub sight_with : Option Owned → Sight
  sight_with c = held.sight_with k n y B c

  abbrev pub things_with : Option Owned → List Thing
  things_with c = held.things_with k n y B c

  abbrev pub In : Option Owned → Node → Bool
  In c = held.In k n y B c

  -- WHAT SEES NO HAND

  module _ (c d : Option Owned) where
    abbrev s : Sight
    s = sight_with c

    abbrev s2 : Sight
    s2 = sight_with d

    first_same : {A : Type 0} (f g : Thing → Option A) → ((v : Owned) → f (holds in_hand v) ≡ None) → ((v : Owned) → g (holds in_hand v) ≡ None) → ((th : Thing) → f th ≡ g th) → first_shown f (things_with c) ≡ first_shown g (things_with d)
    first_same f g e h same = held.first_with k n y B f e c ∙ ap₂ or_else (same (stands n false y)) (first_alike f g same B) ∙ sym (held.first_with k n y B g h d)

    tot_same : (f : Thing → ℕ) → ((v : Owned) → f (holds in_hand v) ≡ 0) → tot f (things_with c) ≡ tot f (things_with d)
    tot_same f e = omega (arith, held.tot_with k n y B f e c, held.tot_with k n y B f e d)

    pub contents_same : (m : MutexNo) → first_shown (content_value s m) (things_with c) ≡ first_shown (content_value s2 m) (things_with d)
    contents_same m = first_same (content_value s m) (content_value s2 m) (λ v. refl) (λ v. refl) (grounds.content_same s s2 refl (held.ground_same k n y B c d) m)

    pub results_same : (u : ℕ) → first_shown (result_value s u) (things_with c) ≡ first_shown (result_value s2 u) (things_with d)
    results_same u = first_same (result_value s u) (result_value s2 u) (λ v. refl) (λ v. refl) (grounds.result_same s s2 refl (held.ground_same k n y B c d) u)

    pub branches_same : (u : ℕ) → first_shown (branch_result u) (things_with c) ≡ first_shown (branch_result u) (things_with d)
    branches_same u = first_same (branch_result u) (branch_result u) (λ v. refl) (λ v. refl) (λ th. refl)

    pub cells_same : (o : ObjNo) → first_shown (cell_value o) (things_with c) ≡ first_shown (cell_value o) (things_with d)
    cells_same o = first_same (cell_value o) (cell_value o) (λ v. refl) (λ v. refl) (λ th. refl)

    pub branch_same : (u : ℕ) → is_branch s u ≡ is_branch s2 u
    branch_same u = ap some (tot_same (in_pair_of u) (λ v. refl))

    pub given_same : (u : ℕ) → is_given_thread s u ≡ is_given_thread s2 u
    given_same u = ap (λ m. u == 0 || (not (u % 2 ^ 32 == 0) && some m)) (tot_same (started_at (home_of u) (u % 2 ^ 32)) (λ v. refl))

    pub mutex_given : (m : MutexNo) → is_given_mutex s m ≡ is_given_mutex s2 m
    mutex_given m = ap (λ i. not (m.count == 0) && some i) (tot_same (made_at m.home m.count) (λ v. refl))

    pub made_same : (u : ℕ) → (state_of s).made u ≡ (state_of s2).made u
    made_same u = ap (λ g. made_of (thread_at g.threads u)) (held.ground_same k n y B c d)

    pub pairs_same : (u : ℕ) → (state_of s).pair u ≡ (state_of s2).pair u
    pairs_same u = ap (λ g. pair_of (thread_at g.threads u)) (held.ground_same k n y B c d)

    -- WHAT IS OF ONE NODE, WHERE THAT IS IN THE STATE AS BEFORE

    pub object_same : (o : ObjNo) → In c (object_n o) ≡ In d (object_n o) → object_value s o ≡ object_value s2 o
    object_same o e = ap₂ if_in e (cells_same o)

    pub mutex_same : (m : MutexNo) → In c (mutex_n m) ≡ In d (mutex_n m) → tot (share_in s m) (things_with c) ≡ tot (share_in s2 m) (things_with d) → (state_of s).mutex m ≡ (state_of s2).mutex m
    mutex_same m e h =
        ap (λ b. if_there b (record { content = first_shown (content_value s m) (things_with c); shares = tot (share_in s m) (things_with c) })) e
        ∙ ap₂ (λ v w. if_there (In d (mutex_n m)) (record { content = v; shares = w })) (contents_same m) h

    module _ (u : ℕ) (e : In c (task_n u) ≡ In d (task_n u)) where
      owed_same : is_branch s u || In c (task_n u) ≡ is_branch s2 u || In d (task_n u)
      owed_same = ap₂ (λ p q. p || q) (branch_same u) e

      result_goes_on : result_of s u ≡ result_of s2 u
      result_goes_on = ap₂ or_else (branches_same u) (ap₂ if_in owed_same (results_same u))

      way_same : (z : ℕ) → z ≡ u → (r : ThreadState) → going_on s z (running_at r) ≡ going_on s2 z (running_at r)
      way_same zero i r = refl
      way_same (suc z) i r =
          let same : is_branch s (suc z) || In c (task_n (suc z)) ≡ is_branch s2 (suc z) || In d (task_n (suc z)) = subst (λ w. is_branch s w || In c (task_n w) ≡ is_branch s2 w || In d (task_n w)) (sym i) owed_same in
          ap (λ q. if not q then loose (running_at r) else owing (running_at r)) same

      life_by : (z : ThreadState) → z.number ≡ u → (q : Bool) → life_of s z q ≡ life_of s2 z q
      life_by z i true = ap (λ m. ended_with (result_of s m)) i ∙ ap ended_with result_goes_on ∙ sym (ap (λ m. ended_with (result_of s2 m)) i)
      life_by z i false = way_same z.number i z

      life_same : (o : Option Standing) → thread_at (threads_in (things_with d)) u ≡ o → life_at s u o ≡ life_at s2 u o
      life_same None f = ap ended_with result_goes_on
      life_same (Some w) f = life_by w.thread (among_thread (threads_in (things_with d)) u w f).1 (is_over w.thread.phase)

      pub thread_same : (state_of s).thread u ≡ (state_of s2).thread u
      thread_same =
          ap₂ if_given (given_same u) (ap (λ g. life_at s u (thread_at g.threads u)) (held.ground_same k n y B c d) ∙ life_same (thread_at (threads_in (things_with d)) u) refl)

  -- SHARES

  module _ (m : MutexNo) where
    pub shares_with : (c : Option Owned) → tot (share_in (sight_with c) m) (things_with c) ≡ owned_under (mutex_n m) c + tot (share_in (sight_with c) m) B
    shares_with None = omega arith
    shares_with (Some v) = omega (arith, so_one (owns (mutex_n m) v))

    -- what the value owns is in the state without it
    module _ (v : Owned) (already : (q : Node) → owns q v ≡ true → In None q ≡ true) where
      shares_stay : (xs : List Thing) → tot (share_in (sight_with (Some v)) m) xs ≡ tot (share_in (sight_with None) m) xs
      shares_stay [] = refl
      shares_stay (th ∷ xs) =
          ap₂ (λ b i. if_so (names (mutex_n m) th) (one b) + i)
          (owner_same (In (Some v)) (In None) (held.stays_in k n y B v already) (owner_of (sight_with (Some v)) th) ∙ ap (owner_in (In None)) (held.owner_alike k n y B (Some v) None th)) (shares_stay xs)

      pub share_less : tot (share_in (sight_with (Some v)) m) (things_with (Some v)) ≡ tot (share_in (sight_with None) m) (things_with None) + one (owns (mutex_n m) v)
      share_less = omega (arith, shares_with (Some v), shares_with None, shares_stay B)

    -- or it owns that node alone, which goes
    module _ (v : Owned) (p : Node) (mine : owns p v ≡ true) (only : (q : Node) → owns q v ≡ true → q ≡ p) (c : Option Owned) (counts : (q : Node) → tot (under_names (sight_with None) p q) B ≡ owned_under q c)
        (alone : held.any_in k n y B (Some v) p ≡ false) where
      owner_goes : (o : Owner) → one (owner_in (In (Some v)) o) ≡ one (owner_in (In c) o) + one (owned_by p o)
      owner_goes a_thread = refl
      owner_goes outside = refl
      owner_goes (inside w) =
          node_cases (λ b. one (In (Some v) w) ≡ one (In c w) + one b) w p
          (λ e. let before : In (Some v) w ≡ true = ap (In (Some v)) e ∙ held.it_in k n y B v p mine only c counts alone in let then_it : In c w ≡ false = ap (In c) e ∙ held.it_goes k n y B v p mine only c counts alone in omega (arith, ap one before, ap one then_it))
          (λ ne. omega (arith, ap one (held.goes_in k n y B v p mine only c counts alone w (off w ne (owns w v) refl))))
        where
          off : (w : Node) → (w ≡ p → ⊥) → (b : Bool) → owns w v ≡ b → owns w v ≡ false
          off w ne true e = absurd (ne (only w e))
          off w ne false e = e

      so_both : (b : Bool) (i j l : ℕ) → i ≡ j + l → if_so b i ≡ if_so b j + if_so b l
      so_both true i j l e = e
      so_both false i j l e = refl

      shares_go : (xs : List Thing) → tot (share_in (sight_with (Some v)) m) xs ≡ tot (share_in (sight_with c) m) xs + tot (under_names (sight_with None) p (mutex_n m)) xs
      shares_go [] = refl
      shares_go (th ∷ xs) =
          let o = owner_of (sight_with None) th in
          let there : owner_in (In (Some v)) (owner_of (sight_with (Some v)) th) ≡ owner_in (In (Some v)) o = ap (owner_in (In (Some v))) (held.owner_alike k n y B (Some v) None th) in
          let then_it : owner_in (In c) (owner_of (sight_with c) th) ≡ owner_in (In c) o = ap (owner_in (In c)) (held.owner_alike k n y B c None th) in
          let b = names (mutex_n m) th in
          omega (
            arith,
            ap (λ z. if_so b (one z)) there,
            ap (λ z. if_so b (one z)) then_it,
            so_both b (one (owner_in (In (Some v)) o)) (one (owner_in (In c) o)) (one (owned_by p o)) (owner_goes o),
            shares_go xs,
          )

      pub share_goes : tot (share_in (sight_with (Some v)) m) (things_with (Some v)) ≡ tot (share_in (sight_with c) m) (things_with c) + one (owns (mutex_n m) v)
      share_goes = omega (arith, shares_with (Some v), shares_with c, shares_go B, counts (mutex_n m))

  -- THE THREAD OF A TASK THAT GOES

  module _ (c d : Option Owned) (u : ℕ) (unheld : tot (held_branch u) (things_with c) ≡ 0) (in_it : In c (task_n u) ≡ true) (out : In d (task_n u) ≡ false)
      (silent : (w : Standing) → thread_at (threads_in (things_with c)) u ≡ Some w → is_over w.thread.phase ≡ false → first_shown (result_value (sight_with c) u) (things_with c) ≡ None) where
    abbrev r : Option Plain
    r = first_shown (result_value (sight_with c) u) (things_with c)

    unpaired : is_branch (sight_with c) u ≡ false
    unpaired = let none : tot (in_pair_of u) (things_with c) ≡ 0 = omega (arith, unheld, both_parts (sight_with c) u (things_with c)) in ap some none

    none_done : first_shown (branch_result u) (things_with c) ≡ None
    none_done = none_held (sight_with c) u (things_with c) unheld

    owed_before : is_branch (sight_with c) u || In c (task_n u) ≡ true
    owed_before = ap₂ (λ p q. p || q) unpaired in_it

    owed_then : is_branch (sight_with d) u || In d (task_n u) ≡ false
    owed_then = ap₂ (λ p q. p || q) (sym (branch_same c d u) ∙ unpaired) out

    result_before : result_of (sight_with c) u ≡ r
    result_before = ap₂ or_else none_done (ap (λ q. if_in q r) owed_before)

    result_then : result_of (sight_with d) u ≡ None
    result_then = ap₂ or_else (sym (branches_same c d u) ∙ none_done) (ap (λ q. if_in q (first_shown (result_value (sight_with d) u) (things_with d))) owed_then)

    -- a thread that goes on
    ways : (z : ℕ) → z ≡ u → (p : CodeRunning) → r ≡ None → LetGo (going_on (sight_with c) z p) (going_on (sight_with d) z p) r
    ways zero e p none = is_main p refl refl none
    ways (suc z) e p none =
        let owed : is_branch (sight_with c) (suc z) || In c (task_n (suc z)) ≡ true = subst (λ w. is_branch (sight_with c) w || In c (task_n w) ≡ true) (sym e) owed_before in
        let free : is_branch (sight_with d) (suc z) || In d (task_n (suc z)) ≡ false = subst (λ w. is_branch (sight_with d) w || In d (task_n w) ≡ false) (sym e) owed_then in
        goes_on p (ap (λ q. if not q then loose p else owing p) owed) (ap (λ q. if not q then loose p else owing p) free) none

    by_phase : (w : ThreadState) → w.number ≡ u → (b : Bool) → (b ≡ false → r ≡ None) → LetGo (life_of (sight_with c) w b) (life_of (sight_with d) w b) r
    by_phase w e true none = has_result (ap (λ m. ended_with (result_of (sight_with c) m)) e ∙ ap ended_with result_before) (ap (λ m. ended_with (result_of (sight_with d) m)) e ∙ ap ended_with result_then)
    by_phase w e false none = ways w.number e (running_at w) (none refl)

    by_standing : (o : Option Standing) → thread_at (threads_in (things_with c)) u ≡ o → LetGo (life_at (sight_with c) u o) (life_at (sight_with d) u o) r
    by_standing None f = has_result (ap ended_with result_before) (ap ended_with result_then)
    by_standing (Some w) f = by_phase w.thread (among_thread (threads_in (things_with c)) u w f).1 (is_over w.thread.phase) (λ q. silent w f q)

    pub is_let_go : LetGo (life_at (sight_with c) u (thread_at (sight_with c).ground.threads u)) (life_at (sight_with d) u (thread_at (sight_with d).ground.threads u)) r
    is_let_go =
        subst (λ g. LetGo (life_at (sight_with c) u (thread_at (sight_with c).ground.threads u)) (life_at (sight_with d) u (thread_at g.threads u)) r) (held.ground_same k n y B c d) (by_standing (thread_at (threads_in (things_with c)) u) refl)
