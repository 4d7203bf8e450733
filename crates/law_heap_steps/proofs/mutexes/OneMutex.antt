-- A thread's turn in which a value goes into a mutex, or comes out of it, or a share of the mutex is new: what is as it was.
use Rattle.std.proofs.Common.{◌≡◌, ◌≢◌, ℕ, ◌+◌, ◌≤◌, Bool, true, false, List, [], ◌∷◌, Option, Some, None, is_some, refl, sym, ap, ap₂, ◌∙◌, arith}
use Rattle.std.specs.List.{AllByRecursion}
use Rattle.law_heap_steps.specs.Below.fr_base.declared.name.MutexNo.{MutexNo}
use Rattle.law_heap_steps.specs.Below.fr_base.declared.name.ObjNo.{ObjNo}
use Rattle.law_heap_steps.specs.Below.heap_partition.declared.value.Owned.{Owned}
use Rattle.law_heap_steps.specs.Below.heap_partition.declared.value.Owned.TheVariants as owned
use Rattle.law_heap_steps.specs.Below.thread_state.View.{ThreadState}
use Rattle.law_heap_steps.specs.Below.thread_state.declared.value.Value.{Value}
use Rattle.law_heap_steps.specs.Below.server_model.Servers.{Cluster}
use Rattle.law_heap_steps.specs.Below.coherent_memory.Names.{tot, one, same_mutex}
use Rattle.law_heap_steps.specs.Below.coherent_memory.Things.{Thing, noted, lies, flies}
use Rattle.law_heap_steps.specs.Below.fr_base.declared.label.Plain.{Plain}
use Rattle.law_heap_steps.specs.Below.fr_plain.MachineThreads.{Shared}
use Rattle.law_heap_steps.specs.Below.coherent_memory.Naming.{started_at}
use Rattle.law_heap_steps.specs.Below.coherent_memory.Sight.{Sight}
use Rattle.law_heap_steps.specs.Below.coherent_memory.OneHeap.{Node, object_n, mutex_n, task_n, owns, any_named, is_in_state, cell_value, or_else, first_shown, object_value, content_value, share_in, if_there, in_pair_of, result_value, running_at, is_given_thread, state_of}
use Rattle.law_heap_steps.proofs.Below.law_heap_still.events.Alike.{Once}
use Rattle.law_heap_steps.proofs.Below.law_heap_still.events.Counting.{shown_result}
use Rattle.law_heap_steps.proofs.Below.law_heap_still.events.Told.{told, ones}
use Rattle.law_plain_values.proofs.acts.Mutexes.{mutex_cases}
use Rattle.law_heap_steps.proofs.Below.coherent_memory.Names.{same_mutexes}
use Rattle.law_heap_steps.proofs.turns.Parts.{Own, owned_in}
use Rattle.law_heap_steps.proofs.turns.OneTurn.{of_thread, Calm, after}
use Rattle.law_heap_steps.proofs.mutexes.Reach.{NoneUnder, with_extra}
use Rattle.law_heap_steps.proofs.mutexes.Beside.{IsBeside, IsLoose, loose_beside, all_so, tot_of, cells_of}
use Rattle.law_heap_steps.proofs.mutexes.OneNode as one_node
use Rattle.law_heap_steps.proofs.mutexes.OneNode.{named_under, owned_under}
use Rattle.law_heap_steps.proofs.mutexes.OneThread as one_thread
use Rattle.law_heap_steps.proofs.mutexes.OneThread.{GoesOn, y, a, b, s, s2, LocksStay, same_but, locks_stay, same_owners}

-- a new value of the mutex
abbrev pub new_share : Bool → Node → MutexNo → ℕ
new_share false q m = 0
new_share true q m = one (owns q (owned.Mutex m))

-- a mutex that is there
abbrev pub shared_as : Option Plain → ℕ → Option Shared
shared_as content shares = Some (record { content = content; shares = shares })

module _ (k : Cluster) (R G G2 : List Thing) (n : ℕ) (x : ThreadState) (pc : ℕ) (slots temps : List Value) (calm : Calm x.phase) (loose : AllByRecursion IsLoose G) (loose2 : AllByRecursion IsLoose G2) (lone : tot (of_thread x.number) R ≡ 0) where
  abbrev z0 : ThreadState
  z0 = after x pc slots temps

  abbrev y1 : ThreadState
  y1 = y k R G G2 n x z0

  abbrev In : Node → Bool
  In = is_in_state (s k R G G2 n x z0)

  abbrev In2 : Node → Bool
  In2 = is_in_state (s2 k R G G2 n x z0)

  abbrev calm0 : Calm z0.phase
  calm0 = record { alone = refl; goes = refl }

  pub beside : AllByRecursion IsBeside G
  beside = all_so IsLoose IsBeside loose_beside G loose

  pub beside2 : AllByRecursion IsBeside G2
  beside2 = all_so IsLoose IsBeside loose_beside G2 loose2

  pub locks : LocksStay k R G G2 n x z0
  locks = locks_stay k R G G2 n x z0 beside beside2 lone (cells_of n x G R loose ∙ sym (cells_of n y1 G2 R loose2))

  abbrev own : Node → ℕ
  own q = owned_in q x.slots + owned_in q x.temps

  abbrev own2 : Node → ℕ
  own2 q = owned_in q slots + owned_in q temps

  -- what the thread has is in the state
  pub has2 : (q : Node) → 1 ≤ own2 q → In2 q ≡ true
  has2 = one_node.has2 k R G G2 n x z0

  loose_cells : (o : ObjNo) (xs : List Thing) → AllByRecursion IsLoose xs → tot (λ v. told ones (cell_value o v)) xs ≡ 0
  loose_cells o [] h = refl
  loose_cells o (th ∷ xs) h = omega (arith, by th h.0, loose_cells o xs h.1)
    where
      by : (th : Thing) → IsLoose th → told ones (cell_value o th) ≡ 0
      by (lies r i c) l = absurd l
      by (flies w c) l = absurd l
      by _ l = refl

  -- so is how many objects each thread has made
  pub made_stays : (u : ℕ) → (state_of (s k R G G2 n x z0)).made u ≡ (state_of (s2 k R G G2 n x z0)).made u
  made_stays = one_thread.made_same k R G G2 n x z0 beside beside2 lone locks calm.goes refl refl

  -- what is shown once stays so, whoever is in the state
  pub once_then : Once (s k R G G2 n x z0)
      → ((w : MutexNo) → tot (λ v. told ones (content_value (s2 k R G G2 n x z0) w v)) G2 + tot (λ v. told ones (content_value (s k R G G2 n x z0) w v)) R ≤ 1)
      → ((r : ℕ) → tot (λ v. told ones (shown_result (s2 k R G G2 n x z0) r v)) G2 ≡ 0) → Once (s2 k R G G2 n x z0)
  once_then once few ends =
      one_thread.once_on k R G G2 n x z0 beside beside2 lone locks calm (λ r. refl) refl once cells few (λ r. omega (arith, ends r))
    where
      cells : (o : ObjNo) → tot (λ v. told ones (cell_value o v)) G2 + tot (λ v. told ones (cell_value o v)) R ≤ 1
      cells o =
          let flat : Own (λ v. told ones (cell_value o v) ≡ 0) = record { slots = λ w i v. refl; temps = λ w i v. refl; shared = λ l w. refl; lent = λ l w. refl; marks = λ l w. refl; used = λ w v. refl } in
          omega (arith, loose_cells o G2 loose2, once.cells o, tot_of n x G R (λ v. told ones (cell_value o v)) flat)

  module _ (m : MutexNo) (under under2 : Option Owned) (fresh : Bool) (even : (q : Node) → own q + owned_under q under + new_share fresh q m ≡ own2 q + owned_under q under2)
      (named : (f : Node → Bool) (q : Node) → any_named (s k R G G2 n x z0) f q G ≡ named_under f q (mutex_n m) under) (named2 : (f : Node → Bool) (q : Node) → any_named (s2 k R G G2 n x z0) f q G2 ≡ named_under f q (mutex_n m) under2)
      (inside_it : is_some under ≡ true → In (mutex_n m) ≡ true) (inside_then : is_some under2 ≡ true → In2 (mutex_n m) ≡ true)
      (extra : Node → Bool) (new_in : fresh ≡ true → with_extra In extra (mutex_n m) ≡ true) (extra_in : (q : Node) → extra q ≡ true → In2 q ≡ true) (none : NoneUnder (s k R G G2 n x z0) extra R) where
    abbrev F : Node → Bool
    F = with_extra In extra

    is_new : (q : Node) → 1 ≤ new_share fresh q m → F q ≡ true
    is_new q l = by fresh refl l
      where
        of : (q : Node) → 1 ≤ one (owns q (owned.Mutex m)) → F (mutex_n m) ≡ true → F q ≡ true
        of (object_n o) l e = absurd (omega (arith, l))
        of (task_n u) l e = absurd (omega (arith, l))
        of (mutex_n w) l e = is_it (same_mutex m w) refl l
          where
            is_it : (c : Bool) → same_mutex m w ≡ c → 1 ≤ one c → F (mutex_n w) ≡ true
            is_it true d l = ap (λ v. F (mutex_n v)) (sym (same_mutexes m w d)) ∙ e
            is_it false d l = absurd (omega (arith, l))

        by : (b : Bool) → fresh ≡ b → 1 ≤ new_share b q m → F q ≡ true
        by true e d = of q d (new_in e)
        by false e d = absurd (omega (arith, d))

    -- who is in the state afterwards
    pub in_then : (q : Node) → In2 q ≡ F q
    in_then = one_node.in_then k R G G2 n x z0 beside beside2 lone locks (mutex_n m) under under2 (λ q. new_share fresh q m) (λ q. 0) (λ q. (let l = even q in omega (arith, l))) named named2 inside_it inside_then extra is_new (λ q l. absurd (omega (arith, l))) extra_in none

    in_same : (q : Node) → extra q ≡ false → In q ≡ In2 q
    in_same = same_but In In2 extra in_then

    -- WHAT IS AS IT WAS

    abbrev s_now : Sight
    s_now = s k R G G2 n x z0

    abbrev s_then : Sight
    s_then = s2 k R G G2 n x z0

    loose_apart : (r : ℕ) (xs : List Thing) → AllByRecursion IsLoose xs → tot (in_pair_of r) xs ≡ 0
    loose_apart r [] h = refl
    loose_apart r (th ∷ xs) h = omega (arith, by th h.0, loose_apart r xs h.1)
      where
        by : (th : Thing) → IsLoose th → in_pair_of r th ≡ 0
        by (noted q z) l = absurd l
        by _ l = refl

    loose_objects : (o : ObjNo) (xs : List Thing) → AllByRecursion IsLoose xs → first_shown (cell_value o) xs ≡ None
    loose_objects o [] h = refl
    loose_objects o (th ∷ xs) h = ap₂ or_else (by th h.0) (loose_objects o xs h.1)
      where
        by : (th : Thing) → IsLoose th → cell_value o th ≡ None
        by (lies r i c) l = absurd l
        by (flies w c) l = absurd l
        by _ l = refl

    module _ (no_task : (u : ℕ) → extra (task_n u) ≡ false) (no_object : (o : ObjNo) → extra (object_n o) ≡ false) (no_other : (w : MutexNo) → w ≢ m → extra (mutex_n w) ≡ false)
        (results : (r : ℕ) → first_shown (result_value s_now r) G ≡ first_shown (result_value s_then r) G2) (started : (h c : ℕ) → tot (started_at h c) G ≡ tot (started_at h c) G2)
        (shares1 : (w : MutexNo) → tot (share_in s_now w) G ≡ owned_under (mutex_n w) under) (shares2 : (w : MutexNo) → tot (share_in s_then w) G2 ≡ owned_under (mutex_n w) under2)
        (contents : (w : MutexNo) → w ≢ m → first_shown (content_value s_now w) G ≡ first_shown (content_value s_then w) G2) where
      apart : (r : ℕ) → tot (in_pair_of r) G ≡ tot (in_pair_of r) G2
      apart r = omega (arith, loose_apart r G loose, loose_apart r G2 loose2)

      pub thread_goes : is_given_thread s_now x.number ≡ true → GoesOn x.number (running_at x) (running_at y1) (state_of s_now) (state_of s_then)
      thread_goes named_it = one_thread.goes_on k R G G2 n x z0 beside beside2 lone locks extra none in_same apart no_task results calm calm0 started named_it

      pub objects_stay : (o : ObjNo) → object_value s_now o ≡ object_value s_then o
      objects_stay o =
          one_thread.object_same k R G G2 n x z0 beside beside2 lone locks extra none in_same o (no_object o) (loose_objects o G loose ∙ sym (loose_objects o G2 loose2))

      -- the shares of each mutex
      pub shares_then : (w : MutexNo) → tot (share_in s_then w) (b k R G G2 n x z0) ≡ tot (share_in s_now w) (a k R G G2 n x z0) + new_share fresh (mutex_n w) m
      shares_then w = omega (arith, one_thread.shares_go_on k R G G2 n x z0 beside beside2 lone locks extra none in_same w, shares1 w, shares2 w, even (mutex_n w))

      none_new : (w : MutexNo) → w ≢ m → new_share fresh (mutex_n w) m ≡ 0
      none_new w ne = by fresh
        where
          by : (c : Bool) → new_share c (mutex_n w) m ≡ 0
          by false = refl
          by true = mutex_cases (λ q. one q ≡ 0) m w (λ e. absurd (ne (sym e))) (λ _. refl)

      pub others_stay : (w : MutexNo) → w ≢ m → (state_of s_now).mutex w ≡ (state_of s_then).mutex w
      others_stay w ne =
          one_thread.mutex_same k R G G2 n x z0 beside beside2 lone locks extra none in_same w (no_other w ne) (contents w ne) (omega (arith, shares1 w, shares2 w, even (mutex_n w), none_new w ne))

      -- the mutex itself, where it is in the state
      pub it_before : In (mutex_n m) ≡ true → (state_of s_now).mutex m ≡ Some (record { content = or_else (first_shown (content_value s_now m) G) (first_shown (content_value s_now m) R); shares = tot (share_in s_now m) (a k R G G2 n x z0) })
      it_before e =
          ap (λ q. if_there q (record { content = first_shown (content_value s_now m) (a k R G G2 n x z0); shares = tot (share_in s_now m) (a k R G G2 n x z0) })) e
          ∙ ap (λ o. shared_as o (tot (share_in s_now m) (a k R G G2 n x z0))) (one_thread.content_before k R G G2 n x z0 beside beside2 lone locks extra none in_same m)

      pub it_then : In2 (mutex_n m) ≡ true
          → (state_of s_then).mutex m ≡ Some (record { content = or_else (first_shown (content_value s_then m) G2) (first_shown (content_value s_now m) R); shares = tot (share_in s_now m) (a k R G G2 n x z0) + new_share fresh (mutex_n m) m })
      it_then e =
          ap (λ q. if_there q (record { content = first_shown (content_value s_then m) (b k R G G2 n x z0); shares = tot (share_in s_then m) (b k R G G2 n x z0) })) e
          ∙ ap₂ shared_as (one_thread.content_afterwards k R G G2 n x z0 beside beside2 lone locks extra none in_same m) (shares_then m)
