-- Threads, mutexes and pairs under other names, and what goes with a dropped value.
use Rattle.std.proofs.Common.{◌≡◌, ℕ, zero, suc, ◌&&◌, Bool, true, false, is_some, List, [], ◌∷◌, map, Option, Some, None, refl, ap, ◌∙◌}
use Rattle.std.specs.Prelude.{⊤}
use Rattle.std.specs.Option.{option_map}
use Rattle.std.proofs.lemmas.List.{length-map}
use Rattle.fr_base.specs.declared.name.MutexNo.{MutexNo}
use Rattle.fr_base.specs.declared.label.Plain.{Plain}
use Rattle.fr_base.specs.declared.label.Plain.TheVariants as plain
use Rattle.fr_plain.specs.declared.value.Value.{Value}
use Rattle.fr_plain.specs.declared.value.Value.TheVariants.{Own}
use Rattle.fr_plain.specs.Heap.{Heap}
use Rattle.fr_plain.specs.State.{gone, slot_at, without}
use Rattle.fr_plain.specs.MachineActs.{Capture, do_end, do_finish, do_leave, end_of}
use Rattle.fr_plain.specs.MachineThreads.{Now, going, constant, temporary, on_value, Move, next, alone, Moves, Life, alive, over, owing, loose, ended, settle_life, life_move, Passed, left_after, then_passed, pass, Thread, Shared, Mutex, Pair, Whole, mutex_at, mutex_there, with_mutex, pair_of, without_pair, thread_at, with_thread, is_given, result_of_life, result_in, result_at, with_life, is_over, all_over, value_gone, thread_released, thread_released_in, content_gone, share_gone, share_released, release_by, count_both, release, dropped}
use Rattle.law_plain_names.specs.Renamed.{Renaming, IsOneToOne, owned, kept, all_kept, heap, shared, mutex, pair, life, thread, whole}
use Rattle.law_plain_names.proofs.Heaps.{carried, slot_renamed, with_slot_renamed, without_renamed}
use Rattle.law_plain_names.proofs.Acts.{act_of, end_renamed}

abbrev there_of : Option Mutex → Option Shared
there_of None = None
there_of (Some x) = x.there

module _ (n : Renaming) (once : IsOneToOne n) where
  -- MUTEXES AND PAIRS

  pub mutex_renamed : (xs : List Mutex) (m : MutexNo) → mutex_at (map (mutex n) xs) (n.mutex m) ≡ option_map (mutex n) (mutex_at xs m)
  mutex_renamed [] m = refl
  mutex_renamed (x ∷ xs) m = carried (option_map (mutex n)) _ _ (Some x) (mutex_at xs m) _ _ (once.mutexes x.number m) refl (mutex_renamed xs m)

  pub there_renamed : (xs : List Mutex) (m : MutexNo) → mutex_there (map (mutex n) xs) (n.mutex m) ≡ option_map (shared n) (mutex_there xs m)
  there_renamed xs m = ap there_of (mutex_renamed xs m) ∙ by (mutex_at xs m)
    where
      by : (x : Option Mutex) → there_of (option_map (mutex n) x) ≡ option_map (shared n) (there_of x)
      by None = refl
      by (Some x) = refl

  pub with_mutex_renamed : (xs : List Mutex) (m : MutexNo) (x : Option Shared) → with_mutex (map (mutex n) xs) (n.mutex m) (option_map (shared n) x) ≡ map (mutex n) (with_mutex xs m x)
  with_mutex_renamed [] m new = refl
  with_mutex_renamed (x ∷ xs) m new = carried (map (mutex n)) _ _ (record x { there = new } ∷ xs) (x ∷ with_mutex xs m new) _ _ (once.mutexes x.number m) refl (ap (λ y. mutex n x ∷ y) (with_mutex_renamed xs m new))

  pub pair_renamed : (ps : List Pair) (t : ℕ) → pair_of (map (pair n) ps) (n.thread t) ≡ option_map (pair n) (pair_of ps t)
  pair_renamed [] t = refl
  pair_renamed (p ∷ ps) t = carried (option_map (pair n)) _ _ (Some p) (pair_of ps t) _ _ (once.threads p.parent t) refl (pair_renamed ps t)

  pub without_pair_renamed : (ps : List Pair) (t : ℕ) → without_pair (map (pair n) ps) (n.thread t) ≡ map (pair n) (without_pair ps t)
  without_pair_renamed [] t = refl
  without_pair_renamed (p ∷ ps) t = carried (map (pair n)) _ _ (without_pair ps t) (p ∷ without_pair ps t) _ _ (once.threads p.parent t) (without_pair_renamed ps t) (ap (λ y. pair n p ∷ y) (without_pair_renamed ps t))

  -- CAPTURES

  abbrev pub passed : Passed → Passed
  passed p = record { left = all_kept n p.left; new = all_kept n p.new }

  left_renamed : (take : Bool) (vs : List Value) (i : ℕ) → left_after take (all_kept n vs) i ≡ all_kept n (left_after take vs i)
  left_renamed true vs i = with_slot_renamed n once vs i gone
  left_renamed false vs i = refl

  pub pass_renamed : (cs : List Capture) (vs us : List Value) → pass cs (all_kept n vs) (all_kept n us) ≡ option_map passed (pass cs vs us)
  pass_renamed [] vs us = refl
  pass_renamed (c ∷ cs) vs us =
      ap (λ x. then_passed x (λ v. pass cs (left_after c.take (all_kept n vs) c.slot) (v ∷ all_kept n us))) (slot_renamed n once vs c.slot)
      ∙ ap (λ ws. then_passed (option_map (kept n) (slot_at vs c.slot)) (λ v. pass cs ws (v ∷ all_kept n us))) (left_renamed c.take vs c.slot)
      ∙ by (slot_at vs c.slot) (λ v. pass_renamed cs (left_after c.take vs c.slot) (v ∷ us))
    where
      by : (x : Option Value) → ((v : Value) → pass cs (all_kept n (left_after c.take vs c.slot)) (kept n v ∷ all_kept n us) ≡ option_map passed (pass cs (left_after c.take vs c.slot) (v ∷ us)))
          → then_passed (option_map (kept n) x) (λ v. pass cs (all_kept n (left_after c.take vs c.slot)) (v ∷ all_kept n us)) ≡ option_map passed (then_passed x (λ v. pass cs (left_after c.take vs c.slot) (v ∷ us)))
      by None go = refl
      by (Some v) go = go v

  module _ {P : Type 0} (r : P → P) where
    -- THREADS

    abbrev pub those : List (Thread P) → List (Thread P)
    those xs = map (thread n r) xs

    pub thread_renamed : (xs : List (Thread P)) (t : ℕ) → thread_at (those xs) (n.thread t) ≡ option_map (thread n r) (thread_at xs t)
    thread_renamed [] t = refl
    thread_renamed (x ∷ xs) t = carried (option_map (thread n r)) _ _ (Some x) (thread_at xs t) _ _ (once.threads x.number t) refl (thread_renamed xs t)

    pub with_thread_renamed : (xs : List (Thread P)) (x : Thread P) → with_thread (those xs) (thread n r x) ≡ those (with_thread xs x)
    with_thread_renamed [] x = refl
    with_thread_renamed (y ∷ ys) x = carried those _ _ (x ∷ ys) (y ∷ with_thread ys x) _ _ (once.threads y.number x.number) refl (ap (λ z. thread n r y ∷ z) (with_thread_renamed ys x))

    some_renamed : {A B : Type 0} (h : A → B) (x : Option A) → is_some (option_map h x) ≡ is_some x
    some_renamed h None = refl
    some_renamed h (Some x) = refl

    pub given_renamed : (s : Whole P) (t : ℕ) → is_given (whole n r s) (n.thread t) ≡ is_given s t
    given_renamed s t = ap is_some (thread_renamed s.threads t) ∙ some_renamed (thread n r) (thread_at s.threads t)

    pub mutex_given_renamed : (xs : List Mutex) (m : MutexNo) → is_some (mutex_at (map (mutex n) xs) (n.mutex m)) ≡ is_some (mutex_at xs m)
    mutex_given_renamed xs m = ap is_some (mutex_renamed xs m) ∙ some_renamed (mutex n) (mutex_at xs m)

    result_life_renamed : (l : Life P) → result_of_life (life n r l) ≡ option_map (kept n) (result_of_life l)
    result_life_renamed (alive p) = refl
    result_life_renamed over = refl
    result_life_renamed (owing p) = refl
    result_life_renamed (loose p) = refl
    result_life_renamed (ended v) = refl

    pub result_renamed : (xs : List (Thread P)) (t : ℕ) → result_at (those xs) (n.thread t) ≡ option_map (kept n) (result_at xs t)
    result_renamed xs t = ap result_in (thread_renamed xs t) ∙ by (thread_at xs t)
      where
        by : (x : Option (Thread P)) → result_in (option_map (thread n r) x) ≡ option_map (kept n) (result_in x)
        by None = refl
        by (Some x) = result_life_renamed x.life

    pub over_renamed : (l : Life P) → is_over (life n r l) ≡ is_over l
    over_renamed (alive p) = refl
    over_renamed over = refl
    over_renamed (owing p) = refl
    over_renamed (loose p) = refl
    over_renamed (ended v) = refl

    pub all_over_renamed : (xs : List (Thread P)) → all_over (those xs) ≡ all_over xs
    all_over_renamed [] = refl
    all_over_renamed (x ∷ xs) = ap (λ b. b && all_over (those xs)) (over_renamed x.life) ∙ ap (λ b. is_over x.life && b) (all_over_renamed xs)

    -- WHAT GOES WITH A DROPPED VALUE

    module _ (go : Whole P → Plain → Whole P) (goes : (s : Whole P) (v : Plain) → go (whole n r s) (owned n v) ≡ whole n r (go s v)) where
      value_gone_renamed : (s : Whole P) (v : Value) → value_gone go (whole n r s) (kept n v) ≡ whole n r (value_gone go s v)
      value_gone_renamed s v =
          ap (λ (h : Heap). go (record (whole n r s) { heap = h }) (end_of (heap n s.heap) (kept n v))) (without_renamed n once s.heap v)
          ∙ ap (go (whole n r (record s { heap = without s.heap v }))) (end_renamed n once r s.heap v)
          ∙ goes (record s { heap = without s.heap v }) (end_of s.heap v)

      thread_released_renamed : (s : Whole P) (x : Thread P) (l : Life P) → thread_released go (whole n r s) (thread n r x) (life n r l) ≡ whole n r (thread_released go s x l)
      thread_released_renamed s x (owing p) = ap (λ (xs : List (Thread P)). record (whole n r s) { threads = xs }) (with_thread_renamed s.threads (with_life x (loose p)))
      thread_released_renamed s x (ended v) =
          ap (λ (xs : List (Thread P)). value_gone go (record (whole n r s) { threads = xs }) (kept n v)) (with_thread_renamed s.threads (with_life x over))
          ∙ value_gone_renamed (record s { threads = with_thread s.threads (with_life x over) }) v
      thread_released_renamed s x (alive p) = refl
      thread_released_renamed s x over = refl
      thread_released_renamed s x (loose p) = refl

      thread_released_in_renamed : (s : Whole P) (x : Option (Thread P)) → thread_released_in go (whole n r s) (option_map (thread n r) x) ≡ whole n r (thread_released_in go s x)
      thread_released_in_renamed s None = refl
      thread_released_in_renamed s (Some x) = thread_released_renamed s x x.life

      content_gone_renamed : (s : Whole P) (c : Option Plain) → content_gone go (whole n r s) (option_map (owned n) c) ≡ whole n r (content_gone go s c)
      content_gone_renamed s None = refl
      content_gone_renamed s (Some v) = value_gone_renamed s (Own v)

      last_share_renamed : (s : Whole P) (m : MutexNo) (x : Shared)
          → content_gone go (record (whole n r s) { mutexes = with_mutex (map (mutex n) s.mutexes) (n.mutex m) None }) (option_map (owned n) x.content) ≡ whole n r (content_gone go (record s { mutexes = with_mutex s.mutexes m None }) x.content)
      last_share_renamed s m x =
          ap (λ (xs : List Mutex). content_gone go (record (whole n r s) { mutexes = xs }) (option_map (owned n) x.content)) (with_mutex_renamed s.mutexes m None)
          ∙ content_gone_renamed (record s { mutexes = with_mutex s.mutexes m None }) x.content

      share_gone_renamed : (s : Whole P) (m : MutexNo) (x : Shared) (k : ℕ) → share_gone go (whole n r s) (n.mutex m) (shared n x) k ≡ whole n r (share_gone go s m x k)
      share_gone_renamed s m x zero = last_share_renamed s m x
      share_gone_renamed s m x (suc zero) = last_share_renamed s m x
      share_gone_renamed s m x (suc (suc k)) = ap (λ (xs : List Mutex). record (whole n r s) { mutexes = xs }) (with_mutex_renamed s.mutexes m (Some (record x { shares = suc k })))

      share_released_renamed : (s : Whole P) (m : MutexNo) (x : Option Shared) → share_released go (whole n r s) (n.mutex m) (option_map (shared n) x) ≡ whole n r (share_released go s m x)
      share_released_renamed s m None = refl
      share_released_renamed s m (Some x) = share_gone_renamed s m x x.shares

    release_by_renamed : (k : ℕ) (s : Whole P) (v : Plain) → release_by k (whole n r s) (owned n v) ≡ whole n r (release_by k s v)
    release_by_renamed zero s plain.Nothing = refl
    release_by_renamed zero s plain.Unit = refl
    release_by_renamed zero s (plain.Int i) = refl
    release_by_renamed zero s (plain.Box o) = refl
    release_by_renamed zero s (plain.Task t) = refl
    release_by_renamed zero s (plain.Mutex m) = refl
    release_by_renamed (suc k) s plain.Nothing = refl
    release_by_renamed (suc k) s plain.Unit = refl
    release_by_renamed (suc k) s (plain.Int i) = refl
    release_by_renamed (suc k) s (plain.Box o) = refl
    release_by_renamed (suc k) s (plain.Task t) =
        ap (thread_released_in (release_by k) (whole n r s)) (thread_renamed s.threads t) ∙ thread_released_in_renamed (release_by k) (release_by_renamed k) s (thread_at s.threads t)
    release_by_renamed (suc k) s (plain.Mutex m) =
        ap (share_released (release_by k) (whole n r s) (n.mutex m)) (there_renamed s.mutexes m) ∙ share_released_renamed (release_by k) (release_by_renamed k) s m (mutex_there s.mutexes m)

    count_renamed : (ms : List Mutex) (xs : List (Thread P)) → count_both (map (mutex n) ms) (those xs) ≡ count_both ms xs
    count_renamed [] xs = length-map xs (thread n r)
    count_renamed (m ∷ ms) xs = ap suc (count_renamed ms xs)

    pub release_renamed : (s : Whole P) (v : Plain) → release (whole n r s) (owned n v) ≡ whole n r (release s v)
    release_renamed s v = ap (λ k. release_by k (whole n r s) (owned n v)) (count_renamed s.mutexes s.threads) ∙ release_by_renamed (count_both s.mutexes s.threads) s v

    pub dropped_whole_renamed : (s : Whole P) (v : Plain) → dropped (whole n r s) (owned n v) ≡ whole n r (dropped s v)
    dropped_whole_renamed s v = value_gone_renamed release release_renamed s (Own v)

    -- MOVES

    -- the same move under other names: its act, and what each value makes of the place
    abbrev pub MoveRenamed : {A : Type 0} → (A → A) → Option (Move P A) → Option (Move P A) → Type 0
    MoveRenamed h None None = ⊤
    MoveRenamed h (Some m) (Some k) = (m.act ≡ act_of n once r k.act) × ((v : Value) → m.plug (kept n v) ≡ h (k.plug v))
    MoveRenamed h _ _ = ⊥

    abbrev pub now_of : Now → Now
    now_of going = going
    now_of (constant v) = constant (kept n v)
    now_of (temporary v) = temporary (kept n v)

    -- places that r makes move as those that it was given
    pub record MovesRenamed (ms : Moves P) : Type 0 where
      pub now : (p : P) → ms.now (r p) ≡ now_of (ms.now p)
      pub move : (p : P) → MoveRenamed r (ms.move (r p)) (ms.move p)
      pub settle : (p : P) → ms.settle (r p) ≡ r (ms.settle p)

    module _ (ms : Moves P) (moves : MovesRenamed ms) where
      pub settle_renamed : (l : Life P) → settle_life ms (life n r l) ≡ life n r (settle_life ms l)
      settle_renamed (alive p) = ap alive (moves.settle p)
      settle_renamed over = refl
      settle_renamed (owing p) = ap owing (moves.settle p)
      settle_renamed (loose p) = ap loose (moves.settle p)
      settle_renamed (ended v) = refl

      next_renamed : (wrap : P → Life P) → ((p : P) → wrap (r p) ≡ life n r (wrap p)) → (a b : Option (Move P P)) → MoveRenamed r a b → MoveRenamed (life n r) (next wrap a) (next wrap b)
      next_renamed wrap e None None h = tt
      next_renamed wrap e None (Some b) h = absurd h
      next_renamed wrap e (Some a) None h = absurd h
      next_renamed wrap e (Some a) (Some b) h = (h.0, λ v. ap wrap (h.1 v) ∙ e (b.plug v))

      by_now_renamed : (w u : Now) → w ≡ now_of u → (end : Value → Option (Move P (Life P))) → ((v : Value) → MoveRenamed (life n r) (end (kept n v)) (end v)) → (a b : Option (Move P (Life P))) → MoveRenamed (life n r) a b
          → MoveRenamed (life n r) (on_value w end a) (on_value u end b)
      by_now_renamed going going e end f a b h = h
      by_now_renamed (constant v) (constant u) e end f a b h = rw (let g : v ≡ kept n u = cc in g) (f u)
      by_now_renamed (temporary v) (temporary u) e end f a b h = rw (let g : v ≡ kept n u = cc in g) (f u)
      by_now_renamed going (constant u) e end f a b h = absurd cc
      by_now_renamed going (temporary u) e end f a b h = absurd cc
      by_now_renamed (constant v) going e end f a b h = absurd cc
      by_now_renamed (constant v) (temporary u) e end f a b h = absurd cc
      by_now_renamed (temporary v) going e end f a b h = absurd cc
      by_now_renamed (temporary v) (constant u) e end f a b h = absurd cc

      pub life_move_renamed : (l : Life P) → MoveRenamed (life n r) (life_move ms (life n r l)) (life_move ms l)
      life_move_renamed (alive p) = by_now_renamed (ms.now (r p)) (ms.now p) (moves.now p) (λ v. alone (λ x. over) (do_end v)) (λ v. (refl, λ x. refl)) _ _ (next_renamed alive (λ q. refl) (ms.move (r p)) (ms.move p) (moves.move p))
      life_move_renamed over = tt
      life_move_renamed (owing p) = by_now_renamed (ms.now (r p)) (ms.now p) (moves.now p) (λ v. alone ended (do_finish v)) (λ v. (refl, λ x. refl)) _ _ (next_renamed owing (λ q. refl) (ms.move (r p)) (ms.move p) (moves.move p))
      life_move_renamed (loose p) = by_now_renamed (ms.now (r p)) (ms.now p) (moves.now p) (λ v. alone (λ x. over) (do_leave v)) (λ v. (refl, λ x. refl)) _ _ (next_renamed loose (λ q. refl) (ms.move (r p)) (ms.move p) (moves.move p))
      life_move_renamed (ended v) = tt
