-- A DROP leaves a typed state: link by link along its boxes, and by the threads and mutexes that are left at their ends.
use Rattle.std.proofs.Common.{◌≡◌, ◌≢◌, ◌∙◌, ap₂, ℕ, zero, suc, ◌+◌, ◌<◌, ◌≤◌, List, Option, Some, None, refl, sym, ap, subst, arith}
use Rattle.std.specs.Prelude.{⊤}
use Rattle.fr_base.specs.declared.label.Plain.{Plain}
use Rattle.fr_base.specs.declared.label.Plain.TheVariants as plain
use Rattle.fr_base.specs.declared.name.ObjNo.{ObjNo}
use Rattle.fr_base.specs.declared.name.MutexNo.{MutexNo}
use Rattle.fr_typing.specs.Kinds.{Owned, own, Piece, whole}
use Rattle.fr_store.specs.Keys.{slot_k, result_k, content_k}
use Rattle.fr_store.specs.Store.{at_key}
use Rattle.fr_store.specs.Typed.{TopFits, owns}
use Rattle.fr_store.specs.Below.{tree_of, TreeOf}
use Rattle.fr_store.proofs.Rows.{top_fits}
use Rattle.fr_plain.specs.declared.value.Value.{Value}
use Rattle.fr_plain.specs.declared.value.Value.TheVariants.{Own}
use Rattle.fr_plain.specs.Heap.{Heap, cell_at, with_cell, live, then_drop, drop_links, then_link, last_link}
use Rattle.fr_plain.specs.MachineThreads.{Life, alive, over, owing, loose, ended, Thread, Shared, Whole, thread_at, with_thread, with_life, mutex_there, with_mutex, value_gone, thread_released, thread_released_in, content_gone, share_gone, share_released, is_over, release_by, count_both, dropped}
use Rattle.fr_plain.specs.PlainState.{PlainState, place_in, running, running_in, plain_state}
use Rattle.fr_plain.proofs.HeapLemmas.{live_made, live_falls, cell_same, cell_other}
use Rattle.fr_plain.proofs.ByName.{found_number}
use Rattle.fr_sound.specs.Entries.{Entry}
use Rattle.fr_sound.specs.Seen.{owned_val}
use Rattle.fr_sound.specs.States.{Typing, IsKept, AreSoMany, IsShare}
use Rattle.law_plain_values.specs.acts.Positions.{Position, PositionTypes}
use Rattle.law_plain_values.proofs.acts.OneThread.{store, Counted}
use Rattle.law_plain_values.proofs.acts.AtHand.{mark_off}
use Rattle.law_plain_values.proofs.acts.Threads.{objects_counted}
use Rattle.law_plain_values.proofs.acts.Mutexes.{there_set, there_off, given_set}
use Rattle.law_plain_values.specs.drops.Drops.{carries, with_carrier, DropKeeps}
use Rattle.law_plain_values.proofs.drops.Carrier.{Carries, carrier_free, carrier_value, carrier_tree, carrier_thread, under_box}
use Rattle.law_plain_values.proofs.drops.Unboxed.{box_of, unboxed}
use Rattle.law_plain_values.proofs.drops.ResultComes.{result_comes}
use Rattle.law_plain_values.proofs.drops.ContentComes.{only_share, content_comes}
use Rattle.law_plain_values.proofs.drops.Leaves.{kept_off, flat_leaves}
use Rattle.law_plain_values.proofs.drops.TaskLeaves.{task_leaves}
use Rattle.law_plain_values.proofs.drops.ShareLeaves.{share_leaves}
use Rattle.law_plain_values.proofs.drops.Left.{unless_over, threads_left, mutexes_left, thread_falls, thread_there, mutex_falls, mutex_here, left_bounded}
use Rattle.law_plain_values.proofs.drops.Beside.{carrier_here, carrier_other, pairs_carried, pairs_left, relived_here, relived_off, relived_over, own_result}
use Rattle.law_plain_values.proofs.acts.Refs.{NoneNew, none_owns}
use Rattle.law_plain_values.proofs.drops.Shapes.{came_none}

-- the state is typed, with these types of mutexes and results, and no mutable reference has another exact type than it had
abbrev pub IsTyped : Typing → Whole Position → Type 0
IsTyped y0 s = (z : Typing) × PositionTypes z (plain_state s) × (z.gives ≡ y0.gives) × NoneNew y0.exact z.exact

-- beside it the value is carried
pub record Dropping (u : ℕ) (s : Whole Position) (y : Typing) (p : Piece) (v : Plain) : Type 0 where
  pub none : thread_at s.threads u ≡ None
  pub carries : Carries y (plain_state (with_carrier s u p (y.gives.result u) v)) u p v

abbrev left : Whole Position → ℕ
left s = mutexes_left s.mutexes + threads_left s.threads

-- no box
abbrev NoBox : Plain → Type 0
NoBox (plain.Box o) = ⊥
NoBox _ = ⊤

-- a value is dropped where at most so many threads and mutexes are left
abbrev Gone : ℕ → ℕ → Type 0
Gone u k = (s : Whole Position) (y : Typing) (p : Piece) (v : Plain) → Dropping u s y p v → left s ≤ k → IsTyped y (value_gone (release_by k) s (Own v))

-- what stands at the end of its boxes goes
abbrev EndGone : ℕ → ℕ → Type 0
EndGone u k = (s : Whole Position) (y : Typing) (p : Piece) (v : Plain) → NoBox v → Dropping u s y p v → left s ≤ k → IsTyped y (release_by k s v)

-- A VALUE THAT IS COUNTED NOWHERE

flat_end : {u : ℕ} {s : Whole Position} {y : Typing} {p : Piece} {v : Plain} → Dropping u s y p v → (Counted (owned_val y.gives v) → ⊥) → IsTyped y s
flat_end {u = u} {s = s} {y = y} {p = p} {v = v} d flat = flat_leaves d.carries flat (plain_state s) (ap running_in d.none) (λ k ne. sym (carrier_other s u p (y.gives.result u) v k ne)) (pairs_left s u p (y.gives.result u) v s d.none refl (λ n. refl)) (λ m. refl) (λ m. refl) (λ b. refl) (objects_counted s)

-- A TASK

module _ {u : ℕ} {s : Whole Position} {y : Typing} {p : Piece} {n : ℕ} (d : Dropping u s y p (plain.Task n)) where
  kept_there : IsKept ((plain_state (with_carrier s u p (y.gives.result u) (plain.Task n))).thread n)
  kept_there = (d.carries.state.tasks_owed (at_key (slot_k u 0)) n (tree_of (y.gives.result n)) (ap Some (carrier_value d.carries))).kept

  other : n ≢ u
  other = kept_off d.carries n kept_there

  kept_here : IsKept ((plain_state s).thread n)
  kept_here = subst IsKept (carrier_other s u p (y.gives.result u) (plain.Task n) n other) kept_there

  -- its thread is left
  task_left : 0 < threads_left s.threads
  task_left = by (thread_at s.threads n) refl
    where
      one : (l : Life Position) (slots : List Value) → IsKept (Some (running slots l)) → unless_over l ≡ 1
      one (alive r) slots h = refl
      one over slots h = absurd h
      one (owing r) slots h = refl
      one (loose r) slots h = refl
      one (ended v) slots h = refl

      by : (o : Option (Thread Position)) → thread_at s.threads n ≡ o → 0 < threads_left s.threads
      by None e = absurd (subst IsKept (ap running_in e) kept_here)
      by (Some x) e = thread_there s.threads n x e (one x.life x.slots (subst IsKept (ap running_in e) kept_here))

module _ (u k : ℕ) (go : Gone u k) (s : Whole Position) (y : Typing) (p : Piece) (n : ℕ) (d : Dropping u s y p (plain.Task n)) (le : left s ≤ suc k) where
  abbrev g : Owned
  g = y.gives.result u

  module _ (x : Thread Position) (found : thread_at s.threads n ≡ Some x) where
    number : x.number ≡ n
    number = found_number s.threads n x found

    was : (l : Life Position) → x.life ≡ l → (plain_state (with_carrier s u p g (plain.Task n))).thread n ≡ Some (running x.slots l)
    was l e = carrier_other s u p g (plain.Task n) n (other d) ∙ ap running_in found ∙ ap (λ z. Some (running x.slots z)) e

    -- its thread goes on
    let_go : (r : Position) → x.life ≡ owing r → IsTyped y (record s { threads = with_thread s.threads (with_life x (loose r)) })
    let_go r e =
        let s2 : Whole Position = record s { threads = with_thread s.threads (with_life x (loose r)) } in
        let none : thread_at s2.threads u ≡ None = relived_off s.threads n x (loose r) found number u (λ z. other d (sym z)) ∙ d.none in
        task_leaves d.carries (record { place = r; slots = x.slots }) (was (owing r) e) (plain_state s2) (ap running_in none) (ap running_in (relived_here s.threads n x (loose r) found number))
        (λ i nu nn. ap running_in (relived_off s.threads n x (loose r) found number i nn) ∙ sym (carrier_other s u p g (plain.Task n) i nu))
        (pairs_left s u p g (plain.Task n) s2 none refl (relived_over s.threads n x (loose r) found number (sym (ap is_over e))))
        (λ m. refl) (λ m. refl) (λ b. refl) (objects_counted s2)

    -- its thread has ended
    joined : (w : Plain) → x.life ≡ ended (Own w) → IsTyped y (value_gone (release_by k) (record s { threads = with_thread s.threads (with_life x over) }) (Own w))
    joined w e =
        let s2 : Whole Position = record s { threads = with_thread s.threads (with_life x over) } in
        let q : Piece = whole (own (y.gives.result n)) in
        let none : thread_at s2.threads u ≡ None = relived_off s.threads n x over found number u (λ z. other d (sym z)) ∙ d.none in
        let falls = thread_falls s.threads n x (with_life x over) number found in
        let one = ap unless_over e in
        let r = go s2 _ q w
        (record {
          none = none;
          carries = result_comes d.carries w (was (ended (Own w)) e) (plain_state (with_carrier s2 u q g w)) (carrier_here s2 u q g w)
              (carrier_other s2 u q g w n (other d) ∙ ap running_in (relived_here s.threads n x over found number))
              (λ i nu nn. carrier_other s2 u q g w i nu ∙ ap running_in (relived_off s.threads n x over found number i nn) ∙ sym (carrier_other s u p g (plain.Task n) i nu))
              (pairs_carried s u p g (plain.Task n) s2 q w refl (relived_over s.threads n x over found number (sym (ap is_over e))))
              (λ m. refl) (λ m. refl) (λ b. refl) (objects_counted (with_carrier s2 u q g w));
        })
        (omega (arith, le, falls, one)) in
        (r.0, r.1, r.2, λ j b f. came_none y.exact (slot_k u 0) (result_k n) (tree_of (y.gives.result n)) j b (r.3 j b f))

    by_life : (l : Life Position) → x.life ≡ l → IsKept (Some (running x.slots l)) → IsTyped y (thread_released (release_by k) s x l)
    by_life (alive r) e h = absurd h
    by_life over e h = absurd h
    by_life (owing r) e h = let_go r e
    by_life (loose r) e h = absurd h
    by_life (ended v) e h =
        let w = own_result y (plain_state (with_carrier s u p g (plain.Task n))) n v d.carries.state (was (ended v) e) in
        subst (λ z. IsTyped y (value_gone (release_by k) (record s { threads = with_thread s.threads (with_life x over) }) z)) (sym w.1) (joined w.0 (e ∙ ap ended w.1))

  pub task_gone : IsTyped y (thread_released_in (release_by k) s (thread_at s.threads n))
  task_gone = by (thread_at s.threads n) refl
    where
      by : (o : Option (Thread Position)) → thread_at s.threads n ≡ o → IsTyped y (thread_released_in (release_by k) s o)
      by None e = absurd (subst IsKept (ap running_in e) (kept_here d))
      by (Some x) e = by_life x e x.life refl (subst IsKept (ap running_in e) (kept_here d))

-- A VALUE OF A MUTEX

abbrev shared_of : Option Plain → ℕ → Shared
shared_of content n = record { content = content; shares = n }

module _ {u : ℕ} {s : Whole Position} {y : Typing} {p : Piece} {m : MutexNo} (d : Dropping u s y p (plain.Mutex m)) where
  abbrev a : PlainState Position
  a = plain_state (with_carrier s u p (y.gives.result u) (plain.Mutex m))

  -- the mutex is there
  mutex_found : (x : Shared) × (mutex_there s.mutexes m ≡ Some x)
  mutex_found = d.carries.state.there (at_key (slot_k u 0)) m (tree_of (y.gives.mutex m), ap Some (carrier_value d.carries))

  -- and where it has no other value, its content is in
  content_in : (x : Shared) → mutex_there s.mutexes m ≡ Some x → x.shares ≡ 1 → x.content ≡ None → ⊥
  content_in x found one out =
      let h = d.carries.state.mutexes m x found in
      let f = h.out out in
      let r = d.carries.state.threads f.thread f.is.thread f.is.goes_on in
      let l = r.marked f.slot m f.is.mark in
      let same = only_share (store y a) m (y.marks f.thread f.slot) (at_key (slot_k u 0)) (subst (AreSoMany (IsShare (store y a) m)) one h.shares) (tree_of (y.gives.mutex m), l.leads) (tree_of (y.gives.mutex m), ap Some (carrier_value d.carries)) in
      mark_off y a f.thread f.slot m f.is.thread (slot_k u 0) d.carries.state f.is.goes_on f.is.mark (carrier_free d.carries) same

module _ (u k : ℕ) (go : Gone u k) (s : Whole Position) (y : Typing) (p : Piece) (m : MutexNo) (d : Dropping u s y p (plain.Mutex m)) (le : left s ≤ suc k) where
  abbrev r : Owned
  r = y.gives.result u

  module _ (x : Shared) (found : mutex_there s.mutexes m ≡ Some x) where
    -- it has others
    one_less : (n : ℕ) → x.shares ≡ suc (suc n) → IsTyped y (record s { mutexes = with_mutex s.mutexes m (Some (shared_of x.content (suc n))) })
    one_less n e =
        let s2 : Whole Position = record s { mutexes = with_mutex s.mutexes m (Some (shared_of x.content (suc n))) } in
        share_leaves d.carries x.content n (found ∙ ap (λ i. Some (shared_of x.content i)) e) (plain_state s2) (ap running_in d.none) (λ i ne. sym (carrier_other s u p r (plain.Mutex m) i ne)) (pairs_left s u p r (plain.Mutex m) s2 d.none refl (λ i. refl))
        (there_set s.mutexes m (Some (shared_of x.content (suc n))) x found) (λ i ne. there_off s.mutexes m (Some (shared_of x.content (suc n))) i ne) (λ i. given_set s.mutexes m (Some (shared_of x.content (suc n))) i) (λ b. refl) (objects_counted s2)

    -- it was the last one
    last_gone : (w : Plain) → x.shares ≡ 1 → x.content ≡ Some w → IsTyped y (value_gone (release_by k) (record s { mutexes = with_mutex s.mutexes m None }) (Own w))
    last_gone w one e =
        let s2 : Whole Position = record s { mutexes = with_mutex s.mutexes m None } in
        let q : Piece = whole (own (y.gives.mutex m)) in
        let falls = mutex_falls s.mutexes m x None found in
        let r = go s2 _ q w
        (record {
          none = d.none;
          carries = content_comes d.carries w (found ∙ ap₂ (λ c i. Some (shared_of c i)) e one) (plain_state (with_carrier s2 u q r w)) (carrier_here s2 u q r w)
              (λ i ne. carrier_other s2 u q r w i ne ∙ sym (carrier_other s u p r (plain.Mutex m) i ne)) (pairs_carried s u p r (plain.Mutex m) s2 q w refl (λ i. refl)) (there_set s.mutexes m None x found) (λ i ne. there_off s.mutexes m None i ne)
              (λ i. given_set s.mutexes m None i) (λ b. refl) (objects_counted (with_carrier s2 u q r w));
        })
        (omega (arith, le, falls)) in
        (r.0, r.1, r.2, λ j b f. came_none y.exact (slot_k u 0) (content_k m.home m.count) (tree_of (y.gives.mutex m)) j b (r.3 j b f))

    by_content : (o : Option Plain) → x.content ≡ o → x.shares ≡ 1 → IsTyped y (content_gone (release_by k) (record s { mutexes = with_mutex s.mutexes m None }) o)
    by_content None e one = absurd (content_in d x found one e)
    by_content (Some w) e one = last_gone w one e

    by_shares : (n : ℕ) → x.shares ≡ n → IsTyped y (share_gone (release_by k) s m x n)
    by_shares zero e = let h = (d.carries.state.mutexes m x found).needed in absurd (omega (arith, h, e))
    by_shares (suc zero) e = by_content x.content refl e
    by_shares (suc (suc n)) e = one_less n e

  pub share_goes : IsTyped y (share_released (release_by k) s m (mutex_there s.mutexes m))
  share_goes = let f = mutex_found d in subst (λ o. IsTyped y (share_released (release_by k) s m o)) (sym f.1) (by_shares f.0 f.1 f.0.shares refl)

-- AT THE END OF ITS BOXES

end_gone : (u k : ℕ) → ((j : ℕ) → k ≡ suc j → Gone u j) → EndGone u k
end_gone u k go s y p plain.Nothing b d le = flat_end d (λ c. c)
end_gone u k go s y p plain.Unit b d le = flat_end d (λ c. c)
end_gone u k go s y p (plain.Int n) b d le = flat_end d (λ c. c)
end_gone u k go s y p (plain.Box o) b d le = absurd b
end_gone u zero go s y p (plain.Task n) b d le = let f = task_left d in absurd (omega (arith, f, le))
end_gone u (suc k) go s y p (plain.Task n) b d le = task_gone u k (go k refl) s y p n d le
end_gone u zero go s y p (plain.Mutex m) b d le = let f = mutex_found d in let h = mutex_here s.mutexes m f.0 f.1 in absurd (omega (arith, h, le))
end_gone u (suc k) go s y p (plain.Mutex m) b d le = share_goes u k (go k refl) s y p m d le

-- LINK BY LINK

-- where at most so many objects live
abbrev LinksGone : ℕ → ℕ → ℕ → Type 0
LinksGone u k n = (s : Whole Position) (y : Typing) (p : Piece) (v : Plain) → Dropping u s y p v → left s ≤ k → live s.heap ≤ n → IsTyped y (release_by k (record s { heap = drop_links n s.heap v }) (last_link n s.heap v))

no_links : (n : ℕ) (h : Heap) (v : Plain) → NoBox v → (drop_links n h v ≡ h) × (last_link n h v ≡ v)
no_links zero h v b = (refl, refl)
no_links (suc n) h plain.Nothing b = (refl, refl)
no_links (suc n) h plain.Unit b = (refl, refl)
no_links (suc n) h (plain.Int i) b = (refl, refl)
no_links (suc n) h (plain.Box o) b = absurd b
no_links (suc n) h (plain.Mutex m) b = (refl, refl)
no_links (suc n) h (plain.Task t) b = (refl, refl)

no_box : (y0 : Typing) (k n : ℕ) (s : Whole Position) (v : Plain) → NoBox v → IsTyped y0 (release_by k s v) → IsTyped y0 (release_by k (record s { heap = drop_links n s.heap v }) (last_link n s.heap v))
no_box y0 k n s v b t = let f = no_links n s.heap v b in subst (λ h. IsTyped y0 (release_by k (record s { heap = h }) (last_link n s.heap v))) (sym f.0) (subst (λ w. IsTyped y0 (release_by k s w)) (sym f.1) t)

-- the object of a box is there
box_there : {u : ℕ} {s : Whole Position} {y : Typing} {p : Piece} {o : ObjNo} → Dropping u s y p (plain.Box o) → (w : Plain) × (cell_at s.heap o ≡ Some w)
box_there {u = u} {o = o} d = d.carries.state.objects_there (at_key (slot_k u 0)) o (ap Some (carrier_value d.carries))

-- what was in it comes to the carrier
box_opens : {u : ℕ} {s : Whole Position} {y : Typing} {p : Piece} {o : ObjNo} → Dropping u s y p (plain.Box o) → (w : Plain) → cell_at s.heap o ≡ Some w → (z : Typing) × (q : Piece) × Dropping u (record s { heap = with_cell s.heap o None }) z q w × (z.gives ≡ y.gives) × NoneNew y.exact z.exact
box_opens {u = u} {s = s} {y = y} {p = p} {o = o} d w found =
    let t = carrier_tree d.carries in
    let r = box_of t.0 o (subst (TopFits t.0) (carrier_value d.carries) (top_fits y.rank y.exact (store y (plain_state (with_carrier s u p (y.gives.result u) (plain.Box o)))) d.carries.state.typed (slot_k u 0) t.0 t.1)) in
    let q = under_box p r.0 (subst (TreeOf p) r.1 t.2) (carrier_thread d.carries).nested.0 in
    let s2 : Whole Position = record s { heap = with_cell s.heap o None } in (
      _,
      q.0,
      record {
        none = d.none;
        carries = unboxed d.carries w found r.0 (t.1 ∙ ap owns r.1) q.0 q.1 q.2 (plain_state (with_carrier s2 u q.0 (y.gives.result u) w)) (carrier_here s2 u q.0 (y.gives.result u) w)
            (λ n ne. carrier_other s2 u q.0 (y.gives.result u) w n ne ∙ sym (carrier_other s u p (y.gives.result u) (plain.Box o) n ne)) (pairs_carried s u p (y.gives.result u) (plain.Box o) s2 q.0 w refl (λ n. refl)) (λ m. refl) (λ m. refl)
            (λ b ne. cell_other s.heap o b None ne) (cell_same s.heap o None (live_made s.heap o w found)) (objects_counted (with_carrier s2 u q.0 (y.gives.result u) w));
      },
      refl,
      none_owns y.exact (slot_k u 0) r.0,
    )

links_gone : (u k : ℕ) → EndGone u k → (n : ℕ) → LinksGone u k n
links_gone u k end n s y p plain.Nothing d le l = no_box y k n s plain.Nothing tt (end s y p plain.Nothing tt d le)
links_gone u k end n s y p plain.Unit d le l = no_box y k n s plain.Unit tt (end s y p plain.Unit tt d le)
links_gone u k end n s y p (plain.Int i) d le l = no_box y k n s (plain.Int i) tt (end s y p (plain.Int i) tt d le)
links_gone u k end n s y p (plain.Mutex m) d le l = no_box y k n s (plain.Mutex m) tt (end s y p (plain.Mutex m) tt d le)
links_gone u k end n s y p (plain.Task t) d le l = no_box y k n s (plain.Task t) tt (end s y p (plain.Task t) tt d le)
links_gone u k end zero s y p (plain.Box o) d le l = let f = box_there d in let h = live_falls s.heap o f.0 f.1 in absurd (omega (arith, h, l))
links_gone u k end (suc n) s y p (plain.Box o) d le l =
    let f = box_there d in
    let h = live_falls s.heap o f.0 f.1 in
    let b = box_opens d f.0 f.1 in
    let r = links_gone u k end n (record s { heap = with_cell s.heap o None }) b.0 b.1 f.0 b.2 le (omega (arith, h, l)) in
    subst (λ c. IsTyped y (release_by k (record s { heap = then_drop c s.heap (drop_links n (with_cell s.heap o None)) }) (then_link c (last_link n (with_cell s.heap o None))))) (sym f.1)
    (r.0, r.1, r.2 ∙ b.3, λ j q z. b.4 j q (r.3 j q z))

-- A DROP

gone : (u k : ℕ) → Gone u k
gone u zero s y p v d le = links_gone u zero (end_gone u zero (λ j e. absurd (omega (arith, e)))) (live s.heap) s y p v d le (omega arith)
gone u (suc k) s y p v d le = links_gone u (suc k) (end_gone u (suc k) (λ j e. subst (Gone u) (let f : k ≡ j = omega (arith, e) in f) (gone u k))) (live s.heap) s y p v d le (omega arith)

pub drop_typed : (u : ℕ) (s : Whole Position) (y : Typing) (p : Piece) (v : Plain) → Dropping u s y p v → IsTyped y (dropped s v)
drop_typed u s y p v d = gone u (count_both s.mutexes s.threads) s y p v d (left_bounded s.mutexes s.threads)

-- where nothing is dropped all stays
pub nothing_dropped : (y0 : Typing) (s : Whole Position) → IsTyped y0 s → IsTyped y0 (dropped s plain.Nothing)
nothing_dropped y0 s t = no_box y0 (count_both s.mutexes s.threads) (live s.heap) s plain.Nothing tt t

pub drop_keeps : DropKeeps
drop_keeps y s u p g v none st =
    let here = carrier_here s u p g v in
    let r = st.threads u (carries p g v) (ap place_in here) in
    let is : g ≡ y.gives.result u = ap (λ (z : Entry). z.gives) r.known ∙ r.gives in
    let d = drop_typed u s y p v (record { none = none; carries = record { state = subst (λ z. PositionTypes y (plain_state (with_carrier s u p z v))) is st; here = carrier_here s u p (y.gives.result u) v } }) in
    (d.0, d.1, d.2)
