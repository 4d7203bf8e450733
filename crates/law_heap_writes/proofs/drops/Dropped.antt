-- A DROP, link by link, as on the plain machine: the objects of a chain of boxes go, then the last share of a mutex or the thread of a task, and what stood under these goes the
-- same way.
use Rattle.std.proofs.Common.{◌≡◌, ℕ, ℤ, zero, suc, ◌+◌, ◌≤◌, Bool, true, false, List, Option, Some, None, option_map, refl, sym, ap, ◌∙◌, subst, arith}
use Rattle.std.specs.Prelude.{⊤}
use Rattle.law_words_writes.specs.Below.law_results_reads.Below.fr_base.declared.name.MutexNo.{MutexNo}
use Rattle.law_words_writes.specs.Below.law_results_reads.Below.fr_base.declared.name.ObjNo.{ObjNo}
use Rattle.law_words_writes.specs.Below.law_results_reads.Below.fr_base.declared.label.Plain.{Plain}
use Rattle.law_words_writes.specs.Below.law_results_reads.Below.fr_base.declared.label.Plain.TheVariants as plain
use Rattle.law_words_writes.specs.Below.law_results_reads.Below.fr_plain.declared.value.Value.TheVariants.{Own}
use Rattle.law_words_writes.specs.Below.law_results_reads.Below.fr_plain.Heap.{Heap, cell_at, with_cell, live, then_drop, drop_links, then_link, last_link}
use Rattle.law_words_writes.specs.Below.law_results_reads.Below.fr_plain.MachineThreads.{alive, over, owing, ended, Shared, thread_at, with_thread, with_life, mutex_there, with_mutex, value_gone, thread_released, thread_released_in, content_gone, share_gone, share_released, release_by, count_both, dropped}
use Rattle.law_words_writes.proofs.Below.law_results_reads.Below.fr_plain.HeapLemmas.{live_made, live_falls, cell_same, cell_other, made_kept}
use Rattle.law_words_writes.proofs.Below.law_results_reads.Below.fr_plain.ByName.{found_number}
use Rattle.law_words_writes.specs.Below.law_results_reads.Below.fr_code.Machine.{CodeLife, CodeThread, CodeWhole}
use Rattle.law_words_writes.specs.Below.law_results_reads.Below.heap_partition.Plain.{plain_of}
use Rattle.law_words_writes.specs.Below.law_results_reads.Below.heap_partition.declared.value.BoxPtr.{BoxPtr}
use Rattle.law_words_writes.specs.Below.law_results_reads.Below.heap_partition.declared.value.Owned.{Owned}
use Rattle.law_words_writes.specs.Below.law_results_reads.Below.heap_partition.declared.value.Owned.TheVariants as owned
use Rattle.law_words_writes.specs.Below.law_results_reads.Below.thread_state.View.{ThreadState}
use Rattle.law_words_writes.specs.Below.law_results_reads.Below.server_model.Servers.{Cluster}
use Rattle.law_words_writes.specs.Below.law_results_reads.Below.coherent_memory.Names.{one}
use Rattle.law_words_writes.specs.Below.law_results_reads.Below.coherent_memory.Things.{Thing}
use Rattle.law_words_writes.specs.Below.law_results_reads.Below.coherent_memory.OneHeap.{Node, object_n, mutex_n, task_n, owns}
use Rattle.law_heap_steps.proofs.Below.law_plain_values.drops.Left.{mutexes_left, mutex_falls, mutex_here}
use Rattle.law_heap_writes.proofs.drops.PlainLeft.{unless_over, threads_left, thread_falls, thread_there, left_bounded}
use Rattle.law_heap_writes.proofs.drops.Under.{under}
use Rattle.law_heap_writes.proofs.drops.InHand as held
use Rattle.law_heap_writes.proofs.drops.HandState as shows
use Rattle.law_heap_writes.proofs.drops.Carrying.{Others, Shows, Carries}
use Rattle.law_heap_writes.proofs.drops.BoxOpens.{cell_is, opened, next_box}
use Rattle.law_heap_writes.proofs.drops.ShareFalls as share
use Rattle.law_heap_writes.proofs.drops.TaskFalls.{TaskFalls, lets_go, gives, is_alive, was_over, falls}

abbrev left : CodeWhole → ℕ
left w = mutexes_left w.mutexes + threads_left w.threads

-- no box
abbrev NoBox : Owned → Type 0
NoBox (owned.Box b) = ⊥
NoBox _ = ⊤

no_links : (n : ℕ) (h : Heap) (v : Owned) → NoBox v → (drop_links n h (plain_of v) ≡ h) × (last_link n h (plain_of v) ≡ plain_of v)
no_links zero h v b = (refl, refl)
no_links (suc n) h owned.Nothing b = (refl, refl)
no_links (suc n) h owned.Unit b = (refl, refl)
no_links (suc n) h (owned.Int i) b = (refl, refl)
no_links (suc n) h (owned.Box o) b = absurd b
no_links (suc n) h (owned.Mutex m) b = (refl, refl)
no_links (suc n) h (owned.Task t) b = (refl, refl)

nothing_flat : (q : Node) → owns q owned.Nothing ≡ false
nothing_flat (object_n o) = refl
nothing_flat (mutex_n m) = refl
nothing_flat (task_n u) = refl

unit_flat : (q : Node) → owns q owned.Unit ≡ false
unit_flat (object_n o) = refl
unit_flat (mutex_n m) = refl
unit_flat (task_n u) = refl

int_flat : (i : ℤ) (q : Node) → owns q (owned.Int i) ≡ false
int_flat i (object_n o) = refl
int_flat i (mutex_n m) = refl
int_flat i (task_n u) = refl

module _ (k : Cluster) (n : ℕ) (y : ThreadState) (B : List Thing) (others : Others k n y B) where
  abbrev Gone : CodeWhole → Type 0
  Gone w = Shows k n y B w None

  -- a value is dropped where at most so many threads and mutexes are left
  abbrev ValueGone : ℕ → Type 0
  ValueGone j = (w : CodeWhole) (v : Owned) → Carries k n y B w v → left w ≤ j → Gone (value_gone (release_by j) w (Own (plain_of v)))

  -- what stands at the end of its boxes goes
  abbrev EndGone : ℕ → Type 0
  EndGone j = (w : CodeWhole) (v : Owned) → NoBox v → Carries k n y B w v → left w ≤ j → Gone (release_by j w (plain_of v))

  -- A VALUE THAT OWNS NOTHING

  flat_end : (w : CodeWhole) (v : Owned) → Carries k n y B w v → ((q : Node) → owns q v ≡ false) → Gone w
  flat_end w v carried flat =
      let already : (q : Node) → owns q v ≡ true → held.In k n y B None q ≡ true = λ q e. absurd (cc (sym e ∙ flat q)) in
      let same = held.stays_in k n y B v already in
      record {
        threads = λ u. carried.same.threads u ∙ shows.thread_same k n y B (Some v) None u (same (task_n u));
        made = λ u. carried.same.made u ∙ shows.made_same k n y B (Some v) None u;
        pairs = λ u. carried.same.pairs u ∙ shows.pairs_same k n y B (Some v) None u;
        objects = λ o. carried.same.objects o ∙ shows.object_same k n y B (Some v) None o (same (object_n o));
        mutexes = λ m. carried.same.mutexes m ∙ shows.mutex_same k n y B (Some v) None m (same (mutex_n m)) (let l = shows.share_less k n y B m v already in omega (arith, l, ap one (flat (mutex_n m))));
        given = λ m. carried.same.given m ∙ shows.mutex_given k n y B (Some v) None m;
      }

  -- A TASK

  -- where no thread is left, the one of the task is over
  no_task : (w : CodeWhole) (u : ℕ) → Carries k n y B w (owned.Task u) → left w ≤ 0 → Gone w
  no_task w u carried le = by (falls k n y B others w u carried)
    where
      none_left : (x : CodeThread) → thread_at w.threads u ≡ Some x → unless_over x.life ≡ 1 → ⊥
      none_left x found is = let l = thread_there w.threads u x found is in omega (arith, l, le)

      by : TaskFalls k n y B w u → Gone w
      by (lets_go x r found life same) = absurd (none_left x found (ap unless_over life))
      by (gives x c found life next) = absurd (none_left x found (ap unless_over life))
      by (is_alive x r found life same) = same
      by (was_over x found life same) = same

  task_gone : (j : ℕ) → ValueGone j → (w : CodeWhole) (u : ℕ) → Carries k n y B w (owned.Task u) → left w ≤ suc j → Gone (thread_released_in (release_by j) w (thread_at w.threads u))
  task_gone j go w u carried le = by (falls k n y B others w u carried)
    where
      is_there : (x : CodeThread) (l : CodeLife) → thread_at w.threads u ≡ Some x → x.life ≡ l → Gone (thread_released (release_by j) w x l) → Gone (thread_released_in (release_by j) w (thread_at w.threads u))
      is_there x l found life g = subst (λ o. Gone (thread_released_in (release_by j) w o)) (sym found) (subst (λ i. Gone (thread_released (release_by j) w x i)) (sym life) g)

      by : TaskFalls k n y B w u → Gone (thread_released_in (release_by j) w (thread_at w.threads u))
      by (lets_go x r found life same) = is_there x (owing r) found life same
      by (gives x c found life next) =
          let fall = thread_falls w.threads u x (with_life x over) (found_number w.threads u x found) found in
          let one = ap unless_over life in
          is_there x (ended (Own (plain_of c))) found life (go (record w { threads = with_thread w.threads (with_life x over) }) c next (omega (arith, le, fall, one)))
      by (is_alive x r found life same) = is_there x (alive r) found life same
      by (was_over x found life same) = is_there x over found life same

  -- A VALUE OF A MUTEX

  abbrev shared : (w : CodeWhole) (m : MutexNo) → Carries k n y B w (owned.Mutex m) → Shared
  shared w m carried = record { content = share.content k n y B others w m carried; shares = share.shares k n y B others w m carried }

  mutex_gone : (j : ℕ) → ValueGone j → (w : CodeWhole) (m : MutexNo) → Carries k n y B w (owned.Mutex m) → left w ≤ suc j → Gone (share_released (release_by j) w m (mutex_there w.mutexes m))
  mutex_gone j go w m carried le = subst (λ o. Gone (share_released (release_by j) w m o)) (sym (share.there k n y B others w m carried)) (by (held.In k n y B None (mutex_n m)) refl)
    where
      by_content : (c : Option Owned) → under (held.sight_with k n y B None) (mutex_n m) B ≡ c → held.In k n y B None (mutex_n m) ≡ false → Gone (content_gone (release_by j) (record w { mutexes = with_mutex w.mutexes m None }) (option_map plain_of c))
      by_content None e goes = share.mutex_gone k n y B others w m carried goes None e
      by_content (Some c) e goes =
          let fall = mutex_falls w.mutexes m (shared w m carried) None (share.there k n y B others w m carried) in
          go (record w { mutexes = with_mutex w.mutexes m None }) c (share.next_content k n y B others w m carried goes c e) (omega (arith, le, fall))

      by : (b : Bool) → held.In k n y B None (mutex_n m) ≡ b → Gone (share_gone (release_by j) w m (shared w m carried) (shared w m carried).shares)
      by true e = subst (λ i. Gone (share_gone (release_by j) w m (shared w m carried) i)) (sym (share.many k n y B others w m carried e)) (share.share_stays k n y B others w m carried e)
      by false e = subst (λ i. Gone (share_gone (release_by j) w m (shared w m carried) i)) (sym (share.last k n y B others w m carried e)) (by_content (under (held.sight_with k n y B None) (mutex_n m) B) refl e)

  -- AT THE END OF ITS BOXES

  end_gone : (j : ℕ) → ((i : ℕ) → j ≡ suc i → ValueGone i) → EndGone j
  end_gone zero go w owned.Nothing b carried le = flat_end w owned.Nothing carried nothing_flat
  end_gone (suc j) go w owned.Nothing b carried le = flat_end w owned.Nothing carried nothing_flat
  end_gone zero go w owned.Unit b carried le = flat_end w owned.Unit carried unit_flat
  end_gone (suc j) go w owned.Unit b carried le = flat_end w owned.Unit carried unit_flat
  end_gone zero go w (owned.Int i) b carried le = flat_end w (owned.Int i) carried (int_flat i)
  end_gone (suc j) go w (owned.Int i) b carried le = flat_end w (owned.Int i) carried (int_flat i)
  end_gone zero go w (owned.Box o) b carried le = absurd b
  end_gone (suc j) go w (owned.Box o) b carried le = absurd b
  end_gone zero go w (owned.Task u) b carried le = no_task w u carried le
  end_gone (suc j) go w (owned.Task u) b carried le = task_gone j (go j refl) w u carried le
  end_gone zero go w (owned.Mutex m) b carried le = let l = mutex_here w.mutexes m _ (share.there k n y B others w m carried) in absurd (omega (arith, l, le))
  end_gone (suc j) go w (owned.Mutex m) b carried le = mutex_gone j (go j refl) w m carried le

  -- LINK BY LINK

  abbrev LinksGone : ℕ → ℕ → Type 0
  LinksGone j i = (w : CodeWhole) (v : Owned) → Carries k n y B w v → left w ≤ j → live w.heap ≤ i → Gone (release_by j (record w { heap = drop_links i w.heap (plain_of v) }) (last_link i w.heap (plain_of v)))

  no_box : (j i : ℕ) (w : CodeWhole) (v : Owned) → NoBox v → Gone (release_by j w (plain_of v)) → Gone (release_by j (record w { heap = drop_links i w.heap (plain_of v) }) (last_link i w.heap (plain_of v)))
  no_box j i w v b t = let f = no_links i w.heap v b in subst (λ h. Gone (release_by j (record w { heap = h }) (last_link i w.heap (plain_of v)))) (sym f.0) (subst (λ z. Gone (release_by j w z)) (sym f.1) t)

  -- nothing is in the object, which is gone
  box_bare : (w : CodeWhole) (b : BoxPtr) → Carries k n y B w (owned.Box b) → cell_at w.heap b.object ≡ None → Gone w
  box_bare w b carried none = by (under (held.sight_with k n y B None) (object_n b.object) B) refl (sym (cell_is k n y B others w b carried) ∙ none)
    where
      by : (c : Option Owned) → under (held.sight_with k n y B None) (object_n b.object) B ≡ c → option_map plain_of c ≡ None → Gone w
      by None e f = opened k n y B others w b carried None e w.heap none (λ x ne. refl) (λ u. refl)
      by (Some c) e f = absurd (cc f)

  -- or what is in it is what stands under it
  box_full : (w : CodeWhole) (b : BoxPtr) → Carries k n y B w (owned.Box b) → (p : Plain) → cell_at w.heap b.object ≡ Some p → (c : Owned) × ((plain_of c ≡ p) × Carries k n y B (record w { heap = with_cell w.heap b.object None }) c)
  box_full w b carried p there = by (under (held.sight_with k n y B None) (object_n b.object) B) refl (sym (cell_is k n y B others w b carried) ∙ there)
    where
      by : (c : Option Owned) → under (held.sight_with k n y B None) (object_n b.object) B ≡ c → option_map plain_of c ≡ Some p → (c : Owned) × ((plain_of c ≡ p) × Carries k n y B (record w { heap = with_cell w.heap b.object None }) c)
      by None e f = absurd (cc f)
      by (Some c) e f =
          (c, ((let same : plain_of c ≡ p = cc in same), next_box k n y B others w b carried c e (with_cell w.heap b.object None) (cell_same w.heap b.object None (live_made w.heap b.object p there)) (λ x ne. cell_other w.heap b.object x None ne) (λ u. made_kept w.heap b.object None u)))

  -- nothing more is let go
  none_more : (j : ℕ) (w : CodeWhole) → release_by j w plain.Nothing ≡ w
  none_more zero w = refl
  none_more (suc j) w = refl

  box_last : (j : ℕ) (w : CodeWhole) (o : ObjNo) → release_by j w (plain.Box o) ≡ w
  box_last zero w o = refl
  box_last (suc j) w o = refl

  links_gone : (j : ℕ) → EndGone j → (i : ℕ) → LinksGone j i
  links_gone j end i w owned.Nothing carried le l = no_box j i w owned.Nothing tt (end w owned.Nothing tt carried le)
  links_gone j end i w owned.Unit carried le l = no_box j i w owned.Unit tt (end w owned.Unit tt carried le)
  links_gone j end i w (owned.Int z) carried le l = no_box j i w (owned.Int z) tt (end w (owned.Int z) tt carried le)
  links_gone j end i w (owned.Mutex m) carried le l = no_box j i w (owned.Mutex m) tt (end w (owned.Mutex m) tt carried le)
  links_gone j end i w (owned.Task t) carried le l = no_box j i w (owned.Task t) tt (end w (owned.Task t) tt carried le)
  links_gone j end zero w (owned.Box b) carried le l = subst Gone (sym (box_last j w b.object)) (by (cell_at w.heap b.object) refl)
    where
      by : (o : Option Plain) → cell_at w.heap b.object ≡ o → Gone w
      by None e = box_bare w b carried e
      by (Some p) e = let h = live_falls w.heap b.object p e in absurd (omega (arith, h, l))
  links_gone j end (suc i) w (owned.Box b) carried le l = by (cell_at w.heap b.object) refl (links_gone j end i)
    where
      by : (o : Option Plain) → cell_at w.heap b.object ≡ o → LinksGone j i
          → Gone (release_by j (record w { heap = then_drop o w.heap (drop_links i (with_cell w.heap b.object None)) }) (then_link o (last_link i (with_cell w.heap b.object None))))
      by None e go = subst Gone (sym (none_more j w)) (box_bare w b carried e)
      by (Some p) e go =
          let h = live_falls w.heap b.object p e in
          let f = box_full w b carried p e in
          subst (λ z. Gone (release_by j (record w { heap = drop_links i (with_cell w.heap b.object None) z }) (last_link i (with_cell w.heap b.object None) z))) f.1.0
          (go (record w { heap = with_cell w.heap b.object None }) f.0 f.1.1 le (omega (arith, h, l)))

  -- A DROP

  gone : (j : ℕ) → ValueGone j
  gone zero w v carried le = links_gone zero (end_gone zero (λ i e. absurd (omega (arith, e)))) (live w.heap) w v carried le (omega arith)
  gone (suc j) w v carried le = links_gone (suc j) (end_gone (suc j) (λ i e. subst ValueGone (let f : j ≡ i = omega (arith, e) in f) (gone j))) (live w.heap) w v carried le (omega arith)

  pub drop_shows : (w : CodeWhole) (v : Owned) → Carries k n y B w v → Shows k n y B (dropped w (plain_of v)) None
  drop_shows w v carried = gone (count_both w.mutexes w.threads) w v carried (left_bounded w.mutexes w.threads)
