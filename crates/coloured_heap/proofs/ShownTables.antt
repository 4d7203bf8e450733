-- Each change of a table is shown of the list that changes alike.
use Rattle.std.proofs.Common.{◌≡◌, ℕ, ◌+◌, ◌-◌, ◌&&◌, ◌==◌, ◌++◌, cond, Bool, true, false, List, [], ◌∷◌, Option, Some, None, refl, ap, ap₂, sym, subst, ◌∙◌}
use Rattle.std.specs.Prelude.{is_some, nat_eq}
use Rattle.std.specs.Map.{count_at}
use Rattle.indexmap.specs.IndexMap.{IndexMap, get}
use Rattle.indexmap.specs.IndexSet.{IndexSet, contains}
use Rattle.fr_base.specs.Names.{same_object, same_mutex}
use Rattle.fr_base.specs.declared.name.MutexNo.{MutexNo}
use Rattle.fr_base.specs.declared.name.ObjNo.{ObjNo}
use Rattle.coloured_heap.specs.Lists.{first, times, less_first, less_all, with_each}
use Rattle.coloured_heap.specs.Heap as heap
use Rattle.coloured_heap.specs.Heap.{Living, Copied, Running, Guarded, is_object, is_thread, is_mutex, is_under, is_copy}
use Rattle.coloured_heap.specs.Changes.{with_copy}
use Rattle.coloured_heap.specs.Tables.{object_key, mutex_key, same_object_key, same_mutex_key, wish_of, seen, stand_of, changed_living, changed_running, ShowsObjects, ShowsCached, ShowsServed, ShowsThreads, ShowsWishes, ShowsMutexes}
use Rattle.coloured_heap.specs.declared.changes.ObjectChange.{ObjectChange}
use Rattle.coloured_heap.specs.declared.changes.ObjectChange.TheVariants as object_change
use Rattle.coloured_heap.specs.declared.changes.ThreadChange.{ThreadChange}
use Rattle.coloured_heap.specs.declared.changes.ThreadChange.TheVariants as thread_change
use Rattle.coloured_heap.specs.declared.keys.MutexKey.{MutexKey}
use Rattle.coloured_heap.specs.declared.keys.ObjectKey.{ObjectKey}
use Rattle.coloured_heap.specs.declared.keys.Wish.{Wish}
use Rattle.coloured_heap.specs.declared.tables.Object.{Object}
use Rattle.coloured_heap.specs.declared.tables.Stand.{Stand}
use Rattle.coloured_heap.specs.contracts.keys.WishPartialEq.TheImpl.{eq-value}
use Rattle.coloured_heap.proofs.Times.{both, number_is, object_is, mutex_is}
use Rattle.coloured_heap.proofs.Same.{copy_goes, wish_goes}
use Rattle.coloured_heap.proofs.Shown.{shown_put, shown_gone, shown_written, shown_left, has_gone, has_renewed, passes, times_end, none_goes, counted_more, counted_less}
use Rattle.coloured_heap.proofs.ShownNames.{number_flip, object_flip, mutex_flip, same_pair, pair_is, pair_flip, copy_itself, other_order, wish_itself, wish_keys_back}

-- OBJECTS

same_living : (by : ObjectChange) (x : Living) → (changed_living by x).object ≡ x.object
same_living (object_change.Leaves there) x = refl
same_living (object_change.Comes here w) x = refl
same_living (object_change.Recoloured w) x = refl
same_living object_change.GivenUp x = refl

module _ {S : Type 0} (m n : IndexMap ObjectKey Object S) where
  -- the entry under a key gets that value, or goes
  abbrev pub WritesObject : ObjectKey → Option Object → Type 0
  WritesObject k v = (q : ObjectKey) → get same_object_key n q ≡ cond (same_object_key k q) v (get same_object_key m q)

  under : (o : ObjNo) (k : ObjectKey) (v : Option Object) → k ≡ object_key o → WritesObject k v
      → (q : ObjNo) → get same_object_key n (object_key q) ≡ cond (same_object o q) v (get same_object_key m (object_key q))
  under o k v key writes q = writes (object_key q) ∙ ap (λ z. cond (same_object_key z (object_key q)) v (get same_object_key m (object_key q))) key

  pub object_made : (x : Living) (xs : List Living) (k : ObjectKey) → k ≡ object_key x.object → WritesObject k (Some (seen x)) → ShowsObjects m xs → ShowsObjects n (x ∷ xs)
  object_made x xs k key writes h =
      shown_put (λ y. y.object) same_object object_is object_flip seen (λ p. get same_object_key m (object_key p)) (λ p. get same_object_key n (object_key p)) x xs (under x.object k (Some (seen x)) key writes) h

  pub object_gone : (o : ObjNo) (xs : List Living) (k : ObjectKey) → k ≡ object_key o → WritesObject k None → ShowsObjects m xs → ShowsObjects n (less_all (is_object o) xs)
  object_gone o xs k key writes h =
      shown_gone (λ y. y.object) same_object object_is object_flip seen (λ p. get same_object_key m (object_key p)) (λ p. get same_object_key n (object_key p)) o xs (under o k None key writes) h

  pub object_changed : (o : ObjNo) (by : ObjectChange) (before after : Object) (xs : List Living) (k : ObjectKey) → k ≡ object_key o → ((x : Living) → seen x ≡ before → seen (changed_living by x) ≡ after)
      → get same_object_key m k ≡ Some before → WritesObject k (Some after) → ShowsObjects m xs → ShowsObjects n (with_each (is_object o) (changed_living by) xs)
  object_changed o by before after xs k key changed there writes h =
      shown_written (λ y. y.object) same_object object_is object_flip seen (λ p. get same_object_key m (object_key p)) (λ p. get same_object_key n (object_key p)) o before after (changed_living by) xs
      (same_living by) changed (subst (λ z. get same_object_key m z ≡ Some before) key there) (under o k (Some after) key writes) h

  pub object_left : (o : ObjNo) (by : ObjectChange) (xs : List Living) (k : ObjectKey) → k ≡ object_key o → get same_object_key m k ≡ None → ShowsObjects m xs → ShowsObjects m (with_each (is_object o) (changed_living by) xs)
  object_left o by xs k key none h =
      shown_left (λ y. y.object) same_object object_is object_flip seen (λ p. get same_object_key m (object_key p)) o (changed_living by) xs (same_living by) (subst (λ z. get same_object_key m z ≡ None) key none) h

-- THREADS

same_running : (by : ThreadChange) (r : Running) → (changed_running by r).thread ≡ r.thread
same_running thread_change.Finished r = refl
same_running (thread_change.Goes there) r = refl

module _ {S : Type 0} (m n : IndexMap ℕ Stand S) where
  pub thread_changed : (t : ℕ) (by : ThreadChange) (before after : Stand) (rs : List Running) → ((r : Running) → stand_of r ≡ before → stand_of (changed_running by r) ≡ after)
      → get nat_eq m t ≡ Some before → ((q : ℕ) → get nat_eq n q ≡ cond (t == q) (Some after) (get nat_eq m q)) → ShowsThreads m rs → ShowsThreads n (with_each (is_thread t) (changed_running by) rs)
  thread_changed t by before after rs changed there writes h =
      shown_written (λ r. r.thread) (λ a b. a == b) number_is number_flip stand_of (get nat_eq m) (get nat_eq n) t before after (changed_running by) rs (same_running by) changed there writes h

  pub thread_left : (t : ℕ) (by : ThreadChange) (rs : List Running) → get nat_eq m t ≡ None → ShowsThreads m rs → ShowsThreads m (with_each (is_thread t) (changed_running by) rs)
  thread_left t by rs none h = shown_left (λ r. r.thread) (λ a b. a == b) number_is number_flip stand_of (get nat_eq m) t (changed_running by) rs (same_running by) none h

-- MUTEXES

module _ {S : Type 0} (m n : IndexMap MutexKey (Option ℕ) S) where
  abbrev pub WritesMutex : MutexKey → Option ℕ → Type 0
  WritesMutex k v = (q : MutexKey) → get same_mutex_key n q ≡ cond (same_mutex_key k q) (Some v) (get same_mutex_key m q)

  at : (o : MutexNo) (k : MutexKey) (v : Option ℕ) → k ≡ mutex_key o → WritesMutex k v
      → (q : MutexNo) → get same_mutex_key n (mutex_key q) ≡ cond (same_mutex o q) (Some v) (get same_mutex_key m (mutex_key q))
  at o k v key writes q = writes (mutex_key q) ∙ ap (λ z. cond (same_mutex_key z (mutex_key q)) (Some v) (get same_mutex_key m (mutex_key q))) key

  pub mutex_made : (g : Guarded) (gs : List Guarded) (k : MutexKey) → k ≡ mutex_key g.mutex → WritesMutex k g.holder → ShowsMutexes m gs → ShowsMutexes n (g ∷ gs)
  mutex_made g gs k key writes h =
      shown_put (λ x. x.mutex) same_mutex mutex_is mutex_flip (λ x. x.holder) (λ p. get same_mutex_key m (mutex_key p)) (λ p. get same_mutex_key n (mutex_key p)) g gs (at g.mutex k g.holder key writes) h

  pub holder_changed : (o : MutexNo) (before after : Option ℕ) (gs : List Guarded) (k : MutexKey) → k ≡ mutex_key o
      → get same_mutex_key m k ≡ Some before → WritesMutex k after → ShowsMutexes m gs → ShowsMutexes n (with_each (is_mutex o) (λ g. record g { holder = after }) gs)
  holder_changed o before after gs k key there writes h =
      shown_written (λ x. x.mutex) same_mutex mutex_is mutex_flip (λ x. x.holder) (λ p. get same_mutex_key m (mutex_key p)) (λ p. get same_mutex_key n (mutex_key p)) o before after (λ g. record g { holder = after }) gs
      (λ x. refl) (λ x is. refl) (subst (λ z. get same_mutex_key m z ≡ Some before) key there) (at o k after key writes) h

  pub holder_left : (o : MutexNo) (after : Option ℕ) (gs : List Guarded) (k : MutexKey) → k ≡ mutex_key o → get same_mutex_key m k ≡ None → ShowsMutexes m gs → ShowsMutexes m (with_each (is_mutex o) (λ g. record g { holder = after }) gs)
  holder_left o after gs k key none h =
      shown_left (λ x. x.mutex) same_mutex mutex_is mutex_flip (λ x. x.holder) (λ p. get same_mutex_key m (mutex_key p)) o (λ g. record g { holder = after }) gs (λ x. refl) (subst (λ z. get same_mutex_key m z ≡ None) key none) h

-- CACHES

module _ {S : Type 0} (m n : IndexSet (ℕ × ℕ) S) (cs : List Copied) (h : ShowsCached m cs) where
  pub copy_gone : (here w : ℕ) → ((q : ℕ × ℕ) → contains same_pair n q ≡ cond (same_pair (here, w) q) false (contains same_pair m q)) → ShowsCached n (less_all (is_under here w) cs)
  copy_gone here w gone there v = has_gone (λ c. (c.server, c.word)) same_pair pair_is pair_flip (contains same_pair m) (contains same_pair n) cs (λ p. h p.0 p.1) (here, w) (there, v) (gone (there, v))

  pub copy_come : (c : Copied) → ((q : ℕ × ℕ) → contains same_pair n q ≡ cond (same_pair (c.server, c.word) q) true (contains same_pair m q)) → ShowsCached n (c ∷ less_all (is_under c.server c.word) cs)
  copy_come c come there v = has_renewed (λ d. (d.server, d.word)) same_pair pair_is pair_flip (contains same_pair m) (contains same_pair n) cs (λ p. h p.0 p.1) c (there, v) (come (there, v))

  -- the copy that comes is the first that was served
  pub copy_filled : (p : ObjNo) (w here : ℕ) (served : List Copied) → true ≡ is_some (first (is_copy p w here) served)
      → ((q : ℕ × ℕ) → contains same_pair n q ≡ cond (same_pair (here, w) q) true (contains same_pair m q)) → ShowsCached n (with_copy (first (is_copy p w here) served) cs)
  copy_filled p w here served some come = by (first (is_copy p w here) served) refl some
    where
      by : (r : Option Copied) → first (is_copy p w here) served ≡ r → true ≡ is_some r → ShowsCached n (with_copy r cs)
      by None found q = absurd cc
      by (Some c) found q =
          let named = both (is_under here w c) (same_object c.object p) (passes (is_copy p w here) served c found) in
          let placed = both (c.server == here) (c.word == w) named.0 in
          let its : (c.server, c.word) ≡ (here, w) = ap₂ (λ x y. (x, y)) (number_is c.server here placed.0) (number_is c.word w placed.1) in
          copy_come c (subst (λ z. (q : ℕ × ℕ) → contains same_pair n q ≡ cond (same_pair z q) true (contains same_pair m q)) (sym its) come)

-- COPIES THAT WERE SERVED

abbrev pub same_served : ObjectKey × ℕ × ℕ → ObjectKey × ℕ × ℕ → Bool
same_served a b = same_object_key a.0 b.0 && (a.1 == b.1) && (a.2 == b.2)

module _ {S : Type 0} (m n : IndexMap (ObjectKey × ℕ × ℕ) ℕ S) (k : ObjectKey × ℕ × ℕ) (cs : List Copied) (h : ShowsServed m cs) where
  pub served_more : (c : Copied) → k ≡ (object_key c.object, c.word, c.server)
      → ((q : ObjectKey × ℕ × ℕ) → count_at (get same_served n) q ≡ cond (same_served k q) (count_at (get same_served m) k + 1) (count_at (get same_served m) q)) → ShowsServed n (cs ++ c ∷ [])
  served_more c key put q v there =
      let p = c.object in let w = c.word in let here = c.server in
      counted_more (is_copy q v there) (is_copy p w here) (copy_goes q p v w there here) c (copy_itself c) cs (same_served k (object_key q, v, there))
      (ap (λ z. same_served z (object_key q, v, there)) key ∙ other_order (same_object p q) (w == v) (here == there))
      (count_at (get same_served m) k) (count_at (get same_served m) (object_key q, v, there)) (ap (count_at (get same_served m)) key ∙ h p w here) (h q v there)
      (count_at (get same_served n) (object_key q, v, there)) (put (object_key q, v, there))
      ∙ sym (times_end (is_copy q v there) cs c)

  pub served_less : (p : ObjNo) (w here : ℕ) → true ≡ is_some (first (is_copy p w here) cs) → k ≡ (object_key p, w, here)
      → ((q : ObjectKey × ℕ × ℕ) → count_at (get same_served n) q ≡ cond (same_served k q) (count_at (get same_served m) k - 1) (count_at (get same_served m) q)) → ShowsServed n (less_first (is_copy p w here) cs)
  served_less p w here some key put q v there = by (first (is_copy p w here) cs) refl some
    where
      by : (r : Option Copied) → first (is_copy p w here) cs ≡ r → true ≡ is_some r → count_at (get same_served n) (object_key q, v, there) ≡ times (is_copy q v there) (less_first (is_copy p w here) cs)
      by None found none = absurd cc
      by (Some c) found there_is =
          let its = passes (is_copy p w here) cs c found in
          let named = both (is_under here w c) (same_object c.object p) its in
          let placed = both (c.server == here) (c.word == w) named.0 in
          let one_test : is_copy q v there c ≡ ((here == there) && (w == v)) && same_object p q = ap₂ (λ x y. ((x == there) && (y == v)) && same_object c.object q) (number_is c.server here placed.0) (number_is c.word w placed.1) ∙ ap (λ x. ((here == there) && (w == v)) && same_object x q) (object_is c.object p named.1) in
          counted_less (is_copy q v there) (is_copy p w here) (copy_goes q p v w there here) c its cs (same_served k (object_key q, v, there))
          (ap (λ z. same_served z (object_key q, v, there)) key ∙ other_order (same_object p q) (w == v) (here == there) ∙ sym one_test)
          (count_at (get same_served m) k) (count_at (get same_served m) (object_key q, v, there)) (ap (count_at (get same_served m)) key ∙ h p w here) (h q v there)
          (count_at (get same_served n) (object_key q, v, there)) (put (object_key q, v, there))

-- where no such copy was served, none comes
module _ (p : ObjNo) (w here : ℕ) (served : List Copied) (none : false ≡ is_some (first (is_copy p w here) served)) where
  not_found : first (is_copy p w here) served ≡ None
  not_found = by (first (is_copy p w here) served) none
    where
      by : (r : Option Copied) → false ≡ is_some r → r ≡ None
      by None h = refl
      by (Some c) h = absurd cc

  pub cached_kept : {S : Type 0} (m : IndexSet (ℕ × ℕ) S) (cs : List Copied) → ShowsCached m cs → ShowsCached m (with_copy (first (is_copy p w here) served) cs)
  cached_kept m cs h = subst (λ r. ShowsCached m (with_copy r cs)) (sym not_found) h

  pub served_kept : {S : Type 0} (m : IndexMap (ObjectKey × ℕ × ℕ) ℕ S) → ShowsServed m served → ShowsServed m (less_first (is_copy p w here) served)
  served_kept m h = subst (ShowsServed m) (sym (none_goes (is_copy p w here) served not_found)) h

-- WISHES

module _ {S : Type 0} (m n : IndexMap Wish ℕ S) (k : Wish) (ws : List heap.Wish) (h : ShowsWishes eq-value.it m ws) where
  pub wished_more : ((q : Wish) → count_at (get eq-value.it n) q ≡ cond (eq-value.it k q) (count_at (get eq-value.it m) k + 1) (count_at (get eq-value.it m) q)) → ShowsWishes eq-value.it n (wish_of k ∷ ws)
  wished_more put a =
      counted_more (heap.same_wish (wish_of a)) (heap.same_wish (wish_of k)) (wish_goes (wish_of a) (wish_of k)) (wish_of k) (wish_itself (wish_of k)) ws (eq-value.it k a) (wish_keys_back k a)
      (count_at (get eq-value.it m) k) (count_at (get eq-value.it m) a) (h k) (h a) (count_at (get eq-value.it n) a) (put a)

  pub wished_less : ((q : Wish) → count_at (get eq-value.it n) q ≡ cond (eq-value.it k q) (count_at (get eq-value.it m) k - 1) (count_at (get eq-value.it m) q)) → ShowsWishes eq-value.it n (less_first (heap.same_wish (wish_of k)) ws)
  wished_less put a =
      counted_less (heap.same_wish (wish_of a)) (heap.same_wish (wish_of k)) (wish_goes (wish_of a) (wish_of k)) (wish_of k) (wish_itself (wish_of k)) ws (eq-value.it k a) (wish_keys_back k a)
      (count_at (get eq-value.it m) k) (count_at (get eq-value.it m) a) (h k) (h a) (count_at (get eq-value.it n) a) (put a)
