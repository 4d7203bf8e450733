-- The threads at places, once one comes, goes or is looked for.
use Rattle.std.proofs.Common.{if◌then◌else◌, ◌≡◌, is_some, true≢false, ℕ, ◌+◌, ◌≤◌, ◌<◌, ◌&&◌, not, Bool, true, false, ◌==◌, nat_lt, List, [], ◌∷◌, map, length, slice_get, Option, None, Some, option_map, refl, sym, ap, ◌∙◌, arith}
use Rattle.std.proofs.lemmas.Bool.{eq-eqb, eqb-true, ltb-true, ltb-false, lt-ltb, le-ltb, ne_eqb}
use Rattle.rank_map.specs.Places.{Place, Entry, place_at, item_in, item_at, put_first, with_place, entry_first, entries, Rises}
use Rattle.rank_map.specs.Marks.{mark_if, mark_of, marked}
use Rattle.rank_map.proofs.PlaceLemmas.{below_all}
use Rattle.thread_state.specs.View.{ThreadState, ThreadView, is_over}
use Rattle.server_model.specs.Work.{thread_in, set_thread, with_thread, without_thread}
use Rattle.server_model.specs.Events.{can_step, is_ready}
use Rattle.server_model.specs.Questions.{runnable_in, active_in, movable_in}
use Rattle.server_parts.specs.Threads.{states, HasKey, AreNumbered, steps, moves}

-- the threads of entries
abbrev of : List (Entry ThreadView) → List ThreadState
of es = map (λ v. v.state) (map (λ e. e.item) es)

pub thread_at : (ps : List (Place ThreadView)) (low high k : ℕ) → Rises low high ps → AreNumbered ps → thread_in (states ps) k ≡ option_map (λ v. v.state) (item_at ps k)
thread_at [] low high k r n = refl
thread_at (p ∷ ps) low high k r n = by p.item (p.key == k) refl n.0 (thread_at ps (p.key + 1) high k r.1 n.1)
  where
    none : (p.key == k) ≡ true → item_at ps k ≡ None
    none e = ap item_in (below_all ps (p.key + 1) high k r.1 (omega (arith, eqb-true p.key k e)))

    by : (x : Option ThreadView) (b : Bool) → (p.key == k) ≡ b → HasKey p.key x → thread_in (states ps) k ≡ option_map (λ v. v.state) (item_at ps k)
        → thread_in (of (entry_first p.key x (entries ps))) k ≡ option_map (λ v. v.state) (item_in (if b then Some x else place_at ps k))
    by None true e h ih = ih ∙ ap (option_map (λ v. v.state)) (none e)
    by None false e h ih = ih
    by (Some v) true e h ih = ap (λ b. if b then Some v.state else thread_in (states ps) k) (ap (λ i. i == k) h ∙ e)
    by (Some v) false e h ih = ap (λ b. if b then Some v.state else thread_in (states ps) k) (ap (λ i. i == k) h ∙ e) ∙ ih

-- a thread before all of them comes first
before_all : (ps : List (Place ThreadView)) (low high : ℕ) (new : ThreadState) → Rises low high ps → AreNumbered ps → new.number < low → with_thread (states ps) new ≡ new ∷ states ps
before_all [] low high new r n h = refl
before_all (p ∷ ps) low high new r n h = by p.item n.0 (before_all ps (p.key + 1) high new r.1 n.1 (omega (arith, h, r.0)))
  where
    by : (x : Option ThreadView) → HasKey p.key x → with_thread (states ps) new ≡ new ∷ states ps → with_thread (of (entry_first p.key x (entries ps))) new ≡ new ∷ of (entry_first p.key x (entries ps))
    by None g ih = ih
    by (Some v) g ih = ap (λ b. if b then new ∷ v.state ∷ states ps else v.state ∷ with_thread (states ps) new) (lt-ltb new.number v.state.number (omega (arith, h, r.0, g)))

-- a thread comes to its free place
pub put_states : (ps : List (Place ThreadView)) (low high k : ℕ) (v : ThreadView) → Rises low high ps → AreNumbered ps → v.state.number ≡ k → item_at ps k ≡ None → states (with_place ps k (Some (Some v))) ≡ with_thread (states ps) v.state
put_states [] low high k v r n is none = refl
put_states (p ∷ ps) low high k v r n is none =
    by p.item (nat_lt k p.key) (p.key == k) refl refl refl n.0 (λ e. put_states ps (p.key + 1) high k v r.1 n.1 is (sym (ap (λ b. item_in (if b then Some p.item else place_at ps k)) e) ∙ none))
  where
    taken : (x : Option ThreadView) → p.item ≡ x → (p.key == k) ≡ true → x ≡ None
    taken x here e = sym here ∙ sym (ap (λ b. item_in (if b then Some p.item else place_at ps k)) e) ∙ none

    by : (x : Option ThreadView) (a b : Bool) → p.item ≡ x → nat_lt k p.key ≡ a → (p.key == k) ≡ b → HasKey p.key x → ((p.key == k) ≡ false → states (with_place ps k (Some (Some v))) ≡ with_thread (states ps) v.state)
        → of (entries (if a then put_first k (Some (Some v)) (record { key = p.key; item = x } ∷ ps) else (if b then put_first k (Some (Some v)) ps else record { key = p.key; item = x } ∷ with_place ps k (Some (Some v))))) ≡ with_thread (of (entry_first p.key x (entries ps))) v.state
    by x true b here lt e g ih = sym (before_all (record { key = p.key; item = x } ∷ ps) p.key high v.state (omega arith, r.1) (g, n.1) (omega (arith, ltb-true k p.key lt, is)))
    by None false true here lt e g ih = sym (before_all ps (p.key + 1) high v.state r.1 n.1 (omega (arith, eqb-true p.key k e, is)))
    by (Some w) false true here lt e g ih = absurd (some_none (taken (Some w) here e))
      where
        some_none : Some w ≡ None → ⊥
        some_none q = cc
    by None false false here lt e g ih = ih e
    by (Some w) false false here lt e g ih =
        ap (λ ts. w.state ∷ ts) (ih e)
        ∙ sym (ap (λ b. if b then v.state ∷ w.state ∷ states ps else w.state ∷ with_thread (states ps) v.state) (le-ltb v.state.number w.state.number (omega (arith, ltb-false k p.key lt, is, g))))

without_none : (ps : List (Place ThreadView)) (low high k : ℕ) → Rises low high ps → AreNumbered ps → k < low → without_thread (states ps) k ≡ states ps
without_none [] low high k r n h = refl
without_none (p ∷ ps) low high k r n h = by p.item n.0 (without_none ps (p.key + 1) high k r.1 n.1 (omega (arith, h, r.0)))
  where
    by : (x : Option ThreadView) → HasKey p.key x → without_thread (states ps) k ≡ states ps → without_thread (of (entry_first p.key x (entries ps))) k ≡ of (entry_first p.key x (entries ps))
    by None g ih = ih
    by (Some v) g ih =
        ap (λ b. if b then states ps else v.state ∷ without_thread (states ps) k) (ne_eqb v.state.number k (λ e. omega (arith, e, h, r.0, g))) ∙ ap (λ ts. v.state ∷ ts) ih

-- a thread goes, and its place is free
pub take_states : (ps : List (Place ThreadView)) (low high k : ℕ) → Rises low high ps → AreNumbered ps → states (with_place ps k (Some None)) ≡ without_thread (states ps) k
take_states [] low high k r n = refl
take_states (p ∷ ps) low high k r n = by p.item (nat_lt k p.key) (p.key == k) refl refl n.0 (take_states ps (p.key + 1) high k r.1 n.1)
  where
    by : (x : Option ThreadView) (a b : Bool) → nat_lt k p.key ≡ a → (p.key == k) ≡ b → HasKey p.key x → states (with_place ps k (Some None)) ≡ without_thread (states ps) k
        → of (entries (if a then put_first k (Some None) (record { key = p.key; item = x } ∷ ps) else (if b then put_first k (Some None) ps else record { key = p.key; item = x } ∷ with_place ps k (Some None)))) ≡ without_thread (of (entry_first p.key x (entries ps))) k
    by x true b lt e g ih = sym (without_none (record { key = p.key; item = x } ∷ ps) p.key high k (omega arith, r.1) (g, n.1) (ltb-true k p.key lt))
    by None false true lt e g ih = sym (without_none ps (p.key + 1) high k r.1 n.1 (omega (arith, eqb-true p.key k e)))
    by (Some w) false true lt e g ih = sym (ap (λ b. if b then states ps else w.state ∷ without_thread (states ps) k) (ap (λ i. i == k) g ∙ e))
    by None false false lt e g ih = ih
    by (Some w) false false lt e g ih = ap (λ ts. w.state ∷ ts) ih ∙ sym (ap (λ b. if b then states ps else w.state ∷ without_thread (states ps) k) (ap (λ i. i == k) g ∙ e))

-- threads stay numbered once one comes, or none
pub numbered_with : (ps : List (Place ThreadView)) (k : ℕ) (x : Option ThreadView) → AreNumbered ps → HasKey k x → AreNumbered (with_place ps k (Some x))
numbered_with [] k x n h = (h, tt)
numbered_with (p ∷ ps) k x n h = by (nat_lt k p.key) (p.key == k) (numbered_with ps k x n.1 h)
  where
    by : (a b : Bool) → AreNumbered (with_place ps k (Some x)) → AreNumbered (if a then put_first k (Some x) (p ∷ ps) else (if b then put_first k (Some x) ps else p ∷ with_place ps k (Some x)))
    by true b ih = (h, n)
    by false true ih = (h, n.1)
    by false false ih = (n.0, ih)

pub runnable_keys : (ps : List (Place ThreadView)) → AreNumbered ps → map (λ e. e.key) (entries (marked steps ps)) ≡ runnable_in (states ps)
runnable_keys [] n = refl
runnable_keys (p ∷ ps) n = by p.item n.0 (runnable_keys ps n.1)
  where
    go : (b : Bool) (k : ℕ) → p.key ≡ k → map (λ e. e.key) (entries (marked steps ps)) ≡ runnable_in (states ps) → map (λ e. e.key) (entry_first p.key (mark_if b) (entries (marked steps ps))) ≡ (if b then k ∷ runnable_in (states ps) else runnable_in (states ps))
    go true k is ih = ap (λ i. i ∷ map (λ e. e.key) (entries (marked steps ps))) is ∙ ap (λ ks. k ∷ ks) ih
    go false k is ih = ih

    by : (x : Option ThreadView) → HasKey p.key x → map (λ e. e.key) (entries (marked steps ps)) ≡ runnable_in (states ps) → map (λ e. e.key) (entry_first p.key (mark_of steps x) (entries (marked steps ps))) ≡ runnable_in (of (entry_first p.key x (entries ps)))
    by None g ih = ih
    by (Some v) g ih = go (can_step v.state.phase) v.state.number (sym g) ih

-- one, if the thread isn't over
abbrev one_active : ThreadState → ℕ
one_active t = active_in (t ∷ [])

pub counts_first : (t : ThreadState) (ts : List ThreadState) → active_in (t ∷ ts) ≡ one_active t + active_in ts
counts_first t ts = by (is_over t.phase)
  where
    by : (b : Bool) → (if b then active_in ts else 1 + active_in ts) ≡ (if b then 0 else 1 + 0) + active_in ts
    by true = omega arith
    by false = omega arith

-- a thread that comes is counted
pub active_with : (ts : List ThreadState) (t : ThreadState) → active_in (with_thread ts t) ≡ active_in ts + active_in (t ∷ [])
active_with [] t = omega arith
active_with (u ∷ us) t = by (nat_lt t.number u.number) (active_with us t)
  where
    by : (b : Bool) → active_in (with_thread us t) ≡ active_in us + active_in (t ∷ []) → active_in (if b then t ∷ u ∷ us else u ∷ with_thread us t) ≡ active_in (u ∷ us) + active_in (t ∷ [])
    by true ih = let first = counts_first t (u ∷ us) in omega (arith, first)
    by false ih = let here = counts_first u us in let there = counts_first u (with_thread us t) in omega (arith, here, there, ih)

-- and one that goes isn't any more
pub active_without : (ts : List ThreadState) (k : ℕ) (t : ThreadState) → thread_in ts k ≡ Some t → active_in ts ≡ active_in (without_thread ts k) + active_in (t ∷ [])
active_without [] k t e = absurd cc
active_without (u ∷ us) k t e = by (u.number == k) (active_without us k t) e
  where
    by : (b : Bool) → (thread_in us k ≡ Some t → active_in us ≡ active_in (without_thread us k) + active_in (t ∷ [])) → (if b then Some u else thread_in us k) ≡ Some t
        → active_in (u ∷ us) ≡ active_in (if b then us else u ∷ without_thread us k) + active_in (t ∷ [])
    by true ih q = let same : u ≡ t = cc in let here = counts_first u us in let one : active_in (u ∷ []) ≡ active_in (t ∷ []) = ap (λ x. active_in (x ∷ [])) same in omega (arith, here, one)
    by false ih q = let rest = ih q in let here = counts_first u us in let there = counts_first u (without_thread us k) in omega (arith, here, there, rest)

pub active_few : (ts : List ThreadState) → active_in ts ≤ length ts
active_few [] = omega arith
active_few (t ∷ ts) = by (is_over t.phase) (active_few ts)
  where
    by : (b : Bool) → active_in ts ≤ length ts → (if b then active_in ts else 1 + active_in ts) ≤ length (t ∷ ts)
    by true ih = omega (arith, ih)
    by false ih = omega (arith, ih)

pub movable_key : (ps : List (Place ThreadView)) → AreNumbered ps → option_map (λ e. e.key) (slice_get (entries (marked moves ps)) 0) ≡ movable_in (states ps)
movable_key [] n = refl
movable_key (p ∷ ps) n = by p.item n.0 (movable_key ps n.1)
  where
    go : (b : Bool) (k : ℕ) → p.key ≡ k → option_map (λ e. e.key) (slice_get (entries (marked moves ps)) 0) ≡ movable_in (states ps)
        → option_map (λ e. e.key) (slice_get (entry_first p.key (mark_if b) (entries (marked moves ps))) 0) ≡ (if b then Some k else movable_in (states ps))
    go true k is ih = ap Some is
    go false k is ih = ih

    by : (x : Option ThreadView) → HasKey p.key x → option_map (λ e. e.key) (slice_get (entries (marked moves ps)) 0) ≡ movable_in (states ps)
        → option_map (λ e. e.key) (slice_get (entry_first p.key (mark_of moves x) (entries (marked moves ps))) 0) ≡ movable_in (of (entry_first p.key x (entries ps)))
    by None g ih = ih
    by (Some v) g ih = go (is_ready v.state.phase && not v.state.moved_since_step) v.state.number (sym g) ih

-- a thread that is taken out and put back in another state stands where it stood
pub put_again : (ps : List (Place ThreadView)) (low high k : ℕ) → Rises low high ps → AreNumbered ps → is_some (item_at ps k) ≡ true → (t : ThreadState) → t.number ≡ k → with_thread (without_thread (states ps) k) t ≡ set_thread (states ps) t
put_again [] low high k r n there t is = absurd (true≢false (sym there))
put_again (p ∷ ps) low high k r n there t is = by p.item (p.key == k) refl n.0 there (λ h. put_again ps (p.key + 1) high k r.1 n.1 h t is)
  where
    above : is_some (item_at ps k) ≡ true → (b : Bool) → nat_lt k (p.key + 1) ≡ b → p.key < k
    above h true e = absurd (true≢false (sym h ∙ ap (λ x. is_some (item_in x)) (below_all ps (p.key + 1) high k r.1 (ltb-true k (p.key + 1) e))))
    above h false e = omega (arith, ltb-false k (p.key + 1) e)

    first : (v : ThreadView) → v.state.number ≡ p.key → (p.key == k) ≡ true → with_thread (without_thread (v.state ∷ states ps) k) t ≡ set_thread (v.state ∷ states ps) t
    first v g e =
        let same = eqb-true p.key k e in
        ap (λ b. with_thread (if b then states ps else v.state ∷ without_thread (states ps) k) t) (ap (λ i. i == k) g ∙ e)
        ∙ before_all ps (p.key + 1) high t r.1 n.1 (omega (arith, same, is))
        ∙ sym (ap (λ b. if b then t ∷ states ps else v.state ∷ set_thread (states ps) t) (eq-eqb v.state.number t.number (omega (arith, same, is, g))))

    later : (v : ThreadView) → v.state.number ≡ p.key → p.key < k → with_thread (without_thread (states ps) k) t ≡ set_thread (states ps) t → with_thread (without_thread (v.state ∷ states ps) k) t ≡ set_thread (v.state ∷ states ps) t
    later v g less ih =
        ap (λ b. with_thread (if b then states ps else v.state ∷ without_thread (states ps) k) t) (ne_eqb v.state.number k (λ e. omega (arith, e, g, less)))
        ∙ ap (λ b. if b then t ∷ v.state ∷ without_thread (states ps) k else v.state ∷ with_thread (without_thread (states ps) k) t) (le-ltb t.number v.state.number (omega (arith, is, g, less)))
        ∙ ap (λ ts. v.state ∷ ts) ih
        ∙ sym (ap (λ b. if b then t ∷ states ps else v.state ∷ set_thread (states ps) t) (ne_eqb v.state.number t.number (λ e. omega (arith, e, is, g, less))))

    by : (x : Option ThreadView) (b : Bool) → (p.key == k) ≡ b → HasKey p.key x → is_some (item_in (if b then Some x else place_at ps k)) ≡ true → (is_some (item_at ps k) ≡ true → with_thread (without_thread (states ps) k) t ≡ set_thread (states ps) t)
        → with_thread (without_thread (of (entry_first p.key x (entries ps))) k) t ≡ set_thread (of (entry_first p.key x (entries ps))) t
    by None true e g h ih = absurd (true≢false (sym h))
    by None false e g h ih = ih h
    by (Some v) true e g h ih = first v g e
    by (Some v) false e g h ih = later v g (above h (nat_lt k (p.key + 1)) refl) (ih h)
