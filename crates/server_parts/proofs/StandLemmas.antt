-- The threads of a server beside the sets of those that can step, wait and may be moved, and how many aren't over.
use Rattle.std.proofs.Common.{if◌then◌else◌, ◌≡◌, inl, inr, ℕ, ◌^◌, ◌≤◌, ◌<◌, ◌==◌, ◌&&◌, Bool, true, false, true≢false, List, [], ◌∷◌, map, length, slice_get, is_some, Option, None, Some, IsSome, option_map, Result, Ok, Err, OnOk, OnErr, refl, sym, subst, ap, ◌∙◌, arith}
use Rattle.std.proofs.lemmas.Bool.{eqb-true}
use Rattle.std.proofs.lemmas.List.{length-map}
use Rattle.std.proofs.lemmas.Option.{slice_get-map}
use Rattle.rank_map.specs.Places.{Place, Entry, place_at, has_place, item_in, item_at, with_place, with_free, entries, Rises}
use Rattle.rank_map.specs.Queues.{items_of}
use Rattle.rank_map.specs.Marks.{mark_if, mark_of, marked, IsMarked}
use Rattle.rank_map.proofs.PlaceLemmas.{rises_with, few_entries}
use Rattle.rank_map.proofs.RankLemmas.{entry_place}
use Rattle.rank_map.proofs.MarkLemmas.{marked_change, marked_rises, set_free, map_free, free_rises, free_same, free_there, nth_below}
use Rattle.thread_state.specs.View.{ThreadState, ThreadView}
use Rattle.thread_state.specs.declared.phase.Phase.{Phase}
use Rattle.server_model.specs.Events.{can_step, is_ready, has_phase}
use Rattle.server_model.specs.Work.{thread_in, set_thread, with_thread}
use Rattle.server_model.specs.Questions.{runnable_in, active_in, movable_in}
use Rattle.server_parts.specs.Seen.{IsFreed}
use Rattle.server_parts.specs.Threads.{states, HasKey, AreNumbered, steps, waits, moves, AreThreads}
use Rattle.server_parts.proofs.RoomLemmas.{new_place}
use Rattle.server_parts.proofs.SeenLemmas.{marks_at}
use Rattle.server_parts.proofs.ThreadLemmas.{take_states, put_again, thread_at, numbered_with, runnable_keys, active_few, movable_key}

none_marked : (f : ThreadView → Bool) → IsMarked f [] []
none_marked f = record { rises = omega arith; same = refl; places = λ k h. h }

pub no_threads : AreThreads [] [] [] [] 0
no_threads =
    record {
      rises = omega arith;
      numbered = tt;
      runnable_set = none_marked steps;
      waiting_set = none_marked waits;
      movable_set = none_marked moves;
      count = refl;
    }

-- a set that has a free place for a number, or is as it was
freed_set : {f : ThreadView → Bool} {all : List (Place ThreadView)} {set new : List (Place (Unit {0}))} (k : ℕ) → IsMarked f all set → k < 2 ^ 40 → IsFreed set new k → IsMarked f all new
freed_set {f} {all} k m below (inl is) = subst (IsMarked f all) (sym is) m
freed_set k m below (inr is) = set_free k m below is

pub sets_freed : {all : List (Place ThreadView)} {r w m r2 w2 m2 : List (Place (Unit {0}))} {a : ℕ} (k : ℕ) → AreThreads all r w m a → k < 2 ^ 40 → IsFreed r r2 k → IsFreed w w2 k → IsFreed m m2 k → AreThreads all r2 w2 m2 a
sets_freed k t below rf wf mf =
    record {
      rises = t.rises;
      numbered = t.numbered;
      runnable_set = freed_set k t.runnable_set below rf;
      waiting_set = freed_set k t.waiting_set below wf;
      movable_set = freed_set k t.movable_set below mf;
      count = t.count;
    }

numbered_free : (ps : List (Place ThreadView)) (k : ℕ) → AreNumbered ps → AreNumbered (with_free ps k)
numbered_free ps k n = by (has_place ps k)
  where
    by : (b : Bool) → AreNumbered (if b then ps else with_place ps k (Some None))
    by true = n
    by false = numbered_with ps k None n tt

there : {new : List (Place (Unit {0}))} (set : List (Place (Unit {0}))) (k : ℕ) → new ≡ with_free set k → has_place new k ≡ true
there set k is = ap (λ ps. has_place ps k) is ∙ free_there set k

-- the threads stay as they are
same_states : (ps : List (Place ThreadView)) (k : ℕ) → states (with_free ps k) ≡ states ps
same_states ps k = ap (λ es. map (λ v. v.state) (map (λ e. e.item) es)) (free_same ps k)

-- a free place for a number in each set, and then among the threads, where memory may lack
pub all_free : {X E : Type 0} {all after : List (Place ThreadView)} {r w m r2 w2 m2 : List (Place (Unit {0}))} {a : ℕ} (k : ℕ) (x : Result X E) → AreThreads all r w m a → k < 2 ^ 40 → r2 ≡ with_free r k → w2 ≡ with_free w k → m2 ≡ with_free m k
    → OnOk x (after ≡ with_free all k) → OnErr x (after ≡ all) → AreThreads after r2 w2 m2 a
all_free {all = all} {r = r} {w} {m} k (Ok x) t below rf wf mf is same =
    let sets = sets_freed k t below (inr rf) (inr wf) (inr mf) in
    record {
      rises = subst (Rises 0 (2 ^ 40)) (sym is) (free_rises all k t.rises below);
      numbered = subst AreNumbered (sym is) (numbered_free all k t.numbered);
      runnable_set = map_free k sets.runnable_set (there r k rf) is;
      waiting_set = map_free k sets.waiting_set (there w k wf) is;
      movable_set = map_free k sets.movable_set (there m k mf) is;
      count = t.count ∙ ap active_in (sym (ap states is ∙ same_states all k));
    }
all_free {r2 = r2} {w2} {m2} {a} k (Err e) t below rf wf mf is same =
    subst (λ ps. AreThreads ps r2 w2 m2 a) (sym same) (sets_freed k t below (inr rf) (inr wf) (inr mf))

-- another thread at a place, or none, with its marks
pub all_changed : {all after : List (Place ThreadView)} {r w m r2 w2 m2 : List (Place (Unit {0}))} {a a2 : ℕ} (k : ℕ) (x : Option ThreadView) → AreThreads all r w m a → has_place all k ≡ true → k < 2 ^ 40 → HasKey k x
    → after ≡ with_place all k (Some x) → r2 ≡ with_place r k (Some (mark_of steps x)) → w2 ≡ with_place w k (Some (mark_of waits x)) → m2 ≡ with_place m k (Some (mark_of moves x)) → a2 ≡ active_in (states after) → AreThreads after r2 w2 m2 a2
all_changed {all = all} k x t here below key is r w m a =
    record {
      rises = subst (Rises 0 (2 ^ 40)) (sym is) (rises_with all 0 (2 ^ 40) k (Some x) t.rises (omega arith) below);
      numbered = subst AreNumbered (sym is) (numbered_with all k x t.numbered key);
      runnable_set = marked_change k x t.runnable_set t.rises here below is r;
      waiting_set = marked_change k x t.waiting_set t.rises here below is w;
      movable_set = marked_change k x t.movable_set t.rises here below is m;
      count = a;
    }

-- a thread that is found under its number
pub found_thread : {all : List (Place ThreadView)} {r w m : List (Place (Unit {0}))} {a : ℕ} (k : ℕ) → AreThreads all r w m a → thread_in (states all) k ≡ option_map (λ v. v.state) (item_at all k)
found_thread {all} k t = thread_at all 0 (2 ^ 40) k t.rises t.numbered

some_none : IsSome {T = ThreadState} None → ⊥
some_none h = true≢false (sym h)

-- one that stands there has a place
pub stands_at : {all : List (Place ThreadView)} {r w m : List (Place (Unit {0}))} {a : ℕ} (k : ℕ) → AreThreads all r w m a → IsSome (thread_in (states all) k) → has_place all k ≡ true
stands_at {all} k t h = by (place_at all k) refl
  where
    by : (x : Option (Option ThreadView)) → place_at all k ≡ x → is_some x ≡ true
    by None e = absurd (some_none (subst IsSome (found_thread k t ∙ ap (λ x. option_map (λ v. v.state) (item_in x)) e) h))
    by (Some x) e = refl

pub absent_item : {all : List (Place ThreadView)} {r w m : List (Place (Unit {0}))} {a : ℕ} (k : ℕ) → AreThreads all r w m a → thread_in (states all) k ≡ None → item_at all k ≡ None
absent_item {all} k t h = by (item_at all k) refl
  where
    by : (x : Option ThreadView) → item_at all k ≡ x → x ≡ None
    by None e = refl
    by (Some v) e = absurd (true≢false (sym (ap is_some (found_thread k t ∙ ap (option_map (λ v. v.state)) e)) ∙ ap is_some h))

-- the sets by rank
pub runnable_at : {all : List (Place ThreadView)} {r w m : List (Place (Unit {0}))} {a : ℕ} (i : ℕ) → AreThreads all r w m a → option_map (λ e. e.key) (slice_get (entries r) i) ≡ slice_get (runnable_in (states all)) i
runnable_at {all} {r = r} i t =
    sym (slice_get-map (λ e. e.key) (entries r) i) ∙ ap (λ ks. slice_get ks i) (ap (map (λ e. e.key)) t.runnable_set.same ∙ runnable_keys all t.numbered)

pub runnable_many : {all : List (Place ThreadView)} {r w m : List (Place (Unit {0}))} {a : ℕ} → AreThreads all r w m a → length (entries r) ≡ length (runnable_in (states all))
runnable_many {all} {r = r} t = sym (length-map (entries r) (λ e. e.key)) ∙ ap length (ap (map (λ e. e.key)) t.runnable_set.same ∙ runnable_keys all t.numbered)

pub movable_first : {all : List (Place ThreadView)} {r w m : List (Place (Unit {0}))} {a : ℕ} → AreThreads all r w m a → option_map (λ e. e.key) (slice_get (entries m) 0) ≡ movable_in (states all)
movable_first {all} t = ap (λ es. option_map (λ e. e.key) (slice_get es 0)) t.movable_set.same ∙ movable_key all t.numbered

-- few aren't over
pub active_below : {all : List (Place ThreadView)} {r w m : List (Place (Unit {0}))} {a : ℕ} → AreThreads all r w m a → a ≤ 2 ^ 40
active_below {all} t =
    let few = few_entries all 0 (2 ^ 40) t.rises in
    let here = active_few (states all) in
    let one = length-map (items_of all) (λ v. v.state) in
    let two = length-map (entries all) (λ e. e.item) in
    omega (arith, few, here, one, two, t.count)

-- a number of some rank is below the bound
pub rank_below : {f : ThreadView → Bool} {all : List (Place ThreadView)} {set : List (Place (Unit {0}))} (i k : ℕ) → IsMarked f all set → option_map (λ e. e.key) (slice_get (entries set) i) ≡ Some k → k < 2 ^ 40
rank_below {set = set} i k m h = nth_below set (2 ^ 40) i k m.rises h

-- a thread of some rank in a set stands there, in a phase that the set's test tells
member_stands : {f : ThreadView → Bool} {all : List (Place ThreadView)} {set : List (Place (Unit {0}))} (g : Phase → Bool) (i k : ℕ) → ((v : ThreadView) → f v ≡ true → g v.state.phase ≡ true) → Rises 0 (2 ^ 40) all → AreNumbered all → IsMarked f all set
    → option_map (λ e. e.key) (slice_get (entries set) i) ≡ Some k → has_phase g (thread_in (states all) k) ≡ true
member_stands {f} {all} g i k tells r n m h =
    ap (has_phase g) (thread_at all 0 (2 ^ 40) k r n) ∙ by (slice_get (entries (marked f all)) i) refl (ap (λ es. option_map (λ e. e.key) (slice_get es i)) (sym m.same) ∙ h)
  where
    marks : (v : ThreadView) (u : Unit {0}) (b : Bool) → f v ≡ b → Some (mark_if b) ≡ Some (Some u) → g v.state.phase ≡ true
    marks v u true e q = tells v e
    marks v u false e q = absurd cc

    found : (x : Option (Option ThreadView)) (u : Unit {0}) → option_map (mark_of f) x ≡ Some (Some u) → has_phase g (option_map (λ v. v.state) (item_in x)) ≡ true
    found None u q = absurd cc
    found (Some None) u q = absurd cc
    found (Some (Some v)) u q = marks v u (f v) refl q

    by : (x : Option (Entry (Unit {0}))) → slice_get (entries (marked f all)) i ≡ x → option_map (λ e. e.key) x ≡ Some k → has_phase g (option_map (λ v. v.state) (item_at all k)) ≡ true
    by None is q = absurd cc
    by (Some e) is q =
        let key : e.key ≡ k = cc in
        found (place_at all k) e.item (sym (marks_at f all k) ∙ subst (λ j. place_at (marked f all) j ≡ Some (Some e.item)) key (entry_place (marked f all) 0 (2 ^ 40) i e (marked_rises f all 0 (2 ^ 40) r) is))

-- one that can step by its rank does, and the first that may be moved is ready
pub runnable_stands : {all : List (Place ThreadView)} {r w m : List (Place (Unit {0}))} {a : ℕ} (i k : ℕ) → AreThreads all r w m a → option_map (λ e. e.key) (slice_get (entries r) i) ≡ Some k → has_phase can_step (thread_in (states all) k) ≡ true
runnable_stands i k t h = member_stands can_step i k (λ v e. e) t.rises t.numbered t.runnable_set h

pub movable_stands : {all : List (Place ThreadView)} {r w m : List (Place (Unit {0}))} {a : ℕ} (i k : ℕ) → AreThreads all r w m a → option_map (λ e. e.key) (slice_get (entries m) i) ≡ Some k → has_phase is_ready (thread_in (states all) k) ≡ true
movable_stands i k t h = member_stands is_ready i k ready t.rises t.numbered t.movable_set h
  where
    first : (a b : Bool) → (a && b) ≡ true → a ≡ true
    first true b e = refl
    first false b e = e

    ready : (v : ThreadView) → moves v ≡ true → is_ready v.state.phase ≡ true
    ready v e = first (is_ready v.state.phase) _ e

-- one that stands there is an item
pub there_item : {all : List (Place ThreadView)} {r w m : List (Place (Unit {0}))} {a : ℕ} (k : ℕ) → AreThreads all r w m a → IsSome (thread_in (states all) k) → item_at all k ≡ None → ⊥
there_item k t h e = some_none (subst IsSome (found_thread k t ∙ ap (option_map (λ v. v.state)) e) h)

pub then_state : {X : Type 0} (f : X → ThreadView) (x : Option X) → option_map (λ y. (f y).state) x ≡ option_map (λ v. v.state) (option_map f x)
then_state f None = refl
then_state f (Some y) = refl

-- one that is taken out and put back stands where it stood
pub back_again : {all after : List (Place ThreadView)} {r w m : List (Place (Unit {0}))} {a : ℕ} (k : ℕ) → AreThreads all r w m a → IsSome (thread_in (states all) k) → after ≡ with_place all k (Some None) → (t : ThreadState) → t.number ≡ k
    → with_thread (states after) t ≡ set_thread (states all) t
back_again {all} k t h is s number =
    ap (λ ps. with_thread (states ps) s) is ∙ ap (λ ts. with_thread ts s) (take_states all 0 (2 ^ 40) k t.rises t.numbered)
    ∙ put_again all 0 (2 ^ 40) k t.rises t.numbered (by (item_at all k) refl) s number
  where
    by : (x : Option ThreadView) → item_at all k ≡ x → is_some x ≡ true
    by None e = absurd (there_item k t h e)
    by (Some v) e = refl

-- one that was taken out doesn't stand there
pub taken_absent : {all after : List (Place ThreadView)} {r w m : List (Place (Unit {0}))} {a : ℕ} (k : ℕ) → AreThreads all r w m a → k < 2 ^ 40 → after ≡ with_place all k (Some None) → thread_in (states after) k ≡ None
taken_absent {all} k t below is =
    ap (λ ps. thread_in (states ps) k) is ∙ thread_at (with_place all k (Some None)) 0 (2 ^ 40) k (rises_with all 0 (2 ^ 40) k (Some None) t.rises (omega arith) below) (numbered_with all k None t.numbered tt)
    ∙ ap (λ x. option_map (λ v. v.state) (item_in x)) (new_place all k None)

-- a thread that is found has the number that it was looked for under
pub found_number : (ts : List ThreadState) (t : ℕ) (x : ThreadState) → thread_in ts t ≡ Some x → x.number ≡ t
found_number [] t x h = absurd cc
found_number (y ∷ ys) t x h = by (y.number == t) refl h (found_number ys t x)
  where
    by : (b : Bool) → (y.number == t) ≡ b → (if b then Some y else thread_in ys t) ≡ Some x → (thread_in ys t ≡ Some x → x.number ≡ t) → x.number ≡ t
    by true e g ih = let same : y ≡ x = cc in subst (λ z. z.number ≡ t) same (eqb-true y.number t e)
    by false e g ih = ih g
