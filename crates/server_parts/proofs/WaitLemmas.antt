-- Which threads wait, by rising number, and for what.
use Rattle.std.proofs.Common.{if◌then◌else◌, ◌≡◌, ℕ, zero, suc, ◌+◌, ◌<◌, ◌≤◌, true≢false, ◌^◌, is_some, List, [], ◌∷◌, map, slice_get, Option, None, Some, option_map, refl, sym, subst, ap, ◌∙◌, arith}
use Rattle.std.proofs.lemmas.Bool.{ne_eqb, eq-eqb, lt-ltb}
use Rattle.std.proofs.lemmas.Option.{slice_get-map}
use Rattle.fr_base.specs.declared.step.Wait.{Wait}
use Rattle.rank_map.specs.Places.{Place, Entry, place_at, item_in, item_at, entry_first, entries, Rises}
use Rattle.rank_map.specs.Marks.{mark_if, mark_of, marked}
use Rattle.thread_state.specs.View.{ThreadState, ThreadView}
use Rattle.server_model.specs.Questions.{wait_of, add_wait, waits_among}
use Rattle.server_parts.specs.Threads.{states, HasKey, AreNumbered, AreThreads, waits}

abbrev of : List (Entry ThreadView) → List ThreadState
of es = map (λ v. v.state) (map (λ e. e.item) es)

abbrev wait_first : ℕ → Option Wait → List (ℕ × Wait) → List (ℕ × Wait)
wait_first k None ws = ws
wait_first k (Some w) ws = (k, w) ∷ ws

abbrev pub wait_in : Option ThreadView → Option Wait
wait_in None = None
wait_in (Some v) = wait_of v.state.phase

-- those that wait, each at its place
abbrev wait_list : List (Place ThreadView) → List (ℕ × Wait)
wait_list [] = []
wait_list (p ∷ ps) = wait_first p.key (wait_in p.item) (wait_list ps)

-- one before all of them comes first
first_wait : (ps : List (Place ThreadView)) (low high k : ℕ) (w : Wait) → Rises low high ps → k < low → add_wait k (Some w) (wait_list ps) ≡ (k, w) ∷ wait_list ps
first_wait [] low high k w r h = refl
first_wait (p ∷ ps) low high k w r h = by (wait_in p.item) (first_wait ps (p.key + 1) high k w r.1 (omega (arith, h, r.0)))
  where
    by : (x : Option Wait) → add_wait k (Some w) (wait_list ps) ≡ (k, w) ∷ wait_list ps → add_wait k (Some w) (wait_first p.key x (wait_list ps)) ≡ (k, w) ∷ wait_first p.key x (wait_list ps)
    by None ih = ih
    by (Some u) ih = ap (λ b. if b then (k, w) ∷ (p.key, u) ∷ wait_list ps else (p.key, u) ∷ add_wait k (Some w) (wait_list ps)) (lt-ltb k p.key (omega (arith, h, r.0)))

pub waits_listed : (ps : List (Place ThreadView)) (low high : ℕ) → Rises low high ps → AreNumbered ps → waits_among (states ps) [] ≡ wait_list ps
waits_listed [] low high r n = refl
waits_listed (p ∷ ps) low high r n = by p.item n.0 (waits_listed ps (p.key + 1) high r.1 n.1)
  where
    go : (x : Option Wait) → add_wait p.key x (wait_list ps) ≡ wait_first p.key x (wait_list ps)
    go None = refl
    go (Some w) = first_wait ps (p.key + 1) high p.key w r.1 (omega arith)

    by : (x : Option ThreadView) → HasKey p.key x → waits_among (states ps) [] ≡ wait_list ps → waits_among (of (entry_first p.key x (entries ps))) [] ≡ wait_first p.key (wait_in x) (wait_list ps)
    by None g ih = ih
    by (Some v) g ih = ap (λ i. add_wait i (wait_of v.state.phase) (waits_among (states ps) [])) g ∙ ap (add_wait p.key (wait_of v.state.phase)) ih ∙ go (wait_of v.state.phase)

wait_keys : (ps : List (Place ThreadView)) → map (λ e. e.key) (entries (marked waits ps)) ≡ map (λ x. x.0) (wait_list ps)
wait_keys [] = refl
wait_keys (p ∷ ps) = by p.item (wait_keys ps)
  where
    go : (x : Option Wait) → map (λ e. e.key) (entries (marked waits ps)) ≡ map (λ x. x.0) (wait_list ps) → map (λ e. e.key) (entry_first p.key (mark_if (is_some x)) (entries (marked waits ps))) ≡ map (λ x. x.0) (wait_first p.key x (wait_list ps))
    go None ih = ih
    go (Some w) ih = ap (λ ks. p.key ∷ ks) ih

    by : (x : Option ThreadView) → map (λ e. e.key) (entries (marked waits ps)) ≡ map (λ x. x.0) (wait_list ps) → map (λ e. e.key) (entry_first p.key (mark_of waits x) (entries (marked waits ps))) ≡ map (λ x. x.0) (wait_first p.key (wait_in x) (wait_list ps))
    by None ih = ih
    by (Some v) ih = go (wait_of v.state.phase) ih

-- a wait that is listed is that of the thread at its key
record IsWait (ps : List (Place ThreadView)) (low : ℕ) (x : ℕ × Wait) : Type 0 where
  pub wait : wait_in (item_at ps x.0) ≡ Some x.1
  pub above : low ≤ x.0

listed : (ps : List (Place ThreadView)) (low high i : ℕ) (x : ℕ × Wait) → Rises low high ps → slice_get (wait_list ps) i ≡ Some x → IsWait ps low x
listed [] low high zero x r h = absurd cc
listed [] low high (suc i) x r h = absurd cc
listed (p ∷ ps) low high i x r h = by (wait_in p.item) i refl h (λ j g. listed ps (p.key + 1) high j x r.1 g)
  where
    behind : IsWait ps (p.key + 1) x → IsWait (p ∷ ps) low x
    behind l =
        record {
          wait = ap (λ b. wait_in (item_in (if b then Some p.item else place_at ps x.0))) (ne_eqb p.key x.0 (λ e. omega (arith, e, l.above))) ∙ l.wait;
          above = omega (arith, l.above, r.0);
        }

    by : (w : Option Wait) (j : ℕ) → wait_in p.item ≡ w → slice_get (wait_first p.key w (wait_list ps)) j ≡ Some x → ((j : ℕ) → slice_get (wait_list ps) j ≡ Some x → IsWait ps (p.key + 1) x) → IsWait (p ∷ ps) low x
    by None j is g ih = behind (ih j g)
    by (Some w) zero is g ih = first (cc)
      where
        first : (p.key, w) ≡ x → IsWait (p ∷ ps) low x
        first same = subst (IsWait (p ∷ ps) low) same (record { wait = ap (λ b. wait_in (item_in (if b then Some p.item else place_at ps p.key))) (eq-eqb p.key p.key refl) ∙ is; above = r.0 })
    by (Some w) (suc j) is g ih = behind (ih j g)

-- a thread of some rank among those that wait, and what it waits for
pub record WaitsAs (ps : List (Place ThreadView)) (i k : ℕ) : Type 0 where
  pub wait : Wait
  pub is : wait_in (item_at ps k) ≡ Some wait
  pub at : slice_get (waits_among (states ps) []) i ≡ Some (k, wait)

-- the one of some rank, by the rank of its mark
pub wait_at : (ps : List (Place ThreadView)) (high i k : ℕ) → Rises 0 high ps → AreNumbered ps → option_map (λ e. e.key) (slice_get (entries (marked waits ps)) i) ≡ Some k → WaitsAs ps i k
wait_at ps high i k r n h = by (slice_get (wait_list ps) i) refl keys
  where
    keys : option_map (λ x. x.0) (slice_get (wait_list ps) i) ≡ Some k
    keys = sym (slice_get-map (λ x. x.0) (wait_list ps) i) ∙ ap (λ ks. slice_get ks i) (sym (wait_keys ps)) ∙ slice_get-map (λ e. e.key) (entries (marked waits ps)) i ∙ h

    found : (x : ℕ × Wait) → slice_get (wait_list ps) i ≡ Some x → x.0 ≡ k → WaitsAs ps i k
    found x is e =
        record {
          wait = x.1;
          is = ap (λ j. wait_in (item_at ps j)) (sym e) ∙ (listed ps 0 high i x r is).wait;
          at = ap (λ ws. slice_get ws i) (waits_listed ps 0 high r n) ∙ is ∙ ap Some (ap (λ j. (j, x.1)) e);
        }

    by : (x : Option (ℕ × Wait)) → slice_get (wait_list ps) i ≡ x → option_map (λ x. x.0) x ≡ Some k → WaitsAs ps i k
    by None is e = absurd cc
    by (Some x) is e = found x is (cc)

pub wait_past : (ps : List (Place ThreadView)) (high i : ℕ) → Rises 0 high ps → AreNumbered ps → option_map (λ e. e.key) (slice_get (entries (marked waits ps)) i) ≡ None → slice_get (waits_among (states ps) []) i ≡ None
wait_past ps high i r n h = ap (λ ws. slice_get ws i) (waits_listed ps 0 high r n) ∙ by (slice_get (wait_list ps) i) (sym (slice_get-map (λ x. x.0) (wait_list ps) i) ∙ ap (λ ks. slice_get ks i) (sym (wait_keys ps)) ∙ slice_get-map (λ e. e.key) (entries (marked waits ps)) i ∙ h)
  where
    by : (x : Option (ℕ × Wait)) → option_map (λ x. x.0) x ≡ None → x ≡ None
    by None e = refl
    by (Some x) e = absurd cc

-- the same by the set of those that wait
pub wait_rank : {all : List (Place ThreadView)} {r w m : List (Place (Unit {0}))} {a : ℕ} (i k : ℕ) → AreThreads all r w m a → option_map (λ e. e.key) (slice_get (entries w) i) ≡ Some k → WaitsAs all i k
wait_rank {all} i k t h = wait_at all (2 ^ 40) i k t.rises t.numbered (ap (λ es. option_map (λ e. e.key) (slice_get es i)) (sym t.waiting_set.same) ∙ h)

pub wait_end : {all : List (Place ThreadView)} {r w m : List (Place (Unit {0}))} {a : ℕ} (i : ℕ) → AreThreads all r w m a → option_map (λ e. e.key) (slice_get (entries w) i) ≡ None → slice_get (waits_among (states all) []) i ≡ None
wait_end {all} i t h = wait_past all (2 ^ 40) i t.rises t.numbered (ap (λ es. option_map (λ e. e.key) (slice_get es i)) (sym t.waiting_set.same) ∙ h)

-- what is told of a thread that is there is what it waits for
pub wait_same : {all : List (Place ThreadView)} {i k : ℕ} {v : ThreadView} (x : WaitsAs all i k) → Some v ≡ item_at all k → wait_of v.state.phase ≡ Some x.wait
wait_same x e = ap wait_in e ∙ x.is

pub no_wait : {all : List (Place ThreadView)} {i k : ℕ} (x : WaitsAs all i k) → wait_in (item_at all k) ≡ None → ⊥
no_wait x e = true≢false (sym (ap is_some (sym e ∙ x.is)))
