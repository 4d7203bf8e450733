-- Whose slot an object stands in that a thread's place leads to: its own, or that of a thread that waits for it at a par.
use Rattle.std.proofs.Common.{◌≡◌, ◌⊎◌, inl, inr, ⊎_elim, ℕ, Bool, Some, refl, sym, ap, subst, ◌∙◌}
use Rattle.law_counts_sums.specs.Below.fr_base.declared.name.ObjNo.{ObjNo}
use Rattle.law_counts_sums.specs.Below.fr_plain.PlainState.{PlainState}
use Rattle.law_words_paths.specs.Below.fr_sound.States.{WaitsAbove, directly, through, thread_of_key}
use Rattle.law_counts_sums.specs.Below.fr_code.Machine.{CodeState}
use Rattle.law_counts_sums.specs.Below.fr_store.Keys.{Key, slot_k}
use Rattle.law_counts_sums.specs.Below.fr_store.Store.{at_object, Place as StorePlace, below_key}
use Rattle.law_counts_sums.specs.Below.fr_store.Typed.{Exact, refers, KeyTypes, Resolves, here, through as through_reference}
use Rattle.law_counts_sums.proofs.Below.fr_store.Chains.{unique}
use Rattle.law_counts_sums.specs.Below.thread_state.declared.phase.Phase.{Phase}
use Rattle.law_counts_sums.specs.Below.thread_state.declared.phase.Phase.TheVariants as phase
use Rattle.law_counts_sums.specs.Below.server_model.Servers.{Cluster}
use Rattle.law_counts_sums.specs.Below.coherent_memory.Follow.{Standing, thread_at}
use Rattle.law_counts_sums.specs.Below.coherent_memory.Sight.{sight}
use Rattle.law_counts_sums.specs.Below.coherent_memory.OneHeap.{one_heap, two_in, pair_of}
use Rattle.law_words_paths.specs.paths.HeapStore.{heap_store, GoesOn, HasPaths}
use Rattle.law_words_paths.proofs.paths.Shown.{stands_there}
use Rattle.law_words_paths.proofs.paths.Sole.{some_is}
use Rattle.law_results_reads.proofs.Made.{OwnedBy}

-- who waits for one that waits for a third waits for that
waits_on : {P : Type 0} (a : PlainState P) (p q r : ℕ) → WaitsAbove a p q → WaitsAbove a q r → WaitsAbove a p r
waits_on a p q r (directly w) v = through w v
waits_on a p q r (through {q = m} w rest) v = through w (waits_on a m q r rest v)

-- who waits so stands with a pair
first_waits : {P : Type 0} (a : PlainState P) (p q : ℕ) → WaitsAbove a p q → (b c : ℕ) × (a.pair p ≡ Some (b, c))
first_waits a p q (directly w) = (w.first, w.second, w.pair)
first_waits a p q (through w rest) = (w.first, w.second, w.pair)

module _ (k : Cluster) (c : HasPaths k) (x : ℕ) where
  abbrev heap : CodeState
  heap = one_heap k

  abbrev E : KeyTypes
  E = c.types.typing.exact

  -- a value of the thread, or of one that waits for it
  abbrev pub Mine : Key → Type 0
  Mine key = (t : ℕ) × (thread_of_key key ≡ Some t) × ((t ≡ x) ⊎ WaitsAbove heap t x)

  -- references lead to such values
  closed : (key : Key) (m : Bool) (u : StorePlace) → Mine key → E key ≡ refers m u → Mine u.key
  closed key m u mine is =
      let n = c.types.state.near key m u is in
      let thread : mine.0 ≡ n.thread = some_is (sym mine.1 ∙ n.of) in (
        n.owner,
        ap thread_of_key n.is,
        ⊎_elim (λ (e : n.owner ≡ n.thread). ⊎_elim (λ (f : mine.0 ≡ x). inl (e ∙ sym thread ∙ f)) (λ (w : WaitsAbove heap mine.0 x). inr (subst (λ t. WaitsAbove heap t x) (thread ∙ sym e) w)) mine.2)
            (λ (w : WaitsAbove heap n.owner n.thread).
            let up : WaitsAbove heap n.owner mine.0 = subst (WaitsAbove heap n.owner) (sym thread) w in
            ⊎_elim (λ (f : mine.0 ≡ x). inr (subst (WaitsAbove heap n.owner) f up)) (λ (v : WaitsAbove heap mine.0 x). inr (waits_on heap n.owner mine.0 x up v)) mine.2) n.near,
      )

  pub base_mine : (only : Bool) (key : Key) (d : ℕ) (b : Key) (n : ℕ) (p : Exact) → Mine key → Resolves E only key d b n p → Mine b
  base_mine only key d _ _ p mine (here e) = mine
  base_mine only key d b n p mine (through_reference m u e is o de r) = base_mine only u.key _ b n p (closed key m u mine is) r

-- the two threads that a pair's parent waits for stand in its phase
no_pair : (p : Phase) (b c : ℕ) → two_in p ≡ Some (b, c) → ((d e : ℕ) → p ≡ phase.WaitPar d e → ⊥) → ((d e : ℕ) → p ≡ phase.GotPar d e → ⊥) → ⊥
no_pair (phase.WaitPar d e) b c q w g = w d e refl
no_pair (phase.GotPar d e) b c q w g = g d e refl
no_pair _ b c q w g = absurd cc

-- an object in a slot of a thread that waits for no pair is led to by no other thread
pub one_reaches : (k : Cluster) (c : HasPaths k) (x : ℕ) (z : Standing) → GoesOn k z → ((d e : ℕ) → z.thread.phase ≡ phase.WaitPar d e → ⊥) → ((d e : ℕ) → z.thread.phase ≡ phase.GotPar d e → ⊥)
    → (o : ObjNo) (b : Key) (n : ℕ) → Mine k c x b → below_key (heap_store k c.types) b n ≡ Some (at_object o) → OwnedBy k c z.thread.number o → z.thread.number ≡ x
one_reaches k c x z g w got o b n mine leads own =
    let st = heap_store k c.types in
    let same = unique st c.types.state.typed.owner b (slot_k z.thread.number own.slot) n own.boxes (at_object o) leads own.leads in
    let thread : mine.0 ≡ z.thread.number = some_is (sym mine.1 ∙ ap thread_of_key same.0) in
    ⊎_elim (λ (f : mine.0 ≡ x). sym thread ∙ f)
    (λ (v : WaitsAbove (one_heap k) mine.0 x).
    let p = first_waits (one_heap k) mine.0 x v in
    let there : pair_of (thread_at (sight k).ground.threads z.thread.number) ≡ Some (p.0, p.1) = subst (λ t. pair_of (thread_at (sight k).ground.threads t) ≡ Some (p.0, p.1)) thread p.2 in
    absurd (no_pair z.thread.phase p.0 p.1 (sym (ap pair_of (stands_there k c z g)) ∙ there) w got)) mine.2
