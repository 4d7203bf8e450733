-- All keys of a thread that is awake may rank as high as one likes: no other thread's type names them.
use Rattle.std.proofs.Common.{◌≡◌, ◌≢◌, ◌⊎◌, inl, inr, ⊎_elim, ◌∙◌, ℕ, ◌+◌, ◌<◌, ◌≤◌, Bool, true, false, List, [], ◌∷◌, Option, Some, None, refl, sym, ap, arith}
use Rattle.std.specs.Prelude.{◌==◌, if◌then◌else◌}
use Rattle.fr_typing.specs.Kinds.{Kind}
use Rattle.fr_typing.proofs.PlaceLemmas.{eq_cases}
use Rattle.fr_store.specs.Keys.{Key, slot_k}
use Rattle.fr_store.specs.Store.{Place}
use Rattle.fr_store.specs.Typed.{refers}
use Rattle.fr_store.proofs.Keys.{decide_number}
use Rattle.fr_plain.specs.PlainState.{PlainState}
use Rattle.fr_sound.specs.States.{Typing, hand_key, hand_kind, WaitsAbove, thread_of_key}
use Rattle.law_plain_values.specs.acts.Positions.{Position, PositionTypes}
use Rattle.law_plain_values.proofs.acts.OneThread.{has_pair}
use Rattle.law_plain_values.proofs.acts.Raised.{ranked_by, over_was, reordered}

abbrev is_number : Option ℕ → ℕ → Bool
is_number None t = false
is_number (Some v) t = v == t

-- the keys of the thread rank so much higher
abbrev pub hoist : ℕ → ℕ → (Key → ℕ) → Key → ℕ
hoist n t rank k = if is_number (thread_of_key k) t then n + rank k else rank k

pub hoist_mine : (n t : ℕ) (rank : Key → ℕ) (k : Key) → thread_of_key k ≡ Some t → hoist n t rank k ≡ n + rank k
hoist_mine n t rank k e = ap (λ o. if is_number o t then n + rank k else rank k) e ∙ eq_cases (λ b. (if b then n + rank k else rank k) ≡ n + rank k) t t (λ q. refl) (λ ne. absurd (ne refl))

pub hoist_other : (n t : ℕ) (rank : Key → ℕ) (k : Key) (v : ℕ) → thread_of_key k ≡ Some v → v ≢ t → hoist n t rank k ≡ rank k
hoist_other n t rank k v e ne = ap (λ o. if is_number o t then n + rank k else rank k) e ∙ eq_cases (λ b. (if b then n + rank k else rank k) ≡ rank k) v t (λ q. absurd (ne q)) (λ q. refl)

hoist_more : (n t : ℕ) (rank : Key → ℕ) (k : Key) → rank k ≤ hoist n t rank k
hoist_more n t rank k = by (is_number (thread_of_key k) t)
  where
    by : (b : Bool) → rank k ≤ (if b then n + rank k else rank k)
    by true = omega arith
    by false = omega arith

-- two keys of one thread keep their order
same_order : (n t : ℕ) (rank : Key → ℕ) (k j : Key) (v : ℕ) → thread_of_key k ≡ Some v → thread_of_key j ≡ Some v → rank k < rank j → hoist n t rank k < hoist n t rank j
same_order n t rank k j v e f lt = by (decide_number v t)
  where
    by : (v ≡ t) ⊎ (v ≢ t) → hoist n t rank k < hoist n t rank j
    by (inl q) = let a = hoist_mine n t rank k (e ∙ ap Some q) in let b = hoist_mine n t rank j (f ∙ ap Some q) in omega (arith, a, b, lt)
    by (inr ne) = let a = hoist_other n t rank k v e ne in let b = hoist_other n t rank j v f ne in omega (arith, a, b, lt)

hand_of : (t : ℕ) (ts : List Kind) → thread_of_key (hand_key t ts) ≡ Some t
hand_of t [] = refl
hand_of t (k ∷ ts) = refl

pub hoisted : (n : ℕ) (y : Typing) (a : PlainState Position) (t : ℕ) → PositionTypes y a → a.pair t ≡ None → PositionTypes (ranked_by (hoist n t y.rank) y) a
hoisted n y a t st alone = reordered (hoist n t y.rank) y a st (record {
  below = below;
  rising = λ v i j lt l. same_order n t y.rank (slot_k v i) (slot_k v j) v refl refl lt;
  over = λ v x r i runs l. same_order n t y.rank (slot_k v i) (hand_key v r.entry.temps) v refl (hand_of v r.entry.temps) (over_was y a r.entry.forked v r.entry.temps r.entry.env (hand_kind r.entry.temps) r.thread i l);
})
  where
    -- what names a slot of the thread is the thread's
    mine : (owner thread : ℕ) → owner ≡ t → (owner ≡ thread) ⊎ WaitsAbove a owner thread → thread ≡ t
    mine owner thread e (inl z) = sym z ∙ e
    mine owner thread e (inr z) = let p = has_pair a owner thread z in let f : None ≡ Some p.0 = sym alone ∙ ap a.pair (sym e) ∙ p.1 in absurd cc

    below : (k : Key) (m : Bool) (u : Place) → y.exact k ≡ refers m u → hoist n t y.rank u.key < hoist n t y.rank k
    below k m u is =
        let w = st.near k m u is in
        let low = st.typed.below k m u is in
        let named : thread_of_key u.key ≡ Some w.owner = ap thread_of_key w.is in
        ⊎_elim
        (λ (e : w.owner ≡ t). same_order n t y.rank u.key k t (named ∙ ap Some e) (w.of ∙ ap Some (mine w.owner w.thread e w.near)) low)
        (λ (ne : w.owner ≢ t). let p = hoist_other n t y.rank u.key w.owner named ne in let q = hoist_more n t y.rank k in omega (arith, p, q, low))
        (decide_number w.owner t)
