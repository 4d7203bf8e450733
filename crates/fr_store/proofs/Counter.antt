-- Candidates that are false.
use Rattle.std.proofs.Common.{◌≡◌, ◌≢◌, ℕ, zero, suc, ◌≤◌, Bool, true, false, [], ◌∷◌, Some, None, refl, sym, ap, ◌∙◌, arith}
use Rattle.fr_store.specs.Keys.{Key, slot_k, temp_k, content_k, result_k, hand_k}
use Rattle.fr_store.specs.Store.{Place}
use Rattle.fr_store.specs.Typed.{hole, int_tree, box_tree, Exact, owns, refers, KeyTypes, Resolves, here, through, Unnamed}
use Rattle.fr_store.specs.JoinRows.{join_env}
use Rattle.fr_base.specs.declared.place.Lval.{Lval}
use Rattle.fr_typing.specs.Kinds.{int, box, Kind, own, mutable, whole}
use Rattle.fr_typing.specs.Places.{Slot}

-- the first fact of typed stores about references, alone
abbrev pub Once : KeyTypes → Type 0
Once E = (i j : Key) (m : Bool) (u v : Place) → E i ≡ refers true u → E j ≡ refers m v → v.key ≡ u.key → j ≡ i

-- slot k under d stars
abbrev at : ℕ → ℕ → Place
at k d = record { key = slot_k 0 k; depth = d }

-- slot 0 owns two boxes of an int; 1 is `&*x`; 2 is `&mut *` of slot 1, a shared reference; 3 is `&**x`
abbrev numbered : ℕ → Exact
numbered zero = owns (box_tree (box_tree int_tree))
numbered (suc zero) = refers false (at 0 1)
numbered (suc (suc zero)) = refers true (at 1 1)
numbered (suc (suc (suc zero))) = refers false (at 0 2)
numbered (suc (suc (suc (suc n)))) = owns hole

-- the same as types of keys
abbrev shared_way : KeyTypes
shared_way (slot_k zero n) = numbered n
shared_way (slot_k (suc t) n) = owns hole
shared_way (temp_k t n) = owns hole
shared_way (content_k t n) = owns hole
shared_way (result_k t) = owns hole
shared_way (hand_k t) = owns hole

-- only slots refer
in_slot : (k : Key) (m : Bool) (u : Place) → shared_way k ≡ refers m u → (n : ℕ) × (k ≡ slot_k 0 n) × (numbered n ≡ refers m u)
in_slot (slot_k zero n) m u e = (n, refl, e)
in_slot (slot_k (suc t) n) m u e = absurd cc
in_slot (temp_k t n) m u e = absurd cc
in_slot (content_k t n) m u e = absurd cc
in_slot (result_k t) m u e = absurd cc
in_slot (hand_k t) m u e = absurd cc

-- slots of different numbers differ
slot_differs : (n m : ℕ) → n ≢ m → slot_k 0 n ≡ slot_k 0 m → ⊥
slot_differs n m ne e = ne cc

-- each slot is lent mutably once
once_numbered : (i j : ℕ) (m : Bool) (u v : Place) → numbered i ≡ refers true u → numbered j ≡ refers m v → v.key ≡ u.key → j ≡ i
once_numbered zero j m u v e f k = absurd cc
once_numbered (suc zero) j m u v e f k = absurd cc
once_numbered (suc (suc (suc zero))) j m u v e f k = absurd cc
once_numbered (suc (suc (suc (suc n)))) j m u v e f k = absurd cc
once_numbered (suc (suc zero)) zero m u v e f k = absurd cc
once_numbered (suc (suc zero)) (suc (suc zero)) m u v e f k = refl
once_numbered (suc (suc zero)) (suc (suc (suc (suc n)))) m u v e f k = absurd cc
once_numbered (suc (suc zero)) (suc zero) m u v e f k =
    let a : at 1 1 ≡ u = cc in
    let b : at 0 1 ≡ v = cc in
    absurd (slot_differs 0 1 (λ z. omega (arith, z)) (ap (λ (z : Place). z.key) b ∙ k ∙ ap (λ (z : Place). z.key) (sym a)))
once_numbered (suc (suc zero)) (suc (suc (suc zero))) m u v e f k =
    let a : at 1 1 ≡ u = cc in
    let b : at 0 2 ≡ v = cc in
    absurd (slot_differs 0 1 (λ z. omega (arith, z)) (ap (λ (z : Place). z.key) b ∙ k ∙ ap (λ (z : Place). z.key) (sym a)))

-- so is each key
shared_once : Once shared_way
shared_once i j m u v e f k =
    let x = in_slot i true u e in
    let y = in_slot j m v f in
    y.1 ∙ ap (slot_k 0) (once_numbered x.0 y.0 m u v x.2 y.2 k) ∙ sym x.1

-- no slot's type names slot 2
two_numbered : (j : ℕ) (m : Bool) (u : Place) → numbered j ≡ refers m u → u.key ≢ slot_k 0 2
two_numbered zero m u e = absurd cc
two_numbered (suc zero) m u e = let a : at 0 1 ≡ u = cc in λ k. slot_differs 0 2 (λ z. omega (arith, z)) (ap (λ (z : Place). z.key) a ∙ k)
two_numbered (suc (suc zero)) m u e = let a : at 1 1 ≡ u = cc in λ k. slot_differs 1 2 (λ z. omega (arith, z)) (ap (λ (z : Place). z.key) a ∙ k)
two_numbered (suc (suc (suc zero))) m u e = let a : at 0 2 ≡ u = cc in λ k. slot_differs 0 2 (λ z. omega (arith, z)) (ap (λ (z : Place). z.key) a ∙ k)
two_numbered (suc (suc (suc (suc n)))) m u e = absurd cc

-- no type names slot 2
two_free : Unnamed shared_way (slot_k 0 2)
two_free j m u e = let x = in_slot j m u e in two_numbered x.0 m u x.2

-- FALSE: exclusivity where a mutable reference's place may be reached through a shared one
pub mutable_way_needed : ((E : KeyTypes) (x : Key) (d : ℕ) (b : Key) (n : ℕ) (p : Exact) → Once E → Unnamed E x → Resolves E false x d b n p
    → (j : Key) (m : Bool) (v : Place) (i : ℕ) (q : Exact) → E j ≡ refers m v → Resolves E false v.key v.depth b i q → i ≤ n) → ⊥
mutable_way_needed f =
    let w : Resolves shared_way false (slot_k 0 2) 1 (slot_k 0 0) 1 (owns (box_tree int_tree)) = through true (at 1 1) 0 refl (λ z. absurd cc) refl (through false (at 0 1) 0 refl (λ z. z) refl (here refl)) in
    let g = f shared_way (slot_k 0 2) 1 (slot_k 0 0) 1 (owns (box_tree int_tree)) shared_once two_free w (slot_k 0 3) false (at 0 2) 2 (owns int_tree) refl (here refl) in
    omega (arith, g)

-- each of two branches lends each box once, their join lends both twice
abbrev pub slot_of_kind : Kind → Slot
slot_of_kind k = record { name = None; part = whole k }

-- variable k under d stars
abbrev pub place : ℕ → ℕ → Lval
place k d = record { slot = k; depth = d }

-- the join of the two branches
pub join_lends_twice : join_env
    (slot_of_kind (mutable (place 1 1 ∷ [])) ∷ slot_of_kind (mutable (place 0 1 ∷ [])) ∷ slot_of_kind (own (box (box int))) ∷ slot_of_kind (own (box (box int))) ∷ [])
    (slot_of_kind (mutable (place 0 1 ∷ [])) ∷ slot_of_kind (mutable (place 1 1 ∷ [])) ∷ slot_of_kind (own (box (box int))) ∷ slot_of_kind (own (box (box int))) ∷ [])
    ≡ Some (slot_of_kind (mutable (place 0 1 ∷ place 1 1 ∷ [])) ∷ slot_of_kind (mutable (place 0 1 ∷ place 1 1 ∷ [])) ∷ slot_of_kind (own (box (box int))) ∷ slot_of_kind (own (box (box int))) ∷ [])
join_lends_twice = refl
