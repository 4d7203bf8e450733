-- Where branches meet.
use Rattle.std.proofs.Common.{◌≡◌, ◌≢◌, ◌⊎◌, inl, inr, ℕ, suc, ◌<◌, ◌≤◌, List, [], ◌∷◌, length, Option, Some, None, refl, sym, ap, subst}
use Rattle.fr_typing.specs.Kinds.{Piece}
use Rattle.fr_typing.specs.Places.{Slot, IsNested}
use Rattle.fr_store.specs.Keys.{Key}
use Rattle.fr_store.specs.Store.{Store, Place}
use Rattle.fr_store.specs.Typed.{KeyTypes}
use Rattle.fr_store.specs.Below.{ExactOf, SlotsBelow}
use Rattle.fr_store.specs.Thread.{ThreadTyped}
use Rattle.fr_store.specs.JoinRows.{join_env, JoinRow, join_more}
use Rattle.fr_typing.specs.Kinds.{join_piece, map_some}
use Rattle.fr_typing.specs.Places.{found_or_none, alike}
use Rattle.fr_store.proofs.Below.{join_parts, JoinOf}

-- a join has as many slots, and exact types of either side are below it
pub slots_join : (key : ℕ → Key) (E : KeyTypes) (e1 e2 e : List Slot) → join_env e1 e2 ≡ Some e → (length e ≡ length e1) × (length e ≡ length e2) × (SlotsBelow key E e1 → SlotsBelow key E e) × (SlotsBelow key E e2 → SlotsBelow key E e)
slots_join key E [] [] e j = let g : [] ≡ e = cc in subst (λ z. (length z ≡ 0) × (length z ≡ 0) × (Unit {0} → SlotsBelow key E z) × (Unit {0} → SlotsBelow key E z)) g (refl, refl, (λ _. tt), (λ _. tt))
slots_join key E [] (s2 ∷ e2) e j = absurd cc
slots_join key E (s ∷ e1) [] e j = absurd cc
slots_join key E (s ∷ e1) (s2 ∷ e2) e j = by (join_env e1 e2) j (λ z h. slots_join key E e1 e2 z h) refl
  where
    with_part : (z : List Slot) (p : Option Piece) → map_some (λ q. record s { part = q } ∷ z) p ≡ Some e → ((q : Piece) → p ≡ Some q → JoinOf key E s.part s2.part q)
        → (length z ≡ length e1) × (length z ≡ length e2) × (SlotsBelow key E e1 → SlotsBelow key E z) × (SlotsBelow key E e2 → SlotsBelow key E z)
        → (length e ≡ length (s ∷ e1)) × (length e ≡ length (s2 ∷ e2)) × (SlotsBelow key E (s ∷ e1) → SlotsBelow key E e) × (SlotsBelow key E (s2 ∷ e2) → SlotsBelow key E e)
    with_part z None j f r = absurd cc
    with_part z (Some p) j f r =
        let d = f p refl in
        let es : record s { part = p } ∷ z ≡ e = cc in
        subst (λ y. (length y ≡ length (s ∷ e1)) × (length y ≡ length (s2 ∷ e2)) × (SlotsBelow key E (s ∷ e1) → SlotsBelow key E y) × (SlotsBelow key E (s2 ∷ e2) → SlotsBelow key E y)) es (
          ap suc r.0,
          ap suc r.1,
          (λ h. (subst (λ n. ExactOf key E p (E (key n))) (sym r.0) (d.left (E (key (length e1))) h.0), r.2 h.1)),
          (λ h. (subst (λ n. ExactOf key E p (E (key n))) (sym r.1) (d.right (E (key (length e2))) h.0), r.3 h.1)),
        )

    by : (x : Option (List Slot)) → join_more s s2.part x ≡ Some e
        → ((z : List Slot) → join_env e1 e2 ≡ Some z → (length z ≡ length e1) × (length z ≡ length e2) × (SlotsBelow key E e1 → SlotsBelow key E z) × (SlotsBelow key E e2 → SlotsBelow key E z)) → join_env e1 e2 ≡ x
        → (length e ≡ length (s ∷ e1)) × (length e ≡ length (s2 ∷ e2)) × (SlotsBelow key E (s ∷ e1) → SlotsBelow key E e) × (SlotsBelow key E (s2 ∷ e2) → SlotsBelow key E e)
    by None j g ge = absurd cc
    by (Some z) j g ge = with_part z (join_piece (alike z) s.part s2.part) j (λ q h. join_parts key E (alike z) s.part s2.part q (ap found_or_none h)) (g z ge)

-- a thread with other slots below which the same exact types stand
other_env : (key : ℕ → Key) (rank : Key → ℕ) (a : Key) (e1 e : List Slot) (E : KeyTypes) (s : Store) → length e ≡ length e1 → IsNested e → SlotsBelow key E e → ThreadTyped key rank a e1 E s None → ThreadTyped key rank a e E s None
other_env key rank a e1 e E s len n h t = record {
  typed = t.typed;
  nested = n;
  slots = h;
  over = λ i il. t.over i (subst (λ x. i < x) len il);
  above = λ i le. t.above i (subst (λ x. x ≤ i) len le);
  temp = t.temp;
  names = tt;
  quiet = t.quiet;
  alone = λ j m u js ne. by j u (t.alone j m u js ne);
}
  where
    by : (j : Key) (u : Place) → ((i : ℕ) × (i < length e1) × (j ≡ key i)) ⊎ ((x : ℕ) → u.key ≢ key x) → ((i : ℕ) × (i < length e) × (j ≡ key i)) ⊎ ((x : ℕ) → u.key ≢ key x)
    by j u (inl z) = inl (z.0, subst (λ x. z.0 < x) (sym len) z.1, z.2)
    by j u (inr z) = inr z

-- where branches meet
pub join_row : JoinRow
join_row key rank a e1 e2 e E s j n = (
  (λ f. let r = slots_join key f.env e1 e2 e j in record { env = f.env; others = f.others; new = f.new; thread = other_env key rank a e1 e f.env s r.0 n (r.2 f.thread.slots) f.thread }),
  (λ f. let r = slots_join key f.env e1 e2 e j in record { env = f.env; others = f.others; new = f.new; thread = other_env key rank a e2 e f.env s r.1 n (r.3 f.thread.slots) f.thread }),
)
