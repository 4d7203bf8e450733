-- A new slot, and the end of the last one.
use Rattle.fr_store.proofs.Keys.{decide_key, key_same, key_other}
use Rattle.fr_typing.proofs.PlaceLemmas.{eq_cases}
use Rattle.fr_store.specs.Keys.{same_key, Key}
use Rattle.fr_store.specs.Store.{Location, at_key, Val, Store, Place, put_value, swap, drop_value, value_at, gone_v, at_object}
use Rattle.fr_store.specs.Typed.{hole, Exact, owns, refers, KeyTypes, Typed, Unnamed}
use Rattle.fr_store.specs.Below.{OneOf, RefOf, ExactOf, SlotsBelow}
use Rattle.fr_store.specs.Rows.{with_type}
use Rattle.fr_store.specs.Thread.{TempIs, temp_places, ThreadKeys, ThreadTyped, After}
use Rattle.fr_store.specs.OwnedRows.{LetRow, EndRow, NextRow}
use Rattle.std.proofs.Common.{◌≡◌, ◌≢◌, ◌⊎◌, inl, inr, ⊎_elim, ℕ, suc, ◌<◌, ◌≤◌, Bool, List, ◌∷◌, length, Option, Some, None, refl, sym, ap, subst, ◌∙◌, arith}
use Rattle.std.specs.Prelude.{if◌then◌else◌}
use Rattle.fr_base.specs.declared.place.Lval.{Lval}
use Rattle.fr_terms.specs.Terms.{Text}
use Rattle.fr_typing.specs.Kinds.{Owned, Kind, own, shared, mutable, view, whole}
use Rattle.fr_typing.specs.Places.{Slot, AreBelow, kind_places}
use Rattle.fr_store.proofs.Rows.{swap_own, unnamed_with, top_fits, move_ref, same_store}
use Rattle.fr_store.proofs.ThreadKept.{exact_with, known_tree, last_unnamed, one_low, slots_with, stood, end_value}

-- the last slot has gone
ended : (key : ℕ → Key) (rank : Key → ℕ) (a : Key) (e : List Slot) (l : Slot) (E : KeyTypes) (s s2 : Store) (o : Option Kind) → ThreadKeys key rank a → ThreadTyped key rank a (l ∷ e) E s o → AreBelow (length e) (temp_places o)
    → Unnamed E (key (length e)) → Typed rank (with_type E (key (length e)) (owns hole)) s2 → After key rank a E e s2 o
ended key rank a e l E s s2 o ks t low free typed =
    let x = key (length e) in
    record {
      env = with_type E x (owns hole);
      others = λ j ja jk. key_other j x (owns hole) (E j) (jk (length e));
      new = λ j m u js. stood key a E j m u (known_tree key a E x hole j m u js);
      thread = record {
        typed = typed;
        nested = t.nested.1;
        over = λ i il. t.over i (omega arith);
        slots = slots_with key E x (owns hole) e free (λ i lt z. differs i (ks.differ i (length e) z) lt) t.slots.1;
        above = λ i le. ⊎_elim (λ (z : key i ≡ x). ap (with_type E x (owns hole)) z ∙ key_same x (owns hole) (E x)) (λ (z : key i ≢ x). key_other (key i) x (owns hole) (E (key i)) z ∙ t.above i (higher i le z)) (decide_key (key i) x);
        temp = temp_is o t.temp;
        names = low;
        quiet = unnamed_with E x hole a t.quiet;
        alone = λ j m u js ne. shorter j u (back j m u js) (t.alone j m u (sym (key_other j x (owns hole) (E j) (back j m u js)) ∙ js) ne);
      };
    }
  where
    differs : (i : ℕ) → i ≡ length e → i < length e → ⊥
    differs i z lt = omega arith

    higher : (i : ℕ) → length e ≤ i → key i ≢ key (length e) → length (l ∷ e) ≤ i
    higher i le z = eq_cases (λ _. length (l ∷ e) ≤ i) i (length e) (λ is. absurd (z (ap key is))) (λ ne. omega arith)

    back : (j : Key) (m : Bool) (u : Place) → with_type E (key (length e)) (owns hole) j ≡ refers m u → j ≢ key (length e)
    back j m u js = λ (z : j ≡ key (length e)). let g : owns hole ≡ refers m u = sym (key_same (key (length e)) (owns hole) (E (key (length e)))) ∙ ap (with_type E (key (length e)) (owns hole)) (sym z) ∙ js in cc

    shorter : (j : Key) (u : Place) → j ≢ key (length e) → ((i : ℕ) × (i < length (l ∷ e)) × (j ≡ key i)) ⊎ ((x : ℕ) → u.key ≢ key x) → ((i : ℕ) × (i < length e) × (j ≡ key i)) ⊎ ((x : ℕ) → u.key ≢ key x)
    shorter j u ne (inl z) = eq_cases (λ _. ((i : ℕ) × (i < length e) × (j ≡ key i)) ⊎ ((x : ℕ) → u.key ≢ key x)) z.0 (length e) (λ is. absurd (ne (z.2 ∙ ap key is))) (λ n. let lt = z.1 in inl (z.0, omega arith, z.2))
    shorter j u ne (inr z) = inr z

    temp_is : (o : Option Kind) → TempIs key E a o → TempIs key (with_type E (key (length e)) (owns hole)) a o
    temp_is None h = key_other a (key (length e)) (owns hole) (E a) (λ z. ks.off (length e) (sym z)) ∙ h
    temp_is (Some k) h =
        subst (ExactOf key (with_type E (key (length e)) (owns hole)) (whole k)) (sym (key_other a (key (length e)) (owns hole) (E a) (λ z. ks.off (length e) (sym z))))
        (exact_with key E (key (length e)) (owns hole) (whole k) (E a) free (λ m u js. free a m u js) h)

-- the last slot ends
pub end_row : EndRow
end_row key rank a e l E s o fuel ks t low le =
    let free = last_unnamed key rank a (l ∷ e) E s o (length e) (length e) ks t low (omega arith) (omega arith) in
    ended key rank a e l E s (drop_value fuel (key (length e)) s) o ks t low free (end_value key rank E s (key (length e)) l.part fuel t.typed free t.slots.0 le)

-- the temporary's value is in the new slot
bound : (key : ℕ → Key) (rank : Key → ℕ) (a : Key) (e : List Slot) (E E2 : KeyTypes) (s s2 : Store) (k : Kind) (name : Option Text) → ThreadKeys key rank a → ThreadTyped key rank a e E s (Some k) → Typed rank E2 s2
    → ((j : Key) → j ≢ key (length e) → j ≢ a → E2 j ≡ E j) → E2 (key (length e)) ≡ E a → E2 a ≡ owns hole → ExactOf key E2 (whole k) (E a) → SlotsBelow key E2 e → rank (key (length e)) < rank a
    → After key rank a E (record { name = name; part = whole k } ∷ e) s2 None
bound key rank a e E E2 s s2 k name ks t typed others at_x at_a exact slots top = record {
  env = E2;
  others = λ j ja jk. others j (jk (length e)) ja;
  new = λ j m u js. ⊎_elim (λ (z : j ≡ key (length e)). inr (a, sym at_x ∙ ap E2 (sym z) ∙ js, inr (inl refl))) (λ (z : j ≢ key (length e)). stood key a E j m u (sym (others j z (not_a j m u js)) ∙ js)) (decide_key j (key (length e)));
  thread = record {
    typed = typed;
    nested = (t.names, t.nested);
    over = λ i il. eq_cases (λ _. rank (key i) < rank a) i (length e) (λ is. subst (λ n. rank (key n) < rank a) (sym is) top) (λ ne. t.over i (omega arith));
    slots = (subst (ExactOf key E2 (whole k)) (sym at_x) exact, slots);
    above = λ i le. others (key i) (λ z. above_not i le (ks.differ i (length e) z)) (ks.off i) ∙ t.above i (omega arith);
    temp = at_a;
    names = tt;
    quiet = quiet;
    alone = alone;
  };
}
  where
    above_not : (i : ℕ) → length (record { name = name; part = whole k } ∷ e) ≤ i → i ≡ length e → ⊥
    above_not i le z = omega arith

    not_a : (j : Key) (m : Bool) (u : Place) → E2 j ≡ refers m u → j ≢ a
    not_a j m u js = λ (z : j ≡ a). let g : owns hole ≡ refers m u = sym at_a ∙ ap E2 (sym z) ∙ js in cc

    quiet : Unnamed E2 a
    quiet j m u js = ⊎_elim (λ (z : j ≡ key (length e)). t.quiet a m u (sym at_x ∙ ap E2 (sym z) ∙ js)) (λ (z : j ≢ key (length e)). t.quiet j m u (sym (others j z (not_a j m u js)) ∙ js)) (decide_key j (key (length e)))

    wider : (j : Key) (u : Place) → ((i : ℕ) × (i < length e) × (j ≡ key i)) ⊎ ((x : ℕ) → u.key ≢ key x) → ((i : ℕ) × (i < suc (length e)) × (j ≡ key i)) ⊎ ((x : ℕ) → u.key ≢ key x)
    wider j u (inl z) = let lt = z.1 in inl (z.0, omega arith, z.2)
    wider j u (inr z) = inr z

    alone : (j : Key) (m : Bool) (u : Place) → E2 j ≡ refers m u → j ≢ a → ((i : ℕ) × (i < suc (length e)) × (j ≡ key i)) ⊎ ((x : ℕ) → u.key ≢ key x)
    alone j m u js ne = ⊎_elim (λ (z : j ≡ key (length e)). inl (length e, omega arith, z)) (λ (z : j ≢ key (length e)). wider j u (t.alone j m u (sym (others j z ne) ∙ js) ne)) (decide_key j (key (length e)))

-- a swap with a free key is a move
pub swap_back : (s : Store) (a y : Key) → y ≢ a → s.at y ≡ gone_v → (l : Location) → value_at (swap s a (at_key y)) l ≡ value_at (put_value (put_value s (at_key a) gone_v) (at_key y) (s.at a)) l
swap_back s a y ya gy (at_object o) = refl
swap_back s a y ya gy (at_key j) = ap Some (by_key (decide_key j a) (decide_key j y))
  where
    by_key : (j ≡ a) ⊎ (j ≢ a) → (j ≡ y) ⊎ (j ≢ y) → (if same_key j a then s.at y else (if same_key j y then s.at a else s.at j)) ≡ (if same_key j y then s.at a else (if same_key j a then gone_v else s.at j))
    by_key (inl z) (inl w) = absurd (ya (sym w ∙ z))
    by_key (inl z) (inr w) = ap (λ i. if same_key i a then s.at y else (if same_key j y then s.at a else s.at j)) z ∙ key_same a (s.at y) (if same_key j y then s.at a else s.at j) ∙ gy
        ∙ sym (key_same a gone_v (s.at j)) ∙ ap (λ i. if same_key i a then gone_v else s.at j) (sym z) ∙ sym (key_other j y (s.at a) (if same_key j a then gone_v else s.at j) w)
    by_key (inr z) (inl w) = key_other j a (s.at y) (if same_key j y then s.at a else s.at j) z ∙ as_same (s.at j) (if same_key j a then gone_v else s.at j) w
      where
        as_same : (c d : Val) → j ≡ y → (if same_key j y then s.at a else c) ≡ (if same_key j y then s.at a else d)
        as_same c d w = ap (λ i. if same_key i y then s.at a else c) w ∙ key_same y (s.at a) c ∙ sym (key_same y (s.at a) d) ∙ ap (λ i. if same_key i y then s.at a else d) (sym w)
    by_key (inr z) (inr w) = key_other j a (s.at y) (if same_key j y then s.at a else s.at j) z ∙ key_other j y (s.at a) (s.at j) w
        ∙ sym (key_other j a gone_v (s.at j) z) ∙ sym (key_other j y (s.at a) (if same_key j a then gone_v else s.at j) w)

-- a new slot
pub let_row : LetRow
let_row key rank a e E s k name ks t rank_ok top = by (E a) refl
  where
    n : ℕ
    n = length e

    free : Unnamed E (key (length e))
    free = last_unnamed key rank a e E s (Some k) (length e) (length e) ks t t.names (omega arith) (omega arith)

    empty : E (key (length e)) ≡ owns hole
    empty = t.above (length e) (omega arith)

    xa : key (length e) ≢ a
    xa = ks.off (length e)

    lower : (i : ℕ) → i < length e → key i ≢ key (length e)
    lower i lt z = let g = ks.differ i (length e) z in omega arith

    gone_there : s.at (key (length e)) ≡ gone_v
    gone_there = top_fits rank E s t.typed (key (length e)) hole empty

    by : (q : Exact) → E a ≡ q → After key rank a E (record { name = name; part = whole k } ∷ e) (swap s a (at_key (key (length e)))) None
    by (owns th) is =
        let y = key (length e) in
        let E1 = with_type E y (owns th) in
        let E2 = with_type E1 a (owns hole) in
        let fa = unnamed_with E y th a t.quiet in
        bound key rank a e E E2 s (swap s a (at_key y)) k name ks t
        (swap_own rank E s a y 0 th hole hole (at_key y) t.typed t.quiet (λ z. xa (sym z)) is free empty refl refl)
        (λ j jy ja. key_other j a (owns hole) (E1 j) ja ∙ key_other j y (owns th) (E j) jy)
        (key_other y a (owns hole) (E1 y) xa ∙ key_same y (owns th) (E y) ∙ sym is)
        (key_same a (owns hole) (E1 a))
        (exact_with key E1 a (owns hole) (whole k) (E a) fa (λ m u js. t.quiet a m u js) (exact_with key E y (owns th) (whole k) (E a) free (λ m u js. free a m u js) t.temp))
        (slots_with key E1 a (owns hole) e fa (λ i _. ks.off i) (slots_with key E y (owns th) e free lower t.slots)) top
    by (refers m u) is =
        let y = key (length e) in
        let E1 = with_type E a (owns hole) in
        let E2 = with_type E1 y (refers m u) in
        let fy = unnamed_with E a hole y free in
        bound key rank a e E E2 s (swap s a (at_key y)) k name ks t
        (same_store rank E2 E2 (put_value (put_value s (at_key a) gone_v) (at_key y) (s.at a)) (swap s a (at_key y)) (move_ref rank E s a y m u t.typed t.quiet free (λ z. xa (sym z)) is (rank_ok m u is)) (λ _. refl) (swap_back s a y xa gone_there))
        (λ j jy ja. key_other j y (refers m u) (E1 j) jy ∙ key_other j a (owns hole) (E j) ja)
        (key_same y (refers m u) (E1 y) ∙ sym is)
        (key_other a y (refers m u) (E1 a) (λ z. xa (sym z)) ∙ key_same a (owns hole) (E a))
        (exact_with key E1 y (refers m u) (whole k) (E a) fy (λ q v js. free a q v js) (exact_with key E a (owns hole) (whole k) (E a) t.quiet (λ q v js. t.quiet a q v js) t.temp))
        (slots_with key E1 y (refers m u) e fy lower (slots_with key E a (owns hole) e t.quiet (λ i _. ks.off i) t.slots)) top

-- a reference that is no view may stand in the next slot
pub rank_next : NextRow
rank_next key rank a e E s k ks t nv m u is = by k (subst (ExactOf key E (whole k)) is t.temp) t.names nv
  where
    lower : (us : List Lval) → AreBelow (length e) us → OneOf key us u → rank u.key < rank (key (length e))
    lower us h o = let x = one_low key us u (length e) h o in subst (λ z. rank z < rank (key (length e))) (sym x.2) (ks.ranks x.0 (length e) x.1)

    by : (k : Kind) → RefOf key E (whole k) m u → AreBelow (length e) (kind_places k) → ((o : Owned) → k ≡ view o → ⊥) → rank u.key < rank (key (length e))
    by (own o) h l nv = absurd h
    by (shared us) h l nv = lower us l h.1
    by (mutable us) h l nv = lower us l h.1
    by (view o) h l nv = absurd (nv o refl)
