-- A mutable reference leaves its variable, and a variable gets another reference.
use Rattle.fr_store.proofs.Keys.{decide_key, key_same, key_other}
use Rattle.fr_store.specs.Keys.{same_key, Key}
use Rattle.fr_store.specs.Store.{Location, at_key, Store, Place, put_value, swap, drop_value, value_at, gone_v, at_object}
use Rattle.fr_store.specs.Typed.{hole, owns, refers, KeyTypes, Typed, Unnamed}
use Rattle.fr_store.specs.Below.{ExactOf}
use Rattle.fr_store.specs.Rows.{with_type}
use Rattle.fr_store.specs.Thread.{temp_places, ThreadKeys, ThreadTyped, Known}
use Rattle.fr_store.specs.ReferenceRows.{MoveRefRow, ClearRow, FillRow}
use Rattle.std.proofs.Common.{◌≡◌, ◌≢◌, ◌⊎◌, inl, inr, ⊎_elim, ℕ, ◌<◌, ◌≤◌, Bool, true, List, length, Option, Some, None, refl, sym, ap, subst, ◌∙◌, arith}
use Rattle.std.specs.Prelude.{if◌then◌else◌}
use Rattle.fr_base.specs.declared.place.Lval.{Lval}
use Rattle.fr_typing.specs.Kinds.{unit, Kind, own, mutable, whole, gone}
use Rattle.fr_typing.specs.Places.{Slot, put_at, AreBelow}
use Rattle.fr_typing.proofs.PlaceLemmas.{AreBelow-weaker}
use Rattle.fr_store.proofs.Below.{slot_exact}
use Rattle.fr_store.proofs.Rows.{unnamed_with, top_fits, move_ref, same_store}
use Rattle.fr_store.proofs.Below.{mut_place}
use Rattle.fr_store.proofs.PutAt.{length_put, long_put, nested_put, places_found, slots_gone, slots_set}
use Rattle.fr_store.proofs.SlotRows.{swap_back}
use Rattle.fr_store.proofs.ThreadKept.{exact_with, known_tree, no_temp, not_hole, ref_found, ref_low, slots_with, still_hole, stood, temp_with, unnamed_key, end_value}

-- one value and a free key change places
swap_free : (s : Store) (a x : Key) → x ≢ a → s.at a ≡ gone_v → (l : Location) → value_at (swap s a (at_key x)) l ≡ value_at (put_value (put_value s (at_key x) gone_v) (at_key a) (s.at x)) l
swap_free s a x xa ga (at_object o) = refl
swap_free s a x xa ga (at_key j) = ap Some (by_key (decide_key j a) (decide_key j x))
  where
    by_key : (j ≡ a) ⊎ (j ≢ a) → (j ≡ x) ⊎ (j ≢ x) → (if same_key j a then s.at x else (if same_key j x then s.at a else s.at j)) ≡ (if same_key j a then s.at x else (if same_key j x then gone_v else s.at j))
    by_key z w = ap (λ v. if same_key j a then s.at x else (if same_key j x then v else s.at j)) ga

-- a mutable reference moves out of its variable
pub move_ref_row : MoveRefRow
move_ref_row key rank a e E s x us ks t lt is free =
    let w : Lval = record { slot = x; depth = 0 } in
    let exact = slot_exact key E (mut_place rank E s t.typed) e x (whole (mutable us)) t.slots is in
    let r = ref_found key E us (E (key x)) exact in
    let u = r.0 in
    let fx = unnamed_key key rank a e E s None ks t x free (λ m u z. absurd (no_temp E a m u t.temp z)) in
    let low = places_found e x us t.nested is lt in
    let E1 = with_type E (key x) (owns hole) in
    let E2 = with_type E1 a (refers true u) in
    let fa = unnamed_with E (key x) hole a t.quiet in
    let own = ref_low key E (whole (mutable us)) true u x low (subst (ExactOf key E (whole (mutable us))) r.1 exact) in
    let lower = t.typed.below (key x) true u r.1 in
    let up = t.over x lt in
    let typed = move_ref rank E s (key x) a true u t.typed fx t.quiet (ks.off x) r.1 (omega (arith, lower, up)) in
    record {
      env = E2;
      others = λ j ja jk. key_other j a (refers true u) (E1 j) ja ∙ key_other j (key x) (owns hole) (E j) (jk x);
      new = λ j m v js. ⊎_elim (λ (z : j ≡ a). from_x u r.1 j m v (sym (key_same a (refers true u) (E1 a)) ∙ ap E2 (sym z) ∙ js)) (λ (z : j ≢ a). stood key a E j m v (known_tree key a E (key x) hole j m v (sym (key_other j a (refers true u) (E1 j) z) ∙ js))) (decide_key j a);
      thread = record {
        typed = same_store rank E2 E2 (put_value (put_value s (at_key (key x)) gone_v) (at_key a) (s.at (key x))) (swap s a (at_key (key x))) typed (λ _. refl) (swap_free s a (key x) (ks.off x) (top_fits rank E s t.typed a hole t.temp));
        nested = nested_put e w (gone (mutable us)) low t.nested;
        over = λ i il. t.over i (subst (λ n. i < n) (length_put e w (gone (mutable us))) il);
        slots = slots_with key E1 a (refers true u) (put_at e w (gone (mutable us))) fa (λ i _. ks.off i) (slots_gone key E e x (mutable us) ks.differ t.slots fx);
        above = λ i le. key_other (key i) a (refers true u) (E1 (key i)) (ks.off i) ∙ hole_above i (subst (λ n. n ≤ i) (length_put e w (gone (mutable us))) le) t.above;
        temp = subst (ExactOf key E2 (whole (mutable us))) (sym (key_same a (refers true u) (E1 a))) (subst (ExactOf key E2 (whole (mutable us))) r.1 exact);
        names = AreBelow-weaker x (length (put_at e w (gone (mutable us)))) us (subst (λ n. x ≤ n) (sym (length_put e w (gone (mutable us)))) (omega arith)) low;
        quiet = quiet u (t.quiet (key x) true u r.1) t.quiet;
        alone = λ j m v js ne. shorter j v (t.alone j m v (back j m v (sym (key_other j a (refers true u) (E1 j) ne) ∙ js)) ne);
      };
    }
  where
    from_x : (u : Place) → E (key x) ≡ refers true u → (j : Key) (m : Bool) (v : Place) → refers true u ≡ refers m v → Known key a E j m v
    from_x u is j m v g = inr (key x, is ∙ g, inr (inr (x, refl)))

    hole_above : (i : ℕ) → length e ≤ i → ((i : ℕ) → length e ≤ i → E (key i) ≡ owns hole) → with_type E (key x) (owns hole) (key i) ≡ owns hole
    hole_above i le f = ⊎_elim (λ (z : key i ≡ key x). ap (with_type E (key x) (owns hole)) z ∙ key_same (key x) (owns hole) (E (key x))) (λ (z : key i ≢ key x). key_other (key i) (key x) (owns hole) (E (key i)) z ∙ f i le) (decide_key (key i) (key x))

    back : (j : Key) (m : Bool) (v : Place) → with_type E (key x) (owns hole) j ≡ refers m v → E j ≡ refers m v
    back j m v js = ⊎_elim (λ (z : j ≡ key x). let g : owns hole ≡ refers m v = sym (key_same (key x) (owns hole) (E (key x))) ∙ ap (with_type E (key x) (owns hole)) (sym z) ∙ js in absurd cc) (λ (z : j ≢ key x). sym (key_other j (key x) (owns hole) (E j) z) ∙ js) (decide_key j (key x))

    quiet : (u : Place) → u.key ≢ a → Unnamed E a → Unnamed (with_type (with_type E (key x) (owns hole)) a (refers true u)) a
    quiet u ne f j m v js =
        ⊎_elim (λ (z : j ≡ a).
        let g : refers m v ≡ refers true u = sym js ∙ ap (with_type (with_type E (key x) (owns hole)) a (refers true u)) z ∙ key_same a (refers true u) (with_type E (key x) (owns hole) a) in
        let sv : v ≡ u = cc in
        subst (λ (y : Place). y.key ≢ a) (sym sv) ne)
        (λ (z : j ≢ a). f j m v (back j m v (sym (key_other j a (refers true u) (with_type E (key x) (owns hole) j) z) ∙ js))) (decide_key j a)

    shorter : (j : Key) (u : Place) → ((i : ℕ) × (i < length e) × (j ≡ key i)) ⊎ ((x : ℕ) → u.key ≢ key x) → ((i : ℕ) × (i < length (put_at e (record { slot = x; depth = 0 }) (gone (mutable us)))) × (j ≡ key i)) ⊎ ((x : ℕ) → u.key ≢ key x)
    shorter j u (inl z) = inl (z.0, subst (λ n. z.0 < n) (sym (length_put e (record { slot = x; depth = 0 }) (gone (mutable us)))) z.1, z.2)
    shorter j u (inr z) = inr z

-- a variable's value has ended
cleared : (key : ℕ → Key) (rank : Key → ℕ) (a : Key) (e : List Slot) (E : KeyTypes) (s s2 : Store) (x : ℕ) (o : Option Kind) → ThreadKeys key rank a → ThreadTyped key rank a e E s o → Unnamed E (key x) → Typed rank (with_type E (key x) (owns hole)) s2
    → ThreadTyped key rank a (put_at e (record { slot = x; depth = 0 }) (gone (own unit))) (with_type E (key x) (owns hole)) s2 o
cleared key rank a e E s s2 x o ks t free typed =
    let w : Lval = record { slot = x; depth = 0 } in
    record {
      typed = typed;
      nested = nested_put e w (gone (own unit)) tt t.nested;
      over = λ i il. t.over i (subst (λ n. i < n) (length_put e w (gone (own unit))) il);
      slots = slots_set key E e x (gone (own unit)) (owns hole) ks.differ t.slots free refl;
      above = λ i le. still_hole E (key x) (key i) (t.above i (subst (λ n. n ≤ i) (length_put e w (gone (own unit))) le));
      temp = temp_with key E a (key x) (owns hole) o (λ z. ks.off x (sym z)) free t.temp;
      names = subst (λ n. AreBelow n (temp_places o)) (sym (length_put e w (gone (own unit)))) t.names;
      quiet = unnamed_with E (key x) hole a t.quiet;
      alone = λ j m u js ne. long_put key e w (gone (own unit)) j u (t.alone j m u (sym (key_other j (key x) (owns hole) (E j) (not_hole E (key x) j m u js)) ∙ js) ne);
    }

-- a variable's value ends
pub clear_row : ClearRow
clear_row key rank a e E s x q o fuel ks t free is le =
    cleared key rank a e E s (drop_value fuel (key x) s) x o ks t free (end_value key rank E s (key x) q fuel t.typed free (slot_exact key E (mut_place rank E s t.typed) e x q t.slots is) le)

-- a variable gets the reference at hand
pub fill_row : FillRow
fill_row key rank a e E s x k m u ks t ea ex free lt low rank_ok =
    let w : Lval = record { slot = x; depth = 0 } in
    let y = key x in
    let p = refers m u in
    let E1 = with_type E a (owns hole) in
    let E2 = with_type E1 y p in
    let xa = ks.off x in
    let fy = unnamed_with E a hole y free in
    let exact = exact_with key E a (owns hole) (whole k) (E a) t.quiet (λ q v js. t.quiet a q v js) t.temp in
    let exact2 = exact_with key E1 y p (whole k) (E a) fy (λ q v js. free a q v js) exact in
    record {
      env = E2;
      others = λ j ja jk. key_other j y p (E1 j) (jk x) ∙ key_other j a (owns hole) (E j) ja;
      new = λ j q v js. ⊎_elim (λ (z : j ≡ y). inr (a, ea ∙ sym (key_same y p (E1 y)) ∙ ap E2 (sym z) ∙ js, inr (inl refl))) (λ (z : j ≢ y). stood key a E j q v (known_tree key a E a hole j q v (sym (key_other j y p (E1 j) z) ∙ js))) (decide_key j y);
      thread = record {
        typed = same_store rank E2 E2 (put_value (put_value s (at_key a) gone_v) (at_key y) (s.at a)) (swap s a (at_key y)) (move_ref rank E s a y m u t.typed t.quiet free (λ z. xa (sym z)) ea rank_ok) (λ _. refl)
            (swap_back s a y xa (top_fits rank E s t.typed y hole ex));
        nested = nested_put e w (whole k) low t.nested;
        over = λ i il. t.over i (subst (λ n. i < n) (length_put e w (whole k)) il);
        slots = slots_set key E1 e x (whole k) p ks.differ (slots_with key E a (owns hole) e t.quiet (λ i _. ks.off i) t.slots) fy (subst (ExactOf key E2 (whole k)) ea exact2);
        above = λ i le. key_other (key i) y p (E1 (key i)) (λ z. too_high i (ks.differ i x z) (subst (λ n. n ≤ i) (length_put e w (whole k)) le)) ∙ still_hole E a (key i) (t.above i (subst (λ n. n ≤ i) (length_put e w (whole k)) le));
        temp = key_other a y p (E1 a) (λ z. xa (sym z)) ∙ key_same a (owns hole) (E a);
        names = tt;
        quiet = λ j q v js. ⊎_elim (λ (z : j ≡ y). t.quiet a q v (ea ∙ sym (key_same y p (E1 y)) ∙ ap E2 (sym z) ∙ js)) (λ (z : j ≢ y). let g = sym (key_other j y p (E1 j) z) ∙ js in t.quiet j q v (sym (key_other j a (owns hole) (E j) (not_hole E a j q v g)) ∙ g)) (decide_key j y);
        alone = λ j q v js ne. long_put key e w (whole k) j v (⊎_elim (λ (z : j ≡ y). inl (x, lt, z)) (λ (z : j ≢ y). let g = sym (key_other j y p (E1 j) z) ∙ js in t.alone j q v (sym (key_other j a (owns hole) (E j) ne) ∙ g) ne) (decide_key j y));
      };
    }
  where
    too_high : (i : ℕ) → i ≡ x → length e ≤ i → ⊥
    too_high i z le = omega arith
