-- A value at the temporary: constants, copies, a box around it, its end.
use Rattle.fr_store.proofs.Keys.{decide_key, key_same, key_other}
use Rattle.fr_store.specs.Keys.{same_key, Key}
use Rattle.fr_store.specs.Store.{task_v, unit_v, Val, Location, at_key, Store, Place, put_value, int_v, locate, value_at}
use Rattle.fr_store.specs.Typed.{TopFits, hole, box_tree, owns, refers, KeyTypes, Resolves, Typed}
use Rattle.fr_store.specs.Below.{tree_of, OneOf, ExactOf}
use Rattle.fr_store.specs.Rows.{with_type}
use Rattle.fr_store.specs.Thread.{ThreadTyped, After, place_of, ThreadKeys, ThreadTyped, Known, After}
use Rattle.fr_store.specs.OwnedRows.{UnitRow, ReadUnitRow, DropRow, BoxRow, IntRow, ReadIntRow}
use Rattle.fr_store.specs.ReferenceRows.{CopyRow, ForgetRow}
use Rattle.fr_store.specs.Changes.{new_task, new_unit, New, new_int}
use Rattle.std.proofs.Common.{◌<◌, Option, ◌≡◌, ◌≢◌, inl, ⊎_elim, ℕ, false, List, length, Some, None, refl, sym, ap, subst, ◌∙◌, arith}
use Rattle.std.specs.Prelude.{if◌then◌else◌}
use Rattle.fr_base.specs.declared.place.Lval.{Lval}
use Rattle.fr_typing.specs.Kinds.{task, unit, Owned, int, box, Kind, own, shared, whole}
use Rattle.fr_typing.specs.Places.{Slot, AreBelow, kind_places, found, type_at}
use Rattle.fr_store.proofs.Sound.{res_part}
use Rattle.fr_store.proofs.Changes.{set}
use Rattle.fr_store.proofs.Rows.{found_place, forget, unnamed_with, drop_hand, box_hand, copy_ref, put_other}
use Rattle.fr_store.proofs.Below.{mut_place, resolved}
use Rattle.fr_store.proofs.PutAt.{places_any}
use Rattle.fr_store.proofs.ThreadKept.{exact_owned, exact_with, known_ref, known_tree, ref_base, res_low, shared_found, slots_with, stood}

-- the end of an owned value at hand
pub drop_row : DropRow
drop_row key rank a e E s o fuel ks y le =
    let ea : E a ≡ owns (tree_of o) = exact_owned key E o (E a) y.temp in
    record {
      env = with_type E a (owns hole);
      others = λ j ja jk. key_other j a (owns hole) (E j) ja;
      new = λ j m u js. stood key a E j m u (known_tree key a E a hole j m u js);
      thread = record {
        typed = drop_hand rank E s a (tree_of o) fuel y.typed y.quiet ea le;
        nested = y.nested;
        over = y.over;
        slots = slots_with key E a (owns hole) e y.quiet (λ i _. ks.off i) y.slots;
        above = λ i le. key_other (key i) a (owns hole) (E (key i)) (ks.off i) ∙ y.above i le;
        temp = key_same a (owns hole) (E a);
        names = tt;
        quiet = unnamed_with E a hole a y.quiet;
        alone = λ j m u js ne. y.alone j m u (sym (key_other j a (owns hole) (E j) ne) ∙ js) ne;
      };
    }

-- the end of a reference at hand
pub forget_row : ForgetRow
forget_row key rank a e E s k ks y = record {
  env = with_type E a (owns hole);
  others = λ j ja jk. key_other j a (owns hole) (E j) ja;
  new = λ j m u js. stood key a E j m u (known_tree key a E a hole j m u js);
  thread = record {
    typed = forget rank E s a y.typed y.quiet;
    nested = y.nested;
    over = y.over;
    slots = slots_with key E a (owns hole) e y.quiet (λ i _. ks.off i) y.slots;
    above = λ i le. key_other (key i) a (owns hole) (E (key i)) (ks.off i) ∙ y.above i le;
    temp = key_same a (owns hole) (E a);
    names = tt;
    quiet = unnamed_with E a hole a y.quiet;
    alone = λ j m u js ne. y.alone j m u (sym (key_other j a (owns hole) (E j) ne) ∙ js) ne;
  };
}

-- a box around the value at hand
pub box_row : BoxRow
box_row key rank a e E s o n ks t none fresh =
    let ea = exact_owned key E o (E a) t.temp in
    let q = owns (box_tree (tree_of o)) in
    record {
      env = with_type E a q;
      others = λ j ja jk. key_other j a q (E j) ja;
      new = λ j m u js. stood key a E j m u (known_tree key a E a (box_tree (tree_of o)) j m u js);
      thread = record {
        typed = box_hand rank E s a (tree_of o) n t.typed t.quiet ea none fresh;
        nested = t.nested;
        over = t.over;
        slots = slots_with key E a q e t.quiet (λ i _. ks.off i) t.slots;
        above = λ i le. key_other (key i) a q (E (key i)) (ks.off i) ∙ t.above i le;
        temp = subst (ExactOf key (with_type E a q) (whole (own (box o)))) (sym (key_same a q (E a))) refl;
        names = tt;
        quiet = unnamed_with E a (box_tree (tree_of o)) a t.quiet;
        alone = λ j m u js ne. t.alone j m u (sym (key_other j a q (E j) ne) ∙ js) ne;
      };
    }

-- the temporary gets a copy of a reference that stands in key b
copied : (key : ℕ → Key) (rank : Key → ℕ) (a : Key) (e : List Slot) (E : KeyTypes) (s s2 : Store) (k : Kind) (b : Key) (u : Place) → ThreadKeys key rank a → ThreadTyped key rank a e E s None → E b ≡ refers false u → ExactOf key E (whole k) (refers false u) → AreBelow (length e) (kind_places k)
    → Typed rank (with_type E a (refers false u)) s2 → Known key a E a false u → After key rank a E e s2 (Some k)
copied key rank a e E s s2 k b u ks t is exact low typed known =
    let p = refers false u in
    record {
      env = with_type E a p;
      others = λ j ja jk. key_other j a p (E j) ja;
      new = λ j m v js. known_ref key a E a false u known j m v js;
      thread = record {
        typed = typed;
        nested = t.nested;
        over = t.over;
        slots = slots_with key E a p e t.quiet (λ i _. ks.off i) t.slots;
        above = λ i le. key_other (key i) a p (E (key i)) (ks.off i) ∙ t.above i le;
        temp = subst (ExactOf key (with_type E a p) (whole k)) (sym (key_same a p (E a))) (exact_with key E a p (whole k) p t.quiet (λ m v js. let sv : u ≡ v = cc in subst (λ (z : Place). z.key ≢ a) sv (t.quiet b false u is)) exact);
        names = low;
        quiet = λ j m v js. ⊎_elim (λ (z : j ≡ a). let g : p ≡ refers m v = sym (key_same a p (E a)) ∙ ap (with_type E a p) (sym z) ∙ js in let sv : u ≡ v = cc in subst (λ (z : Place). z.key ≢ a) sv (t.quiet b false u is)) (λ (z : j ≢ a). t.quiet j m v (sym (key_other j a p (E j) z) ∙ js)) (decide_key j a);
        alone = λ j m v js ne. t.alone j m v (sym (key_other j a p (E j) ne) ∙ js) ne;
      };
    }

-- a copied shared reference
pub copy_row : CopyRow
copy_row key rank a e E s w us ks t lt is =
    let r = resolved key E (mut_place rank E s t.typed) e t.nested t.slots w (whole (shared us)) lt is in
    let x = shared_found key E us r.type r.exact in
    let res = subst (Resolves E false (key w.slot) w.depth r.base r.boxes) x.1 r.res in
    let f = found_place rank E s false (place_of key w) r.base r.boxes (refers false x.0) t.typed res in
    let low = res_low rank E s t.typed false (key w.slot) w.depth r.base r.boxes (refers false x.0) res in
    let up = t.over w.slot lt in
    let typed = copy_ref rank E s a false (place_of key w) r.base r.boxes x.0 f.loc f.value t.typed t.quiet res (omega (arith, low, up)) f.at f.there in
    let is2 = ref_base r.boxes (E r.base) false x.0 (res_part E false (key w.slot) w.depth r.base r.boxes (refers false x.0) res) in (
      f.loc,
      f.value,
      f.at,
      f.there,
      copied key rank a e E s (put_value s (at_key a) f.value) (shared us) r.base x.0 ks t is2 (subst (ExactOf key E (whole (shared us))) x.1 r.exact) (places_any e w us t.nested is lt) typed
          (let o : OneOf key us x.0 = (subst (ExactOf key E (whole (shared us))) x.1 r.exact).1 in inl (o.place.slot, ap (λ (z : Place). z.key) o.is)),
    )

-- a value at hand that owns no object and refers to nothing
pub constant : (key : ℕ → Key) (rank : Key → ℕ) (a : Key) (e : List Slot) (E : KeyTypes) (s : Store) (o : Owned) (v : Val) → ThreadKeys key rank a → ThreadTyped key rank a e E s None → New rank E s a (owns (tree_of o)) v
    → After key rank a E e (put_value s (at_key a) v) (Some (own o))
constant key rank a e E s o v ks t n =
    let p = owns (tree_of o) in
    record {
      env = with_type E a p;
      others = λ j ja jk. key_other j a p (E j) ja;
      new = λ j m u js. stood key a E j m u (known_tree key a E a (tree_of o) j m u js);
      thread = record {
        typed = set rank E (with_type E a p) s (put_value s (at_key a) v) a t.typed t.quiet (λ j ne. key_other j a p (E j) ne) (put_other s (at_key a) v)
            (subst (λ q. New rank E s a q (if same_key a a then v else s.at a)) (sym (key_same a p (E a))) (subst (New rank E s a p) (sym (key_same a v (s.at a))) n));
        nested = t.nested;
        over = t.over;
        slots = slots_with key E a p e t.quiet (λ i _. ks.off i) t.slots;
        above = λ i le. key_other (key i) a p (E (key i)) (ks.off i) ∙ t.above i le;
        temp = subst (ExactOf key (with_type E a p) (whole (own o))) (sym (key_same a p (E a))) refl;
        names = tt;
        quiet = unnamed_with E a (tree_of o) a t.quiet;
        alone = λ j m u js ne. t.alone j m u (sym (key_other j a p (E j) ne) ∙ js) ne;
      };
    }

-- a number
pub int_row : IntRow
int_row key rank a e E s n ks t = constant key rank a e E s int (int_v n) ks t (new_int n)

-- `()`
pub unit_row : UnitRow
unit_row key rank a e E s ks t = constant key rank a e E s unit unit_v ks t new_unit

-- what stands at a place of an owned type
owned_place : (key : ℕ → Key) (rank : Key → ℕ) (a : Key) (e : List Slot) (E : KeyTypes) (s : Store) (temp : Option Kind) (w : Lval) (o : Owned) → ThreadTyped key rank a e E s temp → w.slot < length e → type_at e w ≡ found (whole (own o))
    → (l : Location) × (v : Val) × (locate s (place_of key w) ≡ Some l) × (value_at s l ≡ Some v) × TopFits (tree_of o) v
owned_place key rank a e E s temp w o t lt is =
    let r = resolved key E (mut_place rank E s t.typed) e t.nested t.slots w (whole (own o)) lt is in
    let res : Resolves E false (key w.slot) w.depth r.base r.boxes (owns (tree_of o)) = subst (Resolves E false (key w.slot) w.depth r.base r.boxes) (exact_owned key E o r.type r.exact) r.res in
    let f = found_place rank E s false (place_of key w) r.base r.boxes (owns (tree_of o)) t.typed res in
    (f.loc, f.value, f.at, f.there, f.fits)

-- at a place of type int a number stands
pub read_int_row : ReadIntRow
read_int_row key rank a e E s temp w ks t lt is =
    let f = owned_place key rank a e E s temp w int t lt is in
    (f.0, f.4.0, f.2, f.3 ∙ ap Some f.4.1)

-- at a place of type unit `()` stands
pub read_unit_row : ReadUnitRow
read_unit_row key rank a e E s temp w ks t lt is =
    let f = owned_place key rank a e E s temp w unit t lt is in
    (f.0, f.2, f.3 ∙ ap Some f.4)

-- a task
pub task_row : (key : ℕ → Key) (rank : Key → ℕ) (a : Key) (e : List Slot) (E : KeyTypes) (s : Store) (o : Owned) (n : ℕ) → ThreadKeys key rank a → ThreadTyped key rank a e E s None → After key rank a E e (put_value s (at_key a) (task_v n (tree_of o))) (Some (own (task o)))
task_row key rank a e E s o n ks t = constant key rank a e E s (task o) (task_v n (tree_of o)) ks t (new_task n (tree_of o))
