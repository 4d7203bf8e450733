-- A captured variable goes from one thread's slots to another's; joins of temporaries.
use Rattle.fr_store.proofs.Keys.{decide_key, key_same, key_other}
use Rattle.fr_typing.proofs.PlaceLemmas.{eq_cases}
use Rattle.std.proofs.Common.{◌≡◌, ◌≢◌, ◌⊎◌, inl, inr, ⊎_elim, ℕ, suc, ◌<◌, ◌≤◌, Bool, false, List, ◌∷◌, Option, length, Some, None, refl, sym, ap, subst, ◌∙◌, arith}
use Rattle.fr_base.specs.declared.place.Lval.{Lval}
use Rattle.fr_typing.specs.Kinds.{Owned, Kind, own, whole, gone, map_some}
use Rattle.fr_typing.specs.Places.{Slot, type_at, found, write_blocked, found_or_none, put_at, IsNested, AreBelow, kind_places, alike}
use Rattle.fr_store.specs.Keys.{Key}
use Rattle.fr_store.specs.Store.{at_key, Store, Place, swap}
use Rattle.fr_store.specs.Typed.{Tree, hole, owns, refers, KeyTypes}
use Rattle.fr_store.specs.Below.{tree_of, ExactOf, SlotsBelow}
use Rattle.fr_store.specs.Rows.{with_type}
use Rattle.fr_store.specs.Thread.{ThreadKeys, ThreadTyped}
use Rattle.fr_terms.specs.Terms.{Text}
use Rattle.fr_store.specs.OtherThreads.{CaptureRow}
use Rattle.fr_store.specs.JoinRows.{JoinTempRow}
use Rattle.fr_store.proofs.Rows.{swap_own, unnamed_with}
use Rattle.fr_store.proofs.Below.{slot_exact, mut_place, join_parts}
use Rattle.fr_store.proofs.JoinRows.{slots_join}
use Rattle.fr_store.proofs.PutAt.{slots_gone, nested_put, length_put, long_put}
use Rattle.fr_store.proofs.ThreadKept.{exact_owned, unnamed_key, last_unnamed, slots_with, no_temp}

-- the exact types after a capture of an owned variable
abbrev pub captured_types : (ℕ → Key) → (ℕ → Key) → List Slot → KeyTypes → ℕ → Owned → KeyTypes
captured_types key key2 e2 E x o = with_type (with_type E (key x) (owns hole)) (key2 (length e2)) (owns (tree_of o))

-- both threads after spawn's capture of an owned variable
pub capture_typed : (key key2 : ℕ → Key) (rank : Key → ℕ) (hand hand2 : Key) (slots slots2 : List Slot) (E : KeyTypes) (s : Store) (x : ℕ) (name : Option Text) (o : Owned)
    → ThreadKeys key rank hand
    → ThreadKeys key2 rank hand2
    → ThreadTyped key rank hand slots E s None
    → ThreadTyped key2 rank hand2 slots2 E s None
    → ((i j : ℕ) → key i ≢ key2 j)
    → ((i : ℕ) → key i ≢ hand2)
    → ((i : ℕ) → key2 i ≢ hand)
    → rank (key2 (length slots2)) < rank hand2
    → x < length slots
    → type_at slots (record { slot = x; depth = 0 }) ≡ found (whole (own o))
    → write_blocked slots x ≡ false
    → ThreadTyped key rank hand (put_at slots (record { slot = x; depth = 0 }) (gone (own o))) (captured_types key key2 slots2 E x o) (swap s (key2 (length slots2)) (at_key (key x))) None
    × ThreadTyped key2 rank hand2 (record { name = name; part = whole (own o) } ∷ slots2) (captured_types key key2 slots2 E x o) (swap s (key2 (length slots2)) (at_key (key x))) None
capture_typed key key2 rank a a2 e e2 E s x name o ks ks2 t t2 apart ka2 k2a top lt is free =
    let w : Lval = record { slot = x; depth = 0 } in
    let c = key2 (length e2) in
    let y = key x in
    let tree = tree_of o in
    let ey = exact_owned key E o (E y) (slot_exact key E (mut_place rank E s t.typed) e x (whole (own o)) t.slots is) in
    let ec = t2.above (length e2) (omega arith) in
    let fy = unnamed_key key rank a e E s None ks t x free (λ m u z. absurd (no_temp E a m u t.temp z)) in
    let fc = last_unnamed key2 rank a2 e2 E s None (length e2) (length e2) ks2 t2 t2.names (omega arith) (omega arith) in
    let cy : c ≢ y = λ z. apart x (length e2) (sym z) in
    let E1 = with_type E y (owns hole) in
    let E2 = with_type E1 c (owns tree) in
    let fc1 = unnamed_with E y hole c fc in
    let typed = swap_own rank E s c y 0 hole tree tree (at_key y) t.typed fc cy ec fy ey refl refl in (
      record {
        typed = typed;
        nested = nested_put e w (gone (own o)) tt t.nested;
        over = λ i il. t.over i (subst (λ n. i < n) (length_put e w (gone (own o))) il);
        slots = slots_with key E1 c (owns tree) (put_at e w (gone (own o))) fc1 (λ i _. apart i (length e2)) (slots_gone key E e x (own o) ks.differ t.slots fy);
        above = λ i le. key_other (key i) c (owns tree) (E1 (key i)) (apart i (length e2)) ∙ hole_still (key i) (t.above i (subst (λ n. n ≤ i) (length_put e w (gone (own o))) le));
        temp = key_other a c (owns tree) (E1 a) (λ z. k2a (length e2) (sym z)) ∙ hole_still a t.temp;
        names = tt;
        quiet = unnamed_with E1 c tree a (unnamed_with E y hole a t.quiet);
        alone = λ j m u js ne. long_put key e w (gone (own o)) j u (t.alone j m u (back c tree j m u js).1 ne);
      },
      record {
        typed = typed;
        nested = (tt, t2.nested);
        over = λ i il. eq_cases (λ _. rank (key2 i) < rank a2) i (length e2) (λ same. subst (λ n. rank (key2 n) < rank a2) (sym same) top) (λ ne. t2.over i (omega arith));
        slots = (
          subst (ExactOf key2 E2 (whole (own o))) (sym (key_same c (owns tree) (E1 c))) refl,
          slots_with key2 E1 c (owns tree) e2 fc1 (λ i il z. lower i il (ks2.differ i (length e2) z)) (slots_with key2 E y (owns hole) e2 fy (λ i _ z. apart x i (sym z)) t2.slots),
        );
        above = λ i le. key_other (key2 i) c (owns tree) (E1 (key2 i)) (λ z. higher i le (ks2.differ i (length e2) z)) ∙ hole_still (key2 i) (t2.above i (omega arith));
        temp = key_other a2 c (owns tree) (E1 a2) (λ z. ks2.off (length e2) (sym z)) ∙ hole_still a2 t2.temp;
        names = tt;
        quiet = unnamed_with E1 c tree a2 (unnamed_with E y hole a2 t2.quiet);
        alone = λ j m u js ne. wider j u (t2.alone j m u (back c tree j m u js).1 ne);
      },
    )
  where
    hole_still : (j : Key) → E j ≡ owns hole → with_type E (key x) (owns hole) j ≡ owns hole
    hole_still j h = ⊎_elim (λ (z : j ≡ key x). ap (with_type E (key x) (owns hole)) z ∙ key_same (key x) (owns hole) (E (key x))) (λ (z : j ≢ key x). key_other j (key x) (owns hole) (E j) z ∙ h) (decide_key j (key x))

    lower : (i : ℕ) → i < length e2 → i ≡ length e2 → ⊥
    lower i lt z = omega arith

    higher : (i : ℕ) → suc (length e2) ≤ i → i ≡ length e2 → ⊥
    higher i le z = omega arith

    tree_not : (k : Key) (q : KeyTypes) (t : Tree) (j : Key) (m : Bool) (u : Place) → with_type q k (owns t) j ≡ refers m u → (j ≢ k) × (q j ≡ refers m u)
    tree_not k q t j m u js =
        let ne = λ (z : j ≡ k). not (sym (key_same k (owns t) (q k)) ∙ ap (with_type q k (owns t)) (sym z) ∙ js) in
        (ne, sym (key_other j k (owns t) (q j) ne) ∙ js)
      where
        not : owns t ≡ refers m u → ⊥
        not g = cc

    back : (c : Key) (t : Tree) (j : Key) (m : Bool) (u : Place) → with_type (with_type E (key x) (owns hole)) c (owns t) j ≡ refers m u → (j ≢ c) × (E j ≡ refers m u)
    back c t j m u js =
        let a = tree_not c (with_type E (key x) (owns hole)) t j m u js in
        let b = tree_not (key x) E hole j m u a.1 in
        (a.0, b.1)

    wider : (j : Key) (u : Place) → ((i : ℕ) × (i < length e2) × (j ≡ key2 i)) ⊎ ((x : ℕ) → u.key ≢ key2 x) → ((i : ℕ) × (i < suc (length e2)) × (j ≡ key2 i)) ⊎ ((x : ℕ) → u.key ≢ key2 x)
    wider j u (inl z) = let lt = z.1 in inl (z.0, omega arith, z.2)
    wider j u (inr z) = inr z

-- spawn's capture of an owned variable
pub capture_row : CaptureRow
capture_row key key2 rank a a2 e e2 E s x name o ks ks2 t t2 apart ka2 k2a top lt is free =
    let c = capture_typed key key2 rank a a2 e e2 E s x name o ks ks2 t t2 apart ka2 k2a top lt is free in (captured_types key key2 e2 E x o, c.0, c.1)

-- JOINS WITH A TEMPORARY

-- a thread with other slots below which the same exact types stand
joined : (key : ℕ → Key) (rank : Key → ℕ) (a : Key) (e1 e : List Slot) (E : KeyTypes) (s : Store) (k1 k : Kind) → length e ≡ length e1 → IsNested e → SlotsBelow key E e → AreBelow (length e) (kind_places k) → ExactOf key E (whole k) (E a) → ThreadTyped key rank a e1 E s (Some k1) → ThreadTyped key rank a e E s (Some k)
joined key rank a e1 e E s k1 k len n h low exact t = record {
  typed = t.typed;
  nested = n;
  slots = h;
  over = λ i il. t.over i (subst (λ x. i < x) len il);
  above = λ i le. t.above i (subst (λ x. x ≤ i) len le);
  temp = exact;
  names = low;
  quiet = t.quiet;
  alone = λ j m u js ne. by j u (t.alone j m u js ne);
}
  where
    by : (j : Key) (u : Place) → ((i : ℕ) × (i < length e1) × (j ≡ key i)) ⊎ ((x : ℕ) → u.key ≢ key x) → ((i : ℕ) × (i < length e) × (j ≡ key i)) ⊎ ((x : ℕ) → u.key ≢ key x)
    by j u (inl z) = inl (z.0, subst (λ x. z.0 < x) (sym len) z.1, z.2)
    by j u (inr z) = inr z

-- where branches meet with a value at hand
pub join_temp_row : JoinTempRow
join_temp_row key rank a e1 e2 e E s k1 k2 k j jk n low = (
  (λ f.
      let r = slots_join key f.env e1 e2 e j in
      let d = join_parts key f.env (alike e) (whole k1) (whole k2) (whole k) (ap (λ z. found_or_none (map_some whole z)) jk) in
      record { env = f.env; others = f.others; new = f.new; thread = joined key rank a e1 e f.env s k1 k r.0 n (r.2 f.thread.slots) low (d.left (f.env a) f.thread.temp) f.thread }),
  (λ f.
      let r = slots_join key f.env e1 e2 e j in
      let d = join_parts key f.env (alike e) (whole k1) (whole k2) (whole k) (ap (λ z. found_or_none (map_some whole z)) jk) in
      record { env = f.env; others = f.others; new = f.new; thread = joined key rank a e2 e f.env s k2 k r.1 n (r.3 f.thread.slots) low (d.right (f.env a) f.thread.temp) f.thread }),
)
