-- Borrows, and a write where what stands there is whole.
use Rattle.fr_store.proofs.Keys.{decide_key, key_same, key_other}
use Rattle.std.proofs.Common.{◌≡◌, ◌≢◌, ◌⊎◌, inl, inr, ℕ, ◌<◌, Bool, true, false, List, [], ◌∷◌, length, Some, None, refl, sym, ap, subst, ◌∙◌}
use Rattle.fr_base.specs.declared.place.Lval.{Lval}
use Rattle.fr_typing.specs.Kinds.{Kind, own, shared, mutable, whole}
use Rattle.fr_typing.specs.Places.{Slot, AreBelow, kind_places}
use Rattle.fr_store.specs.Keys.{Key}
use Rattle.fr_store.specs.Store.{Location, at_key, ref_v, Store, Place, locate, put_value}
use Rattle.fr_store.specs.Typed.{owns, refers, KeyTypes, Resolves}
use Rattle.fr_store.specs.Below.{tree_of, RefOf, ExactOf}
use Rattle.fr_store.specs.Rows.{with_type, FreeFor}
use Rattle.fr_store.specs.Thread.{place_of, ThreadKeys, ThreadTyped, After}
use Rattle.fr_store.specs.OwnedRows.{WriteRow}
use Rattle.fr_store.specs.ReferenceRows.{SharedRow, MutableRow}
use Rattle.fr_store.proofs.Rows.{found_place, borrow, swap_through}
use Rattle.fr_store.proofs.Below.{Resolved, mut_place, resolved, resolved_writable}
use Rattle.fr_store.proofs.ThreadKept.{exact_owned, known_ref, no_temp, slots_with, stood, unlent_key, unnamed_key, whole_exact}

-- `w = t` where what stands at w is whole
pub write_row : WriteRow
write_row key rank a e E s w o ks t lt is free writable =
    let ea : E a ≡ owns (tree_of o) = exact_owned key E o (E a) t.temp in
    let fw = unnamed_key key rank a e E s (Some (own o)) ks t w.slot free (λ m u z. let g : owns (tree_of o) ≡ refers m u = sym ea ∙ z in absurd cc) in
    let r = resolved_writable key E (mut_place rank E s t.typed) e t.nested t.slots w (whole (own o)) lt writable is in
    let res : Resolves E true (key w.slot) w.depth r.base r.boxes (owns (tree_of o)) = subst (Resolves E true (key w.slot) w.depth r.base r.boxes) (exact_owned key E o r.type r.exact) r.res in
    let f = found_place rank E s true (place_of key w) r.base r.boxes (owns (tree_of o)) t.typed res in (
      f.loc,
      f.at,
      record {
        env = E;
        others = λ j ja jk. refl;
        new = λ j m u js. stood key a E j m u js;
        thread = record {
          typed = swap_through rank E s a (place_of key w) r.base r.boxes (tree_of o) f.loc t.typed t.quiet (λ z. ks.off w.slot (sym z)) ea fw res f.at;
          nested = t.nested;
          over = t.over;
          slots = t.slots;
          above = t.above;
          temp = t.temp;
          names = t.names;
          quiet = t.quiet;
          alone = t.alone;
        };
      },
    )

-- a borrow of either kind
borrow_row : (key : ℕ → Key) (rank : Key → ℕ) (a : Key) (e : List Slot) (E : KeyTypes) (s : Store) (w : Lval) (k k2 : Kind) (m : Bool) → ThreadKeys key rank a → ThreadTyped key rank a e E s None → w.slot < length e
    → (r : Resolved key E m w (whole k)) → FreeFor m E (key w.slot) → kind_places k2 ≡ w ∷ [] → ((E2 : KeyTypes) → RefOf key E2 (whole k2) m (place_of key w))
    → (l : Location) × (locate s (place_of key w) ≡ Some l) × After key rank a E e (put_value s (at_key a) (ref_v l)) (Some k2)
borrow_row key rank a e E s w k k2 m ks t lt r free ps exact =
    let f = found_place rank E s m (place_of key w) r.base r.boxes r.type t.typed r.res in
    let p = refers m (place_of key w) in
    let E2 = with_type E a p in (
      f.loc,
      f.at,
      record {
        env = E2;
        others = λ j ja jk. key_other j a p (E j) ja;
        new = λ j q u js. known_ref key a E a m (place_of key w) (inl (w.slot, refl)) j q u js;
        thread = record {
          typed = borrow rank E s a m (place_of key w) r.base r.boxes r.type f.loc t.typed t.quiet r.res (whole_exact key E k r.type r.exact) free (ks.off w.slot) (t.over w.slot lt) f.at;
          nested = t.nested;
          over = t.over;
          slots = slots_with key E a p e t.quiet (λ i _. ks.off i) t.slots;
          above = λ i le. key_other (key i) a p (E (key i)) (ks.off i) ∙ t.above i le;
          temp = subst (ExactOf key E2 (whole k2)) (sym (key_same a p (E a))) (exact E2);
          names = subst (AreBelow (length e)) (sym ps) (lt, tt);
          quiet = λ j q u is. by (decide_key j a) j q u refl is;
          alone = λ j q u is ne. t.alone j q u (sym (key_other j a p (E j) ne) ∙ is) ne;
        };
      },
    )
  where
    by : {j : Key} → (j ≡ a) ⊎ (j ≢ a) → (i : Key) (q : Bool) (u : Place) → i ≡ j → with_type E a (refers m (place_of key w)) i ≡ refers q u → u.key ≢ a
    by {j} (inl z) i q u ij is =
        let g : refers q u ≡ refers m (place_of key w) = sym is ∙ ap (with_type E a (refers m (place_of key w))) (ij ∙ z) ∙ key_same a (refers m (place_of key w)) (E a) in
        let su : u ≡ place_of key w = cc in
        subst (λ (y : Place). y.key ≢ a) (sym su) (ks.off w.slot)
    by {j} (inr z) i q u ij is = t.quiet i q u (sym (key_other i a (refers m (place_of key w)) (E i) (λ y. z (sym ij ∙ y))) ∙ is)

-- `&w`
pub shared_row : SharedRow
shared_row key rank a e E s w k ks t lt is free =
    borrow_row key rank a e E s w k (shared (w ∷ [])) false ks t lt (resolved key E (mut_place rank E s t.typed) e t.nested t.slots w (whole k) lt is)
    (unlent_key key rank a e E s None ks t w.slot free (λ u z. absurd (no_temp E a true u t.temp z))) refl (λ E2. (refl, record { place = w; is = refl; among = inl refl }))

-- `&mut w`
pub mutable_row : MutableRow
mutable_row key rank a e E s w k ks t lt is free writable =
    borrow_row key rank a e E s w k (mutable (w ∷ [])) true ks t lt (resolved_writable key E (mut_place rank E s t.typed) e t.nested t.slots w (whole k) lt writable is)
    (unnamed_key key rank a e E s None ks t w.slot free (λ m u z. absurd (no_temp E a m u t.temp z))) refl (λ E2. (refl, record { place = w; is = refl; among = inl refl }))
