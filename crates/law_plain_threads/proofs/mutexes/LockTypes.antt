-- A lock's two slots: the mark refers to where the mutex stands, and the content comes from its key.
use Rattle.std.proofs.Common.{◌≡◌, ◌≢◌, ◌⊎◌, inl, inr, ⊎_elim, ◌∙◌, ℕ, suc, ◌<◌, ◌≤◌, Bool, false, List, [], ◌∷◌, length, Some, None, refl, sym, ap, subst, arith}
use Rattle.fr_base.specs.declared.place.Lval.{Lval}
use Rattle.fr_terms.specs.Terms.{Text}
use Rattle.fr_typing.specs.Kinds.{Owned, mutex, own, shared, whole}
use Rattle.fr_typing.specs.Places.{Slot}
use Rattle.fr_typing.specs.Checks.{with_lock}
use Rattle.fr_store.specs.Keys.{Key}
use Rattle.fr_store.specs.Store.{locate as store_locate}
use Rattle.fr_store.specs.Store.{Alike, Location, at_key, ref_v, Store, Place, put_value, swap}
use Rattle.fr_store.specs.Typed.{Tree, hole, owns, refers, KeyTypes, Resolves, Typed, Unnamed, Unlent}
use Rattle.fr_store.specs.Below.{tree_of, ExactOf}
use Rattle.fr_store.specs.Rows.{with_type}
use Rattle.fr_store.specs.Thread.{ThreadKeys, ThreadTyped, OwnOrForeign, place_of}
use Rattle.fr_store.proofs.Keys.{key_same, key_other, decide_key}
use Rattle.fr_store.proofs.Rows.{borrow, swap_own, same_store}
use Rattle.fr_store.proofs.ThreadKept.{last_unnamed, slots_with, whole_tree}
use Rattle.law_plain_values.proofs.acts.Refs.{NoneNew, none_with, none_owns}

-- the types after a lock: key b has the reference, key c what key k had
abbrev pub locked_types : KeyTypes → Key → Key → Key → Place → Tree → KeyTypes
locked_types E b c k u t = with_type (with_type (with_type E b (refers false u)) k (owns hole)) c (owns t)

-- a lock makes no mutable reference
pub lock_none : (E : KeyTypes) (b c k : Key) (u : Place) (t : Tree) → NoneNew E (locked_types E b c k u t)
lock_none E b c k u t j v e =
    let E1 = with_type E b (refers false u) in
    none_with E b (refers false u) (λ w f. cc) j v (none_owns E1 k hole j v (none_owns (with_type E1 k (owns hole)) c t j v e))

module _ (key : ℕ → Key) (rank : Key → ℕ) (a k : Key) (e : List Slot) (E : KeyTypes) (s s2 : Store) (w : Lval) (x : Owned) (name : Text) (ks : ThreadKeys key rank a) (t : ThreadTyped key rank a e E s None) (lt : w.slot < length e) (high : (i : ℕ) → i ≤ suc (length e) → rank (key i) < rank a)
    (lent : Unlent E (key w.slot)) (l : Location) (base : Key) (boxes : ℕ) (res : Resolves E false (key w.slot) w.depth base boxes (owns (tree_of (mutex x)))) (at : store_locate s (place_of key w) ≡ Some l)
    (kk : (i : ℕ) → key i ≢ k) (ka : k ≢ a) (unnamed : Unnamed E k) (is : E k ≡ owns (tree_of x)) (alike : Alike (swap (put_value s (at_key (key (length e))) (ref_v l)) (key (suc (length e))) (at_key k)) s2) where
  abbrev b : Key
  b = key (length e)

  abbrev c : Key
  c = key (suc (length e))

  abbrev u : Place
  u = place_of key w

  abbrev E1 : KeyTypes
  E1 = with_type E (key (length e)) (refers false (place_of key w))

  abbrev E2 : KeyTypes
  E2 = locked_types E (key (length e)) (key (suc (length e))) k (place_of key w) (tree_of x)

  pub free_b : Unnamed E (key (length e))
  free_b = last_unnamed key rank a e E s None (length e) (length e) ks t t.names (omega arith) (omega arith)

  pub free_c : Unnamed E (key (suc (length e)))
  free_c = last_unnamed key rank a e E s None (length e) (suc (length e)) ks t t.names (omega arith) (omega arith)

  slot_off : (i j : ℕ) → (i ≡ j → ⊥) → key i ≢ key j
  slot_off i j ne q = ne (ks.differ i j q)

  w_off : (j : ℕ) → length e ≤ j → key w.slot ≢ key j
  w_off j le = slot_off w.slot j (λ q. omega (arith, lt, le, q))

  cb : key (suc (length e)) ≢ key (length e)
  cb = slot_off (suc (length e)) (length e) (λ q. omega (arith, q))

  -- what refers after the mark has come referred before, or is the mark
  refs_one : (j : Key) (m : Bool) (v : Place) → E1 j ≡ refers m v → ((j ≡ key (length e)) × (refers m v ≡ refers false (place_of key w))) ⊎ (E j ≡ refers m v)
  refs_one j m v q = ⊎_elim (λ (z : j ≡ b). inl (z, sym q ∙ ap E1 z ∙ key_same b (refers false u) (E b))) (λ (z : j ≢ b). inr (sym (key_other j b (refers false u) (E j) z) ∙ q)) (decide_key j b)

  pub locked_refs : (j : Key) (m : Bool) (v : Place) → E2 j ≡ refers m v → ((j ≡ key (length e)) × (refers m v ≡ refers false (place_of key w))) ⊎ (E j ≡ refers m v)
  locked_refs j m v q =
      ⊎_elim (λ (z : j ≡ c). let f : owns (tree_of x) ≡ refers m v = sym (key_same c (owns (tree_of x)) (with_type E1 k (owns hole) c)) ∙ ap E2 (sym z) ∙ q in cc)
      (λ (z : j ≢ c).
      let q1 = sym (key_other j c (owns (tree_of x)) (with_type E1 k (owns hole) j) z) ∙ q in
      ⊎_elim (λ (y : j ≡ k). let f : owns hole ≡ refers m v = sym (key_same k (owns hole) (E1 k)) ∙ ap (with_type E1 k (owns hole)) (sym y) ∙ q1 in cc) (λ (y : j ≢ k). refs_one j m v (sym (key_other j k (owns hole) (E1 j) y) ∙ q1)) (decide_key j k))
      (decide_key j c)

  -- no type names a key that is no variable's, and that no type named
  off_one : (i : Key) → key w.slot ≢ i → Unnamed E i → Unnamed E1 i
  off_one i ne free j m v q = by (refs_one j m v q)
    where
      by : ((j ≡ key (length e)) × (refers m v ≡ refers false (place_of key w))) ⊎ (E j ≡ refers m v) → v.key ≢ i
      by (inl z) = let f = z.1 in let g : v ≡ place_of key w = cc in subst (λ (p : Place). p.key ≢ i) (sym g) ne
      by (inr z) = free j m v z

  pub off_two : (i : Key) → key w.slot ≢ i → Unnamed E i → Unnamed E2 i
  off_two i ne free j m v q = by (locked_refs j m v q)
    where
      by : ((j ≡ key (length e)) × (refers m v ≡ refers false (place_of key w))) ⊎ (E j ≡ refers m v) → v.key ≢ i
      by (inl z) = let f = z.1 in let g : v ≡ place_of key w = cc in subst (λ (p : Place). p.key ≢ i) (sym g) ne
      by (inr z) = free j m v z

  -- elsewhere the types are as before
  pub locked_same : (j : Key) → j ≢ key (length e) → j ≢ key (suc (length e)) → j ≢ k → E2 j ≡ E j
  locked_same j nb nc nk = key_other j c (owns (tree_of x)) (with_type E1 k (owns hole) j) nc ∙ key_other j k (owns hole) (E1 j) nk ∙ key_other j b (refers false u) (E j) nb

  typed : Typed rank E2 s2
  typed =
      let first = borrow rank E s b false u base boxes (owns (tree_of (mutex x))) l t.typed free_b res (whole_tree (mutex x)) lent (w_off (length e) (omega arith)) (ks.ranks w.slot (length e) lt) at in
      let empty : E1 c ≡ owns hole = key_other c b (refers false u) (E c) cb ∙ t.above (suc (length e)) (omega arith) in
      let full : E1 k ≡ owns (tree_of x) = key_other k b (refers false u) (E k) (λ q. kk (length e) (sym q)) ∙ is in
      same_store rank E2 E2 (swap (put_value s (at_key b) (ref_v l)) c (at_key k)) s2
      (swap_own rank E1 (put_value s (at_key b) (ref_v l)) c k 0 hole (tree_of x) (tree_of x) (at_key k) first (off_one c (w_off (suc (length e)) (omega arith)) free_c) (kk (suc (length e))) empty (off_one k (kk w.slot) unnamed) full refl refl)
      (λ j. refl) alike

  -- THE THREAD
  pub locked_thread : ThreadTyped key rank a (with_lock e w name x) E2 s2 None
  locked_thread = record {
    typed = typed;
    nested = (tt, ((lt, tt), t.nested));
    slots = (
      subst (ExactOf key E2 (whole (own x))) (sym (key_same c (owns (tree_of x)) (with_type E1 k (owns hole) c))) refl,
      (
        subst (ExactOf key E2 (whole (shared (w ∷ [])))) (sym mark_is) (refl, record { place = w; is = refl; among = inl refl }),
        slots_with key (with_type E1 k (owns hole)) c (owns (tree_of x)) e (off_k c (w_off (suc (length e)) (omega arith)) free_c) (λ i il. slot_off i (suc (length e)) (λ q. omega (arith, il, q)))
            (slots_with key E1 k (owns hole) e (off_one k (kk w.slot) unnamed) (λ i il. kk i) (slots_with key E b (refers false u) e free_b (λ i il. slot_off i (length e) (λ q. omega (arith, il, q))) t.slots)),
      ),
    );
    above = λ i le. locked_same (key i) (slot_off i (length e) (λ q. omega (arith, le, q))) (slot_off i (suc (length e)) (λ q. omega (arith, le, q))) (kk i) ∙ t.above i (omega (arith, le));
    temp = locked_same a (λ q. ks.off (length e) (sym q)) (λ q. ks.off (suc (length e)) (sym q)) (λ q. ka (sym q)) ∙ t.temp;
    names = tt;
    quiet = off_two a (ks.off w.slot) t.quiet;
    over = λ i il. high i (omega (arith, il));
    alone = λ j m v q ne. by j m v ne (locked_refs j m v q);
  }
    where
      mark_is : E2 b ≡ refers false u
      mark_is = key_other b c (owns (tree_of x)) (with_type E1 k (owns hole) b) (λ q. cb (sym q)) ∙ key_other b k (owns hole) (E1 b) (kk (length e)) ∙ key_same b (refers false u) (E b)

      off_k : (i : Key) → key w.slot ≢ i → Unnamed E i → Unnamed (with_type E1 k (owns hole)) i
      off_k i ne free j m v q = ⊎_elim (λ (z : j ≡ k). let f : owns hole ≡ refers m v = sym (key_same k (owns hole) (E1 k)) ∙ ap (with_type E1 k (owns hole)) (sym z) ∙ q in cc) (λ (z : j ≢ k). off_one i ne free j m v (sym (key_other j k (owns hole) (E1 j) z) ∙ q)) (decide_key j k)

      wider : (j : Key) (v : Place) → ((i : ℕ) × (i < length e) × (j ≡ key i)) ⊎ ((z : ℕ) → v.key ≢ key z) → OwnOrForeign key (with_lock e w name x) j v
      wider j v (inl z) = let il = z.1 in inl (z.0, omega (arith, il), z.2)
      wider j v (inr z) = inr z

      by : (j : Key) (m : Bool) (v : Place) → j ≢ a → ((j ≡ key (length e)) × (refers m v ≡ refers false (place_of key w))) ⊎ (E j ≡ refers m v) → OwnOrForeign key (with_lock e w name x) j v
      by j m v ne (inl z) = inl (length e, omega arith, z.0)
      by j m v ne (inr z) = wider j v (t.alone j m v z ne)
