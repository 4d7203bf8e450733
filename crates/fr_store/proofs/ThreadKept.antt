-- What stays of a thread's typing where a key changes that no type names; which keys a thread's types name.
use Rattle.fr_store.proofs.Keys.{decide_key, key_same, key_other}
use Rattle.fr_typing.proofs.PlaceLemmas.{eq_cases}
use Rattle.std.proofs.Common.{◌≡◌, ◌≢◌, ◌⊎◌, inl, inr, ⊎_elim, ℕ, zero, suc, ◌<◌, ◌≤◌, Bool, true, false, List, [], ◌∷◌, length, Option, Some, None, refl, sym, ap, subst, ◌∙◌, arith}
use Rattle.std.specs.Prelude.{◌||◌}
use Rattle.fr_base.specs.declared.place.Lval.{Lval}
use Rattle.fr_typing.specs.Kinds.{Owned, unit, int, box, mutex, task, Kind, own, shared, mutable, view, Piece, whole, gone, boxed}
use Rattle.fr_typing.specs.Places.{Slot, found, read_blocked, write_blocked, is_lent, is_mutable, IsNested, AreBelow, piece_places}
use Rattle.fr_store.specs.Keys.{Key}
use Rattle.fr_store.specs.Store.{at_key, ref_v, Store, Place, add, drop_link, drop_value}
use Rattle.fr_store.specs.Typed.{Tree, hole, Exact, owns, refers, KeyTypes, Whole, WholeTree, exact_under, Resolves, here, through, Typed, Unnamed, Unlent, RefFits, box_tree, int_tree, mutex_tree, task_tree, unit_tree}
use Rattle.fr_store.specs.Below.{tree_of, OneOf, Seen, RefOf, ExactOf, SlotsBelow, Apart, TreeOf, piece_depth}
use Rattle.fr_store.specs.Rows.{with_type, tree_depth}
use Rattle.fr_store.specs.Thread.{TempIs, temp_places, ThreadKeys, ThreadTyped, Known}
use Rattle.fr_store.proofs.Sound.{res_part, ref_at}
use Rattle.fr_store.proofs.Frame.{res_kept, part_owns}
use Rattle.fr_store.proofs.Rows.{not_to, drop_hand, forget}
use Rattle.fr_store.proofs.Below.{slots_unnamed, slots_unlent, below_in}

-- a view of another key's value stays
pub seen_with : (key : ℕ → Key) (E : KeyTypes) (a : Key) (p : Exact) (o : Owned) (u : Place) → Unnamed E a → u.key ≢ a → Seen key E o u → Seen key (with_type E a p) o u
seen_with key E a p o u free ne c = record {
  foreign = c.foreign;
  base = c.base;
  boxes = c.boxes;
  res = res_kept (λ k. k ≢ a) E (with_type E a p) st st (λ k m v kn is. (key_other k a p (E k) kn ∙ is, free k m v is)) false u.key u.depth c.base c.boxes (owns (tree_of o)) c.res ne
      (ap (exact_under c.boxes) (key_other c.base a p (E c.base) (not_to E a free false u.key u.depth c.base c.boxes (owns (tree_of o)) c.res ne)) ∙ res_part E false u.key u.depth c.base c.boxes (owns (tree_of o)) c.res);
}
  where
    st : Store
    st = record { at = λ _. ref_v (at_key a); heap = λ _. None }

-- an exact type stays one of its part
pub exact_with : (key : ℕ → Key) (E : KeyTypes) (a : Key) (p : Exact) (q : Piece) (x : Exact) → Unnamed E a → ((m : Bool) (u : Place) → x ≡ refers m u → u.key ≢ a) → ExactOf key E q x → ExactOf key (with_type E a p) q x
exact_with key E a p q (owns t) free ne h = h
exact_with key E a p q (refers m u) free ne h = by q h
  where
    by : (q : Piece) → RefOf key E q m u → RefOf key (with_type E a p) q m u
    by (whole (own o)) h = h
    by (whole (shared us)) h = h
    by (whole (mutable us)) h = h
    by (whole (view o)) h = (h.0, seen_with key E a p o u free (ne m u refl) h.1)
    by (gone k) h = h
    by (boxed r) h = h

-- the slots keep their exact types
pub slots_with : (key : ℕ → Key) (E : KeyTypes) (a : Key) (p : Exact) (e : List Slot) → Unnamed E a → ((i : ℕ) → i < length e → key i ≢ a) → SlotsBelow key E e → SlotsBelow key (with_type E a p) e
slots_with key E a p [] free off h = tt
slots_with key E a p (s ∷ e) free off h =
    let n = length e in
    let same = key_other (key n) a p (E (key n)) (off n (omega arith)) in
    (subst (ExactOf key (with_type E a p) s.part) (sym same) (exact_with key E a p s.part (E (key n)) free (λ m u is. free (key n) m u is) h.0), slots_with key E a p e free (λ i lt. off i (omega arith)) h.1)

-- a type's tree is whole
pub whole_tree : (o : Owned) → WholeTree (tree_of o)
whole_tree unit = tt
whole_tree int = tt
whole_tree (box o) = whole_tree o
whole_tree (mutex o) = tt
whole_tree (task o) = tt

-- an exact type of a whole part is whole
pub whole_exact : (key : ℕ → Key) (E : KeyTypes) (k : Kind) (x : Exact) → ExactOf key E (whole k) x → Whole x
whole_exact key E (own o) (owns t) h = subst WholeTree (sym h) (whole_tree o)
whole_exact key E (shared us) (owns t) h = absurd h
whole_exact key E (mutable us) (owns t) h = absurd h
whole_exact key E (view o) (owns t) h = absurd h
whole_exact key E k (refers m u) h = tt

-- an exact type of an owned type is its tree
pub exact_owned : (key : ℕ → Key) (E : KeyTypes) (o : Owned) (x : Exact) → ExactOf key E (whole (own o)) x → x ≡ owns (tree_of o)
exact_owned key E o (owns t) h = ap owns h
exact_owned key E o (refers m u) h = absurd h

module _ (key : ℕ → Key) (rank : Key → ℕ) (a : Key) (e : List Slot) (E : KeyTypes) (s : Store) (o : Option Kind) (ks : ThreadKeys key rank a) (t : ThreadTyped key rank a e E s o) where
  -- no type names a variable that is not write blocked
  pub unnamed_key : (x : ℕ) → write_blocked e x ≡ false → ((m : Bool) (u : Place) → E a ≡ refers m u → u.key ≢ key x) → Unnamed E (key x)
  unnamed_key x free temp j m u is = by (decide_key j a)
    where
      slot_or : ((i : ℕ) × (i < length e) × (j ≡ key i)) ⊎ ((x : ℕ) → u.key ≢ key x) → u.key ≢ key x
      slot_or (inl y) = slots_unnamed key E ks.differ e x y.0 m u t.slots free y.1 (ap E (sym y.2) ∙ is)
      slot_or (inr y) = y x

      by : (j ≡ a) ⊎ (j ≢ a) → u.key ≢ key x
      by (inl y) = temp m u (ap E (sym y) ∙ is)
      by (inr y) = slot_or (t.alone j m u is y)

  -- no type lends a variable mutably that is not read blocked
  pub unlent_key : (x : ℕ) → read_blocked e x ≡ false → ((u : Place) → E a ≡ refers true u → u.key ≢ key x) → Unlent E (key x)
  unlent_key x free temp j u is = by (decide_key j a)
    where
      slot_or : ((i : ℕ) × (i < length e) × (j ≡ key i)) ⊎ ((x : ℕ) → u.key ≢ key x) → u.key ≢ key x
      slot_or (inl y) = slots_unlent key E ks.differ e x y.0 u t.slots free y.1 (ap E (sym y.2) ∙ is)
      slot_or (inr y) = y x

      by : (j ≡ a) ⊎ (j ≢ a) → u.key ≢ key x
      by (inl y) = temp u (ap E (sym y) ∙ is)
      by (inr y) = slot_or (t.alone j true u is y)

-- a reference that stood there
pub stood : (key : ℕ → Key) (a : Key) (E : KeyTypes) (j : Key) (m : Bool) (u : Place) → E j ≡ refers m u → Known key a E j m u
stood key a E j m u is = inr (j, is, inl refl)

-- one key has a reference more
pub known_ref : (key : ℕ → Key) (a : Key) (E : KeyTypes) (x : Key) (q : Bool) (v : Place) → Known key a E x q v → (j : Key) (m : Bool) (u : Place) → with_type E x (refers q v) j ≡ refers m u → Known key a E j m u
known_ref key a E x q v k j m u js = by (decide_key j x)
  where
    by : (j ≡ x) ⊎ (j ≢ x) → Known key a E j m u
    by (inl z) =
        let g : refers q v ≡ refers m u = sym (key_same x (refers q v) (E x)) ∙ ap (with_type E x (refers q v)) (sym z) ∙ js in
        let sq : q ≡ m = cc in
        let sv : v ≡ u = cc in
        subst (λ i. Known key a E i m u) (sym z) (subst (λ y. Known key a E x m y) sv (subst (λ y. Known key a E x y v) sq k))
    by (inr z) = stood key a E j m u (sym (key_other j x (refers q v) (E j) z) ∙ js)

-- one key owns now
pub known_tree : (key : ℕ → Key) (a : Key) (E : KeyTypes) (x : Key) (t : Tree) (j : Key) (m : Bool) (u : Place) → with_type E x (owns t) j ≡ refers m u → E j ≡ refers m u
known_tree key a E x t j m u js =
    ⊎_elim (λ (z : j ≡ x). let g : owns t ≡ refers m u = sym (key_same x (owns t) (E x)) ∙ ap (with_type E x (owns t)) (sym z) ∙ js in absurd cc) (λ (z : j ≢ x). sym (key_other j x (owns t) (E j) z) ∙ js) (decide_key j x)

-- nothing at hand refers to nothing
pub no_temp : (E : KeyTypes) (a : Key) (m : Bool) (u : Place) → E a ≡ owns hole → E a ≡ refers m u → ⊥
no_temp E a m u e f = let g : owns hole ≡ refers m u = sym e ∙ f in cc

-- a reference's part is lent or mutable
pub lent_ref : (key : ℕ → Key) (E : KeyTypes) (q : Piece) (m : Bool) (u : Place) → RefOf key E q m u → (is_lent (found q) || is_mutable (found q)) ≡ true
lent_ref key E (whole (own o)) m u h = absurd h
lent_ref key E (whole (shared us)) m u h = refl
lent_ref key E (whole (mutable us)) m u h = refl
lent_ref key E (whole (view o)) m u h = refl
lent_ref key E (gone k) m u h = absurd h
lent_ref key E (boxed p) m u h = absurd h

-- a reference to one of a set below n is to a slot below n
pub one_low : (key : ℕ → Key) (us : List Lval) (u : Place) (n : ℕ) → AreBelow n us → OneOf key us u → (y : ℕ) × (y < n) × (u.key ≡ key y)
one_low key us u n h o = (o.place.slot, below_in n us o.place h o.among, ap (λ (z : Place). z.key) o.is)

-- a reference's place starts at a lower slot of the thread, or at none
pub ref_low : (key : ℕ → Key) (E : KeyTypes) (q : Piece) (m : Bool) (u : Place) (n : ℕ) → AreBelow n (piece_places q) → RefOf key E q m u → ((y : ℕ) × (y < n) × (u.key ≡ key y)) ⊎ ((x : ℕ) → u.key ≢ key x)
ref_low key E (whole (own o)) m u n h f = absurd f
ref_low key E (whole (shared us)) m u n h f = inl (one_low key us u n h f.1)
ref_low key E (whole (mutable us)) m u n h f = inl (one_low key us u n h f.1)
ref_low key E (whole (view o)) m u n h f = let c : Seen key E o u = f.1 in inr c.foreign
ref_low key E (gone k) m u n h f = absurd f
ref_low key E (boxed p) m u n h f = absurd f

-- a slot below n is not one from n on
low_not : (key : ℕ → Key) (u : Place) (n x : ℕ) → Apart key → n ≤ x → ((y : ℕ) × (y < n) × (u.key ≡ key y)) ⊎ ((x : ℕ) → u.key ≢ key x) → u.key ≢ key x
low_not key u n x differ le (inl y) = λ (z : u.key ≡ key x). let g = differ y.0 x (sym y.2 ∙ z) in let lt = y.1 in omega arith
low_not key u n x differ le (inr y) = y x

-- no slot's type names the last slot
slot_low : (key : ℕ → Key) (E : KeyTypes) (e : List Slot) (i : ℕ) (m : Bool) (u : Place) (x : ℕ) → Apart key → SlotsBelow key E e → IsNested e → i < length e → length e ≤ suc x → E (key i) ≡ refers m u → u.key ≢ key x
slot_low key E [] i m u x differ h n lt le is = absurd (omega arith)
slot_low key E (s ∷ e) i m u x differ h n lt le is =
    eq_cases (λ _. u.key ≢ key x) i (length e)
    (λ same. low_not key u (length e) x differ (omega arith) (ref_low key E s.part m u (length e) n.0 (subst (ExactOf key E s.part) (ap (λ z. E (key z)) (sym same) ∙ is) h.0)))
    (λ ne. slot_low key E e i m u x differ h.1 n.1 (omega arith) (omega arith) is)

-- nor does the type of the value at hand
temp_low : (key : ℕ → Key) (E : KeyTypes) (a : Key) (o : Option Kind) (m : Bool) (u : Place) (n x : ℕ) → Apart key → AreBelow n (temp_places o) → n ≤ x → TempIs key E a o → E a ≡ refers m u → u.key ≢ key x
temp_low key E a None m u n x differ h le t is = absurd (no_temp E a m u t is)
temp_low key E a (Some k) m u n x differ h le t is = low_not key u n x differ le (ref_low key E (whole k) m u n h (subst (ExactOf key E (whole k)) is t))

-- no type names the last slot, or the next one
pub last_unnamed : (key : ℕ → Key) (rank : Key → ℕ) (a : Key) (e : List Slot) (E : KeyTypes) (s : Store) (o : Option Kind) (n x : ℕ) → ThreadKeys key rank a → ThreadTyped key rank a e E s o → AreBelow n (temp_places o) → n ≤ x → length e ≤ suc x → Unnamed E (key x)
last_unnamed key rank a e E s o n x ks t low nx le j m u is = by (decide_key j a)
  where
    slot_or : ((i : ℕ) × (i < length e) × (j ≡ key i)) ⊎ ((x : ℕ) → u.key ≢ key x) → u.key ≢ key x
    slot_or (inl y) = slot_low key E e y.0 m u x ks.differ t.slots t.nested y.1 le (ap E (sym y.2) ∙ is)
    slot_or (inr y) = y x

    by : (j ≡ a) ⊎ (j ≢ a) → u.key ≢ key x
    by (inl y) = temp_low key E a o m u n x ks.differ low nx t.temp (ap E (sym y) ∙ is)
    by (inr y) = slot_or (t.alone j m u is y)

-- an exact type of a mutable reference refers
pub ref_found : (key : ℕ → Key) (E : KeyTypes) (us : List Lval) (x : Exact) → ExactOf key E (whole (mutable us)) x → (u : Place) × (x ≡ refers true u)
ref_found key E us (owns t) h = absurd h
ref_found key E us (refers m u) h = (u, ap (λ z. refers z u) h.0)

-- an exact type of a shared reference refers
pub shared_found : (key : ℕ → Key) (E : KeyTypes) (us : List Lval) (x : Exact) → ExactOf key E (whole (shared us)) x → (u : Place) × (x ≡ refers false u)
shared_found key E us (owns t) h = absurd h
shared_found key E us (refers m u) h = (u, ap (λ z. refers z u) h.0)

-- a key that refers is not the one that owns a hole now
pub not_hole : (E : KeyTypes) (x j : Key) (m : Bool) (u : Place) → with_type E x (owns hole) j ≡ refers m u → j ≢ x
not_hole E x j m u js = λ (z : j ≡ x). let g : owns hole ≡ refers m u = sym (key_same x (owns hole) (E x)) ∙ ap (with_type E x (owns hole)) (sym z) ∙ js in cc

-- a hole stays one
pub still_hole : (E : KeyTypes) (x j : Key) → E j ≡ owns hole → with_type E x (owns hole) j ≡ owns hole
still_hole E x j e = ⊎_elim (λ (z : j ≡ x). ap (with_type E x (owns hole)) z ∙ key_same x (owns hole) (E x)) (λ (z : j ≢ x). key_other j x (owns hole) (E j) z ∙ e) (decide_key j x)

-- the value at hand keeps its exact type
pub temp_with : (key : ℕ → Key) (E : KeyTypes) (a x : Key) (p : Exact) (o : Option Kind) → a ≢ x → Unnamed E x → TempIs key E a o → TempIs key (with_type E x p) a o
temp_with key E a x p None ne free h = key_other a x p (E a) ne ∙ h
temp_with key E a x p (Some k) ne free h = subst (ExactOf key (with_type E x p) (whole k)) (sym (key_other a x p (E a) ne)) (exact_with key E x p (whole k) (E a) free (λ m u js. free a m u js) h)

-- a place resolves to a key that ranks no higher
pub res_low : (rank : Key → ℕ) (E : KeyTypes) (s : Store) → Typed rank E s → (only : Bool) (k : Key) (d : ℕ) (b : Key) (n : ℕ) (p : Exact) → Resolves E only k d b n p → rank b ≤ rank k
res_low rank E s t only k d b n p (here e) = omega arith
res_low rank E s t only k d b n p (through m u e is o de r) = let x = t.below k m u is in let y = res_low rank E s t only u.key (add u.depth e) b n p r in omega arith

-- a reference in a chain is its key's own
pub ref_base : (n : ℕ) (q : Exact) (m : Bool) (u : Place) → exact_under n q ≡ Some (refers m u) → q ≡ refers m u
ref_base n (owns t) m u e = let x = part_owns n t (refers m u) e in absurd cc
ref_base zero (refers m2 u2) m u e = cc
ref_base (suc n) (refers m2 u2) m u e = absurd cc

-- THE END OF A VALUE

-- a tree of a part is as deep as it
pub depth_of_piece : (q : Piece) (t : Tree) → TreeOf q t → tree_depth t ≡ piece_depth q
depth_of_piece (whole (own o)) t h = ap tree_depth h
depth_of_piece (whole (shared us)) t h = absurd h
depth_of_piece (whole (mutable us)) t h = absurd h
depth_of_piece (whole (view o)) t h = absurd h
depth_of_piece (gone k) t h = ap tree_depth h
depth_of_piece (boxed p) t h = ap tree_depth h.1 ∙ ap suc (depth_of_piece p h.0 h.2)

-- each tree takes a link
one_deep : (t : Tree) → 1 ≤ tree_depth t
one_deep hole = omega arith
one_deep unit_tree = omega arith
one_deep int_tree = omega arith
one_deep (mutex_tree t) = omega arith
one_deep (task_tree t) = omega arith
one_deep (box_tree t) = omega arith

-- and so does each part
pub some_depth : (q : Piece) → 1 ≤ piece_depth q
some_depth (whole (own o)) = one_deep (tree_of o)
some_depth (whole (shared us)) = omega arith
some_depth (whole (mutable us)) = omega arith
some_depth (whole (view o)) = omega arith
some_depth (gone k) = omega arith
some_depth (boxed p) = omega arith

-- a value of a known part, whose key no type names, ends
pub end_value : (key : ℕ → Key) (rank : Key → ℕ) (E : KeyTypes) (s : Store) (k : Key) (q : Piece) (fuel : ℕ) → Typed rank E s → Unnamed E k → ExactOf key E q (E k) → piece_depth q ≤ fuel → Typed rank (with_type E k (owns hole)) (drop_value fuel k s)
end_value key rank E s k q fuel typed free exact le = by (E k) refl exact
  where
    by : (p : Exact) → E k ≡ p → ExactOf key E q p → Typed rank (with_type E k (owns hole)) (drop_value fuel k s)
    by (owns t) is h = let d = depth_of_piece q t h in drop_hand rank E s k t fuel typed free is (omega (arith, d, le))
    by (refers m u) is h = let d = some_depth q in go_on fuel (omega (arith, d, le))
      where
        r : RefFits E s m u (s.at k)
        r = ref_at rank E s typed k m u is

        go_on : (fuel : ℕ) → 1 ≤ fuel → Typed rank (with_type E k (owns hole)) (drop_value fuel k s)
        go_on zero le = absurd (omega arith)
        go_on (suc n) le = subst (Typed rank (with_type E k (owns hole))) (sym (ap (drop_link (drop_value n k) s k) r.is)) (forget rank E s k typed free)
