use Rattle.fr_store.proofs.Keys.{decide_key, key_same, key_other, object_same, object_other, key_cases}
use Rattle.fr_store.specs.Keys.{same_key, Key}
use Rattle.fr_store.specs.Store.{Location, at_key, at_object, Val, gone_v, unit_v, int_v, box_v, mutex_v, task_v, ref_v, Store, value_at, then_location, Place, box_target, box_hop, below_key, add, put_value, or_gone, swap, unbox, make, drop_link, drop_value}
use Rattle.fr_store.specs.Typed.{Tree, hole, unit_tree, int_tree, mutex_tree, task_tree, box_tree, Exact, owns, refers, KeyTypes, tree_under, some_owns, exact_under, Resolves, here, through, Loaned, TopFits, RefFits, Typed, Unnamed}
use Rattle.fr_store.specs.Changes.{put_tree, SameBut, SameButTwo, New, new_hole, new_ref}
use Rattle.fr_store.specs.Rows.{with_type, tree_depth, FreeFor, FoundLaw, BorrowLaw, CopyLaw, MoveRefLaw, SwapOwnLaw, SwapThroughLaw, BoxLaw, DropLaw, ForgetLaw, SoleLaw, SameLaw}
use Rattle.fr_base.specs.declared.name.ObjNo.{ObjNo}
use Rattle.std.proofs.Common.{◌≡◌, ◌≢◌, ⊎_elim, ℕ, zero, suc, ◌<◌, ◌≤◌, Bool, true, false, Option, Some, None, refl, sym, ap, subst, ◌∙◌, arith}
use Rattle.std.specs.Prelude.{if◌then◌else◌}
use Rattle.fr_store.proofs.Chains.{unique}
use Rattle.fr_store.proofs.Sound.{sound, ref_at, res_part, exclusive}
use Rattle.fr_store.proofs.Frame.{part_owns, Frame, stands_kept}
use Rattle.fr_store.proofs.Changes.{set, unbox_link, make_object, set_fits}
use Rattle.fr_store.proofs.Swaps.{swap_trees}

-- THE CHANGES AS FUNCTIONS

-- keys of different locations differ
slot_differs : (j a : Key) → at_key j ≢ at_key a → j ≢ a
slot_differs j a n = λ e. n (ap at_key e)

-- objects of different locations differ
object_differs : (j a : ObjNo) → at_object j ≢ at_object a → j ≢ a
object_differs j a n = λ e. n (ap at_object e)

-- what is put stands there
pub put_there : (s : Store) (l : Location) (v : Val) → value_at (put_value s l v) l ≡ Some v
put_there s (at_key k) v = ap Some (key_same k v (s.at k))
put_there s (at_object o) v = object_same o (Some v) (s.heap o)

-- and elsewhere what stood there
pub put_other : (s : Store) (l : Location) (v : Val) → SameBut l s (put_value s l v)
put_other s (at_key k) v (at_key j) ne = ap Some (key_other j k v (s.at j) (slot_differs j k ne))
put_other s (at_key k) v (at_object o) ne = refl
put_other s (at_object o) v (at_key j) ne = refl
put_other s (at_object o) v (at_object q) ne = object_other q o (Some v) (s.heap q) (object_differs q o ne)

-- equal options have equal values
Some-val : (a b : Val) → Some a ≡ Some b → a ≡ b
Some-val a b e = cc

-- FOUND

-- a place that resolves leads to a value of its type
pub found_place : FoundLaw
found_place rank E s only w b n p t r =
    let st = t.stands b n p (res_part E only w.key w.depth b n p r) in
    record { loc = st.spot; value = st.value; at = sound rank E s t only w.key w.depth b n p r ∙ st.leads; chain = st.leads; there = st.there; fits = st.fits }

-- SET

-- a value that owns no object ends
pub forget : ForgetLaw
forget rank E s a t free =
    set rank E (with_type E a (owns hole)) s (put_value s (at_key a) gone_v) a t free (λ j ne. key_other j a (owns hole) (E j) ne) (put_other s (at_key a) gone_v)
    (subst (λ q. New rank E s a q (if same_key a a then gone_v else s.at a)) (sym (key_same a (owns hole) (E a))) (subst (New rank E s a (owns hole)) (sym (key_same a gone_v (s.at a))) new_hole))

-- a key gets a reference
put_ref : (rank : Key → ℕ) (E : KeyTypes) (s : Store) (a : Key) (m : Bool) (u : Place) (v : Val) → Typed rank E s → Unnamed E a → RefFits E s m u v → u.key ≢ a → rank u.key < rank a
    → ((j : Key) (q : Bool) (w : Place) → E j ≡ refers q w → j ≢ a → w.key ≡ u.key → (m ≡ false) × (q ≡ false))
    → Typed rank (with_type E a (refers m u)) (put_value s (at_key a) v)
put_ref rank E s a m u v t free r ne lt alone =
    set rank E (with_type E a (refers m u)) s (put_value s (at_key a) v) a t free (λ j n. key_other j a (refers m u) (E j) n) (put_other s (at_key a) v)
    (subst (λ q. New rank E s a q (if same_key a a then v else s.at a)) (sym (key_same a (refers m u) (E a))) (subst (New rank E s a (refers m u)) (sym (key_same a v (s.at a))) (new_ref m u v r ne lt alone)))

-- a borrow
pub borrow : BorrowLaw
borrow rank E s a m w b n p l t free r whole ok ne lt at =
    let f = found_place rank E s m w b n p t r in
    let same : f.loc ≡ l = let g : Some f.loc ≡ Some l = sym f.at ∙ at in cc in
    put_ref rank E s a m w (ref_v l) t free (record { base = b; boxes = n; type = p; res = r; whole = whole; target = l; is = refl; leads = f.chain ∙ ap Some same }) ne lt (by m ok)
  where
    by : (m : Bool) → FreeFor m E w.key → (j : Key) (q : Bool) (v : Place) → E j ≡ refers q v → j ≢ a → v.key ≡ w.key → (m ≡ false) × (q ≡ false)
    by true ok j q v is jn e = absurd (ok j q v is e)
    by false ok j true v is jn e = absurd (ok j v is e)
    by false ok j false v is jn e = (refl, refl)

-- a copied reference
pub copy_ref : CopyLaw
copy_ref rank E s a only w b n u l v t free r lt at there =
    let f = found_place rank E s only w b n (refers false u) t r in
    let same : f.loc ≡ l = let g : Some f.loc ≡ Some l = sym f.at ∙ at in cc in
    let val : f.value ≡ v = let g : Some f.value ≡ Some v = sym f.there ∙ ap (value_at s) same ∙ there in cc in
    let is = at_base (E b) refl (res_part E only w.key w.depth b n (refers false u) r) in
    let low = t.below b false u is in
    put_ref rank E s a false u v t free (subst (RefFits E s false u) val f.fits) (free b false u is) (omega (arith, low, lt)) (λ j q x jis jn e. (refl, by j q x jis e is))
  where
    at_base : (q : Exact) → E b ≡ q → exact_under n q ≡ Some (refers false u) → E b ≡ refers false u
    at_base (owns t) is e = let x = part_owns n t (refers false u) e in absurd cc
    at_base (refers m v) is e = is ∙ by n e
      where
        by : (n : ℕ) → exact_under n (refers m v) ≡ Some (refers false u) → refers m v ≡ refers false u
        by zero e = cc
        by (suc n) e = absurd cc

    by : (j : Key) (q : Bool) (x : Place) → E j ≡ refers q x → x.key ≡ u.key → E b ≡ refers false u → q ≡ false
    by j false x jis e is = refl
    by j true x jis e is =
        let same = t.once j b false x u jis is (sym e) in
        let g : refers true x ≡ refers false u = sym jis ∙ ap E (sym same) ∙ is in absurd cc

-- a reference moves from one key to another
pub move_ref : MoveRefLaw
move_ref rank E s x a m u t fx fa ne is lt =
    let E1 = with_type E x (owns hole) in
    let s1 = put_value s (at_key x) gone_v in
    let t1 = forget rank E s x t fx in
    let r = set_fits rank E E1 s s1 x t fx (λ j n. key_other j x (owns hole) (E j) n) (put_other s (at_key x) gone_v) m u (s.at x) (ref_at rank E s t x m u is) (fx x m u is) in
    put_ref rank E1 s1 a m u (s.at x) t1 (unnamed a fa) r (fa x m u is) lt (λ j q w jis jn e. by j q w (old j q w jis) (not_x j q w jis) e m u is refl)
  where
    not_x : (j : Key) (q : Bool) (w : Place) → with_type E x (owns hole) j ≡ refers q w → j ≢ x
    not_x j q w e = λ (z : j ≡ x). let g : owns hole ≡ refers q w = sym (key_same x (owns hole) (E x)) ∙ ap (with_type E x (owns hole)) (sym z) ∙ e in cc

    old : (j : Key) (q : Bool) (w : Place) → with_type E x (owns hole) j ≡ refers q w → E j ≡ refers q w
    old j q w e = sym (key_other j x (owns hole) (E j) (not_x j q w e)) ∙ e

    unnamed : (k : Key) → Unnamed E k → Unnamed (with_type E x (owns hole)) k
    unnamed k f j q w e = f j q w (old j q w e)

    by : (j : Key) (q : Bool) (w : Place) → E j ≡ refers q w → j ≢ x → w.key ≡ u.key → (m : Bool) (v : Place) → E x ≡ refers m v → v.key ≡ u.key → (m ≡ false) × (q ≡ false)
    by j q w jis jx e true v xis ve = absurd (jx (t.once x j q v w xis jis (e ∙ sym ve)))
    by j true w jis jx e false v xis ve = absurd (jx (sym (t.once j x false w v jis xis (ve ∙ sym e))))
    by j false w jis jx e false v xis ve = (refl, refl)

-- SWAP

-- a swap changes two locations
pub swap_other : (s : Store) (h : Key) (l : Location) → SameButTwo (at_key h) l s (swap s h l)
swap_other s h l a na nl = put_other (put_value s l (s.at h)) (at_key h) (or_gone (value_at s l)) a na ∙ put_other s l (s.at h) a nl

-- the location has what the key had
pub swap_at : (s : Store) (h : Key) (l : Location) → l ≢ at_key h → value_at (swap s h l) l ≡ Some (s.at h)
swap_at s h l n = put_other (put_value s l (s.at h)) (at_key h) (or_gone (value_at s l)) l n ∙ put_there s l (s.at h)

-- and the key what the location had
pub swap_hand : (s : Store) (h : Key) (l : Location) (v : Val) → value_at s l ≡ Some v → Some ((swap s h l).at h) ≡ value_at s l
swap_hand s h l v e = put_there (put_value s l (s.at h)) (at_key h) (or_gone (value_at s l)) ∙ ap (λ x. Some (or_gone x)) e ∙ sym e

-- nothing resolves to a key that no type names
none_to : (E : KeyTypes) (b : Key) → Unnamed E b → (j : Key) (m : Bool) (u : Place) (only : Bool) (d i : ℕ) (p : Exact) → E j ≡ refers m u → Resolves E only u.key d b i p → ⊥
none_to E b free j m u only d i p is r = by only u.key d r (free j m u is)
  where
    by : (only : Bool) (k : Key) (d : ℕ) → Resolves E only k d b i p → k ≢ b → ⊥
    by only k d (here e) n = n refl
    by only k d (through m u e is o de r) n = by only u.key (add u.depth e) r (free k m u is)

-- a swap with what stands under a key's own boxes
pub swap_own : SwapOwnLaw
swap_own rank E s a x d th t t0 l ty fa ne ea fx ex un at =
    let w : Place = record { key = x; depth = d } in
    let r : Resolves E true x d x d (owns t0) = here (ap (exact_under d) ex ∙ ap some_owns un) in
    let f = found_place rank E s true w x d (owns t0) ty r in
    let same : f.loc ≡ l = let g : Some f.loc ≡ Some l = sym f.at ∙ at in cc in
    let chain = f.chain ∙ ap Some same in
    let there = ap (value_at s) (sym same) ∙ f.there in
    let nl : l ≢ at_key a = λ (z : l ≡ at_key a). ne (sym (unique s ty.owner x a d zero l chain (ap Some (sym z))).0) in
    let E1 = with_type E x (owns (put_tree d th t)) in
    let E2 = with_type E1 a (owns t0) in
    swap_trees rank E E2 s (swap s a l) a x d th t t0 l ty fa ne ea ex un (key_same a (owns t0) (E1 a)) (key_other x a (owns t0) (E1 x) (λ z. ne (sym z)) ∙ key_same x (owns (put_tree d th t)) (E x))
    (λ j ja jx. key_other j a (owns t0) (E1 j) ja ∙ key_other j x (owns (put_tree d th t)) (E j) jx)
    (λ j m u i p is q. absurd (none_to E x fx j m u m u.depth i p is q))
    chain (swap_other s a l) (swap_at s a l nl) (swap_hand s a l f.value there)

-- a tree with what it has there anyway
put_under_same : (n : ℕ) (t t0 : Tree) → tree_under n t ≡ Some t0 → put_tree n t0 t ≡ t
put_under_same zero t t0 e = cc
put_under_same (suc n) (box_tree t) t0 e = ap box_tree (put_under_same n t t0 e)
put_under_same (suc n) hole t0 e = absurd cc
put_under_same (suc n) unit_tree t0 e = absurd cc
put_under_same (suc n) int_tree t0 e = absurd cc
put_under_same (suc n) (mutex_tree t) t0 e = absurd cc
put_under_same (suc n) (task_tree t) t0 e = absurd cc

-- an owned part stands under a tree
part_root : (n : ℕ) (q : Exact) (t0 : Tree) → exact_under n q ≡ Some (owns t0) → (t : Tree) × (q ≡ owns t) × (tree_under n t ≡ Some t0)
part_root n (owns t) t0 e = let x = part_owns n t (owns t0) e in let g : x.0 ≡ t0 = let h : owns t0 ≡ owns x.0 = x.2 in cc in (t, refl, x.1 ∙ ap Some g)
part_root zero (refers m u) t0 e = absurd cc
part_root (suc n) (refers m u) t0 e = absurd cc

-- no way leads to a key that no type names
pub not_to : (E : KeyTypes) (a : Key) → Unnamed E a → (only : Bool) (k : Key) (d : ℕ) (b : Key) (n : ℕ) (p : Exact) → Resolves E only k d b n p → k ≢ a → b ≢ a
not_to E a free only k d b n p (here e) ne = ne
not_to E a free only k d b n p (through m u e is o de r) ne = not_to E a free only u.key (add u.depth e) b n p r (free k m u is)

-- a swap with what stands behind mutable references
pub swap_through : SwapThroughLaw
swap_through rank E s a w b n t0 l ty fa ne ea fw r at =
    let f = found_place rank E s true w b n (owns t0) ty r in
    let same : f.loc ≡ l = let g : Some f.loc ≡ Some l = sym f.at ∙ at in cc in
    let chain = f.chain ∙ ap Some same in
    let there = ap (value_at s) (sym same) ∙ f.there in
    let bn = not_to E a fa true w.key w.depth b n (owns t0) r (λ z. ne (sym z)) in
    let nl : l ≢ at_key a = λ (z : l ≡ at_key a). bn (unique s ty.owner b a n zero l chain (ap Some (sym z))).0 in
    let root = part_root n (E b) t0 (res_part E true w.key w.depth b n (owns t0) r) in
    swap_trees rank E E s (swap s a l) a b n t0 root.0 t0 l ty fa (λ z. bn (sym z)) ea root.1 root.2 ea (root.1 ∙ ap owns (sym (put_under_same n root.0 t0 root.2))) (λ j ja jx. refl)
    (λ j m u i p is q. ((exclusive E ty.once w.key w.depth b n (owns t0) fw r j m u m i p is q).0, res_part E m u.key u.depth b i p q))
    chain (swap_other s a l) (swap_at s a l nl) (swap_hand s a l f.value there)

-- MAKE AND DROP

-- a new object changes two locations
pub make_others : (s : Store) (a : Key) (o : ObjNo) → SameButTwo (at_key a) (at_object o) s (make s a o)
make_others s a o (at_key j) na nq = ap Some (key_other j a (box_v o) (s.at j) (slot_differs j a na))
make_others s a o (at_object q) na nq = object_other q o (Some (s.at a)) (s.heap q) (object_differs q o nq)

-- a box around the value of a key
pub box_hand : BoxLaw
box_hand rank E s a t o ty fa ea none fresh =
    make_object rank E (with_type E a (owns (box_tree t))) s (make s a o) a t o ty fa (λ j ne. key_other j a (owns (box_tree t)) (E j) ne) ea (key_same a (owns (box_tree t)) (E a)) (make_others s a o) none fresh
    (key_same a (box_v o) (s.at a)) (object_same o (Some (s.at a)) (s.heap o))

-- a link of a drop changes two locations
pub unbox_others : (s : Store) (h : Key) (o : ObjNo) → SameButTwo (at_key h) (at_object o) s (unbox s h o)
unbox_others s h o (at_key j) na nq = ap Some (key_other j h (or_gone (s.heap o)) (s.at j) (slot_differs j h na))
unbox_others s h o (at_object q) na nq = object_other q o None (s.heap q) (object_differs q o nq)

-- the value of a key that owns is of its tree
pub top_fits : (rank : Key → ℕ) (E : KeyTypes) (s : Store) → Typed rank E s → (a : Key) (t : Tree) → E a ≡ owns t → TopFits t (s.at a)
top_fits rank E s ty a t e =
    let st = ty.stands a zero (owns t) (ap (exact_under zero) e) in
    let l : at_key a ≡ st.spot = let g : Some (at_key a) ≡ Some st.spot = st.leads in cc in
    let v : s.at a ≡ st.value = let g : Some (s.at a) ≡ Some st.value = ap (value_at s) l ∙ st.there in cc in
    subst (TopFits t) (sym v) st.fits

-- only the type of each key counts
pub same_env : (rank : Key → ℕ) (E E2 : KeyTypes) (s : Store) → Typed rank E s → ((k : Key) → E2 k ≡ E k) → Typed rank E2 s
same_env rank E E2 s ty te = record {
  stands = λ k. stands_kept (λ _. Unit {0}) E E2 s s frame k tt (te k) (λ i m e. refl) (ty.stands k);
  below = λ k m u e. ty.below k m u (sym (te k) ∙ e);
  once = λ i j m u v ei ej. ty.once i j m u v (sym (te i) ∙ ei) (sym (te j) ∙ ej);
  owner = ty.owner;
}
  where
    frame : Frame (λ _. Unit {0}) E E2 s s
    frame = record { refs = λ k m u _ e. (te k ∙ e, tt); roots = λ j m u b n p _ js _ r. (ap (exact_under n) (te b) ∙ res_part E m u.key u.depth b n p r, refl) }

-- of two new types the second one counts
pub with_twice : (E : KeyTypes) (a : Key) (p q : Exact) (k : Key) → with_type E a q k ≡ with_type (with_type E a p) a q k
with_twice E a p q k = key_cases (λ b. (if b then q else E k) ≡ (if b then q else (if b then p else E k))) k a (λ _. refl) (λ _. refl)

-- a key that owns names nothing
pub unnamed_with : (E : KeyTypes) (a : Key) (t : Tree) (k : Key) → Unnamed E k → Unnamed (with_type E a (owns t)) k
unnamed_with E a t k f j m u e =
    ⊎_elim (λ (z : j ≡ a). let g : owns t ≡ refers m u = sym (key_same a (owns t) (E a)) ∙ ap (with_type E a (owns t)) (sym z) ∙ e in absurd cc) (λ (z : j ≢ a). f j m u (sym (key_other j a (owns t) (E j) z) ∙ e)) (decide_key j a)

-- the end of the value that a key owns
pub drop_hand : DropLaw
drop_hand rank E s a t zero ty fa ea le = absurd (no_zero t le)
  where
    no_zero : (t : Tree) → tree_depth t ≤ zero → ⊥
    no_zero (box_tree t) le = omega arith
    no_zero hole le = omega arith
    no_zero unit_tree le = omega arith
    no_zero int_tree le = omega arith
    no_zero (mutex_tree t) le = omega arith
    no_zero (task_tree t) le = omega arith
drop_hand rank E s a t (suc n) ty fa ea le = by (λ E1 s1 t x f e l. drop_hand rank E1 s1 a t n x f e l) t ea le (top_fits rank E s ty a t ea)
  where
    flat : (v : Val) → drop_link (drop_value n a) s a v ≡ put_value s (at_key a) gone_v → s.at a ≡ v → Typed rank (with_type E a (owns hole)) (drop_value (suc n) a s)
    flat v e is = subst (Typed rank (with_type E a (owns hole))) (sym (ap (drop_link (drop_value n a) s a) is ∙ e)) (forget rank E s a ty fa)

    by : ((E1 : KeyTypes) (s1 : Store) (t : Tree) → Typed rank E1 s1 → Unnamed E1 a → E1 a ≡ owns t → tree_depth t ≤ n → Typed rank (with_type E1 a (owns hole)) (drop_value n a s1)) → (t : Tree) → E a ≡ owns t → tree_depth t ≤ suc n → TopFits t (s.at a) → Typed rank (with_type E a (owns hole)) (drop_value (suc n) a s)
    by rest hole ea le f = flat gone_v refl f
    by rest unit_tree ea le f = flat unit_v refl f
    by rest int_tree ea le f = flat (int_v f.0) refl f.1
    by rest (mutex_tree t) ea le f = flat (mutex_v f.0 t) refl f.1
    by rest (task_tree t) ea le f = flat (task_v f.0 t) refl f.1
    by rest (box_tree t) ea le f =
        let st = ty.stands a 1 (owns t) (ap (exact_under 1) ea) in
        let o = f.0 in
        let l : at_object o ≡ st.spot = let g : Some (at_object o) ≡ Some st.spot = sym (ap (λ v. box_target (Some v)) f.1) ∙ st.leads in cc in
        let c : s.heap o ≡ Some st.value = ap (value_at s) l ∙ st.there in
        let E1 = with_type E a (owns t) in
        let s1 = unbox s a o in
        let t1 = unbox_link rank E E1 s s1 a t o ty fa (λ j ne. key_other j a (owns t) (E j) ne) ea (key_same a (owns t) (E a)) (unbox_others s a o) f.1 (ap Some (key_same a (or_gone (s.heap o)) (s.at a)) ∙ ap (λ x. Some (or_gone x)) c ∙ sym c) (object_same o None (s.heap o)) in
        let r = rest E1 s1 t t1 (unnamed_with E a t a fa) (key_same a (owns t) (E a)) (omega arith) in
        subst (Typed rank (with_type E a (owns hole))) (sym (ap (drop_link (drop_value n a) s a) f.1)) (same_env rank (with_type E1 a (owns hole)) (with_type E a (owns hole)) (drop_value n a s1) r (with_twice E a (owns t) (owns hole)))

-- SOLE

-- who writes is alone
pub sole : SoleLaw
sole rank E s w b n i p j l ty free r js at = by (E j) refl
  where
    by : (q : Exact) → E j ≡ q → (i ≤ n) × Loaned E w.key j
    by (owns t) e = absurd (not_ref t (top_fits rank E s ty j t e))
      where
        not_ref : (t : Tree) → TopFits t (s.at j) → ⊥
        not_ref hole f = let g : ref_v l ≡ gone_v = sym js ∙ f in cc
        not_ref unit_tree f = let g : ref_v l ≡ unit_v = sym js ∙ f in cc
        not_ref int_tree f = let g : ref_v l ≡ int_v f.0 = sym js ∙ f.1 in cc
        not_ref (mutex_tree t) f = let g : ref_v l ≡ mutex_v f.0 t = sym js ∙ f.1 in cc
        not_ref (task_tree t) f = let g : ref_v l ≡ task_v f.0 t = sym js ∙ f.1 in cc
        not_ref (box_tree t) f = let g : ref_v l ≡ box_v f.0 = sym js ∙ f.1 in cc
    by (refers m u) e =
        let f = ref_at rank E s ty j m u e in
        let same : f.target ≡ l = let g : ref_v f.target ≡ ref_v l = sym f.is ∙ js in cc in
        let q = unique s ty.owner f.base b f.boxes i l (f.leads ∙ ap Some same) at in
        let x = exclusive E ty.once w.key w.depth b n p free r j m u m f.boxes f.type e (subst (λ z. Resolves E m u.key u.depth z f.boxes f.type) q.0 f.res) in
        (omega (arith, q.1, x.0), x.1)

-- SAME

-- only types and values count
pub same_store : SameLaw
same_store rank E E2 s s2 ty te tv = record {
  stands = λ k. stands_kept (λ _. Unit {0}) E E2 s s2 frame k tt (te k) (λ i m e. tv m) (ty.stands k);
  below = λ k m u e. ty.below k m u (sym (te k) ∙ e);
  once = λ i j m u v ei ej. ty.once i j m u v (sym (te i) ∙ ei) (sym (te j) ∙ ej);
  owner = λ a b o e f. ty.owner a b o (sym (tv a) ∙ e) (sym (tv b) ∙ f);
}
  where
    frame : Frame (λ _. Unit {0}) E E2 s s2
    frame = record { refs = λ k m u _ e. (te k ∙ e, tt); roots = λ j m u b n p _ js _ r. (ap (exact_under n) (te b) ∙ res_part E m u.key u.depth b n p r, down_same b n) }
      where
        down_same : (k : Key) (n : ℕ) → below_key s2 k n ≡ below_key s k n
        down_same k zero = refl
        down_same k (suc n) = ap (λ x. then_location x (box_hop s2)) (down_same k n) ∙ step (below_key s k n)
          where
            step : (x : Option Location) → then_location x (box_hop s2) ≡ then_location x (box_hop s)
            step None = refl
            step (Some m) = ap box_target (tv m)
