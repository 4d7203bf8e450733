-- Each object has an owner, and each box its object.
use Rattle.fr_store.proofs.Changes.{unbox_link}
use Rattle.fr_store.proofs.Rows.{put_other, top_fits, unbox_others, unnamed_with}
use Rattle.fr_store.specs.Rows.{tree_depth, with_type}
use Rattle.fr_store.specs.Typed.{KeyTypes, TopFits, Tree, Typed, Unnamed, box_tree, hole, int_tree, mutex_tree, owns, task_tree, unit_tree}
use Rattle.fr_store.proofs.Keys.{decide_object, key_other, key_same, object_same}
use Rattle.fr_base.specs.declared.name.ObjNo.{ObjNo}
use Rattle.std.proofs.Common.{◌≡◌, ◌≢◌, ◌⊎◌, inl, inr, ⊎_elim, Some, None, sym, ap, ◌∙◌, arith, refl, subst, suc, zero, ◌≤◌}
use Rattle.fr_store.specs.Keys.{Key}
use Rattle.fr_store.specs.Store.{Location, at_key, at_object, Val, box_v, Store, value_at, drop_link, drop_value, gone_v, int_v, mutex_v, or_gone, put_value, task_v, unbox, unit_v}
use Rattle.fr_store.specs.Changes.{SameBut, SameButTwo}
use Rattle.fr_store.specs.Tidy.{OneOwner, Tidy, FreshLaw, TidyAlikeLaw, TidyDropLaw}
use Rattle.fr_store.proofs.Chains.{decide_location}

-- a key is no object
slot_object : (k : Key) (o : ObjNo) → at_key k ≡ at_object o → ⊥
slot_object k o e = cc

-- equal boxes have the same object
box_same : (o q : ObjNo) → Some (box_v o) ≡ Some (box_v q) → o ≡ q
box_same o q e = cc

-- a key gets a value that is no box
pub tidy_set : (s s2 : Store) (a : Key) → Tidy s → SameBut (at_key a) s s2 → ((o : ObjNo) → s.at a ≡ box_v o → ⊥) → ((o : ObjNo) → s2.at a ≡ box_v o → ⊥) → Tidy s2
tidy_set s s2 a t same old new = record { alive = alive; held = held }
  where
    alive : (l : Location) (o : ObjNo) → value_at s2 l ≡ Some (box_v o) → (c : Val) × (s2.heap o ≡ Some c)
    alive l o e = ⊎_elim (λ (z : l ≡ at_key a). absurd (new o (one (s2.at a) (ap (value_at s2) (sym z) ∙ e)))) (λ (z : l ≢ at_key a). let c = t.alive l o (sym (same l z) ∙ e) in (c.0, same (at_object o) (λ y. slot_object a o (sym y)) ∙ c.1)) (decide_location l (at_key a))
      where
        one : (v : Val) → Some v ≡ Some (box_v o) → v ≡ box_v o
        one v e = cc

    held : (o : ObjNo) (c : Val) → s2.heap o ≡ Some c → (l : Location) × (value_at s2 l ≡ Some (box_v o))
    held o c e =
        let x = t.held o c (sym (same (at_object o) (λ y. slot_object a o (sym y))) ∙ e) in
        ⊎_elim (λ (z : x.0 ≡ at_key a). absurd (old o (one (s.at a) (ap (value_at s) (sym z) ∙ x.1)))) (λ (z : x.0 ≢ at_key a). (x.0, same x.0 z ∙ x.1)) (decide_location x.0 (at_key a))
      where
        one : (v : Val) → Some v ≡ Some (box_v o) → v ≡ box_v o
        one v e = cc

-- two values change places
pub tidy_swap : (s s2 : Store) (h : Key) (l : Location) → Tidy s → SameButTwo (at_key h) l s s2 → value_at s2 l ≡ Some (s.at h) → Some (s2.at h) ≡ value_at s l → Tidy s2
tidy_swap s s2 h l t same vl vh = record { alive = alive; held = held }
  where
    there : (o : ObjNo) (c : Val) → s.heap o ≡ Some c → (c2 : Val) × (s2.heap o ≡ Some c2)
    there o c e = ⊎_elim (λ (z : at_object o ≡ l). (s.at h, ap (value_at s2) z ∙ vl)) (λ (z : at_object o ≢ l). (c, same (at_object o) (λ y. slot_object h o (sym y)) z ∙ e)) (decide_location (at_object o) l)

    before : (o : ObjNo) (c : Val) → s2.heap o ≡ Some c → (c2 : Val) × (s.heap o ≡ Some c2)
    before o c e = ⊎_elim (λ (z : at_object o ≡ l). (s2.at h, ap (value_at s) z ∙ sym vh)) (λ (z : at_object o ≢ l). (c, sym (same (at_object o) (λ y. slot_object h o (sym y)) z) ∙ e)) (decide_location (at_object o) l)

    alive : (m : Location) (o : ObjNo) → value_at s2 m ≡ Some (box_v o) → (c : Val) × (s2.heap o ≡ Some c)
    alive m o e = by (decide_location m (at_key h)) (decide_location m l)
      where
        go : (k : Location) → value_at s k ≡ Some (box_v o) → (c : Val) × (s2.heap o ≡ Some c)
        go k f = let c = t.alive k o f in there o c.0 c.1

        by : (m ≡ at_key h) ⊎ (m ≢ at_key h) → (m ≡ l) ⊎ (m ≢ l) → (c : Val) × (s2.heap o ≡ Some c)
        by (inl z) y = go l (sym vh ∙ ap (value_at s2) (sym z) ∙ e)
        by (inr z) (inl y) = go (at_key h) (sym vl ∙ ap (value_at s2) (sym y) ∙ e)
        by (inr z) (inr y) = go m (sym (same m z y) ∙ e)

    held : (o : ObjNo) (c : Val) → s2.heap o ≡ Some c → (m : Location) × (value_at s2 m ≡ Some (box_v o))
    held o c e = by (decide_location x.0 (at_key h)) (decide_location x.0 l)
      where
        x : (m : Location) × (value_at s m ≡ Some (box_v o))
        x = let b = before o c e in t.held o b.0 b.1

        by : (x.0 ≡ at_key h) ⊎ (x.0 ≢ at_key h) → (x.0 ≡ l) ⊎ (x.0 ≢ l) → (m : Location) × (value_at s2 m ≡ Some (box_v o))
        by (inl z) y = (l, vl ∙ ap (value_at s) (sym z) ∙ x.1)
        by (inr z) (inl y) = (at_key h, vh ∙ ap (value_at s) (sym y) ∙ x.1)
        by (inr z) (inr y) = (x.0, same x.0 z y ∙ x.1)

-- one link of a drop
pub tidy_unbox : (s s2 : Store) (h : Key) (o : ObjNo) → OneOwner s → Tidy s → SameButTwo (at_key h) (at_object o) s s2 → s.at h ≡ box_v o → Some (s2.at h) ≡ s.heap o → s2.heap o ≡ None → Tidy s2
tidy_unbox s s2 h o one t same v c left = record { alive = alive; held = held }
  where
    other : (q : ObjNo) (m : Location) → value_at s m ≡ Some (box_v q) → m ≢ at_key h → q ≢ o
    other q m e ne = λ (z : q ≡ o). ne (one m (at_key h) o (e ∙ ap (λ y. Some (box_v y)) z) (ap Some v))

    kept : (q : ObjNo) → q ≢ o → s2.heap q ≡ s.heap q
    kept q ne = same (at_object q) (λ y. slot_object h q (sym y)) (λ (z : at_object q ≡ at_object o). ne cc)

    alive : (m : Location) (q : ObjNo) → value_at s2 m ≡ Some (box_v q) → (w : Val) × (s2.heap q ≡ Some w)
    alive m q e = by (decide_location m (at_key h)) (decide_location m (at_object o))
      where
        go : (k : Location) → value_at s k ≡ Some (box_v q) → k ≢ at_key h → (w : Val) × (s2.heap q ≡ Some w)
        go k f ne = let w = t.alive k q f in (w.0, kept q (other q k f ne) ∙ w.1)

        by : (m ≡ at_key h) ⊎ (m ≢ at_key h) → (m ≡ at_object o) ⊎ (m ≢ at_object o) → (w : Val) × (s2.heap q ≡ Some w)
        by (inl z) y = go (at_object o) (sym c ∙ ap (value_at s2) (sym z) ∙ e) (λ y. slot_object h o (sym y))
        by (inr z) (inl y) = let g : None ≡ Some (box_v q) = sym left ∙ ap (value_at s2) (sym y) ∙ e in absurd cc
        by (inr z) (inr y) = go m (sym (same m z y) ∙ e) z

    held : (q : ObjNo) (w : Val) → s2.heap q ≡ Some w → (m : Location) × (value_at s2 m ≡ Some (box_v q))
    held q w e = by (decide_location x.0 (at_key h)) (decide_location x.0 (at_object o))
      where
        ne : q ≢ o
        ne = λ (z : q ≡ o). let g : None ≡ Some w = sym left ∙ ap s2.heap (sym z) ∙ e in cc

        x : (m : Location) × (value_at s m ≡ Some (box_v q))
        x = t.held q w (sym (kept q ne) ∙ e)

        by : (x.0 ≡ at_key h) ⊎ (x.0 ≢ at_key h) → (x.0 ≡ at_object o) ⊎ (x.0 ≢ at_object o) → (m : Location) × (value_at s2 m ≡ Some (box_v q))
        by (inl z) y = absurd (ne (box_same q o (sym x.1 ∙ ap (value_at s) z ∙ ap Some v)))
        by (inr z) (inl y) = (at_key h, c ∙ ap (value_at s) (sym y) ∙ x.1)
        by (inr z) (inr y) = (x.0, same x.0 z y ∙ x.1)

-- a new object
pub tidy_make : (s s2 : Store) (h : Key) (o : ObjNo) → Tidy s → SameButTwo (at_key h) (at_object o) s s2 → s.heap o ≡ None → s2.at h ≡ box_v o → s2.heap o ≡ Some (s.at h) → Tidy s2
tidy_make s s2 h o t same none v c = record { alive = alive; held = held }
  where
    fresh : (q : ObjNo) (m : Location) → value_at s m ≡ Some (box_v q) → q ≢ o
    fresh q m e = λ (z : q ≡ o). let w = t.alive m q e in let g : None ≡ Some w.0 = sym none ∙ ap s.heap (sym z) ∙ w.1 in cc

    kept : (q : ObjNo) → q ≢ o → s2.heap q ≡ s.heap q
    kept q ne = same (at_object q) (λ y. slot_object h q (sym y)) (λ (z : at_object q ≡ at_object o). ne cc)

    alive : (m : Location) (q : ObjNo) → value_at s2 m ≡ Some (box_v q) → (w : Val) × (s2.heap q ≡ Some w)
    alive m q e = by (decide_location m (at_key h)) (decide_location m (at_object o))
      where
        go : (k : Location) → value_at s k ≡ Some (box_v q) → (w : Val) × (s2.heap q ≡ Some w)
        go k f = let w = t.alive k q f in (w.0, kept q (fresh q k f) ∙ w.1)

        by : (m ≡ at_key h) ⊎ (m ≢ at_key h) → (m ≡ at_object o) ⊎ (m ≢ at_object o) → (w : Val) × (s2.heap q ≡ Some w)
        by (inl z) y = (s.at h, ap s2.heap (box_same q o (sym e ∙ ap (value_at s2) z ∙ ap Some v)) ∙ c)
        by (inr z) (inl y) = go (at_key h) (sym c ∙ ap (value_at s2) (sym y) ∙ e)
        by (inr z) (inr y) = go m (sym (same m z y) ∙ e)

    held : (q : ObjNo) (w : Val) → s2.heap q ≡ Some w → (m : Location) × (value_at s2 m ≡ Some (box_v q))
    held q w e = by_object (decide_object q o)
      where
        at_loc : (x : (m : Location) × (value_at s m ≡ Some (box_v q))) → (x.0 ≡ at_key h) ⊎ (x.0 ≢ at_key h) → (x.0 ≡ at_object o) ⊎ (x.0 ≢ at_object o) → (m : Location) × (value_at s2 m ≡ Some (box_v q))
        at_loc x (inl z) y = (at_object o, c ∙ ap (value_at s) (sym z) ∙ x.1)
        at_loc x (inr z) (inl y) = let g : None ≡ Some (box_v q) = sym none ∙ ap (value_at s) (sym y) ∙ x.1 in absurd cc
        at_loc x (inr z) (inr y) = (x.0, same x.0 z y ∙ x.1)

        by_object : (q ≡ o) ⊎ (q ≢ o) → (m : Location) × (value_at s2 m ≡ Some (box_v q))
        by_object (inl z) = (at_key h, ap Some v ∙ ap (λ y. Some (box_v y)) (sym z))
        by_object (inr ne) = let x = t.held q w (sym (kept q ne) ∙ e) in at_loc x (decide_location x.0 (at_key h)) (decide_location x.0 (at_object o))

-- only what stands at each location counts
pub tidy_alike : TidyAlikeLaw
tidy_alike s s2 t f = record {
  alive = λ l o e. let c = t.alive l o (sym (f l) ∙ e) in (c.0, f (at_object o) ∙ c.1);
  held = λ o c e. let x = t.held o c (sym (f (at_object o)) ∙ e) in (x.0, f x.0 ∙ x.1);
}

-- nobody holds a box of an object that isn't there
pub fresh_box : FreshLaw
fresh_box s o t none l e = let c = t.alive l o e in let g : None ≡ Some c.0 = sym none ∙ c.1 in cc

-- a whole drop
pub tidy_drop : TidyDropLaw
tidy_drop rank E s a t zero ty fa ea le td = td
tidy_drop rank E s a t (suc n) ty fa ea le td = by (λ E1 s1 t x f e l d. tidy_drop rank E1 s1 a t n x f e l d) t ea le (top_fits rank E s ty a t ea)
  where
    flat : (v : Val) → drop_link (drop_value n a) s a v ≡ put_value s (at_key a) gone_v → s.at a ≡ v → ((o : ObjNo) → v ≡ box_v o → ⊥) → Tidy (drop_value (suc n) a s)
    flat v e is plain = subst Tidy (sym (ap (drop_link (drop_value n a) s a) is ∙ e)) (tidy_set s (put_value s (at_key a) gone_v) a td (put_other s (at_key a) gone_v) (λ o f. plain o (sym is ∙ f)) (λ o f. let g : gone_v ≡ box_v o = sym (key_same a gone_v (s.at a)) ∙ f in cc))

    by : ((E1 : KeyTypes) (s1 : Store) (t : Tree) → Typed rank E1 s1 → Unnamed E1 a → E1 a ≡ owns t → tree_depth t ≤ n → Tidy s1 → Tidy (drop_value n a s1)) → (t : Tree) → E a ≡ owns t → tree_depth t ≤ suc n → TopFits t (s.at a) → Tidy (drop_value (suc n) a s)
    by rest hole ea le f = flat gone_v refl f (λ o e. cc)
    by rest unit_tree ea le f = flat unit_v refl f (λ o e. cc)
    by rest int_tree ea le f = flat (int_v f.0) refl f.1 (λ o e. cc)
    by rest (mutex_tree t) ea le f = flat (mutex_v f.0 t) refl f.1 (λ o e. cc)
    by rest (task_tree t) ea le f = flat (task_v f.0 t) refl f.1 (λ o e. cc)
    by rest (box_tree t) ea le f =
        let o = f.0 in
        let c = td.alive (at_key a) o (ap Some f.1) in
        let E1 = with_type E a (owns t) in
        let s1 = unbox s a o in
        let top = ap Some (key_same a (or_gone (s.heap o)) (s.at a)) ∙ ap (λ x. Some (or_gone x)) c.1 ∙ sym c.1 in
        let left = object_same o None (s.heap o) in
        let t1 = unbox_link rank E E1 s s1 a t o ty fa (λ j ne. key_other j a (owns t) (E j) ne) ea (key_same a (owns t) (E a)) (unbox_others s a o) f.1 top left in
        let d1 = tidy_unbox s s1 a o ty.owner td (unbox_others s a o) f.1 top left in
        subst Tidy (sym (ap (drop_link (drop_value n a) s a) f.1)) (rest E1 s1 t t1 (unnamed_with E a t a fa) (key_same a (owns t) (E a)) (omega arith) d1)
