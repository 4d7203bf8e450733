-- What dropping makes of the store of a list of slots.
use Rattle.std.proofs.Common.{◌≡◌, ℕ, zero, suc, ◌<◌, ◌≤◌, List, [], ◌∷◌, length, Some, None, refl, sym, ap, subst, ◌∙◌, arith}
use Rattle.std.specs.Prelude.{if◌then◌else◌}
use Rattle.fr_base.specs.declared.name.ObjNo.{ObjNo}
use Rattle.fr_store.specs.Keys.{Key, slot_k, hand_k, same_key, same_object}
use Rattle.fr_store.specs.Store.{Alike, at_key, at_object, Val, gone_v, unit_v, int_v, box_v, mutex_v, task_v, ref_v, Store, or_gone, unbox, drop_link, drop_value}
use Rattle.fr_store.specs.Typed.{Tree, hole, owns, KeyTypes, Typed, Unnamed}
use Rattle.fr_store.specs.Rows.{with_type, tree_depth}
use Rattle.fr_store.specs.ListState.{Objects, slot_value, put_slot, store_beside, without_object, drop_objects, drop_rest}
use Rattle.fr_store.proofs.Keys.{key_same}
use Rattle.fr_store.proofs.Rows.{top_fits, drop_hand}
use Rattle.fr_store.proofs.ListState.{length_put_slot, slot_put, at_hand, at_slot, Some-value, put_alike, list_put_slot, list_put_hand, list_unbox, list_unbox_slot, list_pop, Alike-then}
use Rattle.fr_typing.proofs.PlaceLemmas.{eq_cases}

-- DROPPING ANYWHERE

-- a link of a drop sees only what stands at each location
unbox_alike : (s s2 : Store) (k : Key) (o : ObjNo) → Alike s s2 → Alike (unbox s k o) (unbox s2 k o)
unbox_alike s s2 k o f (at_key j) =
    ap Some (ap (λ x. if same_key j k then or_gone x else s2.at j) (f (at_object o)) ∙ ap (λ x. if same_key j k then or_gone (s.heap o) else x) (Some-value (s2.at j) (s.at j) (f (at_key j))))
unbox_alike s s2 k o f (at_object q) = ap (λ x. if same_object q o then None else x) (f (at_object q))

-- a drop sees only what stands at each location
pub drop_alike : (n : ℕ) (k : Key) (s s2 : Store) → Alike s s2 → Alike (drop_value n k s) (drop_value n k s2)
drop_alike zero k s s2 f = f
drop_alike (suc n) k s s2 f =
    subst (λ x. Alike (drop_link (drop_value n k) s k (s.at k)) (drop_link (drop_value n k) s2 k x)) (sym (Some-value (s2.at k) (s.at k) (f (at_key k)))) (by (s.at k) (λ o. drop_alike n k (unbox s k o) (unbox s2 k o) (unbox_alike s s2 k o f)))
  where
    by : (v : Val) → ((o : ObjNo) → Alike (drop_value n k (unbox s k o)) (drop_value n k (unbox s2 k o))) → Alike (drop_link (drop_value n k) s k v) (drop_link (drop_value n k) s2 k v)
    by (box_v o) g = g o
    by gone_v g = put_alike s s2 k gone_v f
    by unit_v g = put_alike s s2 k gone_v f
    by (int_v m) g = put_alike s s2 k gone_v f
    by (mutex_v m r) g = put_alike s s2 k gone_v f
    by (task_v m u) g = put_alike s s2 k gone_v f
    by (ref_v m) g = put_alike s s2 k gone_v f

-- what is left at the key
pub drop_at : (n : ℕ) (k : Key) (s : Store) → (drop_value n k s).at k ≡ drop_rest n (s.at k) s.heap
drop_at zero k s = refl
drop_at (suc n) k s = by (s.at k) (λ o. drop_at n k (unbox s k o))
  where
    by : (v : Val) → ((o : ObjNo) → (drop_value n k (unbox s k o)).at k ≡ drop_rest n ((unbox s k o).at k) (unbox s k o).heap) → (drop_link (drop_value n k) s k v).at k ≡ drop_rest (suc n) v s.heap
    by (box_v o) g = g o ∙ ap (λ x. drop_rest n x (without_object s.heap o)) (key_same k (or_gone (s.heap o)) (s.at k))
    by gone_v g = key_same k gone_v (s.at k)
    by unit_v g = key_same k gone_v (s.at k)
    by (int_v m) g = key_same k gone_v (s.at k)
    by (mutex_v m r) g = key_same k gone_v (s.at k)
    by (task_v m u) g = key_same k gone_v (s.at k)
    by (ref_v m) g = key_same k gone_v (s.at k)

-- a number that is enough is enough, and a larger one drops the same
pub drop_enough : (n m : ℕ) (v : Val) (h : Objects) → drop_rest n v h ≡ gone_v → n ≤ m → (drop_rest m v h ≡ gone_v) × (drop_objects m v h ≡ drop_objects n v h)
drop_enough zero m v h e le = subst (λ x. (drop_rest m x h ≡ gone_v) × (drop_objects m x h ≡ h)) (sym e) (nothing m)
  where
    nothing : (m : ℕ) → (drop_rest m gone_v h ≡ gone_v) × (drop_objects m gone_v h ≡ h)
    nothing zero = (refl, refl)
    nothing (suc m) = (refl, refl)
drop_enough (suc n) zero v h e le = absurd (omega arith)
drop_enough (suc n) (suc m) (box_v o) h e le = drop_enough n m (or_gone (h o)) (without_object h o) e (omega arith)
drop_enough (suc n) (suc m) gone_v h e le = (refl, refl)
drop_enough (suc n) (suc m) unit_v h e le = (refl, refl)
drop_enough (suc n) (suc m) (int_v x) h e le = (refl, refl)
drop_enough (suc n) (suc m) (mutex_v x r) h e le = (refl, refl)
drop_enough (suc n) (suc m) (task_v x u) h e le = (refl, refl)
drop_enough (suc n) (suc m) (ref_v x) h e le = (refl, refl)

-- in a typed store the depth of its tree is enough
pub drop_ends : (rank : Key → ℕ) (E : KeyTypes) (s : Store) (a : Key) (t : Tree) (n : ℕ) → Typed rank E s → Unnamed E a → E a ≡ owns t → tree_depth t ≤ n → drop_rest n (s.at a) s.heap ≡ gone_v
drop_ends rank E s a t n ty free is le =
    sym (drop_at n a s) ∙ top_fits rank (with_type E a (owns hole)) (drop_value n a s) (drop_hand rank E s a t n ty free is le) a hole (key_same a (owns hole) (E a))

-- IN A LIST OF SLOTS

-- the value in the term is dropped
pub list_drop : (n : ℕ) (rest : Key → Val) (t : ℕ) (vs : List Val) (v : Val) (h : Objects) → Alike (drop_value n (hand_k t) (store_beside rest t vs v h)) (store_beside rest t vs (drop_rest n v h) (drop_objects n v h))
list_drop zero rest t vs v h = λ l. refl
list_drop (suc n) rest t vs v h =
    subst (λ x. Alike (drop_link (drop_value n k) s k x) (store_beside rest t vs (drop_rest (suc n) v h) (drop_objects (suc n) v h))) (sym (at_hand rest t vs v h))
    (by v (λ o. list_drop n rest t vs (or_gone (h o)) (without_object h o)))
  where
    k : Key
    k = hand_k t

    s : Store
    s = store_beside rest t vs v h

    by : (w : Val) → ((o : ObjNo) → Alike (drop_value n k (store_beside rest t vs (or_gone (h o)) (without_object h o))) (store_beside rest t vs (drop_rest n (or_gone (h o)) (without_object h o)) (drop_objects n (or_gone (h o)) (without_object h o))))
        → Alike (drop_link (drop_value n k) s k w) (store_beside rest t vs (drop_rest (suc n) w h) (drop_objects (suc n) w h))
    by (box_v o) g =
        Alike-then (drop_value n k (unbox s k o)) (drop_value n k (store_beside rest t vs (or_gone (h o)) (without_object h o))) (store_beside rest t vs (drop_rest n (or_gone (h o)) (without_object h o)) (drop_objects n (or_gone (h o)) (without_object h o)))
        (drop_alike n k (unbox s k o) (store_beside rest t vs (or_gone (h o)) (without_object h o)) (list_unbox rest t vs v h o)) (g o)
    by gone_v g = list_put_hand rest t vs v h gone_v
    by unit_v g = list_put_hand rest t vs v h gone_v
    by (int_v m) g = list_put_hand rest t vs v h gone_v
    by (mutex_v m r) g = list_put_hand rest t vs v h gone_v
    by (task_v m u) g = list_put_hand rest t vs v h gone_v
    by (ref_v m) g = list_put_hand rest t vs v h gone_v

-- of two writes to a slot the second one counts
pub put_slot_twice : (vs : List Val) (m : ℕ) (v w : Val) → put_slot (put_slot vs m v) m w ≡ put_slot vs m w
put_slot_twice [] m v w = refl
put_slot_twice (x ∷ vs) m v w =
    eq_cases (λ b. put_slot (if b then v ∷ vs else x ∷ put_slot vs m v) m w ≡ (if b then w ∷ vs else x ∷ put_slot vs m w)) m (length vs)
    (λ e. eq_cases (λ b. (if b then w ∷ vs else v ∷ put_slot vs m w) ≡ w ∷ vs) m (length vs) (λ _. refl) (λ ne. absurd (ne e)))
    (λ ne. eq_cases (λ b. (if b then w ∷ put_slot vs m v else x ∷ put_slot (put_slot vs m v) m w) ≡ x ∷ put_slot vs m w) m (length (put_slot vs m v)) (λ e. absurd (ne (e ∙ length_put_slot vs m v))) (λ _. ap (λ z. x ∷ z) (put_slot_twice vs m v w)))

-- a slot that gets what it had
pub put_slot_same : (vs : List Val) (m : ℕ) → put_slot vs m (slot_value vs m) ≡ vs
put_slot_same [] m = refl
put_slot_same (x ∷ vs) m = eq_cases (λ b. (if b then (if b then x else slot_value vs m) ∷ vs else x ∷ put_slot vs m (if b then x else slot_value vs m)) ≡ x ∷ vs) m (length vs) (λ _. refl) (λ _. ap (λ z. x ∷ z) (put_slot_same vs m))

-- a changed slot has its new value
pub slot_put_same : (vs : List Val) (m : ℕ) (w : Val) → m < length vs → slot_value (put_slot vs m w) m ≡ w
slot_put_same vs m w lt = slot_put vs m m w lt ∙ eq_cases (λ b. (if b then w else slot_value vs m) ≡ w) m m (λ _. refl) (λ ne. absurd (ne refl))

-- the value of a slot is dropped
pub list_drop_slot : (n : ℕ) (rest : Key → Val) (t : ℕ) (vs : List Val) (v : Val) (h : Objects) (m : ℕ) → m < length vs
    → Alike (drop_value n (slot_k t m) (store_beside rest t vs v h)) (store_beside rest t (put_slot vs m (drop_rest n (slot_value vs m) h)) v (drop_objects n (slot_value vs m) h))
list_drop_slot zero rest t vs v h m lt = subst (λ x. Alike (store_beside rest t vs v h) (store_beside rest t x v h)) (sym (put_slot_same vs m)) (λ l. refl)
list_drop_slot (suc n) rest t vs v h m lt =
    subst (λ x. Alike (drop_link (drop_value n k) s k x) (store_beside rest t (put_slot vs m (drop_rest (suc n) (slot_value vs m) h)) v (drop_objects (suc n) (slot_value vs m) h))) (sym (at_slot rest t vs v h m))
    (by (slot_value vs m) (λ o. list_drop_slot n rest t (put_slot vs m (or_gone (h o))) v (without_object h o) m (subst (λ x. m < x) (sym (length_put_slot vs m (or_gone (h o)))) lt)))
  where
    k : Key
    k = slot_k t m

    s : Store
    s = store_beside rest t vs v h

    by : (w : Val)
        → ((o : ObjNo) → Alike (drop_value n k (store_beside rest t (put_slot vs m (or_gone (h o))) v (without_object h o))) (store_beside rest t (put_slot (put_slot vs m (or_gone (h o))) m (drop_rest n (slot_value (put_slot vs m (or_gone (h o))) m) (without_object h o))) v (drop_objects n (slot_value (put_slot vs m (or_gone (h o))) m) (without_object h o))))
        → Alike (drop_link (drop_value n k) s k w) (store_beside rest t (put_slot vs m (drop_rest (suc n) w h)) v (drop_objects (suc n) w h))
    by (box_v o) g =
        let x = or_gone (h o) in
        let hw = without_object h o in
        let r = drop_rest n x hw in
        Alike-then (drop_value n k (unbox s k o)) (drop_value n k (store_beside rest t (put_slot vs m x) v hw)) (store_beside rest t (put_slot vs m r) v (drop_objects n x hw))
        (drop_alike n k (unbox s k o) (store_beside rest t (put_slot vs m x) v hw) (list_unbox_slot rest t vs v h m o lt))
        (subst (λ z. Alike (drop_value n k (store_beside rest t (put_slot vs m x) v hw)) (store_beside rest t z v (drop_objects n x hw))) (put_slot_twice vs m x r)
        (subst (λ z. Alike (drop_value n k (store_beside rest t (put_slot vs m x) v hw)) (store_beside rest t (put_slot (put_slot vs m x) m (drop_rest n z hw)) v (drop_objects n z hw))) (slot_put_same vs m x lt) (g o)))
    by gone_v g = list_put_slot rest t vs v h m gone_v lt
    by unit_v g = list_put_slot rest t vs v h m gone_v lt
    by (int_v z) g = list_put_slot rest t vs v h m gone_v lt
    by (mutex_v z r) g = list_put_slot rest t vs v h m gone_v lt
    by (task_v z u) g = list_put_slot rest t vs v h m gone_v lt
    by (ref_v z) g = list_put_slot rest t vs v h m gone_v lt

-- a block's end: the newest slot is dropped and goes
pub list_end : (n : ℕ) (rest : Key → Val) (t : ℕ) (w : Val) (vs : List Val) (v : Val) (h : Objects) → drop_rest n w h ≡ gone_v → Alike (drop_value n (slot_k t (length vs)) (store_beside rest t (w ∷ vs) v h)) (store_beside rest t vs v (drop_objects n w h))
list_end n rest t w vs v h ends =
    Alike-then (drop_value n (slot_k t (length vs)) (store_beside rest t (w ∷ vs) v h)) (store_beside rest t (gone_v ∷ vs) v (drop_objects n w h)) (store_beside rest t vs v (drop_objects n w h))
    (subst (λ x. Alike (drop_value n (slot_k t (length vs)) (store_beside rest t (w ∷ vs) v h)) (store_beside rest t (x ∷ vs) v (drop_objects n w h))) ends
    (subst (λ x. Alike (drop_value n (slot_k t (length vs)) (store_beside rest t (w ∷ vs) v h)) (store_beside rest t x v (drop_objects n w h))) (newest (drop_rest n w h))
    (subst (λ x. Alike (drop_value n (slot_k t (length vs)) (store_beside rest t (w ∷ vs) v h)) (store_beside rest t (put_slot (w ∷ vs) (length vs) (drop_rest n x h)) v (drop_objects n x h))) value (list_drop_slot n rest t (w ∷ vs) v h (length vs) (omega arith)))))
    (list_pop rest t vs v (drop_objects n w h))
  where
    value : slot_value (w ∷ vs) (length vs) ≡ w
    value = eq_cases (λ b. (if b then w else slot_value vs (length vs)) ≡ w) (length vs) (length vs) (λ _. refl) (λ ne. absurd (ne refl))

    newest : (x : Val) → put_slot (w ∷ vs) (length vs) x ≡ x ∷ vs
    newest x = eq_cases (λ b. (if b then x ∷ vs else w ∷ put_slot vs (length vs) x) ≡ x ∷ vs) (length vs) (length vs) (λ _. refl) (λ ne. absurd (ne refl))
