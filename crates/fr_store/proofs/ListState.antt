-- What the store of a list of slots becomes under each change.
use Rattle.std.proofs.Common.{◌≡◌, ℕ, suc, ◌<◌, ◌≤◌, Bool, true, false, List, [], ◌∷◌, length, Some, None, refl, sym, ap, subst, ◌∙◌, arith}
use Rattle.std.specs.Prelude.{◌==◌, ◌&&◌, if◌then◌else◌}
use Rattle.fr_base.specs.declared.name.ObjNo.{ObjNo}
use Rattle.fr_store.specs.Keys.{Key, slot_k, temp_k, content_k, result_k, hand_k, same_key, same_object}
use Rattle.fr_store.specs.Store.{Alike, Location, at_key, at_object, Val, gone_v, box_v, Store, value_at, put_value, or_gone, swap, unbox, make}
use Rattle.fr_store.specs.ListState.{Objects, slot_value, put_slot, store_beside, store_of, put_object, without_object}
use Rattle.fr_typing.proofs.PlaceLemmas.{eq_cases}

-- a slot that isn't there has nothing
pub slot_above : (vs : List Val) (n : ℕ) → length vs ≤ n → slot_value vs n ≡ gone_v
slot_above [] n le = refl
slot_above (v ∷ vs) n le = eq_cases (λ b. (if b then v else slot_value vs n) ≡ gone_v) n (length vs) (λ e. absurd (omega arith)) (λ _. slot_above vs n (omega arith))

-- a write changes no number of slots
pub length_put_slot : (vs : List Val) (m : ℕ) (w : Val) → length (put_slot vs m w) ≡ length vs
length_put_slot [] m w = refl
length_put_slot (v ∷ vs) m w = eq_cases (λ b. length (if b then w ∷ vs else v ∷ put_slot vs m w) ≡ suc (length vs)) m (length vs) (λ _. refl) (λ _. ap suc (length_put_slot vs m w))

-- a changed slot has its new value, and each other slot what it had
pub slot_put : (vs : List Val) (m n : ℕ) (w : Val) → m < length vs → slot_value (put_slot vs m w) n ≡ (if n == m then w else slot_value vs n)
slot_put [] m n w lt = absurd (omega arith)
slot_put (v ∷ vs) m n w lt =
    eq_cases (λ b. slot_value (if b then w ∷ vs else v ∷ put_slot vs m w) n ≡ (if n == m then w else (if n == length vs then v else slot_value vs n))) m (length vs)
    (λ e. subst (λ k. (if n == k then w else slot_value vs n) ≡ (if n == m then w else (if n == k then v else slot_value vs n))) e (same (n == m)))
    (λ ne. ap (λ k. if n == k then v else slot_value (put_slot vs m w) n) (length_put_slot vs m w)
    ∙ eq_cases (λ b. (if b then v else slot_value (put_slot vs m w) n) ≡ (if n == m then w else (if b then v else slot_value vs n))) n (length vs)
    (λ e. eq_cases (λ b. v ≡ (if b then w else v)) n m (λ f. absurd (ne (sym f ∙ e))) (λ _. refl))
    (λ _. slot_put vs m n w (omega arith)))
  where
    same : (b : Bool) → (if b then w else slot_value vs n) ≡ (if b then w else (if b then v else slot_value vs n))
    same true = refl
    same false = refl

-- tests of two numbers, one in the other
pub nested_test : {A : Type 0} (a b : Bool) (x y z : A) → (if a then (if b then x else y) else z) ≡ (if a && b then x else (if a then y else z))
nested_test true true x y z = refl
nested_test true false x y z = refl
nested_test false b x y z = refl

-- of two writes the second one counts
twice_test : {A : Type 0} (b : Bool) (w v z : A) → (if b then w else z) ≡ (if b then w else (if b then v else z))
twice_test true w v z = refl
twice_test false w v z = refl

-- a number is itself
same_if : {A : Type 0} (t : ℕ) (x y : A) → (if t == t then x else y) ≡ x
same_if t x y = eq_cases (λ b. (if b then x else y) ≡ x) t t (λ _. refl) (λ ne. absurd (ne refl))

-- stores that are alike to one store are alike
pub Alike-then : (a b c : Store) → Alike a b → Alike b c → Alike a c
Alike-then a b c f g l = g l ∙ f l

-- equal options have equal values
pub Some-value : (a b : Val) → Some a ≡ Some b → a ≡ b
Some-value a b e = cc

-- a write sees only what stands at each location
pub put_alike : (s s2 : Store) (k : Key) (v : Val) → Alike s s2 → Alike (put_value s (at_key k) v) (put_value s2 (at_key k) v)
put_alike s s2 k v f (at_key j) = ap Some (ap (λ x. if same_key j k then v else x) (Some-value (s2.at j) (s.at j) (f (at_key j))))
put_alike s s2 k v f (at_object q) = f (at_object q)

module _ (rest : Key → Val) (t : ℕ) where
  -- what stands at the hand
  pub at_hand : (vs : List Val) (v : Val) (h : Objects) → (store_beside rest t vs v h).at (hand_k t) ≡ v
  at_hand vs v h = same_if t v (rest (hand_k t))

  -- what stands at a slot's key
  pub at_slot : (vs : List Val) (v : Val) (h : Objects) (m : ℕ) → (store_beside rest t vs v h).at (slot_k t m) ≡ slot_value vs m
  at_slot vs v h m = same_if t (slot_value vs m) (rest (slot_k t m))

  -- a slot gets another value
  pub list_put_slot : (vs : List Val) (v : Val) (h : Objects) (m : ℕ) (w : Val) → m < length vs → Alike (put_value (store_beside rest t vs v h) (at_key (slot_k t m)) w) (store_beside rest t (put_slot vs m w) v h)
  list_put_slot vs v h m w lt (at_object q) = refl
  list_put_slot vs v h m w lt (at_key (slot_k u n)) =
      ap Some (ap (λ x. if u == t then x else rest (slot_k u n)) (slot_put vs m n w lt) ∙ nested_test (u == t) (n == m) w (slot_value vs n) (rest (slot_k u n)))
  list_put_slot vs v h m w lt (at_key (temp_k u n)) = refl
  list_put_slot vs v h m w lt (at_key (content_k u n)) = refl
  list_put_slot vs v h m w lt (at_key (result_k u)) = refl
  list_put_slot vs v h m w lt (at_key (hand_k u)) = refl

  -- the value in the term is another one
  pub list_put_hand : (vs : List Val) (v : Val) (h : Objects) (w : Val) → Alike (put_value (store_beside rest t vs v h) (at_key (hand_k t)) w) (store_beside rest t vs w h)
  list_put_hand vs v h w (at_object q) = refl
  list_put_hand vs v h w (at_key (slot_k u n)) = refl
  list_put_hand vs v h w (at_key (temp_k u n)) = refl
  list_put_hand vs v h w (at_key (content_k u n)) = refl
  list_put_hand vs v h w (at_key (result_k u)) = refl
  list_put_hand vs v h w (at_key (hand_k u)) = ap Some (twice_test (u == t) w v (rest (hand_k u)))

  -- an object gets another value
  pub list_put_object : (vs : List Val) (v : Val) (h : Objects) (o : ObjNo) (w : Val) → Alike (put_value (store_beside rest t vs v h) (at_object o) w) (store_beside rest t vs v (put_object h o w))
  list_put_object vs v h o w (at_key k) = refl
  list_put_object vs v h o w (at_object q) = refl

  -- the value in the term and another one change places
  swapped : (vs : List Val) (v : Val) (h : Objects) (l : Location) (w : Val) (vs2 : List Val) (h2 : Objects) → or_gone (value_at (store_beside rest t vs v h) l) ≡ w → Alike (put_value (store_beside rest t vs v h) l v) (store_beside rest t vs2 v h2)
      → Alike (swap (store_beside rest t vs v h) (hand_k t) l) (store_beside rest t vs2 w h2)
  swapped vs v h l w vs2 h2 there put =
      let s = store_beside rest t vs v h in
      let k = hand_k t in
      subst (λ x. Alike (put_value (put_value s l x) (at_key k) (or_gone (value_at s l))) (store_beside rest t vs2 w h2)) (sym (at_hand vs v h))
      (subst (λ x. Alike (put_value (put_value s l v) (at_key k) x) (store_beside rest t vs2 w h2)) (sym there)
      (Alike-then (put_value (put_value s l v) (at_key k) w) (put_value (store_beside rest t vs2 v h2) (at_key k) w) (store_beside rest t vs2 w h2)
      (put_alike (put_value s l v) (store_beside rest t vs2 v h2) k w put) (list_put_hand vs2 v h2 w)))

  -- `let`: the value in the term goes to a new slot
  pub list_push : (vs : List Val) (v : Val) (h : Objects) → Alike (swap (store_beside rest t vs v h) (hand_k t) (at_key (slot_k t (length vs)))) (store_beside rest t (v ∷ vs) gone_v h)
  list_push vs v h = swapped vs v h (at_key (slot_k t (length vs))) gone_v (v ∷ vs) h (at_slot vs v h (length vs) ∙ slot_above vs (length vs) (omega arith)) pushed
    where
      pushed : Alike (put_value (store_beside rest t vs v h) (at_key (slot_k t (length vs))) v) (store_beside rest t (v ∷ vs) v h)
      pushed (at_object q) = refl
      pushed (at_key (slot_k u n)) = ap Some (nested_test (u == t) (n == length vs) v (slot_value vs n) (rest (slot_k u n)))
      pushed (at_key (temp_k u n)) = refl
      pushed (at_key (content_k u n)) = refl
      pushed (at_key (result_k u)) = refl
      pushed (at_key (hand_k u)) = refl

  -- the value in the term and that of a slot change places
  pub list_swap_slot : (vs : List Val) (v : Val) (h : Objects) (m : ℕ) → m < length vs → Alike (swap (store_beside rest t vs v h) (hand_k t) (at_key (slot_k t m))) (store_beside rest t (put_slot vs m v) (slot_value vs m) h)
  list_swap_slot vs v h m lt = swapped vs v h (at_key (slot_k t m)) (slot_value vs m) (put_slot vs m v) h (at_slot vs v h m) (list_put_slot vs v h m v lt)

  -- the value in the term and that of an object change places
  pub list_swap_object : (vs : List Val) (v : Val) (h : Objects) (o : ObjNo) → Alike (swap (store_beside rest t vs v h) (hand_k t) (at_object o)) (store_beside rest t vs (or_gone (h o)) (put_object h o v))
  list_swap_object vs v h o = swapped vs v h (at_object o) (or_gone (h o)) vs (put_object h o v) refl (list_put_object vs v h o v)

  -- a new object takes the value in the term
  pub list_make : (vs : List Val) (v : Val) (h : Objects) (o : ObjNo) → Alike (make (store_beside rest t vs v h) (hand_k t) o) (store_beside rest t vs (box_v o) (put_object h o v))
  list_make vs v h o (at_object q) = ap (λ x. if same_object q o then Some x else h q) (sym (at_hand vs v h))
  list_make vs v h o (at_key (slot_k u n)) = refl
  list_make vs v h o (at_key (temp_k u n)) = refl
  list_make vs v h o (at_key (content_k u n)) = refl
  list_make vs v h o (at_key (result_k u)) = refl
  list_make vs v h o (at_key (hand_k u)) = ap Some (twice_test (u == t) (box_v o) v (rest (hand_k u)))

  -- one link of a drop, in the term and in a slot
  pub list_unbox : (vs : List Val) (v : Val) (h : Objects) (o : ObjNo) → Alike (unbox (store_beside rest t vs v h) (hand_k t) o) (store_beside rest t vs (or_gone (h o)) (without_object h o))
  list_unbox vs v h o (at_object q) = refl
  list_unbox vs v h o (at_key (slot_k u n)) = refl
  list_unbox vs v h o (at_key (temp_k u n)) = refl
  list_unbox vs v h o (at_key (content_k u n)) = refl
  list_unbox vs v h o (at_key (result_k u)) = refl
  list_unbox vs v h o (at_key (hand_k u)) = ap Some (twice_test (u == t) (or_gone (h o)) v (rest (hand_k u)))

  -- one link of a drop in a slot
  pub list_unbox_slot : (vs : List Val) (v : Val) (h : Objects) (m : ℕ) (o : ObjNo) → m < length vs → Alike (unbox (store_beside rest t vs v h) (slot_k t m) o) (store_beside rest t (put_slot vs m (or_gone (h o))) v (without_object h o))
  list_unbox_slot vs v h m o lt (at_object q) = refl
  list_unbox_slot vs v h m o lt (at_key (slot_k u n)) =
      ap Some (ap (λ x. if u == t then x else rest (slot_k u n)) (slot_put vs m n (or_gone (h o)) lt) ∙ nested_test (u == t) (n == m) (or_gone (h o)) (slot_value vs n) (rest (slot_k u n)))
  list_unbox_slot vs v h m o lt (at_key (temp_k u n)) = refl
  list_unbox_slot vs v h m o lt (at_key (content_k u n)) = refl
  list_unbox_slot vs v h m o lt (at_key (result_k u)) = refl
  list_unbox_slot vs v h m o lt (at_key (hand_k u)) = refl

  -- nothing stands in a slot that has ended
  pub list_pop : (vs : List Val) (v : Val) (h : Objects) → Alike (store_beside rest t (gone_v ∷ vs) v h) (store_beside rest t vs v h)
  list_pop vs v h (at_object q) = refl
  list_pop vs v h (at_key (slot_k u n)) =
      ap Some (ap (λ x. if u == t then x else rest (slot_k u n)) (eq_cases (λ b. slot_value vs n ≡ (if b then gone_v else slot_value vs n)) n (length vs) (λ e. slot_above vs n (omega arith)) (λ _. refl)))
  list_pop vs v h (at_key (temp_k u n)) = refl
  list_pop vs v h (at_key (content_k u n)) = refl
  list_pop vs v h (at_key (result_k u)) = refl
  list_pop vs v h (at_key (hand_k u)) = refl

-- the start
pub list_start : (t : ℕ) → Alike (record { at = λ _. gone_v; heap = λ _. None }) (store_of t [] gone_v (λ _. None))
list_start t (at_object q) = refl
list_start t (at_key (slot_k u n)) = ap Some (eq_cases (λ b. (if b then gone_v else gone_v) ≡ gone_v) u t (λ _. refl) (λ _. refl))
list_start t (at_key (temp_k u n)) = refl
list_start t (at_key (content_k u n)) = refl
list_start t (at_key (result_k u)) = refl
list_start t (at_key (hand_k u)) = ap Some (eq_cases (λ b. (if b then gone_v else gone_v) ≡ gone_v) u t (λ _. refl) (λ _. refl))
