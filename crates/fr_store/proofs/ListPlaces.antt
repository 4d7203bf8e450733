-- Where places of a list of slots lead, and what a change there makes of the list.
use Rattle.std.proofs.Common.{◌≡◌, ◌≢◌, ◌⊎◌, inl, inr, ℕ, zero, suc, ◌<◌, ◌≤◌, Bool, false, List, [], ◌∷◌, length, Option, Some, None, refl, sym, ap, subst, ◌∙◌, arith}
use Rattle.std.specs.Prelude.{if◌then◌else◌}
use Rattle.fr_base.specs.declared.place.Lval.{Lval}
use Rattle.fr_typing.specs.Kinds.{Owned, unit, int, box, mutex, task, own, shared, mutable, view, Kind, Piece, whole, gone, boxed}
use Rattle.fr_typing.specs.Places.{Slot, type_at, found, piece_places, AreBelow, IsNested}
use Rattle.fr_store.specs.Keys.{Key, slot_k, temp_k, content_k, result_k, hand_k}
use Rattle.fr_store.specs.Store.{Location, at_key, at_object, Val, gone_v, unit_v, ref_v, Store, value_at, Alike, Place, locate, below_key, put_value, or_gone, swap, add}
use Rattle.fr_store.specs.Typed.{Tree, hole, unit_tree, int_tree, mutex_tree, task_tree, box_tree, Exact, owns, refers, KeyTypes, exact_under, Resolves, here, through, TopFits, Typed}
use Rattle.fr_store.specs.Below.{tree_of, Seen, RefOf, ExactOf, SlotsBelow}
use Rattle.fr_store.specs.Local.{thread_of, IsOwnPlace, IsLocal}
use Rattle.fr_store.specs.Thread.{place_of, TempIs, temp_places, ThreadTyped}
use Rattle.fr_store.specs.ListState.{Objects, slot_value, put_slot, store_beside, store_of, IsIn, put_in_slots, put_in_heap}
use Rattle.fr_store.proofs.Chains.{from_suc}
use Rattle.fr_store.proofs.Sound.{ref_at, res_part}
use Rattle.fr_store.proofs.Rows.{found_place, top_fits}
use Rattle.fr_store.proofs.Below.{mut_place, resolved}
use Rattle.fr_store.proofs.ThreadKept.{one_low, ref_base, no_temp}
use Rattle.fr_store.proofs.Keys.{decide_key}
use Rattle.fr_store.proofs.ListState.{at_slot, list_put_slot, list_put_object, list_swap_slot, list_swap_object}
use Rattle.fr_typing.proofs.PlaceLemmas.{eq_cases}

-- a location of the thread gets another value
pub list_put : (rest : Key → Val) (t : ℕ) (vs : List Val) (v : Val) (h : Objects) (l : Location) (w : Val) → IsIn t vs l → Alike (put_value (store_beside rest t vs v h) l w) (store_beside rest t (put_in_slots l w vs) v (put_in_heap l w h))
list_put rest t vs v h (at_object o) w i = list_put_object rest t vs v h o w
list_put rest t vs v h (at_key (slot_k u n)) w i = subst (λ x. Alike (put_value (store_beside rest t vs v h) (at_key (slot_k x n)) w) (store_beside rest t (put_slot vs n w) v h)) (sym i.0) (list_put_slot rest t vs v h n w i.1)
list_put rest t vs v h (at_key (temp_k u n)) w i = absurd i
list_put rest t vs v h (at_key (content_k u n)) w i = absurd i
list_put rest t vs v h (at_key (result_k u)) w i = absurd i
list_put rest t vs v h (at_key (hand_k u)) w i = absurd i

-- the value in the term and that of a location of the thread change places
pub list_swap : (rest : Key → Val) (t : ℕ) (vs : List Val) (v : Val) (h : Objects) (l : Location) (w : Val) → IsIn t vs l → value_at (store_beside rest t vs v h) l ≡ Some w → Alike (swap (store_beside rest t vs v h) (hand_k t) l) (store_beside rest t (put_in_slots l v vs) w (put_in_heap l v h))
list_swap rest t vs v h (at_object o) w i e = subst (λ x. Alike (swap (store_beside rest t vs v h) (hand_k t) (at_object o)) (store_beside rest t vs x (put_in_heap (at_object o) v h))) (ap or_gone e) (list_swap_object rest t vs v h o)
list_swap rest t vs v h (at_key (slot_k u n)) w i e =
    subst (λ x. Alike (swap (store_beside rest t vs v h) (hand_k t) (at_key (slot_k x n))) (store_beside rest t (put_slot vs n v) w h)) (sym i.0)
    (subst (λ x. Alike (swap (store_beside rest t vs v h) (hand_k t) (at_key (slot_k t n))) (store_beside rest t (put_slot vs n v) x h)) (value (subst (λ x. value_at (store_beside rest t vs v h) (at_key (slot_k x n)) ≡ Some w) i.0 e)) (list_swap_slot rest t vs v h n i.1))
  where
    value : value_at (store_beside rest t vs v h) (at_key (slot_k t n)) ≡ Some w → slot_value vs n ≡ w
    value f = let g : Some (slot_value vs n) ≡ Some w = ap Some (sym (at_slot rest t vs v h n)) ∙ f in cc
list_swap rest t vs v h (at_key (temp_k u n)) w i e = absurd i
list_swap rest t vs v h (at_key (content_k u n)) w i e = absurd i
list_swap rest t vs v h (at_key (result_k u)) w i e = absurd i
list_swap rest t vs v h (at_key (hand_k u)) w i e = absurd i

-- WHERE A PLACE LEADS

-- a key at which nothing stands owns a hole
pub gone_is_hole : (rank : Key → ℕ) (E : KeyTypes) (s : Store) (k : Key) → Typed rank E s → s.at k ≡ gone_v → E k ≡ owns hole
gone_is_hole rank E s k ty is = by (E k) refl
  where
    by_tree : (t : Tree) → TopFits t (s.at k) → t ≡ hole
    by_tree hole f = refl
    by_tree unit_tree f = let g : gone_v ≡ unit_v = sym is ∙ f in absurd cc
    by_tree int_tree f = let g = sym is ∙ f.1 in absurd cc
    by_tree (mutex_tree t) f = let g = sym is ∙ f.1 in absurd cc
    by_tree (task_tree t) f = let g = sym is ∙ f.1 in absurd cc
    by_tree (box_tree t) f = let g = sym is ∙ f.1 in absurd cc

    by : (p : Exact) → E k ≡ p → E k ≡ owns hole
    by (owns t) e = e ∙ ap owns (by_tree t (top_fits rank E s ty k t e))
    by (refers m u) e = let r = ref_at rank E s ty k m u e in let g : gone_v ≡ ref_v r.target = sym is ∙ r.is in absurd cc

-- a key is that of a slot that is there
abbrev pub IsSlot : ℕ → ℕ → Key → Type 0
IsSlot t n k = (x : ℕ) × (x < n) × (k ≡ slot_k t x)

-- a type's tree is no hole
not_hole_tree : (o : Owned) → hole ≡ tree_of o → ⊥
not_hole_tree unit e = cc
not_hole_tree int e = cc
not_hole_tree (box o) e = cc
not_hole_tree (mutex o) e = cc
not_hole_tree (task o) e = cc

-- nothing whole is found at a hole
no_res : (E : KeyTypes) (o : Owned) (only : Bool) (k : Key) (d : ℕ) (b : Key) (n : ℕ) (p : Exact) → Resolves E only k d b n p → E k ≡ owns hole → p ≡ owns (tree_of o) → ⊥
no_res E o only k d _ _ p (here {n = n} e) is f = by n (ap (exact_under n) (sym is) ∙ e ∙ ap Some f)
  where
    by : (n : ℕ) → exact_under n (owns hole) ≡ Some (owns (tree_of o)) → ⊥
    by zero g = let z : hole ≡ tree_of o = cc in not_hole_tree o z
    by (suc n) g = cc
no_res E o only k d b n p (through m u x js ok de r) is f = let g : owns hole ≡ refers m u = sym is ∙ js in cc

-- a reference of a part names a slot, or is a view
ref_names : (key : ℕ → Key) (E : KeyTypes) (q : Piece) (m : Bool) (u : Place) (n : ℕ) → AreBelow n (piece_places q) → RefOf key E q m u → ((y : ℕ) × (y < n) × (u.key ≡ key y)) ⊎ ((o : Owned) × Seen key E o u)
ref_names key E (whole (own o)) m u n low f = absurd f
ref_names key E (whole (shared us)) m u n low f = inl (one_low key us u n low f.1)
ref_names key E (whole (mutable us)) m u n low f = inl (one_low key us u n low f.1)
ref_names key E (whole (view o)) m u n low f = inr (o, f.1)
ref_names key E (gone k) m u n low f = absurd f
ref_names key E (boxed p) m u n low f = absurd f

-- a slot's reference names a slot, or is a view
slot_names : (key : ℕ → Key) (E : KeyTypes) (e : List Slot) (x : ℕ) (m : Bool) (u : Place) → SlotsBelow key E e → IsNested e → x < length e → E (key x) ≡ refers m u → ((y : ℕ) × (y < length e) × (u.key ≡ key y)) ⊎ ((o : Owned) × Seen key E o u)
slot_names key E [] x m u f nest lt is = absurd (omega arith)
slot_names key E (s ∷ e) x m u f nest lt is =
    eq_cases (λ _. ((y : ℕ) × (y < suc (length e)) × (u.key ≡ key y)) ⊎ ((o : Owned) × Seen key E o u)) x (length e)
    (λ same. wider (ref_names key E s.part m u (length e) nest.0 (subst (ExactOf key E s.part) (ap (λ z. E (key z)) (sym same) ∙ is) f.0)))
    (λ ne. wider (slot_names key E e x m u f.1 nest.1 (omega arith) is))
  where
    wider : ((y : ℕ) × (y < length e) × (u.key ≡ key y)) ⊎ ((o : Owned) × Seen key E o u) → ((y : ℕ) × (y < suc (length e)) × (u.key ≡ key y)) ⊎ ((o : Owned) × Seen key E o u)
    wider (inl z) = let less = z.1 in inl (z.0, omega arith, z.2)
    wider (inr z) = inr z

module _ (rest : Key → Val) (t : ℕ) (rank : Key → ℕ) (slots : List Slot) (E : KeyTypes) (vs : List Val) (v : Val) (h : Objects) (temp : Option Kind)
    (own : IsLocal E) (th : ThreadTyped (slot_k t) rank (hand_k t) slots E (store_beside rest t vs v h) temp) where
  -- what a key of the thread refers to is no other thread's
  not_foreign : (k : Key) (m : Bool) (u : Place) → thread_of k ≡ Some t → E k ≡ refers m u → ((x : ℕ) → u.key ≢ slot_k t x) → ⊥
  not_foreign k m u mine is far = let p = own k m u is in let same : p.thread ≡ t = some_number (sym p.of ∙ mine) in far p.slot (p.is ∙ ap (λ z. slot_k z p.slot) same)
    where
      some_number : {a b : ℕ} → Some a ≡ Some b → a ≡ b
      some_number e = cc

  -- a slot's reference is to a slot: there are no views where threads share nothing
  named_slot : (x : ℕ) (m : Bool) (u : Place) → x < length slots → E (slot_k t x) ≡ refers m u → IsSlot t (length slots) u.key
  named_slot x m u lt is = by (slot_names (slot_k t) E slots x m u th.slots th.nested lt is)
    where
      by : ((y : ℕ) × (y < length slots) × (u.key ≡ slot_k t y)) ⊎ ((o : Owned) × Seen (slot_k t) E o u) → IsSlot t (length slots) u.key
      by (inl z) = z
      by (inr z) = let c : Seen (slot_k t) E z.0 u = z.1 in absurd (not_foreign (slot_k t x) m u refl is c.foreign)

  -- so places of slots lead to slots, and to what is below their boxes
  slot_base : (only : Bool) (k : Key) (d : ℕ) (b : Key) (n : ℕ) (p : Exact) → Resolves E only k d b n p → IsSlot t (length slots) k → IsSlot t (length slots) b
  slot_base only k d b n p (here e) i = i
  slot_base only k d b n p (through m u x is ok de r) i = slot_base only u.key (add u.depth x) b n p r (named_slot i.0 m u i.1 (ap E (sym i.2) ∙ is))

  -- a place of the thread leads to a location of it
  pub place_in : (w : Lval) (q : Piece) (l : Location) → length vs ≡ length slots → w.slot < length slots → type_at slots w ≡ found q → locate (store_beside rest t vs v h) (place_of (slot_k t) w) ≡ Some l → IsIn t vs l × ((c : Val) × (value_at (store_beside rest t vs v h) l ≡ Some c))
  place_in w q l long lt is at =
      let s = store_beside rest t vs v h in
      let r = resolved (slot_k t) E (mut_place rank E s th.typed) slots th.nested th.slots w q lt is in
      let f = found_place rank E s false (place_of (slot_k t) w) r.base r.boxes r.type th.typed r.res in
      let same : f.loc ≡ l = let g : Some f.loc ≡ Some l = sym f.at ∙ at in cc in
      let b = slot_base false (slot_k t w.slot) w.depth r.base r.boxes r.type r.res (w.slot, lt, refl) in
      subst (λ x. IsIn t vs x × ((c : Val) × (value_at s x ≡ Some c))) same (by r.boxes r.base f.loc b f.chain, (f.value, f.there))
    where
      by : (n : ℕ) (b : Key) (l : Location) → IsSlot t (length slots) b → below_key (store_beside rest t vs v h) b n ≡ Some l → IsIn t vs l
      by zero b l i e = let g : at_key b ≡ l = cc in subst (IsIn t vs) (ap at_key (sym i.2) ∙ g) (refl, subst (λ n. i.0 < n) (sym long) i.1)
      by (suc n) b l i e = let x = from_suc (store_beside rest t vs v h) (at_key b) l n e in subst (IsIn t vs) (sym x.4) tt

  -- and no view is at hand
  pub no_view : (o : Owned) → ExactOf (slot_k t) E (whole (view o)) (E (hand_k t)) → ⊥
  no_view o f = by (E (hand_k t)) refl f
    where
      by : (p : Exact) → E (hand_k t) ≡ p → ExactOf (slot_k t) E (whole (view o)) p → ⊥
      by (owns x) is f = f
      by (refers m u) is f = let c : Seen (slot_k t) E o u = f.1 in not_foreign (hand_k t) m u refl is c.foreign

  -- nor at a place of a slot
  pub no_view_at : (w : Lval) (o : Owned) → w.slot < length slots → type_at slots w ≡ found (whole (view o)) → ⊥
  no_view_at w o lt is =
      let r = resolved (slot_k t) E (mut_place rank E (store_beside rest t vs v h) th.typed) slots th.nested th.slots w (whole (view o)) lt is in
      let i = slot_base false (slot_k t w.slot) w.depth r.base r.boxes r.type r.res (w.slot, lt, refl) in
      by r.base r.boxes r.type (ap thread_of i.2) (res_part E false (slot_k t w.slot) w.depth r.base r.boxes r.type r.res) r.exact
    where
      by : (b : Key) (n : ℕ) (p : Exact) → thread_of b ≡ Some t → exact_under n (E b) ≡ Some p → ExactOf (slot_k t) E (whole (view o)) p → ⊥
      by b n (owns x) mine e f = f
      by b n (refers m u) mine e f = let c : Seen (slot_k t) E o u = f.1 in not_foreign b m u mine (ref_base n (E b) m u e) c.foreign

-- a thread that runs alone shares nothing
module _ (t : ℕ) (rank : Key → ℕ) (slots : List Slot) (E : KeyTypes) (vs : List Val) (v : Val) (h : Objects) (temp : Option Kind)
    (th : ThreadTyped (slot_k t) rank (hand_k t) slots E (store_of t vs v h) temp) where
  -- only the thread's slots and the hand are in use
  elsewhere : (k : Key) → ((x : ℕ) → k ≢ slot_k t x) → k ≢ hand_k t → E k ≡ owns hole
  elsewhere k far off = gone_is_hole rank E (store_of t vs v h) k th.typed (by k far off)
    where
      by : (k : Key) → ((x : ℕ) → k ≢ slot_k t x) → k ≢ hand_k t → (store_of t vs v h).at k ≡ gone_v
      by (slot_k u n) far off = eq_cases (λ b. (if b then slot_value vs n else gone_v) ≡ gone_v) u t (λ e. absurd (far n (ap (λ x. slot_k x n) e))) (λ _. refl)
      by (temp_k u n) far off = refl
      by (content_k u n) far off = refl
      by (result_k u) far off = refl
      by (hand_k u) far off = eq_cases (λ b. (if b then v else gone_v) ≡ gone_v) u t (λ e. absurd (off (ap hand_k e))) (λ _. refl)

  -- a reference is to a slot
  own_place : (k : Key) (m : Bool) (u : Place) → thread_of k ≡ Some t → E k ≡ refers m u → ((y : ℕ) × (y < length slots) × (u.key ≡ slot_k t y)) ⊎ ((o : Owned) × Seen (slot_k t) E o u) → IsOwnPlace k u
  own_place k m u mine is (inl z) = record { thread = t; slot = z.0; of = mine; is = z.2 }
  own_place k m u mine is (inr z) = let c : Seen (slot_k t) E z.0 u = z.1 in absurd (no_res E z.0 false u.key u.depth c.base c.boxes (owns (tree_of z.0)) c.res (elsewhere u.key c.foreign (th.quiet k m u is)) refl)

  -- a slot in use is there
  slot_in_use : (x : ℕ) (m : Bool) (u : Place) → E (slot_k t x) ≡ refers m u → x < length slots
  slot_in_use x m u is = by (low_or_high (length slots) x)
    where
      low_or_high : (a b : ℕ) → (a ≤ b) ⊎ (b < a)
      low_or_high zero b = inl (omega arith)
      low_or_high (suc a) zero = inr (omega arith)
      low_or_high (suc a) (suc b) = next (low_or_high a b)
        where
          next : (a ≤ b) ⊎ (b < a) → (suc a ≤ suc b) ⊎ (suc b < suc a)
          next (inl le) = inl (omega arith)
          next (inr lt) = inr (omega arith)

      by : (length slots ≤ x) ⊎ (x < length slots) → x < length slots
      by (inl le) = absurd (no_temp E (slot_k t x) m u (th.above x le) is)
      by (inr lt) = lt

  -- all its references are to its slots
  pub alone_local : IsLocal E
  alone_local k m u is = by (decide_key k (hand_k t))
    where
      at_hand_k : (o : Option Kind) → AreBelow (length slots) (temp_places o) → TempIs (slot_k t) E (hand_k t) o → E (hand_k t) ≡ refers m u → ((y : ℕ) × (y < length slots) × (u.key ≡ slot_k t y)) ⊎ ((o : Owned) × Seen (slot_k t) E o u)
      at_hand_k None low f e = absurd (no_temp E (hand_k t) m u f e)
      at_hand_k (Some q) low f e = ref_names (slot_k t) E (whole q) m u (length slots) low (subst (ExactOf (slot_k t) E (whole q)) e f)

      by_key : (k : Key) → k ≢ hand_k t → E k ≡ refers m u → IsOwnPlace k u
      by_key (slot_k x n) ne e = eq_cases (λ _. IsOwnPlace (slot_k x n) u) x t here away
        where
          here : x ≡ t → IsOwnPlace (slot_k x n) u
          here same =
              let e2 : E (slot_k t n) ≡ refers m u = ap (λ z. E (slot_k z n)) (sym same) ∙ e in
              own_place (slot_k x n) m u (ap Some same) e (slot_names (slot_k t) E slots n m u th.slots th.nested (slot_in_use n m u e2) e2)

          away : x ≢ t → IsOwnPlace (slot_k x n) u
          away off = absurd (no_temp E (slot_k x n) m u (elsewhere (slot_k x n) (λ y f. off cc) ne) e)
      by_key (temp_k x n) ne e = absurd (no_temp E (temp_k x n) m u (elsewhere (temp_k x n) (λ y f. cc) ne) e)
      by_key (content_k x n) ne e = absurd (no_temp E (content_k x n) m u (elsewhere (content_k x n) (λ y f. cc) ne) e)
      by_key (result_k x) ne e = absurd (no_temp E (result_k x) m u (elsewhere (result_k x) (λ y f. cc) ne) e)
      by_key (hand_k x) ne e = absurd (no_temp E (hand_k x) m u (elsewhere (hand_k x) (λ y f. cc) ne) e)

      by : (k ≡ hand_k t) ⊎ (k ≢ hand_k t) → IsOwnPlace k u
      by (inl same) = own_place k m u (ap thread_of same) is (at_hand_k temp th.names th.temp (ap E (sym same) ∙ is))
      by (inr ne) = by_key k ne is
