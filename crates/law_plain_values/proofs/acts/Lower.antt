-- A reference kept in a slot leads to a lower slot or to an object that a lower slot reaches: it follows from the types.
use Rattle.std.proofs.Common.{◌≡◌, ◌≢◌, ◌⊎◌, inl, inr, ◌∙◌, ℕ, zero, suc, ◌<◌, ◌≤◌, Bool, true, false, List, [], ◌∷◌, length, Option, Some, None, refl, sym, ap, subst, arith}
use Rattle.std.specs.Prelude.{if◌then◌else◌}
use Rattle.fr_base.specs.declared.label.Plain.{Plain}
use Rattle.fr_base.specs.declared.label.Plain.TheVariants as plain
use Rattle.fr_base.specs.declared.name.ObjNo.{ObjNo}
use Rattle.fr_base.specs.declared.name.MutexNo.{MutexNo}
use Rattle.fr_typing.proofs.PlaceLemmas.{eq_cases}
use Rattle.fr_typing.specs.Kinds.{Owned, own, shared, mutable, view, Piece, whole, gone, boxed}
use Rattle.fr_typing.specs.Places.{Slot, Env, IsNested, AreBelow, piece_places}
use Rattle.fr_store.specs.Keys.{Key, slot_k}
use Rattle.fr_store.specs.Store.{Location, at_key, at_object, Val, ref_v, Store, Place, below_location, below_key, add, gone_v}
use Rattle.fr_store.specs.Typed.{Tree, Exact, owns, refers, KeyTypes, exact_under, Resolves, here, through, RefFits, Typed, Unnamed, hole}
use Rattle.fr_store.specs.Below.{tree_of, OneOf, Seen, RefOf, ExactOf, SlotsBelow}
use Rattle.fr_store.proofs.Keys.{decide_number}
use Rattle.fr_store.proofs.Below.{below_in, res_once}
use Rattle.fr_store.proofs.Chains.{from_suc, from_add, add_comm}
use Rattle.fr_store.proofs.Sound.{ref_at}
use Rattle.fr_store.proofs.ThreadKept.{shared_found, ref_found}
use Rattle.fr_plain.specs.declared.value.Value.{Value}
use Rattle.fr_plain.specs.declared.value.Value.TheVariants.{Own, ToSlot, ToObject, Held}
use Rattle.fr_plain.specs.State.{slot_at}
use Rattle.fr_plain.specs.PlainState.{Running, PlainState}
use Rattle.fr_sound.specs.Seen.{Gives, owned_val}
use Rattle.fr_sound.specs.States.{Typing, slot_val, env_at, part_of, part_at, is_reference, IsLower, by_boxes, by_view, WaitsFor, WaitsAbove, directly, through as above, IsNear, IsBranch, thread_of_key}

-- a number is below another one, or not
pub decide_less : (a b : ℕ) → (a < b) ⊎ (b ≤ a)
decide_less a zero = inr (omega arith)
decide_less zero (suc b) = inl (omega arith)
decide_less (suc a) (suc b) = by (decide_less a b)
  where
    by : (a < b) ⊎ (b ≤ a) → (suc a < suc b) ⊎ (suc b ≤ suc a)
    by (inl l) = inl (omega (arith, l))
    by (inr l) = inr (omega (arith, l))

-- SLOTS

-- a slot of an environment, its exact type and what it names
pub record SlotIs (key : ℕ → Key) (E : KeyTypes) (e : Env) (i : ℕ) : Type 0 where
  pub slot : Slot
  pub there : env_at e i ≡ Some slot
  pub exact : ExactOf key E slot.part (E (key i))
  pub names : AreBelow i (piece_places slot.part)

abbrev SlotBy : (ℕ → Key) → KeyTypes → Env → ℕ → Option Slot → Type 0
SlotBy key E e i o = (t : Slot) × (o ≡ Some t) × ExactOf key E t.part (E (key i)) × AreBelow i (piece_places t.part)

slot_by : (key : ℕ → Key) (E : KeyTypes) (e : Env) (i : ℕ) → SlotsBelow key E e → IsNested e → i < length e → SlotBy key E e i (env_at e i)
slot_by key E [] i h n lt = absurd (omega arith)
slot_by key E (s ∷ e) i h n lt =
    eq_cases (λ b. SlotBy key E (s ∷ e) i (if b then Some s else env_at e i)) i (length e)
    (λ same. (s, refl, subst (λ j. ExactOf key E s.part (E (key j))) (sym same) h.0, subst (λ j. AreBelow j (piece_places s.part)) (sym same) n.0))
    (λ ne. slot_by key E e i h.1 n.1 (omega (arith, ne, lt)))

pub slot_is : (key : ℕ → Key) (E : KeyTypes) (e : Env) (i : ℕ) → SlotsBelow key E e → IsNested e → i < length e → SlotIs key E e i
slot_is key E e i h n lt = let r = slot_by key E e i h n lt in record { slot = r.0; there = r.1; exact = r.2; names = r.3 }

-- no slot is there from the length on
pub env_above : (e : Env) (i : ℕ) → length e ≤ i → env_at e i ≡ None
env_above [] i le = refl
env_above (s ∷ e) i le = eq_cases (λ b. (if b then Some s else env_at e i) ≡ None) i (length e) (λ same. absurd (omega (arith, same, le))) (λ ne. env_above e i (omega (arith, le)))

-- a slot that is there is below the length
pub env_below : (e : Env) (i : ℕ) (s : Slot) → env_at e i ≡ Some s → i < length e
env_below [] i s h = cc
env_below (x ∷ e) i s h = by (env_below e i s) (decide_number i (length e)) h
  where
    by : (env_at e i ≡ Some s → i < length e) → (i ≡ length e) ⊎ (i ≢ length e) → env_at (x ∷ e) i ≡ Some s → i < suc (length e)
    by go (inl same) h = omega (arith, same)
    by go (inr ne) h = let l = go (sym (eq_cases (λ b. (if b then Some x else env_at e i) ≡ env_at e i) i (length e) (λ same. absurd (ne same)) (λ z. refl)) ∙ h) in omega (arith, l)

-- the place of a reference of that part is one of the thread's, or it is a view's
pub data Names (key : ℕ → Key) (E : KeyTypes) (i : ℕ) : Piece → Place → Type 0 where
  names_own : {q : Piece} {u : Place} (j : ℕ) → j < i → u.key ≡ key j → Names key E i q u
  names_view : {u : Place} (o : Owned) → Seen key E o u → Names key E i (whole (view o)) u

pub names_of : (key : ℕ → Key) (E : KeyTypes) (i : ℕ) (q : Piece) (m : Bool) (u : Place) → AreBelow i (piece_places q) → RefOf key E q m u → Names key E i q u
names_of key E i (whole (own o)) m u n r = absurd r
names_of key E i (whole (shared us)) m u n r = let o : OneOf key us u = r.1 in names_own o.place.slot (below_in i us o.place n o.among) (ap (λ (z : Place). z.key) o.is)
names_of key E i (whole (mutable us)) m u n r = let o : OneOf key us u = r.1 in names_own o.place.slot (below_in i us o.place n o.among) (ap (λ (z : Place). z.key) o.is)
names_of key E i (whole (view o)) m u n r = names_view o r.1
names_of key E i (gone k) m u n r = absurd r
names_of key E i (boxed q) m u n r = absurd r

-- PLACES

-- a sum of three
add_more : (d e n : ℕ) → add (add d e) n ≡ add d (add e n)
add_more zero e n = refl
add_more (suc d) e n = ap suc (add_more d e n)

-- more stars below an owned part lead so many boxes further
pub res_below : (E : KeyTypes) (o1 o2 : Bool) (k b b2 : Key) (d n n2 e : ℕ) (t : Tree) (p : Exact) → Resolves E o1 k d b n (owns t) → Resolves E o2 k (add d e) b2 n2 p → (b2 ≡ b) × (n2 ≡ add n e)
res_below E o1 o2 k _ _ d _ _ e t p (here f) (here g) = (refl, refl)
res_below E o1 o2 k _ b2 d _ n2 e t p (here f) (through m u x is only de r) = owner (E k) is f
  where
    owner : (q : Exact) → q ≡ refers m u → exact_under d q ≡ Some (owns t) → (b2 ≡ k) × (n2 ≡ add d e)
    owner (owns y) is f = cc
    owner (refers m2 u2) is f = none d f
      where
        none : (d : ℕ) → exact_under d (refers m2 u2) ≡ Some (owns t) → (b2 ≡ k) × (n2 ≡ add d e)
        none zero f = absurd cc
        none (suc d) f = absurd cc
res_below E o1 o2 k b _ d n _ e t p (through m u x is only de r) (here g) = absurd (none (E k) is (subst (λ z. exact_under (add z e) (E k) ≡ Some p) de g))
  where
    none : (q : Exact) → q ≡ refers m u → exact_under (suc (add x e)) q ≡ Some p → ⊥
    none (owns y) is f = cc
    none (refers m2 u2) is f = cc
res_below E o1 o2 k b b2 d n n2 e t p (through m u x is only de r) (through m2 u2 x2 is2 only2 de2 r2) =
    let f : refers m u ≡ refers m2 u2 = sym is ∙ is2 in
    let same : u2 ≡ u = cc in
    let g : suc (add x e) ≡ suc x2 = sym (ap (λ z. add z e) de) ∙ de2 in
    let h : x2 ≡ add x e = cc in
    res_below E o1 o2 u.key b b2 (add u.depth x) n n2 e t p r
    (subst (λ z. Resolves E o2 u.key z b2 n2 p) (sym (add_more u.depth x e)) (subst (λ z. Resolves E o2 u.key (add u.depth z) b2 n2 p) h (subst (λ (z : Place). Resolves E o2 z.key (add z.depth x2) b2 n2 p) same r2)))

-- WHO WAITS FOR WHOM

module _ {P : Type 0} (a : PlainState P) where
  pub above_trans : {p q t : ℕ} → WaitsAbove a p q → WaitsAbove a q t → WaitsAbove a p t
  above_trans (directly w) b = above w b
  above_trans (above w r) b = above w (above_trans r b)

module _ {P : Type 0} (y : Typing) (a : PlainState P) (pairs : (p b c : ℕ) → a.pair p ≡ Some (b, c) → (b ≢ c) × IsBranch y a p b × IsBranch y a p c) where
  -- a thread that waits for another one comes before it
  pub waits_before : (p t : ℕ) → WaitsFor a p t → y.order p < y.order t
  waits_before p t w = by w.one
    where
      by : (t ≡ w.first) ⊎ (t ≡ w.second) → y.order p < y.order t
      by (inl same) = subst (λ z. y.order p < y.order z) (sym same) (pairs p w.first w.second w.pair).1.below
      by (inr same) = subst (λ z. y.order p < y.order z) (sym same) (pairs p w.first w.second w.pair).2.below

  pub above_before : (p t : ℕ) → WaitsAbove a p t → y.order p < y.order t
  above_before p t (directly w) = waits_before p t w
  above_before p t (above {q = q} w r) = let x = waits_before p q w in let z = above_before q t r in omega (arith, x, z)

-- a slot of a thread, or of one that waits for it
abbrev pub UpFrom : {P : Type 0} → PlainState P → ℕ → Key → Type 0
UpFrom a t k = (w : ℕ) × (i : ℕ) × (k ≡ slot_k w i) × WaitsAbove a w t

module _ {P : Type 0} (a : PlainState P) (E : KeyTypes) (near : (k : Key) (m : Bool) (u : Place) → E k ≡ refers m u → IsNear a k u) where
  -- what such a slot names is one again
  pub up_near : (t : ℕ) (k : Key) (m : Bool) (u : Place) → UpFrom a t k → E k ≡ refers m u → UpFrom a t u.key
  up_near t k m u up is = by (near k m u is)
    where
      by : IsNear a k u → UpFrom a t u.key
      by n = own n.near
        where
          same : up.0 ≡ n.thread
          same = let f : Some up.0 ≡ Some n.thread = sym (ap thread_of_key up.2) ∙ n.of in cc

          own : (n.owner ≡ n.thread) ⊎ WaitsAbove a n.owner n.thread → UpFrom a t u.key
          own (inl o) = (n.owner, n.slot, n.is, subst (λ w. WaitsAbove a w t) (same ∙ sym o) up.3)
          own (inr o) = (n.owner, n.slot, n.is, above_trans a (subst (WaitsAbove a n.owner) (sym same) o) up.3)

  -- and so is all to which a place there leads
  pub up_res : (t : ℕ) (only : Bool) (k : Key) (d : ℕ) (b : Key) (n : ℕ) (p : Exact) → UpFrom a t k → Resolves E only k d b n p → UpFrom a t b
  up_res t only k d b n p up (here e) = up
  up_res t only k d b n p up (through m u e is o de r) = up_res t only u.key (add u.depth e) b n p (up_near t k m u up is) r

-- no owned value is a reference
pub not_ref : (g : Gives) (v : Plain) (l : Location) → owned_val g v ≡ ref_v l → ⊥
not_ref g plain.Nothing l e = cc
not_ref g plain.Unit l e = cc
not_ref g (plain.Int n) l e = cc
not_ref g (plain.Box o) l e = cc
not_ref g (plain.Mutex m) l e = cc
not_ref g (plain.Task u) l e = cc

-- boxes end at an object
pub below_object : (s : Store) (k j : Key) (n : ℕ) → below_key s k n ≡ Some (at_key j) → k ≡ j
below_object s k j zero e = cc
below_object s k j (suc n) e = let f = from_suc s (at_key k) (at_key j) n e in let g = f.4 in absurd cc

-- a value of that thread, as the state shows it
abbrev pub seen_as : Gives → ℕ → Val → Option Value → Val
seen_as g t mark None = gone_v
seen_as g t mark (Some (Held m)) = mark
seen_as g t mark (Some (Own v)) = owned_val g v
seen_as g t mark (Some (ToSlot i)) = ref_v (at_key (slot_k t i))
seen_as g t mark (Some (ToObject o)) = ref_v (at_object o)

pub seen_is : {P : Type 0} (temps : P → List Value) (y : Typing) (t i : ℕ) (x : Running P) → slot_val temps y t i (Some x) ≡ seen_as y.gives t (ref_v (y.marks t i)) (slot_at x.slots i)
seen_is temps y t i x = by (slot_at x.slots i) refl
  where
    by : (o : Option Value) → slot_at x.slots i ≡ o → slot_val temps y t i (Some x) ≡ seen_as y.gives t (ref_v (y.marks t i)) (slot_at x.slots i)
    by None e = rw e refl
    by (Some (Held m)) e = rw e refl
    by (Some (Own v)) e = rw e refl
    by (Some (ToSlot i)) e = rw e refl
    by (Some (ToObject o)) e = rw e refl

module _ {P : Type 0} (temps : P → List Value) (y : Typing) (a : PlainState P) (s : Store) (t : ℕ) (x : Running P) (e : Env)
    (typed : Typed y.rank y.exact s)
    (near : (k : Key) (m : Bool) (u : Place) → y.exact k ≡ refers m u → IsNear a k u)
    (pairs : (p b c : ℕ) → a.pair p ≡ Some (b, c) → (b ≢ c) × IsBranch y a p b × IsBranch y a p c)
    (values : (i : ℕ) → s.at (slot_k t i) ≡ slot_val temps y t i (Some x))
    (nested : IsNested e)
    (slots : SlotsBelow (slot_k t) y.exact e)
    (free : (i : ℕ) → length e ≤ i → y.exact (slot_k t i) ≡ owns hole)
    (unnamed : (i : ℕ) (m : MutexNo) → slot_at x.slots i ≡ Some (Held m) → Unnamed y.exact (slot_k t i)) where
  -- a slot that refers is there
  ref_there : (j : ℕ) (m : Bool) (u : Place) → y.exact (slot_k t j) ≡ refers m u → j < length e
  ref_there j m u is = by (decide_less j (length e))
    where
      by : (j < length e) ⊎ (length e ≤ j) → j < length e
      by (inl lt) = lt
      by (inr le) = let f : owns hole ≡ refers m u = sym (free j le) ∙ is in absurd cc

  -- a view leads to an object
  view_target : (j : ℕ) (u : Place) → y.exact (slot_k t j) ≡ refers false u → ((i : ℕ) → u.key ≢ slot_k t i) → ((m : MutexNo) → slot_at x.slots j ≡ Some (Held m) → ⊥) → (r : RefFits y.exact s false u (s.at (slot_k t j))) → (q : ObjNo) × (r.target ≡ at_object q)
  view_target j u is foreign free r = by (slot_at x.slots j) refl (ap (seen_as y.gives t (ref_v (y.marks t j))) refl ∙ sym (seen_is temps y t j x) ∙ sym (values j) ∙ r.is)
    where
      up : UpFrom a t u.key
      up = from (near (slot_k t j) false u is)
        where
          from : IsNear a (slot_k t j) u → UpFrom a t u.key
          from n = own n.near
            where
              same : t ≡ n.thread
              same = let f : Some t ≡ Some n.thread = n.of in cc

              own : (n.owner ≡ n.thread) ⊎ WaitsAbove a n.owner n.thread → UpFrom a t u.key
              own (inl o) = absurd (foreign n.slot (n.is ∙ ap (λ w. slot_k w n.slot) (o ∙ sym same)))
              own (inr o) = (n.owner, n.slot, n.is, subst (WaitsAbove a n.owner) (sym same) o)

      no_own : (i : ℕ) → r.target ≡ at_key (slot_k t i) → ⊥
      no_own i is =
          let f = below_object s r.base (slot_k t i) r.boxes (r.leads ∙ ap Some is) in
          let g = up_res a y.exact near t false u.key u.depth r.base r.boxes r.type up r.res in
          let h : slot_k g.0 g.1 ≡ slot_k t i = sym g.2 ∙ f in
          let same : g.0 ≡ t = cc in
          let lt = above_before y a pairs g.0 t g.3 in
          absurd (omega (arith, lt, ap y.order same))

      by : (o : Option Value) → slot_at x.slots j ≡ o → seen_as y.gives t (ref_v (y.marks t j)) o ≡ ref_v r.target → (q : ObjNo) × (r.target ≡ at_object q)
      by None e f = cc
      by (Some (Held m)) e f = absurd (free m e)
      by (Some (Own v)) e f = absurd (not_ref y.gives v r.target f)
      by (Some (ToSlot i)) e f = let g : at_key (slot_k t i) ≡ r.target = cc in absurd (no_own i (sym g))
      by (Some (ToObject o)) e f = let g : at_object o ≡ r.target = cc in (o, sym g)

  -- where a place of the thread's leads that names a lower slot
  abbrev LowTo : ℕ → Location → Type 0
  LowTo i l = IsLower s e t i l

  low_here : (i j n : ℕ) (l : Location) → j < i → below_key s (slot_k t j) n ≡ Some l → LowTo i l
  low_here i j zero l lt h = let f : at_key (slot_k t j) ≡ l = cc in subst (LowTo i) f (refl, lt)
  low_here i j (suc n) l lt h =
      let f = from_suc s (at_key (slot_k t j)) l n h in
      subst (LowTo i) (sym f.4) (j, lt, by_boxes n (h ∙ ap Some f.4))

  -- below a view
  low_view : (i j : ℕ) (o : Owned) (q : ObjNo) (n : ℕ) (l : Location) → j < i → part_at e j ≡ Some (whole (view o)) → s.at (slot_k t j) ≡ ref_v (at_object q) → below_location s (at_object q) n ≡ Some l → LowTo i l
  low_view i j o q zero l lt is at h = let f : at_object q ≡ l = cc in subst (LowTo i) f (j, lt, by_view o q zero is at refl)
  low_view i j o q (suc n) l lt is at h = let f = from_suc s (at_object q) l n h in subst (LowTo i) (sym f.4) (j, lt, by_view o q (suc n) is at (h ∙ ap Some f.4))

  pub low_res : (only : Bool) (i j : ℕ) (k : Key) (d : ℕ) (b : Key) (n : ℕ) (p : Exact) (l : Location) → j < i → k ≡ slot_k t j → ((c : Key) × (m : Bool) × (u : Place) × (y.exact c ≡ refers m u) × (u.key ≡ slot_k t j)) → Resolves y.exact only k d b n p → below_key s b n ≡ Some l → LowTo i l
  low_res only i j k d b n p l lt ke by_whom (here f) h = low_here i j n l lt (ap (λ z. below_key s z n) (sym ke) ∙ h)
  low_res only i j k d b n p l lt ke by_whom (through m u more is o de r) h =
      let is2 : y.exact (slot_k t j) ≡ refers m u = ap y.exact (sym ke) ∙ is in
      let there = slot_is (slot_k t) y.exact e j slots nested (ref_there j m u is2) in
      by there (names_of (slot_k t) y.exact j there.slot.part m u there.names (subst (ExactOf (slot_k t) y.exact there.slot.part) is2 there.exact)) is2 (λ j2 lt2 ke2. low_res only i j2 u.key (add u.depth more) b n p l (omega (arith, lt, lt2)) ke2 (slot_k t j, m, u, is2, ke2) r h)
    where
      by : (there : SlotIs (slot_k t) y.exact e j) → Names (slot_k t) y.exact j there.slot.part u → y.exact (slot_k t j) ≡ refers m u → ((j2 : ℕ) → j2 < j → u.key ≡ slot_k t j2 → LowTo i l) → LowTo i l
      by there z is2 go = own there.slot.part refl z
        where
          marked : (mu : MutexNo) → slot_at x.slots j ≡ Some (Held mu) → ⊥
          marked mu f = unnamed j mu f by_whom.0 by_whom.1 by_whom.2 by_whom.3 by_whom.4

          viewed : (o : Owned) → there.slot.part ≡ whole (view o) → Seen (slot_k t) y.exact o u → LowTo i l
          viewed o pe seen =
              let r0 : ExactOf (slot_k t) y.exact (whole (view o)) (refers m u) = subst (λ q. ExactOf (slot_k t) y.exact q (refers m u)) pe (subst (ExactOf (slot_k t) y.exact there.slot.part) is2 there.exact) in
              let is3 : y.exact (slot_k t j) ≡ refers false u = is2 ∙ ap (λ z. refers z u) r0.0 in
              let fit = ref_at y.rank y.exact s typed (slot_k t j) false u is3 in
              let obj = view_target j u is3 seen.foreign marked fit in
              let same = res_once y.exact false false u.key u.depth fit.base seen.base fit.boxes seen.boxes fit.type (owns (tree_of o)) fit.res seen.res in
              let far = res_below y.exact false only u.key seen.base b u.depth seen.boxes n more (tree_of o) p seen.res r in
              let first : below_key s seen.base seen.boxes ≡ Some (at_object obj.0) = ap (below_key s seen.base) (sym same.1) ∙ ap (λ z. below_key s z fit.boxes) (sym same.0) ∙ fit.leads ∙ ap Some obj.1 in
              let all : below_key s seen.base (add more seen.boxes) ≡ Some l = ap (below_key s seen.base) (add_comm more seen.boxes ∙ sym far.1) ∙ ap (λ z. below_key s z n) (sym far.0) ∙ h in
              low_view i j o obj.0 more l lt (ap part_of there.there ∙ ap Some pe) (fit.is ∙ ap ref_v obj.1) (sym (from_add s (at_key seen.base) (at_object obj.0) seen.boxes more first) ∙ all)

          own : (q : Piece) → there.slot.part ≡ q → Names (slot_k t) y.exact j q u → LowTo i l
          own q pe (names_own j2 lt2 ke2) = go j2 lt2 ke2
          own _ pe (names_view o seen) = viewed o pe seen

  -- EACH REFERENCE IN A SLOT LEADS LOWER
  pub lower_slots : (i : ℕ) (l : Location) → is_reference (part_at e i) ≡ true → s.at (slot_k t i) ≡ ref_v l → IsLower s e t i l
  lower_slots i l ref at = by (env_at e i) refl
    where
      led : (there : SlotIs (slot_k t) y.exact e i) → (m : Bool) (u : Place) → y.exact (slot_k t i) ≡ refers m u → Names (slot_k t) y.exact i there.slot.part u → is_reference (Some there.slot.part) ≡ true → LowTo i l
      led there m u is z q = by there.slot.part z q
        where
          fit : RefFits y.exact s m u (s.at (slot_k t i))
          fit = ref_at y.rank y.exact s typed (slot_k t i) m u is

          by : (q : Piece) → Names (slot_k t) y.exact i q u → is_reference (Some q) ≡ true → LowTo i l
          by q (names_own j lt ke) f =
              let g : ref_v fit.target ≡ ref_v l = sym fit.is ∙ at in
              let same : fit.target ≡ l = cc in
              low_res m i j u.key u.depth fit.base fit.boxes fit.type l lt ke (slot_k t i, m, u, is, ke) fit.res (fit.leads ∙ ap Some same)
          by _ (names_view o seen) f = cc

      refers_by : (there : SlotIs (slot_k t) y.exact e i) → (q : Piece) → there.slot.part ≡ q → is_reference (Some q) ≡ true → LowTo i l
      refers_by there (whole (shared us)) pe f =
          let g = shared_found (slot_k t) y.exact us (y.exact (slot_k t i)) (subst (λ q. ExactOf (slot_k t) y.exact q (y.exact (slot_k t i))) pe there.exact) in
          led there false g.0 g.1 (names_of (slot_k t) y.exact i there.slot.part false g.0 there.names (subst (ExactOf (slot_k t) y.exact there.slot.part) g.1 there.exact)) (ap (λ q. is_reference (Some q)) pe ∙ f)
      refers_by there (whole (mutable us)) pe f =
          let g = ref_found (slot_k t) y.exact us (y.exact (slot_k t i)) (subst (λ q. ExactOf (slot_k t) y.exact q (y.exact (slot_k t i))) pe there.exact) in
          led there true g.0 g.1 (names_of (slot_k t) y.exact i there.slot.part true g.0 there.names (subst (ExactOf (slot_k t) y.exact there.slot.part) g.1 there.exact)) (ap (λ q. is_reference (Some q)) pe ∙ f)
      refers_by there (whole (own o)) pe f = cc
      refers_by there (whole (view o)) pe f = cc
      refers_by there (gone k) pe f = cc
      refers_by there (boxed q) pe f = cc

      by : (o : Option Slot) → env_at e i ≡ o → LowTo i l
      by None f = let g : is_reference None ≡ true = sym (ap (λ z. is_reference (part_of z)) f) ∙ ref in cc
      by (Some c) f =
          let there = slot_is (slot_k t) y.exact e i slots nested (env_below e i c f) in
          refers_by there there.slot.part refl (sym (ap (λ z. is_reference (part_of z)) there.there) ∙ ref)
