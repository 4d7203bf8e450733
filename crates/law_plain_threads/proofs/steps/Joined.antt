-- Where what one way brings joins to what is known at an instruction, both type the same: parts, slots and temporary values.
use Rattle.std.proofs.Common.{◌≡◌, ◌∙◌, ℕ, suc, ◌==◌, ◌<◌, Bool, true, false, List, [], ◌∷◌, length, Option, Some, None, refl, sym, ap, subst, arith}
use Rattle.std.specs.Prelude.{⊤, not, is_some, if◌then◌else◌}
use Rattle.std.specs.List.{list_all}
use Rattle.fr_base.specs.declared.place.Lval.{Lval}
use Rattle.fr_typing.specs.Kinds.{Owned, box, same_owned, Kind, own, shared, mutable, view, Piece, whole, gone, boxed, union, join_kind, join_piece, map_some}
use Rattle.fr_typing.specs.Places.{Slot, Env, Shape, stars_shape, piece_shape, shape_at, equal_shapes, first_shape, have_shape, alike, kind_places, piece_places, AreBelow, IsNested, found, found_or_none}
use Rattle.fr_typing.proofs.PlaceLemmas.{eq_cases, join_all_below}
use Rattle.fr_store.specs.Keys.{slot_k}
use Rattle.fr_store.specs.Typed.{hole, owns}
use Rattle.fr_store.specs.Below.{tree_of}
use Rattle.fr_store.specs.JoinRows.{join_env, join_more}
use Rattle.fr_store.proofs.Below.{join_parts}
use Rattle.fr_store.proofs.JoinRows.{slots_join}
use Rattle.fr_sound.specs.States.{env_at, part_of, part_at, owned_kind, owned_part, is_reference, is_hidden}
use Rattle.fr_code.specs.Joins.{have_names}
use Rattle.law_plain_values.proofs.acts.Focus.{both_true}
use Rattle.law_plain_values.proofs.acts.Envs.{same_tree}

-- PLACES OF A JOIN

-- a place of some shape starts at a slot that is there
shaped_below : (e : Env) (w : Lval) (a : Shape) → shape_at e w ≡ Some a → w.slot < length e
shaped_below [] w a h = absurd cc
shaped_below (s ∷ e) w a h =
    eq_cases (λ b. (if b then stars_shape w.depth (piece_shape (shape_at e) s.part) else shape_at e w) ≡ Some a → w.slot < suc (length e)) w.slot (length e)
    (λ q f. omega (arith, q)) (λ ne f. let lt = shaped_below e w a f in omega (arith, lt)) h

equal_shaped : (a b : Option Shape) → equal_shapes a b ≡ true → (x : Shape) × (b ≡ Some x)
equal_shaped (Some a) (Some b) h = (b, refl)
equal_shaped None None h = absurd cc
equal_shaped None (Some b) h = absurd cc
equal_shaped (Some a) None h = absurd cc

all_below : (e : Env) (a : Option Shape) (us : List Lval) → have_shape (shape_at e) a us ≡ true → AreBelow (length e) us
all_below e a [] h = tt
all_below e a (u ∷ us) h =
    let b = both_true (equal_shapes a (shape_at e u)) (list_all (λ v. equal_shapes a (shape_at e v)) us) h in
    let x = equal_shaped a (shape_at e u) b.0 in
    (shaped_below e u x.0 x.1, all_below e a us b.1)

union_low : (n : ℕ) (us vs : List Lval) → AreBelow n us → AreBelow n vs → AreBelow n (union us vs)
union_low n [] vs h k = k
union_low n (u ∷ us) vs h k = join_all_below n (λ x y. true) (λ x. found (whole (shared vs))) (found (whole (shared (u ∷ us)))) (u ∷ []) (λ x lt. k) h (h.0, tt)

-- the places of two sets that are alike are below the slots there
union_below : (e : Env) (us vs : List Lval) → alike e us vs ≡ true → AreBelow (length e) (union us vs)
union_below e us vs h =
    let b = both_true (have_shape (shape_at e) (first_shape (shape_at e) us) us) (have_shape (shape_at e) (first_shape (shape_at e) us) vs) h in
    union_low (length e) us vs (all_below e (first_shape (shape_at e) us) us b.0) (all_below e (first_shape (shape_at e) us) vs b.1)

-- KINDS

-- the same kind of type, with more places
pub record KindWidens (k l : Kind) : Type 0 where
  pub refers : is_reference (Some (whole l)) ≡ is_reference (Some (whole k))
  pub owned : owned_kind l ≡ owned_kind k
  pub views : (x : Owned) → k ≡ view x → l ≡ view x

same_kind : (k : Kind) → KindWidens k k
same_kind k = record { refers = refl; owned = refl; views = λ x e. e }

other_kind : (k l : Kind) → k ≡ l → KindWidens k l
other_kind k l e = subst (λ m. KindWidens k m) e (same_kind k)

-- a join names slots that are there
pub record KindsJoin (e : Env) (a b k : Kind) : Type 0 where
  pub below : AreBelow (length e) (kind_places k)
  pub left : KindWidens a k
  pub right : KindWidens b k

own_same : (a b : Owned) → same_owned a b ≡ true → b ≡ a
own_same a b e =
    let j = join_parts (slot_k 0) (λ k. owns hole) (λ us vs. true) (whole (own a)) (whole (own b)) (whole (own a)) (ap (λ t. found_or_none (map_some whole (if t then Some (own a) else None))) e) in
    same_tree b a (j.right (owns (tree_of b)) refl)

pub kinds_join : (e : Env) (a b k : Kind) → join_kind (alike e) a b ≡ Some k → KindsJoin e a b k
kinds_join e (own a) (own b) k j = by (same_owned a b) refl j
  where
    by : (t : Bool) → same_owned a b ≡ t → (if t then Some (own a) else None) ≡ Some k → KindsJoin e (own a) (own b) k
    by true f h = let q : own a ≡ k = cc in record { below = subst (λ m. AreBelow (length e) (kind_places m)) q tt; left = other_kind (own a) k q; right = other_kind (own b) k (ap own (own_same a b f) ∙ q) }
    by false f h = absurd cc
kinds_join e (view a) (view b) k j = by (same_owned a b) refl j
  where
    by : (t : Bool) → same_owned a b ≡ t → (if t then Some (view a) else None) ≡ Some k → KindsJoin e (view a) (view b) k
    by true f h = let q : view a ≡ k = cc in record { below = subst (λ m. AreBelow (length e) (kind_places m)) q tt; left = other_kind (view a) k q; right = other_kind (view b) k (ap view (own_same a b f) ∙ q) }
    by false f h = absurd cc
kinds_join e (shared us) (shared vs) k j = by (alike e us vs) refl j
  where
    by : (t : Bool) → alike e us vs ≡ t → (if t then Some (shared (union us vs)) else None) ≡ Some k → KindsJoin e (shared us) (shared vs) k
    by true f h = let q : shared (union us vs) ≡ k = cc in subst (KindsJoin e (shared us) (shared vs)) q (record { below = union_below e us vs f; left = record { refers = refl; owned = refl; views = λ x z. absurd cc }; right = record { refers = refl; owned = refl; views = λ x z. absurd cc } })
    by false f h = absurd cc
kinds_join e (mutable us) (mutable vs) k j = by (alike e us vs) refl j
  where
    by : (t : Bool) → alike e us vs ≡ t → (if t then Some (mutable (union us vs)) else None) ≡ Some k → KindsJoin e (mutable us) (mutable vs) k
    by true f h = let q : mutable (union us vs) ≡ k = cc in subst (KindsJoin e (mutable us) (mutable vs)) q (record { below = union_below e us vs f; left = record { refers = refl; owned = refl; views = λ x z. absurd cc }; right = record { refers = refl; owned = refl; views = λ x z. absurd cc } })
    by false f h = absurd cc
kinds_join e _ _ k j = absurd cc

-- PARTS

pub record PartWidens (p q : Piece) : Type 0 where
  pub refers : is_reference (Some q) ≡ is_reference (Some p)
  pub owned : owned_part q ≡ owned_part p
  pub views : (x : Owned) → p ≡ whole (view x) → q ≡ whole (view x)

record PartsJoin (e : Env) (a b q : Piece) : Type 0 where
  below : AreBelow (length e) (piece_places q)
  left : PartWidens a q
  right : PartWidens b q

whole_widens : (k l : Kind) → KindWidens k l → PartWidens (whole k) (whole l)
whole_widens k l h = record { refers = h.refers; owned = h.owned; views = λ x e. ap whole (h.views x (let f : k ≡ view x = cc in f)) }

gone_widens : (k l : Kind) → KindWidens k l → PartWidens (gone k) (gone l)
gone_widens k l h = record { refers = refl; owned = h.owned; views = λ x e. absurd cc }

boxed_widens : (p q : Piece) → PartWidens p q → PartWidens (boxed p) (boxed q)
boxed_widens p q h = record { refers = refl; owned = ap (map_some box) h.owned; views = λ x e. absurd cc }

parts_join : (e : Env) (a b q : Piece) → join_piece (alike e) a b ≡ Some q → PartsJoin e a b q
parts_join e (whole a) (whole b) q j = by (join_kind (alike e) a b) refl j
  where
    by : (o : Option Kind) → join_kind (alike e) a b ≡ o → map_some whole o ≡ Some q → PartsJoin e (whole a) (whole b) q
    by None f h = absurd cc
    by (Some k) f h =
        let d = kinds_join e a b k f in
        let s : whole k ≡ q = cc in
        subst (PartsJoin e (whole a) (whole b)) s (record { below = d.below; left = whole_widens a k d.left; right = whole_widens b k d.right })
parts_join e (gone a) (gone b) q j = by (join_kind (alike e) a b) refl j
  where
    by : (o : Option Kind) → join_kind (alike e) a b ≡ o → map_some gone o ≡ Some q → PartsJoin e (gone a) (gone b) q
    by None f h = absurd cc
    by (Some k) f h =
        let d = kinds_join e a b k f in
        let s : gone k ≡ q = cc in
        subst (PartsJoin e (gone a) (gone b)) s (record { below = d.below; left = gone_widens a k d.left; right = gone_widens b k d.right })
parts_join e (boxed a) (boxed b) q j = by (join_piece (alike e) a b) j (λ r f. parts_join e a b r f) refl
  where
    by : (o : Option Piece) → map_some boxed o ≡ Some q → ((r : Piece) → join_piece (alike e) a b ≡ Some r → PartsJoin e a b r) → join_piece (alike e) a b ≡ o → PartsJoin e (boxed a) (boxed b) q
    by None h go f = absurd cc
    by (Some r) h go f =
        let d = go r f in
        let s : boxed r ≡ q = cc in
        subst (PartsJoin e (boxed a) (boxed b)) s (record { below = d.below; left = boxed_widens a r d.left; right = boxed_widens b r d.right })
parts_join e _ _ q j = absurd cc

-- ENVIRONMENTS

-- where one has a slot, so has the other one
abbrev pub PartsWiden : Option Piece → Option Piece → Type 0
PartsWiden None None = ⊤
PartsWiden (Some p) (Some q) = PartWidens p q
PartsWiden _ _ = ⊥

abbrev pub AllWiden : Env → Env → Type 0
AllWiden e f = (i : ℕ) → PartsWiden (part_at e i) (part_at f i)

slots_widen : (s r : Slot) (e f : Env) → length f ≡ length e → PartWidens s.part r.part → AllWiden e f → AllWiden (s ∷ e) (r ∷ f)
slots_widen s r e f long w all i = subst (λ n. PartsWiden (part_of (if i == length e then Some s else env_at e i)) (part_of (if i == n then Some r else env_at f i))) (sym long) (by (i == length e))
  where
    by : (b : Bool) → PartsWiden (part_of (if b then Some s else env_at e i)) (part_of (if b then Some r else env_at f i))
    by true = w
    by false = all i

pub record EnvsJoin (e f z : Env) : Type 0 where
  pub nested : IsNested z
  pub left : AllWiden e z
  pub right : AllWiden f z

pub envs_join : (e f z : Env) → join_env e f ≡ Some z → EnvsJoin e f z
envs_join [] [] z j = let q : [] ≡ z = cc in subst (EnvsJoin [] []) q (record { nested = tt; left = λ i. tt; right = λ i. tt })
envs_join [] (s ∷ f) z j = absurd cc
envs_join (s ∷ e) [] z j = absurd cc
envs_join (s ∷ e) (r ∷ f) z j = by (join_env e f) j refl (λ y h. envs_join e f y h)
  where
    with_part : (y : Env) (o : Option Piece) → join_piece (alike y) s.part r.part ≡ o → map_some (λ q. record s { part = q } ∷ y) o ≡ Some z → (length y ≡ length e) → (length y ≡ length f) → EnvsJoin e f y → EnvsJoin (s ∷ e) (r ∷ f) z
    with_part y None g h m n d = absurd cc
    with_part y (Some q) g h m n d =
        let w = parts_join y s.part r.part q g in
        let k : record s { part = q } ∷ y ≡ z = cc in
        subst (EnvsJoin (s ∷ e) (r ∷ f)) k (record { nested = (w.below, d.nested); left = slots_widen s (record s { part = q }) e y m w.left d.left; right = slots_widen r (record s { part = q }) f y n w.right d.right })

    by : (o : Option Env) → join_more s r.part o ≡ Some z → join_env e f ≡ o → ((y : Env) → join_env e f ≡ Some y → EnvsJoin e f y) → EnvsJoin (s ∷ e) (r ∷ f) z
    by None h g go = absurd cc
    by (Some y) h g go = let l = slots_join (slot_k 0) (λ k. owns hole) e f y g in with_part y (join_piece (alike y) s.part r.part) refl h l.0 l.1 (go y g)

-- as many slots are variables
names_long : (e f : Env) → have_names e ≡ have_names f → length f ≡ length e
names_long [] [] h = refl
names_long [] (r ∷ f) h = absurd cc
names_long (s ∷ e) [] h = absurd cc
names_long (s ∷ e) (r ∷ f) h = ap suc (names_long e f (let q : have_names e ≡ have_names f = cc in q))

-- and the same ones
pub names_hidden : (e f : Env) → have_names e ≡ have_names f → (i : ℕ) → is_hidden (env_at f i) ≡ is_hidden (env_at e i)
names_hidden [] [] h i = refl
names_hidden [] (r ∷ f) h i = absurd cc
names_hidden (s ∷ e) [] h i = absurd cc
names_hidden (s ∷ e) (r ∷ f) h i =
    let q : have_names e ≡ have_names f = cc in
    let n : is_some s.name ≡ is_some r.name = cc in
    subst (λ m. is_hidden (if i == m then Some r else env_at f i) ≡ is_hidden (if i == length e then Some s else env_at e i)) (sym (names_long e f q)) (by (i == length e) (sym n) (names_hidden e f q i))
  where
    by : (b : Bool) → is_some r.name ≡ is_some s.name → is_hidden (env_at f i) ≡ is_hidden (env_at e i) → is_hidden (if b then Some r else env_at f i) ≡ is_hidden (if b then Some s else env_at e i)
    by true n g = ap not n
    by false n g = g
