-- The type of a place in a nested environment.
use Rattle.std.proofs.Common.{◌≡◌, ◌≢◌, ℕ, zero, suc, ◌<◌, ◌≤◌, Bool, true, false, List, [], ◌∷◌, length, Option, Some, None, refl, sym, ap, ◌∙◌, subst, arith, ⊎_elim}
use Rattle.std.specs.Prelude.{◌==◌, ◌&&◌, if◌then◌else◌}
use Rattle.std.proofs.lemmas.Bool.Decides.{eqb_tells}
use Rattle.fr_base.specs.declared.place.Lval.{Lval}
use Rattle.fr_typing.specs.Kinds.{unit, int, box, mutex, task, same_owned, Kind, own, shared, mutable, view, Piece, whole, gone, boxed, lval_lt, insert_lval, union, SetTest, join_kind, join_piece, map_some}
use Rattle.fr_typing.specs.Places.{kind_places, piece_places, AreBelow, IsNested, Slot, Env, Found, found, undefined, no_target, then_found, found_or_none, join_found, join_all, join_set, star, stars, type_at, Shape, first_shape, piece_shape, stars_shape, shape_at, equal_shapes, have_shape, have_one_shape, alike}

-- a choice by whether two numbers are equal
pub eq_cases : (P : Bool → Type 0) (a b : ℕ) → (a ≡ b → P true) → (a ≢ b → P false) → P (a == b)
eq_cases P a b same other =
    ⊎_elim (λ (h : (a == b ≡ true) × (a ≡ b)). subst P (sym h.0) (same h.1)) (λ (h : (a == b ≡ false) × (a ≢ b)). subst P (sym h.0) (other h.1)) (eqb_tells a b)

-- places below m are below a larger n
pub AreBelow-weaker : (m n : ℕ) (us : List Lval) → m ≤ n → AreBelow m us → AreBelow n us
AreBelow-weaker m n [] le h = tt
AreBelow-weaker m n (u ∷ us) le h = let lt : u.slot < m = h.0 in (omega arith, AreBelow-weaker m n us le h.1)

-- what is found names only slots below n
abbrev pub FoundBelow : ℕ → Found → Type 0
FoundBelow n (found p) = AreBelow n (piece_places p)
FoundBelow n undefined = Unit {0}
FoundBelow n no_target = Unit {0}

-- the same of what is found
pub FoundBelow-weaker : (m n : ℕ) (f : Found) → m ≤ n → FoundBelow m f → FoundBelow n f
FoundBelow-weaker m n (found p) le h = AreBelow-weaker m n (piece_places p) le h
FoundBelow-weaker m n undefined le h = tt
FoundBelow-weaker m n no_target le h = tt

-- joins name no other slots

-- by what the two tests of an insertion say
insert_test : (n : ℕ) (u v : Lval) (us : List Lval) (a b : Bool) → u.slot < n → AreBelow n (v ∷ us) → AreBelow n (insert_lval u us) → AreBelow n (if a then u ∷ v ∷ us else (if b then v ∷ insert_lval u us else v ∷ us))
insert_test n u v us true b lt h rest = (lt, h)
insert_test n u v us false true lt h rest = (h.0, rest)
insert_test n u v us false false lt h rest = h

-- a place that is inserted names a slot below n
insert_below : (n : ℕ) (u : Lval) (us : List Lval) → u.slot < n → AreBelow n us → AreBelow n (insert_lval u us)
insert_below n u [] lt h = (lt, tt)
insert_below n u (v ∷ us) lt h = insert_test n u v us (lval_lt u v) (lval_lt v u) lt h (insert_below n u us lt h.1)

-- a union of sets below n is below n
union_below : (n : ℕ) (us vs : List Lval) → AreBelow n us → AreBelow n vs → AreBelow n (union us vs)
union_below n [] vs h k = k
union_below n (u ∷ us) vs h k = insert_below n u (union us vs) h.0 (union_below n us vs h.1 k)

-- a type that is there names only slots below n
abbrev KindBelow : ℕ → Option Kind → Type 0
KindBelow n None = Unit {0}
KindBelow n (Some k) = AreBelow n (kind_places k)

-- a type that may not be there names only slots below n
some_join : (n : ℕ) (k : Kind) (b : Bool) → AreBelow n (kind_places k) → KindBelow n (if b then Some k else None)
some_join n k true h = h
some_join n k false h = tt

-- a join of types names what they name
join_kind_below : (n : ℕ) (same : SetTest) (k m : Kind) → AreBelow n (kind_places k) → AreBelow n (kind_places m) → KindBelow n (join_kind same k m)
join_kind_below n same (own a) (own b) h g = some_join n (own a) (same_owned a b) tt
join_kind_below n same (view a) (view b) h g = some_join n (view a) (same_owned a b) tt
join_kind_below n same (shared us) (shared vs) h g = some_join n (shared (union us vs)) (same us vs) (union_below n us vs h g)
join_kind_below n same (mutable us) (mutable vs) h g = some_join n (mutable (union us vs)) (same us vs) (union_below n us vs h g)
join_kind_below n same _ _ h g = tt

-- a whole part names what its type names
whole_below : (n : ℕ) (o : Option Kind) → KindBelow n o → FoundBelow n (found_or_none (map_some whole o))
whole_below n None h = tt
whole_below n (Some k) h = h

-- a part that has moved away names what its type names
gone_below : (n : ℕ) (o : Option Kind) → KindBelow n o → FoundBelow n (found_or_none (map_some gone o))
gone_below n None h = tt
gone_below n (Some k) h = h

-- a box names what its part names
boxed_below : (n : ℕ) (o : Option Piece) → FoundBelow n (found_or_none o) → FoundBelow n (found_or_none (map_some boxed o))
boxed_below n None h = tt
boxed_below n (Some k) h = h

-- a join of parts names what they name
join_piece_below : (n : ℕ) (same : SetTest) (p q : Piece) → AreBelow n (piece_places p) → AreBelow n (piece_places q) → FoundBelow n (found_or_none (join_piece same p q))
join_piece_below n same (whole a) (whole b) h g = whole_below n (join_kind same a b) (join_kind_below n same a b h g)
join_piece_below n same (gone a) (gone b) h g = gone_below n (join_kind same a b) (join_kind_below n same a b h g)
join_piece_below n same (boxed p) (boxed q) h g = boxed_below n (join_piece same p q) (join_piece_below n same p q h g)
join_piece_below n same _ _ h g = tt

-- a join of what two places have names what they name
join_found_below : (n : ℕ) (same : SetTest) (f g : Found) → FoundBelow n f → FoundBelow n g → FoundBelow n (join_found same f g)
join_found_below n same (found p) (found q) h k = join_piece_below n same p q h k
join_found_below n same (found p) undefined h k = tt
join_found_below n same (found p) no_target h k = tt
join_found_below n same undefined g h k = tt
join_found_below n same no_target g h k = tt

-- places below n have types that name only slots below n
abbrev pub LooksBelow : ℕ → (Lval → Found) → Type 0
LooksBelow n look = (u : Lval) → u.slot < n → FoundBelow n (look u)

-- two look-ups agree on places below n
abbrev pub LooksSame : ℕ → (Lval → Found) → (Lval → Found) → Type 0
LooksSame n a b = (u : Lval) → u.slot < n → a u ≡ b u

-- two tests agree on sets of places below n
abbrev pub TestsSame : ℕ → SetTest → SetTest → Type 0
TestsSame n s t = (us vs : List Lval) → AreBelow n us → AreBelow n vs → s us vs ≡ t us vs

-- a join over a list of places names only slots below n
pub join_all_below : (n : ℕ) (same : SetTest) (look : Lval → Found) (f : Found) (us : List Lval) → LooksBelow n look → FoundBelow n f → AreBelow n us → FoundBelow n (join_all same look f us)
join_all_below n same look f [] c h b = h
join_all_below n same look f (u ∷ us) c h b = join_all_below n same look (join_found same f (look u)) us c (join_found_below n same f (look u) h (c u b.0)) b.1

-- and so a join over a set
pub join_set_below : (n : ℕ) (same : SetTest) (look : Lval → Found) (us : List Lval) → LooksBelow n look → AreBelow n us → FoundBelow n (join_set same look us)
join_set_below n same look [] c b = tt
join_set_below n same look (u ∷ us) c b = join_all_below n same look (look u) us c (c u b.0) b.1

-- one star more
pub star_below : (n : ℕ) (same : SetTest) (look : Lval → Found) (p : Piece) → LooksBelow n look → AreBelow n (piece_places p) → FoundBelow n (star same look p)
star_below n same look (whole (own unit)) c h = tt
star_below n same look (whole (own int)) c h = tt
star_below n same look (whole (own (box o))) c h = tt
star_below n same look (whole (own (mutex o))) c h = tt
star_below n same look (whole (own (task o))) c h = tt
star_below n same look (whole (view o)) c h = tt
star_below n same look (whole (shared us)) c h = join_set_below n same look us c h
star_below n same look (whole (mutable us)) c h = join_set_below n same look us c h
star_below n same look (gone k) c h = tt
star_below n same look (boxed p) c h = h

-- one star more on what is found
then_below : (n : ℕ) (same : SetTest) (look : Lval → Found) (f : Found) → LooksBelow n look → FoundBelow n f → FoundBelow n (then_found f (star same look))
then_below n same look (found p) c h = star_below n same look p c h
then_below n same look undefined c h = tt
then_below n same look no_target c h = tt

-- so many stars
pub stars_below : (n : ℕ) (same : SetTest) (look : Lval → Found) (d : ℕ) (p : Piece) → LooksBelow n look → AreBelow n (piece_places p) → FoundBelow n (stars same look d p)
stars_below n same look zero p c h = h
stars_below n same look (suc d) p c h = then_below n same look (stars same look d p) c (stars_below n same look d p c h)

-- only the types and the shapes of places below n count

-- a join of types that name only slots below n
join_kind_same : (n : ℕ) (s t : SetTest) (k m : Kind) → TestsSame n s t → AreBelow n (kind_places k) → AreBelow n (kind_places m) → join_kind s k m ≡ join_kind t k m
join_kind_same n s t (shared us) (shared vs) z h g = ap (λ b. if b then Some (shared (union us vs)) else None) (z us vs h g)
join_kind_same n s t (mutable us) (mutable vs) z h g = ap (λ b. if b then Some (mutable (union us vs)) else None) (z us vs h g)
join_kind_same n s t (own a) m z h g = refl
join_kind_same n s t (view a) m z h g = refl
join_kind_same n s t (shared us) _ z h g = refl
join_kind_same n s t (mutable us) _ z h g = refl

-- of such parts
join_piece_same : (n : ℕ) (s t : SetTest) (p q : Piece) → TestsSame n s t → AreBelow n (piece_places p) → AreBelow n (piece_places q) → join_piece s p q ≡ join_piece t p q
join_piece_same n s t (whole a) (whole b) z h g = ap (map_some whole) (join_kind_same n s t a b z h g)
join_piece_same n s t (gone a) (gone b) z h g = ap (map_some gone) (join_kind_same n s t a b z h g)
join_piece_same n s t (boxed p) (boxed q) z h g = ap (map_some boxed) (join_piece_same n s t p q z h g)
join_piece_same n s t (whole a) _ z h g = refl
join_piece_same n s t (gone a) _ z h g = refl
join_piece_same n s t (boxed p) _ z h g = refl

-- of what two places have
join_found_same : (n : ℕ) (s t : SetTest) (f g : Found) → TestsSame n s t → FoundBelow n f → FoundBelow n g → join_found s f g ≡ join_found t f g
join_found_same n s t (found p) (found q) z h k = ap found_or_none (join_piece_same n s t p q z h k)
join_found_same n s t (found p) undefined z h k = refl
join_found_same n s t (found p) no_target z h k = refl
join_found_same n s t undefined g z h k = refl
join_found_same n s t no_target g z h k = refl

-- a join over a list of places below n
join_all_same : (n : ℕ) (s t : SetTest) (a b : Lval → Found) (f : Found) (us : List Lval) → TestsSame n s t → LooksBelow n a → LooksSame n a b → FoundBelow n f → AreBelow n us → join_all s a f us ≡ join_all t b f us
join_all_same n s t a b f [] z c e g h = refl
join_all_same n s t a b f (u ∷ us) z c e g h =
    join_all_same n s t a b (join_found s f (a u)) us z c e (join_found_below n s f (a u) g (c u h.0)) h.1
    ∙ ap (λ x. join_all t b x us) (join_found_same n s t f (a u) z g (c u h.0))
    ∙ ap (λ x. join_all t b (join_found t f x) us) (e u h.0)

-- a join over a set of places below n
join_set_same : (n : ℕ) (s t : SetTest) (a b : Lval → Found) (us : List Lval) → TestsSame n s t → LooksBelow n a → LooksSame n a b → AreBelow n us → join_set s a us ≡ join_set t b us
join_set_same n s t a b [] z c e h = refl
join_set_same n s t a b (u ∷ us) z c e h = join_all_same n s t a b (a u) us z c e (c u h.0) h.1 ∙ ap (λ x. join_all t b x us) (e u h.0)

-- one star
star_same : (n : ℕ) (s t : SetTest) (a b : Lval → Found) (p : Piece) → TestsSame n s t → LooksBelow n a → LooksSame n a b → AreBelow n (piece_places p) → star s a p ≡ star t b p
star_same n s t a b (whole (own unit)) z c e h = refl
star_same n s t a b (whole (own int)) z c e h = refl
star_same n s t a b (whole (own (box o))) z c e h = refl
star_same n s t a b (whole (own (mutex o))) z c e h = refl
star_same n s t a b (whole (own (task o))) z c e h = refl
star_same n s t a b (whole (view o)) z c e h = refl
star_same n s t a b (whole (shared us)) z c e h = join_set_same n s t a b us z c e h
star_same n s t a b (whole (mutable us)) z c e h = join_set_same n s t a b us z c e h
star_same n s t a b (gone k) z c e h = refl
star_same n s t a b (boxed p) z c e h = refl

-- one star on what is found
then_same : (n : ℕ) (s t : SetTest) (a b : Lval → Found) (f : Found) → TestsSame n s t → LooksBelow n a → LooksSame n a b → FoundBelow n f → then_found f (star s a) ≡ then_found f (star t b)
then_same n s t a b (found p) z c e h = star_same n s t a b p z c e h
then_same n s t a b undefined z c e h = refl
then_same n s t a b no_target z c e h = refl

-- so many stars
pub stars_same : (n : ℕ) (s t : SetTest) (a b : Lval → Found) (d : ℕ) (p : Piece) → TestsSame n s t → LooksBelow n a → LooksSame n a b → AreBelow n (piece_places p) → stars s a d p ≡ stars t b d p
stars_same n s t a b zero p z c e h = refl
stars_same n s t a b (suc d) p z c e h =
    then_same n s t a b (stars s a d p) z c e (stars_below n s a d p c h)
    ∙ ap (λ f. then_found f (star t b)) (stars_same n s t a b d p z c e h)

-- THE SHAPE OF A PLACE

-- two look-ups of shapes agree on places below n
abbrev pub ShapesSame : ℕ → (Lval → Option Shape) → (Lval → Option Shape) → Type 0
ShapesSame n a b = (u : Lval) → u.slot < n → a u ≡ b u

-- the first place of a set below n
pub first_same : (n : ℕ) (a b : Lval → Option Shape) (us : List Lval) → ShapesSame n a b → AreBelow n us → first_shape a us ≡ first_shape b us
first_same n a b [] e h = refl
first_same n a b (u ∷ us) e h = e u h.0

-- a test of a set below n
have_shape_same : (n : ℕ) (a b : Lval → Option Shape) (x : Option Shape) (us : List Lval) → ShapesSame n a b → AreBelow n us → have_shape a x us ≡ have_shape b x us
have_shape_same n a b x [] e h = refl
have_shape_same n a b x (u ∷ us) e h = ap (λ y. equal_shapes x y && have_shape a x us) (e u h.0) ∙ ap (λ y. equal_shapes x (b u) && y) (have_shape_same n a b x us e h.1)

-- a test of two sets below n
pub one_shape_same : (n : ℕ) (a b : Lval → Option Shape) → ShapesSame n a b → TestsSame n (have_one_shape a) (have_one_shape b)
one_shape_same n a b e us vs h g =
    ap (λ x. have_shape a x us && have_shape a x vs) (first_same n a b us e h)
    ∙ ap (λ x. x && have_shape a (first_shape b us) vs) (have_shape_same n a b (first_shape b us) us e h)
    ∙ ap (λ x. have_shape b (first_shape b us) us && x) (have_shape_same n a b (first_shape b us) vs e g)

-- one more slot changes no shape below it
pub shape_at-push : (s : Slot) (e : Env) (w : Lval) → w.slot < length e → shape_at (s ∷ e) w ≡ shape_at e w
shape_at-push s e w lt = eq_cases (λ b. (if b then stars_shape w.depth (piece_shape (shape_at e) s.part) else shape_at e w) ≡ shape_at e w) w.slot (length e) (λ h. absurd (omega arith)) (λ ne. refl)

-- nor which sets below it have one shape
pub alike-push : (s : Slot) (e : Env) → TestsSame (length e) (alike (s ∷ e)) (alike e)
alike-push s e = one_shape_same (length e) (shape_at (s ∷ e)) (shape_at e) (λ u lt. shape_at-push s e u lt)

-- THE TYPE OF A PLACE

-- the type of a place names only slots below its own
pub type_at_below : (e : Env) (w : Lval) → IsNested e → FoundBelow w.slot (type_at e w)
type_at_below [] w h = tt
type_at_below (s ∷ below) w h =
    eq_cases (λ b. FoundBelow w.slot (if b then stars (alike below) (type_at below) w.depth s.part else type_at below w)) w.slot (length below)
    (λ e. let looks : LooksBelow (length below) (type_at below) = λ u lt. FoundBelow-weaker u.slot (length below) (type_at below u) (omega arith) (type_at_below below u h.1) in
    FoundBelow-weaker (length below) w.slot (stars (alike below) (type_at below) w.depth s.part) (omega arith) (stars_below (length below) (alike below) (type_at below) w.depth s.part looks h.0))
    (λ ne. type_at_below below w h.1)

-- so does that of each place below n
pub looks_below : (e : Env) (n : ℕ) → IsNested e → LooksBelow n (type_at e)
looks_below e n h u lt = FoundBelow-weaker u.slot n (type_at e u) (omega arith) (type_at_below e u h)

-- the slot of that number
abbrev pub slot_at : Env → ℕ → Option Slot
slot_at [] i = None
slot_at (s ∷ below) i = if i == length below then Some s else slot_at below i

-- one more slot changes no place below it
pub type_at-push : (s : Slot) (e : Env) (w : Lval) → w.slot < length e → type_at (s ∷ e) w ≡ type_at e w
type_at-push s e w lt = eq_cases (λ b. (if b then stars (alike e) (type_at e) w.depth s.part else type_at e w) ≡ type_at e w) w.slot (length e) (λ h. absurd (omega arith)) (λ ne. refl)

-- equal options have equal slots
Some-slot : (s t : Slot) → Some s ≡ Some t → s ≡ t
Some-slot s t h = cc

-- a slot that is there has a number below their count
pub slot_at-lt : (e : Env) (i : ℕ) (s : Slot) → slot_at e i ≡ Some s → i < length e
slot_at-lt [] i s h = cc
slot_at-lt (t ∷ below) i s h =
    eq_cases (λ b. (if b then Some t else slot_at below i) ≡ Some s → i < length (t ∷ below)) i (length below)
    (λ e _. omega arith) (λ ne g. let lt = slot_at-lt below i s g in omega arith) h

-- a slot's part names only slots below its own
pub slot_part_below : (e : Env) (i : ℕ) (s : Slot) → IsNested e → slot_at e i ≡ Some s → AreBelow i (piece_places s.part)
slot_part_below [] i s n h = cc
slot_part_below (t ∷ below) i s n h =
    eq_cases (λ b. (if b then Some t else slot_at below i) ≡ Some s → AreBelow i (piece_places s.part)) i (length below)
    (λ e g. subst (λ (x : Slot). AreBelow i (piece_places x.part)) (Some-slot t s g) (AreBelow-weaker (length below) i (piece_places t.part) (omega arith) n.0))
    (λ ne g. slot_part_below below i s n.1 g)
    h

-- a slot's part names only slots that are there
slot_below : (e : Env) (i : ℕ) (s : Slot) → IsNested e → slot_at e i ≡ Some s → AreBelow (length e) (piece_places s.part)
slot_below e i s n h =
    let lt = slot_at-lt e i s h in AreBelow-weaker i (length e) (piece_places s.part) (omega arith) (slot_part_below e i s n h)

-- the type of a place is that of its stars on the slot's part, in the same environment
pub type_at-slot : (e : Env) (i d : ℕ) (s : Slot) → IsNested e → slot_at e i ≡ Some s → type_at e (record { slot = i; depth = d }) ≡ stars (alike e) (type_at e) d s.part
type_at-slot [] i d s n h = cc
type_at-slot (t ∷ below) i d s n h =
    let looks = looks_below below (length below) n.1 in
    let same : LooksSame (length below) (type_at below) (type_at (t ∷ below)) = λ u lt. sym (type_at-push t below u lt) in
    let tests : TestsSame (length below) (alike below) (alike (t ∷ below)) = λ us vs h g. sym (alike-push t below us vs h g) in
    eq_cases (λ b. (if b then Some t else slot_at below i) ≡ Some s → (if b then stars (alike below) (type_at below) d t.part else type_at below (record { slot = i; depth = d })) ≡ stars (alike (t ∷ below)) (type_at (t ∷ below)) d s.part) i (length below)
    (λ e g. stars_same (length below) (alike below) (alike (t ∷ below)) (type_at below) (type_at (t ∷ below)) d t.part tests looks same n.0 ∙ ap (λ x. stars (alike (t ∷ below)) (type_at (t ∷ below)) d x.part) (Some-slot t s g))
    (λ ne g. type_at-slot below i d s n.1 g ∙ stars_same (length below) (alike below) (alike (t ∷ below)) (type_at below) (type_at (t ∷ below)) d s.part tests looks same (slot_below below i s n.1 g))
    h

-- each number below their count has a slot
pub slot_at-some : (e : Env) (i : ℕ) → i < length e → (s : Slot) × (slot_at e i ≡ Some s)
slot_at-some [] i lt = absurd (omega arith)
slot_at-some (t ∷ below) i lt =
    eq_cases (λ b. (s : Slot) × ((if b then Some t else slot_at below i) ≡ Some s)) i (length below) (λ e. (t, refl)) (λ ne. slot_at-some below i (omega arith))

-- one star more
pub type_at-star : (e : Env) (i d : ℕ) → IsNested e → i < length e → type_at e (record { slot = i; depth = suc d }) ≡ then_found (type_at e (record { slot = i; depth = d })) (star (alike e) (type_at e))
type_at-star e i d n lt =
    let (s, h) = slot_at-some e i lt in
    type_at-slot e i (suc d) s n h ∙ ap (λ f. then_found f (star (alike e) (type_at e))) (sym (type_at-slot e i d s n h))
