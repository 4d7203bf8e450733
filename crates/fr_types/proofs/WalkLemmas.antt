-- Shapes, level by level, are the shapes of places and types.
use Rattle.std.proofs.Common.{◌≡◌, ◌⊎◌, inl, inr, ℕ, zero, suc, ◌+◌, ◌-◌, ◌<◌, ◌≤◌, Bool, true, false, List, [], ◌∷◌, length, get_or, Option, Some, None, Bor, refl, sym, ap, ◌∙◌, subst, arith}
use Rattle.fr_base.specs.declared.place.Lval.{Lval}
use Rattle.fr_terms.specs.Terms.{Text}
use Rattle.std.specs.Prelude.{◌&&◌, drop}
use Rattle.std.proofs.lemmas.List.{drop_more, drop_all}
use Rattle.fr_types.specs.OwnedTypes.{owned_of}
use Rattle.fr_types.specs.declared.types.O.{O}
use Rattle.fr_typing.specs.Kinds.{Owned, unit, int, box, mutex, task, Kind, own, shared, mutable, view, Piece, whole, gone, boxed, map_some}
use Rattle.fr_typing.specs.Places.{Shape, owned_shape, shared_to, mutable_to, same_owned_shape, piece_shape, star_shape, stars_shape, shape_at, kind_places, piece_places, AreBelow, equal_shapes, have_shape, have_one_shape, first_shape, kind_shape}
use Rattle.fr_types.specs.declared.walk.At.{At}
use Rattle.fr_types.specs.declared.walk.At.TheVariants.{InPart, InType, InOwned}
use Rattle.fr_types.specs.declared.walk.Level.{Level}
use Rattle.fr_types.specs.declared.walk.Level.TheVariants.{Unit, Int, Box, Mutex, Task, View, Shared, Mut, Nothing}
use Rattle.fr_types.specs.States.{Held, env_of, part_in, AreNested}
use Rattle.fr_types.specs.ShapeTables.{is_owned_shape}
use Rattle.fr_types.specs.Walks.{at_shape, at_rank, level_shape, level_in, level_rank, target_shape, first_rank, kind_rank, piece_rank, may_go, equal_owned, HoldsOwned}
use Rattle.fr_types.specs.Types.{kind_of, piece_of}
use Rattle.fr_types.proofs.LookLemmas.{inside_env}
use Rattle.fr_types.proofs.ShapeLemmas.{shape_start, shape_star, stars_none, first_place}

-- STARS

-- the inner star first
stars_first : (n : ℕ) (s : Option Shape) → stars_shape (suc n) s ≡ stars_shape n (star_shape s)
stars_first zero s = refl
stars_first (suc n) s = ap star_shape (stars_first n s)

-- so many stars, and then so many more
stars_more : (n d : ℕ) (s : Option Shape) → stars_shape (n + d) s ≡ stars_shape n (stars_shape d s)
stars_more zero d s = let e : 0 + d ≡ d = omega arith in ap (λ m. stars_shape m s) e
stars_more (suc n) d s = let e : suc n + d ≡ suc (n + d) = omega arith in ap (λ m. stars_shape m s) e ∙ ap star_shape (stars_more n d s)

-- one star less is left
pub star_taken : (s a b : Option Shape) (n : ℕ) → 0 < n → star_shape a ≡ b → s ≡ stars_shape n a → s ≡ stars_shape (n - 1) b
star_taken s a b zero lt e is = absurd (omega arith)
star_taken s a b (suc n) lt e is = let p : suc n - 1 ≡ n = omega arith in is ∙ stars_first n a ∙ ap (stars_shape n) e ∙ ap (λ m. stars_shape m b) (sym p)

-- and those of another place come on top
pub stars_added : (s a b : Option Shape) (n d : ℕ) → s ≡ stars_shape n a → a ≡ stars_shape d b → s ≡ stars_shape (n + d) b
stars_added s a b n d is e = is ∙ ap (stars_shape n) e ∙ sym (stars_more n d b)

-- a star leads nowhere
pub no_star : (s a : Option Shape) (n : ℕ) → 0 < n → star_shape a ≡ None → s ≡ stars_shape n a → s ≡ None
no_star s a n lt e is = star_taken s a None n lt e is ∙ stars_none (n - 1)

-- PLACES

-- a place has the shape of its stars on its slot's part
pub place_shaped : (names : List Text) (vs : List Held) (u : Lval) (p : Piece) → AreNested vs → u.slot < length vs → p ≡ part_in vs u.slot → shape_at (env_of names vs) u ≡ stars_shape u.depth (piece_shape (shape_at (env_of names vs)) p)
place_shaped names vs u p h lt is = by u.depth ∙ ap (λ q. stars_shape u.depth (piece_shape (shape_at (env_of names vs)) q)) (sym is)
  where
    by : (d : ℕ) → shape_at (env_of names vs) (record { slot = u.slot; depth = d }) ≡ stars_shape d (piece_shape (shape_at (env_of names vs)) (part_in vs u.slot))
    by zero = shape_start names vs u.slot h lt
    by (suc d) = shape_star (env_of names vs) u.slot d (inside_env names vs u.slot lt) ∙ ap star_shape (by d)

-- LEVELS

-- a star on a box of an owned type
owned_star : (s : Option Shape) → is_owned_shape s ≡ true → star_shape (same_owned_shape s) ≡ s
owned_star (Some (owned_shape o)) h = refl
owned_star (Some (shared_to a)) h = absurd cc
owned_star (Some (mutable_to a)) h = absurd cc
owned_star None h = absurd cc

pub box_star : (look : Lval → Option Shape) (l m : Level) (x : At) → l ≡ Box x → HoldsOwned l → level_shape look m ≡ at_shape look x → star_shape (level_shape look l) ≡ level_shape look m
box_star look l m x is h e =
    let o : HoldsOwned (Box x) = subst HoldsOwned is h in
    ap (λ y. star_shape (level_shape look y)) is ∙ owned_star (at_shape look x) (o look) ∙ sym e

-- what a box holds has no reference
pub box_rank : (l : Level) (x : At) → l ≡ Box x → HoldsOwned l → at_rank x ≡ 0
box_rank l x is h = by x (subst HoldsOwned is h)
  where
    look : Lval → Option Shape
    look u = None

    kind : (k : Kind) → is_owned_shape (kind_shape look k) ≡ true → kind_rank k ≡ 0
    kind (own o) h = refl
    kind (view o) h = absurd cc
    kind (shared []) h = absurd cc
    kind (shared (u ∷ us)) h = absurd cc
    kind (mutable []) h = absurd cc
    kind (mutable (u ∷ us)) h = absurd cc

    piece : (p : Piece) → is_owned_shape (piece_shape look p) ≡ true → piece_rank p ≡ 0
    piece (whole k) h = kind k h
    piece (gone k) h = kind k h
    piece (boxed p) h = refl

    by : (x : At) → HoldsOwned (Box x) → at_rank x ≡ 0
    by (InPart p) h = piece (piece_of p.now) (h look)
    by (InType t) h = kind (kind_of t.now) (h look)
    by (InOwned o) h = refl

shared_back : (s : Option Shape) → star_shape (map_some shared_to s) ≡ s
shared_back None = refl
shared_back (Some x) = refl

mutable_back : (s : Option Shape) → star_shape (map_some mutable_to s) ≡ s
mutable_back None = refl
mutable_back (Some x) = refl

-- a reference that is another one
pub same_reference : (l : Level) (u v : Lval) → u ≡ v → (l ≡ Shared v) ⊎ (l ≡ Mut v) → (l ≡ Shared u) ⊎ (l ≡ Mut u)
same_reference l u v e h = subst (λ w. (l ≡ Shared w) ⊎ (l ≡ Mut w)) (sym e) h

-- a star on a reference
pub reference_star : (look : Lval → Option Shape) (l : Level) (u : Lval) → (l ≡ Shared u) ⊎ (l ≡ Mut u) → star_shape (level_shape look l) ≡ look u
reference_star look l u (inl is) = ap (λ y. star_shape (level_shape look y)) is ∙ shared_back (look u)
reference_star look l u (inr is) = ap (λ y. star_shape (level_shape look y)) is ∙ mutable_back (look u)

pub reference_rank : (l : Level) (u : Lval) → (l ≡ Shared u) ⊎ (l ≡ Mut u) → level_rank l ≡ u.slot + 2
reference_rank l u (inl is) = ap level_rank is
reference_rank l u (inr is) = ap level_rank is

pub reference_target : (look : Lval → Option Shape) (l : Level) (u : Lval) → (l ≡ Shared u) ⊎ (l ≡ Mut u) → target_shape look l ≡ look u
reference_target look l u (inl is) = ap (target_shape look) is
reference_target look l u (inr is) = ap (target_shape look) is

first_below : (n : ℕ) (us : List Lval) → AreBelow n us → first_rank us ≤ n + 1
first_below n [] h = omega arith
first_below n (u ∷ us) h = let lt : u.slot < n = h.0 in omega arith

kind_below : (n : ℕ) (k : Kind) → AreBelow n (kind_places k) → kind_rank k ≤ n + 1
kind_below n (own o) h = omega arith
kind_below n (view o) h = omega arith
kind_below n (shared us) h = first_below n us h
kind_below n (mutable us) h = first_below n us h

-- a part that names only slots below n
pub piece_below : (n : ℕ) (p : Piece) → AreBelow n (piece_places p) → piece_rank p ≤ n + 1
piece_below n (whole k) h = kind_below n k h
piece_below n (gone k) h = kind_below n k h
piece_below n (boxed p) h = omega arith

-- what leads nowhere
pub leads_nowhere : (look : Lval → Option Shape) (l : Level) → ((x : At) → l ≡ Box x → ⊥) → ((o : Bor O) → l ≡ View o → ⊥) → ((u : Lval) → l ≡ Shared u → ⊥) → ((u : Lval) → l ≡ Mut u → ⊥) → star_shape (level_shape look l) ≡ None
leads_nowhere look Unit b v s m = refl
leads_nowhere look Int b v s m = refl
leads_nowhere look (Box x) b v s m = absurd (b x refl)
leads_nowhere look (Mutex o) b v s m = refl
leads_nowhere look (Task o) b v s m = refl
leads_nowhere look (View o) b v s m = absurd (v o refl)
leads_nowhere look (Shared u) b v s m = absurd (s u refl)
leads_nowhere look (Mut u) b v s m = absurd (m u refl)
leads_nowhere look Nothing b v s m = refl

-- EQUAL SHAPES

equal_shared : (s t : Option Shape) → equal_shapes s t ≡ equal_shapes (map_some shared_to s) (map_some shared_to t)
equal_shared None t = refl
equal_shared (Some x) None = refl
equal_shared (Some x) (Some y) = refl

equal_mutable : (s t : Option Shape) → equal_shapes s t ≡ equal_shapes (map_some mutable_to s) (map_some mutable_to t)
equal_mutable None t = refl
equal_mutable (Some x) None = refl
equal_mutable (Some x) (Some y) = refl

-- one level further on both sides
goes_on : (look : Lval → Option Shape) (a b : Level) → may_go a b ≡ true → equal_shapes (target_shape look a) (target_shape look b) ≡ equal_shapes (level_shape look a) (level_shape look b)
goes_on look (Shared u) (Shared v) h = equal_shared (look u) (look v)
goes_on look (Shared u) (View o) h = equal_shared (look u) (Some (owned_shape (owned_of o.now)))
goes_on look (View o) (Shared v) h = equal_shared (Some (owned_shape (owned_of o.now))) (look v)
goes_on look (View o) (View q) h = refl
goes_on look (Mut u) (Mut v) h = equal_mutable (look u) (look v)
goes_on look _ _ h = absurd cc

equal_none : (s : Option Shape) → equal_shapes s None ≡ false
equal_none None = refl
equal_none (Some x) = refl

-- where one side leads to nothing
pub left_ends : (look : Lval → Option Shape) (a b : Level) (o : Option Level) → may_go a b ≡ true → target_shape look a ≡ level_in look o → o ≡ None → false ≡ equal_shapes (level_shape look a) (level_shape look b)
left_ends look a b o h is none = ap (λ s. equal_shapes s (target_shape look b)) (sym (is ∙ ap (level_in look) none)) ∙ goes_on look a b h

pub right_ends : (look : Lval → Option Shape) (a b : Level) (o : Option Level) → may_go a b ≡ true → target_shape look b ≡ level_in look o → o ≡ None → false ≡ equal_shapes (level_shape look a) (level_shape look b)
right_ends look a b o h is none =
    sym (equal_none (target_shape look a))
    ∙ ap (equal_shapes (target_shape look a)) (sym (is ∙ ap (level_in look) none))
    ∙ goes_on look a b h

-- and where both lead on
pub both_go : (look : Lval → Option Shape) (a b x y : Level) (o q : Option Level) → may_go a b ≡ true → target_shape look a ≡ level_in look o → target_shape look b ≡ level_in look q → o ≡ Some x → q ≡ Some y → equal_shapes (level_shape look x) (level_shape look y) ≡ equal_shapes (level_shape look a) (level_shape look b)
both_go look a b x y o q h is at left right =
    ap (λ s. equal_shapes s (level_shape look y)) (sym (is ∙ ap (level_in look) left))
    ∙ ap (equal_shapes (target_shape look a)) (sym (at ∙ ap (level_in look) right))
    ∙ goes_on look a b h

own_left : (o : Owned) (t : Option Shape) → equal_owned (Some (owned_shape o)) t ≡ equal_shapes (Some (owned_shape o)) t
own_left o None = refl
own_left o (Some (owned_shape q)) = refl
own_left o (Some (shared_to a)) = refl
own_left o (Some (mutable_to a)) = refl

own_right : (s : Option Shape) (o : Owned) → equal_owned s (Some (owned_shape o)) ≡ equal_shapes s (Some (owned_shape o))
own_right None o = refl
own_right (Some (owned_shape q)) o = refl
own_right (Some (shared_to a)) o = refl
own_right (Some (mutable_to a)) o = refl

none_right : (s : Option Shape) → equal_owned s None ≡ equal_shapes s None
none_right None = refl
none_right (Some (owned_shape q)) = refl
none_right (Some (shared_to a)) = refl
none_right (Some (mutable_to a)) = refl

box_left : (s t : Option Shape) → equal_owned (same_owned_shape s) t ≡ equal_shapes (same_owned_shape s) t
box_left None t = refl
box_left (Some (owned_shape o)) t = own_left (box o) t
box_left (Some (shared_to a)) t = refl
box_left (Some (mutable_to a)) t = refl

box_right : (s t : Option Shape) → equal_owned s (same_owned_shape t) ≡ equal_shapes s (same_owned_shape t)
box_right s None = none_right s
box_right s (Some (owned_shape o)) = own_right s (box o)
box_right s (Some (shared_to a)) = none_right s
box_right s (Some (mutable_to a)) = none_right s

shared_mutable : (s t : Option Shape) → equal_owned (map_some shared_to s) (map_some mutable_to t) ≡ equal_shapes (map_some shared_to s) (map_some mutable_to t)
shared_mutable None t = refl
shared_mutable (Some x) None = refl
shared_mutable (Some x) (Some y) = refl

mutable_shared : (s t : Option Shape) → equal_owned (map_some mutable_to s) (map_some shared_to t) ≡ equal_shapes (map_some mutable_to s) (map_some shared_to t)
mutable_shared None t = refl
mutable_shared (Some x) None = refl
mutable_shared (Some x) (Some y) = refl

-- where no level is left, the shapes are equal where both are one owned type
pub ends_at : (look : Lval → Option Shape) (a b : Level) → may_go a b ≡ false → equal_owned (level_shape look a) (level_shape look b) ≡ equal_shapes (level_shape look a) (level_shape look b)
ends_at look Unit b h = own_left unit (level_shape look b)
ends_at look Int b h = own_left int (level_shape look b)
ends_at look (Box x) b h = box_left (at_shape look x) (level_shape look b)
ends_at look (Mutex o) b h = own_left (mutex (owned_of o.now)) (level_shape look b)
ends_at look (Task o) b h = own_left (task (owned_of o.now)) (level_shape look b)
ends_at look Nothing b h = refl
ends_at look a Unit h = own_right (level_shape look a) unit
ends_at look a Int h = own_right (level_shape look a) int
ends_at look a (Box x) h = box_right (level_shape look a) (at_shape look x)
ends_at look a (Mutex o) h = own_right (level_shape look a) (mutex (owned_of o.now))
ends_at look a (Task o) h = own_right (level_shape look a) (task (owned_of o.now))
ends_at look a Nothing h = none_right (level_shape look a)
ends_at look (View o) (Mut v) h = shared_mutable (Some (owned_shape (owned_of o.now))) (look v)
ends_at look (Shared u) (Mut v) h = shared_mutable (look u) (look v)
ends_at look (Mut u) (View o) h = mutable_shared (look u) (Some (owned_shape (owned_of o.now)))
ends_at look (Mut u) (Shared v) h = mutable_shared (look u) (look v)
ends_at look (View o) (View q) h = absurd cc
ends_at look (View o) (Shared v) h = absurd cc
ends_at look (Shared u) (View o) h = absurd cc
ends_at look (Shared u) (Shared v) h = absurd cc
ends_at look (Mut u) (Mut v) h = absurd cc

-- what two walks compare
pub compared : (s t x y : Option Shape) (r : Bool) → r ≡ equal_shapes x y → x ≡ s → y ≡ t → r ≡ equal_shapes s t
compared s t x y r is left right = is ∙ ap (λ a. equal_shapes a y) left ∙ ap (equal_shapes s) right

-- SETS

-- each place of a set from one on
pub shape_here : (look : Lval → Option Shape) (s : Option Shape) (us : List Lval) (i : ℕ) (d : Lval) → i < length us → have_shape look s (drop i us) ≡ equal_shapes s (look (get_or us i d)) && have_shape look s (drop (i + 1) us)
shape_here look s us i d lt = ap (have_shape look s) (drop_more us i d lt)

pub shape_gone : (look : Lval → Option Shape) (s : Option Shape) (us : List Lval) (i : ℕ) (d : Lval) (all : Bool) → i < length us → false ≡ equal_shapes s (look (get_or us i d)) → have_shape look s (drop i us) ≡ all → false ≡ all
shape_gone look s us i d all lt other so_far = ap (λ b. b && have_shape look s (drop (i + 1) us)) other ∙ sym (shape_here look s us i d lt) ∙ so_far

pub shape_more : (look : Lval → Option Shape) (s : Option Shape) (us : List Lval) (i : ℕ) (d : Lval) (all : Bool) → i < length us → true ≡ equal_shapes s (look (get_or us i d)) → have_shape look s (drop i us) ≡ all → have_shape look s (drop (i + 1) us) ≡ all
shape_more look s us i d all lt same so_far = ap (λ b. b && have_shape look s (drop (i + 1) us)) same ∙ sym (shape_here look s us i d lt) ∙ so_far

pub shape_end : (look : Lval → Option Shape) (s : Option Shape) (us : List Lval) (i : ℕ) (all : Bool) → length us ≤ i → have_shape look s (drop i us) ≡ all → true ≡ all
shape_end look s us i all le so_far = ap (have_shape look s) (sym (drop_all i us le)) ∙ so_far

-- the test of two sets, by the first place of the one
first_shape_is : (look : Lval → Option Shape) (us xs : List Lval) (d : Lval) → 0 < length us → xs ≡ us → first_shape look us ≡ look (get_or xs 0 d)
first_shape_is look us xs d some same = first_place look us d some ∙ ap (λ l. look (get_or l 0 d)) (sym same)

pub both_tested : (look : Lval → Option Shape) (us vs xs ys zs : List Lval) (d : Lval) (a b : Bool) → 0 < length us → xs ≡ us → ys ≡ us → zs ≡ vs → a ≡ true → a ≡ have_shape look (look (get_or xs 0 d)) ys → b ≡ have_shape look (look (get_or xs 0 d)) zs → b ≡ have_one_shape look us vs
both_tested look us vs xs ys zs d a b some first left right met one two =
    let at = first_shape_is look us xs d some first in
    two
    ∙ ap (λ s. have_shape look s zs) (sym at)
    ∙ ap (have_shape look (first_shape look us)) right
    ∙ ap (λ x. x && have_shape look (first_shape look us) vs) (sym met ∙ one ∙ ap (λ s. have_shape look s ys) (sym at) ∙ ap (have_shape look (first_shape look us)) left)

pub one_fails : (look : Lval → Option Shape) (us vs xs ys : List Lval) (d : Lval) (a : Bool) → 0 < length us → xs ≡ us → ys ≡ us → a ≡ false → a ≡ have_shape look (look (get_or xs 0 d)) ys → a ≡ have_one_shape look us vs
one_fails look us vs xs ys d a some first left fails one =
    let at = first_shape_is look us xs d some first in
    fails
    ∙ ap (λ x. x && have_shape look (first_shape look us) vs) (sym fails ∙ one ∙ ap (λ s. have_shape look s ys) (sym at) ∙ ap (have_shape look (first_shape look us)) left)
