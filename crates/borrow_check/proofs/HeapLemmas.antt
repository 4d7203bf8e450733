-- Heap places, as the code finds them.
use Rattle.std.proofs.Common.{◌≡◌, ℕ, zero, suc, ◌+◌, ◌-◌, ◌<◌, ◌≤◌, Bool, true, false, List, [], ◌∷◌, length, drop, get_or, refl, sym, ap, ◌∙◌, subst, arith}
use Rattle.std.specs.Prelude.{◌&&◌, Option, Some, None, Result, Ok, Err, IfOk, if◌then◌else◌}
use Rattle.std.specs.List.{list_all}
use Rattle.fr_base.specs.declared.place.Lval.{Lval}
use Rattle.fr_terms.specs.Terms.{Text}
use Rattle.fr_typing.specs.Kinds.{Owned, unit, int, box, mutex, task, own, shared, mutable, view, map_some, Piece, whole, gone, boxed}
use Rattle.fr_typing.specs.Places.{Slot, Env, Found, found, undefined, no_target, then_found, star, type_at, alike, join_set, leads_to_heap, leads_by_star, is_heap_place, whole_owned, heap_type, piece_places, AreBelow, IsNested}
use Rattle.std.proofs.lemmas.List.{drop_all}
use Rattle.fr_types.specs.declared.types.Part.{Part}
use Rattle.fr_types.specs.declared.types.Part.TheVariants.{Whole}
use Rattle.fr_types.specs.declared.types.Ty.{Ty}
use Rattle.fr_types.specs.declared.types.Ty.TheVariants.{Shared, Mut}
use Rattle.fr_types.specs.declared.resolved.Starred.{Starred}
use Rattle.fr_types.specs.Types.{kind_of, piece_of}
use Rattle.fr_types.specs.Bases.{starred, single, target}
use Rattle.fr_types.specs.States.{Held, env_of, AreNested}
use Rattle.fr_types.proofs.LookLemmas.{nested_env, inside_env}
use Rattle.fr_types.proofs.BaseLemmas.{place, StartsBelow, target_below}
use Rattle.fr_typing.specs.Captures.{by_par, captured_kind}
use Rattle.borrow_check.specs.declared.written.Starter.{Starter}
use Rattle.borrow_check.specs.declared.written.Starter.TheVariants as starter
use Rattle.borrow_check.specs.Capturing.{capturer_of}
use Rattle.fr_typing.proofs.PlaceLemmas.{eq_cases, FoundBelow, type_at_below, type_at-push, type_at-star}

-- a place below stays what it is
heap_push : (s : Slot) (e : Env) (w : Lval) → w.slot < length e → is_heap_place (s ∷ e) w ≡ is_heap_place e w
heap_push s e w lt =
    eq_cases (λ b. (if b then leads_by_star (is_heap_place e) (s ∷ e) w.slot w.depth else is_heap_place e w) ≡ is_heap_place e w) w.slot (length e)
    (λ same. absurd (omega (arith, lt, same))) (λ ne. refl)

-- two tests that agree on places below
abbrev pub Agree : ℕ → (Lval → Bool) → (Lval → Bool) → Type 0
Agree n l m = (u : Lval) → u.slot < n → l u ≡ m u

all_agree : (n : ℕ) (l m : Lval → Bool) (us : List Lval) → Agree n l m → AreBelow n us → list_all l us ≡ list_all m us
all_agree n l m [] h below = refl
all_agree n l m (u ∷ us) h below = ap (λ b. b && list_all l us) (h u below.0) ∙ ap (λ b. m u && b) (all_agree n l m us h below.1)

leads_agree : (n : ℕ) (l m : Lval → Bool) (f : Found) → Agree n l m → FoundBelow n f → leads_to_heap l f ≡ leads_to_heap m f
leads_agree n l m (found (boxed p)) h below = refl
leads_agree n l m (found (gone k)) h below = refl
leads_agree n l m (found (whole (own unit))) h below = refl
leads_agree n l m (found (whole (own int))) h below = refl
leads_agree n l m (found (whole (own (box o)))) h below = refl
leads_agree n l m (found (whole (own (mutex o)))) h below = refl
leads_agree n l m (found (whole (own (task o)))) h below = refl
leads_agree n l m (found (whole (view o))) h below = refl
leads_agree n l m (found (whole (shared us))) h below = all_agree n l m us h below
leads_agree n l m (found (whole (mutable us))) h below = all_agree n l m us h below
leads_agree n l m undefined h below = refl
leads_agree n l m no_target h below = refl

star_agree : (l m : Lval → Bool) (e f : Env) (x d : ℕ) → Agree x l m → IsNested e → ((n : ℕ) → type_at e (record { slot = x; depth = n }) ≡ type_at f (record { slot = x; depth = n })) → leads_by_star l e x d ≡ leads_by_star m f x d
star_agree l m e f x zero h nested same = refl
star_agree l m e f x (suc n) h nested same =
    leads_agree x l m (type_at e (record { slot = x; depth = n })) h (type_at_below e (record { slot = x; depth = n }) nested)
    ∙ ap (leads_to_heap m) (same n)

-- the places that stand there may be looked up in the whole environment
pub heap_look : (e : Env) (w : Lval) → IsNested e → w.slot < length e → is_heap_place e w ≡ leads_by_star (is_heap_place e) e w.slot w.depth
heap_look [] w nested lt = absurd (omega (arith, lt))
heap_look (s ∷ below) w nested lt =
    eq_cases (λ b. (if b then leads_by_star (is_heap_place below) (s ∷ below) w.slot w.depth else is_heap_place below w) ≡ leads_by_star (is_heap_place (s ∷ below)) (s ∷ below) w.slot w.depth) w.slot (length below)
    (λ same. star_agree (is_heap_place below) (is_heap_place (s ∷ below)) (s ∷ below) (s ∷ below) w.slot w.depth (λ u ut. sym (heap_push s below u (omega (arith, ut, same)))) nested (λ n. refl))
    (λ ne.
    let here : w.slot < length below = omega (arith, lt, ne) in
    heap_look below w nested.1 here
    ∙ star_agree (is_heap_place below) (is_heap_place (s ∷ below)) below (s ∷ below) w.slot w.depth (λ u ut. sym (heap_push s below u (omega (arith, ut, here)))) nested.1 (λ n. sym (type_at-push s below (record { slot = w.slot; depth = n }) here)))

less : (look : Lval → Bool) (e : Env) (x d : ℕ) → 0 < d → leads_by_star look e x d ≡ leads_to_heap look (type_at e (record { slot = x; depth = d - 1 }))
less look e x zero some = absurd (omega (arith, some))
less look e x (suc n) some =
    let same : n ≡ suc n - 1 = omega arith in
    ap (λ m. leads_to_heap look (type_at e (record { slot = x; depth = m }))) same

-- what stands there with one star less tells
pub heap_star : (names : List Text) (vs : List Held) (w : Lval) (f : Found) → AreNested vs → w.slot < length vs → 0 < w.depth → type_at (env_of names vs) (record { slot = w.slot; depth = w.depth - 1 }) ≡ f → is_heap_place (env_of names vs) w ≡ leads_to_heap (is_heap_place (env_of names vs)) f
heap_star names vs w f nested lt some is =
    let e = env_of names vs in
    heap_look e w (nested_env names vs nested) (inside_env names vs w.slot lt) ∙ less (is_heap_place e) e w.slot w.depth some ∙ ap (leads_to_heap (is_heap_place e)) is

-- a place without a star isn't one
pub heap_none : (e : Env) (w : Lval) → w.depth ≡ 0 → is_heap_place e w ≡ false
heap_none [] w none = refl
heap_none (s ∷ below) w none =
    eq_cases (λ b. (if b then leads_by_star (is_heap_place below) (s ∷ below) w.slot w.depth else is_heap_place below w) ≡ false) w.slot (length below)
    (λ same. ap (leads_by_star (is_heap_place below) (s ∷ below) w.slot) none) (λ ne. heap_none below w none)

-- A REFERENCE TO ONE PLACE

and_true : (b : Bool) → (b && true) ≡ b
and_true true = refl
and_true false = refl

same_place : (u v : Lval) → Some (starred u) ≡ Some (starred v) → u ≡ v
same_place u v h = ap place (equal (starred u) (starred v) h)
  where
    equal : (a b : Starred) → Some a ≡ Some b → a ≡ b
    equal a b h = cc

all_single : (test : Lval → Bool) (us : List Lval) (u : Lval) → single us ≡ Some (starred u) → list_all test us ≡ test u
all_single test [] u h = absurd cc
all_single test (v ∷ []) u h = and_true (test v) ∙ ap test (same_place v u h)
all_single test (v ∷ w ∷ us) u h = absurd cc

leads_target : (test : Lval → Bool) (p : Piece) (u : Lval) → target p ≡ Some (starred u) → leads_to_heap test (found p) ≡ test u
leads_target test (whole (own o)) u h = absurd cc
leads_target test (whole (view o)) u h = absurd cc
leads_target test (whole (shared us)) u h = all_single test us u h
leads_target test (whole (mutable us)) u h = all_single test us u h
leads_target test (gone k) u h = absurd cc
leads_target test (boxed p) u h = absurd cc

-- it stands below
pub lower : (n : ℕ) (p : Piece) (u : Lval) → AreBelow n (piece_places p) → target p ≡ Some (starred u) → u.slot < n
lower n p u below is = subst (StartsBelow n) is (target_below n p below)

-- under a star a place is in the heap where the one place is that stands there
pub heap_on : (names : List Text) (vs : List Held) (w u : Lval) (p : Piece) → AreNested vs → w.slot < length vs → 0 < w.depth → type_at (env_of names vs) (record { slot = w.slot; depth = w.depth - 1 }) ≡ found p → target p ≡ Some (starred u) → is_heap_place (env_of names vs) w ≡ is_heap_place (env_of names vs) u
heap_on names vs w u p nested lt some is to = heap_star names vs w (found p) nested lt some is ∙ leads_target (is_heap_place (env_of names vs)) p u to

-- a whole value
pub whole_leads : {E : Type 0} (test : Lval → Bool) (p : Part) (t : Ty) (r : Result Bool E) → p ≡ Whole t → IfOk r (λ b. b ≡ leads_to_heap test (found (whole (kind_of t)))) → IfOk r (λ b. b ≡ leads_to_heap test (found (piece_of p)))
whole_leads test p t r is h = subst (λ (q : Part). IfOk r (λ (b : Bool). b ≡ leads_to_heap test (found (piece_of q)))) (sym is) h

-- references to these places
pub shared_leads : {E : Type 0} (test : Lval → Bool) (t : Ty) (us xs : List Lval) (r : Result Bool E) → t ≡ Shared us → xs ≡ us → IfOk r (λ b. b ≡ list_all test xs) → IfOk r (λ b. b ≡ leads_to_heap test (found (whole (kind_of t))))
shared_leads test t us xs r is same h = subst (λ (u : Ty). IfOk r (λ (b : Bool). b ≡ leads_to_heap test (found (whole (kind_of u))))) (sym is) (subst (λ (ys : List Lval). IfOk r (λ (b : Bool). b ≡ list_all test ys)) same h)

pub mut_leads : {E : Type 0} (test : Lval → Bool) (t : Ty) (us xs : List Lval) (r : Result Bool E) → t ≡ Mut us → xs ≡ us → IfOk r (λ b. b ≡ list_all test xs) → IfOk r (λ b. b ≡ leads_to_heap test (found (whole (kind_of t))))
mut_leads test t us xs r is same h = subst (λ (u : Ty). IfOk r (λ (b : Bool). b ≡ leads_to_heap test (found (whole (kind_of u))))) (sym is) (subst (λ (ys : List Lval). IfOk r (λ (b : Bool). b ≡ list_all test ys)) same h)

-- what a shared reference leads to in the heap
pub heap_seen : (e : Env) (x : ℕ) (us : List Lval) → IsNested e → x < length e → type_at e (record { slot = x; depth = 0 }) ≡ found (whole (shared us)) → (if is_heap_place e (record { slot = x; depth = 1 }) then whole_owned (type_at e (record { slot = x; depth = 1 })) else None) ≡ heap_type e us
heap_seen e x us nested lt is =
    let heap : is_heap_place e (record { slot = x; depth = 1 }) ≡ list_all (is_heap_place e) us = heap_look e (record { slot = x; depth = 1 }) nested lt ∙ ap (leads_to_heap (is_heap_place e)) is in
    let there : type_at e (record { slot = x; depth = 1 }) ≡ join_set (alike e) (type_at e) us = type_at-star e x 0 nested lt ∙ ap (λ f. then_found f (star (alike e) (type_at e))) is in
    ap (λ b. if b then whole_owned (type_at e (record { slot = x; depth = 1 })) else None) heap
    ∙ ap (λ f. if list_all (is_heap_place e) us then whole_owned f else None) there

-- one place more of a list
all_step : (test : Lval → Bool) (us : List Lval) (i : ℕ) (d : Lval) → i < length us → list_all test (drop i us) ≡ (test (get_or us i d) && list_all test (drop (i + 1) us))
all_step test [] i d lt = absurd (omega arith)
all_step test (u ∷ us) zero d lt = refl
all_step test (u ∷ us) (suc i) d lt =
    let same : suc (i + 1) ≡ suc i + 1 = omega arith in
    all_step test us i d (omega (arith, lt)) ∙ ap (λ n. test (get_or us i d) && list_all test (drop n (u ∷ us))) same

-- a list of which so many places are in the heap
pub all_next : (test : Lval → Bool) (us : List Lval) (i : ℕ) (d : Lval) (b : Bool) → i < length us → b ≡ test (get_or us i d) → list_all test (drop i us) ≡ list_all test us → list_all test us ≡ (b && list_all test (drop (i + 1) us))
all_next test us i d b lt is so_far = sym so_far ∙ all_step test us i d lt ∙ ap (λ c. c && list_all test (drop (i + 1) us)) (sym is)

pub all_end : (test : Lval → Bool) (us : List Lval) (i : ℕ) → length us ≤ i → list_all test (drop i us) ≡ list_all test us → true ≡ list_all test us
all_end test us i le so_far = ap (list_all test) (sym (drop_all i us le)) ∙ so_far

-- WHAT A THREAD THAT IS WAITED FOR HAS

pub if_ok_map : {A E : Type 0} (P Q : A → Type 0) (r : Result A E) → ((x : A) → P x → Q x) → IfOk r P → IfOk r Q
if_ok_map P Q (Ok x) f h = f x h
if_ok_map P Q (Err e) f h = tt

-- a shared reference into the heap becomes a view
pub shared_sent : (names : List Text) (vs : List Held) (slot : ℕ) (by : Starter) (t : Ty) (us : List Lval) (o : Option Owned) → by ≡ starter.Par → t ≡ Shared us → AreNested vs → slot < length vs →
    o ≡ (if is_heap_place (env_of names vs) (record { slot = slot; depth = 1 }) then whole_owned (type_at (env_of names vs) (record { slot = slot; depth = 1 })) else None) →
    type_at (env_of names vs) (record { slot = slot; depth = 0 }) ≡ found (whole (kind_of t)) → captured_kind (capturer_of by) (env_of names vs) (kind_of t) ≡ map_some view o
shared_sent names vs slot by t us o start is nested lt answer at =
    let e = env_of names vs in
    let here : type_at e (record { slot = slot; depth = 0 }) ≡ found (whole (shared us)) = at ∙ ap (λ (u : Ty). found (whole (kind_of u))) is in
    ap (λ b. captured_kind (capturer_of b) e (kind_of t)) start ∙ ap (λ (u : Ty). captured_kind by_par e (kind_of u)) is
    ∙ ap (map_some view) (sym (answer ∙ heap_seen e slot us (nested_env names vs nested) (inside_env names vs slot lt) here))
