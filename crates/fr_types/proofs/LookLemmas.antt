-- The type of a place, star by star and place by place.
use Rattle.std.proofs.Common.{◌≡◌, ℕ, zero, suc, ◌+◌, ◌-◌, ◌<◌, ◌≤◌, List, [], ◌∷◌, length, drop, get_or, Result, Err, refl, sym, ap, ◌∙◌, subst, arith}
use Rattle.std.specs.Prelude.{◌==◌, ⊤, if◌then◌else◌}
use Rattle.std.proofs.lemmas.List.{drop_more, drop_all}
use Rattle.fr_base.specs.declared.place.Lval.{Lval}
use Rattle.fr_terms.specs.Terms.{Text}
use Rattle.fr_typing.specs.Kinds.{Piece, SetTest}
use Rattle.fr_typing.specs.Places.{Env, Found, found, undefined, no_target, then_found, join_found, join_all, join_set, star, type_at, alike, put_under, put_at, piece_places, AreBelow, IsNested}
use Rattle.fr_typing.proofs.PlaceLemmas.{eq_cases, FoundBelow, type_at_below, type_at-star}
use Rattle.fr_types.specs.declared.error.TypeError.{TypeError}
use Rattle.fr_types.specs.declared.error.TypeError.TheVariants.{NotDefined, NoTarget, NoMemory}
use Rattle.fr_types.specs.declared.types.Part.{Part}
use Rattle.fr_types.specs.declared.types.Part.TheVariants.{Whole}
use Rattle.fr_types.specs.declared.types.Ty.TheVariants.{Shared, Mut}
use Rattle.fr_types.specs.Types.{piece_of}
use Rattle.fr_types.specs.States.{Held, slot_view, env_of, part_in, put_in, AreNested}
use Rattle.fr_types.specs.Answers.{IsFound}

-- as many slots as there are
pub length-env_of : (names : List Text) (vs : List Held) → length (env_of names vs) ≡ length vs
length-env_of names [] = refl
length-env_of names (s ∷ below) = ap suc (length-env_of names below)

-- the environment is nested
pub nested_env : (names : List Text) (vs : List Held) → AreNested vs → IsNested (env_of names vs)
nested_env names [] h = tt
nested_env names (s ∷ below) h = (subst (λ n. AreBelow n (piece_places s.part)) (sym (length-env_of names below)) h.0, nested_env names below h.1)

-- a place without a star has the part of its slot
pub type_at_slot : (names : List Text) (vs : List Held) (i : ℕ) → i < length vs → type_at (env_of names vs) (record { slot = i; depth = 0 }) ≡ found (part_in vs i)
type_at_slot names [] i lt = absurd (omega arith)
type_at_slot names (s ∷ below) i lt =
    subst (λ n. (if i == n then found s.part else type_at (env_of names below) (record { slot = i; depth = 0 })) ≡ found (if i == length below then s.part else part_in below i)) (sym (length-env_of names below))
    (eq_cases (λ b. (if b then found s.part else type_at (env_of names below) (record { slot = i; depth = 0 })) ≡ found (if b then s.part else part_in below i)) i (length below)
    (λ e. refl) (λ ne. type_at_slot names below i (omega arith)))

-- ERRORS STAY

abbrev pub IsError : Found → Type 0
IsError (found p) = ⊥
IsError undefined = ⊤
IsError no_target = ⊤

then_error : (f : Found) (go : Piece → Found) → IsError f → then_found f go ≡ f
then_error (found p) go h = absurd h
then_error undefined go h = refl
then_error no_target go h = refl

-- under more stars an error stays the same
pub error_stays : (e : Env) (i n k : ℕ) (f : Found) → IsNested e → i < length e → IsError f → type_at e (record { slot = i; depth = n }) ≡ f → type_at e (record { slot = i; depth = k + n }) ≡ f
error_stays e i n zero f h lt err is = let same : n ≡ 0 + n = omega arith in subst (λ m. type_at e (record { slot = i; depth = m }) ≡ f) same is
error_stays e i n (suc k) f h lt err is =
    let next : suc (k + n) ≡ suc k + n = omega arith in
    subst (λ m. type_at e (record { slot = i; depth = m }) ≡ f) next
    (type_at-star e i (k + n) h lt ∙ ap (λ g. then_found g (star (alike e) (type_at e))) (error_stays e i n k f h lt err is) ∙ then_error f (star (alike e) (type_at e)) err)

-- and so the answer that an error is
pub answer_stays : (e : Env) (i n m : ℕ) (r : TypeError) → IsNested e → i < length e → n ≤ m → IsFound (Err r) (type_at e (record { slot = i; depth = n })) → IsFound (Err r) (type_at e (record { slot = i; depth = m }))
answer_stays e i n m NotDefined h lt le is = let k : m - n + n ≡ m = omega arith in subst (λ x. type_at e (record { slot = i; depth = x }) ≡ undefined) k (error_stays e i n (m - n) undefined h lt tt is)
answer_stays e i n m NoTarget h lt le is = let k : m - n + n ≡ m = omega arith in subst (λ x. type_at e (record { slot = i; depth = x }) ≡ no_target) k (error_stays e i n (m - n) no_target h lt tt is)
answer_stays e i n m NoMemory h lt le is = tt

-- STARS

-- one star more on what was found
pub star_step : (e : Env) (i n : ℕ) (p : Piece) → IsNested e → i < length e → type_at e (record { slot = i; depth = n }) ≡ found p → type_at e (record { slot = i; depth = n + 1 }) ≡ star (alike e) (type_at e) p
star_step e i n p h lt is =
    let next : suc n ≡ n + 1 = omega arith in
    subst (λ m. type_at e (record { slot = i; depth = m }) ≡ star (alike e) (type_at e) p) next
    (type_at-star e i n h lt ∙ ap (λ f. then_found f (star (alike e) (type_at e))) is)

-- what is found names only slots below its own
pub found_places : (e : Env) (i n : ℕ) (p : Piece) → IsNested e → type_at e (record { slot = i; depth = n }) ≡ found p → AreBelow i (piece_places p)
found_places e i n p h is = subst (FoundBelow i) is (type_at_below e (record { slot = i; depth = n }) h)

-- the same of the code's slots

pub inside_env : (names : List Text) (vs : List Held) (i : ℕ) → i < length vs → i < length (env_of names vs)
inside_env names vs i lt = subst (λ n. i < n) (sym (length-env_of names vs)) lt

pub start_seen : (names : List Text) (vs : List Held) (i : ℕ) (p q : Piece) → i < length vs → q ≡ part_in vs i → p ≡ q → type_at (env_of names vs) (record { slot = i; depth = 0 }) ≡ found p
start_seen names vs i p q lt is same = type_at_slot names vs i lt ∙ ap found (sym is) ∙ ap found (sym same)

-- SETS

-- a place of a set below n is below n
pub below_at : (n i : ℕ) (us : List Lval) (d : Lval) → AreBelow n us → i < length us → (get_or us i d).slot < n
below_at n i [] d h lt = absurd (omega arith)
below_at n zero (v ∷ us) d h lt = h.0
below_at n (suc i) (v ∷ us) d h lt = below_at n i us d h.1 (omega arith)

-- the first place of a set
pub set_start : (same : SetTest) (look : Lval → Found) (us : List Lval) (d : Lval) (p : Piece) → 0 < length us → look (get_or us 0 d) ≡ found p → join_all same look (found p) (drop 1 us) ≡ join_set same look us
set_start same look [] d p some h = absurd (omega arith)
set_start same look (v ∷ us) d p some h = ap (λ f. join_all same look f us) (sym h)

all_undefined : (same : SetTest) (look : Lval → Found) (us : List Lval) → join_all same look undefined us ≡ undefined
all_undefined same look [] = refl
all_undefined same look (u ∷ us) = all_undefined same look us

all_no_target : (same : SetTest) (look : Lval → Found) (us : List Lval) → join_all same look no_target us ≡ no_target
all_no_target same look [] = refl
all_no_target same look (u ∷ us) = all_no_target same look us

pub set_start_error : (same : SetTest) (look : Lval → Found) (us : List Lval) (d : Lval) (r : TypeError) → 0 < length us → IsFound (Err r) (look (get_or us 0 d)) → IsFound (Err r) (join_set same look us)
set_start_error same look [] d r some h = absurd (omega arith)
set_start_error same look (v ∷ us) d NotDefined some h = ap (λ f. join_all same look f us) h ∙ all_undefined same look us
set_start_error same look (v ∷ us) d NoTarget some h = ap (λ f. join_all same look f us) h ∙ all_no_target same look us
set_start_error same look (v ∷ us) d NoMemory some h = tt

-- one place more
pub set_step : (same : SetTest) (look : Lval → Found) (us : List Lval) (i : ℕ) (d : Lval) (p r : Piece) → i < length us → join_found same (found p) (look (get_or us i d)) ≡ found r → join_all same look (found p) (drop i us) ≡ join_set same look us → join_all same look (found r) (drop (i + 1) us) ≡ join_set same look us
set_step same look us i d p r lt joined so_far =
    ap (λ f. join_all same look f (drop (i + 1) us)) (sym joined)
    ∙ ap (join_all same look (found p)) (sym (drop_more us i d lt))
    ∙ so_far

-- a place without a type, or without a join
pub set_error : (same : SetTest) (look : Lval → Found) (us : List Lval) (i : ℕ) (d : Lval) (p : Piece) (r : TypeError) → i < length us → IsFound (Err r) (join_found same (found p) (look (get_or us i d))) → join_all same look (found p) (drop i us) ≡ join_set same look us → IsFound (Err r) (join_set same look us)
set_error same look us i d p NoMemory lt joined so_far = tt
set_error same look us i d p NotDefined lt joined so_far =
    sym so_far ∙ ap (join_all same look (found p)) (drop_more us i d lt) ∙ ap (λ f. join_all same look f (drop (i + 1) us)) joined ∙ all_undefined same look (drop (i + 1) us)
set_error same look us i d p NoTarget lt joined so_far =
    sym so_far ∙ ap (join_all same look (found p)) (drop_more us i d lt) ∙ ap (λ f. join_all same look f (drop (i + 1) us)) joined ∙ all_no_target same look (drop (i + 1) us)

-- all places are joined
pub set_end : (same : SetTest) (look : Lval → Found) (us : List Lval) (i : ℕ) (p : Piece) → length us ≤ i → join_all same look (found p) (drop i us) ≡ join_set same look us → join_set same look us ≡ found p
set_end same look us i p le so_far = sym so_far ∙ ap (join_all same look (found p)) (drop_all i us le)

-- a star on a reference
pub shared_seen : (same : SetTest) (look : Lval → Found) (p : Part) (us xs : List Lval) (r : Result Part TypeError) → p ≡ Whole (Shared us) → xs ≡ us → IsFound r (join_set same look xs) → IsFound r (star same look (piece_of p))
shared_seen same look p us xs r is e h = subst (λ q. IsFound r (star same look (piece_of q))) (sym is) (subst (λ l. IsFound r (join_set same look l)) e h)

pub mut_seen : (same : SetTest) (look : Lval → Found) (p : Part) (us xs : List Lval) (r : Result Part TypeError) → p ≡ Whole (Mut us) → xs ≡ us → IsFound r (join_set same look xs) → IsFound r (star same look (piece_of p))
mut_seen same look p us xs r is e h = subst (λ q. IsFound r (star same look (piece_of q))) (sym is) (subst (λ l. IsFound r (join_set same look l)) e h)

-- WRITES

-- what is put at a place goes into the part of its slot
pub put_at_slot : (names : List Text) (vs : List Held) (w : Lval) (new : Piece) → env_of names (put_in vs w.slot (put_under w.depth new (part_in vs w.slot))) ≡ put_at (env_of names vs) w new
put_at_slot names [] w new = refl
put_at_slot names (s ∷ below) w new =
    subst (λ n. env_of names (put_in (s ∷ below) w.slot (put_under w.depth new (part_in (s ∷ below) w.slot))) ≡ (if w.slot == n then record { name = (slot_view names s).name; part = put_under w.depth new s.part } ∷ env_of names below else slot_view names s ∷ put_at (env_of names below) w new)) (sym (length-env_of names below))
    (eq_cases (λ b. env_of names (if b then record s { part = put_under w.depth new (if b then s.part else part_in below w.slot) } ∷ below else s ∷ put_in below w.slot (put_under w.depth new (if b then s.part else part_in below w.slot)))
    ≡ (if b then record { name = (slot_view names s).name; part = put_under w.depth new s.part } ∷ env_of names below else slot_view names s ∷ put_at (env_of names below) w new)) w.slot (length below)
    (λ e. refl) (λ ne. ap (λ l. slot_view names s ∷ l) (put_at_slot names below w new)))

pub put_seen : (names : List Text) (vs new : List Held) (w : Lval) (p old put : Piece) → new ≡ put_in vs w.slot put → put ≡ put_under w.depth p old → old ≡ part_in vs w.slot → env_of names new ≡ put_at (env_of names vs) w p
put_seen names vs new w p old put is same at =
    ap (env_of names) (is ∙ ap (put_in vs w.slot) (same ∙ ap (put_under w.depth p) at)) ∙ put_at_slot names vs w p
