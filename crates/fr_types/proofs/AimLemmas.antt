-- Where slots lead, when one of them has another part.
use Rattle.std.proofs.Common.{◌≡◌, ◌≢◌, ℕ, zero, suc, ◌<◌, Bool, true, false, List, [], ◌∷◌, length, Option, Some, None, refl, sym, ap, ◌∙◌, subst, arith}
use Rattle.std.specs.Prelude.{◌==◌, ◌||◌, ⊤, if◌then◌else◌}
use Rattle.fr_base.specs.declared.place.Lval.{Lval}
use Rattle.fr_typing.specs.Kinds.{own, shared, mutable, view, Piece, whole, gone, boxed}
use Rattle.fr_typing.specs.Places.{piece_places, AreBelow, starts_at, blocks_write, write_blocked}
use Rattle.fr_typing.proofs.PlaceLemmas.{eq_cases}
use Rattle.fr_types.specs.declared.resolved.Starred.{Starred}
use Rattle.fr_types.specs.States.{Held, env_of, part_in, put_in, AreNested}
use Rattle.fr_types.specs.Bases.{under, single, target, from, base, aimed, aim, IsFree}
use Rattle.fr_types.proofs.EnvLemmas.{not_here, is_here, length_put_in, nested-put_in, part_in_below}
use Rattle.fr_types.proofs.BaseLemmas.{StartsBelow, target_below, base_push, aim_push, aim_top, base_under}

-- THE OTHER PARTS

pub part_put_same : (vs : List Held) (x : ℕ) (p : Piece) → x < length vs → part_in (put_in vs x p) x ≡ p
part_put_same [] x p lt = absurd (omega arith)
part_put_same (s ∷ below) x p lt =
    eq_cases (λ b. part_in (if b then record s { part = p } ∷ below else s ∷ put_in below x p) x ≡ p) x (length below)
    (λ e. is_here x (length below) p (part_in below x) e)
    (λ ne. ap (λ n. if x == n then s.part else part_in (put_in below x p) x) (length_put_in below x p)
    ∙ not_here x (length below) s.part (part_in (put_in below x p) x) (omega arith)
    ∙ part_put_same below x p (omega arith))

part_put_other : (vs : List Held) (x y : ℕ) (p : Piece) → y ≢ x → part_in (put_in vs x p) y ≡ part_in vs y
part_put_other [] x y p ne = refl
part_put_other (s ∷ below) x y p ne =
    eq_cases (λ b. part_in (if b then record s { part = p } ∷ below else s ∷ put_in below x p) y ≡ part_in (s ∷ below) y) x (length below)
    (λ e. eq_cases (λ b. (if b then p else part_in below y) ≡ (if b then s.part else part_in below y)) y (length below) (λ e2. absurd (ne (e2 ∙ sym e))) (λ _. refl))
    (λ _. ap (λ n. if y == n then s.part else part_in (put_in below x p) y) (length_put_in below x p)
    ∙ ap (λ q. if y == length below then s.part else q) (part_put_other below x y p ne))

-- WHERE PLACES ARE

-- a place that may be there starts at such a slot
abbrev Starts : (ℕ → Type 0) → Option Starred → Type 0
Starts P None = ⊤
Starts P (Some u) = P u.slot

below_starts : (n : ℕ) (o : Option Starred) → StartsBelow n o → Starts (λ x. x < n) o
below_starts n None h = tt
below_starts n (Some u) h = h

from_same : (P : ℕ → Type 0) (f g : Starred → Starred) (o : Option Starred) (x n : ℕ) → Starts P o → ((u : Starred) → P u.slot → f u ≡ g u) → from f o x n ≡ from g o x n
from_same P f g None x n h same = refl
from_same P f g (Some u) x zero h same = refl
from_same P f g (Some u) x (suc n) h same = same (under u n) h

aimed_same : (P : ℕ → Type 0) (f g : Starred → Starred) (o : Option Starred) → Starts P o → ((u : Starred) → P u.slot → f u ≡ g u) → aimed f o ≡ aimed g o
aimed_same P f g None h same = refl
aimed_same P f g (Some u) h same = ap (λ w. Some w) (same u h)

-- the slot above another list below
base_above : (P : ℕ → Type 0) (s : Held) (below other : List Held) (w : Starred) → length other ≡ length below → Starts P (target s.part) → (w.slot ≢ length below → P w.slot) → ((u : Starred) → P u.slot → base other u ≡ base below u) → base (s ∷ other) w ≡ base (s ∷ below) w
base_above P s below other w len h mine same =
    ap (λ n. if w.slot == n then from (base other) (target s.part) w.slot w.stars else base other w) len
    ∙ eq_cases (λ b. (if b then from (base other) (target s.part) w.slot w.stars else base other w) ≡ (if b then from (base below) (target s.part) w.slot w.stars else base below w)) w.slot (length below)
    (λ _. from_same P (base other) (base below) (target s.part) w.slot w.stars h same)
    (λ ne. same w (mine ne))

-- LOWER SLOTS

base_put_low : (vs : List Held) (x : ℕ) (p : Piece) (w : Starred) → w.slot < x → x < length vs → base (put_in vs x p) w ≡ base vs w
base_put_low [] x p w lt here = refl
base_put_low (s ∷ below) x p w lt here =
    eq_cases (λ b. base (if b then record s { part = p } ∷ below else s ∷ put_in below x p) w ≡ base (s ∷ below) w) x (length below)
    (λ e. base_push (record s { part = p }) below w (omega arith) ∙ sym (base_push s below w (omega arith)))
    (λ ne. base_push s (put_in below x p) w (omega (arith, length_put_in below x p)) ∙ base_put_low below x p w lt (omega arith) ∙ sym (base_push s below w (omega arith)))

-- slots below one with another part lead where they did
pub aim_put_low : (vs : List Held) (x y : ℕ) (p : Piece) → AreNested vs → y < x → x < length vs → aim (put_in vs x p) y ≡ aim vs y
aim_put_low vs x y p h lt here =
    ap (λ q. aimed (base (put_in vs x p)) (target q)) (part_put_other vs x y p (λ e. omega arith))
    ∙ aimed_same (λ n. n < y) (base (put_in vs x p)) (base vs) (target (part_in vs y)) (below_starts y (target (part_in vs y)) (target_below y (part_in vs y) (part_in_below vs y h)))
    (λ u lower. base_put_low vs x p u (omega arith) here)

-- A SLOT THAT NO REFERENCE NAMES

free_test : (u x : ℕ) → ((u == x) || false) ≡ false → u ≢ x
free_test u x h = eq_cases (λ b. (b || false) ≡ false → u ≢ x) u x (λ _ g. absurd cc) (λ ne _. ne) h

single_free : (x : ℕ) (us : List Lval) → starts_at x us ≡ false → Starts (λ n. n ≢ x) (single us)
single_free x [] h = tt
single_free x (u ∷ []) h = free_test u.slot x h
single_free x (u ∷ v ∷ us) h = tt

target_free : (x : ℕ) (p : Piece) → blocks_write x p ≡ false → Starts (λ n. n ≢ x) (target p)
target_free x (whole (own o)) h = tt
target_free x (whole (view o)) h = tt
target_free x (whole (shared us)) h = single_free x us h
target_free x (whole (mutable us)) h = single_free x us h
target_free x (gone k) h = tt
target_free x (boxed p) h = tt

free_part : (x y : ℕ) (vs : List Held) → IsFree x vs → blocks_write x (part_in vs y) ≡ false
free_part x y [] h = refl
free_part x y (s ∷ below) h = eq_cases (λ b. blocks_write x (if b then s.part else part_in below y) ≡ false) y (length below) (λ _. h.0) (λ _. free_part x y below h.1)

base_put_free : (vs : List Held) (x : ℕ) (p : Piece) (w : Starred) → IsFree x vs → w.slot ≢ x → base (put_in vs x p) w ≡ base vs w
base_put_free [] x p w h ne = refl
base_put_free (s ∷ below) x p w h ne =
    eq_cases (λ b. base (if b then record s { part = p } ∷ below else s ∷ put_in below x p) w ≡ base (s ∷ below) w) x (length below)
    (λ e. eq_cases (λ b. (if b then from (base below) (target p) w.slot w.stars else base below w) ≡ (if b then from (base below) (target s.part) w.slot w.stars else base below w)) w.slot (length below)
    (λ e2. absurd (ne (e2 ∙ sym e))) (λ _. refl))
    (λ _. base_above (λ n. n ≢ x) s below (put_in below x p) w (length_put_in below x p) (target_free x s.part h.0) (λ _. ne) (λ u other. base_put_free below x p u h.1 other))

-- other slots lead where they did
pub aim_put_free : (vs : List Held) (x y : ℕ) (p : Piece) → IsFree x vs → y ≢ x → aim (put_in vs x p) y ≡ aim vs y
aim_put_free vs x y p h ne =
    ap (λ q. aimed (base (put_in vs x p)) (target q)) (part_put_other vs x y p ne)
    ∙ aimed_same (λ n. n ≢ x) (base (put_in vs x p)) (base vs) (target (part_in vs y)) (target_free x (part_in vs y) (free_part x y vs h)) (λ u other. base_put_free vs x p u h other)

or_false_left : (a b : Bool) → (a || b) ≡ false → a ≡ false
or_false_left true b h = absurd cc
or_false_left false b h = refl

or_false_right : (a b : Bool) → (a || b) ≡ false → b ≡ false
or_false_right true b h = absurd cc
or_false_right false b h = h

-- as the environment says
pub free_seen : (x : ℕ) (vs : List Held) → write_blocked (env_of [] vs) x ≡ false → IsFree x vs
free_seen x [] h = tt
free_seen x (s ∷ below) h = (or_false_left (blocks_write x s.part) (write_blocked (env_of [] below) x) h, free_seen x below (or_false_right (blocks_write x s.part) (write_blocked (env_of [] below) x) h))

-- A PART THAT LEADS WHERE THE OLD ONE DID

same_some : (u v : Starred) → Some u ≡ Some v → u ≡ v
same_some u v h = cc

from_aims : (below : List Held) (o q : Option Starred) (x n : ℕ) → AreNested below → StartsBelow (length below) o → StartsBelow (length below) q → aimed (base below) o ≡ aimed (base below) q → from (base below) o x n ≡ from (base below) q x n
from_aims below None None x n h lt lt2 e = refl
from_aims below None (Some v) x n h lt lt2 e = absurd cc
from_aims below (Some u) None x n h lt lt2 e = absurd cc
from_aims below (Some u) (Some v) x zero h lt lt2 e = refl
from_aims below (Some u) (Some v) x (suc n) h lt lt2 e = base_under below u v n h lt lt2 (same_some (base below u) (base below v) e)

base_put_aims : (vs : List Held) (x : ℕ) (p : Piece) (w : Starred) → AreNested vs → AreBelow x (piece_places p) → x < length vs → aim (put_in vs x p) x ≡ aim vs x → base (put_in vs x p) w ≡ base vs w
base_put_aims [] x p w h below lt e = absurd (omega arith)
base_put_aims (s ∷ rest) x p w h below lt e =
    eq_cases (λ b. aim (if b then record s { part = p } ∷ rest else s ∷ put_in rest x p) x ≡ aim (s ∷ rest) x → base (if b then record s { part = p } ∷ rest else s ∷ put_in rest x p) w ≡ base (s ∷ rest) w) x (length rest)
    (λ top g.
    let inside = subst (λ n. AreBelow n (piece_places p)) top below in
    let leads : aim (record s { part = p } ∷ rest) (length rest) ≡ aim (s ∷ rest) (length rest) = subst (λ n. aim (record s { part = p } ∷ rest) n ≡ aim (s ∷ rest) n) top g in
    eq_cases (λ b. (if b then from (base rest) (target p) w.slot w.stars else base rest w) ≡ (if b then from (base rest) (target s.part) w.slot w.stars else base rest w)) w.slot (length rest)
    (λ _. from_aims rest (target p) (target s.part) w.slot w.stars h.1 (target_below (length rest) p inside) (target_below (length rest) s.part h.0)
    (sym (aim_top (record s { part = p }) rest inside) ∙ leads ∙ aim_top s rest h.0))
    (λ _. refl))
    (λ ne g.
    let lower : x < length rest = omega arith in
    let nested = nested-put_in rest x p below h.1 in
    let leads = sym (aim_push s (put_in rest x p) x nested (omega (arith, length_put_in rest x p))) ∙ g ∙ aim_push s rest x h.1 lower in
    base_above (λ _. ⊤) s rest (put_in rest x p) w (length_put_in rest x p) (all_start (target s.part)) (λ _. tt) (λ u _. base_put_aims rest x p u h.1 below lower leads))
    e
  where
    all_start : (o : Option Starred) → Starts (λ _. ⊤) o
    all_start None = tt
    all_start (Some u) = tt

aims_all : (f g : Starred → Starred) (o : Option Starred) → ((u : Starred) → f u ≡ g u) → aimed f o ≡ aimed g o
aims_all f g None same = refl
aims_all f g (Some u) same = ap (λ w. Some w) (same u)

-- all slots lead where they did
pub aim_put_aims : (vs : List Held) (x y : ℕ) (p : Piece) → AreNested vs → AreBelow x (piece_places p) → x < length vs → aim (put_in vs x p) x ≡ aim vs x → aim (put_in vs x p) y ≡ aim vs y
aim_put_aims vs x y p h below lt e =
    eq_cases (λ _. aim (put_in vs x p) y ≡ aim vs y) y x
    (λ same. ap (aim (put_in vs x p)) same ∙ e ∙ ap (aim vs) (sym same))
    (λ ne. ap (λ q. aimed (base (put_in vs x p)) (target q)) (part_put_other vs x y p ne)
    ∙ aims_all (base (put_in vs x p)) (base vs) (target (part_in vs y)) (λ u. base_put_aims vs x p u h below lt e))
