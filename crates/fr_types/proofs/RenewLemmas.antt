-- The kept targets of slots, as the code changes them.
use Rattle.std.proofs.Common.{◌≡◌, ◌≢◌, ℕ, suc, ◌+◌, ◌*◌, ◌<◌, ◌≤◌, List, [], ◌∷◌, length, get_or, set, Option, Some, None, refl, sym, ap, ◌∙◌, subst, arith, ⊎_elim}
use Rattle.std.proofs.lemmas.Bool.{cases_lt}
use Rattle.std.specs.Prelude.{if◌then◌else◌}
use Rattle.std.proofs.lemmas.List.{get_or-set_same, get_or-set_other, get_or_default, length-set}
use Rattle.fr_base.specs.declared.place.Lval.{Lval}
use Rattle.fr_typing.specs.Kinds.{Piece, whole}
use Rattle.fr_typing.specs.Places.{kind_places, piece_places, AreBelow}
use Rattle.fr_typing.proofs.PlaceLemmas.{eq_cases, AreBelow-weaker}
use Rattle.fr_types.specs.declared.resolved.Starred.{Starred}
use Rattle.fr_types.specs.declared.types.Ty.{Ty}
use Rattle.fr_types.specs.declared.types.Ty.TheVariants.{Shared, Mut}
use Rattle.fr_types.specs.declared.variable.Variable.{Variable}
use Rattle.fr_types.specs.Types.{kind_of, piece_of}
use Rattle.fr_types.specs.States.{Held, part_in, put_in, AreNested}
use Rattle.fr_types.specs.Inside.{newest}
use Rattle.fr_types.specs.Bases.{under, single, target, from, base, aimed, aim, one_star, target_at, IsLow, AreLow, AreAimedBelow, AreAimed, IsFree}
use Rattle.fr_types.proofs.EnvLemmas.{length_put_in, part_in_below, part_in-newest}
use Rattle.fr_types.proofs.LookLemmas.{below_at}
use Rattle.fr_types.proofs.BaseLemmas.{at, base_star, aim_outside}
use Rattle.fr_types.proofs.AimLemmas.{part_put_same, aim_put_free, aim_put_aims}

-- STARS

from_zero : (look : Starred → Starred) (o : Option Starred) (x : ℕ) → at x 0 ≡ from look o x 0
from_zero look None x = refl
from_zero look (Some u) x = refl

-- without a star a place is where it is
pub base_zero : (vs : List Held) (x : ℕ) → at x 0 ≡ base vs (at x 0)
base_zero [] x = refl
base_zero (s ∷ below) x = eq_cases (λ b. at x 0 ≡ (if b then from (base below) (target s.part) x 0 else base below (at x 0))) x (length below) (λ _. from_zero (base below) (target s.part) x) (λ _. base_zero below x)

-- one star more leads no further up, and adds at most one star
pub one_star_low : (t : Option Starred) (a : Starred) → IsLow a.slot t → ((one_star t a).slot ≤ a.slot) × ((one_star t a).stars + 255 * (one_star t a).slot ≤ a.stars + 255 * a.slot + 1)
one_star_low None a h = (omega arith, omega arith)
one_star_low (Some t) a h =
    let low : t.slot < a.slot = h.0 in
    let few : t.stars + 255 * t.slot ≤ 255 * a.slot = h.1 in
    eq_cases (λ b. ((if b then t else under a 1).slot ≤ a.slot) × ((if b then t else under a 1).stars + 255 * (if b then t else under a 1).slot ≤ a.stars + 255 * a.slot + 1)) a.stars 0
    (λ _. (omega arith, omega arith)) (λ _. (omega arith, omega arith))

-- and is one star more on the place
pub one_star_base : (n : ℕ) (vs : List Held) (targets : List (Option Starred)) (a : Starred) (x k : ℕ) → x < n → AreAimedBelow n vs targets → a.slot ≤ x → a ≡ base vs (at x k) → one_star (target_at targets a.slot) a ≡ base vs (at x (k + 1))
one_star_base n vs targets a x k lt h le is =
    let there = h.there in
    let next : suc k ≡ k + 1 = omega arith in
    ap (λ t. one_star t a) (h.right a.slot (omega arith))
    ∙ ap (λ b. one_star (aim vs b.slot) b) is
    ∙ sym (base_star vs (at x k) h.nested (omega arith))
    ∙ ap (λ m. base vs (at x m)) next

-- TARGETS

pub shared_places : (t : Ty) (us xs : List Lval) → t ≡ Shared us → xs ≡ us → kind_places (kind_of t) ≡ xs
shared_places t us xs is same = ap (λ q. kind_places (kind_of q)) is ∙ sym same

pub mut_places : (t : Ty) (us xs : List Lval) → t ≡ Mut us → xs ≡ us → kind_places (kind_of t) ≡ xs
mut_places t us xs is same = ap (λ q. kind_places (kind_of q)) is ∙ sym same

pub shared_target : (t : Ty) (us xs : List Lval) → t ≡ Shared us → xs ≡ us → single xs ≡ target (whole (kind_of t))
shared_target t us xs is same = ap single same ∙ sym (ap (λ q. target (whole (kind_of q))) is)

pub mut_target : (t : Ty) (us xs : List Lval) → t ≡ Mut us → xs ≡ us → single xs ≡ target (whole (kind_of t))
mut_target t us xs is same = ap single same ∙ sym (ap (λ q. target (whole (kind_of q))) is)

-- the target of a place below
pub low_seen : (x : ℕ) (us : List Lval) (d : Lval) (t : Starred) → 0 < length us → t.slot ≤ (get_or us 0 d).slot → t.stars + 255 * t.slot ≤ 255 * (get_or us 0 d).slot + 255 → AreBelow x us → IsLow x (Some t)
low_seen x us d t some slot stars h =
    let lt : (get_or us 0 d).slot < x = below_at x 0 us d h some in (omega arith, omega arith)

-- ANOTHER TARGET

pub set_same : (targets : List (Option Starred)) (x : ℕ) (t : Option Starred) → x < length targets → target_at (set targets x t) x ≡ t
set_same targets x t lt = get_or-set_same targets x t None lt

pub set_other : (targets : List (Option Starred)) (x y : ℕ) (t : Option Starred) → y ≢ x → target_at (set targets x t) y ≡ target_at targets y
set_other targets x y t ne = get_or-set_other targets x y t None ne

pub low_set : (targets : List (Option Starred)) (x : ℕ) (t : Option Starred) → AreLow targets → IsLow x t → x < length targets → AreLow (set targets x t)
low_set targets x t h low lt y =
    eq_cases (λ _. IsLow y (target_at (set targets x t) y)) y x
    (λ e. subst (λ z. IsLow z (target_at (set targets x t) z)) (sym e) (subst (IsLow x) (sym (set_same targets x t lt)) low))
    (λ ne. subst (IsLow y) (sym (set_other targets x y t ne)) (h y))

-- one slot more is known
pub aimed_next : (n : ℕ) (vs : List Held) (targets : List (Option Starred)) (t : Option Starred) → AreAimedBelow n vs targets → n < length vs → n < length targets → t ≡ aim vs n → AreAimedBelow (n + 1) vs (set targets n t)
aimed_next n vs targets t h lt lt2 is = record {
  nested = h.nested;
  there = omega arith;
  right = λ x le. eq_cases (λ _. target_at (set targets n t) x ≡ aim vs x) x n
      (λ e. ap (target_at (set targets n t)) e ∙ set_same targets n t lt2 ∙ is ∙ ap (aim vs) (sym e))
      (λ ne. set_other targets n x t ne ∙ h.right x (omega arith));
}

pub above_next : (targets first : List (Option Starred)) (n : ℕ) (t : Option Starred) → ((x : ℕ) → n ≤ x → target_at targets x ≡ target_at first x) → (x : ℕ) → n + 1 ≤ x → target_at (set targets n t) x ≡ target_at first x
above_next targets first n t h x le = set_other targets n x t (λ e. omega arith) ∙ h x (omega arith)

-- where the code's slot leads
pub aim_seen : (vs : List Variable) (n : ℕ) (d : Variable) (t : Option Starred) → n < length vs → t ≡ aimed (base (newest vs)) (target (piece_of (get_or vs n d).part)) → t ≡ aim (newest vs) n
aim_seen vs n d t lt is = is ∙ ap (λ p. aimed (base (newest vs)) (target p)) (sym (part_in-newest vs n d lt))

pub slot_below : (vs : List Variable) (n : ℕ) (d : Variable) → AreNested (newest vs) → n < length vs → AreBelow n (piece_places (piece_of (get_or vs n d).part))
slot_below vs n d h lt = subst (λ p. AreBelow n (piece_places p)) (part_in-newest vs n d lt) (part_in_below (newest vs) n h)

pub slot_inside : (vs : List Variable) (n m : ℕ) (d : Variable) → AreNested (newest vs) → n < length vs → length vs ≤ m → AreBelow m (piece_places (piece_of (get_or vs n d).part))
slot_inside vs n m d h lt le = AreBelow-weaker n m (piece_places (piece_of (get_or vs n d).part)) (omega arith) (slot_below vs n d h lt)

-- AFTER A SLOT HAS ANOTHER PART

part_below : (vs new : List Held) (x : ℕ) (p : Piece) → AreNested new → new ≡ put_in vs x p → x < length vs → AreBelow x (piece_places p)
part_below vs new x p h is lt = subst (λ q. AreBelow x (piece_places q)) (ap (λ l. part_in l x) is ∙ part_put_same vs x p lt) (part_in_below new x h)

same_count : (vs new : List Held) (x : ℕ) (p : Piece) → new ≡ put_in vs x p → length new ≡ length vs
same_count vs new x p is = ap length is ∙ length_put_in vs x p

-- it leads where it did
pub renew_same : (vs new : List Held) (x : ℕ) (p : Piece) (targets : List (Option Starred)) (t : Option Starred) → x < length new → AreNested new → AreNested vs → new ≡ put_in vs x p → AreAimed vs targets → t ≡ aim new x → t ≡ target_at targets x → AreAimed new targets
renew_same vs new x p targets t lt nested old is h leads same =
    let count = same_count vs new x p is in
    let here : x < length vs = omega arith in
    let mine : aim (put_in vs x p) x ≡ aim vs x = ap (λ l. aim l x) (sym is) ∙ sym leads ∙ same ∙ h.right x in record {
      room = let room = h.room in omega arith;
      low = h.low;
      right = λ y. h.right y ∙ sym (aim_put_aims vs x y p old (part_below vs new x p nested is here) here mine) ∙ ap (λ l. aim l y) (sym is);
    }

-- no reference leads to it
pub renew_free : (vs new : List Held) (x : ℕ) (p : Piece) (targets : List (Option Starred)) (t : Option Starred) → x < length new → new ≡ put_in vs x p → AreAimed vs targets → t ≡ aim new x → IsLow x t → IsFree x vs → AreAimed new (set targets x t)
renew_free vs new x p targets t lt is h leads low free =
    let count = same_count vs new x p is in
    let room = h.room in
    let here : x < length targets = omega arith in record {
      room = omega (arith, length-set targets x t);
      low = low_set targets x t h.low low here;
      right = λ y. eq_cases (λ _. target_at (set targets x t) y ≡ aim new y) y x
          (λ e. ap (target_at (set targets x t)) e ∙ set_same targets x t here ∙ leads ∙ ap (aim new) (sym e))
          (λ ne. set_other targets x y t ne ∙ h.right y ∙ sym (aim_put_free vs x y p free ne) ∙ ap (λ l. aim l y) (sym is));
    }

-- all slots above it are looked at again
pub renew_all : (vs new : List Held) (x n : ℕ) (p : Piece) (targets last : List (Option Starred)) (t : Option Starred) → x < length new → n ≡ length new → new ≡ put_in vs x p → AreAimed vs targets → AreLow last → length last ≡ length (set targets x t) → AreAimedBelow n new last → ((y : ℕ) → n ≤ y → target_at last y ≡ target_at (set targets x t) y) → AreAimed new last
renew_all vs new x n p targets last t lt all is h low len below above =
    let count = same_count vs new x p is in
    let room = h.room in record {
      room = omega (arith, length-set targets x t);
      low = low;
      right = λ y. by y;
    }
  where
    outside : (y : ℕ) → length new ≤ y → target_at last y ≡ aim new y
    outside y le =
        let count = same_count vs new x p is in
        above y (omega arith) ∙ set_other targets x y t (λ e. omega arith) ∙ h.right y ∙ aim_outside vs y (omega arith) ∙ sym (aim_outside new y le)

    by : (y : ℕ) → target_at last y ≡ aim new y
    by y = ⊎_elim (λ (inside : y < length new). below.right y (omega arith)) (λ (le : length new ≤ y). outside y le) (cases_lt y (length new))

pub target_seen : (targets : List (Option Starred)) (x : ℕ) (t old : Option Starred) → x < length targets → old ≡ get_or targets x old → t ≡ old → t ≡ target_at targets x
target_seen targets x t old lt is same = same ∙ is ∙ sym (get_or_default targets x None old lt)
