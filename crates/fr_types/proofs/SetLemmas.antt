-- Sets of places: one place more keeps the order.
use Rattle.std.proofs.Common.{◌≡◌, ℕ, suc, ◌+◌, ◌-◌, ◌<◌, ◌≤◌, Bool, true, false, List, [], ◌∷◌, ◌++◌, length, take, drop, get_or, refl, sym, ap, ◌∙◌, subst, arith}
use Rattle.std.specs.Prelude.{if◌then◌else◌}
use Rattle.std.proofs.lemmas.Bool.Decides.{nat_tests}
use Rattle.std.proofs.lemmas.List.{drop_more, drop_all}
use Rattle.std.proofs.lemmas.List.Sums.{prefix_len-le-length}
use Rattle.fr_base.specs.declared.place.Lval.{Lval}
use Rattle.fr_typing.specs.Kinds.{lval_lt, insert_lval, union}
use Rattle.fr_types.specs.Rising.{IsRising, IsPlaceSet, rank}

-- of two places one alone stands before the other
pub lval_lt_one : (u v : Lval) → lval_lt v u ≡ true → lval_lt u v ≡ false
lval_lt_one u v h = grind (arith, nat_tests, h)

there_by : (u v : Lval) (vs : List Lval) (d : Lval) (b : Bool) → (rank u vs < length vs → lval_lt u (get_or vs (rank u vs) d) ≡ false → insert_lval u vs ≡ vs) → lval_lt v u ≡ b → (if b then 1 + rank u vs else 0) < length (v ∷ vs) → lval_lt u (get_or (v ∷ vs) (if b then 1 + rank u vs else 0) d) ≡ false → insert_lval u (v ∷ vs) ≡ v ∷ vs
there_by u v vs d true ih e lt h =
    let one : 1 + rank u vs ≡ suc (rank u vs) = omega arith in
    let same = ih (omega arith) (subst (λ n. lval_lt u (get_or (v ∷ vs) n d) ≡ false) one h) in
    simp (lval_lt_one u v e, e, same)
there_by u v vs d false ih e lt h = simp (e, h)

-- a place that stands at its rank is there already
pub insert_there : (u : Lval) (vs : List Lval) (d : Lval) → rank u vs < length vs → lval_lt u (get_or vs (rank u vs) d) ≡ false → insert_lval u vs ≡ vs
insert_there u [] d lt h = absurd (omega arith)
insert_there u (v ∷ vs) d lt h = there_by u v vs d (lval_lt v u) (insert_there u vs d) refl lt h

new_by : (u v : Lval) (vs : List Lval) (d : Lval) (b : Bool) → ((rank u vs < length vs → lval_lt u (get_or vs (rank u vs) d) ≡ true) → take (rank u vs) vs ++ u ∷ drop (rank u vs) vs ≡ insert_lval u vs) → lval_lt v u ≡ b → ((if b then 1 + rank u vs else 0) < length (v ∷ vs) → lval_lt u (get_or (v ∷ vs) (if b then 1 + rank u vs else 0) d) ≡ true) → take (if b then 1 + rank u vs else 0) (v ∷ vs) ++ u ∷ drop (if b then 1 + rank u vs else 0) (v ∷ vs) ≡ insert_lval u (v ∷ vs)
new_by u v vs d true ih e h =
    let one : suc (rank u vs) ≡ 1 + rank u vs = omega arith in
    let same = ih (λ lt. subst (λ n. lval_lt u (get_or (v ∷ vs) n d) ≡ true) (sym one) (h (omega arith))) in
    let here : v ∷ insert_lval u vs ≡ insert_lval u (v ∷ vs) = simp (lval_lt_one u v e, e) in
    subst (λ n. take n (v ∷ vs) ++ u ∷ drop n (v ∷ vs) ≡ insert_lval u (v ∷ vs)) one (ap (λ l. v ∷ l) same ∙ here)
new_by u v vs d false ih e h = let first : lval_lt u v ≡ true = h (omega arith) in simp first

-- else it goes there
pub insert_new : (u : Lval) (vs : List Lval) (d : Lval) → (rank u vs < length vs → lval_lt u (get_or vs (rank u vs) d) ≡ true) → take (rank u vs) vs ++ u ∷ drop (rank u vs) vs ≡ insert_lval u vs
insert_new u [] d h = refl
insert_new u (v ∷ vs) d h = new_by u v vs d (lval_lt v u) (insert_new u vs d) refl h

after_by : (w u v : Lval) (vs : List Lval) (a b : Bool) → lval_lt w u ≡ true → IsRising (w ∷ v ∷ vs) → (lval_lt v u ≡ true → IsRising (v ∷ insert_lval u vs)) → lval_lt u v ≡ a → lval_lt v u ≡ b → IsRising (w ∷ (if a then u ∷ v ∷ vs else (if b then v ∷ insert_lval u vs else v ∷ vs)))
after_by w u v vs true b lt h ih e f = (lt, (e, h.1))
after_by w u v vs false true lt h ih e f = (h.0, ih f)
after_by w u v vs false false lt h ih e f = h

-- after a place that stands before it the order stays
rising_after : (w u : Lval) (vs : List Lval) → lval_lt w u ≡ true → IsRising (w ∷ vs) → IsRising (w ∷ insert_lval u vs)
rising_after w u [] lt h = (lt, tt)
rising_after w u (v ∷ vs) lt h = after_by w u v vs (lval_lt u v) (lval_lt v u) lt h (λ f. rising_after v u vs f h.1) refl refl

set_by : (u v : Lval) (vs : List Lval) (a b : Bool) → IsRising (v ∷ vs) → lval_lt u v ≡ a → lval_lt v u ≡ b → IsPlaceSet (if a then u ∷ v ∷ vs else (if b then v ∷ insert_lval u vs else v ∷ vs))
set_by u v vs true b h e f = record { some = omega arith; rising = (e, h) }
set_by u v vs false true h e f = record { some = omega arith; rising = rising_after v u vs f h }
set_by u v vs false false h e f = record { some = omega arith; rising = h }

-- a set with one place more is a set
pub insert_set : (u : Lval) (vs : List Lval) → IsPlaceSet vs → IsPlaceSet (insert_lval u vs)
insert_set u [] h = let lt = h.some in absurd (omega arith)
insert_set u (v ∷ vs) h = set_by u v vs (lval_lt u v) (lval_lt v u) h.rising refl refl

-- the last place that is left, and those after it
pub union_step : (us others items : List Lval) (n : ℕ) (u : Lval) → 0 < n → n ≤ length us → u ≡ get_or us (n - 1) u → items ≡ union (drop n us) others → insert_lval u items ≡ union (drop (n - 1) us) others
union_step us others items n u some le is same =
    let next : n - 1 + 1 ≡ n = omega arith in
    ap (insert_lval u) same
    ∙ ap (λ v. insert_lval v (union (drop n us) others)) is
    ∙ ap (λ m. union (get_or us (n - 1) u ∷ drop m us) others) (sym next)
    ∙ ap (λ l. union l others) (sym (drop_more us (n - 1) u (omega arith)))

-- AS THE CODE SEES IT

pub rank_le : (u : Lval) (vs xs : List Lval) (at : ℕ) → at ≡ rank u xs → xs ≡ vs → at ≤ length vs
rank_le u vs xs at is same =
    subst (λ n. n ≤ length vs) (sym (is ∙ ap (rank u) same)) (prefix_len-le-length (λ v. lval_lt v u) vs)

pub there_seen : (u : Lval) (vs xs : List Lval) (at : ℕ) (x : Lval) → at ≡ rank u xs → xs ≡ vs → at < length vs → x ≡ get_or vs at x → lval_lt u x ≡ false → vs ≡ insert_lval u vs
there_seen u vs xs at x is same lt here h =
    let e = is ∙ ap (rank u) same in
    sym (insert_there u vs x (subst (λ n. n < length vs) e lt) (subst (λ n. lval_lt u (get_or vs n x) ≡ false) e (ap (lval_lt u) (sym here) ∙ h)))

pub new_seen : (u : Lval) (vs xs : List Lval) (at : ℕ) (x : Lval) → at ≡ rank u xs → xs ≡ vs → x ≡ get_or vs at x → lval_lt u x ≡ true → take at vs ++ u ∷ drop at vs ≡ insert_lval u vs
new_seen u vs xs at x is same here h =
    let e = is ∙ ap (rank u) same in
    ap (λ n. take n vs ++ u ∷ drop n vs) e
    ∙ insert_new u vs x (λ lt. subst (λ n. lval_lt u (get_or vs n x) ≡ true) e (ap (lval_lt u) (sym here) ∙ h))

pub end_seen : (u : Lval) (vs xs : List Lval) (at : ℕ) → at ≡ rank u xs → xs ≡ vs → length vs ≤ at → take at vs ++ u ∷ drop at vs ≡ insert_lval u vs
end_seen u vs xs at is same le =
    let e = is ∙ ap (rank u) same in
    ap (λ n. take n vs ++ u ∷ drop n vs) e
    ∙ insert_new u vs u (λ lt. let over : length vs ≤ rank u vs = subst (λ n. length vs ≤ n) e le in absurd (omega arith))

-- no place is left
pub union_start : (us others items : List Lval) (n : ℕ) → length us ≤ n → items ≡ others → items ≡ union (drop n us) others
union_start us others items n le same = same ∙ ap (λ l. union l others) (sym (drop_all n us le))
