-- As many rounds as there are references find all that is stale: each round that finds something new makes one reference more count.
use Rattle.std.proofs.Common.{◌≡◌, ◌⊎◌, inl, inr, ⊎_elim, ℕ, zero, suc, ◌≤◌, Bool, true, false, ◌||◌, List, [], ◌∷◌, ◌++◌, length, Option, Some, None, refl, sym, ap, subst, ◌∙◌, arith}
use Rattle.std.specs.Prelude.{nat_le}
use Rattle.std.proofs.lemmas.Bool.Decides.{nat_tests}
use Rattle.server_model.specs.Below.mut_borrow.Refs.{changed}
use Rattle.coherent_memory.specs.Names.{tot, one}
use Rattle.coherent_memory.specs.Things.{Location}
use Rattle.coherent_memory.specs.Stale.{same_location, is_among, Reference, Stale, if_holder, holders, stale_rounds, RoundsLaw}
use Rattle.coherent_memory.proofs.StaleRounds.{or_split, or_left, or_right, among_split, among_right, sound, complete}

-- a reference counts where it is changed or stands at one of these places
abbrev counts : List Location → Reference → Bool
counts ls r = changed r.reference || is_among r.at ls

abbrev counted : List Location → List Reference → ℕ
counted ls rs = tot (λ (r : Reference). one (counts ls r)) rs

abbrev Included : List Location → List Location → Type 0
Included ls ms = (l : Location) → is_among l ls ≡ true → is_among l ms ≡ true

among_left : (l : Location) (xs ys : List Location) → is_among l xs ≡ true → is_among l (xs ++ ys) ≡ true
among_left l [] ys e = absurd (cc e)
among_left l (x ∷ xs) ys e =
    ⊎_elim (λ h. or_left (same_location x l) (is_among l (xs ++ ys)) h) (λ h. or_right (same_location x l) (is_among l (xs ++ ys)) (among_left l xs ys h))
    (or_split (same_location x l) (is_among l xs) e)

-- MORE PLACES

still_counts : (ls ms : List Location) → Included ls ms → (r : Reference) → counts ls r ≡ true → counts ms r ≡ true
still_counts ls ms i r e =
    ⊎_elim (λ c. or_left (changed r.reference) (is_among r.at ms) c) (λ s. or_right (changed r.reference) (is_among r.at ms) (i r.at s)) (or_split (changed r.reference) (is_among r.at ls) e)

one_rises : (p q : Bool) → (p ≡ true → q ≡ true) → one p ≤ one q
one_rises true true f = omega arith
one_rises true false f = let e : false ≡ true = f refl in absurd (cc e)
one_rises false true f = omega arith
one_rises false false f = omega arith

counted_rises : (ls ms : List Location) → Included ls ms → (rs : List Reference) → counted ls rs ≤ counted ms rs
counted_rises ls ms i [] = omega arith
counted_rises ls ms i (r ∷ rs) = omega (arith, one_rises (counts ls r) (counts ms r) (still_counts ls ms i r), counted_rises ls ms i rs)

same_test : (p q : Bool) → (p ≡ true → q ≡ true) → one q ≤ one p → p ≡ q
same_test true true f l = refl
same_test true false f l = sym (f refl)
same_test false true f l = absurd (omega (arith, l))
same_test false false f l = refl

same_holders : (ls ms : List Location) → Included ls ms → (rs : List Reference) → counted ms rs ≤ counted ls rs → holders ls rs ≡ holders ms rs
same_holders ls ms i [] l = refl
same_holders ls ms i (r ∷ rs) l =
    let here : one (counts ls r) ≤ one (counts ms r) = one_rises (counts ls r) (counts ms r) (still_counts ls ms i r) in
    let rest : counted ls rs ≤ counted ms rs = counted_rises ls ms i rs in
    let t : counts ls r ≡ counts ms r = same_test (counts ls r) (counts ms r) (still_counts ls ms i r) (omega (arith, l, rest)) in
    let h : holders ls rs ≡ holders ms rs = same_holders ls ms i rs (omega (arith, l, here)) in
    subst (λ q. if_holder (counts ls r) r.holder (holders ls rs) ≡ if_holder q r.holder (holders ms rs)) t (ap (if_holder (counts ls r) r.holder) h)

holder_rises : (l : Location) (p q : Bool) (h : Option Location) (xs ys : List Location) → (p ≡ true → q ≡ true) → (is_among l xs ≡ true → is_among l ys ≡ true)
    → is_among l (if_holder p h xs) ≡ true → is_among l (if_holder q h ys) ≡ true
holder_rises l true true (Some k) xs ys f g e =
    ⊎_elim (λ s. or_left (same_location k l) (is_among l ys) s) (λ s. or_right (same_location k l) (is_among l ys) (g s)) (or_split (same_location k l) (is_among l xs) e)
holder_rises l true true None xs ys f g e = g e
holder_rises l true false (Some k) xs ys f g e = let c : false ≡ true = f refl in absurd (cc c)
holder_rises l true false None xs ys f g e = g e
holder_rises l false true (Some k) xs ys f g e = or_right (same_location k l) (is_among l ys) (g e)
holder_rises l false true None xs ys f g e = g e
holder_rises l false false (Some k) xs ys f g e = g e
holder_rises l false false None xs ys f g e = g e

holders_rise : (ls ms : List Location) → Included ls ms → (rs : List Reference) → Included (holders ls rs) (holders ms rs)
holders_rise ls ms i [] l e = e
holders_rise ls ms i (r ∷ rs) l e = holder_rises l (counts ls r) (counts ms r) r.holder (holders ls rs) (holders ms rs) (still_counts ls ms i r) (holders_rise ls ms i rs l) e

-- ROUNDS

rising : (lent : List Location) (rs : List Reference) (n : ℕ) → Included (stale_rounds n lent rs) (stale_rounds (suc n) lent rs)
rising lent rs zero l e = among_left l lent (holders lent rs) e
rising lent rs (suc n) l e =
    ⊎_elim (λ h. among_left l lent (holders (stale_rounds (suc n) lent rs) rs) h)
    (λ h. among_right l lent (holders (stale_rounds (suc n) lent rs) rs) (holders_rise (stale_rounds n lent rs) (stale_rounds (suc n) lent rs) (rising lent rs n) rs l h))
    (among_split l lent (holders (stale_rounds n lent rs) rs) e)

-- from that round on nothing is new
abbrev Settled : List Location → List Reference → ℕ → Type 0
Settled lent rs n = holders (stale_rounds n lent rs) rs ≡ holders (stale_rounds (suc n) lent rs) rs

settled : (lent : List Location) (rs : List Reference) (n : ℕ) → counted (stale_rounds (suc n) lent rs) rs ≤ counted (stale_rounds n lent rs) rs → Settled lent rs n
settled lent rs n c = same_holders (stale_rounds n lent rs) (stale_rounds (suc n) lent rs) (rising lent rs n) rs c

none_held : (q : Bool) (h : Option Location) (xs : List Location) → one q ≡ 0 → xs ≡ [] → if_holder q h xs ≡ []
none_held true h xs e z = absurd (omega (arith, e))
none_held false (Some k) xs e z = z
none_held false None xs e z = z

no_holders : (ls : List Location) (rs : List Reference) → counted ls rs ≡ 0 → holders ls rs ≡ []
no_holders ls [] e = refl
no_holders ls (r ∷ rs) e =
    let here : one (counts ls r) ≡ 0 = omega (arith, e) in
    let rest : counted ls rs ≡ 0 = omega (arith, e) in
    none_held (counts ls r) r.holder (holders ls rs) here (no_holders ls rs rest)

none_new : (lent hs : List Location) → hs ≡ [] → Included (lent ++ hs) lent
none_new lent hs z l e =
    ⊎_elim (λ h. h) (λ h. let c : is_among l [] ≡ true = subst (λ xs. is_among l xs ≡ true) z h in absurd (cc c)) (among_split l lent hs e)

settled_first : (lent : List Location) (rs : List Reference) → counted lent rs ≡ 0 → Settled lent rs 0
settled_first lent rs e = settled lent rs 0 (counted_rises (stale_rounds 1 lent rs) lent (none_new lent (holders lent rs) (no_holders lent rs e)) rs)

-- after each round one reference more counts, or nothing is new from some round on
abbrev Reached : List Location → List Reference → ℕ → Type 0
Reached lent rs n = (suc n ≤ counted (stale_rounds n lent rs) rs) ⊎ ((k : ℕ) × ((k ≤ n) × Settled lent rs k))

first_by : (lent : List Location) (rs : List Reference) (m : ℕ) → counted lent rs ≡ m → Reached lent rs 0
first_by lent rs zero e = inr (0, (omega arith, settled_first lent rs e))
first_by lent rs (suc m) e = inl (omega (arith, e))

next_by : (lent : List Location) (rs : List Reference) (n : ℕ) (q : Bool) → nat_le (counted (stale_rounds (suc n) lent rs) rs) (counted (stale_rounds n lent rs) rs) ≡ q
    → suc n ≤ counted (stale_rounds n lent rs) rs → Reached lent rs (suc n)
next_by lent rs n true e g = inr (n, (omega arith, settled lent rs n (grind (arith, nat_tests, e))))
next_by lent rs n false e g =
    let c : suc (counted (stale_rounds n lent rs) rs) ≤ counted (stale_rounds (suc n) lent rs) rs = grind (arith, nat_tests, e) in inl (omega (arith, c, g))

later_too : (lent : List Location) (rs : List Reference) (n : ℕ) → (k : ℕ) × ((k ≤ n) × Settled lent rs k) → Reached lent rs (suc n)
later_too lent rs n s = let l : s.0 ≤ n = s.1.0 in inr (s.0, (omega (arith, l), s.1.1))

reached : (lent : List Location) (rs : List Reference) (n : ℕ) → Reached lent rs n
reached lent rs zero = first_by lent rs (counted lent rs) refl
reached lent rs (suc n) =
    ⊎_elim (λ g. next_by lent rs n (nat_le (counted (stale_rounds (suc n) lent rs) rs) (counted (stale_rounds n lent rs) rs)) refl g) (λ s. later_too lent rs n s) (reached lent rs n)

one_at_most : (q : Bool) → one q ≤ 1
one_at_most true = omega arith
one_at_most false = omega arith

all_count : (ls : List Location) (rs : List Reference) → counted ls rs ≤ length rs
all_count ls [] = omega arith
all_count ls (r ∷ rs) = omega (arith, one_at_most (counts ls r), all_count ls rs)

settles : (lent : List Location) (rs : List Reference) (j : ℕ) → length rs ≡ suc j → (k : ℕ) × ((k ≤ j) × Settled lent rs k)
settles lent rs j e =
    ⊎_elim (λ (g : suc j ≤ counted (stale_rounds j lent rs) rs). (j, (omega arith, settled lent rs j (omega (arith, g, e, all_count (stale_rounds (suc j) lent rs) rs)))))
    (λ (s : (k : ℕ) × ((k ≤ j) × Settled lent rs k)). s) (reached lent rs j)

-- where nothing is new, all later rounds are the same
stays_by : (lent : List Location) (rs : List Reference) (k m : ℕ) → Settled lent rs k → (q : Bool) → nat_le (suc k) m ≡ q → suc k ≤ suc m
    → (suc k ≤ m → stale_rounds m lent rs ≡ stale_rounds (suc k) lent rs) → stale_rounds (suc m) lent rs ≡ stale_rounds (suc k) lent rs
stays_by lent rs k m s true e l go = ap (λ ls. lent ++ holders ls rs) (go (grind (arith, nat_tests, e))) ∙ ap (λ hs. lent ++ hs) (sym s)
stays_by lent rs k m s false e l go =
    let c : suc m ≤ suc k = grind (arith, nat_tests, e) in
    let same : m ≡ k = omega (arith, c, l) in
    ap (λ n. stale_rounds (suc n) lent rs) same

stays : (lent : List Location) (rs : List Reference) (k m : ℕ) → Settled lent rs k → suc k ≤ m → stale_rounds m lent rs ≡ stale_rounds (suc k) lent rs
stays lent rs k zero s l = absurd (omega (arith, l))
stays lent rs k (suc m) s l = stays_by lent rs k m s (nat_le (suc k) m) refl l (stays lent rs k m s)

up_by : (lent : List Location) (rs : List Reference) (n m : ℕ) (q : Bool) → nat_le n m ≡ q → n ≤ suc m → (n ≤ m → Included (stale_rounds n lent rs) (stale_rounds m lent rs))
    → Included (stale_rounds n lent rs) (stale_rounds (suc m) lent rs)
up_by lent rs n m true e l go x a = rising lent rs m x (go (grind (arith, nat_tests, e)) x a)
up_by lent rs n m false e l go x a =
    let c : suc m ≤ n = grind (arith, nat_tests, e) in
    let same : n ≡ suc m = omega (arith, c, l) in
    subst (λ j. is_among x (stale_rounds j lent rs) ≡ true) same a

up_to : (lent : List Location) (rs : List Reference) (n m : ℕ) → n ≤ m → Included (stale_rounds n lent rs) (stale_rounds m lent rs)
up_to lent rs n zero l x a = let same : n ≡ 0 = omega (arith, l) in subst (λ j. is_among x (stale_rounds j lent rs) ≡ true) same a
up_to lent rs n (suc m) l x a = up_by lent rs n m (nat_le n m) refl l (up_to lent rs n m) x a

no_reference : (lent : List Location) (n : ℕ) (l : Location) → is_among l (stale_rounds n lent []) ≡ true → is_among l lent ≡ true
no_reference lent zero l e = e
no_reference lent (suc n) l e = ⊎_elim (λ h. h) (λ h. absurd (cc h)) (among_split l lent [] e)

enough_by : (lent : List Location) (rs : List Reference) (j n : ℕ) (l : Location) → length rs ≡ suc j → (q : Bool) → nat_le n (length rs) ≡ q → is_among l (stale_rounds n lent rs) ≡ true
    → is_among l (stale_rounds (length rs) lent rs) ≡ true
enough_by lent rs j n l z true e a = up_to lent rs n (length rs) (grind (arith, nat_tests, e)) l a
enough_by lent rs j n l z false e a =
    let s = settles lent rs j z in
    let k : s.0 ≤ j = s.1.0 in
    let c : suc (length rs) ≤ n = grind (arith, nat_tests, e) in
    let far : stale_rounds n lent rs ≡ stale_rounds (suc s.0) lent rs = stays lent rs s.0 n s.1.1 (omega (arith, k, c, z)) in
    let near : stale_rounds (length rs) lent rs ≡ stale_rounds (suc s.0) lent rs = stays lent rs s.0 (length rs) s.1.1 (omega (arith, k, z)) in
    subst (λ ls. is_among l ls ≡ true) (far ∙ sym near) a

enough : (lent : List Location) (rs : List Reference) (l : Location) → Stale lent rs l → is_among l (stale_rounds (length rs) lent rs) ≡ true
enough lent [] l s = let p = complete lent [] l s in no_reference lent p.0 l p.1
enough lent (r ∷ rs) l s =
    let p = complete lent (r ∷ rs) l s in
    enough_by lent (r ∷ rs) (length rs) p.0 l (omega arith) (nat_le p.0 (length (r ∷ rs))) refl p.1

pub rounds_law : RoundsLaw
rounds_law = record { sound = sound; complete = complete; enough = enough }
