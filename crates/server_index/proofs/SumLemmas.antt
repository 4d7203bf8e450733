-- Sums of the first of some counts, once a count is read or changed.
use Rattle.std.proofs.Common.{◌≡◌, ℕ, zero, suc, ◌+◌, ◌-◌, ◌*◌, ◌<◌, ◌≤◌, Bool, true, false, nat_lt, List, [], ◌∷◌, ◌++◌, length, get_or, set, replicate, Vec, Result, Ok, Err, OnOk, OnErr, refl, sym, subst, ap, ◌∙◌, arith}
use Rattle.std.proofs.lemmas.Bool.{ltb-true, ltb-false}
use Rattle.std.proofs.lemmas.List.{length-set, length-map, length-append, length-replicate, map-append, get_or-map, get_or_read_under}
use Rattle.std.specs.declared.alloc.Global.{Global}
use Rattle.server_index.specs.Lists.{lists}
use Rattle.server_index.specs.Sums.{before, IsAbove, AreAbove, counts}

-- of no count the sum is 0
pub before_none : (cs : List ℕ) → before cs 0 ≡ 0
before_none [] = refl
before_none (c ∷ cs) = refl

-- with the next count the sum is as much more
pub before_next : (cs : List ℕ) (n : ℕ) → before cs (n + 1) ≡ before cs n + get_or cs n 0
before_next cs n = ap (before cs) (next n) ∙ by cs n
  where
    next : (n : ℕ) → n + 1 ≡ suc n
    next n = omega arith

    by : (cs : List ℕ) (n : ℕ) → before cs (suc n) ≡ before cs n + get_or cs n 0
    by [] n = refl
    by (c ∷ cs) zero = let none = before_none cs in omega (arith, none)
    by (c ∷ cs) (suc n) = let rest = by cs n in omega (arith, rest)

-- past the end it is that of all counts
pub before_past : (cs : List ℕ) (n : ℕ) → length cs ≤ n → before cs n ≡ before cs (length cs)
before_past [] n h = refl
before_past (c ∷ cs) zero h = absurd (omega (arith, h))
before_past (c ∷ cs) (suc n) h = ap (λ m. c + m) (before_past cs n (omega (arith, h)))

-- that of more counts isn't less
pub before_grows : (cs : List ℕ) (m n : ℕ) → m ≤ n → before cs m ≤ before cs n
before_grows [] m n h = omega arith
before_grows (c ∷ cs) zero n h = omega arith
before_grows (c ∷ cs) (suc m) zero h = absurd (omega (arith, h))
before_grows (c ∷ cs) (suc m) (suc n) h = let rest = before_grows cs m n (omega (arith, h)) in omega (arith, rest)

-- where the sum is less than that of all there is a next count
pub inside : (cs : List ℕ) (n r : ℕ) → before cs n + r < before cs (length cs) → n < length cs
inside cs n r h = by (nat_lt n (length cs)) refl
  where
    by : (b : Bool) → nat_lt n (length cs) ≡ b → n < length cs
    by true e = ltb-true n (length cs) e
    by false e = let past = before_past cs n (ltb-false n (length cs) e) in absurd (omega (arith, past, h))

-- no count is more than the sum of all
pub count_most : (cs : List ℕ) (i c : ℕ) → i < length cs → c ≡ get_or cs i c → c ≤ before cs (length cs)
count_most cs i c h read =
    let here = get_or_read_under cs i (length cs) c 0 read h refl in
    let next = before_next cs i in
    let most = before_grows cs (i + 1) (length cs) (omega (arith, h)) in
    omega (arith, here, next, most)

-- counts of 0 more change no sum
pub before_more : (cs : List ℕ) (k n : ℕ) → before (cs ++ replicate k 0) n ≡ before cs n
before_more [] k n = by k n
  where
    by : (k n : ℕ) → before (replicate k 0) n ≡ 0
    by zero n = refl
    by (suc k) zero = refl
    by (suc k) (suc n) = let rest = by k n in omega (arith, rest)
before_more (c ∷ cs) k zero = refl
before_more (c ∷ cs) k (suc n) = ap (λ m. c + m) (before_more cs k n)

-- another count changes no sum of those before it
set_later : (cs : List ℕ) (i x n : ℕ) → n ≤ i → before (set cs i x) n ≡ before cs n
set_later [] i x n h = refl
set_later (c ∷ cs) i x zero h = before_none (set (c ∷ cs) i x)
set_later (c ∷ cs) zero x (suc n) h = absurd (omega (arith, h))
set_later (c ∷ cs) (suc i) x (suc n) h = ap (λ m. c + m) (set_later cs i x n (omega (arith, h)))

-- and the others by the difference
pub set_within : (cs : List ℕ) (i x n : ℕ) → i < n → i < length cs → before (set cs i x) n + get_or cs i 0 ≡ before cs n + x
set_within [] i x n h l = absurd (omega (arith, l))
set_within (c ∷ cs) i x zero h l = absurd (omega (arith, h))
set_within (c ∷ cs) zero x (suc n) h l = omega arith
set_within (c ∷ cs) (suc i) x (suc n) h l = let rest = set_within cs i x n (omega (arith, h)) (omega (arith, l)) in omega (arith, rest)

-- the upper sum of all is the lower one
pub above_all : (lower upper : List ℕ) → IsAbove lower upper → before upper (length upper) ≡ before lower (length lower)
above_all lower upper a = a.sums (length upper) ∙ before_past lower (length upper * 16) a.long

-- sums of 0 more change nothing
pub taller : (lower upper : List ℕ) (k : ℕ) → IsAbove lower upper → IsAbove lower (upper ++ replicate k 0)
taller lower upper k a =
    let more = length-append upper (replicate k 0) in
    let long = a.long in
    record { sums = λ n. before_more upper k n ∙ a.sums n; long = omega (arith, more, long) }

-- nor do counts of 0 more, as far as there are sums above them
pub wider : (lower upper : List ℕ) (n m : ℕ) → IsAbove lower upper → n ≤ m * 16 → IsAbove (lower ++ replicate (n - length lower) 0) (upper ++ replicate (m - length upper) 0)
wider lower upper n m a h =
    let low = length-append lower (replicate (n - length lower) 0) in
    let low_more = length-replicate {A = ℕ} (n - length lower) 0 in
    let high = length-append upper (replicate (m - length upper) 0) in
    let high_more = length-replicate {A = ℕ} (m - length upper) 0 in
    let long = a.long in
    record { sums = λ n2. before_more upper (m - length upper) n2 ∙ a.sums n2 ∙ sym (before_more lower (n - length lower) (n2 * 16)); long = omega (arith, low, low_more, high, high_more, long, h) }

-- counts that were to be more, where memory may have lacked
pub either_way : {X E : Type 0} (P : List ℕ → Type 0) (r : Result X E) (old more new : List ℕ) → OnOk r (new ≡ more) → OnErr r (new ≡ old) → P more → P old → P new
either_way P (Ok x) old more new is kept p q = subst P (sym is) p
either_way P (Err e) old more new is kept p q = subst P (sym kept) q

-- a count isn't more than the sum above it
pub upper_least : (lower upper : List ℕ) (i q : ℕ) → IsAbove lower upper → q * 16 ≤ i → i < q * 16 + 16 → get_or lower i 0 ≤ get_or upper q 0
upper_least lower upper i q a from to =
    let here = before_next lower i in
    let over = before_next upper q in
    let start = a.sums q in
    let end = a.sums (q + 1) in
    let low = before_grows lower (q * 16) i from in
    let high = before_grows lower (i + 1) ((q + 1) * 16) (omega (arith, to)) in
    omega (arith, here, over, start, end, low, high)

-- and there is one above it
pub upper_inside : (lower upper : List ℕ) (i q : ℕ) → IsAbove lower upper → q * 16 ≤ i → i < length lower → q < length upper
upper_inside lower upper i q a from h = let long = a.long in omega (arith, from, h, long)

-- a count and the sum above it that change by the same leave sums
pub adjusted : (lower upper : List ℕ) (i q less more : ℕ) → IsAbove lower upper → q * 16 ≤ i → i < q * 16 + 16 → i < length lower → less ≤ get_or lower i 0
    → IsAbove (set lower i (get_or lower i 0 - less + more)) (set upper q (get_or upper q 0 - less + more))
adjusted lower upper i q less more a from to h least =
    record { sums = λ n. by n (nat_lt q n) refl; long = let low = length-set lower i (get_or lower i 0 - less + more) in let high = length-set upper q (get_or upper q 0 - less + more) in let long = a.long in omega (arith, low, high, long) }
  where
    by : (n : ℕ) (b : Bool) → nat_lt q n ≡ b → before (set upper q (get_or upper q 0 - less + more)) n ≡ before (set lower i (get_or lower i 0 - less + more)) (n * 16)
    by n true e =
        let later = ltb-true q n e in
        let high = set_within upper q (get_or upper q 0 - less + more) n later (upper_inside lower upper i q a from h) in
        let low = set_within lower i (get_or lower i 0 - less + more) (n * 16) (omega (arith, later, to)) h in
        let same = a.sums n in
        let most = upper_least lower upper i q a from to in
        omega (arith, high, low, same, most, least)
    by n false e =
        let sooner = ltb-false q n e in
        set_later upper q (get_or upper q 0 - less + more) n sooner ∙ a.sums n ∙ sym (set_later lower i (get_or lower i 0 - less + more) (n * 16) (omega (arith, sooner, from)))

-- the first of the levels above a lower one is above it, and the others above that
pub first_above : (lower : List ℕ) (levels rest : List (Vec ℕ Global)) (level : Vec ℕ Global) (upper : List ℕ) → levels ≡ level ∷ rest → upper ≡ level.items → AreAbove (lower ∷ lists levels) → IsAbove lower upper × AreAbove (upper ∷ lists rest)
first_above lower levels rest level upper is read a = subst (λ us. IsAbove lower us × AreAbove (us ∷ lists rest)) (sym read) (subst (λ ls. AreAbove (lower ∷ lists ls)) is a)

-- the last of some levels has the sum of all counts
pub last_all : (ls : List (List ℕ)) (i : ℕ) → length ls ≡ i + 1 → AreAbove ls → before (get_or ls i []) (length (get_or ls i [])) ≡ before (counts ls) (length (counts ls))
last_all [] i h a = absurd (omega (arith, h))
last_all (l ∷ ls) zero h a = refl
last_all (l ∷ []) (suc i) h a = absurd (omega (arith, h))
last_all (l ∷ m ∷ ls) (suc i) h a = last_all (m ∷ ls) i (omega (arith, h)) a.1 ∙ above_all l m a.0

-- one level more, above the last of them
pub above_more : (ls : List (List ℕ)) (u : List ℕ) (i : ℕ) → length ls ≡ i + 1 → AreAbove ls → IsAbove (get_or ls i []) u → AreAbove (ls ++ u ∷ [])
above_more [] u i h a b = absurd (omega (arith, h))
above_more (l ∷ []) u zero h a b = (b, (tt, tt))
above_more (l ∷ []) u (suc i) h a b = absurd (omega (arith, h))
above_more (l ∷ m ∷ ls) u zero h a b = absurd (omega (arith, h))
above_more (l ∷ m ∷ ls) u (suc i) h a b = (a.0, above_more (m ∷ ls) u i (omega (arith, h)) a.1 b)

-- and the counts stay the same
pub counts_more : (ls : List (List ℕ)) (u : List ℕ) → 0 < length ls → counts (ls ++ u ∷ []) ≡ counts ls
counts_more [] u h = absurd (omega (arith, h))
counts_more (l ∷ ls) u h = refl

-- so far each sum is that of its sixteen counts, as far as those were summed
pub record AreSums (cs sums : List ℕ) (i : ℕ) : Type 0 where
  pub whole : (n : ℕ) → n * 16 ≤ i → before sums n ≡ before cs (n * 16)
  pub part : (n : ℕ) → i ≤ n * 16 → before sums n ≡ before cs i
  pub long : length cs < length sums * 16

-- at first all are 0
pub no_sums : (cs old sums : List ℕ) (k : ℕ) → old ≡ [] → sums ≡ old ++ replicate (k - length old) 0 → length cs < k * 16 → AreSums cs sums 0
no_sums cs old sums k empty is h = record { whole = λ n le. none n ∙ sym (before_none cs) ∙ ap (before cs) (at_start n le); part = λ n le. none n ∙ sym (before_none cs); long = omega (arith, h, long, ap length empty) }
  where
    long : length sums ≡ length old + (k - length old)
    long = ap length is ∙ length-append old (replicate (k - length old) 0) ∙ ap (λ n. length old + n) (length-replicate {A = ℕ} (k - length old) 0)

    none : (n : ℕ) → before sums n ≡ 0
    none n = ap (λ us. before us n) is ∙ before_more old (k - length old) n ∙ ap (λ us. before us n) empty

    at_start : (n : ℕ) → n * 16 ≤ 0 → 0 ≡ n * 16
    at_start n le = omega (arith, le)

-- the next count fits on its sum
pub sum_fits : (cs sums : List ℕ) (i q : ℕ) → AreSums cs sums i → i < q * 16 + 16 → i < length cs → get_or sums q 0 + get_or cs i 0 ≤ before cs (length cs)
sum_fits cs sums i q a to h =
    let over = before_next sums q in
    let end = a.part (q + 1) (omega (arith, to)) in
    let here = before_next cs i in
    let most = before_grows cs (i + 1) (length cs) (omega (arith, h)) in
    omega (arith, over, end, here, most)

-- and is part of it then
pub next_sum : (cs sums : List ℕ) (i q : ℕ) → AreSums cs sums i → q * 16 ≤ i → i < q * 16 + 16 → i < length cs → AreSums cs (set sums q (get_or sums q 0 + get_or cs i 0)) (i + 1)
next_sum cs sums i q a from to h =
    record { whole = λ n le. by n le (nat_lt q n) refl; part = λ n le. later n (omega (arith, from, le)); long = let same = length-set sums q (get_or sums q 0 + get_or cs i 0) in let long = a.long in omega (arith, same, long) }
  where
    later : (n : ℕ) → q < n → before (set sums q (get_or sums q 0 + get_or cs i 0)) n ≡ before cs (i + 1)
    later n lt =
        let long = a.long in
        let more = set_within sums q (get_or sums q 0 + get_or cs i 0) n lt (omega (arith, from, h, long)) in
        let past = a.part n (omega (arith, lt, to)) in
        let here = before_next cs i in
        omega (arith, more, past, here)

    at_end : (n : ℕ) → n * 16 ≤ i + 1 → q < n → i + 1 ≡ n * 16
    at_end n le lt = omega (arith, le, lt, to)

    by : (n : ℕ) → n * 16 ≤ i + 1 → (b : Bool) → nat_lt q n ≡ b → before (set sums q (get_or sums q 0 + get_or cs i 0)) n ≡ before cs (n * 16)
    by n le true e = let lt = ltb-true q n e in later n lt ∙ ap (before cs) (at_end n le lt)
    by n le false e = let sooner = ltb-false q n e in set_later sums q (get_or sums q 0 + get_or cs i 0) n sooner ∙ a.whole n (omega (arith, sooner, from))

-- in the end each is that of its sixteen counts
pub all_sums : (cs sums : List ℕ) (i : ℕ) → AreSums cs sums i → length cs ≤ i → IsAbove cs sums
all_sums cs sums i a h = record { sums = λ n. by n (nat_lt (n * 16) i) refl; long = let long = a.long in omega (arith, long) }
  where
    by : (n : ℕ) (b : Bool) → nat_lt (n * 16) i ≡ b → before sums n ≡ before cs (n * 16)
    by n true e = let lt = ltb-true (n * 16) i e in a.whole n (omega (arith, lt))
    by n false e = let past = ltb-false (n * 16) i e in a.part n past ∙ before_past cs i h ∙ sym (before_past cs (n * 16) (omega (arith, h, past)))

-- a level that is read as the last one
level_read : (levels : List (Vec ℕ Global)) (level : Vec ℕ Global) (i : ℕ) → length levels ≡ i + 1 → level ≡ get_or levels i level → get_or (lists levels) i [] ≡ level.items
level_read levels level i h read = get_or-map (λ v. v.items) levels i level [] (omega (arith, h)) ∙ ap (λ v. v.items) (sym read)

-- the last level that is read has the sum of all counts
pub last_read : (levels : List (Vec ℕ Global)) (level : Vec ℕ Global) (i : ℕ) → length levels ≡ i + 1 → level ≡ get_or levels i level → AreAbove (lists levels) → before level.items (length level.items) ≡ before (counts (lists levels)) (length (counts (lists levels)))
last_read levels level i h read a = ap (λ ls. before ls (length ls)) (sym (level_read levels level i h read)) ∙ last_all (lists levels) i (length-map levels (λ v. v.items) ∙ h) a

-- and one more above it leaves the levels above each other, and the counts the same
pub level_more : (levels new : List (Vec ℕ Global)) (level upper : Vec ℕ Global) (i : ℕ) → length levels ≡ i + 1 → level ≡ get_or levels i level → AreAbove (lists levels) → IsAbove level.items upper.items → new ≡ levels ++ upper ∷ [] → AreAbove (lists new) × (counts (lists new) ≡ counts (lists levels))
level_more levels new level upper i h read a b is =
    let long = length-map levels (λ v. v.items) ∙ h in
    let more : lists new ≡ lists levels ++ upper.items ∷ [] = ap lists is ∙ map-append (λ v. v.items) levels (upper ∷ []) in
    (subst AreAbove (sym more) (above_more (lists levels) upper.items i long a (subst (λ ls. IsAbove ls upper.items) (sym (level_read levels level i h read)) b)), ap counts more ∙ counts_more (lists levels) upper.items (omega (arith, long)))
