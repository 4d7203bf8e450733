-- The marks of states by rank, and of rows of states.
use Rattle.std.proofs.Common.{◌≡◌, ℕ, zero, suc, ◌+◌, ◌-◌, ◌*◌, ◌^◌, ◌<◌, ◌≤◌, Bool, true, false, true≢false, is_some, nat_lt, if◌then◌else◌, List, [], ◌∷◌, ◌++◌, length, get_or, set, drop, replicate, slice_get, Option, None, Some, option_map, Result, Ok, Err, OnOk, OnErr, refl, sym, subst, ap, ◌∙◌, arith}
use Rattle.std.proofs.lemmas.Bool.{ltb-true, ltb-false, lt-ltb, le-ltb}
use Rattle.std.proofs.lemmas.List.{length-map, length-set, length-append, length-replicate, get_or-map, get_or_past, get_or_read_under, map-set, set-get_or, drop_more, drop_all}
use Rattle.rank_map.specs.Places.{Place, place_at, has_place, item_in, item_at, put_first, with_place, with_free, count_of, entries, Rises}
use Rattle.rank_map.proofs.PlaceLemmas.{count_most, put_count, count_with, entries_free, entries_append, get_append, few_entries}
use Rattle.server_index.specs.Rows.{row_places, places_from, AreShort}
use Rattle.server_index.specs.Sums.{before, IsAbove}
use Rattle.server_index.specs.Ranks.{mark_in, count_in, marks, IsRow, IsRanks}
use Rattle.server_index.proofs.RowLemmas.{told, untold, rows_rise, row_set, rows_with, short_set, short_at, IsNoted, noted}
use Rattle.server_index.proofs.SumLemmas.{before_next, before_past, before_grows, before_more, set_within, above_all, upper_least, adjusted, taller, wider}

-- a state has one mark at most
pub one_mark : (s : ℕ) → count_in s ≤ 1
one_mark s = count_most (item_in (mark_in s))

-- no more marks than states
pub few_marks : (es : List ℕ) (n : ℕ) → before (marks es) n ≤ length es
few_marks [] n = omega arith
few_marks (e ∷ es) zero = omega arith
few_marks (e ∷ es) (suc n) = let one = one_mark e in let rest = few_marks es n in omega (arith, one, rest)

-- the marks of a row are its marked places
pub row_count : (es : List ℕ) (first : ℕ) → before (marks es) (length es) ≡ length (entries (row_places mark_in first es))
row_count [] first = refl
row_count (e ∷ es) first = let here = put_count first (mark_in e) (row_places mark_in (first + 1) es) in let rest = row_count es (first + 1) in omega (arith, here, rest)

-- the key of the mark of some rank
abbrev pub nth_key : List (Place (Unit {0})) → ℕ → Option ℕ
nth_key ps rank = option_map (λ e. e.key) (slice_get (entries ps) rank)

-- a marked state's rank is how many marks come before
pub row_nth : (es : List ℕ) (first i : ℕ) → count_in (get_or es i 0) ≡ 1 → nth_key (row_places mark_in first es) (before (marks es) i) ≡ Some (first + i)
row_nth [] first i h = absurd (omega (arith, h))
row_nth (e ∷ es) first zero h = by (mark_in e) h ∙ ap Some same
  where
    same : first ≡ first + 0
    same = omega arith

    by : (o : Option (Option (Unit {0}))) → count_of (item_in o) ≡ 1 → nth_key (put_first first o (row_places mark_in (first + 1) es)) 0 ≡ Some first
    by None h = absurd (omega (arith, h))
    by (Some None) h = absurd (omega (arith, h))
    by (Some (Some x)) h = refl
row_nth (e ∷ es) first (suc i) h = by (mark_in e) ∙ row_nth es (first + 1) i h ∙ ap Some same
  where
    same : first + 1 + i ≡ first + suc i
    same = omega arith

    none : (n : ℕ) → 0 + n ≡ n
    none n = omega arith

    next : (n : ℕ) → 1 + n ≡ suc n
    next n = omega arith

    by : (o : Option (Option (Unit {0}))) → nth_key (put_first first o (row_places mark_in (first + 1) es)) (count_of (item_in o) + before (marks es) i) ≡ nth_key (row_places mark_in (first + 1) es) (before (marks es) i)
    by None = ap (nth_key (row_places mark_in (first + 1) es)) (none (before (marks es) i))
    by (Some None) = ap (nth_key (row_places mark_in (first + 1) es)) (none (before (marks es) i))
    by (Some (Some x)) = ap (nth_key (put_first first (Some (Some x)) (row_places mark_in (first + 1) es))) (next (before (marks es) i))

-- of rows whose first has a mark of some rank, that is the one of that rank
nth_here : (r : List ℕ) (rs : List (List ℕ)) (first left column : ℕ) → left < before (marks r) (length r) → before (marks r) column ≡ left → count_in (get_or r column 0) ≡ 1 → nth_key (places_from mark_in first (r ∷ rs)) left ≡ Some (first + column)
nth_here r rs first left column less rank marked =
    let here = row_places mark_in first r in
    let rest = places_from mark_in (first + 2 ^ 32) rs in
    let short : left < length (entries here) = omega (arith, less, row_count r first) in
    ap (λ es. option_map (λ e. e.key) (slice_get es left)) (entries_append here rest)
    ∙ ap (option_map (λ e. e.key)) (get_append (entries here) (entries rest) left ∙ ap (λ b. if b then slice_get (entries here) left else slice_get (entries rest) (left - length (entries here))) (lt-ltb left (length (entries here)) short))
    ∙ ap (nth_key here) (sym rank) ∙ row_nth r first column marked

-- and past its marks it is among the later ones
nth_later : (r : List ℕ) (rs : List (List ℕ)) (first left : ℕ) → before (marks r) (length r) ≤ left → nth_key (places_from mark_in first (r ∷ rs)) left ≡ nth_key (places_from mark_in (first + 2 ^ 32) rs) (left - before (marks r) (length r))
nth_later r rs first left more =
    let here = row_places mark_in first r in
    let rest = places_from mark_in (first + 2 ^ 32) rs in
    let past : length (entries here) ≤ left = omega (arith, more, row_count r first) in
    ap (λ es. option_map (λ e. e.key) (slice_get es left)) (entries_append here rest)
    ∙ ap (option_map (λ e. e.key)) (get_append (entries here) (entries rest) left ∙ ap (λ b. if b then slice_get (entries here) left else slice_get (entries rest) (left - length (entries here))) (le-ltb left (length (entries here)) past))
    ∙ ap (λ n. nth_key rest (left - n)) (sym (row_count r first))

-- the rows from one on are that one and the later ones
pub rank_here : (rs : List (List ℕ)) (row left column : ℕ) (r : List ℕ) → row < length rs → r ≡ get_or rs row r → left < before (marks r) (length r) → before (marks r) column ≡ left → count_in (get_or r column 0) ≡ 1
    → nth_key (places_from mark_in (row * 2 ^ 32) (drop row rs)) left ≡ Some (row * 2 ^ 32 + column)
rank_here rs row left column r inside read less rank marked =
    ap (λ qs. nth_key (places_from mark_in (row * 2 ^ 32) qs) left) (drop_more rs row r inside ∙ ap (λ q. q ∷ drop (row + 1) rs) (sym read))
    ∙ nth_here r (drop (row + 1) rs) (row * 2 ^ 32) left column less rank marked

pub rank_later : (rs : List (List ℕ)) (row left : ℕ) (r : List ℕ) → row < length rs → r ≡ get_or rs row r → before (marks r) (length r) ≤ left
    → nth_key (places_from mark_in (row * 2 ^ 32) (drop row rs)) left ≡ nth_key (places_from mark_in ((row + 1) * 2 ^ 32) (drop (row + 1) rs)) (left - before (marks r) (length r))
rank_later rs row left r inside read more =
    let next : row * 2 ^ 32 + 2 ^ 32 ≡ (row + 1) * 2 ^ 32 = omega arith in
    ap (λ qs. nth_key (places_from mark_in (row * 2 ^ 32) qs) left) (drop_more rs row r inside ∙ ap (λ q. q ∷ drop (row + 1) rs) (sym read))
    ∙ nth_later r (drop (row + 1) rs) (row * 2 ^ 32) left more
    ∙ ap (λ n. nth_key (places_from mark_in n (drop (row + 1) rs)) (left - before (marks r) (length r))) next

-- past all rows there is none
pub rank_past : (rs : List (List ℕ)) (row left : ℕ) → length rs ≤ row → nth_key (places_from mark_in (row * 2 ^ 32) (drop row rs)) left ≡ None
rank_past rs row left past = ap (λ qs. nth_key (places_from mark_in (row * 2 ^ 32) qs) left) (drop_all row rs past)

-- ROWS OF STATES

-- another state is another mark, or none
marks_set : (es : List ℕ) (i x : ℕ) → marks (set es i x) ≡ set (marks es) i (count_in x)
marks_set es i x = map-set count_in es i x

-- states without a place are no marks
marks_more : (es : List ℕ) (k : ℕ) → marks (es ++ replicate k 0) ≡ marks es ++ replicate k 0
marks_more [] zero = refl
marks_more [] (suc k) = ap (λ ms. 0 ∷ ms) (marks_more [] k)
marks_more (e ∷ es) k = ap (λ ms. count_in e ∷ ms) (marks_more es k)

-- the sums of a row are few
pub row_sums : (es sums : List ℕ) (count : ℕ) → IsRow es sums count → before sums (length sums) ≤ 2 ^ 32
row_sums es sums count row = let short = row.short in omega (arith, above_all (marks es) sums row.above, few_marks es (length (marks es)), short)

-- what another state in a row asks of its sums and its count, and what it leaves
pub record CanPut (es sums : List ℕ) (count i q less more x : ℕ) : Type 0 where
  pub least : less ≤ get_or sums q 0
  pub sums_fit : before sums (length sums) + more < 2 ^ 64
  pub counted : less ≤ count
  pub fits : count + more < 2 ^ 64
  pub kept : IsRow (set es i x) (set sums q (get_or sums q 0 - less + more)) (count - less + more)

-- the mark of a state that is read
mark_here : (es : List ℕ) (i s : ℕ) → i < length es → s ≡ get_or es i s → get_or (marks es) i 0 ≡ count_in s
mark_here es i s inside read = get_or-map count_in es i 0 0 inside ∙ ap count_in (sym (get_or_read_under es i (length es) s 0 read inside refl))

pub can_put : (es v sums : List ℕ) (count i q s less more x : ℕ) → IsRow es sums count → es ≡ v → i < length v → s ≡ get_or es i s → less ≡ count_in s → more ≡ count_in x → q * 16 ≤ i → i < q * 16 + 16
    → CanPut es sums count i q less more x
can_put es v sums count i q s less more x row is within read was now from to =
    record {
      least = omega (arith, here, was, upper_least (marks es) sums i q row.above from to);
      sums_fit = omega (arith, row_sums es sums count row, now, one_mark x);
      counted = let all = row.counted in omega (arith, all, next, here, was, before_grows (marks es) (i + 1) (length es) (omega (arith, inside)));
      fits = let all = row.counted in let short = row.short in omega (arith, all, few_marks es (length es), short, now, one_mark x);
      kept = record {
        short = subst (λ n. n ≤ 2 ^ 32) (sym (length-set es i x)) row.short;
        above =
            subst (λ ms. IsAbove ms (set sums q (get_or sums q 0 - less + more))) (ap (set (marks es) i) changed ∙ sym (marks_set es i x))
            (adjusted (marks es) sums i q less more row.above from to (omega (arith, inside, length-map es count_in)) (omega (arith, here, was)));
        counted =
            let all = row.counted in
            let most = before_grows (marks es) (i + 1) (length es) (omega (arith, inside)) in
            let other = set_within (marks es) i (count_in x) (length es) inside (omega (arith, inside, length-map es count_in)) in
            omega (arith, all, here, next, most, was, now, other, new);
      };
    }
  where
    inside : i < length es
    inside = subst (λ cs. i < length cs) (sym is) within

    here : get_or (marks es) i 0 ≡ count_in s
    here = mark_here es i s inside read

    next : before (marks es) (i + 1) ≡ before (marks es) i + get_or (marks es) i 0
    next = before_next (marks es) i

    new : before (marks (set es i x)) (length (set es i x)) ≡ before (set (marks es) i (count_in x)) (length es)
    new = ap (λ ms. before ms (length (set es i x))) (marks_set es i x) ∙ ap (before (set (marks es) i (count_in x))) (length-set es i x)

    changed : get_or (marks es) i 0 - less + more ≡ count_in x
    changed = omega (arith, here, was, now)

-- a state with as many marks changes no sum
pub same_put : (es v sums : List ℕ) (count i s less more x : ℕ) → IsRow es sums count → es ≡ v → i < length v → s ≡ get_or es i s → less ≡ count_in s → more ≡ count_in x → less ≡ more → IsRow (set es i x) sums count
same_put es v sums count i s less more x row is within read was now same =
    record {
      short = subst (λ n. n ≤ 2 ^ 32) (sym (length-set es i x)) row.short;
      above = subst (λ ms. IsAbove ms sums) (sym kept) row.above;
      counted = row.counted ∙ ap (before (marks es)) (sym (length-set es i x)) ∙ ap (λ ms. before ms (length (set es i x))) (sym kept);
    }
  where
    inside : i < length es
    inside = subst (λ cs. i < length cs) (sym is) within

    kept : marks (set es i x) ≡ marks es
    kept = marks_set es i x ∙ ap (set (marks es) i) (sym now ∙ sym same ∙ was ∙ sym (mark_here es i s inside read)) ∙ set-get_or (marks es) i 0

-- a row whose sums are more
pub row_taller : (es sums new : List ℕ) (count k : ℕ) → IsRow es sums count → new ≡ sums ++ replicate k 0 → IsRow es new count
row_taller es sums new count k row is = record { short = row.short; above = subst (IsAbove (marks es)) (sym is) (taller (marks es) sums k row.above); counted = row.counted }

-- and one whose states are more too
pub row_wider : (es sums more new : List ℕ) (count n m : ℕ) → IsRow es sums count → n ≤ 2 ^ 32 → n ≤ m * 16 → more ≡ es ++ replicate (n - length es) 0 → new ≡ sums ++ replicate (m - length sums) 0 → IsRow more new count
row_wider es sums more new count n m row few h is now = subst (λ cs. IsRow cs new count) (sym is) (subst (λ us. IsRow (es ++ replicate (n - length es) 0) us count) (sym now) by)
  where
    k : ℕ
    k = n - length es

    marked : marks (es ++ replicate k 0) ≡ marks es ++ replicate k 0
    marked = marks_more es k

    long : length (es ++ replicate k 0) ≡ length es + k
    long = length-append es (replicate k 0) ∙ ap (λ j. length es + j) (length-replicate {A = ℕ} k 0)

    as_marks : marks es ++ replicate (n - length (marks es)) 0 ≡ marks (es ++ replicate k 0)
    as_marks = ap (λ j. marks es ++ replicate (n - j) 0) (length-map es count_in) ∙ sym marked

    sum : before (marks (es ++ replicate k 0)) (length (es ++ replicate k 0)) ≡ before (marks es) (length es)
    sum =
        ap (λ ms. before ms (length (es ++ replicate k 0))) marked ∙ before_more (marks es) k (length (es ++ replicate k 0))
        ∙ before_past (marks es) (length (es ++ replicate k 0)) (omega (arith, long, length-map es count_in)) ∙ ap (before (marks es)) (length-map es count_in)

    by : IsRow (es ++ replicate k 0) (sums ++ replicate (m - length sums) 0) count
    by = record {
      short = let short = row.short in omega (arith, short, few, long);
      above = subst (λ ms. IsAbove ms (sums ++ replicate (m - length sums) 0)) as_marks (wider (marks es) sums n m row.above h);
      counted = row.counted ∙ sym sum;
    }

-- ALL ROWS

-- a mark stands at one of the states
pub mark_inside : (es : List ℕ) (i : ℕ) → count_in (get_or es i 0) ≡ 1 → i < length es
mark_inside es i h = by (nat_lt i (length es)) refl
  where
    by : (b : Bool) → nat_lt i (length es) ≡ b → i < length es
    by true e = ltb-true i (length es) e
    by false e = let none = ap count_in (get_or_past es i 0 (ltb-false i (length es) e)) in absurd (omega (arith, none, h))

-- a number that has a place has a row
there_row : (rs : List (List ℕ)) (row column k : ℕ) → AreShort rs → column < 2 ^ 32 → row * 2 ^ 32 + column ≡ k → has_place (places_from mark_in 0 rs) k ≡ true → row < length rs
there_row rs row column k s h is there = by (nat_lt row (length rs)) refl
  where
    by : (b : Bool) → nat_lt row (length rs) ≡ b → row < length rs
    by true e = ltb-true row (length rs) e
    by false e = absurd (true≢false (sym there ∙ sym (ap is_some (untold mark_in rs row column k refl s h is (ltb-false row (length rs) e)))))

-- and a state in it
there_column : (rs : List (List ℕ)) (row column k : ℕ) → AreShort rs → column < 2 ^ 32 → row * 2 ^ 32 + column ≡ k → has_place (places_from mark_in 0 rs) k ≡ true → column < length (get_or rs row [])
there_column rs row column k s h is there = by (nat_lt column (length (get_or rs row []))) refl
  where
    by : (b : Bool) → nat_lt column (length (get_or rs row [])) ≡ b → column < length (get_or rs row [])
    by true e = ltb-true column (length (get_or rs row [])) e
    by false e = absurd (true≢false (sym there ∙ sym (ap is_some (told mark_in rs row column k refl s h is)) ∙ ap (λ x. is_some (mark_in x)) (get_or_past (get_or rs row []) column 0 (ltb-false column (length (get_or rs row [])) e))))

-- what another state of a number that has a place asks of the rows, and what it leaves
pub record IsPut (rs : List (List ℕ)) (v : List (Place (Unit {0}))) (row column k less more x total : ℕ) : Type 0 where
  pub inside : row < length rs
  pub within : column < length (get_or rs row [])
  pub least : less ≤ total
  pub fits : total + more < 2 ^ 64
  pub seen : places_from mark_in 0 (set rs row (set (get_or rs row []) column x)) ≡ with_place v k (mark_in x)
  pub kept : IsRanks (set rs row (set (get_or rs row []) column x)) (total - less + more)

pub is_put : (rs : List (List ℕ)) (v : List (Place (Unit {0}))) (row column k s less more x total : ℕ) → IsRanks rs total → places_from mark_in 0 rs ≡ v → column < 2 ^ 32 → row * 2 ^ 32 + column ≡ k → has_place v k ≡ true
    → mark_in s ≡ place_at v k → less ≡ count_in s → more ≡ count_in x → IsPut rs v row column k less more x total
is_put rs v row column k s less more x total ranks is h key there read was now =
    record {
      inside = inside;
      within = within;
      least = omega (arith, free, was, marked, total_is);
      fits = let few = ranks.few in let most = few_entries v 0 (0 + length rs * 2 ^ 32) rises in omega (arith, few, most, total_is, now, one_mark x);
      seen = seen;
      kept = record {
        short = short_set rs row (set (get_or rs row []) column x) (subst (λ n. n ≤ 2 ^ 32) (sym (length-set (get_or rs row []) column x)) (short_at rs row ranks.short)) ranks.short;
        few = subst (λ n. n ≤ 2 ^ 8) (sym (length-set rs row (set (get_or rs row []) column x))) ranks.few;
        counted = let after = ap (λ ps. length (entries ps)) seen in omega (arith, after, changed, free, was, now, marked, total_is);
      };
    }
  where
    there_in : has_place (places_from mark_in 0 rs) k ≡ true
    there_in = ap (λ ps. has_place ps k) is ∙ there

    inside : row < length rs
    inside = there_row rs row column k ranks.short h key there_in

    within : column < length (get_or rs row [])
    within = there_column rs row column k ranks.short h key there_in

    same : 0 + row * 2 ^ 32 + column ≡ k
    same = omega (arith, key)

    seen : places_from mark_in 0 (set rs row (set (get_or rs row []) column x)) ≡ with_place v k (mark_in x)
    seen =
        rows_with mark_in rs 0 row column (set (get_or rs row []) column x) (mark_in x) ranks.short h inside (λ j. row_set mark_in (get_or rs row []) j column x within)
        ∙ ap (λ j. with_place (places_from mark_in 0 rs) j (mark_in x)) same ∙ ap (λ ps. with_place ps k (mark_in x)) is

    rises : Rises 0 (0 + length rs * 2 ^ 32) v
    rises = subst (Rises 0 (0 + length rs * 2 ^ 32)) is (rows_rise mark_in rs 0 ranks.short)

    marked : count_in s ≡ count_of (item_at v k)
    marked = ap (λ o. count_of (item_in o)) read

    total_is : total ≡ length (entries v)
    total_is = ranks.counted ∙ ap (λ ps. length (entries ps)) is

    changed : length (entries (with_place v k (mark_in x))) + count_of (item_at v k) ≡ length (entries v) + count_in x
    changed = count_with v 0 (0 + length rs * 2 ^ 32) k (mark_in x) rises there

    free : length (entries (with_place v k (Some None))) + count_of (item_at v k) ≡ length (entries v) + 0
    free = count_with v 0 (0 + length rs * 2 ^ 32) k (Some None) rises there

-- rows where a number's place was to be made, where memory may have lacked
pub record IsReserved {X E : Type 0} (v : List (Place (Unit {0}))) (k total : ℕ) (r : Result X E) (rs : List (List ℕ)) : Type 0 where
  pub ranks : IsRanks rs total
  pub place : OnOk r (places_from mark_in 0 rs ≡ with_free v k)
  pub refused : OnErr r (places_from mark_in 0 rs ≡ v)

pub reserved : {X E : Type 0} {v : List (Place (Unit {0}))} (rs : List (List ℕ)) (row column k total : ℕ) (old new : List ℕ) (r : Result X E) → AreShort rs → length rs ≤ 2 ^ 8 → places_from mark_in 0 rs ≡ v → total ≡ length (entries v)
    → column < 2 ^ 32 → row * 2 ^ 32 + column ≡ k → row < length rs → old ≡ get_or rs row old → length new ≤ 2 ^ 32 → has_place v k ≡ false
    → OnOk r ((first : ℕ) → row_places mark_in first new ≡ with_place (row_places mark_in first old) (first + column) (Some None))
    → OnErr r ((first : ℕ) → row_places mark_in first new ≡ row_places mark_in first old) → IsReserved v k total r (set rs row new)
reserved {X} {E} {v} rs row column k total old new r s few is counted h key inside read short none place refused =
    by r (noted mark_in rs row column k (Some None) old new r s is h key inside (get_or_read_under rs row (length rs) old [] read inside refl) short place refused)
  where
    few_set : length (set rs row new) ≤ 2 ^ 8
    few_set = subst (λ n. n ≤ 2 ^ 8) (sym (length-set rs row new)) few

    free : with_place v k (Some None) ≡ with_free v k
    free = sym (ap (λ b. if b then v else with_place v k (Some None)) none)

    by : (r : Result X E) → IsNoted mark_in v k (Some None) r (set rs row new) → IsReserved v k total r (set rs row new)
    by (Ok x) n = record {
      ranks = record { short = n.short; few = few_set; counted = counted ∙ ap length (sym (entries_free v k none)) ∙ ap (λ ps. length (entries ps)) (sym n.place) };
      place = n.place ∙ free;
      refused = tt;
    }
    by (Err e) n = record { ranks = record { short = n.short; few = few_set; counted = counted ∙ ap (λ ps. length (entries ps)) (sym n.refused) }; place = tt; refused = n.refused }
