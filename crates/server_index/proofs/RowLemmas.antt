-- What rows of entries tell of a key, and what another entry and more rows or columns do to it.
use Rattle.std.proofs.Common.{◌≡◌, ℕ, zero, suc, ◌+◌, ◌-◌, ◌*◌, ◌^◌, ◌<◌, ◌≤◌, List, [], ◌∷◌, ◌++◌, length, map, get_or, set, replicate, Option, None, Some, Result, Ok, Err, OnOk, OnErr, refl, sym, subst, ap, ◌∙◌, arith, append_assoc}
use Rattle.std.proofs.lemmas.Bool.{eq-eqb, ne_eqb, le-ltb}
use Rattle.std.proofs.lemmas.List.{get_or_past, length-append, length-replicate, replicate-append-replicate, map-id, map_push}
use Rattle.rank_map.specs.Places.{Place, place_at, put_first, with_place, Rises}
use Rattle.rank_map.proofs.PlaceLemmas.{below_all, at_low, at_high, with_below, with_low, with_high, first_rises, rises_wider, rises_append}
use Rattle.server_index.specs.Rows.{row_places, places_from, AreShort, Longer}

-- the keys of a row's places rise
row_rises : {T : Type 0} (f : ℕ → Option (Option T)) (es : List ℕ) (first : ℕ) → Rises first (first + length es) (row_places f first es)
row_rises f [] first = omega arith
row_rises f (e ∷ es) first =
    let same : first + 1 + length es ≡ first + length (e ∷ es) = omega arith in
    first_rises first (f e) (row_places f (first + 1) es) first (first + length (e ∷ es)) (omega arith) (subst (λ h. Rises (first + 1) h (row_places f (first + 1) es)) same (row_rises f es (first + 1)))

-- and stay below those of the next row
short_rises : {T : Type 0} (f : ℕ → Option (Option T)) (es : List ℕ) (first : ℕ) → length es ≤ 2 ^ 32 → Rises first (first + 2 ^ 32) (row_places f first es)
short_rises f es first h = rises_wider (row_places f first es) first first (first + length es) (first + 2 ^ 32) (omega arith) (omega (arith, h)) (row_rises f es first)

-- so the keys of all places rise
pub rows_rise : {T : Type 0} (f : ℕ → Option (Option T)) (rs : List (List ℕ)) (first : ℕ) → AreShort rs → Rises first (first + length rs * 2 ^ 32) (places_from f first rs)
rows_rise f [] first s = omega arith
rows_rise f (r ∷ rs) first s =
    let same : first + 2 ^ 32 + length rs * 2 ^ 32 ≡ first + length (r ∷ rs) * 2 ^ 32 = omega arith in
    rises_append (row_places f first r) (places_from f (first + 2 ^ 32) rs) first (first + 2 ^ 32) (first + length (r ∷ rs) * 2 ^ 32) (short_rises f r first s.0)
    (subst (λ h. Rises (first + 2 ^ 32) h (places_from f (first + 2 ^ 32) rs)) same (rows_rise f rs (first + 2 ^ 32) s.1))

-- the place at a row's first key is the one that its first entry tells
entry_here : {T : Type 0} (o : Option (Option T)) (ps : List (Place T)) (k high : ℕ) → Rises (k + 1) high ps → place_at (put_first k o ps) k ≡ o
entry_here None ps k high r = below_all ps (k + 1) high k r (omega arith)
entry_here (Some x) ps k high r = rw (eq-eqb k k refl) refl

-- and those of later keys are told by the later entries
past_entry : {T : Type 0} (o : Option (Option T)) (ps : List (Place T)) (k j : ℕ) → k < j → place_at (put_first k o ps) j ≡ place_at ps j
past_entry None ps k j h = refl
past_entry (Some x) ps k j h = rw (ne_eqb k j (λ e. omega (arith, h, e))) refl

-- a key's place in a row is the one that its entry tells
row_read : {T : Type 0} (f : ℕ → Option (Option T)) (es : List ℕ) (first i : ℕ) → f 0 ≡ None → place_at (row_places f first es) (first + i) ≡ f (get_or es i 0)
row_read f [] first i bare = sym bare
row_read f (e ∷ es) first zero bare =
    let same : first + 0 ≡ first = omega arith in
    ap (place_at (row_places f first (e ∷ es))) same ∙ entry_here (f e) (row_places f (first + 1) es) first (first + 1 + length es) (row_rises f es (first + 1))
row_read f (e ∷ es) first (suc i) bare =
    let same : first + suc i ≡ first + 1 + i = omega arith in
    past_entry (f e) (row_places f (first + 1) es) first (first + suc i) (omega arith) ∙ ap (place_at (row_places f (first + 1) es)) same ∙ row_read f es (first + 1) i bare

-- and so it is in all rows
rows_read : {T : Type 0} (f : ℕ → Option (Option T)) (rs : List (List ℕ)) (first row column : ℕ) → f 0 ≡ None → AreShort rs → column < 2 ^ 32
    → place_at (places_from f first rs) (first + row * 2 ^ 32 + column) ≡ f (get_or (get_or rs row []) column 0)
rows_read f [] first row column bare s h = sym bare
rows_read f (r ∷ rs) first zero column bare s h =
    let same : first + 0 * 2 ^ 32 + column ≡ first + column = omega arith in
    ap (place_at (places_from f first (r ∷ rs))) same
    ∙ at_low (row_places f first r) (places_from f (first + 2 ^ 32) rs) (first + 2 ^ 32) (first + 2 ^ 32 + length rs * 2 ^ 32) (first + column) (rows_rise f rs (first + 2 ^ 32) s.1) (omega (arith, h))
    ∙ row_read f r first column bare
rows_read f (r ∷ rs) first (suc row) column bare s h =
    let same : first + suc row * 2 ^ 32 + column ≡ first + 2 ^ 32 + row * 2 ^ 32 + column = omega arith in
    at_high (row_places f first r) (places_from f (first + 2 ^ 32) rs) first (first + 2 ^ 32) (first + suc row * 2 ^ 32 + column) (short_rises f r first s.0) (omega arith)
    ∙ ap (place_at (places_from f (first + 2 ^ 32) rs)) same ∙ rows_read f rs (first + 2 ^ 32) row column bare s.1 h

-- so the entry tells a key's place
pub told : {T : Type 0} (f : ℕ → Option (Option T)) (rs : List (List ℕ)) (row column k : ℕ) → f 0 ≡ None → AreShort rs → column < 2 ^ 32 → row * 2 ^ 32 + column ≡ k
    → f (get_or (get_or rs row []) column 0) ≡ place_at (places_from f 0 rs) k
told f rs row column k bare s h is =
    let same : 0 + row * 2 ^ 32 + column ≡ k = omega (arith, is) in
    sym (rows_read f rs 0 row column bare s h) ∙ ap (place_at (places_from f 0 rs)) same

-- and a key whose row isn't there has none
pub untold : {T : Type 0} (f : ℕ → Option (Option T)) (rs : List (List ℕ)) (row column k : ℕ) → f 0 ≡ None → AreShort rs → column < 2 ^ 32 → row * 2 ^ 32 + column ≡ k → length rs ≤ row
    → f 0 ≡ place_at (places_from f 0 rs) k
untold f rs row column k bare s h is past = sym (ap (λ r. f (get_or r column 0)) (get_or_past rs row [] past)) ∙ told f rs row column k bare s h is

-- another entry in a row is another place of its key
pub row_set : {T : Type 0} (f : ℕ → Option (Option T)) (es : List ℕ) (first i x : ℕ) → i < length es → row_places f first (set es i x) ≡ with_place (row_places f first es) (first + i) (f x)
row_set f [] first i x h = absurd (omega (arith, h))
row_set {T} f (e ∷ es) first zero x h =
    let same : first ≡ first + 0 = omega arith in
    by (f e) ∙ ap (λ j. with_place (row_places f first (e ∷ es)) j (f x)) same
  where
    by : (o : Option (Option T)) → put_first first (f x) (row_places f (first + 1) es) ≡ with_place (put_first first o (row_places f (first + 1) es)) first (f x)
    by None = sym (with_below (row_places f (first + 1) es) (first + 1) (first + 1 + length es) first (f x) (row_rises f es (first + 1)) (omega arith))
    by (Some t) = rw (le-ltb first first (omega arith), eq-eqb first first refl) refl
row_set {T} f (e ∷ es) first (suc i) x h =
    let same : first + 1 + i ≡ first + suc i = omega arith in
    by (f e) (row_set f es (first + 1) i x (omega (arith, h)) ∙ ap (λ j. with_place (row_places f (first + 1) es) j (f x)) same)
  where
    by : (o : Option (Option T)) → row_places f (first + 1) (set es i x) ≡ with_place (row_places f (first + 1) es) (first + suc i) (f x)
        → put_first first o (row_places f (first + 1) (set es i x)) ≡ with_place (put_first first o (row_places f (first + 1) es)) (first + suc i) (f x)
    by None ih = ih
    by (Some t) ih = rw (le-ltb (first + suc i) first (omega arith), ne_eqb first (first + suc i) (λ e. omega (arith, e))) (ap (λ ps. record { key = first; item = t } ∷ ps) ih)

-- another place in a row is one in all rows
pub rows_with : {T : Type 0} (f : ℕ → Option (Option T)) (rs : List (List ℕ)) (first row column : ℕ) (r : List ℕ) (x : Option (Option T)) → AreShort rs → column < 2 ^ 32 → row < length rs
    → ((k : ℕ) → row_places f k r ≡ with_place (row_places f k (get_or rs row [])) (k + column) x) → places_from f first (set rs row r) ≡ with_place (places_from f first rs) (first + row * 2 ^ 32 + column) x
rows_with f [] first row column r x s h inside e = absurd (omega (arith, inside))
rows_with f (q ∷ rs) first zero column r x s h inside e =
    let same : first + column ≡ first + 0 * 2 ^ 32 + column = omega arith in
    ap (λ ps. ps ++ places_from f (first + 2 ^ 32) rs) (e first)
    ∙ sym (with_low (row_places f first q) (places_from f (first + 2 ^ 32) rs) (first + 2 ^ 32) (first + 2 ^ 32 + length rs * 2 ^ 32) (first + column) x (rows_rise f rs (first + 2 ^ 32) s.1) (omega (arith, h)))
    ∙ ap (λ j. with_place (places_from f first (q ∷ rs)) j x) same
rows_with f (q ∷ rs) first (suc row) column r x s h inside e =
    let same : first + 2 ^ 32 + row * 2 ^ 32 + column ≡ first + suc row * 2 ^ 32 + column = omega arith in
    ap (λ ps. row_places f first q ++ ps) (rows_with f rs (first + 2 ^ 32) row column r x s.1 h (omega (arith, inside)) e ∙ ap (λ j. with_place (places_from f (first + 2 ^ 32) rs) j x) same)
    ∙ sym (with_high (row_places f first q) (places_from f (first + 2 ^ 32) rs) first (first + 2 ^ 32) (first + suc row * 2 ^ 32 + column) x (short_rises f q first s.0) (omega arith))

-- a row that tells the same in another one's place changes nothing
rows_same : {T : Type 0} (f : ℕ → Option (Option T)) (rs : List (List ℕ)) (first row : ℕ) (r : List ℕ) → ((k : ℕ) → row_places f k r ≡ row_places f k (get_or rs row [])) → places_from f first (set rs row r) ≡ places_from f first rs
rows_same f [] first row r e = refl
rows_same f (q ∷ rs) first zero r e = ap (λ ps. ps ++ places_from f (first + 2 ^ 32) rs) (e first)
rows_same f (q ∷ rs) first (suc row) r e = ap (λ ps. row_places f first q ++ ps) (rows_same f rs (first + 2 ^ 32) row r e)

-- nor do rows more without columns
rows_push : {T : Type 0} (f : ℕ → Option (Option T)) (rs : List (List ℕ)) (n first : ℕ) → places_from f first (rs ++ replicate n []) ≡ places_from f first rs
rows_push f [] zero first = refl
rows_push f [] (suc n) first = rows_push f [] n (first + 2 ^ 32)
rows_push f (r ∷ rs) n first = ap (λ ps. row_places f first r ++ ps) (rows_push f rs n (first + 2 ^ 32))

-- entries that are 0 tell no place
bare_places : {T : Type 0} (f : ℕ → Option (Option T)) (n first : ℕ) → f 0 ≡ None → row_places f first (replicate n 0) ≡ []
bare_places f zero first bare = refl
bare_places f (suc n) first bare = ap (λ o. put_first first o (row_places f (first + 1) (replicate n 0))) bare ∙ bare_places f n (first + 1) bare

-- so columns more of such entries change nothing
pub row_more : {T : Type 0} (f : ℕ → Option (Option T)) (es : List ℕ) (n first : ℕ) → f 0 ≡ None → row_places f first (es ++ replicate n 0) ≡ row_places f first es
row_more f [] n first bare = bare_places f n first bare
row_more f (e ∷ es) n first bare = ap (put_first first (f e)) (row_more f es n (first + 1) bare)

-- with so many columns it is as long as that, or as long as it was
pub row_long : (es more : List ℕ) (n : ℕ) → more ≡ es ++ replicate (n - length es) 0 → length more ≡ length es + (n - length es)
row_long es more n is = ap length is ∙ length-append es (replicate (n - length es) 0) ∙ ap (λ k. length es + k) (length-replicate {A = ℕ} (n - length es) 0)

-- a short row in another one's place leaves all of them short
pub short_set : (rs : List (List ℕ)) (row : ℕ) (r : List ℕ) → length r ≤ 2 ^ 32 → AreShort rs → AreShort (set rs row r)
short_set [] row r h s = tt
short_set (q ∷ rs) zero r h s = (h, s.1)
short_set (q ∷ rs) (suc row) r h s = (s.0, short_set rs row r h s.1)

-- and so do more without columns
short_push : (rs : List (List ℕ)) (n : ℕ) → AreShort rs → AreShort (rs ++ replicate n [])
short_push [] zero s = tt
short_push [] (suc n) s = (omega arith, short_push [] n tt)
short_push (r ∷ rs) n s = (s.0, short_push rs n s.1)

-- what rows are in the place of others that tell the same
pub record IsLonger {T : Type 0} (f : ℕ → Option (Option T)) (old new : List (List ℕ)) : Type 0 where
  pub same : places_from f 0 new ≡ places_from f 0 old
  pub short : AreShort new

-- longer rows are, and short as those were
pub longer : {T : Type 0} (f : ℕ → Option (Option T)) (old new : List (List ℕ)) → AreShort old → Longer old new → IsLonger f old new
longer f old new s l = record { same = ap (places_from f 0) l.1 ∙ rows_push f old l.0 0; short = subst AreShort (sym l.1) (short_push old l.0 s) }

-- the same of rows that are lists
pub longer_rows : {T : Type 0} (f : ℕ → Option (Option T)) (old new : List (List ℕ)) → AreShort old → Longer (map (λ r. r) old) (map (λ r. r) new) → IsLonger f old new
longer_rows f old new s l = longer f old new s (l.0, sym (map-id new) ∙ l.1 ∙ ap (λ rs. rs ++ replicate l.0 []) (map-id old))

-- one row more without columns makes them longer
pub longer_push : {R : Type 0} (f : R → List ℕ) (old : List (List ℕ)) (rows new : List R) (r : R) (n : ℕ) → new ≡ rows ++ r ∷ [] → f r ≡ [] → map f rows ≡ old ++ replicate n [] → map f new ≡ old ++ replicate (n + 1) []
longer_push f old rows new r n more bare is =
    ap (map f) more ∙ map_push f rows r ∙ ap (λ e. map f rows ++ e ∷ []) bare ∙ ap (λ rs. rs ++ [] ∷ []) is
    ∙ append_assoc old (replicate n []) ([] ∷ []) ∙ ap (λ rs. old ++ rs) (replicate-append-replicate n 1 [])

-- each of them is short
pub short_at : (rs : List (List ℕ)) (row : ℕ) → AreShort rs → length (get_or rs row []) ≤ 2 ^ 32
short_at [] row s = omega arith
short_at (r ∷ rs) zero s = s.0
short_at (r ∷ rs) (suc row) s = short_at rs row s.1

-- rows where a key's place was to be another one, where memory may have lacked
pub record IsNoted {T X E : Type 0} (f : ℕ → Option (Option T)) (v : List (Place T)) (k : ℕ) (x : Option (Option T)) (r : Result X E) (rows : List (List ℕ)) : Type 0 where
  pub short : AreShort rows
  pub place : OnOk r (places_from f 0 rows ≡ with_place v k x)
  pub refused : OnErr r (places_from f 0 rows ≡ v)

-- they are those where it is another one in the key's row
pub noted : {T X E : Type 0} {v : List (Place T)} (f : ℕ → Option (Option T)) (rs : List (List ℕ)) (row column k : ℕ) (x : Option (Option T)) (old new : List ℕ) (r : Result X E) → AreShort rs → places_from f 0 rs ≡ v
    → column < 2 ^ 32 → row * 2 ^ 32 + column ≡ k → row < length rs → old ≡ get_or rs row [] → length new ≤ 2 ^ 32
    → OnOk r ((first : ℕ) → row_places f first new ≡ with_place (row_places f first old) (first + column) x)
    → OnErr r ((first : ℕ) → row_places f first new ≡ row_places f first old) → IsNoted f v k x r (set rs row new)
noted {T} {X} {E} {v} f rs row column k x old new r s seen h is inside here short place refused = by r place refused
  where
    key : 0 + row * 2 ^ 32 + column ≡ k
    key = omega (arith, is)

    by : (r : Result X E) → OnOk r ((first : ℕ) → row_places f first new ≡ with_place (row_places f first old) (first + column) x)
        → OnErr r ((first : ℕ) → row_places f first new ≡ row_places f first old) → IsNoted f v k x r (set rs row new)
    by (Ok y) place refused = record {
      short = short_set rs row new short s;
      place =
          rows_with f rs 0 row column new x s h inside (λ j. place j ∙ ap (λ es. with_place (row_places f j es) (j + column) x) here)
          ∙ ap (λ j. with_place (places_from f 0 rs) j x) key ∙ ap (λ ps. with_place ps k x) seen;
      refused = tt;
    }
    by (Err e) place refused = record { short = short_set rs row new short s; place = tt; refused = rows_same f rs 0 row new (λ j. refused j ∙ ap (row_places f j) here) ∙ seen }
