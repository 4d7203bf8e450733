-- The rows of an index, once an entry is another one.
use Rattle.std.proofs.Common.{◌≡◌, ℕ, ◌+◌, ◌*◌, ◌^◌, ◌<◌, ◌≤◌, List, [], ◌∷◌, ◌++◌, length, get_or, set, Vec, Some, Result, OnOk, OnErr, sym, subst, ap, ◌∙◌, arith}
use Rattle.std.proofs.lemmas.List.{length-map, get_or-map, map-set, map_push}
use Rattle.std.specs.declared.alloc.Global.{Global}
use Rattle.rank_map.specs.Places.{Place, with_place}
use Rattle.server_index.specs.Rows.{row_places, places_from, AreShort}
use Rattle.server_index.specs.Lists.{lists}
use Rattle.server_index.specs.Indexes.{place_in}
use Rattle.server_index.proofs.RowLemmas.{short_at, IsNoted, noted}

-- the entries of a row that is read
pub row_here : (rows : List (Vec ℕ Global)) (row : ℕ) (v : Vec ℕ Global) → row < length rows → v ≡ get_or rows row v → v.items ≡ get_or (lists rows) row []
row_here rows row v h e = ap (λ r. r.items) e ∙ sym (get_or-map (λ r. r.items) rows row v [] h)

-- the entries of rows, with one row more that has none
pub rows_more : (rows : List (Vec ℕ Global)) (v : Vec ℕ Global) → v.items ≡ [] → lists (rows ++ v ∷ []) ≡ lists rows ++ [] ∷ []
rows_more rows v e = map_push (λ r. r.items) rows v ∙ ap (λ r. lists rows ++ r ∷ []) e

-- a row that is read is short
pub short_here : (rows : List (Vec ℕ Global)) (row : ℕ) (v : Vec ℕ Global) → AreShort (lists rows) → row < length rows → v ≡ get_or rows row v → length v.items ≤ 2 ^ 32
short_here rows row v s h e = subst (λ es. length es ≤ 2 ^ 32) (sym (row_here rows row v h e)) (short_at (lists rows) row s)

-- the rows once a key's slot was to be noted in the key's row
pub slot_noted : {X E : Type 0} {v : List (Place ℕ)} (rows : List (Vec ℕ Global)) (row column k slot : ℕ) (old new : Vec ℕ Global) (r : Result X E) → AreShort (lists rows) → places_from place_in 0 (lists rows) ≡ v
    → column < 2 ^ 32 → row * 2 ^ 32 + column ≡ k → row < length rows → old ≡ get_or rows row old → length new.items ≤ 2 ^ 32
    → OnOk r ((first : ℕ) → row_places place_in first new.items ≡ with_place (row_places place_in first old.items) (first + column) (Some (Some slot)))
    → OnErr r ((first : ℕ) → row_places place_in first new.items ≡ row_places place_in first old.items) → IsNoted place_in v k (Some (Some slot)) r (lists (set rows row new))
slot_noted {v = v} rows row column k slot old new r s seen h is inside read short place refused =
    subst (IsNoted place_in v k (Some (Some slot)) r) (sym (map-set (λ r. r.items) rows row new))
    (noted place_in (lists rows) row column k (Some (Some slot)) old.items new.items r s seen h is (omega (arith, inside, length-map rows (λ r. r.items))) (row_here rows row old inside read) short place refused)
