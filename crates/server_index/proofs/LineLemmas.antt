-- The items in slots and the marks beside them, once an item comes or is taken out.
use Rattle.std.proofs.Common.{◌≡◌, ℕ, zero, suc, ◌+◌, ◌^◌, ◌<◌, ◌≤◌, List, [], ◌∷◌, ◌++◌, length, map, get_or, set, drop, replicate, true, is_some, slice_get, Option, None, Some, refl, sym, subst, ap, ◌∙◌, arith}
use Rattle.std.specs.List.{remove}
use Rattle.std.proofs.lemmas.List.{append_assoc, append-nil, length-map, length-set, length-append, length-replicate, map-set, drop_more, drop-set-lt}
use Rattle.std.proofs.lemmas.Option.{slice_get_read}
use Rattle.rank_map.specs.Places.{item_in, count_of}
use Rattle.rank_map.specs.Queues.{QueueView}
use Rattle.server_index.specs.Sums.{before}
use Rattle.server_index.specs.Ranks.{count_in, marks}
use Rattle.server_index.specs.Lines.{item_first, values, IsLine}

-- as many marks as items
count_all : {T : Type 0} (slots : List (Option T)) → before (map count_of slots) (length slots) ≡ length (values slots)
count_all [] = refl
count_all {T} (s ∷ ss) = by s (count_all ss)
  where
    by : (o : Option T) → before (map count_of ss) (length ss) ≡ length (values ss) → count_of o + before (map count_of ss) (length ss) ≡ length (item_first o (values ss))
    by None ih = omega (arith, ih)
    by (Some x) ih = omega (arith, ih)

-- no more items than slots
few_values : {T : Type 0} (slots : List (Option T)) → length (values slots) ≤ length slots
few_values [] = omega arith
few_values {T} (s ∷ ss) = by s (few_values ss)
  where
    by : (o : Option T) → length (values ss) ≤ length ss → length (item_first o (values ss)) ≤ length (s ∷ ss)
    by None ih = omega (arith, ih)
    by (Some x) ih = omega (arith, ih)

-- the slot that is marked has the item of that rank
value_at : {T : Type 0} (slots : List (Option T)) (i : ℕ) → get_or (map count_of slots) i 0 ≡ 1 → slice_get (values slots) (before (map count_of slots) i) ≡ item_in (slice_get slots i)
value_at [] i h = absurd (omega (arith, h))
value_at {T} (s ∷ ss) zero h = by s h
  where
    by : (o : Option T) → count_of o ≡ 1 → slice_get (item_first o (values ss)) 0 ≡ o
    by None h = absurd (omega (arith, h))
    by (Some x) h = refl
value_at {T} (s ∷ ss) (suc i) h = by s ∙ value_at ss i h
  where
    none : (n : ℕ) → 0 + n ≡ n
    none n = omega arith

    next : (n : ℕ) → 1 + n ≡ suc n
    next n = omega arith

    by : (o : Option T) → slice_get (item_first o (values ss)) (count_of o + before (map count_of ss) i) ≡ slice_get (values ss) (before (map count_of ss) i)
    by None = ap (slice_get (values ss)) (none (before (map count_of ss) i))
    by (Some x) = ap (slice_get (x ∷ values ss)) (next (before (map count_of ss) i))

-- and once it is empty the others are left
value_taken : {T : Type 0} (slots : List (Option T)) (i : ℕ) → get_or (map count_of slots) i 0 ≡ 1 → values (set slots i None) ≡ remove (values slots) (before (map count_of slots) i)
value_taken [] i h = absurd (omega (arith, h))
value_taken {T} (s ∷ ss) zero h = by s h
  where
    by : (o : Option T) → count_of o ≡ 1 → values ss ≡ remove (item_first o (values ss)) 0
    by None h = absurd (omega (arith, h))
    by (Some x) h = refl
value_taken {T} (s ∷ ss) (suc i) h = by s (value_taken ss i h)
  where
    none : (n : ℕ) → n ≡ 0 + n
    none n = omega arith

    next : (n : ℕ) → suc n ≡ 1 + n
    next n = omega arith

    by : (o : Option T) → values (set ss i None) ≡ remove (values ss) (before (map count_of ss) i) → item_first o (values (set ss i None)) ≡ remove (item_first o (values ss)) (count_of o + before (map count_of ss) i)
    by None ih = ih ∙ ap (remove (values ss)) (none (before (map count_of ss) i))
    by (Some x) ih = ap (λ xs. x ∷ xs) ih ∙ ap (remove (x ∷ values ss)) (next (before (map count_of ss) i))

-- a marked slot is there, and has an item
value_within : {T : Type 0} (slots : List (Option T)) (i : ℕ) → get_or (map count_of slots) i 0 ≡ 1 → (i < length slots) × (is_some (item_in (slice_get slots i)) ≡ true)
value_within [] i h = absurd (omega (arith, h))
value_within {T} (s ∷ ss) zero h = (omega arith, by s h)
  where
    by : (o : Option T) → count_of o ≡ 1 → is_some o ≡ true
    by None h = absurd (omega (arith, h))
    by (Some x) h = refl
value_within {T} (s ∷ ss) (suc i) h = let rest = value_within ss i h in (omega (arith, rest.0), rest.1)

-- a slot more that is empty leaves none with an item where there was none
still_free : {T : Type 0} (slots : List (Option T)) (next i : ℕ) → values (drop next slots) ≡ [] → values (drop next (set slots i None)) ≡ []
still_free [] next i h = h
still_free {T} (s ∷ ss) zero zero h = by s h
  where
    by : (o : Option T) → item_first o (values ss) ≡ [] → values ss ≡ []
    by None h = h
    by (Some x) h = absurd cc
still_free {T} (s ∷ ss) zero (suc i) h = by s h (still_free ss zero i)
  where
    by : (o : Option T) → item_first o (values ss) ≡ [] → (values (drop 0 ss) ≡ [] → values (drop 0 (set ss i None)) ≡ []) → item_first o (values (set ss i None)) ≡ []
    by None h ih = ih h
    by (Some x) h ih = absurd cc
still_free {T} (s ∷ ss) (suc next) zero h = h
still_free {T} (s ∷ ss) (suc next) (suc i) h = still_free ss next i h

-- an item in the first of the slots that have none is the last one
value_put : {T : Type 0} (slots : List (Option T)) (next : ℕ) (x : T) → next < length slots → values (drop next slots) ≡ [] → (values (set slots next (Some x)) ≡ values slots ++ x ∷ []) × (values (drop (suc next) (set slots next (Some x))) ≡ [])
value_put [] next x l h = absurd (omega (arith, l))
value_put {T} (s ∷ ss) zero x l h = by s h
  where
    by : (o : Option T) → item_first o (values ss) ≡ [] → (x ∷ values ss ≡ item_first o (values ss) ++ x ∷ []) × (values ss ≡ [])
    by None h = (ap (λ xs. x ∷ xs) h ∙ sym (ap (λ xs. xs ++ x ∷ []) h), h)
    by (Some y) h = absurd cc
value_put {T} (s ∷ ss) (suc next) x l h = let rest = value_put ss next x (omega (arith, l)) h in (by s rest.0, rest.1)
  where
    by : (o : Option T) → values (set ss next (Some x)) ≡ values ss ++ x ∷ [] → item_first o (values (set ss next (Some x))) ≡ item_first o (values ss) ++ x ∷ []
    by None ih = ih
    by (Some y) ih = ap (λ ys. y ∷ ys) ih

-- empty slots have no item
no_value : {T : Type 0} (n : ℕ) → values (replicate {A = Option T} n None) ≡ []
no_value zero = refl
no_value (suc n) = no_value n

-- and states without a place no mark
no_mark : (T : Type 0) (n : ℕ) → marks (replicate n 0) ≡ map count_of (replicate {A = Option T} n None)
no_mark T zero = refl
no_mark T (suc n) = ap (λ ms. 0 ∷ ms) (no_mark T n)

-- a state's mark
mark_of : (es : List ℕ) (i : ℕ) → get_or (marks es) i 0 ≡ count_in (get_or es i 0)
mark_of [] i = refl
mark_of (e ∷ es) zero = refl
mark_of (e ∷ es) (suc i) = mark_of es i

-- there are as many states as slots
same_length : {T : Type 0} {states : List ℕ} {slots : List (Option T)} {next : ℕ} → IsLine states slots next → length states ≡ length slots
same_length {states = states} {slots} line = let all = ap length line.marked in omega (arith, all, length-map states count_in, length-map slots count_of)

-- a line has as many marks as items
pub all_marks : {T : Type 0} {states : List ℕ} {slots : List (Option T)} {next : ℕ} → IsLine states slots next → before (marks states) (length states) ≡ length (values slots)
all_marks {states = states} {slots} line = ap (λ ms. before ms (length states)) line.marked ∙ ap (before (map count_of slots)) (same_length line) ∙ count_all slots

-- and no more than 2^32
pub few_items : {T : Type 0} {states : List ℕ} {slots : List (Option T)} {next : ℕ} → IsLine states slots next → length (values slots) ≤ 2 ^ 32
few_items {slots = slots} line = omega (arith, few_values slots, line.few)

-- a marked state stands beside an item
beside : {T : Type 0} {states : List ℕ} {slots : List (Option T)} {next : ℕ} (i : ℕ) → IsLine states slots next → count_in (get_or states i 0) ≡ 1 → get_or (map count_of slots) i 0 ≡ 1
beside {states = states} i line h = ap (λ ms. get_or ms i 0) (sym line.marked) ∙ mark_of states i ∙ h

-- a slot has the item of a rank, and once it is empty that item is taken out
pub record IsFound {T : Type 0} (slots : List (Option T)) (i rank : ℕ) (o : Option T) : Type 0 where
  pub some : is_some o ≡ true
  pub item : slice_get (values slots) rank ≡ o
  pub taken : values (set slots i None) ≡ remove (values slots) rank

-- so it is at the place of the mark of that rank
pub found : {T : Type 0} {states : List ℕ} {slots : List (Option T)} {next : ℕ} (i rank : ℕ) (o : Option T) → IsLine states slots next → before (marks states) i ≡ rank → count_in (get_or states i 0) ≡ 1 → o ≡ get_or slots i o → IsFound slots i rank o
found {slots = slots} i rank o line is h read =
    let here = beside i line h in
    let there = value_within slots i here in
    let item = ap item_in (slice_get_read slots (length slots) i o refl there.0 read) in
    let same = sym (ap (λ ms. before ms i) line.marked) ∙ is in
    record {
      some = ap is_some (sym item) ∙ there.1;
      item = ap (slice_get (values slots)) (sym same) ∙ value_at slots i here ∙ item;
      taken = value_taken slots i here ∙ ap (remove (values slots)) same;
    }

-- once its item is taken out a line is one
pub taken_line : {T : Type 0} {states : List ℕ} {slots : List (Option T)} {next : ℕ} (new : List ℕ) (i : ℕ) (o : Option T) → IsLine states slots next → new ≡ set states i 1 → o ≡ None → IsLine new (set slots i o) next
taken_line {states = states} {slots} {next} new i o line is none = subst (λ x. IsLine new (set slots i x) next) (sym none) (record {
  marked = ap marks is ∙ map-set count_in states i 1 ∙ ap (λ ms. set ms i 0) line.marked ∙ sym (map-set count_of slots i None);
  within = let same = length-set slots i None in let within = line.within in omega (arith, same, within);
  free = still_free slots next i line.free;
  few = let same = length-set slots i None in let few = line.few in omega (arith, same, few);
})

-- and once an item came
pub put_line : {T : Type 0} {states : List ℕ} {slots : List (Option T)} {next : ℕ} (new : List ℕ) (x : T) → IsLine states slots next → next < length slots → new ≡ set states next 2 → IsLine new (set slots next (Some x)) (next + 1)
put_line {states = states} {slots} {next} new x line within is = record {
  marked = ap marks is ∙ map-set count_in states next 2 ∙ ap (λ ms. set ms next 1) line.marked ∙ sym (map-set count_of slots next (Some x));
  within = let same = length-set slots next (Some x) in omega (arith, same, within);
  free = ap (λ n. values (drop n (set slots next (Some x)))) next_is ∙ (value_put slots next x within line.free).1;
  few = let same = length-set slots next (Some x) in let few = line.few in omega (arith, same, few);
}
  where
    next_is : next + 1 ≡ suc next
    next_is = omega arith

-- which is the last one
pub last_item : {T : Type 0} {states : List ℕ} {slots : List (Option T)} {next : ℕ} (x : T) → IsLine states slots next → next < length slots → values (set slots next (Some x)) ≡ values slots ++ x ∷ []
last_item {slots = slots} {next} x line within = (value_put slots next x within line.free).0

-- a line of empty slots
pub empty_line : {T : Type 0} (states : List ℕ) (slots : List (Option T)) (n : ℕ) → n ≤ 2 ^ 32 → states ≡ replicate n 0 → slots ≡ replicate n None → IsLine states slots 0 × (values slots ≡ [])
empty_line {T} states slots n few first second = (
  record {
    marked = ap marks first ∙ no_mark T n ∙ sym (ap (map count_of) second);
    within = omega arith;
    free = none;
    few = let long = ap length second in let same = length-replicate {A = Option T} n None in omega (arith, long, same, few);
  },
  none,
)
  where
    none : values slots ≡ []
    none = ap values second ∙ no_value {T = T} n

-- once the item of the next slot is taken out, those of the later ones are left
moved : {T : Type 0} (slots : List (Option T)) (at : ℕ) (o : Option T) → at < length slots → o ≡ get_or slots at o → values (drop at slots) ≡ item_first o (values (drop (at + 1) (set slots at None)))
moved slots at o within read =
    ap values (drop_more slots at o within) ∙ ap (λ x. item_first x (values (drop (at + 1) slots))) (sym read)
    ∙ ap (λ ss. item_first o (values ss)) (sym (drop-set-lt (at + 1) slots at None (omega arith)))

-- a line gets the items of slots: what it has and what is left there are all items, and there is room for these
pub record IsMoving {T : Type 0} (all : List T) (total : ℕ) (slots : List (Option T)) (line : QueueView T) : Type 0 where
  pub items : line.items ++ values slots ≡ all
  pub room : line.room + length line.items ≡ total
  pub enough : length (values slots) ≤ line.room

-- so they are once the next slot's item came
pub moving : {T : Type 0} {all : List T} {total : ℕ} (slots left : List (Option T)) (at : ℕ) (o : Option T) (line new : QueueView T) → IsMoving all total (drop at slots) line → at < length slots → o ≡ get_or slots at o
    → left ≡ set slots at None → new.items ≡ line.items ++ item_first o [] → new.room + count_of o ≡ line.room → IsMoving all total (drop (at + 1) left) new
moving {T} {all} {total} slots left at o line new m within read is put less = by o rest put less
  where
    rest : values (drop at slots) ≡ item_first o (values (drop (at + 1) left))
    rest = moved slots at o within read ∙ ap (λ ss. item_first o (values (drop (at + 1) ss))) (sym is)

    by : (p : Option T) → values (drop at slots) ≡ item_first p (values (drop (at + 1) left)) → new.items ≡ line.items ++ item_first p [] → new.room + count_of p ≡ line.room → IsMoving all total (drop (at + 1) left) new
    by None rest put less =
        let long = ap length rest in
        let more = ap length (put ∙ append-nil line.items) in
        let both = m.room in
        let enough = m.enough in
        record {
          items = ap (λ xs. xs ++ values (drop (at + 1) left)) (put ∙ append-nil line.items) ∙ ap (λ xs. line.items ++ xs) (sym rest) ∙ m.items;
          room = omega (arith, more, less, both);
          enough = omega (arith, long, less, enough);
        }
    by (Some x) rest put less =
        let long = ap length rest in
        let more = ap length put in
        let one = length-append line.items (x ∷ []) in
        let both = m.room in
        let enough = m.enough in
        record {
          items = ap (λ xs. xs ++ values (drop (at + 1) left)) put ∙ append_assoc line.items (x ∷ []) (values (drop (at + 1) left)) ∙ ap (λ xs. line.items ++ xs) (sym rest) ∙ m.items;
          room = omega (arith, more, one, less, both);
          enough = omega (arith, long, less, enough);
        }
