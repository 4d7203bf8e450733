-- Programs that hand a box on have a type.
use Rattle.std.proofs.Common.{◌≡◌, ◌∙◌, ◌<◌, ◌≤◌, ◌+◌, ◌-◌, ◌^◌, ◌==◌, ℕ, zero, suc, Bool, true, false, cond, List, [], ◌∷◌, length, drop, codes, decimal, Some, None, refl, ap, subst, arith, eq-eqb, add-one}
use Rattle.std.proofs.Math.Seq.{drop-length}
use Rattle.std.proofs.lemmas.Bool.{eqb-true}
use Rattle.std.proofs.lemmas.Fmt.{decimal_injective}
use Rattle.std.proofs.lemmas.Slice.Eq.{bytes_eq-Decides}
use Rattle.fr_terms.specs.Terms.{Text, assign_t, join_t, same_text}
use Rattle.fr_typing.specs.Kinds.{Kind, Piece, own, int, unit, box, task, whole, gone}
use Rattle.fr_typing.specs.Places.{Env, Slot, found, type_at, stars, alike, read_blocked, write_blocked, put_at, slot_of}
use Rattle.fr_typing.specs.Captures.{CapturesAll, by_spawn, captures_none, captures_next, captures_move}
use Rattle.fr_typing.specs.Typing.{Types, types_number, types_copy, types_move, types_print, types_let, types_assign, types_block, types_box, types_arith, types_join, types_spawn, TypesItems, types_none, types_item}
use Rattle.gen_load.specs.Programs.{add_at, block, handed, handed_from, handing, items, name, place, print_end, read, task_name}
use Rattle.gen_load.proofs.Steps.{has, items_then}

abbrev slot : Text → Piece → Slot
slot x p = record { name = Some x; part = p }

abbrev boxes : Kind
boxes = own (box (box int))

abbrev running : Kind
running = own (task (box (box int)))

-- so many threads were joined, above the part of `x`
abbrev joined : Piece → ℕ → Env
joined p zero = slot (codes "x") p ∷ []
joined p (suc i) = slot (task_name i) (gone running) ∷ joined p i

joined_length : (p : Piece) (i : ℕ) → length (joined p i) ≡ suc i
joined_length p zero = refl
joined_length p (suc i) = ap suc (joined_length p i)

zero_suc : (i : ℕ) → (0 == suc i) ≡ false
zero_suc i = by (0 == suc i) refl
  where
    by : (b : Bool) → (0 == suc i) ≡ b → b ≡ false
    by false e = refl
    by true e = let same : 0 ≡ suc i = eqb-true 0 (suc i) e in absurd (omega (arith, same))

not_first : (p : Piece) (i : ℕ) → (0 == length (joined p i)) ≡ false
not_first p i = ap (λ n. 0 == n) (joined_length p i) ∙ zero_suc i

names_x : (p : Piece) (i : ℕ) → slot_of (joined p i) (codes "x") ≡ Some 0
names_x p zero = refl
names_x p (suc i) = names_x p i

type_of_x : (p : Piece) (i depth : ℕ) → type_at (joined p i) (record { slot = 0; depth = depth }) ≡ stars (alike []) (type_at []) depth p
type_of_x p zero depth = refl
type_of_x p (suc i) depth =
    ap (λ b. cond b (stars (alike (joined p i)) (type_at (joined p i)) depth (gone running)) (type_at (joined p i) (record { slot = 0; depth = depth }))) (not_first p i) ∙ type_of_x p i depth

free_read : (p : Piece) → read_blocked (joined p zero) 0 ≡ false → (i : ℕ) → read_blocked (joined p i) 0 ≡ false
free_read p free zero = free
free_read p free (suc i) = free_read p free i

free_write : (p : Piece) (s : ℕ) → write_blocked (joined p zero) s ≡ false → (i : ℕ) → write_blocked (joined p i) s ≡ false
free_write p s free zero = free
free_write p s free (suc i) = free_write p s free i

put_x : (p q : Piece) (i : ℕ) → put_at (joined p i) (record { slot = 0; depth = 0 }) q ≡ joined q i
put_x p q zero = refl
put_x p q (suc i) =
    ap (λ b. cond b (slot (task_name i) q ∷ joined p i) (slot (task_name i) (gone running) ∷ put_at (joined p i) (record { slot = 0; depth = 0 }) q)) (not_first p i)
    ∙ ap (λ e. slot (task_name i) (gone running) ∷ e) (put_x p q i)

-- ---- names

name_itself : (x : Text) → same_text x x ≡ true
name_itself x = (bytes_eq-Decides x x).1 refl

tail_of : (a : ℕ) (xs ys : List ℕ) → a ∷ xs ≡ a ∷ ys → xs ≡ ys
tail_of a xs ys e = ap (drop 1) e

other_name : (i j : ℕ) → i < j → j < 2 ^ 64 → same_text (task_name i) (task_name j) ≡ false
other_name i j lt fits = by (same_text (task_name i) (task_name j)) refl
  where
    by : (b : Bool) → same_text (task_name i) (task_name j) ≡ b → b ≡ false
    by false e = refl
    by true e =
        let same : i ≡ j = decimal_injective i j (omega (arith, lt, fits)) fits (tail_of 104 (decimal i) (decimal j) ((bytes_eq-Decides (task_name i) (task_name j)).0 e)) in
        absurd (omega (arith, lt, same))

new_name : (p : Piece) (i j : ℕ) → i ≤ j → j < 2 ^ 64 → slot_of (joined p i) (task_name j) ≡ None
new_name p zero j le fits = refl
new_name p (suc i) j le fits =
    ap (λ b. cond b (Some (length (joined p i))) (slot_of (joined p i) (task_name j))) (other_name i j (omega (arith, le)) fits) ∙ new_name p i j (omega (arith, le)) fits

-- ---- a thread that owns the boxes

abbrev owning : Env
owning = slot (codes "x") (whole boxes) ∷ []

body_typed : (d : ℕ) → Types owning (block (add_at 2 (codes "x") d ∷ read 0 (codes "x") ∷ [])) boxes (slot (codes "x") (gone boxes) ∷ [])
body_typed d =
    types_block {e = owning} {e1 = slot (codes "x") (gone boxes) ∷ []}
    (types_item
    (types_assign {e1 = owning} {w = place 2 (codes "x")} {s = 0} {p = whole (own int)}
    (types_arith (types_copy {s = 0} (has owning (place 2 (codes "x")) 0 (found (whole (own int))) refl refl) refl refl) refl types_number refl)
    (has owning (place 2 (codes "x")) 0 (found (whole (own int))) refl refl)
    (record { free = refl; path = refl }) refl refl refl)
    (types_item (types_move {e = owning} {s = 0} {k = boxes} (has owning (place 0 (codes "x")) 0 (found (whole boxes)) refl refl) refl refl refl) types_none))
    refl

-- ---- one thread

captured : (i : ℕ) → CapturesAll by_spawn (joined (whole boxes) i) [] (name (codes "x")) (joined (gone boxes) i) owning
captured i =
    let e : Env = joined (whole boxes) i in
    subst (λ after. CapturesAll by_spawn e [] (name (codes "x")) after owning) (put_x (whole boxes) (gone boxes) i)
    (captures_next (captures_move {s = 0} {k = boxes} {l = boxes}
    (record { is = has e (place 0 (codes "x")) 0 (found (whole boxes)) (names_x (whole boxes) i) (type_of_x (whole boxes) i 0); becomes = refl }) refl (free_write (whole boxes) 0 refl i) refl) captures_none)

-- the thread that was started, above the others
abbrev started : ℕ → Env
started i = slot (task_name i) (whole running) ∷ joined (gone boxes) i

top_named : (i : ℕ) → slot_of (started i) (task_name i) ≡ Some (length (joined (gone boxes) i))
top_named i = ap (λ b. cond b (Some (length (joined (gone boxes) i))) (slot_of (joined (gone boxes) i) (task_name i))) (name_itself (task_name i))

itself : (n : ℕ) → (n == n) ≡ true
itself n = eq-eqb n n refl

top_type : (i : ℕ) → type_at (started i) (record { slot = length (joined (gone boxes) i); depth = 0 }) ≡ found (whole running)
top_type i = ap (λ b. cond b (found (whole running)) (type_at (joined (gone boxes) i) (record { slot = length (joined (gone boxes) i); depth = 0 }))) (itself (length (joined (gone boxes) i)))

top_put : (i : ℕ) → put_at (started i) (record { slot = length (joined (gone boxes) i); depth = 0 }) (gone running) ≡ joined (gone boxes) (suc i)
top_put i =
    ap (λ b. cond b (slot (task_name i) (gone running) ∷ joined (gone boxes) i) (slot (task_name i) (whole running) ∷ put_at (joined (gone boxes) i) (record { slot = length (joined (gone boxes) i); depth = 0 }) (gone running)))
    (itself (length (joined (gone boxes) i)))

join_typed : (i : ℕ) → Types (started i) (join_t 0 (read 0 (task_name i))) boxes (joined (gone boxes) (suc i))
join_typed i =
    let top : ℕ = length (joined (gone boxes) i) in
    subst (λ after. Types (started i) (join_t 0 (read 0 (task_name i))) boxes after) (top_put i)
    (types_join (types_move {e = started i} {w = place 0 (task_name i)} {s = top} {k = running} (has (started i) (place 0 (task_name i)) top (found (whole running)) (top_named i) (top_type i)) refl (free_write (gone boxes) top refl i) refl))

handed_typed : (i d : ℕ) → i < 2 ^ 64 → TypesItems (joined (whole boxes) i) (items (handed i d)) (own unit) 0 (own unit) 0 (joined (whole boxes) (suc i))
handed_typed i d fits =
    let after : Env = joined (gone boxes) (suc i) in
    types_item (types_let {e = joined (whole boxes) i} {e1 = joined (gone boxes) i} (types_spawn (captured i) (body_typed d) refl) (new_name (gone boxes) i i (omega arith) fits))
    (types_item
    (subst (λ e. Types (started i) (assign_t 0 (place 0 (codes "x")) (join_t 0 (read 0 (task_name i)))) (own unit) e) (put_x (gone boxes) (whole boxes) (suc i))
    (types_assign {e1 = after} {w = place 0 (codes "x")} {s = 0} {p = gone boxes} (join_typed i)
    (has after (place 0 (codes "x")) 0 (found (gone boxes)) (names_x (gone boxes) (suc i)) (type_of_x (gone boxes) (suc i) 0))
    (record { free = free_write (gone boxes) 0 refl (suc i); path = refl }) refl refl refl))
    types_none)

-- so many threads, from the one of that number on
all_typed : (n i d : ℕ) → i + n < 2 ^ 64 → TypesItems (joined (whole boxes) i) (items (handed_from i n d)) (own unit) 0 (own unit) 0 (joined (whole boxes) (i + n))
all_typed zero i d fits = subst (λ m. TypesItems (joined (whole boxes) i) (items []) (own unit) 0 (own unit) 0 (joined (whole boxes) m)) (omega arith) types_none
all_typed (suc n) i d fits =
    items_then (handed i d) (handed_from (i + 1) n d) (handed_typed i d (omega (arith, fits)))
    (subst (λ m. TypesItems (joined (whole boxes) m) (items (handed_from (i + 1) n d)) (own unit) 0 (own unit) 0 (joined (whole boxes) (i + suc n))) (add-one i)
    (subst (λ m. TypesItems (joined (whole boxes) (i + 1)) (items (handed_from (i + 1) n d)) (own unit) 0 (own unit) 0 (joined (whole boxes) m)) (omega arith) (all_typed n (i + 1) d (omega (arith, fits)))))

keeps_none : (e : Env) → drop (length e - 0) e ≡ []
keeps_none e = ap (λ n. drop n e) (omega arith) ∙ drop-length e

pub handing_typed : (k d : ℕ) → k < 2 ^ 64 → Types [] (block (handing k d)) (own unit) []
handing_typed k d fits =
    let end : Env = joined (whole boxes) k in
    subst (λ e. Types [] (block (handing k d)) (own unit) e) (keeps_none end)
    (types_block {e = []} {e1 = end}
    (types_item (types_let (types_box (types_box types_number refl) refl) refl)
    (items_then (handed_from 0 k d) (print_end 2 ∷ [])
    (subst (λ m. TypesItems (joined (whole boxes) 0) (items (handed_from 0 k d)) (own unit) 0 (own unit) 0 (joined (whole boxes) m)) (omega arith) (all_typed k 0 d (omega (arith, fits))))
    (types_item (types_print (types_copy {e = end} {s = 0} (has end (place 2 (codes "x")) 0 (found (whole (own int))) (names_x (whole boxes) k) (type_of_x (whole boxes) k 2)) refl (free_read (whole boxes) refl k)) refl) types_none)))
    refl)
