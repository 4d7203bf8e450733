-- What the slots of all chunks are, once one is read, written or added.
use Rattle.std.proofs.Common.{◌≡◌, ℕ, zero, suc, ◌+◌, ◌-◌, ◌*◌, ◌/◌, ◌%◌, ◌≤◌, ◌<◌, min, List, [], ◌∷◌, ◌++◌, length, get_or, set, Option, refl, sym, ap, ◌∙◌, subst, append-nil, arith}
use Rattle.std.proofs.lemmas.List.{append_assoc, length-append, length-set, get_or_append_left, get_or-append_right, set-append_left, set-append_right}
use Rattle.heap_partition.specs.declared.value.Cell.{Cell}
use Rattle.heap_partition.specs.Chunks.{slots_of, HaveUsed, ArePacked}

abbrev Slots : Type 0
Slots = List (Option Cell)

-- an address is its chunk's number and its slot's
split : (at : ℕ) → at ≡ at / 1024 * 1024 + at % 1024
split at = omega arith

-- a slot's number is one of a chunk's
below : (at : ℕ) → at % 1024 < 1024
below at = omega arith

-- so many are the slots that were used
used_length : (cs : List Slots) (n : ℕ) → HaveUsed cs n → length (slots_of cs) ≡ n
used_length [] n u = sym u
used_length (c ∷ cs) n u = length-append c (slots_of cs) ∙ omega (arith, u.0, used_length cs (n - 1024) u.1)

-- a chunk has 1,024 at most
used_room : (cs : List Slots) (n : ℕ) → HaveUsed cs n → n ≤ 1024 * length cs
used_room [] n u = omega (arith, u)
used_room (c ∷ cs) n u = omega (arith, used_room cs (n - 1024) u.1)

-- where none was used, there are no slots
none_used : (cs : List Slots) → HaveUsed cs 0 → slots_of cs ≡ []
none_used [] u = refl
none_used ([] ∷ cs) u = none_used cs u.1
none_used ((x ∷ c) ∷ cs) u = absurd (omega (arith, u.0))

-- the chunk q has the slots from 1,024 times q on
length_at : (cs : List Slots) (n q : ℕ) (x : Slots) → HaveUsed cs n → q < length cs → x ≡ get_or cs q x → length x ≡ min (n - q * 1024) 1024
length_at [] n q x u h e = absurd (omega (arith, h))
length_at (c ∷ cs) n zero x u h e = ap length e ∙ omega (arith, u.0)
length_at (c ∷ cs) n (suc q) x u h e = omega (arith, length_at cs (n - 1024) q x u.1 (omega (arith, h)) e)

-- a slot that was used is that of its chunk
read : (cs : List Slots) (n q r : ℕ) (x : Slots) (d : Option Cell) → HaveUsed cs n → q * 1024 + r < n → r < 1024 → x ≡ get_or cs q x → get_or (slots_of cs) (q * 1024 + r) d ≡ get_or x r d
read [] n q r x d u h f e = absurd (omega (arith, u, h))
read (c ∷ cs) n zero r x d u h f e =
    let p : 0 * 1024 + r ≡ r = omega arith in
    ap (λ i. get_or (c ++ slots_of cs) i d) p ∙ get_or_append_left c (slots_of cs) d r (omega (arith, u.0, f, h)) ∙ ap (λ z. get_or z r d) (sym e)
read (c ∷ cs) n (suc q) r x d u h f e =
    let p : suc q * 1024 + r - 1024 ≡ q * 1024 + r = omega arith in
    let full : length c ≡ 1024 = omega (arith, u.0, h) in
    get_or-append_right c (slots_of cs) 1024 (suc q * 1024 + r) d full (omega arith) ∙ ap (λ i. get_or (slots_of cs) i d) p ∙ read cs (n - 1024) q r x d u.1 (omega (arith, h)) f e

-- so it is written in its chunk alone
write : (cs : List Slots) (n q r : ℕ) (x : Slots) (s : Option Cell) → HaveUsed cs n → q * 1024 + r < n → r < 1024 → x ≡ get_or cs q x → slots_of (set cs q (set x r s)) ≡ set (slots_of cs) (q * 1024 + r) s
write [] n q r x s u h f e = absurd (omega (arith, u, h))
write (c ∷ cs) n zero r x s u h f e =
    let p : r ≡ 0 * 1024 + r = omega arith in
    ap (λ z. set z r s ++ slots_of cs) e ∙ sym (set-append_left c (slots_of cs) r s (omega (arith, u.0, f, h))) ∙ ap (λ i. set (c ++ slots_of cs) i s) p
write (c ∷ cs) n (suc q) r x s u h f e =
    let p : q * 1024 + r ≡ suc q * 1024 + r - 1024 = omega arith in
    let full : length c ≡ 1024 = omega (arith, u.0, h) in
    ap (λ z. c ++ z) (write cs (n - 1024) q r x s u.1 (omega (arith, h)) f e) ∙ ap (λ i. c ++ set (slots_of cs) i s) p ∙ sym (set-append_right c (slots_of cs) 1024 (suc q * 1024 + r) s full (omega arith))

-- a written slot changes no number
used_set : (cs : List Slots) (n q r : ℕ) (x : Slots) (s : Option Cell) → HaveUsed cs n → x ≡ get_or cs q x → HaveUsed (set cs q (set x r s)) n
used_set [] n q r x s u e = u
used_set (c ∷ cs) n zero r x s u e = (length-set x r s ∙ ap length e ∙ u.0, u.1)
used_set (c ∷ cs) n (suc q) r x s u e = (u.0, used_set cs (n - 1024) q r x s u.1 e)

-- the slot after the last is put behind those of its chunk
append : (cs : List Slots) (q r : ℕ) (x : Slots) (s : Option Cell) → HaveUsed cs (q * 1024 + r) → q < length cs → r < 1024 → x ≡ get_or cs q x → slots_of (set cs q (x ++ s ∷ [])) ≡ slots_of cs ++ s ∷ []
append [] q r x s u h f e = absurd (omega (arith, h))
append (c ∷ cs) zero r x s u h f e =
    let p : 0 * 1024 + r - 1024 ≡ 0 = omega (arith, f) in
    let none : slots_of cs ≡ [] = none_used cs (subst (λ k. HaveUsed cs k) p u.1) in
    ap (λ z. (z ++ s ∷ []) ++ slots_of cs) e ∙ ap (λ z. (c ++ s ∷ []) ++ z) none ∙ append-nil (c ++ s ∷ []) ∙ ap (λ z. z ++ s ∷ []) (sym (append-nil c)) ∙ ap (λ z. (c ++ z) ++ s ∷ []) (sym none)
append (c ∷ cs) (suc q) r x s u h f e =
    let p : suc q * 1024 + r - 1024 ≡ q * 1024 + r = omega arith in
    ap (λ z. c ++ z) (append cs q r x s (subst (λ k. HaveUsed cs k) p u.1) (omega (arith, h)) f e) ∙ sym (append_assoc c (slots_of cs) (s ∷ []))

-- one slot more was used then
used_append : (cs : List Slots) (q r : ℕ) (x : Slots) (s : Option Cell) → HaveUsed cs (q * 1024 + r) → q < length cs → r < 1024 → x ≡ get_or cs q x → HaveUsed (set cs q (x ++ s ∷ [])) (q * 1024 + r + 1)
used_append [] q r x s u h f e = absurd (omega (arith, h))
used_append (c ∷ cs) zero r x s u h f e =
    let p : 0 * 1024 + r - 1024 ≡ 0 * 1024 + r + 1 - 1024 = omega (arith, f) in
    (length-append x (s ∷ []) ∙ omega (arith, ap length e, u.0, f), subst (λ k. HaveUsed cs k) p u.1)
used_append (c ∷ cs) (suc q) r x s u h f e =
    let p : suc q * 1024 + r - 1024 ≡ q * 1024 + r = omega arith in
    let more : q * 1024 + r + 1 ≡ suc q * 1024 + r + 1 - 1024 = omega arith in
    (omega (arith, u.0), subst (λ k. HaveUsed (set cs q (x ++ s ∷ [])) k) more (used_append cs q r x s (subst (λ k. HaveUsed cs k) p u.1) (omega (arith, h)) f e))

-- a chunk with no slot used changes no number
used_grow : (cs : List Slots) (n : ℕ) → HaveUsed cs n → HaveUsed (cs ++ [] ∷ []) n
used_grow [] n u = (omega (arith, u), omega (arith, u))
used_grow (c ∷ cs) n u = (u.0, used_grow cs (n - 1024) u.1)

-- one chunk more, with no slot used
pub slots_grow : (cs : List Slots) → slots_of (cs ++ [] ∷ []) ≡ slots_of cs
slots_grow [] = refl
slots_grow (c ∷ cs) = ap (λ z. c ++ z) (slots_grow cs)

-- and the chunks stay packed
pub packed_grow : (cs : List Slots) → ArePacked cs → ArePacked (cs ++ [] ∷ [])
packed_grow cs w = subst (λ k. HaveUsed (cs ++ [] ∷ []) k) (ap length (sym (slots_grow cs))) (used_grow cs (length (slots_of cs)) w)

-- the chunk of an address that was used is there
pub chunk_within : (cs : List Slots) (at : ℕ) → ArePacked cs → at < length (slots_of cs) → at / 1024 < length cs
chunk_within cs at w h = omega (arith, used_room cs (length (slots_of cs)) w, h)

-- the slot of such an address is one of its chunk's
pub place_within : (cs : List Slots) (at : ℕ) (x : Slots) → ArePacked cs → at < length (slots_of cs) → x ≡ get_or cs (at / 1024) x → at % 1024 < length x
place_within cs at x w h e = omega (arith, length_at cs (length (slots_of cs)) (at / 1024) x w (chunk_within cs at w h) e, h)

-- what stands at an address is what stands in its slot
pub read_at : (cs : List Slots) (at : ℕ) (x : Slots) (d : Option Cell) → ArePacked cs → at < length (slots_of cs) → x ≡ get_or cs (at / 1024) x → get_or (slots_of cs) at d ≡ get_or x (at % 1024) d
read_at cs at x d w h e =
    ap (λ i. get_or (slots_of cs) i d) (split at) ∙ read cs (length (slots_of cs)) (at / 1024) (at % 1024) x d w (omega (arith, split at, h)) (below at) e

-- to write at an address is to write its slot
pub write_at : (cs : List Slots) (at : ℕ) (x : Slots) (s : Option Cell) → ArePacked cs → at < length (slots_of cs) → x ≡ get_or cs (at / 1024) x → slots_of (set cs (at / 1024) (set x (at % 1024) s)) ≡ set (slots_of cs) at s
write_at cs at x s w h e =
    write cs (length (slots_of cs)) (at / 1024) (at % 1024) x s w (omega (arith, split at, h)) (below at) e ∙ ap (λ i. set (slots_of cs) i s) (sym (split at))

-- and the chunks stay packed
pub packed_write : (cs : List Slots) (at : ℕ) (x : Slots) (s : Option Cell) → ArePacked cs → at < length (slots_of cs) → x ≡ get_or cs (at / 1024) x → ArePacked (set cs (at / 1024) (set x (at % 1024) s))
packed_write cs at x s w h e =
    let same : length (slots_of cs) ≡ length (slots_of (set cs (at / 1024) (set x (at % 1024) s))) = sym (length-set (slots_of cs) at s) ∙ ap length (sym (write_at cs at x s w h e)) in
    subst (λ k. HaveUsed (set cs (at / 1024) (set x (at % 1024) s)) k) same (used_set cs (length (slots_of cs)) (at / 1024) (at % 1024) x s w e)

-- the address after the last is its chunk's number and its slot's
used_next : (cs : List Slots) (at : ℕ) → ArePacked cs → at ≡ length (slots_of cs) → HaveUsed cs (at / 1024 * 1024 + at % 1024)
used_next cs at w n = subst (λ k. HaveUsed cs k) (sym n ∙ split at) w

-- its chunk isn't full
pub next_within : (cs : List Slots) (at : ℕ) (x : Slots) → ArePacked cs → at ≡ length (slots_of cs) → at < 1024 * length cs → x ≡ get_or cs (at / 1024) x → length x < 1024
next_within cs at x w n h e = omega (arith, length_at cs (length (slots_of cs)) (at / 1024) x w (omega (arith, h)) e, n)

-- to add it to its chunk is to add it to all slots
pub push_at : (cs : List Slots) (at : ℕ) (x : Slots) (s : Option Cell) → ArePacked cs → at ≡ length (slots_of cs) → at < 1024 * length cs → x ≡ get_or cs (at / 1024) x → slots_of (set cs (at / 1024) (x ++ s ∷ [])) ≡ slots_of cs ++ s ∷ []
push_at cs at x s w n h e = append cs (at / 1024) (at % 1024) x s (used_next cs at w n) (omega (arith, h)) (below at) e

-- and the chunks stay packed
pub packed_push : (cs : List Slots) (at : ℕ) (x : Slots) (s : Option Cell) → ArePacked cs → at ≡ length (slots_of cs) → at < 1024 * length cs → x ≡ get_or cs (at / 1024) x → ArePacked (set cs (at / 1024) (x ++ s ∷ []))
packed_push cs at x s w n h e =
    let u = used_append cs (at / 1024) (at % 1024) x s (used_next cs at w n) (omega (arith, h)) (below at) e in
    subst (λ k. HaveUsed (set cs (at / 1024) (x ++ s ∷ [])) k) (sym (used_length (set cs (at / 1024) (x ++ s ∷ [])) (at / 1024 * 1024 + at % 1024 + 1) u)) u
