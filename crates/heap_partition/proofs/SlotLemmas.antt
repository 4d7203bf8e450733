-- What the slots of a chunk are, once one is read, written, added or emptied.
use Rattle.std.proofs.Common.{◌≡◌, ℕ, zero, suc, ◌<◌, Bool, true, false, List, [], ◌∷◌, ◌++◌, length, get_or, set, None, Some, refl, sym, ap, true≢false, arith}
use Rattle.heap_partition.specs.declared.value.Cell.{Cell}
use Rattle.heap_partition.specs.Chunks.{slots}

-- a slot has a bit and a cell
pub slot_within : (bs : List Bool) (cs : List Cell) (n : ℕ) → n < length (slots bs cs) → (n < length bs) × (n < length cs)
slot_within [] cs n h = absurd (omega (arith, h))
slot_within (b ∷ bs) [] n h = absurd (omega (arith, h))
slot_within (true ∷ bs) (c ∷ cs) zero h = (omega arith, omega arith)
slot_within (false ∷ bs) (c ∷ cs) zero h = (omega arith, omega arith)
slot_within (true ∷ bs) (c ∷ cs) (suc n) h = let i = slot_within bs cs n (omega (arith, h)) in (omega (arith, i.0), omega (arith, i.1))
slot_within (false ∷ bs) (c ∷ cs) (suc n) h = let i = slot_within bs cs n (omega (arith, h)) in (omega (arith, i.0), omega (arith, i.1))

-- a slot whose bit is set has its cell
pub slot_full : (bs : List Bool) (cs : List Cell) (n : ℕ) (x : Cell) → n < length (slots bs cs) → get_or bs n false ≡ true → x ≡ get_or cs n x → get_or (slots bs cs) n None ≡ Some x
slot_full [] cs n x h b e = absurd (omega (arith, h))
slot_full (b ∷ bs) [] n x h t e = absurd (omega (arith, h))
slot_full (true ∷ bs) (c ∷ cs) zero x h t e = ap Some (sym e)
slot_full (false ∷ bs) (c ∷ cs) zero x h t e = absurd (true≢false (sym t))
slot_full (true ∷ bs) (c ∷ cs) (suc n) x h t e = slot_full bs cs n x (omega (arith, h)) t e
slot_full (false ∷ bs) (c ∷ cs) (suc n) x h t e = slot_full bs cs n x (omega (arith, h)) t e

-- a slot whose bit is clear has none
pub slot_empty : (bs : List Bool) (cs : List Cell) (n : ℕ) → get_or bs n false ≡ false → get_or (slots bs cs) n None ≡ None
slot_empty [] cs n b = refl
slot_empty (b ∷ bs) [] n f = refl
slot_empty (true ∷ bs) (c ∷ cs) zero f = absurd (true≢false f)
slot_empty (false ∷ bs) (c ∷ cs) zero f = refl
slot_empty (true ∷ bs) (c ∷ cs) (suc n) f = slot_empty bs cs n f
slot_empty (false ∷ bs) (c ∷ cs) (suc n) f = slot_empty bs cs n f

-- a cell and its bit are written
pub slot_set : (bs : List Bool) (cs : List Cell) (n : ℕ) (x : Cell) → slots (set bs n true) (set cs n x) ≡ set (slots bs cs) n (Some x)
slot_set [] cs n x = refl
slot_set (b ∷ bs) [] zero x = refl
slot_set (b ∷ bs) [] (suc n) x = refl
slot_set (true ∷ bs) (c ∷ cs) zero x = refl
slot_set (false ∷ bs) (c ∷ cs) zero x = refl
slot_set (true ∷ bs) (c ∷ cs) (suc n) x = ap (λ z. Some c ∷ z) (slot_set bs cs n x)
slot_set (false ∷ bs) (c ∷ cs) (suc n) x = ap (λ z. None ∷ z) (slot_set bs cs n x)

-- a bit is cleared
pub slot_cleared : (bs : List Bool) (cs : List Cell) (n : ℕ) → slots (set bs n false) cs ≡ set (slots bs cs) n None
slot_cleared [] cs n = refl
slot_cleared (b ∷ bs) [] zero = refl
slot_cleared (b ∷ bs) [] (suc n) = refl
slot_cleared (true ∷ bs) (c ∷ cs) zero = refl
slot_cleared (false ∷ bs) (c ∷ cs) zero = refl
slot_cleared (true ∷ bs) (c ∷ cs) (suc n) = ap (λ z. Some c ∷ z) (slot_cleared bs cs n)
slot_cleared (false ∷ bs) (c ∷ cs) (suc n) = ap (λ z. None ∷ z) (slot_cleared bs cs n)

-- without cells there are no slots
no_cell : (bs : List Bool) → slots bs [] ≡ []
no_cell [] = refl
no_cell (b ∷ bs) = refl

-- a cell is added behind the others, and its bit set
pub slot_pushed : (bs : List Bool) (cs : List Cell) (x : Cell) → length cs < length bs → slots (set bs (length cs) true) (cs ++ x ∷ []) ≡ slots bs cs ++ Some x ∷ []
slot_pushed [] cs x h = absurd (omega (arith, h))
slot_pushed (b ∷ bs) [] x h = ap (λ z. Some x ∷ z) (no_cell bs)
slot_pushed (true ∷ bs) (c ∷ cs) x h = ap (λ z. Some c ∷ z) (slot_pushed bs cs x (omega (arith, h)))
slot_pushed (false ∷ bs) (c ∷ cs) x h = ap (λ z. None ∷ z) (slot_pushed bs cs x (omega (arith, h)))

-- where not all bits are of slots, a cell more has one
pub slots_over : (bs : List Bool) (cs : List Cell) → length (slots bs cs) < length bs → length cs < length bs
slots_over [] cs h = absurd (omega (arith, h))
slots_over (b ∷ bs) [] h = omega arith
slots_over (true ∷ bs) (c ∷ cs) h = omega (arith, slots_over bs cs (omega (arith, h)))
slots_over (false ∷ bs) (c ∷ cs) h = omega (arith, slots_over bs cs (omega (arith, h)))
