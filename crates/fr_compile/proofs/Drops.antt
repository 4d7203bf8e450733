-- Slots that are dropped one after another.
use Rattle.std.proofs.Common.{◌≡◌, ℕ, zero, suc, ◌+◌, List, [], ◌∷◌, ◌++◌, refl, sym, ap, ◌∙◌, arith, append_assoc}
use Rattle.fr_base.specs.declared.instruction.Instr.{Instr}
use Rattle.fr_base.specs.declared.instruction.Instr.TheVariants as instr
use Rattle.fr_compile.specs.Emitting.{drop_slots}

-- one slot more
more_drop : (k : ℕ) → instr.DropSlot ∷ drop_slots k ≡ drop_slots k ++ instr.DropSlot ∷ []
more_drop zero = refl
more_drop (suc k) = ap (λ z. instr.DropSlot ∷ z) (more_drop k)

one_more_drop : (k : ℕ) → drop_slots (k + 1) ≡ drop_slots k ++ instr.DropSlot ∷ []
one_more_drop k = let e : k + 1 ≡ suc k = omega arith in ap drop_slots e ∙ more_drop k

pub dropped_next : (a c f : List Instr) (k : ℕ) → c ≡ a ++ drop_slots k → f ≡ c ++ instr.DropSlot ∷ [] → f ≡ a ++ drop_slots (k + 1)
dropped_next a c f k e h = h ∙ ap (λ z. z ++ instr.DropSlot ∷ []) e ∙ append_assoc a (drop_slots k) (instr.DropSlot ∷ []) ∙ ap (λ z. a ++ z) (sym (one_more_drop k))
