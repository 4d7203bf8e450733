-- The captured slots of an instruction are those of its form.
use Rattle.std.proofs.Common.{◌≡◌, ℕ, zero, suc, ◌+◌, ◌<◌, ◌≤◌, Bool, List, [], ◌∷◌, ◌++◌, length, drop, get_or, refl, sym, ap, ap₂, ◌∙◌, arith, add-one, drop-cons, append_assoc, append-nil}
use Rattle.fr_base.specs.declared.instruction.Instr.{Instr}
use Rattle.fr_base.specs.declared.instruction.Instr.TheVariants as instr
use Rattle.fr_base.specs.Rooms.{WithRoom}
use Rattle.fr_plain.specs.Run.{Capture}
use Rattle.fr_forms.specs.declared.forms.Captured.{Captured}
use Rattle.fr_forms.specs.FormTerms.{captures_of}
use Rattle.law_plain_table.specs.Bare.{full, bare}
use Rattle.law_plain_table.specs.CodeOf.{slots}
use Rattle.law_plain_table.proofs.Bare.{bare_join}
use Rattle.fr_compile.specs.declared.waiting.Waiting.{Waiting}

-- the slots as an instruction lists them
abbrev pub listed : List Captured → List (ℕ × Bool)
listed cs = (slots (captures_of cs)).items

none_left : (cs : List Captured) (k : ℕ) → length cs ≤ k → drop k cs ≡ []
none_left [] zero h = refl
none_left [] (suc k) h = refl
none_left (c ∷ cs) zero h = absurd (omega (arith, h))
none_left (c ∷ cs) (suc k) h = none_left cs k (omega (arith, h))

from_next : (cs : List Captured) (k : ℕ) (d : Captured) → k < length cs → drop k cs ≡ get_or cs k d ∷ drop (k + 1) cs
from_next cs k d lt = rw (add-one, drop-cons cs k d) refl

-- one slot more
pub listed_next : (cs : List Captured) (xs ys : List (ℕ × Bool)) (k : ℕ) (d : Captured) → k < length cs → ys ≡ xs ++ ((get_or cs k d).slot, (get_or cs k d).take) ∷ [] → xs ++ listed (drop k cs) ≡ listed cs → ys ++ listed (drop (k + 1) cs) ≡ listed cs
listed_next cs xs ys k d lt e h =
    let x = get_or cs k d in
    let rest = listed (drop (k + 1) cs) in
    ap (λ zs. zs ++ rest) e ∙ append_assoc xs ((x.slot, x.take) ∷ []) rest ∙ ap (λ zs. xs ++ listed zs) (sym (from_next cs k d lt)) ∙ h

-- all slots
pub listed_all : (cs : List Captured) (xs : List (ℕ × Bool)) (k : ℕ) → length cs ≤ k → xs ++ listed (drop k cs) ≡ listed cs → xs ≡ listed cs
listed_all cs xs k le h = sym (append-nil xs) ∙ ap (λ zs. xs ++ listed zs) (sym (none_left cs k le)) ∙ h

-- INSTRUCTIONS WITH SUCH LISTS

full_is : (xs : WithRoom (ℕ × Bool)) (cs : List Capture) → xs.items ≡ (slots cs).items → full xs ≡ slots cs
full_is xs cs e = ap (λ (items : List (ℕ × Bool)). full (record { items = items; spare = 0 })) e

pub bare_spawn : (a f : List Instr) (xs : WithRoom (ℕ × Bool)) (cs : List Capture) → f ≡ a ++ instr.Spawn xs 0 ∷ [] → xs.items ≡ (slots cs).items → bare f ≡ bare a ++ instr.Spawn (slots cs) 0 ∷ []
bare_spawn a f xs cs e h = ap bare e ∙ bare_join a (instr.Spawn xs 0 ∷ []) ∙ ap (λ (us : WithRoom (ℕ × Bool)). bare a ++ instr.Spawn us 0 ∷ []) (full_is xs cs h)

pub bare_par : (a c f : List Instr) (xs ys : WithRoom (ℕ × Bool)) (cs ds : List Capture) → c ≡ a ++ instr.Par xs 0 ys 0 ∷ [] → f ≡ c ++ instr.ParEnd ∷ [] → xs.items ≡ (slots cs).items → ys.items ≡ (slots ds).items
    → bare f ≡ bare a ++ instr.Par (slots cs) 0 (slots ds) 0 ∷ instr.ParEnd ∷ []
bare_par a c f xs ys cs ds e g h k =
    let both : f ≡ a ++ instr.Par xs 0 ys 0 ∷ instr.ParEnd ∷ [] = g ∙ ap (λ is. is ++ instr.ParEnd ∷ []) e ∙ append_assoc a (instr.Par xs 0 ys 0 ∷ []) (instr.ParEnd ∷ []) in
    ap bare both ∙ bare_join a (instr.Par xs 0 ys 0 ∷ instr.ParEnd ∷ []) ∙ ap₂ (λ (us vs : WithRoom (ℕ × Bool)). bare a ++ instr.Par us 0 vs 0 ∷ instr.ParEnd ∷ []) (full_is xs cs h) (full_is ys ds k)

-- two threads wait, one behind the other
pub both_wait : (bs cs ds : List Waiting) (v w : Waiting) → cs ≡ bs ++ v ∷ [] → ds ≡ cs ++ w ∷ [] → ds ≡ bs ++ v ∷ w ∷ []
both_wait bs cs ds v w e g = g ∙ ap (λ ws. ws ++ w ∷ []) e ∙ append_assoc bs (v ∷ []) (w ∷ [])
