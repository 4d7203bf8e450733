-- What the calls of the compiler come to.
use Rattle.std.proofs.Common.{◌≡◌, ℕ, zero, suc, ◌+◌, ◌<◌, List, [], ◌∷◌, ◌++◌, length, drop, Result, Ok, Err, IfOk, OnOk, refl, sym, ap, ◌∙◌, subst, arith, get_or}
use Rattle.fr_base.specs.declared.instruction.Operand.{Operand}
use Rattle.fr_base.specs.declared.instruction.Operand.TheVariants as operand
use Rattle.fr_base.specs.declared.instruction.Instr.{Instr}
use Rattle.fr_plain.specs.Run.{Run}
use Rattle.fr_forms.specs.declared.forms.Form.{Form}
use Rattle.fr_forms.specs.FormTerms.{parts_from, parts_of, term_of}
use Rattle.fr_syntax.specs.Meanings.{AllBelow}
use Rattle.fr_forms.proofs.FormLemmas.{at_drop}
use Rattle.fr_code.specs.StandsFor.{operand_of, operand_of_last}
use Rattle.law_plain_table.specs.CodeOf.{Piece, given_up, pieces, pieces_in}
use Rattle.fr_compile.specs.declared.waiting.Waiting.{Waiting}
use Rattle.fr_compile.specs.Emitting.{IsAdded, IsEmitted, ArePartsEmitted, IsDiscarded}
use Rattle.fr_compile.proofs.Rows.{none_added, then_added, discard_added}

-- what follows from what a call ensures
pub on_ok : {T E : Type 0} (r : Result T E) (P Q : Type 0) → OnOk r P → (P → Q) → OnOk r Q
on_ok (Ok v) P Q h f = f h
on_ok (Err x) P Q h f = tt

pub on_both : {T E : Type 0} (r : Result T E) (P Q : Type 0) → OnOk r P → OnOk r Q → OnOk r (P × Q)
on_both (Ok v) P Q h g = (h, g)
on_both (Err x) P Q h g = tt

-- an operand that is known, once the instruction was added
pub on_added : {E : Type 0} (r : Result Operand E) (o : Operand) (P : Type 0) (Q : Operand → Type 0) → OnOk r P → IfOk r (λ v. v ≡ o) → (P → Q o) → IfOk r Q
on_added (Ok v) o P Q h e f = subst Q (sym e) (f h)
on_added (Err x) o P Q h e f = tt

-- ITEMS

-- the pieces of the items that are left, behind an item whose value is found there
abbrev items_left : (ℕ → Run) → Operand → List ℕ → List Piece
items_left look o [] = []
items_left look o (i ∷ is) = given_up o ++ (pieces (look i) ++ items_left look (operand_of (look i)) is)

-- where the last one's value is found
abbrev last_left : (ℕ → Run) → Operand → List ℕ → Operand
last_left look o [] = o
last_left look o (i ∷ is) = last_left look (operand_of (look i)) is

-- whatever comes of the items that are left comes of all
pub record Leads (fs : List Form) (is : List ℕ) (a : List Instr) (bs : List Waiting) (rest : List ℕ) (c : List Instr) (cs : List Waiting) (o : Operand) : Type 0 where
  pub value : last_left (term_of fs) o rest ≡ operand_of_last (parts_of (term_of fs) is)
  pub on : (f : List Instr) (ds : List Waiting) → IsAdded fs c f cs ds (items_left (term_of fs) o rest) → IsAdded fs a f bs ds (pieces_in (parts_of (term_of fs) is))

last_from : (look : ℕ → Run) (i : ℕ) (is : List ℕ) → last_left look (operand_of (look i)) is ≡ operand_of_last (parts_from look i is)
last_from look i [] = refl
last_from look i (j ∷ is) = last_from look j is

items_from : (look : ℕ → Run) (i : ℕ) (is : List ℕ) → pieces (look i) ++ items_left look (operand_of (look i)) is ≡ pieces_in (parts_from look i is)
items_from look i [] = none (pieces (look i))
  where
    none : (ps : List Piece) → ps ++ [] ≡ ps
    none [] = refl
    none (x ∷ ps) = ap (λ qs. x ∷ qs) (none ps)
items_from look i (j ∷ is) = ap (λ ps. pieces (look i) ++ (given_up (operand_of (look i)) ++ ps)) (items_from look j is)

-- before the first item
pub leads_first : (fs : List Form) (is : List ℕ) (a : List Instr) (bs : List Waiting) → Leads fs is a bs is a bs operand.Unit
leads_first fs [] a bs = record { value = refl; on = λ f ds h. h }
leads_first fs (i ∷ is) a bs = record { value = last_from (term_of fs) i is; on = λ f ds h. subst (IsAdded fs a f bs ds) (items_from (term_of fs) i is) h }

-- one item more
pub leads_on : (fs : List Form) (is : List ℕ) (a c d e : List Instr) (bs cs es : List Waiting) (o v : Operand) (k : ℕ) → k < length is → Leads fs is a bs (drop k is) c cs o → IsDiscarded c o d → IsEmitted fs d e cs es v (term_of fs (get_or is k 0))
    → Leads fs is a bs (drop (k + 1) is) e es v
leads_on fs is a c d e bs cs es o v k lt w dis em =
    let i = get_or is k 0 in
    let look = term_of fs in
    let rest = drop (k + 1) is in
    let here = at_drop is k 0 lt in
    record {
      value = ap (λ x. last_left look x rest) em.0 ∙ ap (last_left look o) (sym here) ∙ w.value;
      on = λ f ds h.
          w.on f ds (subst (λ js. IsAdded fs c f cs ds (items_left look o js)) (sym here)
          (then_added fs c d f cs cs ds (given_up o) (pieces (look i) ++ items_left look (operand_of (look i)) rest) (discard_added fs c d cs o dis)
          (then_added fs d e f cs es ds (pieces (look i)) (items_left look (operand_of (look i)) rest) em.1 (subst (λ x. IsAdded fs e f es ds (items_left look x rest)) em.0 h))));
    }

-- no item is left
pub leads_all : (fs : List Form) (is : List ℕ) (a c : List Instr) (bs cs : List Waiting) (o : Operand) → Leads fs is a bs [] c cs o → ArePartsEmitted fs a c bs cs o (parts_of (term_of fs) is)
leads_all fs is a c bs cs o w = (w.value, w.on c cs (none_added fs c cs))

-- an item of a block is below
pub item_lower : (n : ℕ) (is : List ℕ) (k d : ℕ) → k < length is → AllBelow n is → get_or is k d < n
item_lower n [] k d lt h = absurd (omega arith)
item_lower n (i ∷ is) zero d lt h = h.0
item_lower n (i ∷ is) (suc k) d lt h = item_lower n is k d (omega arith) h.1
