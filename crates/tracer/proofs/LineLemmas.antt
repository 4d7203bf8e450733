-- An order's text has as many newlines as lines.
use Rattle.std.proofs.Common.{◌≡◌, ℕ, ◌+◌, ◌==◌, not, true, List, [], ◌∷◌, ◌++◌, length, refl, ap, ◌∙◌, arith, codes}
use Rattle.std.specs.List.{flat_map, AllByRecursion}
use Rattle.std.proofs.lemmas.Bool.{and_parts, not-true}
use Rattle.std.proofs.lemmas.List.{append-nil}
use Rattle.std.proofs.lemmas.List.Concat.{flat_map-cons}
use Rattle.fr_base.specs.Lists.{one}
use Rattle.fr_base.specs.declared.step.Ending.{Ending}
use Rattle.fr_base.specs.declared.step.Fresh.{Fresh}
use Rattle.fr_base.specs.declared.step.Wait.{Wait}
use Rattle.journal.specs.declared.order.OrderLine.{OrderLine}
use Rattle.journal.specs.Journals.{order}
use Rattle.journal.specs.OrderText.{thread_text, steps_text, spell, IsLine}
use Rattle.journal.specs.View.{EntryView}
use Rattle.journal.specs.WrittenOrder.{IsOrderText}
use Rattle.journal.proofs.WholeLines.{has_none, none_in_line}
use Rattle.coloured_heap.proofs.Counted.{tot_append}
use Rattle.tracer.specs.Counting.{newlines}
use Rattle.tracer.specs.ReportText.{IsReport, report}

-- two texts have as many as both together
in_both : (a b : List ℕ) → newlines (a ++ b) ≡ newlines a + newlines b
in_both a b = tot_append (λ (c : ℕ). one (c == 10)) a b

-- a text without newlines has none
none_counted : (t : List ℕ) → has_none t ≡ true → newlines t ≡ 0
none_counted [] none = refl
none_counted (b ∷ t) none =
    let p = and_parts (not (b == 10)) (has_none t) none in
    rw (not-true (b == 10) p.0) (omega (arith, none_counted t p.1))

-- a line's text has one
one_in_line : (l : OrderLine) → IsLine l → newlines (spell l) ≡ 1
one_in_line l is =
    let body = thread_text l.thread ++ codes " " ++ steps_text l.steps l.fresh in
    in_both body (codes "\n") ∙ ap (λ (n : ℕ). n + 1) (none_counted body (none_in_line l is))

one_in_each : (ls : List OrderLine) → AllByRecursion IsLine ls → newlines (flat_map spell ls) ≡ length ls
one_in_each [] all = refl
one_in_each (l ∷ ls) all = ap newlines (flat_map-cons spell l ls) ∙ omega (arith, in_both (spell l) (flat_map spell ls), one_in_line l all.0, one_in_each ls all.1)

-- the text that is written for some steps has one for each of its lines
order_lines : (steps : List (ℕ × Fresh)) (bytes : List ℕ) (written : IsOrderText steps bytes) → newlines bytes ≡ length written.lines
order_lines steps bytes written = ap newlines (written.text.text ∙ append-nil (flat_map spell written.lines)) ∙ one_in_each written.lines written.text.lines

-- a text around an order's text that counts its newlines is a report
pub is_report : (e : Ending) (es : List EntryView) (ws : List (ℕ × Wait)) (written bytes : List ℕ) → IsOrderText (order es) written → bytes ≡ report e es ws (newlines written) written → IsReport e es ws bytes
is_report e es ws written bytes spells text = record { written = written; spells = spells; text = text ∙ ap (λ (n : ℕ). report e es ws n written) (order_lines (order es) written spells) }
