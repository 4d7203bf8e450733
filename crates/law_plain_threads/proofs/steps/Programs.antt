-- Typed programs: their code has a table, so what holds of typed code holds of their terms.
use Rattle.std.proofs.Common.{◌≡◌, ◌∙◌, List, [], ◌∷◌, ◌++◌, Option, Some, None, refl, sym, subst}
use Rattle.std.specs.Prelude.{IsSome}
use Rattle.fr_base.specs.declared.label.Label.{Label}
use Rattle.fr_base.specs.declared.instruction.Instr.{Instr}
use Rattle.fr_terms.specs.Terms.{block_t}
use Rattle.fr_plain.specs.LockRuns.{counted}
use Rattle.fr_plain.specs.PairRuns.{twice_shared}
use Rattle.fr_plain.specs.Machine.{Refusal}
use Rattle.fr_plain.specs.Run.{Run, terms}
use Rattle.fr_plain.specs.Whole.{Whole, Stepped, Turn, step, refused, start, run, go_on, then_labels}
use Rattle.fr_plain.specs.Resolve.{program}
use Rattle.fr_plain.proofs.RefusedSteps.{none_refused}
use Rattle.fr_code.specs.CodeTypes.{Table}
use Rattle.fr_code.specs.CodeTable.{IsTable}
use Rattle.fr_code.specs.Steps.{Place, code_moves}
use Rattle.fr_code.specs.Machine.{code_start}
use Rattle.fr_code.specs.Laws.{SameSteps}
use Rattle.fr_code.specs.StandsFor.{IsCodeOf}
use Rattle.fr_code.specs.Examples.{counted_code, shared_code}
use Rattle.fr_code.proofs.Wholes.{steps_alike, refusals_alike, starts_alike}
use Rattle.fr_code.proofs.Codes.{codes_compute_lem}
use Rattle.law_plain_table.specs.CodeOf.{code_of}
use Rattle.law_plain_table.proofs.Examples.{examples_have_tables}
use Rattle.law_plain_table.proofs.Programs.{programs_have_codes, codes_have_tables}
use Rattle.law_plain_threads.specs.steps.Machines.{StepsOn}
use Rattle.law_plain_threads.specs.steps.Steps.{RunsUnstuck, ProgramsNeverStuck, ExamplesNeverStuck}
use Rattle.law_plain_threads.specs.steps.TypedTerms.{AreTypedTerms, TermsStepOn, ProgramsStartTyped, TypedTermsStepOn, TypedTermsStayTyped, TypedTermsUnstuck, RunsStayTyped}
use Rattle.law_plain_threads.proofs.steps.CodeSteps.{steps_on, goes_or_waits}
use Rattle.law_plain_threads.proofs.steps.Starts.{starts_typed}

-- what stands for a typed state of the code steps where nothing refuses that, and is typed again
pub typed_terms_step_on : TypedTermsStepOn
typed_terms_step_on s h t names free =
    let d = steps_on h.code h.table h.is h.typing h.state h.typed t names (sym (refusals_alike h.code s h.state h.stands t names) ∙ free) in
    by d (step s t names) refl (subst (SameSteps h.code (step s t names)) d.is (steps_alike h.code s h.state h.stands t names))
  where
    by : (d : StepsOn (λ (p : Place). h.table p.pc) (λ (p : Place). p.temps) (code_moves h.code) h.typing h.state t names) (o : Option Stepped) → step s t names ≡ o → SameSteps h.code o (Some d.next) → TermsStepOn s t names
    by d None e same = absurd same
    by d (Some x) e same = record { next = x; is = e; typed = record { code = h.code; table = h.table; is = h.is; state = d.next.state; stands = same.1; typing = d.typing; typed = d.typed } }

pub typed_terms_stay_typed : TypedTermsStayTyped
typed_terms_stay_typed s h t names x e = by (refused s t names) refl
  where
    by : (o : Option Refusal) → refused s t names ≡ o → AreTypedTerms x.state
    by None free = let d = typed_terms_step_on s h t names free in let same : d.next ≡ x = (let f : Some d.next ≡ Some x = sym d.is ∙ e in cc) in subst (λ (z : Stepped). AreTypedTerms z.state) same d.typed
    by (Some why) free = let f : None ≡ Some x = sym (none_refused terms s t names why free) ∙ e in absurd cc

pub typed_terms_unstuck : TypedTermsUnstuck
typed_terms_unstuck s h t x found = goes_or_waits terms s t x found (λ names free. let d = typed_terms_step_on s h t names free in subst IsSome (sym d.is) refl)

-- the start of what a code with a table stands for
code_starts : (code : List Instr) (r : Run) → IsCodeOf code r → (table : Table) → IsTable code table → AreTypedTerms (start r)
code_starts code r is table h = let d = starts_typed code table h in record { code = code; table = table; is = h; state = code_start; stands = starts_alike code r is; typing = d.0; typed = d.1 }

labelled : (ls : List Label) (o : Option Stepped) (x : Stepped) → then_labels ls o ≡ Some x → ((b : Stepped) → o ≡ Some b → AreTypedTerms b.state) → AreTypedTerms x.state
labelled ls None x e go = absurd cc
labelled ls (Some b) x e go =
    let f : record { state = b.state; labels = ls ++ b.labels } ≡ x = cc in
    subst (λ (z : Stepped). AreTypedTerms z.state) f (go b refl)

run_typed : (order : List Turn) (s : Whole) → AreTypedTerms s → (x : Stepped) → run s order ≡ Some x → AreTypedTerms x.state
run_typed [] s h x e = let f : record { state = s; labels = [] } ≡ x = cc in subst (λ (z : Stepped). AreTypedTerms z.state) f h
run_typed (t ∷ ts) s h x e = by (step s t.0 t.1) refl e (λ d k b q. run_typed ts d k b q)
  where
    by : (o : Option Stepped) → step s t.0 t.1 ≡ o → go_on o (λ d. run d ts) ≡ Some x → ((d : Whole) → AreTypedTerms d → (b : Stepped) → run d ts ≡ Some b → AreTypedTerms b.state) → AreTypedTerms x.state
    by None i q go = absurd cc
    by (Some d) i q go = labelled d.labels (run d.state ts) x q (λ b k. go d.state (typed_terms_stay_typed s h t.0 t.1 d i) b k)

unstuck : (r : Run) → AreTypedTerms (start r) → RunsUnstuck r
unstuck r h order s e t x found = typed_terms_unstuck s.state (run_typed order (start r) h s e) t x found

-- each typed program has its code
pub programs_start_typed : ProgramsStartTyped
programs_start_typed at items k e short types =
    let has = codes_have_tables at items k e short types in
    code_starts (code_of (program (block_t at items))) (program (block_t at items)) (programs_have_codes (block_t at items)).is has.table has.is

pub runs_stay_typed : RunsStayTyped
runs_stay_typed at items k e short types order x is = run_typed order (start (program (block_t at items))) (programs_start_typed at items k e short types) x is

pub programs_never_stuck : ProgramsNeverStuck
programs_never_stuck at items k e short types = unstuck (program (block_t at items)) (programs_start_typed at items k e short types)

pub examples_never_stuck : ExamplesNeverStuck
examples_never_stuck = record {
  counted = let has = examples_have_tables.counted.1 in unstuck (program counted) (code_starts counted_code (program counted) codes_compute_lem.counted has.table has.is);
  shared = let has = examples_have_tables.shared.1 in unstuck (program twice_shared) (code_starts shared_code (program twice_shared) codes_compute_lem.twice_shared has.table has.is);
}
