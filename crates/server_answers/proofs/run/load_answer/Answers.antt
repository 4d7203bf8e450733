use Rattle.std.proofs.Common.{◌≡◌, ◌≤◌, List, ℕ, IfOk, length, string_bytes, sym, ◌∙◌, subst}
use Rattle.gen_load.specs.Programs.{program_text}
use Rattle.source_front.specs.Typed.{limit}
use Rattle.server_answers.specs.Answers.{Answers, IsSummaryOf}
use Rattle.server_answers.proofs.run.load_answer.Goals as goal

pub answer_to-requires-clause-size : goal.answer_to-requires-clause-size
answer_to-requires-clause-size g c κs within =
    let law = c.programs_are_sources.ensures.sources c.args.number c.args.size c.requires.least c.requires.most in
    let bytes : c.as_bytes.result.now ≡ program_text c.args.number c.args.size = ◌∙◌ {c = program_text c.args.number c.args.size} c.as_bytes.ensures.value c.in_ok-source.ensures in
    subst (λ (bs : List ℕ). length bs ≤ limit) (sym bytes) law.short

pub returns-clause-answers : goal.returns-clause-answers
returns-clause-answers g c =
    let bytes : c.as_bytes.result.now ≡ program_text c.args.number c.args.size = ◌∙◌ {c = program_text c.args.number c.args.size} c.as_bytes.ensures.value c.in_ok-source.ensures in
    subst (λ (bs : List ℕ). IfOk c.answer_to.result (λ a. Answers IsSummaryOf bs c.args.options.now a.ran a.status (string_bytes a.text))) bytes c.answer_to.ensures.answers
