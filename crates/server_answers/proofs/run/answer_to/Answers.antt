use Rattle.source_front.specs.Below.fr_syntax.Meanings.{term_of}
use Rattle.server_answers.specs.Answers.{Tells}
use Rattle.server_answers.proofs.Telling.{all_refused, all_told}
use Rattle.server_answers.proofs.run.answer_to.Goals as goal

pub returns-in-Err-clause-answers : goal.returns-in-Err-clause-answers
returns-in-Err-clause-answers g c = all_refused (Tells c.args.telling) c.args.bytes.now c.args.options.now c.in-Err.refused c.refused_answer.result c.in-Err.ensures.refused c.refused_answer.ensures

pub returns-clause-answers : goal.returns-clause-answers
returns-clause-answers g c =
    all_told (Tells c.args.telling) c.args.bytes.now c.args.options.now (term_of c.in-Ok.checked.arena) c.in_ok-ran.ran c.told.result c.in-Ok.ensures.typed c.in_ok-ran.ensures.run c.told.ensures.ran c.told.ensures.status c.told.ensures.text
