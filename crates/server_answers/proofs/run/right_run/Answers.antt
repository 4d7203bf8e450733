use Rattle.source_front.specs.Below.fr_syntax.Meanings.{term_of}
use Rattle.server_answers.proofs.Right.{all_right, is_run}
use Rattle.server_answers.proofs.run.right_run.Goals as goal

pub returns-clause-right : goal.returns-clause-right
returns-clause-right g c =
    let o = c.args.options.now in
    let runs = is_run c.in_ok-checked.checked.value c.args.checked o c.run_rounds.result c.in_ok-checked.ensures.ok c.run_rounds.ensures.run c.run_rounds.ensures.ending in
    λ bytes typed. all_right c.runs_in_rounds_are_right.ensures c.runs_in_rounds_come_to_an_end.ensures c.programs_have_blocks.ensures bytes (term_of c.args.checked.arena) o c.run_rounds.result typed runs c.requires.within
