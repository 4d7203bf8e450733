use Rattle.std.proofs.Common.{rules, sym, ◌∙◌}
use Rattle.drust_cli.proofs.Digits.{refused}
use Rattle.drust_cli.proofs.words.number.Goals as goal

pub returns-in-Err : goal.returns-in-Err
returns-in-Err c = refused c.args.text.now c.args.low c.args.high c.parse.result c.in-Err.field-0 c.in-Err.is c.parse.ensures.value.0 (sym c.if-not-is_number.false ∙ c.is_number.ensures) (search rules)
