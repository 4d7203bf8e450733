use Rattle.drust_cli.proofs.Parsers.{one_more}
use Rattle.drust_cli.proofs.parser.parser.Goals as goal

pub loop-name-preserved : goal.loop-name-preserved
loop-name-preserved c = one_more _ c.args.names.now c.loop-name.name-index _ _ _ c.loop-name-test.true c.loop-name.invariant c.in_ok-parser.ensures.app
