use Rattle.std.proofs.Common.{rules}
use Rattle.colour_retire.proofs.FreeLists.{free_pushed}
use Rattle.colour_retire.proofs.colours.Colours.free.Goals as goal

pub invariant_of-self : goal.invariant_of-self
invariant_of-self c =
    free_pushed _ _ c.args.word _ c.push_reserved.ensures.items c.in-Some.ensures.spot c.in-Some.ensures.colour (search rules) c.self.invariant
