use Rattle.fr_grammar.proofs.ReadableLemmas.{readable_part}
use Rattle.fr_grammar.proofs.leaves.spot.Goals as goal

pub add-requires-clause-names : goal.add-requires-clause-names
add-requires-clause-names c = ((c.in_ok-name.ensures.readable _ (readable_part _ _ c.stars_of-stars.result c.args.tokens.now c.requires.readable)).0, tt)

pub returns-clause-readable : goal.returns-clause-readable
returns-clause-readable c = (c.in_ok-name.ensures.readable _ (readable_part _ _ c.stars_of-stars.result c.args.tokens.now c.requires.readable)).1
