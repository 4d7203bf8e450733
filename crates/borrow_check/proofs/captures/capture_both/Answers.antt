use Rattle.std.proofs.Common.{◌∙◌}
use Rattle.fr_typing.specs.Captures.{by_par}
use Rattle.fr_syntax.specs.Meanings.{meanings, captures_at, capture_s, all_need, nodes_in}
use Rattle.fr_types.specs.States.{env_of}
use Rattle.borrow_check.specs.Usages.{capture_usages}
use Rattle.borrow_check.proofs.UsageLemmas.{written_long}
use Rattle.borrow_check.proofs.captures.capture_both.Goals as goal

pub capture_all-requires-2-clause-usages : goal.capture_all-requires-2-clause-usages
capture_all-requires-2-clause-usages c =
    let names = c.args.tree.now.names in
    let ms = meanings c.args.tree.now in
    written_long c.args.checker.now.usages.items c.capture_all.new.checker.usages.items (nodes_in ms (all_need capture_s c.args.first.now.items)) (capture_usages by_par (env_of names c.args.env.now) (env_of names c.take-ours.result) (captures_at ms c.args.first.now.items)) c.in_ok-capture_all.ensures.usages
    ∙ c.requires.usages
