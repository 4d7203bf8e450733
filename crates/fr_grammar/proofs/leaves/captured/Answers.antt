use Rattle.std.proofs.Common.{◌≡◌, suc, ◌+◌, ◌-◌, length, arith, [], ◌∷◌, length-append}
use Rattle.std.proofs.lemmas.Result.{err_from_is_err_and}
use Rattle.fr_grammar.proofs.GrowthLemmas.{grown_push}
use Rattle.fr_grammar.proofs.CaptureFront.{capture_refused, capture_goes_on, capture_closes}
use Rattle.fr_grammar.proofs.leaves.captured.Goals as goal

pub returns-in_err-node-clause-value : goal.returns-in_err-node-clause-value
returns-in_err-node-clause-value c =
    let p = err_from_is_err_and c.from_residual.result c.from_residual.ensures.1 in
    rw (p.1, p.2) (capture_refused _ _ _ _ _ _ c.each.invariant.front c.each.invariant.nodes _ c.in_err-node.ensures.value)

pub returns-then-not-more-clause-value : goal.returns-then-not-more-clause-value
returns-then-not-more-clause-value c =
    capture_closes _ _ _ _ _ _ c.each.invariant.front c.each.invariant.nodes _ _ _ _ _ c.in_ok-node.ensures.value c.in_ok-node.ensures.node c.in_ok-push.ensures.pushed c.if-not-more.true

pub returns-then-not-more-clause-nodes : goal.returns-then-not-more-clause-nodes
returns-then-not-more-clause-nodes c = grown_push _ _ _ _ _ _ _ c.each.invariant.nodes c.in_ok-node.ensures.node c.in_ok-push.ensures.pushed

pub each-preserved : goal.each-preserved
each-preserved c =
    let len : length c.push.new.self.items ≡ length c.each.captures.items + 1 = rw c.in_ok-push.ensures.pushed (length-append c.each.captures.items (c.in_ok-node.node ∷ [])) in
    let fuel : suc (length c.args.tokens.now - length c.push.new.self.items) ≡ length c.args.tokens.now - length c.each.captures.items = omega (arith, len, c.in_ok-node.ensures.fewer, c.each.invariant.fuel) in
    record {
      front = capture_goes_on _ _ _ _ _ _ c.each.invariant.front c.each.invariant.nodes _ _ _ _ _ c.in_ok-node.ensures.value c.in_ok-node.ensures.node c.in_ok-push.ensures.pushed _ c.if-not-more.false fuel;
      fuel = omega (arith, len, c.in_ok-node.ensures.fewer, c.each.invariant.fuel);
      nodes = grown_push _ _ _ _ _ _ _ c.each.invariant.nodes c.in_ok-node.ensures.node c.in_ok-push.ensures.pushed;
      room = omega (arith, c.in_ok-node.ensures.room, c.each.invariant.room);
      readable = rw (← c.each.invariant.nodes.names) c.in_ok-node.ensures.readable;
    }
